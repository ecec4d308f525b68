-- What loops push.
use Rattle.std.proofs.Common.{◌≡◌, ℕ, ◌+◌, ◌<◌, ◌≤◌, ◌++◌, List, [], ◌∷◌, length, get_or, take, drop, map, Result, Ok, Err, refl, ◌∙◌, ap, sym, subst, append_assoc, append-nil, if◌then◌else◌, arith}
use Rattle.std.specs.List.{flat_map, list_all}
use Rattle.std.proofs.lemmas.List.{take_more, take_all, take-append-drop, map-append}
use Rattle.std.proofs.lemmas.Grind.{flat_map-append}
use Rattle.std.proofs.lemmas.List.Concat.{flat_map-cons}
use Rattle.tl_model.specs.Devices.{RegexpsSeen}
use Rattle.tl_pattern.specs.declared.pattern.PlacedPattern.{PlacedPattern}
use Rattle.tl_auto.specs.declared.error.AutoError.{AutoError}
use Rattle.tl_auto.specs.Variables.{Setting}
use Rattle.tl_srctext.specs.declared.pattern.SourcePattern.{SourcePattern}
use Rattle.tl_auto.specs.declared.section.Section.{Section}
use Rattle.tl_auto.specs.Wanted.{Wanted, automatic_of, own_patterns, wanted_of, wanted_in}
use Rattle.tl_auto.specs.Pushing.{Pushes}
use Rattle.tl_auto.proofs.JudgeLemmas.{pushes_on, pushes_cut}

-- the patterns that are wanted were pushed so far
abbrev pub Pushed : Setting → List Wanted → List PlacedPattern → List PlacedPattern → RegexpsSeen → RegexpsSeen → Type 0
Pushed s ws before now old new = Pushes {T = Unit {0}} s ws before now old new (Ok tt)

take_one : {X : Type 0} (xs : List X) (i : ℕ) (x : X) → i < length xs → x ≡ get_or xs i x → take (i + 1) xs ≡ take i xs ++ x ∷ []
take_one xs i x lt is = take_more xs i x lt ∙ ap (λ y. take i xs ++ y ∷ []) (sym is)

pub map_more_by : {X : Type 0} (f : X → Wanted) (xs : List X) (i : ℕ) (d : X) (w : Wanted) → i < length xs → w ≡ f (get_or xs i d)
    → map f (take (i + 1) xs) ≡ map f (take i xs) ++ w ∷ []
map_more_by f xs i d w lt is = ap (map f) (take_more xs i d lt) ∙ map-append f (take i xs) (get_or xs i d ∷ []) ∙ ap (λ y. map f (take i xs) ++ y ∷ []) (sym is)

pub map_split_by : {X : Type 0} (f : X → Wanted) (xs : List X) (i : ℕ) (d : X) (w : Wanted) → i < length xs → w ≡ f (get_or xs i d)
    → map f xs ≡ (map f (take i xs) ++ w ∷ []) ++ map f (drop (i + 1) xs)
map_split_by f xs i d w lt is = ap (map f) (sym (take-append-drop (i + 1) xs)) ∙ map-append f (take (i + 1) xs) (drop (i + 1) xs)
    ∙ ap (λ ys. ys ++ map f (drop (i + 1) xs)) (map_more_by f xs i d w lt is)

flat_one : {X : Type 0} (f : X → List Wanted) (x : X) → flat_map f (x ∷ []) ≡ f x
flat_one f x = flat_map-cons f x [] ∙ append-nil (f x)

pub flat_more : {X : Type 0} (f : X → List Wanted) (xs : List X) (i : ℕ) (x : X) → i < length xs → x ≡ get_or xs i x
    → flat_map f (take (i + 1) xs) ≡ flat_map f (take i xs) ++ f x
flat_more f xs i x lt is = ap (flat_map f) (take_one xs i x lt is) ∙ flat_map-append f (take i xs) (x ∷ [])
    ∙ ap (λ ys. flat_map f (take i xs) ++ ys) (flat_one f x)

pub flat_split : {X : Type 0} (f : X → List Wanted) (xs : List X) (i : ℕ) (x : X) → i < length xs → x ≡ get_or xs i x
    → flat_map f xs ≡ (flat_map f (take i xs) ++ f x) ++ flat_map f (drop (i + 1) xs)
flat_split f xs i x lt is = ap (flat_map f) (sym (take-append-drop (i + 1) xs)) ∙ flat_map-append f (take (i + 1) xs) (drop (i + 1) xs)
    ∙ ap (λ ys. ys ++ flat_map f (drop (i + 1) xs)) (flat_more f xs i x lt is)

pub flat_all : {X : Type 0} (f : X → List Wanted) (xs : List X) (i : ℕ) → length xs ≤ i → flat_map f (take i xs) ≡ flat_map f xs
flat_all f xs i le = ap (flat_map f) (take_all i xs le)

-- one step more
pub pushed_on : {T : Type 0} (s : Setting) (before add next : List Wanted) (front mid new : List PlacedPattern) (r0 r1 r2 : RegexpsSeen) (value : T)
    → next ≡ before ++ add → Pushed s before front mid r0 r1 → Pushes s add mid new r1 r2 (Ok value) → Pushed s next front new r0 r2
pushed_on s before add next front mid new r0 r1 r2 value is first behind =
    let step : Pushed s add mid new r1 r2 = record { answered = behind.answered; regexps = behind.regexps; size = tt } in
    subst (λ ws. Pushed s ws front new r0 r2) (sym is) (pushes_on s before add front mid new r0 r1 r2 tt (Ok tt) first step)

-- a fault at a step
pub pushed_cut : {T U : Type 0} (s : Setting) (before add rest all : List Wanted) (front mid new out : List PlacedPattern) (r0 r1 r2 : RegexpsSeen) (fault : AutoError)
    → all ≡ (before ++ add) ++ rest → Pushed s before front mid r0 r1 → Pushes {T = T} s add mid new r1 r2 (Err fault) → Pushes {T = U} s all front out r0 r2 (Err fault)
pushed_cut {T} {U} s before add rest all front mid new out r0 r1 r2 fault is first behind =
    let step : Pushes {T = T} s (before ++ add) front new r0 r2 (Err fault) = pushes_on s before add front mid new r0 r1 r2 tt (Err fault) first behind in
    subst (λ ws. Pushes {T = U} s ws front out r0 r2 (Err fault)) (sym is) (pushes_cut s (before ++ add) rest front new out r0 r2 fault step)

-- all steps
pub pushed_all : {T : Type 0} (s : Setting) (before all : List Wanted) (front new : List PlacedPattern) (r0 r1 : RegexpsSeen) (value : T)
    → before ≡ all → Pushed s before front new r0 r1 → Pushes s all front new r0 r1 (Ok value)
pushed_all s before all front new r0 r1 value is done =
    let same : Pushed s all front new r0 r1 = subst (λ ws. Pushed s ws front new r0 r1) is done in
    record { answered = same.answered; regexps = same.regexps; size = tt }

-- patterns behind none
pub from_none : {T : Type 0} (s : Setting) (ws : List Wanted) (front now : List PlacedPattern) (r0 r1 : RegexpsSeen) (answer : Result T AutoError) → front ≡ []
    → Pushes s ws front now r0 r1 answer → Pushes s ws [] now r0 r1 answer
from_none s ws front now r0 r1 answer is p = subst (λ (f : List PlacedPattern). Pushes s ws f now r0 r1 answer) is p

-- what a section wants, by its own patterns
abbrev pub wanted_with : Setting → Section → List SourcePattern → List Wanted
wanted_with s section own = (if list_all (λ (p : SourcePattern). p.adds) own then automatic_of section s.source.category else []) ++ flat_map (wanted_of s.platform) own

pub wanted_same : {T : Type 0} (s : Setting) (section : Section) (own : List SourcePattern) (front now : List PlacedPattern) (r0 r1 : RegexpsSeen) (answer : Result T AutoError)
    → own ≡ own_patterns s.source section → Pushes s (wanted_with s section own) front now r0 r1 answer → Pushes s (wanted_in s.source section s.platform) front now r0 r1 answer
wanted_same s section own front now r0 r1 answer is p = subst (λ (o : List SourcePattern). Pushes s (wanted_with s section o) front now r0 r1 answer) is p
