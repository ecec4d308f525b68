-- The steps of a plan, made part by part.
use Rattle.std.proofs.Common.{◌≡◌, ◌⊎◌, ◌<◌, ◌≤◌, ◌+◌, ℕ, suc, Bool, true, false, cond, ◌||◌, List, [], ◌∷◌, ◌++◌, length, take, drop, get_or, drop-cons, refl, sym, ap, subst, ◌∙◌, arith, inl, inr}
use Rattle.std.specs.Prelude.{nat_le, nat_lt, max}
use Rattle.std.specs.List.{list_any, flat_map, onto_first}
use Rattle.std.proofs.lemmas.Bool.{true≢false, lt-ltb}
use Rattle.std.proofs.lemmas.Bool.Decides.{nat_tests}
use Rattle.std.proofs.lemmas.List.{append_assoc, length-take-le, drop_all}
use Rattle.std.proofs.lemmas.List.Folds.{list_any-append}
use Rattle.std.proofs.Math.Seq.{take-suc}
use Rattle.tl_path.specs.Components.{is_touching}
use Rattle.tl_entry.specs.declared.object.Object.{Object}
use Rattle.tl_db.specs.declared.repo.Repo.{Repo}
use Rattle.tl_plan.specs.Plans.{is_any_touching}
use Rattle.tl_coming.specs.Cuts.{cuts_behind, plan_cuts}
use Rattle.tl_coming.specs.Parts.{files_with, paths_with}
use Rattle.tl_coming.specs.declared.part.PlanPart.{PlanPart}
use Rattle.tl_coming.proofs.LastLaws.{lt_max}

abbrev Texts : Type 0
Texts = List (List ℕ)

abbrev Plan : Type 0
Plan = List PlanPart

append_nil : {X : Type 0} (l : List X) → l ++ [] ≡ l
append_nil [] = refl
append_nil {X} (x ∷ l) = ap (λ (r : List X). x ∷ r) (append_nil l)

pub flat_more : {X Y : Type 0} (f : X → List Y) (xs : List X) (x : X) → flat_map f (xs ++ x ∷ []) ≡ flat_map f xs ++ f x
flat_more f [] x = append_nil (f x)
flat_more {X} {Y} f (y ∷ xs) x = ap (λ (l : List Y). f y ++ l) (flat_more f xs x) ∙ sym (append_assoc (f y) (flat_map f xs) (f x))

pub length_more : {X : Type 0} (xs : List X) (x : X) → length (xs ++ x ∷ []) ≡ length xs + 1
length_more [] x = refl
length_more (y ∷ xs) x = let e = length_more xs x in omega (arith, e)

drop_behind : (xs : Plan) (x : PlanPart) (ys : Plan) → drop (length xs + 1) (xs ++ x ∷ ys) ≡ ys
drop_behind [] x ys = refl
drop_behind (y ∷ xs) x ys = (let e : suc (length xs) + 1 ≡ suc (length xs + 1) = omega arith in ap (λ (n : ℕ). drop n (y ∷ (xs ++ x ∷ ys))) e) ∙ drop_behind xs x ys

drop_whole : (xs : Plan) → drop (length xs) (xs ++ []) ≡ []
drop_whole [] = refl
drop_whole (x ∷ xs) = drop_whole xs

pub le_is : (a b : ℕ) → nat_le a b ≡ true → a ≤ b
le_is a b is = grind (arith, nat_tests)

pub le_isnt : (a b : ℕ) → nat_le a b ≡ false → b < a
le_isnt a b is = grind (arith, nat_tests)

pub le_on : (a b : ℕ) → a ≤ b → nat_le a b ≡ true
le_on a b le = grind (arith, nat_tests)

pub le_off : (a b : ℕ) → b < a → nat_le a b ≡ false
le_off a b less = grind (arith, nat_tests)

lt_isnt : (a b : ℕ) → b ≤ a → nat_lt a b ≡ false
lt_isnt a b le = grind (arith, nat_tests)

-- some parts before the first of some steps
abbrev pub onto_all : Plan → List Plan → List Plan
onto_all [] steps = steps
onto_all (part ∷ parts) steps = onto_first part (onto_all parts steps)

onto_more : (parts : Plan) (part : PlanPart) (steps : List Plan) → onto_all (parts ++ part ∷ []) steps ≡ onto_all parts (onto_first part steps)
onto_more [] part steps = refl
onto_more (p ∷ parts) part steps = ap (onto_first p) (onto_more parts part steps)

onto_one : (parts : Plan) (part : PlanPart) (steps : List Plan) → onto_all parts ((part ∷ []) ∷ steps) ≡ (parts ++ part ∷ []) ∷ steps
onto_one [] part steps = refl
onto_one (p ∷ parts) part steps = ap (onto_first p) (onto_one parts part steps)

-- the greatest number of a part with a file that one of some paths touches
abbrev pub IsLastOf : List Object → Plan → Texts → ℕ → Type 0
IsLastOf db plan paths last = (least : ℕ) → nat_lt least last ≡ is_any_touching paths (flat_map (files_with db) (drop least plan))

-- some paths and more
pub touching-append : (some more others : Texts) → is_any_touching (some ++ more) others ≡ (is_any_touching some others || is_any_touching more others)
touching-append some more others = list_any-append (λ path. list_any (is_touching path) others) some more

or_nil : (t : Bool) → (t || false) ≡ t
or_nil true = refl
or_nil false = refl

-- one path more
pub touching_next : (paths : Texts) (at : ℕ) (path : List ℕ) (others : Texts) (last here greater least : ℕ) → at < length paths → path ≡ get_or paths at path
    → nat_lt least last ≡ is_any_touching (take at paths) others → nat_lt least here ≡ list_any (is_touching path) others → greater ≡ max last here
    → nat_lt least greater ≡ is_any_touching (take (at + 1) paths) others
touching_next paths at path others last here greater least less is so_far is_here greater_is =
    ap (nat_lt least) greater_is ∙ lt_max least last here ∙ ap (λ t. t || nat_lt least here) so_far ∙ ap (λ t. is_any_touching (take at paths) others || t) (is_here ∙ sym (or_nil _))
    ∙ sym (touching-append (take at paths) (path ∷ []) others)
    ∙ ap (λ (l : Texts). is_any_touching l others) (ap (λ (p : List ℕ). take at paths ++ p ∷ []) is ∙ sym (take-suc paths at path less) ∙ (let e : suc at ≡ at + 1 = omega arith in ap (λ (n : ℕ). take n paths) e))

-- the steps so far, and the parts of the next one
pub record IsCutSoFar (repos : List Repo) (db : List Object) (plan done rest : Plan) (steps : List Plan) (parts : Plan) (last : ℕ) : Type 0 where
  pub all : plan ≡ done ++ rest
  pub so_far : steps ++ onto_all parts (cuts_behind repos db (flat_map (paths_with repos) done) rest) ≡ plan_cuts repos db plan
  pub greatest : IsLastOf db plan (flat_map (paths_with repos) done) last
  pub begun : (parts ≡ []) ⊎ (length done < last)

pub none_last : (db : List Object) (plan : Plan) → IsLastOf db plan [] 0
none_last db plan least = grind (arith, nat_tests)

pub cut_start : (repos : List Repo) (db : List Object) (plan : Plan) → IsCutSoFar repos db plan [] plan [] [] 0
cut_start repos db plan = record { all = refl; so_far = refl; greatest = none_last db plan; begun = inl refl }

module _ (repos : List Repo) (db : List Object) (plan done : Plan) (part : PlanPart) (rest : Plan) (steps : List Plan) (parts : Plan) (last next greater : ℕ)
    (so_far : IsCutSoFar repos db plan done (part ∷ rest) steps parts last) (is_next : IsLastOf db plan (paths_with repos part) next) (is : greater ≡ max last next) where
  more : plan ≡ (done ++ part ∷ []) ++ rest
  more = so_far.all ∙ sym (append_assoc done (part ∷ []) rest)

  here : flat_map (paths_with repos) (done ++ part ∷ []) ≡ flat_map (paths_with repos) done ++ paths_with repos part
  here = flat_more (paths_with repos) done part

  greatest_next : IsLastOf db plan (flat_map (paths_with repos) (done ++ part ∷ [])) greater
  greatest_next least =
      ap (nat_lt least) is ∙ lt_max least last next ∙ ap (λ t. t || nat_lt least next) (so_far.greatest least)
      ∙ ap (λ t. is_any_touching (flat_map (paths_with repos) done) (flat_map (files_with db) (drop least plan)) || t) (is_next least)
      ∙ sym (touching-append (flat_map (paths_with repos) done) (paths_with repos part) (flat_map (files_with db) (drop least plan)))
      ∙ ap (λ (paths : Texts). is_any_touching paths (flat_map (files_with db) (drop least plan))) (sym here)

  touches : nat_lt (length done + 1) greater ≡ is_any_touching (flat_map (paths_with repos) done ++ paths_with repos part) (flat_map (files_with db) rest)
  touches =
      greatest_next (length done + 1)
      ∙ ap (λ (paths : Texts). is_any_touching paths (flat_map (files_with db) (drop (length done + 1) plan))) here
      ∙ ap (λ (p : Plan). is_any_touching (flat_map (paths_with repos) done ++ paths_with repos part) (flat_map (files_with db) p)) (ap (drop (length done + 1)) so_far.all ∙ drop_behind done part rest)

  abbrev ahead : List Plan
  ahead = cuts_behind repos db (flat_map (paths_with repos) done ++ paths_with repos part) rest

  behind : (t : Bool) → is_any_touching (flat_map (paths_with repos) done ++ paths_with repos part) (flat_map (files_with db) rest) ≡ t
      → cuts_behind repos db (flat_map (paths_with repos) done) (part ∷ rest) ≡ cond t (onto_first part ahead) ((part ∷ []) ∷ ahead)
  behind t found = ap (λ (b : Bool). cond b (onto_first part ahead) ((part ∷ []) ∷ ahead)) found

  -- a step ends
  pub cut_here : (made : List Plan) → greater ≤ length done + 1 → made ≡ steps ++ (parts ++ part ∷ []) ∷ [] → IsCutSoFar repos db plan (done ++ part ∷ []) rest made [] greater
  cut_here made few made_is =
      let none : nat_lt (length done + 1) greater ≡ false = lt_isnt (length done + 1) greater few in
      let found : cuts_behind repos db (flat_map (paths_with repos) done) (part ∷ rest) ≡ (part ∷ []) ∷ ahead = behind false (sym touches ∙ none) in record {
        all = more;
        so_far =
            ap (λ (l : List Plan). l ++ cuts_behind repos db (flat_map (paths_with repos) (done ++ part ∷ [])) rest) made_is
            ∙ append_assoc steps ((parts ++ part ∷ []) ∷ []) (cuts_behind repos db (flat_map (paths_with repos) (done ++ part ∷ [])) rest)
            ∙ ap (λ (paths : Texts). steps ++ (parts ++ part ∷ []) ∷ cuts_behind repos db paths rest) here
            ∙ ap (λ (l : List Plan). steps ++ l) (sym (onto_one parts part ahead) ∙ ap (onto_all parts) (sym found)) ∙ so_far.so_far;
        greatest = greatest_next;
        begun = inl refl;
      }

  -- none does
  pub cut_later : (longer : Plan) → length done + 1 < greater → longer ≡ parts ++ part ∷ [] → IsCutSoFar repos db plan (done ++ part ∷ []) rest steps longer greater
  cut_later longer less longer_is =
      let some : nat_lt (length done + 1) greater ≡ true = lt-ltb (length done + 1) greater less in
      let found : cuts_behind repos db (flat_map (paths_with repos) done) (part ∷ rest) ≡ onto_first part ahead = behind true (sym touches ∙ some) in record {
        all = more;
        so_far =
            ap (λ (l : Plan). steps ++ onto_all l (cuts_behind repos db (flat_map (paths_with repos) (done ++ part ∷ [])) rest)) longer_is
            ∙ ap (λ (paths : Texts). steps ++ onto_all (parts ++ part ∷ []) (cuts_behind repos db paths rest)) here
            ∙ ap (λ (l : List Plan). steps ++ l) (onto_more parts part ahead ∙ ap (onto_all parts) (sym found)) ∙ so_far.so_far;
        greatest = greatest_next;
        begun = inr (let n = length_more done part in omega (arith, n, less));
      }

-- one part more of a plan that is looked at place by place
pub cut_next : (repos : List Repo) (db : List Object) (plan : Plan) (place : ℕ) (part : PlanPart) (steps made : List Plan) (parts longer : Plan) (last next greater : ℕ)
    → place < length plan → part ≡ get_or plan place part → IsLastOf db plan (paths_with repos part) next → greater ≡ max last next
    → made ≡ cond (nat_le greater (place + 1)) (steps ++ (parts ++ part ∷ []) ∷ []) steps → longer ≡ cond (nat_le greater (place + 1)) [] (parts ++ part ∷ [])
    → IsCutSoFar repos db plan (take place plan) (drop place plan) steps parts last → IsCutSoFar repos db plan (take (place + 1) plan) (drop (place + 1) plan) made longer greater
cut_next repos db plan place part steps made parts longer last next greater less part_is is_next greater_is made_is longer_is so_far =
    let one : suc place ≡ place + 1 = omega arith in
    let here : drop place plan ≡ part ∷ drop (place + 1) plan =
    drop-cons plan place part less ∙ ap (λ (n : ℕ). get_or plan place part ∷ drop n plan) one ∙ ap (λ (p : PlanPart). p ∷ drop (place + 1) plan) (sym part_is) in
    let done : take place plan ++ part ∷ [] ≡ take (place + 1) plan =
    ap (λ (p : PlanPart). take place plan ++ p ∷ []) part_is ∙ sym (take-suc plan place part less) ∙ ap (λ (n : ℕ). take n plan) one in
    let size : length (take place plan) ≡ place = length-take-le place plan (omega (arith, less)) in
    let start : IsCutSoFar repos db plan (take place plan) (part ∷ drop (place + 1) plan) steps parts last =
    subst (λ (l : Plan). IsCutSoFar repos db plan (take place plan) l steps parts last) here so_far in
    subst (λ (l : Plan). IsCutSoFar repos db plan l (drop (place + 1) plan) made longer greater) done (by start size (nat_le greater (place + 1)) refl)
  where
    by : IsCutSoFar repos db plan (take place plan) (part ∷ drop (place + 1) plan) steps parts last → length (take place plan) ≡ place → (t : Bool) → nat_le greater (place + 1) ≡ t
        → IsCutSoFar repos db plan (take place plan ++ part ∷ []) (drop (place + 1) plan) made longer greater
    by start size true is =
        subst (λ (l : Plan). IsCutSoFar repos db plan (take place plan ++ part ∷ []) (drop (place + 1) plan) made l greater)
        (sym (longer_is ∙ ap (λ t. cond t [] (parts ++ part ∷ [])) is))
        (cut_here repos db plan (take place plan) part (drop (place + 1) plan) steps parts last next greater start is_next greater_is made
        (let few = le_is greater (place + 1) is in omega (arith, few, size))
        (made_is ∙ ap (λ t. cond t (steps ++ (parts ++ part ∷ []) ∷ []) steps) is))
    by start size false is =
        subst (λ (l : List Plan). IsCutSoFar repos db plan (take place plan ++ part ∷ []) (drop (place + 1) plan) l longer greater)
        (sym (made_is ∙ ap (λ t. cond t (steps ++ (parts ++ part ∷ []) ∷ []) steps) is))
        (cut_later repos db plan (take place plan) part (drop (place + 1) plan) steps parts last next greater start is_next greater_is longer
        (let many = le_isnt greater (place + 1) is in omega (arith, many, size))
        (longer_is ∙ ap (λ t. cond t [] (parts ++ part ∷ [])) is))

-- all parts are in a step
pub cut_end : (repos : List Repo) (db : List Object) (plan done : Plan) (steps : List Plan) (parts : Plan) (last : ℕ) → IsCutSoFar repos db plan done [] steps parts last → steps ≡ plan_cuts repos db plan
cut_end repos db plan done steps parts last so_far = elim so_far.begun [
  | inl none ↦ sym (append_nil steps) ∙ ap (λ (l : Plan). steps ++ onto_all l []) (sym none) ∙ so_far.so_far
  | inr less ↦
      let some : nat_lt (length done) last ≡ true = lt-ltb (length done) last less in
      let rest : drop (length done) plan ≡ [] = ap (drop (length done)) so_far.all ∙ drop_whole done in
      absurd (true≢false (sym some ∙ so_far.greatest (length done)
      ∙ ap (λ (p : Plan). is_any_touching (flat_map (paths_with repos) done) (flat_map (files_with db) p)) rest ∙ untouched (flat_map (paths_with repos) done)))
]
  where
    untouched : (paths : Texts) → is_any_touching paths [] ≡ false
    untouched [] = refl
    untouched (path ∷ paths) = untouched paths

pub cut_done : (repos : List Repo) (db : List Object) (plan : Plan) (place : ℕ) (steps : List Plan) (parts : Plan) (last : ℕ) → length plan ≤ place
    → IsCutSoFar repos db plan (take place plan) (drop place plan) steps parts last → steps ≡ plan_cuts repos db plan
cut_done repos db plan place steps parts last far so_far =
    cut_end repos db plan (take place plan) steps parts last (subst (λ (l : Plan). IsCutSoFar repos db plan (take place plan) l steps parts last) (drop_all place plan far) so_far)

pub cut_begin : (repos : List Repo) (db : List Object) (plan : Plan) (steps : List Plan) (parts : Plan) → steps ≡ [] → parts ≡ [] → IsCutSoFar repos db plan (take 0 plan) (drop 0 plan) steps parts 0
cut_begin repos db plan steps parts none empty =
    subst (λ (l : List Plan). IsCutSoFar repos db plan [] plan l parts 0) (sym none) (subst (λ (l : Plan). IsCutSoFar repos db plan [] plan [] l 0) (sym empty) (cut_start repos db plan))
