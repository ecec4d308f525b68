-- Verdicts of an ordered map.
use Rattle.std.proofs.Common.{◌≡◌, ℕ, Bool, true, false, cond, List, [], ◌∷◌, Vec, Option, Some, Result, Ok, Err, refl, ◌∙◌, ap, sym, subst}
use Rattle.std.specs.declared.alloc.Global.{Global}
use Rattle.std.specs.declared.cmp.Ordering.{Ordering}
use Rattle.std.specs.declared.cmp.Ordering.TheVariants.{Less, Equal, Greater}
use Rattle.std.specs.Option.{option_map, IfSome}
use Rattle.std.specs.Result.{OnOk, OnErr}
use Rattle.std.specs.Ordering.{nat_cmp, is_eq, match_ordering}
use Rattle.std.specs.Cmp.Lexicographic.{slice_cmp, nat_list_cmp_total}
use Rattle.std.specs.FinMap as map
use Rattle.std.specs.FinMap.{slice_cmp-IsAntisymmetric, nat_cmp-IsAntisymmetric}
use Rattle.std.specs.Map.{lookup}
use Rattle.std.specs.BTreeMap.{is_at, insert_entry}
use Rattle.std.proofs.lemmas.Bool.{true≢false}
use Rattle.tl_model.specs.Volume.{same_name, same_name-is}
use Rattle.tl_model.specs.Devices as seen
use Rattle.tl_model.specs.Devices.{Verdicts}
use Rattle.tl_regexp.specs.declared.verdicts.Verdict.{Verdict}
use Rattle.tl_regexp.specs.Verdicts.{seen_verdict, verdicts_of}
use Rattle.tl_regexp.specs.Finds.{MayStand}
use Rattle.tl_regexp.specs.Answers.{MayAllStand}

abbrev Text : Type 0
Text = Vec ℕ Global

abbrev order : Text → Text → Ordering
order = λ (x y : Text). slice_cmp nat_cmp x.items y.items

seen_cond : (b : Bool) (x : Verdict) (o : Option Verdict) → cond b (Some (seen_verdict x)) (option_map seen_verdict o) ≡ option_map seen_verdict (cond b (Some x) o)
seen_cond true x o = refl
seen_cond false x o = refl

pub get-verdicts_of : (es : List (Text × Verdict)) (text : List ℕ) → option_map seen_verdict (lookup (is_at (λ (k : Text). slice_cmp nat_cmp text k.items)) es) ≡ map.get (verdicts_of es) text
get-verdicts_of [] text = sym (map.get-empty _ text)
get-verdicts_of (e ∷ es) text = sym (map.get-insert nat_list_cmp_total (verdicts_of es) e.0.items (seen_verdict e.1) text
    ∙ ap (cond (same_name text e.0.items) (Some (seen_verdict e.1))) (sym (get-verdicts_of es text))
    ∙ seen_cond (same_name text e.0.items) e.1 _)

get-insert : (m : Verdicts) (k : List ℕ) (v : seen.Verdict) (q : List ℕ) → map.get (map.insert m k v) q ≡ cond (same_name q k) (Some v) (map.get m q)
get-insert m k v q = map.get-insert nat_list_cmp_total m k v q

same : (m n : Verdicts) → ((q : List ℕ) → map.get m q ≡ map.get n q) → m ≡ n
same m n is = map.same_map nat_list_cmp_total (slice_cmp-IsAntisymmetric nat_cmp-IsAntisymmetric) m n is

over : (b : Bool) (v w : seen.Verdict) (o : Option seen.Verdict) → cond b (Some v) (cond b (Some w) o) ≡ cond b (Some v) o
over true v w o = refl
over false v w o = refl

insert_twice : (m : Verdicts) (k : List ℕ) (w v : seen.Verdict) → map.insert (map.insert m k w) k v ≡ map.insert m k v
insert_twice m k w v = same _ _ (λ q. get-insert _ k v q ∙ ap (cond (same_name q k) (Some v)) (get-insert m k w q) ∙ over (same_name q k) v w _ ∙ sym (get-insert m k v q))

turned : (a b : Bool) (v w : seen.Verdict) (o : Option seen.Verdict) → (a ≡ true → b ≡ false) → cond a (Some v) (cond b (Some w) o) ≡ cond b (Some w) (cond a (Some v) o)
turned true true v w o apart = absurd (true≢false (apart refl))
turned true false v w o apart = refl
turned false b v w o apart = refl

insert_swap : (m : Verdicts) (k j : List ℕ) (v w : seen.Verdict) → same_name k j ≡ false → map.insert (map.insert m j w) k v ≡ map.insert (map.insert m k v) j w
insert_swap m k j v w apart = same _ _ (λ q. get-insert _ k v q ∙ ap (cond (same_name q k) (Some v)) (get-insert m j w q)
    ∙ turned (same_name q k) (same_name q j) v w _ (λ is. ap (λ (n : List ℕ). same_name n j) (same_name-is q k is) ∙ apart)
    ∙ sym (get-insert _ j w q ∙ ap (cond (same_name q j) (Some w)) (get-insert m k v q)))

pub verdicts_of-insert_entry : (es : List (Text × Verdict)) (k : Text) (v : Verdict) → verdicts_of (insert_entry order es k v) ≡ map.insert (verdicts_of es) k.items (seen_verdict v)
verdicts_of-insert_entry [] k v = refl
verdicts_of-insert_entry (e ∷ es) k v = by (verdicts_of-insert_entry es k v) (order k e.0) refl
  where
    by : verdicts_of (insert_entry order es k v) ≡ map.insert (verdicts_of es) k.items (seen_verdict v) → (r : Ordering) → order k e.0 ≡ r
        → verdicts_of (match_ordering r ((k, v) ∷ e ∷ es) ((e.0, v) ∷ es) (e ∷ insert_entry order es k v)) ≡ map.insert (map.insert (verdicts_of es) e.0.items (seen_verdict e.1)) k.items (seen_verdict v)
    by rest Less is = refl
    by rest Equal is =
        let one : e.0.items ≡ k.items = sym (slice_cmp-IsAntisymmetric nat_cmp-IsAntisymmetric k.items e.0.items is) in
        sym (ap (λ (n : List ℕ). map.insert (map.insert (verdicts_of es) n (seen_verdict e.1)) k.items (seen_verdict v)) one
        ∙ insert_twice (verdicts_of es) k.items (seen_verdict e.1) (seen_verdict v)
        ∙ ap (λ (n : List ℕ). map.insert (verdicts_of es) n (seen_verdict v)) (sym one))
    by rest Greater is = ap (λ (m : Verdicts). map.insert m e.0.items (seen_verdict e.1)) rest
        ∙ sym (insert_swap (verdicts_of es) k.items e.0.items (seen_verdict v) (seen_verdict e.1) (ap is_eq is))

-- a verdict that a text has already
pub insert_same : (m : Verdicts) (text : List ℕ) (v : seen.Verdict) → map.get m text ≡ Some v → m ≡ map.insert m text v
insert_same m text v has = same _ _ (λ q. sym (get-insert m text v q ∙ by q (same_name q text) refl))
  where
    by : (q : List ℕ) (b : Bool) → same_name q text ≡ b → cond b (Some v) (map.get m q) ≡ map.get m q
    by q true is = sym (ap (λ (n : List ℕ). map.get m n) (same_name-is q text is) ∙ has)
    by q false is = refl

-- verdicts that stand where they may, with one more
pub stands_with : (m n : Verdicts) (text : List ℕ) (v : seen.Verdict) → MayAllStand m → MayStand text v → n ≡ map.insert m text v → MayAllStand n
stands_with m n text v all here is other =
    subst (λ o. IfSome o (MayStand other)) (sym (ap (λ (k : Verdicts). map.get k other) is ∙ get-insert m text v other)) (by (same_name other text) refl)
  where
    by : (b : Bool) → same_name other text ≡ b → IfSome (cond b (Some v) (map.get m other)) (MayStand other)
    by true one = subst (λ (t : List ℕ). MayStand t v) (sym (same_name-is other text one)) here
    by false apart = all other

pub stands_empty : MayAllStand map.empty
stands_empty text = subst (λ o. IfSome o (MayStand text)) (sym (map.get-empty _ text)) tt

-- the same where the verdict may not have been taken
pub stands_after : {A E : Type 0} (r : Result A E) (m n : Verdicts) (text : List ℕ) (v : seen.Verdict) → MayAllStand m → MayStand text v
    → OnOk r (n ≡ map.insert m text v) → OnErr r (n ≡ m) → MayAllStand n
stands_after (Ok x) m n text v all here ok err = stands_with m n text v all here ok
stands_after (Err e) m n text v all here ok err = subst MayAllStand (sym err) all
