-- Lines taken one by one.
use Rattle.std.proofs.Common.{arith, length, ◌≡◌, ℕ, ◌+◌, Bool, true, false, ◌&&◌, List, [], ◌∷◌, Some, None, Result, Ok, Err, refl, sym, ap, ◌∙◌}
use Rattle.std.specs.Prelude.{nat_le, MatchBool}
use Rattle.tl_lsr.specs.Reading.{Listed, line_taken, lines_taken, or_line, may_end, paths_or_line}

pub taken_on : (before : ℕ) (listed next : Listed) (line : List ℕ) (others all : List (List ℕ)) → all ≡ line ∷ others → line_taken before listed line ≡ Some next
    → lines_taken (before + 1) next others ≡ lines_taken before listed all
unfolding lines_taken
taken_on before listed next line others all is e =
    sym (ap (λ (ls : List (List ℕ)). lines_taken before listed ls) is ∙ ap (or_line before (λ l. lines_taken (before + 1) l others)) e)

pub stopped : (before : ℕ) (listed : Listed) (line : List ℕ) (others all : List (List ℕ)) → all ≡ line ∷ others → line_taken before listed line ≡ None
    → lines_taken before listed all ≡ Err before
unfolding lines_taken
stopped before listed line others all is e =
    ap (λ (ls : List (List ℕ)). lines_taken before listed ls) is ∙ ap (or_line before (λ l. lines_taken (before + 1) l others)) e

pub taken_all : (before : ℕ) (listed : Listed) (all : List (List ℕ)) → all ≡ [] → lines_taken before listed all ≡ Ok listed
unfolding lines_taken
taken_all before listed all is = ap (λ (ls : List (List ℕ)). lines_taken before listed ls) is

pub read_whole : (whole : Bool) (count : ℕ) (taken : Result Listed ℕ) (listed : Listed) → taken ≡ Ok listed → true ≡ (whole && (nat_le 2 count && may_end listed))
    → paths_or_line whole count taken ≡ Ok listed.files
read_whole whole count taken listed is e = rw is (rw (← e) refl)

pub read_short : (whole : Bool) (count : ℕ) (taken : Result Listed ℕ) (listed : Listed) → taken ≡ Ok listed → false ≡ (whole && (nat_le 2 count && may_end listed))
    → paths_or_line whole count taken ≡ Err (count + 1)
read_short whole count taken listed is e = rw is (rw (← e) refl)

pub first_holds : (b : Bool) (P Q : Type 0) → MatchBool b P Q → b ≡ true → P
first_holds true P Q holds is = holds
first_holds false P Q holds is = absurd (cc)

pub second_holds : (b : Bool) (P Q : Type 0) → MatchBool b P Q → b ≡ false → Q
second_holds true P Q holds is = absurd (cc)
second_holds false P Q holds is = holds

pub empty_is : (text : List ℕ) → length text ≡ 0 → text ≡ []
empty_is [] is = refl
empty_is (b ∷ text) is = absurd (omega arith)
