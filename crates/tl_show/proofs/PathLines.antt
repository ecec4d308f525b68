-- The lines of paths.
use Rattle.std.proofs.Common.{◌≡◌, ◌<◌, ◌+◌, ℕ, Bool, true, false, not, ◌&&◌, List, [], ◌∷◌, ◌++◌, length, take, get_or, nat_eq, refl, sym, subst, ap, ◌∙◌, arith}
use Rattle.std.specs.Prelude.{codes}
use Rattle.std.specs.List.{starts_with}
use Rattle.std.proofs.lemmas.List.{take_more}
use Rattle.std.proofs.lemmas.Bool.Decides.{nat_tests}
use Rattle.tl_model.specs.Lines.{text_of}
use Rattle.tl_model.specs.Acks.{IsPlain, is_ack, plain-line, plain-nil, plain-append}
use Rattle.tl_path.specs.Path.{IsPath}
use Rattle.tl_path.specs.Bytes.{is_barred}
use Rattle.tl_object.proofs.PlainLemmas.{unbarred, line_of_path}
use Rattle.tl_lsr.proofs.TextLemmas.{text_of_append}

and_false : (b : Bool) → (b && false) ≡ false
and_false true = refl
and_false false = refl

-- a line whose fifth byte is no space begins with no "step "
no_step : (line : List ℕ) → (4 < length line → nat_eq 32 (get_or line 4 0) ≡ false) → starts_with nat_eq line (codes "step ") ≡ false
no_step [] other = refl
no_step (a ∷ []) other = simp and_false
no_step (a ∷ b ∷ []) other = simp and_false
no_step (a ∷ b ∷ c ∷ []) other = simp and_false
no_step (a ∷ b ∷ c ∷ d ∷ []) other = simp and_false
no_step (a ∷ b ∷ c ∷ d ∷ e ∷ line) other = let none = other (omega arith) in rw none (simp and_false)

-- a byte that isn't barred is no space
no_space : (b : ℕ) → not (is_barred b) ≡ true → nat_eq 32 b ≡ false
no_space b free = grind (arith, nat_tests)

-- a path's line is no acknowledgement
other_path : (path : List ℕ) → IsPath path → is_ack path ≡ false
other_path path is = let none = no_step path (λ lt. no_space _ (unbarred path is 4 0 lt)) in rw none refl

-- the line of a path is plain
pub plain_path : (path : List ℕ) → IsPath path → IsPlain (path ++ 10 ∷ [])
plain_path path is = plain-line path [] (line_of_path path is) (other_path path is) plain-nil

-- a line more behind plain ones
pub plain_more : (lines next path : List ℕ) → IsPath path → next ≡ lines ++ (path ++ 10 ∷ []) → IsPlain lines → IsPlain next
plain_more lines next path is e plain = subst IsPlain (sym e) (plain-append lines (path ++ 10 ∷ []) plain (plain_path path is))

-- the text of one path more
pub text_of_more : (paths : List (List ℕ)) (i : ℕ) (d : List ℕ) → i < length paths → text_of (take (i + 1) paths) ≡ text_of (take i paths) ++ (get_or paths i d ++ 10 ∷ [])
text_of_more paths i d lt = ap text_of (take_more paths i d lt) ∙ text_of_append (take i paths) (get_or paths i d ∷ [])
