use Rattle.std.proofs.Common.{List, ℕ, sym, subst}
use Rattle.std.specs.Str.{IsUtf8}
use Rattle.tl_refusal.proofs.Plain.{utf8_of_digest}
use Rattle.tl_refusal.proofs.field.ValueDisplay.fmt.Goals as goal

pub unreachable-requires : goal.unreachable-requires
unreachable-requires g c =
    c.in-Err.ensures.cases.0 (subst (λ (l : List ℕ). IsUtf8 l) (sym c.digits_of-digits.ensures) (utf8_of_digest c.in-Digest.digest.now))
