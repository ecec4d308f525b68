use Rattle.std.proofs.Common.{◌≡◌, ◌∙◌, sym, ap, rules, List, ℕ, false, true, Some, None}
use Rattle.std.specs.Result.{result_ok}
use Rattle.hex.specs.Hex.{decode_sized}
use Rattle.tl_repo.specs.Files.{is_ended}
use Rattle.tl_repo.proofs.DigestLemmas.{digest_in-short, digest_in-unended, digest_in-ended, decoded_ok, decoded_err}
use Rattle.tl_copying.proofs.digest.digest_in.Goals as goal

pub returns-in_default : goal.returns-in_default
returns-in_default c = sym (digest_in-short c.args.text.now (search rules))

pub returns-then-not-is_ended : goal.returns-then-not-is_ended
returns-then-not-is_ended c =
    let unended : is_ended c.in-Some.rest.now ≡ false = sym c.is_ended.ensures ∙ c.if-not-is_ended.true in
    sym (digest_in-unended c.args.text.now (ap is_ended (sym c.in-Some.ensures.cases.2) ∙ unended))

pub returns-in-Ok : goal.returns-in-Ok
returns-in-Ok c =
    let text = c.args.text.now in
    let ended : is_ended c.in-Some.rest.now ≡ true = sym c.is_ended.ensures ∙ c.if-not-is_ended.false in
    let decoded : result_ok (decode_sized c.in-Some.digits.now 64) ≡ Some c.decode_to_slice.new.out = decoded_ok _ c.decode_to_slice.result c.decode_to_slice.new.out c.in-Ok.field-0 c.decode_to_slice.ensures.value c.in-Ok.is in
    sym (digest_in-ended text (ap is_ended (sym c.in-Some.ensures.cases.2) ∙ ended) ∙ ap (λ (l : List ℕ). result_ok (decode_sized l 64)) (sym c.in-Some.ensures.cases.1) ∙ decoded)

pub returns-in-Err : goal.returns-in-Err
returns-in-Err c =
    let text = c.args.text.now in
    let ended : is_ended c.in-Some.rest.now ≡ true = sym c.is_ended.ensures ∙ c.if-not-is_ended.false in
    let decoded : result_ok (decode_sized c.in-Some.digits.now 64) ≡ None = decoded_err _ c.decode_to_slice.result c.decode_to_slice.new.out c.in-Err.field-0 c.decode_to_slice.ensures.value c.in-Err.is in
    sym (digest_in-ended text (ap is_ended (sym c.in-Some.ensures.cases.2) ∙ ended) ∙ ap (λ (l : List ℕ). result_ok (decode_sized l 64)) (sym c.in-Some.ensures.cases.1) ∙ decoded)
