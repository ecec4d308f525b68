use Rattle.std.proofs.Common.{◌∙◌, sym}
use Rattle.hex.specs.Hex.{encode_lower}
use Rattle.tl_object.specs.Formed.{IsDigest}
use Rattle.tl_object.specs.Writing.{digest_line}
use Rattle.tl_written.proofs.TextLemmas.{absent-finds, present-finds, other-fails}
use Rattle.tl_written.proofs.BoxLemmas.{no_digest, digest_stands, digest_optional, undigested}
use Rattle.tl_written.proofs.boxes.digest_behind.Goals as goal

pub returns-in_default-clause-stands : goal.returns-in_default-clause-stands
returns-in_default-clause-stands c = no_digest c.args.key.now c.args.text.now

pub returns-in_default-clause-finds : goal.returns-in_default-clause-finds
returns-in_default-clause-finds c = absent-finds c.args.key.now c.args.text.now (digest_line c.args.key.now) IsDigest encode_lower (digest_optional c.args.key.now) c.in_default.ensures.finds

pub returns-then-is_digest_text-clause-stands : goal.returns-then-is_digest_text-clause-stands
returns-then-is_digest_text-clause-stands c =
    digest_stands c.args.key.now c.in-Some.digits.now c.args.text.now c.in-Some.rest.now c.requires c.in-Some.ensures.stands.0 (sym c.is_digest_text.ensures ∙ c.if-is_digest_text.true)

pub returns-then-is_digest_text-clause-finds : goal.returns-then-is_digest_text-clause-finds
returns-then-is_digest_text-clause-finds c =
    present-finds c.args.key.now c.in-Some.digits.now c.args.text.now c.in-Some.rest.now (digest_line c.args.key.now) IsDigest encode_lower (digest_optional c.args.key.now) c.in-Some.ensures.stands.0 c.in-Some.ensures.finds

pub returns-else-is_digest_text-clause-finds : goal.returns-else-is_digest_text-clause-finds
returns-else-is_digest_text-clause-finds c =
    other-fails c.args.key.now c.in-Some.digits.now c.args.text.now c.in-Some.rest.now (digest_line c.args.key.now) IsDigest encode_lower (digest_optional c.args.key.now) c.in-Some.ensures.stands.0 c.in-Some.ensures.finds
    (λ digest is same. undigested c.in-Some.digits.now digest (sym c.is_digest_text.ensures ∙ c.if-is_digest_text.false) is same)
