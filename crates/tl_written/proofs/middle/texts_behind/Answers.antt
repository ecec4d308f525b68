use Rattle.std.proofs.Common.{[], ◌∷◌, ◌++◌}
use Rattle.tl_text.specs.Texts.{IsText}
use Rattle.tl_object.specs.Writing.{key_line}
use Rattle.tl_written.proofs.StandLemmas.{all-start, all-next}
use Rattle.tl_written.proofs.LeftLemmas.{all_left-start}
use Rattle.tl_written.proofs.TextLemmas.{key_shorter, text-stands, texts-next, texts-none, texts-fail}
use Rattle.tl_written.proofs.middle.texts_behind.Goals as goal

pub loop-value-init : goal.loop-value-init
loop-value-init c = record {
  found = all-start (key_line c.args.key.now) IsText c.args.text.now;
  kept = all_left-start (key_line c.args.key.now) IsText ((c.args.key.now ++ 32 ∷ []) ∷ []) c.args.text.now;
}

pub loop-value-smaller : goal.loop-value-smaller
loop-value-smaller c = key_shorter c.args.key.now c.in-Some.value.now c.loop-value.rest.now c.in-Some.behind.now c.in-Some.ensures.stands.0

pub loop-value-preserved : goal.loop-value-preserved
loop-value-preserved c = record {
  found = all-next (key_line c.args.key.now) IsText c.args.text.now c.loop-value.rest.now c.in-Some.behind.now c.loop-value.invariant.found
      (text-stands c.args.key.now c.in-Some.value.now c.loop-value.rest.now c.in-Some.behind.now c.requires (c.is_text.ensures.is c.if-not-is_text.false) c.in-Some.ensures.stands.0);
  kept = texts-next c.args.key.now c.args.text.now c.loop-value.rest.now c.in-Some.behind.now c.in-Some.value.now c.loop-value.invariant.kept c.in-Some.ensures.stands.0 c.in-Some.ensures.finds;
}

pub returns-then-not-is_text-clause-finds : goal.returns-then-not-is_text-clause-finds
returns-then-not-is_text-clause-finds c =
    texts-fail c.args.key.now c.args.text.now c.loop-value.rest.now c.in-Some.behind.now c.in-Some.value.now c.is_text.result c.loop-value.invariant.kept c.in-Some.ensures.stands.0 c.in-Some.ensures.finds
    c.if-not-is_text.true c.is_text.ensures.all

pub returns-clause-finds : goal.returns-clause-finds
returns-clause-finds c = texts-none c.args.key.now c.args.text.now c.loop-value.rest.now c.loop-value.invariant.kept c.in_default.ensures.finds
