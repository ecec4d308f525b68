use Rattle.std.proofs.Common.{◌∷◌, ◌++◌, [], arith, ◌∙◌}
use Rattle.tl_object.specs.Content.{content, entry_lines}
use Rattle.tl_object.specs.declared.head.Head.TheVariants as heads
use Rattle.tl_object.proofs.ReadingLemmas.{group, reached-name, reached-more, reached-fails, reached-section_fails, step-unknown}
use Rattle.tl_object.proofs.read.read_parts.Goals as goal

pub loop-found-init : goal.loop-found-init
loop-found-init c =
    let first = c.in-Some.first in
    record {
      reached = (
        group (heads.Name c.in-Ok.name) [] ∷ [],
        reached-name c.in-Ok.name c.new-builder.result first.number first.line.now (entry_lines c.args.stops (content c.args.before c.args.text.now)) (entry_lines c.args.stops (content first.number first.rest.now))
            c.in-Some.ensures.line c.in-Ok.ensures c.new-builder.ensures,
      );
      left = c.in-Some.ensures.left;
      shorter = c.in-Some.ensures.shorter;
      fits = c.in-Some.ensures.fits;
    }

pub returns-in-Err-read_head-clause-fault : goal.returns-in-Err-read_head-clause-fault
returns-in-Err-read_head-clause-fault c =
    let found = c.in-Some-next_entry_line.found in let so_far = c.loop-found.invariant.reached in
    rw c.at-in-Err-read_head.ensures (reached-fails c.in-Err-read_head.fault so_far.0 c.loop-found.builder (entry_lines c.args.stops (content c.args.before c.args.text.now)) (entry_lines c.args.stops (content found.number found.rest.now)) (entry_lines c.args.stops (content c.loop-found.number c.loop-found.rest.now))
    found.number found.line.now so_far.1 c.in-Some-next_entry_line.ensures.line c.in-Err-read_head.ensures)

pub read_group-requires-clause-new : goal.read_group-requires-clause-new
read_group-requires-clause-new c = step-unknown c.loop-found.builder c.in-Some-next_entry_line.found.line.now c.in-Ok-read_head.head c.in-Ok-read_head.ensures

pub returns-in-Err-read_group-clause-fault : goal.returns-in-Err-read_group-clause-fault
returns-in-Err-read_group-clause-fault c =
    let found = c.in-Some-next_entry_line.found in let so_far = c.loop-found.invariant.reached in
    reached-section_fails c.in-Err-read_group.fault so_far.0 c.loop-found.builder (entry_lines c.args.stops (content c.args.before c.args.text.now)) (entry_lines c.args.stops (content found.number found.rest.now)) (entry_lines c.args.stops (content c.loop-found.number c.loop-found.rest.now))
    found.number found.line.now c.in-Ok-read_head.head so_far.1 c.in-Some-next_entry_line.ensures.line c.in-Ok-read_head.ensures
    c.in-Err-read_group.ensures.fault

pub loop-found-preserved : goal.loop-found-preserved
loop-found-preserved c =
    let found = c.in-Some-next_entry_line.found in let so_far = c.loop-found.invariant.reached in
    let head = c.in-Ok-read_head.head in let after = c.in-Ok-read_group.after in
    let files = c.in-Ok-read_group.ensures.read.0 in let read = c.in-Ok-read_group.ensures.read.2 in
    let rest = entry_lines c.args.stops (content found.number found.rest.now) in let left = entry_lines c.args.stops (content after.number after.rest.now) in
    record {
      reached = (
        so_far.0 ++ group head files ∷ [],
        reached-more so_far.0 c.loop-found.builder (entry_lines c.args.stops (content c.args.before c.args.text.now)) rest left (entry_lines c.args.stops (content c.loop-found.number c.loop-found.rest.now)) found.number found.line.now head files c.read_group.new.builder
            so_far.1 c.in-Some-next_entry_line.ensures.line c.in-Ok-read_head.ensures read.section read.next c.in-Ok-read_group.ensures.read.1,
      );
      left = c.loop-found.invariant.left ∙ c.in-Some-next_entry_line.ensures.left ∙ read.left;
      shorter = omega (arith, c.loop-found.invariant.shorter, read.shorter, c.in-Some-next_entry_line.ensures.shorter);
      fits = omega (arith, c.loop-found.invariant.fits, read.fits, c.in-Some-next_entry_line.ensures.fits);
    }
