use Rattle.std.proofs.Common.{List, ℕ, Bor, subst, ap, arith}
use Rattle.std.specs.Prelude.{Option, Some, option_copied}
use Rattle.tl_srctext.specs.Joined.{Joined, joined_lines}
use Rattle.tl_srctext.specs.Steps.{lines_from}
use Rattle.tl_srctext.proofs.ReadingLemmas.{ReadSoFar, read_on, read_all, read_bad}
use Rattle.tl_srctext.proofs.reading.read_fields.Goals as goal

pub returns-in-Err : goal.returns-in-Err
returns-in-Err c =
    let behind = c.in_ok-behind.behind in
    read_bad c.args.name.now (joined_lines c.args.text.now) (lines_from c.loop-line.number (Some c.loop-line.rest.now)) (lines_from behind.number (option_copied behind.text))
    c.loop-line.number c.take_joined.new.line.items c.bytes.result.now c.deref.result.now c.loop-line.fields c.in-Err.error
    c.in_ok-behind.ensures.line c.bytes.ensures.bytes c.deref.ensures.value c.in-Err.ensures.fault c.loop-line.invariant.read

pub loop-line-preserved : goal.loop-line-preserved
loop-line-preserved c =
    let behind = c.in_ok-behind.behind in
    let so_far : Option (Bor (List ℕ)) → Type 0 = λ rest. ReadSoFar c.args.name.now (joined_lines c.args.text.now) c.take_line.new.fields (lines_from behind.number (option_copied rest)) in
    let shorter = rw c.in-Some.is at c.in_ok-behind.ensures.shorter in
    record {
      read = subst so_far c.in-Some.is
          (read_on c.args.name.now (joined_lines c.args.text.now) (lines_from c.loop-line.number (Some c.loop-line.rest.now)) (lines_from behind.number (option_copied behind.text))
          c.loop-line.number c.take_joined.new.line.items c.bytes.result.now c.deref.result.now c.loop-line.fields c.take_line.new.fields
          c.in_ok-behind.ensures.line c.bytes.ensures.bytes c.deref.ensures.value c.in-Ok.ensures.taken c.loop-line.invariant.read);
      fits = omega (arith, shorter.1, c.loop-line.invariant.fits);
    }

pub returns-in-None : goal.returns-in-None
returns-in-None c =
    let behind = c.in_ok-behind.behind in
    let lines_with : Option (Bor (List ℕ)) → List Joined = λ rest. lines_from behind.number (option_copied rest) in
    read_all c.args.name.now (joined_lines c.args.text.now) (lines_from behind.number (option_copied behind.text)) c.take_line.new.fields (ap lines_with c.in-None.is)
    (read_on c.args.name.now (joined_lines c.args.text.now) (lines_from c.loop-line.number (Some c.loop-line.rest.now)) (lines_from behind.number (option_copied behind.text))
    c.loop-line.number c.take_joined.new.line.items c.bytes.result.now c.deref.result.now c.loop-line.fields c.take_line.new.fields
    c.in_ok-behind.ensures.line c.bytes.ensures.bytes c.deref.ensures.value c.in-Ok.ensures.taken c.loop-line.invariant.read)
