use Rattle.std.proofs.Common.{◌≤◌, length, rules, arith}
use Rattle.std.proofs.lemmas.Grind.{common_steps}
use Rattle.tl_srctext.proofs.ReadingLemmas.{source_if, fault_if}
use Rattle.tl_srctext.proofs.SourceLemmas.{formed_if}
use Rattle.tl_srctext.proofs.reading.read.Goals as goal

pub returns-clause-source : goal.returns-clause-source
returns-clause-source c =
    let short : length c.args.text.now ≤ 1048576 = first_of (search rules, omega arith, grind (arith, common_steps)) in
    source_if c.args.name.now c.args.text.now c.read_source.result short c.read_source.ensures.read

pub returns-clause-formed : goal.returns-clause-formed
returns-clause-formed c = formed_if c.args.name.now c.args.text.now c.read_source.result c.read_source.ensures.name c.read_source.ensures.read

pub returns-clause-fault : goal.returns-clause-fault
returns-clause-fault c =
    let short : length c.args.text.now ≤ 1048576 = first_of (search rules, omega arith, grind (arith, common_steps)) in
    fault_if c.args.name.now c.args.text.now c.read_source.result short c.read_source.ensures.read
