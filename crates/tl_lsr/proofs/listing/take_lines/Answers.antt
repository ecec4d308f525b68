use Rattle.std.proofs.Common.{◌≡◌, ◌<◌, ◌∙◌, sym, ap, refl, true, false, rules, arith, length, [], Some, None}
use Rattle.std.proofs.lemmas.Grind.{common_steps}
use Rattle.tl_model.specs.Lines.{lines}
use Rattle.tl_lsr.specs.Reading.{line_taken}
use Rattle.tl_lsr.proofs.TakeLemmas.{taken_on, stopped, taken_all, first_holds, second_holds, empty_is}
use Rattle.tl_lsr.proofs.listing.take_lines.Goals as goal

pub returns-then-not-branch : goal.returns-then-not-branch
returns-then-not-branch c =
    let some : 0 < length c.loop-rest.rest.now = first_of (search rules, grind (arith, common_steps)) in
    let off : c.in_ok-take_line.field-0 ≡ false = first_of (search rules, grind (arith, common_steps)) in
    let none : line_taken c.loop-rest.before c.loop-rest.reader c.cut_line.result.0.now ≡ None = second_holds _ _ _ c.in_ok-take_line.ensures off in
    (c.loop-rest.before, sym c.loop-rest.invariant.0 ∙ stopped _ _ _ _ _ (c.cut_line.ensures.lines some) none, refl)

pub loop-rest-preserved : goal.loop-rest-preserved
loop-rest-preserved c =
    let some : 0 < length c.loop-rest.rest.now = first_of (search rules, grind (arith, common_steps)) in
    let on : c.in_ok-take_line.field-0 ≡ true = first_of (search rules, grind (arith, common_steps)) in
    let next : line_taken c.loop-rest.before c.loop-rest.reader c.cut_line.result.0.now ≡ Some c.take_line.new.self = first_holds _ _ _ c.in_ok-take_line.ensures on in
    let are = c.cut_line.ensures.lines some in (
      taken_on _ _ _ _ _ _ are next ∙ c.loop-rest.invariant.0,
      omega (arith, ap length are, c.loop-rest.invariant.1),
      omega (arith, c.cut_line.ensures.shorter some, c.loop-rest.invariant.2),
    )

pub returns : goal.returns
returns c =
    let none : length c.loop-rest.rest.now ≡ 0 = first_of (search rules, grind (arith, common_steps)) in
    let is : lines c.loop-rest.rest.now ≡ [] = ap lines (empty_is c.loop-rest.rest.now none) in
    (sym c.loop-rest.invariant.0 ∙ taken_all _ _ _ is, omega (arith, ap length is, c.loop-rest.invariant.1), omega (arith, c.loop-rest.invariant.2))
