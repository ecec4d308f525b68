use Rattle.std.proofs.Common.{◌≡◌, true, ap, sym, ◌∙◌}
use Rattle.std.specs.Prelude.{is_some}
use Rattle.tl_object.specs.Values.{stripped}
use Rattle.tl_db.proofs.LineLemmas.{is_some-copied, behind_found}
use Rattle.tl_db.proofs.installation.place_of_line.Goals as goal

pub returns-then-is_some : goal.returns-then-is_some
returns-then-is_some c line =
    let prefix = c.args.prefix.now in
    let kept = c.index-lines-at.result in
    let begins : is_some (stripped prefix kept) ≡ true =
    ap (λ l. is_some (stripped prefix l)) (sym c.bytes.ensures.bytes) ∙ ap is_some (sym c.after.ensures.after) ∙ is_some-copied c.after.result ∙ sym c.is_some.ensures ∙ c.if-is_some.true in
    (c.loop-at-test.true, behind_found prefix kept c.args.lines.now c.loop-at.at c.loop-at-test.true c.index-lines-at.is begins c.loop-at.invariant line)
