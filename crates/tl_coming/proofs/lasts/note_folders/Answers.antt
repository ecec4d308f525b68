use Rattle.std.proofs.Common.{◌∙◌, ◌||◌, ◌&&◌, ap, sym, arith}
use Rattle.std.specs.Prelude.{nat_lt}
use Rattle.tl_coming.specs.Lasts.{number_at, ends_at}
use Rattle.tl_coming.proofs.LastLaws.{front_start, front_next, front_all, is_front, joined_next}
use Rattle.tl_coming.proofs.lasts.note_folders.Goals as goal

pub loop-end-init : goal.loop-end-init
loop-end-init c least folder = front_start (nat_lt least (number_at c.args.numbers.now folder)) (nat_lt least c.args.number) c.args.path.now folder

pub loop-end-preserved : goal.loop-end-preserved
loop-end-preserved c least folder =
    c.in_ok-note_folder.ensures least folder
    ∙ ap (λ b. b || (nat_lt least c.args.number && ends_at c.args.path.now c.loop-end.end folder)) (c.loop-end.invariant least folder)
    ∙ joined_next (nat_lt least (number_at c.args.numbers.now folder)) (nat_lt least c.args.number) (is_front c.args.path.now c.loop-end.end folder) (ends_at c.args.path.now c.loop-end.end folder)
    ∙ ap (λ t. nat_lt least (number_at c.args.numbers.now folder) || (nat_lt least c.args.number && t)) (sym (front_next c.args.path.now folder c.loop-end.end c.loop-end-test.true))

pub returns : goal.returns
returns c least folder =
    c.loop-end.invariant least folder ∙ ap (λ t. nat_lt least (number_at c.args.numbers.now folder) || (nat_lt least c.args.number && t))
    (front_all c.args.path.now folder c.loop-end.end (let e = c.loop-end-test.false in omega (arith, e)))
