use Rattle.std.proofs.Common.{[], ◌∙◌, ap, subst}
use Rattle.std.specs.FinMap as map
use Rattle.std.specs.Result.{is_ok}
use Rattle.std.proofs.lemmas.Result.{on_ok_weaker}
use Rattle.tl_model.specs.Volume.{Name, Volume, at, at-insert_here}
use Rattle.tl_model.specs.Seen.{Changes}
use Rattle.tl_journal.proofs.Doing.{redoes_record, filled_is, part_apart}
use Rattle.tl_journal.proofs.redo.write.Goals as goal

pub returns-in_err-create-clause-progress : goal.returns-in_err-create-clause-progress
returns-in_err-create-clause-progress g c t base among far = redoes_record base _ _ _ _ among far (subst (λ (n : Name). Changes (is_ok c.create.result) n (g.H.Host.seen c.args.host.now) (g.H.Host.seen c.create.new.self)) c.again.ensures (c.create.ensures.change t))

pub copy-requires-clause-there : goal.copy-requires-clause-there
copy-requires-clause-there g c t = ap (λ (v : Volume). at v c.args.name) (c.in_ok-create.ensures.created t) ∙ ap (λ (n : Name). at (map.insert (g.H.Host.seen c.args.host.now).present.held n []) c.args.name) c.again.ensures ∙ at-insert_here _ c.args.name []

pub copy-requires-clause-part : goal.copy-requires-clause-part
copy-requires-clause-part g c t = part_apart (g.H.Host.seen c.args.host.now) (g.H.Host.seen c.create.new.self) c.args.body.now c.args.name (c.requires.apart t) (subst (λ (n : Name). Changes (is_ok c.create.result) n (g.H.Host.seen c.args.host.now) (g.H.Host.seen c.create.new.self)) c.again.ensures (c.create.ensures.change t)).others (c.requires.part t)

pub returns-clause-progress : goal.returns-clause-progress
returns-clause-progress g c t base among far = c.copy.ensures.progress t base among (redoes_record base _ _ _ _ among far (subst (λ (n : Name). Changes (is_ok c.create.result) n (g.H.Host.seen c.args.host.now) (g.H.Host.seen c.create.new.self)) c.again.ensures (c.create.ensures.change t)))

pub returns-clause-written : goal.returns-clause-written
returns-clause-written g c t =
    let s = g.H.Host.seen in
    on_ok_weaker c.copy.result (λ is. filled_is (s c.args.host.now).present.held (s c.create.new.self).present.held (s c.copy.new.host).present.held c.args.body.now.slot c.args.name c.args.from c.args.size (c.requires.apart t) (c.in_ok-create.ensures.created t ∙ ap (λ (n : Name). map.insert (s c.args.host.now).present.held n []) c.again.ensures) (c.copy.ensures.others t) is) (c.copy.ensures.copied t)
