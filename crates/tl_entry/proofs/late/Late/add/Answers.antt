use Rattle.std.proofs.Common.{◌∙◌}
use Rattle.tl_entry.proofs.GatherLemmas.{key_set-more}
use Rattle.tl_entry.proofs.late.Late.add.Goals as goal

pub invariant_of-self-2 : goal.invariant_of-self-2
invariant_of-self-2 g c =
    rw (c.in_ok-push.ensures.items, c.reserve.ensures.items) (key_set-more g.T.Keyed.key c.self.inside.items.items c.self.inside.keys.keys c.insert.new.self.keys c.args.item c.in_ok-key.key c.self.invariant
    (c.in_ok-key.ensures.items ∙ c.key.ensures) c.in_ok-insert.ensures.keys)
