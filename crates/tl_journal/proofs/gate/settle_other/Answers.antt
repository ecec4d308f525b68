use Rattle.std.proofs.Common.{◌∙◌, sym, subst, Option, refl, []}
use Rattle.std.proofs.lemmas.Result.{on_ok_weaker}
use Rattle.tl_model.specs.Volume.{SameBut}
use Rattle.tl_journal_text.specs.declared.slot.Slot.{Slot}
use Rattle.tl_journal_text.specs.declared.slot.Slot.TheVariants.{Two}
use Rattle.tl_journal_text.specs.Slots.{body_of, spare, other}
use Rattle.tl_journal.specs.Touching.{only_start}
use Rattle.tl_journal.proofs.Live.{tree_start, free_shut}
use Rattle.tl_journal.proofs.Commits.{Still, still_open, settles_two}
use Rattle.tl_journal.proofs.gate.settle_other.Goals as goal

pub returns-in-Some-clause-keeps : goal.returns-in-Some-clause-keeps
returns-in-Some-clause-keeps g c t = tree_start _ (c.requires.clean t).live

pub returns-in-Some-clause-still : goal.returns-in-Some-clause-still
returns-in-Some-clause-still g c t =
    let held = (g.H.Host.seen c.args.host.now).present.held in
    subst (λ (o : Option Slot). Still (other (spare o)) held held) (sym c.in-Some.is) (still_open (g.H.Host.seen c.args.host.now) c.in-Some.field-0 (c.requires.clean t) (c.requires.opened t ∙ c.in-Some.is))

pub clear-requires-clause-free : goal.clear-requires-clause-free
clear-requires-clause-free g c t = free_shut (g.H.Host.seen c.args.host.now).present.held Two (c.requires.opened t ∙ c.in-None.is)

pub returns-in-None-clause-others : goal.returns-in-None-clause-others
returns-in-None-clause-others g c t =
    let s = g.H.Host.seen in
    subst (λ (o : Option Slot). SameBut (body_of (other (spare o))) (s c.args.host.now).present.held (s c.clear.new.host).present.held) (sym c.in-None.is) (c.clear.ensures.others t)

pub returns-in-None-clause-still : goal.returns-in-None-clause-still
returns-in-None-clause-still g c t =
    let s = g.H.Host.seen in
    on_ok_weaker c.clear.result (λ cleared. subst (λ (o : Option Slot). Still (other (spare o)) (s c.args.host.now).present.held (s c.clear.new.host).present.held) (sym c.in-None.is) ([], cleared, refl)) (c.clear.ensures.cleared t)

pub returns-in-Some-clause-touches : goal.returns-in-Some-clause-touches
returns-in-Some-clause-touches g c t = only_start _ _

pub returns-in-None-clause-touches : goal.returns-in-None-clause-touches
returns-in-None-clause-touches g c t = settles_two _ _ c.args.opened c.in-None.is (c.clear.ensures.touches t)
