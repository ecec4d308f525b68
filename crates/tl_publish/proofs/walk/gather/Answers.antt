use Rattle.std.proofs.Common.{Option, subst, ◌∙◌}
use Rattle.std.specs.Prelude.{IfSome, MatchOption}
use Rattle.tl_model.specs.Volume.{Volume}
use Rattle.tl_kind.specs.Quantities.{limit_of}
use Rattle.tl_kind.specs.declared.quantity.What.TheVariants.{Files}
use Rattle.tl_refusal.specs.declared.refusal.Refusal.TheVariants.{TooLarge}
use Rattle.tl_backup.specs.Asked.{tree_in}
use Rattle.tl_command.specs.Endings.{no_devices}
use Rattle.tl_command.specs.Runs.{Run, refused}
use Rattle.tl_command.proofs.Joins.{advances_quiet, performs_of, performs_quiet}
use Rattle.tl_command.proofs.Databases.{same_tree, performs_unread}
use Rattle.tl_publish.specs.Listable.{AreInside}
use Rattle.tl_publish.specs.Lsr.{over_names}
use Rattle.tl_publish.specs.Walk.{Gathering, IsGathered, HasManyNames}
use Rattle.tl_publish.proofs.RunLemmas.{performs_many}
use Rattle.tl_publish.proofs.walk.gather.Goals as goal

pub returns-in-Ok-Some-clause-gathered : goal.returns-in-Ok-Some-clause-gathered
returns-in-Ok-Some-clause-gathered g c =
    let old = c.args.tree in
    let asked = c.walk.ensures.asked in
    record {
      quiet = advances_quiet g.H.Host.tells old.seen c.walk.new.tree.seen asked.quiet asked.later;
      db = asked.db;
      names = λ told tree stood. subst (λ (v : Volume). IsGathered v c.in-Ok-Some.gathered) (same_tree old.seen tree (c.stands.ensures.tree told) stood)
          (subst (λ (o : Option Gathering). MatchOption o (HasManyNames (tree_in old)) (IsGathered (tree_in old))) c.in-Ok-Some.field-0-is (c.in-Ok-Some.ensures.names told));
      inside = subst (λ (o : Option Gathering). IfSome o (λ w. AreInside w.inside)) c.in-Ok-Some.field-0-is c.in-Ok-Some.ensures.inside;
    }

pub returns-in-Ok-None-clause-acted : goal.returns-in-Ok-None-clause-acted
returns-in-Ok-None-clause-acted g c = λ go.
    let tells = g.H.Host.tells in
    let seen = g.H.Host.seen in
    let old = c.args.tree in
    let asked = c.walk.ensures.asked in
    let ending = c.refuse_files.result.ending in
    let state = c.refuse_files.result.state in
    performs_many tells seen no_devices no_devices ending state old.seen go
    (λ told tree stood. subst HasManyNames (same_tree old.seen tree (c.stands.ensures.tree told) stood)
    (subst (λ (o : Option Gathering). MatchOption o (HasManyNames (tree_in old)) (IsGathered (tree_in old))) c.in-Ok-None.field-0-is (c.in-Ok-None.ensures.names told)))
    (performs_quiet tells seen 0 old.seen no_devices no_devices ending state (λ _. refused (TooLarge Files (limit_of Files))) c.walk.new.tree.seen
    (advances_quiet tells old.seen c.walk.new.tree.seen asked.quiet asked.later) c.refuse_files.ensures)

pub returns-in-Err-HostFault-clause-acted : goal.returns-in-Err-HostFault-clause-acted
returns-in-Err-HostFault-clause-acted g c = λ go.
    let asked = c.walk.ensures.asked in
    performs_unread g.H.Host.tells g.H.Host.seen c.args.tree.seen no_devices no_devices (λ t. over_names (go t) t) c.into_host.result c.walk.new.tree.seen (c.into_host.ensures ∙ c.release.ensures) asked.quiet asked.later
    (c.in-Err-HostFault.ensures.cause c.in-Err-HostFault.field-0-is)

pub returns-in-Err-NoMemory-clause-acted : goal.returns-in-Err-NoMemory-clause-acted
returns-in-Err-NoMemory-clause-acted g c = λ go.
    let command : Volume → Run = λ t. over_names (go t) t in
    let old = c.args.tree.seen in
    let mid = c.walk.new.tree.seen in
    let asked = c.walk.ensures.asked in
    let ending = c.give_up.result.ending in
    let state = c.give_up.result.state in
    performs_quiet g.H.Host.tells g.H.Host.seen 0 old no_devices no_devices ending state command mid (advances_quiet g.H.Host.tells old mid asked.quiet asked.later)
    (performs_of g.H.Host.tells g.H.Host.seen command c.of_tree.result mid ending state c.of_tree.ensures (c.give_up.ensures command))
