use Rattle.std.proofs.Common.{◌≤◌, ℕ, length, Option, Some, None, IfSome, Vec, vec_len, subst, ◌∙◌, arith}
use Rattle.std.specs.Option.{option_map}
use Rattle.tl_model.specs.Volume.{Volume}
use Rattle.tl_kind.specs.Quantities.{limit_of}
use Rattle.tl_journal_text.specs.Stand.{tree_of, bytes_at}
use Rattle.tl_tree.specs.Contents.{IsContentsError}
use Rattle.tl_tree.specs.declared.contents.ContentsError.{ContentsError}
use Rattle.tl_command.specs.Endings.{no_devices}
use Rattle.tl_command.specs.Runs.{over_file}
use Rattle.tl_command.proofs.Joins.{performs_of, performs_quiet, advances_quiet}
use Rattle.tl_command.proofs.Databases.{performs_unread}
use Rattle.tl_command.proofs.FileLemmas.{reads_found, performs_refused_file}
use Rattle.tl_command.proofs.files.read_file.Goals as goal

pub returns-in-Ok-clause-read : goal.returns-in-Ok-clause-read
returns-in-Ok-clause-read g c =
    let e = c.in-Ok.ensures in
    reads_found g.H.Host.tells c.args.what c.args.path c.args.tree c.contents.new.self (option_map (λ v. v.items) c.in-Ok.found) c.stands.ensures.tree e.same e.cause.later e.db e.bytes (within (limit_of c.args.what) c.in-Ok.found e.within)
  where
    within : {X Z : Type 0} (most : ℕ) (found : Option (Vec X Z)) → IfSome found (λ v. vec_len v ≤ most) → IfSome (option_map (λ (v : Vec X Z). v.items) found) (λ bytes. length bytes ≤ most)
    within most None le = le
    within most (Some v) le = omega (arith, le, v.ok.0)

pub returns-in-Err-TooLarge-clause-acted : goal.returns-in-Err-TooLarge-clause-acted
returns-in-Err-TooLarge-clause-acted g c go =
    let found = c.in-Err-TooLarge in
    let e = found.ensures in
    let first = c.args.tree.seen in
    performs_refused_file g.H.Host.tells g.H.Host.seen c.args.what c.args.path no_devices no_devices c.refuse.result.ending c.refuse.result.state first c.contents.new.self.seen found.what found.limit
    c.stands.ensures.tree e.same e.cause.later (λ t. subst (λ (f : ContentsError). IsContentsError c.args.what (bytes_at (tree_of first.present.held) c.args.path) f) found.field-0-is (e.error t))
    (performs_of _ _ _ _ _ _ _ c.of_tree.ensures c.refuse.ensures.performs) go

pub returns-in-Err-HostFault-clause-acted : goal.returns-in-Err-HostFault-clause-acted
returns-in-Err-HostFault-clause-acted g c go =
    let e = c.in-Err-HostFault.ensures in
    let first = c.args.tree.seen in
    performs_unread g.H.Host.tells g.H.Host.seen first no_devices no_devices (λ tree. over_file c.args.what c.args.path (go tree) tree) c.into_host.result c.contents.new.self.seen (c.into_host.ensures ∙ c.release.ensures) e.same e.cause.later (e.cause.failed c.in-Err-HostFault.field-0-is)

pub returns-in-Err-NoMemory-clause-acted : goal.returns-in-Err-NoMemory-clause-acted
returns-in-Err-NoMemory-clause-acted g c go =
    let e = c.in-Err-NoMemory.ensures in
    let first = c.args.tree.seen in
    let mid = c.contents.new.self.seen in
    let command = λ (tree : Volume). over_file c.args.what c.args.path (go tree) tree in
    performs_quiet g.H.Host.tells g.H.Host.seen 0 first no_devices no_devices c.give_up.result.ending c.give_up.result.state command mid (advances_quiet g.H.Host.tells first mid e.same e.cause.later)
    (performs_of _ _ _ _ _ _ _ c.of_tree-in-Err-NoMemory.ensures (c.give_up.ensures command))
