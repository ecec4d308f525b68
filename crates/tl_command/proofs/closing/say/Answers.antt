use Rattle.std.proofs.Common.{refl}
use Rattle.tl_command.specs.Endings.{no_devices}
use Rattle.tl_command.specs.Runs.{saying}
use Rattle.tl_command.proofs.Says.{performs_said, performs_cut_text}
use Rattle.tl_command.proofs.closing.say.Goals as goal

pub returns-in-Ok : goal.returns-in-Ok
returns-in-Ok g c =
    let e = c.in-Ok.ensures in
    performs_said g.H.Host.tells g.H.Host.seen c.args.session no_devices no_devices c.args.bytes.now c.in-Ok.session c.requires e.says e.cause.later

pub returns-in-Err : goal.returns-in-Err
returns-in-Err g c =
    let e = c.in-Err.ensures in
    let host = c.in-Err.host in
    performs_cut_text g.H.Host.tells g.H.Host.seen c.args.session no_devices no_devices (λ _. saying c.args.bytes.now) c.args.bytes.now host (g.H.Host.seen host) refl (λ _. refl) c.requires
    e.says e.cause.later e.cause.failed
