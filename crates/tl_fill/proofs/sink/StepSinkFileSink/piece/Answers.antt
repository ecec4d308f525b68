use Rattle.std.proofs.Common.{◌≡◌, ◌≤◌, Option, Some, length, sym, subst, rules}
use Rattle.tl_fetch.specs.Sinks.{behind_last}
use Rattle.tl_fill.specs.StepSinks.{sink_seen}
use Rattle.tl_fill.specs.declared.sink.Held.{Held}
use Rattle.tl_fill.specs.declared.sink.Held.TheVariants.{Open, Lost}
use Rattle.tl_fill.proofs.SinkLemmas.{given_brought, goes_brought, since_failed, since_step}
use Rattle.tl_fill.proofs.sink.StepSinkFileSink.piece.Goals as goal

pub returns-in-Ok-clause-since : goal.returns-in-Ok-clause-since
returns-in-Ok-clause-since g c first since =
    let e = c.in-Ok.ensures in
    let seen = g.H.Host.seen in
    let old = c.in-Some-Open.step in
    let new = c.in-Ok.step in
    let was : c.args.self.now.held ≡ Some (Open old) = search rules in
    let is : c.keep.new.self.held ≡ Some (Open new) = search rules in
    let same : c.keep.new.self.later ≡ c.args.self.now.later = search rules in
    let lacking = subst (λ (h : Option (Held g.row.H.Denot)). length c.args.bytes.now ≤ (sink_seen seen h c.args.self.now.later).lacks) was c.requires in
    since_step g.H.Host.tells seen first.held c.args.self.now.held c.keep.new.self.held first.later c.args.self.now.later c.keep.new.self.later old new was is same since
    (goes_brought seen c.args.self.now.later c.args.self.now.later old new c.args.bytes.now lacking e.step g.H.Host.tells e.stages e.cause.later)

pub returns-in-Ok-clause-given : goal.returns-in-Ok-clause-given
returns-in-Ok-clause-given g c t =
    let e = c.in-Ok.ensures in
    let seen = g.H.Host.seen in
    let old = c.in-Some-Open.step in
    let new = c.in-Ok.step in
    let later = c.args.self.now.later in
    let was : c.args.self.now.held ≡ Some (Open old) = search rules in
    let is : c.keep.new.self.held ≡ Some (Open new) = search rules in
    let lacking = subst (λ (h : Option (Held g.row.H.Denot)). length c.args.bytes.now ≤ (sink_seen seen h later).lacks) was c.requires in
    subst (λ (h : Option (Held g.row.H.Denot)). (sink_seen seen c.keep.new.self.held c.keep.new.self.later).given ≡ behind_last c.args.bytes.now (sink_seen seen h later).given) (sym was)
    (subst (λ (h : Option (Held g.row.H.Denot)). (sink_seen seen h c.keep.new.self.later).given ≡ behind_last c.args.bytes.now (sink_seen seen (Some (Open old)) later).given) (sym is)
    (given_brought seen later c.keep.new.self.later old new c.args.bytes.now lacking (e.given t)))

pub returns-in-Err-clause-since : goal.returns-in-Err-clause-since
returns-in-Err-clause-since g c first since =
    let e = c.in-Err.ensures in
    let seen = g.H.Host.seen in
    let old = c.in-Some-Open.step in
    let host = c.in-Err.lost.host in
    let was : c.args.self.now.held ≡ Some (Open old) = search rules in
    let is : c.keep-in-Err.new.self.held ≡ Some (Lost host) = search rules in
    since_failed g.H.Host.tells seen first.held c.args.self.now.held c.keep-in-Err.new.self.held first.later c.args.self.now.later c.keep-in-Err.new.self.later old host was is since
    (record { stages = e.stages; later = e.cause.later; rose = e.cause.failed })
