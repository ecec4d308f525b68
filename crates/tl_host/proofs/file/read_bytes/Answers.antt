use Rattle.std.proofs.Common.{◌≡◌, List, ℕ, length, take, drop, subst, sym, arith, rules}
use Rattle.tl_model.specs.Pictures.{quiet_join}
use Rattle.tl_host.specs.Reading.{HasRead, held_at, read_more}
use Rattle.tl_host.proofs.file.read_bytes.Goals as goal

pub returns-in_err-count-clause-same : goal.returns-in_err-count-clause-same
returns-in_err-count-clause-same g c t = quiet_join _ _ _ (c.loop-name.invariant.read t).quiet (c.read.ensures.same t)

pub returns-in_err-extend_from_slice-clause-same : goal.returns-in_err-extend_from_slice-clause-same
returns-in_err-extend_from_slice-clause-same g c t = quiet_join _ _ _ (c.loop-name.invariant.read t).quiet (c.read.ensures.same t)

pub loop-name-preserved : goal.loop-name-preserved
loop-name-preserved g c =
    let s = g.H.Host.seen in record {
      read = λ t.
          let length_is : c.len-in-loop-name.result ≡ length c.loop-name.bytes.items = search rules in
          let piece = take c.in_ok-count.count c.read.new.into in
          let whole = length c.read.new.into in
          let at_name : piece ≡ take whole (drop c.len-in-loop-name.result (held_at (s c.loop-name.host) c.args.name)) =
          subst (λ (n : List ℕ). piece ≡ take whole (drop c.len-in-loop-name.result (held_at (s c.loop-name.host) n))) c.again.ensures (c.in_ok-count.ensures.bytes t) in
          let at_place : piece ≡ take whole (drop (length c.loop-name.bytes.items) (held_at (s c.loop-name.host) c.args.name)) =
          subst (λ (k : ℕ). piece ≡ take whole (drop k (held_at (s c.loop-name.host) c.args.name))) length_is at_name in
          let more = read_more (s c.args.host.now) (s c.loop-name.host) (s c.read.new.self) c.args.name c.loop-name.bytes.items piece whole (c.loop-name.invariant.read t) (c.read.ensures.same t) at_place in
          subst (λ (l : List ℕ). HasRead (s c.args.host.now) (s c.read.new.self) c.args.name l) (sym (c.in_ok-extend_from_slice.ensures.items)) more;
      later = omega arith;
    }
