use Rattle.std.proofs.Common.{◌≡◌, ◌∙◌, ◌-◌, ◌<◌, suc, ℕ, true, false, cond, List, Option, length, take, reverse, sym, ap, arith}
use Rattle.std.specs.Borrow.{Bor}
use Rattle.std.specs.Option.{option_map}
use Rattle.std.specs.FinSet as set
use Rattle.tl_model.specs.Volume.{at}
use Rattle.tl_memhost.specs.Record.{touched_of}
use Rattle.tl_memhost.specs.Stop.{is_sync}
use Rattle.tl_memhost.proofs.Filled.{fill_back, fill_stop, fill_end}
use Rattle.tl_memhost.proofs.stop.fill_touched.Goals as goal

abbrev given : Option (Bor (List ℕ)) → Option (List ℕ)
given o = option_map (λ (b : Bor (List ℕ)). b.now) o

pub loop-count-preserved : goal.loop-count-preserved
loop-count-preserved c =
    let some : c.loop-count.count ≡ suc (c.loop-count.count - 1) = omega arith in
    let lt : c.loop-count.count - 1 < length c.args.record.now = omega (arith, c.loop-count.invariant.within) in
    let b = given c.args.bytes in
    let sync : is_sync c.index-record-count.result.did ≡ false = sym c.is_sync.ensures ∙ c.if-is_sync.false in
    record {
      within = omega (arith, c.loop-count.invariant.within);
      same = λ name. c.loop-count.invariant.same name
          ∙ ap (λ (n : ℕ). cond (set.contains (touched_of (reverse (take n c.args.record.now))) name) b (at c.loop-count.files name)) some
          ∙ fill_back c.args.record.now (c.loop-count.count - 1) c.index-record-count.result b c.loop-count.files c.give_named.new.files lt c.index-record-count.is sync c.in_ok-give_named.ensures name;
    }

pub returns-after-loop-count : goal.returns-after-loop-count
returns-after-loop-count c = λ name.
    let none : c.loop-count.count ≡ 0 = omega arith in
    let b = given c.args.bytes in
    sym (c.loop-count.invariant.same name
    ∙ ap (λ (n : ℕ). cond (set.contains (touched_of (reverse (take n c.args.record.now))) name) b (at c.loop-count.files name)) none
    ∙ fill_end c.args.record.now b c.loop-count.files name)

pub returns-then-is_sync : goal.returns-then-is_sync
returns-then-is_sync c = λ name.
    let some : c.loop-count.count ≡ suc (c.loop-count.count - 1) = omega arith in
    let lt : c.loop-count.count - 1 < length c.args.record.now = omega (arith, c.loop-count.invariant.within) in
    let b = given c.args.bytes in
    let sync : is_sync c.index-record-count.result.did ≡ true = sym c.is_sync.ensures ∙ c.if-is_sync.true in
    sym (c.loop-count.invariant.same name
    ∙ ap (λ (n : ℕ). cond (set.contains (touched_of (reverse (take n c.args.record.now))) name) b (at c.loop-count.files name)) some
    ∙ fill_stop c.args.record.now (c.loop-count.count - 1) c.index-record-count.result b c.loop-count.files lt c.index-record-count.is sync name)
