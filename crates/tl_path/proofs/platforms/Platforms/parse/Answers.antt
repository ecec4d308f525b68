use Rattle.std.proofs.Common.{◌≡◌, ◌++◌, ◌∷◌, [], sym, ap, ◌∙◌, subst}
use Rattle.std.specs.List.{slice_split}
use Rattle.tl_path.specs.Bytes.{is_blank}
use Rattle.tl_path.specs.Inside.{parts_left}
use Rattle.tl_path.specs.Platforms.{ArePlatforms, AreListed}
use Rattle.tl_path.proofs.Listed.{last_platform, refused, taken}
use Rattle.tl_path.proofs.Listing.{ReadSoFar, read_start, read_empty, read_word, bad_word, read_all, full_part, empty_part}
use Rattle.tl_path.proofs.platforms.Platforms.parse.Goals as goal
use Rattle.tl_path.proofs.platforms.Platforms.parse.Goals.{then-not-is_empty+else-is_refused+in_ok-add, else-not-is_empty}

pub loop-part-init : goal.loop-part-init
loop-part-init c =
    let all : parts_left c.into_iter-part-iterator.result ≡ slice_split is_blank c.args.text.now
    = ap parts_left c.into_iter-part-iterator.ensures.into_iter_gives ∙ c.of-part-items.ensures in
    record { can = tt; ends = tt; read = rw c.new-names.ensures.items (read_start c.args.text.now (parts_left c.into_iter-part-iterator.result) all) }

pub returns-then-is_refused : goal.returns-then-is_refused
returns-then-is_refused c =
    bad_word c.args.text.now c.loop-part.names.items c.loop-part.at c.in-Some.part.now (parts_left c.next.new.self)
    (full_part c.in-Some.part.now (sym c.is_empty.ensures ∙ c.if-not-is_empty.true))
    (refused c.deref.result.now c.in-Some.part.now c.is_refused.result c.is_refused.ensures c.if-is_refused.true c.loop-part.names.items c.deref.ensures.value)
    (subst (ReadSoFar c.args.text.now c.loop-part.names.items c.loop-part.at) c.in-Some.ensures.steps c.loop-part.invariant.read)

pub add-requires : goal.add-requires
add-requires c =
    last_platform c.loop-part.names.items c.in-Some.part.now
    (taken c.deref.result.now c.in-Some.part.now c.is_refused.result c.is_refused.ensures c.if-is_refused.false c.loop-part.names.items c.deref.ensures.value)

pub loop-part-preserved : goal.loop-part-preserved
loop-part-preserved c =
    let here : ReadSoFar c.args.text.now c.loop-part.names.items c.loop-part.at (c.in-Some.part.now ∷ parts_left c.next.new.self) =
    subst (ReadSoFar c.args.text.now c.loop-part.names.items c.loop-part.at) c.in-Some.ensures.steps c.loop-part.invariant.read in
    elim c.if-not-is_empty.branch [
      | then-not-is_empty+else-is_refused+in_ok-add w ↦
          let more : ArePlatforms (c.loop-part.names.items ++ c.in-Some.part.now ∷ []) =
          taken w.deref.result.now c.in-Some.part.now w.is_refused.result w.is_refused.ensures w.if-is_refused.false c.loop-part.names.items w.deref.ensures.value in
          record {
            can = tt;
            ends = tt;
            read = rw (w.names-is, w.in_ok-add.ensures) (read_word c.args.text.now c.loop-part.names.items c.loop-part.at c.in-Some.part.now (parts_left c.next.new.self)
                (full_part c.in-Some.part.now (sym c.is_empty.ensures ∙ w.if-not-is_empty.true)) more here);
          }
      | else-not-is_empty w ↦ record {
        can = tt;
        ends = tt;
        read = rw w.names-is (read_empty c.args.text.now c.loop-part.names.items c.loop-part.at c.in-Some.part.now (parts_left c.next.new.self)
            (empty_part c.in-Some.part.now (sym c.is_empty.ensures ∙ w.if-not-is_empty.false)) here);
      }
    ]

pub returns : goal.returns
returns c =
    read_all c.args.text.now c.loop-part.names.items c.loop-part.at c.sort_unstable.new.self.items
    (subst (ReadSoFar c.args.text.now c.loop-part.names.items c.loop-part.at) c.in-None.ensures.steps.0 c.loop-part.invariant.read)
    c.sort_unstable.ensures.permutation c.sort_unstable.ensures.sorted

pub invariant_of-result : goal.invariant_of-result
invariant_of-result c = let listed : AreListed c.args.text.now c.sort_unstable.new.self.items = returns c in listed.order
