use Rattle.std.proofs.Common.{◌≡◌, [], refl, sym, subst, List}
use Rattle.tl_entry.specs.Copies.{less_containers}
use Rattle.tl_frame.specs.Scan.{Token, scan, magic_from, field_from, tokens_of}
use Rattle.tl_fetch.specs.Containers.{part_paths}
use Rattle.tl_fetch.specs.Unpacked.{Follows, awaiting, unpacked}
use Rattle.tl_fetch.proofs.UnpackLemmas.{fresh_follows}
use Rattle.tl_fetch.proofs.intake.Intake.new.Goals as goal

none_told : tokens_of [] ≡ []
unfolding scan magic_from field_from
none_told = refl

pub returns : goal.returns
returns c tells sink is_open = record {
  holds = c.new-2.ensures;
  fed = c.new-3.ensures.fed;
  live = c.new-3.ensures.live;
  follows =
      let entry = less_containers c.args.entry.now in
      let paths = part_paths c.args.entry.now c.args.part in
      subst (λ (l : List Token). Follows tells entry sink sink c.in_ok-unpacking.unpacking (unpacked entry (awaiting paths) l)) (sym none_told)
      (fresh_follows tells entry paths sink c.in_ok-unpacking.unpacking c.in_ok-unpacking.ensures is_open);
}
