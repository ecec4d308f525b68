use Rattle.std.proofs.Common.{◌≡◌, ◌++◌, take}
use Rattle.std.specs.Prelude.{codes, string_bytes}
use Rattle.std.specs.List.{flat_map}
use Rattle.tl_model.specs.Lines.{IsLine}
use Rattle.tl_install.specs.Labels.{coming_text}
use Rattle.tl_install.proofs.labels.push_more.Given as goal

abbrev pub invariant-loop-part : goal.invariant-loop-part
invariant-loop-part l = record {
  text : string_bytes l.text ≡ string_bytes l.initial.text ++ flat_map (λ next. codes ", " ++ coming_text l.repos next) (take l.part-index l.more);
  line : IsLine (string_bytes l.text);
}
