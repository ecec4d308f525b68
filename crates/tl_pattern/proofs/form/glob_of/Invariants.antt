use Rattle.std.proofs.Common.{◌≡◌, ◌∷◌}
use Rattle.tl_path.specs.Components.{components}
use Rattle.tl_path.specs.Inside.{components_left}
use Rattle.tl_pattern.specs.Form.{last_of, has_plain_folder}
use Rattle.tl_pattern.proofs.form.glob_of.Given as goal

abbrev pub invariant-loop-component : goal.invariant-loop-component
invariant-loop-component l = record {
  plain : has_plain_folder (l.last ∷ components_left l.component-iterator) ≡ has_plain_folder (components l.path);
  last : last_of (l.last ∷ components_left l.component-iterator) ≡ last_of (components l.path);
}
