use Rattle.std.proofs.Common.{◌≡◌, ◌&&◌, ℕ, List, take}
use Rattle.std.specs.Str.{bytes_eq}
use Rattle.std.specs.List.{list_any}
use Rattle.std.specs.HashSet.{contains_text}
use Rattle.tl_trigger.specs.Stale.{is_changed}
use Rattle.tl_trigger.proofs.known.changed_names.Given as goal

abbrev pub invariant-loop-name : goal.invariant-loop-name
invariant-loop-name l = (text : List ℕ) → contains_text l.names text ≡ list_any (λ n. is_changed l.old l.new n && bytes_eq n text) (take l.name-index l.changed)
