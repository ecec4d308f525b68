-- Why a file of a tree isn't read.
use Rattle.std.specs.Prelude.{◌≡◌, ◌<◌, ℕ, List, length}
use Rattle.tl_kind.specs.Quantities.{limit_of}
use Rattle.tl_kind.specs.declared.quantity.What.{What}
use Rattle.tl_tree.specs.declared.contents.ContentsError.{ContentsError}
use Rattle.tl_tree.specs.declared.contents.ContentsError.TheVariants.{TooLarge, HostFault, NoMemory}

-- the cause of each refusal of a file that has these bytes, where it may have so many as the quantity; a fault and want of memory have
-- theirs elsewhere
abbrev pub IsContentsError : What → List ℕ → ContentsError → Type 0
IsContentsError what bytes (TooLarge named limit) = (limit_of what < length bytes) × (named ≡ what) × (limit ≡ limit_of what)
IsContentsError what bytes HostFault = Unit {0}
IsContentsError what bytes NoMemory = Unit {0}
