-- A run as a list of events, and what was seen of a host while it was made.
use Rattle.std.specs.Prelude.{◌≡◌, ◌⊎◌, ◌≤◌, ◌+◌, ℕ, zero, suc, List, [], ◌∷◌, ◌++◌, Option, Some}
use Rattle.tl_model.specs.Volume.{Volume}
use Rattle.tl_model.specs.Seen.{Seen, Since, IsPicture, at_rest}
use Rattle.tl_model.specs.Acks.{acks, IsPlain, IsLabel}

-- bytes that are said, or a step to a next tree with the line that acknowledges it
pub data Event : Type 0 where
  Text : (bytes : List ℕ) → Event
  Step : (next : Volume) (label : List ℕ) → Event

-- the bytes that a run says
abbrev pub said_by : List Event → List ℕ
said_by [] = []
said_by (Text bytes ∷ events) = bytes ++ said_by events
said_by (Step next label ∷ events) = label ++ said_by events

-- how many steps a run has
abbrev pub steps_of : List Event → ℕ
steps_of [] = 0
steps_of (Text bytes ∷ events) = steps_of events
steps_of (Step next label ∷ events) = suc (steps_of events)

-- the tree after all steps
abbrev pub tree_after : List Event → Volume → Volume
tree_after [] tree = tree
tree_after (Text bytes ∷ events) tree = tree_after events tree
tree_after (Step next label ∷ events) tree = tree_after events next

-- the tree after so many steps
abbrev pub tree_at : ℕ → List Event → Volume → Volume
tree_at count [] tree = tree
tree_at count (Text bytes ∷ events) tree = tree_at count events tree
tree_at zero (Step next label ∷ events) tree = tree
tree_at (suc count) (Step next label ∷ events) tree = tree_at count events next

-- each text is whole lines without an acknowledgement, each label is one line that is one
abbrev pub AreLines : List Event → Type 0
AreLines [] = Unit {0}
AreLines (Text bytes ∷ events) = IsPlain bytes × AreLines events
AreLines (Step next label ∷ events) = IsLabel label × AreLines events

-- as many steps as were acknowledged, or one more
pub record IsCount (steps acknowledged : ℕ) : Type 0 where
  pub least : acknowledged ≤ steps
  pub most : steps ≤ acknowledged + 1

-- bytes that some others begin with
abbrev pub IsFront : List ℕ → List ℕ → Type 0
IsFront front bytes = (more : List ℕ) × (bytes ≡ front ++ more)

-- what a volume stands for is given: the tree that recovery makes of it
module _ (stand : Volume → Option Volume) where
  -- an image stands for the tree after so many steps of a run as the bytes said since its start acknowledge, or one more
  pub record IsStop (events : List Event) (tree image : Volume) (said : List ℕ) : Type 0 where
    pub steps : ℕ
    pub within : steps ≤ steps_of events
    pub stands : stand image ≡ Some (tree_at steps events tree)
    pub count : IsCount steps (acks said)

  -- a picture since first, with a front of the run's bytes said: the run was stopped there; or no line was acknowledged, and
  -- the image is one that could be left at first
  abbrev pub IsCut : Seen → List Event → Volume → Volume → List ℕ → Type 0
  IsCut first events tree image said =
      (more : List ℕ) × (said ≡ first.present.said ++ more) × IsFront more (said_by events)
      × (IsStop events tree image more ⊎ ((acks more ≡ 0) × IsPicture (at_rest first.present) image first.present.said))

  -- each picture from first to last is a cut of the run
  abbrev pub Pictures : Seen → Seen → Volume → List Event → Type 0
  Pictures first last tree events = Since first last (IsCut first events tree)

  -- the run was made whole
  pub record Trace (first last : Seen) (tree : Volume) (events : List Event) : Type 0 where
    pub lines : AreLines events
    pub said : last.present.said ≡ first.present.said ++ said_by events
    pub stands : stand last.present.held ≡ Some (tree_after events tree)
    pub pictures : Pictures first last tree events

  -- the run was cut off by a fault: a front of its bytes was said
  pub record Cut (first last : Seen) (tree : Volume) (events : List Event) : Type 0 where
    pub more : List ℕ
    pub said : last.present.said ≡ first.present.said ++ more
    pub front : IsFront more (said_by events)
    pub stop : IsStop events tree last.present.held more
    pub pictures : Pictures first last tree events

  -- the run gave up between its steps: a front of its bytes was said, and each step that was made is acknowledged
  pub record Paused (first last : Seen) (tree : Volume) (events : List Event) : Type 0 where
    pub more : List ℕ
    pub said : last.present.said ≡ first.present.said ++ more
    pub front : IsFront more (said_by events)
    pub within : acks more ≤ steps_of events
    pub stands : stand last.present.held ≡ Some (tree_at (acks more) events tree)
    pub pictures : Pictures first last tree events
