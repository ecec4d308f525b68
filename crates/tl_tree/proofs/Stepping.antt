-- A step none of whose bytes come later: it is opened and made in one call.
use Rattle.std.proofs.Common.{◌≡◌, ℕ, false, List, [], ◌∷◌, Some, refl, ◌∙◌, ap, subst}
use Rattle.std.specs.FinSet as set
use Rattle.tl_model.specs.Volume.{Name, Volume}
use Rattle.tl_model.specs.Seen.{Seen}
use Rattle.tl_model.specs.Acks.{IsLabel}
use Rattle.tl_model.specs.Trace.{Step, Trace, Cut}
use Rattle.tl_model.specs.Joins.{trace_join, cut_join}
use Rattle.tl_journal_text.specs.Stand.{stand, tree_of}
use Rattle.tl_journal.specs.Spent.{Stages}
use Rattle.tl_entry.specs.declared.object.Object.{Object}
use Rattle.tl_tree.specs.declared.change.Part.{Part}
use Rattle.tl_tree.specs.declared.change.Part.TheVariants.{Put, Remove, Entry, Write, Erase, Stream, Later}
use Rattle.tl_tree.specs.declared.error.StepError.{StepError}
use Rattle.tl_tree.specs.declared.error.StepError.TheVariants.{HostFault, NoMemory, TooLarge}
use Rattle.tl_tree.specs.Planted.{Planted, planted}
use Rattle.tl_tree.specs.Changes.{changed, later}
use Rattle.tl_tree.specs.Conditions.{has_later}
use Rattle.tl_tree.specs.Filled.{filled}
use Rattle.tl_tree.specs.Packages.{ReplacesWhole}
use Rattle.tl_tree.specs.Opened.{Opened, begun, given, IsWhole}
use Rattle.tl_tree.specs.Answers.{IsLostStep, IsStepped, step_of}
use Rattle.tl_tree.specs.Traces.{stays_trace, staged_cut}

-- where no bytes come later, no path is awaited, and no file is given
pub late_none : (parts : List Part) → has_later parts ≡ false → later parts ≡ []
late_none [] none = refl
late_none (Put entry files ∷ parts) none = late_none parts none
late_none (Remove name ∷ parts) none = late_none parts none
late_none (Entry entry ∷ parts) none = late_none parts none
late_none (Write path bytes ∷ parts) none = late_none parts none
late_none (Erase path ∷ parts) none = late_none parts none
late_none (Stream entry ∷ parts) none = absurd (cc)
late_none (Later paths ∷ parts) none = absurd (cc)

pub filled_none : (files : List (Name × List ℕ)) (parts : List Part) → has_later parts ≡ false → filled files parts ≡ parts
filled_none files [] none = refl
filled_none files (Put entry own ∷ parts) none = ap (λ (l : List Part). Put entry own ∷ l) (filled_none files parts none)
filled_none files (Remove name ∷ parts) none = ap (λ (l : List Part). Remove name ∷ l) (filled_none files parts none)
filled_none files (Entry entry ∷ parts) none = ap (λ (l : List Part). Entry entry ∷ l) (filled_none files parts none)
filled_none files (Write path bytes ∷ parts) none = ap (λ (l : List Part). Write path bytes ∷ l) (filled_none files parts none)
filled_none files (Erase path ∷ parts) none = ap (λ (l : List Part). Erase path ∷ l) (filled_none files parts none)
filled_none files (Stream entry ∷ parts) none = absurd (cc)
filled_none files (Later paths ∷ parts) none = absurd (cc)

module _ (tree : Planted) (parts : List Part) (label : List ℕ) where
  -- such a step is whole as it begins
  pub begun_whole : (step : Opened) → step ≡ begun tree parts label step.seen → has_later parts ≡ false → IsWhole step
  begun_whole step is none = record {
    all = ap (λ (s : Opened). s.awaits) is ∙ ap (λ (l : List Name). set.from_list l) (late_none parts none);
    last = ap (λ (s : Opened). s.lacks) is;
    in_place = ap (λ (s : Opened). s.astray) is;
  }

  abbrev here : Volume
  here = tree_of tree.seen.present.held

  -- it wasn't opened
  pub lost_opening : (fault : StepError) (last : Seen) → IsLabel label → stand tree.seen.present.held ≡ Some here → Stages tree.seen last → IsLostStep tree parts label fault last
  lost_opening HostFault last is_label stood stages = staged_cut tree.seen here (changed tree.db parts here) label is_label last stood stages.stays
  lost_opening NoMemory last is_label stood stages = (stays_trace tree.seen last here stood stages.stays, stages.syncs)
  lost_opening (TooLarge what limit) last is_label stood stages = (stays_trace tree.seen last here stood stages.stays, stages.syncs)

  -- what was made of the step that was opened was made of the tree
  module _ (step : Opened) (is : step ≡ begun tree parts label step.seen) (none : has_later parts ≡ false) (stood : stand tree.seen.present.held ≡ Some here) (stages : Stages tree.seen step.seen) where
    filled_is : filled (given step) step.parts ≡ parts
    filled_is = ap (λ (s : Opened). filled (given step) s.parts) is ∙ filled_none (given step) parts none

    opening : Trace stand tree.seen step.seen here []
    opening = stays_trace tree.seen step.seen here stood stages.stays

    -- the step that is made of it
    made_is : (R : Volume → List Object → List Part → List ℕ → Type 0) → R (tree_of step.seen.present.held) step.db (filled (given step) step.parts) step.label → R here tree.db parts label
    made_is R now =
        subst (λ (v : Volume). R v tree.db parts label) stages.tree
        (subst (λ (d : List Object). R (tree_of step.seen.present.held) d parts label) (ap (λ (s : Opened). s.db) is)
        (subst (λ (ps : List Part). R (tree_of step.seen.present.held) step.db ps label) filled_is
        (subst (λ (l : List ℕ). R (tree_of step.seen.present.held) step.db (filled (given step) step.parts) l) (ap (λ (s : Opened). s.label) is) now)))

    pub step_stepped : (new : Planted) → IsStepped (planted step.seen step.db) (filled (given step) step.parts) step.label new → IsStepped tree parts label new
    step_stepped new made = record {
      tree = made_is (λ v db ps l. tree_of new.seen.present.held ≡ changed db ps v) made.tree;
      trace = trace_join stand tree.seen step.seen new.seen here [] (step_of tree parts label ∷ []) opening
          (made_is (λ v db ps l. Trace stand step.seen new.seen v (Step (changed db ps v) l ∷ [])) made.trace);
      packages = made_is (λ v db ps l. ReplacesWhole db ps v new.db (tree_of new.seen.present.held)) made.packages;
    }

    pub step_lost : (last : Seen) → Cut stand step.seen last (tree_of step.seen.present.held) (step_of (planted step.seen step.db) (filled (given step) step.parts) step.label ∷ [])
        → IsLostStep tree parts label HostFault last
    step_lost last cut = cut_join stand tree.seen step.seen last here [] (step_of tree parts label ∷ []) opening (made_is (λ v db ps l. Cut stand step.seen last v (Step (changed db ps v) l ∷ [])) cut)
