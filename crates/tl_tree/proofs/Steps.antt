-- A step, from what is staged to its label.
use Rattle.std.proofs.Common.{◌≡◌, ℕ, List, [], ◌∷◌, ◌++◌, Some, take, refl, sym, ◌∙◌, ap, subst, inr, arith}
use Rattle.tl_model.specs.Volume.{Volume}
use Rattle.tl_model.specs.Seen.{Seen, Since}
use Rattle.tl_model.specs.Pictures.{reads_back, since_join, since_weaker}
use Rattle.tl_model.specs.Acks.{IsLabel}
use Rattle.tl_model.specs.Joins.{pictures_start}
use Rattle.tl_model.specs.Trace.{Event, Step, Trace, Cut, Pictures}
use Rattle.tl_journal_text.specs.Stand.{stand, tree_of, IsBeforeOrAfter}
use Rattle.tl_journal.specs.States.{staged}
use Rattle.tl_journal.specs.Spent.{Commits, HasCommitted, CarriesOut}
use Rattle.tl_tree.specs.Traces.{commit_pictures, halted_cut, label_pictures, step_trace, step_cut}
use Rattle.tl_tree.specs.Staged.{IsMade, IsHalted, IsFrontSaid, next_tree}

module _ (label : List ℕ) (is_label : IsLabel label) (first : Seen) where
  abbrev tree : Volume
  tree = tree_of first.present.held

  abbrev step : List Event
  step = Step (next_tree first) label ∷ []

  -- the fault came while the records were made stable or carried out
  pub cut_making : (last : Seen) → IsHalted first last → Cut stand first last tree step
  cut_making last halted = halted_cut first tree (next_tree first) label is_label first last (staged first) refl refl refl (pictures_start stand first step tree) halted.pictures

  made_pictures : (done : Seen) → IsHalted first done → Pictures stand first done tree step
  made_pictures done halted = commit_pictures first tree (next_tree first) label is_label done (staged first) refl refl halted.pictures

  -- it was made whole
  pub trace_done : (done last : Seen) → IsMade first done → IsHalted first done → IsFrontSaid label done last → last.present.said ≡ done.present.said ++ label → Trace stand first last tree step
  trace_done done last made halted front whole =
      step_trace first tree (next_tree first) label is_label last (ap stand front.held ∙ made.stands) (whole ∙ ap (λ (l : List ℕ). l ++ label) made.said)
      (label_pictures first tree (next_tree first) label is_label done last made.stands made.said (made_pictures done halted) front.pictures)

  -- the fault came while the label was said
  pub cut_saying : (done last : Seen) → IsMade first done → IsHalted first done → IsFrontSaid label done last → Cut stand first last tree step
  cut_saying done last made halted front =
      step_cut first tree (next_tree first) label is_label last front.count (ap stand front.held ∙ made.stands) (front.said ∙ ap (λ (l : List ℕ). l ++ take front.count label) made.said)
      (label_pictures first tree (next_tree first) label is_label done last made.stands made.said (made_pictures done halted) front.pictures)

-- what is carried out stands for what was made stable
carried : (old mid new : Seen) → HasCommitted old mid → Commits old mid → CarriesOut mid new → Since old new (IsBeforeOrAfter (staged old) old)
carried old mid new committed commits out =
    since_join old mid new _ commits.pictures (since_weaker mid new _ _ (λ image words picture. (inr (picture.0 ∙ committed.stands), picture.1 ∙ commits.said)) out.stays)

-- the fault came before the records were made stable
pub halted_early : (old new : Seen) → Commits old new → IsHalted old new
halted_early old new commits = record { pictures = commits.pictures; syncs = commits.syncs }

-- it came later, or none came
pub halted_of : (old mid new last : Seen) → last ≡ new → HasCommitted old mid → Commits old mid → CarriesOut mid new → IsHalted old last
halted_of old mid new last is committed commits out = subst (λ (s : Seen). IsHalted old s) (sym is) (record {
  pictures = carried old mid new committed commits out;
  syncs = omega (arith, commits.syncs, out.syncs);
})

pub made_of : (old mid new last : Seen) → last ≡ new → HasCommitted old mid → Commits old mid → stand mid.present.held ≡ Some (tree_of new.present.held) → CarriesOut mid new → IsMade old last
made_of old mid new last is committed commits tree out =
    let here = out.stays.present new.present.held new.present.said (reads_back new) in
    subst (λ (s : Seen). IsMade old s) (sym is) (record {
      tree = some_same (sym tree ∙ committed.stands);
      stands = here.0 ∙ committed.stands;
      said = here.1 ∙ commits.said;
    })
  where
    some_same : Some (tree_of new.present.held) ≡ Some (next_tree old) → tree_of new.present.held ≡ next_tree old
    some_same e = cc
