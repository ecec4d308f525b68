-- What the journal's clauses say of a run: a call between two steps is a run without events, a commit and what follows it is a
-- step.
use Rattle.std.specs.Prelude.{◌≡◌, ◌⊎◌, ℕ, zero, suc, List, [], ◌∷◌, ◌++◌, take, drop, Some, refl}
use Rattle.std.proofs.Common.{sym, ◌∙◌, ap, subst, inl, inr, arith, append_assoc}
use Rattle.std.proofs.lemmas.List.{append-nil, take-append-drop}
use Rattle.tl_model.specs.Volume.{Volume}
use Rattle.tl_model.specs.Seen.{Seen, Since}
use Rattle.tl_model.specs.Pictures.{since_weaker, since_join, reads_back}
use Rattle.tl_model.specs.Acks.{acks-nil, acks-take-le, IsLabel}
use Rattle.tl_model.specs.Trace.{Event, Step, tree_after, IsStop, IsCut, Pictures, Trace, Cut}
use Rattle.tl_model.specs.Joins.{trace_join, cut_join}
use Rattle.tl_journal_text.specs.Records.{Record, after}
use Rattle.tl_journal_text.specs.Stand.{stand, tree_of, Stays, IsBeforeOrAfter, IsResumed, SaysFront}

-- what holds of each picture since old holds of the volume as it reads
reads_as : (old new : Seen) (P : Volume → List ℕ → Type 0) → Since old new P → P new.present.held new.present.said
reads_as old new P since = since.present new.present.held new.present.said (reads_back new)

-- a picture that stands for the tree, with no more said
still_cut : (first : Seen) (tree image : Volume) (said : List ℕ) → stand image ≡ Some tree → said ≡ first.present.said → IsCut stand first [] tree image said
still_cut first tree image said stands is = (
  [],
  is ∙ sym (append-nil first.present.said),
  ([], refl),
  inl (record {
    steps = 0;
    within = omega arith;
    stands = stands;
    count = record { least = omega (arith, acks-nil); most = omega arith };
  }),
)

stays_pictures : (first last : Seen) (tree : Volume) → stand first.present.held ≡ Some tree → Stays first last → Pictures stand first last tree []
stays_pictures first last tree stood stays =
    since_weaker first last _ _ (λ image said here. still_cut first tree image said (here.0 ∙ stood) here.1) stays

no_bytes : (n : ℕ) → let none : List ℕ = [] in take n none ≡ none
no_bytes zero = refl
no_bytes (suc n) = refl

resumed_cut : (first : Seen) (tree image : Volume) (said : List ℕ) → stand first.present.held ≡ Some tree → IsResumed first image said → IsCut stand first [] tree image said
resumed_cut first tree image said stood (inl here) = still_cut first tree image said (here.0 ∙ stood) here.1
resumed_cut first tree image said stood (inr picture) = (
  [],
  picture.words ∙ ap (λ (l : List ℕ). first.present.said ++ l) (no_bytes picture.count),
  ([], refl),
  inr (acks-nil, record { others = picture.others; count = 0; words = sym (append-nil first.present.said) }),
)

resumed_pictures : (first last : Seen) (tree : Volume) → stand first.present.held ≡ Some tree → Since first last (IsResumed first) → Pictures stand first last tree []
resumed_pictures first last tree stood since = since_weaker first last _ _ (λ image said here. resumed_cut first tree image said stood here) since

trace_nothing : (first last : Seen) (tree : Volume) → stand last.present.held ≡ Some tree → last.present.said ≡ first.present.said → Pictures stand first last tree [] → Trace stand first last tree []
trace_nothing first last tree stands said pictures = record {
  lines = tt;
  said = said ∙ sym (append-nil first.present.said);
  stands = stands;
  pictures = pictures;
}

cut_nothing : (first last : Seen) (tree : Volume) → stand last.present.held ≡ Some tree → last.present.said ≡ first.present.said → Pictures stand first last tree [] → Cut stand first last tree []
cut_nothing first last tree stands said pictures = record {
  more = [];
  said = said ∙ sym (append-nil first.present.said);
  front = ([], refl);
  stop = record {
    steps = 0;
    within = omega arith;
    stands = stands;
    count = record { least = omega (arith, acks-nil); most = omega arith };
  };
  pictures = pictures;
}

-- each picture stands for what the volume stood for: a run without events, whole or cut off
pub stays_trace : (first last : Seen) (tree : Volume) → stand first.present.held ≡ Some tree → Stays first last → Trace stand first last tree []
stays_trace first last tree stood stays =
    let here = reads_as first last _ stays in
    trace_nothing first last tree (here.0 ∙ stood) here.1 (stays_pictures first last tree stood stays)

pub stays_cut : (first last : Seen) (tree : Volume) → stand first.present.held ≡ Some tree → Stays first last → Cut stand first last tree []
stays_cut first last tree stood stays =
    let here = reads_as first last _ stays in
    cut_nothing first last tree (here.0 ∙ stood) here.1 (stays_pictures first last tree stood stays)

-- a recovery: a run without events, whole or cut off
pub resumed_trace : (first last : Seen) (tree : Volume) → stand first.present.held ≡ Some tree → stand last.present.held ≡ Some tree → last.present.said ≡ first.present.said
    → Since first last (IsResumed first) → Trace stand first last tree []
resumed_trace first last tree stood stands said since = trace_nothing first last tree stands said (resumed_pictures first last tree stood since)

pub resumed_is_cut : (first last : Seen) (tree : Volume) → stand first.present.held ≡ Some tree → stand last.present.held ≡ Some tree → last.present.said ≡ first.present.said
    → Since first last (IsResumed first) → Cut stand first last tree []
resumed_is_cut first last tree stood stands said since = cut_nothing first last tree stands said (resumed_pictures first last tree stood since)

-- a whole run, and then one without events, whole or cut off
pub trace_rest : (first mid last : Seen) (tree : Volume) (events : List Event) → Trace stand first mid tree events → Trace stand mid last (tree_after events tree) [] → Trace stand first last tree events
trace_rest first mid last tree events far near =
    subst (λ (es : List Event). Trace stand first last tree es) (append-nil events) (trace_join stand first mid last tree events [] far near)

pub trace_rest_cut : (first mid last : Seen) (tree : Volume) (events : List Event) → Trace stand first mid tree events → Cut stand mid last (tree_after events tree) [] → Cut stand first last tree events
trace_rest_cut first mid last tree events far near =
    subst (λ (es : List Event). Cut stand first last tree es) (append-nil events) (cut_join stand first mid last tree events [] far near)

-- one step from a tree to the next
module _ (first : Seen) (tree next : Volume) (label : List ℕ) (is_label : IsLabel label) where
  -- the run of this one step
  abbrev step : List Event
  step = Step next label ∷ []

  -- a picture that stands for the tree before the step or after it, with none of the label said
  silent_cut : (image : Volume) (said : List ℕ) → ((stand image ≡ Some tree) ⊎ (stand image ≡ Some next)) → said ≡ first.present.said → IsCut stand first step tree image said
  silent_cut image said (inl stands) is = (
    [],
    is ∙ sym (append-nil first.present.said),
    (label ++ [], refl),
    inl (record { steps = 0; within = omega arith; stands = stands; count = record { least = omega (arith, acks-nil); most = omega arith } }),
  )
  silent_cut image said (inr stands) is = (
    [],
    is ∙ sym (append-nil first.present.said),
    (label ++ [], refl),
    inl (record { steps = 1; within = omega arith; stands = stands; count = record { least = omega (arith, acks-nil); most = omega arith } }),
  )

  front_stop : (count : ℕ) (image : Volume) → stand image ≡ Some next → IsStop stand step tree image (take count label)
  front_stop count image stands = record {
    steps = 1;
    within = omega arith;
    stands = stands;
    count = record { least = omega (arith, acks-take-le count label, is_label.one); most = omega arith };
  }

  front_is : (count : ℕ) → label ++ [] ≡ take count label ++ (drop count label ++ [])
  front_is count = ap (λ (l : List ℕ). l ++ []) (sym (take-append-drop count label)) ∙ append_assoc (take count label) (drop count label) []

  -- a picture that stands for the tree after the step, with a front of the label said
  saying_cut : (image : Volume) (said : List ℕ) (count : ℕ) → stand image ≡ Some next → said ≡ first.present.said ++ take count label → IsCut stand first step tree image said
  saying_cut image said count stands is = (take count label, is, (drop count label ++ [], front_is count), inl (front_stop count image stands))

  -- up to the commit
  pub commit_pictures : (mid : Seen) (rs : List Record) → tree_of first.present.held ≡ tree → after rs tree ≡ next → Since first mid (IsBeforeOrAfter rs first) → Pictures stand first mid tree step
  commit_pictures mid rs here there since = since_weaker first mid _ _ (λ image said picture. silent_cut image said (elim picture.0 [
    | inl stands ↦ inl (stands ∙ ap Some here)
    | inr stands ↦ inr (stands ∙ ap Some (ap (λ (v : Volume). after rs v) here ∙ there))
  ]) picture.1) since

  -- from the commit on
  pub applied_pictures : (mid last : Seen) → stand mid.present.held ≡ Some next → mid.present.said ≡ first.present.said → Pictures stand first mid tree step → Stays mid last → Pictures stand first last tree step
  applied_pictures mid last stands said far stays = since_join first mid last _ far
      (since_weaker mid last _ _ (λ image words here. silent_cut image words (inr (here.0 ∙ stands)) (here.1 ∙ said)) stays)

  -- while the label is said
  pub label_pictures : (mid last : Seen) → stand mid.present.held ≡ Some next → mid.present.said ≡ first.present.said → Pictures stand first mid tree step → Since mid last (SaysFront label mid) → Pictures stand first last tree step
  label_pictures mid last stands said far since = since_join first mid last _ far
      (since_weaker mid last _ _ (λ image words here. saying_cut image words here.1.0 (here.0 ∙ stands) (here.1.1 ∙ ap (λ (l : List ℕ). l ++ take here.1.0 label) said)) since)

  -- the step was made, and its label said
  pub step_trace : (last : Seen) → stand last.present.held ≡ Some next → last.present.said ≡ first.present.said ++ label → Pictures stand first last tree step → Trace stand first last tree step
  step_trace last stands said pictures = record {
    lines = (is_label, tt);
    said = said ∙ ap (λ (l : List ℕ). first.present.said ++ l) (sym (append-nil label));
    stands = stands;
    pictures = pictures;
  }

  -- the call was cut off: before the commit or within it nothing is said, and after it a front of the label
  pub step_cut : (last : Seen) (count : ℕ) → stand last.present.held ≡ Some next → last.present.said ≡ first.present.said ++ take count label → Pictures stand first last tree step → Cut stand first last tree step
  step_cut last count stands said pictures = record {
    more = take count label;
    said = said;
    front = (drop count label ++ [], front_is count);
    stop = front_stop count last.present.held stands;
    pictures = pictures;
  }

  -- while records are staged, whole or cut off
  pub staged_pictures : (mid : Seen) → stand first.present.held ≡ Some tree → Stays first mid → Pictures stand first mid tree step
  staged_pictures mid stood stays = since_weaker first mid _ _ (λ image said here. silent_cut image said (inl (here.0 ∙ stood)) here.1) stays

  -- from then on, up to the records' being carried out
  pub made_pictures : (mid last : Seen) (rs : List Record) → tree_of mid.present.held ≡ tree → after rs tree ≡ next → mid.present.said ≡ first.present.said → Pictures stand first mid tree step
      → Since mid last (IsBeforeOrAfter rs mid) → Pictures stand first last tree step
  made_pictures mid last rs here there said far since = since_join first mid last _ far
      (since_weaker mid last _ _ (λ image words picture. silent_cut image words (elim picture.0 [
        | inl stands ↦ inl (stands ∙ ap Some here)
        | inr stands ↦ inr (stands ∙ ap Some (ap (λ (v : Volume). after rs v) here ∙ there))
      ]) (picture.1 ∙ said)) since)

  -- the call was cut off with none of the label said
  pub silent_is_cut : (last : Seen) → ((stand last.present.held ≡ Some tree) ⊎ (stand last.present.held ≡ Some next)) → last.present.said ≡ first.present.said → Pictures stand first last tree step
      → Cut stand first last tree step
  silent_is_cut last (inl stands) said pictures = record {
    more = [];
    said = said ∙ sym (append-nil first.present.said);
    front = (label ++ [], refl);
    stop = record { steps = 0; within = omega arith; stands = stands; count = record { least = omega (arith, acks-nil); most = omega arith } };
    pictures = pictures;
  }
  silent_is_cut last (inr stands) said pictures = record {
    more = [];
    said = said ∙ sym (append-nil first.present.said);
    front = (label ++ [], refl);
    stop = record { steps = 1; within = omega arith; stands = stands; count = record { least = omega (arith, acks-nil); most = omega arith } };
    pictures = pictures;
  }

  pub staged_cut : (last : Seen) → stand first.present.held ≡ Some tree → Stays first last → Cut stand first last tree step
  staged_cut last stood stays =
      let here = reads_as first last _ stays in
      silent_is_cut last (inl (here.0 ∙ stood)) here.1 (staged_pictures last stood stays)

  pub halted_cut : (mid last : Seen) (rs : List Record) → tree_of mid.present.held ≡ tree → after rs tree ≡ next → mid.present.said ≡ first.present.said → Pictures stand first mid tree step
      → Since mid last (IsBeforeOrAfter rs mid) → Cut stand first last tree step
  halted_cut mid last rs here there said far since =
      let at_last = reads_as mid last _ since in
      silent_is_cut last (elim at_last.0 [
        | inl stands ↦ inl (stands ∙ ap Some here)
        | inr stands ↦ inr (stands ∙ ap Some (ap (λ (v : Volume). after rs v) here ∙ there))
      ]) (at_last.1 ∙ said) (made_pictures mid last rs here there said far since)
