-- How a whole call is made of its parts.
use Rattle.std.proofs.Common.{◌≡◌, ◌≤◌, ◌+◌, ◌*◌, ℕ, zero, suc, Bool, false, List, [], ◌∷◌, ◌++◌, take, drop, Some, None, Result, Ok, IsTrue, refl, sym, ◌∙◌, ap, subst, inl, inr, arith, append_assoc}
use Rattle.std.specs.List.{AllByRecursion}
use Rattle.std.specs.FinSet as set
use Rattle.std.proofs.lemmas.List.{append-nil, append_cancel_left, take-append-drop}
use Rattle.tl_model.specs.Volume.{Name, Volume, at, same_volume}
use Rattle.tl_model.specs.Seen.{Stretch, Seen, Told, Leaves, Since, Says, Could, at_rest, moment}
use Rattle.tl_model.specs.Pictures.{since_start, since_join, since_weaker, since_could, after_say}
use Rattle.tl_model.specs.Trace.{Event, Text, said_by, steps_of, tree_after, IsFront, IsCut, Pictures, Cut}
use Rattle.tl_model.specs.Joins.{tree_at-zero, paused_rest, paused_rest_cut}
use Rattle.tl_journal_text.specs.Stand.{stand, Stays, IsResumed}
use Rattle.tl_journal.specs.States.{IsPending}
use Rattle.tl_journal.specs.Spent.{Resumes}
use Rattle.tl_journal.specs.Touching.{Spares, TouchesOnly}
use Rattle.tl_tree.specs.Traces.{stays_trace, stays_cut, trace_rest, trace_rest_cut}
use Rattle.tl_command.specs.declared.ending.Ending.{Ending}
use Rattle.tl_command.specs.declared.ending.Ending.TheVariants.{Done, Refused, HostFault, ShelfFault, InputFault, NoMemory}
use Rattle.tl_refusal.specs.declared.refusal.Refusal.{Refusal}
use Rattle.tl_command.specs.Endings.{Faults, IsCarried, IsCaused, IsOfWords, IsWordless, spare_syncs}
use Rattle.tl_command.specs.Runs.{Run}
use Rattle.tl_command.specs.Performs.{IsRested, IsFailed, IsActed, last_of, Performs}
use Rattle.tl_command.specs.Whole.{IsRun, IsStopped, Runs, IsSaid, IsLeftAt, OnlySays, IsRefusalOr, Begins}
use Rattle.tl_command.proofs.Joins.{acted_join, caused_join}

-- a command that left the volume at rest
pub acted_at_rest : {T : Type 0} (seen : T → Seen) (run : Run) (ending : Ending) (state : Result Seen T) (first last : Seen) (tree : Volume) → state ≡ Ok last → IsActed seen run ending state first tree
    → IsRested run ending first last tree
acted_at_rest {T} seen run ending state first last tree is acted = subst (λ (s : Result Seen T). IsActed seen run ending s first tree) is acted

-- a volume at rest after a run, and then a run without events, whole or cut off
pub run_rest : (run : Run) (ending : Ending) (first mid last : Seen) (tree : Volume) → IsRested run ending first mid tree → Stays mid last → IsRun run ending first last tree
run_rest run Done first mid last tree far stays = (far.0, trace_rest first mid last tree run.events far.1 (stays_trace mid last (tree_after run.events tree) far.1.stands stays))
run_rest run (Refused refusal) first mid last tree far stays = (far.0, trace_rest first mid last tree run.events far.1 (stays_trace mid last (tree_after run.events tree) far.1.stands stays))
run_rest run HostFault first mid last tree far stays = absurd far
run_rest run ShelfFault first mid last tree far stays = paused_rest stand first mid last tree run.events far (stays_trace mid last _ far.stands stays)
run_rest run InputFault first mid last tree far stays = paused_rest stand first mid last tree run.events far (stays_trace mid last _ far.stands stays)
run_rest run NoMemory first mid last tree far stays = paused_rest stand first mid last tree run.events far (stays_trace mid last _ far.stands stays)

pub run_rest_cut : (run : Run) (ending : Ending) (first mid last : Seen) (tree : Volume) → IsRested run ending first mid tree → Stays mid last → Cut stand first last tree run.events
run_rest_cut run Done first mid last tree far stays = trace_rest_cut first mid last tree run.events far.1 (stays_cut mid last (tree_after run.events tree) far.1.stands stays)
run_rest_cut run (Refused refusal) first mid last tree far stays = trace_rest_cut first mid last tree run.events far.1 (stays_cut mid last (tree_after run.events tree) far.1.stands stays)
run_rest_cut run HostFault first mid last tree far stays = absurd far
run_rest_cut run ShelfFault first mid last tree far stays = paused_rest_cut stand first mid last tree run.events far (stays_cut mid last _ far.stands stays)
run_rest_cut run InputFault first mid last tree far stays = paused_rest_cut stand first mid last tree run.events far (stays_cut mid last _ far.stands stays)
run_rest_cut run NoMemory first mid last tree far stays = paused_rest_cut stand first mid last tree run.events far (stays_cut mid last _ far.stands stays)

-- a run that was cut off by a fault of the host
pub run_failed : (run : Run) (ending : Ending) (first last : Seen) (tree : Volume) → IsFailed run ending first last tree → IsRun run ending first last tree
run_failed run Done first last tree failed = absurd failed
run_failed run (Refused refusal) first last tree failed = absurd failed
run_failed run HostFault first last tree failed = failed
run_failed run ShelfFault first last tree failed = absurd failed
run_failed run InputFault first last tree failed = absurd failed
run_failed run NoMemory first last tree failed = absurd failed

-- it was neither carried out nor refused
pub failed_apart : (run : Run) (ending : Ending) (first last : Seen) (tree : Volume) → IsFailed run ending first last tree → IsCarried ending → ⊥
failed_apart run Done first last tree failed carried = failed
failed_apart run (Refused refusal) first last tree failed carried = failed
failed_apart run HostFault first last tree failed carried = carried
failed_apart run ShelfFault first last tree failed carried = carried
failed_apart run InputFault first last tree failed carried = carried
failed_apart run NoMemory first last tree failed carried = carried

-- each picture of a run is a cut of it
run_pictures : (run : Run) (ending : Ending) (first last : Seen) (tree : Volume) → IsRun run ending first last tree → Pictures stand first last tree run.events
run_pictures run Done first last tree made = made.1.pictures
run_pictures run (Refused refusal) first last tree made = made.1.pictures
run_pictures run HostFault first last tree made = made.pictures
run_pictures run ShelfFault first last tree made = made.pictures
run_pictures run InputFault first last tree made = made.pictures
run_pictures run NoMemory first last tree made = made.pictures

-- a cut of a run from a host without a touched name is a stop of it
settled_cut : (run : Run) (first : Seen) (tree : Volume) → stand first.present.held ≡ Some tree → first.present.touched ≡ set.empty → (image : Volume) (said : List ℕ) → IsCut stand first run.events tree image said
    → IsStopped first run tree image said
settled_cut run first tree stood none image said cut = (
  cut.0,
  cut.1,
  cut.2,
  elim cut.3 [
    | inl stop ↦ stop
    | inr start ↦
        let same : image ≡ first.present.held = same_volume image first.present.held (λ name. start.1.others name (ap (λ (s : _). set.contains s name) none ∙ set.contains-empty _ name)) in record {
          steps = 0;
          within = omega arith;
          stands = ap stand same ∙ stood ∙ ap Some (sym (tree_at-zero run.events tree));
          count = record { least = omega (arith, start.0); most = omega arith };
        }
  ],
)

-- a run that was made, with its syncs
pub runs_made : (run : Run) (ending : Ending) (first last : Seen) (tree : Volume) → stand first.present.held ≡ Some tree → IsRun run ending first last tree → last.syncs ≤ first.syncs + (2 * steps_of run.events + 4)
    → Runs run ending first last tree
runs_made run ending first last tree stood made syncs =
    let could : (image : Volume) (said : List ℕ) → Could last (moment first) image said → IsCut stand first run.events tree image said = since_could first last _ (run_pictures run ending first last tree made) in record {
      made = made;
      pictures = could;
      settled = λ none image said picture. settled_cut run first tree stood none image said (could image said picture);
      syncs = syncs;
    }

-- a front of a text

pub front_of : (count : ℕ) (bytes : List ℕ) → IsFront (take count bytes) (bytes ++ [])
front_of count bytes = (drop count bytes ++ [], ap (λ (l : List ℕ). l ++ []) (sym (take-append-drop count bytes)) ∙ append_assoc (take count bytes) (drop count bytes) [])

left_picture : (first : Seen) (bytes : List ℕ) (image : Volume) (said : List ℕ) (count : ℕ) → said ≡ first.present.said ++ take count bytes
    → ((name : Name) → set.contains first.present.touched name ≡ false → at image name ≡ at first.present.held name) → IsLeftAt first (bytes ++ []) image said
left_picture first bytes image said count is others =
    (take count bytes, is, front_of count bytes, record { others = others; count = 0; words = sym (append-nil first.present.said) })

-- while bytes are said over a host as it is, each image could be left before
says_pictures : (ok : Bool) (bytes : List ℕ) (first last : Seen) → Says ok bytes first last → Since first last (IsLeftAt first (bytes ++ []))
says_pictures ok bytes first last says = after_say first first last (IsLeftAt first (bytes ++ [])) ok bytes
    (since_start first (IsLeftAt first (bytes ++ [])) (λ image said picture. left_picture first bytes image said 0 (picture.words ∙ ap (λ (l : List ℕ). first.present.said ++ l) (no_bytes picture.count)) picture.others)) says
    (λ image said picture. left_picture first bytes image said picture.count picture.words picture.others)
  where
    no_bytes : (n : ℕ) → take n [] ≡ take 0 bytes
    no_bytes zero = refl
    no_bytes (suc n) = refl

-- a text that was said over a host as it is, whole or a front of it
pub only_says : (run : Run) (ending : Ending) (ok : Bool) (bytes : List ℕ) (first last : Seen) → run.events ≡ Text bytes ∷ [] → Says ok bytes first last → IsSaid run ending first last → OnlySays run ending first last
only_says run ending ok bytes first last is says said = record {
  said = said;
  held = says.held;
  touched = λ name none. ap (λ (s : _). set.contains s name) says.touched ∙ none;
  pictures = subst (λ (es : List Event). Since first last (IsLeftAt first (said_by es))) (sym is) (says_pictures ok bytes first last says);
}

-- nothing was done
pub only_nothing : (run : Run) (first : Seen) → OnlySays run NoMemory first first
only_nothing run first = record {
  said = ([], sym (append-nil first.present.said), (said_by run.events, refl));
  held = refl;
  touched = λ name none. none;
  pictures = since_start first (IsLeftAt first (said_by run.events)) (λ image said picture. (
    [],
    picture.words ∙ ap (λ (l : List ℕ). first.present.said ++ l) (no_bytes picture.count),
    (said_by run.events, refl),
    record { others = picture.others; count = 0; words = sym (append-nil first.present.said) },
  ));
}
  where
    no_bytes : (n : ℕ) → let none : List ℕ = [] in take n none ≡ none
    no_bytes zero = refl
    no_bytes (suc n) = refl

-- a recovery that had no name to touch

module _ (first mid : Seen) (none : (name : Name) → IsPending first.present.held name → ⊥) (resumes : Resumes first mid) where
  touches : TouchesOnly (IsPending first.present.held) first mid
  touches = resumes.touches

  since : Since first mid (IsResumed first)
  since = resumes.pictures

  same_more : touches.more ≡ since.more
  same_more = append_cancel_left first.past touches.more since.more (sym touches.past ∙ since.past)

  unsaid : (image : Volume) (said : List ℕ) → IsResumed first image said → said ≡ first.present.said
  unsaid image said (inl here) = here.1
  unsaid image said (inr picture) = picture.words ∙ ap (λ (l : List ℕ). first.present.said ++ l) (no_bytes picture.count) ∙ append-nil first.present.said
    where
      no_bytes : (n : ℕ) → let none : List ℕ = [] in take n none ≡ none
      no_bytes zero = refl
      no_bytes (suc n) = refl

  left_stretch : (bytes : List ℕ) (m : Stretch) → Spares (IsPending first.present.held) first.present m → Leaves (IsResumed first) m → Leaves (IsLeftAt first bytes) m
  left_stretch bytes m spares leaves image said picture = (
    [],
    unsaid image said (leaves image said picture) ∙ sym (append-nil first.present.said),
    (bytes, refl),
    record {
      others = λ name untouched. let kept = spares name (none name) in picture.others name (kept.1 untouched) ∙ kept.0;
      count = 0;
      words = sym (append-nil first.present.said);
    },
  )

  left_all : (bytes : List ℕ) (ms : List Stretch) → AllByRecursion (Spares (IsPending first.present.held) first.present) ms → AllByRecursion (Leaves (IsResumed first)) ms → AllByRecursion (Leaves (IsLeftAt first bytes)) ms
  left_all bytes [] spares leaves = tt
  left_all bytes (m ∷ ms) spares leaves = (left_stretch bytes m spares.0 leaves.0, left_all bytes ms spares.1 leaves.1)

  -- each of its pictures could be left before it
  pub left_since : (bytes : List ℕ) → Since first mid (IsLeftAt first bytes)
  left_since bytes = record {
    more = since.more;
    past = since.past;
    each = left_all bytes since.more (subst (λ (ms : List Stretch). AllByRecursion (Spares (IsPending first.present.held) first.present) ms) same_more touches.each) since.each;
    present = left_stretch bytes (at_rest mid.present) touches.present since.present;
  }

  pub kept_held : mid.present.held ≡ first.present.held
  kept_held = same_volume mid.present.held first.present.held (λ name. (touches.present name (none name)).0)

  -- a fault cut it off
  pub only_unresumed : (run : Run) → OnlySays run HostFault first mid
  only_unresumed run = record {
    said = ([], resumes.said ∙ sym (append-nil first.present.said), (said_by run.events, refl));
    held = kept_held;
    touched = λ name untouched. (touches.present name (none name)).1 untouched;
    pictures = left_since (said_by run.events);
  }

  -- and then bytes were said
  pub only_resumed : (run : Run) (ending : Ending) (last : Seen) → OnlySays run ending mid last → OnlySays run ending first last
  only_resumed run ending last near = record {
    said = said_after run ending first mid last resumes.said near.said;
    held = near.held ∙ kept_held;
    touched = λ name untouched. near.touched name ((touches.present name (none name)).1 untouched);
    pictures = since_join first mid last (IsLeftAt first (said_by run.events)) (left_since (said_by run.events)) (since_weaker mid last _ _ (λ image words here. left_after image words here) near.pictures);
  }
    where
      said_after : (run : Run) (ending : Ending) (first mid last : Seen) → mid.present.said ≡ first.present.said → IsSaid run ending mid last → IsSaid run ending first last
      said_after run Done first mid last same near = (near.0, near.1 ∙ ap (λ (l : List ℕ). l ++ said_by run.events) same)
      said_after run (Refused refusal) first mid last same near = (near.0, near.1 ∙ ap (λ (l : List ℕ). l ++ said_by run.events) same)
      said_after run HostFault first mid last same near = (near.0, near.1 ∙ ap (λ (l : List ℕ). l ++ near.0) same, near.2)
      said_after run ShelfFault first mid last same near = near
      said_after run InputFault first mid last same near = near
      said_after run NoMemory first mid last same near = (near.0, near.1 ∙ ap (λ (l : List ℕ). l ++ near.0) same, near.2)

      left_after : (image : Volume) (words : List ℕ) → IsLeftAt mid (said_by run.events) image words → IsLeftAt first (said_by run.events) image words
      left_after image words here = (
        here.0,
        here.1 ∙ ap (λ (l : List ℕ). l ++ here.0) resumes.said,
        here.2,
        record {
          others = λ name untouched. let kept = touches.present name (none name) in here.3.others name (kept.1 untouched) ∙ kept.0;
          count = 0;
          words = sym (append-nil first.present.said);
        },
      )

spare-le : (ending : Ending) → spare_syncs ending ≤ 1
spare-le Done = omega arith
spare-le (Refused refusal) = omega arith
spare-le HostFault = omega arith
spare-le ShelfFault = omega arith
spare-le InputFault = omega arith
spare-le NoMemory = omega arith

module _ {T : Type 0} (tells : Bool) (seen : T → Seen) (command : Volume → Run) (first mid : Seen) (before after : Faults) (ending : Ending) (state : Result Seen T)
    (begins : Begins tells first mid) (performs : Performs tells seen command 0 mid before after ending state) where
  -- a command that was carried out after a recovery
  pub acted_begun : Told tells ((tree : Volume) → stand first.present.held ≡ Some tree → IsActed seen (command tree) ending state first tree)
  acted_begun t tree stood =
      let trace = begins.trace t tree stood in
      acted_join seen [] (command tree) ending state first mid tree trace (performs.run t tree trace.stands)

  -- and then ended
  pub runs_begun : (answer : Ending) (last : Seen) → Told tells ((run : Run) (old : Seen) (tree : Volume) → IsActed seen run ending state old tree → IsRun run answer old last tree)
      → Told tells (last.syncs ≤ (last_of seen state).syncs + 2) → Told tells ((tree : Volume) → stand first.present.held ≡ Some tree → Runs (command tree) answer first last tree)
  runs_begun answer last ended syncs t tree stood =
      let trace = begins.trace t tree stood in
      runs_made (command tree) answer first last tree stood (ended t (command tree) first tree (acted_begun t tree stood))
      (omega (arith, syncs t, performs.syncs t tree trace.stands, begins.syncs t, spare-le ending))

  -- its faults have their causes
  pub caused_begun : IsCaused ending first (last_of seen state) before after
  caused_begun = caused_join ending first mid (last_of seen state) before after begins.later performs.cause

  pub later_begun : first.faults ≤ (last_of seen state).faults
  later_begun = omega (arith, begins.later, performs.later)

  -- a volume that was recovered stood for a tree
  pub stood_begun : Told tells (stand first.present.held ≡ None → ⊥)
  stood_begun t none = let some = begins.stood t in absurd (cc)

-- an ending of a refusal that isn't one of words
pub wordless_refusal : (refusal : Refusal) (ending : Ending) → (IsOfWords refusal → ⊥) → IsRefusalOr refusal ending → IsWordless ending → ⊥
wordless_refusal refusal ending other (inl is) wordless = other (subst IsWordless is wordless)
wordless_refusal refusal ending other (inr (inl is)) wordless = subst IsWordless is wordless
wordless_refusal refusal ending other (inr (inr is)) wordless = subst IsWordless is wordless

-- a volume that was recovered, told by fewer devices than tell it
pub begins_fewer : (fewer more : Bool) → (IsTrue fewer → IsTrue more) → (first last : Seen) → Begins more first last → Begins fewer first last
begins_fewer fewer more told first last begins = record {
  stood = λ t. begins.stood (told t);
  trace = λ t. begins.trace (told t);
  syncs = λ t. begins.syncs (told t);
  later = begins.later;
}
