-- A step whose files were fetched.
use Rattle.std.proofs.Common.{◌≡◌, ◌≤◌, ℕ, Bool, true, false, cond, ◌&&◌, IsTrue, List, [], ◌∷◌, ◌++◌, Option, Some, None, Result, Err, refl, sym, ◌∙◌, ap, subst, arith}
use Rattle.std.specs.FinSet as set
use Rattle.tl_model.specs.Causes.{Rose}
use Rattle.tl_model.specs.Devices.{ShelfSeen}
use Rattle.tl_model.specs.Seen.{Seen, Told}
use Rattle.tl_model.specs.Trace.{Event, Step, Trace, Cut}
use Rattle.tl_model.specs.Volume.{Name, Volume}
use Rattle.tl_model.specs.Joins.{cut_join, cut_longer, trace_join}
use Rattle.tl_journal_text.specs.Stand.{stand, tree_of}
use Rattle.tl_journal.proofs.Stagings.{stages_again, stages_join}
use Rattle.tl_entry.specs.declared.object.Object.{Object}
use Rattle.tl_tree.specs.Answers.{IsAllowed, IsWithin}
use Rattle.tl_tree.specs.Changes.{changed, entries_after, later}
use Rattle.tl_tree.specs.Filled.{filled}
use Rattle.tl_tree.specs.Opened.{IsWhole, Opened, given}
use Rattle.tl_tree.specs.Packages.{ReplacesWhole}
use Rattle.tl_tree.specs.Planted.{Planted}
use Rattle.tl_tree.specs.Staged.{has_name}
use Rattle.tl_tree.specs.Traces.{stays_trace}
use Rattle.tl_tree.specs.declared.change.Part.{Part}
use Rattle.tl_tree.proofs.Fillings.{entries-filled, has_entries-filled}
use Rattle.tl_tree.proofs.Sets.{contains-set_of}
use Rattle.tl_command.specs.declared.ending.Ending.{Ending}
use Rattle.tl_command.specs.declared.ending.Ending.TheVariants.{HostFault}
use Rattle.tl_command.specs.Endings.{Faults}
use Rattle.tl_command.specs.Loaded.{Opens}
use Rattle.tl_command.specs.Performs.{Performs}
use Rattle.tl_command.specs.Runs.{Run, followed}
use Rattle.tl_command.proofs.Databases.{same_tree}
use Rattle.tl_command.proofs.Joins.{performs_fewer, performs_same}
use Rattle.tl_command.proofs.Limits.{changing-within}
use Rattle.tl_fetch.specs.Sinks.{SinkSeen}
use Rattle.tl_fetch.specs.Unpacked.{paths_in}
use Rattle.tl_fetch.specs.declared.fetch_error.FetchError.{FetchError}
use Rattle.tl_fill.specs.Ends.{BreaksStep, EndsBy, FinishesStep, HasBroken, HasFinished, IsOpenedFrom, IsWholeHeld}
use Rattle.tl_fill.specs.Filling.{AreLater, FillsStep, beside_shelf, filling, over_container, over_containers}
use Rattle.tl_fill.specs.Halts.{HaltsAmong}
use Rattle.tl_fill.specs.StepSinks.{IsHeld, StepGoesOn, StepSince, sink_seen}
use Rattle.tl_fill.specs.Wanted.{AreAwaited, HaveFilled, Wanted, WereFetched, files_in}
use Rattle.tl_fill.specs.declared.halt.Halt.{Halt}
use Rattle.tl_fill.specs.declared.halt.Halt.TheVariants.{Refused, Shelf, Sink, Memory}
use Rattle.tl_fill.specs.declared.sink.Held.{Held}
use Rattle.tl_fill.specs.declared.sink.Held.TheVariants.{Open, Lost}
use Rattle.tl_fill.proofs.EndLemmas.{advances_staged, opened_on, performs_broken, performs_renamed}
use Rattle.tl_fill.proofs.PathLemmas.{none_left}

-- files that were fetched are what a run over the containers goes on with, where the repositories tell
pub containers_read : (tells : Bool) (volumes : List Volume) (all : List Wanted) (go : List (Name × List ℕ) → Run) (before files : List (Name × List ℕ)) → IsTrue tells → WereFetched tells volumes all before files
    → over_containers volumes all go before ≡ go files
containers_read tells volumes [] go before files t were = ap go (sym were)
containers_read tells volumes (wanted ∷ more) go before files t were =
    ap (λ (r : Result (List (Name × List ℕ)) FetchError). over_container wanted (λ own. over_containers volumes more go (before ++ own)) r)
    (ap (λ (held : Option (List ℕ)). files_in wanted held) (sym (were.1 t)) ∙ were.2.1)
    ∙ containers_read tells volumes more go (before ++ were.2.0) files t were.2.2

-- what a told pair of devices tells
pub told_both : (a b : Bool) → IsTrue (a && b) → IsTrue a × IsTrue b
told_both true b told = (refl, told)
told_both false b told = absurd (cc)

module _ (shelf_tells tells : Bool) (volumes : List Volume) (all : List Wanted) (parts : List Part) (label : List ℕ) (old : Planted) (step : Opened) (opens : Opens tells parts label old step) where
  -- it is open over the tree
  pub opened_from : IsOpenedFrom tells old.seen step
  opened_from = record { stands = opens.stands; stages = opens.stages; later = opens.later }

  pub opened_itself : StepGoesOn tells step step
  opened_itself = record {
    db = refl;
    parts = refl;
    label = refl;
    astray = refl;
    stages = λ t. stages_again old.seen step.seen (opens.stages t);
    later = omega arith;
  }

  -- it awaits the files of the containers
  pub awaited_opened : {H : Type 0} (seen : H → Seen) → AreLater parts all → AreAwaited all (sink_seen seen (Some (Open step)) 0)
  awaited_opened seen later_all = record {
    whole = ap (λ (s : Opened). cond s.astray 0 s.lacks) opens.begins;
    taken = λ path here. ap (λ (s : Opened). set.contains (cond s.astray set.empty s.awaits) path) opens.begins ∙ contains-set_of (later parts) path ∙ sym (later_all.same path) ∙ here;
    apart = later_all.apart;
  }

  module _ (mid : Opened) (goes : StepGoesOn tells step mid) where
    astray : mid.astray ≡ false
    astray = goes.astray ∙ ap (λ (s : Opened). s.astray) opens.begins

    db_same : mid.db ≡ old.db
    db_same = goes.db ∙ ap (λ (s : Opened). s.db) opens.begins

    parts_same : mid.parts ≡ parts
    parts_same = goes.parts ∙ ap (λ (s : Opened). s.parts) opens.begins

    label_same : mid.label ≡ label
    label_same = goes.label ∙ ap (λ (s : Opened). s.label) opens.begins

    still : IsOpenedFrom tells old.seen mid
    still = opened_on tells old.seen step mid opened_from goes

    -- each of its files has come
    pub whole_filled : {H : Type 0} (seen : H → Seen) (after : ℕ) → AreLater parts all → HaveFilled shelf_tells tells volumes all (sink_seen seen (Some (Open step)) 0) (sink_seen seen (Some (Open mid)) after) → IsWhole mid
    whole_filled seen after later_all filled = record {
      all = sym (ap (λ (b : Bool). cond b set.empty mid.awaits) astray) ∙ filled.took.takes
          ∙ none_left (cond step.astray set.empty step.awaits) (later parts) (paths_in filled.files) (ap (λ (s : Opened). cond s.astray set.empty s.awaits) opens.begins) (λ path. ap (λ (l : List Name). has_name path l) filled.paths ∙ later_all.same path);
      last = sym (ap (λ (b : Bool). cond b 0 mid.lacks) astray) ∙ filled.took.lacks;
      in_place = astray;
    }

    -- the files that were given
    pub given_filled : {H : Type 0} (seen : H → Seen) (after : ℕ) (filled : HaveFilled shelf_tells tells volumes all (sink_seen seen (Some (Open step)) 0) (sink_seen seen (Some (Open mid)) after))
        → Told tells (given mid ≡ filled.files)
    given_filled seen after filled t = filled.took.given t ∙ ap (λ (l : List (Name × List ℕ)). l ++ filled.files) (opens.given_none t)

    module _ (files : List (Name × List ℕ)) (given_all : Told tells (given mid ≡ files)) (fetched : WereFetched shelf_tells volumes all [] files) where
      -- what is said of the step is said of the tree and the files
      restated : (P : List Object → List Part → Volume → Type 0) → IsTrue tells → P mid.db (filled (given mid) mid.parts) (tree_of mid.seen.present.held) → P old.db (filled files parts) (tree_of old.seen.present.held)
      restated P t holds =
          subst (λ (os : List Object). P os (filled files parts) (tree_of old.seen.present.held)) db_same
          (subst (λ (ps : List Part). P mid.db (filled files ps) (tree_of old.seen.present.held)) parts_same
          (subst (λ (fs : List (Name × List ℕ)). P mid.db (filled fs mid.parts) (tree_of old.seen.present.held)) (given_all t)
          (subst (λ (v : Volume). P mid.db (filled (given mid) mid.parts) v) (still.stages t).tree holds)))

      allowed_filled : IsAllowed old (filled files parts)
      allowed_filled some = subst IsWithin (sym (entries-filled files parts old.db)) (opens.allowed (sym (has_entries-filled files parts) ∙ some))

      abbrev events : Volume → List Event
      events tree = Step (changed old.db (filled files parts) tree) label ∷ []

      -- it was made
      pub fills_step : (next : Planted) → FinishesStep tells mid next → FillsStep shelf_tells tells volumes all parts label old next
      fills_step next finished = record {
        files = files;
        fetched = fetched;
        steps = record {
          made = record {
            trace = λ t tree stood.
                trace_join stand old.seen mid.seen next.seen tree [] (Step (changed old.db (filled files parts) tree) label ∷ []) (stays_trace old.seen mid.seen tree stood (still.stages t).stays)
                (subst (λ (v : Volume). Trace stand mid.seen next.seen v (Step (changed old.db (filled files parts) v) label ∷ [])) (same_tree old.seen tree (still.stands t) stood)
                (subst (λ (l : List ℕ). Trace stand mid.seen next.seen (tree_of old.seen.present.held) (Step (changed old.db (filled files parts) (tree_of old.seen.present.held)) l ∷ [])) label_same
                (restated (λ os ps v. Trace stand mid.seen next.seen v (Step (changed os ps v) mid.label ∷ [])) t (finished.stepped t).trace)));
            syncs = λ t tree stood.
                let two = finished.syncs t in
                let same : mid.seen.syncs ≡ old.seen.syncs = (still.stages t).syncs in
                omega (arith, two, same);
            later = omega (arith, still.later, finished.later);
          };
          db = finished.db ∙ entries-filled (given mid) mid.parts mid.db ∙ ap (λ (ps : List Part). entries_after ps mid.db) parts_same ∙ ap (λ (os : List Object). entries_after parts os) db_same
              ∙ sym (entries-filled files parts old.db);
          allowed = allowed_filled;
          packages = λ t. restated (λ os ps v. ReplacesWhole os ps v next.db (tree_of next.seen.present.held)) t (finished.stepped t).packages;
        };
      }

      -- the host failed at its end
      pub performs_unfinished : {H : Type 0} (seen : H → Seen) (host : H) (rest : Volume → Run) (before after : Faults) → BreaksStep tells mid (seen host)
          → Performs (shelf_tells && tells) seen (filling volumes all old.db parts label rest) 0 old.seen before after HostFault (Err host)
      performs_unfinished {H} seen host rest before after breaks =
          performs_same (shelf_tells && tells) seen 0 old.seen before after HostFault (Err host)
          (λ tree. followed (events tree) (rest (changed old.db (filled files parts) tree))) (filling volumes all old.db parts label rest)
          (λ t tree stood. sym (filling_is (told_both shelf_tells tells t).0 tree))
          (record {
            run = λ t tree stood. let both = told_both shelf_tells tells t in
                cut_longer stand old.seen (seen host) tree (events tree) (rest (changed old.db (filled files parts) tree)).events
                (cut_join stand old.seen mid.seen (seen host) tree [] (events tree) (stays_trace old.seen mid.seen tree stood (still.stages both.1).stays)
                (subst (λ (v : Volume). Cut stand mid.seen (seen host) v (Step (changed old.db (filled files parts) v) label ∷ [])) (same_tree old.seen tree (still.stands both.1) stood)
                (subst (λ (l : List ℕ). Cut stand mid.seen (seen host) (tree_of old.seen.present.held) (Step (changed old.db (filled files parts) (tree_of old.seen.present.held)) l ∷ [])) label_same
                (restated (λ os ps v. Cut stand mid.seen (seen host) v (Step (changed os ps v) mid.label ∷ [])) both.1 (breaks.cut both.1)))));
            syncs = λ t tree stood.
                let both = told_both shelf_tells tells t in
                let two = breaks.syncs both.1 in
                let same : mid.seen.syncs ≡ old.seen.syncs = (still.stages both.1).syncs in
                omega (arith, two, same);
            later = omega (arith, still.later, breaks.later);
            cause = omega (arith, still.later, breaks.rose);
            words = λ none. none;
          })
        where
          filling_is : IsTrue shelf_tells → (tree : Volume) → filling volumes all old.db parts label rest tree ≡ followed (events tree) (rest (changed old.db (filled files parts) tree))
          filling_is t tree =
              let go : List (Name × List ℕ) → Run = λ fs. followed (Step (changed old.db (filled fs parts) tree) label ∷ []) (rest (changed old.db (filled fs parts) tree)) in
              changing-within old.db parts (over_containers volumes all go []) opens.allowed ∙ containers_read shelf_tells volumes all go [] files t fetched

  -- the command halts at a container
  pub ends_by : (first : ShelfSeen) (last : ShelfSeen) (sink_old sink_new : SinkSeen) (rest : Volume → Run) (halt : Halt) → first.repositories ≡ volumes → HaltsAmong shelf_tells all first last sink_old sink_new halt
      → old.seen.faults ≤ sink_old.faults → EndsBy (shelf_tells && tells) (filling volumes all old.db parts label rest) (beside_shelf first.faults) (beside_shelf last.faults) old.seen sink_new.faults halt
  ends_by first last sink_old sink_new rest (Refused refusal) same halts le = λ t tree stood.
      let go : List (Name × List ℕ) → Run = λ fs. followed (Step (changed old.db (filled fs parts) tree) label ∷ []) (rest (changed old.db (filled fs parts) tree)) in
      changing-within old.db parts (over_containers volumes all go []) opens.allowed
      ∙ ap (λ (vs : List Volume). over_containers vs all go []) (sym same) ∙ halts.1 (told_both shelf_tells tells t).0 go
  ends_by first last sink_old sink_new rest Shelf same halts le = halts
  ends_by first last sink_old sink_new rest Sink same halts le = omega (arith, halts, le)
  ends_by first last sink_old sink_new rest Memory same halts le = tt

  module _ {H : Type 0} (seen : H → Seen) where
    -- what a sink holds since it held the step
    pub since_begun : (first held : Option (Held H)) (before after : ℕ) → first ≡ Some (Open step) → before ≡ 0 → (StepSince tells seen first before first before → StepSince tells seen first before held after)
        → StepSince tells seen (Some (Open step)) 0 held after
    since_begun first held before after was none since =
        let began : StepSince tells seen (Some (Open step)) 0 (Some (Open step)) 0 = (opened_itself, refl) in
        subst (λ (h : Option (Held H)). StepSince tells seen h 0 held after) was
        (subst (λ (n : ℕ). StepSince tells seen first n held after) none
        (since (subst (λ (n : ℕ). StepSince tells seen first n first n) (sym none) (subst (λ (h : Option (Held H)). StepSince tells seen h 0 h 0) (sym was) began))))

    pub filled_begun : (first held : Option (Held H)) (before after : ℕ) → first ≡ Some (Open step) → before ≡ 0 → HaveFilled shelf_tells tells volumes all (sink_seen seen first before) (sink_seen seen held after)
        → HaveFilled shelf_tells tells volumes all (sink_seen seen (Some (Open step)) 0) (sink_seen seen held after)
    filled_begun first held before after was none filled =
        subst (λ (h : Option (Held H)). HaveFilled shelf_tells tells volumes all (sink_seen seen h 0) (sink_seen seen held after)) was
        (subst (λ (n : ℕ). HaveFilled shelf_tells tells volumes all (sink_seen seen first n) (sink_seen seen held after)) none filled)

    -- something is held
    pub held_since : (held : Option (Held H)) (after : ℕ) → StepSince tells seen (Some (Open step)) 0 held after → IsHeld held
    held_since (Some kept) after since = tt
    held_since None after since = since

    module _ (after : ℕ) where
      abbrev Filled : Option (Held H) → Type 0
      Filled held = HaveFilled shelf_tells tells volumes all (sink_seen seen (Some (Open step)) 0) (sink_seen seen held after)

      pub whole_held : (held : Option (Held H)) → AreLater parts all → StepSince tells seen (Some (Open step)) 0 held after → Filled held → IsWholeHeld held
      whole_held (Some (Open mid)) later_all since filled = whole_filled mid since.0 seen after later_all filled
      whole_held (Some (Lost host)) later_all since filled = tt
      whole_held None later_all since filled = since

      -- a step was made
      pub fills_held : (held : Option (Held H)) (next : Planted) → StepSince tells seen (Some (Open step)) 0 held after → Filled held → HasFinished tells held next → FillsStep shelf_tells tells volumes all parts label old next
      fills_held (Some (Open mid)) next since filled finished = fills_step mid since.0 filled.files (given_filled mid since.0 seen after filled) filled.fetched next finished
      fills_held (Some (Lost host)) next since filled finished = absurd finished
      fills_held None next since filled finished = absurd finished

      -- the host failed
      pub performs_held : (held : Option (Held H)) (rest : Volume → Run) (first last : Faults) (ending : Ending) (state : Result Seen H) → StepSince tells seen (Some (Open step)) 0 held after → Filled held
          → HasBroken tells seen held ending state → Performs (shelf_tells && tells) seen (filling volumes all old.db parts label rest) 0 old.seen first last ending state
      performs_held (Some (Open mid)) rest first last ending state since filled broken =
          performs_renamed (shelf_tells && tells) seen old.seen first last (filling volumes all old.db parts label rest) ending HostFault state (Err broken.0) broken.1 broken.2
          (performs_unfinished mid since.0 filled.files (given_filled mid since.0 seen after filled) filled.fetched seen broken.0 rest first last broken.3)
      performs_held (Some (Lost host)) rest first last ending state since filled broken =
          let late : old.seen.faults ≤ (seen host).faults = omega (arith, opens.later, since.later) in
          let rose : Rose old.seen.faults (seen host).faults = omega (arith, opens.later, since.rose) in
          performs_fewer (shelf_tells && tells) tells (λ t. (told_both shelf_tells tells t).1) seen 0 old.seen first last ending state (filling volumes all old.db parts label rest)
          (performs_renamed tells seen old.seen first last (filling volumes all old.db parts label rest) ending HostFault state (Err host) broken.0 broken.1
          (performs_broken tells seen old.seen first last (filling volumes all old.db parts label rest) host
          (advances_staged tells old.seen (seen host) (λ t. stages_join old.seen step.seen (seen host) (opens.stages t) (since.stages t)) late) rose))
      performs_held None rest first last ending state since filled broken = absurd broken
