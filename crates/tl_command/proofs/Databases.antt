-- Calls that read a database, and steps, as parts of a command.
use Rattle.std.proofs.Common.{◌≡◌, ◌≤◌, ◌+◌, ℕ, Bool, true, List, [], ◌∷◌, Option, Some, Result, Err, sym, ◌∙◌, ap, subst, arith}
use Rattle.std.specs.Option.{unwrap_or}
use Rattle.tl_model.specs.Volume.{Volume}
use Rattle.tl_model.specs.Causes.{Rose}
use Rattle.tl_model.specs.Seen.{Seen, Told, Quiet}
use Rattle.tl_model.specs.Trace.{Step, Trace, Cut}
use Rattle.tl_model.specs.Joins.{trace_start, trace_quiet, paused_cut, cut_longer}
use Rattle.tl_journal_text.specs.Stand.{stand, tree_of}
use Rattle.tl_entry.specs.declared.object.Object.{Object}
use Rattle.tl_kind.specs.declared.quantity.What.{What}
use Rattle.tl_db.specs.Reading.{IsRead}
use Rattle.tl_tree.specs.Planted.{Planted, database_text}
use Rattle.tl_tree.specs.Changes.{entries_after, has_entries, changed}
use Rattle.tl_tree.specs.Answers.{IsAllowed, IsTooLarge, step_of}
use Rattle.tl_tree.specs.declared.change.Part.{Part}
use Rattle.tl_refusal.specs.declared.refusal.Refusal.{Refusal}
use Rattle.tl_refusal.specs.declared.refusal.Refusal.TheVariants.{TooLarge}
use Rattle.tl_command.specs.declared.ending.Ending.{Ending}
use Rattle.tl_command.specs.declared.ending.Ending.TheVariants.{HostFault}
use Rattle.tl_command.specs.Endings.{Faults}
use Rattle.tl_command.specs.Runs.{Run, refused, followed, over_database, stepping}
use Rattle.tl_command.specs.Performs.{Performs, Advances}
use Rattle.tl_command.specs.Loaded.{Loads}
use Rattle.tl_command.proofs.Joins.{nothing_paused, advances_quiet, performs_quiet, performs_same}
use Rattle.tl_command.proofs.Limits.{changing-within, changing-too_large}

-- the tree that a volume stands for is one
pub same_tree : (first : Seen) (tree : Volume) → stand first.present.held ≡ Some (tree_of first.present.held) → stand first.present.held ≡ Some tree → tree_of first.present.held ≡ tree
same_tree first tree stands stood = ap (λ (o : Option Volume). unwrap_or o tree) (sym stands ∙ stood)

-- a tree that was read
pub loads_read : (tells : Bool) (first : Seen) (loaded : Planted) → Told tells (stand first.present.held ≡ Some (tree_of first.present.held)) → Told tells (Quiet first loaded.seen) → first.faults ≤ loaded.seen.faults
    → Told tells (IsRead (database_text (tree_of first.present.held)) loaded.db) → Loads tells first loaded
loads_read tells first loaded stands quiet later read = record {
  quiet = advances_quiet tells first loaded.seen quiet later;
  reads = λ t tree stood. subst (λ (v : Volume). IsRead (database_text v) loaded.db) (same_tree first tree (stands t) stood) (read t);
}

module _ {T : Type 0} (tells : Bool) (seen : T → Seen) (first : Seen) (before after : Faults) where
  -- calls that change nothing, of which one failed
  pub performs_unread : (command : Volume → Run) (host : T) (last : Seen) → seen host ≡ last → Told tells (Quiet first last) → first.faults ≤ last.faults → Rose first.faults last.faults
      → Performs tells seen command 0 first before after HostFault (Err host)
  performs_unread command host last same quiet later rose = record {
    run = λ t tree stood. subst (λ (s : Seen). Cut stand first s tree (command tree).events) (sym same)
        (cut_longer stand first last tree [] (command tree).events
        (paused_cut stand first last tree [] (nothing_paused first last tree [] (trace_quiet stand first first last tree [] (trace_start stand first tree stood) (quiet t)))));
    syncs = λ t tree stood. let unsynced : last.syncs ≡ first.syncs = (quiet t).syncs in let here : (seen host).syncs ≡ last.syncs = ap (λ (s : Seen). s.syncs) same in omega (arith, unsynced, here);
    later = let here : (seen host).faults ≡ last.faults = ap (λ (s : Seen). s.faults) same in omega (arith, later, here);
    cause = subst (λ (s : Seen). Rose first.faults s.faults) (sym same) rose;
    words = λ none. none;
  }

  -- calls that change nothing, behind which a database is refused
  pub performs_refused_database : (refusal : Refusal) (P : List ℕ → Type 0) → ((go : List Object → Run) (text : List ℕ) → P text → over_database go text ≡ refused refusal) → (mid : Seen) (ending : Ending) (state : Result Seen T)
      → Told tells (stand first.present.held ≡ Some (tree_of first.present.held)) → Told tells (Quiet first mid) → first.faults ≤ mid.faults → Told tells (P (database_text (tree_of first.present.held)))
      → Performs tells seen (λ _. refused refusal) 0 mid before after ending state → (go : Volume → List Object → Run) → Performs tells seen (λ tree. over_database (go tree) (database_text tree)) 0 first before after ending state
  performs_refused_database refusal P is mid ending state stands quiet later error near go =
      performs_same tells seen 0 first before after ending state (λ _. refused refusal) (λ tree. over_database (go tree) (database_text tree))
      (λ t tree stood. sym (is (go tree) (database_text tree) (subst (λ (v : Volume). P (database_text v)) (same_tree first tree (stands t) stood) (error t))))
      (performs_quiet tells seen 0 first before after ending state (λ _. refused refusal) mid (advances_quiet tells first mid quiet later) near)

-- a step that wasn't made

module _ {T : Type 0} (tells : Bool) (seen : T → Seen) (old : Planted) (parts : List Part) (label : List ℕ) (before after : Faults) (stands : Told tells (stand old.seen.present.held ≡ Some (tree_of old.seen.present.held))) where
  -- nothing was done since
  advances_unmade : (mid : Seen) → Told tells (Trace stand old.seen mid (tree_of old.seen.present.held) []) → Told tells (mid.syncs ≡ old.seen.syncs) → old.seen.faults ≤ mid.faults → Advances tells (λ _. []) old.seen mid
  advances_unmade mid trace unsynced later = record {
    trace = λ t tree stood. subst (λ (v : Volume). Trace stand old.seen mid v []) (same_tree old.seen tree (stands t) stood) (trace t);
    syncs = λ t tree stood. omega (arith, unsynced t);
    later = later;
  }

  -- of any command
  pub performs_unmade : (command : Volume → Run) (mid : Seen) (ending : Ending) (state : Result Seen T) → Told tells (Trace stand old.seen mid (tree_of old.seen.present.held) []) → Told tells (mid.syncs ≡ old.seen.syncs)
      → old.seen.faults ≤ mid.faults → Performs tells seen command 0 mid before after ending state → Performs tells seen command 0 old.seen before after ending state
  performs_unmade command mid ending state trace unsynced later near =
      performs_quiet tells seen 0 old.seen before after ending state command mid (advances_unmade mid trace unsynced later) near

  -- the database that it would leave passes a limit
  pub performs_unstepped : (rest : Volume → Run) (what : What) (limit : ℕ) (mid : Seen) (ending : Ending) (state : Result Seen T) → has_entries parts ≡ true → IsTooLarge (entries_after parts old.db) what limit
      → Told tells (Trace stand old.seen mid (tree_of old.seen.present.held) []) → Told tells (mid.syncs ≡ old.seen.syncs) → old.seen.faults ≤ mid.faults
      → Performs tells seen (λ _. refused (TooLarge what limit)) 0 mid before after ending state → Performs tells seen (λ tree. stepping old.db parts label (rest tree) tree) 0 old.seen before after ending state
  performs_unstepped rest what limit mid ending state speaks large trace unsynced later near =
      performs_same tells seen 0 old.seen before after ending state (λ _. refused (TooLarge what limit)) (λ tree. stepping old.db parts label (rest tree) tree)
      (λ t tree stood. sym (changing-too_large old.db parts (followed (Step (changed old.db parts tree) label ∷ []) (rest tree)) what limit speaks large))
      (performs_unmade (λ _. refused (TooLarge what limit)) mid ending state trace unsynced later near)

  -- a fault of the host cut it off
  pub performs_cut_step : (rest : Volume → Run) (host : T) → IsAllowed old parts → Told tells (Cut stand old.seen (seen host) (tree_of old.seen.present.held) (step_of old parts label ∷ [])) → Told tells ((seen host).syncs ≤ old.seen.syncs + 2)
      → old.seen.faults ≤ (seen host).faults → Rose old.seen.faults (seen host).faults
      → Performs tells seen (λ tree. stepping old.db parts label (rest tree) tree) 0 old.seen before after HostFault (Err host)
  performs_cut_step rest host allowed cut synced later rose =
      performs_same tells seen 0 old.seen before after HostFault (Err host) (λ tree. followed (Step (changed old.db parts tree) label ∷ []) (rest tree)) (λ tree. stepping old.db parts label (rest tree) tree)
      (λ t tree stood. sym (changing-within old.db parts (followed (Step (changed old.db parts tree) label ∷ []) (rest tree)) allowed))
      (record {
        run = λ t tree stood.
            cut_longer stand old.seen (seen host) tree (Step (changed old.db parts tree) label ∷ []) (rest tree).events
            (subst (λ (v : Volume). Cut stand old.seen (seen host) v (Step (changed old.db parts v) label ∷ [])) (same_tree old.seen tree (stands t) stood) (cut t));
        syncs = λ t tree stood. let two = synced t in omega (arith, two);
        later = later;
        cause = rose;
        words = λ none. none;
      })
