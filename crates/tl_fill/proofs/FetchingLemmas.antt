-- Containers that are fetched one after the other.
use Rattle.std.proofs.Common.{◌≡◌, ◌<◌, ◌≤◌, ◌+◌, ℕ, zero, suc, Bool, true, false, ◌&&◌, List, [], ◌∷◌, ◌++◌, length, get_or, drop, Option, Result, Err, refl, sym, ◌∙◌, ap, subst, inl, inr, arith, append_assoc}
use Rattle.std.specs.Prelude.{not, fold, map}
use Rattle.std.specs.FinSet as set
use Rattle.std.proofs.lemmas.Bool.{cases_Bool, true≢false}
use Rattle.std.proofs.lemmas.List.{append-nil}
use Rattle.std.proofs.lemmas.List.Sums.{fold-append}
use Rattle.tl_model.specs.Causes.{Rose}
use Rattle.tl_model.specs.Devices.{ShelfSeen}
use Rattle.tl_model.specs.Seen.{Told}
use Rattle.tl_model.specs.Volume.{Name, Names, Volume}
use Rattle.tl_tree.specs.Staged.{has_name}
use Rattle.tl_tree.proofs.Distinct.{AreOnce, has_left, has_right, once-cross}
use Rattle.tl_command.specs.Runs.{Run}
use Rattle.tl_fetch.specs.Fetching.{Fetched, HasTaken, IsNoFetch}
use Rattle.tl_fetch.specs.Sinks.{IsOpen, SinkSeen}
use Rattle.tl_fetch.specs.Unpacked.{less_paths, paths_in}
use Rattle.tl_fetch.specs.declared.fetch_error.FetchError.{FetchError}
use Rattle.tl_fetch.specs.declared.fetch_error.FetchError.TheVariants.{ShelfFault, SinkFault}
use Rattle.tl_fill.specs.Filling.{over_container, over_containers}
use Rattle.tl_fill.specs.Halts.{HaltsAmong, HaltsAt, HaltsBy}
use Rattle.tl_fill.specs.Wanted.{AreAwaited, HasFilled, HaveFilled, Wanted, WereFetched, all_paths, files_in, files_wanted, held_as, wanted_of, wanted_paths}
use Rattle.tl_fill.specs.declared.fetch.Fetch.{Fetch}
use Rattle.tl_fill.specs.declared.halt.Halt.{Halt}
use Rattle.tl_fill.specs.declared.halt.Halt.TheVariants.{Refused, Shelf, Sink, Memory}
use Rattle.tl_fill.proofs.PathLemmas.{contains-less, given_paths, has_path, paths_in-append}

-- a container that isn't taken
pub halts_at : (tells sink_tells : Bool) (wanted : Wanted) (error : FetchError) (halt : Halt) (old new : ShelfSeen) (sink_old sink_new : SinkSeen) → HaltsBy wanted error halt
    → Fetched tells sink_tells (held_as old.repositories wanted) wanted.repo.db wanted.entry wanted.part sink_old sink_new (Err error)
    → (error ≡ ShelfFault → Rose old.faults new.faults) → (error ≡ SinkFault → Rose sink_old.faults sink_new.faults) → HaltsAt tells wanted old new sink_old sink_new halt
halts_at tells sink_tells wanted error (Refused refusal) old new sink_old sink_new by fetched shelf sink =
    (by.0, λ t go. by.1 (files_wanted old.repositories wanted) go (subst (λ (held : Option (List ℕ)). IsNoFetch (files_in wanted held) error) (fetched.same t) fetched.gave))
halts_at tells sink_tells wanted error Shelf old new sink_old sink_new by fetched shelf sink = shelf by
halts_at tells sink_tells wanted error Sink old new sink_old sink_new by fetched shelf sink = sink by
halts_at tells sink_tells wanted error Memory old new sink_old sink_new by fetched shelf sink = tt

-- containers from one on
pub wanted_from : (fetches : List Fetch) (at : ℕ) (fetch : Fetch) → at < length fetches → fetch ≡ get_or fetches at fetch
    → drop at (map wanted_of fetches) ≡ wanted_of fetch ∷ drop (at + 1) (map wanted_of fetches)
wanted_from [] at fetch lt is = absurd (omega arith)
wanted_from (f ∷ fetches) zero fetch lt is = ap (λ (g : Fetch). wanted_of g ∷ map wanted_of fetches) (sym is)
wanted_from (f ∷ fetches) (suc at) fetch lt is =
    let one : suc at + 1 ≡ suc (at + 1) = omega arith in
    wanted_from fetches at fetch (omega arith) is ∙ ap (λ (n : ℕ). wanted_of fetch ∷ drop n (wanted_of f ∷ map wanted_of fetches)) (sym one)

-- some containers were fetched, and these are left
pub record IsFetching (tells sink_tells : Bool) (volumes : List Volume) (all left : List Wanted) (first now : SinkSeen) : Type 0 where
  pub files : List (Name × List ℕ)
  pub so_far : (last : List (Name × List ℕ)) → WereFetched tells volumes left files last → WereFetched tells volumes all [] last
  pub run : Told tells ((go : List (Name × List ℕ) → Run) → over_containers volumes all go [] ≡ over_containers volumes left go files)
  pub paths : paths_in files ++ all_paths left ≡ all_paths all
  pub took : HasTaken sink_tells first now files

module _ (tells sink_tells : Bool) (volumes : List Volume) (all : List Wanted) (first : SinkSeen) where
  pub fetching_start : first.lacks ≡ 0 → IsFetching tells sink_tells volumes all all first first
  fetching_start whole = record {
    files = [];
    so_far = λ last were. were;
    run = λ t go. refl;
    paths = refl;
    took = record { lacks = whole; takes = refl; given = λ t. sym (append-nil first.given) };
  }

  module _ (wanted : Wanted) (more : List Wanted) (now : SinkSeen) (so : IsFetching tells sink_tells volumes all (wanted ∷ more) first now) where
    -- the sink can be given the next one's files
    pub next_open : AreAwaited all first → IsOpen (wanted_paths wanted) now
    next_open awaited = record {
      whole = so.took.lacks;
      taken = λ path here.
          let one : has_name path (wanted_paths wanted) ≡ true = sym (has_path path (wanted_paths wanted)) ∙ here in
          let left : has_name path (wanted_paths wanted ++ all_paths more) ≡ true = has_left path (wanted_paths wanted) (all_paths more) one in
          let once : AreOnce (paths_in so.files ++ (wanted_paths wanted ++ all_paths more)) = subst AreOnce (sym so.paths) awaited.apart in
          let among : has_name path (all_paths all) ≡ true = subst (λ (l : List Name). has_name path l ≡ true) so.paths (has_right path (paths_in so.files) (wanted_paths wanted ++ all_paths more) left) in
          ap (λ (s : Names). set.contains s path) so.took.takes ∙ contains-less first.takes (paths_in so.files) path
          ∙ ap (λ (b : Bool). not b && set.contains first.takes path) (apart path once left) ∙ awaited.taken path among;
    }
      where
        apart : (path : Name) → AreOnce (paths_in so.files ++ (wanted_paths wanted ++ all_paths more)) → has_name path (wanted_paths wanted ++ all_paths more) ≡ true → has_name path (paths_in so.files) ≡ false
        apart path once left = elim (cases_Bool (has_name path (paths_in so.files))) [
          | inl here ↦ absurd (true≢false (sym left ∙ once-cross (paths_in so.files) (wanted_paths wanted ++ all_paths more) once path here))
          | inr other ↦ other
        ]

    -- it was fetched too
    pub fetching_more : (new : SinkSeen) → HasFilled tells sink_tells volumes wanted now new → IsFetching tells sink_tells volumes all more first new
    fetching_more new filled =
        let own : List (Name × List ℕ) = filled.2.0 in
        let have : paths_in own ≡ wanted_paths wanted = given_paths wanted.repo.db wanted.entry wanted.part filled.0 own filled.2.1 in
        record {
          files = so.files ++ own;
          so_far = λ last were. so.so_far last (filled.0, filled.1, (own, filled.2.1, were));
          run = λ t go. so.run t go ∙ ap (λ (r : Result (List (Name × List ℕ)) FetchError). over_container wanted (λ own. over_containers volumes more go (so.files ++ own)) r)
              (ap (λ (held : Option (List ℕ)). files_in wanted held) (sym (filled.1 t)) ∙ filled.2.1);
          paths = ap (λ (l : List Name). l ++ all_paths more) (paths_in-append so.files own ∙ ap (λ (l : List Name). paths_in so.files ++ l) have)
              ∙ append_assoc (paths_in so.files) (wanted_paths wanted) (all_paths more) ∙ so.paths;
          took = record {
            lacks = filled.2.2.lacks;
            takes = filled.2.2.takes ∙ ap (λ (s : Names). less_paths s own) so.took.takes
                ∙ sym (ap (λ (l : List Name). fold set.remove first.takes l) (paths_in-append so.files own) ∙ fold-append set.remove first.takes (paths_in so.files) (paths_in own));
            given = λ t. filled.2.2.given t ∙ ap (λ (l : List (Name × List ℕ)). l ++ own) (so.took.given t) ∙ append_assoc first.given so.files own;
          };
        }

    -- the command halts there
    pub halts_among : (new : SinkSeen) (old after : ShelfSeen) (halt : Halt) → volumes ≡ old.repositories → HaltsAt tells wanted old after now new halt → first.faults ≤ now.faults
        → (shelf_first : ShelfSeen) → shelf_first.repositories ≡ volumes → shelf_first.faults ≤ old.faults → HaltsAmong tells all shelf_first after first new halt
    halts_among new old after (Refused refusal) same halts later shelf_first at shelf_later = (
      halts.0,
      λ t go.
          ap (λ (vs : List Volume). over_containers vs all go []) at ∙ so.run t go
          ∙ ap (λ (vs : List Volume). over_container wanted (λ own. over_containers volumes more go (so.files ++ own)) (files_wanted vs wanted)) same
          ∙ halts.1 t (λ own. over_containers volumes more go (so.files ++ own)),
    )
    halts_among new old after Shelf same halts later shelf_first at shelf_later = omega (arith, halts, shelf_later)
    halts_among new old after Sink same halts later shelf_first at shelf_later = omega (arith, halts, later)
    halts_among new old after Memory same halts later shelf_first at shelf_later = tt

  -- all were fetched
  pub fetching_end : (now : SinkSeen) → IsFetching tells sink_tells volumes all [] first now → HaveFilled tells sink_tells volumes all first now
  fetching_end now so = record {
    files = so.files;
    fetched = so.so_far so.files refl;
    paths = sym (append-nil (paths_in so.files)) ∙ so.paths;
    took = so.took;
  }
