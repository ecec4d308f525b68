-- The run of `lsr`: its change, its parts, and its label.
use Rattle.std.proofs.Common.{◌≡◌, ◌<◌, ◌≤◌, ℕ, Bool, true, false, cond, not, nat_lt, List, [], ◌∷◌, length, Option, Some, None, Result, refl, sym, ap, subst, ◌∙◌}
use Rattle.std.specs.Prelude.{filter, option_map}
use Rattle.std.specs.FinMap.{keys}
use Rattle.tl_model.specs.Acks.{IsLabel, acks}
use Rattle.tl_model.specs.Seen.{Seen, Told}
use Rattle.tl_model.specs.Volume.{Name, Volume}
use Rattle.tl_kind.specs.Quantities.{limit_of}
use Rattle.tl_kind.specs.declared.quantity.What.{What}
use Rattle.tl_kind.specs.declared.quantity.What.TheVariants as what
use Rattle.tl_journal_text.specs.Stand.{stand}
use Rattle.tl_entry.specs.declared.object.Object.{Object}
use Rattle.tl_lsr.specs.Lists.{list_path, lsr_text}
use Rattle.tl_tree.specs.Planted.{Planted}
use Rattle.tl_tree.specs.Staged.{has_name}
use Rattle.tl_tree.specs.Conditions.{IsChange, has_later}
use Rattle.tl_tree.specs.declared.change.Part.{Part}
use Rattle.tl_tree.specs.declared.change.Part.TheVariants.{Write}
use Rattle.tl_tree.proofs.Distinct.{once-cons, once-nil}
use Rattle.tl_refusal.specs.declared.refusal.Refusal.{Refusal}
use Rattle.tl_refusal.specs.declared.refusal.Refusal.TheVariants.{Owned, TooLarge}
use Rattle.tl_command.specs.declared.ending.Ending.{Ending}
use Rattle.tl_command.specs.Endings.{Faults}
use Rattle.tl_command.specs.Performs.{Performs}
use Rattle.tl_command.specs.Runs.{Run, AreLabelled, finished, refused, limited, stepping}
use Rattle.tl_command.proofs.Joins.{performs_same, performs_quiet}
use Rattle.tl_command.proofs.Limits.{limited-within, limited-past}
use Rattle.tl_publish.specs.Listable.{is_lowest, listable, occupant}
use Rattle.tl_publish.specs.Owning.{list_owner}
use Rattle.tl_publish.specs.Walk.{Gathering, HasManyNames, Gathers}
use Rattle.tl_publish.specs.Lsr.{lsr_label, writing_run, unless_occupied, unless_owned, over_names, names_run, lsr_run}
use Rattle.tl_publish.proofs.InsideLemmas.{listable-inside}
use Rattle.tl_publish.proofs.OwnLemmas.{list_unowned}

-- the label is one acknowledged line
label-lsr : IsLabel lsr_label
unfolding acks
label-lsr = record { one = refl; whole = refl }

-- the list that is written is a change, all of whose bytes are there
pub change-list : (db : List Object) (parts : List Part) (text label : List ℕ) → list_owner db ≡ None → parts ≡ Write list_path text ∷ [] → label ≡ lsr_label → IsChange db parts label
change-list db parts text label free is named = subst (λ (ps : List Part). IsChange db ps label) (sym is) (record {
  names = once-nil;
  paths = once-cons list_path [] refl once-nil;
  puts = (tt, tt);
  keeps = (list_unowned (λ (o : Object). not (has_name o.name [])) db free, tt);
  beside = (record { outside = refl; unmade = refl }, tt);
  label = subst (λ (l : List ℕ). IsLabel l) (sym named) label-lsr;
})

pub list-whole : (parts : List Part) (text : List ℕ) → parts ≡ Write list_path text ∷ [] → has_later parts ≡ false
list-whole parts text is = ap has_later is

module _ {T : Type 0} (tells : Bool) (seen : T → Seen) (before after : Faults) (ending : Ending) (state : Result Seen T) where
  -- a list whose text is within the limit
  pub performs_listed : (first : Seen) (text : List ℕ) (db : List Object) → length text ≤ limit_of what.Database
      → Performs tells seen (λ t. stepping db (Write list_path text ∷ []) lsr_label finished t) 0 first before after ending state → Performs tells seen (λ t. writing_run text db t) 0 first before after ending state
  performs_listed first text db le near = performs_same tells seen 0 first before after ending state (λ t. stepping db (Write list_path text ∷ []) lsr_label finished t) (λ t. writing_run text db t)
      (λ _ t stood. sym (limited-within what.Database (length text) (stepping db (Write list_path text ∷ []) lsr_label finished t) le)) near

  -- and past it
  pub performs_overlong : (first : Seen) (text : List ℕ) (db : List Object) → limit_of what.Database < length text → Performs tells seen (λ _. refused (TooLarge what.Database (limit_of what.Database))) 0 first before after ending state
      → Performs tells seen (λ t. writing_run text db t) 0 first before after ending state
  performs_overlong first text db lt near = performs_same tells seen 0 first before after ending state (λ _. refused (TooLarge what.Database (limit_of what.Database))) (λ t. writing_run text db t)
      (λ _ t stood. sym (limited-past what.Database (length text) (stepping db (Write list_path text ∷ []) lsr_label finished t) lt)) near

  -- a tree with more names than the limit
  pub performs_many : (first : Seen) (go : Volume → List Name → Run) → Told tells ((tree : Volume) → stand first.present.held ≡ Some tree → HasManyNames tree)
      → Performs tells seen (λ _. refused (TooLarge what.Files (limit_of what.Files))) 0 first before after ending state → Performs tells seen (λ t. over_names (go t) t) 0 first before after ending state
  performs_many first go many near = performs_same tells seen 0 first before after ending state (λ _. refused (TooLarge what.Files (limit_of what.Files))) (λ t. over_names (go t) t)
      (λ told t stood. sym (limited-past what.Files (length (keys t)) (go t (keys t)) (many told t stood))) near

  -- what is left of a command behind names that were gathered
  pub performs_gathered : (old new : Planted) (gathering : Gathering) → Gathers tells old new gathering
      → Performs tells seen (λ t. unless_occupied gathering.occupant (writing_run (lsr_text (filter (is_lowest gathering.inside) gathering.inside)) new.db t)) 0 new.seen before after ending state
      → Performs tells seen (λ t. over_names (names_run old.db t) t) 0 old.seen before after ending state
  performs_gathered old new gathering gathers near =
      let listing : List Object → Gathering → Volume → Run = λ db g t. unless_occupied g.occupant (writing_run (lsr_text (filter (is_lowest g.inside) g.inside)) db t) in
      performs_same tells seen 0 old.seen before after ending state (λ t. listing old.db gathering t) (λ t. over_names (names_run old.db t) t)
      (λ told t stood.
      let names = gathers.names told t stood in
      ap (λ (g : Gathering). listing old.db g t) names.1
      ∙ ap (λ (paths : List Name). unless_occupied (occupant (keys t)) (writing_run (lsr_text paths) old.db t)) (listable-inside (keys t))
      ∙ sym (limited-within what.Files (length (keys t)) (names_run old.db t (keys t)) names.0))
      (performs_quiet tells seen 0 old.seen before after ending state (λ t. listing old.db gathering t) new.seen gathers.quiet
      (subst (λ (db : List Object). Performs tells seen (λ t. listing db gathering t) 0 new.seen before after ending state) gathers.db near))

-- a list that an entry has among its files, or above or below which it has one
owned_run : (found : Option Name) (refusal : Refusal) (run : Run) → Some refusal ≡ option_map (λ owner. Owned list_path owner) found → unless_owned found run ≡ refused refusal
owned_run None refusal run is = absurd (cc)
owned_run (Some owner) refusal run is = let same : Owned list_path owner ≡ refusal = cc in ap refused same

pub performs_owned : {T : Type 0} (tells : Bool) (seen : T → Seen) (before after : Faults) (ending : Ending) (state : Result Seen T) (first : Seen) (db : List Object) (refusal : Refusal)
    → Some refusal ≡ option_map (λ owner. Owned list_path owner) (list_owner db) → Performs tells seen (λ _. refused refusal) 0 first before after ending state
    → Performs tells seen (λ t. lsr_run t db) 0 first before after ending state
performs_owned tells seen before after ending state first db refusal is near = performs_same tells seen 0 first before after ending state (λ _. refused refusal) (λ t. lsr_run t db)
    (λ _ t stood. sym (owned_run (list_owner db) refusal (over_names (names_run db t) t) is)) near

labelled-limited : (quantity : What) (count : ℕ) (run : Run) → AreLabelled run.events → AreLabelled (limited quantity count run).events
labelled-limited quantity count run labelled = by (nat_lt (limit_of quantity) count)
  where
    by : (past : Bool) → let run' = cond past (refused (TooLarge quantity (limit_of quantity))) run in AreLabelled run'.events
    by true = tt
    by false = labelled

labelled-writing : (text : List ℕ) (db : List Object) (tree : Volume) → AreLabelled (writing_run text db tree).events
labelled-writing text db tree = labelled-limited what.Database (length text) (stepping db (Write list_path text ∷ []) lsr_label finished tree) (label-lsr, tt)

labelled-occupied : (found : Option Name) (run : Run) → AreLabelled run.events → AreLabelled (unless_occupied found run).events
labelled-occupied None run labelled = labelled
labelled-occupied (Some path) run labelled = tt

labelled-owned : (found : Option Name) (run : Run) → AreLabelled run.events → AreLabelled (unless_owned found run).events
labelled-owned None run labelled = labelled
labelled-owned (Some owner) run labelled = tt

-- each step of `lsr` is labelled
pub labelled-lsr : (tree : Volume) (db : List Object) → AreLabelled (lsr_run tree db).events
labelled-lsr tree db = labelled-owned (list_owner db) (over_names (names_run db tree) tree)
    (labelled-limited what.Files (length (keys tree)) (names_run db tree (keys tree))
    (labelled-occupied (occupant (keys tree)) (writing_run (lsr_text (listable (keys tree))) db tree) (labelled-writing (lsr_text (listable (keys tree))) db tree)))
