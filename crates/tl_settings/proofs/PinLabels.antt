-- The change that writes pins, the refusal of a glob, and the labels of the runs.
use Rattle.std.proofs.Common.{◌≡◌, ◌⊎◌, ℕ, ◌<◌, ◌≤◌, ◌&&◌, ◌||◌, not, Bool, true, false, cond, List, [], ◌∷◌, ◌++◌, length, filter, nat_le, nat_lt, Option, Some, None, Result, Ok, Err, refl, sym, ap, subst, ◌∙◌, inl, inr, arith}
use Rattle.std.specs.Prelude.{codes}
use Rattle.std.specs.List.{list_all, list_any, flat_map}
use Rattle.std.proofs.lemmas.Bool.{cases_Bool, true≢false, false_from_ne_true, and_parts, or_from, leb-true}
use Rattle.std.proofs.lemmas.Bool.Decides.{nat_tests}
use Rattle.std.proofs.lemmas.List.Folds.{list_any-append}
use Rattle.tl_model.specs.Acks.{IsLabel, acks}
use Rattle.tl_model.specs.Seen.{Seen}
use Rattle.tl_model.specs.Trace.{Step}
use Rattle.tl_model.specs.Volume.{Name, Volume, same_name, same_name-is}
use Rattle.tl_text.specs.Texts.{is_text}
use Rattle.tl_path.specs.Reserved.{is_reserved, reserved_paths}
use Rattle.tl_kind.specs.Quantities.{limit_of}
use Rattle.tl_kind.specs.declared.quantity.What.{What}
use Rattle.tl_kind.specs.declared.quantity.What.TheVariants as what
use Rattle.tl_entry.specs.declared.object.Object.{Object}
use Rattle.tl_db.proofs.OptionLemmas.{is_plain, text_from_plain}
use Rattle.tl_pin.specs.declared.line.PinLine.{PinLine}
use Rattle.tl_pin.specs.Form.{is_pin_byte, is_pin_glob, pin_globs}
use Rattle.tl_pin.specs.Changes.{with_globs}
use Rattle.tl_pin.specs.Reading.{pins_text}
use Rattle.tl_action.specs.declared.command.PinAction.{PinAction}
use Rattle.tl_action.specs.declared.command.PinAction.TheVariants.{Show, Add, Remove}
use Rattle.tl_tree.specs.Staged.{has_name}
use Rattle.tl_tree.specs.Changes.{own, listed, changed}
use Rattle.tl_tree.specs.Conditions.{IsChange, has_later}
use Rattle.tl_tree.proofs.Distinct.{once-cons, once-nil}
use Rattle.tl_tree.specs.declared.change.Part.{Part}
use Rattle.tl_tree.specs.declared.change.Part.TheVariants.{Write}
use Rattle.tl_refusal.specs.declared.refusal.Refusal.TheVariants.{TooLarge, NoPin}
use Rattle.tl_command.specs.declared.ending.Ending.{Ending}
use Rattle.tl_command.specs.Endings.{Faults}
use Rattle.tl_command.specs.Performs.{Performs}
use Rattle.tl_command.specs.Runs.{Run, AreLabelled, finished, followed, refused, limited, stepping}
use Rattle.tl_command.proofs.Joins.{performs_same}
use Rattle.tl_command.proofs.Limits.{limited-within, limited-past}
use Rattle.tl_offer.specs.Pinned.{pins_path, over_pins}
use Rattle.tl_offer.proofs.PinLemmas.{labelled-pinned}
use Rattle.tl_settings.specs.Pinning.{pinning_label, write_run, without_globs, without_all, left_run, over_globs, pinning_run}

reserved : is_reserved pins_path ≡ true
unfolding is_reserved reserved_paths
reserved = refl

-- a reserved path is none of an entry's files
unowned : (path : Name) → is_reserved path ≡ true → (names : List Name) → has_name path (filter (λ n. not (is_reserved n)) names) ≡ false
unowned path is [] = refl
unowned path is (n ∷ names) = by (cases_Bool (is_reserved n)) (unowned path is names)
  where
    by : (is_reserved n ≡ true) ⊎ (is_reserved n ≡ false) → has_name path (filter (λ n. not (is_reserved n)) names) ≡ false → has_name path (filter (λ n. not (is_reserved n)) (n ∷ names)) ≡ false
    by (inl kept) none = ap (λ t. has_name path (cond (not t) (n ∷ filter (λ n. not (is_reserved n)) names) (filter (λ n. not (is_reserved n)) names))) kept ∙ none
    by (inr free) none =
        let apart : same_name path n ≡ false =
        false_from_ne_true (same_name path n) (λ same. true≢false (sym is ∙ ap is_reserved (same_name-is path n same) ∙ free)) in
        ap (λ t. has_name path (cond (not t) (n ∷ filter (λ n. not (is_reserved n)) names) (filter (λ n. not (is_reserved n)) names))) free
        ∙ or_from (same_name path n) (has_name path (filter (λ n. not (is_reserved n)) names)) apart none

-- nor of those of some entries
unkept : (path : Name) → is_reserved path ≡ true → (stays : Object → Bool) (db : List Object) → has_name path (flat_map own (filter stays db)) ≡ false
unkept path is stays [] = refl
unkept path is stays (o ∷ db) = by (cases_Bool (stays o)) (unkept path is stays db)
  where
    by : (stays o ≡ true) ⊎ (stays o ≡ false) → has_name path (flat_map own (filter stays db)) ≡ false → has_name path (flat_map own (filter stays (o ∷ db))) ≡ false
    by (inl there) none =
        ap (λ t. has_name path (flat_map own (cond t (o ∷ filter stays db) (filter stays db)))) there
        ∙ list_any-append (same_name path) (own o) (flat_map own (filter stays db)) ∙ or_from _ _ (unowned path is (listed o)) none
    by (inr gone) none = ap (λ t. has_name path (flat_map own (cond t (o ∷ filter stays db) (filter stays db)))) gone ∙ none

-- the label of a change of the pins is one acknowledged line
pub label-pinning : IsLabel pinning_label
unfolding acks
label-pinning = record { one = refl; whole = refl }

-- pins that are written are a change, all of whose bytes are there
pub change-pins : (db : List Object) (parts : List Part) (text label : List ℕ) → parts ≡ Write pins_path text ∷ [] → label ≡ pinning_label → IsChange db parts label
change-pins db parts text label is named = subst (λ (ps : List Part). IsChange db ps label) (sym is) (record {
  names = once-nil;
  paths = once-cons pins_path [] refl once-nil;
  puts = (tt, tt);
  keeps = (unkept pins_path reserved (λ (o : Object). not (has_name o.name [])) db, tt);
  beside = (record { outside = refl; unmade = refl }, tt);
  label = subst (λ (l : List ℕ). IsLabel l) (sym named) label-pinning;
})

pub pins-whole : (parts : List Part) (text : List ℕ) → parts ≡ Write pins_path text ∷ [] → has_later parts ≡ false
pins-whole parts text is = ap has_later is

weaker : (p q : ℕ → Bool) → ((b : ℕ) → p b ≡ true → q b ≡ true) → (bytes : List ℕ) → list_all p bytes ≡ true → list_all q bytes ≡ true
weaker p q implies [] all = refl
weaker p q implies (b ∷ bytes) all =
    let parts = and_parts (p b) (list_all p bytes) all in ap (λ t. t && list_all q bytes) (implies b parts.0) ∙ weaker p q implies bytes parts.1

plain : (b : ℕ) → is_pin_byte b ≡ true → is_plain b ≡ true
plain b is = grind (arith, nat_tests, is)

-- a pin's glob is a text
pub glob-text : (glob : List ℕ) → is_pin_glob glob ≡ true → is_text glob ≡ true
glob-text glob is =
    let some = and_parts (nat_le 1 (length glob)) (nat_le (length glob) 128 && list_all is_pin_byte glob) is in
    let form = and_parts (nat_le (length glob) 128) (list_all is_pin_byte glob) some.1 in
    let short : length glob ≤ 128 = leb-true (length glob) 128 form.0 in
    text_from_plain glob (weaker is_pin_byte is_plain plain glob form.1) (omega (arith, short))

module _ {T : Type 0} (tells : Bool) (seen : T → Seen) (first : Seen) (before after : Faults) (ending : Ending) (state : Result Seen T) (pins : List PinLine) (text : List ℕ) (db : List Object) where
  -- pins whose text is within its limit
  pub performs_written : text ≡ pins_text pins → length text ≤ limit_of what.Pins → Performs tells seen (λ t. stepping db (Write pins_path text ∷ []) pinning_label finished t) 0 first before after ending state
      → Performs tells seen (λ t. write_run pins t db) 0 first before after ending state
  performs_written is le near = performs_same tells seen 0 first before after ending state (λ t. stepping db (Write pins_path text ∷ []) pinning_label finished t) (λ t. write_run pins t db)
      (λ _ t stood. sym (limited-within what.Pins (length text) (stepping db (Write pins_path text ∷ []) pinning_label finished t) le)
      ∙ ap (λ (l : List ℕ). limited what.Pins (length l) (stepping db (Write pins_path l ∷ []) pinning_label finished t)) is) near

  -- and past it
  pub performs_overflown : text ≡ pins_text pins → limit_of what.Pins < length text → Performs tells seen (λ _. refused (TooLarge what.Pins (limit_of what.Pins))) 0 first before after ending state
      → Performs tells seen (λ t. write_run pins t db) 0 first before after ending state
  performs_overflown is lt near = performs_same tells seen 0 first before after ending state (λ _. refused (TooLarge what.Pins (limit_of what.Pins))) (λ t. write_run pins t db)
      (λ _ t stood. sym (limited-past what.Pins (length text) (stepping db (Write pins_path text ∷ []) pinning_label finished t) lt)
      ∙ ap (λ (l : List ℕ). limited what.Pins (length l) (stepping db (Write pins_path l ∷ []) pinning_label finished t)) is) near

labelled-limited : (quantity : What) (count : ℕ) (run : Run) → AreLabelled run.events → AreLabelled (limited quantity count run).events
labelled-limited quantity count run labelled = by (nat_lt (limit_of quantity) count)
  where
    by : (past : Bool) → let run' = cond past (refused (TooLarge quantity (limit_of quantity))) run in AreLabelled run'.events
    by true = tt
    by false = labelled

labelled-write : (pins : List PinLine) (tree : Volume) (db : List Object) → AreLabelled (write_run pins tree db).events
labelled-write pins tree db = labelled-limited what.Pins (length (pins_text pins)) (stepping db (Write pins_path (pins_text pins) ∷ []) pinning_label finished tree) (label-pinning, tt)

labelled-left : (tag : List ℕ) (left : Result (List PinLine) (List ℕ)) (tree : Volume) (db : List Object) → AreLabelled (left_run tag left tree db).events
labelled-left tag (Ok pins) tree db = labelled-write pins tree db
labelled-left tag (Err glob) tree db = tt

labelled-globs : (go : List (List ℕ) → Run) → ((globs : List (List ℕ)) → AreLabelled (go globs).events) → (found : Option (List (List ℕ))) → AreLabelled (over_globs go found).events
labelled-globs go each None = tt
labelled-globs go each (Some globs) = each globs

labelled-run : (asked : PinAction) (tree : Volume) (db : List Object) (pins : List PinLine) → AreLabelled (pinning_run asked tree db pins).events
labelled-run Show tree db pins = tt
labelled-run (Add tag globs) tree db pins = labelled-globs (λ gs. write_run (with_globs tag gs pins) tree db) (λ gs. labelled-write (with_globs tag gs pins) tree db) (pin_globs globs)
labelled-run (Remove tag globs false) tree db pins =
    labelled-globs (λ gs. left_run tag (without_globs tag gs pins) tree db) (λ gs. labelled-left tag (without_globs tag gs pins) tree db) (pin_globs globs)
labelled-run (Remove tag globs true) tree db pins = labelled-left tag (without_all tag pins) tree db

-- each step of `pinning` is labelled
pub labelled-pinning : (asked : PinAction) (tree : Volume) (db : List Object) → AreLabelled (over_pins (pinning_run asked tree db) tree).events
labelled-pinning asked tree db = labelled-pinned (pinning_run asked tree db) (labelled-run asked tree db) tree
