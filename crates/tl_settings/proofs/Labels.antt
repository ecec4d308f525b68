-- The texts of options, the names that a change of an entry writes, and the labels of the runs.
use Rattle.std.proofs.Common.{◌≡◌, ◌==◌, ℕ, Bool, true, false, cond, List, [], ◌∷◌, ◌++◌, Option, Some, None, Result, Ok, Err, refl, sym, ap, subst}
use Rattle.std.specs.Prelude.{codes}
use Rattle.std.specs.List.{join_with_byte}
use Rattle.tl_model.specs.Trace.{Step}
use Rattle.std.specs.Str.{bytes_eq}
use Rattle.std.proofs.lemmas.Slice.Eq.{bytes_eq-Decides}
use Rattle.std.proofs.lemmas.List.Elements.{All-append}
use Rattle.tl_model.specs.Lines.{IsLine}
use Rattle.tl_model.specs.Acks.{IsLabel, IsPlain, acks, plain-line, plain-nil}
use Rattle.tl_entry.specs.declared.object.Object.{Object}
use Rattle.tl_db.specs.Options.{option_name, option_named, entry_with, entry_setting}
use Rattle.tl_db.specs.declared.options.TreeOption.{TreeOption}
use Rattle.tl_db.specs.declared.options.TreeOption.TheVariants.{Autobackup, Platforms}
use Rattle.tl_model.specs.Volume.{Volume}
use Rattle.tl_tree.specs.Changes.{with_entry, changed}
use Rattle.tl_tree.specs.Conditions.{IsChange, has_later}
use Rattle.tl_tree.proofs.Distinct.{once-cons, once-nil}
use Rattle.tl_tree.specs.declared.change.Part.{Part}
use Rattle.tl_tree.specs.declared.change.Part.TheVariants.{Entry}
use Rattle.tl_db.specs.declared.options.OptionError.{OptionError}
use Rattle.tl_db.specs.declared.options.OptionError.TheVariants as errors
use Rattle.tl_command.specs.Runs.{AreLabelled, finished, followed}
use Rattle.tl_command.proofs.Limits.{labelled-leaving}
use Rattle.tl_settings.specs.Settings.{option_label, show_run, set_run, option_run}
use Rattle.tl_object.proofs.PlainLemmas.{line_tested}

-- the label of an option is one acknowledged line
pub label-option : (option : TreeOption) → IsLabel (option_label (option_name option))
unfolding acks
label-option Autobackup = record { one = refl; whole = refl }
label-option Platforms = record { one = refl; whole = refl }

named_by : (name : List ℕ) (option : TreeOption) (a b : Bool) → (bytes_eq name (codes "autobackup") ≡ a) → (bytes_eq name (codes "platforms") ≡ b)
    → cond a (Some Autobackup) (cond b (Some Platforms) None) ≡ Some option → name ≡ option_name option
named_by name Autobackup true b first second is = (bytes_eq-Decides name (codes "autobackup")).0 first
named_by name Platforms true b first second is = absurd (cc)
named_by name Autobackup false true first second is = absurd (cc)
named_by name Platforms false true first second is = (bytes_eq-Decides name (codes "platforms")).0 second
named_by name option false false first second is = absurd (cc)

-- an option is found by its name
pub named : (name : List ℕ) (option : TreeOption) → option_named name ≡ Some option → name ≡ option_name option
named name option is = named_by name option (bytes_eq name (codes "autobackup")) (bytes_eq name (codes "platforms")) refl refl is

-- the line of an option
pub plain-option : (option : TreeOption) (value : List ℕ) → IsLine value → IsPlain (option_name option ++ 32 ∷ value ++ 10 ∷ [])
plain-option Autobackup value is =
    plain-line (codes "autobackup " ++ value) [] (All-append (λ (n : ℕ). (n == 10) ≡ false) (codes "autobackup ") value (line_tested (codes "autobackup ") refl) is) refl plain-nil
plain-option Platforms value is =
    plain-line (codes "platforms " ++ value) [] (All-append (λ (n : ℕ). (n == 10) ≡ false) (codes "platforms ") value (line_tested (codes "platforms ") refl) is) refl plain-nil

-- the label of an option that is set
pub label-setting : (name value : List ℕ) (db : List Object) (entry : Object) → entry_with name value db ≡ Ok entry → IsLabel (option_label name)
label-setting name value db entry is = by (option_named name) refl is
  where
    by : (found : Option TreeOption) → option_named name ≡ found → entry_setting found value db ≡ Ok entry → IsLabel (option_label name)
    by None found is = absurd (cc)
    by (Some option) found is = subst (λ (n : List ℕ). IsLabel (option_label n)) (sym (named name option found)) (label-option option)

-- one entry that comes is a change, all of whose bytes are there
pub change-entry : (db : List Object) (parts : List Part) (entry : Object) (label : List ℕ) → parts ≡ Entry entry ∷ [] → IsLabel label → IsChange db parts label
change-entry db parts entry label is is_label = subst (λ (ps : List Part). IsChange db ps label) (sym is) (record {
  names = once-cons entry.name [] refl once-nil;
  paths = once-nil;
  puts = (tt, tt);
  keeps = tt;
  beside = tt;
  label = is_label;
})

pub entry-whole : (parts : List Part) (entry : Object) → parts ≡ Entry entry ∷ [] → has_later parts ≡ false
entry-whole parts entry is = ap has_later is

labelled-set : (name value : List ℕ) (tree : Volume) (db : List Object) (found : Result Object OptionError) → entry_with name value db ≡ found → AreLabelled (set_run name found tree db).events
labelled-set name value tree db (Ok entry) is =
    labelled-leaving (with_entry entry db) (followed (Step (changed db (Entry entry ∷ []) tree) (option_label name) ∷ []) finished) (label-setting name value db entry is, tt)
labelled-set name value tree db (Err errors.UnknownOption) is = tt
labelled-set name value tree db (Err errors.BadValue) is = tt
labelled-set name value tree db (Err errors.NoMemory) is = tt

labelled-show : (name : List ℕ) (option : Option TreeOption) (db : List Object) → AreLabelled (show_run name option db).events
labelled-show name None db = tt
labelled-show name (Some option) db = tt

-- each step of `option` is labelled
pub labelled-option : (option : Option (List ℕ)) (values : List (List ℕ)) (tree : Volume) (db : List Object) → AreLabelled (option_run option values tree db).events
labelled-option None values tree db = tt
labelled-option (Some name) [] tree db = labelled-show name (option_named name) db
labelled-option (Some name) (value ∷ values) tree db =
    labelled-set name (join_with_byte 32 (value ∷ values)) tree db (entry_with name (join_with_byte 32 (value ∷ values)) db) refl
