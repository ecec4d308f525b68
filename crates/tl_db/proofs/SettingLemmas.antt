-- What the options say once one is set.
use Rattle.std.proofs.Common.{◌≡◌, ◌≢◌, ℕ, Bool, true, false, cond, ◌&&◌, ◌||◌, List, [], ◌∷◌, ◌++◌, length, take, drop, Option, Some, None, Result, Ok, refl, sym, ap, subst, ◌∙◌, inl, inr, arith, take_at, drop_at}
use Rattle.std.specs.Prelude.{◌==◌, is_some, unwrap_or, option_map, option_and_then, codes}
use Rattle.std.specs.Str.{bytes_eq}
use Rattle.std.specs.Result.{result_unwrap_or}
use Rattle.std.proofs.lemmas.Bool.{cases_Bool, true≢false}
use Rattle.std.proofs.lemmas.Bool.Decides.{nat_tests}
use Rattle.std.proofs.lemmas.Slice.Eq.{bytes_eq-Decides}
use Rattle.tl_model.specs.Volume.{same_name, same_name-is, same_name-refl}
use Rattle.tl_object.specs.Values.{stripped}
use Rattle.tl_entry.specs.Rising.{comes_before, insert_by, has_key}
use Rattle.tl_entry.specs.declared.object.Object.{Object}
use Rattle.tl_db.specs.Entries.{entry_of, others}
use Rattle.tl_db.specs.declared.options.TreeOption.{TreeOption}
use Rattle.tl_db.specs.declared.options.TreeOption.TheVariants.{Autobackup, Platforms}
use Rattle.tl_db.specs.declared.options.OptionError.{OptionError}
use Rattle.tl_db.specs.Options.{option_name, option_named, option_prefix, option_default, installation, or_first, first_after, kept_value, option_value, option_of, no_options, with_line, keeping, entry_keeping, entry_setting, with_entry, with_made, with_option, spelled, spelling_of}
use Rattle.tl_db.proofs.DbLemmas.{name}
use Rattle.tl_db.proofs.FindLemmas.{filter_gone}
use Rattle.tl_db.proofs.SpelledLemmas.{spelled_again}

abbrev Lines : Type 0
Lines = List (List ℕ)

-- what stands behind a text that was put in front
stripped_own : (prefix value : List ℕ) → stripped prefix (prefix ++ value) ≡ Some value
stripped_own prefix value =
    ap (λ (front : List ℕ). cond (bytes_eq front prefix) (Some (drop (length prefix) (prefix ++ value))) None) (take_at prefix value (length prefix) refl)
    ∙ ap (λ t. cond t (Some (drop (length prefix) (prefix ++ value))) None) ((bytes_eq-Decides prefix prefix).1 refl)
    ∙ ap (λ (rest : List ℕ). Some rest) (drop_at prefix value (length prefix) refl)

not_there : (o : Option (List ℕ)) → is_some o ≡ false → o ≡ None
not_there None e = refl
not_there (Some x) e = absurd (true≢false e)

-- the first line that begins with a text is the one that was put there
first_set : (prefix value : List ℕ) (lines : Lines) → first_after prefix (with_line prefix (prefix ++ value) lines) ≡ Some value
first_set prefix value [] = ap (λ o. or_first o None) (stripped_own prefix value)
first_set prefix value (line ∷ lines) =
    elim (cases_Bool (is_some (stripped prefix line))) [
      | inl here ↦ ap (λ t. first_after prefix (cond t ((prefix ++ value) ∷ lines) (line ∷ with_line prefix (prefix ++ value) lines))) here
          ∙ ap (λ o. or_first o (first_after prefix lines)) (stripped_own prefix value)
      | inr other ↦ ap (λ t. first_after prefix (cond t ((prefix ++ value) ∷ lines) (line ∷ with_line prefix (prefix ++ value) lines))) other
          ∙ ap (λ o. or_first o (first_after prefix (with_line prefix (prefix ++ value) lines))) (not_there (stripped prefix line) other)
          ∙ first_set prefix value lines
    ]

-- lines that begin with one text don't begin with the other
abbrev AreApart : List ℕ → List ℕ → Type 0
AreApart prefix other = (line : List ℕ) → is_some (stripped prefix line) ≡ true → stripped other line ≡ None

-- the first line that begins otherwise is as before
first_other : (prefix other new : List ℕ) → AreApart prefix other → stripped other new ≡ None → (lines : Lines) → first_after other (with_line prefix new lines) ≡ first_after other lines
first_other prefix other new apart none [] = ap (λ o. or_first o None) none
first_other prefix other new apart none (line ∷ lines) =
    elim (cases_Bool (is_some (stripped prefix line))) [
      | inl here ↦ ap (λ t. first_after other (cond t (new ∷ lines) (line ∷ with_line prefix new lines))) here
          ∙ ap (λ o. or_first o (first_after other lines)) none ∙ sym (ap (λ o. or_first o (first_after other lines)) (apart line here))
      | inr there ↦ ap (λ t. first_after other (cond t (new ∷ lines) (line ∷ with_line prefix new lines))) there
          ∙ ap (λ o. or_first (stripped other line) o) (first_other prefix other new apart none lines)
    ]

left : (a b : Bool) → (a && b) ≡ true → a ≡ true
left true b h = refl
left false b h = absurd (true≢false (sym h))

begun : (t : Bool) (v : List ℕ) → is_some (cond t (Some v) None) ≡ true → t ≡ true
begun true v e = refl
begun false v e = absurd (true≢false (sym e))

same_number : (x a : ℕ) → (x == a) ≡ true → x ≡ a
same_number x a e = grind (arith, nat_tests, e)

heads_apart : (a b : ℕ) (p q : List ℕ) → (a == b) ≡ false → AreApart (a ∷ p) (b ∷ q)
heads_apart a b p q ne [] begins = absurd (true≢false (sym begins))
heads_apart a b p q ne (x ∷ line) begins =
    let first : (x == a) ≡ true = left (x == a) (bytes_eq (take (length p) line) p) (begun (bytes_eq (take (length (a ∷ p)) (x ∷ line)) (a ∷ p)) (drop (length (a ∷ p)) (x ∷ line)) begins) in
    let other : (x == b) ≡ false = subst (λ n. (n == b) ≡ false) (sym (same_number x a first)) ne in
    ap (λ t. cond (t && bytes_eq (take (length q) line) q) (Some (drop (length (b ∷ q)) (x ∷ line))) None) other

apart : (option other : TreeOption) → option ≢ other → AreApart (option_prefix option) (option_prefix other)
apart Autobackup Autobackup ne = absurd (ne refl)
apart Autobackup Platforms ne = heads_apart 111 115 (codes "pt_autobackup:") (codes "etting_available_architectures:") refl
apart Platforms Autobackup ne = heads_apart 115 111 (codes "etting_available_architectures:") (codes "pt_autobackup:") refl
apart Platforms Platforms ne = absurd (ne refl)

either : (a b : Bool) → (a || b) ≡ false → (a ≡ false) × (b ≡ false)
either true b e = absurd (true≢false e)
either false b e = (refl, e)

-- the entry that was put among entries with other names is the one with its name
entry_put : (wanted : List ℕ) (o : Object) (objects : List Object) → same_name o.name wanted ≡ true → has_key name wanted objects ≡ false → entry_of wanted (insert_by name o objects) ≡ Some o
entry_put wanted o [] is none = ap (λ t. cond t (Some o) None) is
entry_put wanted o (x ∷ objects) is none =
    let parts = either (same_name x.name wanted) (has_key name wanted objects) none in
    elim (cases_Bool (comes_before o.name x.name)) [
      | inl first ↦ ap (λ t. entry_of wanted (cond t (o ∷ x ∷ objects) (x ∷ insert_by name o objects))) first
          ∙ ap (λ t. cond t (Some o) (entry_of wanted (x ∷ objects))) is
      | inr later ↦ ap (λ t. entry_of wanted (cond t (o ∷ x ∷ objects) (x ∷ insert_by name o objects))) later
          ∙ ap (λ t. cond t (Some x) (entry_of wanted (insert_by name o objects))) parts.0
          ∙ entry_put wanted o objects is parts.1
    ]

entry_set : (o : Object) (objects : List Object) → o.name ≡ installation → entry_of installation (with_entry o objects) ≡ Some o
entry_set o objects is =
    let same : same_name o.name installation ≡ true = ap (λ (n : List ℕ). same_name n installation) is ∙ same_name-refl installation in
    let none : has_key name installation (others o.name objects) ≡ false =
    ap (λ (n : List ℕ). has_key name installation (others n objects)) is ∙ filter_gone name installation objects in
    entry_put installation o (others o.name objects) same none

found_name : (wanted : List ℕ) (objects : List Object) (o : Object) → entry_of wanted objects ≡ Some o → o.name ≡ wanted
found_name wanted [] o is = absurd (cc)
found_name wanted (x ∷ objects) o is =
    elim (cases_Bool (same_name x.name wanted)) [
      | inl here ↦
          let first : Some x ≡ Some o = sym (ap (λ t. cond t (Some x) (entry_of wanted objects)) here) ∙ is in
          sym (ap (λ (f : Option Object). (unwrap_or f x).name) first) ∙ same_name-is x.name wanted here
      | inr other ↦ found_name wanted objects o (sym (ap (λ t. cond t (Some x) (entry_of wanted objects)) other) ∙ is)
    ]

-- the entry that is set has the name of the entry that keeps the options
pub kept_name : (objects : List Object) → (unwrap_or (entry_of installation objects) no_options).name ≡ installation
kept_name objects = by_entry (entry_of installation objects) refl
  where
    by_entry : (e : Option Object) → entry_of installation objects ≡ e → (unwrap_or e no_options).name ≡ installation
    by_entry None is = refl
    by_entry (Some o) is = found_name installation objects o is

-- the entry that a setting puts among the entries
abbrev set_entry : TreeOption → List ℕ → List Object → Object
set_entry option v objects = keeping option v (unwrap_or (entry_of installation objects) no_options)

kept_set : (option other : TreeOption) (v : List ℕ) (objects : List Object)
    → kept_value other (with_entry (set_entry option v objects) objects) ≡ first_after (option_prefix other) (set_entry option v objects).depends
kept_set option other v objects =
    ap (option_and_then (λ (o : Object). first_after (option_prefix other) o.depends)) (entry_set (set_entry option v objects) objects (kept_name objects))

-- an option has the value to which it was set
value_set : (option : TreeOption) (value v : List ℕ) (objects : List Object) → spelled option value ≡ Some v → option_value option (with_entry (set_entry option v objects) objects) ≡ v
value_set option value v objects is =
    ap (λ (kept : Option (List ℕ)). unwrap_or (option_and_then (spelled option) kept) (option_default option))
    (kept_set option option v objects ∙ first_set (option_prefix option) v (unwrap_or (entry_of installation objects) no_options).depends)
    ∙ ap (λ (s : Option (List ℕ)). unwrap_or s (option_default option)) (spelled_again option value v is)

-- another option has the value that it had
value_other : (option other : TreeOption) (v : List ℕ) (objects : List Object) → option ≢ other → option_value other (with_entry (set_entry option v objects) objects) ≡ option_value other objects
value_other option other v objects ne =
    ap (λ (kept : Option (List ℕ)). unwrap_or (option_and_then (spelled other) kept) (option_default other))
    (kept_set option other v objects
    ∙ first_other (option_prefix option) (option_prefix other) (option_prefix option ++ v) (apart option other ne)
    (apart option other ne (option_prefix option ++ v) (ap is_some (stripped_own (option_prefix option) v)))
    (unwrap_or (entry_of installation objects) no_options).depends
    ∙ before (entry_of installation objects))
  where
    before : (e : Option Object) → first_after (option_prefix other) (unwrap_or e no_options).depends ≡ option_and_then (λ (o : Object). first_after (option_prefix other) o.depends) e
    before None = refl
    before (Some o) = refl

abbrev done : List Object → Result (List Object) OptionError
done objects = Ok objects

given : (x y : List Object) → done x ≡ done y → x ≡ y
given x y is = ap (λ (r : Result (List Object) OptionError). result_unwrap_or r x) is

-- what an option says that was set
pub set_kept : (option_text value : List ℕ) (old new : List Object) → with_option option_text value old ≡ Ok new → option_of option_text new ≡ spelling_of option_text value
set_kept option_text value old new is = by_option (option_named option_text) is
  where
    by_spelling : (option : TreeOption) (s : Option (List ℕ)) → spelled option value ≡ s → with_made (entry_keeping option s old) old ≡ Ok new → Some (option_value option new) ≡ s
    by_spelling option None none made = absurd (cc)
    by_spelling option (Some v) spelt made =
        ap (λ (objects : List Object). Some (option_value option objects)) (sym (given (with_entry (set_entry option v old) old) new made))
        ∙ ap (λ (text : List ℕ). Some text) (value_set option value v old spelt)

    by_option : (o : Option TreeOption) → with_made (entry_setting o value old) old ≡ Ok new → option_map (λ option. option_value option new) o ≡ option_and_then (λ option. spelled option value) o
    by_option None made = absurd (cc)
    by_option (Some option) made = by_spelling option (spelled option value) refl made

named_is : (option_text : List ℕ) (option : TreeOption) → option_named option_text ≡ Some option → option_text ≡ option_name option
named_is option_text option is =
    elim (cases_Bool (bytes_eq option_text (codes "autobackup"))) [
      | inl first ↦ same_option Autobackup (sym (ap (λ t. cond t (Some Autobackup) (cond (bytes_eq option_text (codes "platforms")) (Some Platforms) None)) first) ∙ is)
          ((bytes_eq-Decides option_text (codes "autobackup")).0 first)
      | inr other ↦ elim (cases_Bool (bytes_eq option_text (codes "platforms"))) [
        | inl second ↦ same_option Platforms
            (sym (ap (λ t. cond t (Some Autobackup) (cond (bytes_eq option_text (codes "platforms")) (Some Platforms) None)) other ∙ ap (λ t. cond t (Some Platforms) None) second) ∙ is)
            ((bytes_eq-Decides option_text (codes "platforms")).0 second)
        | inr none ↦ no_option
            (sym (ap (λ t. cond t (Some Autobackup) (cond (bytes_eq option_text (codes "platforms")) (Some Platforms) None)) other ∙ ap (λ t. cond t (Some Platforms) None) none) ∙ is)
      ]
    ]
  where
    same_option : (first : TreeOption) → Some first ≡ Some option → option_text ≡ option_name first → option_text ≡ option_name option
    same_option first e text = text ∙ ap (λ (o : Option TreeOption). option_name (unwrap_or o first)) e

    no_option : None ≡ Some option → option_text ≡ option_name option
    no_option e = absurd (cc)

-- what every other option says
pub set_others : (option_text value : List ℕ) (old new : List Object) → with_option option_text value old ≡ Ok new → (other : List ℕ) → other ≢ option_text → option_of other new ≡ option_of other old
set_others option_text value old new is other ne = by_other (option_named other) refl (option_named option_text) refl is
  where
    by_spelling : (option second : TreeOption) (s : Option (List ℕ)) → option ≢ second → with_made (entry_keeping option s old) old ≡ Ok new → option_value second new ≡ option_value second old
    by_spelling option second None apart made = absurd (cc)
    by_spelling option second (Some v) apart made =
        ap (option_value second) (sym (given (with_entry (set_entry option v old) old) new made)) ∙ value_other option second v old apart

    by_other : (o : Option TreeOption) → option_named other ≡ o → (p : Option TreeOption) → option_named option_text ≡ p → with_made (entry_setting p value old) old ≡ Ok new
        → option_map (λ option. option_value option new) o ≡ option_map (λ option. option_value option old) o
    by_other None none p named made = refl
    by_other (Some second) second_named None named made = absurd (cc)
    by_other (Some second) second_named (Some option) named made =
        ap (λ (text : List ℕ). Some text) (by_spelling option second (spelled option value)
        (λ same. ne (named_is other second second_named ∙ ap option_name (sym same) ∙ sym (named_is option_text option named))) made)
