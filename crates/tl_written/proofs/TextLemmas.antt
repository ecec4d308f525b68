-- Texts under a key, and pieces joined.
use Rattle.std.proofs.Common.{◌≡◌, ℕ, ◌<◌, Bool, true, false, List, [], ◌∷◌, ◌++◌, length, Option, Some, None, refl, sym, subst, ◌∙◌, ap, arith, length-append, append_assoc}
use Rattle.std.specs.Prelude.{codes, IfSome, All}
use Rattle.std.specs.Borrow.{Bor}
use Rattle.std.specs.List.{flat_map}
use Rattle.std.proofs.lemmas.Bool.{true≢false}
use Rattle.tl_model.specs.Lines.{IsLine}
use Rattle.tl_model.specs.Acks.{IsPlain, plain-nil, plain-append}
use Rattle.tl_text.specs.Texts.{IsText, IsLine-from_text}
use Rattle.tl_entry.specs.declared.object.Object.{Object}
use Rattle.tl_object.specs.Plain.{is_key}
use Rattle.tl_object.specs.Formed.{IsFormedText, HasFormedTexts}
use Rattle.tl_object.specs.Writing.{key_line, text_line, text_lines, middle_lines}
use Rattle.tl_object.proofs.PlainLemmas.{plain_key_line}
use Rattle.tl_written.specs.Stands.{Stands, AllStand}
use Rattle.tl_written.specs.Found.{LacksEach, Finds}
use Rattle.tl_written.specs.Pieces.{MiddleStand, blank, middle_words}
use Rattle.tl_written.proofs.StandLemmas.{behind-both}
use Rattle.tl_written.proofs.FindLemmas.{Begins, lacks-key, skip, begins-all}
use Rattle.tl_written.proofs.BeginLemmas.{key_line-fronts}
use Rattle.tl_written.proofs.LeftLemmas.{KeepsAll, all_left-next, all_left-none, all_left-fails}

-- plain lines stand at the front of a text, and then a rest
pub record Front (lines text rest : List ℕ) : Type 0 where
  pub same : text ≡ lines ++ rest
  pub plain : IsPlain lines

-- lines and more lines behind them
pub front-both : (first second text mid rest : List ℕ) → Front first text mid → Front second mid rest → Front (first ++ second) text rest
front-both first second text mid rest one two = record {
  same = behind-both first second text mid rest one.same two.same;
  plain = plain-append first second one.plain two.plain;
}

-- the lines of a value
pub front-of : {V : Type 0} (lines : V → List ℕ) (formed : V → Type 0) (text rest : List ℕ) → (stands : Stands lines formed text rest) → Front (lines stands.value) text rest
front-of lines formed text rest stands = record { same = stands.same; plain = stands.plain }

-- the line of a key
pub front-key : (key value text rest : List ℕ) → is_key key ≡ true → IsLine value → text ≡ key_line key value ++ rest → Front (key_line key value) text rest
front-key key value text rest begins is same = record { same = same; plain = plain_key_line key value begins is }

-- what stands behind the line of a key is shorter
pub key_shorter : (key value text rest : List ℕ) → text ≡ key_line key value ++ rest → length rest < length text
unfolding key_line
key_shorter key value text rest same =
    omega (arith, ap length same, length-append ((key ++ 32 ∷ value) ++ 10 ∷ []) rest, length-append (key ++ 32 ∷ value) (10 ∷ []))

-- the line of a text
pub text-stands : (key value text rest : List ℕ) → is_key key ≡ true → IsText value → text ≡ key_line key value ++ rest → Stands (key_line key) IsText text rest
text-stands key value text rest begins is same = record {
  value = value;
  same = same;
  plain = plain_key_line key value begins (IsLine-from_text value is);
  is = is;
}

-- the line of a text that may be absent
pub some_text-stands : (key value text rest : List ℕ) → is_key key ≡ true → IsText value → text ≡ key_line key value ++ rest → Stands (text_line key) IsFormedText text rest
some_text-stands key value text rest begins is same = record {
  value = Some value;
  same = same;
  plain = plain_key_line key value begins (IsLine-from_text value is);
  is = is;
}

-- no line of an absent text
pub no_text-stands : (key text : List ℕ) → Stands (text_line key) IsFormedText text text
no_text-stands key text = record { value = None; same = refl; plain = plain-nil; is = tt }

-- ---- a line that is found

-- the lines of a value that may be absent: none, or that of a key
pub record IsOptional {V : Type 0} (key : List ℕ) (lines : Option V → List ℕ) (formed : V → Type 0) (shown : V → List ℕ) : Type 0 where
  pub none : lines None ≡ []
  pub some : (v : V) → lines (Some v) ≡ key_line key (shown v)
  pub line : (v : V) → formed v → IsLine (shown v)

-- where no line of the key stands, the value is absent
pub absent-finds : {V : Type 0} (key text : List ℕ) (lines : Option V → List ℕ) (formed : V → Type 0) (shown : V → List ℕ) → IsOptional key lines formed shown
    → ((value rest : List ℕ) → IsLine value → text ≡ key_line key value ++ rest → ⊥)
    → (value : Option V) (rest : List ℕ) → IfSome value formed → LacksEach rest ((key ++ 32 ∷ []) ∷ []) → text ≡ lines value ++ rest → text ≡ rest
absent-finds key text lines formed shown is missing None rest formed_value lacks same = same ∙ ap (λ (t : List ℕ). t ++ rest) is.none
absent-finds key text lines formed shown is missing (Some v) rest formed_value lacks same =
    absurd (missing (shown v) rest (is.line v formed_value) (same ∙ ap (λ (t : List ℕ). t ++ rest) (is.some v)))

-- where a line of the key stands, the value is not absent
not_absent : (key got text behind rest : List ℕ) → text ≡ key_line key got ++ behind → LacksEach rest ((key ++ 32 ∷ []) ∷ []) → text ≡ rest → ⊥
not_absent key got text behind rest stands lacks same = lacks-key key got rest behind lacks.0 (sym same ∙ stands)

-- where a line of the key stands, what is behind it is given
pub present-finds : {V : Type 0} (key got text behind : List ℕ) (lines : Option V → List ℕ) (formed : V → Type 0) (shown : V → List ℕ) → IsOptional key lines formed shown → text ≡ key_line key got ++ behind
    → ((value rest : List ℕ) → IsLine value → text ≡ key_line key value ++ rest → (got ≡ value) × (behind ≡ rest))
    → (value : Option V) (rest : List ℕ) → IfSome value formed → LacksEach rest ((key ++ 32 ∷ []) ∷ []) → text ≡ lines value ++ rest → behind ≡ rest
present-finds key got text behind lines formed shown is stands one None rest formed_value lacks same =
    absurd (not_absent key got text behind rest stands lacks (same ∙ ap (λ (t : List ℕ). t ++ rest) is.none))
present-finds key got text behind lines formed shown is stands one (Some v) rest formed_value lacks same =
    (one (shown v) rest (is.line v formed_value) (same ∙ ap (λ (t : List ℕ). t ++ rest) (is.some v))).1

-- where a line of the key stands that shows no value of the form, no such value is written
pub other-fails : {V : Type 0} (key got text behind : List ℕ) (lines : Option V → List ℕ) (formed : V → Type 0) (shown : V → List ℕ) → IsOptional key lines formed shown → text ≡ key_line key got ++ behind
    → ((value rest : List ℕ) → IsLine value → text ≡ key_line key value ++ rest → (got ≡ value) × (behind ≡ rest)) → ((v : V) → formed v → got ≡ shown v → ⊥)
    → (value : Option V) (rest : List ℕ) → IfSome value formed → LacksEach rest ((key ++ 32 ∷ []) ∷ []) → text ≡ lines value ++ rest → ⊥
other-fails key got text behind lines formed shown is stands one none None rest formed_value lacks same =
    not_absent key got text behind rest stands lacks (same ∙ ap (λ (t : List ℕ). t ++ rest) is.none)
other-fails key got text behind lines formed shown is stands one none (Some v) rest formed_value lacks same =
    none v formed_value (one (shown v) rest (is.line v formed_value) (same ∙ ap (λ (t : List ℕ). t ++ rest) (is.some v))).0

-- the line of a text is that of a key
pub text_optional : (key : List ℕ) → IsOptional key (text_line key) IsText (λ text. text)
text_optional key = record { none = refl; some = λ v. refl; line = IsLine-from_text }

-- a text that fails the test is none
pub untexted : (t : Bool) (got v : List ℕ) → t ≡ false → (IsText got → t ≡ true) → IsText v → got ≡ v → ⊥
untexted t got v fails all is same = true≢false (sym (all (subst IsText (sym same) is)) ∙ fails)

-- ---- texts that are found

-- the next text is found
pub texts-next : (key text current behind got : List ℕ) → KeepsAll (key_line key) IsText ((key ++ 32 ∷ []) ∷ []) text current → current ≡ key_line key got ++ behind
    → ((value rest : List ℕ) → IsLine value → current ≡ key_line key value ++ rest → (got ≡ value) × (behind ≡ rest))
    → KeepsAll (key_line key) IsText ((key ++ 32 ∷ []) ∷ []) text behind
texts-next key text current behind got kept stands one =
    all_left-next (key_line key) IsText ((key ++ 32 ∷ []) ∷ []) text current behind kept (λ rest lacks same. not_absent key got current behind rest stands lacks same)
    (λ v rest is same. (one v rest (IsLine-from_text v is) same).1)

-- where no line of the key stands, no text is left
pub texts-none : (key text current : List ℕ) → KeepsAll (key_line key) IsText ((key ++ 32 ∷ []) ∷ []) text current
    → ((value rest : List ℕ) → IsLine value → current ≡ key_line key value ++ rest → ⊥)
    → (values : List (List ℕ)) (rest : List ℕ) → All IsText values → LacksEach rest ((key ++ 32 ∷ []) ∷ []) → text ≡ flat_map (key_line key) values ++ rest → current ≡ rest
texts-none key text current kept none =
    all_left-none (key_line key) IsText ((key ++ 32 ∷ []) ∷ []) text current kept (λ v rest is same. none v rest (IsLine-from_text v is) same)

-- where a line of the key stands that is no text, no texts are written
pub texts-fail : (key text current behind got : List ℕ) (t : Bool) → KeepsAll (key_line key) IsText ((key ++ 32 ∷ []) ∷ []) text current → current ≡ key_line key got ++ behind
    → ((value rest : List ℕ) → IsLine value → current ≡ key_line key value ++ rest → (got ≡ value) × (behind ≡ rest)) → t ≡ false → (IsText got → t ≡ true)
    → (values : List (List ℕ)) (rest : List ℕ) → All IsText values → LacksEach rest ((key ++ 32 ∷ []) ∷ []) → text ≡ flat_map (key_line key) values ++ rest → ⊥
texts-fail key text current behind got t kept stands one fails all =
    all_left-fails (key_line key) IsText ((key ++ 32 ∷ []) ∷ []) text current kept (λ rest lacks same. not_absent key got current behind rest stands lacks same)
    (λ v rest is same. untexted t got v fails all is (one v rest (IsLine-from_text v is) same).0)

-- the four kinds of texts
pub middle-stands : (text a b c rest : List ℕ) → AllStand (key_line (codes "longdesc")) IsText text a → AllStand (key_line (codes "depend")) IsText a b
    → AllStand (key_line (codes "execute")) IsText b c → AllStand (key_line (codes "postaction")) IsText c rest → MiddleStand text rest
unfolding middle_lines
middle-stands text a b c rest longdesc depends executes postactions =
    let one : Front (text_lines (codes "longdesc") longdesc.value) text a = front-of _ _ text a longdesc in
    let two = front-both (text_lines (codes "longdesc") longdesc.value) (text_lines (codes "depend") depends.value) text a b one (front-of _ _ a b depends) in
    let three = front-both _ (text_lines (codes "execute") executes.value) text b c two (front-of _ _ b c executes) in
    let four = front-both _ (text_lines (codes "postaction") postactions.value) text c rest three (front-of _ _ c rest postactions) in
    record {
      value = record blank { longdesc = longdesc.value; depends = depends.value; executes = executes.value; postactions = postactions.value };
      same = four.same;
      plain = four.plain;
      is = record { longdesc = longdesc.is; depends = depends.is; executes = executes.is; postactions = postactions.is };
    }

-- ---- the four kinds of texts are found

-- what stands behind the executes, behind the depends and behind the descriptions
abbrev pub behind_executes : Object → List ℕ → List ℕ
behind_executes o rest = text_lines (codes "postaction") o.postactions ++ rest

abbrev pub behind_depends : Object → List ℕ → List ℕ
behind_depends o rest = text_lines (codes "execute") o.executes ++ behind_executes o rest

abbrev pub behind_longdesc : Object → List ℕ → List ℕ
behind_longdesc o rest = text_lines (codes "depend") o.depends ++ behind_depends o rest

-- texts of a key are absent or begin with it
texts-begin : (key : List ℕ) (texts : List (List ℕ)) → Begins (key ++ 32 ∷ []) (text_lines key texts)
texts-begin key texts = begins-all (key ++ 32 ∷ []) (key_line key) texts (key_line-fronts key)

-- the four kinds of texts, each cut from those behind it, which don't begin with its key
pub record MiddleCut (text rest : List ℕ) (o : Object) : Type 0 where
  pub same : text ≡ text_lines (codes "longdesc") o.longdesc ++ behind_longdesc o rest
  pub longdesc : LacksEach (behind_longdesc o rest) (codes "longdesc " ∷ [])
  pub depends : LacksEach (behind_depends o rest) (codes "depend " ∷ [])
  pub executes : LacksEach (behind_executes o rest) (codes "execute " ∷ [])
  pub postactions : LacksEach rest (codes "postaction " ∷ [])

-- four pieces, one behind the other
four_pieces : (a b c d rest : List ℕ) → (((a ++ b) ++ c) ++ d) ++ rest ≡ a ++ (b ++ (c ++ (d ++ rest)))
four_pieces a b c d rest = append_assoc ((a ++ b) ++ c) d rest ∙ append_assoc (a ++ b) c (d ++ rest) ∙ append_assoc a b (c ++ (d ++ rest))

-- where the four kinds stand, each can be cut from those behind it
pub middle_cut : (text rest : List ℕ) (o : Object) → LacksEach rest middle_words → text ≡ middle_lines o ++ rest → MiddleCut text rest o
unfolding middle_lines
middle_cut text rest o lacks same =
    let third : LacksEach (behind_executes o rest) (codes "longdesc " ∷ codes "depend " ∷ codes "execute " ∷ []) =
    skip (codes "postaction ") (text_lines (codes "postaction") o.postactions) rest (codes "longdesc " ∷ codes "depend " ∷ codes "execute " ∷ []) (texts-begin (codes "postaction") o.postactions) refl (lacks.0, (lacks.1.0, (lacks.1.1.0, tt))) in
    let second : LacksEach (behind_depends o rest) (codes "longdesc " ∷ codes "depend " ∷ []) =
    skip (codes "execute ") (text_lines (codes "execute") o.executes) (behind_executes o rest) (codes "longdesc " ∷ codes "depend " ∷ []) (texts-begin (codes "execute") o.executes) refl (third.0, (third.1.0, tt)) in
    record {
      same = same ∙ four_pieces (text_lines (codes "longdesc") o.longdesc) (text_lines (codes "depend") o.depends) (text_lines (codes "execute") o.executes) (text_lines (codes "postaction") o.postactions) rest;
      longdesc = skip (codes "depend ") (text_lines (codes "depend") o.depends) (behind_depends o rest) (codes "longdesc " ∷ []) (texts-begin (codes "depend") o.depends) refl (second.0, tt);
      depends = second.1;
      executes = third.1.1;
      postactions = lacks.1.1.1;
    }

-- that texts of a key are not found
abbrev pub Misses : List ℕ → List ℕ → Type 0
Misses key text = (texts : List (List ℕ)) (rest : List ℕ) → All IsText texts → LacksEach rest ((key ++ 32 ∷ []) ∷ []) → text ≡ text_lines key texts ++ rest → ⊥

-- that a rest is given behind texts of a key
abbrev pub Gives : List ℕ → List ℕ → List ℕ → Type 0
Gives key text behind = (texts : List (List ℕ)) (rest : List ℕ) → All IsText texts → LacksEach rest ((key ++ 32 ∷ []) ∷ []) → text ≡ text_lines key texts ++ rest → behind ≡ rest

-- an entry's texts are not written where those of one kind are not found
abbrev pub NoMiddle : List ℕ → Type 0
NoMiddle text = (o : Object) (rest : List ℕ) → HasFormedTexts o → LacksEach rest middle_words → text ≡ middle_lines o ++ rest → ⊥

-- the descriptions are not found
pub no_longdesc : (text : List ℕ) → Misses (codes "longdesc") text → NoMiddle text
no_longdesc text none o rest is lacks same =
    let cut = middle_cut text rest o lacks same in
    none o.longdesc (behind_longdesc o rest) is.longdesc cut.longdesc cut.same

-- the depends are not found
pub no_depends : (text a : List ℕ) → Gives (codes "longdesc") text a → Misses (codes "depend") a → NoMiddle text
no_depends text a one none o rest is lacks same =
    let cut = middle_cut text rest o lacks same in
    none o.depends (behind_depends o rest) is.depends cut.depends (one o.longdesc (behind_longdesc o rest) is.longdesc cut.longdesc cut.same)

-- the executes are not found
pub no_executes : (text a b : List ℕ) → Gives (codes "longdesc") text a → Gives (codes "depend") a b → Misses (codes "execute") b → NoMiddle text
no_executes text a b one two none o rest is lacks same =
    let cut = middle_cut text rest o lacks same in
    none o.executes (behind_executes o rest) is.executes cut.executes
    (two o.depends (behind_depends o rest) is.depends cut.depends (one o.longdesc (behind_longdesc o rest) is.longdesc cut.longdesc cut.same))

-- the four kinds are found, one after the other
pub middle-finds : (text a b c : List ℕ) (found : Option (Bor (List ℕ))) → Gives (codes "longdesc") text a → Gives (codes "depend") a b → Gives (codes "execute") b c
    → Finds (text_lines (codes "postaction")) (All IsText) (codes "postaction " ∷ []) c found → Finds middle_lines HasFormedTexts middle_words text found
middle-finds text a b c found one two three last o rest is lacks same =
    let cut = middle_cut text rest o lacks same in
    let depends : a ≡ behind_longdesc o rest = one o.longdesc (behind_longdesc o rest) is.longdesc cut.longdesc cut.same in
    let executes : b ≡ behind_depends o rest = two o.depends (behind_depends o rest) is.depends cut.depends depends in
    let postactions : c ≡ behind_executes o rest = three o.executes (behind_executes o rest) is.executes cut.executes executes in
    last o.postactions rest is.postactions cut.postactions postactions
