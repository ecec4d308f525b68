-- The name of the entry that a text reads as is one line: the text is a database of that entry alone.
use Rattle.std.proofs.Common.{◌≡◌, ◌==◌, ℕ, Bool, true, false, cond, List, [], ◌∷◌, length, Result, Ok, Err, refl, sym, ap, ◌∙◌, arith}
use Rattle.std.specs.Prelude.{is_ok}
use Rattle.std.specs.List.{AllByRecursion}
use Rattle.std.specs.Str.{is_utf8}
use Rattle.std.proofs.lemmas.Bool.{ne_eqb, true≢false}
use Rattle.tl_model.specs.Lines.{IsLine}
use Rattle.tl_entry.specs.declared.object.Object.{Object}
use Rattle.tl_object.specs.Content.{behind, content, front, is_empty_line, is_full, stretches}
use Rattle.tl_object.specs.Grammar.{line_form}
use Rattle.tl_object.specs.Groups.{Group}
use Rattle.tl_object.specs.Line.{Line}
use Rattle.tl_object.specs.Reading.{as_object, at_line, entry_groups, entry_of, name_at, next_groups, reading, with_line}
use Rattle.tl_object.specs.Values.{◌>>=◌}
use Rattle.tl_object.specs.declared.fault.LineKind.{LineKind}
use Rattle.tl_object.specs.declared.fault.LineKind.TheVariants as kinds
use Rattle.tl_object.proofs.StretchLemmas.{stretches-full}
use Rattle.tl_db.specs.Reading.{going_on, with_named, with_object, with_stretches}
use Rattle.tl_backups.proofs.Named.{read_named}

abbrev Lines : Type 0
Lines = List (ℕ × List ℕ)

fault_apart : (kind : LineKind) (more : List Group) → Err kind ≡ Ok more → ⊥
fault_apart kind more is = true≢false (ap (λ (r : Result (List Group) LineKind). is_ok r) (sym is))

no_line : (good : Bool) (next : Line → Result (List Group) LineKind) (more : List Group) → (cond good (line_form []) (Err kinds.Utf8) >>= next) ≡ Ok more → ⊥
no_line true next more is = fault_apart kinds.Key more is
no_line false next more is = fault_apart kinds.Utf8 more is

-- an empty line is a fault of an entry
none_empty : (groups more : List Group) → next_groups groups [] ≡ Ok more → ⊥
none_empty [] more is = fault_apart kinds.Missing more is
none_empty (group ∷ groups) more is = no_line (is_utf8 []) (with_line (group ∷ groups)) more is

full_line : (groups more : List Group) (line : List ℕ) → next_groups groups line ≡ Ok more → (length line == 0) ≡ false
full_line groups more [] is = absurd (none_empty groups more is)
full_line groups more (b ∷ line) is = ne_eqb (length (b ∷ line)) 0 (λ e. absurd (omega (arith, e)))

abbrev AreFull : Lines → Type 0
AreFull lines = AllByRecursion (λ line. is_empty_line line ≡ false) lines

-- no line of an entry that reads is empty
full_lines : (groups : List Group) (left : Lines) (made : List Group) → reading groups left ≡ Ok made → AreFull left
full_lines groups [] made is = tt
full_lines groups (line ∷ left) made is = by (next_groups groups line.1) refl (λ more same. full_lines more left made same) is
  where
    by : (read : Result (List Group) LineKind) → next_groups groups line.1 ≡ read → ((more : List Group) → reading more left ≡ Ok made → AreFull left)
        → at_line line.0 read (λ more. reading more left) ≡ Ok made → AreFull (line ∷ left)
    by (Ok more) next rest same = (full_line groups more line.1 next, rest more same)
    by (Err kind) next rest same = absurd (cc)

-- lines of which none is empty are one stretch
front_all : (lines : Lines) → AreFull lines → front lines ≡ lines
front_all [] full = refl
front_all (line ∷ lines) full = ap (λ t. cond t [] (line ∷ front lines)) full.0 ∙ ap (λ (l : Lines). line ∷ l) (front_all lines full.1)

behind_all : (lines : Lines) → AreFull lines → behind lines ≡ []
behind_all [] full = refl
behind_all (line ∷ lines) full = ap (λ t. cond t lines (behind lines)) full.0 ∙ behind_all lines full.1

one_stretch : (line : ℕ × List ℕ) (lines : Lines) → AreFull (line ∷ lines) → stretches (line ∷ lines) ≡ (line ∷ lines) ∷ []
one_stretch line lines full =
    stretches-full (line ∷ lines) (ap is_full (front_all (line ∷ lines) full))
    ∙ ap (λ (l : Lines). l ∷ stretches (behind (line ∷ lines))) (front_all (line ∷ lines) full) ∙ ap (λ (l : Lines). (line ∷ lines) ∷ stretches l) (behind_all (line ∷ lines) full)

-- a stretch of one entry is a database of it alone
alone : (line : ℕ × List ℕ) (lines : Lines) (entry : Object) → as_object (entry_groups (line ∷ lines)) ≡ Ok entry → with_stretches [] ((line ∷ lines) ∷ []) ≡ Ok (entry ∷ [])
alone line lines entry is = by (next_groups [] line.1) refl is
  where
    by : (read : Result (List Group) LineKind) → next_groups [] line.1 ≡ read → as_object (at_line line.0 read (λ more. reading more lines)) ≡ Ok entry
        → going_on (with_named [] (line ∷ lines) (name_at line.0 read)) (λ more. with_stretches more []) ≡ Ok (entry ∷ [])
    by (Ok more) next same = ap (λ (read : Result Object (ℕ × LineKind)). going_on (with_object [] read) (λ more. with_stretches more [])) is
    by (Err kind) next same = absurd (cc)

read_alone : (lines : Lines) (entry : Object) → as_object (entry_groups lines) ≡ Ok entry → with_stretches [] (stretches lines) ≡ Ok (entry ∷ [])
read_alone [] entry is = absurd (cc)
read_alone (line ∷ lines) entry is = by (reading [] (line ∷ lines)) refl is
  where
    by : (read : Result (List Group) (ℕ × LineKind)) → reading [] (line ∷ lines) ≡ read → as_object read ≡ Ok entry → with_stretches [] (stretches (line ∷ lines)) ≡ Ok (entry ∷ [])
    by (Ok made) done same = ap (with_stretches []) (one_stretch line lines (full_lines [] (line ∷ lines) made done)) ∙ alone line lines entry is
    by (Err fault) done same = absurd (cc)

-- the name of an entry that was read is one line
pub entry_line : (text : List ℕ) (entry : Object) → entry_of text ≡ Ok entry → IsLine entry.name
entry_line text entry is = (read_named text (entry ∷ []) (read_alone (content 0 text) entry is)).0
