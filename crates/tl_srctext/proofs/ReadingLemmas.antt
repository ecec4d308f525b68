-- What lines say, one by one.
use Rattle.std.proofs.Common.{◌≡◌, ℕ, ◌==◌, Bool, true, false, cond, List, [], ◌∷◌, ◌++◌, length, Result, Ok, Err, refl, sym, ap, ◌∙◌}
use Rattle.std.specs.Prelude.{◌||◌, ◌≤◌, IfOk, IfErr, MatchResult}
use Rattle.std.specs.List.{list_any}
use Rattle.std.proofs.lemmas.List.Sums.{fold-append}
use Rattle.tl_kind.specs.declared.kinds.SourceKind.{SourceKind}
use Rattle.tl_srctext.specs.Joined.{Joined}
use Rattle.tl_srctext.specs.Content.{line_content}
use Rattle.tl_srctext.specs.Line.{said_in}
use Rattle.tl_srctext.specs.Reading.{BadLine, or_bad_line, lines_said, fields_of, no_fields, with_said, as_fields, fields_read, is_name_line, source_of}
use Rattle.tl_srctext.specs.Errors.{IsSourceError}
use Rattle.tl_srctext.specs.Steps.{FailsAtLine, with_found, line_taken_in}
use Rattle.tl_srctext.specs.declared.fields.SourceFields.{SourceFields}
use Rattle.tl_srctext.specs.declared.line.Said.{Said}
use Rattle.tl_srctext.specs.declared.error.SourceError.{SourceError}
use Rattle.tl_srctext.specs.declared.error.SourceError.TheVariants.{BadSource, TooLarge, NoMemory}

-- the fields with what one line more says
pub put-fields : (name : List ℕ) (done : List Said) (said : Said) → fields_of name (done ++ said ∷ []) ≡ with_said (fields_of name done) said
put-fields name done said = fold-append with_said (no_fields name) done (said ∷ [])

-- what goes on from a line that is found so
abbrev going : List ℕ → List Said → ℕ → List Joined → Bool → Result Said SourceKind → Result (List Said) BadLine
going name done number lines empty found = cond empty (lines_said name done lines) (or_bad_line number found (λ said. lines_said name (done ++ said ∷ []) lines))

-- the same fields of it
abbrev given : SourceFields → ℕ → Bool → Result Said SourceKind → Result SourceFields BadLine
given s number empty found = cond empty (Ok s) (with_found s number found)

-- so many lines were read, and these are left
pub record ReadSoFar (name : List ℕ) (all : List Joined) (s : SourceFields) (left : List Joined) : Type 0 where
  pub done : List Said
  pub fields : s ≡ fields_of name done
  pub said : lines_said name [] all ≡ lines_said name done left

pub read_none : (name : List ℕ) (all : List Joined) (s : SourceFields) → s ≡ no_fields name → ReadSoFar name all s all
read_none name all s is = record { done = []; fields = is; said = refl }

-- one line more was read
pub read_on : (name : List ℕ) (all left lines : List Joined) (number : ℕ) (text n l : List ℕ) (s t : SourceFields)
    → left ≡ record { number = number; text = text } ∷ lines → n ≡ name → l ≡ text → line_taken_in n number l s ≡ Ok t
    → ReadSoFar name all s left → ReadSoFar name all t lines
read_on name all left lines number text n l s t is named here took so_far =
    by (length (line_content text) == 0) (said_in name number (line_content text))
    (sym (ap (λ (m : List ℕ). line_taken_in m number l s) named ∙ ap (λ (m : List ℕ). line_taken_in name number m s) here) ∙ took) (so_far.said ∙ ap (lines_said name so_far.done) is)
  where
    by : (empty : Bool) (found : Result Said SourceKind) → given s number empty found ≡ Ok t
        → lines_said name [] all ≡ going name so_far.done number lines empty found → ReadSoFar name all t lines
    by true found e same = let kept : s ≡ t = cc in record { done = so_far.done; fields = sym kept ∙ so_far.fields; said = same }
    by false (Ok said) e same =
        let more : with_said s said ≡ t = cc in
        record {
          done = so_far.done ++ said ∷ [];
          fields = sym more ∙ ap (λ (f : SourceFields). with_said f said) so_far.fields ∙ sym (put-fields name so_far.done said);
          said = same;
        }
    by false (Err kind) e same = absurd (cc)

-- all lines were read
pub read_all : (name : List ℕ) (all left : List Joined) (s : SourceFields) → left ≡ [] → ReadSoFar name all s left → fields_read name all ≡ Ok s
read_all name all left s is so_far =
    ap (as_fields name) (so_far.said ∙ ap (lines_said name so_far.done) is) ∙ ap (λ (f : SourceFields). Ok f) (sym so_far.fields)

-- a line was bad
pub read_bad : (name : List ℕ) (all left lines : List Joined) (number : ℕ) (text n l : List ℕ) (s : SourceFields) (e : SourceError)
    → left ≡ record { number = number; text = text } ∷ lines → n ≡ name → l ≡ text → FailsAtLine (line_taken_in n number l s) e
    → ReadSoFar name all s left → FailsAtLine (fields_read name all) e
read_bad name all left lines number text n l s (BadSource line kind) is named here fails so_far =
    ap (as_fields name) (by (length (line_content text) == 0) (said_in name number (line_content text))
    (sym (ap (λ (m : List ℕ). line_taken_in m number l s) named ∙ ap (λ (m : List ℕ). line_taken_in name number m s) here) ∙ fails) (so_far.said ∙ ap (lines_said name so_far.done) is))
  where
    by : (empty : Bool) (found : Result Said SourceKind) → given s number empty found ≡ Err (line, kind)
        → lines_said name [] all ≡ going name so_far.done number lines empty found → lines_said name [] all ≡ Err (line, kind)
    by true found e same = absurd (cc)
    by false (Ok said) e same = absurd (cc)
    by false (Err other) e same = let is : (number, other) ≡ (line, kind) = cc in same ∙ ap (λ (bad : BadLine). Err bad) is
read_bad name all left lines number text n l s (TooLarge what limit) is named here fails so_far = absurd fails
read_bad name all left lines number text n l s NoMemory is named here fails so_far = tt

-- the key of a line isn't `name`
pub named_not : (left lines : List Joined) (number : ℕ) (text : List ℕ) → left ≡ record { number = number; text = text } ∷ lines
    → is_name_line (record { number = number; text = text }) ≡ false → list_any is_name_line left ≡ list_any is_name_line lines
named_not left lines number text is none = ap (list_any is_name_line) is ∙ ap (λ t. t || list_any is_name_line lines) none

-- the key of a line is `name`
pub named_here : (left lines : List Joined) (number : ℕ) (text : List ℕ) → left ≡ record { number = number; text = text } ∷ lines
    → is_name_line (record { number = number; text = text }) ≡ true → list_any is_name_line left ≡ true
named_here left lines number text is here = ap (list_any is_name_line) is ∙ ap (λ t. t || list_any is_name_line lines) here

-- what reading gives, told as the public call tells it
pub source_if : (name text : List ℕ) (result : Result SourceFields SourceError) → length text ≤ 1048576
    → MatchResult result (λ source. source_of name text ≡ Ok source) (FailsAtLine (source_of name text)) → IfOk result (λ source. (length text ≤ 1048576) × (source_of name text ≡ Ok source))
source_if name text (Ok source) short is = (short, is)
source_if name text (Err e) short is = tt

pub fault_if : (name text : List ℕ) (result : Result SourceFields SourceError) → length text ≤ 1048576
    → MatchResult result (λ source. source_of name text ≡ Ok source) (FailsAtLine (source_of name text)) → IfErr result (IsSourceError name text)
fault_if name text (Ok source) short is = tt
fault_if name text (Err (BadSource line kind)) short is = (short, is)
fault_if name text (Err (TooLarge what limit)) short is = absurd is
fault_if name text (Err NoMemory) short is = tt
