-- A body spells its records, and no other list of records is spelt so.
use Rattle.std.specs.Prelude.{◌≡◌, ◌<◌, ◌≤◌, ◌+◌, ℕ, zero, suc, Bool, true, false, cond, List, [], ◌∷◌, ◌++◌, length, take, drop, nat_lt, slice_index, Some, refl}
use Rattle.std.specs.List.{AllByRecursion}
use Rattle.std.specs.Int.{w16, w64, from_be_bytes, to_be_bytes}
use Rattle.std.proofs.Common.{sym, ◌∙◌, ap, subst, arith, append_assoc, eqb, get_or}
use Rattle.std.proofs.lemmas.Bool.{ltb-false, eqb-true}
use Rattle.std.proofs.lemmas.List.{length-take, take-append-drop, nil_from_length}
use Rattle.std.proofs.lemmas.Nat.{be_bytes_2, be_bytes_8}
use Rattle.tl_model.specs.Volume.{Name}
use Rattle.tl_journal_text.specs.Records.{Record, Remove, Write, Fits, is_target, text_of, records_text}
use Rattle.tl_journal_text.specs.Body.{Next, Ends, Faulty, Takes, taken, named, sized, next_of, next, Reading, Whole, Bad, before, reading_by, reading, records_of, records_in}
use Rattle.tl_journal_text.specs.Spelling.{IsBytes, IsText}
use Rattle.tl_journal_text.proofs.ReadBack.{written}
use Rattle.tl_journal_text.proofs.Turns.{named_is, sized_is, next_is, by_zero, by_takes, by_ends, by_faulty, records_whole}

-- what is taken from bytes and what is left are bytes
bytes_take : (n : ℕ) (text : List ℕ) → IsBytes text → IsBytes (take n text)
bytes_take zero text are = tt
bytes_take (suc n) [] are = tt
bytes_take (suc n) (x ∷ xs) are = (are.0, bytes_take n xs are.1)

bytes_drop : (n : ℕ) (text : List ℕ) → IsBytes text → IsBytes (drop n text)
bytes_drop zero text are = are
bytes_drop (suc n) [] are = tt
bytes_drop (suc n) (x ∷ xs) are = bytes_drop n xs are.1

bytes_right : (xs ys : List ℕ) → IsBytes (xs ++ ys) → IsBytes ys
bytes_right [] ys are = are
bytes_right (x ∷ xs) ys are = bytes_right xs ys are.1

bytes_at : (text : List ℕ) → IsBytes text → (i : ℕ) → get_or text i 0 < 256
bytes_at [] are zero = omega arith
bytes_at [] are (suc i) = omega arith
bytes_at (x ∷ xs) are zero = are.0
bytes_at (x ∷ xs) are (suc i) = bytes_at xs are.1 i

-- ---- what holds of each fault, and of what is made of the fields, holds of the reading of the fields

taken_by : (P : Next → Type 0) → ((place : ℕ) → P (Faulty place)) → (from n : ℕ) (bytes : List ℕ) (go : List ℕ → List ℕ → Next) → (n ≤ length bytes → P (go (take n bytes) (drop n bytes))) → P (taken from n bytes go)
unfolding taken
taken_by P faulty from n bytes go here = by (nat_lt (length bytes) n) refl
  where
    by : (b : Bool) → nat_lt (length bytes) n ≡ b → P (cond b (Faulty from) (go (take n bytes) (drop n bytes)))
    by true e = faulty from
    by false e = here (ltb-false _ _ e)

-- the bytes of a field behind those that tell their number
field_is : (bytes size : List ℕ) (n k : ℕ) → size ≡ take k bytes → n ≤ length (drop k bytes) → bytes ≡ size ++ (take n (drop k bytes) ++ drop n (drop k bytes))
field_is bytes size n k is enough =
    sym (take-append-drop k bytes)
    ∙ ap (λ (l : List ℕ). l ++ drop k bytes) (sym is)
    ∙ ap (λ (l : List ℕ). size ++ l) (sym (take-append-drop n (drop k bytes)))

named_by : (P : Next → Type 0) → ((place : ℕ) → P (Faulty place)) → (from : ℕ) (bytes : List ℕ) (go : Name → List ℕ → Next) → IsBytes bytes
    → ((name more : List ℕ) → bytes ≡ to_be_bytes w16 (length name) ++ (name ++ more) → P (go name more)) → P (named from bytes go)
named_by P faulty from bytes go are here =
    subst P (sym (named_is from bytes go)) (taken_by P faulty from 2 bytes _ (λ two. taken_by P faulty (from + 2) size more _ (λ enough. by two enough (is_target (take size more)))))
  where
    size : ℕ
    size = from_be_bytes w16 (take 2 bytes)

    more : List ℕ
    more = drop 2 bytes

    by : 2 ≤ length bytes → size ≤ length more → (b : Bool) → P (cond b (go (take size more) (drop size more)) (Faulty (from + 2)))
    by two enough false = faulty (from + 2)
    by two enough true =
        let len : length (take size more) ≡ size = omega (arith, length-take size more) in
        let told : to_be_bytes w16 size ≡ take 2 bytes = be_bytes_2 (take 2 bytes) size (omega (arith, length-take 2 bytes)) (bytes_at (take 2 bytes) (bytes_take 2 bytes are)) refl in
        here (take size more) (drop size more) (field_is bytes (to_be_bytes w16 (length (take size more))) size 2 (ap (λ (n : ℕ). to_be_bytes w16 n) len ∙ told) enough)

sized_by : (P : Next → Type 0) → ((place : ℕ) → P (Faulty place)) → (from : ℕ) (bytes : List ℕ) (go : List ℕ → List ℕ → Next) → IsBytes bytes
    → ((held more : List ℕ) → bytes ≡ to_be_bytes w64 (length held) ++ (held ++ more) → P (go held more)) → P (sized from bytes go)
sized_by P faulty from bytes go are here =
    subst P (sym (sized_is from bytes go)) (taken_by P faulty from 8 bytes _ (λ eight. taken_by P faulty (from + 8) size more _ (λ enough. by eight enough)))
  where
    size : ℕ
    size = from_be_bytes w64 (take 8 bytes)

    more : List ℕ
    more = drop 8 bytes

    by : 8 ≤ length bytes → size ≤ length more → P (go (take size more) (drop size more))
    by eight enough =
        let len : length (take size more) ≡ size = omega (arith, length-take size more) in
        let told : to_be_bytes w64 size ≡ take 8 bytes = be_bytes_8 (take 8 bytes) size (omega (arith, length-take 8 bytes)) (bytes_at (take 8 bytes) (bytes_take 8 bytes are)) refl in
        here (take size more) (drop size more) (field_is bytes (to_be_bytes w64 (length (take size more))) size 8 (ap (λ (n : ℕ). to_be_bytes w64 n) len ∙ told) enough)

-- ---- what stands next is how the text begins

removes : (kind : ℕ) (others name more : List ℕ) → kind ≡ 82 → others ≡ to_be_bytes w16 (length name) ++ (name ++ more) → kind ∷ others ≡ text_of (Remove name) ++ more
removes kind others name more is parts =
    ap (λ (k : ℕ). k ∷ others) is ∙ ap (λ (l : List ℕ). 82 ∷ l) (parts ∙ sym (append_assoc (to_be_bytes w16 (length name)) name more))

writes : (kind : ℕ) (others name tail held more : List ℕ) → kind ≡ 87 → others ≡ to_be_bytes w16 (length name) ++ (name ++ tail) → tail ≡ to_be_bytes w64 (length held) ++ (held ++ more) → kind ∷ others ≡ text_of (Write name held) ++ more
writes kind others name tail held more is parts ends =
    let number = to_be_bytes w16 (length name) in
    let size = to_be_bytes w64 (length held) in
    ap (λ (k : ℕ). k ∷ others) is
    ∙ ap (λ (l : List ℕ). 87 ∷ l) (
    parts
    ∙ ap (λ (l : List ℕ). number ++ (name ++ l)) ends
    ∙ sym (append_assoc number name (size ++ (held ++ more)))
    ∙ sym (append_assoc (number ++ name) size (held ++ more))
    ∙ sym (append_assoc (number ++ name ++ size) held more)
    )

-- the text is its front and the rest, or the end alone
pub next_text : (from : ℕ) (text : List ℕ) → IsBytes text → IsText text (next from text)
next_text from text are = subst (IsText text) (sym (next_is from text)) (taken_by (IsText text) (λ place. tt) from 1 text _ (λ one. front text one are))
  where
    front : (text : List ℕ) → 1 ≤ length text → IsBytes text → IsText text (next_of from (slice_index (take 1 text) 0) (drop 1 text))
    front [] one are = absurd (omega arith)
    front (kind ∷ others) one are = by (eqb kind 69) (eqb kind 82) (eqb kind 87) refl refl refl
      where
        by : (a b d : Bool) → eqb kind 69 ≡ a → eqb kind 82 ≡ b → eqb kind 87 ≡ d
            → IsText (kind ∷ others) (cond a (cond (eqb (length others) 0) Ends (Faulty (from + 1))) (cond b (named (from + 1) others (λ name more. Takes (Remove name) more)) (cond d (named (from + 1) others (λ name more. sized (from + 3 + length name) more (λ held after. Takes (Write name held) after))) (Faulty from))))
        by true b d e f h = ends (eqb (length others) 0) refl
          where
            ends : (x : Bool) → eqb (length others) 0 ≡ x → IsText (kind ∷ others) (cond x Ends (Faulty (from + 1)))
            ends true is = ap (λ (k : ℕ). k ∷ others) (eqb-true kind 69 e) ∙ ap (λ (l : List ℕ). 69 ∷ l) (nil_from_length others (eqb-true (length others) 0 is))
            ends false is = tt
        by false true d e f h = named_by (IsText (kind ∷ others)) (λ place. tt) (from + 1) others _ are.1 (λ name more parts. removes kind others name more (eqb-true kind 82 f) parts)
        by false false true e f h =
            named_by (IsText (kind ∷ others)) (λ place. tt) (from + 1) others _ are.1 (λ name tail parts.
            sized_by (IsText (kind ∷ others)) (λ place. tt) (from + 3 + length name) tail _ (tail_bytes name tail parts) (λ held more ends. writes kind others name tail held more (eqb-true kind 87 h) parts ends))
          where
            tail_bytes : (name tail : List ℕ) → others ≡ to_be_bytes w16 (length name) ++ (name ++ tail) → IsBytes tail
            tail_bytes name tail parts = bytes_right name tail (bytes_right (to_be_bytes w16 (length name)) (name ++ tail) (subst IsBytes parts are.1))
        by false false false e f h = tt

-- ---- a body that reads as records is their text and the end

rest_reads : (o : Reading) (r : Record) (rs : List Record) → before r o ≡ Whole rs → (others : List Record) × (rs ≡ r ∷ others) × (o ≡ Whole others)
rest_reads (Bad place) r rs is = absurd cc
rest_reads (Whole l) r rs is = (l, cc, refl)

by_turns : (n from : ℕ) (text : List ℕ) (rs : List Record) → IsBytes text → reading_by n from text ≡ Whole rs → text ≡ records_text rs ++ 69 ∷ []
by_turns zero from text rs are reads = let none : Bad from ≡ Whole rs = sym (by_zero from text) ∙ reads in absurd cc
by_turns (suc n) from text rs are reads = by (λ place rest others. by_turns n place rest others) (next from text) refl (next_text from text are)
  where
    by : ((place : ℕ) (rest : List ℕ) (others : List Record) → IsBytes rest → reading_by n place rest ≡ Whole others → rest ≡ records_text others ++ 69 ∷ []) → (x : Next) → next from text ≡ x → IsText text x → text ≡ records_text rs ++ 69 ∷ []
    by again Ends is spelt =
        let none : Whole [] ≡ Whole rs = sym (by_ends n from text is) ∙ reads in
        let same : [] ≡ rs = cc in
        spelt ∙ ap (λ (l : List Record). records_text l ++ 69 ∷ []) same
    by again (Faulty place) is spelt = let none : Bad place ≡ Whole rs = sym (by_faulty n from text place is) ∙ reads in absurd cc
    by again (Takes r rest) is spelt =
        let m = rest_reads (reading_by n (from + length (text_of r)) rest) r rs (sym (by_takes n from text r rest is) ∙ reads) in
        let ends = again (from + length (text_of r)) rest m.0 (bytes_right (text_of r) rest (subst IsBytes spelt are)) m.2 in
        spelt ∙ ap (λ (l : List ℕ). text_of r ++ l) ends ∙ sym (append_assoc (text_of r) (records_text m.0) (69 ∷ [])) ∙ ap (λ (l : List Record). records_text l ++ 69 ∷ []) (sym m.1)

-- a body that reads as records is their text and the end
pub spells : (text : List ℕ) (rs : List Record) → IsBytes text → records_of text ≡ Some rs → text ≡ records_text rs ++ 69 ∷ []
spells text rs are is = by_turns (suc (length text)) 0 text rs are (records_whole (reading text) rs is)

-- the text of records that can be written, with the end, reads as them
pub reads_back : (rs : List Record) → AllByRecursion Fits rs → records_of (records_text rs ++ 69 ∷ []) ≡ Some rs
reads_back rs fits = ap records_in (written rs fits)

-- no two lists of records have one body
pub one_list : (rs others : List Record) → AllByRecursion Fits rs → AllByRecursion Fits others → records_text rs ++ 69 ∷ [] ≡ records_text others ++ 69 ∷ [] → rs ≡ others
one_list rs others fits fit same = let is : Some rs ≡ Some others = sym (reads_back rs fits) ∙ ap (λ (l : List ℕ). records_of l) same ∙ reads_back others fit in cc

-- and no two bodies read as one list of records
pub one_body : (a b : List ℕ) (rs : List Record) → IsBytes a → IsBytes b → records_of a ≡ Some rs → records_of b ≡ Some rs → a ≡ b
one_body a b rs are bytes is also = spells a rs are is ∙ sym (spells b rs bytes also)
