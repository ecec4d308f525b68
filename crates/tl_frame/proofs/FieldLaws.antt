-- What is made of a field that is whole, and of one that is cut.
use Rattle.std.proofs.Common.{◌≡◌, ◌<◌, ◌≤◌, ◌+◌, ◌-◌, ℕ, zero, suc, false, cond, List, [], ◌∷◌, ◌++◌, length, take, drop, refl, sym, ◌∙◌, ap, arith, eqb, length-append, inl, inr}
use Rattle.std.specs.Prelude.{nat_lt, map, bytes_eq}
use Rattle.std.specs.Int.{w16, w32, w64, from_be_bytes}
use Rattle.std.proofs.lemmas.Bool.{cases_lt, lt-ltb, le-ltb}
use Rattle.std.proofs.Math.Seq.{take-append-add, drop-append-add}
use Rattle.std.proofs.lemmas.List.{take_at, drop_at, append_assoc, map-append}
use Rattle.tl_frame.specs.Frames.{frame_magic, frame_mark}
use Rattle.tl_frame.specs.Scan.{Token, EntryText, FileHead, FileByte, FrameEnd, AtEnd, InField, AtFault, Scan, stop, telling, field_from, nothing_from, mark_from, content_from, size_from, is_later_path, path_from, files_from, count_from, entry_from, entry_size_from, magic_from}

pub field_whole : (size from : ℕ) (xs rest : List ℕ) (go : List ℕ → List ℕ → Scan) → length xs ≡ size → field_from size from (xs ++ rest) go ≡ go xs rest
unfolding field_from
field_whole size from xs rest go is =
    let long : nat_lt (length (xs ++ rest)) size ≡ false = le-ltb (length (xs ++ rest)) size (omega (arith, length-append xs rest)) in
    ap (λ b. cond b (stop (InField from)) (go (take size (xs ++ rest)) (drop size (xs ++ rest)))) long
    ∙ (λ i. go (take_at xs rest size is i) (drop_at xs rest size is i))

pub field_cut : (size from : ℕ) (text : List ℕ) (go : List ℕ → List ℕ → Scan) → length text < size → field_from size from text go ≡ stop (InField from)
unfolding field_from
field_cut size from text go short = ap (λ b. cond b (stop (InField from)) (go (take size text) (drop size text))) (lt-ltb (length text) size short)

-- the bytes of a file, part by part
bytes_more : (n from : ℕ) (xs more : List ℕ) (go : List ℕ → Scan) → content_from (length xs + n) from (xs ++ more) go ≡ telling (map FileByte xs) (content_from n from more go)
unfolding content_from
bytes_more n from xs more go = elim (cases_lt (length more) n) [
  | inl few ↦
      ap (λ b. cond b (record { tokens = map FileByte (xs ++ more); ending = InField from }) (telling (map FileByte (take (length xs + n) (xs ++ more))) (go (drop (length xs + n) (xs ++ more))))) (lt-ltb (length (xs ++ more)) (length xs + n) (omega (arith, length-append xs more)))
      ∙ ap (λ (ts : List Token). record { tokens = ts; ending = InField from }) (map-append FileByte xs more)
      ∙ sym (ap (λ b. telling (map FileByte xs) (cond b (record { tokens = map FileByte more; ending = InField from }) (telling (map FileByte (take n more)) (go (drop n more))))) (lt-ltb (length more) n few))
  | inr many ↦
      ap (λ b. cond b (record { tokens = map FileByte (xs ++ more); ending = InField from }) (telling (map FileByte (take (length xs + n) (xs ++ more))) (go (drop (length xs + n) (xs ++ more))))) (le-ltb (length (xs ++ more)) (length xs + n) (omega (arith, length-append xs more)))
      ∙ ap (λ (l : List ℕ). telling (map FileByte l) (go (drop (length xs + n) (xs ++ more)))) (take-append-add xs more n)
      ∙ ap (λ (l : List ℕ). telling (map FileByte (xs ++ take n more)) (go l)) (drop-append-add xs more n)
      ∙ ap (λ (ts : List Token). telling ts (go (drop n more))) (map-append FileByte xs (take n more))
      ∙ ap (λ (ts : List Token). record { tokens = ts; ending = (go (drop n more)).ending }) (append_assoc (map FileByte xs) (map FileByte (take n more)) (go (drop n more)).tokens)
      ∙ sym (ap (λ b. telling (map FileByte xs) (cond b (record { tokens = map FileByte more; ending = InField from }) (telling (map FileByte (take n more)) (go (drop n more))))) (le-ltb (length more) n many))
]

pub bytes_part : (left from : ℕ) (xs more : List ℕ) (go : List ℕ → Scan) → length xs ≤ left
    → content_from left from (xs ++ more) go ≡ telling (map FileByte xs) (content_from (left - length xs) from more go)
bytes_part left from xs more go within =
    ap (λ (n : ℕ). content_from n from (xs ++ more) go) (omega arith) ∙ bytes_more (left - length xs) from xs more go

-- where none are to come
pub bytes_done : (from : ℕ) (more : List ℕ) (go : List ℕ → Scan) → content_from 0 from more go ≡ go more
unfolding content_from
bytes_done from more go = ap (λ b. cond b (record { tokens = map FileByte more; ending = InField from }) (telling (map FileByte (take 0 more)) (go (drop 0 more)))) (le-ltb (length more) 0 (omega arith))

pub bytes_whole : (left from : ℕ) (xs more : List ℕ) (go : List ℕ → Scan) → length xs ≡ left → content_from left from (xs ++ more) go ≡ telling (map FileByte xs) (go more)
bytes_whole left from xs more go is =
    let none : left - length xs ≡ 0 = omega arith in
    bytes_part left from xs more go (omega arith)
    ∙ ap (λ (n : ℕ). telling (map FileByte xs) (content_from n from more go)) none
    ∙ ap (λ (s : Scan). telling (map FileByte xs) s) (bytes_done from more go)

pub bytes_none : (left from : ℕ) (go : List ℕ → Scan) → 0 < left → content_from left from [] go ≡ stop (InField from)
unfolding content_from
bytes_none left from go some = ap (λ b. cond b (stop (InField from)) (telling (map FileByte (take left [])) (go (drop left [])))) (lt-ltb 0 left some)

pub magic_is : (from : ℕ) (text : List ℕ) → magic_from from text ≡ field_from 8 from text (λ magic rest. cond (bytes_eq magic frame_magic) (entry_size_from (from + 8) rest) (stop (AtFault from)))
unfolding magic_from
magic_is from text = refl

pub entry_size_is : (from : ℕ) (text : List ℕ) → entry_size_from from text ≡ field_from 4 from text (λ size rest. entry_from (from_be_bytes w32 size) (from + 4) rest)
unfolding entry_size_from
entry_size_is from text = refl

pub entry_is : (size from : ℕ) (text : List ℕ) → entry_from size from text ≡ field_from size from text (λ entry rest. telling (EntryText entry ∷ []) (count_from (from + size) rest))
unfolding entry_from
entry_is size from text = refl

pub count_is : (from : ℕ) (text : List ℕ) → count_from from text ≡ field_from 4 from text (λ count rest. files_from (from_be_bytes w32 count) [] (from + 4) rest)
unfolding count_from
count_is from text = refl

pub files_is : (count : ℕ) (last : List ℕ) (from : ℕ) (text : List ℕ) → files_from (suc count) last from text ≡ field_from 2 from text (λ size rest. path_from (from_be_bytes w16 size) last (from + 2) rest (λ path place more. files_from count path place more))
unfolding files_from
files_is count last from text = refl

pub no_files_is : (last : List ℕ) (from : ℕ) (text : List ℕ) → files_from zero last from text ≡ mark_from from text
unfolding files_from
no_files_is last from text = refl

pub path_is : (size : ℕ) (last : List ℕ) (from : ℕ) (text : List ℕ) (go : List ℕ → ℕ → List ℕ → Scan) → path_from size last from text go
    ≡ cond (nat_lt 1024 size) (stop (AtFault from)) (field_from size from text (λ name rest. cond (is_later_path last name) (size_from name (from + size) rest go) (stop (AtFault from))))
unfolding path_from
path_is size last from text go = refl

pub size_is : (path : List ℕ) (from : ℕ) (text : List ℕ) (go : List ℕ → ℕ → List ℕ → Scan) → size_from path from text go
    ≡ field_from 8 from text (λ size rest. telling (FileHead path (from_be_bytes w64 size) ∷ []) (content_from (from_be_bytes w64 size) (from + 8) rest (go path (from + 8 + from_be_bytes w64 size))))
unfolding size_from
size_is path from text go = refl

pub mark_is : (from : ℕ) (text : List ℕ) → mark_from from text ≡ field_from 8 from text (λ mark rest. cond (bytes_eq mark frame_mark) (telling (FrameEnd ∷ []) (nothing_from (from + 8) rest)) (stop (AtFault from)))
unfolding mark_from
mark_is from text = refl

pub nothing_is : (from : ℕ) (text : List ℕ) → nothing_from from text ≡ stop (cond (eqb (length text) 0) AtEnd (AtFault from))
unfolding nothing_from
nothing_is from text = refl

-- a path that isn't too long
pub path_fits : (size : ℕ) (last : List ℕ) (from : ℕ) (text : List ℕ) (go : List ℕ → ℕ → List ℕ → Scan) → size ≤ 1024
    → path_from size last from text go ≡ field_from size from text (λ name rest. cond (is_later_path last name) (size_from name (from + size) rest go) (stop (AtFault from)))
path_fits size last from text go few = path_is size last from text go
    ∙ ap (λ b. cond b (stop (AtFault from)) (field_from size from text (λ name rest. cond (is_later_path last name) (size_from name (from + size) rest go) (stop (AtFault from))))) (le-ltb 1024 size few)

-- a path that is too long, or has no byte
pub path_wrong : (size : ℕ) (last : List ℕ) (from : ℕ) (text : List ℕ) (go : List ℕ → ℕ → List ℕ → Scan) → 1024 < size
    → path_from size last from text go ≡ stop (AtFault from)
path_wrong size last from text go many = path_is size last from text go
    ∙ ap (λ b. cond b (stop (AtFault from)) (field_from size from text (λ name rest. cond (is_later_path last name) (size_from name (from + size) rest go) (stop (AtFault from))))) (lt-ltb 1024 size many)

pub no_later_path : (last : List ℕ) → is_later_path last [] ≡ false
unfolding is_later_path
no_later_path last = refl

pub path_empty : (last : List ℕ) (from : ℕ) (text : List ℕ) (go : List ℕ → ℕ → List ℕ → Scan) → path_from 0 last from text go ≡ stop (AtFault from)
path_empty last from text go =
    path_fits 0 last from text go (omega arith)
    ∙ field_whole 0 from [] text (λ name rest. cond (is_later_path last name) (size_from name (from + 0) rest go) (stop (AtFault from))) refl
    ∙ ap (λ b. cond b (size_from [] (from + 0) text go) (stop (AtFault from))) (no_later_path last)
