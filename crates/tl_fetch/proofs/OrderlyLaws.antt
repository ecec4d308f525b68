-- The tokens of bytes come in order: each file's bytes come behind it, and no more of them, before anything else.
use Rattle.std.proofs.Common.{◌≡◌, ◌<◌, ◌≤◌, ◌+◌, ◌-◌, ℕ, zero, suc, Bool, true, false, cond, List, [], ◌∷◌, ◌++◌, length, take, drop, refl, sym, ◌∙◌, ap, subst, arith}
use Rattle.std.specs.Prelude.{◌==◌, ◌&&◌, map, bytes_eq, nat_lt}
use Rattle.std.specs.Int.{w16, w32, w64, from_be_bytes}
use Rattle.std.proofs.lemmas.Bool.{ltb-true, ltb-false, eqb-true, cond_both, and_parts, and_from}
use Rattle.std.proofs.lemmas.List.{length-take}
use Rattle.tl_entry.specs.declared.object.Object.{Object}
use Rattle.tl_frame.specs.Frames.{frame_magic, frame_mark}
use Rattle.tl_frame.specs.Scan.{Token, EntryText, FileHead, FileByte, FrameEnd, ScanEnd, AtEnd, InField, AtFault, Scan, stop, telling, scan, tokens_of, field_from, nothing_from, mark_from, content_from, size_from, is_later_path, path_from, files_from, count_from, entry_from, entry_size_from, magic_from}
use Rattle.tl_frame.proofs.FieldLaws.{magic_is, entry_size_is, entry_is, count_is, files_is, no_files_is, path_is, size_is, mark_is, nothing_is}
use Rattle.tl_fetch.specs.Unpacked.{Unpacked, are_orderly, unpacked, unpacked_by, with_head, heads, reads_as}

abbrev IsOrderly : Scan → Type 0
IsOrderly s = are_orderly 0 s.tokens ≡ true

-- ---- the bytes of a file

bytes_cut : (left : ℕ) (text : List ℕ) → length text ≤ left → are_orderly left (map FileByte text) ≡ true
bytes_cut left [] within = refl
bytes_cut zero (b ∷ text) within = absurd (omega arith)
bytes_cut (suc left) (b ∷ text) within = bytes_cut left text (omega arith)

bytes_whole : (text : List ℕ) (tokens : List Token) → are_orderly 0 tokens ≡ true → are_orderly (length text) (map FileByte text ++ tokens) ≡ true
bytes_whole [] tokens orderly = orderly
bytes_whole (b ∷ text) tokens orderly = bytes_whole text tokens orderly

-- ---- the fields of a frame

field_orderly : (size from : ℕ) (text : List ℕ) (go : List ℕ → List ℕ → Scan) → ((front rest : List ℕ) → IsOrderly (go front rest)) → IsOrderly (field_from size from text go)
unfolding field_from
field_orderly size from text go behind = cond_both (nat_lt (length text) size) (stop (InField from)) (go (take size text) (drop size text)) IsOrderly (λ cut. refl) (λ enough. behind (take size text) (drop size text))

content_orderly : (left from : ℕ) (text : List ℕ) (go : List ℕ → Scan) → ((rest : List ℕ) → IsOrderly (go rest)) → are_orderly left (content_from left from text go).tokens ≡ true
unfolding content_from
content_orderly left from text go behind =
    cond_both (nat_lt (length text) left) (record { tokens = map FileByte text; ending = InField from }) (telling (map FileByte (take left text)) (go (drop left text))) (λ (s : Scan). are_orderly left s.tokens ≡ true)
    (λ cut. bytes_cut left text (omega (arith, ltb-true _ _ cut)))
    (λ enough.
    let whole : length (take left text) ≡ left = omega (arith, ltb-false _ _ enough, length-take left text) in
    subst (λ (n : ℕ). are_orderly n (map FileByte (take left text) ++ (go (drop left text)).tokens) ≡ true) whole (bytes_whole (take left text) (go (drop left text)).tokens (behind (drop left text))))

test_orderly : (b : Bool) (x : Scan) (from : ℕ) → IsOrderly x → IsOrderly (cond b x (stop (AtFault from)))
test_orderly true x from orderly = orderly
test_orderly false x from orderly = refl

nothing_orderly : (from : ℕ) (text : List ℕ) → IsOrderly (nothing_from from text)
nothing_orderly from text = subst IsOrderly (sym (nothing_is from text)) refl

mark_orderly : (from : ℕ) (text : List ℕ) → IsOrderly (mark_from from text)
mark_orderly from text = subst IsOrderly (sym (mark_is from text)) (field_orderly 8 from text _ (λ mark rest.
    test_orderly (bytes_eq mark frame_mark) (telling (FrameEnd ∷ []) (nothing_from (from + 8) rest)) from (nothing_orderly (from + 8) rest)))

size_orderly : (path : List ℕ) (from : ℕ) (text : List ℕ) (go : List ℕ → ℕ → List ℕ → Scan) → ((place : ℕ) (rest : List ℕ) → IsOrderly (go path place rest)) → IsOrderly (size_from path from text go)
size_orderly path from text go behind = subst IsOrderly (sym (size_is path from text go)) (field_orderly 8 from text _ (λ size rest.
    content_orderly (from_be_bytes w64 size) (from + 8) rest (go path (from + 8 + from_be_bytes w64 size)) (λ more. behind (from + 8 + from_be_bytes w64 size) more)))

path_orderly : (size : ℕ) (last : List ℕ) (from : ℕ) (text : List ℕ) (go : List ℕ → ℕ → List ℕ → Scan) → ((path : List ℕ) (place : ℕ) (rest : List ℕ) → IsOrderly (go path place rest)) → IsOrderly (path_from size last from text go)
path_orderly size last from text go behind = subst IsOrderly (sym (path_is size last from text go))
    (cond_both (nat_lt 1024 size) (stop (AtFault from)) (field_from size from text (λ name rest. cond (is_later_path last name) (size_from name (from + size) rest go) (stop (AtFault from)))) IsOrderly (λ long. refl) (λ short.
    field_orderly size from text _ (λ name rest.
    test_orderly (is_later_path last name) (size_from name (from + size) rest go) from (size_orderly name (from + size) rest go (behind name)))))

files_orderly : (count : ℕ) (last : List ℕ) (from : ℕ) (text : List ℕ) → IsOrderly (files_from count last from text)
files_orderly zero last from text = subst IsOrderly (sym (no_files_is last from text)) (mark_orderly from text)
files_orderly (suc count) last from text = subst IsOrderly (sym (files_is count last from text)) (field_orderly 2 from text _ (λ size rest.
    path_orderly (from_be_bytes w16 size) last (from + 2) rest (files_from count) (λ path place more. files_orderly count path place more)))

count_orderly : (from : ℕ) (text : List ℕ) → IsOrderly (count_from from text)
count_orderly from text = subst IsOrderly (sym (count_is from text)) (field_orderly 4 from text _ (λ count rest. files_orderly (from_be_bytes w32 count) [] (from + 4) rest))

entry_orderly : (size from : ℕ) (text : List ℕ) → IsOrderly (entry_from size from text)
entry_orderly size from text = subst IsOrderly (sym (entry_is size from text)) (field_orderly size from text _ (λ entry rest. count_orderly (from + size) rest))

entry_size_orderly : (from : ℕ) (text : List ℕ) → IsOrderly (entry_size_from from text)
entry_size_orderly from text = subst IsOrderly (sym (entry_size_is from text)) (field_orderly 4 from text _ (λ size rest. entry_orderly (from_be_bytes w32 size) (from + 4) rest))

magic_orderly : (from : ℕ) (text : List ℕ) → IsOrderly (magic_from from text)
magic_orderly from text = subst IsOrderly (sym (magic_is from text)) (field_orderly 8 from text _ (λ magic rest.
    test_orderly (bytes_eq magic frame_magic) (entry_size_from (from + 8) rest) from (entry_size_orderly (from + 8) rest)))

-- the tokens of all bytes come in order
pub tokens_orderly : (text : List ℕ) → are_orderly 0 (tokens_of text) ≡ true
unfolding scan
tokens_orderly text = magic_orderly 0 text

-- ---- tokens behind others

-- a front of tokens in order is in order
pub orderly_front : (lacks : ℕ) (some more : List Token) → are_orderly lacks (some ++ more) ≡ true → are_orderly lacks some ≡ true
orderly_front lacks [] more orderly = refl
orderly_front lacks (EntryText text ∷ some) more orderly = let both = and_parts (lacks == 0) (are_orderly 0 (some ++ more)) orderly in and_from (lacks == 0) (are_orderly 0 some) both.0 (orderly_front 0 some more both.1)
orderly_front lacks (FileHead path size ∷ some) more orderly = let both = and_parts (lacks == 0) (are_orderly size (some ++ more)) orderly in and_from (lacks == 0) (are_orderly size some) both.0 (orderly_front size some more both.1)
orderly_front zero (FileByte byte ∷ some) more orderly = orderly
orderly_front (suc lacks) (FileByte byte ∷ some) more orderly = orderly_front lacks some more orderly
orderly_front lacks (FrameEnd ∷ some) more orderly = let both = and_parts (lacks == 0) (are_orderly 0 (some ++ more)) orderly in and_from (lacks == 0) (are_orderly 0 some) both.0 (orderly_front 0 some more both.1)

-- what the last file lacks after a token
lacks_entry : (b : Bool) (s : Unpacked) → (cond b s (record s { wrong = true })).lacks ≡ s.lacks
lacks_entry true s = refl
lacks_entry false s = refl

lacks_head : (b : Bool) (x y : Unpacked) (n : ℕ) → x.lacks ≡ n → y.lacks ≡ n → (cond b x y).lacks ≡ n
lacks_head true x y n is also = is
lacks_head false x y n is also = also

-- the rest of tokens in order is in order behind what the first of them tell
pub orderly_behind : (entry : Object) (s : Unpacked) (some more : List Token) → are_orderly s.lacks (some ++ more) ≡ true → are_orderly (unpacked entry s some).lacks more ≡ true
orderly_behind entry s [] more orderly = orderly
orderly_behind entry s (EntryText text ∷ some) more orderly =
    let both = and_parts (s.lacks == 0) (are_orderly 0 (some ++ more)) orderly in
    let none : (unpacked_by entry s (EntryText text)).lacks ≡ 0 = lacks_entry (reads_as text entry) s ∙ eqb-true _ _ both.0 in
    orderly_behind entry (unpacked_by entry s (EntryText text)) some more (subst (λ (n : ℕ). are_orderly n (some ++ more) ≡ true) (sym none) both.1)
orderly_behind entry s (FileHead path size ∷ some) more orderly =
    let both = and_parts (s.lacks == 0) (are_orderly size (some ++ more)) orderly in
    let head_size : (unpacked_by entry s (FileHead path size)).lacks ≡ size = lacks_head _ _ _ size refl refl in
    orderly_behind entry (unpacked_by entry s (FileHead path size)) some more (subst (λ (n : ℕ). are_orderly n (some ++ more) ≡ true) (sym head_size) both.1)
orderly_behind entry s (FileByte byte ∷ some) more orderly =
    orderly_behind entry (unpacked_by entry s (FileByte byte)) some more (less s.lacks orderly)
  where
    less : (n : ℕ) → are_orderly n (FileByte byte ∷ (some ++ more)) ≡ true → are_orderly (n - 1) (some ++ more) ≡ true
    less zero is = absurd (cc)
    less (suc n) is = subst (λ (m : ℕ). are_orderly m (some ++ more) ≡ true) (omega arith) is
orderly_behind entry s (FrameEnd ∷ some) more orderly =
    let both = and_parts (s.lacks == 0) (are_orderly 0 (some ++ more)) orderly in
    orderly_behind entry s some more (subst (λ (n : ℕ). are_orderly n (some ++ more) ≡ true) (sym (eqb-true _ _ both.0)) both.1)

-- bytes that come in order are no more than the last file lacks
pub orderly_bytes : (lacks : ℕ) (bytes : List ℕ) → are_orderly lacks (map FileByte bytes) ≡ true → length bytes ≤ lacks
orderly_bytes lacks [] orderly = omega arith
orderly_bytes zero (b ∷ bytes) orderly = absurd (cc)
orderly_bytes (suc lacks) (b ∷ bytes) orderly = let less = orderly_bytes lacks bytes orderly in omega arith

-- a file begins where the last one lacks nothing
pub orderly_head : (lacks : ℕ) (path : List ℕ) (size : ℕ) → are_orderly lacks (FileHead path size ∷ []) ≡ true → lacks ≡ 0
orderly_head lacks path size orderly = eqb-true _ _ (and_parts (lacks == 0) true orderly).0
