-- Bytes that end as a frame does are one.
use Rattle.std.proofs.Common.{◌≡◌, ◌<◌, ◌≤◌, ◌+◌, ◌^◌, ℕ, zero, suc, Bool, true, false, cond, List, [], ◌∷◌, ◌++◌, length, take, drop, refl, sym, ◌∙◌, ap, subst, arith, append_assoc, eqb}
use Rattle.std.specs.Prelude.{map, bytes_eq, nat_lt}
use Rattle.std.specs.List.{AllByRecursion, flat_map}
use Rattle.std.specs.Int.{Width, w16, w32, w64, to_be_bytes, from_be_bytes}
use Rattle.std.specs.Ordering.{nat_cmp, is_lt}
use Rattle.std.specs.Cmp.Lexicographic.{slice_cmp}
use Rattle.std.proofs.lemmas.List.{nil_from_length, length-take, take-append-drop, get_or-drop}
use Rattle.std.proofs.lemmas.Bool.{ltb-false, eqb-true, and_from, and_parts}
use Rattle.std.proofs.lemmas.Nat.{be_bytes_2, be_bytes_4, be_bytes_8}
use Rattle.std.proofs.lemmas.Slice.Eq.{bytes_eq-Decides}
use Rattle.tl_file.specs.declared.file.FileBytes.{FileBytes}
use Rattle.tl_frame.specs.Frames.{frame_magic, frame_mark, framed_file, frame, paths_rise, paths_rise_behind, FitsFrame, IsFrame}
use Rattle.tl_frame.specs.Scan.{FileByte, AtEnd, InField, AtFault, Scan, stop, telling, scan, ending_of, AreBytes, field_from, mark_from, content_from, size_from, is_later_path, path_from, files_from, count_from, entry_from, entry_size_from}
use Rattle.tl_frame.specs.States.{IsWhole}
use Rattle.tl_frame.proofs.FieldLaws.{magic_is, entry_size_is, entry_is, count_is, files_is, no_files_is, path_is, size_is, mark_is, nothing_is}
use Rattle.tl_frame.proofs.FeedLaws.{bytes_front}
use Rattle.tl_frame.proofs.PathLaws.{later_is_path, later_is_less}
use Rattle.tl_frame.proofs.FrameLaws.{file_parts, frame_scan}

-- a field at the front of bytes, and what follows it
record Split (size : ℕ) (text : List ℕ) : Type 0 where
  front : List ℕ
  rest : List ℕ
  same : text ≡ front ++ rest
  sized : length front ≡ size
  front_bytes : AreBytes front
  rest_bytes : AreBytes rest

bytes_behind : (n : ℕ) (text : List ℕ) → AreBytes text → AreBytes (drop n text)
bytes_behind n text are i = subst (λ (b : ℕ). b < 256) (sym (get_or-drop n text i 0)) (are (n + i))

abbrev split_at : (size : ℕ) (text : List ℕ) → size ≤ length text → AreBytes text → Split size text
split_at size text enough are = record {
  front = take size text;
  rest = drop size text;
  same = sym (take-append-drop size text);
  sized = omega (arith, length-take size text);
  front_bytes = bytes_front text (take size text) (drop size text) (sym (take-append-drop size text)) are;
  rest_bytes = bytes_behind size text are;
}

-- a scan that ends as a frame does came through the field
field_inv : (size from : ℕ) (text : List ℕ) (go : List ℕ → List ℕ → Scan) → AreBytes text → (field_from size from text go).ending ≡ AtEnd
    → (s : Split size text) × ((go s.front s.rest).ending ≡ AtEnd)
unfolding field_from
field_inv size from text go are ends = by (nat_lt (length text) size) refl ends
  where
    by : (b : Bool) → nat_lt (length text) size ≡ b → (cond b (stop (InField from)) (go (take size text) (drop size text))).ending ≡ AtEnd → (s : Split size text) × ((go s.front s.rest).ending ≡ AtEnd)
    by true same ends = absurd cc
    by false same ends = (split_at size text (ltb-false _ _ same) are, ends)

bytes_inv : (left from : ℕ) (text : List ℕ) (go : List ℕ → Scan) → AreBytes text → (content_from left from text go).ending ≡ AtEnd
    → (s : Split left text) × ((go s.rest).ending ≡ AtEnd)
unfolding content_from
bytes_inv left from text go are ends = by (nat_lt (length text) left) refl ends
  where
    by : (b : Bool) → nat_lt (length text) left ≡ b → (cond b (record { tokens = map FileByte text; ending = InField from }) (telling (map FileByte (take left text)) (go (drop left text)))).ending ≡ AtEnd
        → (s : Split left text) × ((go s.rest).ending ≡ AtEnd)
    by true same ends = absurd cc
    by false same ends = (split_at left text (ltb-false _ _ same) are, ends)

-- and past the test of a field
test_inv : (b : Bool) (x : Scan) (place : ℕ) → (cond b x (stop (AtFault place))).ending ≡ AtEnd → (b ≡ true) × (x.ending ≡ AtEnd)
test_inv true x place ends = (refl, ends)
test_inv false x place ends = absurd cc

bytes_same : (xs ys : List ℕ) → bytes_eq xs ys ≡ true → xs ≡ ys
bytes_same xs ys is = (bytes_eq-Decides xs ys).0 is

-- the bytes of a number are those of the length that it tells
told_length : (w : Width) (front field : List ℕ) (n : ℕ) → to_be_bytes w n ≡ front → length field ≡ n → front ≡ to_be_bytes w (length field)
told_length w front field n told sized = sym told ∙ ap (λ (k : ℕ). to_be_bytes w k) (sym sized)

-- the same of a number of files
told_length_by : (front : List ℕ) (files : List FileBytes) (n : ℕ) → to_be_bytes w32 n ≡ front → length files ≡ n → front ≡ to_be_bytes w32 (length files)
told_length_by front files n told number = sym told ∙ ap (λ (k : ℕ). to_be_bytes w32 k) (sym number)

-- a field, what it tells the length of, and the rest
two_fields : (text front behind field rest told : List ℕ) → text ≡ front ++ behind → front ≡ told → behind ≡ field ++ rest → text ≡ told ++ (field ++ rest)
two_fields text front behind field rest told same is also = same ∙ ap (λ (l : List ℕ). l ++ behind) is ∙ ap (λ (l : List ℕ). told ++ l) also

module _ (text : List ℕ) (s : Split 2 text) where
  number_2 : (from_be_bytes w16 s.front < 2 ^ 16) × (to_be_bytes w16 (from_be_bytes w16 s.front) ≡ s.front)
  number_2 = (omega (arith, s.front_bytes 0, s.front_bytes 1), be_bytes_2 s.front (from_be_bytes w16 s.front) s.sized s.front_bytes refl)

module _ (text : List ℕ) (s : Split 4 text) where
  number_4 : (from_be_bytes w32 s.front < 2 ^ 32) × (to_be_bytes w32 (from_be_bytes w32 s.front) ≡ s.front)
  number_4 = (omega (arith, s.front_bytes 0, s.front_bytes 1, s.front_bytes 2, s.front_bytes 3), be_bytes_4 s.front (from_be_bytes w32 s.front) s.sized s.front_bytes refl)

module _ (text : List ℕ) (s : Split 8 text) where
  number_8 : (from_be_bytes w64 s.front < 2 ^ 64) × (to_be_bytes w64 (from_be_bytes w64 s.front) ≡ s.front)
  number_8 = (omega (arith, s.front_bytes 0, s.front_bytes 1, s.front_bytes 2, s.front_bytes 3, s.front_bytes 4, s.front_bytes 5, s.front_bytes 6, s.front_bytes 7), be_bytes_8 s.front (from_be_bytes w64 s.front) s.sized s.front_bytes refl)

-- ---- field by field, from the last

mark_read : (from : ℕ) (text : List ℕ) → AreBytes text → (mark_from from text).ending ≡ AtEnd → text ≡ frame_mark
mark_read from text are ends =
    let field = field_inv 8 from text _ are (sym (ap (λ (s : Scan). s.ending) (mark_is from text)) ∙ ends) in
    let test = test_inv (bytes_eq field.0.front frame_mark) _ from field.1 in
    field.0.same
    ∙ ap (λ (l : List ℕ). l ++ field.0.rest) (bytes_same field.0.front frame_mark test.0)
    ∙ ap (λ (l : List ℕ). frame_mark ++ l) (by field.0.rest (eqb (length field.0.rest) 0) refl (sym (ap (λ (s : Scan). s.ending) (nothing_is (from + 8) field.0.rest)) ∙ test.1))
  where
    by : (rest : List ℕ) (b : Bool) → eqb (length rest) 0 ≡ b → cond b AtEnd (AtFault (from + 8)) ≡ AtEnd → rest ≡ []
    by rest true same ends = nil_from_length rest (eqb-true (length rest) 0 same)
    by rest false same ends = absurd cc

-- files and the mark
record AreFiles (count : ℕ) (last text : List ℕ) : Type 0 where
  files : List FileBytes
  number : length files ≡ count
  each : AllByRecursion FitsFrame files
  rising : paths_rise_behind last files ≡ true
  same : text ≡ flat_map framed_file files ++ frame_mark

-- the bytes of a file behind its path, and what follows them
record IsSized (text : List ℕ) (go : ℕ → List ℕ → Scan) : Type 0 where
  bytes : List ℕ
  rest : List ℕ
  next : ℕ
  size : length bytes < 2 ^ 64
  same : text ≡ to_be_bytes w64 (length bytes) ++ (bytes ++ rest)
  rest_bytes : AreBytes rest
  ends : (go next rest).ending ≡ AtEnd

size_read : (path : List ℕ) (from : ℕ) (text : List ℕ) (go : List ℕ → ℕ → List ℕ → Scan) → AreBytes text → (size_from path from text go).ending ≡ AtEnd → IsSized text (go path)
size_read path from text go are ends =
    let eight = field_inv 8 from text _ are (sym (ap (λ (s : Scan). s.ending) (size_is path from text go)) ∙ ends) in
    let len = from_be_bytes w64 eight.0.front in
    let number = number_8 text eight.0 in
    let held = bytes_inv len (from + 8) eight.0.rest _ eight.0.rest_bytes eight.1 in
    record {
      bytes = held.0.front;
      rest = held.0.rest;
      next = from + 8 + len;
      size = subst (λ (n : ℕ). n < 2 ^ 64) (sym held.0.sized) number.0;
      same = two_fields text eight.0.front eight.0.rest held.0.front held.0.rest _ eight.0.same (told_length w64 eight.0.front held.0.front len number.1 held.0.sized) held.0.same;
      rest_bytes = held.0.rest_bytes;
      ends = held.1;
    }

-- a file, and what follows it
record IsFile (last text : List ℕ) (go : List ℕ → ℕ → List ℕ → Scan) : Type 0 where
  file : FileBytes
  rest : List ℕ
  next : ℕ
  fits : FitsFrame file
  later : is_lt (slice_cmp nat_cmp last file.path) ≡ true
  same : text ≡ framed_file file ++ rest
  rest_bytes : AreBytes rest
  ends : (go file.path next rest).ending ≡ AtEnd

file_same : (text front behind path rest bytes more : List ℕ) → text ≡ front ++ behind → front ≡ to_be_bytes w16 (length path) → behind ≡ path ++ rest → rest ≡ to_be_bytes w64 (length bytes) ++ (bytes ++ more)
    → text ≡ framed_file (record { path = path; bytes = bytes }) ++ more
file_same text front behind path rest bytes more same told also ends =
    two_fields text front behind path rest (to_be_bytes w16 (length path)) same told also
    ∙ ap (λ (l : List ℕ). to_be_bytes w16 (length path) ++ (path ++ l)) ends
    ∙ sym (file_parts (record { path = path; bytes = bytes }) more)

file_read : (last : List ℕ) (from : ℕ) (text : List ℕ) (go : List ℕ → ℕ → List ℕ → Scan) → AreBytes text
    → (field_from 2 from text (λ size rest. path_from (from_be_bytes w16 size) last (from + 2) rest go)).ending ≡ AtEnd → IsFile last text go
file_read last from text go are ends =
    let two = field_inv 2 from text _ are ends in
    let len = from_be_bytes w16 two.0.front in
    let number = number_2 text two.0 in
    let short = long_inv (nat_lt 1024 len) _ (from + 2) (sym (ap (λ (s : Scan). s.ending) (path_is len last (from + 2) two.0.rest go)) ∙ two.1) in
    let name = field_inv len (from + 2) two.0.rest _ two.0.rest_bytes short in
    let test = test_inv (is_later_path last name.0.front) _ (from + 2) name.1 in
    let sized = size_read name.0.front (from + 2 + len) name.0.rest go name.0.rest_bytes test.1 in
    let file : FileBytes = record { path = name.0.front; bytes = sized.bytes } in
    record {
      file = file;
      rest = sized.rest;
      next = sized.next;
      fits = record { path = later_is_path last name.0.front test.0; size = sized.size };
      later = later_is_less last name.0.front test.0;
      same = file_same text two.0.front two.0.rest name.0.front name.0.rest sized.bytes sized.rest two.0.same (told_length w16 two.0.front name.0.front len number.1 name.0.sized) name.0.same sized.same;
      rest_bytes = sized.rest_bytes;
      ends = sized.ends;
    }
  where
    long_inv : (b : Bool) (x : Scan) (place : ℕ) → (cond b (stop (AtFault place)) x).ending ≡ AtEnd → x.ending ≡ AtEnd
    long_inv true x place ends = absurd cc
    long_inv false x place ends = ends

files_read : (count : ℕ) (last : List ℕ) (from : ℕ) (text : List ℕ) → AreBytes text → (files_from count last from text).ending ≡ AtEnd → AreFiles count last text
files_read zero last from text are ends = record {
  files = [];
  number = refl;
  each = tt;
  rising = refl;
  same = mark_read from text are (sym (ap (λ (s : Scan). s.ending) (no_files_is last from text)) ∙ ends);
}
files_read (suc count) last from text are ends =
    let one = file_read last from text (files_from count) are (sym (ap (λ (s : Scan). s.ending) (files_is count last from text)) ∙ ends) in
    let others = files_read count one.file.path one.next one.rest one.rest_bytes one.ends in
    record {
      files = one.file ∷ others.files;
      number = ap suc others.number;
      each = (one.fits, others.each);
      rising = and_from (is_lt (slice_cmp nat_cmp last one.file.path)) (paths_rise_behind one.file.path others.files) one.later others.rising;
      same = one.same ∙ ap (λ (l : List ℕ). framed_file one.file ++ l) others.same ∙ sym (append_assoc (framed_file one.file) (flat_map framed_file others.files) frame_mark);
    }

rise_all : (fs : List FileBytes) → paths_rise_behind [] fs ≡ true → paths_rise fs ≡ true
rise_all [] rise = refl
rise_all (f ∷ fs) rise = (and_parts (is_lt (slice_cmp nat_cmp [] f.path)) (paths_rise_behind f.path fs) rise).1

-- the number of files, the files and the mark
record IsCounted (text : List ℕ) : Type 0 where
  files : List FileBytes
  fits : length files < 2 ^ 32
  each : AllByRecursion FitsFrame files
  rising : paths_rise files ≡ true
  same : text ≡ to_be_bytes w32 (length files) ++ (flat_map framed_file files ++ frame_mark)

count_read : (from : ℕ) (text : List ℕ) → AreBytes text → (count_from from text).ending ≡ AtEnd → IsCounted text
count_read from text are ends =
    let four = field_inv 4 from text _ are (sym (ap (λ (s : Scan). s.ending) (count_is from text)) ∙ ends) in
    by four.0 (files_read (from_be_bytes w32 four.0.front) [] (from + 4) four.0.rest four.0.rest_bytes four.1)
  where
    by : (four : Split 4 text) → AreFiles (from_be_bytes w32 four.front) [] four.rest → IsCounted text
    by four are =
        let told = number_4 text four in record {
          files = are.files;
          fits = subst (λ (n : ℕ). n < 2 ^ 32) (sym are.number) told.0;
          each = are.each;
          rising = rise_all are.files are.rising;
          same = four.same
              ∙ ap (λ (l : List ℕ). l ++ four.rest) (told_length_by four.front are.files (from_be_bytes w32 four.front) told.1 are.number)
              ∙ ap (λ (l : List ℕ). to_be_bytes w32 (length are.files) ++ l) are.same;
        }

-- an entry's text of so many bytes, and the files
record IsEntry (size : ℕ) (text : List ℕ) : Type 0 where
  entry : List ℕ
  rest : List ℕ
  sized : length entry ≡ size
  same : text ≡ entry ++ rest
  counted : IsCounted rest

entry_read : (size from : ℕ) (text : List ℕ) → AreBytes text → (entry_from size from text).ending ≡ AtEnd → IsEntry size text
entry_read size from text are ends =
    let field = field_inv size from text _ are (sym (ap (λ (s : Scan). s.ending) (entry_is size from text)) ∙ ends) in record {
      entry = field.0.front;
      rest = field.0.rest;
      sized = field.0.sized;
      same = field.0.same;
      counted = count_read (from + size) field.0.rest field.0.rest_bytes field.1;
    }

-- all behind the magic
record IsBehindMagic (text : List ℕ) : Type 0 where
  entry : List ℕ
  rest : List ℕ
  fits : length entry < 2 ^ 32
  same : text ≡ to_be_bytes w32 (length entry) ++ (entry ++ rest)
  counted : IsCounted rest

entry_size_read : (from : ℕ) (text : List ℕ) → AreBytes text → (entry_size_from from text).ending ≡ AtEnd → IsBehindMagic text
entry_size_read from text are ends =
    let four = field_inv 4 from text _ are (sym (ap (λ (s : Scan). s.ending) (entry_size_is from text)) ∙ ends) in
    by four.0 (entry_read (from_be_bytes w32 four.0.front) (from + 4) four.0.rest four.0.rest_bytes four.1)
  where
    by : (four : Split 4 text) → IsEntry (from_be_bytes w32 four.front) four.rest → IsBehindMagic text
    by four is =
        let told = number_4 text four in record {
          entry = is.entry;
          rest = is.rest;
          fits = subst (λ (n : ℕ). n < 2 ^ 32) (sym is.sized) told.0;
          same = two_fields text four.front four.rest is.entry is.rest (to_be_bytes w32 (length is.entry)) four.same (told_length w32 four.front is.entry (from_be_bytes w32 four.front) told.1 is.sized) is.same;
          counted = is.counted;
        }

behind_magic : (text : List ℕ) → IsBehindMagic text → IsWhole (frame_magic ++ text)
unfolding frame
behind_magic text is = by (record {
  have = record { entry_fits = is.fits; count_fits = is.counted.fits; each = is.counted.each; rising = is.counted.rising };
  same = ap (λ (l : List ℕ). frame_magic ++ l) (is.same ∙ ap (λ (l : List ℕ). to_be_bytes w32 (length is.entry) ++ (is.entry ++ l)) is.counted.same);
})
  where
    by : IsFrame (frame_magic ++ text) is.entry is.counted.files → IsWhole (frame_magic ++ text)
    by there = record { entry = is.entry; files = is.counted.files; is = there; told = ap (λ (s : Scan). s.tokens) (frame_scan (frame_magic ++ text) is.entry is.counted.files there) }

-- bytes that end as a frame does are one
pub frame_read : (text : List ℕ) → AreBytes text → ending_of text ≡ AtEnd → IsWhole text
unfolding scan
frame_read text are ends =
    let magic = field_inv 8 0 text _ are (sym (ap (λ (s : Scan). s.ending) (magic_is 0 text)) ∙ ends) in
    let test = test_inv (bytes_eq magic.0.front frame_magic) _ 0 magic.1 in
    by magic.0 (bytes_same magic.0.front frame_magic test.0) (entry_size_read 8 magic.0.rest magic.0.rest_bytes test.1)
  where
    by : (magic : Split 8 text) → magic.front ≡ frame_magic → IsBehindMagic magic.rest → IsWhole text
    by magic same is = subst IsWhole (sym (magic.same ∙ ap (λ (l : List ℕ). l ++ magic.rest) same)) (behind_magic magic.rest is)
