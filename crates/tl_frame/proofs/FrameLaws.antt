-- What a frame tells.
use Rattle.std.proofs.Common.{◌≡◌, ◌<◌, ◌+◌, ◌^◌, ℕ, suc, Bool, true, false, cond, List, [], ◌∷◌, ◌++◌, length, None, refl, sym, ◌∙◌, ap, arith, append_assoc, eqb, length-append}
use Rattle.std.specs.Prelude.{map}
use Rattle.std.specs.List.{AllByRecursion, flat_map}
use Rattle.std.specs.Int.{w16, w32, w64, to_be_bytes}
use Rattle.std.specs.Ordering.{nat_cmp, is_lt}
use Rattle.std.specs.Cmp.Lexicographic.{slice_cmp}
use Rattle.std.proofs.lemmas.List.{append-nil, nil_from_length}
use Rattle.std.proofs.lemmas.Grind.{flat_map-append}
use Rattle.std.proofs.lemmas.Bool.{and_parts, and_from, eqb-true}
use Rattle.std.proofs.lemmas.Nat.{from_be_bytes-to_be_bytes_2, from_be_bytes-to_be_bytes_4, from_be_bytes-to_be_bytes_8}
use Rattle.tl_file.specs.declared.file.FileBytes.{FileBytes}
use Rattle.tl_frame.specs.Frames.{frame_magic, frame_mark, framed_file, frame, paths_rise, paths_rise_behind, FitsFrame, HaveFrame, IsFrame}
use Rattle.tl_frame.specs.Scan.{Token, EntryText, FileHead, FileByte, FrameEnd, AtEnd, AtFault, Scan, stop, telling, scan, frame_fault, place_in, file_tokens, frame_tokens, nothing_from, mark_from, content_from, size_from, path_from, files_from, entry_from, magic_from}
use Rattle.tl_frame.specs.States.{told_place}
use Rattle.tl_frame.proofs.FieldLaws.{field_whole, bytes_whole, magic_is, entry_size_is, entry_is, count_is, files_is, no_files_is, path_fits, size_is, mark_is, nothing_is}
use Rattle.tl_frame.proofs.StateLaws.{telling_twice}
use Rattle.tl_frame.proofs.PathLaws.{path_short, path_some, path_later}

-- the mark, and what stands behind it
mark_told : (from : ℕ) (more : List ℕ) → mark_from from (frame_mark ++ more) ≡ telling (FrameEnd ∷ []) (nothing_from (from + 8) more)
mark_told from more = mark_is from (frame_mark ++ more) ∙ field_whole 8 from frame_mark more _ refl

-- a file, and what stands behind it
pub file_parts : (f : FileBytes) (rest : List ℕ) → framed_file f ++ rest ≡ to_be_bytes w16 (length f.path) ++ (f.path ++ (to_be_bytes w64 (length f.bytes) ++ (f.bytes ++ rest)))
unfolding framed_file
file_parts f rest =
    let size = to_be_bytes w64 (length f.bytes) in
    append_assoc (to_be_bytes w16 (length f.path)) (f.path ++ (size ++ f.bytes)) rest
    ∙ ap (λ (l : List ℕ). to_be_bytes w16 (length f.path) ++ l) (append_assoc f.path (size ++ f.bytes) rest ∙ ap (λ (l : List ℕ). f.path ++ l) (append_assoc size f.bytes rest))

size_told : (path bytes rest : List ℕ) (from : ℕ) (go : List ℕ → ℕ → List ℕ → Scan) → length bytes < 2 ^ 64
    → size_from path from (to_be_bytes w64 (length bytes) ++ (bytes ++ rest)) go ≡ telling (FileHead path (length bytes) ∷ map FileByte bytes) (go path (from + 8 + length bytes) rest)
size_told path bytes rest from go small =
    size_is path from (to_be_bytes w64 (length bytes) ++ (bytes ++ rest)) go
    ∙ field_whole 8 from (to_be_bytes w64 (length bytes)) (bytes ++ rest) _ refl
    ∙ ap (λ (n : ℕ). telling (FileHead path n ∷ []) (content_from n (from + 8) (bytes ++ rest) (go path (from + 8 + n)))) (from_be_bytes-to_be_bytes_8 (length bytes) small)
    ∙ ap (λ (s : Scan). telling (FileHead path (length bytes) ∷ []) s) (bytes_whole (length bytes) (from + 8) bytes rest (go path (from + 8 + length bytes)) refl)

file_told : (f : FileBytes) (rest : List ℕ) (count : ℕ) (last : List ℕ) (from : ℕ) → FitsFrame f → is_lt (slice_cmp nat_cmp last f.path) ≡ true
    → files_from (suc count) last from (framed_file f ++ rest) ≡ telling (file_tokens f) (files_from count f.path (from + 2 + length f.path + 8 + length f.bytes) rest)
file_told f rest count last from fits later =
    let size = to_be_bytes w64 (length f.bytes) in
    let few = path_short f.path fits.path in
    let behind = size ++ (f.bytes ++ rest) in
    ap (λ (l : List ℕ). files_from (suc count) last from l) (file_parts f rest)
    ∙ files_is count last from _
    ∙ field_whole 2 from (to_be_bytes w16 (length f.path)) (f.path ++ behind) _ refl
    ∙ ap (λ (n : ℕ). path_from n last (from + 2) (f.path ++ behind) (files_from count)) (from_be_bytes-to_be_bytes_2 (length f.path) (omega (arith, few)))
    ∙ path_fits (length f.path) last (from + 2) (f.path ++ behind) (files_from count) few
    ∙ field_whole (length f.path) (from + 2) f.path behind _ refl
    ∙ ap (λ b. cond b (size_from f.path (from + 2 + length f.path) behind (files_from count)) (stop (AtFault (from + 2)))) (path_later last f.path fits.path later)
    ∙ size_told f.path f.bytes rest (from + 2 + length f.path) (files_from count) fits.size

-- files and the mark, and what stands behind it
files_told : (fs : List FileBytes) (more last : List ℕ) (from : ℕ) → AllByRecursion FitsFrame fs → paths_rise_behind last fs ≡ true
    → (place : ℕ) × (files_from (length fs) last from (flat_map framed_file fs ++ (frame_mark ++ more)) ≡ telling (flat_map file_tokens fs ++ FrameEnd ∷ []) (nothing_from place more))
files_told [] more last from fit rise = (from + 8, no_files_is last from (frame_mark ++ more) ∙ mark_told from more)
files_told (f ∷ fs) more last from fit rise =
    let parts = and_parts (is_lt (slice_cmp nat_cmp last f.path)) (paths_rise_behind f.path fs) rise in
    let rest = flat_map framed_file fs ++ (frame_mark ++ more) in
    let others = files_told fs more f.path (from + 2 + length f.path + 8 + length f.bytes) fit.1 parts.1 in (
      others.0,
      ap (λ (l : List ℕ). files_from (suc (length fs)) last from l) (append_assoc (framed_file f) (flat_map framed_file fs) (frame_mark ++ more))
          ∙ file_told f rest (length fs) last from fit.0 parts.0
          ∙ ap (λ (s : Scan). telling (file_tokens f) s) others.1
          ∙ telling_twice (file_tokens f) (flat_map file_tokens fs ++ FrameEnd ∷ []) (nothing_from others.0 more)
          ∙ ap (λ (ts : List Token). telling ts (nothing_from others.0 more)) (sym (append_assoc (file_tokens f) (flat_map file_tokens fs) (FrameEnd ∷ []))),
    )

rise_behind : (fs : List FileBytes) → AllByRecursion FitsFrame fs → paths_rise fs ≡ true → paths_rise_behind [] fs ≡ true
rise_behind [] fit rise = refl
rise_behind (f ∷ fs) fit rise = and_from (is_lt (slice_cmp nat_cmp [] f.path)) (paths_rise_behind f.path fs) (path_some f.path fit.0.path) rise

frame_parts : (entry : List ℕ) (fs : List FileBytes) (more : List ℕ) → frame entry fs ++ more
    ≡ frame_magic ++ (to_be_bytes w32 (length entry) ++ (entry ++ (to_be_bytes w32 (length fs) ++ (flat_map framed_file fs ++ (frame_mark ++ more)))))
unfolding frame
frame_parts entry fs more =
    let files = flat_map framed_file fs in
    let count = to_be_bytes w32 (length fs) in
    let size = to_be_bytes w32 (length entry) in
    append_assoc frame_magic (size ++ (entry ++ (count ++ (files ++ frame_mark)))) more
    ∙ ap (λ (l : List ℕ). frame_magic ++ l) (
    append_assoc size (entry ++ (count ++ (files ++ frame_mark))) more
    ∙ ap (λ (l : List ℕ). size ++ l) (
    append_assoc entry (count ++ (files ++ frame_mark)) more
    ∙ ap (λ (l : List ℕ). entry ++ l) (append_assoc count (files ++ frame_mark) more ∙ ap (λ (l : List ℕ). count ++ l) (append_assoc files frame_mark more))
    )
    )

-- all that a frame tells, and that nothing may stand behind it
pub frame_told : (entry : List ℕ) (fs : List FileBytes) (more : List ℕ) → HaveFrame entry fs → (place : ℕ) × (scan (frame entry fs ++ more) ≡ telling (frame_tokens entry fs) (nothing_from place more))
unfolding scan
frame_told entry fs more have =
    let behind = flat_map framed_file fs ++ (frame_mark ++ more) in
    let count = to_be_bytes w32 (length fs) in
    let files = files_told fs more [] (8 + 4 + length entry + 4) have.each (rise_behind fs have.each have.rising) in (
      files.0,
      ap (λ (l : List ℕ). magic_from 0 l) (frame_parts entry fs more)
          ∙ magic_is 0 _
          ∙ field_whole 8 0 frame_magic (to_be_bytes w32 (length entry) ++ (entry ++ (count ++ behind))) _ refl
          ∙ entry_size_is 8 _
          ∙ field_whole 4 8 (to_be_bytes w32 (length entry)) (entry ++ (count ++ behind)) _ refl
          ∙ ap (λ (n : ℕ). entry_from n 12 (entry ++ (count ++ behind))) (from_be_bytes-to_be_bytes_4 (length entry) have.entry_fits)
          ∙ entry_is (length entry) 12 _
          ∙ field_whole (length entry) 12 entry (count ++ behind) _ refl
          ∙ ap (λ (s : Scan). telling (EntryText entry ∷ []) s) (
          count_is (12 + length entry) _
          ∙ field_whole 4 (12 + length entry) count behind _ refl
          ∙ ap (λ (n : ℕ). files_from n [] (12 + length entry + 4) behind) (from_be_bytes-to_be_bytes_4 (length fs) have.count_fits)
          ∙ files.1
          ),
    )

pub frame_scan : (text entry : List ℕ) (fs : List FileBytes) → IsFrame text entry fs → scan text ≡ record { tokens = frame_tokens entry fs; ending = AtEnd }
frame_scan text entry fs is =
    let told = frame_told entry fs [] is.have in
    ap scan (is.same ∙ sym (append-nil (frame entry fs))) ∙ told.1 ∙ ap (λ (s : Scan). telling (frame_tokens entry fs) s) (nothing_is told.0 [])
    ∙ ap (λ (ts : List Token). record { tokens = ts; ending = AtEnd }) (append-nil (frame_tokens entry fs))

-- a frame has no fault
pub frame_sound : (text entry : List ℕ) (fs : List FileBytes) → IsFrame text entry fs → frame_fault text ≡ None
frame_sound text entry fs is = ap (λ (s : Scan). place_in s.ending) (frame_scan text entry fs is)

-- no frame begins another one
pub frame_alone : (text more entry others : List ℕ) (fs gs : List FileBytes) → IsFrame text entry fs → IsFrame (text ++ more) others gs → more ≡ []
frame_alone text more entry others fs gs is longer =
    let told = frame_told entry fs more is.have in
    let ends = sym (ap (λ (s : Scan). s.ending) (sym (ap (λ (l : List ℕ). scan (l ++ more)) is.same ∙ told.1 ∙ ap (λ (s : Scan). telling (frame_tokens entry fs) s) (nothing_is told.0 more)))) in
    by (eqb (length more) 0) refl (sym ends ∙ ap (λ (s : Scan). s.ending) (frame_scan (text ++ more) others gs longer))
  where
    by : (b : Bool) → eqb (length more) 0 ≡ b → cond b AtEnd (AtFault (frame_told entry fs more is.have).0) ≡ AtEnd → more ≡ []
    by true same ending = nil_from_length more (eqb-true (length more) 0 same)
    by false same ending = absurd cc

-- ---- how a frame is written

-- the four fields of a file behind one another
pub file_pushed : (f : FileBytes) (out one two three four : List ℕ) → one ≡ out ++ to_be_bytes w16 (length f.path) → two ≡ one ++ f.path → three ≡ two ++ to_be_bytes w64 (length f.bytes) → four ≡ three ++ f.bytes
    → four ≡ out ++ framed_file f
unfolding framed_file
file_pushed f out one two three four a b c d =
    let number = to_be_bytes w16 (length f.path) in
    let size = to_be_bytes w64 (length f.bytes) in
    d ∙ ap (λ (l : List ℕ). l ++ f.bytes) (c ∙ ap (λ (l : List ℕ). l ++ size) (b ∙ ap (λ (l : List ℕ). l ++ f.path) a))
    ∙ append_assoc ((out ++ number) ++ f.path) size f.bytes
    ∙ append_assoc (out ++ number) f.path (size ++ f.bytes)
    ∙ append_assoc out number (f.path ++ (size ++ f.bytes))

-- the fields of a frame behind one another
pub frame_pushed : (entry : List ℕ) (fs : List FileBytes) (none one two three four five six : List ℕ) → none ≡ [] → one ≡ none ++ frame_magic → two ≡ one ++ to_be_bytes w32 (length entry) → three ≡ two ++ entry
    → four ≡ three ++ to_be_bytes w32 (length fs) → five ≡ four ++ flat_map framed_file fs → six ≡ five ++ frame_mark → six ≡ frame entry fs
unfolding frame
frame_pushed entry fs none one two three four five six z a b c d e f =
    let size = to_be_bytes w32 (length entry) in
    let count = to_be_bytes w32 (length fs) in
    let files = flat_map framed_file fs in
    f ∙ ap (λ (l : List ℕ). l ++ frame_mark) (e ∙ ap (λ (l : List ℕ). l ++ files) (d ∙ ap (λ (l : List ℕ). l ++ count) (c ∙ ap (λ (l : List ℕ). l ++ entry) (b ∙ ap (λ (l : List ℕ). l ++ size) (a ∙ ap (λ (l : List ℕ). l ++ frame_magic) z)))))
    ∙ append_assoc ((((frame_magic ++ size) ++ entry) ++ count)) files frame_mark
    ∙ append_assoc (((frame_magic ++ size) ++ entry)) count (files ++ frame_mark)
    ∙ append_assoc (frame_magic ++ size) entry (count ++ (files ++ frame_mark))
    ∙ append_assoc frame_magic size (entry ++ (count ++ (files ++ frame_mark)))

-- ---- how long a frame is

pub length-framed_file : (f : FileBytes) → length (framed_file f) ≡ 10 + length f.path + length f.bytes
unfolding framed_file
length-framed_file f =
    let size = to_be_bytes w64 (length f.bytes) in
    omega (arith, length-append (to_be_bytes w16 (length f.path)) (f.path ++ (size ++ f.bytes)), length-append f.path (size ++ f.bytes), length-append size f.bytes)

pub length-frame : (entry : List ℕ) (fs : List FileBytes) → length (frame entry fs) ≡ 24 + length entry + length (flat_map framed_file fs)
unfolding frame
length-frame entry fs =
    let files = flat_map framed_file fs in
    let count = to_be_bytes w32 (length fs) in
    omega (arith, length-append entry (count ++ (files ++ frame_mark)), length-append files frame_mark)

-- one file more
pub length-files-push : (fs : List FileBytes) (f : FileBytes) → length (flat_map framed_file (fs ++ f ∷ [])) ≡ length (flat_map framed_file fs) + (10 + length f.path + length f.bytes)
length-files-push fs f =
    ap length (flat_map-append framed_file fs (f ∷ []) ∙ ap (λ (l : List ℕ). flat_map framed_file fs ++ l) (append-nil (framed_file f)))
    ∙ length-append (flat_map framed_file fs) (framed_file f)
    ∙ ap (λ (n : ℕ). length (flat_map framed_file fs) + n) (length-framed_file f)

-- a size that stands still at the greatest number, with one file more
pub size_more : (n size a b r p q : ℕ) → size ≡ told_place n → a ≡ told_place (size + 10) → b ≡ told_place (a + p) → r ≡ told_place (b + q) → r ≡ told_place (n + (10 + p + q))
size_more n size a b r p q is one two three = omega arith
