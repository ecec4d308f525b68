-- The place of a fault is within the bytes.
use Rattle.std.proofs.Common.{◌≡◌, ◌<◌, ◌≤◌, ◌+◌, ◌^◌, ℕ, zero, suc, Bool, true, false, cond, List, [], ◌∷◌, length, take, drop, Some, None, Err, refl, sym, ◌∙◌, ap, subst, arith, length-drop, eqb}
use Rattle.std.specs.Prelude.{map, bytes_eq, nat_lt}
use Rattle.std.specs.Int.{w16, w32, w64, from_be_bytes}
use Rattle.std.proofs.lemmas.Bool.{ltb-false, cond_both}
use Rattle.tl_file.specs.declared.file.FileBytes.{FileBytes}
use Rattle.tl_frame.specs.declared.error.FrameError.{FrameError}
use Rattle.tl_frame.specs.declared.error.FrameError.TheVariants.{BadFrame, NoMemory}
use Rattle.tl_frame.specs.Frames.{frame_magic, frame_mark, IsFrame}
use Rattle.tl_frame.specs.Scan.{FileByte, FrameEnd, ScanEnd, AtEnd, InField, AtFault, Scan, stop, telling, scan, ending_of, frame_fault, place_in, field_from, nothing_from, mark_from, content_from, size_from, is_later_path, path_from, files_from, count_from, entry_from, entry_size_from, magic_from}
use Rattle.tl_frame.specs.States.{told_place}
use Rattle.tl_frame.specs.Answers.{IsFrameErrorOf, feed_by, feed_answer, finish_by, finish_answer}
use Rattle.tl_frame.proofs.FieldLaws.{magic_is, entry_size_is, entry_is, count_is, files_is, no_files_is, path_is, size_is, mark_is, nothing_is}
use Rattle.tl_frame.proofs.FrameLaws.{frame_sound}

-- a place that bytes end with isn't behind another one
abbrev EndsWithin : ℕ → ScanEnd → Type 0
EndsWithin most AtEnd = Unit {0}
EndsWithin most (InField place) = place ≤ most
EndsWithin most (AtFault place) = place ≤ most

abbrev IsWithin : ℕ → Scan → Type 0
IsWithin most s = EndsWithin most s.ending

module _ (most : ℕ) where
  field_within : (size from : ℕ) (text : List ℕ) (go : List ℕ → List ℕ → Scan) → from + length text ≡ most → ((front rest : List ℕ) → from + size + length rest ≡ most → IsWithin most (go front rest)) → IsWithin most (field_from size from text go)
  unfolding field_from
  field_within size from text go here behind =
      cond_both (nat_lt (length text) size) (stop (InField from)) (go (take size text) (drop size text)) (IsWithin most) (λ cut. omega arith)
      (λ enough. behind (take size text) (drop size text) (omega (arith, ltb-false _ _ enough, length-drop size text)))

  bytes_within : (left from : ℕ) (text : List ℕ) (go : List ℕ → Scan) → from + length text ≡ most → ((rest : List ℕ) → from + left + length rest ≡ most → IsWithin most (go rest)) → IsWithin most (content_from left from text go)
  unfolding content_from
  bytes_within left from text go here behind =
      cond_both (nat_lt (length text) left) (record { tokens = map FileByte text; ending = InField from }) (telling (map FileByte (take left text)) (go (drop left text))) (IsWithin most) (λ cut. omega arith)
      (λ enough. behind (drop left text) (omega (arith, ltb-false _ _ enough, length-drop left text)))

  nothing_within : (from : ℕ) (text : List ℕ) → from + length text ≡ most → IsWithin most (nothing_from from text)
  nothing_within from text here = subst (IsWithin most) (sym (nothing_is from text)) (by (eqb (length text) 0))
    where
      by : (b : Bool) → IsWithin most (stop (cond b AtEnd (AtFault from)))
      by true = tt
      by false = omega arith

  test_within : (b : Bool) (x : Scan) (from : ℕ) → from ≤ most → IsWithin most x → IsWithin most (cond b x (stop (AtFault from)))
  test_within true x from here there = there
  test_within false x from here there = here

  mark_within : (from : ℕ) (text : List ℕ) → from + length text ≡ most → IsWithin most (mark_from from text)
  mark_within from text here = subst (IsWithin most) (sym (mark_is from text)) (field_within 8 from text _ here (λ mark rest there.
      test_within (bytes_eq mark frame_mark) (telling (FrameEnd ∷ []) (nothing_from (from + 8) rest)) from (omega arith) (nothing_within (from + 8) rest there)))

  size_within : (path : List ℕ) (from : ℕ) (text : List ℕ) (go : List ℕ → ℕ → List ℕ → Scan) → from + length text ≡ most → ((place : ℕ) (rest : List ℕ) → place + length rest ≡ most → IsWithin most (go path place rest)) → IsWithin most (size_from path from text go)
  size_within path from text go here behind = subst (IsWithin most) (sym (size_is path from text go)) (field_within 8 from text _ here (λ size rest there.
      bytes_within (from_be_bytes w64 size) (from + 8) rest (go path (from + 8 + from_be_bytes w64 size)) there (λ more then. behind (from + 8 + from_be_bytes w64 size) more then)))

  path_within : (size : ℕ) (last : List ℕ) (from : ℕ) (text : List ℕ) (go : List ℕ → ℕ → List ℕ → Scan) → from + length text ≡ most → ((path : List ℕ) (place : ℕ) (rest : List ℕ) → place + length rest ≡ most → IsWithin most (go path place rest)) → IsWithin most (path_from size last from text go)
  path_within size last from text go here behind = subst (IsWithin most) (sym (path_is size last from text go))
      (cond_both (nat_lt 1024 size) (stop (AtFault from)) (field_from size from text (λ name rest. cond (is_later_path last name) (size_from name (from + size) rest go) (stop (AtFault from)))) (IsWithin most) (λ long. omega arith) (λ short.
      field_within size from text _ here (λ name rest there.
      test_within (is_later_path last name) (size_from name (from + size) rest go) from (omega arith) (size_within name (from + size) rest go there (behind name)))))

  files_within : (count : ℕ) (last : List ℕ) (from : ℕ) (text : List ℕ) → from + length text ≡ most → IsWithin most (files_from count last from text)
  files_within zero last from text here = subst (IsWithin most) (sym (no_files_is last from text)) (mark_within from text here)
  files_within (suc count) last from text here = subst (IsWithin most) (sym (files_is count last from text)) (field_within 2 from text _ here (λ size rest there.
      path_within (from_be_bytes w16 size) last (from + 2) rest (files_from count) there (λ path place more then. files_within count path place more then)))

  count_within : (from : ℕ) (text : List ℕ) → from + length text ≡ most → IsWithin most (count_from from text)
  count_within from text here = subst (IsWithin most) (sym (count_is from text)) (field_within 4 from text _ here (λ count rest there. files_within (from_be_bytes w32 count) [] (from + 4) rest there))

  entry_within : (size from : ℕ) (text : List ℕ) → from + length text ≡ most → IsWithin most (entry_from size from text)
  entry_within size from text here = subst (IsWithin most) (sym (entry_is size from text)) (field_within size from text _ here (λ entry rest there. count_within (from + size) rest there))

  entry_size_within : (from : ℕ) (text : List ℕ) → from + length text ≡ most → IsWithin most (entry_size_from from text)
  entry_size_within from text here = subst (IsWithin most) (sym (entry_size_is from text)) (field_within 4 from text _ here (λ size rest there. entry_within (from_be_bytes w32 size) (from + 4) rest there))

  magic_within : (from : ℕ) (text : List ℕ) → from + length text ≡ most → IsWithin most (magic_from from text)
  magic_within from text here = subst (IsWithin most) (sym (magic_is from text)) (field_within 8 from text _ here (λ magic rest there.
      test_within (bytes_eq magic frame_magic) (entry_size_from (from + 8) rest) from (omega arith) (entry_size_within (from + 8) rest there)))

scan_within : (text : List ℕ) → IsWithin (length text) (scan text)
unfolding scan
scan_within text = magic_within (length text) 0 text (omega arith)

-- the place of a fault is within the bytes, or at their end
pub fault_within : (text : List ℕ) (place : ℕ) → frame_fault text ≡ Some place → place ≤ length text
fault_within text place is = by (ending_of text) (scan_within text) is
  where
    by : (e : ScanEnd) → EndsWithin (length text) e → place_in e ≡ Some place → place ≤ length text
    by AtEnd within is = absurd cc
    by (InField p) within is = let same : p ≡ place = cc in subst (λ (n : ℕ). n ≤ length text) same within
    by (AtFault p) within is = let same : p ≡ place = cc in subst (λ (n : ℕ). n ≤ length text) same within

-- ---- the errors of a reader to which all the bytes have come

placed : (text : List ℕ) (place at : ℕ) → length text < 2 ^ 64 → frame_fault text ≡ Some place → told_place place ≡ at → frame_fault text ≡ Some at
placed text place at small is told =
    let within = fault_within text place is in
    let same : place ≡ at = omega (arith, within, small, told) in
    is ∙ ap (λ (n : ℕ). Some n) same

of_place : (text : List ℕ) (place : ℕ) (e : FrameError) → length text < 2 ^ 64 → frame_fault text ≡ Some place → BadFrame (told_place place) ≡ e → IsFrameErrorOf text e
of_place text place NoMemory small is same = tt
of_place text place (BadFrame at) small is same = placed text place at small is cc

pub fed_error : (spent : Bool) (text : List ℕ) (e : FrameError) → length text < 2 ^ 64 → feed_answer spent text ≡ Err e → IsFrameErrorOf text e
fed_error true text e small is = let same : NoMemory ≡ e = cc in subst (IsFrameErrorOf text) same tt
fed_error false text e small is = by (ending_of text) refl is
  where
    by : (ending : ScanEnd) → ending_of text ≡ ending → feed_by ending ≡ Err e → IsFrameErrorOf text e
    by AtEnd same is = absurd cc
    by (InField place) same is = absurd cc
    by (AtFault place) same is = of_place text place e small (ap place_in same) cc

pub finished_error : (spent : Bool) (text : List ℕ) (e : FrameError) → length text < 2 ^ 64 → finish_answer spent text ≡ Err e → IsFrameErrorOf text e
finished_error true text e small is = let same : NoMemory ≡ e = cc in subst (IsFrameErrorOf text) same tt
finished_error false text e small is = by (ending_of text) refl is
  where
    by : (ending : ScanEnd) → ending_of text ≡ ending → finish_by ending ≡ Err e → IsFrameErrorOf text e
    by AtEnd same is = absurd cc
    by (InField place) same is = of_place text place e small (ap place_in same) cc
    by (AtFault place) same is = of_place text place e small (ap place_in same) cc

-- a frame is refused for want of memory alone
pub frame_error : (text entry : List ℕ) (files : List FileBytes) (e : FrameError) → IsFrame text entry files → IsFrameErrorOf text e → e ≡ NoMemory
frame_error text entry files NoMemory is error = refl
frame_error text entry files (BadFrame at) is error = let none : None ≡ Some at = sym (frame_sound text entry files is) ∙ error in absurd cc
