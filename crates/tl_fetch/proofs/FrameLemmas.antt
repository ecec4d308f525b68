-- What has come of a container that is a frame.
use Rattle.std.proofs.Common.{◌≡◌, ◌≢◌, ◌<◌, ◌≤◌, ◌+◌, ◌-◌, ◌^◌, ◌⊎◌, ℕ, zero, suc, Bool, true, false, cond, not, List, [], ◌∷◌, ◌++◌, length, drop, Option, Some, None, Result, Ok, Err, refl, sym, ◌∙◌, ap, subst, arith, append_assoc, inl, inr, length-drop}
use Rattle.std.specs.Prelude.{◌==◌, ◌&&◌, ◌||◌, map, fold, bytes_eq, nat_le}
use Rattle.std.specs.List.{flat_map}
use Rattle.std.proofs.lemmas.Bool.{and_parts, and_from, true≢false, cases_Bool, leb-true, le-leb}
use Rattle.std.proofs.lemmas.List.{append-nil}
use Rattle.std.proofs.lemmas.List.Sums.{fold-append}
use Rattle.std.proofs.lemmas.Slice.Eq.{bytes_eq-Decides}
use Rattle.std.proofs.Math.ListN.{drop_of_length-le}
use Rattle.sha2.specs.Sha512.{sha512}
use Rattle.tl_model.specs.Seen.{Told}
use Rattle.tl_model.specs.Volume.{Name, Names}
use Rattle.tl_file.specs.declared.file.FileBytes.{FileBytes}
use Rattle.tl_entry.specs.Copies.{less_containers}
use Rattle.tl_entry.specs.declared.object.Object.{Object}
use Rattle.tl_frame.specs.Events.{with_tokens}
use Rattle.tl_frame.specs.Frames.{IsFrame}
use Rattle.tl_frame.specs.Scan.{Token, EntryText, FileHead, FileByte, FrameEnd, frame_fault, frame_tokens, file_tokens, tokens_of}
use Rattle.tl_frame.specs.States.{IsWhole}
use Rattle.tl_frame.proofs.FrameLaws.{frame_sound}
use Rattle.tl_frame.proofs.GatherLaws.{with_tokens-frame}
use Rattle.tl_fetch.specs.Containers.{part_paths}
use Rattle.tl_fetch.specs.Sinks.{SinkSeen, behind_last}
use Rattle.tl_fetch.specs.Unpacked.{Unpacked, Follows, awaiting, heads, with_head, unpacked, unpacked_by, reads_as, less_paths}
use Rattle.tl_fetch.specs.Fetching.{HasTaken, are_same, digested, files_of_part, files_under, following, path_and_bytes, unframed_by}
use Rattle.tl_fetch.specs.declared.container.ContainerPart.{ContainerPart}
use Rattle.tl_fetch.specs.declared.fetch_error.FetchError.{FetchError}
use Rattle.tl_fetch.specs.declared.fetch_error.FetchError.TheVariants.{BadFrame, FrameEntry, DigestDiffers}
use Rattle.tl_fetch.specs.declared.unpacking.Unpacking.{Unpacking}
use Rattle.tl_fetch.proofs.UnpackLemmas.{with_content, bytes_are}

abbrev path_in : FileBytes → Name
path_in file = file.path

-- ---- what is wrong stays wrong

wrong_by : (entry : Object) (s : Unpacked) (t : Token) → s.wrong ≡ true → (unpacked_by entry s t).wrong ≡ true
wrong_by entry s (EntryText text) is = by (reads_as text entry)
  where
    by : (b : Bool) → (cond b s (record s { wrong = true })).wrong ≡ true
    by true = is
    by false = refl
wrong_by entry s (FileHead path size) is =
    ap (λ (b : Bool). (cond (not b && heads path s.left) (record { wrong = false; left = drop 1 s.left; lacks = size; files = s.files ++ (path, []) ∷ [] }) (record s { wrong = true; lacks = size })).wrong) is
wrong_by entry s (FileByte byte) is = is
wrong_by entry s FrameEnd is = is

pub wrong_stays : (entry : Object) (s : Unpacked) (tokens : List Token) → s.wrong ≡ true → (unpacked entry s tokens).wrong ≡ true
wrong_stays entry s [] is = is
wrong_stays entry s (t ∷ tokens) is = wrong_stays entry (unpacked_by entry s t) tokens (wrong_by entry s t is)

-- ---- the files of a frame

-- files came, each as it had to
record Came (files : List FileBytes) (s t : Unpacked) : Type 0 where
  right : t.wrong ≡ false
  lacks : t.lacks ≡ 0
  left : map path_in files ++ t.left ≡ s.left
  held : t.files ≡ s.files ++ map path_and_bytes files

-- some file came that didn't have to
record Strayed (files : List FileBytes) (s t : Unpacked) : Type 0 where
  wrong : t.wrong ≡ true
  other : are_same (map path_in files) s.left ≡ false

with_head-next : (path : Name) (size : ℕ) (s : Unpacked) → s.wrong ≡ false → heads path s.left ≡ true → with_head path size s ≡ record { wrong = false; left = drop 1 s.left; lacks = size; files = s.files ++ (path, []) ∷ [] }
with_head-next path size s right is =
    ap (λ (b : Bool). cond b (record { wrong = false; left = drop 1 s.left; lacks = size; files = s.files ++ (path, []) ∷ [] }) (record s { wrong = true; lacks = size })) (and_from (not s.wrong) (heads path s.left) (ap not right) is)

with_head-other : (path : Name) (size : ℕ) (s : Unpacked) → s.wrong ≡ false → heads path s.left ≡ false → with_head path size s ≡ record s { wrong = true; lacks = size }
with_head-other path size s right is =
    ap (λ (b : Bool). cond (not b && heads path s.left) (record { wrong = false; left = drop 1 s.left; lacks = size; files = s.files ++ (path, []) ∷ [] }) (record s { wrong = true; lacks = size })) right
    ∙ ap (λ (b : Bool). cond b (record { wrong = false; left = drop 1 s.left; lacks = size; files = s.files ++ (path, []) ∷ [] }) (record s { wrong = true; lacks = size })) is

other_same : (path : Name) (paths left : List Name) → heads path left ≡ false → are_same (path ∷ paths) left ≡ false
other_same path paths [] is = refl
other_same path paths (next ∷ left) is = ap (λ (b : Bool). b && are_same paths left) is

later_same : (path : Name) (paths left : List Name) → are_same paths (drop 1 left) ≡ false → are_same (path ∷ paths) left ≡ false
later_same path paths [] is = refl
later_same path paths (next ∷ left) is = by (bytes_eq path next)
  where
    by : (b : Bool) → (b && are_same paths left) ≡ false
    by true = is
    by false = refl

next_first : (path : Name) (left : List Name) → heads path left ≡ true → path ∷ drop 1 left ≡ left
next_first path [] is = absurd (cc)
next_first path (next ∷ left) is = ap (λ (n : Name). n ∷ left) ((bytes_eq-Decides path next).0 is)

pushed : (files : List (Name × List ℕ)) (path : Name) (bytes : List ℕ) → behind_last bytes (files ++ (path, []) ∷ []) ≡ files ++ (path, bytes) ∷ []
pushed [] path bytes = refl
pushed (f ∷ []) path bytes = refl
pushed (f ∷ g ∷ fs) path bytes = ap (λ (l : List (Name × List ℕ)). f ∷ l) (pushed (g ∷ fs) path bytes)

-- one file, as it has to come
file_came : (entry : Object) (s : Unpacked) (f : FileBytes) → s.wrong ≡ false → heads f.path s.left ≡ true
    → unpacked entry s (file_tokens f) ≡ record { wrong = false; left = drop 1 s.left; lacks = 0; files = s.files ++ (f.path, f.bytes) ∷ [] }
unfolding with_content
file_came entry s f right is =
    ap (λ (t : Unpacked). unpacked entry t (map FileByte f.bytes)) (with_head-next f.path (length f.bytes) s right is)
    ∙ bytes_are entry (record { wrong = false; left = drop 1 s.left; lacks = length f.bytes; files = s.files ++ (f.path, []) ∷ [] }) f.bytes
    ∙ ap (λ (n : ℕ). record { wrong = false; left = drop 1 s.left; lacks = n; files = behind_last f.bytes (s.files ++ (f.path, []) ∷ []) }) (omega arith)
    ∙ ap (λ (l : List (Name × List ℕ)). record { wrong = false; left = drop 1 s.left; lacks = 0; files = l }) (pushed s.files f.path f.bytes)

files_unpacked : (entry : Object) (files : List FileBytes) (s : Unpacked) → s.wrong ≡ false → s.lacks ≡ 0
    → Came files s (unpacked entry s (flat_map file_tokens files ++ FrameEnd ∷ [])) ⊎ Strayed files s (unpacked entry s (flat_map file_tokens files ++ FrameEnd ∷ []))
files_unpacked entry [] s right none = inl (record { right = right; lacks = none; left = refl; held = sym (append-nil s.files) })
files_unpacked entry (f ∷ files) s right none = elim (cases_Bool (heads f.path s.left)) [
  | inl is ↦
      let next : Unpacked = record { wrong = false; left = drop 1 s.left; lacks = 0; files = s.files ++ (f.path, f.bytes) ∷ [] } in
      let rest = flat_map file_tokens files ++ FrameEnd ∷ [] in
      let goes : unpacked entry s (flat_map file_tokens (f ∷ files) ++ FrameEnd ∷ []) ≡ unpacked entry next rest =
      ap (unpacked entry s) (append_assoc (file_tokens f) (flat_map file_tokens files) (FrameEnd ∷ []))
      ∙ fold-append (unpacked_by entry) s (file_tokens f) rest ∙ ap (λ (t : Unpacked). unpacked entry t rest) (file_came entry s f right is) in
      elim (files_unpacked entry files next refl refl) [
        | inl came ↦ inl (subst (λ (t : Unpacked). Came (f ∷ files) s t) (sym goes) (record {
          right = came.right;
          lacks = came.lacks;
          left = ap (λ (l : List Name). f.path ∷ l) came.left ∙ next_first f.path s.left is;
          held = came.held ∙ append_assoc s.files ((f.path, f.bytes) ∷ []) (map path_and_bytes files);
        }))
        | inr strayed ↦ inr (subst (λ (t : Unpacked). Strayed (f ∷ files) s t) (sym goes) (record {
          wrong = strayed.wrong;
          other = later_same f.path (map path_in files) s.left strayed.other;
        }))
      ]
  | inr is ↦ inr (record {
    wrong = wrong_stays entry (unpacked_by entry s (FileHead f.path (length f.bytes))) ((map FileByte f.bytes ++ flat_map file_tokens files) ++ FrameEnd ∷ []) (ap (λ (t : Unpacked). t.wrong) (with_head-other f.path (length f.bytes) s right is));
    other = other_same f.path (map path_in files) s.left is;
  })
]

same_all : (paths : List Name) → are_same paths paths ≡ true
same_all [] = refl
same_all (p ∷ paths) = and_from (bytes_eq p p) (are_same paths paths) ((bytes_eq-Decides p p).1 refl) (same_all paths)

same_is : (xs ys : List Name) → are_same xs ys ≡ true → xs ≡ ys
same_is [] [] is = refl
same_is [] (y ∷ ys) is = absurd (cc)
same_is (x ∷ xs) [] is = absurd (cc)
same_is (x ∷ xs) (y ∷ ys) is =
    let both = and_parts (bytes_eq x y) (are_same xs ys) is in
    ap (λ (n : Name). n ∷ xs) ((bytes_eq-Decides x y).0 both.0) ∙ ap (λ (l : List Name). y ∷ l) (same_is xs ys both.1)

some_left : (xs left : List Name) → xs ++ left ≡ xs → left ≡ []
some_left [] left is = is
some_left (x ∷ xs) left is = some_left xs left (ap (drop 1) is)

-- a frame that holds what it has to
pub record IsRight (entry : Object) (paths : List Name) (text : List ℕ) (files : List FileBytes) (t : Unpacked) : Type 0 where
  pub same : (reads_as text entry && are_same (map path_in files) paths) ≡ true
  pub held : t.files ≡ map path_and_bytes files
  pub lacks : t.lacks ≡ 0

-- all came, and nothing was wrong
pub right_frame : (entry : Object) (paths : List Name) (text : List ℕ) (files : List FileBytes) → (unpacked entry (awaiting paths) (frame_tokens text files)).wrong ≡ false → (unpacked entry (awaiting paths) (frame_tokens text files)).left ≡ []
    → IsRight entry paths text files (unpacked entry (awaiting paths) (frame_tokens text files))
right_frame entry paths text files right none = elim (cases_Bool (reads_as text entry)) [
  | inl reads ↦
      let goes : unpacked_by entry (awaiting paths) (EntryText text) ≡ awaiting paths = ap (λ (b : Bool). cond b (awaiting paths) (record (awaiting paths) { wrong = true })) reads in
      let rest = flat_map file_tokens files ++ FrameEnd ∷ [] in
      let same : unpacked entry (awaiting paths) (frame_tokens text files) ≡ unpacked entry (awaiting paths) rest = ap (λ (t : Unpacked). unpacked entry t rest) goes in
      elim (files_unpacked entry files (awaiting paths) refl refl) [
        | inl came ↦
            let all : map path_in files ≡ paths = sym (append-nil (map path_in files)) ∙ ap (λ (l : List Name). map path_in files ++ l) (sym none ∙ ap (λ (t : Unpacked). t.left) same) ∙ came.left in
            record {
              same = and_from (reads_as text entry) (are_same (map path_in files) paths) reads (subst (λ (l : List Name). are_same (map path_in files) l ≡ true) all (same_all (map path_in files)));
              held = ap (λ (t : Unpacked). t.files) same ∙ came.held;
              lacks = ap (λ (t : Unpacked). t.lacks) same ∙ came.lacks;
            }
        | inr strayed ↦ absurd (true≢false (sym strayed.wrong ∙ sym (ap (λ (t : Unpacked). t.wrong) same) ∙ right))
      ]
  | inr other ↦
      let wrong : (unpacked_by entry (awaiting paths) (EntryText text)).wrong ≡ true = ap (λ (b : Bool). (cond b (awaiting paths) (record (awaiting paths) { wrong = true })).wrong) other in
      absurd (true≢false (sym (wrong_stays entry (unpacked_by entry (awaiting paths) (EntryText text)) (flat_map file_tokens files ++ FrameEnd ∷ []) wrong) ∙ right))
]

-- something was wrong, or not all came
pub other_frame : (entry : Object) (paths : List Name) (text : List ℕ) (files : List FileBytes) → ((unpacked entry (awaiting paths) (frame_tokens text files)).wrong ≡ false → (unpacked entry (awaiting paths) (frame_tokens text files)).left ≡ [] → ⊥)
    → (reads_as text entry && are_same (map path_in files) paths) ≡ false
other_frame entry paths text files never = elim (cases_Bool (reads_as text entry && are_same (map path_in files) paths)) [
  | inr differs ↦ differs
  | inl is ↦
      let both = and_parts (reads_as text entry) (are_same (map path_in files) paths) is in
      let goes : unpacked_by entry (awaiting paths) (EntryText text) ≡ awaiting paths = ap (λ (b : Bool). cond b (awaiting paths) (record (awaiting paths) { wrong = true })) both.0 in
      let rest = flat_map file_tokens files ++ FrameEnd ∷ [] in
      let same : unpacked entry (awaiting paths) (frame_tokens text files) ≡ unpacked entry (awaiting paths) rest = ap (λ (t : Unpacked). unpacked entry t rest) goes in
      elim (files_unpacked entry files (awaiting paths) refl refl) [
        | inl came ↦
            let all : map path_in files ≡ paths = same_is (map path_in files) paths both.1 in
            absurd (never (ap (λ (t : Unpacked). t.wrong) same ∙ came.right)
            (ap (λ (t : Unpacked). t.left) same ∙ some_left (map path_in files) (unpacked entry (awaiting paths) rest).left (came.left ∙ sym all)))
        | inr strayed ↦ absurd (true≢false (sym both.1 ∙ strayed.other))
      ]
]

unwrong : (b : Bool) → not b ≡ true → b ≡ false
unwrong true is = absurd (true≢false (sym is))
unwrong false is = refl

-- ---- how a container ends whose bytes have all come

module _ (name : Name) (want : List ℕ) (entry : Object) (part : ContainerPart) (bytes : List ℕ) (digest : bytes_eq (sha512 bytes) want ≡ true) where
  under_right : files_under name want entry part bytes ≡ following (unframed_by (frame_fault bytes) bytes) (files_of_part entry part)
  under_right =
      ap (λ (b : Bool). following (cond b (Ok bytes) (Err (DigestDiffers name want (sha512 bytes)))) (λ (l : List ℕ). following (unframed_by (frame_fault l) l) (files_of_part entry part))) digest

  pub under_bad : (place : ℕ) → frame_fault bytes ≡ Some place → files_under name want entry part bytes ≡ Err (BadFrame place)
  under_bad place is = under_right ∙ ap (λ (o : Option ℕ). following (unframed_by o bytes) (files_of_part entry part)) is

  -- the frame's parts decide
  under_frame : (whole : IsWhole bytes) → files_under name want entry part bytes ≡ files_of_part entry part (whole.entry, whole.files)
  under_frame whole =
      under_right ∙ ap (λ (o : Option ℕ). following (unframed_by o bytes) (files_of_part entry part)) (frame_sound bytes whole.entry whole.files whole.is)
      ∙ ap (files_of_part entry part) (ap (with_tokens ([], [])) whole.told ∙ with_tokens-frame whole.entry whole.files)

  module _ (tells : Bool) (first now : SinkSeen) (u : Unpacking) (whole : IsWhole bytes)
      (f : Follows tells (less_containers entry) first now u (unpacked (less_containers entry) (awaiting (part_paths entry part)) (tokens_of bytes))) where
    in_frame : Follows tells (less_containers entry) first now u (unpacked (less_containers entry) (awaiting (part_paths entry part)) (frame_tokens whole.entry whole.files))
    in_frame = subst (λ (l : List Token). Follows tells (less_containers entry) first now u (unpacked (less_containers entry) (awaiting (part_paths entry part)) l)) whole.told f

    pub under_whole : (not u.is_wrong && nat_le (length u.paths.items) u.place) ≡ true → (files : List (Name × List ℕ)) × (files_under name want entry part bytes ≡ Ok files) × HasTaken tells first now files
    under_whole all =
        let g = in_frame in
        let right = unwrong u.is_wrong (and_parts (not u.is_wrong) (nat_le (length u.paths.items) u.place) all).0 in
        let enough = leb-true (length u.paths.items) u.place (and_parts (not u.is_wrong) (nat_le (length u.paths.items) u.place) all).1 in
        let less = less_containers entry in
        let paths = part_paths entry part in
        let is = right_frame less paths whole.entry whole.files (sym g.wrong ∙ right) (sym g.left ∙ drop_of_length-le u.paths.items enough) in
        let files = map path_and_bytes whole.files in (
          files,
          under_frame whole ∙ ap (λ (b : Bool). cond b (Ok files) (Err (FrameEntry entry.name))) is.same,
          record {
            lacks = g.lacks (sym g.wrong ∙ right) ∙ is.lacks;
            takes = g.takes ∙ ap (less_paths first.takes) is.held;
            given = λ t. g.given t ∙ ap (λ (l : List (Name × List ℕ)). first.given ++ l) is.held;
          },
        )

    pub under_other : (not u.is_wrong && nat_le (length u.paths.items) u.place) ≡ false → files_under name want entry part bytes ≡ Err (FrameEntry entry.name)
    under_other other =
        let g = in_frame in
        let less = less_containers entry in
        let paths = part_paths entry part in
        let files = map path_and_bytes whole.files in
        let differs = other_frame less paths whole.entry whole.files (λ right none. true≢false (sym (and_from (not u.is_wrong) (nat_le (length u.paths.items) u.place) (ap not (g.wrong ∙ right)) (le-leb (length u.paths.items) u.place (short u.place u.paths.items (g.left ∙ none)))) ∙ other)) in
        under_frame whole ∙ ap (λ (b : Bool). cond b (Ok files) (Err (FrameEntry entry.name))) differs
      where
        short : (n : ℕ) (xs : List Name) → drop n xs ≡ [] → length xs ≤ n
        short n xs is = omega (arith, length-drop n xs, ap length is)
