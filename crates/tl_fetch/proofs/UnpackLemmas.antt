-- What has come of a container follows the sink that it went to.
use Rattle.std.proofs.Common.{◌≡◌, ◌≢◌, ◌<◌, ◌≤◌, ◌+◌, ◌-◌, ◌⊎◌, ℕ, zero, suc, Bool, true, false, cond, not, List, [], ◌∷◌, ◌++◌, length, take, drop, refl, sym, ◌∙◌, ap, subst, arith, append_assoc, inl, inr}
use Rattle.std.specs.Prelude.{◌==◌, ◌&&◌, ◌||◌, map, fold, bytes_eq}
use Rattle.std.specs.FinSet as set
use Rattle.std.specs.Ordering.{nat_cmp}
use Rattle.std.specs.Cmp.Lexicographic.{slice_cmp, nat_list_cmp_total}
use Rattle.std.proofs.lemmas.Bool.{and_parts, and_from, true≢false, cases_Bool}
use Rattle.std.proofs.lemmas.List.{append-nil, drop-drop}
use Rattle.std.proofs.lemmas.List.Sums.{fold-append}
use Rattle.std.proofs.lemmas.Slice.Eq.{bytes_eq-Decides}
use Rattle.tl_model.specs.Seen.{Told}
use Rattle.tl_model.specs.Volume.{Name, Names, same_name, same_name-is, same_name-refl}
use Rattle.tl_entry.specs.Rising.{has_key, is_rising, is_rising_after}
use Rattle.tl_entry.specs.declared.object.Object.{Object}
use Rattle.tl_entry.proofs.SetLemmas.{none_again}
use Rattle.tl_object.specs.Writing.{object_text}
use Rattle.tl_frame.specs.Scan.{Token, EntryText, FileHead, FileByte, FrameEnd}
use Rattle.tl_fetch.specs.Sinks.{SinkSeen, IsAwaited, HasBegun, HasBrought, IsOpen, behind_last}
use Rattle.tl_fetch.specs.Unpacked.{Unpacked, Follows, IsFresh, awaiting, heads, with_head, unpacked, unpacked_by, reads_as, paths_in, less_paths}
use Rattle.tl_fetch.specs.declared.unpacking.Unpacking.{Unpacking}

-- ---- files

behind_last-none : (files : List (Name × List ℕ)) → behind_last [] files ≡ files
behind_last-none [] = refl
behind_last-none (f ∷ []) = ap (λ (l : List ℕ). (f.0, l) ∷ []) (append-nil f.1)
behind_last-none (f ∷ g ∷ fs) = ap (λ (l : List (Name × List ℕ)). f ∷ l) (behind_last-none (g ∷ fs))

behind_last-twice : (files : List (Name × List ℕ)) (xs ys : List ℕ) → behind_last ys (behind_last xs files) ≡ behind_last (xs ++ ys) files
behind_last-twice [] xs ys = refl
behind_last-twice (f ∷ []) xs ys = ap (λ (l : List ℕ). (f.0, l) ∷ []) (append_assoc f.1 xs ys)
behind_last-twice (f ∷ g ∷ []) xs ys = ap (λ (l : List ℕ). f ∷ (g.0, l) ∷ []) (append_assoc g.1 xs ys)
behind_last-twice (f ∷ g ∷ h ∷ fs) xs ys = ap (λ (l : List (Name × List ℕ)). f ∷ l) (behind_last-twice (g ∷ h ∷ fs) xs ys)

-- bytes go to the last of the later files, where there are any
behind_last-append : (first : List (Name × List ℕ)) (g : Name × List ℕ) (more : List (Name × List ℕ)) (bytes : List ℕ) → behind_last bytes (first ++ g ∷ more) ≡ first ++ behind_last bytes (g ∷ more)
behind_last-append [] g more bytes = refl
behind_last-append (f ∷ []) g more bytes = refl
behind_last-append (f ∷ h ∷ first) g more bytes = ap (λ (l : List (Name × List ℕ)). f ∷ l) (behind_last-append (h ∷ first) g more bytes)

pub behind_last-later : (first files : List (Name × List ℕ)) (bytes : List ℕ) → (files ≡ [] → bytes ≡ []) → behind_last bytes (first ++ files) ≡ first ++ behind_last bytes files
behind_last-later first [] bytes none =
    ap (λ (l : List ℕ). behind_last l (first ++ [])) (none refl) ∙ behind_last-none (first ++ [])
behind_last-later first (g ∷ more) bytes none = behind_last-append first g more bytes

paths_in-behind_last : (files : List (Name × List ℕ)) (bytes : List ℕ) → paths_in (behind_last bytes files) ≡ paths_in files
paths_in-behind_last [] bytes = refl
paths_in-behind_last (f ∷ []) bytes = refl
paths_in-behind_last (f ∷ g ∷ fs) bytes = ap (λ (l : List Name). f.0 ∷ l) (paths_in-behind_last (g ∷ fs) bytes)

paths_in-push : (files : List (Name × List ℕ)) (path : Name) → paths_in (files ++ (path, []) ∷ []) ≡ paths_in files ++ path ∷ []
paths_in-push [] path = refl
paths_in-push (f ∷ fs) path = ap (λ (l : List Name). f.0 ∷ l) (paths_in-push fs path)

less_paths-push : (takes : Names) (files : List (Name × List ℕ)) (path : Name) → less_paths takes (files ++ (path, []) ∷ []) ≡ set.remove (less_paths takes files) path
less_paths-push takes files path =
    ap (λ (l : List Name). fold set.remove takes l) (paths_in-push files path) ∙ fold-append set.remove takes (paths_in files) (path ∷ [])

behind_last-some : (files : List (Name × List ℕ)) (bytes : List ℕ) → behind_last bytes files ≡ [] → files ≡ []
behind_last-some [] bytes is = refl
behind_last-some (f ∷ []) bytes is = absurd (cc)
behind_last-some (f ∷ g ∷ fs) bytes is = absurd (cc)

pushed_some : {A : Type 0} (files : List A) (f : A) → files ++ f ∷ [] ≡ [] → ⊥
pushed_some [] f is = absurd (cc)
pushed_some (g ∷ files) f is = absurd (cc)

-- ---- a file begins

-- the paths that come behind the next one
tail_up : (path : Name) (left : List Name) → is_rising (λ p. p) left ≡ true → heads path left ≡ true → is_rising (λ p. p) (drop 1 left) ≡ true
tail_up path [] up is = refl
tail_up path (next ∷ []) up is = refl
tail_up path (next ∷ more ∷ left) up is = (and_parts _ _ up).1

-- none of them is the next one, and each of them was to come
behind_next : (path : Name) (left : List Name) (other : Name) → is_rising (λ p. p) left ≡ true → heads path left ≡ true → has_key (λ p. p) other (drop 1 left) ≡ true → (same_name other path ≡ false) × (has_key (λ p. p) other left ≡ true)
behind_next path [] other up is has = absurd (cc)
behind_next path (next ∷ left) other up is has = (apart, later)
  where
    apart : same_name other path ≡ false
    apart = elim (cases_Bool (same_name other path)) [
      | inl same ↦
          let other_is : other ≡ path = same_name-is other path same in
          let next_is : path ≡ next = (bytes_eq-Decides path next).0 is in
          let again : has_key (λ p. p) next left ≡ true = subst (λ (n : Name). has_key (λ p. p) n left ≡ true) (other_is ∙ next_is) has in
          absurd (true≢false (sym again ∙ none_again next left up))
      | inr differs ↦ differs
    ]

    later : has_key (λ p. p) other (next ∷ left) ≡ true
    later = elim (cases_Bool (same_name next other)) [
      | inl same ↦ ap (λ (b : Bool). b || has_key (λ p. p) other left) same
      | inr differs ↦ ap (λ (b : Bool). b || has_key (λ p. p) other left) differs ∙ has
    ]

module _ (tells : Bool) (entry : Object) (first now : SinkSeen) (u : Unpacking) (s : Unpacked) (f : Follows tells entry first now u s) (path : Name) (size : ℕ) where
  -- another file had to come, or something was wrong before
  pub head_refused : (not s.wrong && heads path s.left) ≡ false → Follows tells entry first now (record u { is_wrong = true }) (with_head path size s)
  head_refused other =
      subst (λ (t : Unpacked). Follows tells entry first now (record u { is_wrong = true }) t)
      (sym (ap (λ (b : Bool). cond b (record { wrong = false; left = drop 1 s.left; lacks = size; files = s.files ++ (path, []) ∷ [] }) (record s { wrong = true; lacks = size })) other))
      (record {
        text = f.text;
        wrong = refl;
        left = f.left;
        lacks = λ never. absurd (true≢false never);
        unbegun = λ never _. absurd (true≢false never);
        takes = f.takes;
        given = f.given;
        awaited = f.awaited;
        rising = f.rising;
      })

  -- it is the next one, and the sink began it
  pub head_taken : (new : SinkSeen) → s.wrong ≡ false → heads path s.left ≡ true → HasBegun path size now new → Told tells (new.given ≡ now.given ++ (path, []) ∷ [])
      → Follows tells entry first new (record u { place = u.place + 1 }) (with_head path size s)
  head_taken new right is begun given =
      subst (λ (t : Unpacked). Follows tells entry first new (record u { place = u.place + 1 }) t)
      (sym (ap (λ (b : Bool). cond b (record { wrong = false; left = drop 1 s.left; lacks = size; files = s.files ++ (path, []) ∷ [] }) (record s { wrong = true; lacks = size }))
      (and_from (not s.wrong) (heads path s.left) (ap not right) is)))
      (record {
        text = f.text;
        wrong = f.wrong ∙ right;
        left = sym (drop-drop 1 u.place u.paths.items) ∙ ap (drop 1) f.left;
        lacks = λ _. begun.lacks;
        unbegun = λ _ none. absurd (pushed_some s.files (path, []) none);
        takes = begun.takes ∙ ap (λ (t : Names). set.remove t path) f.takes ∙ sym (less_paths-push first.takes s.files path);
        given = λ t. given t ∙ ap (λ (l : List (Name × List ℕ)). l ++ (path, []) ∷ []) (f.given t) ∙ append_assoc first.given s.files ((path, []) ∷ []);
        awaited = λ other has.
            let both = behind_next path s.left other f.rising is has in
            ap (λ (t : Names). set.contains t other) begun.takes ∙ set.contains-remove nat_list_cmp_total now.takes path other
            ∙ ap (λ (b : Bool). not b && set.contains now.takes other) both.0 ∙ f.awaited other both.1;
        rising = tail_up path s.left f.rising is;
      })

  -- a file that is the next one may begin
  pub head_awaited : s.wrong ≡ false → heads path s.left ≡ true → s.lacks ≡ 0 → IsAwaited path now
  head_awaited right is none = record {
    whole = f.lacks right ∙ none;
    taken = f.awaited path (there s.left is);
  }
    where
      there : (left : List Name) → heads path left ≡ true → has_key (λ p. p) path left ≡ true
      there [] never = absurd (cc)
      there (next ∷ left) same =
          let next_is : path ≡ next = (bytes_eq-Decides path next).0 same in
          subst (λ (n : Name). has_key (λ p. p) n (next ∷ left) ≡ true) (sym next_is) (ap (λ (b : Bool). b || has_key (λ p. p) next left) (same_name-refl next))

-- ---- bytes come

-- what bytes make of what has come
unfoldable pub with_content : List ℕ → Unpacked → Unpacked
with_content bytes s = record s { lacks = s.lacks - length bytes; files = cond s.wrong s.files (behind_last bytes s.files) }

content_none : (b : Bool) (files : List (Name × List ℕ)) → cond b files (behind_last [] files) ≡ files
content_none true files = refl
content_none false files = behind_last-none files

content_more : (b : Bool) (x : ℕ) (bytes : List ℕ) (files : List (Name × List ℕ)) → cond b (cond b files (behind_last (x ∷ []) files)) (behind_last bytes (cond b files (behind_last (x ∷ []) files))) ≡ cond b files (behind_last (x ∷ bytes) files)
content_more true x bytes files = refl
content_more false x bytes files = behind_last-twice files (x ∷ []) bytes

pub bytes_are : (entry : Object) (s : Unpacked) (bytes : List ℕ) → unpacked entry s (map FileByte bytes) ≡ with_content bytes s
unfolding with_content
bytes_are entry s [] =
    let n : s.lacks ≡ s.lacks - 0 = omega arith in
    ap (λ (k : ℕ). record s { lacks = k }) n ∙ ap (λ (l : List (Name × List ℕ)). record s { lacks = s.lacks - 0; files = l }) (sym (content_none s.wrong s.files))
bytes_are entry s (x ∷ bytes) =
    let n : s.lacks - 1 - length bytes ≡ s.lacks - length (x ∷ bytes) = omega arith in
    bytes_are entry (unpacked_by entry s (FileByte x)) bytes
    ∙ ap (λ (k : ℕ). record s { lacks = k; files = cond s.wrong (cond s.wrong s.files (behind_last (x ∷ []) s.files)) (behind_last bytes (cond s.wrong s.files (behind_last (x ∷ []) s.files))) }) n
    ∙ ap (λ (l : List (Name × List ℕ)). record s { lacks = s.lacks - length (x ∷ bytes); files = l }) (content_more s.wrong x bytes s.files)

module _ (tells : Bool) (entry : Object) (first now : SinkSeen) (u : Unpacking) (s : Unpacked) (f : Follows tells entry first now u s) (bytes : List ℕ) where
  -- something was wrong before
  pub bytes_refused : u.is_wrong ≡ true → Follows tells entry first now u (unpacked entry s (map FileByte bytes))
  unfolding with_content
  bytes_refused wrong =
      let is : s.wrong ≡ true = sym f.wrong ∙ wrong in
      let files_are : cond s.wrong s.files (behind_last bytes s.files) ≡ s.files = ap (λ (b : Bool). cond b s.files (behind_last bytes s.files)) is in
      subst (λ (t : Unpacked). Follows tells entry first now u t) (sym (bytes_are entry s bytes)) (record {
        text = f.text;
        wrong = f.wrong;
        left = f.left;
        lacks = λ right. absurd (true≢false (sym is ∙ right));
        unbegun = λ right _. absurd (true≢false (sym is ∙ right));
        takes = f.takes ∙ ap (less_paths first.takes) (sym files_are);
        given = λ t. f.given t ∙ ap (λ (l : List (Name × List ℕ)). first.given ++ l) (sym files_are);
        awaited = f.awaited;
        rising = f.rising;
      })

  none_come : s.wrong ≡ false → length bytes ≤ s.lacks → s.files ≡ [] → bytes ≡ []
  none_come right few none = by bytes few
    where
      by : (l : List ℕ) → length l ≤ s.lacks → l ≡ []
      by [] within = refl
      by (x ∷ l) within = let no = f.unbegun right none in absurd (omega arith)

  -- the sink took them
  pub bytes_taken : (new : SinkSeen) → s.wrong ≡ false → length bytes ≤ s.lacks → HasBrought (length bytes) now new → Told tells (new.given ≡ behind_last bytes now.given)
      → Follows tells entry first new u (unpacked entry s (map FileByte bytes))
  unfolding with_content
  bytes_taken new right few brought given =
      let files_are : cond s.wrong s.files (behind_last bytes s.files) ≡ behind_last bytes s.files = ap (λ (b : Bool). cond b s.files (behind_last bytes s.files)) right in
      subst (λ (t : Unpacked). Follows tells entry first new u t) (sym (bytes_are entry s bytes)) (record {
        text = f.text;
        wrong = f.wrong;
        left = f.left;
        lacks = λ _. brought.lacks ∙ ap (λ (n : ℕ). n - length bytes) (f.lacks right);
        unbegun = λ _ none.
            let no = f.unbegun right (behind_last-some s.files bytes (sym files_are ∙ none)) in omega arith;
        takes = brought.takes ∙ f.takes ∙ ap (λ (l : List Name). fold set.remove first.takes l) (sym (paths_in-behind_last s.files bytes)) ∙ ap (less_paths first.takes) (sym files_are);
        given = λ t. given t ∙ ap (behind_last bytes) (f.given t) ∙ behind_last-later first.given s.files bytes (none_come right few)
            ∙ ap (λ (l : List (Name × List ℕ)). first.given ++ l) (sym files_are);
        awaited = λ path has. ap (λ (n : Names). set.contains n path) brought.takes ∙ f.awaited path has;
        rising = f.rising;
      })

-- ---- the entry's text comes

module _ (tells : Bool) (entry : Object) (first now : SinkSeen) (u : Unpacking) (s : Unpacked) (f : Follows tells entry first now u s) (text : List ℕ) where
  pub entry_taken : reads_as text entry ≡ true → Follows tells entry first now u (unpacked_by entry s (EntryText text))
  entry_taken is = subst (λ (t : Unpacked). Follows tells entry first now u t) (sym (ap (λ (b : Bool). cond b s (record s { wrong = true })) is)) f

  pub entry_refused : reads_as text entry ≡ false → Follows tells entry first now (record u { is_wrong = true }) (unpacked_by entry s (EntryText text))
  entry_refused is =
      subst (λ (t : Unpacked). Follows tells entry first now (record u { is_wrong = true }) t) (sym (ap (λ (b : Bool). cond b s (record s { wrong = true })) is)) (record {
        text = f.text;
        wrong = refl;
        left = f.left;
        lacks = λ never. absurd (true≢false never);
        unbegun = λ never _. absurd (true≢false never);
        takes = f.takes;
        given = f.given;
        awaited = f.awaited;
        rising = f.rising;
      })

-- ---- nothing has come

-- before the first token
pub fresh_follows : (tells : Bool) (entry : Object) (paths : List Name) (sink : SinkSeen) (u : Unpacking) → IsFresh entry paths u → IsOpen paths sink → Follows tells entry sink sink u (awaiting paths)
fresh_follows tells entry paths sink u fresh open_ = record {
  text = fresh.text;
  wrong = fresh.wrong;
  left = ap (λ (n : ℕ). drop n u.paths.items) fresh.place ∙ fresh.paths_are;
  lacks = λ _. open_.whole;
  unbegun = λ _ _. refl;
  takes = refl;
  given = λ _. sym (append-nil sink.given);
  awaited = open_.taken;
  rising = fresh.rising;
}
