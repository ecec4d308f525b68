-- The records that have been staged.
use Rattle.std.proofs.Common.{◌≡◌, ◌<◌, ◌≤◌, ◌+◌, ◌-◌, ◌^◌, List, [], ◌∷◌, ◌++◌, ℕ, Bool, true, length, Option, Some, IsSome, refl, sym, ◌∙◌, ap, subst, arith, append_assoc, length-append}
use Rattle.std.specs.Option.{unwrap_or}
use Rattle.std.specs.List.{AllByRecursion}
use Rattle.std.proofs.lemmas.List.{append-nil}
use Rattle.std.specs.FinMap as map
use Rattle.tl_model.specs.Volume.{Name, Volume, at, at-insert_here}
use Rattle.tl_model.specs.Seen.{Seen, Changes}
use Rattle.tl_journal_text.specs.Records.{Record, Write, Fits, is_target, records_text, text_of, write_head}
use Rattle.tl_journal_text.specs.Body.{records_of, records_in}
use Rattle.tl_journal_text.specs.Stand.{bytes_at}
use Rattle.tl_journal_text.proofs.ReadBack.{written, all_push, text_push}
use Rattle.tl_journal.specs.States.{IsClean, IsStaging, IsStaged, IsWriting, Grows, KeepsTree, spare_body, staged, coming}
use Rattle.tl_journal.specs.Touching.{TouchesOnly}
use Rattle.tl_journal_text.specs.declared.slot.Slot.{Slot}
use Rattle.tl_journal_text.specs.Slots.{body_of, open_slot, spare}
use Rattle.tl_journal.proofs.Live.{keeps_open, tree_change, tree_start, free_spare}

whole : (rs : List Record) → AllByRecursion Fits rs → records_of (records_text rs ++ 69 ∷ []) ≡ Some rs
whole rs fits = ap records_in (written rs fits)

pub staged_is : (s : Seen) (rs : List Record) → at s.present.held (spare_body s.present.held) ≡ Some (records_text rs) → AllByRecursion Fits rs → staged s ≡ rs
staged_is s rs text fits =
    ap (λ (o : Option (List ℕ)). unwrap_or (records_of (unwrap_or o [] ++ 69 ∷ [])) []) text
    ∙ ap (λ (o : Option (List Record)). unwrap_or o []) (whole rs fits)

pub is_staging : (s : Seen) (rs : List Record) → IsClean s.present → at s.present.held (spare_body s.present.held) ≡ Some (records_text rs) → AllByRecursion Fits rs → IsStaging s
is_staging s rs clean text fits =
    let is = staged_is s rs text fits in
    record {
      clean = clean;
      text = text ∙ ap (λ (l : List Record). Some (records_text l)) (sym is);
      fits = subst (λ (l : List Record). AllByRecursion Fits l) (sym is) fits;
    }

-- the end makes the body whole
pub ended : (old : Seen) (body : Option (List ℕ)) → IsStaging old → body ≡ Some (bytes_at old.present.held (spare_body old.present.held) ++ 69 ∷ []) → records_of (unwrap_or body []) ≡ Some (staged old)
ended old body staging text =
    ap (λ (o : Option (List ℕ)). records_of (unwrap_or o [])) text
    ∙ ap (λ (o : Option (List ℕ)). records_of (unwrap_or o [] ++ 69 ∷ [])) staging.text
    ∙ whole (staged old) staging.fits

-- a record more
more_text : (old new : Seen) (r : Record) → IsStaging old → Grows (text_of r) old new → at new.present.held (spare_body new.present.held) ≡ Some (records_text (staged old ++ r ∷ []))
more_text old new r staging text =
    text ∙ ap (λ (o : Option (List ℕ)). Some (unwrap_or o [] ++ text_of r)) staging.text ∙ ap Some (sym (text_push (staged old) r))

pub more_is : (old new : Seen) (r : Record) → IsStaging old → Fits r → Grows (text_of r) old new → staged new ≡ staged old ++ r ∷ []
more_is old new r staging fits text = staged_is new (staged old ++ r ∷ []) (more_text old new r staging text) (all_push (staged old) r staging.fits fits)

pub more_staging : (old new : Seen) (r : Record) → IsStaging old → IsClean new.present → Fits r → Grows (text_of r) old new → IsStaging new
more_staging old new r staging clean fits text = is_staging new (staged old ++ r ∷ []) clean (more_text old new r staging text) (all_push (staged old) r staging.fits fits)

-- ---- a write in pieces

-- it begins with its head
pub writing_start : (old new : Seen) (path : Name) (size : ℕ) → IsStaging old → IsClean new.present → is_target path ≡ true → size < 2 ^ 64 → Grows (write_head path size) old new → IsWriting new size
writing_start old new path size staging clean target small text = record {
  clean = clean;
  before = staged old;
  path = path;
  come = [];
  text = text ∙ ap (λ (o : Option (List ℕ)). Some (unwrap_or o [] ++ write_head path size)) staging.text
      ∙ ap (λ (n : ℕ). Some (records_text (staged old) ++ write_head path n)) none
      ∙ ap Some (sym (append-nil (records_text (staged old) ++ write_head path (length {A = ℕ} [] + size))));
  fits = staging.fits;
  target = target;
  small = omega arith;
}
  where
    none : size ≡ length {A = ℕ} [] + size
    none = omega arith

-- bytes have come
pub writing_more : (old new : Seen) (left : ℕ) (bytes : List ℕ) → IsWriting old left → IsClean new.present → length bytes ≤ left → Grows bytes old new → IsWriting new (left - length bytes)
writing_more old new left bytes writing clean fits text = record {
  clean = clean;
  before = writing.before;
  path = writing.path;
  come = writing.come ++ bytes;
  text = text ∙ ap (λ (o : Option (List ℕ)). Some (unwrap_or o [] ++ bytes)) writing.text
      ∙ ap Some (append_assoc (records_text writing.before ++ write_head writing.path (length writing.come + left)) writing.come bytes)
      ∙ ap (λ (n : ℕ). Some ((records_text writing.before ++ write_head writing.path n) ++ (writing.come ++ bytes))) sizes;
  fits = writing.fits;
  target = writing.target;
  small = omega (arith, writing.small, length-append writing.come bytes);
}
  where
    sizes : length writing.come + left ≡ length (writing.come ++ bytes) + (left - length bytes)
    sizes = omega (arith, length-append writing.come bytes)

-- the record that is made once the last bytes have come
last_of : (s : Seen) (left : ℕ) → IsWriting s left → List ℕ → Record
last_of s left writing bytes = Write writing.path (writing.come ++ bytes)

-- the spare body with the last bytes
last_text : (s : Seen) (left : ℕ) (writing : IsWriting s left) (bytes : List ℕ) → length bytes ≡ left → bytes_at s.present.held (spare_body s.present.held) ++ bytes ≡ records_text (writing.before ++ Write writing.path (writing.come ++ bytes) ∷ [])
last_text s left writing bytes whole =
    ap (λ (o : Option (List ℕ)). unwrap_or o [] ++ bytes) writing.text
    ∙ append_assoc (records_text writing.before ++ write_head writing.path (length writing.come + left)) writing.come bytes
    ∙ append_assoc (records_text writing.before) (write_head writing.path (length writing.come + left)) (writing.come ++ bytes)
    ∙ ap (λ (n : ℕ). records_text writing.before ++ (write_head writing.path n ++ (writing.come ++ bytes))) sizes
    ∙ sym (text_push writing.before (Write writing.path (writing.come ++ bytes)))
  where
    sizes : length writing.come + left ≡ length (writing.come ++ bytes)
    sizes = omega (arith, whole, length-append writing.come bytes)

last_fits : (s : Seen) (left : ℕ) (writing : IsWriting s left) (bytes : List ℕ) → length bytes ≡ left → AllByRecursion Fits (writing.before ++ Write writing.path (writing.come ++ bytes) ∷ [])
last_fits s left writing bytes whole = all_push writing.before (Write writing.path (writing.come ++ bytes)) writing.fits (writing.target, omega (arith, whole, writing.small, length-append writing.come bytes))

pub coming_is : (s : Seen) (left : ℕ) (writing : IsWriting s left) (bytes : List ℕ) → length bytes ≡ left → coming (record { seen = s; left = left }) bytes ≡ writing.before ++ Write writing.path (writing.come ++ bytes) ∷ []
coming_is s left writing bytes is_whole =
    ap (λ (l : List ℕ). unwrap_or (records_of (l ++ 69 ∷ [])) []) (last_text s left writing bytes is_whole)
    ∙ ap (λ (o : Option (List Record)). unwrap_or o []) (whole _ (last_fits s left writing bytes is_whole))

-- after the last bytes the write is one of the staged records
pub writing_end : (s : Seen) → IsWriting s 0 → IsStaging s
writing_end s writing =
    is_staging s (writing.before ++ Write writing.path (writing.come ++ []) ∷ []) writing.clean
    (writing.text ∙ ap (λ (o : Option (List ℕ)). Some (unwrap_or o [])) (sym writing.text) ∙ ap Some (sym (append-nil (bytes_at s.present.held (spare_body s.present.held)))) ∙ ap Some (last_text s 0 writing [] (omega arith)))
    (last_fits s 0 writing [] (omega arith))

-- ---- the spare body grows

pub spare_is : (s : Seen) (slot : Slot) → spare (open_slot s.present.held) ≡ slot → spare_body s.present.held ≡ body_of slot
spare_is s slot is = ap body_of is

pub spare_stays : (old new : Seen) → KeepsTree old new → spare_body new.present.held ≡ spare_body old.present.held
spare_stays old new keeps = ap (λ (o : Option Slot). body_of (spare o)) (keeps_open old new keeps)

-- the body of the spare slot has bytes more
pub grows_by : (old new : Seen) (slot : Slot) (bytes : List ℕ) → spare (open_slot old.present.held) ≡ slot → KeepsTree old new → at new.present.held (body_of slot) ≡ Some (bytes_at old.present.held (body_of slot) ++ bytes) → Grows bytes old new
grows_by old new slot bytes is keeps text =
    ap (λ (n : Name). at new.present.held n) (spare_stays old new keeps ∙ spare_is old slot is)
    ∙ text ∙ ap (λ (n : Name). Some (bytes_at old.present.held n ++ bytes)) (sym (spare_is old slot is))

pub grows_join : (old mid new : Seen) (a b : List ℕ) → Grows a old mid → Grows b mid new → Grows (a ++ b) old new
grows_join old mid new a b far near =
    near ∙ ap (λ (o : Option (List ℕ)). Some (unwrap_or o [] ++ b)) far ∙ ap Some (append_assoc (bytes_at old.present.held (spare_body old.present.held)) a b)

-- what has grown is there
pub grown_there : (old new : Seen) (slot : Slot) (bytes : List ℕ) → spare (open_slot new.present.held) ≡ slot → Grows bytes old new → IsSome (at new.present.held (body_of slot))
grown_there old new slot bytes is grows = subst (λ (o : Option (List ℕ)). IsSome o) (sym (ap (λ (n : Name). at new.present.held n) (sym (spare_is new slot is)) ∙ grows)) refl

pub spare_again : (old new : Seen) (slot : Slot) → KeepsTree old new → spare (open_slot old.present.held) ≡ slot → spare (open_slot new.present.held) ≡ slot
spare_again old new slot keeps is = ap spare (keeps_open old new keeps) ∙ is

-- the spare body was changed
pub spare_change : (old new : Seen) (ok : Bool) (slot : Slot) → IsClean old.present → spare (open_slot old.present.held) ≡ slot → Changes ok (body_of slot) old new → KeepsTree old new
spare_change old new ok slot clean is change = tree_change old old new ok slot (tree_start old clean.live) change (λ q fixed e. free_spare old.present.held q fixed (e ∙ sym (spare_is old slot is)))

-- a file that was made
pub made_empty : (held new : Volume) (n name : Name) → n ≡ name → new ≡ map.insert held n [] → at new name ≡ Some []
made_empty held new n name is made = ap (λ (v : Volume). at v name) made ∙ ap (λ (m : Name). at (map.insert held m []) name) is ∙ at-insert_here held name []

-- a file to which bytes were added
pub appended : (held new : Volume) (n name : Name) (bytes : List ℕ) → n ≡ name → new ≡ map.insert held n (bytes_at held n ++ bytes) → at new name ≡ Some (bytes_at held name ++ bytes)
appended held new n name bytes is added = ap (λ (v : Volume). at v name) added ∙ ap (λ (m : Name). at (map.insert held m (bytes_at held m ++ bytes)) name) is ∙ at-insert_here held name _

-- the body that is being written is there
pub staging_there : (s : Seen) (slot : Slot) → IsStaging s → spare (open_slot s.present.held) ≡ slot → IsSome (at s.present.held (body_of slot))
staging_there s slot staging is = subst (λ (o : Option (List ℕ)). IsSome o) (sym (ap (λ (n : Name). at s.present.held n) (sym (spare_is s slot is)) ∙ staging.text)) refl

-- the records that will have been staged, as a write begins
pub begin_coming : (old new : Seen) (path : Name) (size : ℕ) → IsStaging old → IsClean new.present → is_target path ≡ true → size < 2 ^ 64 → Grows (write_head path size) old new
    → (bytes : List ℕ) → length bytes ≡ size → coming (record { seen = new; left = size }) bytes ≡ staged old ++ Write path bytes ∷ []
unfolding writing_start
begin_coming old new path size staging clean target small text bytes is = coming_is new size (writing_start old new path size staging clean target small text) bytes is

-- as bytes come
pub piece_coming : (old new : Seen) (a b : ℕ) (bytes : List ℕ) → Grows bytes old new → (rest : List ℕ) → coming (record { seen = new; left = a }) rest ≡ coming (record { seen = old; left = b }) (bytes ++ rest)
piece_coming old new a b bytes grows rest =
    ap (λ (o : Option (List ℕ)). unwrap_or (records_of ((unwrap_or o [] ++ rest) ++ 69 ∷ [])) []) grows
    ∙ ap (λ (l : List ℕ). unwrap_or (records_of (l ++ 69 ∷ [])) []) (append_assoc (bytes_at old.present.held (spare_body old.present.held)) bytes rest)

-- and as it ends
pub end_coming : (s : Seen) (a : ℕ) → staged s ≡ coming (record { seen = s; left = a }) []
end_coming s a = ap (λ (l : List ℕ). unwrap_or (records_of (l ++ 69 ∷ [])) []) (sym (append-nil (bytes_at s.present.held (spare_body s.present.held))))

-- the spare body was made empty
pub started : (old new : Seen) (slot : Slot) → spare (open_slot old.present.held) ≡ slot → KeepsTree old new → at new.present.held (body_of slot) ≡ Some [] → at new.present.held (spare_body new.present.held) ≡ Some []
started old new slot is keeps text = ap (λ (n : Name). at new.present.held n) (spare_stays old new keeps ∙ spare_is old slot is) ∙ text
