-- What a reader keeps, after one more group.
use Rattle.std.proofs.Common.{◌≡◌, true, false, List, [], ◌∷◌, ◌++◌, Option, Some, None, refl}
use Rattle.std.specs.Prelude.{is_some}
use Rattle.std.proofs.lemmas.List.{append-nil}
use Rattle.std.proofs.lemmas.List.Sums.{fold-append}
use Rattle.std.proofs.lemmas.List.Elements.{filter_map-append}
use Rattle.tl_entry.specs.Parts.{FileEntry}
use Rattle.tl_object.specs.declared.key.Part.TheVariants.{Run, Doc, Src}
use Rattle.tl_object.specs.declared.head.Head.{Head}
use Rattle.tl_object.specs.declared.head.Head.TheVariants as heads
use Rattle.tl_object.specs.Groups.{Group, only, name_of, is_repeated, latest}
use Rattle.tl_object.specs.Built.{built, put}
use Rattle.tl_object.specs.declared.builder.Builder.{Builder}
use Rattle.tl_object.specs.Known.{is_known}

pub built-put : (groups : List Group) (head : Head) (files : List FileEntry) → built (groups ++ record { head = head; files = files } ∷ []) ≡ put (built groups) head files
built-put groups (heads.Name x) files = simp (fold-append, filter_map-append, append-nil)
built-put groups (heads.Category x) files = simp (fold-append, filter_map-append, append-nil)
built-put groups (heads.Revision x) files = simp (fold-append, filter_map-append, append-nil)
built-put groups (heads.Catalogue x) files = simp (fold-append, filter_map-append, append-nil)
built-put groups (heads.Shortdesc x) files = simp (fold-append, filter_map-append, append-nil)
built-put groups (heads.Relocated x) files = simp (fold-append, filter_map-append, append-nil)
built-put groups (heads.Longdesc x) files = simp (fold-append, filter_map-append, append-nil)
built-put groups (heads.Depend x) files = simp (fold-append, filter_map-append, append-nil)
built-put groups (heads.Execute x) files = simp (fold-append, filter_map-append, append-nil)
built-put groups (heads.Postaction x) files = simp (fold-append, filter_map-append, append-nil)
built-put groups (heads.Size Run x) files = simp (fold-append, filter_map-append, append-nil)
built-put groups (heads.Size Doc x) files = simp (fold-append, filter_map-append, append-nil)
built-put groups (heads.Size Src x) files = simp (fold-append, filter_map-append, append-nil)
built-put groups (heads.Digest Run x) files = simp (fold-append, filter_map-append, append-nil)
built-put groups (heads.Digest Doc x) files = simp (fold-append, filter_map-append, append-nil)
built-put groups (heads.Digest Src x) files = simp (fold-append, filter_map-append, append-nil)
built-put groups (heads.Files Run x) files = simp (fold-append, filter_map-append, append-nil)
built-put groups (heads.Files Doc x) files = simp (fold-append, filter_map-append, append-nil)
built-put groups (heads.Files Src x) files = simp (fold-append, filter_map-append, append-nil)
built-put groups (heads.Binfiles platform x) files = simp (fold-append, filter_map-append, append-nil)
built-put groups (heads.Fact x) files = simp (fold-append, filter_map-append, append-nil)

pub known-repeated : (groups : List Group) (head : Head) → is_some (only name_of groups) ≡ true → is_repeated groups head ≡ is_known (built groups) head
known-repeated groups (heads.Name x) named = named
known-repeated groups (heads.Category x) named = refl
known-repeated groups (heads.Revision x) named = refl
known-repeated groups (heads.Catalogue x) named = refl
known-repeated groups (heads.Shortdesc x) named = refl
known-repeated groups (heads.Relocated x) named = refl
known-repeated groups (heads.Longdesc x) named = refl
known-repeated groups (heads.Depend x) named = refl
known-repeated groups (heads.Execute x) named = refl
known-repeated groups (heads.Postaction x) named = refl
known-repeated groups (heads.Size Run x) named = refl
known-repeated groups (heads.Size Doc x) named = refl
known-repeated groups (heads.Size Src x) named = refl
known-repeated groups (heads.Digest Run x) named = refl
known-repeated groups (heads.Digest Doc x) named = refl
known-repeated groups (heads.Digest Src x) named = refl
known-repeated groups (heads.Files Run x) named = refl
known-repeated groups (heads.Files Doc x) named = refl
known-repeated groups (heads.Files Src x) named = refl
known-repeated groups (heads.Binfiles platform x) named = refl
known-repeated groups (heads.Fact x) named = refl

some_latest : {A : Type 0} (x y : Option A) → is_some y ≡ true → is_some (latest x y) ≡ true
some_latest None y is = is
some_latest (Some x) y is = refl

pub named-more : (groups : List Group) (group : Group) → is_some (only name_of groups) ≡ true → is_some (only name_of (groups ++ group ∷ [])) ≡ true
named-more groups group is = rw fold-append (some_latest (name_of group) (only name_of groups) is)

-- what isn't known yet leaves the name
pub put-name : (b : Builder) (head : Head) (files : List FileEntry) → is_known b head ≡ false → (put b head files).name ≡ b.name
put-name b (heads.Name x) files new = absurd (cc)
put-name b (heads.Category x) files new = refl
put-name b (heads.Revision x) files new = refl
put-name b (heads.Catalogue x) files new = refl
put-name b (heads.Shortdesc x) files new = refl
put-name b (heads.Relocated x) files new = refl
put-name b (heads.Longdesc x) files new = refl
put-name b (heads.Depend x) files new = refl
put-name b (heads.Execute x) files new = refl
put-name b (heads.Postaction x) files new = refl
put-name b (heads.Size Run x) files new = refl
put-name b (heads.Size Doc x) files new = refl
put-name b (heads.Size Src x) files new = refl
put-name b (heads.Digest Run x) files new = refl
put-name b (heads.Digest Doc x) files new = refl
put-name b (heads.Digest Src x) files new = refl
put-name b (heads.Files Run x) files new = refl
put-name b (heads.Files Doc x) files new = refl
put-name b (heads.Files Src x) files new = refl
put-name b (heads.Binfiles platform x) files new = refl
put-name b (heads.Fact x) files new = refl
