-- The entries after the first parts of a change.
use Rattle.std.proofs.Common.{◌≡◌, ◌<◌, ◌+◌, ℕ, false, List, [], ◌∷◌, ◌++◌, length, take, get_or, refl, sym, ◌∙◌, ap}
use Rattle.std.proofs.lemmas.List.{take_more}
use Rattle.tl_entry.specs.declared.object.Object.{Object}
use Rattle.tl_tree.specs.declared.change.Part.{Part}
use Rattle.tl_tree.specs.declared.change.Part.TheVariants.{Put, Remove, Entry, Write, Erase, Stream, Later}
use Rattle.tl_tree.specs.Changes.{entries_by, entries_after, has_entries}

after-push : (parts : List Part) (part : Part) (db : List Object) → entries_after (parts ++ part ∷ []) db ≡ entries_by part (entries_after parts db)
after-push [] part db = refl
after-push (p ∷ parts) part db = after-push parts part (entries_by p db)

-- one part more
pub after_more : (parts : List Part) (i : ℕ) (part : Part) (db mid new : List Object) → i < length parts → part ≡ get_or parts i part → mid ≡ entries_after (take i parts) db → new ≡ entries_by part mid
    → new ≡ entries_after (take (i + 1) parts) db
after_more parts i part db mid new lt is far near =
    near ∙ ap (entries_by part) far ∙ sym (after-push (take i parts) part db)
    ∙ ap (λ (ps : List Part). entries_after ps db) (ap (λ (p : Part). take i parts ++ p ∷ []) is ∙ sym (take_more parts i part lt))

-- a change that speaks of no entry leaves them as they are
pub after_none : (parts : List Part) (db : List Object) → has_entries parts ≡ false → entries_after parts db ≡ db
after_none [] db none = refl
after_none (Put entry files ∷ parts) db none = absurd (cc)
after_none (Remove name ∷ parts) db none = absurd (cc)
after_none (Entry entry ∷ parts) db none = absurd (cc)
after_none (Write path bytes ∷ parts) db none = after_none parts db none
after_none (Erase path ∷ parts) db none = after_none parts db none
after_none (Stream entry ∷ parts) db none = absurd (cc)
after_none (Later paths ∷ parts) db none = after_none parts db none
