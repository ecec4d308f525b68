-- The entry of an installed package.
use Rattle.std.proofs.Common.{◌≡◌, Bool, true, false, cond, List, [], ◌∷◌, Option, Some, refl, sym, ap, ◌∙◌}
use Rattle.tl_model.specs.Volume.{Name, same_name, same_name-is}
use Rattle.tl_entry.specs.declared.object.Object.{Object}
use Rattle.tl_db.specs.Entries.{entry_of}
use Rattle.tl_backup.specs.Autobackup.{revision_at, entry_revision}
use Rattle.tl_backup.specs.Form.{installed}

-- it has the name
pub entry-name : (name : Name) (db : List Object) (entry : Object) → entry_of name db ≡ Some entry → entry.name ≡ name
entry-name name [] entry is = absurd (cc)
entry-name name (first ∷ db) entry is = by (same_name first.name name) refl (λ found. entry-name name db entry found) is
  where
    by : (b : Bool) → same_name first.name name ≡ b → (entry_of name db ≡ Some entry → entry.name ≡ name) → cond b (Some first) (entry_of name db) ≡ Some entry → entry.name ≡ name
    by true same rest found = let one : first ≡ entry = cc in ap (λ (o : Object). o.name) (sym one) ∙ same_name-is first.name name same
    by false same rest found = rest found

-- and so is its backup
pub installed_entry : (name : Name) (db : List Object) (entry : Object) → entry_of name db ≡ Some entry → Some (record { name = entry.name; revision = entry.revision }) ≡ Some (installed (revision_at db) name)
installed_entry name db entry is =
    ap (λ (n : Name). Some (record { name = n; revision = entry.revision })) (entry-name name db entry is)
    ∙ ap (λ (o : Option Object). Some (record { name = name; revision = entry_revision o })) (sym is)
