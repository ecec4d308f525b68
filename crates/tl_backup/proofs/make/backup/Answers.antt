use Rattle.std.proofs.Common.{◌≡◌, ◌∙◌, ap, sym, List, ℕ, Some}
use Rattle.tl_entry.specs.declared.object.Object.{Object}
use Rattle.tl_db.specs.Entries.{entry_of}
use Rattle.tl_tree.specs.declared.change.Part.TheVariants.{Write}
use Rattle.tl_backup.proofs.Installed.{installed_entry}
use Rattle.tl_backup.proofs.make.backup.Goals as goal

pub returns-clause-form : goal.returns-clause-form
returns-clause-form g c = record {
  entry = c.in-Some.entry.now;
  found = sym (c.in-Some.ensures ∙ ap (λ (db : List Object). entry_of c.args.name.now db) c.db.ensures);
  bytes = c.new-bytes.result;
  is = ap (λ (p : List ℕ). Write p c.new-bytes.result) c.in_ok-path.ensures.path;
}

pub returns-clause-named : goal.returns-clause-named
returns-clause-named g c =
    let entry = c.in-Some.entry.now in
    let found : entry_of c.args.name.now c.args.tree.now.db ≡ Some entry = sym (c.in-Some.ensures ∙ ap (λ (db : List Object). entry_of c.args.name.now db) c.db.ensures) in
    c.in_ok-path.ensures.named ∙ installed_entry c.args.name.now c.args.tree.now.db entry found
