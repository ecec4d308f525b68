use Rattle.std.proofs.Common.{sym, ap, ◌∙◌}
use Rattle.tl_model.specs.Volume.{Name}
use Rattle.tl_entry.specs.Parts.{FileEntry}
use Rattle.tl_entry.specs.Rising.{has_key}
use Rattle.tl_entry.proofs.RisingLemmas.{absent_at}
use Rattle.tl_tree.proofs.Owning.{key-files}
use Rattle.tl_tree.proofs.own.is_documented.Goals as goal

pub returns-in-Some : goal.returns-in-Some
returns-in-Some c =
    sym (sym (key-files c.args.path.now c.args.files.now) ∙ ap (λ (n : Name). has_key (λ (f : FileEntry). f.path) n c.args.files.now) (sym c.bytes.ensures.bytes)
    ∙ absent_at (λ (f : FileEntry). f.path) c.bytes.result.now c.args.files.now c.in-Some.field-0 c.in-Some.ensures)

pub returns-in-None : goal.returns-in-None
returns-in-None c =
    sym (sym (key-files c.args.path.now c.args.files.now) ∙ ap (λ (n : Name). has_key (λ (f : FileEntry). f.path) n c.args.files.now) (sym c.bytes.ensures.bytes) ∙ c.in-None.ensures)
