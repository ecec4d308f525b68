use Rattle.std.proofs.Common.{sym, ap, ◌∙◌, List}
use Rattle.std.specs.Prelude.{map}
use Rattle.std.specs.List.{flat_map}
use Rattle.tl_model.specs.Volume.{Name}
use Rattle.tl_entry.specs.Rising.{has_key}
use Rattle.tl_entry.specs.Parts.{FileEntry}
use Rattle.tl_entry.specs.declared.object.BinFiles.{BinFiles}
use Rattle.tl_tree.specs.Changes.{path_of, bin_paths}
use Rattle.tl_tree.proofs.Owning.{own_run, own_doc, own_src, own_bin}
use Rattle.tl_tree.proofs.own.owns.Goals as goal

pub returns-then-has : goal.returns-then-has
returns-then-has c =
    sym (own_run c.args.path.now c.args.entry.now c.requires
    (ap (λ (n : Name). has_key (λ (p : Name). p) n c.args.entry.now.run.paths) (sym c.bytes.ensures.bytes) ∙ sym c.has.ensures ∙ c.if-has.true))

pub returns-then-is_documented : goal.returns-then-is_documented
returns-then-is_documented c =
    sym (own_doc c.args.path.now c.args.entry.now c.requires
    (ap (λ (fs : List FileEntry). has_key (λ (p : Name). p) c.args.path.now (map path_of fs)) (sym c.as_slice.ensures.items) ∙ sym c.is_documented.ensures ∙ c.if-is_documented.true))

pub returns-then-has-2 : goal.returns-then-has-2
returns-then-has-2 c =
    sym (own_src c.args.path.now c.args.entry.now c.requires
    (ap (λ (n : Name). has_key (λ (p : Name). p) n c.args.entry.now.src.paths) (sym c.bytes-2.ensures.bytes) ∙ sym c.has-2.ensures ∙ c.if-has-2.true))

pub returns : goal.returns
returns c =
    let path = c.args.path.now in
    c.is_binary.ensures ∙ ap (λ (bs : List BinFiles). has_key (λ (p : Name). p) path (flat_map bin_paths bs)) c.as_slice-2.ensures.items
    ∙ sym (own_bin path c.args.entry.now c.requires
    (ap (λ (n : Name). has_key (λ (p : Name). p) n c.args.entry.now.run.paths) (sym c.bytes.ensures.bytes) ∙ sym c.has.ensures ∙ c.if-has.false)
    (ap (λ (fs : List FileEntry). has_key (λ (p : Name). p) path (map path_of fs)) (sym c.as_slice.ensures.items) ∙ sym c.is_documented.ensures ∙ c.if-is_documented.false)
    (ap (λ (n : Name). has_key (λ (p : Name). p) n c.args.entry.now.src.paths) (sym c.bytes-2.ensures.bytes) ∙ sym c.has-2.ensures ∙ c.if-has-2.false))
