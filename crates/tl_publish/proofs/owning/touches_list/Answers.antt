use Rattle.std.proofs.Common.{List, sym, ap, ◌∙◌}
use Rattle.std.specs.Prelude.{map}
use Rattle.std.specs.List.{flat_map, list_any}
use Rattle.tl_entry.specs.Parts.{FileEntry}
use Rattle.tl_entry.specs.declared.object.BinFiles.{BinFiles}
use Rattle.tl_tree.specs.Changes.{path_of, bin_paths}
use Rattle.tl_publish.specs.Owning.{claims_list}
use Rattle.tl_publish.proofs.OwnLemmas.{touched_run, touched_doc, touched_src, touched_bin}
use Rattle.tl_publish.proofs.owning.touches_list.Goals as goal

pub returns-then-have_path_in_way : goal.returns-then-have_path_in_way
returns-then-have_path_in_way c = touched_run c.args.entry.now (sym c.have_path_in_way.ensures ∙ c.if-have_path_in_way.true)

pub returns-then-have_document_in_way : goal.returns-then-have_document_in_way
returns-then-have_document_in_way c =
    touched_doc c.args.entry.now (sym c.have_path_in_way.ensures ∙ c.if-have_path_in_way.false)
    (ap (λ (fs : List FileEntry). list_any claims_list (map path_of fs)) (sym c.as_slice.ensures.items) ∙ sym c.have_document_in_way.ensures ∙ c.if-have_document_in_way.true)

pub returns-then-have_path_in_way-2 : goal.returns-then-have_path_in_way-2
returns-then-have_path_in_way-2 c =
    touched_src c.args.entry.now (sym c.have_path_in_way.ensures ∙ c.if-have_path_in_way.false)
    (ap (λ (fs : List FileEntry). list_any claims_list (map path_of fs)) (sym c.as_slice.ensures.items) ∙ sym c.have_document_in_way.ensures ∙ c.if-have_document_in_way.false)
    (sym c.have_path_in_way-2.ensures ∙ c.if-have_path_in_way-2.true)

pub returns : goal.returns
returns c =
    c.have_binary_in_way.ensures ∙ ap (λ (bs : List BinFiles). list_any claims_list (flat_map bin_paths bs)) c.as_slice-2.ensures.items
    ∙ touched_bin c.args.entry.now (sym c.have_path_in_way.ensures ∙ c.if-have_path_in_way.false)
    (ap (λ (fs : List FileEntry). list_any claims_list (map path_of fs)) (sym c.as_slice.ensures.items) ∙ sym c.have_document_in_way.ensures ∙ c.if-have_document_in_way.false)
    (sym c.have_path_in_way-2.ensures ∙ c.if-have_path_in_way-2.false)
