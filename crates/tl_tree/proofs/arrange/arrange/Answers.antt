use Rattle.std.proofs.Common.{◌≡◌, ◌∙◌, sym, ap, true, List}
use Rattle.std.proofs.lemmas.List.Elements.{All-from_recursion, recursion_from_All}
use Rattle.std.proofs.lemmas.List.Sorted.{All-permutation, list_any-IsPermutation}
use Rattle.tl_model.specs.Volume.{Name, same_name}
use Rattle.tl_tree.specs.declared.arrange.Coming.{Coming}
use Rattle.tl_tree.specs.Staged.{has_file, files_of}
use Rattle.tl_journal_text.specs.Records.{is_outside}
use Rattle.tl_tree.proofs.arrange.arrange.Goals as goal

pub each_once-requires : goal.each_once-requires
each_once-requires c =
    let P = λ (name : Name). is_outside name ≡ true in
    recursion_from_All P c.sort_unstable.new.self.items (All-permutation P c.args.names.items c.sort_unstable.new.self.items c.sort_unstable.ensures.permutation (All-from_recursion P c.args.names.items c.requires))

pub returns-clause-removes : goal.returns-clause-removes
returns-clause-removes c name none free =
    c.in_ok-removes.ensures.left name (ap (λ (l : List Coming). has_file name (files_of l)) c.as_slice.ensures.value ∙ none) free
    ∙ sym (list_any-IsPermutation (λ (n : Name). same_name name n) c.args.names.items c.sort_unstable.new.self.items c.sort_unstable.ensures.permutation)
