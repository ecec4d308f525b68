use Rattle.std.proofs.Common.{◌≡◌, ◌++◌, ◌∙◌, ap, subst, List, ℕ}
use Rattle.std.specs.Prelude.{map}
use Rattle.std.specs.List.Sorted.{IsPermutation}
use Rattle.std.proofs.lemmas.List.Sorted.{IsPermutation-map}
use Rattle.tl_model.specs.Volume.{Name}
use Rattle.tl_tree.specs.Changes.{named_bytes, coming}
use Rattle.tl_tree.specs.declared.arrange.Coming.{Coming}
use Rattle.tl_tree.specs.Staged.{files_of, file_of}
use Rattle.tl_tree.proofs.arrange.all_coming.Goals as goal

pub returns : goal.returns
returns c =
    let more = map named_bytes c.args.made.now in
    let same : files_of c.push_files.new.out.items ≡ coming c.args.parts.now ++ more =
    c.in_ok-push_files.ensures
    ∙ ap (λ (fs : List (Name × List ℕ)). fs ++ more) (c.in_ok-push_parts.ensures ∙ ap (λ (l : List Coming). files_of l ++ coming c.args.parts.now) c.new-files.ensures.items) in
    subst (λ (fs : List (Name × List ℕ)). IsPermutation fs (files_of c.sort_unstable_by.new.self.items)) same
    (IsPermutation-map file_of c.push_files.new.out.items c.sort_unstable_by.new.self.items c.sort_unstable_by.ensures.permutation)
