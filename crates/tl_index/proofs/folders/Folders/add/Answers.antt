use Rattle.std.proofs.Common.{ap, ◌∙◌, ◌++◌, ◌∷◌, List, ℕ, true, cond}
use Rattle.std.specs.Ordering.{nat_cmp}
use Rattle.std.specs.Cmp.Lexicographic.{slice_cmp}
use Rattle.std.specs.BTreeMap.{is_at}
use Rattle.tl_index.specs.Folders.{has_folder}
use Rattle.tl_index.proofs.FolderLemmas.{kept_added}
use Rattle.tl_index.proofs.folders.Folders.add.Goals as goal

pub returns-clause-keeps : goal.returns-clause-keeps
returns-clause-keeps c = kept_added c.args.self.now c.insert.new.self.keys c.args.folder.now c.in_ok-key.key
    (c.in_ok-key.ensures ∙ ap (λ (t : List ℕ). t ++ 47 ∷ c.args.folder.now) c.requires)
    (λ q. c.in_ok-insert.ensures.updates.0 q ∙ ap (λ (keys : List (List ℕ)). cond (is_at (slice_cmp nat_cmp c.in_ok-key.key) q) true (has_folder keys q)) c.self.view_is)
