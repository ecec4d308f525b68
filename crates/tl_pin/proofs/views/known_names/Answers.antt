use Rattle.std.proofs.Common.{ℕ, List, Bool, Bor, sym, ◌∙◌}
use Rattle.std.specs.Cmp.Lexicographic.{same_text}
use Rattle.std.specs.Str.{bytes_eq}
use Rattle.std.proofs.lemmas.List.Filters.{dedup_is}
use Rattle.tl_pin.proofs.KnownLemmas.{has-sorted, all_known}
use Rattle.tl_pin.proofs.views.known_names.Goals as goal

abbrev same : Bor (List ℕ) → Bor (List ℕ) → Bool
same x y = bytes_eq x.now y.now

pub returns : goal.returns
returns c = λ name.
    has-sorted same (λ x y is. same_text x.now y.now (sym is)) c.push_names-2.new.names.items c.sort_unstable.new.self.items c.dedup.new.self.items c.sort_unstable.ensures.permutation
    (dedup_is same c.sort_unstable.new.self.items c.dedup.new.self.items c.dedup.ensures.filtered) name
    ∙ all_known name c.args.repos.now c.args.installed.now c.loop-repo.repo-index c.loop-repo.names.items c.push_names-2.new.names.items c.loop-repo-test.false (c.in_ok-push_names-2.ensures name) (c.loop-repo.invariant name)
