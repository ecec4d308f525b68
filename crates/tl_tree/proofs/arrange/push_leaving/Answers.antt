use Rattle.std.proofs.Common.{List, ℕ, sym, ◌∙◌, ap}
use Rattle.tl_tree.specs.Staged.{has_name}
use Rattle.tl_tree.proofs.Members.{left_there, left_coming, left_waiting, has_name-push}
use Rattle.tl_tree.proofs.arrange.push_leaving.Goals as goal

pub returns-then-is_last-clause-left : goal.returns-then-is_last-clause-left
returns-then-is_last-clause-left c name none free =
    left_there c.args.path name c.args.names.now.items (ap (λ (ns : List (List ℕ)). has_name c.args.path ns) (sym c.as_slice.ensures.value) ∙ c.is_last.ensures c.if-is_last.true)

pub returns-then-comes-clause-left : goal.returns-then-comes-clause-left
returns-then-comes-clause-left c name none free = left_coming c.args.path name c.args.names.now.items c.args.writes.now (c.comes.ensures c.if-comes.true) none

pub returns-then-has-clause-left : goal.returns-then-has-clause-left
returns-then-has-clause-left c name none free = left_waiting c.args.path name c.args.names.now.items c.args.waiting.now (sym c.has.ensures ∙ c.if-has.true) free

pub returns-clause-left : goal.returns-clause-left
returns-clause-left c name none free = ap (λ (ns : List (List ℕ)). has_name name ns) c.in_ok-push.ensures.items ∙ has_name-push name c.args.names.now.items c.args.path
