use Rattle.std.proofs.Common.{List, ℕ, ◌++◌, ◌∙◌, ap, sym, subst, map}
use Rattle.tl_plan.proofs.SetLaws.{on_ok_weaker}
use Rattle.tl_tree.specs.Changes.{own}
use Rattle.tl_coming.specs.Lasts.{AreNoted, number_at}
use Rattle.tl_coming.proofs.LastLaws.{zero_noted}
use Rattle.tl_coming.proofs.lasts.Lasts.note_entry.Goals as goal

pub returns-then-number-eq0 : goal.returns-then-number-eq0
returns-then-number-eq0 c noted are =
    zero_noted noted (number_at c.args.numbers.now c.args.entry.now.name) (own c.args.entry.now) c.args.self.now
    (ap (number_at c.args.numbers.now) (sym c.bytes.ensures.bytes) ∙ sym c.number_at-number.ensures ∙ c.if-number-eq0.true) are

pub returns : goal.returns
returns c = on_ok_weaker c.note_files.result _ _
    (λ is noted are. subst (λ (n : ℕ). AreNoted (noted ++ map (λ (f : List ℕ). (n, f)) (own c.args.entry.now)) c.note_files.new.self) (c.number_at-number.ensures ∙ ap (number_at c.args.numbers.now) c.bytes.ensures.bytes)
    (subst (λ (l : List (List ℕ)). AreNoted (noted ++ map (λ (f : List ℕ). (c.number_at-number.result, f)) l) c.note_files.new.self) (c.deref.ensures.value ∙ c.in_ok-files.ensures) (is noted are)))
    c.note_files.ensures
