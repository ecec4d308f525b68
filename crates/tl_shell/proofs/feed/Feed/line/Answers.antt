use Rattle.std.proofs.Common.{rules, ◌≡◌, ◌+◌, ◌<◌, ◌++◌, ℕ, true, false, List, [], length, drop, Some, sym, subst, ap, ◌∙◌, refl, arith}
use Rattle.std.proofs.lemmas.Result.{err_from_is_err_and}
use Rattle.tl_shell.specs.Feeds.{Feeding, TakesPart, FeedsLine, left_behind}
use Rattle.tl_shell.proofs.FeedLemmas.{IsFed, TakesLine, fed_start, fed_on, all_on, takes_ended, takes_last, fault_of_part, feeds}
use Rattle.tl_shell.proofs.feed.Feed.line.Goals as goal

pub loop-line-init : goal.loop-line-init
loop-line-init g c = record {
  read = fed_start c.args.self.now.taken c.new-line.result.items c.new-line.ensures.items;
  taken = refl;
  all = λ t. ap (λ (l : List ℕ). l ++ left_behind c.args.self.now (g.I.Source.seen c.args.input.now)) (sym c.new-line.ensures.items);
  later = omega arith;
}

pub loop-line-preserved : goal.loop-line-preserved
loop-line-preserved g c =
    let s = g.I.Source.seen in
    let before = c.loop-line.line.items in
    let after = c.take_part.new.line.items in
    let left = (s c.fill.new.input).left in
    let part : TakesPart false c.fill.new.self c.take_part.new.self before after = search rules in
    let fed : IsFed c.fill.new.self.taken before = subst (λ (n : ℕ). IsFed n before) (sym c.fill.ensures.taken) c.loop-line.invariant.read in
    record {
      read = subst (λ (n : ℕ). IsFed n after) (sym part.taken) (fed_on c.fill.new.self c.take_part.new.self before after part fed);
      taken = part.taken ∙ c.fill.ensures.taken ∙ c.loop-line.invariant.taken;
      all = λ t. all_on c.fill.new.self c.take_part.new.self before after left (left_behind c.args.self.now (s c.args.input.now)) part
          (c.loop-line.invariant.all t ∙ ap (λ (l : List ℕ). before ++ l) (sym (c.in_ok-fill.ensures.all t)));
      later = omega arith;
    }

pub returns-in_err-take_part-clause-fault : goal.returns-in_err-take_part-clause-fault
returns-in_err-take_part-clause-fault g c =
    let s = g.I.Source.seen in
    let before = c.loop-line.line.items in
    let fed : IsFed c.fill.new.self.taken before = subst (λ (n : ℕ). IsFed n before) (sym c.fill.ensures.taken) c.loop-line.invariant.read in
    let error = fault_of_part g.I.Source.tells c.args.self.now.taken c.fill.new.self before (s c.fill.new.input).left (left_behind c.args.self.now (s c.args.input.now)) c.in_err-take_part.field-0.0 fed
    (c.fill.ensures.taken ∙ c.loop-line.invariant.taken) (λ t. c.loop-line.invariant.all t ∙ ap (λ (l : List ℕ). before ++ l) (sym (c.in_ok-fill.ensures.all t))) c.in_err-take_part.ensures.fault in
    let p = err_from_is_err_and c.from_residual-in_err-take_part.result c.from_residual-in_err-take_part.ensures.1 in
    rw (p.1, p.2) error

pub returns-then-branch-2-clause-line : goal.returns-then-branch-2-clause-line
returns-then-branch-2-clause-line g c t =
    let s = g.I.Source.seen in
    let before = c.loop-line.line.items in
    let after = c.take_part.new.line.items in
    let left = (s c.fill.new.input).left in
    let text = left_behind c.args.self.now (s c.args.input.now) in
    let part : TakesPart true c.fill.new.self c.take_part.new.self before after = search rules in
    let start : c.fill.new.self.taken ≡ c.args.self.now.taken = c.fill.ensures.taken ∙ c.loop-line.invariant.taken in
    let fed : IsFed c.fill.new.self.taken before = subst (λ (n : ℕ). IsFed n before) (sym c.fill.ensures.taken) c.loop-line.invariant.read in
    let takes = takes_ended c.fill.new.self c.take_part.new.self before after left text fed part (c.loop-line.invariant.all t ∙ ap (λ (l : List ℕ). before ++ l) (sym (c.in_ok-fill.ensures.all t))) in
    let view : Feeding = record { ahead = drop c.self.inside.at c.self.inside.bytes.items; taken = c.self.inside.taken + (c.len.result + 1) } in
    let ahead_is : view.ahead ≡ c.take_part.new.self.ahead = ap (λ (f : Feeding). f.ahead) c.self.view_is in
    let taken_is : c.self.inside.taken ≡ c.take_part.new.self.taken = ap (λ (f : Feeding). f.taken) c.self.view_is in
    let len_is : c.len.result ≡ length after = search rules in
    let used : view.taken ≡ c.args.self.now.taken + (length after + 1) = omega (arith, len_is, taken_is, part.taken, start) in
    let rest = c.take_part.new.self.ahead ++ left in
    let here = subst (λ (n : ℕ). TakesLine n (length after + 1) text after rest) start takes in
    subst (λ (behind : List ℕ). FeedsLine c.args.self.now view text behind (Some after)) (ap (λ (l : List ℕ). l ++ left) (sym ahead_is)) (feeds c.args.self.now view (length after + 1) text after rest here used)

pub returns-clause-line : goal.returns-clause-line
returns-clause-line g c t =
    let s = g.I.Source.seen in
    let line = c.loop-line.line.items in
    let left = (s c.fill.new.input).left in
    let text = left_behind c.args.self.now (s c.args.input.now) in
    let ended : c.in_ok-fill.field-0 ≡ false = search rules in
    let ahead_none : c.fill.new.self.ahead ≡ [] = c.in_ok-fill.ensures.ended ended in
    let left_none : left ≡ [] = c.in_ok-fill.ensures.left t ended in
    let nothing : c.fill.new.self.ahead ++ left ≡ [] = ap (λ (l : List ℕ). l ++ left) ahead_none ∙ left_none in
    let whole : text ≡ line ++ [] = c.loop-line.invariant.all t ∙ ap (λ (l : List ℕ). line ++ l) (sym (c.in_ok-fill.ensures.all t)) ∙ ap (λ (l : List ℕ). line ++ l) nothing in
    let some : 0 < length line = search rules in
    let fed : IsFed c.args.self.now.taken line = subst (λ (n : ℕ). IsFed n line) c.loop-line.invariant.taken c.loop-line.invariant.read in
    let view : Feeding = record { ahead = drop c.self-2.inside.at c.self-2.inside.bytes.items; taken = c.self-2.inside.taken + c.len-2.result } in
    let taken_is : c.self-2.inside.taken ≡ c.fill.new.self.taken = ap (λ (f : Feeding). f.taken) c.self-2.view_is in
    let len_is : c.len-2.result ≡ length line = search rules in
    let used : view.taken ≡ c.args.self.now.taken + length line = omega (arith, len_is, taken_is, c.fill.ensures.taken, c.loop-line.invariant.taken) in
    let rest_is : view.ahead ++ left ≡ [] = ap (λ (l : List ℕ). l ++ left) (ap (λ (f : Feeding). f.ahead) c.self-2.view_is) ∙ nothing in
    subst (λ (behind : List ℕ). FeedsLine c.args.self.now view text behind (Some line)) (sym rest_is)
    (feeds c.args.self.now view (length line) text line [] (takes_last c.args.self.now.taken line text some fed whole) used)
