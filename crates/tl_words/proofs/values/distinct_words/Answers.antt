use Rattle.std.proofs.Common.{rules, ◌≡◌, ℕ, List, true, not, sym, ◌∙◌, ap, bytes_eq}
use Rattle.std.specs.List.{list_any}
use Rattle.tl_words.specs.Commands.{unplaced, distinct_after}
use Rattle.tl_words.specs.Inside.{words_left}
use Rattle.tl_words.proofs.Seen.{nows, keeps_new, sees_new}
use Rattle.tl_words.proofs.values.distinct_words.Goals as goal

pub loop-operand-preserved : goal.loop-operand-preserved
loop-operand-preserved c =
    let old = c.loop-operand.words.items in
    let word = c.in-Some.operand.word in
    let unseen : true ≡ not (list_any (bytes_eq word.now) (nows old))
    = sym c.if-not-is_new.false ∙ c.in_ok-is_new.ensures.added ∙ ap not (c.loop-operand.invariant.seen word) in record {
      can = search rules;
      ends = search rules;
      same = c.loop-operand.invariant.same
          ∙ ap (λ (ps : List (ℕ × List ℕ)). distinct_after (nows old) (unplaced ps)) c.in-Some.ensures.steps
          ∙ keeps_new old c.push.new.self.items word (words_left c.next.new.self) c.in_ok-push.ensures.items unseen;
      seen = λ q. sees_new old c.push.new.self.items word q _ _ c.in_ok-push.ensures.items (c.loop-operand.invariant.seen q) (c.in_ok-is_new.ensures.updates.0 q);
    }
