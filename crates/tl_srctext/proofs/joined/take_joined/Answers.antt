use Rattle.std.proofs.Common.{◌≡◌, ℕ, ◌+◌, ◌-◌, true, false, List, [], ◌∷◌, ◌++◌, length, take, drop, sym, ap, ◌∙◌, arith, rules}
use Rattle.std.proofs.lemmas.Grind.{common_steps}
use Rattle.std.proofs.lemmas.List.{length-take, length-drop}
use Rattle.tl_srctext.specs.Joined.{Joined, is_continued, join_from}
use Rattle.tl_srctext.proofs.JoinLemmas.{parts_of, joined_on, joined_done, joined_last}
use Rattle.tl_srctext.proofs.joined.take_joined.Goals as goal

pub returns-then-not-ends_with-clause-line : goal.returns-then-not-ends_with-clause-line
returns-then-not-ends_with-clause-line c =
    let rest = c.loop-end.rest.now in let end = c.in-Some.end in let part = c.less_return-part.result.now in
    let off : c.ends_with.result ≡ false = first_of (search rules, grind (arith, common_steps)) in
    let apart : is_continued part ≡ false = sym c.ends_with.ensures ∙ off in
    let line_with : List ℕ → List Joined =
    λ l. record { number = c.args.number; text = l } ∷ join_from (c.loop-end.next + 1) [] (c.loop-end.next + 1) (parts_of (take (length rest - (end + 1)) (drop (end + 1) rest))) in
    c.loop-end.invariant.lines
    ∙ joined_done c.args.number c.loop-end.next c.loop-end.line.items rest part end c.in-Some.ensures.0 c.in-Some.ensures.1 c.less_return-part.ensures apart
    ∙ ap line_with (sym c.in_ok-extend_from_slice.ensures.items)

pub loop-end-preserved : goal.loop-end-preserved
loop-end-preserved c =
    let rest = c.loop-end.rest.now in let end = c.in-Some.end in let part = c.less_return-part.result.now in
    let on : c.ends_with.result ≡ true = first_of (search rules, grind (arith, common_steps)) in
    let goes : is_continued part ≡ true = sym c.ends_with.ensures ∙ on in
    let line_with : List ℕ → List Joined = λ l. join_from c.args.number l (c.loop-end.next + 1) (parts_of (take (length rest - (end + 1)) (drop (end + 1) rest))) in
    record {
      lines = c.loop-end.invariant.lines
          ∙ joined_on c.args.number c.loop-end.next c.loop-end.line.items rest part end c.in-Some.ensures.0 c.in-Some.ensures.1 c.less_return-part.ensures goes
          ∙ ap line_with (ap (λ (l : List ℕ). c.loop-end.line.items ++ l) (sym c.less_last.ensures) ∙ sym c.in_ok-extend_from_slice-2.ensures.items);
      fits = omega (arith, length-take (length rest - (end + 1)) (drop (end + 1) rest), length-drop (end + 1) rest, c.in-Some.ensures.0.high, c.loop-end.invariant.fits);
      shorter = omega (arith, length-take (length rest - (end + 1)) (drop (end + 1) rest), length-drop (end + 1) rest, c.in-Some.ensures.0.high, c.loop-end.invariant.shorter);
    }

pub returns-clause-line : goal.returns-clause-line
returns-clause-line c =
    let line_with : List ℕ → List Joined = λ l. record { number = c.args.number; text = l } ∷ [] in
    c.loop-end.invariant.lines
    ∙ joined_last c.args.number c.loop-end.next c.loop-end.line.items c.loop-end.rest.now c.in_default.ensures
    ∙ ap line_with (sym c.in_ok-extend_from_slice-3.ensures.items)
