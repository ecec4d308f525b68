use Rattle.std.proofs.Common.{◌≡◌, ℕ, List, ◌+◌, true, false, get_or, drop, Option, None, refl, sym, ◌∙◌, ap, arith, rules}
use Rattle.std.specs.Prelude.{is_some, not, ◌&&◌}
use Rattle.tl_model.specs.Words.{is_blank, quoted_parts, quoted_words}
use Rattle.tl_text.proofs.Runs.{words_more, words_cut, words_done}
use Rattle.tl_text.proofs.Quotes.{quotes_more, lone_quote, quoted_cut, quoted_on, in_stretch}
use Rattle.tl_text.specs.Quotes.{quote_after}
use Rattle.tl_text.proofs.words.quoted_words.Goals as goal
use Rattle.tl_text.proofs.words.quoted_words.Goals.{then-is_none+then-is_blank+in_ok-push_run, else-is_none, else-is_none-via-then-is_none+else-is_blank, else-is_none-via-else-is_none}

pub loop-i-preserved : goal.loop-i-preserved
loop-i-preserved c =
    let line : List ℕ = c.args.line.now in
    let b : ℕ = get_or line c.loop-i.i 0 in
    let rest : List ℕ = drop (c.loop-i.i + 1) line in
    let quote_next : Option ℕ = quote_after c.loop-i.quote b c.loop-i.i in
    rw c.quote_after-quote.ensures (
      quotes_more line c.loop-i.quote c.loop-i.i (omega arith) c.loop-i.invariant.0,
      elim c.if-is_none.branch [
        | then-is_none+then-is_blank+in_ok-push_run w ↦
            let none : c.loop-i.quote ≡ None = search rules in
            let blank : is_blank b ≡ true = sym w.is_blank.ensures ∙ w.if-is_blank.true in
            rw (w.spans-is, w.start-is, w.in_ok-push_run.ensures) (words_cut (quoted_parts (is_some c.loop-i.quote)) (quoted_parts (is_some quote_next)) line c.loop-i.spans.items c.loop-i.start c.loop-i.i (quoted_words line) (omega arith)
            (quoted_cut c.loop-i.quote b c.loop-i.i rest none blank) c.loop-i.invariant.1)
        | else-is_none w ↦
            let goes_on : (is_blank b && not (is_some c.loop-i.quote)) ≡ false = elim w.else-is_none.branch [
              | else-is_none-via-then-is_none+else-is_blank w' ↦ let no_blank : is_blank b ≡ false = sym w'.is_blank.ensures ∙ w'.if-is_blank.false in rw no_blank refl
              | else-is_none-via-else-is_none w' ↦ in_stretch (is_blank b) c.loop-i.quote (c.is_none.ensures ∙ ap not w'.if-is_none.false)
            ] in
            rw (w.spans-is, w.start-is) (words_more (quoted_parts (is_some c.loop-i.quote)) (quoted_parts (is_some quote_next)) line c.loop-i.spans.items c.loop-i.start c.loop-i.i (quoted_words line) (omega arith)
            (quoted_on c.loop-i.quote b c.loop-i.i rest goes_on) c.loop-i.invariant.1)
      ],
    )

pub returns-in-Some-clause-fault : goal.returns-in-Some-clause-fault
returns-in-Some-clause-fault c = lone_quote c.args.line.now c.loop-i.quote c.loop-i.i c.in-Some.at (omega arith) c.loop-i.invariant.0 c.in-Some.is

pub returns-clause-words : goal.returns-clause-words
returns-clause-words c =
    rw c.in_ok-push_run-2.ensures (words_done (quoted_parts (is_some c.loop-i.quote)) c.args.line.now c.loop-i.spans.items c.loop-i.start c.loop-i.i (quoted_words c.args.line.now) refl (omega arith) c.loop-i.invariant.1).0

pub returns-clause-rising : goal.returns-clause-rising
returns-clause-rising c =
    rw c.in_ok-push_run-2.ensures (words_done (quoted_parts (is_some c.loop-i.quote)) c.args.line.now c.loop-i.spans.items c.loop-i.start c.loop-i.i (quoted_words c.args.line.now) refl (omega arith) c.loop-i.invariant.1).1
