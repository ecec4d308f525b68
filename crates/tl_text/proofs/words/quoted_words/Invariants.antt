use Rattle.std.proofs.Common.{drop}
use Rattle.std.specs.Prelude.{is_some}
use Rattle.tl_model.specs.Words.{quoted_parts, quoted_words}
use Rattle.tl_text.proofs.Runs.{WordsSoFar}
use Rattle.tl_text.proofs.Quotes.{QuotesSoFar}
use Rattle.tl_text.proofs.words.quoted_words.Given as goal

abbrev pub invariant-loop-i : goal.invariant-loop-i
invariant-loop-i l =
    QuotesSoFar l.line l.quote l.i
    × WordsSoFar l.line l.spans.items l.start l.i (quoted_parts (is_some l.quote) (drop l.i l.line)) (quoted_words l.line)
