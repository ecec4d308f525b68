use Rattle.std.proofs.Common.{ℕ, List, Vec, Global, subst}
use Rattle.tl_srctext.specs.Reading.{source_of}
use Rattle.tl_master.specs.Answers.{Judges}
use Rattle.tl_master.specs.Sources.{from_text, text_of_source}
use Rattle.tl_master.specs.declared.master.MarkedSource.{MarkedSource}
use Rattle.tl_master.proofs.Finding.{asks_finds, judges_finds, finds_then}
use Rattle.tl_master.proofs.sources.source_in.Goals as goal

pub returns : goal.returns
returns g c =
    let file = c.args.file.now in
    finds_then g.H.Host.tells (λ (text : Vec ℕ Global). text.items) (λ (s : MarkedSource). s) (λ verdicts t. text_of_source t file)
    (λ verdicts t text. from_text verdicts c.args.platforms.now file (source_of file.name text)) c.args.tree.now c.text_of.new.tree c.text_of.new.tree c.args.regexps.now c.args.regexps.now c.from_text.new.regexps
    c.in_ok-text.text c.from_text.result
    (asks_finds g.H.Host.tells (λ (text : Vec ℕ Global). text.items) (λ t. text_of_source t file) c.args.tree.now c.text_of.new.tree c.args.regexps.now _ c.in_ok-text.ensures.text)
    (judges_finds g.H.Host.tells (λ (s : MarkedSource). s) (λ verdicts. from_text verdicts c.args.platforms.now file (source_of file.name c.in_ok-text.text.items)) c.text_of.new.tree c.args.regexps.now
    c.from_text.new.regexps c.from_text.result
    (subst (λ (l : List ℕ). Judges (λ (s : MarkedSource). s) (λ verdicts. from_text verdicts c.args.platforms.now file (source_of file.name l)) c.args.regexps.now c.from_text.new.regexps c.from_text.result)
    c.deref.ensures.value c.from_text.ensures))
