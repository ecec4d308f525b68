use Rattle.std.proofs.Common.{◌≡◌, ◌∷◌, arith, sym, subst, ◌∙◌, List, ℕ, true}
use Rattle.tl_object.specs.Content.{content, entry_lines}
use Rattle.tl_object.specs.Steps.{IsSection, is_file_line}
use Rattle.tl_object.proofs.ReadingLemmas.{section-more, section-fails}
use Rattle.tl_object.proofs.section.read_files.Goals as goal

pub returns-in-Err-clause-fault : goal.returns-in-Err-clause-fault
returns-in-Err-clause-fault g c =
    let place = g.S.SectionFiles.place in let files = g.S.SectionFiles.entries c.loop-found.files in
    let before = entry_lines c.args.stops (content c.args.number c.args.text.now) in
    let line = c.in-Some.found.line.now in let number = c.in-Some.found.number in
    let rest = entry_lines c.args.stops (content number c.in-Some.found.rest.now) in
    let so_far : IsSection place files before ((number, line) ∷ rest) =
    subst (λ (now : List (ℕ × List ℕ)). IsSection place files before now) c.in-Some.ensures.line c.loop-found.invariant.section in
    let is : is_file_line line ≡ true = sym c.starts_file.ensures ∙ c.if-not-starts_file.false in
    λ groups head here. rw c.at.ensures (section-fails c.in-Err.fault place files before rest number line so_far is c.in-Err.ensures groups head here)

pub loop-found-preserved : goal.loop-found-preserved
loop-found-preserved g c =
    let place = g.S.SectionFiles.place in let files = g.S.SectionFiles.entries c.loop-found.files in
    let before = entry_lines c.args.stops (content c.args.number c.args.text.now) in
    let line = c.in-Some.found.line.now in let number = c.in-Some.found.number in
    let rest = entry_lines c.args.stops (content number c.in-Some.found.rest.now) in
    let so_far : IsSection place files before ((number, line) ∷ rest) =
    subst (λ (now : List (ℕ × List ℕ)). IsSection place files before now) c.in-Some.ensures.line c.loop-found.invariant.section in
    let is : is_file_line line ≡ true = sym c.starts_file.ensures ∙ c.if-not-starts_file.false in
    record {
      section = section-more place files (g.S.SectionFiles.entries c.read_file.new.files) before rest number line so_far is c.in-Ok.ensures;
      left = c.loop-found.invariant.left ∙ c.in-Some.ensures.left;
      fits = omega (arith, c.in-Some.ensures.fits);
      shorter = omega (arith, c.in-Some.ensures.shorter);
    }
