use Rattle.std.proofs.Common.{◌≡◌, ℕ, List, cond, false, Some, sym, ap, ◌∙◌}
use Rattle.std.specs.Str.{bytes_eq}
use Rattle.std.specs.Cmp.Lexicographic.{texts_ties}
use Rattle.tl_model.specs.Volume.{same_name}
use Rattle.tl_db.specs.Entries.{entry_of}
use Rattle.tl_db.specs.Options.{installation}
use Rattle.tl_depend.proofs.needing.installation.Goals as goal

pub loop-entry-preserved : goal.loop-entry-preserved
loop-entry-preserved c =
    let entry = c.in-Some.entry.now in
    let apart : same_name entry.name installation ≡ false =
    sym (texts_ties entry.name installation) ∙ sym (ap (λ (name : List ℕ). bytes_eq name installation) c.bytes.ensures.bytes) ∙ sym c.eq.ensures ∙ c.if-eq.false in
    sym (ap (λ t. cond t (Some entry) (entry_of installation c.next.new.self.rest.now)) apart) ∙ sym (ap (entry_of installation) c.in-Some.ensures.steps) ∙ c.loop-entry.invariant
