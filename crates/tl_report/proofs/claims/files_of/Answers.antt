use Rattle.std.proofs.Common.{◌≡◌, ◌∷◌, ◌||◌, List, map, sym, ap, ◌∙◌, rules}
use Rattle.std.specs.List.{list_any}
use Rattle.tl_entry.specs.declared.object.Object.{Object}
use Rattle.tl_report.specs.Claims.{claim_by, claims}
use Rattle.tl_report.proofs.ClaimLemmas.{claims_more}
use Rattle.tl_report.proofs.claims.files_of.Goals as goal

pub loop-entry-preserved : goal.loop-entry-preserved
loop-entry-preserved c = λ test.
    let next : c.loop-entry.entry-iterator.rest.now ≡ c.in-Some.entry.now ∷ c.next.new.self.rest.now = search rules in
    claims_more test (map (λ file. claim_by file.1.now file.0) c.loop-entry.files.items) (map (λ file. claim_by file.1.now file.0) c.add_files.new.files.items) c.in-Some.entry.now c.next.new.self.rest.now c.args.db.now
    c.in_ok-add_files.ensures
    (ap (λ (os : List Object). list_any test (map (λ file. claim_by file.1.now file.0) c.loop-entry.files.items) || list_any test (claims os)) (sym next) ∙ c.loop-entry.invariant test)
