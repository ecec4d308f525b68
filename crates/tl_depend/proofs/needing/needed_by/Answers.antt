use Rattle.std.proofs.Common.{◌≡◌, ℕ, List, true, sym, ap, subst, ◌∙◌}
use Rattle.tl_path.specs.Names.{is_name}
use Rattle.std.specs.Prelude.{find, option_map}
use Rattle.tl_entry.specs.declared.object.Object.{Object}
use Rattle.tl_model.specs.Words.{fields}
use Rattle.tl_depend.specs.Needed.{needs_name, needed_by}
use Rattle.tl_depend.proofs.NeedLemmas.{needed-alike}
use Rattle.tl_depend.proofs.needing.needed_by.Goals as goal

pub returns-in-Some : goal.returns-in-Some
returns-in-Some c =
    let db = c.args.db.now in
    let leaving = c.args.leaving.now.keys in
    ap (option_map (λ (entry : Object). entry.name)) c.in-Some.ensures
    ∙ needed-alike db c.bytes.result.now leaving (fields c.platforms_text.result.now) (subst (λ (name : List ℕ). is_name name ≡ true) (sym c.bytes.ensures.bytes) c.bytes.ensures.name) c.platforms_text.ensures
    ∙ ap (λ (name : List ℕ). needed_by db name leaving) c.bytes.ensures.bytes

pub returns-in-None : goal.returns-in-None
returns-in-None c =
    let db = c.args.db.now in
    let leaving = c.args.leaving.now.keys in
    ap (option_map (λ (entry : Object). entry.name)) c.in-None.ensures
    ∙ needed-alike db c.bytes.result.now leaving (fields c.platforms_text.result.now) (subst (λ (name : List ℕ). is_name name ≡ true) (sym c.bytes.ensures.bytes) c.bytes.ensures.name) c.platforms_text.ensures
    ∙ ap (λ (name : List ℕ). needed_by db name leaving) c.bytes.ensures.bytes
