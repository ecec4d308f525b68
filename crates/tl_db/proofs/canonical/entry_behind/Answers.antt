use Rattle.std.proofs.Common.{List, ℕ, [], ◌∷◌, ◌++◌, take, drop, sym, ap, ◌∙◌, append_assoc}
use Rattle.std.specs.Ordering.{is_lt}
use Rattle.std.proofs.lemmas.Bool.{true≢false}
use Rattle.std.proofs.lemmas.List.{take-append-drop}
use Rattle.std.proofs.lemmas.Slice.Eq.{bytes_eq-Decides}
use Rattle.tl_object.specs.Writing.{object_text}
use Rattle.tl_entry.specs.Rising.{comes_before}
use Rattle.tl_db.proofs.CanonicalLemmas.{entry-behind, not-less}
use Rattle.tl_db.proofs.canonical.entry_behind.Goals as goal

pub returns-in-Less-clause-stands : goal.returns-in-Less-clause-stands
returns-in-Less-clause-stands c =
    let entry = c.in_ok-name.field-0 in
    let mid = entry.rest.now in
    let rest = c.in_ok-rest.rest.now in
    let parts = c.in_ok-rest.ensures.cases in
    let cut = sym (take-append-drop 1 mid) ∙ ap (λ (l : List ℕ). l ++ drop 1 mid) ((bytes_eq-Decides (take 1 mid) (10 ∷ [])).0 parts.0) ∙ ap (λ (l : List ℕ). (10 ∷ []) ++ l) (sym parts.1) in
    entry-behind c.args.last.now entry.name.now c.args.text.now mid rest c.in_ok-name.ensures.stands cut (ap is_lt (sym c.cmp.ensures ∙ c.in-Less.is))

pub returns-in-Equal : goal.returns-in-Equal
returns-in-Equal c = record {
  stands = tt;
  finds = λ o rest formed greater same.
      let found = c.in_ok-name.ensures.finds o rest formed (same ∙ append_assoc (object_text o) (10 ∷ []) rest) in
      true≢false (sym greater ∙ sym (ap (comes_before c.args.last.now) found.0) ∙ ap is_lt (sym c.cmp.ensures) ∙ not-less c.cmp.result c.in-Equal.is);
}
