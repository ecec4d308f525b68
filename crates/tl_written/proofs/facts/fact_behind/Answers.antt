use Rattle.std.proofs.Common.{sym, ◌∙◌}
use Rattle.tl_written.proofs.FactLemmas.{value_line, fact_stands, unworded, unlined, unspaced, fact-found, unkeyed}
use Rattle.tl_written.proofs.TextLemmas.{untexted}
use Rattle.tl_written.proofs.facts.fact_behind.Goals.{else-is_fact_key-via-then-is_fact_key+else-is_text, else-is_fact_key-via-else-is_fact_key}
use Rattle.tl_written.proofs.facts.fact_behind.Goals as goal

pub is_text-requires : goal.is_text-requires
is_text-requires c = value_line c.in_ok-line.line.now c.in_ok-key.key.now c.in_ok-key.value.now 32 c.in_ok-key.ensures.stands.0 c.in_ok-line.ensures.stands.1

pub returns-then-is_text-clause-stands : goal.returns-then-is_text-clause-stands
returns-then-is_text-clause-stands c =
    fact_stands c.args.text.now c.in_ok-behind.field-0.now c.in_ok-line.line.now c.in_ok-key.key.now c.in_ok-key.value.now c.in_ok-line.rest.now c.in_ok-behind.ensures.stands c.in_ok-line.ensures.stands.0
    c.in_ok-key.ensures.stands.0 (sym c.is_fact_key.ensures ∙ c.if-is_fact_key.true) (c.is_text.ensures.is c.if-is_text.true)

pub returns-in_err-behind-clause-finds : goal.returns-in_err-behind-clause-finds
returns-in_err-behind-clause-finds c = λ fact rest is lacks same. absurd (unworded c.args.text.now fact rest c.in_err-behind.ensures.none same)

pub returns-in_err-line-clause-finds : goal.returns-in_err-line-clause-finds
returns-in_err-line-clause-finds c = λ fact rest is lacks same. absurd (unlined c.args.text.now c.in_ok-behind.field-0.now c.in_ok-behind.ensures.stands c.in_err-line.ensures.finds fact rest is same)

pub returns-in_err-key-clause-finds : goal.returns-in_err-key-clause-finds
returns-in_err-key-clause-finds c = λ fact rest is lacks same. absurd (
    unspaced c.args.text.now c.in_ok-behind.field-0.now c.in_ok-line.line.now c.in_ok-line.rest.now c.in_ok-behind.ensures.stands c.in_ok-line.ensures.finds c.in_err-key.ensures.finds fact rest is same)

pub returns-then-is_text-clause-finds : goal.returns-then-is_text-clause-finds
returns-then-is_text-clause-finds c = λ fact rest is lacks same.
    (fact-found c.args.text.now c.in_ok-behind.field-0.now c.in_ok-line.line.now c.in_ok-key.key.now c.in_ok-key.value.now c.in_ok-line.rest.now c.in_ok-behind.ensures.stands c.in_ok-line.ensures.finds c.in_ok-key.ensures.finds
    fact rest is same).behind

pub returns-else-is_fact_key-clause-finds : goal.returns-else-is_fact_key-clause-finds
returns-else-is_fact_key-clause-finds c = λ fact rest is lacks same.
    let found = fact-found c.args.text.now c.in_ok-behind.field-0.now c.in_ok-line.line.now c.in_ok-key.key.now c.in_ok-key.value.now c.in_ok-line.rest.now c.in_ok-behind.ensures.stands c.in_ok-line.ensures.finds c.in_ok-key.ensures.finds
    fact rest is same in
    elim c.else-is_fact_key.branch [
      | else-is_fact_key-via-then-is_fact_key+else-is_text w ↦ untexted w.is_text.result c.in_ok-key.value.now fact.value w.if-is_text.false w.is_text.ensures.all is.value found.value
      | else-is_fact_key-via-else-is_fact_key w ↦ unkeyed c.in_ok-key.key.now fact.key (sym c.is_fact_key.ensures ∙ w.if-is_fact_key.false) is.key found.key
    ]
