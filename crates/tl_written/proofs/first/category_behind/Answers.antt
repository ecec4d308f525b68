use Rattle.tl_written.proofs.FirstLemmas.{category-stands}
use Rattle.tl_written.proofs.first.category_behind.Goals as goal

pub returns-then-is_category-clause-stands : goal.returns-then-is_category-clause-stands
returns-then-is_category-clause-stands c =
    category-stands c.in_ok-word.word.now c.args.text.now c.in_ok-word.rest.now (c.is_category.ensures.is c.if-is_category.true) c.in_ok-word.ensures.stands.1 c.in_ok-word.ensures.stands.0
