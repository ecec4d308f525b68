use Rattle.std.proofs.Common.{◌∙◌, ℕ, List, Option, sym, ap}
use Rattle.std.specs.Borrow.{Bor}
use Rattle.std.specs.Option.{option_map}
use Rattle.tl_model.specs.Volume.{Volume, at, at-insert_here, at-insert_apart, at-remove_here, at-remove_apart}
use Rattle.tl_memhost.proofs.files.Files.give.Goals as goal

pub returns-in_ok-set-in-Some-clause-here : goal.returns-in_ok-set-in-Some-clause-here
returns-in_ok-set-in-Some-clause-here c = ap (λ (v : Volume). at v c.args.name.now) c.in_ok-set-in-Some.ensures.ok ∙ at-insert_here _ _ _ ∙ sym (ap (λ (o : Option (Bor (List ℕ))). option_map (λ (b : Bor (List ℕ)). b.now) o) c.in-Some.is)

pub returns-in_ok-set-in-Some-clause-apart : goal.returns-in_ok-set-in-Some-clause-apart
returns-in_ok-set-in-Some-clause-apart c = λ other ne. ap (λ (v : Volume). at v other) c.in_ok-set-in-Some.ensures.ok ∙ at-insert_apart _ _ _ other ne

pub returns-in-None-clause-here : goal.returns-in-None-clause-here
returns-in-None-clause-here c = ap (λ (v : Volume). at v c.args.name.now) c.remove.ensures.removed ∙ at-remove_here _ _ ∙ sym (ap (λ (o : Option (Bor (List ℕ))). option_map (λ (b : Bor (List ℕ)). b.now) o) c.in-None.is)

pub returns-in-None-clause-apart : goal.returns-in-None-clause-apart
returns-in-None-clause-apart c = λ other ne. ap (λ (v : Volume). at v other) c.remove.ensures.removed ∙ at-remove_apart _ _ other ne
