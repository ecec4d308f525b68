use Rattle.std.proofs.Common.{List, ℕ, [], ◌∷◌, refl, subst, sym}
use Rattle.std.proofs.lemmas.List.Elements.{All-nil}
use Rattle.tl_model.specs.Acks.{IsPlain, plain-nil, plain-line, plain-append}
use Rattle.tl_master.proofs.expanded.append_entry.Goals as goal

-- an empty line
empty_line : IsPlain (10 ∷ [])
empty_line = plain-line [] [] (All-nil _) refl plain-nil

pub returns-clause-plain : goal.returns-clause-plain
returns-clause-plain c plain = subst (λ (l : List ℕ). IsPlain l) (sym c.in_ok-push.ensures.items)
    (plain-append c.append_object.new.out.items (10 ∷ []) (c.in_ok-append_object.ensures.plain plain) empty_line)
