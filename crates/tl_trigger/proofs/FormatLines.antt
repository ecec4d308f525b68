-- The lines of formats.
use Rattle.std.proofs.Common.{◌≡◌, ◌<◌, ◌+◌, ◌==◌, ℕ, false, List, [], ◌∷◌, ◌++◌, length, take, get_or, refl, sym, subst, ap, ◌∙◌}
use Rattle.std.specs.Prelude.{codes}
use Rattle.std.proofs.lemmas.List.{take_more, flat_map_more}
use Rattle.std.proofs.lemmas.List.Elements.{All-append}
use Rattle.tl_model.specs.Acks.{IsPlain, plain-line, plain-nil, plain-append}
use Rattle.tl_text.specs.Texts.{IsText, IsLine-from_text}
use Rattle.tl_object.proofs.PlainLemmas.{line_tested}
use Rattle.tl_trigger.specs.Stale.{format_line, format_lines}
use Rattle.tl_trigger.proofs.OnceLemmas.{Text}

plain_format : (name : Text) → IsText name → IsPlain (format_line name)
plain_format name is =
    plain-line (codes "format " ++ name) [] (All-append (λ b. (b == 10) ≡ false) (codes "format ") name (line_tested (codes "format ") refl) (IsLine-from_text name is)) refl plain-nil

-- the line of a format behind plain ones
pub plain_pushed : (lines next name : Text) → IsText name → next ≡ lines ++ format_line name → IsPlain lines → IsPlain next
plain_pushed lines next name is grown plain = subst IsPlain (sym grown) (plain-append lines (format_line name) plain (plain_format name is))

-- the lines of one format more
pub lines_more : (lines next : Text) (names : List Text) (i : ℕ) (name : Text) → i < length names → name ≡ get_or names i name → next ≡ lines ++ format_line name → lines ≡ format_lines (take i names)
    → next ≡ format_lines (take (i + 1) names)
lines_more lines next names i name lt at grown so_far =
    grown ∙ ap (λ (l : Text). l ++ format_line name) so_far ∙ flat_map_more format_line [] (take i names) name ∙ ap (λ (n : Text). format_lines (take i names ++ n ∷ [])) at
    ∙ ap format_lines (sym (take_more names i name lt))
