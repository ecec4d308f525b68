-- The text of lines that are joined.
use Rattle.std.proofs.Common.{◌≡◌, ℕ, List, [], ◌∷◌, ◌++◌, refl, sym, ap, ◌∙◌, append_assoc}
use Rattle.tl_model.specs.Lines.{text_of}
use Rattle.tl_lsr.specs.Items.{all_items}
use Rattle.tl_lsr.specs.Lists.{first_line, listing, lsr_text}

-- the text of some lines and then others
pub text_of_append : (some others : List (List ℕ)) → text_of (some ++ others) ≡ text_of some ++ text_of others
text_of_append [] others = refl
text_of_append (line ∷ some) others = ap (λ (t : List ℕ). line ++ 10 ∷ t) (text_of_append some others) ∙ sym (append_assoc line (10 ∷ text_of some) (text_of others))

-- the two first lines and those of the items are the whole text
pub whole_text : (empty first both all : List ℕ) (items paths : List (List ℕ)) → empty ≡ [] → first ≡ empty ++ first_line ++ 10 ∷ [] → both ≡ first ++ [] ++ 10 ∷ []
    → all ≡ both ++ text_of (listing [] items) → items ≡ all_items paths → all ≡ lsr_text paths
unfolding lsr_text
whole_text empty first both all items paths none one two more are =
    more ∙ ap (λ (t : List ℕ). t ++ text_of (listing [] items)) (two ∙ ap (λ (t : List ℕ). t ++ [] ++ 10 ∷ []) (one ∙ ap (λ (t : List ℕ). t ++ first_line ++ 10 ∷ []) none))
    ∙ ap (λ (its : List (List ℕ)). text_of (first_line ∷ [] ∷ listing [] its)) are
