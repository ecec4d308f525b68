-- The entries of the view, gathered as references.
use Rattle.std.proofs.Common.{◌≡◌, ◌+◌, ◌<◌, ℕ, List, [], ◌∷◌, ◌++◌, length, take, get_or, map, Option, Some, None, Bor, refl, sym, ◌∙◌, ap}
use Rattle.std.specs.List.{filter_map, cons_option}
use Rattle.std.proofs.lemmas.List.{append-nil, map_more}
use Rattle.std.proofs.lemmas.List.Elements.{filter_map-append}
use Rattle.tl_entry.specs.declared.object.Object.{Object}

-- the entries to which references lead
abbrev pub entries_at : List (Bor Object) → List Object
entries_at refs = map (λ (r : Bor Object). r.now) refs

-- the names to which references lead
abbrev pub names_at : List (Bor (List ℕ)) → List (List ℕ)
names_at refs = map (λ (r : Bor (List ℕ)). r.now) refs

entries-push : (refs : List (Bor Object)) (entry : Bor Object) → entries_at (refs ++ entry ∷ []) ≡ entries_at refs ++ entry.now ∷ []
entries-push [] entry = refl
entries-push (ref ∷ refs) entry = ap (λ (es : List Object). ref.now ∷ es) (entries-push refs entry)

module _ (f : List ℕ → Option Object) (names : List (Bor (List ℕ))) (i : ℕ) (name : Bor (List ℕ)) (lt : i < length names) (at : name ≡ get_or names i name) where
  next_found : filter_map f (names_at (take (i + 1) names)) ≡ filter_map f (names_at (take i names)) ++ cons_option (f name.now) []
  next_found =
      ap (filter_map f) (map_more (λ (r : Bor (List ℕ)). r.now) names i name lt ∙ ap (λ (r : Bor (List ℕ)). names_at (take i names) ++ r.now ∷ []) (sym at))
      ∙ filter_map-append f (names_at (take i names)) (name.now ∷ [])

  -- the entry of a name more
  pub found-more : (entry : Bor Object) (before after : List (Bor Object)) → f name.now ≡ Some entry.now → after ≡ before ++ entry ∷ [] → entries_at before ≡ filter_map f (names_at (take i names))
      → entries_at after ≡ filter_map f (names_at (take (i + 1) names))
  found-more entry before after is added so_far =
      ap entries_at added ∙ entries-push before entry ∙ ap (λ (es : List Object). es ++ entry.now ∷ []) so_far ∙ sym (next_found ∙ ap (λ (o : Option Object). filter_map f (names_at (take i names)) ++ cons_option o []) is)

  -- a name without an entry
  pub found-none : (before : List Object) → f name.now ≡ None → before ≡ filter_map f (names_at (take i names)) → before ≡ filter_map f (names_at (take (i + 1) names))
  found-none before is so_far =
      so_far ∙ sym (next_found ∙ ap (λ (o : Option Object). filter_map f (names_at (take i names)) ++ cons_option o []) is ∙ append-nil (filter_map f (names_at (take i names))))
