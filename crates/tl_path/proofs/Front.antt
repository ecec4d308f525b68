-- A path is below a directory where the directory and a '/' stand at its front.
use Rattle.std.proofs.Common.{◌≡◌, ◌≢◌, ℕ, ◌<◌, ◌≤◌, Bool, true, false, cond, ◌&&◌, List, [], ◌∷◌, length, get_or, take, refl, sym, ◌∙◌, ap, nat_eq, arith}
use Rattle.std.specs.List.{onto_first}
use Rattle.std.specs.Cmp.Lexicographic.{pointwise}
use Rattle.std.proofs.lemmas.Bool.Decides.{nat_tests}
use Rattle.tl_path.specs.Components.{components, is_below, is_proper_front}
use Rattle.tl_path.proofs.Split.{slash, lengths, lengths-components}

and_false : (b : Bool) → (b && false) ≡ false
and_false true = refl
and_false false = refl

and_assoc : (a b c : Bool) → ((a && b) && c) ≡ (a && (b && c))
and_assoc true b c = refl
and_assoc false b c = refl

-- the directory and a '/' at the path's front
abbrev begins : List ℕ → List ℕ → Bool
begins [] [] = false
begins [] (p ∷ path) = slash p
begins (d ∷ dir) [] = false
begins (d ∷ dir) (p ∷ path) = nat_eq d p && begins dir path

some : (cs : List (List ℕ)) → 0 < lengths cs → (first : List ℕ) × ((rest : List (List ℕ)) × (cs ≡ first ∷ rest))
some [] h = absurd (omega (arith, h))
some (c ∷ cs) h = (c, (cs, refl))

some_parts : (text : List ℕ) → (first : List ℕ) × ((rest : List (List ℕ)) × (components text ≡ first ∷ rest))
some_parts text = some (components text) (omega (arith, lengths-components text))

-- one more byte at both fronts
step : (s t : Bool) (d p : ℕ) (c e : List ℕ) (cs es : List (List ℕ)) → s ≡ slash d → t ≡ slash p
    → is_proper_front (cond s ([] ∷ c ∷ cs) ((d ∷ c) ∷ cs)) (cond t ([] ∷ e ∷ es) ((p ∷ e) ∷ es))
    ≡ (nat_eq d p && is_proper_front (c ∷ cs) (e ∷ es))
step true true d p c e cs es hs ht =
    let same : nat_eq d p ≡ true = grind (arith, nat_tests) in rw same
step true false d p c e cs es hs ht =
    let other : nat_eq d p ≡ false = grind (arith, nat_tests) in rw other
step false true d p c e cs es hs ht =
    let other : nat_eq d p ≡ false = grind (arith, nat_tests) in rw other
step false false d p c e cs es hs ht = and_assoc (nat_eq d p) (pointwise nat_eq c e) (is_proper_front cs es)

at_front : (t : Bool) (p : ℕ) (e : List ℕ) (es : List (List ℕ)) → is_proper_front ([] ∷ []) (cond t ([] ∷ e ∷ es) ((p ∷ e) ∷ es)) ≡ t
at_front true p e es = refl
at_front false p e es = refl

at_end : (s : Bool) (d : ℕ) (c : List ℕ) (cs : List (List ℕ)) → is_proper_front (cond s ([] ∷ c ∷ cs) ((d ∷ c) ∷ cs)) ([] ∷ []) ≡ false
at_end true d c cs = refl
at_end false d c cs = refl

pub is_below-begins : (dir path : List ℕ) → is_below path dir ≡ begins dir path
is_below-begins [] [] = refl
is_below-begins [] (p ∷ path) =
    let q = some_parts path in
    ap (λ cs. is_proper_front ([] ∷ []) (cond (slash p) ([] ∷ cs) (onto_first p cs))) q.1.1 ∙ at_front (slash p) p q.0 q.1.0
is_below-begins (d ∷ dir) [] =
    let q = some_parts dir in
    ap (λ cs. is_proper_front (cond (slash d) ([] ∷ cs) (onto_first d cs)) ([] ∷ [])) q.1.1 ∙ at_end (slash d) d q.0 q.1.0
is_below-begins (d ∷ dir) (p ∷ path) =
    let q = some_parts dir in
    let r = some_parts path in
    ap (λ cs. is_proper_front (cond (slash d) ([] ∷ cs) (onto_first d cs)) (cond (slash p) ([] ∷ components path) (onto_first p (components path)))) q.1.1
    ∙ ap (λ es. is_proper_front (cond (slash d) ([] ∷ q.0 ∷ q.1.0) ((d ∷ q.0) ∷ q.1.0)) (cond (slash p) ([] ∷ es) (onto_first p es))) r.1.1
    ∙ step (slash d) (slash p) d p q.0 r.0 q.1.0 r.1.0 refl refl
    ∙ ap (λ b. nat_eq d p && b) (ap (λ cs. is_proper_front cs (r.0 ∷ r.1.0)) (sym q.1.1) ∙ ap (is_proper_front (components dir)) (sym r.1.1) ∙ is_below-begins dir path)

begins_short : (dir path : List ℕ) → length path ≤ length dir → begins dir path ≡ false
begins_short [] [] h = refl
begins_short [] (p ∷ path) h = absurd (omega arith)
begins_short (d ∷ dir) [] h = refl
begins_short (d ∷ dir) (p ∷ path) h = ap (λ b. nat_eq d p && b) (begins_short dir path (omega arith)) ∙ and_false (nat_eq d p)

begins_other : (dir path : List ℕ) → get_or path (length dir) 0 ≢ 47 → begins dir path ≡ false
begins_other [] [] h = refl
begins_other [] (p ∷ path) h = grind (arith, nat_tests, h)
begins_other (d ∷ dir) [] h = refl
begins_other (d ∷ dir) (p ∷ path) h = ap (λ b. nat_eq d p && b) (begins_other dir path h) ∙ and_false (nat_eq d p)

flip : (a b : ℕ) → nat_eq a b ≡ nat_eq b a
flip a b = grind (arith, nat_tests)

begins_same : (dir path : List ℕ) → length dir < length path → get_or path (length dir) 0 ≡ 47 → pointwise nat_eq (take (length dir) path) dir ≡ begins dir path
begins_same [] [] l h = absurd (omega arith)
begins_same [] (p ∷ path) l h = grind (arith, nat_tests, h)
begins_same (d ∷ dir) [] l h = absurd (omega arith)
begins_same (d ∷ dir) (p ∷ path) l h = ap (λ b. nat_eq p d && b) (begins_same dir path (omega arith) h) ∙ ap (λ b. b && begins dir path) (flip p d)

pub is_below_short : (path dir : List ℕ) → length path ≤ length dir → is_below path dir ≡ false
is_below_short path dir h = is_below-begins dir path ∙ begins_short dir path h

pub is_below_other : (path dir : List ℕ) → get_or path (length dir) 0 ≢ 47 → is_below path dir ≡ false
is_below_other path dir h = is_below-begins dir path ∙ begins_other dir path h

pub is_below_same : (path dir : List ℕ) → length dir < length path → get_or path (length dir) 0 ≡ 47 → pointwise nat_eq (take (length dir) path) dir ≡ is_below path dir
is_below_same path dir l h = begins_same dir path l h ∙ sym (is_below-begins dir path)
