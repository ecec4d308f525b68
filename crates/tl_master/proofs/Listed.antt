-- Marked paths in front of others.
use Rattle.std.proofs.Common.{◌≡◌, ℕ, true, false, cond, List, [], ◌∷◌, ◌++◌, length, map, take, drop, refl, sym, ap, ◌∙◌, append_assoc, arith}
use Rattle.std.specs.Str.{bytes_eq}
use Rattle.tl_model.specs.Volume.{Name}
use Rattle.tl_marks.specs.declared.marks.MarkedPath.{MarkedPath}
use Rattle.tl_master.specs.Listing.{behind_first, count_before, first_mark, gone, living, merged}

-- the first marked path is a name
pub taken : (name : Name) (marks : List MarkedPath) (m : MarkedPath) (rest : List MarkedPath) → marks ≡ m ∷ rest → bytes_eq m.path name ≡ true → (first_mark name marks ≡ m.mark) × (behind_first name marks ≡ rest)
taken name marks m rest is same = (
  ap (first_mark name) is ∙ ap (λ b. cond b m.mark 0) same,
  ap (behind_first name) is ∙ ap (λ b. cond b rest (m ∷ rest)) same,
)

-- the first one is another
pub not_taken : (name : Name) (marks : List MarkedPath) (m : MarkedPath) (rest : List MarkedPath) → marks ≡ m ∷ rest → bytes_eq m.path name ≡ false → (first_mark name marks ≡ 0) × (behind_first name marks ≡ marks)
not_taken name marks m rest is other = (
  ap (first_mark name) is ∙ ap (λ b. cond b m.mark 0) other,
  ap (behind_first name) is ∙ ap (λ b. cond b rest (m ∷ rest)) other ∙ sym is,
)

-- there is none
pub none_taken : (name : Name) (marks : List MarkedPath) → length marks ≡ 0 → (first_mark name marks ≡ 0) × (behind_first name marks ≡ marks)
none_taken name [] none = (refl, refl)
none_taken name (m ∷ rest) none = absurd (omega (arith, none))

-- one name more
pub merged_more : (seen : List Name) (marks all pushed next rest others left : List MarkedPath) (name : Name) (mark : ℕ) → ((more : List Name) → merged (seen ++ more) marks ≡ all ++ merged more rest)
    → pushed ≡ all ++ map gone (take (count_before name rest) rest) → others ≡ drop (count_before name rest) rest → mark ≡ first_mark name others → left ≡ behind_first name others
    → next ≡ pushed ++ record { lives = true; mark = mark; path = name } ∷ [] → (more : List Name) → merged ((seen ++ name ∷ []) ++ more) marks ≡ next ++ merged more left
merged_more seen marks all pushed next rest others left name mark so_far push drops marked behinds ends more =
    let before = map gone (take (count_before name rest) rest) in
    let behind = drop (count_before name rest) rest in
    let here : record { lives = true; mark = mark; path = name } ≡ living name behind = ap (λ (m : ℕ). record { lives = true; mark = m; path = name }) (marked ∙ ap (first_mark name) drops) in
    let after : left ≡ behind_first name behind = behinds ∙ ap (behind_first name) drops in
    ap (λ (l : List Name). merged l marks) (append_assoc seen (name ∷ []) more)
    ∙ so_far (name ∷ more)
    ∙ sym (append_assoc all before (living name behind ∷ merged more (behind_first name behind)))
    ∙ sym (
    ap (λ (l : List MarkedPath). l ++ merged more left) ends
    ∙ append_assoc pushed (record { lives = true; mark = mark; path = name } ∷ []) (merged more left)
    ∙ ap (λ (l : List MarkedPath). l ++ record { lives = true; mark = mark; path = name } ∷ merged more left) push
    ∙ ap (λ (m : MarkedPath). (all ++ before) ++ m ∷ merged more left) here
    ∙ ap (λ (l : List MarkedPath). (all ++ before) ++ living name behind ∷ merged more l) after)
