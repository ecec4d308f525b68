-- Names among others.
use Rattle.std.proofs.Common.{◌≡◌, ◌<◌, ℕ, zero, suc, Bool, true, false, ◌||◌, List, [], ◌∷◌, ◌++◌, length, get_or, refl, sym, ◌∙◌, ap, subst, arith}
use Rattle.std.specs.List.{list_any}
use Rattle.std.specs.FinSet as set
use Rattle.std.proofs.lemmas.Bool.{true≢false}
use Rattle.tl_model.specs.Volume.{Name, Names, same_name, same_name-is, same_name-refl}
use Rattle.tl_tree.specs.declared.arrange.Coming.{Coming}
use Rattle.tl_tree.specs.Staged.{has_name, has_file, files_of}

or_right : (a b : Bool) → b ≡ true → (a || b) ≡ true
or_right true b e = refl
or_right false b e = e

or_none : (a : Bool) → a ≡ (a || false)
or_none true = refl
or_none false = refl

-- an element that passes a test
pub any_at : {X : Type 0} (p : X → Bool) (xs : List X) (i : ℕ) (d : X) → i < length xs → p (get_or xs i d) ≡ true → list_any p xs ≡ true
any_at p [] i d lt is = absurd (omega arith)
any_at p (x ∷ xs) zero d lt is = ap (λ b. b || list_any p xs) is
any_at p (x ∷ xs) (suc i) d lt is = or_right (p x) (list_any p xs) (any_at p xs i d (omega arith) is)

any_append : {X : Type 0} (p : X → Bool) (xs : List X) (x : X) → list_any p (xs ++ x ∷ []) ≡ (list_any p xs || p x)
any_append p [] x = by (p x)
  where
    by : (b : Bool) → (b || false) ≡ (false || b)
    by true = refl
    by false = refl
any_append p (y ∷ ys) x = ap (λ b. p y || b) (any_append p ys x) ∙ by (p y) (list_any p ys) (p x)
  where
    by : (a b c : Bool) → (a || (b || c)) ≡ ((a || b) || c)
    by true b c = refl
    by false b c = refl

-- one name more
pub has_name-push : (name : Name) (names : List Name) (more : Name) → has_name name (names ++ more ∷ []) ≡ (has_name name names || same_name name more)
has_name-push name names more = any_append (λ (n : Name). same_name name n) names more

-- a file at a place
pub has_file_at : (files : List Coming) (i : ℕ) (file : Coming) (path : Name) → i < length files → file ≡ get_or files i file → file.path.now ≡ path → has_file path (files_of files) ≡ true
has_file_at [] i file path lt at is = absurd (omega arith)
has_file_at (f ∷ files) zero file path lt at is =
    ap (λ b. b || has_file path (files_of files)) (subst (λ (n : Name). same_name path n ≡ true) (sym is ∙ ap (λ (w : Coming). w.path.now) at) (same_name-refl path))
has_file_at (f ∷ files) (suc i) file path lt at is = or_right (same_name path f.path.now) (has_file path (files_of files)) (has_file_at files i file path (omega arith) at is)

-- a name at a place
pub has_name_at : (names : List Name) (i : ℕ) (name path : Name) → i < length names → name ≡ get_or names i name → name ≡ path → has_name path names ≡ true
has_name_at names i name path lt at is = any_at (λ (n : Name). same_name path n) names i name lt (subst (λ (n : Name). same_name path n ≡ true) (sym is ∙ at) (same_name-refl path))

-- a name that is there already, or at which a file comes, needs no second place
pub left_there : (path name : Name) (names : List Name) → has_name path names ≡ true → has_name name names ≡ (has_name name names || same_name name path)
left_there path name names there = by (same_name name path) (λ e. subst (λ (n : Name). has_name n names ≡ true) (sym (same_name-is name path e)) there)
  where
    by : (b : Bool) → (b ≡ true → has_name name names ≡ true) → has_name name names ≡ (has_name name names || b)
    by true is = is refl ∙ ap (λ a. a || true) (sym (is refl))
    by false is = or_none (has_name name names)

pub left_coming : (path name : Name) (names : List Name) (files : List Coming) → has_file path (files_of files) ≡ true → has_file name (files_of files) ≡ false
    → has_name name names ≡ (has_name name names || same_name name path)
left_coming path name names files comes none = by (same_name name path) (λ e. absurd (true≢false (sym (subst (λ (n : Name). has_file n (files_of files) ≡ true) (sym (same_name-is name path e)) comes) ∙ none)))
  where
    by : (b : Bool) → (b ≡ true → has_name name names ≡ true) → has_name name names ≡ (has_name name names || b)
    by true is = is refl ∙ ap (λ a. a || true) (sym (is refl))
    by false is = or_none (has_name name names)

-- nor does one that is waited for
pub left_waiting : (path name : Name) (names : List Name) (waiting : Names) → set.contains waiting path ≡ true → set.contains waiting name ≡ false → has_name name names ≡ (has_name name names || same_name name path)
left_waiting path name names waiting there none = by (same_name name path) (λ e. absurd (true≢false (sym (subst (λ (n : Name). set.contains waiting n ≡ true) (sym (same_name-is name path e)) there) ∙ none)))
  where
    by : (b : Bool) → (b ≡ true → has_name name names ≡ true) → has_name name names ≡ (has_name name names || b)
    by true is = is refl ∙ ap (λ a. a || true) (sym (is refl))
    by false is = or_none (has_name name names)
