-- The texts of a list so far.
use Rattle.std.proofs.Common.{◌≡◌, ◌⊎◌, inl, inr, ℕ, ◌+◌, ◌<◌, ◌≤◌, Bool, true, false, cond, List, [], ◌∷◌, ◌++◌, Bor, length, drop, get_or, refl, sym, ◌∙◌, ap, append_assoc}
use Rattle.std.specs.Prelude.{filter, Result, Ok, Err, ◌&&◌}
use Rattle.std.specs.List.{list_all}
use Rattle.std.proofs.lemmas.Bool.{cases_Bool, true≢false}
use Rattle.std.proofs.lemmas.List.{drop_more, drop_all, append-nil}
use Rattle.std.proofs.lemmas.List.Folds.{list_all-append}
use Rattle.tl_model.specs.Words.{is_full}
use Rattle.tl_text.specs.Texts.{is_text}
use Rattle.tl_execute.specs.Executes.{Gives, read_text, read_texts}
use Rattle.tl_execute.specs.declared.execute.ExecuteKind.{ExecuteKind}
use Rattle.tl_execute.specs.declared.execute.ExecuteKind.TheVariants.{Value}
use Rattle.tl_execute.specs.declared.execute.ExecuteError.{ExecuteError}
use Rattle.tl_execute.specs.declared.execute.ExecuteError.TheVariants.{BadExecute, NoMemory}
use Rattle.tl_execute.proofs.Finds.{texts}

-- the texts so far, and the parts that are left
pub record TextsSoFar (parts : List (Bor (List ℕ))) (read : List (List ℕ)) (place : ℕ) : Type 0 where
  pub left : read ++ filter is_full (texts (drop place parts)) ≡ filter is_full (texts parts)
  pub each : list_all is_text read ≡ true

pub texts_start : (parts : List (Bor (List ℕ))) → TextsSoFar parts [] 0
texts_start parts = record { left = refl; each = refl }

next : (parts : List (Bor (List ℕ))) (i : ℕ) (d : Bor (List ℕ)) → i < length parts
    → filter is_full (texts (drop i parts)) ≡ cond (is_full (get_or parts i d).now) ((get_or parts i d).now ∷ filter is_full (texts (drop (i + 1) parts))) (filter is_full (texts (drop (i + 1) parts)))
next parts i d within = ap (λ (ps : List (Bor (List ℕ))). filter is_full (texts ps)) (drop_more parts i d within)

pub texts_skip : (parts : List (Bor (List ℕ))) (read : List (List ℕ)) (i : ℕ) (d : Bor (List ℕ)) → i < length parts → is_full (get_or parts i d).now ≡ false
    → TextsSoFar parts read i → TextsSoFar parts read (i + 1)
texts_skip parts read i d within none here =
    let same : filter is_full (texts (drop i parts)) ≡ filter is_full (texts (drop (i + 1) parts)) =
    next parts i d within ∙ ap (λ t. cond t ((get_or parts i d).now ∷ filter is_full (texts (drop (i + 1) parts))) (filter is_full (texts (drop (i + 1) parts)))) none in
    record { left = ap (λ (ps : List (List ℕ)). read ++ ps) (sym same) ∙ here.left; each = here.each }

full_next : (parts : List (Bor (List ℕ))) (read : List (List ℕ)) (i : ℕ) (d : Bor (List ℕ)) → i < length parts → is_full (get_or parts i d).now ≡ true
    → TextsSoFar parts read i → (read ++ (get_or parts i d).now ∷ []) ++ filter is_full (texts (drop (i + 1) parts)) ≡ filter is_full (texts parts)
full_next parts read i d within some here =
    append_assoc read ((get_or parts i d).now ∷ []) (filter is_full (texts (drop (i + 1) parts)))
    ∙ ap (λ (ps : List (List ℕ)). read ++ ps) (sym (next parts i d within ∙ ap (λ t. cond t ((get_or parts i d).now ∷ filter is_full (texts (drop (i + 1) parts))) (filter is_full (texts (drop (i + 1) parts)))) some))
    ∙ here.left

both : (a b : Bool) → a ≡ true → b ≡ true → (a && b) ≡ true
both a b p q = rw (p, q) refl

first_true : (a b : Bool) → (a && b) ≡ true → a ≡ true
first_true true b is = refl
first_true false b is = absurd (true≢false (sym is))

pub texts_push : (parts : List (Bor (List ℕ))) (read : List (List ℕ)) (i : ℕ) (d : Bor (List ℕ)) → i < length parts → is_full (get_or parts i d).now ≡ true
    → is_text (get_or parts i d).now ≡ true → TextsSoFar parts read i → TextsSoFar parts (read ++ (get_or parts i d).now ∷ []) (i + 1)
texts_push parts read i d within some is here = record {
  left = full_next parts read i d within some here;
  each = list_all-append is_text read ((get_or parts i d).now ∷ []) ∙ both _ _ here.each (both _ _ is refl);
}

pub texts_done : (parts : List (Bor (List ℕ))) (read : List (List ℕ)) (i : ℕ) → length parts ≤ i → TextsSoFar parts read i → read_texts (filter is_full (texts parts)) ≡ Ok read
texts_done parts read i past here =
    let whole : read ≡ filter is_full (texts parts) = sym (append-nil read) ∙ ap (λ (ps : List (Bor (List ℕ))). read ++ filter is_full (texts ps)) (sym (drop_all i parts past)) ∙ here.left in
    ap read_texts (sym whole) ∙ ap (λ t. cond t (Ok read) (Err Value)) here.each

pub texts_fault : (parts : List (Bor (List ℕ))) (read : List (List ℕ)) (i : ℕ) (d : Bor (List ℕ)) → i < length parts → is_full (get_or parts i d).now ≡ true
    → is_text (get_or parts i d).now ≡ false → TextsSoFar parts read i → read_texts (filter is_full (texts parts)) ≡ Err Value
texts_fault parts read i d within some none here =
    let word : List ℕ = (get_or parts i d).now in
    let rest : List (List ℕ) = filter is_full (texts (drop (i + 1) parts)) in
    let read_false : list_all is_text (read ++ word ∷ []) ≡ false = list_all-append is_text read (word ∷ []) ∙ rw (here.each, none) refl in
    let all_false : list_all is_text ((read ++ word ∷ []) ++ rest) ≡ false = list_all-append is_text (read ++ word ∷ []) rest ∙ ap (λ t. t && list_all is_text rest) read_false in
    ap read_texts (sym (full_next parts read i d within some here)) ∙ ap (λ t. cond t (Ok ((read ++ word ∷ []) ++ rest)) (Err Value)) all_false

abbrev kind_of : Result (List ℕ) ExecuteKind → ExecuteKind
kind_of (Ok x) = Value
kind_of (Err k) = k

read_text_fault : (value : List ℕ) (kind : ExecuteKind) → (is_text value ≡ true) ⊎ (is_text value ≡ false) → read_text value ≡ Err kind → (is_text value ≡ false) × (kind ≡ Value)
read_text_fault value kind (inl e) is = let never : Ok value ≡ Err kind = sym (ap (λ t. cond t (Ok value) (Err Value)) e) ∙ is in absurd (cc)
read_text_fault value kind (inr e) is = (e, sym (ap kind_of (sym (ap (λ t. cond t (Ok value) (Err Value)) e) ∙ is)))

pub texts_err : (parts : List (Bor (List ℕ))) (read : List (List ℕ)) (i : ℕ) (d : Bor (List ℕ)) (whole : List (List ℕ)) → i < length parts → is_full (get_or parts i d).now ≡ true
    → texts parts ≡ whole → TextsSoFar parts read i → (error : ExecuteError) → Gives (read_text (get_or parts i d).now) (Err error) → Gives (read_texts (filter is_full whole)) (Err error)
texts_err parts read i d whole within some same here NoMemory gives = tt
texts_err parts read i d whole within some same here (BadExecute kind) gives =
    let fault : (is_text (get_or parts i d).now ≡ false) × (kind ≡ Value) = read_text_fault (get_or parts i d).now kind (cases_Bool (is_text (get_or parts i d).now)) gives in
    ap (λ (ws : List (List ℕ)). read_texts (filter is_full ws)) (sym same) ∙ texts_fault parts read i d within some fault.0 here ∙ ap (λ (k : ExecuteKind). Err k) (sym fault.1)
