-- What parts hold, one behind the other.
use Rattle.std.proofs.Common.{◌≡◌, ℕ, ◌<◌, suc, true, List, [], ◌∷◌, ◌++◌, ◌∙◌, refl, ap, sym, length, map, slice_index_or, is_ok, IfOk, OnOk, Result, Ok, Err, arith}
use Rattle.std.proofs.lemmas.List.{map-append}
use Rattle.std.specs.List.{flat_map, list_all}
use denote.Ref.{Bor}
use Rattle.tl_par.specs.Parts.{held}

pub held_mapped : {T X Y E : Type 0} (view : T → List X) (h : X → Y) (parts : List (Result T E))
    → map h (flat_map (held view) parts) ≡ flat_map (held (λ t. map h (view t))) parts
held_mapped view h [] = refl
held_mapped view h (Ok t ∷ parts) = map-append h (view t) (flat_map (held view) parts) ∙ ap (λ l. map h (view t) ++ l) (held_mapped view h parts)
held_mapped view h (Err e ∷ parts) = held_mapped view h parts

-- each part is what a function gives at the elements of its piece
abbrev pub AreGiven : {T X Y E : Type 0} → (T → List Y) → (X → Y) → List (Bor (List X)) → List (Result T E) → Type 0
AreGiven view f pieces parts = (i : ℕ) (p : Bor (List _)) (r : Result _ _) → i < length pieces
    → IfOk (slice_index_or parts i r) (λ t. view t ≡ map f (slice_index_or pieces i p).now)

pub held_all : {T X Y E : Type 0} (view : T → List Y) (f : X → Y) (pieces : List (Bor (List X))) (parts : List (Result T E))
    → length parts ≡ length pieces → AreGiven view f pieces parts → list_all is_ok parts ≡ true
    → flat_map (held view) parts ≡ map f (flat_map (λ piece. piece.now) pieces)
held_all view f [] [] same given ok = refl
held_all view f [] (r ∷ parts) same given ok = grind arith
held_all view f (p ∷ pieces) [] same given ok = grind arith
held_all view f (p ∷ pieces) (Ok t ∷ parts) same given ok =
    let rest : flat_map (held view) parts ≡ map f (flat_map (λ piece. piece.now) pieces) =
    held_all view f pieces parts (grind arith) (λ i q r lt. given (suc i) q r (grind arith)) ok in
    ap (λ l. l ++ flat_map (held view) parts) (given 0 p (Ok t) (grind arith)) ∙ ap (λ l. map f p.now ++ l) rest
    ∙ sym (map-append f p.now (flat_map (λ piece. piece.now) pieces))
held_all view f (p ∷ pieces) (Err e ∷ parts) same given ok = grind arith

-- what is made of such parts, where all are there, is what the function gives at all elements
pub parts_answer : {T U X Y E F : Type 0} (items : U → List Y) (view : T → List Y) (f : X → Y) (whole : List X) (pieces : List (Bor (List X)))
    (parts : List (Result T E)) (result : Result U F)
    → length parts ≡ length pieces → AreGiven view f pieces parts → flat_map (λ piece. piece.now) pieces ≡ whole
    → IfOk result (λ all. items all ≡ flat_map (held view) parts) → OnOk result (list_all is_ok parts ≡ true)
    → IfOk result (λ all. items all ≡ map f whole)
parts_answer items view f whole pieces parts (Ok all) same given split joined ok = joined ∙ held_all view f pieces parts same given ok ∙ ap (map f) split
parts_answer items view f whole pieces parts (Err e) same given split joined ok = tt
