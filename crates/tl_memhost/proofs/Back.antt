-- Back over the record, from the newest call on, to the call of a number.
use Rattle.std.proofs.Common.{◌≡◌, ℕ, suc, ◌<◌, ◌≤◌, nat_le, true, false, cond, List, [], ◌∷◌, length, take, reverse, get_or, sym, ◌∙◌, ap, arith}
use Rattle.std.proofs.lemmas.List.{reverse-append}
use Rattle.std.proofs.Math.Seq.{take-suc, take-length}
use Rattle.tl_model.specs.Volume.{Volume}
use Rattle.tl_memhost.specs.Memory.{Standing, before}
use Rattle.tl_memhost.specs.Record.{unheld, unsaid, standing, steps_of}
use Rattle.tl_memhost.specs.declared.record.Entry.{Entry}

pub reverse_take : {X : Type 0} (xs : List X) (n : ℕ) (x : X) → n < length xs → x ≡ get_or xs n x → reverse (take (suc n) xs) ≡ x ∷ reverse (take n xs)
reverse_take xs n x lt is = ap reverse (take-suc xs n x lt) ∙ reverse-append (take n xs) (get_or xs n x ∷ []) ∙ ap (λ y. y ∷ reverse (take n xs)) (sym is)

-- what stood before the call, by these entries, the newest first
abbrev pub back : ℕ → List Entry → Volume → List ℕ → Standing
back call es held said = before call (steps_of es held said) (standing es held said)

-- the entries from `left` on are gone back over, and this volume and these words are what stood before them
pub record IsBack (call : ℕ) (items : List Entry) (held : Volume) (said : List ℕ) (left : ℕ) (v : Volume) (s : List ℕ) : Type 0 where
  pub within : left ≤ length items
  pub same : back call (reverse items) held said ≡ back call (reverse (take left items)) v s

pub back_start : (call : ℕ) (items : List Entry) (held : Volume) (said : List ℕ) (left : ℕ) → left ≡ length items → IsBack call items held said left held said
back_start call items held said left is = record {
  within = omega arith;
  same = sym (ap (λ (l : List Entry). back call (reverse l) held said) (ap (λ (n : ℕ). take n items) is ∙ take-length items));
}

pub back_step : (call : ℕ) (items : List Entry) (held : Volume) (said : List ℕ) (n : ℕ) (v : Volume) (s : List ℕ) (e : Entry)
    → IsBack call items held said (suc n) v s → e ≡ get_or items n e → nat_le call e.call ≡ true → IsBack call items held said n (unheld e.did v) (unsaid e.did s)
back_step call items held said n v s e far is le = record {
  within = omega (arith, far.within);
  same = far.same ∙ ap (λ (es : List Entry). back call es v s) (reverse_take items n e (omega (arith, far.within)) is)
      ∙ ap (λ b. cond b (back call (reverse (take n items)) (unheld e.did v) (unsaid e.did s)) (standing (e ∷ reverse (take n items)) v s)) le;
}

pub back_stop : (call : ℕ) (items : List Entry) (held : Volume) (said : List ℕ) (n : ℕ) (v : Volume) (s : List ℕ) (e : Entry)
    → IsBack call items held said (suc n) v s → e ≡ get_or items n e → nat_le call e.call ≡ false → back call (reverse items) held said ≡ standing (reverse (take (suc n) items)) v s
back_stop call items held said n v s e far is lt =
    let list : reverse (take (suc n) items) ≡ e ∷ reverse (take n items) = reverse_take items n e (omega (arith, far.within)) is in
    far.same ∙ ap (λ (es : List Entry). back call es v s) list
    ∙ ap (λ b. cond b (back call (reverse (take n items)) (unheld e.did v) (unsaid e.did s)) (standing (e ∷ reverse (take n items)) v s)) lt
    ∙ sym (ap (λ (es : List Entry). standing es v s) list)
