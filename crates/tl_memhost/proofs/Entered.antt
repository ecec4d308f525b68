-- A record with one entry more says that one call more was recorded.
use Rattle.std.proofs.Common.{◌≡◌, inl, inr, ℕ, List, [], ◌∷◌, ◌++◌, length, take, reverse, Option, Some, None, refl, sym, ◌∙◌, ap, subst}
use Rattle.std.specs.Option.{unwrap_or, IsSome}
use Rattle.std.specs.FinMap as map
use Rattle.std.proofs.lemmas.Bool.{true≢false}
use Rattle.std.proofs.lemmas.List.{reverse-append}
use Rattle.std.proofs.Math.Seq.{take-append_seam}
use Rattle.tl_model.specs.Causes.{one_more}
use Rattle.tl_model.specs.Volume.{Name, Volume, SameBut, at, cases_name, same_volume, at-insert_here, at-insert_apart, at-remove_here, at-remove_apart}
use Rattle.tl_memhost.specs.Held.{Bytes}
use Rattle.tl_memhost.specs.Memory.{Standing, Memory, IsCounted, recorded, changed}
use Rattle.tl_memhost.specs.Record.{put, cut, unheld, unsaid, touches, settles, touched_of, settled_of, standing, during, step_of, steps_of, memory}
use Rattle.tl_memhost.specs.declared.record.Did.{Did}
use Rattle.tl_memhost.specs.declared.record.Did.TheVariants.{Put, Grown}
use Rattle.tl_memhost.specs.declared.record.Entry.{Entry}
use Rattle.tl_memhost.proofs.Held.{contents, insert-twice, insert-same}
use Rattle.tl_memhost.proofs.Counted.{counted_recorded}

-- the entry that is made
abbrev pub entry : ℕ → ℕ → Did → Entry
entry call rest did = record { call = call; rest = rest; did = did }

-- what stands after a call
abbrev pub after : Did → Volume → List ℕ → Standing → Standing
after did held said s = record { held = held; touched = touches did s.touched; said = said; settled = settles did s.settled s.held }

pub entered : (items : List Entry) (did : Did) (old new : Volume) (before said : List ℕ) (rest calls short : ℕ) (failing : List ℕ) (syncs faults : ℕ)
    → unheld did new ≡ old → unsaid did said ≡ before
    → memory (items ++ entry calls rest did ∷ []) new said 0 (one_more calls) short failing syncs faults
    ≡ recorded (memory items old before rest calls short failing syncs faults) (during did said (standing (reverse items) old before)) (after did new said (standing (reverse items) old before))
entered items did old new before said rest calls short failing syncs faults held told =
    ap (λ (es : List Entry). record { steps = steps_of es new said; rest = 0; present = standing es new said; calls = one_more calls; short = short; failing = failing; syncs = syncs; faults = faults }) (reverse-append items (entry calls rest did ∷ []))
    ∙ ap (λ (v : Volume). record {
      steps = step_of (entry calls rest did) said (standing (reverse items) v (unsaid did said)) ∷ steps_of (reverse items) v (unsaid did said);
      rest = 0;
      present = record { held = new; touched = touches did (touched_of (reverse items)); said = said; settled = settles did (settled_of (reverse items) v) v };
      calls = one_more calls;
      short = short;
      failing = failing;
      syncs = syncs;
      faults = faults;
    }) held
    ∙ ap (λ (s : List ℕ). record {
      steps = step_of (entry calls rest did) said (standing (reverse items) old s) ∷ steps_of (reverse items) old s;
      rest = 0;
      present = record { held = new; touched = touches did (touched_of (reverse items)); said = said; settled = settles did (settled_of (reverse items) old) old };
      calls = one_more calls;
      short = short;
      failing = failing;
      syncs = syncs;
      faults = faults;
    }) told

pub counted_entered : (items : List Entry) (did : Did) (old new : Volume) (before said : List ℕ) (rest calls short : ℕ) (failing : List ℕ) (syncs faults : ℕ)
    → unheld did new ≡ old → unsaid did said ≡ before → IsCounted (memory items old before rest calls short failing syncs faults)
    → IsCounted (memory (items ++ entry calls rest did ∷ []) new said 0 (one_more calls) short failing syncs faults)
counted_entered items did old new before said rest calls short failing syncs faults held told counted =
    subst IsCounted (sym (entered items did old new before said rest calls short failing syncs faults held told)) (counted_recorded _ _ _ counted)

-- to put back what a name held

pub put_back : (old new : Volume) (name : Name) (bytes : Option Bytes) → contents bytes ≡ at old name → SameBut name old new → put name bytes new ≡ old
put_back old new name None is same = same_volume _ _ (λ other. elim (cases_name other name) [
  | inl e ↦ subst (λ (n : Name). at (map.remove new name) n ≡ at old n) (sym e) (at-remove_here new name ∙ is)
  | inr ne ↦ at-remove_apart new name other ne ∙ same other ne
])
put_back old new name (Some bytes) is same = same_volume _ _ (λ other. elim (cases_name other name) [
  | inl e ↦ subst (λ (n : Name). at (map.insert new name bytes.items) n ≡ at old n) (sym e) (at-insert_here new name bytes.items ∙ is)
  | inr ne ↦ at-insert_apart new name bytes.items other ne ∙ same other ne
])

some_is : (o : Option (List ℕ)) → IsSome o → o ≡ Some (unwrap_or o [])
some_is None some = absurd (true≢false (sym some))
some_is (Some x) some = refl

pub cut_back : (old : Volume) (name : Name) (bytes : List ℕ) (length_before : ℕ) → IsSome (at old name) → length_before ≡ length (unwrap_or (at old name) [])
    → cut name length_before (at (map.insert old name (unwrap_or (at old name) [] ++ bytes)) name) (map.insert old name (unwrap_or (at old name) [] ++ bytes)) ≡ old
cut_back old name bytes n some is =
    ap (λ (o : Option (List ℕ)). cut name n o (map.insert old name (unwrap_or (at old name) [] ++ bytes))) (at-insert_here old name (unwrap_or (at old name) [] ++ bytes))
    ∙ insert-twice old name _ _
    ∙ ap (map.insert old name) (ap (λ (k : ℕ). take k (unwrap_or (at old name) [] ++ bytes)) is ∙ take-append_seam (unwrap_or (at old name) []) bytes)
    ∙ insert-same old name (unwrap_or (at old name) []) (some_is (at old name) some)

-- a change of one name, recorded

pub put_entered : (items items' : List Entry) (own : Name) (bytes : Option Bytes) (old new : Volume) (said : List ℕ) (rest calls calls' short : ℕ) (failing : List ℕ) (syncs faults : ℕ) (name : Name)
    → own ≡ name → contents bytes ≡ at old name → SameBut name old new → items' ≡ items ++ entry calls rest (Put own bytes) ∷ [] → calls' ≡ one_more calls
    → memory items' new said 0 calls' short failing syncs faults ≡ changed name new (memory items old said rest calls short failing syncs faults)
put_entered items items' own bytes old new said rest calls calls' short failing syncs faults name named is same list count =
    let back : put own bytes new ≡ old = subst (λ (n : Name). put n bytes new ≡ old) (sym named) (put_back old new name bytes is same) in
    ap (λ (es : List Entry). memory es new said 0 calls' short failing syncs faults) list
    ∙ ap (λ (n : ℕ). memory (items ++ entry calls rest (Put own bytes) ∷ []) new said 0 n short failing syncs faults) count
    ∙ entered items (Put own bytes) old new said said rest calls short failing syncs faults back refl
    ∙ ap (λ (n : Name). changed n new (memory items old said rest calls short failing syncs faults)) named

pub grown_entered : (items items' : List Entry) (own : Name) (bytes : List ℕ) (n : ℕ) (old new : Volume) (said : List ℕ) (rest calls calls' short : ℕ) (failing : List ℕ) (syncs faults : ℕ) (name : Name)
    → own ≡ name → IsSome (at old name) → n ≡ length (unwrap_or (at old name) []) → new ≡ map.insert old name (unwrap_or (at old name) [] ++ bytes) → items' ≡ items ++ entry calls rest (Grown own n) ∷ [] → calls' ≡ one_more calls
    → memory items' new said 0 calls' short failing syncs faults ≡ changed name new (memory items old said rest calls short failing syncs faults)
grown_entered items items' own bytes n old new said rest calls calls' short failing syncs faults name named some is grown list count =
    let back : cut own n (at new own) new ≡ old =
    subst (λ (k : Name). cut k n (at new k) new ≡ old) (sym named)
    (subst (λ (v : Volume). cut name n (at v name) v ≡ old) (sym grown) (cut_back old name bytes n some is)) in
    ap (λ (es : List Entry). memory es new said 0 calls' short failing syncs faults) list
    ∙ ap (λ (k : ℕ). memory (items ++ entry calls rest (Grown own n) ∷ []) new said 0 k short failing syncs faults) count
    ∙ entered items (Grown own n) old new said said rest calls short failing syncs faults back refl
    ∙ ap (λ (k : Name). changed k new (memory items old said rest calls short failing syncs faults)) named

pub counted_changed : (m m' : Memory) (name : Name) (volume : Volume) → m' ≡ changed name volume m → IsCounted m → IsCounted m'
counted_changed m m' name volume is counted = subst IsCounted (sym is) (counted_recorded _ _ _ counted)
