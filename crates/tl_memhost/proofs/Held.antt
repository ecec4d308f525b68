-- What a look-up and a change of an ordered map of files are on its volume.
use Rattle.std.proofs.Common.{◌≡◌, ◌≢◌, ℕ, ◌⊎◌, inl, inr, Bool, true, false, cond, List, [], ◌∷◌, Option, Some, None, refl, sym, ◌∙◌, ap, subst}
use Rattle.std.specs.Option.{option_map, is_some, IsSome, IfSome}
use Rattle.std.specs.Ordering.{nat_cmp, is_eq, is_gt, match_ordering, ordering_reverse}
use Rattle.std.specs.Borrow.{Bor}
use Rattle.std.specs.declared.ops.Bound.{Bound}
use Rattle.std.specs.declared.ops.Bound.TheVariants.{Included, Excluded, Unbounded}
use Rattle.std.specs.Range.Bound.{bound_map}
use Rattle.std.specs.BTreeMap.{BTreeMap}
use Rattle.std.specs.BTreeMap.Range.{IsRangeOf, IsFromStart}
use Rattle.std.specs.declared.cmp.Ordering.{Ordering}
use Rattle.std.specs.declared.cmp.Ordering.TheVariants.{Less, Equal, Greater}
use Rattle.std.specs.Cmp.Lexicographic.{slice_cmp, nat_list_cmp_total}
use Rattle.std.specs.FinMap as map
use Rattle.std.specs.FinMap.{slice_cmp-IsAntisymmetric, nat_cmp-IsAntisymmetric}
use Rattle.std.specs.List.{AllZip, each_same}
use Rattle.std.specs.Vec.{vec_len}
use Rattle.std.specs.Map.{lookup, set_value, remove_entry}
use Rattle.std.specs.BTreeMap.{is_at, insert_entry}
use Rattle.std.proofs.lemmas.Bool.{true≢false}
use Rattle.tl_model.specs.Volume.{Name, Volume, at, IsBefore, same_name, same_name-is, same_name-refl, same_name-apart, cases_name, same_volume, at-insert_here, at-insert_apart, at-remove_here, at-remove_apart}
use Rattle.tl_path.specs.Path.{IsPath}
use Rattle.tl_memhost.specs.Held.{Bytes, volume_of, ArePaths, IsFrom, IsFirstFrom}

-- the bytes that were found
abbrev pub contents : Option Bytes → Option (List ℕ)
contents o = option_map (λ (b : Bytes). b.items) o

-- how a name compares to a key
abbrev pub beside : Name → Bytes → Ordering
beside name = λ (k : Bytes). slice_cmp nat_cmp name k.items

cond_contents : (b : Bool) (x : Bytes) (o : Option Bytes) → cond b (Some x.items) (contents o) ≡ contents (cond b (Some x) o)
cond_contents true x o = refl
cond_contents false x o = refl

pub at-volume_of : (es : List (Bytes × Bytes)) (name : Name) → at (volume_of es) name ≡ contents (lookup (is_at (beside name)) es)
at-volume_of [] name = map.get-empty _ name
at-volume_of (e ∷ es) name = map.get-insert nat_list_cmp_total (volume_of es) e.0.items e.1.items name
    ∙ ap (cond (same_name name e.0.items) (Some e.1.items)) (at-volume_of es name)
    ∙ cond_contents (same_name name e.0.items) e.1 (lookup (is_at (beside name)) es)

pub insert-twice : (v : Volume) (name : Name) (a b : List ℕ) → map.insert (map.insert v name a) name b ≡ map.insert v name b
insert-twice v name a b = same_volume _ _ (λ other. elim (cases_name other name) [
  | inl is ↦ subst (λ (n : Name). at (map.insert (map.insert v name a) name b) n ≡ at (map.insert v name b) n) (sym is) (at-insert_here _ name b ∙ sym (at-insert_here v name b))
  | inr ne ↦ at-insert_apart _ name b other ne ∙ at-insert_apart v name a other ne ∙ sym (at-insert_apart v name b other ne)
])

pub insert-swap : (v : Volume) (name : Name) (a : List ℕ) (other : Name) (b : List ℕ) → other ≢ name → map.insert (map.insert v name a) other b ≡ map.insert (map.insert v other b) name a
insert-swap v name a other b ne = same_volume _ _ (λ q. elim (cases_name q name) [
  | inl is ↦ subst (λ (n : Name). at (map.insert (map.insert v name a) other b) n ≡ at (map.insert (map.insert v other b) name a) n) (sym is)
      (at-insert_apart _ other b name (λ e. ne (sym e)) ∙ at-insert_here v name a ∙ sym (at-insert_here _ name a))
  | inr apart ↦ elim (cases_name q other) [
    | inl is ↦ subst (λ (n : Name). at (map.insert (map.insert v name a) other b) n ≡ at (map.insert (map.insert v other b) name a) n) (sym is)
        (at-insert_here _ other b ∙ sym (at-insert_here v other b) ∙ sym (at-insert_apart _ name a other ne))
    | inr far ↦ at-insert_apart _ other b q far ∙ at-insert_apart v name a q apart ∙ sym (at-insert_apart v other b q far) ∙ sym (at-insert_apart _ name a q apart)
  ]
])

-- the order of two keys
abbrev pub order : Bytes → Bytes → Ordering
order = λ (x y : Bytes). slice_cmp nat_cmp x.items y.items

less_apart : (a b : Name) (r : Ordering) → slice_cmp nat_cmp a b ≡ r → is_eq r ≡ false → a ≢ b
less_apart a b r is apart same = true≢false (sym (subst (λ (n : Name). same_name a n ≡ true) same (same_name-refl a)) ∙ ap is_eq is ∙ apart)

pub volume_of-insert_entry : (es : List (Bytes × Bytes)) (k v : Bytes) → volume_of (insert_entry order es k v) ≡ map.insert (volume_of es) k.items v.items
volume_of-insert_entry [] k v = refl
volume_of-insert_entry (e ∷ es) k v = by (volume_of-insert_entry es k v) (order k e.0) refl
  where
    by : volume_of (insert_entry order es k v) ≡ map.insert (volume_of es) k.items v.items → (r : Ordering) → order k e.0 ≡ r → volume_of (match_ordering r ((k, v) ∷ e ∷ es) ((e.0, v) ∷ es) (e ∷ insert_entry order es k v)) ≡ map.insert (map.insert (volume_of es) e.0.items e.1.items) k.items v.items
    by rest Less is = refl
    by rest Equal is =
        let same : k.items ≡ e.0.items = slice_cmp-IsAntisymmetric nat_cmp-IsAntisymmetric k.items e.0.items is in
        subst (λ (n : Name). map.insert (volume_of es) e.0.items v.items ≡ map.insert (map.insert (volume_of es) e.0.items e.1.items) n v.items) (sym same) (sym (insert-twice (volume_of es) e.0.items e.1.items v.items))
    by rest Greater is = ap (λ (w : Volume). map.insert w e.0.items e.1.items) rest
        ∙ insert-swap (volume_of es) k.items v.items e.0.items e.1.items (λ same. less_apart k.items e.0.items Greater is refl (sym same))

pub volume_of-set_value : (es : List (Bytes × Bytes)) (name : Name) (w : Bytes) → IsSome (lookup (is_at (beside name)) es) → volume_of (set_value (is_at (beside name)) es w) ≡ map.insert (volume_of es) name w.items
volume_of-set_value [] name w some = absurd (true≢false (sym some))
volume_of-set_value (e ∷ es) name w some = by (volume_of-set_value es name w) (same_name name e.0.items) refl some
  where
    by : (IsSome (lookup (is_at (beside name)) es) → volume_of (set_value (is_at (beside name)) es w) ≡ map.insert (volume_of es) name w.items) → (b : Bool) → same_name name e.0.items ≡ b → IsSome (cond b (Some e.1) (lookup (is_at (beside name)) es)) → volume_of (cond b ((e.0, w) ∷ es) (e ∷ set_value (is_at (beside name)) es w)) ≡ map.insert (map.insert (volume_of es) e.0.items e.1.items) name w.items
    by rest true is some =
        subst (λ (n : Name). map.insert (volume_of es) e.0.items w.items ≡ map.insert (map.insert (volume_of es) e.0.items e.1.items) n w.items) (sym (same_name-is name e.0.items is)) (sym (insert-twice (volume_of es) e.0.items e.1.items w.items))
    by rest false is some = ap (λ (v : Volume). map.insert v e.0.items e.1.items) (rest some)
        ∙ insert-swap (volume_of es) name w.items e.0.items e.1.items (λ same. true≢false (sym (subst (λ (n : Name). same_name name n ≡ true) (sym same) (same_name-refl name)) ∙ is))

-- an entry that is taken out was at that name
pub at-remove_entry : (es : List (Bytes × Bytes)) (name other : Name) → other ≢ name → at (volume_of (remove_entry (is_at (beside name)) es)) other ≡ at (volume_of es) other
at-remove_entry [] name other ne = refl
at-remove_entry (e ∷ es) name other ne = by (at-remove_entry es name other ne) (same_name name e.0.items) refl
  where
    by : at (volume_of (remove_entry (is_at (beside name)) es)) other ≡ at (volume_of es) other → (b : Bool) → same_name name e.0.items ≡ b → at (volume_of (cond b es (e ∷ remove_entry (is_at (beside name)) es))) other ≡ at (map.insert (volume_of es) e.0.items e.1.items) other
    by rest true is = sym (at-insert_apart (volume_of es) e.0.items e.1.items other (λ same. ne (same ∙ sym (same_name-is name e.0.items is))))
    by rest false is = elim (cases_name other e.0.items) [
      | inl same ↦ subst (λ (n : Name). at (map.insert (volume_of (remove_entry (is_at (beside name)) es)) e.0.items e.1.items) n ≡ at (map.insert (volume_of es) e.0.items e.1.items) n) (sym same)
          (at-insert_here _ e.0.items e.1.items ∙ sym (at-insert_here (volume_of es) e.0.items e.1.items))
      | inr apart ↦ at-insert_apart _ e.0.items e.1.items other apart ∙ rest ∙ sym (at-insert_apart (volume_of es) e.0.items e.1.items other apart)
    ]

pub volume_of-remove_entry : (es rest : List (Bytes × Bytes)) (name : Name) → rest ≡ remove_entry (is_at (beside name)) es → lookup (is_at (beside name)) rest ≡ None → volume_of rest ≡ map.remove (volume_of es) name
volume_of-remove_entry es rest name is none = same_volume _ _ (λ other. elim (cases_name other name) [
  | inl same ↦ subst (λ (n : Name). at (volume_of rest) n ≡ at (map.remove (volume_of es) name) n) (sym same)
      (at-volume_of rest name ∙ ap contents none ∙ sym (at-remove_here (volume_of es) name))
  | inr apart ↦ ap (λ (l : List (Bytes × Bytes)). at (volume_of l) other) is ∙ at-remove_entry es name other apart ∙ sym (at-remove_apart (volume_of es) name other apart)
])

pub insert-same : (v : Volume) (name : Name) (bytes : List ℕ) → at v name ≡ Some bytes → map.insert v name bytes ≡ v
insert-same v name bytes is = same_volume _ _ (λ other. elim (cases_name other name) [
  | inl same ↦ subst (λ (n : Name). at (map.insert v name bytes) n ≡ at v n) (sym same) (at-insert_here v name bytes ∙ sym is)
  | inr apart ↦ at-insert_apart v name bytes other apart
])

-- a file that was found, at which other bytes are written
pub at_found : (es : List (Bytes × Bytes)) (v : Volume) (name : Name) (file : Bytes) → Some file ≡ lookup (is_at (beside name)) es → volume_of es ≡ v → at v name ≡ Some file.items
at_found es v name file is view = sym (ap (λ (w : Volume). at w name) view) ∙ at-volume_of es name ∙ sym (ap contents is)

pub written : (es after : List (Bytes × Bytes)) (v : Volume) (name : Name) (file new : Bytes) → Some file ≡ lookup (is_at (beside name)) es → volume_of es ≡ v → after ≡ set_value (is_at (beside name)) es new → volume_of after ≡ map.insert v name new.items
written es after v name file new is view sets = ap volume_of sets ∙ volume_of-set_value es name new (subst (λ (o : Option Bytes). IsSome o) is refl) ∙ ap (λ (w : Volume). map.insert w name new.items) view

pub at_missed : (es : List (Bytes × Bytes)) (v : Volume) (name : Name) → None ≡ lookup (is_at (beside name)) es → volume_of es ≡ v → at v name ≡ None
at_missed es v name is view = sym (ap (λ (w : Volume). at w name) view) ∙ at-volume_of es name ∙ sym (ap contents is)

pub absent_not_there : {X : Type 0} (o : Option X) → o ≡ None → IsSome o → ⊥
absent_not_there o none some = true≢false (sym some ∙ ap is_some none)

-- the names stay paths

pub paths-insert_entry : (es : List (Bytes × Bytes)) (k v : Bytes) → IsPath k.items → ArePaths es → ArePaths (insert_entry order es k v)
paths-insert_entry [] k v path all = (path, tt)
paths-insert_entry (e ∷ es) k v path all = by (paths-insert_entry es k v path all.1) (order k e.0)
  where
    by : ArePaths (insert_entry order es k v) → (r : Ordering) → ArePaths (match_ordering r ((k, v) ∷ e ∷ es) ((e.0, v) ∷ es) (e ∷ insert_entry order es k v))
    by rest Less = (path, all)
    by rest Equal = (all.0, all.1)
    by rest Greater = (all.0, rest)

pub paths-set_value : (es : List (Bytes × Bytes)) (test : Bytes → Bool) (w : Bytes) → ArePaths es → ArePaths (set_value test es w)
paths-set_value [] test w all = tt
paths-set_value (e ∷ es) test w all = by (paths-set_value es test w all.1) (test e.0)
  where
    by : ArePaths (set_value test es w) → (b : Bool) → ArePaths (cond b ((e.0, w) ∷ es) (e ∷ set_value test es w))
    by rest true = (all.0, all.1)
    by rest false = (all.0, rest)

pub paths-remove_entry : (es : List (Bytes × Bytes)) (test : Bytes → Bool) → ArePaths es → ArePaths (remove_entry test es)
paths-remove_entry [] test all = tt
paths-remove_entry (e ∷ es) test all = by (paths-remove_entry es test all.1) (test e.0)
  where
    by : ArePaths (remove_entry test es) → (b : Bool) → ArePaths (cond b es (e ∷ remove_entry test es))
    by rest true = all.1
    by rest false = (all.0, rest)

-- what is found at a name is a path's
pub path_found : (es : List (Bytes × Bytes)) (name : Name) → ArePaths es → IsSome (at (volume_of es) name) → IsPath name
path_found [] name all some = absurd (true≢false (sym (subst (λ (o : Option (List ℕ)). is_some o ≡ true) (map.get-empty _ name) some)))
path_found (e ∷ es) name all some = elim (cases_name name e.0.items) [
  | inl same ↦ subst IsPath (sym same) all.0
  | inr apart ↦ path_found es name all.1 (subst IsSome (at-insert_apart (volume_of es) e.0.items e.1.items name apart) some)
]

-- a look-up that finds something finds a key with that name
witness : (es : List (Bytes × Bytes)) (name : Name) → IsSome (lookup (is_at (beside name)) es) → (k : Bytes) × (name ≡ k.items)
witness [] name some = absurd (true≢false (sym some))
witness (e ∷ es) name some = elim (cases_name name e.0.items) [
  | inl same ↦ (e.0, same)
  | inr apart ↦ witness es name (subst (λ (b : Bool). IsSome (cond b (Some e.1) (lookup (is_at (beside name)) es))) (same_name-apart name e.0.items apart) some)
]

some_or_none : {X : Type 0} (o : Option X) → (o ≡ None) ⊎ IsSome o
some_or_none None = inl refl
some_or_none (Some x) = inr refl

-- what no key has no name has
pub by_keys : (es : List (Bytes × Bytes)) (name : Name) → ((k : Bytes) → name ≡ k.items → lookup (is_at (beside k.items)) es ≡ None) → at (volume_of es) name ≡ None
by_keys es name none = at-volume_of es name ∙ elim (some_or_none (lookup (is_at (beside name)) es)) [
  | inl is ↦ ap contents is
  | inr some ↦
      let found : (k : Bytes) × (name ≡ k.items) = witness es name some in
      ap contents (subst (λ (n : Name). lookup (is_at (beside n)) es ≡ None) (sym found.1) (none found.0 found.1))
]

-- the bound on keys
abbrev pub on_keys : Bound (Bor Bytes) → Bound Bytes
on_keys start = bound_map (λ (x : Bor Bytes). x.now) start

starts : (start : Bound (Bor Bytes)) (k : Bytes) (name : Name) → name ≡ k.items → IsFrom start name → IsFromStart order (on_keys start) k
starts (Included a) k name is from = subst (λ (n : Name). is_gt (slice_cmp nat_cmp a.now.items n) ≡ false) is from
starts (Excluded a) k name is from = subst (λ (n : Name). slice_cmp nat_cmp a.now.items n ≡ Less) is from
starts Unbounded k name is from = tt

started : (start : Bound (Bor Bytes)) (k : Bytes) (name : Name) → name ≡ k.items → IsFromStart order (on_keys start) k → IsFrom start name
started (Included a) k name is from = subst (λ (n : Name). is_gt (slice_cmp nat_cmp a.now.items n) ≡ false) (sym is) from
started (Excluded a) k name is from = subst (λ (n : Name). slice_cmp nat_cmp a.now.items n ≡ Less) (sym is) from
started Unbounded k name is from = tt

not_below : (a b : Name) → IsBefore a b → is_gt (slice_cmp nat_cmp b a) ≡ false → ⊥
not_below a b less le = true≢false (sym (ap is_gt (nat_list_cmp_total.antisymm b a ∙ ap ordering_reverse less)) ∙ le)

pub first_none : (start : Bound (Bor Bytes)) (m : BTreeMap Bytes Bytes) (r : List (Bytes × Bytes)) → r ≡ [] → IsRangeOf order (on_keys start) Unbounded m r → IsFirstFrom start m.entries None
first_none start m r is range other from = by_keys m.entries other (λ k same. range.5 is k (starts start k other same from, tt))

pub first_some : (start : Bound (Bor Bytes)) (m : BTreeMap Bytes Bytes) (r rest : List (Bytes × Bytes)) (e : Bytes × Bytes) (name : Name) → r ≡ e ∷ rest → name ≡ e.0.items → IsRangeOf order (on_keys start) Unbounded m r → IsFirstFrom start m.entries (Some name)
first_some start m r rest e name is same range =
    let known : IsRangeOf order (on_keys start) Unbounded m (e ∷ rest) = subst (λ (l : List (Bytes × Bytes)). IsRangeOf order (on_keys start) Unbounded m l) is range in
    let here : at (volume_of m.entries) name ≡ Some e.1.items = at-volume_of m.entries name ∙ ap contents (subst (λ (n : Name). lookup (is_at (beside n)) m.entries ≡ Some e.1) (sym same) known.1.1) in (
      ap is_some here,
      started start e.0 name same known.1.0.0,
      λ other from before. by_keys m.entries other (λ k is. elim (some_or_none (lookup (is_at (beside k.items)) m.entries)) [
        | inl none ↦ none
        | inr some ↦ absurd (not_below other name before (subst (λ (n : Name). is_gt (slice_cmp nat_cmp n other) ≡ false) (sym same) (subst (λ (n : Name). is_gt (slice_cmp nat_cmp e.0.items n) ≡ false) (sym is) (known.2 k (starts start k other is from, tt) some))))
      ]),
    )

-- the name that is found is a path
pub named : (start : Bound (Bor Bytes)) (es : List (Bytes × Bytes)) (found : Option (Bor (List ℕ))) → IsFirstFrom start es (option_map (λ (n : Bor (List ℕ)). n.now) found) → ArePaths es → IfSome found (λ n. IsPath n.now)
named start es None first all = tt
named start es (Some n) first all = path_found es n.now all first.0

-- a copy holds the same
pub copied : (es fs : List (Bytes × Bytes)) → AllZip (λ (p : Bytes × Bytes) (q : Bytes × Bytes). (AllZip (λ (x y : ℕ). y ≡ x) p.0.items q.0.items × (vec_len q.0 ≡ vec_len p.0)) × (AllZip (λ (x y : ℕ). y ≡ x) p.1.items q.1.items × (vec_len q.1 ≡ vec_len p.1))) es fs → (volume_of fs ≡ volume_of es) × (ArePaths es → ArePaths fs)
copied [] [] all = (refl, λ paths. tt)
copied [] (f ∷ fs) all = absurd all
copied (e ∷ es) [] all = absurd all
copied (e ∷ es) (f ∷ fs) all =
    let rest : (volume_of fs ≡ volume_of es) × (ArePaths es → ArePaths fs) = copied es fs all.1 in
    let name : f.0.items ≡ e.0.items = each_same e.0.items f.0.items all.0.0.0 in
    let bytes : f.1.items ≡ e.1.items = each_same e.1.items f.1.items all.0.1.0 in (
      ap (λ (v : Volume). map.insert v f.0.items f.1.items) rest.0 ∙ ap (λ (n : Name). map.insert (volume_of es) n f.1.items) name ∙ ap (map.insert (volume_of es) e.0.items) bytes,
      λ paths. (subst IsPath (sym name) paths.0, rest.1 paths.1),
    )
