-- Paths that stand in one text.
use Rattle.std.proofs.Common.{◌≡◌, ℕ, zero, suc, ◌-◌, ◌<◌, ◌≤◌, Bool, true, false, ◌&&◌, List, [], ◌∷◌, ◌++◌, length, get_or, take, drop, refl, sym, ap, subst, ◌∙◌, arith, length-append, length-drop}
use Rattle.std.specs.List.{All}
use Rattle.std.proofs.Math.Seq.{drop-append_seam, take-length}
use Rattle.std.proofs.lemmas.List.{take-append-le, drop-append-le, map-append, get_or-take, length-take-le, get_or_read}
use Rattle.std.proofs.lemmas.List.Elements.{All-head, All-tail, All-push, All-weaker}
use Rattle.tl_path.specs.Path.{IsPath}
use Rattle.tl_entry.specs.Rising.{comes_before, is_rising, IsPlace}
use Rattle.tl_entry.specs.Table.{stretch, stretches, HasPathAt, IsTable}
use Rattle.tl_entry.specs.declared.paths.Place.{Place}
use Rattle.tl_entry.proofs.RisingLemmas.{above_all}
use Rattle.tl_entry.proofs.GatherLemmas.{added_last}

abbrev Text : Type 0
Text = List ℕ

-- what stands at a place stays as the text grows
stretch-more : (text more : Text) (place : Place) → place.start ≤ place.end → place.end ≤ length text → stretch (text ++ more) place ≡ stretch text place
stretch-more text more place order within =
    ap (take (place.end - place.start)) (drop-append-le place.start text more (omega arith))
    ∙ take-append-le (place.end - place.start) (drop place.start text) more (omega (arith, length-drop place.start text))

HasPathAt-more : (text more : Text) (place : Place) → HasPathAt text place → HasPathAt (text ++ more) place
HasPathAt-more text more place has =
    record {
      order = has.order;
      within = omega (arith, has.within, length-append text more);
      path = subst (λ (t : Text). IsPath t) (sym (stretch-more text more place has.order has.within)) has.path;
    }

stretches-more : (text more : Text) (places : List Place) → All (λ (place : Place). HasPathAt text place) places → stretches (text ++ more) places ≡ stretches text places
stretches-more text more [] all = refl
stretches-more text more (place ∷ places) all =
    let has = All-head (λ (p : Place). HasPathAt text p) place places all in
    ap (λ (t : Text). t ∷ stretches (text ++ more) places) (stretch-more text more place has.order has.within)
    ∙ ap (λ (ts : List Text). stretch text place ∷ ts) (stretches-more text more places (All-tail (λ (p : Place). HasPathAt text p) place places all))

-- what a text grew by stands at its end
stretch-last : (text path : Text) (place : Place) → place.start ≡ length text → place.end ≡ length (text ++ path) → stretch (text ++ path) place ≡ path
stretch-last text path place start end =
    let size : place.end - place.start ≡ length path = omega (arith, start, end, length-append text path) in
    ap (λ (n : ℕ). take n (drop place.start (text ++ path))) size
    ∙ ap (λ (n : ℕ). take (length path) (drop n (text ++ path))) start
    ∙ ap (take (length path)) (drop-append_seam text path)
    ∙ take-length path

-- what a path at the end leaves
pub record Pushed (text text' path : Text) (places places' : List Place) : Type 0 where
  pub table : IsTable text' places'
  pub same : stretches text' places' ≡ stretches text places ++ path ∷ []

pushed_at : (text path : Text) (places : List Place) (last : Place) → last.start ≡ length text → last.end ≡ length (text ++ path)
    → IsTable text places → IsPath path → IsPlace (λ (p : Text). p) path (stretches text places) (length (stretches text places))
    → Pushed text (text ++ path) path places (places ++ last ∷ [])
pushed_at text path places last start end old form place =
    let here = stretch-last text path last start end in
    let same : stretches (text ++ path) (places ++ last ∷ []) ≡ stretches text places ++ path ∷ [] =
    map-append (λ (p : Place). stretch (text ++ path) p) places (last ∷ [])
    ∙ ap (λ (ts : List Text). ts ++ stretch (text ++ path) last ∷ []) (stretches-more text path places old.paths)
    ∙ ap (λ (t : Text). stretches text places ++ t ∷ []) here in
    record {
      table = record {
        paths = All-push (λ (p : Place). HasPathAt (text ++ path) p) places last
            (All-weaker (λ (p : Place). HasPathAt text p) (λ (p : Place). HasPathAt (text ++ path) p) (HasPathAt-more text path) places old.paths)
            (record {
              order = omega (arith, start, end, length-append text path);
              within = omega (arith, end);
              path = subst (λ (t : Text). IsPath t) (sym here) form;
            });
        rises = subst (λ (ts : List Text). is_rising (λ (p : Text). p) ts ≡ true) (sym same) (added_last (λ (p : Text). p) path (stretches text places) old.rises place).1;
      };
      same = same;
    }

pub pushed : (text text' path : Text) (places places' : List Place) (last : Place) → text' ≡ text ++ path → places' ≡ places ++ last ∷ [] → last.start ≡ length text → last.end ≡ length text'
    → IsTable text places → IsPath path → IsPlace (λ (p : Text). p) path (stretches text places) (length (stretches text places)) → Pushed text text' path places places'
pushed text text' path places places' last grown more start end old form place =
    rw (grown, more) (pushed_at text path places last start (end ∙ ap length grown) old form place)

both : (a b : Bool) → (a && b) ≡ true → (a ≡ true) × (b ≡ true)
both true b e = (refl, e)
both false b e = absurd (cc)

next_rises : (xs : List Text) (k : ℕ) (d : Text) → is_rising (λ (p : Text). p) xs ≡ true → suc k < length xs → comes_before (get_or xs k d) (get_or xs (suc k) d) ≡ true
next_rises [] k d up lt = absurd (omega arith)
next_rises (x ∷ []) k d up lt = absurd (omega arith)
next_rises (x ∷ y ∷ ys) zero d up lt = (both _ _ up).0
next_rises (x ∷ y ∷ ys) (suc k) d up lt = next_rises (y ∷ ys) k d (both _ _ up).1 (omega arith)

-- each text of a rising list comes after those before it
pub place_next : (xs copy : List Text) (i : ℕ) (x : Text) → is_rising (λ (p : Text). p) xs ≡ true → i < length xs → x ≡ get_or xs i x → copy ≡ take i xs → IsPlace (λ (p : Text). p) x copy (length copy)
place_next xs copy i x up lt is same =
    let size : length copy ≡ i = ap length same ∙ length-take-le i xs (omega arith) in
    record {
      within = omega arith;
      below = λ k d h.
          let near : k < i = omega (arith, size, h) in
          let here : get_or copy k d ≡ get_or xs k d = ap (λ (ts : List Text). get_or ts k d) same ∙ get_or-take i xs k d near in
          let lt' : suc k < length xs = omega (arith, near, lt) in
          let before : comes_before (get_or xs k d) (get_or xs i d) ≡ true =
          above_all (λ (p : Text). p) (get_or xs k d) xs (suc k) d up lt' (next_rises xs k d up lt') i (omega (arith, near)) lt in
          ap (λ (t : Text). comes_before t x) here
          ∙ ap (λ (t : Text). comes_before (get_or xs k d) t) (get_or_read xs i x lt is d)
          ∙ before;
      above = λ k d le h. absurd (omega (arith, le, h));
    }
