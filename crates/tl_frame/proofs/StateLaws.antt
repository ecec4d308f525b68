-- How a reader goes on from front to front of a piece.
use Rattle.std.proofs.Common.{◌≡◌, ◌<◌, ◌+◌, ◌-◌, ◌^◌, ℕ, suc, min, Bool, false, cond, List, [], ◌∷◌, ◌++◌, length, Option, Some, None, refl, sym, ◌∙◌, ap, subst, arith, append_assoc, length-append, eqb}
use Rattle.std.specs.Prelude.{map}
use Rattle.std.specs.List.{AllByRecursion, flat_map}
use Rattle.std.proofs.lemmas.List.{append-nil}
use Rattle.std.proofs.lemmas.Bool.{ne_eqb}
use Rattle.std.proofs.lemmas.Grind.{flat_map-append}
use Rattle.tl_frame.specs.declared.event.FrameEvent.{FrameEvent}
use Rattle.tl_frame.specs.declared.event.FrameEvent.TheVariants as event
use Rattle.tl_frame.specs.declared.stage.Waiting.{Waiting}
use Rattle.tl_frame.specs.declared.stage.Stage.{Stage}
use Rattle.tl_frame.specs.declared.stage.Stage.TheVariants.{Content, Ended, Faulty, Spent}
use Rattle.tl_frame.specs.Scan.{Token, FileByte, AtEnd, AtFault, Scan, stop, telling, content_from, files_from}
use Rattle.tl_frame.specs.Events.{AddsEvents, HasBytes, event_tokens}
use Rattle.tl_frame.specs.States.{told_place, ReaderState, reader_of, at_field, wanted_by, rest_from, is_spent, is_spent_stage, IsKept, IsInForm, GoesOn, Moves, Takes, before_files}
use Rattle.tl_frame.proofs.FieldLaws.{nothing_is, bytes_whole, bytes_part}
use Rattle.tl_frame.proofs.MoveLaws.{no_events, one_event, rest_is, moves_wrong, moves_files, moved, here_at}

all_append : (xs ys : List FrameEvent) → AllByRecursion HasBytes xs → AllByRecursion HasBytes ys → AllByRecursion HasBytes (xs ++ ys)
all_append [] ys are also = also
all_append (x ∷ xs) ys are also = (are.0, all_append xs ys are.1 also)

adds_more : (a b c : List FrameEvent) (ts us : List Token) → AddsEvents a b ts → AddsEvents b c us → AddsEvents a c (ts ++ us)
adds_more a b c ts us first next = record {
  given = first.given ++ next.given;
  same = next.same ∙ ap (λ (l : List FrameEvent). l ++ next.given) first.same ∙ append_assoc a first.given next.given;
  some = all_append first.given next.given first.some next.some;
  told = flat_map-append event_tokens first.given next.given ∙ ap (λ (l : List Token). l ++ flat_map event_tokens next.given) first.told ∙ ap (λ (l : List Token). ts ++ l) next.told;
}

pub telling_twice : (ts us : List Token) (s : Scan) → telling ts (telling us s) ≡ telling (ts ++ us) s
telling_twice ts us s = ap (λ (l : List Token). record { tokens = l; ending = s.ending }) (sym (append_assoc ts us s.tokens))

goes_more : (here : ℕ) (a b c : ReaderState) (f g : List ℕ) (ts us : List Token) → (first : GoesOn here a b f ts) → GoesOn first.next b c g us → GoesOn here a c (f ++ g) (ts ++ us)
goes_more here a b c f g ts us first second = record {
  next = second.next;
  place = second.place;
  rest = λ more.
      ap (λ (l : List ℕ). rest_from a.waiting a.last here (a.kept ++ l)) (append_assoc f g more)
      ∙ first.rest (g ++ more)
      ∙ ap (λ (s : Scan). telling ts s) (second.rest more)
      ∙ telling_twice ts us (rest_from c.waiting c.last second.next (c.kept ++ more));
}

pub moves_more : (a b c : ReaderState) (f g : List ℕ) (x y z : List FrameEvent) → Moves a b f x y → Moves b c g y z → Moves a c (f ++ g) x z
moves_more a b c f g x y z first second = record {
  tokens = first.tokens ++ second.tokens;
  adds = adds_more x y z first.tokens second.tokens first.adds second.adds;
  form = second.form;
  live = second.live;
  goes = λ here at. let one = first.goes here at in goes_more here a b c f g first.tokens second.tokens one (second.goes one.next one.place);
}

pub moves_none : (s : ReaderState) (events : List FrameEvent) → IsInForm s.waiting s.kept s.last → is_spent s ≡ false → Moves s s [] events events
moves_none s events form live = record { tokens = []; adds = no_events events; form = form; live = live; goes = λ here at. record { next = here; place = at; rest = λ more. refl } }

pub takes_none : (s : ReaderState) (piece : List ℕ) (events : List FrameEvent) → IsInForm s.waiting s.kept s.last → is_spent s ≡ false → Takes s s piece piece events events
takes_none s piece events form live = record { front = []; split = refl; moves = moves_none s events form live }

pub takes_more : (a b c : ReaderState) (piece mid rest : List ℕ) (x y z : List FrameEvent) → Takes a b piece mid x y → Takes b c mid rest y z → Takes a c piece rest x z
takes_more a b c piece mid rest x y z first second = record {
  front = first.front ++ second.front;
  split = first.split ∙ ap (λ (l : List ℕ). first.front ++ l) second.split ∙ sym (append_assoc first.front second.front rest);
  moves = moves_more a b c first.front second.front x y z first.moves second.moves;
}

-- ---- a field that is kept until it is whole

live_wanted : (stage : Stage) (n : ℕ) → wanted_by stage ≡ Some n → is_spent_stage stage ≡ false
live_wanted Spent n is = absurd cc
live_wanted _ n is = refl

-- less than what lacks came
pub moves_kept : (w : Waiting) (kept kept' last piece : List ℕ) (wanted : ℕ) (events : List FrameEvent) → wanted_by w.stage ≡ Some wanted → IsInForm w kept last
    → length kept + length piece < wanted → kept' ≡ kept ++ piece → Takes (reader_of w kept last) (reader_of w kept' last) piece [] events events
moves_kept w kept kept' last piece wanted events is form less same = record {
  front = piece;
  split = sym (append-nil piece);
  moves = record {
    tokens = [];
    adds = no_events events;
    form = record { kept_less = subst (λ (o : Option ℕ). IsKept o kept') (sym is) (subst (λ (l : List ℕ). length l < wanted) (sym same) (omega (arith, length-append kept piece))); at_stage = form.at_stage };
    live = live_wanted w.stage wanted is;
    goes = λ here at. record {
      next = here;
      place = at;
      rest = λ more. ap (λ (l : List ℕ). rest_from w last here l) (sym (append_assoc kept piece more)) ∙ ap (λ (l : List ℕ). rest_from w last here (l ++ more)) (sym same);
    };
  };
}

-- a field came behind what was kept of it
pub moves_behind : (w new : Waiting) (kept last last' front field : List ℕ) (x y : List FrameEvent) → field ≡ kept ++ front → Moves (at_field w last) (at_field new last') field x y
    → Moves (reader_of w kept last) (at_field new last') front x y
moves_behind w new kept last last' front field x y same moves = record {
  tokens = moves.tokens;
  adds = moves.adds;
  form = moves.form;
  live = moves.live;
  goes = λ here at. let on = moves.goes here at in record {
    next = on.next;
    place = on.place;
    rest = λ more.
        ap (λ (l : List ℕ). rest_from w last here l) (sym (append_assoc kept front more))
        ∙ ap (λ (l : List ℕ). rest_from w last here (l ++ more)) (sym same)
        ∙ on.rest more;
  };
}

-- ---- bytes that aren't kept

-- the end has come, and something behind it
pub takes_ended : (w new : Waiting) (last piece : List ℕ) (events : List FrameEvent) → w.stage ≡ Ended → 0 < length piece → new ≡ here_at w Faulty
    → Takes (reader_of w [] last) (reader_of new [] last) piece [] events events
takes_ended w new last piece events stage some is = record {
  front = piece;
  split = sym (append-nil piece);
  moves = moves_wrong w new last piece events is (λ here more. rest_is w Ended stage last here (piece ++ more) ∙ nothing_is here (piece ++ more) ∙ by here more piece some);
}
  where
    by : (here : ℕ) (more text : List ℕ) → 0 < length text → stop (cond (eqb (length (text ++ more)) 0) AtEnd (AtFault here)) ≡ stop (AtFault here)
    by here more [] some = absurd (omega arith)
    by here more (x ∷ text) some =
        let differs : suc (length (text ++ more)) ≡ 0 → ⊥ = λ e. omega arith in
        ap (λ (b : Bool). stop (cond b AtEnd (AtFault here))) (ne_eqb (suc (length (text ++ more))) 0 differs)

-- a field was wrong
pub takes_faulty : (w : Waiting) (last piece : List ℕ) (events : List FrameEvent) → w.stage ≡ Faulty → Takes (reader_of w [] last) (reader_of w [] last) piece [] events events
takes_faulty w last piece events stage = record {
  front = piece;
  split = sym (append-nil piece);
  moves = moved w w last last piece events events [] (λ here. here) (no_events events)
      (subst (λ (s : Stage). IsInForm (record w { stage = s }) [] last) (sym stage) (record { kept_less = refl; at_stage = tt }))
      (ap is_spent_stage stage) (λ here at. at) (λ here more. rest_is w Faulty stage last here (piece ++ more) ∙ sym (rest_is w Faulty stage last here more));
}

-- no other stage keeps nothing and isn't spent
pub is_faulty : (stage : Stage) → wanted_by stage ≡ None → is_spent_stage stage ≡ false → (stage ≡ Ended → ⊥) → ((left : ℕ) → stage ≡ Content left → ⊥) → stage ≡ Faulty
is_faulty Faulty none live ended content = refl
is_faulty Ended none live ended content = absurd (ended refl)
is_faulty (Content left) none live ended content = absurd (content left refl)
is_faulty Spent none live ended content = absurd cc
is_faulty _ none live ended content = absurd cc

has : (bytes : List ℕ) → 0 < length bytes → HasBytes (event.Bytes bytes)
has [] some = absurd (omega arith)
has (b ∷ bytes) some = tt

-- some of a file's bytes
pub takes_part : (w new : Waiting) (left : ℕ) (last piece front rest : List ℕ) (bytes : List ℕ) (x y : List FrameEvent) → w.stage ≡ Content left → piece ≡ front ++ rest → 0 < length front → length front < left
    → bytes ≡ front → y ≡ x ++ event.Bytes bytes ∷ [] → new ≡ here_at w (Content (left - length front)) → Takes (reader_of w [] last) (reader_of new [] last) piece rest x y
takes_part w new left last piece front rest bytes x y stage split some less same added is = record {
  front = front;
  split = split;
  moves = subst (λ (n : Waiting). Moves (at_field w last) (at_field n last) front x y) (sym is)
      (moved w (here_at w (Content (left - length front))) last last front x y (event_tokens (event.Bytes bytes)) (λ here. here) (one_event x y (event.Bytes bytes) added (has bytes (subst (λ (l : List ℕ). 0 < length l) (sym same) some)))
      (record { kept_less = refl; at_stage = omega arith }) refl (λ here at. at)
      (λ here more. rest_is w (Content left) stage last here (front ++ more) ∙ bytes_part left here front more (files_from w.files last (here + w.size)) (omega arith)
      ∙ ap (λ (l : List ℕ). telling (map FileByte l) (content_from (left - length front) here more (files_from w.files last (here + w.size)))) (sym same)));
}

-- all of them that lacked
pub takes_all : (w new : Waiting) (left : ℕ) (last piece front rest : List ℕ) (bytes : List ℕ) (x y : List FrameEvent) → w.stage ≡ Content left → piece ≡ front ++ rest → 0 < length front → length front ≡ left
    → bytes ≡ front → y ≡ x ++ event.Bytes bytes ∷ [] → new ≡ before_files (told_place (w.place + w.size)) w.files → Takes (reader_of w [] last) (reader_of new [] last) piece rest x y
takes_all w new left last piece front rest bytes x y stage split some all same added is = record {
  front = front;
  split = split;
  moves = moves_files w new w.size w.files last last front x y (event_tokens (event.Bytes bytes)) is (one_event x y (event.Bytes bytes) added (has bytes (subst (λ (l : List ℕ). 0 < length l) (sym same) some)))
      (λ here more. rest_is w (Content left) stage last here (front ++ more) ∙ bytes_whole left here front more (files_from w.files last (here + w.size)) all
      ∙ ap (λ (l : List ℕ). telling (map FileByte l) (files_from w.files last (here + w.size) more)) (sym same));
}
