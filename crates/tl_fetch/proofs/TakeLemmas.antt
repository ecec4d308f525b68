-- Events that can be taken, and what each of them makes of what has come.
use Rattle.std.proofs.Common.{◌≡◌, ◌≤◌, ◌⊎◌, ℕ, Bool, true, false, not, is_err, OnOk, Result, Ok, Err, List, [], ◌∷◌, ◌++◌, length, drop, refl, sym, ◌∙◌, ap, subst, arith, append_assoc}
use Rattle.std.specs.Prelude.{◌&&◌, map}
use Rattle.std.specs.List.{flat_map}
use Rattle.std.proofs.lemmas.List.{append-nil}
use Rattle.std.proofs.lemmas.List.Sums.{fold-append}
use Rattle.std.proofs.lemmas.Grind.{flat_map-append}
use Rattle.tl_model.specs.Volume.{Name}
use Rattle.tl_entry.specs.declared.object.Object.{Object}
use Rattle.tl_frame.specs.Events.{event_tokens}
use Rattle.tl_frame.specs.Answers.{feed_answer}
use Rattle.tl_frame.specs.Scan.{Token, FileByte, tokens_of}
use Rattle.tl_frame.specs.States.{IsFed, ReaderState, Tells, is_spent}
use Rattle.tl_frame.specs.declared.error.FrameError.{FrameError}
use Rattle.tl_frame.specs.declared.error.FrameError.TheVariants.{NoMemory}
use Rattle.tl_frame.specs.declared.event.FrameEvent.{FrameEvent}
use Rattle.tl_frame.specs.declared.event.FrameEvent.TheVariants.{File, Bytes}
use Rattle.tl_fetch.specs.Sinks.{SinkSeen, IsAwaited}
use Rattle.tl_fetch.specs.Unpacked.{Unpacked, Follows, CanTake, are_orderly, awaiting, heads, unpacked, unpacked_by}
use Rattle.tl_fetch.specs.Fetching.{IsToldMore}
use Rattle.tl_fetch.specs.declared.unpacking.Unpacking.{Unpacking}
use Rattle.tl_fetch.proofs.OrderlyLaws.{orderly_front, orderly_behind, orderly_bytes, orderly_head, tokens_orderly}
use Rattle.tl_fetch.proofs.UnpackLemmas.{head_awaited}

-- bytes that can be taken are no more than the sink's last file lacks
pub bytes_fit : (tells : Bool) (u : Unpacking) (now : SinkSeen) (bytes : List ℕ) → CanTake tells u now (Bytes bytes ∷ []) → u.is_wrong ≡ false → length bytes ≤ now.lacks
bytes_fit tells u now bytes can right =
    let few = orderly_bytes can.state.lacks bytes (subst (λ (l : List Token). are_orderly can.state.lacks l ≡ true) (append-nil (map FileByte bytes)) can.orderly) in
    let same = can.follows.lacks (sym can.follows.wrong ∙ right) in
    omega arith

-- a file that can be taken and is the next one may begin
pub head_fits : (tells : Bool) (u : Unpacking) (now : SinkSeen) (path : Name) (size : ℕ) → CanTake tells u now (File path size ∷ []) → u.is_wrong ≡ false → heads path (drop u.place u.paths.items) ≡ true → IsAwaited path now
head_fits tells u now path size can right is =
    head_awaited tells can.entry can.first now u can.state can.follows path size (sym can.follows.wrong ∙ right) (ap (heads path) (sym can.follows.left) ∙ is) (orderly_head can.state.lacks path size can.orderly)

-- what has come with more events behind others
pub unpacked_more : (entry : Object) (s : Unpacked) (some more : List FrameEvent) → unpacked entry s (flat_map event_tokens (some ++ more)) ≡ unpacked entry (unpacked entry s (flat_map event_tokens some)) (flat_map event_tokens more)
unpacked_more entry s some more =
    ap (unpacked entry s) (flat_map-append event_tokens some more) ∙ fold-append (unpacked_by entry) s (flat_map event_tokens some) (flat_map event_tokens more)

-- and with one event
pub unpacked_one : (entry : Object) (s : Unpacked) (some : List FrameEvent) (event : FrameEvent) → unpacked entry s (flat_map event_tokens (some ++ event ∷ [])) ≡ unpacked entry (unpacked entry s (flat_map event_tokens some)) (event_tokens event)
unpacked_one entry s some event =
    unpacked_more entry s some (event ∷ []) ∙ ap (unpacked entry (unpacked entry s (flat_map event_tokens some))) (append-nil (event_tokens event))

-- the next of events that can be taken, where those before it were
pub take_next : (tells : Bool) (entry : Object) (first now : SinkSeen) (u : Unpacking) (s : Unpacked) (done : List FrameEvent) (event : FrameEvent) (rest : List FrameEvent) → Follows tells entry first now u (unpacked entry s (flat_map event_tokens done))
    → are_orderly s.lacks (flat_map event_tokens (done ++ event ∷ rest)) ≡ true → CanTake tells u now (event ∷ [])
take_next tells entry first now u s done event rest follows orderly = record {
  entry = entry;
  first = first;
  state = unpacked entry s (flat_map event_tokens done);
  follows = follows;
  orderly =
      let split : flat_map event_tokens (done ++ event ∷ rest) ≡ flat_map event_tokens done ++ (event_tokens event ++ flat_map event_tokens rest) = flat_map-append event_tokens done (event ∷ rest) in
      let behind = orderly_behind entry s (flat_map event_tokens done) (event_tokens event ++ flat_map event_tokens rest) (subst (λ (l : List Token). are_orderly s.lacks l ≡ true) split orderly) in
      let front = orderly_front (unpacked entry s (flat_map event_tokens done)).lacks (event_tokens event) (flat_map event_tokens rest) behind in
      subst (λ (l : List Token). are_orderly (unpacked entry s (flat_map event_tokens done)).lacks l ≡ true) (sym (append-nil (event_tokens event))) front;
}

-- taking some events: whatever what had come followed, it follows still
pub record GoesOn (tells : Bool) (old now : SinkSeen) (u v : Unpacking) (done : List FrameEvent) : Type 0 where
  pub later : old.faults ≤ now.faults
  pub goes : (entry : Object) (first : SinkSeen) (s : Unpacked) → Follows tells entry first old u s → Follows tells entry first now v (unpacked entry s (flat_map event_tokens done))

pub goes_start : (tells : Bool) (old : SinkSeen) (u : Unpacking) → GoesOn tells old old u u []
goes_start tells old u = record { later = omega arith; goes = λ entry first s f. f }

pub goes_more : (tells : Bool) (old now new : SinkSeen) (u v w : Unpacking) (done : List FrameEvent) (event : FrameEvent) → GoesOn tells old now u v done → now.faults ≤ new.faults
    → ((entry : Object) (first : SinkSeen) (s : Unpacked) → Follows tells entry first now v s → Follows tells entry first new w (unpacked entry s (event_tokens event))) → GoesOn tells old new u w (done ++ event ∷ [])
goes_more tells old now new u v w done event far later near = record {
  later = omega (arith, far.later, later);
  goes = λ entry first s f. subst (λ (t : Unpacked). Follows tells entry first new w t) (sym (unpacked_one entry s done event)) (near entry first (unpacked entry s (flat_map event_tokens done)) (far.goes entry first s f));
}

-- the next event can be taken
pub goes_next : (tells : Bool) (old now : SinkSeen) (u v : Unpacking) (done : List FrameEvent) (event : FrameEvent) (rest events : List FrameEvent) → CanTake tells u old events → GoesOn tells old now u v done → events ≡ done ++ event ∷ rest → CanTake tells v now (event ∷ [])
goes_next tells old now u v done event rest events can far split =
    take_next tells can.entry can.first now v can.state done event rest (far.goes can.entry can.first can.state can.follows) (subst (λ (l : List FrameEvent). are_orderly can.state.lacks (flat_map event_tokens l) ≡ true) split can.orderly)

-- ---- pieces

ok_then : {T E : Type 0} (r : Result T E) (P : Type 0) → is_err r ≡ false → OnOk r P → P
ok_then (Ok x) P never p = p
ok_then (Err e) P never p = absurd (cc)

-- what is said of a call that answered Ok
pub when_ok : {T E : Type 0} (r : Result T E) (P : Type 0) (b : Bool) → b ≡ is_err r → b ≡ false → OnOk r P → P
when_ok r P b is never p = ok_then r P (sym is ∙ never) p

-- a reader that didn't want memory is live
live_by : (spent : Bool) (fed : List ℕ) (r : Result Unit FrameError) → r ≡ feed_answer spent fed → (r ≡ Err NoMemory → ⊥) → spent ≡ false
live_by true fed r is never = absurd (never is)
live_by false fed r is never = refl

-- what a piece told a reader that is live behind it
pub told_more : (old new : ReaderState) (fed piece : List ℕ) (before after : List FrameEvent) (r : Result Unit FrameError) → before ≡ [] → (r ≡ Err NoMemory → ⊥) → r ≡ feed_answer (is_spent new) (fed ++ piece)
    → IsFed new (fed ++ piece) → Tells fed piece before after (is_spent new) → IsToldMore new fed piece after
told_more old new fed piece before after r none never answer is_fed tells =
    let live = live_by (is_spent new) (fed ++ piece) r answer never in
    let all : tells.front ≡ piece = sym (append-nil tells.front) ∙ ap (λ (l : List ℕ). tells.front ++ l) (sym (tells.whole live)) ∙ sym tells.split in
    let given : after ≡ tells.adds.given = tells.adds.same ∙ ap (λ (l : List FrameEvent). l ++ tells.adds.given) none in
    record {
      fed_more = is_fed;
      live = live;
      told = ap (λ (l : List ℕ). tokens_of (fed ++ l)) (sym all) ∙ tells.told ∙ ap (λ (l : List Token). tokens_of fed ++ l) (sym tells.adds.told ∙ ap (flat_map event_tokens) (sym given));
    }

-- the events of a piece can be taken
pub piece_taken : (tells : Bool) (entry : Object) (paths : List Name) (first now : SinkSeen) (u : Unpacking) (fed piece : List ℕ) (events : List FrameEvent) → Follows tells entry first now u (unpacked entry (awaiting paths) (tokens_of fed))
    → tokens_of (fed ++ piece) ≡ tokens_of fed ++ flat_map event_tokens events → CanTake tells u now events
piece_taken tells entry paths first now u fed piece events follows told = record {
  entry = entry;
  first = first;
  state = unpacked entry (awaiting paths) (tokens_of fed);
  follows = follows;
  orderly = orderly_behind entry (awaiting paths) (tokens_of fed) (flat_map event_tokens events) (subst (λ (l : List Token). are_orderly 0 l ≡ true) told (tokens_orderly (fed ++ piece)));
}

-- and what has come then is what all the bytes tell
pub piece_told : (entry : Object) (paths : List Name) (fed piece : List ℕ) (events : List FrameEvent) → tokens_of (fed ++ piece) ≡ tokens_of fed ++ flat_map event_tokens events
    → unpacked entry (unpacked entry (awaiting paths) (tokens_of fed)) (flat_map event_tokens events) ≡ unpacked entry (awaiting paths) (tokens_of (fed ++ piece))
piece_told entry paths fed piece events told =
    sym (fold-append (unpacked_by entry) (awaiting paths) (tokens_of fed) (flat_map event_tokens events)) ∙ ap (unpacked entry (awaiting paths)) (sym told)

-- what follows of what is said where a call answers Ok
pub on_ok : {T E P Q : Type 0} (r : Result T E) → OnOk r P → (P → Q) → OnOk r Q
on_ok (Ok x) p go = go p
on_ok (Err e) p go = tt
