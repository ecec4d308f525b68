-- What the bytes tell that have come to a reader, and how they end.
use Rattle.std.proofs.Common.{◌≡◌, ◌<◌, ◌+◌, ◌-◌, ℕ, Bool, true, false, List, [], ◌++◌, length, Ok, refl, sym, ◌∙◌, ap, subst, arith, append_assoc, inl, inr}
use Rattle.std.proofs.lemmas.List.{append-nil, get_or_append_left, get_or-append_right, get_or_past}
use Rattle.std.proofs.lemmas.Bool.{cases_lt}
use Rattle.tl_frame.specs.declared.event.FrameEvent.{FrameEvent}
use Rattle.tl_frame.specs.declared.stage.Waiting.{Waiting}
use Rattle.tl_frame.specs.declared.stage.Stage.{Stage}
use Rattle.tl_frame.specs.declared.stage.Stage.TheVariants.{Magic, EntrySize, EntryText, Count, PathSize, PathText, Size, Content, Mark, Ended, Faulty, Spent}
use Rattle.tl_frame.specs.Scan.{Token, ScanEnd, AtEnd, InField, AtFault, Scan, stop, telling, scan, tokens_of, ending_of, AreBytes, files_from}
use Rattle.std.specs.List.{flat_map}
use Rattle.tl_frame.specs.Events.{event_tokens}
use Rattle.tl_frame.specs.States.{ReaderState, reader_of, told_place, wanted_by, rest_by, rest_from, ending_by, is_spent, is_spent_stage, IsKept, IsAtStage, IsInForm, Leads, IsFed, Moves, Takes, Tells}
use Rattle.tl_frame.specs.Answers.{feed_by, feed_answer, stage_fault, reader_fault, stage_ending, finish_by, finish_answer}
use Rattle.tl_frame.proofs.FieldLaws.{field_cut, magic_is, entry_size_is, entry_is, count_is, files_is, path_fits, size_is, mark_is, nothing_is, bytes_none}
use Rattle.tl_frame.proofs.MoveLaws.{rest_is, no_events}
use Rattle.tl_frame.proofs.StateLaws.{telling_twice}

pub bytes_append : (xs ys : List ℕ) → AreBytes xs → AreBytes ys → AreBytes (xs ++ ys)
bytes_append xs ys are also i = elim (cases_lt i (length xs)) [
  | inl here ↦ subst (λ (b : ℕ). b < 256) (sym (get_or_append_left xs ys 0 i here)) (are i)
  | inr behind ↦ subst (λ (b : ℕ). b < 256) (sym (get_or-append_right xs ys (length xs) i 0 refl behind)) (also (i - length xs))
]

-- bytes that lead to a reader, and a front that came behind them
pub leads_on : (old new : ReaderState) (fed front : List ℕ) (told : List Token) (x y : List FrameEvent) → (m : Moves old new front x y) → AreBytes front → Leads old fed told → Leads new (fed ++ front) (told ++ m.tokens)
leads_on old new fed front told x y m are leads =
    let on = m.goes leads.here leads.place in record {
      here = on.next;
      are_bytes = bytes_append fed front leads.are_bytes are;
      place = on.place;
      rest = λ more.
          ap scan (append_assoc fed front more)
          ∙ leads.rest (front ++ more)
          ∙ ap (λ (s : Scan). telling told s) (on.rest more)
          ∙ telling_twice told m.tokens (rest_from new.waiting new.last on.next (new.kept ++ more));
    }

-- what is kept tells nothing, and is less than a whole field
kept_rest : (stage : Stage) (files size here : ℕ) (kept last : List ℕ) → IsKept (wanted_by stage) kept → IsAtStage stage last → is_spent_stage stage ≡ false
    → rest_by stage files size last here kept ≡ stop (ending_by stage here)
kept_rest Magic files size here kept last less at live = magic_is here kept ∙ field_cut 8 here kept _ less
kept_rest EntrySize files size here kept last less at live = entry_size_is here kept ∙ field_cut 4 here kept _ less
kept_rest (EntryText wanted) files size here kept last less at live = entry_is wanted here kept ∙ field_cut wanted here kept _ less
kept_rest Count files size here kept last less at live = count_is here kept ∙ field_cut 4 here kept _ less
kept_rest PathSize files size here kept last less at live = files_is files last here kept ∙ field_cut 2 here kept _ less
kept_rest (PathText wanted) files size here kept last less at live = path_fits wanted last here kept (files_from files) at ∙ field_cut wanted here kept _ less
kept_rest Size files size here kept last less at live = size_is last here kept (files_from files) ∙ field_cut 8 here kept _ less
kept_rest (Content left) files size here kept last less at live = ap (λ (l : List ℕ). rest_by (Content left) files size last here l) less ∙ bytes_none left here (files_from files last (here + size)) at
kept_rest Mark files size here kept last less at live = mark_is here kept ∙ field_cut 8 here kept _ less
kept_rest Ended files size here kept last less at live = ap (λ (l : List ℕ). rest_by Ended files size last here l) less ∙ nothing_is here []
kept_rest Faulty files size here kept last less at live = refl
kept_rest Spent files size here kept last less at live = absurd cc

-- all that the bytes tell that lead to a reader, and how they end
pub scan_led : (s : ReaderState) (fed : List ℕ) (told : List Token) → IsInForm s.waiting s.kept s.last → is_spent s ≡ false → (leads : Leads s fed told)
    → scan fed ≡ record { tokens = told; ending = ending_by s.waiting.stage leads.here }
scan_led s fed told form live leads =
    ap scan (sym (append-nil fed))
    ∙ leads.rest []
    ∙ ap (λ (l : List ℕ). telling told (rest_from s.waiting s.last leads.here l)) (append-nil s.kept)
    ∙ ap (λ (r : Scan). telling told r) (kept_rest s.waiting.stage s.waiting.files s.waiting.size leads.here s.kept s.last form.kept_less form.at_stage live)
    ∙ ap (λ (ts : List Token). record { tokens = ts; ending = ending_by s.waiting.stage leads.here }) (append-nil told)

pub told_led : (s : ReaderState) (fed : List ℕ) (told : List Token) → IsInForm s.waiting s.kept s.last → is_spent s ≡ false → Leads s fed told → tokens_of fed ≡ told
told_led s fed told form live leads = ap (λ (r : Scan). r.tokens) (scan_led s fed told form live leads)

pub ending_led : (s : ReaderState) (fed : List ℕ) (told : List Token) → IsInForm s.waiting s.kept s.last → is_spent s ≡ false → (leads : Leads s fed told) → ending_of fed ≡ ending_by s.waiting.stage leads.here
ending_led s fed told form live leads = ap (λ (r : Scan). r.ending) (scan_led s fed told form live leads)

-- ---- a piece

pub bytes_front : (piece front rest : List ℕ) → piece ≡ front ++ rest → AreBytes piece → AreBytes front
bytes_front piece front rest split are i = elim (cases_lt i (length front)) [
  | inl here ↦ subst (λ (b : ℕ). b < 256) (get_or_append_left front rest 0 i here) (subst AreBytes split are i)
  | inr past ↦ subst (λ (b : ℕ). b < 256) (sym (get_or_past front i 0 past)) (omega arith)
]

-- where a piece came as far as a rest, the reader and what was told
pub front_led : (old new : ReaderState) (fed piece rest : List ℕ) (x y : List FrameEvent) → (t : Takes old new piece rest x y) → is_spent old ≡ false → AreBytes piece → IsFed old fed
    → Leads new (fed ++ t.front) (tokens_of fed ++ t.moves.tokens)
front_led old new fed piece rest x y t live are is = leads_on old new fed t.front (tokens_of fed) x y t.moves (bytes_front piece t.front rest t.split are) (is live)

front_told : (old new : ReaderState) (fed piece rest : List ℕ) (x y : List FrameEvent) → (t : Takes old new piece rest x y) → is_spent old ≡ false → AreBytes piece → IsFed old fed
    → tokens_of (fed ++ t.front) ≡ tokens_of fed ++ t.moves.tokens
front_told old new fed piece rest x y t live are is = told_led new (fed ++ t.front) (tokens_of fed ++ t.moves.tokens) t.moves.form t.moves.live (front_led old new fed piece rest x y t live are is)

pub tells_front : (old new : ReaderState) (fed piece rest : List ℕ) (x y : List FrameEvent) (spent : Bool) → (t : Takes old new piece rest x y) → (spent ≡ false → rest ≡ []) → is_spent old ≡ false → AreBytes piece → IsFed old fed
    → Tells fed piece x y spent
tells_front old new fed piece rest x y spent t whole live are is = record {
  front = t.front;
  rest = rest;
  split = t.split;
  whole = whole;
  tokens = t.moves.tokens;
  adds = t.moves.adds;
  told = front_told old new fed piece rest x y t live are is;
}

-- nothing comes to a reader that found no memory
pub tells_none : (fed piece : List ℕ) (events : List FrameEvent) (spent : Bool) → (spent ≡ false → ⊥) → Tells fed piece events events spent
tells_none fed piece events spent dead = record {
  front = [];
  rest = piece;
  split = refl;
  whole = λ live. absurd (dead live);
  tokens = [];
  adds = no_events events;
  told = ap tokens_of (append-nil fed) ∙ sym (append-nil (tokens_of fed));
}

-- a piece came whole
module _ (old new : ReaderState) (fed piece : List ℕ) (x y : List FrameEvent) (t : Takes old new piece [] x y) (live : is_spent old ≡ false) (are : AreBytes piece) (is : IsFed old fed) where
  front_whole : fed ++ t.front ≡ fed ++ piece
  front_whole = ap (λ (l : List ℕ). fed ++ l) (sym (t.split ∙ append-nil t.front))

  pub piece_led : Leads new (fed ++ piece) (tokens_of (fed ++ piece))
  piece_led = subst (λ (l : List ℕ). Leads new l (tokens_of l)) front_whole
      (subst (λ (ts : List Token). Leads new (fed ++ t.front) ts) (sym (front_told old new fed piece [] x y t live are is)) (front_led old new fed piece [] x y t live are is))

  pub piece_ending : ending_of (fed ++ piece) ≡ ending_by new.waiting.stage piece_led.here
  piece_ending = ending_led new (fed ++ piece) (tokens_of (fed ++ piece)) t.moves.form t.moves.live piece_led

  pub piece_answer : reader_fault new ≡ feed_answer (is_spent new) (fed ++ piece)
  piece_answer = ap (λ (p : ℕ). stage_fault new.waiting.stage p) piece_led.place ∙ by new.waiting.stage piece_led.here piece_ending t.moves.live
    where
      by : (stage : Stage) (here : ℕ) → ending_of (fed ++ piece) ≡ ending_by stage here → is_spent_stage stage ≡ false → stage_fault stage (told_place here) ≡ feed_answer (is_spent_stage stage) (fed ++ piece)
      by Spent here ending live = absurd cc
      by _ here ending live = sym (ap feed_by ending)

-- a field that is wrong stays the first one
pub fault_again : (s : ReaderState) (fed piece : List ℕ) (place : ℕ) → IsInForm s.waiting s.kept s.last → is_spent s ≡ false → IsFed s fed → ending_of fed ≡ AtFault place → ending_of (fed ++ piece) ≡ AtFault place
fault_again s fed piece place form live is wrong =
    let leads = is live in
    ap (λ (r : Scan). r.ending) (leads.rest piece)
    ∙ by s.waiting.stage s.waiting.files s.waiting.size leads.here s.last (s.kept ++ piece) live (sym (ending_led s fed (tokens_of fed) form live leads) ∙ wrong)
  where
    by : (stage : Stage) (files size here : ℕ) (last text : List ℕ) → is_spent_stage stage ≡ false → ending_by stage here ≡ AtFault place → (rest_by stage files size last here text).ending ≡ AtFault place
    by Faulty files size here last text live is = is
    by Spent files size here last text live is = absurd cc
    by Ended files size here last text live is = absurd cc
    by _ files size here last text live is = absurd cc

scan_none : scan [] ≡ stop (InField 0)
unfolding scan
scan_none = magic_is 0 [] ∙ field_cut 8 0 [] _ (omega arith)

-- a reader to which nothing has come
pub leads_none : (w : Waiting) (kept last : List ℕ) → w.stage ≡ Magic → w.place ≡ 0 → kept ≡ [] → Leads (reader_of w kept last) [] (tokens_of [])
unfolding scan
leads_none w kept last stage place none = record {
  here = 0;
  are_bytes = λ i. omega arith;
  place = place;
  rest = λ more.
      sym (rest_is w Magic stage last 0 more)
      ∙ ap (λ (l : List ℕ). rest_from w last 0 (l ++ more)) (sym none)
      ∙ ap (λ (ts : List Token). telling ts (rest_from w last 0 (kept ++ more))) (sym (ap (λ (r : Scan). r.tokens) scan_none));
}

-- whether a frame has ended
pub finish_led : (s : ReaderState) (fed : List ℕ) → IsInForm s.waiting s.kept s.last → IsFed s fed → stage_ending s.waiting.stage s.waiting.place ≡ finish_answer (is_spent s) fed
finish_led s fed form is = by s.waiting.stage refl
  where
    ends : (stage : Stage) (here : ℕ) → is_spent_stage stage ≡ false → stage_ending stage (told_place here) ≡ finish_by (ending_by stage here)
    ends Spent here live = absurd cc
    ends Ended here live = refl
    ends Faulty here live = refl
    ends _ here live = refl

    lives : (stage : Stage) → s.waiting.stage ≡ stage → is_spent_stage stage ≡ false → stage_ending stage s.waiting.place ≡ finish_answer false fed
    lives stage same live =
        let alive : is_spent s ≡ false = ap is_spent_stage same ∙ live in
        let leads = is alive in
        ap (λ (p : ℕ). stage_ending stage p) leads.place ∙ ends stage leads.here live ∙ ap (λ (t : Stage). finish_by (ending_by t leads.here)) (sym same) ∙ sym (ap finish_by (ending_led s fed (tokens_of fed) form alive leads))

    by : (stage : Stage) → s.waiting.stage ≡ stage → stage_ending stage s.waiting.place ≡ finish_answer (is_spent_stage stage) fed
    by Spent same = refl
    by Magic same = lives Magic same refl
    by EntrySize same = lives EntrySize same refl
    by (EntryText wanted) same = lives (EntryText wanted) same refl
    by Count same = lives Count same refl
    by PathSize same = lives PathSize same refl
    by (PathText wanted) same = lives (PathText wanted) same refl
    by Size same = lives Size same refl
    by (Content left) same = lives (Content left) same refl
    by Mark same = lives Mark same refl
    by Ended same = lives Ended same refl
    by Faulty same = lives Faulty same refl

-- a frame has ended only where the bytes end so
pub ends_at : (spent : Bool) (fed : List ℕ) → finish_answer spent fed ≡ Ok tt → (spent ≡ false) × (ending_of fed ≡ AtEnd)
ends_at true fed is = absurd cc
ends_at false fed is = (refl, by (ending_of fed) is)
  where
    by : (ending : ScanEnd) → finish_by ending ≡ Ok tt → ending ≡ AtEnd
    by AtEnd is = refl
    by (InField place) is = absurd cc
    by (AtFault place) is = absurd cc

-- all that the events of one piece tell
pub told_whole : (text : List ℕ) (before after : List FrameEvent) (spent : Bool) → before ≡ [] → spent ≡ false → Tells [] text before after spent → flat_map event_tokens after ≡ tokens_of text
told_whole text before after spent none live tells =
    let all : tells.front ≡ text = sym (append-nil tells.front) ∙ ap (λ (l : List ℕ). tells.front ++ l) (sym (tells.whole live)) ∙ sym tells.split in
    ap (λ (l : List FrameEvent). flat_map event_tokens l) (tells.adds.same ∙ ap (λ (l : List FrameEvent). l ++ tells.adds.given) none)
    ∙ tells.adds.told
    ∙ ap (λ (ts : List Token). ts ++ tells.tokens) (sym (ap (λ (r : Scan). r.tokens) scan_none))
    ∙ sym tells.told
    ∙ ap tokens_of all
