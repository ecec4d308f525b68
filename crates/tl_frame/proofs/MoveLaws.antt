-- What a whole field makes of a reader.
use Rattle.std.proofs.Common.{◌≡◌, ◌<◌, ◌≤◌, ◌+◌, ◌-◌, ◌^◌, ℕ, zero, suc, min, true, false, cond, List, [], ◌∷◌, ◌++◌, length, refl, sym, ◌∙◌, ap, subst, arith, ◌⊎◌, inl, inr}
use Rattle.std.specs.Prelude.{bytes_eq}
use Rattle.std.specs.Int.{w16, w32, w64, from_be_bytes}
use Rattle.std.proofs.lemmas.List.{append-nil}
use Rattle.tl_frame.specs.declared.event.FrameEvent.{FrameEvent}
use Rattle.tl_frame.specs.declared.event.FrameEvent.TheVariants as event
use Rattle.tl_frame.specs.declared.stage.Waiting.{Waiting}
use Rattle.tl_frame.specs.declared.stage.Stage.{Stage}
use Rattle.tl_frame.specs.declared.stage.Stage.TheVariants.{Magic, EntrySize, EntryText, Count, PathSize, PathText, Size, Content, Mark, Ended, Faulty}
use Rattle.tl_frame.specs.Frames.{frame_magic, frame_mark}
use Rattle.tl_frame.specs.Scan.{Token, EntryText as text_token, FileHead, FrameEnd, AtFault, Scan, stop, telling, nothing_from, content_from, size_from, is_later_path, path_from, files_from, count_from, entry_from, entry_size_from}
use Rattle.tl_frame.specs.Events.{AddsEvents, HasBytes, event_tokens}
use Rattle.tl_frame.specs.States.{at_field, told_place, rest_by, rest_from, is_spent_stage, IsInForm, Moves, before_files}
use Rattle.tl_frame.proofs.PathLaws.{later_is_path}
use Rattle.tl_frame.proofs.FieldLaws.{field_whole, magic_is, entry_size_is, entry_is, count_is, files_is, no_files_is, path_fits, path_wrong, path_empty, size_is, mark_is, bytes_done}

pub place_behind : (place here size : ℕ) → place ≡ told_place here → told_place (place + size) ≡ told_place (here + size)
place_behind place here size is = omega arith

pub no_events : (events : List FrameEvent) → AddsEvents events events []
no_events events = record { given = []; same = sym (append-nil events); some = tt; told = refl }

pub one_event : (before after : List FrameEvent) (e : FrameEvent) → after ≡ before ++ e ∷ [] → HasBytes e → AddsEvents before after (event_tokens e)
one_event before after e is has = record { given = e ∷ []; same = is; some = (has, tt); told = append-nil (event_tokens e) }

pub rest_is : (w : Waiting) (stage : Stage) → w.stage ≡ stage → (last : List ℕ) (here : ℕ) (text : List ℕ) → rest_from w last here text ≡ rest_by stage w.files w.size last here text
rest_is w stage is last here text = ap (λ (s : Stage). rest_by s w.files w.size last here text) is

pub moved : (w new : Waiting) (last last' field : List ℕ) (before after : List FrameEvent) (tokens : List Token) (next : ℕ → ℕ)
    → AddsEvents before after tokens → IsInForm new [] last' → is_spent_stage new.stage ≡ false
    → ((here : ℕ) → w.place ≡ told_place here → new.place ≡ told_place (next here))
    → ((here : ℕ) (more : List ℕ) → rest_from w last here (field ++ more) ≡ telling tokens (rest_from new last' (next here) more))
    → Moves (at_field w last) (at_field new last') field before after
moved w new last last' field before after tokens next adds form live place rest =
    record { tokens = tokens; adds = adds; form = form; live = live; goes = λ here at. record { next = next here; place = place here at; rest = rest here } }

abbrev pub here_at : Waiting → Stage → Waiting
here_at w stage = record w { stage = stage }

abbrev pub behind_at : Waiting → ℕ → Stage → Waiting
behind_at w size stage = record w { stage = stage; place = told_place (w.place + size) }

-- a field that is wrong
pub moves_wrong : (w new : Waiting) (last field : List ℕ) (events : List FrameEvent) → new ≡ here_at w Faulty
    → ((here : ℕ) (more : List ℕ) → rest_from w last here (field ++ more) ≡ stop (AtFault here))
    → Moves (at_field w last) (at_field new last) field events events
moves_wrong w new last field events is rest =
    subst (λ (n : Waiting). Moves (at_field w last) (at_field n last) field events events) (sym is)
    (moved w (here_at w Faulty) last last field events events [] (λ here. here) (no_events events) (record { kept_less = refl; at_stage = tt }) refl (λ here at. at) rest)

-- a field behind which another one comes
pub moves_on : (w new : Waiting) (size : ℕ) (stage : Stage) (last last' field : List ℕ) (before after : List FrameEvent) (tokens : List Token) → new ≡ behind_at w size stage
    → AddsEvents before after tokens → IsInForm (behind_at w size stage) [] last' → is_spent_stage stage ≡ false
    → ((here : ℕ) (more : List ℕ) → rest_from w last here (field ++ more) ≡ telling tokens (rest_by stage w.files w.size last' (here + size) more))
    → Moves (at_field w last) (at_field new last') field before after
moves_on w new size stage last last' field before after tokens is adds form live rest =
    subst (λ (n : Waiting). Moves (at_field w last) (at_field n last') field before after) (sym is)
    (moved w (behind_at w size stage) last last' field before after tokens (λ here. here + size) adds form live (λ here at. place_behind w.place here size at) rest)

-- a field behind which files come, or the mark
pub moves_files : (w new : Waiting) (size files : ℕ) (last last' field : List ℕ) (before after : List FrameEvent) (tokens : List Token) → new ≡ before_files (told_place (w.place + size)) files
    → AddsEvents before after tokens
    → ((here : ℕ) (more : List ℕ) → rest_from w last here (field ++ more) ≡ telling tokens (files_from files last' (here + size) more))
    → Moves (at_field w last) (at_field new last') field before after
moves_files w new size files last last' field before after tokens is adds rest =
    subst (λ (n : Waiting). Moves (at_field w last) (at_field n last') field before after) (sym is) (by files rest)
  where
    by : (files : ℕ) → ((here : ℕ) (more : List ℕ) → rest_from w last here (field ++ more) ≡ telling tokens (files_from files last' (here + size) more))
        → Moves (at_field w last) (at_field (before_files (told_place (w.place + size)) files) last') field before after
    by zero rest =
        moved w (before_files (told_place (w.place + size)) zero) last last' field before after tokens (λ here. here + size) adds (record { kept_less = omega arith; at_stage = tt }) refl
        (λ here at. place_behind w.place here size at)
        (λ here more. rest here more ∙ ap (λ (s : Scan). telling tokens s) (no_files_is last' (here + size) more))
    by (suc files) rest =
        moved w (before_files (told_place (w.place + size)) (suc files)) last last' field before after tokens (λ here. here + size) adds (record { kept_less = omega arith; at_stage = tt }) refl
        (λ here at. place_behind w.place here size at) rest

pub moves_magic : (w new : Waiting) (field : List ℕ) (events : List FrameEvent) → w.stage ≡ Magic → length field ≡ 8 → bytes_eq field frame_magic ≡ true
    → new ≡ behind_at w 8 EntrySize → Moves (at_field w []) (at_field new []) field events events
moves_magic w new field events stage size same is =
    moves_on w new 8 EntrySize [] [] field events events [] is (no_events events) (record { kept_less = omega arith; at_stage = refl }) refl
    (λ here more. rest_is w Magic stage [] here (field ++ more) ∙ magic_is here (field ++ more) ∙ field_whole 8 here field more _ size
    ∙ ap (λ b. cond b (entry_size_from (here + 8) more) (stop (AtFault here))) same)

pub moves_other_magic : (w new : Waiting) (field : List ℕ) (events : List FrameEvent) → w.stage ≡ Magic → length field ≡ 8 → bytes_eq field frame_magic ≡ false
    → new ≡ here_at w Faulty → Moves (at_field w []) (at_field new []) field events events
moves_other_magic w new field events stage size differs is =
    moves_wrong w new [] field events is
    (λ here more. rest_is w Magic stage [] here (field ++ more) ∙ magic_is here (field ++ more) ∙ field_whole 8 here field more _ size
    ∙ ap (λ b. cond b (entry_size_from (here + 8) more) (stop (AtFault here))) differs)

-- the length of an entry's text, where it has a byte
pub moves_entry_size : (w new : Waiting) (size : ℕ) (field : List ℕ) (events : List FrameEvent) → w.stage ≡ EntrySize → length field ≡ 4 → size ≡ from_be_bytes w32 field → 0 < size
    → new ≡ behind_at w 4 (EntryText size) → Moves (at_field w []) (at_field new []) field events events
moves_entry_size w new size field events stage four told some is =
    moves_on w new 4 (EntryText size) [] [] field events events [] is (no_events events) (record { kept_less = some; at_stage = refl }) refl
    (λ here more. rest_is w EntrySize stage [] here (field ++ more) ∙ entry_size_is here (field ++ more) ∙ field_whole 4 here field more _ four
    ∙ ap (λ (n : ℕ). entry_from n (here + 4) more) (sym told))

-- the same where it has none
pub moves_no_entry : (w new : Waiting) (field : List ℕ) (before after : List FrameEvent) → w.stage ≡ EntrySize → length field ≡ 4 → 0 ≡ from_be_bytes w32 field
    → after ≡ before ++ event.Entry [] ∷ [] → new ≡ behind_at w 4 Count → Moves (at_field w []) (at_field new []) field before after
moves_no_entry w new field before after stage four told added is =
    moves_on w new 4 Count [] [] field before after (event_tokens (event.Entry [])) is (one_event before after (event.Entry []) added tt) (record { kept_less = omega arith; at_stage = refl }) refl
    (λ here more. rest_is w EntrySize stage [] here (field ++ more) ∙ entry_size_is here (field ++ more) ∙ field_whole 4 here field more _ four
    ∙ ap (λ (n : ℕ). entry_from n (here + 4) more) (sym told) ∙ entry_is 0 (here + 4) more
    ∙ field_whole 0 (here + 4) [] more (λ entry rest. telling (text_token entry ∷ []) (count_from (here + 4 + 0) rest)) refl
    ∙ nothing here more)
  where
    nothing : (here : ℕ) (more : List ℕ) → telling (text_token [] ∷ []) (count_from (here + 4 + 0) more) ≡ telling (text_token [] ∷ []) (count_from (here + 4) more)
    nothing here more = let same : here + 4 + 0 ≡ here + 4 = omega arith in ap (λ (n : ℕ). telling (text_token [] ∷ []) (count_from n more)) same

pub moves_entry : (w new : Waiting) (field text : List ℕ) (before after : List FrameEvent) → w.stage ≡ EntryText (length field) → text ≡ field
    → after ≡ before ++ event.Entry text ∷ [] → new ≡ behind_at w (length field) Count → Moves (at_field w []) (at_field new []) field before after
moves_entry w new field text before after stage same added is =
    moves_on w new (length field) Count [] [] field before after (event_tokens (event.Entry text)) is (one_event before after (event.Entry text) added tt) (record { kept_less = omega arith; at_stage = refl }) refl
    (λ here more. rest_is w (EntryText (length field)) stage [] here (field ++ more) ∙ entry_is (length field) here (field ++ more) ∙ field_whole (length field) here field more _ refl
    ∙ ap (λ (l : List ℕ). telling (text_token l ∷ []) (count_from (here + length field) more)) (sym same))

pub moves_count : (w new : Waiting) (count : ℕ) (field : List ℕ) (events : List FrameEvent) → w.stage ≡ Count → length field ≡ 4 → count ≡ from_be_bytes w32 field
    → new ≡ before_files (told_place (w.place + 4)) count → Moves (at_field w []) (at_field new []) field events events
moves_count w new count field events stage four told is =
    moves_files w new 4 count [] [] field events events [] is (no_events events)
    (λ here more. rest_is w Count stage [] here (field ++ more) ∙ count_is here (field ++ more) ∙ field_whole 4 here field more _ four
    ∙ ap (λ (n : ℕ). files_from n [] (here + 4) more) (sym told))

-- from the length of a path on
path_size_rest : (w : Waiting) (size : ℕ) (last field : List ℕ) → w.stage ≡ PathSize → length field ≡ 2 → size ≡ from_be_bytes w16 field → (here : ℕ) (more : List ℕ)
    → rest_from w last here (field ++ more) ≡ path_from size last (here + 2) more (files_from w.files)
path_size_rest w size last field stage two told here more =
    rest_is w PathSize stage last here (field ++ more) ∙ files_is w.files last here (field ++ more) ∙ field_whole 2 here field more _ two
    ∙ ap (λ (n : ℕ). path_from n last (here + 2) more (files_from w.files)) (sym told)

pub moves_path_size : (w new : Waiting) (size : ℕ) (last field : List ℕ) (events : List FrameEvent) → w.stage ≡ PathSize → length field ≡ 2 → size ≡ from_be_bytes w16 field → 0 < size → size ≤ 1024
    → new ≡ behind_at w 2 (PathText size) → Moves (at_field w last) (at_field new last) field events events
moves_path_size w new size last field events stage two told some few is =
    moves_on w new 2 (PathText size) last last field events events [] is (no_events events) (record { kept_less = some; at_stage = few }) refl
    (path_size_rest w size last field stage two told)

-- a path that has no byte or too many
pub moves_no_path : (w new : Waiting) (size : ℕ) (last field : List ℕ) (events : List FrameEvent) → w.stage ≡ PathSize → length field ≡ 2 → size ≡ from_be_bytes w16 field → (size ≡ 0) ⊎ (1024 < size)
    → new ≡ behind_at w 2 Faulty → Moves (at_field w last) (at_field new last) field events events
moves_no_path w new size last field events stage two told wrong is =
    moves_on w new 2 Faulty last last field events events [] is (no_events events) (record { kept_less = refl; at_stage = tt }) refl
    (λ here more. path_size_rest w size last field stage two told here more ∙ by here more wrong)
  where
    by : (here : ℕ) (more : List ℕ) → (size ≡ 0) ⊎ (1024 < size) → path_from size last (here + 2) more (files_from w.files) ≡ stop (AtFault (here + 2))
    by here more (inl none) = ap (λ (n : ℕ). path_from n last (here + 2) more (files_from w.files)) none ∙ path_empty last (here + 2) more (files_from w.files)
    by here more (inr many) = path_wrong size last (here + 2) more (files_from w.files) many

-- from a path on
path_rest : (w : Waiting) (last field : List ℕ) → w.stage ≡ PathText (length field) → length field ≤ 1024 → (here : ℕ) (more : List ℕ)
    → rest_from w last here (field ++ more) ≡ cond (is_later_path last field) (size_from field (here + length field) more (files_from w.files)) (stop (AtFault here))
path_rest w last field stage few here more =
    rest_is w (PathText (length field)) stage last here (field ++ more) ∙ path_fits (length field) last here (field ++ more) (files_from w.files) few
    ∙ field_whole (length field) here field more _ refl

pub moves_path : (w new : Waiting) (last last' field : List ℕ) (events : List FrameEvent) → w.stage ≡ PathText (length field) → length field ≤ 1024 → is_later_path last field ≡ true → last' ≡ field
    → new ≡ behind_at w (length field) Size → Moves (at_field w last) (at_field new last') field events events
moves_path w new last last' field events stage few later same is =
    subst (λ (l : List ℕ). Moves (at_field w last) (at_field new l) field events events) (sym same)
    (moves_on w new (length field) Size last field field events events [] is (no_events events) (record { kept_less = omega arith; at_stage = later_is_path last field later }) refl
    (λ here more. path_rest w last field stage few here more ∙ ap (λ b. cond b (size_from field (here + length field) more (files_from w.files)) (stop (AtFault here))) later))

pub moves_other_path : (w new : Waiting) (last field : List ℕ) (events : List FrameEvent) → w.stage ≡ PathText (length field) → length field ≤ 1024 → is_later_path last field ≡ false
    → new ≡ here_at w Faulty → Moves (at_field w last) (at_field new last) field events events
moves_other_path w new last field events stage few other is =
    moves_wrong w new last field events is
    (λ here more. path_rest w last field stage few here more ∙ ap (λ b. cond b (size_from field (here + length field) more (files_from w.files)) (stop (AtFault here))) other)

-- from the number of a file's bytes on
size_rest : (w : Waiting) (path last field : List ℕ) (len : ℕ) → w.stage ≡ Size → length field ≡ 8 → path ≡ last → len ≡ from_be_bytes w64 field → (here : ℕ) (more : List ℕ)
    → rest_from w last here (field ++ more) ≡ telling (FileHead path len ∷ []) (content_from len (here + 8) more (files_from w.files last (here + 8 + len)))
size_rest w path last field len stage eight same told here more =
    rest_is w Size stage last here (field ++ more) ∙ size_is last here (field ++ more) (files_from w.files) ∙ field_whole 8 here field more _ eight
    ∙ ap (λ (n : ℕ). telling (FileHead last n ∷ []) (content_from n (here + 8) more (files_from w.files last (here + 8 + n)))) (sym told)
    ∙ ap (λ (l : List ℕ). telling (FileHead l len ∷ []) (content_from len (here + 8) more (files_from w.files last (here + 8 + len)))) (sym same)

pub moves_size : (w new : Waiting) (path last field : List ℕ) (len : ℕ) (before after : List FrameEvent) → w.stage ≡ Size → length field ≡ 8 → path ≡ last → len ≡ from_be_bytes w64 field → 0 < len
    → after ≡ before ++ event.File path len ∷ [] → new ≡ record w { stage = Content len; place = told_place (w.place + 8); size = len }
    → Moves (at_field w last) (at_field new last) field before after
moves_size w new path last field len before after stage eight same told some added is =
    subst (λ (n : Waiting). Moves (at_field w last) (at_field n last) field before after) (sym is)
    (moved w (record w { stage = Content len; place = told_place (w.place + 8); size = len }) last last field before after (event_tokens (event.File path len)) (λ here. here + 8)
    (one_event before after (event.File path len) added tt) (record { kept_less = refl; at_stage = some }) refl (λ here at. place_behind w.place here 8 at)
    (size_rest w path last field len stage eight same told))

-- a file without bytes
pub moves_no_bytes : (w new : Waiting) (path last field : List ℕ) (len : ℕ) (before after : List FrameEvent) → w.stage ≡ Size → length field ≡ 8 → path ≡ last → len ≡ from_be_bytes w64 field → len ≡ 0
    → after ≡ before ++ event.File path len ∷ [] → new ≡ before_files (told_place (w.place + 8)) w.files
    → Moves (at_field w last) (at_field new last) field before after
moves_no_bytes w new path last field len before after stage eight same told none added is =
    moves_files w new 8 w.files last last field before after (event_tokens (event.File path len)) is (one_event before after (event.File path len) added tt)
    (λ here more. size_rest w path last field len stage eight same told here more
    ∙ ap (λ (n : ℕ). telling (FileHead path len ∷ []) (content_from n (here + 8) more (files_from w.files last (here + 8 + n)))) none
    ∙ ap (λ (s : Scan). telling (FileHead path len ∷ []) s) (bytes_done (here + 8) more (files_from w.files last (here + 8 + 0)))
    ∙ nothing here more)
  where
    nothing : (here : ℕ) (more : List ℕ) → telling (FileHead path len ∷ []) (files_from w.files last (here + 8 + 0) more) ≡ telling (FileHead path len ∷ []) (files_from w.files last (here + 8) more)
    nothing here more = let same : here + 8 + 0 ≡ here + 8 = omega arith in ap (λ (n : ℕ). telling (FileHead path len ∷ []) (files_from w.files last n more)) same

-- from the mark on
mark_rest : (w : Waiting) (last field : List ℕ) → w.stage ≡ Mark → length field ≡ 8 → (here : ℕ) (more : List ℕ)
    → rest_from w last here (field ++ more) ≡ cond (bytes_eq field frame_mark) (telling (FrameEnd ∷ []) (nothing_from (here + 8) more)) (stop (AtFault here))
mark_rest w last field stage eight here more =
    rest_is w Mark stage last here (field ++ more) ∙ mark_is here (field ++ more) ∙ field_whole 8 here field more _ eight

pub moves_mark : (w new : Waiting) (last field : List ℕ) (before after : List FrameEvent) → w.stage ≡ Mark → length field ≡ 8 → bytes_eq field frame_mark ≡ true
    → after ≡ before ++ event.End ∷ [] → new ≡ behind_at w 8 Ended → Moves (at_field w last) (at_field new last) field before after
moves_mark w new last field before after stage eight same added is =
    moves_on w new 8 Ended last last field before after (event_tokens event.End) is (one_event before after event.End added tt) (record { kept_less = refl; at_stage = tt }) refl
    (λ here more. mark_rest w last field stage eight here more ∙ ap (λ b. cond b (telling (FrameEnd ∷ []) (nothing_from (here + 8) more)) (stop (AtFault here))) same)

pub moves_other_mark : (w new : Waiting) (last field : List ℕ) (events : List FrameEvent) → w.stage ≡ Mark → length field ≡ 8 → bytes_eq field frame_mark ≡ false
    → new ≡ here_at w Faulty → Moves (at_field w last) (at_field new last) field events events
moves_other_mark w new last field events stage eight differs is =
    moves_wrong w new last field events is
    (λ here more. mark_rest w last field stage eight here more ∙ ap (λ b. cond b (telling (FrameEnd ∷ []) (nothing_from (here + 8) more)) (stop (AtFault here))) differs)
