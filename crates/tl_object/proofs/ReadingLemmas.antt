-- Steps of the reading of an entry.
use Rattle.std.proofs.Common.{◌≡◌, ℕ, ◌==◌, Bool, true, false, cond, not, ◌⊎◌, inl, inr, List, [], ◌∷◌, ◌++◌, Option, Some, Result, Ok, Err, refl, sym, ap, subst, ◌∙◌}
use Rattle.std.specs.Prelude.{is_some}
use Rattle.std.specs.Str.{is_utf8}
use Rattle.tl_entry.specs.Parts.{FileEntry}
use Rattle.tl_object.specs.Cuts.{cut, onto_front}
use Rattle.tl_object.specs.Values.{◌>>=◌, Fails}
use Rattle.tl_object.specs.Grammar.{line_value, line_form, head_value, head_alone, head_of_line, file_value}
use Rattle.tl_object.specs.Groups.{Group, only, name_of}
use Rattle.tl_object.specs.Reading.{Place, Nowhere, placed, place_of, with_file, with_line, names, named, next_groups, at_line, reading, entry_groups, as_object, first_name, name_at, FailsAt}
use Rattle.tl_object.specs.Steps.{is_file_line, file_step, file_in, head_step, head_in, head_is_next, IsSection, fault_at}
use Rattle.tl_object.specs.declared.fault.ObjectError.TheVariants as errors
use Rattle.tl_entry.specs.declared.object.Object.{Object}
use Rattle.tl_object.specs.Built.{built, put, finished}
use Rattle.tl_object.specs.Known.{is_known}
use Rattle.tl_object.specs.declared.fault.LineKind.{LineKind}
use Rattle.tl_object.specs.declared.fault.LineKind.TheVariants as kinds
use Rattle.tl_object.specs.declared.fault.ObjectError.{ObjectError}
use Rattle.tl_object.specs.declared.fault.LineFault.{LineFault}
use Rattle.tl_object.specs.declared.fault.LineFault.TheVariants as faults
use Rattle.tl_object.specs.declared.head.Head.{Head}
use Rattle.tl_object.specs.declared.head.Head.TheVariants as heads
use Rattle.tl_object.specs.Line.{Line}
use Rattle.tl_object.specs.Line as lines
use Rattle.tl_object.specs.declared.builder.Builder.{Builder}
use Rattle.std.proofs.lemmas.Bool.{true≢false}
use Rattle.tl_object.proofs.BuiltLemmas.{built-put, known-repeated, named-more, put-name}

abbrev pub group : Head → List FileEntry → Group
group head files = record { head = head; files = files }

-- a step that goes on with each value goes on with what is made of it
bind_twice : {A B C : Type 0} (r : Result A LineKind) (f : A → B) (g : B → C) → ((r >>= λ x. Ok (f x)) >>= λ y. Ok (g y)) ≡ (r >>= λ x. Ok (g (f x)))
bind_twice (Ok x) f g = refl
bind_twice (Err e) f g = refl

-- a file goes to the last group
with_file-last : (groups : List Group) (head : Head) (files : List FileEntry) (file : FileEntry)
    → with_file (groups ++ group head files ∷ []) file ≡ (placed (place_of head) files file >>= λ more. Ok (groups ++ group head more ∷ []))
with_file-last [] head files file = refl
with_file-last (x ∷ []) head files file =
    bind_twice (placed (place_of head) files file) (λ more. group head more ∷ []) (λ more. x ∷ more)
with_file-last (x ∷ y ∷ groups) head files file =
    ap (λ (r : Result (List Group) LineKind). r >>= λ more. Ok (x ∷ more)) (with_file-last (y ∷ groups) head files file)
    ∙ bind_twice (placed (place_of head) files file) (λ more. (y ∷ groups) ++ group head more ∷ []) (λ more. x ∷ more)

-- behind a group a line goes on with the groups
next_groups-behind : (groups : List Group) (g : Group) (line : List ℕ) → next_groups (groups ++ g ∷ []) line ≡ (line_value line >>= with_line (groups ++ g ∷ []))
next_groups-behind [] g line = refl
next_groups-behind (x ∷ groups) g line = refl

abbrev is_head_result : Result Line LineKind → Bool
is_head_result (Ok (lines.Head head)) = true
is_head_result (Ok (lines.File file)) = false
is_head_result (Err e) = false

file_result : (r : Result FileEntry LineKind) → is_head_result (r >>= λ file. Ok (lines.File file)) ≡ false
file_result (Ok x) = refl
file_result (Err e) = refl

utf8_or : (b : Bool) (r : Result Line LineKind) → is_head_result r ≡ false → is_head_result (cond b r (Err kinds.Utf8)) ≡ false
utf8_or true r e = e
utf8_or false r e = refl

-- a file's line says no head
no_head : (line : List ℕ) → is_file_line line ≡ true → is_head_result (line_value line) ≡ false
no_head [] is = absurd (cc)
no_head (b ∷ text) is =
    utf8_or (is_utf8 (b ∷ text)) (line_form (b ∷ text))
    (ap (λ t. is_head_result (cond t (file_value text >>= λ file. Ok (lines.File file)) (head_value (b ∷ text) >>= λ head. Ok (lines.Head head)))) is ∙ file_result (file_value text))

step_by : (r : Result Line LineKind) (groups : List Group) (head : Head) (files : List FileEntry) → is_head_result r ≡ false
    → (r >>= with_line (groups ++ group head files ∷ [])) ≡ ((r >>= file_in (place_of head) files) >>= λ more. Ok (groups ++ group head more ∷ []))
step_by (Ok (lines.Head h)) groups head files none = absurd (cc)
step_by (Ok (lines.File file)) groups head files none = with_file-last groups head files file
step_by (Err e) groups head files none = refl

-- a file's line behind a group
pub file_next : (groups : List Group) (head : Head) (files : List FileEntry) (line : List ℕ) → is_file_line line ≡ true
    → next_groups (groups ++ group head files ∷ []) line ≡ (file_step (place_of head) files line >>= λ more. Ok (groups ++ group head more ∷ []))
file_next groups head files line is = next_groups-behind groups (group head files) line ∙ step_by (line_value line) groups head files (no_head line is)

-- ---- the files of a section

pub section-more : (place : Place) (files more : List FileEntry) (before rest : List (ℕ × List ℕ)) (number : ℕ) (line : List ℕ) → IsSection place files before ((number, line) ∷ rest)
    → is_file_line line ≡ true → file_step place files line ≡ Ok more → IsSection place more before rest
section-more place files more before rest number line so_far is step groups head here =
    let next : next_groups (groups ++ group head files ∷ []) line ≡ Ok (groups ++ group head more ∷ []) =
    file_next groups head files line is
    ∙ ap (λ (p : Place). file_step p files line >>= λ fs. Ok (groups ++ group head fs ∷ [])) here
    ∙ ap (λ (r : Result (List FileEntry) LineKind). r >>= λ fs. Ok (groups ++ group head fs ∷ [])) step in
    so_far groups head here ∙ ap (λ (r : Result (List Group) LineKind). at_line number r (λ gs. reading gs rest)) next

failed : (e : LineFault) (place : Place) (head : Head) (files : List FileEntry) (line : List ℕ) (number : ℕ) (rest : List (ℕ × List ℕ)) (groups : List Group) (total : Result (List Group) (ℕ × LineKind))
    → Fails e (file_step place files line) → place_of head ≡ place → is_file_line line ≡ true
    → total ≡ at_line number (next_groups (groups ++ group head files ∷ []) line) (λ gs. reading gs rest) → FailsAt (fault_at number e) total
failed faults.NoMemory place head files line number rest groups total fails here is so_far = tt
failed (faults.Bad kind) place head files line number rest groups total fails here is so_far =
    let next : next_groups (groups ++ group head files ∷ []) line ≡ Err kind =
    file_next groups head files line is
    ∙ ap (λ (p : Place). file_step p files line >>= λ fs. Ok (groups ++ group head fs ∷ [])) here
    ∙ ap (λ (r : Result (List FileEntry) LineKind). r >>= λ fs. Ok (groups ++ group head fs ∷ [])) fails in
    so_far ∙ ap (λ (r : Result (List Group) LineKind). at_line number r (λ gs. reading gs rest)) next

pub section-fails : (e : LineFault) (place : Place) (files : List FileEntry) (before rest : List (ℕ × List ℕ)) (number : ℕ) (line : List ℕ) → IsSection place files before ((number, line) ∷ rest)
    → is_file_line line ≡ true → Fails e (file_step place files line)
    → (groups : List Group) (head : Head) → place_of head ≡ place → FailsAt (fault_at number e) (reading (groups ++ group head [] ∷ []) before)
section-fails e place files before rest number line so_far is fails groups head here =
    failed e place head files line number rest groups _ fails here is (so_far groups head here)

-- ---- the lines of an entry

abbrev pub Behind : List Group → Type 0
Behind groups = (front : List Group) × ((g : Group) × (groups ≡ front ++ g ∷ []))

abbrev is_file_result : Result Line LineKind → Bool
is_file_result (Ok (lines.Head head)) = false
is_file_result (Ok (lines.File file)) = true
is_file_result (Err e) = false

head_result : (r : Result Head LineKind) → is_file_result (r >>= λ head. Ok (lines.Head head)) ≡ false
head_result (Ok x) = refl
head_result (Err e) = refl

utf8_or_other : (b : Bool) (r : Result Line LineKind) → is_file_result r ≡ false → is_file_result (cond b r (Err kinds.Utf8)) ≡ false
utf8_or_other true r e = e
utf8_or_other false r e = refl

-- a line that is no file's says no file
no_file : (line : List ℕ) → is_file_line line ≡ false → is_file_result (line_value line) ≡ false
no_file [] is = utf8_or_other (is_utf8 []) (line_form []) (head_result (head_value []))
no_file (b ∷ text) is =
    utf8_or_other (is_utf8 (b ∷ text)) (line_form (b ∷ text))
    (ap (λ t. is_file_result (cond t (file_value text >>= λ file. Ok (lines.File file)) (head_value (b ∷ text) >>= λ head. Ok (lines.Head head)))) is ∙ head_result (head_value (b ∷ text)))

-- what is kept of an entry's lines up to those that are left, the first of which begins a group
pub record Reached (groups : List Group) (builder : Builder) (all left : List (ℕ × List ℕ)) : Type 0 where
  pub kept : builder ≡ built groups
  pub named : is_some (only name_of groups) ≡ true
  pub same : entry_groups all ≡ reading groups left
  pub some : Behind groups
  pub next : (place_of some.1.0.head ≡ Nowhere) ⊎ (head_is_next left ≡ true)
  pub name : (line : ℕ) × (first_name all ≡ Ok (line, builder.name))

abbrev name_of_parts : ℕ → Builder → Result (ℕ × List ℕ) (ℕ × LineKind)
name_of_parts number builder = Ok (number, builder.name)

pub reached-name : (name : List ℕ) (builder : Builder) (number : ℕ) (line : List ℕ) (all rest : List (ℕ × List ℕ)) → all ≡ (number, line) ∷ rest
    → next_groups [] line ≡ Ok (group (heads.Name name) [] ∷ []) → builder ≡ record (built []) { name = name }
    → Reached (group (heads.Name name) [] ∷ []) builder all rest
reached-name name builder number line all rest is first kept = record {
  kept = kept;
  named = refl;
  same = ap entry_groups is ∙ ap (λ (r : Result (List Group) LineKind). at_line number r (λ gs. reading gs rest)) first;
  some = ([], (group (heads.Name name) [], refl));
  next = inl refl;
  name = (number, ap first_name is ∙ ap (name_at number) first ∙ ap (λ (b : Builder). name_of_parts number b) (sym kept));
}

not_file : (line : List ℕ) → not (is_file_line line) ≡ true → is_file_line line ≡ false
not_file line e = turned (is_file_line line) e
  where
    turned : (b : Bool) → not b ≡ true → b ≡ false
    turned true e = absurd (cc)
    turned false e = refl

-- a file that no line before it may have is refused
refuses : (groups : List Group) (number : ℕ) (line : List ℕ) (rest : List (ℕ × List ℕ)) (some : Behind groups) → (place_of some.1.0.head ≡ Nowhere) ⊎ (head_is_next ((number, line) ∷ rest) ≡ true)
    → (file : FileEntry) → line_value line ≡ Ok (lines.File file) → with_file groups file ≡ Err kinds.File
refuses groups number line rest some (inl nowhere) file says =
    let last = some.1.0 in
    ap (λ (gs : List Group). with_file gs file) some.1.1 ∙ with_file-last some.0 last.head last.files file
    ∙ ap (λ (p : Place). placed p last.files file >>= λ more. Ok (some.0 ++ group last.head more ∷ [])) nowhere
refuses groups number line rest some (inr next) file says =
    let none : is_file_result (line_value line) ≡ false = no_file line (not_file line next) in
    absurd (true≢false (ap is_file_result (sym says) ∙ none))

head_by : (r : Result Line LineKind) (groups : List Group) (builder : Builder) → ((file : FileEntry) → r ≡ Ok (lines.File file) → with_file groups file ≡ Err kinds.File) → builder ≡ built groups → is_some (only name_of groups) ≡ true
    → (r >>= with_line groups) ≡ (((r >>= head_alone) >>= head_in builder) >>= λ head. Ok (groups ++ group head [] ∷ []))
head_by (Ok (lines.Head head)) groups builder refused kept named =
    ap (λ b. cond b (Err kinds.Repeated) (Ok (groups ++ group head [] ∷ []))) (known-repeated groups head named ∙ ap (λ (b : Builder). is_known b head) (sym kept))
    ∙ picked (is_known builder head) head groups
  where
    picked : (b : Bool) (head : Head) (groups : List Group) → cond b (Err kinds.Repeated) (Ok (groups ++ group head [] ∷ [])) ≡ ((cond b (Err kinds.Repeated) (Ok head)) >>= λ h. Ok (groups ++ group h [] ∷ []))
    picked true head groups = refl
    picked false head groups = refl
head_by (Ok (lines.File file)) groups builder refused kept named = refused file refl
head_by (Err e) groups builder refused kept named = refl

-- a line behind some groups, where none of a file may stand
head_next : (groups : List Group) (builder : Builder) (number : ℕ) (line : List ℕ) (all rest : List (ℕ × List ℕ)) → Reached groups builder all ((number, line) ∷ rest)
    → next_groups groups line ≡ (head_step builder line >>= λ head. Ok (groups ++ group head [] ∷ []))
head_next groups builder number line all rest so_far =
    let some = so_far.some in
    let behind : next_groups groups line ≡ (line_value line >>= with_line groups) =
    subst (λ (gs : List Group). next_groups gs line ≡ (line_value line >>= with_line gs)) (sym some.1.1) (next_groups-behind some.0 some.1.0 line) in
    behind ∙ head_by (line_value line) groups builder (refuses groups number line rest some so_far.next) so_far.kept so_far.named

names_no_file : (line : List ℕ) → names line (cut 32 line) ≡ true → is_file_line line ≡ false
names_no_file [] is = absurd (cc)
names_no_file (b ∷ text) is = by_test (b == 32) (onto_front b (cut 32 text)) is
  where
    by_test : (t : Bool) (other : Option (List ℕ × List ℕ)) → names (b ∷ text) (cond t (Some ([], text)) other) ≡ true → t ≡ false
    by_test true other is = absurd (cc)
    by_test false other is = refl

named_alone : (r : Result Line LineKind) → is_file_result r ≡ false → (r >>= named) ≡ ((r >>= head_alone) >>= λ head. named (lines.Head head))
named_alone (Ok (lines.Head head)) none = refl
named_alone (Ok (lines.File file)) none = absurd (cc)
named_alone (Err e) none = refl

-- what an entry's first line gives, where its key is the name's
pub name-alone : (line : List ℕ) → names line (cut 32 line) ≡ true → next_groups [] line ≡ (head_of_line line >>= λ head. named (lines.Head head))
name-alone line is =
    ap (λ t. cond t (line_value line >>= named) (Err kinds.Missing)) is ∙ named_alone (line_value line) (no_file line (names_no_file line is))

abbrev name_result : ℕ → List ℕ → Result (ℕ × List ℕ) (ℕ × LineKind)
name_result number name = Ok (number, name)

known_of : (r : Result Head LineKind) (builder : Builder) (head : Head) → (r >>= head_in builder) ≡ Ok head → is_known builder head ≡ false
known_of (Ok h) builder head e = picked (is_known builder h) refl e
  where
    picked : (b : Bool) → is_known builder h ≡ b → cond b (Err kinds.Repeated) (Ok h) ≡ Ok head → is_known builder head ≡ false
    picked true is e = absurd (cc)
    picked false is e = let same : h ≡ head = cc in subst (λ (x : Head). is_known builder x ≡ false) same is
known_of (Err k) builder head e = absurd (cc)

pub reached-more : (groups : List Group) (builder : Builder) (all rest left : List (ℕ × List ℕ)) (now : List (ℕ × List ℕ)) (number : ℕ) (line : List ℕ) (head : Head) (files : List FileEntry) (more : Builder)
    → Reached groups builder all now → now ≡ (number, line) ∷ rest → head_step builder line ≡ Ok head → IsSection (place_of head) files rest left → (place_of head ≡ Nowhere) ⊎ (head_is_next left ≡ true) → more ≡ put builder head files
    → Reached (groups ++ group head files ∷ []) more all left
reached-more groups builder all rest left now number line head files more so_far is step section next after =
    let here : Reached groups builder all ((number, line) ∷ rest) = subst (λ (left : List (ℕ × List ℕ)). Reached groups builder all left) is so_far in
    let one : next_groups groups line ≡ Ok (groups ++ group head [] ∷ []) =
    head_next groups builder number line all rest here ∙ ap (λ (r : Result Head LineKind). r >>= λ h. Ok (groups ++ group h [] ∷ [])) step in
    record {
      kept = after ∙ ap (λ (b : Builder). put b head files) so_far.kept ∙ sym (built-put groups head files);
      named = named-more groups (group head files) so_far.named;
      same = so_far.same ∙ ap (reading groups) is ∙ ap (λ (r : Result (List Group) LineKind). at_line number r (λ gs. reading gs rest)) one ∙ section groups head refl;
      some = (groups, (group head files, refl));
      next = next;
      name = (so_far.name.0, so_far.name.1 ∙ ap (λ (n : List ℕ). name_result so_far.name.0 n) (sym (ap (λ (b : Builder). b.name) after ∙ put-name builder head files (known_of (head_of_line line) builder head step))));
    }

line_fails : (e : LineFault) (number : ℕ) (groups : List Group) (builder : Builder) (line : List ℕ) (rest : List (ℕ × List ℕ)) (total : Result (List Group) (ℕ × LineKind))
    → Fails e (head_step builder line) → next_groups groups line ≡ (head_step builder line >>= λ head. Ok (groups ++ group head [] ∷ []))
    → total ≡ at_line number (next_groups groups line) (λ gs. reading gs rest) → FailsAt (fault_at number e) total
line_fails faults.NoMemory number groups builder line rest total fails one so_far = tt
line_fails (faults.Bad kind) number groups builder line rest total fails one so_far =
    so_far ∙ ap (λ (r : Result (List Group) LineKind). at_line number r (λ gs. reading gs rest)) (one ∙ ap (λ (r : Result Head LineKind). r >>= λ h. Ok (groups ++ group h [] ∷ [])) fails)

pub reached-fails : (e : LineFault) (groups : List Group) (builder : Builder) (all rest now : List (ℕ × List ℕ)) (number : ℕ) (line : List ℕ)
    → Reached groups builder all now → now ≡ (number, line) ∷ rest → Fails e (head_step builder line) → FailsAt (fault_at number e) (entry_groups all)
reached-fails e groups builder all rest now number line so_far is fails =
    let here : Reached groups builder all ((number, line) ∷ rest) = subst (λ (left : List (ℕ × List ℕ)). Reached groups builder all left) is so_far in
    line_fails e number groups builder line rest (entry_groups all) fails (head_next groups builder number line all rest here) (so_far.same ∙ ap (reading groups) is)

-- where the files behind a line fail, the entry does
pub reached-section_fails : (e : ObjectError) (groups : List Group) (builder : Builder) (all rest now : List (ℕ × List ℕ)) (number : ℕ) (line : List ℕ) (head : Head)
    → Reached groups builder all now → now ≡ (number, line) ∷ rest → head_step builder line ≡ Ok head
    → ((gs : List Group) (h : Head) → place_of h ≡ place_of head → FailsAt e (reading (gs ++ group h [] ∷ []) rest)) → FailsAt e (entry_groups all)
reached-section_fails e groups builder all rest now number line head so_far is step fails =
    let here : Reached groups builder all ((number, line) ∷ rest) = subst (λ (left : List (ℕ × List ℕ)). Reached groups builder all left) is so_far in
    let one : next_groups groups line ≡ Ok (groups ++ group head [] ∷ []) =
    head_next groups builder number line all rest here ∙ ap (λ (r : Result Head LineKind). r >>= λ h. Ok (groups ++ group h [] ∷ [])) step in
    let whole : entry_groups all ≡ reading (groups ++ group head [] ∷ []) rest =
    so_far.same ∙ ap (reading groups) is ∙ ap (λ (r : Result (List Group) LineKind). at_line number r (λ gs. reading gs rest)) one in
    subst (λ (r : Result (List Group) (ℕ × LineKind)). FailsAt e r) (sym whole) (fails groups head refl)

pub name-fails : (e : LineFault) (number : ℕ) (line : List ℕ) (all rest : List (ℕ × List ℕ)) → all ≡ (number, line) ∷ rest → Fails e (next_groups [] line) → FailsAt (fault_at number e) (entry_groups all)
name-fails faults.NoMemory number line all rest is fails = tt
name-fails (faults.Bad kind) number line all rest is fails =
    ap entry_groups is ∙ ap (λ (r : Result (List Group) LineKind). at_line number r (λ gs. reading gs rest)) fails

-- what a step gives isn't known yet
pub step-unknown : (builder : Builder) (line : List ℕ) (head : Head) → head_step builder line ≡ Ok head → is_known builder head ≡ false
step-unknown builder line head e = known_of (head_of_line line) builder head e

-- the entry of the parts that were read
pub object-read : (read : Result (List Group) (ℕ × LineKind)) (parts : Builder) (groups : List Group) (object : Object) → read ≡ Ok groups → parts ≡ built groups → object ≡ finished parts → as_object read ≡ Ok object
object-read read parts groups object is kept made =
    ap as_object is ∙ ap (λ (o : Object). Ok o) (sym (made ∙ ap finished kept))

pub object-fails : (e : ObjectError) (read : Result (List Group) (ℕ × LineKind)) → FailsAt e read → FailsAt e (as_object read)
object-fails errors.NoMemory read fails = tt
object-fails (errors.BadObject line kind) read fails = ap as_object fails

pub name-missing : (e : LineFault) (number : ℕ) (line : List ℕ) (all rest : List (ℕ × List ℕ)) → all ≡ (number, line) ∷ rest → Fails e (next_groups [] line) → FailsAt (fault_at number e) (first_name all)
name-missing faults.NoMemory number line all rest is fails = tt
name-missing (faults.Bad kind) number line all rest is fails = ap first_name is ∙ ap (name_at number) fails
