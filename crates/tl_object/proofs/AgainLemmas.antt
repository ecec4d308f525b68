-- Written lines that are read again behind others.
use Rattle.std.proofs.Common.{◌≡◌, ℕ, ◌+◌, ◌<◌, Bool, true, false, cond, List, [], ◌∷◌, ◌++◌, length, map, Result, Ok, Err, refl, sym, ◌∙◌, ap, subst, arith, append_assoc, length-append}
use Rattle.std.specs.Prelude.{All, is_some, codes}
use Rattle.std.specs.List.{AllByRecursion, flat_map}
use Rattle.std.proofs.lemmas.List.{append-nil}
use Rattle.std.proofs.lemmas.List.Elements.{All-nil, All-head, All-tail}
use Rattle.tl_model.specs.Lines.{lines, lines-line, text_of}
use Rattle.tl_path.specs.Names.{is_name}
use Rattle.tl_object.specs.Content.{is_comment, numbered, content}
use Rattle.tl_entry.specs.Parts.{FileEntry}
use Rattle.tl_entry.specs.Rising.{is_rising, insert_by}
use Rattle.tl_object.specs.Values.{◌>>=◌}
use Rattle.tl_object.specs.Grammar.{line_value}
use Rattle.tl_object.specs.Groups.{Group, only, name_of, is_repeated}
use Rattle.tl_object.specs.Reading.{Place, placed, place_of, one_more, with_line, next_groups, at_line, reading, entry_groups, first_name, named, name_at}
use Rattle.tl_object.specs.Steps.{file_in}
use Rattle.tl_object.specs.Built.{built, put}
use Rattle.tl_object.specs.Known.{is_known}
use Rattle.tl_object.specs.Again.{counted, IsFull}
use Rattle.tl_object.specs.Formed.{IsFormedFile}
use Rattle.tl_object.specs.Writing.{file_line, key_line}
use Rattle.tl_object.specs.declared.fault.LineKind.{LineKind}
use Rattle.tl_object.specs.declared.fault.LineKind.TheVariants as kinds
use Rattle.tl_object.specs.declared.head.Head.{Head}
use Rattle.tl_object.specs.declared.head.Head.TheVariants as heads
use Rattle.tl_object.specs.Line.{Line}
use Rattle.tl_object.specs.Line as says
use Rattle.tl_object.specs.declared.builder.Builder.{Builder}
use Rattle.tl_object.proofs.BuiltLemmas.{built-put, known-repeated, named-more}
use Rattle.tl_object.proofs.ReadingLemmas.{group, Behind, file_next}
use Rattle.tl_object.proofs.HeadLemmas.{IsHead, name_head}
use Rattle.tl_object.proofs.FileLemmas.{file_text, file_says, file_full}
use Rattle.tl_object.proofs.LastLemmas.{all_below, insert-last, absent-last, rising-tail, Follows, follows-none, follows-next}

-- ---- lines with their numbers

pub counted-append : (n : ℕ) (some more : List (List ℕ)) → counted n (some ++ more) ≡ counted n some ++ counted (n + length some) more
counted-append n [] more = ap (λ (k : ℕ). counted k more) (omega arith)
counted-append n (line ∷ some) more =
    ap (λ (ls : List (ℕ × List ℕ)). (n + 1, line) ∷ ls) (counted-append (n + 1) some more ∙ ap (λ (k : ℕ). counted (n + 1) some ++ counted k more) (omega arith))

pub text-append : (some more : List (List ℕ)) → text_of (some ++ more) ≡ text_of some ++ text_of more
text-append [] more = refl
text-append (line ∷ some) more =
    ap (λ (t : List ℕ). line ++ 10 ∷ t) (text-append some more) ∙ sym (append_assoc line (10 ∷ text_of some) (text_of more))

pub full-append : (some more : List (List ℕ)) → AllByRecursion IsFull some → AllByRecursion IsFull more → AllByRecursion IsFull (some ++ more)
full-append [] more each also = also
full-append (line ∷ some) more each also = (each.0, full-append some more each.1 also)

-- the lines that count of a text that begins with these lines
pub content-lines : (n : ℕ) (some : List (List ℕ)) (rest : List ℕ) → AllByRecursion IsFull some → content n (text_of some ++ rest) ≡ counted n some ++ content (n + length some) rest
content-lines n [] rest each = ap (λ (k : ℕ). content k rest) (omega arith)
content-lines n (line ∷ some) rest each =
    let first : lines ((line ++ 10 ∷ text_of some) ++ rest) ≡ line ∷ lines (text_of some ++ rest) =
    ap lines (append_assoc line (10 ∷ text_of some) rest) ∙ lines-line line (text_of some ++ rest) each.0.ended in
    ap (numbered n) first ∙ counts (is_comment line) each.0.counts
    ∙ ap (λ (ls : List (ℕ × List ℕ)). (n + 1, line) ∷ ls) (content-lines (n + 1) some rest each.1 ∙ ap (λ (k : ℕ). counted (n + 1) some ++ content k rest) (omega arith))
  where
    counts : (t : Bool) → t ≡ false → cond t (numbered (n + 1) (lines (text_of some ++ rest))) ((n + 1, line) ∷ numbered (n + 1) (lines (text_of some ++ rest))) ≡ (n + 1, line) ∷ content (n + 1) (text_of some ++ rest)
    counts true is = absurd (cc)
    counts false is = refl

-- ---- what lines say behind some groups

-- groups of which a reader keeps these parts
pub record Kept (groups : List Group) (builder : Builder) : Type 0 where
  pub same : built groups ≡ builder
  pub named : is_some (only name_of groups) ≡ true
  pub some : Behind groups

-- groups that a reader comes to from others, by lines that follow this many
pub record Comes (before : List Group) (added : List (List ℕ)) (after : Builder) : Type 0 where
  pub groups : List Group
  pub kept : Kept groups after
  pub read : (n : ℕ) (rest : List (ℕ × List ℕ)) → reading before (counted n added ++ rest) ≡ reading groups rest

-- a text whose lines lead a reader from some parts to others
pub record Leads (text : List ℕ) (builder after : Builder) : Type 0 where
  pub added : List (List ℕ)
  pub is : text ≡ text_of added
  pub each : AllByRecursion IsFull added
  pub more : (groups : List Group) → Kept groups builder → Comes groups added after

pub leads-nil : (builder : Builder) → Leads [] builder builder
leads-nil builder = record { added = []; is = refl; each = tt; more = λ groups kept. record { groups = groups; kept = kept; read = λ n rest. refl } }

comes-append : (before : List Group) (some more : List (List ℕ)) (between after : Builder) → Comes before some between → ((groups : List Group) → Kept groups between → Comes groups more after) → Comes before (some ++ more) after
comes-append before some more between after first next =
    let last = next first.groups first.kept in
    record {
      groups = last.groups;
      kept = last.kept;
      read = λ n rest.
          ap (λ (ls : List (ℕ × List ℕ)). reading before (ls ++ rest)) (counted-append n some more)
          ∙ ap (reading before) (append_assoc (counted n some) (counted (n + length some) more) rest)
          ∙ first.read n (counted (n + length some) more ++ rest) ∙ last.read (n + length some) rest;
    }

pub leads-append : (s t : List ℕ) (builder between after : Builder) → Leads s builder between → Leads t between after → Leads (s ++ t) builder after
leads-append s t builder between after first next = record {
  added = first.added ++ next.added;
  is = ap (λ (x : List ℕ). x ++ t) first.is ∙ ap (λ (x : List ℕ). text_of first.added ++ x) next.is ∙ sym (text-append first.added next.added);
  each = full-append first.added next.added first.each next.each;
  more = λ groups kept. comes-append groups first.added next.added between after (first.more groups kept) next.more;
}

-- ---- a line that is no file's

next_behind : (groups : List Group) (line : List ℕ) → Behind groups → next_groups groups line ≡ (line_value line >>= with_line groups)
next_behind groups line some = subst (λ (gs : List Group). next_groups gs line ≡ (line_value line >>= with_line gs)) (sym some.1.1) (shaped some.0 some.1.0)
  where
    shaped : (before : List Group) (g : Group) → next_groups (before ++ g ∷ []) line ≡ (line_value line >>= with_line (before ++ g ∷ []))
    shaped [] g = refl
    shaped (x ∷ before) g = refl

-- one more group is kept as the reader puts it
kept-more : (groups : List Group) (builder : Builder) (head : Head) (files : List FileEntry) → Kept groups builder → Kept (groups ++ group head files ∷ []) (put builder head files)
kept-more groups builder head files kept = record {
  same = built-put groups head files ∙ ap (λ (b : Builder). put b head files) kept.same;
  named = named-more groups (group head files) kept.named;
  some = (groups, (group head files, refl));
}

head_next : (groups : List Group) (builder : Builder) (line : List ℕ) (head : Head) → Kept groups builder → line_value line ≡ Ok (says.Head head) → is_known builder head ≡ false
    → next_groups groups line ≡ Ok (groups ++ group head [] ∷ [])
head_next groups builder line head kept value new =
    let unseen : is_repeated groups head ≡ false = known-repeated groups head kept.named ∙ ap (λ (b : Builder). is_known b head) kept.same ∙ new in
    next_behind groups line kept.some ∙ ap (λ (r : Result Line LineKind). r >>= with_line groups) value
    ∙ ap (λ t. cond t (Err kinds.Repeated) (Ok (groups ++ group head [] ∷ []))) unseen

-- ---- the lines of files

-- a section of this kind may have such a file
abbrev pub Allowed : Place → FileEntry → Type 0
Allowed place file = (files : List FileEntry) → placed place files file ≡ one_more files file

taken : (place : Place) (files : List FileEntry) (file : FileEntry) → Allowed place file → all_below (λ (f : FileEntry). f.path) file files ≡ true → placed place files file ≡ Ok (files ++ file ∷ [])
taken place files file allowed below =
    allowed files ∙ ap (λ t. cond t (Err kinds.Repeated) (Ok (insert_by (λ (f : FileEntry). f.path) file files))) (absent-last (λ (f : FileEntry). f.path) file files below)
    ∙ ap (λ (fs : List FileEntry). Ok fs) (insert-last (λ (f : FileEntry). f.path) file files below)

abbrev with_files : List Group → Head → List FileEntry → Result (List Group) LineKind
with_files groups head files = Ok (groups ++ group head files ∷ [])

files_read : (groups : List Group) (head : Head) (before files : List FileEntry) (n : ℕ) (rest : List (ℕ × List ℕ)) → All IsFormedFile files → is_rising (λ (f : FileEntry). f.path) files ≡ true
    → Follows (λ (f : FileEntry). f.path) before files → AllByRecursion (Allowed (place_of head)) files
    → reading (groups ++ group head before ∷ []) (counted n (map file_text files) ++ rest) ≡ reading (groups ++ group head (before ++ files) ∷ []) rest
files_read groups head before [] n rest each up follows allowed = ap (λ (fs : List FileEntry). reading (groups ++ group head fs ∷ []) rest) (sym (append-nil before))
files_read groups head before (file ∷ files) n rest each up follows allowed =
    let next : next_groups (groups ++ group head before ∷ []) (file_text file) ≡ with_files groups head (before ++ file ∷ []) =
    file_next groups head before (file_text file) refl
    ∙ ap (λ (r : Result Line LineKind). (r >>= file_in (place_of head) before) >>= λ more. with_files groups head more) (file_says file (All-head IsFormedFile file files each))
    ∙ ap (λ (r : Result (List FileEntry) LineKind). r >>= λ more. with_files groups head more) (taken (place_of head) before file allowed.0 follows) in
    ap (λ (r : Result (List Group) LineKind). at_line (n + 1) r (λ gs. reading gs (counted (n + 1) (map file_text files) ++ rest))) next
    ∙ files_read groups head (before ++ file ∷ []) files (n + 1) rest (All-tail IsFormedFile file files each) (rising-tail (λ (f : FileEntry). f.path) file files up)
    (follows-next (λ (f : FileEntry). f.path) before file files follows up) allowed.1
    ∙ ap (λ (fs : List FileEntry). reading (groups ++ group head fs ∷ []) rest) (append_assoc before (file ∷ []) files)

files_full : (files : List FileEntry) → All IsFormedFile files → AllByRecursion IsFull (map file_text files)
files_full [] each = tt
files_full (file ∷ files) each = (file_full file (All-head IsFormedFile file files each), files_full files (All-tail IsFormedFile file files each))

files_text : (files : List FileEntry) → flat_map file_line files ≡ text_of (map file_text files)
unfolding file_line
files_text [] = refl
files_text (file ∷ files) = append_assoc (file_text file) (10 ∷ []) (flat_map file_line files) ∙ ap (λ (t : List ℕ). file_text file ++ 10 ∷ t) (files_text files)

-- a line that is no file's, with the lines of the files that belong to it
pub leads-section : (line : List ℕ) (head : Head) (files : List FileEntry) (builder : Builder) → IsHead line head → is_known builder head ≡ false → All IsFormedFile files
    → is_rising (λ (f : FileEntry). f.path) files ≡ true → AllByRecursion (Allowed (place_of head)) files → Leads (line ++ 10 ∷ flat_map file_line files) builder (put builder head files)
leads-section line head files builder is new each up allowed = record {
  added = line ∷ map file_text files;
  is = ap (λ (t : List ℕ). line ++ 10 ∷ t) (files_text files);
  each = (is.full, files_full files each);
  more = λ groups kept. record {
    groups = groups ++ group head files ∷ [];
    kept = kept-more groups builder head files kept;
    read = λ n rest.
        ap (λ (r : Result (List Group) LineKind). at_line (n + 1) r (λ gs. reading gs (counted (n + 1) (map file_text files) ++ rest))) (head_next groups builder line head kept is.says new)
        ∙ files_read groups head [] files (n + 1) rest each up (follows-none (λ (f : FileEntry). f.path) files) allowed;
  };
}

-- a line that is no file's
pub leads-line : (line : List ℕ) (head : Head) (builder : Builder) → IsHead line head → is_known builder head ≡ false → Leads (line ++ 10 ∷ []) builder (put builder head [])
leads-line line head builder is new = leads-section line head [] builder is new (All-nil IsFormedFile) refl tt

-- ---- the beginning of an entry

-- a text that begins an entry with this name, and what a reader keeps of it
pub record Begins (text name : List ℕ) (after : Builder) : Type 0 where
  pub added : List (List ℕ)
  pub is : text ≡ text_of added
  pub each : AllByRecursion IsFull added
  pub some : 0 < length added
  pub named : (n : ℕ) (rest : List (ℕ × List ℕ)) → first_name (counted n added ++ rest) ≡ Ok (n + 1, name)
  pub groups : List Group
  pub kept : Kept groups after
  pub read : (n : ℕ) (rest : List (ℕ × List ℕ)) → entry_groups (counted n added ++ rest) ≡ reading groups rest

pub begins-name : (name : List ℕ) → is_name name ≡ true → Begins (key_line (codes "name") name) name (record (built []) { name = name })
unfolding key_line
begins-name name is =
    let head = name_head name is in
    let first : next_groups [] (codes "name" ++ 32 ∷ name) ≡ Ok (group (heads.Name name) [] ∷ []) = ap (λ (r : Result Line LineKind). r >>= named) head.says in
    record {
      added = (codes "name" ++ 32 ∷ name) ∷ [];
      is = refl;
      each = (head.full, tt);
      some = omega arith;
      named = λ n rest. ap (name_at (n + 1)) first;
      groups = group (heads.Name name) [] ∷ [];
      kept = record { same = refl; named = refl; some = ([], (group (heads.Name name) [], refl)) };
      read = λ n rest. ap (λ (r : Result (List Group) LineKind). at_line (n + 1) r (λ gs. reading gs rest)) first;
    }

pub begins-append : (s t name : List ℕ) (between after : Builder) → Begins s name between → Leads t between after → Begins (s ++ t) name after
begins-append s t name between after first next =
    let last = next.more first.groups first.kept in
    let again : (n : ℕ) (rest : List (ℕ × List ℕ)) → counted n (first.added ++ next.added) ++ rest ≡ counted n first.added ++ (counted (n + length first.added) next.added ++ rest) =
    λ n rest. ap (λ (ls : List (ℕ × List ℕ)). ls ++ rest) (counted-append n first.added next.added) ∙ append_assoc (counted n first.added) (counted (n + length first.added) next.added) rest in
    let many = first.some in
    record {
      added = first.added ++ next.added;
      is = ap (λ (x : List ℕ). x ++ t) first.is ∙ ap (λ (x : List ℕ). text_of first.added ++ x) next.is ∙ sym (text-append first.added next.added);
      each = full-append first.added next.added first.each next.each;
      some = omega (arith, length-append first.added next.added);
      named = λ n rest. ap first_name (again n rest) ∙ first.named n (counted (n + length first.added) next.added ++ rest);
      groups = last.groups;
      kept = last.kept;
      read = λ n rest. ap entry_groups (again n rest) ∙ first.read n (counted (n + length first.added) next.added ++ rest) ∙ last.read (n + length first.added) rest;
    }
