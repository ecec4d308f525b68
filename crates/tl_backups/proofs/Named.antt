-- The names of the entries that a database reads as are lines.
use Rattle.std.proofs.Common.{◌≡◌, ◌==◌, ℕ, Bool, true, false, cond, nat_lt, List, [], ◌∷◌, ◌++◌, length, fold, codes, ◌^◌, Option, Some, None, Result, Ok, Err, refl, subst}
use Rattle.std.specs.Option.{unwrap_or}
use Rattle.std.specs.Str.{is_utf8}
use Rattle.std.proofs.lemmas.List.Elements.{All-nil}
use Rattle.tl_model.specs.Lines.{IsLine}
use Rattle.tl_path.specs.Names.{is_name}
use Rattle.tl_entry.specs.Parts.{FileEntry}
use Rattle.tl_entry.specs.Rising.{comes_before, insert_by, has_key}
use Rattle.tl_entry.specs.declared.object.Object.{Object}
use Rattle.tl_object.specs.Content.{content, stretches}
use Rattle.tl_object.specs.Cuts.{cut}
use Rattle.tl_object.specs.Values.{◌>>=◌, name_value, formed, category_value, number_value, text_value, flag_value, digest_value, stripped, blocks_value, bin_value}
use Rattle.tl_object.specs.Keys.{key_of}
use Rattle.tl_entry.specs.Forms.{is_fact_key}
use Rattle.tl_object.specs.Grammar.{head_of, fact_with, head_by, keyed, head_from, head_value, file_value, line_form, line_value}
use Rattle.tl_object.specs.Groups.{Group, latest, name_in, name_of, only, object_of, is_repeated}
use Rattle.tl_object.specs.Line.{Line}
use Rattle.tl_object.specs.Line as lines
use Rattle.tl_object.specs.Reading.{placed, place_of, with_file, with_line, names, named, next_groups, at_line, reading, entry_groups, as_object, first_name}
use Rattle.tl_object.specs.declared.fault.LineKind.{LineKind}
use Rattle.tl_object.specs.declared.fault.LineKind.TheVariants as kinds
use Rattle.tl_object.specs.declared.head.Head.{Head}
use Rattle.tl_object.specs.declared.head.Head.TheVariants as heads
use Rattle.tl_object.specs.declared.key.Key.{Key}
use Rattle.tl_object.specs.declared.key.Key.TheVariants as keys
use Rattle.tl_db.specs.Reading.{with_object, with_named, with_stretch, going_on, with_stretches, db_of}
use Rattle.tl_refusal.proofs.Plain.{line_of_name}

-- a name that a line states is one line
abbrev HasLine : Head → Type 0
HasLine (heads.Name name) = IsLine name
HasLine other = Unit {0}

abbrev SaysLine : Line → Type 0
SaysLine (lines.Head head) = HasLine head
SaysLine (lines.File file) = Unit {0}

abbrev HaveLines : List Group → Type 0
HaveLines [] = Unit {0}
HaveLines (group ∷ groups) = HasLine group.head × HaveLines groups

-- the name of each entry is one line
abbrev pub AreNamed : List Object → Type 0
AreNamed [] = Unit {0}
AreNamed (entry ∷ entries) = IsLine entry.name × AreNamed entries

-- one answer is one value
same_ok : {A B : Type 0} (x y : A) (read : Result A B) → read ≡ Ok x → read ≡ Ok y → x ≡ y
same_ok x y read one other = cc

-- what a second step of a reading gives
bound : {A : Type 0} (read : Result A LineKind) (made : A → Head) (head : Head) → ((x : A) → HasLine (made x)) → (read >>= λ x. Ok (made x)) ≡ Ok head → HasLine head
bound (Ok x) made head each is = subst HasLine (same_ok (made x) head (Ok (made x)) refl is) (each x)
bound (Err kind) made head each is = absurd (cc)

name_head : (value : List ℕ) (head : Head) → (name_value value >>= λ name. Ok (heads.Name name)) ≡ Ok head → HasLine head
name_head value head is = by (is_name value) refl is
  where
    by : (b : Bool) → is_name value ≡ b → (formed b value kinds.Value >>= λ name. Ok (heads.Name name)) ≡ Ok head → HasLine head
    by true form same = subst HasLine (same_ok (heads.Name value) head (Ok (heads.Name value)) refl same) (line_of_name value form)
    by false form same = absurd (cc)

key_head : (key : Key) (value : List ℕ) (head : Head) → head_of key value ≡ Ok head → HasLine head
key_head keys.Name value head is = name_head value head is
key_head keys.Category value head is = bound (category_value value) heads.Category head (λ x. tt) is
key_head keys.Revision value head is = bound (number_value (2 ^ 32) value) heads.Revision head (λ x. tt) is
key_head keys.Catalogue value head is = bound (text_value value) heads.Catalogue head (λ x. tt) is
key_head keys.Shortdesc value head is = bound (text_value value) heads.Shortdesc head (λ x. tt) is
key_head keys.Relocated value head is = bound (flag_value value) heads.Relocated head (λ x. tt) is
key_head keys.Longdesc value head is = bound (text_value value) heads.Longdesc head (λ x. tt) is
key_head keys.Depend value head is = bound (text_value value) heads.Depend head (λ x. tt) is
key_head keys.Execute value head is = bound (text_value value) heads.Execute head (λ x. tt) is
key_head keys.Postaction value head is = bound (text_value value) heads.Postaction head (λ x. tt) is
key_head (keys.Size part) value head is = bound (number_value (2 ^ 64) value) (heads.Size part) head (λ x. tt) is
key_head (keys.Digest part) value head is = bound (digest_value value) (heads.Digest part) head (λ x. tt) is
key_head (keys.Files part) value head is = bound (blocks_value value) (heads.Files part) head (λ x. tt) is
key_head keys.Binfiles value head is = bound (bin_value value) (λ bin. heads.Binfiles bin.0 bin.1) head (λ x. tt) is

fact_head : (key : Option (List ℕ)) (value : List ℕ) (head : Head) → fact_with key value ≡ Ok head → HasLine head
fact_head None value head is = absurd (cc)
fact_head (Some key) value head is = by (is_fact_key key) is
  where
    by : (b : Bool) → cond b (text_value value >>= λ text. Ok (heads.Fact (record { key = key; value = text }))) (Err kinds.Key) ≡ Ok head → HasLine head
    by true same = bound (text_value value) (λ text. heads.Fact (record { key = key; value = text })) head (λ x. tt) same
    by false same = absurd (cc)

by_head : (key : Option Key) (word value : List ℕ) (head : Head) → head_by key word value ≡ Ok head → HasLine head
by_head (Some key) word value head is = key_head key value head is
by_head None word value head is = fact_head (stripped (codes "catalogue-") word) value head is

keyed_head : (word value : List ℕ) (head : Head) → keyed word value ≡ Ok head → HasLine head
keyed_head word value head is = by (nat_lt 65536 (length value)) is
  where
    by : (b : Bool) → cond b (Err kinds.TooLong) (head_by (key_of word) word value) ≡ Ok head → HasLine head
    by true same = absurd (cc)
    by false same = by_head (key_of word) word value head same

from_head : (line : List ℕ) (parts : Option (List ℕ × List ℕ)) (head : Head) → head_from line parts ≡ Ok head → HasLine head
from_head line None head is = keyed_head line [] head is
from_head line (Some parts) head is = keyed_head parts.0 parts.1 head is

-- what a line says of a name is one line
head_line : (read : Result Head LineKind) (line : Line) → ((head : Head) → read ≡ Ok head → HasLine head) → (read >>= λ head. Ok (lines.Head head)) ≡ Ok line → SaysLine line
head_line (Ok head) line each is = subst SaysLine (same_ok (lines.Head head) line (Ok (lines.Head head)) refl is) (each head refl)
head_line (Err kind) line each is = absurd (cc)

file_line : (read : Result FileEntry LineKind) (line : Line) → (read >>= λ file. Ok (lines.File file)) ≡ Ok line → SaysLine line
file_line (Ok file) line is = subst SaysLine (same_ok (lines.File file) line (Ok (lines.File file)) refl is) tt
file_line (Err kind) line is = absurd (cc)

form_line : (text : List ℕ) (line : Line) → line_form text ≡ Ok line → SaysLine line
form_line [] line is = head_line (head_value []) line (λ head read. from_head [] (cut 32 []) head read) is
form_line (b ∷ text) line is = by (b == 32) is
  where
    by : (space : Bool) → cond space (file_value text >>= λ file. Ok (lines.File file)) (head_value (b ∷ text) >>= λ head. Ok (lines.Head head)) ≡ Ok line → SaysLine line
    by true same = file_line (file_value text) line same
    by false same = head_line (head_value (b ∷ text)) line (λ head read. from_head (b ∷ text) (cut 32 (b ∷ text)) head read) same

value_line : (text : List ℕ) (line : Line) → line_value text ≡ Ok line → SaysLine line
value_line text line is = by (is_utf8 text) is
  where
    by : (good : Bool) → cond good (line_form text) (Err kinds.Utf8) ≡ Ok line → SaysLine line
    by true same = form_line text line same
    by false same = absurd (cc)

-- groups of lines

named_line : (line : Line) (groups : List Group) → SaysLine line → named line ≡ Ok groups → HaveLines groups
named_line (lines.Head (heads.Name name)) groups says is =
    let made : List Group = record { head = heads.Name name; files = [] } ∷ [] in subst HaveLines (same_ok made groups (Ok made) refl is) (says, tt)
named_line _ groups says is = absurd (cc)

have_more : (groups : List Group) (group : Group) → HaveLines groups → HasLine group.head → HaveLines (groups ++ group ∷ [])
have_more [] group have has = (has, tt)
have_more (first ∷ groups) group have has = (have.0, have_more groups group have.1 has)

file_groups : (groups : List Group) (file : FileEntry) (more : List Group) → HaveLines groups → with_file groups file ≡ Ok more → HaveLines more
file_groups [] file more have is = absurd (cc)
file_groups (group ∷ []) file more have is = by (placed (place_of group.head) group.files file) is
  where
    by : (read : Result (List FileEntry) LineKind) → (read >>= λ files. Ok (record group { files = files } ∷ [])) ≡ Ok more → HaveLines more
    by (Ok files) same = let made : List Group = record group { files = files } ∷ [] in subst HaveLines (same_ok made more (Ok made) refl same) (have.0, tt)
    by (Err kind) same = absurd (cc)
file_groups (group ∷ next ∷ others) file more have is = by (with_file (next ∷ others) file) (λ made same. file_groups (next ∷ others) file made have.1 same) is
  where
    by : (read : Result (List Group) LineKind) → ((made : List Group) → read ≡ Ok made → HaveLines made) → (read >>= λ made. Ok (group ∷ made)) ≡ Ok more → HaveLines more
    by (Ok made) each same = subst HaveLines (same_ok (group ∷ made) more (Ok (group ∷ made)) refl same) (have.0, each made refl)
    by (Err kind) each same = absurd (cc)

line_groups : (groups : List Group) (line : Line) (more : List Group) → HaveLines groups → SaysLine line → with_line groups line ≡ Ok more → HaveLines more
line_groups groups (lines.Head head) more have says is = by (is_repeated groups head) is
  where
    by : (repeated : Bool) → cond repeated (Err kinds.Repeated) (Ok (groups ++ record { head = head; files = [] } ∷ [])) ≡ Ok more → HaveLines more
    by true same = absurd (cc)
    by false same = let made : List Group = groups ++ record { head = head; files = [] } ∷ [] in subst HaveLines (same_ok made more (Ok made) refl same) (have_more groups (record { head = head; files = [] }) have says)
line_groups groups (lines.File file) more have says is = file_groups groups file more have is

then_groups : (read : Result Line LineKind) (next : Line → Result (List Group) LineKind) (more : List Group) → ((line : Line) → read ≡ Ok line → next line ≡ Ok more → HaveLines more) → (read >>= next) ≡ Ok more → HaveLines more
then_groups (Ok line) next more each is = each line refl is
then_groups (Err kind) next more each is = absurd (cc)

more_groups : (groups : List Group) (text : List ℕ) (more : List Group) → HaveLines groups → next_groups groups text ≡ Ok more → HaveLines more
more_groups [] text more have is = by (names text (cut 32 text)) is
  where
    by : (first : Bool) → cond first (line_value text >>= named) (Err kinds.Missing) ≡ Ok more → HaveLines more
    by true same = then_groups (line_value text) named more (λ line read made. named_line line more (value_line text line read) made) same
    by false same = absurd (cc)
more_groups (group ∷ others) text more have is =
    then_groups (line_value text) (with_line (group ∷ others)) more (λ line read made. line_groups (group ∷ others) line more have (value_line text line read) made) is

all_groups : (groups : List Group) (left : List (ℕ × List ℕ)) (made : List Group) → HaveLines groups → reading groups left ≡ Ok made → HaveLines made
all_groups groups [] made have is = subst HaveLines (same_ok groups made (Ok groups) refl is) have
all_groups groups (line ∷ left) made have is = by (next_groups groups line.1) (λ more same. more_groups groups line.1 more have same) (λ more has rest. all_groups more left made has rest) is
  where
    by : (read : Result (List Group) LineKind) → ((more : List Group) → read ≡ Ok more → HaveLines more) → ((more : List Group) → HaveLines more → reading more left ≡ Ok made → HaveLines made)
        → at_line line.0 read (λ more. reading more left) ≡ Ok made → HaveLines made
    by (Ok more) each rest same = rest more (each more refl) same
    by (Err kind) each rest same = absurd (cc)

-- the name that some groups state

abbrev IsLineOr : Option (List ℕ) → Type 0
IsLineOr None = Unit {0}
IsLineOr (Some name) = IsLine name

latest_line : (head : Head) (before : Option (List ℕ)) → HasLine head → IsLineOr before → IsLineOr (latest (name_in head) before)
latest_line (heads.Name name) before has so_far = has
latest_line _ before has so_far = so_far

fold_line : (groups : List Group) (before : Option (List ℕ)) → HaveLines groups → IsLineOr before → IsLineOr (fold (λ before group. latest (name_of group) before) before groups)
fold_line [] before have so_far = so_far
fold_line (group ∷ groups) before have so_far = fold_line groups (latest (name_of group) before) have.1 (latest_line group.head before have.0 so_far)

line_or_none : (name : Option (List ℕ)) → IsLineOr name → IsLine (unwrap_or name [])
line_or_none None is = All-nil (λ b. (b == 10) ≡ false)
line_or_none (Some name) is = is

object_line : (read : Result (List Group) (ℕ × LineKind)) (object : Object) → ((groups : List Group) → read ≡ Ok groups → HaveLines groups) → as_object read ≡ Ok object → IsLine object.name
object_line (Ok groups) object each is = subst (λ (o : Object). IsLine o.name) (same_ok (object_of groups) object (Ok (object_of groups)) refl is) (line_or_none (only name_of groups) (fold_line groups None (each groups refl) tt))
object_line (Err fault) object each is = absurd (cc)

entry_lines : (left : List (ℕ × List ℕ)) (groups : List Group) → entry_groups left ≡ Ok groups → HaveLines groups
entry_lines [] groups is = absurd (cc)
entry_lines (line ∷ left) groups is = all_groups [] (line ∷ left) groups tt is

-- the entries of a database

named_with : (entry : Object) (entries : List Object) → IsLine entry.name → AreNamed entries → AreNamed (insert_by (λ (o : Object). o.name) entry entries)
named_with entry [] is are = (is, tt)
named_with entry (first ∷ entries) is are = by (comes_before entry.name first.name) (named_with entry entries is are.1)
  where
    by : (b : Bool) → AreNamed (insert_by (λ (o : Object). o.name) entry entries) → AreNamed (cond b (entry ∷ first ∷ entries) (first ∷ insert_by (λ (o : Object). o.name) entry entries))
    by true rest = (is, are)
    by false rest = (are.0, rest)

with_line_entry : (entries : List Object) (read : Result Object (ℕ × LineKind)) (more : List Object) → AreNamed entries → ((object : Object) → read ≡ Ok object → IsLine object.name) → with_object entries read ≡ Ok more → AreNamed more
with_line_entry entries (Ok object) more are each is =
    let made : List Object = insert_by (λ (o : Object). o.name) object entries in subst AreNamed (same_ok made more (Ok made) refl is) (named_with object entries (each object refl) are)
with_line_entry entries (Err fault) more are each is = absurd (cc)

stretch_named : (entries : List Object) (left : List (ℕ × List ℕ)) (first : Result (ℕ × List ℕ) (ℕ × LineKind)) (more : List Object) → AreNamed entries → with_named entries left first ≡ Ok more → AreNamed more
stretch_named entries left (Ok (line, name)) more are is = by (has_key (λ (o : Object). o.name) name entries) is
  where
    by : (has : Bool) → cond has (Err (line, kinds.Repeated)) (with_object entries (as_object (entry_groups left))) ≡ Ok more → AreNamed more
    by true same = absurd (cc)
    by false same = with_line_entry entries (as_object (entry_groups left)) more are (λ object read. object_line (entry_groups left) object (λ groups found. entry_lines left groups found) read) same
stretch_named entries left (Err fault) more are is = absurd (cc)

stretches_named : (entries : List Object) (some : List (List (ℕ × List ℕ))) (db : List Object) → AreNamed entries → with_stretches entries some ≡ Ok db → AreNamed db
stretches_named entries [] db are is = subst AreNamed (same_ok entries db (Ok entries) refl is) are
stretches_named entries (left ∷ others) db are is =
    by (with_stretch entries left) (λ more same. stretch_named entries left (first_name left) more are same) (λ more named rest. stretches_named more others db named rest) is
  where
    by : (read : Result (List Object) (ℕ × LineKind)) → ((more : List Object) → read ≡ Ok more → AreNamed more) → ((more : List Object) → AreNamed more → with_stretches more others ≡ Ok db → AreNamed db)
        → going_on read (λ more. with_stretches more others) ≡ Ok db → AreNamed db
    by (Ok more) each rest same = rest more (each more refl) same
    by (Err fault) each rest same = absurd (cc)

-- each entry that a database reads as has a name that is one line
pub read_named : (text : List ℕ) (db : List Object) → db_of text ≡ Ok db → AreNamed db
read_named text db is = stretches_named [] (stretches (content 0 text)) db tt is
