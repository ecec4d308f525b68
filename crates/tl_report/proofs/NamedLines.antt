-- Lines on packages are whole lines and no acknowledgements, whatever the packages are called.
use Rattle.std.proofs.Common.{◌≡◌, ◌==◌, ◌^◌, ◌<◌, ◌+◌, ℕ, suc, Bool, true, false, cond, ◌&&◌, List, [], ◌∷◌, ◌++◌, nat_eq, append_assoc, take, refl, sym, ◌∙◌, ap, subst, inl, inr, arith}
use Rattle.std.specs.Prelude.{codes, not, is_some}
use Rattle.std.specs.Char.{is_ascii_digit}
use Rattle.std.specs.List.{AllByRecursion, list_all, before_first, prefix_len}
use Rattle.std.proofs.lemmas.Bool.{cases_Bool, true≢false, eqb-true}
use Rattle.std.proofs.lemmas.List.Elements.{All-nil, All-cons, All-append}
use Rattle.tl_model.specs.Decimal.{is_decimal, decimal_text, IsDecimal-decimal_text, decimal_parts}
use Rattle.tl_model.specs.Lines.{IsLine, text_of}
use Rattle.tl_model.specs.Acks.{is_ack, IsPlain, plain-text_of}
use Rattle.tl_path.specs.Bytes.{is_letter_or_digit, is_of_name, is_of_tag}
use Rattle.tl_path.specs.Names.{is_name, is_tag}
use Rattle.tl_path.specs.declared.kinds.Category.{Category}
use Rattle.tl_path.specs.declared.kinds.Category.TheVariants as categories
use Rattle.tl_path.specs.Kinds.{category_text}
use Rattle.tl_path.proofs.Words.{word_all}
use Rattle.tl_entry.specs.declared.object.Object.{Object}
use Rattle.tl_db.specs.Entries.{entry_of}
use Rattle.tl_report.specs.Info.{fact_word, known_line, revision_text, standing_text, listing_line, shortdesc_or_empty}
use Rattle.tl_report.specs.Lines.{IsReportLine}
use Rattle.tl_report.specs.Offers.{chosen_mark, offer_line}
use Rattle.tl_report.specs.Search.{found_line}
use Rattle.tl_report.specs.declared.facts.Fact.{Fact}
use Rattle.tl_report.specs.declared.facts.Fact.TheVariants as facts
use Rattle.tl_report.proofs.LineLemmas.{line_of_all, line_of_name, line_of_two}

line_of_fact : (fact : Fact) → IsLine (fact_word fact)
line_of_fact facts.Package = line_of_all (λ b. not (b == 10)) refl (codes "package") refl
line_of_fact facts.Category = line_of_all (λ b. not (b == 10)) refl (codes "category") refl
line_of_fact facts.Shortdesc = line_of_all (λ b. not (b == 10)) refl (codes "shortdesc") refl
line_of_fact facts.Installed = line_of_all (λ b. not (b == 10)) refl (codes "installed") refl
line_of_fact facts.Candidate = line_of_all (λ b. not (b == 10)) refl (codes "candidate") refl

fact_other : (fact : Fact) (about : List ℕ) → is_ack (known_line fact about) ≡ false
fact_other facts.Package about = refl
fact_other facts.Category about = refl
fact_other facts.Shortdesc about = refl
fact_other facts.Installed about = refl
fact_other facts.Candidate about = refl

-- the line of a fact is one of a report
pub report-fact_line : (fact : Fact) (about : List ℕ) → IsLine about → IsReportLine (known_line fact about)
report-fact_line fact about is = record {
  whole = line_of_two (fact_word fact) about (line_of_fact fact) is;
  other = fact_other fact about;
}

-- a category is one line
pub line_of_category : (category : Category) → IsLine (category_text category)
line_of_category categories.Package = line_of_all (λ b. not (b == 10)) refl (codes "Package") refl
line_of_category categories.TLCore = line_of_all (λ b. not (b == 10)) refl (codes "TLCore") refl
line_of_category categories.ConTeXt = line_of_all (λ b. not (b == 10)) refl (codes "ConTeXt") refl
line_of_category categories.Collection = line_of_all (λ b. not (b == 10)) refl (codes "Collection") refl
line_of_category categories.Scheme = line_of_all (λ b. not (b == 10)) refl (codes "Scheme") refl

-- a revision is one line
pub line_of_revision : (revision : ℕ) → revision < 2 ^ 64 → IsLine (revision_text revision)
line_of_revision revision small =
    All-cons (λ b. (b == 10) ≡ false) 114 (decimal_text revision) refl
    (line_of_all is_ascii_digit refl (decimal_text revision) (decimal_parts (decimal_text revision) (IsDecimal-decimal_text revision small)).1)

-- a tag has no line end
pub line_of_tag : (tag : List ℕ) → is_tag tag ≡ true → IsLine tag
line_of_tag tag is = line_of_all is_of_tag refl tag (word_all is_letter_or_digit is_of_tag 64 tag is)

-- a tag and a revision
pub line_of_offer : (tag : List ℕ) (revision : ℕ) → is_tag tag ≡ true → revision < 2 ^ 64 → IsLine (tag ++ 32 ∷ revision_text revision)
line_of_offer tag revision is small = line_of_two tag (revision_text revision) (line_of_tag tag is) (line_of_revision revision small)

line_of_standing : (installed : Bool) → IsLine (standing_text installed)
line_of_standing true = line_of_all (λ b. not (b == 10)) refl (codes "i") refl
line_of_standing false = line_of_all (λ b. not (b == 10)) refl (codes "-") refl

standing_other : (installed : Bool) (name rest : List ℕ) → is_ack (standing_text installed ++ 32 ∷ name ++ 58 ∷ rest) ≡ false
standing_other true name rest = refl
standing_other false name rest = refl

-- the line of a package among all is one of a report
pub report-listing_line : (installed : List Object) (entry : Object) → is_name entry.name ≡ true → IsLine (shortdesc_or_empty entry) → IsReportLine (listing_line installed entry)
report-listing_line installed entry is short =
    let there = is_some (entry_of entry.name installed) in
    record {
      whole = All-append (λ b. (b == 10) ≡ false) (standing_text there ++ 32 ∷ entry.name) (58 ∷ 32 ∷ shortdesc_or_empty entry)
          (line_of_two (standing_text there) entry.name (line_of_standing there) (line_of_name entry.name is))
          (All-cons (λ b. (b == 10) ≡ false) 58 (32 ∷ shortdesc_or_empty entry) refl (All-cons (λ b. (b == 10) ≡ false) 32 (shortdesc_or_empty entry) refl short));
      other = standing_other there entry.name (32 ∷ shortdesc_or_empty entry);
    }

and_false : (b : Bool) → (b && false) ≡ false
and_false true = refl
and_false false = refl

module _ (p : ℕ → Bool) (no_space : p 32 ≡ false) where
  apart : (b : ℕ) → p b ≡ true → nat_eq 32 b ≡ false
  apart b is = elim (cases_Bool (nat_eq 32 b)) [
    | inl same ↦ absurd (true≢false (sym is ∙ ap p (sym (eqb-true 32 b same)) ∙ no_space))
    | inr other ↦ other
  ]

  tail_all : (b : ℕ) (bytes : List ℕ) → list_all p (b ∷ bytes) ≡ true → list_all p bytes ≡ true
  tail_all b bytes is = by (p b) is
    where
      by : (t : Bool) → (t && list_all p bytes) ≡ true → list_all p bytes ≡ true
      by true is = is
      by false is = absurd (cc)

  head_all : (b : ℕ) (bytes : List ℕ) → list_all p (b ∷ bytes) ≡ true → p b ≡ true
  head_all b bytes is = by (p b) is
    where
      by : (t : Bool) → (t && list_all p bytes) ≡ true → t ≡ true
      by true is = refl
      by false is = absurd (cc)

  -- a line whose second word begins with no digit and no slash acknowledges nothing
  other_named : (word : List ℕ) (b : ℕ) (rest : List ℕ) → list_all p word ≡ true → is_decimal (before_first (λ c. c == 47) (before_first (λ c. c == 32) (b ∷ rest))) ≡ false → is_ack (word ++ 32 ∷ b ∷ rest) ≡ false
  other_named [] b rest all none = refl
  other_named (x ∷ []) b rest all none = simp and_false
  other_named (x ∷ y ∷ []) b rest all none = simp and_false
  other_named (x ∷ y ∷ z ∷ []) b rest all none = simp and_false
  other_named (x ∷ y ∷ z ∷ u ∷ []) b rest all none = rw none (simp and_false)
  other_named (x ∷ y ∷ z ∷ u ∷ v ∷ word) b rest all none =
      let fifth : nat_eq 32 v ≡ false =
      apart v (head_all v word (tail_all u (v ∷ word) (tail_all z (u ∷ v ∷ word) (tail_all y (z ∷ u ∷ v ∷ word) (tail_all x (y ∷ z ∷ u ∷ v ∷ word) all))))) in
      rw fifth (simp and_false)

no_number : (b : ℕ) (rest : List ℕ) → is_ascii_digit b ≡ false → is_decimal (b ∷ rest) ≡ false
no_number b rest none = rw none (and_false _)

first_kept : (p : ℕ → Bool) (b : ℕ) (rest : List ℕ) → p b ≡ false → before_first p (b ∷ rest) ≡ b ∷ before_first p rest
first_kept p b rest apart =
    let count = prefix_len (λ c. not (p c)) rest in
    let next : 1 + count ≡ suc count = omega arith in
    ap (λ (t : Bool). take (cond (not t) (1 + count) 0) (b ∷ rest)) apart ∙ ap (λ (n : ℕ). take n (b ∷ rest)) next

no_ratio : (b : ℕ) (rest : List ℕ) → (b == 32) ≡ false → (b == 47) ≡ false → is_ascii_digit b ≡ false → is_decimal (before_first (λ c. c == 47) (before_first (λ c. c == 32) (b ∷ rest))) ≡ false
no_ratio b rest no_space no_slash no_digit =
    ap (λ (l : List ℕ). is_decimal (before_first (λ c. c == 47) l)) (first_kept (λ c. c == 32) b rest no_space)
    ∙ ap is_decimal (first_kept (λ c. c == 47) b (before_first (λ c. c == 32) rest) no_slash) ∙ no_number b _ no_digit

-- the line of an entry that was found is one of a report
pub report-found_line : (entry : Object) → is_name entry.name ≡ true → IsLine (shortdesc_or_empty entry) → IsReportLine (found_line entry)
report-found_line entry is short = record {
  whole = line_of_two entry.name (45 ∷ 32 ∷ shortdesc_or_empty entry) (line_of_name entry.name is)
      (All-cons (λ b. (b == 10) ≡ false) 45 (32 ∷ shortdesc_or_empty entry) refl (All-cons (λ b. (b == 10) ≡ false) 32 (shortdesc_or_empty entry) refl short));
  other = other_named is_of_name refl entry.name 45 (32 ∷ shortdesc_or_empty entry) (word_all is_letter_or_digit is_of_name 128 entry.name is) (no_ratio 45 (32 ∷ shortdesc_or_empty entry) refl refl refl);
}

line_of_mark : (marked : Bool) → IsLine (chosen_mark marked)
line_of_mark true = line_of_all (λ b. not (b == 10)) refl (codes " *") refl
line_of_mark false = All-nil (λ b. (b == 10) ≡ false)

-- the line of a repository that has a package is one of a report
pub report-offer_line : (tag : List ℕ) (revision : ℕ) (marked : Bool) → is_tag tag ≡ true → revision < 2 ^ 64 → IsReportLine (offer_line tag revision marked)
report-offer_line tag revision marked is small = record {
  whole = All-append (λ b. (b == 10) ≡ false) (tag ++ 32 ∷ revision_text revision) (chosen_mark marked) (line_of_offer tag revision is small) (line_of_mark marked);
  other = subst (λ (line : List ℕ). is_ack line ≡ false) (sym (append_assoc tag (32 ∷ revision_text revision) (chosen_mark marked)))
      (other_named is_of_tag refl tag 114 (decimal_text revision ++ chosen_mark marked) (word_all is_letter_or_digit is_of_tag 64 tag is) (no_ratio 114 (decimal_text revision ++ chosen_mark marked) refl refl refl));
}

wholes : (xs : List (List ℕ)) → AllByRecursion IsReportLine xs → AllByRecursion IsLine xs
wholes [] all = tt
wholes (x ∷ xs) all = (all.0.whole, wholes xs all.1)

others : (xs : List (List ℕ)) → AllByRecursion IsReportLine xs → AllByRecursion (λ line. is_ack line ≡ false) xs
others [] all = tt
others (x ∷ xs) all = (all.0.other, others xs all.1)

-- lines of a report as a text have no acknowledged line
pub plain-lines : (xs : List (List ℕ)) → AllByRecursion IsReportLine xs → IsPlain (text_of xs)
plain-lines xs all = plain-text_of xs (wholes xs all) (others xs all)
