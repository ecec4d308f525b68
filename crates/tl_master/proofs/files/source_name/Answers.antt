use Rattle.std.proofs.Common.{◌≡◌, nat_eq, true, false, cond, List, ℕ, drop, take, length, Some, None, sym, ap, ◌∙◌, ◌-◌}
use Rattle.std.specs.List.{starts_with, ends_with}
use Rattle.std.specs.Option.{option_and_then}
use Rattle.std.specs.Str.{bytes_eq}
use Rattle.std.proofs.lemmas.Bool.{true≢false, false_from_ne_true}
use Rattle.std.proofs.lemmas.Slice.Eq.{bytes_eq-Decides}
use Rattle.tl_marks.specs.Form.{source_front, source_end}
use Rattle.tl_backup.specs.Files.{before_back}
use Rattle.tl_master.specs.Sources.{name_if}
use Rattle.tl_master.proofs.files.source_name.Goals as goal

-- texts that differ do so the other way round
differ_back : (a b : List ℕ) → bytes_eq a b ≡ false → bytes_eq b a ≡ false
differ_back a b differ = false_from_ne_true _ (λ same. true≢false (sym ((bytes_eq-Decides a b).1 (sym ((bytes_eq-Decides b a).0 same))) ∙ differ))

-- texts that are one are so the other way round
same_back : (a b : List ℕ) → bytes_eq a b ≡ true → bytes_eq b a ≡ true
same_back a b same = (bytes_eq-Decides b a).1 (sym ((bytes_eq-Decides a b).0 same))

pub returns-in-None : goal.returns-in-None
returns-in-None c =
    let path = c.args.path.now in
    let file = c.in-Some.file.now in
    let front : starts_with nat_eq path source_front ≡ true = same_back (take 13 path) source_front c.in-Some.ensures.cases.0 in
    let back : ends_with nat_eq file source_end ≡ false = differ_back (drop (length file - 7) file) source_end c.in-None.ensures.cases in
    sym (ap (λ b. option_and_then name_if (option_and_then (before_back source_end) (cond b (Some (drop 13 path)) None))) front
    ∙ ap (λ (l : List ℕ). option_and_then name_if (before_back source_end l)) (sym c.in-Some.ensures.cases.1)
    ∙ ap (λ b. option_and_then name_if (cond b (Some (take (length file - 7) file)) None)) back)
