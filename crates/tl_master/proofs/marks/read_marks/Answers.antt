use Rattle.std.proofs.Common.{◌≤◌, ◌∙◌, ℕ, List, Option, Vec, Global, ap, sym, subst, length, vec_len}
use Rattle.std.specs.Prelude.{IfSome}
use Rattle.std.specs.Option.{option_map}
use Rattle.tl_model.specs.Volume.{at}
use Rattle.tl_model.specs.Lines.{lines}
use Rattle.tl_marks.specs.Reading.{IsFirstBad, IsMarksError, ReadsMarks}
use Rattle.tl_marks.specs.declared.marks.MarksError.{MarksError}
use Rattle.tl_backup.specs.Asked.{tree_in}
use Rattle.tl_backup.proofs.Making.{asked_of}
use Rattle.tl_master.specs.Marked.{marks_held, marks_or_fault}
use Rattle.tl_master.proofs.MarksLaws.{marks_bad, marks_read, marks_within}
use Rattle.tl_master.proofs.marks.read_marks.Goals as goal

pub returns-in-Ok : goal.returns-in-Ok
returns-in-Ok g c =
    let tree = tree_in c.args.tree.now in
    let text = c.in-Ok-Some.text.items in
    let few : length text ≤ 268435456 =
    subst (λ n. n ≤ 268435456) c.in-Ok-Some.text.ok.0 (subst (λ (o : Option (Vec ℕ Global)). IfSome o (λ v. vec_len v ≤ 268435456)) c.in-Ok-Some.field-0-is c.in-Ok-Some.ensures.within) in
    record {
      answered = λ told.
          ap marks_held (ap (at tree) (sym c.known-path.ensures) ∙ sym (c.in-Ok-Some.ensures.bytes told) ∙ ap (option_map (λ (v : Vec ℕ Global). v.items)) c.in-Ok-Some.field-0-is)
          ∙ marks_within text few
          ∙ ap marks_or_fault (marks_read text c.in-Ok.marks (subst (λ (t : List ℕ). ReadsMarks t c.in-Ok.marks) c.deref.ensures.value c.in-Ok.ensures));
      asked = asked_of g.H.Host.tells c.args.tree.now c.contents.new.self c.contents.ensures.same c.contents.ensures.db c.contents.ensures.cause.later;
      cause = tt;
      others = tt;
    }

pub returns-in-Err-BadMarks : goal.returns-in-Err-BadMarks
returns-in-Err-BadMarks g c =
    let tree = tree_in c.args.tree.now in
    let text = c.in-Ok-Some.text.items in
    let line = c.in-Err-BadMarks.line in
    let few : length text ≤ 268435456 =
    subst (λ n. n ≤ 268435456) c.in-Ok-Some.text.ok.0 (subst (λ (o : Option (Vec ℕ Global)). IfSome o (λ v. vec_len v ≤ 268435456)) c.in-Ok-Some.field-0-is c.in-Ok-Some.ensures.within) in
    let bad : IsFirstBad (lines text) line =
    subst (λ (t : List ℕ). IsFirstBad (lines t) line) c.deref.ensures.value (subst (λ (e : MarksError). IsMarksError c.deref.result.now e) c.in-Err-BadMarks.field-0-is c.in-Err-BadMarks.ensures) in
    record {
      answered = λ told.
          ap marks_held (ap (at tree) (sym c.known-path.ensures) ∙ sym (c.in-Ok-Some.ensures.bytes told) ∙ ap (option_map (λ (v : Vec ℕ Global). v.items)) c.in-Ok-Some.field-0-is)
          ∙ marks_within text few
          ∙ ap marks_or_fault (marks_bad text line bad);
      asked = asked_of g.H.Host.tells c.args.tree.now c.contents.new.self c.contents.ensures.same c.contents.ensures.db c.contents.ensures.cause.later;
      cause = λ is. absurd (cc);
      others = λ is. is;
    }
