use Rattle.std.proofs.Common.{◌≡◌, arith, sym, ap, ◌∙◌, List, ℕ, true, false}
use Rattle.tl_object.specs.Content.{content}
use Rattle.tl_entry.specs.Rising.{has_key}
use Rattle.tl_db.specs.Reading.{db_of}
use Rattle.tl_db.proofs.DbLemmas.{name, absent, db-more, db-name_fails, db-repeated, db-entry_fails}
use Rattle.tl_db.proofs.read.read_all.Goals as goal

pub returns-in-Err : goal.returns-in-Err
returns-in-Err c =
    db-name_fails c.in-Err.fault (db_of c.args.text.now) c.loop-before.objects (content c.loop-before.number c.loop-before.rest.now) (content c.in-Some.before c.in-Some.start.now)
    c.loop-before.invariant.same c.in-Some.ensures.same c.in-Some.ensures.full c.in-Err.ensures.fault

pub returns-then-has : goal.returns-then-has
returns-then-has c =
    let there : has_key name c.in-Ok.named.name c.loop-before.objects ≡ true = ap (λ (n : List ℕ). has_key name n c.loop-before.objects) (sym c.bytes.ensures.bytes) ∙ sym c.has.ensures ∙ c.if-has.true in
    db-repeated (db_of c.args.text.now) c.loop-before.objects (content c.loop-before.number c.loop-before.rest.now) (content c.in-Some.before c.in-Some.start.now) c.in-Ok.named.line c.in-Ok.named.name
    c.loop-before.invariant.same c.in-Some.ensures.same c.in-Some.ensures.full c.in-Ok.ensures.name there

pub returns-in-Err-read_entry : goal.returns-in-Err-read_entry
returns-in-Err-read_entry c =
    let none : has_key name c.in-Ok.named.name c.loop-before.objects ≡ false = ap (λ (n : List ℕ). has_key name n c.loop-before.objects) (sym c.bytes.ensures.bytes) ∙ sym c.has.ensures ∙ c.if-has.false in
    db-entry_fails c.in-Err-read_entry.fault (db_of c.args.text.now) c.loop-before.objects (content c.loop-before.number c.loop-before.rest.now) (content c.in-Some.before c.in-Some.start.now) c.in-Ok.named.line c.in-Ok.named.name
    c.loop-before.invariant.same c.in-Some.ensures.same c.in-Some.ensures.full c.in-Ok.ensures.name none c.in-Err-read_entry.ensures.fault

pub put-requires : goal.put-requires
put-requires c =
    let none : has_key name c.in-Ok.named.name c.loop-before.objects ≡ false = ap (λ (n : List ℕ). has_key name n c.loop-before.objects) (sym c.bytes.ensures.bytes) ∙ sym c.has.ensures ∙ c.if-has.false in
    let found = c.in-Ok-read_entry.ensures.name in
    absent c.loop-before.objects (Rattle.tl_object.specs.Content.front (content c.in-Some.before c.in-Some.start.now)) c.in-Ok.named.line found.0 c.in-Ok.named.name c.in-Ok-read_entry.entry.object none c.in-Ok.ensures.name found.1

pub loop-before-preserved : goal.loop-before-preserved
loop-before-preserved c =
    let none : has_key name c.in-Ok.named.name c.loop-before.objects ≡ false = ap (λ (n : List ℕ). has_key name n c.loop-before.objects) (sym c.bytes.ensures.bytes) ∙ sym c.has.ensures ∙ c.if-has.false in
    let entry = c.in-Ok-read_entry.entry in let read = c.in-Ok-read_entry.ensures in
    record {
      same = db-more (db_of c.args.text.now) c.loop-before.objects (content c.loop-before.number c.loop-before.rest.now) (content c.in-Some.before c.in-Some.start.now) (content entry.number entry.rest.now)
          c.in-Ok.named.line c.in-Ok.named.name entry.object c.put.new.self
          c.loop-before.invariant.same c.in-Some.ensures.same c.in-Some.ensures.full c.in-Ok.ensures.name none read.object read.left read.ended c.in_ok-put.ensures.ok;
      fits = omega (arith, c.loop-before.invariant.fits, c.in-Some.ensures.fits, read.fits);
    }
