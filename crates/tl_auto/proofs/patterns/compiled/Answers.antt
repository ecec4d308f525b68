use Rattle.std.proofs.Common.{◌≡◌, ◌++◌, ◌∙◌, ℕ, List, Vec, Some, ap, sym, subst, refl}
use Rattle.std.specs.declared.alloc.Global.{Global}
use Rattle.std.specs.Option.{option_map}
use Rattle.std.specs.Result.{MatchResult}
use Rattle.tl_auto.specs.Variables.{replaced}
use Rattle.tl_auto.specs.Wanted.{Wanted}
use Rattle.tl_auto.specs.Effective.{compiled}
use Rattle.tl_auto.specs.Pushing.{Judges}
use Rattle.tl_auto.proofs.CompileLemmas.{compiled_made, compiled_not}
use Rattle.tl_auto.proofs.patterns.compiled.Goals as goal

pub returns-in-Ok : goal.returns-in-Ok
returns-in-Ok c =
    let inside = c.wanted.inside in
    let w : Wanted = record { line = inside.line; positive = inside.positive; kind = inside.kind; text = inside.text.now; suffix = inside.suffix.now } in
    let same : w ≡ c.args.wanted.now = cc in
    let is : Some c.in-Some.text.items ≡ replaced c.args.setting.now w.text = ap (option_map (λ (m : Vec ℕ Global). m.items)) (sym c.in-Some.is) ∙ c.in_ok-text.ensures in
    let longer : c.deref.result.now ≡ c.in-Some.text.items ++ w.suffix = c.deref.ensures.value ∙ c.in_ok-extend_from_slice.ensures.items in
    rw (← same) (compiled_made c.args.setting.now w c.in-Some.text.items c.deref.result.now c.args.regexps.now c.compile.new.regexps c.in-Ok.pattern is longer c.in-Ok.ensures.kind c.in-Ok.ensures.text c.in-Ok.ensures.answer)

pub returns : goal.returns
returns c =
    let inside = c.wanted.inside in
    let w : Wanted = record { line = inside.line; positive = inside.positive; kind = inside.kind; text = inside.text.now; suffix = inside.suffix.now } in
    let same : w ≡ c.args.wanted.now = cc in
    let is : Some c.in-Some.text.items ≡ replaced c.args.setting.now w.text = ap (option_map (λ (m : Vec ℕ Global). m.items)) (sym c.in-Some.is) ∙ c.in_ok-text.ensures in
    let longer : c.deref.result.now ≡ c.in-Some.text.items ++ w.suffix = c.deref.ensures.value ∙ c.in_ok-extend_from_slice.ensures.items in
    rw (← same) (compiled_not c.args.setting.now w c.in-Some.text.items c.deref.result.now c.args.regexps.now c.compile.new.regexps c.in-Err.error c.fault_of.result is longer c.in-Err.ensures.answer c.fault_of.ensures)
