use Rattle.std.proofs.Common.{◌≡◌, ◌∙◌, List, ℕ, true, Err, sym, ap, subst, bytes_eq, rules}
use Rattle.sha2.specs.Sha512.{sha512}
use Rattle.tl_frame.specs.Answers.{IsFrameErrorOf}
use Rattle.tl_frame.proofs.PlaceLaws.{finished_error}
use Rattle.tl_fetch.specs.declared.fetch_error.FetchError.TheVariants.{FrameEntry}
use Rattle.tl_fetch.proofs.FrameLemmas.{under_bad, under_whole, under_other}
use Rattle.tl_fetch.proofs.intake.Intake.finish.Goals as goal

pub returns-in-Err-BadFrame-clause-gave : goal.returns-in-Err-BadFrame-clause-gave
returns-in-Err-BadFrame-clause-gave c tells part first now bytes small took =
    let got : c.finalize-got.result ≡ sha512 bytes = c.finalize-got.ensures bytes took.holds in
    let same : bytes_eq c.finalize-got.result c.args.want ≡ true = search rules in
    let digest : bytes_eq (sha512 bytes) c.args.want ≡ true = subst (λ (l : List ℕ). bytes_eq l c.args.want ≡ true) got same in
    let error = subst (IsFrameErrorOf bytes) c.in-Err-BadFrame.field-0-is (finished_error _ bytes c.in-Err-BadFrame.field-0 small (sym (c.in-Err-BadFrame.ensures.answer bytes took.fed))) in
    under_bad c.args.name c.args.want c.args.entry.now part bytes digest c.in-Err-BadFrame.at error

pub returns-then-not-is_whole-clause-gave : goal.returns-then-not-is_whole-clause-gave
returns-then-not-is_whole-clause-gave c tells part first now bytes small took =
    let got : c.finalize-got.result ≡ sha512 bytes = c.finalize-got.ensures bytes took.holds in
    let same : bytes_eq c.finalize-got.result c.args.want ≡ true = search rules in
    let digest : bytes_eq (sha512 bytes) c.args.want ≡ true = subst (λ (l : List ℕ). bytes_eq l c.args.want ≡ true) got same in
    let named : c.in_ok-name.name ≡ c.args.entry.now.name = search rules in
    under_other c.args.name c.args.want c.args.entry.now part bytes digest tells first now c.args.self.unpacking (c.in-Ok.ensures.whole bytes took.fed) took.follows (sym c.is_whole.ensures ∙ c.if-not-is_whole.true)
    ∙ ap (λ (n : List ℕ). Err (FrameEntry n)) (sym named)

pub returns-clause-gave : goal.returns-clause-gave
returns-clause-gave c tells part first now bytes small took =
    let got : c.finalize-got.result ≡ sha512 bytes = c.finalize-got.ensures bytes took.holds in
    let same : bytes_eq c.finalize-got.result c.args.want ≡ true = search rules in
    let digest : bytes_eq (sha512 bytes) c.args.want ≡ true = subst (λ (l : List ℕ). bytes_eq l c.args.want ≡ true) got same in
    under_whole c.args.name c.args.want c.args.entry.now part bytes digest tells first now c.args.self.unpacking (c.in-Ok.ensures.whole bytes took.fed) took.follows (sym c.is_whole.ensures ∙ c.if-not-is_whole.false)
