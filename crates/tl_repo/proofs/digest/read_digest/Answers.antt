use Rattle.std.proofs.Common.{◌≡◌, ◌∙◌, sym, ap, subst, rules, List, ℕ, Option, Result, false, length, take, []}
use Rattle.std.specs.Option.{option_map, unwrap_or, is_none, ok_or}
use Rattle.tl_model.specs.Devices.{in_repository}
use Rattle.tl_model.specs.Volume.{Name, Volume}
use Rattle.tl_repo.specs.Faults.{Gives}
use Rattle.tl_repo.specs.Files.{digest_name, digest_stated}
use Rattle.tl_repo.specs.declared.error.RepoError.{RepoError}
use Rattle.tl_repo.specs.declared.error.RepoError.TheVariants as errors
use Rattle.tl_repo.proofs.DigestLemmas.{digest_read}
use Rattle.tl_repo.proofs.digest.read_digest.Goals as goal

pub returns-clause-digest : goal.returns-clause-digest
returns-clause-digest g c t =
    let s = g.S.Shelf.seen in
    let held = in_repository (s c.args.shelf.now) c.args.number digest_name in
    let named : c.in_ok-name.name ≡ digest_name = c.in_ok-name.ensures ∙ c.known.ensures in
    let size_is : c.in_ok-size.field-0 ≡ option_map length held =
    subst (λ (n : Name). c.in_ok-size.field-0 ≡ option_map length (in_repository (s c.args.shelf.now) c.args.number n)) named (c.in_ok-size.ensures.length t) in
    let there : is_none c.in_ok-size.field-0 ≡ false = search rules in
    let wide : length c.read.new.into ≡ 129 = search rules in
    let F : List Volume → Name → List ℕ = λ vs n. take 129 (unwrap_or (in_repository (record (s c.args.shelf.now) { repositories = vs }) c.args.number n) []) in
    let front_is : take c.in_ok-count.count c.read.new.into ≡ take 129 (unwrap_or held []) =
    c.in_ok-count.ensures.bytes t
    ∙ ap (λ (n : ℕ). take n (unwrap_or (in_repository (s c.size.new.self) c.args.number c.in_ok-name.name) [])) wide
    ∙ ap (λ (vs : List Volume). F vs c.in_ok-name.name) c.size.ensures.same.repositories
    ∙ ap (λ (n : Name). F (s c.args.shelf.now).repositories n) named in
    subst (λ (r : Result (List ℕ) RepoError). Gives (λ d. d) r (digest_stated held)) (sym (c.ok_or.ensures.value ∙ ap (λ (o : Option (List ℕ)). ok_or o errors.BadDigestLine) c.digest_in.ensures))
    (digest_read held c.in_ok-size.field-0 (take c.in_ok-count.count c.read.new.into) size_is there front_is)
