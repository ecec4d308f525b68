use Rattle.std.proofs.Common.{◌≡◌, ◌∙◌, sym, ap, subst, rules, List, ℕ, Result, Ok, Err, Vec}
use Rattle.std.specs.declared.alloc.Global.{Global}
use Rattle.tl_db.specs.declared.repo.Repo.{Repo}
use Rattle.tl_repo.specs.Faults.{Gives}
use Rattle.tl_repo.specs.Files.{volume_of}
use Rattle.tl_repo.specs.Loading.{entries_under, repo_of}
use Rattle.tl_repo.specs.declared.error.RepoError.{RepoError}
use Rattle.tl_repo.proofs.LoadLemmas.{text_given, want_given, load-text, load-want, load-entries, load-whole}
use Rattle.tl_repo.proofs.loading.load.Goals as goal

pub returns-in_err-text-clause-repo : goal.returns-in_err-text-clause-repo
returns-in_err-text-clause-repo g c t =
    let s = g.S.Shelf.seen c.args.shelf.now in
    let volume = volume_of s.repositories c.args.number in
    let error = c.in_err-text.field-0.0 in
    let is : c.from_residual-in_err-text.result ≡ Err c.in_err-text.field-0.0 = search rules in
    subst (λ (r : Result Repo RepoError). Gives (λ (r : Repo). r) r (repo_of c.args.number c.args.tag.now volume)) (sym is)
    (load-text (λ (v : Vec ℕ Global). v.items) c.args.number c.args.tag.now volume error
    (text_given (λ (v : Vec ℕ Global). v.items) (Err error) s c.args.number c.in_ok-name.name (c.in_ok-name.ensures ∙ c.known.ensures) (c.in_err-text.ensures.bytes t)))

pub returns-in_err-want-clause-repo : goal.returns-in_err-want-clause-repo
returns-in_err-want-clause-repo g c t =
    let s = g.S.Shelf.seen c.args.shelf.now in
    let volume = volume_of s.repositories c.args.number in
    let error = c.in_err-want.field-0.0 in
    let is : c.from_residual-in_err-want.result ≡ Err c.in_err-want.field-0.0 = search rules in
    let read = text_given (λ (v : Vec ℕ Global). v.items) (Ok c.in_ok-text.text) s c.args.number c.in_ok-name.name (c.in_ok-name.ensures ∙ c.known.ensures) (c.in_ok-text.ensures.bytes t) in
    subst (λ (r : Result Repo RepoError). Gives (λ (r : Repo). r) r (repo_of c.args.number c.args.tag.now volume)) (sym is)
    (load-want c.args.number c.args.tag.now volume c.in_ok-text.text.items read error
    (want_given (Err error) s.repositories (g.S.Shelf.seen c.read_file.new.shelf) c.args.number c.read_file.ensures.same.repositories (c.in_err-want.ensures.digest t)))

pub returns-in_err-db-clause-repo : goal.returns-in_err-db-clause-repo
returns-in_err-db-clause-repo g c t =
    let s = g.S.Shelf.seen c.args.shelf.now in
    let volume = volume_of s.repositories c.args.number in
    let error = c.in_err-db.field-0.0 in
    let is : c.from_residual-in_err-db.result ≡ Err c.in_err-db.field-0.0 = search rules in
    let read = text_given (λ (v : Vec ℕ Global). v.items) (Ok c.in_ok-text.text) s c.args.number c.in_ok-name.name (c.in_ok-name.ensures ∙ c.known.ensures) (c.in_ok-text.ensures.bytes t) in
    let stated = want_given (Ok c.in_ok-want.want) s.repositories (g.S.Shelf.seen c.read_file.new.shelf) c.args.number c.read_file.ensures.same.repositories (c.in_ok-want.ensures.digest t) in
    subst (λ (r : Result Repo RepoError). Gives (λ (r : Repo). r) r (repo_of c.args.number c.args.tag.now volume)) (sym is)
    (load-entries c.args.number c.args.tag.now volume c.in_ok-text.text.items read c.in_ok-want.want stated error
    (subst (λ (l : List ℕ). Gives (λ d. d) (Err error) (entries_under c.in_ok-want.want l)) c.as_slice.ensures.value c.in_err-db.ensures.entries))

pub returns-clause-repo : goal.returns-clause-repo
returns-clause-repo g c t =
    let s = g.S.Shelf.seen c.args.shelf.now in
    let volume = volume_of s.repositories c.args.number in
    let read = text_given (λ (v : Vec ℕ Global). v.items) (Ok c.in_ok-text.text) s c.args.number c.in_ok-name.name (c.in_ok-name.ensures ∙ c.known.ensures) (c.in_ok-text.ensures.bytes t) in
    let stated = want_given (Ok c.in_ok-want.want) s.repositories (g.S.Shelf.seen c.read_file.new.shelf) c.args.number c.read_file.ensures.same.repositories (c.in_ok-want.ensures.digest t) in
    let same : c.in_ok-tag.tag ≡ c.args.tag.now = search rules in
    load-whole c.args.number c.args.tag.now volume c.in_ok-text.text.items read c.in_ok-want.want stated c.in_ok-db.db
    (subst (λ (l : List ℕ). entries_under c.in_ok-want.want l ≡ Ok c.in_ok-db.db) c.as_slice.ensures.value c.in_ok-db.ensures.entries)
    ∙ ap (λ (l : List ℕ). Ok (record { number = c.args.number; tag = l; db = c.in_ok-db.db })) (sym same)
