use Rattle.std.proofs.Common.{◌≡◌, List, ℕ, get_or, ap, subst, sym, ◌∙◌, arith}
use Rattle.tl_action.specs.declared.command.Repository.{Repository}
use Rattle.tl_command.proofs.Joins.{performs_of}
use Rattle.tl_offer.specs.Offered.{EndsUnloaded, tag_at}
use Rattle.tl_offer.proofs.OfferLemmas.{performs_unpinned_offer, performs_offer_given_up, performs_unloaded, offer-loaded, tag-place}
use Rattle.tl_offer.proofs.offers.load_offer.Goals as goal

pub returns-in-Err-clause-acted : goal.returns-in-Err-clause-acted
returns-in-Err-clause-acted g c go =
    let s = g.S.Shelf.seen c.args.shelf.now in
    performs_unpinned_offer g.S.Shelf.tells g.H.Host.tells g.H.Host.seen c.args.repositories.now s.repositories s.faults s.faults c.in-Err.acted.ending c.in-Err.acted.state c.args.tree c.args.tree go c.in-Err.ensures.acted

pub returns-then-repositories-gt-MOST_REPOSITORIES-clause-acted : goal.returns-then-repositories-gt-MOST_REPOSITORIES-clause-acted
returns-then-repositories-gt-MOST_REPOSITORIES-clause-acted g c go =
    let s = g.S.Shelf.seen c.args.shelf.now in
    performs_offer_given_up g.S.Shelf.tells g.H.Host.tells g.H.Host.seen c.args.repositories.now s.repositories s.faults s.faults c.give_up.result.ending c.give_up.result.state c.args.tree c.in-Ok.read.1 c.in-Ok.read.0 go c.in-Ok.ensures.read
    (λ command. performs_of g.H.Host.tells g.H.Host.seen command c.of_tree.result c.in-Ok.read.1.seen c.give_up.result.ending c.give_up.result.state c.of_tree.ensures (c.give_up.ensures command))

pub returns-in-Ok-load_repos-clause-read : goal.returns-in-Ok-load_repos-clause-read
returns-in-Ok-load_repos-clause-read g c =
    offer-loaded g.S.Shelf.tells g.H.Host.tells c.args.repositories.now (g.S.Shelf.seen c.args.shelf.now).repositories c.args.tree c.in-Ok.read.1 c.in-Ok.read.0 c.in-Ok-load_repos.repos.items c.in-Ok.ensures.read
    (omega (arith, c.in-Ok-load_repos.ensures.count)) c.in-Ok-load_repos.ensures.read

pub returns-in-Err-load_repos-clause-acted : goal.returns-in-Err-load_repos-clause-acted
returns-in-Err-load_repos-clause-acted g c go =
    let s = g.S.Shelf.seen in
    let all = c.args.repositories.now in
    let at = c.in-Err-load_repos in
    let ending = c.end_unloaded.result.ending in
    let state = c.end_unloaded.result.state in
    let place : ℕ = at.field-0.place in
    let here = c.index-repositories-place in
    let tag : tag_at all place ≡ (get_or all place here.result).tag = tag-place all place here.result at.ensures.place here.is ∙ ap (λ (r : Repository). r.tag) here.is in
    performs_unloaded g.S.Shelf.tells g.H.Host.tells g.H.Host.seen all (s c.args.shelf.now).repositories (s c.args.shelf.now).faults (s c.load_repos.new.shelf).faults ending state c.args.tree c.in-Ok.read.1 c.in-Ok.read.0 go
    c.in-Ok.ensures.read place at.field-0.error at.ensures.read at.ensures.cause.failed
    (subst (λ (t : List ℕ). EndsUnloaded g.H.Host.tells g.H.Host.seen t at.field-0.error c.in-Ok.read.1.seen ending state) (sym tag) c.end_unloaded.ensures)
