use Rattle.std.proofs.Common.{◌≡◌, Err, rules}
use Rattle.tl_master.specs.Masters.{Master, listing_in, master_with}
use Rattle.tl_master.proofs.Finding.{asks_finds, finds_cut, finds_then}
use Rattle.tl_master.proofs.loading.master_behind.Goals as goal

pub returns-in_err-listing : goal.returns-in_err-listing
returns-in_err-listing g c =
    let is : c.from_residual.result ≡ Err c.in_err-listing.field-0.0 = search rules in
    rw is
    (finds_cut g.H.Host.tells (λ listing. listing.items) (λ (m : Master). m) (λ verdicts t. listing_in t c.args.marks.now) (λ verdicts t. master_with verdicts t c.args.marks.now) c.args.tree.now c.listing_in.new.tree
    c.args.regexps.now c.args.regexps.now c.in_err-listing.field-0.0
    (asks_finds g.H.Host.tells (λ listing. listing.items) (λ t. listing_in t c.args.marks.now) c.args.tree.now c.listing_in.new.tree c.args.regexps.now (Err c.in_err-listing.field-0.0) c.in_err-listing.ensures))

pub returns : goal.returns
returns g c =
    finds_then g.H.Host.tells (λ listing. listing.items) (λ (m : Master). m) (λ verdicts t. listing_in t c.args.marks.now) (λ verdicts t. master_with verdicts t c.args.marks.now) c.args.tree.now c.listing_in.new.tree c.master_with.new.tree
    c.args.regexps.now c.args.regexps.now c.master_with.new.regexps c.in_ok-listing.listing c.master_with.result
    (asks_finds g.H.Host.tells (λ listing. listing.items) (λ t. listing_in t c.args.marks.now) c.args.tree.now c.listing_in.new.tree c.args.regexps.now _ c.in_ok-listing.ensures) c.master_with.ensures
