use Rattle.std.proofs.Common.{◌≡◌, List, Ok, Err, Vec, Global, ap, sym, rules}
use Rattle.tl_marks.specs.declared.marks.MarkedPath.{MarkedPath}
use Rattle.tl_master.specs.Listing.{merged, names_in}
use Rattle.tl_master.specs.Masters.{listing_in}
use Rattle.tl_master.specs.declared.error.MasterError.TheVariants.{NoMemory}
use Rattle.tl_master.proofs.Finding.{asks_cut, asks_known, asks_no_memory, asks_then}
use Rattle.tl_master.proofs.loading.listing_in.Goals as goal

pub returns-in_err-names : goal.returns-in_err-names
returns-in_err-names g c =
    let is : c.from_residual.result ≡ Err c.in_err-names.field-0.0 = search rules in
    rw is
    (asks_cut g.H.Host.tells (λ names. names.items) (λ listing. listing.items) names_in (λ t names. Ok (merged names c.args.marks.now.paths)) c.args.tree.now c.names.new.tree c.in_err-names.field-0.0 c.in_err-names.ensures)

pub returns-in_err-listing : goal.returns-in_err-listing
returns-in_err-listing g c =
    let is : c.from_residual-in_err-listing.result ≡ Err NoMemory = search rules in
    rw is (asks_no_memory g.H.Host.tells (λ (listing : Vec MarkedPath Global). listing.items) (λ t. listing_in t c.args.marks.now) c.args.tree.now c.names.new.tree c.in_ok-names.ensures.asked)

pub returns : goal.returns
returns g c =
    asks_then g.H.Host.tells (λ names. names.items) (λ listing. listing.items) names_in (λ t names. Ok (merged names c.args.marks.now.paths)) c.args.tree.now c.names.new.tree c.names.new.tree c.in_ok-names.names (Ok c.in_ok-listing.listing)
    c.in_ok-names.ensures
    (asks_known g.H.Host.tells (λ listing. listing.items) (λ t. Ok (merged c.in_ok-names.names.items c.args.marks.now.paths)) c.names.new.tree c.in_ok-listing.listing
    (λ told. ap (λ (l : List MarkedPath). Ok l) (sym (search rules))))
