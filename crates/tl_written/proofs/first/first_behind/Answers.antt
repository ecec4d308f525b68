use Rattle.std.proofs.Common.{◌∙◌, sym}
use Rattle.tl_written.proofs.FirstLemmas.{first-stands, first-cut, line_of_name, no_name, from_category, from_revision, from_catalogue, from_shortdesc, from_relocated, behind_catalogue, behind_shortdesc, behind_first}
use Rattle.tl_written.proofs.first.first_behind.Goals as goal

pub returns-in_err-name-clause-finds : goal.returns-in_err-name-clause-finds
returns-in_err-name-clause-finds c = λ o rest formed lacks same.
    absurd (c.in_err-name.ensures.finds o.name (from_category o rest) (line_of_name o.name formed.name) (first-cut o c.args.text.now rest same))

pub returns-then-not-is_name-clause-finds : goal.returns-then-not-is_name-clause-finds
returns-then-not-is_name-clause-finds c = λ o rest formed lacks same.
    let named = c.in_ok-name.ensures.finds o.name (from_category o rest) (line_of_name o.name formed.name) (first-cut o c.args.text.now rest same) in
    no_name c.in_ok-name.name.now o.name named.0 formed.name (sym c.is_name.ensures ∙ c.if-not-is_name.true)

pub returns-in_err-rest-clause-finds : goal.returns-in_err-rest-clause-finds
returns-in_err-rest-clause-finds c = λ o rest formed lacks same.
    let named = c.in_ok-name.ensures.finds o.name (from_category o rest) (line_of_name o.name formed.name) (first-cut o c.args.text.now rest same) in
    absurd (c.in_err-rest.ensures.finds o.category (from_revision o rest) tt tt named.1)

pub returns-in_err-rest-2-clause-finds : goal.returns-in_err-rest-2-clause-finds
returns-in_err-rest-2-clause-finds c = λ o rest formed lacks same.
    let named = c.in_ok-name.ensures.finds o.name (from_category o rest) (line_of_name o.name formed.name) (first-cut o c.args.text.now rest same) in
    let category = c.in_ok-rest.ensures.finds o.category (from_revision o rest) tt tt named.1 in
    absurd (c.in_err-rest-2.ensures.finds o.revision (from_catalogue o rest) formed.revision tt category)

pub returns-in_err-rest-3-clause-finds : goal.returns-in_err-rest-3-clause-finds
returns-in_err-rest-3-clause-finds c = λ o rest formed lacks same.
    let named = c.in_ok-name.ensures.finds o.name (from_category o rest) (line_of_name o.name formed.name) (first-cut o c.args.text.now rest same) in
    let category = c.in_ok-rest.ensures.finds o.category (from_revision o rest) tt tt named.1 in
    let revision = c.in_ok-rest-2.ensures.finds o.revision (from_catalogue o rest) formed.revision tt category in
    absurd (c.in_err-rest-3.ensures.finds o.catalogue (from_shortdesc o rest) formed.catalogue (behind_catalogue o rest lacks) revision)

pub returns-in_err-rest-4-clause-finds : goal.returns-in_err-rest-4-clause-finds
returns-in_err-rest-4-clause-finds c = λ o rest formed lacks same.
    let named = c.in_ok-name.ensures.finds o.name (from_category o rest) (line_of_name o.name formed.name) (first-cut o c.args.text.now rest same) in
    let category = c.in_ok-rest.ensures.finds o.category (from_revision o rest) tt tt named.1 in
    let revision = c.in_ok-rest-2.ensures.finds o.revision (from_catalogue o rest) formed.revision tt category in
    let catalogue = c.in_ok-rest-3.ensures.finds o.catalogue (from_shortdesc o rest) formed.catalogue (behind_catalogue o rest lacks) revision in
    absurd (c.in_err-rest-4.ensures.finds o.shortdesc (from_relocated o rest) formed.shortdesc (behind_shortdesc o rest lacks) catalogue)

pub returns-clause-stands : goal.returns-clause-stands
returns-clause-stands c =
    first-stands c.in_ok-name.name.now c.args.text.now c.in_ok-name.rest.now c.in_ok-rest.rest.now c.in_ok-rest-2.rest.now c.in_ok-rest-3.rest.now c.in_ok-rest-4.rest.now c.relocated_behind.result.now
    (sym c.is_name.ensures ∙ c.if-not-is_name.false) c.in_ok-name.ensures.stands.1 c.in_ok-name.ensures.stands.0
    c.in_ok-rest.ensures.stands c.in_ok-rest-2.ensures.stands c.in_ok-rest-3.ensures.stands c.in_ok-rest-4.ensures.stands c.relocated_behind.ensures.stands

pub returns-clause-finds : goal.returns-clause-finds
returns-clause-finds c = λ o rest formed lacks same.
    let named = c.in_ok-name.ensures.finds o.name (from_category o rest) (line_of_name o.name formed.name) (first-cut o c.args.text.now rest same) in
    let category = c.in_ok-rest.ensures.finds o.category (from_revision o rest) tt tt named.1 in
    let revision = c.in_ok-rest-2.ensures.finds o.revision (from_catalogue o rest) formed.revision tt category in
    let catalogue = c.in_ok-rest-3.ensures.finds o.catalogue (from_shortdesc o rest) formed.catalogue (behind_catalogue o rest lacks) revision in
    let shortdesc = c.in_ok-rest-4.ensures.finds o.shortdesc (from_relocated o rest) formed.shortdesc (behind_shortdesc o rest lacks) catalogue in
    (named.0, c.relocated_behind.ensures.finds o.relocated rest (behind_first rest lacks) shortdesc)
