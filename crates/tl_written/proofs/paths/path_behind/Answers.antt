use Rattle.tl_object.proofs.PlainLemmas.{line_of_path}
use Rattle.tl_written.proofs.PathLemmas.{path_stands, path_front, path_cut, no_fault}
use Rattle.tl_written.proofs.paths.path_behind.Goals as goal

pub returns-in_err-behind-clause-finds : goal.returns-in_err-behind-clause-finds
returns-in_err-behind-clause-finds c = λ path rest is lacks same. absurd (c.in_err-behind.ensures.none _ (path_front path c.args.text.now rest same))

pub returns-in_err-path-clause-finds : goal.returns-in_err-path-clause-finds
returns-in_err-path-clause-finds c = λ path rest is lacks same.
    absurd (c.in_err-path.ensures.finds path rest (line_of_path path is) (path_cut path c.args.text.now c.in_ok-behind.field-0.now rest same c.in_ok-behind.ensures.stands))

pub returns-in-Ok-clause-stands : goal.returns-in-Ok-clause-stands
returns-in-Ok-clause-stands c =
    path_stands c.args.text.now c.in_ok-behind.field-0.now c.in_ok-path.path.now c.in_ok-path.rest.now c.in_ok-behind.ensures.stands c.in_ok-path.ensures.stands.0 c.in-Ok.ensures.path.1

pub returns-in-Ok-clause-finds : goal.returns-in-Ok-clause-finds
returns-in-Ok-clause-finds c = λ path rest is lacks same.
    c.in_ok-path.ensures.finds path rest (line_of_path path is) (path_cut path c.args.text.now c.in_ok-behind.field-0.now rest same c.in_ok-behind.ensures.stands)

pub returns-in-Err-clause-finds : goal.returns-in-Err-clause-finds
returns-in-Err-clause-finds c = λ path rest is lacks same.
    let cut = c.in_ok-path.ensures.finds path rest (line_of_path path is) (path_cut path c.args.text.now c.in_ok-behind.field-0.now rest same c.in_ok-behind.ensures.stands) in
    no_fault path c.in_ok-path.path.now _ is cut.0 c.in-Err.ensures.path
