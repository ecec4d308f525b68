use Rattle.std.proofs.Common.{◌≡◌, ◌∙◌, [], List, ap, sym, append-nil}
use Rattle.std.proofs.lemmas.List.{map-id}
use Rattle.std.proofs.lemmas.Iterator.Adapters.{YieldsList-from_vec}
use Rattle.std.proofs.lemmas.Iterator.Consumers.{YieldsList-end}
use Rattle.tl_model.specs.Volume.{Name}
use Rattle.tl_master.specs.Listing.{merged}
use Rattle.tl_master.proofs.listing.merged.Goals as goal

pub returns : goal.returns
returns c =
    let given = c.into_iter-path-iterator.ensures.into_iter_gives in
    let end = YieldsList-end (YieldsList-from_vec {s = c.into_iter-path-iterator.result} c.args.names.items given.0 (given.1 ∙ c.args.names.ok.0))
    c.loop-path.yielded c.loop-path.path-iterator c.loop-path.yielded_by c.next.result c.next.new.self c.in-None.is c.next.ensures.steps in
    let whole : c.loop-path.yielded ≡ c.args.names.items = sym (map-id c.loop-path.yielded) ∙ end.0 in
    c.in_ok-push_gone-2.ensures ∙ sym (c.loop-path.invariant []) ∙ ap (λ (l : List Name). merged l c.args.marks.now) (append-nil c.loop-path.yielded ∙ whole)
