use Rattle.std.proofs.Common.{◌≡◌, ◌∷◌, List, [], subst, rules}
use Rattle.tl_entry.specs.declared.object.Object.{Object}
use Rattle.tl_coming.specs.Lasts.{number_at}
use Rattle.tl_coming.proofs.LastLaws.{HasNoted, has_start, has_next, has_end}
use Rattle.tl_coming.proofs.lasts.Lasts.note_entries.Goals as goal

pub loop-entry-init : goal.loop-entry-init
loop-entry-init c noted are =
    let same : c.into_iter-entry-iterator.result.rest.now ≡ c.args.db.now = search rules in
    has_start noted (number_at c.args.numbers.now) c.args.db.now c.into_iter-entry-iterator.result.rest.now c.args.self.now same are

pub loop-entry-preserved : goal.loop-entry-preserved
loop-entry-preserved c noted are =
    let next : c.loop-entry.entry-iterator.rest.now ≡ c.in-Some.entry.now ∷ c.next.new.self.rest.now = search rules in
    has_next noted (number_at c.args.numbers.now) c.args.db.now c.in-Some.entry.now c.next.new.self.rest.now c.loop-entry.self c.note_entry.new.self
    (subst (λ (os : List Object). HasNoted noted (number_at c.args.numbers.now) c.args.db.now os c.loop-entry.self) next (c.loop-entry.invariant noted are)) c.in_ok-note_entry.ensures

pub returns : goal.returns
returns c noted are =
    let none : c.loop-entry.entry-iterator.rest.now ≡ [] = search rules in
    has_end noted (number_at c.args.numbers.now) c.args.db.now c.loop-entry.self
    (subst (λ (os : List Object). HasNoted noted (number_at c.args.numbers.now) c.args.db.now os c.loop-entry.self) none (c.loop-entry.invariant noted are))
