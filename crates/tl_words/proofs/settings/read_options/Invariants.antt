use Rattle.std.proofs.Common.{◌≡◌, ◌++◌, [], None}
use Rattle.tl_words.specs.Settings.{options_fault, repositories_of, workers_of, user_of, tags_in}
use Rattle.tl_words.specs.Inside.{parts_left}
use Rattle.tl_words.proofs.settings.read_options.Given as goal

abbrev pub invariant-loop-part : goal.invariant-loop-part
invariant-loop-part l = record {
  can : (goal.iterator-loop-part).can_next l.part-iterator;
  ends : (goal.iterator-loop-part).is_finite l.part-iterator;
  same : options_fault [] (parts_left l.fn.parts) ≡ options_fault (tags_in l.settings.repositories.items) (parts_left l.part-iterator);
  repositories : repositories_of (parts_left l.fn.parts) ≡ l.settings.repositories.items ++ repositories_of (parts_left l.part-iterator);
  workers : workers_of 4 (parts_left l.fn.parts) ≡ workers_of l.settings.workers (parts_left l.part-iterator);
  user : user_of None (parts_left l.fn.parts) ≡ user_of l.settings.user (parts_left l.part-iterator);
}
