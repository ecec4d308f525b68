-- What a session is seen as.
use Rattle.tl_model.specs.Seen.{Seen}
use Rattle.tl_command.specs.declared.session.Held.{Held}
use Rattle.tl_command.specs.declared.session.Held.TheVariants.{Rest, Loaded}

-- the host of what a session holds
abbrev pub seen_held : {H : Type 0} → Held H → Seen
seen_held (Rest journal) = journal
seen_held (Loaded tree) = tree.seen
