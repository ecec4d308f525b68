use Rattle.std.proofs.Common.{false, sym, subst, List}
use Rattle.tl_words.specs.Parts.{Part}
use Rattle.tl_action.specs.Texts.{texts}
use Rattle.tl_words.specs.Inside.{parts_left}
use Rattle.tl_words.specs.Places.{AreWithin}
use Rattle.tl_words.proofs.Named.{read_on}
use Rattle.tl_words.proofs.Places.{program-within, read_few}
use Rattle.tl_words.proofs.read.read_words.Goals as goal

pub command-requires : goal.command-requires
command-requires c = subst (λ (all : List Part). AreWithin (texts c.args.words.now) all) (sym c.of_program.ensures) (program-within (texts c.args.words.now))

pub returns-in-Ok-clause-on : goal.returns-in-Ok-clause-on
returns-in-Ok-clause-on c = read_on c.args.on.now _ c.command.result c.command.ensures.command

pub returns-in-Ok-clause-count : goal.returns-in-Ok-clause-count
returns-in-Ok-clause-count c = read_few c.args.on.now false c.args.words.now (parts_left c.of_program.result) c.command.result c.command.ensures.none
