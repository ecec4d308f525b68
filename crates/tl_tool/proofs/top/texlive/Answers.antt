use Rattle.std.proofs.Common.{refl, sym, subst, arith}
use Rattle.tl_model.specs.Joins.{trace_start}
use Rattle.tl_journal_text.specs.Stand.{stand}
use Rattle.tl_action.specs.Texts.{texts}
use Rattle.tl_words.specs.declared.error.WordsError.{WordsError}
use Rattle.tl_words.specs.Errors.{IsErrorOf}
use Rattle.tl_auto.proofs.VerdictLemmas.{keeps_same}
use Rattle.tl_command.specs.declared.ending.Ending.TheVariants.{NoMemory}
use Rattle.tl_command.specs.Runs.{Run}
use Rattle.tl_command.specs.Whole.{OnlySays, Runs}
use Rattle.tl_command.proofs.Joins.{nothing_paused}
use Rattle.tl_command.proofs.Wholes.{runs_made, only_nothing}
use Rattle.tl_tool.specs.Commands.{program_fault, run_of, run_without}
use Rattle.tl_tool.specs.Outsides.{outside_of}
use Rattle.tl_tool.proofs.Commands.{run_of-command, run_without-command, run_of-fault, run_without-fault, command_at-read, tells-host, tells-command}
use Rattle.tl_tool.proofs.Acts.{answers-no_memory, caused-beside}
use Rattle.tl_tool.proofs.Labelled.{labelled-run}
use Rattle.tl_tool.proofs.top.texlive.Goals as goal

pub returns-in-Ok-clause-run : goal.returns-in-Ok-clause-run
returns-in-Ok-clause-run g c t tree stood =
    let words = texts c.args.words.now in
    let outside = outside_of (g.S.Shelf.seen c.args.shelf.now) (g.I.Source.seen c.args.input.now) c.start.new.regexps in
    let command = c.in-Ok.command in
    let read = c.in-Ok.ensures in
    subst (λ (r : Run). Runs r c.start.result.0 (g.H.Host.seen c.args.host) (g.H.Host.seen c.start.result.1) tree)
    (sym (run_of-command words command outside tree read.none (command_at-read words command read.root read.command)))
    (c.start.ensures.run outside g.I.Source.tells refl (keeps_same c.start.new.regexps.verdicts) (tells-command words command g.S.Shelf.tells g.I.Source.tells g.H.Host.tells read.none (command_at-read words command read.root read.command) t) tree stood)

pub returns-in-Ok-clause-shut : goal.returns-in-Ok-clause-shut
returns-in-Ok-clause-shut g c t some none carried =
    let read = c.in-Ok.ensures in
    let words = texts c.args.words.now in
    let command = c.in-Ok.command in
    c.start.ensures.shut g.I.Source.tells (tells-command words command g.S.Shelf.tells g.I.Source.tells g.H.Host.tells read.none (command_at-read words command read.root read.command) t) some carried

pub returns-in-Ok-clause-cause : goal.returns-in-Ok-clause-cause
returns-in-Ok-clause-cause g c = caused-beside c.start.result.0 (g.H.Host.seen c.args.host) (g.H.Host.seen c.start.result.1) (g.S.Shelf.seen c.args.shelf.now) (g.S.Shelf.seen c.start.new.shelf)
    (g.I.Source.seen c.args.input.now) (g.I.Source.seen c.args.input.now) c.start.ensures.cause

pub returns-in-Ok-clause-labels : goal.returns-in-Ok-clause-labels
returns-in-Ok-clause-labels g c outside tree = labelled-run (texts c.args.words.now) outside tree

pub returns-in-Ok-clause-without : goal.returns-in-Ok-clause-without
returns-in-Ok-clause-without g c t none =
    let first = g.H.Host.seen c.args.host in
    subst (λ (r : Run). OnlySays r c.start.result.0 first (g.H.Host.seen c.start.result.1))
    (sym (run_without-command (texts c.args.words.now) first.present.held c.in-Ok.ensures.none)) (c.start.ensures.without t none)

pub returns-in-Err-BadWords-clause-run : goal.returns-in-Err-BadWords-clause-run
returns-in-Err-BadWords-clause-run g c t tree stood =
    let words = texts c.args.words.now in
    let outside = outside_of (g.S.Shelf.seen c.args.shelf.now) (g.I.Source.seen c.args.input.now) c.args.regexps.now in
    let found = c.in-Err-BadWords in
    let fault = subst (λ (e : WordsError). IsErrorOf (program_fault words) e) found.field-0-is found.ensures.fault in
    subst (λ (r : Run). Runs r c.refuse_at_once.result.0 (g.H.Host.seen c.args.host) (g.H.Host.seen c.refuse_at_once.result.1) tree) (sym (run_of-fault words _ outside tree fault))
    (c.refuse_at_once.ensures.run (tells-host words g.S.Shelf.tells g.I.Source.tells g.H.Host.tells t) tree stood)

pub returns-in-Err-BadWords-clause-labels : goal.returns-in-Err-BadWords-clause-labels
returns-in-Err-BadWords-clause-labels g c outside tree = labelled-run (texts c.args.words.now) outside tree

pub returns-in-Err-BadWords-clause-without : goal.returns-in-Err-BadWords-clause-without
returns-in-Err-BadWords-clause-without g c t none =
    let words = texts c.args.words.now in
    let first = g.H.Host.seen c.args.host in
    let found = c.in-Err-BadWords in
    let fault = subst (λ (e : WordsError). IsErrorOf (program_fault words) e) found.field-0-is found.ensures.fault in
    subst (λ (r : Run). OnlySays r c.refuse_at_once.result.0 first (g.H.Host.seen c.refuse_at_once.result.1))
    (sym (run_without-fault words _ first.present.held fault)) (c.refuse_at_once.ensures.says t)

pub returns-in-Err-NoMemory-clause-run : goal.returns-in-Err-NoMemory-clause-run
returns-in-Err-NoMemory-clause-run g c t tree stood =
    let first = g.H.Host.seen c.args.host in
    let run = run_of (texts c.args.words.now) (outside_of (g.S.Shelf.seen c.args.shelf.now) (g.I.Source.seen c.args.input.now) c.args.regexps.now) tree in
    runs_made run NoMemory first first tree stood (nothing_paused first first tree run.events (trace_start stand first tree stood)) (omega arith)

pub returns-in-Err-NoMemory-clause-labels : goal.returns-in-Err-NoMemory-clause-labels
returns-in-Err-NoMemory-clause-labels g c outside tree = labelled-run (texts c.args.words.now) outside tree

pub returns-in-Err-NoMemory-clause-without : goal.returns-in-Err-NoMemory-clause-without
returns-in-Err-NoMemory-clause-without g c t none =
    let first = g.H.Host.seen c.args.host in
    only_nothing (run_without (texts c.args.words.now) first.present.held) first

pub returns-in-Err-NoMemory-clause-words : goal.returns-in-Err-NoMemory-clause-words
returns-in-Err-NoMemory-clause-words g c = answers-no_memory g.H.Host.tells (program_fault (texts c.args.words.now)) (g.H.Host.seen c.args.host)
