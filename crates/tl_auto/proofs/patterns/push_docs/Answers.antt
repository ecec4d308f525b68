use Rattle.std.proofs.Common.{◌≡◌, Err, map, rules}
use Rattle.tl_pattern.specs.declared.kind.PatternKind.TheVariants.{F, T}
use Rattle.tl_auto.specs.Wanted.{automatic, doc_texts, manual_texts}
use Rattle.tl_auto.proofs.JudgeLemmas.{pushes_on, pushes_cut}
use Rattle.tl_auto.proofs.patterns.push_docs.Goals as goal

pub returns-in_err-push_folder_of_docs : goal.returns-in_err-push_folder_of_docs
returns-in_err-push_folder_of_docs c =
    let is : c.from_residual.result ≡ Err c.in_err-push_folder_of_docs.field-0.0 = search rules in
    rw is (pushes_cut c.args.setting.now (map (automatic T) doc_texts) (map (automatic F) manual_texts) c.args.patterns.now.items _ _ c.args.regexps.now c.push_folder_of_docs.new.regexps
    c.in_err-push_folder_of_docs.field-0.0 c.in_err-push_folder_of_docs.ensures)

pub returns : goal.returns
returns c = pushes_on c.args.setting.now (map (automatic T) doc_texts) (map (automatic F) manual_texts) c.args.patterns.now.items _ _ c.args.regexps.now c.push_folder_of_docs.new.regexps _
    c.in_ok-push_folder_of_docs.field-0 _ c.in_ok-push_folder_of_docs.ensures c.push_manual.ensures
