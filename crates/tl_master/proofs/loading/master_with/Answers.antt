use Rattle.std.proofs.Common.{◌≡◌, ℕ, List, Ok, Err, Vec, Global, subst, sym, rules}
use Rattle.tl_marks.specs.declared.marks.MarkedPath.{MarkedPath}
use Rattle.tl_master.specs.Answers.{Answers, Finds}
use Rattle.tl_master.specs.Masters.{Master}
use Rattle.tl_master.specs.Sources.{source_files, sources_in}
use Rattle.tl_master.specs.declared.files.SourceFile.{SourceFile}
use Rattle.tl_master.specs.declared.master.MarkedSource.{MarkedSource}
use Rattle.tl_master.proofs.Mastering.{files_cut, files_then, index_cut, index_then, sources_cut, sources_then, with_index}
use Rattle.tl_master.proofs.loading.master_with.Goals as goal

pub returns-in_err-files : goal.returns-in_err-files
returns-in_err-files g c =
    let is : c.from_residual.result ≡ Err c.in_err-files.field-0.0 = search rules in
    rw is
    (files_cut g.H.Host.tells c.args.marks.now c.args.listing.items c.args.tree.now c.args.regexps.now c.in_err-files.field-0.0
    (subst (λ (l : List MarkedPath). Answers (λ (files : Vec SourceFile Global). files.items) (Err c.in_err-files.field-0.0) (source_files l)) c.deref.ensures.value c.in_err-files.ensures.files) c.in_err-files.ensures.fault)

pub returns-in_err-sources : goal.returns-in_err-sources
returns-in_err-sources g c =
    let tells = g.H.Host.tells in
    let marks = c.args.marks.now in
    let tree = c.args.tree.now in
    let r0 = c.args.regexps.now in
    let mid = c.sources_in.new.tree in
    let r1 = c.sources_in.new.regexps in
    let fault = c.in_err-sources.field-0.0 in
    let files = c.in_ok-files.files in
    let listed : source_files c.args.listing.items ≡ Ok files.items = subst (λ (l : List MarkedPath). source_files l ≡ Ok files.items) c.deref.ensures.value c.in_ok-files.ensures.files in
    let found = subst (λ (ps : List (List ℕ)). Finds tells (λ (s : Vec MarkedSource Global). s.items) (λ verdicts t. sources_in verdicts t ps files.items) tree mid r0 r1 (Err fault)) c.in_ok-platforms.ensures
    (subst (λ (fs : List SourceFile). Finds tells (λ (s : Vec MarkedSource Global). s.items) (λ verdicts t. sources_in verdicts t c.in_ok-platforms.platforms fs) tree mid r0 r1 (Err fault)) c.deref-2.ensures.value c.in_err-sources.ensures) in
    let is : c.from_residual-in_err-sources.result ≡ Err fault = search rules in
    rw is (files_then tells marks c.args.listing.items tree mid r0 r1 files (Err fault) listed (sources_cut tells marks c.args.listing.items files.items tree mid r0 r1 fault found))

pub returns-in_err-index : goal.returns-in_err-index
returns-in_err-index g c =
    let tells = g.H.Host.tells in
    let marks = c.args.marks.now in
    let listing = c.args.listing.items in
    let tree = c.args.tree.now in
    let r0 = c.args.regexps.now in
    let mid = c.sources_in.new.tree in
    let r1 = c.sources_in.new.regexps in
    let new = c.index_of.new.tree in
    let fault = c.in_err-index.field-0.0 in
    let files = c.in_ok-files.files in
    let sources = c.in_ok-sources.sources in
    let listed : source_files listing ≡ Ok files.items = subst (λ (l : List MarkedPath). source_files l ≡ Ok files.items) c.deref.ensures.value c.in_ok-files.ensures.files in
    let found = subst (λ (ps : List (List ℕ)). Finds tells (λ (s : Vec MarkedSource Global). s.items) (λ verdicts t. sources_in verdicts t ps files.items) tree mid r0 r1 (Ok sources)) c.in_ok-platforms.ensures
    (subst (λ (fs : List SourceFile). Finds tells (λ (s : Vec MarkedSource Global). s.items) (λ verdicts t. sources_in verdicts t c.in_ok-platforms.platforms fs) tree mid r0 r1 (Ok sources)) c.deref-2.ensures.value c.in_ok-sources.ensures) in
    let is : c.from_residual-in_err-index.result ≡ Err fault = search rules in
    rw is
    (files_then tells marks listing tree new r0 r1 files (Err fault) listed
    (sources_then tells marks listing files.items tree mid new r0 r1 sources (Err fault) found (index_cut tells marks listing sources.items mid new r1 fault c.in_err-index.ensures)))

pub returns : goal.returns
returns g c =
    let tells = g.H.Host.tells in
    let marks = c.args.marks.now in
    let listing = c.args.listing.items in
    let tree = c.args.tree.now in
    let r0 = c.args.regexps.now in
    let mid = c.sources_in.new.tree in
    let r1 = c.sources_in.new.regexps in
    let new = c.index_of.new.tree in
    let files = c.in_ok-files.files in
    let sources = c.in_ok-sources.sources in
    let index = c.in_ok-index.index in
    let listed : source_files listing ≡ Ok files.items = subst (λ (l : List MarkedPath). source_files l ≡ Ok files.items) c.deref.ensures.value c.in_ok-files.ensures.files in
    let found = subst (λ (ps : List (List ℕ)). Finds tells (λ (s : Vec MarkedSource Global). s.items) (λ verdicts t. sources_in verdicts t ps files.items) tree mid r0 r1 (Ok sources)) c.in_ok-platforms.ensures
    (subst (λ (fs : List SourceFile). Finds tells (λ (s : Vec MarkedSource Global). s.items) (λ verdicts t. sources_in verdicts t c.in_ok-platforms.platforms fs) tree mid r0 r1 (Ok sources)) c.deref-2.ensures.value c.in_ok-sources.ensures) in
    let master : Master = record { sources = sources.items; index = index; platforms = c.in_ok-platforms.platforms; platforms_mark = c.platforms_mark.result; counter = c.counter.result } in
    let same : with_index marks sources.items index ≡ master =
    λ i. record { sources = sources.items; index = index; platforms = sym c.in_ok-platforms.ensures i; platforms_mark = sym c.platforms_mark.ensures i; counter = sym c.counter.ensures i } in
    files_then tells marks listing tree new r0 r1 files (Ok master) listed
    (sources_then tells marks listing files.items tree mid new r0 r1 sources (Ok master) found (index_then tells marks listing sources.items mid new r1 index master c.in_ok-index.ensures same))
