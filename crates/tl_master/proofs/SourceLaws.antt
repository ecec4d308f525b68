-- The sources of files, read one after the other.
use Rattle.std.proofs.Common.{◌≡◌, ◌<◌, ◌≤◌, ◌+◌, ℕ, Bool, List, [], ◌∷◌, ◌++◌, length, get_or, drop, Result, Ok, Err, refl, sym, ap, ◌∙◌}
use Rattle.std.proofs.lemmas.List.{append-nil, append_assoc, at_drop_all}
use Rattle.tl_model.specs.Devices.{Verdicts, RegexpsSeen}
use Rattle.tl_model.specs.Seen.{Told}
use Rattle.tl_model.specs.Volume.{Volume}
use Rattle.tl_tree.specs.Planted.{Planted}
use Rattle.tl_auto.specs.Pushing.{KeepsVerdicts, KeepsRegexps}
use Rattle.tl_auto.proofs.VerdictLemmas.{keeps_on, regexps_same, regexps_on}
use Rattle.tl_backup.specs.Asked.{IsAsked, tree_in}
use Rattle.tl_backup.proofs.Making.{asked_start, asked_join, asked_tree, drop_one}
use Rattle.tl_master.specs.Answers.{Answers, Finds}
use Rattle.tl_master.specs.Sources.{in_front, source_in, sources_in}
use Rattle.tl_master.specs.declared.error.MasterError.{MasterError}
use Rattle.tl_master.specs.declared.error.MasterError.TheVariants.{BadMarks, BadSource, UnsetVariable, BadPath, Regexp, NoSource, TooLarge, HostFault, NoMemory}
use Rattle.tl_master.specs.declared.files.SourceFile.{SourceFile}
use Rattle.tl_master.specs.declared.master.MarkedSource.{MarkedSource}
use Rattle.tl_master.proofs.Finding.{size_since}
use Rattle.tl_master.proofs.Free.{host_before}

-- sources in front of those that are read behind them
abbrev pub put_front : List MarkedSource → Result (List MarkedSource) MasterError → Result (List MarkedSource) MasterError
put_front sources (Ok others) = Ok (sources ++ others)
put_front sources (Err fault) = Err fault

put_none : (others : Result (List MarkedSource) MasterError) → others ≡ put_front [] others
put_none (Ok others) = refl
put_none (Err fault) = refl

put_push : (sources : List MarkedSource) (source : MarkedSource) (others : Result (List MarkedSource) MasterError) → put_front sources (in_front (Ok source) others) ≡ put_front (sources ++ source ∷ []) others
put_push sources source (Ok others) = ap (λ (l : List MarkedSource). Ok l) (sym (append_assoc sources (source ∷ []) others))
put_push sources source (Err fault) = refl

-- the fault of one is that of all
through : {T U : Type 0} (view : T → MarkedSource) (other : U → List MarkedSource) (sources : List MarkedSource) (one : Result MarkedSource MasterError) (others all : Result (List MarkedSource) MasterError) (fault : MasterError)
    → all ≡ put_front sources (in_front one others) → Answers view (Err fault) one → Answers other (Err fault) all
through view other sources one others all (BadMarks line) far is = far ∙ ap (λ (r : Result MarkedSource MasterError). put_front sources (in_front r others)) is
through view other sources one others all (BadSource source line kind) far is = far ∙ ap (λ (r : Result MarkedSource MasterError). put_front sources (in_front r others)) is
through view other sources one others all (UnsetVariable source line) far is = far ∙ ap (λ (r : Result MarkedSource MasterError). put_front sources (in_front r others)) is
through view other sources one others all (BadPath source line) far is = far ∙ ap (λ (r : Result MarkedSource MasterError). put_front sources (in_front r others)) is
through view other sources one others all (Regexp source line kind) far is = far ∙ ap (λ (r : Result MarkedSource MasterError). put_front sources (in_front r others)) is
through view other sources one others all NoSource far is = far ∙ ap (λ (r : Result MarkedSource MasterError). put_front sources (in_front r others)) is
through view other sources one others all (TooLarge what limit) far is = far ∙ ap (λ (r : Result MarkedSource MasterError). put_front sources (in_front r others)) is
through view other sources one others all HostFault far is = tt
through view other sources one others all NoMemory far is = tt

-- so many files were read: all their sources are these, with those of the other files behind them
pub record HaveRead (tells : Bool) (platforms : List (List ℕ)) (files : List SourceFile) (old new : Planted) (before after : RegexpsSeen) (i : ℕ) (sources : List MarkedSource) : Type 0 where
  pub behind : Told tells ((later : Verdicts) → KeepsVerdicts after.verdicts later
      → sources_in later (tree_in old) platforms files ≡ put_front sources (sources_in later (tree_in old) platforms (drop i files)))
  pub asked : IsAsked tells old new
  pub regexps : KeepsRegexps before after

module _ (tells : Bool) (platforms : List (List ℕ)) (files : List SourceFile) (old : Planted) (r0 : RegexpsSeen) where
  pub none_read : (sources : List MarkedSource) → sources ≡ [] → HaveRead tells platforms files old old r0 r0 0 sources
  none_read sources is = record {
    behind = λ told later keeps.
        put_none (sources_in later (tree_in old) platforms files) ∙ ap (λ (l : List MarkedSource). put_front l (sources_in later (tree_in old) platforms files)) (sym is);
    asked = asked_start tells old;
    regexps = regexps_same r0;
  }

  pub all_read : {T : Type 0} (view : T → List MarkedSource) (value : T) (new : Planted) (r1 : RegexpsSeen) (i : ℕ) → length files ≤ i → HaveRead tells platforms files old new r0 r1 i (view value)
      → Finds tells view (λ verdicts t. sources_in verdicts t platforms files) old new r0 r1 (Ok value)
  all_read view value new r1 i all so_far = record {
    answered = λ told later keeps.
        so_far.behind told later keeps
        ∙ at_drop_all (λ (l : List SourceFile). put_front (view value) (sources_in later (tree_in old) platforms l)) files i all
        ∙ ap (λ (l : List MarkedSource). Ok l) (append-nil (view value));
    asked = so_far.asked;
    cause = tt;
    regexps = so_far.regexps;
    size = tt;
  }

  module _ (mid new : Planted) (r1 r2 : RegexpsSeen) (i : ℕ) (sources : List MarkedSource) (item d : SourceFile) (within : i < length files) (is : item ≡ get_or files i d)
      (so_far : HaveRead tells platforms files old mid r0 r1 i sources) where
    -- all sources, by that of the next file
    next_of : KeepsVerdicts r1.verdicts r2.verdicts → Told tells ((later : Verdicts) → KeepsVerdicts r2.verdicts later
        → sources_in later (tree_in old) platforms files
        ≡ put_front sources (in_front (source_in later (tree_in mid) platforms item) (sources_in later (tree_in old) platforms (drop (i + 1) files))))
    next_of on told later keeps =
        let rest = sources_in later (tree_in old) platforms (drop (i + 1) files) in
        so_far.behind told later (keeps_on r1.verdicts r2.verdicts later on keeps)
        ∙ ap (λ (l : List SourceFile). put_front sources (sources_in later (tree_in old) platforms l)) (drop_one files i d within)
        ∙ ap (λ (f : SourceFile). put_front sources (in_front (source_in later (tree_in old) platforms f) rest)) (sym is)
        ∙ ap (λ (t : Volume). put_front sources (in_front (source_in later t platforms item) rest)) (sym (asked_tree tells old mid so_far.asked told))

    -- one more is read
    pub one_read : {T : Type 0} (view : T → MarkedSource) (value : T) (more : List MarkedSource) → Finds tells view (λ verdicts t. source_in verdicts t platforms item) mid new r1 r2 (Ok value)
        → more ≡ sources ++ view value ∷ [] → HaveRead tells platforms files old new r0 r2 (i + 1) more
    one_read view value more step pushed = record {
      behind = λ told later keeps.
          let rest = sources_in later (tree_in old) platforms (drop (i + 1) files) in
          next_of step.regexps.verdicts told later keeps
          ∙ ap (λ (r : Result MarkedSource MasterError). put_front sources (in_front r rest)) (step.answered told later keeps)
          ∙ put_push sources (view value) rest
          ∙ ap (λ (l : List MarkedSource). put_front l rest) (sym pushed);
      asked = asked_join tells old mid new so_far.asked step.asked;
      regexps = regexps_on r0 r1 r2 so_far.regexps step.regexps;
    }

    -- one isn't read
    pub not_read : {T U : Type 0} (view : T → MarkedSource) (other : U → List MarkedSource) (fault : MasterError) → Finds tells view (λ verdicts t. source_in verdicts t platforms item) mid new r1 r2 (Err fault)
        → Finds tells other (λ verdicts t. sources_in verdicts t platforms files) old new r0 r2 (Err fault)
    not_read {T} {U} view other fault step = record {
      answered = λ told later keeps.
          through view other sources (source_in later (tree_in mid) platforms item) (sources_in later (tree_in old) platforms (drop (i + 1) files)) (sources_in later (tree_in old) platforms files) fault
          (next_of step.regexps.verdicts told later keeps) (step.answered told later keeps);
      asked = asked_join tells old mid new so_far.asked step.asked;
      cause = host_before tells old mid new fault so_far.asked step.cause;
      regexps = regexps_on r0 r1 r2 so_far.regexps step.regexps;
      size = size_since {U = U} r0.refusals r1.refusals r2.refusals (Err fault) so_far.regexps.later step.size;
    }
