-- An index of listed paths, put in one after the other.
use Rattle.std.proofs.Common.{Bool, List, [], ◌∷◌, ◌++◌, Result, Ok, Err, sym, ap, ◌∙◌}
use Rattle.std.proofs.lemmas.List.Sums.{fold-append}
use Rattle.tl_model.specs.Volume.{Volume}
use Rattle.tl_index.specs.declared.hit.Hit.{Hit}
use Rattle.tl_marks.specs.declared.marks.MarkedPath.{MarkedPath}
use Rattle.tl_tree.specs.Planted.{Planted}
use Rattle.tl_backup.specs.Asked.{tree_in}
use Rattle.tl_backup.proofs.Making.{asked_join, asked_tree}
use Rattle.tl_master.specs.Answers.{Answers, Asks}
use Rattle.tl_master.specs.Listing.{index_of, indexed}
use Rattle.tl_master.specs.declared.error.MasterError.{MasterError}
use Rattle.tl_master.specs.declared.error.MasterError.TheVariants.{BadMarks, BadSource, UnsetVariable, BadPath, Regexp, NoSource, TooLarge, HostFault, NoMemory}
use Rattle.tl_master.proofs.Free.{host_before}

-- where an answer is always to be given, only a fault without a cause comes in its place
always : {A B T U : Type 0} (view : T → A) (other : U → B) (given : A) (wanted : Result B MasterError) (fault : MasterError) → Answers view (Err fault) (Ok given) → Answers other (Err fault) wanted
always view other given wanted (BadMarks line) is = absurd (cc)
always view other given wanted (BadSource source line kind) is = absurd (cc)
always view other given wanted (UnsetVariable source line) is = absurd (cc)
always view other given wanted (BadPath source line) is = absurd (cc)
always view other given wanted (Regexp source line kind) is = absurd (cc)
always view other given wanted NoSource is = absurd (cc)
always view other given wanted (TooLarge what limit) is = absurd (cc)
always view other given wanted HostFault is = tt
always view other given wanted NoMemory is = tt

module _ {U : Type 0} (tells : Bool) (old mid new : Planted) (seen : List MarkedPath) (marked : MarkedPath) (index more : List Hit)
    (so_far : Asks tells (λ (i : List Hit). i) (λ t. Ok (index_of t seen)) old mid (Ok index)) where
  -- one path more is put in
  pub leaves_more : (done : U) → Asks tells (λ (_ : U). more) (λ t. Ok (indexed t index marked)) mid new (Ok done) → Asks tells (λ (i : List Hit). i) (λ t. Ok (index_of t (seen ++ marked ∷ []))) old new (Ok more)
  leaves_more done step = record {
    answered = λ told.
        ap (λ (l : List Hit). Ok l) (fold-append (indexed (tree_in old)) [] seen (marked ∷ []))
        ∙ ap (λ (r : Result (List Hit) MasterError). put_on r) (so_far.answered told)
        ∙ ap (λ (t : Volume). Ok (indexed t index marked)) (sym (asked_tree tells old mid so_far.asked told))
        ∙ step.answered told;
    asked = asked_join tells old mid new so_far.asked step.asked;
    cause = tt;
    others = tt;
  }
    where
      put_on : Result (List Hit) MasterError → Result (List Hit) MasterError
      put_on (Ok hits) = Ok (indexed (tree_in old) hits marked)
      put_on (Err fault) = Err fault

  -- one isn't put in
  pub leaves_cut : (listing : List MarkedPath) (fault : MasterError) → Asks tells (λ (_ : U). more) (λ t. Ok (indexed t index marked)) mid new (Err fault)
      → Asks tells (λ (i : List Hit). i) (λ t. Ok (index_of t listing)) old new (Err fault)
  leaves_cut listing fault step = record {
    answered = λ told. always (λ (_ : U). more) (λ (i : List Hit). i) (indexed (tree_in mid) index marked) (Ok (index_of (tree_in old) listing)) fault (step.answered told);
    asked = asked_join tells old mid new so_far.asked step.asked;
    cause = host_before tells old mid new fault so_far.asked step.cause;
    others = step.others;
  }
