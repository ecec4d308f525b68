-- What `update` says and does.
use Rattle.std.specs.Prelude.{ℕ, Bool, List}
use Rattle.tl_model.specs.Volume.{Volume}
use Rattle.tl_entry.specs.declared.object.Object.{Object}
use Rattle.tl_action.specs.declared.command.Repository.{Repository}
use Rattle.tl_command.specs.Runs.{Run}
use Rattle.tl_install.specs.Install.{planned_run}
use Rattle.tl_offer.specs.Offered.{offering}
use Rattle.tl_renew.specs.Updating.{update_of}
use Rattle.tl_renew.specs.declared.ask.UpdateAsk.{UpdateAsk}

-- the run of `update` over a tree with these entries
abbrev pub update_run : List (List ℕ) → UpdateAsk → Bool → List Repository → List Volume → Volume → List Object → Run
update_run names ask formats repositories volumes tree db =
    offering repositories volumes (λ pins repos. planned_run volumes repos formats (update_of pins repos db tree names ask) db tree) tree
