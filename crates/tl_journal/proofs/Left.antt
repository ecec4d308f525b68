-- What holds of the host that a call leaves, whichever way it ended.
use Rattle.std.specs.Prelude.{Result, Ok, Err, IfOk, IfErr}
use Rattle.tl_model.specs.Seen.{Seen}
use Rattle.tl_journal.specs.Spent.{left_by}
use Rattle.tl_journal.specs.declared.lost.Lost.{Lost}

module _ {H E : Type 0} (seen : H → Seen) where
  -- it holds of the next state
  pub ok_left : (result : Result Seen (Lost H E)) (P : Seen → Type 0) → P (left_by seen result) → IfOk result P
  ok_left (Ok state) P here = here
  ok_left (Err lost) P here = tt

  -- and of what the error hands back
  pub err_left : (result : Result Seen (Lost H E)) (P : Seen → Type 0) → P (left_by seen result) → IfErr result (λ lost. P (seen lost.host))
  err_left (Ok state) P here = tt
  err_left (Err lost) P here = here

  -- with what else holds of the next state
  pub ok_left_with : (result : Result Seen (Lost H E)) (P Q R : Seen → Type 0) → ((state : Seen) → P state → Q state → R state) → P (left_by seen result) → IfOk result Q → IfOk result R
  ok_left_with (Ok state) P Q R go here more = go state here more
  ok_left_with (Err lost) P Q R go here more = tt
