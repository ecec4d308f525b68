-- A file that is being read whole.
use Rattle.std.specs.Prelude.{◌≡◌, ℕ, ◌+◌, min, List, [], ◌++◌, length, take, drop, refl}
use Rattle.std.specs.Option.{unwrap_or}
use Rattle.std.proofs.Common.{sym, ◌∙◌, ap}
use Rattle.std.proofs.lemmas.List.{length-take, take_min}
use Rattle.std.proofs.Math.Seq.{take-add}
use Rattle.tl_model.specs.Volume.{Name, at}
use Rattle.tl_model.specs.Seen.{Moment, Seen, Quiet}
use Rattle.tl_model.specs.Pictures.{quiet_start, quiet_join}

-- what a name of a host holds; no bytes where it is absent
abbrev pub held_at : Seen → Name → List ℕ
held_at seen name = unwrap_or (at seen.present.held name) []

-- nothing has changed, and these bytes are the first of the file
pub record HasRead (old new : Seen) (name : Name) (bytes : List ℕ) : Type 0 where
  pub quiet : Quiet old new
  pub front : bytes ≡ take (length bytes) (held_at old name)

-- before the first piece
pub read_start : (s : Seen) (name : Name) → HasRead s s name []
read_start s name = record { quiet = quiet_start s; front = refl }

-- bytes behind the first of a file, which go on with it
pub front-more : (file bytes piece : List ℕ) (n : ℕ) → bytes ≡ take (length bytes) file → piece ≡ take n (drop (length bytes) file) → bytes ++ piece ≡ take (length (bytes ++ piece)) file
front-more file bytes piece n front is =
    let whole : bytes ++ piece ≡ take (length bytes + n) file = ap (λ (l : List ℕ). l ++ piece) front ∙ ap (λ (l : List ℕ). take (length bytes) file ++ l) is ∙ sym (take-add (length bytes) n file) in
    let size : length (bytes ++ piece) ≡ min (length bytes + n) (length file) = ap length whole ∙ length-take (length bytes + n) file in
    whole ∙ sym (take_min (length bytes + n) file) ∙ ap (λ (k : ℕ). take k file) (sym size)

-- one piece more
pub read_more : (old mid new : Seen) (name : Name) (bytes piece : List ℕ) (n : ℕ) → HasRead old mid name bytes → Quiet mid new → piece ≡ take n (drop (length bytes) (held_at mid name)) → HasRead old new name (bytes ++ piece)
read_more old mid new name bytes piece n far quiet is = record {
  quiet = quiet_join old mid new far.quiet quiet;
  front = front-more (held_at old name) bytes piece n far.front (is ∙ ap (λ (m : Moment). take n (drop (length bytes) (unwrap_or (at m.held name) []))) far.quiet.present);
}
