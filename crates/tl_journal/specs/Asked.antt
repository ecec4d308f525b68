-- What the host's calls on a state of a journal answer.
use Rattle.std.specs.Prelude.{◌≡◌, ℕ, List, [], length, take, drop, Option, Result, IfOk, is_ok}
use Rattle.std.specs.Option.{option_map, unwrap_or}
use Rattle.tl_model.specs.Volume.{Name, at, IsNext}
use Rattle.tl_model.specs.Seen.{Seen, Since, Quiet, Says}
use Rattle.tl_journal_text.specs.Stand.{bytes_at, SaysFront}

-- the length of a name; nothing has changed
pub record GivesSize {E : Type 0} (old new : Seen) (name : Name) (result : Result (Option ℕ) E) : Type 0 where
  pub length : IfOk result (λ size. size ≡ option_map length (at old.present.held name))
  pub same : Quiet old new

-- as many bytes as the buffer and the file from a place on have; nothing has changed
pub record GivesBytes {E : Type 0} (old new : Seen) (name : Name) (from : ℕ) (into : List ℕ) (result : Result ℕ E) : Type 0 where
  pub bytes : IfOk result (λ count. take count into ≡ take (length into) (drop from (bytes_at old.present.held name)))
  pub count : IfOk result (λ count. count ≡ length (take (length into) (drop from (bytes_at old.present.held name))))
  pub same : Quiet old new

-- the least name after another one; nothing has changed
pub record GivesNext {E : Type 0} (old new : Seen) (after : Option Name) (name : List ℕ) (result : Result (Option ℕ) E) : Type 0 where
  pub next : IfOk result (λ found. IsNext old.present.held after (option_map (λ count. take count name) found))
  pub same : Quiet old new

-- bytes are said, a front of them where it fails; each picture stands for what the volume stands for
pub record SaysOnly {T E : Type 0} (bytes : List ℕ) (old new : Seen) (result : Result T E) : Type 0 where
  pub says : Says (is_ok result) bytes old new
  pub pictures : Since old new (SaysFront bytes old)
