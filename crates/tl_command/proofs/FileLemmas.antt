-- Files that are read of a tree, as parts of a command.
use Rattle.std.proofs.Common.{◌≡◌, ◌≤◌, ◌<◌, ℕ, Bool, List, [], length, Option, Some, None, IfSome, Result, refl, sym, ◌∙◌, ap, subst, arith}
use Rattle.std.specs.Option.{unwrap_or}
use Rattle.tl_model.specs.Volume.{Name, Volume, at}
use Rattle.tl_model.specs.Seen.{Seen, Told, Quiet}
use Rattle.tl_kind.specs.Quantities.{limit_of}
use Rattle.tl_kind.specs.declared.quantity.What.{What}
use Rattle.tl_journal_text.specs.Stand.{stand, tree_of, bytes_at}
use Rattle.tl_tree.specs.Contents.{IsContentsError}
use Rattle.tl_tree.specs.Planted.{Planted}
use Rattle.tl_tree.specs.declared.contents.ContentsError.TheVariants as contents
use Rattle.tl_refusal.specs.declared.refusal.Refusal.TheVariants.{TooLarge}
use Rattle.tl_command.specs.declared.ending.Ending.{Ending}
use Rattle.tl_command.specs.Endings.{Faults}
use Rattle.tl_command.specs.Loaded.{Reads}
use Rattle.tl_command.specs.Performs.{Performs}
use Rattle.tl_command.specs.Runs.{Run, refused, over_bytes, over_file}
use Rattle.tl_command.proofs.Databases.{same_tree}
use Rattle.tl_command.proofs.Joins.{advances_quiet, performs_quiet, performs_same}
use Rattle.tl_command.proofs.Limits.{limited-within, limited-past}

-- bytes within their limit
over_bytes-within : (what : What) (go : Option (List ℕ) → Run) (found : Option (List ℕ)) → IfSome found (λ bytes. length bytes ≤ limit_of what) → over_bytes what go found ≡ go found
over_bytes-within what go None within = refl
over_bytes-within what go (Some bytes) within = limited-within what (length bytes) (go (Some bytes)) within

-- and past it
over_bytes-past : (what : What) (go : Option (List ℕ) → Run) (found : Option (List ℕ)) → limit_of what < length (unwrap_or found []) → over_bytes what go found ≡ refused (TooLarge what (limit_of what))
over_bytes-past what go None past = absurd (omega (arith, past))
over_bytes-past what go (Some bytes) past = limited-past what (length bytes) (go (Some bytes)) past

-- the refusal of a file past its limit
refused-past : (what named : What) (limit : ℕ) (go : Option (List ℕ) → Run) (tree : Volume) (path : Name) → IsContentsError what (bytes_at tree path) (contents.TooLarge named limit)
    → refused (TooLarge named limit) ≡ over_file what path go tree
refused-past what named limit go tree path error =
    ap (λ (w : What). refused (TooLarge w limit)) error.1
    ∙ ap (λ (n : ℕ). refused (TooLarge what n)) error.2
    ∙ sym (over_bytes-past what go (at tree path) error.0)

-- a file was read
pub reads_found : (tells : Bool) (what : What) (path : Name) (old new : Planted) (found : Option (List ℕ)) → Told tells (stand old.seen.present.held ≡ Some (tree_of old.seen.present.held)) → Told tells (Quiet old.seen new.seen)
    → old.seen.faults ≤ new.seen.faults → new.db ≡ old.db → Told tells (found ≡ at (tree_of old.seen.present.held) path) → IfSome found (λ bytes. length bytes ≤ limit_of what) → Reads tells what path old new found
reads_found tells what path old new found stands quiet later db holds within = record {
  quiet = advances_quiet tells old.seen new.seen quiet later;
  db = db;
  holds = λ t tree stood. ap (λ (v : Volume). at v path) (sym (same_tree old.seen tree (stands t) stood)) ∙ sym (holds t);
  within = within;
}

module _ {T : Type 0} (tells : Bool) (seen : T → Seen) (what : What) (path : Name) (before after : Faults) (ending : Ending) (state : Result Seen T) where
  -- what is left of a command behind a file that was read
  pub performs_read : (more : ℕ) (old new : Planted) (found : Option (List ℕ)) (go : Volume → Option (List ℕ) → Run) → Reads tells what path old new found
      → Performs tells seen (λ tree. go tree found) more new.seen before after ending state → Performs tells seen (λ tree. over_file what path (go tree) tree) more old.seen before after ending state
  performs_read more old new found go reads near =
      performs_same tells seen more old.seen before after ending state (λ tree. go tree found) (λ tree. over_file what path (go tree) tree)
      (λ t tree stood. sym (ap (over_bytes what (go tree)) (reads.holds t tree stood) ∙ over_bytes-within what (go tree) found reads.within))
      (performs_quiet tells seen more old.seen before after ending state (λ tree. go tree found) new.seen reads.quiet near)

  -- a file that is refused, behind calls that change nothing
  pub performs_refused_file : (first mid : Seen) (named : What) (limit : ℕ) → Told tells (stand first.present.held ≡ Some (tree_of first.present.held)) → Told tells (Quiet first mid) → first.faults ≤ mid.faults
      → Told tells (IsContentsError what (bytes_at (tree_of first.present.held) path) (contents.TooLarge named limit)) → Performs tells seen (λ _. refused (TooLarge named limit)) 0 mid before after ending state
      → (go : Volume → Option (List ℕ) → Run) → Performs tells seen (λ tree. over_file what path (go tree) tree) 0 first before after ending state
  performs_refused_file first mid named limit stands quiet later error near go =
      performs_same tells seen 0 first before after ending state (λ _. refused (TooLarge named limit)) (λ tree. over_file what path (go tree) tree)
      (λ t tree stood. refused-past what named limit (go tree) tree path
      (subst (λ (v : Volume). IsContentsError what (bytes_at v path) (contents.TooLarge named limit)) (same_tree first tree (stands t) stood) (error t)))
      (performs_quiet tells seen 0 first before after ending state (λ _. refused (TooLarge named limit)) mid (advances_quiet tells first mid quiet later) near)
