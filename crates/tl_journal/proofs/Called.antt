-- What the calls of the states keep, as their callers see the host.
use Rattle.std.proofs.Common.{◌≡◌, ◌≤◌, ◌+◌, ℕ, List, Option, Some, Result, refl, sym, subst, arith}
use Rattle.std.specs.Result.{is_ok}
use Rattle.tl_model.specs.Volume.{Name}
use Rattle.tl_model.specs.Seen.{Seen, Since, Says}
use Rattle.tl_journal_text.specs.declared.slot.Slot.{Slot}
use Rattle.tl_journal_text.specs.Slots.{body_of, open_slot, spare}
use Rattle.tl_journal_text.specs.Records.{after}
use Rattle.tl_journal_text.specs.Stand.{tree_of, stand, Stays, IsBeforeOrAfter}
use Rattle.tl_journal.specs.States.{IsLive, IsStaged, IsCommitted, IsRested, KeepsTree, Redoes, pending, staged}
use Rattle.tl_journal.specs.Touching.{TouchesOnly, only_start}
use Rattle.tl_journal.specs.Spent.{Stages, Commits, HasCommitted, CarriesOut, Rests}
use Rattle.tl_journal.specs.Asked.{SaysOnly}
use Rattle.tl_journal.proofs.Live.{keeps_start, keeps_tree}
use Rattle.tl_journal.proofs.Resumed.{says_front}

-- names that depend on the slot at which the gate is open
touched : (host new : Seen) (opened : Option Slot) (may : Option Slot → Name → Type 0) → open_slot host.present.held ≡ opened → TouchesOnly (may opened) host new → TouchesOnly (may (open_slot host.present.held)) host new
touched host new opened may is far = subst (λ (o : Option Slot). TouchesOnly (may o) host new) (sym is) far

pub stages_of : (host self new : Seen) (opened : Option Slot) (slot : Slot) → host ≡ self → open_slot host.present.held ≡ opened → slot ≡ spare opened → KeepsTree host new
    → TouchesOnly (λ name. name ≡ body_of slot) host new → Stages self new
stages_of host self new opened slot same is slots keeps touches = subst (λ (s : Seen). Stages s new) same (record {
  tree = keeps_tree host new keeps;
  stays = keeps.keeps.pictures;
  touches = touched host new opened IsStaged is (subst (λ (x : Slot). TouchesOnly (λ name. name ≡ body_of x) host new) slots touches);
  syncs = keeps.keeps.syncs;
})

pub commits_of : (host self new : Seen) (opened : Option Slot) → host ≡ self → open_slot host.present.held ≡ opened → new.present.said ≡ host.present.said
    → Since host new (IsBeforeOrAfter (staged host) host) → TouchesOnly (IsCommitted opened) host new → new.syncs ≤ host.syncs + 2 → Commits self new
commits_of host self new opened same is said pictures touches syncs = subst (λ (s : Seen). Commits s new) same (record {
  said = said;
  pictures = pictures;
  touches = touched host new opened IsCommitted is touches;
  syncs = syncs;
})

pub committed_of : (host self new : Seen) → host ≡ self → IsLive new.present → pending new.present.held ≡ staged host
    → stand new.present.held ≡ Some (after (staged host) (tree_of host.present.held)) → HasCommitted self new
committed_of host self new same live records stands = subst (λ (s : Seen). HasCommitted s new) same (record {
  stands = stands;
  records = records;
  rests = (keeps_start new live).pictures;
})

pub carries_out_of : (host self new : Seen) → host ≡ self → Redoes host new → CarriesOut self new
carries_out_of host self new same redoes = subst (λ (s : Seen). CarriesOut s new) same (record {
  stays = redoes.keeps.pictures;
  touches = redoes.only;
  syncs = redoes.keeps.syncs;
})

pub rests_of : (host self new : Seen) (opened : Option Slot) → host ≡ self → open_slot host.present.held ≡ opened → tree_of new.present.held ≡ tree_of host.present.held → Stays host new
    → TouchesOnly (IsRested opened) host new → new.syncs ≤ host.syncs + 2 → Rests self new
rests_of host self new opened same is tree stays touches syncs = subst (λ (s : Seen). Rests s new) same (record {
  tree = tree;
  stays = stays;
  touches = touched host new opened IsRested is touches;
  syncs = syncs;
})

-- a journal that rests already
pub rests_start : (host self : Seen) → host ≡ self → IsLive host.present → Rests self host
rests_start host self same live = subst (λ (s : Seen). Rests s host) same (record {
  tree = refl;
  stays = (keeps_start host live).pictures;
  touches = only_start (IsRested (open_slot host.present.held)) host;
  syncs = omega arith;
})

-- bytes were said
pub says_of : {T E : Type 0} (host self new : Seen) (bytes : List ℕ) (result : Result T E) → host ≡ self → IsLive host.present → Says (is_ok result) bytes host new → SaysOnly bytes self new result
says_of host self new bytes result same live says = subst (λ (s : Seen). SaysOnly bytes s new result) same (record {
  says = says;
  pictures = says_front host new (is_ok result) bytes (keeps_start host live).pictures says;
})
