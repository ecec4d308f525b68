-- Records are being carried out.
use Rattle.std.proofs.Common.{◌≡◌, ◌≢◌, ◌<◌, ◌≤◌, ◌+◌, ℕ, suc, Bool, true, List, [], ◌++◌, length, take, drop, Option, Some, refl, sym, ◌∙◌, ap, subst, inl, inr, arith}
use Rattle.std.specs.Option.{unwrap_or}
use Rattle.std.specs.List.{AllByRecursion}
use Rattle.std.specs.FinMap as map
use Rattle.std.proofs.Math.Seq.{take-add}
use Rattle.std.proofs.lemmas.List.{drop-drop}
use Rattle.tl_model.specs.Volume.{Name, Volume, at, SameBut, at-insert_apart}
use Rattle.tl_model.specs.Seen.{Seen, Quiet, Changes}
use Rattle.tl_journal_text.specs.declared.slot.Slot.{Slot}
use Rattle.tl_journal_text.specs.Slots.{body_of, open_slot}
use Rattle.tl_journal_text.specs.Records.{Record, Fits, name_of, is_target, IsAmong, after}
use Rattle.tl_journal_text.specs.Body.{Next, Ends, Faulty, Takes, Stops, next, Whole, reading_by}
use Rattle.tl_journal_text.specs.Stand.{tree_of, bytes_at}
use Rattle.tl_journal_text.proofs.Acts.{tree_after_one, same_but_join, inserted}
use Rattle.tl_journal_text.proofs.Targets.{target_outside}
use Rattle.tl_journal_text.proofs.Trees.{not_body, stand_open}
use Rattle.tl_journal_text.proofs.Turns.{one_read, none_read, rest_at, records_whole}
use Rattle.tl_journal.specs.States.{pending, IsPending, IsLive, IsClean, Keeps, Redoes}
use Rattle.tl_journal.specs.Touching.{only_start, only_change, only_quiet}
use Rattle.tl_journal.specs.Reading.{Part, body_at, IsPartOf}
use Rattle.tl_journal.specs.Acting.{MayAct, Acts}
use Rattle.tl_journal.proofs.Live.{keeps_start, keeps_change, keeps_quiet, keeps_live, keeps_stand, free_record}

pub redoes_start : (s : Seen) → IsLive s.present → Redoes s s
redoes_start s live = record { keeps = keeps_start s live; only = only_start (IsPending s.present.held) s }

-- calls more that change nothing
pub redoes_quiet : (base mid new : Seen) → Redoes base mid → Quiet mid new → Redoes base new
redoes_quiet base mid new far quiet = record {
  keeps = keeps_quiet base mid new far.keeps quiet;
  only = only_quiet (IsPending base.present.held) base mid new far.only quiet;
}

-- one call more that changes the path of a record
pub redoes_record : (base mid new : Seen) (ok : Bool) (name : Name) → IsAmong name (pending base.present.held) → Redoes base mid → Changes ok name mid new → Redoes base new
redoes_record base mid new ok name among far change = record {
  keeps = keeps_change base mid new ok name far.keeps change (free_record base.present.held name far.keeps.live.fits among);
  only = only_change (IsPending base.present.held) base mid new ok name among far.only change;
}

-- a path that a record may change is no body
pub target_apart : (slot : Slot) (name : Name) → is_target name ≡ true → name ≢ body_of slot
target_apart slot name target = not_body slot name (target_outside name target)

-- a part stays one where another name changes
pub part_apart : (old new : Seen) (p : Part) (name : Name) → name ≢ body_of p.slot → SameBut name old.present.held new.present.held → IsPartOf p old → IsPartOf p new
part_apart old new p name apart same part =
    let texts : body_at p.slot old ≡ body_at p.slot new = ap (λ (o : Option (List ℕ)). unwrap_or o []) (sym (same (body_of p.slot) (λ is. apart (sym is)))) in
    record {
      size = part.size ∙ ap (λ (l : List ℕ). length l) texts;
      bytes = part.bytes ∙ ap (λ (l : List ℕ). take (length p.bytes) (drop p.start l)) texts;
    }

-- ---- copies

-- one piece more
pub piece_more : (held mid new : Volume) (slot : Slot) (name : Name) (from done n : ℕ) → name ≢ body_of slot → SameBut name held mid → at mid name ≡ Some (take done (drop from (bytes_at held (body_of slot))))
    → at new name ≡ Some (bytes_at mid name ++ take n (drop (from + done) (bytes_at mid (body_of slot)))) → at new name ≡ Some (take (done + n) (drop from (bytes_at held (body_of slot))))
piece_more held mid new slot name from done n ne others so_far then =
    let bodies : bytes_at mid (body_of slot) ≡ bytes_at held (body_of slot) = ap (λ (o : Option (List ℕ)). unwrap_or o []) (others (body_of slot) (λ is. ne (sym is))) in
    then
    ∙ ap (λ (o : Option (List ℕ)). Some (unwrap_or o [] ++ take n (drop (from + done) (bytes_at mid (body_of slot))))) so_far
    ∙ ap (λ (l : List ℕ). Some (take done (drop from (bytes_at held (body_of slot))) ++ take n (drop (from + done) l))) bodies
    ∙ ap (λ (l : List ℕ). Some (take done (drop from (bytes_at held (body_of slot))) ++ take n l)) (sym (drop-drop done from (bytes_at held (body_of slot))))
    ∙ ap Some (sym (take-add done n (drop from (bytes_at held (body_of slot)))))

-- a file that was made and then filled
pub filled_is : (held mid new : Volume) (slot : Slot) (name : Name) (from size : ℕ) → name ≢ body_of slot → mid ≡ map.insert held name [] → SameBut name mid new → at new name ≡ Some (take size (drop from (bytes_at mid (body_of slot))))
    → new ≡ map.insert held name (take size (drop from (bytes_at held (body_of slot))))
filled_is held mid new slot name from size ne made others is =
    let made_others : SameBut name held mid = λ q apart. ap (λ (v : Volume). at v q) made ∙ at-insert_apart held name [] q apart in
    let bodies : bytes_at mid (body_of slot) ≡ bytes_at held (body_of slot) = ap (λ (o : Option (List ℕ)). unwrap_or o []) (made_others (body_of slot) (λ is. ne (sym is))) in
    inserted held new name _ (same_but_join held mid new name made_others others) (is ∙ ap (λ (l : List ℕ). Some (take size (drop from l))) bodies)

-- ---- the loop

pub record Doing (base s : Seen) (slot : Slot) (from : ℕ) : Type 0 where
  pub progress : Redoes base s
  pub opened : open_slot base.present.held ≡ Some slot
  pub turns : ℕ
  pub left : List Record
  pub reads : reading_by turns from (drop from (body_at slot base)) ≡ Whole left
  pub among : (name : Name) → IsAmong name left → IsAmong name (pending base.present.held)
  pub fits : AllByRecursion Fits left
  pub tree : after left (tree_of s.present.held) ≡ after (pending base.present.held) (tree_of base.present.held)

pub doing_start : (s : Seen) (slot : Slot) → IsLive s.present → open_slot s.present.held ≡ Some slot → Doing s s slot 0
doing_start s slot live opened = record {
  progress = redoes_start s live;
  opened = opened;
  turns = suc (length (body_at slot s));
  left = pending s.present.held;
  reads = records_whole _ _ (live.whole slot opened);
  among = λ name among. among;
  fits = live.fits;
  tree = refl;
}

pub body_stays : (base s : Seen) (slot : Slot) → Keeps base s → open_slot base.present.held ≡ Some slot → body_at slot s ≡ body_at slot base
body_stays base s slot far opened = ap (λ (o : Option (List ℕ)). unwrap_or o []) (far.apart (body_of slot) (inr (inl (slot, opened, refl))))

pub doing_may : (base s : Seen) (slot : Slot) (from : ℕ) → Doing base s slot from → MayAct base (next from (drop from (body_at slot s)))
doing_may base s slot from doing = subst (λ (l : List ℕ). MayAct base (next from (drop from l))) (sym (body_stays base s slot doing.progress.keeps doing.opened)) (by (next from (drop from (body_at slot base))) refl)
  where
    by : (x : Next) → next from (drop from (body_at slot base)) ≡ x → MayAct base x
    by Ends is = tt
    by (Faulty place) is = tt
    by (Takes r rest) is =
        let one = one_read doing.turns from (drop from (body_at slot base)) r rest doing.left is doing.reads in
        doing.among (name_of r) (subst (λ (l : List Record). IsAmong (name_of r) l) (sym one.first) (inl refl))

pub doing_more : (base mid new : Seen) (slot : Slot) (from rest : ℕ) → Doing base mid slot from → Redoes base new → Acts (body_at slot mid) from rest mid.present.held new.present.held → from < rest → rest ≤ length (body_at slot mid) → Doing base new slot rest
doing_more base mid new slot from rest doing progress acts lt le =
    let r = acts.r in
    let text = body_at slot base in
    let stays = body_stays base mid slot doing.progress.keeps doing.opened in
    let is : next from (drop from text) ≡ Takes r (drop rest text) = subst (λ (l : List ℕ). next from (drop from l) ≡ Takes r (drop rest l)) stays acts.reads in
    let one = one_read doing.turns from (drop from text) r (drop rest text) doing.left is doing.reads in
    let fits = subst (λ (l : List Record). AllByRecursion Fits l) one.first doing.fits in
    let inside : rest ≤ length text = omega (arith, le, ap (λ (l : List ℕ). length l) stays) in
    record {
      progress = progress;
      opened = doing.opened;
      turns = one.turns;
      left = one.others;
      reads = ap (λ (k : ℕ). reading_by one.turns k (drop rest text)) (sym (rest_at text from rest r (omega arith) inside is)) ∙ one.reads;
      among = λ name among. doing.among name (subst (λ (l : List Record). IsAmong name l) (sym one.first) (inr among));
      fits = fits.1;
      tree = ap (λ (v : Volume). after one.others (tree_of v)) acts.does
          ∙ ap (λ (v : Volume). after one.others v) (tree_after_one r mid.present.held fits.0)
          ∙ ap (λ (l : List Record). after l (tree_of mid.present.held)) (sym one.first)
          ∙ doing.tree;
    }

-- all records have been carried out
pub doing_done : (base mid s : Seen) (slot : Slot) (from : ℕ) → Doing base mid slot from → Stops (next from (drop from (body_at slot mid))) → s.present.held ≡ mid.present.held → Keeps base s → IsClean s.present
doing_done base mid s slot from doing stops same far =
    let none = none_read doing.turns from (drop from (body_at slot base)) doing.left (subst (λ (l : List ℕ). Stops (next from (drop from l))) (body_stays base mid slot doing.progress.keeps doing.opened) stops) doing.reads in
    let tree : tree_of mid.present.held ≡ after (pending base.present.held) (tree_of base.present.held) = ap (λ (l : List Record). after l (tree_of mid.present.held)) (sym none) ∙ doing.tree in
    record {
      live = keeps_live base s far;
      tree = keeps_stand base s far
          ∙ stand_open base.present.held slot (pending base.present.held) doing.opened (far.live.whole slot doing.opened)
          ∙ ap Some (sym tree) ∙ ap (λ (v : Volume). Some (tree_of v)) (sym same);
    }
