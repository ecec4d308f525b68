-- What a copy has seen in the round that it is in.
use Rattle.std.proofs.Common.{◌≡◌, ◌+◌, ◌-◌, ℕ, zero, suc, Bool, true, false, cond, ◌==◌, List, [], ◌∷◌, ◌++◌, take, Option, Some, None, Result, Ok, Err, slice_get, refl, sym, ◌∙◌, ap, subst, inl, inr, append_assoc}
use Rattle.std.specs.Str.{bytes_eq}
use Rattle.std.specs.Cmp.Lexicographic.{same_text}
use Rattle.std.proofs.lemmas.List.{append-nil, take_more}
use Rattle.std.proofs.lemmas.Option.{get_or_from_slice_get, slice_get_within}
use Rattle.sha2.specs.Sha512.{sha512}
use Rattle.tl_model.specs.Volume.{Name}
use Rattle.tl_repo.specs.Files.{database_name, digest_in}
use Rattle.tl_copying.specs.Copies.{after_turn, container_want, manifest_of, meets, new_copy, having_taken, turned, turned_agreed, turned_demand, turned_stated, want_of}
use Rattle.tl_copying.specs.Demands.{Named, onward, containers_in}
use Rattle.tl_copying.specs.Rounds.{Agreement, AreMet, HasRound, IsWholeCopy, reads}
use Rattle.tl_copying.specs.declared.copying.Copying.{Copying}
use Rattle.tl_copying.specs.declared.copying.Seen.{Seen}
use Rattle.tl_copying.specs.declared.copying.Seen.TheVariants as saw
use Rattle.tl_copying.specs.declared.copying.Want.TheVariants as wants
use Rattle.tl_copying.specs.declared.demand.Demand.{Demand}
use Rattle.tl_copying.specs.declared.error.CopyError.{CopyError}
use Rattle.tl_copying.specs.declared.stage.Manifest.{Manifest}
use Rattle.tl_copying.specs.declared.stage.Stage.{Stage}
use Rattle.tl_copying.specs.declared.stage.Stage.TheVariants.{Database, Digest, Containers, Spent}
use Rattle.tl_copying.specs.declared.stage.Turn.{Turn}
use Rattle.tl_copying.specs.declared.stage.Turn.TheVariants.{On, Ended}

-- ---- turns

-- what was seen ends with a round that goes on so, or that ended
abbrev HasTurn : Turn → List Seen → Type 0
HasTurn (On stage) seens = HasRound stage seens
HasTurn (Ended name) seens = Unit {0}

abbrev ok_of : {A : Type 0} → A → Result A CopyError
ok_of a = Ok a

ok_same : {A : Type 0} (a b : A) → ok_of a ≡ ok_of b → a ≡ b
ok_same a b is = cc

some_same : {A : Type 0} (a b : A) → Some a ≡ Some b → a ≡ b
some_same a b is = cc

fresh : (seens : List Seen) → HasRound Database seens
fresh seens = record { before = seens; round = []; seen = sym (append-nil seens); is = refl }

spent : (name : Name) (seens : List Seen) → HasRound (Spent name) seens
spent name seens = record { before = seens; round = []; seen = sym (append-nil seens); is = tt }

met_more : (manifest : Manifest) (demands : List Demand) (boxes : List Seen) (demand : Demand) (seen : Seen) → AreMet manifest demands boxes → meets manifest demand seen ≡ true → AreMet manifest (demands ++ demand ∷ []) (boxes ++ seen ∷ [])
met_more manifest [] [] demand seen met is = (is, tt)
met_more manifest [] (b ∷ boxes) demand seen met is = absurd met
met_more manifest (d ∷ demands) [] demand seen met is = absurd met
met_more manifest (d ∷ demands) (b ∷ boxes) demand seen met is = (met.0, met_more manifest demands boxes demand seen met.1 is)

take_next : (demands : List Demand) (place : ℕ) (demand : Demand) → slice_get demands place ≡ Some demand → take (place + 1) demands ≡ take place demands ++ demand ∷ []
take_next demands place demand is =
    take_more demands place demand (slice_get_within demands place demand is) ∙ ap (λ (d : Demand). take place demands ++ d ∷ []) (get_or_from_slice_get demands place demand demand is)

-- the digest file was seen
module _ (seens : List Seen) (database digest : List ℕ) (so : HasRound (Digest database) seens) where
  agreed_more : (r : Result Named CopyError) (turn : Turn) → containers_in database ≡ r → digest_in digest ≡ Some (sha512 database)
      → onward r (λ named. Ok (On (Containers (manifest_of database digest named) 0))) ≡ Ok turn → HasTurn turn (seens ++ saw.Text digest ∷ [])
  agreed_more (Err error) turn named stated is = absurd (cc)
  agreed_more (Ok n) turn named stated is = subst (λ (t : Turn). HasTurn t (seens ++ saw.Text digest ∷ [])) (ok_same _ _ is) (record {
    before = so.before;
    round = saw.Text database ∷ saw.Text digest ∷ [];
    seen = ap (λ (l : List Seen). l ++ saw.Text digest ∷ []) (so.seen ∙ ap (λ (l : List Seen). so.before ++ l) so.is) ∙ append_assoc so.before (saw.Text database ∷ []) (saw.Text digest ∷ []);
    is = record { agrees = record { stated = stated; named = named }; boxes = []; idle = []; seen = refl; met = tt; vain = inl refl };
  })

  judged_more : (b : Bool) (want : List ℕ) (turn : Turn) → bytes_eq (sha512 database) want ≡ b → digest_in digest ≡ Some want
      → cond b (turned_agreed database digest) (Ok (Ended database_name)) ≡ Ok turn → HasTurn turn (seens ++ saw.Text digest ∷ [])
  judged_more true want turn same stated is =
      agreed_more (containers_in database) turn refl (stated ∙ ap (λ (l : List ℕ). Some l) (sym (same_text (sha512 database) want (sym same)))) is
  judged_more false want turn same stated is = subst (λ (t : Turn). HasTurn t (seens ++ saw.Text digest ∷ [])) (ok_same _ _ is) tt

  stated_more : (o : Option (List ℕ)) (turn : Turn) → digest_in digest ≡ o → turned_stated o database digest ≡ Ok turn → HasTurn turn (seens ++ saw.Text digest ∷ [])
  stated_more None turn stated is = subst (λ (t : Turn). HasTurn t (seens ++ saw.Text digest ∷ [])) (ok_same _ _ is) tt
  stated_more (Some want) turn stated is = judged_more (bytes_eq (sha512 database) want) want turn refl stated is

-- something was seen where containers are wanted
module _ (seens : List Seen) (manifest : Manifest) (place : ℕ) (so : HasRound (Containers manifest place) seens) (seen : Seen) where
  vain_more : (turn : Turn) → slice_get manifest.containers place ≡ None → On (Containers manifest place) ≡ turn → HasTurn turn (seens ++ seen ∷ [])
  vain_more turn none is = subst (λ (t : Turn). HasTurn t (seens ++ seen ∷ [])) is (record {
    before = so.before;
    round = so.round ++ seen ∷ [];
    seen = ap (λ (l : List Seen). l ++ seen ∷ []) so.seen ∙ append_assoc so.before so.round (seen ∷ []);
    is = record {
      agrees = so.is.agrees;
      boxes = so.is.boxes;
      idle = so.is.idle ++ seen ∷ [];
      seen = ap (λ (l : List Seen). l ++ seen ∷ []) so.is.seen ∙ append_assoc (saw.Text manifest.database ∷ saw.Text manifest.digest ∷ so.is.boxes) so.is.idle (seen ∷ []);
      met = so.is.met;
      vain = inr none;
    };
  })

  not_idle : (demand : Demand) → slice_get manifest.containers place ≡ Some demand → so.is.idle ≡ []
  not_idle demand some = elim so.is.vain [
    | inl e ↦ e
    | inr none ↦ absurd (cc (none, some))
  ]

  met_turn : (b : Bool) (demand : Demand) (turn : Turn) → meets manifest demand seen ≡ b → slice_get manifest.containers place ≡ Some demand
      → cond b (On (Containers manifest (place + 1))) (Ended demand.name) ≡ turn → HasTurn turn (seens ++ seen ∷ [])
  met_turn false demand turn met some is = subst (λ (t : Turn). HasTurn t (seens ++ seen ∷ [])) is tt
  met_turn true demand turn met some is =
      let round_is : so.round ≡ saw.Text manifest.database ∷ saw.Text manifest.digest ∷ so.is.boxes =
      so.is.seen ∙ ap (λ (l : List Seen). saw.Text manifest.database ∷ saw.Text manifest.digest ∷ so.is.boxes ++ l) (not_idle demand some) ∙ append-nil (saw.Text manifest.database ∷ saw.Text manifest.digest ∷ so.is.boxes) in
      subst (λ (t : Turn). HasTurn t (seens ++ seen ∷ [])) is (record {
        before = so.before;
        round = so.round ++ seen ∷ [];
        seen = ap (λ (l : List Seen). l ++ seen ∷ []) so.seen ∙ append_assoc so.before so.round (seen ∷ []);
        is = record {
          agrees = so.is.agrees;
          boxes = so.is.boxes ++ seen ∷ [];
          idle = [];
          seen = ap (λ (l : List Seen). l ++ seen ∷ []) round_is ∙ sym (append-nil (saw.Text manifest.database ∷ saw.Text manifest.digest ∷ so.is.boxes ++ seen ∷ []));
          met = subst (λ (l : List Demand). AreMet manifest l (so.is.boxes ++ seen ∷ [])) (sym (take_next manifest.containers place demand some))
              (met_more manifest (take place manifest.containers) so.is.boxes demand seen so.is.met met);
          vain = inl refl;
        };
      })

  demand_more : (o : Option Demand) (turn : Turn) → slice_get manifest.containers place ≡ o → turned_demand manifest place o seen ≡ turn → HasTurn turn (seens ++ seen ∷ [])
  demand_more None turn got is = vain_more turn got is
  demand_more (Some demand) turn got is = met_turn (meets manifest demand seen) demand turn refl got is

-- ---- what was seen next

turn_more : (stage : Stage) (seens : List Seen) (seen : Seen) (turn : Turn) → HasRound stage seens → turned stage seen ≡ Ok turn → HasTurn turn (seens ++ seen ∷ [])
turn_more Database seens (saw.Text database) turn so is = subst (λ (t : Turn). HasTurn t (seens ++ saw.Text database ∷ [])) (ok_same _ _ is) (record { before = seens; round = saw.Text database ∷ []; seen = refl; is = refl })
turn_more Database seens (saw.Container size digest) turn so is = subst (λ (t : Turn). HasTurn t (seens ++ saw.Container size digest ∷ [])) (ok_same _ _ is) tt
turn_more Database seens saw.Gone turn so is = subst (λ (t : Turn). HasTurn t (seens ++ saw.Gone ∷ [])) (ok_same _ _ is) tt
turn_more (Digest database) seens (saw.Text digest) turn so is = stated_more seens database digest so (digest_in digest) turn refl is
turn_more (Digest database) seens (saw.Container size digest) turn so is = subst (λ (t : Turn). HasTurn t (seens ++ saw.Container size digest ∷ [])) (ok_same _ _ is) tt
turn_more (Digest database) seens saw.Gone turn so is = subst (λ (t : Turn). HasTurn t (seens ++ saw.Gone ∷ [])) (ok_same _ _ is) tt
turn_more (Containers manifest place) seens seen turn so is = demand_more seens manifest place so seen (slice_get manifest.containers place) turn refl (ok_same _ _ is)
turn_more (Spent name) seens seen turn so is = subst (λ (t : Turn). HasTurn t (seens ++ seen ∷ [])) (ok_same _ _ is) (spent name (seens ++ seen ∷ []))

abbrev ended_if : Bool → ℕ → Name → Copying
ended_if b more name = cond b (record { more = more; stage = Spent name }) (record { more = more - 1; stage = Database })

ended_round : (b : Bool) (more : ℕ) (name : Name) (seens : List Seen) → HasRound (ended_if b more name).stage seens
ended_round true more name seens = spent name seens
ended_round false more name seens = fresh seens

after_more : (more : ℕ) (turn : Turn) (seens : List Seen) → HasTurn turn seens → HasRound (after_turn more turn).stage seens
after_more more (On stage) seens so = so
after_more more (Ended name) seens so = ended_round (more == 0) more name seens

pub round_more : (copying next : Copying) (seens : List Seen) (seen : Seen) → HasRound copying.stage seens → having_taken copying seen ≡ Ok next → HasRound next.stage (seens ++ seen ∷ [])
round_more copying next seens seen so is = by (turned copying.stage seen) refl is
  where
    by : (r : Result Turn CopyError) → turned copying.stage seen ≡ r → onward r (λ turn. Ok (after_turn copying.more turn)) ≡ Ok next → HasRound next.stage (seens ++ seen ∷ [])
    by (Err error) was taken_is = absurd (cc)
    by (Ok turn) was taken_is =
        subst (λ (c : Copying). HasRound c.stage (seens ++ seen ∷ [])) (ok_same _ _ taken_is) (after_more copying.more turn (seens ++ seen ∷ []) (turn_more copying.stage seens seen turn so was))

pub reads_more : (seens : List Seen) (copying last : Copying) (before : List Seen) → HasRound copying.stage before → reads copying seens ≡ Ok last → HasRound last.stage (before ++ seens)
reads_more [] copying last before so is =
    subst (λ (c : Copying). HasRound c.stage (before ++ [])) (ok_same _ _ is) (subst (λ (l : List Seen). HasRound copying.stage l) (sym (append-nil before)) so)
reads_more (seen ∷ seens) copying last before so is = by (λ next. reads_more seens next last (before ++ seen ∷ [])) (having_taken copying seen) refl is
  where
    by : ((next : Copying) → HasRound next.stage (before ++ seen ∷ []) → reads next seens ≡ Ok last → HasRound last.stage ((before ++ seen ∷ []) ++ seens))
        → (r : Result Copying CopyError) → having_taken copying seen ≡ r → onward r (λ next. reads next seens) ≡ Ok last → HasRound last.stage (before ++ seen ∷ seens)
    by further (Err error) was read = absurd (cc)
    by further (Ok next) was read =
        subst (λ (l : List Seen). HasRound last.stage l) (append_assoc before (seen ∷ []) seens) (further next (round_more copying next before seen so was) read)

-- ---- agreement

none_left : (demands : List Demand) (place : ℕ) → slice_get demands place ≡ None → take place demands ≡ demands
none_left [] zero none = refl
none_left [] (suc place) none = refl
none_left (d ∷ demands) zero none = absurd (cc)
none_left (d ∷ demands) (suc place) none = ap (λ (l : List Demand). d ∷ l) (none_left demands place none)

nothing_wanted : (o : Option Demand) → container_want o ≡ wants.Whole → o ≡ None
nothing_wanted None is = refl
nothing_wanted (Some demand) is = absurd (cc)

whole_copy : (more : ℕ) (stage : Stage) (seens : List Seen) → HasRound stage seens → want_of (record { more = more; stage = stage }) ≡ wants.Whole → IsWholeCopy (record { more = more; stage = stage }) seens
whole_copy more Database seens so is = absurd (cc)
whole_copy more (Digest database) seens so is = absurd (cc)
whole_copy more (Spent name) seens so is = absurd (cc)
whole_copy more (Containers manifest place) seens so is = record {
  manifest = manifest;
  place = place;
  is = refl;
  agrees = so.is.agrees;
  before = so.before;
  boxes = so.is.boxes;
  idle = so.is.idle;
  seen = so.seen ∙ ap (λ (l : List Seen). so.before ++ l) so.is.seen;
  met = subst (λ (l : List Demand). AreMet manifest l so.is.boxes) (none_left manifest.containers place (nothing_wanted (slice_get manifest.containers place) is)) so.is.met;
}

pub agreement : Agreement
agreement seens copying read is = whole_copy copying.more copying.stage seens (reads_more seens new_copy copying [] (fresh []) read) is
