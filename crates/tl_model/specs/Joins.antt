-- How runs join.
use Rattle.std.specs.Prelude.{◌≡◌, ◌≤◌, ◌+◌, ℕ, zero, suc, Bool, true, List, [], ◌∷◌, ◌++◌, take, drop, Option, Some, refl}
use Rattle.std.proofs.Common.{sym, ◌∙◌, ap, subst, inl, inr, arith, append_assoc}
use Rattle.std.proofs.lemmas.List.{append-nil, append_cancel_left, take-append-drop}
use Rattle.tl_model.specs.Volume.{Volume}
use Rattle.tl_model.specs.Seen.{Seen, Quiet, Says, IsPicture, saying}
use Rattle.tl_model.specs.Pictures.{since_join, since_weaker, since_start, after_quiet, after_say}
use Rattle.tl_model.specs.Acks.{acks, acks-nil, acks-append, acks-take-le, open_line, open_line-append, IsPlain}
use Rattle.tl_model.specs.Trace.{Event, Text, Step, said_by, steps_of, tree_after, tree_at, AreLines, IsFront, IsStop, IsCut, Pictures, Trace, Cut, Paused}

-- lists of events

pub said_by-append : (es fs : List Event) → said_by (es ++ fs) ≡ said_by es ++ said_by fs
said_by-append [] fs = refl
said_by-append (Text bytes ∷ es) fs = ap (λ (l : List ℕ). bytes ++ l) (said_by-append es fs) ∙ sym (append_assoc bytes (said_by es) (said_by fs))
said_by-append (Step next label ∷ es) fs = ap (λ (l : List ℕ). label ++ l) (said_by-append es fs) ∙ sym (append_assoc label (said_by es) (said_by fs))

pub steps_of-append : (es fs : List Event) → steps_of (es ++ fs) ≡ steps_of es + steps_of fs
steps_of-append [] fs = omega arith
steps_of-append (Text bytes ∷ es) fs = steps_of-append es fs
steps_of-append (Step next label ∷ es) fs = omega (arith, steps_of-append es fs)

pub tree_after-append : (es fs : List Event) (tree : Volume) → tree_after (es ++ fs) tree ≡ tree_after fs (tree_after es tree)
tree_after-append [] fs tree = refl
tree_after-append (Text bytes ∷ es) fs tree = tree_after-append es fs tree
tree_after-append (Step next label ∷ es) fs tree = tree_after-append es fs next

pub lines-append : (es fs : List Event) → AreLines es → AreLines fs → AreLines (es ++ fs)
lines-append [] fs far near = near
lines-append (Text bytes ∷ es) fs far near = (far.0, lines-append es fs far.1 near)
lines-append (Step next label ∷ es) fs far near = (far.0, lines-append es fs far.1 near)

-- before the first step
pub tree_at-zero : (es : List Event) (tree : Volume) → tree_at 0 es tree ≡ tree
tree_at-zero [] tree = refl
tree_at-zero (Text bytes ∷ es) tree = tree_at-zero es tree
tree_at-zero (Step next label ∷ es) tree = refl

-- after the last step
pub tree_at-end : (es : List Event) (tree : Volume) → tree_at (steps_of es) es tree ≡ tree_after es tree
tree_at-end [] tree = refl
tree_at-end (Text bytes ∷ es) tree = tree_at-end es tree
tree_at-end (Step next label ∷ es) tree = tree_at-end es next

-- within the first of two runs
pub tree_at-left : (count : ℕ) (es fs : List Event) (tree : Volume) → count ≤ steps_of es → tree_at count (es ++ fs) tree ≡ tree_at count es tree
tree_at-left zero [] fs tree le = tree_at-zero fs tree
tree_at-left (suc count) [] fs tree le = absurd (omega arith)
tree_at-left count (Text bytes ∷ es) fs tree le = tree_at-left count es fs tree le
tree_at-left zero (Step next label ∷ es) fs tree le = refl
tree_at-left (suc count) (Step next label ∷ es) fs tree le = tree_at-left count es fs next (omega arith)

-- within the second
pub tree_at-right : (count : ℕ) (es fs : List Event) (tree : Volume) → tree_at (steps_of es + count) (es ++ fs) tree ≡ tree_at count fs (tree_after es tree)
tree_at-right count [] fs tree = let same : 0 + count ≡ count = omega arith in ap (λ (k : ℕ). tree_at k fs tree) same
tree_at-right count (Text bytes ∷ es) fs tree = tree_at-right count es fs tree
tree_at-right count (Step next label ∷ es) fs tree =
    let same : suc (steps_of es) + count ≡ suc (steps_of es + count) = omega arith in
    ap (λ (k : ℕ). tree_at k (Step next label ∷ (es ++ fs)) tree) same ∙ tree_at-right count es fs next

-- a whole run ends at the end of a line
pub open_line-said_by : (es : List Event) → AreLines es → open_line [] (said_by es) ≡ []
open_line-said_by [] lines = refl
open_line-said_by (Text bytes ∷ es) lines = open_line-append [] bytes (said_by es) ∙ ap (λ (l : List ℕ). open_line l (said_by es)) lines.0.whole ∙ open_line-said_by es lines.1
open_line-said_by (Step next label ∷ es) lines = open_line-append [] label (said_by es) ∙ ap (λ (l : List ℕ). open_line l (said_by es)) lines.0.whole ∙ open_line-said_by es lines.1

-- a whole run acknowledges each of its steps
pub acks-said_by : (es : List Event) → AreLines es → acks (said_by es) ≡ steps_of es
acks-said_by [] lines = acks-nil
acks-said_by (Text bytes ∷ es) lines = omega (arith, acks-append bytes (said_by es) lines.0.whole, lines.0.none, acks-said_by es lines.1)
acks-said_by (Step next label ∷ es) lines = omega (arith, acks-append label (said_by es) lines.0.whole, lines.0.one, acks-said_by es lines.1)

-- the lines acknowledged by a whole run and by what is said behind it
pub acks-behind : (es : List Event) (more : List ℕ) → AreLines es → acks (said_by es ++ more) ≡ steps_of es + acks more
acks-behind es more lines = omega (arith, acks-append (said_by es) more (open_line-said_by es lines), acks-said_by es lines)

-- bytes behind a whole run
pub front-behind : (es fs : List Event) (more : List ℕ) → IsFront more (said_by fs) → IsFront (said_by es ++ more) (said_by (es ++ fs))
front-behind es fs more front = (front.0, said_by-append es fs ∙ ap (λ (l : List ℕ). said_by es ++ l) front.1 ∙ sym (append_assoc (said_by es) more front.0))

-- a front of a run's bytes is one of a longer run's
pub front-longer : (es fs : List Event) (more : List ℕ) → IsFront more (said_by es) → IsFront more (said_by (es ++ fs))
front-longer es fs more front = (front.0 ++ said_by fs, said_by-append es fs ∙ ap (λ (l : List ℕ). l ++ said_by fs) front.1 ∙ append_assoc more front.0 (said_by fs))

-- no bytes are the front of none but themselves
pub front-nil : (more : List ℕ) → IsFront more [] → more ≡ []
front-nil [] front = refl
front-nil (b ∷ more) front = absurd (cc (front.1))

no_bytes : (n : ℕ) → let none : List ℕ = [] in take n none ≡ none
no_bytes zero = refl
no_bytes (suc n) = refl

module _ (stand : Volume → Option Volume) where
  -- before the first call, each picture is one of the start
  pub pictures_start : (first : Seen) (events : List Event) (tree : Volume) → Pictures stand first first tree events
  pictures_start first events tree = since_start first (IsCut stand first events tree) (λ image said picture. (
    [],
    picture.words ∙ ap (λ (l : List ℕ). first.present.said ++ l) (no_bytes picture.count),
    (said_by events, refl),
    inr (acks-nil, record { others = picture.others; count = 0; words = sym (append-nil first.present.said) }),
  ))

  -- a cut of the first events is one of them with those that follow
  cut_left : (first : Seen) (es fs : List Event) (tree image : Volume) (said : List ℕ) → IsCut stand first es tree image said → IsCut stand first (es ++ fs) tree image said
  cut_left first es fs tree image said cut = (
    cut.0,
    cut.1,
    front-longer es fs cut.0 cut.2,
    elim cut.3 [
      | inl stop ↦ inl (record {
        steps = stop.steps;
        within = omega (arith, stop.within, steps_of-append es fs);
        stands = stop.stands ∙ ap Some (sym (tree_at-left stop.steps es fs tree stop.within));
        count = stop.count;
      })
      | inr start ↦ inr start
    ],
  )

  -- a stop within a second run is one of both
  stop_right : (es fs : List Event) (tree image : Volume) (more : List ℕ) → AreLines es → IsStop stand fs (tree_after es tree) image more → IsStop stand (es ++ fs) tree image (said_by es ++ more)
  stop_right es fs tree image more lines stop = record {
    steps = steps_of es + stop.steps;
    within = omega (arith, stop.within, steps_of-append es fs);
    stands = stop.stands ∙ ap Some (sym (tree_at-right stop.steps es fs tree));
    count = record {
      least = omega (arith, stop.count.least, acks-behind es more lines);
      most = omega (arith, stop.count.most, acks-behind es more lines);
    };
  }

  -- a picture that could be left after a whole run, with no line acknowledged since
  cut_start : (first mid : Seen) (es fs : List Event) (tree image : Volume) (more said : List ℕ) → Trace stand first mid tree es → said ≡ mid.present.said ++ more → IsFront more (said_by fs) → acks more ≡ 0
      → IsCut stand first es tree image mid.present.said → IsCut stand first (es ++ fs) tree image said
  cut_start first mid es fs tree image more said trace is front none cut =
      let same : cut.0 ≡ said_by es = append_cancel_left first.present.said cut.0 (said_by es) (sym cut.1 ∙ trace.said) in
      let all : acks cut.0 ≡ steps_of es = ap acks same ∙ acks-said_by es trace.lines in (
        said_by es ++ more,
        is ∙ ap (λ (l : List ℕ). l ++ more) trace.said ∙ append_assoc first.present.said (said_by es) more,
        front-behind es fs more front,
        elim cut.3 [
          | inl stop ↦ inl (record {
            steps = stop.steps;
            within = omega (arith, stop.within, steps_of-append es fs);
            stands = stop.stands ∙ ap Some (sym (tree_at-left stop.steps es fs tree stop.within));
            count = record {
              least = omega (arith, stop.count.least, acks-behind es more trace.lines, all, none);
              most = omega (arith, stop.within, acks-behind es more trace.lines, none);
            };
          })
          | inr start ↦ inr (omega (arith, acks-behind es more trace.lines, start.0, all, none), start.1)
        ],
      )

  cut_right : (first mid : Seen) (es fs : List Event) (tree image : Volume) (said : List ℕ) → Trace stand first mid tree es → IsCut stand mid fs (tree_after es tree) image said → IsCut stand first (es ++ fs) tree image said
  cut_right first mid es fs tree image said trace cut = elim cut.3 [
    | inl stop ↦ (
      said_by es ++ cut.0,
      cut.1 ∙ ap (λ (l : List ℕ). l ++ cut.0) trace.said ∙ append_assoc first.present.said (said_by es) cut.0,
      front-behind es fs cut.0 cut.2,
      inl (stop_right es fs tree image cut.0 trace.lines stop),
    )
    | inr start ↦ cut_start first mid es fs tree image cut.0 said trace cut.1 cut.2 start.0 (trace.pictures.present image mid.present.said start.1)
  ]

  -- the pictures of a whole run and of one that follows
  pub pictures_join : (first mid last : Seen) (tree : Volume) (es fs : List Event) → Trace stand first mid tree es → Pictures stand mid last (tree_after es tree) fs → Pictures stand first last tree (es ++ fs)
  pictures_join first mid last tree es fs trace near = since_join first mid last (IsCut stand first (es ++ fs) tree)
      (since_weaker first mid _ _ (λ image said cut. cut_left first es fs tree image said cut) trace.pictures)
      (since_weaker mid last _ _ (λ image said cut. cut_right first mid es fs tree image said trace cut) near)

  -- a whole run, and then another
  pub trace_join : (first mid last : Seen) (tree : Volume) (es fs : List Event) → Trace stand first mid tree es → Trace stand mid last (tree_after es tree) fs → Trace stand first last tree (es ++ fs)
  trace_join first mid last tree es fs far near = record {
    lines = lines-append es fs far.lines near.lines;
    said = near.said ∙ ap (λ (l : List ℕ). l ++ said_by fs) far.said ∙ append_assoc first.present.said (said_by es) (said_by fs) ∙ ap (λ (l : List ℕ). first.present.said ++ l) (sym (said_by-append es fs));
    stands = near.stands ∙ ap Some (sym (tree_after-append es fs tree));
    pictures = pictures_join first mid last tree es fs far near.pictures;
  }

  -- a whole run, and then one that was cut off
  pub cut_join : (first mid last : Seen) (tree : Volume) (es fs : List Event) → Trace stand first mid tree es → Cut stand mid last (tree_after es tree) fs → Cut stand first last tree (es ++ fs)
  cut_join first mid last tree es fs far near = record {
    more = said_by es ++ near.more;
    said = near.said ∙ ap (λ (l : List ℕ). l ++ near.more) far.said ∙ append_assoc first.present.said (said_by es) near.more;
    front = front-behind es fs near.more near.front;
    stop = stop_right es fs tree last.present.held near.more far.lines near.stop;
    pictures = pictures_join first mid last tree es fs far near.pictures;
  }

  -- a run that was cut off is one of a longer list too
  pub cut_longer : (first last : Seen) (tree : Volume) (es fs : List Event) → Cut stand first last tree es → Cut stand first last tree (es ++ fs)
  cut_longer first last tree es fs cut = record {
    more = cut.more;
    said = cut.said;
    front = front-longer es fs cut.more cut.front;
    stop = record {
      steps = cut.stop.steps;
      within = omega (arith, cut.stop.within, steps_of-append es fs);
      stands = cut.stop.stands ∙ ap Some (sym (tree_at-left cut.stop.steps es fs tree cut.stop.within));
      count = cut.stop.count;
    };
    pictures = since_weaker first last _ _ (λ image said here. cut_left first es fs tree image said here) cut.pictures;
  }

  -- a whole run, and then one that gave up
  pub paused_join : (first mid last : Seen) (tree : Volume) (es fs : List Event) → Trace stand first mid tree es → Paused stand mid last (tree_after es tree) fs → Paused stand first last tree (es ++ fs)
  paused_join first mid last tree es fs far near = record {
    more = said_by es ++ near.more;
    said = near.said ∙ ap (λ (l : List ℕ). l ++ near.more) far.said ∙ append_assoc first.present.said (said_by es) near.more;
    front = front-behind es fs near.more near.front;
    within = omega (arith, near.within, steps_of-append es fs, acks-behind es near.more far.lines);
    stands = near.stands ∙ ap Some (sym (ap (λ (k : ℕ). tree_at k (es ++ fs) tree) (acks-behind es near.more far.lines) ∙ tree_at-right (acks near.more) es fs tree));
    pictures = pictures_join first mid last tree es fs far near.pictures;
  }

  -- a run that gave up is one of a longer list too
  pub paused_longer : (first last : Seen) (tree : Volume) (es fs : List Event) → Paused stand first last tree es → Paused stand first last tree (es ++ fs)
  paused_longer first last tree es fs paused = record {
    more = paused.more;
    said = paused.said;
    front = front-longer es fs paused.more paused.front;
    within = omega (arith, paused.within, steps_of-append es fs);
    stands = paused.stands ∙ ap Some (sym (tree_at-left (acks paused.more) es fs tree paused.within));
    pictures = since_weaker first last _ _ (λ image said here. cut_left first es fs tree image said here) paused.pictures;
  }

  -- a whole run may give up behind its last event
  pub trace_paused : (first last : Seen) (tree : Volume) (events : List Event) → Trace stand first last tree events → Paused stand first last tree events
  trace_paused first last tree events trace = record {
    more = said_by events;
    said = trace.said;
    front = ([], sym (append-nil (said_by events)));
    within = omega (arith, acks-said_by events trace.lines);
    stands = trace.stands ∙ ap Some (sym (ap (λ (k : ℕ). tree_at k events tree) (acks-said_by events trace.lines) ∙ tree_at-end events tree));
    pictures = trace.pictures;
  }

  -- a run that gave up is cut off there
  pub paused_cut : (first last : Seen) (tree : Volume) (events : List Event) → Paused stand first last tree events → Cut stand first last tree events
  paused_cut first last tree events paused = record {
    more = paused.more;
    said = paused.said;
    front = paused.front;
    stop = record {
      steps = acks paused.more;
      within = paused.within;
      stands = paused.stands;
      count = record { least = omega arith; most = omega arith };
    };
    pictures = paused.pictures;
  }

  -- a picture of a run without events behind one that gave up
  cut_rest : (first mid : Seen) (tree : Volume) (events : List Event) (paused : Paused stand first mid tree events) (image : Volume) (said : List ℕ)
      → IsCut stand mid [] (tree_at (acks paused.more) events tree) image said → IsCut stand first events tree image said
  cut_rest first mid tree events paused image said cut =
      let words : said ≡ mid.present.said = cut.1 ∙ ap (λ (l : List ℕ). mid.present.said ++ l) (front-nil cut.0 cut.2) ∙ append-nil mid.present.said in
      elim cut.3 [
        | inl stop ↦ (
          paused.more,
          words ∙ paused.said,
          paused.front,
          inl (record {
            steps = acks paused.more;
            within = paused.within;
            stands = stop.stands;
            count = record { least = omega arith; most = omega arith };
          }),
        )
        | inr start ↦ subst (λ (l : List ℕ). IsCut stand first events tree image l) (sym words) (paused.pictures.present image mid.present.said start.1)
      ]

  -- the pictures of a run that gave up, and of one without events that follows
  pub pictures_rest : (first mid last : Seen) (tree : Volume) (events : List Event) (paused : Paused stand first mid tree events) → Pictures stand mid last (tree_at (acks paused.more) events tree) [] → Pictures stand first last tree events
  pictures_rest first mid last tree events paused near =
      since_join first mid last (IsCut stand first events tree) paused.pictures (since_weaker mid last _ _ (λ image said cut. cut_rest first mid tree events paused image said cut) near)

  -- a run that gave up, and then one without events
  pub paused_rest : (first mid last : Seen) (tree : Volume) (events : List Event) (paused : Paused stand first mid tree events) → Trace stand mid last (tree_at (acks paused.more) events tree) [] → Paused stand first last tree events
  paused_rest first mid last tree events paused trace = record {
    more = paused.more;
    said = trace.said ∙ append-nil mid.present.said ∙ paused.said;
    front = paused.front;
    within = paused.within;
    stands = trace.stands;
    pictures = pictures_rest first mid last tree events paused trace.pictures;
  }

  -- a run that gave up, and then one without events that was cut off
  pub paused_rest_cut : (first mid last : Seen) (tree : Volume) (events : List Event) (paused : Paused stand first mid tree events) → Cut stand mid last (tree_at (acks paused.more) events tree) [] → Cut stand first last tree events
  paused_rest_cut first mid last tree events paused cut = record {
    more = paused.more;
    said = cut.said ∙ ap (λ (l : List ℕ). mid.present.said ++ l) (front-nil cut.more cut.front) ∙ append-nil mid.present.said ∙ paused.said;
    front = paused.front;
    stop = record {
      steps = acks paused.more;
      within = paused.within;
      stands = cut.stop.stands;
      count = record { least = omega arith; most = omega arith };
    };
    pictures = pictures_rest first mid last tree events paused cut.pictures;
  }

  -- a host that stands for a tree, before the first call
  pub trace_start : (first : Seen) (tree : Volume) → stand first.present.held ≡ Some tree → Trace stand first first tree []
  trace_start first tree stood = record {
    lines = tt;
    said = sym (append-nil first.present.said);
    stands = stood;
    pictures = pictures_start first [] tree;
  }

  -- calls that change nothing go on with a whole run
  pub trace_quiet : (first mid last : Seen) (tree : Volume) (events : List Event) → Trace stand first mid tree events → Quiet mid last → Trace stand first last tree events
  trace_quiet first mid last tree events far quiet = record {
    lines = far.lines;
    said = ap (λ m. m.said) quiet.present ∙ far.said;
    stands = ap (λ m. stand m.held) quiet.present ∙ far.stands;
    pictures = after_quiet first mid last (IsCut stand first events tree) far.pictures quiet;
  }

  -- while a plain text is said, before any step
  text_cut : (first : Seen) (tree image : Volume) (bytes said : List ℕ) → IsPlain bytes → IsPicture (saying bytes first.present) image said → IsCut stand first (Text bytes ∷ []) tree image said
  text_cut first tree image bytes said plain picture = (
    take picture.count bytes,
    picture.words,
    (drop picture.count bytes ++ [], ap (λ (l : List ℕ). l ++ []) (sym (take-append-drop picture.count bytes)) ∙ append_assoc (take picture.count bytes) (drop picture.count bytes) []),
    inr (omega (arith, acks-take-le picture.count bytes, plain.none), record { others = picture.others; count = 0; words = sym (append-nil first.present.said) }),
  )

  text_pictures : (ok : Bool) (first last : Seen) (tree : Volume) (bytes : List ℕ) → IsPlain bytes → Says ok bytes first last → Pictures stand first last tree (Text bytes ∷ [])
  text_pictures ok first last tree bytes plain says =
      after_say first first last (IsCut stand first (Text bytes ∷ []) tree) ok bytes (pictures_start first (Text bytes ∷ []) tree) says (λ image said picture. text_cut first tree image bytes said plain picture)

  -- a plain text that was said is a whole run
  pub trace_text : (first last : Seen) (tree : Volume) (bytes : List ℕ) → stand first.present.held ≡ Some tree → IsPlain bytes → Says true bytes first last → Trace stand first last tree (Text bytes ∷ [])
  trace_text first last tree bytes stood plain says = record {
    lines = (plain, tt);
    said = says.whole refl ∙ ap (λ (l : List ℕ). first.present.said ++ l) (sym (append-nil bytes));
    stands = ap stand says.held ∙ stood;
    pictures = text_pictures true first last tree bytes plain says;
  }

  -- a plain text of which a front was said
  pub cut_text : (ok : Bool) (first last : Seen) (tree : Volume) (bytes : List ℕ) → stand first.present.held ≡ Some tree → IsPlain bytes → Says ok bytes first last → Cut stand first last tree (Text bytes ∷ [])
  cut_text ok first last tree bytes stood plain says = record {
    more = take says.count bytes;
    said = says.said;
    front = (drop says.count bytes ++ [], ap (λ (l : List ℕ). l ++ []) (sym (take-append-drop says.count bytes)) ∙ append_assoc (take says.count bytes) (drop says.count bytes) []);
    stop = record {
      steps = 0;
      within = omega arith;
      stands = ap stand says.held ∙ stood;
      count = record { least = omega (arith, acks-take-le says.count bytes, plain.none); most = omega arith };
    };
    pictures = text_pictures ok first last tree bytes plain says;
  }
