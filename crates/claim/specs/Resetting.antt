-- A reset in either mode: the engine's and the ledger's. Assumes nothing.
use Rattle.std.specs.Prelude.{◌≡◌, refl, List, [], ◌∷◌, ◌++◌, map, ℕ, zero, suc, ◌+◌, ◌≤◌, min, get_or, set, length, take, drop}
use Rattle.std.proofs.Common.{sym, ap, ◌∙◌, subst, append_assoc, append-nil, arith, length-set, length-append, drop-cons, take-suc-set, drop-set-lt}
use Rattle.event.specs.declared.Event.{Event}
use Rattle.event.specs.declared.ReplayMode.{ReplayMode}
use Rattle.event.specs.declared.ReplayMode.TheVariants.{All, None}
use Rattle.event.specs.Events.{rewound}
use Rattle.event.specs.Blank.{blank}
use Rattle.ledger.specs.Lists.{numbers}
use Rattle.ledger.specs.Ledger.{Ledger}
use Rattle.ledger.specs.Steps.{everything, restart}
use Rattle.ledger.specs.Lawful.{Lawful}
use Rattle.ready.specs.declared.Ready.{Ready}
use Rattle.ready.proofs.Waits.{waits-none, waits-map, waits-length}
use Rattle.ready.specs.Waits.{Waits}
use Rattle.lists.specs.Holds.{holds-length, holds-none}
use Rattle.sequencer.specs.declared.Sequencer.{Sequencer}
use Rattle.sequencer.specs.Moves.{heap_of, all_to_ready}
use Rattle.sequencer.specs.Resets.{rewinds, rewound_ready, reset_by, resets}
use Rattle.claim.specs.Related.{Related}
use Rattle.claim.specs.Advance.{numbers-length}
use Rattle.claim.specs.AllToReady.{all_ready}

-- ---- All: everything goes to W, and the sources to their beginning

rewinds-length : (f : ℕ) (xs : List Event) (i : ℕ) → length (rewinds f xs i) ≡ length xs
unfolding rewinds
rewinds-length zero xs i = refl
rewinds-length (suc f) xs i = rewinds-length f (set xs i (rewound (get_or xs i blank))) (suc i) ∙ length-set xs i (rewound (get_or xs i blank))

rewinds_front : (f : ℕ) (xs : List Event) (i : ℕ) → i + f ≤ length xs → take (i + f) (rewinds f xs i) ≡ take i xs ++ map rewound (take f (drop i xs))
unfolding rewinds
rewinds_front zero xs i h = (let q : i + 0 ≡ i = omega arith in ap (λ (n : ℕ). take n xs) q) ∙ sym (append-nil (take i xs))
rewinds_front (suc f) xs i h =
    let v = rewound (get_or xs i blank) in
    let q : i + suc f ≡ suc i + f = omega arith in
    ap (λ (n : ℕ). take n (rewinds f (set xs i v) (suc i))) q
    ∙ rewinds_front f (set xs i v) (suc i) (rw length-set (omega arith))
    ∙ ap (λ (y : List Event). y ++ map rewound (take f (drop (suc i) (set xs i v)))) (take-suc-set xs i v (omega arith))
    ∙ ap (λ (y : List Event). (take i xs ++ (v ∷ [])) ++ map rewound (take f y)) (drop-set-lt (suc i) xs i v (omega arith))
    ∙ append_assoc (take i xs) (v ∷ []) (map rewound (take f (drop (suc i) xs)))
    ∙ ap (λ (y : List Event). take i xs ++ map rewound (take (suc f) y)) (sym (drop-cons xs i blank (omega arith)))

waits-rewound : (h : Ready) (w : List Event) → Waits h w → Waits (record { items = rewinds (min h.len 256) h.items 0; len = h.len }) (map rewound w)
waits-rewound h w s =
    let n : h.len ≡ min h.len 256 = omega (arith, s.sized, s.stands.fits) in
    let o : h.len ≡ 0 + h.len = omega arith in
    let ys = rewinds h.len h.items 0 in
    subst (λ (m : ℕ). Waits (record { items = rewinds m h.items 0; len = h.len }) (map rewound w)) n
    (waits-map rewound (λ a b. refl) h ys w (rewinds-length h.len h.items 0 ∙ s.sized)
    (ap (λ (m : ℕ). take m ys) o ∙ rewinds_front h.len h.items 0 (omega (arith, s.stands.fits))) s)

reset-all : (s : Sequencer) (l : Ledger) → Lawful l → Related s l → Related (reset_by s All) (restart l All)
unfolding reset_by rewound_ready restart
reset-all s l w r =
    let z = all_ready s l w r in
    record {
      lists = (waits-rewound (heap_of (all_to_ready s)) (everything l) z.0.0, z.0.1, z.0.2, z.0.3, z.0.4);
      plain = (refl, refl, z.1.2, z.1.3, z.1.4, z.1.5, z.1.6, z.1.7);
    }

-- ---- None: all four lists empty, and the numbers of F, W and S are let go

reset-none : (s : Sequencer) (l : Ledger) → Lawful l → Related s l → Related (reset_by s None) (restart l None)
unfolding reset_by restart
reset-none s l w r =
    let a = numbers l.finished in
    let b = numbers l.waiting in
    let c = numbers l.sounding in
    record {
      lists = (
        waits-none s.ready r.lists.0.sized,
        holds-none s.active r.lists.1.sized,
        holds-none s.active_map r.lists.2.sized,
        holds-none s.past r.lists.3.sized,
        holds-none s.edit_map.items r.lists.4.sized,
      );
      plain = (
        refl,
        refl,
        r.plain.2,
        r.plain.3,
        r.plain.4,
        r.plain.5,
        r.plain.6,
        omega (
          arith,
          w.counted,
          w.events,
          r.plain.7,
          waits-length r.lists.0,
          holds-length r.lists.1,
          holds-length r.lists.3,
          length-append l.gone (a ++ (b ++ c)),
          length-append a (b ++ c),
          length-append b c,
          numbers-length l.finished,
          numbers-length l.waiting,
          numbers-length l.sounding,
        ),
      );
    }

pub related_reset : (s : Sequencer) (l : Ledger) → Lawful l → Related s l → Related (resets s) (restart l l.mode)
related_reset s l w r = subst (λ (m : ReplayMode). Related (reset_by s m) (restart l l.mode)) (sym r.plain.5) (go l.mode)
  where
    go : (m : ReplayMode) → Related (reset_by s m) (restart l m)
    go All = reset-all s l w r
    go None = reset-none s l w r
