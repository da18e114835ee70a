-- The rounds as they are worked out are the rounds of the relation, and there are no others.
-- Assumes nothing.
use mathlib.Core.Path.{◌≡◌, refl, sym, ap, ◌∙◌, subst}
use mathlib.Core.Bool.{Bool, true, false, not}
use mathlib.Core.Logic.{◌⊎◌, inl, inr, ◌↔◌}
use mathlib.Core.List.{List, [], ◌∷◌, map}
use Prim.Native.Nat.{ℕ, zero, suc, ◌<◌}
use native.Mathlib.Omega.{arith}
use borrow.Author.Tests.{lt-ltb, eqb-true, eqb-false, eq-eqb, not-true}
use lib.Dec.{eqb, ltb}
use Rattle.lists.specs.Member.{◌∈◌, here, there}
use Rattle.lists.specs.Those.{those}
use Rattle.lists.specs.Sorted.{first_then, Ascending}
use Rattle.lists.proofs.TestLaws.{by, differ, either}
use Rattle.lists.proofs.MapLaws.{in_map, of_map}
use Rattle.lists.proofs.ThoseLaws.{in-those, of-those}
use Rattle.lists.proofs.SortedLaws.{of-sorted, in-sorted, sorted-ascending, ascending-same}
use Rattle.plane.specs.declared.Place.{Place}
use Rattle.plane.specs.Place.{before, same_place}
use Rattle.plane.proofs.PlaceLaws.{same_true, same_refl}
use Rattle.net.specs.Net.{Net}
use Rattle.slide.specs.declared.Side.{Side}
use Rattle.slide.specs.declared.Move.{Move}
use Rattle.slide.specs.Side.{moved}
use Rattle.slide.specs.Bend.{Edge}
use Rattle.slide.specs.Bar.{on_bar}
use Rattle.slide.specs.Slide.{shift, shift_edge, proper, in_their_order, slide, move_of, better, choice, make, rounds}
use Rattle.slide.proofs.PointLaws.{edge_order}
use Rattle.slide.proofs.ChoiceLaws.{choice-best}
use Rattle.slide.proofs.RoundLaws.{choice-has}
use Rattle.slide.proofs.SentenceLaws.{is-greatest}
use Rattle.slid_rules.specs.Bar.{OnBar}
use Rattle.slid_rules.specs.Round.{BarOf, Moves, Goes, After, Slides, Still, Rounds}
use Rattle.slid_rules.proofs.MovesIs.{saving-moves, move-is}
use Rattle.slid_rules.proofs.OneBest.{tie-one}

-- The edges after a move

module _ (m : Move) (T : List Edge) where
  abbrev on : Place → Bool
  on = on_bar m.side T m.first

  abbrev moves-to : Place → Place
  moves-to = shift m.side on m.distance

  goes : (p : Place) → Goes m T p (moves-to p)
  unfolding shift
  goes p =
      let g = (is-greatest m.side T m.first).connected p in
      by (on p) (λ e. inl (g.0 e, rw (shift, e) refl)) (λ e. inr (λ b. differ (g.1 b) e, rw (shift, e) refl))

  goes-only : (p q : Place) → Goes m T p q → q ≡ moves-to p
  unfolding shift
  goes-only p q (inl (b, e)) = rw (shift, ((is-greatest m.side T m.first).connected p).1 b) e
  goes-only p q (inr (un, e)) =
      by (on p) (λ h. absurd (un (((is-greatest m.side T m.first).connected p).0 h))) (λ h. rw (shift, h) e)

  -- an edge that is left
  abbrev From : Edge → Type 0
  From e = (o : Edge) × ((o ∈ T) × (Goes m T o.0 e.0 × (Goes m T o.1 e.1 × (e.0 ≡ e.1 → ⊥))))

  of-make : (e : Edge) → e ∈ make m T → From e
  unfolding make slide shift_edge proper
  of-make e i =
      let k = of-sorted (first_then before before) (slide m.side on m.distance T) e i in
      let r = of-those proper (map (shift_edge m.side on m.distance) T) k in
      let u = of_map (shift_edge m.side on m.distance) T r.0 in
      let is = u.is in (
        u.entry,
        (
          u.stands,
          (
            subst (λ (p : Place). Goes m T u.entry.0 p) (sym (ap (λ (d : Edge). d.0) is)) (goes u.entry.0),
            (
              subst (λ (p : Place). Goes m T u.entry.1 p) (sym (ap (λ (d : Edge). d.1) is)) (goes u.entry.1),
              λ q. differ (ap (same_place e.0) (sym q) ∙ same_refl e.0) (not-true _ r.1),
            ),
          ),
        ),
      )

  in-make : (e : Edge) → From e → e ∈ make m T
  unfolding make slide shift_edge proper
  in-make e (o, (i, (a, (b, apart)))) =
      let is : e ≡ shift_edge m.side on m.distance o =
      λ j. (goes-only o.0 e.0 a j, goes-only o.1 e.1 b j) in
      let there-in = in_map (shift_edge m.side on m.distance) i in
      let here_in = subst (λ (d : Edge). d ∈ map (shift_edge m.side on m.distance) T) (sym is) there-in in
      in-sorted (first_then before before) edge_order (slide m.side on m.distance T) e
      (in-those proper (map (shift_edge m.side on m.distance) T) here_in
      (by (same_place e.0 e.1) (λ h. absurd (apart (same_true e.0 e.1 h))) (λ h. rw h refl)))

  make-ascending : Ascending (first_then before before) (make m T)
  unfolding make
  make-ascending = sorted-ascending (first_then before before) edge_order (slide m.side on m.distance T)

  pub after-made : After m T (make m T)
  after-made = record { ordered = make-ascending; edges = λ e. (of-make e, in-make e) }

  pub after-only : (U : List Edge) → After m T U → U ≡ make m T
  after-only U a =
      ascending-same (first_then before before) edge_order U (make m T) a.ordered make-ascending
      (λ e i. in-make e ((a.edges e).0 i)) (λ e i. (a.edges e).1 (of-make e i))

-- A round

-- a saving is better than none
saves-better : (m n : Move) → (m.saving ≡ 0 → ⊥) → n.saving ≡ 0 → better m n ≡ true
unfolding better first_then
saves-better m n h e = rw (first_then, lt-ltb n.saving m.saving (positive m.saving h)) refl
  where
    positive : (k : ℕ) → (k ≡ 0 → ⊥) → n.saving < k
    positive k g = by (eqb k 0) (λ z. absurd (g (eqb-true k 0 z))) (λ z. omega (arith, eqb-false k 0 z, e))

module _ (net : Net) (d : Edge) (L : List Edge) where
  abbrev T : List Edge
  T = d ∷ L

  abbrev best : Move
  best = choice net T d L

  -- the choice is a move of a bar
  choice-moves : (best.saving ≡ 0 → ⊥) → Moves net T best
  choice-moves =
      choice-has net (λ (m : Move). (m.saving ≡ 0 → ⊥) → Moves net T m) d L (λ s e i n. saving-moves net T s e i n)

  -- and no bar has a better one
  no-better : (m : Move) → Moves net T m → better m best ≡ false
  no-better m w =
      subst (λ (n : Move). better n best ≡ false) (move-is net T m w)
      (choice-best net d L m.side w.edge w.stands)

  pub still : best.saving ≡ 0 → Still net T
  still z m w =
      by (eqb m.saving 0)
      (λ e. eqb-true m.saving 0 e)
      (λ e. differ (saves-better m best (eqb-false m.saving 0 e) z) (no-better m w))

  pub slides : (best.saving ≡ 0 → ⊥) → Slides net T (make best T)
  slides n = record {
    move = best;
    moves = choice-moves n;
    saving =
        by (eqb best.saving 0) (λ z. absurd (n (eqb-true _ 0 z))) (λ z. omega (arith, eqb-false best.saving 0 z));
    best = no-better;
    after = after-made best T;
  }

  module _ (U : List Edge) (r : Slides net T U) where
    pub best-saves : best.saving ≡ 0 → ⊥
    best-saves z =
        differ (saves-better r.move best (λ e. let h = r.saving in omega (arith, e, h)) z)
        (no-better r.move r.moves)

    pub move-one : r.move ≡ best
    move-one =
        let c = choice-moves best-saves in
        tie-one net T r.move best r.moves c (no-better r.move r.moves) (r.best best c)

    pub slides-only : U ≡ make best T
    slides-only = after-only r.move T U r.after ∙ ap (λ (m : Move). make m T) move-one

-- The rounds

module _ (net : Net) where
  nothing-moves : Still net []
  nothing-moves m w = elim w.stands [ ]

  pub rounds-ours : (n : ℕ) (T : List Edge) → Rounds net n T (rounds net n T)
  unfolding rounds
  rounds-ours zero T = refl
  rounds-ours (suc n) [] = inl (nothing-moves, refl)
  rounds-ours (suc n) (d ∷ L) =
      let m = choice net (d ∷ L) d L in
      by (eqb m.saving 0)
      (λ e. rw (rounds, e) (inl (still net d L (eqb-true _ 0 e), refl)))
      (λ e. rw (rounds, e) (inr (make m (d ∷ L), (slides net d L (eqb-false _ 0 e), rounds-ours n (make m (d ∷ L))))))

  pub rounds-only : (n : ℕ) (T S : List Edge) → Rounds net n T S → S ≡ rounds net n T
  unfolding rounds
  rounds-only zero T S e = e
  rounds-only (suc n) [] S (inl (h, e)) = e
  rounds-only (suc n) [] S (inr (U, (r, k))) = elim r.moves.stands [ ]
  rounds-only (suc n) (d ∷ L) S (inl (h, e)) =
      let m = choice net (d ∷ L) d L in
      by (eqb m.saving 0)
      (λ z. rw (rounds, z) e)
      (λ z. let r = slides net d L (eqb-false _ 0 z) in
      let g = r.saving in let k = h r.move r.moves in absurd (omega (arith, g, k)))
  rounds-only (suc n) (d ∷ L) S (inr (U, (r, k))) =
      let m = choice net (d ∷ L) d L in
      by (eqb m.saving 0)
      (λ z. absurd (best-saves net d L U r (eqb-true _ 0 z)))
      (λ z. rw (rounds, z) (subst (λ (t : List Edge). S ≡ rounds net n t) (slides-only net d L U r) (rounds-only n U S k)))
