-- A round keeps what is promised, and the cost falls by its saving; so all rounds together never raise it, nor the number of edges.
-- Assumes nothing.
use mathlib.Core.Path.{◌≡◌, refl, sym, ap, ◌∙◌, subst}
use mathlib.Core.Bool.{Bool, true, false, not}
use mathlib.Core.Logic.{◌⊎◌}
use mathlib.Core.List.Memᴰ
use mathlib.Core.List.{List, [], ◌∷◌, map}
use Prim.Native.Nat.{ℕ, zero, suc, ◌+◌, ◌≤◌, ◌<◌}
use native.Mathlib.Omega.{arith}
use native.Mathlib.Nat.{zero-mul}
use borrow.Author.Tests.{ltb-true, eqb-false}
use lib.Dec.{eqb, ltb}
use lib.ListN.{length}
use Rattle.lists.specs.Any.{any}
use Rattle.lists.specs.Member.{◌∈◌, here, there, Among, Once}
use Rattle.lists.specs.Those.{those}
use Rattle.lists.specs.Sorted.{sorted, first_then, Ascending}
use Rattle.lists.proofs.TestLaws.{by, either, not-true, and_left, and_right}
use Rattle.lists.proofs.ThoseLaws.{of-those}
use Rattle.lists.proofs.SortedLaws.{in-sorted, of-sorted, sorted-ascending, ascending-once}
use Rattle.plane.specs.declared.Place.{Place}
use Rattle.plane.specs.Place.{before}
use Rattle.plane.proofs.PlaceOrder.{place-order, place_same}
use Rattle.joined.specs.Joined.{Inside}
use Rattle.joined.specs.Tree.{TreeOn}
use Rattle.joined.specs.Cost.{lengths}
use Rattle.joined.specs.Labels.{equal, labels}
use Rattle.joined.proofs.LabelLaws.{equal-true, equal-false}
use Rattle.net.specs.Net.{Net, cost_in}
use Rattle.slide.specs.declared.Side.{Side}
use Rattle.slide.specs.declared.Side.TheVariants.{Above, Below, Right, Left}
use Rattle.slide.specs.Bend.{Edge}
use Rattle.slide.specs.Bar.{same, level, on_bar, ahead, behind, shortest}
use Rattle.slide.specs.Sweep.{first_place, last_place, allowed, reach, surplus, saving_of}
use Rattle.slide.specs.declared.Move.{Move}
use Rattle.slide.specs.Slide.{tree_points, in_their_order, shift, slide, moves, distance_of, move_of, moves_of, better, best_of, choice}
use Rattle.slide.specs.Slide.{make, rounds}
use Rattle.slide.specs.Bars.{IsBar, Allowed}
use Rattle.slide.specs.Promise.{Straight, Smaller, Within, Sound, RoundsOf}
use Rattle.slide.proofs.GlueLaws.{UprightAll}
use Rattle.slide.proofs.SlideLaws.{slide-fewer, slide-tree, slide-inside, slide-pinned, slide-clear, slide-straight, slide-saves}
use Rattle.slide.proofs.BarLaws.{first_one, is-bar, first_on, is-allowed, greatest-le, greatest-passes}
use Rattle.slide.proofs.EndLaws.{slide-ends}
use Rattle.slide.proofs.RangeLaws.{leads, slide-within}
use Rattle.slide.proofs.SmallerLaws.{slide-smaller}
use Rattle.slide.proofs.ChoiceLaws.{choice-best}
use Rattle.joined.proofs.OneTreeLaws.{tree-one}
use Rattle.slide.proofs.PointLaws.{edge_order, points-are, sorted-length, sorted-sound, sorted-costs, points-sound}

-- One round

equal-itself : (x : Place) → equal same x x ≡ true
equal-itself x = by (equal same x x) (λ e. e) (λ e. absurd (equal-false same x x e refl))

pub on-itself : (s : Side) (T : List Edge) (a : Place) → on_bar s T a a ≡ true
unfolding on_bar
on-itself s T a = equal-itself _

-- a bar is the bar of each of its points
pub one-bar : (s : Side) (T : List Edge) (a b : Place) → on_bar s T a b ≡ true → on_bar s T b ≡ on_bar s T a
unfolding on_bar
one-bar s T a b e = λ i p. equal same (sym (equal-true same _ _ e) i) (labels same (those (level s) T) p)

module _ (net : Net) (upright : UprightAll net.macros) (pin : Place) (has-pin : pin ∈ net.pins) where
  -- what a round does
  pub record RoundSound (T U : List Edge) (saving : ℕ) : Type 0 where
    pub sound : Sound net (tree_points net U) U
    pub lines : Straight U
    pub saves : lengths (cost_in net) U + saving ≡ lengths (cost_in net) T
    pub fewer : length U ≤ length T
    pub within : (lo hi : Place) → Within lo hi T → Within lo hi U
    pub smaller : Smaller T → Smaller U

  -- the same with the edges in order
  ordered : (T U : List Edge) (saving : ℕ) → RoundSound T U saving → RoundSound T (in_their_order U) saving
  ordered T U saving r = record {
    sound = points-sound (in_their_order U) (sorted-sound U r.sound) pin has-pin;
    lines = λ a b m. r.lines a b (of-sorted (first_then before before) U (a, b) m);
    saves = ap (λ (n : ℕ). n + saving) (sorted-costs U r.sound) ∙ r.saves;
    fewer = omega (arith, sorted-length U r.sound, r.fewer);
    within = λ lo hi i a b m. r.within lo hi i a b (of-sorted (first_then before before) U (a, b) m);
    smaller = λ i a b m. r.smaller i a b (of-sorted (first_then before before) U (a, b) m);
  }

  module _ (T : List Edge) (t : Sound net (tree_points net T) T) (lines : Straight T) where
    -- a bar that moves by a distance that passes
    module _ (s : Side) (a b : Place) (m : (a, b) ∈ T) (free : any (on_bar s T a) net.pins ≡ false)
        (more : length (those (behind s (on_bar s T a)) T) < length (those (ahead s (on_bar s T a)) T))
        (d : ℕ) (short : d ≤ shortest s (on_bar s T a) T) (ok : allowed s (on_bar s T a) (tree_points net T) T a net d ≡ true) where
      abbrev on : Place → Bool
      on = on_bar s T a

      c : IsBar s net (tree_points net T) T on
      c = is-bar s net (tree_points net T) T a t.inside (t.inside a b m).0 free

      w : Allowed s net (tree_points net T) T on (first_place s on (tree_points net T) T a) (last_place s on (tree_points net T) T a) d
      w = is-allowed c lines a (on-itself s T a) d short ok

      abbrev Y : List Place
      Y = sorted before (map (shift s on d) (tree_points net T))

      pub slid-sound : RoundSound T (slide s on d T) (saving_of s on net T d)
      slid-sound = record {
        sound = subst (λ (Z : List Place). Sound net Z (slide s on d T))
            (points-are net (slide s on d T) tree inside pinned pin has-pin ascending)
            (record {
              tree = tree;
              inside = inside;
              pinned = pinned;
              free = slide-clear c w upright lines t.free;
              ends = slide-ends c w t.tree t.inside t.ends;
            });
        lines = slide-straight c w lines;
        saves = slide-saves c w net lines (omega (arith, more));
        fewer = slide-fewer s on d T;
        within = slide-within c w (leads s T on (omega (arith, more)));
        smaller = slide-smaller c w lines;
      }
        where
          ascending : Ascending before Y
          ascending = sorted-ascending before place-order (map (shift s on d) (tree_points net T))

          all : Among (map (shift s on d) (tree_points net T)) Y
          all = in-sorted before place-order (map (shift s on d) (tree_points net T))

          only : Among Y (map (shift s on d) (tree_points net T))
          only = of-sorted before (map (shift s on d) (tree_points net T))

          once : Once Y
          once = ascending-once before place-order Y ascending

          tree : TreeOn Y (slide s on d T)
          tree = slide-tree c w Y all once only t.tree

          inside : Inside Y (slide s on d T)
          inside = slide-inside c w Y all once only t.inside

          pinned : Among net.pins Y
          pinned = slide-pinned c w Y all once only t.pinned

      -- the bar told by its first place, and the edges in order
      pub made-sound : RoundSound T (in_their_order (slide s (on_bar s T (first_place s on (tree_points net T) T a)) d T)) (saving_of s on net T d)
      made-sound =
          let e = one-bar s T a (first_place s on (tree_points net T) T a) (first_on c a (on-itself s T a)) in
          subst (λ (o : Place → Bool). RoundSound T (in_their_order (slide s o d T)) (saving_of s on net T d)) (sym e) (ordered T _ _ slid-sound)

-- The round's choice

best-has {ℓ} : (P : Move → Type ℓ) (m : Move) (l : List Move) → P m → ((n : Move) → n ∈ l → P n) → P (best_of m l)
unfolding best_of
best-has P m [] h k = h
best-has P m (n ∷ l) h k =
    by (better n m)
    (λ e. rw (best_of, e) (best-has P n l (k n (here refl)) (λ o i. k o (there i))))
    (λ e. rw (best_of, e) (best-has P m l h (λ o i. k o (there i))))

moves-have {ℓ} : (net : Net) (T : List Edge) (P : Move → Type ℓ) (L : List Edge) →
    ((s : Side) (e : Edge) → e ∈ L → P (move_of net T s e)) → (m : Move) → m ∈ moves_of net T L → P m
unfolding moves_of
moves-have net T P [] h m i = elim i [ ]
moves-have net T P (e ∷ L) h m i =
    either (λ k. rw k (h Above e (here refl))) (λ i.
    either (λ k. rw k (h Below e (here refl))) (λ i.
    either (λ k. rw k (h Right e (here refl))) (λ i.
    either (λ k. rw k (h Left e (here refl))) (λ i. moves-have net T P L (λ s d j. h s d (there j)) m i)
    (Memᴰ.cases_cons i)) (Memᴰ.cases_cons i)) (Memᴰ.cases_cons i)) (Memᴰ.cases_cons i)

-- so what every bar's move has, the choice has
pub choice-has {ℓ} : (net : Net) (P : Move → Type ℓ) (e : Edge) (L : List Edge) →
    ((s : Side) (d : Edge) → d ∈ (e ∷ L) → P (move_of net (e ∷ L) s d)) → P (choice net (e ∷ L) e L)
unfolding choice
choice-has net P e L h =
    best-has P (move_of net (e ∷ L) Above e) (moves_of net (e ∷ L) (e ∷ L)) (h Above e (here refl)) (moves-have net (e ∷ L) P (e ∷ L) h)

-- no distance saves nothing
pub no-saving : (s : Side) (on : Place → Bool) (net : Net) (T : List Edge) (d : ℕ) → d ≡ 0 → saving_of s on net T d ≡ 0
unfolding saving_of
no-saving s on net T d e = rw (e, zero-mul) (zero-mul _)

module _ (net : Net) (T : List Edge) (s : Side) (e : Edge) where
  abbrev bar : Place → Bool
  bar = on_bar s T e.0

  abbrev far-as : ℕ
  far-as = distance_of net T s e

  pub moves-parts : moves net T s e ≡ true →
      (any bar net.pins ≡ false) × (length (those (behind s bar) T) < length (those (ahead s bar) T))
  unfolding moves surplus
  moves-parts h =
      let r = and_right (level s e) _ h in (
        not-true _ (and_left _ (ltb 0 (surplus s bar T)) r),
        omega (arith, ltb-true 0 (surplus s bar T) (and_right (not (any bar net.pins)) _ r)),
      )

  pub distance-stays : moves net T s e ≡ false → far-as ≡ 0
  unfolding distance_of
  distance-stays h = rw (distance_of, h) refl

  pub distance-moves : moves net T s e ≡ true →
      (far-as ≤ shortest s bar T) × ((far-as ≡ 0) ⊎ (allowed s bar (tree_points net T) T e.0 net far-as ≡ true))
  unfolding distance_of reach
  distance-moves h =
      let ok = allowed s bar (tree_points net T) T e.0 net in
      rw (distance_of, h) (greatest-le ok (shortest s bar T), greatest-passes ok (shortest s bar T))

module _ (net : Net) (upright : UprightAll net.macros) (pin : Place) (has-pin : pin ∈ net.pins) where
  module _ (T : List Edge) (t : Sound net (tree_points net T) T) (lines : Straight T) where
    -- a move that saves
    abbrev Good : Move → Type 0
    Good m = (m.saving ≡ 0 → ⊥) → RoundSound net upright pin has-pin T (make m T) m.saving

    good-move : (s : Side) (e : Edge) → e ∈ T → Good (move_of net T s e)
    unfolding move_of make
    good-move s e m n =
        by (moves net T s e)
        (λ g.
        let p = moves-parts net T s e g in
        let r = distance-moves net T s e g in
        either (λ z. absurd (n (no-saving s (on_bar s T e.0) net T _ z)))
        (λ ok. made-sound net upright pin has-pin T t lines s e.0 e.1 m p.0 p.1 _ r.0 ok)
        r.1)
        (λ g. absurd (n (no-saving s (on_bar s T e.0) net T _ (distance-stays net T s e g))))

  -- M12, M13: a round that saves
  pub round-sound : (e : Edge) (L : List Edge) → Sound net (tree_points net (e ∷ L)) (e ∷ L) → Straight (e ∷ L) →
      ((choice net (e ∷ L) e L).saving ≡ 0 → ⊥) →
      RoundSound net upright pin has-pin (e ∷ L) (make (choice net (e ∷ L) e L) (e ∷ L)) (choice net (e ∷ L) e L).saving
  round-sound e L t lines = choice-has net (Good (e ∷ L) t lines) e L (good-move (e ∷ L) t lines)

  -- All rounds

  pub record Rounds (T U : List Edge) : Type 0 where
    pub sound : Sound net (tree_points net U) U
    pub lines : Straight U
    pub cheaper : lengths (cost_in net) U ≤ lengths (cost_in net) T
    pub fewer : length U ≤ length T
    pub within : (lo hi : Place) → Within lo hi T → Within lo hi U
    pub smaller : Smaller T → Smaller U
    pub ordered : Ascending (first_then before before) T → Ascending (first_then before before) U

  made-ordered : (m : Move) (T : List Edge) → Ascending (first_then before before) (make m T)
  unfolding make
  made-ordered m T = sorted-ascending (first_then before before) edge_order _

  no-round : (T : List Edge) → Sound net (tree_points net T) T → Straight T → Rounds T T
  no-round T t lines = record
      { sound = t; lines = lines; cheaper = omega arith; fewer = omega arith; within = λ lo hi i. i; smaller = λ i. i; ordered = λ i. i }

  pub rounds-sound : (n : ℕ) (T : List Edge) → Sound net (tree_points net T) T → Straight T → Rounds T (rounds net n T)
  unfolding rounds
  rounds-sound zero T t lines = no-round T t lines
  rounds-sound (suc n) [] t lines = no-round [] t lines
  rounds-sound (suc n) (e ∷ L) t lines =
      let m = choice net (e ∷ L) e L in
      by (eqb m.saving 0)
      (λ z. rw (rounds, z) (no-round (e ∷ L) t lines))
      (λ z.
      let r = round-sound e L t lines (eqb-false m.saving 0 z) in
      let h = rounds-sound n (make m (e ∷ L)) r.sound r.lines in
      rw (rounds, z)
      (record {
        sound = h.sound;
        lines = h.lines;
        cheaper = omega (arith, h.cheaper, r.saves);
        fewer = omega (arith, h.fewer, r.fewer);
        within = λ lo hi i. h.within lo hi (r.within lo hi i);
        smaller = λ i. h.smaller (r.smaller i);
        ordered = λ i. h.ordered (made-ordered m (e ∷ L));
      }))

-- Each round

pub first-on-bar : (s : Side) (T : List Edge) (X : List Place) (a : Place) → on_bar s T a (first_place s (on_bar s T a) X T a) ≡ true
unfolding first_place
first-on-bar s T X a =
    either (λ k. rw k (on-itself s T a)) (λ i. (of-those (on_bar s T a) X i).1)
    (Memᴰ.cases_cons (first_one a (those (on_bar s T a) X)))

module _ (net : Net) (T : List Edge) where
  -- what a move says that it saves is what its bar saves
  abbrev SavesThat : Move → Type 0
  SavesThat m = m.saving ≡ saving_of m.side (on_bar m.side T m.first) net T m.distance

  saves-that : (s : Side) (e : Edge) → SavesThat (move_of net T s e)
  unfolding move_of
  saves-that s e =
      ap (λ (o : Place → Bool). saving_of s o net T (distance_of net T s e))
      (sym (one-bar s T e.0 _ (first-on-bar s T (tree_points net T) e.0)))

  pub choice-saves : (e : Edge) (L : List Edge) → SavesThat (choice net T e L)
  unfolding choice
  choice-saves e L =
      best-has SavesThat (move_of net T Above e) (moves_of net T (e ∷ L)) (saves-that Above e)
      (moves-have net T SavesThat (e ∷ L) (λ s d i. saves-that s d))

module _ (net : Net) (upright : UprightAll net.macros) (pin : Place) (has-pin : pin ∈ net.pins) where
  pub rounds-of : (n : ℕ) (T : List Edge) → Sound net (tree_points net T) T → Straight T → RoundsOf net n T
  unfolding saving_of
  rounds-of zero T t lines = tt
  rounds-of (suc n) [] t lines = tt
  rounds-of (suc n) (e ∷ L) t lines = λ saves.
      let r = round-sound net upright pin has-pin e L t lines saves in (
        record {
          best = λ s d m. choice-best net e L s d m;
          saving = choice-saves net (e ∷ L) e L;
          falls = r.saves;
          one = tree-one place_same r.sound.tree r.sound.inside net.pins r.sound.pinned;
          free = r.sound.free;
          lines = r.lines;
        },
        rounds-of n (make (choice net (e ∷ L) e L) (e ∷ L)) r.sound r.lines,
      )
