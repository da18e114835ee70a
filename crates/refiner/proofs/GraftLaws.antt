-- Laws of laying a way, as the code goes through them.
-- Assumes nothing.
use mathlib.Core.Path.{◌≡◌, refl, sym, ap, ◌∙◌}
use mathlib.Core.Bool.{true, false}
use mathlib.Core.List.{List}
use Prim.Native.Nat.{ℕ, suc, ◌+◌, ◌≤◌, ◌<◌}
use native.Mathlib.Omega.{arith}
use lib.Dec.{ltb}
use lib.IntN.{ℤ}
use lib.ListN.{length, get_or}
use borrow.Author.Tests.{ltb-true, ltb-false, lt-ltb, le-ltb}
use Rattle.lists.proofs.TestLaws.{by}
use Rattle.plane.specs.declared.Place.{Place}
use Rattle.plane.specs.Flat.{place_at}
use Rattle.plane.specs.Rank.{rank}
use Rattle.forest.specs.Bounds.{point_bound}
use Rattle.forest.specs.Parents.{way_after, Nearing}
use Rattle.forest.proofs.WayLaws.{after-go, after_none}
use Rattle.tree.specs.Table.{tree_bound, In}
use Rattle.refiner.specs.declared.Growth.{Growth}
use Rattle.lists.specs.Turns.{turns}
use Rattle.exchanges.specs.Exchange.{opened, bump, bump_at, carrying}
use Rattle.refiner.specs.Graft.{Grown, grown, pair_key, not_below, key_rank, leaf, grafted, Growing}
use Rattle.exchanges.proofs.ExchangeLaws.{bump-lt, bump-ge}
use Rattle.exchanges.proofs.WithinLaws.{bump-in, in-key, within_more, within-bumped, within-carrying, rank-le}

-- Keys

pub in_pair : (n a b : ℕ) → a < n → b < n → n ≤ tree_bound → In n (pair_key a b)
unfolding pair_key
in_pair n a b h i l = by (ltb a b) (λ t. rw (pair_key, t) (in-key n a b h i l)) (λ t. rw (pair_key, t) (in-key n b a i h l))

pub not-below-yes : (keys : List ℕ) (j i : ℕ) → j ≤ get_or keys i 0 → not_below keys j i ≡ true
unfolding not_below
not-below-yes keys j i h = rw (le-ltb (get_or keys i 0) j h) refl

pub not-below-no : (keys : List ℕ) (j i : ℕ) → get_or keys i 0 < j → not_below keys j i ≡ false
unfolding not_below
not-below-no keys j i h = rw (lt-ltb (get_or keys i 0) j h) refl

-- numbers that move on stay apart
pub bump-apart : (p a b : ℕ) → (a ≡ b → ⊥) → bump p a ≡ bump p b → ⊥
bump-apart p a b n e =
    by (ltb a p)
    (λ t.
    by (ltb b p)
    (λ v. n (omega (arith, e, bump-lt p a (ltb-true a p t), bump-lt p b (ltb-true b p v))))
    (λ v.
    let h = ltb-true a p t in
    let i = ltb-false b p v in
    let z : ⊥ = omega (arith, h, i, e, bump-lt p a h, bump-ge p b i) in z))
    (λ t.
    by (ltb b p)
    (λ v.
    let h = ltb-false a p t in
    let i = ltb-true b p v in
    let z : ⊥ = omega (arith, h, i, e, bump-ge p a h, bump-lt p b i) in z)
    (λ v. n (omega (arith, e, bump-ge p a (ltb-false a p t), bump-ge p b (ltb-false b p v)))))

-- One point more

module _ (x : Place) (pts : List ℤ) (keys : List ℕ) (g : Growth) (p last key i edge cut : ℕ) (qts : List ℤ) (ks ls : List ℕ)
    (rank_is : p ≡ rank pts g.points x) (points-are : qts ≡ opened pts g.points p x)
    (moved : ks ≡ turns (bump_at p) 0 g.edges keys) (last-is : last ≡ bump p g.last) (key-is : key ≡ pair_key p last)
    (place_is : i ≡ key_rank ks g.edges key) (keys-are : ls ≡ carrying 0 g.edges key ks) (edge-is : edge ≡ bump i g.edge)
    (cut-is : cut ≡ bump i g.cut) where
  abbrev after : Growth
  after = record { points = g.points + 1; edges = g.edges + 1; last = p; edge = edge; cut = cut }

  pub leaf-is : grown qts ls after ≡ leaf x (grown pts keys g)
  unfolding leaf
  leaf-is = rw (edge-is, cut-is, keys-are, place_is, key-is, last-is, moved, points-are, rank_is) refl

  pub leaf-growing : g.points < tree_bound → Growing g keys → Growing after ls
  leaf-growing few w = record {
    last = omega (arith, rank_is, rank-le pts g.points x);
    edge = rw edge-is (bump-in g.edges i g.edge w.edge);
    cut = rw cut-is (bump-in g.edges i g.cut w.cut);
    two = λ e. bump-apart i g.cut g.edge w.two (sym cut-is ∙ e ∙ edge-is);
    within =
        rw keys-are
        (within-carrying (g.points + 1) 0 g.edges key ks
        (rw (key-is, last-is)
        (in_pair (g.points + 1) p (bump p g.last) (omega (arith, rank_is, rank-le pts g.points x))
        (bump-in g.points p g.last w.last) (omega arith)))
        (rw moved
        (within-bumped g.points p few g.edges 0 keys (within_more g.points keys w.within) (λ j _. w.within.ends j))));
  }

-- The way

module _ (fars ups : List ℕ) (u : ℕ) where
  pub steps-none : point_bound ≤ get_or ups u 0 → length (way_after fars ups u) ≡ 0
  steps-none h = ap length (after_none fars ups u h)

  pub steps-more : Nearing fars ups → u < point_bound → get_or ups u 0 < point_bound →
      length (way_after fars ups u) ≡ suc (length (way_after fars ups (get_or ups u 0)))
  steps-more f hu h = ap length (after-go fars ups f u hu h)

  module _ (vs : List ℤ) where
    pub graft-none : (g : Grown) → point_bound ≤ get_or ups u 0 → g ≡ grafted vs (way_after fars ups u) u g
    unfolding grafted
    graft-none g h = sym (ap (λ (ys : List ℕ). grafted vs ys u g) (after_none fars ups u h))

    pub graft-more : Nearing fars ups → u < point_bound → get_or ups u 0 < point_bound → (g k r : Grown) (p : Place)
        → k ≡ grafted vs (way_after fars ups (get_or ups u 0)) (get_or ups u 0) g
        → p ≡ place_at vs u → r ≡ leaf p k → r ≡ grafted vs (way_after fars ups u) u g
    unfolding grafted
    graft-more f hu h g k r p d e q =
        q ∙ rw (d, e) refl ∙ sym (ap (λ (ys : List ℕ). grafted vs ys u g) (after-go fars ups f u hu h))
