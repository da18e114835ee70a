-- The order of edges by length, then by number: total, so that the longer of two is at least each, and the shorter of two at most each.
-- Assumes nothing.
use mathlib.Core.Path.{◌≡◌, refl}
use mathlib.Core.Bool.{true, false}
use mathlib.Core.List.{List}
use Prim.Native.Nat.{ℕ, ◌-◌, ◌≤◌, ◌<◌}
use native.Mathlib.Omega.{arith}
use lib.Dec.{ltb}
use lib.ListN.{get_or}
use borrow.Author.Tests.{ltb-true, ltb-false}
use Rattle.lists.proofs.TestLaws.{by, differ}
use Rattle.tree.specs.Table.{tree_bound}
use Rattle.longest.specs.Longest.{wins, longer, shorter, no_edge}
use Rattle.longest.proofs.LongestLaws.{longer-yes, longer-no, shorter-yes, shorter-no}

-- j is no longer than x, and where it is as long, x has the smaller number
abbrev pub Under : List ℕ → ℕ → ℕ → Type 0
Under el j x = (get_or el j 0 ≤ get_or el x 0) × (get_or el x 0 ≤ get_or el j 0 → x ≤ j)

module _ (el : List ℕ) where
  pub wins-under : (x k : ℕ) → wins el x k ≡ true → Under el k x
  unfolding wins
  wins-under x k e =
      by (ltb (get_or el k 0) (get_or el x 0))
      (λ t. let h : get_or el k 0 < get_or el x 0 = ltb-true _ _ t in (omega arith, λ l. omega arith))
      (λ t.
      by (ltb (get_or el x 0) (get_or el k 0)) (λ s. differ (rw (wins, t, s) at e) refl)
      (λ s.
      let h : x < k = ltb-true _ _ (rw (wins, t, s) at e) in
      (omega (arith, ltb-false (get_or el x 0) (get_or el k 0) s), λ l. omega arith)))

  pub wins-not : (x k : ℕ) → wins el x k ≡ false → Under el x k
  unfolding wins
  wins-not x k e =
      by (ltb (get_or el k 0) (get_or el x 0)) (λ t. differ refl (rw (wins, t) at e))
      (λ t.
      let a : get_or el x 0 ≤ get_or el k 0 = ltb-false _ _ t in
      by (ltb (get_or el x 0) (get_or el k 0))
      (λ s. let h : get_or el x 0 < get_or el k 0 = ltb-true _ _ s in (a, λ l. absurd (let z : ⊥ = omega arith in z)))
      (λ s. (a, λ l. ltb-false x k (rw (wins, t, s) at e))))

  pub under-trans : (i j x : ℕ) → Under el i j → Under el j x → Under el i x
  under-trans i j x a b = (
    omega (arith, a.0, b.0),
    λ l. omega
        (arith, a.1 (omega (arith, a.0, b.0)), b.1 (omega (arith, a.0, b.0))),
  )

  pub under-self : (x : ℕ) → Under el x x
  under-self x = (omega arith, λ l. omega arith)

  pub under_same : (x y : ℕ) → Under el x y → Under el y x → x ≡ y
  under_same x y a b = omega (arith, a.1 b.0, b.1 a.0)

  pub longer-first : (x k : ℕ) → Under el x (longer el x k)
  longer-first x k = by (wins el x k) (λ t. rw (← longer-yes el x k t) (under-self x)) (λ t. rw (← longer-no el x k t) (wins-not x k t))

  pub longer-second : (x k : ℕ) → Under el k (longer el x k)
  longer-second x k = by (wins el x k) (λ t. rw (← longer-yes el x k t) (wins-under x k t)) (λ t. rw (← longer-no el x k t) (under-self k))

  -- the longer of two is at most what both are at most
  pub longer-least : (x k z : ℕ) → Under el x z → Under el k z → Under el (longer el x k) z
  longer-least x k z a b = by (wins el x k) (λ t. rw (← longer-yes el x k t) a) (λ t. rw (← longer-no el x k t) b)

  pub shorter-first : (x k : ℕ) → Under el (shorter el x k) x
  shorter-first x k = by (wins el x k) (λ t. rw (← shorter-yes el x k t) (wins-under x k t))
      (λ t. rw (← shorter-no el x k t) (under-self x))

  pub shorter-second : (x k : ℕ) → Under el (shorter el x k) k
  shorter-second x k = by (wins el x k) (λ t. rw (← shorter-yes el x k t) (under-self k)) (λ t. rw (← shorter-no el x k t) (wins-not x k t))

  pub shorter-greatest : (x k z : ℕ) → Under el z x → Under el z k → Under el z (shorter el x k)
  shorter-greatest x k z a b = by (wins el x k) (λ t. rw (← shorter-yes el x k t) b) (λ t. rw (← shorter-no el x k t) a)

  -- the longest of three, in three orders
  swap-under : (x p q : ℕ) → Under el (longer el (longer el x p) q) (longer el (longer el x q) p)
  swap-under x p q =
      let y = longer el x q in
      longer-least (longer el x p) q (longer el y p)
      (longer-least x p (longer el y p) (under-trans x y (longer el y p) (longer-first x q) (longer-first y p)) (longer-second y p))
      (under-trans q y (longer el y p) (longer-second x q) (longer-first y p))

  pub longer-swap : (x p q : ℕ) → longer el (longer el x p) q ≡ longer el (longer el x q) p
  longer-swap x p q = under_same _ _ (swap-under x p q) (swap-under x q p)

  pub longer-turn : (x y k : ℕ) → longer el x (longer el y k) ≡ longer el (longer el x k) y
  longer-turn x y k =
      let a = longer el y k in
      let b = longer el x k in
      under_same (longer el x a) (longer el b y)
      (longer-least x a (longer el b y) (under-trans x b (longer el b y) (longer-first x k) (longer-first b y))
      (longer-least y k (longer el b y) (longer-second b y) (under-trans k b (longer el b y) (longer-second x k) (longer-first b y))))
      (longer-least b y (longer el x a)
      (longer-least x k (longer el x a) (longer-first x a) (under-trans k a (longer el x a) (longer-second y k) (longer-second x a)))
      (under-trans y a (longer el x a) (longer-first y k) (longer-second x a)))

  -- the shorter of an edge and a longer one, either way round
  pub shorter-longer : (x k : ℕ) → shorter el x (longer el x k) ≡ x
  shorter-longer x k =
      under_same _ _ (shorter-first x (longer el x k)) (shorter-greatest x (longer el x k) x (under-self x) (longer-first x k))

  pub longer-shorter : (x k : ℕ) → shorter el (longer el x k) x ≡ x
  longer-shorter x k =
      under_same _ _ (shorter-second (longer el x k) x) (shorter-greatest (longer el x k) x x (longer-first x k) (under-self x))

  -- one edge more on both ways
  pub shorter-both : (x y k : ℕ) → shorter el (longer el x k) (longer el y k) ≡ longer el (shorter el x y) k
  shorter-both x y k =
      let z = shorter el x y in
      let m = shorter el (longer el x k) (longer el y k) in
      under_same m (longer el z k)
      (by (wins el x y) (λ t. rw (← shorter-yes el x y t) (shorter-second (longer el x k) (longer el y k)))
      (λ t. rw (← shorter-no el x y t) (shorter-first (longer el x k) (longer el y k))))
      (shorter-greatest (longer el x k) (longer el y k) (longer el z k)
      (longer-least z k (longer el x k) (under-trans z x (longer el x k) (shorter-first x y) (longer-first x k)) (longer-second x k))
      (longer-least z k (longer el y k) (under-trans z y (longer el y k) (shorter-second x y) (longer-first y k)) (longer-second y k)))

  -- no edge is the shortest
  module _ (none : get_or el no_edge 0 ≡ 0) where
    none-under : (x : ℕ) → x < tree_bound → Under el no_edge x
    none-under x h = (omega (arith, none), λ l. omega (arith, h))

    pub longer-none : (x : ℕ) → x < tree_bound → longer el x no_edge ≡ x
    longer-none x h = under_same _ _ (longer-least x no_edge x (under-self x) (none-under x h)) (longer-first x no_edge)

    pub none-longer : (x : ℕ) → x < tree_bound → longer el no_edge x ≡ x
    none-longer x h = under_same _ _ (longer-least no_edge x x (none-under x h) (under-self x)) (longer-second no_edge x)

    pub shorter-none : (x : ℕ) → x < tree_bound → shorter el x no_edge ≡ no_edge
    shorter-none x h =
        under_same _ _ (shorter-second x no_edge) (shorter-greatest x no_edge no_edge (none-under x h) (under-self no_edge))

    pub none-shorter : (x : ℕ) → x < tree_bound → shorter el no_edge x ≡ no_edge
    none-shorter x h =
        under_same _ _ (shorter-first no_edge x) (shorter-greatest no_edge x no_edge (under-self no_edge) (none-under x h))
