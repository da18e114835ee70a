-- The edges of a flat list: a scan's next one and its end, how many they are, and their ends as the places of the same list.
-- Assumes nothing.
use mathlib.Core.Path.{◌≡◌, refl, ap, ap₂}
use mathlib.Core.Logic.{inl, inr}
use mathlib.Core.List.Memᴰ
use mathlib.Core.List.{List, [], ◌∷◌}
use Prim.Native.Nat.{ℕ, ◌+◌, ◌*◌, ◌/◌, ◌%◌, ◌≤◌, ◌<◌}
use native.Mathlib.Omega.{arith}
use lib.IntN.{ℤ, pos}
use lib.ListN.{length, drop, get_or}
use Rattle.lists.specs.Entries.{twos, fours}
use Rattle.lists.specs.Member.{◌∈◌, here, there}
use Rattle.lists.proofs.TestLaws.{either}
use Rattle.lists.proofs.EntryLaws.{fours-next, fours-end, length-fours}
use Rattle.joined.specs.Joined.{Link}
use Rattle.joined.proofs.JoinedLaws.{firsts, seconds}
use Rattle.plane.specs.declared.Place.{Place}
use Rattle.plane.specs.Place.{place}
use Rattle.plane.specs.Flat.{places_of, place_at}
use Rattle.bought.specs.Edges.{Edge, edge, edges_of, edge_at, ends_of}

pub edges-next : (s : List ℤ) (i : ℕ) → i * 4 + 4 ≤ length s → drop i (edges_of s) ≡ edge_at s i ∷ drop (i + 1) (edges_of s)
unfolding edges_of
edges-next = fours-next (pos 0) edge

pub edges-end : (s : List ℤ) (i : ℕ) → length s < i * 4 + 4 → drop i (edges_of s) ≡ []
unfolding edges_of
edges-end = fours-end (pos 0) edge

pub length-edges : (s : List ℤ) → length (edges_of s) ≡ length s / 4
unfolding edges_of
length-edges s = length-fours edge s

-- the i-th edge is read as two places
pub edge-read : (s : List ℤ) (i : ℕ) → (place_at s (i * 2), place_at s (i * 2 + 1)) ≡ edge_at s i
edge-read s i =
    let one : i * 2 * 2 ≡ i * 4 = omega arith in
    let two : i * 2 * 2 + 1 ≡ i * 4 + 1 = omega arith in
    let three : (i * 2 + 1) * 2 ≡ i * 4 + 2 = omega arith in
    let four : (i * 2 + 1) * 2 + 1 ≡ i * 4 + 3 = omega arith in
    ap₂ (λ (p q : Place). (p, q))
    (ap₂ place (ap (λ (k : ℕ). get_or s k (pos 0)) one) (ap (λ (k : ℕ). get_or s k (pos 0)) two))
    (ap₂ place (ap (λ (k : ℕ). get_or s k (pos 0)) three) (ap (λ (k : ℕ). get_or s k (pos 0)) four))

-- the places of a list of whole edges are their ends
pub places-ends : (s : List ℤ) → length s % 4 ≡ 0 → places_of s ≡ ends_of (edges_of s)
unfolding places_of edges_of ends_of twos fours
places-ends [] h = refl
places-ends (a ∷ []) h = absurd (let z : ⊥ = omega arith in z)
places-ends (a ∷ (b ∷ [])) h = absurd (let z : ⊥ = omega arith in z)
places-ends (a ∷ (b ∷ (c ∷ []))) h = absurd (let z : ⊥ = omega arith in z)
places-ends (a ∷ (b ∷ (c ∷ (d ∷ s)))) h =
    ap (λ (l : List Place). place a b ∷ (place c d ∷ l)) (places-ends s (omega arith))

-- Ends of edges, and links

pub in-ends : (T : List Edge) {a b : Place} → (a, b) ∈ T → (a ∈ ends_of T) × (b ∈ ends_of T)
unfolding ends_of
in-ends [] {a = a} {b = b} x' = elim x' [ ]
in-ends (e ∷ T) (here p) = (here (firsts p), there (here (seconds p)))
in-ends (e ∷ T) (there m) = let r = in-ends T m in (there (there r.0), there (there r.1))

pub link-end : (T : List Edge) {a b : Place} → Link T a b → a ∈ ends_of T
link-end T (inl m) = (in-ends T m).0
link-end T (inr m) = (in-ends T m).1

pub of-ends : (T : List Edge) {x : Place} → x ∈ ends_of T → (z : Place) × Link T x z
unfolding ends_of
of-ends [] m = elim m [ ]
of-ends (e ∷ T) {x} m =
    either (λ p. (e.1, inl (here (ap₂ (λ (a b : Place). (a, b)) p refl))))
    (λ n.
    either (λ p. (e.0, inr (here (ap₂ (λ (a b : Place). (a, b)) refl p)))) (λ i. later (of-ends T i)) (Memᴰ.cases_cons n))
    (Memᴰ.cases_cons m)
  where
    later : (z : Place) × Link T x z → (z : Place) × Link (e ∷ T) x z
    later (z, inl i) = (z, inl (there i))
    later (z, inr i) = (z, inr (there i))

pub length-ends : (T : List Edge) → length (ends_of T) ≡ length T * 2
unfolding ends_of
length-ends [] = refl
length-ends (e ∷ T) = omega (arith, length-ends T)
