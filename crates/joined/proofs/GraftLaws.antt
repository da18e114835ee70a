-- Points that hang on roots, and a tree over the roots, are one tree. Each point is joined with its root, by parents that come nearer to
-- it; two roots of an item over its edge; and each point that is no root has brought one pair.
-- Assumes nothing.
use mathlib.Core.Path.{sym}
use mathlib.Core.Logic.{inl}
use mathlib.Core.List.Memᴰ
use mathlib.Core.List.{List, ◌++◌, map}
use Prim.Native.Nat.{ℕ, zero, suc, ◌<◌}
use native.Mathlib.Omega.{arith}
use lib.ListN.{length-map, length-append}
use Rattle.lists.specs.Member.{◌∈◌}
use Rattle.lists.proofs.TestLaws.{either}
use Rattle.lists.proofs.MapLaws.{in_map, of_map}
use Rattle.joined.specs.Joined.{Joined, stay, step, Inside}
use Rattle.joined.specs.Tree.{TreeOn}
use Rattle.joined.specs.Graft.{grown, rooted, Hangs}
use Rattle.joined.proofs.JoinedLaws.{then, back, between, through, firsts, seconds}

module _ {A B : Type 0} {parent root : A → A} {distance : A → ℕ} {edge : B → A × A} {R N : List A} {K : List B}
    (h : Hangs parent root distance edge R N K) where
  abbrev T : List (A × A)
  T = grown parent edge N K

  abbrev up : A → A × A
  up v = (v, parent v)

  up-link : {v : A} → v ∈ N → (v, parent v) ∈ T
  unfolding grown
  up-link m = Memᴰ.append_left (map edge K) (in_map up m)

  edge-link : {k : B} → k ∈ K → edge k ∈ T
  unfolding grown
  edge-link m = Memᴰ.append_right (map up N) (in_map edge m)

  to-root : (n : ℕ) (v : A) → distance v < n → v ∈ (R ++ N) → Joined T v (root v)
  to-root zero v l m = absurd (let z : ⊥ = omega arith in z)
  to-root (suc n) v l m =
      either
      (λ i. stay (sym (h.itself v i)))
      (λ i.
      let ih = to-root n (parent v) (omega (arith, h.nearer v i)) (h.stands v i) in
      step (inl (up-link i)) (then ih (stay (h.alike v i))))
      (Memᴰ.append_cases R m)

  pub joined-root : (v : A) → v ∈ (R ++ N) → Joined T v (root v)
  joined-root v m = to-root (suc (distance v)) v (omega arith) m

  root-pairs : (a b : A) → (a, b) ∈ map (rooted root edge) K → Joined T a b
  unfolding rooted
  root-pairs a b m =
      let s = of_map (rooted root edge) K m in
      let e = h.ends s.entry s.stands in
      between (firsts s.is) (seconds s.is)
      (then (back (joined-root _ e.0)) (step (inl (edge-link s.stands)) (joined-root _ e.1)))

  pub grown-tree : TreeOn (R ++ N) T
  unfolding grown
  grown-tree = record {
    once = h.once;
    joins = λ x y i k.
        let roots = through root-pairs (h.roots.joins (root x) (root y) (h.rooting x i) (h.rooting y k)) in
        then (joined-root x i) (then roots (back (joined-root y k)));
    size =
        omega (
          arith,
          h.roots.size,
          length-append R N,
          length-append (map up N) (map edge K),
          length-map N up,
          length-map K edge,
          length-map K (rooted root edge),
        );
  }

  pub grown-inside : Inside (R ++ N) T
  unfolding grown
  grown-inside a b m = either parents items (Memᴰ.append_cases (map up N) m)
    where
      parents : (a, b) ∈ map up N → (a ∈ (R ++ N)) × (b ∈ (R ++ N))
      parents i =
          let s = of_map up N i in
          (Memᴰ.cast (firsts s.is) (Memᴰ.append_right R s.stands), Memᴰ.cast (seconds s.is) (h.stands s.entry s.stands))

      items : (a, b) ∈ map edge K → (a ∈ (R ++ N)) × (b ∈ (R ++ N))
      items i =
          let s = of_map edge K i in
          let e = h.ends s.entry s.stands in
          (Memᴰ.cast (firsts s.is) e.0, Memᴰ.cast (seconds s.is) e.1)
