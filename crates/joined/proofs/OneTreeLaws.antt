-- A tree by the count of its pairs is one tree as R20 has it, and one tree as R20 has it, whose edges are listed each once, is a tree by
-- the count. Forth by the only loop-free way; back because a pair that the others join would be a second way.
-- Assumes nothing.
use mathlib.Core.Path.{◌≡◌, refl, sym, ap, ◌∙◌}
use mathlib.Core.Logic.{inl, inr}
use mathlib.Core.List.Memᴰ
use mathlib.Core.List.{List, [], ◌∷◌}
use Prim.Native.Nat.{ℕ}
use native.Mathlib.Omega.{arith}
use lib.ListN.{length}
use Rattle.lists.specs.Member.{◌∈◌, Among, Once, rest}
use Rattle.lists.proofs.MemberLaws.{rest_in}
use Rattle.joined.specs.Joined.{others, Joined, stay, Joins, Inside}
use Rattle.joined.specs.Tree.{TreeOn, Cuts}
use Rattle.joined.specs.Way.{Way, stop, go, Free}
use Rattle.joined.specs.OneTree.{Point, OneWay, OneTree, Simple}
use Rattle.joined.proofs.JoinedLaws.{one}
use Rattle.joined.proofs.OtherLaws.{cut-link}
use Rattle.joined.proofs.WayLaws.{way-joined, way-more, joined_free}
use Rattle.joined.proofs.TreeLaws.{tree-cuts, cuts-forest, forest-tree}
use Rattle.joined.proofs.OnlyWay.{only-way}

module _ {A : Type 0} (same : Discrete A) {X : List A} {T : List (A × A)} where
  pub tree-one : TreeOn X T → Inside X T → (pins : List A) → Among pins X → OneTree pins T
  tree-one t s pins h x y i k n = one_way (joined_free same (t.joins x y (point x i) (point y k)))
    where
      point : (z : A) → Point pins T z → z ∈ X
      point z (inl m) = h z m
      point z (inr (v, inl m)) = (s z v m).0
      point z (inr (v, inr m)) = (s v z m).1

      one_way : Free T x y → OneWay pins T x y
      one_way f = record { free = f; only = λ ps w o. only-way (tree-cuts same t) same w f.way o f.once }

  pub tree-simple : TreeOn X T → Simple T
  tree-simple t = record {
    apart = λ a b m e. tree-cuts same t a b m (stay e);
    single = λ a b l k. cut-link (tree-cuts same t) l (one k);
  }

  module _ (s : Inside X T) (simple : Simple T) (tree : OneTree X T) where
    -- a way along the other pairs from an end of a pair to the other is a second way
    second : (a b : A) (m : (a, b) ∈ T) → (ps : List A) → Way (rest m) a ps b → ps ≡ b ∷ [] → ⊥
    unfolding others
    second a b m [] w e = let z : ◌≡◌ {A = ℕ} 0 1 = ap length e in omega arith
    second a b m (y ∷ ps) (go l w) e = let h : y ≡ b = cc in simple.single a b (inl m) (rw h at l)

    cuts : Cuts T
    cuts a b m j = at (joined_free same j) (tree a b (inl (s a b m).0) (inl (s a b m).1) (simple.apart a b m))
      where
        step-once : Once (a ∷ (b ∷ []))
        step-once = (λ i. simple.apart a b m (Memᴰ.eq_of_singleton i), (λ i. elim i [ ], tt))

        at : Free (rest m) a b → OneWay X T a b → ⊥
        at f w =
            second a b m f.points f.way
            (w.only f.points (way-more (λ e i. rest_in m i) f.way) f.once
            ∙ sym (w.only (b ∷ []) (go (inl m) (stop refl)) step-once))

    one-joins : Joins X T
    one-joins x y i k = at (same x y)
      where
        at : Dec (x ≡ y) → Joined T x y
        at (yes e) = stay e
        at (no n) = way-joined (tree x y (inl i) (inl k) n).free.way

    pub one-tree : Once X → {x : A} → x ∈ X → TreeOn X T
    one-tree o i = forest-tree same o s (cuts-forest T cuts) one-joins i
