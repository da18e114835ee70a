-- Trees: every pair is a cut, so a tree is a forest; and a forest that joins all points is a tree. By the two counts.
-- Assumes nothing.
use mathlib.Core.Path.{◌≡◌, refl, ap, ◌∙◌}
use mathlib.Core.List.{List, [], ◌∷◌}
use Prim.Native.Nat.{suc}
use native.Mathlib.Omega.{arith}
use lib.ListN.{length}
use Rattle.lists.specs.Member.{◌∈◌, here, there, Once, rest}
use Rattle.lists.proofs.MemberLaws.{length_rest}
use Rattle.joined.specs.Joined.{Link, Joins, Inside}
use Rattle.joined.specs.Tree.{TreeOn, Forest, Cuts}
use Rattle.joined.proofs.JoinedLaws.{one, through, older, around}
use Rattle.joined.proofs.CountLaws.{enough, at_most}

module _ {A : Type 0} where
  pub cuts-forest : (T : List (A × A)) → Cuts T → Forest T
  unfolding rest
  cuts-forest [] h = tt
  cuts-forest (e ∷ T) h =
      (λ j. h e.0 e.1 (here refl) j, cuts-forest T (λ a b m j. h a b (there m) (older j)))

  -- the same pairs in another order, and some of them turned round
  pub tree-linked : {X : List A} {T U : List (A × A)} → TreeOn X T → ((a b : A) → (a, b) ∈ T → Link U a b) →
      length U ≡ length T → TreeOn X U
  tree-linked t h e = record {
    once = t.once;
    joins = λ x y i k. through (λ a b m. one (h a b m)) (t.joins x y i k);
    size = ap suc e ∙ t.size;
  }

module _ {A : Type 0} (same : Discrete A) {X : List A} {T : List (A × A)} where
  pub tree-cuts : TreeOn X T → Cuts T
  tree-cuts t a b m j =
      let all : Joins X (rest m) = λ x y i k. around m j (t.joins x y i k) in
      omega (arith, enough same t.once all, length_rest m, t.size)

  pub tree-forest : TreeOn X T → Forest T
  tree-forest t = cuts-forest T (tree-cuts t)

  pub forest-tree : Once X → Inside X T → Forest T → Joins X T → {x : A} → x ∈ X → TreeOn X T
  forest-tree o s f j m = record { once = o; joins = j; size = omega (arith, enough same o j, at_most same s f m) }
