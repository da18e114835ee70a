-- A point with a single link goes, with that link, and a tree is left: every chain of links stays one when the point is renamed to its
-- neighbour.
-- Assumes nothing.
use mathlib.Core.Path.{◌≡◌, sym, ◌∙◌}
use mathlib.Core.Logic.{◌⊎◌, inl, inr}
use mathlib.Core.List.Memᴰ
use mathlib.Core.List.{List}
use Prim.Native.Nat.{suc}
use native.Mathlib.Omega.{arith}
use lib.ListN.{length}
use Rattle.lists.specs.Member.{◌∈◌, rest}
use Rattle.lists.proofs.TestLaws.{either}
use Rattle.lists.proofs.MemberLaws.{length_rest, rest-or, rest_in, rest-once, rest-gone}
use Rattle.joined.specs.Joined.{Link, others, Alike, Joined, stay, Inside}
use Rattle.joined.specs.Labels.{renamed}
use Rattle.joined.specs.Tree.{TreeOn}
use Rattle.joined.proofs.JoinedLaws.{turn, one, between, carried}
use Rattle.joined.proofs.LabelLaws.{renamed-hit, renamed-miss, renamed-fix}
use Rattle.joined.proofs.OtherLaws.{length-others, link-or}

-- x is a point that is linked with y alone, and U still links whatever else T links, and x with nothing
module _ {A : Type 0} (same : Discrete A) {X : List A} {T U : List (A × A)} {x y : A} (i : x ∈ X)
    (still : (c d : A) → Link T c d → Alike c d x y ⊎ Link U c d) (gone : (z : A) → Link U x z → ⊥) where
  abbrev into : A → A
  into = renamed same y x

  -- a link of U has x at neither end
  apart : (c d : A) → Link U c d → c ≡ x → ⊥
  apart c d k e = gone d (rw e at k)

  kept : (c d : A) → Link U c d → Joined U (into c) (into d)
  kept c d k = between (renamed-miss same y x c (apart c d k)) (renamed-miss same y x d (apart d c (turn k))) (one k)

  -- both ends of the link become y
  meet : (c d : A) → Alike c d x y → into c ≡ into d
  meet c d (inl e) = renamed-hit same y x c e.0 ∙ sym (renamed-fix same y x d e.1)
  meet c d (inr e) = renamed-fix same y x c e.0 ∙ sym (renamed-hit same y x d e.1)

  pairs : (c d : A) → (c, d) ∈ T → Joined U (into c) (into d)
  pairs c d m = either (λ e. stay (meet c d e)) (kept c d) (still c d (inl m))

  pub prune-tree : TreeOn X T → length T ≡ suc (length U) → TreeOn (rest i) U
  prune-tree t size = record {
    once = rest-once i t.once;
    joins = λ c d j k. between (sym (stays c j)) (sym (stays d k)) (carried into pairs (t.joins c d (rest_in i j) (rest_in i k)));
    size = omega (arith, length_rest i, t.size);
  }
    where
      stays : (c : A) → c ∈ rest i → into c ≡ c
      stays c j = renamed-miss same y x c (λ e. rest-gone i t.once (Memᴰ.cast (sym e) j))

  pub prune-inside : Inside X U → Inside (rest i) U
  prune-inside s c d m =
      let h = s c d m in
      (stands c (apart c d (inl m)) h.0, stands d (apart d c (inr m)) h.1)
    where
      stands : (z : A) → (z ≡ x → ⊥) → z ∈ X → z ∈ rest i
      stands z n k = either (λ e. absurd (n e)) (λ r. r) (rest-or i k)

-- the one position struck out
pub pruned-tree : {A : Type 0} → Discrete A → {X : List A} {T : List (A × A)} {x y : A} (i : x ∈ X) (l : Link T x y) →
    ((z : A) → Link (others l) x z → ⊥) → TreeOn X T → TreeOn (rest i) (others l)
pruned-tree same i l gone t = prune-tree same i (λ c d k. link-or l k) gone t (length-others l)
