-- The slid tree that is given is the one of the relation, for any net and any edges, and there is no other.
-- Assumes nothing.
use mathlib.Core.Path.{◌≡◌, refl, sym, ap, ◌∙◌, subst}
use mathlib.Core.Logic.{◌⊎◌, inl, inr}
use mathlib.Core.List.{List}
use lib.ListN.{length}
use Rattle.lists.specs.Member.{◌∈◌}
use Rattle.lists.specs.Sorted.{first_then, Ascending}
use Rattle.lists.proofs.TestLaws.{either}
use Rattle.lists.proofs.SortedLaws.{of-sorted, in-sorted, sorted-ascending, ascending-same}
use Rattle.plane.specs.declared.Place.{Place}
use Rattle.plane.specs.Place.{before}
use Rattle.plane.proofs.PlaceOrder.{place-order}
use Rattle.net.specs.Net.{Net}
use Rattle.slide.specs.Bend.{Edge, Bent, bent, given_back, bends}
use Rattle.slide.specs.Slide.{tree_points, in_their_order, rounds, after_bends, slid}
use Rattle.slide.proofs.PointLaws.{edge_order, points-ascending}
use Rattle.slid_rules.specs.Bend.{Bends, GivenBack}
use Rattle.slid_rules.specs.Slid.{Points, InOrder, Slid, SlidTree}
use Rattle.slid_rules.proofs.FitsIs.{points-hold}
use Rattle.slid_rules.proofs.BendsIs.{Bent-so, bends-ours, bends-only, back-only}
use Rattle.slid_rules.proofs.RoundsIs.{rounds-ours, rounds-only}

in_order : (U : List Edge) → InOrder U (in_their_order U)
in_order U = record {
  ordered = sorted-ascending (first_then before before) edge_order U;
  holds = λ e. (of-sorted (first_then before before) U e, in-sorted (first_then before before) edge_order U e);
}

pub order-only : (U W : List Edge) → InOrder U W → W ≡ in_their_order U
order-only U W o =
    let r = in_order U in
    ascending-same (first_then before before) edge_order W (in_their_order U) o.ordered r.ordered
    (λ e i. (r.holds e).1 ((o.holds e).0 i)) (λ e i. (o.holds e).1 ((r.holds e).0 i))

module _ (net : Net) (T : List Edge) where
  points-are : Points net T (tree_points net T)
  points-are = record { ordered = points-ascending net T; holds = points-hold net T }

  pub points-only : (X : List Place) → Points net T X → X ≡ tree_points net T
  points-only X p =
      ascending-same before place-order X (tree_points net T) p.ordered (points-ascending net T)
      (λ x i. (points-hold net T x).1 ((p.holds x).0 i)) (λ x i. (p.holds x).1 ((points-hold net T x).0 i))

  outcome : (X : List Place) (b : Bent) → Bent-so X T b →
      (GivenBack X T × (after_bends net T b ≡ T)) ⊎ Slid net T X (after_bends net T b)
  unfolding after_bends
  outcome X (bent Y U) s =
      inr (record {
        points = Y;
        edges = U;
        bends = s;
        start = in_their_order U;
        order = in_order U;
        rounds = rounds-ours net (length Y) (in_their_order U);
      })
  outcome X given_back s = inl (s, refl)

  pub slid-ours : SlidTree net T (slid net T)
  unfolding slid
  slid-ours = record {
    points = tree_points net T;
    tree = points-are;
    slid = outcome (tree_points net T) (bends (tree_points net T) T) (bends-ours (tree_points net T) T);
  }

  one-outcome : (X : List Place) (S : List Edge) → (GivenBack X T × (S ≡ T)) ⊎ Slid net T X S →
      S ≡ after_bends net T (bends X T)
  unfolding after_bends
  one-outcome X S (inl (b, e)) = rw (back-only X T b) e
  one-outcome X S (inr r) =
      rw (bends-only X T r.points r.edges r.bends)
      (rounds-only net (length r.points) r.start S r.rounds
      ∙ ap (rounds net (length r.points)) (order-only r.edges r.start r.order))

  pub slid-only : (S : List Edge) → SlidTree net T S → S ≡ slid net T
  unfolding slid
  slid-only S t =
      one-outcome t.points S t.slid
      ∙ ap (λ (X : List Place). after_bends net T (bends X T)) (points-only t.points t.tree)

  -- Whether the tree is given back, in the words of the relation and as it is worked out

  module _ (X : List Place) (p : Points net T X) where
    pub bent-unless : (GivenBack X T → ⊥) → (Y : List Place) × ((U : List Edge) × (bends (tree_points net T) T ≡ bent Y U))
    bent-unless un = at (bends (tree_points net T) T) refl (bends-ours (tree_points net T) T)
      where
        at : (b : Bent) → bends (tree_points net T) T ≡ b → Bent-so (tree_points net T) T b →
            (Y : List Place) × ((U : List Edge) × (bends (tree_points net T) T ≡ bent Y U))
        at (bent Y U) e s = (Y, (U, e))
        at given_back e s = absurd (un (subst (λ (Z : List Place). GivenBack Z T) (sym (points-only X p)) s))

    pub back-where : GivenBack X T → bends (tree_points net T) T ≡ given_back
    back-where b = ap (λ (Z : List Place). bends Z T) (sym (points-only X p)) ∙ back-only X T b
