-- The verdict says which lists pass (V3 to V6), both ways. A net has a pin.
-- Assumes nothing.
use mathlib.Core.Path.{◌≡◌, refl, sym, ap, ap₂, ◌∙◌}
use mathlib.Core.Logic.{inl, inr}
use mathlib.Core.Bool.{true, false, not}
use mathlib.Core.List.Memᴰ
use mathlib.Core.List.{List}
use borrow.Author.Tests.{not-false}
use lib.IntN.{ℤ, pos}
use Rattle.lists.specs.Any.{any}
use Rattle.lists.specs.Member.{◌∈◌}
use Rattle.lists.proofs.AnyLaws.{any_none, none_any}
use Rattle.lists.proofs.TestLaws.{by, differ, or-none, or-neither}
use Rattle.lent.specs.Told.{refused, given}
use Rattle.lent.proofs.AfterLaws.{told-apart}
use Rattle.joined.specs.Joined.{Link, others}
use Rattle.joined.specs.Tree.{TreeOn}
use Rattle.joined.specs.Way.{Way, stop, go}
use Rattle.joined.specs.Cost.{lengths}
use Rattle.joined.proofs.OneTreeLaws.{tree-one, tree-simple}
use Rattle.plane.specs.declared.Place.{Place}
use Rattle.plane.specs.Place.{same_place}
use Rattle.plane.specs.Distance.{distance}
use Rattle.plane.specs.Macro.{clear}
use Rattle.plane.proofs.PlaceOrder.{place_same}
use Rattle.net.specs.Net.{Net, cost_in}
use Rattle.bought.specs.Edges.{Edge, ends_of, points_of}
use Rattle.bought.specs.Passes.{Single, Passes}
use Rattle.bought.specs.Verdict.{unfit, is_tree, bare, no_tree, verdict}
use Rattle.bought.proofs.TreeTest.{points-inside, pin-point, tree_of, of_tree, tree-counted}
use Rattle.bought.proofs.BareLaws.{same_false, same_of, bare-pinned, pinned-bare}
use Rattle.bought.proofs.VerdictLaws.{verdict-unfit, verdict-none, verdict-passed}

-- V5, edge by edge
module _ (net : Net) (T : List Edge) where
  pub fit_of : ((e : Edge) → e ∈ T → e.0 ≡ e.1 → ⊥) → ((e : Edge) → e ∈ T → clear e.0 e.1 net.macros ≡ true) →
      any (unfit net.macros) T ≡ false
  unfolding unfit
  fit_of apart free =
      none_any (unfit net.macros) T (λ e m.
      or-neither (same_place e.0 e.1) (not (clear e.0 e.1 net.macros))
      (same_false e.0 e.1 (apart e m)) (ap not (free e m)))

  module _ (fit : any (unfit net.macros) T ≡ false) where
    both : (e : Edge) → e ∈ T → (same_place e.0 e.1 ≡ false) × (not (clear e.0 e.1 net.macros) ≡ false)
    unfolding unfit
    both e m =
        or-none (same_place e.0 e.1) (not (clear e.0 e.1 net.macros)) (any_none (unfit net.macros) T fit e m)

    pub fit_apart : (e : Edge) → e ∈ T → e.0 ≡ e.1 → ⊥
    fit_apart e m k = differ (same_of e.0 e.1 k) (both e m).0

    pub fit_free : (e : Edge) → e ∈ T → clear e.0 e.1 net.macros ≡ true
    fit_free e m = not-false (clear e.0 e.1 net.macros) (both e m).1

-- V3: where there is an edge, each pin is an end of one, for a way leads from it
first-link : {T : List Edge} {x y : Place} {ps : List Place} → (x ≡ y → ⊥) → Way T x ps y → (z : Place) × Link T x z
first-link n (stop e) = absurd (n e)
first-link n (go {y = z} l w) = (z, l)

pub pin-held : (net : Net) (T : List Edge) → Passes net T → {e : Edge} → e ∈ T → (p : Place) → p ∈ net.pins → (z : Place) × Link T p z
pin-held net T ps {e} m p i = at (place_same p e.0)
  where
    at : Dec (p ≡ e.0) → (z : Place) × Link T p z
    at (yes q) = (e.1, inl (Memᴰ.cast (ap₂ (λ (a b : Place). (a, b)) q refl) m))
    at (no n) = first-link n (ps.one p e.0 (inl i) (inr (e.1, inl m)) n).free.way

module _ (net : Net) (T : List Edge) {p : Place} (pin : p ∈ net.pins) where
  -- a tree by the count whose points with a single edge are pins
  pub tree-passes : any (unfit net.macros) T ≡ false → TreeOn (points_of net.pins T) T → ((v : Place) → Single T v → v ∈ net.pins) →
      Passes net T
  tree-passes fit tree pinned = record {
    one = tree-one place_same tree (points-inside net.pins T) net.pins (pin-point net.pins T);
    once = (tree-simple place_same tree).single;
    apart = fit_apart net T fit;
    free = fit_free net T fit;
    pinned = pinned;
  }

  pub passes-tree : Passes net T → TreeOn (points_of net.pins T) T
  passes-tree ps =
      tree-counted net.pins T pin ps.one (record { apart = λ a b m e. ps.apart (a, b) m e; single = ps.once })

  passes_none : Passes net T → no_tree net.pins T ≡ false
  unfolding no_tree
  passes_none ps =
      or-neither (not (is_tree net.pins T)) (any (bare net.pins (ends_of T)) (ends_of T))
      (ap not (of_tree net.pins T pin (passes-tree ps))) (pinned-bare net.pins T ps.pinned)

  none_passes : any (unfit net.macros) T ≡ false → no_tree net.pins T ≡ false → Passes net T
  unfolding no_tree
  none_passes fit e =
      let r = or-none (not (is_tree net.pins T)) (any (bare net.pins (ends_of T)) (ends_of T)) e in
      tree-passes fit (tree_of net.pins T (not-false (is_tree net.pins T) r.0))
      (bare-pinned net.pins T r.1 (fit_apart net T fit))

  -- what passes is given its cost and its metal
  pub passes-given : Passes net T → verdict net T ≡ given (pos (lengths (cost_in net) T), pos (lengths distance T))
  passes-given ps = verdict-passed net T (fit_of net T ps.apart ps.free) (passes_none ps)

  -- and only what passes is given anything
  pub given-passes : {a : ℤ × ℤ} → verdict net T ≡ given a → Passes net T
  given-passes {a} e =
      by (any (unfit net.macros) T)
      (λ t. told-apart 34 a (sym (verdict-unfit net T t) ∙ e))
      (λ f. by (no_tree net.pins T) (λ t. told-apart 35 a (sym (verdict-none net T f t) ∙ e)) (λ g. none_passes f g))

  -- fit edges that do not pass are 35
  pub other-35 : any (unfit net.macros) T ≡ false → (Passes net T → ⊥) → verdict net T ≡ refused 35
  other-35 f n = by (no_tree net.pins T) (λ t. verdict-none net T f t) (λ g. absurd (n (none_passes f g)))

  -- V4: an edge given twice, from either end, is 35
  pub twice-35 : any (unfit net.macros) T ≡ false → (a b : Place) (l : Link T a b) → Link (others l) a b → verdict net T ≡ refused 35
  twice-35 f a b l k = other-35 f (λ ps. ps.once a b l k)
