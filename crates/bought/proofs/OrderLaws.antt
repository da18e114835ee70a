-- V8: the verdict is the same for every order of the edges and either end of each, and for every order of the net's lists. The points are
-- the same list, and what is asked of them speaks of links, of their count and of ends counted.
-- Assumes nothing.
use mathlib.Core.Path.{◌≡◌, refl, sym, ap, ap₂, ◌∙◌, subst}
use mathlib.Core.Bool.{Bool, true, false, not, cond, ◌||◌, ◌&&◌}
use mathlib.Core.Logic.{inl, inr, ∥∥₁_elim}
use mathlib.Core.List.Permᴰ
use mathlib.Core.List.{List, [], ◌∷◌, Perm}
use Prim.Native.Nat.{ℕ, suc, ◌+◌, ◌/◌, ◌%◌}
use native.Mathlib.Omega.{arith}
use lib.Dec.{eqb, ltb}
use lib.IntN.{ℤ, pos}
use lib.ListN.{length}
use Rattle.lists.specs.Any.{any}
use Rattle.lists.specs.Entries.{fours}
use Rattle.lists.specs.Member.{◌∈◌, Among, here, there}
use Rattle.lists.specs.Total.{total}
use Rattle.lists.proofs.AnyLaws.{any_none, none_any, any-agree}
use Rattle.lists.proofs.AnyOrder.{any-perm}
use Rattle.lists.proofs.PermLaws.{perm-among, order-lists-set}
use Rattle.lists.proofs.SortedLaws.{ascending-same}
use Rattle.lists.proofs.TestLaws.{by, either, or_swap}
use Rattle.lent.specs.Told.{Told, refused, given}
use Rattle.joined.specs.Cost.{lengths}
use Rattle.joined.specs.Joined.{Link}
use Rattle.joined.specs.Tree.{TreeOn}
use Rattle.joined.proofs.TreeLaws.{tree-linked}
use Rattle.plane.specs.declared.Place.{Place}
use Rattle.plane.specs.declared.Macro.{Macro}
use Rattle.plane.specs.declared.Weights.{Weights}
use Rattle.plane.specs.Place.{before, same_place}
use Rattle.plane.specs.Distance.{distance}
use Rattle.plane.specs.Cost.{cost}
use Rattle.plane.specs.Macro.{clear}
use Rattle.plane.proofs.PlaceLaws.{same-comm}
use Rattle.plane.proofs.PlaceOrder.{place-order}
use Rattle.plane.proofs.MacroLaws.{clear_comm}
use Rattle.plane.proofs.CostLaws.{cost-comm}
use Rattle.plane.proofs.DistanceLaws.{distance-comm}
use Rattle.net.specs.Net.{Net}
use Rattle.net.specs.Tests.{out_of_range}
use Rattle.bought.specs.Bounds.{bought_bound}
use Rattle.bought.specs.Edges.{Edge, edges_of, ends_of, points_of}
use Rattle.bought.specs.Rearranged.{Rearranged, none, keep, turn, swap, then, SameEdges}
use Rattle.bought.specs.Verdict.{edges_miscounted, unfit, is_tree, ends_at, bare, no_tree, verdict, bought}
use Rattle.bought.proofs.EdgeLaws.{of-ends, link-end}
use Rattle.bought.proofs.TreeTest.{points-ascending, pin-point, end-point, of-points, tree_of, of_tree}
use Rattle.bought.proofs.BareLaws.{as-false, ends_more}
use Rattle.bought.proofs.VerdictLaws.{whole, miscounted-33}

-- What a rearrangement keeps

pub rearranged-back : {T U : List Edge} → Rearranged T U → Rearranged U T
rearranged-back none = none
rearranged-back (keep r) = keep (rearranged-back r)
rearranged-back (turn r) = turn (rearranged-back r)
rearranged-back swap = swap
rearranged-back (then r s) = then (rearranged-back s) (rearranged-back r)

any-kept : (f : Edge → Bool) → ((a b : Place) → f (a, b) ≡ f (b, a)) → {T U : List Edge} → Rearranged T U → any f T ≡ any f U
unfolding any
any-kept f c none = refl
any-kept f c (keep {e} r) = ap (λ (t : Bool). f e || t) (any-kept f c r)
any-kept f c (turn {a} {b} r) = ap₂ ◌||◌ (c a b) (any-kept f c r)
any-kept f c (swap {e = x} {f = y} {T = T}) = or_swap (f x) (f y) (any f T)
any-kept f c (then r s) = any-kept f c r ∙ any-kept f c s

length-kept : {T U : List Edge} → Rearranged T U → length U ≡ length T
length-kept none = refl
length-kept (keep r) = ap suc (length-kept r)
length-kept (turn r) = ap suc (length-kept r)
length-kept swap = refl
length-kept (then r s) = length-kept s ∙ length-kept r

lengths-kept : (d : Place → Place → ℕ) → ((a b : Place) → d a b ≡ d b a) → {T U : List Edge} → Rearranged T U → lengths d T ≡ lengths d U
unfolding lengths total
lengths-kept d c none = refl
lengths-kept d c (keep {e} r) = ap (λ (n : ℕ). d e.0 e.1 + n) (lengths-kept d c r)
lengths-kept d c (turn {a} {b} r) = ap₂ ◌+◌ (c a b) (lengths-kept d c r)
lengths-kept d c swap = omega arith
lengths-kept d c (then r s) = lengths-kept d c r ∙ lengths-kept d c s

pub pair-kept : {T U : List Edge} → Rearranged T U → (a b : Place) → (a, b) ∈ T → Link U a b
pair-kept none a b m = elim m [ ]
pair-kept (keep r) a b (here e) = inl (here e)
pair-kept (keep r) a b (there m) = either (λ i. inl (there i)) (λ i. inr (there i)) (pair-kept r a b m)
pair-kept (turn r) a b (here e) = inr (here (ap (λ (p : Edge). (p.1, p.0)) e))
pair-kept (turn r) a b (there m) = either (λ i. inl (there i)) (λ i. inr (there i)) (pair-kept r a b m)
pair-kept swap a b (here e) = inl (there (here e))
pair-kept swap a b (there (here e)) = inl (here e)
pair-kept swap a b (there (there m)) = inl (there (there m))
pair-kept (then r s) a b m = either (λ i. pair-kept s a b i) (λ i. either inr inl (pair-kept s b a i)) (pair-kept r a b m)

link-kept : {T U : List Edge} → Rearranged T U → {a b : Place} → Link T a b → Link U a b
link-kept r (inl m) = pair-kept r _ _ m
link-kept r (inr m) = either inr inl (pair-kept r _ _ m)

ends-kept : {T U : List Edge} → Rearranged T U → (v : Place) → ends_at (ends_of T) v ≡ ends_at (ends_of U) v
ends-kept none v = refl
ends-kept (keep {e} {T} {U} r) v = omega (arith, ends_more v e T, ends_more v e U, ends-kept r v)
ends-kept (turn {a} {b} {T} {U} r) v = omega (arith, ends_more v (a, b) T, ends_more v (b, a) U, ends-kept r v)
ends-kept (swap {e} {f} {T}) v =
    omega (arith, ends_more v e (f ∷ T), ends_more v f T, ends_more v f (e ∷ T), ends_more v e T)
ends-kept (then r s) v = ends-kept r v ∙ ends-kept s v

among-kept : {T U : List Edge} → Rearranged T U → Among (ends_of T) (ends_of U)
among-kept {T} {U} r x m = link-end U (link-kept r (of-ends T m).1)

-- Tests that imply each other

as-true : (p q : Bool) → (p ≡ true → q ≡ true) → (q ≡ true → p ≡ true) → p ≡ q
as-true true true f g = refl
as-true true false f g = sym (f refl)
as-true false true f g = g refl
as-true false false f g = refl

any-among : (f : Place → Bool) {l m : List Place} → Among l m → Among m l → any f l ≡ any f m
any-among f {l} {m} h k =
    as-false (any f l) (any f m) (λ e. none_any f m (λ x i. any_none f l e x (k x i))) (λ e. none_any f l (λ x i. any_none f m e x (h x i)))

-- Two nets with the same pins in another order, and two lists of the same edges

module _ {ps qs : List Place} (order : Perm ps qs) {T U : List Edge} (r : Rearranged T U) where
  same_points : points_of ps T ≡ points_of qs U
  same_points =
      ∥∥₁_elim order (order-lists-set place-order _ _) λ d.
      ascending-same before place-order (points_of ps T) (points_of qs U) (points-ascending ps T) (points-ascending qs U)
      (λ x m.
      either (λ i. pin-point qs U x (perm-among d x i)) (λ l. end-point qs U x (link-end U (link-kept r l.1)))
      (of-points ps T x m))
      (λ x m.
      either (λ i. pin-point ps T x (perm-among (Permᴰ.symm d) x i))
      (λ l. end-point ps T x (link-end T (link-kept (rearranged-back r) l.1))) (of-points qs U x m))

  same-bare : any (bare ps (ends_of T)) (ends_of T) ≡ any (bare qs (ends_of U)) (ends_of U)
  unfolding bare
  same-bare =
      any-agree (bare ps (ends_of T)) (bare qs (ends_of U))
      (λ v. ap₂ (λ (n : ℕ) (b : Bool). eqb n 1 && not b) (ends-kept r v) (any-perm (same_place v) ps qs order)) (ends_of T)
      ∙ any-among (bare qs (ends_of U)) (among-kept r) (among-kept (rearranged-back r))

  module _ {p q : Place} (pin : p ∈ ps) (other : q ∈ qs) where
    same-tree : is_tree ps T ≡ is_tree qs U
    same-tree =
        as-true (is_tree ps T) (is_tree qs U)
        (λ e. of_tree qs U other (subst (λ (X : List Place). TreeOn X U) same_points
        (tree-linked (tree_of ps T e) (pair-kept r) (length-kept r))))
        (λ e. of_tree ps T pin (subst (λ (X : List Place). TreeOn X T) (sym same_points)
        (tree-linked (tree_of qs U e) (pair-kept (rearranged-back r)) (length-kept (rearranged-back r)))))

    same_none : no_tree ps T ≡ no_tree qs U
    unfolding no_tree
    same_none = ap₂ (λ (a b : Bool). not a || b) same-tree same-bare

    pub same-verdict : (w : Weights) (ms ns : List Macro) → ((x y : Place) → clear x y ms ≡ clear x y ns) →
        verdict (record { pins = ps; macros = ms; weights = w }) T ≡ verdict (record { pins = qs; macros = ns; weights = w }) U
    unfolding verdict unfit
    same-verdict w ms ns clears =
        let fits : any (unfit ms) T ≡ any (unfit ns) U =
        any-agree (unfit ms) (unfit ns) (λ e. ap (λ (b : Bool). same_place e.0 e.1 || not b) (clears e.0 e.1)) T
        ∙ any-kept (unfit ns) (λ a b. ap₂ (λ (s t : Bool). s || not t) (same-comm a b) (clear_comm a b ns)) r in
        let sums : (ℤ × ℤ) = (pos (lengths (cost w) U), pos (lengths distance U)) in
        ap₂ (λ (m n : ℕ). cond (any (unfit ms) T) (refused 34) (cond (no_tree ps T) (refused 35) (given (pos m, pos n))))
        (lengths-kept (cost w) (cost-comm w) r) (lengths-kept distance distance-comm r)
        ∙ ap₂ (λ (a b : Bool). cond a (refused 34) (cond b (refused 35) (given sums))) fits same_none

-- 33 on the edges, where they are whole

abbrev edge_out : Edge → Bool
edge_out e = (out_of_range e.0.x || out_of_range e.0.y) || (out_of_range e.1.x || out_of_range e.1.y)

four : (p q r s t : Bool) → (p || (q || (r || (s || t)))) ≡ (((p || q) || (r || s)) || t)
four true q r s t = refl
four false true r s t = refl
four false false true s t = refl
four false false false s t = refl

or_comm : (p q : Bool) → (p || q) ≡ (q || p)
or_comm true true = refl
or_comm true false = refl
or_comm false true = refl
or_comm false false = refl

pub range-edges : (s : List ℤ) → length s % 4 ≡ 0 → any out_of_range s ≡ any edge_out (edges_of s)
unfolding any edges_of fours
range-edges [] h = refl
range-edges (a ∷ []) h = absurd (let z : ⊥ = omega arith in z)
range-edges (a ∷ (b ∷ [])) h = absurd (let z : ⊥ = omega arith in z)
range-edges (a ∷ (b ∷ (c ∷ []))) h = absurd (let z : ⊥ = omega arith in z)
range-edges (a ∷ (b ∷ (c ∷ (d ∷ s)))) h =
    four (out_of_range a) (out_of_range b) (out_of_range c) (out_of_range d) (any out_of_range s)
    ∙ ap (λ (t : Bool). ((out_of_range a || out_of_range b) || (out_of_range c || out_of_range d)) || t) (range-edges s (omega arith))

module _ {ps qs : List Place} (order : Perm ps qs) {p q : Place} (pin : p ∈ ps) (other : q ∈ qs) (w : Weights) (ms ns : List Macro)
    (clears : (x y : Place) → clear x y ms ≡ clear x y ns) where
  abbrev one : Net
  one = record { pins = ps; macros = ms; weights = w }

  abbrev two : Net
  two = record { pins = qs; macros = ns; weights = w }

  pub same-bought : (s t : List ℤ) → SameEdges s t → bought one s ≡ bought two t
  unfolding bought edges_miscounted
  same-bought s t e =
      by (edges_miscounted s)
      (λ m. miscounted-33 one s m ∙ sym (miscounted-33 two t (sym counts ∙ m)))
      (λ m.
      let range : any out_of_range s ≡ any out_of_range t =
      range-edges s (whole one s m) ∙ any-kept edge_out turned e.order ∙ sym (range-edges t (whole two t (sym counts ∙ m))) in
      ap₂ (λ (b : Bool) (v : Told (ℤ × ℤ)). cond b (refused 33) v) (ap₂ ◌||◌ counts range)
      (same-verdict order e.order pin other w ms ns clears))
    where
      turned : (a b : Place) → edge_out (a, b) ≡ edge_out (b, a)
      turned a b = or_comm (out_of_range a.x || out_of_range a.y) (out_of_range b.x || out_of_range b.y)

      counts : edges_miscounted s ≡ edges_miscounted t
      counts = ap (λ (n : ℕ). not (eqb (n % 4) 0) || ltb bought_bound (n / 4)) e.many
