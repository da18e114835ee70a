-- An edge's wires: horizontal, then vertical, none of length zero, from its smaller place to its larger one within their box, as long as
-- the edge. So wires of edges with clear ends enter no interior, and they are the edges' metal.
-- Assumes nothing.
use mathlib.Core.Path.{◌≡◌, refl, sym, ap, ap₂, ◌∙◌, subst}
use mathlib.Core.Bool.{true}
use mathlib.Core.Logic.{◌⊎◌, inl, inr}
use mathlib.Core.List.Memᴰ
use mathlib.Core.List.{List, [], ◌∷◌, ◌++◌, append-nil}
use Prim.Native.Nat.{◌+◌}
use native.Mathlib.Omega.{arith}
use lib.IntN.{ℤ}
use lib.Signed.{lt_z}
use Rattle.lists.specs.Member.{◌∈◌}
use Rattle.lists.specs.Total.{total}
use Rattle.lists.proofs.TestLaws.{either}
use Rattle.lists.proofs.EachLaws.{of-each}
use Rattle.signed.proofs.SideLaws.{lt-z_lt}
use Rattle.plane.specs.declared.Place.{Place}
use Rattle.plane.specs.Place.{place, before}
use Rattle.plane.specs.Distance.{distance}
use Rattle.plane.proofs.PlaceLaws.{before-true}
use Rattle.plane.proofs.DistanceLaws.{distance-comm, distance_self}
use Rattle.plane.specs.Box.{InBox}
use Rattle.plane.proofs.BoxLaws.{first-in-box, last-in-box, clear_within, distance-through}
use Rattle.joined.specs.Cost.{lengths}
use Rattle.joined.proofs.CostLaws.{lengths-append}
use Rattle.refined.specs.Wires.{drawn, bend, wires_of_edge, wires}
use Rattle.refined.specs.Promise.{Horizontal, Vertical, Leads, EdgeWires, Wired}
use Rattle.refined.proofs.WireLaws.{drawn-cases, drawn-few, edge-wires, wires-none, wires-more, wires-few}

-- One wire, or none

of-drawn : (a b : Place) (w : Place × Place) → w ∈ drawn a b → (w ≡ (a, b)) × (a ≡ b → ⊥)
of-drawn a b w i =
    drawn-cases a b (λ e d. elim (subst (λ (l : List (Place × Place)). w ∈ l) d i) [ ])
    (λ n d. (Memᴰ.eq_of_singleton (subst (λ (l : List (Place × Place)). w ∈ l) d i), n))

drawn-leads : (a b c : Place) (ws : List (Place × Place)) → Leads b ws c → Leads a (drawn a b ++ ws) c
drawn-leads a b c ws h =
    drawn-cases a b (λ e d. rw d (subst (λ (x : Place). Leads x ws c) (sym e) h)) (λ n d. rw d (refl, h))

drawn-long : (a b : Place) → lengths distance (drawn a b) ≡ distance a b
unfolding lengths total
drawn-long a b =
    drawn-cases a b (λ e d. rw d (sym (ap (distance a) (sym e) ∙ distance_self a))) (λ n d. rw d (omega arith))

-- The wires of an edge

module _ (a b : Place) where
  bend-in-box : InBox (bend a b) a b
  bend-in-box = record { across = (last-in-box a b).across; along = (first-in-box a b).along }

  level : (w : Place × Place) → w ∈ drawn a (bend a b) → Horizontal w
  level w i =
      let r = of-drawn a (bend a b) w i in
      subst Horizontal (sym r.0) (refl, λ e. r.1 (ap (λ (x : ℤ). place x a.y) e))

  upright : (w : Place × Place) → w ∈ drawn (bend a b) b → Vertical w
  upright w i =
      let r = of-drawn (bend a b) b w i in
      subst Vertical (sym r.0) (refl, λ e. r.1 (ap (λ (y : ℤ). place b.x y) e))

  rightward : before a b ≡ true → (w : Place × Place) → w ∈ drawn a (bend a b) → lt_z w.0.x w.1.x ≡ true
  rightward h w i =
      let r = of-drawn a (bend a b) w i in
      subst (λ (v : Place × Place). lt_z v.0.x v.1.x ≡ true) (sym r.0)
      (either (λ l. lt-z_lt a.x b.x l) (λ e. absurd (r.1 (ap (λ (x : ℤ). place x a.y) e.0))) (before-true a b h))

  from-to : Leads a (wires_of_edge (a, b)) b
  from-to =
      rw (edge-wires a b)
      (drawn-leads a (bend a b) b (drawn (bend a b) b)
      (subst (λ (ws : List (Place × Place)). Leads (bend a b) ws b) (append-nil (drawn (bend a b) b)) (drawn-leads (bend a b) b b [] refl)))

  long : lengths distance (wires_of_edge (a, b)) ≡ distance a b
  long =
      let c = bend a b in
      ap (lengths distance) (edge-wires a b)
      ∙ lengths-append distance (drawn a c) (drawn c b)
      ∙ ap₂ ◌+◌ (drawn-long a c ∙ distance-comm a c) (drawn-long c b)
      ∙ distance-through c a b bend-in-box

  -- a wire's start and end are the edge's places or the bend
  ends-in-box : (c d : Place) → InBox c a b → InBox d a b → (w : Place × Place) → w ∈ drawn c d → InBox w.0 a b × InBox w.1 a b
  ends-in-box c d h k w i = subst (λ (v : Place × Place). InBox v.0 a b × InBox v.1 a b) (sym (of-drawn c d w i).0) (h, k)

  inside : (w : Place × Place) → w ∈ wires_of_edge (a, b) → InBox w.0 a b × InBox w.1 a b
  inside w i =
      either (ends-in-box a (bend a b) (first-in-box a b) bend-in-box w) (ends-in-box (bend a b) b bend-in-box (last-in-box a b) w)
      (Memᴰ.append_cases (drawn a (bend a b)) (subst (λ (l : List (Place × Place)). w ∈ l) (edge-wires a b) i))

pub edge-wired : (e : Place × Place) → EdgeWires e (wires_of_edge e)
edge-wired e =
    let a = e.0 in
    let b = e.1 in
    record {
      across = drawn a (bend a b);
      up = drawn (bend a b) b;
      whole = edge-wires a b;
      few = (drawn-few a (bend a b), drawn-few (bend a b) b);
      level = level a b;
      upright = upright a b;
      leads = from-to a b;
      rightward = rightward a b;
      long = long a b;
      inside = inside a b;
      free = λ ms h w i. let k = inside a b w i in clear_within w.0 w.1 a b k.0 k.1 ms h;
    }

-- The wires of edges

wires-long : (es : List (Place × Place)) → lengths distance (wires es) ≡ lengths distance es
unfolding lengths total
wires-long [] = ap (lengths distance) wires-none
wires-long (e ∷ es) =
    ap (lengths distance) (wires-more e es)
    ∙ lengths-append distance (wires_of_edge e) (wires es)
    ∙ ap₂ ◌+◌ (long e.0 e.1) (wires-long es)

wires-axis : (e w : Place × Place) → w ∈ wires_of_edge e → Horizontal w ⊎ Vertical w
wires-axis e w i =
    let a = e.0 in
    let b = e.1 in
    either (λ k. inl (level a b w k)) (λ k. inr (upright a b w k))
    (Memᴰ.append_cases (drawn a (bend a b)) (subst (λ (l : List (Place × Place)). w ∈ l) (edge-wires a b) i))

pub wired : (es : List (Place × Place)) → Wired es (wires es)
wired es = record {
  few = wires-few es;
  axis = λ w i. let p = of-each wires_of_edge wires wires-none wires-more es i in wires-axis p.entry w p.holds;
  long = wires-long es;
  free =
      λ ms h w i.
      let p = of-each wires_of_edge wires wires-none wires-more es i in
      (edge-wired p.entry).free ms (h p.entry p.stands) w p.holds;
}
