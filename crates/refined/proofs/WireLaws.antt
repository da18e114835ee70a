-- The wires of an edge and of edges: how they are given, and that there are at most two an edge.
-- Assumes nothing.
use mathlib.Core.Path.{◌≡◌, refl, sym, ap, ◌∙◌}
use mathlib.Core.List.{List, [], ◌∷◌, ◌++◌}
use Prim.Native.Nat.{ℕ, ◌+◌, ◌*◌, ◌≤◌}
use native.Mathlib.Omega.{arith}
use borrow.Author.Tests.{eqb-true, eqb-false, eq-eqb, ne_eqb}
use lib.Dec.{eqb}
use lib.IntN.{ℤ}
use lib.ListN.{length, length-append}
use lib.Seq.{sets}
use Rattle.lent.specs.Entries.{flat}
use Rattle.lent.proofs.EntryTable.{flat_append}
use Rattle.graph.specs.Numbers.{edge_numbers}
use Rattle.lists.proofs.TestLaws.{by}
use Rattle.lists.proofs.EachLaws.{length-each}
use Rattle.plane.specs.declared.Place.{Place}
use Rattle.plane.specs.Distance.{distance}
use Rattle.plane.proofs.DistanceLaws.{distance_none, distance_self}
use Rattle.refined.specs.Wires.{drawn, bend, wires_of_edge, wires}
use Rattle.refined.proofs.GivenLaws.{sets-append, edges-long}

pub drawn-none : (a b : Place) → distance a b ≡ 0 → drawn a b ≡ []
unfolding drawn
drawn-none a b e = rw (drawn, eq-eqb _ _ e) refl

pub drawn-one : (a b : Place) → (distance a b ≡ 0 → ⊥) → drawn a b ≡ (a, b) ∷ []
unfolding drawn
drawn-one a b n = rw (drawn, ne_eqb _ _ n) refl

-- there is a wire, or none is needed
pub drawn-cases : {C : Type 0} (a b : Place) → (a ≡ b → drawn a b ≡ [] → C) → ((a ≡ b → ⊥) → drawn a b ≡ (a, b) ∷ [] → C) → C
drawn-cases a b f g =
    by (eqb (distance a b) 0)
    (λ t. let e : distance a b ≡ 0 = eqb-true _ _ t in f (distance_none a b e) (drawn-none a b e))
    (λ t.
    let n : distance a b ≡ 0 → ⊥ = eqb-false _ _ t in
    g (λ e. n (ap (distance a) (sym e) ∙ distance_self a)) (drawn-one a b n))

pub drawn-few : (a b : Place) → length (drawn a b) ≤ 1
drawn-few a b = drawn-cases a b (λ e d. rw d (omega arith)) (λ n d. rw d (omega arith))

pub wires-none : wires [] ≡ []
unfolding wires
wires-none = refl

pub wires-more : (e : Place × Place) (es : List (Place × Place)) → wires (e ∷ es) ≡ wires_of_edge e ++ wires es
unfolding wires
wires-more e es = refl

pub edge-wires : (a b : Place) → wires_of_edge (a, b) ≡ drawn a (bend a b) ++ drawn (bend a b) b
unfolding wires_of_edge
edge-wires a b = refl

pub edge_few : (e : Place × Place) → length (wires_of_edge e) ≤ 2
unfolding wires_of_edge
edge_few e =
    let c = bend e.0 e.1 in
    omega (arith, length-append (drawn e.0 c) (drawn c e.1), drawn-few e.0 c, drawn-few c e.1)

-- at most two wires an edge
pub wires-few : (es : List (Place × Place)) → length (wires es) ≤ 2 * length es
wires-few es = length-each wires_of_edge wires wires-none wires-more 2 edge_few es

-- two wires given one behind the other: how many there are then, and the table
module _ (a b c : Place) (at : c ≡ bend a b) (i j r : ℕ) (t u v : List ℤ) where
  pub both-put : (j ≡ i + length (drawn a c)) × (u ≡ sets t (i * 4) (flat edge_numbers (drawn a c)))
      → (r ≡ j + length (drawn c b)) × (v ≡ sets u (j * 4) (flat edge_numbers (drawn c b)))
      → (r ≡ i + length (wires_of_edge (a, b))) × (v ≡ sets t (i * 4) (flat edge_numbers (wires_of_edge (a, b))))
  both-put f g =
      let two : wires_of_edge (a, b) ≡ drawn a c ++ drawn c b = edge-wires a b ∙ ap (λ (d : Place). drawn a d ++ drawn d b) (sym at) in
      let past : j * 4 ≡ i * 4 + length (flat edge_numbers (drawn a c)) = omega (arith, f.0, edges-long (drawn a c)) in
      rw two (
        omega (arith, f.0, g.0, length-append (drawn a c) (drawn c b)),
        g.1
            ∙ ap (λ (l : List ℤ). sets l (j * 4) (flat edge_numbers (drawn c b))) f.1
            ∙ sets-append t (i * 4) (j * 4) (flat edge_numbers (drawn a c)) (flat edge_numbers (drawn c b)) past
            ∙ ap (sets t (i * 4)) (sym (flat_append edge_numbers (drawn a c) (drawn c b))),
      )
