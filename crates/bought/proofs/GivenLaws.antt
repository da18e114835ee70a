-- Edges of ours, handed back: a list of edges in range, few enough, that passes in words, passes as the numbers that are given for it.
-- Assumes nothing.
use mathlib.Core.Path.{◌≡◌, refl, ap, ◌∙◌}
use mathlib.Core.Bool.{false, not}
use mathlib.Core.List.{List, [], ◌∷◌}
use Prim.Native.Nat.{◌*◌, ◌/◌, ◌%◌, ◌≤◌}
use native.Mathlib.Omega.{arith}
use borrow.Author.Tests.{eq-eqb, le-ltb}
use lib.Dec.{eqb, ltb}
use lib.IntN.{pos}
use lib.ListN.{length, get_or}
use Rattle.lists.specs.Any.{any}
use Rattle.lists.specs.Entries.{fours}
use Rattle.lists.specs.Member.{◌∈◌, here, there}
use Rattle.lists.proofs.MemberLaws.{get_d-in}
use Rattle.lists.proofs.TestLaws.{or-neither}
use Rattle.lent.specs.Entries.{flat}
use Rattle.lent.specs.Told.{given}
use Rattle.lent.proofs.EntryTable.{length-flat}
use Rattle.joined.specs.Cost.{lengths}
use Rattle.plane.specs.declared.Place.{Place}
use Rattle.plane.specs.Place.{place}
use Rattle.plane.specs.Distance.{distance}
use Rattle.net.specs.Net.{Net, cost_in}
use Rattle.net.specs.Tests.{out_of_range}
use Rattle.net.specs.Allowed.{PlaceInRange, Allowed}
use Rattle.graph.specs.Numbers.{edge_numbers, edge_from}
use Rattle.graph.proofs.WidthLaws.{edge-width}
use Rattle.bought.specs.Bounds.{bought_bound}
use Rattle.bought.specs.Edges.{Edge, edges_of}
use Rattle.bought.specs.Passes.{Passes}
use Rattle.bought.specs.Verdict.{edges_miscounted, verdict, bought}
use Rattle.bought.proofs.PassLaws.{passes-given}
use Rattle.bought.proofs.VerdictLaws.{past-33}

pub flat-edges : (T : List Edge) → edges_of (flat edge_numbers T) ≡ T
unfolding edges_of fours flat
flat-edges [] = refl
flat-edges (e ∷ T) = ap (λ (l : List Edge). e ∷ l) (flat-edges T)

module _ (T : List Edge) where
  many : length (flat edge_numbers T) ≡ length T * 4
  many = length-flat edge_numbers edge_from 4 edge-width T

  pub flat-counted : length T ≤ bought_bound → edges_miscounted (flat edge_numbers T) ≡ false
  unfolding edges_miscounted
  flat-counted h =
      let n = length (flat edge_numbers T) in
      let whole : n % 4 ≡ 0 = omega (arith, many) in
      let few : n / 4 ≤ bought_bound = omega (arith, many, h) in
      or-neither (not (eqb (n % 4) 0)) (ltb bought_bound (n / 4)) (ap not (eq-eqb (n % 4) 0 whole)) (le-ltb bought_bound (n / 4) few)

pub flat-ranged : (T : List Edge) → ((e : Edge) → e ∈ T → PlaceInRange e.0 × PlaceInRange e.1) →
    any out_of_range (flat edge_numbers T) ≡ false
unfolding any flat
flat-ranged [] h = refl
flat-ranged (e ∷ T) h =
    let r = h e (here refl) in
    or-neither _ _ r.0.x (or-neither _ _ r.0.y (or-neither _ _ r.1.x (or-neither _ _ r.1.y
    (flat-ranged T (λ d m. h d (there m))))))

-- V9: what every tree that is given has to show
pub numbers-pass : (net : Net) {p : Place} → p ∈ net.pins → (T : List Edge) →
    ((e : Edge) → e ∈ T → PlaceInRange e.0 × PlaceInRange e.1) → length T ≤ bought_bound → Passes net T →
    bought net (flat edge_numbers T) ≡ given (pos (lengths (cost_in net) T), pos (lengths distance T))
numbers-pass net pin T ranged few ps =
    past-33 net (flat edge_numbers T) (flat-counted T few) (flat-ranged T ranged)
    ∙ ap (verdict net) (flat-edges T)
    ∙ passes-given net T pin ps

-- an allowed net has a pin
abbrev pub first_pin : Net → Place
first_pin net = get_or net.pins 0 (place (pos 0) (pos 0))

pub first-pin : {net : Net} → Allowed net → first_pin net ∈ net.pins
first-pin {net} a = get_d-in net.pins 0 (place (pos 0) (pos 0)) (omega (arith, a.some-pin))
