-- Edges are read back as they were written, four numbers an edge, as places are.
-- Assumes nothing.
use mathlib.Core.Path.{◌≡◌, refl, sym, ap, ap₂, ◌∙◌}
use mathlib.Core.List.{List, ◌∷◌, ◌++◌, append_assoc}
use Prim.Native.Nat.{ℕ, ◌+◌, ◌≤◌}
use native.Mathlib.Omega.{arith}
use lib.IntN.{ℤ, pos}
use lib.ListN.{length, get_or, take, drop, length-append}
use Rattle.lent.specs.Entries.{Width}
use Rattle.plane.specs.declared.Place.{Place}
use Rattle.plane.specs.Flat.{place_from}
use Rattle.net.proofs.WidthLaws.{two_from, place-back}
pub use Rattle.net.proofs.WidthLaws.{place-width}
use Rattle.graph.specs.Numbers.{place_numbers, edge_numbers, edge_from}

edge-back : (s : List ℤ) (e : Place × Place) (t : List ℤ) → edge_from (s ++ (edge_numbers e ++ t)) (length s) ≡ e
edge-back s e t =
    let front = s ++ place_numbers e.0 in
    let text : s ++ (edge_numbers e ++ t) ≡ front ++ (place_numbers e.1 ++ t) =
    sym (append_assoc s (place_numbers e.0) (place_numbers e.1 ++ t)) in
    let at : length s + 2 ≡ length front = sym (length-append s (place_numbers e.0)) in
    ap₂ (λ (a b : Place). (a, b))
    (place-back s e.0 (place_numbers e.1 ++ t))
    (ap₂ place_from text at ∙ place-back front e.1 t)

edge-forth : (s : List ℤ) (k : ℕ) → k + 4 ≤ length s → edge_numbers (edge_from s k) ≡ take 4 (drop k s)
edge-forth s k h =
    sym
    (ap (take 4)
    (two_from s k (omega arith)
    ∙ ap (λ (l : List ℤ). get_or s k (pos 0) ∷ (get_or s (k + 1) (pos 0) ∷ l)) (two_from s (k + 2) (omega arith))))

pub edge-width : Width edge_numbers edge_from 4
edge-width = record {
  each = λ e. refl;
  back = edge-back;
  forth = edge-forth;
}
