-- Pieces that make up the line of an edge, the lines of a list of edges and the header.
-- Assumes nothing.
use mathlib.Core.Path.{◌≡◌, refl, sym, ap, ap₂, ◌∙◌}
use mathlib.Core.List.{List, [], ◌∷◌, ◌++◌, append_assoc, append-nil}
use Prim.Native.Nat.{ℕ, zero, suc, ◌+◌, ◌*◌}
use native.Mathlib.Numerals.{add-one}
use native.Mathlib.Omega.{arith}
use lib.IntN.{ℤ, pos}
use Rattle.lent.specs.Entries.{flat, entries_from, entries}
use Rattle.lent.proofs.EntryTable.{flat_append}
use Rattle.plane.specs.declared.Place.{Place}
use Rattle.plane.specs.declared.Weights.{Weights}
use Rattle.plane.specs.Cost.{cost}
use Rattle.plane.specs.Flat.{place_from, place_at}
use Rattle.graph.specs.Numbers.{edge_from}
use Rattle.text.specs.Text.{decimal, whole, line, space, newline, edge_line, counts_text, totals_text}
use Rattle.text.specs.Text.{pins_word, macros_word, terminal_word, refined_word, metal_word}
use Rattle.text.specs.Put.{Put}

-- a number with the byte behind it, and a place
abbrev pub number : ℤ → ℕ → List ℕ
number z behind = whole z ++ (behind ∷ [])

abbrev pub places : Place → List ℕ
places p = number p.x space ++ number p.y space

pub edge-line : (w : Weights) (a b : Place) → (places a ++ places b) ++ number (pos (cost w a b)) newline ≡ edge_line w (a, b)
unfolding edge_line line
edge-line w a b = simp append_assoc

-- the header's two halves
pub counts-line : (m k : ℕ) → (pins_word ++ decimal m) ++ (macros_word ++ decimal k) ≡ counts_text m k
unfolding counts_text
counts-line m k = append_assoc pins_word (decimal m) (macros_word ++ decimal k)

regrouped : (a b c d e f g : List ℕ) → (((a ++ b) ++ (c ++ d)) ++ (e ++ f)) ++ g ≡ a ++ (b ++ (c ++ (d ++ (e ++ (f ++ g)))))
regrouped a b c d e f g = simp append_assoc

pub totals-line : (t r l : ℤ)
    → (((terminal_word ++ whole t) ++ (refined_word ++ whole r)) ++ (metal_word ++ whole l)) ++ (newline ∷ []) ≡ totals_text t r l
unfolding totals_text
totals-line t r l = regrouped terminal_word (whole t) refined_word (whole r) metal_word (whole l) (newline ∷ [])

-- one edge more
entries-last : (s : List ℤ) (k n : ℕ) → entries_from edge_from 4 s k n ++ (edge_from s (k + n * 4) ∷ []) ≡ entries_from edge_from 4 s k (suc n)
unfolding entries_from
entries-last s k zero = ap (λ (j : ℕ). edge_from s j ∷ []) (omega arith)
entries-last s k (suc n) =
    ap (λ (l : List (Place × Place)). edge_from s k ∷ l)
    (ap (λ (j : ℕ). entries_from edge_from 4 s (k + 4) n ++ (edge_from s j ∷ [])) (omega arith) ∙ entries-last s (k + 4) n)

same-edge : (s : List ℤ) (i : ℕ) → (place_at s (i * 2), place_at s (i * 2 + 1)) ≡ edge_from s (0 + i * 4)
same-edge s i =
    let e : i * 2 * 2 ≡ 0 + i * 4 = omega arith in
    let f : (i * 2 + 1) * 2 ≡ 0 + i * 4 + 2 = omega arith in
    ap₂ (λ (j k : ℕ). (place_from s j, place_from s k)) e f

pub lines_more : (w : Weights) (s : List ℤ) (i : ℕ)
    → flat (edge_line w) (entries edge_from 4 s i) ++ edge_line w (place_at s (i * 2), place_at s (i * 2 + 1))
    ≡ flat (edge_line w) (entries edge_from 4 s (i + 1))
unfolding flat
lines_more w s i =
    ap (λ (l : List ℕ). flat (edge_line w) (entries edge_from 4 s i) ++ l)
    (ap (edge_line w) (same-edge s i) ∙ sym (append-nil (edge_line w (edge_from s (0 + i * 4)))))
    ∙ sym (flat_append (edge_line w) (entries edge_from 4 s i) (edge_from s (0 + i * 4) ∷ []))
    ∙ ap (flat (edge_line w)) (entries-last s 0 i ∙ ap (entries_from edge_from 4 s 0) (sym (add-one i)))

-- no line yet
pub no_lines : (w : Weights) (o : List ℕ) (at : ℕ) (s : List ℤ) → Put o at (flat (edge_line w) (entries edge_from 4 s 0)) o at
unfolding flat entries_from
no_lines w o at s = record { holds = refl; moves = omega arith }
