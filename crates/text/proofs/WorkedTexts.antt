-- The text of the worked net E4 (E15), and of a refusal, by computing the definitions.
-- Assumes nothing.
use mathlib.Core.Path.{◌≡◌, refl}
use mathlib.Core.List.{List, [], ◌∷◌, ◌++◌}
use Prim.Native.Nat.{ℕ}
use lib.IntN.{ℤ, pos, negsuc}
use Rattle.lent.specs.Entries.{flat}
use Rattle.plane.specs.declared.Place.{Place}
use Rattle.plane.specs.Place.{place}
use Rattle.plane.specs.declared.Weights.{Weights}
use Rattle.plane.specs.Distance.{apart}
use Rattle.plane.specs.Cost.{cost, plain}
use Rattle.text.specs.declared.Header.{Header}
use Rattle.text.specs.Text.{digits_in, decimal, whole, line, edge_line, counts_text, totals_text, header, tree_text}
use Rattle.text.specs.Text.{refused_text}
use Rattle.text.specs.Text.{newline, pins_word, macros_word, terminal_word, refined_word, metal_word, refused_word}

-- the text of a tree; to unfold this is to unfold all that it rests on
unfoldable pub shown : Weights → Header → List (Place × Place) → List ℕ
unfolding flat apart cost digits_in decimal whole line edge_line counts_text totals_text header tree_text
shown w h edges = tree_text w h edges

unfoldable pub shown_refused : ℤ → List ℕ
unfolding digits_in decimal whole line refused_text
shown_refused n = refused_text n

-- a header
abbrev head : ℕ → ℕ → ℕ → ℕ → ℕ → Header
head m k t r l = record { pins = m; macros = k; terminal = pos t; refined = pos r; metal = pos l }

-- E15: the header and the lines of three edges, "pins 3 macros 0 terminal 9 refined 7 metal 7", "0 0 2 0 2", "2 0 2 3 3", "2 0 4 0 2"
abbrev pub three_lines : List ℕ
three_lines =
    pins_word ++ (51 ∷ (macros_word ++ (48 ∷ (terminal_word ++ (57 ∷ (refined_word ++ (55 ∷ (metal_word ++ (55 ∷ (newline
    ∷ (48 ∷ (32 ∷ (48 ∷ (32 ∷ (50 ∷ (32 ∷ (48 ∷ (32 ∷ (50 ∷ (newline
    ∷ (50 ∷ (32 ∷ (48 ∷ (32 ∷ (50 ∷ (32 ∷ (51 ∷ (32 ∷ (51 ∷ (newline
    ∷ (50 ∷ (32 ∷ (48 ∷ (32 ∷ (52 ∷ (32 ∷ (48 ∷ (32 ∷ (50 ∷ (newline ∷ []))))))))))))))))))))))))))))))))))))))))

-- "-1000000 0 -999990 1000000 1000010"
abbrev far_line : List ℕ
far_line =
    45 ∷ (49 ∷ (48 ∷ (48 ∷ (48 ∷ (48 ∷ (48 ∷ (48 ∷ (32 ∷ (48 ∷ (32
    ∷ (45 ∷ (57 ∷ (57 ∷ (57 ∷ (57 ∷ (57 ∷ (48 ∷ (32
    ∷ (49 ∷ (48 ∷ (48 ∷ (48 ∷ (48 ∷ (48 ∷ (48 ∷ (32
    ∷ (49 ∷ (48 ∷ (48 ∷ (48 ∷ (48 ∷ (49 ∷ (48 ∷ (newline ∷ []))))))))))))))))))))))))))))))))))

pub record Table : Type 0 where
  pub three-pins : shown plain (head 3 0 9 7 7) (
      (place (pos 0) (pos 0), place (pos 2) (pos 0))
      ∷ ((place (pos 2) (pos 0), place (pos 2) (pos 3))
      ∷ ((place (pos 2) (pos 0), place (pos 4) (pos 0)) ∷ []))
      ) ≡ three_lines
  pub no_edges : shown plain (head 1 64 0 0 0) []
      ≡ pins_word ++ (49 ∷ (macros_word ++ (54 ∷ (52 ∷ (terminal_word ++
      (48 ∷ (refined_word ++ (48 ∷ (metal_word ++ (48 ∷ (newline ∷ [])))))))))))
  pub far : shown plain (head 0 0 0 0 0) ((place (negsuc 999999) (pos 0), place (negsuc 999989) (pos 1000000)) ∷ [])
      ≡ shown plain (head 0 0 0 0 0) [] ++ far_line
  -- weights 1 and 3: the number behind an edge is its cost
  pub weighed : shown (record { across = 1; along = 3 }) (head 0 0 0 0 0) ((place (pos 0) (pos 0), place (pos 2) (pos 1)) ∷ [])
      ≡ shown plain (head 0 0 0 0 0) []
      ++ (48 ∷ (32 ∷ (48 ∷ (32 ∷ (50 ∷ (32 ∷ (49 ∷ (32 ∷ (53 ∷ (newline ∷ []))))))))))
  pub eleven : shown_refused (pos 11) ≡ refused_word ++ (49 ∷ (49 ∷ (newline ∷ [])))

pub worked-texts : Table
unfolding shown shown_refused
worked-texts = record {
  three-pins = refl;
  no_edges = refl;
  far = refl;
  weighed = refl;
  eleven = refl;
}
