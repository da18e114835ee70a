-- What the program `route` prints, as bytes of ASCII: rules P2 to P5.
use Rattle.std.specs.Prelude.{true, false, List, [], ◌∷◌, ◌++◌, ℕ, zero, suc, ◌+◌, ◌/◌, ◌%◌, ltb, ℤ, pos, negsuc}
use Rattle.lent.specs.Entries.{flat}
use Rattle.plane.specs.declared.Place.{Place}
use Rattle.plane.specs.declared.Weights.{Weights}
use Rattle.plane.specs.Cost.{cost}
use Rattle.text.specs.declared.Header.{Header}

-- Numbers

-- the decimal digits of n, where they are at most `most`
unfoldable pub digits_in : ℕ → ℕ → List ℕ
digits_in zero n = []
digits_in (suc most) n = elim (ltb n 10) [ true ↦ (48 + n) ∷ [] | false ↦ digits_in most (n / 10) ++ ((48 + n % 10) ∷ []) ]

-- a natural number in decimal digits, with no zero in front of another digit
unfoldable pub decimal : ℕ → List ℕ
decimal n = digits_in (suc n) n

-- a whole number: one below zero has a minus sign in front
unfoldable pub whole : ℤ → List ℕ
whole (pos n) = decimal n
whole (negsuc n) = 45 ∷ decimal (suc n)

-- Lines

abbrev pub space : ℕ
space = 32

abbrev pub newline : ℕ
newline = 10

-- numbers with spaces between them, and the end of the line
unfoldable pub line : List ℤ → List ℕ
line [] = newline ∷ []
line (z ∷ []) = whole z ++ (newline ∷ [])
line (z ∷ (y ∷ rest)) = whole z ++ (space ∷ line (y ∷ rest))

-- P3: the line of an edge, its two places and its cost
unfoldable pub edge_line : Weights → Place × Place → List ℕ
edge_line w e = line (e.0.x ∷ (e.0.y ∷ (e.1.x ∷ (e.1.y ∷ (pos (cost w e.0 e.1) ∷ [])))))

-- Words, each with the spaces that stand around it

-- "pins "
abbrev pub pins_word : List ℕ
pins_word = 112 ∷ (105 ∷ (110 ∷ (115 ∷ (32 ∷ []))))

-- " macros "
abbrev pub macros_word : List ℕ
macros_word = 32 ∷ (109 ∷ (97 ∷ (99 ∷ (114 ∷ (111 ∷ (115 ∷ (32 ∷ [])))))))

-- " terminal "
abbrev pub terminal_word : List ℕ
terminal_word = 32 ∷ (116 ∷ (101 ∷ (114 ∷ (109 ∷ (105 ∷ (110 ∷ (97 ∷ (108 ∷ (32 ∷ [])))))))))

-- " refined "
abbrev pub refined_word : List ℕ
refined_word = 32 ∷ (114 ∷ (101 ∷ (102 ∷ (105 ∷ (110 ∷ (101 ∷ (100 ∷ (32 ∷ []))))))))

-- " metal "
abbrev pub metal_word : List ℕ
metal_word = 32 ∷ (109 ∷ (101 ∷ (116 ∷ (97 ∷ (108 ∷ (32 ∷ []))))))

-- "refused "
abbrev pub refused_word : List ℕ
refused_word = 114 ∷ (101 ∷ (102 ∷ (117 ∷ (115 ∷ (101 ∷ (100 ∷ (32 ∷ [])))))))

-- The text

-- P2: the header, with m and k, and then the two totals and the metal to lay
unfoldable pub counts_text : ℕ → ℕ → List ℕ
counts_text m k = pins_word ++ (decimal m ++ (macros_word ++ decimal k))

unfoldable pub totals_text : ℤ → ℤ → ℤ → List ℕ
totals_text terminal refined metal =
    terminal_word ++ (whole terminal ++ (refined_word ++ (whole refined ++ (metal_word ++ (whole metal ++ (newline ∷ []))))))

unfoldable pub header : Header → List ℕ
header h = counts_text h.pins h.macros ++ totals_text h.terminal h.refined h.metal

-- P3: the header, then a line for each edge in order
unfoldable pub tree_text : Weights → Header → List (Place × Place) → List ℕ
tree_text w h edges = header h ++ flat (edge_line w) edges

-- P4: the word and the number
unfoldable pub refused_text : ℤ → List ℕ
refused_text n = refused_word ++ line (n ∷ [])
