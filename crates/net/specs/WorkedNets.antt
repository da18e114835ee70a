-- The worked nets E1 to E11 and E19 as flat lists, named once; each crate above proves of them what it defines.
use Rattle.std.specs.Prelude.{List, [], ◌∷◌, ◌++◌, ℤ, pos, negsuc}

-- a pin with a load, one without, and a macro, as flat lists of their numbers
abbrev pub loaded_pin : ℤ → ℤ → ℤ → List ℤ
loaded_pin x y load = x ∷ (y ∷ (load ∷ []))

abbrev pub pin : ℤ → ℤ → List ℤ
pin x y = loaded_pin x y (pos 0)

abbrev pub block : ℤ → ℤ → ℤ → ℤ → List ℤ
block l b r t = l ∷ (b ∷ (r ∷ (t ∷ [])))

pub record Lists : Type 0 where
  pub pins : List ℤ
  pub macros : List ℤ

-- E1: one pin, no macro
abbrev pub one_pin : Lists
one_pin = record { pins = pin (pos 5) (pos 5); macros = [] }

-- E2: no pin at all
abbrev pub no_pin : Lists
no_pin = record { pins = []; macros = [] }

-- E3: two pins, and a macro in between
abbrev pub around_one : Lists
around_one = record { pins = pin (pos 0) (pos 0) ++ pin (pos 10) (pos 0); macros = block (pos 4) (negsuc 1) (pos 6) (pos 3) }

-- E4: three pins, no macro
abbrev pub three_pins : Lists
three_pins = record { pins = pin (pos 0) (pos 0) ++ (pin (pos 4) (pos 0) ++ pin (pos 2) (pos 3)); macros = [] }

-- E5: two macros that share a side, with a pin below and one above it
abbrev pub shared_side : Lists
shared_side = record {
  pins = pin (pos 2) (negsuc 0) ++ pin (pos 2) (pos 3);
  macros = block (pos 0) (pos 0) (pos 2) (pos 2) ++ block (pos 2) (pos 0) (pos 4) (pos 2);
}

-- E6: a macro one unit wide, with a pin on its left side and one on its right
abbrev pub on_sides : Lists
on_sides = record { pins = pin (pos 0) (pos 1) ++ pin (pos 1) (pos 1); macros = block (pos 0) (pos 0) (pos 1) (pos 2) }

-- E7: interiors that meet
abbrev pub overlapping : Lists
overlapping = record {
  pins = pin (pos 9) (pos 9);
  macros = block (pos 0) (pos 0) (pos 2) (pos 2) ++ block (pos 1) (pos 1) (pos 3) (pos 3);
}

-- E8, E9 and E10: a pin on a macro's boundary, in its interior, and twice in its interior
abbrev pub on_boundary : Lists
on_boundary = record { pins = pin (pos 4) (pos 0); macros = block (pos 4) (negsuc 1) (pos 6) (pos 3) }

abbrev pub in_interior : Lists
in_interior = record { pins = pin (pos 5) (pos 0); macros = block (pos 4) (negsuc 1) (pos 6) (pos 3) }

abbrev pub twice_in_interior : Lists
twice_in_interior = record { pins = pin (pos 5) (pos 0) ++ pin (pos 5) (pos 0); macros = block (pos 4) (negsuc 1) (pos 6) (pos 3) }

-- E11: a macro without width
abbrev pub no_width : Lists
no_width = record { pins = pin (pos 9) (pos 9); macros = block (pos 3) (pos 0) (pos 3) (pos 5) }

-- E19: four pins, which with weights 1 and 3 are refined to a tree of more metal than the kept paths have
abbrev pub four_pins : Lists
four_pins = record {
  pins = pin (pos 3) (pos 1) ++ (pin (pos 0) (pos 0) ++ (pin (pos 2) (pos 0) ++ pin (pos 0) (pos 2)));
  macros = [];
}
