-- The list of edges holds just the grid's steps, each read either way. Neighbouring lines are entries that follow each other in order.
-- Assumes nothing.
use mathlib.Core.Path.{◌≡◌, refl, sym, ap, ap₂}
use mathlib.Core.Bool.{true}
use mathlib.Core.Logic.{◌⊎◌, inl, inr}
use mathlib.Core.List.Memᴰ
use mathlib.Core.List.{List, [], ◌∷◌, ◌++◌, map}
use lib.IntN.{ℤ}
use lib.Signed.{lt_z}
use Rattle.lists.specs.Member.{◌∈◌, here, there}
use Rattle.lists.specs.Sorted.{Ascending}
use Rattle.lists.proofs.TestLaws.{either}
use Rattle.lists.proofs.MapLaws.{in_map, of_map}
use Rattle.lists.proofs.ThoseLaws.{in-those, of-those}
use Rattle.lists.proofs.EachLaws.{of-each, in-each}
use Rattle.lists.proofs.SortedLaws.{in-sorted, sorted-ascending}
use Rattle.signed.specs.Sides.{Lt}
use Rattle.signed.proofs.SideLaws.{z_lt-true, signed}
use Rattle.joined.specs.Joined.{Link}
use Rattle.joined.proofs.JoinedLaws.{firsts, seconds, turn}
use Rattle.plane.specs.declared.Place.{Place}
use Rattle.plane.specs.declared.Macro.{Macro}
use Rattle.plane.specs.Place.{place}
use Rattle.plane.specs.Macro.{clear}
use Rattle.net.specs.Net.{Net}
use Rattle.lines.specs.declared.Axis.TheVariants.{Across, Along}
use Rattle.lines.specs.Lines.{coordinate, sides, marks, lines_of, x_lines, y_lines, Sides, Crossing, Neighbours, GridStep, across, along}
use Rattle.lines.specs.Edges.{nexts, Edge, row, column, rows, columns, edges_of, grid_edges}
use Rattle.lines.proofs.LineLaws.{line-order}
use Rattle.lines.proofs.StepLaws.{step_back, step-cases}

-- Neighbouring lines

pub in-nexts : (L : List ℤ) → Ascending lt_z L → (a b : ℤ) → Neighbours L a b → (a, b) ∈ nexts L
unfolding nexts
in-nexts [] h a b n = elim n.first [ ]
in-nexts (x ∷ []) h a b n = absurd (alone (Memᴰ.cases_cons n.first) (Memᴰ.cases_cons n.second))
  where
    alone : (a ≡ x) ⊎ (a ∈ []) → (b ≡ x) ⊎ (b ∈ []) → ⊥
    alone (inl e) (inl f) = let r : Lt x x = (rw (e, f) at n).rise in omega (signed, r)
    alone (inl e) (inr m) = elim m [ ]
    alone (inr m) f = elim m [ ]
in-nexts (x ∷ (y ∷ l)) h a b n =
    at (λ (o : Neighbours (y ∷ l) a b). in-nexts (y ∷ l) h.1 a b o) (Memᴰ.cases_cons n.first) (Memᴰ.cases_cons n.second)
  where
    -- what follows x is above it
    over : (c : ℤ) → c ∈ (y ∷ l) → Lt x c
    over c m = z_lt-true x c (h.0 c m)

    -- a is x, so b is y
    first : a ≡ x → (b ≡ y) ⊎ (b ∈ l) → (a, b) ∈ ((x, y) ∷ nexts (y ∷ l))
    first e (inl f) = here (ap₂ (λ (p q : ℤ). (p, q)) e f)
    first e (inr m) = absurd (n.none y (there (here refl)) (rw e (over y (here refl))) (z_lt-true y b (h.1.0 b m)))

    at : (Neighbours (y ∷ l) a b → (a, b) ∈ nexts (y ∷ l)) → (a ≡ x) ⊎ (a ∈ (y ∷ l)) → (b ≡ x) ⊎ (b ∈ (y ∷ l)) →
        (a, b) ∈ ((x, y) ∷ nexts (y ∷ l))
    at ih (inl e) (inl f) = absurd (let r : Lt x x = (rw (e, f) at n).rise in let z : ⊥ = omega (signed, r) in z)
    at ih (inl e) (inr m) = first e (Memᴰ.cases_cons m)
    at ih (inr m) (inl f) = absurd (let r : Lt a x = (rw f at n).rise in let z : ⊥ = omega (signed, r, over a m) in z)
    at ih (inr m) (inr k) = there (ih record { first = m; second = k; rise = n.rise; none = λ c i. n.none c (there i) })

pub of-nexts : (L : List ℤ) → Ascending lt_z L → (a b : ℤ) → (a, b) ∈ nexts L → Neighbours L a b
unfolding nexts
of-nexts [] h a b m = elim m [ ]
of-nexts (x ∷ []) h a b m = elim m [ ]
of-nexts (x ∷ (y ∷ l)) h a b m = either (λ e. head (firsts e) (seconds e)) (λ i. further (of-nexts (y ∷ l) h.1 a b i))
    (Memᴰ.cases_cons m)
  where
    none : (c : ℤ) → (c ≡ x) ⊎ (c ∈ (y ∷ l)) → Lt x c → Lt c y → ⊥
    none c (inl e) k i = let r : Lt x x = rw e at k in omega (signed, r)
    none c (inr j) k i =
        either
        (λ e. let r : Lt y y = rw e at i in omega (signed, r))
        (λ p. let r = z_lt-true y c (h.1.0 c p) in omega (signed, r, i))
        (Memᴰ.cases_cons j)

    head : a ≡ x → b ≡ y → Neighbours (x ∷ (y ∷ l)) a b
    head e f = rw (e, f) record {
      first = here refl;
      second = there (here refl);
      rise = z_lt-true x y (h.0 y (here refl));
      none = λ c i. none c (Memᴰ.cases_cons i);
    }

    further : Neighbours (y ∷ l) a b → Neighbours (x ∷ (y ∷ l)) a b
    further n = record {
      first = there n.first;
      second = there n.second;
      rise = n.rise;
      none = λ c i k j. either
          (λ e. let r = z_lt-true x a (h.0 a n.first) in let s : Lt a x = rw e at k in omega (signed, r, s))
          (λ p. n.none c p k j) (Memᴰ.cases_cons i);
    }

-- Segments

module _ (xs ys : List ℤ) (ms : List Macro) where
  rows_in : {y : ℤ} {e : Edge} → y ∈ ys → e ∈ row xs y → e ∈ rows xs ys
  unfolding rows
  rows_in m i = in-each (row xs) (rows xs) refl (λ y l. refl) ys m i

  columns-in : {x : ℤ} {e : Edge} → x ∈ xs → e ∈ column ys x → e ∈ columns ys xs
  unfolding columns
  columns-in m i = in-each (column ys) (columns ys) refl (λ x l. refl) xs m i

  module _ (hx : Ascending lt_z xs) (hy : Ascending lt_z ys) where
    -- a clear segment of a row or of a column
    in_row : (a b : Place) → Neighbours xs a.x b.x → a.y ≡ b.y → a.y ∈ ys → clear a b ms ≡ true → (a, b) ∈ edges_of xs ys ms
    unfolding edges_of row
    in_row a b n e m h =
        in-those (λ (e : Edge). clear e.0 e.1 ms) _
        (Memᴰ.append_left _ (rows_in m
        (Memᴰ.cast (ap (λ (y : ℤ). (a, place b.x y)) (sym e))
        (in_map (λ (s : ℤ × ℤ). (place s.0 a.y, place s.1 a.y)) (in-nexts xs hx a.x b.x n))))) h

    in-column : (a b : Place) → Neighbours ys a.y b.y → a.x ≡ b.x → a.x ∈ xs → clear a b ms ≡ true → (a, b) ∈ edges_of xs ys ms
    unfolding edges_of column
    in-column a b n e m h =
        in-those (λ (e : Edge). clear e.0 e.1 ms) _
        (Memᴰ.append_right (rows xs ys) (columns-in m
        (Memᴰ.cast (ap (λ (x : ℤ). (a, place x b.y)) (sym e))
        (in_map (λ (s : ℤ × ℤ). (place a.x s.0, place a.x s.1)) (in-nexts ys hy a.y b.y n))))) h

    pub step-link : (a b : Place) → GridStep xs ys ms a b → Link (edges_of xs ys ms) a b
    step-link = step-cases xs ys ms (Link (edges_of xs ys ms)) record {
      turned = λ a b l. turn l;
      level = λ a b n e m h. inl (in_row a b n e m h);
      upright = λ a b n e m h. inl (in-column a b n e m h);
    }

    -- and back
    across-at : (a b : Place) (p q y : ℤ) → a ≡ place p y → b ≡ place q y → Neighbours xs p q → y ∈ ys → clear a b ms ≡ true →
        GridStep xs ys ms a b
    across-at a b p q y e f n m h = across (inl (rw (e, f) n)) (rw (e, f) refl) (rw e m) h

    along-at : (a b : Place) (p q x : ℤ) → a ≡ place x p → b ≡ place x q → Neighbours ys p q → x ∈ xs → clear a b ms ≡ true →
        GridStep xs ys ms a b
    along-at a b p q x e f n m h = along (inl (rw (e, f) n)) (rw (e, f) refl) (rw e m) h

    of_row : (a b : Place) → clear a b ms ≡ true → (a, b) ∈ rows xs ys → GridStep xs ys ms a b
    unfolding rows row
    of_row a b h i =
        let p = of-each (row xs) (rows xs) refl (λ y l. refl) ys i in
        let s = of_map (λ (s : ℤ × ℤ). (place s.0 p.entry, place s.1 p.entry)) (nexts xs) p.holds in
        let ea : a ≡ place s.entry.0 p.entry = firsts s.is in
        let eb : b ≡ place s.entry.1 p.entry = seconds s.is in
        across-at a b s.entry.0 s.entry.1 p.entry ea eb (of-nexts xs hx s.entry.0 s.entry.1 s.stands) p.stands h

    of-column : (a b : Place) → clear a b ms ≡ true → (a, b) ∈ columns ys xs → GridStep xs ys ms a b
    unfolding columns column
    of-column a b h i =
        let p = of-each (column ys) (columns ys) refl (λ y l. refl) xs i in
        let s = of_map (λ (s : ℤ × ℤ). (place p.entry s.0, place p.entry s.1)) (nexts ys) p.holds in
        let ea : a ≡ place p.entry s.entry.0 = firsts s.is in
        let eb : b ≡ place p.entry s.entry.1 = seconds s.is in
        along-at a b s.entry.0 s.entry.1 p.entry ea eb (of-nexts ys hy s.entry.0 s.entry.1 s.stands) p.stands h

    pub edge-step : (a b : Place) → (a, b) ∈ edges_of xs ys ms → GridStep xs ys ms a b
    unfolding edges_of
    edge-step a b m =
        let r = of-those (λ (e : Edge). clear e.0 e.1 ms) (rows xs ys ++ columns ys xs) m in
        either (of_row a b r.1) (of-column a b r.1) (Memᴰ.append_cases (rows xs ys) r.0)

    pub link-step : (a b : Place) → Link (edges_of xs ys ms) a b → GridStep xs ys ms a b
    link-step a b (inl m) = edge-step a b m
    link-step a b (inr m) = step_back (edge-step b a m)

-- The lines of a net

lower_in : (ms : List Macro) (m : Macro) → m ∈ ms → place m.left m.bottom ∈ sides ms
unfolding sides
lower_in [] m x' = elim x' [ ]
lower_in (n ∷ ms) m (here e) = here (ap (λ (m : Macro). place m.left m.bottom) e)
lower_in (n ∷ ms) m (there i) = there (there (lower_in ms m i))

upper_in : (ms : List Macro) (m : Macro) → m ∈ ms → place m.right m.top ∈ sides ms
unfolding sides
upper_in [] m x' = elim x' [ ]
upper_in (n ∷ ms) m (here e) = there (here (ap (λ (m : Macro). place m.right m.top) e))
upper_in (n ∷ ms) m (there i) = there (there (upper_in ms m i))

module _ (net : Net) where
  -- the coordinates of marks are lines
  x-line : (p : Place) → p ∈ marks net.pins net.macros → p.x ∈ x_lines net
  unfolding lines_of coordinate
  x-line p m = in-sorted lt_z line-order (map (coordinate Across) (marks net.pins net.macros)) p.x (in_map (coordinate Across) m)

  y-line : (p : Place) → p ∈ marks net.pins net.macros → p.y ∈ y_lines net
  unfolding lines_of coordinate
  y-line p m = in-sorted lt_z line-order (map (coordinate Along) (marks net.pins net.macros)) p.y (in_map (coordinate Along) m)

  lower-mark : (m : Macro) → m ∈ net.macros → place m.left m.bottom ∈ marks net.pins net.macros
  unfolding marks
  lower-mark m i = Memᴰ.append_right net.pins (lower_in net.macros m i)

  upper-mark : (m : Macro) → m ∈ net.macros → place m.right m.top ∈ marks net.pins net.macros
  unfolding marks
  upper-mark m i = Memᴰ.append_right net.pins (upper_in net.macros m i)

  pub lines-sides : Sides (x_lines net) (y_lines net) net.macros
  lines-sides = record {
    left = λ m i. x-line (place m.left m.bottom) (lower-mark m i);
    right = λ m i. x-line (place m.right m.top) (upper-mark m i);
    bottom = λ m i. y-line (place m.left m.bottom) (lower-mark m i);
    top = λ m i. y-line (place m.right m.top) (upper-mark m i);
  }

  pub pin-crossing : (p : Place) → p ∈ net.pins → Crossing (x_lines net) (y_lines net) p
  unfolding marks
  pin-crossing p i = record { across = x-line p (Memᴰ.append_left _ i); along = y-line p (Memᴰ.append_left _ i) }

  pub x-ascending : Ascending lt_z (x_lines net)
  unfolding lines_of
  x-ascending = sorted-ascending lt_z line-order (map (coordinate Across) (marks net.pins net.macros))

  pub y-ascending : Ascending lt_z (y_lines net)
  unfolding lines_of
  y-ascending = sorted-ascending lt_z line-order (map (coordinate Along) (marks net.pins net.macros))

  pub grid-link : (a b : Place) → GridStep (x_lines net) (y_lines net) net.macros a b → Link (grid_edges net) a b
  unfolding grid_edges
  grid-link a b s = step-link (x_lines net) (y_lines net) net.macros x-ascending y-ascending a b s

  pub link-grid : (a b : Place) → Link (grid_edges net) a b → GridStep (x_lines net) (y_lines net) net.macros a b
  unfolding grid_edges
  link-grid a b l = link-step (x_lines net) (y_lines net) net.macros x-ascending y-ascending a b l
