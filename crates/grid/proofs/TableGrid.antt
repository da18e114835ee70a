-- The tables of a net stand for its grid: each number of the table of costs that is above 0 is an edge, read either way, and each edge of
-- the grid has one. So a row that is settled by the tables is a table of distances along the grid.
-- Assumes nothing.
use mathlib.Core.Path.{◌≡◌, refl, sym, ap, ap₂, subst, ◌∙◌}
use mathlib.Core.Bool.{Bool, true}
use mathlib.Core.Logic.{◌⊎◌, inl, inr}
use mathlib.Core.List.{List, [], ◌∷◌}
use Prim.Native.Nat.{ℕ, zero, suc, ◌+◌, ◌*◌, ◌/◌, ◌%◌, ◌≤◌, ◌<◌}
use native.Mathlib.Decide.{ℕ_discrete}
use native.Mathlib.Numerals.{add-one}
use native.Mathlib.Omega.{arith}
use lib.IntN.{ℤ, pos}
use lib.ListN.{length, get_or}
use lib.Signed.{lt_z}
use Rattle.lists.specs.Member.{◌∈◌, here, there}
use Rattle.lists.specs.Sorted.{position}
use Rattle.lists.proofs.TestLaws.{by}
use Rattle.lists.proofs.MemberLaws.{get_d-in}
use Rattle.lists.proofs.SortedLaws.{position-small, position_at, at_position}
use Rattle.signed.specs.Sides.{Lt}
use Rattle.signed.proofs.SideLaws.{signed}
use Rattle.joined.specs.Joined.{Link}
use Rattle.joined.proofs.JoinedLaws.{firsts, seconds, turn}
use Rattle.plane.specs.declared.Place.{Place}
use Rattle.plane.specs.declared.Macro.{Macro}
use Rattle.plane.specs.Place.{place}
use Rattle.plane.specs.Cost.{Positive}
use Rattle.plane.specs.Macro.{clear}
use Rattle.plane.proofs.MacroLaws.{clear_comm}
use Rattle.plane.proofs.CostLaws.{cost-comm, cost-none}
use Rattle.net.specs.Net.{Net, cost_in}
use Rattle.lines.specs.declared.Grid.{Grid}
use Rattle.lines.specs.Bounds.{line_bound, unreached}
use Rattle.lines.specs.Lines.{x_lines, y_lines, Neighbours, Beside, GridStep, across, along}
use Rattle.lines.specs.Edges.{nexts, grid_edges}
use Rattle.lines.specs.Crossings.{is_crossing, crossing_number}
use Rattle.lines.specs.Tables.{FewLines}
use Rattle.grid.specs.Tables.{crossing_at, target, is_segment, segment_cost, CostsTo, Reads, Near}
use Rattle.lines.proofs.LineLaws.{line-order}
use Rattle.lines.proofs.EdgeLaws.{in-nexts, of-nexts, x-ascending, y-ascending, grid-link, link-grid}
use Rattle.grid.proofs.SegmentLaws.{target-even, target-odd, segment-clear, segment-met, even-segment, odd-segment, segment-inside}
use Rattle.grid.proofs.SegmentLaws.{edge_none, edge-there}
use Rattle.grid.proofs.Spread.{NearOf}

-- a number of a crossing, taken apart
taken-apart : (n i j : ℕ) → n ≡ i * line_bound + j → j < line_bound → (n / line_bound ≡ i) × (n % line_bound ≡ j)
taken-apart n i j e h = (omega (arith, e, h), omega (arith, e, h))

-- Neighbouring lines by their positions

next-suc : (L : List ℤ) (i : ℕ) → suc i < length L → (get_or L i (pos 0), get_or L (suc i) (pos 0)) ∈ nexts L
unfolding nexts
next-suc [] i h = absurd (let z : ⊥ = omega (arith, h) in z)
next-suc (a ∷ []) i h = absurd (let z : ⊥ = omega (arith, h) in z)
next-suc (a ∷ (b ∷ l)) zero h = here refl
next-suc (a ∷ (b ∷ l)) (suc i) h = there (next-suc (b ∷ l) i (omega (arith, h)))

next-at : (L : List ℤ) (i : ℕ) → i + 1 < length L → (get_or L i (pos 0), get_or L (i + 1) (pos 0)) ∈ nexts L
next-at L i h =
    subst (λ (n : ℕ). (get_or L i (pos 0), get_or L n (pos 0)) ∈ nexts L) (sym (add-one i)) (next-suc L i (omega (arith, h)))

record Position (L : List ℤ) (a b : ℤ) : Type 0 where
  number : ℕ
  inside : suc number < length L
  first : a ≡ get_or L number (pos 0)
  second : b ≡ get_or L (suc number) (pos 0)

of-next : (L : List ℤ) (a b : ℤ) → (a, b) ∈ nexts L → Position L a b
unfolding nexts
of-next (x ∷ []) a b x5 = elim x5 [ ]
of-next [] a b x' = elim x' [ ]
of-next (x ∷ (y ∷ l)) a b (here e) = record { number = zero; inside = omega arith; first = firsts e; second = seconds e }
of-next (x ∷ (y ∷ l)) a b (there m) =
    let r = of-next (y ∷ l) a b m in
    record { number = suc r.number; inside = omega (arith, r.inside); first = r.first; second = r.second }

-- An edge costs something

beside-differs : (L : List ℤ) (a b : ℤ) → Beside L a b → a ≡ b → ⊥
beside-differs L a b (inl n) e = let r : Lt b b = (rw e at n).rise in omega (signed, r)
beside-differs L a b (inr n) e = let r : Lt b b = (rw e at n).rise in omega (signed, r)

step-differs : (xs ys : List ℤ) (ms : List Macro) (a b : Place) → GridStep xs ys ms a b → a ≡ b → ⊥
step-differs xs ys ms a b (across n f m h) e = beside-differs xs a.x b.x n (ap (λ (p : Place). p.x) e)
step-differs xs ys ms a b (along n f m h) e = beside-differs ys a.y b.y n (ap (λ (p : Place). p.y) e)

pub link-cost : (net : Net) → Positive net.weights → (a b : Place) → Link (grid_edges net) a b → 1 ≤ cost_in net a b
link-cost net positive a b l = at (cost_in net a b) refl
  where
    at : (k : ℕ) → cost_in net a b ≡ k → 1 ≤ cost_in net a b
    at zero f =
        absurd (step-differs (x_lines net) (y_lines net) net.macros a b (link-grid net a b l) (cost-none net.weights positive a b f))
    at (suc k) f = omega (arith, f)

-- the tables of a net's grid
pub record Made (net : Net) (g : Grid) (xs ys : List ℤ) (costs : List ℕ) (e : ℕ) : Type 0 where
  pub x-count : g.across ≡ length (x_lines net)
  pub y-count : g.along ≡ length (y_lines net)
  pub few : FewLines g
  pub x-at : (i : ℕ) → i < length (x_lines net) → get_or xs i (pos 0) ≡ get_or (x_lines net) i (pos 0)
  pub y-at : (i : ℕ) → i < length (y_lines net) → get_or ys i (pos 0) ≡ get_or (y_lines net) i (pos 0)
  pub count : e ≡ g.across * line_bound * 2
  pub filled : CostsTo net.weights net.macros g xs ys e costs

module _ (net : Net) (g : Grid) (xs ys : List ℤ) (costs : List ℕ) (e : ℕ) (made : Made net g xs ys costs e) where
  abbrev pub name : Place → ℕ
  name = crossing_number (x_lines net) (y_lines net)

  -- the crossing of two lines by their positions
  abbrev crossing : ℕ → ℕ → Place
  crossing i j = place (get_or (x_lines net) i (pos 0)) (get_or (y_lines net) j (pos 0))

  name-at : (i j : ℕ) → i < length (x_lines net) → j < length (y_lines net) → name (crossing i j) ≡ i * line_bound + j
  unfolding crossing_number
  name-at i j h k =
      ap₂ (λ (a b : ℕ). a * line_bound + b)
      (position_at lt_z line-order (x_lines net) (x-ascending net) i (pos 0) h)
      (position_at lt_z line-order (y_lines net) (y-ascending net) j (pos 0) k)

  at-crossing : (v i j : ℕ) → v ≡ i * line_bound + j → i < length (x_lines net) → j < length (y_lines net) → crossing_at xs ys v ≡ crossing i j
  at-crossing v i j e h k =
      let r = taken-apart v i j e (omega (arith, k, made.y-count, made.few.along)) in
      ap₂ place (ap (λ (n : ℕ). get_or xs n (pos 0)) r.0 ∙ made.x-at i h) (ap (λ (n : ℕ). get_or ys n (pos 0)) r.1 ∙ made.y-at j k)

  -- what the tables have for segment k, from a to b
  record Facts (k : ℕ) (a b : Place) : Type 0 where
    inside : k < e
    from_is : k / 2 ≡ name a
    to_is : target k ≡ name b
    price : get_or costs k 0 ≡ segment_cost net.weights net.macros a b

  module _ (i j : ℕ) where
    even-facts : i + 1 < length (x_lines net) → j < length (y_lines net) → Facts ((i * line_bound + j) * 2) (crossing i j) (crossing (i + 1) j)
    even-facts h l =
        let k = (i * line_bound + j) * 2 in
        let half : k / 2 ≡ i * line_bound + j = omega arith in
        let z : k % 2 ≡ 0 = omega arith in
        let to : target k ≡ (i + 1) * line_bound + j = omega (arith, target-even k z, half) in
        let inside : k < e = omega (arith, h, l, made.x-count, made.y-count, made.few.along, made.count) in
        let apart = taken-apart (k / 2) i j half (omega (arith, l, made.y-count, made.few.along)) in
        let there = even-segment g k z (omega (arith, h, apart.0, made.x-count)) (omega (arith, l, apart.1, made.y-count)) in
        record {
          inside = inside;
          from_is = half ∙ sym (name-at i j (omega (arith, h)) l);
          to_is = to ∙ sym (name-at (i + 1) j h l);
          price =
              made.filled.each k inside
              ∙ edge-there net.weights net.macros g xs ys k there
              ∙ ap₂ (segment_cost net.weights net.macros) (at-crossing (k / 2) i j half (omega (arith, h)) l)
              (at-crossing (target k) (i + 1) j to h l);
        }

    odd-facts : i < length (x_lines net) → j + 1 < length (y_lines net) → Facts ((i * line_bound + j) * 2 + 1) (crossing i j)
        (crossing i (j + 1))
    odd-facts h l =
        let k = (i * line_bound + j) * 2 + 1 in
        let half : k / 2 ≡ i * line_bound + j = omega arith in
        let z : k % 2 ≡ 0 → ⊥ = λ f. omega (arith, f) in
        let to : target k ≡ i * line_bound + (j + 1) = omega (arith, target-odd k z, half) in
        let inside : k < e = omega (arith, h, l, made.x-count, made.y-count, made.few.along, made.count) in
        let apart = taken-apart (k / 2) i j half (omega (arith, l, made.y-count, made.few.along)) in
        let there = odd-segment g k z (omega (arith, h, apart.0, made.x-count)) (omega (arith, l, apart.1, made.y-count)) in
        record {
          inside = inside;
          from_is = half ∙ sym (name-at i j h (omega (arith, l)));
          to_is = to ∙ sym (name-at i (j + 1) h l);
          price =
              made.filled.each k inside
              ∙ edge-there net.weights net.macros g xs ys k there
              ∙ ap₂ (segment_cost net.weights net.macros) (at-crossing (k / 2) i j half h (omega (arith, l)))
              (at-crossing (target k) i (j + 1) to h l);
        }

  -- From the tables to the grid

  abbrev On : Place → Bool
  On = is_crossing (x_lines net) (y_lines net)

  abbrev pub NearGrid : ℕ → ℕ → ℕ → Type 0
  NearGrid = NearOf (grid_edges net) (cost_in net) unreached On name

  -- a segment that costs something is clear
  costs-clear : (a b : Place) → 1 ≤ segment_cost net.weights net.macros a b → clear a b net.macros ≡ true
  costs-clear a b h =
      by (clear a b net.macros) (λ f. f)
      (λ f. let z : ⊥ = omega (arith, h, segment-met net.weights net.macros a b f) in absurd z)

  facts-near : (k v w c : ℕ) (a b : Place) → Facts k a b → (clear a b net.macros ≡ true → Link (grid_edges net) a b) →
      Reads costs e k v w c → NearGrid v w c
  facts-near k v w c a b f link r = at r.ends
    where
      free : clear a b net.macros ≡ true
      free = costs-clear a b (omega (arith, f.price, r.is))

      price : c ≡ cost_in net a b
      price = r.price ∙ f.price ∙ segment-clear net.weights net.macros a b free

      at : ((v ≡ k / 2) × (w ≡ target k)) ⊎ ((v ≡ target k) × (w ≡ k / 2)) → NearGrid v w c
      at (inl s) = record { from = a; to = b; link = link free; from_is = s.0 ∙ f.from_is; to_is = s.1 ∙ f.to_is; cost-is = price }
      at (inr s) = record {
        from = b;
        to = a;
        link = turn (link free);
        from_is = s.0 ∙ f.to_is;
        to_is = s.1 ∙ f.from_is;
        cost-is = price ∙ cost-comm net.weights a b;
      }

  module _ (v w c i j : ℕ) where
    even-near : i + 1 < length (x_lines net) → j < length (y_lines net) → Reads costs e ((i * line_bound + j) * 2) v w c → NearGrid v w c
    even-near h l s =
        facts-near ((i * line_bound + j) * 2) v w c (crossing i j) (crossing (i + 1) j) (even-facts i j h l)
        (λ free. grid-link net (crossing i j) (crossing (i + 1) j)
        (across (inl (of-nexts (x_lines net) (x-ascending net) _ _ (next-at (x_lines net) i h))) refl
        (get_d-in (y_lines net) j (pos 0) l) free)) s

    odd-near : i < length (x_lines net) → j + 1 < length (y_lines net) → Reads costs e ((i * line_bound + j) * 2 + 1) v w c → NearGrid v w c
    odd-near h l s =
        facts-near ((i * line_bound + j) * 2 + 1) v w c (crossing i j) (crossing i (j + 1)) (odd-facts i j h l)
        (λ free. grid-link net (crossing i j) (crossing i (j + 1))
        (along (inl (of-nexts (y_lines net) (y-ascending net) _ _ (next-at (y_lines net) j l))) refl
        (get_d-in (x_lines net) i (pos 0) h) free)) s

  pub near-grid : (v w c : ℕ) → Near costs e v w c → NearGrid v w c
  near-grid v w c (k, (inside, r)) = at (ℕ_discrete (k % 2) 0)
    where
      there : is_segment g k ≡ true
      there =
          by (is_segment g k) (λ f. f)
          (λ f. let z : ⊥ = omega (arith, r.is, made.filled.each k inside, edge_none net.weights net.macros g xs ys k f) in
          absurd z)

      at : Dec (k % 2 ≡ 0) → NearGrid v w c
      at (yes z) =
          let s = (segment-inside g k there).even z in
          let n : k ≡ (k / 2 / line_bound * line_bound + k / 2 % line_bound) * 2 = omega (arith, z) in
          even-near v w c (k / 2 / line_bound) (k / 2 % line_bound) (omega (arith, s, made.x-count)) (omega (arith, s, made.y-count))
          (subst (λ (m : ℕ). Reads costs e m v w c) n r)
      at (no z) =
          let s = (segment-inside g k there).odd z in
          let n : k ≡ (k / 2 / line_bound * line_bound + k / 2 % line_bound) * 2 + 1 = omega (arith, z) in
          odd-near v w c (k / 2 / line_bound) (k / 2 % line_bound) (omega (arith, s, made.x-count)) (omega (arith, s, made.y-count))
          (subst (λ (m : ℕ). Reads costs e m v w c) n r)

  -- And back

  facts-reads : (k : ℕ) (a b c d : Place) → Facts k c d → a ≡ c → b ≡ d → clear a b net.macros ≡ true → 1 ≤ cost_in net a b →
      Near costs e (name a) (name b) (cost_in net a b)
  facts-reads k a b c d f g h free some =
      let price : get_or costs k 0 ≡ cost_in net a b = rw (g, h)
      (f.price ∙ segment-clear net.weights net.macros c d (rw (g, h) at free)) in (
        k,
        (
          f.inside,
          record {
            ends = inl (rw g (sym f.from_is), rw h (sym f.to_is));
            price = sym price;
            is = omega
                (arith, price, some);
          },
        ),
      )

  near-turn : (v w c d : ℕ) → c ≡ d → Near costs e v w c → Near costs e w v d
  near-turn v w c d f (k, (h, r)) = (k, (h, record { ends = at r.ends; price = sym f ∙ r.price; is = r.is }))
    where
      at : ((v ≡ k / 2) × (w ≡ target k)) ⊎ ((v ≡ target k) × (w ≡ k / 2)) → ((w ≡ k / 2) × (v ≡ target k)) ⊎ ((w ≡ target k) × (v ≡ k / 2))
      at (inl s) = inr (s.1, s.0)
      at (inr s) = inl (s.1, s.0)

  module _ (positive : Positive net.weights) where
    up-across : (a b : Place) → Neighbours (x_lines net) a.x b.x → a.y ≡ b.y → a.y ∈ y_lines net → clear a b net.macros ≡ true →
        1 ≤ cost_in net a b → Near costs e (name a) (name b) (cost_in net a b)
    up-across a b n f m free some =
        let p = of-next (x_lines net) a.x b.x (in-nexts (x_lines net) (x-ascending net) a.x b.x n) in
        let j = position lt_z (y_lines net) a.y in
        let y = at_position lt_z line-order (y_lines net) (y-ascending net) a.y (pos 0) m in
        facts-reads ((p.number * line_bound + j) * 2) a b (crossing p.number j) (crossing (p.number + 1) j)
        (even-facts p.number j (omega (arith, p.inside)) (position-small lt_z line-order (y_lines net) (y-ascending net) a.y m))
        (ap₂ place p.first (sym y)) (ap₂ place (p.second ∙ ap (λ (n : ℕ). get_or (x_lines net) n (pos 0)) (sym (add-one p.number)))
        (sym (y ∙ f))) free some

    up-along : (a b : Place) → Neighbours (y_lines net) a.y b.y → a.x ≡ b.x → a.x ∈ x_lines net → clear a b net.macros ≡ true →
        1 ≤ cost_in net a b → Near costs e (name a) (name b) (cost_in net a b)
    up-along a b n f m free some =
        let p = of-next (y_lines net) a.y b.y (in-nexts (y_lines net) (y-ascending net) a.y b.y n) in
        let i = position lt_z (x_lines net) a.x in
        let x = at_position lt_z line-order (x_lines net) (x-ascending net) a.x (pos 0) m in
        facts-reads ((i * line_bound + p.number) * 2 + 1) a b (crossing i p.number) (crossing i (p.number + 1))
        (odd-facts i p.number (position-small lt_z line-order (x_lines net) (x-ascending net) a.x m) (omega (arith, p.inside)))
        (ap₂ place (sym x) p.first) (ap₂ place (sym (x ∙ f))
        (p.second ∙ ap (λ (n : ℕ). get_or (y_lines net) n (pos 0)) (sym (add-one p.number)))) free some

    step-near : (a b : Place) → GridStep (x_lines net) (y_lines net) net.macros a b → 1 ≤ cost_in net a b →
        Near costs e (name a) (name b) (cost_in net a b)
    step-near a b (across (inl n) f m free) some = up-across a b n f m free some
    step-near a b (across (inr n) f m free) some =
        near-turn (name b) (name a) (cost_in net b a) (cost_in net a b) (cost-comm net.weights b a)
        (up-across b a n (sym f) (rw (← f) m) (clear_comm b a net.macros ∙ free) (omega (arith, some, cost-comm net.weights b a)))
    step-near a b (along (inl n) f m free) some = up-along a b n f m free some
    step-near a b (along (inr n) f m free) some =
        near-turn (name b) (name a) (cost_in net b a) (cost_in net a b) (cost-comm net.weights b a)
        (up-along b a n (sym f) (rw (← f) m) (clear_comm b a net.macros ∙ free) (omega (arith, some, cost-comm net.weights b a)))

    pub grid-near : (v w c : ℕ) → NearGrid v w c → Near costs e v w c
    grid-near v w c n =
        rw (n.from_is, n.to_is, n.cost-is)
        (step-near n.from n.to (link-grid net n.from n.to n.link) (link-cost net positive n.from n.to n.link))
