-- D3 of Kruskal's choice: what is kept is a joining, no joining is shorter, one chain of kept paths that repeats none leads from each pin
-- to each other, and its longest path is no longer than the longest path of any chain.
-- The paths compared with are any things with ends and a cost whose ends are joined by offered ones that cost no more.
-- Assumes nothing.
use mathlib.Core.Path.{◌≡◌, sym, ap, ◌∙◌}
use mathlib.Core.List.{List, map}
use Prim.Native.Nat.{ℕ, suc, ◌≤◌}
use lib.ListN.{length, length-map}
use Rattle.lists.specs.Total.{total, most}
use Rattle.lists.proofs.TotalLaws.{le-most, most-le}
use Rattle.joined.specs.Joined.{Joined}
use Rattle.joined.specs.Keep.{kept, Offered, Dominated}
use Rattle.joined.specs.Light.{light}
use Rattle.joined.specs.Chain.{Chain, Joining, OurWay}
use Rattle.joined.proofs.TreeLaws.{tree-cuts}
use Rattle.joined.proofs.LightLaws.{of-light}
use Rattle.joined.proofs.ShortestLaws.{kept-tree, path-kept, shortest}
use Rattle.joined.proofs.ChainLaws.{chain-through, joining-joins, joins-joining, joined-our-way, our-way-only}

module _ {A B : Type 0} (same : Discrete A) (ends : B → A × A) (weight : B → ℕ) {pins : List A} {L : List B}
    (o : Offered ends weight pins L) where
  abbrev ours : List B
  ours = kept same ends L

  -- T14: m − 1 paths are kept
  pub ours-count : suc (length ours) ≡ length pins
  ours-count = ap suc (sym (length-map ours ends)) ∙ (kept-tree same ends weight o).size

  -- D3b: what is kept is a joining
  pub ours-joining : Joining ends pins ours
  ours-joining = joins-joining ends same (kept-tree same ends weight o).joins

  our-way-one : {x y : A} {bs cs : List B} → OurWay ends ours x y bs → OurWay ends ours x y cs → bs ≡ cs
  our-way-one u v = our-way-only ends ours (tree-cuts same (kept-tree same ends weight o)) same u v

  module _ {C : Type 0} (span : C → A × A) (cost : C → ℕ) (dominated : (c : C) → Dominated ends weight L (span c) (cost c)) where
    -- D3c: no joining is shorter than ours
    pub no-shorter : (J : List C) → Joining span pins J → total (map weight ours) ≤ total (map cost J)
    no-shorter J h = shortest same ends weight o span cost dominated J (joining-joins span same h)

    -- D3d: no chain has a longest path that is shorter than the longest on our way
    pub no_longer : {x y : A} → (x ≡ y → ⊥) → {bs : List B} → OurWay ends ours x y bs → {cs : List C} → Chain span x cs y →
        most (map weight bs) ≤ most (map cost cs)
    no_longer {x} {y} n {bs} u {cs} c = at (joined-our-way ends same (light weight t ours) n joined)
      where
        t : ℕ
        t = most (map cost cs)

        joined : Joined (map ends (light weight t ours)) x y
        joined = chain-through span c (λ d m. path-kept same ends weight o span cost dominated t d (le-most cost cs d m))

        wider : {ds : List B} → OurWay ends (light weight t ours) x y ds → OurWay ends ours x y ds
        wider v = record { chain = v.chain; among = λ d m. (of-light weight t ours (v.among d m)).0; once = v.once }

        at : (ds : List B) × OurWay ends (light weight t ours) x y ds → most (map weight bs) ≤ t
        at (ds, v) =
            let e : bs ≡ ds = our-way-one u (wider v) in
            rw e (most-le weight ds t (λ d m. (of-light weight t ours (v.among d m)).1))
