-- R27: the way to a vertex beside the tree is laid, from the tree outwards: each vertex is put in as a point, with an edge to the last one.
--
-- Numbers of points and of edges move on; the last point and the two edges that the exchange will take out are followed through it.
use Rattle.std.specs.Prelude.{◌≡◌, Bool, true, false, not, List, [], ◌∷◌, ℕ, ◌+◌, ◌<◌, ltb, ℤ, get_or}
use Rattle.plane.specs.declared.Place.{Place}
use Rattle.plane.specs.Flat.{place_at}
use Rattle.plane.specs.Rank.{rank}
use Rattle.tree.specs.Table.{key, Tree, tree, Within}
use Rattle.refiner.specs.declared.Growth.{Growth}
use Rattle.lists.specs.Turns.{turns, seek}
use Rattle.exchanges.specs.Exchange.{opened, bump, bump_at, carrying}

-- a tree, the last point that was put in, and two edges
pub record Grown : Type 0 where
  pub tree : Tree
  pub last : ℕ
  pub edge : ℕ
  pub cut : ℕ

-- as the code has it
abbrev pub grown : List ℤ → List ℕ → Growth → Grown
grown pts keys g = record { tree = tree pts g.points keys g.edges; last = g.last; edge = g.edge; cut = g.cut }

-- the key of the edge of two points
unfoldable pub pair_key : ℕ → ℕ → ℕ
pair_key a b = elim (ltb a b) [ true ↦ key a b | false ↦ key b a ]

-- how many of e keys come before a key
unfoldable pub not_below : List ℕ → ℕ → ℕ → Bool
not_below keys j i = not (ltb (get_or keys i 0) j)

unfoldable pub key_rank : List ℕ → ℕ → ℕ → ℕ
key_rank keys e j = seek (not_below keys j) 0 e

-- x put in, with an edge to the last point
unfoldable pub leaf : Place → Grown → Grown
leaf x g =
    let t = g.tree in
    let p = rank t.points t.count x in
    let keys = turns (bump_at p) 0 t.edges.size t.edges.keys in
    let j = pair_key p (bump p g.last) in
    let i = key_rank keys t.edges.size j in
    record {
      tree = tree (opened t.points t.count p x) (t.count + 1) (carrying 0 t.edges.size j keys) (t.edges.size + 1);
      last = p;
      edge = bump i g.edge;
      cut = bump i g.cut;
    }

-- the way from the last point to u, whose vertices after u are ys
unfoldable pub grafted : List ℤ → List ℕ → ℕ → Grown → Grown
grafted vs [] u g = g
grafted vs (y ∷ ys) u g = leaf (place_at vs u) (grafted vs ys y g)

-- what is kept while a way is laid: the last point is one, the two edges are two
pub record Growing (g : Growth) (keys : List ℕ) : Type 0 where
  pub last : g.last < g.points
  pub edge : g.edge < g.edges
  pub cut : g.cut < g.edges
  pub two : g.cut ≡ g.edge → ⊥
  pub within : Within g.points keys
