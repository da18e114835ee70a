-- Pruning leaves the same edges in every order: what is left is the greatest part of the edges in which no point is loose. A point that is
-- loose in the whole is loose in each part that has its edge; so a part with none loose has none of the edges that go.
-- Assumes nothing.
use mathlib.Core.Path.{sym}
use mathlib.Core.List.Memᴰ
use mathlib.Core.List.{List}
use Rattle.lists.specs.Member.{◌∈◌, Among}
use Rattle.plane.specs.declared.Place.{Place}
use Rattle.net.specs.Net.{Net}
use Rattle.rules.specs.Edges.{Edge, Same}
use Rattle.rules.specs.Refined.{Loose, Strips, same, strip, Prunes}

module _ {net : Net} where
  loose-part : {T S : List Edge} (v : Place) (e : Edge) → Among S T → e ∈ S → Loose net T v e → Loose net S v e
  loose-part v e h m l = record { free = l.free; edge = m; end = l.end; single = λ f i q. l.single f (h f i) q }

  -- what is left was there
  pub strips-part : {T R : List Edge} → Strips net T R → Among R T
  strips-part (same h) e m = h.1 e m
  strips-part (strip v e l h s) f m = ((h f).0 (strips-part s f m)).0

  -- a part with none loose is left
  strips-most : {T R S : List Edge} → Strips net T R → Among S T → ((v : Place) (e : Edge) → Loose net S v e → ⊥) → Among S R
  strips-most (same h) p none f m = h.0 f (p f m)
  strips-most (strip v e l h s) p none f m =
      strips-most s (λ x i. (h x).1 (p x i, λ q. none v e (loose-part v e p (Memᴰ.cast (sym q) i) l))) none f m

  pub prunes-only : {T U R Q : List Edge} → Same T U → Prunes net T R → Prunes net U Q → Same R Q
  prunes-only h r q = (
    λ e m. strips-most q.strips (λ f i. h.0 f (strips-part r.strips f i)) r.none e m,
    λ e m. strips-most r.strips (λ f i. h.1 f (strips-part q.strips f i)) q.none e m,
  )

  -- the same edges in another list are left too
  strips-same : {T R Q : List Edge} → Strips net T R → Same R Q → Strips net T Q
  strips-same (same h) k = same (λ e m. k.0 e (h.0 e m), λ e m. h.1 e (k.1 e m))
  strips-same (strip v e l h s) k = strip v e l h (strips-same s k)

  pub prunes-same : {T R Q : List Edge} → Prunes net T R → Same R Q → Prunes net T Q
  prunes-same p h = record {
    strips = strips-same p.strips h;
    none = λ v e l. p.none v e (loose-part v e h.0 (h.1 e l.edge) l);
  }
