-- What a bar is and what blocks it, in words of points and places. No promise needs these sentences: a tree stays one tree, clear and no
-- dearer whatever else blocks a bar. So they are said by themselves, and proved of the definitions (../proofs/SentenceLaws.antt).
use Rattle.std.specs.Prelude.{◌≡◌, Bool, true, ◌⊎◌, ◌↔◌, List, ℕ, ◌≤◌}
use Rattle.lists.specs.Member.{◌∈◌}
use Rattle.lists.specs.Those.{those}
use Rattle.plane.specs.declared.Place.{Place}
use Rattle.plane.specs.Macro.{clear}
use Rattle.plane.specs.Box.{InBox}
use Rattle.net.specs.Net.{Net}
use Rattle.joined.specs.Joined.{Joined}
use Rattle.slide.specs.declared.Side.{Side}
use Rattle.slide.specs.Side.{across}
use Rattle.slide.specs.Bend.{Edge}
use Rattle.slide.specs.Bar.{level, on_bar, of_bar, hangs, ahead, far, long, shortest, far_ends}
use Rattle.slide.specs.Sweep.{swept, allowed, reach}

-- M5: the bar of a is connected, on one line, and greatest
pub record IsGreatest (s : Side) (T : List Edge) (a : Place) : Type 0 where
  pub connected : (p : Place) → (on_bar s T a p ≡ true) ↔ Joined (those (level s) T) a p
  pub line : (p : Place) → on_bar s T a p ≡ true → across s p ≡ across s a
  pub greatest : (p q : Place) → (p, q) ∈ T → across s p ≡ across s q → on_bar s T a p ≡ on_bar s T a q

-- M9: the far ends of the shortest edges that hang on the side
pub record IsFarEnd (s : Side) (on : Place → Bool) (T : List Edge) (f : Place) : Type 0 where
  pub edge : Edge
  pub stands : edge ∈ T
  pub hanging : ahead s on edge ≡ true
  pub least : (e : Edge) → e ∈ T → ahead s on e ≡ true → long s edge ≤ long s e
  pub end : f ≡ far on edge

module _ (s : Side) (on : Place → Bool) (X : List Place) (T : List Edge) (a : Place) (net : Net) (d : ℕ) where
  -- M8: in the box that a move by d sweeps
  abbrev pub InSwept : Place → Type 0
  InSwept q = InBox q (swept s on X T a d).0 (swept s on X T a d).1

  -- M9: a tree point that does not block: of the bar, or such a far end
  abbrev pub PointFree : Place → Type 0
  PointFree p = (on p ≡ true) ⊎ (p ∈ far_ends s on T)

  -- M9: an edge that does not block: of the bar, hanging from it, or with no place in the box but one such far end
  abbrev pub EdgeFree : Edge → Type 0
  EdgeFree e =
      (of_bar s on e ≡ true) ⊎ ((hangs s on e ≡ true) ⊎
      ((f : Place) × ((f ∈ far_ends s on T) × ((q : Place) → InBox q e.0 e.1 → InSwept q → q ≡ f))))

  -- M9: nothing blocks: no interior, no tree point in the box, no edge with a place in the box
  pub record Unblocked : Type 0 where
    pub macros : clear (swept s on X T a d).0 (swept s on X T a d).1 net.macros ≡ true
    pub points : (p : Place) → p ∈ X → InSwept p → PointFree p
    pub edges : (e : Edge) → e ∈ T → (q : Place) → InBox q e.0 e.1 → InSwept q → EdgeFree e

-- M9, M10: what is allowed is what nothing blocks, and a bar moves as far as that goes
pub record MovesAsFar (s : Side) (on : Place → Bool) (X : List Place) (T : List Edge) (a : Place) (net : Net) : Type 0 where
  pub allowed-is : (d : ℕ) → (allowed s on X T a net d ≡ true) ↔ Unblocked s on X T a net d
  pub far-ends : (f : Place) → f ∈ far_ends s on T → IsFarEnd s on T f
  pub most : reach s on net X T a ≤ shortest s on T
  pub unblocked : (reach s on net X T a ≡ 0) ⊎ Unblocked s on X T a net (reach s on net X T a)
  pub no-farther : (k : ℕ) → k ≤ shortest s on T → Unblocked s on X T a net k → k ≤ reach s on net X T a
