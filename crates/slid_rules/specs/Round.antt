-- Moves of bars and the rounds: rules M7 and M11 to M14.
use Rattle.std.specs.Prelude.{◌≡◌, true, false, ◌⊎◌, ◌↔◌, List, ℕ, zero, suc, ◌+◌, ◌*◌, ◌≤◌, ◌<◌}
use Rattle.lists.specs.Member.{◌∈◌}
use Rattle.lists.specs.Sorted.{first_then, Ascending}
use Rattle.plane.specs.declared.Place.{Place}
use Rattle.plane.specs.Place.{before}
use Rattle.net.specs.Net.{Net}
use Rattle.slide.specs.declared.Side.{Side}
use Rattle.slide.specs.declared.Move.{Move}
use Rattle.slide.specs.Side.{moved, weight}
use Rattle.slide.specs.Bend.{Edge}
use Rattle.slide.specs.Bar.{level}
use Rattle.slide.specs.Slide.{better}
use Rattle.slid_rules.specs.Many.{Many}
use Rattle.slid_rules.specs.Bar.{OnBar, EitherWay, Ahead, Behind, Ends, Fits}

-- the bar that m moves: that of its first place
abbrev pub BarOf : Move → List Edge → Place → Type 0
BarOf m T = OnBar m.side T m.first

-- M7, M10, M11: m is the move of a bar of T
pub record Moves (net : Net) (T : List Edge) (m : Move) : Type 0 where
  -- the bar has an edge
  pub edge : Edge
  pub stands : edge ∈ T
  pub lies : level m.side edge ≡ true
  pub joined : BarOf m T edge.0
  -- and no pin
  pub free : (p : Place) → p ∈ net.pins → BarOf m T p → ⊥
  -- more edges hang on the side than on the other
  pub aheads : ℕ
  pub ahead : Many (EitherWay (Ahead m.side T (BarOf m T))) T aheads
  pub behinds : ℕ
  pub behind : Many (EitherWay (Behind m.side T (BarOf m T))) T behinds
  pub surplus : ℕ
  pub more : behinds + suc surplus ≡ aheads
  -- the distance is the greatest that fits
  pub last : Place
  pub ends : Ends m.side T (BarOf m T) m.first last
  pub fits : Fits m.side T (BarOf m T) net m.first last m.distance
  pub greatest : (k : ℕ) → Fits m.side T (BarOf m T) net m.first last k → k ≤ m.distance
  -- and it saves distance times surplus times weight
  pub saves : m.saving ≡ m.distance * suc surplus * weight net m.side

-- M13: a point of the bar moves by d, any other stays
abbrev pub Goes : Move → List Edge → Place → Place → Type 0
Goes m T p q = (BarOf m T p × (q ≡ moved m.side m.distance p)) ⊎ ((BarOf m T p → ⊥) × (q ≡ p))

-- M13: U are the edges of T after the move m, in order; one whose ends have become one place is gone
pub record After (m : Move) (T U : List Edge) : Type 0 where
  pub ordered : Ascending (first_then before before) U
  pub edges : (e : Edge) → (e ∈ U) ↔
      ((o : Edge) × ((o ∈ T) × (Goes m T o.0 e.0 × (Goes m T o.1 e.1 × (e.0 ≡ e.1 → ⊥)))))

-- M12: a round from T to U: of all moves that with the greatest saving, on a tie the smallest first place, then a
-- horizontal bar
pub record Slides (net : Net) (T U : List Edge) : Type 0 where
  pub move : Move
  pub moves : Moves net T move
  pub saving : 0 < move.saving
  pub best : (m : Move) → Moves net T m → better m move ≡ false
  pub after : After move T U

-- M14: no bar saves anything
abbrev pub Still : Net → List Edge → Type 0
Still net T = (m : Move) → Moves net T m → m.saving ≡ 0

-- M14: at most n rounds, and the first without a saving is the last
abbrev pub Rounds : Net → ℕ → List Edge → List Edge → Type 0
Rounds net zero T S = S ≡ T
Rounds net (suc n) T S = (Still net T × (S ≡ T)) ⊎ ((U : List Edge) × (Slides net T U × Rounds net n U S))
