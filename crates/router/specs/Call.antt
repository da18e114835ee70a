-- What a call answers, and what then stands in each list that it was lent: the contracts of the published operations, one record each.
use Rattle.std.specs.Prelude.{◌≡◌, List, map, ℕ, ℤ, pos, length, replicate, Float, Result}
use Rattle.lent.specs.Told.{Told, given}
use Rattle.lent.specs.Over.{after}
use Rattle.lent.specs.Entries.{flat}
use Rattle.plane.specs.declared.Place.{Place}
use Rattle.net.specs.declared.Weighing.{Weighing}
use Rattle.net.specs.Net.{Net, net_of, weights_of}
use Rattle.net.specs.declared.Net.{Net as Counts}
use Rattle.net.specs.declared.Refusal.{Refusal}
use Rattle.checks.specs.Check.{told}
use Rattle.encoded.specs.Layout.{file_bytes}
use Rattle.decoded.specs.Held.{pins_in, macros_in}
use Rattle.netfile.specs.Write.{written, told_bytes}
use Rattle.netfile.specs.Read.{read_file}
use Rattle.graph.specs.Numbers.{place_numbers, edge_numbers}
use Rattle.terminal.specs.Tree.{path_numbers}
use Rattle.grid.specs.Distance.{Square}
use Rattle.floats.specs.declared.Technology.{Technology}
use Rattle.floats.specs.Mark.{finites}
use Rattle.delay.specs.Answer.{told_delays}
use Rattle.lines.specs.Edges.{Edge}
use Rattle.parts.specs.Bounds.{work_bound}
use Rattle.best.specs.Tree.{BestTree}
use Rattle.sweeps.specs.Tables.{wide_crossings, arc_bound}
use Rattle.bound.specs.Bound.{Bound}
use Rattle.answers.specs.Graph.{net_vertices, net_edges}
use Rattle.answers.specs.Terminal.{paths_of}
use Rattle.answers.specs.Refined.{laid_of}
use Rattle.answers.specs.Slid.{slid_of}
use Rattle.answers.specs.Wires.{wires_of}
use Rattle.answers.specs.Delay.{delays_of}
use Rattle.results.specs.declared.Spanned.{Spanned}
use Rattle.router.specs.declared.Terminal.{Terminal}
use Rattle.router.specs.declared.Tree.{Tree}
use Rattle.router.specs.declared.Both.{Both}
use Rattle.router.specs.Answers.{told_bound}
use Rattle.router.specs.Answers.{told_graph, told_terminal, told_tree, told_both, told_wires, told_distances}

-- the answer r says t, and one list was lent: where t is given, xs stands at its front (C53); where t is refused, it is as it was (C50)
pub record Gives {A R X : Type 0} (saying : R → Told A) (t : Told A) (xs lent : List X) (r : R) (lent' : List X) : Type 0 where
  pub answer : saying r ≡ t
  pub list : lent' ≡ after t xs lent

-- the same where two lists were lent
pub record GivesTwo {A R X : Type 0} (saying : R → Told A) (t : Told A) (xs ys lent other : List X) (r : R)
    (lent' other' : List X) : Type 0 where
  pub answer : saying r ≡ t
  pub first : lent' ≡ after t xs lent
  pub second : other' ≡ after t ys other

-- the same where what is given is a table whose numbers the rules fix by what they mean (L5): the answer is an equation, and so is the lent
-- list with these numbers
pub record GivesSquare (net : Net) (t : Told ℕ) (lent : List ℤ) (r : Result ℕ Refusal) (lent' : List ℤ) : Type 0 where
  pub numbers : List ℕ
  pub answer : told_distances r ≡ t
  pub list : lent' ≡ after t (map pos numbers) lent
  pub square : (n : ℕ) → t ≡ given n → Square net numbers

-- the same where what is given is one of several trees, and which of them is left to the program (L12): `said T` is what is said where the
-- tree is T. The work that was lent is cleared (L16)
pub record GivesBest (net : Net) (said : List Edge → Told (ℕ × (ℤ × ℤ))) (work : List ℕ) (lent : List ℤ) (r : Result Tree Refusal)
    (work' : List ℕ) (lent' : List ℤ) : Type 0 where
  pub tree : List Edge
  pub answer : told_tree r ≡ said tree
  pub list : lent' ≡ after (said tree) (flat edge_numbers tree) lent
  pub cleared : work' ≡ after (said tree) (replicate work_bound 0) work
  pub best : (a : ℕ × (ℤ × ℤ)) → said tree ≡ given a → BestTree net tree

-- the same where one number is given that its meaning fixes, the lower bound (U6): `said n` is what is said where it is n. Both lists that
-- were lent are cleared (U8)
pub record GivesBound (net : Net) (said : ℕ → Told ℕ) (left rows : List ℕ) (r : Result ℕ Refusal) (left' rows' : List ℕ) : Type 0 where
  pub bound : ℕ
  pub answer : told_bound r ≡ said bound
  pub first : left' ≡ after (said bound) (replicate arc_bound 0) left
  pub second : rows' ≡ after (said bound) (replicate wide_crossings 0) rows
  pub is : (a : ℕ) → said bound ≡ given a → Bound net bound

-- What each operation says of two weights, two lists and the room that was lent

abbrev pub Saying : Type 0 → Type 0
Saying A = Weighing → List ℤ → List ℤ → ℕ → Told A

-- C61, C62: a graph that answers as `said` has it
abbrev pub GraphCall : (Weighing → List ℤ → List ℤ → ℕ → ℕ → Told (ℕ × ℕ)) → (w : Weighing) (pins macros vertices edges : List ℤ)
    → Result Spanned Refusal → List ℤ → List ℤ → Type 0
GraphCall said w pins macros vertices edges r vertices' edges' =
    GivesTwo told_graph (said w pins macros (length vertices) (length edges))
    (flat place_numbers (net_vertices w pins macros)) (flat edge_numbers (net_edges w pins macros)) vertices edges r vertices' edges'

-- C63, C64: a terminal tree
abbrev pub TerminalCall : Saying (ℕ × ℤ) → (w : Weighing) (pins macros paths : List ℤ) → Result Terminal Refusal → List ℤ → Type 0
TerminalCall said w pins macros paths r paths' =
    Gives told_terminal (said w pins macros (length paths)) (flat path_numbers (paths_of w pins macros)) paths r paths'

-- C65, C66: a refined tree
abbrev pub RefinedCall : Saying (ℕ × (ℤ × ℤ)) → (w : Weighing) (pins macros edges : List ℤ) → Result Tree Refusal → List ℤ → Type 0
RefinedCall said w pins macros edges r edges' =
    Gives told_tree (said w pins macros (length edges)) (flat edge_numbers (laid_of w pins macros)) edges r edges'

-- C63 to C66: both trees
abbrev pub BothCall : Saying (ℕ × (ℤ × (ℤ × ℤ))) → (w : Weighing) (pins macros edges : List ℤ) → Result Both Refusal → List ℤ → Type 0
BothCall said w pins macros edges r edges' =
    Gives told_both (said w pins macros (length edges)) (flat edge_numbers (laid_of w pins macros)) edges r edges'

-- C81, C82: a slid tree
abbrev pub SlidCall : Saying (ℕ × (ℤ × ℤ)) → (w : Weighing) (pins macros edges : List ℤ) → Result Tree Refusal → List ℤ → Type 0
SlidCall said w pins macros edges r edges' =
    Gives told_tree (said w pins macros (length edges)) (flat edge_numbers (slid_of w pins macros)) edges r edges'

-- C67, C68: wires
abbrev pub WiresCall : Saying ℕ → (w : Weighing) (pins macros wires : List ℤ) → Result ℕ Refusal → List ℤ → Type 0
WiresCall said w pins macros wires r wires' =
    Gives told_wires (said w pins macros (length wires)) (flat edge_numbers (wires_of w pins macros)) wires r wires'

-- C77, C78: distances on the grid
abbrev pub DistancesCall : Saying ℕ → (w : Weighing) (pins macros table : List ℤ) → Result ℕ Refusal → List ℤ → Type 0
DistancesCall said w pins macros table r table' =
    GivesSquare (net_of w pins macros) (said w pins macros (length table)) table r table'

-- C85, C86: delays from a driver, by a technology
abbrev pub DelayCall : (Weighing → List ℤ → List ℤ → Place → Technology → ℕ → Told ℕ) → (w : Weighing) (pins macros : List ℤ)
    (driver : Place) (t : Technology) (delays : List Float) → Result ℕ Refusal → List Float → Type 0
DelayCall said w pins macros driver t delays r delays' =
    Gives told_delays (said w pins macros driver t (length delays)) (finites (delays_of w pins macros driver t)) delays r delays'

-- C87, C88: a best tree
abbrev pub BestCall : (Weighing → List ℤ → List ℤ → ℕ → ℕ → List Edge → Told (ℕ × (ℤ × ℤ))) → (w : Weighing) (pins macros : List ℤ)
    (work : List ℕ) (edges : List ℤ) → Result Tree Refusal → List ℕ → List ℤ → Type 0
BestCall said w pins macros work edges r work' edges' =
    GivesBest (net_of w pins macros) (said w pins macros (length work) (length edges)) work edges r work' edges'

-- C89, C90: a lower bound
abbrev pub BoundCall : (Weighing → List ℤ → List ℤ → ℕ → ℕ → ℕ → Told ℕ) → (w : Weighing) (pins macros : List ℤ) (left rows : List ℕ)
    → Result ℕ Refusal → List ℕ → List ℕ → Type 0
BoundCall said w pins macros left rows r left' rows' =
    GivesBound (net_of w pins macros) (said w pins macros (length left) (length rows)) left rows r left' rows'

-- C69, C70: a net file written
abbrev pub WriteCall : (w : Weighing) (pins macros : List ℤ) (bytes : List ℕ) → Result ℕ Refusal → List ℕ → Type 0
WriteCall w pins macros bytes r bytes' =
    Gives told_bytes (written w pins macros (length bytes)) (file_bytes (weights_of w) pins macros) bytes r bytes'

-- C71, C72: a net file read
abbrev pub ReadCall : (bytes : List ℕ) (pins macros : List ℤ) → Result Counts Refusal → List ℤ → List ℤ → Type 0
ReadCall bytes pins macros r pins' macros' =
    GivesTwo told (read_file bytes (length pins) (length macros)) (pins_in bytes) (macros_in bytes) pins macros r pins' macros'
