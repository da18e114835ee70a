-- The lists of an accepted file are an allowed net, which the router's own tables hold: both trees are given, and the buffer is long
-- enough.
-- Assumes nothing.
use mathlib.Core.Path.{◌≡◌, refl, sym, ap, ◌∙◌}
use mathlib.Core.List.{List}
use Prim.Native.Nat.{ℕ, ◌+◌, ◌*◌, ◌≤◌}
use native.Mathlib.Omega.{arith}
use lib.IntN.{ℤ, pos}
use lib.ListN.{length, take, drop, length-append}
use Rattle.lent.specs.Told.{Told, refused, given}
use Rattle.lent.specs.Over.{over}
use Rattle.lent.specs.Entries.{flat, entries}
use Rattle.lent.proofs.OverLaws.{take-over}
use Rattle.lent.proofs.EntryTable.{length-flat, entries_over}
use Rattle.plane.specs.declared.Place.{Place}
use Rattle.plane.specs.declared.Weights.{Weights}
use Rattle.net.specs.declared.Net.{Net as Counts}
use Rattle.net.specs.Bounds.{pin_bound, macro_bound, pin_width, macro_width, tree_bound}
use Rattle.net.specs.declared.Weighing.{Weighing}
use Rattle.net.specs.Net.{handed}
use Rattle.net.specs.Pins.{pin_count, macro_count}
use Rattle.net.specs.Counts.{counts_of}
use Rattle.net.proofs.CountLaws.{pins-counted, macros-counted}
use Rattle.checks.specs.Check.{checked}
use Rattle.checks.proofs.PassedLaws.{passed-all}
use Rattle.checks.proofs.CheckLaws.{allow}
use Rattle.checks.proofs.GivenLaws.{given-counts}
use Rattle.net.proofs.PinLaws as pin-laws
use Rattle.graph.specs.Numbers.{edge_numbers, edge_from}
use Rattle.graph.proofs.WidthLaws.{edge-width}
use Rattle.blocks.specs.Sizes.{pin_list_bound, macro_list_bound}
use Rattle.decoded.specs.Held.{pins_in, macros_in}
use Rattle.netfile.specs.Read.{read_file}
use Rattle.netfile.proofs.RoundTrip.{accepted-is-ours}
use Rattle.answers.specs.Graph.{point_count}
use Rattle.answers.specs.Both.{both_answer, both_given, both_trees}
use Rattle.answers.proofs.AnswerLaws.{only-given, room-enough}
use Rattle.text.specs.Text.{tree_text, refused_text}
use Rattle.report.specs.Route.{trees_text, answer_text, route_text}

-- what an answer gives is one thing, part by part
pub same-given : {A : Type 0} (a b : A) → given a ≡ given b → a ≡ b
same-given a b e = cc

pub same-four : {A B C D : Type 0} {a a' : A} {b b' : B} {c c' : C} {d d' : D}
    → ◌≡◌ {A = Told (A × (B × (C × D)))} (given (a, (b, (c, d)))) (given (a', (b', (c', d'))))
    → (a ≡ a') × ((b ≡ b') × ((c ≡ c') × (d ≡ d')))
same-four {A} {B} {C} {D} {a} {a'} {b} {b'} {c} {c'} {d} {d'} e =
    let f = same-given {A = A × (B × (C × D))} (a, (b, (c, d))) (a', (b', (c', d'))) e in (
      ap (λ (v : A × (B × (C × D))). v.0) f,
      (
        ap (λ (v : A × (B × (C × D))). v.1.0) f,
        (ap (λ (v : A × (B × (C × D))). v.1.1.0) f, ap (λ (v : A × (B × (C × D))). v.1.1.1) f),
      ),
    )

-- the counts of an allowed net
pub record Counted (w : Weighing) (pins macros : List ℤ) : Type 0 where
  pub allowed : checked w pins macros ≡ given (counts_of w pins macros)
  pub pin-numbers : pin_count pins * pin_width ≡ length pins
  pub macro-numbers : macro_count macros * macro_width ≡ length macros
  pub few-pins : pin_count pins ≤ pin_bound
  pub few-macros : macro_count macros ≤ macro_bound

module _ (w : Weighing) (pins macros : List ℤ) where
  pub counted : (net : Counts) → checked w pins macros ≡ given net → Counted w pins macros
  counted net e =
      let past = passed-all w pins macros net e in
      let p = pins-counted pins past.past.past.past.past.past.past.past.past.passed in
      let m = macros-counted macros past.past.past.past.past.past.past.past.passed in
      record {
        allowed = allow w pins macros past;
        pin-numbers = pin-laws.pin-numbers pins p.whole;
        macro-numbers = pin-laws.macro-numbers macros m.whole;
        few-pins = p.few;
        few-macros = m.few;
      }

  module _ (c : Counted w pins macros) where
    pub both-given : both_trees w pins macros (tree_bound * 4) ≡ given (both_answer w pins macros)
    unfolding both_trees both_given
    both-given =
        only-given (checked w pins macros) (both_given w pins macros (tree_bound * 4)) _ c.allowed
        ∙ room-enough ((point_count pins macros + pin_count pins) * 4) (tree_bound * 4) _ (omega (arith, c.few-pins, c.few-macros))

-- the edges given, read back from the table that they were given in
module _ (es : List (Place × Place)) (lent table : List ℤ) (n : ℕ) (t : table ≡ over (flat edge_numbers es) lent) (e : n ≡ length es) where
  pub edges_fit : n * 4 ≤ length table
  unfolding over
  edges_fit =
      omega (
        arith,
        e,
        ap length t,
        length-append (flat edge_numbers es) (drop (length (flat edge_numbers es)) lent),
        length-flat edge_numbers edge_from 4 edge-width es,
      )

  pub edges-back : entries edge_from 4 table n ≡ es
  edges-back = rw t (entries_over edge_numbers edge_from 4 edge-width es lent n (sym e))

-- a list at the front of a table
pub front : (xs lent table : List ℤ) (n : ℕ) → table ≡ over xs lent → n ≡ length xs → take n table ≡ xs
front xs lent table n t e = rw (t, e) (take-over xs lent)

-- an accepted file
module _ (file : List ℕ) (net : Counts) (given-net : read_file file pin_list_bound macro_list_bound ≡ given net) where
  pub lists : checked (handed net.weights) (pins_in file) (macros_in file) ≡ given net
  lists =
      let ours = accepted-is-ours file pin_list_bound macro_list_bound net given-net in
      ap (λ (v : Weights). checked (handed v) (pins_in file) (macros_in file)) ours.weights ∙ ours.lists

  pub net-is : net ≡ counts_of (handed net.weights) (pins_in file) (macros_in file)
  net-is = given-counts (handed net.weights) (pins_in file) (macros_in file) lists

  pub route-given : trees_text net (pins_in file) (macros_in file) ≡ route_text file
  unfolding route_text answer_text
  route-given = rw given-net refl

pub route-refused : (file : List ℕ) (n : ℕ) → read_file file pin_list_bound macro_list_bound ≡ refused n → refused_text (pos n)
    ≡ route_text file
unfolding route_text answer_text
route-refused file n e = rw e refl

-- texts of the same numbers
pub same_text : (w : Weights) (m k : ℕ) {t t' r r' l l' : ℤ} {es es' : List (Place × Place)} → t ≡ t' → r ≡ r' → l ≡ l' → es ≡ es'
    → tree_text w (record { pins = m; macros = k; terminal = t; refined = r; metal = l }) es
    ≡ tree_text w (record { pins = m; macros = k; terminal = t'; refined = r'; metal = l' }) es'
same_text w m k a b c d = cc
