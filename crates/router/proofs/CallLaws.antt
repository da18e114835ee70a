-- Calls by the cases of their answer: what one refused call, one that gives, and one that only hands on another's answer must show.
-- Assumes nothing.
use mathlib.Core.Path.{◌≡◌, refl, sym, ap, ap₂, ◌∙◌, subst}
use mathlib.Core.List.{List, [], map}
use Prim.Native.Nat.{ℕ, ◌+◌, ◌*◌}
use lib.Dec.{ltb}
use lib.IntN.{ℤ, pos}
use lib.ListN.{length, replicate}
use Rattle.std.specs.Prelude.{Result, Ok, Err, IsErrAnd}
use Rattle.std.proofs.lemmas.Result.{err_from_is_err_and}
use Rattle.lists.proofs.TestLaws.{by}
use Rattle.lent.specs.Told.{Told, refused, given, only_if}
use Rattle.lent.specs.Over.{over, after}
use Rattle.lent.specs.Entries.{flat}
use Rattle.lent.proofs.AfterLaws.{after-refused, after-given, told-apart}
use Rattle.net.specs.declared.Refusal.{Refusal}
use Rattle.net.specs.declared.Weighing.{Weighing}
use Rattle.net.specs.Answer.{number, told_by}
use Rattle.net.specs.Pins.{pin_count}
use Rattle.net.specs.Net.{Net, cost_in}
use Rattle.checks.specs.Check.{checked}
use Rattle.joined.specs.Cost.{lengths}
use Rattle.plane.specs.Distance.{distance}
use Rattle.graph.specs.Numbers.{edge_numbers}
use Rattle.grid.specs.Distance.{SquareOver}
use Rattle.lines.specs.Edges.{Edge}
use Rattle.parts.specs.Bounds.{work_bound}
use Rattle.best.specs.Tree.{BestOver}
use Rattle.sweeps.specs.Tables.{wide_crossings, arc_bound}
use Rattle.bound.specs.Bound.{Bound}
use Rattle.answers.specs.Room.{if_room}
use Rattle.answers.specs.Graph.{point_count}
use Rattle.answers.specs.Refined.{laid_of, refined_given, refined_tree}
use Rattle.answers.specs.Both.{both_answer, both_given, both_trees}
use Rattle.router.specs.Answers.{told_distances, told_tree, told_both, told_bound}
use Rattle.router.specs.declared.Tree.{Tree}
use Rattle.router.specs.declared.Both.{Both}
use Rattle.router.specs.Call.{Gives, GivesTwo, GivesSquare, GivesBest, GivesBound, RefinedCall, BothCall}

-- a refusal that `?` passes on
pub told-passed : {T A : Type 0} (f : T → A) (r : Result T Refusal) (e : Refusal) → IsErrAnd r (λ d. d ≡ e) → told_by f r ≡ refused (number e)
unfolding told_by
told-passed f r e h = let p = err_from_is_err_and r h in rw (p.1, p.2) refl

module _ {A R X : Type 0} {saying : R → Told A} {t : Told A} {xs lent : List X} {r : R} where
  -- refused, and nothing altered
  pub gives-refused : {n : ℕ} → saying r ≡ refused n → t ≡ refused n → Gives saying t xs lent r lent
  gives-refused {n} s e = record { answer = s ∙ sym e; list = after-refused t xs lent n e }

  -- given
  pub gives-given : {a : A} {lent' : List X} → saying r ≡ given a → t ≡ given a → lent' ≡ over xs lent → Gives saying t xs lent r lent'
  gives-given {a} s e h = record { answer = s ∙ sym e; list = h ∙ after-given t xs lent a e }

  -- what another call answered
  pub gives_as : {u : Told A} {lent' : List X} → t ≡ u → Gives saying t xs lent r lent' → Gives saying u xs lent r lent'
  gives_as {lent' = lent'} e g = subst (λ (z : Told A). Gives saying z xs lent r lent') e g

module _ {A R X : Type 0} {saying : R → Told A} {t : Told A} {xs ys lent other : List X} {r : R} where
  pub two-refused : {n : ℕ} → saying r ≡ refused n → t ≡ refused n → GivesTwo saying t xs ys lent other r lent other
  two-refused {n} s e = record { answer = s ∙ sym e; first = after-refused t xs lent n e; second = after-refused t ys other n e }

  pub two-given : {a : A} {lent' other' : List X} → saying r ≡ given a → t ≡ given a → lent' ≡ over xs lent → other' ≡ over ys other →
      GivesTwo saying t xs ys lent other r lent' other'
  two-given {a} s e h k = record { answer = s ∙ sym e; first = h ∙ after-given t xs lent a e; second = k ∙ after-given t ys other a e }

  pub two-as : {u : Told A} {lent' other' : List X} → t ≡ u → GivesTwo saying t xs ys lent other r lent' other' →
      GivesTwo saying u xs ys lent other r lent' other'
  two-as {lent' = lent'} {other' = other'} e g = subst (λ (z : Told A). GivesTwo saying z xs ys lent other r lent' other') e g

module _ {net : Net} {t : Told ℕ} {lent : List ℤ} {r : Result ℕ Refusal} where
  pub square-refused : {n : ℕ} → told_distances r ≡ refused n → t ≡ refused n → GivesSquare net t lent r lent
  square-refused {n} s e = record {
    numbers = [];
    answer = s ∙ sym e;
    list = after-refused t [] lent n e;
    square = λ k g. told-apart n k (sym e ∙ g);
  }

  pub square-given : {n : ℕ} {lent' : List ℤ} → told_distances r ≡ given n → t ≡ given n → SquareOver net lent lent' →
      GivesSquare net t lent r lent'
  square-given {n} s e o = record {
    numbers = o.numbers;
    answer = s ∙ sym e;
    list = o.list ∙ after-given t (map pos o.numbers) lent n e;
    square = λ k g. o.square;
  }

  pub square-as : {u : Told ℕ} {lent' : List ℤ} → t ≡ u → GivesSquare net t lent r lent' → GivesSquare net u lent r lent'
  square-as {lent' = lent'} e g = subst (λ (z : Told ℕ). GivesSquare net z lent r lent') e g

module _ {net : Net} {said : List Edge → Told (ℕ × (ℤ × ℤ))} {work : List ℕ} {lent : List ℤ} {r : Result Tree Refusal} where
  pub best-refused : {n : ℕ} → told_tree r ≡ refused n → said [] ≡ refused n → GivesBest net said work lent r work lent
  best-refused {n} s e = record {
    tree = [];
    answer = s ∙ sym e;
    list = after-refused (said []) (flat edge_numbers []) lent n e;
    cleared = after-refused (said []) (replicate work_bound 0) work n e;
    best = λ a g. told-apart n a (sym e ∙ g);
  }

  pub best-given : {work' : List ℕ} {lent' : List ℤ} {count total metal : ℕ} (o : BestOver net lent lent' count total metal) →
      told_tree r ≡ given (count, (pos total, pos metal)) →
      said o.tree ≡ given (length o.tree, (pos (lengths (cost_in net) o.tree), pos (lengths distance o.tree))) →
      work' ≡ over (replicate work_bound 0) work → GivesBest net said work lent r work' lent'
  best-given o s e z = record {
    tree = o.tree;
    answer =
        s
        ∙ ap₂ (λ (n : ℕ) (sums : ℤ × ℤ). given (n, sums)) o.count
        (ap₂ (λ (t m : ℕ). (pos t, pos m)) o.cost o.plain)
        ∙ sym e;
    list = o.list ∙ after-given (said o.tree) (flat edge_numbers o.tree) lent _ e;
    cleared = z ∙ after-given (said o.tree) (replicate work_bound 0) work _ e;
    best = λ a g. o.is-best;
  }

  pub best-as : {other : List Edge → Told (ℕ × (ℤ × ℤ))} {work' : List ℕ} {lent' : List ℤ} → ((T : List Edge) → said T ≡ other T) →
      GivesBest net said work lent r work' lent' → GivesBest net other work lent r work' lent'
  best-as e g = record {
    tree = g.tree;
    answer = g.answer ∙ e g.tree;
    list = g.list ∙ ap (λ (t : Told (ℕ × (ℤ × ℤ))). after t (flat edge_numbers g.tree) lent) (e g.tree);
    cleared = g.cleared ∙ ap (λ (t : Told (ℕ × (ℤ × ℤ))). after t (replicate work_bound 0) work) (e g.tree);
    best = λ a h. g.best a (e g.tree ∙ h);
  }

module _ {net : Net} {said : ℕ → Told ℕ} {left rows : List ℕ} {r : Result ℕ Refusal} where
  pub bound-refused : {n : ℕ} → told_bound r ≡ refused n → said 0 ≡ refused n → GivesBound net said left rows r left rows
  bound-refused {n} s e = record {
    bound = 0;
    answer = s ∙ sym e;
    first = after-refused (said 0) (replicate arc_bound 0) left n e;
    second = after-refused (said 0) (replicate wide_crossings 0) rows n e;
    is = λ a g. told-apart n a (sym e ∙ g);
  }

  pub bound-given : {left' rows' : List ℕ} {n : ℕ} → Bound net n → told_bound r ≡ given n → said n ≡ given n →
      left' ≡ over (replicate arc_bound 0) left → rows' ≡ over (replicate wide_crossings 0) rows → GivesBound net said left rows r left' rows'
  bound-given {n = n} b s e f g = record {
    bound = n;
    answer = s ∙ sym e;
    first = f ∙ after-given (said n) (replicate arc_bound 0) left _ e;
    second = g ∙ after-given (said n) (replicate wide_crossings 0) rows _ e;
    is = λ a h. b;
  }

  pub bound-as : {other : ℕ → Told ℕ} {left' rows' : List ℕ} → ((n : ℕ) → said n ≡ other n) → GivesBound net said left rows r left' rows' →
      GivesBound net other left rows r left' rows'
  bound-as e g = record {
    bound = g.bound;
    answer = g.answer ∙ e g.bound;
    first = g.first ∙ ap (λ (t : Told ℕ). after t (replicate arc_bound 0) left) (e g.bound);
    second = g.second ∙ ap (λ (t : Told ℕ). after t (replicate wide_crossings 0) rows) (e g.bound);
    is = λ a h. g.is a (e g.bound ∙ h);
  }

-- Both trees answered, and of that the refined tree alone

unfoldable pub alone : Told (ℕ × (ℤ × (ℤ × ℤ))) → Told (ℕ × (ℤ × ℤ))
alone (refused n) = refused n
alone (given a) = given (a.0, a.1.1)

alone-after : {X : Type 0} (t : Told (ℕ × (ℤ × (ℤ × ℤ)))) (xs lent : List X) → after t xs lent ≡ after (alone t) xs lent
unfolding alone after
alone-after (refused n) xs lent = refl
alone-after (given a) xs lent = refl

alone-only : {B : Type 0} (t : Told B) (u : Told (ℕ × (ℤ × (ℤ × ℤ)))) → alone (only_if t u) ≡ only_if t (alone u)
unfolding alone only_if
alone-only (refused n) u = refl
alone-only (given a) u = refl

alone-room : (need room : ℕ) (a : ℕ × (ℤ × (ℤ × ℤ))) → alone (if_room need room a) ≡ if_room need room (a.0, a.1.1)
unfolding alone if_room
alone-room need room a = by (ltb room need) (λ e. rw e refl) (λ e. rw e refl)

module _ (w : Weighing) (pins macros : List ℤ) (room : ℕ) where
  both-refined : alone (both_trees w pins macros room) ≡ refined_tree w pins macros room
  unfolding both_trees both_given refined_tree refined_given
  both-refined =
      alone-only (checked w pins macros) (both_given w pins macros room)
      ∙ ap (only_if (checked w pins macros)) (alone-room ((point_count pins macros + pin_count pins) * 4) room (both_answer w pins macros))

-- an answer that leaves the terminal tree's total out
pub refined-alone : (w : Weighing) (pins macros : List ℤ) {edges : List ℤ} {b : Result Both Refusal} {edges' : List ℤ}
    → BothCall both_trees w pins macros edges b edges'
    → (r : Result Tree Refusal) → told_tree r ≡ alone (told_both b) → RefinedCall refined_tree w pins macros edges r edges'
refined-alone w pins macros {edges} g r e = record {
  answer = e ∙ ap alone g.answer ∙ both-refined w pins macros (length edges);
  list =
      g.list
      ∙ alone-after (both_trees w pins macros (length edges)) _ edges
      ∙ ap (λ (t : Told (ℕ × (ℤ × ℤ))). after t (flat edge_numbers (laid_of w pins macros)) edges)
      (both-refined w pins macros (length edges));
}

pub alone-given : (both : Both) → told_tree (Ok both.tree) ≡ alone (told_both (Ok both))
unfolding alone told_by
alone-given both = refl

pub alone-refused : (f : Refusal) → refused (number f) ≡ alone (told_both (Err f))
unfolding alone told_by
alone-refused f = refl
