-- A move on tables is the move of a bar, where the label tells the bar's points; and edges put one after the other are a list of edges.
-- Assumes nothing.
use mathlib.Core.Path.{◌≡◌, refl, sym, ap, ap₂, ◌∙◌}
use mathlib.Core.Bool.{Bool, true, false}
use mathlib.Core.List.{List, [], ◌∷◌, ◌++◌, append-nil}
use Prim.Native.Nat.{ℕ, ◌+◌, ◌-◌, ◌*◌, ◌≤◌, ◌<◌}
use native.Mathlib.Omega.{arith}
use lib.IntN.{ℤ}
use lib.ListN.{length, get_or, length-append}
use lib.Seq.{sets, append_snoc}
use Rattle.lists.specs.Those.{those}
use Rattle.lists.proofs.ThoseLaws.{those-hit, those-miss, those-none}
use Rattle.lent.specs.Over.{over}
use Rattle.lent.specs.Entries.{flat}
use Rattle.lent.proofs.OverLaws.{over_none}
use Rattle.lent.proofs.EntryTable.{entry_more, entries_over}
use Rattle.plane.specs.declared.Place.{Place}
use Rattle.plane.specs.Flat.{place_at}
use Rattle.graph.specs.Numbers.{edge_numbers, edge_from}
use Rattle.graph.proofs.WidthLaws.{edge-width}
use Rattle.slide.specs.Bend.{Edge}
use Rattle.slide.specs.Slide.{shift, shift_edge, proper, slide}
use Rattle.straight.specs.Table.{first_end, second_end, edge_at, run, edges_in, Within}
use Rattle.straight.proofs.RunLaws.{run-next, run_end, run-map, run-same}
use Rattle.settled.specs.Settled.{edges_of}
use Rattle.shifted.specs.declared.Shift.{Shift}
use Rattle.shifted.specs.Shift.{on_label, placed, shifted_at, shifted_edge, shifted, PutIf}

-- A move by labels

module _ (m : Shift) (pts : List ℤ) (lab ks : List ℕ) (n e : ℕ) (on : Place → Bool)
    (same : (i : ℕ) → i < n → on_label m lab i ≡ on (place_at pts i)) (within : Within n ks) where
  placed-is : (i : ℕ) → i < n → shifted_at m pts lab i ≡ shift m.side on m.distance (place_at pts i)
  unfolding placed shift
  placed-is i h = rw (same i h) refl

  pub shifted-is : shifted m pts lab ks e ≡ slide m.side on m.distance (edges_in pts ks e)
  unfolding slide shift_edge
  shifted-is =
      ap (those proper)
      (run-same (λ i. shifted_edge m pts lab (get_or ks i 0)) (λ i. shift_edge m.side on m.distance (edge_at pts ks i)) e 0
      (λ i l h.
      let z = within.ends i in
      ap₂ (λ (a b : Place). (a, b)) (placed-is (first_end (get_or ks i 0)) z.0) (placed-is (second_end (get_or ks i 0)) z.1))
      ∙ sym (run-map (shift_edge m.side on m.distance) (edge_at pts ks) e 0))

-- Edges put one after the other

-- those of the sequence f that are proper: `done` so far, the others left
module _ (f : ℕ → Edge) (e : ℕ) (out₀ : List ℤ) where
  pub record Putting (out : List ℤ) (count k : ℕ) : Type 0 where
    pub done : List Edge
    pub counted : length done ≡ count
    pub written : out ≡ over (flat edge_numbers done) out₀
    pub goal : done ++ those proper (run f k (e - k)) ≡ those proper (run f 0 e)

  pub putting-none : Putting out₀ 0 0
  unfolding flat
  putting-none = record {
    done = [];
    counted = refl;
    written = sym (over_none out₀);
    goal = let n : e - 0 ≡ e = omega arith in ap (λ (m : ℕ). those proper (run f 0 m)) n;
  }

  module _ {out : List ℤ} {count k : ℕ} (g : Putting out count k) where
    next-proper : k < e → proper (f k) ≡ true
        → (g.done ++ (f k ∷ [])) ++ those proper (run f (k + 1) (e - (k + 1))) ≡ those proper (run f 0 e)
    next-proper h t =
        append_snoc g.done (f k) (those proper (run f (k + 1) (e - (k + 1))))
        ∙ ap (λ (l : List Edge). g.done ++ l)
        (sym (ap (those proper) (run-next f k e h) ∙ those-hit proper (f k) (run f (k + 1) (e - (k + 1))) t))
        ∙ g.goal

    next-none : k < e → proper (f k) ≡ false → g.done ++ those proper (run f (k + 1) (e - (k + 1))) ≡ those proper (run f 0 e)
    next-none h t =
        ap (λ (l : List Edge). g.done ++ l)
        (sym (ap (those proper) (run-next f k e h) ∙ those-miss proper (f k) (run f (k + 1) (e - (k + 1))) t))
        ∙ g.goal

    pub putting-more : k < e → count * 4 + 4 ≤ length out₀ → (t : Bool) → proper (f k) ≡ t → (new : List ℤ) (r : ℕ)
        → PutIf t (f k) out count new r → Putting new r (k + 1)
    putting-more h room true t new r w = record {
      done = g.done ++ (f k ∷ []);
      counted = length-append g.done (f k ∷ []) ∙ omega (arith, g.counted, w.1);
      written =
          w.0
          ∙ ap (λ (l : List ℤ). sets l (count * 4) (edge_numbers (f k))) g.written
          ∙ entry_more edge_numbers edge_from 4 edge-width g.done (f k) out₀ count g.counted room;
      goal = next-proper h t;
    }
    putting-more h room false t new r w = record {
      done = g.done;
      counted = g.counted ∙ sym w.1;
      written = w.0 ∙ g.written;
      goal = next-none h t;
    }

    pub putting-end : e ≤ k → edges_of out count ≡ those proper (run f 0 e)
    putting-end h =
        ap₂ edges_of g.written (sym g.counted)
        ∙ entries_over edge_numbers edge_from 4 edge-width g.done out₀ (length g.done) refl
        ∙ sym (append-nil g.done)
        ∙ ap (λ (l : List Edge). g.done ++ l) (sym (ap (those proper) (run_end f k e h) ∙ those-none proper))
        ∙ g.goal

-- one at most a turn
pub put-few : (t : Bool) (x : Edge) (out : List ℤ) (count : ℕ) (new : List ℤ) (r : ℕ) → PutIf t x out count new r → r ≤ count + 1
put-few true x out count new r w = omega (arith, w.1)
put-few false x out count new r w = omega (arith, w.1)
