-- A memo with no entry, and a memo with one entry more: two visits of a point with one number are the same visit.
-- Assumes nothing.
use Rattle.std.proofs.Common.{◌≡◌, ℕ, ◌<◌, ◌≤◌, eqb, List, set, replicate, ℤ, sym, ◌∙◌, arith, length-set, get_or-set_other, get_or-set_same, eqb-true}
use lib.ListN.{length-replicate, get_or-replicate}
use lib.Ieee.{Float, nan}
use borrow.Author.Tests.{eqb-false}
use Rattle.lists.proofs.TestLaws.{by}
use Rattle.tree.specs.Table.{tree_bound}
use Rattle.floats.specs.declared.Technology.{Technology}
use Rattle.elmore.specs.Elmore.{capacitance}
use Rattle.elmore.specs.Table.{hung, apart_in, load_in}
use Rattle.elmore.specs.Memo.{visit_number, Memo}

module _ (pts : List ℤ) (ks : List ℕ) (e : ℕ) (loads : List ℕ) (t : Technology) where
  -- no entry: 0 is no visit's number
  pub memo-none : (x : Float) → Memo pts ks e loads t (replicate tree_bound x) (replicate tree_bound 0)
  memo-none x = record {
    held-long = length-replicate tree_bound x;
    whose-long = length-replicate {A = ℕ} tree_bound 0;
    entry = λ up left p l h n. absurd (let z : ⊥ = omega (arith, n, get_or-replicate {A = ℕ} tree_bound p 0 0 h) in z);
  }

  module _ {held : List Float} {whose : List ℕ} (m : Memo pts ks e loads t held whose) (up left p : ℕ) (steps : left ≤ tree_bound)
      (low : p < tree_bound) (sum : Float) (number : ℕ) (is : number ≡ visit_number up left)
      (worked : sum ≡ capacitance (apart_in pts) (load_in loads) t p (hung ks e left up p)) where
    -- one entry more, at p
    pub memo-more : Memo pts ks e loads t (set held p sum) (set whose p number)
    memo-more = record {
      held-long = length-set held p sum ∙ m.held-long;
      whose-long = length-set whose p number ∙ m.whose-long;
      entry =
          λ up' left' q l h n.
          by (eqb q p)
          (λ b.
          let z : q ≡ p = eqb-true q p b in
          let same : visit_number up left ≡ visit_number up' left' =
          sym is ∙ sym (get_or-set_same whose p number 0 (omega (arith, low, m.whose-long))) ∙ (rw z at n) in
          let u : up ≡ up' = omega (arith, same, steps, l) in
          let v : left ≡ left' = omega (arith, same, steps, l) in
          rw (z, ← u, ← v) (get_or-set_same held p sum nan (omega (arith, low, m.held-long)) ∙ worked))
          (λ b.
          get_or-set_other held p q sum nan (eqb-false q p b)
          ∙ m.entry up' left' q l h (sym (get_or-set_other whose p q number 0 (eqb-false q p b)) ∙ n));
    }
