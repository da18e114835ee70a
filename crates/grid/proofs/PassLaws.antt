-- Edges asked one by one, in passes on and back. An edge stays quiet while the end that it is asked from is lowered no more: so a pass on,
-- from the first crossing to the last, leaves all far ends quiet, and a pass back, from the last to the first, all near ends. The sum of
-- the row falls with each change.
-- Assumes nothing.
use mathlib.Core.Path.{◌≡◌, refl, sym, ap, ◌∙◌}
use mathlib.Core.Bool.{Bool, true, false, ◌||◌}
use mathlib.Core.Logic.{◌⊎◌, inl, inr}
use mathlib.Core.List.{List}
use Prim.Native.Nat.{ℕ, ◌+◌, ◌*◌, ◌/◌, ◌≤◌, ◌<◌}
use native.Mathlib.Decide.{ℕ_discrete}
use native.Mathlib.Omega.{arith}
use lib.ListN.{length, get_or}
use Rattle.lists.specs.Total.{total}
use Rattle.lists.proofs.TestLaws.{differ, or-none}
use Rattle.lines.specs.Bounds.{line_bound, crossing_bound, unreached}
use Rattle.grid.specs.Rows.{at, Held, Quiet}
use Rattle.grid.proofs.RowLaws.{lowered-miss, lowered-less, lowered-there, lowered-other, held_start, held-lowered, held_then}
use Rattle.grid.specs.Tables.{target, Row, Fits, Near, Lowered, Ahead, Onward, Backward, Passed, PassedBoth}
use Rattle.grid.proofs.SegmentLaws.{target-above, target-across, target-along}

pub held-row : (near : ℕ → ℕ → ℕ → Type 0) (s t : List ℕ) → Row s → Held near s t → Row t
held-row near s t r h = record { size = h.size ∙ r.size; low = λ v. omega (arith, h.below v, r.low v) }

-- two changes one after the other: one of them lowers the sum
less_then : (m n : Bool) (a b c : ℕ) → (m ≡ true → b < a) → (m ≡ false → b ≡ a) → (n ≡ true → c < b) → (n ≡ false → c ≡ b) →
    (m || n) ≡ true → c < a
less_then true true a b c f g h i e = omega (arith, f refl, h refl)
less_then true false a b c f g h i e = omega (arith, f refl, i refl)
less_then false true a b c f g h i e = omega (arith, g refl, h refl)
less_then false false a b c f g h i e = differ e refl

module _ (costs : List ℕ) (e : ℕ) where
  -- One edge asked

  -- what it comes to: v is quiet by w, and nothing else is changed
  record Asked (v w c : ℕ) (t : List ℕ) (m : Bool) (u : List ℕ) : Type 0 where
    pub held : Held (Near costs e) t u
    pub less : m ≡ true → total u < total t
    pub same : m ≡ false → u ≡ t
    pub there : 1 ≤ c → at u v ≤ at t w + c
    pub other : (x : ℕ) → (x ≡ v → ⊥) → at u x ≡ at t x

  asked : (v w c : ℕ) (t u : List ℕ) (m : Bool) → (1 ≤ c → Near costs e v w c × (v < length t)) → Lowered v w c t m u → Asked v w c t m u
  asked v w c t u m near (inl n) = rw (n.1.0, n.1.1) record {
    held = held_start (Near costs e) t;
    less = λ h. differ h refl;
    same = λ h. refl;
    there = λ h. let z : ⊥ = omega (arith, n.0, h) in absurd z;
    other = λ x h. refl;
  }
  asked v w c t u m near (inr l) =
      let at-v = near l.0 in
      rw (l.1.0, l.1.1) record {
        held = held-lowered (Near costs e) t t (held_start (Near costs e) t) v w c at-v.0 at-v.1;
        less = lowered-less v w c t at-v.1;
        same = lowered-miss v w c t;
        there = λ h. lowered-there v w c t at-v.1;
        other = lowered-other v w c t;
      }

  module _ (before after : ℕ → ℕ → ℕ → Type 0) where
    -- fewer edges
    pub passed-fewer : (m : Bool) (s t : List ℕ) → ((v w c : ℕ) → after v w c → before v w c) → Passed costs e before m s t →
        Passed costs e after m s t
    passed-fewer m s t f p = record { held = p.held; less = p.less; same = p.same; quiet = λ v w c h. p.quiet v w c (f v w c h) }

    -- one edge more, whose end v none of the others is asked from
    passed-step : (v w c : ℕ) (moved m : Bool) (s t u : List ℕ) →
        ((x y d : ℕ) → after x y d → before x y d ⊎ ((x ≡ v) × ((y ≡ w) × ((d ≡ c) × (1 ≤ c))))) →
        ((x y d : ℕ) → after x y d → y ≡ v → ⊥) → Passed costs e before moved s t → Asked v w c t m u →
        Passed costs e after (moved || m) s u
    passed-step v w c moved m s t u one apart p a = record {
      held = held_then (Near costs e) s t u p.held a.held;
      less = less_then moved m (total s) (total t) (total u) p.less (λ h. ap total (p.same h)) a.less (λ h. ap total (a.same h));
      same = λ h. let r = or-none moved m h in a.same r.1 ∙ p.same r.0;
      quiet = λ x y d h. quiet x y d (a.other y (apart x y d h)) (one x y d h);
    }
      where
        quiet : (x y d : ℕ) → at u y ≡ at t y → before x y d ⊎ ((x ≡ v) × ((y ≡ w) × ((d ≡ c) × (1 ≤ c)))) → at u x ≤ at u y + d
        quiet x y d k (inl h) = omega (arith, k, a.held.below x, p.quiet x y d h)
        quiet x y d k (inr h) =
            let there = a.there h.1.1.1 in
            let z : at u v ≤ at u y + c = omega (arith, k, there, ap (at t) h.1.0) in
            rw (h.0, h.1.1.0) z

  pub passed_none : (asked : ℕ → ℕ → ℕ → Type 0) (s : List ℕ) → ((v w c : ℕ) → asked v w c → ⊥) → Passed costs e asked false s s
  passed_none asked s none = record {
    held = held_start (Near costs e) s;
    less = λ h. differ h refl;
    same = λ h. refl;
    quiet = λ v w c h. absurd (none v w c h);
  }

  -- Passes, segment by segment: from k to n, the number after it, or back

  -- an edge that is segment k, by its ends and its cost
  ahead-is : (j k v w c x y d : ℕ) → j ≡ k → v ≡ k / 2 → w ≡ target k → c ≡ get_or costs k 0 → Ahead costs e j x y d →
      (x ≡ v) × ((y ≡ w) × ((d ≡ c) × (1 ≤ c)))
  ahead-is j k v w c x y d z near far price a =
      let cost-k = ap (λ (i : ℕ). get_or costs i 0) z in
      let far-is = a.far ∙ ap target z ∙ sym far in
      (omega (arith, a.near, z, near), (far-is, (a.price ∙ cost-k ∙ sym price, omega (arith, a.is, cost-k, price))))

  module _ (fits : Fits costs e) (s t u : List ℕ) (row : Row s) (k n : ℕ) (next : n ≡ k + 1) (inside : k < e) (moved m : Bool)
      (v w c : ℕ) (price : c ≡ get_or costs k 0) where
    on_step : w ≡ k / 2 → v ≡ target k → Passed costs e (Onward costs e k) moved s t → Lowered v w c t m u →
        Passed costs e (Onward costs e n) (moved || m) s u
    on_step near far p l =
        passed-step (Onward costs e k) (Onward costs e n) v w c moved m s t u one
        (λ x y d h z. let b : ⊥ = omega (arith, z, h.1.0, next, h.1.1.near, far, target-above k) in b) p
        (asked v w c t u m
        (λ is. let is-k : 1 ≤ get_or costs k 0 = omega (arith, price, is) in (
          (k, (inside, record { ends = inr (far, near); price = price; is = is-k })),
          omega (arith, far, fits.ends k inside is-k, p.held.size, row.size),
        ))
        l)
      where
        one : (x y d : ℕ) → Onward costs e n x y d → Onward costs e k x y d ⊎ ((x ≡ v) × ((y ≡ w) × ((d ≡ c) × (1 ≤ c))))
        one x y d h = pick (ℕ_discrete h.0 k)
          where
            pick : Dec (h.0 ≡ k) → Onward costs e k x y d ⊎ ((x ≡ v) × ((y ≡ w) × ((d ≡ c) × (1 ≤ c))))
            pick (yes z) = let r = ahead-is h.0 k w v c y x d z near far price h.1.1 in inr (r.1.0, (r.0, r.1.1))
            pick (no z) = inl (h.0, (omega (arith, h.1.0, next, z), h.1.1))

    back_step : v ≡ k / 2 → w ≡ target k → Passed costs e (Backward costs e n) moved s t → Lowered v w c t m u →
        Passed costs e (Backward costs e k) (moved || m) s u
    back_step near far p l =
        passed-step (Backward costs e n) (Backward costs e k) v w c moved m s t u one
        (λ x y d h z. let b : ⊥ = omega (arith, z, h.1.0, h.1.1.far, near, target-above h.0) in b) p
        (asked v w c t u m
        (λ is. (
          (k, (inside, record { ends = inl (near, far); price = price; is = omega (arith, price, is) })),
          omega (arith, near, inside, fits.count, p.held.size, row.size),
        ))
        l)
      where
        one : (x y d : ℕ) → Backward costs e k x y d → Backward costs e n x y d ⊎ ((x ≡ v) × ((y ≡ w) × ((d ≡ c) × (1 ≤ c))))
        one x y d h = pick (ℕ_discrete h.0 k)
          where
            pick : Dec (h.0 ≡ k) → Backward costs e n x y d ⊎ ((x ≡ v) × ((y ≡ w) × ((d ≡ c) × (1 ≤ c))))
            pick (yes z) = inr (ahead-is h.0 k v w c x y d z near far price h.1.1)
            pick (no z) = inl (h.0, ((omega (arith, h.1.0, next, z), h.1.0.1), h.1.1))

  -- Crossing by crossing: the segment across from v, and the one along

  module _ (fits : Fits costs e) (v : ℕ) (inside : v < e / 2) where
    in-across : v * 2 < e
    in-across = omega (arith, inside)

    in-along : v * 2 + 1 < e
    in-along = omega (arith, inside)

    -- what is asked of a call with an edge's ends
    ends-in : (k w : ℕ) → k < e → v ≡ k / 2 → w ≡ target k →
        (get_or costs k 0 ≤ unreached) × (1 ≤ get_or costs k 0 → (v < crossing_bound) × (w < crossing_bound))
    ends-in k w h near far =
        (fits.low k h, λ is. (omega (arith, near, h, fits.count), omega (arith, far, fits.ends k h is)))

    pub across-in : (get_or costs (v * 2) 0 ≤ unreached)
        × (1 ≤ get_or costs (v * 2) 0 → (v < crossing_bound) × (v + line_bound < crossing_bound))
    across-in = ends-in (v * 2) (v + line_bound) in-across (omega arith) (target-across v)

    pub along-in : (get_or costs (v * 2 + 1) 0 ≤ unreached)
        × (1 ≤ get_or costs (v * 2 + 1) 0 → (v < crossing_bound) × (v + 1 < crossing_bound))
    along-in = ends-in (v * 2 + 1) (v + 1) in-along (omega arith) (target-along v)

    module _ (s t u : List ℕ) (row : Row s) (moved m : Bool) where
      pub on-across : Passed costs e (Onward costs e (v * 2)) moved s t → Lowered (v + line_bound) v (get_or costs (v * 2) 0) t m u →
          Passed costs e (Onward costs e (v * 2 + 1)) (moved || m) s u
      on-across =
          on_step fits s t u row (v * 2) (v * 2 + 1) refl in-across moved m (v + line_bound) v (get_or costs (v * 2) 0) refl (omega arith)
          (target-across v)

      pub on-along : Passed costs e (Onward costs e (v * 2 + 1)) moved s t → Lowered (v + 1) v (get_or costs (v * 2 + 1) 0) t m u →
          Passed costs e (Onward costs e ((v + 1) * 2)) (moved || m) s u
      on-along =
          on_step fits s t u row (v * 2 + 1) ((v + 1) * 2) (omega arith) in-along moved m (v + 1) v (get_or costs (v * 2 + 1) 0) refl
          (omega arith) (target-along v)

      pub back-along : (n : ℕ) → n ≡ v + 1 → Passed costs e (Backward costs e (n * 2)) moved s t →
          Lowered v (v + 1) (get_or costs (v * 2 + 1) 0) t m u → Passed costs e (Backward costs e (v * 2 + 1)) (moved || m) s u
      back-along n h =
          back_step fits s t u row (v * 2 + 1) (n * 2) (omega (arith, h)) in-along moved m v (v + 1) (get_or costs (v * 2 + 1) 0) refl
          (omega arith) (target-along v)

      pub back-across : Passed costs e (Backward costs e (v * 2 + 1)) moved s t → Lowered v (v + line_bound) (get_or costs (v * 2) 0) t m u →
          Passed costs e (Backward costs e (v * 2)) (moved || m) s u
      back-across =
          back_step fits s t u row (v * 2) (v * 2 + 1) refl in-across moved m v (v + line_bound) (get_or costs (v * 2) 0) refl (omega arith)
          (target-across v)

  -- Passes one after the other

  -- the edges of passes on and back are all there are
  both-quiet : (t : List ℕ) → Quiet (Onward costs e e) t → Quiet (Backward costs e 0) t → Quiet (Near costs e) t
  both-quiet t on back v w c h = pick h.1.1.ends
    where
      edge : (x y : ℕ) → x ≡ h.0 / 2 → y ≡ target h.0 → Ahead costs e h.0 x y c
      edge x y near far = record { near = near; far = far; price = h.1.1.price; is = h.1.1.is }

      pick : ((v ≡ h.0 / 2) × (w ≡ target h.0)) ⊎ ((v ≡ target h.0) × (w ≡ h.0 / 2)) → at t v ≤ at t w + c
      pick (inl f) = back v w c (h.0, ((omega arith, h.1.0), edge v w f.0 f.1))
      pick (inr f) = on v w c (h.0, (h.1.0, edge w v f.1 f.0))

  pub both-none : (s t : List ℕ) (m : Bool) → m ≡ false → Quiet (Onward costs e e) s → Passed costs e (Backward costs e 0) m s t →
      PassedBoth costs e false s t
  both-none s t m z on p =
      let same = p.same z in
      let on-t : Quiet (Onward costs e e) t = λ v w c h. rw same (on v w c h) in
      record { held = p.held; less = λ h. differ h refl; onward = on-t; quiet = λ h. both-quiet t on-t p.quiet }

  pub both-more : (s t u : List ℕ) (m n : Bool) → m ≡ true → Passed costs e (Backward costs e 0) m s t →
      Passed costs e (Onward costs e e) n t u → PassedBoth costs e n s u
  both-more s t u m n z p q = record {
    held = held_then (Near costs e) s t u p.held q.held;
    less = λ h. omega (arith, p.less z, q.less h);
    onward = q.quiet;
    quiet = λ h. both-quiet u q.quiet (λ v w c i. rw (q.same h) (p.quiet v w c i));
  }
