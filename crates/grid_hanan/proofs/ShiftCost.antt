-- What edges cost when one line across is taken out. An edge that ends on the line c from below is shorter by the gap to the line below
-- when c goes there, and longer by the gap to the line above when c goes there; one that ends on c from above the other way round; all
-- others cost what they did. So whichever side has the more of them, c goes there, and the edges together cost no more than before.
-- Assumes nothing.
use mathlib.Core.Path.{◌≡◌, refl, sym, ap, ap₂, subst, ◌∙◌}
use mathlib.Core.Bool.{true, false}
use mathlib.Core.Logic.{inl, inr}
use mathlib.Core.List.{List, [], ◌∷◌, map}
use Prim.Native.Nat.{ℕ, ◌+◌, ◌*◌, ◌≤◌}
use native.Mathlib.Omega.{arith}
use native.Mathlib.Nat.{add-mul, mul-le-mul_right}
use lib.IntN.{ℤ}
use borrow.Author.Tests.{ltb-true, ltb-false}
use Rattle.lists.specs.Member.{here, there}
use Rattle.lists.specs.Total.{total}
use Rattle.signed.proofs.SideLaws.{signed}
use Rattle.joined.specs.Pairs.{Each, moved_pair}
use Rattle.joined.specs.Cost.{lengths}
use Rattle.plane.specs.declared.Place.{Place}
use Rattle.plane.specs.declared.Macro.{Macro}
use Rattle.plane.specs.declared.Weights.{Weights}
use Rattle.plane.specs.Distance.{apart}
use Rattle.plane.specs.Cost.{cost}
use Rattle.plane.proofs.CostLaws.{cost-comm}
use Rattle.plane.proofs.DistanceLaws.{apart-self, apart-ordered}
use Rattle.lines.specs.Lines.{Neighbours}
use Rattle.lines.specs.Edges.{Edge}
use Rattle.lines.proofs.LineLaws.{line_same}
use Rattle.lines.proofs.StepLaws.{step-cases}
use Rattle.lines.proofs.AxisLaws.{axis-self, axis-sum}
use Rattle.grid_hanan.specs.Balance.{Balanced, goes_up}
use Rattle.grid_hanan.proofs.NextLines.{differs, one_below, one-above}
use Rattle.grid_hanan.proofs.OneLine.{shifted, shifted-on, shifted-off}
use Rattle.grid_hanan.proofs.StepLaws.{Kept, shifted_place}

module _ {G H : ℕ} where
  balanced-same : (n : ℕ) → Balanced G H n n n
  balanced-same n = record { under = 0; over = 0; lower = refl; upper = refl }

  balanced-sum : {n l u n' l' u' : ℕ} → Balanced G H n l u → Balanced G H n' l' u' → Balanced G H (n + n') (l + l') (u + u')
  balanced-sum b d = record {
    under = b.under + d.under;
    over = b.over + d.over;
    lower = omega (arith, b.lower, d.lower, add-mul b.under d.under G, add-mul b.over d.over G);
    upper = omega (arith, b.upper, d.upper, add-mul b.under d.under H, add-mul b.over d.over H);
  }

  balanced-is : {n l u n' l' u' : ℕ} → n ≡ n' → l ≡ l' → u ≡ u' → Balanced G H n' l' u' → Balanced G H n l u
  balanced-is e f g b = rw (e, f, g) b

  -- where the line goes to, the edges are no dearer
  pub up-no-dearer : {n l u : ℕ} (b : Balanced G H n l u) → goes_up b ≡ true → u ≤ n
  unfolding goes_up
  up-no-dearer b e =
      let k : b.under ≤ b.over = omega (arith, ltb-true b.under b.over e) in
      omega (arith, b.upper, mul-le-mul_right H k)

  pub down-no-dearer : {n l u : ℕ} (b : Balanced G H n l u) → goes_up b ≡ false → l ≤ n
  unfolding goes_up
  down-no-dearer b e =
      let k : b.over ≤ b.under = omega (arith, ltb-false b.under b.over e) in
      omega (arith, b.lower, mul-le-mul_right G k)

-- A line between two others

module _ (xs ys : List ℤ) (ms : List Macro) (w : Weights) (c : ℤ) where
  abbrev K : List ℤ
  K = c ∷ xs

  -- neither line is c, or one is, and the other is next to it
  data Lies (u v : ℤ) : Type 0 where
    away : (u ≡ c → ⊥) → (v ≡ c → ⊥) → Lies u v
    ends : v ≡ c → Neighbours K u c → Lies u v
    begins : u ≡ c → Neighbours K c v → Lies u v

  lies : (u v : ℤ) → Neighbours K u v → Lies u v
  lies u v n = at (line_same u c) (line_same v c)
    where
      at : Dec (u ≡ c) → Dec (v ≡ c) → Lies u v
      at (yes e) d = begins e (subst (λ (z : ℤ). Neighbours K z v) e n)
      at (no m) (yes e) = ends e (subst (λ (z : ℤ). Neighbours K u z) e n)
      at (no m) (no k) = away m k

  module _ (a b : ℤ) (low : Neighbours K a c) (high : Neighbours K c b) where
    abbrev Even : ℕ → ℕ → ℕ → Type 0
    Even = Balanced (apart a c * w.across) (apart c b * w.across)

    -- what two lines cost across, before and after
    abbrev EvenAt : ℤ → ℤ → Type 0
    EvenAt u v = Even (apart u v * w.across) (apart (shifted c a u) (shifted c a v) * w.across)
        (apart (shifted c b u) (shifted c b v) * w.across)

    whole : apart a c * w.across + apart c b * w.across ≡ apart a b * w.across
    whole =
        axis-sum w.across a c c b a b
        (let s = low.rise in let r = high.rise in omega (
          signed,
          apart-ordered a c (omega (signed, s)),
          apart-ordered c b (omega (signed, r)),
          apart-ordered a b (omega (signed, s, r)),
        ))

    gap_is : {u v u' v' : ℤ} → u ≡ u' → v ≡ v' → apart u v * w.across ≡ apart u' v' * w.across
    gap_is e f = ap₂ (λ (x y : ℤ). apart x y * w.across) e f

    even-at : (u v : ℤ) → Lies u v → EvenAt u v
    even-at u v (away m k) =
        balanced-is refl (gap_is (shifted-off c a u m) (shifted-off c a v k)) (gap_is (shifted-off c b u m) (shifted-off c b v k))
        (balanced-same (apart u v * w.across))
    even-at u v (ends e n) =
        let i = one_below K u a c n low in
        let m = differs u c n.rise in
        balanced-is (gap_is i e)
        (gap_is (shifted-off c a u m ∙ i) (shifted-on c a v e)) (gap_is (shifted-off c b u m ∙ i) (shifted-on c b v e))
        record {
          under = 1;
          over = 0;
          lower = omega (arith, axis-self w.across a);
          upper = omega (arith, whole);
        }
    even-at u v (begins e n) =
        let i = one-above K v b c n high in
        let m : v ≡ c → ⊥ = λ f. differs c v n.rise (sym f) in
        balanced-is (gap_is e i)
        (gap_is (shifted-on c a u e) (shifted-off c a v m ∙ i)) (gap_is (shifted-on c b u e) (shifted-off c b v m ∙ i))
        record {
          under = 0;
          over = 1;
          lower = omega (arith, whole);
          upper = omega (arith, axis-self w.across b);
        }

    -- and what two places cost
    abbrev EvenEdge : Place → Place → Type 0
    EvenEdge p q = Even (cost w p q) (cost w (shifted_place c a p) (shifted_place c a q)) (cost w (shifted_place c b p) (shifted_place c b q))

    even-level : (p q : Place) → Neighbours K p.x q.x → EvenEdge p q
    unfolding cost
    even-level p q n = balanced-sum (even-at p.x q.x (lies p.x q.x n)) (balanced-same (apart p.y q.y * w.along))

    even-upright : (p q : Place) → p.x ≡ q.x → EvenEdge p q
    unfolding cost
    even-upright p q e =
        balanced-sum
        (balanced-is (none e) (none (ap (shifted c a) e)) (none (ap (shifted c b) e)) (balanced-same 0))
        (balanced-same (apart p.y q.y * w.along))
      where
        none : {u v : ℤ} → u ≡ v → apart u v * w.across ≡ 0
        none {u} {v} k = gap_is k refl ∙ axis-self w.across v

    even-turned : (p q : Place) → EvenEdge q p → EvenEdge p q
    even-turned p q b = balanced-is (cost-comm w p q) (cost-comm w _ _) (cost-comm w _ _) b

    even-edge : (p q : Place) → Kept K ys ms p q → EvenEdge p q
    even-edge p q (inl e) = even-upright p q (ap (λ (z : Place). z.x) e)
    even-edge p q (inr s) =
        step-cases K ys ms EvenEdge record {
          turned = λ p q k. even-turned q p k;
          level = λ p q n e m h. even-level p q n;
          upright = λ p q n e m h. even-upright p q e;
        } p q s

    pub even-all : (F : List Edge) → Each (Kept K ys ms) F → Even (lengths (cost w) F)
        (lengths (cost w) (map (moved_pair (shifted_place c a)) F)) (lengths (cost w) (map (moved_pair (shifted_place c b)) F))
    unfolding lengths total
    even-all [] k = balanced-same 0
    even-all ((p, q) ∷ F) k = balanced-sum (even-edge p q (k p q (here refl))) (even-all F (λ a b m. k a b (there m)))

  -- A line with others on one side only: t is the next one

  module _ (t : ℤ) (only_below : (u : ℤ) → Neighbours K u c → u ≡ t) (only_above : (v : ℤ) → Neighbours K c v → v ≡ t) where
    abbrev to : Place → Place
    to p = shifted_place c t p

    -- no further apart than before
    drawn : (u v : ℤ) → Lies u v → apart (shifted c t u) (shifted c t v) ≤ apart u v
    drawn u v (away m k) = rw (shifted-off c t u m, shifted-off c t v k) (omega arith)
    drawn u v (ends e n) =
        let i = shifted-off c t u (differs u c n.rise) ∙ only_below u n in
        rw (i, shifted-on c t v e) (omega (arith, apart-self t))
    drawn u v (begins e n) =
        let i = shifted-off c t v (λ f. differs c v n.rise (sym f)) ∙ only_above v n in
        rw (i, shifted-on c t u e) (omega (arith, apart-self t))

    drawn-level : (p q : Place) → Neighbours K p.x q.x → cost w (to p) (to q) ≤ cost w p q
    unfolding cost
    drawn-level p q n = omega (arith, mul-le-mul_right w.across (drawn p.x q.x (lies p.x q.x n)))

    drawn-upright : (p q : Place) → p.x ≡ q.x → cost w (to p) (to q) ≤ cost w p q
    unfolding cost
    drawn-upright p q e = rw e (omega (arith, axis-self w.across (shifted c t q.x)))

    drawn-edge : (p q : Place) → Kept K ys ms p q → cost w (to p) (to q) ≤ cost w p q
    drawn-edge p q (inl e) = drawn-upright p q (ap (λ (z : Place). z.x) e)
    drawn-edge p q (inr s) =
        step-cases K ys ms (λ (a b : Place). cost w (to a) (to b) ≤ cost w a b) record {
          turned = λ a b k. omega (arith, k, cost-comm w a b, cost-comm w (to a) (to b));
          level = λ a b n e m h. drawn-level a b n;
          upright = λ a b n e m h. drawn-upright a b e;
        } p q s

    pub drawn-all : (F : List Edge) → Each (Kept K ys ms) F → lengths (cost w) (map (moved_pair to) F) ≤ lengths (cost w) F
    unfolding lengths total
    drawn-all [] k = omega arith
    drawn-all ((p, q) ∷ F) k = omega (arith, drawn-edge p q (k p q (here refl)), drawn-all F (λ a b m. k a b (there m)))
