-- Two moves of which neither is better are one: they have one first place and one direction, so one bar, and more
-- edges hang on one side only.
-- Assumes nothing.
use mathlib.Core.Path.{◌≡◌, refl, sym, ap, ap₂, ◌∙◌, subst}
use mathlib.Core.Bool.{Bool, true, false}
use mathlib.Core.Logic.{◌⊎◌, inl, inr, ◌↔◌}
use mathlib.Core.List.{List, [], ◌∷◌}
use Prim.Native.Nat.{ℕ, suc, ◌+◌}
use native.Mathlib.Omega.{arith}
use lib.IntN.{ℤ, pos, ◌-ℤ◌}
use Rattle.lists.specs.Member.{◌∈◌, here, there}
use Rattle.lists.specs.Those.{those}
use Rattle.lists.proofs.TestLaws.{by, differ, either}
use Rattle.lists.proofs.ThoseLaws.{in-those, of-those}
use Rattle.signed.specs.Sides.{up, down, Lt}
use Rattle.signed.proofs.SideLaws.{sub-sides, up_pos, down_pos, eq_of}
use Rattle.plane.specs.declared.Place.{Place}
use Rattle.joined.specs.Joined.{Joined}
use Rattle.joined.proofs.JoinedLaws.{then, back, more}
use Rattle.net.specs.Net.{Net}
use Rattle.slide.specs.declared.Side.{Side}
use Rattle.slide.specs.declared.Side.TheVariants.{Above, Below, Right, Left}
use Rattle.slide.specs.declared.Move.{Move}
use Rattle.slide.specs.Side.{horizontal, across}
use Rattle.slide.specs.Bend.{Edge}
use Rattle.slide.specs.Bar.{level, on_bar}
use Rattle.slide.specs.Slide.{tree_points, move_of, rank, better}
use Rattle.slide.proofs.AcrossLaws.{level-true, true-level}
use Rattle.slide.proofs.OneMove.{one-move}
use Rattle.slide.proofs.SentenceLaws.{is-greatest}
use Rattle.slid_rules.specs.Many.{Many}
use Rattle.slid_rules.proofs.ManyLaws.{many-same}
use Rattle.slid_rules.specs.Bar.{OnBar, EitherWay, Ahead, Behind}
use Rattle.slid_rules.specs.Round.{BarOf, Moves}
use Rattle.slid_rules.proofs.FitsIs.{points-hold}
use Rattle.slid_rules.proofs.RankLaws.{rank-order}
use Rattle.slid_rules.proofs.MovesIs.{move-is, aheads-one, behinds-one}

-- Two sides of one bar

opposite : Side → Side
opposite Above = Below
opposite Below = Above
opposite Right = Left
opposite Left = Right

turned : (a b : ℤ) → Lt (pos 0 -ℤ a) (pos 0 -ℤ b) → Lt b a
turned a b h = omega (arith, h, sub-sides (pos 0) a, sub-sides (pos 0) b, up_pos 0, down_pos 0)

turned-back : (a b : ℤ) → Lt a b → Lt (pos 0 -ℤ b) (pos 0 -ℤ a)
turned-back a b h = omega (arith, h, sub-sides (pos 0) a, sub-sides (pos 0) b, up_pos 0, down_pos 0)

-- what rises towards a side falls towards the other
falls : (s : Side) (p q : Place) → Lt (across s p) (across s q) → Lt (across (opposite s) q) (across (opposite s) p)
unfolding across opposite
falls Above p q h = turned-back p.y q.y h
falls Below p q h = turned p.y q.y h
falls Right p q h = turned-back p.x q.x h
falls Left p q h = turned p.x q.x h

-- a horizontal bar moves up or down
other : (s r : Side) → horizontal s ≡ horizontal r → (s ≡ r) ⊎ (r ≡ opposite s)
unfolding horizontal opposite
other Above Above e = inl refl
other Above Below e = inr refl
other Above Right e = differ refl e
other Above Left e = differ refl e
other Below Above e = inr refl
other Below Below e = inl refl
other Below Right e = differ refl e
other Below Left e = differ refl e
other Right Above e = differ e refl
other Right Below e = differ e refl
other Right Right e = inl refl
other Right Left e = inr refl
other Left Above e = differ e refl
other Left Below e = differ e refl
other Left Right e = inr refl
other Left Left e = inl refl

turned-line : (a b : ℤ) → a ≡ b → pos 0 -ℤ a ≡ pos 0 -ℤ b
turned-line a b e = ap (λ (z : ℤ). pos 0 -ℤ z) e

line-turned : (a b : ℤ) → pos 0 -ℤ a ≡ pos 0 -ℤ b → a ≡ b
line-turned a b e =
    let h = ap up e in
    let k = ap down e in
    eq_of a b (omega (arith, sub-sides (pos 0) a, sub-sides (pos 0) b, up_pos 0, down_pos 0, h, k))

one_line : (s : Side) (p q : Place) → across s p ≡ across s q → across (opposite s) p ≡ across (opposite s) q
unfolding across opposite
one_line Above p q e = turned-line p.y q.y e
one_line Below p q e = line-turned p.y q.y e
one_line Right p q e = turned-line p.x q.x e
one_line Left p q e = line-turned p.x q.x e

back-again : (s : Side) → opposite (opposite s) ≡ s
unfolding opposite
back-again Above = refl
back-again Below = refl
back-again Right = refl
back-again Left = refl

module _ (T : List Edge) (a : Place) where
  -- the same points, whichever side it would move to
  same-bar : (s : Side) (p : Place) → OnBar s T a p → OnBar (opposite s) T a p
  same-bar s p j =
      more (λ e m. let r = of-those (level s) T m in
      let line = one_line s e.0 e.1 (level-true s e.0 e.1 r.1) in
      in-those (level (opposite s)) T r.0 (true-level (opposite s) e.0 e.1 line)) j

  bar-same : (s : Side) (p : Place) → OnBar (opposite s) T a p → OnBar s T a p
  bar-same s p j = subst (λ (r : Side). OnBar r T a p) (back-again s) (same-bar (opposite s) p j)

  -- so what hangs ahead of it hangs behind
  behind-ahead : (s : Side) (p q : Place) → Ahead s T (OnBar s T a) p q →
      Behind (opposite s) T (OnBar (opposite s) T a) p q
  behind-ahead s p q h = (h.0, (same-bar s p h.1.0, falls s p q h.1.1))

  ahead-behind : (s : Side) (p q : Place) → Behind s T (OnBar s T a) p q →
      Ahead (opposite s) T (OnBar (opposite s) T a) p q
  ahead-behind s p q h = (h.0, (same-bar s p h.1.0, falls s q p h.1.1))

module _ (net : Net) (T : List Edge) where
  -- more edges cannot hang on both sides
  one_side : (m n : Move) → Moves net T m → Moves net T n → m.first ≡ n.first → n.side ≡ opposite m.side → ⊥
  one_side m n v w f o =
      let a : Many (EitherWay (Ahead n.side T (BarOf n T))) T v.behinds =
      subst (λ (r : Side × Place). Many (EitherWay (Ahead r.0 T (OnBar r.0 T r.1))) T v.behinds) (at_n)
      (many-same _ _ T turn-behind v.behinds v.behind) in
      let b : Many (EitherWay (Behind n.side T (BarOf n T))) T v.aheads =
      subst (λ (r : Side × Place). Many (EitherWay (Behind r.0 T (OnBar r.0 T r.1))) T v.aheads) (at_n)
      (many-same _ _ T turn-ahead v.aheads v.ahead) in
      let x = aheads-one net T n w v.behinds a in
      let y = behinds-one net T n w v.aheads b in
      omega (arith, v.more, w.more, x, y)
    where
      r : Side
      r = opposite m.side

      at_n : ◌≡◌ {A = Side × Place} (r, m.first) (n.side, n.first)
      at_n = λ i. (sym o i, f i)

      again : (p q : Place) → Ahead r T (OnBar r T m.first) p q → Behind m.side T (BarOf m T) p q
      again p q h =
          subst (λ (z : Side). Behind z T (OnBar z T m.first) p q) (back-again m.side)
          (behind-ahead T m.first r p q h)

      once : (p q : Place) → Behind r T (OnBar r T m.first) p q → Ahead m.side T (BarOf m T) p q
      once p q h =
          subst (λ (z : Side). Ahead z T (OnBar z T m.first) p q) (back-again m.side)
          (ahead-behind T m.first r p q h)

      turn-behind : (e : Edge) →
          EitherWay (Behind m.side T (BarOf m T)) e ↔ EitherWay (Ahead r T (OnBar r T m.first)) e
      turn-behind e = (
        either (λ h. inl (ahead-behind T m.first m.side e.0 e.1 h))
            (λ h. inr (ahead-behind T m.first m.side e.1 e.0 h)),
        either (λ h. inl (again e.0 e.1 h)) (λ h. inr (again e.1 e.0 h)),
      )

      turn-ahead : (e : Edge) →
          EitherWay (Ahead m.side T (BarOf m T)) e ↔ EitherWay (Behind r T (OnBar r T m.first)) e
      turn-ahead e = (
        either (λ h. inl (behind-ahead T m.first m.side e.0 e.1 h))
            (λ h. inr (behind-ahead T m.first m.side e.1 e.0 h)),
        either (λ h. inl (once e.0 e.1 h)) (λ h. inr (once e.1 e.0 h)),
      )

  -- one first place and one side: one move
  same_move : (m n : Move) → Moves net T m → Moves net T n → m.first ≡ n.first → m.side ≡ n.side → m ≡ n
  same_move m n v w f q =
      let g : BarOf m T w.edge.0 =
      subst (λ (z : Side × Place). OnBar z.0 T z.1 w.edge.0) (λ i. (sym q i, sym f i)) w.joined in
      let one = ((is-greatest m.side T v.edge.0).connected w.edge.0).1 (then (back v.joined) g) in
      let here_in : (e : Edge) → e ∈ T → e.0 ∈ tree_points net T =
      λ e i. (points-hold net T e.0).1 (inr (e.1, inl i)) in
      sym (move-is net T m v)
      ∙ sym (one-move net T m.side v.edge w.edge (here_in v.edge v.stands) (here_in w.edge w.stands)
      v.lies (subst (λ (s : Side). level s w.edge ≡ true) (sym q) w.lies) one)
      ∙ ap (λ (s : Side). move_of net T s w.edge) q
      ∙ move-is net T n w

  pub tie-one : (m n : Move) → Moves net T m → Moves net T n → better m n ≡ false → better n m ≡ false → m ≡ n
  unfolding better
  tie-one m n v w h k =
      let e = rank-order.tie (rank m) (rank n) h k in
      let f : m.first ≡ n.first = ap (λ (r : ℕ × (Place × Bool)). r.1.0) e in
      either (same_move m n v w f) (λ o. absurd (one_side m n v w f o))
      (other m.side n.side (ap (λ (r : ℕ × (Place × Bool)). r.1.1) e))
