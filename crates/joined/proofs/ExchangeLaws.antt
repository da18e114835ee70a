-- One exchange keeps a tree a tree. The edge of a and b, and a step L of the way from u to it, are taken away; pairs from s to a, b and u
-- are laid. The ends of the edge are joined through s; the ends of L back along the way to u, through s, and back along its rest: both
-- parts of the way use neither the edge nor L, since the way is loop-free and does not meet the far end. The count stays right, because
-- one pair is left out exactly where s is no new point.
-- Assumes nothing.
use mathlib.Core.Path.{◌≡◌, refl, sym, ap, ◌∙◌}
use mathlib.Core.Logic.{◌⊎◌, inl, inr}
use mathlib.Core.List.Memᴰ
use mathlib.Core.List.{List, ◌∷◌, ◌++◌}
use Prim.Native.Nat.{ℕ, suc, ◌+◌}
use native.Mathlib.Omega.{arith}
use lib.ListN.{length, length-append}
use Rattle.lists.specs.Member.{◌∈◌, here, there, Among, Once}
use Rattle.lists.specs.Total.{total}
use Rattle.lists.proofs.TestLaws.{either}
use Rattle.lists.proofs.MemberLaws.{once-apart}
use Rattle.joined.specs.Joined.{Link, others, Alike, Joined, stay, Inside}
use Rattle.joined.specs.Tree.{TreeOn}
use Rattle.joined.specs.Way.{Way}
use Rattle.joined.specs.Cost.{Cost, lengths}
use Rattle.joined.specs.Exchange.{Toward, steps, Parted, three, laid}
use Rattle.joined.proofs.JoinedLaws.{one, then, back, through, more}
use Rattle.joined.proofs.OtherLaws.{alike-sym, alike-trans, alike-joined, alike-first, alike-second, length-others, others-among}
use Rattle.joined.proofs.OtherLaws.{link-or, link-others}
use Rattle.joined.proofs.WayLaws.{way-last, along}
use Rattle.joined.proofs.CostLaws.{lengths-append, lengths-others}
use Rattle.joined.proofs.LaidLaws.{laid-joined, of-laid, length-laid-new, length-laid-old, lengths-laid}
use Rattle.joined.proofs.TowardLaws.{parted-at}

module _ {A : Type 0} {T : List (A × A)} {a b u : A} (w : Toward T u a b) {p q : A} (on : (p, q) ∈ steps u w.free.points) where
  r : Parted T u p q w.near w.free.points
  r = parted-at on w.free.way

  free : Once ((u ∷ r.first) ++ (q ∷ r.second))
  free = rw r.whole at w.free.once

  -- the points of the two parts are on the way
  before_on : Among (u ∷ r.first) (u ∷ w.free.points)
  before_on x m = rw r.whole (Memᴰ.append_left (q ∷ r.second) m)

  after_on : Among (q ∷ r.second) (u ∷ w.free.points)
  after_on x m = rw r.whole (Memᴰ.append_right (u ∷ r.first) m)

  -- a step between points of the way is not the edge
  not-edge : {x y : A} → x ∈ (u ∷ w.free.points) → y ∈ (u ∷ w.free.points) → Alike x y a b → ⊥
  not-edge i k e = w.short (alike-second (alike-trans e (alike-sym w.ends)) i k)

  -- L is another link than the edge
  pub step-link : Link T p q
  step-link = r.link

  pub step_other : Alike p q a b → ⊥
  step_other = not-edge (before_on p (way-last r.before)) (after_on q (here refl))

  -- All is still joined

  -- any pairs that still link what T links, but for the edge and L, and that join s with a, b and u
  module _ {U : List (A × A)} (still : (x y : A) → Link T x y → Alike x y a b ⊎ (Alike x y p q ⊎ Link U x y))
      (s : A) (sa : Joined U s a) (sb : Joined U s b) (su : Joined U s u) where
    -- a part of the way that lacks an end of L
    part : {x y : A} {ps : List A} → Way T x ps y → Among (x ∷ ps) (u ∷ w.free.points) →
        ((c d : A) → c ∈ (x ∷ ps) → d ∈ (x ∷ ps) → Alike c d p q → ⊥) → Joined U x y
    part v on-way not-cut =
        along v
        (λ c d i k l. either (λ e. absurd (not-edge (on-way c i) (on-way d k) e)) (either (λ e. absurd (not-cut c d i k e)) one)
        (still c d l))

    before-joined : Joined U u p
    before-joined =
        part r.before before_on
        (λ c d i k e. once-apart (u ∷ r.first) (q ∷ r.second) free q (alike-second e i k) (here refl))

    after-joined : Joined U q w.near
    after-joined =
        part r.after after_on
        (λ c d i k e. once-apart (u ∷ r.first) (q ∷ r.second) free p (way-last r.before) (alike-first e i k))

    s-near : Alike w.near w.far a b → Joined U s w.near
    s-near (inl e) = then sa (stay (sym e.0))
    s-near (inr e) = then sb (stay (sym e.0))

    round : Joined U p q
    round = then (back before-joined) (then (back su) (then (s-near w.ends) (back after-joined)))

    pub exchange-joined : {x y : A} → Joined T x y → Joined U x y
    exchange-joined j = through pairs j
      where
        pairs : (c d : A) → (c, d) ∈ T → Joined U c d
        pairs c d m = either (λ e. alike-joined e (then (back sa) sb)) (either (λ e. alike-joined e round) one) (still c d (inl m))

    -- with the right count it is a tree, over points that are s or were there
    pub exchange-tree : {X Y : List A} → TreeOn X T → a ∈ X → Once Y → ((y : A) → y ∈ Y → (y ≡ s) ⊎ (y ∈ X)) → suc (length U) ≡ length Y →
        TreeOn Y U
    exchange-tree {X} t ia o known size = record { once = o; joins = λ x y i k. then (back (to (known x i))) (to (known y k)); size = size }
      where
        to : {y : A} → (y ≡ s) ⊎ (y ∈ X) → Joined U s y
        to (inl e) = stay (sym e)
        to (inr i) = then sa (exchange-joined (t.joins _ _ ia i))

-- Two positions struck out, and the pairs from s laid

module _ {A : Type 0} {T : List (A × A)} {a b u : A} (edge : Link T a b) (w : Toward T u a b) {p q : A}
    (on : (p, q) ∈ steps u w.free.points) where
  pub cut : Link (others edge) p q
  cut = link-others edge (step_other w on) (step-link w on)

  -- the pairs of T without the edge and L
  abbrev pub left : List (A × A)
  left = others cut

  -- each link is the edge, or L, or left
  pub left_or : (x y : A) → Link T x y → Alike x y a b ⊎ (Alike x y p q ⊎ Link left x y)
  left_or x y k = either inl (λ i. inr (link-or cut i)) (link-or edge k)

  pub left-among : Among left T
  left-among e i = others-among edge e (others-among cut e i)

  pub length-left : length T ≡ suc (suc (length left))
  length-left = length-others edge ∙ ap suc (length-others cut)

  module _ (same : Discrete A) (s : A) where
    abbrev new : List (A × A)
    new = laid same s (three a b u)

    abbrev pub after : List (A × A)
    after = new ++ left

    laid-after : {x : A} → x ∈ three a b u → Joined after s x
    laid-after {x} m = more (λ e i. Memᴰ.append_left left i) (laid-joined same s (three a b u) x m)

    after-or : (x y : A) → Link T x y → Alike x y a b ⊎ (Alike x y p q ⊎ Link after x y)
    after-or x y k = either inl (λ i. inr (either inl (λ l. inr (wider l)) i)) (left_or x y k)
      where
        wider : Link left x y → Link after x y
        wider (inl m) = inl (Memᴰ.append_right new m)
        wider (inr m) = inr (Memᴰ.append_right new m)

    module _ {X : List A} (t : TreeOn X T) (ia : a ∈ X) (ib : b ∈ X) (iu : u ∈ X) where
      among-three : Among (three a b u) X
      among-three x (here e) = Memᴰ.cast e ia
      among-three x (there (here e)) = Memᴰ.cast e ib
      among-three x (there (there (here e))) = Memᴰ.cast e iu
      among-three x (there (there (there m))) = elim m [ ]

      after-tree : {Y : List A} → Once Y → ((y : A) → y ∈ Y → (y ≡ s) ⊎ (y ∈ X)) → suc (length after) ≡ length Y → TreeOn Y after
      after-tree o known size =
          exchange-tree w on after-or s (laid-after (here refl)) (laid-after (there (here refl))) (laid-after (there (there (here refl))))
          t ia o known size

      -- s is a new point
      pub exchange-new : (s ∈ X → ⊥) → TreeOn (s ∷ X) after
      exchange-new n =
          after-tree (n, t.once) (λ y i. Memᴰ.cases_cons i)
          (omega (
            arith,
            t.size,
            length-left,
            length-append new left,
            length-laid-new same s (three a b u) (λ i. n (among-three s i)),
          ))

      -- s is one of a, b and u, which are different points
      pub exchange-old : s ∈ three a b u → Once (three a b u) → TreeOn X after
      exchange-old m o =
          after-tree t.once (λ y i. inr i)
          (omega (arith, t.size, length-left, length-append new left, length-laid-old same s (three a b u) m o))

      -- the ends of its pairs are points, where those of the tree's were
      pub exchange-inside : Inside X T → Inside (s ∷ X) after
      exchange-inside h c d m = either laid-inside left-inside (Memᴰ.append_cases new m)
        where
          laid-inside : (c, d) ∈ new → (c ∈ (s ∷ X)) × (d ∈ (s ∷ X))
          laid-inside i = let g = of-laid same s (three a b u) c d i in (here g.0, there (among-three d g.1))

          left-inside : (c, d) ∈ left → (c ∈ (s ∷ X)) × (d ∈ (s ∷ X))
          left-inside i = let g = h c d (left-among (c, d) i) in (there g.0, there g.1)

    -- R9, R14: what is laid is shorter by the gain, where s lies between a and b
    pub exchange-lengths : (d : A → A → ℕ) → Cost d → d s a + d s b ≡ d a b → lengths d after + d p q ≡ lengths d T + d s u
    unfolding total
    exchange-lengths d c h =
        omega (
          arith,
          lengths-others d c edge,
          lengths-others d c cut,
          lengths-append d new left,
          lengths-laid same s d c (three a b u),
        )
