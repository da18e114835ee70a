-- A slide leaves pins at all loose ends: where an edge goes, its two ends become one, and each of them that is no pin has another edge,
-- which does not go. Two of these edges never become one, since that would close a loop in the tree.
-- Assumes nothing.
use mathlib.Core.Path.{◌≡◌, refl, sym, ap, ◌∙◌, subst}
use mathlib.Core.Bool.{Bool, true, false, not}
use mathlib.Core.Logic.{◌⊎◌, inl, inr}
use mathlib.Core.List.Memᴰ
use mathlib.Core.List.{List}
use Prim.Native.Nat.{ℕ}
use Rattle.lists.specs.Member.{◌∈◌}
use Rattle.lists.proofs.TestLaws.{by, differ, either}
use Rattle.plane.specs.declared.Place.{Place}
use Rattle.plane.proofs.PlaceOrder.{place_same}
use Rattle.joined.specs.Joined.{Link, others, Joined, stay, step, Inside}
use Rattle.joined.specs.Tree.{TreeOn}
use Rattle.joined.proofs.JoinedLaws.{turn, one}
use Rattle.joined.proofs.TreeLaws.{tree-cuts}
use Rattle.joined.proofs.OtherLaws.{link-others, cut-link}
use Rattle.net.specs.Net.{Net}
use Rattle.slide.specs.declared.Side.{Side}
use Rattle.slide.specs.Side.{moved}
use Rattle.slide.specs.Bend.{Edge}
use Rattle.slide.specs.Slide.{shift, slide}
use Rattle.slide.specs.Bars.{IsBar, Allowed}
use Rattle.slide.specs.Promise.{EndsPins}
use Rattle.slide.proofs.AcrossLaws.{opposite, there_and_back}
use Rattle.slide.proofs.EdgeLaws.{shift-on, shift-off}
use Rattle.slide.proofs.SlideLaws.{false-proper, in-slide, of-slide, meeting}

pub decide {ℓ} : {P : Type 0} {C : Type ℓ} → Dec P → (P → C) → ((P → ⊥) → C) → C
decide (yes p) f g = f p
decide (no n) f g = g n

-- In a tree

module _ {X : List Place} {T : List Edge} (t : TreeOn X T) where
  -- no edge has equal ends
  pub no_loop : {a b : Place} → Link T a b → a ≡ b → ⊥
  no_loop l e = cut-link (tree-cuts place_same t) l (stay e)

  -- no way leads round an edge
  pub no-way-round : {a b : Place} (l : Link T a b) → Joined (others l) a b → ⊥
  no-way-round l j = cut-link (tree-cuts place_same t) l j

module _ {s : Side} {on : Place → Bool} {net : Net} {X : List Place} {T : List Edge} (c : IsBar s net X T on)
    {f l : Place} {d : ℕ} (w : Allowed s net X T on f l d) (t : TreeOn X T) (inside : Inside X T) where
  abbrev moving : Place → Place
  moving = shift s on d

  stands : {a b : Place} → Link T a b → a ∈ X
  stands (inl m) = (inside _ _ m).0
  stands (inr m) = (inside _ _ m).1

  -- points of the bar stay apart, and so do the others
  kept-apart : (u v : Place) → on u ≡ on v → moving u ≡ moving v → u ≡ v
  kept-apart u v e k =
      by (on u)
      (λ h.
      let g : on v ≡ true = sym e ∙ h in
      let m : moved s d u ≡ moved s d v = sym (shift-on s on d u h) ∙ k ∙ shift-on s on d v g in
      sym (there_and_back s d u) ∙ ap (moved (opposite s) d) m ∙ there_and_back s d v)
      (λ h. let g : on v ≡ false = sym e ∙ h in sym (shift-off s on d u h) ∙ k ∙ shift-off s on d v g)

  -- two points that become one are the ends of an edge
  become-one : (u v : Place) → u ∈ X → v ∈ X → moving u ≡ moving v → (u ≡ v) ⊎ Link T u v
  become-one u v i j k =
      by (on u)
      (λ h. by (on v)
      (λ g. inl (kept-apart u v (h ∙ sym g) k))
      (λ g. inr (meeting c w v u j g h (sym (shift-on s on d u h) ∙ k ∙ shift-off s on d v g))))
      (λ h. by (on v)
      (λ g. inr (turn (meeting c w u v i h g (sym (shift-on s on d v g) ∙ sym k ∙ shift-off s on d u h))))
      (λ g. inl (kept-apart u v (h ∙ sym g) k)))

  -- no three of them
  not_three : (a b r : Place) → (a ≡ b → ⊥) → (r ≡ b → ⊥) → moving a ≡ moving b → moving r ≡ moving b → a ≡ r
  not_three a b r m n e g = kept-apart a r (opposed a m e ∙ sym (opposed r n g)) (e ∙ sym g)
    where
      opposed : (u : Place) → (u ≡ b → ⊥) → moving u ≡ moving b → on u ≡ not (on b)
      opposed u n e =
          by (on u)
          (λ h. by (on b) (λ g. absurd (n (kept-apart u b (h ∙ sym g) e))) (λ g. rw (h, g) refl))
          (λ h. by (on b) (λ g. rw (h, g) refl) (λ g. absurd (n (kept-apart u b (h ∙ sym g) e))))

  in-link : {a b : Place} → Link T a b → (moving a ≡ moving b → ⊥) → Link (slide s on d T) (moving a) (moving b)
  in-link (inl m) n = either (λ e. absurd (n e)) inl (in-slide s on d T _ _ m)
  in-link (inr m) n = either (λ e. absurd (n (sym e))) inr (in-slide s on d T _ _ m)

  -- the pins stay
  pin-stays : (a : Place) → a ∈ net.pins → moving a ∈ net.pins
  pin-stays a i = Memᴰ.cast (shift-off s on d a (c.free a i)) i

  module _ (ends : EndsPins net.pins T) where
    another : (a b : Place) (e : Link T a b) → (moving a ≡ moving b → ⊥) → (moving a ∈ net.pins → ⊥) →
        (y : Place) × (Link (slide s on d T) (moving a) y × (y ≡ moving b → ⊥))
    another a b e n p = at (ends a b e (λ i. p (pin-stays a i)))
      where
        -- a–b₂, another edge of a
        at : (y : Place) × (Link T a y × (y ≡ b → ⊥)) → (y : Place) × (Link (slide s on d T) (moving a) y × (y ≡ moving b → ⊥))
        at (y, (g, m)) = decide (place_same (moving a) (moving y)) gone stays
          where
            first : Link (others e) a y
            first = link-others e (either (λ q. m q.1) (λ q. no_loop t e q.0)) g

            stays : (moving a ≡ moving y → ⊥) → (z : Place) × (Link (slide s on d T) (moving a) z × (z ≡ moving b → ⊥))
            stays k = (moving y, (in-link g k, λ q. round (become-one y b (stands (turn g)) (stands (turn e)) q)))
              where
                round : (y ≡ b) ⊎ Link T y b → ⊥
                round (inl q) = m q
                round (inr h) = no-way-round t e
                    (step first (one (link-others e (either (λ q. no_loop t g (sym q.0)) (λ q. m q.0)) h)))

            -- the edge a–y goes, and y has another edge
            gone : moving a ≡ moving y → (z : Place) × (Link (slide s on d T) (moving a) z × (z ≡ moving b → ⊥))
            gone k = more (ends y a (turn g) (λ i. p (Memᴰ.cast k (pin-stays y i))))
              where
                more : (r : Place) × (Link T y r × (r ≡ a → ⊥)) → (z : Place) × (Link (slide s on d T) (moving a) z × (z ≡ moving b → ⊥))
                more (r, (h, o)) = (moving r, (rw k (in-link h apart), λ q. round (become-one r b (stands (turn h)) (stands (turn e)) q)))
                  where
                    apart : moving y ≡ moving r → ⊥
                    apart q = o (sym (not_three a y r (no_loop t g) (λ z. no_loop t h (sym z)) k (sym q)))

                    second : Link (others e) y r
                    second = link-others e (either (λ q. no_loop t g (sym q.0)) (λ q. m q.0)) h

                    round : (r ≡ b) ⊎ Link T r b → ⊥
                    round (inl q) = no-way-round t e (step first (step second (stay q)))
                    round (inr i) =
                        no-way-round t e (step first
                        (step second (one (link-others e (either (λ q. o q.0) (λ q. no_loop t i q.0)) i))))

    -- an edge of the slid tree, from where it comes
    from : (x z : Place) → (x ∈ net.pins → ⊥) → (a b : Place) → Link T a b → x ≡ moving a → z ≡ moving b → (x ≡ z → ⊥) →
        (y : Place) × (Link (slide s on d T) x y × (y ≡ z → ⊥))
    from x z p a b e g h n =
        let r = another a b e (λ q. n (g ∙ q ∙ sym h)) (λ i. p (Memᴰ.cast g i)) in
        (r.0, (subst (λ (v : Place). Link (slide s on d T) v r.0) (sym g) r.1.0, λ q. r.1.1 (q ∙ h)))

    pub slide-ends : EndsPins net.pins (slide s on d T)
    slide-ends x z (inl m) p =
        let r = of-slide s on d T x z m in
        from x z p r.a r.b (inl r.stands) r.first r.second (λ q. differ r.two (false-proper x z q))
    slide-ends x z (inr m) p =
        let r = of-slide s on d T z x m in
        from x z p r.b r.a (inr r.stands) r.second r.first (λ q. differ r.two (false-proper z x (sym q)))
