-- Bends leave pins at all loose ends: a bend has the two ends of its edge, and any other point has the bend in place of an end.
-- Assumes nothing.
use mathlib.Core.Path.{◌≡◌, refl, sym, ap, ◌∙◌, subst}
use mathlib.Core.Bool.{false}
use mathlib.Core.Logic.{◌⊎◌, inl, inr}
use mathlib.Core.List.Memᴰ
use mathlib.Core.List.{List, [], ◌∷◌, ◌++◌}
use Rattle.lists.specs.Member.{◌∈◌, here, there, Among}
use Rattle.lists.proofs.TestLaws.{by, differ, either}
use Rattle.plane.specs.declared.Place.{Place}
use Rattle.joined.specs.Joined.{Link, Alike, Inside}
use Rattle.joined.proofs.JoinedLaws.{turn, firsts, seconds}
use Rattle.graph.specs.Edges.{edge_of}
use Rattle.slide.specs.Bend.{Edge, straight, x_first, y_first, taken, Bent, bent, given_back, kept, through, bends}
use Rattle.slide.specs.Promise.{EndsPins}
use Rattle.slide.proofs.BendLaws.{edge-has, not_taken}
use Rattle.slide.proofs.AcrossLaws.{line-straight}

module _ (pins : List Place) where
  -- by the links alone
  pub same_ends : {T U : List Edge} → ((x y : Place) → Link T x y → Link U x y) → ((x y : Place) → Link U x y → Link T x y) →
      EndsPins pins T → EndsPins pins U
  same_ends f g h x z l p = let r = h x z (g x z l) p in (r.0, (f x r.0 r.1.0, r.1.1))

  -- one edge through a new point: U links a and b with c alone, and what T links otherwise
  module _ {X : List Place} {T U : List Edge} (inside : Inside X T) (a b c : Place) (apart : a ≡ b → ⊥) (new : c ∈ X → ⊥)
      (a-b : Link T a b) (a_c : Link U a c) (c-b : Link U c b)
      (still : (x y : Place) → Link T x y → Alike x y a b ⊎ Link U x y)
      (only : (x y : Place) → Link U x y → Alike x y a c ⊎ (Alike x y c b ⊎ Link T x y)) where
    in-X : {x y : Place} → Link T x y → y ∈ X
    in-X (inl m) = (inside _ _ m).1
    in-X (inr m) = (inside _ _ m).0

    no-c : {x y : Place} → Link T x y → y ≡ c → ⊥
    no-c l e = new (Memᴰ.cast (sym e) (in-X l))

    abbrev Other : Place → Place → Type 0
    Other x z = (y : Place) × (Link U x y × (y ≡ z → ⊥))

    from : {x v y : Place} → x ≡ v → Link U v y → Link U x y
    from {y = y} e l = subst (λ (w : Place). Link U w y) (sym e) l

    -- an end of the edge: v, and u at the other end
    end : EndsPins pins T → (v u : Place) → Link T v u → ((y : Place) → Alike v y a b → y ≡ u) → (x z : Place) → x ≡ v → z ≡ c →
        (x ∈ pins → ⊥) → Other x z
    end h v u l not-u x z e g p =
        let r = h v u l (λ i. p (Memᴰ.cast e i)) in
        either
        (λ k. absurd (r.1.1 (not-u r.0 k)))
        (λ k. (r.0, (from e k, λ q. no-c r.1.0 (q ∙ g))))
        (still v r.0 r.1.0)

    old : EndsPins pins T → (x z : Place) → Link T x z → (x ∈ pins → ⊥) → Other x z
    old h x z l p =
        let r = h x z l p in
        let far-off : c ≡ z → ⊥ = λ q. no-c l (sym q) in
        either
        (λ k. either (λ e. (c, (from e.0 a_c, far-off))) (λ e. (c, (from e.0 (turn c-b), far-off))) k)
        (λ k. (r.0, (k, r.1.1)))
        (still x r.0 r.1.0)

    pub bent-ends : EndsPins pins T → EndsPins pins U
    bent-ends h x z l p =
        either
        (either
        (λ e. end h a b a-b (λ y. either (λ q. q.1) (λ q. absurd (apart q.0))) x z e.0 e.1 p)
        (λ e. (b, (from e.0 c-b, λ q. apart (sym (q ∙ e.1))))))
        (either
        (either
        (λ e. (a, (from e.0 (turn a_c), λ q. apart (q ∙ e.1))))
        (λ e. end h b a (turn a-b) (λ y. either (λ q. absurd (apart (sym q.0))) (λ q. q.1)) x z e.0 e.1 p))
        (λ k. old h x z k p))
        (only x z l)

  -- All edges. D: those that were read before

  abbrev Ending : List Edge → Bent → Type 0
  Ending D (bent Y U) = EndsPins pins (D ++ U)
  Ending D given_back = Unit {0}

  -- the next edge among those read, and back
  pub to-head : (D T : List Edge) (e : Edge) → Among (D ++ (e ∷ T)) (e ∷ (D ++ T))
  to-head D T e f m =
      either
      (λ i. there (Memᴰ.append_left T i))
      (λ i. either (λ k. here k) (λ j. there (Memᴰ.append_right D j)) (Memᴰ.cases_cons i))
      (Memᴰ.append_cases D m)

  pub of-head : (D T : List Edge) (e : Edge) → Among (e ∷ (D ++ T)) (D ++ (e ∷ T))
  of-head D T e f m =
      either
      (λ k. Memᴰ.append_right D (here k))
      (λ i. either (λ j. Memᴰ.append_left (e ∷ T) j) (λ j. Memᴰ.append_right D (there j)) (Memᴰ.append_cases D i))
      (Memᴰ.cases_cons m)

  pub more-links : (T U : List Edge) → Among T U → (x y : Place) → Link T x y → Link U x y
  more-links T U h x y (inl m) = inl (h (x, y) m)
  more-links T U h x y (inr m) = inr (h (y, x) m)

  keep-ending : (D : List Edge) (e : Edge) (r : Bent) → Ending (e ∷ D) r → Ending D (kept e r)
  unfolding kept
  keep-ending D e (bent Y U) h =
      same_ends (more-links _ (D ++ (e ∷ U)) (of-head D U e)) (more-links (D ++ (e ∷ U)) _ (to-head D U e)) h
  keep-ending D e given_back h = tt

  alike-edge : (a c x y : Place) → ((x, y) ≡ edge_of a c) → Alike x y a c
  alike-edge a c x y e =
      edge-has (λ f. (x, y) ≡ f → Alike x y a c) a c (λ k. inl (firsts k, seconds k)) (λ k. inr (firsts k, seconds k)) e

  -- one edge through its bend
  module _ (X : List Place) (D T : List Edge) (e : Edge) (c : Place) (inside_d : Inside X D) (inside_t : Inside X (e ∷ T))
      (slanted : straight e ≡ false) (new : c ∈ X → ⊥) where
    abbrev e1 : Edge
    e1 = edge_of e.0 c

    abbrev e2 : Edge
    e2 = edge_of c e.1

    inside : Inside X (D ++ (e ∷ T))
    inside a b m = either (inside_d a b) (inside_t a b) (Memᴰ.append_cases D m)

    apart : e.0 ≡ e.1 → ⊥
    apart k = differ (line-straight e.0 e.1 (inl (ap (λ (p : Place). p.x) k))) slanted

    still : (x y : Place) → Link (D ++ (e ∷ T)) x y → Alike x y e.0 e.1 ⊎ Link ((e2 ∷ (e1 ∷ D)) ++ T) x y
    still x y (inl m) =
        either (λ k. inl (inl (firsts k, seconds k))) (λ i. inr (inl (there (there i)))) (Memᴰ.cases_cons (to-head D T e _ m))
    still x y (inr m) =
        either (λ k. inl (inr (seconds k, firsts k))) (λ i. inr (inr (there (there i)))) (Memᴰ.cases_cons (to-head D T e _ m))

    only-in : (x y : Place) → (x, y) ∈ ((e2 ∷ (e1 ∷ D)) ++ T) → Alike x y e.0 c ⊎ (Alike x y c e.1 ⊎ ((x, y) ∈ (D ++ (e ∷ T))))
    only-in x y m =
        either (λ k. inr (inl (alike-edge c e.1 x y k)))
        (λ i. either (λ k. inl (alike-edge e.0 c x y k)) (λ j. inr (inr (of-head D T e _ (there j)))) (Memᴰ.cases_cons i))
        (Memᴰ.cases_cons m)

    swapped : {x y a b : Place} → Alike x y a b → Alike y x a b
    swapped (inl k) = inr (k.1, k.0)
    swapped (inr k) = inl (k.1, k.0)

    only : (x y : Place) → Link ((e2 ∷ (e1 ∷ D)) ++ T) x y → Alike x y e.0 c ⊎ (Alike x y c e.1 ⊎ Link (D ++ (e ∷ T)) x y)
    only x y (inl m) = either inl (λ r. either (λ k. inr (inl k)) (λ i. inr (inr (inl i))) r) (only-in x y m)
    only x y (inr m) = either (λ k. inl (swapped k)) (λ r. either (λ k. inr (inl (swapped k))) (λ i. inr (inr (inr i))) r) (only-in y x m)

    pub next-ends : EndsPins pins (D ++ (e ∷ T)) → EndsPins pins ((e2 ∷ (e1 ∷ D)) ++ T)
    next-ends =
        bent-ends inside e.0 e.1 c apart new
        (inl (Memᴰ.append_right D (here refl)))
        (edge-has (λ f. Link (e2 ∷ (f ∷ (D ++ T))) e.0 c) e.0 c (inl (there (here refl))) (inr (there (here refl))))
        (edge-has (λ f. Link (f ∷ (e1 ∷ (D ++ T))) c e.1) c e.1 (inl (here refl)) (inr (here refl)))
        still only

  wider : (X : List Place) (D : List Edge) (c : Place) → Inside X D → Inside (c ∷ X) D
  wider X D c i a b m = let h = i a b m in (there h.0, there h.1)

  -- the two parts of an edge are inside
  parts-inside : (X : List Place) (D : List Edge) (a b c : Place) → Inside X D → a ∈ X → b ∈ X →
      Inside (c ∷ X) (edge_of c b ∷ (edge_of a c ∷ D))
  parts-inside X D a b c i p q x y m =
      either (λ k. at (edge-has (λ f. (f.0 ∈ (c ∷ X)) × (f.1 ∈ (c ∷ X))) c b (here refl, there q) (there q, here refl)) k)
      (λ n. either (λ k. at (edge-has (λ f. (f.0 ∈ (c ∷ X)) × (f.1 ∈ (c ∷ X))) a c (there p, here refl) (here refl, there p)) k)
      (wider X D c i x y) (Memᴰ.cases_cons n))
      (Memᴰ.cases_cons m)
    where
      at : {f : Edge} → (f.0 ∈ (c ∷ X)) × (f.1 ∈ (c ∷ X)) → (x, y) ≡ f → (x ∈ (c ∷ X)) × (y ∈ (c ∷ X))
      at h k = (Memᴰ.cast (firsts k) h.0, Memᴰ.cast (seconds k) h.1)

  all-ends : (X : List Place) (T D : List Edge) → Inside X T → Inside X D → EndsPins pins (D ++ T) → Ending D (bends X T)
  unfolding bends through
  all-ends X [] D i j h = h
  all-ends X (e ∷ T) D i j h =
      by (straight e)
      (λ s. rw (bends, s)
      (keep-ending D e (bends X T)
      (all-ends X T (e ∷ D) (λ a b m. i a b (there m)) keeping
      (same_ends (more-links (D ++ (e ∷ T)) _ (to-head D T e)) (more-links _ (D ++ (e ∷ T)) (of-head D T e)) h))))
      (λ s. by (taken X (x_first e))
      (λ t. by (taken X (y_first e)) (λ u. rw (bends, s, t, u) tt) (λ u. rw (bends, s, t, u) (bend s (y_first e) u
      (all-ends (y_first e ∷ X) T (edge_of (y_first e) e.1 ∷ (edge_of e.0 (y_first e) ∷ D))))))
      (λ t. rw (bends, s, t) (bend s (x_first e) t (all-ends (x_first e ∷ X) T (edge_of (x_first e) e.1 ∷ (edge_of e.0 (x_first e) ∷ D))))))
    where
      keeping : Inside X (e ∷ D)
      keeping a b m = either (λ k. i a b (here k)) (j a b) (Memᴰ.cases_cons m)

      bend : straight e ≡ false → (c : Place) → taken X c ≡ false →
          (Inside (c ∷ X) T → Inside (c ∷ X) (edge_of c e.1 ∷ (edge_of e.0 c ∷ D)) →
          EndsPins pins ((edge_of c e.1 ∷ (edge_of e.0 c ∷ D)) ++ T) → Ending (edge_of c e.1 ∷ (edge_of e.0 c ∷ D))
          (bends (c ∷ X) T)) →
          Ending D (through e c (bends (c ∷ X) T))
      bend s c t ih =
          keep-ending D (edge_of e.0 c) (kept (edge_of c e.1) (bends (c ∷ X) T))
          (keep-ending (edge_of e.0 c ∷ D) (edge_of c e.1) (bends (c ∷ X) T)
          (ih (wider X T c (λ a b m. i a b (there m)))
          (parts-inside X D e.0 e.1 c j (i _ _ (here refl)).0 (i _ _ (here refl)).1)
          (next-ends X D T e c j i s (not_taken X c t) h)))

  -- R16: no point with a single edge but pins
  pub bends-ends : (X : List Place) (T : List Edge) (Y : List Place) (U : List Edge) → Inside X T → bends X T ≡ bent Y U →
      EndsPins pins T → EndsPins pins U
  bends-ends X T Y U i e h = rw e at (all-ends X T [] i (λ a b m. elim m [ ]) h)
