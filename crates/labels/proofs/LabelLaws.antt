-- The table of labels: after each edge two points have the same label exactly when the level edges so far join them, and none is above its
-- point.
-- Assumes nothing.
use mathlib.Core.Path.{◌≡◌, refl, sym, ap, ap₂, ◌∙◌, subst}
use mathlib.Core.Bool.{true, false}
use mathlib.Core.Logic.{inl, inr}
use mathlib.Core.List.Memᴰ
use mathlib.Core.List.{List, [], ◌∷◌}
use Prim.Native.Nat.{ℕ, zero, suc, ◌≤◌, ◌<◌, min, max}
use native.Mathlib.Decide.{ℕ_discrete}
use native.Mathlib.Omega.{arith}
use borrow.Author.Tests.{eqb-true, ltb-true, ltb-false}
use lib.Dec.{eqb, ltb}
use lib.IntN.{ℤ}
use lib.ListN.{length, get_or, length-set}
use lib.Seq.{get_or-set_same, get_or-set_other}
use Rattle.lists.specs.Member.{◌∈◌, here, there}
use Rattle.lists.proofs.TestLaws.{by, either}
use Rattle.joined.specs.Joined.{Joined, stay}
use Rattle.joined.specs.Labels.{merge, Labels}
use Rattle.joined.specs.Table.{changed}
use Rattle.joined.proofs.JoinedLaws.{one, carried, firsts, seconds, between}
use Rattle.joined.proofs.LabelLaws.{merged}
use Rattle.joined.proofs.TableLaws.{changed-renamed}
use Rattle.slide.specs.declared.Side.{Side}
use Rattle.straight.specs.Table.{first_end, second_end}
use Rattle.turned.specs.Steps.{up_to, set_up_to}
use Rattle.turned.specs.Turned.{level_at}
use Rattle.labels.specs.Labelling.{united, joined_by, labelled}

-- Tables written up to a number

module _ (f : ℕ → ℕ → ℕ) (t : List ℕ) where
  pub set-length : (n : ℕ) → length (set_up_to f n t) ≡ length t
  unfolding up_to
  set-length zero = refl
  set-length (suc n) = length-set (set_up_to f n t) n _ ∙ set-length n

  pub set-above : (n x : ℕ) → n ≤ x → get_or (set_up_to f n t) x 0 ≡ get_or t x 0
  unfolding up_to
  set-above zero x h = refl
  set-above (suc n) x h =
      get_or-set_other (set_up_to f n t) n x _ 0 (λ e. let z : ⊥ = omega (arith, e) in z) ∙ set-above n x (omega arith)

  pub set_below : (n x : ℕ) → n ≤ length t → x < n → get_or (set_up_to f n t) x 0 ≡ f x (get_or t x 0)
  unfolding up_to
  set_below zero x l h = absurd (let z : ⊥ = omega arith in z)
  set_below (suc n) x l h =
      by (ltb x n)
      (λ e. let i = ltb-true x n e in
      get_or-set_other (set_up_to f n t) n x _ 0 (λ k. let z : ⊥ = omega (arith, i, k) in z) ∙ set_below n x (omega arith) i)
      (λ e.
      let i : x ≡ n = omega (arith, ltb-false x n e) in
      rw i (get_or-set_same (set_up_to f n t) n _ 0 (omega (arith, set-length n)) ∙ ap (f n) (set-above n n (omega arith))))

-- Labels by the least of two

changed-least : (a b x : ℕ) → a ≤ b → changed a b x ≤ x
unfolding changed
changed-least a b x h = by (eqb x b) (λ e. rw (changed, e) (omega (arith, h, eqb-true x b e))) (λ e. rw (changed, e) (omega arith))

module _ {L : List (ℕ × ℕ)} {f : ℕ → ℕ} where
  flipped : (a b : ℕ) → Labels ((b, a) ∷ L) f → Labels ((a, b) ∷ L) f
  flipped a b s = record { own = s.own; to = λ x. carried (λ y. y) over (s.to x); ends = ends }
    where
      over : (u v : ℕ) → (u, v) ∈ ((b, a) ∷ L) → Joined ((a, b) ∷ L) u v
      over u v m =
          either (λ e. between (firsts e) (seconds e) (one (inr (here refl)))) (λ i. one (inl (there i))) (Memᴰ.cases_cons m)

      ends : (u v : ℕ) → (u, v) ∈ ((a, b) ∷ L) → f u ≡ f v
      ends u v m =
          either (λ e. ap f (firsts e) ∙ sym (s.ends b a (here refl)) ∙ ap f (sym (seconds e))) (λ i. s.ends u v (there i))
          (Memᴰ.cases_cons m)

-- f changed so that the greater label of a and b becomes the smaller
abbrev lesser : (ℕ → ℕ) → ℕ → ℕ → ℕ → ℕ
lesser f a b x = changed (min (f a) (f b)) (max (f a) (f b)) (f x)

same-labels : {L : List (ℕ × ℕ)} (f g : ℕ → ℕ) → ((x : ℕ) → f x ≡ g x) → Labels L f → Labels L g
same-labels {L} f g e s = subst (λ (h : ℕ → ℕ). Labels L h) (λ i x. e x i) s

lesser-labels : {L : List (ℕ × ℕ)} {f : ℕ → ℕ} → Labels L f → (a b : ℕ) → Labels ((a, b) ∷ L) (lesser f a b)
unfolding merge
lesser-labels {L} {f} s a b =
    by (ltb (f a) (f b))
    (λ e.
    let h = ltb-true (f a) (f b) e in
    let p : min (f a) (f b) ≡ f a = omega (arith, h) in
    let q : max (f a) (f b) ≡ f b = omega (arith, h) in
    same-labels (merge ℕ_discrete f a b) (lesser f a b)
    (λ x. sym (ap₂ (λ (i j : ℕ). changed i j (f x)) p q ∙ changed-renamed (f a) (f b) (f x))) (merged ℕ_discrete s a b))
    (λ e.
    let h = ltb-false (f a) (f b) e in
    let p : min (f a) (f b) ≡ f b = omega (arith, h) in
    let q : max (f a) (f b) ≡ f a = omega (arith, h) in
    same-labels (merge ℕ_discrete f b a) (lesser f a b)
    (λ x. sym (ap₂ (λ (i j : ℕ). changed i j (f x)) p q ∙ changed-renamed (f b) (f a) (f x))) (flipped a b (merged ℕ_discrete s b a)))

-- The table

-- the level edges among the first k, as pairs of numbers
unfoldable pub level_pairs : Side → List ℤ → List ℕ → ℕ → List (ℕ × ℕ)
level_pairs s pts ks zero = []
level_pairs s pts ks (suc k) =
    elim (level_at s pts ks k) [
      | true ↦ (first_end (get_or ks k 0), second_end (get_or ks k 0)) ∷ level_pairs s pts ks k
      | false ↦ level_pairs s pts ks k
    ]

-- the first n entries of the table are labels of the level edges, none above its point
pub record Labelled (s : Side) (pts : List ℤ) (ks : List ℕ) (n e : ℕ) (t : List ℕ) : Type 0 where
  pub label : ℕ → ℕ
  pub labels : Labels (level_pairs s pts ks e) label
  pub least : (x : ℕ) → label x ≤ x
  pub holds : (x : ℕ) → x < n → get_or t x 0 ≡ label x
  pub room : n ≤ length t

module _ (s : Side) (pts : List ℤ) (ks : List ℕ) (n : ℕ) where
  numbered : (t : List ℕ) → n ≤ length t → Labelled s pts ks n 0 (set_up_to (λ i x. i) n t)
  unfolding level_pairs
  numbered t h = record {
    label = λ x. x;
    labels = record { own = λ x. refl; to = λ x. stay refl; ends = λ a b m. elim m [ ] };
    least = λ x. omega arith;
    holds = λ x l. set_below (λ i x. i) t n x h l;
    room = omega (arith, h, set-length (λ i x. i) t n);
  }

  module _ (k : ℕ) (t : List ℕ) (r : Labelled s pts ks n k t) (ia : first_end (get_or ks k 0) < n) (ib : second_end (get_or ks k 0) < n) where
    abbrev a : ℕ
    a = first_end (get_or ks k 0)

    abbrev b : ℕ
    b = second_end (get_or ks k 0)

    level-next : level_at s pts ks k ≡ true → Labelled s pts ks n (suc k) (joined_by s pts ks n k t)
    unfolding level_pairs joined_by united
    level-next e =
        rw (joined_by, e)
        (record {
          label = lesser r.label a b;
          labels = rw (level_pairs, e) (lesser-labels r.labels a b);
          least = λ x. let l = r.least x in
              let m = changed-least (min (r.label a) (r.label b)) (max (r.label a) (r.label b)) (r.label x) (omega arith) in
              omega (arith, l, m);
          holds = λ x l.
              set_below (λ i y. changed (min (get_or t a 0) (get_or t b 0)) (max (get_or t a 0) (get_or t b 0)) y) t n x r.room l
              ∙ rw (r.holds x l, r.holds a ia, r.holds b ib) refl;
          room = omega (arith, r.room, set-length (λ i x. changed (min (get_or t a 0) (get_or t b 0)) (max (get_or t a 0) (get_or t b 0)) x) t n);
        })

    level-not : level_at s pts ks k ≡ false → Labelled s pts ks n (suc k) (joined_by s pts ks n k t)
    unfolding level_pairs joined_by
    level-not e = rw (joined_by, e) (record {
      label = r.label;
      labels = rw (level_pairs, e) r.labels;
      least = r.least;
      holds = r.holds;
      room = r.room;
    })

  module _ (e : ℕ) (within : (k : ℕ) → k < e → (first_end (get_or ks k 0) < n) × (second_end (get_or ks k 0) < n)) (t : List ℕ)
      (h : n ≤ length t) where
    steps : (k : ℕ) → k ≤ e → Labelled s pts ks n k (up_to (joined_by s pts ks n) k (set_up_to (λ i x. i) n t))
    unfolding up_to
    steps zero l = numbered t h
    steps (suc k) l =
        let r = steps k (omega arith) in
        let w = within k (omega arith) in
        by (level_at s pts ks k) (λ g. level-next k _ r w.0 w.1 g) (λ g. level-not k _ r w.0 w.1 g)

    pub labelled-is : Labelled s pts ks n e (labelled s pts ks n e t)
    unfolding labelled
    labelled-is = steps e (omega arith)
