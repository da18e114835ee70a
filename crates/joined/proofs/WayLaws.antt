-- Ways: joined points have one, a way is cut at one of its points, and loops are cut out of it without making it longer.
-- Assumes nothing.
use mathlib.Core.Path.{◌≡◌, refl, sym, ◌∙◌, subst}
use mathlib.Core.Logic.{◌⊎◌, inl, inr}
use mathlib.Core.List.Memᴰ
use mathlib.Core.List.{List, [], ◌∷◌}
use Prim.Native.Nat.{ℕ, ◌+◌, ◌≤◌}
use native.Mathlib.Omega.{arith}
use Rattle.lists.specs.Member.{◌∈◌, here, there, Among, Once}
use Rattle.lists.proofs.TestLaws.{either}
use Rattle.lists.proofs.MemberLaws.{once-head, is-in}
use Rattle.joined.specs.Joined.{Link, Joined, stay, step}
use Rattle.joined.specs.Way.{Way, stop, go, Free, long, On, turned}
use Rattle.joined.proofs.JoinedLaws.{turn, then}

module _ {A : Type 0} where
  pub way-joined : {L : List (A × A)} {x y : A} {ps : List A} → Way L x ps y → Joined L x y
  way-joined (stop e) = stay e
  way-joined (go l w) = step l (way-joined w)

  pub joined-way : {L : List (A × A)} {x y : A} → Joined L x y → (ps : List A) × Way L x ps y
  joined-way (stay e) = ([], stop e)
  joined-way (step {y = y} l j) = let w = joined-way j in (y ∷ w.0, go l w.1)

  pub way-cast : {L : List (A × A)} {x y z : A} {ps : List A} → x ≡ y → Way L y ps z → Way L x ps z
  way-cast e (stop f) = stop (e ∙ f)
  way-cast e (go l w) = rw e (go l w)

  pub way-last : {L : List (A × A)} {x y : A} {ps : List A} → Way L x ps y → y ∈ (x ∷ ps)
  way-last (stop e) = here (sym e)
  way-last (go l w) = there (way-last w)

  -- links of another list
  pub way-linked : {L M : List (A × A)} → ((x y : A) → Link L x y → Link M x y) → {x y : A} {ps : List A} → Way L x ps y → Way M x ps y
  way-linked h (stop e) = stop e
  way-linked h (go l w) = go (h _ _ l) (way-linked h w)

  pub way-more : {L M : List (A × A)} → Among L M → {x y : A} {ps : List A} → Way L x ps y → Way M x ps y
  way-more h w = way-linked (λ x y l. either (λ m. inl (h (x, y) m)) (λ m. inr (h (y, x) m)) l) w

  -- a way whose links, between points on it, another list joins
  pub along : {T U : List (A × A)} {x y : A} {ps : List A} → Way T x ps y →
      ((p q : A) → p ∈ (x ∷ ps) → q ∈ (x ∷ ps) → Link T p q → Joined U p q) → Joined U x y
  along (stop e) h = stay e
  along (go l w) h =
      then (h _ _ (here refl) (there (here refl)) l) (along w (λ p q i k m. h p q (there i) (there k) m))

  -- Cutting a way at one of its points

  pub record Upto (T : List (A × A)) (x y z : A) (ps : List A) : Type 0 where
    pub free : Free T x y
    pub part : Among (x ∷ free.points) (x ∷ ps)
    pub short : z ∈ (x ∷ free.points) → ⊥

  -- the start of a loop-free way, up to one of its points that is not the last
  pub upto : {T : List (A × A)} {y z x : A} {ps : List A} → y ∈ (x ∷ ps) → Way T x ps z → Once (x ∷ ps) → (y ≡ z → ⊥) → Upto T x y z ps
  upto {x = x} (here e) w o n = record {
    free = record { points = []; way = stop (sym e); once = (λ m. elim m [ ], tt) };
    part = λ p m. either (λ k. here k) (λ i. elim i [ ]) (Memᴰ.cases_cons m);
    short = λ m. either (λ k. n (e ∙ sym k)) (λ i. elim i [ ]) (Memᴰ.cases_cons m);
  }
  upto (there m) (stop e) o n = elim m [ ]
  upto (there m) (go {y = q} l w) o n =
      let r = upto m w o.1 n in
      record {
        free = record { points = q ∷ r.free.points; way = go l r.free.way; once = (λ i. o.0 (r.part _ i), r.free.once) };
        part = λ p i. either (λ k. here k) (λ k. there (r.part p k)) (Memᴰ.cases_cons i);
        short = λ i. either (λ k. o.0 (Memᴰ.cast (sym k) (way-last w))) r.short (Memᴰ.cases_cons i);
      }

  -- Cutting loops out of a way

  -- a loop-free way that is no longer than a number
  pub record Short (L : List (A × A)) (d : A → A → ℕ) (x y : A) (most : ℕ) : Type 0 where
    pub free : Free L x y
    pub within : long d x free.points ≤ most

  module _ {L : List (A × A)} (d : A → A → ℕ) where
    -- the rest of a loop-free way, from one of its points on
    onward : {x y z : A} {ps : List A} → x ∈ (y ∷ ps) → Way L y ps z → Once (y ∷ ps) → Short L d x z (long d y ps)
    unfolding long
    onward {ps = ps} (here e) w o = record {
      free = record { points = ps; way = way-cast e w; once = once-head e o };
      within = rw e (omega arith);
    }
    onward (there m) (stop e) o = elim m [ ]
    onward (there m) (go l w) o = let r = onward m w o.1 in record { free = r.free; within = omega (arith, r.within) }

    pub loop-free : Discrete A → {x y : A} {ps : List A} → Way L x ps y → Short L d x y (long d x ps)
    unfolding long
    loop-free same (stop e) = record { free = record { points = []; way = stop e; once = (λ m. elim m [ ], tt) }; within = omega arith }
    loop-free same {y = z} (go {x = x} {y = y} {ps = ps} l w) = at (loop-free same w)
      where
        at : Short L d y z (long d y ps) → Short L d x z (d x y + long d y ps)
        at r = pick (is-in same x (y ∷ r.free.points))
          where
            pick : Dec (x ∈ (y ∷ r.free.points)) → Short L d x z (d x y + long d y ps)
            pick (no m) = record {
              free = record { points = y ∷ r.free.points; way = go l r.free.way; once = (m, r.free.once) };
              within = omega (arith, r.within);
            }
            pick (yes m) =
                let s = onward m r.free.way r.free.once in
                record { free = s.free; within = omega (arith, r.within, s.within) }

  pub joined_free : Discrete A → {L : List (A × A)} {x y : A} → Joined L x y → Free L x y
  joined_free same j = (loop-free (λ p q. 0) same (joined-way j).1).free

  -- A way turned round

  pub of-turned-way : (x : A) (ps qs : List A) (z : A) → z ∈ turned x ps qs → (z ∈ (x ∷ ps)) ⊎ (z ∈ qs)
  unfolding turned
  of-turned-way x [] qs z m = inr m
  of-turned-way x (y ∷ ps) qs z m =
      either (λ i. inl (there i)) (λ i. either (λ k. inl (here k)) inr (Memᴰ.cases_cons i)) (of-turned-way y ps (x ∷ qs) z m)

  module _ {L : List (A × A)} where
    pub turned-way : {x y z : A} {ps qs : List A} → Way L x ps y → Way L x qs z → Way L y (turned x ps qs) z
    unfolding turned
    turned-way (stop e) v = way-cast (sym e) v
    turned-way (go l w) v = turned-way w (go (turn l) v)

    pub turned-long : (d : A → A → ℕ) → ((a b : A) → d a b ≡ d b a) → {x y : A} {ps : List A} → Way L x ps y → (qs : List A) →
        long d y (turned x ps qs) ≡ long d x ps + long d x qs
    unfolding turned long
    turned-long d even (stop e) qs = rw e (omega arith)
    turned-long d even {x} (go {y = y} l w) qs = omega (arith, turned-long d even w (x ∷ qs), even x y)

    -- what follows its start is still on it
    pub turned_on : {x y : A} {ps : List A} → Way L x ps y → (qs : List A) (a b : A) → On a b x qs → On a b y (turned x ps qs)
    unfolding turned
    turned_on (stop e) qs a b o = subst (λ (z : A). On a b z qs) e o
    turned_on (go {x = x} l w) qs a b o = turned_on w (x ∷ qs) a b (inr o)

    -- and so is what is on it, the other way round
    pub turned-back : {x y : A} {ps : List A} → Way L x ps y → (qs : List A) (a b : A) → On a b x ps → On a b y (turned x ps qs)
    unfolding turned
    turned-back (stop e) qs a b o = absurd o
    turned-back (go {x = x} l w) qs a b (inl e) = turned_on w (x ∷ qs) a b (inl (either (λ k. inr k) (λ k. inl k) e))
    turned-back (go {x = x} l w) qs a b (inr o) = turned-back w (x ∷ qs) a b o

    -- a step is a link
    pub on-link : {x y : A} {ps : List A} → Way L x ps y → (a b : A) → On a b x ps → Link L a b
    on-link (stop e) a b o = absurd o
    on-link (go l w) a b (inl (inl e)) = rw (e.0, e.1) l
    on-link (go l w) a b (inl (inr e)) = rw (e.0, e.1) (turn l)
    on-link (go l w) a b (inr o) = on-link w a b o

    -- two loop-free ways from a point that share no other point
    pub turned-once : {x y : A} {ps : List A} → Way L x ps y → (qs : List A) → Once (x ∷ ps) → Once (x ∷ qs) →
        ((z : A) → z ∈ ps → z ∈ (x ∷ qs) → ⊥) → Once (y ∷ turned x ps qs)
    unfolding turned
    turned-once (stop e) qs o r h = once-head (sym e) r
    turned-once {x} (go {y = y} l w) qs o r h =
        turned-once w (x ∷ qs) o.1 (λ m. h y (here refl) m, r)
        (λ z i m. either (λ k. o.1.0 (Memᴰ.cast (sym k) i)) (h z (there i)) (Memᴰ.cases_cons m))
