-- Where each pair is a cut, one loop-free way at most leads from a point to another: where two ways part, both go on to the end and never
-- come back, so that the pairs other than the first step of one join its two ends. And a way with no step twice is loop-free: coming
-- back to a point, it would join the ends of its step from there without that step.
-- Assumes nothing.
use mathlib.Core.Path.{◌≡◌, refl, sym, ap₂}
use mathlib.Core.Logic.{inl, inr}
use mathlib.Core.List.Memᴰ
use mathlib.Core.List.{List, [], ◌∷◌}
use Rattle.lists.specs.Member.{◌∈◌, here, there, Once}
use Rattle.lists.proofs.MemberLaws.{once-head}
use Rattle.joined.specs.Joined.{Link, others, Alike, Joined, stay, step}
use Rattle.joined.specs.Tree.{Cuts}
use Rattle.joined.specs.Way.{Way, stop, go, On, NoStepTwice}
use Rattle.joined.proofs.JoinedLaws.{one, then, back}
use Rattle.joined.proofs.OtherLaws.{alike-sym, alike-trans, alike-first, link-others, cut-link}
use Rattle.joined.proofs.WayLaws.{way-cast, way-last}

on_alike : {A : Type 0} {a b c d : A} (x : A) (ps : List A) → Alike c d a b → On c d x ps → On a b x ps
on_alike x [] e o = o
on_alike x (y ∷ ps) e (inl o) = inl (alike-trans (alike-sym e) o)
on_alike x (y ∷ ps) e (inr o) = inr (on_alike y ps e o)

module _ {A : Type 0} {T : List (A × A)} where
  -- a way that does not meet an end of a link does without it
  avoid : {a b x y : A} {ps : List A} (l : Link T a b) → Way T x ps y → (a ∈ (x ∷ ps) → ⊥) → Joined (others l) x y
  avoid l (stop e) n = stay e
  avoid l (go k w) n =
      step (link-others l (λ e. n (alike-first e (here refl) (there (here refl)))) k) (avoid l w (λ i. n (there i)))

  -- a way up to one of its points, by steps whose ends another list joins
  upto-joined : {U : List (A × A)} {x y z : A} {ps : List A} → x ∈ (y ∷ ps) → Way T y ps z →
      ((p q : A) → On p q y ps → Link T p q → Joined U p q) → Joined U y x
  upto-joined (here e) w h = stay (sym e)
  upto-joined (there m) (stop e) h = elim m [ ]
  upto-joined (there m) (go l w) h = then (h _ _ (inl (inl (refl, refl))) l) (upto-joined m w (λ p q o k. h p q (inr o) k))

module _ {A : Type 0} {T : List (A × A)} (cuts : Cuts T) where
  -- two ways that part at x
  parted : {x p q y : A} {ps qs : List A} → Link T x p → Way T p ps y → Link T x q → Way T q qs y →
      Once (x ∷ (p ∷ ps)) → Once (x ∷ (q ∷ qs)) → (p ≡ q → ⊥) → ⊥
  parted {x} {p} {q} l w k v o r n =
      cut-link cuts l (step (link-others l other k) (then (avoid l v r.0) (back (avoid l w o.0))))
    where
      other : Alike x q x p → ⊥
      other (inl e) = n (sym e.1)
      other (inr e) = r.0 (here (sym e.1))

  pub only-way : Discrete A → {x y : A} {ps qs : List A} → Way T x ps y → Way T x qs y → Once (x ∷ ps) → Once (x ∷ qs) → ps ≡ qs
  only-way same (stop e) (stop f) o r = refl
  only-way same (stop e) (go l w) o r = absurd (r.0 (Memᴰ.cast e (way-last w)))
  only-way same (go l w) (stop e) o r = absurd (o.0 (Memᴰ.cast e (way-last w)))
  only-way same (go {y = p} {ps = ps} l w) (go {y = q} {ps = qs} k v) o r =
      at (λ e. only-way same w (way-cast e v) o.1 (once-head e r.1)) (same p q)
    where
      at : (p ≡ q → ps ≡ qs) → Dec (p ≡ q) → p ∷ ps ≡ q ∷ qs
      at ih (yes e) = ap₂ (λ (h : A) (t : List A). h ∷ t) e (ih e)
      at ih (no e) = absurd (parted l w k v o r e)

  pub no_loop : {x y : A} {ps : List A} → Way T x ps y → NoStepTwice x ps → Once (x ∷ ps)
  no_loop (stop e) n = (λ m. elim m [ ], tt)
  no_loop (go {x = x} {y = y} {ps = ps} l w) n = (again, no_loop w n.1)
    where
      again : x ∈ (y ∷ ps) → ⊥
      again i = cut-link cuts l (back (upto-joined i w (λ p q o k. one (link-others l (λ e. n.0 (on_alike y ps e o)) k))))
