-- The way from a point to whichever end of an edge it meets first: there is one, it goes on over the edge to the other end, and in a tree
-- there is only one. It is the loop-free way to one end, cut short where that passes the other end.
-- Assumes nothing.
use mathlib.Core.Path.{◌≡◌, refl, sym, ap, ◌∙◌, subst}
use mathlib.Core.Logic.{inl, inr}
use mathlib.Core.List.Memᴰ
use mathlib.Core.List.{List, [], ◌∷◌, ◌++◌}
use Rattle.lists.specs.Member.{◌∈◌, here, Once}
use Rattle.lists.proofs.TestLaws.{either}
use Rattle.lists.proofs.MemberLaws.{is-in, once-end}
use Rattle.joined.specs.Joined.{Link, Alike, Joined}
use Rattle.joined.specs.Tree.{Cuts}
use Rattle.joined.specs.Way.{Way, stop, go, Free}
use Rattle.joined.specs.Exchange.{Toward, steps, Parted}
use Rattle.joined.proofs.JoinedLaws.{turn, firsts, seconds}
use Rattle.joined.proofs.WayLaws.{way-cast, way-last, joined_free, upto}
use Rattle.joined.proofs.OnlyWay.{only-way}

module _ {A : Type 0} {T : List (A × A)} where
  pub toward : Discrete A → {u a b : A} → (a ≡ b → ⊥) → Joined T u a → Toward T u a b
  toward same {u} {a} {b} n j = at (joined_free same j)
    where
      at : Free T u a → Toward T u a b
      at f = pick (is-in same b (u ∷ f.points))
        where
          pick : Dec (b ∈ (u ∷ f.points)) → Toward T u a b
          pick (no m) = record { near = a; far = b; ends = inl (refl, refl); free = f; short = m }
          pick (yes m) =
              let r = upto m f.way f.once (λ e. n (sym e)) in
              record { near = b; far = a; ends = inr (refl, refl); free = r.free; short = r.short }

  -- One step more at the end

  way_end : {x y z : A} {ps : List A} → Way T x ps y → Link T y z → Way T x (ps ++ (z ∷ [])) z
  way_end (stop e) l = rw e (go l (stop refl))
  way_end (go k w) l = go k (way_end w l)

  pub far-way : {u a b : A} → Link T a b → (w : Toward T u a b) → Way T u (w.free.points ++ (w.far ∷ [])) w.far
  far-way {u} {a} {b} l w = way_end w.free.way (edge w.ends)
    where
      edge : Alike w.near w.far a b → Link T w.near w.far
      edge (inl e) = rw (e.0, e.1) l
      edge (inr e) = rw (e.0, e.1) (turn l)

  pub far-once : {u a b : A} (w : Toward T u a b) → Once (u ∷ (w.free.points ++ (w.far ∷ [])))
  far-once {u} w = once-end (u ∷ w.free.points) w.far w.free.once w.short

  -- Steps

  pub steps-some : {x y : A} {ps : List A} → (x ≡ y → ⊥) → Way T x ps y → (e : A × A) × (e ∈ steps x ps)
  unfolding steps
  steps-some n (stop e) = absurd (n e)
  steps-some n (go {x = x} {y = y} l w) = ((x, y), here refl)

  pub parted-at : {x y p q : A} {ps : List A} → (p, q) ∈ steps x ps → Way T x ps y → Parted T x p q y ps
  unfolding steps
  parted-at m (stop e) = elim m [ ]
  parted-at {p = p} {q = q} m (go {x = x} {y = y} {z = z} {ps = ps} l w) =
      either
      (λ e. here-at (firsts e) (seconds e))
      (λ i. further (parted-at i w))
      (Memᴰ.cases_cons m)
    where
      here-at : p ≡ x → q ≡ y → Parted T x p q z (y ∷ ps)
      here-at e f = record {
        first = [];
        second = ps;
        before = stop (sym e);
        link = rw (e, f) l;
        after = way-cast f w;
        whole = ap (λ (h : A). h ∷ ps) (sym f);
      }

      further : Parted T y p q z ps → Parted T x p q z (y ∷ ps)
      further r = record {
        first = y ∷ r.first;
        second = r.second;
        before = go l r.before;
        link = r.link;
        after = r.after;
        whole = ap (λ (k : List A). y ∷ k) r.whole;
      }

  -- In a tree there is only one

  module _ (same : Discrete A) (cuts : Cuts T) {u a b : A} (l : Link T a b) where
    -- the same way, by its end
    same_points : {y z : A} {ps qs : List A} → Way T u ps y → Once (u ∷ ps) → Way T u qs z → Once (u ∷ qs) → y ≡ z → ps ≡ qs
    same_points {qs = qs} w o v r e = only-way cuts same w (subst (λ (p : A). Way T u qs p) (sym e) v) o r

    -- the near end of one is not the far end of the other
    crossed : (v w : Toward T u a b) → v.near ≡ w.far → v.far ≡ w.near → ⊥
    crossed v w e f =
        let longer : List A = w.free.points ++ (w.far ∷ []) in
        let r : v.free.points ≡ longer = same_points v.free.way v.free.once (far-way l w) (far-once w) e in
        let i : w.near ∈ (u ∷ longer) = Memᴰ.append_left (w.far ∷ []) (way-last w.free.way) in
        v.short (subst (λ (ps : List A). v.far ∈ (u ∷ ps)) (sym r) (Memᴰ.cast f i))

    same-near : (v w : Toward T u a b) → Alike v.near v.far a b → Alike w.near w.far a b → v.near ≡ w.near
    same-near v w (inl e) (inl f) = e.0 ∙ sym f.0
    same-near v w (inl e) (inr f) = absurd (crossed v w (e.0 ∙ sym f.1) (e.1 ∙ sym f.0))
    same-near v w (inr e) (inl f) = absurd (crossed v w (e.0 ∙ sym f.1) (e.1 ∙ sym f.0))
    same-near v w (inr e) (inr f) = e.0 ∙ sym f.0

    pub toward-only : (v w : Toward T u a b) → (v.near ≡ w.near) × (v.free.points ≡ w.free.points)
    toward-only v w =
        let e = same-near v w v.ends w.ends in
        (e, same_points v.free.way v.free.once w.free.way w.free.once e)
