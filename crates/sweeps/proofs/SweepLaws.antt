-- A sweep packs its heights, so its number is a lower bound; and the links of the graph, what is left over them and the list of pins fix
-- it.
-- Assumes nothing.
use mathlib.Core.Path.{◌≡◌, refl, sym, ◌∙◌}
use mathlib.Core.Logic.{◌⊎◌, inl, inr}
use mathlib.Core.List.Memᴰ
use mathlib.Core.List.{List, [], ◌∷◌}
use Prim.Native.Nat.{ℕ, ◌-◌, ◌≤◌}
use native.Mathlib.Omega.{arith}
use Rattle.lists.specs.Member.{◌∈◌, here, there}
use Rattle.lists.specs.Total.{total}
use Rattle.lists.proofs.TestLaws.{either}
use Rattle.joined.specs.Joined.{Link}
use Rattle.joined.specs.Way.{long}
use Rattle.joined.specs.Cost.{Cost, lengths}
use Rattle.grid.specs.Walk.{Walk, stop, go}
use Rattle.grid.proofs.WalkLaws.{walk-map}
use Rattle.best.specs.Sets.{Edges, Reaches}
use Rattle.sweeps.specs.Raises.{Raise, raised, falls}
use Rattle.sweeps.specs.Sweep.{Nearest, Heights, lessened, Swept, last, raise}
use Rattle.sweeps.proofs.PackedLaws.{packed-bound, pins_raised}

module _ {A : Type 0} (L : A → A → Type 0) where
  -- One raise

  module _ {left : A → A → ℕ} {p : A} {t : ℕ} {h : A → ℕ} (s : Heights L left p t h) where
    pub ground : h p ≡ 0
    unfolding long
    ground = let z = s.least p [] (stop refl) in omega (arith, z)

    -- no edge is fallen over by more than is left of it
    pub fall-within : (v w : A) → L v w → h v - h w ≤ left v w
    unfolding long
    fall-within v w l = at (s.why w)
      where
        at : (h w ≡ t) ⊎ ((ps : List A) × (Walk L w ps p × (long left w ps ≡ h w))) → h v - h w ≤ left v w
        at (inl e) = omega (arith, e, s.most v)
        at (inr r) = omega (arith, r.1.1, s.least v (w ∷ r.0) (go l r.1.0))

    -- the points that the raise was to meet are at its height
    pub at_top : (Q : List A) → Nearest L left p Q t → (q : A) → q ∈ Q → h q ≡ t
    at_top Q n q m = at (s.why q)
      where
        at : (h q ≡ t) ⊎ ((ps : List A) × (Walk L q ps p × (long left q ps ≡ h q))) → h q ≡ t
        at (inl e) = e
        at (inr r) = omega (arith, r.1.1, s.most q, n.least q m r.0 r.1.0)

  -- All raises

  -- the raises of a sweep: packed, for pins of the list, of the sum n at the list's last pin
  pub record Packs (left : A → A → ℕ) (pins : List A) (n : ℕ) : Type 0 where
    pub raises : List (Raise A)
    pub grounded : (r : Raise A) → r ∈ raises → r.height r.pin ≡ 0
    pub within : (v w : A) → L v w → falls raises v w ≤ left v w
    pub root : A
    pub root_in : root ∈ pins
    pub among : (p : A) → p ∈ pins_raised raises → p ∈ pins
    pub sum : raised raises root ≡ n

  pub swept-packs : {left : A → A → ℕ} {pins : List A} {n : ℕ} → Swept L left pins n → Packs left pins n
  unfolding raised falls total lessened
  swept-packs (last {p = p}) = record {
    raises = [];
    grounded = λ r m. elim m [ ];
    within = λ v w l. omega arith;
    root = p;
    root_in = here refl;
    among = λ q m. elim m [ ];
    sum = refl;
  }
  swept-packs (raise {left = left} {p = p} {q = q} {Q = Q} t h {n = n} near s more) =
      let k = swept-packs more in
      let first : Raise A = record { pin = p; height = h } in
      record {
        raises = first ∷ k.raises;
        grounded = λ r m. either (λ e. rw e (ground s)) (k.grounded r) (Memᴰ.cases_cons m);
        within = λ v w l. omega (arith, fall-within s v w l, k.within v w l);
        root = k.root;
        root_in = there k.root_in;
        among = λ x m. either (λ e. here e) (λ i. there (k.among x i)) (Memᴰ.cases_cons m);
        sum = omega (arith, k.sum, at_top s (q ∷ Q) near k.root k.root_in);
      }

-- THE BOUND: no edges of the graph that join the pins cost less
pub swept-bound : {A : Type 0} → Discrete A → (G : List (A × A)) → {d : A → A → ℕ} → Cost d → {pins : List A} {n : ℕ} →
    Swept (Link G) d pins n → (F : List (A × A)) → Edges G F → ((p : A) → p ∈ pins → Reaches F p pins) → n ≤ lengths d F
swept-bound same G {d} metric s F edges joins =
    let k = swept-packs (Link G) s in
    omega (
      arith,
      k.sum,
      packed-bound same G d metric k.raises record { grounded = k.grounded; within = k.within } F edges k.root
          (λ p m. joins k.root k.root_in p (k.among p m)),
    )

-- ONE NUMBER: the links of the graph and what is left over them fix it

module _ {A : Type 0} (L K : A → A → Type 0) where
  -- the same links, with as much left over each
  pub record Alike (f g : A → A → ℕ) : Type 0 where
    pub to : (v w : A) → L v w → K v w
    pub from : (v w : A) → K v w → L v w
    pub as-much : (v w : A) → L v w → f v w ≡ g v w

  module _ {f g : A → A → ℕ} (a : Alike f g) where
    long_same : {x y : A} {ps : List A} → Walk L x ps y → long f x ps ≡ long g x ps
    unfolding long
    long_same (stop e) = refl
    long_same (go {x = x} {y = y} l w) = omega (arith, a.as-much x y l, long_same w)

    there-way : {x y : A} {ps : List A} → Walk L x ps y → Walk K x ps y
    there-way w = walk-map a.to w

    back-way : {x y : A} {ps : List A} → Walk K x ps y → Walk L x ps y
    back-way w = walk-map a.from w

    nearest-same : {p : A} {Q : List A} {s t : ℕ} → Nearest L f p Q s → Nearest K g p Q t → s ≡ t
    nearest-same m n =
        omega (
          arith,
          m.costs,
          n.costs,
          m.least n.met n.among n.points (back-way n.walk),
          n.least m.met m.among m.points (there-way m.walk),
          long_same m.walk,
          long_same (back-way n.walk),
        )

    heights-same : {p : A} {t : ℕ} {h k : A → ℕ} → Heights L f p t h → Heights K g p t k → (v : A) → h v ≡ k v
    heights-same {p} {t} {h} {k} m n v = at (m.why v) (n.why v)
      where
        at : (h v ≡ t) ⊎ ((ps : List A) × (Walk L v ps p × (long f v ps ≡ h v))) →
            (k v ≡ t) ⊎ ((ps : List A) × (Walk K v ps p × (long g v ps ≡ k v))) → h v ≡ k v
        at (inl e) (inl i) = e ∙ sym i
        at (inl e) (inr r) =
            omega (arith, e, n.most v, r.1.1, m.least v r.0 (back-way r.1.0), long_same (back-way r.1.0))
        at (inr r) (inl i) =
            omega (arith, i, m.most v, r.1.1, n.least v r.0 (there-way r.1.0), long_same r.1.0)
        at (inr r) (inr u) =
            omega (
              arith,
              r.1.1,
              u.1.1,
              m.least v u.0 (back-way u.1.0),
              long_same (back-way u.1.0),
              n.least v r.0 (there-way r.1.0),
              long_same r.1.0,
            )

    less-same : {h k : A → ℕ} → ((v : A) → h v ≡ k v) → Alike (lessened L f h) (lessened K g k)
    unfolding lessened
    less-same {h} {k} e = record {
      to = a.to;
      from = a.from;
      as-much = λ v w l. rw (a.as-much v w l, e v, e w) refl;
    }

  pub swept_same : {f g : A → A → ℕ} {pins : List A} {m n : ℕ} → Alike f g → Swept L f pins m → Swept K g pins n → m ≡ n
  swept_same a last last = refl
  swept_same {g = g} a (raise {p = p} s h {n = i} near low more) (raise t k {n = j} near' low' more') =
      let e : s ≡ t = nearest-same a near near' in
      let l : Heights K g p s k = rw e low' in
      omega (arith, e, swept_same (less-same a (heights-same a low l)) more more')
