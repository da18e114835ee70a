-- Parents in one pass over the edges: an offer taken or not, what both offers of an edge are to each vertex's scan, one more edge, the end;
-- and what a scan finds: a step that leads, over an edge of the graph.
-- Assumes nothing.
use mathlib.Core.Path.{◌≡◌, refl, sym, ap, ap₂, ◌∙◌}
use mathlib.Core.Bool.{true, false, ◌&&◌}
use mathlib.Core.Logic.{◌⊎◌, inl, inr}
use mathlib.Core.List.Memᴰ
use mathlib.Core.List.{List, [], ◌∷◌}
use Prim.Native.Nat.{ℕ, ◌+◌, ◌-◌, ◌≤◌, ◌<◌}
use native.Mathlib.Omega.{arith}
use lib.Dec.{ltb, eqb}
use lib.ListN.{length, get_or, length-set, length-replicate, get_or-replicate}
use lib.Seq.{get_or-set_same, get_or-set_other, ext_get_or}
use borrow.Author.Tests.{eq-eqb, eqb-true, eqb-false, lt-ltb, le-ltb, ltb-true, ltb-false}
use Rattle.lists.specs.Member.{◌∈◌, here, there}
use Rattle.lists.proofs.TestLaws.{by, either, and_left, and_right}
use Rattle.joined.specs.Joined.{Alike}
use Rattle.forest.specs.declared.Step.{Step}
use Rattle.forest.specs.Bounds.{point_bound, edge_bound}
use Rattle.forest.specs.Edges.{Graph, one, two, len, from, filled, Fits}
use Rattle.forest.specs.Labels.{Labels, far, root}
use Rattle.forest.specs.Parents.{step, none, leads, nearer, through, parent_among, parent, adopt_by}
use Rattle.forest.specs.Parents.{Parents, parents, up, via, orphans, adopted, parented, Falls}
use Rattle.forest.proofs.EdgeLaws.{all_left, from_next, from-end, below-from, length-filled, filled-here, filled-beyond}

-- An edge at a time

-- the step from v that a table of parents holds
abbrev at : Parents → ℕ → Step
at p v = step (up p v) (via p v)

-- tables of as many entries as there are points
abbrev Sized : Parents → Type 0
Sized p = (length p.ups ≡ point_bound) × (length p.vias ≡ point_bound)

module _ (n : ℕ) (t : Labels) (v w k d : ℕ) (p : Parents) where
  adopt-sized : Sized p → Sized (adopt_by n t v w k d p)
  unfolding adopt_by
  adopt-sized z =
      by (ltb v n && (leads t w v d && ltb w (up p v)))
      (λ e. rw (adopt_by, e) (length-set p.ups v w ∙ z.0, length-set p.vias v k ∙ z.1))
      (λ e. rw (adopt_by, e) z)

  -- v gets the nearer step
  adopt-here : Sized p → v < n → v < point_bound → at (adopt_by n t v w k d p) v ≡ nearer t v w k d (at p v)
  unfolding adopt_by nearer
  adopt-here z h i =
      by (leads t w v d && ltb w (up p v))
      (λ e.
      rw (adopt_by, nearer, lt-ltb v n h, e)
      (ap₂ step (get_or-set_same p.ups v w 0 (omega (arith, z.0))) (get_or-set_same p.vias v k 0 (omega (arith, z.1)))))
      (λ e. rw (adopt_by, nearer, lt-ltb v n h, e) refl)

  -- every other vertex keeps its step, and so does one that is not below n
  adopt-other : (x : ℕ) → (x ≡ v → ⊥) → at (adopt_by n t v w k d p) x ≡ at p x
  unfolding adopt_by
  adopt-other x o =
      by (ltb v n && (leads t w v d && ltb w (up p v)))
      (λ e. rw (adopt_by, e) (ap₂ step (get_or-set_other p.ups v x w 0 o) (get_or-set_other p.vias v x k 0 o)))
      (λ e. rw (adopt_by, e) refl)

  adopt-beyond : (x : ℕ) → n ≤ x → at (adopt_by n t v w k d p) x ≡ at p x
  unfolding adopt_by
  adopt-beyond x h =
      by (eqb x v)
      (λ e. let q = eqb-true x v e in let l : n ≤ v = omega arith in rw (adopt_by, le-ltb v n l) refl)
      (λ e. adopt-other x (eqb-false x v e))

-- an offer made twice is made once
module _ (t : Labels) (v w k d : ℕ) where
  nearer-taken : (best : Step) → (leads t w v d && ltb w best.to) ≡ true → nearer t v w k d best ≡ step w k
  unfolding nearer
  nearer-taken best e = rw (nearer, e) refl

  nearer-left : (best : Step) → (leads t w v d && ltb w best.to) ≡ false → nearer t v w k d best ≡ best
  unfolding nearer
  nearer-left best e = rw (nearer, e) refl

  nearer-twice : (best : Step) → nearer t v w k d (nearer t v w k d best) ≡ nearer t v w k d best
  nearer-twice best =
      by (leads t w v d && ltb w best.to)
      (λ e.
      let l = and_left (leads t w v d) (ltb w best.to) e in
      let own : (leads t w v d && ltb w w) ≡ false = rw (l, le-ltb w w (omega arith)) refl in
      ap (nearer t v w k d) (nearer-taken best e) ∙ nearer-left (step w k) own ∙ sym (nearer-taken best e))
      (λ e. ap (nearer t v w k d) (nearer-left best e))

-- both offers of edge k, from a to b: what the scan of any vertex makes of it
module _ (n : ℕ) (t : Labels) (a b k d : ℕ) (p : Parents) (z : Sized p) where
  abbrev once : Parents
  once = adopt_by n t a b k d p

  abbrev both : Parents
  both = adopt_by n t b a k d once

  adopt-both : (v : ℕ) → v < n → v < point_bound → at both v ≡ through t v a b k d (at p v)
  unfolding through
  adopt-both v h i =
      by (eqb v a)
      (λ e.
      let q = eqb-true v a e in
      let first : at once v ≡ nearer t v b k d (at p v) = rw q (adopt-here n t a b k d p z (rw q at h) (rw q at i)) in
      by (eqb v b)
      (λ f. let r = eqb-true v b f in rw (through, e) (twice q r h i first))
      (λ f. rw (through, e) (adopt-other n t b a k d once v (eqb-false v b f) ∙ first)))
      (λ e.
      let still = adopt-other n t a b k d p v (eqb-false v a e) in
      by (eqb v b)
      (λ f.
      let r = eqb-true v b f in
      let z' = adopt-sized n t a b k d p z in
      let next : at both v ≡ nearer t v a k d (at once v) = rw r (adopt-here n t b a k d once z' (rw r at h) (rw r at i)) in
      rw (through, e, f) (next ∙ ap (nearer t v a k d) still))
      (λ f. rw (through, e, f) (adopt-other n t b a k d once v (eqb-false v b f) ∙ still)))
    where
      twice : v ≡ a → v ≡ b → v < n → v < point_bound → at once v ≡ nearer t v b k d (at p v) → at both v ≡ nearer t v b k d (at p v)
      twice q r l j first =
          let z' = adopt-sized n t a b k d p z in
          let next : at both v ≡ nearer t v a k d (at once v) = rw r (adopt-here n t b a k d once z' (rw r at l) (rw r at j)) in
          let same : a ≡ b = sym q ∙ r in
          next ∙ ap (λ (x : ℕ). nearer t v x k d (at once v)) same ∙ ap (nearer t v b k d) first ∙ nearer-twice t v b k d (at p v)

-- In one pass

-- the edges from k on are still to come: each vertex's scan goes on from the step that the tables hold
pub record Adopting (g : Graph) (n : ℕ) (t : Labels) (k : ℕ) (p : Parents) : Type 0 where
  pub sized : Sized p
  pub inside : (v : ℕ) → v < n → parent_among g t v (from k (g.count - k)) (at p v) ≡ parent g t v
  pub beyond : (v : ℕ) → n ≤ v → at p v ≡ at orphans v

module _ (g : Graph) (n : ℕ) (t : Labels) (small : n ≤ point_bound) where
  pub adopt-none : (p : Parents) → p ≡ orphans → Adopting g n t 0 p
  unfolding parent
  adopt-none p e =
      rw e (record {
        sized = (length-replicate point_bound point_bound, length-replicate point_bound edge_bound);
        inside = λ v h. ap₂ (parent_among g t v) (ap (from 0) (all_left g.count)) (orphan v (omega arith));
        beyond = λ v h. refl;
      })
    where
      orphan : (v : ℕ) → v < point_bound → at orphans v ≡ none
      orphan v i = ap₂ step (get_or-replicate point_bound v point_bound 0 i) (get_or-replicate point_bound v edge_bound 0 i)

  module _ (k : ℕ) (p : Parents) (o : Adopting g n t k p) where
    pub adopt-more : (p' p'' : Parents) → k < g.count → p' ≡ adopt_by n t (one g k) (two g k) k (len g k) p →
        p'' ≡ adopt_by n t (two g k) (one g k) k (len g k) p' → Adopting g n t (k + 1) p''
    unfolding parent_among
    adopt-more p' p'' h e f =
        rw (f, e) (record {
          sized = adopt-sized n t _ _ k _ _ (adopt-sized n t _ _ k _ p o.sized);
          inside = λ v i. next v i;
          beyond = λ v i. adopt-beyond n t _ _ k _ _ v i ∙ adopt-beyond n t _ _ k _ p v i ∙ o.beyond v i;
        })
      where
        next : (v : ℕ) → v < n →
            parent_among g t v (from (k + 1) (g.count - (k + 1))) (at (both n t (one g k) (two g k) k (len g k) p o.sized) v)
            ≡ parent g t v
        next v i =
            ap (parent_among g t v (from (k + 1) (g.count - (k + 1))))
            (adopt-both n t (one g k) (two g k) k (len g k) p o.sized v i (omega arith))
            ∙ ap (λ (l : List ℕ). parent_among g t v l (at p v)) (sym (from_next k g.count h)) ∙ o.inside v i

    pub adopt-end : g.count ≤ k → p ≡ parented g n t
    unfolding parented adopted parent_among
    adopt-end h =
        ap₂ parents
        (ext_get_or 0 _ _ (o.sized.0 ∙ sym (length-filled _ 0 n _ ∙ length-replicate point_bound point_bound)) (λ v i. ups v))
        (ext_get_or 0 _ _ (o.sized.1 ∙ sym (length-filled _ 0 n _ ∙ length-replicate point_bound edge_bound)) (λ v i. vias v))
      where
        found : (v : ℕ) → v < n → at p v ≡ parent g t v
        found v i = ap (λ (l : List ℕ). parent_among g t v l (at p v)) (sym (from-end k g.count h)) ∙ o.inside v i

        ups : (v : ℕ) → up p v ≡ get_or (filled (λ w. (parent g t w).to) 0 n orphans.ups) v 0
        ups v =
            by (ltb v n)
            (λ e.
            let i = ltb-true v n e in
            ap (λ (s : Step). s.to) (found v i)
            ∙ sym (filled-here _ n orphans.ups v (omega (arith, length-replicate point_bound point_bound)) i))
            (λ e.
            let i = ltb-false v n e in
            ap (λ (s : Step). s.to) (o.beyond v i) ∙ sym (filled-beyond (λ w. (parent g t w).to) n orphans.ups v i))

        vias : (v : ℕ) → via p v ≡ get_or (filled (λ w. (parent g t w).via) 0 n orphans.vias) v 0
        vias v =
            by (ltb v n)
            (λ e.
            let i = ltb-true v n e in
            ap (λ (s : Step). s.via) (found v i)
            ∙ sym (filled-here _ n orphans.vias v (omega (arith, length-replicate point_bound edge_bound)) i))
            (λ e.
            let i = ltb-false v n e in
            ap (λ (s : Step). s.via) (o.beyond v i) ∙ sym (filled-beyond (λ w. (parent g t w).via) n orphans.vias v i))

-- What the scan finds

module _ (g : Graph) (t : Labels) (v : ℕ) where
  -- w has v's root, and a shortest way of v runs through w, over an edge of length d
  abbrev pub Leading : ℕ → ℕ → Type 0
  Leading w d = (far t w + d ≡ far t v) × (root t w ≡ root t v)

  leads-is : (w d : ℕ) → leads t w v d ≡ true → Leading w d
  unfolding leads
  leads-is w d e = (
    eqb-true _ _ (and_right (eqb (root t w) (root t v)) (eqb (far t w + d) (far t v)) e),
    eqb-true _ _ (and_left (eqb (root t w) (root t v)) (eqb (far t w + d) (far t v)) e),
  )

  leads-of : (w d : ℕ) → Leading w d → leads t w v d ≡ true
  unfolding leads
  leads-of w d f = rw (eq-eqb _ _ f.0, eq-eqb _ _ f.1) refl

  -- w is v's neighbour over edge k, and may be its parent
  abbrev pub Candidate : ℕ → ℕ → Type 0
  Candidate w k = Alike v w (one g k) (two g k) × Leading w (len g k)

  -- r is the step to the smallest candidate over the edges ks, or the best step before them
  pub record Found (ks : List ℕ) (best r : Step) : Type 0 where
    pub low : r.to ≤ best.to
    pub least : (k : ℕ) → k ∈ ks → (w : ℕ) → Candidate w k → r.to ≤ w
    pub is : (r ≡ best) ⊎ ((r.via ∈ ks) × Candidate r.to r.via)

  abbrev over : ℕ → Step → Step
  over k best = through t v (one g k) (two g k) k (len g k) best

  none_found : (k : ℕ) (best : Step) → ((w : ℕ) → Candidate w k → ⊥) → Found (k ∷ []) best best
  none_found k best h = record {
    low = omega arith;
    least = λ j m w c. absurd (h w (rw (Memᴰ.eq_of_singleton m) at c));
    is = inl refl;
  }

  nearer-found : (w k : ℕ) (best : Step) → Alike v w (one g k) (two g k) → ((u : ℕ) → Candidate u k → u ≡ w) →
      Found (k ∷ []) best (nearer t v w k (len g k) best)
  unfolding nearer
  nearer-found w k best a only =
      by (leads t w v (len g k) && ltb w best.to)
      (λ e.
      let l = ltb-true w best.to (and_right (leads t w v (len g k)) (ltb w best.to) e) in
      rw (nearer, e) (record {
        low = omega arith;
        least = λ j m u c. (let z : u ≡ w = only u (rw (Memᴰ.eq_of_singleton m) at c) in omega arith);
        is = inr (here refl, (a, leads-is w (len g k) (and_left (leads t w v (len g k)) (ltb w best.to) e)));
      }))
      (λ e.
      rw (nearer, e) (record {
        low = omega arith;
        least = λ j m u c. (
            let d = rw (Memᴰ.eq_of_singleton m) at c in
            let z : u ≡ w = only u d in
            let f : leads t w v (len g k) ≡ true = leads-of w (len g k) (rw z at d.1) in
            let n : best.to ≤ w = ltb-false w best.to (rw f at e) in
            omega arith
            );
        is = inl refl;
      }))

  through-found : (k : ℕ) (best : Step) → 1 ≤ len g k → Found (k ∷ []) best (over k best)
  unfolding through
  through-found k best some =
      by (eqb v (one g k))
      (λ h. rw (through, h) (nearer-found (two g k) k best (inl (eqb-true v (one g k) h, refl))
      (λ u c. other-end u (eqb-true v (one g k) h) c)))
      (λ h. by (eqb v (two g k))
      (λ i.
      rw (through, h, i) (nearer-found (one g k) k best (inr (eqb-true v (two g k) i, refl))
      (λ u c. either (λ e. absurd (eqb-false v (one g k) h e.0)) (λ e. e.1) c.0)))
      (λ i.
      rw (through, h, i) (none_found k best
      (λ u c. either (λ e. eqb-false v (one g k) h e.0) (λ e. eqb-false v (two g k) i e.0) c.0))))
    where
      other-end : (u : ℕ) → v ≡ one g k → Candidate u k → u ≡ two g k
      other-end u h (inl e, f) = e.1
      other-end u h (inr e, f) = absurd (let s : far t u ≡ far t v = ap (far t) (e.1 ∙ sym h) in let z : ⊥ = omega (arith, s, f.0) in z)

  scan-found : (ks : List ℕ) → ((k : ℕ) → k ∈ ks → 1 ≤ len g k) → (best : Step) → Found ks best (parent_among g t v ks best)
  unfolding parent_among
  scan-found [] h best = record { low = omega arith; least = λ k m. elim m [ ]; is = inl refl }
  scan-found (k ∷ ks) h best =
      let a = through-found k best (h k (here refl)) in
      let b = scan-found ks (λ j m. h j (there m)) (over k best) in
      record {
        low = omega (arith, a.low, b.low);
        least = λ j m w c.
            either (λ e. (let z = a.least j (here e) w c in omega (arith, z, b.low))) (λ i. b.least j i w c) (Memᴰ.cases_cons m);
        is = either (λ e. first e a.is) (λ c. inr (there c.0, c.1)) b.is;
      }
    where
      first : parent_among g t v ks (over k best) ≡ over k best →
          (over k best ≡ best)
          ⊎ (((over k best).via ∈ (k ∷ [])) × Candidate (over k best).to (over k best).via) →
          (parent_among g t v ks (over k best) ≡ best)
          ⊎ (((parent_among g t v ks (over k best)).via ∈ (k ∷ ks))
          × Candidate (parent_among g t v ks (over k best)).to (parent_among g t v ks (over k best)).via)
      first e (inl f) = inl (e ∙ f)
      first e (inr c) = inr (rw e (here (Memᴰ.eq_of_singleton c.0), c.1))

  pub parent-found : Fits g → Found (from 0 g.count) none (parent g t v)
  unfolding parent
  parent-found fits = scan-found (from 0 g.count) (λ k m. fits.some k (below-from g.count k m)) none

-- The tables of parents

module _ (g : Graph) (n : ℕ) (t : Labels) (small : n ≤ point_bound) where
  module _ (v : ℕ) (h : v < n) where
    pub parented-up : up (parented g n t) v ≡ (parent g t v).to
    unfolding parented adopted
    parented-up = filled-here (λ w. (parent g t w).to) n orphans.ups v (omega (arith, length-replicate point_bound point_bound)) h

    pub parented-via : via (parented g n t) v ≡ (parent g t v).via
    unfolding parented adopted
    parented-via = filled-here (λ w. (parent g t w).via) n orphans.vias v (omega (arith, length-replicate point_bound edge_bound)) h

  past-none : (v : ℕ) → n ≤ v → v < point_bound → up (parented g n t) v ≡ point_bound
  unfolding parented adopted
  past-none v h i = filled-beyond (λ w. (parent g t w).to) n orphans.ups v h ∙ get_or-replicate point_bound v point_bound 0 i

  -- a vertex that has a parent is below n, and its step is what the scan found
  pub has-parent : (v : ℕ) → v < point_bound → up (parented g n t) v < point_bound → v < n
  has-parent v h u = by (ltb v n) (λ e. ltb-true v n e) (λ e. absurd (let z : ⊥ = omega (arith, past-none v (ltb-false v n e) h) in z))

  pub falls-parented : Fits g → Falls g.lengths t.fars (parented g n t)
  falls-parented fits = record { edge = λ v h u. (step_is v h u).0; some = λ v h u. (step_is v h u).1; falls = λ v h u. (step_is v h u).2 }
    where
      step_is : (v : ℕ) → v < point_bound → up (parented g n t) v < point_bound →
          (via (parented g n t) v < edge_bound)
          × (1 ≤ len g (via (parented g n t) v))
          × (far t (up (parented g n t) v) + len g (via (parented g n t) v) ≡ far t v)
      step_is v h u =
          let i = has-parent v h u in
          let a = parented-up v i in
          let b = parented-via v i in
          rw (a, b)
          (either
          (λ e. absurd (let z : (parent g t v).to ≡ point_bound = ap (λ (s : Step). s.to) e in let y : ⊥ = omega (arith, a) in y))
          (λ c. let k = below-from g.count _ c.0 in (omega (arith, k, fits.count), fits.some _ k, c.1.1.0))
          (parent-found g t v fits).is)
