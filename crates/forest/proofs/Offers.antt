-- What offers and passes do to labels: no label gets worse, and after a pass each label is as good as what its neighbours offered before.
-- Labels are compared by distance, then by root; stopping early changes nothing.
-- Assumes nothing.
use mathlib.Core.Path.{◌≡◌, refl, sym, ap, ◌∙◌}
use mathlib.Core.Bool.{true, false}
use mathlib.Core.List.Memᴰ
use mathlib.Core.List.{List, [], ◌∷◌}
use Prim.Native.Nat.{ℕ, zero, suc, ◌+◌, ◌≤◌, ◌<◌}
use native.Mathlib.Decide.{ℕ_discrete}
use native.Mathlib.Omega.{arith}
use borrow.Author.Tests.{ltb-true, ltb-false}
use lib.Dec.{ltb}
use lib.ListN.{length, length-set}
use lib.Seq.{get_or-set_same, get_or-set_other}
use Rattle.lists.specs.Member.{◌∈◌, here, there}
use Rattle.lists.proofs.TestLaws.{by, differ, either}
use Rattle.forest.specs.Edges.{Graph, one, two, len}
use Rattle.forest.specs.Labels.{Labels, far, root, better, gains, offer, relax_edge, relax, changes, settled}
use Rattle.forest.proofs.LabelLaws.{offer-yes, offer-no, still}

-- Labels compared

-- (f, r) is (g, s) or better
abbrev pub Lex : ℕ → ℕ → ℕ → ℕ → Type 0
Lex f r g s = (f ≤ g) × (g ≤ f → r ≤ s)

pub lex-same : {f r g s : ℕ} → f ≡ g → r ≡ s → Lex f r g s
lex-same e h = (omega arith, λ k. omega arith)

pub lex-then : {f r g s h q : ℕ} → Lex f r g s → Lex g s h q → Lex f r h q
lex-then {f} {r} {g} {s} {h} {q} a b = (
  omega (arith, a.0, b.0),
  λ k. both (a.1 (omega (arith, a.0, b.0)))
      (b.1 (omega (arith, a.0, b.0))),
)
  where
    both : r ≤ s → s ≤ q → r ≤ q
    both c d = omega arith

pub lex-more : {f r g s : ℕ} (d : ℕ) → Lex f r g s → Lex (f + d) r (g + d) s
lex-more d a = (omega (arith, a.0), λ k. a.1 (omega arith))

module _ (f r g s : ℕ) where
  better-yes : better f r g s ≡ true → Lex f r g s
  unfolding better
  better-yes e =
      by (ltb f g)
      (λ h. let l = ltb-true f g h in (omega arith, λ k. absurd (let z : ⊥ = omega arith in z)))
      (λ h. by (ltb g f)
      (λ i. differ (rw (better, h, i) at e) refl)
      (λ i. let l = ltb-true r s (rw (better, h, i) at e) in (omega (arith, ltb-false g f i), λ k. omega arith)))

  better-no : better f r g s ≡ false → Lex g s f r
  unfolding better
  better-no e =
      by (ltb f g)
      (λ h. differ refl (rw (better, h) at e))
      (λ h. by (ltb g f)
      (λ i. let l = ltb-true g f i in (omega arith, λ k. absurd (let z : ⊥ = omega arith in z)))
      (λ i. let l = ltb-false r s (rw (better, h, i) at e) in (omega (arith, ltb-false f g h), λ k. omega arith)))

-- the label of v is (g, s) or better
abbrev pub Best : Labels → ℕ → ℕ → ℕ → Type 0
Best t v g s = Lex (far t v) (root t v) g s

-- One offer

-- the tables have room for n vertices
pub record Sized (n : ℕ) (t : Labels) : Type 0 where
  pub fars : n ≤ length t.fars
  pub roots : n ≤ length t.roots

module _ (n u v d : ℕ) (t : Labels) (s : Sized n t) where
  pub sized-offer : Sized n (offer u v d t)
  sized-offer =
      by (gains u v d t)
      (λ e.
      rw (offer-yes u v d t e) (record {
        fars = omega (arith, length-set t.fars v (far t u + d), s.fars);
        roots = omega (arith, length-set t.roots v (root t u), s.roots);
      }))
      (λ e. rw (offer-no u v d t e) s)

  module _ (inside : v < n) where
    -- the label of w after the offer: as before, or v has taken what was offered
    pub data After (w : ℕ) : Type 0 where
      kept : far (offer u v d t) w ≡ far t w → root (offer u v d t) w ≡ root t w → After w
      taken : w ≡ v → Lex (far t u + d) (root t u) (far t v) (root t v) →
          far (offer u v d t) w ≡ far t u + d → root (offer u v d t) w ≡ root t u → After w

    hit-far : gains u v d t ≡ true → far (offer u v d t) v ≡ far t u + d
    hit-far e = ap (λ (l : Labels). far l v) (offer-yes u v d t e) ∙ get_or-set_same t.fars v (far t u + d) 0 (omega (arith, s.fars))

    hit-root : gains u v d t ≡ true → root (offer u v d t) v ≡ root t u
    hit-root e = ap (λ (l : Labels). root l v) (offer-yes u v d t e) ∙ get_or-set_same t.roots v (root t u) 0 (omega (arith, s.roots))

    pub after-offer : (w : ℕ) → After w
    unfolding gains
    after-offer w =
        by (gains u v d t)
        (λ e. pick e (ℕ_discrete w v))
        (λ e. kept (ap (λ (l : Labels). far l w) (offer-no u v d t e)) (ap (λ (l : Labels). root l w) (offer-no u v d t e)))
      where
        pick : gains u v d t ≡ true → Dec (w ≡ v) → After w
        pick e (yes h) =
            taken h (better-yes _ _ _ _ e) (ap (far (offer u v d t)) h ∙ hit-far e) (ap (root (offer u v d t)) h ∙ hit-root e)
        pick e (no h) =
            kept
            (ap (λ (l : Labels). far l w) (offer-yes u v d t e) ∙ get_or-set_other t.fars v w (far t u + d) 0 h)
            (ap (λ (l : Labels). root l w) (offer-yes u v d t e) ∙ get_or-set_other t.roots v w (root t u) 0 h)

    offer-falls : (w : ℕ) → Best (offer u v d t) w (far t w) (root t w)
    offer-falls w = at (after-offer w)
      where
        at : After w → Best (offer u v d t) w (far t w) (root t w)
        at (kept f r) = lex-same f r
        at (taken e l f r) = rw (f, r, e) l

    offer-meets : Best (offer u v d t) v (far t u + d) (root t u)
    unfolding gains
    offer-meets =
        by (gains u v d t)
        (λ e. lex-same (hit-far e) (hit-root e))
        (λ e. rw (offer-no u v d t e) (better-no (far t u + d) (root t u) (far t v) (root t v) e))

-- An edge's two offers

module _ (g : Graph) (n k : ℕ) (t : Labels) (s : Sized n t) where
  abbrev half : Labels
  half = offer (one g k) (two g k) (len g k) t

  pub sized-edge : Sized n (relax_edge g k t)
  unfolding relax_edge
  sized-edge = sized-offer n _ _ _ _ (sized-offer n _ _ _ t s)

  module _ (one_in : one g k < n) (two_in : two g k < n) where
    edge-falls : (w : ℕ) → Best (relax_edge g k t) w (far t w) (root t w)
    unfolding relax_edge
    edge-falls w =
        lex-then
        (offer-falls n (two g k) (one g k) (len g k) half (sized-offer n _ _ _ t s) one_in w)
        (offer-falls n (one g k) (two g k) (len g k) t s two_in w)

    edge-forth : Best (relax_edge g k t) (two g k) (far t (one g k) + len g k) (root t (one g k))
    unfolding relax_edge
    edge-forth =
        lex-then
        (offer-falls n (two g k) (one g k) (len g k) half (sized-offer n _ _ _ t s) one_in (two g k))
        (offer-meets n (one g k) (two g k) (len g k) t s two_in)

    edge-back : Best (relax_edge g k t) (one g k) (far t (two g k) + len g k) (root t (two g k))
    unfolding relax_edge
    edge-back =
        lex-then
        (offer-meets n (two g k) (one g k) (len g k) half (sized-offer n _ _ _ t s) one_in)
        (lex-more (len g k) (offer-falls n (one g k) (two g k) (len g k) t s two_in (two g k)))

-- A pass

-- the ends of these edges are below n
abbrev pub Within : Graph → ℕ → List ℕ → Type 0
Within g n ks = (k : ℕ) → k ∈ ks → (one g k < n) × (two g k < n)

module _ (g : Graph) (n : ℕ) where
  pub sized-relax : (ks : List ℕ) (t : Labels) → Sized n t → Sized n (relax g ks t)
  unfolding relax
  sized-relax [] t s = s
  sized-relax (k ∷ ks) t s = sized-relax ks (relax_edge g k t) (sized-edge g n k t s)

  relax-falls : (ks : List ℕ) (t : Labels) → Sized n t → Within g n ks → (w : ℕ) → Best (relax g ks t) w (far t w) (root t w)
  unfolding relax
  relax-falls [] t s h w = lex-same refl refl
  relax-falls (k ∷ ks) t s h w =
      let i = h k (here refl) in
      lex-then (relax-falls ks (relax_edge g k t) (sized-edge g n k t s) (λ j m. h j (there m)) w) (edge-falls g n k t s i.0 i.1 w)

  -- what edge j offers is met
  abbrev Met : Labels → Labels → ℕ → Type 0
  Met T t j = (Best T (two g j) (far t (one g j) + len g j) (root t (one g j)))
      × (Best T (one g j) (far t (two g j) + len g j) (root t (two g j)))

  pub relax-meets : (ks : List ℕ) (t : Labels) → Sized n t → Within g n ks → (j : ℕ) → j ∈ ks → Met (relax g ks t) t j
  unfolding relax
  relax-meets [] t s h j m = elim m [ ]
  relax-meets (k ∷ ks) t s h j m =
      let i = h k (here refl) in
      let s' = sized-edge g n k t s in
      let left : Within g n ks = λ l x. h l (there x) in
      let falls = relax-falls ks (relax_edge g k t) s' left in
      let before = edge-falls g n k t s i.0 i.1 in
      either
      (λ e.
      rw e (
        lex-then (falls (two g k)) (edge-forth g n k t s i.0 i.1),
        lex-then (falls (one g k)) (edge-back g n k t s i.0 i.1),
      ))
      (λ x.
      let r = relax-meets ks (relax_edge g k t) s' left j x in
      (lex-then r.0 (lex-more (len g j) (before (one g j))), lex-then r.1 (lex-more (len g j) (before (two g j)))))
      (Memᴰ.cases_cons m)

-- Passes

module _ (g : Graph) (ks : List ℕ) where
  -- k passes, whatever they change
  unfoldable pub rounds : ℕ → Labels → Labels
  rounds zero t = t
  rounds (suc k) t = relax g ks (rounds k t)

  rounds-shift : (k : ℕ) (t : Labels) → rounds k (relax g ks t) ≡ relax g ks (rounds k t)
  unfolding rounds
  rounds-shift zero t = refl
  rounds-shift (suc k) t = ap (relax g ks) (rounds-shift k t)

  rounds-still : (k : ℕ) (t : Labels) → relax g ks t ≡ t → rounds k t ≡ t
  unfolding rounds
  rounds-still zero t h = refl
  rounds-still (suc k) t h = ap (relax g ks) (rounds-still k t h) ∙ h

  -- to stop early changes nothing
  pub settled-rounds : (k : ℕ) (t : Labels) → settled k g ks t ≡ rounds k t
  unfolding settled rounds
  settled-rounds zero t = refl
  settled-rounds (suc k) t =
      by (changes g ks t)
      (λ e. rw (settled, e) (settled-rounds k (relax g ks t) ∙ rounds-shift k t))
      (λ e. rw (settled, e) (sym (rounds-still (suc k) t (still g ks t e))))

  module _ (n : ℕ) (t : Labels) (s : Sized n t) where
    pub sized-rounds : (k : ℕ) → Sized n (rounds k t)
    unfolding rounds
    sized-rounds zero = s
    sized-rounds (suc k) = sized-relax g n ks (rounds k t) (sized-rounds k)

    pub rounds-falls : Within g n ks → (k v : ℕ) → Best (rounds k t) v (far t v) (root t v)
    unfolding rounds
    rounds-falls h zero v = lex-same refl refl
    rounds-falls h (suc k) v = lex-then (relax-falls g n ks (rounds k t) (sized-rounds k) h v) (rounds-falls h k v)
