-- G4, the rule of a pick, and that the pick is the one thing that it is true of. The scan is followed from the front: the rule holds of
-- the vertices seen so far and the best among them, and the next vertex comes after all of those, so on a tie the best stays.
-- Assumes nothing.
use mathlib.Core.Path.{◌≡◌, refl, sym, ap}
use mathlib.Core.Bool.{Bool, true, false, ◌&&◌}
use mathlib.Core.Logic.{◌⊎◌, inl, inr}
use mathlib.Core.List.Memᴰ
use mathlib.Core.List.{List, [], ◌∷◌, reverse, reverse_aux}
use Prim.Native.Nat.{◌≤◌, ◌<◌}
use native.Mathlib.Omega.{arith}
use borrow.Author.Tests.{ltb-true, ltb-false}
use lib.Dec.{ltb}
use Rattle.lists.specs.Member.{◌∈◌, here, there, Among}
use Rattle.lists.specs.Sorted.{Ascending}
use Rattle.lists.proofs.TestLaws.{by, differ, either, and_left, and_right, and_both}
use Rattle.lists.proofs.MemberLaws.{in-reverse, of_reverse}
use Rattle.plane.specs.declared.Place.{Place}
use Rattle.plane.specs.declared.Macro.{Macro}
use Rattle.plane.specs.declared.Weights.{Weights}
use Rattle.plane.specs.Place.{before}
use Rattle.plane.specs.Cost.{cost}
use Rattle.plane.specs.Macro.{clear}
use Rattle.plane.proofs.PlaceLaws.{before-trans, before-irrefl}
use Rattle.picks.specs.declared.Quadrant.{Quadrant}
use Rattle.std.specs.Prelude.{Option, Some, None}
use Rattle.picks.specs.Pick.{within, nearer, better, pick_from, pick}

-- G4: v is before x in what u prefers, by cost and then by place
abbrev pub Preferred : Weights → Place → Place → Place → Type 0
Preferred w u v x = (cost w u v < cost w u x) ⊎ ((cost w u v ≡ cost w u x) × ((v ≡ x) ⊎ (before v x ≡ true)))

no-farther : (w : Weights) (u v x : Place) → Preferred w u v x → cost w u v ≤ cost w u x
no-farther w u v x (inl h) = omega arith
no-farther w u v x (inr h) = omega (arith, h.0)

preferred-one : (w : Weights) (u v x : Place) → Preferred w u v x → Preferred w u x v → v ≡ x
preferred-one w u v x (inl h) k = absurd (let z : ⊥ = omega (arith, no-farther w u x v k) in z)
preferred-one w u v x (inr h) (inl k) = absurd (let z : ⊥ = omega (arith, h.0) in z)
preferred-one w u v x (inr h) (inr k) =
    either (λ e. e)
    (λ e. either sym (λ f. differ (before-trans v x v e f) (before-irrefl v)) k.1) h.1

module _ (ms : List Macro) (q : Quadrant) (u : Place) where
  -- v may be picked
  pub record Fit (v : Place) : Type 0 where
    pub in-quadrant : within q u v ≡ true
    pub is-clear : clear u v ms ≡ true

module _ (w : Weights) (ms : List Macro) (q : Quadrant) (u : Place) where
  -- G4: in a quadrant u picks the nearest clear vertex, of several the smallest, or none
  pub record PicksAt (vs : List Place) (v : Place) : Type 0 where
    pub stands : v ∈ vs
    pub fit : Fit ms q u v
    pub least : (x : Place) → x ∈ vs → Fit ms q u x → Preferred w u v x

  abbrev pub Picks : List Place → Option Place → Type 0
  Picks vs (Some v) = PicksAt vs v
  Picks vs None = (x : Place) → x ∈ vs → Fit ms q u x → ⊥

  -- A turn of the scan

  abbrev offered : Option Place → Place → Bool
  offered best v = within q u v && (nearer w u v best && clear u v ms)

  offered-fit : (best : Option Place) (v : Place) → offered best v ≡ true → Fit ms q u v
  offered-fit best v e =
      let r = and_right (within q u v) _ e in
      record { in-quadrant = and_left _ (nearer w u v best && clear u v ms) e; is-clear = and_right (nearer w u v best) _ r }

  offered-nearer : (best : Option Place) (v : Place) → offered best v ≡ true → nearer w u v best ≡ true
  offered-nearer best v e = and_left _ (clear u v ms) (and_right (within q u v) _ e)

  fit-offered : (best : Option Place) (v : Place) → Fit ms q u v → nearer w u v best ≡ true → offered best v ≡ true
  fit-offered best v f n = and_both _ _ f.in-quadrant (and_both _ _ n f.is-clear)

  -- v is taken
  taken : (seen : List Place) (best : Option Place) (v : Place) → Picks seen best → offered best v ≡ true → PicksAt (v ∷ seen) v
  unfolding nearer
  taken seen best v h e = record {
    stands = here refl;
    fit = offered-fit best v e;
    least = λ x m f.
        either
        (λ k. inr (ap (cost w u) (sym k), inl (sym k)))
        (λ i. inl (nearest best h (offered-nearer best v e) x i f))
        (Memᴰ.cases_cons m);
  }
    where
      nearest : (best : Option Place) → Picks seen best → nearer w u v best ≡ true → (x : Place) → x ∈ seen → Fit ms q u x
          → cost w u v < cost w u x
      nearest None h n x i f = absurd (h x i f)
      nearest (Some b) h n x i f = omega (arith, ltb-true (cost w u v) (cost w u b) n, no-farther w u b x (h.least x i f))

  -- v is passed over
  passed : (seen : List Place) (best : Option Place) (v : Place)
      → ((x : Place) → x ∈ seen → before x v ≡ true) → Picks seen best → offered best v ≡ false → Picks (v ∷ seen) best
  unfolding nearer
  passed seen None v o h e =
      λ x m f. either (λ k. differ (rw (← k) (fit-offered None x f refl)) e) (λ i. h x i f) (Memᴰ.cases_cons m)
  passed seen (Some b) v o h e = record {
    stands = there h.stands;
    fit = h.fit;
    least = λ x m f. either (λ k. rw k (tied (rw k at f))) (λ i. h.least x i f) (Memᴰ.cases_cons m);
  }
    where
      tied : Fit ms q u v → Preferred w u b v
      tied f =
          by (ltb (cost w u v) (cost w u b))
          (λ n. differ (fit-offered (Some b) v f n) e)
          (λ n.
          by (ltb (cost w u b) (cost w u v))
          (λ k. inl (ltb-true _ _ k))
          (λ k. inr (omega (arith, ltb-false), inr (o b h.stands))))

  turn : (seen : List Place) (best : Option Place) (v : Place)
      → ((x : Place) → x ∈ seen → before x v ≡ true) → Picks seen best → Picks (v ∷ seen) (better w ms q u best v)
  unfolding better
  turn seen best v o h = by (offered best v) (λ e. rw e (taken seen best v h e)) (λ e. rw e (passed seen best v o h e))

  -- The whole scan

  scan : (vs seen : List Place) (best : Option Place)
      → Ascending before vs → ((x v : Place) → x ∈ seen → v ∈ vs → before x v ≡ true)
      → Picks seen best → Picks (reverse_aux vs seen) (pick_from w ms q u best vs)
  unfolding pick_from
  scan [] seen best a o h = h
  scan (v ∷ vs) seen best a o h =
      scan vs (v ∷ seen) (better w ms q u best v) a.1
      (λ x y i j. either (λ k. rw k (a.0 y j)) (λ l. o x y l (there j)) (Memᴰ.cases_cons i))
      (turn seen best v (λ x i. o x v i (here refl)) h)

  -- the rule speaks of what a list holds
  same_entries : (k l : List Place) → Among k l → Among l k → (p : Option Place) → Picks k p → Picks l p
  same_entries k l s t None h = λ x i f. h x (t x i) f
  same_entries k l s t (Some v) h = record { stands = s v h.stands; fit = h.fit; least = λ x i f. h.least x (t x i) f }

  pub pick_is : (vs : List Place) → Ascending before vs → Picks vs (pick w ms q u vs)
  unfolding pick
  pick_is vs a =
      same_entries (reverse vs) vs (of_reverse vs) (in-reverse vs) (pick w ms q u vs)
      (scan vs [] None a (λ x v i j. elim i [ ]) (λ x i f. elim i [ ]))

  -- only one answer makes the rule true
  one_answer : (vs : List Place) (p r : Option Place) → Picks vs p → Picks vs r → p ≡ r
  one_answer vs (Some v) (Some x) h k = ap Some (preferred-one w u v x (h.least x k.stands k.fit) (k.least v h.stands h.fit))
  one_answer vs (Some v) None h k = absurd (k v h.stands h.fit)
  one_answer vs None (Some x) h k = absurd (h x k.stands k.fit)
  one_answer vs None None h k = refl

  pub pick-only : (vs : List Place) → Ascending before vs → (p : Option Place) → Picks vs p → pick w ms q u vs ≡ p
  pick-only vs a p h = one_answer vs (pick w ms q u vs) p (pick_is vs a) h

  -- the two cases of a pick
  pub pick_at : (vs : List Place) → Ascending before vs → (v : Place) → pick w ms q u vs ≡ Some v → PicksAt vs v
  pick_at vs a v e = rw e at (pick_is vs a)

  pub pick-nothing : (vs : List Place) → Ascending before vs → pick w ms q u vs ≡ None → (x : Place) → x ∈ vs → Fit ms q u x → ⊥
  pick-nothing vs a e = rw e at (pick_is vs a)
