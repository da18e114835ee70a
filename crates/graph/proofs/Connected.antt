-- G7: the graph of every allowed net joins all its vertices. From a vertex with another one ahead of it some vertex ahead is clear, so it
-- picks one ahead: edges lead on to a vertex that has none ahead, since at each of them fewer vertices are. There is one such vertex only.
-- Assumes nothing.
use mathlib.Core.Path.{◌≡◌, refl}
use mathlib.Core.Bool.{Bool, true, false, ◌||◌}
use mathlib.Core.Logic.{inl, inr}
use mathlib.Core.List.{List}
use Prim.Native.Nat.{ℕ, zero, suc, ◌<◌}
use native.Mathlib.Omega.{arith}
use lib.ListN.{length}
use Rattle.lists.specs.Member.{◌∈◌}
use Rattle.lists.specs.Those.{those}
use Rattle.lists.proofs.TestLaws.{by, differ, either, or-neither}
use Rattle.lists.proofs.ThoseLaws.{those-lt}
use Rattle.joined.specs.Joined.{Link, Joined, stay, step, Joins}
use Rattle.joined.proofs.JoinedLaws.{then, back, cast}
use Rattle.plane.specs.declared.Place.{Place}
use Rattle.plane.proofs.PlaceOrder.{place_same}
use Rattle.net.specs.Net.{Net}
use Rattle.net.specs.Allowed.{Allowed}
use Rattle.picks.specs.declared.Quadrant.{Quadrant}
use Rattle.picks.specs.declared.Quadrant.TheVariants.{First, Fourth}
use Rattle.std.specs.Prelude.{Option, Some, None}
use Rattle.picks.specs.Pick.{within, pick}
use Rattle.graph.specs.Spanning.{vertices_of, spanning}
use Rattle.picks.proofs.QuadrantLaws.{Ahead, ahead-along, ahead-never, ahead-total, first-or-fourth-ahead, ahead-first-or-fourth}
use Rattle.graph.proofs.VertexLaws.{vertices-ascending}
use Rattle.picks.proofs.PickLaws.{Fit, pick_at, pick-nothing}
use Rattle.graph.proofs.EdgeLaws.{picked-link}
use Rattle.graph.proofs.AheadLaws.{ClearAhead, clear-ahead, lowest}

-- being ahead, as a test
later : Place → Place → Bool
later u v = within First u v || within Fourth u v

later-is : (u v : Place) → later u v ≡ true → Ahead u v
unfolding later
later-is u v h =
    first-or-fourth-ahead u v
    (by (within First u v) inl (λ e. by (within Fourth u v) inr (λ f. differ h (or-neither _ _ e f))))

later_of : (u v : Place) → Ahead u v → later u v ≡ true
unfolding later
later_of u v h =
    either (λ e. rw e refl) (λ e. by (within First u v) (λ f. rw f refl) (λ f. rw f e)) (ahead-first-or-fourth u v h)

later-never : (u : Place) → later u u ≡ false
later-never u = by (later u u) (λ e. absurd (ahead-never u (later-is u u e))) (λ e. e)

module _ {net : Net} (a : Allowed net) where
  abbrev vs : List Place
  vs = vertices_of net

  -- An edge ahead

  record LinkAhead (u : Place) : Type 0 where
    to : Place
    stands : to ∈ vs
    ahead : Ahead u to
    link : Link (spanning net) u to

  module _ (u : Place) (i : u ∈ vs) where
    -- u picks in the quadrant of a clear vertex ahead
    in-quadrant : (q : Quadrant) → ((w : Place) → within q u w ≡ true → Ahead u w)
        → (v : Place) → v ∈ vs → Fit net.macros q u v → LinkAhead u
    in-quadrant q on v k f = at (pick net.weights net.macros q u vs) refl
      where
        at : (p : Option Place) → pick net.weights net.macros q u vs ≡ p → LinkAhead u
        at None e = absurd (pick-nothing net.weights net.macros q u vs (vertices-ascending net) e v k f)
        at (Some w) e =
            let r = pick_at net.weights net.macros q u vs (vertices-ascending net) w e in
            record {
              to = w;
              stands = r.stands;
              ahead = on w r.fit.in-quadrant;
              link = picked-link net.weights net.macros vs u w (inl (record { stands = i; quadrant = q; picks = e }));
            }

    link-ahead : ClearAhead net u → LinkAhead u
    link-ahead r =
        either
        (λ e. in-quadrant First (λ w f. first-or-fourth-ahead u w (inl f)) r.to r.stands
        (record { in-quadrant = e; is-clear = r.is-clear }))
        (λ e. in-quadrant Fourth (λ w f. first-or-fourth-ahead u w (inr f)) r.to r.stands
        (record { in-quadrant = e; is-clear = r.is-clear }))
        (ahead-first-or-fourth u r.to r.ahead)

  -- On to the last vertex

  record Last (u : Place) : Type 0 where
    last : Place
    stands : last ∈ vs
    joined : Joined (spanning net) u last
    none : (w : Place) → w ∈ vs → later last w ≡ true → ⊥

  -- fewer vertices are ahead of one that is ahead
  fewer : (u v : Place) → v ∈ vs → Ahead u v → length (those (later v) vs) < length (those (later u) vs)
  fewer u v i h =
      those-lt (later v) (later u) vs (λ w k e. later_of u w (ahead-along u v w h (later-is v w e))) v i (later-never v) (later_of u v h)

  climb : (n : ℕ) (u : Place) → u ∈ vs → length (those (later u) vs) < n → Last u
  climb zero u i h = absurd (let z : ⊥ = omega arith in z)
  climb (suc n) u i h =
      either
      (λ r.
      let l = link-ahead u i (clear-ahead a u i r.entry r.stands (later-is u r.entry r.passes)) in
      let t = climb n l.to l.stands (omega (arith, fewer u l.to l.stands l.ahead)) in
      record { last = t.last; stands = t.stands; joined = step l.link t.joined; none = t.none })
      (λ n. record { last = u; stands = i; joined = stay refl; none = n })
      (lowest (λ v. v.x) (later u) vs)

  to_last : (u : Place) → u ∈ vs → Last u
  to_last u i = climb (suc (length (those (later u) vs))) u i (omega arith)

  one_last : (u v : Place) (s : Last u) (t : Last v) → s.last ≡ t.last
  one_last u v s t = at (place_same s.last t.last)
    where
      at : Dec (s.last ≡ t.last) → s.last ≡ t.last
      at (yes e) = e
      at (no n) =
          either
          (λ h. absurd (s.none t.last t.stands (later_of _ _ h)))
          (λ h. absurd (t.none s.last s.stands (later_of _ _ h)))
          (ahead-total s.last t.last n)

  -- G7: the graph of every allowed net joins all its vertices
  pub connected : Joins (vertices_of net) (spanning net)
  connected u v i k =
      let s = to_last u i in
      let t = to_last v k in
      then s.joined (cast (one_last u v s t) (back t.joined))
