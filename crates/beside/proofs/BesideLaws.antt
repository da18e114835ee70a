-- Laws of sources, seats and candidates beside the tree, as the code goes through them.
-- Assumes nothing.
use mathlib.Core.Path.{◌≡◌, refl, sym, ap, ◌∙◌}
use mathlib.Core.Bool.{Bool, true, false, ◌&&◌, ◌||◌}
use mathlib.Core.Logic.{◌⊎◌, inl, inr}
use mathlib.Core.List.Memᴰ
use mathlib.Core.List.{List, [], ◌∷◌, ◌++◌, append-nil}
use Prim.Native.Nat.{ℕ, suc, ◌+◌, ◌-◌, ◌≤◌, ◌<◌}
use native.Mathlib.Omega.{arith}
use native.Mathlib.Numerals.{add-one}
use lib.Dec.{ltb, eqb}
use lib.IntN.{ℤ}
use lib.ListN.{length, get_or, set, replicate}
use lib.Seq.{append_snoc}
use borrow.Author.Tests.{eq-eqb, ne_eqb, lt-ltb, le-ltb, ltb-true, ltb-false}
use Rattle.lists.proofs.TestLaws.{by, and_left}
use Rattle.lists.specs.Member.{◌∈◌}
use Rattle.plane.specs.declared.Place.{Place}
use Rattle.plane.specs.declared.Macro.{Macro}
use Rattle.plane.specs.declared.Weights.{Weights}
use Rattle.plane.specs.Place.{same_place}
use Rattle.plane.specs.Cost.{cost}
use Rattle.plane.specs.Middle.{middle_place}
use Rattle.plane.specs.Flat.{place_at}
use Rattle.plane.specs.Rank.{rank}
use Rattle.forest.specs.Bounds.{point_bound}
use Rattle.forest.specs.Edges.{entries, FirstBelow, Listed}
use Rattle.forest.specs.Parents.{way_after, Nearing}
use Rattle.forest.proofs.ListedLaws.{read-listed, entry_listed, listed-none, listed_more}
use Rattle.forest.proofs.WayLaws.{after-go, after_none}
use Rattle.tree.specs.Table.{tree_bound, Low}
use Rattle.candidates.specs.declared.Best.{Best}
use Rattle.beside.specs.declared.Choice.{Choice}
use Rattle.lists.specs.Turns.{turns}
use Rattle.longest.specs.Longest.{measure, costs, longest, cut_of}
use Rattle.near.specs.Box.{box_of, box_cost}
use Rattle.near.proofs.BoxLaws.{box-cost}
use Rattle.triples.specs.Triple.{may_gain}
use Rattle.candidates.specs.Candidate.{best, chosen}
use Rattle.candidates.specs.Candidate as tree
use Rattle.beside.specs.Beside.{is_point, sources_from, take_seat, on_way, free, middle_beside, weighed, offer, search}
use Rattle.beside.specs.Beside.{chosen_of}
use Rattle.beside.specs.Beside.{choice, either as chosen_either}

and-false : (a : Bool) → (a && false) ≡ false
and-false true = refl
and-false false = refl

-- Sources

module _ (pts : List ℤ) (n : ℕ) (vs : List ℤ) (v : ℕ) where
  -- the vertices from i on are still to come; those found so far are written
  pub record Gathering (lent source : List ℕ) (c i : ℕ) : Type 0 where
    pub done : List ℕ
    pub written : Listed done lent source c
    pub answer : done ++ sources_from pts n vs i (v - i) ≡ sources_from pts n vs 0 v
    pub low : (x : ℕ) → x ∈ done → x < i
    pub few : c ≤ i
    pub inside : i ≤ v

  pub gather_none : (lent : List ℕ) → Gathering lent lent 0 0
  gather_none lent =
      let z : v - 0 ≡ v = omega arith in
      record {
        done = [];
        written = listed-none lent;
        answer = ap (sources_from pts n vs 0) z;
        low = λ x m. elim m [ ];
        few = omega arith;
        inside = omega arith;
      }

  module _ (lent source : List ℕ) (c i : ℕ) (g : Gathering lent source c i) (h : i < v) where
    one_less : v - i ≡ suc (v - (i + 1))
    one_less = omega arith

    pub gather-pass : is_point pts n (place_at vs i) ≡ false → Gathering lent source c (i + 1)
    unfolding sources_from
    gather-pass t = record {
      done = g.done;
      written = g.written;
      answer =
          ap (λ (r : List ℕ). g.done ++ r)
          (sym (rw (one_less, sources_from, t, add-one i) refl)) ∙ g.answer;
      low = λ x m. omega (arith, g.low x m);
      few = omega (arith, g.few);
      inside = omega arith;
    }

    pub gather-more : is_point pts n (place_at vs i) ≡ true → c < length lent → Gathering lent (set source c i) (c + 1) (i + 1)
    unfolding sources_from
    gather-more t room = record {
      done = g.done ++ (i ∷ []);
      written = listed_more g.done lent source c i g.written room;
      answer =
          append_snoc g.done i (sources_from pts n vs (i + 1) (v - (i + 1)))
          ∙ ap (λ (r : List ℕ). g.done ++ r) (sym (rw (one_less, sources_from, t, add-one i) refl)) ∙ g.answer;
      low = λ x m. with-last x (Memᴰ.append_cases g.done m);
      few = omega (arith, g.few);
      inside = omega arith;
    }
      where
        last : (x : ℕ) → (x ≡ i) ⊎ (x ∈ []) → x < i + 1
        last x (inl q) = omega (arith, q)
        last x (inr q) = elim q [ ]

        with-last : (x : ℕ) → (x ∈ g.done) ⊎ (x ∈ (i ∷ [])) → x < i + 1
        with-last x (inl k) = omega (arith, g.low x k)
        with-last x (inr k) = last x (Memᴰ.cases_cons k)

  module _ (lent source : List ℕ) (c i : ℕ) (g : Gathering lent source c i) (h : v ≤ i) where
    done-is : g.done ≡ sources_from pts n vs 0 v
    unfolding sources_from
    done-is =
        let z : v - i ≡ 0 = omega arith in
        sym (append-nil g.done) ∙ ap (λ (r : List ℕ). g.done ++ r) (sym (rw (z, sources_from) refl)) ∙ g.answer

    pub gather-end : entries source 0 c ≡ sources_from pts n vs 0 v
    gather-end = read-listed g.done lent source c g.written ∙ done-is

    pub gather-low : v ≤ point_bound → FirstBelow source c point_bound
    gather-low few = record {
      inside = λ j k. omega (arith, few, g.inside, g.low _ (entry_listed g.done lent source c g.written j k));
    }

-- Seats

pub take-seat-is : (pts : List ℤ) (n : ℕ) (vs : List ℤ) (roots : List ℕ) (i x r : ℕ) (p : Place) (t : List ℕ) → x ≡ get_or roots i 0
    → p ≡ place_at vs x → r ≡ rank pts n p → set t i r ≡ take_seat pts n vs roots i t
unfolding take_seat
take-seat-is pts n vs roots i x r p t e f g = rw (g, f, e) refl

-- Ways

module _ (vs : List ℤ) (s : Place) (fars ups : List ℕ) (u : ℕ) where
  pub way-stop : point_bound ≤ get_or ups u 0 → false ≡ on_way vs s (way_after fars ups u)
  unfolding on_way
  way-stop h = sym (ap (on_way vs s) (after_none fars ups u h))

  module _ (f : Nearing fars ups) (hu : u < point_bound) (h : get_or ups u 0 < point_bound) where
    on_step : on_way vs s (way_after fars ups u) ≡ (same_place s (place_at vs (get_or ups u 0)) || on_way vs s (way_after fars ups (get_or ups u 0)))
    unfolding on_way
    on_step = ap (on_way vs s) (after-go fars ups f u hu h)

    pub way-here : (p : Place) → p ≡ place_at vs (get_or ups u 0) → same_place s p ≡ true → true ≡ on_way vs s (way_after fars ups u)
    way-here p e t = sym (on_step ∙ rw (← e, t) refl)

    pub way-there : (p : Place) → p ≡ place_at vs (get_or ups u 0) → same_place s p ≡ false →
        on_way vs s (way_after fars ups (get_or ups u 0)) ≡ on_way vs s (way_after fars ups u)
    way-there p e t = sym (on_step ∙ rw (← e, t) refl)

-- Candidates

-- the places of a candidate, what metal from s to u costs and how far u is from the tree, by their names
pub record Spots (w : Weights) (pts vs : List ℤ) (fars : List ℕ) (a b u : ℕ) (p q r s : Place) (m f : ℕ) : Type 0 where
  pub one : p ≡ place_at pts a
  pub two : q ≡ place_at pts b
  pub three : r ≡ place_at vs u
  pub mid : s ≡ middle_place p q r
  pub metal : m ≡ cost w s r
  pub far : f ≡ get_or fars u 0

module _ (w : Weights) (pts : List ℤ) (n : ℕ) (ms : List Macro) (vs : List ℤ) (fars ups : List ℕ) (a b k u l x : ℕ) (c : Best) where
  abbrev Weighed : Best
  Weighed = weighed w pts n ms vs fars ups a b k u l x c

  module _ (p q r s : Place) (m f : ℕ) (h : Spots w pts vs fars a b u p q r s m f) where
    named : Weighed ≡ chosen (ltb (c.gain + (m + f)) x && free pts n ms vs fars ups a b u s) (best (x - (m + f)) k u l) c
    unfolding weighed
    named = rw (h.metal, h.far, h.mid, h.one, h.two, h.three) refl

    pub weigh-low : x ≤ c.gain + (m + f) → c ≡ Weighed
    weigh-low i = sym (named ∙ rw (le-ltb _ _ i) refl)

    pub weigh-no : free pts n ms vs fars ups a b u s ≡ false → c ≡ Weighed
    weigh-no e = sym (named ∙ rw (e, and-false (ltb (c.gain + (m + f)) x)) refl)

    pub weigh-yes : (g : ℕ) → g ≡ x - (m + f) → c.gain + (m + f) < x → free pts n ms vs fars ups a b u s ≡ true → best g k u l ≡ Weighed
    weigh-yes g e i t = sym (named ∙ rw (lt-ltb _ _ i, t, e) refl)

  pub weigh-short : x ≤ c.gain + get_or fars u 0 → c ≡ Weighed
  weigh-short i =
      weigh-low _ _ _ _ _ _ (record { one = refl; two = refl; three = refl; mid = refl; metal = refl; far = refl }) (omega arith)

module _ (w : Weights) (pts : List ℤ) (n : ℕ) (ms : List Macro) (el top : List ℕ) (vs : List ℤ) (fars ups seat : List ℕ)
    (a b k u : ℕ) (c : Best) where
  abbrev Offered : Best
  Offered = offer w pts n ms el top vs fars ups seat a b k u c

  pub offer-on : eqb (get_or fars u 0) 0 ≡ true → c ≡ Offered
  unfolding offer
  offer-on t = rw t refl

  pub offer-zero : get_or fars u 0 ≤ 0 → c ≡ Offered
  offer-zero h = offer-on (eq-eqb (get_or fars u 0) 0 (omega (arith, h)))

  module _ (o : eqb (get_or fars u 0) 0 ≡ false) (v l : ℕ) (d : v ≡ get_or seat u 0) (e : l ≡ cut_of el top a b v) where
    pub offer-none : (eqb v a || (eqb v b || eqb l k)) ≡ true → c ≡ Offered
    unfolding offer
    offer-none h = rw (o, ← d, ← e, h) refl

    module _ (h : (eqb v a || (eqb v b || eqb l k)) ≡ false) where
      pub offer-is : weighed w pts n ms vs fars ups a b k u l (get_or el l 0) c ≡ Offered
      unfolding offer
      offer-is = rw (o, ← d, ← e, h) refl

      pub offer-short : get_or el l 0 ≤ c.gain + get_or fars u 0 → c ≡ Offered
      offer-short i = weigh-short w pts n ms vs fars ups a b k u l (get_or el l 0) c i ∙ offer-is

-- beside the tree
pub off-tree : (x : ℕ) → 0 < x → eqb x 0 ≡ false
off-tree x h = ne_eqb x 0 (λ q. let z : ⊥ = omega (arith, h, q) in z)

-- a vertex so far from the box of an edge, with its way, that no edge is long enough
module _ (w : Weights) (pts : List ℤ) (n : ℕ) (ms : List Macro) (el top : List ℕ) (vs : List ℤ) (fars ups seat : List ℕ)
    (a b k u : ℕ) (c : Best) (x : ℕ) (low : Low x el) (p q r : Place) (f : p ≡ place_at pts a) (g : q ≡ place_at pts b)
    (h : r ≡ place_at vs u) where
  pub offer-far : (m : Macro) (t : Bool) → m ≡ box_of p q → t ≡ may_gain w m r (get_or fars u 0) c.gain x → t ≡ false →
      c ≡ offer w pts n ms el top vs fars ups seat a b k u c
  unfolding may_gain
  offer-far m t i j z =
      let v = get_or seat u 0 in
      let l = cut_of el top a b v in
      let s = middle_place p q r in
      let d : box_cost w m r ≡ cost w s r = ap (λ (o : Macro). box_cost w o r) i ∙ box-cost w p q r in
      let y : x ≤ c.gain + (box_cost w m r + get_or fars u 0) = ltb-false _ _ (sym j ∙ z) in
      by (eqb (get_or fars u 0) 0)
      (λ e. offer-on w pts n ms el top vs fars ups seat a b k u c e)
      (λ o. by (eqb v a || (eqb v b || eqb l k))
      (λ e. offer-none w pts n ms el top vs fars ups seat a b k u c o v l refl refl e)
      (λ e.
      weigh-low w pts n ms vs fars ups a b k u l (get_or el l 0) c p q r s (cost w s r) (get_or fars u 0)
      (record { one = f; two = g; three = h; mid = refl; metal = refl; far = refl }) (omega (arith, low.low l, y, d))
      ∙ offer-is w pts n ms el top vs fars ups seat a b k u c o v l refl refl e))

-- a vertex too far across is so whatever its way costs; and what is chosen gains no less
module _ (w : Weights) (pts : List ℤ) (n : ℕ) (ms : List Macro) (el top : List ℕ) (vs : List ℤ) (fars ups seat : List ℕ)
    (a b k u : ℕ) (c : Best) where
  pub offer-beyond : (x : ℕ) → Low x el → (m : Macro) → m ≡ box_of (place_at pts a) (place_at pts b) → (g : ℕ) → g ≤ c.gain
      → x - g ≤ box_cost w m (place_at vs u) → offer w pts n ms el top vs fars ups seat a b k u c ≡ c
  unfolding may_gain
  offer-beyond x low m i g h f =
      sym (offer-far w pts n ms el top vs fars ups seat a b k u c x low (place_at pts a) (place_at pts b) (place_at vs u)
      refl refl refl m false i
      (sym (le-ltb (c.gain + (box_cost w m (place_at vs u) + get_or fars u 0)) x (omega (arith, h, f)))) refl)

  weighed-more : (l x : ℕ) → c.gain ≤ (weighed w pts n ms vs fars ups a b k u l x c).gain
  unfolding weighed
  weighed-more l x =
      let s = middle_beside pts vs a b u in
      let d = cost w s (place_at vs u) + get_or fars u 0 in
      let o = free pts n ms vs fars ups a b u s in
      by (ltb (c.gain + d) x && o)
      (λ t. rw t (omega (arith, ltb-true (c.gain + d) x (and_left (ltb (c.gain + d) x) o t))))
      (λ t. rw t (omega arith))

  pub offer-more : c.gain ≤ (offer w pts n ms el top vs fars ups seat a b k u c).gain
  unfolding offer
  offer-more =
      let v = get_or seat u 0 in
      let l = cut_of el top a b v in
      by (eqb (get_or fars u 0) 0 || (eqb v a || (eqb v b || eqb l k))) (λ t. rw t (omega arith)) (λ t. rw t (weighed-more l (get_or el l 0)))

-- On the tree or beside it

pub either-off : (on off : Best) → on.gain < off.gain → choice true off ≡ chosen_either on off
unfolding chosen_either
either-off on off h = rw (chosen_either, lt-ltb _ _ h) refl

pub either-on : (on off : Best) → off.gain ≤ on.gain → choice false on ≡ chosen_either on off
unfolding chosen_either
either-on on off h = rw (chosen_either, le-ltb _ _ h) refl

module _ (w : Weights) (ms : List Macro) (pts : List ℤ) (n : ℕ) (ks : List ℕ) (e : ℕ) (vs : List ℤ) (v : ℕ) (fars ups seat : List ℕ)
    (el : List ℕ) (on off : Best) (el-is : el ≡ turns (measure w pts ks) 0 e (replicate tree_bound 0))
    (on-is : on ≡ tree.search w pts n ms ks e el (longest ks el e n))
    (off-is : off ≡ search w pts n ms ks e el (longest ks el e n) vs v fars ups seat on) where
  pub chosen_is : (r : Choice) → r ≡ chosen_either on off → r ≡ chosen_of w ms pts n ks e vs v fars ups seat
  unfolding chosen_of costs
  chosen_is r h = h ∙ rw (off-is, on-is, el-is) refl
