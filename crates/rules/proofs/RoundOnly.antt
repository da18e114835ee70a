-- One round has one outcome: which candidate is taken, its way and its L are settled by the edges as a set.
-- Assumes nothing.
use mathlib.Core.Path.{◌≡◌, refl, sym, ◌∙◌, subst}
use mathlib.Core.Bool.{Bool, true, false}
use mathlib.Core.Logic.{inl, inr}
use mathlib.Core.List.{List}
use Prim.Native.Nat.{ℕ}
use native.Mathlib.Omega.{arith}
use Rattle.lists.specs.Member.{◌∈◌, Among}
use Rattle.lists.specs.Sorted.{Order}
use Rattle.lists.proofs.TestLaws.{differ}
use Rattle.lists.proofs.OrderLaws.{pair-order}
use Rattle.plane.specs.declared.Place.{Place}
use Rattle.plane.specs.Place.{before}
use Rattle.plane.proofs.PlaceOrder.{place-order, place_same}
use Rattle.joined.specs.Exchange.{Toward}
use Rattle.joined.specs.OneTree.{Point}
use Rattle.joined.specs.Tree.{Cuts}
use Rattle.joined.proofs.WayLaws.{way-more}
use Rattle.joined.proofs.TowardLaws.{toward-only}
use Rattle.net.specs.Net.{Net}
use Rattle.rules.specs.Edges.{Edge, edge_before, Same}
use Rattle.rules.specs.Refined.{Beside, Reach, Step, Longest, Cut, Gain, on_first, earlier, Takes, After, Round}
use Rattle.rules.proofs.EdgeLaws.{edge_order, same_turn}
use Rattle.rules.proofs.BesideOnly.{Lawful, beside-only}

-- Edges as a set

pub point-same : {T U : List Edge} → Same T U → (ps : List Place) (v : Place) → Point ps T v → Point ps U v
point-same h ps v (inl m) = inl m
point-same h ps v (inr (z, inl m)) = inr (z, inl (h.0 (v, z) m))
point-same h ps v (inr (z, inr m)) = inr (z, inr (h.0 (z, v) m))

-- The order of candidates

on-order : Order on_first
unfolding on_first
on-order = record { never = never; along = along; tie = tie }
  where
    never : (k : Bool) → on_first k k ≡ false
    never true = refl
    never false = refl

    along : (i j k : Bool) → on_first i j ≡ true → on_first j k ≡ true → on_first i k ≡ true
    along true j k e f = differ e refl
    along false true k e f = differ f refl
    along false false k e f = f

    tie : (j k : Bool) → on_first j k ≡ false → on_first k j ≡ false → j ≡ k
    tie true true e f = refl
    tie true false e f = differ refl f
    tie false true e f = differ refl e
    tie false false e f = refl

pub earlier-order : Order earlier
earlier-order = pair-order on_first _ on-order (pair-order edge_before before edge_order place-order)

-- Edges as a set

module _ {net : Net} {G : List Edge} {T U : List Edge} (h : Same T U) where
  beside_same : {u v : Place} {qs : List Place} → Beside net G T u v qs → Beside net G U u v qs
  beside_same {u} {v} p = record {
    vertex = p.vertex;
    off = λ i. p.off (point-same (same_turn h) net.pins u i);
    point = point-same h net.pins v p.point;
    itself = p.itself;
    way = p.way;
    nearest = λ w rs i. p.nearest w rs (point-same (same_turn h) net.pins w i);
    smallest = λ w rs i. p.smallest w rs (point-same (same_turn h) net.pins w i);
    lowest = p.lowest;
  }

  reach-same : {k : Bool} {u v : Place} {qs : List Place} → Reach net G T k u v qs → Reach net G U k u v qs
  reach-same {u = u} (inl (e, (i, f))) = inl (e, (point-same h net.pins u i, f))
  reach-same (inr (e, p)) = inr (e, beside_same p)

abbrev toward-same : {T U : List Edge} → Same T U → {u a b : Place} → Toward T u a b → Toward U u a b
toward-same h w = record {
  near = w.near;
  far = w.far;
  ends = w.ends;
  free = record { points = w.free.points; way = way-more h.0 w.free.way; once = w.free.once };
  short = w.short;
}

step_same : {T U : List Edge} → Same T U → {x : Place} {qs : List Place} {e : Edge} → Step T x qs e → Step U x qs e
step_same h {e = e} s = record { edge = h.0 e s.edge; one = s.one; other = s.other; on = s.on; ends = s.ends }

module _ {net : Net} {G : List Edge} {T U : List Edge} (h : Same T U) where
  pub gain-same : {k : Bool} {a b u v : Place} {qs : List Place} {l : Edge} {g : ℕ} → Gain net G T k a b u v qs l g
      → Gain net G U k a b u v qs l g
  gain-same {k} {a} {b} {u} {v} {qs} x = record {
    candidate = record {
      edge = h.0 (a, b) x.candidate.edge;
      reach = reach-same h x.candidate.reach;
      not_first = x.candidate.not_first;
      not_second = x.candidate.not_second;
      seen = x.candidate.seen;
      kept = λ w i. x.candidate.kept w (point-same (same_turn h) net.pins w i);
      away = x.candidate.away;
    };
    cut = record {
      way = toward-same h x.cut.way;
      longest = record {
        step = step_same h x.cut.longest.step;
        longest = λ e s. x.cut.longest.longest e (step_same (same_turn h) s);
        smallest = λ e s. x.cut.longest.smallest e (step_same (same_turn h) s);
      };
    };
    gain = x.gain;
    above = x.above;
  }

pub after_same : {G T U : List Edge} → Same T U → (a b u : Place) (qs : List Place) (l e : Edge) →
    After G T a b u qs l e → After G U a b u qs l e
after_same h a b u qs l e (inl p) = inl (h.0 e p.0, p.1)
after_same h a b u qs l e (inr p) = inr p

module _ {net : Net} {G : List Edge} {T U : List Edge} (h : Same T U) where
  pub takes_same : {k : Bool} {a b u v : Place} {qs : List Place} {l : Edge} {g : ℕ} → Takes net G T k a b u v qs l g
      → Takes net G U k a b u v qs l g
  takes_same x = record {
    taken = gain-same h x.taken;
    greatest = λ j c d w y rs m f z. x.greatest j c d w y rs m f (gain-same (same_turn h) z);
    first = λ j c d w y rs m z. x.first j c d w y rs m (gain-same (same_turn h) z);
  }

  -- the same round by another list of the same edges
  abbrev pub round_same : {R : List Edge} → Round net G T R → Round net G U R
  round_same r = record {
    k = r.k;
    a = r.a;
    b = r.b;
    u = r.u;
    v = r.v;
    qs = r.qs;
    l = r.l;
    g = r.g;
    takes = takes_same r.takes;
    edges = λ e. (
      λ m. after_same h r.a r.b r.u r.qs r.l e ((r.edges e).0 m),
      λ i. (r.edges e).1 (after_same (same_turn h) r.a r.b r.u r.qs r.l e i),
    );
  }

-- One candidate

longest-one : {net : Net} {T : List Edge} {x : Place} {qs : List Place} {k l : Edge} → Longest net T x qs k → Longest net T x qs l → k ≡ l
longest-one {k = k} {l = l} p q =
    let a = p.longest l q.step in
    let b = q.longest k p.step in
    edge_order.tie k l (q.smallest k p.step (omega arith)) (p.smallest l q.step (omega arith))

-- in a tree one edge alone is L
pub cut-only : {net : Net} {T : List Edge} → Cuts T → {a b v : Place} {k l : Edge} → (a, b) ∈ T → Cut net T a b v k → Cut net T a b v l
    → k ≡ l
cut-only {net} {T} cuts {v = v} {k = k} m p q =
    longest-one
    (subst (λ (ps : List Place). Longest net T v ps k) (toward-only place_same cuts (inl m) p.way q.way).1 p.longest) q.longest

-- one v and one way
pub reach-only : {net : Net} {G : List Edge} → Lawful net G → {T : List Edge} {k : Bool} {u v w : Place} {qs rs : List Place} →
    Reach net G T k u v qs → Reach net G T k u w rs → (v ≡ w) × (qs ≡ rs)
reach-only law (inl (e, (i, (p, q)))) (inl (f, (j, (r, s)))) = (p ∙ sym r, q ∙ sym s)
reach-only law (inl (e, i)) (inr (f, j)) = differ f e
reach-only law (inr (e, i)) (inl (f, j)) = differ e f
reach-only law (inr (e, i)) (inr (f, j)) = beside-only law i j

-- all that is taken
abbrev Choice : Type 0
Choice = Bool × (Edge × Place)

abbrev GainOf : Net → List Edge → List Edge → Choice → Place → List Place → Edge → ℕ → Type 0
GainOf net G T c v qs l g = Gain net G T c.0 c.1.0.0 c.1.0.1 c.1.1 v qs l g

pub record Equal (c d : Choice) (qs rs : List Place) (l m : Edge) (g h : ℕ) : Type 0 where
  pub choices : c ≡ d
  pub ways : qs ≡ rs
  pub cuts : l ≡ m
  pub gains : g ≡ h

pub takes-only : {net : Net} {G : List Edge} → Lawful net G → {T : List Edge} → Cuts T →
    {k : Bool} {a b u v : Place} {qs : List Place} {l : Edge} {g : ℕ} → Takes net G T k a b u v qs l g →
    {j : Bool} {c d w x : Place} {rs : List Place} {m : Edge} {f : ℕ} → Takes net G T j c d w x rs m f →
    Equal (k, ((a, b), u)) (j, ((c, d), w)) qs rs l m g f
takes-only {net} {G} law {T} cut {k} {a} {b} {u} {v} {qs} {l} {g} t {j} {c} {d} {w} {x} {rs} {m} {f} s =
    record { choices = choice; ways = ways.1; cuts = cut-only cut t.taken.candidate.edge t.taken.cut theirs; gains = even }
  where
    even : g ≡ f
    even = omega (arith, t.greatest j c d w x rs m f s.taken, s.greatest k a b u v qs l g t.taken)

    choice : ◌≡◌ {A = Choice} (k, ((a, b), u)) (j, ((c, d), w))
    choice =
        earlier-order.tie (k, ((a, b), u)) (j, ((c, d), w))
        (s.first k a b u v qs l (subst (λ (n : ℕ). Gain net G T k a b u v qs l n) even t.taken))
        (t.first j c d w x rs m (subst (λ (n : ℕ). Gain net G T j c d w x rs m n) (sym even) s.taken))

    other : Gain net G T k a b u x rs m f
    other = subst (λ (z : Choice). GainOf net G T z x rs m f) (sym choice) s.taken

    ways : (v ≡ x) × (qs ≡ rs)
    ways = reach-only law t.taken.candidate.reach other.candidate.reach

    theirs : Cut net T a b v m
    theirs = subst (λ (z : Place). Cut net T a b z m) (sym ways.0) other.cut

-- One outcome

abbrev Of : List Edge → List Edge → Choice → List Place → Edge → Edge → Type 0
Of G T c qs l e = After G T c.1.0.0 c.1.0.1 c.1.1 qs l e

pub round-only : {net : Net} {G : List Edge} → Lawful net G → {T U R Q : List Edge} → Cuts T → Same T U → Round net G T R → Round net G U Q
    → Same R Q
round-only {net} {G} law {T} {U} {R} {Q} cuts h r other = (
  λ e m. (q.edges e).1 (cast e ((r.edges e).0 m)),
  λ e m. (r.edges e).1 (uncast e ((q.edges e).0 m)),
)
  where
    q : Round net G T Q
    q = round_same (same_turn h) other

    same : Equal (r.k, ((r.a, r.b), r.u)) (q.k, ((q.a, q.b), q.u)) r.qs q.qs r.l q.l r.g q.g
    same = takes-only law cuts r.takes q.takes

    cast : (e : Edge) → Of G T (r.k, ((r.a, r.b), r.u)) r.qs r.l e → Of G T (q.k, ((q.a, q.b), q.u)) q.qs q.l e
    cast e o =
        subst (λ (z : Edge). Of G T (q.k, ((q.a, q.b), q.u)) q.qs z e) same.cuts
        (subst (λ (z : List Place). Of G T (q.k, ((q.a, q.b), q.u)) z r.l e) same.ways
        (subst (λ (z : Choice). Of G T z r.qs r.l e) same.choices o))

    uncast : (e : Edge) → Of G T (q.k, ((q.a, q.b), q.u)) q.qs q.l e → Of G T (r.k, ((r.a, r.b), r.u)) r.qs r.l e
    uncast e o =
        subst (λ (z : Edge). Of G T (r.k, ((r.a, r.b), r.u)) r.qs z e) (sym same.cuts)
        (subst (λ (z : List Place). Of G T (r.k, ((r.a, r.b), r.u)) z q.l e) (sym same.ways)
        (subst (λ (z : Choice). Of G T z q.qs q.l e) (sym same.choices) o))
