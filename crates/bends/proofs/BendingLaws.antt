-- Bending from the first edge on: what is done stands before what bending the rest gives.
-- Assumes nothing.
use mathlib.Core.Path.{◌≡◌, refl, sym, ap, ap₂, ◌∙◌}
use mathlib.Core.Bool.{Bool, true, false, ◌||◌}
use mathlib.Core.List.{List, [], ◌∷◌, ◌++◌, append-nil}
use Prim.Native.Nat.{ℕ, ◌+◌, ◌*◌, ◌≤◌}
use native.Mathlib.Omega.{arith}
use lib.IntN.{ℤ}
use lib.ListN.{length, drop, length-append}
use lib.Seq.{sets, append_snoc}
use Rattle.lists.specs.Any.{any}
use Rattle.lists.proofs.TestLaws.{by, or_swap}
use Rattle.lent.specs.Over.{over}
use Rattle.lent.specs.Entries.{flat, entries}
use Rattle.lent.proofs.OverLaws.{over_none}
use Rattle.lent.proofs.EntryTable.{entry_more, entries_over, over-entries, length-entries}
use Rattle.plane.specs.declared.Place.{Place}
use Rattle.plane.specs.Place.{same_place}
use Rattle.plane.specs.Flat.{place_from}
use Rattle.graph.specs.Edges.{edge_of}
use Rattle.graph.specs.Numbers.{place_numbers, edge_numbers, edge_from}
use Rattle.graph.proofs.WidthLaws.{place-width, edge-width}
use Rattle.slide.specs.Bend.{Edge, straight, x_first, y_first, taken, Bent, bent, given_back, kept, through, bends}
use Rattle.std.specs.Prelude.{Option, Some, None}
use Rattle.tree.specs.declared.Size.{Size}
use Rattle.settled.specs.Settled.{edges_of}
use Rattle.bends.specs.Bending.{corner_of, counts, BentAt, BentWhere, BentBy}

-- Corners

module _ (X : List Place) (e : Edge) where
  pub corner-x : taken X (x_first e) ≡ false → corner_of X e ≡ Some (x_first e)
  unfolding corner_of
  corner-x h = rw (corner_of, h) refl

  pub corner-y : taken X (x_first e) ≡ true → taken X (y_first e) ≡ false → corner_of X e ≡ Some (y_first e)
  unfolding corner_of
  corner-y h k = rw (corner_of, h, k) refl

  pub corner-none : taken X (x_first e) ≡ true → taken X (y_first e) ≡ true → corner_of X e ≡ None
  unfolding corner_of
  corner-none h k = rw (corner_of, h, k) refl

-- points that are the same, in whatever order, give the same corner
corner-same : (X : List Place) (e : Edge) (P : List Place) → ((c : Place) → taken P c ≡ taken X c) → corner_of P e ≡ corner_of X e
corner-same X e P same =
    by (taken X (x_first e))
    (λ h. by (taken X (y_first e))
    (λ k. corner-none P e (same (x_first e) ∙ h) (same (y_first e) ∙ k) ∙ sym (corner-none X e h k))
    (λ k. corner-y P e (same (x_first e) ∙ h) (same (y_first e) ∙ k) ∙ sym (corner-y X e h k)))
    (λ h. corner-x P e (same (x_first e) ∙ h) ∙ sym (corner-x X e h))

-- what a slanted edge comes to
abbrev turned : List Place → Edge → List Edge → Option Place → Bent
turned X e T (Some c) = through e c (bends (c ∷ X) T)
turned X e T None = given_back

bends-slanted : (X : List Place) (e : Edge) (T : List Edge) → straight e ≡ false → bends X (e ∷ T) ≡ turned X e T (corner_of X e)
unfolding bends
bends-slanted X e T s =
    by (taken X (x_first e))
    (λ h. by (taken X (y_first e))
    (λ k. rw (corner-none X e h k) (rw (bends, s, h, k) refl))
    (λ k. rw (corner-y X e h k) (rw (bends, s, h, k) refl)))
    (λ h. rw (corner-x X e h) (rw (bends, s, h) refl))

bends-straight : (X : List Place) (e : Edge) (T : List Edge) → straight e ≡ true → bends X (e ∷ T) ≡ kept e (bends X T)
unfolding bends
bends-straight X e T s = rw (bends, s) refl

-- What is done, before the rest

unfoldable pub before : List Edge → Bent → Bent
before done (bent X U) = bent X (done ++ U)
before done given_back = given_back

before-none : (r : Bent) → before [] r ≡ r
unfolding before
before-none (bent X U) = refl
before-none given_back = refl

before-kept : (done : List Edge) (e : Edge) (r : Bent) → before done (kept e r) ≡ before (done ++ (e ∷ [])) r
unfolding before kept
before-kept done e (bent X U) = ap (bent X) (sym (append_snoc done e U))
before-kept done e given_back = refl

-- one place more, at the end or at the head
taken_more : (P : List Place) (c d : Place) → taken (P ++ (c ∷ [])) d ≡ taken (c ∷ P) d
unfolding taken any
taken_more [] c d = refl
taken_more (p ∷ P) c d =
    ap (λ (t : Bool). same_place d p || t) (taken_more P c d) ∙ or_swap (same_place d p) (same_place d c) (any (same_place d) P)

head-same : (P Q : List Place) → ((d : Place) → taken P d ≡ taken Q d) → (c d : Place) → taken (c ∷ P) d ≡ taken (c ∷ Q) d
unfolding taken any
head-same P Q h c d = ap (λ (t : Bool). same_place d c || t) (h d)

snoc-length : {A : Type 0} (l : List A) (x : A) → length (l ++ (x ∷ [])) ≡ length l + 1
snoc-length l x = length-append l (x ∷ [])

-- The loop's invariant: after i edges of T, `placed` are the tree points and then the bends, `ahead` the same as the definition lists them,
-- `done` the edges so far
module _ (X : List Place) (T : List Edge) (pts₀ out₀ : List ℤ) where
  pub record Bending (pts out : List ℤ) (points count i : ℕ) : Type 0 where
    pub placed : List Place
    pub ahead : List Place
    pub done : List Edge
    pub table : pts ≡ over (flat place_numbers placed) pts₀
    pub many : length placed ≡ points
    pub same : (c : Place) → taken placed c ≡ taken ahead c
    pub long : length placed ≡ length ahead
    pub given : out ≡ over (flat edge_numbers done) out₀
    pub made : length done ≡ count
    pub rest : bends X T ≡ before done (bends ahead (drop i T))

  pub bending-none : (n : ℕ) → n * 2 ≤ length pts₀ → X ≡ entries place_from 2 pts₀ n → Bending pts₀ out₀ n 0 0
  unfolding flat
  bending-none n h e = record {
    placed = X;
    ahead = X;
    done = [];
    table = over-entries place_numbers place_from 2 place-width pts₀ n h ∙ ap (λ (P : List Place). over (flat place_numbers P) pts₀) (sym e);
    many = ap length e ∙ length-entries place_numbers place_from 2 place-width pts₀ 0 n;
    same = λ c. refl;
    long = refl;
    given = sym (over_none out₀);
    made = refl;
    rest = sym (before-none (bends X T));
  }

  module _ {pts out : List ℤ} {points count i : ℕ} (r : Bending pts out points count i) where
    -- the places in the table
    standing : entries place_from 2 pts points ≡ r.placed
    standing =
        ap (λ (t : List ℤ). entries place_from 2 t points) r.table
        ∙ entries_over place_numbers place_from 2 place-width r.placed pts₀ points r.many

    pub corner-is : (e : Edge) → corner_of (entries place_from 2 pts points) e ≡ corner_of r.ahead e
    corner-is e = ap (λ (P : List Place). corner_of P e) standing ∙ corner-same r.ahead e r.placed r.same

    module _ (e : Edge) (left : List Edge) (at : drop i T ≡ e ∷ left) (next : drop (i + 1) T ≡ left) where
      here : bends X T ≡ before r.done (bends r.ahead (e ∷ left))
      here = r.rest ∙ ap (λ (l : List Edge). before r.done (bends r.ahead l)) at

      pub bending-straight : straight e ≡ true → count * 4 + 4 ≤ length out₀ → (new : List ℤ) → new ≡ sets out (count * 4) (edge_numbers e)
          → Bending pts new points (count + 1) (i + 1)
      bending-straight s fits new w = record {
        placed = r.placed;
        ahead = r.ahead;
        done = r.done ++ (e ∷ []);
        table = r.table;
        many = r.many;
        same = r.same;
        long = r.long;
        given =
            w
            ∙ ap (λ (t : List ℤ). sets t (count * 4) (edge_numbers e)) r.given
            ∙ entry_more edge_numbers edge_from 4 edge-width r.done e out₀ count r.made fits;
        made = snoc-length r.done e ∙ ap (λ (n : ℕ). n + 1) r.made;
        rest =
            here
            ∙ ap (before r.done) (bends-straight r.ahead e left s)
            ∙ before-kept r.done e (bends r.ahead left)
            ∙ ap (λ (l : List Edge). before (r.done ++ (e ∷ [])) (bends r.ahead l)) (sym next);
      }

      pub bending-slanted : (c : Place) → straight e ≡ false → Some c ≡ corner_of (entries place_from 2 pts points) e
          → points * 2 + 2 ≤ length pts₀ → count * 4 + 8 ≤ length out₀
          → (more newer : List ℤ) (a : Size) → BentAt c e (counts points count) pts out a more newer
          → Bending more newer (points + 1) (count + 2) (i + 1)
      unfolding through
      bending-slanted c s k fits room more newer at w =
          let a = edge_of e.0 c in
          let b = edge_of c e.1 in
          let one : length (r.done ++ (a ∷ [])) ≡ count + 1 = snoc-length r.done a ∙ ap (λ (n : ℕ). n + 1) r.made in
          record {
            placed = r.placed ++ (c ∷ []);
            ahead = c ∷ r.ahead;
            done = (r.done ++ (a ∷ [])) ++ (b ∷ []);
            table =
                w.placed
                ∙ ap (λ (t : List ℤ). sets t (points * 2) (place_numbers c)) r.table
                ∙ entry_more place_numbers place_from 2 place-width r.placed c pts₀ points r.many fits;
            many = snoc-length r.placed c ∙ ap (λ (n : ℕ). n + 1) r.many;
            same = λ d. taken_more r.placed c d ∙ head-same r.placed r.ahead r.same c d;
            long = snoc-length r.placed c ∙ omega (arith, r.long);
            given =
                w.edged
                ∙ ap (λ (t : List ℤ). sets t ((count + 1) * 4) (edge_numbers b))
                (ap (λ (t : List ℤ). sets t (count * 4) (edge_numbers a)) r.given
                ∙ entry_more edge_numbers edge_from 4 edge-width r.done a out₀ count r.made (omega arith))
                ∙ entry_more edge_numbers edge_from 4 edge-width (r.done ++ (a ∷ [])) b out₀ (count + 1) one (omega arith);
            made = snoc-length (r.done ++ (a ∷ [])) b ∙ omega (arith, one);
            rest =
                here
                ∙ ap (before r.done) (bends-slanted r.ahead e left s ∙ ap (turned r.ahead e left) (sym (k ∙ corner-is e)))
                ∙ before-kept r.done a (kept b (bends (c ∷ r.ahead) left))
                ∙ before-kept (r.done ++ (a ∷ [])) b (bends (c ∷ r.ahead) left)
                ∙ ap (λ (l : List Edge). before ((r.done ++ (a ∷ [])) ++ (b ∷ [])) (bends (c ∷ r.ahead) l)) (sym next);
          }

      pub bending-back : straight e ≡ false → None ≡ corner_of (entries place_from 2 pts points) e → bends X T ≡ given_back
      unfolding before
      bending-back s k =
          here ∙ ap (before r.done) (bends-slanted r.ahead e left s ∙ ap (turned r.ahead e left) (sym (k ∙ corner-is e)))

      -- a slanted edge, wherever it bends: what comes after it, or what all comes to
      pub bending-on : straight e ≡ false → points * 2 + 2 ≤ length pts₀ → count * 4 + 8 ≤ length out₀
          → (corner : Option Place) → corner ≡ corner_of (entries place_from 2 pts points) e → (a : Size) (more newer : List ℤ)
          → BentWhere corner e (counts points count) pts out (Some a) more newer
          → (a ≡ counts (points + 1) (count + 2)) × Bending more newer (points + 1) (count + 2) (i + 1)
      bending-on s fits room (Some c) k a more newer w = (w.counted, bending-slanted c s k fits room more newer a w)
      bending-on s fits room None k a more newer w = cc

      pub bending-gives_back : straight e ≡ false
          → (corner : Option Place) → corner ≡ corner_of (entries place_from 2 pts points) e → (more newer : List ℤ)
          → BentWhere corner e (counts points count) pts out None more newer → BentBy (bends X T) None newer
      bending-gives_back s (Some c) k more newer w = absurd w
      bending-gives_back s None k more newer w = rw (bending-back s k) refl

    pub bending-end : drop i T ≡ [] → BentBy (bends X T) (Some (counts points count)) out
    unfolding before bends
    bending-end end =
        let z : bends X T ≡ bent r.ahead r.done =
        r.rest
        ∙ ap (λ (l : List Edge). before r.done (bends r.ahead l)) end
        ∙ ap (bent r.ahead) (append-nil r.done) in
        rw z (
          sym r.many ∙ r.long,
          (
            sym r.made,
            ap₂ edges_of r.given (sym r.made) ∙ entries_over edge_numbers edge_from 4 edge-width r.done out₀ (length r.done) refl,
          ),
        )
