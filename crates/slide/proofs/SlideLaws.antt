-- A bar that moves by an allowed distance leaves one tree with all pins, clear and axis-parallel, and its cost falls by exactly the saving.
-- Where a moved point meets another tree point, that is the far end of an edge of the bar's point, and the edge goes: so no more points
-- become one than edges go; and no fewer, since all is still joined.
-- Assumes nothing.
use mathlib.Core.Path.{◌≡◌, refl, sym, ap, ◌∙◌}
use mathlib.Core.Bool.{Bool, true, false, not}
use mathlib.Core.Logic.{◌⊎◌, inl, inr}
use mathlib.Core.List.Memᴰ
use mathlib.Core.List.{List, [], ◌∷◌, ◌++◌, map}
use Prim.Native.Nat.{ℕ, ◌+◌, ◌*◌, ◌-◌, ◌≤◌}
use native.Mathlib.Nat.{mul-add, mul-suc, mul_comm, mul_assoc}
use native.Mathlib.Omega.{arith}
use lib.ListN.{length, length-map, length-append}
use Rattle.lists.specs.Member.{◌∈◌, here, there, Among, Once}
use Rattle.lists.specs.Those.{those}
use Rattle.lists.specs.Total.{total}
use Rattle.lists.proofs.TestLaws.{by, differ, either}
use Rattle.lists.proofs.MemberLaws.{once-length}
use Rattle.lists.proofs.MapLaws.{in_map, of_map}
use Rattle.lists.proofs.ThoseLaws.{in-those, of-those, those-split, those-hit, those-miss}
use Rattle.signed.specs.Sides.{up, down, Lt}
use Rattle.plane.specs.declared.Place.{Place}
use Rattle.plane.specs.Place.{same_place}
use Rattle.plane.specs.Macro.{clear}
use Rattle.plane.proofs.PlaceLaws.{same_true, same_refl}
use Rattle.plane.proofs.PlaceOrder.{place_same}
use Rattle.joined.specs.Joined.{Link, Joined, stay, Joins, Inside}
use Rattle.joined.specs.Tree.{TreeOn}
use Rattle.joined.specs.Cost.{lengths}
use Rattle.joined.proofs.JoinedLaws.{one, between, carried, firsts, seconds}
use Rattle.joined.proofs.CountLaws.{enough}
use Rattle.net.specs.Net.{Net, cost_in}
use Rattle.slide.specs.declared.Side.{Side}
use Rattle.slide.specs.Side.{along, across, moved, weight}
use Rattle.slide.specs.Bend.{Edge, straight}
use Rattle.slide.specs.Bar.{ahead, behind}
use Rattle.slide.specs.Sweep.{surplus, saving_of}
use Rattle.slide.specs.Slide.{shift, shift_edge, proper, slide}
use Rattle.slide.specs.Bars.{IsBar, Allowed}
use Rattle.slide.specs.Promise.{Clear, Straight}
use Rattle.slide.proofs.GlueLaws.{UprightAll}
use Rattle.plane.proofs.CostLaws.{cost-self}
use Rattle.slide.proofs.AcrossLaws.{along-moved, across-moved, one_place, opposite, there_and_back, back-and-there}
use Rattle.slide.proofs.EdgeLaws.{shift-on, shift-off, kind}
use Rattle.slide.proofs.ShiftLaws.{shift-clear, shift-straight, Change, less, more, none, change}

-- Edges with two ends

pub proper-false : (a b : Place) → proper (a, b) ≡ false → a ≡ b
unfolding proper
proper-false a b e = by (same_place a b) (λ h. same_true a b h) (λ h. differ (rw h refl) e)

pub false-proper : (a b : Place) → a ≡ b → proper (a, b) ≡ false
unfolding proper
false-proper a b e = rw (e, same_refl b) refl

-- What is in a slid tree

module _ (s : Side) (on : Place → Bool) (d : ℕ) (T : List Edge) where
  pub in-slide : (a b : Place) → (a, b) ∈ T → (shift s on d a ≡ shift s on d b) ⊎ ((shift s on d a, shift s on d b) ∈ slide s on d T)
  unfolding slide shift_edge
  in-slide a b m =
      by (proper (shift s on d a, shift s on d b))
      (λ e. inr (in-those proper (map (shift_edge s on d) T) (in_map (shift_edge s on d) m) e))
      (λ e. inl (proper-false _ _ e))

  -- where an edge comes from
  pub record Slid (x y : Place) : Type 0 where
    pub a : Place
    pub b : Place
    pub stands : (a, b) ∈ T
    pub first : x ≡ shift s on d a
    pub second : y ≡ shift s on d b
    pub two : proper (x, y) ≡ true

  pub of-slide : (x y : Place) → (x, y) ∈ slide s on d T → Slid x y
  unfolding slide shift_edge
  of-slide x y m =
      let r = of-those proper (map (shift_edge s on d) T) m in
      let q = of_map (shift_edge s on d) T r.0 in
      record { a = q.entry.0; b = q.entry.1; stands = q.stands; first = firsts q.is; second = seconds q.is; two = r.1 }

  pub slide-fewer : length (slide s on d T) ≤ length T
  unfolding slide
  slide-fewer = omega (arith, those-split proper (map (shift_edge s on d) T), length-map T (shift_edge s on d))

  -- what holds of each edge once it is shifted
  pub each-slid : (P : Place → Place → Type 0) → ((a b : Place) → (a, b) ∈ T → P (shift s on d a) (shift s on d b)) →
      (x y : Place) → (x, y) ∈ slide s on d T → P x y
  each-slid P h x y m = at (of-slide x y m)
    where
      at : Slid x y → P x y
      at r = rw (r.first, r.second) (h r.a r.b r.stands)

-- The cost

module _ (net : Net) where
  lengths-proper : (L : List Edge) → lengths (cost_in net) (those proper L) ≡ lengths (cost_in net) L
  unfolding lengths total those
  lengths-proper [] = refl
  lengths-proper (e ∷ L) =
      by (proper e)
      (λ h. rw (those, h) (omega (arith, lengths-proper L)))
      (λ h. rw (those, h)
      (let z : cost_in net e.0 e.1 ≡ 0 = rw (proper-false e.0 e.1 h) (cost-self net.weights e.1) in
      omega (arith, lengths-proper L)))

  module _ (s : Side) (on : Place → Bool) (d : ℕ) where
    abbrev unit : ℕ
    unit = weight net s * d

    shifted-cost : (T : List Edge) → ((a b : Place) → (a, b) ∈ T → Change net s on d a b) →
        lengths (cost_in net) (map (shift_edge s on d) T) + unit * length (those (ahead s on) T)
        ≡ lengths (cost_in net) T + unit * length (those (behind s on) T)
    unfolding lengths total those shift_edge
    shifted-cost [] h = refl
    shifted-cost (e ∷ T) h = at (shifted-cost T (λ a b m. h a b (there m))) (h e.0 e.1 (here refl))
      where
        A : ℕ
        A = length (those (ahead s on) T)

        B : ℕ
        B = length (those (behind s on) T)

        at : lengths (cost_in net) (map (shift_edge s on d) T) + unit * A ≡ lengths (cost_in net) T + unit * B → Change net s on d e.0
            e.1 →
            lengths (cost_in net) (map (shift_edge s on d) (e ∷ T)) + unit * length (those (ahead s on) (e ∷ T))
            ≡ lengths (cost_in net) (e ∷ T) + unit * length (those (behind s on) (e ∷ T))
        at ih (less p q r) = rw (those-hit (ahead s on) e T p, those-miss (behind s on) e T q) (omega (arith, mul-suc unit A, ih, r))
        at ih (more p q r) = rw (those-miss (ahead s on) e T p, those-hit (behind s on) e T q) (omega (arith, mul-suc unit B, ih, r))
        at ih (none p q r) = rw (those-miss (ahead s on) e T p, those-miss (behind s on) e T q) (omega (arith, ih, r))

    -- M11: distance times surplus times weight
    pub saved : (T : List Edge) → ((a b : Place) → (a, b) ∈ T → Change net s on d a b) →
        length (those (behind s on) T) ≤ length (those (ahead s on) T) →
        lengths (cost_in net) (slide s on d T) + saving_of s on net T d ≡ lengths (cost_in net) T
    unfolding slide saving_of surplus
    saved T h le =
        let A = length (those (ahead s on) T) in
        let B = length (those (behind s on) T) in
        let k = A - B in
        let split : A ≡ B + k = omega arith in
        let times : unit * A ≡ unit * B + unit * k = ap (λ (n : ℕ). unit * n) split ∙ mul-add unit B k in
        let order : d * k * weight net s ≡ unit * k = mul_comm (d * k) (weight net s) ∙ sym (mul_assoc (weight net s) d k) in
        omega (arith, lengths-proper (map (shift_edge s on d) T), shifted-cost T h, times, order)

-- The tree

module _ {s : Side} {on : Place → Bool} {net : Net} {X : List Place} {T : List Edge} (c : IsBar s net X T on)
    {f l : Place} {d : ℕ} (w : Allowed s net X T on f l d) where
  abbrev moving : Place → Place
  moving = shift s on d

  -- a tree point that a point of the bar comes to has an edge to it
  pub meeting : (x p : Place) → x ∈ X → on x ≡ false → on p ≡ true → moved s d p ≡ x → Link T p x
  meeting x p m e g k =
      let h = w.covers p g in
      let on_line : along s p ≡ along s x = sym (along-moved s d p) ∙ ap (along s) k in
      let raised : up (across s x) + down (across s p) ≡ d + up (across s p) + down (across s x) = rw k at (across-moved s d p) in
      let low = c.flat p g ∙ sym (c.flat f w.first_on) in
      let high = c.flat p g ∙ sym (c.flat l w.last_on) in
      let lu = ap up low in
      let ld = ap down low in
      let hu = ap up high in
      let hd = ap down high in
      let r = w.meets x m e (rw on_line at h.0) (rw on_line at h.1) (omega (arith, raised))
      (omega (arith, raised, across-moved s d l)) in
      let near : r.near ≡ p = one_place s r.near p (r.line ∙ sym on_line) (c.flat r.near r.point ∙ sym (c.flat p g)) in
      rw near at r.edge

  -- the point that is at y after the move: a point of the bar rather than another
  return : Place → Place
  return y = elim (on (moved (opposite s) d y)) [ true ↦ moved (opposite s) d y | false ↦ y ]

  return-on : (x : Place) → on x ≡ true → return (moving x) ≡ x
  unfolding return
  return-on x e =
      let back : moved (opposite s) d (moving x) ≡ x = ap (moved (opposite s) d) (shift-on s on d x e) ∙ there_and_back s d x in
      rw (return, ap on back ∙ e) back

  return-off : (x : Place) → on x ≡ false → on (moved (opposite s) d x) ≡ false → return (moving x) ≡ x
  unfolding return
  return-off x e g = let k = shift-off s on d x e in rw (return, k, g) k

  -- the edges that go
  gone : List Edge
  gone = those (λ e. not (proper e)) (map (shift_edge s on d) T)

  gone-count : length (slide s on d T) + length gone ≡ length T
  unfolding gone slide
  gone-count = those-split proper (map (shift_edge s on d) T) ∙ length-map T (shift_edge s on d)

  -- a link whose ends become one
  in-gone : (a b : Place) → (a, b) ∈ T → moving a ≡ moving b → moving a ∈ map (λ (e : Edge). e.0) gone
  unfolding gone shift_edge
  in-gone a b m e =
      in_map (λ (e : Edge). e.0)
      (in-those (λ e. not (proper e)) (map (shift_edge s on d) T) (in_map (shift_edge s on d) m)
      (rw (false-proper (moving a) (moving b) e) refl))

  -- each tree point comes back, or went with an edge
  module _ (Y : List Place) (all : Among (map moving X) Y) where
    returns : Among X (map return Y ++ map (λ (e : Edge). e.0) gone)
    returns x m = by (on x) (λ e. back (return-on x e)) λ e.
        by (on (moved (opposite s) d x))
        (λ g. Memᴰ.append_right (map return Y) (went e g (meeting x (moved (opposite s) d x) m e g (back-and-there s d x))))
        (λ g. back (return-off x e g))
      where
        back : return (moving x) ≡ x → x ∈ (map return Y ++ map (λ (e : Edge). e.0) gone)
        back e = Memᴰ.append_left _ (Memᴰ.cast (sym e) (in_map return (all _ (in_map moving m))))

        went : on x ≡ false → on (moved (opposite s) d x) ≡ true → Link T (moved (opposite s) d x) x → x ∈ map (λ (e : Edge). e.0) gone
        went e g k =
            let stays = shift-off s on d x e in
            let comes : moving (moved (opposite s) d x) ≡ x = shift-on s on d _ g ∙ back-and-there s d x in
            either
            (λ i. Memᴰ.cast (sym comes) (in-gone _ x i (comes ∙ sym stays)))
            (λ i. Memᴰ.cast (sym stays) (in-gone x _ i (stays ∙ sym comes)))
            k

    -- one tree, over any list of the moved points, each once
    module _ (once : Once Y) (only : Among Y (map moving X)) where
      still-joined : Joins X T → Joins Y (slide s on d T)
      still-joined j x y i k =
          let p = of_map moving X (only x i) in
          let q = of_map moving X (only y k) in
          between p.is q.is (carried moving pair (j p.entry q.entry p.stands q.stands))
        where
          pair : (a b : Place) → (a, b) ∈ T → Joined (slide s on d T) (moving a) (moving b)
          pair a b m = either stay (λ i. one (inl i)) (in-slide s on d T a b m)

      pub slide-tree : TreeOn X T → TreeOn Y (slide s on d T)
      slide-tree t =
          let joins = still-joined t.joins in
          let back = once-length X (map return Y ++ map (λ (e : Edge). e.0) gone) t.once returns in
          record {
            once = once;
            joins = joins;
            size = omega (
              arith,
              enough place_same once joins,
              back,
              gone-count,
              t.size,
              length-append (map return Y) (map (λ (e : Edge). e.0) gone),
              length-map Y return,
              length-map gone (λ (e : Edge). e.0),
            );
          }

      pub slide-inside : Inside X T → Inside Y (slide s on d T)
      slide-inside i x y m =
          let r = of-slide s on d T x y m in
          let h = i r.a r.b r.stands in
          (Memᴰ.cast r.first (all _ (in_map moving h.0)), Memᴰ.cast r.second (all _ (in_map moving h.1)))

      pub slide-pinned : Among net.pins X → Among net.pins Y
      slide-pinned h p i = Memᴰ.cast (sym (shift-off s on d p (c.free p i))) (all _ (in_map moving (h p i)))

  pub slide-clear : UprightAll net.macros → Straight T → Clear net.macros T → Clear net.macros (slide s on d T)
  slide-clear upright lines free =
      each-slid s on d T (λ x y. clear x y net.macros ≡ true) λ a b m.
      shift-clear c upright w a b m (kind s on c a b m (lines a b m)) (free a b m)

  pub slide-straight : Straight T → Straight (slide s on d T)
  slide-straight lines =
      each-slid s on d T (λ x y. straight (x, y) ≡ true) λ a b m.
      shift-straight s on d a b (kind s on c a b m (lines a b m)) (lines a b m)

  pub slide-saves : (net : Net) → Straight T → length (those (behind s on) T) ≤ length (those (ahead s on) T) →
      lengths (cost_in net) (slide s on d T) + saving_of s on net T d ≡ lengths (cost_in net) T
  slide-saves net lines le = saved net s on d T (λ a b m. change net s on d a b (near a b m) (kind s on c a b m (lines a b m))) le
    where
      near : (a b : Place) → (a, b) ∈ T → (p q : Place) → Link ((a, b) ∷ []) p q → on p ≡ true → Lt (across s p) (across s q) →
          d + (up (across s p) + down (across s q)) ≤ up (across s q) + down (across s p)
      near a b m p q (inl i) e h =
          either (λ k. w.short p q (inl (Memᴰ.cast k m)) e h) (λ k. elim k [ ]) (Memᴰ.cases_cons i)
      near a b m p q (inr i) e h =
          either (λ k. w.short p q (inr (Memᴰ.cast k m)) e h) (λ k. elim k [ ]) (Memᴰ.cases_cons i)
