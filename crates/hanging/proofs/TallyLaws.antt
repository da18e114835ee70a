-- What hangs, one number a bar: the number read back, an edge hung on the bars of its ends, and the table of all bars.
-- Assumes nothing.
use mathlib.Core.Path.{◌≡◌, refl, sym, ap, ap₂, ◌∙◌}
use mathlib.Core.Bool.{false}
use mathlib.Core.List.{List}
use Prim.Native.Nat.{ℕ, ◌+◌, ◌*◌, ◌/◌, ◌%◌, ◌^◌, ◌≤◌, ◌<◌}
use native.Mathlib.Omega.{arith}
use native.Mathlib.Numerals.{add-one}
use borrow.Author.Tests.{ne_eqb, eqb-true, eqb-false}
use lib.Dec.{eqb}
use lib.IntN.{ℤ}
use lib.ListN.{length, get_or, set, replicate, length-set, length-replicate, get_or-replicate}
use lib.Seq.{get_or-set_same, get_or-set_other}
use Rattle.lists.proofs.TestLaws.{by}
use Rattle.slide.specs.declared.Side.{Side}
use Rattle.straight.specs.Table.{straight_bound, first_end, second_end}
use Rattle.turned.specs.declared.Seen.{Seen}
use Rattle.hanging.specs.declared.Hang.{Hang}
use Rattle.turned.specs.Steps.{up_to}
use Rattle.turned.specs.Turned.{View, view, on_it, seen_edge, ahead_of, behind_of}
use Rattle.hanging.specs.Hanging.{counted, shorter, hung, hang, count_limit, code, uncode, Coded, Added, Tallied}
use Rattle.hanging.proofs.CodeLaws.{hung-small}

-- The number read back

abbrev hang_of : ℕ → ℕ → ℕ → Hang
hang_of a b d = record { ahead = a; behind = b; shortest = d }

module _ {k : ℕ} {h : Hang} {c : ℕ} (few : k ≤ straight_bound) (g : Coded k h c) where
  pub read_back : uncode c ≡ h
  read_back =
      let n : c / 8589934592 ≡ h.ahead * count_limit + h.behind = omega (arith, g.coded, g.short) in
      let a : c / 8589934592 / count_limit ≡ h.ahead = omega (arith, n, g.counts) in
      let b : c / 8589934592 % count_limit ≡ h.behind = omega (arith, n, g.counts) in
      let d : c % 8589934592 ≡ h.shortest = omega (arith, g.coded, g.short) in
      ap₂ (λ (x y : ℕ). hang_of x y (c % 8589934592)) a b ∙ ap (hang_of h.ahead h.behind) d

-- One edge more

hang-next : (v : View) (k : ℕ) → hang v (k + 1) ≡ hung (seen_edge v k) (hang v k)
unfolding hang up_to
hang-next v k = rw (add-one k) refl

-- an edge of other bars hangs nowhere on this one
hung-off : (v : View) (k : ℕ) (h : Hang) → on_it v (first_end (get_or v.keys k 0)) ≡ false
    → on_it v (second_end (get_or v.keys k 0)) ≡ false → hung (seen_edge v k) h ≡ h
unfolding hung ahead_of behind_of counted shorter
hung-off v k h e f = rw (hung, ahead_of, behind_of, e, f) refl

pub hang-off : (v : View) (k : ℕ) → on_it v (first_end (get_or v.keys k 0)) ≡ false
    → on_it v (second_end (get_or v.keys k 0)) ≡ false → hang v (k + 1) ≡ hang v k
hang-off v k e f = hang-next v k ∙ hung-off v k (hang v k) e f

-- the entry of a bar with the edge hung on it, as the code works it out
module _ (v : View) (k : ℕ) (t : List ℕ) (few : k < straight_bound) (g : Coded k (hang v k) (get_or t v.label 0)) (h : Hang)
    (is : h ≡ uncode (get_or t v.label 0)) where
  was : h ≡ hang v k
  was = is ∙ read_back (let z : k ≤ straight_bound = omega (arith, few) in z) g

  pub was-few : (h.ahead ≤ k) × (h.behind ≤ k)
  was-few = (
    omega (arith, ap (λ (x : Hang). x.ahead) was, g.counts),
    omega (arith, ap (λ (x : Hang). x.behind) was, g.counts),
  )

  module _ (e : Seen) (sees : e ≡ seen_edge v k) (low : e.from.across ≤ 2 ^ 32) (high : e.to.across ≤ 2 ^ 32) (r : Hang)
      (hangs : r ≡ hung e h) where
    now-is : r ≡ hang v (k + 1)
    now-is = hangs ∙ ap₂ (λ (x : Seen) (y : Hang). hung x y) sees was ∙ sym (hang-next v k)

    pub now-few : ((r.ahead ≤ k + 1) × (r.behind ≤ k + 1)) × (r.shortest ≤ 2 ^ 32)
    now-few =
        let short : h.shortest ≤ 2 ^ 32 = omega (arith, ap (λ (x : Hang). x.shortest) was, g.short) in
        hung-small e h r k (2 ^ 32) hangs was-few.0 was-few.1 short low high

    pub added : (c : ℕ) (u : List ℕ) → c ≡ code r → u ≡ set t v.label c → Added v k t u
    added c u f w = record {
      written = w ∙ ap (λ (x : ℕ). set t v.label x) (f ∙ ap (λ (x : Hang). code x) now-is);
      next = record {
        coded = refl;
        counts = (
          omega (arith, ap (λ (x : Hang). x.ahead) now-is, now-few),
          omega (arith, ap (λ (x : Hang). x.behind) now-is, now-few),
        );
        short = omega (arith, ap (λ (x : Hang). x.shortest) now-is, now-few);
      };
    }

-- The table

module _ (pts : List ℤ) (ks lab : List ℕ) (s : Side) (k : ℕ) (t : List ℕ) (g : Tallied pts ks lab s k t) where
  abbrev at : ℕ → View
  at l = view pts ks lab s l

  abbrev first : ℕ
  first = get_or lab (first_end (get_or ks k 0)) 0

  abbrev second : ℕ
  second = get_or lab (second_end (get_or ks k 0)) 0

  -- the entry of a bar that the edge does not touch
  stays : (l : ℕ) → l < straight_bound → (first ≡ l → ⊥) → (second ≡ l → ⊥) → Coded (k + 1) (hang (at l) (k + 1)) (get_or t l 0)
  stays l h p q =
      let same = hang-off (at l) k (ne_eqb first l p) (ne_eqb second l q) in
      let old = g.each l h in record {
        coded = old.coded ∙ ap (λ (x : Hang). code x) (sym same);
        counts = (
          omega (arith, ap (λ (x : Hang). x.ahead) same, old.counts),
          omega (arith, ap (λ (x : Hang). x.behind) same, old.counts),
        );
        short = omega (arith, ap (λ (x : Hang). x.shortest) same, old.short);
      }

  -- the entry of a bar with the edge hung on it, and every other as it was
  written-there : {l : ℕ} {u : List ℕ} {w : List ℕ} → length u ≡ straight_bound → l < straight_bound → Added (at l) k u w
      → Coded (k + 1) (hang (at l) (k + 1)) (get_or w l 0)
  written-there {l = l} {u = u} {w = w} room h a =
      let e : get_or w l 0 ≡ code (hang (at l) (k + 1)) =
      ap (λ (x : List ℕ). get_or x l 0) a.written ∙ get_or-set_same u l _ 0 (omega (arith, room, h)) in
      record { coded = e; counts = a.next.counts; short = a.next.short }

  written-else : {l : ℕ} {u : List ℕ} {w : List ℕ} → Added (at l) k u w → (j : ℕ) → (l ≡ j → ⊥) → get_or w j 0 ≡ get_or u j 0
  written-else {l = l} {u = u} a j o = ap (λ (x : List ℕ). get_or x j 0) a.written ∙ get_or-set_other u l j _ 0 (λ e. o (sym e))

  written-room : {l : ℕ} {u : List ℕ} {w : List ℕ} → length u ≡ straight_bound → Added (at l) k u w → length w ≡ straight_bound
  written-room {l = l} {u = u} room a = ap length a.written ∙ length-set u l _ ∙ room

  module _ (p q : ℕ) (is-first : p ≡ first) (is-second : q ≡ second) (small : p < straight_bound) (u : List ℕ) (a : Added (at p) k t u) where
    pub still-coded : q < straight_bound → (p ≡ q → ⊥) → Coded k (hang (at q) k) (get_or u q 0)
    still-coded h o = let e = written-else a q o in let old = g.each q h in
        record { coded = e ∙ old.coded; counts = old.counts; short = old.short }

    one-else : (l : ℕ) → l < straight_bound → (p ≡ l → ⊥) → (q ≡ l → ⊥) → Coded (k + 1) (hang (at l) (k + 1)) (get_or u l 0)
    one-else l h o n =
        let r = stays l h (λ e. o (is-first ∙ e)) (λ e. n (is-second ∙ e)) in
        record { coded = written-else a l o ∙ r.coded; counts = r.counts; short = r.short }

    -- both ends are of one bar
    pub one-bar : p ≡ q → Tallied pts ks lab s (k + 1) u
    one-bar same = record {
      room = written-room g.room a;
      each = λ l h. by (eqb p l)
          (λ e. let i = eqb-true p l e in rw (← i) (written-there g.room small a))
          (λ e. let o = eqb-false p l e in one-else l h o (λ i. o (same ∙ i)));
    }

    -- of two
    pub two-bars : q < straight_bound → (w : List ℕ) → Added (at q) k u w → Tallied pts ks lab s (k + 1) w
    two-bars less w b = record {
      room = written-room (written-room g.room a) b;
      each = λ l h. by (eqb q l)
          (λ e. let i = eqb-true q l e in rw (← i) (written-there (written-room g.room a) less b))
          (λ e. let o = eqb-false q l e in
          let r = by (eqb p l)
          (λ f. let i = eqb-true p l f in rw (← i) (written-there g.room small a))
          (λ f. one-else l h (eqb-false p l f) o) in
          record { coded = written-else b l o ∙ r.coded; counts = r.counts; short = r.short });
    }

-- none so far
none-coded : (v : View) → Coded 0 (hang v 0) 0
unfolding hang up_to
none-coded v = record { coded = refl; counts = (omega arith, omega arith); short = omega arith }

pub tally-none : (pts : List ℤ) (ks lab : List ℕ) (s : Side) (t : List ℕ) → t ≡ replicate straight_bound 0 → Tallied pts ks lab s 0 t
tally-none pts ks lab s t e = record {
  room = ap length e ∙ length-replicate {A = ℕ} straight_bound 0;
  each = λ l h.
      let z : get_or t l 0 ≡ 0 = ap (λ (x : List ℕ). get_or x l 0) e ∙ get_or-replicate straight_bound l 0 0 h in
      rw z (none-coded (view pts ks lab s l));
}

pub tally-end : {pts : List ℤ} {ks lab : List ℕ} {s : Side} {t : List ℕ} (k e : ℕ) → Tallied pts ks lab s k t → k ≤ e → e ≤ k
    → Tallied pts ks lab s e t
tally-end k e g h l = let z : e ≡ k = omega (arith, h, l) in rw z g
