-- What the scan of the edges counts is what hangs from the bar: entry by entry, a list with one more at its end.
-- Assumes nothing.
use mathlib.Core.Path.{◌≡◌, refl, sym, ap, ap₂, ◌∙◌}
use mathlib.Core.Bool.{Bool, true, false}
use mathlib.Core.List.{List, [], ◌∷◌, ◌++◌, map}
use Prim.Native.Nat.{ℕ, zero, suc, ◌+◌, ◌≤◌, min}
use native.Mathlib.Omega.{arith}
use borrow.Author.Tests.{ne_eqb}
use lib.Dec.{eqb}
use lib.ListN.{length}
use Rattle.lists.specs.Those.{those}
use Rattle.lists.proofs.TestLaws.{by}
use Rattle.plane.specs.declared.Place.{Place}
use Rattle.slide.specs.Bend.{Edge}
use Rattle.slide.specs.Bar.{ahead, behind, long, least}
use Rattle.straight.specs.Table.{run, edge_at, edges_in}
use Rattle.turned.specs.declared.Seen.{Seen}
use Rattle.hanging.specs.declared.Hang.{Hang}
use Rattle.turned.specs.Steps.{up_to}
use Rattle.turned.specs.Turned.{View, seen_edge, ahead_of, behind_of, long_of}
use Rattle.hanging.specs.Hanging.{counted, shorter, hung, none_hung, hang}
use Rattle.turned.proofs.StepLaws.{run_more}
use Rattle.turned.proofs.SeenLaws.{Sees, ahead-is, behind-is, long-is}

-- A list with one more at its end

pub those-append : {A : Type 0} (p : A → Bool) (l m : List A) → those p (l ++ m) ≡ those p l ++ those p m
unfolding those
those-append p [] m = refl
those-append p (x ∷ l) m =
    by (p x)
    (λ e. rw (those, e) (ap (λ k. x ∷ k) (those-append p l m)))
    (λ e. rw (those, e) (those-append p l m))

map-append : {A B : Type 0} (g : A → B) (l m : List A) → map g (l ++ m) ≡ map g l ++ map g m
map-append g [] m = refl
map-append g (x ∷ l) m = ap (λ k. g x ∷ k) (map-append g l m)

length_last : {A : Type 0} (l : List A) (x : A) → length (l ++ (x ∷ [])) ≡ length l + 1
length_last [] x = refl
length_last (y ∷ l) x = omega (arith, length_last l x)

length-map : {A B : Type 0} (g : A → B) (l : List A) → length (map g l) ≡ length l
length-map g [] = refl
length-map g (x ∷ l) = ap suc (length-map g l)

append-none : {A : Type 0} (l : List A) → l ++ [] ≡ l
append-none [] = refl
append-none (x ∷ l) = ap (λ k. x ∷ k) (append-none l)

-- The counts and the least, with one more

count-last : {A : Type 0} (p : A → Bool) (l : List A) (x : A) → length (those p (l ++ (x ∷ []))) ≡ counted (p x) (length (those p l))
unfolding those counted
count-last p l x =
    by (p x)
    (λ e. ap length (those-append p l (x ∷ [])) ∙ rw (those, e) (length_last (those p l) x))
    (λ e. ap length (those-append p l (x ∷ [])) ∙ rw (those, e) (ap length (append-none (those p l))))

min-three : (a b c : ℕ) → min a (min b c) ≡ min (min a b) c
min-three a b c = omega arith

not_none : (k a b : ℕ) → elim (eqb (suc k) 0) as (λ t. ℕ) [ true ↦ a | false ↦ b ] ≡ b
not_none k a b = rw (ne_eqb (suc k) 0 (λ e. let z : ⊥ = omega (arith, e) in z)) refl

least-last : (l : List ℕ) (d : ℕ) → least (l ++ (d ∷ [])) ≡ elim (eqb (length l) 0) as (λ t. ℕ) [ true ↦ d | false ↦ min (least l) d ]
unfolding least
least-last [] d = refl
least-last (n ∷ []) d = refl
least-last (n ∷ (m ∷ l)) d =
    ap (min n) (least-last (m ∷ l) d ∙ not_none (length l) d (min (least (m ∷ l)) d))
    ∙ min-three n (least (m ∷ l)) d
    ∙ sym (not_none (suc (length l)) d (min (min n (least (m ∷ l))) d))

abbrev hang_in : {A : Type 0} → (A → Bool) → (A → Bool) → (A → ℕ) → List A → Hang
hang_in p q g l = record { ahead = length (those p l); behind = length (those q l); shortest = least (map g (those p l)) }

least_more : {A : Type 0} (p : A → Bool) (q : A → Bool) (g : A → ℕ) (l : List A) (x : A)
    → least (map g (those p (l ++ (x ∷ [])))) ≡ shorter (p x) (g x) (hang_in p q g l)
unfolding those shorter
least_more p q g l x =
    ap (λ k. least (map g k)) (those-append p l (x ∷ []))
    ∙ by (p x)
    (λ e. rw (those, shorter, e) (ap least (map-append g (those p l) (x ∷ []))
    ∙ least-last (map g (those p l)) (g x)
    ∙ ap (λ (n : ℕ). elim (eqb n 0) as (λ t. ℕ) [ true ↦ g x | false ↦ min (least (map g (those p l))) (g x) ]) (length-map g (those p l))))
    (λ e. rw (those, shorter, e) (ap (λ k. least (map g k)) (append-none (those p l))))

hung-more : {A : Type 0} (p q : A → Bool) (g : A → ℕ) (l : List A) (x : A) (e : Seen) → p x ≡ ahead_of e → q x ≡ behind_of e → g x ≡ long_of e
    → hung e (hang_in p q g l) ≡ hang_in p q g (l ++ (x ∷ []))
unfolding hung
hung-more p q g l x e a b c =
    rw (hung, sym a, sym b, sym c)
    (ap₂ (λ (i j : ℕ). let r : Hang = record { ahead = i; behind = j; shortest = shorter (p x) (g x) (hang_in p q g l) } in r)
    (sym (count-last p l x)) (sym (count-last q l x))
    ∙ ap (λ (d : ℕ). let r : Hang = record {
      ahead = length (those p (l ++ (x ∷ [])));
      behind = length (those q (l ++ (x ∷ [])));
      shortest = d;
    } in r)
    (sym (least_more p q g l x)))

module _ {v : View} {n e : ℕ} {on : Place → Bool} (r : Sees v n e on) where
  abbrev hang_on : List Edge → Hang
  hang_on = hang_in (ahead v.side on) (behind v.side on) (long v.side)

  scan : (k : ℕ) → k ≤ e → up_to (λ j. hung (seen_edge v j)) k none_hung ≡ hang_on (edges_in v.points v.keys k)
  unfolding up_to run those least
  scan zero h = refl
  scan (suc k) h =
      ap (hung (seen_edge v k)) (scan k (omega arith))
      ∙ hung-more (ahead v.side on) (behind v.side on) (long v.side) (edges_in v.points v.keys k)
      (edge_at v.points v.keys k)
      (seen_edge v k) (ahead-is r k (omega arith)) (behind-is r k (omega arith)) (long-is r k (omega arith))
      ∙ ap hang_on (sym (run_more (edge_at v.points v.keys) k))

  pub hang-is : hang v e ≡ hang_on (edges_in v.points v.keys e)
  unfolding hang
  hang-is = scan e (omega arith)
