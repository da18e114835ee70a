-- The round's choice: no bar has a better move, by saving, then first place, then direction.
-- Assumes nothing.
use mathlib.Core.Path.{◌≡◌, refl, sym, ap, ◌∙◌}
use mathlib.Core.Bool.{Bool, true, false}
use mathlib.Core.List.Memᴰ
use mathlib.Core.List.{List, [], ◌∷◌, ◌++◌}
use Rattle.lists.specs.Member.{◌∈◌, here, there}
use Rattle.lists.specs.Sorted.{Order, first_then}
use Rattle.lists.proofs.TestLaws.{by, differ, either}
use Rattle.lists.proofs.OrderLaws.{number-order, pair-order}
use Rattle.plane.specs.Place.{before}
use Rattle.plane.proofs.PlaceOrder.{place-order}
use Rattle.net.specs.Net.{Net}
use Rattle.slide.specs.declared.Side.{Side}
use Rattle.slide.specs.declared.Side.TheVariants.{Above, Below, Right, Left}
use Rattle.slide.specs.Bend.{Edge}
use Rattle.slide.specs.declared.Move.{Move}
use Rattle.slide.specs.Slide.{move_of, moves_of, greater, flatter, rank, better, best_of, choice}

greater-order : Order greater
greater-order = record {
  never = number-order.never;
  along = λ a b c e f. number-order.along c b a f e;
  tie = λ a b e f. number-order.tie a b f e;
}

flatter-order : Order flatter
flatter-order = record { never = never; along = along; tie = tie }
  where
    never : (a : Bool) → flatter a a ≡ false
    never true = refl
    never false = refl

    along : (a b c : Bool) → flatter a b ≡ true → flatter b c ≡ true → flatter a c ≡ true
    along true true c e f = differ e refl
    along true false c e f = differ f refl
    along false b c e f = differ e refl

    tie : (a b : Bool) → flatter a b ≡ false → flatter b a ≡ false → a ≡ b
    tie true true e f = refl
    tie true false e f = differ refl e
    tie false true e f = differ refl f
    tie false false e f = refl

rank-order : Order (first_then greater (first_then before flatter))
rank-order = pair-order greater (first_then before flatter) greater-order (pair-order before flatter place-order flatter-order)

-- not better and not better is not better
no-better : (k m n : Move) → better k m ≡ false → better m n ≡ false → better k n ≡ false
unfolding better
no-better k m n h g =
    by (better k n)
    (λ e. by (better n m)
    (λ f. differ (rank-order.along (rank k) (rank n) (rank m) e f) h)
    (λ f. differ (ap (first_then greater (first_then before flatter) (rank k)) (rank-order.tie (rank m) (rank n) g f) ∙ e) h))
    (λ e. e)

not_itself : (m : Move) → better m m ≡ false
unfolding better
not_itself m = rank-order.never (rank m)

not-both : (m n : Move) → better n m ≡ true → better m n ≡ false
unfolding better
not-both m n e = by (better m n) (λ f. differ (rank-order.along (rank m) (rank n) (rank m) f e) (rank-order.never (rank m))) (λ f. f)

best-first : (m : Move) (l : List Move) → better m (best_of m l) ≡ false
unfolding best_of
best-first m [] = not_itself m
best-first m (n ∷ l) =
    by (better n m)
    (λ e. rw (best_of, e) (no-better m n (best_of n l) (not-both m n e) (best-first n l)))
    (λ e. rw (best_of, e) (best-first m l))

best-all : (m : Move) (l : List Move) (k : Move) → k ∈ l → better k (best_of m l) ≡ false
unfolding best_of
best-all m [] k i = elim i [ ]
best-all m (n ∷ l) k i =
    by (better n m)
    (λ e. rw (best_of, e) (either (λ q. rw q (best-first n l)) (best-all n l k) (Memᴰ.cases_cons i)))
    (λ e. rw (best_of, e) (either (λ q. rw q (no-better n m (best_of m l) e (best-first m l))) (best-all m l k) (Memᴰ.cases_cons i)))

-- A scan: what is best so far, then the rest; a move that was met before changes nothing

pub best-scan : (m : Move) (k l : List Move) → best_of m (k ++ l) ≡ best_of (best_of m k) l
unfolding best_of
best-scan m [] l = refl
best-scan m (n ∷ k) l =
    by (better n m) (λ e. rw (best_of, e) (best-scan n k l)) (λ e. rw (best_of, e) (best-scan m k l))

pub best-again : (m : Move) (k l : List Move) (n : Move) → n ∈ k → best_of m (k ++ (n ∷ l)) ≡ best_of m (k ++ l)
unfolding best_of
best-again m k l n i =
    best-scan m k (n ∷ l) ∙ rw (best_of, best-all m k n i) (sym (best-scan m k l))

module _ (net : Net) where
  -- every bar is among the moves
  pub in-moves : (T L : List Edge) (s : Side) (e : Edge) → e ∈ L → move_of net T s e ∈ moves_of net T L
  unfolding moves_of
  in-moves T [] s e m = elim m [ ]
  in-moves T (d ∷ L) s e m = either (λ k. rw k (at s)) (λ i. there (there (there (there (in-moves T L s e i))))) (Memᴰ.cases_cons m)
    where
      at : (s : Side) → move_of net T s d ∈ moves_of net T (d ∷ L)
      at Above = here refl
      at Below = there (here refl)
      at Right = there (there (here refl))
      at Left = there (there (there (here refl)))

  -- M12: no bar of the tree has a better move
  pub choice-best : (e : Edge) (L : List Edge) (s : Side) (d : Edge) → d ∈ (e ∷ L) →
      better (move_of net (e ∷ L) s d) (choice net (e ∷ L) e L) ≡ false
  unfolding choice
  choice-best e L s d m = best-all _ (moves_of net (e ∷ L) (e ∷ L)) _ (in-moves (e ∷ L) (e ∷ L) s d m)
