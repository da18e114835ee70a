-- The search over all edges keeps a move that agrees with the round's choice.
-- Assumes nothing.
use mathlib.Core.Path.{◌≡◌, refl, sym, ap, ◌∙◌, subst}
use mathlib.Core.Bool.{true, false}
use mathlib.Core.List.Memᴰ
use mathlib.Core.List.{List, [], ◌∷◌, ◌++◌}
use Prim.Native.Nat.{ℕ, zero, suc, ◌≤◌, ◌<◌}
use native.Mathlib.Omega.{arith}
use borrow.Author.Tests.{eqb-true, eqb-false}
use lib.Dec.{eqb}
use lib.IntN.{ℤ}
use lib.ListN.{get_or}
use Rattle.lists.specs.Member.{◌∈◌}
use Rattle.lists.proofs.TestLaws.{by, and_left}
use Rattle.net.specs.Net.{Net}
use Rattle.slide.specs.declared.Side.{Side}
use Rattle.slide.specs.declared.Side.TheVariants.{Above, Below, Right, Left}
use Rattle.slide.specs.declared.Move.{Move}
use Rattle.slide.specs.Bend.{Edge}
use Rattle.slide.specs.Bar.{level}
use Rattle.slide.specs.Slide.{moves, move_of, moves_of, better, best_of, choice}
use Rattle.slide.proofs.ChoiceLaws.{best-scan, best-again, in-moves}
use Rattle.straight.specs.Table.{run, first_end, edge_at, edges_in}
use Rattle.straight.proofs.RunLaws.{in-run}
use Rattle.bars.specs.declared.Best.{Best}
use Rattle.reach.specs.declared.Size.{Size}
use Rattle.turned.specs.Steps.{up_to}
use Rattle.turned.specs.Turned.{view, level_at}
use Rattle.labels.specs.Labelling.{leads}
use Rattle.moves.specs.Moving.{opposite}
use Rattle.bars.specs.Offers.{no_move, offered_both, searched}
use Rattle.moves.proofs.MovingLaws.{better-more}
use Rattle.turned.proofs.StepLaws.{run_more}
use Rattle.bars.proofs.AgreeLaws.{Agrees, none-agrees, agrees-none, agrees-taken, offered-agrees}
use Rattle.bars.proofs.MoveLaws.{still, Ready, even, pins-stay, moves_so}

pub agrees-then : (a b c : Move) → Agrees a b → Agrees b c → Agrees a c
agrees-then a b c p q = record {
  saves = p.saves ∙ q.saves;
  is = λ h. p.is (let e = q.saves in omega (arith, h, e)) ∙ q.is h;
}

agrees-as : (a b c : Move) → c ≡ b → Agrees a b → Agrees a c
agrees-as a b c e p = subst (Agrees a) (sym e) p

-- from moves that agree, the best of a list agrees
pub agrees-list : (l : List Move) (b c : Move) → Agrees b c → Agrees (best_of b l) (best_of c l)
unfolding best_of
agrees-list [] b c a = a
agrees-list (n ∷ l) b c a =
    rw (best-scan b (n ∷ []) l, best-scan c (n ∷ []) l) (agrees-list l (best_of b (n ∷ [])) (best_of c (n ∷ [])) (agrees-taken b c n a))

best-own : (n : Move) → best_of n (n ∷ []) ≡ n
unfolding best_of
best-own n = by (better n n) (λ g. rw (best_of, g) refl) (λ g. rw (best_of, g) refl)

first-agrees : (w n : Move) → w.saving ≡ 0 → Agrees (best_of w (n ∷ [])) n
unfolding best_of
first-agrees w n e =
    by (eqb n.saving 0)
    (λ g.
    let z = eqb-true n.saving 0 g in
    by (better n w) (λ h. rw (best_of, h) (none-agrees n n z z)) (λ h. rw (best_of, h) (none-agrees w n e z)))
    (λ g.
    let d = eqb-false n.saving 0 g in
    let h = sym (better-more n w (omega (arith, d, e))) in
    rw (best_of, h) (record { saves = refl; is = λ k. refl }))

-- whether a list begins with its own first move, or with one that saves nothing
start-agrees : (w n : Move) (l : List Move) → w.saving ≡ 0 → Agrees (best_of w (n ∷ l)) (best_of n (n ∷ l))
start-agrees w n l e =
    rw (best-scan w (n ∷ []) l, best-scan n (n ∷ []) l, best-own n) (agrees-list l (best_of w (n ∷ [])) n (first-agrees w n e))

moves-append : (net : Net) (T l : List Edge) (x : Edge)
    → moves_of net T (l ++ (x ∷ []))
    ≡ moves_of net T l ++ (move_of net T Above x ∷ (move_of net T Below x ∷ (move_of net T Right x ∷ (move_of net T Left x ∷ []))))
unfolding moves_of
moves-append net T [] x = refl
moves-append net T (y ∷ l) x =
    ap (λ (m : List Move). move_of net T Above y ∷ (move_of net T Below y ∷ (move_of net T Right y ∷ (move_of net T Left y ∷ m))))
    (moves-append net T l x)

leads-level : (s : Side) (pts : List ℤ) (ks lab : List ℕ) (k : ℕ) → leads s pts ks lab k ≡ true → level_at s pts ks k ≡ true
unfolding leads
leads-level s pts ks lab k e = and_left (level_at s pts ks k) _ e

-- a move that was met before changes nothing
best-stays : (m : Move) (K : List Move) (n : Move) → n ∈ K → best_of (best_of m K) (n ∷ []) ≡ best_of m K
unfolding best_of
best-stays m K n i = sym (best-scan m K (n ∷ [])) ∙ best-again m K [] n i ∙ best-scan m K []

best-two : (c : Move) (K : List Move) (m n : Move) → best_of c (K ++ (m ∷ (n ∷ []))) ≡ best_of (best_of (best_of c K) (m ∷ [])) (n ∷ [])
best-two c K m n = best-scan c K (m ∷ (n ∷ [])) ∙ best-scan (best_of c K) (m ∷ []) (n ∷ [])

module _ (net : Net) (pts : List ℤ) (ks : List ℕ) (z : Size) (ms : List ℤ) (seats : List ℕ) where
  abbrev T : List Edge
  T = edges_in pts ks z.edges

  -- an edge that is not along the bars of a side moves none
  slanted : (s : Side) (x : Edge) → level s x ≡ false → (move_of net T s x).saving ≡ 0
  unfolding moves
  slanted s x e = still net T s x (rw (moves, e) refl)

  -- an edge before k has its moves
  pub record Again (s : Side) (k : ℕ) : Type 0 where
    pub earlier : ℕ
    pub low : earlier < k
    pub one : move_of net T s (edge_at pts ks k) ≡ move_of net T s (edge_at pts ks earlier)
    pub other : move_of net T (opposite s) (edge_at pts ks k) ≡ move_of net T (opposite s) (edge_at pts ks earlier)

  -- the bar of edge k, of each side of its direction, is ready; or the edge is not a first one of its bar
  pub record Direction (s : Side) (lab : List ℕ) : Type 0 where
    pub levels : (k : ℕ) → k < z.edges → level s (edge_at pts ks k) ≡ level_at s pts ks k
    pub levels-too : (k : ℕ) → k < z.edges → level (opposite s) (edge_at pts ks k) ≡ level_at s pts ks k
    pub ready : (k : ℕ) → k < z.edges → level_at s pts ks k ≡ true
        → Ready net (view pts ks lab s (get_or lab (first_end (get_or ks k 0)) 0)) z ms seats k (first_end (get_or ks k 0))
    pub ready-too : (k : ℕ) → k < z.edges → level_at s pts ks k ≡ true
        → Ready net (view pts ks lab (opposite s) (get_or lab (first_end (get_or ks k 0)) 0)) z ms seats k (first_end (get_or ks k 0))
    pub again : (k : ℕ) → k < z.edges → level_at s pts ks k ≡ true → leads s pts ks lab k ≡ false → Again s k

  module _ (s : Side) (lab : List ℕ) (r : Direction s lab) (k : ℕ) (h : k < z.edges) where
    abbrev x : Edge
    x = edge_at pts ks k

    -- from the best of the moves K, among which are those of all edges before
    both-agrees : (c : Best) (b : Move) (K : List Move) → Agrees c.best (best_of b K)
        → ((j : ℕ) (o : Side) → j < k → move_of net T o (edge_at pts ks j) ∈ K)
        → Agrees (offered_both pts ks lab z ms seats s k c).best (best_of b (K ++ (move_of net T s x ∷ (move_of net T (opposite s) x ∷ []))))
    unfolding offered_both
    both-agrees c b K a before =
        let m = best_of b K in
        agrees-as _ _ _ (best-two b K (move_of net T s x) (move_of net T (opposite s) x))
        (by (leads s pts ks lab k)
        (λ e.
        let l = leads-level s pts ks lab k e in
        let p = r.ready k h l in
        let q = r.ready-too k h l in
        rw (offered_both, e)
        (offered-agrees _ z ms seats _ _ (even _ _ _ _ _ _ _ q) (pins-stay _ _ _ _ _ _ _ q) (moves_so _ _ _ _ _ _ _ q) q.far _
        (offered-agrees _ z ms seats c _ (even _ _ _ _ _ _ _ p) (pins-stay _ _ _ _ _ _ _ p) (moves_so _ _ _ _ _ _ _ p) p.far m a)))
        (λ e. by (level_at s pts ks k)
        (λ l.
        let w = r.again k h l e in
        let i : move_of net T s x ∈ K = rw w.one (before w.earlier s w.low) in
        let j : move_of net T (opposite s) x ∈ K = rw w.other (before w.earlier (opposite s) w.low) in
        rw (offered_both, e)
        (agrees-as _ _ _
        (ap (λ (n : Move). best_of n (move_of net T (opposite s) x ∷ [])) (best-stays b K (move_of net T s x) i)
        ∙ best-stays b K (move_of net T (opposite s) x) j)
        a))
        (λ l. rw (offered_both, e)
        (agrees-none _ _ _ (agrees-none _ _ _ a (slanted s x (r.levels k h ∙ l))) (slanted (opposite s) x (r.levels-too k h ∙ l))))))

  module _ (rows columns : List ℕ) (flat : Direction Above rows) (steep : Direction Right columns) where
    abbrev step : ℕ → Best → Best
    step k c = offered_both pts ks columns z ms seats Right k (offered_both pts ks rows z ms seats Above k c)

    -- the moves of the first k edges, and of edge k along rows
    abbrev K : ℕ → List Move
    K k = moves_of net T (edges_in pts ks k)

    abbrev K-rows : ℕ → List Move
    K-rows k = K k ++ (move_of net T Above (edge_at pts ks k) ∷ (move_of net T Below (edge_at pts ks k) ∷ []))

    met : (k j : ℕ) (o : Side) → j < k → move_of net T o (edge_at pts ks j) ∈ K k
    met k j o h = in-moves net T (edges_in pts ks k) o (edge_at pts ks j) (in-run (edge_at pts ks) k 0 j (omega arith) (omega (arith, h)))

    moves-are : (k : ℕ) → K (suc k) ≡ K-rows k ++ (move_of net T Right (edge_at pts ks k) ∷ (move_of net T Left (edge_at pts ks k) ∷ []))
    moves-are k =
        ap (moves_of net T) (run_more (edge_at pts ks) k)
        ∙ moves-append net T (edges_in pts ks k) (edge_at pts ks k)
        ∙ two-and-two (K k) _ _ _ _
      where
        two-and-two : (l : List Move) (m n o p : Move) → l ++ (m ∷ (n ∷ (o ∷ (p ∷ [])))) ≡ (l ++ (m ∷ (n ∷ []))) ++ (o ∷ (p ∷ []))
        two-and-two [] m n o p = refl
        two-and-two (q ∷ l) m n o p = ap (λ (y : List Move). q ∷ y) (two-and-two l m n o p)

    scan : (k : ℕ) → k ≤ z.edges → Agrees (up_to step k no_move).best (best_of no_move.best (K k))
    unfolding up_to run moves_of best_of opposite
    scan zero h = record { saves = refl; is = λ l. refl }
    scan (suc k) h =
        let a = both-agrees Above rows flat k (omega arith) (up_to step k no_move) no_move.best (K k) (scan k (omega arith)) (met k) in
        agrees-as _ _ _ (ap (best_of no_move.best) (moves-are k))
        (both-agrees Right columns steep k (omega arith) _ no_move.best (K-rows k) a
        (λ j o l. Memᴰ.append_left (move_of net T Above (edge_at pts ks k) ∷ (move_of net T Below (edge_at pts ks k) ∷ [])) (met k j o l)))

    pub searched-agrees : (e : Edge) (L : List Edge) → T ≡ e ∷ L → Agrees (searched pts ks rows columns z ms seats).best (choice net T e L)
    unfolding searched choice moves_of
    searched-agrees e L q =
        agrees-then _ (best_of no_move.best (moves_of net T (e ∷ L))) _
        (subst (λ (l : List Edge). Agrees (up_to step z.edges no_move).best (best_of no_move.best (moves_of net T l))) q
        (scan z.edges (omega arith)))
        (start-agrees no_move.best (move_of net T Above e) _ refl)
