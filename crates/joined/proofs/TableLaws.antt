-- What a pass over the items keeps by a table of labels is what the theory keeps. After each item the table holds, at every number, the
-- label that the items kept so far give it.
-- Assumes nothing.
use mathlib.Core.Path.{◌≡◌, refl, sym, ap, ◌∙◌}
use mathlib.Core.List.{List, [], ◌∷◌, map, reverse, reverse_aux, reverse-reverse}
use Prim.Native.Nat.{ℕ, ◌≤◌, ◌<◌}
use native.Mathlib.Decide.{ℕ_discrete}
use native.Mathlib.Omega.{arith}
use borrow.Author.Tests.{eqb-true, eqb-false}
use lib.Dec.{eqb}
use lib.ListN.{length, length-map, get_or}
use Rattle.lists.specs.Member.{here, there}
use Rattle.lists.proofs.TestLaws.{by}
use Rattle.lists.proofs.MapLaws.{get_d_map}
use Rattle.lists.proofs.MemberLaws.{in-reverse, of_reverse}
use Rattle.joined.specs.Joined.{Joined}
use Rattle.joined.specs.Labels.{renamed, merge, labels}
use Rattle.joined.specs.Keep.{keep, kept}
use Rattle.joined.specs.Table.{changed, kept_by, merged_by, Below}
use Rattle.joined.proofs.JoinedLaws.{more}
use Rattle.joined.proofs.LabelLaws.{renamed-hit, renamed-miss, labelled, joined_same, same-joined}
use Rattle.joined.proofs.KeepLaws.{Keeps, dropped, taken, keeps, keep-none}

pub changed-renamed : (a b x : ℕ) → changed a b x ≡ renamed ℕ_discrete a b x
unfolding changed
changed-renamed a b x =
    by (eqb x b)
    (λ e. rw (changed, e) (sym (renamed-hit ℕ_discrete a b x (eqb-true x b e))))
    (λ e. rw (changed, e) (sym (renamed-miss ℕ_discrete a b x (eqb-false x b e))))

module _ {B : Type 0} (ends : B → ℕ × ℕ) (n : ℕ) where
  -- the label of a number by the items kept of those offered so far
  abbrev label : List B → ℕ → ℕ
  label M = labels ℕ_discrete (map ends (keep ℕ_discrete ends M))

  -- the table holds these labels
  abbrev Holds : List ℕ → List B → Type 0
  Holds t M = (n ≤ length t) × ((x : ℕ) → x < n → get_or t x 0 ≡ label M x)

  module _ (e : B) (a : (ends e).0 < n) (b : (ends e).1 < n) (t : List ℕ) (M : List B) (h : Holds t M) where
    abbrev p : ℕ
    p = get_or t (ends e).0 0

    abbrev q : ℕ
    q = get_or t (ends e).1 0

    -- equal labels: the item is dropped, and the table stands as it is
    same-label : p ≡ q → keep ℕ_discrete ends (e ∷ M) ≡ keep ℕ_discrete ends M
    same-label k = at (keeps ℕ_discrete ends e M)
      where
        at : Keeps ℕ_discrete ends e M → keep ℕ_discrete ends (e ∷ M) ≡ keep ℕ_discrete ends M
        at (dropped j r) = r
        at (taken j r) =
            absurd (j (same-joined (labelled ℕ_discrete _) (ends e).0 (ends e).1 (sym (h.1 _ a) ∙ k ∙ h.1 _ b)))

    -- different labels: it is kept
    other-label : (p ≡ q → ⊥) → keep ℕ_discrete ends (e ∷ M) ≡ e ∷ keep ℕ_discrete ends M
    other-label k = at (keeps ℕ_discrete ends e M)
      where
        at : Keeps ℕ_discrete ends e M → keep ℕ_discrete ends (e ∷ M) ≡ e ∷ keep ℕ_discrete ends M
        at (dropped j r) = absurd (k (h.1 _ a ∙ joined_same (labelled ℕ_discrete _) j ∙ sym (h.1 _ b)))
        at (taken j r) = r

    holds_same : keep ℕ_discrete ends (e ∷ M) ≡ keep ℕ_discrete ends M → Holds t (e ∷ M)
    holds_same r = (h.0, λ x l. h.1 x l ∙ ap (λ (K : List B). labels ℕ_discrete (map ends K) x) (sym r))

    holds-merged : keep ℕ_discrete ends (e ∷ M) ≡ e ∷ keep ℕ_discrete ends M → Holds (map (changed p q) t) (e ∷ M)
    unfolding labels merge
    holds-merged r = (
      omega (arith, length-map t (changed p q), h.0),
      λ x l.
          get_d_map (changed p q) t x 0 0 (omega (arith, h.0))
          ∙ changed-renamed p q (get_or t x 0)
          ∙ rw (h.1 x l, h.1 _ a, h.1 _ b) refl
          ∙ ap (λ (K : List B). labels ℕ_discrete (map ends K) x) (sym r),
    )

  pass : (L : List B) → Below ends n L → (t : List ℕ) (M : List B) → Holds t M →
      keep ℕ_discrete ends (reverse_aux L M) ≡ reverse_aux (kept_by ends L t) (keep ℕ_discrete ends M)
  unfolding kept_by
  pass [] s t M h = refl
  pass (e ∷ L) s t M h =
      let i = s e (here refl) in
      let left : Below ends n L = λ d m. s d (there m) in
      let p = get_or t (ends e).0 0 in
      let q = get_or t (ends e).1 0 in
      by (eqb p q)
      (λ k.
      let r = same-label e i.0 i.1 t M h (eqb-true p q k) in
      rw (kept_by, k) (pass L left t (e ∷ M) (holds_same e i.0 i.1 t M h r) ∙ ap (reverse_aux (kept_by ends L t)) r))
      (λ k.
      let r = other-label e i.0 i.1 t M h (eqb-false p q k) in
      let u = map (changed p q) t in
      rw (kept_by, k) (pass L left u (e ∷ M) (holds-merged e i.0 i.1 t M h r) ∙ ap (reverse_aux (kept_by ends L u)) r))

  -- from a table in which each number is its own label
  module _ (L : List B) (s : Below ends n L) (t : List ℕ) (room : n ≤ length t) (own : (x : ℕ) → x < n → get_or t x 0 ≡ x) where
    starts : Holds t []
    unfolding labels
    starts = (room, λ x l. own x l ∙ rw (keep-none ℕ_discrete ends) refl)

    turned : keep ℕ_discrete ends (reverse L) ≡ reverse (kept_by ends L t)
    turned = pass L s t [] starts ∙ ap (reverse_aux (kept_by ends L t)) (keep-none ℕ_discrete ends)

    pub table-keeps : kept_by ends L t ≡ kept ℕ_discrete ends L
    unfolding kept
    table-keeps = sym (reverse-reverse (kept_by ends L t)) ∙ ap reverse (sym turned)

-- All items taken: two numbers have one label exactly when the items join them

module _ {B : Type 0} (ends : B → ℕ × ℕ) (n : ℕ) where
  -- the table holds the labels that the pairs give
  abbrev Shows : List ℕ → List (ℕ × ℕ) → Type 0
  Shows t M = (n ≤ length t) × ((x : ℕ) → x < n → get_or t x 0 ≡ labels ℕ_discrete M x)

  shows_more : (e : B) → (ends e).0 < n → (ends e).1 < n → (t : List ℕ) (M : List (ℕ × ℕ)) → Shows t M →
      Shows (map (changed (get_or t (ends e).0 0) (get_or t (ends e).1 0)) t) (ends e ∷ M)
  unfolding labels merge
  shows_more e a b t M h =
      let p = get_or t (ends e).0 0 in
      let q = get_or t (ends e).1 0 in (
        omega (arith, length-map t (changed p q), h.0),
        λ x l.
            get_d_map (changed p q) t x 0 0 (omega (arith, h.0))
            ∙ changed-renamed p q (get_or t x 0)
            ∙ rw (h.1 x l, h.1 _ a, h.1 _ b) refl,
      )

  shows-all : (L : List B) → Below ends n L → (t : List ℕ) (M : List (ℕ × ℕ)) → Shows t M →
      Shows (merged_by ends L t) (reverse_aux (map ends L) M)
  unfolding merged_by
  shows-all [] s t M h = h
  shows-all (e ∷ L) s t M h =
      let i = s e (here refl) in
      shows-all L (λ d m. s d (there m)) _ (ends e ∷ M) (shows_more e i.0 i.1 t M h)

  -- from a table in which each number is its own label
  module _ (L : List B) (s : Below ends n L) (t : List ℕ) (room : n ≤ length t) (own : (x : ℕ) → x < n → get_or t x 0 ≡ x) where
    shows : Shows (merged_by ends L t) (reverse (map ends L))
    unfolding labels
    shows = shows-all L s t [] (room, own)

    pub merged-joined : (x y : ℕ) → x < n → y < n → get_or (merged_by ends L t) x 0 ≡ get_or (merged_by ends L t) y 0 → Joined (map ends L) x y
    merged-joined x y h k e =
        more (of_reverse (map ends L))
        (same-joined (labelled ℕ_discrete _) x y (sym (shows.1 x h) ∙ e ∙ shows.1 y k))

    pub joined-merged : (x y : ℕ) → x < n → y < n → Joined (map ends L) x y → get_or (merged_by ends L t) x 0 ≡ get_or (merged_by ends L t) y 0
    joined-merged x y h k j =
        shows.1 x h ∙ joined_same (labelled ℕ_discrete _) (more (in-reverse (map ends L)) j) ∙ sym (shows.1 y k)
