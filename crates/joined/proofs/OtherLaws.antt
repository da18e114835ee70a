-- A link and all other pairs: each link of the list is that one, read either way, or one of the others. A position is struck out, as in
-- the laws of `rest`.
-- Assumes nothing.
use mathlib.Core.Path.{◌≡◌, sym, ◌∙◌}
use mathlib.Core.Logic.{◌⊎◌, inl, inr}
use mathlib.Core.List.Memᴰ
use mathlib.Core.List.{List}
use Prim.Native.Nat.{suc}
use lib.ListN.{length}
use Rattle.lists.specs.Member.{◌∈◌, Among}
use Rattle.lists.proofs.TestLaws.{either}
use Rattle.lists.proofs.MemberLaws.{length_rest, rest-or, rest_in}
use Rattle.joined.specs.Joined.{Link, others, Alike, Joined}
use Rattle.joined.specs.Tree.{Cuts}
use Rattle.joined.proofs.JoinedLaws.{back, between, firsts, seconds}

-- Two points that are two others

module _ {A : Type 0} where
  pub alike-sym : {x y a b : A} → Alike x y a b → Alike a b x y
  alike-sym (inl e) = inl (sym e.0, sym e.1)
  alike-sym (inr e) = inr (sym e.1, sym e.0)

  pub alike-trans : {x y a b c d : A} → Alike x y a b → Alike a b c d → Alike x y c d
  alike-trans (inl e) (inl f) = inl (e.0 ∙ f.0, e.1 ∙ f.1)
  alike-trans (inl e) (inr f) = inr (e.0 ∙ f.0, e.1 ∙ f.1)
  alike-trans (inr e) (inl f) = inr (e.0 ∙ f.1, e.1 ∙ f.0)
  alike-trans (inr e) (inr f) = inl (e.0 ∙ f.1, e.1 ∙ f.0)

  pub alike-joined : {L : List (A × A)} {x y a b : A} → Alike x y a b → Joined L a b → Joined L x y
  alike-joined (inl e) j = between e.0 e.1 j
  alike-joined (inr e) j = between e.0 e.1 (back j)

  -- either of them is where both others are
  pub alike-first : {x y a b : A} {l : List A} → Alike x y a b → x ∈ l → y ∈ l → a ∈ l
  alike-first (inl e) i k = Memᴰ.cast (sym e.0) i
  alike-first (inr e) i k = Memᴰ.cast (sym e.1) k

  pub alike-second : {x y a b : A} {l : List A} → Alike x y a b → x ∈ l → y ∈ l → b ∈ l
  alike-second (inl e) i k = Memᴰ.cast (sym e.1) k
  alike-second (inr e) i k = Memᴰ.cast (sym e.0) i

-- The others

module _ {A : Type 0} {L : List (A × A)} where
  pub length-others : {a b : A} (l : Link L a b) → length L ≡ suc (length (others l))
  unfolding others
  length-others (inl m) = length_rest m
  length-others (inr m) = length_rest m

  pub others-among : {a b : A} (l : Link L a b) → Among (others l) L
  unfolding others
  others-among (inl m) e i = rest_in m i
  others-among (inr m) e i = rest_in m i

  pub link-or : {a b x y : A} (l : Link L a b) → Link L x y → Alike x y a b ⊎ Link (others l) x y
  unfolding others
  link-or (inl m) (inl k) = either (λ e. inl (inl (firsts e, seconds e))) (λ i. inr (inl i)) (rest-or m k)
  link-or (inl m) (inr k) = either (λ e. inl (inr (seconds e, firsts e))) (λ i. inr (inr i)) (rest-or m k)
  link-or (inr m) (inl k) = either (λ e. inl (inr (firsts e, seconds e))) (λ i. inr (inl i)) (rest-or m k)
  link-or (inr m) (inr k) = either (λ e. inl (inl (seconds e, firsts e))) (λ i. inr (inr i)) (rest-or m k)

  pub link-others : {a b x y : A} (l : Link L a b) → (Alike x y a b → ⊥) → Link L x y → Link (others l) x y
  link-others l n k = either (λ e. absurd (n e)) (λ i. i) (link-or l k)

  -- where each pair is a cut, the others do not join the ends of a link
  pub cut-link : Cuts L → {a b : A} (l : Link L a b) → Joined (others l) a b → ⊥
  unfolding others
  cut-link h {a} {b} (inl m) j = h a b m j
  cut-link h {a} {b} (inr m) j = h b a m (back j)
