-- What holds of each pair of a list: for pairs put together, and for pairs moved by a map. Joined points stay joined under a map, and a map
-- that keeps different points different joins no more than before.
-- Assumes nothing.
use mathlib.Core.Path.{◌≡◌, sym, subst, ◌∙◌}
use mathlib.Core.Logic.{inl, inr}
use mathlib.Core.List.Memᴰ
use mathlib.Core.List.{List, [], ◌∷◌, ◌++◌, map}
use Rattle.lists.specs.Member.{◌∈◌}
use Rattle.lists.proofs.TestLaws.{either}
use Rattle.lists.proofs.MapLaws.{in_map, of_map}
use Rattle.joined.specs.Joined.{Link, Joined, stay, step}
use Rattle.joined.specs.Pairs.{Each, moved_pair}
use Rattle.joined.proofs.JoinedLaws.{firsts, seconds, one, carried}

module _ {A : Type 0} (P : A → A → Type 0) where
  pub each_none : Each P []
  each_none a b m = elim m [ ]

  pub each-cons : (p q : A) (F : List (A × A)) → P p q → Each P F → Each P ((p, q) ∷ F)
  each-cons p q F h k a b m =
      either
      (λ e. subst (λ (z : A). P z b) (sym (firsts e)) (subst (λ (z : A). P p z) (sym (seconds e)) h))
      (k a b) (Memᴰ.cases_cons m)

  pub each_append : (F G : List (A × A)) → Each P F → Each P G → Each P (F ++ G)
  each_append F G h k a b m = either (h a b) (k a b) (Memᴰ.append_cases F m)

module _ {A B : Type 0} (f : A → B) (F : List (A × A)) where
  pub moved-each : (P : A → A → Type 0) (Q : B → B → Type 0) → ((a b : A) → P a b → Q (f a) (f b)) → Each P F →
      Each Q (map (moved_pair f) F)
  moved-each P Q h k a b m =
      let s = of_map (moved_pair f) F m in
      let p = s.entry.0 in
      let q = s.entry.1 in
      subst (λ (z : B). Q z b) (sym (firsts s.is))
      (subst (λ (z : B). Q (f p) z) (sym (seconds s.is)) (h p q (k p q s.stands)))

  pub moved-joined : {x y : A} → Joined F x y → Joined (map (moved_pair f) F) (f x) (f y)
  moved-joined j = carried f (λ a b m. one (inl (in_map (moved_pair f) m))) j

  -- different points stay different
  module _ (apart : (p q : A) → f p ≡ f q → p ≡ q) where
    link-unmoved : {x y : B} (p : A) → x ≡ f p → Link (map (moved_pair f) F) x y → (q : A) × ((y ≡ f q) × Link F p q)
    link-unmoved p e (inl m) =
        let s = of_map (moved_pair f) F m in
        let i : s.entry.0 ≡ p = apart s.entry.0 p (sym (firsts s.is) ∙ e) in
        (s.entry.1, (seconds s.is, inl (subst (λ (z : A). (z, s.entry.1) ∈ F) i s.stands)))
    link-unmoved p e (inr m) =
        let s = of_map (moved_pair f) F m in
        let i : s.entry.1 ≡ p = apart s.entry.1 p (sym (seconds s.is) ∙ e) in
        (s.entry.0, (firsts s.is, inr (subst (λ (z : A). (s.entry.0, z) ∈ F) i s.stands)))

    pub joined-unmoved : {x y : B} (p q : A) → x ≡ f p → y ≡ f q → Joined (map (moved_pair f) F) x y → Joined F p q
    joined-unmoved p q e h (stay k) = stay (apart p q (sym e ∙ k ∙ h))
    joined-unmoved p q e h (step l j) = let r = link-unmoved p e l in step r.1.1 (joined-unmoved r.0 q r.1.0 h j)
