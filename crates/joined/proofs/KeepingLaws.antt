-- Which items are kept, as a relation: it has one solution, the items that `kept` gives. The table of labels is followed from the front;
-- by `keeps` each item is taken or left as the relation says.
-- Assumes nothing.
use mathlib.Core.Path.{◌≡◌, refl, sym, ap, ◌∙◌, subst}
use mathlib.Core.List.Memᴰ
use mathlib.Core.List.{List, [], ◌∷◌, reverse, reverse_aux}
use Rattle.lists.specs.Member.{here, there, Among, Once}
use Rattle.lists.proofs.TestLaws.{either}
use Rattle.joined.specs.Keep.{keep, kept, Keeping, over, takes, leaves}
use Rattle.joined.proofs.KeepLaws.{Keeps, dropped, taken, keeps, keep-none}

module _ {A B : Type 0} (ends : B → A × A) where
  pub keeping-only : {before offered k l : List B} → Keeping ends before offered k → Keeping ends before offered l → k ≡ l
  keeping-only over over = refl
  keeping-only (takes {e = e} n r) (takes m s) = ap (λ (l : List B). e ∷ l) (keeping-only r s)
  keeping-only (takes n r) (leaves j s) = absurd (n j)
  keeping-only (leaves j r) (takes n s) = absurd (n j)
  keeping-only (leaves j r) (leaves i s) = keeping-only r s

  -- what is kept was offered, and nothing is kept twice that was offered once
  pub keeping-among : {before offered chosen : List B} → Keeping ends before offered chosen → Among chosen offered
  keeping-among over d m = m
  keeping-among (takes n r) d m = either (λ e. here e) (λ i. there (keeping-among r d i)) (Memᴰ.cases_cons m)
  keeping-among (leaves j r) d m = there (keeping-among r d m)

  pub keeping-once : {before offered chosen : List B} → Keeping ends before offered chosen → Once offered → Once chosen
  keeping-once over o = tt
  keeping-once (takes n r) o = (λ m. o.0 (keeping-among r _ m), keeping-once r o.1)
  keeping-once (leaves j r) o = keeping-once r o.1

  module _ (same : Discrete A) where
    -- what is kept of L after P, and that the tables keep just that; P is read from its end
    record After (P L : List B) : Type 0 where
      chosen : List B
      keeping : Keeping ends (keep same ends P) L chosen
      is : keep same ends (reverse_aux L P) ≡ reverse_aux chosen (keep same ends P)

    after : (L P : List B) → After P L
    after [] P = record { chosen = []; keeping = over; is = refl }
    after (e ∷ L) P = at (keeps same ends e P) (after L (e ∷ P))
      where
        at : Keeps same ends e P → After (e ∷ P) L → After P (e ∷ L)
        at (dropped j r) a = record {
          chosen = a.chosen;
          keeping = leaves j (subst (λ (l : List B). Keeping ends l L a.chosen) r a.keeping);
          is = a.is ∙ ap (reverse_aux a.chosen) r;
        }
        at (taken n r) a = record {
          chosen = e ∷ a.chosen;
          keeping = takes n (subst (λ (l : List B). Keeping ends l L a.chosen) r a.keeping);
          is = a.is ∙ ap (reverse_aux a.chosen) r;
        }

    turned-back : (l m : List B) → reverse (reverse_aux l m) ≡ reverse_aux m l
    turned-back [] m = refl
    turned-back (x ∷ l) m = turned-back l (x ∷ m)

    pub keeping-kept : (L : List B) → Keeping ends [] L (kept same ends L)
    unfolding kept
    keeping-kept L =
        let a = after L [] in
        let e : keep same ends (reverse L) ≡ reverse a.chosen = a.is ∙ ap (reverse_aux a.chosen) (keep-none same ends) in
        subst (Keeping ends [] L) (sym (ap reverse e ∙ turned-back a.chosen []))
        (subst (λ (l : List B). Keeping ends l L a.chosen) (keep-none same ends) a.keeping)
