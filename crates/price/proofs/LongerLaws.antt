-- B6: more metal is never charged less by one list. A list that charges anything has passed the test of its order, so its rates never fall.
-- A band that reaches the longer metal reaches the shorter, so the first that reaches the longer stands no earlier; its rate is no lower,
-- and the charge rises with metal and with the rate.
-- Assumes nothing. That limits rise is not used.
use mathlib.Core.Path.{◌≡◌, refl, sym, ◌∙◌}
use mathlib.Core.Bool.{true}
use mathlib.Core.List.{List, [], ◌∷◌}
use Prim.Native.Nat.{ℕ, ◌≤◌}
use native.Mathlib.Nat.{le_refl}
use native.Mathlib.Omega.{arith}
use borrow.Author.Tests.{ltb-false, le-ltb}
use lib.Dec.{ltb}
use Rattle.lists.specs.Member.{◌∈◌, here, there}
use Rattle.lists.proofs.TestLaws.{by, not-true, contrapose}
use Rattle.lent.specs.Told.{given}
use Rattle.lent.proofs.AfterLaws.{told-apart}
use Rattle.bands.specs.declared.Band.{Band}
use Rattle.bands.specs.Band.{bands_of}
use Rattle.bands.specs.Order.{NeverFalling, WellKept}
use Rattle.price.specs.Charge.{charge, reaches, by_first}
use Rattle.price.specs.Price.{priced}
use Rattle.bands.proofs.OrderLaws.{kept}
use Rattle.price.proofs.ChargeLaws.{charge-rises}
use Rattle.price.proofs.FirstLaws.{first-hit, first-miss, first-end}
use Rattle.price.proofs.PriceLaws.{price-first, given-passed}

-- a charge is one at the rate of some band
pub record AtRate (metal : ℕ) (bs : List Band) (h : ℕ) : Type 0 where
  pub band : Band
  pub in_list : band ∈ bs
  pub charged : h ≡ charge metal band.rate

given-same : {h k : ℕ} → given h ≡ given k → h ≡ k
given-same e = cc

at-rate : {metal h : ℕ} (bs : List Band) → by_first metal bs ≡ given h → AtRate metal bs h
at-rate {metal} {h} [] e = told-apart 32 h (sym (first-end metal [] refl) ∙ e)
at-rate {metal} {h} (b ∷ bs) e =
    by (reaches metal b)
    (λ t. record { band = b; in_list = here refl; charged = given-same (sym e ∙ first-hit metal (b ∷ bs) b bs refl t) })
    (λ f.
    let r = at-rate bs (sym (first-miss metal (b ∷ bs) b bs refl f) ∙ e) in
    record { band = r.band; in_list = there r.in_list; charged = r.charged })

-- a band that reaches the longer metal reaches the shorter
reaches-less : {m n : ℕ} (b : Band) → m ≤ n → reaches n b ≡ true → reaches m b ≡ true
unfolding reaches
reaches-less {m} {n} b h t = rw (le-ltb b.limit m (omega (arith, ltb-false b.limit n (not-true (ltb b.limit n) t)))) refl

-- B5: a list that charges anything is kept in order
pub kept-in-order : (metal : ℕ) (s : List ℕ) {h : ℕ} → priced metal s ≡ given h → WellKept (bands_of s)
kept-in-order metal s e = kept (bands_of s) (given-passed metal s e).onward

module _ {m n : ℕ} (more : m ≤ n) where
  pub first-rises : {h k : ℕ} (bs : List Band) → NeverFalling bs → by_first m bs ≡ given h → by_first n bs ≡ given k → h ≤ k
  first-rises {h} {k} [] never e f = told-apart 32 h (sym (first-end m [] refl) ∙ e)
  first-rises {h} {k} (b ∷ bs) never e f =
      by (reaches m b)
      (λ t.
      let h-is = given-same (sym e ∙ first-hit m (b ∷ bs) b bs refl t) in
      by (reaches n b)
      (λ u. let k-is = given-same (sym f ∙ first-hit n (b ∷ bs) b bs refl u) in
      omega (arith, h-is, k-is, charge-rises more (le_refl b.rate)))
      (λ u. let r = at-rate bs (sym (first-miss n (b ∷ bs) b bs refl u) ∙ f) in
      omega (arith, h-is, r.charged, charge-rises more (never.0 r.band r.in_list))))
      (λ t. first-rises bs never.1 (sym (first-miss m (b ∷ bs) b bs refl t) ∙ e)
      (sym (first-miss n (b ∷ bs) b bs refl (contrapose (reaches n b) (reaches m b) (reaches-less b more) t)) ∙ f))

  -- B6, without a premise
  pub longer-never-less : {h k : ℕ} (s : List ℕ) → priced m s ≡ given h → priced n s ≡ given k → h ≤ k
  longer-never-less s e f =
      let p = given-passed m s e in
      first-rises (bands_of s) (kept-in-order m s e).never-falling (sym (price-first m s p) ∙ e) (sym (price-first n s p) ∙ f)
