-- The test of neighbours says what keeping a list in order means: a limit below the next one's is below all further down, and so with
-- rates. And the test as a scan runs it, whose position is the list that is left.
-- Assumes nothing.
use mathlib.Core.Path.{◌≡◌, refl, sym}
use mathlib.Core.Bool.{Bool, true, false, not}
use mathlib.Core.List.Memᴰ
use mathlib.Core.List.{List, [], ◌∷◌}
use Prim.Native.Nat.{◌<◌, ◌≤◌}
use native.Mathlib.Omega.{arith}
use borrow.Author.Tests.{ltb-true, ltb-false, lt-ltb, le-ltb}
use lib.Dec.{ltb}
use lib.ListN.{drop}
use Rattle.lists.specs.Member.{◌∈◌, here, there}
use Rattle.lists.proofs.TestLaws.{or-none, or-neither}
use Rattle.bands.specs.declared.Band.{Band}
use Rattle.bands.specs.Order.{WellKept, steps_back, falls_after, falls_back}

-- the band c does not fall back from b
pub record Onward (b c : Band) : Type 0 where
  pub limit : b.limit < c.limit
  pub rate : b.rate ≤ c.rate

not-false : (t : Bool) → not t ≡ false → t ≡ true
not-false true e = refl
not-false false e = sym e

onward : (b c : Band) → steps_back b c ≡ false → Onward b c
unfolding steps_back
onward b c e =
    let r = or-none (not (ltb b.limit c.limit)) (ltb c.rate b.rate) e in
    record {
      limit = ltb-true b.limit c.limit (not-false (ltb b.limit c.limit) r.0);
      rate = ltb-false c.rate b.rate r.1;
    }

not_back : (b c : Band) → Onward b c → steps_back b c ≡ false
unfolding steps_back
not_back b c o = rw (lt-ltb b.limit c.limit o.limit, le-ltb c.rate b.rate o.rate) refl

-- no neighbours fall back: no band does from any before it
all-onward : (b : Band) (bs : List Band) → falls_after b bs ≡ false → (c : Band) → c ∈ bs → Onward b c
unfolding falls_after
all-onward b [] e c x'' = elim x'' [ ]
all-onward b (d ∷ ds) e c (here p) = rw p (onward b d (or-none (steps_back b d) (falls_after d ds) e).0)
all-onward b (d ∷ ds) e c (there m) =
    let r = or-none (steps_back b d) (falls_after d ds) e in
    let near = onward b d r.0 in
    let far = all-onward d ds r.1 c m in
    record { limit = omega (arith, near.limit, far.limit); rate = omega (arith, near.rate, far.rate) }

kept-after : (b : Band) (bs : List Band) → falls_after b bs ≡ false → WellKept (b ∷ bs)
unfolding falls_after
kept-after b [] e =
    record { rising = (λ c m. absurd (Memᴰ.not-nil m), tt); never-falling = (λ c m. absurd (Memᴰ.not-nil m), tt) }
kept-after b (d ∷ ds) e =
    let further = kept-after d ds (or-none (steps_back b d) (falls_after d ds) e).1 in
    record {
      rising = (λ c m. (all-onward b (d ∷ ds) e c m).limit, further.rising);
      never-falling = (λ c m. (all-onward b (d ∷ ds) e c m).rate, further.never-falling);
    }

pub kept : (bs : List Band) → falls_back bs ≡ false → WellKept bs
unfolding falls_back
kept [] e = record { rising = tt; never-falling = tt }
kept (b ∷ bs) e = kept-after b bs e

after_kept : (b : Band) (bs : List Band) → WellKept (b ∷ bs) → falls_after b bs ≡ false
unfolding falls_after
after_kept b [] k = refl
after_kept b (d ∷ ds) k =
    or-neither (steps_back b d) (falls_after d ds)
    (not_back b d (record { limit = k.rising.0 d (here refl); rate = k.never-falling.0 d (here refl) }))
    (after_kept d ds (record { rising = k.rising.1; never-falling = k.never-falling.1 }))

pub not-back-kept : (bs : List Band) → WellKept bs → falls_back bs ≡ false
unfolding falls_back
not-back-kept [] k = refl
not-back-kept (b ∷ bs) k = after_kept b bs k

-- `left` begins with b and c, and `rest` is what follows b
module _ (left : List Band) (b : Band) (rest : List Band) (c : Band) (more : List Band) (at : left ≡ b ∷ rest)
    (next : rest ≡ c ∷ more) where
  pub back-hit : steps_back b c ≡ true → falls_back left ≡ true
  unfolding falls_back falls_after
  back-hit e = rw (at, next, e) refl

  pub back-miss : steps_back b c ≡ false → falls_back left ≡ falls_back rest
  unfolding falls_back falls_after
  back-miss e = rw (at, next, e) refl

-- at most one band is left
pub back_end : (left : List Band) → drop 1 left ≡ [] → falls_back left ≡ false
unfolding falls_back falls_after
back_end [] e = refl
back_end (b ∷ bs) e = rw e refl
