-- Pieces put one behind the other are one piece put; a text put from the first byte on fills the front of the buffer.
-- Assumes nothing.
use mathlib.Core.Path.{◌≡◌, refl, sym, ap, ap₂, ◌∙◌}
use mathlib.Core.List.{List, ◌++◌}
use Prim.Native.Nat.{ℕ, ◌+◌, ◌≤◌}
use native.Mathlib.Omega.{arith}
use borrow.Rule.Slice.PartMut.{put_mid}
use lib.ListN.{length, take, drop, length-append}
use lib.Seq.{sets, sets-eq, take_all}
use Rattle.std.proofs.lemmas.Slice.{put_mid-paste}
use Rattle.lent.specs.Over.{over}
use Rattle.lent.proofs.OverLaws.{take-over}
use Rattle.blocks.proofs.BlockLaws.{sets-after}
use Rattle.text.specs.declared.Page.{Page}
use Rattle.text.specs.Put.{Put, Wrote, Filled}

module _ {o p q : List ℕ} {at b c : ℕ} {x y : List ℕ} where
  pub put_then : Put o at x p b → Put p b y q c → Put o at (x ++ y) q c
  put_then f g = record {
    holds = g.holds ∙ ap₂ (λ (l : List ℕ) (k : ℕ). sets l k y) f.holds f.moves ∙ sets-after x y o at;
    moves = omega (arith, f.moves, g.moves, length-append x y);
  }

module _ {p q r : Page} {x y : List ℕ} where
  pub wrote_then : Wrote p x q → Wrote q y r → Wrote p (x ++ y) r
  wrote_then f g = record { put = put_then f.put g.put; long = g.long ∙ f.long; same = g.same ∙ f.same }

-- the same piece by another name
pub wrote_as : {p q : Page} {x y : List ℕ} → x ≡ y → Wrote p x q → Wrote p y q
wrote_as {p} {q} {x} {y} e f = rw e at f

-- a list copied over the k bytes from a on
pub put-part : (a k : ℕ) (xs ys zs : List ℕ) → ys ≡ zs → length zs ≡ k → a + length zs ≤ length xs → put_mid a k xs ys ≡ sets xs a zs
put-part a k xs ys zs e n h =
    put_mid-paste a k xs ys zs (length zs) e n refl
    ∙ ap (λ (l : List ℕ). (take a xs ++ l) ++ drop (a + length zs) xs) (take_all (length zs) zs (omega arith))
    ∙ sym (sets-eq zs xs a h)

-- a text put from the first byte on
pub put-filled : {o p x : List ℕ} {b : ℕ} → Put o 0 x p b → length x ≤ length o → Filled x o p b
unfolding over
put-filled {o} {p} {x} {b} f h =
    let e : 0 + length x ≡ length x = omega arith in
    let l : b ≡ length x = f.moves ∙ e in
    let t : p ≡ over x o = f.holds ∙ sets-eq x o 0 (omega arith) ∙ ap (λ (n : ℕ). x ++ drop n o) e in
    record { begins = rw (t, l) (take-over x o); holds = t; long = l }

-- a text put on the page of a whole buffer, l being what the buffer then holds
pub page-filled : {p q : Page} {x l : List ℕ} → Wrote p x q → p.at ≡ 0 → length x ≤ length p.out.now → l ≡ q.out.now
    → Filled x p.out.now l q.at
page-filled {p} {q} {x} {l} w start h e = put-filled (rw (← e, start) at w.put) h

-- the same text by another name
pub filled-as : {o p x y : List ℕ} {b : ℕ} → x ≡ y → Filled x o p b → Filled y o p b
filled-as {o} {p} {x} {y} {b} e f = rw e at f
