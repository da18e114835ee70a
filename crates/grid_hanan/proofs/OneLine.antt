-- One line c is taken from among the others: every number on it goes to a line t about it, all others stay. Two neighbouring lines have
-- then become one line, or they are neighbours still and reach at least as far.
-- Assumes nothing.
use mathlib.Core.Path.{◌≡◌, refl, sym, subst, ◌∙◌}
use mathlib.Core.Bool.{true}
use mathlib.Core.Logic.{◌⊎◌, inl, inr}
use mathlib.Core.List.Memᴰ
use mathlib.Core.List.{List, ◌∷◌}
use lib.IntN.{ℤ}
use lib.Signed.{lt_z}
use Rattle.lists.specs.Member.{◌∈◌, there}
use Rattle.lists.proofs.TestLaws.{by, either}
use Rattle.signed.specs.Sides.{Le}
use Rattle.signed.proofs.SideLaws.{z_lt-true, eq_of, signed}
use Rattle.lines.specs.Lines.{Neighbours}
use Rattle.lines.proofs.LineLaws.{line_same, About, about-itself}
use Rattle.grid_hanan.proofs.NextLines.{differs, not-it, off-line}

-- a number on the line c goes to t
unfoldable pub shifted : ℤ → ℤ → ℤ → ℤ
shifted c t x = elim (line_same x c) [ yes e ↦ t | no n ↦ x ]

pub shifted-on : (c t x : ℤ) → x ≡ c → shifted c t x ≡ t
unfolding shifted
shifted-on c t x e = at (line_same x c)
  where
    at : (d : Dec (x ≡ c)) → elim d [ yes e ↦ t | no n ↦ x ] ≡ t
    at (yes f) = refl
    at (no n) = absurd (n e)

pub shifted-off : (c t x : ℤ) → (x ≡ c → ⊥) → shifted c t x ≡ x
unfolding shifted
shifted-off c t x n = at (line_same x c)
  where
    at : (d : Dec (x ≡ c)) → elim d [ yes e ↦ t | no n ↦ x ] ≡ x
    at (yes f) = absurd (n f)
    at (no m) = refl

module _ (L : List ℤ) (c t : ℤ) (fresh : c ∈ L → ⊥) (about : About L t c) where
  abbrev to : ℤ → ℤ
  to x = shifted c t x

  pub shifted-line : (x : ℤ) → x ∈ L → to x ≡ x
  shifted-line x i = shifted-off c t x (λ e. fresh (Memᴰ.cast (sym e) i))

  pub shifted-about : (x : ℤ) → x ∈ (c ∷ L) → About L (to x) x
  shifted-about x m = at (line_same x c)
    where
      at : Dec (x ≡ c) → About L (to x) x
      at (yes e) = rw (shifted-on c t x e, e) about
      at (no n) = rw (shifted-off c t x n) (about-itself L x (not-it m n))

  -- neighbours still, and no nearer to each other
  pub record Wider (u v : ℤ) : Type 0 where
    pub lines : Neighbours L (to u) (to v)
    pub low : Le (to u) u
    pub high : Le v (to v)

  from-line : (v : ℤ) → Neighbours (c ∷ L) c v → v ∈ L → (t ≡ v) ⊎ (Neighbours L t v × Le t c)
  from-line v n i =
      by (lt_z c t)
      (λ e. inl (same e))
      (λ e. inr (
        record {
          first = about.line;
          second = i;
          rise = let s = n.rise in omega (signed, e, s);
          none = λ z j h k. either (λ l. about.below z j h (omega (signed, l))) (λ l. n.none z (there j) l k) (off-line L c fresh z j);
        },
        omega (signed, e),
      ))
    where
      same : lt_z c t ≡ true → t ≡ v
      same e =
          by (lt_z t v) (λ f. absurd (n.none t (there about.line) (z_lt-true c t e) (z_lt-true t v f)))
          (λ f. by (lt_z v t) (λ g. absurd (about.above v i (let s = n.rise in omega (signed, s)) (z_lt-true v t g)))
          (λ g. eq_of t v (omega (signed, f, g))))

  onto-line : (u : ℤ) → Neighbours (c ∷ L) u c → u ∈ L → (u ≡ t) ⊎ (Neighbours L u t × Le c t)
  onto-line u n i =
      by (lt_z t c)
      (λ e. inl (same e))
      (λ e. inr (
        record {
          first = i;
          second = about.line;
          rise = let s = n.rise in omega (signed, e, s);
          none = λ z j h k. either (λ l. n.none z (there j) h l) (λ l. about.above z j (omega (signed, l)) k) (off-line L c fresh z j);
        },
        omega (signed, e),
      ))
    where
      same : lt_z t c ≡ true → u ≡ t
      same e =
          by (lt_z u t) (λ f. absurd (n.none t (there about.line) (z_lt-true u t f) (z_lt-true t c e)))
          (λ f. by (lt_z t u) (λ g. absurd (about.below u i (z_lt-true t u g) (let s = n.rise in omega (signed, s))))
          (λ g. eq_of u t (omega (signed, f, g))))

  pub shifted-beside : (u v : ℤ) → Neighbours (c ∷ L) u v → (to u ≡ to v) ⊎ Wider u v
  shifted-beside u v n = at (line_same u c) (line_same v c)
    where
      at_most : (x : ℤ) → Le x x
      at_most x = omega signed

      at : Dec (u ≡ c) → Dec (v ≡ c) → (to u ≡ to v) ⊎ Wider u v
      at (yes e) (yes f) = absurd (differs u v n.rise (e ∙ sym f))
      at (yes e) (no m) =
          let on = shifted-on c t u e in
          let off = shifted-off c t v m in
          either (λ k. inl (on ∙ k ∙ sym off))
          (λ r. inr record { lines = rw (on, off) r.0; low = rw (on, e) r.1; high = rw off (at_most v) })
          (from-line v (subst (λ (z : ℤ). Neighbours (c ∷ L) z v) e n) (not-it n.second m))
      at (no m) (yes e) =
          let on = shifted-on c t v e in
          let off = shifted-off c t u m in
          either (λ k. inl (off ∙ k ∙ sym on))
          (λ r. inr record { lines = rw (on, off) r.0; low = rw off (at_most u); high = rw (on, e) r.1 })
          (onto-line u (subst (λ (z : ℤ). Neighbours (c ∷ L) u z) e n) (not-it n.first m))
      at (no m) (no k) =
          let offu = shifted-off c t u m in
          let offv = shifted-off c t v k in
          inr record {
            lines = rw (offu, offv) record {
              first = not-it n.first m;
              second = not-it n.second k;
              rise = n.rise;
              none = λ z i h l. n.none z (there i) h l;
            };
            low = rw offu (at_most u);
            high = rw offv (at_most v);
          }
