-- Each round of a refined tree's slid tree keeps one tree and saves what its move says: there is one move, and of
-- that crate slide has it.
-- Assumes nothing.
use mathlib.Core.Path.{◌≡◌, refl, sym, ap, ◌∙◌, subst}
use mathlib.Core.Logic.{◌⊎◌, inl, inr}
use mathlib.Core.List.{List, [], ◌∷◌}
use Prim.Native.Nat.{ℕ, zero, suc, ◌+◌}
use lib.ListN.{length}
use Rattle.lists.specs.Member.{◌∈◌}
use Rattle.plane.specs.declared.Place.{Place}
use Rattle.slide.proofs.GlueLaws.{UprightAll}
use Rattle.plane.proofs.PlaceOrder.{place_same}
use Rattle.joined.specs.Cost.{lengths}
use Rattle.joined.proofs.OneTreeLaws.{tree-one}
use Rattle.net.specs.Net.{Net, cost_in}
use Rattle.slide.specs.declared.Move.{Move}
use Rattle.slide.specs.Bend.{Edge, bent, bends}
use Rattle.slide.specs.Slide.{tree_points, in_their_order, choice, make}
use Rattle.slide.specs.Promise.{Straight, Sound, Given}
use Rattle.slide.proofs.RoundLaws.{RoundSound, round-sound}
use Rattle.slide.proofs.SlidSound.{given-sound, in-order-sound, bent-lines}
use Rattle.slid_rules.specs.Round.{Slides, Rounds}
use Rattle.slid_rules.specs.Slid.{Points, Slid}
use Rattle.slid_rules.specs.Saves.{Saves, SavesThrough}
use Rattle.slid_rules.proofs.RoundsIs.{best-saves, move-one, slides-only}
use Rattle.slid_rules.proofs.BendsIs.{bends-only}
use Rattle.slid_rules.proofs.SlidOurs.{order-only, points-only}

module _ (net : Net) (upright : UprightAll net.macros) (pin : Place) (has-pin : pin ∈ net.pins) where
  -- a round of one tree
  sound-after : (T U : List Edge) → Sound net (tree_points net T) T → Straight T → (r : Slides net T U) →
      RoundSound net upright pin has-pin T U r.move.saving
  sound-after [] U t lines r = elim r.moves.stands [ ]
  sound-after (d ∷ L) U t lines r =
      let s = round-sound net upright pin has-pin d L t lines (best-saves net d L U r) in
      subst (λ (z : List Edge × Move). RoundSound net upright pin has-pin (d ∷ L) z.0 z.1.saving)
      (λ i. (sym (slides-only net d L U r) i, sym (move-one net d L U r) i)) s

  pub rounds-save : (n : ℕ) (T S : List Edge) → Sound net (tree_points net T) T → Straight T → (r : Rounds net n T S) →
      SavesThrough net n T S r
  rounds-save zero T S t lines r = tt
  rounds-save (suc n) T S t lines (inl stays) = tt
  rounds-save (suc n) T S t lines (inr (U, (r, rest))) =
      let s = sound-after T U t lines r in (
        record {
          falls = s.saves;
          one = tree-one place_same s.sound.tree s.sound.inside net.pins s.sound.pinned;
          free = s.sound.free;
          lines = s.lines;
        },
        rounds-save n U S s.sound s.lines rest,
      )

  pub slid-saves : (T : List Edge) → Given net T → (X : List Place) → Points net T X →
      (S : List Edge) (r : Slid net T X S) →
      SavesThrough net (length r.points) r.start S r.rounds
  slid-saves T g X p S r =
      let t = given-sound net pin has-pin T g in
      let e : bends (tree_points net T) T ≡ bent r.points r.edges =
      ap (λ (Y : List Place). bends Y T) (sym (points-only net T X p))
      ∙ bends-only X T r.points r.edges r.bends in
      let o = sym (order-only r.edges r.start r.order) in
      rounds-save (length r.points) r.start S
      (subst (λ (U : List Edge). Sound net (tree_points net U) U) o
      (in-order-sound net upright pin has-pin T t r.points r.edges e))
      (subst (λ (U : List Edge). Straight U) o (bent-lines net upright pin has-pin T t r.points r.edges e))
      r.rounds
