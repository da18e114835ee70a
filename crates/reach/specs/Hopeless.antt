-- A way that is not worth going on with: what bars it stands so near that the bar moves by less than is needed.
use Rattle.std.specs.Prelude.{◌≡◌, Bool, true, not, ◌&&◌, ◌⊎◌, ℕ, ◌-◌, ◌≤◌, max, leb}
use Rattle.reach.specs.declared.Way.{Way}

unfoldable pub hopeless : ℕ → Way → Bool
hopeless need w = not w.free && leb w.stop need

-- a way v from w is as it should be, or both are hopeless; and it stops no later than w
pub record Alike (need : ℕ) (w v is : Way) : Type 0 where
  pub same : (v ≡ is) ⊎ ((hopeless need v ≡ true) × (hopeless need is ≡ true))
  pub less : v.stop ≤ w.stop

-- the same distance, or both below `need`
abbrev pub Near : ℕ → ℕ → ℕ → Type 0
Near need d e = max d (need - 1) ≡ max e (need - 1)
