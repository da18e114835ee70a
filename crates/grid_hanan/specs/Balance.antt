-- Where a line c goes that is taken out from between its neighbours, one below and one above. Of the edges that end on c some come from
-- below and some from above; all others cost the same wherever c goes. With c on the line below, each edge that ended on it from below is
-- shorter by the gap there, and each from above is longer by it; with c on the line above, the other way round.
use Rattle.std.specs.Prelude.{◌≡◌, Bool, ℕ, ◌+◌, ◌*◌, ltb}

-- edges that cost n cost l with c on the line below it and u with c on the line above; G and H are what the two gaps cost
pub record Balanced (G H n l u : ℕ) : Type 0 where
  -- how many of them end on c from below, and from above
  pub under : ℕ
  pub over : ℕ
  pub lower : l + under * G ≡ n + over * G
  pub upper : u + over * H ≡ n + under * H

-- c goes up where more of them come from above, and else down
unfoldable pub goes_up : {G H n l u : ℕ} → Balanced G H n l u → Bool
goes_up b = ltb b.under b.over
