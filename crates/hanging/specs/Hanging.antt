-- What hangs from a bar, of edges as it sees them.
use Rattle.std.specs.Prelude.{Bool, true, false, ◌≡◌, List, ℕ, ◌+◌, ◌*◌, ◌/◌, ◌%◌, ◌^◌, ◌≤◌, ◌<◌, min, eqb, ℤ, length, get_or, set}
use Rattle.net.specs.Bounds.{pin_bound, macro_bound}
use Rattle.slide.specs.declared.Side.{Side}
use Rattle.straight.specs.Table.{straight_bound}
use Rattle.turned.specs.declared.Seen.{Seen}
use Rattle.hanging.specs.declared.Hang.{Hang}
use Rattle.turned.specs.Steps.{up_to}
use Rattle.turned.specs.Turned.{View, view, seen_edge, ahead_of, behind_of, long_of}

unfoldable pub counted : Bool → ℕ → ℕ
counted true n = n + 1
counted false n = n

-- the first that is ahead is the shortest so far
unfoldable pub shorter : Bool → ℕ → Hang → ℕ
shorter true d h = elim (eqb h.ahead 0) [ true ↦ d | false ↦ min h.shortest d ]
shorter false d h = h.shortest

unfoldable pub hung : Seen → Hang → Hang
hung e h = record {
  ahead = counted (ahead_of e) h.ahead;
  behind = counted (behind_of e) h.behind;
  shortest = shorter (ahead_of e) (long_of e) h;
}

abbrev pub none_hung : Hang
none_hung = record { ahead = 0; behind = 0; shortest = 0 }

unfoldable pub hang : View → ℕ → Hang
hang v e = up_to (λ k. hung (seen_edge v k)) e none_hung

-- What hangs as one number: the counts above the length, which is below 2^33. Counts are at most `straight_bound`, which is four times the
-- pins and eight times the macros

abbrev pub count_limit : ℕ
count_limit = (pin_bound + macro_bound) * 8

abbrev pub code : Hang → ℕ
code h = (h.ahead * count_limit + h.behind) * 8589934592 + h.shortest

abbrev pub uncode : ℕ → Hang
uncode c = record { ahead = c / 8589934592 / count_limit; behind = c / 8589934592 % count_limit; shortest = c % 8589934592 }

-- c is what hangs after k edges
pub record Coded (k : ℕ) (h : Hang) (c : ℕ) : Type 0 where
  pub coded : c ≡ code h
  pub counts : (h.ahead ≤ k) × (h.behind ≤ k)
  pub short : h.shortest ≤ 2 ^ 32

-- the entry of the bar with edge k hung on it
pub record Added (v : View) (k : ℕ) (t u : List ℕ) : Type 0 where
  pub written : u ≡ set t v.label (code (hang v (k + 1)))
  pub next : Coded (k + 1) (hang v (k + 1)) (code (hang v (k + 1)))

-- a table of what hangs, by label, from the bars that move to side s, of the first k edges
pub record Tallied (pts : List ℤ) (ks lab : List ℕ) (s : Side) (k : ℕ) (t : List ℕ) : Type 0 where
  pub room : length t ≡ straight_bound
  pub each : (l : ℕ) → l < straight_bound → Coded k (hang (view pts ks lab s l) k) (get_or t l 0)
