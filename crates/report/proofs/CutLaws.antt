-- What is printed for a file needs no more of it than one byte past the longest: this is why `route` reads no further.
-- Assumes nothing.
use mathlib.Core.Path.{◌≡◌, refl, sym, ap, ◌∙◌}
use mathlib.Core.Bool.{false}
use mathlib.Core.List.{List}
use Prim.Native.Nat.{ℕ, suc, ◌<◌}
use lib.IntN.{pos}
use lib.ListN.{length, take}
use Rattle.blocks.specs.Sizes.{pin_list_bound, macro_list_bound, file_bound}
use Rattle.netfile.specs.Read.{room_short, room_short_within}
use Rattle.netfile.proofs.CutLaws.{by_length, cut_short, cut-long, read-too-long}
use Rattle.text.specs.Text.{refused_text}
use Rattle.report.specs.Route.{route_text}
use Rattle.report.proofs.RouteLaws.{route-refused}

full-room : room_short pin_list_bound macro_list_bound ≡ false
unfolding room_short_within
full-room = refl

-- a file that is too long is refused as such
pub long-refused : (file : List ℕ) → file_bound < length file → route_text file ≡ refused_text (pos 1)
long-refused file h = sym (route-refused file 1 (read-too-long file pin_list_bound macro_list_bound full-room h))

pub cut_keeps : (file : List ℕ) → route_text (take (suc file_bound) file) ≡ route_text file
cut_keeps file =
    by_length file (λ h. ap route_text (cut_short file h))
    (λ h. long-refused (take (suc file_bound) file) (cut-long file h) ∙ sym (long-refused file h))
