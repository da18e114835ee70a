-- The older machine beside this one. The layout has no bound in it; so the writers differ in the check alone, and this only in lists that
-- the older bounds do not allow. The readers differ in the space, in the most blocks and, once a layout has been found right, in the check.
-- Assumes nothing.
use mathlib.Core.Path.{◌≡◌, refl, sym, ap, ◌∙◌}
use mathlib.Core.Bool.{true, false}
use mathlib.Core.List.{List}
use Prim.Native.Nat.{ℕ, ◌*◌, ◌≤◌, ◌<◌}
use native.Mathlib.Omega.{arith}
use lib.IntN.{ℤ}
use lib.ListN.{length}
use Rattle.lent.specs.Told.{Told, refused, given, only_if}
use Rattle.lent.specs.Over.{after}
use Rattle.net.specs.declared.Weighing.{Weighing}
use Rattle.net.specs.declared.Net.{Net as Counts}
use Rattle.net.specs.Bounds.{Bounds, today}
use Rattle.net.specs.Pins.{pin_count, macro_count}
use Rattle.net.specs.Net.{weights_of, handed}
use Rattle.net.proofs.PinLaws.{pin-numbers}
use Rattle.checks.specs.Check.{checked_within, checked}
use Rattle.checks.proofs.BoundLaws.{pins-within, pins-above, macros-above, given-within, same_check}
use Rattle.checks.proofs.CheckLaws.{Past11}
use Rattle.checks.proofs.PassedLaws.{passed-all}
use Rattle.checks.proofs.GivenLaws.{given-counts}
use Rattle.blocks.specs.Sizes.{pin_list_bound, macro_list_bound, block_bytes, blocks_for, block_count, file_blocks_within}
use Rattle.encoded.specs.Layout.{stored, file_bytes}
use Rattle.decoded.specs.Held.{weights_in, pins_in, macros_in}
use Rattle.netfile.specs.Write.{fitted, written_within}
use Rattle.netfile.specs.Read.{room_short_within, room_short}
use Rattle.older.specs.Older.{older, older_bytes, Old, left_by, Reads, OlderOf, OldAndNew}
use Rattle.encoded.proofs.LayoutLaws.{length-file}
use Rattle.encoded.proofs.StoredLaws.{stored-few}
use Rattle.decoded.proofs.HeldLaws.{blocks-pass}
use Rattle.netfile.proofs.WriteLaws.{pins-ok, macros-ok}
use Rattle.netfile.proofs.AnswerLaws.{laid-out, refuse-21, refuse-1, read-on, Passed, accepted-passed}
use Rattle.netfile.proofs.CutLaws.{too_long}
use Rattle.netfile.proofs.RoundTrip.{read-written}

-- The check and the writer

module _ (w : Weighing) (pins macros : List ℤ) where
  alike : Old pins macros → checked_within older w pins macros ≡ checked w pins macros
  alike o =
      same_check older today w pins macros (o.few-pins, omega (arith, o.few-pins)) (o.few-macros, omega (arith, o.few-macros))

  written-alike : Old pins macros → (room : ℕ) → written_within older w pins macros room ≡ written_within today w pins macros room
  unfolding written_within
  written-alike o room = ap (λ (t : Told Counts). only_if t (fitted (length (file_bytes (weights_of w) pins macros)) room)) (alike o)

  left-alike : Old pins macros → (lent : List ℕ) → left_by older w pins macros lent ≡ left_by today w pins macros lent
  left-alike o lent = ap (λ (t : Told ℕ). after t (file_bytes (weights_of w) pins macros) lent) (written-alike o (length lent))

  was-old : (net : Counts) → checked_within older w pins macros ≡ given net → Old pins macros
  was-old net e =
      let n = given-within older w pins macros net e in
      record { few-pins = n.0; few-macros = n.1 }

-- The reader

-- a file whose sums and layout are right is answered by the check of its lists, within any bounds that allow its blocks
checked-by : (b c : Bounds) (bytes : List ℕ) (net : Counts) → Passed c bytes net → length bytes ≤ file_blocks_within b * block_bytes
    → Reads b bytes (checked_within b (handed (weights_in bytes)) (pins_in bytes) (macros_in bytes))
checked-by b c bytes net a few = record {
  reads = λ p q r.
      read-on b bytes p q r (blocks-pass b c bytes a.blocks (omega (arith, few))) a.sums a.head
      ∙ laid-out b bytes (weights_in bytes) (pins_in bytes) (macros_in bytes) a.same;
}

answered : (b : Bounds) (bytes : List ℕ) (s t : Told Counts) → Reads b bytes s → s ≡ t → Reads b bytes t
answered b bytes s t a e = record { reads = λ p q r. a.reads p q r ∙ e }

long : (bytes : List ℕ) → older_bytes < length bytes → Reads older bytes (refused 1)
long bytes h = record { reads = λ p q r. refuse-1 older bytes p q r (too_long older bytes h) }

-- a file that the older machine accepted
before : (bytes : List ℕ) (net : Counts) → Passed older bytes net → Reads today bytes (given net)
before bytes net a =
    let w = handed (weights_in bytes) in
    let o = was-old w (pins_in bytes) (macros_in bytes) net a.lists in
    answered today bytes _ (given net) (checked-by today older bytes net a (omega (arith, a.blocks.whole, a.blocks.few)))
    (sym (alike w (pins_in bytes) (macros_in bytes) o) ∙ a.lists)

-- one that is accepted today, in as many blocks
module _ (bytes : List ℕ) (net : Counts) (a : Passed today bytes net) (few : length bytes ≤ older_bytes) where
  abbrev w : Weighing
  w = handed (weights_in bytes)

  counts-pins : net.pins ≡ pin_count (pins_in bytes)
  counts-pins = ap (λ (n : Counts). n.pins) (given-counts w (pins_in bytes) (macros_in bytes) a.lists)

  counts-macros : net.macros ≡ macro_count (macros_in bytes)
  counts-macros = ap (λ (n : Counts). n.macros) (given-counts w (pins_in bytes) (macros_in bytes) a.lists)

  by-check : (t : Told Counts) → checked_within older w (pins_in bytes) (macros_in bytes) ≡ t → Reads older bytes t
  by-check t e = answered older bytes _ t (checked-by older today bytes net a few) e

  eleven : older.pins < net.pins → Reads older bytes (refused 11)
  eleven h = by-check (refused 11) (pins-above older w (pins_in bytes) (macros_in bytes) (omega (arith, h, counts-pins)))

  counted : Past11 w (pins_in bytes) (macros_in bytes)
  counted = (passed-all w (pins_in bytes) (macros_in bytes) net a.lists).past.past.past.past.past.past.past.past

  twelve : net.pins ≤ older.pins → older.macros < net.macros → Reads older bytes (refused 12)
  twelve h g =
      by-check (refused 12)
      (macros-above older w (pins_in bytes) (macros_in bytes)
      (pins-within older today (pins_in bytes) counted.passed (omega (arith, h, counts-pins)))
      (omega (arith, g, counts-macros)))

  still : net.pins ≤ older.pins → net.macros ≤ older.macros → Reads older bytes (given net)
  still h g =
      let o : Old (pins_in bytes) (macros_in bytes) =
      record { few-pins = omega (arith, h, counts-pins); few-macros = omega (arith, g, counts-macros) }
      in
      by-check (given net) (alike w (pins_in bytes) (macros_in bytes) o ∙ a.lists)

-- The files of today's writer

room-today : room_short pin_list_bound macro_list_bound ≡ false
unfolding room_short_within
room-today = refl

module _ (w : Weighing) (pins macros : List ℤ) (net : Counts) (allowed : checked w pins macros ≡ given net) where
  abbrev file : List ℕ
  file = file_bytes (weights_of w) pins macros

  passed : Passed today file net
  passed =
      accepted-passed file pin_list_bound macro_list_bound net
      ((read-written w pins macros net allowed).answer pin_list_bound macro_list_bound room-today ∙ allowed)

  size : length file ≡ block_count (length (stored pins).numbers) (length macros) * block_bytes
  size = length-file (weights_of w) (stored pins) macros

  pins-given : net.pins ≡ pin_count pins
  pins-given = ap (λ (n : Counts). n.pins) (given-counts w pins macros allowed)

  macros-given : net.macros ≡ macro_count macros
  macros-given = ap (λ (n : Counts). n.macros) (given-counts w pins macros allowed)

  few-blocks : Old pins macros → length file ≤ older_bytes
  unfolding blocks_for
  few-blocks o =
      let n = pin-numbers pins (pins-ok w pins macros net allowed).whole in
      let k = (macros-ok w pins macros net allowed).whole in
      omega (arith, size, stored-few pins, n, k, o.few-pins, o.few-macros)

  older-of : OlderOf w pins macros net
  older-of = record {
    long = λ h. long file (omega (arith, h, size));
    many-pins = λ f h. eleven file net passed (omega (arith, f, size)) (omega (arith, h, pins-given));
    many-macros = λ f h g.
        twelve file net passed (omega (arith, f, size)) (omega (arith, h, pins-given)) (omega (arith, g, macros-given));
    old = λ o.
        still file net passed (few-blocks o) (omega (arith, o.few-pins, pins-given)) (omega (arith, o.few-macros, macros-given));
  }

-- Theorem

room-older : room_short_within older 192 256 ≡ false
unfolding room_short_within
room-older = refl

room-short : room_short 192 256 ≡ true
unfolding room_short_within
room-short = refl

pub old-and-new : OldAndNew
old-and-new = record {
  same_check = alike;
  same_answer = written-alike;
  same_bytes = left-alike;
  allowed-old = was-old;
  reads_before = λ bytes p q net e. before bytes net (accepted-passed bytes p q net e);
  old-room = room-older;
  more_room = λ bytes. refuse-21 today bytes 192 256 room-short;
  longer = long;
  more-pins = λ bytes p q net e f h. eleven bytes net (accepted-passed bytes p q net e) f h;
  more-macros = λ bytes p q net e f h g. twelve bytes net (accepted-passed bytes p q net e) f h g;
  written-today = older-of;
}
