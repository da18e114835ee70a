-- The net file both ways: reading what was written gives the same weights, and the same lists in the same order, with loads and without;
-- each accepted file is what the writer makes of the weights and lists read; two different nets, be it in their weights or loads, have
-- different files. The first by the places of words and numbers, the second by definition, the third from the first.
-- Assumes nothing.
use mathlib.Core.Path.{◌≡◌, refl, sym, ap, ap₂, ◌∙◌}
use mathlib.Core.Bool.{true, false, ◌||◌}
use mathlib.Core.List.{List, [], ◌∷◌, ◌++◌, append-nil, append_assoc}
use Prim.Native.Nat.{ℕ, zero, suc, ◌+◌, ◌*◌, ◌/◌, ◌%◌, ◌≤◌}
use native.Mathlib.Nat.{div-le_self}
use native.Mathlib.Omega.{arith}
use borrow.Author.Tests.{eq-eqb, ne_eqb, le-ltb, ltb-true, ltb-false}
use lib.Dec.{eqb, ltb}
use lib.IntN.{ℤ, pos, neg_ℤ}
use lib.Signed.{lt_z}
use lib.ListN.{length, get_or, length-append}
use lib.Seq.{get_or-append-add}
use mir.Syntax.{w32}
use mir.Val.{SFits}
use Rattle.lists.specs.Any.{any}
use Rattle.lists.proofs.TestLaws.{by, or-none, or-neither}
use Rattle.signed.specs.Sides.{up, down}
use Rattle.signed.proofs.SideLaws.{signed, one_side, to-sfits}
use Rattle.lent.specs.Over.{over}
use Rattle.lent.specs.Entries.{flat}
use Rattle.lent.specs.Told.{given}
use Rattle.plane.specs.declared.Weights.{Weights}
use Rattle.plane.specs.Flat.{places_of, place_numbers}
use Rattle.net.specs.declared.Weighing.{Weighing}
use Rattle.net.specs.declared.Net.{Net as Counts}
use Rattle.net.specs.Net.{weights_of, handed}
use Rattle.net.specs.Bounds.{today, coordinate_bound, load_bound, pin_width, macro_width}
use Rattle.net.specs.Pins.{pin_places, pin_loads, flat_pins, macro_count}
use Rattle.net.specs.Tests.{out_of_range, place_out, no_load, pins_out_of_range, weights_wrong}
use Rattle.net.specs.Allowed.{Weighted}
use Rattle.net.proofs.PinLaws.{macro-numbers}
use Rattle.net.proofs.AllowedLaws.{weights-within}
use Rattle.net.proofs.HandedLaws.{weights-handed, handed-weights}
use Rattle.checks.specs.Check.{checked}
use Rattle.checks.proofs.PassedLaws.{passed-all}
use Rattle.checks.proofs.GivenLaws.{given-counts}
use Rattle.blocks.specs.Sizes.{block_words, block_bytes, pin_count_word, macro_count_word, head_kind, macro_kind, loaded_kind, place_width, blocks_for}
use Rattle.blocks.specs.Sizes.{block_count, file_blocks, file_bound}
use Rattle.blocks.specs.Words.{words_of}
use Rattle.blocks.specs.Sums.{sealed, wrong_sums}
use Rattle.blocks.specs.Block.{block, head_block, list_block}
use Rattle.encoded.specs.Layout.{list_blocks, Stored, loaded, stored, pin_blocks, macro_blocks, file_words, laid_bytes, file_bytes}
use Rattle.decoded.specs.Held.{blocks_miscounted, blocks_miscounted_within, blocks_of, sums_wrong, head_word, loaded_in, pin_length, macro_length}
use Rattle.decoded.specs.Held.{weights_in, numbers_in, stored_in, pins_in, macros_in, counts_wrong, head_wrong}
use Rattle.netfile.specs.Read.{laid_out, room_short, read_file}
use Rattle.blocks.proofs.SizeLaws.{enough, pins-few, macros-few}
use Rattle.blocks.proofs.BlockLaws.{length-head}
use Rattle.encoded.proofs.LayoutLaws.{length-list-blocks, length-file}
use Rattle.encoded.proofs.SameLaws.{same_true, same_refl}
use Rattle.encoded.proofs.StoredLaws.{stored-with, stored-alone, either-kind, length-alone, kind-small, bare-pins, places-back, loaded-some}
use Rattle.decoded.proofs.HeldLaws.{in-with, in-alone, long-with, long-alone}
use Rattle.netfile.proofs.WriteLaws.{pins-ok, macros-ok, allowed-blocks}
use Rattle.netfile.proofs.AnswerLaws.{laid-out, read-on, accepted-passed}
use Rattle.netfile.proofs.FileLaws.{Small, Fit, words-bytes, small-append, small-block, small-list-blocks, pass-head, pass-list}
use Rattle.netfile.proofs.FileLaws.{list_read}
use Rattle.netfile.proofs.WeightLaws.{word-within, weights-read, weights-written}

-- Coordinates in range fit 32 bits

in-range-fits : (z : ℤ) → out_of_range z ≡ false → SFits w32 z
unfolding out_of_range up down
in-range-fits z e =
    let r = or-none (lt_z z (neg_ℤ (pos coordinate_bound))) (lt_z (pos coordinate_bound) z) e in
    let a : lt_z z (neg_ℤ (pos coordinate_bound)) ≡ false = r.0 in
    let b : lt_z (pos coordinate_bound) z ≡ false = r.1 in
    to-sfits w32 z (omega (signed, one_side z)) (omega (signed, one_side z))

load_fits : (z : ℤ) → no_load z ≡ false → SFits w32 z
unfolding no_load up down
load_fits z e =
    let r = or-none (lt_z z (pos 0)) (lt_z (pos load_bound) z) e in
    let a : lt_z z (pos 0) ≡ false = r.0 in
    let b : lt_z (pos load_bound) z ≡ false = r.1 in
    to-sfits w32 z (omega (signed, one_side z)) (omega (signed, one_side z))

all_fit : (zs : List ℤ) → any out_of_range zs ≡ false → Fit zs
unfolding any
all_fit [] e = tt
all_fit (z ∷ zs) e =
    let r = or-none (out_of_range z) (any out_of_range zs) e in
    (in-range-fits z r.0, all_fit zs r.1)

pins-in-range-fit : (pins : List ℤ) → length pins % pin_width ≡ 0 → any place_out (pin_places pins) ≡ false
    → any no_load (pin_loads pins) ≡ false → Fit pins
unfolding any pin_places pin_loads
pins-in-range-fit [] h d e = tt
pins-in-range-fit (x ∷ []) h d e = absurd (let f : ⊥ = omega arith in f)
pins-in-range-fit (x ∷ (y ∷ [])) h d e = absurd (let f : ⊥ = omega arith in f)
pins-in-range-fit (x ∷ (y ∷ (load ∷ s))) h d e =
    let r = or-none (out_of_range x || out_of_range y) (any place_out (pin_places s)) d in
    let p = or-none (out_of_range x) (out_of_range y) r.0 in
    let l = or-none (no_load load) (any no_load (pin_loads s)) e in
    (in-range-fits x p.0, (in-range-fits y p.1, (load_fits load l.0, pins-in-range-fit s (omega arith) r.1 l.1)))

-- so do those of their places
places-fit : (pins : List ℤ) → Fit pins → Fit (flat place_numbers (pin_places pins))
unfolding flat pin_places
places-fit [] f = tt
places-fit (x ∷ []) f = tt
places-fit (x ∷ (y ∷ [])) f = tt
places-fit (x ∷ (y ∷ (load ∷ s))) f = (f.0, (f.1.0, places-fit s f.1.1.1))

no_blocks : any wrong_sums (blocks_of 0 []) ≡ false
unfolding any blocks_of
no_blocks = refl

-- weights from 1 to 8, and lists of whole entries that the longest file holds, of numbers that 32 bits hold; every allowed net is one
pub record Storable (w : Weighing) (pins macros : List ℤ) : Type 0 where
  pub weights : weights_wrong w ≡ false
  pub whole-pins : length pins % pin_width ≡ 0
  pub whole-macros : length macros % macro_width ≡ 0
  pub pins-fit : Fit pins
  pub macros-fit : Fit macros
  pub blocks : block_count (length (stored pins).numbers) (length macros) ≤ file_blocks

pub allowed-storable : (w : Weighing) (pins macros : List ℤ) (net : Counts) → checked w pins macros ≡ given net → Storable w pins macros
unfolding pins_out_of_range
allowed-storable w pins macros net e =
    let p = passed-all w pins macros net e in
    let a = p.past.past.past.past.past in
    let r = or-none (any place_out (pin_places pins)) (any no_load (pin_loads pins)) a.past.passed in
    record {
      weights = p.passed;
      whole-pins = (pins-ok w pins macros net e).whole;
      whole-macros = (macros-ok w pins macros net e).whole;
      pins-fit = pins-in-range-fit pins (pins-ok w pins macros net e).whole r.0 r.1;
      macros-fit = all_fit macros a.passed;
      blocks = allowed-blocks w pins macros net e;
    }

-- The first word of a list's blocks

-- the kind, where there is a block
first_kind : (kind w number n : ℕ) (zs : List ℤ) (rest : List ℕ) → 1 ≤ n → get_or (list_blocks kind w number n zs ++ rest) 0 0 ≡ kind
unfolding list_blocks list_block block sealed over
first_kind kind w number zero zs rest h = absurd (let f : ⊥ = omega arith in f)
first_kind kind w number (suc n) zs rest h = refl

no_kind : (kind w number : ℕ) (zs : List ℤ) (rest : List ℕ) → list_blocks kind w number 0 zs ++ rest ≡ rest
unfolding list_blocks
no_kind kind w number zs rest = refl

-- of a list's blocks, and of others behind them where it has none
module _ (kind w number n : ℕ) (zs : List ℤ) (rest : List ℕ) (other : ℕ) where
  kind-apart : eqb kind other ≡ false → eqb (get_or rest 0 0) other ≡ false → eqb (get_or (list_blocks kind w number n zs ++ rest) 0 0) other
      ≡ false
  kind-apart d e =
      by (ltb 0 n)
      (λ t. ap (λ (k : ℕ). eqb k other) (first_kind kind w number n zs rest (omega (arith, ltb-true 0 n t))) ∙ d)
      (λ t.
      let z : n ≡ 0 = omega (arith, ltb-false 0 n t) in
      rw z (ap (λ (ws : List ℕ). eqb (get_or ws 0 0) other) (no_kind kind w number zs rest) ∙ e))

-- The file of such weights and lists, read

module _ (w : Weighing) (pins macros : List ℤ) (lists : Storable w pins macros) where
  abbrev weights : Weights
  weights = weights_of w

  -- the pins as they are stored, and how many blocks that takes
  abbrev kept : Stored
  kept = stored pins

  abbrev pin_block_count : ℕ
  pin_block_count = blocks_for (length kept.numbers)

  abbrev file : List ℕ
  file = file_bytes weights pins macros

  abbrev count : ℕ
  count = length kept.numbers / kept.width

  abbrev head : List ℕ
  head = head_block count (macro_count macros) weights

  weighted : Weighted weights
  weighted = weights-within w lists.weights

  kept-fit : Fit kept.numbers
  kept-fit = either-kind pins (λ s. Fit s.numbers) (λ e. lists.pins-fit) (λ e. places-fit pins lists.pins-fit)

  small-head : Small head
  unfolding head_block
  small-head =
      let a = word-within weights.across weighted.across in
      let b = word-within weights.along weighted.along in
      small-block head_kind 0 0 _ (omega arith) (omega arith) (omega arith) (
        omega (arith, pins-few _ _ lists.blocks, div-le_self (length kept.numbers) kept.width),
        (omega (arith, macros-few _ _ lists.blocks), (omega arith, (omega arith, tt))),
      )

  small-file : Small (file_words weights kept macros)
  unfolding file_words
  small-file =
      small-append head _ small-head
      (small-append (pin_blocks kept) _
      (small-list-blocks kept.kind kept.width 1 pin_block_count kept.numbers (kind-small pins)
      (omega (arith, lists.blocks))
      kept-fit)
      (small-list-blocks macro_kind macro_width (1 + pin_block_count) (blocks_for (length macros)) macros (omega arith)
      (omega (arith, lists.blocks))
      lists.macros-fit))

  words-read : words_of file ≡ file_words weights kept macros
  unfolding laid_bytes
  words-read = words-bytes (file_words weights kept macros) small-file

  count-read : head_word pin_count_word file ≡ count
  unfolding head_word file_words head_block block sealed over
  count-read = ap (λ (ws : List ℕ). get_or ws pin_count_word 0) words-read

  macro-count-read : head_word macro_count_word file ≡ macro_count macros
  unfolding head_word file_words head_block block sealed over
  macro-count-read = ap (λ (ws : List ℕ). get_or ws macro_count_word 0) words-read

  -- F26: the word after the head's block is the kind of the pins' blocks, or of what is there instead
  kind-word : get_or (words_of file) block_words 0 ≡ get_or (pin_blocks kept ++ macro_blocks kept macros) 0 0
  unfolding file_words
  kind-word =
      let i : block_words ≡ length head + 0 = omega (arith, length-head count (macro_count macros) weights) in
      ap₂ (λ (ws : List ℕ) (k : ℕ). get_or ws k 0) words-read i ∙ get_or-append-add head _ 0 0

  blocks-with : loaded pins ≡ true → 1 ≤ pin_block_count
  blocks-with e =
      rw (stored-with pins e) (omega (arith, enough (length pins), loaded-some pins e))

  kind-with : loaded pins ≡ true → get_or (pin_blocks kept ++ macro_blocks kept macros) 0 0 ≡ loaded_kind
  kind-with e =
      first_kind kept.kind kept.width 1 pin_block_count kept.numbers _ (blocks-with e)
      ∙ ap (λ (s : Stored). s.kind) (stored-with pins e)

  kind-alone : loaded pins ≡ false → eqb (get_or (pin_blocks kept ++ macro_blocks kept macros) 0 0) loaded_kind ≡ false
  kind-alone e =
      let q = macro_blocks kept macros in
      let k : eqb (get_or q 0 0) loaded_kind ≡ false =
      ap (λ (ws : List ℕ). eqb (get_or ws 0 0) loaded_kind) (sym (append-nil q))
      ∙ kind-apart macro_kind macro_width (1 + pin_block_count) (blocks_for (length macros)) macros [] loaded_kind refl refl in
      let d : eqb kept.kind loaded_kind ≡ false = rw (stored-alone pins e) refl in
      kind-apart kept.kind kept.width 1 pin_block_count kept.numbers q loaded_kind d k

  loaded-read : loaded_in file ≡ loaded pins
  unfolding loaded_in
  loaded-read =
      ap (λ (k : ℕ). eqb k loaded_kind) kind-word
      ∙ by (loaded pins) (λ e. eq-eqb _ loaded_kind (kind-with e) ∙ sym e) (λ e. kind-alone e ∙ sym e)

  pin-length-read : pin_length file ≡ length kept.numbers
  pin-length-read =
      by (loaded pins)
      (λ e.
      long-with file (loaded-read ∙ e)
      ∙ ap (λ (n : ℕ). n * pin_width) count-read
      ∙ rw (stored-with pins e) (omega (arith, lists.whole-pins)))
      (λ e.
      long-alone file (loaded-read ∙ e)
      ∙ ap (λ (n : ℕ). n * place_width) count-read
      ∙ rw (stored-alone pins e) (omega (arith, length-alone pins)))

  macro-length-read : macro_length file ≡ length macros
  macro-length-read = ap (λ (n : ℕ). n * macro_width) macro-count-read ∙ macro-numbers macros lists.whole-macros

  stored-read : stored_in file ≡ kept.numbers
  unfolding stored_in file_words
  stored-read =
      ap (numbers_in file 1 0) pin-length-read
      ∙ list_read file head _ kept.kind kept.width 1 1 pin_block_count kept.numbers words-read (length-head _ _ weights)
      (enough (length kept.numbers)) kept-fit

  pins-read : pins_in file ≡ pins
  pins-read =
      by (loaded pins)
      (λ e. in-with file (loaded-read ∙ e) ∙ stored-read ∙ ap (λ (s : Stored). s.numbers) (stored-with pins e))
      (λ e.
      in-alone file (loaded-read ∙ e)
      ∙ ap (λ (l : List ℤ). flat_pins (places_of l)) (stored-read ∙ ap (λ (s : Stored). s.numbers) (stored-alone pins e))
      ∙ ap flat_pins (places-back (pin_places pins))
      ∙ bare-pins pins lists.whole-pins e)

  macros-read : macros_in file ≡ macros
  unfolding macros_in file_words
  macros-read =
      let h = head in
      let e = length-head count (macro_count macros) weights in
      let n = pin_block_count in
      let p = pin_blocks kept in
      let q = macro_blocks kept macros in
      let f : words_of file ≡ (h ++ p) ++ (q ++ []) =
      words-read ∙ sym (append_assoc h p q) ∙ ap (λ (l : List ℕ). (h ++ p) ++ l) (sym (append-nil q))
      in
      let l : length (h ++ p) ≡ (1 + n) * block_words =
      length-append h p ∙ omega (arith, e, length-list-blocks kept.kind kept.width 1 n kept.numbers)
      in
      ap₂ (λ (b k : ℕ). numbers_in file (1 + blocks_for b) 0 k) pin-length-read macro-length-read
      ∙ list_read file (h ++ p) [] macro_kind macro_width (1 + n) (1 + n) (blocks_for (length macros)) macros f l
      (enough (length macros)) lists.macros-fit

  blocks-right : blocks_miscounted file ≡ false
  unfolding blocks_miscounted_within
  blocks-right =
      let n = length-file weights kept macros in
      let a : length file % block_bytes ≡ 0 = omega (arith, n) in
      let b : length file / block_bytes ≡ 0 → ⊥ = λ e. omega (arith, n, e) in
      let c : length file / block_bytes ≤ file_blocks = omega (arith, n, lists.blocks) in
      rw (eq-eqb _ 0 a, ne_eqb _ 0 b, le-ltb file_blocks _ c) refl

  sums-right : sums_wrong file ≡ false
  unfolding sums_wrong file_words
  sums-right =
      let n = pin_block_count in
      let k = blocks_for (length macros) in
      let q = macro_blocks kept macros in
      let e : length file / block_bytes ≡ suc (n + (k + 0)) = omega (arith, length-file weights kept macros) in
      ap₂ (λ (i : ℕ) (ws : List ℕ). any wrong_sums (blocks_of i ws)) e words-read
      ∙ pass-head count (macro_count macros) weights (n + (k + 0)) _
      ∙ pass-list kept.kind kept.width 1 n (k + 0) kept.numbers q
      ∙ ap (λ (ws : List ℕ). any wrong_sums (blocks_of (k + 0) ws)) (sym (append-nil q))
      ∙ pass-list macro_kind macro_width (1 + n) k 0 macros []
      ∙ no_blocks

  counts-right : counts_wrong file ≡ false
  unfolding counts_wrong
  counts-right =
      let e : length file / block_bytes ≡ block_count (length kept.numbers) (length macros) = omega
      (arith, length-file weights kept macros) in
      rw (pin-length-read, macro-length-read, eq-eqb _ _ e) refl

  head-right : head_wrong file ≡ false
  unfolding head_wrong
  head-right = or-neither _ _ counts-right (weights-written weights kept macros weighted)

-- Theorems

-- what a read of the file of a net gives: the same weights, the same lists in the same order, and the answer of their check
pub record ReadBack (w : Weighing) (pins macros : List ℤ) : Type 0 where
  pub weights-back : weights_in (file_bytes (weights_of w) pins macros) ≡ weights_of w
  pub pins-back : pins_in (file_bytes (weights_of w) pins macros) ≡ pins
  pub macros-back : macros_in (file_bytes (weights_of w) pins macros) ≡ macros
  pub answer : (p q : ℕ) → room_short p q ≡ false → read_file (file_bytes (weights_of w) pins macros) p q ≡ checked w pins macros

-- reading what was laid out gives the same net, also where its lists are more than a net may have: 11 or 12, not 3
pub read-laid : (w : Weighing) (pins macros : List ℤ) → Storable w pins macros → ReadBack w pins macros
read-laid w pins macros l =
    let f = file_bytes (weights_of w) pins macros in
    let v : weights_in f ≡ weights_of w = weights-read (weights_of w) (stored pins) macros (weights-within w l.weights) in
    let p = pins-read w pins macros l in
    let m = macros-read w pins macros l in
    record {
      weights-back = v;
      pins-back = p;
      macros-back = m;
      answer = λ a b r.
          read-on today f a b r (blocks-right w pins macros l) (sums-right w pins macros l) (head-right w pins macros l)
          ∙ ap₂ (laid_out f (weights_in f)) p m
          ∙ ap (λ (u : Weights). laid_out f u pins macros) v
          ∙ laid-out today f (weights_of w) pins macros (same_refl f)
          ∙ ap (λ (u : Weighing). checked u pins macros) (handed-weights w l.weights);
    }

-- reading what was written gives the same net
pub read-written : (w : Weighing) (pins macros : List ℤ) (net : Counts) → checked w pins macros ≡ given net → ReadBack w pins macros
read-written w pins macros net e = read-laid w pins macros (allowed-storable w pins macros net e)

-- F16: no file is longer than the longest
pub longest-file : (w : Weighing) (pins macros : List ℤ) (net : Counts) → checked w pins macros ≡ given net
    → length (file_bytes (weights_of w) pins macros) ≤ file_bound
longest-file w pins macros net e =
    omega (arith, length-file (weights_of w) (stored pins) macros, (allowed-storable w pins macros net e).blocks)

-- an accepted file is what the writer makes of the weights and lists read; these are an allowed net, and the weights are given
pub record Ours (bytes : List ℕ) (net : Counts) : Type 0 where
  pub file : bytes ≡ file_bytes (weights_in bytes) (pins_in bytes) (macros_in bytes)
  pub lists : checked (handed (weights_in bytes)) (pins_in bytes) (macros_in bytes) ≡ given net
  pub weights : net.weights ≡ weights_in bytes

pub accepted-is-ours : (bytes : List ℕ) (p q : ℕ) (net : Counts) → read_file bytes p q ≡ given net → Ours bytes net
accepted-is-ours bytes p q net e =
    let l = accepted-passed bytes p q net e in
    record {
      file = same_true bytes _ l.same;
      lists = l.lists;
      weights = ap (λ (n : Counts). n.weights) (given-counts _ _ _ l.lists) ∙ weights-handed (weights_in bytes);
    }

-- two allowed nets with one file are one net
pub record SameNet (w w' : Weighing) (pins macros pins' macros' : List ℤ) : Type 0 where
  pub same-weights : w ≡ w'
  pub same-pins : pins ≡ pins'
  pub same-macros : macros ≡ macros'

pub same-file : (w w' : Weighing) (pins macros pins' macros' : List ℤ) (net net' : Counts) → checked w pins macros ≡ given net
    → checked w' pins' macros' ≡ given net' → file_bytes (weights_of w) pins macros ≡ file_bytes (weights_of w') pins' macros'
    → SameNet w w' pins macros pins' macros'
same-file w w' pins macros pins' macros' net net' e e' f =
    let a = read-written w pins macros net e in
    let b = read-written w' pins' macros' net' e' in
    record {
      same-weights =
          sym (handed-weights w (passed-all w pins macros net e).passed)
          ∙ ap handed (sym a.weights-back ∙ ap weights_in f ∙ b.weights-back)
          ∙ handed-weights w' (passed-all w' pins' macros' net' e').passed;
      same-pins = sym a.pins-back ∙ ap pins_in f ∙ b.pins-back;
      same-macros = sym a.macros-back ∙ ap macros_in f ∙ b.macros-back;
    }
