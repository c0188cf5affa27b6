-- The outer Hop-by-Hop header, read and written in place.
use Rattle.std.proofs.Common.{◌≡◌, ℕ, ◌-◌, false, cond, List, [], length, take, drop, sym, ap, ◌∙◌, arith, length-take, length-drop}
use Rattle.std.specs.declared.ops.Range.{Range}
use borrow.Rule.Slice.PartMut.{put_mid}
use Rattle.ioam_base.specs.Octets.{written}
use Rattle.ioam_ip.specs.Hop.{has_hop, hop_end, hop_head, hop_options, IsHopRange, hop_stepped, ioam_count, option_count}
use Rattle.ioam_ip.specs.Rewriting.{options_in, with_steps}
use Rattle.ioam_base.proofs.WrittenLaws.{written-mid}

-- without that header nothing changes, and there are no options
module _ (packet : List ℕ) (none : has_hop packet ≡ false) where
  pub hop_stepped-none : (step : ℕ → List ℕ → List ℕ) → packet ≡ hop_stepped step packet
  hop_stepped-none step = sym (ap (λ b. cond b (written packet 40 (with_steps step (hop_head packet) (options_in (hop_head packet)))) packet) none)

  pub hop_options-none : hop_options packet ≡ []
  hop_options-none = ap (λ b. cond b (options_in (hop_head packet)) []) none

module _ (packet : List ℕ) (range : Range ℕ) (at : IsHopRange packet range) where
  abbrev old : List ℕ
  old = take (range.end - range.start) (drop range.start packet)

  -- its octets
  pub hop_head-is : old ≡ hop_head packet
  hop_head-is = λ i. take (at.ends i - at.begins i) (drop (at.begins i) packet)

  -- its options
  pub hop_options-is : hop_options packet ≡ options_in old
  hop_options-is = ap (λ b. cond b (options_in (hop_head packet)) []) at.there ∙ ap options_in (sym hop_head-is)

  -- how many IOAM options stand in it
  pub option_count-is : option_count packet ≡ ioam_count (options_in old)
  option_count-is = ap (λ b. cond b (ioam_count (options_in (hop_head packet))) 0) at.there ∙ ap (λ head. ioam_count (options_in head)) (sym hop_head-is)

  long_old : length old ≡ hop_end packet - 40
  long_old = omega (arith, at.begins, at.ends, at.within, length-take (range.end - range.start) (drop range.start packet), length-drop range.start packet)

  module _ (part : List ℕ) (long : length part ≡ length old) where
    abbrev put : List ℕ
    put = put_mid range.start (range.end - range.start) packet part

    put_is : put ≡ written packet 40 part
    put_is = (λ i. put_mid (at.begins i) (at.ends i - at.begins i) packet part) ∙ written-mid packet part 40 (hop_end packet) (omega arith) (long ∙ long_old)

    -- each option changed
    pub hop_stepped-is : (step : ℕ → List ℕ → List ℕ) → part ≡ with_steps step old (options_in old) → put ≡ hop_stepped step packet
    hop_stepped-is step steps =
        put_is ∙ ap (λ xs. written packet 40 xs) steps
        ∙ ap (λ head. written packet 40 (with_steps step head (options_in head))) hop_head-is
        ∙ sym (ap (λ b. cond b (written packet 40 (with_steps step (hop_head packet) (options_in (hop_head packet)))) packet) at.there)
