-- The outer Hop-by-Hop Options header of a packet with a whole chain lies where its length says.
use Rattle.std.proofs.Common.{◌≡◌, ℕ, ◌+◌, ◌≤◌, List, true, length, slice_index, slice_range, refl, sym, ap, subst, arith}
use Rattle.ioam_ip.specs.Chain.{CanPass, said_size, IsSound}
use Rattle.ioam_ip.specs.ChainOptions.{IsFilledRange}
use Rattle.ioam_ip.specs.HeadsLeft.{AreHeads}
use Rattle.ioam_ip.specs.Hop.{has_hop, IsHopRange}
use Rattle.ioam_ip.specs.Options.{IsFilled}
use Rattle.ioam_ip.proofs.SoundLaws.{hop_passes, zero_is}

module _ (p : List ℕ) (sound : IsSound p) where
  heads_are : AreHeads p sound.heads
  heads_are = record { upper = sound.upper; at = sound.at; chain = sound.chain }

  module _ (is : has_hop p ≡ true) (size : ℕ) (said : size ≡ said_size p 40) where
    passes : CanPass p (record { value = 0; at = 40; behind_ip = true })
    passes = hop_passes p sound.heads heads_are (zero_is (slice_index p 6) is)

    pub hop_within : 40 + size ≤ length p
    hop_within = omega (arith, passes.0, said)

    pub IsFilledRange-hop : IsFilledRange p (record { start = 40; end = 40 + size })
    IsFilledRange-hop =
        let P : ℕ → Type 0 = λ n. IsFilled (slice_range p 40 (40 + n)) in
        record { ordered = omega arith; within = hop_within; filled = subst P (sym said) passes.1.1 }

    pub IsHopRange-hop : size ≤ 2048 → IsHopRange p (record { start = 40; end = 40 + size })
    IsHopRange-hop short = record { there = is; begins = refl; ends = ap (λ n. 40 + n) said; within = hop_within; short = omega (arith, short) }
