-- The options of the Hop-by-Hop header of an enclosed packet.
use Rattle.std.proofs.Common.{◌≡◌, ℕ, ◌+◌, ◌-◌, true, false, cond, eqb, List, [], ◌∷◌, ◌++◌, length, take, drop, slice_index, slice_range, refl, ap, ◌∙◌, arith}
use Rattle.std.proofs.lemmas.List.{take_at}
use Rattle.ioam_ip.specs.Hop.{has_hop, hop_end, hop_head, hop_options}
use Rattle.ioam_ip.specs.Laid.{Part, AreParts, header_of, header_if, value_if, items_of}
use Rattle.ioam_ip.specs.Rewriting.{options_in}
use Rattle.ioam_ip.proofs.LaidLaws.{options_in-header, said-header}
use Rattle.ioam_tunnel.specs.Wire.{Tunnel, next_value, behind_outer, outer_header, packet_with}

other_value : (targets : List Part) → eqb (value_if 60 targets 41) 0 ≡ false
other_value [] = refl
other_value (part ∷ parts) = refl

module _ (tunnel : Tunnel) (limit : ℕ) where
  value_is : (parts : List Part) → slice_index (packet_with tunnel limit parts) 6 ≡ value_if 0 parts (next_value tunnel)
  unfolding packet_with
  value_is parts = refl

  no_hop : has_hop (packet_with tunnel limit []) ≡ false
  no_hop = ap (λ n. eqb n 0) (value_is []) ∙ other_value tunnel.targets

  module _ (part : Part) (parts : List Part) where
    abbrev packet : List ℕ
    packet = packet_with tunnel limit (part ∷ parts)

    abbrev head : List ℕ
    head = header_of (next_value tunnel) (part ∷ parts)

    abbrev rest : List ℕ
    rest = header_if 41 tunnel.targets ++ tunnel.inner

    a_hop : has_hop packet ≡ true
    a_hop = ap (λ n. eqb n 0) (value_is (part ∷ parts))

    packet_is : packet ≡ outer_header tunnel (length (behind_outer tunnel (part ∷ parts))) 0 limit ++ (head ++ rest)
    unfolding packet_with
    packet_is = refl

    end_is : hop_end packet ≡ 40 + length head
    end_is = ap (λ xs. hop_end xs) packet_is ∙ ap (λ n. 40 + n) (said-header (next_value tunnel) (part ∷ parts))

    head_is : hop_head packet ≡ head
    head_is =
        let size : (40 + length head) - 40 ≡ length head = omega arith in
        ap (λ n. slice_range packet 40 n) end_is
        ∙ ap (λ n. take n (drop 40 packet)) size
        ∙ ap (λ xs. take (length head) (drop 40 xs)) packet_is
        ∙ take_at head rest (length head) refl

  -- they are those that were laid out, each at its place
  pub hop_options-packet : (parts : List Part) → AreParts parts → hop_options (packet_with tunnel limit parts) ≡ items_of 2 parts
  hop_options-packet [] kinds = ap (λ b. cond b (options_in (hop_head (packet_with tunnel limit []))) []) no_hop
  hop_options-packet (part ∷ parts) kinds =
      ap (λ b. cond b (options_in (hop_head (packet part parts))) []) (a_hop part parts)
      ∙ ap options_in (head_is part parts)
      ∙ options_in-header (next_value tunnel) (part ∷ parts) kinds
