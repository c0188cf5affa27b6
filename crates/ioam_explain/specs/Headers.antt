-- The rules about the IPv6 header and the presence and length of the Hop-by-Hop Options header (RFC 8200 sections 3 and 4).
use Rattle.std.specs.Prelude.{ℕ, ◌+◌, ◌-◌, ◌*◌, ◌/◌, ◌%◌, ◌==◌, ◌&&◌, ◌||◌, not, nat_le, nat_lt, if◌then◌else◌, List, [], ◌∷◌, length, slice_index, slice_range, Option}
use Rattle.ioam_base.specs.Octets.{u16_at}
use Rattle.ioam_ip.specs.Chain.{said_size}
use Rattle.ioam_ip.specs.Hop.{has_hop, hop_end}
use Rattle.ioam_explain.specs.Rows.{differing, number, row}
use Rattle.ioam_explain.specs.declared.reason.Reason.{Reason}
use Rattle.ioam_explain.specs.declared.reason.Rule.TheVariants as rule
use Rattle.ioam_explain.specs.declared.reason.Value.{Value}
use Rattle.ioam_explain.specs.declared.reason.Value.TheVariants.{Number, Nothing}

-- the octets of the Hop-by-Hop Options header, 0 if it isn't there or passes the packet
unfoldable pub hop_octets : List ℕ → ℕ
hop_octets packet = if has_hop packet && nat_le (hop_end packet) (length packet) then said_size packet 40 else 0

-- the traffic class and the flow label
abbrev pub traffic_class : List ℕ → ℕ
traffic_class packet = u16_at packet 0 / 16 % 256

abbrev pub flow_label : List ℕ → ℕ
flow_label packet = slice_index packet 1 % 16 * 65536 + u16_at packet 2

-- the hop limit that a router sends a packet on with, nothing for one that it doesn't send on
unfoldable pub lower_limit : ℕ → Value
lower_limit limit = if nat_lt limit 2 then Nothing else Number (limit - 1)

-- the hop limit is 2 or more and falls by one
abbrev pub limit_rule : ℕ → ℕ → Option Reason
limit_rule found limit = row (nat_lt limit 2 || not (found + 1 == limit)) rule.HopLimit 0 7 (Number found) (lower_limit limit)

module _ (before after : List ℕ) where
  -- the header is neither inserted nor removed, and keeps its length (RFC 8200 sections 4 and 4.3)
  unfoldable pub presence_rules : List (Option Reason)
  presence_rules =
      row (not (has_hop before) && has_hop after) rule.HeaderInserted 0 6 (Number (hop_octets after)) Nothing
      ∷ (row (has_hop before && not (has_hop after)) rule.HeaderRemoved 0 6 Nothing (Number (hop_octets before))
      ∷ (number rule.HeaderLength 0 41 (hop_octets after) (hop_octets before)
      ∷ (row (not (length after == length before)) rule.PayloadLength 0 4 (Number (u16_at after 4)) (Number (u16_at before 4)) ∷ [])))

  -- the fields of the IPv6 header (RFC 8200 section 3), the flow label also by RFC 6437 section 2
  unfoldable pub header_rules : List (Option Reason)
  header_rules =
      number rule.TrafficClass 0 0 (traffic_class after) (traffic_class before)
      ∷ (number rule.FlowLabel 0 1 (flow_label after) (flow_label before)
      ∷ (number rule.NextHeader 0 6 (slice_index after 6) (slice_index before 6)
      ∷ (limit_rule (slice_index after 7) (slice_index before 7)
      ∷ (differing rule.Source 0 8 (slice_range after 8 24) (slice_range before 8 24)
      ∷ (differing rule.Destination 0 24 (slice_range after 24 40) (slice_range before 24 40) ∷ [])))))
