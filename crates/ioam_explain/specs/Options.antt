-- The rules about the options of the Hop-by-Hop Options header (RFC 8200 section 4.2), and about the octets around them.
use Rattle.std.specs.Prelude.{ℕ, ◌+◌, ◌/◌, ◌%◌, Bool, ◌==◌, ◌&&◌, nat_le, nat_lt, if◌then◌else◌, List, [], ◌∷◌, ◌++◌, length, drop, slice_index, slice_range, Option}
use Rattle.ioam_ip.specs.Hop.{hop_head, hop_end}
use Rattle.ioam_ip.specs.Options.{Item}
use Rattle.ioam_ip.specs.Rewriting.{options_in}
use Rattle.ioam_explain.specs.Headers.{hop_octets}
use Rattle.ioam_explain.specs.Rows.{differing, number, octet}
use Rattle.ioam_explain.specs.Trace.{body_rules}
use Rattle.ioam_explain.specs.declared.reason.Reason.{Reason}
use Rattle.ioam_explain.specs.declared.reason.Rule.{Rule}
use Rattle.ioam_explain.specs.declared.reason.Rule.TheVariants as rule

-- a trace: an option that may change on the way (type 0x31, RFC 9486 section 3) with the IOAM-Option-Type 0 and a whole header
abbrev pub is_trace : ℕ → List ℕ → Bool
is_trace kind body = (kind == 0x31) && (nat_le 10 (length body) && (slice_index body 1 == 0))

-- the traces that an option counts for
abbrev pub trace_count : ℕ → List ℕ → ℕ
trace_count kind body = if is_trace kind body then 1 else 0

-- the rule about the data of any other option, by bit 0x20 of its type
abbrev pub data_rule : ℕ → Rule
data_rule kind = if kind / 32 % 2 == 1 then rule.OptionChanged else rule.OptionData

-- the padding before an option, which begins at `from`, and the option's type and length
unfoldable pub front_rules : ℕ → List ℕ → Item → List ℕ → List (Option Reason)
front_rules from old item new =
    differing rule.Padding 0 (40 + from) (slice_range new from item.at) (slice_range old from item.at)
    ∷ (octet rule.OptionType 0 (40 + item.at) (slice_index new item.at) item.kind
    ∷ (number rule.OptionLength 0 (41 + item.at) (slice_index new (item.at + 1)) (length item.body) ∷ []))

-- Next Header of the Hop-by-Hop Options header (RFC 8200 section 4)
unfoldable pub upper_rule : List ℕ → List ℕ → Option Reason
upper_rule before after = number rule.NextHeader 0 40 (slice_index after 40) (slice_index before 40)

module _ (knows : ℕ → Bool) (hops id inward : ℕ) where
  -- the data of an option, after `traces` traces; its type is octet `at` of the packet
  abbrev pub data_rules : ℕ → ℕ → ℕ → List ℕ → List ℕ → List (Option Reason)
  data_rules traces at kind old new =
      if is_trace kind old then body_rules knows hops id inward (traces + 1) (at + 2) old new
      else differing (data_rule kind) 0 (at + 2) new old ∷ []

  -- an option of a header, and the padding before it, which begins at `from`
  unfoldable pub item_rules : ℕ → ℕ → List ℕ → Item → List ℕ → List (Option Reason)
  item_rules traces from old item new = front_rules from old item new
      ++ data_rules traces (40 + item.at) item.kind item.body (slice_range new (item.at + 2) (item.at + 2 + length item.body))

  -- the options from one on, and the padding after the last
  unfoldable pub items_rules : ℕ → ℕ → List ℕ → List Item → List ℕ → List (Option Reason)
  items_rules traces from old [] new = differing rule.Padding 0 (40 + from) (drop from new) (drop from old) ∷ []
  items_rules traces from old (item ∷ items) new =
      item_rules traces from old item new
      ++ items_rules (traces + trace_count item.kind item.body) (item.at + 2 + length item.body) old items new

  -- the Hop-by-Hop Options header, if there is one
  unfoldable pub options_rules : List ℕ → List ℕ → List (Option Reason)
  options_rules before after =
      if nat_lt 0 (hop_octets before)
      then upper_rule before after
      ∷ items_rules 0 2 (hop_head before) (options_in (hop_head before)) (slice_range after 40 (hop_end before))
      else []
