-- The rules about a pre-allocated trace (RFC 9197 section 4.4.1).
use Rattle.std.specs.Prelude.{ℕ, ◌+◌, ◌-◌, ◌*◌, ◌/◌, ◌%◌, Bool, ◌==◌, ◌&&◌, ◌||◌, not, nat_le, nat_lt, if◌then◌else◌, List, [], ◌∷◌, ◌++◌, length, take, drop, slice_index, slice_range, Option, Some, None}
use Rattle.ioam_base.specs.Octets.{u16_at}
use Rattle.ioam_data.specs.Kind.{has, undefined, where_has, words}
use Rattle.ioam_trace.specs.Head.{flags_of, kind_of, node_len_of, overflow_of, remaining_of}
use Rattle.ioam_explain.specs.Fields.{element_rules}
use Rattle.ioam_explain.specs.Rows.{common, differing, number, octet, row}
use Rattle.ioam_explain.specs.declared.reason.Reason.{Reason}
use Rattle.ioam_explain.specs.declared.reason.Rule.{Rule}
use Rattle.ioam_explain.specs.declared.reason.Rule.TheVariants as rule
use Rattle.ioam_explain.specs.declared.reason.Value.TheVariants.{Number}

-- NodeLen suits a type: it is the words of the type's fields, or with undefined bits at least these
abbrev pub suits : ℕ → ℕ → Bool
suits kind node_len = if undefined kind == 0 then node_len == words kind else nat_le (words kind) node_len

-- The rule by which a trace must be left as it is. The first is of section 4.3.
unfoldable pub left_by : Bool → List ℕ → Option Rule
left_by knows old =
    if not knows then Some rule.LeftNamespace
    else (if overflow_of old == 1 then Some rule.LeftOverflow
    else (if not (length old % 4 == 0) then Some rule.LeftPartWord
    else (if nat_lt (length old) (8 + 4 * remaining_of old) then Some rule.LeftRemainingLen
    else (if not (suits (kind_of old) (node_len_of old)) then Some rule.LeftNodeLen
    else (if kind_of old / 2 == 0 then Some rule.LeftNoField
    else None)))))

-- the flags but Overflow: Loopback 4, Active 2
abbrev pub other_flags : List ℕ → ℕ
other_flags octets = flags_of octets % 8

-- the words of the shortest element that can be added
abbrev pub least : List ℕ → ℕ
least old = node_len_of old + where_has (kind_of old) 22 1

-- an element may fit
abbrev pub fits : List ℕ → Bool
fits old = nat_le (least old) (remaining_of old)

-- RemainingLen falls by the words of an element, which with bit 22 may be more than the shortest one's
abbrev pub falls : List ℕ → ℕ → Bool
falls old now = (now == remaining_of old - least old) || (has (kind_of old) 22 && nat_lt now (remaining_of old - least old))

-- a trace before and after, from its Namespace-ID on, which is octet `at` of the packet
module _ (trace at : ℕ) where
  -- where nothing has changed, and the type has no undefined bits
  unfoldable pub same_rules : List ℕ → List (Option Reason)
  same_rules old =
      row ((undefined (kind_of old) == 0) && fits old) rule.ElementMissing trace (at + 3) (Number (remaining_of old)) (Number (remaining_of old - least old))
      ∷ (row ((undefined (kind_of old) == 0) && not (fits old)) rule.OverflowMissing trace (at + 2) (Number 0) (Number 1) ∷ [])

  -- the header stays but for Overflow and RemainingLen
  unfoldable pub head_rules : List ℕ → List ℕ → List (Option Reason)
  head_rules old new =
      differing rule.NamespaceId trace at (take 2 new) (take 2 old)
      ∷ (number rule.NodeLen trace (at + 2) (node_len_of new) (node_len_of old)
      ∷ (number rule.Flags trace (at + 2) (other_flags new) (other_flags old)
      ∷ (differing rule.TraceType trace (at + 4) (slice_range new 4 7) (slice_range old 4 7)
      ∷ (octet rule.TraceReserved trace (at + 7) (slice_index new 7) (slice_index old 7) ∷ []))))

  -- with Overflow, which is set if no element fits, all else stays
  unfoldable pub overflow_rules : List ℕ → List ℕ → List (Option Reason)
  overflow_rules old new =
      row (fits old && not (has (kind_of old) 22)) rule.OverflowEarly trace (at + 2) (Number 1) (Number 0)
      ∷ (number rule.RemainingLen trace (at + 3) (remaining_of new) (remaining_of old)
      ∷ (differing rule.OverflowWords trace (at + 8) (drop 8 new) (drop 8 old) ∷ []))

  -- without it RemainingLen falls
  unfoldable pub room_rules : List ℕ → List ℕ → List (Option Reason)
  room_rules old new =
      row (not (fits old)) rule.OverflowMissing trace (at + 2) (Number 0) (Number 1)
      ∷ (row (not (falls old (remaining_of new))) rule.RemainingLen trace (at + 3) (Number (remaining_of new)) (Number (remaining_of old - least old)) ∷ [])

  -- and the words before and after the new element stay
  unfoldable pub words_rules : List ℕ → List ℕ → List (Option Reason)
  words_rules old new =
      differing rule.FreeWords trace (at + 8) (slice_range new 8 (8 + 4 * remaining_of new)) (slice_range old 8 (8 + 4 * remaining_of new))
      ∷ (differing rule.OlderElements trace (at + (8 + 4 * remaining_of old)) (drop (8 + 4 * remaining_of old) new) (drop (8 + 4 * remaining_of old) old) ∷ [])

-- the octets of the new element
abbrev pub added : List ℕ → List ℕ → List ℕ
added old new = slice_range new (8 + 4 * remaining_of new) (8 + 4 * remaining_of old)

module _ (hops id inward : ℕ) (trace at : ℕ) (old new : List ℕ) where
  unfoldable pub added_rules : List (Option Reason)
  added_rules = room_rules trace at old new ++ (words_rules trace at old new
      ++ element_rules hops id inward trace (at + (8 + 4 * remaining_of new)) (kind_of old) (node_len_of old) (added old new))

  unfoldable pub open_rules : List (Option Reason)
  open_rules =
      if common new old == length old then same_rules trace at old
      else head_rules trace at old new ++ (if overflow_of new == 1 then overflow_rules trace at old new else added_rules)

  -- what stays if it must, and else what a node adds
  abbrev pub rules_by : Option Rule → List (Option Reason)
  rules_by None = open_rules
  rules_by (Some left) = differing left trace at new old ∷ []

-- the octets before the Namespace-ID (RFC 9486 section 3), the first of which is octet `at`
unfoldable pub front_rules : ℕ → ℕ → List ℕ → List ℕ → List (Option Reason)
front_rules trace at old new =
    octet rule.OptionReserved trace at (slice_index new 0) (slice_index old 0)
    ∷ (octet rule.IoamOptionType trace (at + 1) (slice_index new 1) (slice_index old 1) ∷ [])

-- all data of the option
unfoldable pub body_rules : (ℕ → Bool) → ℕ → ℕ → ℕ → ℕ → ℕ → List ℕ → List ℕ → List (Option Reason)
body_rules knows hops id inward trace at old new =
    front_rules trace at old new
    ++ rules_by hops id inward trace (at + 2) (drop 2 old) (drop 2 new) (left_by (knows (u16_at old 2)) (drop 2 old))
