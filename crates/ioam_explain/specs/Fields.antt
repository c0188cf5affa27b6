-- The rules about the element that a node adds to a trace, field by field (RFC 9197 section 4.4.2).
use Rattle.std.specs.Prelude.{◌≡◌, ◌≤◌, ℕ, ◌+◌, ◌-◌, ◌*◌, ◌/◌, ◌%◌, Bool, false, ◌==◌, ◌&&◌, ◌||◌, not, nat_lt, if◌then◌else◌, List, [], ◌∷◌, length, replicate, slice_index, Option, Some, None}
use Rattle.ioam_data.specs.Fields.{Held, fields_of}
use Rattle.ioam_data.specs.Kind.{has, where_has, words}
use Rattle.ioam_data.specs.Table.{rows, words_by}
use Rattle.ioam_data.specs.Written.{narrow_face, narrow_id}
use Rattle.ioam_explain.specs.Rows.{differing, number, row}
use Rattle.ioam_explain.specs.declared.reason.Reason.{Reason}
use Rattle.ioam_explain.specs.declared.reason.Rule.{Rule}
use Rattle.ioam_explain.specs.declared.reason.Rule.TheVariants as rule
use Rattle.ioam_explain.specs.declared.reason.Value.{Value}
use Rattle.ioam_explain.specs.declared.reason.Value.TheVariants.{Number, Octet, OrOnes, Ones, Nothing}

-- a number of a field of which all ones are `ones`
abbrev pub or_dash : ℕ → ℕ → Value
or_dash ones number = if number == ones then Ones else Number number

-- the number or all ones
abbrev pub or_absent : ℕ → ℕ → Value
or_absent ones number = if number == ones then Ones else OrOnes number

-- whether a value allows a number
abbrev pub allows : ℕ → Value → ℕ → Bool
allows ones (Number wanted) found = found == wanted
allows ones (Octet wanted) found = found == wanted
allows ones (OrOnes wanted) found = (found == wanted) || (found == ones)
allows ones Ones found = found == ones
allows ones Nothing found = found == ones

-- an interface may be as it is or all ones, as not known, and in bits 1 and 9 the one or the other
abbrev pub wide_wanted : ℕ → Option (ℕ × ℕ) → Value
wide_wanted inward None = or_absent 4294967295 inward
wide_wanted inward (Some faces) =
    if narrow_face (Some inward) == 65535 then or_absent 4294967295 inward
    else (if faces.0 == narrow_face (Some inward) then Number inward else Ones)

-- so many octets are whole words, as many as the shortest element takes, or more if it has a snapshot
abbrev pub HasRoom : ℕ → ℕ → ℕ → Type 0
HasRoom kind node_len octets = (octets % 4 ≡ 0) × (4 * (node_len + where_has kind 22 1) ≤ octets) × (has kind 22 ≡ false → octets ≡ 4 * node_len)

module _ (trace at : ℕ) where
  -- bits 0 and 8 (sections 4.4.2.1 and 4.4.2.9): the hop limit that the packet has, and the id
  abbrev pub hop_rule : Rule → ℕ → Option (ℕ × ℕ) → Option Reason
  hop_rule rule hops None = None
  hop_rule rule hops (Some pair) = number rule trace at pair.0 hops

  abbrev pub id_rule : Rule → ℕ → Option (ℕ × ℕ) → Option Reason
  id_rule rule id None = None
  id_rule rule id (Some pair) = number rule trace (at + 1) pair.1 id

  -- an interface that a value allows
  abbrev pub interface_rule : Rule → ℕ → Value → ℕ → Option Reason
  interface_rule rule ones wanted found = row (not (allows ones wanted found)) rule trace at (or_dash ones found) wanted

  -- bit 1 (section 4.4.2.2): the interface by which the packet came, in 16 bits
  abbrev pub ingress_rule : ℕ → Option (ℕ × ℕ) → Option Reason
  ingress_rule inward None = None
  ingress_rule inward (Some faces) = interface_rule rule.IngressIfId 65535 (or_absent 65535 (narrow_face (Some inward))) faces.0

  -- bit 4 (section 4.4.2.5): a delay of 31 bits, the bit above them alone if it is longer, or all ones
  abbrev pub delay_rule : Option ℕ → Option Reason
  delay_rule None = None
  delay_rule (Some delay) = row (nat_lt 2147483648 delay && not (delay == 4294967295)) rule.TransitDelay trace at (Number delay) (Number 2147483648)

  -- bit 9 (section 4.4.2.10): the interface by which the packet came, in 32 bits
  abbrev pub wide_ingress_rule : ℕ → Option (ℕ × ℕ) → Option (ℕ × ℕ) → Option Reason
  wide_ingress_rule inward faces None = None
  wide_ingress_rule inward faces (Some wide) = interface_rule rule.IngressIfIdWide 4294967295 (wide_wanted inward faces) wide.0

  -- and the one by which it left, as bit 1 has it
  abbrev pub wide_egress_rule : Option (ℕ × ℕ) → Option (ℕ × ℕ) → Option Reason
  wide_egress_rule None wide = None
  wide_egress_rule (Some faces) None = None
  wide_egress_rule (Some faces) (Some wide) =
      row (not (narrow_face (Some wide.1) == faces.1)) rule.EgressIfIdWide trace (at + 4) (or_dash 4294967295 wide.1) (or_dash 65535 faces.1)

  -- the words up to NodeLen after the fields, as for undefined bits (section 4.4.1), are all ones
  abbrev pub ones_rule : List ℕ → Option Reason
  ones_rule filler = differing rule.UndefinedBits trace at filler (replicate (length filler) 255)

  -- bit 22 (section 4.4.2.13): Length counts the words of the snapshot's data
  abbrev pub snapshot_rule : ℕ → ℕ → List ℕ → Option Reason
  snapshot_rule kind node_len element =
      if has kind 22
      then number rule.SnapshotLength trace (at + 4 * node_len) (slice_index element (4 * node_len)) (length element / 4 - node_len - 1)
      else None

module _ (hops id inward : ℕ) (trace at : ℕ) (kind : ℕ) where
  -- the octet at which the field of a bit begins; the element begins at octet `at` of the packet
  abbrev pub field_at : ℕ → ℕ
  field_at bit = at + 4 * words_by (rows 0 bit) kind

  unfoldable pub field_rules : Held → List (Option Reason)
  field_rules held =
      hop_rule trace at rule.HopLim hops held.hop_node
      ∷ (id_rule trace at rule.NodeId (narrow_id id) held.hop_node
      ∷ (ingress_rule trace (field_at 1) inward held.faces
      ∷ (delay_rule trace (field_at 4) held.delay
      ∷ (hop_rule trace (field_at 8) rule.HopLimWide hops held.wide_hop_node
      ∷ (id_rule trace (field_at 8) rule.NodeIdWide id held.wide_hop_node
      ∷ (wide_ingress_rule trace (field_at 9) inward held.faces held.wide_faces
      ∷ (wide_egress_rule trace (field_at 9) held.faces held.wide_faces
      ∷ (ones_rule trace (at + 4 * words kind) held.filler ∷ []))))))))

  -- the element; one of no words has no fields
  unfoldable pub element_rules : ℕ → List ℕ → List (Option Reason)
  element_rules node_len element =
      if length element == 0 then [] else snapshot_rule trace at kind node_len element ∷ field_rules (fields_of kind node_len element)
