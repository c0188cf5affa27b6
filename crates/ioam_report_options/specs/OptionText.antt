-- How an IOAM option is printed: its type and place, and behind these what its data says, by the
-- relations of the formats themselves (RFC 9197, RFC 9326, RFC 9486).
use Rattle.std.specs.Prelude.{◌≡◌, ℕ, ◌⊎◌, nat_lt, List, ◌++◌, Ok, Err, length, drop, slice_index, decimal, codes}
use Rattle.std.specs.Bool.{MatchBool}
use Rattle.std.specs.List.{flat_map}
use Rattle.std.specs.Int.{w16, w32, to_be_bytes}
use Rattle.ioam_dex.specs.Direct as dex
use Rattle.ioam_dex.specs.Direct.{IsDirect}
use Rattle.ioam_dex.specs.declared.direct.Direct.{Direct}
use Rattle.ioam_dex.specs.declared.direct.DirectFault.{DirectFault}
use Rattle.ioam_edge.specs.Edge as e2e
use Rattle.ioam_edge.specs.Edge.{IsEdge}
use Rattle.ioam_edge.specs.declared.edge.Edge.{Edge}
use Rattle.ioam_edge.specs.declared.edge.EdgeFault.{EdgeFault}
use Rattle.ioam_ip.specs.Options.{Item}
use Rattle.ioam_trace.specs.Head.{remaining_of}
use Rattle.ioam_trace.specs.Read.{TraceOf, IncrementalOf, HasFault}
use Rattle.ioam_trace.specs.declared.head.TraceHead.{TraceHead}
use Rattle.ioam_trace.specs.declared.fault.TraceFault.{TraceFault}
use Rattle.ioam_line.specs.Digits.{pair_of, digits_of}
use Rattle.ioam_report_lines.specs.FieldsText.{known, opaque_digits}
use Rattle.ioam_report_lines.specs.Spaced.{when_there}
use Rattle.ioam_report_lines.specs.TraceText.{line_feed, element_line}
use Rattle.ioam_data.specs.OptionType.{option_type}
use Rattle.ioam_data.specs.declared.option_type.OptionType.{OptionType}
use Rattle.ioam_data.specs.declared.option_type.OptionType.TheVariants.{PreallocatedTrace, IncrementalTrace, ProofOfTransit, EdgeToEdge, DirectExport, Unassigned}

-- ---- texts

-- the namespace of a trace, the six digits of its type, its flags and its RemainingLen
abbrev pub head_text : TraceHead → List ℕ
head_text head = decimal head.namespace.0 ++ (codes " " ++ (digits_of (drop 1 (to_be_bytes w32 head.kind))
    ++ (codes " flags " ++ (decimal head.flags ++ (codes " remaining " ++ (decimal head.remaining ++ line_feed))))))

-- and a line for each of its elements, given in visit order
abbrev pub trace_text : TraceHead → List (List ℕ) → List ℕ
trace_text head elements = head_text head ++ flat_map (element_line head.kind head.node_len) elements

-- the octets of a proof of transit
abbrev pub proof_text : List ℕ → List ℕ
proof_text octets = codes "proof " ++ opaque_digits octets ++ line_feed

-- The namespace of edge-to-edge data, the four digits of its type, and the fields that are there. A part
-- of the time stamp is `-` where it is all ones.
unfoldable pub edge_text : Edge → List ℕ
edge_text edge = codes "edge " ++ (decimal edge.namespace.0 ++ (codes " " ++ (digits_of (to_be_bytes w16 edge.kind)
    ++ (when_there edge.seq64 (λ number. codes " seq64=" ++ decimal number)
    ++ (when_there edge.seq32 (λ number. codes " seq32=" ++ decimal number)
    ++ (when_there edge.seconds (λ number. codes " sec=" ++ known 4294967295 number)
    ++ (when_there edge.fraction (λ number. codes " frac=" ++ known 4294967295 number)
    ++ line_feed)))))))

-- the namespace of direct export data, the six digits of its type, its flags, and the numbers that are there
unfoldable pub direct_text : Direct → List ℕ
direct_text direct = codes "direct " ++ (decimal direct.namespace.0 ++ (codes " " ++ (digits_of (drop 1 (to_be_bytes w32 direct.kind))
    ++ (codes " flags " ++ (decimal direct.flags
    ++ (when_there direct.flow (λ number. codes " flow=" ++ decimal number)
    ++ (when_there direct.seq (λ number. codes " seq=" ++ decimal number)
    ++ line_feed)))))))

-- an Option-Type that is not known, and its octets
abbrev pub other_text : ℕ → List ℕ → List ℕ
other_text value octets = codes "other " ++ decimal value ++ codes " " ++ opaque_digits octets ++ line_feed

-- an Option-Type whose octets are not read
abbrev pub bad_text : ℕ → List ℕ
bad_text value = codes "bad " ++ decimal value ++ line_feed

-- ---- what is said of the octets behind the Option-Type, one statement for each kind of option

-- what is said of a pre-allocated trace: its header and its elements, or that it is bad
abbrev pub TraceSays : List ℕ → List ℕ → Type 0
TraceSays octets said =
    ((head : TraceHead) × (elements : List (List ℕ)) × TraceOf octets head elements × (said ≡ codes "trace " ++ trace_text head elements))
    ⊎ ((fault : TraceFault) × HasFault (remaining_of octets) octets fault × (said ≡ bad_text 0))

-- what is said of an incremental trace: its header and its elements, or that it is bad
abbrev pub IncrementalSays : List ℕ → List ℕ → Type 0
IncrementalSays octets said =
    ((head : TraceHead) × (elements : List (List ℕ)) × IncrementalOf octets head elements × (said ≡ codes "incremental " ++ trace_text head elements))
    ⊎ ((fault : TraceFault) × HasFault 0 octets fault × (said ≡ bad_text 1))

-- what is said of edge-to-edge data: its fields, or that it is bad
abbrev pub EdgeSays : List ℕ → List ℕ → Type 0
EdgeSays octets said =
    ((edge : Edge) × IsEdge edge × e2e.Reads octets (Ok edge) × (said ≡ edge_text edge))
    ⊎ ((fault : EdgeFault) × e2e.Reads octets (Err fault) × (said ≡ bad_text 3))

-- what is said of direct export data: its fields, or that it is bad
abbrev pub DirectSays : List ℕ → List ℕ → Type 0
DirectSays octets said =
    ((direct : Direct) × IsDirect direct × dex.Reads octets (Ok direct) × (said ≡ direct_text direct))
    ⊎ ((fault : DirectFault) × dex.Reads octets (Err fault) × (said ≡ bad_text 4))

-- by the kind; `value` is the Option-Type's number
abbrev pub SaysBy : OptionType → ℕ → List ℕ → List ℕ → Type 0
SaysBy PreallocatedTrace value octets said = TraceSays octets said
SaysBy IncrementalTrace value octets said = IncrementalSays octets said
SaysBy ProofOfTransit value octets said = said ≡ proof_text octets
SaysBy EdgeToEdge value octets said = EdgeSays octets said
SaysBy DirectExport value octets said = DirectSays octets said
SaysBy Unassigned value octets said = said ≡ other_text value octets

-- What the data of an option says: a reserved octet, the Option-Type and what stands behind it. Fewer than
-- two octets are too short for these.
abbrev pub Says : List ℕ → List ℕ → Type 0
Says body said = MatchBool (nat_lt (length body) 2) (said ≡ codes "short\n")
    (SaysBy (option_type (slice_index body 1)) (slice_index body 1) (drop 2 body) said)

-- ---- the lines of an option

-- two spaces, the two digits of the option's type, and its place
abbrev pub front_text : ℕ → ℕ → List ℕ
front_text kind at = codes "  " ++ pair_of kind ++ codes " at " ++ decimal at ++ codes " "

-- what is said after that
abbrev pub Fronted : ℕ → ℕ → (List ℕ → Type 0) → List ℕ → Type 0
Fronted kind at Is text = (said : List ℕ) × Is said × (text ≡ front_text kind at ++ said)

-- these are the lines of an option whose place is that of its type octet in the packet
pub record IsOptionLine (option : Item) (text : List ℕ) : Type 0 where
  pub said : List ℕ
  pub says : Says option.body said
  pub text_is : text ≡ front_text option.kind option.at ++ said
