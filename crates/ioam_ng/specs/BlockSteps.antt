-- What a step over a whole block, or over the octets where a block is due, tells of it.
use Rattle.std.specs.Prelude.{◌≡◌, ◌==◌, ℕ, ◌+◌, ◌≤◌, ◌<◌, ◌^◌, List, [], ◌∷◌, ◌++◌, true, false, length, take, drop, slice_get, Option, Some, None, Result, Ok, Err}
use Rattle.ioam_ng.specs.declared.face.Face.{Face}
use Rattle.ioam_pcap.specs.declared.form.Order.{Order}
use Rattle.ioam_pcap.specs.declared.capture.CapFault.{CapFault}
use Rattle.ioam_ng.specs.declared.block.Body.{Body}
use Rattle.ioam_ng.specs.declared.block.Body.TheVariants as body
use Rattle.ioam_ng.specs.declared.block.Content.{Content}
use Rattle.ioam_ng.specs.declared.block.Content.TheVariants as content
use Rattle.ioam_ng.specs.declared.block.PacketHead.{PacketHead}
use Rattle.ioam_ng.specs.declared.block.BlockStep.{BlockStep}
use Rattle.ioam_ng.specs.declared.block.BlockStep.TheVariants as step
use Rattle.ioam_ng.specs.declared.block.Block.{Block}
use Rattle.ioam_ng.specs.Checks.{first}
use Rattle.ioam_ng.specs.Face.{time_of}
use Rattle.ioam_pcap.specs.Form.{number_at}
use Rattle.ioam_ng.specs.Front.{Known}
use Rattle.ioam_ng.specs.Blocks.{face_at, face_number, units, captured, is_passed, packet_checks, packet_fault, block_fault, link_of, fault_in, is_whole, size, kind, packet_in, known_behind}
use Rattle.ioam_pcap.specs.Entries.{Taken}

-- nothing passes the body of this type, or something does
abbrev pub IsBody : Order → ℕ → List ℕ → Body → Type 0
IsBody order kind block body.Section = kind ≡ 0x0a0d0d0a
IsBody order kind block (body.Face face) = (kind ≡ 1) × (face_at order block ≡ Some face)
IsBody order kind block body.Packet = (kind ≡ 6) × (32 + captured order block ≤ length block)
IsBody order kind block body.Other = ((kind == 0x0a0d0d0a) ≡ false) × ((kind == 1) ≡ false) × ((kind == 6) ≡ false)

-- what is answered of a block of this type: what its body holds, or that something passes it
abbrev pub TellsBody : Order → ℕ → List ℕ → Option Body → Type 0
TellsBody order kind block None = is_passed order block kind ≡ true
TellsBody order kind block (Some b) = (is_passed order block kind ≡ false) × IsBody order kind block b

-- the head says this of the packet of an interface
abbrev pub IsHead : Order → Face → List ℕ → PacketHead → Type 0
IsHead order face block head = (head.link ≡ link_of face) × (time_of face (units order block) ≡ Some head.time)
    × (head.original ≡ number_at order block 24) × (head.captured ≡ captured order block) × (head.captured ≤ 262144) × (head.time < 2 ^ 62)

-- what is answered of a packet block by its interface: what its head says, or the first fault that is looked for
abbrev pub TellsPacket : Order → Face → List ℕ → Result PacketHead CapFault → Type 0
TellsPacket order face block (Ok head) = (first (packet_checks order block face) ≡ None) × IsHead order face block head
TellsPacket order face block (Err fault) = first (packet_checks order block face) ≡ Some fault

-- the same among the interfaces of a section
abbrev pub IsAmong : Order → List Face → List ℕ → PacketHead → Type 0
IsAmong order faces block head = (face : Face) × (slice_get faces (face_number order block) ≡ Some face) × IsHead order face block head

-- the same where the interface is looked up among those of the section
abbrev pub TellsAmong : Order → List Face → List ℕ → Result PacketHead CapFault → Type 0
TellsAmong order faces block (Ok head) = (packet_fault order block (slice_get faces (face_number order block)) ≡ None) × IsAmong order faces block head
TellsAmong order faces block (Err fault) = packet_fault order block (slice_get faces (face_number order block)) ≡ Some fault

-- a whole block holds this
abbrev pub IsContent : Order → ℕ → List Face → List ℕ → Content → Type 0
IsContent order kind faces block content.Section = kind ≡ 0x0a0d0d0a
IsContent order kind faces block (content.Face face) = (kind ≡ 1) × (face_at order block ≡ Some face)
IsContent order kind faces block (content.Packet head) = (kind ≡ 6) × (32 + captured order block ≤ length block) × IsAmong order faces block head
IsContent order kind faces block content.Other = ((kind == 0x0a0d0d0a) ≡ false) × ((kind == 1) ≡ false) × ((kind == 6) ≡ false)

-- what is answered of a whole block: what it holds, or its first fault
abbrev pub TellsContent : Order → ℕ → List Face → List ℕ → Result Content CapFault → Type 0
TellsContent order kind faces block (Ok c) = (block_fault order block kind faces ≡ None) × IsContent order kind faces block c
TellsContent order kind faces block (Err fault) = block_fault order block kind faces ≡ Some fault

-- the packet of a head, with these octets
abbrev pub taken_of : PacketHead → List ℕ → Taken
taken_of head octets = record { link = head.link; entry = record { time = head.time; original = head.original; octets = octets } }

-- what is known behind a block, its interfaces aside
abbrev pub known_with : Known → Order → List Face → Known
known_with known order faces = record { count = known.count + 1; order = Some order; faces = faces }

-- what a whole block at the front holds, and what is known behind it
abbrev pub Holds : Known → List ℕ → Block → Content → Type 0
Holds known octets b content.Section = (packet_in known octets ≡ None) × (known_behind known octets ≡ known_with known b.order [])
Holds known octets b (content.Face face) = (kind known octets ≡ 1) × (packet_in known octets ≡ None) × (known_behind known octets ≡ known_with known b.order (known.faces ++ face ∷ []))
Holds known octets b (content.Packet head) = (packet_in known octets ≡ Some (taken_of head (take head.captured (drop 28 octets))))
    × (known_behind known octets ≡ known_with known b.order known.faces) × (32 + head.captured ≤ b.size) × (head.captured ≤ 262144) × (head.time < 2 ^ 62)
Holds known octets b content.Other = (packet_in known octets ≡ None) × (known_behind known octets ≡ known_with known b.order known.faces)

-- the block that is due is whole and has no fault, or it is not whole and has none so far, or it has
-- this fault
abbrev pub TellsBlock : Known → List ℕ → BlockStep → Type 0
TellsBlock known octets (step.Whole b) = (fault_in known octets ≡ None) × (is_whole known octets ≡ true) × (b.size ≡ size known octets)
    × (b.size ≤ length octets) × (12 ≤ b.size) × (known.count < 33554432) × Holds known octets b b.content
TellsBlock known octets step.Cut = (fault_in known octets ≡ None) × (is_whole known octets ≡ false) × (length octets < 16777216)
TellsBlock known octets (step.Bad fault) = fault_in known octets ≡ Some fault
