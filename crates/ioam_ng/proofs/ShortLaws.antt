-- No block has the fault that its capture is too short: that is of the capture's end alone.
use Rattle.std.proofs.Common.{◌≡◌, ℕ, List, length, take, Bool, true, false, not, ◌==◌, ◌||◌, Option, Some, None, refl, subst}
use Rattle.std.specs.Prelude.{nat_le, nat_lt, ⊤, is_none, slice_get, if◌then◌else◌, ◌%◌}
use Rattle.std.specs.Option.{option_or}
use Rattle.ioam_base.specs.Octets.{u32_at}
use Rattle.ioam_pcap.specs.declared.capture.CapFault.{CapFault}
use Rattle.ioam_pcap.specs.declared.capture.CapFault.TheVariants as fault
use Rattle.ioam_pcap.specs.Ending.{stays}
use Rattle.ioam_ng.specs.declared.face.Face.{Face}
use Rattle.ioam_pcap.specs.declared.form.Order.{Order}
use Rattle.ioam_ng.specs.Checks.{first}
use Rattle.ioam_ng.specs.Face.{is_resolved, time_of}
use Rattle.ioam_ng.specs.Front.{is_front, order_in, kind_in, size_in, least_size, is_alien, front_checks, front_fault}
use Rattle.ioam_pcap.specs.Link.{link_type}
use Rattle.ioam_ng.specs.Blocks.{Place, face_number, units, captured, is_passed, trail, packet_fault, block_checks, block_fault, fault_by, is_whole, size, kind}
use Rattle.ioam_ng.specs.Reads.{HasFault}

-- where there is a fault, it stays
abbrev StaysIn : Option CapFault → Type 0
StaysIn None = ⊤
StaysIn (Some f) = stays f ≡ true

by_either : (x y : Option CapFault) → StaysIn x → StaysIn y → StaysIn (option_or x y)
by_either None y a b = b
by_either (Some f) y a b = a

by_choice : (c : Bool) (x y : Option CapFault) → StaysIn x → StaysIn y → StaysIn (if c then x else y)
by_choice true x y a b = a
by_choice false x y a b = b

-- one more check, whose fault stays
checked : (c : Bool) (f : CapFault) (rest : Option CapFault) → stays f ≡ true → StaysIn rest → StaysIn (if c then Some f else rest)
checked c f rest a b = by_choice c (Some f) rest a b

of_front : (count : ℕ) (known : Option Order) (octets : List ℕ) → StaysIn (front_fault count known octets)
of_front count known octets = checked (is_alien known octets) (fault.Magic (u32_at octets 0)) _ refl
    (by_choice (is_front octets) (first (front_checks count (order_in known octets) (u32_at octets 8) (size_in known octets) (kind_in known octets))) None
    (checked (nat_le 33554432 count) (fault.Blocks 33554432) _ refl
    (checked (is_none (order_in known octets)) (fault.Order (u32_at octets 8)) _ refl
    (checked (nat_lt 16777216 (size_in known octets)) (fault.Large (size_in known octets)) _ refl
    (checked (not (size_in known octets % 4 == 0) || nat_lt (size_in known octets) (least_size (kind_in known octets))) (fault.Size (size_in known octets)) None refl tt)))) tt)

of_packet : (o : Order) (block : List ℕ) (face : Option Face) → StaysIn (packet_fault o block face)
of_packet o block None = refl
of_packet o block (Some face) = checked (is_none (link_type face.kind)) (fault.Link face.kind) _ refl
    (checked (not (is_resolved face.resolution)) (fault.Resolution face.resolution) _ refl
    (checked (nat_lt 262144 (captured o block)) (fault.RecordLong (captured o block)) _ refl
    (checked (is_none (time_of face (units o block))) (fault.Time (units o block)) None refl tt)))

of_block : (o : Order) (block : List ℕ) (k : ℕ) (faces : List Face) → StaysIn (block_fault o block k faces)
of_block o block k faces = by_either (first (block_checks o block k)) (if k == 6 then packet_fault o block (slice_get faces (face_number o block)) else None)
    (checked (is_passed o block k) (fault.Size (length block)) _ refl
    (checked (not (trail o block == length block)) (fault.Trail (trail o block)) _ refl
    (checked ((k == 2) || (k == 3)) (fault.Kind k) None refl tt)))
    (by_choice (k == 6) (packet_fault o block (slice_get faces (face_number o block))) None (of_packet o block (slice_get faces (face_number o block))) tt)

of_whole : (o : Option Order) (block : List ℕ) (k : ℕ) (faces : List Face) → StaysIn (fault_by o block k faces)
of_whole None block k faces = tt
of_whole (Some o) block k faces = of_block o block k faces

-- a fault of a block stays
pub HasFault-stays : (p : Place) (f : CapFault) → HasFault p f → stays f ≡ true
HasFault-stays p f bad =
    let block = take (size p.known p.octets) p.octets in
    let here = by_either (front_fault p.known.count p.known.order p.octets)
    (if is_whole p.known p.octets then fault_by (order_in p.known.order p.octets) block (kind p.known p.octets) p.known.faces else None)
    (of_front p.known.count p.known.order p.octets)
    (by_choice (is_whole p.known p.octets) (fault_by (order_in p.known.order p.octets) block (kind p.known p.octets) p.known.faces) None
    (of_whole (order_in p.known.order p.octets) block (kind p.known p.octets) p.known.faces) tt) in
    subst StaysIn bad here
