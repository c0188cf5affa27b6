-- The front of a block: its type and its total length, 32 bits each, and of a section block the
-- number behind them that says its order of octets.
use Rattle.std.specs.Prelude.{ℕ, ◌%◌, List, [], ◌∷◌, Bool, not, ◌==◌, ◌&&◌, ◌||◌, nat_lt, nat_le, is_none, if◌then◌else◌, length, Option, Some, None}
use Rattle.ioam_base.specs.Octets.{u32_at}
use Rattle.ioam_ng.specs.declared.face.Face.{Face}
use Rattle.ioam_pcap.specs.declared.form.Order.{Order}
use Rattle.ioam_pcap.specs.declared.capture.CapFault.{CapFault}
use Rattle.ioam_pcap.specs.declared.capture.CapFault.TheVariants as fault
use Rattle.ioam_pcap.specs.Form.{number_at}
use Rattle.ioam_ng.specs.Numbers.{order_said}
use Rattle.ioam_ng.specs.Checks.{Check, first}

-- What is known where a block is due: how many blocks stand in front of it, the order of octets of
-- its section, once there is one, and the interfaces of that section so far.
pub record Known : Type 0 where
  pub count : ℕ
  pub order : Option Order
  pub faces : List Face

-- a section block; its type is the same in both orders
abbrev pub is_section : List ℕ → Bool
is_section octets = u32_at octets 0 == 0x0a0d0d0a

-- the front of a block is there
abbrev pub front_size : List ℕ → ℕ
front_size octets = if is_section octets then 12 else 8

-- whether all octets of a block's front are there
abbrev pub is_front : List ℕ → Bool
is_front octets = nat_le (front_size octets) (length octets)

-- the order of the block's numbers
abbrev pub order_in : Option Order → List ℕ → Option Order
order_in known octets = if is_section octets then order_said (u32_at octets 8) else known

-- the 32-bit number at a place, where the order is known; else 0
abbrev pub number_by : Option Order → List ℕ → ℕ → ℕ
number_by None octets at = 0
number_by (Some order) octets at = number_at order octets at

-- its type and its total length
abbrev pub kind_in : Option Order → List ℕ → ℕ
kind_in known octets = if is_section octets then 0x0a0d0d0a else number_by known octets 0

-- the total length that the block at these octets says
abbrev pub size_in : Option Order → List ℕ → ℕ
size_in known octets = number_by (order_in known octets) octets 4

-- the least total length of a block of a type
abbrev pub least_size : ℕ → ℕ
least_size kind = if kind == 0x0a0d0d0a then 28 else if kind == 1 then 20 else if kind == 6 then 32 else 12

-- the first block is no section block
abbrev pub is_alien : Option Order → List ℕ → Bool
is_alien known octets = nat_le 4 (length octets) && is_none known && not (is_section octets)

-- what is looked for in a front, in this order, by its order, the number that says it, its total
-- length and its type
abbrev pub front_checks : ℕ → Option Order → ℕ → ℕ → ℕ → List Check
front_checks count order said size kind =
    record { is = nat_le 33554432 count; fault = fault.Blocks 33554432 }
    ∷ record { is = is_none order; fault = fault.Order said }
    ∷ record { is = nat_lt 16777216 size; fault = fault.Large size }
    ∷ record { is = not (size % 4 == 0) || nat_lt size (least_size kind); fault = fault.Size size }
    ∷ []

-- the fault of the front at these octets, where there is one
abbrev pub front_fault : ℕ → Option Order → List ℕ → Option CapFault
front_fault count known octets = if is_alien known octets then Some (fault.Magic (u32_at octets 0))
    else if is_front octets then first (front_checks count (order_in known octets) (u32_at octets 8) (size_in known octets) (kind_in known octets))
    else None
