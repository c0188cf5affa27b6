-- What a step over the front of octets tells of them.
use Rattle.std.specs.Prelude.{◌≡◌, ◌≤◌, ◌<◌, ◌%◌, ℕ, List, ◌∷◌, true, false, length, Option, Some, None, [], not, ◌==◌, ◌||◌, nat_lt, is_none}
use Rattle.std.specs.Option.{option_or}
use Rattle.ioam_pcap.specs.declared.form.Order.{Order}
use Rattle.ioam_ng.specs.declared.option.Said.{Said}
use Rattle.ioam_ng.specs.declared.option.OptionStep.{OptionStep}
use Rattle.ioam_ng.specs.declared.option.OptionStep.TheVariants.{End, Past, Next}
use Rattle.ioam_base.specs.Octets.{u32_at}
use Rattle.ioam_pcap.specs.declared.capture.CapFault.TheVariants as fault
use Rattle.ioam_ng.specs.Checks.{Check, first}
use Rattle.ioam_ng.specs.declared.front.Front.{Front}
use Rattle.ioam_ng.specs.declared.front.FrontStep.{FrontStep}
use Rattle.ioam_ng.specs.declared.front.FrontStep.TheVariants as step
use Rattle.ioam_ng.specs.Front.{is_front, order_in, kind_in, size_in, least_size, front_fault}
use Rattle.ioam_ng.specs.Options.{Item, is_end, is_past, item_in, item_size, resolution_in, offset_in}

-- the options end there, or one passes the octets, or one stands there and adds to what was found
abbrev pub TellsOption : Order → Said → List ℕ → OptionStep → Type 0
TellsOption order found octets End = is_end order octets ≡ true
TellsOption order found octets Past = (is_end order octets ≡ false) × (is_past order octets ≡ true)
TellsOption order found octets (Next more size) = (is_end order octets ≡ false) × (is_past order octets ≡ false)
    × (size ≡ item_size order octets) × (size ≤ length octets)
    × ((items : List Item) → option_or more.resolution (resolution_in order items) ≡ option_or found.resolution (resolution_in order (item_in order octets ∷ items)))
    × ((items : List Item) → option_or more.offset (offset_in order items) ≡ option_or found.offset (offset_in order (item_in order octets ∷ items)))

-- a block of this type and total length has this fault of its front, or none
abbrev pub size_checks : ℕ → ℕ → List Check
size_checks kind size = record { is = nat_lt 16777216 size; fault = fault.Large size }
    ∷ record { is = not (size % 4 == 0) || nat_lt size (least_size kind); fault = fault.Size size }
    ∷ []

-- what is answered of a block's type and total length: that they are in their bounds, or the first fault that is looked for
abbrev pub TellsSize : Order → ℕ → ℕ → FrontStep → Type 0
TellsSize order kind size (step.There front) = (first (size_checks kind size) ≡ None) × (front.order ≡ order) × (front.kind ≡ kind) × (front.size ≡ size)
    × (size ≤ 16777216) × (least_size kind ≤ size) × (size % 4 ≡ 0)
TellsSize order kind size step.Cut = ⊥
TellsSize order kind size (step.Bad f) = first (size_checks kind size) ≡ Some f

-- the same of its numbers, where it is there and another block may be read
abbrev pub number_checks : Option Order → List ℕ → List Check
number_checks known octets = record { is = is_none (order_in known octets); fault = fault.Order (u32_at octets 8) }
    ∷ size_checks (kind_in known octets) (size_in known octets)

-- these are the order, the type and the total length of the block at the octets, and they are in their bounds
abbrev pub IsFrontOf : Option Order → List ℕ → Front → Type 0
IsFrontOf known octets front = (order_in known octets ≡ Some front.order) × (front.kind ≡ kind_in known octets) × (front.size ≡ size_in known octets)
    × (front.size ≤ 16777216) × (least_size front.kind ≤ front.size) × (front.size % 4 ≡ 0)

-- what is answered of the numbers of a front that is there: its order, type and total length, or the first fault that is
-- looked for
abbrev pub TellsNumbers : Option Order → List ℕ → FrontStep → Type 0
TellsNumbers known octets (step.There front) = (first (number_checks known octets) ≡ None) × IsFrontOf known octets front
TellsNumbers known octets step.Cut = ⊥
TellsNumbers known octets (step.Bad f) = first (number_checks known octets) ≡ Some f

-- the front of the block that is due is there, or too few octets of it, or it has a fault
abbrev pub TellsFront : ℕ → Option Order → List ℕ → FrontStep → Type 0
TellsFront count known octets (step.There front) = (count < 33554432) × (front_fault count known octets ≡ None) × (is_front octets ≡ true) × IsFrontOf known octets front
TellsFront count known octets step.Cut = (front_fault count known octets ≡ None) × (is_front octets ≡ false)
TellsFront count known octets (step.Bad f) = front_fault count known octets ≡ Some f
