-- What octets show of the thing that is due in front of them.
use Rattle.std.specs.Prelude.{ℕ, ◌+◌, ◌≡◌, ◌<◌, ◌≤◌, Bool, List, [], ◌++◌, length, drop}
use Rattle.ioam_base.specs.Octets.{u16_at}
use Rattle.ioam_dex.specs.Numbers.{has_flow, has_seq}
use Rattle.ioam_dex.specs.Record.{Record, IsRecord}
use Rattle.ioam_ipfix.specs.declared.data.DataStep.{DataStep}
use Rattle.ioam_ipfix.specs.declared.data.DataStep.TheVariants as data_step
use Rattle.ioam_ipfix.specs.declared.message.HeadStep.{HeadStep}
use Rattle.ioam_ipfix.specs.declared.message.HeadStep.TheVariants as head_step
use Rattle.ioam_ipfix.specs.declared.place.Place.{Place}
use Rattle.ioam_ipfix.specs.declared.set.TemplateStep.{TemplateStep}
use Rattle.ioam_ipfix.specs.declared.set.TemplateStep.TheVariants as template_step
use Rattle.ioam_base.specs.Chain.{Chain, Stops}
use Rattle.ioam_ipfix.specs.Templates.{tells_flow, tells_seq, with_templates}
use Rattle.ioam_ipfix.specs.Data.{front_of, prefix_at, size_at, data_size, data_at, HasRoom}
use Rattle.ioam_ipfix.specs.Sets.{spot, set_kind, IsPadding, RecordPasses, HasRecords, TemplatePasses, HasTemplates, HoldsAs, SetPasses}
use Rattle.ioam_ipfix.specs.Messages.{joined, IsWhole, IsCutMessage}
use Rattle.ioam_ipfix.specs.Faults.{IsStuckTemplate, IsBadHead}
use Rattle.ioam_ipfix.specs.Places.{records_at, AllPlaces}

-- a variable field is there whole, its length in so many octets
abbrev pub IsVariable : List ℕ → ℕ → ℕ → Type 0
IsVariable rest prefix size = (prefix ≡ prefix_at rest) × (size ≡ size_at rest) × (prefix + size ≤ length rest)

-- the element of a record that is there whole begins and ends here
abbrev pub IsElementPlace : ℕ → List ℕ → ℕ → ℕ → Type 0
IsElementPlace id octets from to = HasRoom id octets × (from ≡ front_of id + prefix_at (drop (front_of id) octets)) × (to ≡ data_size id octets)

-- extension flags say what a template tells
abbrev pub Agrees : ℕ → ℕ → Type 0
Agrees id ext = (has_flow ext ≡ tells_flow id) × (has_seq ext ≡ tells_seq id)

-- what is answered where a data record of this template is due: one stands there whole, of so many octets; or padding is
-- left; or neither
abbrev pub TellsData : ℕ → List ℕ → DataStep → Type 0
TellsData id octets (data_step.Whole size) = (size ≡ data_size id octets) × HasRoom id octets × IsRecord (data_at id octets) × (8 ≤ size)
    × RecordPasses id octets (data_at id octets) (drop size octets)
TellsData id octets data_step.Padding = IsPadding 8 octets
TellsData id octets data_step.Bad = (IsPadding 8 octets → ⊥) × Stops (RecordPasses id) octets

-- what is answered where a template is due: one stands there, of this id and so many octets; or padding is left; or this is
-- the fault
abbrev pub TellsTemplate : List ℕ → TemplateStep → Type 0
TellsTemplate octets (template_step.Whole id size) = TemplatePasses octets id (drop size octets) × (4 ≤ size) × (size ≤ length octets)
TellsTemplate octets template_step.Padding = IsPadding 4 octets
TellsTemplate octets (template_step.Bad f) = IsStuckTemplate octets f

-- what is answered of the first octets of a message: it is there whole, of so many octets; or it is cut and has no fault so
-- far; or its head has this fault
abbrev pub TellsHead : List ℕ → HeadStep → Type 0
TellsHead octets (head_step.Whole size) = IsWhole octets × (size ≡ u16_at octets 2) × (size < 65536)
TellsHead octets head_step.Cut = IsCutMessage octets × (length octets < 65535)
TellsHead octets (head_step.Bad f) = IsBadHead octets f

-- ---- what was found of a message: which templates are known behind it, and where its records stand

-- a set of templates was read: those that it holds are known behind it, beside the ones before
abbrev pub AddsTemplates : List ℕ → List Bool → List Bool → Type 0
AddsTemplates content known behind = (ids : List ℕ) × HasTemplates content ids × (behind ≡ with_templates known ids)

-- the places of these records more
abbrev pub Adds : List ℕ → List Place → List Place → List Record → Type 0
Adds message old new xs = (records_at message new ≡ records_at message old ++ xs) × AllPlaces message new

-- the data records of a set were read: their places are added to those before
abbrev pub AddsRecords : ℕ → List ℕ → List ℕ → List Place → List Place → Type 0
AddsRecords id message content old new = (xs : List Record) × HasRecords id content xs × Adds message old new xs

-- what a set of this id holds was read: the templates known behind it, and the places of its records added to those before
abbrev pub AddsContent : ℕ → List ℕ → List ℕ → List Bool → List Bool → List Place → List Place → Type 0
AddsContent id message content known behind old new = (xs : List Record) × HoldsAs (set_kind id) known id content xs behind × Adds message old new xs

-- the set at a place of the message was read, with so many octets: the templates known behind it, and the places of its
-- records added
abbrev pub AddsSet : List ℕ → ℕ → ℕ → List Bool → List Bool → List Place → List Place → Type 0
AddsSet message at size known behind old new = (xs : List Record) × SetPasses (spot known (drop at message)) xs (spot behind (drop (at + size) message))
    × (4 ≤ size) × (at + size ≤ length message) × Adds message old new xs

-- a whole message was read behind its head: the templates known behind it, and the places of all its records, in their order
abbrev pub TakesMessage : List ℕ → List Bool → List Bool → List Place → Type 0
TakesMessage message known behind places = (sets : List (List Record)) × Chain SetPasses (spot known (drop 16 message)) sets (spot behind [])
    × (records_at message places ≡ joined sets) × AllPlaces message places
