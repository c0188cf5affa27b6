-- Sets (RFC 7011 section 3.3): id 16 bits, length with these four octets 16 bits, then templates or data records, and
-- perhaps padding.
use Rattle.std.specs.Prelude.{ℕ, ◌-◌, ◌≡◌, ◌<◌, ◌≤◌, Bool, nat_lt, ◌==◌, if◌then◌else◌, List, [], ◌++◌, length, take, drop, slice_index, EachIndex, ⊤}
use Rattle.ioam_base.specs.Octets.{u16_at}
use Rattle.ioam_dex.specs.Record.{Record}
use Rattle.ioam_ipfix.specs.declared.kind.SetKind.{SetKind}
use Rattle.ioam_ipfix.specs.declared.kind.SetKind.TheVariants.{Templates, Data, Skipped, Reserved}
use Rattle.ioam_base.specs.Chain.{Chain}
use Rattle.ioam_ipfix.specs.Templates.{IsTemplate, template_octets, IsKnown, with_templates}
use Rattle.ioam_ipfix.specs.Data.{IsData}

-- where a set or a message is due: which templates were seen, and the octets from there on
pub record Spot : Type 0 where
  pub known : List Bool
  pub octets : List ℕ

-- a place in octets: which templates were seen in front of it, and the octets from it on
abbrev pub spot : List Bool → List ℕ → Spot
spot known octets = record { known = known; octets = octets }

-- what a set of an id holds: templates; templates of options, or data of templates that aren't of the profile, which
-- are skipped; data; the other ids are reserved
abbrev pub set_kind : ℕ → SetKind
set_kind id = if id == 2 then Templates else (if id == 3 then Skipped else (if nat_lt id 256 then Reserved else (if nat_lt id 264 then Data else Skipped)))

-- the id of data is that of a template
abbrev pub IsOfKind : SetKind → ℕ → Type 0
IsOfKind Templates id = ⊤
IsOfKind Data id = IsTemplate id
IsOfKind Skipped id = ⊤
IsOfKind Reserved id = ⊤

-- fewer octets than a thing has, all zero
abbrev pub IsPadding : ℕ → List ℕ → Type 0
IsPadding least rest = (length rest < least) × EachIndex rest (λ k. slice_index rest k ≡ 0)

-- a data record of a template stands in front
abbrev pub RecordPasses : ℕ → List ℕ → Record → List ℕ → Type 0
RecordPasses id a x b = (octets : List ℕ) × IsData id x octets × (a ≡ octets ++ b)

-- data records of a template, and padding
abbrev pub HasRecords : ℕ → List ℕ → List Record → Type 0
HasRecords id content xs = (rest : List ℕ) × Chain (RecordPasses id) content xs rest × IsPadding 8 rest

-- a template stands in front
abbrev pub TemplatePasses : List ℕ → ℕ → List ℕ → Type 0
TemplatePasses a id b = IsTemplate id × (a ≡ template_octets id ++ b)

-- templates, and padding
abbrev pub HasTemplates : List ℕ → List ℕ → Type 0
HasTemplates content ids = (rest : List ℕ) × Chain TemplatePasses content ids rest × IsPadding 4 rest

-- what a set holds, and which templates are known behind it
abbrev pub HoldsAs : SetKind → List Bool → ℕ → List ℕ → List Record → List Bool → Type 0
HoldsAs Templates known id content xs behind = ((ids : List ℕ) × HasTemplates content ids × (behind ≡ with_templates known ids)) × (xs ≡ [])
HoldsAs Data known id content xs behind = IsKnown known id × HasRecords id content xs × (behind ≡ known)
HoldsAs Skipped known id content xs behind = (xs ≡ []) × (behind ≡ known)
HoldsAs Reserved known id content xs behind = ⊥

-- a set is there whole
pub record IsSized (octets : List ℕ) : Type 0 where
  pub begins : 4 ≤ length octets
  pub least : 4 ≤ u16_at octets 2
  pub there : u16_at octets 2 ≤ length octets

-- what the set that is due holds: its octets behind its head of four
abbrev pub content_of : List ℕ → List ℕ
content_of octets = take (u16_at octets 2 - 4) (drop 4 octets)

-- a set without a fault stands in front, with these records
pub record SetPasses (a : Spot) (xs : List Record) (b : Spot) : Type 0 where
  pub sized : IsSized a.octets
  pub behind : b.octets ≡ drop (u16_at a.octets 2) a.octets
  pub holds : HoldsAs (set_kind (u16_at a.octets 0)) a.known (u16_at a.octets 0) (content_of a.octets) xs b.known
