-- The first fault of a message: what stands in front of it passes, and at its place the first rule holds that is
-- broken.
use Rattle.std.specs.Prelude.{ℕ, ◌+◌, ◌-◌, ◌≡◌, ◌≢◌, ◌<◌, ◌≤◌, ◌⊎◌, Bool, List, length, drop}
use Rattle.ioam_base.specs.Octets.{u16_at}
use Rattle.ioam_dex.specs.Record.{Record}
use Rattle.ioam_ipfix.specs.declared.fault.IpfixFault.{IpfixFault}
use Rattle.ioam_ipfix.specs.declared.fault.IpfixFault.TheVariants as fault
use Rattle.ioam_ipfix.specs.declared.kind.SetKind.{SetKind}
use Rattle.ioam_ipfix.specs.declared.kind.SetKind.TheVariants.{Templates, Data, Skipped, Reserved}
use Rattle.ioam_base.specs.Chain.{Chain, Stops}
use Rattle.ioam_ipfix.specs.Templates.{IsKnown}
use Rattle.ioam_ipfix.specs.Sets.{Spot, spot, set_kind, IsPadding, RecordPasses, TemplatePasses, IsSized, content_of, SetPasses}
use Rattle.ioam_ipfix.specs.Messages.{IsWhole, message_of}

-- no set is there whole: fewer octets are left than its first four, or its length is below 4 or passes the message
abbrev pub IsUnsized : List ℕ → IpfixFault → Type 0
IsUnsized rest f = ((length rest < 4) × (f ≡ fault.Length (length rest)))
    ⊎ ((4 ≤ length rest) × ((u16_at rest 2 < 4) ⊎ (length rest < u16_at rest 2)) × (f ≡ fault.Length (u16_at rest 2)))

-- no template is due: fewer octets are left than its first four, not all zero; or else it isn't one of the eight
abbrev pub IsStuckTemplate : List ℕ → IpfixFault → Type 0
IsStuckTemplate rest f = ((length rest < 4) × (IsPadding 4 rest → ⊥) × (f ≡ fault.Length (length rest)))
    ⊎ ((4 ≤ length rest) × Stops TemplatePasses rest × (f ≡ fault.Template (u16_at rest 0)))

-- behind some whole templates of a set the next one is faulty
abbrev pub HasStuckTemplate : List ℕ → IpfixFault → Type 0
HasStuckTemplate content f = (ids : List ℕ) × (rest : List ℕ) × Chain TemplatePasses content ids rest × IsStuckTemplate rest f

-- behind data records, at a place of the message, neither another one nor padding
abbrev pub HasStuckRecord : ℕ → ℕ → List ℕ → IpfixFault → Type 0
HasStuckRecord at id content f = (xs : List Record) × (rest : List ℕ) × Chain (RecordPasses id) content xs rest × (IsPadding 8 rest → ⊥)
    × Stops (RecordPasses id) rest × (f ≡ fault.Field (at + (length content - length rest)))

-- what a set at a place of the message holds is faulty
abbrev pub IsStuckAs : SetKind → ℕ → List Bool → ℕ → List ℕ → IpfixFault → Type 0
IsStuckAs Templates at known id content f = HasStuckTemplate content f
IsStuckAs Data at known id content f = ((IsKnown known id → ⊥) × (f ≡ fault.Template id)) ⊎ (IsKnown known id × HasStuckRecord (at + 4) id content f)
IsStuckAs Skipped at known id content f = ⊥
IsStuckAs Reserved at known id content f = f ≡ fault.Set id

-- a set is due at a place of the message, and is faulty
pub record IsStuck (at : ℕ) (a : Spot) (f : IpfixFault) : Type 0 where
  pub some : 1 ≤ length a.octets
  pub bad : IsUnsized a.octets f
      ⊎ (IsSized a.octets × IsStuckAs (set_kind (u16_at a.octets 0)) at a.known (u16_at a.octets 0) (content_of a.octets) f)

-- sets pass up to one that is faulty, in a message of which these are the octets
pub record IsStuckInside (known : List Bool) (message : List ℕ) (f : IpfixFault) : Type 0 where
  pub sets : List (List Record)
  pub here : Spot
  pub leads : Chain SetPasses (spot known (drop 16 message)) sets here
  pub stuck : IsStuck (length message - length here.octets) here f

-- its first four octets are wrong: another version, or a length below that of its head
abbrev pub IsBadHead : List ℕ → IpfixFault → Type 0
IsBadHead octets f = ((2 ≤ length octets) × (u16_at octets 0 ≢ 10) × (f ≡ fault.Version (u16_at octets 0)))
    ⊎ ((4 ≤ length octets) × (u16_at octets 0 ≡ 10) × (u16_at octets 2 < 16) × (f ≡ fault.Length (u16_at octets 2)))

-- the message that is due has this fault, whatever stands behind the octets
abbrev pub HasMessageFault : Spot → IpfixFault → Type 0
HasMessageFault a f = IsBadHead a.octets f ⊎ (IsWhole a.octets × IsStuckInside a.known (message_of a.octets) f)
