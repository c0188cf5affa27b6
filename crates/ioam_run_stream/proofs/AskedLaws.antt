-- At most one answer is asked for.
use Rattle.std.proofs.Common.{◌≡◌, ℕ, ◌⊎◌, IsTrue, IsSomeAnd, List, length, Option, Some, None, refl, sym, ◌∙◌, ap, inl, inr, arith}
use Rattle.ioam_desk.specs.Desk.{Rose, holds}
use Rattle.ioam_capture.proofs.ReadsLaws.{Reads-unique}
use Rattle.ioam_pcap.specs.Ending.{Ending, Whole, Faulty}
use Rattle.ioam_pcap.specs.Entries.{Taken, most}
use Rattle.ioam_desk_outputs.proofs.NamesLaws.{first_unique}
use Rattle.ioam_desk_outputs.specs.Names.{AreApart, IsFirstRepeat, name_at}
use Rattle.ioam_run_stream.specs.Promise.{CaptureNames, all_names, most_packets, HasCause, Asked, IsInput, IsLong}
use Rattle.ioam_run_answer.specs.Desks.{Desks}
use Rattle.ioam_run_answer.specs.declared.outcome.Outcome.{Outcome}
use Rattle.ioam_run_answer.specs.declared.outcome.Outcome.TheVariants as outcome

pub not_apart : (names : List (List ℕ)) (at : ℕ) → IsFirstRepeat names at → AreApart names → ⊥
not_apart names at first apart = apart at first.inside first.repeats

-- what is held is both
pub both : (held : Option (List ℕ)) (P Q : List ℕ → Type 0) → IsSomeAnd held P → IsSomeAnd held Q → (octets : List ℕ) × P octets × Q octets
both None P Q x y = absurd x
both (Some octets) P Q x y = (octets, x, y)

module _ (most : ℕ) where
  ending_unique : (octets : List ℕ) (d e : Ending) → IsInput most d octets → IsInput most e octets → d ≡ e
  ending_unique octets d e x y = (Reads-unique octets x.taken y.taken d e x.reads y.reads).1

  -- what is held ends in one way
  pub held_ending : (held : Option (List ℕ)) (d e : Ending) → IsSomeAnd held (IsInput most d) → IsSomeAnd held (IsInput most e) → d ≡ e
  held_ending held d e x y = let it : (octets : List ℕ) × IsInput most d octets × IsInput most e octets = both held (IsInput most d) (IsInput most e) x y in
      ending_unique it.0 d e it.1 it.2

  -- and has too many records or not
  pub too_long : (held : Option (List ℕ)) (d : Ending) → IsSomeAnd held (IsLong most) → IsSomeAnd held (IsInput most d) → ⊥
  too_long held d x y =
      let it : (octets : List ℕ) × IsLong most octets × IsInput most d octets = both held (IsLong most) (IsInput most d) x y in
      let same = (Reads-unique it.0 it.1.taken it.2.taken it.1.ending d it.1.reads it.2.reads).0 in
      omega (arith, it.1.many, it.2.few, ap (λ (ts : List Taken). length ts) same)

pub whole_or_faulty : (at : ℕ) (fault : _) → Whole ≡ Faulty at fault → ⊥
whole_or_faulty at fault same = cc

module _ (desks : Desks) (files : CaptureNames) (told : IsTrue desks.tells) where
  abbrev names : List (List ℕ)
  names = all_names files

  abbrev content : Option (List ℕ)
  content = holds desks.old files.input

  pub Asked-unique : (a b : Outcome) → Asked desks files a → Asked desks files b → a ≡ b
  Asked-unique outcome.Usage b x y = absurd x
  Asked-unique (outcome.Domain why) b x y = absurd x
  Asked-unique (outcome.Readings why) b x y = absurd x
  Asked-unique outcome.ReadFault b x y = absurd x
  Asked-unique outcome.WriteFault b x y = absurd x
  Asked-unique outcome.NoMemory b x y = absurd x
  Asked-unique (outcome.Exports spot cut) b x y = absurd x
  Asked-unique (outcome.Ipfix spot cut) b x y = absurd x
  Asked-unique (outcome.Part which spot cut) b x y = absurd x
  Asked-unique (outcome.Records most) b x y = absurd x
  Asked-unique outcome.Done outcome.Done x y = refl
  Asked-unique outcome.Done (outcome.Names name) x y = absurd (not_apart names y.0 y.1 x.0)
  Asked-unique outcome.Done (outcome.Packets limit) x y = absurd (too_long most_packets content Whole (y.2 told) (x.1 told))
  Asked-unique outcome.Done (outcome.Exports spot cut) x y = absurd y
  Asked-unique outcome.Done (outcome.Ipfix spot cut) x y = absurd y
  Asked-unique outcome.Done (outcome.Part which spot cut) x y = absurd y
  Asked-unique outcome.Done (outcome.Records most) x y = absurd y
  Asked-unique outcome.Done (outcome.Capture name at fault) x y = absurd (whole_or_faulty at fault (held_ending most_packets content Whole (Faulty at fault) (x.1 told) (y.2 told)))
  Asked-unique outcome.Done outcome.Usage x y = absurd y
  Asked-unique outcome.Done (outcome.Domain why) x y = absurd y
  Asked-unique outcome.Done (outcome.Readings why) x y = absurd y
  Asked-unique outcome.Done outcome.ReadFault x y = absurd y
  Asked-unique outcome.Done outcome.WriteFault x y = absurd y
  Asked-unique outcome.Done outcome.NoMemory x y = absurd y
  Asked-unique (outcome.Names name) outcome.Done x y = absurd (not_apart names x.0 x.1 y.0)
  Asked-unique (outcome.Names name) (outcome.Names other) x y =
      let same : x.0 ≡ y.0 = first_unique names x.0 y.0 x.1 y.1 in
      ap outcome.Names (x.2 ∙ ap (name_at names) same ∙ sym y.2)
  Asked-unique (outcome.Names name) (outcome.Packets limit) x y = absurd (not_apart names x.0 x.1 y.0)
  Asked-unique (outcome.Names name) (outcome.Exports spot cut) x y = absurd y
  Asked-unique (outcome.Names name) (outcome.Ipfix spot cut) x y = absurd y
  Asked-unique (outcome.Names name) (outcome.Part which spot cut) x y = absurd y
  Asked-unique (outcome.Names name) (outcome.Records most) x y = absurd y
  Asked-unique (outcome.Names name) (outcome.Capture other at fault) x y = absurd (not_apart names x.0 x.1 y.0)
  Asked-unique (outcome.Names name) outcome.Usage x y = absurd y
  Asked-unique (outcome.Names name) (outcome.Domain why) x y = absurd y
  Asked-unique (outcome.Names name) (outcome.Readings why) x y = absurd y
  Asked-unique (outcome.Names name) outcome.ReadFault x y = absurd y
  Asked-unique (outcome.Names name) outcome.WriteFault x y = absurd y
  Asked-unique (outcome.Names name) outcome.NoMemory x y = absurd y
  Asked-unique (outcome.Packets limit) outcome.Done x y = absurd (too_long most_packets content Whole (x.2 told) (y.1 told))
  Asked-unique (outcome.Packets limit) (outcome.Names name) x y = absurd (not_apart names y.0 y.1 x.0)
  Asked-unique (outcome.Packets limit) (outcome.Packets other) x y = ap outcome.Packets (x.1 ∙ sym y.1)
  Asked-unique (outcome.Packets limit) (outcome.Exports spot cut) x y = absurd y
  Asked-unique (outcome.Packets limit) (outcome.Ipfix spot cut) x y = absurd y
  Asked-unique (outcome.Packets limit) (outcome.Part which spot cut) x y = absurd y
  Asked-unique (outcome.Packets limit) (outcome.Records most) x y = absurd y
  Asked-unique (outcome.Packets limit) (outcome.Capture name at fault) x y = absurd (too_long most_packets content (Faulty at fault) (x.2 told) (y.2 told))
  Asked-unique (outcome.Packets limit) outcome.Usage x y = absurd y
  Asked-unique (outcome.Packets limit) (outcome.Domain why) x y = absurd y
  Asked-unique (outcome.Packets limit) (outcome.Readings why) x y = absurd y
  Asked-unique (outcome.Packets limit) outcome.ReadFault x y = absurd y
  Asked-unique (outcome.Packets limit) outcome.WriteFault x y = absurd y
  Asked-unique (outcome.Packets limit) outcome.NoMemory x y = absurd y
  Asked-unique (outcome.Capture name at fault) outcome.Done x y = absurd (whole_or_faulty at fault (held_ending most_packets content Whole (Faulty at fault) (y.1 told) (x.2 told)))
  Asked-unique (outcome.Capture name at fault) (outcome.Names other) x y = absurd (not_apart names y.0 y.1 x.0)
  Asked-unique (outcome.Capture name at fault) (outcome.Packets limit) x y = absurd (too_long most_packets content (Faulty at fault) (y.2 told) (x.2 told))
  Asked-unique (outcome.Capture name at fault) (outcome.Exports spot cut) x y = absurd y
  Asked-unique (outcome.Capture name at fault) (outcome.Ipfix spot cut) x y = absurd y
  Asked-unique (outcome.Capture name at fault) (outcome.Part which spot cut) x y = absurd y
  Asked-unique (outcome.Capture name at fault) (outcome.Records most) x y = absurd y
  Asked-unique (outcome.Capture name at fault) (outcome.Capture other place cause) x y =
      let same : Faulty at fault ≡ Faulty place cause = held_ending most_packets content (Faulty at fault) (Faulty place cause) (x.2 told) (y.2 told) in
      let named : name ≡ other = x.1 ∙ sym y.1 in
      cc
  Asked-unique (outcome.Capture name at fault) outcome.Usage x y = absurd y
  Asked-unique (outcome.Capture name at fault) (outcome.Domain why) x y = absurd y
  Asked-unique (outcome.Capture name at fault) (outcome.Readings why) x y = absurd y
  Asked-unique (outcome.Capture name at fault) outcome.ReadFault x y = absurd y
  Asked-unique (outcome.Capture name at fault) outcome.WriteFault x y = absurd y
  Asked-unique (outcome.Capture name at fault) outcome.NoMemory x y = absurd y

  -- what is asked for is answered, unless a call failed or no memory could be had
  pub HasCause-asked : (answer asked : Outcome) → HasCause desks files answer → Asked desks files asked
      → (Rose desks.old_in.side.faults desks.new_in.side.faults → ⊥) → (Rose desks.old.side.faults desks.new.side.faults → ⊥)
      → (answer ≡ asked) ⊎ (answer ≡ outcome.NoMemory)
  HasCause-asked outcome.Done asked cause asks reads writes = inl (Asked-unique outcome.Done asked cause asks)
  HasCause-asked outcome.Usage asked cause asks reads writes = absurd cause
  HasCause-asked (outcome.Domain why) asked cause asks reads writes = absurd cause
  HasCause-asked (outcome.Readings why) asked cause asks reads writes = absurd cause
  HasCause-asked (outcome.Names name) asked cause asks reads writes = inl (Asked-unique (outcome.Names name) asked cause asks)
  HasCause-asked (outcome.Capture name at fault) asked cause asks reads writes = inl (Asked-unique (outcome.Capture name at fault) asked cause asks)
  HasCause-asked (outcome.Packets limit) asked cause asks reads writes = inl (Asked-unique (outcome.Packets limit) asked cause asks)
  HasCause-asked (outcome.Exports place fault) asked cause asks reads writes = absurd cause
  HasCause-asked (outcome.Ipfix place fault) asked cause asks reads writes = absurd cause
  HasCause-asked (outcome.Part which place fault) asked cause asks reads writes = absurd cause
  HasCause-asked (outcome.Records limit) asked cause asks reads writes = absurd cause
  HasCause-asked outcome.ReadFault asked cause asks reads writes = absurd (reads cause)
  HasCause-asked outcome.WriteFault asked cause asks reads writes = absurd (writes cause)
  HasCause-asked outcome.NoMemory asked cause asks reads writes = inr refl
