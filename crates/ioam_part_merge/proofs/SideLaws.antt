-- One of two parts that are walked.
use Rattle.std.proofs.Common.{◌≡◌, ℕ, ◌+◌, ◌≤◌, List, [], ◌∷◌, ◌++◌, length, length-append, All, Option, None, Some, sym, ap, ◌∙◌, arith}
use Rattle.std.specs.Prelude.{MatchOption}
use Rattle.std.proofs.lemmas.List.Elements.{All-head}
use Rattle.ioam_dex.specs.Record.{Record, IsRecord, record_octets}
use Rattle.ioam_dex.specs.RecordRef.{content}
use Rattle.ioam_dex.specs.Reads.{records_octets}
use Rattle.ioam_dex.specs.declared.record_ref.RecordRef.{RecordRef}
use Rattle.ioam_dex.proofs.RecordLaws.{record_octets-same}
use Rattle.ioam_dex.proofs.RefLaws.{content-rec}
use Rattle.ioam_part_merge.specs.Walk.{ShowsNext, size_of}

-- a record has octets
record_some : (x : Record) → 4 ≤ length (record_octets x)
record_some x = omega arith

pub some_octets : (e : RecordRef) → 4 ≤ length e.octets.now
some_octets e = omega (arith, ap length (content-rec e).is, record_some (content e))

-- what is taken off octets, and what is left of them
abbrev pub Takes : List ℕ → Option RecordRef → List ℕ → Type 0
Takes old next new = MatchOption next ((old ≡ []) × (new ≡ [])) (λ first. old ≡ first.octets.now ++ new)

-- of records the first is taken off
pub takes_next : (old : List ℕ) (next : Option RecordRef) (new : List ℕ) → Takes old next new → (xs : List Record) → All IsRecord xs → old ≡ records_octets xs
    → ShowsNext next new xs
takes_next old None new takes [] all is = tt
takes_next old None new takes (x ∷ xs) all is =
    absurd (omega (arith, ap length (sym takes.0 ∙ is), length-append (record_octets x) (records_octets xs), record_some x))
takes_next old (Some e) new takes [] all is =
    absurd (omega (arith, ap length (sym takes ∙ is), length-append e.octets.now new, some_octets e))
takes_next old (Some e) new takes (x ∷ xs) all is =
    record_octets-same (content e) x new (records_octets xs) (content-rec e).sayable (All-head IsRecord x xs all)
    (ap (λ o. o ++ new) (sym (content-rec e).is) ∙ sym takes ∙ is)

-- no octets are added
pub takes_few : (old : List ℕ) (next : Option RecordRef) (new : List ℕ) → Takes old next new → size_of next + length new ≤ length old
takes_few old None new takes = omega (arith, ap length takes.1)
takes_few old (Some e) new takes = omega (arith, ap length takes, length-append e.octets.now new)
