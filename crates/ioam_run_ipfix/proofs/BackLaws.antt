-- That `records` brings back what `ipfix` was given.
use Rattle.std.proofs.Common.{◌≡◌, ℕ, ◌≤◌, IsSomeAnd, List, [], ◌∷◌, ◌++◌, length, length-append, Option, Some, sym, ap, ◌∙◌, subst, append-nil, arith}
use Rattle.ioam_desk.specs.Desk.{Reading, Writing, holds}
use Rattle.ioam_dex.specs.Record.{Record}
use Rattle.ioam_dex.specs.Reads.{records_octets}
use Rattle.ioam_dex.specs.Reads as dex
use Rattle.ioam_ipfix.specs.Messages.{joined}
use Rattle.ioam_ipfix.specs.Reads as ipfix
use Rattle.ioam_ipfix.specs.Written.{AreRuns, runs_of, messages_text}
use Rattle.ioam_ipfix.proofs.ReadsLaws.{Reads-unique}
use Rattle.ioam_ipfix.proofs.WrittenLaws.{written-read}
use Rattle.ioam_run_answer.specs.Outcomes.{IsDone}
use Rattle.ioam_run_answer.specs.declared.outcome.Outcome.{Outcome}
use Rattle.ioam_run_answer.specs.declared.outcome.Outcome.TheVariants as outcome
use Rattle.ioam_run_ipfix.specs.Exports.{AreFew, EndsSo}
use Rattle.ioam_run_ipfix.specs.Messages.{IsMessages}
use Rattle.ioam_run_ipfix.specs.Promise.{BringsBack, IpfixLeaves}
use Rattle.ioam_run_ipfix.specs.Texts.{AreCut, AreMessages, HoldsText}
use Rattle.ioam_run_ipfix.proofs.AskedLaws.{records-unique}
use Rattle.ioam_run_answer.proofs.RanLaws.{held_map}

-- a run has a record at least
runs-few : (runs : List (ℕ × List Record)) → AreRuns runs → length (runs_of runs) ≤ length (joined (runs_of runs))
runs-few [] are = omega arith
runs-few (run ∷ runs) are =
    let some = are.0.some in
    let rest = runs-few runs are.1 in
    let size = length-append run.1 (joined (runs_of runs)) in
    omega (arith, some, rest, size)

whole-octets : (octets : List ℕ) (records : List Record) → dex.Reads octets records dex.Whole → octets ≡ records_octets records
whole-octets octets records reads = reads.splits.is ∙ ap (λ o. records_octets records ++ o) reads.ends ∙ append-nil (records_octets records)

pub messages-back : (octets : List ℕ) (records : List Record) (runs : List (ℕ × List Record)) → dex.Reads octets records dex.Whole → AreFew records → AreCut records runs
    → BringsBack (messages_text runs) octets
messages-back octets records runs exported few cut =
    let written : List ℕ = messages_text runs in
    let reads : ipfix.Reads written ([] ∷ runs_of runs) ipfix.Whole = written-read runs cut.are in
    let sizes = runs-few runs cut.are in
    let count = ap length cut.joins in
    let within : IsMessages ipfix.Whole written = record {
      messages = [] ∷ runs_of runs;
      reads = reads;
      within = record { few_messages = omega (arith, sizes, count, few); few_records = omega (arith, count, few) };
    } in
    record {
      records = records;
      exported = exported;
      runs = runs;
      cut = cut;
      reads = reads;
      only = λ others other also. Reads-unique written others ([] ∷ runs_of runs) other ipfix.Whole also reads;
      asked = λ tells input out apart. (apart, λ told. within);
      asked_only = λ tells input out answer told apart asks. records-unique tells (Some written) input out told answer outcome.Done asks (apart, λ so. within);
      back = λ out old_in new_in old new leaves.
          let same = (Reads-unique written leaves.are.messages ([] ∷ runs_of runs) ipfix.Whole ipfix.Whole leaves.are.reads reads).0 in
          leaves.held ∙ ap Some (leaves.is.is ∙ ap records_octets (leaves.are.are ∙ ap joined same ∙ cut.joins) ∙ sym (whole-octets octets records exported));
    }

-- where `ipfix` answered Done
module _ (content : Option (List ℕ)) (out : List ℕ) (old_in new_in : Reading) (old new : Writing) where
  held-back : (octets : List ℕ) → HoldsText AreMessages (EndsSo dex.Whole) new out octets → IsSomeAnd (holds new out) (λ written. BringsBack written octets)
  held-back octets holds_text =
      let P : Option (List ℕ) → Type 0 = λ o. IsSomeAnd o (λ written. BringsBack written octets) in
      let text : holds new out ≡ Some (messages_text holds_text.is.runs) = holds_text.held ∙ ap Some holds_text.is.is in
      subst P (sym text) (messages-back octets holds_text.records holds_text.is.runs holds_text.are holds_text.few holds_text.is.cut)

  pub leaves-back : (answer : Outcome) → IsDone answer → IpfixLeaves content out old_in new_in old new answer
      → IsSomeAnd content (λ octets. IsSomeAnd (holds new out) (λ written. BringsBack written octets))
  leaves-back outcome.Done done leaves = held_map content (HoldsText AreMessages (EndsSo dex.Whole) new out) (λ octets. IsSomeAnd (holds new out) (λ written. BringsBack written octets)) held-back leaves
  leaves-back (outcome.Names name) done leaves = absurd done
  leaves-back (outcome.Exports at fault) done leaves = absurd done
  leaves-back (outcome.Records limit) done leaves = absurd done
  leaves-back outcome.Usage done leaves = absurd done
  leaves-back (outcome.Domain why) done leaves = absurd done
  leaves-back (outcome.Readings why) done leaves = absurd done
  leaves-back (outcome.Capture name at fault) done leaves = absurd done
  leaves-back (outcome.Ipfix at fault) done leaves = absurd done
  leaves-back (outcome.Part name at fault) done leaves = absurd done
  leaves-back (outcome.Packets limit) done leaves = absurd done
  leaves-back outcome.ReadFault done leaves = absurd done
  leaves-back outcome.WriteFault done leaves = absurd done
  leaves-back outcome.NoMemory done leaves = absurd done
