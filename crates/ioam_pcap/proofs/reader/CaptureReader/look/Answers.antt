use Rattle.std.proofs.Common.{◌≡◌, List, ℕ, sym, ap, ◌∙◌, subst, rules, Some}
use Rattle.ioam_pcap.specs.Reads.{IsEntryCut, CutAt}
use Rattle.ioam_pcap.specs.Entries.{IsWhole, captured, entry_at}
use Rattle.ioam_pcap.proofs.StandsLaws.{CutAt-waits, EntryAt-pending, length_of_record}
use Rattle.ioam_pcap.proofs.reader.CaptureReader.look.Goals as goal

pub returns-in-Whole-entry_step-clause-shows : goal.returns-in-Whole-entry_step-clause-shows
returns-in-Whole-entry_step-clause-shows c =
    let old = c.args.self.now in
    let form = c.in-Some.form in
    let h = c.in-Whole-entry_step.head in
    let form_is : old.form ≡ Some form = search rules in
    let pending : _ ≡ old.pending = c.pending-pending.ensures ∙ ap (λ r. r.pending) c.self.view_is in
    let T : List ℕ → Type 0 = λ p. IsWhole form p 0 × (h.captured ≡ captured form p 0) × (h.time ≡ (entry_at form p 0).time) × (h.original ≡ (entry_at form p 0).original) in
    let told = subst T pending c.in-Whole-entry_step.ensures.tells in
    λ octets entries stands. (entry_at form old.pending 0, EntryAt-pending old form form_is told.0 octets entries stands, told.2, told.1 ∙ sym (length_of_record form old.pending told.0))

pub returns-in-Cut-entry_step-clause-shows : goal.returns-in-Cut-entry_step-clause-shows
returns-in-Cut-entry_step-clause-shows c =
    let old = c.args.self.now in
    let form : old.form ≡ Some c.in-Some.form = search rules in
    let pending = c.pending-pending.ensures ∙ ap (λ r. r.pending) c.self.view_is in
    let Q : List ℕ → Type 0 = λ p. IsEntryCut c.in-Some.form p 0 in
    let cut : CutAt old.pending old.form 0 = rw form (subst Q pending c.in-Cut-entry_step.ensures.tells) in
    λ octets entries stands. CutAt-waits old octets entries stands cut
