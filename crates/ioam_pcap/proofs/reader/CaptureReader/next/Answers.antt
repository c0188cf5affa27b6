use Rattle.std.proofs.Common.{◌≡◌, ◌+◌, ◌≤◌, List, ℕ, length, take, drop, Option, refl, sym, ap, ◌∙◌, subst, rules, arith, Some, None}
use Rattle.ioam_base.specs.Fed.{passed}
use Rattle.ioam_pcap.specs.declared.form.Form.{Form}
use Rattle.ioam_pcap.specs.Reading.{Reading}
use Rattle.ioam_pcap.specs.Reads.{HeadFault, EntryFault, IsHeadCut, IsEntryCut, FaultAt, CutAt}
use Rattle.ioam_pcap.specs.Form.{HasHead}
use Rattle.ioam_pcap.specs.Entries.{Entry, IsWhole, captured, entry_at}
use Rattle.ioam_pcap.specs.Reader.{Stands, held}
use Rattle.ioam_pcap.proofs.StandsLaws.{cut_told, fault_told, held_kept, octets_of_record, moved_by, Stands-head, Stands-step, Waits-few, EntryAt-step, length_left, length_of_record, entry_by}
use Rattle.ioam_pcap.proofs.FaultLaws.{says_head, says_entry, says_cut, says_bad}
use Rattle.ioam_pcap.proofs.reader.CaptureReader.next.Goals as goal

pub returns-in-Whole : goal.returns-in-Whole
returns-in-Whole c =
    let old = c.args.self.now in
    let none : old.form ≡ None = search rules in
    let pending : _ ≡ old.pending = c.pending-pending.ensures ∙ ap (λ r. r.pending) c.self.view_is in
    let Q : List ℕ → Type 0 = λ p. HasHead p c.in-Whole.form in
    let head = subst Q pending c.in-Whole.ensures in
    let new = moved_by c.self.inside.octets c.take.new.self c.self.inside.form old 24 c.self.view_is c.take.ensures in
    let rest = ap (λ r. r.pending) new in
    let with_form : Reading → Reading = λ r. record r { form = Some c.in-Whole.form } in
    let after = ap with_form new in
    let same = held_kept c.self.inside.octets c.take.new.self c.self.inside.form old 24 c.self.view_is c.take.ensures (omega (arith, head.0, ap (λ r. length r.pending) c.self.view_is)) in (
      (
        refl,
        λ _. tt,
        (
          (ap (λ r. r.start) new, rest, length_left _ old.pending 24 rest head.0, none, refl),
          λ octets entries stands.
              let stood = Stands-head old c.in-Whole.form none head octets entries stands (length c.take.new.self.given) in
              let S : Reading → Type 0 = λ r. Stands r octets entries in
              ((none, (c.in-Whole.form, stood.reached.0, refl)), (refl, subst S (sym after) stood)),
          says_head old c.in-Whole.form none head _,
          same,
        ),
      ),
      tt,
    )

pub returns-in-Bad : goal.returns-in-Bad
returns-in-Bad c =
    let old = c.args.self.now in
    let none : old.form ≡ None = search rules in
    let pending = c.pending-pending.ensures ∙ ap (λ r. r.pending) c.self.view_is in
    let Q : List ℕ → Type 0 = λ p. HeadFault p c.in-Bad.fault in
    let bad : FaultAt old.pending old.form 0 c.in-Bad.fault = rw none (subst Q pending c.in-Bad.ensures) in
    let start = c.start-at.ensures ∙ ap (λ r. r.start) c.self.view_is in (
      (
        refl,
        λ _. tt,
        (
          (c.self.view_is, start, bad),
          λ octets entries stands. fault_told old _ c.self.view_is octets entries stands _ c.in-Bad.fault start bad,
          says_bad old _ c.in-Bad.fault start bad,
          ap (λ (r : Reading). held r) c.self.view_is,
        ),
      ),
      tt,
    )

pub returns-in-Cut : goal.returns-in-Cut
returns-in-Cut c =
    let old = c.args.self.now in
    let none : old.form ≡ None = search rules in
    let pending = c.pending-pending.ensures ∙ ap (λ r. r.pending) c.self.view_is in
    let Q : List ℕ → Type 0 = λ p. IsHeadCut p in
    let cut : CutAt old.pending old.form 0 = rw none (subst Q pending c.in-Cut.ensures) in
    ((refl, λ _. tt, ((c.self.view_is, cut, Waits-few old cut), λ octets entries stands. cut_told old _ c.self.view_is octets entries stands cut, says_cut old cut _, ap (λ (r : Reading). held r) c.self.view_is)), tt)

pub returns-in-Whole-entry_step : goal.returns-in-Whole-entry_step
returns-in-Whole-entry_step c =
    let old = c.args.self.now in
    let form = c.in-Some.form in
    let h = c.in-Whole-entry_step.head in
    let form_is : old.form ≡ Some form = search rules in
    let pending : _ ≡ old.pending = c.pending-pending.ensures ∙ ap (λ r. r.pending) c.self.view_is in
    let T : List ℕ → Type 0 = λ p. IsWhole form p 0 × (h.captured ≡ captured form p 0) × (h.time ≡ (entry_at form p 0).time) × (h.original ≡ (entry_at form p 0).original) in
    let told = subst T pending c.in-Whole-entry_step.ensures.tells in
    let size = 16 + captured form old.pending 0 in
    let kept = c.self.inside.octets in
    let behind = c.take-in-Whole-entry_step.new.self in
    let taken : behind ≡ passed size kept = c.take-in-Whole-entry_step.ensures ∙ ap (λ n. passed (16 + n) kept) told.1 in
    let new = moved_by kept behind c.self.inside.form old size c.self.view_is taken in
    let rest = ap (λ r. r.pending) new in
    let after : Reading = record { form = c.self.inside.form; start = behind.start; pending = behind.pending; given = length behind.given } in
    let same = held_kept kept behind c.self.inside.form old size c.self.view_is taken (omega (arith, told.0, ap (λ r. length r.pending) c.self.view_is)) in
    let octets = c.taken.result.now in
    let fits : 16 + h.captured ≤ length kept.pending = omega (arith, told.0, told.1, ap (λ r. length r.pending) c.self.view_is) in
    let shown : octets ≡ take (captured form old.pending 0) (drop 16 old.pending) =
    c.taken.ensures ∙ octets_of_record kept behind h.captured c.take-in-Whole-entry_step.ensures fits
    ∙ ap (λ n. take n (drop 16 kept.pending)) told.1 ∙ ap (λ r. take (captured form old.pending 0) (drop 16 r.pending)) c.self.view_is in
    let many : length octets ≡ captured form old.pending 0 = ap length shown ∙ length_of_record form old.pending told.0 in
    let entry : Entry = record { time = h.time; original = h.original; octets = octets } in
    let entry_is : entry ≡ entry_at form old.pending 0 = entry_by _ _ _ (entry_at form old.pending 0) told.2 told.3 shown in (
      (
        refl,
        λ _. tt,
        (
          (
            ap (λ r. r.form) new,
            ap (λ r. r.start) new ∙ ap (λ n. old.start + (16 + n)) (sym many),
            rest ∙ ap (λ n. drop (16 + n) old.pending) (sym many),
            ap (λ n. length behind.pending + (16 + n)) many ∙ length_left _ old.pending size rest told.0.1,
            c.in-Whole-entry_step.ensures.timely,
            λ none. let wrong : ◌≡◌ {A = Option Form} (Some form) None = sym form_is ∙ none in absurd (cc),
            omega (arith, many, told.0.0),
          ),
          λ all entries stands. (EntryAt-step old after form form_is told.0 (ap (λ r. r.form) new) (ap (λ r. r.start) new) rest entry entry_is all entries stands, Stands-step old after form form_is told.0 (ap (λ r. r.form) new) (ap (λ r. r.start) new) rest entry entry_is all entries stands),
          says_entry old form form_is told.0 _,
          same,
        ),
      ),
      tt,
    )

pub returns-in-Cut-entry_step : goal.returns-in-Cut-entry_step
returns-in-Cut-entry_step c =
    let old = c.args.self.now in
    let form : old.form ≡ Some c.in-Some.form = search rules in
    let pending = c.pending-pending.ensures ∙ ap (λ r. r.pending) c.self.view_is in
    let Q : List ℕ → Type 0 = λ p. IsEntryCut c.in-Some.form p 0 in
    let cut : CutAt old.pending old.form 0 = rw form (subst Q pending c.in-Cut-entry_step.ensures.tells) in
    ((refl, λ _. tt, ((c.self.view_is, cut, Waits-few old cut), λ octets entries stands. cut_told old _ c.self.view_is octets entries stands cut, says_cut old cut _, ap (λ (r : Reading). held r) c.self.view_is)), tt)

pub returns-in-Bad-entry_step : goal.returns-in-Bad-entry_step
returns-in-Bad-entry_step c =
    let old = c.args.self.now in
    let form : old.form ≡ Some c.in-Some.form = search rules in
    let pending = c.pending-pending.ensures ∙ ap (λ r. r.pending) c.self.view_is in
    let Q : List ℕ → Type 0 = λ p. EntryFault c.in-Some.form p 0 c.in-Bad-entry_step.fault in
    let bad : FaultAt old.pending old.form 0 c.in-Bad-entry_step.fault = rw form (subst Q pending c.in-Bad-entry_step.ensures.tells) in
    let start = c.start-at.ensures ∙ ap (λ r. r.start) c.self.view_is in (
      (
        refl,
        λ _. tt,
        (
          (c.self.view_is, start, bad),
          λ octets entries stands. fault_told old _ c.self.view_is octets entries stands _ c.in-Bad-entry_step.fault start bad,
          says_bad old _ c.in-Bad-entry_step.fault start bad,
          ap (λ (r : Reading). held r) c.self.view_is,
        ),
      ),
      tt,
    )
