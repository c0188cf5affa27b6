use Rattle.std.proofs.Common.{◌≡◌, ◌+◌, ◌≤◌, ◌++◌, List, ℕ, length, refl, rules, sym, ap, ◌∙◌, subst}
use Rattle.ioam_dex.specs.declared.head.RecordStep.TheVariants as step
use Rattle.ioam_dex.specs.declared.reader.Step.TheVariants.{Export, More, Bad}
use Rattle.ioam_dex.specs.Record.{Record, IsRecord, record_of, record_octets}
use Rattle.ioam_dex.specs.Faults.{Fault, IsCut, TellsRecord, said}
use Rattle.ioam_dex.specs.Reading.{Reading}
use Rattle.ioam_dex.specs.Reader.{Moved, held as held_by}
use Rattle.ioam_dex.proofs.ReaderLaws.{held_kept, taken_off, says_fault, Stands-step, Stands-still, Stands-faulty}
use Rattle.ioam_dex.proofs.reader.ExportReader.next.Goals as goal

pub returns-in-Whole : goal.returns-in-Whole
returns-in-Whole c =
    let old = c.args.self.now in
    let h = c.in-Whole.head in
    let held = c.self.inside.octets in
    let pending : c.pending.result.now ≡ old.pending = c.pending.ensures ∙ ap (λ r. r.pending) c.self.view_is in
    let T : List ℕ → Type 0 = λ p. TellsRecord p (step.Whole h) in
    let told = subst T pending c.in-Whole.ensures in
    let few : h.front ≤ h.size = search rules in
    let by_head = taken_off held c.take.new.self h old c.self.view_is c.take.ensures told few in
    let new : Reading = record { start = c.take.new.self.start; pending = c.take.new.self.pending; given = length c.take.new.self.given } in
    let same = held_kept held c.take.new.self h old c.self.view_is c.take.ensures told in
    let e = c.with_element.result in
    let says = c.with_element.ensures ∙ ap (said h) c.taken-element.ensures in
    let Off : Record → Type 0 = λ y. IsRecord y × (old.pending ≡ record_octets y ++ new.pending) × (new.start ≡ old.start + length (record_octets y)) in
    let off : Off (record_of e) = subst Off (sym says) by_head in
    ((refl, λ _. tt, (off, (λ octets records stands. Stands-step old new (record_of e) off.0 off.1 off.2 octets records stands), says_fault old new (Export e) off, same)), tt)

pub returns-in-Cut : goal.returns-in-Cut
returns-in-Cut c =
    let old = c.args.self.now in
    let pending = c.pending.ensures ∙ ap (λ r. r.pending) c.self.view_is in
    let Q : List ℕ → Type 0 = λ p. IsCut p in
    let cut : IsCut old.pending = subst Q pending c.in-Cut.ensures in
    let new : Reading = record { start = c.self.inside.octets.start; pending = c.self.inside.octets.pending; given = length c.self.inside.octets.given } in
    ((refl, λ _. tt, ((c.self.view_is, cut), (λ octets records stands. Stands-still old new c.self.view_is octets records stands), says_fault old new More (c.self.view_is, cut), ap (λ (r : Reading). held_by r) c.self.view_is)), tt)

pub returns-in-Bad : goal.returns-in-Bad
returns-in-Bad c =
    let old = c.args.self.now in
    let pending = c.pending.ensures ∙ ap (λ r. r.pending) c.self.view_is in
    let Q : List ℕ → Type 0 = λ p. Fault p c.in-Bad.fault in
    let bad : Fault old.pending c.in-Bad.fault = subst Q pending c.in-Bad.ensures in
    let start = c.start.ensures ∙ ap (λ r. r.start) c.self.view_is in
    let new : Reading = record { start = c.self.inside.octets.start; pending = c.self.inside.octets.pending; given = length c.self.inside.octets.given } in
    let moved : Moved old new (Bad c.start.result c.in-Bad.fault) = (c.self.view_is, start, bad) in (
      (
        refl,
        λ _. tt,
        (
          moved,
          (
              λ octets records stands.
              (Stands-still old new c.self.view_is octets records stands, Stands-faulty old c.start.result c.in-Bad.fault start bad octets records stands)
              ),
          says_fault old new (Bad c.start.result c.in-Bad.fault) moved,
          ap (λ (r : Reading). held_by r) c.self.view_is,
        ),
      ),
      tt,
    )
