use Rattle.std.proofs.Common.{◌≡◌, ◌+◌, ◌++◌, List, ℕ, length, refl, sym, ap, ◌∙◌, subst}
use Rattle.ioam_dex.specs.declared.head.RecordStep.TheVariants as step
use Rattle.ioam_dex.specs.Record.{Record, record_octets, element_of}
use Rattle.ioam_dex.specs.Faults.{Fault, IsCut, TellsRecord, said}
use Rattle.ioam_dex.specs.Reading.{Reading}
use Rattle.ioam_dex.proofs.ReaderLaws.{held_kept, octets_off, whole_off, Stands-step, Stands-faulty}
use Rattle.ioam_dex.proofs.reader.ExportReader.show.Goals as goal

pub returns-in-Whole : goal.returns-in-Whole
returns-in-Whole c =
    let old = c.args.self.now in
    let h = c.in-Whole.head in
    let held = c.self.inside.octets in
    let pending : c.pending.result.now ≡ old.pending = c.pending.ensures ∙ ap (λ r. r.pending) c.self.view_is in
    let T : List ℕ → Type 0 = λ p. TellsRecord p (step.Whole h) in
    let told = subst T pending c.in-Whole.ensures in
    let x : Record = said h (element_of old.pending) in
    let new : Reading = record { start = c.take.new.self.start; pending = c.take.new.self.pending; given = length c.take.new.self.given } in
    let off = whole_off held c.take.new.self h old c.self.view_is c.take.ensures told in
    let are : c.taken.result.now ≡ record_octets x = c.taken.ensures ∙ octets_off held c.take.new.self h old c.self.view_is c.take.ensures told in (
      (
        refl,
        λ _. tt,
        (
          (x, record { sayable = told.2; is = are }, (λ octets records stands. Stands-step old new x told.2 off.0 off.1 octets records stands)),
          off.0 ∙ ap (λ o. o ++ new.pending) (sym are),
          off.1 ∙ ap (λ o. old.start + length o) (sym are),
          held_kept held c.take.new.self h old c.self.view_is c.take.ensures told,
        ),
      ),
      tt,
    )

pub returns-in-Cut : goal.returns-in-Cut
returns-in-Cut c =
    let old = c.args.self.now in
    let pending = c.pending.ensures ∙ ap (λ r. r.pending) c.self.view_is in
    let Q : List ℕ → Type 0 = λ p. IsCut p in
    let cut : IsCut old.pending = subst Q pending c.in-Cut.ensures in
    ((refl, λ _. tt, (c.self.view_is, cut)), tt)

pub returns-in-Bad : goal.returns-in-Bad
returns-in-Bad c =
    let old = c.args.self.now in
    let pending = c.pending.ensures ∙ ap (λ r. r.pending) c.self.view_is in
    let Q : List ℕ → Type 0 = λ p. Fault p c.in-Bad.fault in
    let bad : Fault old.pending c.in-Bad.fault = subst Q pending c.in-Bad.ensures in
    let start = c.start.ensures ∙ ap (λ r. r.start) c.self.view_is in
    ((refl, λ _. tt, (c.self.view_is, start, bad, λ octets records stands. Stands-faulty old c.start.result c.in-Bad.fault start bad octets records stands)), tt)
