use Rattle.std.proofs.Common.{◌≡◌, ℕ, ◌+◌, ◌<◌, ◌^◌, ◌++◌, List, length, Some, None, refl, sym, ◌∙◌, ap, subst}
use Rattle.ioam_delay_counts.specs.Courses.{Course}
use Rattle.ioam_delay_traces.specs.Traces.{course_by, course_of}
use Rattle.ioam_base.specs.Octets.{u16_at}
use Rattle.ioam_delays.specs.declared.sight.Sight.{Sight}
use Rattle.ioam_delay_traces.specs.Totals.{AreFractions, fractions_in}
use Rattle.ioam_delay_traces.proofs.TraceLaws.{course_is}
use Rattle.ioam_delay_traces.proofs.TotalLaws.{bad_more, overflow_is, total_more}
use Rattle.ioam_delay_traces.proofs.totals.Totals.count.Goals as goal

pub returns-in-Err : goal.returns-in-Err
returns-in-Err c = λ seen light short are.
    let none : course_of c.args.units c.args.limit c.args.octets.now ≡ None =
    ap (course_by c.args.units c.args.limit c.args.octets.now) (sym c.in-Err.ensures.fault) in
    bad_more seen _ c.args.self.now _ none short are refl refl refl refl c.saturating_add-self.ensures

pub returns : goal.returns
returns c = λ seen light short are.
    let head = c.in-Ok.ensures.reads.0.is_head in
    let b = c.has_overflow-overflow.result in
    let course : Course = record { namespace = c.in-Ok.trace.head.namespace.0; overflow = b; limit = c.args.limit; sights = c.deref.result.now } in
    let again : c.deref-2.result.now ≡ c.deref.result.now = c.deref-2.ensures.value ∙ sym c.deref.ensures.value in
    let Counts : List Sight → Type 0 = λ sights. (fs : List ℕ) → length fs + length sights < 2 ^ 48 → AreFractions fs c.args.self.now.fractions
    → AreFractions (fs ++ fractions_in sights) c.add.new.self in
    let one : course_of c.args.units c.args.limit c.args.octets.now ≡ Some course =
    course_is c.args.units c.args.limit c.args.octets.now c.in-Ok.trace.head _ b c.deref.result.now c.in-Ok.ensures.fault head c.in-Ok.ensures.elements
    (overflow_is b c.in-Ok.trace.head.flags (u16_at c.args.octets.now 2) c.has_overflow-overflow.ensures.0 c.has_overflow-overflow.ensures.1 head.flags)
    (c.deref.ensures.value ∙ c.in_ok-read_sights.ensures) in
    total_more seen course _ c.args.self.now _ b c.from.result one light short are c.in_ok-count.ensures c.saturating_add-self-2.ensures refl c.from.ensures c.saturating_add-self-3.ensures refl
    (subst Counts again c.add.ensures)
