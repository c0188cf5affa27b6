use Rattle.std.proofs.Common.{◌≡◌, ◌+◌, ◌<◌, ◌∷◌, List, length, take, drop, refl, sym, ap, ◌∙◌, subst, arith, length-drop}
use Rattle.std.proofs.lemmas.List.{length-map}
use Rattle.ioam_dex.specs.Record.{Record, IsRecord}
use Rattle.ioam_ipfix.specs.Data.{data_at, HasRoom}
use Rattle.ioam_ipfix.specs.Places.{slice, records_at, record_there}
use Rattle.ioam_ipfix.specs.Reading.{Reading, with_due}
use Rattle.ioam_ipfix.proofs.PlacesLaws.{next-place, held-slice}
use Rattle.ioam_ipfix.proofs.ViewLaws.{given-view}
use Rattle.ioam_ipfix.proofs.StepLaws.{tells-more, tells-bad, gives-record}
use Rattle.ioam_ipfix.proofs.reader.IpfixReader.show.Goals as goal

pub returns-in-More : goal.returns-in-More
returns-in-More c =
    let e = c.in-More.ensures in
    ((refl, λ _. tt, tells-more c.args.self.now c.advance.new.self _ e _ c.self.view_is e.due), tt)

pub returns-in-Bad : goal.returns-in-Bad
returns-in-Bad c =
    let e = c.in-Bad.ensures in (
      (
        refl,
        λ _. tt,
        tells-bad c.args.self.now c.advance.new.self _ e _ c.self.view_is c.start.result c.in-Bad.fault
            (c.start.ensures ∙ ap (λ (r : Reading). r.start) c.self.view_is) e.due,
      ),
      tt,
    )

pub returns-in-Due : goal.returns-in-Due
returns-in-Due c =
    let inside = c.self.inside in
    let mid = c.advance.new.self in
    let held = take inside.size inside.octets.pending in
    let places = inside.places.items in
    let p = c.index-place.result.now in
    let e = c.in-Due.ensures in
    let due = e.due in
    let many = ap (λ (r : Reading). length r.due) c.self.view_is in
    let count = length-map (drop inside.given places) (record_there held) in
    let left = length-drop inside.given places in
    let more : inside.given < length places = omega (arith, due, many, count, left) in
    let next = next-place held places inside.given p more c.index-place.ensures c.self.invariant.5 in
    let first : c.from-from.result ≡ p.from = c.from-from.ensures in
    let last : c.from-to.result ≡ p.to = c.from-to.ensures in
    let here = slice c.from-from.result c.from-to.result c.pending.result.now in
    let octets : here ≡ slice p.from p.to held =
    (λ i. slice (first i) (last i) (c.pending.ensures i)) ∙ held-slice inside.octets.pending inside.size p.from p.to next.0.ordered next.0.inside in
    let x : Record = data_at p.id here in
    let is_x : x ≡ record_there held p = ap (data_at p.id) octets in
    let xs : List Record = records_at held (drop (inside.given + 1) places) in
    let given = given-view inside.octets inside.size inside.known inside.messages (drop inside.given places) (drop (inside.given + 1) places) (record_there held p)
    (ap (records_at held) next.1) in
    let owed : mid.due ≡ x ∷ xs = sym (ap (λ (r : Reading). r.due) c.self.view_is) ∙ ap (records_at held) next.1 ∙ ap (λ y. y ∷ xs) (sym is_x) in
    let room : HasRoom p.id here = subst (λ o. HasRoom p.id o) (sym octets) next.0.room in
    let sayable : IsRecord x = subst (λ y. IsRecord y) (sym is_x) next.0.sayable in
    ((refl, λ _. tt, (room, sayable, gives-record c.args.self.now mid _ e x xs _ owed (given ∙ ap (with_due xs) c.self.view_is))), tt)
