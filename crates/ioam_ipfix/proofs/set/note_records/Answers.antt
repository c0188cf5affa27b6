use Rattle.std.proofs.Common.{◌≡◌, ◌+◌, ◌++◌, ◌∷◌, [], List, refl, rules, sym, subst, arith}
use Rattle.ioam_ipfix.specs.declared.place.Place.{Place}
use Rattle.ioam_ipfix.proofs.PlacesLaws.{Noted, Noted-all, Noted-fits, Noted-none, Noted-push, Noted-stuck}
use Rattle.ioam_ipfix.proofs.set.note_records.Goals as goal

pub records-init : goal.records-init
records-init c = record {
  after = omega arith;
  within = c.requires.inside.0;
  few = c.requires.room.0;
  room = c.requires.room.1;
  noted = Noted-none c.args.id c.args.message.now c.args.from c.args.to c.args.places.now.items c.requires.inside.0 c.requires.places;
}

pub overflow_add-at : goal.overflow_add-at
overflow_add-at c =
    let e = c.in-Whole.ensures in
    let inside = c.requires.inside in
    let most = Noted-fits c.args.id c.args.message.now c.args.from c.args.to inside.1 c.args.places.now.items c.records.at c.records.places.items c.records.invariant.noted e.1 in
    omega (arith, most, e.0, inside.1, inside.2)

pub records-smaller : goal.records-smaller
records-smaller c =
    let e = c.in-Whole.ensures in
    let most = Noted-fits c.args.id c.args.message.now c.args.from c.args.to c.requires.inside.1 c.args.places.now.items c.records.at c.records.places.items c.records.invariant.noted e.1 in
    omega (arith, most, e.0, e.3)

pub records-preserved : goal.records-preserved
records-preserved c =
    let message = c.args.message.now in
    let from = c.args.from in
    let to = c.args.to in
    let at = c.records.at in
    let size = c.in-Whole.size in
    let place : Place = record { from = at; to = to; id = c.args.id } in
    let items : c.push.new.self.items ≡ c.records.places.items ++ place ∷ [] = search rules in
    let e = c.in-Whole.ensures in
    let was = c.records.invariant in
    let noted = Noted-push c.args.id message from to c.requires.inside.1 c.args.places.now.items at c.records.places.items was.noted size e.0 e.1 e.2 e.4 place refl in
    let least = e.3 in
    record {
      after = noted.after;
      within = noted.within;
      few = omega (arith, c.push.ensures.upper_bound, was.few, least);
      room = omega (arith, c.push.ensures.capacity, was.room);
      noted = subst (λ (ps : List Place). Noted c.args.id message from to c.args.places.now.items (at + size) ps) (sym items) noted;
    }

pub returns-in-Padding-clause-room : goal.returns-in-Padding-clause-room
returns-in-Padding-clause-room c =
    let so = c.records.invariant in
    (omega (arith, so.few, so.within), so.room)

pub returns-in-Padding-clause-found : goal.returns-in-Padding-clause-found
returns-in-Padding-clause-found c =
    Noted-all c.args.id c.args.message.now c.args.from c.args.to c.requires.inside.1 c.args.places.now.items c.records.at c.records.places.items
    c.records.invariant.noted c.in-Padding.ensures

pub returns-in-Bad-clause-room : goal.returns-in-Bad-clause-room
returns-in-Bad-clause-room c =
    let so = c.records.invariant in
    (omega (arith, so.few, so.within), so.room)

pub returns-in-Bad-clause-found : goal.returns-in-Bad-clause-found
returns-in-Bad-clause-found c =
    Noted-stuck c.args.id c.args.message.now c.args.from c.args.to c.requires.inside.1 c.args.places.now.items c.records.at c.records.places.items
    c.records.invariant.noted _ refl c.in-Bad.ensures.0 c.in-Bad.ensures.1
