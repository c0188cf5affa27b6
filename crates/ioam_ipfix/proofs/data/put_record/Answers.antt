use Rattle.std.proofs.Common.{ap, ◌∙◌, arith}
use Rattle.ioam_base.specs.Octets.{IsOctets}
use Rattle.ioam_dex.specs.Room.{Room, appended}
use Rattle.ioam_dex.proofs.RecordLaws.{record_octets-length, record_size-small}
use Rattle.ioam_ipfix.specs.Data.{data_at}
use Rattle.ioam_ipfix.proofs.DataLaws.{back-is, back-size}
use Rattle.ioam_ipfix.proofs.data.put_record.Goals as goal

pub put_back-requires-clause-spare : goal.put_back-requires-clause-spare
put_back-requires-clause-spare c =
    let small : IsOctets c.args.octets.now = λ i. omega (arith, c.type_inv.octets i) in
    let x = data_at c.args.id c.args.octets.now in
    let place = rw c.unwrap-from.ensures at c.element_place.ensures in
    omega (arith, back-size c.args.id c.args.octets.now small _ _ place c.requires.sayable, record_size-small x c.requires.sayable.parts, c.requires.spare)

pub returns-clause-appended : goal.returns-clause-appended
returns-clause-appended c =
    let small : IsOctets c.args.octets.now = λ i. omega (arith, c.type_inv.octets i) in
    let place = rw c.unwrap-from.ensures at c.element_place.ensures in
    c.put_back.ensures ∙ ap (appended c.args.room.now) (back-is c.args.id c.args.octets.now small _ _ place c.requires.sayable)

pub returns-clause-spare : goal.returns-clause-spare
returns-clause-spare c =
    let small : IsOctets c.args.octets.now = λ i. omega (arith, c.type_inv.octets i) in
    let x = data_at c.args.id c.args.octets.now in
    let place = rw c.unwrap-from.ensures at c.element_place.ensures in
    let is = c.put_back.ensures ∙ ap (appended c.args.room.now) (back-is c.args.id c.args.octets.now small _ _ place c.requires.sayable) in
    let left = ap (λ (r : Room). r.spare) is in
    omega (arith, left, record_octets-length x c.requires.sayable.parts, record_size-small x c.requires.sayable.parts, c.requires.spare)
