use Rattle.std.proofs.Common.{◌≡◌, ◌++◌, ◌∙◌, ap, ap₂, sym}
use Rattle.ioam_dex.specs.Room.{Room, appended}
use Rattle.ioam_dex.specs.RecordRef.{content, fields_between, plain_head, plain_tail}
use Rattle.ioam_dex.proofs.RefLaws.{content-rec, plain-is, plain-rec, plain-small}
use Rattle.ioam_dex.proofs.RoomLaws.{appended_twice}
use Rattle.ioam_dex.proofs.record_ref.RecordRef.put_plain.Goals as goal

pub returns-clause-appended : goal.returns-clause-appended
returns-clause-appended c =
    let octets = c.args.self.now.octets.now in
    let room : Room = c.args.room.now in
    let a = plain_head octets in
    let b = fields_between octets in
    let d = plain_tail octets in
    let one : c.append.new.self ≡ appended room a = c.append.ensures ∙ ap (appended room) c.plain_head.ensures in
    let two : c.append-2.new.self ≡ appended (appended room a) b = c.append-2.ensures ∙ ap₂ appended one c.fields_between.ensures in
    let three : c.append-3.new.self ≡ appended (appended (appended room a) b) d = c.append-3.ensures ∙ ap₂ appended two c.plain_tail.ensures in
    three ∙ appended_twice (appended room a) b d ∙ appended_twice room a (b ++ d)
    ∙ ap (appended room) (sym (plain-is octets (content c.args.self.now) (content-rec c.args.self.now)))

pub returns-clause-size : goal.returns-clause-size
returns-clause-size c = plain-small c.args.self.now.octets.now (content c.args.self.now) (content-rec c.args.self.now)

pub returns-clause-says : goal.returns-clause-says
returns-clause-says c = plain-rec c.args.self.now.octets.now (content c.args.self.now) (content-rec c.args.self.now)
