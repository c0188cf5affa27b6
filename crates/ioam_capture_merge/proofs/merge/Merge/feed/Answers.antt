use Rattle.std.proofs.Common.{◌≡◌, ◌<◌, Some, refl, arith, length}
use Rattle.std.specs.Prelude.{slice_get}
use Rattle.std.proofs.lemmas.Option.{slice_get_read}
use Rattle.ioam_base.proofs.ResultLaws.{OnOk-map}
use Rattle.ioam_capture_merge.specs.declared.capture.Capture.{Capture}
use Rattle.ioam_capture_merge.proofs.MergeLaws.{fits, piece_on, room_fed}
use Rattle.ioam_capture_merge.proofs.merge.Merge.feed.Goals as goal

pub feed-requires : goal.feed-requires
feed-requires c =
    let items = c.args.self.now.captures.items in
    let before = c.index_mut.result.now in
    let (n, fed, ended, taken, short, many) = c.requires.short in
    let inside : c.args.place < length items = omega (arith, short.inside, short.merging.captures) in
    omega (arith, c.requires.few, fits n fed ended taken c.args.self.now c.args.place short many before (slice_get_read items (length items) c.args.place before refl inside c.index_mut.ensures.value))

pub returns-clause-fed : goal.returns-clause-fed
returns-clause-fed c = OnOk-map c.feed.result _ _ c.feed.ensures.stands (λ stands n fed ended after_fed after_ended taken is merging unended.
    let items = c.args.self.now.captures.items in
    let before = c.index_mut.result.now in
    let after : Capture = record { reader = c.feed.new.self; ended = before.ended } in
    let (n_short, fed_short, ended_short, taken_short, short, many) = c.requires.short in
    let inside : c.args.place < length items = omega (arith, short.inside, short.merging.captures) in
    piece_on n fed after_fed ended after_ended taken c.args.self.now merging c.args.place before after _
    (slice_get_read items (length items) c.args.place before refl inside c.index_mut.ensures.value) short.asked unended refl refl
    c.args.piece.now is stands refl)

pub returns-clause-room : goal.returns-clause-room
returns-clause-room c = OnOk-map c.feed.result _ _ c.feed.ensures.ok (λ feeds.
    let items = c.args.self.now.captures.items in
    let before = c.index_mut.result.now in
    let after : Capture = record { reader = c.feed.new.self; ended = before.ended } in
    let (n, fed, ended, taken, short, many) = c.requires.short in
    let inside : c.args.place < length items = omega (arith, short.inside, short.merging.captures) in
    let there : slice_get items c.args.place ≡ Some before = slice_get_read items (length items) c.args.place before refl inside c.index_mut.ensures.value in
    room_fed items c.args.place before after c.args.piece.now there feeds refl c.requires.some
    (omega (arith, c.requires.few, fits n fed ended taken c.args.self.now c.args.place short many before there)))
