use Rattle.std.proofs.Common.{◌≡◌, ◌<◌, ◌∙◌, Some, true, refl, sym, arith, length}
use Rattle.std.specs.Prelude.{slice_get}
use Rattle.std.proofs.lemmas.Option.{slice_get_read}
use Rattle.ioam_capture_merge.specs.declared.capture.Capture.{Capture}
use Rattle.ioam_capture_merge.proofs.MergeLaws.{end_on, room_end}
use Rattle.ioam_capture_merge.proofs.merge.Merge.end.Goals as goal

pub returns-clause-ended : goal.returns-clause-ended
returns-clause-ended c = λ n fed ended after_fed after_ended taken is merging unended.
    let items = c.args.self.now.captures.items in
    let before = c.index_mut.result.now in
    let after : Capture = record { reader = before.reader; ended = true } in
    let (n_short, fed_short, ended_short, taken_short, short, many) = c.requires in
    let inside : c.args.place < length items = omega (arith, short.inside, short.merging.captures) in
    end_on n fed after_fed ended after_ended taken c.args.self.now merging c.args.place before after _
    (slice_get_read items (length items) c.args.place before refl inside c.index_mut.ensures.value) short.asked unended refl refl is refl refl

pub returns-clause-room : goal.returns-clause-room
returns-clause-room c =
    let items = c.args.self.now.captures.items in
    let before = c.index_mut.result.now in
    let after : Capture = record { reader = before.reader; ended = true } in
    let (n_short, fed_short, ended_short, taken_short, short, many) = c.requires in
    let inside : c.args.place < length items = omega (arith, short.inside, short.merging.captures) in
    let there : slice_get items c.args.place ≡ Some before = slice_get_read items (length items) c.args.place before refl inside c.index_mut.ensures.value in
    room_end items c.args.place before after there refl (sym (short.merging.lanes c.args.place before there).same_end ∙ short.unended) refl
