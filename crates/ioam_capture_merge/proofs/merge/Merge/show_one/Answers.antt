use Rattle.std.proofs.Common.{◌≡◌, ◌<◌, ◌∙◌, Some, refl, ap, arith, length}
use Rattle.std.specs.Prelude.{slice_get}
use Rattle.std.proofs.lemmas.Option.{slice_get_read}
use Rattle.ioam_capture.specs.declared.turns.Due.TheVariants.{More}
use Rattle.ioam_capture_merge.specs.declared.capture.Capture.{Capture}
use Rattle.ioam_capture_merge.proofs.MergeLaws.{room_kept, shows_known, shows_short}
use Rattle.ioam_capture_merge.proofs.merge.Merge.show_one.Goals as goal

pub returns-in_err-due-clause-room : goal.returns-in_err-due-clause-room
returns-in_err-due-clause-room c =
    let items = c.args.self.now.captures.items in
    let before = c.index_mut-capture.result.now in
    let inside : c.args.place < length items = omega (arith, c.requires.inside, c.args.self.now.captures.ok.0) in
    room_kept items c.args.place before (record { reader = c.due.new.self; ended = before.ended })
    (slice_get_read items (length items) c.args.place before refl inside c.index_mut-capture.ensures.value) c.due.ensures.fed refl

pub returns-in-More-2-clause-room : goal.returns-in-More-2-clause-room
returns-in-More-2-clause-room c =
    let items = c.args.self.now.captures.items in
    let before = c.index_mut-capture.result.now in
    let inside : c.args.place < length items = omega (arith, c.requires.inside, c.args.self.now.captures.ok.0) in
    room_kept items c.args.place before (record { reader = c.due.new.self; ended = before.ended })
    (slice_get_read items (length items) c.args.place before refl inside c.index_mut-capture.ensures.value) c.due.ensures.fed refl

pub returns-in-More-2-clause-shown : goal.returns-in-More-2-clause-shown
returns-in-More-2-clause-shown c = λ n fed ended taken merging known.
    let items = c.args.self.now.captures.items in
    let dues = c.args.self.now.dues.items in
    let before = c.index_mut-capture.result.now in
    let after : Capture = record { reader = c.due.new.self; ended = before.ended } in
    let inside : c.args.place < length items = omega (arith, c.requires.inside, c.args.self.now.captures.ok.0) in
    let inside_dues : c.args.place < length dues = omega (arith, inside, merging.captures, merging.dues) in
    let there : slice_get items c.args.place ≡ Some before = slice_get_read items (length items) c.args.place before refl inside c.index_mut-capture.ensures.value in
    let again : slice_get dues c.args.place ≡ Some More =
    slice_get_read dues (length dues) c.args.place c.index.result.now refl inside_dues c.index.ensures ∙ ap Some c.in-More.is in
    shows_short n fed ended taken c.args.self.now merging c.args.place before after there c.due.ensures.stands refl c.in_ok-due.due c.in_ok-due.ensures.due
    _ c.in-More-2.is (c.in_ok-due.ensures.few c.in-More-2.is) again refl refl

pub returns-in_default-2 : goal.returns-in_default-2
returns-in_default-2 c =
    let items = c.args.self.now.captures.items in
    let before = c.index_mut-capture.result.now in
    let after : Capture = record { reader = c.due.new.self; ended = before.ended } in
    let inside : c.args.place < length items = omega (arith, c.requires.inside, c.args.self.now.captures.ok.0) in
    let there : slice_get items c.args.place ≡ Some before = slice_get_read items (length items) c.args.place before refl inside c.index_mut-capture.ensures.value in
    record {
      shown = λ n fed ended taken merging known.
          shows_known n fed ended taken c.args.self.now merging c.args.place before after there c.due.ensures.stands refl c.in_ok-due.due c.in_ok-due.ensures.due
          _ known c.in_default-2.not-More refl refl;
      count = refl;
      room = room_kept items c.args.place before after there c.due.ensures.fed refl;
    }
