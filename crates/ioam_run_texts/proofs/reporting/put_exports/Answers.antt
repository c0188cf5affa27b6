use Rattle.std.proofs.Common.{refl, ap, ◌∙◌, ◌++◌, List, ℕ, get_or}
use Rattle.ioam_node_visit.specs.Room.{Room}
use Rattle.ioam_run_texts.proofs.AddsLaws.{exports-told}
use Rattle.ioam_run_texts.proofs.reporting.put_exports.Goals as goal

pub returns : goal.returns
returns c = exports-told c.args.domain.now c.args.outputs.now _ _ c.args.job.now.room.exports c.place_of_exports-at.result
    (c.place_of_exports-at.ensures.place c.args.domain.now c.requires.width) c.requires.width refl
    (c.in_ok-append.ensures ∙ ap (λ (t : List ℕ). (get_or c.args.outputs.now c.place_of_exports-at.result c.index-outputs-at.result).gathered.items ++ t)
    (c.exports.ensures ∙ ap (λ (room : Room). room.exports) c.room.ensures))
