use Rattle.std.proofs.Common.{List, true, false, length, map, refl, ◌∙◌, subst, arith}
use Rattle.std.proofs.lemmas.List.{length-map, drop_all, take_all, with_items_is}
use Rattle.ioam_batch.specs.Ran.{RanBy}
use Rattle.ioam_batch.specs.Taps.{is_tapped}
use Rattle.ioam_plan.specs.declared.itinerary.Visit.{Visit}
use Rattle.ioam_batch.proofs.RunLaws.{runs-in-tunnel}
use Rattle.ioam_batch.proofs.running.do_visits.Goals as goal

pub returns-then-job : goal.returns-then-job
returns-then-job c =
    let old = c.args.job.now in
    let after = c.send_out.new.packet in
    runs-in-tunnel c.args.domain.now c.args.readings.now old _ true c.deref_mut-then-job.result.now after c.requires
    c.if-is_none.ensures c.if-job.true refl c.deref_mut-then-job.ensures.value
    (with_items_is old.packet after (omega arith)) (omega arith)
    c.send_out.ensures.packet c.send_out.ensures.sound c.send_out.ensures.ahead
    c.send_out.ensures.size c.send_out.ensures.capacities c.send_out.ensures.taps refl c.send_out.ensures.given c.send_out.ensures.memory
    (λ tunnel is so.
    let P : List Visit → Type 0 = λ vs. RanBy c.args.domain.now c.args.readings.now tunnel true vs after c.send_out.new.crossings.past c.send_out.new.room in
    subst P c.list-visits.ensures.visits (c.send_out.ensures.exited tunnel is so))

pub returns-else-job : goal.returns-else-job
returns-else-job c =
    let old = c.args.job.now in
    let after = c.send.new.packet in
    let visits = c.list-visits.result.now in
    let f = is_tapped c.args.domain.now in
    runs-in-tunnel c.args.domain.now c.args.readings.now old _ false c.deref_mut-else-job.result.now after c.requires
    c.if-is_none.ensures c.if-job.false refl c.deref_mut-else-job.ensures.value
    (with_items_is old.packet after (omega arith)) (omega arith)
    c.send.ensures.packet c.send.ensures.sound
    (c.send.ensures.ahead ∙ drop_all (length visits) (map f visits) (omega (arith, length-map visits f)))
    c.send.ensures.size c.send.ensures.capacities c.send.ensures.taps refl c.send.ensures.given c.send.ensures.memory
    (λ tunnel is so.
    let P : List Visit → Type 0 = λ vs. RanBy c.args.domain.now c.args.readings.now tunnel false vs after c.send.new.crossings.past c.send.new.room in
    subst P (take_all (length visits) visits (omega arith) ∙ c.list-visits.ensures.visits) (c.send.ensures.sent tunnel is so))
