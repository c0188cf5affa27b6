use Rattle.std.proofs.Common.{cond, None, option_map, option_and_then, refl, sym, ap, ◌∙◌}
use Rattle.ioam_clock.specs.Reading.{samples_of}
use Rattle.ioam_clock.specs.Samples.{elapsed, sample_at}
use Rattle.ioam_clock.specs.Stamp.{stamp}
use Rattle.ioam_topo.specs.Domain.{node_data}
use Rattle.ioam_topo.specs.Finding.{data_at}
use Rattle.ioam_node_visit.specs.Seeing.{id_of, snapshot_in, view_of}
use Rattle.ioam_node_visit.proofs.AlikeLaws.{alike}
use Rattle.ioam_node_visit.proofs.visit.NodeVisit.view.Goals as goal

pub returns : goal.returns
unfolding view_of
returns c =
    let v = c.args.self.now in
    let sample = sample_at (samples_of v.readings.now v.place.node.0) v.time in
    let row = data_at (node_data v.domain.now) v.place.node.0 c.args.namespace.0 in
    alike c.args.kind _ _
    (record { hops = refl; id = sym (ap id_of c.node.ensures.value); inward = refl; outward = refl })
    (λ asks.
    let is = c.sample_for-sample.ensures.value ∙ ap (λ b. cond b sample None) asks in
    record {
      stamp = c.stamp_in.ensures ∙ (λ i. option_map (stamp (c.format.ensures i)) (option_map (elapsed v.time) (is i)));
      delay = c.delay_in.ensures ∙ ap (λ s. option_and_then (λ held. held.delay) s) is;
      queue = c.queue_in.ensures ∙ ap (λ s. option_and_then (λ held. held.queue) s) is;
      buffer = c.buffer_in.ensures ∙ ap (λ s. option_and_then (λ held. held.buffer) s) is;
    })
    (λ asks.
    let is = c.data_for-row.ensures.value ∙ ap (λ b. cond b row None) asks in
    record {
      short = c.short_in.ensures ∙ ap (λ r. option_and_then (λ held. held.short) r) is;
      wide = c.wide_in.ensures ∙ ap (λ r. option_and_then (λ held. held.wide) r) is;
      snapshot = c.snapshot_of.ensures.value ∙ ap snapshot_in is;
    })
