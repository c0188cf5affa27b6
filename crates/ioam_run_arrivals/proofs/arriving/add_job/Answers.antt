use Rattle.std.proofs.Common.{Bool, ◌∷◌, ◌++◌, ◌∙◌, [], List, ℕ, slice_get, ap, subst, sym}
use Rattle.std.specs.Prelude.{IsSomeAnd}
use Rattle.ioam_batch.specs.declared.job.Job.{Job}
use Rattle.ioam_run_texts.specs.Framing.{framing_of}
use Rattle.ioam_node.specs.Admission.{Admits}
use Rattle.ioam_plan.specs.Counted.{CountFor}
use Rattle.ioam_plan.specs.Rides.{Rides}
use Rattle.ioam_plan.specs.declared.itinerary.Itinerary.{Itinerary}
use Rattle.ioam_topo.specs.Domain.{ports}
use Rattle.ioam_run_arrivals.proofs.arriving.add_job.Goals as goal

pub returns-clause-added : goal.returns-clause-added
returns-clause-added c =
    let P : Bool → Type 0 = λ cut. IsSomeAnd (slice_get (ports c.args.domain.now) c.args.arrival.now.port.0)
    (λ at. Admits c.args.domain.now at.node.0 (framing_of c.args.arrival.now.layer cut c.args.arrival.now.captured.octets.now) c.admit_in_layer-admitted.result) in
    let it = c.in_ok-itinerary.itinerary in
    let made = c.in_ok-make.ensures.made in (
      made.0,
      record {
        fresh = made.1.of.fresh;
        holds = made.1.holds;
        counted = λ earlier counts. subst (λ (way : Itinerary). CountFor c.args.domain.now c.plan_in.new.counters (earlier ++ way ∷ []))
            (sym made.1.of.itinerary_is) (c.in_ok-itinerary.ensures.counted earlier counts);
        arrived = λ earlier counts. record {
          fate = record { packet = c.packet_of.result.now; itinerary = it };
          has = record {
            answer = c.admit_in_layer-admitted.result;
            answered = subst P c.is_cut.ensures c.admit_in_layer-admitted.ensures.admits;
            travels = c.in_ok-itinerary.ensures.travels earlier counts;
            packet = c.packet_of.ensures;
            short = c.requires.short;
          };
          waits = record {
            rides = subst (λ (packet : List ℕ). Rides c.args.domain.now packet it) (sym c.packet_of.ensures) c.in_ok-itinerary.ensures.rides;
            of = made.1.of;
          };
        };
      },
      made.2 ∙ ap (λ (jobs : List Job). jobs ++ made.0 ∷ []) c.spare_visits.ensures,
    )
