use Rattle.std.proofs.Common.{◌≡◌, ◌∙◌, ap, sym, [], ◌∷◌, ◌++◌, ℕ, subst, refl, true, Option}
use Rattle.ioam_pcap.specs.Text.{record_octets}
use Rattle.ioam_run_texts.specs.Standing.{IsInside, lowered_at}
use Rattle.ioam_run_texts.specs.Texts.{last_time}
use Rattle.ioam_run_texts.specs.Told.{GivesInside}
use Rattle.ioam_topo.specs.declared.ids.FlowId.{FlowId}
use Rattle.ioam_batch.specs.Numbers.{Numbers}
use Rattle.std.specs.Prelude.{IsSome}
use Rattle.ioam_plan.specs.declared.itinerary.Itinerary.{Itinerary}
use Rattle.ioam_plan.specs.declared.itinerary.Visit.{Visit}
use Rattle.std.specs.Prelude.{List}
use Rattle.ioam_run_texts.proofs.LeavingLaws.{one-record, plain-by-job, plain-leaves, inside-by-job, inside-leaves}
use Rattle.ioam_run_texts.proofs.leaving.put_leaving.Goals as goal

pub returns-in_ok-put_record-in-None : goal.returns-in_ok-put_record-in-None
returns-in_ok-put_record-in-None c =
    let way = c.itinerary-itinerary.ensures in
    let time = c.last_time-time.ensures ∙ ap (λ (vs : List Visit). last_time vs) c.list.ensures.visits ∙ ap (λ (it : Itinerary). last_time it.visits) way in (
      record { time = c.last_time-time.result; octets = c.args.job.now.packet.items } ∷ [],
      one-record c.args.out.now.items c.put_record.new.out.items (record { time = c.last_time-time.result; octets = c.args.job.now.packet.items })
          (c.in_ok-put_record-in-None.ensures.octets
          ∙ ap (λ (p : List ℕ). c.args.out.now.items ++ record_octets c.last_time-time.result p) c.packet.ensures),
      (λ domain. plain-leaves domain c.args.job.now c.last_time-time.result (ap (λ (it : Itinerary). it.carried) (sym way) ∙ c.in-None.is) time),
      plain-by-job c.args.job.now c.args.job.now.itinerary.carried c.args.job.now.itinerary.exited c.last_time-time.result
          (ap (λ (it : Itinerary). it.carried) (sym way) ∙ c.in-None.is) time,
    )

pub returns-in_ok-put_inside-in-Some : goal.returns-in_ok-put_inside-in-Some
returns-in_ok-put_inside-in-Some c =
    let way = c.itinerary-itinerary.ensures in
    let time = c.last_time-time.ensures ∙ ap (λ (vs : List Visit). last_time vs) c.list.ensures.visits ∙ ap (λ (it : Itinerary). last_time it.visits) way in
    let told = c.in_ok-put_inside-in-Some.ensures in
    let some : IsSome c.itinerary-itinerary.result.now.carried = subst (λ (found : Option (FlowId × Numbers)). IsSome found) (sym c.in-Some.is) refl in (
      lowered_at c.last_time-time.result told.0,
      told.1,
      (λ domain. inside-leaves domain c.args.job.now c.last_time-time.result told.0 (subst (λ (it : Itinerary). IsSome it.carried) way some)
          (subst (λ (it : Itinerary). it.exited ≡ true) way c.if-not-itinerary.false) time
          (subst (λ (p : List ℕ). GivesInside p told.0) c.packet-in-Some.ensures told.2)),
      inside-by-job c.args.job.now c.args.job.now.itinerary.carried c.args.job.now.itinerary.exited c.last_time-time.result told.0
          (subst (λ (it : Itinerary). IsSome it.carried) way some) (subst (λ (it : Itinerary). it.exited ≡ true) way c.if-not-itinerary.false) time
          (subst (λ (p : List ℕ). IsInside p told.0) c.packet-in-Some.ensures told.3),
    )
