use Rattle.std.proofs.Common.{◌≡◌, ◌<◌, ◌^◌, ◌∷◌, ◌++◌, ◌∙◌, [], List, All, length, length-append, refl, sym, ap, subst, arith}
use Rattle.std.specs.Prelude.{IfSome}
use Rattle.ioam_batch.specs.declared.job.Job.{Job}
use Rattle.ioam_plan.specs.declared.itinerary.Itinerary.{Itinerary}
use Rattle.ioam_plan.specs.declared.itinerary.Visit.{Visit}
use Rattle.ioam_report.specs.Sums.{IsEndBelow, StandFor}
use Rattle.ioam_run_arrivals.proofs.ForwardsLaws.{Forwards-push, IsOf-push, counters-few, visits-counted, end-counted, flow-counted}
use Rattle.ioam_run_arrivals.proofs.AddingLaws.{last-same}
use Rattle.ioam_run_arrivals.proofs.forwarding.Forwarding.take.Goals as goal

pub add_job-requires-clause-few : goal.add_job-requires-clause-few
add_job-requires-clause-few c = counters-few c.args.domain.now c.args.self.now.counters c.requires.of.ways (2 ^ 32) c.requires.of.counted
    (omega (arith, c.requires.few, c.requires.of.stands.packets))

pub last-requires : goal.last-requires
last-requires c =
    let added = c.in_ok-add_job.ensures.added in
    omega (arith, ap length added.2, length-append c.args.self.now.batch.jobs (added.0 ∷ []))

pub note-requires-clause-visits : goal.note-requires-clause-visits
note-requires-clause-visits c =
    let count = length c.args.self.now.sums.nodes in
    let added = c.in_ok-add_job.ensures.added in
    let last = c.last.ensures in
    let same : c.last.result.now ≡ added.0 = last-same last.0 c.args.self.now.batch.jobs c.last.result.now added.0 (sym last.1 ∙ added.2) in
    subst (λ (it : Itinerary). All (λ (visit : Visit). visit.place.node.0 < count) it.visits) (sym (c.itinerary.ensures ∙ ap (λ (job : Job). job.itinerary) same))
    (visits-counted c.args.domain.now count _ c.requires.of.stands.count added.1.fresh.visits)

pub note-requires-clause-ends : goal.note-requires-clause-ends
note-requires-clause-ends c =
    let count = length c.args.self.now.sums.nodes in
    let added = c.in_ok-add_job.ensures.added in
    let last = c.last.ensures in
    let same : c.last.result.now ≡ added.0 = last-same last.0 c.args.self.now.batch.jobs c.last.result.now added.0 (sym last.1 ∙ added.2) in
    subst (λ (it : Itinerary). IsEndBelow count it.end) (sym (c.itinerary.ensures ∙ ap (λ (job : Job). job.itinerary) same))
    (end-counted c.args.domain.now count _ c.requires.of.stands.count added.1.holds.ends)

pub note-requires-clause-flow : goal.note-requires-clause-flow
note-requires-clause-flow c =
    let count = length c.args.self.now.sums.flows in
    let added = c.in_ok-add_job.ensures.added in
    let last = c.last.ensures in
    let same : c.last.result.now ≡ added.0 = last-same last.0 c.args.self.now.batch.jobs c.last.result.now added.0 (sym last.1 ∙ added.2) in
    subst (λ (it : Itinerary). IfSome it.carried (λ carried. carried.0.0 < count)) (sym (c.itinerary.ensures ∙ ap (λ (job : Job). job.itinerary) same))
    (flow-counted c.args.domain.now count _ c.requires.of.stands.flow_count added.1.holds.flow)

pub returns-clause-of : goal.returns-clause-of
returns-clause-of c =
    let added = c.in_ok-add_job.ensures.added in
    let last = c.last.ensures in
    let same : c.last.result.now ≡ added.0 = last-same last.0 c.args.self.now.batch.jobs c.last.result.now added.0 (sym last.1 ∙ added.2) in
    let sums = subst (λ (it : Itinerary). (arrivals : List Itinerary) → StandFor c.args.domain.now c.args.self.now.sums arrivals
    → StandFor c.args.domain.now c.note.new.self (arrivals ++ it ∷ [])) (c.itinerary.ensures ∙ ap (λ (job : Job). job.itinerary) same) (c.note.ensures.stands c.args.domain.now) in
    IsOf-push c.args.domain.now c.args.self.now _ added.0 added.2 refl added.1.counted sums
    refl added.1.fresh added.1.holds c.requires.of

pub returns-clause-gathers : goal.returns-clause-gathers
returns-clause-gathers c = λ opens frames so_far.
    let added = c.in_ok-add_job.ensures.added in
    let last = c.last.ensures in
    let same : c.last.result.now ≡ added.0 = last-same last.0 c.args.self.now.batch.jobs c.last.result.now added.0 (sym last.1 ∙ added.2) in
    let sums = subst (λ (it : Itinerary). (arrivals : List Itinerary) → StandFor c.args.domain.now c.args.self.now.sums arrivals
    → StandFor c.args.domain.now c.note.new.self (arrivals ++ it ∷ [])) (c.itinerary.ensures ∙ ap (λ (job : Job). job.itinerary) same) (c.note.ensures.stands c.args.domain.now) in
    let of = IsOf-push c.args.domain.now c.args.self.now _ added.0 added.2 refl added.1.counted sums
    refl added.1.fresh added.1.holds c.requires.of in
    Forwards-push c.args.domain.now c.args.self.now _ added.0 added.2 refl added.1.counted sums
    c.args.readings.now _ added.1.arrived of opens frames so_far
