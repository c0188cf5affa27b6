use Rattle.std.proofs.Common.{◌≡◌, ◌∙◌, Bool, List, [], ◌∷◌, ◌++◌, length, length-append, sym, ap, subst, arith}
use Rattle.std.specs.Prelude.{All}
use Rattle.std.proofs.lemmas.List.Elements.{All-push}
use Rattle.ioam_plan.specs.Journey.{Reaches}
use Rattle.ioam_plan.specs.Rides.{IsVisitIn}
use Rattle.ioam_plan.specs.Steps.{LedTo, HasRidden}
use Rattle.ioam_plan.specs.declared.itinerary.Visit.{Visit}
use Rattle.ioam_plan.proofs.JourneyLaws.{Reaches-push}
use Rattle.ioam_plan.proofs.StageLaws.{led_push, passes_before, ridden}
use Rattle.ioam_plan.proofs.planning.travel.Goals as goal

pub returns-in-Ends-clause-ridden : goal.returns-in-Ends-clause-ridden
returns-in-Ends-clause-ridden c =
    let out = c.of.ensures.exited ∙ c.in-Ends.ensures.facts.1 in
    let P : Bool → Type 0 = λ exited. HasRidden c.args.trip.now.size c.args.trip.now.inside exited c.visits.visits.items in
    let Q : List Visit → Type 0 = λ visits. HasRidden c.args.trip.now.size c.args.trip.now.inside c.of.result.exited visits in
    subst Q (sym c.of.ensures.visits)
    (subst P (sym out) (ridden c.args.trip.now.size c.args.trip.now.inside c.visits.visits.items c.visits.stage c.visits.invariant.led))

pub visits-preserved : goal.visits-preserved
visits-preserved c =
    let facts = c.in-Goes.ensures.facts in
    let pushed : c.put.new.visits.items ≡ c.visits.visits.items ++ c.in-Goes.visit ∷ [] = c.in_ok-put-in-Goes.ensures in
    let P : List Visit → Type 0 = λ visits. Reaches c.args.domain.now c.args.trip.now c.args.start visits c.in-Goes.next in
    let Q : List Visit → Type 0 = λ visits. LedTo c.args.trip.now.size c.args.trip.now.inside c.in-Goes.next visits in
    record {
      reaches = subst P (sym pushed) (Reaches-push c.args.domain.now c.args.trip.now c.args.start c.visits.visits.items c.visits.stage
          c.in-Goes.visit c.in-Goes.next c.visits.invariant.reaches (sym c.in-Goes.ensures.step));
      here = facts.1;
      led = subst Q (sym pushed) (led_push c.args.trip.now.size c.args.trip.now.inside c.visits.visits.items c.in-Goes.visit c.visits.stage
          c.in-Goes.next facts.2 c.visits.invariant.led);
      few = omega (
        arith,
        ap length pushed,
        length-append c.visits.visits.items (c.in-Goes.visit ∷ []),
        c.visits.invariant.few,
        facts.3,
        passes_before c.args.trip.now.size c.args.trip.now.inside c.in-Goes.visit c.visits.stage c.in-Goes.next facts.2,
      );
      inside = subst (All (IsVisitIn c.args.domain.now)) (sym pushed)
          (All-push (IsVisitIn c.args.domain.now) c.visits.visits.items c.in-Goes.visit c.visits.invariant.inside facts.0);
    }
