use Rattle.std.proofs.Common.{◌+◌, ◌≤◌, length}
use Rattle.std.specs.Prelude.{All}
use Rattle.ioam_plan.specs.Journey.{Reaches}
use Rattle.ioam_plan.specs.Rides.{IsVisitIn}
use Rattle.ioam_plan.specs.Steps.{IsHere, LedTo, left, extra, fuel}
use Rattle.ioam_plan.proofs.planning.travel.Given as goal

-- the visits so far lead to the stage
abbrev pub invariant-visits : goal.invariant-visits
invariant-visits l = record {
  reaches : Reaches l.fn.domain l.fn.trip l.fn.start l.visits.items l.stage;
  here : IsHere l.fn.domain l.stage;
  led : LedTo l.fn.trip.size l.fn.trip.inside l.stage l.visits.items;
  few : length l.visits.items + left l.stage ≤ left l.fn.start + extra l.stage;
  inside : All (IsVisitIn l.fn.domain) l.visits.items;
}

abbrev pub decreases-visits : goal.decreases-visits
decreases-visits l = fuel l.stage
