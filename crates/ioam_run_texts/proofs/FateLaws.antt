-- How an arrival's packet goes, step by step.
use Rattle.std.proofs.Common.{List}
use Rattle.ioam_batch.specs.Sample.{Sample}
use Rattle.ioam_plan.specs.Plans.{Plans}
use Rattle.ioam_plan.specs.declared.itinerary.Itinerary.{Itinerary}
use Rattle.ioam_plan.proofs.TravelsLaws.{Travels-plans}
use Rattle.ioam_topo.specs.declared.domain.Domain.{Domain}
use Rattle.ioam_run_texts.specs.Fate.{Frame, Fate, HasFate}

pub plans_of : (domain : Domain) (readings : List (List Sample)) (earlier : List Itinerary) (frame : Frame) (fate : Fate)
    (has : HasFate domain readings earlier frame fate) → Plans domain readings earlier frame.port frame.entry.time has.answer fate.itinerary
plans_of domain readings earlier frame fate has =
    Travels-plans domain readings earlier frame.port frame.entry.time has.answer fate.itinerary has.travels
