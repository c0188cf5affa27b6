use Rattle.std.proofs.Common.{◌≡◌, false, rules}
use Rattle.ioam_run_arrivals.specs.Forwarding.{has_room}
use Rattle.ioam_run_traffic.proofs.ProgressLaws.{broken_stops, over_stops}
use Rattle.ioam_run_traffic.proofs.RunsLaws.{waiting_full}
use Rattle.ioam_run_traffic.proofs.StepsLaws.{if_ok}
use Rattle.ioam_run_traffic.proofs.progress.Progress.take_next.Goals as goal

pub returns-then-not-has_room-clause-next : goal.returns-then-not-has_room-clause-next
returns-then-not-has_room-clause-next g c = λ opens seen before so_far taking.
    let full : has_room c.args.self.now.gathered ≡ false = search rules in
    (before, (taking, waiting_full c.args.self.now.gathered full))

pub show-requires : goal.show-requires
show-requires g c = let (opens, seen, before, so_far, taking) = c.requires.taking in (_, seen.fed, seen.ended, before, taking.0)

pub returns-in-Ok-Some-clause-next : goal.returns-in-Ok-Some-clause-next
returns-in-Ok-Some-clause-next g c = λ opens seen before so_far taking.
    let shows = rw c.in-Ok-Some.field-0-is at c.in-Ok-Some.ensures.shows in
    (before, (shows _ seen.fed seen.ended before taking.0, taking.1))

pub pass-requires-clause-coming : goal.pass-requires-clause-coming
pass-requires-clause-coming g c =
    let (opens, seen, before, so_far, taking) = c.requires.taking in
    let shows = rw c.in-Ok-None.field-0-is at c.in-Ok-None.ensures.shows in
    let (now, known) = shows _ seen.fed seen.ended before taking.0 in
    (_, seen.fed, seen.ended, before, _, rw c.in-Next.is at c.turn.ensures _ seen.fed seen.ended before now known)

pub pass-requires-clause-of : goal.pass-requires-clause-of
pass-requires-clause-of g c = let (opens, seen, before, so_far, taking) = c.requires.taking in taking.1.forwards.of

pub pass-requires-clause-below : goal.pass-requires-clause-below
pass-requires-clause-below g c =
    let (opens, seen, before, so_far, taking) = c.requires.taking in
    let shows = rw c.in-Ok-None.field-0-is at c.in-Ok-None.ensures.shows in
    let (now, known) = shows _ seen.fed seen.ended before taking.0 in
    let comes = rw c.in-Next.is at c.turn.ensures _ seen.fed seen.ended before now known in
    comes.inside

pub unreachable-requires : goal.unreachable-requires
unreachable-requires g c =
    let (opens, seen, before, so_far, taking) = c.requires.taking in
    let shows = rw c.in-Ok-None.field-0-is at c.in-Ok-None.ensures.shows in
    let (now, known) = shows _ seen.fed seen.ended before taking.0 in
    rw c.in-Unshown.is at c.turn.ensures _ seen.fed seen.ended before now known

pub returns-in-Next-clause-next : goal.returns-in-Next-clause-next
returns-in-Next-clause-next g c = if_ok _ _ c.pass.result c.pass.ensures.next (λ next more opens seen before so_far taking.
    let shows = rw c.in-Ok-None.field-0-is at c.in-Ok-None.ensures.shows in
    let (now, known) = shows _ seen.fed seen.ended before taking.0 in
    more opens seen before so_far _ (rw c.in-Next.is at c.turn.ensures _ seen.fed seen.ended before now known) taking.1)

pub returns-in-Over-clause-next : goal.returns-in-Over-clause-next
returns-in-Over-clause-next g c = λ opens seen before so_far taking.
    let shows = rw c.in-Ok-None.field-0-is at c.in-Ok-None.ensures.shows in
    let (now, known) = shows _ seen.fed seen.ended before taking.0 in
    (before, over_stops opens c.args.terms.now seen before so_far _ now taking.1 (rw c.in-Over.is at c.turn.ensures _ seen.fed seen.ended before now known))

pub returns-in-Broken-clause-next : goal.returns-in-Broken-clause-next
returns-in-Broken-clause-next g c = λ opens seen before so_far taking.
    let shows = rw c.in-Ok-None.field-0-is at c.in-Ok-None.ensures.shows in
    let (now, known) = shows _ seen.fed seen.ended before taking.0 in
    (before, broken_stops opens c.args.terms.now seen before so_far _ now taking.1 c.in-Broken.place c.in-Broken.at c.in-Broken.fault (rw c.in-Broken.is at c.turn.ensures _ seen.fed seen.ended before now known))
