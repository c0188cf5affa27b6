use Rattle.std.proofs.Common.{◌≡◌, ◌<◌, ◌≤◌, List, Bool, length, get_or, map, take, drop, false, sym, ap, ◌∙◌, subst, arith, drop-drop, ◌*◌, mul-le-mul_left}
use Rattle.std.proofs.lemmas.List.{length-drop, length-map, length-take-le, take_more}
use Rattle.ioam_batch.specs.Ran.{Sent}
use Rattle.ioam_batch.specs.Taps.{is_tapped}
use Rattle.ioam_ip.specs.Hop.{option_count}
use Rattle.ioam_plan.specs.declared.itinerary.Visit.{Visit}
use Rattle.ioam_batch.proofs.RanLaws.{room-left, tap-at}
use Rattle.ioam_batch.proofs.tunnel.send.Goals as goal

pub begin-requires-clause-room : goal.begin-requires-clause-room
begin-requires-clause-room c =
    let options = option_count c.args.packet.now in
    let one : options * 1 ≤ options * c.args.count = mul-le-mul_left options c.requires.some in
    omega (arith, one, c.requires.room)

pub begin-requires-clause-left : goal.begin-requires-clause-left
begin-requires-clause-left c =
    omega (arith, c.requires.some, c.requires.count, ap length c.requires.ahead, length-map c.args.visits.now (is_tapped c.args.domain.now))

pub begin-requires-clause-tap : goal.begin-requires-clause-tap
begin-requires-clause-tap c =
    let visits = c.args.visits.now in
    let inside : 0 < length visits = omega (arith, c.requires.some, c.requires.count) in
    ap (λ (ts : List Bool). get_or ts 0 false) c.requires.ahead ∙ tap-at (is_tapped c.args.domain.now) visits 0 _ inside

pub loop-i-init : goal.loop-i-init
loop-i-init c =
    let visits = c.args.visits.now in
    let inside : 0 < length visits = omega (arith, c.requires.some, c.requires.count) in (
      c.begin.ensures.packet,
      c.begin.ensures.sound,
      omega (arith, c.begin.ensures.hops),
      c.begin.ensures.count,
      omega (arith, c.begin.ensures.spare),
      c.begin.ensures.given,
      c.begin.ensures.ahead ∙ ap (drop 1) c.requires.ahead,
      c.begin.ensures.size,
      c.begin.ensures.capacities,
      c.begin.ensures.taps,
      (λ tunnel is so.
          let P : List Visit → Type 0 = λ vs. Sent c.args.domain.now c.args.readings.now tunnel vs c.begin.new.packet c.begin.new.crossings.past c.begin.new.room in
          subst P (sym (take_more visits 0 _ inside)) (c.begin.ensures.sent tunnel is so)),
      c.begin.ensures.memory,
    )

pub transit-requires-clause-visit : goal.transit-requires-clause-visit
transit-requires-clause-visit c = c.requires.visits c.loop-i.i _ (omega (arith, c.requires.count))

pub transit-requires-clause-hops : goal.transit-requires-clause-hops
transit-requires-clause-hops c = omega (arith, c.requires.hops, c.loop-i.invariant.2)

pub transit-requires-clause-room : goal.transit-requires-clause-room
transit-requires-clause-room c =
    let invariant = c.loop-i.invariant in
    omega (
      arith,
      invariant.3,
      room-left c.loop-i.i c.args.count (option_count c.args.packet.now) c.args.room.now.spare c.loop-i.room.spare (omega arith) c.requires.room invariant.4,
    )

pub transit-requires-clause-left : goal.transit-requires-clause-left
transit-requires-clause-left c =
    let visits = c.args.visits.now in
    let taps = map (is_tapped c.args.domain.now) visits in
    omega (
      arith,
      c.requires.count,
      ap length c.loop-i.invariant.6,
      length-drop c.loop-i.i taps,
      length-map visits (is_tapped c.args.domain.now),
    )

pub transit-requires-clause-tap : goal.transit-requires-clause-tap
transit-requires-clause-tap c =
    let visits = c.args.visits.now in
    let inside : c.loop-i.i < length visits = omega (arith, c.requires.count) in
    ap (λ (ts : List Bool). get_or ts 0 false) c.loop-i.invariant.6 ∙ tap-at (is_tapped c.args.domain.now) visits c.loop-i.i _ inside

pub loop-i-preserved : goal.loop-i-preserved
loop-i-preserved c =
    let visits = c.args.visits.now in
    let invariant = c.loop-i.invariant in
    let inside : c.loop-i.i < length visits = omega (arith, c.requires.count) in
    let some : 1 ≤ length (take c.loop-i.i visits) = omega (arith, inside, length-take-le c.loop-i.i visits (omega (arith, inside))) in (
      c.transit.ensures.packet,
      c.transit.ensures.sound,
      omega (arith, c.transit.ensures.hops, invariant.2),
      c.transit.ensures.count ∙ invariant.3,
      omega (arith, c.transit.ensures.spare, invariant.3, invariant.4),
      c.transit.ensures.given ∙ invariant.5,
      c.transit.ensures.ahead ∙ ap (drop 1) invariant.6 ∙ drop-drop 1 c.loop-i.i (map (is_tapped c.args.domain.now) visits),
      c.transit.ensures.size ∙ invariant.7,
      c.transit.ensures.capacities ∙ invariant.8,
      c.transit.ensures.taps ∙ invariant.9,
      (λ tunnel is so.
          let P : List Visit → Type 0 = λ vs. Sent c.args.domain.now c.args.readings.now tunnel vs c.transit.new.packet c.transit.new.crossings.past c.transit.new.room in
          subst P (sym (take_more visits c.loop-i.i _ inside)) (c.transit.ensures.sent tunnel (take c.loop-i.i visits) is some (invariant.10 tunnel is so))),
      c.transit.ensures.memory ∙ invariant.11,
    )

pub returns-clause-sent : goal.returns-clause-sent
returns-clause-sent c tunnel is so =
    let same : c.loop-i.i ≡ c.args.count = omega arith in
    subst (λ k. Sent c.args.domain.now c.args.readings.now tunnel (take k c.args.visits.now) c.loop-i.packet c.loop-i.crossings.past c.loop-i.room) same
    (c.loop-i.invariant.10 tunnel is so)
