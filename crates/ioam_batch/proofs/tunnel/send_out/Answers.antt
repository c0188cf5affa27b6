use Rattle.std.proofs.Common.{◌≡◌, ◌+◌, ◌-◌, ◌*◌, ◌<◌, ◌≤◌, None, List, [], ◌∷◌, false, get_or, length, drop, map, take, sym, ap, ◌∙◌, arith, length-append, mul-le-mul_left}
use Rattle.std.proofs.Math.Seq.{get_or-append_seam}
use Rattle.std.proofs.lemmas.List.{drop_all, length-drop, length-map, length-take-le, take_all, take_more}
use Rattle.ioam_batch.specs.Taps.{is_tapped}
use Rattle.ioam_batch.proofs.RanLaws.{room-left, tap-at}
use Rattle.ioam_batch.proofs.tunnel.send_out.Goals as goal
use Rattle.ioam_ip.specs.Hop.{option_count}
use Rattle.ioam_plan.specs.Rides.{SendsToExit}
use Rattle.ioam_plan.specs.declared.itinerary.Visit.{Visit}

-- the packet is sent on at one visit at least, before that of its exit
at-least-two : (visits : List Visit) → SendsToExit visits → 1 < length visits
at-least-two visits sends = omega (arith, sends.some, ap length sends.are, length-append sends.front (sends.last ∷ []))

-- at which it stays
stays-at : (visits : List Visit) (d : Visit) → SendsToExit visits → (get_or visits (length visits - 1) d).way ≡ None
stays-at visits d sends =
    let behind : length visits - 1 ≡ length sends.front = omega (arith, ap length sends.are, length-append sends.front (sends.last ∷ [])) in
    ap (λ i. (get_or visits i d).way) behind
    ∙ ap (λ vs. (get_or vs (length sends.front) d).way) sends.are
    ∙ ap (λ (v : Visit). v.way) (get_or-append_seam sends.front sends.last [] d)
    ∙ sends.stays

pub send-requires-clause-some : goal.send-requires-clause-some
send-requires-clause-some c = omega (arith, at-least-two c.args.visits.now c.requires.sends)

pub send-requires-clause-room : goal.send-requires-clause-room
send-requires-clause-room c =
    let options = option_count c.args.packet.now in
    let visits = c.args.visits.now in
    let fewer : options * (length visits - 1) ≤ options * length visits = mul-le-mul_left options (omega arith) in
    omega (arith, fewer, c.requires.room)

pub exit-requires-clause-visit : goal.exit-requires-clause-visit
exit-requires-clause-visit c =
    let visits = c.args.visits.now in
    c.requires.visits (length visits - 1) _ (omega (arith, at-least-two visits c.requires.sends))

pub exit-requires-clause-stays : goal.exit-requires-clause-stays
exit-requires-clause-stays c = stays-at c.args.visits.now _ c.requires.sends

pub exit-requires-clause-room : goal.exit-requires-clause-room
exit-requires-clause-room c =
    let count = length c.args.visits.now in
    let inside : count - 1 < count = omega (arith, at-least-two c.args.visits.now c.requires.sends) in
    omega (
      arith,
      c.send.ensures.count,
      room-left (count - 1) count (option_count c.args.packet.now) c.args.room.now.spare c.send.new.room.spare inside c.requires.room c.send.ensures.spare,
    )

pub exit-requires-clause-left : goal.exit-requires-clause-left
exit-requires-clause-left c =
    let visits = c.args.visits.now in
    let taps = map (is_tapped c.args.domain.now) visits in
    omega (
      arith,
      at-least-two visits c.requires.sends,
      ap length c.send.ensures.ahead,
      length-drop (length visits - 1) taps,
      length-map visits (is_tapped c.args.domain.now),
    )

pub exit-requires-clause-tap : goal.exit-requires-clause-tap
exit-requires-clause-tap c =
    let visits = c.args.visits.now in
    let inside : length visits - 1 < length visits = omega (arith, at-least-two visits c.requires.sends) in
    ap (λ ts. get_or ts 0 false) c.send.ensures.ahead ∙ tap-at (is_tapped c.args.domain.now) visits (length visits - 1) _ inside

pub returns-clause-exited : goal.returns-clause-exited
returns-clause-exited c tunnel is so =
    let visits = c.args.visits.now in
    let before = length visits - 1 in
    let two = at-least-two visits c.requires.sends in
    let inside : before < length visits = omega (arith, two) in
    let some : 1 ≤ length (take before visits) = omega (arith, two, length-take-le before visits (omega (arith, two))) in
    record {
      front = take before visits;
      last = _;
      are = sym (take_all (before + 1) visits (omega (arith, two))) ∙ take_more visits before _ inside;
      closed = c.exit.ensures.closed tunnel (take before visits) is some (c.send.ensures.sent tunnel is so);
    }

pub returns-clause-ahead : goal.returns-clause-ahead
returns-clause-ahead c =
    let visits = c.args.visits.now in
    let f = is_tapped c.args.domain.now in
    let before = length visits - 1 in
    c.exit.ensures.ahead
    ∙ ap (λ taps. drop 1 taps) c.send.ensures.ahead
    ∙ drop_all 1 (drop before (map f visits)) (omega (arith, length-drop before (map f visits), length-map visits f))
