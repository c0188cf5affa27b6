-- Laws of a job whose visits are done.
use Rattle.std.proofs.Common.{◌≡◌, ℕ, ◌<◌, ◌+◌, Bool, true, List, [], ◌++◌, Option, Some, None, is_some, length, map, sym, ap, ◌∙◌, subst, arith, append-nil, true≢false}
use Rattle.std.specs.Prelude.{IfSome, IsSome, vec_capacity}
use Rattle.ioam_batch.specs.Crossings.{Crossed, crossings, filled, sent_if, taps_of}
use Rattle.ioam_batch.specs.Jobs.{HasRun, HasTaps, Holds, IsFresh, RunsBy, RunsInTunnel, reserved_of}
use Rattle.ioam_batch.specs.Ran.{RanBy, Sent}
use Rattle.ioam_batch.specs.Taps.{is_tapped}
use Rattle.ioam_batch.specs.declared.job.Job.{Job}
use Rattle.ioam_batch.proofs.RanLaws.{starts}
use Rattle.ioam_clock.specs.declared.sample.Sample.{Sample}
use Rattle.ioam_ip.specs.Chain.{IsSound}
use Rattle.ioam_ip.specs.Packet.{IsPacket}
use Rattle.ioam_plan.specs.Inside.{EndsInside}
use Rattle.ioam_plan.specs.declared.itinerary.Itinerary.{Itinerary}
use Rattle.ioam_topo.specs.Domain.{flows, ports}
use Rattle.ioam_topo.specs.declared.domain.Domain.{Domain}
use Rattle.ioam_topo.specs.declared.ids.FlowId.{FlowId}
use Rattle.ioam_tunnel.specs.Wire.{IsTunnel, Tunnel}
use Rattle.ioam_tunnel.specs.declared.numbers.Numbers.{Numbers}

-- no visit is ahead
pub none-ahead : (crossed : Crossed) → crossed.ahead ≡ [] → crossings crossed ≡ crossed.past
none-ahead crossed none = ap (λ ts. crossed.past ++ map (λ tap. sent_if tap []) ts) none ∙ append-nil crossed.past

-- it has room for as much
pub reserved-stays : (old new : Job) → length new.packet.items ≡ length old.packet.items → new.crossings.size ≡ old.crossings.size
    → taps_of new.crossings ≡ taps_of old.crossings → new.room.spare + length new.room.notes ≡ old.room.spare + length old.room.notes
    → reserved_of new ≡ reserved_of old
reserved-stays old new sized size taps given =
    let filled_same : filled new.crossings.size (taps_of new.crossings) ≡ filled old.crossings.size (taps_of old.crossings) =
    ap (λ n. filled n (taps_of new.crossings)) size ∙ ap (λ ts. filled old.crossings.size ts) taps in
    omega (arith, sized, filled_same, given)

-- what holds of a job before its visits holds of it behind them
pub keeps-run : (domain : Domain) (old new : Job) → new.itinerary ≡ old.itinerary → length new.packet.items ≡ length old.packet.items
    → (IsSome old.itinerary.carried → IsPacket new.packet.items × IsSound new.packet.items) → Holds domain old → Holds domain new
keeps-run domain old new same sized sound holds = record {
  port = subst (λ (it : Itinerary). it.port.0 < length (ports domain)) (sym same) holds.port;
  ends = subst (λ (it : Itinerary). EndsInside domain it.end) (sym same) holds.ends;
  flow = subst (λ (it : Itinerary). IfSome it.carried (λ carried. carried.0.0 < length (flows domain))) (sym same) holds.flow;
  size = omega (arith, sized, holds.size);
  sound = λ some. sound (subst (λ (it : Itinerary). IsSome it.carried) same some);
}

by-carried : (domain : Domain) (readings : List (List Sample)) (carried : Option (FlowId × Numbers)) (old new : Job) → is_some carried ≡ true
    → RunsInTunnel domain readings old new → RunsBy domain readings carried old new
by-carried domain readings None old new some runs = absurd (true≢false (sym some))
by-carried domain readings (Some carried) old new some runs = runs

-- all visits of an enclosed packet are done, from these octets to those
pub runs-in-tunnel : (domain : Domain) (readings : List (List Sample)) (old new : Job) (exited : Bool) (before after : List ℕ) → IsFresh domain old
    → is_some old.itinerary.carried ≡ true
    → old.itinerary.exited ≡ exited
    → new.itinerary ≡ old.itinerary
    → before ≡ old.packet.items
    → new.packet.items ≡ after
    → length after ≡ length before
    → IsPacket after
    → IsSound after
    → new.crossings.ahead ≡ []
    → new.crossings.size ≡ old.crossings.size
    → new.crossings.capacities ≡ old.crossings.capacities
    → taps_of new.crossings ≡ taps_of old.crossings
    → vec_capacity new.packet ≡ vec_capacity old.packet
    → new.room.spare + length new.room.notes ≡ old.room.spare + length old.room.notes
    → new.room.capacities ≡ old.room.capacities
    → ((tunnel : Tunnel) → IsTunnel tunnel → Sent domain readings tunnel [] before old.crossings.past old.room
    → RanBy domain readings tunnel exited old.itinerary.visits after new.crossings.past new.room)
    → HasRun domain readings old new
runs-in-tunnel domain readings old new exited before after fresh some exits same from to sized packet sound ahead size capacities taps capacity given held runs = record {
  itinerary = same;
  reserved = reserved-stays old new (omega (arith, ap length from, ap length to, sized)) size taps given;
  keeps = keeps-run domain old new same (omega (arith, ap length from, ap length to, sized))
      (λ there. (subst IsPacket (sym to) packet, subst IsSound (sym to) sound));
  runs = by-carried domain readings old.itinerary.carried old new some (λ tunnel is held.
      let visits = old.itinerary.visits in
      let start : Sent domain readings tunnel [] before old.crossings.past old.room = record {
        packet_is = from ∙ starts domain readings tunnel old.packet.items held;
        ran = record { past_is = fresh.past; notes_are = fresh.notes; exports_are = fresh.exports };
      } in
      subst (λ b. RanBy domain readings tunnel b visits new.packet.items (crossings new.crossings) new.room) (sym exits)
      (subst (λ xs. RanBy domain readings tunnel exited visits xs (crossings new.crossings) new.room) (sym to)
      (subst (λ ps. RanBy domain readings tunnel exited visits after ps new.room) (sym (none-ahead new.crossings ahead)) (runs tunnel is start))));
  taps = taps;
  memory = record { packet = capacity; crossings = capacities; room = held };
}

-- before any visit they are those of all visits
pub taps-begin : (crossed : Crossed) (taps : List Bool) → crossed.past ≡ [] → crossed.ahead ≡ taps → taps_of crossed ≡ taps
taps-begin crossed taps past ahead = ap (λ ps. map is_some ps ++ crossed.ahead) past ∙ ahead

-- a job of which no visit is done keeps what its domain asks, and so does one that ran
pub taps-fresh : (domain : Domain) (job : Job) → IsFresh domain job → HasTaps domain job
taps-fresh domain job fresh = taps-begin job.crossings (map (is_tapped domain) job.itinerary.visits) fresh.past fresh.ahead

pub taps-run : (domain : Domain) (readings : List (List Sample)) (old new : Job) → HasRun domain readings old new → HasTaps domain old → HasTaps domain new
taps-run domain readings old new ran has =
    ran.taps ∙ has ∙ ap (λ (it : Itinerary). map (is_tapped domain) it.visits) (sym ran.itinerary)
