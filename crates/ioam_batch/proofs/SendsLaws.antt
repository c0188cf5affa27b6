-- What the visits of a job sent on links with a tap.
use Rattle.std.proofs.Common.{◌≡◌, ℕ, zero, suc, ◌+◌, Bool, true, false, List, [], ◌∷◌, ◌++◌, Option, Some, None, length, map, slice_get, take, sym, ap, ◌∙◌, subst, arith, append_assoc}
use Rattle.ioam_batch.specs.Along.{along}
use Rattle.ioam_batch.specs.Crossings.{crossings, joined, sent_if}
use Rattle.ioam_batch.specs.Jobs.{HasRun, HoldsBy, IsJobOf, RunsBy}
use Rattle.ioam_batch.specs.Ran.{RanBy, crossed_at, lowered_from, wired}
use Rattle.ioam_batch.specs.Sends.{packet_after}
use Rattle.ioam_batch.specs.Taps.{is_tapped}
use Rattle.ioam_batch.specs.declared.job.Job.{Job}
use Rattle.ioam_clock.specs.declared.sample.Sample.{Sample}
use Rattle.ioam_ip.specs.Lowered.{lowered}
use Rattle.ioam_plan.specs.declared.itinerary.Itinerary.{Itinerary}
use Rattle.ioam_plan.specs.declared.itinerary.Visit.{Visit}
use Rattle.ioam_topo.specs.declared.domain.Domain.{Domain}
use Rattle.ioam_topo.specs.declared.ids.FlowId.{FlowId}
use Rattle.ioam_tunnel.specs.Enclosed.{tunnel_of}
use Rattle.ioam_tunnel.specs.Wire.{Tunnel}
use Rattle.ioam_tunnel.specs.declared.numbers.Numbers.{Numbers}
use Rattle.ioam_node_visit.specs.Room.{Room}

-- ---- a packet that isn't enclosed

found_some : (first visit : Visit) → Some first ≡ Some visit → first ≡ visit
found_some first visit same = cc

none_there : (visit : Visit) → None ≡ Some visit → ⊥
none_there visit none = cc

take-one : (first : Visit) (visits : List Visit) (i : ℕ) → take (suc i + 1) (first ∷ visits) ≡ first ∷ take (i + 1) visits
take-one first visits i =
    let more : suc i + 1 ≡ suc (i + 1) = omega arith in
    ap (λ n. take n (first ∷ visits)) more

-- what a visit sent, behind so many
lowered-at : (domain : Domain) (packet : List ℕ) (count : ℕ) (visits : List Visit) (i : ℕ) (visit : Visit) → slice_get visits i ≡ Some visit
    → slice_get (lowered_from packet count (map (is_tapped domain) visits)) i
    ≡ Some (sent_if (is_tapped domain visit) (lowered (count + length (take (i + 1) visits)) packet))
lowered-at domain packet count [] i visit found = absurd (none_there visit found)
lowered-at domain packet count (first ∷ visits) zero visit found =
    ap (λ (v : Visit). Some (sent_if (is_tapped domain v) (lowered (count + 1) packet))) (found_some first visit found)
lowered-at domain packet count (first ∷ visits) (suc i) visit found =
    let more : count + 1 + length (take (i + 1) visits) ≡ count + length (take (suc i + 1) (first ∷ visits)) =
    omega (arith, ap length (take-one first visits i)) in
    lowered-at domain packet (count + 1) visits i visit found
    ∙ ap (λ n. Some (sent_if (is_tapped domain visit) (lowered n packet))) more

-- ---- an enclosed packet

module _ (domain : Domain) (readings : List (List Sample)) (tunnel : Tunnel) where
  crossed-at : (done visits : List Visit) (i : ℕ) (visit : Visit) → slice_get visits i ≡ Some visit
      → slice_get (along (crossed_at domain readings tunnel) done visits) i
      ≡ Some (sent_if (is_tapped domain visit) (wired domain readings tunnel (done ++ take (i + 1) visits)))
  crossed-at done [] i visit found = absurd (none_there visit found)
  crossed-at done (first ∷ visits) zero visit found =
      ap (λ (v : Visit). Some (sent_if (is_tapped domain v) (wired domain readings tunnel (done ++ first ∷ [])))) (found_some first visit found)
  crossed-at done (first ∷ visits) (suc i) visit found =
      crossed-at (done ++ first ∷ []) visits i visit found
      ∙ ap (λ vs. Some (sent_if (is_tapped domain visit) (wired domain readings tunnel vs))) (append_assoc done (first ∷ []) (take (i + 1) visits)
      ∙ ap (λ vs. done ++ vs) (sym (take-one first visits i)))

  -- the packet reached its exit or did not
  ran-past : (exited : Bool) (visits : List Visit) (packet : List ℕ) (past : List (Option (List ℕ))) (room : Room)
      → RanBy domain readings tunnel exited visits packet past room → past ≡ along (crossed_at domain readings tunnel) [] visits
  ran-past true visits packet past room ran =
      ran.closed.ran.past_is ∙ ap (λ vs. along (crossed_at domain readings tunnel) [] vs) (sym ran.are)
  ran-past false visits packet past room ran = ran.ran.past_is

-- ---- any packet

module _ (domain : Domain) (readings : List (List Sample)) (packet : List ℕ) (old new : Job) (i : ℕ) (visit : Visit)
    (found : slice_get old.itinerary.visits i ≡ Some visit) where
  by-carried : (carried : Option (FlowId × Numbers)) → HoldsBy domain packet carried old.packet.items → RunsBy domain readings carried old new
      → slice_get (crossings new.crossings) i
      ≡ Some (sent_if (is_tapped domain visit) (packet_after domain readings packet carried (take (i + 1) old.itinerary.visits)))
  by-carried None holds runs =
      let count = length (take (i + 1) old.itinerary.visits) in
      let none : 0 + count ≡ count = omega arith in
      ap (λ xs. slice_get xs i) runs.crossed
      ∙ ap (λ xs. slice_get (lowered_from xs 0 (map (is_tapped domain) old.itinerary.visits)) i) holds
      ∙ lowered-at domain packet 0 old.itinerary.visits i visit found
      ∙ ap (λ n. Some (sent_if (is_tapped domain visit) (lowered n packet))) none
  by-carried (Some carried) holds runs =
      let tunnel = tunnel_of domain carried.0 carried.1 packet in
      ap (λ xs. slice_get xs i)
      (ran-past domain readings tunnel old.itinerary.exited old.itinerary.visits new.packet.items (crossings new.crossings) new.room
      (runs tunnel holds.0 holds.1))
      ∙ crossed-at domain readings tunnel [] old.itinerary.visits i visit found

-- of a job whose visits are done: what a visit sent is the packet behind it and those before, if it sent it on a link with a tap
pub crossing_of : (domain : Domain) (readings : List (List Sample)) (packet : List ℕ) (itinerary : Itinerary) (old new : Job) (i : ℕ) (visit : Visit)
    → IsJobOf domain packet itinerary old → HasRun domain readings old new → slice_get itinerary.visits i ≡ Some visit
    → joined (slice_get (crossings new.crossings) i)
    ≡ sent_if (is_tapped domain visit) (packet_after domain readings packet itinerary.carried (take (i + 1) itinerary.visits))
crossing_of domain readings packet itinerary old new i visit is ran found =
    let same = is.itinerary_is in
    let there : slice_get old.itinerary.visits i ≡ Some visit = ap (λ (it : Itinerary). slice_get it.visits i) same ∙ found in
    let held : HoldsBy domain packet old.itinerary.carried old.packet.items =
    subst (λ (it : Itinerary). HoldsBy domain packet it.carried old.packet.items) (sym same) is.holds in
    ap joined (by-carried domain readings packet old new i visit there old.itinerary.carried held ran.runs)
    ∙ ap (λ (it : Itinerary). sent_if (is_tapped domain visit) (packet_after domain readings packet it.carried (take (i + 1) it.visits))) same

pub crossing_is : (domain : Domain) (readings : List (List Sample)) (packet : List ℕ) (itinerary : Itinerary) (old new : Job) (i : ℕ) (visit : Visit)
    → IsJobOf domain packet itinerary old → HasRun domain readings old new → slice_get itinerary.visits i ≡ Some visit → is_tapped domain visit ≡ true
    → joined (slice_get (crossings new.crossings) i)
    ≡ Some (packet_after domain readings packet itinerary.carried (take (i + 1) itinerary.visits))
crossing_is domain readings packet itinerary old new i visit is ran found tapped =
    crossing_of domain readings packet itinerary old new i visit is ran found
    ∙ ap (λ t. sent_if t (packet_after domain readings packet itinerary.carried (take (i + 1) itinerary.visits))) tapped
