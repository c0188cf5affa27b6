-- Laws of the records that are taken.
use Rattle.std.proofs.Common.{◌≡◌, ℕ, ◌+◌, ◌<◌, ◌≤◌, Bool, false, List, [], ◌∷◌, ◌++◌, length, refl, sym, subst, ap, arith}
use Rattle.std.proofs.lemmas.List.{map-append, length-map}
use Rattle.std.proofs.lemmas.List.Elements.{All-append, All-cons, All-nil}
use Rattle.ioam_capture.specs.Merge.{Arrival}
use Rattle.ioam_clock.specs.declared.sample.Sample.{Sample}
use Rattle.ioam_desk_outputs.specs.Told.{said_more}
use Rattle.ioam_desk_outputs.specs.declared.output.Output.{Output}
use Rattle.ioam_run_arrivals.specs.Fate.{Frame}
use Rattle.ioam_run_arrivals.specs.Forwarding.{Forwards, has_room, taken as count_taken}
use Rattle.ioam_run_arrivals.specs.Texts.{way_of}
use Rattle.ioam_run_arrivals.specs.declared.forwarding.Forwarding.{Forwarding}
use Rattle.ioam_run_arrivals.proofs.ForwardsLaws.{full-waits}
use Rattle.ioam_run_arrivals.proofs.OneFateLaws.{AreFates-length}
use Rattle.ioam_topo.specs.declared.domain.Domain.{Domain}
use Rattle.ioam_topo.specs.declared.ids.PortId.{PortId}
use Rattle.ioam_run_traffic.specs.Progress.{Runs, Tells, left_in, waiting_in}
use Rattle.ioam_run_traffic.specs.Traffic.{IsTimely, frame_of, frames_of, port_at}
use Rattle.ioam_run_traffic.specs.declared.terms.Terms.{Terms}

-- as many as the frames
Forwards-count : (opens : Bool) (domain : Domain) (readings : List (List Sample)) (frames : List Frame) (texts : List (List ℕ)) (gathered : Forwarding)
    → Forwards opens domain readings frames texts gathered → count_taken gathered ≡ length frames
Forwards-count opens domain readings frames texts gathered forwards = omega (
  arith,
  forwards.sums.packets,
  length-map (forwards.told ++ forwards.waiting) way_of,
  AreFates-length domain readings frames (forwards.told ++ forwards.waiting) forwards.are,
)

-- one record more
frames-push : (ports : List PortId) (arrivals : List Arrival) (one : Arrival)
    → frames_of ports (arrivals ++ one ∷ []) ≡ frames_of ports arrivals ++ frame_of ports one ∷ []
frames-push ports arrivals one = map-append (frame_of ports) arrivals (one ∷ [])

pushed : (arrivals : List Arrival) (one : Arrival) → length (arrivals ++ one ∷ []) ≡ length arrivals + 1
pushed [] one = omega arith
pushed (a ∷ arrivals) one = omega (arith, pushed arrivals one)

module _ {F G : Type 0} (opens : Bool) (terms : Terms F G) (taken : List Arrival) (so_far : List (List ℕ)) (gathered : Forwarding)
    (runs : Runs opens terms taken so_far gathered) where
  -- how many were taken
  pub runs_count : count_taken gathered ≡ length taken
  runs_count = omega (
    arith,
    Forwards-count opens terms.domain.now terms.readings.now (frames_of terms.ports.now taken) so_far gathered runs.forwards,
    length-map taken (frame_of terms.ports.now),
  )

  -- no more than the domain allows
  pub runs_few : count_taken gathered ≤ terms.domain.now.packets
  runs_few = omega (arith, runs_count, runs.few)

  -- one record more was taken, and waits
  pub runs_take : (one : Arrival) (new : Forwarding) (port : PortId) → port ≡ port_at terms.ports.now one.capture
      → ((opens : Bool) (frames : List Frame) (so_far : List (List ℕ)) → Forwards opens terms.domain.now terms.readings.now frames so_far gathered
      → Forwards opens terms.domain.now terms.readings.now (frames ++ record { port = port; layer = one.link; entry = one.entry } ∷ []) so_far new)
      → count_taken gathered < terms.domain.now.packets → IsTimely one → Runs opens terms (taken ++ one ∷ []) so_far new
  runs_take one new port at gathers room early =
      let frames = frames_of terms.ports.now taken in
      let P : PortId → Type 0 = λ p.
      Forwards opens terms.domain.now terms.readings.now (frames ++ record { port = p; layer = one.link; entry = one.entry } ∷ []) so_far new in
      let Q : List Frame → Type 0 = λ fs. Forwards opens terms.domain.now terms.readings.now fs so_far new in
      record {
        forwards = subst Q (sym (frames-push terms.ports.now taken one)) (subst P at (gathers opens frames so_far runs.forwards));
        few = omega (arith, room, runs_count, pushed taken one);
        timely = All-append IsTimely taken (one ∷ []) runs.timely (All-cons IsTimely one [] early (All-nil IsTimely));
      }

  -- what waited was run
  pub runs_tell : (before after : List Output) (new : Forwarding) (tells : Tells opens terms.domain.now terms.readings.now before after gathered new)
      → Runs opens terms taken (said_more so_far tells.added) new
  runs_tell before after new tells = record { forwards = tells.gathers (frames_of terms.ports.now taken) so_far runs.forwards; few = runs.few; timely = runs.timely }

-- ---- how much is left

-- a job waits, or none does
pub waiting_few : {A : Type 0} (jobs : List A) → waiting_in jobs ≤ 1
waiting_few [] = omega arith
waiting_few (job ∷ jobs) = omega arith

pub waiting_none : {A : Type 0} (jobs : List A) → jobs ≡ [] → waiting_in jobs ≡ 0
waiting_none jobs none = ap (λ xs. waiting_in xs) none

pub waiting_one : {A : Type 0} (jobs : List A) → (jobs ≡ [] → ⊥) → waiting_in jobs ≡ 1
waiting_one [] some = absurd (some refl)
waiting_one (job ∷ jobs) some = refl

pub waiting_full : (gathered : Forwarding) → has_room gathered ≡ false → waiting_in gathered.batch.jobs ≡ 1
waiting_full gathered full = waiting_one gathered.batch.jobs (λ none. full-waits gathered full none)

-- one record more was taken
pub left_taken : {F G : Type 0} (terms : Terms F G) (old new : Forwarding) → count_taken old < terms.domain.now.packets → count_taken new ≡ count_taken old + 1
    → 1 + left_in terms new ≤ left_in terms old
left_taken terms old new room one = omega (arith, room, one, waiting_few new.batch.jobs)
