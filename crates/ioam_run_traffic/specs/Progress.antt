-- The records of merged captures while they are taken, and what the outputs were told of them.
use Rattle.std.specs.Prelude.{◌≡◌, ℕ, ◌+◌, ◌*◌, ◌-◌, ◌<◌, ◌≤◌, ◌^◌, ⊤, All, Bool, IsTrue, List, [], ◌∷◌, ◌++◌, length, OnOk, Option, Some, None, Result}
use Rattle.std.specs.Borrow.{MutBor}
use Rattle.ioam_base.specs.declared.memory.NoMemory.{NoMemory}
use Rattle.ioam_capture.specs.Arrives.{Arrives}
use Rattle.ioam_capture.specs.Merge.{Arrival}
use Rattle.ioam_capture.specs.declared.turns.Turn.TheVariants as turn
use Rattle.ioam_capture_merge.specs.Merge.{Comes, IsShort, Merging, parts, wholes}
use Rattle.ioam_capture_merge.specs.Merging.{Begins}
use Rattle.ioam_capture_merge.specs.declared.merge.Merge.{Merge}
use Rattle.ioam_clock.specs.declared.sample.Sample.{Sample}
use Rattle.ioam_desk_outputs.specs.Told.{Adds, said_more}
use Rattle.ioam_desk_outputs.specs.declared.output.Output.{Output}
use Rattle.ioam_run_arrivals.specs.Fate.{Frame}
use Rattle.ioam_run_arrivals.specs.Forwarding.{Forwards, IsOf, NoneWaits, taken as count_taken}
use Rattle.ioam_run_arrivals.specs.Outlets.{outlet_count}
use Rattle.ioam_run_arrivals.specs.declared.forwarding.Forwarding.{Forwarding}
use Rattle.ioam_stream.specs.Stage.{Covers, Seen}
use Rattle.ioam_topo.specs.declared.domain.Domain.{Domain}
use Rattle.ioam_run_traffic.specs.Traffic.{IsTimely, frames_of}
use Rattle.ioam_run_traffic.specs.declared.halt.Halt.{Halt}
use Rattle.ioam_run_traffic.specs.declared.halt.Halt.TheVariants.{Over, Broken, Limit, ReadFault, WriteFault, NoMemory as NoMemoryEnd}
use Rattle.ioam_run_traffic.specs.declared.progress.Pause.{Pause}
use Rattle.ioam_run_traffic.specs.declared.progress.Pause.TheVariants as pause
use Rattle.ioam_run_traffic.specs.declared.progress.Progress.{Progress}
use Rattle.ioam_run_traffic.specs.declared.terms.Terms.{Terms}

-- ---- the jobs that wait

-- the jobs that waited were run, and what they left was appended to the outputs
pub record Tells (opens : Bool) (domain : Domain) (readings : List (List Sample)) (before after : List Output) (old new : Forwarding) : Type 0 where
  pub of : IsOf domain new
  pub counted : count_taken new ≡ count_taken old
  pub none : NoneWaits new
  pub added : List (List ℕ)
  pub adds : Adds before after added
  pub gathers : (frames : List Frame) (so_far : List (List ℕ)) → Forwards opens domain readings frames so_far old
      → Forwards opens domain readings frames (said_more so_far added) new

module _ {F G : Type 0} (opens : Bool) (Pre : F → MutBor Forwarding → MutBor (List Output) → Type 0)
    (Post : F → MutBor Forwarding → MutBor (List Output) → Result (Unit {0}) NoMemory → MutBor Forwarding → MutBor (List Output) → Type 0) where
  -- the closure may be called to run the jobs that wait
  pub record IsSet (terms : Terms F G) : Type 0 where
    pub may_run : (p : MutBor Forwarding) (q : MutBor (List Output)) → IsOf terms.domain.now p.now → count_taken p.now < 2 ^ 33
        → length q.now ≡ outlet_count terms.domain.now → Pre terms.tell.now p q
    pub runs : (p : MutBor Forwarding) (q : MutBor (List Output)) (done : Result (Unit {0}) NoMemory) (s : MutBor Forwarding) (t : MutBor (List Output))
        → IsOf terms.domain.now p.now → length q.now ≡ outlet_count terms.domain.now → Post terms.tell.now p q done s t
        → OnOk done (Tells opens terms.domain.now terms.readings.now q.now t.now p.now s.now)

-- whether one waits
abbrev pub waiting_in : {A : Type 0} → List A → ℕ
waiting_in [] = 0
waiting_in (job ∷ jobs) = 1

-- ---- what was taken

module _ {F G : Type 0} (opens : Bool) (terms : Terms F G) where
  -- these records were taken, no more than the domain allows; what becomes of them was said in these texts, or waits
  pub record Runs (taken : List Arrival) (so_far : List (List ℕ)) (gathered : Forwarding) : Type 0 where
    pub forwards : Forwards opens terms.domain.now terms.readings.now (frames_of terms.ports.now taken) so_far gathered
    pub few : length taken ≤ terms.domain.now.packets
    pub timely : All IsTimely taken

  -- they were taken of what was handed out
  abbrev pub Taking : Seen → List Arrival → List (List ℕ) → Progress → Type 0
  Taking seen taken so_far progress = Merging (length terms.ports.now) seen.fed seen.ended taken progress.merge × Runs taken so_far progress.gathered

-- of all that the captures hold these are the records that are taken if the traffic ends so
abbrev pub ArriveBy : ℕ → ℕ → Halt → (ℕ → List ℕ) → List Arrival → Type 0
ArriveBy n most Over contents taken = Arrives (wholes n contents) taken turn.Over
ArriveBy n most (Broken place at fault) contents taken = (place < n) × Arrives (wholes n contents) taken (turn.Broken place at fault)
ArriveBy n most Limit contents taken = (length taken ≡ most) × ((next : Arrival) × Begins (wholes n contents) (taken ++ next ∷ []))
ArriveBy n most ReadFault contents taken = ⊥
ArriveBy n most WriteFault contents taken = ⊥
ArriveBy n most NoMemoryEnd contents taken = ⊥

-- if the traffic ends so, these captures have ended
abbrev pub EndSo : ℕ → Halt → Seen → Type 0
EndSo n Over seen = (k : ℕ) → k < n → IsTrue (seen.ended k)
EndSo n (Broken place at fault) seen = ⊤
EndSo n Limit seen = ⊤
EndSo n ReadFault seen = ⊥
EndSo n WriteFault seen = ⊥
EndSo n NoMemoryEnd seen = ⊥

module _ {F G : Type 0} (terms : Terms F G) where
  -- no record is taken after these: the traffic ends so, whatever more the captures hold
  pub record EndsBy (halt : Halt) (seen : Seen) (taken : List Arrival) : Type 0 where
    pub arrive : (contents : ℕ → List ℕ) → Covers (length terms.ports.now) seen contents
        → ArriveBy (length terms.ports.now) terms.domain.now.packets halt contents taken
    pub ends : EndSo (length terms.ports.now) halt seen

module _ {F G : Type 0} (opens : Bool) (terms : Terms F G) (seen : Seen) (taken : List Arrival) (so_far : List (List ℕ)) (progress : Progress) where
  -- and more is needed of this capture
  abbrev pub Lacks : ℕ → Type 0
  Lacks input = IsShort (length terms.ports.now) seen.fed seen.ended taken progress.merge input × Runs opens terms taken so_far progress.gathered

  -- no more are taken
  abbrev pub Stopping : Halt → Type 0
  Stopping halt = EndsBy terms halt seen taken × Begins (parts (length terms.ports.now) seen.fed seen.ended) taken × Runs opens terms taken so_far progress.gathered

  -- why no record was taken
  abbrev pub PausedSo : Pause → Type 0
  PausedSo pause.Full = Taking opens terms seen taken so_far progress × (waiting_in progress.gathered.batch.jobs ≡ 1)
  PausedSo (pause.Short input) = Lacks input
  PausedSo (pause.Stopped halt) = Stopping halt

  -- one was taken, or why none was
  abbrev pub NextOf : Option Pause → Type 0
  NextOf None = Taking opens terms seen taken so_far progress
  NextOf (Some why) = PausedSo why

-- of some captures some records were taken
abbrev pub IsTaking : {F G : Type 0} → Terms F G → Progress → Type 0
IsTaking terms progress = (opens : Bool) × (seen : Seen) × (taken : List Arrival) × (so_far : List (List ℕ)) × Taking opens terms seen taken so_far progress

-- and the next record is of this one
abbrev pub IsComing : Merge → ℕ → Type 0
IsComing merge place = (n : ℕ) × (fed : ℕ → List ℕ) × (ended : ℕ → Bool) × (taken : List Arrival) × (time : ℕ) × Comes n fed ended taken merge place time

-- ---- how much is still to be done

-- two for each record that may still be taken, and one if a job waits
abbrev pub left_in : {F G : Type 0} → Terms F G → Forwarding → ℕ
left_in terms gathered = 2 * (terms.domain.now.packets - count_taken gathered) + waiting_in gathered.batch.jobs

-- one less, if a record was taken
abbrev pub left_next : Option Pause → ℕ
left_next None = 1
left_next (Some why) = 0
