-- The traffic of a domain as a stage over its captures.
use Rattle.std.specs.Prelude.{◌≡◌, ℕ, ◌+◌, ◌<◌, ◌≤◌, ◌⊎◌, All, Bool, true, false, IsTrue, List, [], length, Result}
use Rattle.std.specs.Borrow.{MutBor}
use Rattle.ioam_base.specs.declared.memory.NoMemory.{NoMemory}
use Rattle.ioam_capture.specs.Arrives.{Arrives}
use Rattle.ioam_capture.specs.Merge.{Arrival}
use Rattle.ioam_capture.specs.declared.turns.Turn.TheVariants.{Unshown}
use Rattle.ioam_capture_merge.specs.Merge.{Merging, ended_at, parts, room_of, wholes}
use Rattle.ioam_capture_merge.specs.Merging.{Begins}
use Rattle.ioam_capture_merge.specs.declared.capture.Capture.{Capture}
use Rattle.ioam_desk_outputs.specs.declared.output.Output.{Output}
use Rattle.ioam_run_arrivals.specs.Fate.{Fate, AreFates}
use Rattle.ioam_run_arrivals.specs.Forwarding.{Forwards, NoneWaits}
use Rattle.ioam_run_arrivals.specs.Outlets.{outlet_count}
use Rattle.ioam_run_arrivals.specs.Texts.{texts_of, texts_so_far}
use Rattle.ioam_run_arrivals.specs.declared.forwarding.Forwarding.{Forwarding}
use Rattle.ioam_stream.specs.Stage.{How, Ended, Handed, Kind, Seen}
use Rattle.ioam_stream.specs.declared.reading.Stop.{Stop}
use Rattle.ioam_stream.specs.declared.reading.Stop.TheVariants as stop
use Rattle.ioam_topo.specs.Domain.{ports as ports_of}
use Rattle.ioam_run_traffic.specs.Progress.{ArriveBy, EndsBy, IsSet, Lacks, Runs, Taking, left_in}
use Rattle.ioam_run_traffic.specs.Traffic.{IsTimely, frames_of}
use Rattle.ioam_run_traffic.specs.declared.halt.Halt.{Halt}
use Rattle.ioam_run_traffic.specs.declared.halt.Halt.TheVariants.{Over, ReadFault, WriteFault, NoMemory as NoMemoryEnd}
use Rattle.ioam_run_traffic.specs.declared.stage.Phase.{Phase}
use Rattle.ioam_run_traffic.specs.declared.stage.Phase.TheVariants as phase
use Rattle.ioam_run_traffic.specs.declared.stage.Traffic.{Traffic}
use Rattle.ioam_run_traffic.specs.declared.terms.Terms.{Terms}

-- how the traffic ends, by the answer of the machine
abbrev pub halt_of : Stop → Halt → Halt
halt_of stop.Ended end = end
halt_of stop.ReadFault end = ReadFault
halt_of stop.WriteFault end = WriteFault
halt_of stop.NoMemory end = NoMemoryEnd

-- these captures have ended
abbrev pub HaveEndedSo : ℕ → List Capture → (ℕ → Bool) → Type 0
HaveEndedSo n captures ended = (k : ℕ) → k < n → ended k ≡ ended_at captures k

-- a read failed, and of what was handed out these are all records
pub record AllShown (n : ℕ) (captures : List Capture) (seen : Seen) (taken : List Arrival) : Type 0 where
  pub arrive : Arrives (parts n seen.fed seen.ended) taken Unshown
  pub marks : HaveEndedSo n captures seen.ended

-- how many phases come after this one
abbrev pub phase_left : Phase → ℕ
phase_left phase.Taking = 3
phase_left (phase.Waiting input) = 2
phase_left phase.Closing = 1
phase_left phase.Closed = 0

-- these are the texts of what becomes of these records, no more than the domain allows
pub record Says {F G : Type 0} (opens : Bool) (terms : Terms F G) (taken : List Arrival) (so : List (List ℕ)) : Type 0 where
  pub fates : List Fate
  pub become : AreFates terms.domain.now terms.readings.now (frames_of terms.ports.now taken) fates
  pub texts_are : IsTrue opens → so ≡ texts_of terms.domain.now terms.readings.now fates
  pub few : length taken ≤ terms.domain.now.packets
  pub timely : All IsTimely taken

module _ {F G : Type 0} where
  -- how many captures there are
  abbrev pub count_of : Traffic F G → ℕ
  count_of stage = length stage.terms.ports.now

  -- these captures have ended
  abbrev pub Marks : Traffic F G → (ℕ → Bool) → Type 0
  Marks stage = HaveEndedSo (count_of stage) stage.progress.merge.captures.items

  -- why no more is taken
  abbrev pub HasStopped : Traffic F G → Seen → List Arrival → Type 0
  HasStopped stage seen taken = ((seen.cut ≡ false) × EndsBy stage.terms stage.end seen taken) ⊎ ((seen.cut ≡ true) × AllShown (count_of stage) stage.progress.merge.captures.items seen taken)

  -- these records were taken first
  abbrev pub BeginsSo : Traffic F G → Seen → List Arrival → Type 0
  BeginsSo stage seen taken = Begins (parts (count_of stage) seen.fed seen.ended) taken

  module _ (opens : Bool) where
    -- what is known of the records that were taken
    abbrev pub InPhase : Phase → Traffic F G → Seen → List Arrival → List (List ℕ) → Type 0
    InPhase phase.Taking stage seen taken so_far = (seen.cut ≡ false) × Taking opens stage.terms seen taken so_far stage.progress
    InPhase (phase.Waiting input) stage seen taken so_far = (seen.cut ≡ false) × Lacks opens stage.terms seen taken so_far stage.progress input
    InPhase phase.Closing stage seen taken so_far = HasStopped stage seen taken × BeginsSo stage seen taken × Runs opens stage.terms taken so_far stage.progress.gathered
    InPhase phase.Closed stage seen taken so_far = HasStopped stage seen taken × BeginsSo stage seen taken × Says opens stage.terms taken so_far

    -- these records are taken of these octets
    abbrev pub Are : How → Traffic F G → (ℕ → List ℕ) → List Arrival → Type 0
    Are Ended stage octets taken = ArriveBy (count_of stage) stage.terms.domain.now.packets stage.end octets taken
    Are Handed stage octets taken = (ended : ℕ → Bool) × Marks stage ended × Arrives (parts (count_of stage) octets ended) taken Unshown

    -- all is said
    pub record AreTexts (begun stage : Traffic F G) (how : How) (octets : ℕ → List ℕ) (so : List (List ℕ)) : Type 0 where
      pub taken : List Arrival
      pub same : stage.terms ≡ begun.terms
      pub are : Are how stage octets taken
      pub says : Says opens begun.terms taken so

    -- the texts of some first records
    pub record AreFirsts (begun : Traffic F G) (octets : ℕ → List ℕ) (so : List (List ℕ)) : Type 0 where
      pub taken : List Arrival
      pub begins : Begins (wholes (count_of begun) octets) taken
      pub says : Says opens begun.terms taken so

  -- more of this capture is needed; if it may come late no job waits meanwhile
  pub record Awaits (stage : Traffic F G) (input : ℕ) : Type 0 where
    pub phase_is : stage.phase ≡ phase.Waiting input
    pub live : IsTrue stage.late → NoneWaits stage.progress.gathered

module _ {F G : Type 0} (opens : Bool) (Pre : F → MutBor Forwarding → MutBor (List Output) → Type 0)
    (Post : F → MutBor Forwarding → MutBor (List Output) → Result (Unit {0}) NoMemory → MutBor Forwarding → MutBor (List Output) → Type 0) where
  -- each capture is that of a port, and the closure may be called
  pub record IsReady (terms : Terms F G) : Type 0 where
    pub set : IsSet opens Pre Post terms
    pub inside : All (λ port. port.0 < length (ports_of terms.domain.now)) terms.ports.now

  -- nothing was handed out
  pub record IsFresh (stage : Traffic F G) : Type 0 where
    pub ready : IsReady stage.terms
    pub taking : stage.phase ≡ phase.Taking
    pub merging : Merging (count_of stage) (λ k. []) (λ k. false) [] stage.progress.merge
    pub gathers : Forwards opens stage.terms.domain.now stage.terms.readings.now [] (texts_so_far stage.terms.domain.now stage.terms.readings.now []) stage.progress.gathered

  -- the stage began so, was handed this, and has said that
  pub record Stands (begun : Traffic F G) (seen : Seen) (so_far : List (List ℕ)) (stage : Traffic F G) : Type 0 where
    pub ready : IsReady stage.terms
    pub same : stage.terms ≡ begun.terms
    pub taken : List Arrival
    pub in_phase : InPhase opens stage.phase stage seen taken so_far

  abbrev pub kind : Kind (Traffic F G)
  kind = record {
    inputs = count_of;
    width = λ begun. outlet_count begun.terms.domain.now;
    fresh = IsFresh;
    stands = Stands;
    texts = AreTexts opens;
    firsts = AreFirsts opens;
    sealed = λ begun contents so. ⊥;
    parts = AreFirsts opens;
    drains = λ stage. stage.end ≡ Over;
    marks = Marks;
    waits = Awaits;
    held = λ stage. left_in stage.terms stage.progress.gathered + phase_left stage.phase;
    room = λ stage. room_of stage.progress.merge.captures.items;
  }
