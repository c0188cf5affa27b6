-- The traffic of a domain: the captures of its ports are merged by time, each arrival is sent through
-- the domain, and the outputs are told what becomes of it.
use Rattle.std.specs.Prelude.{◌≡◌, ℕ, ◌+◌, ◌<◌, ◌≤◌, ◌^◌, ◌⊎◌, All, Bool, IsTrue, List, [], ◌∷◌, ◌++◌, length, map, slice_index_or}
use Rattle.ioam_clock.specs.declared.sample.Sample.{Sample}
use Rattle.ioam_desk.specs.Desk.{Side, Reading, Writing, Rose}
use Rattle.ioam_run_arrivals.specs.Fate.{Frame, Fate, AreFates}
use Rattle.ioam_run_arrivals.specs.Texts.{texts_of}
use Rattle.ioam_capture_merge.specs.Merging as merging
use Rattle.ioam_capture_merge.specs.Merging.{FilesArrive, FilesBegin, PartsArrive, HaveEnded, start_of}
use Rattle.ioam_desk_outputs.specs.Held.{HoldTexts, HoldFronts}
use Rattle.ioam_capture.specs.Merge.{Arrival}
use Rattle.ioam_capture.specs.declared.turns.Turn.{Turn}
use Rattle.ioam_capture.specs.declared.turns.Turn.TheVariants as turn
use Rattle.ioam_topo.specs.declared.domain.Domain.{Domain}
use Rattle.ioam_topo.specs.declared.ids.PortId.{PortId}
use Rattle.ioam_run_traffic.specs.declared.halt.Halt.{Halt}
use Rattle.ioam_run_traffic.specs.declared.halt.Halt.TheVariants.{Over, Broken, Limit, ReadFault, WriteFault, NoMemory}

-- all of these names were given to the opening call, and each has its slot
abbrev pub AllOpened : Side → Side → List (List ℕ) → Type 0
AllOpened old new names = (new.asked ≡ old.asked ++ names) × (new.slots ≡ old.slots + length names)

-- the port whose capture stands at a place among the captures
abbrev pub port_at : List PortId → ℕ → PortId
port_at ports place = slice_index_or ports place (record { 0 = 0 })

-- what arrives at its port with a record that was taken
abbrev pub frame_of : List PortId → Arrival → Frame
frame_of ports arrival = record { port = port_at ports arrival.capture; layer = arrival.link; entry = arrival.entry }

-- what arrives with each of some records that were taken
abbrev pub frames_of : List PortId → List Arrival → List Frame
frames_of ports taken = map (frame_of ports) taken

-- an arrival's time is below 2^62 nanoseconds, as that of each record that a reader of captures gives
abbrev pub IsTimely : Arrival → Type 0
IsTimely arrival = arrival.entry.time < 2 ^ 62

-- Where the traffic begins: the domain, the readings of its nodes, the ports that have a capture, what these captures hold
-- and the number of the first one's slot, the number of the first output's slot and the outputs' names, and whether the
-- gate of the workers always opens.
pub record Course : Type 0 where
  pub opens : Bool
  pub domain : Domain
  pub readings : List (List Sample)
  pub ports : List PortId
  pub lanes : merging.Start
  pub first : ℕ
  pub names : List (List ℕ)

-- the files of the traffic: the captures where they were opened, and the outputs' first slot and names
pub record Files : Type 0 where
  pub lanes : merging.Start
  pub first : ℕ
  pub names : List (List ℕ)

-- captures and outputs of these names on a desk
abbrev pub files_of : List (List ℕ) → List (List ℕ) → Reading → Writing → Files
files_of inputs names reading writing = record { lanes = start_of reading.side.slots writing inputs; first = writing.side.slots; names = names }

-- where the traffic of a domain over these files begins
abbrev pub course_with : Bool → Domain → List (List Sample) → List PortId → Files → Course
course_with opens domain readings ports files = record { opens = opens; domain = domain; readings = readings; ports = ports; lanes = files.lanes; first = files.first; names = files.names }

-- on a desk, with captures and outputs of these names
abbrev pub begun : Bool → Domain → List (List Sample) → List PortId → List (List ℕ) → List (List ℕ) → Reading → Writing → Course
begun opens domain readings ports inputs names reading writing = course_with opens domain readings ports (files_of inputs names reading writing)

module _ (course : Course) where
  -- these are as many of the first records as may be taken, and one more comes behind them
  pub record ArePassed (taken : List Arrival) : Type 0 where
    pub all : length taken ≡ course.domain.packets
    pub next : Arrival
    pub begin : FilesBegin course.lanes.contents (taken ++ next ∷ [])

  -- the outputs hold the texts of what becomes of these arrivals, of which nothing else becomes; `Are`
  -- says which they are
  pub record HoldsAll (Are : List Arrival → Type 0) (new : Writing) : Type 0 where
    pub taken : List Arrival
    pub fates : List Fate
    pub are : Are taken
    pub few : length taken ≤ course.domain.packets
    pub timely : All IsTimely taken
    pub become : AreFates course.domain course.readings (frames_of course.ports taken) fates
    pub only : (others : List Fate) → AreFates course.domain course.readings (frames_of course.ports taken) others → others ≡ fates
    pub held : IsTrue course.opens → HoldTexts new course.names (texts_of course.domain course.readings fates)

  -- each output that was opened holds a front of its text of some first arrivals, of which nothing else
  -- becomes
  pub record HoldsFronts (old new : Writing) : Type 0 where
    pub taken : List Arrival
    pub fates : List Fate
    pub begin : FilesBegin course.lanes.contents taken
    pub few : length taken ≤ course.domain.packets
    pub timely : All IsTimely taken
    pub become : AreFates course.domain course.readings (frames_of course.ports taken) fates
    pub only : (others : List Fate) → AreFates course.domain course.readings (frames_of course.ports taken) others → others ≡ fates
    pub held : IsTrue course.opens → HoldFronts old new 0 course.names (texts_of course.domain course.readings fates)

  -- all captures were opened
  abbrev pub AreOpened : Reading → Type 0
  AreOpened inputs = inputs.side.slots ≡ course.lanes.base + length course.lanes.contents

  -- these are all the arrivals of the captures, and the turn behind them is this
  abbrev pub Arrive : Turn → List Arrival → Type 0
  Arrive last taken = FilesArrive course.lanes.contents taken last

  -- what the end of the traffic says; where the desk tells, also what the outputs hold then
  module _ (tells : Bool) (old_in new_in : Reading) (old_out new_out : Writing) where
    -- how a run over these captures ends, and which arrivals the outputs then hold: all, those in front of a fault or of the
    -- limit, those that had come whole; or fronts of some first arrivals
    abbrev pub Finishes : Halt → Type 0
    Finishes Over = IsTrue tells → HoldsAll (Arrive turn.Over) new_out × HaveEnded course.lanes new_in
    Finishes (Broken place at fault) = (place < length course.lanes.contents)
        × (IsTrue tells → HoldsAll (Arrive (turn.Broken place at fault)) new_out)
    Finishes Limit = IsTrue tells → HoldsAll ArePassed new_out
    Finishes ReadFault = Rose old_in.side.faults new_in.side.faults
        × ((((new_in.side.slots < course.lanes.base + length course.lanes.contents) × (new_out ≡ old_out)))
        ⊎ (AreOpened new_in × (IsTrue tells → HoldsAll (PartsArrive course.lanes.contents new_in course.lanes.base) new_out)))
    Finishes WriteFault = Rose old_out.side.faults new_out.side.faults × (IsTrue tells → HoldsFronts old_out new_out)
    Finishes NoMemory = (new_out ≡ old_out) ⊎ (IsTrue tells → HoldsFronts old_out new_out)

-- the captures were taken to their end, to a fault in one of them, or to as many records as may be
abbrev pub IsEnd : Halt → Type 0
IsEnd Over = Unit {0}
IsEnd (Broken place at fault) = Unit {0}
IsEnd Limit = Unit {0}
IsEnd ReadFault = ⊥
IsEnd WriteFault = ⊥
IsEnd NoMemory = ⊥
