-- What calls on a desk may touch, as one relation between two states of it.
use Rattle.std.specs.Prelude.{◌≡◌, ℕ, ◌<◌, ◌≤◌, Bool, IsTrue, List, [], ◌++◌, All, Contains, Result, Ok, Err}
use Rattle.ioam_desk.specs.Asked.{HaveSlots}
use Rattle.ioam_desk.specs.Desk.{Side, Reading, Writing, Rose}
use Rattle.ioam_desk.specs.declared.fault.DeskFault.{DeskFault}
use Rattle.ioam_desk.specs.declared.fault.DeskFault.TheVariants.{Failed, NoMemory}
use Rattle.ioam_desk.specs.declared.fault.WriteAll.{WriteAll}
use Rattle.ioam_desk.specs.declared.fault.WriteAll.TheVariants as write

-- a desk as one value: its inputs and its outputs
pub record State : Type 0 where
  pub inputs : Reading
  pub outputs : Writing

abbrev pub state : Reading → Writing → State
state inputs outputs = record { inputs = inputs; outputs = outputs }

-- Of the slots that are there, those that may be read and those that may be written; and the names that may be given to
-- the opening calls of inputs and of outputs.
pub record Footprint : Type 1 where
  pub reads : ℕ → Type 0
  pub writes : ℕ → Type 0
  pub ins : List (List ℕ)
  pub outs : List (List ℕ)

-- one input slot is read
abbrev pub read_of : ℕ → Footprint
read_of slot = record { reads = λ k. k ≡ slot; writes = λ k. ⊥; ins = []; outs = [] }

-- one output slot is written
abbrev pub write_to : ℕ → Footprint
write_to slot = record { reads = λ k. ⊥; writes = λ k. k ≡ slot; ins = []; outs = [] }

-- only slots from `base` on are read, or written
abbrev pub reads_from : ℕ → Footprint
reads_from base = record { reads = λ k. base ≤ k; writes = λ k. ⊥; ins = []; outs = [] }

abbrev pub writes_from : ℕ → Footprint
writes_from base = record { reads = λ k. ⊥; writes = λ k. base ≤ k; ins = []; outs = [] }

-- these names are opened, and no slot that was there is touched
abbrev pub opening : List (List ℕ) → List (List ℕ) → Footprint
opening ins outs = record { reads = λ k. ⊥; writes = λ k. ⊥; ins = ins; outs = outs }

-- Which call failed: none; one that opened or read an input; one that read an input; one on an output, perhaps after a
-- read that failed; or none on an output, and memory ran out, perhaps after a read that failed.
pub data Failing : Type 0 where
  Quiet : Failing
  Input : Failing
  Read : Failing
  Output : Failing
  Late : Failing

-- which call failed, by the answer of a call that opens an input, reads, or opens or writes an output
abbrev pub failing_open : {A : Type 0} → Result A DeskFault → Failing
failing_open (Ok _) = Quiet
failing_open (Err Failed) = Input
failing_open (Err NoMemory) = Quiet

abbrev pub failing_read : {A : Type 0} → Result A DeskFault → Failing
failing_read (Ok _) = Quiet
failing_read (Err Failed) = Read
failing_read (Err NoMemory) = Quiet

abbrev pub failing_out : {A : Type 0} → Result A DeskFault → Failing
failing_out (Ok _) = Quiet
failing_out (Err Failed) = Output
failing_out (Err NoMemory) = Quiet

abbrev pub failing_write : Result (Unit {0}) WriteAll → Failing
failing_write (Ok _) = Quiet
failing_write (Err (write.Failed written)) = Output
failing_write (Err (write.NoMemory written)) = Quiet

-- a read failed, and then what was gathered was written, with this answer
abbrev pub after_read : Result (Unit {0}) DeskFault → Failing
after_read (Ok _) = Read
after_read (Err Failed) = Output
after_read (Err NoMemory) = Late

-- no call failed: the count of faults is the old one, and each name that was asked for has its slot
pub record IsFine (old new : Side) : Type 0 where
  pub faults : new.faults ≡ old.faults
  pub slots : HaveSlots old new

-- an opening may have failed: the count of faults rose, and no slot went away
pub record Broke (old new : Side) : Type 0 where
  pub rose : Rose old.faults new.faults
  pub slots : old.slots ≤ new.slots

-- a read failed: the count of faults rose, and each name that was asked for has its slot
pub record Rises (old new : Side) : Type 0 where
  pub rose : Rose old.faults new.faults
  pub slots : HaveSlots old new

-- a read may have failed: each name that was asked for has its slot
pub record Loose (old new : Side) : Type 0 where
  pub slots : HaveSlots old new

-- how the inputs fared
abbrev pub HowIn : Failing → Side → Side → Type 0
HowIn Quiet old new = IsFine old new
HowIn Input old new = Broke old new
HowIn Read old new = Rises old new
HowIn Output old new = Loose old new
HowIn Late old new = Loose old new

-- and the outputs
abbrev pub HowOut : Failing → Side → Side → Type 0
HowOut Output old new = Broke old new
HowOut _ old new = IsFine old new

-- Inputs: only `names` were asked for, and of the slots that were there only those that may be read changed.
pub record TouchesIn (reads : ℕ → Type 0) (names : List (List ℕ)) (x : Failing) (old new : Reading) : Type 0 where
  pub asked : List (List ℕ)
  pub asks : new.side.asked ≡ old.side.asked ++ asked
  pub among : All (Contains names) asked
  pub how : HowIn x old.side new.side
  pub left : (k : ℕ) → k < old.side.slots → (reads k → ⊥) → new.left k ≡ old.left k
  pub ended : (k : ℕ) → k < old.side.slots → (reads k → ⊥) → new.ended k ≡ old.ended k

-- Outputs: likewise with those that may be written; and only names that were asked for are tied anew. What slots and
-- names hold is known only if the desk tells it.
pub record TouchesOut (tells : Bool) (writes : ℕ → Type 0) (names : List (List ℕ)) (x : Failing) (old new : Writing) : Type 0 where
  pub asked : List (List ℕ)
  pub asks : new.side.asked ≡ old.side.asked ++ asked
  pub among : All (Contains names) asked
  pub how : HowOut x old.side new.side
  pub written : IsTrue tells → (k : ℕ) → k < old.side.slots → (writes k → ⊥) → new.written k ≡ old.written k
  pub files : IsTrue tells → (name : List ℕ) → (Contains asked name → ⊥) → new.files name ≡ old.files name

-- A run of calls touched no more than its footprint, and `x` says which call failed.
pub record Touches (tells : Bool) (f : Footprint) (x : Failing) (old new : State) : Type 0 where
  pub inputs : TouchesIn f.reads f.ins x old.inputs new.inputs
  pub outputs : TouchesOut tells f.writes f.outs x old.outputs new.outputs

-- one footprint lies in another
pub record Within (f g : Footprint) : Type 0 where
  pub reads : (k : ℕ) → f.reads k → g.reads k
  pub writes : (k : ℕ) → f.writes k → g.writes k
  pub ins : (name : List ℕ) → Contains f.ins name → Contains g.ins name
  pub outs : (name : List ℕ) → Contains f.outs name → Contains g.outs name

-- A failed call is answered: each input that was asked for was opened unless a call on an input failed, and the counts of
-- faults are the old ones if no call failed, or none on an output.
pub record AnswersFailing (x : Failing) (old new : State) : Type 0 where
  pub opens : (x ≡ Input → ⊥) → HaveSlots old.inputs.side new.inputs.side
  pub reads : x ≡ Quiet → new.inputs.side.faults ≡ old.inputs.side.faults
  pub writes : (x ≡ Output → ⊥) → new.outputs.side.faults ≡ old.outputs.side.faults
