-- A stage that is handed pieces of its inputs while its texts are written.
use Rattle.std.specs.Prelude.{◌≡◌, ◌≢◌, ℕ, ◌+◌, ◌<◌, ◌≤◌, ◌⊎◌, ⊤, Bool, true, false, IsTrue, List, [], ◌++◌}
use Rattle.ioam_desk.specs.Desk.{Reading, Writing}
use Rattle.ioam_desk.specs.Touches.{State, Footprint, Failing, Quiet, Read, Output, Late}
use Rattle.ioam_desk_outputs.specs.Held.{HoldAllFronts, HoldTexts}
use Rattle.ioam_desk_outputs.specs.Told.{AreTold}
use Rattle.ioam_desk_outputs.specs.declared.output.Output.{Output as Sink}
use Rattle.ioam_stream.specs.Stage.{Kind, Seen, How, Ended, Handed, Leads, HasSaid}
use Rattle.ioam_stream.specs.declared.reading.Pause.{Pause}
use Rattle.ioam_stream.specs.declared.reading.Pause.TheVariants as pause
use Rattle.ioam_stream.specs.declared.reading.Piece.{Piece}
use Rattle.ioam_stream.specs.declared.reading.Piece.TheVariants as piece
use Rattle.ioam_stream.specs.declared.reading.Stop.{Stop}
use Rattle.ioam_stream.specs.declared.reading.Stop.TheVariants as stop

-- Where a run began: what each input holds, the number of the first input's slot and of the first output's, the names of
-- the outputs, and the stage then.
pub record Start (S : Type 0) : Type 0 where
  pub contents : ℕ → List ℕ
  pub base_in : ℕ
  pub base_out : ℕ
  pub names : List (List ℕ)
  pub begun : S

-- where a run began, and whether a read has failed since
pub record Going (S : Type 0) : Type 0 where
  pub start : Start S
  pub cut : Bool

-- slots from these on are read and written
abbrev pub streams_from : ℕ → ℕ → Footprint
streams_from base_in base_out = record { reads = λ k. base_in ≤ k; writes = λ k. base_out ≤ k; ins = []; outs = [] }

-- which call failed, by what became of a piece, and by the answer of a run
abbrev pub failing_piece : Piece → Failing
failing_piece (piece.Fed count) = Quiet
failing_piece piece.ReadFault = Read
failing_piece piece.NoMemory = Quiet

abbrev pub failing : Stop → Failing
failing stop.Ended = Quiet
failing stop.ReadFault = Read
failing stop.WriteFault = Output
failing stop.NoMemory = Late

-- no input was read, and no read failed
abbrev pub ReadsNone : Reading → Reading → Stop → Type 0
ReadsNone old new answer = (new ≡ old) × (answer ≢ stop.ReadFault)

module _ {S : Type 0} (kind : Kind S) (tells : Bool) (start : Start S) where
  -- what was handed out of the inputs so far, and what is left
  pub record IsFedSo (inputs : Reading) (seen : Seen) : Type 0 where
    pub is_open : (i : ℕ) → i < kind.inputs start.begun → start.base_in + i < inputs.side.slots
    pub handed : IsTrue tells → (i : ℕ) → i < kind.inputs start.begun → start.contents i ≡ seen.fed i ++ inputs.left (start.base_in + i)
    pub whole : IsTrue tells → (i : ℕ) → i < kind.inputs start.begun → IsTrue (seen.ended i) → inputs.left (start.base_in + i) ≡ []
    pub ended : IsTrue tells → (i : ℕ) → i < kind.inputs start.begun → inputs.ended (start.base_in + i) ≡ seen.ended i

  -- the stage has said `so_far` of what was handed out, and this was written or is gathered
  pub record Streams (cut : Bool) (state : State) (stage : S) (outputs : List Sink) : Type 0 where
    pub seen : Seen
    pub so_far : List (List ℕ)
    pub cut_is : seen.cut ≡ cut
    pub fed : IsFedSo state.inputs seen
    pub stands : kind.stands start.begun seen so_far stage
    pub told : AreTold tells state.outputs start.base_out start.names outputs so_far

  -- all that was handed out is taken, and the stage waits for this input
  pub record IsWaiting (cut : Bool) (state : State) (stage : S) (outputs : List Sink) (input : ℕ) : Type 0 where
    pub streams : Streams cut state stage outputs
    pub uncut : cut ≡ false
    pub inside : input < kind.inputs start.begun
    pub waits : kind.waits stage input
    pub is_open : streams.seen.ended input ≡ false

  -- all is said, and it is so of these octets
  pub record Halts (how : How) (octets : ℕ → List ℕ) (state : State) (stage : S) (outputs : List Sink) : Type 0 where
    pub so_far : List (List ℕ)
    pub told : AreTold tells state.outputs start.base_out start.names outputs so_far
    pub says : IsTrue tells → kind.texts start.begun stage how octets so_far
    pub leads : IsTrue tells → Leads kind start.begun start.contents so_far ⊎ kind.sealed start.begun start.contents so_far

  -- where the stage has taken its inputs to their ends, they were read to their ends
  abbrev pub Drains : State → S → Type 0
  Drains state stage = kind.drains stage → IsTrue tells → (i : ℕ) → i < kind.inputs start.begun → IsTrue (state.inputs.ended (start.base_in + i))

  -- what was handed out of the inputs, and what is left, after a read that failed
  abbrev pub Splits : (ℕ → List ℕ) → State → Type 0
  Splits handed state = IsTrue tells → (i : ℕ) → i < kind.inputs start.begun → start.contents i ≡ handed i ++ state.inputs.left (start.base_in + i)

  -- the stage knows which inputs have ended; of those nothing is left
  abbrev pub Marks : State → S → Type 0
  Marks state stage = IsTrue tells → (ended : ℕ → Bool) × kind.marks stage ended × ((i : ℕ) → i < kind.inputs start.begun → state.inputs.ended (start.base_in + i) ≡ ended i)
      × ((i : ℕ) → i < kind.inputs start.begun → IsTrue (ended i) → state.inputs.left (start.base_in + i) ≡ [])

  -- all is said of what the inputs hold, or of what was handed out
  abbrev pub Stopped : Bool → State → S → List Sink → Type 0
  Stopped false state stage outputs = Halts Ended start.contents state stage outputs × Drains state stage × HasSaid kind start.begun stage
  Stopped true state stage outputs = (handed : ℕ → List ℕ) × Splits handed state × Halts Handed handed state stage outputs × Marks state stage

  -- what stopped the taking of items
  abbrev pub Pauses : Bool → State → S → List Sink → Pause → Type 0
  Pauses cut state stage outputs (pause.More input) = IsWaiting cut state stage outputs input
  Pauses cut state stage outputs pause.End = Stopped cut state stage outputs

  -- what became of a piece
  abbrev pub Refills : ℕ → Reading → Reading → S → S → Piece → Type 0
  Refills input old new before after (piece.Fed count) = (kind.room after < kind.room before) × ((seen : Seen) (so_far : List (List ℕ))
      → IsFedSo old seen → seen.ended input ≡ false → kind.stands start.begun seen so_far before
      → (now : Seen) × (now.cut ≡ seen.cut) × IsFedSo new now × kind.stands start.begun now so_far after)
  Refills input old new before after piece.ReadFault = (after ≡ before) × (new.left ≡ old.left) × (new.ended ≡ old.ended)
  Refills input old new before after piece.NoMemory = ⊤

  -- each output holds a prefix of its text of some first items, and not all do where these texts are sealed
  abbrev pub Sticks : Writing → Type 0
  Sticks desk = IsTrue tells → (so : List (List ℕ)) × HoldAllFronts desk start.names so
      × (kind.parts start.begun start.contents so ⊎ (kind.sealed start.begun start.contents so × (HoldTexts desk start.names so → ⊥)))

  -- why reading stopped, and what was said then
  abbrev pub Stops : State → S → List Sink → Stop → Type 0
  Stops state stage outputs stop.Ended = Stopped false state stage outputs
  Stops state stage outputs stop.ReadFault = Stopped true state stage outputs
  Stops state stage outputs stop.WriteFault = Sticks state.outputs
  Stops state stage outputs stop.NoMemory = Sticks state.outputs

  -- the outputs hold texts that are so of these octets
  abbrev pub Holds : How → (ℕ → List ℕ) → State → S → Type 0
  Holds how octets state stage = IsTrue tells → (so : List (List ℕ)) × kind.texts start.begun stage how octets so × HoldTexts state.outputs start.names so

  -- how a run over opened files ended
  abbrev pub Finishes : State → S → Stop → Type 0
  Finishes state stage stop.Ended = Holds Ended start.contents state stage × Drains state stage × HasSaid kind start.begun stage
  Finishes state stage stop.ReadFault = (handed : ℕ → List ℕ) × Splits handed state × Holds Handed handed state stage × Marks state stage
  Finishes state stage stop.WriteFault = Sticks state.outputs
  Finishes state stage stop.NoMemory = Sticks state.outputs
