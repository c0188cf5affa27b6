-- What every streaming command promises of what it opened, read and kept, and of what its outputs hold.
use Rattle.std.specs.Prelude.{◌≡◌, ℕ, ◌+◌, ◌<◌, ◌≤◌, ◌⊎◌, ⊤, Bool, IsTrue, List, [], ◌++◌, length, Some, unwrap_or}
use Rattle.ioam_desk.specs.Asked.{AsksFront}
use Rattle.ioam_desk.specs.Desk.{holds}
use Rattle.ioam_desk.specs.Touches.{State, Touches, opening, Failing, Quiet, Input, Output, Late}
use Rattle.ioam_desk_outputs.specs.Held.{HoldTexts, HoldFronts}
use Rattle.ioam_desk_outputs.specs.Names.{name_at}
use Rattle.ioam_desk_outputs.specs.Open.{AreUnread}
use Rattle.ioam_stream.specs.Stage.{How, Ended, Handed}
use Rattle.ioam_stream.specs.declared.reading.Stop.{Stop}
use Rattle.ioam_stream.specs.declared.reading.Stop.TheVariants as stop

-- which call failed, by the answer of a run
abbrev pub failing_all : Stop → Failing
failing_all stop.Ended = Quiet
failing_all stop.ReadFault = Input
failing_all stop.WriteFault = Output
failing_all stop.NoMemory = Late

module _ (tells : Bool) (ins outs : List (List ℕ)) (old new : State) where
  -- what the inputs hold
  abbrev pub contents : ℕ → List ℕ
  contents i = unwrap_or (holds old.outputs (name_at ins i)) []

  -- what was opened, read and kept, whatever the command; and whether it took its inputs to their ends
  pub record Frame (drains : Type 0) (answer : Stop) : Type 0 where
    -- nothing else was touched, and a call that failed is what is answered
    pub touches : Touches tells (opening ins outs) (failing_all answer) old new
    -- the names were given to the opening calls in their order, all of them where an end is answered
    pub asked_in : AsksFront old.inputs.side.asked new.inputs.side.asked ins
    pub asked_out : AsksFront old.outputs.side.asked new.outputs.side.asked outs
    pub all : answer ≡ stop.Ended
        → (new.inputs.side.asked ≡ old.inputs.side.asked ++ ins) × (new.outputs.side.asked ≡ old.outputs.side.asked ++ outs)
    -- no more inputs are opened than there are names, and all names were given if as many are
    pub most : new.inputs.side.slots ≤ old.inputs.side.slots + length ins
    pub given : old.inputs.side.slots + length ins ≤ new.inputs.side.slots → new.inputs.side.asked ≡ old.inputs.side.asked ++ ins
    -- no output is opened before all inputs are, and nothing is read before all outputs are
    pub no_output : new.inputs.side.slots < old.inputs.side.slots + length ins → new.outputs ≡ old.outputs
    pub unread : new.outputs.side.slots < old.outputs.side.slots + length outs → AreUnread tells old.inputs new.inputs old.outputs ins
    -- the name of each input that was opened held octets
    pub held : IsTrue tells → (i : ℕ) → old.inputs.side.slots + i < new.inputs.side.slots → holds old.outputs (name_at ins i) ≡ Some (contents i)
    -- where it took its inputs to their ends, all were read to them
    pub drained : answer ≡ stop.Ended → drains → IsTrue tells → (i : ℕ) → i < length ins → IsTrue (new.inputs.ended (old.inputs.side.slots + i))

  -- all inputs were opened, or not all
  abbrev pub AllOpen : Type 0
  AllOpen = old.inputs.side.slots + length ins ≤ new.inputs.side.slots

  abbrev pub NotAllOpen : Type 0
  NotAllOpen = new.inputs.side.slots < old.inputs.side.slots + length ins

  -- after a read that failed the stage knows which inputs have ended; of those nothing is left
  abbrev pub Marked : ((ℕ → Bool) → Type 0) → Stop → Type 0
  Marked Marks answer = answer ≡ stop.ReadFault → AllOpen
      → (ended : ℕ → Bool) × Marks ended × ((i : ℕ) → i < length ins → new.inputs.ended (old.inputs.side.slots + i) ≡ ended i)
      × ((i : ℕ) → i < length ins → IsTrue (ended i) → new.inputs.left (old.inputs.side.slots + i) ≡ [])

  module _ (Texts : How → (ℕ → List ℕ) → List (List ℕ) → Type 0) (Firsts : (ℕ → List ℕ) → List (List ℕ) → Type 0) where
    -- the outputs hold texts that are so of these octets
    pub record HoldAll (how : How) (octets : ℕ → List ℕ) : Type 0 where
      pub so : List (List ℕ)
      pub texts : Texts how octets so
      pub held : HoldTexts new.outputs outs so

    -- each output that was opened holds a prefix of its text of some first items
    pub record HoldSome : Type 0 where
      pub so : List (List ℕ)
      pub texts : Firsts contents so
      pub held : HoldFronts old.outputs new.outputs 0 outs so

    -- the outputs hold the texts of all that had been handed out whole, when a read failed
    pub record HoldHanded : Type 0 where
      pub handed : ℕ → List ℕ
      pub splits : (i : ℕ) → i < length ins → contents i ≡ handed i ++ new.inputs.left (old.inputs.side.slots + i)
      pub hold : HoldAll Handed handed

    -- what the outputs hold, by the answer
    abbrev pub Leaves : Stop → Type 0
    Leaves stop.Ended = AllOpen × HoldAll Ended contents
    Leaves stop.ReadFault = (NotAllOpen × (new.outputs ≡ old.outputs)) ⊎ (AllOpen × HoldHanded)
    Leaves stop.WriteFault = AllOpen × HoldSome
    Leaves stop.NoMemory = (new.outputs ≡ old.outputs) ⊎ (AllOpen × HoldSome)

module _ (tells : Bool) (ins outs : List (List ℕ)) (old new : State) (Sealed Parts : (ℕ → List ℕ) → List (List ℕ) → Type 0) where
  -- each output that was opened holds a prefix of its text of some first items, and not all do where these texts are sealed
  abbrev pub HoldLess : Type 0
  HoldLess = (so : List (List ℕ)) × HoldFronts old.outputs new.outputs 0 outs so
      × (Parts (contents tells ins outs old new) so ⊎ (Sealed (contents tells ins outs old new) so × (HoldTexts new.outputs outs so → ⊥)))

  -- sealed texts are held only if an end is answered
  abbrev pub Unsealed : Stop → Type 0
  Unsealed stop.WriteFault = HoldLess
  Unsealed stop.NoMemory = (new.outputs ≡ old.outputs) ⊎ HoldLess
  Unsealed _ = ⊤

-- the answer leaves the outputs as they are
abbrev pub IsBroken : Stop → Type 0
IsBroken stop.WriteFault = ⊤
IsBroken stop.NoMemory = ⊤
IsBroken _ = ⊥
