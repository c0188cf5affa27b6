-- Two files that are read as parts, one after the other.
use Rattle.std.specs.Prelude.{◌≡◌, ◌≢◌, ℕ, ◌+◌, ◌<◌, ◌≤◌, ◌⊎◌, ⊤, Bool, IsTrue, IsSomeAnd, List, [], ◌∷◌, ◌++◌, Option, Result, Ok, Err}
use Rattle.ioam_desk.specs.Asked.{AsksFront, HaveSlots}
use Rattle.ioam_desk.specs.Desk as desk
use Rattle.ioam_desk.specs.Desk.{Rose, opened_side}
use Rattle.ioam_desk.specs.Kept.{KeepsInputs}
use Rattle.ioam_run_answer.specs.declared.outcome.Outcome.{Outcome}
use Rattle.ioam_run_answer.specs.declared.outcome.Outcome.TheVariants as outcome
use Rattle.ioam_run_part.specs.Records.{IsAPart, ReadsFew}
use Rattle.ioam_run_part.specs.MergePromise.{IsFaulty}
use Rattle.ioam_run_part.specs.Unread.{IsFlat}

-- whatever was answered: the names that were asked for, the second only where the first was opened and, where the desk tells, is
-- a part; what is as it was, and how much was read
pub record TriesTwo (tells : Bool) (first second : Option (List ℕ)) (one two : List ℕ) (old new : desk.Reading) : Type 0 where
  pub asked : AsksFront old.side.asked new.side.asked (one ∷ two ∷ [])
  pub in_turn : new.side.asked ≡ old.side.asked ++ one ∷ two ∷ [] → IsTrue tells → IsSomeAnd first IsAPart
  pub opened : new.side.asked ≡ old.side.asked ++ one ∷ two ∷ [] → old.side.slots < new.side.slots
  pub slots : new.side.slots ≤ old.side.slots + 2
  pub kept : KeepsInputs old new
  pub few_one : old.side.slots < new.side.slots → ReadsFew tells first old.side.slots new
  pub few_two : old.side.slots + 1 < new.side.slots → ReadsFew tells second (old.side.slots + 1) new

-- both were read to their ends
pub record HoldsTwo (tells : Bool) (first second : Option (List ℕ)) (one two : List ℕ) (old new : desk.Reading) (a b : List ℕ) : Type 0 where
  pub side : new.side ≡ opened_side (opened_side old.side one) two
  pub first_held : IsFlat tells first a
  pub second_held : IsFlat tells second b
  pub first_ended : IsTrue tells → IsTrue (new.ended old.side.slots)
  pub second_ended : IsTrue tells → IsTrue (new.ended (old.side.slots + 1))

-- the names that were opened where the one of this name is no part: ONE alone where that is ONE, and both where it is TWO
abbrev pub OpensUpTo : List ℕ → List ℕ → desk.Reading → desk.Reading → List ℕ → Type 0
OpensUpTo one two old new name = ((name ≡ one) × (new.side.asked ≡ old.side.asked ++ one ∷ []))
    ⊎ ((name ≡ two) × (new.side.asked ≡ old.side.asked ++ one ∷ two ∷ []))

-- what failed is answered: where the answer is any but ReadFault each of the two that was asked for was opened, and no call of
-- them failed
abbrev pub AnswersTwo : desk.Reading → desk.Reading → Outcome → Type 0
AnswersTwo old new answer = answer ≢ outcome.ReadFault → HaveSlots old.side new.side × (new.side.faults ≡ old.side.faults)

-- the octets of both, or the answer for the first that wasn't read
module _ (tells : Bool) (first second : Option (List ℕ)) (one two : List ℕ) (old new : desk.Reading) where
  -- the answer where one of the two wasn't read: the fault of a part, and then what was opened; a failed read; or want of memory
  abbrev pub RefusesTwo : Outcome → Type 0
  RefusesTwo (outcome.Part name at fault) = IsFaulty tells first second one two name at fault × OpensUpTo one two old new name
  RefusesTwo outcome.ReadFault = Rose old.side.faults new.side.faults
  RefusesTwo outcome.NoMemory = ⊤
  RefusesTwo _ = ⊥

  -- both were read, or this is the answer
  abbrev pub ReadsTwo : Result (List ℕ × List ℕ) Outcome → Type 0
  ReadsTwo (Ok both) = HoldsTwo tells first second one two old new both.0 both.1
  ReadsTwo (Err answer) = RefusesTwo answer
