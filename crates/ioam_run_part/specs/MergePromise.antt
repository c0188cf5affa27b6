-- What `merge ONE TWO PART` promises.
use Rattle.std.specs.Prelude.{◌≡◌, ◌≢◌, ℕ, ◌+◌, ◌<◌, ◌⊎◌, ◌↔◌, ⊤, Bool, IsTrue, IsSomeAnd, List, [], ◌∷◌, ◌++◌, Option, Some}
use Rattle.ioam_base.specs.Octets.{IsFront}
use Rattle.ioam_desk.specs.Asked.{AsksFront}
use Rattle.ioam_desk.specs.Desk.{Reading, Writing, Rose, holds}
use Rattle.ioam_desk.specs.Kept.{KeepsInputs, KeepsOutputs}
use Rattle.ioam_run_answer.specs.Record.{Record}
use Rattle.ioam_collect.specs.Best.{groups_of}
use Rattle.ioam_collect.specs.Keyed.{keyed}
use Rattle.ioam_part.specs.Faults.{HasFault}
use Rattle.ioam_part.specs.Part.{JoinsTo}
use Rattle.ioam_part.specs.declared.fault.PartFault.{PartFault}
use Rattle.ioam_run_answer.specs.Desks.{Desks}
use Rattle.ioam_run_answer.specs.Failures.{AnswersFailures}
use Rattle.ioam_run_answer.specs.Outcomes.{IsDone, IsBehindAll, OpensNothing}
use Rattle.ioam_run_answer.specs.declared.outcome.Outcome.{Outcome}
use Rattle.ioam_run_answer.specs.declared.outcome.Outcome.TheVariants as outcome
use Rattle.ioam_run_part.specs.Files.{MergeNames, AreApart, IsRepeat}
use Rattle.ioam_run_part.specs.Records.{IsPartOfAll, IsAPart, HoldBoth, AreParts, KeepFew, KeepMany, IsSecondFaulty, ReadsFew}

-- ---- which answer is asked for, and why each comes

module _ (tells : Bool) (first second : Option (List ℕ)) (one two : List ℕ) where
  -- ONE has this fault at this place; or ONE is a part, and TWO has it
  abbrev pub IsFaulty : List ℕ → ℕ → PartFault → Type 0
  IsFaulty name at fault = ((name ≡ one) × (IsTrue tells → IsSomeAnd first (λ octets. HasFault octets at fault)))
      ⊎ ((name ≡ two) × (IsTrue tells → HoldBoth first second (IsSecondFaulty at fault)))

-- What the names and the files ask for, where nothing fails: the first of the refusals in their order whose
-- condition holds, or Done. What ONE and TWO hold is spoken of where the desk tells.
module _ (tells : Bool) (first second : Option (List ℕ)) (one two part : List ℕ) where
  -- the answer that the names and what ONE and TWO hold ask for, where nothing fails
  abbrev pub MergeAsked : Outcome → Type 0
  MergeAsked (outcome.Names name) = IsRepeat one two part name
  MergeAsked (outcome.Part name at fault) = AreApart one two part × IsFaulty tells first second one two name at fault
  MergeAsked (outcome.Records limit) = AreApart one two part × (limit ≡ 1048576) × (IsTrue tells → HoldBoth first second (AreParts KeepMany))
  MergeAsked outcome.Done = AreApart one two part × (IsTrue tells → HoldBoth first second (AreParts KeepFew))
  MergeAsked _ = ⊥

  -- the cause of each answer; want of memory alone has none
  module _ (old_in new_in : Reading) (old new : Writing) where
    -- the cause of an answer: a count of faults that rose, or that the answer is asked for; want of memory alone needs none
    abbrev pub MergeCause : Outcome → Type 0
    MergeCause outcome.ReadFault = Rose old_in.side.faults new_in.side.faults
    MergeCause outcome.WriteFault = Rose old.side.faults new.side.faults
    MergeCause outcome.NoMemory = ⊤
    MergeCause answer = MergeAsked answer

-- ---- what PART holds afterwards

-- the octets are what two parts join to, the part of what either has, and no other octets are
pub record IsMerged (one two both : List ℕ) : Type 0 where
  pub joins : JoinsTo one two both
  pub alone : (other : List ℕ) → JoinsTo one two other → other ≡ both

-- Joining is a union. Of the parts of any records it is the part of all these; it is commutative, associative and idempotent; and
-- two parts are equal octets exactly if their groups are equal.
pub record IsUnion (one two both : List ℕ) : Type 0 where
  pub of_all : (xs ys : List Record) → IsPartOfAll xs one → IsPartOfAll ys two → IsPartOfAll (xs ++ ys) both
  pub swaps : (other : List ℕ) → JoinsTo two one other → other ≡ both
  pub associates : (three all back other : List ℕ) → JoinsTo both three all → JoinsTo two three back → JoinsTo one back other → all ≡ other
  pub repeats : one ≡ two → both ≡ one
  pub equal : (xs ys : List Record) → IsPartOfAll xs one → IsPartOfAll ys two → (one ≡ two ↔ groups_of (keyed xs) ≡ groups_of (keyed ys))

-- PART is what ONE and TWO join to
pub record HoldsMerged (new : Writing) (part : List ℕ) (one two : List ℕ) : Type 0 where
  pub both : List ℕ
  pub merged : IsMerged one two both
  pub union : IsUnion one two both
  pub held : holds new part ≡ Some both

-- PART, where it was opened, is a front of that
pub record HoldsMergedFront (old new : Writing) (part : List ℕ) (one two : List ℕ) : Type 0 where
  pub both : List ℕ
  pub merged : IsMerged one two both
  pub union : IsUnion one two both
  pub held : old.side.slots < new.side.slots → IsSomeAnd (holds new part) (λ front. IsFront front both)

-- What PART holds afterwards, where the desk tells: what ONE and TWO join to, or a front of that; or nothing was opened for writing.
module _ (first second : Option (List ℕ)) (part : List ℕ) (old new : Writing) where
  -- what PART holds, by the answer: what both parts join to, or a front of that; nothing was opened where a name or a part is
  -- refused, a read failed or both keep too many
  abbrev pub MergeLeaves : Outcome → Type 0
  MergeLeaves outcome.Done = HoldBoth first second (HoldsMerged new part)
  MergeLeaves outcome.WriteFault = HoldBoth first second (HoldsMergedFront old new part)
  MergeLeaves outcome.NoMemory = (new ≡ old) ⊎ HoldBoth first second (HoldsMergedFront old new part)
  MergeLeaves (outcome.Names name) = new ≡ old
  MergeLeaves (outcome.Part name at fault) = new ≡ old
  MergeLeaves (outcome.Records limit) = new ≡ old
  MergeLeaves outcome.ReadFault = new ≡ old
  MergeLeaves _ = ⊥

-- the answer comes before PART is opened
abbrev pub OpensNoPart : Outcome → Type 0
OpensNoPart (outcome.Names name) = ⊤
OpensNoPart (outcome.Part name at fault) = ⊤
OpensNoPart (outcome.Records limit) = ⊤
OpensNoPart outcome.ReadFault = ⊤
OpensNoPart _ = ⊥

-- ---- the promise

module _ (desks : Desks) (files : MergeNames) where
  -- what ONE and TWO hold
  abbrev pub one_held : Option (List ℕ)
  one_held = holds desks.old files.one

  -- what TWO holds
  abbrev pub two_held : Option (List ℕ)
  two_held = holds desks.old files.two

  -- what `merge` promises of its answer
  pub record MergeKeeps (answer : Outcome) : Type 0 where
    pub cause : MergeCause desks.tells one_held two_held files.one files.two files.part desks.old_in desks.new_in desks.old desks.new answer
    pub leaves : IsTrue desks.tells → MergeLeaves one_held two_held files.part desks.old desks.new answer
    -- what is asked for is answered, unless a call of the desk failed or no memory could be had
    pub exact : (asked : Outcome) → IsTrue desks.tells → MergeAsked desks.tells one_held two_held files.one files.two files.part asked
        → (Rose desks.old_in.side.faults desks.new_in.side.faults → ⊥) → (Rose desks.old.side.faults desks.new.side.faults → ⊥)
        → (answer ≡ asked) ⊎ (answer ≡ outcome.NoMemory)
    -- the names that were opened, told or not; and, where the desk tells, TWO only where ONE is a part
    pub asked_in : AsksFront desks.old_in.side.asked desks.new_in.side.asked (files.one ∷ files.two ∷ [])
    pub asked_out : AsksFront desks.old.side.asked desks.new.side.asked (files.part ∷ [])
    pub all_in : IsBehindAll ⊥ answer → desks.new_in.side.asked ≡ desks.old_in.side.asked ++ files.one ∷ files.two ∷ []
    pub all_out : IsDone answer → desks.new.side.asked ≡ desks.old.side.asked ++ files.part ∷ []
    pub in_turn : desks.new_in.side.asked ≡ desks.old_in.side.asked ++ files.one ∷ files.two ∷ [] → IsTrue desks.tells → IsSomeAnd one_held IsAPart
    -- TWO is asked for only where ONE was opened, told or not
    pub one_opened : desks.new_in.side.asked ≡ desks.old_in.side.asked ++ files.one ∷ files.two ∷ [] → desks.old_in.side.slots < desks.new_in.side.slots
    -- where ONE is no part TWO isn't opened, told or not; where TWO is none both were
    pub one_alone : (at : ℕ) (fault : PartFault) → answer ≡ outcome.Part files.one at fault → desks.new_in.side.asked ≡ desks.old_in.side.asked ++ files.one ∷ []
    pub both_asked : (at : ℕ) (fault : PartFault) → answer ≡ outcome.Part files.two at fault → desks.new_in.side.asked ≡ desks.old_in.side.asked ++ files.one ∷ files.two ∷ []
    -- nothing is opened where two names are equal, and no output before both were opened, nor where one is no part or both have
    -- too many records; where all is done both were read to their ends, where the desk tells
    pub unopened : OpensNothing answer → desks.new_in ≡ desks.old_in
    pub differed : (desks.new_in ≡ desks.old_in) ⊎ AreApart files.one files.two files.part
    pub no_output : desks.new_in.side.slots < desks.old_in.side.slots + 2 → desks.new ≡ desks.old
    pub no_part : OpensNoPart answer → desks.new ≡ desks.old
    pub drained : IsDone answer → IsTrue desks.tells → IsTrue (desks.new_in.ended desks.old_in.side.slots)
        × IsTrue (desks.new_in.ended (desks.old_in.side.slots + 1))
    -- of each of the two at most the first 300,000,000 octets are read
    pub few_one : desks.old_in.side.slots < desks.new_in.side.slots → ReadsFew desks.tells one_held desks.old_in.side.slots desks.new_in
    pub few_two : desks.old_in.side.slots + 1 < desks.new_in.side.slots → ReadsFew desks.tells two_held (desks.old_in.side.slots + 1) desks.new_in
    -- what failed is answered: each of ONE and TWO that was asked for was opened, but behind ReadFault; no call of them failed where
    -- the words and the files decided the answer, and none of PART unless the answer is WriteFault
    pub failures : AnswersFailures desks answer
    -- a failed opening or read of ONE or TWO is answered as such, and as nothing else
    pub read_failed : answer ≢ outcome.ReadFault → desks.new_in.side.faults ≡ desks.old_in.side.faults
    -- input slots that were there, and where the desk tells output slots that were there and names that weren't opened to be written, are as they were
    pub kept_in : KeepsInputs desks.old_in desks.new_in
    pub kept_out : IsTrue desks.tells → KeepsOutputs desks.old desks.new
