-- How a run ended whose domain and readings were read.
use Rattle.std.specs.Prelude.{◌≡◌, ℕ, ◌+◌, ◌<◌, ◌≤◌, ◌⊎◌, Bool, IsTrue, List, [], ◌∷◌, ◌++◌, length, Some}
use Rattle.ioam_run_files.specs.Outcomes.{IsDone, IsBehindAll}
use Rattle.ioam_run_files.specs.Outcome.{Outcome}
use Rattle.ioam_run_files.specs.Outcome.TheVariants as outcome
use Rattle.ioam_clock.specs.declared.sample.Sample.{Sample}
use Rattle.ioam_desk.specs.Asked.{AsksFront}
use Rattle.ioam_desk.specs.Desk.{Reading, Writing, holds}
use Rattle.ioam_desk.specs.Kept.{KeepsInputs, KeepsOutputs}
use Rattle.ioam_desk_outputs.specs.Names.{name_at, AreApart, IsFirstRepeat}
use Rattle.ioam_run_stream.specs.Answers.{FileCause}
use Rattle.ioam_run_stream.specs.Promise as capture
use Rattle.ioam_topo.specs.declared.domain.Domain.{Domain}
use Rattle.ioam_run_node.specs.NodeText.{NodeTexts}
use Rattle.ioam_run_node.specs.Promise.{NodeNames, IsAt, IsUnfit, node_files, output_files}
use Rattle.ioam_run_node.specs.Seat.{Seat}

-- so many packets of this capture, at most, were gathered for these outputs
module _ (tells : Bool) (old_in new_in : Reading) (old new : Writing) (seat : Seat) (answer : Outcome) where
  -- what such a run leaves: the cause of its answer, what the outputs hold, what was opened and read, and what is as it was
  pub record Gathered (most : ℕ) (input : List ℕ) (outputs : List (List ℕ)) : Type 0 where
    pub cause : FileCause most tells input old_in old new_in new answer
    pub leaves : IsTrue tells → capture.Leaves most (NodeTexts seat) outputs input old_in new_in old new answer
    pub asked_in : AsksFront old_in.side.asked new_in.side.asked (input ∷ [])
    pub asked_out : AsksFront old.side.asked new.side.asked outputs
    pub all_in : IsBehindAll ⊥ answer → new_in.side.asked ≡ old_in.side.asked ++ input ∷ []
    pub all_out : IsBehindAll ⊥ answer → new.side.asked ≡ old.side.asked ++ outputs
    pub no_output : new_in.side.slots ≤ old_in.side.slots → new ≡ old
    pub unread : IsTrue tells → new.side.slots < old.side.slots + length outputs → old_in.side.slots < new_in.side.slots
        → holds old input ≡ Some (new_in.left old_in.side.slots)
    pub drained : IsDone answer → IsTrue tells → IsTrue (new_in.ended old_in.side.slots)
    pub kept_in : KeepsInputs old_in new_in
    pub kept_out : IsTrue tells → KeepsOutputs old new

module _ (tells : Bool) (files : NodeNames) (old_in new_in : Reading) (old new : Writing) where
  -- nothing was opened: a name is refused, or no memory could be had
  pub record Stays (IsRefused : List ℕ → Type 0) (answer : Outcome) : Type 0 where
    pub why : (answer ≡ outcome.NoMemory) ⊎ ((name : List ℕ) × (answer ≡ outcome.Names name) × IsRefused name)
    pub same_in : new_in ≡ old_in
    pub same : new ≡ old

  -- IN was gathered, and no two files have one name
  pub record Ran (seat : Seat) (answer : Outcome) : Type 0 where
    pub apart : AreApart (node_files files)
    pub some : 1 ≤ seat.domain.packets
    pub most : seat.domain.packets ≤ 16777216
    pub gathered : Gathered tells old_in new_in old new seat answer seat.domain.packets files.input (output_files files)

  -- the name of a file that equals an earlier one
  abbrev pub IsTwice : List ℕ → Type 0
  IsTwice name = (at : ℕ) × IsFirstRepeat (node_files files) at × (name ≡ name_at (node_files files) at)

  -- of a node
  abbrev pub EndsAt : Seat → Outcome → Type 0
  EndsAt seat answer = Stays IsTwice answer ⊎ Ran seat answer

  -- this is a node of the domain, which the files name, and IN was gathered there
  pub record RanAt (domain : Domain) (samples : List (List Sample)) (answer : Outcome) : Type 0 where
    pub seat : Seat
    pub same_domain : seat.domain ≡ domain
    pub same_samples : seat.samples ≡ samples
    pub at : IsAt files seat.domain seat.node seat.inward
    pub ran : Ran seat answer

  -- in a domain
  abbrev pub Ends : Domain → List (List Sample) → Outcome → Type 0
  Ends domain samples answer = Stays (IsUnfit files domain) answer ⊎ RanAt domain samples answer
