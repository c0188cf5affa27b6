-- How a run ends whose domain was read.
use Rattle.std.specs.Prelude.{◌≡◌, ℕ, ◌+◌, ◌<◌, ◌≤◌, ◌⊎◌, Bool, IsTrue, IsSomeAnd, List, [], ◌∷◌, ◌++◌, length, Option, Some}
use Rattle.ioam_base.specs.Octets.{IsFront}
use Rattle.ioam_desk.specs.Asked.{AsksFront}
use Rattle.ioam_desk.specs.Desk as desk
use Rattle.ioam_desk.specs.Desk.{Writing, Rose, holds}
use Rattle.ioam_desk.specs.Kept.{KeepsInputs, KeepsOutputs}
use Rattle.ioam_desk_outputs.specs.Held.{HoldTexts}
use Rattle.ioam_desk_outputs.specs.Names.{AreApart}
use Rattle.ioam_pcap.specs.Ending.{Whole}
use Rattle.ioam_pcap.specs.Entries.{Taken}
use Rattle.ioam_run_answer.specs.Outcomes.{IsBehindAll}
use Rattle.ioam_run_answer.specs.declared.outcome.Outcome.{Outcome}
use Rattle.ioam_run_answer.specs.declared.outcome.Outcome.TheVariants as outcome
use Rattle.ioam_run_stream.specs.Promise.{AreFirst, EndsSo}
use Rattle.ioam_topo.specs.declared.domain.Domain.{Domain}
use Rattle.ioam_run_audit.specs.Cursors.{EndsBy}
use Rattle.ioam_run_audit.specs.Fit.{Place}
use Rattle.ioam_run_audit.specs.Lines.{BecomeOf, report_of, sums_of, verdict_line, verdict_of}
use Rattle.ioam_run_audit.specs.Promise.{AreJudged, AreTaken, AuditNames, IsAt, IsTwice, IsUnfit, audit_files}
use Rattle.ioam_run_audit.specs.declared.cursor.End.{End}
use Rattle.ioam_run_audit.specs.declared.cursor.End.TheVariants as end
use Rattle.ioam_run_audit.specs.declared.fate.Fate.{Fate}

-- the answer if BEFORE and AFTER, of these names, end so: what is wrong with BEFORE comes first
abbrev pub answer_of : List ℕ → List ℕ → End → End → Outcome
answer_of before after (end.Bad at fault) last = outcome.Capture before at fault
answer_of before after end.Limit last = outcome.Packets 16777216
answer_of before after end.Whole (end.Bad at fault) = outcome.Capture after at fault
answer_of before after end.Whole end.Limit = outcome.Packets 16777216
answer_of before after end.Whole end.Whole = outcome.Done
answer_of before after end.Whole end.Open = outcome.Done
answer_of before after end.Open (end.Bad at fault) = outcome.Capture after at fault
answer_of before after end.Open end.Limit = outcome.Packets 16777216
answer_of before after end.Open end.Whole = outcome.Done
answer_of before after end.Open end.Open = outcome.Done

-- nothing stands behind the sums
abbrev pub NoneBehind : List Fate → List Taken → List ℕ → Type 0
NoneBehind fates rest behind = behind ≡ []

-- what stands behind the sums: the verdict if both captures were read whole, else nothing
abbrev pub BehindBy : End → End → List Fate → List Taken → List ℕ → Type 0
BehindBy end.Whole end.Whole fates rest behind = behind ≡ verdict_line (verdict_of rest (sums_of fates).sent)
BehindBy end.Whole end.Limit fates rest behind = behind ≡ []
BehindBy end.Whole (end.Bad at fault) fates rest behind = behind ≡ []
BehindBy end.Whole end.Open fates rest behind = behind ≡ []
BehindBy end.Limit last fates rest behind = behind ≡ []
BehindBy (end.Bad at fault) last fates rest behind = behind ≡ []
BehindBy end.Open last fates rest behind = behind ≡ []

-- where a run began: what BEFORE and AFTER hold, the number of the output's slot, and the name of REPORT
pub record Start : Type 0 where
  pub before : Option (List ℕ)
  pub after : Option (List ℕ)
  pub base : ℕ
  pub report : List ℕ

abbrev pub start_of : Writing → List ℕ → List ℕ → List ℕ → Start
start_of old before after report = record { before = holds old before; after = holds old after; base = old.side.slots; report = report }

-- Some records of BEFORE and some of AFTER, 16,777,216 of each at most, and what becomes of the packets of the first by those
-- of the second, of which these are left.
pub record Matched (start : Start) (place : Place) (IsOfBefore IsOfAfter : List Taken → List ℕ → Type 0) (fates : List Fate) (rest : List Taken) : Type 0 where
  pub xs : List Taken
  pub ys : List Taken
  pub are : BecomeOf place xs ys fates rest
  pub of_before : IsSomeAnd start.before (IsOfBefore xs)
  pub of_after : IsSomeAnd start.after (IsOfAfter ys)
  pub few_before : length xs ≤ 16777216
  pub few_after : length ys ≤ 16777216

module _ (start : Start) (place : Place) (outputs : Writing) where
  -- REPORT, if it was opened, holds a prefix of the text
  abbrev pub IsPart : List ℕ → Type 0
  IsPart text = start.base < outputs.side.slots → IsSomeAnd (holds outputs start.report) (λ part. IsFront part text)

  -- and not all of it
  abbrev pub IsUnfinished : List ℕ → Type 0
  IsUnfinished text = IsPart text × (holds outputs start.report ≡ Some text → ⊥)

  -- what REPORT holds of the text of some packets of both
  pub record Part (IsOfBefore IsOfAfter : List Taken → List ℕ → Type 0) (Behind : List Fate → List Taken → List ℕ → Type 0) (IsText : List ℕ → Type 0) : Type 0 where
    pub fates : List Fate
    pub rest : List Taken
    pub behind : List ℕ
    pub matched : Matched start place IsOfBefore IsOfAfter fates rest
    pub behind_is : Behind fates rest behind
    pub held : IsText (report_of fates behind)

  -- a prefix of the lines and the sums of some first packets of BEFORE by all of AFTER; or of the whole text but its end
  abbrev pub Parts : Type 0
  Parts = Part AreFirst AreTaken NoneBehind IsPart ⊎ Part (EndsSo Whole) (EndsSo Whole) (BehindBy end.Whole end.Whole) IsUnfinished

  -- REPORT holds the text of some packets of both
  abbrev pub Written : (IsOfBefore IsOfAfter : List Taken → List ℕ → Type 0) → (List Fate → List Taken → List ℕ → Type 0) → Type 0
  Written IsOfBefore IsOfAfter Behind = Part IsOfBefore IsOfAfter Behind (λ text. HoldTexts outputs (start.report ∷ []) (text ∷ []))

module _ (tells : Bool) (start : Start) (place : Place) where
  -- both were read, and REPORT was written
  pub record Closes (before after : List ℕ) (first second : ℕ) (inputs : desk.Reading) (outputs : Writing) (answer : Outcome) : Type 0 where
    pub how : End
    pub last : End
    pub answer_is : answer ≡ answer_of before after how last
    pub known : IsTrue tells → (how ≡ end.Open → ⊥) × (last ≡ end.Open → ⊥)
    pub written : IsTrue tells → Written start place outputs (EndsBy how) (EndsBy last) (BehindBy how last)
    pub drained : how ≡ end.Whole → last ≡ end.Whole → IsTrue tells → IsTrue (inputs.ended first) × IsTrue (inputs.ended second)

  -- REPORT holds the text of the packets of BEFORE that were judged, if this is what the two slots have still to hand out, and the
  -- second has ended or hasn't
  abbrev pub WrittenCut : desk.Reading → ℕ → ℕ → Writing → Type 0
  WrittenCut inputs first second outputs =
      Written start place outputs (AreJudged place start.after (inputs.ended second) (inputs.left first) (inputs.left second)) AreTaken NoneBehind

  -- a read failed, and REPORT was written as far as it can be
  pub record CutsOff (first second : ℕ) (old_in new_in : desk.Reading) (outputs : Writing) (answer : Outcome) : Type 0 where
    pub answer_is : answer ≡ outcome.ReadFault
    pub rose : Rose old_in.side.faults new_in.side.faults
    pub opened : old_in.side.slots + 2 ≤ new_in.side.slots
    pub written : IsTrue tells → WrittenCut new_in first second outputs

  -- a call of REPORT failed
  pub record Sticks (old_out new_out : Writing) (answer : Outcome) : Type 0 where
    pub answer_is : answer ≡ outcome.WriteFault
    pub rose : Rose old_out.side.faults new_out.side.faults
    pub parts : IsTrue tells → Parts start place new_out

  -- memory ran out
  pub record RunsOut (old_out new_out : Writing) (answer : Outcome) : Type 0 where
    pub answer_is : answer ≡ outcome.NoMemory
    pub parts : IsTrue tells → (new_out ≡ old_out) ⊎ Parts start place new_out

-- one of the captures couldn't be opened
pub record Misses (old_in new_in : desk.Reading) (old new : Writing) (answer : Outcome) : Type 0 where
  pub answer_is : answer ≡ outcome.ReadFault
  pub rose : Rose old_in.side.faults new_in.side.faults
  pub few : new_in.side.slots < old_in.side.slots + 2
  pub same : new ≡ old

-- of what these hold nothing was read, each as far as it was opened, by this slot
abbrev pub AreUnread : desk.Reading → Option (List ℕ) → Option (List ℕ) → ℕ → ℕ → Type 0
AreUnread inputs before after first second = (first < inputs.side.slots → before ≡ Some (inputs.left first))
    × (second < inputs.side.slots → after ≡ Some (inputs.left second))

module _ (tells : Bool) (place : Place) (before after report : List ℕ) (old_in new_in : desk.Reading) (old new : Writing) where
  -- what is answered
  abbrev pub Finishes : Outcome → Type 0
  Finishes answer = Closes tells (start_of old before after report) place before after old_in.side.slots (old_in.side.slots + 1) new_in new answer
      ⊎ (CutsOff tells (start_of old before after report) place old_in.side.slots (old_in.side.slots + 1) old_in new_in new answer
      ⊎ (Misses old_in new_in old new answer
      ⊎ (Sticks tells (start_of old before after report) place old new answer
      ⊎ RunsOut tells (start_of old before after report) place old new answer)))

  -- the files were to be opened
  pub record RunsFiles (answer : Outcome) : Type 0 where
    pub ends : Finishes answer
    pub asked_in : AsksFront old_in.side.asked new_in.side.asked (before ∷ after ∷ [])
    pub asked_out : AsksFront old.side.asked new.side.asked (report ∷ [])
    pub all : IsBehindAll ⊥ answer → (new_in.side.asked ≡ old_in.side.asked ++ before ∷ after ∷ []) × (new.side.asked ≡ old.side.asked ++ report ∷ [])
    pub no_output : new_in.side.slots < old_in.side.slots + 2 → new ≡ old
    pub unread : IsTrue tells → new.side.slots ≡ old.side.slots
        → AreUnread new_in (holds old before) (holds old after) old_in.side.slots (old_in.side.slots + 1)
    pub kept_in : KeepsInputs old_in new_in
    pub kept_out : IsTrue tells → KeepsOutputs old new

module _ (tells : Bool) (files : AuditNames) (old_in new_in : desk.Reading) (old new : Writing) where
  -- nothing was opened: a name is refused, or no memory could be had
  pub record Stays (IsRefused : List ℕ → Type 0) (answer : Outcome) : Type 0 where
    pub why : (answer ≡ outcome.NoMemory) ⊎ ((name : List ℕ) × (answer ≡ outcome.Names name) × IsRefused name)
    pub same_in : new_in ≡ old_in
    pub same : new ≡ old

  -- no two files have one name, and they were to be opened
  pub record Ran (place : Place) (answer : Outcome) : Type 0 where
    pub apart : AreApart (audit_files files)
    pub runs : RunsFiles tells place files.before files.after files.report old_in new_in old new answer

  -- of a node and a link
  abbrev pub EndsAt : Place → Outcome → Type 0
  EndsAt place answer = Stays (IsTwice files) answer ⊎ Ran place answer

  -- they are those of the domain that the files name
  pub record RanAt (domain : Domain) (answer : Outcome) : Type 0 where
    pub place : Place
    pub same_domain : place.domain ≡ domain
    pub at : IsAt files place
    pub ran : Ran place answer

  -- in a domain
  abbrev pub Ends : Domain → Outcome → Type 0
  Ends domain answer = Stays (IsUnfit files domain) answer ⊎ RanAt domain answer
