-- What `audit DOMAIN NODE LINK BEFORE AFTER REPORT` promises: whether each packet of the capture AFTER can be one of the capture
-- BEFORE that NODE, to which it came by LINK, sent on.
use Rattle.std.specs.Prelude.{◌≡◌, ◌≢◌, ℕ, ◌+◌, ◌<◌, ◌≤◌, ◌⊎◌, ⊤, Bool, false, IsTrue, IsSomeAnd, nat_eq, if◌then◌else◌, List, [], ◌∷◌, ◌++◌, length, slice_get, Option, Some, None, option_and_then}
use Rattle.ioam_base.specs.Octets.{IsFront}
use Rattle.ioam_capture.specs.Reads.{Reads}
use Rattle.ioam_desk.specs.Asked.{AsksFront}
use Rattle.ioam_desk.specs.Desk.{Reading, Writing, Rose, holds}
use Rattle.ioam_desk.specs.Kept.{KeepsInputs, KeepsOutputs}
use Rattle.ioam_desk_outputs.specs.Names.{name_at, AreApart, IsFirstRepeat}
use Rattle.ioam_pcap.specs.Ending.{Ending, Whole, Faulty}
use Rattle.ioam_pcap.specs.Entries.{Taken}
use Rattle.ioam_run_answer.specs.Desks.{Desks}
use Rattle.ioam_run_answer.specs.Failures.{AnswersFailures}
use Rattle.ioam_run_answer.specs.Outcomes.{IsDone, IsBehindAll}
use Rattle.ioam_run_answer.specs.declared.outcome.Outcome.{Outcome}
use Rattle.ioam_run_answer.specs.declared.outcome.Outcome.TheVariants as outcome
use Rattle.ioam_run_audit.specs.Fit.{Place}
use Rattle.ioam_run_audit.specs.Lines.{Yes}
use Rattle.ioam_run_audit.specs.Verdicts.{HasVerdict, IsReport, IsVerdict, NoVerdict}
use Rattle.ioam_run_files.specs.Answer.{refused_as}
use Rattle.ioam_run_files.specs.declared.setting.Refusal.{Refusal}
use Rattle.ioam_run_stream.specs.Promise.{AreFirst, ArePassed, AreWhole, EndsSo, IsInput, IsLong}
use Rattle.ioam_topo.specs.Domain.{links, node_of_name, link_of_name}
use Rattle.ioam_topo.specs.declared.domain.Domain.{Domain}
use Rattle.ioam_topo.specs.declared.ids.LinkId.{LinkId}
use Rattle.ioam_topo.specs.declared.ids.NodeId.{NodeId}
use Rattle.ioam_topo.specs.declared.parts.Link.{Link}
use Rattle.ioam_run_answer.specs.DomainFault.{DomainFault}
use Rattle.ioam_run_files.specs.File.{IsDomainOf, HasFault}

-- ---- what its words name

-- the words of the command, by what they name: files, and the names of the node and of the link by which packets came to it
pub record AuditNames : Type 0 where
  pub domain : List ℕ
  pub node : List ℕ
  pub link : List ℕ
  pub before : List ℕ
  pub after : List ℕ
  pub report : List ℕ

-- they stand behind the command's own name
abbrev pub audit_names : List (List ℕ) → AuditNames
audit_names words = record {
  domain = name_at words 1;
  node = name_at words 2;
  link = name_at words 3;
  before = name_at words 4;
  after = name_at words 5;
  report = name_at words 6;
}

-- the files that are read, in the order in which they are opened
abbrev pub input_files : AuditNames → List (List ℕ)
input_files files = files.domain ∷ files.before ∷ files.after ∷ []

-- all files, in the order in which equal ones are looked for
abbrev pub audit_files : AuditNames → List (List ℕ)
audit_files files = files.domain ∷ files.before ∷ files.after ∷ files.report ∷ []

-- a link, by its place, where it ends at a node
abbrev pub link_by : NodeId → LinkId → Option Link → Option LinkId
link_by node id None = None
link_by node id (Some link) = if nat_eq link.to.0 node.0 then Some id else None

-- that of a name
abbrev pub link_to : Domain → NodeId → List ℕ → Option LinkId
link_to domain node name = option_and_then (λ id. link_by node id (slice_get (links domain) id.0)) (link_of_name domain name)

-- all records of the octets, or as many of the first as are taken, where more come
abbrev pub AreTaken : List Taken → List ℕ → Type 0
AreTaken taken octets = ((ending : Ending) × Reads octets taken ending) ⊎ ArePassed 16777216 taken octets

-- the records of AFTER that are whole in what was handed out of these octets, all but what is left, are each one of these of
-- BEFORE that the node can have sent on, in their order
abbrev pub AreFound : Place → List Taken → List ℕ → List ℕ → Type 0
AreFound place before left octets = (whole : List Taken) × AreWhole left whole octets × IsVerdict place before whole Yes

-- These records of BEFORE were judged where this much of both captures is left to hand
-- out: BEFORE is over; or they are all that are whole in what was handed out of it; or the next record of AFTER isn't known, since
-- AFTER hasn't ended, and no record is whole in what was handed out of it that isn't one of these. Where AFTER has ended, each
-- record of BEFORE that was handed out whole is judged.
module _ (place : Place) (after : Option (List ℕ)) (ended_after : Bool) (left_before left_after : List ℕ) where
  -- the records of BEFORE that were judged
  abbrev pub AreJudged : List Taken → List ℕ → Type 0
  AreJudged before octets = AreTaken before octets
      ⊎ (AreWhole left_before before octets
      ⊎ ((ended_after ≡ false) × AreFirst before octets × IsSomeAnd after (AreFound place before left_after)))

module _ (files : AuditNames) where
  -- NODE is this node, and LINK this link, which ends there
  pub record IsAt (place : Place) : Type 0 where
    pub has_node : node_of_name place.domain files.node ≡ Some place.node
    pub has_link : link_to place.domain place.node files.link ≡ Some place.link

  -- NODE names no node
  abbrev pub NamesNoNode : Domain → List ℕ → Type 0
  NamesNoNode domain name = (node_of_name domain files.node ≡ None) × (name ≡ files.node)

  -- LINK names no link that ends at the node
  abbrev pub NamesNoLink : Domain → List ℕ → Type 0
  NamesNoLink domain name = (node : NodeId) × (node_of_name domain files.node ≡ Some node)
      × (link_to domain node files.link ≡ None) × (name ≡ files.link)

  -- the name of a file that equals an earlier one, and the first
  abbrev pub IsTwice : List ℕ → Type 0
  IsTwice name = (at : ℕ) × IsFirstRepeat (audit_files files) at × (name ≡ name_at (audit_files files) at)

  -- both are fit, and two files have one name
  abbrev pub NamesTwice : Domain → List ℕ → Type 0
  NamesTwice domain name = (place : Place) × (place.domain ≡ domain) × IsAt place × IsTwice name

  -- the first of these
  abbrev pub IsUnfit : Domain → List ℕ → Type 0
  IsUnfit domain name = NamesNoNode domain name ⊎ (NamesNoLink domain name ⊎ NamesTwice domain name)

  -- both are fit, and the files differ
  abbrev pub AreFit : Domain → Type 0
  AreFit domain = (place : Place) × (place.domain ≡ domain) × IsAt place × AreApart (audit_files files)

  -- a capture is BEFORE or AFTER
  abbrev pub IsCapture : List ℕ → Type 0
  IsCapture name = (name ≡ files.before) ⊎ (name ≡ files.after)

  -- What an answer says of the domain that was read: NODE and LINK name what it has and the files differ, but for the first
  -- name of which this isn't so.
  abbrev pub Says : Domain → Outcome → Type 0
  Says domain (outcome.Names name) = IsUnfit domain name
  Says domain (outcome.Packets limit) = AreFit domain × (limit ≡ 16777216)
  Says domain (outcome.Capture name at fault) = AreFit domain × IsCapture name
  Says domain outcome.Done = AreFit domain
  Says domain outcome.ReadFault = AreFit domain
  Says domain outcome.WriteFault = AreFit domain
  Says domain outcome.NoMemory = ⊤
  Says domain _ = ⊥

  -- the files differ, where BEFORE was looked at; so much is known of real files too
  abbrev pub HaveDiffered : Outcome → Type 0
  HaveDiffered outcome.Done = AreApart (audit_files files)
  HaveDiffered (outcome.Capture name at fault) = AreApart (audit_files files) × IsCapture name
  HaveDiffered (outcome.Packets limit) = AreApart (audit_files files)
  HaveDiffered (outcome.Domain fault) = ⊤
  HaveDiffered (outcome.Names name) = ⊤
  HaveDiffered outcome.ReadFault = ⊤
  HaveDiffered outcome.WriteFault = ⊤
  HaveDiffered outcome.NoMemory = ⊤
  HaveDiffered _ = ⊥

  module _ (desk : Writing) where
    -- DOMAIN holds this domain
    abbrev pub HasDomain : Domain → Type 0
    HasDomain domain = IsSomeAnd (holds desk files.domain) (λ octets. IsDomainOf octets domain)

    -- BEFORE is so, and AFTER is
    abbrev pub BeforeIs : (List ℕ → Type 0) → Type 0
    BeforeIs IsSo = IsSomeAnd (holds desk files.before) IsSo

    -- AFTER holds octets that are so
    abbrev pub AfterIs : (List ℕ → Type 0) → Type 0
    AfterIs IsSo = IsSomeAnd (holds desk files.after) IsSo

    -- DOMAIN holds the domain, NODE and LINK say where in it the packets were sent on, and no two files have one name
    pub record IsReady (place : Place) : Type 0 where
      pub has_domain : HasDomain place.domain
      pub at : IsAt place
      pub apart : AreApart (audit_files files)

    -- the run is ready for some node and link
    abbrev pub AreReady : Type 0
    AreReady = (place : Place) × IsReady place

    -- What the names and the files ask for, where nothing fails: the first of the refusals in their order whose condition
    -- holds, or Done. What is wrong with BEFORE comes before what is wrong with AFTER.
    abbrev pub Asked : Outcome → Type 0
    Asked (outcome.Domain fault) = IsSomeAnd (holds desk files.domain) (λ octets. HasFault octets fault)
    Asked (outcome.Names name) = (domain : Domain) × HasDomain domain × IsUnfit domain name
    Asked (outcome.Packets limit) = AreReady × (limit ≡ 16777216) × (BeforeIs (IsLong 16777216) ⊎ (BeforeIs (IsInput 16777216 Whole) × AfterIs (IsLong 16777216)))
    Asked (outcome.Capture name at fault) = AreReady
        × (((name ≡ files.before) × BeforeIs (IsInput 16777216 (Faulty at fault)))
        ⊎ ((name ≡ files.after) × BeforeIs (IsInput 16777216 Whole) × AfterIs (IsInput 16777216 (Faulty at fault))))
    Asked outcome.Done = AreReady × BeforeIs (IsInput 16777216 Whole) × AfterIs (IsInput 16777216 Whole)
    Asked _ = ⊥

    -- REPORT has the text of some records of BEFORE and of AFTER, of 16,777,216 of each at most
    pub record Reports (IsOfBefore IsOfAfter : List Taken → List ℕ → Type 0) (IsBehind : Place → List Taken → List Taken → List ℕ → Type 0)
        (IsText : List ℕ → Type 0) : Type 0 where
      pub place : Place
      pub ready : IsReady place
      pub before : List Taken
      pub after : List Taken
      pub behind : List ℕ
      pub text : List ℕ
      pub of_before : BeforeIs (IsOfBefore before)
      pub of_after : AfterIs (IsOfAfter after)
      pub few_before : length before ≤ 16777216
      pub few_after : length after ≤ 16777216
      pub behind_is : IsBehind place before after behind
      pub report : IsReport place before after behind text
      pub text_is : IsText text

    -- no verdict stands there, and the records of BEFORE are those that were judged where this much of both is left, and AFTER has
    -- ended or hasn't
    abbrev pub IsCutOff : Bool → List ℕ → List ℕ → Place → List Taken → List Taken → List ℕ → Type 0
    IsCutOff ended_after left_before left_after place before after behind = NoVerdict place before after behind
        × BeforeIs (AreJudged place (holds desk files.after) ended_after left_before left_after before)

  module _ (old_in new_in : Reading) (old new : Writing) where
    -- the cause of each answer, where the desk tells what its files hold; want of memory alone has none
    abbrev pub HasCause : Outcome → Type 0
    HasCause outcome.ReadFault = Rose old_in.side.faults new_in.side.faults
    HasCause outcome.WriteFault = Rose old.side.faults new.side.faults
    HasCause outcome.NoMemory = ⊤
    HasCause answer = Asked old answer

    -- REPORT holds the text
    abbrev pub Holds : List ℕ → Type 0
    Holds text = holds new files.report ≡ Some text

    -- REPORT, where it was opened, holds a front of the text
    abbrev pub HoldsPart : List ℕ → Type 0
    HoldsPart text = old.side.slots < new.side.slots → IsSomeAnd (holds new files.report) (λ part. IsFront part text)

    -- and not all of it
    abbrev pub HoldsUnfinished : List ℕ → Type 0
    HoldsUnfinished text = HoldsPart text × (Holds text → ⊥)

    -- REPORT holds a front of the lines and the sums of some first packets of BEFORE by all of AFTER; or, where both captures were
    -- read whole, of these and the verdict, which isn't there to its end
    abbrev pub LeavesPart : Type 0
    LeavesPart = Reports old AreFirst AreTaken NoVerdict HoldsPart ⊎ Reports old (EndsSo Whole) (EndsSo Whole) HasVerdict HoldsUnfinished

    -- What REPORT holds afterwards, where the desk tells: the lines and the sums of all packets of BEFORE by all of AFTER, and
    -- with Done alone the verdict; after a fault of reading those of the packets of BEFORE that were judged by what was
    -- handed out; or nothing was opened for writing; or where it was opened it holds a part.
    abbrev pub Leaves : Outcome → Type 0
    Leaves outcome.Done = Reports old (EndsSo Whole) (EndsSo Whole) HasVerdict Holds
    Leaves (outcome.Capture name at fault) = Reports old AreTaken AreTaken NoVerdict Holds
    Leaves (outcome.Packets limit) = Reports old AreTaken AreTaken NoVerdict Holds
    Leaves outcome.ReadFault = ((new_in.side.slots < old_in.side.slots + 3) × (new ≡ old))
        ⊎ ((old_in.side.slots + 2 < new_in.side.slots) × Reports old AreFirst AreTaken
        (IsCutOff old (new_in.ended (old_in.side.slots + 2)) (new_in.left (old_in.side.slots + 1)) (new_in.left (old_in.side.slots + 2))) Holds)
    Leaves outcome.WriteFault = LeavesPart
    Leaves outcome.NoMemory = (new ≡ old) ⊎ LeavesPart
    Leaves outcome.Usage = new ≡ old
    Leaves (outcome.Domain fault) = new ≡ old
    Leaves (outcome.Names name) = new ≡ old
    Leaves _ = ⊥

    -- neither capture was opened, and not REPORT
    abbrev pub OpensNone : Type 0
    OpensNone = AsksFront old_in.side.asked new_in.side.asked (files.domain ∷ []) × (new ≡ old)

    -- what was given is refused before anything of BEFORE is looked at
    abbrev pub IsUntouched : Outcome → Type 0
    IsUntouched (outcome.Domain fault) = OpensNone
    IsUntouched (outcome.Names name) = OpensNone
    IsUntouched _ = ⊤

    -- DOMAIN, BEFORE and AFTER were read to their ends
    abbrev pub AreDrained : Type 0
    AreDrained = IsTrue (new_in.ended old_in.side.slots) × IsTrue (new_in.ended (old_in.side.slots + 1))
        × IsTrue (new_in.ended (old_in.side.slots + 2))

module _ (tells : Bool) (files : AuditNames) (old_in new_in : Reading) (old new : Writing) where
  -- the answer is one over this domain, which DOMAIN holds where the desk tells; the captures and REPORT were opened only where
  -- NODE and LINK are fit in it and the files differ
  pub record IsOver (answer : Outcome) (domain : Domain) : Type 0 where
    pub set : IsTrue tells → HasDomain files old domain
    pub says : Says files domain answer
    pub fit : OpensNone files old_in new_in old new ⊎ AreFit files domain

  -- DOMAIN was refused, or the answer is one over a domain
  abbrev pub IsOfDomain : Outcome → Type 0
  IsOfDomain answer = (OpensNone files old_in new_in old new × ((why : Refusal) × (answer ≡ refused_as why)))
      ⊎ ((domain : Domain) × IsOver answer domain)

  -- The names that were given to the opening calls, whatever the desk tells: a front of DOMAIN, BEFORE and AFTER, and of REPORT;
  -- and those where the answer comes once REPORT was written. And what the answer says of the domain.
  pub record Asks (answer : Outcome) : Type 0 where
    pub front_in : AsksFront old_in.side.asked new_in.side.asked (input_files files)
    pub front_out : AsksFront old.side.asked new.side.asked (files.report ∷ [])
    pub all_in : IsBehindAll ⊥ answer → new_in.side.asked ≡ old_in.side.asked ++ input_files files
    pub all_out : IsBehindAll ⊥ answer → new.side.asked ≡ old.side.asked ++ files.report ∷ []
    pub untouched : IsUntouched files old_in new_in old new answer
    pub domain_first : (fault : DomainFault) → answer ≡ outcome.Domain fault
        → AsksFront old_in.side.asked new_in.side.asked (files.domain ∷ [])
    pub no_output : new_in.side.slots < old_in.side.slots + 3 → new ≡ old
    pub of_domain : IsOfDomain answer

  -- what is promised of the answer but that it is the one asked for: its cause, what was opened and read, and what REPORT holds
  pub record Owes (answer : Outcome) : Type 0 where
    pub read_fault : answer ≡ outcome.ReadFault → Rose old_in.side.faults new_in.side.faults
    pub write_fault : answer ≡ outcome.WriteFault → Rose old.side.faults new.side.faults
    pub usage : answer ≢ outcome.Usage
    pub differed : HaveDiffered files answer
    pub cause : IsTrue tells → HasCause files old_in new_in old new answer
    pub leaves : IsTrue tells → Leaves files old_in new_in old new answer
    pub asks : Asks answer
    -- nothing of BEFORE and of AFTER is read before REPORT is opened
    pub unread : IsTrue tells → new.side.slots ≡ old.side.slots
        → (old_in.side.slots + 1 < new_in.side.slots → holds old files.before ≡ Some (new_in.left (old_in.side.slots + 1)))
        × (old_in.side.slots + 2 < new_in.side.slots → holds old files.after ≡ Some (new_in.left (old_in.side.slots + 2)))
    pub drained : IsDone answer → IsTrue tells → AreDrained files old_in new_in old new
    pub kept_in : KeepsInputs old_in new_in
    pub kept_out : IsTrue tells → KeepsOutputs old new

-- ---- the promise

module _ (desks : Desks) (files : AuditNames) where
  -- what `audit` promises of its answer
  pub record Keeps (answer : Outcome) : Type 0 where
    pub owes : Owes desks.tells files desks.old_in desks.new_in desks.old desks.new answer
    -- what is asked for is answered, unless a call of the desk failed or no memory could be had
    pub exact : (asked : Outcome) → IsTrue desks.tells → Asked files desks.old asked
        → (Rose desks.old_in.side.faults desks.new_in.side.faults → ⊥) → (Rose desks.old.side.faults desks.new.side.faults → ⊥)
        → (answer ≡ asked) ⊎ (answer ≡ outcome.NoMemory)
    -- what failed is answered: each input that was asked for was opened, but behind ReadFault; no call of one failed where the words
    -- and the files decided the answer, and none of REPORT where it is any but WriteFault
    pub failures : AnswersFailures desks answer
