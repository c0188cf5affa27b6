-- What `node DOMAIN READINGS NODE LINK IN OUT REPORT EXPORTS` promises: the packets of the capture IN come to
-- NODE by LINK, and it sends them on.
use Rattle.std.specs.Prelude.{◌≡◌, ◌≢◌, ℕ, ◌+◌, ◌<◌, ◌≤◌, ◌⊎◌, ⊤, All, Bool, IsTrue, IsSomeAnd, nat_eq, if◌then◌else◌, List, [], ◌∷◌, ◌++◌, length, slice_get, Option, Some, None, option_and_then}
use Rattle.std.specs.List.{AllByRecursion, flat_map}
use Rattle.ioam_run_files.specs.Desks.{Desks}
use Rattle.ioam_run_files.specs.Failures.{AnswersFailures}
use Rattle.ioam_run_files.specs.Outcomes.{IsDone, IsBehindAll}
use Rattle.ioam_run_files.specs.Outcome.{Outcome}
use Rattle.ioam_run_files.specs.Outcome.TheVariants as outcome
use Rattle.ioam_clock.specs.declared.sample.Sample.{Sample}
use Rattle.ioam_desk.specs.Asked.{AsksFront}
use Rattle.ioam_desk.specs.Desk.{Reading, Writing, Rose, holds}
use Rattle.ioam_desk.specs.Kept.{KeepsInputs, KeepsOutputs}
use Rattle.ioam_run_files.specs.DomainFault.{DomainFault}
use Rattle.ioam_desk_outputs.specs.Names.{name_at, AreApart, IsFirstRepeat}
use Rattle.ioam_pcap.specs.Ending.{Whole, Faulty}
use Rattle.ioam_pcap.specs.Entries.{Taken}
use Rattle.ioam_pcap.specs.Text.{IsSendable, capture_text}
use Rattle.ioam_run_stream.specs.Promise.{AreFirst, IsInput, IsLong, HoldsAll, HoldsFronts, EndsSo, ArePassed, AreWhole}
use Rattle.ioam_run_files.specs.Answer.{refused_as}
use Rattle.ioam_run_files.specs.Setting.{HasDomainFault, HasReadingsFault, InTurn, IsSetting}
use Rattle.ioam_run_files.specs.declared.setting.Refusal.{Refusal}
use Rattle.ioam_topo.specs.Domain.{links, node_of_name, link_of_name}
use Rattle.ioam_topo.specs.declared.domain.Domain.{Domain}
use Rattle.ioam_topo.specs.declared.ids.NodeId.{NodeId}
use Rattle.ioam_topo.specs.declared.parts.Link.{Link}
use Rattle.ioam_run_node.specs.NodeText.{NodeTexts, sent_of}
use Rattle.ioam_run_node.specs.Passage.{ArePassages, Passage, LeavesClean}
use Rattle.ioam_run_node.specs.Seat.{Seat}

-- ---- what its words name

-- the words of the command, by what they name: files, and the names of a node and of the link by which packets come to it
pub record NodeNames : Type 0 where
  pub domain : List ℕ
  pub readings : List ℕ
  pub node : List ℕ
  pub link : List ℕ
  pub input : List ℕ
  pub out : List ℕ
  pub report : List ℕ
  pub exports : List ℕ

-- they stand behind the command's own name
abbrev pub node_names : List (List ℕ) → NodeNames
node_names words = record {
  domain = name_at words 1;
  readings = name_at words 2;
  node = name_at words 3;
  link = name_at words 4;
  input = name_at words 5;
  out = name_at words 6;
  report = name_at words 7;
  exports = name_at words 8;
}

-- the files that are written, in the order in which they are opened
abbrev pub output_files : NodeNames → List (List ℕ)
output_files files = files.out ∷ files.report ∷ files.exports ∷ []

-- all files, in the order in which equal ones are looked for
abbrev pub node_files : NodeNames → List (List ℕ)
node_files files = files.domain ∷ files.readings ∷ files.input ∷ output_files files

-- the id of the interface by which a node receives from a link, if the link ends there
abbrev pub inward_by : NodeId → Option Link → Option ℕ
inward_by node None = None
inward_by node (Some link) = if nat_eq link.to.0 node.0 then Some link.in_id else None

-- from the link of a name
abbrev pub inward_of : Domain → NodeId → List ℕ → Option ℕ
inward_of domain node name = option_and_then (λ id. inward_by node (slice_get (links domain) id.0)) (link_of_name domain name)

module _ (files : NodeNames) where
  -- this is the node, and the interface of the link
  pub record IsAt (domain : Domain) (node : NodeId) (inward : ℕ) : Type 0 where
    pub has_node : node_of_name domain files.node ≡ Some node
    pub has_link : inward_of domain node files.link ≡ Some inward

  -- NODE names no node
  abbrev pub NamesNoNode : Domain → List ℕ → Type 0
  NamesNoNode domain name = (node_of_name domain files.node ≡ None) × (name ≡ files.node)

  -- LINK names no link that ends at the node
  abbrev pub NamesNoLink : Domain → List ℕ → Type 0
  NamesNoLink domain name = (node : NodeId) × (node_of_name domain files.node ≡ Some node)
      × (inward_of domain node files.link ≡ None) × (name ≡ files.link)

  -- both are fit, and two files have one name
  abbrev pub NamesTwice : Domain → List ℕ → Type 0
  NamesTwice domain name = (node : NodeId) × (inward : ℕ) × IsAt domain node inward
      × ((at : ℕ) × IsFirstRepeat (node_files files) at × (name ≡ name_at (node_files files) at))

  -- the first of these
  abbrev pub IsUnfit : Domain → List ℕ → Type 0
  IsUnfit domain name = NamesNoNode domain name ⊎ (NamesNoLink domain name ⊎ NamesTwice domain name)

  -- both are fit, and the files differ
  abbrev pub AreFit : Domain → Type 0
  AreFit domain = (node : NodeId) × (inward : ℕ) × IsAt domain node inward × AreApart (node_files files)

  -- What an answer says of the domain that was read: NODE and LINK name what it has and the files differ, but for the first
  -- name of which this isn't so; and the limit is the domain's.
  abbrev pub Says : Domain → Outcome → Type 0
  Says domain (outcome.Names name) = IsUnfit domain name
  Says domain (outcome.Packets limit) = AreFit domain × (limit ≡ domain.packets) × (1 ≤ limit) × (limit ≤ 16777216)
  Says domain (outcome.Capture name at fault) = AreFit domain × (name ≡ files.input)
  Says domain outcome.Done = AreFit domain
  Says domain outcome.ReadFault = AreFit domain
  Says domain outcome.WriteFault = AreFit domain
  Says domain outcome.NoMemory = ⊤
  Says domain _ = ⊥

  module _ (desk : Writing) where
    -- DOMAIN holds the domain, READINGS the readings of its nodes, NODE and LINK say where the packets come, and no two files
    -- have one name
    pub record IsReady (seat : Seat) : Type 0 where
      pub setting : IsSetting desk files.domain files.readings seat.domain seat.samples
      pub at : IsAt seat.domain seat.node seat.inward
      pub apart : AreApart (node_files files)

    -- IN is so, by the domain's limit
    abbrev pub HasInput : (ℕ → List ℕ → Type 0) → Type 0
    HasInput IsSo = (seat : Seat) × IsReady seat × IsSomeAnd (holds desk files.input) (IsSo seat.domain.packets)

    -- What the names and the files ask for, where nothing fails: the first of the refusals in their order whose condition
    -- holds, or Done.
    abbrev pub Asked : Outcome → Type 0
    Asked (outcome.Domain fault) = HasDomainFault desk files.domain files.readings fault
    Asked (outcome.Readings fault) = HasReadingsFault desk files.domain files.readings fault
    Asked (outcome.Names name) = (domain : Domain) × (samples : _) × IsSetting desk files.domain files.readings domain samples
        × IsUnfit domain name
    Asked (outcome.Packets limit) = (seat : Seat) × IsReady seat × (limit ≡ seat.domain.packets)
        × IsSomeAnd (holds desk files.input) (IsLong seat.domain.packets)
    Asked (outcome.Capture name at fault) = (name ≡ files.input) × HasInput (λ most. IsInput most (Faulty at fault))
    Asked outcome.Done = HasInput (λ most. IsInput most Whole)
    Asked _ = ⊥

  -- the files differ, where IN was looked at; so much is known of real files too
  abbrev pub HaveDiffered : Outcome → Type 0
  HaveDiffered outcome.Done = AreApart (node_files files)
  HaveDiffered (outcome.Capture name at fault) = AreApart (node_files files) × (name ≡ files.input)
  HaveDiffered (outcome.Packets limit) = AreApart (node_files files)
  HaveDiffered outcome.Usage = ⊤
  HaveDiffered (outcome.Domain fault) = ⊤
  HaveDiffered (outcome.Readings fault) = ⊤
  HaveDiffered (outcome.Names name) = ⊤
  HaveDiffered outcome.ReadFault = ⊤
  HaveDiffered outcome.WriteFault = ⊤
  HaveDiffered outcome.NoMemory = ⊤
  HaveDiffered _ = ⊥

  module _ (old_in new_in : Reading) (old new : Writing) where
    -- the cause of each answer, where the desk tells what its files hold; want of memory alone has none
    abbrev pub HasCause : Outcome → Type 0
    HasCause outcome.ReadFault = Rose old_in.side.faults new_in.side.faults
    HasCause outcome.WriteFault = Rose old.side.faults new.side.faults
    HasCause outcome.NoMemory = ⊤
    HasCause answer = Asked old answer

    -- the outputs hold the texts of these records of IN
    abbrev pub Holds : (Seat → List Taken → List ℕ → Type 0) → Type 0
    Holds Are = (seat : Seat) × IsReady old seat
        × IsSomeAnd (holds old files.input) (HoldsAll seat.domain.packets (NodeTexts seat) (output_files files) (Are seat) new)

    -- each output that was opened holds a front of its text
    abbrev pub HoldParts : Type 0
    HoldParts = (seat : Seat) × IsReady old seat
        × IsSomeAnd (holds old files.input) (HoldsFronts seat.domain.packets (NodeTexts seat) (output_files files) old new)

    -- IN wasn't opened
    abbrev pub StopsEarly : Type 0
    StopsEarly = AsksFront old_in.side.asked new_in.side.asked (files.domain ∷ files.readings ∷ [])
        ⊎ (new_in.side.slots < old_in.side.slots + 3)

    -- What the files hold afterwards, where the desk tells: the texts of all records of IN, of as many as the domain allows, or
    -- of those that what was handed out shows; or nothing was opened for writing; or each output that was opened holds a front
    -- of its text.
    abbrev pub Leaves : Outcome → Type 0
    Leaves outcome.Done = Holds (λ seat. EndsSo Whole)
    Leaves (outcome.Capture name at fault) = Holds (λ seat. EndsSo (Faulty at fault))
    Leaves (outcome.Packets limit) = Holds (λ seat. ArePassed seat.domain.packets)
    Leaves outcome.ReadFault = (StopsEarly × (new ≡ old))
        ⊎ ((old_in.side.slots + 2 < new_in.side.slots) × Holds (λ seat. AreWhole (new_in.left (old_in.side.slots + 2))))
    Leaves outcome.WriteFault = HoldParts
    Leaves outcome.NoMemory = (new ≡ old) ⊎ HoldParts
    Leaves outcome.Usage = new ≡ old
    Leaves (outcome.Domain fault) = new ≡ old
    Leaves (outcome.Readings fault) = new ≡ old
    Leaves (outcome.Names name) = new ≡ old
    Leaves _ = ⊥

    -- IN wasn't opened, and no output
    abbrev pub OpensNone : Type 0
    OpensNone = AsksFront old_in.side.asked new_in.side.asked (files.domain ∷ files.readings ∷ []) × (new ≡ old)

    -- what was given is refused before anything of IN is looked at
    abbrev pub IsUntouched : Outcome → Type 0
    IsUntouched (outcome.Domain fault) = OpensNone
    IsUntouched (outcome.Readings fault) = OpensNone
    IsUntouched (outcome.Names name) = OpensNone
    IsUntouched _ = ⊤

    -- DOMAIN, READINGS and IN were read to their ends
    abbrev pub AreDrained : Type 0
    AreDrained = IsTrue (new_in.ended old_in.side.slots) × IsTrue (new_in.ended (old_in.side.slots + 1))
        × IsTrue (new_in.ended (old_in.side.slots + 2))

    -- OUT is a capture of what the node sends of some first records of IN, each packet of at most 262,144 octets, and what leaves by
    -- a port is one IPv6 packet, with a whole chain and without IOAM
    pub record IsBounded : Type 0 where
      pub seat : Seat
      pub ready : IsReady old seat
      pub taken : List Taken
      pub passages : List Passage
      pub first : IsSomeAnd (holds old files.input) (AreFirst taken)
      pub are : ArePassages seat taken passages
      pub clean : AllByRecursion (LeavesClean seat) passages
      pub fits : All IsSendable (flat_map (sent_of seat) passages)
      pub out_is : holds new files.out ≡ Some (capture_text (flat_map (sent_of seat) passages))

module _ (tells : Bool) (files : NodeNames) (old_in new_in : Reading) (old new : Writing) where
  -- the answer is one over this domain, which DOMAIN holds where the desk tells; IN and outputs were opened only where NODE and
  -- LINK are fit in it and the files differ
  pub record IsOver (answer : Outcome) (domain : Domain) : Type 0 where
    pub set : IsTrue tells → (samples : List (List Sample)) × IsSetting old files.domain files.readings domain samples
    pub says : Says files domain answer
    pub fit : OpensNone files old_in new_in old new ⊎ AreFit files domain

  -- what a run is set by was refused, or the answer is one over a domain
  abbrev pub IsOfDomain : Outcome → Type 0
  IsOfDomain answer = (OpensNone files old_in new_in old new × ((why : Refusal) × (answer ≡ refused_as why)))
      ⊎ ((domain : Domain) × IsOver answer domain)

  -- The names that were given to the opening calls, whatever the desk tells: a front of DOMAIN, READINGS and IN, and of the
  -- outputs; and those where the answer comes once the outputs were written. And what the answer says of the domain.
  pub record Asks (answer : Outcome) : Type 0 where
    pub front_in : AsksFront old_in.side.asked new_in.side.asked (files.domain ∷ files.readings ∷ files.input ∷ [])
    pub front_out : AsksFront old.side.asked new.side.asked (output_files files)
    pub all_in : IsBehindAll ⊥ answer → new_in.side.asked ≡ old_in.side.asked ++ files.domain ∷ files.readings ∷ files.input ∷ []
    pub all_out : IsBehindAll ⊥ answer → new.side.asked ≡ old.side.asked ++ output_files files
    pub untouched : IsUntouched files old_in new_in old new answer
    pub domain_first : (fault : DomainFault) → answer ≡ outcome.Domain fault
        → AsksFront old_in.side.asked new_in.side.asked (files.domain ∷ [])
    pub in_turn : InTurn old files.domain files.readings tells old_in new_in
    pub no_output : new_in.side.slots < old_in.side.slots + 3 → new ≡ old
    pub of_domain : IsOfDomain answer

  -- what is promised of the answer but that it is the one asked for: its cause, what was opened and read, and what the files hold
  pub record Owes (answer : Outcome) : Type 0 where
    pub read_fault : answer ≡ outcome.ReadFault → Rose old_in.side.faults new_in.side.faults
    pub write_fault : answer ≡ outcome.WriteFault → Rose old.side.faults new.side.faults
    pub usage : answer ≢ outcome.Usage
    pub differed : HaveDiffered files answer
    pub cause : IsTrue tells → HasCause files old_in new_in old new answer
    pub leaves : IsTrue tells → Leaves files old_in new_in old new answer
    pub asks : Asks answer
    -- nothing of IN is read before all outputs are opened
    pub unread : IsTrue tells → new.side.slots < old.side.slots + length (output_files files) → old_in.side.slots + 2 < new_in.side.slots
        → holds old files.input ≡ Some (new_in.left (old_in.side.slots + 2))
    pub drained : IsDone answer → IsTrue tells → AreDrained files old_in new_in old new
    pub kept_in : KeepsInputs old_in new_in
    pub kept_out : IsTrue tells → KeepsOutputs old new

-- ---- the promise

module _ (desks : Desks) (files : NodeNames) where
  -- what `node` promises of its answer
  pub record Keeps (answer : Outcome) : Type 0 where
    pub owes : Owes desks.tells files desks.old_in desks.new_in desks.old desks.new answer
    -- what is asked for is answered, unless a call of the desk failed or no memory could be had
    pub exact : (asked : Outcome) → IsTrue desks.tells → Asked files desks.old asked
        → (Rose desks.old_in.side.faults desks.new_in.side.faults → ⊥) → (Rose desks.old.side.faults desks.new.side.faults → ⊥)
        → (answer ≡ asked) ⊎ (answer ≡ outcome.NoMemory)
    -- what failed is answered, told or not: each input that was asked for was opened, but behind ReadFault; no call on an input failed where the
    -- words and the files decided the answer, and none on an output where it is any but WriteFault
    pub failures : AnswersFailures desks answer
    -- what the node sends has at most 262,144 octets, and what it sends to a port is one IPv6 packet, with a whole header chain
    -- and without an IOAM option
    pub boundary : IsBehindAll (desks.old.side.slots < desks.new.side.slots) answer → IsTrue desks.tells
        → IsBounded files desks.old_in desks.new_in desks.old desks.new
