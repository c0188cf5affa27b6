-- What `run DOMAIN READINGS WORKERS REPORT EXPORTS` promises: the captures of the ports of
-- the domain that DOMAIN describes are merged by time, and each port's capture of what leaves, each
-- tap's of what crosses its link, the report and the export records are written.
use Rattle.std.specs.Prelude.{◌≡◌, ◌≢◌, ℕ, ◌+◌, ◌<◌, ◌≤◌, ◌⊎◌, ⊤, All, Bool, IsTrue, IsSomeAnd, List, [], ◌∷◌, ◌++◌, length, map, slice_get, Option, Some}
use Rattle.ioam_base.specs.Octets.{IsFront}
use Rattle.ioam_clock.specs.declared.sample.Sample.{Sample}
use Rattle.ioam_desk.specs.Asked.{AsksFront}
use Rattle.ioam_desk.specs.Desk.{Reading, Writing, Rose, holds}
use Rattle.ioam_desk.specs.Kept.{KeepsInputs, KeepsOutputs}
use Rattle.ioam_run_traffic.specs.Fate.{Fate, AreFates}
use Rattle.ioam_run_traffic.specs.Texts.{out_text, tap_text, report_text, exports_text}
use Rattle.ioam_run_traffic.specs.Clean.{MayLeave}
use Rattle.ioam_run_traffic.specs.Merging.{AreUnread, FilesArrive, FilesBegin, PartsArrive, start_of}
use Rattle.ioam_desk_outputs.specs.Names.{name_at, AreApart, IsFirstRepeat}
use Rattle.ioam_run_traffic.specs.Merge.{Arrival}
use Rattle.ioam_run_traffic.specs.Text.{IsCaptureOf}
use Rattle.ioam_run_traffic.specs.Turn.{Turn}
use Rattle.ioam_run_traffic.specs.Turn.TheVariants as turn
use Rattle.ioam_run_files.specs.Desks.{Desks}
use Rattle.ioam_run_files.specs.Failures.{AnswersFailures}
use Rattle.ioam_run_files.specs.Outcomes.{IsDone, IsBehindAll}
use Rattle.ioam_run_files.specs.Outcome.{Outcome}
use Rattle.ioam_run_files.specs.Outcome.TheVariants as outcome
use Rattle.ioam_run_files.specs.Names.{input_names, input_ports, output_names, file_names}
use Rattle.ioam_run_files.specs.Setting.{HasDomainFault, HasReadingsFault, InTurn, IsSetting}
use Rattle.ioam_topo.specs.Domain.{links, ports}
use Rattle.ioam_topo.specs.declared.domain.Domain.{Domain}
use Rattle.ioam_run_files.specs.DomainFault.{DomainFault}
use Rattle.ioam_topo.specs.declared.parts.Link.{Link}
use Rattle.ioam_topo.specs.declared.parts.Port.{Port}
use Rattle.ioam_run_domain.specs.Left.{LeavesOnce}
use Rattle.ioam_run_traffic.specs.Traffic.{AllOpened, Course, HoldsFronts, IsTimely, ArePassed, AreOpened, Arrive, frames_of}

-- ---- its files

-- those that its words name
pub record RunNames : Type 0 where
  pub domain : List ℕ
  pub readings : List ℕ
  pub report : List ℕ
  pub exports : List ℕ

-- they stand behind the command's own name; the number of workers stands among them
abbrev pub run_names : List (List ℕ) → RunNames
run_names words = record { domain = name_at words 1; readings = name_at words 2; report = name_at words 4; exports = name_at words 5 }

-- DOMAIN, READINGS, REPORT and EXPORTS, in the order of the words
abbrev pub word_files : RunNames → List (List ℕ)
word_files files = files.domain ∷ files.readings ∷ files.report ∷ files.exports ∷ []

-- all files of a run, in the order in which equal ones are looked for
abbrev pub run_files : RunNames → Domain → List (List ℕ)
run_files files domain = file_names (ports domain) (links domain) (word_files files)

-- those that are written, in the order in which they are opened
abbrev pub run_outputs : RunNames → Domain → List (List ℕ)
run_outputs files domain = output_names (ports domain) (links domain) files.report files.exports

-- the captures that are read, in the order in which they are opened
abbrev pub run_inputs : Domain → List (List ℕ)
run_inputs domain = input_names (ports domain)

module _ (desk : Writing) (files : RunNames) where
  -- DOMAIN holds this domain, and READINGS these readings of its nodes
  abbrev pub IsSet : Domain → List (List Sample) → Type 0
  IsSet domain readings = IsSetting desk files.domain files.readings domain readings

  -- and no two files of the run have one name
  pub record IsReady (domain : Domain) (readings : List (List Sample)) : Type 0 where
    pub set : IsSet domain readings
    pub apart : AreApart (run_files files domain)

  -- what the captures of a domain's ports hold
  abbrev pub contents : Domain → List (Option (List ℕ))
  contents domain = map (holds desk) (run_inputs domain)

  -- these are all that arrive at the domain, no more than it allows, and the turn behind them is this
  pub record Arrives (domain : Domain) (last : Turn) : Type 0 where
    pub taken : List Arrival
    pub arrive : FilesArrive (contents domain) taken last
    pub few : length taken ≤ domain.packets

  -- more arrive than the domain allows
  pub record Exceeds (domain : Domain) : Type 0 where
    pub taken : List Arrival
    pub begin : FilesBegin (contents domain) taken
    pub many : domain.packets < length taken

  -- What the names and the files ask for, where nothing fails: the first of the refusals in their
  -- order whose condition holds, or Done.
  abbrev pub Asked : Outcome → Type 0
  Asked (outcome.Domain fault) = HasDomainFault desk files.domain files.readings fault
  Asked (outcome.Readings fault) = HasReadingsFault desk files.domain files.readings fault
  Asked (outcome.Names name) = (domain : Domain) × (readings : List (List Sample)) × IsSet domain readings
      × ((at : ℕ) × IsFirstRepeat (run_files files domain) at × (name ≡ name_at (run_files files domain) at))
  Asked (outcome.Packets limit) = (domain : Domain) × (readings : List (List Sample)) × IsReady domain readings
      × (limit ≡ domain.packets) × Exceeds domain
  Asked (outcome.Capture name at fault) = (domain : Domain) × (readings : List (List Sample)) × IsReady domain readings
      × ((place : ℕ) × (name ≡ name_at (run_inputs domain) place) × Arrives domain (turn.Broken place at fault))
  Asked outcome.Done = (domain : Domain) × (readings : List (List Sample)) × IsReady domain readings × Arrives domain turn.Over
  Asked _ = ⊥

-- the files that the words name differ, where the captures were looked at; so much is known of real
-- files too
abbrev pub HaveDiffered : RunNames → Outcome → Type 0
HaveDiffered files outcome.Done = AreApart (word_files files)
HaveDiffered files (outcome.Capture name at fault) = AreApart (word_files files)
HaveDiffered files (outcome.Packets limit) = AreApart (word_files files)
HaveDiffered files outcome.Usage = ⊤
HaveDiffered files (outcome.Domain fault) = ⊤
HaveDiffered files (outcome.Readings fault) = ⊤
HaveDiffered files (outcome.Names name) = ⊤
HaveDiffered files outcome.ReadFault = ⊤
HaveDiffered files outcome.WriteFault = ⊤
HaveDiffered files outcome.NoMemory = ⊤
HaveDiffered files _ = ⊥

-- what `run` was given is refused before anything of its captures is looked at
abbrev pub IsRefusal : Outcome → Type 0
IsRefusal (outcome.Domain fault) = ⊤
IsRefusal (outcome.Readings fault) = ⊤
IsRefusal (outcome.Names name) = ⊤
IsRefusal _ = ⊥

-- where the traffic of a domain begins, whose workers' gate opens always or may stay shut: DOMAIN and READINGS were read
-- by two slots
abbrev pub course_for : Bool → RunNames → Reading → Writing → Domain → List (List Sample) → Course
course_for opens files reading writing domain readings = record {
  opens = opens;
  domain = domain;
  readings = readings;
  ports = input_ports (ports domain);
  lanes = start_of (reading.side.slots + 2) writing (run_inputs domain);
  first = writing.side.slots;
  names = run_outputs files domain;
}

module _ (files : RunNames) (old_in new_in : Reading) (old new : Writing) where
  -- the cause of each answer, where the desk tells what its files hold; want of memory alone has none
  abbrev pub HasCause : Outcome → Type 0
  HasCause outcome.ReadFault = Rose old_in.side.faults new_in.side.faults
  HasCause outcome.WriteFault = Rose old.side.faults new.side.faults
  HasCause outcome.NoMemory = ⊤
  HasCause answer = Asked old files answer

  -- no capture was opened, and no output
  abbrev pub OpensNone : Type 0
  OpensNone = AsksFront old_in.side.asked new_in.side.asked (files.domain ∷ files.readings ∷ []) × (new ≡ old)

-- What the files hold where one could not be written or no memory could be had: each that was opened a front of its text of
-- some first arrivals, of which nothing else becomes and which leave once. Where the gate opens, a port's capture that was
-- opened is a front of one of IPv6 packets, each with a whole header chain without an IOAM option and of at most 262,144 octets.
pub record HoldsCleanFronts (course : Course) (old new : Writing) : Type 0 where
  pub fronts : HoldsFronts course old new
  pub leave : All LeavesOnce fronts.fates
  pub clean : IsTrue course.opens → (place : ℕ) (port : Port) → slice_get (ports course.domain) place ≡ Some port
      → old.side.slots + place < new.side.slots
      → IsSomeAnd (holds new port.output) (λ part. (whole : List ℕ) × IsFront part whole × IsCaptureOf MayLeave whole)

-- whether the gate of the workers always opens
module _ (opens : Bool) (files : RunNames) (old_in new_in : Reading) (old new : Writing) where
  -- so it is of the traffic of the domain that is held, by the readings that are held
  abbrev pub OfTraffic : (Course → Type 0) → Type 0
  OfTraffic P = (domain : Domain) × (readings : List (List Sample)) × IsReady old files domain readings
      × P (course_for opens files old_in old domain readings)

  -- no capture was opened yet, or not all of them
  abbrev pub StopsEarly : Type 0
  StopsEarly = AsksFront old_in.side.asked new_in.side.asked (files.domain ∷ files.readings ∷ [])
      ⊎ OfTraffic (λ course. new_in.side.slots < course.lanes.base + length course.lanes.contents)

  -- What the files hold of these arrivals, of which nothing else becomes, where the gate opens: each port's capture has the
  -- packets that leave there, each tap's what crosses its link, REPORT the lines of each arrival and the sums, and EXPORTS
  -- the records that the nodes export. `Are` says which arrivals; the time of each is below 2^62 nanoseconds.
  pub record HoldsFiles (course : Course) (Are : List Arrival → Type 0) : Type 0 where
    pub taken : List Arrival
    pub fates : List Fate
    pub are : Are taken
    pub few : length taken ≤ course.domain.packets
    pub timely : All IsTimely taken
    pub become : AreFates course.domain course.readings (frames_of course.ports taken) fates
    pub only : (others : List Fate) → AreFates course.domain course.readings (frames_of course.ports taken) others → others ≡ fates
    pub leave : All LeavesOnce fates
    pub outs : IsTrue course.opens → (place : ℕ) (port : Port) → slice_get (ports course.domain) place ≡ Some port
        → holds new port.output ≡ Some (out_text place fates)
    pub taps : IsTrue course.opens → (place : ℕ) (link : Link) (name : List ℕ) → slice_get (links course.domain) place ≡ Some link
        → link.tap ≡ Some name → holds new name ≡ Some (tap_text course.domain course.readings place fates)
    pub report : IsTrue course.opens → holds new files.report ≡ Some (report_text course.domain course.readings fates)
    pub exports : IsTrue course.opens → holds new files.exports ≡ Some (exports_text course.domain course.readings fates)

  -- What the files hold afterwards, where the desk tells: the texts of all arrivals, of as many as the
  -- domain allows, or of those that what was handed out of the captures shows; or nothing was opened
  -- for writing; or each output that was opened holds a front of its text.
  abbrev pub Leaves : Outcome → Type 0
  Leaves outcome.Done = OfTraffic (λ course. HoldsFiles course (Arrive course turn.Over))
  Leaves (outcome.Capture name at fault) = OfTraffic (λ course. (place : ℕ) × (name ≡ name_at (run_inputs course.domain) place)
      × HoldsFiles course (Arrive course (turn.Broken place at fault)))
  Leaves (outcome.Packets limit) = OfTraffic (λ course. HoldsFiles course (ArePassed course))
  Leaves outcome.ReadFault = (StopsEarly × (new ≡ old))
      ⊎ OfTraffic (λ course. AreOpened course new_in × HoldsFiles course (PartsArrive course.lanes.contents new_in course.lanes.base))
  Leaves outcome.WriteFault = OfTraffic (λ course. HoldsCleanFronts course old new)
  Leaves outcome.NoMemory = (new ≡ old) ⊎ OfTraffic (λ course. HoldsCleanFronts course old new)
  Leaves outcome.Usage = new ≡ old
  Leaves (outcome.Domain fault) = new ≡ old
  Leaves (outcome.Readings fault) = new ≡ old
  Leaves (outcome.Names name) = new ≡ old
  Leaves _ = ⊥

  -- DOMAIN, READINGS and each of the captures were read to their ends
  abbrev pub AreDrained : Type 0
  AreDrained = OfTraffic (λ course. (k : ℕ) → k < 2 + length course.lanes.contents → IsTrue (new_in.ended (old_in.side.slots + k)))

  -- what leaves by each port of the domain is a capture of packets that may leave it, where the gate opens
  abbrev pub IsBounded : Type 0
  IsBounded = OfTraffic (λ course. IsTrue course.opens → (place : ℕ) (port : Port) → slice_get (ports course.domain) place ≡ Some port
      → IsSomeAnd (holds new port.output) (IsCaptureOf MayLeave))

-- the answer comes where no domain or no readings were read
abbrev pub IsUnset : Outcome → Type 0
IsUnset (outcome.Domain fault) = ⊤
IsUnset (outcome.Readings fault) = ⊤
IsUnset outcome.ReadFault = ⊤
IsUnset outcome.NoMemory = ⊤
IsUnset _ = ⊥

-- what a domain may say of how many packets a run has at most
abbrev pub IsLimit : ℕ → Type 0
IsLimit limit = (1 ≤ limit) × (limit ≤ 16777216)

-- What an answer says of the domain and of its files: they differ, but for the first name that
-- equals an earlier one; the capture that is faulty is one of those that are read, and the limit is
-- the domain's.
abbrev pub Says : RunNames → Domain → Outcome → Type 0
Says files domain (outcome.Names name) = (at : ℕ) × IsFirstRepeat (run_files files domain) at × (name ≡ name_at (run_files files domain) at)
Says files domain (outcome.Capture name at fault) = AreApart (run_files files domain)
    × ((place : ℕ) × (place < length (run_inputs domain)) × (name ≡ name_at (run_inputs domain) place))
Says files domain (outcome.Packets limit) = AreApart (run_files files domain) × (limit ≡ domain.packets) × IsLimit limit
Says files domain outcome.Done = AreApart (run_files files domain)
Says files domain outcome.ReadFault = AreApart (run_files files domain)
Says files domain outcome.WriteFault = AreApart (run_files files domain)
Says files domain outcome.NoMemory = ⊤
Says files domain _ = ⊥

module _ (tells : Bool) (files : RunNames) (old_in new_in : Reading) (old new : Writing) where
  -- the inputs of a domain were opened, all of them, each by a slot of its own
  abbrev pub OpensInputs : Domain → Type 0
  OpensInputs domain = AllOpened old_in.side new_in.side (files.domain ∷ files.readings ∷ run_inputs domain)

  -- What was asked of a desk for this domain, whatever the desk tells; where it tells, DOMAIN holds
  -- the domain. The names that were given to the opening of inputs are DOMAIN, READINGS and the
  -- captures of the ports that are read, or a front of these; those given to the opening of outputs
  -- the captures of the ports that are written, those of the taps, REPORT and EXPORTS, or a front. An
  -- output was opened only where all inputs had been; none of the captures and outputs, unless all
  -- files differ. Where the desk tells nothing was read of a capture before all outputs were opened:
  -- the captures' slots are those behind that of READINGS.
  pub record AsksOf (answer : Outcome) (domain : Domain) : Type 0 where
    pub set : IsTrue tells → (readings : List (List Sample)) × IsSet old files domain readings
    pub says : Says files domain answer
    pub apart : OpensNone files old_in new_in old new ⊎ AreApart (run_files files domain)
    pub asked_in : AsksFront old_in.side.asked new_in.side.asked (files.domain ∷ files.readings ∷ run_inputs domain)
    pub asked_out : AsksFront old.side.asked new.side.asked (run_outputs files domain)
    pub inputs_first : (new ≡ old) ⊎ OpensInputs domain
    pub unread : IsTrue tells → new.side.slots < old.side.slots + length (run_outputs files domain)
        → AreUnread (start_of (old_in.side.slots + 2) old (run_inputs domain)) new_in
    pub all_in : IsBehindAll ⊥ answer → OpensInputs domain
    pub all_out : IsBehindAll ⊥ answer → new.side.asked ≡ old.side.asked ++ run_outputs files domain

  -- no domain was read, and no capture and no output opened; or so much was asked for one domain
  abbrev pub Asks : Outcome → Type 0
  Asks answer = (OpensNone files old_in new_in old new × IsUnset answer) ⊎ ((domain : Domain) × AsksOf answer domain)

-- ---- the promise

-- where the gate of the workers always opens or may stay shut
module _ (opens : Bool) (desks : Desks) (files : RunNames) where
  -- what `run` promises of its answer
  pub record Keeps (answer : Outcome) : Type 0 where
    -- a fault comes only where its count rose, told or not
    pub read_fault : answer ≡ outcome.ReadFault → Rose desks.old_in.side.faults desks.new_in.side.faults
    pub write_fault : answer ≡ outcome.WriteFault → Rose desks.old.side.faults desks.new.side.faults
    pub usage : answer ≢ outcome.Usage
    pub differed : HaveDiffered files answer
    pub cause : IsTrue desks.tells → HasCause files desks.old_in desks.new_in desks.old desks.new answer
    pub leaves : IsTrue desks.tells → Leaves opens files desks.old_in desks.new_in desks.old desks.new answer
    -- what is asked for is answered, unless a call of the desk failed or no memory could be had
    pub exact : (asked : Outcome) → IsTrue desks.tells → Asked desks.old files asked → (Rose desks.old_in.side.faults desks.new_in.side.faults → ⊥)
        → (Rose desks.old.side.faults desks.new.side.faults → ⊥) → (answer ≡ asked) ⊎ (answer ≡ outcome.NoMemory)
    -- the names that were opened: READINGS isn't where DOMAIN is refused, nor before DOMAIN was read, nor is more before both were; told or not, all is
    -- of one domain
    pub domain_first : (fault : DomainFault) → answer ≡ outcome.Domain fault → AsksFront desks.old_in.side.asked desks.new_in.side.asked (files.domain ∷ [])
    pub in_turn : InTurn desks.old files.domain files.readings desks.tells desks.old_in desks.new_in
    pub asks : Asks desks.tells files desks.old_in desks.new_in desks.old desks.new answer
    -- no output is opened before DOMAIN and READINGS, nor an output or a capture where DOMAIN, READINGS or the names are refused
    pub no_output : desks.new_in.side.slots < desks.old_in.side.slots + 2 → desks.new ≡ desks.old
    pub untouched : IsRefusal answer → OpensNone files desks.old_in desks.new_in desks.old desks.new
    pub drained : IsDone answer → IsTrue desks.tells → AreDrained opens files desks.old_in desks.new_in desks.old desks.new
    -- where the gate opens, a port's capture is one of IPv6 packets, each with a whole header chain without an IOAM option and
    -- of at most 262,144 octets
    pub boundary : IsBehindAll (desks.old.side.slots < desks.new.side.slots) answer → IsTrue desks.tells
        → IsBounded opens files desks.old_in desks.new_in desks.old desks.new
    -- what failed is answered: told or not, each input that was asked for was opened, but behind ReadFault, no opening or read of
    -- one failed where the words and the files decided the answer, and no opening or write of an output where the answer is any but
    -- WriteFault
    pub failures : AnswersFailures desks answer
    -- input slots that were there, and where the desk tells output slots that were there and names that weren't opened to be written, are as they were
    pub kept_in : KeepsInputs desks.old_in desks.new_in
    pub kept_out : IsTrue desks.tells → KeepsOutputs desks.old desks.new
