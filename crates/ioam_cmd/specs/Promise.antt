-- What the top call promises of each command, in the words of the command's own crate. `opens` says that the gate of the
-- workers always opens.
use Rattle.std.specs.Prelude.{◌≡◌, ℕ, Bool, IsTrue, List, drop}
use Rattle.ioam_run_measured.specs.Measured.{Measures}
use Rattle.ioam_words.specs.declared.command.Command.{Command}
use Rattle.ioam_words.specs.declared.command.Command.TheVariants.{Filter, Leaks, Paths, Delays, Show, Save, Node, Audit, Run, Bulk, Collect, Ipfix, Records, Part, Merge, Parts}
use Rattle.ioam_desk.specs.Desk.{holds}
use Rattle.ioam_run_audit.specs.Names.{name_at}
use Rattle.ioam_run_answer.specs.Desks.{Desks}
use Rattle.ioam_run_answer.specs.declared.outcome.Outcome.{Outcome}
use Rattle.ioam_run_answer.specs.declared.outcome.Outcome.TheVariants as outcome
use Rattle.ioam_run_audit.specs.Promise as audit
use Rattle.ioam_run_audit.specs.Promise.{audit_names}
use Rattle.ioam_run_bulk.specs.Promise as bulk
use Rattle.ioam_run_capture.specs.Promise.{FilterKeeps, PathsKeeps, SaveKeeps, ShowKeeps}
use Rattle.ioam_run_collect.specs.Promise as collect
use Rattle.ioam_run_collect.specs.Promise.{collect_names}
use Rattle.ioam_run_delays.specs.Promise.{DelaysKeeps}
use Rattle.ioam_run_domain.specs.Promise as domain
use Rattle.ioam_run_domain.specs.Promise.{RunNames, run_names}
use Rattle.ioam_run_ipfix.specs.Promise.{IpfixAsked, IpfixKeeps, RecordsAsked, RecordsKeeps, ipfix_names, records_names}
use Rattle.ioam_run_leaks.specs.Promise.{LeaksKeeps}
use Rattle.ioam_run_node.specs.Promise as node
use Rattle.ioam_run_node.specs.Promise.{node_names}
use Rattle.ioam_run_part.specs.Files.{merge_names, part_names, parts_names}
use Rattle.ioam_run_part.specs.MergePromise.{MergeAsked, MergeKeeps}
use Rattle.ioam_run_part.specs.PartPromise.{PartAsked, PartKeeps}
use Rattle.ioam_run_part.specs.PartsPromise.{PartsAsked, PartsKeeps}
use Rattle.ioam_run_audit.specs.RunStreamPromise as capture
use Rattle.ioam_run_audit.specs.RunStreamPromise.{CaptureNames, capture_names}

-- of `run` also that what it leaves in EXPORTS is all records of its arrivals, and that of these octets, wherever it reads them
-- later, `collect` tells the whole path of each packet that was exported of; after WriteFault and NoMemory it is a front of
-- them, of which `collect` tells the paths as far as the records are whole
pub record RunKeeps (opens : Bool) (desks : Desks) (files : RunNames) (answer : Outcome) : Type 0 where
  pub keeps : domain.Keeps opens desks files answer
  pub measured : IsTrue desks.tells → Measures opens files desks.old_in desks.new_in desks.old desks.new answer

-- IN and REPORT of `delays` come after FORMAT
abbrev pub delays_names : List (List ℕ) → CaptureNames
delays_names words = capture_names (drop 1 words)

-- REPORT is the fourth word of `bulk`
abbrev pub bulk_report : List (List ℕ) → List ℕ
bulk_report words = name_at words 4

-- the promise of each command
module _ (opens : Bool) (desks : Desks) (words : List (List ℕ)) where
  -- the command keeps its promise, over the words and the desk, with this answer
  abbrev pub Keeps : Command → Outcome → Type 0
  Keeps Filter answer = FilterKeeps desks (capture_names words) answer
  Keeps Leaks answer = LeaksKeeps desks (capture_names words) answer
  Keeps Paths answer = PathsKeeps desks (capture_names words) answer
  Keeps (Delays format) answer = DelaysKeeps format desks (delays_names words) answer
  Keeps Show answer = ShowKeeps desks (capture_names words) answer
  Keeps Save answer = SaveKeeps desks (capture_names words) answer
  Keeps Node answer = node.Keeps desks (node_names words) answer
  Keeps Audit answer = audit.Keeps desks (audit_names words) answer
  Keeps (Run workers) answer = RunKeeps opens desks (run_names words) answer
  Keeps (Bulk seed count workers) answer = bulk.Keeps desks seed count (bulk_report words) answer
  Keeps Collect answer = collect.Keeps desks (collect_names words) answer
  Keeps Ipfix answer = IpfixKeeps desks (ipfix_names words) answer
  Keeps Records answer = RecordsKeeps desks (records_names words) answer
  Keeps Part answer = PartKeeps desks (part_names words) answer
  Keeps Merge answer = MergeKeeps desks (merge_names words) answer
  Keeps Parts answer = PartsKeeps desks (parts_names words) answer

-- which answer the words and the files ask for, where nothing fails
module _ (desks : Desks) (words : List (List ℕ)) where
  -- the answer that the words and what the files hold ask of the command, where nothing fails
  abbrev pub Asked : Command → Outcome → Type 0
  Asked Filter answer = capture.Asked desks (capture_names words) answer
  Asked Leaks answer = capture.Asked desks (capture_names words) answer
  Asked Paths answer = capture.Asked desks (capture_names words) answer
  Asked (Delays format) answer = capture.Asked desks (delays_names words) answer
  Asked Show answer = capture.Asked desks (capture_names words) answer
  Asked Save answer = capture.Asked desks (capture_names words) answer
  Asked Node answer = node.Asked (node_names words) desks.old answer
  Asked Audit answer = audit.Asked (audit_names words) desks.old answer
  Asked (Run workers) answer = domain.Asked desks.old (run_names words) answer
  Asked (Bulk seed count workers) answer = answer ≡ outcome.Done
  Asked Collect answer =
      let files = collect_names words in collect.Asked desks.tells (holds desks.old files.exports) files.exports files.report answer
  Asked Ipfix answer =
      let files = ipfix_names words in IpfixAsked desks.tells (holds desks.old files.exports) files.exports files.out answer
  Asked Records answer =
      let files = records_names words in RecordsAsked desks.tells (holds desks.old files.input) files.input files.out answer
  Asked Part answer =
      let files = part_names words in PartAsked desks.tells (holds desks.old files.exports) files.exports files.part answer
  Asked Merge answer =
      let files = merge_names words in MergeAsked desks.tells (holds desks.old files.one) (holds desks.old files.two) files.one files.two files.part answer
  Asked Parts answer =
      let files = parts_names words in PartsAsked desks.tells (holds desks.old files.part) files.part files.report answer
