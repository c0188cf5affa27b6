-- Messages as they are written: one with the templates, then one for each run of records of one template.
use Rattle.std.specs.Prelude.{ℕ, ◌+◌, ◌%◌, ◌≡◌, ◌≢◌, ◌≤◌, ◌⊎◌, ⊤, List, [], ◌∷◌, ◌++◌, length, flat_map}
use Rattle.std.specs.List.{AllByRecursion}
use Rattle.ioam_base.specs.Words.{two_octets, four_octets}
use Rattle.ioam_dex.specs.Record.{Record, IsRecord, record_octets}
use Rattle.ioam_dex.specs.Reads.{records_octets}
use Rattle.ioam_ipfix.specs.Templates.{template_octets, all_ids}
use Rattle.ioam_ipfix.specs.Data.{template_of, data_octets}

-- a message of one set, behind so many records; the sequence number counts these modulo 2^32
abbrev pub message_octets : ℕ → ℕ → List ℕ → List ℕ
message_octets count id content = two_octets 10 ++ (two_octets (length content + 20) ++ (four_octets 0 ++ (four_octets (count % 4294967296)
    ++ (four_octets 0 ++ (two_octets id ++ (two_octets (length content + 4) ++ content))))))

-- the first message: the eight templates, as one set, behind no records
abbrev pub templates_message : List ℕ
templates_message = message_octets 0 2 (flat_map template_octets all_ids)

-- a run: 1 to 32 records of one template
pub record IsRun (id : ℕ) (run : List Record) : Type 0 where
  pub some : 1 ≤ length run
  pub few : length run ≤ 32
  pub alike : AllByRecursion (λ x. IsRecord x × (template_of x ≡ id)) run

-- the message of a run of records of one template, behind so many records
abbrev pub run_message : ℕ → ℕ → List Record → List ℕ
run_message count id run = message_octets count id (flat_map data_octets run)

-- runs with their templates
abbrev pub AreRuns : List (ℕ × List Record) → Type 0
AreRuns runs = AllByRecursion (λ run. IsRun run.0 run.1) runs

-- the records of each run, without its template
abbrev pub runs_of : List (ℕ × List Record) → List (List Record)
runs_of [] = []
runs_of (run ∷ runs) = run.1 ∷ runs_of runs

-- their messages, behind so many records
abbrev pub runs_text : ℕ → List (ℕ × List Record) → List ℕ
runs_text count [] = []
runs_text count (run ∷ runs) = run_message count run.0 run.1 ++ runs_text (count + length run.1) runs

-- each run is the longest: it has 32 records, or the next one is of another template
abbrev pub AreLongest : List (ℕ × List Record) → Type 0
AreLongest [] = ⊤
AreLongest (run ∷ []) = ⊤
AreLongest (run ∷ next ∷ runs) = ((length run.1 ≡ 32) ⊎ (run.0 ≢ next.0)) × AreLongest (next ∷ runs)

-- what is written of runs
abbrev pub messages_text : List (ℕ × List Record) → List ℕ
messages_text runs = templates_message ++ runs_text 0 runs

-- ---- records as they are handed to the writer

-- the octets begin with a record
abbrev pub BeginsRecord : List ℕ → Type 0
BeginsRecord octets = (x : Record) × (behind : List ℕ) × IsRecord x × (octets ≡ record_octets x ++ behind)

-- the octets are records one behind the other
abbrev pub AreRecords : List ℕ → Type 0
AreRecords octets = (xs : List Record) × AllByRecursion IsRecord xs × (octets ≡ records_octets xs)

-- and these are a run
abbrev pub IsRunText : List ℕ → Type 0
IsRunText octets = (id : ℕ) × (xs : List Record) × IsRun id xs × (octets ≡ records_octets xs)
