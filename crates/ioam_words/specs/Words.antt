-- The forms of a command line.
use Rattle.std.specs.Prelude.{◌≡◌, ◌≤◌, ◌<◌, ◌^◌, ℕ, List, [], ◌∷◌, Option, IsSomeAnd, ◌+◌, count_by, find, nat_eq, length, codes, decimal}
use Rattle.std.specs.Str.{bytes_eq}
use Rattle.ioam_topo.specs.declared.format.Format.TheVariants.{Ptp}
use Rattle.ioam_desk_outputs.specs.Names.{name_at}
use Rattle.ioam_words.specs.Formats.{format_name}
use Rattle.ioam_words.specs.declared.command.Asks.{Asks}
use Rattle.ioam_words.specs.declared.command.Asks.TheVariants as asks
use Rattle.ioam_words.specs.declared.command.Form.{Form}
use Rattle.ioam_words.specs.declared.command.Command.{Command}
use Rattle.ioam_words.specs.declared.command.Command.TheVariants.{Filter, Leaks, Paths, Delays, Show, Save, Node, Audit, Run, Bulk, Collect, Ipfix, Records, Part, Merge, Parts}

-- the word spells a number of workers, 1 to 64, in decimal digits without a sign and without a zero in front
abbrev pub IsWorkers : ℕ → List ℕ → Type 0
IsWorkers workers word = (word ≡ decimal workers) × (1 ≤ workers) × (workers ≤ 64)

-- likewise a number of arrivals, 1 to 1,000,000, and a seed of 64 bits
abbrev pub IsCount : ℕ → List ℕ → Type 0
IsCount count word = (word ≡ decimal count) × (1 ≤ count) × (count ≤ 1000000)

-- a word spells this seed in decimal digits: a number of 64 bits
abbrev pub IsSeed : ℕ → List ℕ → Type 0
IsSeed seed word = (word ≡ decimal seed) × (seed < 2 ^ 64)

-- three words spell a generated load
abbrev pub IsBulk : List ℕ → List ℕ → List ℕ → Command → Type 0
IsBulk first second third (Bulk seed count workers) = IsSeed seed first × IsCount count second × IsWorkers workers third
IsBulk first second third _ = ⊥

-- the three words spell no generated load
abbrev pub IsNoBulk : List ℕ → List ℕ → List ℕ → Type 0
IsNoBulk first second third = (seed count workers : ℕ) → IsSeed seed first → IsCount count second → IsWorkers workers third → ⊥

-- how many words a command has, its name among them
abbrev pub count_of : Command → ℕ
count_of Filter = 4
count_of Leaks = 4
count_of (Delays format) = 4
count_of Node = 9
count_of Audit = 7
count_of (Run workers) = 6
count_of (Bulk seed count workers) = 5
count_of Merge = 4
count_of _ = 3

-- a form: the command's name, what its other words stand for, with spaces between them, how many words there are, and what they spell
pub record FormRow : Type 0 where
  pub name : List ℕ
  pub words : List ℕ
  pub count : ℕ
  pub asks : Asks

-- how many words the command has that they spell
abbrev pub count_asked : Asks → ℕ
count_asked (asks.Names command) = count_of command
count_asked asks.Format = count_of (Delays Ptp)
count_asked asks.Workers = count_of (Run 1)
count_asked asks.Load = count_of (Bulk 0 1 1)

-- a row of the table: there is a word more than spaces, and the name
abbrev pub form : List ℕ → List ℕ → Asks → FormRow
form name words asks = record { name = name; words = words; count = 2 + count_by (λ octet. nat_eq octet 32) words; asks = asks }

-- what a row of the code's table says
abbrev pub row_of : Form → FormRow
row_of row = record { name = row.0.now; words = row.1.now; count = row.2; asks = row.3 }

-- the forms of all commands
unfoldable pub forms : List FormRow
forms =
    form (codes "filter") (codes "IN OUT REPORT") (asks.Names Filter)
    ∷ form (codes "leaks") (codes "IN OUT REPORT") (asks.Names Leaks)
    ∷ form (codes "paths") (codes "IN REPORT") (asks.Names Paths)
    ∷ form (codes "delays") (codes "FORMAT IN REPORT") asks.Format
    ∷ form (codes "show") (codes "IN REPORT") (asks.Names Show)
    ∷ form (codes "save") (codes "IN OUT") (asks.Names Save)
    ∷ form (codes "node") (codes "DOMAIN READINGS NODE LINK IN OUT REPORT EXPORTS") (asks.Names Node)
    ∷ form (codes "audit") (codes "DOMAIN NODE LINK BEFORE AFTER REPORT") (asks.Names Audit)
    ∷ form (codes "run") (codes "DOMAIN READINGS WORKERS REPORT EXPORTS") asks.Workers
    ∷ form (codes "bulk") (codes "SEED COUNT WORKERS REPORT") asks.Load
    ∷ form (codes "collect") (codes "EXPORTS REPORT") (asks.Names Collect)
    ∷ form (codes "ipfix") (codes "EXPORTS OUT") (asks.Names Ipfix)
    ∷ form (codes "records") (codes "IN OUT") (asks.Names Records)
    ∷ form (codes "part") (codes "EXPORTS PART") (asks.Names Part)
    ∷ form (codes "merge") (codes "ONE TWO PART") (asks.Names Merge)
    ∷ form (codes "parts") (codes "PART REPORT") (asks.Names Parts)
    ∷ []

-- the words after the name spell this command
abbrev pub Spells : Asks → List (List ℕ) → Command → Type 0
Spells (asks.Names asked) words command = command ≡ asked
Spells asks.Format words (Delays format) = name_at words 1 ≡ format_name format
Spells asks.Format words _ = ⊥
Spells asks.Workers words (Run workers) = IsWorkers workers (name_at words 3)
Spells asks.Workers words _ = ⊥
Spells asks.Load words command = IsBulk (name_at words 1) (name_at words 2) (name_at words 3) command

-- the form whose name is the first word
unfoldable pub form_for : List (List ℕ) → Option FormRow
form_for words = find (λ row. bytes_eq row.name (name_at words 0)) forms

-- The words are of this command's form: the first is the name of a form, the others spell the command, and there are as many as it has.
abbrev pub IsForm : Command → List (List ℕ) → Type 0
IsForm command words = (length words ≡ count_of command) × IsSomeAnd (form_for words) (λ row. Spells row.asks words command)

-- the words are of no command's form
abbrev pub IsNoForm : List (List ℕ) → Type 0
IsNoForm words = (command : Command) → IsForm command words → ⊥
