-- What a file of readings says: of each node the samples of the lines that name it, or its first fault.
use Rattle.std.specs.Prelude.{◌≡◌, ⊤, ◌⊎◌, ℕ, ◌+◌, ◌<◌, ◌≤◌, false, nat_eq, IsTrue, List, [], ◌∷◌, ◌++◌, length, take, slice_index_or, Result, Ok, Err, if◌then◌else◌}
use Rattle.std.specs.List.{All}
use Rattle.ioam_clock.specs.declared.fault.ReadWhy.{ReadWhy}
use Rattle.ioam_clock.specs.declared.fault.ReadWhy.TheVariants.{Long, Order}
use Rattle.ioam_clock.specs.declared.fault.ReadingsFault.{ReadingsFault}
use Rattle.ioam_clock.specs.declared.fault.ReadingsRefused.{ReadingsRefused}
use Rattle.ioam_clock.specs.declared.fault.ReadingsRefused.TheVariants.{Fault, NoMemory}
use Rattle.ioam_clock.specs.declared.sample.Sample.{Sample}
use Rattle.ioam_clock.specs.Lines.{words_of, lines}
use Rattle.ioam_clock.specs.Numbers.{◌▷◌}
use Rattle.ioam_clock.specs.Samples.{follows, Rise}
use Rattle.ioam_clock.specs.Reading.{node_of, sample_of, samples_of}

-- the node that a line names, by its place, and the sample that the line says
abbrev pub line_says : List (List ℕ) → List ℕ → Result (ℕ × Sample) ReadWhy
line_says names line = words_of line ▷ (λ words. node_of names words.node ▷ (λ node. sample_of words ▷ (λ sample. Ok (node, sample))))

-- the sample of a node, where it is that node's
abbrev pub of_node : ℕ → Result (ℕ × Sample) ReadWhy → List Sample
of_node node (Ok said) = if nat_eq said.0 node then said.1 ∷ [] else []
of_node node (Err why) = []

-- the samples of the lines that name a node, in their order
abbrev pub samples_in : List (List ℕ) → ℕ → List (List ℕ) → List Sample
samples_in names node [] = []
samples_in names node (line ∷ more) = of_node node (line_says names line) ++ samples_in names node more

-- a line that may stand behind these: it is empty, or says a sample later than all of its node before
abbrev pub IsLine : List (List ℕ) → List (List ℕ) → List ℕ → Type 0
IsLine names before line = (length line ≡ 0)
    ⊎ ((node : ℕ) × (sample : Sample) × (line_says names line ≡ Ok (node, sample)) × IsTrue (follows (samples_in names node before) sample))

-- each line may stand behind those before it
abbrev pub AreLines : List (List ℕ) → List (List ℕ) → Type 0
AreLines names ls = (k : ℕ) → k < length ls → IsLine names (take k ls) (slice_index_or ls k [])

-- why a line may not stand behind these: it isn't empty, and says no sample, or one that isn't later
abbrev pub IsWrong : List (List ℕ) → List (List ℕ) → List ℕ → ReadWhy → Type 0
IsWrong names before line why = (0 < length line) × ((line_says names line ≡ Err why)
    ⊎ ((node : ℕ) × (sample : Sample) × (line_says names line ≡ Ok (node, sample)) × (follows (samples_in names node before) sample ≡ false) × (why ≡ Order)))

-- the line of a fault, counted from 1, is wrong, and no line before it is
pub record IsFirstWrong (names ls : List (List ℕ)) (fault : ReadingsFault) : Type 0 where
  pub place : ℕ
  pub counted : fault.line ≡ place + 1
  pub there : place < length ls
  pub front : AreLines names (take place ls)
  pub wrong : IsWrong names (take place ls) (slice_index_or ls place []) fault.why

-- the fault of a file of too many octets
pub record IsLongFile (octets : List ℕ) (fault : ReadingsFault) : Type 0 where
  pub many : 67108864 < length octets
  pub is : fault ≡ record { line = 0; why = Long }

-- the first fault of the lines of a file, which has no more octets than a file may
pub record IsFaultyFile (names : List (List ℕ)) (octets : List ℕ) (fault : ReadingsFault) : Type 0 where
  pub few : length octets ≤ 67108864
  pub first : IsFirstWrong names (lines octets) fault

-- the samples of each node are those of the lines that name it, none of which is wrong; so the times of each rise
pub record AreSaid (names : List (List ℕ)) (octets : List ℕ) (readings : List (List Sample)) : Type 0 where
  pub few : length octets ≤ 67108864
  pub right : AreLines names (lines octets)
  pub count : length readings ≡ length names
  pub samples : (node : ℕ) → node < length names → samples_of readings node ≡ samples_in names node (lines octets)
  pub rising : All Rise readings

-- what was answered of a file; want of memory is free
abbrev pub IsFileRead : List (List ℕ) → List ℕ → Result (List (List Sample)) ReadingsRefused → Type 0
IsFileRead names octets (Ok readings) = AreSaid names octets readings
IsFileRead names octets (Err (Fault fault)) = IsLongFile octets fault ⊎ IsFaultyFile names octets fault
IsFileRead names octets (Err NoMemory) = ⊤
