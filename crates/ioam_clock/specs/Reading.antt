-- A file of readings: each line by itself and by what stands before it.
use Rattle.std.specs.Prelude.{◌≡◌, ⊤, ℕ, ◌+◌, ◌^◌, nat_lt, ◌==◌, List, [], ◌∷◌, ◌++◌, length, map, replicate, slice_index_or, slice_set, position, Option, Some, None, Result, Ok, Err, if◌then◌else◌}
use Rattle.std.specs.Str.{bytes_eq, is_utf8}
use Rattle.ioam_clock.specs.declared.fault.ReadWhy.{ReadWhy}
use Rattle.ioam_clock.specs.declared.fault.ReadWhy.TheVariants.{Long, Node, Order}
use Rattle.ioam_clock.specs.declared.fault.ReadingsFault.{ReadingsFault}
use Rattle.ioam_clock.specs.declared.fault.ReadingsRefused.{ReadingsRefused}
use Rattle.ioam_clock.specs.declared.fault.ReadingsRefused.TheVariants.{Fault, NoMemory}
use Rattle.ioam_clock.specs.declared.sample.Sample.{Sample}
use Rattle.ioam_topo.specs.declared.domain.Domain.{Domain}
use Rattle.ioam_topo.specs.Domain.{nodes}
use Rattle.ioam_topo.specs.Keyed.{name_of_node}
use Rattle.ioam_clock.specs.Lines.{Line, words_of, lines}
use Rattle.ioam_clock.specs.Numbers.{◌▷◌, number, maybe}
use Rattle.ioam_clock.specs.Samples.{follows}

-- the sample that a line says
abbrev pub sample_of : Line → Result Sample ReadWhy
sample_of line = number (2 ^ 63) line.time ▷ (λ time. number (2 ^ 63) line.clock ▷ (λ clock. maybe (2 ^ 63) line.delay ▷ (λ delay.
    maybe (2 ^ 32) line.queue ▷ (λ queue. maybe (2 ^ 32) line.buffer ▷ (λ buffer.
    Ok (record { time = time; clock = clock; delay = delay; queue = queue; buffer = buffer }))))))

-- a place that is there
abbrev pub placed : Option ℕ → Result ℕ ReadWhy
placed None = Err Node
placed (Some place) = Ok place

-- the node of these names that a word names, by its place; octets that are no UTF-8 text name none
abbrev pub node_of : List (List ℕ) → List ℕ → Result ℕ ReadWhy
node_of names word = if is_utf8 word then placed (position (bytes_eq word) names) else Err Node

-- the samples of a node
abbrev pub samples_of : List (List Sample) → ℕ → List Sample
samples_of all node = slice_index_or all node []

-- the samples of each node, with one more of a node
abbrev pub added : List (List Sample) → ℕ → Sample → Result (List (List Sample)) ReadWhy
added all node sample = if follows (samples_of all node) sample
    then Ok (slice_set all node (samples_of all node ++ sample ∷ [])) else Err Order

-- the samples of each node, with the one that six words say
abbrev pub said : List (List ℕ) → List (List Sample) → Line → Result (List (List Sample)) ReadWhy
said names all line = node_of names line.node ▷ (λ node. sample_of line ▷ (λ sample. added all node sample))

-- the samples of each node, with the one that a line says; an empty line says none
abbrev pub line_added : List (List ℕ) → List (List Sample) → List ℕ → Result (List (List Sample)) ReadWhy
line_added names all line = if length line == 0 then Ok all else words_of line ▷ said names all

-- what a line gives at its number, read further; or its fault
abbrev pub at_line : {A B : Type 0} → ℕ → Result A ReadWhy → (A → Result B ReadingsFault) → Result B ReadingsFault
at_line number (Ok all) go = go all
at_line number (Err why) go = Err (record { line = number; why = why })

-- the samples of each node, with those of lines that are counted from a number on; or the first fault
abbrev pub lines_added : List (List ℕ) → ℕ → List (List Sample) → List (List ℕ) → Result (List (List Sample)) ReadingsFault
lines_added names number all [] = Ok all
lines_added names number all (line ∷ more) = at_line number (line_added names all line) (λ next. lines_added names (number + 1) next more)

-- the samples of each node of a file of readings, or the file's first fault
abbrev pub readings_of : List (List ℕ) → List ℕ → Result (List (List Sample)) ReadingsFault
readings_of names octets = if nat_lt 67108864 (length octets) then Err (record { line = 0; why = Long })
    else lines_added names 1 (replicate (length names) []) (lines octets)

-- the names of a domain's nodes
abbrev pub node_names : Domain → List (List ℕ)
node_names domain = map name_of_node (nodes domain)

-- what was answered is this reading; want of memory is free
abbrev pub IsReading : {A : Type 0} → Result A ReadingsRefused → Result A ReadingsFault → Type 0
IsReading (Ok x) reading = reading ≡ Ok x
IsReading (Err (Fault fault)) reading = reading ≡ Err fault
IsReading (Err NoMemory) reading = ⊤
