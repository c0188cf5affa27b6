-- The lines of a file and the words of a line.
use Rattle.std.specs.Prelude.{ℕ, Bool, ◌==◌, ◌||◌, List, [], ◌∷◌, length, Result, Ok, Err, if◌then◌else◌}
use Rattle.std.specs.List.{slice_split}
use Rattle.ioam_clock.specs.declared.fault.ReadWhy.{ReadWhy}
use Rattle.ioam_clock.specs.declared.fault.ReadWhy.TheVariants.{Words}

-- a line feed
abbrev pub ends_line : ℕ → Bool
ends_line octet = octet == 10

-- a space
abbrev pub ends_word : ℕ → Bool
ends_word octet = octet == 32

-- the lines of a file; what stands behind the last line feed is the last
abbrev pub lines : List ℕ → List (List ℕ)
lines octets = slice_split ends_line octets

-- the words of a line that says what a node reads at a time
pub record Line : Type 0 where
  pub node : List ℕ
  pub time : List ℕ
  pub clock : List ℕ
  pub delay : List ℕ
  pub queue : List ℕ
  pub buffer : List ℕ

-- whether a word has no octets
abbrev pub is_empty : List ℕ → Bool
is_empty word = length word == 0

-- whether a word is empty
abbrev pub has_empty : Line → Bool
has_empty line = is_empty line.node || is_empty line.time || is_empty line.clock || is_empty line.delay || is_empty line.queue || is_empty line.buffer

-- the line, where none of its words is empty; else that its words are wrong
abbrev pub filled : Line → Result Line ReadWhy
filled line = if has_empty line then Err Words else Ok line

-- six words, none of them empty
abbrev pub six : List (List ℕ) → Result Line ReadWhy
six (a ∷ b ∷ c ∷ d ∷ e ∷ f ∷ []) = filled (record { node = a; time = b; clock = c; delay = d; queue = e; buffer = f })
six _ = Err Words

-- the words of a line, which has one space between each two
abbrev pub words_of : List ℕ → Result Line ReadWhy
words_of line = six (slice_split ends_word line)
