-- The fields of an element (RFC 9197 section 4.4.2), a row each, in the order of their bits; and what any list of rows
-- says of octets.
use Rattle.std.specs.Prelude.{ℕ, zero, suc, ◌+◌, ◌%◌, Bool, false, ◌||◌, ◌==◌, if◌then◌else◌, List, [], ◌∷◌, ◌++◌, take, drop, Option, Some, None}
use Rattle.ioam_data.specs.Bits.{where_has, part, when_has, past}
use Rattle.ioam_data.specs.Shape.{Shape, words_of, octets_of, number_of, joined}
use Rattle.ioam_data.specs.Shape.Shape.{HopNode, Pair, Word, WideHopNode, WidePair, DoubleWord}
use Rattle.ioam_data.specs.Values.{or_ones, or_wide_ones, narrow_face, narrow_id, seconds_of, fraction_of, delay_of}
use Rattle.ioam_data.specs.View.{Seen}

-- a field: the bit that asks for it, its shape, and the number that a node writes
pub record Rule : Type 0 where
  pub bit : ℕ
  pub shape : Shape
  pub number : Seen → ℕ

-- the rows of all fields
unfoldable pub table : List Rule
table = record { bit = 0; shape = HopNode; number = λ view. joined 16777216 (view.hops, narrow_id view.id) }
    ∷ (record { bit = 1; shape = Pair; number = λ view. joined 65536 (narrow_face view.inward, narrow_face view.outward) }
    ∷ (record { bit = 2; shape = Word; number = λ view. seconds_of view.stamp }
    ∷ (record { bit = 3; shape = Word; number = λ view. fraction_of view.stamp }
    ∷ (record { bit = 4; shape = Word; number = λ view. delay_of view.delay }
    ∷ (record { bit = 5; shape = Word; number = λ view. or_ones view.short }
    ∷ (record { bit = 6; shape = Word; number = λ view. or_ones view.queue }
    ∷ (record { bit = 7; shape = Word; number = λ view. 4294967295 }
    ∷ (record { bit = 8; shape = WideHopNode; number = λ view. joined 72057594037927936 (view.hops, view.id) }
    ∷ (record { bit = 9; shape = WidePair; number = λ view. joined 4294967296 (or_ones view.inward, or_ones view.outward % 4294967296) }
    ∷ (record { bit = 10; shape = DoubleWord; number = λ view. or_wide_ones view.wide }
    ∷ (record { bit = 11; shape = Word; number = λ view. or_ones view.buffer }
    ∷ [])))))))))))

-- the words of all of them
abbrev pub most_words : ℕ
most_words = 15

-- `count` rows from an index on
abbrev pub rows : ℕ → ℕ → List Rule
rows first count = take count (drop first table)

-- ---- over a list of rows

-- the words of the fields that a type asks for
abbrev pub words_by : List Rule → ℕ → ℕ
words_by [] kind = 0
words_by (rule ∷ rules) kind = where_has kind rule.bit (words_of rule.shape) + words_by rules kind

-- the octets of these fields that a node writes
abbrev pub octets_by : List Rule → ℕ → Seen → List ℕ
octets_by [] kind view = []
octets_by (rule ∷ rules) kind view = part kind rule.bit (octets_of rule.shape (rule.number view)) ++ octets_by rules kind view

-- the numbers that are read of octets, `None` for a row whose bit the type lacks
abbrev pub numbers_by : List Rule → ℕ → List ℕ → List (Option ℕ)
numbers_by [] kind octets = []
numbers_by (rule ∷ rules) kind octets = when_has kind rule.bit (number_of rule.shape octets)
    ∷ numbers_by rules kind (past kind rule.bit (words_of rule.shape) octets)

-- the octets after these fields
abbrev pub rest_by : List Rule → ℕ → List ℕ → List ℕ
rest_by [] kind octets = octets
rest_by (rule ∷ rules) kind octets = rest_by rules kind (past kind rule.bit (words_of rule.shape) octets)

-- the numbers that a node writes, likewise
abbrev pub shown_by : List Rule → ℕ → Seen → List (Option ℕ)
shown_by [] kind view = []
shown_by (rule ∷ rules) kind view = when_has kind rule.bit (rule.number view) ∷ shown_by rules kind view

-- the octets of a number that is there
abbrev pub octets_if : Shape → Option ℕ → List ℕ
octets_if shape None = []
octets_if shape (Some number) = octets_of shape number

-- the octets of the numbers of a list of rows
abbrev pub spelt_by : List Rule → List (Option ℕ) → List ℕ
spelt_by [] numbers = []
spelt_by (rule ∷ rules) [] = []
spelt_by (rule ∷ rules) (number ∷ numbers) = octets_if rule.shape number ++ spelt_by rules numbers

-- ---- bits without a field

-- whether some row is of a bit
abbrev pub is_bit_of : List Rule → ℕ → Bool
is_bit_of [] bit = false
is_bit_of (rule ∷ rules) bit = (rule.bit == bit) || is_bit_of rules bit

-- how many of the bits below `bit` a type has that no row is of
abbrev pub others_by : List Rule → ℕ → ℕ → ℕ
others_by rules kind zero = 0
others_by rules kind (suc bit) = others_by rules kind bit + (if is_bit_of rules bit then 0 else where_has kind bit 1)
