-- The shapes of fields (RFC 9197 section 4.4.2): a field is a number of one word or of two, the first octet the most
-- significant, and in some shapes it holds two values, the upper one in units of the lower one's range.
use Rattle.std.specs.Prelude.{ℕ, ◌+◌, ◌*◌, ◌/◌, ◌%◌, List, ◌++◌, Option, Some, None}
use Rattle.ioam_base.specs.Octets.{u32_at}
use Rattle.ioam_base.specs.Words.{four_octets}

pub data Shape : Type 0 where
  -- 8 bits and 24
  HopNode : Shape
  -- 16 bits and 16
  Pair : Shape
  -- 32 bits
  Word : Shape
  -- 8 bits and 56
  WideHopNode : Shape
  -- 32 bits and 32
  WidePair : Shape
  -- 64 bits
  DoubleWord : Shape

-- the words of a field
abbrev pub words_of : Shape → ℕ
words_of HopNode = 1
words_of Pair = 1
words_of Word = 1
words_of WideHopNode = 2
words_of WidePair = 2
words_of DoubleWord = 2

-- how many numbers a field can hold
abbrev pub limit_of : Shape → ℕ
limit_of HopNode = 4294967296
limit_of Pair = 4294967296
limit_of Word = 4294967296
limit_of WideHopNode = 18446744073709551616
limit_of WidePair = 18446744073709551616
limit_of DoubleWord = 18446744073709551616

-- two words
abbrev pub two_words : ℕ → List ℕ
two_words number = four_octets (number / 4294967296) ++ four_octets (number % 4294967296)

-- the octets of a field
abbrev pub octets_of : Shape → ℕ → List ℕ
octets_of HopNode number = four_octets number
octets_of Pair number = four_octets number
octets_of Word number = four_octets number
octets_of WideHopNode number = two_words number
octets_of WidePair number = two_words number
octets_of DoubleWord number = two_words number

-- the number of the field that octets begin with
abbrev pub number_of : Shape → List ℕ → ℕ
number_of HopNode octets = u32_at octets 0
number_of Pair octets = u32_at octets 0
number_of Word octets = u32_at octets 0
number_of WideHopNode octets = u32_at octets 0 * 4294967296 + u32_at octets 4
number_of WidePair octets = u32_at octets 0 * 4294967296 + u32_at octets 4
number_of DoubleWord octets = u32_at octets 0 * 4294967296 + u32_at octets 4

-- two values as one number
abbrev pub joined : ℕ → ℕ × ℕ → ℕ
joined unit values = values.0 * unit + values.1

-- two values, if they are there, as one number
abbrev pub joined_if : ℕ → Option (ℕ × ℕ) → Option ℕ
joined_if unit None = None
joined_if unit (Some values) = Some (joined unit values)

-- and a number, if it is there, as two values
abbrev pub parted : ℕ → Option ℕ → Option (ℕ × ℕ)
parted unit None = None
parted unit (Some number) = Some (number / unit, number % unit)
