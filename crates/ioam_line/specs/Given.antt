-- The pieces that code hands to the writer.
use Rattle.std.specs.Prelude.{ℕ, ◌-◌, ◌==◌, if◌then◌else◌, List, map, drop}
use Rattle.std.specs.Int.{w64, to_be_bytes}
use Rattle.ioam_line.specs.Line as line
use Rattle.ioam_line.specs.declared.piece.Piece.{Piece}
use Rattle.ioam_line.specs.declared.piece.Piece.TheVariants.{Said, Told, Fact, Aside}
use Rattle.ioam_line.specs.declared.piece.Value.{Value}
use Rattle.ioam_line.specs.declared.piece.Width.{Width}
use Rattle.ioam_line.specs.declared.piece.Width.TheVariants.{One, Two, Three, Four, Eight}
use Rattle.ioam_line.specs.declared.piece.Value.TheVariants.{Unknown, Number, Flag, Hex, Digits, Word}

-- how many octets a width has
abbrev pub width_of : Width → ℕ
width_of One = 1
width_of Two = 2
width_of Three = 3
width_of Four = 4
width_of Eight = 8

-- the last octets of a number
abbrev pub last_octets : Width → ℕ → List ℕ
last_octets width number = drop (8 - width_of width) (to_be_bytes w64 number)

-- these, or that the number is not known when it is all ones; `ones` is the number that these make
abbrev pub known_octets : ℕ → Width → ℕ → line.Value
known_octets ones width number = if number == ones then line.unknown else line.digits (last_octets width number)

-- a value; a number in hexadecimal digits shows its last octets
abbrev pub value_of : Value → line.Value
value_of Unknown = line.unknown
value_of (Number n) = line.number n
value_of (Flag b) = line.flag b
value_of (Hex number width) = line.digits (last_octets width number)
value_of (Digits octets) = line.digits octets.now
value_of (Word name) = line.word name.now

abbrev pub piece_of : Piece → line.Piece
piece_of (Said octets) = line.said octets.now
piece_of (Told label value) = line.told label.now (value_of value)
piece_of (Fact label key value) = line.fact label.now key.now (value_of value)
piece_of (Aside key value) = line.aside key.now (value_of value)

abbrev pub pieces_of : List Piece → List line.Piece
pieces_of pieces = map piece_of pieces
