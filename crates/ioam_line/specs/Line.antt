-- A line of a report, as a value: what it says, as text and as a JSON object.
use Rattle.std.specs.Prelude.{ℕ, ◌+◌, ◌*◌, ◌==◌, Bool, true, false, if◌then◌else◌, List, [], ◌∷◌, ◌++◌, length, decimal, codes}
use Rattle.std.specs.List.{flat_map}
use Rattle.ioam_line.specs.Digits.{digits_of}
use Rattle.ioam_line.specs.declared.form.Form.{Form}
use Rattle.ioam_line.specs.declared.form.Form.TheVariants.{Text, Json}

-- ---- lines

-- what a line says of one thing
pub data Value : Type 0 where
  -- it is not known
  unknown : Value
  number : ℕ → Value
  flag : Bool → Value
  -- octets, by their hexadecimal digits; no octets are `-` in the text
  digits : List ℕ → Value
  -- a name
  word : List ℕ → Value

-- a piece of a line
pub data Piece : Type 0 where
  -- octets in the text alone
  said : List ℕ → Piece
  -- a label and a value after it, in the text alone
  told : List ℕ → Value → Piece
  -- the value's label in the text, its key in the object, and the value
  fact : List ℕ → List ℕ → Value → Piece
  -- a key and a value, in the object alone
  aside : List ℕ → Value → Piece

-- the kind of a line, which its object names, and its pieces in order
pub record Line : Type 0 where
  pub kind : List ℕ
  pub pieces : List Piece

-- a number, or that it is not known when it is all ones; `ones` is the number that these make
abbrev pub known : ℕ → ℕ → Value
known ones value = if value == ones then unknown else number value

-- ---- text

-- a value in the text
abbrev pub value_text : Value → List ℕ
value_text unknown = codes "-"
value_text (number n) = decimal n
value_text (flag true) = codes "yes"
value_text (flag false) = codes "no"
value_text (digits []) = codes "-"
value_text (digits (octet ∷ octets)) = digits_of (octet ∷ octets)
value_text (word name) = name

-- a piece in the text
abbrev pub piece_text : Piece → List ℕ
piece_text (said octets) = octets
piece_text (fact label key value) = label ++ value_text value
piece_text (told label value) = label ++ value_text value
piece_text (aside key value) = []

-- ---- JSON (RFC 8259)

-- a value in the object
abbrev pub value_json : Value → List ℕ
value_json unknown = codes "null"
value_json (number n) = decimal n
value_json (flag true) = codes "true"
value_json (flag false) = codes "false"
value_json (digits octets) = codes "\"" ++ (digits_of octets ++ codes "\"")
value_json (word name) = codes "\"" ++ (name ++ codes "\"")

-- a key and its value, after another member
abbrev pub member_json : List ℕ → Value → List ℕ
member_json key value = codes ",\"" ++ (key ++ (codes "\":" ++ value_json value))

-- a piece in the object
abbrev pub piece_json : Piece → List ℕ
piece_json (said octets) = []
piece_json (told label value) = []
piece_json (fact label key value) = member_json key value
piece_json (aside key value) = member_json key value

-- ---- either

-- the form that is JSON or not
abbrev pub form_of : Bool → Form
form_of true = Json
form_of false = Text

-- a piece in a form
abbrev pub piece_octets : Form → Piece → List ℕ
piece_octets Text piece = piece_text piece
piece_octets Json piece = piece_json piece

-- what comes before the pieces
abbrev pub beginning : Form → List ℕ → List ℕ
beginning Text kind = []
beginning Json kind = codes "{\"line\":\"" ++ (kind ++ codes "\"")

-- what comes after them
abbrev pub ending : Form → List ℕ
ending Text = codes "\n"
ending Json = codes "}\n"

-- pieces in a form
abbrev pub pieces_octets : Form → List Piece → List ℕ
pieces_octets form pieces = flat_map (piece_octets form) pieces

-- a line in a form
abbrev pub line_octets : Form → Line → List ℕ
line_octets form line = beginning form line.kind ++ (pieces_octets form line.pieces ++ ending form)

-- lines in a form
abbrev pub lines_octets : Form → List Line → List ℕ
lines_octets form lines = flat_map (line_octets form) lines

-- a line as text, and as JSON
abbrev pub text_of : Line → List ℕ
text_of line = line_octets Text line

abbrev pub json_of : Line → List ℕ
json_of line = line_octets Json line

-- ---- room

-- the most octets that a value has in either form
abbrev pub value_most : Value → ℕ
value_most unknown = 4
value_most (number n) = 20
value_most (flag b) = 5
value_most (digits octets) = 2 * length octets + 2
value_most (word name) = length name + 2

-- the most that a piece has
abbrev pub piece_most : Piece → ℕ
piece_most (said octets) = length octets
piece_most (told label value) = length label + value_most value
piece_most (fact label key value) = length label + length key + 4 + value_most value
piece_most (aside key value) = length key + 4 + value_most value

-- the most that pieces have
abbrev pub pieces_most : List Piece → ℕ
pieces_most [] = 0
pieces_most (piece ∷ pieces) = piece_most piece + pieces_most pieces
