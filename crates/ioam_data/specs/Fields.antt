-- What an element holds (RFC 9197 section 4.4.2), field by field.
use Rattle.std.specs.Prelude.{ℕ, zero, suc, ◌+◌, ◌-◌, ◌*◌, ◌/◌, ◌%◌, List, [], ◌∷◌, take, drop, Option, None}
use Rattle.ioam_base.specs.Octets.{u32_at}
use Rattle.ioam_data.specs.Kind.{words}
use Rattle.ioam_data.specs.Shape.{parted, joined_if}
use Rattle.ioam_data.specs.Table.{table, numbers_by, rest_by}
use Rattle.ioam_data.specs.View.{snapshot_data}
use Rattle.ioam_data.specs.declared.held.Fields.{Fields}
pub use Rattle.ioam_data.specs.Bits.{when_has, past}

-- the fields of an element without where they lie in memory
pub record Held : Type 0 where
  pub hop_node : Option (ℕ × ℕ)
  pub faces : Option (ℕ × ℕ)
  pub seconds : Option ℕ
  pub fraction : Option ℕ
  pub delay : Option ℕ
  pub short : Option ℕ
  pub queue : Option ℕ
  pub check : Option ℕ
  pub wide_hop_node : Option (ℕ × ℕ)
  pub wide_faces : Option (ℕ × ℕ)
  pub wide : Option ℕ
  pub buffer : Option ℕ
  pub filler : List ℕ
  pub snapshot : Option (ℕ × List ℕ)

-- what an element says, in values of its own
abbrev pub held : Fields → Held
held fields = record {
  hop_node = fields.hop_node;
  faces = fields.faces;
  seconds = fields.seconds;
  fraction = fields.fraction;
  delay = fields.delay;
  short = fields.short;
  queue = fields.queue;
  check = fields.check;
  wide_hop_node = fields.wide_hop_node;
  wide_faces = fields.wide_faces;
  wide = fields.wide;
  buffer = fields.buffer;
  filler = fields.fill.now;
  snapshot = snapshot_data fields.snapshot;
}

-- ---- fields by the numbers of the table

-- the number of the row at an index
abbrev pub number_at_row : ℕ → List (Option ℕ) → Option ℕ
number_at_row row [] = None
number_at_row zero (number ∷ numbers) = number
number_at_row (suc row) (number ∷ numbers) = number_at_row row numbers

-- fields by the number of each row, the filler and the snapshot
abbrev pub named : List (Option ℕ) → List ℕ → Option (ℕ × List ℕ) → Held
named numbers filler snapshot = record {
  hop_node = parted 16777216 (number_at_row 0 numbers);
  faces = parted 65536 (number_at_row 1 numbers);
  seconds = number_at_row 2 numbers;
  fraction = number_at_row 3 numbers;
  delay = number_at_row 4 numbers;
  short = number_at_row 5 numbers;
  queue = number_at_row 6 numbers;
  check = number_at_row 7 numbers;
  wide_hop_node = parted 72057594037927936 (number_at_row 8 numbers);
  wide_faces = parted 4294967296 (number_at_row 9 numbers);
  wide = number_at_row 10 numbers;
  buffer = number_at_row 11 numbers;
  filler = filler;
  snapshot = snapshot;
}

-- the number of each row
abbrev pub numbers_of : Held → List (Option ℕ)
numbers_of held = joined_if 16777216 held.hop_node ∷ (joined_if 65536 held.faces
    ∷ (held.seconds ∷ (held.fraction ∷ (held.delay ∷ (held.short ∷ (held.queue ∷ (held.check
    ∷ (joined_if 72057594037927936 held.wide_hop_node ∷ (joined_if 4294967296 held.wide_faces
    ∷ (held.wide ∷ (held.buffer ∷ [])))))))))))

-- ---- a field at the start of octets

-- 8 bits and 24 bits
abbrev pub hop_node_at : List ℕ → ℕ × ℕ
hop_node_at octets = (u32_at octets 0 / 16777216, u32_at octets 0 % 16777216)

-- 16 bits and 16 bits
abbrev pub faces_at : List ℕ → ℕ × ℕ
faces_at octets = (u32_at octets 0 / 65536, u32_at octets 0 % 65536)

-- the first four octets as one number of 32 bits, the first one highest
abbrev pub number_at : List ℕ → ℕ
number_at octets = u32_at octets 0

-- 8 bits and 56 bits
abbrev pub wide_hop_node_at : List ℕ → ℕ × ℕ
wide_hop_node_at octets = (u32_at octets 0 / 16777216, u32_at octets 0 % 16777216 * 4294967296 + u32_at octets 4)

-- 32 bits and 32 bits
abbrev pub wide_faces_at : List ℕ → ℕ × ℕ
wide_faces_at octets = (u32_at octets 0, u32_at octets 4)

-- 64 bits
abbrev pub wide_at : List ℕ → ℕ
wide_at octets = u32_at octets 0 * 4294967296 + u32_at octets 4

-- a schema of 24 bits after the octet of the length, and the data
abbrev pub snapshot_at : List ℕ → ℕ × List ℕ
snapshot_at octets = (u32_at octets 0 % 16777216, drop 4 octets)

-- ---- the whole element

-- the fields of an element in bit order, the words that fill it up to NodeLen, and the snapshot
unfoldable pub fields_of : ℕ → ℕ → List ℕ → Held
fields_of kind node_len octets =
    let rest = rest_by table kind octets in
    let filler = 4 * (node_len - words kind) in
    named (numbers_by table kind octets) (take filler rest) (when_has kind 22 (snapshot_at (drop filler rest)))
