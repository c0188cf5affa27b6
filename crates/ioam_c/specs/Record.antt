-- An export record as C sees it.
use Rattle.std.specs.Prelude.{◌≡◌, ◌⊎◌, ◌-◌, ℕ, List, length, drop}
use Rattle.ioam_dex.specs.Record.{Record, Rec}
use Rattle.ioam_c.specs.Part.{flag, number, first, second}
use Rattle.ioam_c.specs.Status.{ok, no_record}
use Rattle.ioam_c.specs.declared.record.IoamRecord.{IoamRecord}

-- what a record of `size` octets says, each number that need not be there with a flag. Its element is last
abbrev pub record_in : ℕ → Record → IoamRecord
record_in size x = record {
  element = size - length x.element;
  element_length = length x.element;
  time = first x.visit;
  ingress = second x.visit;
  kind = x.kind;
  flow = number x.flow;
  seq = number x.seq;
  namespace = x.namespace;
  flags = x.flags;
  extensions = x.ext;
  has_visit = flag x.visit;
  has_flow = flag x.flow;
  has_seq = flag x.seq;
}

-- the octets are one record, which is given, and whose element lies at its offset; or they are none, and nothing is
abbrev pub ReadsRecord : List ℕ → IoamRecord → IoamRecord → ℕ → Type 0
ReadsRecord octets old new status =
    ((x : Record) × Rec octets x × ((status ≡ ok) × ((new ≡ record_in (length octets) x) × (drop new.element octets ≡ x.element))))
    ⊎ (((x : Record) → ¬ Rec octets x) × ((status ≡ no_record) × (new ≡ old)))
