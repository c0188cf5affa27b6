-- Direct export data as C sees it.
use Rattle.std.specs.Prelude.{◌≡◌, ◌⊎◌, ℕ, List, Ok, Err}
use Rattle.ioam_dex.specs.Direct.{IsDirect, Reads}
use Rattle.ioam_dex.specs.declared.direct.Direct.{Direct}
use Rattle.ioam_dex.specs.declared.direct.DirectFault.{DirectFault}
use Rattle.ioam_c.specs.Part.{flag, number}
use Rattle.ioam_c.specs.Status.{ok, too_short}
use Rattle.ioam_c.specs.declared.direct.IoamDirect.{IoamDirect}

-- the value, each of the two numbers with a flag that it is there
abbrev pub direct_of : Direct → IoamDirect
direct_of direct = record {
  kind = direct.kind;
  flow = number direct.flow;
  seq = number direct.seq;
  namespace = direct.namespace.0;
  flags = direct.flags;
  extensions = direct.ext;
  has_flow = flag direct.flow;
  has_seq = flag direct.seq;
}

-- the octets begin with a value, which is given; or they are too few, and nothing is
abbrev pub ReadsDirect : List ℕ → IoamDirect → IoamDirect → ℕ → Type 0
ReadsDirect octets old new status =
    ((direct : Direct) × IsDirect direct × Reads octets (Ok direct) × ((status ≡ ok) × (new ≡ direct_of direct)))
    ⊎ ((fault : DirectFault) × Reads octets (Err fault) × ((status ≡ too_short) × (new ≡ old)))
