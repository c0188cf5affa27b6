-- What a node may leave of the octets of a trace (RFC 9197 section 4.4.1) if only its id, the hop limit with which it sends
-- the packet on and the interface by which the packet came are known of it.
use Rattle.std.specs.Prelude.{◌≡◌, ◌<◌, ◌+◌, ◌-◌, ◌*◌, ◌/◌, ◌⊎◌, ◌==◌, ◌&&◌, ℕ, Bool, nat_le, nat_lt, if◌then◌else◌, List}
use Rattle.ioam_base.specs.Octets.{written}
use Rattle.ioam_base.specs.Words.{four_octets}
use Rattle.ioam_data.specs.Kind.{has, words, undefined}
use Rattle.ioam_data.specs.Table.{rows, words_by}
use Rattle.ioam_data.specs.View.{Seen}
use Rattle.ioam_trace.specs.Filling.{FillingBy}
use Rattle.ioam_trace.specs.Head.{remaining_of, kind_of}
use Rattle.ioam_trace.specs.declared.addition.Filled.{Filled}
use Rattle.ioam_trace.specs.declared.addition.Filled.TheVariants.{Added, Overflowed, AlreadyOver, Unsuited}
use Rattle.ioam_audit.specs.Free.{IsFree}

-- A node may add an element under a type and NodeLen: NodeLen is the words of the type's fields, and where the type has
-- undefined bits, for which it then adds words of all ones up to NodeLen, at least these. The type has one of the bits 0
-- to 22.
abbrev pub may_add : ℕ → ℕ → Bool
may_add kind node_len = (if undefined kind == 0 then node_len == words kind else nat_le (words kind) node_len) && nat_lt 0 (kind / 2)

-- the words of the fields of bits 0 to 6, before the checksum complement
abbrev pub words_before : ℕ → ℕ
words_before kind = words_by (rows 0 7) kind

-- The octets `filled` of a trace with this checksum complement (section 4.4.2.8, bit 7) in the element of `amount` words that
-- was added to the octets `old`, if the type has bit 7.
abbrev pub with_check : List ℕ → Filled → List ℕ → ℕ → List ℕ
with_check old AlreadyOver filled check = filled
with_check old Unsuited filled check = filled
with_check old Overflowed filled check = filled
with_check old (Added amount) filled check = if has (kind_of old) 7
    then written filled (8 + 4 * (remaining_of old - amount) + 4 * words_before (kind_of old)) (four_octets check)
    else filled

module _ (hops id inward : ℕ) (old new : List ℕ) where
  -- A node with some such view may have left this by filling the trace as section 4.4.1 says, with any checksum complement.
  pub record MayFill : Type 0 where
    pub view : Seen
    pub answer : Filled
    pub filled : List ℕ
    pub check : ℕ
    pub free : IsFree hops id inward view
    pub fills : FillingBy may_add old view filled answer
    pub is : new ≡ with_check old answer filled check

  -- a node may have filled the trace or, if the type has undefined bits, added no data at all
  abbrev pub MayBecome : Type 0
  MayBecome = ((0 < undefined (kind_of old)) × (new ≡ old)) ⊎ MayFill
