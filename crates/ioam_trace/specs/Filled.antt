-- The same as a function: what a node answers, and what it leaves of the octets of a trace (RFC 9197
-- section 4.4.1).
use Rattle.std.specs.Prelude.{ℕ, ◌+◌, ◌-◌, ◌*◌, ◌%◌, ◌==◌, Bool, ◌&&◌, nat_le, if◌then◌else◌, List, length}
use Rattle.ioam_base.specs.Octets.{u16_at, written}
use Rattle.ioam_data.specs.Kind.{can_add}
use Rattle.ioam_data.specs.View.{Seen}
use Rattle.ioam_data.specs.Written.{element_of}
use Rattle.ioam_trace.specs.Filling.{words_to_add, with_lengths, less_remaining}
use Rattle.ioam_trace.specs.Head.{node_len_of, overflow_of, remaining_of, kind_of}
use Rattle.ioam_trace.specs.declared.addition.Filled.{Filled}
use Rattle.ioam_trace.specs.declared.addition.Filled.TheVariants.{Added, Overflowed, AlreadyOver, Unsuited}

-- nodes add elements to these octets
abbrev pub is_suited : List ℕ → Bool
is_suited octets = (length octets % 4 == 0)
    && (nat_le (8 + 4 * remaining_of octets) (length octets) && can_add (kind_of octets) (node_len_of octets))

-- the answer by the tests in their order: a header is there, Overflow is set, suited, the element fits
abbrev pub answer_by : Bool → Bool → Bool → Bool → ℕ → Filled
answer_by begins over suited fits amount =
    if begins then (if over then AlreadyOver else (if suited then (if fits then Added amount else Overflowed) else Unsuited)) else Unsuited

-- what a node answers
abbrev pub answer_of : List ℕ → Seen → Filled
answer_of octets view = answer_by (nat_le 8 (length octets)) (overflow_of octets == 1) (is_suited octets)
    (nat_le (words_to_add octets view) (remaining_of octets)) (words_to_add octets view)

-- the octets that go with an answer
abbrev pub octets_by : List ℕ → Seen → Filled → List ℕ
octets_by octets view AlreadyOver = octets
octets_by octets view Unsuited = octets
octets_by octets view Overflowed = with_lengths octets (u16_at octets 2 + 1024)
octets_by octets view (Added amount) = written (less_remaining octets amount) (8 + 4 * (remaining_of octets - amount))
    (element_of (kind_of octets) (node_len_of octets) view)

-- the octets as the node leaves them
unfoldable pub filled : List ℕ → Seen → List ℕ
filled octets view = octets_by octets view (answer_of octets view)
