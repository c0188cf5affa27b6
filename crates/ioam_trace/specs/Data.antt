-- The octets of a trace that an entry node began and later nodes filled (RFC 9197 section 4.4).
use Rattle.std.specs.Prelude.{ℕ, ◌+◌, ◌-◌, ◌*◌, ◌/◌, ◌≡◌, ◌<◌, ◌≤◌, Bool, true, nat_le, nat_lt, if◌then◌else◌, List, [], ◌∷◌, ◌++◌, length, reverse, replicate, sum_by, All}
use Rattle.std.specs.List.{concat}
use Rattle.std.specs.Int.{w16, w32, to_be_bytes}
use Rattle.ioam_data.specs.Kind.{words, is_entry_type}
use Rattle.ioam_data.specs.Elements.{IsElement}
use Rattle.ioam_trace.specs.declared.head.TraceHead.{TraceHead}

-- a header of these numbers
abbrev pub header : ℕ → ℕ → ℕ → ℕ → ℕ → ℕ → List ℕ
header namespace node_len flags remaining kind reserved = to_be_bytes w16 namespace
    ++ to_be_bytes w16 (node_len * 2048 + flags * 128 + remaining)
    ++ to_be_bytes w32 (kind * 256 + reserved)

-- the 8 octets of the header with the fields of a trace's head
abbrev pub head_octets : TraceHead → List ℕ
head_octets head = header head.namespace.0 head.node_len head.flags head.remaining head.kind head.reserved

-- the words of an element
abbrev pub words_in : List ℕ → ℕ
words_in element = length element / 4

-- the longest front of a list of elements that takes at most so many words
abbrev pub recorded : ℕ → List (List ℕ) → List (List ℕ)
recorded capacity [] = []
recorded capacity (element ∷ elements) = if nat_le (words_in element) capacity
    then element ∷ recorded (capacity - words_in element) elements
    else []

-- These are the elements that a trace with room for so many words keeps of those that nodes recorded: a
-- front of them that fits, and no front that fits is longer.
pub record AreRecorded (capacity : ℕ) (given kept : List (List ℕ)) : Type 0 where
  pub behind : List (List ℕ)
  pub front : given ≡ kept ++ behind
  pub fits : sum_by words_in kept ≤ capacity
  pub longest : (first others : List (List ℕ)) → given ≡ first ++ others → sum_by words_in first ≤ capacity
      → length first ≤ length kept

-- some of the elements did not fit
abbrev pub is_over : ℕ → List (List ℕ) → Bool
is_over capacity elements = nat_lt (length (recorded capacity elements)) (length elements)

-- the words that are still free
abbrev pub free_words : ℕ → List (List ℕ) → ℕ
free_words capacity elements = capacity - sum_by words_in (recorded capacity elements)

-- the words behind the header: free words of zero, then the elements that fit, the last one first
abbrev pub area : ℕ → List (List ℕ) → List ℕ
area capacity elements = replicate (4 * free_words capacity elements) 0 ++ concat (reverse (recorded capacity elements))

-- a trace of a namespace, a type and a capacity in words after these elements, in the order in which
-- they were added
unfoldable pub trace_data : ℕ → ℕ → ℕ → List (List ℕ) → List ℕ
trace_data namespace kind capacity elements =
    header namespace (words kind) (if is_over capacity elements then 8 else 0) (free_words capacity elements) kind 0
    ++ area capacity elements

-- a trace of these numbers can hold these elements: the type is one that entry nodes write
pub record CanHold (namespace kind capacity : ℕ) (given : List (List ℕ)) : Type 0 where
  pub namespace_below : namespace < 65536
  pub kind_below : kind < 16777216
  pub entry : is_entry_type kind ≡ true
  pub capacity_below : capacity ≤ 127
  pub elements : All (IsElement kind (words kind)) given
