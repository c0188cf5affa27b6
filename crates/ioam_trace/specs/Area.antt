-- The elements in the used words of a trace (RFC 9197 section 4.4). The newest stands first and the
-- first node's last, so visit order is the reverse of the order in which they stand.
use Rattle.std.specs.Prelude.{ℕ, ◌+◌, ◌≡◌, ◌&&◌, Bool, nat_le, nat_lt, List, [], ◌∷◌, length, reverse, slice_range, Option, Some, None, if◌then◌else◌}
use Rattle.std.proofs.Common.{zero, suc}
use Rattle.ioam_base.specs.Leads.{Leads}
use Rattle.ioam_data.specs.Kind.{words}
use Rattle.ioam_data.specs.Elements.{size_at, Stands}

-- the place behind the element at a place
abbrev pub behind : ℕ → ℕ → List ℕ → ℕ → ℕ
behind kind node_len used at = at + size_at kind node_len used at

-- the octets of the element at a place
abbrev pub element_at : ℕ → ℕ → List ℕ → ℕ → List ℕ
element_at kind node_len used at = slice_range used at (behind kind node_len used at)

-- these elements stand one behind the other, from a place up to a place
abbrev pub Runs : ℕ → ℕ → List ℕ → ℕ → List (List ℕ) → ℕ → Type 0
Runs kind node_len used from elements to =
    Leads (Stands kind node_len used) (element_at kind node_len used) (behind kind node_len used) from elements to

-- the used words are these elements, given in visit order
abbrev pub Holds : ℕ → ℕ → List ℕ → List (List ℕ) → Type 0
Holds kind node_len used elements = Runs kind node_len used 0 (reverse elements) (length used)

-- elements stand from the start up to a place at which none begins
pub record Stops (kind node_len : ℕ) (used : List ℕ) (at : ℕ) : Type 0 where
  pub elements : List (List ℕ)
  pub runs : Runs kind node_len used 0 elements at
  pub ends : Stands kind node_len used at → ⊥

-- the last of the elements that stand from the start on has this place and size
pub record IsLast (kind node_len : ℕ) (used : List ℕ) (at size : ℕ) : Type 0 where
  pub elements : List (List ℕ)
  pub runs : Runs kind node_len used 0 elements at
  pub here : Stands kind node_len used at
  pub is_size : size ≡ size_at kind node_len used at

-- the place and size of the last element that stands, if one does
abbrev pub EndsWith : ℕ → ℕ → List ℕ → Option (ℕ × ℕ) → Type 0
EndsWith kind node_len used None = ¬ Stands kind node_len used 0
EndsWith kind node_len used (Some last) =
    IsLast kind node_len used last.0 last.1 × (¬ Stands kind node_len used (last.0 + last.1))

-- whether an element begins at a place
abbrev pub stands : ℕ → ℕ → List ℕ → ℕ → Bool
stands kind node_len used at = nat_le (words kind) node_len
    && (nat_lt 0 (size_at kind node_len used at) && nat_le (behind kind node_len used at) (length used))

-- The elements that stand one behind the other from a place on, and where they end. Each takes an
-- octet or more, so the length of the octets is fuel enough.
unfoldable pub run_from : ℕ → ℕ → ℕ → List ℕ → ℕ → List (List ℕ)
run_from zero kind node_len used at = []
run_from (suc fuel) kind node_len used at = if stands kind node_len used at
    then element_at kind node_len used at ∷ run_from fuel kind node_len used (behind kind node_len used at)
    else []

-- the place where the run of elements from a place on ends: the first at which no whole element stands
unfoldable pub end_from : ℕ → ℕ → ℕ → List ℕ → ℕ → ℕ
end_from zero kind node_len used at = at
end_from (suc fuel) kind node_len used at = if stands kind node_len used at
    then end_from fuel kind node_len used (behind kind node_len used at)
    else at

-- the elements of the used words in visit order
abbrev pub elements_of : ℕ → ℕ → List ℕ → List (List ℕ)
elements_of kind node_len used = reverse (run_from (length used) kind node_len used 0)

-- the place in the used words at which no further element begins
abbrev pub end_of : ℕ → ℕ → List ℕ → ℕ
end_of kind node_len used = end_from (length used) kind node_len used 0
