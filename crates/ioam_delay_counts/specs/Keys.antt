-- The order of nodes and gaps.
use Rattle.std.specs.Prelude.{ℕ, Bool, true, false, nat_lt, if◌then◌else◌, List, [], ◌∷◌, Option, Some, None}
use Rattle.ioam_delays.specs.declared.sight.Gap.{Gap}
use Rattle.ioam_delays.specs.declared.sight.Gap.TheVariants as gap
use Rattle.ioam_delays.specs.declared.sight.Node.{Node}
use Rattle.ioam_delays.specs.declared.sight.Node.TheVariants as node
use Rattle.ioam_delay_counts.specs.declared.keys.Step.{Step}

-- the id of a node, and the length of a gap, if it is known
abbrev pub id_of : Node → Option ℕ
id_of (node.Id id) = Some id
id_of node.Unknown = None

abbrev pub length_of : Gap → Option ℕ
length_of (gap.Nodes count) = Some count
length_of gap.Unknown = None

-- numbers come by their size, and what is unknown last
abbrev pub known_before : Option ℕ → Option ℕ → Bool
known_before (Some one) (Some other) = nat_lt one other
known_before (Some one) None = true
known_before None other = false

-- by an order of what comes first; where neither comes before the other, the rest decides
abbrev pub in_turn : {X : Type 0} → (X → X → Bool) → X → X → Bool → Bool
in_turn before one other rest = if before one other then true else (if before other one then false else rest)

-- steps by the first step that differs, by the gap before the node; steps that others begin with come before these, and where all are the same the
-- rest decides
abbrev pub steps_before : Bool → List Step → List Step → Bool
steps_before rest [] [] = rest
steps_before rest [] (other ∷ others) = true
steps_before rest (one ∷ ones) [] = false
steps_before rest (one ∷ ones) (other ∷ others) =
    in_turn known_before (length_of one.past) (length_of other.past)
    (in_turn known_before (id_of one.node) (id_of other.node) (steps_before rest ones others))
