-- The eight templates of the profile (RFC 7011 section 3.4.1): 256, and 4 more where a flow is told, 2 where a
-- sequence number, 1 where a visit.
use Rattle.std.specs.Prelude.{ℕ, ◌+◌, ◌-◌, ◌/◌, ◌%◌, ◌<◌, ◌≤◌, ◌≡◌, Bool, true, false, ◌==◌, if◌then◌else◌, List, [], ◌∷◌, ◌++◌, length, set, slice_index_or, flat_map}
use Rattle.ioam_base.specs.Words.{two_octets, four_octets}

-- a template's id is one of the eight, 256 to 263
abbrev pub IsTemplate : ℕ → Type 0
IsTemplate id = (256 ≤ id) × (id < 264)

-- whether records of a template tell a Flow ID
unfoldable pub tells_flow : ℕ → Bool
tells_flow id = id / 4 % 2 == 1

-- whether records of a template tell a Sequence Number
unfoldable pub tells_seq : ℕ → Bool
tells_seq id = id / 2 % 2 == 1

-- whether records of a template tell a visit: the time at the node and the interface by which the packet came
unfoldable pub tells_visit : ℕ → Bool
tells_visit id = id % 2 == 1

-- a list that is there or not
abbrev pub only : {X : Type 0} → Bool → List X → List X
only there xs = if there then xs else []

-- the fields of a template in order, each with its number and its length in octets, 65,535 where it is variable:
-- namespace, flags, extension flags, type; time and interface of a visit; flow; sequence number; element
abbrev pub fields_with : Bool → Bool → Bool → List (ℕ × ℕ)
fields_with visit flow seq = (1, 2) ∷ (2, 1) ∷ (3, 1) ∷ (4, 3) ∷ (only visit ((5, 8) ∷ (6, 4) ∷ []) ++ (only flow ((7, 4) ∷ [])
    ++ (only seq ((8, 4) ∷ []) ++ ((9, 65535) ∷ []))))

-- the fields of the template of an id, in order, each with its number and its length
abbrev pub fields : ℕ → List (ℕ × ℕ)
fields id = fields_with (tells_visit id) (tells_flow id) (tells_seq id)

-- a field (RFC 7011 section 3.2): its number with the top bit set, its length, and the enterprise number
abbrev pub field_octets : ℕ × ℕ → List ℕ
field_octets field = two_octets (32768 + field.0) ++ (two_octets field.1 ++ four_octets 32473)

-- a template: its id, how many fields it has, and these
abbrev pub template_octets : ℕ → List ℕ
template_octets id = two_octets id ++ (two_octets (length (fields id)) ++ flat_map field_octets (fields id))

-- the ids of the eight templates, in order
abbrev pub all_ids : List ℕ
all_ids = 256 ∷ 257 ∷ 258 ∷ 259 ∷ 260 ∷ 261 ∷ 262 ∷ 263 ∷ []

-- ---- which of the eight were seen

-- where a message begins behind which no template was seen: none of the eight is known
abbrev pub none_known : List Bool
none_known = false ∷ false ∷ false ∷ false ∷ false ∷ false ∷ false ∷ false ∷ []

-- the template of this id was seen
abbrev pub IsKnown : List Bool → ℕ → Type 0
IsKnown known id = slice_index_or known (id - 256) false ≡ true

-- with these besides
abbrev pub with_templates : List Bool → List ℕ → List Bool
with_templates known [] = known
with_templates known (id ∷ ids) = with_templates (set known (id - 256) true) ids
