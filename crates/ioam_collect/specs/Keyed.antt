-- What of an export record is kept: its key, by which records of one packet are told, and an item.
use Rattle.std.specs.Prelude.{◌≡◌, ℕ, ◌≤◌, List, [], ◌∷◌, length, Option, Some, None}
use Rattle.std.specs.Ordering.{nat_cmp, ordering_then}
use Rattle.std.specs.declared.cmp.Ordering.{Ordering}
use Rattle.ioam_data.specs.Fields.{fields_of}
use Rattle.ioam_data.specs.Kind.{words}
use Rattle.ioam_dex.specs.Record.{Record, Rec, record_octets}
use Rattle.ioam_dex.specs.Visit.{visit_octets}
use Rattle.ioam_pool.specs.Entry.{Entry}
use Rattle.ioam_collect.specs.declared.key.Key.{Key}

-- by namespace, then by Flow ID, then by Sequence Number
abbrev pub key_cmp : Key → Key → Ordering
key_cmp a b = ordering_then (nat_cmp a.namespace.0 b.namespace.0) (ordering_then (nat_cmp a.flow b.flow) (nat_cmp a.seq b.seq))

-- the hop value of the first field, or else of the wide one
abbrev pub hop_by : Option (ℕ × ℕ) → Option (ℕ × ℕ) → Option ℕ
hop_by (Some first) wide = Some first.0
hop_by None (Some wide) = Some wide.0
hop_by None None = None

-- the hop value of an element of a type: that of bit 0, or of bit 8 where bit 0 isn't there (RFC 9197 section 4.4.2)
abbrev pub hops_in : ℕ → List ℕ → Option ℕ
hops_in kind element =
    let held = fields_of kind (words kind) element in
    hop_by held.hop_node held.wide_hop_node

-- the hop value of a record
abbrev pub hops_of : Record → Option ℕ
hops_of x = hops_in x.kind x.element

-- the version 1 record of a record, which tells no visit
abbrev pub core_of : Record → Record
core_of x = record x { visit = None }

-- a hop value, the octets of the version 1 record, and those of the visit, where it is told
abbrev pub item_of : ℕ → Record → Entry
item_of hops x = record { hops = hops; core = record_octets (core_of x); extra = visit_octets x.visit }

-- the key of a record of a namespace, by its Flow ID and its Sequence Number; none where one of them isn't there
abbrev pub key_by : ℕ → Option ℕ → Option ℕ → Option Key
key_by namespace None seq = None
key_by namespace (Some flow) None = None
key_by namespace (Some flow) (Some seq) = Some (record { namespace = record { 0 = namespace }; flow = flow; seq = seq })

-- the key and the item of a record, by its Flow ID, its Sequence Number and its hop value; none where one of them isn't there
abbrev pub keyed_by : Record → Option ℕ → Option ℕ → Option ℕ → Option (Key × Entry)
keyed_by x None seq hops = None
keyed_by x (Some flow) None hops = None
keyed_by x (Some flow) (Some seq) None = None
keyed_by x (Some flow) (Some seq) (Some hops) = Some (record { namespace = record { 0 = x.namespace }; flow = flow; seq = seq }, item_of hops x)

-- the key and the item of a record; none without a Flow ID, a Sequence Number or a hop value
abbrev pub keyed_of : Record → Option (Key × Entry)
keyed_of x = keyed_by x x.flow x.seq (hops_of x)

-- a list with the pair of a record in front, where the record has one
abbrev pub with_keyed : Option (Key × Entry) → List (Key × Entry) → List (Key × Entry)
with_keyed None ps = ps
with_keyed (Some p) ps = p ∷ ps

-- those of all these records that have a key
abbrev pub keyed : List Record → List (Key × Entry)
keyed [] = []
keyed (x ∷ xs) = with_keyed (keyed_of x) (keyed xs)

-- the core of an item is a record
abbrev pub IsOfRecord : Entry → Type 0
IsOfRecord e = (x : Record) × Rec e.core x

-- the octets of the version 1 record of a record: a record, with room for them in an item
pub record IsCoreOf (x : Record) (octets : List ℕ) : Type 0 where
  pub are : octets ≡ record_octets (core_of x)
  pub says : Rec octets (core_of x)
  pub size : length octets ≤ 262
