-- What the export records of a run tell of its arrivals: each packet that carries direct export, its key, and its path
-- as far as records of it were read (RFC 9326 section 3.2).
use Rattle.std.specs.Prelude.{◌≡◌, ℕ, ◌≤◌, ◌⊎◌, List, [], ◌∷◌, length, map, Contains, Option, None, Some, slice_get}
use Rattle.std.specs.List.{flat_map}
use Rattle.ioam_run_texts.specs.Along.{along}
use Rattle.ioam_run_texts.specs.Ran.{passed}
use Rattle.ioam_run_texts.specs.Sample.{Sample}
use Rattle.ioam_collect.specs.Best.{groups_of}
use Rattle.ioam_collect.specs.Keyed.{core_of, keyed}
use Rattle.ioam_collect.specs.declared.key.Key.{Key}
use Rattle.ioam_data.specs.declared.namespace.Namespace.{Namespace}
use Rattle.ioam_dex.specs.Reads.{records_octets}
use Rattle.ioam_dex.specs.Record.{Record}
use Rattle.ioam_run_texts.specs.Fate.{Frame, Fate, AreFates}
use Rattle.ioam_run_texts.specs.Texts.{exports_text}
use Rattle.ioam_run_texts.specs.Visit.{Visit}
use Rattle.ioam_pool.specs.Entry.{Entry}
use Rattle.ioam_topo.specs.Domain.{flows}
use Rattle.ioam_topo.specs.declared.domain.Domain.{Domain}
use Rattle.ioam_topo.specs.declared.ids.FlowId.{FlowId}
use Rattle.ioam_topo.specs.declared.parts.Flow.{Flow}
use Rattle.ioam_run_texts.specs.Enclosed.{tunnel_of}
use Rattle.ioam_run_texts.specs.Wire.{Tunnel}
use Rattle.ioam_run_texts.specs.Numbers.{Numbers}
use Rattle.ioam_run_texts.specs.Visits.{tunnel_records}

-- ---- the records of a run

module _ (domain : Domain) (readings : List (List Sample)) where
  -- those that a visit behind those that are done exports: none where the node doesn't know the flow's own namespace
  abbrev pub recorded_at : Tunnel → List Visit → Visit → List Record
  recorded_at tunnel done visit = tunnel_records domain readings tunnel (length done) (passed visit)

  -- the records of a packet's visits, in their order; none where it wasn't enclosed
  abbrev pub records_by : List ℕ → List Visit → Option (FlowId × Numbers) → List Record
  records_by packet visits None = []
  records_by packet visits (Some carried) = along (recorded_at (tunnel_of domain carried.0 carried.1 packet)) [] visits

  -- the path of an arrival: the records of its visits, in their order
  abbrev pub path_of : Fate → List Record
  path_of fate = records_by fate.packet fate.itinerary.visits fate.itinerary.carried

  -- by arrival, then by visit
  abbrev pub exports_of : List Fate → List Record
  exports_of fates = flat_map path_of fates

-- ---- the keys of arrivals

-- the key of a packet of a flow that carries direct export
abbrev pub key_for : Namespace → Option ℕ → Option ℕ → Option Key
key_for namespace None seq = None
key_for namespace (Some id) None = None
key_for namespace (Some id) (Some seq) = Some (record { namespace = namespace; flow = id; seq = seq })

-- the key of a packet of a flow with this number; none without a flow or a number
abbrev pub flow_key : Option Flow → Option ℕ → Option Key
flow_key None seq = None
flow_key (Some flow) seq = key_for flow.namespace flow.flow_id seq

-- the key of a packet that was enclosed so; none where it carries no direct export
abbrev pub carried_key : Domain → Option (FlowId × Numbers) → Option Key
carried_key domain None = None
carried_key domain (Some carried) = flow_key (slice_get (flows domain) carried.0.0) carried.1.direct

-- the key of an arrival: the flow's own namespace and its id, and the number of the packet's direct export; none where it
-- carries none
abbrev pub key_of : Domain → Fate → Option Key
key_of domain fate = carried_key domain fate.itinerary.carried

-- ---- what was read

-- each of these records is one of the run, or the version 1 record of one
abbrev pub AreOfRun : Domain → List (List Sample) → List Fate → List Record → Type 0
AreOfRun domain readings fates read = (x : Record) → Contains read x
    → (y : Record) × Contains (exports_of domain readings fates) y × ((x ≡ y) ⊎ (x ≡ core_of y))

-- what is shown of a record, in front of what is shown of those behind it: itself where it was read, or else its version 1
-- record where that was, or else nothing
abbrev pub Shows : List Record → Record → List Record → List Record → Type 0
Shows read x rest shown = (Contains read x × (shown ≡ x ∷ rest))
    ⊎ (¬ (Contains read x) × ((Contains read (core_of x) × (shown ≡ core_of x ∷ rest)) ⊎ (¬ (Contains read (core_of x)) × (shown ≡ rest))))

-- of these records, in their order, what was read
abbrev pub AreShown : List Record → List Record → List Record → Type 0
AreShown read [] shown = shown ≡ []
AreShown read (x ∷ xs) shown = (rest : List Record) × AreShown read xs rest × Shows read x rest shown

-- ---- groups

-- an item under a key, as a pair
abbrev pub under : Key → Entry → Key × Entry
under key item = (key, item)

-- the group is that of this arrival's key, and has what was read of its path, in the path's order
pub record IsPath (domain : Domain) (readings : List (List Sample)) (read : List Record) (fate : Fate) (group : Key × List Entry) : Type 0 where
  pub key : key_of domain fate ≡ Some group.0
  pub shown : List Record
  pub are : AreShown read (path_of domain readings fate) shown
  pub items : keyed shown ≡ map (under group.0) group.1

-- no other of these arrivals has its key
abbrev pub IsAlone : Domain → List Fate → Key → ℕ → Type 0
IsAlone domain fates key place = (other : ℕ) (fate : Fate) → slice_get fates other ≡ Some fate → key_of domain fate ≡ Some key → other ≡ place

-- the group is the path of one arrival
pub record IsOfOne (domain : Domain) (readings : List (List Sample)) (fates : List Fate) (read : List Record) (group : Key × List Entry) : Type 0 where
  pub place : ℕ
  pub fate : Fate
  pub there : slice_get fates place ≡ Some fate
  pub path : IsPath domain readings read fate group
  pub alone : IsAlone domain fates group.0 place

-- the groups of what was read are paths of arrivals, and each arrival of which a record was read has its group
pub record AreRegrouped (domain : Domain) (readings : List (List Sample)) (fates : List Fate) (read : List Record) : Type 0 where
  pub each : (group : Key × List Entry) → Contains (groups_of (keyed read)) group → IsOfOne domain readings fates read group
  pub all : (place : ℕ) (fate : Fate) (x : Record) → slice_get fates place ≡ Some fate → Contains (path_of domain readings fate) x
      → Contains read x ⊎ Contains read (core_of x)
      → (group : Key × List Entry) × Contains (groups_of (keyed read)) group × IsPath domain readings read fate group

-- ---- the run

-- this is what becomes of the arrivals of a run through the domain, which are no more than it takes
pub record IsRun (domain : Domain) (readings : List (List Sample)) (frames : List Frame) (fates : List Fate) : Type 0 where
  pub few : length frames ≤ domain.packets
  pub become : AreFates domain readings frames fates

-- the octets that the run exports are its records; and of these records each read once or more, in any order, some left out and
-- some in version 1, the groups are the paths
pub record RegroupsRun (domain : Domain) (readings : List (List Sample)) (fates : List Fate) (read : List Record) : Type 0 where
  pub exports : records_octets (exports_of domain readings fates) ≡ exports_text domain readings fates
  pub paths : AreOfRun domain readings fates read → AreRegrouped domain readings fates read

-- whatever the domain
abbrev pub Regroups : List Record → Type 0
Regroups read = (domain : Domain) (readings : List (List Sample)) (frames : List Frame) (fates : List Fate) → IsRun domain readings frames fates
    → RegroupsRun domain readings fates read
