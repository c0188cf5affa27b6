-- The table `extra`: traces that flows carry behind their own, each of another namespace.
use Rattle.std.specs.Prelude.{ℕ, suc, ◌+◌, nat_lt, ◌==◌, codes, List, [], ◌∷◌, ◌++◌, length, Option, Some, None, slice_get, Result, Ok, Err, if◌then◌else◌}
use Rattle.toml.specs.Data.{Members, get_member}
use Rattle.ioam_data.specs.declared.namespace.Namespace.{Namespace}
use Rattle.ioam_topo_values.specs.declared.why.Why.{Why}
use Rattle.ioam_topo_values.specs.declared.why.Why.TheVariants.{Range, Twice, TooMany, Unknown}
use Rattle.ioam_topo_values.specs.Reads.{◌▷◌, needed}
use Rattle.ioam_topo_values.specs.Numbers.{number}
use Rattle.ioam_topo_values.specs.Texts.{name}
use Rattle.ioam_topo_values.specs.Types.{trace_type}
use Rattle.ioam_topo_values.specs.Entries.{entries}
use Rattle.ioam_topo.specs.declared.parts.Flow.{Flow}
use Rattle.ioam_topo.specs.declared.traces.FlowTrace.{FlowTrace}
use Rattle.ioam_topo_entries.specs.declared.words.Table.TheVariants.{ExtraTable}
use Rattle.ioam_topo_entries.specs.declared.fault.DomainFault.{DomainFault}
use Rattle.ioam_topo_entries.specs.Faults.{at, other_key}
use Rattle.ioam_topo_entries.specs.Goods.{goods, known}
use Rattle.ioam_topo_entries.specs.Keys.{own_keys}
use Rattle.ioam_topo_flows.specs.Apart.{fresh_with}
use Rattle.ioam_topo_flows.specs.Spaces.{known_at}
use Rattle.ioam_topo_flows.specs.FlowTable.{FlowLook}

-- the entries of the table
abbrev pub extra_entries : Members → List Members
extra_entries t = entries (get_member (codes "extra") t)

-- what is known of a flow that isn't there
abbrev pub no_look : FlowLook
no_look = record { entry = Err Unknown; exit = Err Unknown; space = Err Unknown; trace = Err Unknown }

-- what is known of a flow that may be there
abbrev pub seen : Option FlowLook → FlowLook
seen None = no_look
seen (Some look) = look

-- what is known of the flow at a place, where that is read
abbrev pub look_in : List FlowLook → Result ℕ Why → FlowLook
look_in looks (Ok i) = seen (slice_get looks i)
look_in looks (Err why) = no_look

-- a place whose flow, where its own trace is read, has one
abbrev pub traced_at : Result (Option ℕ) Why → ℕ → Result ℕ Why
traced_at (Ok None) i = Err Range
traced_at (Ok (Some kind)) i = Ok i
traced_at (Err why) i = Ok i

-- how often a number is there
abbrev pub times : ℕ → List ℕ → ℕ
times i [] = 0
times i (j ∷ js) = if i == j then suc (times i js) else times i js

-- a flow that no more than one entry named before
abbrev pub few_of : List ℕ → ℕ → Result ℕ Why
few_of before i = if nat_lt (times i before) 2 then Ok i else Err TooMany

-- a namespace that isn't the flow's own, where that is read
abbrev pub unlike : Result ℕ Why → ℕ → Result ℕ Why
unlike (Ok own) n = if own == n then Err Twice else Ok n
unlike (Err why) n = Ok n

-- the trace type of an extra trace, which is needed
abbrev pub extra_trace : Members → Result ℕ Why
extra_trace m = needed trace_type (get_member (codes "trace") m)

-- how many words it has room for: 1 to 61
abbrev pub extra_capacity : Members → Result ℕ Why
extra_capacity m = needed (number 1 61) (get_member (codes "capacity") m)

-- the faults of a trace's type and capacity
abbrev pub kind_keys : ℕ → Members → List DomainFault
kind_keys place m = at ExtraTable place (codes "trace") (extra_trace m) ++ at ExtraTable place (codes "capacity") (extra_capacity m)

-- `flows` are the names of the flows, `looks` what is known of them, and `lists` the namespaces that the nodes list
module _ (flows : List (List ℕ)) (looks : List FlowLook) (lists : List (Result (List Namespace) Why)) where
  -- a flow that has a trace
  abbrev pub extra_flow : Members → Result ℕ Why
  extra_flow m = needed name (get_member (codes "flow") m) ▷ known flows ▷ (λ i. traced_at (seen (slice_get looks i)).trace i)

  -- what is known of the flow that an entry names
  abbrev pub extra_look : Members → FlowLook
  extra_look m = look_in looks (extra_flow m)

  -- known to both ends of the flow
  abbrev pub extra_space : Members → Result ℕ Why
  extra_space m = needed (number 0 65535) (get_member (codes "namespace") m) ▷ known_at lists (extra_look m).entry ▷ known_at lists (extra_look m).exit

  -- what no two entries may share
  abbrev pub extra_key : Members → Result (ℕ × ℕ) Why
  extra_key m = extra_flow m ▷ (λ i. extra_space m ▷ (λ space. Ok (i, space)))

  -- the flow, by its place, and its trace
  abbrev pub extra_of : Members → Result (ℕ × FlowTrace) Why
  extra_of m = extra_flow m ▷ (λ i. extra_space m ▷ (λ space. extra_trace m ▷ (λ kind. extra_capacity m ▷ (λ capacity.
      Ok (i, record { namespace = record { 0 = space }; kind = kind; capacity = capacity })))))

  -- the faults of the entry at a place, with these flows, and these namespaces of flows, before it
  abbrev pub extra_keys : ℕ → List ℕ → List (ℕ × ℕ) → Members → List DomainFault
  extra_keys place before taken m =
      at ExtraTable place other_key (own_keys ExtraTable m)
      ++ (at ExtraTable place (codes "flow") (extra_flow m ▷ few_of before)
      ++ (at ExtraTable place (codes "namespace") (extra_space m ▷ unlike (extra_look m).space ▷ fresh_with (extra_flow m) taken)
      ++ kind_keys place m))

  -- the faults of an entry behind others
  abbrev pub extra_faults : List Members → Members → List DomainFault
  extra_faults earlier m = extra_keys (length earlier + 1) (goods extra_flow earlier) (goods extra_key earlier) m

-- of these traces, those of the flow at a place
abbrev pub traces_at : ℕ → List (ℕ × FlowTrace) → List FlowTrace
traces_at i [] = []
traces_at i (x ∷ xs) = if i == x.0 then x.1 ∷ traces_at i xs else traces_at i xs

-- a flow with more traces behind its own
abbrev pub with_traces : Flow → List FlowTrace → Flow
with_traces flow more = record flow { traces = flow.traces ++ more }

-- flows, of which the first stands at a place, each with its traces of these behind its own
abbrev pub traced : ℕ → List Flow → List (ℕ × FlowTrace) → List Flow
traced i [] extras = []
traced i (flow ∷ flows) extras = with_traces flow (traces_at i extras) ∷ traced (suc i) flows extras
