-- Laws of the traces of a flow.
use Rattle.std.proofs.Common.{◌≡◌, ◌≤◌, ℕ, true, List, [], length, take, Option, Some, None, refl, arith}
use Rattle.std.specs.List.{All}
use Rattle.std.specs.Option.{ForSome}
use Rattle.std.proofs.lemmas.List.Elements.{All-cons, All-nil}
use Rattle.ioam_data.specs.Kind.{is_entry_type}
use Rattle.ioam_data.specs.declared.namespace.Namespace.{Namespace}
use Rattle.ioam_topo.specs.declared.traces.FlowTrace.{FlowTrace}
use Rattle.ioam_topo.specs.Traces.{own_traces, IsFlowTrace, AreOfOwnSpaces}

pub own_first : (space : Namespace) (kind capacity : Option ℕ) → take 1 (own_traces space kind capacity) ≡ own_traces space kind capacity
own_first space (Some kind) (Some n) = refl
own_first space (Some kind) None = refl
own_first space None n = refl

pub own_few : (space : Namespace) (kind capacity : Option ℕ) → length (own_traces space kind capacity) ≤ 1
own_few space (Some kind) (Some n) = omega arith
own_few space (Some kind) None = omega arith
own_few space None n = omega arith

pub own_sound : (space : Namespace) (kind capacity : Option ℕ) → ForSome kind (λ k. is_entry_type k ≡ true) → ForSome capacity (λ n. 1 ≤ n)
    → ForSome capacity (λ n. n ≤ 61) → All IsFlowTrace (own_traces space kind capacity)
own_sound space (Some kind) (Some n) sound some most = All-cons IsFlowTrace (record { namespace = space; kind = kind; capacity = n }) []
    (record { kind_is = sound kind refl; capacity_some = some n refl; capacity_most = most n refl }) (All-nil IsFlowTrace)
own_sound space (Some kind) None sound some most = All-nil IsFlowTrace
own_sound space None n sound some most = All-nil IsFlowTrace

-- of one trace at most no two are of one namespace
one_apart : (traces : List FlowTrace) → length traces ≤ 1 → AreOfOwnSpaces traces
one_apart traces few = λ i j d lt within. absurd (omega (arith, few, lt, within))

pub own_apart : (space : Namespace) (kind capacity : Option ℕ) → AreOfOwnSpaces (own_traces space kind capacity)
own_apart space kind capacity = one_apart (own_traces space kind capacity) (own_few space kind capacity)
