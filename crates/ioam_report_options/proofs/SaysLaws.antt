-- What the data of an option says is one text, and what was read of it is what it says.
use Rattle.std.proofs.Common.{◌≡◌, ℕ, inl, inr, Bool, true, false, List, ◌++◌, drop, Option, Some, None, Ok, Err, refl, sym, ap, ◌∙◌, subst, arith, decimal, codes}
use Rattle.std.specs.Bool.{MatchBool}
use Rattle.std.specs.List.{flat_map}
use Rattle.std.specs.Int.{w32, to_be_bytes}
use Rattle.ioam_base.specs.Octets.{u16_at}
use Rattle.ioam_dex.specs.Direct as dex
use Rattle.ioam_dex.specs.declared.direct.Direct.{Direct}
use Rattle.ioam_dex.specs.declared.direct.DirectFault.{DirectFault}
use Rattle.ioam_dex.specs.declared.direct.DirectFault.TheVariants as direct_fault
use Rattle.ioam_dex.proofs.DirectLaws.{direct_octets-same}
use Rattle.ioam_edge.specs.Edge as e2e
use Rattle.ioam_edge.specs.declared.edge.Edge.{Edge}
use Rattle.ioam_edge.specs.declared.edge.EdgeFault.{EdgeFault}
use Rattle.ioam_edge.specs.declared.edge.EdgeFault.TheVariants as edge_fault
use Rattle.ioam_edge.proofs.EdgeLaws.{edge_octets-same}
use Rattle.ioam_trace.specs.Head.{node_len_of, flags_of, remaining_of, kind_of}
use Rattle.ioam_trace.specs.Read.{Carries, TraceOf, HasFault, Reads, Decodes, fault_of, elements_in, incremental_elements, elements_behind}
use Rattle.ioam_trace.specs.declared.head.TraceHead.{TraceHead}
use Rattle.ioam_trace.specs.declared.trace.Trace.{Trace}
use Rattle.ioam_trace.specs.declared.incremental.Incremental.{Incremental}
use Rattle.ioam_trace.specs.declared.fault.TraceFault.{TraceFault}
use Rattle.ioam_trace.proofs.ReadLaws.{fault_of-Carries, elements_behind-Carries, fault_of-HasFault}
use Rattle.ioam_line.specs.Digits.{digits_of}
use Rattle.ioam_report_lines.specs.TraceText.{line_feed, element_line}
use Rattle.ioam_report_options.specs.OptionText.{trace_text, edge_text, direct_text, TraceSays, IncrementalSays, EdgeSays, DirectSays, SaysBy, Says}
use Rattle.ioam_data.specs.declared.option_type.OptionType.{OptionType}
use Rattle.ioam_data.specs.declared.option_type.OptionType.TheVariants.{PreallocatedTrace, IncrementalTrace, ProofOfTransit, EdgeToEdge, DirectExport, Unassigned}

-- ---- what was read

-- a trace that was read
pub TraceSays-Reads : (octets : List ℕ) (trace : Trace) → Reads octets (Ok trace)
    → TraceSays octets (codes "trace " ++ trace_text trace.head (elements_in trace))
TraceSays-Reads octets trace reads = inl (trace.head, elements_in trace, reads.0, refl)

-- an incremental trace
pub IncrementalSays-Decodes : (octets : List ℕ) (trace : Incremental) → Decodes octets (Ok trace)
    → IncrementalSays octets (codes "incremental " ++ trace_text trace.head (incremental_elements trace))
IncrementalSays-Decodes octets trace decodes = inl (trace.head, incremental_elements trace, decodes.0, refl)

-- ---- traces

-- the text of a trace by its numbers
abbrev text_by : ℕ → ℕ → ℕ → ℕ → ℕ → List (List ℕ) → List ℕ
text_by namespace kind flags remaining node_len elements = (decimal namespace ++ (codes " " ++ (digits_of (drop 1 (to_be_bytes w32 kind))
    ++ (codes " flags " ++ (decimal flags ++ (codes " remaining " ++ (decimal remaining ++ line_feed)))))))
    ++ flat_map (element_line kind node_len) elements

-- and by its octets
text_at : ℕ → List ℕ → List ℕ
text_at free octets = text_by (u16_at octets 0) (kind_of octets) (flags_of octets) (remaining_of octets) (node_len_of octets) (elements_behind free octets)

trace_text-Carries : (free : ℕ) (octets : List ℕ) (head : TraceHead) (elements : List (List ℕ)) → Carries free octets head elements
    → trace_text head elements ≡ text_at free octets
unfolding text_at
trace_text-Carries free octets head elements carries =
    let is = carries.is_head in
    ap (λ n. text_by n head.kind head.flags head.remaining head.node_len elements) is.namespace
    ∙ ap (λ n. text_by (u16_at octets 0) n head.flags head.remaining head.node_len elements) is.kind
    ∙ ap (λ n. text_by (u16_at octets 0) (kind_of octets) n head.remaining head.node_len elements) is.flags
    ∙ ap (λ n. text_by (u16_at octets 0) (kind_of octets) (flags_of octets) n head.node_len elements) is.remaining
    ∙ ap (λ n. text_by (u16_at octets 0) (kind_of octets) (flags_of octets) (remaining_of octets) n elements) is.node_len
    ∙ ap (text_by (u16_at octets 0) (kind_of octets) (flags_of octets) (remaining_of octets) (node_len_of octets))
    (sym (elements_behind-Carries free octets head elements carries))

some_or_none : (fault : TraceFault) (found : Option TraceFault) → found ≡ None → found ≡ Some fault → ⊥
some_or_none fault found none some = absurd (cc)

-- octets with so many free words are no trace and have a fault
apart : (free : ℕ) (octets : List ℕ) (head : TraceHead) (elements : List (List ℕ)) (fault : TraceFault) → Carries free octets head elements
    → HasFault free octets fault → ⊥
apart free octets head elements fault carries has =
    some_or_none fault (fault_of free octets) (fault_of-Carries free octets head elements carries) (fault_of-HasFault free octets fault has)

-- a pre-allocated trace has the free words that its RemainingLen says
by_remaining : (octets : List ℕ) (head : TraceHead) (elements : List (List ℕ)) → TraceOf octets head elements → Carries (remaining_of octets) octets head elements
by_remaining octets head elements trace =
    let P : ℕ → Type 0 = λ free. Carries free octets head elements in
    subst P trace.is_head.remaining trace

TraceSays-unique : (octets a b : List ℕ) → TraceSays octets a → TraceSays octets b → a ≡ b
TraceSays-unique octets a b (inl x) (inl y) =
    x.3
    ∙ ap (λ (text : List ℕ). codes "trace " ++ text)
    (trace_text-Carries (remaining_of octets) octets x.0 x.1 (by_remaining octets x.0 x.1 x.2)
    ∙ sym (trace_text-Carries (remaining_of octets) octets y.0 y.1 (by_remaining octets y.0 y.1 y.2)))
    ∙ sym y.3
TraceSays-unique octets a b (inl x) (inr y) = absurd (apart (remaining_of octets) octets x.0 x.1 y.0 (by_remaining octets x.0 x.1 x.2) y.1)
TraceSays-unique octets a b (inr x) (inl y) = absurd (apart (remaining_of octets) octets y.0 y.1 x.0 (by_remaining octets y.0 y.1 y.2) x.1)
TraceSays-unique octets a b (inr x) (inr y) = x.2 ∙ sym y.2

IncrementalSays-unique : (octets a b : List ℕ) → IncrementalSays octets a → IncrementalSays octets b → a ≡ b
IncrementalSays-unique octets a b (inl x) (inl y) =
    x.3
    ∙ ap (λ (text : List ℕ). codes "incremental " ++ text)
    (trace_text-Carries 0 octets x.0 x.1 x.2 ∙ sym (trace_text-Carries 0 octets y.0 y.1 y.2))
    ∙ sym y.3
IncrementalSays-unique octets a b (inl x) (inr y) = absurd (apart 0 octets x.0 x.1 y.0 x.2 y.1)
IncrementalSays-unique octets a b (inr x) (inl y) = absurd (apart 0 octets y.0 y.1 x.0 y.2 x.1)
IncrementalSays-unique octets a b (inr x) (inr y) = x.2 ∙ sym y.2

-- ---- edge-to-edge and direct export data

edge_apart : (octets : List ℕ) (edge : Edge) (fault : EdgeFault) → e2e.Reads octets (Ok edge) → e2e.Reads octets (Err fault) → ⊥
edge_apart octets edge (edge_fault.Short have want) reads fails = absurd (omega (arith, reads.1, fails.0, fails.1, fails.2))

EdgeSays-unique : (octets a b : List ℕ) → EdgeSays octets a → EdgeSays octets b → a ≡ b
EdgeSays-unique octets a b (inl x) (inl y) =
    let same = edge_octets-same x.0 y.0 x.2.0.rest y.2.0.rest x.1 y.1 x.2.0.fields y.2.0.fields (sym x.2.0.is ∙ y.2.0.is) in
    x.3 ∙ ap edge_text same.0 ∙ sym y.3
EdgeSays-unique octets a b (inl x) (inr y) = absurd (edge_apart octets x.0 y.0 x.2 y.1)
EdgeSays-unique octets a b (inr x) (inl y) = absurd (edge_apart octets y.0 x.0 y.2 x.1)
EdgeSays-unique octets a b (inr x) (inr y) = x.2 ∙ sym y.2

direct_apart : (octets : List ℕ) (direct : Direct) (fault : DirectFault) → dex.Reads octets (Ok direct) → dex.Reads octets (Err fault) → ⊥
direct_apart octets direct (direct_fault.Short have want) reads fails = absurd (omega (arith, reads.1, fails.0, fails.1, fails.2))

DirectSays-unique : (octets a b : List ℕ) → DirectSays octets a → DirectSays octets b → a ≡ b
DirectSays-unique octets a b (inl x) (inl y) =
    let same = direct_octets-same x.0 y.0 x.2.0.reserved y.2.0.reserved x.2.0.rest y.2.0.rest x.1 y.1 x.2.0.numbers y.2.0.numbers (sym x.2.0.is ∙ y.2.0.is) in
    x.3 ∙ ap direct_text same.0 ∙ sym y.3
DirectSays-unique octets a b (inl x) (inr y) = absurd (direct_apart octets x.0 y.0 x.2 y.1)
DirectSays-unique octets a b (inr x) (inl y) = absurd (direct_apart octets y.0 x.0 y.2 x.1)
DirectSays-unique octets a b (inr x) (inr y) = x.2 ∙ sym y.2

-- ---- all kinds

SaysBy-unique : (kind : OptionType) (value : ℕ) (octets a b : List ℕ) → SaysBy kind value octets a → SaysBy kind value octets b → a ≡ b
SaysBy-unique PreallocatedTrace value octets a b x y = TraceSays-unique octets a b x y
SaysBy-unique IncrementalTrace value octets a b x y = IncrementalSays-unique octets a b x y
SaysBy-unique ProofOfTransit value octets a b x y = x ∙ sym y
SaysBy-unique EdgeToEdge value octets a b x y = EdgeSays-unique octets a b x y
SaysBy-unique DirectExport value octets a b x y = DirectSays-unique octets a b x y
SaysBy-unique Unassigned value octets a b x y = x ∙ sym y

either_unique : (short : Bool) (kind : OptionType) (value : ℕ) (octets a b : List ℕ) → MatchBool short (a ≡ codes "short\n") (SaysBy kind value octets a)
    → MatchBool short (b ≡ codes "short\n") (SaysBy kind value octets b) → a ≡ b
either_unique true kind value octets a b x y = x ∙ sym y
either_unique false kind value octets a b x y = SaysBy-unique kind value octets a b x y

-- data says one text
pub Says-unique : (body a b : List ℕ) → Says body a → Says body b → a ≡ b
Says-unique body a b x y = either_unique _ _ _ _ a b x y
