-- What is read of the octets of a trace, whole or cut before some of its elements.
use Rattle.std.specs.Prelude.{◌≡◌, ◌⊎◌, ℕ, ◌+◌, List, [], ◌∷◌, length, take, drop, slice_get, Option, option_map}
use Rattle.std.specs.Borrow.{Bor}
use Rattle.ioam_data.specs.Fields.{fields_of}
use Rattle.ioam_trace.specs.Read.{Carries, HasFault}
use Rattle.ioam_trace.specs.declared.fault.TraceFault.{TraceFault}
use Rattle.ioam_trace.specs.declared.head.TraceHead.{TraceHead}
use Rattle.ioam_c.specs.Element.{shown, Places}
use Rattle.ioam_c.specs.Status.{ok, at_end, fault_status}
use Rattle.ioam_c.specs.declared.element.IoamElement.{IoamElement}
use Rattle.ioam_c.specs.declared.trace.IoamTraceHead.{IoamTraceHead}

-- a header as C sees it
abbrev pub head_of : TraceHead → IoamTraceHead
head_of head = record {
  kind = head.kind;
  namespace = head.namespace.0;
  node_len = head.node_len;
  flags = head.flags;
  remaining = head.remaining;
  reserved = head.reserved;
}

-- octets with `free` words between the header and the elements are a trace, whose header is given; or they have a fault, and nothing is
abbrev pub ReadsHead : ℕ → List ℕ → IoamTraceHead → IoamTraceHead → ℕ → Type 0
ReadsHead free octets old new status =
    ((head : TraceHead) × (elements : List (List ℕ)) × Carries free octets head elements × ((status ≡ ok) × (new ≡ head_of head)))
    ⊎ ((fault : TraceFault) × HasFault free octets fault × ((status ≡ fault_status fault) × (new ≡ old)))

-- what is given of the elements of a trace, in visit order: the first, which is the last of the octets, with its fields and where its
-- parts lie; the octets before it are a trace that holds the others
abbrev pub Gives : ℕ → List ℕ → TraceHead → List (List ℕ) → ℕ → IoamElement → ℕ → IoamElement → ℕ → Type 0
Gives free octets head [] cursor old next new status = (status ≡ at_end) × ((next ≡ cursor) × (new ≡ old))
Gives free octets head (oldest ∷ others) cursor old next new status =
    (status ≡ ok) × ((next + length oldest ≡ length octets) × ((drop next octets ≡ oldest) × (Carries free (take next octets) head others
    × ((new ≡ shown head.kind head.node_len next oldest) × Places octets new (fields_of head.kind head.node_len oldest)))))

-- the octets of an element that is borrowed
abbrev pub octets_of : Option (Bor (List ℕ)) → Option (List ℕ)
octets_of oldest = option_map (λ octets. octets.now) oldest

-- this is the first of some elements, if there is one
abbrev pub IsOldest : List (List ℕ) → Option (List ℕ) → Type 0
IsOldest elements oldest = slice_get elements 0 ≡ oldest

-- octets with `free` words between the header and the elements are a trace, of whose elements the oldest is given; or they have a fault,
-- and nothing is
abbrev pub ReadsElement : ℕ → List ℕ → ℕ → IoamElement → ℕ → IoamElement → ℕ → Type 0
ReadsElement free octets cursor old next new status =
    ((head : TraceHead) × (elements : List (List ℕ)) × Carries free octets head elements
    × Gives free octets head elements cursor old next new status)
    ⊎ ((fault : TraceFault) × HasFault free octets fault × ((status ≡ fault_status fault) × ((next ≡ cursor) × (new ≡ old))))
