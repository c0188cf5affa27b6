use Rattle.std.proofs.Common.{ℕ, List, inl, sym, subst}
use Rattle.ioam_trace.specs.Head.{remaining_of}
use Rattle.ioam_trace.specs.Left.{left}
use Rattle.ioam_trace.specs.Read.{Carries, elements_in}
use Rattle.ioam_c.specs.Trace.{ReadsElement}
use Rattle.ioam_c.proofs.TraceLaws.{by_remaining, found_first, found_fits, found_whole}
use Rattle.ioam_c.proofs.trace.ioam_trace_element.Goals as goal

pub give-requires-clause-fits : goal.give-requires-clause-fits
give-requires-clause-fits c =
    let held = c.front-held.result.now in
    let elements = left c.elements-elements.result in
    let P : List (List ℕ) → Type 0 = λ xs. Carries (remaining_of held) held c.in-Ok.trace.head xs in
    let carries : Carries (remaining_of held) held c.in-Ok.trace.head elements =
    subst P (sym c.elements-elements.ensures.value) (by_remaining held c.in-Ok.trace.head (elements_in c.in-Ok.trace) c.in-Ok.ensures.reads.0) in
    found_fits elements (left c.next.new.self) (remaining_of held) held c.in-Ok.trace.head c.next.result carries c.next.ensures.steps

pub give-requires-clause-whole : goal.give-requires-clause-whole
give-requires-clause-whole c =
    found_whole (left c.elements-elements.result) (left c.next.new.self) c.in-Ok.trace.head.kind c.in-Ok.trace.head.node_len c.next.result
    c.elements-elements.ensures.whole c.next.ensures.steps

pub returns-in-Ok : goal.returns-in-Ok
returns-in-Ok c =
    let held = c.front-held.result.now in
    let elements = left c.elements-elements.result in
    let P : List (List ℕ) → Type 0 = λ xs. Carries (remaining_of held) held c.in-Ok.trace.head xs in
    let carries : Carries (remaining_of held) held c.in-Ok.trace.head elements =
    subst P (sym c.elements-elements.ensures.value) (by_remaining held c.in-Ok.trace.head (elements_in c.in-Ok.trace) c.in-Ok.ensures.reads.0) in
    let gives = c.give.ensures (remaining_of held) elements carries (found_first elements (left c.next.new.self) c.next.result c.next.ensures.steps) in
    let Q : List ℕ → Type 0 = λ xs. ReadsElement (remaining_of xs) xs c.args.cursor.now c.args.element.now c.give.new.cursor c.give.new.element c.give.result in
    subst Q c.front-held.ensures (inl (c.in-Ok.trace.head, elements, carries, gives))
