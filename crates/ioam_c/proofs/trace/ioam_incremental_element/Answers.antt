use Rattle.std.proofs.Common.{ℕ, List, inl, sym, subst}
use Rattle.ioam_trace.specs.Left.{left}
use Rattle.ioam_trace.specs.Read.{Carries}
use Rattle.ioam_c.specs.Trace.{ReadsElement}
use Rattle.ioam_c.proofs.TraceLaws.{found_first, found_fits, found_whole}
use Rattle.ioam_c.proofs.trace.ioam_incremental_element.Goals as goal

pub give-requires-clause-fits : goal.give-requires-clause-fits
give-requires-clause-fits c =
    let held = c.front-held.result.now in
    let elements = left c.elements-elements.result in
    let P : List (List ℕ) → Type 0 = λ xs. Carries 0 held c.in-Ok.trace.head xs in
    let carries : Carries 0 held c.in-Ok.trace.head elements =
    subst P (sym c.elements-elements.ensures.value) c.in-Ok.ensures.decodes.0 in
    found_fits elements (left c.next.new.self) 0 held c.in-Ok.trace.head c.next.result carries c.next.ensures.steps

pub give-requires-clause-whole : goal.give-requires-clause-whole
give-requires-clause-whole c =
    found_whole (left c.elements-elements.result) (left c.next.new.self) c.in-Ok.trace.head.kind c.in-Ok.trace.head.node_len c.next.result
    c.elements-elements.ensures.whole c.next.ensures.steps

pub returns-in-Ok : goal.returns-in-Ok
returns-in-Ok c =
    let held = c.front-held.result.now in
    let elements = left c.elements-elements.result in
    let P : List (List ℕ) → Type 0 = λ xs. Carries 0 held c.in-Ok.trace.head xs in
    let carries : Carries 0 held c.in-Ok.trace.head elements =
    subst P (sym c.elements-elements.ensures.value) c.in-Ok.ensures.decodes.0 in
    let gives = c.give.ensures 0 elements carries (found_first elements (left c.next.new.self) c.next.result c.next.ensures.steps) in
    let Q : List ℕ → Type 0 = λ xs. ReadsElement 0 xs c.args.cursor.now c.args.element.now c.give.new.cursor c.give.new.element c.give.result in
    subst Q c.front-held.ensures (inl (c.in-Ok.trace.head, elements, carries, gives))
