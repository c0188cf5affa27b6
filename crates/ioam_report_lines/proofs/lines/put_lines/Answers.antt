use Rattle.std.proofs.Common.{◌≡◌, ◌∷◌, ◌++◌, List, ℕ, rules}
use Rattle.std.proofs.lemmas.List.Elements.{All-rest}
use Rattle.ioam_data.specs.Elements.{IsElement}
use Rattle.ioam_trace.specs.Left.{left}
use Rattle.ioam_report_lines.specs.TraceText.{element_line}
use Rattle.ioam_report_lines.proofs.TextLaws.{lines-step, front-kept, longer}
use Rattle.ioam_report_lines.proofs.lines.put_lines.Goals as goal

pub loop-element-preserved : goal.loop-element-preserved
loop-element-preserved c =
    let head = c.args.trace.now.head in
    let line : List ℕ → List ℕ = element_line head.kind head.node_len in
    let P : List ℕ → Type 0 = λ element. IsElement head.kind head.node_len element in
    let so_far = c.loop-element.invariant in
    let steps : left c.loop-element.element-iterator ≡ c.in-Some.element.now ∷ left c.next.new.self = search rules in
    let is_new : c.settle.new.out.items ≡ c.loop-element.out.items ++ line c.in-Some.element.now = search rules in
    record {
      can = search rules;
      finite = search rules;
      lead = lines-step line c.loop-element.out.items c.settle.new.out.items _ _ _ c.in-Some.element.now steps is_new so_far.lead;
      front = front-kept _ c.loop-element.out.items c.settle.new.out.items (line c.in-Some.element.now) _ so_far.more is_new so_far.front;
      more = longer _ c.loop-element.out.items c.settle.new.out.items (line c.in-Some.element.now) so_far.more is_new;
      whole = All-rest P c.in-Some.element.now (left c.next.new.self) (left c.loop-element.element-iterator) steps so_far.whole;
    }
