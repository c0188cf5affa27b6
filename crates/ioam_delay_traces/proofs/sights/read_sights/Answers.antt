use Rattle.std.proofs.Common.{◌≡◌, ◌∷◌, ℕ, List, rules, ap, ◌∙◌}
use Rattle.std.proofs.lemmas.List.Elements.{All-rest}
use Rattle.ioam_data.specs.Elements.{IsElement}
use Rattle.ioam_delays.specs.Sights.{sight_of}
use Rattle.ioam_trace.specs.Left.{left}
use Rattle.ioam_delay_traces.proofs.TraceLaws.{sight_more}
use Rattle.ioam_delay_traces.proofs.sights.read_sights.Goals as goal

pub loop-element-preserved : goal.loop-element-preserved
loop-element-preserved c =
    let head = c.args.trace.now.head in
    let P : List ℕ → Type 0 = λ element. IsElement head.kind head.node_len element in
    let so_far = c.loop-element.invariant in
    let steps : left c.loop-element.element-iterator ≡ c.in-Some.element.now ∷ left c.next.new.self = search rules in
    record {
      can = search rules;
      finite = search rules;
      lead = sight_more c.args.units head.kind head.node_len c.loop-element.sights.items c.push.new.self.items _ _ (left c.next.new.self) c.in-Some.element.now c.read_sight.result steps
          c.in_ok-push.ensures.items (c.read_sight.ensures ∙ ap (sight_of c.args.units) c.fields-fields.ensures.value) so_far.lead;
      whole = All-rest P c.in-Some.element.now (left c.next.new.self) (left c.loop-element.element-iterator) steps so_far.whole;
    }
