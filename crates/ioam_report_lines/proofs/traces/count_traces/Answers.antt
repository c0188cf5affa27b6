use Rattle.std.proofs.Common.{◌≡◌, ◌∷◌, [], rules, arith, ap}
use Rattle.std.proofs.lemmas.List.Elements.{All-rest}
use Rattle.ioam_base.specs.Octets.{IsOctets}
use Rattle.ioam_ip.specs.ChainOptions.{HeadFits}
use Rattle.ioam_ip.specs.HeadsLeft.{heads_left, AreHeads}
use Rattle.ioam_ip.specs.declared.chain.Head.{Head}
use Rattle.ioam_report_lines.specs.TracesText.{traces_from}
use Rattle.ioam_report_lines.proofs.TracesLaws.{counted_traces, counting_traces, counting_fits, traces_from-nested}
use Rattle.ioam_report_lines.proofs.traces.count_traces.Goals as goal

pub returns-then-head-eq-IPV6 : goal.returns-then-head-eq-IPV6
returns-then-head-eq-IPV6 c =
    let p = c.args.packet.now in
    let are : AreHeads p (heads_left c.into_iter-head-iterator.result) = search rules in
    let steps : heads_left c.loop-head.head-iterator ≡ c.in-Some.head ∷ heads_left c.next.new.self = search rules in
    counted_traces p c.requires.sound _ are c.loop-head.count (heads_left c.loop-head.head-iterator) c.loop-head.invariant.lead
    (traces_from-nested p (heads_left c.loop-head.head-iterator) (heads_left c.next.new.self) c.in-Some.head steps c.if-head-eq-IPV6.true)

pub overflow_add-count : goal.overflow_add-count
overflow_add-count c =
    let p = c.args.packet.now in
    let are : AreHeads p (heads_left c.into_iter-head-iterator.result) = search rules in
    let steps : heads_left c.loop-head.head-iterator ≡ c.in-Some.head ∷ heads_left c.next.new.self = search rules in
    let octets : IsOctets p = λ i. omega (arith, c.type_inv.packet i) in
    let step = counting_traces p c.requires.sound _ are c.loop-head.count c.count_in-count.result (heads_left c.loop-head.head-iterator) (heads_left c.next.new.self)
    c.in-Some.head c.loop-head.invariant.lead steps c.if-head-eq-IPV6.false c.count_in-count.ensures in
    omega (arith, counting_fits p c.requires.sound _ are c.loop-head.count c.count_in-count.result (heads_left c.next.new.self) c.requires.packet octets step)

pub loop-head-preserved : goal.loop-head-preserved
loop-head-preserved c =
    let p = c.args.packet.now in
    let are : AreHeads p (heads_left c.into_iter-head-iterator.result) = search rules in
    let steps : heads_left c.loop-head.head-iterator ≡ c.in-Some.head ∷ heads_left c.next.new.self = search rules in
    let P : Head → Type 0 = λ head. HeadFits p head in
    record {
      can = search rules;
      finite = search rules;
      lead = counting_traces p c.requires.sound _ are c.loop-head.count c.count_in-count.result (heads_left c.loop-head.head-iterator) (heads_left c.next.new.self)
          c.in-Some.head c.loop-head.invariant.lead steps c.if-head-eq-IPV6.false c.count_in-count.ensures;
      fit = All-rest P c.in-Some.head (heads_left c.next.new.self) (heads_left c.loop-head.head-iterator) steps c.loop-head.invariant.fit;
    }

pub returns : goal.returns
returns c =
    let p = c.args.packet.now in
    let are : AreHeads p (heads_left c.into_iter-head-iterator.result) = search rules in
    let none : heads_left c.loop-head.head-iterator ≡ [] = search rules in
    counted_traces p c.requires.sound _ are c.loop-head.count (heads_left c.loop-head.head-iterator) c.loop-head.invariant.lead
    (ap (λ hs. traces_from p hs) none)
