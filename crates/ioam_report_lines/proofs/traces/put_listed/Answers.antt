use Rattle.std.proofs.Common.{◌≡◌, ◌++◌, ◌∷◌, [], rules, ap}
use Rattle.std.specs.List.{flat_map}
use Rattle.std.proofs.lemmas.List.Elements.{All-rest}
use Rattle.ioam_ip.specs.ChainOptions.{HeadFits}
use Rattle.ioam_ip.specs.HeadsLeft.{heads_left, AreHeads}
use Rattle.ioam_ip.specs.declared.chain.Head.{Head}
use Rattle.ioam_report_lines.specs.TracesText.{option_lines, traces_in, traces_from}
use Rattle.ioam_report_lines.proofs.TextLaws.{front-kept, longer}
use Rattle.ioam_report_lines.proofs.TracesLaws.{told_traces, telling_traces, traces_from-nested}
use Rattle.ioam_report_lines.proofs.traces.put_listed.Goals as goal

pub returns-then-head-eq-IPV6 : goal.returns-then-head-eq-IPV6
returns-then-head-eq-IPV6 c =
    let p = c.args.packet.now in
    let are : AreHeads p (heads_left c.into_iter-head-iterator.result) = search rules in
    let steps : heads_left c.loop-head.head-iterator ≡ c.in-Some.head ∷ heads_left c.next.new.self = search rules in
    told_traces p c.requires.sound _ are c.loop-head.out.items c.args.out.now.items (heads_left c.loop-head.head-iterator) c.loop-head.invariant.lead
    (traces_from-nested p (heads_left c.loop-head.head-iterator) (heads_left c.next.new.self) c.in-Some.head steps c.if-head-eq-IPV6.true)

pub loop-head-preserved : goal.loop-head-preserved
loop-head-preserved c =
    let p = c.args.packet.now in
    let steps : heads_left c.loop-head.head-iterator ≡ c.in-Some.head ∷ heads_left c.next.new.self = search rules in
    let part = flat_map option_lines (traces_in p c.in-Some.head) in
    let is_new : c.settle.new.out.items ≡ c.loop-head.out.items ++ part = search rules in
    let so_far = c.loop-head.invariant in
    let P : Head → Type 0 = λ head. HeadFits p head in
    record {
      can = search rules;
      finite = search rules;
      lead = telling_traces p c.loop-head.out.items c.settle.new.out.items _ (heads_left c.loop-head.head-iterator) (heads_left c.next.new.self) c.in-Some.head
          so_far.lead steps c.if-head-eq-IPV6.false is_new;
      front = front-kept _ c.loop-head.out.items c.settle.new.out.items part _ so_far.more is_new so_far.front;
      more = longer _ c.loop-head.out.items c.settle.new.out.items part so_far.more is_new;
      fit = All-rest P c.in-Some.head (heads_left c.next.new.self) (heads_left c.loop-head.head-iterator) steps so_far.fit;
    }

pub returns : goal.returns
returns c =
    let p = c.args.packet.now in
    let are : AreHeads p (heads_left c.into_iter-head-iterator.result) = search rules in
    let none : heads_left c.loop-head.head-iterator ≡ [] = search rules in
    told_traces p c.requires.sound _ are c.loop-head.out.items c.args.out.now.items (heads_left c.loop-head.head-iterator) c.loop-head.invariant.lead
    (ap (λ hs. traces_from p hs) none)
