use Rattle.std.proofs.Common.{◌≡◌, ◌∷◌, [], rules, arith}
use Rattle.std.proofs.lemmas.List.Elements.{All-rest}
use Rattle.ioam_base.specs.Octets.{IsOctets}
use Rattle.ioam_ip.specs.ChainOptions.{HeadFits}
use Rattle.ioam_ip.specs.HeadsLeft.{heads_left, AreHeads}
use Rattle.ioam_ip.specs.declared.chain.Head.{Head}
use Rattle.ioam_report_options.proofs.OptionsLaws.{AreIoam-ioam_of, counted_options, counting_options, counting_fits}
use Rattle.ioam_report_options.proofs.counting.count_options.Goals as goal

pub overflow_add-count : goal.overflow_add-count
overflow_add-count c =
    let p = c.args.packet.now in
    let are : AreHeads p (heads_left c.into_iter-head-iterator.result) = search rules in
    let steps : heads_left c.loop-head.head-iterator ≡ c.in-Some.head ∷ heads_left c.next.new.self = search rules in
    let octets : IsOctets p = λ i. omega (arith, c.type_inv.packet i) in
    let step = counting_options p c.requires.sound _ are c.loop-head.count c.count_in-count.result (heads_left c.loop-head.head-iterator) (heads_left c.next.new.self)
    c.in-Some.head c.loop-head.invariant.lead steps c.count_in-count.ensures in
    omega (arith, counting_fits p c.requires.sound _ are c.loop-head.count c.count_in-count.result (heads_left c.next.new.self) c.requires.packet octets step)

pub loop-head-preserved : goal.loop-head-preserved
loop-head-preserved c =
    let p = c.args.packet.now in
    let are : AreHeads p (heads_left c.into_iter-head-iterator.result) = search rules in
    let steps : heads_left c.loop-head.head-iterator ≡ c.in-Some.head ∷ heads_left c.next.new.self = search rules in
    let P : Head → Type 0 = λ head. HeadFits p head in
    record {
      can = search rules;
      finite = search rules;
      lead = counting_options p c.requires.sound _ are c.loop-head.count c.count_in-count.result (heads_left c.loop-head.head-iterator) (heads_left c.next.new.self)
          c.in-Some.head c.loop-head.invariant.lead steps c.count_in-count.ensures;
      fit = All-rest P c.in-Some.head (heads_left c.next.new.self) (heads_left c.loop-head.head-iterator) steps c.loop-head.invariant.fit;
    }

pub returns-clause-count : goal.returns-clause-count
returns-clause-count c =
    let p = c.args.packet.now in
    let are : AreHeads p (heads_left c.into_iter-head-iterator.result) = search rules in
    let none : heads_left c.loop-head.head-iterator ≡ [] = search rules in
    counted_options p c.requires.sound _ are c.loop-head.count (heads_left c.loop-head.head-iterator) c.loop-head.invariant.lead none

pub returns-clause-are : goal.returns-clause-are
returns-clause-are c = AreIoam-ioam_of c.args.packet.now c.requires.sound
