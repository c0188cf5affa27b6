use Rattle.std.proofs.Common.{◌≡◌, ◌∷◌, ◌++◌, [], List, refl, rules, ap, ◌∙◌, map}
use Rattle.std.proofs.lemmas.List.Elements.{All-rest}
use Rattle.ioam_ip.specs.ChainOptions.{HeadFits}
use Rattle.ioam_ip.specs.HeadsLeft.{AreHeads, heads_left}
use Rattle.ioam_ip.specs.Options.{Item}
use Rattle.ioam_ip.specs.declared.chain.Head.{Head}
use Rattle.ioam_report_lines.specs.TracesText.{traces_from, traces_in}
use Rattle.ioam_report_lines.proofs.TracesLaws.{traces_from-nested}
use Rattle.ioam_delay_traces.specs.Shown.{limit_of, option_course}
use Rattle.ioam_delay_traces.proofs.ShownLaws.{grown_all, grows_more, grows_none, head_taken, heads_all, led_on}
use Rattle.ioam_delay_traces.proofs.packets.count_packet.Goals as goal

pub loop-head-init : goal.loop-head-init
loop-head-init c = record { can = search rules; finite = search rules; done = []; lead = refl; grown = grows_none c.args.totals.now; fit = search rules }

pub returns-then-head-eq-IPV6-clause-grows : goal.returns-then-head-eq-IPV6-clause-grows
returns-then-head-eq-IPV6-clause-grows c =
    let p = c.args.packet.now in
    let so_far = c.loop-head.invariant in
    let are : AreHeads p (heads_left c.into_iter-head-iterator.result) = search rules in
    let steps : heads_left c.loop-head.head-iterator ≡ c.in-Some.head ∷ heads_left c.next.new.self = search rules in
    grown_all so_far.done _ _ c.args.totals.now c.loop-head.totals (so_far.lead ∙ heads_all c.args.units (limit_of p) p _ c.requires.sound are)
    (ap (λ (xs : List Item). map (option_course c.args.units (limit_of p)) xs)
    (traces_from-nested p (heads_left c.loop-head.head-iterator) (heads_left c.next.new.self) c.in-Some.head steps c.if-head-eq-IPV6.true)) so_far.grown

pub loop-head-preserved : goal.loop-head-preserved
loop-head-preserved c =
    let p = c.args.packet.now in
    let so_far = c.loop-head.invariant in
    let steps : heads_left c.loop-head.head-iterator ≡ c.in-Some.head ∷ heads_left c.next.new.self = search rules in
    let P : Head → Type 0 = λ head. HeadFits p head in
    let more = map (option_course c.args.units (limit_of p)) (traces_in p c.in-Some.head) in
    record {
      can = search rules;
      finite = search rules;
      done = so_far.done ++ more;
      lead = led_on so_far.done more _ _ _
          (head_taken c.args.units (limit_of p) p (heads_left c.loop-head.head-iterator) (heads_left c.next.new.self) c.in-Some.head steps c.if-head-eq-IPV6.false) so_far.lead;
      grown = grows_more so_far.done more c.args.totals.now c.loop-head.totals c.count_in.new.totals so_far.grown c.in_ok-count_in.ensures;
      fit = All-rest P c.in-Some.head (heads_left c.next.new.self) (heads_left c.loop-head.head-iterator) steps so_far.fit;
    }

pub returns-clause-grows : goal.returns-clause-grows
returns-clause-grows c =
    let p = c.args.packet.now in
    let so_far = c.loop-head.invariant in
    let are : AreHeads p (heads_left c.into_iter-head-iterator.result) = search rules in
    let none : heads_left c.loop-head.head-iterator ≡ [] = search rules in
    grown_all so_far.done _ _ c.args.totals.now c.loop-head.totals (so_far.lead ∙ heads_all c.args.units (limit_of p) p _ c.requires.sound are)
    (ap (λ (hs : List Head). map (option_course c.args.units (limit_of p)) (traces_from p hs)) none) so_far.grown
