use Rattle.std.proofs.Common.{◌≡◌, ◌∷◌, ◌++◌, [], List, refl, rules, ap, ◌∙◌, map, filter}
use Rattle.ioam_ip.specs.Options.{AreOptions, Item}
use Rattle.ioam_ip.specs.OptionsLeft.{item_of, options_left}
use Rattle.ioam_report_lines.specs.TracesText.{is_trace}
use Rattle.ioam_delay_traces.specs.Shown.{option_course}
use Rattle.ioam_delay_traces.proofs.ShownLaws.{grown_all, grows_more, grows_none, led_on, option_taken, options_all}
use Rattle.ioam_delay_traces.proofs.packets.count_options.Goals as goal

pub loop-option-init : goal.loop-option-init
loop-option-init c = record { can = search rules; finite = search rules; done = []; lead = refl; grown = grows_none c.args.totals.now }

pub loop-option-preserved : goal.loop-option-preserved
loop-option-preserved c =
    let so_far = c.loop-option.invariant in
    let steps : options_left c.loop-option.option-iterator ≡ item_of c.in-Some.option ∷ options_left c.next.new.self = search rules in
    let one = map (option_course c.args.units c.args.limit) (filter is_trace (item_of c.in-Some.option ∷ [])) in
    record {
      can = search rules;
      finite = search rules;
      done = so_far.done ++ one;
      lead = led_on so_far.done one _ _ _
          (option_taken c.args.units c.args.limit (options_left c.loop-option.option-iterator) (options_left c.next.new.self) (item_of c.in-Some.option) steps) so_far.lead;
      grown = grows_more so_far.done one c.args.totals.now c.loop-option.totals c.count_option.new.totals so_far.grown c.in_ok-count_option.ensures;
    }

pub returns : goal.returns
returns c =
    let so_far = c.loop-option.invariant in
    let none : options_left c.loop-option.option-iterator ≡ [] = search rules in
    let are : AreOptions c.args.head.now (options_left c.into_iter-option-iterator.result) = search rules in
    grown_all so_far.done _ _ c.args.totals.now c.loop-option.totals (so_far.lead ∙ options_all c.args.units c.args.limit c.args.head.now _ are)
    (ap (λ (xs : List Item). map (option_course c.args.units c.args.limit) (filter is_trace xs)) none) so_far.grown
