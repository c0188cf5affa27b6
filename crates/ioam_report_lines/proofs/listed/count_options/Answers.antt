use Rattle.std.proofs.Common.{◌≡◌, ◌+◌, ◌≤◌, [], ◌∷◌, true, length, arith, rules}
use Rattle.ioam_ip.specs.Options.{AreOptions}
use Rattle.ioam_ip.specs.OptionsLeft.{options_left, item_of}
use Rattle.ioam_report_lines.specs.TracesText.{is_trace}
use Rattle.ioam_report_lines.proofs.ListedLaws.{counted, counting}
use Rattle.ioam_report_lines.proofs.listed.count_options.Goals as goal

pub returns : goal.returns
returns c =
    let none : options_left c.loop-option.option-iterator ≡ [] = search rules in
    let are : AreOptions c.args.head.now (options_left c.into_iter-option-iterator.result) = search rules in
    counted c.args.head.now c.loop-option.count _ _ c.loop-option.invariant.lead none are

pub overflow_add-count : goal.overflow_add-count
overflow_add-count c =
    let are : AreOptions c.args.head.now (options_left c.into_iter-option-iterator.result) = search rules in
    let steps : options_left c.loop-option.option-iterator ≡ item_of c.in-Some.option ∷ options_left c.next.new.self = search rules in
    let trace : is_trace (item_of c.in-Some.option) ≡ true = search rules in
    let most : c.loop-option.count + 1 ≤ length c.args.head.now = counting c.args.head.now c.loop-option.count _ _ _ _ c.loop-option.invariant.lead steps trace are in
    omega arith
