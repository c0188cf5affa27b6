use Rattle.std.proofs.Common.{◌≡◌, [], rules}
use Rattle.ioam_ip.specs.Options.{AreOptions}
use Rattle.ioam_ip.specs.OptionsLeft.{options_left}
use Rattle.ioam_report_lines.proofs.ListedLaws.{told}
use Rattle.ioam_report_lines.proofs.listed.put_options.Goals as goal

pub returns : goal.returns
returns c =
    let none : options_left c.loop-option.option-iterator ≡ [] = search rules in
    let are : AreOptions c.args.head.now (options_left c.into_iter-option-iterator.result) = search rules in
    told c.args.head.now c.loop-option.out.items c.args.out.now.items _ _ c.loop-option.invariant.lead none are
