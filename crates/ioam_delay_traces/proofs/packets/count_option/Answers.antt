use Rattle.std.proofs.Common.{◌-◌, length, drop, sym, arith, length-drop}
use Rattle.std.proofs.lemmas.List.{take_all}
use Rattle.ioam_ip.specs.OptionsLeft.{item_of}
use Rattle.ioam_delay_traces.proofs.ShownLaws.{grows_trace}
use Rattle.ioam_delay_traces.proofs.packets.count_option.Goals as goal

pub returns-in_ok-count : goal.returns-in_ok-count
returns-in_ok-count c =
    let body = c.args.option.now.body.now in
    grows_trace c.args.units c.args.limit (item_of c.args.option.now) _ c.args.totals.now c.count.new.self (sym c.if-is_trace.ensures)
    (take_all (length body - 2) (drop 2 body) (omega (arith, length-drop 2 body))) c.in_ok-count.ensures
