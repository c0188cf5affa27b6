use Rattle.std.proofs.Common.{◌++◌, map, sym, ap, ◌∙◌}
use Rattle.ioam_ip.specs.Sizes.{options_end}
use Rattle.ioam_tunnel.specs.Size.{trace_size, direct_sizes}
use Rattle.ioam_tunnel.proofs.SizeLaws.{options_end-append}
use Rattle.ioam_tunnel.proofs.sizes.hop_size.Goals as goal

pub returns-clause-value : goal.returns-clause-value
returns-clause-value c =
    let traces = map trace_size c.args.flow.now.traces in
    let directs = direct_sizes c.args.direct in
    c.size_to.ensures.value (traces ++ directs)
    (c.direct_end.ensures.value
    ∙ ap (λ n. options_end n directs) (c.traces_end.ensures.value ∙ ap (λ ts. options_end 2 (map trace_size ts)) c.traces.ensures)
    ∙ sym (options_end-append 2 traces directs))
