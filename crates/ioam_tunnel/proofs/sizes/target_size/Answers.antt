use Rattle.std.proofs.Common.{◌++◌, sym, ap, ◌∙◌}
use Rattle.ioam_ip.specs.Sizes.{options_end}
use Rattle.ioam_tunnel.specs.Size.{limit_sizes, edge_sizes}
use Rattle.ioam_tunnel.proofs.SizeLaws.{options_end-append}
use Rattle.ioam_tunnel.proofs.sizes.target_size.Goals as goal

pub returns-clause-value : goal.returns-clause-value
returns-clause-value c =
    let limits = limit_sizes c.args.limit in
    let edges = edge_sizes c.args.edge in
    c.size_to.ensures.value (limits ++ edges)
    (c.edge_end.ensures.value ∙ ap (λ n. options_end n edges) c.limit_end.ensures.value ∙ sym (options_end-append 2 limits edges))
