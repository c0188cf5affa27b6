use Rattle.std.proofs.Common.{◌≡◌, ◌-◌, length, ap, sym, ◌∙◌, arith}
use Rattle.ioam_tunnel.specs.Outer.{Writing}
use Rattle.ioam_tunnel.proofs.OuterLaws.{length-laid, more-zeros, zeros-skipped}
use Rattle.ioam_tunnel.proofs.outer.Outer.skip.Goals as goal

pub invariant_of-self : goal.invariant_of-self
invariant_of-self c =
    let i = c.self.inside in
    let laid : length c.args.self.now.laid ≡ i.end - i.start =
    sym (ap (λ (w : Writing). length w.laid) c.self.view_is) ∙ length-laid i.octets.items i.start i.end c.self.invariant.1 in
    let most : c.args.self.now.most ≡ length i.octets.items - i.start = sym (ap (λ (w : Writing). w.most) c.self.view_is) in (
      omega (arith, c.self.invariant.0),
      omega (arith, c.requires, laid, most, c.self.invariant.0, c.self.invariant.1),
      zeros-skipped i.octets.items i.start i.end c.self.invariant.2 c.args.count,
    )

pub returns-clause-value : goal.returns-clause-value
returns-clause-value c =
    let i = c.self.inside in
    let laid : length c.args.self.now.laid ≡ i.end - i.start =
    sym (ap (λ (w : Writing). length w.laid) c.self.view_is) ∙ length-laid i.octets.items i.start i.end c.self.invariant.1 in
    let most : c.args.self.now.most ≡ length i.octets.items - i.start = sym (ap (λ (w : Writing). w.most) c.self.view_is) in
    more-zeros i.octets.items i.start i.end c.self.invariant.2 c.args.self.now c.args.count c.self.view_is c.self.invariant.0 c.self.invariant.1
    (omega (arith, c.requires, laid, most, c.self.invariant.0, c.self.invariant.1))
