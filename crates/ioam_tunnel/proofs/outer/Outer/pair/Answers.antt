use Rattle.std.proofs.Common.{◌≡◌, ◌≤◌, ◌+◌, ◌-◌, ℕ, [], ◌∷◌, List, length, slice_set, ap, sym, ◌∙◌, arith, refl}
use Rattle.std.proofs.lemmas.List.{length-set}
use Rattle.ioam_tunnel.specs.Outer.{Writing}
use Rattle.ioam_tunnel.proofs.OuterLaws.{length-laid, more-written, pair-written, zeros-written}
use Rattle.ioam_tunnel.proofs.outer.Outer.pair.Goals as goal

pub invariant_of-self : goal.invariant_of-self
invariant_of-self c =
    let i = c.self.inside in
    let octets : List ℕ = i.octets.items in
    let a = c.args.first in
    let b = c.args.second in
    let laid : length c.args.self.now.laid ≡ i.end - i.start = sym (ap (λ (w : Writing). length w.laid) c.self.view_is) ∙ length-laid octets i.start i.end c.self.invariant.1 in
    let most : c.args.self.now.most ≡ length octets - i.start = sym (ap (λ (w : Writing). w.most) c.self.view_is) in
    let fits : i.end + 2 ≤ length octets = omega (arith, c.requires, laid, most, c.self.invariant.0, c.self.invariant.1) in (
      omega (arith, c.self.invariant.0),
      omega (arith, length-set (slice_set octets i.end a) (i.end + 1) b, length-set octets i.end a, fits),
      zeros-written octets i.start i.end c.self.invariant.2 _ (a ∷ b ∷ []) 2 fits refl (pair-written octets i.end a b fits),
    )

pub returns-clause-value : goal.returns-clause-value
returns-clause-value c =
    let i = c.self.inside in
    let octets : List ℕ = i.octets.items in
    let a = c.args.first in
    let b = c.args.second in
    let laid : length c.args.self.now.laid ≡ i.end - i.start = sym (ap (λ (w : Writing). length w.laid) c.self.view_is) ∙ length-laid octets i.start i.end c.self.invariant.1 in
    let most : c.args.self.now.most ≡ length octets - i.start = sym (ap (λ (w : Writing). w.most) c.self.view_is) in
    let fits : i.end + 2 ≤ length octets = omega (arith, c.requires, laid, most, c.self.invariant.0, c.self.invariant.1) in
    more-written octets i.start i.end c.args.self.now (a ∷ b ∷ []) _ 2 c.self.view_is c.self.invariant.0 c.self.invariant.1 fits refl (pair-written octets i.end a b fits)
