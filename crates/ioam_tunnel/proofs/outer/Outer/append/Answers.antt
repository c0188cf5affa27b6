use Rattle.std.proofs.Common.{◌≡◌, ◌≤◌, ◌+◌, ◌-◌, ℕ, List, length, ap, sym, ◌∙◌, arith, refl}
use Rattle.std.proofs.lemmas.List.{with_items_is}
use Rattle.ioam_base.specs.Octets.{written}
use Rattle.ioam_tunnel.specs.Outer.{Writing}
use Rattle.ioam_tunnel.proofs.OuterLaws.{length-laid, more-written, zeros-written}
use Rattle.ioam_tunnel.proofs.outer.Outer.append.Goals as goal

pub invariant_of-self : goal.invariant_of-self
invariant_of-self c =
    let i = c.self.inside in
    let part = c.args.part.now in
    let laid : length c.args.self.now.laid ≡ i.end - i.start =
    sym (ap (λ (w : Writing). length w.laid) c.self.view_is) ∙ length-laid i.octets.items i.start i.end c.self.invariant.1 in
    let most : c.args.self.now.most ≡ length i.octets.items - i.start = sym (ap (λ (w : Writing). w.most) c.self.view_is) in
    let fits : i.end + length part ≤ length i.octets.items = omega (arith, c.requires, laid, most, c.self.invariant.0, c.self.invariant.1) in
    let long : length c.put_at.new.octets ≡ length c.deref_mut.result.now = omega arith in
    let same : length c.put_at.new.octets ≡ length i.octets.items = omega (arith, long, ap length c.deref_mut.ensures.value) in
    let kept = with_items_is i.octets c.put_at.new.octets (omega (arith, same)) in
    let put = kept ∙ c.put_at.ensures ∙ ap (λ (xs : List ℕ). written xs i.end part) c.deref_mut.ensures.value in (
      omega (arith, c.self.invariant.0),
      omega (arith, ap length kept, same, fits),
      zeros-written i.octets.items i.start i.end c.self.invariant.2 _ part (length part) fits refl put,
    )

pub returns-clause-value : goal.returns-clause-value
returns-clause-value c =
    let i = c.self.inside in
    let part = c.args.part.now in
    let laid : length c.args.self.now.laid ≡ i.end - i.start =
    sym (ap (λ (w : Writing). length w.laid) c.self.view_is) ∙ length-laid i.octets.items i.start i.end c.self.invariant.1 in
    let most : c.args.self.now.most ≡ length i.octets.items - i.start = sym (ap (λ (w : Writing). w.most) c.self.view_is) in
    let fits : i.end + length part ≤ length i.octets.items = omega (arith, c.requires, laid, most, c.self.invariant.0, c.self.invariant.1) in
    let long : length c.put_at.new.octets ≡ length c.deref_mut.result.now = omega arith in
    let same : length c.put_at.new.octets ≡ length i.octets.items = omega (arith, long, ap length c.deref_mut.ensures.value) in
    let put = with_items_is i.octets c.put_at.new.octets (omega (arith, same)) ∙ c.put_at.ensures
    ∙ ap (λ (xs : List ℕ). written xs i.end part) c.deref_mut.ensures.value in
    more-written i.octets.items i.start i.end c.args.self.now part _ (length part) c.self.view_is c.self.invariant.0 c.self.invariant.1 fits refl put
