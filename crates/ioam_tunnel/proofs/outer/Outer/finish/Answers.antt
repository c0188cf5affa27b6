use Rattle.std.proofs.Common.{◌≡◌, ◌≤◌, ◌+◌, ◌-◌, ◌/◌, ◌++◌, length, slice_set, sym, ap, ◌∙◌, arith}
use Rattle.ioam_ip.specs.Layout.{padding, padded}
use Rattle.ioam_tunnel.specs.Outer.{Writing, writing_of, more, behind}
use Rattle.ioam_tunnel.proofs.OuterLaws.{length-laid, closed}
use Rattle.ioam_tunnel.proofs.outer.Outer.finish.Goals as goal

pub returns : goal.returns
returns c =
    let old = c.args.self.now in
    let first = c.self.inside in
    let i = c.self-2.inside in
    let size : first.end - first.start ≡ length old.laid =
    sym (length-laid first.octets.items first.start first.end c.self.invariant.1) ∙ ap (λ (w : Writing). length w.laid) c.self.view_is in
    let whole : c.padded-whole.result ≡ padded (length old.laid) = c.padded-whole.ensures ∙ ap (λ n. padded n) size in
    let count : c.padded-whole.result - (first.end - first.start) ≡ padded (length old.laid) - length old.laid = λ k. whole k - size k in
    let pad = padding (padded (length old.laid) - length old.laid) in
    let now : writing_of i.octets.items i.start i.end ≡ more old pad = c.self-2.view_is ∙ c.pad.ensures.value ∙ ap (λ n. more old (padding n)) count in
    let long : length c.pad.new.self.laid ≡ i.end - i.start =
    sym (ap (λ (w : Writing). length w.laid) c.self-2.view_is) ∙ length-laid i.octets.items i.start i.end c.self-2.invariant.1 in
    let some : i.start + 2 ≤ i.end = omega (arith, c.requires.some, c.pad.ensures.size, long, c.self-2.invariant.0) in
    closed i.octets.items i.start i.end (c.padded-whole.result / 8 - 1) (more old pad) now c.self-2.invariant.0 c.self-2.invariant.1 some
    ∙ ap (λ n. behind old (slice_set (old.laid ++ pad) 1 (n / 8 - 1))) whole
