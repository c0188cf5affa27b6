use Rattle.std.proofs.Common.{◌++◌, ◌≡◌, ◌-◌, [], ◌∷◌, length, append_assoc, ap, sym, ◌∙◌, arith}
use Rattle.ioam_ip.specs.Layout.{padding, gap_before}
use Rattle.ioam_tunnel.specs.Outer.{Writing, more}
use Rattle.ioam_tunnel.proofs.OuterLaws.{length-laid, more_twice}
use Rattle.ioam_tunnel.proofs.outer.Outer.begin_option.Goals as goal

pub pad-requires-clause-room : goal.pad-requires-clause-room
pad-requires-clause-room c =
    let i = c.self.inside in
    let laid : i.end - i.start ≡ length c.args.self.now.laid =
    sym (length-laid i.octets.items i.start i.end c.self.invariant.1) ∙ ap (λ (w : Writing). length w.laid) c.self.view_is in
    let gap : c.gap_before-gap.result ≡ gap_before (length c.args.self.now.laid) c.args.kind =
    c.gap_before-gap.ensures.value ∙ ap (λ n. gap_before n c.args.kind) laid in
    omega (arith, c.requires, gap)

pub pair-requires : goal.pair-requires
pair-requires c =
    let i = c.self.inside in
    let laid : i.end - i.start ≡ length c.args.self.now.laid =
    sym (length-laid i.octets.items i.start i.end c.self.invariant.1) ∙ ap (λ (w : Writing). length w.laid) c.self.view_is in
    let gap : c.gap_before-gap.result ≡ gap_before (length c.args.self.now.laid) c.args.kind =
    c.gap_before-gap.ensures.value ∙ ap (λ n. gap_before n c.args.kind) laid in
    omega (arith, c.requires, gap, c.pad.ensures.size, c.pad.ensures.most)

pub pair-requires-2 : goal.pair-requires-2
pair-requires-2 c =
    let i = c.self.inside in
    let laid : i.end - i.start ≡ length c.args.self.now.laid =
    sym (length-laid i.octets.items i.start i.end c.self.invariant.1) ∙ ap (λ (w : Writing). length w.laid) c.self.view_is in
    let gap : c.gap_before-gap.result ≡ gap_before (length c.args.self.now.laid) c.args.kind =
    c.gap_before-gap.ensures.value ∙ ap (λ n. gap_before n c.args.kind) laid in
    omega (arith, c.requires, gap, c.pad.ensures.size, c.pad.ensures.most, c.pair.ensures.size, c.pair.ensures.most)

pub returns-clause-value : goal.returns-clause-value
returns-clause-value c =
    let i = c.self.inside in
    let old = c.args.self.now in
    let laid : i.end - i.start ≡ length c.args.self.now.laid =
    sym (length-laid i.octets.items i.start i.end c.self.invariant.1) ∙ ap (λ (w : Writing). length w.laid) c.self.view_is in
    let gap : c.gap_before-gap.result ≡ gap_before (length c.args.self.now.laid) c.args.kind =
    c.gap_before-gap.ensures.value ∙ ap (λ n. gap_before n c.args.kind) laid in
    let pad = padding (gap_before (length old.laid) c.args.kind) in
    let kinds = c.args.kind ∷ c.args.size ∷ [] in
    let opening = 0 ∷ c.args.option_type ∷ [] in
    c.pair-2.ensures.value
    ∙ ap (λ (w : Writing). more w opening)
    (c.pair.ensures.value ∙ ap (λ (w : Writing). more w kinds) (c.pad.ensures.value ∙ ap (λ n. more old (padding n)) gap) ∙ more_twice old pad kinds)
    ∙ more_twice old (pad ++ kinds) opening
    ∙ ap (λ xs. more old xs) (append_assoc pad kinds opening)

pub returns-clause-size : goal.returns-clause-size
returns-clause-size c =
    let i = c.self.inside in
    let laid : i.end - i.start ≡ length c.args.self.now.laid =
    sym (length-laid i.octets.items i.start i.end c.self.invariant.1) ∙ ap (λ (w : Writing). length w.laid) c.self.view_is in
    let gap : c.gap_before-gap.result ≡ gap_before (length c.args.self.now.laid) c.args.kind =
    c.gap_before-gap.ensures.value ∙ ap (λ n. gap_before n c.args.kind) laid in
    omega (arith, gap, c.pad.ensures.size, c.pair.ensures.size, c.pair-2.ensures.size)
