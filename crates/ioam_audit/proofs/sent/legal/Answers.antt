use Rattle.std.proofs.Common.{◌≡◌, ℕ, List, slice_get, sym, subst}
use Rattle.ioam_ip.specs.Hop.{hop_options}
use Rattle.ioam_topo.specs.Domain.{links}
use Rattle.ioam_topo.specs.declared.domain.Domain.{Domain}
use Rattle.ioam_audit.specs.Header.{AreLeft}
use Rattle.ioam_audit.specs.Sent.{end_of}
use Rattle.ioam_audit.proofs.SentLaws.{parts-sent, sent-parts}
use Rattle.ioam_audit.proofs.StepsLaws.{stepped-sent}
use Rattle.ioam_audit.proofs.sent.legal.Goals as goal

-- what is known of the node, by other words
told : (domain : Domain) (node hops id inward others from by : ℕ) (before after : List ℕ) → hops ≡ others → id ≡ from → inward ≡ by
    → AreLeft domain node hops id inward before after 40 (hop_options before) → AreLeft domain node others from by before after 40 (hop_options before)
told domain node hops id inward others from by before after e f g left =
    subst (λ n. AreLeft domain node n from by before after 40 (hop_options before)) e
    (subst (λ n. AreLeft domain node hops n by before after 40 (hop_options before)) f
    (subst (λ n. AreLeft domain node hops id n before after 40 (hop_options before)) g left))

pub returns-clause-legal : goal.returns-clause-legal
returns-clause-legal c =
    let domain = c.args.domain.now in
    let node = c.args.node.0 in
    let before = c.args.before.now in
    let after = c.args.after.now in
    let known = c.sight_of-sight.result in
    let is = c.sight_of-sight.ensures in
    let by = end_of (slice_get (links domain) c.args.link.0) in (
      λ sent. let parts = c.is_sent.ensures.0 sent in
          parts-sent domain node by before after parts.0 parts.1 (told domain node known.hops known.id known.inward _ _ _ before after is.hops is.id is.inward parts.2),
      λ legal. let parts = sent-parts domain node by before after legal in
          c.is_sent.ensures.1 (parts.0, parts.1, told domain node _ _ _ known.hops known.id known.inward before after (sym is.hops) (sym is.id) (sym is.inward) parts.2),
    )

pub returns-clause-steps : goal.returns-clause-steps
returns-clause-steps c readings place way time at by leaves limit stepped =
    let domain = c.args.domain.now in
    let node = c.args.node.0 in
    let before = c.args.before.now in
    let after = c.args.after.now in
    let known = c.sight_of-sight.result in
    let is = c.sight_of-sight.ensures in
    let link = end_of (slice_get (links domain) c.args.link.0) in
    let parts = sent-parts domain node link before after (stepped-sent domain readings place time before after node link way at by leaves limit stepped) in
    c.is_sent.ensures.1 (parts.0, parts.1, told domain node _ _ _ known.hops known.id known.inward before after (sym is.hops) (sym is.id) (sym is.inward) parts.2)
