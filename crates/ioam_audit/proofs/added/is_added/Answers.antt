use Rattle.std.proofs.Common.{◌≡◌, ◌%◌, ◌∙◌, ap, arith}
use Rattle.ioam_trace.specs.Head.{remaining_of}
use Rattle.ioam_audit.proofs.AddedLaws.{adds-between, between-adds}
use Rattle.ioam_audit.proofs.added.is_added.Goals as goal

pub returns-then-before-after : goal.returns-then-before-after
returns-then-before-after c = (
  λ never. absurd (cc never),
  λ so. absurd (omega (arith, so.less, c.if-before-after.true, c.remaining-before.ensures.value, c.remaining-after.ensures.value, c.read.ensures, c.read-2.ensures)),
)

pub returns : goal.returns
returns c =
    let hops = c.args.sight.hops in
    let id = c.args.sight.id in
    let inward = c.args.sight.inward in
    let old = c.args.old.now in
    let new = c.args.new.now in
    let before = c.remaining-before.result in
    let after = c.remaining-after.result in
    let before_is : before ≡ remaining_of old = c.remaining-before.ensures.value ∙ ap (λ n. n % 128) c.read.ensures in
    let after_is : after ≡ remaining_of new = c.remaining-after.ensures.value ∙ ap (λ n. n % 128) c.read-2.ensures in (
      λ is. between-adds hops id inward old new before after before_is after_is c.if-before-after.false (c.is_between.ensures.0 is),
      λ so. c.is_between.ensures.1 (adds-between hops id inward old new before after before_is after_is c.if-before-after.false so),
    )
