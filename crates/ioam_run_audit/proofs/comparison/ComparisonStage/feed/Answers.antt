use Rattle.std.proofs.Common.{◌≡◌, arith, rules}
use Rattle.ioam_base.proofs.ResultLaws.{OnOk-map}
use Rattle.ioam_run_audit.proofs.ComparisonLaws.{feeds_after, feeds_before, room_after, room_before}
use Rattle.ioam_run_audit.proofs.comparison.ComparisonStage.feed.Goals as goal

pub feed-requires : goal.feed-requires
feed-requires c =
    let is : c.args.input ≡ 0 = search rules in
    record { room = omega (arith, c.requires.few, room_before c.args.self.now c.args.input c.requires.stands c.requires.waits is) }

pub feed-requires-else-input-eq0 : goal.feed-requires-else-input-eq0
feed-requires-else-input-eq0 c =
    let other : c.args.input ≡ 0 → ⊥ = search rules in
    record { room = omega (arith, c.requires.few, room_after c.args.self.now c.args.input c.requires.stands c.requires.waits other) }

pub returns-then-input-eq0 : goal.returns-then-input-eq0
returns-then-input-eq0 c =
    let is : c.args.input ≡ 0 = search rules in
    OnOk-map c.feed.result _ _ c.feed.ensures
    (λ fed. feeds_before c.args.self.now c.args.input c.requires.waits c.requires.stands c.feed.new.self is c.args.octets.now c.requires.some
    (room_before c.args.self.now c.args.input c.requires.stands c.requires.waits is) c.requires.few fed)

pub returns-else-input-eq0 : goal.returns-else-input-eq0
returns-else-input-eq0 c =
    let other : c.args.input ≡ 0 → ⊥ = search rules in
    OnOk-map c.feed-else-input-eq0.result _ _ c.feed-else-input-eq0.ensures
    (λ fed. feeds_after c.args.self.now c.args.input c.requires.waits c.requires.stands c.feed-else-input-eq0.new.self other c.args.octets.now c.requires.some
    (room_after c.args.self.now c.args.input c.requires.stands c.requires.waits other) c.requires.few fed)
