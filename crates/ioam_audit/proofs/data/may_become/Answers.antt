use Rattle.std.proofs.Common.{arith}
use Rattle.ioam_base.specs.Octets.{IsOctets}
use Rattle.ioam_trace.specs.Filling.{IsOpen, IsSuitedBy}
use Rattle.ioam_audit.specs.Becomes.{may_add}
use Rattle.ioam_audit.proofs.DataLaws.{decided, decides, stays, stayed}
use Rattle.ioam_audit.proofs.data.may_become.Goals as goal

pub returns-then-not-is_open : goal.returns-then-not-is_open
returns-then-not-is_open c =
    let old = c.args.old.now in
    let new = c.args.new.now in
    let sight = c.args.sight in
    let never : IsOpen old → IsSuitedBy may_add old → ⊥ = λ opened fit. absurd (cc (c.if-not-is_open.true, c.is_open.ensures.1 (opened, fit))) in (
      λ is. stayed sight.hops sight.id sight.inward old new never (c.is_same.ensures.0 is),
      λ may. c.is_same.ensures.1 (stays sight.hops sight.id sight.inward old new never may),
    )

pub returns : goal.returns
returns c =
    let old = c.args.old.now in
    let new = c.args.new.now in
    let sight = c.args.sight in
    let small_old : IsOctets old = λ i. omega (arith, c.type_inv.old i) in
    let small_new : IsOctets new = λ i. omega (arith, c.type_inv.new i) in
    let can = c.is_open.ensures.0 (c.if-not-is_open.false) in (
      λ is. decides sight.hops sight.id sight.inward old new sight.hops_below sight.id_below sight.inward_below small_old small_new c.requires.same can.0 can.1 (c.is_changed.ensures.0 is),
      λ may. c.is_changed.ensures.1 (decided sight.hops sight.id sight.inward old new sight.hops_below sight.id_below sight.inward_below small_old small_new c.requires.same can.0 can.1 may),
    )
