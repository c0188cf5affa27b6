use Rattle.std.proofs.Common.{sym}
use Rattle.ioam_collect.proofs.StoreLaws.{put_adds}
use Rattle.ioam_collect.proofs.store.Store.add_one.Goals as goal

pub put-requires-clause-there : goal.put-requires-clause-there
put-requires-clause-there c = c.self.invariant.0.below c.args.key c.in-Some.chain (sym c.in-Some.ensures.value)

pub invariant_of-self : goal.invariant_of-self
invariant_of-self c =
    let slots = rw c.in-Some.ensures.same at c.in-Some.ensures.slots in
    let few = c.self.invariant.2 in
    rw c.in-Some.ensures.same (
      (put_adds _ _ _ _ _ c.self.invariant.0 c.args.key _ (sym c.in-Some.ensures.value) c.put.ensures.within _ c.requires _ c.put.ensures.puts).0,
      slots,
      rw c.in-Some.ensures.capacity few,
    )

pub returns-in-Some : goal.returns-in-Some
returns-in-Some c =
    rw (c.in-Some.ensures.same, ← c.self.view_is)
    (put_adds _ _ _ _ _ c.self.invariant.0 c.args.key _ (sym c.in-Some.ensures.value) c.put.ensures.within _ c.requires _ c.put.ensures.puts).1
