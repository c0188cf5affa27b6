use Rattle.std.proofs.Common.{◌≡◌, ◌++◌, ℕ, List, length, drop, sym, ◌∙◌, subst, arith}
use Rattle.std.proofs.lemmas.List.{take_rest}
use Rattle.ioam_dex.specs.Record.{Record, IsRecord, record_octets}
use Rattle.ioam_ipfix.specs.Data.{data_octets}
use Rattle.ioam_ipfix.specs.Written.{BeginsRecord}
use Rattle.ioam_ipfix.proofs.RunLaws.{Put-begins, Put-push, Put-all}
use Rattle.ioam_ipfix.proofs.writer.put_records.Goals as goal

pub put_first-at-requires-clause-begins : goal.put_first-at-requires-clause-begins
put_first-at-requires-clause-begins c =
    let run = c.args.run.now in
    let at = c.records.at in
    subst (λ o. BeginsRecord o) (sym (take_rest run at))
    (Put-begins run c.args.out.now.items at c.records.out.items c.records.invariant.put c.requires.records c.records-test.true)

pub records-preserved : goal.records-preserved
records-preserved c =
    let run = c.args.run.now in
    let at = c.records.at in
    let size = c.put_first-at.result in
    let was = c.records.invariant in
    let taken : (x : Record) (behind : List ℕ) → IsRecord x → drop at run ≡ record_octets x ++ behind
    → (size ≡ length (record_octets x)) × (c.put_first-at.new.out.items ≡ c.records.out.items ++ data_octets x) =
    λ x behind is_x is. c.put_first-at.ensures.taken x behind is_x (take_rest run at ∙ is) in
    let put = Put-push run c.args.out.now.items at c.records.out.items size c.put_first-at.new.out.items was.put c.records-test.true taken in
    let sizes = c.put_first-at.ensures.size in
    let lens = c.put_first-at.ensures.len in
    let cap = c.put_first-at.ensures.capacity in
    record {
      within = omega (arith, sizes.1, was.within);
      few = omega (arith, lens.1, was.few);
      grows = omega (arith, lens.0, was.grows);
      room = omega (arith, cap, was.room);
      put = put;
    }

pub returns-clause-items : goal.returns-clause-items
returns-clause-items c = λ xs all is.
    Put-all c.args.run.now c.args.out.now.items c.records.at c.records.out.items c.records.invariant.put c.records-test.false xs all is
