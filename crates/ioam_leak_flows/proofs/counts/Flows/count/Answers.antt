use Rattle.std.proofs.Common.{ℕ, ap, sym, ◌∙◌, arith}
use Rattle.ioam_leak_flows.proofs.TallyLaws.{one_more, tally_full, tally_known, tally_new}
use Rattle.indexmap.specs.IndexMap.{insert_entry}
use Rattle.ioam_leak_flows.specs.Tally.{same}
use Rattle.ioam_leak_flows.proofs.counts.Flows.count.Goals as goal

pub returns-in_ok-insert-in-Some : goal.returns-in_ok-insert-in-Some
returns-in_ok-insert-in-Some c = λ flows few are.
    let known = tally_known c.args.flow flows c.args.self.now.counts.entries are c.in-Some.count.now (sym c.in-Some.ensures.value) in
    c.in_ok-insert-in-Some.ensures.entries
    ∙ ap (λ (n : ℕ). insert_entry same c.args.self.now.counts.entries c.args.flow n)
    (c.saturating_add-more.ensures ∙ one_more c.in-Some.count.now (omega (arith, known.0, few)))
    ∙ known.1

pub returns-in_ok-insert-in-None : goal.returns-in_ok-insert-in-None
returns-in_ok-insert-in-None c = λ flows few are.
    c.in_ok-insert-in-None.ensures.entries
    ∙ tally_new c.args.flow flows c.args.self.now.counts.entries are (sym c.in-None.ensures.value) (omega (arith, c.if-len-lt-MOST_FLOWS.true, c.len.ensures.len))

pub returns-else-len-lt-MOST_FLOWS : goal.returns-else-len-lt-MOST_FLOWS
returns-else-len-lt-MOST_FLOWS c = λ flows few are.
    tally_full c.args.flow flows c.args.self.now.counts.entries are (sym c.in-None.ensures.value) (omega (arith, c.if-len-lt-MOST_FLOWS.false, c.len.ensures.len))
