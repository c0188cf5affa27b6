use Rattle.std.proofs.Common.{◌≡◌, ℕ, suc, List, ◌++◌, ◌+◌, ◌-◌, length, sym, ◌∙◌, ap, append-nil, append_assoc, arith}
use Rattle.ioam_delay_lines.specs.Spaces.{next_count, ways_of, ways_up_to}
use Rattle.ioam_delay_lines.proofs.SpacesLaws.{ways_end, ways_none, ways_some}
use Rattle.ioam_delay_lines.proofs.spaces.put_ways.Goals as goal

pub counts-init : goal.counts-init
counts-init c =
    let lines = ways_up_to c.args.namespace c.args.traces c.args.rows.now in
    ap (λ (left : ℕ). c.args.out.now.items ++ lines left 18446744073709551615) (omega arith)

pub returns-then-count-eq0 : goal.returns-then-count-eq0
returns-then-count-eq0 c =
    let rows = c.args.rows.now in
    sym (append-nil c.counts.out.items)
    ∙ ap (λ (lines : List ℕ). c.counts.out.items ++ lines)
    (sym (ways_none c.args.namespace c.args.traces rows (length rows - c.counts.step) c.counts.limit
    (sym c.next_count-count.ensures ∙ omega (arith, c.if-count-eq0.true))))
    ∙ c.counts.invariant

pub counts-preserved : goal.counts-preserved
counts-preserved c =
    let rows = c.args.rows.now in
    let out = c.counts.out.items in
    let left = length rows - (c.counts.step + 1) in
    let lines = ways_up_to c.args.namespace c.args.traces rows in
    let count = next_count c.args.namespace c.counts.limit rows in
    let now = ways_of c.args.namespace c.args.traces count rows in
    let one : length rows - c.counts.step ≡ suc left = omega (arith, c.counts-test.true) in
    ap (λ (said : List ℕ). said ++ lines left (c.next_count-count.result - 1)) c.in_ok-put_ways_of.ensures
    ∙ ap (λ (n : ℕ). (out ++ ways_of c.args.namespace c.args.traces n rows) ++ lines left (n - 1)) c.next_count-count.ensures
    ∙ append_assoc out now (lines left (count - 1))
    ∙ ap (λ (more : List ℕ). out ++ more)
    (sym (ways_some c.args.namespace c.args.traces rows left c.counts.limit (omega (arith, c.next_count-count.ensures, c.if-count-eq0.false))))
    ∙ ap (λ (n : ℕ). out ++ lines n c.counts.limit) (sym one)
    ∙ c.counts.invariant

pub returns : goal.returns
returns c =
    let rows = c.args.rows.now in
    sym (append-nil c.counts.out.items)
    ∙ ap (λ (lines : List ℕ). c.counts.out.items ++ lines) (sym (ways_end c.args.namespace c.args.traces rows c.counts.limit))
    ∙ ap (λ (left : ℕ). c.counts.out.items ++ ways_up_to c.args.namespace c.args.traces rows left c.counts.limit) (omega (arith, c.counts-test.false))
    ∙ c.counts.invariant
