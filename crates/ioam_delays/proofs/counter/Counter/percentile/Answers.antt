use Rattle.std.proofs.Common.{◌≡◌, ◌<◌, ◌+◌, ◌-◌, ◌*◌, ◌≤◌, ◌^◌, List, ℤ, drop, rules, arith, ap, subst, ℕ, ◌∙◌, sym, FitsSigned, to_z, of_z, w64}
use Rattle.std.specs.Int.{int_min, w128}
use Rattle.std.proofs.lemmas.List.{drop_all, get_or_read_under}
use Rattle.std.proofs.lemmas.Int.{to_z-of_z}
use Rattle.std.proofs.lemmas.Nat.{mul-le}
use Rattle.ioam_delays.specs.Buckets.{high, low}
use Rattle.ioam_delays.specs.Counters.{count_below, rank, reached_at}
use Rattle.ioam_delays.proofs.CounterLaws.{chosen, chosen_none, found, made_of, near, never_short, none_below, not_full, not_reached, passed_more, reached, walked_on, walked_to}
use Rattle.ioam_delays.proofs.counter.Counter.percentile.Goals as goal

-- the least of the end of the bucket and the greatest of all
pub min_is : (g m r : ℤ) (h : ℤ) (i : ℕ) → FitsSigned w128 g → FitsSigned w128 m → FitsSigned w128 r → g ≡ high i → m ≡ h
    → r ≡ int_min (to_z w128 (of_z w128 g)) (to_z w128 (of_z w128 m)) → to_z w128 (of_z w128 r) ≡ int_min (high i) h
min_is g m r h i g_fits m_fits r_fits g_is m_is is =
    made_of int_min w128 r g m r_fits g_fits m_fits is ∙ ap (λ (z : ℤ). int_min z m) g_is ∙ ap (λ (z : ℤ). int_min (high i) z) m_is

-- what the walk answers
the_least : (c : goal.After-min) → to_z w128 (of_z w128 c.min.result) ≡ int_min (high c.buckets.number) c.args.self.now.most
the_least c =
    let most_fits : FitsSigned w64 c.args.self.now.most = search rules in
    min_is c.greatest.result c.from-then-from-rank.result c.min.result c.args.self.now.most c.buckets.number (record { sfits = c.greatest.type_inv })
    (record { sfits = c.from-then-from-rank.type_inv }) (record { sfits = c.min.type_inv }) c.greatest.ensures
    (c.from-then-from-rank.ensures ∙ to_z-of_z w64 c.args.self.now.most most_fits) c.min.ensures.value

pub returns-then-from-rank-clause-value : goal.returns-then-from-rank-clause-value
returns-then-from-rank-clause-value c =
    let old = c.args.self.now in
    let i = c.buckets.number in
    let within : i < 4096 = omega (arith, c.buckets-test.true) in
    let read = get_or_read_under old.buckets.items i 4096 c.index.result.now 0 c.index.ensures within (sym old.sized) in
    let product : c.from.result * c.from-2.result ≡ old.count * c.args.per = ap (λ n. n * c.from-2.result) c.from.ensures ∙ ap (λ n. old.count * n) c.from-2.ensures in
    let enough : rank c.args.per old.count ≤ c.saturating_add-passed.result =
    reached c.args.per old.count c.saturating_add-passed.result (omega (arith, product, c.if-from-rank.true, c.from-in-buckets.ensures)) in
    chosen (reached_at (rank c.args.per old.count) old.buckets.items) i old.most (to_z w128 (of_z w128 c.min.result))
    (walked_to old.buckets.items i c.index.result.now (rank c.args.per old.count) c.buckets.passed _ (omega (arith, within, old.sized)) read
    (omega (arith, enough, c.saturating_add-passed.ensures)) c.buckets.invariant.at)
    within (the_least c)

pub returns-then-from-rank-clause-is : goal.returns-then-from-rank-clause-is
returns-then-from-rank-clause-is c = λ delays few counts.
    let old = c.args.self.now in
    let i = c.buckets.number in
    let within : i < 4096 = omega (arith, c.buckets-test.true) in
    let before = c.buckets.invariant.passed delays few counts in
    let read = get_or_read_under old.buckets.items i 4096 c.index.result.now 0 c.index.ensures within (sym old.sized) in
    let product : c.from.result * c.from-2.result ≡ old.count * c.args.per = ap (λ n. n * c.from-2.result) c.from.ensures ∙ ap (λ n. old.count * n) c.from-2.ensures in
    found delays i c.args.per old.count c.buckets.passed c.saturating_add-passed.result _ old.most within counts.count_is counts.most_is before
    (passed_more delays i c.buckets.passed c.index.result.now _ before (read ∙ counts.in_buckets i within) few c.saturating_add-passed.ensures)
    c.buckets.invariant.few (omega (arith, product, c.if-from-rank.true, c.from-in-buckets.ensures)) (the_least c)

pub returns-then-from-rank-clause-near : goal.returns-then-from-rank-clause-near
returns-then-from-rank-clause-near c = λ delays value few counts at.
    near delays c.args.per value _ (returns-then-from-rank-clause-is c delays few counts) at

pub buckets-init : goal.buckets-init
buckets-init c = record {
  few = omega (arith, mul-le 1 1 c.args.self.now.count c.args.per c.args.self.now.some c.requires.some);
  at = let none : rank c.args.per c.args.self.now.count - 0 ≡ rank c.args.per c.args.self.now.count = omega arith in
      omega (arith, ap (λ (n : ℕ). reached_at n c.args.self.now.buckets.items) none);
  passed = λ delays few counts. sym (none_below delays counts.fit);
}

pub buckets-preserved : goal.buckets-preserved
buckets-preserved c =
    let old = c.args.self.now in
    let i = c.buckets.number in
    let within : i < 4096 = omega (arith, c.buckets-test.true) in
    let read = get_or_read_under old.buckets.items i 4096 c.index.result.now 0 c.index.ensures within (sym old.sized) in
    let product : c.from.result * c.from-2.result ≡ old.count * c.args.per = ap (λ n. n * c.from-2.result) c.from.ensures ∙ ap (λ n. old.count * n) c.from-2.ensures in
    let count_fits : old.count < 2 ^ 64 = search rules in
    let few : 100 * c.saturating_add-passed.result < old.count * c.args.per = omega (arith, product, c.if-from-rank.false, c.from-in-buckets.ensures) in
    record {
      few = few;
      at = walked_on old.buckets.items i c.index.result.now (rank c.args.per old.count) c.buckets.passed c.saturating_add-passed.result _
          (omega (arith, within, old.sized)) read
          (not_full c.buckets.passed c.index.result.now old.count c.args.per _ count_fits c.requires.most c.saturating_add-passed.ensures few)
          (not_reached c.args.per old.count c.saturating_add-passed.result few) c.buckets.invariant.at;
      passed = λ delays short counts. passed_more delays i c.buckets.passed c.index.result.now _ (c.buckets.invariant.passed delays short counts)
          (read ∙ counts.in_buckets i within) short c.saturating_add-passed.ensures;
    }

pub returns-clause-value : goal.returns-clause-value
returns-clause-value c =
    let old = c.args.self.now in
    let end : c.buckets.number ≡ 4096 = omega arith in
    let most_fits : FitsSigned w64 old.most = search rules in
    chosen_none (reached_at (rank c.args.per old.count) old.buckets.items) old.most _
    (c.buckets.invariant.at ∙ ap (λ (n : ℕ). n + reached_at (rank c.args.per old.count - c.buckets.passed) (drop n old.buckets.items)) end
    ∙ ap (λ (ns : List ℕ). 4096 + reached_at (rank c.args.per old.count - c.buckets.passed) ns) (drop_all 4096 old.buckets.items (omega (arith, old.sized))))
    (to_z-of_z w128 c.from-3.result (record { sfits = c.from-3.type_inv }) ∙ c.from-3.ensures ∙ to_z-of_z w64 old.most most_fits)

pub returns-clause-is : goal.returns-clause-is
returns-clause-is c = λ delays few counts.
    let end : c.buckets.number ≡ 4096 = omega arith in
    let P : ℕ → Type 0 = λ n. c.buckets.passed ≡ count_below (low n) delays in
    absurd (never_short delays c.args.per c.args.self.now.count c.buckets.passed counts.fit counts.count_is c.requires.most
    (subst P end (c.buckets.invariant.passed delays few counts)) c.buckets.invariant.few)

pub returns-clause-near : goal.returns-clause-near
returns-clause-near c = λ delays value few counts at.
    near delays c.args.per value _ (returns-clause-is c delays few counts) at
