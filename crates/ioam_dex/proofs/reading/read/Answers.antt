use Rattle.std.proofs.Common.{◌+◌, ◌≤◌, cond, nat_lt, length, List, ℕ, sym, subst, rules, arith, get_or}
use Rattle.std.proofs.lemmas.Bool.Decides.{nat_tests}
use Rattle.ioam_dex.specs.Numbers.{numbers_size}
use Rattle.ioam_dex.specs.declared.direct.Direct.{Direct}
use Rattle.ioam_dex.specs.Direct.{Begins, wanted}
use Rattle.ioam_dex.proofs.DirectLaws.{Begins-direct_at, ReadsAgain-Begins}
use Rattle.ioam_dex.proofs.reading.read.Goals as goal

-- octets that have all that they want have what their extension flags want
fits : (octets : List ℕ) → wanted octets ≤ length octets → 8 + numbers_size (get_or octets 3 0) ≤ length octets
fits octets = fits_by (numbers_size (get_or octets 3 0)) (length octets)
  where
    fits_by : (size long : ℕ) → cond (nat_lt long 8) 8 (8 + size) ≤ long → 8 + size ≤ long
    fits_by size long enough = grind (arith, nat_tests)

pub returns-clause-reads : goal.returns-clause-reads
returns-clause-reads c =
    let enough : wanted c.args.octets.now ≤ length c.args.octets.now = omega arith in
    let P : Direct → Type 0 = λ d. Begins d c.args.octets.now in
    (subst P (sym c.value.ensures) (Begins-direct_at c.args.octets.now (λ i. omega (arith, c.type_inv.octets i)) (fits c.args.octets.now enough)), enough)

pub returns-clause-again : goal.returns-clause-again
returns-clause-again c =
    let enough : wanted c.args.octets.now ≤ length c.args.octets.now = omega arith in
    let P : Direct → Type 0 = λ d. Begins d c.args.octets.now in
    let begins = subst P (sym c.value.ensures) (Begins-direct_at c.args.octets.now (λ i. omega (arith, c.type_inv.octets i)) (fits c.args.octets.now enough)) in
    ReadsAgain-Begins c.args.octets.now c.value.result (record {
      namespace_below = search rules;
      flags_below = search rules;
      ext_below = search rules;
      kind_below = search rules;
      flow_below = search rules;
      seq_below = search rules;
    }) begins
