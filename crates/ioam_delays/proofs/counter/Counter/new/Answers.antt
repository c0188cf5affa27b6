use Rattle.std.proofs.Common.{◌≡◌, [], ℤ, length, replicate, take, ◌++◌, ◌-◌, vec_len, refl, ◌∙◌, ap, subst, arith, pos, FitsSigned, to_z, of_z, w64}
use Rattle.std.specs.Prelude.{int_lt}
use Rattle.std.specs.Int.{w128}
use Rattle.std.proofs.lemmas.Int.{ints, to_z-of_z}
use Rattle.std.proofs.lemmas.List.Elements.{All-cons, All-nil}
use Rattle.ioam_delays.specs.Buckets.{IsWithin}
use Rattle.ioam_delays.proofs.CounterLaws.{Fit, byte_one, first_slots}
use Rattle.ioam_delays.proofs.SignedLaws.{buckets_more, one}
use Rattle.ioam_delays.proofs.counter.Counter.new.Goals as goal

pub returns : goal.returns
returns c =
    let d = c.args.delay in
    let fit : FitsSigned w64 d = c.ranges.delay in
    let is : to_z w64 (of_z w64 d) ≡ d = to_z-of_z w64 d fit in
    let more : FitsSigned w128 c.from-2.result = record { sfits = c.from-2.type_inv } in
    let sum_is : to_z w128 (of_z w128 c.from-2.result) ≡ d = to_z-of_z w128 c.from-2.result more ∙ c.from-2.ensures ∙ is in
    let slots : c.resize.new.self.items ≡ replicate 4096 0 =
    c.in_ok-resize.ensures.items ∙ ap (λ xs. take 4096 xs ++ replicate (4096 - vec_len c.new-buckets.result) 0) c.new-buckets.ensures.items
    ∙ ap (λ n. replicate (4096 - n) 0) c.new-buckets.ensures.len in
    record {
      count_is = refl;
      negative_is = omega (arith, c.from.ensures ∙ byte_one _ ∙ ap (λ z. one (int_lt z (pos 0))) is);
      least_is = is;
      most_is = is;
      sum_is = omega (arith, ints, sum_is);
      in_buckets = buckets_more c.resize.new.self.items [] d c.bucket.result 1 (ap (λ xs. length xs) slots) c.bucket.ensures.exists
          (let P : ℤ → Type 0 = λ z. IsWithin c.bucket.result z in subst P is c.bucket.ensures.within)
          (λ k below. first_slots c.resize.new.self.items k slots below)
          (omega (arith, first_slots c.resize.new.self.items c.bucket.result slots c.bucket.ensures.exists));
      fit = All-cons Fit d [] fit (All-nil Fit);
      sum_from = omega (arith, ints, sum_is, fit);
      sum_to = omega (arith, ints, sum_is, fit);
    }
