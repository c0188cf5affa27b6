use Rattle.std.proofs.Common.{◌≡◌, ◌<◌, ◌∷◌, [], ℤ, length, get_or, sym, ◌∙◌, ap, subst, rules, arith, length-append, pos, ◌+ℤ◌, FitsSigned, to_z, of_z, w64}
use Rattle.std.specs.Prelude.{int_lt}
use Rattle.std.specs.Int.{int_min, int_max, saturate_signed, w128}
use Rattle.std.proofs.lemmas.Int.{ints, to_z-of_z}
use Rattle.std.proofs.lemmas.List.{get_or_read_under}
use Rattle.std.proofs.lemmas.List.Elements.{All-push}
use Rattle.std.proofs.lemmas.List.Sums.{count_by-le-length, fold_push, sum_by_push}
use Rattle.ioam_delays.specs.Buckets.{IsWithin, is_within}
use Rattle.ioam_delays.proofs.CounterLaws.{Fit, byte_one, least_push, made_of, most_push, one_most, saturated, sum_fits}
use Rattle.ioam_delays.proofs.SignedLaws.{buckets_more, one}
use Rattle.ioam_delays.proofs.counter.Counter.add.Goals as goal

pub returns : goal.returns
returns c = λ delays few counts.
    let old = c.args.self.now in
    let d = c.args.delay in
    let fit : FitsSigned w64 d = c.ranges.delay in
    let is : to_z w64 (of_z w64 d) ≡ d = to_z-of_z w64 d fit in
    let some : 0 < length delays = omega (arith, counts.count_is, old.some) in
    let least_fit : FitsSigned w64 old.least = search rules in
    let most_fit : FitsSigned w64 old.most = search rules in
    let sum_fit : FitsSigned w128 old.sum = search rules in
    let least_is : to_z w64 (of_z w64 c.min-self.result) ≡ int_min old.least d = made_of int_min w64 c.min-self.result old.least d (record { sfits = c.min-self.type_inv }) least_fit fit c.min-self.ensures.value in
    let most_is : to_z w64 (of_z w64 c.max-self.result) ≡ int_max old.most d = made_of int_max w64 c.max-self.result old.most d (record { sfits = c.max-self.type_inv }) most_fit fit c.max-self.ensures.value in
    let added : FitsSigned w128 (old.sum +ℤ d) = sum_fits old.sum d (length delays) few counts.sum_from counts.sum_to fit in
    let more : FitsSigned w128 c.from-2.result = record { sfits = c.from-2.type_inv } in
    let sum_is : to_z w128 (of_z w128 c.saturating_add-self-3.result) ≡ (old.sum +ℤ d) =
    made_of (λ x y. saturate_signed w128 (x +ℤ y)) w128 c.saturating_add-self-3.result old.sum c.from-2.result (record { sfits = c.saturating_add-self-3.type_inv }) sum_fit more
    c.saturating_add-self-3.ensures
    ∙ ap (λ z. saturate_signed w128 (old.sum +ℤ z)) (c.from-2.ensures ∙ is) ∙ saturated (old.sum +ℤ d) added in
    let read : c.index.result.now ≡ get_or old.buckets.items c.bucket-place.result 0 =
    get_or_read_under old.buckets.items c.bucket-place.result 4096 c.index.result.now 0 c.index.ensures c.bucket-place.ensures.exists (sym old.sized) in
    record {
      count_is = omega (arith, c.saturating_add-self.ensures, counts.count_is, length-append delays (d ∷ []));
      negative_is = omega (
        arith,
        c.saturating_add-self-2.ensures,
        c.from.ensures ∙ byte_one _ ∙ ap (λ z. one (int_lt z (pos 0))) is,
        one_most (int_lt d (pos 0)),
        counts.negative_is,
        count_by-le-length (λ z. int_lt z (pos 0)) delays,
        sum_by_push (λ z. one (int_lt z (pos 0))) delays d,
      );
      least_is = least_is ∙ ap (λ z. int_min z d) counts.least_is ∙ sym (least_push delays d some);
      most_is = most_is ∙ ap (λ z. int_max z d) counts.most_is ∙ sym (most_push delays d some);
      sum_is = sum_is ∙ ap (λ z. z +ℤ d) counts.sum_is ∙ sym (fold_push ◌+ℤ◌ (pos 0) delays d);
      in_buckets = buckets_more old.buckets.items delays d c.bucket-place.result c.saturating_add.result old.sized c.bucket-place.ensures.exists
          (let P : ℤ → Type 0 = λ z. IsWithin c.bucket-place.result z in subst P is c.bucket-place.ensures.within) counts.in_buckets
          (omega (
            arith,
            c.saturating_add.ensures,
            read,
            counts.in_buckets c.bucket-place.result c.bucket-place.ensures.exists,
            few,
            count_by-le-length (is_within c.bucket-place.result) delays,
          ));
      fit = All-push Fit delays d counts.fit fit;
      sum_from = omega (arith, ints, sum_is, counts.sum_from, fit, length-append delays (d ∷ []));
      sum_to = omega (arith, ints, sum_is, counts.sum_to, fit, length-append delays (d ∷ []));
    }
