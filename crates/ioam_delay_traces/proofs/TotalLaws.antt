-- What is counted of traces, with one more.
use Rattle.std.proofs.Common.{◌≡◌, ℕ, ◌+◌, ◌<◌, ◌≤◌, ◌/◌, ◌%◌, ◌^◌, min, Bool, true, false, cond, List, [], ◌∷◌, ◌++◌, length, flat_map, take, get_or, Option, Some, None, refl, sym, ◌∙◌, ap, subst, arith, length-append, append_assoc, append-nil}
use mir.Val.{bool_byte}
use Rattle.std.specs.Prelude.{◌==◌}
use Rattle.std.specs.List.{count_by}
use Rattle.std.specs.Option.{option_to_list}
use Rattle.std.proofs.lemmas.Bool.Decides.{nat_tests}
use Rattle.std.proofs.lemmas.List.{take_more}
use Rattle.std.proofs.lemmas.List.Sums.{count_by-le-length, sum_by_push}
use Rattle.ioam_delays.specs.declared.sight.Sight.{Sight}
use Rattle.ioam_delay_counts.specs.Counted.{AreCounted, weight}
use Rattle.ioam_delay_counts.specs.Courses.{Course}
use Rattle.ioam_delay_counts.proofs.CountLaws.{kept_few, kept_more, tested_more}
use Rattle.ioam_delay_counts.proofs.SumLaws.{of_few, of_more, weight_more}
use Rattle.ioam_delay_traces.specs.Totals.{AreFractions, AreTotals, courses_of, fractions_in, is_bad}
use Rattle.ioam_delay_traces.specs.declared.totals.Totals.{Totals}

-- the fractions of one element more
pub fractions_more : (seen : List ℕ) (sights : List Sight) (at : ℕ) (d : Sight) → at < length sights
    → (seen ++ fractions_in (take at sights)) ++ option_to_list (get_or sights at d).fraction ≡ seen ++ fractions_in (take (at + 1) sights)
fractions_more seen sights at d within =
    append_assoc seen (fractions_in (take at sights)) (option_to_list (get_or sights at d).fraction)
    ∙ ap (λ (fs : List ℕ). seen ++ fs) (sym (kept_more (λ (s : Sight). s.fraction) (take at sights) (get_or sights at d)) ∙ ap fractions_in (sym (take_more sights at d within)))

pub fractions_few : (sights : List Sight) → length (fractions_in sights) ≤ length sights
fractions_few sights = kept_few (λ (s : Sight). s.fraction) sights

-- Overflow is the highest of the four flags
pub overflow_is : (b : Bool) (flags word : ℕ) → (b ≡ true → flags / 8 ≡ 1) → (flags / 8 ≡ 1 → b ≡ true) → flags ≡ word / 128 % 16 → b ≡ (word / 1024 % 2 == 1)
overflow_is true flags word set clear is = sym (yes (word / 1024 % 2) (omega (arith, set refl, is))) where
  yes : (n : ℕ) → n ≡ 1 → (n == 1) ≡ true
  yes n h = grind (arith, nat_tests)
overflow_is false flags word set clear is = sym (no (word / 1024 % 2) (λ one. absurd (contrary (clear (omega (arith, is, one)))))) where
  no : (n : ℕ) → (n ≡ 1 → ⊥) → (n == 1) ≡ false
  no n h = grind (arith, nat_tests)

  contrary : false ≡ true → ⊥
  contrary h = cc

-- something that is no trace
pub bad_more : (seen : List (Option Course)) (one : Option Course) (t u : Totals) → one ≡ None → length seen < 2 ^ 48 → AreTotals seen t
    → u.sums ≡ t.sums → u.traces ≡ t.traces → u.overflow ≡ t.overflow → u.fractions ≡ t.fractions → u.bad ≡ min (t.bad + 1) 18446744073709551615 → AreTotals (seen ++ one ∷ []) u
bad_more seen one t u is short are sums traces overflow fractions bad =
    subst (λ (o : Option Course). AreTotals (seen ++ o ∷ []) u) (sym is) (record {
      sums_are = subst (λ (cs : List Course). AreCounted cs u.sums) (sym same) (subst (λ s. AreCounted (courses_of seen) s) (sym sums) are.sums_are);
      traces_is = traces ∙ are.traces_is ∙ ap (λ (cs : List Course). length cs) (sym same);
      overflow_is = overflow ∙ are.overflow_is ∙ ap (λ (cs : List Course). count_by (λ (course : Course). course.overflow) cs) (sym same);
      bad_is = omega (arith, bad, are.bad_is, short, count_by-le-length is_bad seen, sum_by_push (λ (o : Option Course). cond (is_bad o) 1 0) seen None);
      fractions_are = subst (λ (cs : List Course). AreFractions (flat_map (λ (course : Course). fractions_in course.sights) cs) u.fractions) (sym same)
          (subst (λ f. AreFractions (flat_map (λ (course : Course). fractions_in course.sights) (courses_of seen)) f) (sym fractions) are.fractions_are);
    }) where
      same : courses_of (seen ++ None ∷ []) ≡ courses_of seen
      same = kept_more (λ (o : Option Course). o) seen None ∙ append-nil (courses_of seen)

-- one trace more
pub total_more : (seen : List (Option Course)) (course : Course) (one : Option Course) (t u : Totals) (b : Bool) (r : ℕ) → one ≡ Some course → weight (courses_of (seen ++ one ∷ [])) < 2 ^ 48
    → length seen < 2 ^ 48 → AreTotals seen t
    → ((courses : List Course) → weight (courses ++ course ∷ []) < 2 ^ 48 → AreCounted courses t.sums → AreCounted (courses ++ course ∷ []) u.sums)
    → u.traces ≡ min (t.traces + 1) 18446744073709551615 → b ≡ course.overflow → r ≡ bool_byte b → u.overflow ≡ min (t.overflow + r) 18446744073709551615 → u.bad ≡ t.bad
    → ((fs : List ℕ) → length fs + length course.sights < 2 ^ 48 → AreFractions fs t.fractions → AreFractions (fs ++ fractions_in course.sights) u.fractions)
    → AreTotals (seen ++ one ∷ []) u
total_more seen course one t u b r is light short are sums traces b_is r_is overflow bad fractions =
    subst (λ (o : Option Course). AreTotals (seen ++ o ∷ []) u) (sym is) (record {
      sums_are = subst (λ (cs : List Course). AreCounted cs u.sums) (sym more) (sums (courses_of seen) lighter are.sums_are);
      traces_is = omega (arith, traces, are.traces_is, few, ap (λ (cs : List Course). length cs) more, length-append (courses_of seen) (course ∷ []));
      overflow_is = tested_more (λ (c : Course). c.overflow) (courses_of seen) course t.overflow r u.overflow b are.overflow_is b_is r_is overflow few
          ∙ ap (λ (cs : List Course). count_by (λ (c : Course). c.overflow) cs) (sym more);
      bad_is = omega (arith, bad, are.bad_is, sum_by_push (λ (o : Option Course). cond (is_bad o) 1 0) seen (Some course));
      fractions_are = subst (λ (fs : List ℕ). AreFractions fs u.fractions)
          (sym (of_more (λ (c : Course). fractions_in c.sights) (courses_of seen) course) ∙ ap (λ (cs : List Course). flat_map (λ (c : Course). fractions_in c.sights) cs) (sym more))
          (fractions (flat_map (λ (c : Course). fractions_in c.sights) (courses_of seen)) not_many are.fractions_are);
    }) where
      more : courses_of (seen ++ Some course ∷ []) ≡ courses_of seen ++ course ∷ []
      more = kept_more (λ (o : Option Course). o) seen (Some course)

      lighter : weight (courses_of seen ++ course ∷ []) < 2 ^ 48
      lighter = subst (λ (cs : List Course). weight cs < 2 ^ 48) (ap (λ (o : Option Course). courses_of (seen ++ o ∷ [])) is ∙ more) light

      few : length (courses_of seen) < 2 ^ 48
      few = omega (arith, short, kept_few (λ (o : Option Course). o) seen)

      not_many : length (flat_map (λ (c : Course). fractions_in c.sights) (courses_of seen)) + length course.sights < 2 ^ 48
      not_many = omega (arith, lighter, weight_more (courses_of seen) course, of_few (λ (c : Course). fractions_in c.sights) (λ (c : Course). fractions_few c.sights) (courses_of seen))
