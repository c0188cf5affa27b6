-- Traces are counted one after the other.
use Rattle.std.proofs.Common.{◌≡◌, ℕ, ◌+◌, ◌<◌, ◌≢◌, ◌^◌, List, [], ◌∷◌, ◌++◌, length, drop, map, filter, Bool, true, false, cond, Option, refl, sym, ◌∙◌, ap, subst, arith, append_assoc, append-nil, length-append}
use Rattle.std.proofs.lemmas.List.{map-append}
use Rattle.std.proofs.lemmas.List.Elements.{filter-append, filter_map-append}
use Rattle.std.proofs.lemmas.List.Sums.{sum_by-append}
use Rattle.ioam_delay_counts.specs.Counted.{weight}
use Rattle.ioam_delay_counts.specs.Courses.{Course}
use Rattle.ioam_delay_traces.specs.Totals.{AreTotals, courses_of}
use Rattle.ioam_delay_traces.specs.Traces.{course_of}
use Rattle.ioam_delay_traces.specs.declared.totals.Totals.{Totals}
use Rattle.ioam_ip.specs.Chain.{IsSound}
use Rattle.ioam_ip.specs.HeadsLeft.{AreHeads}
use Rattle.ioam_ip.specs.Options.{AreOptions, Item}
use Rattle.ioam_ip.specs.OptionsLeft.{options_from}
use Rattle.ioam_ip.specs.declared.chain.Head.{Head}
use Rattle.ioam_ip.proofs.OptionsLeftLaws.{all_from}
use Rattle.ioam_report_lines.specs.TracesText.{is_trace, traces_from, traces_in, traces_of}
use Rattle.ioam_report_lines.proofs.TracesLaws.{the_heads, traces_from-next}
use Rattle.ioam_delay_traces.specs.Shown.{Grows, IsLight, option_course}

-- the first of few are few
pub light_first : (xs ys : List (Option Course)) → IsLight (xs ++ ys) → IsLight xs
light_first xs ys light = record {
  elements = omega (arith, light.elements, ap weight (filter_map-append (λ (one : Option Course). one) xs ys), sum_by-append (λ (course : Course). length course.sights + 1) (courses_of xs) (courses_of ys));
  traces = omega (arith, light.traces, length-append xs ys);
}

pub grows_none : (t : Totals) → Grows [] t t
grows_none t = λ seen light are. subst (λ (all : List (Option Course)). AreTotals all t) (sym (append-nil seen)) are

pub grows_more : (xs ys : List (Option Course)) (t u v : Totals) → Grows xs t u → Grows ys u v → Grows (xs ++ ys) t v
grows_more xs ys t u v first second = λ seen light are.
    let here : IsLight ((seen ++ xs) ++ ys) = subst IsLight (sym (append_assoc seen xs ys)) light in
    subst (λ (all : List (Option Course)). AreTotals all v) (append_assoc seen xs ys) (second (seen ++ xs) here (first seen (light_first (seen ++ xs) ys here) are))

-- by what is counted of one
pub grows_one : (one : Option Course) (t u : Totals)
    → ((seen : List (Option Course)) → weight (courses_of (seen ++ one ∷ [])) < 2 ^ 48 → length seen < 2 ^ 48 → AreTotals seen t → AreTotals (seen ++ one ∷ []) u) → Grows (one ∷ []) t u
grows_one one t u counts = λ seen light are. counts seen light.elements (omega (arith, light.traces, length-append seen (one ∷ []))) are

-- ---- the loops: those that were counted, and those that are left

-- all were counted
pub grown_all : (done rest all : List (Option Course)) (t u : Totals) → done ++ rest ≡ all → rest ≡ [] → Grows done t u → Grows all t u
grown_all done rest all t u lead none grown =
    subst (λ (xs : List (Option Course)). Grows xs t u) (sym (append-nil done) ∙ ap (λ (xs : List (Option Course)). done ++ xs) (sym none) ∙ lead) grown

-- some more are
pub led_on : (done more rest left all : List (Option Course)) → left ≡ more ++ rest → done ++ left ≡ all → (done ++ more) ++ rest ≡ all
led_on done more rest left all left_is lead = append_assoc done more rest ∙ ap (λ (xs : List (Option Course)). done ++ xs) (sym left_is) ∙ lead

-- the traces of the options from one on
passes_by : (b : Bool) (x : Item) (xs : List Item) → b ≡ true → cond b (x ∷ xs) xs ≡ x ∷ xs
passes_by true x xs is = refl
passes_by false x xs is = absurd (cc is)

fails_by : (b : Bool) (x : Item) (xs : List Item) → b ≡ false → cond b (x ∷ xs) xs ≡ xs
fails_by true x xs is = absurd (cc is)
fails_by false x xs is = refl

module _ (units limit : ℕ) where
  pub option_taken : (os rest : List Item) (o : Item) → os ≡ o ∷ rest
      → map (option_course units limit) (filter is_trace os)
      ≡ map (option_course units limit) (filter is_trace (o ∷ [])) ++ map (option_course units limit) (filter is_trace rest)
  option_taken os rest o is =
      ap (λ (xs : List Item). map (option_course units limit) (filter is_trace xs)) is
      ∙ ap (λ (xs : List Item). map (option_course units limit) xs) (filter-append is_trace (o ∷ []) rest)
      ∙ map-append (option_course units limit) (filter is_trace (o ∷ [])) (filter is_trace rest)

  -- an option that is a trace, and one that isn't
  pub grows_trace : (o : Item) (octets : List ℕ) (t u : Totals) → is_trace o ≡ true → octets ≡ drop 2 o.body
      → ((seen : List (Option Course)) → weight (courses_of (seen ++ course_of units limit octets ∷ [])) < 2 ^ 48 → length seen < 2 ^ 48 → AreTotals seen t
      → AreTotals (seen ++ course_of units limit octets ∷ []) u)
      → Grows (map (option_course units limit) (filter is_trace (o ∷ []))) t u
  grows_trace o octets t u trace octets_are counts =
      subst (λ (xs : List Item). Grows (map (option_course units limit) xs) t u) (sym (passes_by (is_trace o) o [] trace))
      (subst (λ (xs : List ℕ). Grows (course_of units limit xs ∷ []) t u) octets_are (grows_one (course_of units limit octets) t u counts))

  pub grows_other : (o : Item) (t : Totals) → is_trace o ≡ false → Grows (map (option_course units limit) (filter is_trace (o ∷ []))) t t
  grows_other o t other = subst (λ (xs : List Item). Grows (map (option_course units limit) xs) t t) (sym (fails_by (is_trace o) o [] other)) (grows_none t)

  pub options_all : (head : List ℕ) (os : List Item) → AreOptions head os
      → map (option_course units limit) (filter is_trace os) ≡ map (option_course units limit) (filter is_trace (options_from (length head) head 2))
  options_all head os are = ap (λ (xs : List Item). map (option_course units limit) (filter is_trace xs)) (sym (all_from head os are))

  pub head_taken : (p : List ℕ) (hs rest : List Head) (head : Head) → hs ≡ head ∷ rest → head.value ≢ 41
      → map (option_course units limit) (traces_from p hs) ≡ map (option_course units limit) (traces_in p head) ++ map (option_course units limit) (traces_from p rest)
  head_taken p hs rest head is other =
      ap (λ (xs : List Item). map (option_course units limit) xs) (traces_from-next p hs rest head is other) ∙ map-append (option_course units limit) (traces_in p head) (traces_from p rest)

  pub heads_all : (p : List ℕ) (hs : List Head) → IsSound p → AreHeads p hs
      → map (option_course units limit) (traces_from p hs) ≡ map (option_course units limit) (traces_of p)
  unfolding traces_of
  heads_all p hs sound are = ap (λ (xs : List Head). map (option_course units limit) (traces_from p xs)) (the_heads p hs sound are)
