-- What is counted of all traces, with one trace more.
use Rattle.std.proofs.Common.{◌≡◌, ℕ, suc, ◌+◌, ◌≤◌, false, List, [], ◌∷◌, ◌++◌, length, flat_map, ℤ, Option, refl, ◌∙◌, ap, arith, length-append, append-nil}
use Rattle.std.specs.Prelude.{◌==◌}
use Rattle.std.proofs.lemmas.Bool.Decides.{nat_tests}
use Rattle.std.proofs.lemmas.List.Concat.{flat_map-append}
use Rattle.std.proofs.lemmas.List.Sums.{sum_by-cons, sum_by_push}
use Rattle.ioam_delays.specs.declared.sight.Sight.{Sight}
use Rattle.ioam_delay_counts.specs.Counted.{AreWays, hops_in, nodes_in, weight}
use Rattle.ioam_delay_counts.specs.Courses.{Course, IsWay, is_empty, nodes_from}
use Rattle.ioam_delay_counts.specs.declared.keys.WayKey.{WayKey}
use Rattle.ioam_delay_counts.proofs.CourseLaws.{hops_few}

pub ways_length : (courses : List Course) (ways : List (WayKey × Option ℤ)) → AreWays courses ways → length ways ≡ length courses
ways_length [] [] are = refl
ways_length [] (way ∷ ways) are = absurd are
ways_length (course ∷ courses) [] are = absurd are
ways_length (course ∷ courses) (way ∷ ways) are = omega (arith, ways_length courses ways are.1)

pub ways_more : (courses : List Course) (ways : List (WayKey × Option ℤ)) (course : Course) (way : WayKey) (delay : Option ℤ) → AreWays courses ways → IsWay course way delay
    → AreWays (courses ++ course ∷ []) (ways ++ (way, delay) ∷ [])
ways_more [] [] course way delay are is = (is, tt)
ways_more [] (w ∷ ways) course way delay are is = absurd are
ways_more (c ∷ courses) [] course way delay are is = absurd are
ways_more (c ∷ courses) (w ∷ ways) course way delay are is = (are.0, ways_more courses ways course way delay are.1 is)

-- what stands behind each other for each trace
pub of_more : {Y : Type 0} (f : Course → List Y) (courses : List Course) (course : Course) → flat_map f (courses ++ course ∷ []) ≡ flat_map f courses ++ f course
of_more {Y} f courses course =
    flat_map-append f courses (course ∷ []) ∙ ap (λ (ys : List Y). flat_map f courses ++ ys) (append-nil (f course))

pub of_few : {Y : Type 0} (f : Course → List Y) → ((course : Course) → length (f course) ≤ length course.sights) → (courses : List Course)
    → length (flat_map f courses) + length courses ≤ weight courses
of_few f few [] = omega arith
of_few f few (course ∷ courses) =
    omega (arith, length-append (f course) (flat_map f courses), few course, of_few f few courses, sum_by-cons (λ (c : Course). length c.sights + 1) course courses)

nodes_few : (namespace : ℕ) (sights : List Sight) → length (nodes_from namespace sights) ≤ length sights
nodes_few namespace [] = omega arith
nodes_few namespace (sight ∷ sights) = omega (arith, nodes_few namespace sights)

pub hops_weight : (courses : List Course) → length (flat_map hops_in courses) + length courses ≤ weight courses
hops_weight courses = of_few hops_in (λ (course : Course). hops_few course.namespace course.sights) courses

pub nodes_weight : (courses : List Course) → length (flat_map nodes_in courses) + length courses ≤ weight courses
nodes_weight courses = of_few nodes_in (λ (course : Course). nodes_few course.namespace course.sights) courses

pub weight_more : (courses : List Course) (course : Course) → weight (courses ++ course ∷ []) ≡ weight courses + (length course.sights + 1)
weight_more courses course = sum_by_push (λ (c : Course). length c.sights + 1) courses course

not_zero : (n : ℕ) → (suc n == 0) ≡ false
not_zero n = grind (arith, nat_tests)

pub empty_is : (sights : List Sight) → (length sights == 0) ≡ is_empty sights
empty_is [] = refl
empty_is (sight ∷ sights) = not_zero (length sights)
