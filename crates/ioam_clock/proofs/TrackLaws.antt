-- Laws of the samples of a node.
use Rattle.std.proofs.Common.{◌≡◌, ℕ, zero, suc, ◌+◌, ◌-◌, ◌<◌, ◌≤◌, Bool, true, false, nat_le, nat_lt, IsTrue, if◌then◌else◌, List, [], ◌∷◌, ◌++◌, length, take, get_or, Option, Some, None, arith, refl, ap, sym}
use Rattle.std.specs.List.{filter, All, AllWithin}
use Rattle.std.proofs.lemmas.List.{length-take-le, get_or-take}
use Rattle.std.proofs.lemmas.List.Elements.{All-push}
use Rattle.std.proofs.Common.{⊎_elim}
use Rattle.std.proofs.lemmas.Bool.{cases_eq}
use Rattle.std.proofs.lemmas.List.{get_or_append_left, get_or_push, length_push}
use Rattle.std.specs.List.Sorted.{IsNonDecreasingBy}
use Rattle.std.proofs.lemmas.Option.{slice_get-get_or}
use Rattle.std.proofs.lemmas.Bool.{leb-true, ltb-true}
use Rattle.std.specs.Option.{option_map_or}
use Rattle.ioam_clock.specs.declared.sample.Sample.{Sample}
use Rattle.ioam_clock.specs.Samples.{last, sample_at, follows, IsSmall, Rise, AreSamples, IsCut}

filter_none : {X : Type 0} (p : X → Bool) (xs : List X) → All (λ x. p x ≡ false) xs → filter p xs ≡ []
filter_none p [] off = refl
filter_none p (x ∷ xs) off = let here : p x ≡ false = off 0 x (omega arith) in rw here (filter_none p xs (λ k d lt. off (suc k) d (omega arith)))

-- where a front passes a test and the rest fails it, the front is what passes
filter_front : {X : Type 0} (p : X → Bool) (xs : List X) (i : ℕ) → i ≤ length xs → AllWithin (λ y. p y ≡ true) xs 0 i
    → AllWithin (λ y. p y ≡ false) xs i (length xs) → filter p xs ≡ take i xs
filter_front p xs zero le on off = filter_none p xs (λ k d lt. off k d (omega arith) lt)
filter_front p [] (suc i) le on off = absurd (omega arith)
filter_front p (x ∷ xs) (suc i) le on off = let here : p x ≡ true = on 0 x (omega arith) (omega arith) in
    rw here (ap (λ ys. x ∷ ys) (filter_front p xs i (omega arith) (λ k d low high. on (suc k) d (omega arith) (omega arith))
    (λ k d low high. off (suc k) d (omega arith) (omega arith))))

last_of_front : {X : Type 0} (xs : List X) (i : ℕ) (d : X) → 0 < i → i ≤ length xs → last (take i xs) ≡ Some (get_or xs (i - 1) d)
last_of_front xs i d some le = let long : length (take i xs) ≡ i = length-take-le i xs le in let below : i - 1 < i = omega arith in
    let fits : i - 1 < length (take i xs) = omega arith in
    rw (long, slice_get-get_or (take i xs) (i - 1) d fits, get_or-take i xs (i - 1) d below)

-- the sample in force, by how many aren't after the time
pub sample_at_count : (xs : List Sample) (time i : ℕ) (d : Sample) → 0 < i → i ≤ length xs
    → IsCut xs time i → sample_at xs time ≡ Some (get_or xs (i - 1) d)
sample_at_count xs time i d some le cut = rw (filter_front (λ (y : Sample). nat_le y.time time) xs i le cut.0 cut.1) (last_of_front xs i d some le)

pub sample_at_none : (xs : List Sample) (time : ℕ)
    → IsCut xs time 0 → sample_at xs time ≡ None
sample_at_none xs time cut = rw (filter_none (λ (y : Sample). nat_le y.time time) xs (λ k d lt. cut.1 k d (omega arith) lt))

-- the last of what isn't after a time isn't after it
pub count_before : (xs : List Sample) (time i : ℕ) (d : Sample) → 0 < i
    → IsCut xs time i → (get_or xs (i - 1) d).time ≤ time
count_before xs time i d some cut = leb-true _ _ (cut.0 (i - 1) d (omega arith) (omega arith))

after_last : (o : Option Sample) (before after : Sample) → o ≡ Some before → option_map_or (λ x. nat_lt x.time after.time) o true ≡ true
    → before.time < after.time
after_last o before after is so = let lt : nat_lt before.time after.time ≡ true = rw is at so in omega (arith, ltb-true _ _ lt)

-- times that rise don't fall
pub Rise-steady : (xs : List Sample) → Rise xs → IsNonDecreasingBy (λ sample. sample.time) xs
Rise-steady xs rise i j d le lt = ⊎_elim
    (λ same. omega (arith, ap (λ k. (get_or xs k d).time) same))
    (λ other. omega (arith, rise i j d (omega arith) lt))
    (cases_eq i j)

-- a sample behind others whose times rise
pub Rise-push : (xs : List Sample) (s : Sample) → Rise xs → IsTrue (follows xs s) → Rise (xs ++ s ∷ [])
Rise-push xs s rise so i j d lt within =
    let long : length (xs ++ s ∷ []) ≡ length xs + 1 = length_push xs s in
    let front : get_or (xs ++ s ∷ []) i d ≡ get_or xs i d = get_or_append_left xs (s ∷ []) d i (omega arith) in
    ⊎_elim
    (λ at_end. ⊎_elim
    (λ near. omega (arith, ap (λ (x : Sample). x.time) front, ap (λ (x : Sample). x.time) (get_or_push xs s d j (sym at_end)), ap (λ k. (get_or xs k d).time) near, last_before d (omega arith)))
    (λ far. omega (arith, ap (λ (x : Sample). x.time) front, ap (λ (x : Sample). x.time) (get_or_push xs s d j (sym at_end)), rise i (length xs - 1) d (omega arith) (omega arith), last_before d (omega arith)))
    (cases_eq i (length xs - 1)))
    (λ inside. omega (arith, ap (λ (x : Sample). x.time) front, ap (λ (x : Sample). x.time) (get_or_append_left xs (s ∷ []) d j (omega arith)), rise i j d lt (omega arith)))
    (cases_eq j (length xs)) where
      last_before : (d : Sample) → 0 < length xs → (get_or xs (length xs - 1) d).time < s.time
      last_before d some = after_last (last xs) (get_or xs (length xs - 1) d) s (slice_get-get_or xs (length xs - 1) d (omega arith)) so

-- one sample more, where there was room for it
pub AreSamples-pushed : (xs ys : List Sample) (s : Sample) (b : Bool) → AreSamples xs → IsTrue (follows xs s) → IsSmall s
    → ys ≡ (if b then xs ++ s ∷ [] else xs) → AreSamples ys
AreSamples-pushed xs ys s false are so small is = rw is are
AreSamples-pushed xs ys s true are so small is = rw is (record {
  rising = Rise-push xs s are.rising so;
  small = All-push IsSmall xs s are.small small;
})
