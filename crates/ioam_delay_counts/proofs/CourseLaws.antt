-- What is counted of a trace, element by element.
use Rattle.std.proofs.Common.{◌≡◌, ℕ, zero, suc, ◌+◌, ◌-◌, ◌<◌, ◌≤◌, ℤ, List, [], ◌∷◌, ◌++◌, length, get_or, take, Option, None, refl, sym, ◌∙◌, ap, arith, append_assoc}
use Rattle.ioam_delays.specs.Sights.{between, gap_of}
use Rattle.ioam_delays.specs.declared.sight.Gap.{Gap}
use Rattle.ioam_delays.specs.declared.sight.Sight.{Sight}
use Rattle.ioam_delay_counts.specs.Courses.{hop_passed, hops_from, last_hops, last_stamp, whole_delay}
use Rattle.ioam_delay_counts.specs.declared.keys.HopKey.{HopKey}

-- the last element
last_hops_at : (before : Option ℕ) (x : Sight) (xs : List Sight) (d : Sight) → last_hops before (x ∷ xs) ≡ (get_or (x ∷ xs) (length xs) d).hops
last_hops_at before x [] d = refl
last_hops_at before x (y ∷ ys) d = last_hops_at x.hops y ys d

pub last_is : (xs : List Sight) (d : Sight) → (length xs ≡ 0 → ⊥) → (get_or xs (length xs - 1) d).hops ≡ last_hops None xs
last_is [] d some = absurd (some refl)
last_is (x ∷ xs) d some = ap (λ (n : ℕ). (get_or (x ∷ xs) n d).hops) the_index ∙ sym (last_hops_at None x xs d) where
  the_index : length (x ∷ xs) - 1 ≡ length xs
  the_index = omega arith

last_stamp_at : (x : Sight) (xs : List Sight) (d : Sight) → last_stamp x.stamp xs ≡ (get_or (x ∷ xs) (length xs) d).stamp
last_stamp_at x [] d = refl
last_stamp_at x (y ∷ ys) d = last_stamp_at y ys d

pub whole_is : (xs : List Sight) (d : Sight) → 2 ≤ length xs → between (get_or xs 0 d).stamp (get_or xs (length xs - 1) d).stamp ≡ whole_delay xs
whole_is [] d some = absurd (omega arith)
whole_is (x ∷ []) d some = absurd (omega arith)
whole_is (x ∷ y ∷ ys) d some =
    ap (λ (n : ℕ). between x.stamp (get_or (x ∷ y ∷ ys) n d).stamp) the_index ∙ ap (between x.stamp) (sym (last_stamp_at y ys d)) where
      the_index : length (x ∷ y ∷ ys) - 1 ≡ suc (length ys)
      the_index = omega arith

-- one hop more
pub hops_more : (namespace : ℕ) (xs : List Sight) (at : ℕ) (d : Sight) → suc at < length xs
    → hops_from namespace (take (suc (suc at)) xs) ≡ hops_from namespace (take (suc at) xs) ++ hop_passed namespace (get_or xs at d) (get_or xs (suc at) d) ∷ []
hops_more namespace [] at d within = absurd (omega arith)
hops_more namespace (x ∷ []) at d within = absurd (omega arith)
hops_more namespace (x ∷ y ∷ ys) zero d within = refl
hops_more namespace (x ∷ y ∷ ys) (suc at) d within = ap (λ (hops : List _). hop_passed namespace x y ∷ hops) (hops_more namespace (y ∷ ys) at d (omega arith))

-- there are no more hops than elements
pub hops_few : (namespace : ℕ) (xs : List Sight) → length (hops_from namespace xs) ≤ length xs
hops_few namespace [] = omega arith
hops_few namespace (x ∷ []) = omega arith
hops_few namespace (x ∷ y ∷ ys) = omega (arith, hops_few namespace (y ∷ ys))

-- the hop to the element at an index, from another
abbrev hop_at : ℕ → List Sight → ℕ → Sight → ℕ → Gap → Option ℤ → HopKey × Option ℤ
hop_at namespace xs at d n past delay = (record { namespace = namespace; from = (get_or xs n d).node; to = (get_or xs (suc at) d).node; past = past }, delay)

-- behind those that were seen
pub counted_more : (namespace : ℕ) (xs : List Sight) (at : ℕ) (seen : List (HopKey × Option ℤ)) (d : Sight) (past : Gap) (delay : Option ℤ) → 1 ≤ at → at < length xs
    → past ≡ gap_of (get_or xs (at - 1) d).hops (get_or xs at d).hops → delay ≡ between (get_or xs (at - 1) d).stamp (get_or xs at d).stamp
    → (seen ++ hops_from namespace (take at xs)) ++ (record { namespace = namespace; from = (get_or xs (at - 1) d).node; to = (get_or xs at d).node; past = past }, delay) ∷ []
    ≡ seen ++ hops_from namespace (take (at + 1) xs)
counted_more namespace xs zero seen d past delay some within past_is delay_is = absurd (omega arith)
counted_more namespace xs (suc at) seen d past delay some within past_is delay_is =
    append_assoc seen (hops_from namespace (take (suc at) xs)) (hop_at namespace xs at d (suc at - 1) past delay ∷ [])
    ∙ ap (λ (hops : List (HopKey × Option ℤ)). seen ++ hops) (ap (λ (one : HopKey × Option ℤ). hops_from namespace (take (suc at) xs) ++ one ∷ []) hop_is ∙ sym (hops_more namespace xs at d within)
    ∙ ap (λ (n : ℕ). hops_from namespace (take n xs)) after) where
      before : suc at - 1 ≡ at
      before = omega arith

      after : suc (suc at) ≡ suc at + 1
      after = omega arith

      hop_is : hop_at namespace xs at d (suc at - 1) past delay ≡ hop_passed namespace (get_or xs at d) (get_or xs (suc at) d)
      hop_is = ap (λ (n : ℕ). hop_at namespace xs at d n past delay) before
          ∙ ap (λ (p : Gap). hop_at namespace xs at d at p delay) (past_is ∙ ap (λ (n : ℕ). gap_of (get_or xs n d).hops (get_or xs (suc at) d).hops) before)
          ∙ ap (λ (o : Option ℤ). hop_at namespace xs at d at (gap_of (get_or xs at d).hops (get_or xs (suc at) d).hops) o)
          (delay_is ∙ ap (λ (n : ℕ). between (get_or xs n d).stamp (get_or xs (suc at) d).stamp) before)
