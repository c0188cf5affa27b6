-- Laws of the words of a line.
use Rattle.std.proofs.Common.{◌≡◌, ℕ, ◌+◌, ◌-◌, ◌<◌, ◌≤◌, Bool, true, false, nat_lt, List, [], ◌∷◌, length, take, drop, position, if◌then◌else◌, Some, None, Err, arith, refl}
use Rattle.std.specs.List.{slice_split, position_or_len}
use Rattle.std.proofs.lemmas.Grind.{common_steps}
use Rattle.ioam_clock.specs.declared.fault.ReadWhy.TheVariants.{Words}
use Rattle.ioam_clock.specs.Lines.{ends_word, six, words_of}
use Rattle.std.proofs.lemmas.List.Splits.{slice_split_first, slice_split_none, length-slice_split}
use Rattle.std.proofs.lemmas.List.Sums.{fails_before_first}
use Rattle.std.proofs.lemmas.Bool.{ltb-true}
use Rattle.std.proofs.lemmas.Bool.Decides.{nat_tests}

some_by : (p : ℕ → Bool) (xs : List ℕ) (i : ℕ) (b : Bool) → nat_lt (position_or_len p xs) (length xs) ≡ b
    → (if b then Some (position_or_len p xs) else None) ≡ Some i → slice_split p xs ≡ take i xs ∷ slice_split p (drop (i + 1) xs)
some_by p xs i true lt is = let there : position_or_len p xs ≡ i = cc in rw (← there) (slice_split_first p xs 0 (ltb-true _ _ lt))
some_by p xs i false lt is = cc

-- a list whose first part ends at a place
pub slice_split_some : (p : ℕ → Bool) (xs : List ℕ) (i : ℕ) → Some i ≡ position p xs
    → slice_split p xs ≡ take i xs ∷ slice_split p (take (length xs - (i + 1)) (drop (i + 1) xs))
slice_split_some p xs i is = let whole : take (length xs - (i + 1)) (drop (i + 1) xs) ≡ drop (i + 1) xs = grind (arith, common_steps) in
    rw whole (some_by p xs i (nat_lt (position_or_len p xs) (length xs)) refl (cc))

none_by : (p : ℕ → Bool) (xs : List ℕ) (b : Bool) → nat_lt (position_or_len p xs) (length xs) ≡ b
    → (if b then Some (position_or_len p xs) else None) ≡ None → slice_split p xs ≡ xs ∷ []
none_by p xs true lt is = cc
none_by p xs false lt is = let past : length xs ≤ position_or_len p xs = grind (arith, nat_tests) in
    slice_split_none p xs (λ k d low. fails_before_first p xs k d (omega arith))

-- a list that isn't cut
pub slice_split_whole : (p : ℕ → Bool) (xs : List ℕ) → None ≡ position p xs → slice_split p xs ≡ xs ∷ []
slice_split_whole p xs is = none_by p xs (nat_lt (position_or_len p xs) (length xs)) refl (cc)

six_past : (a b c d e f : List ℕ) (parts : List (List ℕ)) → 0 < length parts → six (a ∷ b ∷ c ∷ d ∷ e ∷ f ∷ parts) ≡ Err Words
six_past a b c d e f [] some = absurd (omega arith)
six_past a b c d e f (part ∷ parts) some = refl

-- a line with a seventh word
pub more_words : (line a ra b rb c rc d rd e re f rf : List ℕ) → slice_split ends_word line ≡ a ∷ slice_split ends_word ra
    → slice_split ends_word ra ≡ b ∷ slice_split ends_word rb → slice_split ends_word rb ≡ c ∷ slice_split ends_word rc
    → slice_split ends_word rc ≡ d ∷ slice_split ends_word rd → slice_split ends_word rd ≡ e ∷ slice_split ends_word re
    → slice_split ends_word re ≡ f ∷ slice_split ends_word rf → words_of line ≡ Err Words
more_words line a ra b rb c rc d rd e re f rf sa sb sc sd se sf = rw (sa, sb, sc, sd, se, sf)
    (six_past a b c d e f (slice_split ends_word rf) (omega (arith, length-slice_split ends_word rf)))
