-- Laws of numbers that are written in decimal digits: what is read as a number is the digits that the number is written in.
use Rattle.std.proofs.Common.{◌≡◌, ⊎_elim, ℕ, ◌+◌, ◌*◌, ◌-◌, ◌^◌, ◌<◌, ◌≤◌, Bool, true, false, nat_lt, ◌&&◌, cond, List, [], ◌∷◌, length, drop, get_or, decimal, Option, Some, None, arith, rules, refl, ap, ap₂, sym, ◌∙◌}
use Rattle.std.specs.Prelude.{◌↔◌, if◌then◌else◌}
use Rattle.std.specs.Char.{digit_value, is_ascii_digit}
use Rattle.std.specs.Option.{option_and_then}
use Rattle.std.specs.Str.{all_ascii_digits}
use Rattle.std.specs.Str.Parse.{digits_value_after, digits_value}
use Rattle.std.proofs.lemmas.Bool.{cases_eq}
use Rattle.std.proofs.lemmas.Bool.Decides.{nat_tests}
use Rattle.std.proofs.lemmas.Fmt.{decimal_digit, decimal_nonempty, first_decimal, digits_decimal, digits_value-decimal, decimal-digits_value}
use Rattle.std.proofs.lemmas.List.{drop_more}
use Rattle.std.proofs.lemmas.Str.{digit_value_digit}
use Rattle.std.proofs.lemmas.Str.Parse.{IsNumeralModel, numerals_by_value}
use Rattle.ioam_base.specs.Decimal.{below, digits_below, is_plain, decimal_below}

-- ---- a step of the reader's loop at a time

digit_less : (c : ℕ) → is_ascii_digit c ≡ true → digit_value c ≡ c - 48
digit_less c on = let low : 48 ≤ c = grind (arith, nat_tests, on) in let high : c ≤ 57 = grind (arith, nat_tests, on) in
    omega (arith, digit_value_digit c (low, high))

-- the digits behind a number and one digit more
digit_in : (limit n c : ℕ) (cs : List ℕ) → is_ascii_digit c ≡ true → digits_below limit n (c ∷ cs) ≡ digits_below limit (n * 10 + (c - 48)) cs
digit_in limit n c cs on = ap (λ t. cond (t && all_ascii_digits cs) (below limit (digits_value_after 10 n (c ∷ cs))) None) on
    ∙ ap (λ d. digits_below limit (n * 10 + d) cs) (digit_less c on)

-- an octet that is no digit
digit_off : (limit n c : ℕ) (cs : List ℕ) → is_ascii_digit c ≡ false → digits_below limit n (c ∷ cs) ≡ None
digit_off limit n c cs off = ap (λ t. cond (t && all_ascii_digits cs) (below limit (digits_value_after 10 n (c ∷ cs))) None) off

past_by : (limit n c : ℕ) (cs : List ℕ) (t : Bool) → is_ascii_digit c ≡ t → digits_below limit (n * 10 + (c - 48)) cs ≡ None → digits_below limit n (c ∷ cs) ≡ None
past_by limit n c cs true on more = digit_in limit n c cs on ∙ more
past_by limit n c cs false off more = digit_off limit n c cs off

-- what is past its limit stays so with any digits behind it
digits_past : (limit n : ℕ) (ds : List ℕ) → limit ≤ n → digits_below limit n ds ≡ None
digits_past limit n [] past = let off : nat_lt n limit ≡ false = grind (arith, nat_tests, past) in ap (λ t. cond t (Some n) None) off
digits_past limit n (c ∷ cs) past = past_by limit n c cs (is_ascii_digit c) refl (digits_past limit (n * 10 + (c - 48)) cs (omega arith))

more_by : (limit n w c : ℕ) (cs : List ℕ) (b t : Bool) → is_ascii_digit c ≡ b → nat_lt (n * 10 + (c - 48)) limit ≡ t
    → Some w ≡ cond b (cond t (Some (n * 10 + (c - 48))) None) None → digits_below limit w cs ≡ digits_below limit n (c ∷ cs)
more_by limit n w c cs true true on low is = let same : w ≡ n * 10 + (c - 48) = cc in ap (λ k. digits_below limit k cs) same ∙ sym (digit_in limit n c cs on)
more_by limit n w c cs true false on low is = absurd (cc)
more_by limit n w c cs false t on low is = absurd (cc)

stops_by : (limit n c : ℕ) (cs : List ℕ) (b t : Bool) → is_ascii_digit c ≡ b → nat_lt (n * 10 + (c - 48)) limit ≡ t
    → ◌≡◌ {A = Option ℕ} None (cond b (cond t (Some (n * 10 + (c - 48))) None) None) → digits_below limit n (c ∷ cs) ≡ None
stops_by limit n c cs true true on low is = absurd (cc)
stops_by limit n c cs true false on low is = digit_in limit n c cs on ∙ digits_past limit (n * 10 + (c - 48)) cs (grind (arith, nat_tests, low))
stops_by limit n c cs false t on low is = digit_off limit n c cs on

-- a digit more
pub digit_more : (limit n w i : ℕ) (ds : List ℕ) → i < length ds
    → Some w ≡ (if is_ascii_digit (get_or ds i 0) then below limit (n * 10 + (get_or ds i 0 - 48)) else None)
    → digits_below limit w (drop (i + 1) ds) ≡ digits_below limit n (drop i ds)
digit_more limit n w i ds lt is = more_by limit n w (get_or ds i 0) (drop (i + 1) ds) (is_ascii_digit (get_or ds i 0)) (nat_lt (n * 10 + (get_or ds i 0 - 48)) limit) refl refl is
    ∙ ap (digits_below limit n) (sym (drop_more ds i 0 lt))

-- an octet that is no digit, or a digit too many
pub digit_stops : (limit n i : ℕ) (ds : List ℕ) → i < length ds
    → None ≡ (if is_ascii_digit (get_or ds i 0) then below limit (n * 10 + (get_or ds i 0 - 48)) else None)
    → digits_below limit n (drop i ds) ≡ None
digit_stops limit n i ds lt is = ap (digits_below limit n) (drop_more ds i 0 lt)
    ∙ stops_by limit n (get_or ds i 0) (drop (i + 1) ds) (is_ascii_digit (get_or ds i 0)) (nat_lt (n * 10 + (get_or ds i 0 - 48)) limit) refl refl is

-- ---- what is read

own_digits : IsNumeralModel (λ ds. all_ascii_digits ds ≡ true) (digits_value 10)
own_digits = numerals_by_value (λ ds. all_ascii_digits ds ≡ true) (search rules)

plain_is : (s : List ℕ) → is_plain s ≡ true → (0 < length s) × (get_or s 0 0 ≡ 48 → length s ≡ 1)
plain_is s on = (grind (arith, nat_tests, on), λ zero_first. grind (arith, nat_tests, on, zero_first))

-- decimal digits are some, and no zero stands in front of others
decimal_plain : (n : ℕ) → n < 2 ^ 64 → is_plain (decimal n) ≡ true
decimal_plain n low = ⊎_elim
    (λ none. let one : decimal n ≡ 48 ∷ [] = ap decimal none ∙ decimal_digit 0 (omega arith) in ap is_plain one)
    (λ some. grind (arith, nat_tests, decimal_nonempty n low, first_decimal n (omega arith) low))
    (cases_eq n 0)

below_by : (limit k n : ℕ) (t : Bool) → nat_lt k limit ≡ t → cond t (Some k) None ≡ Some n → (n < limit) × (k ≡ n)
below_by limit k n true low is = let same : k ≡ n = cc in let under : k < limit = grind (arith, nat_tests, low) in (omega arith, same)
below_by limit k n false low is = absurd (cc)

read_by : (limit n : ℕ) (s : List ℕ) (p d : Bool) → limit ≤ 2 ^ 64 → is_plain s ≡ p → all_ascii_digits s ≡ d
    → option_and_then (below limit) (cond (p && d) (Some (digits_value 10 s)) None) ≡ Some n → (n < limit) × (s ≡ decimal n)
read_by limit n s true true wide plain digits is =
    let front = plain_is s plain in
    let value = below_by limit (digits_value 10 s) n (nat_lt (digits_value 10 s) limit) refl is in
    (value.0, sym (decimal-digits_value own_digits s digits front.0 front.1 (omega arith)) ∙ ap decimal value.1)
read_by limit n s true false wide plain digits is = absurd (cc)
read_by limit n s false d wide plain digits is = absurd (cc)

-- what is read as a number are its digits
decimal_is : (limit n : ℕ) (s : List ℕ) → limit ≤ 2 ^ 64 → decimal_below limit s ≡ Some n → (n < limit) × (s ≡ decimal n)
decimal_is limit n s wide is = read_by limit n s (is_plain s) (all_ascii_digits s) wide refl refl is

-- and its digits are read as it
decimal_reads : (limit n : ℕ) (s : List ℕ) → limit ≤ 2 ^ 64 → n < limit → s ≡ decimal n → decimal_below limit s ≡ Some n
decimal_reads limit n s wide low at =
    let small : n < 2 ^ 64 = omega arith in
    let under : nat_lt n limit ≡ true = grind (arith, nat_tests, low) in
    let value : Some (digits_value 10 (decimal n)) ≡ Some n = ap Some (digits_value-decimal own_digits n small) in
    ap (decimal_below limit) at
    ∙ ap₂ (λ (p d : Bool). option_and_then (below limit) (cond (p && d) (Some (digits_value 10 (decimal n))) None)) (decimal_plain n small) (digits_decimal own_digits n small)
    ∙ ap (option_and_then (below limit)) value
    ∙ ap (λ t. cond t (Some n) None) under

-- a text is read as a number below a limit exactly where it is the digits of that number
pub decimal_iff : (limit : ℕ) (s : List ℕ) (n : ℕ) → limit ≤ 2 ^ 64 → (decimal_below limit s ≡ Some n) ↔ ((n < limit) × (s ≡ decimal n))
decimal_iff limit s n wide = (λ is. decimal_is limit n s wide is, λ h. decimal_reads limit n s wide h.0 h.1)

-- the same of what was read
pub decimal_read : (limit : ℕ) (s : List ℕ) (r : Option ℕ) → limit ≤ 2 ^ 64 → r ≡ decimal_below limit s → (n : ℕ) → (r ≡ Some n) ↔ ((n < limit) × (s ≡ decimal n))
decimal_read limit s r wide is n = (λ so. decimal_is limit n s wide (sym is ∙ so), λ h. is ∙ decimal_reads limit n s wide h.0 h.1)
