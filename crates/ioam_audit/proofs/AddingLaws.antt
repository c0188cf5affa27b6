-- How many words were added, and which, is read off the two.
use Rattle.std.proofs.Common.{◌≡◌, ℕ, ◌+◌, ◌*◌, ◌-◌, ◌/◌, ◌%◌, ◌<◌, ◌≤◌, List, ◌++◌, length, take, drop, get_or, length-take, arith, sym, ap, ◌∙◌}
use Rattle.std.proofs.lemmas.List.{get_or-drop, drop_at}
use Rattle.ioam_base.specs.Octets.{IsOctets, u16_at, written}
use Rattle.ioam_base.specs.Words.{two_octets}
use Rattle.ioam_trace.specs.Head.{remaining_of}
use Rattle.ioam_trace.specs.Filling.{less_remaining}
use Rattle.ioam_audit.specs.Decided.{between, with_element}
use Rattle.ioam_base.proofs.WrittenLaws.{length-written, written-part, written-front}

pub number_written : (old : List ℕ) (n : ℕ) → n < 65536 → 4 ≤ length old → u16_at (written old 2 (two_octets n)) 2 ≡ n
number_written old n below long =
    let new = written old 2 (two_octets n) in
    let two : length (take 2 old) ≡ 2 = omega (arith, length-take 2 old) in
    let rest : drop 2 new ≡ two_octets n ++ drop (2 + length (two_octets n)) old = drop_at (take 2 old) (two_octets n ++ drop (2 + length (two_octets n)) old) 2 two in
    let first : get_or new 2 0 ≡ n / 256 % 256 = sym (get_or-drop 2 new 0 0) ∙ ap (λ xs. get_or xs 0 0) rest in
    let second : get_or new 3 0 ≡ n % 256 = sym (get_or-drop 2 new 1 0) ∙ ap (λ xs. get_or xs 1 0) rest in
    omega (arith, first, second, below)

module _ (old element : List ℕ) (amount : ℕ) (small : IsOctets old) (space : 8 + 4 * remaining_of old ≤ length old) (enough : amount ≤ remaining_of old) (long : length element ≡ 4 * amount) where
  new : List ℕ
  new = with_element old amount element

  lowered : List ℕ
  lowered = less_remaining old amount

  number_is : u16_at lowered 2 ≡ u16_at old 2 - amount
  unfolding lowered
  number_is = number_written old (u16_at old 2 - amount) (omega (arith, small 2, small 3)) (omega (arith, space))

  lowered_long : length lowered ≡ length old
  unfolding lowered
  lowered_long = length-written old (two_octets (u16_at old 2 - amount)) 2 (omega (arith, space))

  front_is : (i : ℕ) → i < 8 → get_or new i 0 ≡ get_or lowered i 0
  unfolding new lowered
  front_is i before = written-front lowered element (8 + 4 * (remaining_of old - amount)) i (omega (arith, before)) (omega (arith, lowered_long, space, enough))

  new_number : u16_at new 2 ≡ u16_at old 2 - amount
  new_number = omega (arith, front_is 2 (omega arith), front_is 3 (omega arith), number_is)

  pub remaining_is : remaining_of (with_element old amount element) ≡ remaining_of old - amount
  unfolding new
  remaining_is = omega (arith, new_number, enough)

  part_is : take (length element) (drop (8 + 4 * (remaining_of old - amount)) (with_element old amount element)) ≡ element
  unfolding lowered
  part_is = written-part lowered element (8 + 4 * (remaining_of old - amount)) (omega (arith, lowered_long, space, enough))

  pub between_is : between old (with_element old amount element) ≡ element
  between_is =
      let size : 4 * (remaining_of old - remaining_of (with_element old amount element)) ≡ length element = omega (arith, remaining_is, enough, long) in
      ap (λ n. take n (drop (8 + 4 * remaining_of (with_element old amount element)) (with_element old amount element))) size
      ∙ ap (λ n. take (length element) (drop (8 + 4 * n) (with_element old amount element))) remaining_is ∙ part_is
