-- Octets of a trace that are compared part by part.
use Rattle.std.proofs.Common.{◌≡◌, ℕ, ◌+◌, ◌-◌, ◌<◌, ◌≤◌, List, ◌++◌, length, take, drop, get_or, length-take, length-drop, arith, refl, sym, ap, ◌∙◌}
use Rattle.std.proofs.lemmas.List.{take-append-drop, drop-drop, take_at, take-take, drop-take}
use Rattle.ioam_base.specs.Octets.{IsOctets, u16_at, written}
use Rattle.ioam_base.specs.Words.{two_octets}
use Rattle.ioam_base.proofs.WordsLaws.{two-at}
use Rattle.ioam_base.proofs.WrittenLaws.{length-written, written-part, written-front, written-behind}
use Rattle.ioam_trace.specs.Filling.{with_lengths}
use Rattle.ioam_audit.specs.Parts.{AreAlike}
use Rattle.ioam_audit.proofs.AddingLaws.{number_written}

-- the first octets in two parts
pub take_two : (n m : ℕ) (xs : List ℕ) → n ≤ m → take m xs ≡ take n xs ++ take (m - n) (drop n xs)
take_two n m xs order =
    let size : m ≡ n + (m - n) = omega (arith, order) in
    sym (take-append-drop n (take m xs)) ∙ ap (λ ys. ys ++ drop n (take m xs)) (take-take n m xs order)
    ∙ ap (λ ys. take n xs ++ ys) (ap (λ k. drop n (take k xs)) size ∙ drop-take n (m - n) xs)

module _ (old new : List ℕ) (word start end : ℕ) (small : IsOctets new) (below : word < 65536) (same : length new ≡ length old)
    (eight : 8 ≤ start) (order : start ≤ end) (fits : end ≤ length old) where
  abbrev worded : List ℕ
  worded = with_lengths old word

  abbrev part : List ℕ
  part = take (end - start) (drop start new)

  worded_long : length worded ≡ length old
  worded_long = length-written old (two_octets word) 2 (omega (arith, eight, order, fits))

  part_long : length part ≡ end - start
  part_long = omega (arith, length-take (end - start) (drop start new), length-drop start new, same, fits)

  end_is : start + length part ≡ end
  end_is = omega (arith, part_long, order)

  -- the first octets in three parts
  in_three : (xs : List ℕ) → take start xs ≡ take 2 xs ++ (take 2 (drop 2 xs) ++ take (start - 4) (drop 4 xs))
  in_three xs =
      let left : start - 2 - 2 ≡ start - 4 = omega arith in
      take_two 2 start xs (omega (arith, eight)) ∙ ap (λ ys. take 2 xs ++ ys) (take_two 2 (start - 2) (drop 2 xs) (omega (arith, eight))
      ∙ ap (λ n. take 2 (drop 2 xs) ++ take n (drop 2 (drop 2 xs))) left
      ∙ ap (λ ys. take 2 (drop 2 xs) ++ take (start - 4) ys) (drop-drop 2 2 xs))

  cut : (xs : List ℕ) → start ≤ length xs → take 2 (take start xs) ≡ take 2 xs
  cut xs long = ap (λ ys. take 2 ys) (in_three xs)
      ∙ take_at (take 2 xs) (take 2 (drop 2 xs) ++ take (start - 4) (drop 4 xs)) 2 (omega (arith, long, eight, length-take 2 xs))

  behind_four : (xs : List ℕ) → drop 4 (take start xs) ≡ take (start - 4) (drop 4 xs)
  behind_four xs = let size : start ≡ 4 + (start - 4) = omega (arith, eight) in
      ap (λ n. drop 4 (take n xs)) size ∙ drop-take 4 (start - 4) xs

  worded_two : take 2 worded ≡ take 2 old
  worded_two = take_at (take 2 old) (two_octets word ++ drop (2 + length (two_octets word)) old) 2 (omega (arith, length-take 2 old, eight, order, fits))

  worded_number : take 2 (drop 2 worded) ≡ two_octets word
  worded_number = written-part old (two_octets word) 2 (omega (arith, eight, order, fits))

  worded_rest : (to : ℕ) → 4 ≤ to → drop to worded ≡ drop to old
  worded_rest to behind = written-behind old (two_octets word) 2 to (omega (arith, behind)) (omega (arith, eight, order, fits))

  new_number : take 2 (drop 2 new) ≡ two_octets (u16_at new 2)
  new_number = ap (λ xs. take 2 xs) (two-at new 2 small (omega (arith, same, eight, order, fits))) ∙ take_at (two_octets (u16_at new 2)) (drop (2 + 2) new) 2 refl

  pub alike-written : AreAlike old new word start end → new ≡ written (with_lengths old word) start (take (end - start) (drop start new))
  alike-written is =
      let heads_new : take start new ≡ take 2 old ++ (two_octets word ++ take (start - 4) (drop 4 old)) =
      in_three new ∙ ap (λ xs. xs ++ (take 2 (drop 2 new) ++ take (start - 4) (drop 4 new))) is.front
      ∙ ap (λ xs. take 2 old ++ (xs ++ take (start - 4) (drop 4 new))) (new_number ∙ ap two_octets is.number)
      ∙ ap (λ xs. take 2 old ++ (two_octets word ++ xs)) is.middle in
      let heads_old : take start worded ≡ take 2 old ++ (two_octets word ++ take (start - 4) (drop 4 old)) =
      in_three worded ∙ ap (λ xs. xs ++ (take 2 (drop 2 worded) ++ take (start - 4) (drop 4 worded))) worded_two
      ∙ ap (λ xs. take 2 old ++ (xs ++ take (start - 4) (drop 4 worded))) worded_number
      ∙ ap (λ xs. take 2 old ++ (two_octets word ++ take (start - 4) xs)) (worded_rest 4 (omega arith)) in
      let tails : drop end new ≡ drop (start + length part) worded =
      is.rest ∙ sym (worded_rest end (omega (arith, eight, order))) ∙ ap (λ n. drop n worded) (sym end_is) in
      let size : start + (end - start) ≡ end = omega (arith, order) in
      let behind : drop start new ≡ part ++ drop end new =
      sym (take-append-drop (end - start) (drop start new)) ∙ ap (λ xs. part ++ xs) (drop-drop (end - start) start new ∙ ap (λ n. drop n new) size) in
      sym (take-append-drop start new) ∙ ap (λ xs. xs ++ drop start new) (heads_new ∙ sym heads_old)
      ∙ ap (λ xs. take start worded ++ xs) (behind ∙ ap (λ xs. part ++ xs) tails)

  pub written-alike : new ≡ written (with_lengths old word) start (take (end - start) (drop start new)) → AreAlike old new word start end
  written-alike is =
      let whole : start ≤ length worded = omega (arith, worded_long, order, fits) in
      let heads : take start new ≡ take start worded =
      ap (λ xs. take start xs) is ∙ take_at (take start worded) (part ++ drop (start + length part) worded) start (omega (arith, length-take start worded, whole)) in
      let tails : drop end new ≡ drop end worded = ap (λ xs. drop end xs) is ∙ written-behind worded part start end (omega (arith, end_is)) whole in
      let octet : (i : ℕ) → i < start → get_or new i 0 ≡ get_or worded i 0 =
      λ i before. ap (λ xs. get_or xs i 0) is ∙ written-front worded part start i before whole in
      let number : u16_at worded 2 ≡ word = number_written old word below (omega (arith, eight, order, fits)) in
      record {
        front = sym (cut new (omega (arith, same, order, fits))) ∙ ap (λ xs. take 2 xs) heads ∙ cut worded whole ∙ worded_two;
        number = omega (arith, octet 2 (omega (arith, eight)), octet 3 (omega (arith, eight)), number);
        middle = sym (behind_four new) ∙ ap (λ xs. drop 4 xs) heads ∙ behind_four worded ∙ ap (λ xs. take (start - 4) xs) (worded_rest 4 (omega arith));
        rest = tails ∙ worded_rest end (omega (arith, eight, order));
      }
