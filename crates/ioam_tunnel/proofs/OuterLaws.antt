-- An outer packet whose octets are all there, and what is laid out of it.
use Rattle.std.proofs.Common.{◌≡◌, ℕ, zero, suc, ◌+◌, ◌-◌, ◌*◌, ◌/◌, ◌%◌, ◌<◌, ◌≤◌, List, [], ◌∷◌, ◌++◌, length, take, drop, replicate, slice_set, append_assoc, refl, sym, ap, ◌∙◌, arith, length-append, length-take, length-drop}
use Rattle.std.proofs.Math.Seq.{take-add}
use Rattle.std.proofs.lemmas.List.{take-append-drop, take-append-le, drop-append-le, set-append_left, set-append_right, length-set, length-replicate, replicate-append-replicate, take-replicate, drop-replicate, take_all, take_at, drop_all, drop_at, drop-drop}
use Rattle.ioam_base.specs.Octets.{written}
use Rattle.ioam_base.specs.Words.{two_octets, three_octets, four_octets}
use Rattle.ioam_base.proofs.WrittenLaws.{length-written, written-ahead, written-at, written-behind}
use Rattle.ioam_data.specs.Kind.{words}
use Rattle.ioam_ip.specs.Layout.{padding, padded, finished}
use Rattle.ioam_trace.specs.Data.{trace_data, header}
use Rattle.ioam_trace.proofs.DataLaws.{trace_data-none}
use Rattle.ioam_tunnel.specs.Outer.{Writing, writing_of, more, behind}

-- ---- octets of which some are laid out

module _ (octets : List ℕ) (start end : ℕ) where
  pub length-laid : end ≤ length octets → length (drop start (take end octets)) ≡ end - start
  length-laid within = omega (arith, length-drop start (take end octets), length-take end octets)

  -- what stands in front of the header is the front of all that is laid out
  front-taken : start ≤ end → end ≤ length octets → take start (take end octets) ≡ take start octets
  front-taken ordered within =
      let long : start ≤ length (take end octets) = omega (arith, length-take end octets) in
      sym (take-append-le start (take end octets) (drop end octets) long) ∙ ap (take start) (take-append-drop end octets)

  module _ (writing : Writing) (part now : List ℕ) (n : ℕ) (is : writing_of octets start end ≡ writing) (ordered : start ≤ end) (within : end ≤ length octets) where
    -- more once it ends behind a part, in octets that are the same up to its end before
    grown : length now ≡ length octets → take (end + n) now ≡ take end octets ++ part → end + n ≤ length octets → writing_of now start (end + n) ≡ more writing part
    grown same ahead fits =
        let taken : start ≤ length (take end octets) = omega (arith, length-take end octets) in
        let long : start ≤ length (take (end + n) now) = omega (arith, length-take (end + n) now) in
        let front : take start now ≡ take start octets =
        ap (take start) (sym (take-append-drop (end + n) now)) ∙ take-append-le start (take (end + n) now) (drop (end + n) now) long
        ∙ ap (take start) ahead ∙ take-append-le start (take end octets) part taken ∙ front-taken ordered within in
        let laid : drop start (take (end + n) now) ≡ drop start (take end octets) ++ part =
        ap (drop start) ahead ∙ drop-append-le start (take end octets) part taken in
        let most : length now - start ≡ length octets - start = ap (λ m. m - start) same in
        let bigger : writing_of now start (end + n) ≡ more (writing_of octets start end) part =
        λ i. record { front = front i; laid = laid i; most = most i } in
        bigger ∙ ap (λ (w : Writing). more w part) is

    pub more-written : end + n ≤ length octets → n ≡ length part → now ≡ written octets end part → writing_of now start (end + n) ≡ more writing part
    more-written fits size put =
        let same : length now ≡ length octets = ap length put ∙ length-written octets part end (omega (arith, size)) in
        grown same (ap (λ m. take (end + m) now) size ∙ ap (λ xs. take (end + length part) xs) put ∙ written-ahead octets part end within) fits

  module _ (zeros : drop end octets ≡ replicate (length octets - end) 0) where
    -- what is behind it is zeros, whatever is written in front of them
    pub zeros-written : (now part : List ℕ) (n : ℕ) → end + n ≤ length octets → n ≡ length part → now ≡ written octets end part
        → drop (end + n) now ≡ replicate (length now - (end + n)) 0
    zeros-written now part n fits size put =
        let same : length now ≡ length octets = ap length put ∙ length-written octets part end (omega (arith, size)) in
        let left : length octets - end - n ≡ length now - (end + n) = omega (arith, same) in
        ap (drop (end + n)) put ∙ written-behind octets part end (end + n) (omega (arith, size)) (omega arith)
        ∙ sym (drop-drop n end octets) ∙ ap (drop n) zeros ∙ drop-replicate n (length octets - end) 0 ∙ ap (λ m. replicate m 0) left

    pub zeros-skipped : (n : ℕ) → drop (end + n) octets ≡ replicate (length octets - (end + n)) 0
    zeros-skipped n =
        let left : length octets - end - n ≡ length octets - (end + n) = omega arith in
        sym (drop-drop n end octets) ∙ ap (drop n) zeros ∙ drop-replicate n (length octets - end) 0 ∙ ap (λ m. replicate m 0) left

    pub more-zeros : (writing : Writing) (n : ℕ) → writing_of octets start end ≡ writing → start ≤ end → end ≤ length octets → end + n ≤ length octets
        → writing_of octets start (end + n) ≡ more writing (replicate n 0)
    more-zeros writing n is ordered within fits =
        grown writing (replicate n 0) octets n is ordered within refl
        (take-add end n octets ∙ ap (λ xs. take end octets ++ xs) (ap (take n) zeros ∙ take-replicate n (length octets - end) 0 (omega arith))) fits

-- a header, and behind it zeros
pub headed : (old made now head : List ℕ) (len options : ℕ) → old ≡ [] → len ≡ 0 → made ≡ take (40 + options) old ++ replicate (40 + options - len) 0
    → length head ≡ 40 → now ≡ written made 0 head → now ≡ head ++ replicate options 0
headed old made now head len options none nothing made_is long put =
    let size : 40 + options - len ≡ 40 + options = omega (arith, nothing) in
    let zeros : made ≡ replicate 40 0 ++ replicate options 0 =
    made_is ∙ (λ k. take (40 + options) (none k) ++ replicate (size k) 0)
    ∙ ap (λ xs. xs ++ replicate (40 + options) 0) (take_all (40 + options) [] (omega arith))
    ∙ sym (replicate-append-replicate 40 options 0) in
    put ∙ ap (λ xs. written xs 0 head) zeros
    ∙ written-at [] (replicate 40 0) head (replicate options 0) 0 refl (long ∙ sym (length-replicate {A = ℕ} 40 0))

module _ (now head : List ℕ) (options : ℕ) (long : length head ≡ 40) (is : now ≡ head ++ replicate options 0) where
  pub headed-front : take 40 now ≡ head
  headed-front = ap (take 40) is ∙ take_at head (replicate options 0) 40 long

  pub headed-length : length now ≡ 40 + options
  headed-length = omega (arith, ap length is, length-append head (replicate options 0), long, length-replicate {A = ℕ} options 0)

  pub headed-zeros : drop 40 now ≡ replicate (length now - 40) 0
  headed-zeros =
      let left : options ≡ length now - 40 = omega (arith, headed-length) in
      ap (drop 40) is ∙ drop_at head (replicate options 0) 40 long ∙ ap (λ n. replicate n 0) left

  pub headed-laid : drop 40 (take 40 now) ≡ []
  headed-laid = drop_all 40 (take 40 now) (omega (arith, length-take 40 now, headed-length))

-- two octets, one after the other
pair-behind : (front rest : List ℕ) (n a b : ℕ) → length front ≡ n → 2 ≤ length rest → slice_set (slice_set (front ++ rest) n a) (n + 1) b ≡ front ++ (a ∷ b ∷ drop 2 rest)
pair-behind front [] n a b is long = absurd (omega (arith, long))
pair-behind front (x ∷ []) n a b is long = absurd (omega (arith, long))
pair-behind front (x ∷ y ∷ rest) n a b is long =
    let here : n - n ≡ 0 = omega arith in
    let next : n + 1 - n ≡ 1 = omega arith in
    let first : slice_set (front ++ (x ∷ y ∷ rest)) n a ≡ front ++ (a ∷ y ∷ rest) =
    set-append_right front (x ∷ y ∷ rest) n n a is (omega arith) ∙ ap (λ k. front ++ slice_set (x ∷ y ∷ rest) k a) here in
    ap (λ xs. slice_set xs (n + 1) b) first
    ∙ set-append_right front (a ∷ y ∷ rest) n (n + 1) b is (omega arith) ∙ ap (λ k. front ++ slice_set (a ∷ y ∷ rest) k b) next

pub pair-written : (octets : List ℕ) (end a b : ℕ) → end + 2 ≤ length octets → slice_set (slice_set octets end a) (end + 1) b ≡ written octets end (a ∷ b ∷ [])
pair-written octets end a b fits =
    let front : length (take end octets) ≡ end = omega (arith, length-take end octets) in
    ap (λ xs. slice_set (slice_set xs end a) (end + 1) b) (sym (take-append-drop end octets))
    ∙ pair-behind (take end octets) (drop end octets) end a b front (omega (arith, length-drop end octets))
    ∙ ap (λ xs. take end octets ++ (a ∷ b ∷ xs)) (drop-drop 2 end octets)

pub two_pair : (number : ℕ) → number < 65536 → (number / 256) ∷ (number % 256) ∷ [] ≡ two_octets number
two_pair number below =
    let first : number / 256 ≡ number / 256 % 256 = omega arith in
    λ i. first i ∷ (number % 256) ∷ []

pub four_pair : (number : ℕ) → two_octets (number / 65536) ++ two_octets (number % 65536) ≡ four_octets number
four_pair number =
    let first : number / 65536 / 256 % 256 ≡ number / 16777216 % 256 = omega arith in
    let third : number % 65536 / 256 % 256 ≡ number / 256 % 256 = omega arith in
    let last : number % 65536 % 256 ≡ number % 256 = omega arith in
    λ i. first i ∷ (number / 65536 % 256) ∷ third i ∷ last i ∷ []

-- ---- padding

pad_short : (count : ℕ) → count < 2 → replicate count 0 ≡ padding count
pad_short zero short = refl
pad_short (suc zero) short = refl
pad_short (suc (suc n)) short = absurd (omega (arith, short))

pub pad_long : (count : ℕ) → 2 ≤ count → (1 ∷ (count - 2) ∷ []) ++ replicate (count - 2) 0 ≡ padding count
pad_long zero long = absurd (omega (arith, long))
pad_long (suc zero) long = absurd (omega (arith, long))
pad_long (suc (suc n)) long =
    let left : suc (suc n) - 2 ≡ n = omega arith in
    λ i. 1 ∷ left i ∷ replicate (left i) 0

pub padded_short : (now writing : Writing) (count : ℕ) → count < 2 → now ≡ more writing (replicate count 0) → now ≡ more writing (padding count)
padded_short now writing count short is = is ∙ ap (λ xs. more writing xs) (pad_short count short)

pub length-padding : (n : ℕ) → length (padding n) ≡ n
length-padding zero = refl
length-padding (suc zero) = refl
length-padding (suc (suc n)) = ap (λ m. suc (suc m)) (length-replicate n 0)

pub more_twice : (writing : Writing) (a b : List ℕ) → more (more writing a) b ≡ more writing (a ++ b)
more_twice writing a b = λ i. record { front = writing.front; laid = append_assoc writing.laid a b i; most = writing.most }

-- a trace, by its namespace, its lengths, its type and its words
pub trace-put : (old one two three all : Writing) (namespace kind capacity lengths count : ℕ) → lengths ≡ words kind * 2048 + 0 * 128 + capacity → count ≡ 4 * capacity
    → one ≡ more old (two_octets namespace) → two ≡ more one (two_octets lengths) → three ≡ more two (four_octets (kind * 256 + 0)) → all ≡ more three (replicate count 0)
    → all ≡ more old (trace_data namespace kind capacity [])
trace-put old one two three all namespace kind capacity lengths count lengths_is count_is first second third last =
    let a = two_octets namespace in
    let b = two_octets lengths in
    let c = four_octets (kind * 256 + 0) in
    let d = replicate count 0 in
    let head : (a ++ b) ++ c ≡ header namespace (words kind) 0 capacity kind 0 = ap (λ n. (a ++ two_octets n) ++ c) lengths_is in
    let octets : ((a ++ b) ++ c) ++ d ≡ trace_data namespace kind capacity [] =
    (λ i. head i ++ replicate (count_is i) 0) ∙ sym (trace_data-none namespace kind capacity) in
    last ∙ ap (λ (w : Writing). more w d) (third ∙ ap (λ (w : Writing). more w c) (second ∙ ap (λ (w : Writing). more w b) first ∙ more_twice old a b)
    ∙ more_twice old (a ++ b) c)
    ∙ more_twice old ((a ++ b) ++ c) d ∙ ap (λ xs. more old xs) octets

-- a type of 24 bits and a reserved octet, as one number
pub kind_word : (kind : ℕ) → kind < 16777216 → four_octets (kind * 256) ≡ three_octets kind ++ (0 ∷ [])
kind_word kind below =
    let first : kind * 256 / 16777216 % 256 ≡ kind / 65536 % 256 = omega arith in
    let second : kind * 256 / 65536 % 256 ≡ kind / 256 % 256 = omega arith in
    let third : kind * 256 / 256 % 256 ≡ kind % 256 = omega arith in
    let last : kind * 256 % 256 ≡ 0 = omega arith in
    λ i. first i ∷ second i ∷ third i ∷ last i ∷ []

-- ---- a header that ends

pub length-finished : (laid : List ℕ) → length (finished laid) ≡ padded (length laid)
length-finished laid =
    omega (
      arith,
      length-set (laid ++ padding (padded (length laid) - length laid)) 1 (padded (length laid) / 8 - 1),
      length-append laid (padding (padded (length laid) - length laid)),
      length-padding (padded (length laid) - length laid),
    )

-- the header's length is written into its octet 1, and the next header begins where it ends
pub closed : (octets : List ℕ) (start end n : ℕ) (writing : Writing) → writing_of octets start end ≡ writing → start ≤ end → end ≤ length octets → start + 2 ≤ end
    → writing_of (slice_set octets (start + 1) n) end end ≡ behind writing (slice_set writing.laid 1 n)
closed octets start end n writing is ordered within some =
    let front = take start octets in
    let laid = drop start (take end octets) in
    let rest = drop end octets in
    let set = slice_set laid 1 n in
    let starts : length front ≡ start = omega (arith, length-take start octets) in
    let long : length laid ≡ end - start = length-laid octets start end within in
    let kept : length set ≡ length laid = length-set laid 1 n in
    let cut : octets ≡ front ++ (laid ++ rest) =
    sym (take-append-drop end octets)
    ∙ ap (λ xs. xs ++ rest) (sym (take-append-drop start (take end octets)) ∙ ap (λ xs. xs ++ laid) (front-taken octets start end ordered within))
    ∙ append_assoc front laid rest in
    let place : start + 1 - start ≡ 1 = omega arith in
    let put : slice_set octets (start + 1) n ≡ (front ++ set) ++ rest =
    ap (λ xs. slice_set xs (start + 1) n) cut
    ∙ set-append_right front (laid ++ rest) start (start + 1) n starts (omega arith)
    ∙ ap (λ k. front ++ slice_set (laid ++ rest) k n) place
    ∙ ap (λ xs. front ++ xs) (set-append_left laid rest 1 n (omega (arith, long)))
    ∙ sym (append_assoc front set rest) in
    let whole : length (front ++ set) ≡ end = omega (arith, length-append front set, starts, long, kept) in
    let all : take end (slice_set octets (start + 1) n) ≡ front ++ set = ap (take end) put ∙ take_at (front ++ set) rest end whole in
    let none : drop end (take end (slice_set octets (start + 1) n)) ≡ [] = drop_all end (take end (slice_set octets (start + 1) n)) (omega (arith, ap length all, whole)) in
    let most : length (slice_set octets (start + 1) n) - end ≡ length octets - start - length set =
    omega (arith, length-set octets (start + 1) n, long, kept) in
    let made : writing_of (slice_set octets (start + 1) n) end end ≡ behind (writing_of octets start end) set =
    λ i. record { front = all i; laid = none i; most = most i } in
    made ∙ ap (λ (w : Writing). behind w (slice_set w.laid 1 n)) is
