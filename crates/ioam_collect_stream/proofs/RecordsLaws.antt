-- Which records stand at the front of octets.
use Rattle.std.proofs.Common.{◌≡◌, ℕ, ◌+◌, ◌<◌, ◌≤◌, ◌⊎◌, List, [], ◌∷◌, ◌++◌, length, length-append, All, refl, sym, ap, ◌∙◌, subst, inl, inr, append_assoc, append-nil, arith}
use Rattle.std.proofs.lemmas.List.Elements.{All-head, All-tail}
use Rattle.ioam_dex.specs.Record.{Record, IsRecord, record_octets}
use Rattle.ioam_dex.specs.Reads.{records_octets, Ending, Reads}
use Rattle.ioam_dex.proofs.RecordLaws.{record_octets-same}
use Rattle.ioam_run_answer.proofs.ExportsLaws.{ends-no-record, front_of}
use Rattle.ioam_collect.specs.Collected.{count_kept}
use Rattle.ioam_collect.proofs.CountLaws.{count_kept-grows}
use Rattle.ioam_collect_stream.specs.Gathering.{AreFew, Passes}

-- ---- fronts of one another

-- of two lists of records at the front of the same octets one is a front of the other
one_front : (xs ys : List Record) (r s : List ℕ) → All IsRecord xs → All IsRecord ys → records_octets xs ++ r ≡ records_octets ys ++ s
    → ((more : List Record) × (ys ≡ xs ++ more)) ⊎ ((more : List Record) × (xs ≡ ys ++ more))
one_front [] ys r s all_x all_y same = inl (ys, refl)
one_front (x ∷ xs) [] r s all_x all_y same = inr (x ∷ xs, refl)
one_front (x ∷ xs) (y ∷ ys) r s all_x all_y same =
    let whole = sym (append_assoc (record_octets x) (records_octets xs) r) ∙ same ∙ append_assoc (record_octets y) (records_octets ys) s in
    let first = record_octets-same x y (records_octets xs ++ r) (records_octets ys ++ s) (All-head IsRecord x xs all_x) (All-head IsRecord y ys all_y) whole in
    let head : x ≡ y = first.0 in
    elim (one_front xs ys r s (All-tail IsRecord x xs all_x) (All-tail IsRecord y ys all_y) first.1) [
      | inl (more, is) ↦ inl (more, ap (λ z. z ∷ ys) (sym head) ∙ ap (λ zs. x ∷ zs) is)
      | inr (more, is) ↦ inr (more, ap (λ z. z ∷ xs) head ∙ ap (λ zs. y ∷ zs) is)
    ]

-- a list that goes on behind another has it in front of its last
behind_front : (xs ys : List Record) (y m : Record) (ms : List Record) → ys ++ y ∷ [] ≡ xs ++ m ∷ ms → (more : List Record) × (ys ≡ xs ++ more)
behind_front [] ys y m ms same = (ys, refl)
behind_front (x ∷ xs) [] y m ms same =
    let sizes : 1 ≡ length ((x ∷ xs) ++ m ∷ ms) = ap length same in
    let size = length-append (x ∷ xs) (m ∷ ms) in
    absurd (omega (arith, sizes, size))
behind_front (x ∷ xs) (z ∷ ys) y m ms same =
    let head : z ≡ x = cc in
    let rest = behind_front xs ys y m ms (cc) in
    (rest.0, ap (λ w. w ∷ ys) head ∙ ap (λ zs. x ∷ zs) rest.1)

-- ---- limits

-- as IsPast says, of the list with the record at its end
abbrev pub Exceeds : ℕ → List Record → Type 0
Exceeds limit xs = ((limit ≡ 1048576) × (1048576 < count_kept xs)) ⊎ ((limit ≡ 67108864) × (count_kept xs ≤ 1048576) × (67108864 < length xs))

one_limit : (a b : ℕ) (xs : List Record) → Exceeds a xs → Exceeds b xs → a ≡ b
one_limit a b xs (inl x) (inl y) = x.0 ∙ sym y.0
one_limit a b xs (inl x) (inr y) = let more = x.1 in let few = y.1 in absurd (omega (arith, more, few))
one_limit a b xs (inr x) (inl y) = let more = y.1 in let few = x.1 in absurd (omega (arith, more, few))
one_limit a b xs (inr x) (inr y) = x.0 ∙ sym y.0

-- no front of few records exceeds a limit
no_front : (limit : ℕ) (xs ys more : List Record) → Exceeds limit xs → AreFew ys → ys ≡ xs ++ more → ⊥
no_front limit xs ys more exceeds few is =
    let grows = count_kept-grows xs more in
    let kept : count_kept ys ≡ count_kept (xs ++ more) = ap count_kept is in
    let size : length ys ≡ length xs + length more = ap length is ∙ length-append xs more in
    elim exceeds [
      | inl over ↦ let past = over.1 in omega (arith, past, grows, kept, few.held)
      | inr over ↦ let past = over.2 in omega (arith, past, size, few.read)
    ]

-- of one octets' records one limit is passed first
same_limit : (a b : ℕ) (xs ys more : List Record) (y : Record) → Exceeds a xs → Exceeds b (ys ++ y ∷ []) → AreFew ys → ys ++ y ∷ [] ≡ xs ++ more → a ≡ b
same_limit a b xs ys [] y past also few is =
    let P : List Record → Type 0 = λ zs. Exceeds b zs in
    one_limit a b xs past (subst P (is ∙ append-nil xs) also)
same_limit a b xs ys (m ∷ ms) y past also few is =
    let front = behind_front xs ys y m ms is in
    absurd (no_front a xs ys front.0 past few front.1)

-- octets that have too many records don't end with few
pub long_or_few : (limit : ℕ) (ending : Ending) (octets : List ℕ) (many few : List Record) → Passes limit many octets → Reads octets few ending → AreFew few → ⊥
long_or_few limit ending octets many few passes reads within =
    let xs : List Record = many ++ passes.next ∷ [] in
    let front = front_of xs few passes.rest reads.rest passes.splits.each reads.splits.each
    (ends-no-record _ reads.rest ending reads.ends) (sym passes.splits.is ∙ reads.splits.is) in
    no_front limit xs few front.0 passes.past within front.1

-- and have them by one limit
pub long_once : (a b : ℕ) (octets : List ℕ) (xs ys : List Record) → Passes a xs octets → AreFew xs → Passes b ys octets → AreFew ys → a ≡ b
long_once a b octets xs ys x few y within =
    let all : List Record = xs ++ x.next ∷ [] in
    let others : List Record = ys ++ y.next ∷ [] in
    elim (one_front all others x.rest y.rest x.splits.each y.splits.each (sym x.splits.is ∙ y.splits.is)) [
      | inl (more, is) ↦ same_limit a b all ys more y.next x.past y.past within is
      | inr (more, is) ↦ sym (same_limit b a others xs more x.next y.past x.past few is)
    ]
