-- Octets are a part, of one list of records, or have one fault at one place: not both.
use Rattle.std.proofs.Common.{◌≡◌, ℕ, ◌+◌, ◌<◌, ◌≤◌, ◌⊎◌, List, [], ◌∷◌, ◌++◌, length, length-append, take, drop, All, refl, sym, ap, ◌∙◌, subst, inl, inr, append_assoc, arith, Option, None, Some}
use Rattle.std.specs.List.{AllByRecursion}
use Rattle.std.specs.declared.cmp.Ordering.{Ordering}
use Rattle.std.specs.declared.cmp.Ordering.TheVariants.{Less}
use Rattle.std.proofs.lemmas.List.{append-nil}
use Rattle.std.proofs.lemmas.List.Elements.{All-head, All-tail, recursion_from_All, All-from_recursion}
use Rattle.ioam_base.specs.Words.{four_octets}
use Rattle.ioam_base.proofs.WordsLaws.{four_octets-same}
use Rattle.ioam_run_answer.specs.Faults.{Fault, IsCut}
use Rattle.ioam_run_answer.specs.Record.{Record, IsRecord, record_octets}
use Rattle.ioam_run_answer.specs.Reads.{records_octets}
use Rattle.ioam_run_answer.proofs.FaultLaws.{fault-unique, cut-not-faulty}
use Rattle.ioam_run_answer.proofs.ReadsLaws.{cut-no-record, fault-no-record}
use Rattle.ioam_run_answer.proofs.RecordLaws.{record_octets-same}
use Rattle.ioam_collect.specs.Order.{IsInOrder}
use Rattle.ioam_collect.specs.Keyed.{keyed}
use Rattle.ioam_collect.specs.Unite.{AreApart}
use Rattle.ioam_collect.proofs.JoiningLaws.{keyed-append}
use Rattle.ioam_part.specs.Faults.{Reaches, IsMisplaced, HasFaultBehind, IsBehindHead, HasFault}
use Rattle.ioam_part.specs.Part.{mark, most_records, head_octets, HasKey, AreInOrder, IsPart}
use Rattle.ioam_part.specs.declared.fault.PartFault.{PartFault}
use Rattle.ioam_part.specs.declared.fault.PartFault.TheVariants as fault

-- ---- lists

init_all : {X : Type 0} (P : X → Type 0) (xs ys : List X) → AllByRecursion P (xs ++ ys) → AllByRecursion P xs
init_all P [] ys all = tt
init_all P (x ∷ xs) ys all = (all.0, init_all P xs ys all.1)

init_ordered : {X : Type 0} (cmp : X → X → Ordering) (xs ys : List X) → IsInOrder cmp (xs ++ ys) → IsInOrder cmp xs
init_ordered cmp [] ys in_order = tt
init_ordered cmp (x ∷ xs) ys in_order = (init_all (λ y. cmp x y ≡ Less) xs ys in_order.0, init_ordered cmp xs ys in_order.1)

-- the first of some records in order
init_in_order : (xs ys : List Record) → AreInOrder (xs ++ ys) → AreInOrder xs
init_in_order xs ys in_order = record {
  keys = All-from_recursion HasKey xs (init_all HasKey xs ys (recursion_from_All HasKey (xs ++ ys) in_order.keys));
  apart = init_ordered Rattle.ioam_collect.specs.Unite.pair_meet (keyed xs) (keyed ys) (subst AreApart (keyed-append xs ys) in_order.apart);
}

middle : (P : Record → Type 0) (xs : List Record) (m : Record) (ms : List Record) → AllByRecursion P (xs ++ m ∷ ms) → P m
middle P [] m ms all = all.0
middle P (x ∷ xs) m ms all = middle P xs m ms all.1

-- of two lists of records at the front of the same octets one is a front of the other
one_front : (xs ys : List Record) (r s : List ℕ) → All IsRecord xs → All IsRecord ys → records_octets xs ++ r ≡ records_octets ys ++ s
    → ((more : List Record) × (ys ≡ xs ++ more) × (r ≡ records_octets more ++ s)) ⊎ ((more : List Record) × (xs ≡ ys ++ more) × (s ≡ records_octets more ++ r))
one_front [] ys r s all_x all_y same = inl (ys, refl, same)
one_front (x ∷ xs) [] r s all_x all_y same = inr (x ∷ xs, refl, sym same)
one_front (x ∷ xs) (y ∷ ys) r s all_x all_y same =
    let whole = sym (append_assoc (record_octets x) (records_octets xs) r) ∙ same ∙ append_assoc (record_octets y) (records_octets ys) s in
    let first = record_octets-same x y (records_octets xs ++ r) (records_octets ys ++ s) (All-head IsRecord x xs all_x) (All-head IsRecord y ys all_y) whole in
    let head : x ≡ y = first.0 in
    elim (one_front xs ys r s (All-tail IsRecord x xs all_x) (All-tail IsRecord y ys all_y) first.1) [
      | inl (more, is, rest) ↦ inl (more, ap (λ z. z ∷ ys) (sym head) ∙ ap (λ zs. x ∷ zs) is, rest)
      | inr (more, is, rest) ↦ inr (more, ap (λ z. z ∷ xs) head ∙ ap (λ zs. y ∷ zs) is, rest)
    ]

-- ---- where the records end

-- no record more may be taken
abbrev Ends : ℕ → List Record → List ℕ → Type 0
Ends count xs rest = (x : Record) (behind : List ℕ) → IsRecord x → rest ≡ record_octets x ++ behind → AreInOrder (xs ++ x ∷ []) → length xs < count → ⊥

-- a list that goes on behind these
goes_on : (count : ℕ) (xs ys : List Record) (r s : List ℕ) (m : Record) (ms : List Record) → Ends count xs r → ys ≡ xs ++ m ∷ ms → r ≡ records_octets (m ∷ ms) ++ s
    → All IsRecord ys → AreInOrder ys → length ys ≤ count → ⊥
goes_on count xs ys r s m ms ends is rest each in_order within =
    let all = recursion_from_All IsRecord (xs ++ m ∷ ms) (subst (All IsRecord) is each) in
    let split : xs ++ m ∷ ms ≡ (xs ++ m ∷ []) ++ ms = sym (append_assoc xs (m ∷ []) ms) in
    let front = init_in_order (xs ++ m ∷ []) ms (subst AreInOrder (is ∙ split) in_order) in
    let size : length ys ≡ length xs + length (m ∷ ms) = ap length is ∙ length-append xs (m ∷ ms) in
    ends m (records_octets ms ++ s) (middle IsRecord xs m ms all) (rest ∙ append_assoc (record_octets m) (records_octets ms) s) front (omega (arith, size, within))

same_place : (count : ℕ) (xs ys : List Record) (r s : List ℕ) → Ends count xs r → Ends count ys s → All IsRecord xs → All IsRecord ys → AreInOrder xs → AreInOrder ys
    → length xs ≤ count → length ys ≤ count → records_octets xs ++ r ≡ records_octets ys ++ s → (xs ≡ ys) × (r ≡ s)
same_place count xs ys r s ends_x ends_y all_x all_y order_x order_y within_x within_y same =
    let fronts = one_front xs ys r s all_x all_y same in
    elim fronts [
      | inl ([], is, rest) ↦ (sym (is ∙ append-nil xs), rest)
      | inl (m ∷ ms, is, rest) ↦ absurd (goes_on count xs ys r s m ms ends_x is rest all_y order_y within_y)
      | inr ([], is, rest) ↦ (is ∙ append-nil ys, sym rest)
      | inr (m ∷ ms, is, rest) ↦ absurd (goes_on count ys xs s r m ms ends_y is rest all_x order_x within_x)
    ]

-- ---- why they end

-- so many records are counted, and behind these stands this fault, or nothing
abbrev Halts : ℕ → List Record → List ℕ → Option PartFault → Type 0
Halts count xs rest None = (length xs ≡ count) × (rest ≡ [])
Halts count xs rest (Some fault.Mark) = ⊥
Halts count xs rest (Some (fault.Count found)) = ⊥
Halts count xs rest (Some (fault.Record f)) = (length xs < count) × Fault rest f
Halts count xs rest (Some fault.Order) = (length xs < count) × IsMisplaced xs rest
Halts count xs rest (Some (fault.Short have)) = (length xs < count) × IsCut rest × (have ≡ length rest)
Halts count xs rest (Some fault.Rest) = (length xs ≡ count) × (0 < length rest)

misplaced : (xs : List Record) (rest : List ℕ) → IsMisplaced xs rest → (x : Record) (behind : List ℕ) → IsRecord x → rest ≡ record_octets x ++ behind → AreInOrder (xs ++ x ∷ []) → ⊥
misplaced xs rest (y, after, is_y, front, never) x behind is_x there in_order =
    let same : y ≡ x = (record_octets-same y x after behind is_y is_x (sym front ∙ there)).0 in
    never (subst (λ z. AreInOrder (xs ++ z ∷ [])) (sym same) in_order)

halts_ends : (count : ℕ) (xs : List Record) (rest : List ℕ) (o : Option PartFault) → Halts count xs rest o → Ends count xs rest
halts_ends count xs rest None halts = λ x behind is_x front in_order less. let all = halts.0 in omega (arith, all, less)
halts_ends count xs rest (Some fault.Mark) halts = absurd halts
halts_ends count xs rest (Some (fault.Count found)) halts = absurd halts
halts_ends count xs rest (Some (fault.Record f)) halts = λ x behind is_x front in_order less. fault-no-record rest f halts.1 x behind is_x front
halts_ends count xs rest (Some fault.Order) halts = λ x behind is_x front in_order less. misplaced xs rest halts.1 x behind is_x front in_order
halts_ends count xs rest (Some (fault.Short have)) halts = λ x behind is_x front in_order less. cut-no-record rest halts.1 x behind is_x front
halts_ends count xs rest (Some fault.Rest) halts = λ x behind is_x front in_order less. let all = halts.0 in omega (arith, all, less)

module _ (count : ℕ) (xs : List Record) (rest : List ℕ) where
  abbrev H : Option PartFault → Type 0
  H o = Halts count xs rest o

  halts_same : (o p : Option PartFault) → H o → H p → o ≡ p
  halts_same None None x y = refl
  halts_same None (Some fault.Mark) x y = absurd y
  halts_same None (Some (fault.Count n)) x y = absurd y
  halts_same None (Some (fault.Record g)) x y = let a = x.0 in let b = y.0 in absurd (omega (arith, a, b))
  halts_same None (Some fault.Order) x y = let a = x.0 in let b = y.0 in absurd (omega (arith, a, b))
  halts_same None (Some (fault.Short n)) x y = let a = x.0 in let b = y.0 in absurd (omega (arith, a, b))
  halts_same None (Some fault.Rest) x y = let a = ap length x.1 in let b = y.1 in absurd (omega (arith, a, b))
  halts_same (Some fault.Mark) p x y = absurd x
  halts_same (Some (fault.Count m)) p x y = absurd x
  halts_same (Some (fault.Record f)) None x y = let a = x.0 in let b = y.0 in absurd (omega (arith, a, b))
  halts_same (Some (fault.Record f)) (Some fault.Mark) x y = absurd y
  halts_same (Some (fault.Record f)) (Some (fault.Count n)) x y = absurd y
  halts_same (Some (fault.Record f)) (Some (fault.Record g)) x y = ap (λ e. Some (fault.Record e)) (fault-unique rest f g x.1 y.1)
  halts_same (Some (fault.Record f)) (Some fault.Order) x y = absurd (fault-no-record rest f x.1 y.1.0 y.1.1 y.1.2 y.1.3)
  halts_same (Some (fault.Record f)) (Some (fault.Short n)) x y = absurd (cut-not-faulty rest f y.1 x.1)
  halts_same (Some (fault.Record f)) (Some fault.Rest) x y = let a = x.0 in let b = y.0 in absurd (omega (arith, a, b))
  halts_same (Some fault.Order) None x y = let a = x.0 in let b = y.0 in absurd (omega (arith, a, b))
  halts_same (Some fault.Order) (Some fault.Mark) x y = absurd y
  halts_same (Some fault.Order) (Some (fault.Count n)) x y = absurd y
  halts_same (Some fault.Order) (Some (fault.Record g)) x y = absurd (fault-no-record rest g y.1 x.1.0 x.1.1 x.1.2 x.1.3)
  halts_same (Some fault.Order) (Some fault.Order) x y = refl
  halts_same (Some fault.Order) (Some (fault.Short n)) x y = absurd (cut-no-record rest y.1 x.1.0 x.1.1 x.1.2 x.1.3)
  halts_same (Some fault.Order) (Some fault.Rest) x y = let a = x.0 in let b = y.0 in absurd (omega (arith, a, b))
  halts_same (Some (fault.Short m)) None x y = let a = x.0 in let b = y.0 in absurd (omega (arith, a, b))
  halts_same (Some (fault.Short m)) (Some fault.Mark) x y = absurd y
  halts_same (Some (fault.Short m)) (Some (fault.Count n)) x y = absurd y
  halts_same (Some (fault.Short m)) (Some (fault.Record g)) x y = absurd (cut-not-faulty rest g x.1 y.1)
  halts_same (Some (fault.Short m)) (Some fault.Order) x y = absurd (cut-no-record rest x.1 y.1.0 y.1.1 y.1.2 y.1.3)
  halts_same (Some (fault.Short m)) (Some (fault.Short n)) x y = ap (λ k. Some (fault.Short k)) (x.2 ∙ sym y.2)
  halts_same (Some (fault.Short m)) (Some fault.Rest) x y = let a = x.0 in let b = y.0 in absurd (omega (arith, a, b))
  halts_same (Some fault.Rest) None x y = let a = x.1 in let b = ap length y.1 in absurd (omega (arith, a, b))
  halts_same (Some fault.Rest) (Some fault.Mark) x y = absurd y
  halts_same (Some fault.Rest) (Some (fault.Count n)) x y = absurd y
  halts_same (Some fault.Rest) (Some (fault.Record g)) x y = let a = x.0 in let b = y.0 in absurd (omega (arith, a, b))
  halts_same (Some fault.Rest) (Some fault.Order) x y = let a = x.0 in let b = y.0 in absurd (omega (arith, a, b))
  halts_same (Some fault.Rest) (Some (fault.Short n)) x y = let a = x.0 in let b = y.0 in absurd (omega (arith, a, b))
  halts_same (Some fault.Rest) (Some fault.Rest) x y = refl

-- ---- behind the head

-- as far as this place stand some records, and then this fault, or nothing
record Stops (count : ℕ) (body : List ℕ) (place : ℕ) (o : Option PartFault) : Type 0 where
  records : List Record
  rest : List ℕ
  reaches : Reaches count body place records rest
  halts : Halts count records rest o

stops_same : (count : ℕ) (body : List ℕ) (p q : ℕ) (o u : Option PartFault) → Stops count body p o → Stops count body q u → (p ≡ q) × (o ≡ u)
stops_same count body p q o u a b =
    let same = same_place count a.records b.records a.rest b.rest (halts_ends count a.records a.rest o a.halts) (halts_ends count b.records b.rest u b.halts)
    a.reaches.splits.each b.reaches.splits.each a.reaches.in_order b.reaches.in_order a.reaches.within b.reaches.within
    (sym a.reaches.splits.is ∙ b.reaches.splits.is) in
    let P : List Record → Type 0 = λ xs. Halts count xs a.rest u in
    let Q : List ℕ → Type 0 = λ rest. Halts count b.records rest u in
    let there : Halts count a.records a.rest u = subst P (sym same.0) (subst Q (sym same.1) b.halts) in (
      a.reaches.at ∙ ap (λ xs. length (records_octets xs)) same.0 ∙ sym b.reaches.at,
      halts_same count a.records a.rest o u a.halts there,
    )

stops_fault : (count : ℕ) (body : List ℕ) (place : ℕ) (f : PartFault) → HasFaultBehind count body place f → Stops count body place (Some f)
stops_fault count body place fault.Mark bad = absurd bad
stops_fault count body place (fault.Count found) bad = absurd bad
stops_fault count body place (fault.Record f) (xs, rest, reaches, less, is) = record { records = xs; rest = rest; reaches = reaches; halts = (less, is) }
stops_fault count body place fault.Order (xs, rest, reaches, less, is) = record { records = xs; rest = rest; reaches = reaches; halts = (less, is) }
stops_fault count body place (fault.Short have) (xs, rest, reaches, less, is) = record { records = xs; rest = rest; reaches = reaches; halts = (less, is.0, is.1) }
stops_fault count body place fault.Rest (xs, rest, reaches, all, is) = record { records = xs; rest = rest; reaches = reaches; halts = (all, is) }

-- ---- the whole

-- what stands in the way of the head, or behind it
abbrev IsCutMark : List ℕ → ℕ → Option PartFault → Type 0
IsCutMark octets at o = (length octets < 8) × (at ≡ 0) × (o ≡ Some (fault.Short (length octets)))

abbrev IsBadMark : List ℕ → ℕ → Option PartFault → Type 0
IsBadMark octets at o = (8 ≤ length octets) × (take 8 octets ≡ mark → ⊥) × (at ≡ 0) × (o ≡ Some fault.Mark)

abbrev IsCutCount : List ℕ → ℕ → Option PartFault → Type 0
IsCutCount octets at o = (front : List ℕ) × (octets ≡ mark ++ front) × (length front < 4) × (at ≡ 8) × (o ≡ Some (fault.Short (length front)))

abbrev IsBadCount : List ℕ → ℕ → Option PartFault → Type 0
IsBadCount octets at o = (found : ℕ) × (rest : List ℕ) × (octets ≡ head_octets found ++ rest) × (most_records < found) × (found < 4294967296) × (at ≡ 8) × (o ≡ Some (fault.Count found))

abbrev IsBehind : List ℕ → ℕ → Option PartFault → Type 0
IsBehind octets at o = (count : ℕ) × (body : List ℕ) × (place : ℕ) × (octets ≡ head_octets count ++ body) × (count ≤ most_records) × (at ≡ 12 + place) × Stops count body place o

abbrev Counted : List ℕ → ℕ → Option PartFault → Type 0
Counted octets at o = IsBadCount octets at o ⊎ IsBehind octets at o

abbrev Marked : List ℕ → ℕ → Option PartFault → Type 0
Marked octets at o = IsCutCount octets at o ⊎ Counted octets at o

abbrev Eight : List ℕ → ℕ → Option PartFault → Type 0
Eight octets at o = IsBadMark octets at o ⊎ Marked octets at o

abbrev Verdict : List ℕ → ℕ → Option PartFault → Type 0
Verdict octets at o = IsCutMark octets at o ⊎ Eight octets at o

behind_fault : (octets : List ℕ) (at : ℕ) (f : PartFault) → IsBehindHead octets at f → Verdict octets at (Some f)
behind_fault octets at f (count, body, place, is, few, there, bad) = inr (inr (inr (inr (count, body, place, is, few, there, stops_fault count body place f bad))))

has_fault : (octets : List ℕ) (at : ℕ) (f : PartFault) → HasFault octets at f → Verdict octets at (Some f)
has_fault octets at fault.Mark bad = inr (inl (bad.1, bad.2, bad.0, refl))
has_fault octets at (fault.Count found) bad = inr (inr (inr (inl (found, bad.1.0, bad.1.1, bad.1.2, bad.1.3, bad.0, refl))))
has_fault octets at (fault.Record f) bad = behind_fault octets at (fault.Record f) bad
has_fault octets at fault.Order bad = behind_fault octets at fault.Order bad
has_fault octets at (fault.Short have) (inl (inl cut)) = inl (cut.1, cut.0, ap (λ n. Some (fault.Short n)) cut.2)
has_fault octets at (fault.Short have) (inl (inr cut)) = inr (inr (inl (cut.1.0, cut.1.1, cut.1.2, cut.0, ap (λ n. Some (fault.Short n)) cut.1.3)))
has_fault octets at (fault.Short have) (inr bad) = behind_fault octets at (fault.Short have) bad
has_fault octets at fault.Rest bad = behind_fault octets at fault.Rest bad

is_part : (octets : List ℕ) (xs : List Record) → IsPart octets xs → Verdict octets (12 + length (records_octets xs)) None
is_part octets xs part = inr (inr (inr (inr (
  length xs,
  records_octets xs,
  length (records_octets xs),
  part.is,
  part.few,
  refl,
  record {
    records = xs;
    rest = [];
    reaches = record { splits = record { each = part.each; is = sym (append-nil (records_octets xs)) }; in_order = part.in_order; within = omega arith; at = refl };
    halts = (refl, refl);
  },
))))

-- ---- one verdict

mark_there : (octets front : List ℕ) → octets ≡ mark ++ front → take 8 octets ≡ mark
mark_there octets front is = ap (take 8) is

counted_mark : (octets : List ℕ) (at : ℕ) (o : Option PartFault) → Counted octets at o → (front : List ℕ) × (octets ≡ mark ++ front) × (4 ≤ length front)
counted_mark octets at o (inl (found, rest, is, over, small, there, why)) = (four_octets found ++ rest, is ∙ append_assoc mark (four_octets found) rest, omega (arith, length-append (four_octets found) rest))
counted_mark octets at o (inr (count, body, place, is, few, there, stops)) = (four_octets count ++ body, is ∙ append_assoc mark (four_octets count) body, omega (arith, length-append (four_octets count) body))

marked_mark : (octets : List ℕ) (at : ℕ) (o : Option PartFault) → Marked octets at o → (front : List ℕ) × (octets ≡ mark ++ front)
marked_mark octets at o (inl (front, is, few, there, why)) = (front, is)
marked_mark octets at o (inr counted) = let found = counted_mark octets at o counted in (found.0, found.1)

eight_long : (octets : List ℕ) (at : ℕ) (o : Option PartFault) → Eight octets at o → 8 ≤ length octets
eight_long octets at o (inl bad) = bad.0
eight_long octets at o (inr marked) =
    let found = marked_mark octets at o marked in
    omega (arith, ap length found.1, length-append mark found.0)

front_same : (octets f g : List ℕ) → octets ≡ mark ++ f → octets ≡ mark ++ g → f ≡ g
front_same octets f g x y = ap (drop 8) (sym x ∙ y)

head_same : (octets : List ℕ) (m n : ℕ) (r s : List ℕ) → m < 4294967296 → n < 4294967296 → octets ≡ head_octets m ++ r → octets ≡ head_octets n ++ s → (m ≡ n) × (r ≡ s)
head_same octets m n r s small_m small_n x y =
    let whole : four_octets m ++ r ≡ four_octets n ++ s = ap (drop 8) (sym x ∙ y) in
    four_octets-same m n r s small_m small_n whole

module _ (octets : List ℕ) (p q : ℕ) (o u : Option PartFault) where
  abbrev Same : Type 0
  Same = (p ≡ q) × (o ≡ u)

  counted_same : Counted octets p o → Counted octets q u → Same
  counted_same (inl (m, r, is, over, small, at, why)) (inl (n, s, is', over', small', at', why')) =
      let same : m ≡ n = (head_same octets m n r s small small' is is').0 in
      (at ∙ sym at', why ∙ ap (λ k. Some (fault.Count k)) same ∙ sym why')
  counted_same (inl (m, r, is, over, small, at, why)) (inr (n, s, place, is', few, at', stops)) =
      let same : m ≡ n = (head_same octets m n r s small (omega (arith, few)) is is').0 in
      absurd (omega (arith, same, over, few))
  counted_same (inr (m, r, place, is, few, at, stops)) (inl (n, s, is', over, small, at', why)) =
      let same : m ≡ n = (head_same octets m n r s (omega (arith, few)) small is is').0 in
      absurd (omega (arith, same, over, few))
  counted_same (inr (m, r, place, is, few, at, stops)) (inr (n, s, place', is', few', at', stops')) =
      let both = head_same octets m n r s (omega (arith, few)) (omega (arith, few')) is is' in
      let P : ℕ → Type 0 = λ count. Stops count r place' u in
      let Q : List ℕ → Type 0 = λ body. Stops n body place' u in
      let there : Stops m r place' u = subst P (sym both.0) (subst Q (sym both.1) stops') in
      let same = stops_same m r place place' o u stops there in
      (at ∙ ap (λ k. 12 + k) same.0 ∙ sym at', same.1)

  cut_count : IsCutCount octets p o → Counted octets q u → ⊥
  cut_count (front, is, few, there, why) counted =
      let found = counted_mark octets q u counted in
      let same : front ≡ found.0 = front_same octets front found.0 is found.1 in
      omega (arith, few, found.2, ap length same)

  cut_count' : Counted octets p o → IsCutCount octets q u → ⊥
  cut_count' counted (front, is, few, there, why) =
      let found = counted_mark octets p o counted in
      let same : front ≡ found.0 = front_same octets front found.0 is found.1 in
      omega (arith, few, found.2, ap length same)

  marked_same : Marked octets p o → Marked octets q u → Same
  marked_same (inl (f, is, few, at, why)) (inl (g, is', few', at', why')) =
      (at ∙ sym at', why ∙ ap (λ k. Some (fault.Short (length k))) (front_same octets f g is is') ∙ sym why')
  marked_same (inl x) (inr y) = absurd (cut_count x y)
  marked_same (inr x) (inl y) = absurd (cut_count' x y)
  marked_same (inr x) (inr y) = counted_same x y

  eight_same : Eight octets p o → Eight octets q u → Same
  eight_same (inl x) (inl y) = (x.2 ∙ sym y.2, x.3 ∙ sym y.3)
  eight_same (inl x) (inr y) = let found = marked_mark octets q u y in absurd (x.1 (mark_there octets found.0 found.1))
  eight_same (inr x) (inl y) = let found = marked_mark octets p o x in absurd (y.1 (mark_there octets found.0 found.1))
  eight_same (inr x) (inr y) = marked_same x y

  verdict_same : Verdict octets p o → Verdict octets q u → Same
  verdict_same (inl x) (inl y) = (x.1 ∙ sym y.1, x.2 ∙ sym y.2)
  verdict_same (inl x) (inr y) = let few = x.0 in let many = eight_long octets q u y in absurd (omega (arith, few, many))
  verdict_same (inr x) (inl y) = let few = y.0 in let many = eight_long octets p o x in absurd (omega (arith, few, many))
  verdict_same (inr x) (inr y) = eight_same x y

-- ---- so

some_same : (f g : PartFault) → Some f ≡ Some g → f ≡ g
some_same f g same = cc

some_none : (f : PartFault) → Some f ≡ None → ⊥
some_none f same = cc

pub one_fault : (octets : List ℕ) (p q : ℕ) (f g : PartFault) → HasFault octets p f → HasFault octets q g → (p ≡ q) × (f ≡ g)
one_fault octets p q f g x y =
    let same = verdict_same octets p q (Some f) (Some g) (has_fault octets p f x) (has_fault octets q g y) in
    (same.0, some_same f g same.1)

pub part_or_fault : (octets : List ℕ) (xs : List Record) (at : ℕ) (f : PartFault) → IsPart octets xs → HasFault octets at f → ⊥
part_or_fault octets xs at f part bad =
    some_none f (verdict_same octets at (12 + length (records_octets xs)) (Some f) None (has_fault octets at f bad) (is_part octets xs part)).1
