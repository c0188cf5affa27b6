-- What a node leaves of the octets of a trace, as a function, is what it may leave, and nothing else is.
use Rattle.std.proofs.Common.{◌≡◌, ℕ, ◌+◌, ◌-◌, ◌*◌, ◌%◌, ◌<◌, ◌≤◌, Bool, true, false, eqb, leb, ◌&&◌, List, ◌∷◌, [], ◌++◌, length, take, drop, refl, sym, ap, ◌∙◌, arith, length-append, length-take, length-drop}
use Rattle.std.specs.Prelude.{IfSome}
use Rattle.std.specs.Int.{w16, to_be_bytes}
use Rattle.std.proofs.lemmas.Bool.Decides.{nat_tests}
use Rattle.ioam_base.specs.Octets.{u16_at, written}
use Rattle.ioam_data.specs.Kind.{words, can_add}
use Rattle.ioam_data.specs.Snapshot.{IsSnapshot}
use Rattle.ioam_data.specs.View.{Seen}
use Rattle.ioam_data.specs.Written.{element_of, element_words}
use Rattle.ioam_data.proofs.ElementLaws.{length-element_of, can_add-room}
use Rattle.ioam_trace.specs.Data.{trace_data, CanHold}
use Rattle.ioam_trace.specs.Filling.{Filling, IsSuited, words_to_add, less_remaining}
use Rattle.ioam_trace.specs.Head.{node_len_of, overflow_of, remaining_of, kind_of}
use Rattle.ioam_trace.specs.declared.addition.Filled.{Filled}
use Rattle.ioam_trace.specs.declared.addition.Filled.TheVariants.{Added, Overflowed, AlreadyOver, Unsuited}
use Rattle.ioam_trace.proofs.DataLaws.{trace_data-Filling}
use Rattle.ioam_trace.specs.Filled.{is_suited, answer_by, answer_of, octets_by, filled}

le_true : (m n : ℕ) → m ≤ n → leb m n ≡ true
le_true m n is = grind (arith, nat_tests)

le_false : (m n : ℕ) → n < m → leb m n ≡ false
le_false m n is = grind (arith, nat_tests)

true_le : (m n : ℕ) → leb m n ≡ true → m ≤ n
true_le m n is = grind (arith, nat_tests)

false_le : (m n : ℕ) → leb m n ≡ false → n < m
false_le m n is = grind (arith, nat_tests)

is_one : (n : ℕ) → n ≡ 1 → eqb n 1 ≡ true
is_one n is = grind (arith, nat_tests)

is_zero : (n : ℕ) → n ≡ 0 → eqb n 1 ≡ false
is_zero n is = grind (arith, nat_tests)

one_is : (n : ℕ) → eqb n 1 ≡ true → n ≡ 1
one_is n is = grind (arith, nat_tests)

zero_is : (n : ℕ) → eqb (n % 2) 1 ≡ false → n % 2 ≡ 0
zero_is n is = grind (arith, nat_tests)

equal : (m n : ℕ) → eqb m n ≡ true → m ≡ n
equal m n is = grind (arith, nat_tests)

equal_true : (m n : ℕ) → m ≡ n → eqb m n ≡ true
equal_true m n is = grind (arith, nat_tests)

three : (a b c : Bool) → (a && (b && c)) ≡ true → (a ≡ true) × (b ≡ true) × (c ≡ true)
three true true true is = (refl, refl, refl)
three true true false is = absurd (cc is)
three true false c is = absurd (cc is)
three false b c is = absurd (cc is)

all_three : (a b c : Bool) → a ≡ true → b ≡ true → c ≡ true → (a && (b && c)) ≡ true
all_three true true true a b c = refl
all_three true true false a b c = absurd (cc c)
all_three true false c a b k = absurd (cc b)
all_three false b c a k l = absurd (cc a)

suited_is : (octets : List ℕ) → is_suited octets ≡ true → IsSuited octets
suited_is octets is =
    let parts = three (eqb (length octets % 4) 0) (leb (8 + 4 * remaining_of octets) (length octets)) (can_add (kind_of octets) (node_len_of octets)) is in
    record { in_words = equal _ _ parts.0; space = true_le _ _ parts.1; can = parts.2 }

is_suited-true : (octets : List ℕ) → IsSuited octets → is_suited octets ≡ true
is_suited-true octets suited =
    all_three (eqb (length octets % 4) 0) (leb (8 + 4 * remaining_of octets) (length octets)) (can_add (kind_of octets) (node_len_of octets))
    (equal_true _ _ suited.in_words) (le_true _ _ suited.space) suited.can

-- ---- the function meets the relation

module _ (old : List ℕ) (view : Seen) where
  abbrev amount : ℕ
  amount = words_to_add old view

  by_tests : (begins over suited fits : Bool) → leb 8 (length old) ≡ begins → eqb (overflow_of old) 1 ≡ over → is_suited old ≡ suited
      → leb amount (remaining_of old) ≡ fits
      → Filling old view (octets_by old view (answer_by begins over suited fits amount)) (answer_by begins over suited fits amount)
  by_tests false over suited fits b o s f = let short = false_le 8 (length old) b in (λ begins. absurd (omega arith), refl)
  by_tests true true suited fits b o s f = (true_le _ _ b, one_is _ o, refl)
  by_tests true false false fits b o s f =
      let never : is_suited old ≡ true → ⊥ = λ is. absurd (cc (sym s ∙ is)) in
      (λ begins. (zero_is _ o, λ is. never (is_suited-true old is)), refl)
  by_tests true false true false b o s f =
      (record { begins = true_le _ _ b; clear = zero_is _ o }, suited_is old s, false_le _ _ f, refl)
  by_tests true false true true b o s f =
      (record { begins = true_le _ _ b; clear = zero_is _ o }, suited_is old s, refl, true_le _ _ f, refl)

  pub Filling-filled : Filling old view (filled old view) (answer_of old view)
  unfolding filled
  Filling-filled = by_tests (leb 8 (length old)) (eqb (overflow_of old) 1) (is_suited old) (leb amount (remaining_of old)) refl refl refl refl

-- ---- and nothing else meets it

module _ (old : List ℕ) (view : Seen) where
  abbrev width : ℕ
  width = words_to_add old view

  at_tests : (begins over suited fits : Bool) → leb 8 (length old) ≡ begins → eqb (overflow_of old) 1 ≡ over → is_suited old ≡ suited
      → leb width (remaining_of old) ≡ fits → answer_of old view ≡ answer_by begins over suited fits width
  at_tests begins over suited fits b o s f = λ i. answer_by (b i) (o i) (s i) (f i) width

  short_answer : length old < 8 → answer_of old view ≡ Unsuited
  short_answer short = ap (λ b. answer_by b (eqb (overflow_of old) 1) (is_suited old) (leb width (remaining_of old)) width) (le_false 8 (length old) short)

  not_suited : (suited : Bool) → is_suited old ≡ suited → ¬ IsSuited old → 8 ≤ length old → overflow_of old ≡ 0 → answer_of old view ≡ Unsuited
  not_suited true s never begins clear = absurd (never (suited_is old s))
  not_suited false s never begins clear = at_tests true false false (leb width (remaining_of old)) (le_true _ _ begins) (is_zero _ clear) s refl

  pub answer-Filling : (new : List ℕ) (answer : Filled) → Filling old view new answer → answer_of old view ≡ answer
  answer-Filling new AlreadyOver f =
      at_tests true true (is_suited old) (leb width (remaining_of old)) (le_true _ _ f.0) (is_one _ f.1) refl refl
  answer-Filling new Unsuited f = by_length (leb 8 (length old)) refl where
    by_length : (b : Bool) → leb 8 (length old) ≡ b → answer_of old view ≡ Unsuited
    by_length true b = let r = f.0 (true_le _ _ b) in not_suited (is_suited old) refl r.1 (true_le _ _ b) r.0
    by_length false b = short_answer (false_le _ _ b)
  answer-Filling new Overflowed f =
      at_tests true false true false (le_true _ _ f.0.begins) (is_zero _ f.0.clear) (is_suited-true old f.1) (le_false _ _ f.2)
  answer-Filling new (Added n) f =
      at_tests true false true true (le_true _ _ f.0.begins) (is_zero _ f.0.clear) (is_suited-true old f.1) (le_true _ _ (omega (arith, f.2, f.3)))
      ∙ ap Added (sym f.2)

  by_answer : (new : List ℕ) (answer : Filled) → Filling old view new answer → new ≡ octets_by old view answer
  by_answer new AlreadyOver f = f.2
  by_answer new Unsuited f = f.1
  by_answer new Overflowed f = f.3
  by_answer new (Added n) f = f.4

  pub filled-Filling : (new : List ℕ) (answer : Filled) → Filling old view new answer → new ≡ filled old view
  unfolding filled
  filled-Filling new answer f = by_answer new answer f ∙ ap (λ a. octets_by old view a) (sym (answer-Filling new answer f))

-- ---- a trace

pub filled-trace : (namespace kind capacity : ℕ) (es : List (List ℕ)) (view : Seen) → CanHold namespace kind capacity es
    → IfSome view.snapshot (λ s. IsSnapshot s.0 s.1)
    → filled (trace_data namespace kind capacity es) view ≡ trace_data namespace kind capacity (es ++ element_of kind (words kind) view ∷ [])
filled-trace namespace kind capacity es view holds snapshot =
    let old = trace_data namespace kind capacity es in
    trace_data-Filling namespace kind capacity es view (filled old view) (answer_of old view) holds snapshot (Filling-filled old view)

-- ---- the length stays

pub length-written : (octets part : List ℕ) (at : ℕ) → at + length part ≤ length octets → length (written octets at part) ≡ length octets
length-written octets part at fits =
    omega (arith, length-append (take at octets) (part ++ drop (at + length part) octets), length-append part (drop (at + length part) octets), length-take at octets, length-drop (at + length part) octets)

length-by : (old : List ℕ) (view : Seen) (new : List ℕ) (answer : Filled) → IfSome view.snapshot (λ s. IsSnapshot s.0 s.1)
    → Filling old view new answer → length new ≡ length old
length-by old view new AlreadyOver snapshot f = ap length f.2
length-by old view new Unsuited snapshot f = ap length f.1
length-by old view new Overflowed snapshot f = ap length f.3 ∙ length-written old (to_be_bytes w16 (u16_at old 2 + 1024)) 2 (omega (arith, f.0.begins))
length-by old view new (Added n) snapshot f =
    let begins : 8 ≤ length old = f.0.begins in
    let e = element_of (kind_of old) (node_len_of old) view in
    let long : length e ≡ 4 * element_words (kind_of old) (node_len_of old) view =
    length-element_of (kind_of old) (node_len_of old) view (can_add-room _ _ f.1.can) snapshot in
    let lowered : length (less_remaining old n) ≡ length old = length-written old (to_be_bytes w16 (u16_at old 2 - n)) 2 (omega arith) in
    let space : 8 + 4 * remaining_of old ≤ length old = f.1.space in
    let is : n ≡ element_words (kind_of old) (node_len_of old) view = f.2 in
    let within : n ≤ remaining_of old = f.3 in
    ap length f.4 ∙ length-written (less_remaining old n) e (8 + 4 * (remaining_of old - n)) (omega arith) ∙ lowered

pub length-filled : (old : List ℕ) (view : Seen) → IfSome view.snapshot (λ s. IsSnapshot s.0 s.1) → length (filled old view) ≡ length old
length-filled old view snapshot = length-by old view (filled old view) (answer_of old view) snapshot (Filling-filled old view)
