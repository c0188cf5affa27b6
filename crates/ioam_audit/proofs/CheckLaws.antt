-- Elements with any checksum complement: the rows of the table, of which that of bit 7 writes another number.
use Rattle.std.proofs.Common.{◌≡◌, ℕ, ◌+◌, ◌*◌, ◌-◌, ◌≤◌, Bool, true, false, cond, List, [], ◌∷◌, ◌++◌, length, take, drop, replicate, append_assoc, length-append, length-take, arith, refl, sym, ap, ◌∙◌}
use Rattle.std.specs.Prelude.{nat_eq}
use Rattle.std.proofs.lemmas.List.{drop_at, take_at, length-replicate, take-append-le, drop-append-le}
use Rattle.std.proofs.Math.Seq.{take-append-add, drop-append-add}
use Rattle.ioam_base.specs.Octets.{u16_at, written}
use Rattle.ioam_base.specs.Words.{two_octets, four_octets}
use Rattle.ioam_base.proofs.WrittenLaws.{length-written, written-at}
use Rattle.ioam_data.specs.Bits.{has, part, when_has, past}
use Rattle.ioam_data.specs.Fields.{named, fields_of}
use Rattle.ioam_data.specs.Kind.{words}
use Rattle.ioam_data.specs.Shape.{words_of, number_of}
use Rattle.ioam_data.specs.Table.{Rule, table, rows, words_by, octets_by, numbers_by}
use Rattle.ioam_data.specs.View.{Seen}
use Rattle.ioam_data.specs.Written.{element_of, snapshot_of}
use Rattle.ioam_trace.specs.Filling.{less_remaining}
use Rattle.ioam_trace.specs.Head.{node_len_of, remaining_of, kind_of}
use Rattle.ioam_trace.specs.declared.addition.Filled.TheVariants.{Added}
use Rattle.ioam_audit.specs.Becomes.{words_before, with_check}
use Rattle.ioam_audit.specs.Decided.{with_element}
use Rattle.ioam_data.proofs.TableLaws.{length-octets_by, octets_by-append, kept_by, numbers_by-kept, drop-rest_by}

-- an element with this checksum complement, where the type has it
abbrev pub checked : ℕ → List ℕ → ℕ → List ℕ
checked kind element check = cond (has kind 7) (written element (4 * words_before kind) (four_octets check)) element

-- rows, of which that of bit 7 writes this number
abbrev pub checked_by : ℕ → List Rule → List Rule
checked_by check [] = []
checked_by check (rule ∷ rules) = record rule { number = cond (nat_eq rule.bit 7) (λ (view : Seen). check) rule.number } ∷ checked_by check rules

words-checked : (rules : List Rule) (check kind : ℕ) → words_by (checked_by check rules) kind ≡ words_by rules kind
words-checked [] check kind = refl
words-checked (rule ∷ rules) check kind = ap (λ n. cond (has kind rule.bit) (words_of rule.shape) 0 + n) (words-checked rules check kind)

numbers-checked : (rules : List Rule) (check kind : ℕ) (octets : List ℕ) → numbers_by rules kind octets ≡ numbers_by (checked_by check rules) kind octets
numbers-checked [] check kind octets = refl
numbers-checked (rule ∷ rules) check kind octets =
    ap (λ numbers. when_has kind rule.bit (number_of rule.shape octets) ∷ numbers) (numbers-checked rules check kind (past kind rule.bit (words_of rule.shape) octets))

-- a part that is there or not is replaced by one of its length
replaced : (b : Bool) (before old new rest : List ℕ) (at : ℕ) → length before ≡ at → length new ≡ length old
    → cond b (written (before ++ (cond b old [] ++ rest)) at new) (before ++ (cond b old [] ++ rest)) ≡ before ++ (cond b new [] ++ rest)
replaced true before old new rest at long same = written-at before old new rest at long same
replaced false before old new rest at long same = refl

module _ (kind node_len : ℕ) (view : Seen) (check : ℕ) where
  -- the fields with this checksum complement
  abbrev pub checked_fields : List ℕ
  checked_fields = octets_by (checked_by check table) kind view

  -- the words that fill the element up to NodeLen
  abbrev pub ones : List ℕ
  ones = replicate (4 * (node_len - words kind)) 255

  abbrev tail : List ℕ
  tail = ones ++ part kind 22 (snapshot_of view.snapshot)

  -- the element with this checksum complement
  pub checked-rows : checked kind (element_of kind node_len view) check ≡ checked_fields ++ (ones ++ part kind 22 (snapshot_of view.snapshot))
  unfolding element_of table
  checked-rows =
      let before = octets_by (rows 0 7) kind view in
      let after = octets_by (rows 8 4) kind view in
      let apart : element_of kind node_len view ≡ before ++ (part kind 7 (four_octets 4294967295) ++ (after ++ tail)) =
      ap (λ xs. xs ++ tail) (octets_by-append (rows 0 7) (rows 7 5) kind view) ∙ append_assoc before (part kind 7 (four_octets 4294967295) ++ after) tail
      ∙ ap (λ xs. before ++ xs) (append_assoc (part kind 7 (four_octets 4294967295)) after tail) in
      let joined : before ++ (part kind 7 (four_octets check) ++ (after ++ tail)) ≡ checked_fields ++ tail =
      ap (λ xs. before ++ xs) (sym (append_assoc (part kind 7 (four_octets check)) after tail))
      ∙ sym (append_assoc before (part kind 7 (four_octets check) ++ after) tail)
      ∙ ap (λ xs. xs ++ tail) (sym (octets_by-append (checked_by check (rows 0 7)) (checked_by check (rows 7 5)) kind view)) in
      ap (λ xs. checked kind xs check) apart
      ∙ replaced (has kind 7) before (four_octets 4294967295) (four_octets check) (after ++ tail) (4 * words_by (rows 0 7) kind) (length-octets_by (rows 0 7) kind view) refl
      ∙ joined

  pub checked_fields-long : length checked_fields ≡ 4 * words kind
  unfolding words
  checked_fields-long = length-octets_by (checked_by check table) kind view ∙ ap (λ n. 4 * n) (words-checked table check kind)

  -- what is read of it: each number as far as its field holds it, and ones
  pub fields_of-checked : (octets : List ℕ) → octets ≡ checked kind (element_of kind node_len view) check
      → fields_of kind node_len octets ≡ named (kept_by (checked_by check table) kind view) ones (fields_of kind node_len octets).snapshot
  unfolding fields_of words
  fields_of-checked octets is =
      let same = is ∙ checked-rows in
      let numbers = numbers-checked table check kind octets ∙ ap (numbers_by (checked_by check table) kind) same ∙ numbers_by-kept (checked_by check table) kind view tail in
      let rest = sym (drop-rest_by table kind octets) ∙ ap (drop (4 * words_by table kind)) same ∙ drop_at checked_fields tail (4 * words_by table kind) checked_fields-long in
      let filler = ap (take (4 * (node_len - words kind))) rest ∙ take_at ones (part kind 22 (snapshot_of view.snapshot)) (4 * (node_len - words kind)) (length-replicate (4 * (node_len - words kind)) 255) in
      λ i. named (numbers i) (filler i) (fields_of kind node_len octets).snapshot

-- a node writes all ones
pub checked-ones : (kind node_len : ℕ) (view : Seen) → checked kind (element_of kind node_len view) 4294967295 ≡ element_of kind node_len view
unfolding element_of table
checked-ones kind node_len view = checked-rows kind node_len view 4294967295

-- ---- the same in the trace

-- what is written into a part that was written
nested : (octets element part : List ℕ) (at k : ℕ) → at ≤ length octets → k + length part ≤ length element
    → written (written octets at element) (at + k) part ≡ written octets at (written element k part)
nested octets element part at k within inner =
    let front = take at octets in
    let rest = drop (at + length element) octets in
    let long : length front ≡ at = omega (arith, length-take at octets, within) in
    let first : take (at + k) (front ++ (element ++ rest)) ≡ front ++ take k element =
    ap (λ n. take (n + k) (front ++ (element ++ rest))) (sym long) ∙ take-append-add front (element ++ rest) k
    ∙ ap (λ xs. front ++ xs) (take-append-le k element rest (omega (arith, inner))) in
    let place : at + k + length part ≡ length front + (k + length part) = omega (arith, long) in
    let second : drop (at + k + length part) (front ++ (element ++ rest)) ≡ drop (k + length part) element ++ rest =
    ap (λ n. drop n (front ++ (element ++ rest))) place ∙ drop-append-add front (element ++ rest) (k + length part)
    ∙ drop-append-le (k + length part) element rest inner in
    (λ i. first i ++ (part ++ second i)) ∙ joined front (take k element) part (drop (k + length part) element) rest
    ∙ ap (λ n. front ++ (written element k part ++ drop (at + n) octets)) (sym (length-written element part k inner))
  where
    joined : (a b c d e : List ℕ) → (a ++ b) ++ (c ++ (d ++ e)) ≡ a ++ ((b ++ (c ++ d)) ++ e)
    joined a b c d e = simp append_assoc

-- an element of a type with bit 7 has room for the checksum complement
check_room : (kind node_len : ℕ) (view : Seen) → has kind 7 ≡ true → 4 * words_before kind + 4 ≤ length (element_of kind node_len view)
unfolding element_of table
check_room kind node_len view is =
    let one : ◌≡◌ {A = ℕ} (cond (has kind 7) 1 0) 1 = ap (λ b. cond b 1 0) is in
    omega (arith, one, length-octets_by table kind view, length-append (octets_by table kind view) (replicate (4 * (node_len - words kind)) 255 ++ part kind 22 (snapshot_of view.snapshot)))

-- an element that was added with this checksum complement
module _ (old : List ℕ) (amount : ℕ) (view : Seen) (check : ℕ) (space : 8 + 4 * remaining_of old ≤ length old) where
  abbrev low : List ℕ
  low = less_remaining old amount

  abbrev element : List ℕ
  element = element_of (kind_of old) (node_len_of old) view

  low_long : length (less_remaining old amount) ≡ length old
  low_long = length-written old (two_octets (u16_at old 2 - amount)) 2 (omega (arith, space))

  by_bit : (b : Bool) (at k : ℕ) → at ≤ length low → (b ≡ true → k + 4 ≤ length element)
      → cond b (written (written low at element) (at + k) (four_octets check)) (written low at element)
      ≡ written low at (cond b (written element k (four_octets check)) element)
  by_bit true at k within room = nested low element (four_octets check) at k within (room refl)
  by_bit false at k within room = refl

  pub checked-added : with_check old (Added amount) (with_element old amount (element_of (kind_of old) (node_len_of old) view)) check
      ≡ with_element old amount (checked (kind_of old) (element_of (kind_of old) (node_len_of old) view) check)
  checked-added = by_bit (has (kind_of old) 7) (8 + 4 * (remaining_of old - amount)) (4 * words_before (kind_of old)) (omega (arith, low_long, space))
      (check_room (kind_of old) (node_len_of old) view)
