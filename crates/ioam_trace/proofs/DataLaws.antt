-- Laws of the octets of a trace that nodes filled.
use Rattle.std.proofs.Common.{◌≡◌, ℕ, zero, suc, ◌+◌, ◌*◌, ◌-◌, ◌/◌, ◌<◌, ◌≤◌, Bool, true, false, cond, List, [], ◌∷◌, ◌++◌, length, take, drop, reverse, replicate, append_assoc, arith, refl, sym, ap, ◌∙◌, subst, None, Result, Ok, Err, inl, inr}
use Rattle.std.specs.Prelude.{IfSome, OnOk, is_ok, nat_le, All, if◌then◌else◌}
use Rattle.std.specs.List.{concat}
use Rattle.std.proofs.lemmas.List.{length-append, length-replicate, reverse-append, take_at, drop_at, replicate-append-replicate, append-nil, take-replicate}
use Rattle.std.proofs.lemmas.List.Folds.{concat-append}
use Rattle.std.proofs.lemmas.Grind.{reverse_onto}
use Rattle.std.proofs.lemmas.Bool.{cases_lt, lt-ltb, le-ltb}
use Rattle.std.proofs.Math.Seq.{take-append-add, drop-append-add}
use Rattle.ioam_base.specs.Octets.{u16_at, written}
use Rattle.ioam_data.specs.Kind.{words, can_add}
use Rattle.ioam_data.specs.Elements.{IsElement}
use Rattle.ioam_data.specs.View.{Seen}
use Rattle.ioam_data.specs.Written.{element_of, element_words}
use Rattle.ioam_data.proofs.KindLaws.{words-small, is_entry_type-can_add, can_add-fits}
use Rattle.ioam_data.specs.Snapshot.{IsSnapshot}
use Rattle.ioam_data.proofs.ElementLaws.{IsElement-element_of, length-element_of}
use Rattle.ioam_trace.specs.Data.{header, words_in, recorded, AreRecorded, is_over, trace_data, CanHold}
use Rattle.ioam_trace.specs.Recorded.{ReadsAgain}
use Rattle.ioam_trace.specs.Area.{Holds}
use Rattle.ioam_trace.specs.Read.{IsHead, Carries, Reads, elements_in, fault_of, elements_behind}
use Rattle.ioam_trace.specs.declared.head.TraceHead.{TraceHead}
use Rattle.ioam_trace.specs.declared.trace.Trace.{Trace}
use Rattle.ioam_trace.specs.declared.fault.TraceFault.{TraceFault}
use Rattle.ioam_trace.proofs.ConcatLaws.{All-reverse, Holds-concat}
use Rattle.ioam_trace.proofs.ReadLaws.{fault_of-Carries, fault_of-HasFault, elements_behind-Carries}
use Rattle.ioam_trace.specs.Filling.{Filling, IsSuited, words_to_add, with_lengths, less_remaining}
use Rattle.ioam_trace.specs.Head.{node_len_of, flags_of, overflow_of, remaining_of, kind_of}
use Rattle.ioam_trace.specs.declared.addition.Filled.{Filled}
use Rattle.ioam_trace.specs.declared.addition.Filled.TheVariants.{Added, Overflowed, AlreadyOver, Unsuited}
use Rattle.ioam_trace.proofs.AreaLaws.{size_at-in_words}
use Rattle.ioam_trace.proofs.HeadLaws.{IsHead-octets, lengths-header, node_len_of-header, overflow_of-header, remaining_of-header, kind_of-header}
use Rattle.ioam_trace.proofs.RecordedLaws.{total, total-cons, total-push, recorded-fits, recorded-all, total-recorded, recorded-push_over, recorded-push_not, recorded-push_fits, AreRecorded-recorded}

-- ---- lists

-- a part written over as many octets
written-at : (front old part rest : List ℕ) (at : ℕ) → length front ≡ at → length old ≡ length part
    → written (front ++ (old ++ rest)) at part ≡ front ++ (part ++ rest)
written-at front old part rest at is_at same =
    let place : drop (at + length part) (front ++ (old ++ rest)) ≡ rest =
    ap (λ n. drop (n + length part) (front ++ (old ++ rest))) (sym is_at)
    ∙ drop-append-add front (old ++ rest) (length part) ∙ drop_at old rest (length part) same in
    ap (λ ys. ys ++ (part ++ drop (at + length part) (front ++ (old ++ rest)))) (take_at front (old ++ rest) at is_at)
    ∙ ap (λ ys. front ++ (part ++ ys)) place

reverse-cons : (e : List ℕ) (es : List (List ℕ)) → reverse (e ∷ es) ≡ reverse es ++ e ∷ []
reverse-cons e es = reverse_onto es e []

reverse-push : (es : List (List ℕ)) (e : List ℕ) → reverse (es ++ e ∷ []) ≡ e ∷ reverse es
reverse-push es e = reverse-append es (e ∷ [])

-- ---- elements

All-first : (P : List ℕ → Type 0) (e : List ℕ) (es : List (List ℕ)) → All P (e ∷ es) → P e
All-first P e es all = all 0 e (omega arith)

All-rest : (P : List ℕ → Type 0) (e : List ℕ) (es : List (List ℕ)) → All P (e ∷ es) → All P es
All-rest P e es all k d below = all (suc k) d (omega arith)

pub words_in-IsElement : (kind node_len : ℕ) (e : List ℕ) → IsElement kind node_len e → 4 * words_in e ≡ length e
words_in-IsElement kind node_len e element = omega (arith, size_at-in_words kind node_len e 0, element.whole)

length-concat : (kind node_len : ℕ) (es : List (List ℕ)) → All (IsElement kind node_len) es → length (concat (reverse es)) ≡ 4 * total es
length-concat kind node_len [] all = refl
length-concat kind node_len (e ∷ es) all =
    let rest = length-concat kind node_len es (All-rest (IsElement kind node_len) e es all) in
    let last = words_in-IsElement kind node_len e (All-first (IsElement kind node_len) e es all) in
    ap (λ xs. length (concat xs)) (reverse-cons e es)
    ∙ ap length (concat-append (reverse es) (e ∷ []))
    ∙ length-append (concat (reverse es)) (e ++ [])
    ∙ omega (arith, total-cons e es, length-append e [])

All-recorded : (P : List ℕ → Type 0) (capacity : ℕ) (es : List (List ℕ)) → All P es → All P (recorded capacity es)
All-recorded P capacity [] all = all
All-recorded P capacity (e ∷ es) all =
    all_either (nat_le (words_in e) capacity) (All-recorded P (capacity - words_in e) es (All-rest P e es all))
  where
    all_either : (b : Bool) → All P (recorded (capacity - words_in e) es) → All P (cond b (e ∷ recorded (capacity - words_in e) es) [])
    all_either true rest zero d below = All-first P e es all
    all_either true rest (suc k) d below = rest k d (omega arith)
    all_either false rest k d below = absurd (omega arith)

-- ---- the octets by the elements that are recorded

abbrev data_of : ℕ → ℕ → ℕ → Bool → List (List ℕ) → List ℕ
data_of namespace kind capacity over elements =
    header namespace (words kind) (if over then 8 else 0) (capacity - total elements) kind 0
    ++ (replicate (4 * (capacity - total elements)) 0 ++ concat (reverse elements))

trace_data-is : (namespace kind capacity : ℕ) (es : List (List ℕ))
    → trace_data namespace kind capacity es ≡ data_of namespace kind capacity (is_over capacity es) (recorded capacity es)
unfolding trace_data
trace_data-is namespace kind capacity es = refl

split_zeros : (free width : ℕ) → width ≤ free → 4 * free ≡ 4 * (free - width) + 4 * width
split_zeros free width within = omega arith

one_or_none : (b : Bool) → cond b 8 0 / 8 ≡ cond b 1 0
one_or_none true = refl
one_or_none false = refl

eight_or_none : (b : Bool) → cond b 8 0 < 16
eight_or_none true = omega arith
eight_or_none false = omega arith

module _ (namespace kind capacity : ℕ) (elements : List (List ℕ)) (namespace_below : namespace < 65536) (kind_below : kind < 16777216)
    (capacity_below : capacity < 128) (can : can_add kind (words kind) ≡ true) (fits : total elements ≤ capacity)
    (all : All (IsElement kind (words kind)) elements) where
  abbrev free : ℕ
  free = capacity - total elements

  abbrev behind_header : List ℕ
  behind_header = replicate (4 * free) 0 ++ concat (reverse elements)

  -- a header with so many free words, zeros for them, and the rest
  abbrev with_zeros : ℕ → List ℕ → List ℕ
  with_zeros left rest = header namespace (words kind) 0 left kind 0 ++ (replicate (4 * left) 0 ++ rest)

  -- ---- what the header tells

  module _ (over : Bool) where
    abbrev written_data : List ℕ
    written_data = data_of namespace kind capacity over elements

    abbrev flags : ℕ
    flags = cond over 8 0

    node_len_is : node_len_of written_data ≡ words kind
    node_len_is = node_len_of-header namespace (words kind) flags free kind 0 behind_header (omega (arith, words-small kind)) (eight_or_none over) (omega arith)

    kind_is : kind_of written_data ≡ kind
    kind_is = kind_of-header namespace (words kind) flags free kind 0 behind_header kind_below (omega arith)

    remaining_is : remaining_of written_data ≡ free
    remaining_is = remaining_of-header namespace (words kind) flags free kind 0 behind_header (omega (arith, words-small kind)) (eight_or_none over) (omega arith)

    overflow_is : overflow_of written_data ≡ flags / 8
    overflow_is = overflow_of-header namespace (words kind) flags free kind 0 behind_header (omega (arith, words-small kind)) (eight_or_none over) (omega arith)

    lengths_are : u16_at written_data 2 ≡ words kind * 2048 + flags * 128 + free
    lengths_are = lengths-header namespace (words kind) flags free kind 0 behind_header (omega (arith, words-small kind)) (eight_or_none over) (omega arith)

    length_is : length written_data ≡ 8 + (4 * free + 4 * total elements)
    length_is =
        let long : length behind_header ≡ 4 * free + 4 * total elements =
        length-append (replicate (4 * free) 0) (concat (reverse elements))
        ∙ omega (arith, length-replicate {A = ℕ} (4 * free) 0, length-concat kind (words kind) elements all) in
        omega (arith, long)

    is_suited : IsSuited written_data
    is_suited =
        let P : ℕ → Type 0 = λ n. can_add n (words kind) ≡ true in
        let Q : ℕ → Type 0 = λ n. can_add (kind_of written_data) n ≡ true in
        record {
          in_words = omega (arith, length_is);
          space = omega (arith, length_is, remaining_is);
          can = subst Q (sym node_len_is) (subst P (sym kind_is) can);
        }

    -- the words that a view adds
    to_add_is : (view : Seen) → words_to_add written_data view ≡ element_words kind (words kind) view
    to_add_is view = ap (λ n. element_words n (node_len_of written_data) view) kind_is ∙ ap (λ n. element_words kind n view) node_len_is

  -- ---- what becomes of them

  -- with Overflow set nothing changes
  stays_over : (view : Seen) (new : List ℕ) (answer : Filled) → Filling (written_data true) view new answer → new ≡ written_data true
  stays_over view new AlreadyOver filling = filling.2
  stays_over view new Unsuited filling = filling.1
  stays_over view new Overflowed filling = absurd (omega (arith, filling.0.clear, overflow_is true))
  stays_over view new (Added amount) filling = absurd (omega (arith, filling.0.clear, overflow_is true))

  -- an element that does not fit sets the flag alone
  becomes_over : (view : Seen) (new : List ℕ) (answer : Filled) → free < element_words kind (words kind) view
      → Filling (written_data false) view new answer → new ≡ written_data true
  becomes_over view new AlreadyOver above filling = absurd (omega (arith, filling.1, overflow_is false))
  becomes_over view new Unsuited above filling = absurd ((filling.0 (omega (arith, length_is false))).1 (is_suited false))
  becomes_over view new Overflowed above filling =
      let number : u16_at (written_data false) 2 + 1024 ≡ words kind * 2048 + 8 * 128 + free = omega (arith, lengths_are false) in
      filling.3 ∙ ap (λ n. with_lengths (written_data false) n) number
  becomes_over view new (Added amount) above filling =
      absurd (omega (arith, filling.2, filling.3, to_add_is false view, remaining_is false))

  -- one that fits is added
  becomes_longer : (view : Seen) (new : List ℕ) (answer : Filled) → element_words kind (words kind) view ≤ free
      → IsElement kind (words kind) (element_of kind (words kind) view)
      → length (element_of kind (words kind) view) ≡ 4 * element_words kind (words kind) view
      → Filling (written_data false) view new answer
      → new ≡ data_of namespace kind capacity false (elements ++ element_of kind (words kind) view ∷ [])
  becomes_longer view new AlreadyOver within element long filling = absurd (omega (arith, filling.1, overflow_is false))
  becomes_longer view new Unsuited within element long filling = absurd ((filling.0 (omega (arith, length_is false))).1 (is_suited false))
  becomes_longer view new Overflowed within element long filling =
      absurd (omega (arith, filling.2, to_add_is false view, remaining_is false))
  becomes_longer view new (Added amount) within element long filling =
      let e = element_of kind (words kind) view in
      let width = element_words kind (words kind) view in
      let left = free - width in
      let others = concat (reverse elements) in
      let amount_is : amount ≡ width = filling.2 ∙ to_add_is false view in
      let number : u16_at (written_data false) 2 - amount ≡ words kind * 2048 + 0 * 128 + left = omega (arith, lengths_are false, amount_is) in
      let zeros : behind_header ≡ replicate (4 * left) 0 ++ (replicate (4 * width) 0 ++ others) =
      ap (λ n. replicate n 0 ++ others) (split_zeros free width within)
      ∙ ap (λ xs. xs ++ others) (sym (replicate-append-replicate (4 * left) (4 * width) 0))
      ∙ append_assoc (replicate (4 * left) 0) (replicate (4 * width) 0) others in
      let lowered : less_remaining (written_data false) amount ≡ with_zeros left (replicate (4 * width) 0 ++ others) =
      ap (λ n. with_lengths (written_data false) n) number
      ∙ ap (λ xs. header namespace (words kind) 0 left kind 0 ++ xs) zeros in
      let place : 8 + 4 * (remaining_of (written_data false) - amount) ≡ 8 + 4 * left = omega (arith, remaining_is false, amount_is) in
      let written_element : element_of (kind_of (written_data false)) (node_len_of (written_data false)) view ≡ e =
      ap (λ n. element_of n (node_len_of (written_data false)) view) (kind_is false) ∙ ap (λ n. element_of kind n view) (node_len_is false) in
      let front = header namespace (words kind) 0 left kind 0 ++ replicate (4 * left) 0 in
      let front_long : length front ≡ 8 + 4 * left = omega (arith, length-replicate {A = ℕ} (4 * left) 0) in
      let done : written (with_zeros left (replicate (4 * width) 0 ++ others)) (8 + 4 * left) e ≡ with_zeros left (e ++ others) =
      written-at front (replicate (4 * width) 0) e others (8 + 4 * left) front_long (length-replicate (4 * width) 0 ∙ sym long) in
      let width_is : words_in e ≡ width = omega (arith, long, words_in-IsElement kind (words kind) e element) in
      let rest_free : capacity - total (elements ++ e ∷ []) ≡ left = omega (arith, total-push elements e) in
      let joined : concat (reverse (elements ++ e ∷ [])) ≡ e ++ others = ap concat (reverse-push elements e) in
      filling.4
      ∙ ap (λ xs. written xs (8 + 4 * (remaining_of (written_data false) - amount)) (element_of (kind_of (written_data false)) (node_len_of (written_data false)) view)) lowered
      ∙ ap (λ n. written (with_zeros left (replicate (4 * width) 0 ++ others)) n (element_of (kind_of (written_data false)) (node_len_of (written_data false)) view)) place
      ∙ ap (λ xs. written (with_zeros left (replicate (4 * width) 0 ++ others)) (8 + 4 * left) xs) written_element
      ∙ done
      ∙ sym (ap (λ n. with_zeros n (concat (reverse (elements ++ e ∷ [])))) rest_free ∙ ap (λ xs. with_zeros left xs) joined)

-- the words behind the free ones are those that were recorded
used_is : (namespace kind capacity : ℕ) (over : Bool) (es : List (List ℕ))
    → drop (8 + 4 * (capacity - total es)) (data_of namespace kind capacity over es) ≡ concat (reverse es)
used_is namespace kind capacity over es =
    let free = capacity - total es in
    let front = header namespace (words kind) (if over then 8 else 0) free kind 0 ++ replicate (4 * free) 0 in
    drop_at front (concat (reverse es)) (8 + 4 * free) (omega (arith, length-replicate {A = ℕ} (4 * free) 0))

-- the octets of a trace are read as what was recorded, in the order in which it was added
pub record ReadsRecorded (namespace kind capacity : ℕ) (given : List (List ℕ)) : Type 0 where
  pub namespace_is : u16_at (trace_data namespace kind capacity given) 0 ≡ namespace
  pub kind_is : kind_of (trace_data namespace kind capacity given) ≡ kind
  pub node_len_is : node_len_of (trace_data namespace kind capacity given) ≡ words kind
  pub overflow_is : overflow_of (trace_data namespace kind capacity given) ≡ (if is_over capacity given then 1 else 0)
  pub no_fault : fault_of (remaining_of (trace_data namespace kind capacity given)) (trace_data namespace kind capacity given) ≡ None
  pub elements : elements_behind (remaining_of (trace_data namespace kind capacity given)) (trace_data namespace kind capacity given)
      ≡ recorded capacity given

pub ReadsRecorded-CanHold : (namespace kind capacity : ℕ) (es : List (List ℕ)) → CanHold namespace kind capacity es
    → ReadsRecorded namespace kind capacity es
ReadsRecorded-CanHold namespace kind capacity es holds =
    let kept = recorded capacity es in
    let over = is_over capacity es in
    let flags : ℕ = cond over 8 0 in
    let free = capacity - total kept in
    let octets = data_of namespace kind capacity over kept in
    let rest = replicate (4 * free) 0 ++ concat (reverse kept) in
    let can : can_add kind (words kind) ≡ true = is_entry_type-can_add kind holds.entry in
    let all = All-recorded (IsElement kind (words kind)) capacity es holds.elements in
    let below : capacity < 128 = omega (arith, holds.capacity_below) in
    let fits = recorded-fits capacity es in
    let words_below : words kind < 32 = omega (arith, words-small kind) in
    let free_below : free < 128 = omega arith in
    let flags_below : flags < 16 = eight_or_none over in
    let head : TraceHead = record {
      namespace = record { 0 = namespace };
      node_len = words kind;
      flags = flags;
      remaining = free;
      kind = kind;
      reserved = 0;
      node_len_below = words_below;
      flags_below = flags_below;
      remaining_below = free_below;
    } in
    let is_head : IsHead octets head = IsHead-octets head rest holds.namespace_below holds.kind_below (omega arith) in
    let P : List ℕ → Type 0 = λ xs. Holds kind (words kind) xs kept in
    let carries : Carries free octets head kept = record {
      begins = omega arith;
      is_head = is_head;
      fits = can_add-fits kind (words kind) can;
      space = omega (arith, length_is namespace kind capacity kept holds.namespace_below holds.kind_below below can fits all over);
      holds = subst P (sym (used_is namespace kind capacity over kept))
          (Holds-concat kind (words kind) kept (All-reverse (IsElement kind (words kind)) kept all));
    } in
    let is = trace_data-is namespace kind capacity es in
    let remaining = remaining_is namespace kind capacity kept holds.namespace_below holds.kind_below below can fits all over in
    let Q : List ℕ → Type 0 = λ xs. (u16_at xs 0 ≡ namespace) × (kind_of xs ≡ kind) × (node_len_of xs ≡ words kind) × (overflow_of xs ≡ cond over 1 0)
    × (fault_of (remaining_of xs) xs ≡ None) × (elements_behind (remaining_of xs) xs ≡ kept) in
    let read = subst Q (sym is) (
      sym is_head.namespace,
      sym is_head.kind,
      sym is_head.node_len,
      overflow_is namespace kind capacity kept holds.namespace_below holds.kind_below below can fits all over ∙ one_or_none over,
      ap (λ n. fault_of n octets) remaining ∙ fault_of-Carries free octets head kept carries,
      ap (λ n. elements_behind n octets) remaining ∙ elements_behind-Carries free octets head kept carries,
    ) in
    record {
      namespace_is = read.0;
      kind_is = read.1;
      node_len_is = read.2;
      overflow_is = read.3;
      no_fault = read.4;
      elements = read.5;
    }

pub ReadsAgain-Reads : (octets : List ℕ) (result : Result Trace TraceFault) → Reads octets result → ReadsAgain octets result
ReadsAgain-Reads octets (Ok trace) reads namespace kind capacity es holds is =
    let recorded_is = ReadsRecorded-CanHold namespace kind capacity es holds in
    let head = reads.0.is_head in
    let P : ℕ → Type 0 = λ free. Carries free octets trace.head (elements_in trace) in
    let carries = subst P head.remaining reads.0 in
    let elements : elements_in trace ≡ recorded capacity es =
    sym (elements_behind-Carries (remaining_of octets) octets trace.head (elements_in trace) carries)
    ∙ ap (λ xs. elements_behind (remaining_of xs) xs) is ∙ recorded_is.elements in
    let Q : List (List ℕ) → Type 0 = λ kept. AreRecorded capacity es kept in (
      head.namespace ∙ ap (λ xs. u16_at xs 0) is ∙ recorded_is.namespace_is,
      head.kind ∙ ap kind_of is ∙ recorded_is.kind_is,
      overflow_flag trace.head.flags octets head.flags ∙ ap overflow_of is ∙ recorded_is.overflow_is,
      elements,
      subst Q (sym elements) (AreRecorded-recorded capacity es),
    )
  where
    overflow_flag : (flags : ℕ) (octets : List ℕ) → flags ≡ flags_of octets → flags / 8 ≡ overflow_of octets
    overflow_flag flags octets is = omega arith
ReadsAgain-Reads octets (Err fault) reads namespace kind capacity es holds is =
    let recorded_is = ReadsRecorded-CanHold namespace kind capacity es holds in
    let some = fault_of-HasFault (remaining_of octets) octets fault reads in
    let none = ap (λ xs. fault_of (remaining_of xs) xs) is ∙ recorded_is.no_fault in
    absurd (cc)

-- what a node leaves of a trace that holds the elements of the nodes before it
pub trace_data-Filling : (namespace kind capacity : ℕ) (es : List (List ℕ)) (view : Seen) (new : List ℕ) (answer : Filled)
    → CanHold namespace kind capacity es → IfSome view.snapshot (λ s. IsSnapshot s.0 s.1)
    → Filling (trace_data namespace kind capacity es) view new answer
    → new ≡ trace_data namespace kind capacity (es ++ element_of kind (words kind) view ∷ [])
trace_data-Filling namespace kind capacity es view new answer holds snapshot filling =
    let e = element_of kind (words kind) view in
    let can : can_add kind (words kind) ≡ true = is_entry_type-can_add kind holds.entry in
    let width = element_words kind (words kind) view in
    let element : IsElement kind (words kind) e = IsElement-element_of kind (words kind) view holds.kind_below can snapshot in
    let long : length e ≡ 4 * width = length-element_of kind (words kind) view (omega arith) snapshot in
    let width_is : words_in e ≡ width = omega (arith, words_in-IsElement kind (words kind) e element) in
    let P : List ℕ → Type 0 = λ old. Filling old view new answer in
    let by_record = subst P (trace_data-is namespace kind capacity es) filling in
    let back = trace_data-is namespace kind capacity (es ++ e ∷ []) in
    let grown = length-append es (e ∷ []) in
    elim (cases_lt (length (recorded capacity es)) (length es)) [
      | inl over ↦
          let same = recorded-push_over capacity es e over in
          let flag : is_over capacity es ≡ true = lt-ltb _ _ over in
          let flag_after : is_over capacity (es ++ e ∷ []) ≡ true = lt-ltb _ _ (omega (arith, ap length same)) in
          let at_true = subst (λ b. Filling (data_of namespace kind capacity b (recorded capacity es)) view new answer) flag by_record in
          stays_over namespace kind capacity (recorded capacity es) holds.namespace_below holds.kind_below (omega (arith, holds.capacity_below)) can
          (recorded-fits capacity es) (All-recorded (IsElement kind (words kind)) capacity es holds.elements) view new answer at_true
          ∙ sym (back ∙ ap (λ b. data_of namespace kind capacity b (recorded capacity (es ++ e ∷ []))) flag_after ∙ ap (data_of namespace kind capacity true) same)
      | inr none_over ↦
          let fits : total es ≤ capacity = total-recorded capacity es none_over in
          let same : recorded capacity es ≡ es = recorded-all capacity es fits in
          let flag : is_over capacity es ≡ false = le-ltb _ _ none_over in
          let at_false = subst (λ b. Filling (data_of namespace kind capacity b (recorded capacity es)) view new answer) flag by_record in
          let at_all = subst (λ xs. Filling (data_of namespace kind capacity false xs) view new answer) same at_false in
          elim (cases_lt (capacity - total es) width) [
            | inl above ↦
                let rest = recorded-push_not capacity es e fits (omega arith) in
                let flag_after : is_over capacity (es ++ e ∷ []) ≡ true = lt-ltb _ _ (omega (arith, ap length rest)) in
                becomes_over namespace kind capacity es holds.namespace_below holds.kind_below (omega (arith, holds.capacity_below)) can fits holds.elements view new answer above at_all
                ∙ sym (back ∙ ap (λ b. data_of namespace kind capacity b (recorded capacity (es ++ e ∷ []))) flag_after ∙ ap (data_of namespace kind capacity true) rest)
            | inr within ↦
                let rest = recorded-push_fits capacity es e (omega arith) in
                let flag_after : is_over capacity (es ++ e ∷ []) ≡ false = le-ltb _ _ (omega (arith, ap length rest)) in
                becomes_longer namespace kind capacity es holds.namespace_below holds.kind_below (omega (arith, holds.capacity_below)) can fits holds.elements view new answer within element long at_all
                ∙ sym (back ∙ ap (λ b. data_of namespace kind capacity b (recorded capacity (es ++ e ∷ []))) flag_after ∙ ap (data_of namespace kind capacity false) rest)
          ]
    ]

-- a trace to which no node added anything
pub trace_data-none : (namespace kind capacity : ℕ) → trace_data namespace kind capacity [] ≡ header namespace (words kind) 0 capacity kind 0 ++ replicate (4 * capacity) 0
unfolding trace_data
trace_data-none namespace kind capacity =
    let whole : capacity - 0 ≡ capacity = omega arith in
    ap (λ n. header namespace (words kind) 0 n kind 0 ++ (replicate (4 * n) 0 ++ [])) whole
    ∙ ap (λ xs. header namespace (words kind) 0 capacity kind 0 ++ xs) (append-nil (replicate (4 * capacity) 0))

-- octets over the first of as many zeros and more
pub written-zeros : (octets : List ℕ) (words : ℕ) → length octets ≡ 8 → words ≤ 61
    → take (8 + 4 * words) (written (replicate 252 0) 0 octets) ≡ octets ++ replicate (4 * words) 0
written-zeros octets words long below =
    let place : 8 + 4 * words ≡ length octets + 4 * words = omega arith in
    let rest : drop (0 + length octets) (replicate {A = ℕ} 252 0) ≡ replicate {A = ℕ} 244 0 = ap (λ n. drop (0 + n) (replicate 252 0)) long in
    ap (λ n. take n (written (replicate 252 0) 0 octets)) place
    ∙ take-append-add octets (drop (0 + length octets) (replicate 252 0)) (4 * words)
    ∙ ap (λ xs. octets ++ take (4 * words) xs) rest
    ∙ ap (λ xs. octets ++ xs) (take-replicate (4 * words) 244 0 (omega arith))

-- how long the data of a trace are, whatever was added
pub length-trace_data : (namespace kind capacity : ℕ) (es : List (List ℕ)) → CanHold namespace kind capacity es
    → length (trace_data namespace kind capacity es) ≡ 8 + 4 * capacity
length-trace_data namespace kind capacity es holds =
    let kept = recorded capacity es in
    let can : can_add kind (words kind) ≡ true = is_entry_type-can_add kind holds.entry in
    let all = All-recorded (IsElement kind (words kind)) capacity es holds.elements in
    let below : capacity < 128 = omega (arith, holds.capacity_below) in
    let fits : total kept ≤ capacity = recorded-fits capacity es in
    ap length (trace_data-is namespace kind capacity es)
    ∙ length_is namespace kind capacity kept holds.namespace_below holds.kind_below below can fits all (is_over capacity es)
    ∙ omega (arith, fits)

-- how many octets a header and free words are that were appended
pub appended_size : {E : Type 0} (r : Result (Unit {0}) E) (old new head : List ℕ) (count : ℕ) → length head ≡ 8
    → new ≡ (if is_ok r then old ++ (head ++ replicate (4 * count) 0) else old) → OnOk r (length new ≡ length old + (8 + 4 * count))
appended_size (Ok u) old new head count long made =
    let free : List ℕ = replicate (4 * count) 0 in
    ap length made ∙ omega (arith, length-append old (head ++ free), length-append head free, length-replicate {A = ℕ} (4 * count) 0)
appended_size (Err e) old new head count long made = tt
