-- What is counted of flows, and one arrival more.
use Rattle.std.proofs.Common.{◌≡◌, ℕ, zero, suc, ◌+◌, ◌-◌, min, ◌<◌, ◌≤◌, ◌^◌, Bool, true, false, cond, List, [], ◌∷◌, ◌++◌, Option, Some, None, length, length-set, set, get_or, slice_get, refl, sym, ap, subst, ◌∙◌, arith, ◌⊎◌, inl, inr}
use Rattle.std.specs.Prelude.{◌&&◌, IsSomeAnd, is_some, replicate}
use Rattle.std.specs.List.{count_by, flat_map, enumerate_from}
use Rattle.std.proofs.lemmas.Bool.{cases_eq, eq-eqb, ne_eqb}
use Rattle.std.proofs.lemmas.Grind.{get_or-set_at}
use Rattle.std.proofs.lemmas.List.{append-nil, length-replicate, get_or-replicate, get_or-set_other}
use Rattle.std.proofs.lemmas.List.Concat.{flat_map-append}
use Rattle.std.proofs.lemmas.List.Sums.{sum_by_push, count_by-le-length}
use Rattle.std.proofs.lemmas.Option.{slice_get-get_or}
use Rattle.ioam_edge.specs.Receiver.{Stands, tally_in}
use Rattle.ioam_edge.specs.declared.note.Tally.{Tally}
use Rattle.ioam_edge.specs.declared.receiver.Receiver.{Receiver}
use Rattle.ioam_edge.proofs.TallyLaws.{tally_in-Stands}
use Rattle.ioam_topo.specs.declared.ids.FlowId.{FlowId}
use Rattle.ioam_topo.specs.declared.parts.Flow.{Flow}
use Rattle.ioam_tunnel.specs.declared.numbers.Numbers.{Numbers}
use Rattle.ioam_plan.specs.declared.itinerary.Itinerary.{Itinerary}
use Rattle.ioam_plan.specs.Counted.{enclosed_in, is_enclosed_in, is_of_flow}
use Rattle.ioam_report.specs.declared.flows.FlowSum.{FlowSum}
use Rattle.ioam_report.specs.Flows.{has_direct, is_direct_in, is_exited_in, numbers_in, exit_number, exit_numbers, IsSumOf}
use Rattle.ioam_report.specs.SumsText.{flow_line, flow_sum_line, flow_lines, arrivals_flow_line}

-- ---- a packet more of a flow

-- so many of the arrivals, and one more
counted_more : (test : Itinerary → Bool) (arrivals : List Itinerary) (it : Itinerary)
    → count_by test (arrivals ++ it ∷ []) ≡ count_by test arrivals + cond (test it) 1 0
counted_more test arrivals it = sum_by_push (λ (i : Itinerary). cond (test i) 1 0) arrivals it

numbers_more : (flow : ℕ) (arrivals : List Itinerary) (it : Itinerary)
    → exit_numbers flow (arrivals ++ it ∷ []) ≡ exit_numbers flow arrivals ++ exit_number flow it
numbers_more flow arrivals it = flat_map-append (exit_number flow) arrivals (it ∷ []) ∙ ap (λ xs. exit_numbers flow arrivals ++ xs) (append-nil (exit_number flow it))

one_most : (b : Bool) → cond {A = ℕ} b 1 0 ≤ 1
one_most true = omega arith
one_most false = omega arith

-- so much is counted of this packet in its flow
module _ (flow : FlowId) (numbers : Numbers) (exited : Bool) (it : Itinerary) (some : it.carried ≡ Some (flow, numbers)) (is : it.exited ≡ exited) where
  here : is_enclosed_in flow.0 it ≡ true
  here = ap (is_of_flow flow.0) some ∙ eq-eqb flow.0 flow.0 refl

  one_enclosed : cond {A = ℕ} (is_enclosed_in flow.0 it) 1 0 ≡ 1
  one_enclosed = ap (λ (b : Bool). cond {A = ℕ} b 1 0) here

  exits : is_exited_in flow.0 it ≡ exited
  exits = ap (λ (b : Bool). b && it.exited) here ∙ is

  one_exited : cond {A = ℕ} (is_exited_in flow.0 it) 1 0 ≡ cond exited 1 0
  one_exited = ap (λ (b : Bool). cond {A = ℕ} b 1 0) exits

  one_direct : cond {A = ℕ} (is_direct_in flow.0 it) 1 0 ≡ cond (is_some numbers.direct) 1 0
  one_direct = ap (λ (b : Bool). cond {A = ℕ} (b && has_direct it.carried) 1 0) here ∙ ap (λ (c : Option (FlowId × Numbers)). cond {A = ℕ} (has_direct c) 1 0) some

  one_number : exit_number flow.0 it ≡ cond exited (numbers.number ∷ []) []
  one_number = ap (λ (b : Bool). cond b (numbers_in it.carried) []) exits ∙ ap (λ (c : Option (FlowId × Numbers)). cond exited (numbers_in c) []) some

  pub sum_more : (old new : FlowSum) (arrivals : List Itinerary) → length arrivals < 2 ^ 32
      → new.enclosed ≡ min (old.enclosed + 1) (2 ^ 64 - 1)
      → new.exited ≡ min (old.exited + cond exited 1 0) (2 ^ 64 - 1)
      → new.direct ≡ min (old.direct + cond (is_some numbers.direct) 1 0) (2 ^ 64 - 1)
      → ((noted : List ℕ) → Stands old.receiver noted → Stands new.receiver (noted ++ cond exited (numbers.number ∷ []) []))
      → IsSumOf flow.0 arrivals old → IsSumOf flow.0 (arrivals ++ it ∷ []) new
  sum_more old new arrivals few enclosed left direct noted counts =
      let most_enclosed : enclosed_in flow.0 arrivals ≤ length arrivals = count_by-le-length (is_enclosed_in flow.0) arrivals in
      let most_exited : count_by (is_exited_in flow.0) arrivals ≤ length arrivals = count_by-le-length (is_exited_in flow.0) arrivals in
      let most_direct : count_by (is_direct_in flow.0) arrivals ≤ length arrivals = count_by-le-length (is_direct_in flow.0) arrivals in
      let was_enclosed : old.enclosed ≡ enclosed_in flow.0 arrivals = counts.enclosed in
      let was_exited : old.exited ≡ count_by (is_exited_in flow.0) arrivals = counts.exited in
      let was_direct : old.direct ≡ count_by (is_direct_in flow.0) arrivals = counts.direct in
      let P : List ℕ → Type 0 = λ xs. Stands new.receiver xs in
      let all : exit_numbers flow.0 (arrivals ++ it ∷ []) ≡ exit_numbers flow.0 arrivals ++ cond exited (numbers.number ∷ []) [] =
      numbers_more flow.0 arrivals it ∙ ap (λ xs. exit_numbers flow.0 arrivals ++ xs) one_number in
      record {
        enclosed = omega (arith, enclosed, counted_more (is_enclosed_in flow.0) arrivals it, one_enclosed);
        exited = omega (arith, left, counted_more (is_exited_in flow.0) arrivals it, one_exited, one_most exited);
        direct = omega (arith, direct, counted_more (is_direct_in flow.0) arrivals it, one_direct, one_most (is_some numbers.direct));
        receiver = subst P (sym all) (noted (exit_numbers flow.0 arrivals) counts.receiver);
      }

-- what its receiver stands for
pub noted_then : (receiver : Receiver) (noted : List ℕ) (number : ℕ) (exited : Bool) → exited ≡ true → Stands receiver (noted ++ number ∷ [])
    → Stands receiver (noted ++ cond exited (number ∷ []) [])
noted_then receiver noted number true is stands = stands
noted_then receiver noted number false is stands = absurd (cc is)

pub noted_else : (receiver : Receiver) (noted : List ℕ) (number : ℕ) (exited : Bool) → exited ≡ false → Stands receiver noted
    → Stands receiver (noted ++ cond exited (number ∷ []) [])
noted_else receiver noted number true is stands = absurd (cc is)
noted_else receiver noted number false is stands = let P : List ℕ → Type 0 = λ xs. Stands receiver xs in subst P (sym (append-nil noted)) stands

-- an arrival that isn't enclosed in a flow changes nothing there
pub sum_same : (flow : ℕ) (arrivals : List Itinerary) (it : Itinerary) (sum : FlowSum) → is_enclosed_in flow it ≡ false
    → IsSumOf flow arrivals sum → IsSumOf flow (arrivals ++ it ∷ []) sum
sum_same flow arrivals it sum other counts =
    let no_enclosed : cond {A = ℕ} (is_enclosed_in flow it) 1 0 ≡ 0 = ap (λ (b : Bool). cond {A = ℕ} b 1 0) other in
    let no_exited : cond {A = ℕ} (is_exited_in flow it) 1 0 ≡ 0 = ap (λ (b : Bool). cond {A = ℕ} (b && it.exited) 1 0) other in
    let no_direct : cond {A = ℕ} (is_direct_in flow it) 1 0 ≡ 0 = ap (λ (b : Bool). cond {A = ℕ} (b && has_direct it.carried) 1 0) other in
    let no_number : exit_number flow it ≡ [] = ap (λ (b : Bool). cond (b && it.exited) (numbers_in it.carried) []) other in
    let P : List ℕ → Type 0 = λ xs. Stands sum.receiver xs in
    let all : exit_numbers flow (arrivals ++ it ∷ []) ≡ exit_numbers flow arrivals =
    numbers_more flow arrivals it ∙ ap (λ xs. exit_numbers flow arrivals ++ xs) no_number ∙ append-nil (exit_numbers flow arrivals) in
    record {
      enclosed = counts.enclosed ∙ omega (arith, counted_more (is_enclosed_in flow) arrivals it, no_enclosed);
      exited = counts.exited ∙ omega (arith, counted_more (is_exited_in flow) arrivals it, no_exited);
      direct = counts.direct ∙ omega (arith, counted_more (is_direct_in flow) arrivals it, no_direct);
      receiver = subst P (sym all) counts.receiver;
    }

-- ---- the sums of all flows

same_at : (flow : ℕ) (arrivals : List Itinerary) (it : Itinerary) (at : Option FlowSum) → is_enclosed_in flow it ≡ false
    → IsSomeAnd at (IsSumOf flow arrivals) → IsSomeAnd at (IsSumOf flow (arrivals ++ it ∷ []))
same_at flow arrivals it None other counts = counts
same_at flow arrivals it (Some sum) other counts = sum_same flow arrivals it sum other counts

-- nothing is counted of each of so many flows
pub none_each : (count : ℕ) (sums : List FlowSum) (none : FlowSum) → sums ≡ replicate count none → ((flow : ℕ) → IsSumOf flow [] none)
    → (flow : ℕ) → flow < count → IsSomeAnd (slice_get sums flow) (IsSumOf flow [])
none_each count sums none are nothing flow below =
    let long : length sums ≡ count = ap length are ∙ length-replicate count none in
    let here : slice_get sums flow ≡ Some none =
    slice_get-get_or sums flow none (omega (arith, long)) ∙ ap (λ (xs : List FlowSum). Some (get_or xs flow none)) are
    ∙ ap (λ (sum : FlowSum). Some sum) (get_or-replicate count flow none none below) in
    let P : Option FlowSum → Type 0 = λ sum. IsSomeAnd sum (IsSumOf flow []) in
    subst P (sym here) (nothing flow)

-- an arrival that isn't enclosed at all
pub sums_same : (sums : List FlowSum) (flow : ℕ) (arrivals : List Itinerary) (it : Itinerary) → it.carried ≡ None
    → IsSomeAnd (slice_get sums flow) (IsSumOf flow arrivals) → IsSomeAnd (slice_get sums flow) (IsSumOf flow (arrivals ++ it ∷ []))
sums_same sums flow arrivals it none counts =
    same_at flow arrivals it (slice_get sums flow) (ap (λ (c : Option (FlowId × Numbers)). is_of_flow flow c) none) counts

set_same : (sums : List FlowSum) (at : ℕ) (now : FlowSum) → at < length sums → slice_get (set sums at now) at ≡ Some now
set_same sums at now below =
    slice_get-get_or (set sums at now) at now (omega (arith, length-set sums at now))
    ∙ ap (λ (sum : FlowSum). Some sum) (get_or-set_at sums at at now now refl below)

set_other : (sums : List FlowSum) (at other : ℕ) (now : FlowSum) → (other ≡ at → ⊥) → other < length sums → slice_get (set sums at now) other ≡ slice_get sums other
set_other sums at other now apart below =
    slice_get-get_or (set sums at now) other now (omega (arith, length-set sums at now))
    ∙ ap (λ (sum : FlowSum). Some sum) (get_or-set_other sums at other now now apart)
    ∙ sym (slice_get-get_or sums other now below)

found_below : (P : FlowSum → Type 0) (sums : List FlowSum) (at : ℕ) → IsSomeAnd (slice_get sums at) P → at < length sums
found_below P [] at found = absurd found
found_below P (sum ∷ sums) zero found = omega arith
found_below P (sum ∷ sums) (suc at) found = let rest : at < length sums = found_below P sums at found in omega arith

-- one that is enclosed in a flow
pub sums_more : (sums : List FlowSum) (was now : FlowSum) (flow : FlowId) (numbers : Numbers) (at : ℕ) (arrivals : List Itinerary) (it : Itinerary)
    → it.carried ≡ Some (flow, numbers) → slice_get sums flow.0 ≡ Some was
    → (IsSumOf flow.0 arrivals was → IsSumOf flow.0 (arrivals ++ it ∷ []) now)
    → IsSomeAnd (slice_get sums at) (IsSumOf at arrivals) → IsSomeAnd (slice_get (set sums flow.0 now) at) (IsSumOf at (arrivals ++ it ∷ []))
sums_more sums was now flow numbers at arrivals it some here noted counts =
    let below : at < length sums = found_below (IsSumOf at arrivals) sums at counts in
    let P : ℕ → Type 0 = λ n. IsSomeAnd (slice_get sums n) (IsSumOf n arrivals) in
    let Q : Option FlowSum → Type 0 = λ sum. IsSomeAnd sum (IsSumOf flow.0 arrivals) in
    let R : Option FlowSum → Type 0 = λ sum. IsSomeAnd sum (IsSumOf flow.0 (arrivals ++ it ∷ [])) in
    let S : ℕ → Type 0 = λ n. IsSomeAnd (slice_get (set sums flow.0 now) n) (IsSumOf n (arrivals ++ it ∷ [])) in
    let T : Option FlowSum → Type 0 = λ sum. IsSomeAnd sum (IsSumOf at (arrivals ++ it ∷ [])) in
    elim (cases_eq at flow.0) [
      | inl same ↦
          subst S (sym same) (subst R (sym (set_same sums flow.0 now (omega (arith, below, same)))) (noted (subst Q here (subst P same counts))))
      | inr apart ↦
          let elsewhere : is_enclosed_in at it ≡ false = ap (λ (c : Option (FlowId × Numbers)). is_of_flow at c) some ∙ ne_eqb at flow.0 apart in
          subst T (sym (set_other sums flow.0 at now apart below)) (same_at at arrivals it (slice_get sums at) elsewhere counts)
    ]

-- ---- their lines

sum_line : (arrivals : List Itinerary) (flow : Flow) (place : ℕ) (sum : FlowSum) → IsSumOf place arrivals sum
    → flow_sum_line flow sum ≡ arrivals_flow_line arrivals flow place
sum_line arrivals flow place sum counts =
    ap (λ n. flow_line flow n sum.exited sum.direct (tally_in sum.receiver)) counts.enclosed
    ∙ ap (λ n. flow_line flow (enclosed_in place arrivals) n sum.direct (tally_in sum.receiver)) counts.exited
    ∙ ap (λ n. flow_line flow (enclosed_in place arrivals) (count_by (is_exited_in place) arrivals) n (tally_in sum.receiver)) counts.direct
    ∙ ap (λ (t : Tally). flow_line flow (enclosed_in place arrivals) (count_by (is_exited_in place) arrivals) (count_by (is_direct_in place) arrivals) t)
    (tally_in-Stands sum.receiver (exit_numbers place arrivals) counts.receiver)

pub flows_lines : (arrivals : List Itinerary) (flows : List Flow) (sums : List FlowSum) (from : ℕ) → length sums ≡ length flows
    → ((i : ℕ) → i < length flows → IsSomeAnd (slice_get sums i) (IsSumOf (from + i) arrivals))
    → flow_lines flows sums ≡ flat_map (λ entry. arrivals_flow_line arrivals entry.1 entry.0) (enumerate_from from flows)
flows_lines arrivals [] [] from count each = refl
flows_lines arrivals [] (sum ∷ sums) from count each = refl
flows_lines arrivals (flow ∷ flows) [] from count each = absurd (omega arith)
flows_lines arrivals (flow ∷ flows) (sum ∷ sums) from count each =
    let zero_more : from + 0 ≡ from = omega arith in
    let P : ℕ → Type 0 = λ n. IsSumOf n arrivals sum in
    let first : IsSumOf from arrivals sum = subst P zero_more (each 0 (omega arith)) in
    let rest : (i : ℕ) → i < length flows → IsSomeAnd (slice_get sums i) (IsSumOf (from + 1 + i) arrivals) = λ i below.
    let further : from + suc i ≡ from + 1 + i = omega arith in
    let Q : ℕ → Type 0 = λ n. IsSomeAnd (slice_get sums i) (IsSumOf n arrivals) in
    subst Q further (each (suc i) (omega arith)) in
    ap (λ xs. xs ++ flow_lines flows sums) (sum_line arrivals flow from sum first)
    ∙ ap (λ xs. arrivals_flow_line arrivals flow from ++ xs) (flows_lines arrivals flows sums (from + 1) (omega arith) rest)

-- where a list is at its end, no line is left to append
none_left : (flows : List Flow) (sums : List FlowSum) → (flows ≡ []) ⊎ (sums ≡ []) → flow_lines flows sums ≡ []
none_left [] sums either = refl
none_left (flow ∷ flows) [] either = refl
none_left (flow ∷ flows) (sum ∷ sums) either = elim either [ inl is ↦ absurd (cc) | inr is ↦ absurd (cc) ]

pub all_told : (out text : List ℕ) (flows : List Flow) (sums : List FlowSum) → (flows ≡ []) ⊎ (sums ≡ []) → out ++ flow_lines flows sums ≡ text → out ≡ text
all_told out text flows sums either so_far = sym (append-nil out) ∙ ap (λ xs. out ++ xs) (sym (none_left flows sums either)) ∙ so_far
