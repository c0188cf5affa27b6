-- Two files that are read as parts, one after the other.
use Rattle.std.proofs.Common.{◌≡◌, ℕ, zero, suc, ◌+◌, ◌≤◌, ◌⊎◌, Bool, IsTrue, IsSomeAnd, List, [], ◌∷◌, ◌++◌, length, length-append, Option, None, Some, Ok, Err, refl, sym, ap, ◌∙◌, subst, inl, inr, append-nil, append_assoc, ⊎_elim, arith}
use Rattle.std.proofs.Math.Seq.{take-nil}
use Rattle.ioam_desk.specs.Asked.{AsksFront}
use Rattle.ioam_desk.specs.Desk as desk
use Rattle.ioam_desk.specs.Desk.{Side, Rose, opened_side}
use Rattle.ioam_desk.specs.Kept.{KeepsInputs}
use Rattle.ioam_desk.proofs.AskedLaws.{HaveSlots-one, HaveSlots-then}
use Rattle.ioam_desk.proofs.KeptLaws.{KeepsInputs-then}
use Rattle.ioam_part.specs.Faults.{HasFault}
use Rattle.ioam_run_answer.specs.declared.outcome.Outcome.{Outcome}
use Rattle.ioam_run_answer.specs.declared.outcome.Outcome.TheVariants as outcome
use Rattle.ioam_run_part.specs.Records.{IsAPart, IsSecondFaulty, ReadsFew}
use Rattle.ioam_run_part.specs.Two.{AnswersTwo, TriesTwo, HoldsTwo, RefusesTwo}
use Rattle.ioam_run_part.specs.Unread.{IsFlat, ReadsFile, TriesFile, answer_of}
use Rattle.ioam_run_part.specs.declared.unread.Unread.{Unread}
use Rattle.ioam_run_part.specs.declared.unread.Unread.TheVariants as unread
use Rattle.ioam_run_part.proofs.MergeLaws.{some_held}

-- one name of two was asked for at most
asks_first : (a b : List (List ℕ)) (one two : List ℕ) → AsksFront a b (one ∷ []) → AsksFront a b (one ∷ two ∷ [])
asks_first a b one two (zero, is) = (0, is)
asks_first a b one two (suc n, is) = (1, is ∙ ap (λ t. a ++ one ∷ t) (take-nil n))

asks_few : (a b : List (List ℕ)) (one : List ℕ) → AsksFront a b (one ∷ []) → length b ≤ length a + 1
asks_few a b one (zero, is) = let size = ap length is in let both = length-append a [] in omega (arith, size, both)
asks_few a b one (suc n, is) =
    let size = ap length (is ∙ ap (λ t. a ++ one ∷ t) (take-nil n)) in
    let both = length-append a (one ∷ []) in
    omega (arith, size, both)

asks_second : (a m b : List (List ℕ)) (one two : List ℕ) → m ≡ a ++ one ∷ [] → AsksFront m b (two ∷ []) → AsksFront a b (one ∷ two ∷ [])
asks_second a m b one two first (zero, is) = (1, is ∙ append-nil m ∙ first)
asks_second a m b one two first (suc n, is) =
    (2, is ∙ ap (λ t. m ++ two ∷ t) (take-nil n) ∙ ap (λ t. t ++ two ∷ []) first ∙ append_assoc a (one ∷ []) (two ∷ []))

some_map : (o : Option (List ℕ)) (P Q : List ℕ → Type 0) → ((octets : List ℕ) → P octets → Q octets) → IsSomeAnd o P → IsSomeAnd o Q
some_map None P Q f held = absurd held
some_map (Some octets) P Q f held = f octets held

is_a_part : (tells : Bool) (content : Option (List ℕ)) (c : List ℕ) → IsFlat tells content c → IsTrue tells → IsSomeAnd content IsAPart
is_a_part tells content c held told = some_held content c IsAPart (held.is told) (held.records, held.part)

-- an answer, or want of memory
pub either_refuses : (tells : Bool) (first second : Option (List ℕ)) (one two : List ℕ) (old new : desk.Reading) (answer is : Outcome)
    → (answer ≡ is) ⊎ (answer ≡ outcome.NoMemory) → RefusesTwo tells first second one two old new is → RefusesTwo tells first second one two old new answer
either_refuses tells first second one two old new answer is either refuses =
    let P : Outcome → Type 0 = λ o. RefusesTwo tells first second one two old new o in
    ⊎_elim (λ same. subst P (sym same) refuses) (λ none. subst P (sym none) tt) either

-- ---- the first wasn't read

module _ (tells : Bool) (first second : Option (List ℕ)) (one two : List ℕ) (old new : desk.Reading) where
  pub first_refuses : (why : Unread) → ReadsFile (IsFlat tells first) tells first one old new (Err why) → RefusesTwo tells first second one two old new (answer_of one why)
  first_refuses (unread.Fault at fault) reads = (inl (refl, reads.1), inl (refl, ap (λ (s : Side). s.asked) reads.0))
  first_refuses unread.Failed reads = reads.0
  first_refuses unread.NoMemory reads = tt

  first_alone : AsksFront old.side.asked new.side.asked (one ∷ []) → new.side.asked ≡ old.side.asked ++ one ∷ two ∷ [] → ⊥
  first_alone asked both =
      let few = asks_few old.side.asked new.side.asked one asked in
      let size = ap length both in
      let more = length-append old.side.asked (one ∷ two ∷ []) in
      omega (arith, few, size, more)

  pub first_tries : TriesFile tells first one old new → TriesTwo tells first second one two old new
  first_tries tries =
      let slots = tries.slots in
      record {
        asked = asks_first old.side.asked new.side.asked one two tries.asked;
        in_turn = λ both told. absurd (first_alone tries.asked both);
        opened = λ both. absurd (first_alone tries.asked both);
        slots = omega (arith, slots);
        kept = tries.kept;
        few_one = tries.few;
        few_two = λ more. absurd (omega (arith, slots, more));
      }

-- ---- it was

module _ (tells : Bool) (first second : Option (List ℕ)) (one two : List ℕ) (old mid new : desk.Reading) (a : List ℕ) (reads_one : ReadsFile (IsFlat tells first) tells first one old mid (Ok a)) where
  mid_asked : mid.side.asked ≡ old.side.asked ++ one ∷ []
  mid_asked = ap (λ (s : Side). s.asked) reads_one.0

  mid_slots : mid.side.slots ≡ old.side.slots + 1
  mid_slots = ap (λ (s : Side). s.slots) reads_one.0

  mid_faults : mid.side.faults ≡ old.side.faults
  mid_faults = ap (λ (s : Side). s.faults) reads_one.0

  pub second_refuses : (why : Unread) → ReadsFile (IsFlat tells second) tells second two mid new (Err why) → RefusesTwo tells first second one two old new (answer_of two why)
  second_refuses (unread.Fault at fault) reads = (
    inr (
      refl,
      λ told. some_held first a (λ o. IsSomeAnd second (IsSecondFaulty at fault o)) (reads_one.1.is told)
          (some_map second (λ o. HasFault o at fault) (IsSecondFaulty at fault a) (λ octets bad. ((reads_one.1.records, reads_one.1.part), bad)) (reads.1 told)),
    ),
    inr (refl, ap (λ (s : Side). s.asked) reads.0 ∙ ap (λ (t : List (List ℕ)). t ++ two ∷ []) mid_asked ∙ append_assoc old.side.asked (one ∷ []) (two ∷ [])),
  )
  second_refuses unread.Failed reads = subst (λ n. Rose n new.side.faults) mid_faults reads.0
  second_refuses unread.NoMemory reads = tt

  pub second_answers : (answer : Outcome) → AnswersTwo mid new answer → AnswersTwo old new answer
  second_answers answer answers other =
      let behind = answers other in
      (HaveSlots-then old.side mid.side new.side (HaveSlots-one old.side mid.side one reads_one.0) behind.0, behind.1 ∙ mid_faults)

  pub second_tries : TriesFile tells first one old mid → TriesFile tells second two mid new → TriesTwo tells first second one two old new
  second_tries tries_one tries =
      let grew = mid_slots in
      let grows = tries.grew in
      let slots = tries.slots in
      record {
        asked = asks_second old.side.asked mid.side.asked new.side.asked one two mid_asked tries.asked;
        in_turn = λ both told. is_a_part tells first a reads_one.1 told;
        opened = λ both. omega (arith, grew, grows);
        slots = omega (arith, slots, grew);
        kept = KeepsInputs-then old mid new (omega (arith, grew)) tries_one.kept tries.kept;
        few_one = λ more.
            let same : new.left old.side.slots ≡ mid.left old.side.slots = tries.kept.left old.side.slots (omega (arith, grew)) in
            let P : List ℕ → Type 0 = λ left. IsTrue tells → IsSomeAnd first (λ octets. length octets ≤ length left + 300000000) in
            subst P (sym same) (tries_one.few (omega (arith, grew)));
        few_two = λ more. subst (λ k. ReadsFew tells second k new) grew (tries.few (omega (arith, grew, more)));
      }

  pub holds_two : KeepsInputs mid new → (b : List ℕ) → ReadsFile (IsFlat tells second) tells second two mid new (Ok b) → HoldsTwo tells first second one two old new a b
  holds_two kept b reads = record {
    side = reads.0 ∙ ap (λ (s : Side). opened_side s two) reads_one.0;
    first_held = reads_one.1;
    second_held = reads.1;
    first_ended = λ told. subst (λ (e : Bool). IsTrue e) (sym (kept.ended old.side.slots (let grew = mid_slots in omega (arith, grew)))) (reads_one.2 told);
    second_ended = λ told. subst (λ (k : ℕ). IsTrue (new.ended k)) mid_slots (reads.2 told);
  }
