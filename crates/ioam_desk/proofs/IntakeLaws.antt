-- Laws of files that are read in pieces for what takes their octets.
use Rattle.std.proofs.Common.{◌≡◌, ℕ, ◌+◌, ◌≤◌, Bool, true, false, IsTrue, IsSomeAnd, List, [], ◌++◌, length, length-append, length-take-le, take, Option, Some, Ok, Err, refl, sym, ap, ◌∙◌, subst, inl, inr, append-nil, append_assoc, arith}
use Rattle.std.specs.Prelude.{MatchResult, Result}
use Rattle.ioam_desk.specs.Desk.{Reading, Side, Rose, Fails, OpenIn, OpensInput, ReadInto}
use Rattle.ioam_desk.specs.Intake.{FailsFile, FailsSlot, HandsFew, ReadsFew, TakesFile, TakesSlot}
use Rattle.ioam_desk.specs.Whole.{Hands}
use Rattle.ioam_desk.specs.declared.fault.DeskFault.{DeskFault}
use Rattle.ioam_desk.specs.declared.fault.DeskFault.TheVariants.{Failed, NoMemory}

-- ---- an open slot

module _ {T : Type 0} (Stands : T → List ℕ → T → Type 0) (room : T → ℕ) (tells : Bool) (begun : T) (old : Reading) (slot : ℕ) where
  -- all that was handed out since was taken, and no more than there was room for
  pub record Took (mid : Reading) (intake : T) : Type 0 where
    pub octets : List ℕ
    pub stands : Stands begun octets intake
    pub hands : Hands tells old mid slot octets
    pub within : room intake + length octets ≤ room begun

  pub took_none : Stands begun [] begun → Took old begun
  took_none stands = record {
    octets = [];
    stands = stands;
    hands = record { side = refl; other_left = λ k apart. refl; other_ended = λ k apart. refl; left = λ told. refl };
    within = omega arith;
  }

  module _ (mid : Reading) (intake : T) (took : Took mid intake) where
    few_handed : (new : Reading) (piece : List ℕ) → (IsTrue tells → mid.left slot ≡ piece ++ new.left slot) → length piece ≤ room intake → HandsFew tells (room begun) old new slot
    few_handed new piece handed most told =
        let first : length (old.left slot) ≡ length took.octets + length (mid.left slot) = ap length (took.hands.left told) ∙ length-append took.octets (mid.left slot) in
        let then : length (mid.left slot) ≡ length piece + length (new.left slot) = ap length (handed told) ∙ length-append piece (new.left slot) in
        let within = took.within in
        omega (arith, first, then, within, most)

    pub few_still : HandsFew tells (room begun) old mid slot
    few_still = few_handed mid [] (λ told. refl) (omega arith)

    module _ (new : Reading) (into : List ℕ) where
      pub few_failed : (why : DeskFault) → ReadInto tells mid slot into (Err why) new → HandsFew tells (room begun) old new slot
      few_failed Failed reads = few_handed new [] (λ told. ap (λ (left : ℕ → List ℕ). left slot) (sym reads.1)) (omega arith)
      few_failed NoMemory reads = few_handed new [] (λ told. ap (λ (r : Reading). r.left slot) (sym reads)) (omega arith)

      pub took_failed : (why : DeskFault) → ReadInto tells mid slot into (Err why) new → FailsSlot old new slot why
      took_failed Failed reads = (
        subst (λ (s : Side). Fails s new.side) took.hands.side reads.0,
        (λ k apart. ap (λ (left : ℕ → List ℕ). left k) reads.1 ∙ took.hands.other_left k apart),
        (λ k apart. ap (λ (ended : ℕ → Bool). ended k) reads.2 ∙ took.hands.other_ended k apart),
      )
      took_failed NoMemory reads = (
        ap (λ (r : Reading). r.side) reads ∙ took.hands.side,
        (λ k apart. ap (λ (r : Reading). r.left k) reads ∙ took.hands.other_left k apart),
        (λ k apart. ap (λ (r : Reading). r.ended k) reads ∙ took.hands.other_ended k apart),
      )

      -- a read handed these octets out
      module _ (count : ℕ) (reads : ReadInto tells mid slot into (Ok count) new) where
        hands_more : Hands tells old new slot (took.octets ++ take count into)
        hands_more = record {
          side = reads.1.side ∙ took.hands.side;
          other_left = λ k apart. reads.1.other_left k apart ∙ took.hands.other_left k apart;
          other_ended = λ k apart. reads.1.other_ended k apart ∙ took.hands.other_ended k apart;
          left = λ told. took.hands.left told ∙ ap (λ (o : List ℕ). took.octets ++ o) (reads.1.left told) ∙ sym (append_assoc took.octets (take count into) (new.left slot));
        }

        pub few_read : count ≤ room intake → HandsFew tells (room begun) old new slot
        few_read fits = let size = length-take-le count into reads.0 in few_handed new (take count into) reads.1.left (omega (arith, size, fits))

        pub took_more : (after : T) → Stands begun (took.octets ++ take count into) after → room after + length (take count into) ≤ room intake → Took new after
        took_more after stands less = record {
          octets = took.octets ++ take count into;
          stands = stands;
          hands = hands_more;
          within = (let both = length-append took.octets (take count into) in let within = took.within in omega (arith, both, within, less));
        }

        -- memory ran out then
        pub took_unheld : FailsSlot old new slot NoMemory
        took_unheld = (hands_more.side, hands_more.other_left, hands_more.other_ended)

      -- the slot has ended
      pub took_all : (full : T → Bool) → ReadInto tells mid slot into (Ok 0) new → TakesSlot Stands full tells begun old new slot intake
      took_all full reads = record {
        octets = took.octets;
        stands = took.stands;
        hands = subst (λ (o : List ℕ). Hands tells old new slot o) (append-nil took.octets) (hands_more 0 reads);
        whole = λ needed told. (sym (reads.1.left told) ∙ reads.1.none told refl, (reads.1.ended told).1 refl);
      }

    -- no more octets are needed
    pub took_enough : (full : T → Bool) → full intake ≡ true → TakesSlot Stands full tells begun old mid slot intake
    took_enough full enough = record {
      octets = took.octets;
      stands = took.stands;
      hands = took.hands;
      whole = λ needed told. let no : ⊥ = differ (sym enough ∙ needed) in absurd no;
    }
      where
        differ : true ≡ false → ⊥
        differ same = cc

-- ---- a file

-- it could not be opened
module _ (tells : Bool) (old new : Reading) (held : Option (List ℕ)) (name : List ℕ) where
  pub unopened_fails : (why : DeskFault) → OpenIn tells old held name (Err why) new → FailsFile old new name why
  unopened_fails Failed failed = (
    failed.0.rose,
    failed.0.asked,
    record {
      left = λ k apart. ap (λ (left : ℕ → List ℕ). left k) failed.1;
      ended = λ k apart. ap (λ (ended : ℕ → Bool). ended k) failed.2;
      slots = inl failed.0.slots;
    },
  )
  unopened_fails NoMemory same = (
    inl (ap (λ (r : Reading). r.side) same),
    record {
      left = λ k apart. ap (λ (r : Reading). r.left k) same;
      ended = λ k apart. ap (λ (r : Reading). r.ended k) same;
      slots = inl (ap (λ (r : Reading). r.side.slots) same);
    },
  )

  unopened_few : (most : ℕ) → new.side.slots ≡ old.side.slots → ReadsFew tells most old new held
  unopened_few most same told more = absurd (omega (arith, same, more))

  pub unopened_reads_few : (most : ℕ) (why : DeskFault) → OpenIn tells old held name (Err why) new → ReadsFew tells most old new held
  unopened_reads_few most Failed failed = unopened_few most failed.0.slots
  unopened_reads_few most NoMemory same = unopened_few most (ap (λ (r : Reading). r.side.slots) same)

-- it was opened
module _ (tells : Bool) (old mid new : Reading) (held : Option (List ℕ)) (name : List ℕ) where
  slot_fails : OpensInput tells old mid held name old.side.slots → (why : DeskFault) → FailsSlot mid new old.side.slots why → FailsFile old new name why
  slot_fails opened Failed fails = (
    subst (λ (faults : ℕ). Rose faults new.side.faults) (ap (λ (s : Side). s.faults) opened.side) fails.0.rose,
    fails.0.asked ∙ ap (λ (s : Side). s.asked) opened.side,
    record {
      left = λ k apart. fails.1 k apart ∙ opened.other_left k apart;
      ended = λ k apart. fails.2 k apart ∙ opened.other_ended k apart;
      slots = inr (fails.0.slots ∙ ap (λ (s : Side). s.slots) opened.side);
    },
  )
  slot_fails opened NoMemory fails = (
    inr (fails.0 ∙ opened.side),
    record {
      left = λ k apart. fails.1 k apart ∙ opened.other_left k apart;
      ended = λ k apart. fails.2 k apart ∙ opened.other_ended k apart;
      slots = inr (ap (λ (s : Side). s.slots) fails.0 ∙ ap (λ (s : Side). s.slots) opened.side);
    },
  )

  some_few : (most : ℕ) (octets : List ℕ) → held ≡ Some octets → length octets ≤ length (new.left old.side.slots) + most
      → IsSomeAnd held (λ (o : List ℕ). length o ≤ length (new.left old.side.slots) + most)
  some_few most octets is few = subst (λ (h : Option (List ℕ)). IsSomeAnd h (λ (o : List ℕ). length o ≤ length (new.left old.side.slots) + most)) (sym is) few

  module _ (slot : ℕ) (opened : OpensInput tells old mid held name slot) where
    first_slot : OpensInput tells old mid held name old.side.slots
    first_slot = subst (λ (k : ℕ). OpensInput tells old mid held name k) opened.number opened

    pub file_fails : (why : DeskFault) → FailsSlot mid new slot why → FailsFile old new name why
    file_fails why fails = slot_fails first_slot why (subst (λ (k : ℕ). FailsSlot mid new k why) opened.number fails)

    pub file_few : (most : ℕ) → HandsFew tells most mid new slot → ReadsFew tells most old new held
    file_few most few told more = some_few most (mid.left old.side.slots) (first_slot.left told) (subst (λ (k : ℕ). HandsFew tells most mid new k) opened.number few told)

    pub file_takes : {T : Type 0} (Stands : T → List ℕ → T → Type 0) (full : T → Bool) (begun now : T)
        → TakesSlot Stands full tells begun mid new slot now → TakesFile Stands full tells begun old new held name now
    file_takes Stands full begun now takes_here =
        let takes = subst (λ (k : ℕ). TakesSlot Stands full tells begun mid new k now) opened.number takes_here in
        record {
          side = takes.hands.side ∙ first_slot.side;
          other_left = λ k apart. takes.hands.other_left k apart ∙ first_slot.other_left k apart;
          other_ended = λ k apart. takes.hands.other_ended k apart ∙ first_slot.other_ended k apart;
          octets = takes.octets;
          stands = takes.stands;
          held_is = λ told. first_slot.left told ∙ ap Some (takes.hands.left told);
          whole = takes.whole;
        }

    -- whatever the answer
    pub file_reads : {T : Type 0} (Stands : T → List ℕ → T → Type 0) (full : T → Bool) (begun : T) (result : Result T DeskFault)
        → MatchResult result (TakesSlot Stands full tells begun mid new slot) (FailsSlot mid new slot)
        → MatchResult result (TakesFile Stands full tells begun old new held name) (FailsFile old new name)
    file_reads Stands full begun (Ok now) takes = file_takes Stands full begun now takes
    file_reads Stands full begun (Err why) fails = file_fails why fails
