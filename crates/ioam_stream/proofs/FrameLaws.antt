-- The frame of a run, by where it ended.
use Rattle.std.specs.Prelude.{⊤}
use Rattle.std.proofs.Common.{◌≡◌, ℕ, zero, suc, ◌+◌, ◌<◌, ◌≤◌, Bool, IsTrue, List, [], ◌∷◌, ◌++◌, length, take, Option, Some, refl, sym, ◌∙◌, ap, inl, inr, append-nil, length-append, arith}
use Rattle.std.proofs.lemmas.List.{take_all}
use Rattle.ioam_desk.specs.Asked.{AsksFront, HaveSlots}
use Rattle.ioam_desk.specs.Desk.{Side, Reading, Writing, holds, opened_each}
use Rattle.ioam_desk.specs.Touches.{State, Footprint, Failing, Quiet, Read, Touches, Within, opening, HowIn}
use Rattle.ioam_desk.proofs.TouchesLaws.{touches-none, touches-more, touches-then, touches-quiet_late, touches-slots_in, touches-slots_out, touches-unasked_in, touches-unasked_out}
use Rattle.std.specs.Option.{unwrap_or}
use Rattle.std.proofs.lemmas.Bool.{false≢true}
use Rattle.ioam_desk_outputs.specs.Names.{name_at}
use Rattle.ioam_desk_outputs.specs.Open.{AreUnended, AreUnread}
use Rattle.ioam_desk_outputs.specs.Held.{HoldAllFronts, HoldFronts}
use Rattle.ioam_desk_outputs.proofs.HeldLaws.{HoldAllFronts-holds}
use Rattle.ioam_stream.specs.Stage.{Kind, Lawful, HasSaid, unseen}
use Rattle.ioam_stream.specs.Streams.{Start, IsFedSo, Finishes, Sticks, streams_from, failing}
use Rattle.ioam_stream.specs.declared.reading.Stop.{Stop}
use Rattle.ioam_stream.specs.declared.reading.Stop.TheVariants as stop
use Rattle.ioam_stream.specs.Frame.{Frame, AllOpen, HoldLess, HoldSome, Leaves, Unsealed, Marked, contents, failing_all}

-- answers that aren't an end
pub no_read : stop.ReadFault ≡ stop.Ended → ⊥
no_read same = cc

pub no_write : stop.WriteFault ≡ stop.Ended → ⊥
no_write same = cc

pub no_memory : stop.NoMemory ≡ stop.Ended → ⊥
no_memory same = cc

pub no_read_ended : stop.Ended ≡ stop.ReadFault → ⊥
no_read_ended same = cc

pub no_fault : stop.WriteFault ≡ stop.ReadFault → ⊥
no_fault same = cc

pub no_unread : stop.NoMemory ≡ stop.ReadFault → ⊥
no_unread same = cc

-- what a name holds is what the input holds
held_is : (tells : Bool) (ins outs : List (List ℕ)) (old : State) (i : ℕ) (left : List ℕ) → holds old.outputs (name_at ins i) ≡ Some left
    → holds old.outputs (name_at ins i) ≡ Some (contents tells ins outs old old i)
held_is tells ins outs old i left is = is ∙ ap (λ (held : Option (List ℕ)). Some (unwrap_or held [])) (sym is)

-- a prefix that isn't shorter is the whole list
take_whole : {A : Type 0} (count : ℕ) (xs : List A) → length xs ≤ length (take count xs) → take count xs ≡ xs
take_whole zero [] least = refl
take_whole zero (x ∷ xs) least = absurd (omega (arith, least))
take_whole (suc count) [] least = refl
take_whole {A} (suc count) (x ∷ xs) least = ap (λ (ys : List A). x ∷ ys) (take_whole count xs (omega (arith, least)))

-- no more inputs than names were opened, and all names were given if as many were
abbrev pub OpensMost : Side → Side → List (List ℕ) → Type 0
OpensMost old new names = (new.slots ≤ old.slots + length names) × (old.slots + length names ≤ new.slots → new.asked ≡ old.asked ++ names)

-- so it is if each name that was given has its slot
pub slots_most : (old new : Side) (names : List (List ℕ)) → AsksFront old.asked new.asked names → HaveSlots old new → OpensMost old new names
slots_most old new names asked slots =
    let size : length new.asked ≡ length old.asked + length (take asked.0 names) = ap (λ (xs : List (List ℕ)). length xs) asked.1 ∙ length-append old.asked (take asked.0 names) in (
      omega (arith, slots, size, take_length asked.0 names),
      λ least. asked.1 ∙ ap (λ (xs : List (List ℕ)). old.asked ++ xs) (take_whole asked.0 names (omega (arith, slots, size, least))),
    )
  where
    take_length : (count : ℕ) (xs : List (List ℕ)) → length (take count xs) ≤ length xs
    take_length zero [] = omega arith
    take_length zero (x ∷ xs) = omega arith
    take_length (suc count) [] = omega arith
    take_length (suc count) (x ∷ xs) = omega (arith, take_length count xs)

-- or if one could not be opened
pub fewer_most : (old new : Side) (names : List (List ℕ)) → new.slots < old.slots + length names → OpensMost old new names
fewer_most old new names fewer = (omega (arith, fewer), λ least. absurd (omega (arith, fewer, least)))

-- a run over opened inputs opens none
slots_ran : (answer : Stop) (old new : Side) → HowIn (failing answer) old new → length new.asked ≡ length old.asked → new.slots ≡ old.slots
slots_ran stop.Ended old new how asked = omega (arith, how.slots, asked)
slots_ran stop.ReadFault old new how asked = omega (arith, how.slots, asked)
slots_ran stop.WriteFault old new how asked = omega (arith, how.slots, asked)
slots_ran stop.NoMemory old new how asked = omega (arith, how.slots, asked)

module _ (tells : Bool) (ins outs : List (List ℕ)) (drains : Type 0) where
  pub within_ins : Within (opening ins []) (opening ins outs)
  within_ins = record { reads = λ k none. none; writes = λ k none. none; ins = λ name is. is; outs = λ name none. absurd (omega (arith, none.1)) }

  -- it ended while the inputs were opened
  pub frame_ins : (old new : State) (answer : Stop) → (answer ≡ stop.Ended → ⊥)
      → Touches tells (opening ins outs) (failing_all answer) old new → AsksFront old.inputs.side.asked new.inputs.side.asked ins
      → AreUnread tells old.inputs new.inputs old.outputs ins → new.outputs ≡ old.outputs → OpensMost old.inputs.side new.inputs.side ins
      → Frame tells ins outs old new drains answer
  frame_ins old new answer not_ended touches asked unread same most = record {
    touches = touches;
    asked_in = asked;
    asked_out = (0, ap (λ (w : Writing). w.side.asked) same ∙ sym (append-nil old.outputs.side.asked) ∙ ap (λ (xs : List (List ℕ)). old.outputs.side.asked ++ xs) (sym (none outs)));
    all = λ is. absurd (not_ended is);
    most = most.0;
    given = most.1;
    no_output = λ less. same;
    unread = λ less. unread;
    held = λ told i below. held_is tells ins outs old i (new.inputs.left (old.inputs.side.slots + i)) (unread told i below);
    drained = λ is all told i inside. absurd (not_ended is);
  }
    where
      none : (xs : List (List ℕ)) → take 0 xs ≡ []
      none [] = refl
      none (x ∷ xs) = refl

  -- it ended before anything was opened
  pub frame_none : (old : State) → Frame tells ins outs old old drains stop.NoMemory
  frame_none old = frame_ins old old stop.NoMemory no_memory (touches-quiet_late tells (opening ins outs) old old (touches-none tells (opening ins outs) old))
      (0, sym (append-nil old.inputs.side.asked) ∙ ap (λ (xs : List (List ℕ)). old.inputs.side.asked ++ xs) (sym (none ins)))
      (λ told i below. absurd (omega (arith, below))) refl (slots_most old.inputs.side old.inputs.side ins asked_none refl)
    where
      none : (xs : List (List ℕ)) → take 0 xs ≡ []
      none [] = refl
      none (x ∷ xs) = refl

      asked_none : AsksFront old.inputs.side.asked old.inputs.side.asked ins
      asked_none = (0, sym (append-nil old.inputs.side.asked) ∙ ap (λ (xs : List (List ℕ)). old.inputs.side.asked ++ xs) (sym (none ins)))

  asked_all : (old new : Side) (names : List (List ℕ)) → new.asked ≡ old.asked ++ names → AsksFront old.asked new.asked names
  asked_all old new names is = (length names, is ∙ ap (λ (xs : List (List ℕ)). old.asked ++ xs) (sym (take_all (length names) names (omega arith))))

  -- it ended while the outputs were opened
  pub frame_outs : (old mid new : State) (answer : Stop) → (answer ≡ stop.Ended → ⊥)
      → Touches tells (opening ins outs) (failing_all answer) old new → mid.inputs.side ≡ opened_each old.inputs.side ins → new.inputs ≡ mid.inputs
      → AsksFront old.outputs.side.asked new.outputs.side.asked outs → AreUnread tells old.inputs mid.inputs old.outputs ins → Frame tells ins outs old new drains answer
  frame_outs old mid new answer not_ended touches side same asked unread = record {
    touches = touches;
    asked_in = asked_all old.inputs.side new.inputs.side ins (ap (λ (r : Reading). r.side.asked) same ∙ ap (λ (s : Side). s.asked) side);
    asked_out = asked;
    all = λ is. absurd (not_ended is);
    most = omega (arith, ap (λ (r : Reading). r.side.slots) same, ap (λ (s : Side). s.slots) side);
    given = λ opened. ap (λ (r : Reading). r.side.asked) same ∙ ap (λ (s : Side). s.asked) side;
    no_output = λ less. absurd (omega (arith, less, ap (λ (r : Reading). r.side.slots) same, ap (λ (s : Side). s.slots) side));
    unread = λ less told i below. unread told i (omega (arith, below, ap (λ (r : Reading). r.side.slots) same))
        ∙ ap (λ (r : Reading). Some (r.left (old.inputs.side.slots + i))) (sym same);
    held = λ told i below. held_is tells ins outs old i (mid.inputs.left (old.inputs.side.slots + i))
        (unread told i (omega (arith, below, ap (λ (r : Reading). r.side.slots) same)));
    drained = λ is all told i inside. absurd (not_ended is);
  }

  -- a read that failed is a call of an input that failed
  pub touches_all : (f : Footprint) (old new : State) (answer : Stop) → Touches tells f (failing answer) old new → Touches tells f (failing_all answer) old new
  touches_all f old new stop.Ended t = t
  touches_all f old new stop.ReadFault t = record {
    inputs = record { asked = t.inputs.asked; asks = t.inputs.asks; among = t.inputs.among; how = record { rose = t.inputs.how.rose; slots = touches-slots_in tells f Read old new t }; left = t.inputs.left; ended = t.inputs.ended };
    outputs = record { asked = t.outputs.asked; asks = t.outputs.asks; among = t.outputs.among; how = t.outputs.how; written = t.outputs.written; files = t.outputs.files };
  }
  touches_all f old new stop.WriteFault t = t
  touches_all f old new stop.NoMemory t = t

  -- it ran
  pub frame_ran : (old mid late new : State) (answer : Stop) (base_in base_out : ℕ) → base_in ≡ old.inputs.side.slots → base_out ≡ old.outputs.side.slots
      → Touches tells (opening ins []) Quiet old mid → mid.inputs.side ≡ opened_each old.inputs.side ins
      → Touches tells (opening [] outs) Quiet mid late → late.inputs ≡ mid.inputs → late.outputs.side ≡ opened_each mid.outputs.side outs → mid.outputs ≡ old.outputs
      → Touches tells (streams_from base_in base_out) (failing answer) late new
      → AreUnread tells old.inputs mid.inputs old.outputs ins
      → (answer ≡ stop.Ended → drains → IsTrue tells → (i : ℕ) → i < length ins → IsTrue (new.inputs.ended (old.inputs.side.slots + i)))
      → Frame tells ins outs old new drains answer
  frame_ran old mid late new answer base_in base_out at_in at_out first side_in second same_in side_out same_out third unread drained =
      let opened = touches-then tells (opening ins outs) (opening [] outs) Quiet old mid late (λ k below away none. none) (λ k below away none. none)
      (λ name none. absurd (omega (arith, none.1))) (λ name is. is) (touches-more tells (opening ins []) (opening ins outs) Quiet old mid within_ins first) second in
      let touches = touches-then tells (opening ins outs) (streams_from base_in base_out) (failing answer) old late new
      (λ k below away above. omega (arith, below, above, at_in)) (λ k below away above. omega (arith, below, above, at_out))
      (λ name none. absurd (omega (arith, none.1))) (λ name none. absurd (omega (arith, none.1))) opened third in
      let asked_in : new.inputs.side.asked ≡ old.inputs.side.asked ++ ins =
      touches-unasked_in tells (streams_from base_in base_out) (failing answer) late new refl third ∙ ap (λ (r : Reading). r.side.asked) same_in ∙ ap (λ (s : Side). s.asked) side_in in
      let asked_out : new.outputs.side.asked ≡ old.outputs.side.asked ++ outs =
      touches-unasked_out tells (streams_from base_in base_out) (failing answer) late new refl third ∙ ap (λ (s : Side). s.asked) side_out ∙ ap (λ (w : Writing). w.side.asked ++ outs) same_out in
      let slots_in = touches-slots_in tells (streams_from base_in base_out) (failing answer) late new third in
      let slots_out = touches-slots_out tells (streams_from base_in base_out) (failing answer) late new third in
      record {
        touches = touches_all (opening ins outs) old new answer touches;
        asked_in = asked_all old.inputs.side new.inputs.side ins asked_in;
        asked_out = asked_all old.outputs.side new.outputs.side outs asked_out;
        all = λ is. (asked_in, asked_out);
        most = omega (
          arith,
          slots_ran answer late.inputs.side new.inputs.side third.inputs.how
              (ap (λ (xs : List (List ℕ)). length xs) (touches-unasked_in tells (streams_from base_in base_out) (failing answer) late new refl third)),
          ap (λ (r : Reading). r.side.slots) same_in,
          ap (λ (s : Side). s.slots) side_in,
        );
        given = λ opened. asked_in;
        no_output = λ less. absurd (omega (arith, less, slots_in, ap (λ (r : Reading). r.side.slots) same_in, ap (λ (s : Side). s.slots) side_in));
        unread = λ less. absurd (omega (arith, less, slots_out, ap (λ (s : Side). s.slots) side_out, ap (λ (w : Writing). w.side.slots) same_out));
        held = λ told i below. held_is tells ins outs old i (mid.inputs.left (old.inputs.side.slots + i)) (unread told i (omega (
          arith,
          below,
          slots_ran answer late.inputs.side new.inputs.side third.inputs.how
              (ap (λ (xs : List (List ℕ)). length xs) (touches-unasked_in tells (streams_from base_in base_out) (failing answer) late new refl third)),
          ap (λ (r : Reading). r.side.slots) same_in,
        )));
        drained = drained;
      }

module _ {S : Type 0} (kind : Kind S) (tells : Bool) (ins outs : List (List ℕ)) where
  -- where a run begins
  abbrev pub start_of : State → S → Start S
  start_of old stage = record {
    contents = contents tells ins outs old old;
    base_in = old.inputs.side.slots;
    base_out = old.outputs.side.slots;
    names = outs;
    begun = stage;
  }

  some_of : (lawful : Lawful kind) (old new : State) (stage last : S) → HoldLess tells ins outs old new (kind.sealed stage) (kind.parts stage)
      → HoldSome tells ins outs old new (kind.texts stage last) (kind.firsts stage)
  some_of lawful old new stage last less = record {
    so = less.0;
    texts = elim less.2 [
      | inl parts ↦ lawful.parts stage (contents tells ins outs old old) less.0 parts
      | inr sealed ↦ lawful.sealed stage (contents tells ins outs old old) less.0 sealed.0
    ];
    held = less.1;
  }

  less_of : (old new : State) (stage : S) → IsTrue tells → Sticks kind tells (start_of old stage) new.outputs → HoldLess tells ins outs old new (kind.sealed stage) (kind.parts stage)
  less_of old new stage told sticks = let held = sticks told in (held.0, HoldAllFronts-holds old.outputs new.outputs 0 outs held.0 held.1, held.2)

  -- sealed texts
  pub unsealed_of : (old new : State) (stage last : S) (answer : Stop) → IsTrue tells → Finishes kind tells (start_of old stage) new last answer
      → Unsealed tells ins outs old new (kind.sealed stage) (kind.parts stage) answer
  unsealed_of old new stage last stop.Ended told f = tt
  unsealed_of old new stage last stop.ReadFault told f = tt
  unsealed_of old new stage last stop.WriteFault told f = less_of old new stage told f
  unsealed_of old new stage last stop.NoMemory told f = inr (less_of old new stage told f)

  -- what a run over opened files left
  pub finishes_leaves : (lawful : Lawful kind) (old new : State) (stage last : S) (answer : Stop) → length ins ≡ kind.inputs stage → AllOpen tells ins outs old new → IsTrue tells
      → Finishes kind tells (start_of old stage) new last answer → Leaves tells ins outs old new (kind.texts stage last) (kind.firsts stage) answer
  finishes_leaves lawful old new stage last stop.Ended size opened told f = let held = f.0 told in (opened, record { so = held.0; texts = held.1; held = held.2 })
  finishes_leaves lawful old new stage last stop.ReadFault size opened told f = let held = f.2 told in inr (
    opened,
    record {
      handed = f.0;
      splits = λ i inside. f.1 told i (omega (arith, inside, size));
      hold = record { so = held.0; texts = held.1; held = held.2 };
    },
  )
  finishes_leaves lawful old new stage last stop.WriteFault size opened told f = (opened, some_of lawful old new stage last (less_of old new stage told f))
  finishes_leaves lawful old new stage last stop.NoMemory size opened told f = inr (opened, some_of lawful old new stage last (less_of old new stage told f))

  pub drained_of : (old new : State) (stage last : S) (answer : Stop) → length ins ≡ kind.inputs stage → Finishes kind tells (start_of old stage) new last answer
      → answer ≡ stop.Ended → kind.drains last → IsTrue tells → (i : ℕ) → i < length ins → IsTrue (new.inputs.ended (old.inputs.side.slots + i))
  drained_of old new stage last stop.Ended size f is all told i inside = f.1 all told i (omega (arith, inside, size))
  drained_of old new stage last stop.ReadFault size f is all told i inside = absurd (no_read is)
  drained_of old new stage last stop.WriteFault size f is all told i inside = absurd (no_write is)
  drained_of old new stage last stop.NoMemory size f is all told i inside = absurd (no_memory is)

  -- it has said all of some octets
  pub said_of : (old new : State) (stage last : S) (answer : Stop) → Finishes kind tells (start_of old stage) new last answer → answer ≡ stop.Ended → HasSaid kind stage last
  said_of old new stage last stop.Ended f is = f.2
  said_of old new stage last stop.ReadFault f is = absurd (no_read is)
  said_of old new stage last stop.WriteFault f is = absurd (no_write is)
  said_of old new stage last stop.NoMemory f is = absurd (no_memory is)

  -- which inputs had ended
  pub marked_of : (old new : State) (stage last : S) (answer : Stop) → length ins ≡ kind.inputs stage → Finishes kind tells (start_of old stage) new last answer
      → IsTrue tells → Marked tells ins outs old new (kind.marks last) answer
  marked_of old new stage last stop.ReadFault size f told is opened = let marks = f.3 told in (marks.0, marks.1, λ i inside. marks.2 i (omega (arith, inside, size)), λ i inside done. marks.3 i (omega (arith, inside, size)) done)
  marked_of old new stage last stop.Ended size f told is opened = absurd (no_read_ended is)
  marked_of old new stage last stop.WriteFault size f told is opened = absurd (no_fault is)
  marked_of old new stage last stop.NoMemory size f told is opened = absurd (no_unread is)

  -- outputs that could not all be opened
  pub unopened_less : (lawful : Lawful kind) (old new : State) (stage : S) → kind.fresh stage → length outs ≡ kind.width stage
      → ((texts : List (List ℕ)) → length texts ≡ length outs → HoldFronts old.outputs new.outputs 0 outs texts)
      → HoldLess tells ins outs old new (kind.sealed stage) (kind.parts stage)
  unopened_less lawful old new stage fresh width empty =
      let none = lawful.none stage (contents tells ins outs old old) fresh in
      (none.0, empty none.0 (none.1 ∙ sym width), inl none.2)

  pub unopened_some : (lawful : Lawful kind) (old new : State) (stage last : S) → kind.fresh stage → length outs ≡ kind.width stage
      → ((texts : List (List ℕ)) → length texts ≡ length outs → HoldFronts old.outputs new.outputs 0 outs texts)
      → HoldSome tells ins outs old new (kind.texts stage last) (kind.firsts stage)
  unopened_some lawful old new stage last fresh width empty = some_of lawful old new stage last (unopened_less lawful old new stage fresh width empty)

  -- the inputs are unread
  pub opened_unseen : (old mid late : State) (stage : S) → length ins ≡ kind.inputs stage → mid.inputs.side ≡ opened_each old.inputs.side ins → late.inputs ≡ mid.inputs
      → AreUnread tells old.inputs mid.inputs old.outputs ins → AreUnended old.inputs mid.inputs → IsFedSo kind tells (start_of old stage) late.inputs unseen
  opened_unseen old mid late stage size side same unread unended = record {
    is_open = λ i inside. omega (arith, inside, size, ap (λ (r : Reading). r.side.slots) same, ap (λ (s : Side). s.slots) side);
    handed = λ told i inside. ap (λ (held : Option (List ℕ)). unwrap_or held []) (unread told i (omega (arith, inside, size, ap (λ (s : Side). s.slots) side))
        ∙ ap (λ (r : Reading). Some (r.left (old.inputs.side.slots + i))) (sym same));
    whole = λ told i inside done. absurd (false≢true done);
    ended = λ told i inside. ap (λ (r : Reading). r.ended (old.inputs.side.slots + i)) same ∙ unended i (omega (arith, inside, size, ap (λ (s : Side). s.slots) side));
  }

-- inputs were opened, and then outputs
pub opened_both : (tells : Bool) (ins outs : List (List ℕ)) (x : Failing) (old mid new : State) → Touches tells (opening ins []) Quiet old mid
    → Touches tells (opening [] outs) x mid new → Touches tells (opening ins outs) x old new
opened_both tells ins outs x old mid new first second = touches-then tells (opening ins outs) (opening [] outs) x old mid new (λ k below away none. none) (λ k below away none. none)
    (λ name none. absurd (omega (arith, none.1))) (λ name is. is) (touches-more tells (opening ins []) (opening ins outs) Quiet old mid (within_ins tells ins outs ⊤) first) second
