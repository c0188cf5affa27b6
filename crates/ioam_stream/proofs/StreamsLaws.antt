-- Laws of a stage that is handed pieces of inputs while its texts are written.
use Rattle.std.proofs.Common.{◌≡◌, ◌≢◌, ℕ, ◌+◌, ◌<◌, ◌≤◌, Bool, true, false, IsTrue, All, Contains, List, [], ◌∷◌, ◌++◌, length, take, refl, sym, ◌∙◌, ap, subst, inl, inr, zero, suc, append-nil, append_assoc, arith, Result, get_or, Some, ◌⊎◌, length-append}
use Rattle.std.proofs.lemmas.Bool.{cases_eq, false≢true}
use Rattle.std.proofs.lemmas.List.{length-take-le}
use Rattle.ioam_base.specs.Octets.{IsFront}
use Rattle.ioam_desk.specs.Desk.{Side, Reading, Writing, Gives, ReadInto}
use Rattle.ioam_desk.specs.Touches.{State, Footprint, Failing, Quiet, Touches, Within, read_of, reads_from, writes_from, failing_read}
use Rattle.ioam_desk.proofs.TouchesLaws.{touches-slots_in, touches-slots_out, touches-more, touches-read, within-read}
use Rattle.ioam_desk.specs.declared.fault.DeskFault.{DeskFault}
use Rattle.ioam_desk_outputs.specs.Flush.{KeepsTold, LeavesSome}
use Rattle.ioam_desk_outputs.specs.Held.{HoldTexts}
use Rattle.ioam_desk_outputs.specs.Told.{AreTold, said_more}
use Rattle.ioam_desk_outputs.specs.declared.output.Output.{Output as Sink}
use Rattle.ioam_desk_outputs.proofs.HeldLaws.{AreTold-fronts, holds_slot, more_fronts}
use Rattle.ioam_desk_outputs.proofs.ToldLaws.{AreTold-adds, told_names}
use Rattle.ioam_stream.specs.Stage.{Kind, Seen, Covers, Lawful, Leading, Leads, Keeps, IsCut, Takes, Waits, Ends, IsFed, IsEnded}
use Rattle.ioam_stream.specs.Streams.{Start, IsFedSo, Streams, IsWaiting, Sticks, Stopped, Pauses, streams_from}
use Rattle.ioam_stream.specs.declared.reading.Pause.{Pause}
use Rattle.ioam_stream.specs.declared.reading.Pause.TheVariants as pause

-- what was said to outputs that nobody wrote to is still said
AreTold-still : (tells : Bool) (old new : Writing) (slot : ℕ) (names : List (List ℕ)) (outputs : List Sink) (texts : List (List ℕ))
    → (IsTrue tells → (k : ℕ) → k < old.side.slots → new.written k ≡ old.written k) → (IsTrue tells → (name : List ℕ) → new.files name ≡ old.files name)
    → old.side.slots ≤ new.side.slots → AreTold tells old slot names outputs texts → AreTold tells new slot names outputs texts
AreTold-still tells old new slot [] [] [] written files slots told = tt
AreTold-still tells old new slot (name ∷ names) (output ∷ outputs) (text ∷ texts) written files slots told = (
  record {
    number = told.0.number;
    inside = omega (arith, told.0.inside, slots);
    tied = λ tells. files tells name ∙ told.0.tied tells;
    said = λ tells. told.0.said tells ∙ ap (λ (xs : List ℕ). xs ++ output.gathered.items) (sym (written tells slot told.0.inside));
  },
  AreTold-still tells old new (slot + 1) names outputs texts written files slots told.1,
)
AreTold-still tells old new slot [] [] (text ∷ texts) written files slots told = absurd told
AreTold-still tells old new slot [] (output ∷ outputs) texts written files slots told = absurd told
AreTold-still tells old new slot (name ∷ names) [] texts written files slots told = absurd told
AreTold-still tells old new slot (name ∷ names) (output ∷ outputs) [] written files slots told = absurd told

-- so where a run of calls may only read
pub told_touched : (tells : Bool) (base : ℕ) (x : Failing) (old new : State) (slot : ℕ) (names : List (List ℕ)) (outputs : List Sink) (texts : List (List ℕ))
    → Touches tells (reads_from base) x old new → AreTold tells old.outputs slot names outputs texts → AreTold tells new.outputs slot names outputs texts
told_touched tells base x old new slot names outputs texts touches told =
    AreTold-still tells old.outputs new.outputs slot names outputs texts
    (λ tells k below. touches.outputs.written tells k below (λ none. none))
    (λ tells name. touches.outputs.files tells name (λ stands. none_asked touches.outputs.asked name touches.outputs.among stands))
    (touches-slots_out tells (reads_from base) x old new touches) told
  where
    none_asked : (asked : List (List ℕ)) (name : List ℕ) → All (Contains []) asked → Contains asked name → ⊥
    none_asked asked name among stands = let one = among stands.0 name stands.1 in omega (arith, one.1)

-- the rest of a file that grew
covers : (xs handed left : List ℕ) → xs ≡ handed ++ left → IsFront handed xs
covers xs handed left is = record { rest = left; is = is }

one_some : (xs ys : List ℕ) → Some xs ≡ Some ys → xs ≡ ys
one_some xs ys same = cc

-- a function changed at one number
abbrev at_place : {A : Type 0} → ℕ → (ℕ → A) → A → ℕ → A
at_place zero f x zero = x
at_place zero f x (suc k) = f (suc k)
at_place (suc input) f x zero = f zero
at_place (suc input) f x (suc k) = at_place input (λ n. f (suc n)) x k

placed : {A : Type 0} (input : ℕ) (f : ℕ → A) (x : A) → at_place input f x input ≡ x
placed zero f x = refl
placed (suc input) f x = placed input (λ n. f (suc n)) x

unplaced : {A : Type 0} (input : ℕ) (f : ℕ → A) (x : A) (k : ℕ) → k ≢ input → at_place input f x k ≡ f k
unplaced zero f x zero other = absurd (other refl)
unplaced zero f x (suc k) other = refl
unplaced (suc input) f x zero other = refl
unplaced (suc input) f x (suc k) other = unplaced input (λ n. f (suc n)) x k (λ same. other (omega (arith, same)))

not_ended : (ended : ℕ → Bool) (i : ℕ) → ended i ≡ false → IsTrue (ended i) → ⊥
not_ended ended i is done = false≢true (sym is ∙ done)

is_not : (b : Bool) → (IsTrue b → ⊥) → b ≡ false
is_not true = λ no. absurd (no refl)
is_not false = λ no. refl

-- a read that gave something
pub some_given : (into : List ℕ) (count : ℕ) → 0 < count → count ≤ length into → take count into ≡ [] → ⊥
some_given into count some inside none = omega (arith, some, length-take-le count into inside, ap length none)

take_none : (xs : List ℕ) → take 0 xs ≡ []
take_none [] = refl
take_none (x ∷ xs) = refl

-- a read that gave nothing
pub none_given : (tells : Bool) (old new : Reading) (slot : ℕ) (into : List ℕ) (count : ℕ) → count ≡ 0 → Gives tells old new slot (take count into) → Gives tells old new slot []
none_given tells old new slot into count is gives =
    subst (λ (xs : List ℕ). Gives tells old new slot xs) (ap (λ (n : ℕ). take n into) is ∙ take_none into) gives

-- files of whose texts something is left to write don't all hold them
pub not_held : (tells : Bool) (desk : Writing) (slot : ℕ) (names : List (List ℕ)) (outputs : List Sink) (texts : List (List ℕ)) → IsTrue tells
    → AreTold tells desk slot names outputs texts → (place : ℕ) → place < length outputs → ((d : Sink) → 0 < length (get_or outputs place d).gathered.items)
    → HoldTexts desk names texts → ⊥
not_held tells desk slot [] [] [] is told place inside left held = omega (arith, inside)
not_held tells desk slot (name ∷ names) (output ∷ outputs) (text ∷ texts) is told zero inside left held =
    let same : desk.written slot ≡ text = one_some (desk.written slot) text (sym (holds_slot desk name slot (told.0.tied is)) ∙ held.0) in
    omega (arith, left output, ap length (told.0.said is), length-append (desk.written slot) output.gathered.items, ap length same)
not_held tells desk slot (name ∷ names) (output ∷ outputs) (text ∷ texts) is told (suc place) inside left held =
    not_held tells desk (slot + 1) names outputs texts is told.1 place (omega (arith, inside)) left held.1
not_held tells desk slot [] [] (text ∷ texts) is told place inside left held = absurd told
not_held tells desk slot [] (output ∷ outputs) texts is told place inside left held = absurd told
not_held tells desk slot (name ∷ names) [] texts is told place inside left held = absurd told
not_held tells desk slot (name ∷ names) (output ∷ outputs) [] is told place inside left held = absurd told

module _ {S : Type 0} (kind : Kind S) (tells : Bool) (start : Start S) where
  -- what was handed out covers what the inputs hold
  pub fed_covers : (inputs : Reading) (seen : Seen) → IsTrue tells → IsFedSo kind tells start inputs seen → Covers (kind.inputs start.begun) seen start.contents
  fed_covers inputs seen told fed = record {
    front = λ i inside. covers (start.contents i) (seen.fed i) (inputs.left (start.base_in + i)) (fed.handed told i inside);
    whole = λ i inside done. fed.handed told i inside ∙ ap (λ (left : List ℕ). seen.fed i ++ left) (fed.whole told i inside done) ∙ append-nil (seen.fed i);
  }

  -- calls that read none of the inputs
  pub fed_kept : (f : Footprint) (x : Failing) (old new : State) (seen : Seen) → ((k : ℕ) → f.reads k → ⊥) → Touches tells f x old new
      → IsFedSo kind tells start old.inputs seen → IsFedSo kind tells start new.inputs seen
  fed_kept f x old new seen away touches fed = record {
    is_open = λ i inside. omega (arith, fed.is_open i inside, touches-slots_in tells f x old new touches);
    handed = λ told i inside. fed.handed told i inside ∙ ap (λ (left : List ℕ). seen.fed i ++ left)
        (sym (touches.inputs.left (start.base_in + i) (fed.is_open i inside) (away (start.base_in + i))));
    whole = λ told i inside done. touches.inputs.left (start.base_in + i) (fed.is_open i inside) (away (start.base_in + i)) ∙ fed.whole told i inside done;
    ended = λ told i inside. touches.inputs.ended (start.base_in + i) (fed.is_open i inside) (away (start.base_in + i)) ∙ fed.ended told i inside;
  }

  -- an item was taken
  pub streams_taken : (cut : Bool) (state : State) (old new : S) (before after : List Sink) → Takes kind old new before after
      → Streams kind tells start cut state old before → Streams kind tells start cut state new after
  streams_taken cut state old new before after takes streams = record {
    seen = streams.seen;
    so_far = said_more streams.so_far takes.added;
    cut_is = streams.cut_is;
    fed = streams.fed;
    stands = takes.stands start.begun streams.seen streams.so_far streams.stands;
    told = AreTold-adds tells state.outputs start.base_out start.names before after streams.so_far takes.added streams.told takes.adds;
  }

  -- something was written
  pub streams_written : (cut : Bool) (old new : State) (x : Failing) (stage : S) (before after : List Sink) → KeepsTold tells old.outputs new.outputs before after
      → Touches tells (writes_from start.base_out) x old new → Streams kind tells start cut old stage before → Streams kind tells start cut new stage after
  streams_written cut old new x stage before after says touches streams = record {
    seen = streams.seen;
    so_far = streams.so_far;
    cut_is = streams.cut_is;
    fed = fed_kept (writes_from start.base_out) x old new streams.seen (λ k none. none) touches streams.fed;
    stands = streams.stands;
    told = says start.base_out start.names streams.so_far streams.told;
  }

  -- the stage waits for an input
  pub streams_waits : (cut : Bool) (state : State) (old new : S) (before after : List Sink) (input : ℕ) → Waits kind old new before after input
      → Streams kind tells start cut state old before → IsWaiting kind tells start cut state new after input
  streams_waits cut state old new before after input waits streams = record {
    streams = record {
      seen = streams.seen;
      so_far = streams.so_far;
      cut_is = streams.cut_is;
      fed = streams.fed;
      stands = waits.stands start.begun streams.seen streams.so_far streams.stands;
      told = subst (λ (outputs : List Sink). AreTold tells state.outputs start.base_out start.names outputs streams.so_far) (sym waits.same) streams.told;
    };
    uncut = sym streams.cut_is ∙ waits.uncut start.begun streams.seen streams.so_far streams.stands;
    inside = waits.inside start.begun streams.seen streams.so_far streams.stands;
    waits = waits.waits;
    is_open = waits.is_open start.begun streams.seen streams.so_far streams.stands;
  }

  -- something was written while the stage waits
  pub waiting_written : (cut : Bool) (old new : State) (x : Failing) (stage : S) (before after : List Sink) (input : ℕ)
      → KeepsTold tells old.outputs new.outputs before after → Touches tells (writes_from start.base_out) x old new
      → IsWaiting kind tells start cut old stage before input → IsWaiting kind tells start cut new stage after input
  waiting_written cut old new x stage before after input says touches waiting = record {
    streams = record {
      seen = waiting.streams.seen;
      so_far = waiting.streams.so_far;
      cut_is = waiting.streams.cut_is;
      fed = fed_kept (writes_from start.base_out) x old new waiting.streams.seen (λ k none. none) touches waiting.streams.fed;
      stands = waiting.streams.stands;
      told = says start.base_out start.names waiting.streams.so_far waiting.streams.told;
    };
    uncut = waiting.uncut;
    inside = waiting.inside;
    waits = waiting.waits;
    is_open = waiting.is_open;
  }

  -- outputs hold a prefix of what was said to them, and of that with more after it
  pub sticks_told : (state : State) (outputs : List Sink) (so_far : List (List ℕ)) → length outputs ≡ kind.width start.begun
      → AreTold tells state.outputs start.base_out start.names outputs so_far
      → (IsTrue tells → Leads kind start.begun start.contents so_far) → Sticks kind tells start state.outputs
  sticks_told state outputs so_far width told leads = λ is.
      let lead = leads is in (
        said_more so_far lead.0,
        more_fronts state.outputs start.names so_far lead.0
            (lead.1 ∙ sym width ∙ told_names tells state.outputs start.base_out start.names outputs so_far told)
            (AreTold-fronts tells state.outputs start.base_out start.names outputs so_far is told),
        inl lead.2,
      )

  -- and not all of it, if something is left to write
  pub sticks_left : (state : State) (least : ℕ) (before outputs : List Sink) (so_far : List (List ℕ)) → length outputs ≡ kind.width start.begun
      → LeavesSome least before outputs → length before ≡ length outputs → AreTold tells state.outputs start.base_out start.names outputs so_far
      → (IsTrue tells → Leads kind start.begun start.contents so_far ⊎ kind.sealed start.begun start.contents so_far) → Sticks kind tells start state.outputs
  sticks_left state least before outputs so_far width left same told leads = λ is. elim (leads is) [
    | inl lead ↦ sticks_told state outputs so_far width told (λ told. lead) is
    | inr sealed ↦ (
      so_far,
      AreTold-fronts tells state.outputs start.base_out start.names outputs so_far is told,
      inr (sealed, not_held tells state.outputs start.base_out start.names outputs so_far is told left.place (omega (arith, left.inside, same)) left.left),
    )
  ]

  leads_of : (lawful : Lawful kind) (inputs : Reading) (stage : S) (seen : Seen) (so_far : List (List ℕ)) → IsFedSo kind tells start inputs seen
      → kind.stands start.begun seen so_far stage → IsTrue tells → Leads kind start.begun start.contents so_far ⊎ kind.sealed start.begun start.contents so_far
  leads_of lawful inputs stage seen so_far fed stands told =
      lawful.begins start.begun seen so_far stage start.contents (fed_covers inputs seen told fed) stands

  -- so in the middle
  pub streams_sticks : (cut : Bool) (state : State) (stage : S) (outputs : List Sink) → length outputs ≡ kind.width start.begun → Leading kind stage
      → Streams kind tells start cut state stage outputs → Sticks kind tells start state.outputs
  streams_sticks cut state stage outputs width leading streams = sticks_told state outputs streams.so_far width streams.told
      (λ told. leading start.begun streams.seen streams.so_far start.contents (fed_covers state.inputs streams.seen told streams.fed) streams.stands)

  -- what could not all be written
  pub streams_left : (lawful : Lawful kind) (cut : Bool) (state : State) (stage : S) (least : ℕ) (before outputs : List Sink) → length outputs ≡ kind.width start.begun
      → LeavesSome least before outputs → length before ≡ length outputs → Streams kind tells start cut state stage outputs → Sticks kind tells start state.outputs
  streams_left lawful cut state stage least before outputs width left same streams = sticks_left state least before outputs streams.so_far width left same streams.told
      (leads_of lawful state.inputs stage streams.seen streams.so_far streams.fed streams.stands)

  -- what was handed out covers itself
  covers_handed : (seen : Seen) → Covers (kind.inputs start.begun) seen seen.fed
  covers_handed seen = record { front = λ i inside. record { rest = []; is = sym (append-nil (seen.fed i)) }; whole = λ i inside done. refl }

  -- all is said
  pub streams_ends : (lawful : Lawful kind) (cut : Bool) (state : State) (old new : S) (before after : List Sink) → Ends kind old new before after
      → Streams kind tells start cut state old before → Stopped kind tells start cut state new after
  streams_ends lawful false state old new before after ends streams = (
    record {
      so_far = streams.so_far;
      told = subst (λ (outputs : List Sink). AreTold tells state.outputs start.base_out start.names outputs streams.so_far) (sym ends.same) streams.told;
      says = λ told. ends.whole start.begun streams.seen streams.so_far start.contents streams.stands streams.cut_is (fed_covers state.inputs streams.seen told streams.fed);
      leads = leads_of lawful state.inputs old streams.seen streams.so_far streams.fed streams.stands;
    },
    λ drains told i inside. streams.fed.ended told i inside ∙ ends.drained start.begun streams.seen streams.so_far streams.stands streams.cut_is drains i inside,
    (streams.seen.fed, streams.so_far, ends.whole start.begun streams.seen streams.so_far streams.seen.fed streams.stands streams.cut_is (covers_handed streams.seen)),
  )
  streams_ends lawful true state old new before after ends streams = (
    streams.seen.fed,
    λ told i inside. streams.fed.handed told i inside,
    record {
      so_far = streams.so_far;
      told = subst (λ (outputs : List Sink). AreTold tells state.outputs start.base_out start.names outputs streams.so_far) (sym ends.same) streams.told;
      says = λ told. (ends.cut start.begun streams.seen streams.so_far streams.stands streams.cut_is).0;
      leads = leads_of lawful state.inputs old streams.seen streams.so_far streams.fed streams.stands;
    },
    λ told. (streams.seen.ended, (ends.cut start.begun streams.seen streams.so_far streams.stands streams.cut_is).1, λ i inside. streams.fed.ended told i inside, λ i inside done. streams.fed.whole told i inside done),
  )

  -- where no more can be had no step waits
  pub pauses_cut : (state : State) (stage : S) (outputs : List Sink) (what : Pause) → Pauses kind tells start true state stage outputs what
      → Stopped kind tells start true state stage outputs
  pauses_cut state stage outputs (pause.More input) waiting = absurd (false≢true (sym waiting.uncut))
  pauses_cut state stage outputs pause.End stopped = stopped

  -- no more can be had
  pub streams_cut : (state : State) (before after : S) (outputs : List Sink) → Keeps kind IsCut before after
      → Streams kind tells start false state before outputs → Streams kind tells start true state after outputs
  streams_cut state before after outputs keeps streams =
      let now : Seen = record { fed = streams.seen.fed; ended = streams.seen.ended; cut = true } in
      record {
        seen = now;
        so_far = streams.so_far;
        cut_is = refl;
        fed = record { is_open = streams.fed.is_open; handed = streams.fed.handed; whole = streams.fed.whole; ended = streams.fed.ended };
        stands = keeps start.begun streams.seen now streams.so_far (record { fed = λ k. refl; ended = λ k. refl; cut = refl }) streams.stands;
        told = streams.told;
      }

  -- a read that failed leaves what was handed out
  pub waiting_unread : (base : ℕ) (x : Failing) (old new : State) (stage after : S) (outputs : List Sink) (input : ℕ) → after ≡ stage
      → Touches tells (reads_from base) x old new → new.inputs.left ≡ old.inputs.left → new.inputs.ended ≡ old.inputs.ended
      → IsWaiting kind tells start false old stage outputs input → Streams kind tells start false new after outputs
  waiting_unread base x old new stage after outputs input same touches left ended waiting =
      let streams = waiting.streams in
      record {
        seen = streams.seen;
        so_far = streams.so_far;
        cut_is = streams.cut_is;
        fed = record {
          is_open = λ i inside. omega (arith, streams.fed.is_open i inside, touches-slots_in tells (reads_from base) x old new touches);
          handed = λ told i inside. streams.fed.handed told i inside ∙ ap (λ (f : ℕ → List ℕ). streams.seen.fed i ++ f (start.base_in + i)) (sym left);
          whole = λ told i inside done. ap (λ (f : ℕ → List ℕ). f (start.base_in + i)) left ∙ streams.fed.whole told i inside done;
          ended = λ told i inside. ap (λ (f : ℕ → Bool). f (start.base_in + i)) ended ∙ streams.fed.ended told i inside;
        };
        stands = subst (λ (s : S). kind.stands start.begun streams.seen streams.so_far s) (sym same) streams.stands;
        told = told_touched tells base x old new start.base_out start.names outputs streams.so_far touches streams.told;
      }

  -- a piece was handed out
  pub waiting_fed : (base : ℕ) (old new : State) (before after : S) (outputs : List Sink) (input : ℕ)
      → Touches tells (reads_from base) Quiet old new
      → ((seen : Seen) (so_far : List (List ℕ)) → IsFedSo kind tells start old.inputs seen → seen.ended input ≡ false → kind.stands start.begun seen so_far before
      → (now : Seen) × (now.cut ≡ seen.cut) × IsFedSo kind tells start new.inputs now × kind.stands start.begun now so_far after)
      → IsWaiting kind tells start false old before outputs input → Streams kind tells start false new after outputs
  waiting_fed base old new before after outputs input touches refills waiting =
      let streams = waiting.streams in
      let now = refills streams.seen streams.so_far streams.fed waiting.is_open streams.stands in
      record {
        seen = now.0;
        so_far = streams.so_far;
        cut_is = now.1 ∙ streams.cut_is;
        fed = now.2;
        stands = now.3;
        told = told_touched tells base Quiet old new start.base_out start.names outputs streams.so_far touches streams.told;
      }

  -- what was handed out, after a piece of one input
  pub piece_seen : (old new : State) (input slot : ℕ) (octets : List ℕ) (seen : Seen) → slot ≡ start.base_in + input
      → Gives tells old.inputs new.inputs slot octets → (octets ≡ [] → ⊥) → IsFedSo kind tells start old.inputs seen → seen.ended input ≡ false
      → (now : Seen) × IsFed input octets seen now × IsFedSo kind tells start new.inputs now
  piece_seen old new input slot octets seen number gives some fed is_open = (
    now,
    record { is_open = is_open; fed = at_input; others = elsewhere; ended = λ k. refl; cut = refl },
    record {
      is_open = λ i inside. omega (arith, fed.is_open i inside, ap (λ (s : Side). s.slots) gives.side);
      handed = λ told i inside. elim (cases_eq i input) [
        | inl same ↦
            let P : ℕ → Type 0 = λ k. start.contents k ≡ now.fed k ++ new.inputs.left (start.base_in + k) in
            subst P (sym same) (here told (subst (λ (k : ℕ). k < kind.inputs start.begun) same inside))
        | inr other ↦ fed.handed told i inside
            ∙ ap (λ (xs : List ℕ). xs ++ old.inputs.left (start.base_in + i)) (sym (elsewhere i other))
            ∙ ap (λ (xs : List ℕ). now.fed i ++ xs) (sym (gives.other_left (start.base_in + i) (λ at. other (omega (arith, at, number)))))
      ];
      whole = λ told i inside done. elim (cases_eq i input) [
        | inl same ↦ absurd (not_ended seen.ended i (subst (λ (k : ℕ). seen.ended k ≡ false) (sym same) is_open) done)
        | inr other ↦ gives.other_left (start.base_in + i) (λ at. other (omega (arith, at, number))) ∙ fed.whole told i inside done
      ];
      ended = λ told i inside. elim (cases_eq i input) [
        | inl same ↦
            let P : ℕ → Type 0 = λ k. new.inputs.ended k ≡ seen.ended input in
            let here : new.inputs.ended slot ≡ seen.ended input = is_not (new.inputs.ended slot) (λ ended. some ((gives.ended told).0 ended)) ∙ sym is_open in
            subst P (number ∙ ap (λ (k : ℕ). start.base_in + k) (sym same)) here ∙ ap seen.ended (sym same)
        | inr other ↦ gives.other_ended (start.base_in + i) (λ at. other (omega (arith, at, number))) ∙ fed.ended told i inside
      ];
    },
  )
    where
      now : Seen
      now = record { fed = at_place input seen.fed (seen.fed input ++ octets); ended = seen.ended; cut = seen.cut }

      at_input : now.fed input ≡ seen.fed input ++ octets
      at_input = placed input seen.fed (seen.fed input ++ octets)

      elsewhere : (k : ℕ) → k ≢ input → now.fed k ≡ seen.fed k
      elsewhere k other = unplaced input seen.fed (seen.fed input ++ octets) k other

      here : IsTrue tells → input < kind.inputs start.begun → start.contents input ≡ now.fed input ++ new.inputs.left (start.base_in + input)
      here told inside = fed.handed told input inside
          ∙ ap (λ (k : ℕ). seen.fed input ++ old.inputs.left k) (sym number)
          ∙ ap (λ (xs : List ℕ). seen.fed input ++ xs) (gives.left told)
          ∙ sym (append_assoc (seen.fed input) octets (new.inputs.left slot))
          ∙ ap (λ (xs : List ℕ). xs ++ new.inputs.left slot) (sym at_input)
          ∙ ap (λ (k : ℕ). now.fed input ++ new.inputs.left k) number

  -- and after its end
  pub end_seen : (old new : State) (input slot : ℕ) (seen : Seen) → slot ≡ start.base_in + input
      → Gives tells old.inputs new.inputs slot [] → IsFedSo kind tells start old.inputs seen
      → (now : Seen) × IsEnded input seen now × IsFedSo kind tells start new.inputs now
  end_seen old new input slot seen number gives fed = (
    now,
    record { fed = λ k. refl; ended = at_input; others = elsewhere; cut = refl },
    record {
      is_open = λ i inside. omega (arith, fed.is_open i inside, ap (λ (s : Side). s.slots) gives.side);
      handed = λ told i inside. fed.handed told i inside ∙ ap (λ (xs : List ℕ). seen.fed i ++ xs) (sym (same_left told i));
      whole = λ told i inside done. elim (cases_eq i input) [
        | inl same ↦
            let P : ℕ → Type 0 = λ k. new.inputs.left k ≡ [] in
            subst P (number ∙ ap (λ (k : ℕ). start.base_in + k) (sym same)) (sym (gives.left told) ∙ gives.none told refl)
        | inr other ↦ gives.other_left (start.base_in + i) (λ at. other (omega (arith, at, number)))
            ∙ fed.whole told i inside (subst (λ (b : Bool). IsTrue b) (elsewhere i other) done)
      ];
      ended = λ told i inside. elim (cases_eq i input) [
        | inl same ↦
            let P : ℕ → Type 0 = λ k. new.inputs.ended k ≡ true in
            subst P (number ∙ ap (λ (k : ℕ). start.base_in + k) (sym same)) ((gives.ended told).1 refl) ∙ sym at_input ∙ ap now.ended (sym same)
        | inr other ↦ gives.other_ended (start.base_in + i) (λ at. other (omega (arith, at, number))) ∙ fed.ended told i inside ∙ sym (elsewhere i other)
      ];
    },
  )
    where
      now : Seen
      now = record { fed = seen.fed; ended = at_place input seen.ended true; cut = seen.cut }

      at_input : now.ended input ≡ true
      at_input = placed input seen.ended true

      elsewhere : (k : ℕ) → k ≢ input → now.ended k ≡ seen.ended k
      elsewhere k other = unplaced input seen.ended true k other

      same_left : IsTrue tells → (i : ℕ) → new.inputs.left (start.base_in + i) ≡ old.inputs.left (start.base_in + i)
      same_left told i = elim (cases_eq (start.base_in + i) slot) [
        | inl same ↦ let P : ℕ → Type 0 = λ k. new.inputs.left k ≡ old.inputs.left k in subst P (sym same) (sym (gives.left told))
        | inr other ↦ gives.other_left (start.base_in + i) other
      ]

  -- so where the stage waits
  pub waiting_sticks : (lawful : Lawful kind) (base : ℕ) (x : Failing) (old new : State) (stage : S) (outputs : List Sink) (input : ℕ) → length outputs ≡ kind.width start.begun
      → Touches tells (reads_from base) x old new → IsWaiting kind tells start false old stage outputs input → Sticks kind tells start new.outputs
  waiting_sticks lawful base x old new stage outputs input width touches waiting =
      let streams = waiting.streams in
      sticks_told new outputs streams.so_far width
      (told_touched tells base x old new start.base_out start.names outputs streams.so_far touches streams.told)
      (λ told. lawful.waits stage input waiting.waits start.begun streams.seen streams.so_far start.contents (fed_covers old.inputs streams.seen told streams.fed) streams.stands)

-- what waited could not all be written
pub late_sticks : {S : Type 0} (kind : Kind S) (tells : Bool) (start : Start S) (lawful : Lawful kind) (old new : State) (x : Failing) (stage : S) (before after : List Sink) (input : ℕ)
    → length after ≡ kind.width start.begun → KeepsTold tells old.outputs new.outputs before after → Touches tells (writes_from start.base_out) x old new
    → IsWaiting kind tells start false old stage before input → Sticks kind tells start new.outputs
late_sticks kind tells start lawful old new x stage before after input width says touches waiting =
    streams_sticks kind tells start false new stage after width (lawful.waits stage input waiting.waits)
    (streams_written kind tells start false old new x stage before after says touches waiting.streams)

-- a piece was read of an input
pub piece_touches : (tells : Bool) (old new : State) (base input slot : ℕ) (into : List ℕ) (result : Result ℕ DeskFault) → slot ≡ base + input
    → ReadInto tells old.inputs slot into result new.inputs → new.outputs ≡ old.outputs → Touches tells (reads_from base) (failing_read result) old new
piece_touches tells old new base input slot into result is read kept = touches-more tells (read_of slot) (reads_from base) (failing_read result) old new
    (within-read slot (reads_from base) (omega (arith, is))) (touches-read tells old new slot into result read kept)

-- an input that is waited for is there
pub none_waits : {A : Type 0} (input count : ℕ) → input < count → count ≡ 0 → A
none_waits input count inside none = absurd (omega (arith, inside, none))

-- footprints
pub within_writes : (base_in base_out : ℕ) → Within (writes_from base_out) (streams_from base_in base_out)
within_writes base_in base_out = record { reads = λ k none. absurd none; writes = λ k above. above; ins = λ name is. is; outs = λ name is. is }

pub within_reads : (base_in base_out : ℕ) → Within (reads_from base_in) (streams_from base_in base_out)
within_reads base_in base_out = record { reads = λ k above. above; writes = λ k none. absurd none; ins = λ name is. is; outs = λ name is. is }
