-- What a run over one capture leaves, by its answer.
use Rattle.std.proofs.Common.{◌≡◌, ℕ, ◌+◌, ◌<◌, ◌≤◌, Bool, IsTrue, List, [], ◌∷◌, ◌++◌, length, Some, refl, sym, subst, ⊎_elim, inl, inr, append-nil, length-append, arith}
use Rattle.ioam_desk.specs.Desk.{Writing, holds}
use Rattle.ioam_desk.specs.Touches.{State, Input, opening}
use Rattle.ioam_desk.proofs.TouchesLaws.{touches-slots_in}
use Rattle.ioam_desk_outputs.specs.Held.{HoldTexts, HoldAllFronts}
use Rattle.ioam_desk_outputs.proofs.HeldLaws.{front_held, HoldAllFronts-holds}
use Rattle.ioam_pcap.specs.Ending.{Whole, Faulty}
use Rattle.ioam_pcap.specs.Entries.{Taken}
use Rattle.ioam_run_answer.specs.Desks.{around}
use Rattle.ioam_run_answer.specs.Failures.{AnswersFailures}
use Rattle.ioam_run_answer.specs.Outcomes.{IsDone, IsBehindAll}
use Rattle.ioam_run_answer.specs.declared.outcome.Outcome.{Outcome}
use Rattle.ioam_run_answer.proofs.FailuresLaws.{failures-none, failures-read, failures-write, failures-memory}
use Rattle.ioam_run_stream.specs.Answers.{Answers, answer_of, FileCause}
use Rattle.ioam_run_stream.specs.Captured.{AreOf, AreTexts, AreFirsts}
use Rattle.ioam_run_stream.specs.Promise.{ArePassed, AreWhole, EndsSo, HoldsAll, HoldsFronts, IsInput, IsLong, Leaves}
use Rattle.ioam_run_stream.specs.declared.captured.Captured.{Captured}
use Rattle.ioam_run_stream.specs.declared.captured.End.{End}
use Rattle.ioam_run_stream.specs.declared.captured.End.TheVariants as end
use Rattle.ioam_run_stream.proofs.HaltsLaws.{held_so}
use Rattle.ioam_run_stream.specs.CapturedLaws.{are_first}
use Rattle.ioam_stream.specs.Frame as frame
use Rattle.ioam_stream.specs.Frame.{AllOpen, Frame, HoldAll, HoldSome, contents}
use Rattle.ioam_stream.specs.Stage.{How, Ended, Handed}
use Rattle.ioam_stream.specs.declared.reading.Stop.{Stop}
use Rattle.ioam_stream.specs.declared.reading.Stop.TheVariants as stop

-- files that hold their texts hold prefixes of them
whole_fronts : (desk : Writing) (names texts : List (List ℕ)) → HoldTexts desk names texts → HoldAllFronts desk names texts
whole_fronts desk [] [] held = tt
whole_fronts desk (name ∷ names) (text ∷ texts) held = (
  front_held (holds desk name) text text held.0 (record { rest = []; is = sym (append-nil text) }),
  whole_fronts desk names texts held.1,
)
whole_fronts desk [] (text ∷ texts) held = absurd held
whole_fronts desk (name ∷ names) [] held = absurd held

plus_none : (n : ℕ) → n + 0 ≡ n
plus_none n = omega arith

-- the first record past the limit makes the capture too long
long_of : (most : ℕ) (taken : List Taken) (octets : List ℕ) → ArePassed most taken octets → IsLong most octets
long_of most taken octets passed = record {
  taken = taken ++ passed.first.rest;
  ending = passed.first.ending;
  reads = passed.first.reads;
  many = omega (arith, length-append taken passed.first.rest, passed.all, passed.more);
}

module _ {G : Type 0} (gathers : G → List Taken → List (List ℕ) → G → Type 0) (count : G → ℕ) (width : ℕ) (fresh : G → Type 0)
    (Texts : G → List Taken → List (List ℕ) → Type 0) (input : List ℕ) (names : List (List ℕ)) (limit : ℕ) (begun last : Captured G)
    (limit_is : begun.limit ≡ limit) (tells : Bool) (old new : State) where
  abbrev ins : List (List ℕ)
  ins = input ∷ []

  -- what IN holds
  abbrev octets : List ℕ
  octets = contents tells ins names old new 0

  abbrev Said : How → (ℕ → List ℕ) → List (List ℕ) → Type 0
  Said how these so = AreTexts gathers count width fresh Texts begun last how (these 0) so

  abbrev Firsts : (ℕ → List ℕ) → List (List ℕ) → Type 0
  Firsts these so = AreFirsts gathers count width fresh Texts begun (these 0) so

  -- the texts of all records that were taken
  all_held : (how : How) (these : ℕ → List ℕ) (whole : List ℕ) (Are : List Taken → List ℕ → Type 0)
      → ((taken : List Taken) → AreOf begun.limit how last.end taken (these 0) → Are taken whole)
      → HoldAll tells ins names old new Said Firsts how these → HoldsAll limit (Texts begun.gathered) names Are new.outputs whole
  all_held how these whole Are are hold = record {
    taken = hold.texts.taken;
    texts = hold.so;
    are = are hold.texts.taken hold.texts.are;
    few = subst (λ (most : ℕ). length hold.texts.taken ≤ most) limit_is hold.texts.few;
    texts_are = hold.texts.texts_are;
    held = hold.held;
  }

  -- prefixes of the texts of some first records
  some_held : HoldSome tells ins names old new Said Firsts → HoldsFronts limit (Texts begun.gathered) names old.outputs new.outputs octets
  some_held some = record {
    taken = some.texts.taken;
    texts = some.so;
    are = some.texts.are;
    few = subst (λ (most : ℕ). length some.texts.taken ≤ most) limit_is some.texts.few;
    texts_are = some.texts.texts_are;
    held = some.held;
  }

  -- whole texts are prefixes of themselves
  all_some : HoldAll tells ins names old new Said Firsts Ended (contents tells ins names old new)
      → HoldsFronts limit (Texts begun.gathered) names old.outputs new.outputs octets
  all_some hold = record {
    taken = hold.texts.taken;
    texts = hold.so;
    are = are_first begun.limit Ended last.end hold.texts.taken octets hold.texts.are;
    few = subst (λ (most : ℕ). length hold.texts.taken ≤ most) limit_is hold.texts.few;
    texts_are = hold.texts.texts_are;
    held = HoldAllFronts-holds old.outputs new.outputs 0 names hold.so (whole_fronts new.outputs names hold.so hold.held);
  }

  module _ (why : End) (is : last.end ≡ why) where
    of_why : (taken : List Taken) → AreOf begun.limit Ended last.end taken octets → AreOf limit Ended why taken octets
    of_why taken are = subst (λ (most : ℕ). AreOf most Ended why taken octets) limit_is (subst (λ (e : End). AreOf begun.limit Ended e taken octets) is are)

  abbrev LeavesSo : Outcome → Type 0
  LeavesSo answer = Leaves limit (Texts begun.gathered) names input old.inputs new.inputs old.outputs new.outputs answer

  -- after the last record that was taken
  left_by : (why : End) → last.end ≡ why → holds old.outputs input ≡ Some octets
      → HoldAll tells ins names old new Said Firsts Ended (contents tells ins names old new) → LeavesSo (answer_of input limit why)
  left_by end.Open is held hold = absurd (of_why end.Open is hold.texts.taken hold.texts.are)
  left_by end.Whole is held hold = held_so (holds old.outputs input) octets (HoldsAll limit (Texts begun.gathered) names (EndsSo Whole) new.outputs) held
      (all_held Ended (contents tells ins names old new) octets (EndsSo Whole) (of_why end.Whole is) hold)
  left_by (end.Bad at fault) is held hold = held_so (holds old.outputs input) octets (HoldsAll limit (Texts begun.gathered) names (EndsSo (Faulty at fault)) new.outputs) held
      (all_held Ended (contents tells ins names old new) octets (EndsSo (Faulty at fault)) (of_why (end.Bad at fault) is) hold)
  left_by end.Limit is held hold = held_so (holds old.outputs input) octets (HoldsAll limit (Texts begun.gathered) names (ArePassed limit) new.outputs) held
      (all_held Ended (contents tells ins names old new) octets (ArePassed limit) (of_why end.Limit is) hold)

  abbrev Causes : Outcome → Type 0
  Causes answer = FileCause limit tells input old.inputs old.outputs new.inputs new.outputs answer

  caused_by : (why : End) → last.end ≡ why
      → (IsTrue tells → (holds old.outputs input ≡ Some octets) × HoldAll tells ins names old new Said Firsts Ended (contents tells ins names old new))
      → Causes (answer_of input limit why)
  caused_by end.Open is leaves = λ told. let (held, hold) = leaves told in absurd (of_why end.Open is hold.texts.taken hold.texts.are)
  caused_by end.Whole is leaves = λ told. let (held, hold) = leaves told in
      held_so (holds old.outputs input) octets (IsInput limit Whole) held (record {
        taken = hold.texts.taken;
        reads = of_why end.Whole is hold.texts.taken hold.texts.are;
        few = subst (λ (most : ℕ). length hold.texts.taken ≤ most) limit_is hold.texts.few;
      })
  caused_by (end.Bad at fault) is leaves = (
    refl,
    λ told. let (held, hold) = leaves told in
        held_so (holds old.outputs input) octets (IsInput limit (Faulty at fault)) held (record {
          taken = hold.texts.taken;
          reads = of_why (end.Bad at fault) is hold.texts.taken hold.texts.are;
          few = subst (λ (most : ℕ). length hold.texts.taken ≤ most) limit_is hold.texts.few;
        }),
  )
  caused_by end.Limit is leaves = (
    refl,
    λ told. let (held, hold) = leaves told in
        held_so (holds old.outputs input) octets (IsLong limit) held (long_of limit hold.texts.taken octets (of_why end.Limit is hold.texts.taken hold.texts.are)),
  )

  done_whole : (why : End) → last.end ≡ why → IsDone (answer_of input limit why)
      → HoldAll tells ins names old new Said Firsts Ended (contents tells ins names old new) → last.end ≡ end.Whole
  done_whole end.Open is done hold = absurd (of_why end.Open is hold.texts.taken hold.texts.are)
  done_whole end.Whole is done hold = is
  done_whole (end.Bad at fault) is done hold = absurd done
  done_whole end.Limit is done hold = absurd done

  module _ (answer : Outcome) where
    abbrev Framed : Stop → Type 0
    Framed stop = Frame tells ins names old new (last.end ≡ end.Whole) stop

    abbrev Left : Stop → Type 0
    Left stop = IsTrue tells → frame.Leaves tells ins names old new Said Firsts stop

    -- of the one input
    pub framed_one : (stop : Stop) (these : List (List ℕ)) → these ≡ ins → Frame tells these names old new (last.end ≡ end.Whole) stop → Framed stop
    framed_one stop these is framed = subst (λ (xs : List (List ℕ)). Frame tells xs names old new (last.end ≡ end.Whole) stop) is framed

    pub left_one : (stop : Stop) (these : List (List ℕ)) → these ≡ ins → (IsTrue tells → frame.Leaves tells these names old new Said Firsts stop) → Left stop
    left_one stop these is left = λ told. subst (λ (xs : List (List ℕ)). frame.Leaves tells xs names old new Said Firsts stop) is (left told)

    -- IN held something, if it was opened
    held_in : (stop : Stop) → Framed stop → AllOpen tells ins names old new → IsTrue tells → holds old.outputs input ≡ Some octets
    held_in stop framed opened told = framed.held told 0 (omega (arith, opened))

    pub run_leaves : (stop : Stop) → Answers input limit stop last.end answer → Framed stop → Left stop → IsTrue tells → LeavesSo answer
    run_leaves stop.Ended answers framed left told = let (opened, hold) = left told in
        ⊎_elim (λ is. subst LeavesSo (sym is) (left_by last.end refl (held_in stop.Ended framed opened told) hold))
        (λ is. subst LeavesSo (sym is) (inr (held_so (holds old.outputs input) octets (HoldsFronts limit (Texts begun.gathered) names old.outputs new.outputs)
        (held_in stop.Ended framed opened told) (all_some hold)))) answers
    run_leaves stop.ReadFault answers framed left told = subst LeavesSo (sym answers) (⊎_elim
        (λ closed. inl (omega (arith, closed.0, touches-slots_in tells (opening ins names) Input old new framed.touches), closed.1))
        (λ handed. inr (
          omega (arith, handed.0),
          held_so (holds old.outputs input) octets (HoldsAll limit (Texts begun.gathered) names (AreWhole (new.inputs.left old.inputs.side.slots)) new.outputs)
              (held_in stop.ReadFault framed handed.0 told)
              (all_held Handed handed.1.handed octets (AreWhole (new.inputs.left old.inputs.side.slots))
              (λ taken shows. record {
                handed = handed.1.handed 0;
                parts = subst (λ (slot : ℕ). octets ≡ handed.1.handed 0 ++ new.inputs.left slot) (plus_none old.inputs.side.slots) (handed.1.splits 0 (omega arith));
                shows = shows;
              }) handed.1.hold),
        ))
        (left told))
    run_leaves stop.WriteFault answers framed left told = let (opened, some) = left told in
        subst LeavesSo (sym answers) (held_so (holds old.outputs input) octets (HoldsFronts limit (Texts begun.gathered) names old.outputs new.outputs)
        (held_in stop.WriteFault framed opened told) (some_held some))
    run_leaves stop.NoMemory answers framed left told = subst LeavesSo (sym answers) (⊎_elim
        (λ same. inl same)
        (λ some. inr (held_so (holds old.outputs input) octets (HoldsFronts limit (Texts begun.gathered) names old.outputs new.outputs)
        (held_in stop.NoMemory framed some.0 told) (some_held some.1)))
        (left told))

    pub run_cause : (stop : Stop) → Answers input limit stop last.end answer → Framed stop → Left stop → Causes answer
    run_cause stop.Ended answers framed left = ⊎_elim
        (λ is. subst Causes (sym is) (caused_by last.end refl (λ told. let (opened, hold) = left told in (held_in stop.Ended framed opened told, hold))))
        (λ is. subst Causes (sym is) tt) answers
    run_cause stop.ReadFault answers framed left = subst Causes (sym answers) framed.touches.inputs.how.rose
    run_cause stop.WriteFault answers framed left = subst Causes (sym answers) framed.touches.outputs.how.rose
    run_cause stop.NoMemory answers framed left = subst Causes (sym answers) tt

    abbrev FailsSo : Outcome → Type 0
    FailsSo so = AnswersFailures (around tells old.inputs new.inputs old.outputs new.outputs) so

    pub run_failures : (stop : Stop) → Answers input limit stop last.end answer → Framed stop → FailsSo answer
    run_failures stop.Ended answers framed = failures-none tells old.inputs new.inputs old.outputs new.outputs framed.touches.inputs.how.slots answer
        framed.touches.inputs.how.faults framed.touches.outputs.how.faults
    run_failures stop.ReadFault answers framed = subst FailsSo (sym answers) (failures-read tells old.inputs new.inputs old.outputs new.outputs framed.touches.outputs.how.faults)
    run_failures stop.WriteFault answers framed = subst FailsSo (sym answers) (failures-write tells old.inputs new.inputs old.outputs new.outputs framed.touches.inputs.how.slots)
    run_failures stop.NoMemory answers framed = subst FailsSo (sym answers) (failures-memory tells old.inputs new.inputs old.outputs new.outputs framed.touches.inputs.how.slots framed.touches.outputs.how.faults)

    pub run_all : (stop : Stop) → Answers input limit stop last.end answer → Framed stop → IsBehindAll ⊥ answer
        → (new.inputs.side.asked ≡ old.inputs.side.asked ++ ins) × (new.outputs.side.asked ≡ old.outputs.side.asked ++ names)
    run_all stop.Ended answers framed behind = framed.all refl
    run_all stop.ReadFault answers framed behind = absurd (subst (IsBehindAll ⊥) answers behind)
    run_all stop.WriteFault answers framed behind = absurd (subst (IsBehindAll ⊥) answers behind)
    run_all stop.NoMemory answers framed behind = absurd (subst (IsBehindAll ⊥) answers behind)

    pub run_unread : (stop : Stop) → Framed stop → IsTrue tells → new.outputs.side.slots < old.outputs.side.slots + length names → old.inputs.side.slots < new.inputs.side.slots
        → holds old.outputs input ≡ Some (new.inputs.left old.inputs.side.slots)
    run_unread stop framed told less opened = subst (λ (slot : ℕ). holds old.outputs input ≡ Some (new.inputs.left slot)) (plus_none old.inputs.side.slots)
        (framed.unread less told 0 (omega (arith, opened)))

    pub run_drained : (stop : Stop) → Answers input limit stop last.end answer → Framed stop → Left stop → IsDone answer → IsTrue tells
        → IsTrue (new.inputs.ended old.inputs.side.slots)
    run_drained stop.Ended answers framed left done told = let (opened, hold) = left told in
        subst (λ (slot : ℕ). IsTrue (new.inputs.ended slot)) (plus_none old.inputs.side.slots) (⊎_elim
        (λ is. framed.drained refl (done_whole last.end refl (subst IsDone is done) hold) told 0 (omega arith))
        (λ is. absurd (subst IsDone is done)) answers)
    run_drained stop.ReadFault answers framed left done told = absurd (subst IsDone answers done)
    run_drained stop.WriteFault answers framed left done told = absurd (subst IsDone answers done)
    run_drained stop.NoMemory answers framed left done told = absurd (subst IsDone answers done)
