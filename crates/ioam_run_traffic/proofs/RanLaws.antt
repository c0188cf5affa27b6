-- From what the machine says of a run to how the traffic ends.
use Rattle.std.proofs.Common.{◌≡◌, ℕ, zero, suc, ◌+◌, ◌<◌, ◌≤◌, ◌⊎◌, Bool, true, false, IsTrue, List, [], ◌∷◌, ◌++◌, length, map, Option, Some, refl, sym, ap, ◌∙◌, subst, inl, inr, arith, length-append}
use Rattle.std.specs.Prelude.{slice_get}
use Rattle.std.proofs.lemmas.Bool.{false≢true}
use Rattle.std.proofs.lemmas.List.{length-map}
use Rattle.ioam_capture.specs.Arrives.{Arrives}
use Rattle.ioam_capture.specs.Merge.{Arrival}
use Rattle.ioam_capture.specs.declared.turns.Turn.TheVariants as turn
use Rattle.ioam_capture_merge.specs.Merge.{parts, wholes}
use Rattle.ioam_capture_merge.specs.Merging.{AreUnread as AllUnread, Begins, EndsKept, PartsArrive, start_of}
use Rattle.ioam_capture_merge.proofs.FilesLaws.{AreHeld, files_arrive, files_begin, parts_arrive}
use Rattle.ioam_desk.specs.Asked.{HaveSlots}
use Rattle.ioam_desk.specs.Desk.{holds}
use Rattle.ioam_desk.specs.Kept.{KeepsOutputs}
use Rattle.ioam_desk.specs.Touches.{State, Input, Output, opening}
use Rattle.ioam_desk.proofs.TouchesLaws.{touches-failing, touches-kept_out}
use Rattle.ioam_desk_outputs.specs.Held.{HoldTexts, HoldFronts}
use Rattle.ioam_desk_outputs.specs.Names.{name_at}
use Rattle.ioam_run_arrivals.proofs.OneFateLaws.{AreFates-unique}
use Rattle.ioam_stream.specs.Frame.{Frame, HoldSome, Leaves, Marked, contents, failing_all}
use Rattle.ioam_stream.specs.Stage.{Ended}
use Rattle.ioam_stream.specs.declared.reading.Stop.{Stop}
use Rattle.ioam_stream.specs.declared.reading.Stop.TheVariants as stop
use Rattle.ioam_run_traffic.specs.Progress.{ArriveBy}
use Rattle.ioam_run_traffic.specs.Stage.{AreFirsts, AreTexts, Marks, Says, count_of, halt_of}
use Rattle.ioam_run_traffic.specs.Traffic.{AllOpened, ArePassed, Arrive, Course, Finishes, HoldsAll, HoldsFronts, IsEnd, begun as course_begun, frames_of}
use Rattle.ioam_run_traffic.specs.declared.halt.Halt.{Halt}
use Rattle.ioam_run_traffic.specs.declared.halt.Halt.TheVariants.{Over, Broken, Limit, ReadFault, WriteFault, NoMemory}
use Rattle.ioam_run_traffic.specs.declared.stage.Traffic.{Traffic}
use Rattle.ioam_run_traffic.specs.declared.terms.Terms.{Terms}

below_or : (a b : ℕ) → (a < b) ⊎ (b ≤ a)
below_or a zero = inr (omega arith)
below_or zero (suc b) = inl (omega arith)
below_or (suc a) (suc b) = elim (below_or a b) [
  | inl less ↦ inl (omega (arith, less))
  | inr more ↦ inr (omega (arith, more))
]

-- what is made of the name at an index
map_get : {A : Type 0} (f : List ℕ → A) (names : List (List ℕ)) (k : ℕ) → k < length names → slice_get (map f names) k ≡ Some (f (name_at names k))
map_get f [] k inside = absurd (omega (arith, inside))
map_get f (name ∷ names) zero inside = refl
map_get f (name ∷ names) (suc k) inside = map_get f names k (omega (arith, inside))

module _ {F G : Type 0} (opens tells : Bool) (ins outs : List (List ℕ)) (old new : State) (begun last : Traffic F G) (answer : Stop) where
  abbrev octets : ℕ → List ℕ
  octets = contents tells ins outs old new

  abbrev held : List (Option (List ℕ))
  held = map (holds old.outputs) ins

  abbrev course : Course
  course = course_begun opens begun.terms.domain.now begun.terms.readings.now begun.terms.ports.now ins outs old.inputs old.outputs

  -- what the machine says of a run
  pub record Run : Type 0 where
    pub sized : length begun.terms.ports.now ≡ length ins
    pub frame : Frame tells ins outs old new (last.end ≡ Over) answer
    pub leaves : IsTrue tells → Leaves tells ins outs old new (AreTexts opens begun last) (AreFirsts opens begun) answer
    pub marks : IsTrue tells → Marked tells ins outs old new (Marks last) answer
    pub said : answer ≡ stop.Ended → (some : ℕ → List ℕ) × (so : List (List ℕ)) × AreTexts opens begun last Ended some so

  module _ (run : Run) where
    count : length begun.terms.ports.now ≡ length held
    count = run.sized ∙ sym (length-map ins (holds old.outputs))

    -- the names hold what the inputs hold
    are_held : IsTrue tells → old.inputs.side.slots + length ins ≤ new.inputs.side.slots → AreHeld held octets
    are_held told opened k inside =
        let below : k < length ins = omega (arith, inside, length-map ins (holds old.outputs)) in
        map_get (holds old.outputs) ins k below ∙ ap (λ (content : Option (List ℕ)). Some content) (run.frame.held told k (omega (arith, below, opened)))

    -- ---- what the outputs hold

    holds_all : (Are : List Arrival → Type 0) (taken : List Arrival) (so : List (List ℕ)) → Are taken → Says opens begun.terms taken so → HoldTexts new.outputs outs so
        → HoldsAll course Are new.outputs
    holds_all Are taken so are says texts = record {
      taken = taken;
      fates = says.fates;
      are = are;
      few = says.few;
      timely = says.timely;
      become = says.become;
      only = λ others become. AreFates-unique begun.terms.domain.now begun.terms.readings.now (frames_of begun.terms.ports.now taken) others says.fates become says.become;
      held = λ opened. subst (λ (xs : List (List ℕ)). HoldTexts new.outputs outs xs) (says.texts_are opened) texts;
    }

    holds_some : IsTrue tells → old.inputs.side.slots + length ins ≤ new.inputs.side.slots → HoldSome tells ins outs old new (AreTexts opens begun last) (AreFirsts opens begun)
        → HoldsFronts course old.outputs new.outputs
    holds_some told opened some =
        let firsts = some.texts in
        let says = firsts.says in
        record {
          taken = firsts.taken;
          fates = says.fates;
          begin = files_begin held octets firsts.taken (are_held told opened) (subst (λ (n : ℕ). Begins (wholes n octets) firsts.taken) count firsts.begins);
          few = says.few;
          timely = says.timely;
          become = says.become;
          only = λ others become. AreFates-unique begun.terms.domain.now begun.terms.readings.now (frames_of begun.terms.ports.now firsts.taken) others says.fates become says.become;
          held = λ opens_so. subst (λ (xs : List (List ℕ)). HoldFronts old.outputs new.outputs 0 outs xs) (says.texts_are opens_so) some.held;
        }

    -- ---- how the traffic ends

    -- all records of these octets were taken, or as many as may be
    arrive_of : (some : ℕ → List ℕ) (so : List (List ℕ)) (h : Halt) → last.end ≡ h → (texts : AreTexts opens begun last Ended some so)
        → ArriveBy (length held) begun.terms.domain.now.packets h some texts.taken
    arrive_of some so h is texts =
        subst (λ (n : ℕ). ArriveBy n begun.terms.domain.now.packets h some texts.taken) count
        (subst (λ (t : Terms F G). ArriveBy (length t.ports.now) t.domain.now.packets h some texts.taken) texts.same
        (subst (λ (e : Halt). ArriveBy (count_of last) last.terms.domain.now.packets e some texts.taken) is texts.are))

    finish_ended : answer ≡ stop.Ended → (IsTrue tells → Leaves tells ins outs old new (AreTexts opens begun last) (AreFirsts opens begun) stop.Ended) → (h : Halt) → last.end ≡ h
        → Finishes course tells old.inputs new.inputs old.outputs new.outputs h
    finish_ended ended leaves Over is = λ told.
        let (opened, all) = leaves told in (
          holds_all (Arrive course turn.Over) all.texts.taken all.so (files_arrive held octets all.texts.taken (are_held told opened) turn.Over (arrive_of octets all.so Over is all.texts)) all.texts.says all.held,
          λ k inside. run.frame.drained ended is told k (omega (arith, inside, length-map ins (holds old.outputs))),
        )
    finish_ended ended leaves (Broken place at fault) is =
        let (some, so, texts) = run.said ended in (
          (arrive_of some so (Broken place at fault) is texts).0,
          λ told.
              let (opened, all) = leaves told in
              holds_all (Arrive course (turn.Broken place at fault)) all.texts.taken all.so
              (files_arrive held octets all.texts.taken (are_held told opened) (turn.Broken place at fault) (arrive_of octets all.so (Broken place at fault) is all.texts).1) all.texts.says all.held,
        )
    finish_ended ended leaves Limit is = λ told.
        let (opened, all) = leaves told in
        let (full, (next, begins)) = arrive_of octets all.so Limit is all.texts in
        holds_all (ArePassed course) all.texts.taken all.so
        (record { all = full; next = next; begin = files_begin held octets (all.texts.taken ++ next ∷ []) (are_held told opened) begins }) all.texts.says all.held
    finish_ended ended leaves ReadFault is = let (some, so, texts) = run.said ended in absurd (arrive_of some so ReadFault is texts)
    finish_ended ended leaves WriteFault is = let (some, so, texts) = run.said ended in absurd (arrive_of some so WriteFault is texts)
    finish_ended ended leaves NoMemory is = let (some, so, texts) = run.said ended in absurd (arrive_of some so NoMemory is texts)

    finish_read : answer ≡ stop.ReadFault → (IsTrue tells → Leaves tells ins outs old new (AreTexts opens begun last) (AreFirsts opens begun) stop.ReadFault)
        → old.inputs.side.slots + length ins ≤ new.inputs.side.slots → IsTrue tells
        → HoldsAll course (PartsArrive held new.inputs old.inputs.side.slots) new.outputs
    finish_read read leaves opened told = elim (leaves told) [
      | inl early ↦ absurd (omega (arith, early.0, opened))
      | inr late ↦
          let handed = late.1.handed in
          let all = late.1.hold in
          let (ended, marks, arrives) = all.texts.are in
          let (found, marks_found, slots, left) = run.marks told read opened in
          let n_last : count_of last ≡ length held = ap (λ (t : Terms F G). length t.ports.now) all.texts.same ∙ count in
          let below : (k : ℕ) → k < length held → k < length ins = λ k inside. omega (arith, inside, length-map ins (holds old.outputs)) in
          holds_all (PartsArrive held new.inputs old.inputs.side.slots) all.texts.taken all.so
          (parts_arrive held new.inputs old.inputs.side.slots handed ended all.texts.taken
          (λ k inside. are_held told opened k inside ∙ ap (λ (xs : List ℕ). Some (Some xs)) (late.1.splits k (below k inside)))
          (λ k inside. slots k (below k inside) ∙ marks_found k (omega (arith, inside, n_last)) ∙ sym (marks k (omega (arith, inside, n_last))))
          (subst (λ (n : ℕ). Arrives (parts n handed ended) all.texts.taken turn.Unshown) n_last arrives)) all.texts.says all.held
    ]

    opened_or : (new.inputs.side.slots < old.inputs.side.slots + length ins) ⊎ (old.inputs.side.slots + length ins ≤ new.inputs.side.slots)
    opened_or = below_or new.inputs.side.slots (old.inputs.side.slots + length ins)

    finish_memory : (b : Bool) → tells ≡ b → (IsTrue tells → Leaves tells ins outs old new (AreTexts opens begun last) (AreFirsts opens begun) stop.NoMemory)
        → (new.outputs ≡ old.outputs) ⊎ (IsTrue tells → HoldsFronts course old.outputs new.outputs)
    finish_memory false is leaves = inr (λ told. absurd (false≢true (sym is ∙ told)))
    finish_memory true is leaves = elim (leaves is) [
      | inl same ↦ inl same
      | inr some ↦ inr (λ told. holds_some told some.0 some.1)
    ]

  finish_by : (a : Stop) → answer ≡ a → Run → Finishes course tells old.inputs new.inputs old.outputs new.outputs (halt_of a last.end)
  finish_by stop.Ended is run =
      let P : Stop → Type 0 = λ s. IsTrue tells → Leaves tells ins outs old new (AreTexts opens begun last) (AreFirsts opens begun) s in
      finish_ended run is (subst P is run.leaves) last.end refl
  finish_by stop.ReadFault is run =
      let P : Stop → Type 0 = λ s. IsTrue tells → Leaves tells ins outs old new (AreTexts opens begun last) (AreFirsts opens begun) s in
      let Q : Stop → Type 0 = λ s. Frame tells ins outs old new (last.end ≡ Over) s in
      let frame = subst Q is run.frame in (
        frame.touches.inputs.how.rose,
        elim (opened_or run) [
          | inl less ↦ inl (omega (arith, less, length-map ins (holds old.outputs)), frame.no_output less)
          | inr more ↦ inr (omega (arith, more, frame.most, length-map ins (holds old.outputs)), finish_read run is (subst P is run.leaves) more)
        ],
      )
  finish_by stop.WriteFault is run =
      let P : Stop → Type 0 = λ s. IsTrue tells → Leaves tells ins outs old new (AreTexts opens begun last) (AreFirsts opens begun) s in
      let Q : Stop → Type 0 = λ s. Frame tells ins outs old new (last.end ≡ Over) s in
      ((subst Q is run.frame).touches.outputs.how.rose, λ told. let (opened, some) = subst P is run.leaves told in holds_some run told opened some)
  finish_by stop.NoMemory is run =
      let P : Stop → Type 0 = λ s. IsTrue tells → Leaves tells ins outs old new (AreTexts opens begun last) (AreFirsts opens begun) s in
      finish_memory run tells refl (subst P is run.leaves)

  -- the same, by other names
  pub finishes_at : Run → (t : Terms F G) (h : Halt) → begun.terms ≡ t → h ≡ halt_of answer last.end
      → Finishes (course_begun opens t.domain.now t.readings.now t.ports.now ins outs old.inputs old.outputs) tells old.inputs new.inputs old.outputs new.outputs h
  finishes_at run t h terms halt =
      let P : Terms F G → Halt → Type 0 = λ u k. Finishes (course_begun opens u.domain.now u.readings.now u.ports.now ins outs old.inputs old.outputs) tells old.inputs new.inputs old.outputs new.outputs k in
      subst (λ (k : Halt). P t k) (sym halt) (subst (λ (u : Terms F G). P u (halt_of answer last.end)) terms (finish_by answer refl run))

-- ---- what was opened, read and kept

-- an end is answered only where the machine ended
pub end_quiet : (answer : Stop) (end : Halt) → IsEnd (halt_of answer end) → answer ≡ stop.Ended
end_quiet stop.Ended end is = refl
end_quiet stop.ReadFault end is = absurd is
end_quiet stop.WriteFault end is = absurd is
end_quiet stop.NoMemory end is = absurd is

module _ (tells : Bool) (ins outs : List (List ℕ)) (old new : State) (drains : Type 0) where
  pub faults_in : (answer : Stop) → Frame tells ins outs old new drains answer → answer ≡ stop.Ended → new.inputs.side.faults ≡ old.inputs.side.faults
  faults_in answer frame is = (touches-failing tells (opening ins outs) (failing_all answer) old new frame.touches).reads (ap failing_all is)

  not_output : (answer : Stop) → (answer ≡ stop.WriteFault → ⊥) → failing_all answer ≡ Output → ⊥
  not_output stop.Ended other is = cc
  not_output stop.ReadFault other is = cc
  not_output stop.WriteFault other is = other refl
  not_output stop.NoMemory other is = cc

  not_input : (answer : Stop) → (answer ≡ stop.ReadFault → ⊥) → failing_all answer ≡ Input → ⊥
  not_input stop.Ended other is = cc
  not_input stop.ReadFault other is = other refl
  not_input stop.WriteFault other is = cc
  not_input stop.NoMemory other is = cc

  pub faults_out : (answer : Stop) (end : Halt) → Frame tells ins outs old new drains answer → (halt_of answer end ≡ WriteFault → ⊥) → new.outputs.side.faults ≡ old.outputs.side.faults
  faults_out answer end frame other = (touches-failing tells (opening ins outs) (failing_all answer) old new frame.touches).writes
      (not_output answer (λ is. other (ap (λ (a : Stop). halt_of a end) is)))

  pub opens_all : (answer : Stop) (end : Halt) → Frame tells ins outs old new drains answer → (halt_of answer end ≡ ReadFault → ⊥) → HaveSlots old.inputs.side new.inputs.side
  opens_all answer end frame other = (touches-failing tells (opening ins outs) (failing_all answer) old new frame.touches).opens
      (not_input answer (λ is. other (ap (λ (a : Stop). halt_of a end) is)))

  all_opened : (answer : Stop) → Frame tells ins outs old new drains answer → old.inputs.side.slots + length ins ≤ new.inputs.side.slots → AllOpened old.inputs.side new.inputs.side ins
  all_opened answer frame opened = (frame.given opened, omega (arith, opened, frame.most))

  pub all_in : (answer : Stop) → Frame tells ins outs old new drains answer → answer ≡ stop.Ended → AllOpened old.inputs.side new.inputs.side ins
  all_in answer frame is =
      let asked = (frame.all is).0 in
      let slots = (touches-failing tells (opening ins outs) (failing_all answer) old new frame.touches).opens (not_input answer (λ read. not_read (sym is ∙ read))) in
      (asked, omega (arith, slots, ap (λ (xs : List (List ℕ)). length xs) asked, length-append old.inputs.side.asked ins))
    where
      not_read : stop.Ended ≡ stop.ReadFault → ⊥
      not_read same = cc

  pub inputs_first : (answer : Stop) → Frame tells ins outs old new drains answer → (new.outputs ≡ old.outputs) ⊎ AllOpened old.inputs.side new.inputs.side ins
  inputs_first answer frame = elim (below_or new.inputs.side.slots (old.inputs.side.slots + length ins)) [
    | inl less ↦ inl (frame.no_output less)
    | inr more ↦ inr (all_opened answer frame more)
  ]

  pub unread_all : (answer : Stop) → Frame tells ins outs old new drains answer → IsTrue tells → new.outputs.side.slots < old.outputs.side.slots + length outs
      → AllUnread (start_of old.inputs.side.slots old.outputs ins) new.inputs
  unread_all answer frame told less k below =
      map_get (holds old.outputs) ins k (omega (arith, below, frame.most)) ∙ ap (λ (content : Option (List ℕ)). Some content) (frame.unread less told k below)

  pub ends_kept : (answer : Stop) → Frame tells ins outs old new drains answer → EndsKept old.inputs.side.slots old.inputs new.inputs
  ends_kept answer frame k below =
      let left = frame.touches.inputs.left k below (λ none. none) in
      let ended = frame.touches.inputs.ended k below (λ none. none) in
      cc

  pub kept_out : (answer : Stop) → Frame tells ins outs old new drains answer → IsTrue tells → KeepsOutputs old.outputs new.outputs
  kept_out answer frame told = touches-kept_out tells ins outs (failing_all answer) old new told frame.touches
