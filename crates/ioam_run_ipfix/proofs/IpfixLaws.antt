-- What a run of `ipfix` answers, and what OUT holds then.
use Rattle.std.proofs.Common.{◌≡◌, ◌≢◌, ◌∷◌, [], ◌++◌, ◌∙◌, ap, append-nil, List, ℕ, Bool, IsTrue, IsSomeAnd, refl, sym, subst}
use Rattle.ioam_desk.specs.Desk.{holds}
use Rattle.ioam_desk.specs.Touches.{State}
use Rattle.ioam_dex.specs.Record.{Record}
use Rattle.ioam_dex.specs.Reads.{Faulty, Whole}
use Rattle.ioam_run_answer.specs.Bounds.{Bounds, answered}
use Rattle.ioam_run_answer.specs.Desks.{around}
use Rattle.ioam_run_answer.specs.Outcomes.{IsDone, OpensNothing}
use Rattle.ioam_run_answer.specs.declared.outcome.Outcome.{Outcome}
use Rattle.ioam_run_ipfix.specs.Exports.{AreFirst, ArePassed, AreWhole, EndsSo, IsExports, IsLong}
use Rattle.ioam_run_ipfix.specs.Packer.{ArePacked, IsEnd, answer_of}
use Rattle.ioam_run_ipfix.specs.Promise.{IpfixCause, IpfixLeaves}
use Rattle.ioam_run_ipfix.specs.Texts.{AreMessages, HoldsFront, HoldsText, Says}
use Rattle.ioam_run_ipfix.specs.declared.packer.Cause.{Cause}
use Rattle.ioam_run_ipfix.specs.declared.packer.Cause.TheVariants as cause
use Rattle.ioam_run_answer.proofs.RanLaws.{Framed, LeftBy, bounds_ran, held_map, kept_by}
use Rattle.ioam_run_ipfix.proofs.HeldLaws.{front_held, text_held}
use Rattle.ioam_stream.specs.Stage.{How, Ended}
use Rattle.ioam_stream.specs.Frame.{Frame, Leaves}
use Rattle.ioam_stream.specs.declared.reading.Stop.{Stop}
use Rattle.ioam_stream.specs.declared.reading.Stop.TheVariants as stop

-- of the octets that were handed out, and those that are left
whole_on : (left : List ℕ) (records : List Record) (handed : List ℕ) → AreWhole [] records handed → AreWhole left records (handed ++ left)
whole_on left records handed whole = record {
  handed = whole.handed;
  parts = ap (λ (o : List ℕ). o ++ left) (whole.parts ∙ append-nil whole.handed);
  rest = whole.rest;
  splits = whole.splits;
  cut = whole.cut;
}

module _ (tells : Bool) (input out : List ℕ) (old new : State) (why : Cause) where
  abbrev Said : How → List ℕ → List (List ℕ) → Type 0
  Said how = Says AreMessages (λ records octets. ArePacked how why records octets × AreFirst records octets)

  abbrev pub Ipfix : Stop → Type 0
  Ipfix = LeftBy tells input (out ∷ []) old new (IsEnd why) (HoldsText AreMessages (ArePacked Ended why) new.outputs out) (λ left. HoldsText AreMessages (AreWhole left) new.outputs out)
      (HoldsFront AreMessages AreFirst old.outputs new.outputs out)

  ipfix_leaves : (answer : Stop) → Ipfix answer
      → IpfixLeaves (holds old.outputs input) out old.inputs new.inputs old.outputs new.outputs (answered answer (answer_of why))
  ipfix_leaves stop.Ended kept = by_cause why kept
    where
      by_cause : (k : Cause) → IsSomeAnd (holds old.outputs input) (HoldsText AreMessages (ArePacked Ended k) new.outputs out)
          → IpfixLeaves (holds old.outputs input) out old.inputs new.inputs old.outputs new.outputs (answer_of k)
      by_cause cause.End held = held
      by_cause (cause.Bad at fault) held = held
      by_cause cause.Limit held = held
  ipfix_leaves stop.ReadFault kept = kept
  ipfix_leaves stop.WriteFault kept = kept
  ipfix_leaves stop.NoMemory kept = kept

  ipfix_cause : (answer : Stop) → input ≢ out → Framed tells input (out ∷ []) old new (IsEnd why) answer → (IsTrue tells → Ipfix answer)
      → IpfixCause tells (holds old.outputs input) input out old.inputs new.inputs old.outputs new.outputs (answered answer (answer_of why))
  ipfix_cause stop.Ended apart frame kept = by_cause why kept
    where
      by_cause : (k : Cause) → (IsTrue tells → IsSomeAnd (holds old.outputs input) (HoldsText AreMessages (ArePacked Ended k) new.outputs out))
          → IpfixCause tells (holds old.outputs input) input out old.inputs new.inputs old.outputs new.outputs (answer_of k)
      by_cause cause.End held = (
        apart,
        λ told. held_map (holds old.outputs input) (HoldsText AreMessages (EndsSo Whole) new.outputs out) (IsExports Whole)
            (λ octets all. record { records = all.records; reads = all.are; few = all.few }) (held told),
      )
      by_cause (cause.Bad at fault) held = (
        apart,
        λ told. held_map (holds old.outputs input) (HoldsText AreMessages (EndsSo (Faulty at fault)) new.outputs out) (IsExports (Faulty at fault))
            (λ octets all. record { records = all.records; reads = all.are; few = all.few }) (held told),
      )
      by_cause cause.Limit held = (
        apart,
        refl,
        λ told. held_map (holds old.outputs input) (HoldsText AreMessages ArePassed new.outputs out) IsLong
            (λ octets all. record { records = all.records; passed = all.are }) (held told),
      )
  ipfix_cause stop.ReadFault apart frame kept = frame.touches.inputs.how.rose
  ipfix_cause stop.WriteFault apart frame kept = frame.touches.outputs.how.rose
  ipfix_cause stop.NoMemory apart frame kept = tt

-- what the run says of its answer
abbrev pub IpfixRan : Bool → List ℕ → List ℕ → State → State → Outcome → Type 0
IpfixRan tells input out old new answer = IpfixCause tells (holds old.outputs input) input out old.inputs new.inputs old.outputs new.outputs answer
    × (IsTrue tells → IpfixLeaves (holds old.outputs input) out old.inputs new.inputs old.outputs new.outputs answer)
    × Bounds (around tells old.inputs new.inputs old.outputs new.outputs) input (out ∷ []) (input ≢ out) answer

ends_done : (why : Cause) → IsDone (answer_of why) → IsEnd why
ends_done cause.End done = tt
ends_done (cause.Bad at fault) done = done
ends_done cause.Limit done = done

ends_open : (why : Cause) → OpensNothing (answer_of why) → ⊥
ends_open cause.End none = none
ends_open (cause.Bad at fault) none = none
ends_open cause.Limit none = none

pub ipfix_ran : (tells : Bool) (ins outs : List (List ℕ)) (input out : List ℕ) (old new : State) (why : Cause) (stopped : Stop) (answer : Outcome)
    → answer ≡ answered stopped (answer_of why) → ins ≡ input ∷ [] → outs ≡ out ∷ [] → input ≢ out → Frame tells ins outs old new (IsEnd why) stopped
    → (IsTrue tells → Leaves tells ins outs old new (λ how of. Says AreMessages (λ records octets. ArePacked how why records octets × AreFirst records octets) (of 0))
    (λ of. Says AreMessages AreFirst (of 0)) stopped) → IpfixRan tells input out old new answer
ipfix_ran tells ins outs input out old new why stopped answer is one_in one_out apart frame leaves =
    let kept = kept_by tells input (out ∷ []) old new (IsEnd why) (HoldsText AreMessages (ArePacked Ended why) new.outputs out) (λ left. HoldsText AreMessages (AreWhole left) new.outputs out)
    (HoldsFront AreMessages AreFirst old.outputs new.outputs out) (Said tells input out old new why) (Says AreMessages AreFirst)
    (λ so of. text_held AreMessages AreFirst old new out (ArePacked Ended why) (ArePacked Ended why) so of of (λ records are. are))
    (λ so handed left. text_held AreMessages AreFirst old new out (AreWhole left) (AreWhole []) so handed (handed ++ left) (λ records. whole_on left records handed))
    (front_held AreMessages AreFirst old new out) ins outs one_in one_out stopped frame leaves in
    subst (λ (a : Outcome). IpfixRan tells input out old new a) (sym is) (
      ipfix_cause tells input out old new why stopped apart kept.0 kept.1,
      λ told. ipfix_leaves tells input out old new why stopped (kept.1 told),
      bounds_ran tells input (out ∷ []) old new (IsEnd why) (input ≢ out) stopped (answer_of why) kept.0 (ends_done why) (ends_open why) apart,
    )
