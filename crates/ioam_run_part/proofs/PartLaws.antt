-- What a run of `part` answers, and what PART holds then.
use Rattle.std.proofs.Common.{◌≡◌, ◌≢◌, ◌∷◌, [], ◌++◌, List, ℕ, Bool, IsTrue, IsSomeAnd, sym, subst, arith}
use Rattle.ioam_base.specs.Octets.{IsFront}
use Rattle.ioam_desk.specs.Desk.{holds}
use Rattle.ioam_desk.specs.Touches.{State}
use Rattle.ioam_desk_outputs.specs.Held.{HoldTexts, HoldFronts}
use Rattle.ioam_dex.specs.Record.{Record}
use Rattle.ioam_dex.specs.Reads.{Faulty, Whole}
use Rattle.ioam_collect_stream.specs.Gathering.{AreWhole, Passes, most_of}
use Rattle.ioam_collect_stream.specs.Regrouping.{AreFirst, AreOf, IsEnd, Says, answer_of}
use Rattle.ioam_collect_stream.specs.declared.regrouping.Cause.{Cause}
use Rattle.ioam_collect_stream.specs.declared.regrouping.Cause.TheVariants as cause
use Rattle.ioam_collect_stream.proofs.CauseLaws.{ends_done, ends_open, is_limit, whole_on}
use Rattle.ioam_run_answer.specs.Bounds.{Bounds, answered}
use Rattle.ioam_run_answer.specs.Desks.{around}
use Rattle.ioam_run_answer.specs.declared.outcome.Outcome.{Outcome}
use Rattle.ioam_run_answer.proofs.RanLaws.{Framed, LeftBy, bounds_ran, held_map, held_some, kept_by}
use Rattle.ioam_run_part.specs.PartPromise.{HoldsFront, HoldsPart, PartCause, PartLeaves}
use Rattle.ioam_run_part.specs.Records.{EndsSo, IsExports, IsFrontOfPart, IsLong, IsPartOfAll}
use Rattle.ioam_stream.specs.Stage.{How, Ended}
use Rattle.ioam_stream.specs.Frame as frame
use Rattle.ioam_stream.specs.Frame.{Frame}
use Rattle.ioam_stream.specs.declared.reading.Stop.{Stop}
use Rattle.ioam_stream.specs.declared.reading.Stop.TheVariants as stop

module _ (tells : Bool) (input out : List ℕ) (old new : State) (why : Cause) where
  -- the part of records
  held_all : (Are These : List Record → List ℕ → Type 0) (so : List (List ℕ)) (of all : List ℕ) → ((records : List Record) → These records of → Are records all)
      → Says IsPartOfAll These of so → HoldTexts new.outputs (out ∷ []) so → HoldsPart Are new.outputs out all
  held_all Are These so of all on says held = record {
    records = says.records;
    are = on says.records says.are;
    few = says.few;
    held = held_some (holds new.outputs out) says.text (IsPartOfAll says.records) (subst (λ (texts : List (List ℕ)). HoldTexts new.outputs (out ∷ []) texts) says.said held).0 says.is;
  }

  -- or a front of it
  held_front : (so : List (List ℕ)) (of : List ℕ) → Says IsPartOfAll AreFirst of so → HoldFronts old.outputs new.outputs 0 (out ∷ []) so → HoldsFront old.outputs new.outputs out of
  held_front so of says held = record {
    records = says.records;
    first = says.first;
    few = says.few;
    held = λ opened. held_map (holds new.outputs out) (λ part. IsFront part says.text) (IsFrontOfPart says.records) (λ part front. (says.text, says.is, front))
        ((subst (λ (texts : List (List ℕ)). HoldFronts old.outputs new.outputs 0 (out ∷ []) texts) says.said held).0 (omega (arith, opened)));
  }

  abbrev All : List ℕ → Type 0
  All = HoldsPart (AreOf Ended why) new.outputs out

  abbrev Part : List ℕ → List ℕ → Type 0
  Part left = HoldsPart (AreWhole left) new.outputs out

  abbrev Says' : How → List ℕ → List (List ℕ) → Type 0
  Says' how = Says IsPartOfAll (AreOf how why)

  abbrev Kept : Stop → Type 0
  Kept = LeftBy tells input (out ∷ []) old new (IsEnd why) All Part (HoldsFront old.outputs new.outputs out)

  leaves_so : (answer : Stop) → Kept answer → PartLeaves (holds old.outputs input) out old.inputs new.inputs old.outputs new.outputs (answered answer (answer_of why))
  leaves_so stop.Ended kept = by_cause why kept
    where
      by_cause : (k : Cause) → IsSomeAnd (holds old.outputs input) (HoldsPart (AreOf Ended k) new.outputs out)
          → PartLeaves (holds old.outputs input) out old.inputs new.inputs old.outputs new.outputs (answer_of k)
      by_cause cause.End held = held
      by_cause (cause.Bad at fault) held = held
      by_cause (cause.Limit limit) held = held
  leaves_so stop.ReadFault kept = kept
  leaves_so stop.WriteFault kept = kept
  leaves_so stop.NoMemory kept = kept

  cause_so : (answer : Stop) → input ≢ out → Framed tells input (out ∷ []) old new (IsEnd why) answer → (IsTrue tells → Kept answer)
      → PartCause tells (holds old.outputs input) input out old.inputs new.inputs old.outputs new.outputs (answered answer (answer_of why))
  cause_so stop.Ended apart framed kept = by_cause why kept
    where
      by_cause : (k : Cause) → (IsTrue tells → IsSomeAnd (holds old.outputs input) (HoldsPart (AreOf Ended k) new.outputs out))
          → PartCause tells (holds old.outputs input) input out old.inputs new.inputs old.outputs new.outputs (answer_of k)
      by_cause cause.End held = (
        apart,
        λ told. held_map (holds old.outputs input) (HoldsPart (EndsSo Whole) new.outputs out) (IsExports Whole)
            (λ octets all. record { records = all.records; reads = all.are; few = all.few }) (held told),
      )
      by_cause (cause.Bad at fault) held = (
        apart,
        λ told. held_map (holds old.outputs input) (HoldsPart (EndsSo (Faulty at fault)) new.outputs out) (IsExports (Faulty at fault))
            (λ octets all. record { records = all.records; reads = all.are; few = all.few }) (held told),
      )
      by_cause (cause.Limit limit) held = (
        apart,
        is_limit limit,
        λ told. held_map (holds old.outputs input) (HoldsPart (Passes (most_of limit)) new.outputs out) (IsLong (most_of limit))
            (λ octets all. record { records = all.records; passes = all.are; few = all.few }) (held told),
      )
  cause_so stop.ReadFault apart framed kept = framed.touches.inputs.how.rose
  cause_so stop.WriteFault apart framed kept = framed.touches.outputs.how.rose
  cause_so stop.NoMemory apart framed kept = tt

  -- what the run says of its answer
  abbrev pub Ran : Outcome → Type 0
  Ran answer = PartCause tells (holds old.outputs input) input out old.inputs new.inputs old.outputs new.outputs answer
      × (IsTrue tells → PartLeaves (holds old.outputs input) out old.inputs new.inputs old.outputs new.outputs answer)
      × Bounds (around tells old.inputs new.inputs old.outputs new.outputs) input (out ∷ []) (input ≢ out) answer

  pub ran : (ins outs : List (List ℕ)) (stopped : Stop) (answer : Outcome) → answer ≡ answered stopped (answer_of why) → ins ≡ input ∷ [] → outs ≡ out ∷ [] → input ≢ out
      → Frame tells ins outs old new (IsEnd why) stopped
      → (IsTrue tells → frame.Leaves tells ins outs old new (λ how of. Says' how (of 0)) (λ of. Says IsPartOfAll AreFirst (of 0)) stopped) → Ran answer
  ran ins outs stopped answer is one_in one_out apart framed left =
      let kept = kept_by tells input (out ∷ []) old new (IsEnd why) All Part (HoldsFront old.outputs new.outputs out) Says' (Says IsPartOfAll AreFirst)
      (λ so of. held_all (AreOf Ended why) (AreOf Ended why) so of of (λ records are. are))
      (λ so handed left. held_all (AreWhole left) (AreWhole []) so handed (handed ++ left) (λ records. whole_on left records handed))
      held_front ins outs one_in one_out stopped framed left in
      subst Ran (sym is) (
        cause_so stopped apart kept.0 kept.1,
        λ told. leaves_so stopped (kept.1 told),
        bounds_ran tells input (out ∷ []) old new (IsEnd why) (input ≢ out) stopped (answer_of why) kept.0 (ends_done why) (ends_open why) apart,
      )
