-- What stopped the regrouping, and the answer that it becomes.
use Rattle.std.proofs.Common.{List, ℕ, [], ◌++◌, refl, ap, ◌∙◌, append-nil, inl, inr}
use Rattle.ioam_collect_stream.specs.Gathering.{AreWhole, IsLimit, most_of}
use Rattle.ioam_collect_stream.specs.Regrouping.{IsEnd, answer_of}
use Rattle.ioam_collect_stream.specs.declared.regrouping.Cause.{Cause}
use Rattle.ioam_collect_stream.specs.declared.regrouping.Cause.TheVariants as cause
use Rattle.ioam_collect_stream.specs.declared.step.Limit.{Limit}
use Rattle.ioam_collect_stream.specs.declared.step.Limit.TheVariants as limits
use Rattle.ioam_dex.specs.Record.{Record}
use Rattle.ioam_run_answer.specs.Outcomes.{IsDone, OpensNothing}

-- of the octets that were handed out, and those that are left
pub whole_on : (left : List ℕ) (records : List Record) (handed : List ℕ) → AreWhole [] records handed → AreWhole left records (handed ++ left)
whole_on left records handed whole = record {
  handed = whole.handed;
  parts = ap (λ (o : List ℕ). o ++ left) (whole.parts ∙ append-nil whole.handed);
  rest = whole.rest;
  splits = whole.splits;
  cut = whole.cut;
}

pub is_limit : (limit : Limit) → IsLimit (most_of limit)
is_limit limits.Held = inl refl
is_limit limits.Read = inr refl

pub ends_done : (why : Cause) → IsDone (answer_of why) → IsEnd why
ends_done cause.End done = tt
ends_done (cause.Bad at fault) done = done
ends_done (cause.Limit limit) done = done

pub ends_open : (why : Cause) → OpensNothing (answer_of why) → ⊥
ends_open cause.End none = none
ends_open (cause.Bad at fault) none = none
ends_open (cause.Limit limit) none = none
