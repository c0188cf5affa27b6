-- What REPORT holds, in the words of the promise.
use Rattle.std.proofs.Common.{◌≡◌, ℕ, ◌≤◌, Bool, IsSomeAnd, List, [], ◌++◌, length, Option, refl, inl, inr, arith, length-append}
use Rattle.ioam_desk.specs.Desk as desk
use Rattle.ioam_desk.specs.Desk.{Writing, holds}
use Rattle.ioam_pcap.specs.Ending.{Ending, Whole}
use Rattle.ioam_pcap.specs.Entries.{Taken}
use Rattle.ioam_run_stream.specs.Promise.{AreFirst, ArePassed, EndsSo, IsInput, IsLong}
use Rattle.ioam_run_stream.proofs.HaltsLaws.{held_map}
use Rattle.ioam_run_stream.proofs.StopsLaws.{begins_ends, begins_passed, begins_whole}
use Rattle.ioam_run_audit.specs.Ends.{Matched, Parts, Start, Written, WrittenCut, start_of}
use Rattle.ioam_run_audit.specs.Fit.{Place}
use Rattle.ioam_run_audit.specs.Lines.{report_of, sums_of, verdict_line, verdict_of}
use Rattle.ioam_run_audit.specs.Promise.{AreJudged, AreTaken, AuditNames, Holds, HoldsPart, HoldsUnfinished, IsCutOff, IsReady, LeavesPart, Reports}
use Rattle.ioam_run_audit.specs.Verdicts.{HasVerdict, NoVerdict}
use Rattle.ioam_run_audit.specs.declared.fate.Fate.{Fate}
use Rattle.ioam_run_audit.proofs.FrontsLaws.{become_only, verdict_is}

-- what is held is a capture that ends so
pub is_input : (held : Option (List ℕ)) (ending : Ending) (taken : List Taken) → length taken ≤ 16777216 → IsSomeAnd held (EndsSo ending taken)
    → IsSomeAnd held (IsInput 16777216 ending)
is_input held ending taken few ends = held_map held (EndsSo ending taken) (IsInput 16777216 ending)
    (λ octets reads. record { taken = taken; reads = reads; few = few }) ends

-- or has more records
pub is_long : (held : Option (List ℕ)) (taken : List Taken) → IsSomeAnd held (ArePassed 16777216 taken) → IsSomeAnd held (IsLong 16777216)
is_long held taken passed = held_map held (ArePassed 16777216 taken) (IsLong 16777216)
    (λ octets all. record {
      taken = taken ++ all.first.rest;
      ending = all.first.ending;
      reads = all.first.reads;
      many = omega (arith, all.all, all.more, length-append taken all.first.rest);
    }) passed

-- records that were judged are the first
taken_first : (taken : List Taken) (octets : List ℕ) → AreTaken taken octets → AreFirst taken octets
taken_first taken octets (inl all) = begins_ends all.0 taken octets all.1
taken_first taken octets (inr passed) = begins_passed 16777216 taken octets passed

judged_first : (place : Place) (after : Option (List ℕ)) (ended_after : Bool) (left_before left_after : List ℕ) (taken : List Taken) (octets : List ℕ)
    → AreJudged place after ended_after left_before left_after taken octets → AreFirst taken octets
judged_first place after ended_after left_before left_after taken octets (inl all) = taken_first taken octets all
judged_first place after ended_after left_before left_after taken octets (inr (inl whole)) = begins_whole left_before taken octets whole
judged_first place after ended_after left_before left_after taken octets (inr (inr found)) = found.1

module _ (tells : Bool) (files : AuditNames) (old_in new_in : desk.Reading) (old new : Writing) (place : Place) (ready : IsReady files old place) where
  abbrev start : Start
  start = start_of old files.before files.after files.report

  -- of some records of both
  reports : (P Q IsOfBefore IsOfAfter : List Taken → List ℕ → Type 0) → ((taken : List Taken) (octets : List ℕ) → P taken octets → IsOfBefore taken octets)
      → ((taken : List Taken) (octets : List ℕ) → Q taken octets → IsOfAfter taken octets)
      → (Behind : Place → List Taken → List Taken → List ℕ → Type 0) (IsText : List ℕ → Type 0) (fates : List Fate) (rest : List Taken) (behind : List ℕ)
      → (matched : Matched start place P Q fates rest) → Behind place matched.xs matched.ys behind → IsText (report_of fates behind)
      → Reports files old IsOfBefore IsOfAfter Behind IsText
  reports P Q IsOfBefore IsOfAfter first second Behind IsText fates rest behind matched is text = record {
    place = place;
    ready = ready;
    before = matched.xs;
    after = matched.ys;
    behind = behind;
    text = report_of fates behind;
    of_before = held_map (holds old files.before) (P matched.xs) (IsOfBefore matched.xs) (first matched.xs) (matched.of_before);
    of_after = held_map (holds old files.after) (Q matched.ys) (IsOfAfter matched.ys) (second matched.ys) (matched.of_after);
    few_before = matched.few_before;
    few_after = matched.few_after;
    behind_is = is;
    report = record {
      fates = fates;
      rest = rest;
      become = matched.are;
      only = λ others left also. become_only place matched.xs matched.ys fates others rest left matched.are also;
      text_is = refl;
    };
    text_is = text;
  }

  -- the verdict on all
  has_verdict : (P Q : List Taken → List ℕ → Type 0) (fates : List Fate) (rest : List Taken) (behind : List ℕ) (matched : Matched start place P Q fates rest)
      → behind ≡ verdict_line (verdict_of rest (sums_of fates).sent) → HasVerdict place matched.xs matched.ys behind
  has_verdict P Q fates rest behind matched is =
      (verdict_of rest (sums_of fates).sent, verdict_is place matched.xs matched.ys fates rest matched.are, is)

  module _ (P Q : List Taken → List ℕ → Type 0) where
    -- without a verdict
    pub no_verdict : (IsOfBefore IsOfAfter : List Taken → List ℕ → Type 0) → ((taken : List Taken) (octets : List ℕ) → P taken octets → IsOfBefore taken octets)
        → ((taken : List Taken) (octets : List ℕ) → Q taken octets → IsOfAfter taken octets)
        → Written start place new P Q (λ fates rest behind. behind ≡ [])
        → Reports files old IsOfBefore IsOfAfter NoVerdict (Holds files old_in new_in old new)
    no_verdict IsOfBefore IsOfAfter first second written =
        reports P Q IsOfBefore IsOfAfter first second NoVerdict (Holds files old_in new_in old new) written.fates written.rest written.behind
        written.matched written.behind_is written.held.0

    -- with one
    pub with_verdict : Written start place new P Q (λ fates rest behind. behind ≡ verdict_line (verdict_of rest (sums_of fates).sent))
        → Reports files old P Q HasVerdict (Holds files old_in new_in old new)
    with_verdict written =
        let matched = written.matched in
        reports P Q P Q (λ taken octets is. is) (λ taken octets is. is) HasVerdict (Holds files old_in new_in old new) written.fates written.rest written.behind
        matched (has_verdict P Q written.fates written.rest written.behind matched written.behind_is) written.held.0

  -- of the packets of BEFORE that were judged
  pub cut_reports : (first second : ℕ) → WrittenCut tells start place new_in first second new
      → Reports files old AreFirst AreTaken (IsCutOff files old (new_in.ended second) (new_in.left first) (new_in.left second)) (Holds files old_in new_in old new)
  cut_reports first second written =
      let matched = written.matched in
      reports (AreJudged place start.after (new_in.ended second) (new_in.left first) (new_in.left second)) AreTaken AreFirst AreTaken
      (judged_first place start.after (new_in.ended second) (new_in.left first) (new_in.left second)) (λ taken octets is. is)
      (IsCutOff files old (new_in.ended second) (new_in.left first) (new_in.left second)) (Holds files old_in new_in old new) written.fates written.rest written.behind
      matched (written.behind_is, matched.of_before) written.held.0

  -- a part
  pub some_reports : Parts start place new → LeavesPart files old_in new_in old new
  some_reports parts = elim parts [
    | inl lines ↦ inl (reports AreFirst AreTaken AreFirst AreTaken (λ taken octets is. is) (λ taken octets is. is) NoVerdict
        (HoldsPart files old_in new_in old new) lines.fates lines.rest lines.behind lines.matched lines.behind_is lines.held)
    | inr all ↦ inr (reports (EndsSo Whole) (EndsSo Whole) (EndsSo Whole) (EndsSo Whole) (λ taken octets is. is) (λ taken octets is. is) HasVerdict
        (HoldsUnfinished files old_in new_in old new) all.fates all.rest all.behind all.matched
        (has_verdict (EndsSo Whole) (EndsSo Whole) all.fates all.rest all.behind all.matched all.behind_is) all.held)
  ]
