-- What a run over both captures leaves, from what the machine says of it.
use Rattle.std.proofs.Common.{◌≡◌, ℕ, zero, suc, ◌+◌, ◌-◌, ◌<◌, ◌≤◌, ◌⊎◌, Bool, true, false, IsTrue, IsSomeAnd, List, [], ◌∷◌, ◌++◌, length, take, drop, Option, Some, None, refl, sym, ap, ◌∙◌, subst, inl, inr, arith, append-nil, append_assoc, length-append, length-drop}
use Rattle.std.proofs.lemmas.Bool.{true≢false}
use Rattle.std.proofs.lemmas.List.{length-take-le, take-append-drop}
use Rattle.ioam_base.specs.Octets.{IsFront}
use Rattle.ioam_capture.specs.Reads.{Reads}
use Rattle.ioam_capture.specs.Streams.{ShowsSo}
use Rattle.ioam_desk.specs.Desk.{holds}
use Rattle.ioam_desk.specs.Touches.{State}
use Rattle.ioam_desk_outputs.specs.Held.{HoldTexts, HoldFronts}
use Rattle.ioam_desk_outputs.specs.Told.{said_more}
use Rattle.ioam_pcap.specs.Ending.{Ending, Whole, Faulty}
use Rattle.ioam_pcap.specs.Entries.{Taken}
use Rattle.ioam_run_stream.specs.Promise.{AreFirst, EndsSo}
use Rattle.ioam_run_stream.specs.FirstLaws.{given_first, first_of_all}
use Rattle.ioam_stream.specs.Stage.{Seen, Covers}
use Rattle.ioam_run_audit.specs.Comparing.{Core, HasStopped, InPhase, IsAhead, IsSealedIn, RestIs, Stands, behind_of, left_of, place_of, said_behind, sums_as, sums_in, tail_in, verdict_by}
use Rattle.ioam_run_audit.specs.Cursors.{At, EndsBy}
use Rattle.ioam_run_audit.specs.Ends.{BehindBy, Matched, NoneBehind, Parts, IsPart, Start, Written, start_of}
use Rattle.ioam_run_audit.specs.Fit.{Place}
use Rattle.ioam_run_audit.specs.Lines.{BecomeOf, Yes, lines_of, report_of, sums_line, sums_of, verdict_as, verdict_line, verdict_of}
use Rattle.ioam_run_audit.specs.Promise.{AreFound, AreJudged, AreTaken}
use Rattle.ioam_run_audit.specs.Verdicts.{IsVerdict}
use Rattle.ioam_run_audit.specs.declared.comparison.Comparison.{Comparison}
use Rattle.ioam_run_audit.specs.declared.comparison.Lookahead.{Lookahead}
use Rattle.ioam_run_audit.specs.declared.comparison.Lookahead.TheVariants as ahead
use Rattle.ioam_run_audit.specs.declared.comparison.Phase.{Phase}
use Rattle.ioam_run_audit.specs.declared.comparison.Phase.TheVariants as phase
use Rattle.ioam_run_audit.specs.declared.counts.Counts.{Counts}
use Rattle.ioam_run_audit.specs.declared.cursor.Cursor.{Cursor}
use Rattle.ioam_run_audit.specs.declared.cursor.End.{End}
use Rattle.ioam_run_audit.specs.declared.cursor.End.TheVariants as end
use Rattle.ioam_run_audit.specs.declared.fate.Fate.{Fate}
use Rattle.ioam_run_audit.proofs.ComparisonLaws.{after_size, core_are, may_come, open_or}
use Rattle.ioam_run_audit.proofs.CursorLaws.{at_over, at_reader}
use Rattle.ioam_run_audit.proofs.FrontsLaws.{verdict_is}

-- what is known of the octets that are held
pub held_so : (held : Option (List ℕ)) (octets : List ℕ) (P : List ℕ → Type 0) → held ≡ Some octets → P octets → IsSomeAnd held P
held_so held octets P is fact = let Q : Option (List ℕ) → Type 0 = λ o. IsSomeAnd o P in subst Q (sym is) fact

-- however a capture ends, what was taken comes first in it
pub ends_first : (how : End) (taken : List Taken) (octets : List ℕ) → EndsBy how taken octets → AreFirst taken octets
ends_first end.Open taken octets ends = absurd ends
ends_first end.Whole taken octets ends = first_of_all Whole taken octets ends
ends_first (end.Bad at fault) taken octets ends = first_of_all (Faulty at fault) taken octets ends
ends_first end.Limit taken octets ends = ends.first

-- and all records were taken, or as many as may be
pub ends_taken : (how : End) (taken : List Taken) (octets : List ℕ) → EndsBy how taken octets → AreTaken taken octets
ends_taken end.Open taken octets ends = absurd ends
ends_taken end.Whole taken octets ends = inl (Whole, ends)
ends_taken (end.Bad at fault) taken octets ends = inl (Faulty at fault, ends)
ends_taken end.Limit taken octets ends = inr ends

-- ---- of all octets, what was taken of those that were handed out

module _ (octets fed : List ℕ) (ended : Bool) (cursor : Cursor) (taken : List Taken) (front : IsFront fed octets) (whole : IsTrue ended → octets ≡ fed)
    (at : At fed ended cursor taken) where
  pub cursor_over : (cursor.end ≡ end.Open → ⊥) → EndsBy cursor.end taken octets
  cursor_over none = elim (at_over fed ended cursor taken none at) [
    | inl done ↦ subst (λ (xs : List ℕ). EndsBy cursor.end taken xs) (sym (whole (subst (λ (b : Bool). IsTrue b) (sym done.0) refl))) done.1
    | inr on ↦ subst (λ (xs : List ℕ). EndsBy cursor.end taken xs) (sym front.is) (on.1 front.rest)
  ]

  pub cursor_first : AreFirst taken octets
  cursor_first = elim (open_or cursor.end) [
    | inl more ↦ subst (λ (xs : List ℕ). AreFirst taken xs) (sym front.is)
        (given_first cursor.reader fed front.rest taken (at_reader fed ended cursor taken more at).1)
    | inr none ↦ ends_first cursor.end taken octets (cursor_over none)
  ]

-- ---- what became of packets of BEFORE by all of AFTER

-- those that come are all, or as many as may be
all_or_passed : (octets : List ℕ) (zs rest : List Taken) (ending : Ending) → Reads octets (zs ++ rest) ending → (0 < length rest → length zs ≡ 16777216)
    → AreTaken zs octets
all_or_passed octets zs [] ending reads full = inl (ending, subst (λ ts. Reads octets ts ending) (append-nil zs) reads)
all_or_passed octets zs (r ∷ rest) ending reads full =
    inr (record { first = record { rest = r ∷ rest; ending = ending; reads = reads }; all = full (omega arith); more = omega arith })

take_few : (k : ℕ) (ts : List Taken) → length (take k ts) ≤ k
take_few zero ts = omega arith
take_few (suc k) [] = omega arith
take_few (suc k) (t ∷ ts) = omega (arith, take_few k ts)

first_taken : (octets : List ℕ) (ys : List Taken) (first : AreFirst ys octets) → length ys ≤ 16777216
    → AreTaken (ys ++ take (16777216 - length ys) first.rest) octets
first_taken octets ys first few =
    let k : ℕ = 16777216 - length ys in
    let parts : ys ++ first.rest ≡ (ys ++ take k first.rest) ++ drop k first.rest =
    ap (λ (ts : List Taken). ys ++ ts) (sym (take-append-drop k first.rest)) ∙ sym (append_assoc ys (take k first.rest) (drop k first.rest)) in
    all_or_passed octets (ys ++ take k first.rest) (drop k first.rest) first.ending (subst (λ ts. Reads octets ts first.ending) parts first.reads)
    (λ more. omega (arith, few, length-append ys (take k first.rest), length-take-le k first.rest (omega (arith, more, length-drop k first.rest))))

pub record ByAll (octets : List ℕ) (place : Place) (xs : List Taken) (fates : List Fate) : Type 0 where
  pub ys : List Taken
  pub rest : List Taken
  pub are : BecomeOf place xs ys fates rest
  pub of_after : AreTaken ys octets
  pub few : length ys ≤ 16777216

by_first : (octets : List ℕ) (place : Place) (xs ys rest : List Taken) (fates : List Fate) → length ys ≤ 16777216 → AreFirst ys octets
    → ((more : List Taken) → BecomeOf place xs (ys ++ more) fates (rest ++ more)) → ByAll octets place xs fates
by_first octets place xs ys rest fates few first are =
    let more : List Taken = take (16777216 - length ys) first.rest in
    record {
      ys = ys ++ more;
      rest = rest ++ more;
      are = are more;
      of_after = first_taken octets ys first few;
      few = omega (arith, few, length-append ys more, take_few (16777216 - length ys) first.rest);
    }

-- ---- what stands behind the lines

-- behind the sums
abbrev pub behind_text : Option (Option ℕ) → List ℕ
behind_text None = []
behind_text (Some left) = verdict_line (verdict_as left)

behind_as : (counts : Counts) (fates : List Fate) → sums_as counts ≡ sums_of fates → (verdict : Option (Option ℕ))
    → behind_of counts verdict ≡ sums_line (sums_of fates) ++ behind_text verdict
behind_as counts fates same None = ap sums_line same ∙ sym (append-nil (sums_line (sums_of fates)))
behind_as counts fates same (Some left) = ap (λ sums. sums_line sums ++ verdict_line (verdict_as left)) same

left_by : (rest : List Taken) (sent taken : ℕ) → taken ≡ sent + length rest → verdict_as (left_of sent taken) ≡ verdict_of rest sent
left_by [] sent taken size =
    let same : taken ≡ sent = omega (arith, size) in
    let none : left_of sent taken ≡ None = grind (arith, same) in
    ap verdict_as none
left_by (t ∷ rest) sent taken size =
    let other : taken ≡ sent → ⊥ = λ same. absurd (omega (arith, same, size)) in
    let some : left_of sent taken ≡ Some (sent + 1) = grind (arith, other) in
    ap verdict_as some

behind_by : (counts : Counts) (taken : ℕ) (fates : List Fate) (rest : List Taken) → counts.sent ≡ (sums_of fates).sent → taken ≡ counts.sent + length rest
    → (how last : End) → BehindBy how last fates rest (behind_text (verdict_by counts taken how last))
behind_by counts taken fates rest same size end.Whole end.Whole =
    ap verdict_line (left_by rest counts.sent taken size ∙ ap (verdict_of rest) same)
behind_by counts taken fates rest same size end.Whole end.Limit = refl
behind_by counts taken fates rest same size end.Whole (end.Bad at fault) = refl
behind_by counts taken fates rest same size end.Whole end.Open = refl
behind_by counts taken fates rest same size end.Limit last = refl
behind_by counts taken fates rest same size (end.Bad at fault) last = refl
behind_by counts taken fates rest same size end.Open last = refl

-- no verdict, if more of one may come
no_verdict : (counts : Counts) (taken : ℕ) (how last : End) → (how ≡ end.Open) ⊎ (last ≡ end.Open) → verdict_by counts taken how last ≡ None
no_verdict counts taken end.Whole end.Whole is = elim is [ inl same ↦ absurd (cc same) | inr same ↦ absurd (cc same) ]
no_verdict counts taken end.Whole end.Limit is = refl
no_verdict counts taken end.Whole (end.Bad at fault) is = refl
no_verdict counts taken end.Whole end.Open is = refl
no_verdict counts taken end.Limit last is = refl
no_verdict counts taken (end.Bad at fault) last is = refl
no_verdict counts taken end.Open last is = refl

-- ---- what the stage stands for, of all that the two captures hold

module _ (before after report : List ℕ) (place : Place) (old new : State) (octets : ℕ → List ℕ)
    (holds_before : holds old.outputs before ≡ Some (octets 0)) (holds_after : holds old.outputs after ≡ Some (octets 1))
    (begun : Comparison) (at_place : place_of begun.seat ≡ place) where
  abbrev start : Start
  start = start_of old.outputs before after report

  module _ (seen : Seen) (so_far : List (List ℕ)) (now : Comparison) (stands : Stands begun seen so_far now) (covers : Covers 2 seen octets) where
    abbrev core : Core begun seen stands.fates now
    core = stands.core

    its_place : place_of now.seat ≡ place
    its_place = core.seat ∙ at_place

    before_front : IsFront (seen.fed 0) (octets 0)
    before_front = covers.front 0 (omega arith)

    after_front : IsFront (seen.fed 1) (octets 1)
    after_front = covers.front 1 (omega arith)

    before_over : (now.before.end ≡ end.Open → ⊥) → EndsBy now.before.end core.xs (octets 0)
    before_over = cursor_over (octets 0) (seen.fed 0) (seen.ended 0) now.before core.xs before_front (covers.whole 0 (omega arith)) core.before

    after_over : (now.after.end ≡ end.Open → ⊥) → EndsBy now.after.end core.ys (octets 1)
    after_over = cursor_over (octets 1) (seen.fed 1) (seen.ended 1) now.after core.ys after_front (covers.whole 1 (omega arith)) core.after

    before_first : AreFirst core.xs (octets 0)
    before_first = cursor_first (octets 0) (seen.fed 0) (seen.ended 0) now.before core.xs before_front (covers.whole 0 (omega arith)) core.before

    after_first : AreFirst core.ys (octets 1)
    after_first = cursor_first (octets 1) (seen.fed 1) (seen.ended 1) now.after core.ys after_front (covers.whole 1 (omega arith)) core.after

    are_now : BecomeOf place core.xs core.ys stands.fates core.rest
    are_now = subst (λ (p : Place). BecomeOf p core.xs core.ys stands.fates core.rest) its_place (core_are begun seen stands.fates now core)

    -- AFTER may go on
    not_over : (w : Lookahead) → now.after.end ≡ end.Open → IsAhead w now.after.end → w ≡ ahead.Over → ⊥
    not_over ahead.Over more is over = is more
    not_over ahead.Asked more is over = cc over
    not_over ahead.Held more is over = cc over
    not_over ahead.Unfit more is over = cc over

    by_all : ByAll (octets 1) place core.xs stands.fates
    by_all = elim (open_or now.after.end) [
      | inl more ↦ by_first (octets 1) place core.xs core.ys core.rest stands.fates core.after.few after_first
          (λ others. subst (λ (p : Place). BecomeOf p core.xs (core.ys ++ others) stands.fates (core.rest ++ others)) its_place
          (core.are others (may_come now.ahead others (not_over now.ahead more core.is_ahead))))
      | inr none ↦ record { ys = core.ys; rest = core.rest; are = are_now; of_after = ends_taken now.after.end core.ys (octets 1) (after_over none); few = core.after.few }
    ]

    -- these records of BEFORE, by all of AFTER
    matched_by : (IsOfBefore : List Taken → List ℕ → Type 0) → IsOfBefore core.xs (octets 0) → Matched start place IsOfBefore AreTaken stands.fates by_all.rest
    matched_by IsOfBefore is = record {
      xs = core.xs;
      ys = by_all.ys;
      are = by_all.are;
      of_before = held_so (holds old.outputs before) (octets 0) (IsOfBefore core.xs) holds_before is;
      of_after = held_so (holds old.outputs after) (octets 1) (AreTaken by_all.ys) holds_after by_all.of_after;
      few_before = core.before.few;
      few_after = by_all.few;
    }

    abbrev verdict : Option (Option ℕ)
    verdict = verdict_by now.counts now.after.taken now.before.end now.after.end

    -- all is said
    said_all : now.phase ≡ phase.Closed → so_far ≡ report_of stands.fates (behind_text verdict) ∷ []
    said_all closed = stands.said ∙ ap (λ (p : Phase). (lines_of 1 stands.fates ++ tail_in p (said_behind now)) ∷ []) closed
        ∙ ap (λ (xs : List ℕ). (lines_of 1 stands.fates ++ xs) ∷ []) (behind_as now.counts stands.fates core.counts_are verdict)

    said_none : now.phase ≡ phase.Closed → (now.before.end ≡ end.Open) ⊎ (now.after.end ≡ end.Open) → so_far ≡ report_of stands.fates [] ∷ []
    said_none closed more = said_all closed
        ∙ ap (λ (v : Option (Option ℕ)). report_of stands.fates (behind_text v) ∷ []) (no_verdict now.counts now.after.taken now.before.end now.after.end more)

    its_behind : BehindBy now.before.end now.after.end stands.fates core.rest (behind_text verdict)
    its_behind = behind_by now.counts now.after.taken stands.fates core.rest (ap (λ sums. sums.sent) core.counts_are) (after_size begun seen stands.fates now core)
        now.before.end now.after.end

    -- both are over
    module _ (none_before : now.before.end ≡ end.Open → ⊥) (none_after : now.after.end ≡ end.Open → ⊥) where
      matched_over : Matched start place (EndsBy now.before.end) (EndsBy now.after.end) stands.fates core.rest
      matched_over = record {
        xs = core.xs;
        ys = core.ys;
        are = are_now;
        of_before = held_so (holds old.outputs before) (octets 0) (EndsBy now.before.end core.xs) holds_before (before_over none_before);
        of_after = held_so (holds old.outputs after) (octets 1) (EndsBy now.after.end core.ys) holds_after (after_over none_after);
        few_before = core.before.few;
        few_after = core.after.few;
      }

      pub written_over : now.phase ≡ phase.Closed → HoldTexts new.outputs (report ∷ []) so_far
          → Written start place new.outputs (EndsBy now.before.end) (EndsBy now.after.end) (BehindBy now.before.end now.after.end)
      written_over closed held = record {
        fates = stands.fates;
        rest = core.rest;
        behind = behind_text verdict;
        matched = matched_over;
        behind_is = its_behind;
        held = subst (λ (so : List (List ℕ)). HoldTexts new.outputs (report ∷ []) so) (said_all closed) held;
      }

      -- no verdict was said
      lines_by : (how last : End) → now.before.end ≡ how → now.after.end ≡ last → verdict_by now.counts now.after.taken how last ≡ None
          → IsPart start place new.outputs (report_of stands.fates (behind_text verdict)) → Parts start place new.outputs
      lines_by how last is too none held =
          let same : verdict ≡ None = ap (λ (e : End). verdict_by now.counts now.after.taken e now.after.end) is ∙ ap (λ (e : End). verdict_by now.counts now.after.taken how e) too ∙ none in
          inl (record {
            fates = stands.fates;
            rest = by_all.rest;
            behind = [];
            matched = matched_by AreFirst before_first;
            behind_is = refl;
            held = subst (λ (v : Option (Option ℕ)). IsPart start place new.outputs (report_of stands.fates (behind_text v))) same held;
          })

      -- not all of it could be written
      pub parts_by : (how last : End) → now.before.end ≡ how → now.after.end ≡ last → IsPart start place new.outputs (report_of stands.fates (behind_text verdict))
          → (how ≡ end.Whole → last ≡ end.Whole → holds new.outputs report ≡ Some (report_of stands.fates (behind_text verdict)) → ⊥) → Parts start place new.outputs
      parts_by end.Whole end.Whole is too held unheld = inr (record {
        fates = stands.fates;
        rest = core.rest;
        behind = behind_text verdict;
        matched = subst (λ (e : End). Matched start place (EndsSo Whole) (EndsBy e) stands.fates core.rest) too
            (subst (λ (e : End). Matched start place (EndsBy e) (EndsBy now.after.end) stands.fates core.rest) is matched_over);
        behind_is = subst (λ (e : End). BehindBy end.Whole e stands.fates core.rest (behind_text verdict)) too
            (subst (λ (e : End). BehindBy e now.after.end stands.fates core.rest (behind_text verdict)) is its_behind);
        held = (held, unheld refl refl);
      })
      parts_by end.Whole end.Limit is too held unheld = lines_by end.Whole end.Limit is too refl held
      parts_by end.Whole (end.Bad at fault) is too held unheld = lines_by end.Whole (end.Bad at fault) is too refl held
      parts_by end.Whole end.Open is too held unheld = lines_by end.Whole end.Open is too refl held
      parts_by end.Limit last is too held unheld = lines_by end.Limit last is too refl held
      parts_by (end.Bad at fault) last is too held unheld = lines_by (end.Bad at fault) last is too refl held
      parts_by end.Open last is too held unheld = lines_by end.Open last is too refl held

    -- ---- after a read that failed

    module _ (left_before left_after : List ℕ) (ended_after : Bool) (split_before : octets 0 ≡ seen.fed 0 ++ left_before) (split_after : octets 1 ≡ seen.fed 1 ++ left_after)
        (ended_is : now.after.ended ≡ ended_after) where
      abbrev Judged : List Taken → List ℕ → Type 0
      Judged = AreJudged place start.after ended_after left_before left_after

      shown_before : ShowsSo (seen.fed 0) false core.xs None → Judged core.xs (octets 0)
      shown_before shows = inr (inl (record { handed = seen.fed 0; parts = split_before; shows = shows }))

      over_so : (now.before.end ≡ end.Open → ⊥) → Judged core.xs (octets 0)
      over_so none = elim (at_over (seen.fed 0) (seen.ended 0) now.before core.xs none core.before) [
        | inl done ↦ shown_before done.2
        | inr on ↦ inl (ends_taken now.before.end core.xs (octets 0) (before_over none))
      ]

      -- AFTER couldn't be read on
      found_so : now.before.end ≡ end.Open → now.ahead ≡ ahead.Asked → ShowsSo (seen.fed 1) false core.ys None → Judged core.xs (octets 0)
      found_so more asked shows =
          let none : core.rest ≡ [] = subst (λ (w : Lookahead). RestIs w now.after.packet.items core.rest) asked (core.rest_is more) in
          let last : now.after.end ≡ end.Open = subst (λ (w : Lookahead). IsAhead w now.after.end) asked core.is_ahead in
          let yes : IsVerdict place core.xs core.ys Yes = verdict_is place core.xs core.ys stands.fates []
          (subst (λ r. BecomeOf place core.xs core.ys stands.fates r) none are_now) in
          inr (inr (
            sym ended_is ∙ sym core.after.ended_is ∙ (at_reader (seen.fed 1) (seen.ended 1) now.after core.ys last core.after).0,
            before_first,
            held_so (holds old.outputs after) (octets 1) (AreFound place core.xs left_after) holds_after
                (core.ys, record { handed = seen.fed 1; parts = split_after; shows = shows }, yes),
          ))

      judged_so : HasStopped seen now core.xs core.ys → seen.cut ≡ true → Judged core.xs (octets 0) × ((now.before.end ≡ end.Open) ⊎ (now.after.end ≡ end.Open))
      judged_so stopped cut = elim stopped [
        | inl over ↦ absurd (true≢false (sym cut ∙ over.0))
        | inr halted ↦ (
          elim halted.2 [
            | inl none ↦ over_so none
            | inr other ↦ elim other [
              | inl shows ↦ shown_before shows
              | inr found ↦ found_so found.0 found.1 found.2
            ]
          ],
          halted.1,
        )
      ]

      pub written_cut : now.phase ≡ phase.Closed → seen.cut ≡ true → HoldTexts new.outputs (report ∷ []) so_far
          → Written start place new.outputs Judged AreTaken NoneBehind
      written_cut closed cut held =
          let stopped = judged_so (subst (λ (p : Phase). InPhase p seen now core.xs core.ys) closed stands.in_phase) cut in
          record {
            fates = stands.fates;
            rest = by_all.rest;
            behind = [];
            matched = matched_by Judged stopped.0;
            behind_is = refl;
            held = subst (λ (so : List (List ℕ)). HoldTexts new.outputs (report ∷ []) so) (said_none closed stopped.1) held;
          }

    -- ---- a part

    part_of : IsPart start place new.outputs (report_of stands.fates []) → Parts start place new.outputs
    part_of held = inl (record {
      fates = stands.fates;
      rest = by_all.rest;
      behind = [];
      matched = matched_by AreFirst before_first;
      behind_is = refl;
      held = held;
    })

    front_of : (text : List ℕ) → HoldFronts old.outputs new.outputs 0 (report ∷ []) (text ∷ []) → IsPart start place new.outputs text
    front_of text fronts = λ opened. fronts.0 (omega (arith, opened))

    abbrev Text : List (List ℕ) → Type 0
    Text so = HoldFronts old.outputs new.outputs 0 (report ∷ []) so

    stopped_in : now.phase ≡ phase.Closed → HasStopped seen now core.xs core.ys
    stopped_in closed = subst (λ (p : Phase). InPhase p seen now core.xs core.ys) closed stands.in_phase

    nothing_more : (xs : List ℕ) → said_more (xs ∷ []) ([] ∷ []) ≡ xs ∷ []
    nothing_more xs = ap (λ (ys : List ℕ). ys ∷ []) (append-nil xs)

    with_sums : (p : Phase) → now.phase ≡ p → tail_in p (said_behind now) ≡ [] → said_more so_far (sums_line (sums_as now.counts) ∷ []) ≡ report_of stands.fates [] ∷ []
    with_sums p is none =
        ap (λ (t : List (List ℕ)). said_more t (sums_line (sums_as now.counts) ∷ []))
        (stands.said ∙ ap (λ (q : Phase). (lines_of 1 stands.fates ++ tail_in q (said_behind now)) ∷ []) is ∙ ap (λ (xs : List ℕ). (lines_of 1 stands.fates ++ xs) ∷ []) none)
        ∙ ap (λ (xs : List ℕ). (xs ++ sums_line (sums_as now.counts)) ∷ []) (append-nil (lines_of 1 stands.fates))
        ∙ ap (λ (xs : List ℕ). (lines_of 1 stands.fates ++ xs) ∷ []) (behind_as now.counts stands.fates core.counts_are None)

    -- what comes after the lines wasn't said, or a read had failed
    pub parts_unsealed : (p : Phase) (cut : Bool) → now.phase ≡ p → seen.cut ≡ cut → (IsSealedIn p cut → ⊥) → (so : List (List ℕ)) → so ≡ said_more so_far (sums_in p now.counts ∷ [])
        → Text so → Parts start place new.outputs
    parts_unsealed phase.Judging cut is cut_is open_so so said fronts = part_of (front_of (report_of stands.fates []) (subst Text (said ∙ with_sums phase.Judging is refl) fronts))
    parts_unsealed phase.Closing cut is cut_is open_so so said fronts = part_of (front_of (report_of stands.fates []) (subst Text (said ∙ with_sums phase.Closing is refl) fronts))
    parts_unsealed phase.Closed false is cut_is open_so so said fronts = absurd (open_so refl)
    parts_unsealed phase.Closed true is cut_is open_so so said fronts =
        let more = elim (stopped_in is) as (λ _. (now.before.end ≡ end.Open) ⊎ (now.after.end ≡ end.Open)) [
          | inl over ↦ absurd (true≢false (sym cut_is ∙ over.0))
          | inr halted ↦ halted.1
        ] in
        part_of (front_of (report_of stands.fates [])
        (subst Text (said ∙ ap (λ (t : List (List ℕ)). said_more t ([] ∷ [])) (said_none is more) ∙ nothing_more (report_of stands.fates [])) fronts))

    -- it was, and not all of it could be written
    pub parts_sealed : now.phase ≡ phase.Closed → seen.cut ≡ false → (so : List (List ℕ)) → so ≡ said_more so_far ([] ∷ []) → Text so
        → (HoldTexts new.outputs (report ∷ []) so → ⊥) → Parts start place new.outputs
    parts_sealed is cut so said fronts unheld =
        let same : so ≡ report_of stands.fates (behind_text verdict) ∷ [] =
        said ∙ ap (λ (t : List (List ℕ)). said_more t ([] ∷ [])) (said_all is) ∙ nothing_more (report_of stands.fates (behind_text verdict)) in
        elim (stopped_in is) [
          | inl over ↦ parts_by over.1 over.2 now.before.end now.after.end refl refl (front_of (report_of stands.fates (behind_text verdict)) (subst Text same fronts))
              (λ is_whole too held. unheld (subst (λ (t : List (List ℕ)). HoldTexts new.outputs (report ∷ []) t) (sym same) (held, tt)))
          | inr halted ↦ absurd (true≢false (sym halted.0 ∙ cut))
        ]

    -- all of it was, and no verdict was said
    pub parts_done : (none_before : now.before.end ≡ end.Open → ⊥) (none_after : now.after.end ≡ end.Open → ⊥) → now.phase ≡ phase.Closed
        → (now.before.end ≡ end.Whole → now.after.end ≡ end.Whole → ⊥) → HoldTexts new.outputs (report ∷ []) so_far → Parts start place new.outputs
    parts_done none_before none_after is not_both held =
        let text : List ℕ = report_of stands.fates (behind_text verdict) in
        let there : HoldTexts new.outputs (report ∷ []) (text ∷ []) = subst (λ (so : List (List ℕ)). HoldTexts new.outputs (report ∷ []) so) (said_all is) held in
        parts_by none_before none_after now.before.end now.after.end refl refl
        (λ opened. held_so (holds new.outputs report) text (λ part. IsFront part text) there.0 (record { rest = []; is = sym (append-nil text) }))
        (λ whole too all. absurd (not_both whole too))

-- both are over, unless a read failed
pub both_over : (begun : Comparison) (seen : Seen) (so_far : List (List ℕ)) (now : Comparison) → Stands begun seen so_far now → now.phase ≡ phase.Closed → seen.cut ≡ false
    → (now.before.end ≡ end.Open → ⊥) × (now.after.end ≡ end.Open → ⊥)
both_over begun seen so_far now stands closed cut = elim (subst (λ (p : Phase). InPhase p seen now stands.core.xs stands.core.ys) closed stands.in_phase) [
  | inl over ↦ (over.1, over.2)
  | inr halted ↦ absurd (true≢false (sym halted.0 ∙ cut))
]

pub sealed_is : (p : Phase) (cut : Bool) → IsSealedIn p cut → (p ≡ phase.Closed) × (cut ≡ false)
sealed_is phase.Judging cut sealed = absurd sealed
sealed_is phase.Closing cut sealed = absurd sealed
sealed_is phase.Closed cut sealed = (refl, sealed)
