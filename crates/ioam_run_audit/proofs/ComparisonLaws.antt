-- The two captures, compared step by step.
use Rattle.std.proofs.Common.{◌≡◌, ℕ, zero, suc, ◌+◌, ◌-◌, ◌^◌, ◌<◌, ◌≤◌, ◌⊎◌, Bool, true, false, IsTrue, List, [], ◌∷◌, ◌++◌, length, get_or, set, Option, Some, None, refl, sym, ap, ◌∙◌, subst, inl, inr, arith, append-nil, append_assoc}
use Rattle.std.specs.Prelude.{slice_get}
use Rattle.ioam_audit.specs.Sent.{IsSentAs, end_of}
use Rattle.ioam_capture.specs.Reader.{Waits}
use Rattle.ioam_capture.specs.Reading.{Reading, fed}
use Rattle.ioam_capture.specs.Streams.{ShowsSo}
use Rattle.ioam_desk_outputs.specs.Told.{Adds, said_more}
use Rattle.ioam_desk_outputs.specs.declared.output.Output.{Output}
use Rattle.ioam_node.specs.declared.reason.Reason.{Reason}
use Rattle.ioam_pcap.specs.Entries.{Taken}
use Rattle.ioam_run_stream.proofs.AddsLaws.{Adds-none, Adds-one}
use Rattle.ioam_stream.specs.Stage.{Seen, Takes, Ends, Feeds, Keeps, IsFed, IsEnded, IsCut, Covers}
use Rattle.ioam_stream.specs.Stage as stage
use Rattle.ioam_topo.specs.Domain.{links}
use Rattle.ioam_run_audit.specs.Comparing.{Core, FateOf, InPhase, IsAhead, IsLegal, IsShort, MayCome, RestIs, Stands, ahead_left, behind, behind_of, end_left, kind, leading, not_yet, phase_left, place_of, said_behind, sums_as, tail_in, verdict_by}
use Rattle.ioam_run_audit.specs.Cursors.{At, IsHeld, KeepsAt, NextOf, HasEnded}
use Rattle.ioam_run_audit.specs.Cursors as cursors
use Rattle.ioam_run_audit.specs.Fates.{IsFate, IsNext, IsNotNext, left_behind}
use Rattle.ioam_run_audit.specs.Fit.{CameFrom, HasReason, HoldsPacket, IsFit, Place}
use Rattle.ioam_run_audit.specs.Lines.{BecomeOf, Sums, line_of, lines_of, sums_of, with_fate}
use Rattle.ioam_run_audit.specs.declared.comparison.Comparison.{Comparison}
use Rattle.ioam_run_audit.specs.declared.comparison.Lookahead.{Lookahead}
use Rattle.ioam_run_audit.specs.declared.comparison.Lookahead.TheVariants as ahead
use Rattle.ioam_run_audit.specs.declared.comparison.Phase.{Phase}
use Rattle.ioam_run_audit.specs.declared.comparison.Phase.TheVariants as phase
use Rattle.ioam_run_audit.specs.declared.cursor.Cursor.{Cursor}
use Rattle.ioam_run_audit.specs.declared.cursor.End.{End}
use Rattle.ioam_run_audit.specs.declared.cursor.End.TheVariants as end
use Rattle.ioam_run_audit.specs.declared.cursor.Next.TheVariants as next
use Rattle.ioam_run_audit.specs.declared.fate.Fate.{Fate}
use Rattle.ioam_run_audit.specs.declared.fate.Fate.TheVariants.{Sent, Gone, Skipped}
use Rattle.ioam_run_audit.proofs.CursorLaws.{at_over, at_reader, at_room, at_shows}
use Rattle.ioam_run_audit.proofs.FatesLaws.{fates_many, fates_push, fates_size, number_is, numbers_behind}
use Rattle.ioam_run_audit.proofs.LinesLaws.{lines_push, sums_all, sums_push, sums_sent}
use Rattle.ioam_run_audit.proofs.RecordLaws.{one_packet, reason_apart}

-- ---- what may come of AFTER

pub none_more : (w : Lookahead) → MayCome w []
none_more ahead.Asked = tt
none_more ahead.Held = tt
none_more ahead.Unfit = tt
none_more ahead.Over = refl

pub may_come : (w : Lookahead) (more : List Taken) → (w ≡ ahead.Over → ⊥) → MayCome w more
may_come ahead.Asked more on = tt
may_come ahead.Held more on = tt
may_come ahead.Unfit more on = tt
may_come ahead.Over more on = absurd (on refl)

asked_on : (w : Lookahead) → w ≡ ahead.Asked → w ≡ ahead.Over → ⊥
asked_on w asked over = cc

held_on : (w : Lookahead) → w ≡ ahead.Held → w ≡ ahead.Over → ⊥
held_on w held over = cc

-- if nothing more comes
pub now_are : (place : Place) (xs ys rest : List Taken) (fates : List Fate) → BecomeOf place xs (ys ++ []) fates (rest ++ [])
    → BecomeOf place xs ys fates rest
now_are place xs ys rest fates are =
    subst (λ r. BecomeOf place xs ys fates r) (append-nil rest) (subst (λ zs. BecomeOf place xs zs fates (rest ++ [])) (append-nil ys) are)

pub core_are : (begun : Comparison) (seen : Seen) (fates : List Fate) (now : Comparison) → (core : Core begun seen fates now)
    → BecomeOf (place_of now.seat) core.xs core.ys fates core.rest
core_are begun seen fates now core = now_are (place_of now.seat) core.xs core.ys core.rest fates (core.are [] (none_more now.ahead))

-- ---- records are taken

-- what was said, and this
said_on : (lines text now tail : List ℕ) (so_far : List (List ℕ)) (p q : Phase) (old_tail new_tail : List ℕ) → p ≡ phase.Judging → q ≡ phase.Judging
    → so_far ≡ (lines ++ tail_in p old_tail) ∷ [] → now ≡ lines ++ text → said_more so_far (text ∷ []) ≡ (now ++ tail_in q new_tail) ∷ []
said_on lines text now tail so_far p q old_tail new_tail was is said more =
    let bare : so_far ≡ lines ∷ [] = said ∙ ap (λ (r : Phase). (lines ++ tail_in r old_tail) ∷ []) was ∙ ap (λ (xs : List ℕ). xs ∷ []) (append-nil lines) in
    ap (λ (so : List (List ℕ)). said_more so (text ∷ [])) bare
    ∙ ap (λ (xs : List ℕ). xs ∷ []) (sym more ∙ sym (append-nil now))
    ∙ ap (λ (r : Phase). (now ++ tail_in r new_tail) ∷ []) (sym is)

uncut : (p : Phase) (seen : Seen) (now : Comparison) (xs ys : List Taken) → p ≡ phase.Judging → InPhase p seen now xs ys → seen.cut ≡ false
uncut phase.Judging seen now xs ys is cut = cut
uncut phase.Closing seen now xs ys is cut = absurd (cc is)
uncut phase.Closed seen now xs ys is cut = absurd (cc is)

said_same : (lines : List ℕ) (p q : Phase) (old_tail new_tail : List ℕ) → p ≡ phase.Judging → q ≡ phase.Judging
    → (lines ++ tail_in p old_tail) ∷ [] ≡ (lines ++ tail_in q new_tail) ∷ []
said_same lines p q old_tail new_tail was is =
    ap (λ (r : Phase). (lines ++ tail_in r old_tail) ∷ []) was ∙ ap (λ (r : Phase). (lines ++ tail_in r new_tail) ∷ []) (sym is)

pub takes_on : (old new : Comparison) (before after : List Output) (text : List ℕ) → old.phase ≡ phase.Judging → new.phase ≡ phase.Judging
    → kind.held new < kind.held old → kind.room new ≡ kind.room old → Adds before after (text ∷ [])
    → ((begun : Comparison) (seen : Seen) (fates : List Fate) → Core begun seen fates old → (now : List Fate) × Core begun seen now new × (lines_of 1 now ≡ lines_of 1 fates ++ text))
    → Takes kind old new before after
takes_on old new before after text was is held room adds cores = record {
  held = held;
  room = room;
  added = text ∷ [];
  adds = adds;
  stands = λ begun seen so_far stands.
      let next = cores begun seen stands.fates stands.core in
      record {
        fates = next.0;
        core = next.1;
        said = said_on (lines_of 1 stands.fates) text (lines_of 1 next.0) [] so_far old.phase new.phase (said_behind old) (said_behind new) was is stands.said next.2;
        in_phase = subst (λ (p : Phase). InPhase p seen new next.1.xs next.1.ys) (sym is) (uncut old.phase seen old stands.core.xs stands.core.ys was stands.in_phase);
      };
}

-- nothing is said
pub takes_still : (old new : Comparison) (outputs : List Output) → length outputs ≡ 1 → old.phase ≡ phase.Judging → new.phase ≡ phase.Judging
    → kind.held new < kind.held old → kind.room new ≡ kind.room old
    → ((begun : Comparison) (seen : Seen) (fates : List Fate) → Core begun seen fates old → Core begun seen fates new)
    → Takes kind old new outputs outputs
takes_still old new outputs one was is held room cores = takes_on old new outputs outputs [] was is held room (Adds-none outputs one)
    (λ begun seen fates core. (fates, cores begun seen fates core, sym (append-nil (lines_of 1 fates))))

-- more octets are needed
pub waits_on : (old new : Comparison) (outputs : List Output) (input : ℕ) → old.phase ≡ phase.Judging → new.phase ≡ phase.Judging → kind.room new ≡ kind.room old → input < 2
    → stage.Standing kind old
    → ((begun : Comparison) (seen : Seen) (fates : List Fate) → Core begun seen fates old → IsShort new input)
    → ((begun : Comparison) (seen : Seen) (fates : List Fate) → Core begun seen fates old → Core begun seen fates new)
    → ((begun : Comparison) (seen : Seen) (fates : List Fate) → Core begun seen fates old → seen.ended input ≡ false)
    → stage.Waits kind old new outputs outputs input
waits_on old new outputs input was is room inside standing short cores open_so = record {
  same = refl;
  room = room;
  inside = λ begun seen so_far stands. inside;
  waits = short standing.begun standing.seen standing.stands.fates standing.stands.core;
  stands = λ begun seen so_far stands. record {
    fates = stands.fates;
    core = cores begun seen stands.fates stands.core;
    said = stands.said ∙ said_same (lines_of 1 stands.fates) old.phase new.phase (said_behind old) (said_behind new) was is;
    in_phase =
        let next = cores begun seen stands.fates stands.core in
        subst (λ (p : Phase). InPhase p seen new next.xs next.ys) (sym is) (uncut old.phase seen old stands.core.xs stands.core.ys was stands.in_phase);
  };
  is_open = λ begun seen so_far stands. open_so begun seen stands.fates stands.core;
  uncut = λ begun seen so_far stands. uncut old.phase seen old stands.core.xs stands.core.ys was stands.in_phase;
}

-- ---- what comes next of AFTER

module _ (old : Comparison) (cursor : Cursor) (asked : old.ahead ≡ ahead.Asked) where
  abbrev with_after : Lookahead → Comparison
  with_after w = record { seat = old.seat; before = old.before; after = cursor; ahead = w; counts = old.counts; phase = old.phase }

  after_open : {begun : Comparison} {seen : Seen} {fates : List Fate} → Core begun seen fates old → old.after.end ≡ end.Open
  after_open core = subst (λ (w : Lookahead). IsAhead w old.after.end) asked core.is_ahead

  came_one : {begun : Comparison} {seen : Seen} {fates : List Fate} (core : Core begun seen fates old) (t : Taken) (more : List Taken)
      → BecomeOf (place_of old.seat) core.xs ((core.ys ++ t ∷ []) ++ more) fates ((core.rest ++ t ∷ []) ++ more)
  came_one {begun} {seen} {fates} core t more =
      let all = core.are (t ∷ more) (may_come old.ahead (t ∷ more) (asked_on old.ahead asked)) in
      subst (λ r. BecomeOf (place_of old.seat) core.xs ((core.ys ++ t ∷ []) ++ more) fates r) (sym (append_assoc core.rest (t ∷ []) more))
      (subst (λ zs. BecomeOf (place_of old.seat) core.xs zs fates (core.rest ++ t ∷ more)) (sym (append_assoc core.ys (t ∷ []) more)) all)

  none_left : {begun : Comparison} {seen : Seen} {fates : List Fate} (core : Core begun seen fates old) → old.before.end ≡ end.Open → core.rest ≡ []
  none_left core more = subst (λ (w : Lookahead). RestIs w old.after.packet.items core.rest) asked (core.rest_is more)

  -- a record
  core_came : (w : Lookahead) (t : Taken) → cursor.end ≡ old.after.end → KeepsAt old.after cursor (λ taken. taken ++ t ∷ [])
      → (cursor.end ≡ end.Open → IsAhead w cursor.end) → ((rest : List Taken) → rest ≡ [] → RestIs w cursor.packet.items (rest ++ t ∷ []))
      → (begun : Comparison) (seen : Seen) (fates : List Fate) → Core begun seen fates old → Core begun seen fates (with_after w)
  core_came w t is keeps open_so rests begun seen fates core = record {
    xs = core.xs;
    ys = core.ys ++ t ∷ [];
    rest = core.rest ++ t ∷ [];
    seat = core.seat;
    before = core.before;
    after = keeps (seen.fed 1) (seen.ended 1) core.ys (after_open core) core.after;
    are = λ more may. came_one core t more;
    is_ahead = open_so (is ∙ after_open core);
    rest_is = λ more. rests core.rest (none_left core more);
    counts_are = core.counts_are;
  }

  -- none
  core_past : (cursor.end ≡ end.Open → ⊥) → KeepsAt old.after cursor (λ taken. taken)
      → (begun : Comparison) (seen : Seen) (fates : List Fate) → Core begun seen fates old → Core begun seen fates (with_after ahead.Over)
  core_past none keeps begun seen fates core = record {
    xs = core.xs;
    ys = core.ys;
    rest = core.rest;
    seat = core.seat;
    before = core.before;
    after = keeps (seen.fed 1) (seen.ended 1) core.ys (after_open core) core.after;
    are = λ more may. core.are more (may_come old.ahead more (asked_on old.ahead asked));
    is_ahead = none;
    rest_is = λ more. none_left core more;
    counts_are = core.counts_are;
  }

  module _ (judging : old.phase ≡ phase.Judging) (fed_same : fed cursor.reader ≡ fed old.after.reader) (ended_same : cursor.ended ≡ old.after.ended)
      (outputs : List Output) (one : length outputs ≡ 1) where
    same_room : (w : Lookahead) → kind.room (with_after w) ≡ kind.room old
    same_room w = ap (λ (n : ℕ). (2 ^ 63 - fed old.before.reader) + (2 ^ 63 - n) + not_yet old.before.ended + not_yet cursor.ended) fed_same
        ∙ ap (λ (b : Bool). (2 ^ 63 - fed old.before.reader) + (2 ^ 63 - fed old.after.reader) + not_yet old.before.ended + not_yet b) ended_same

    pub looks_held : NextOf old.after cursor (next.Record None) → Takes kind old (with_after ahead.Held) outputs outputs
    looks_held of = takes_still old (with_after ahead.Held) outputs one judging judging (omega (arith, of.0, of.1, ap ahead_left asked)) (same_room ahead.Held)
        (core_came ahead.Held of.3.0 of.2 of.3.1 (λ is. is) (λ rest none. (of.3.0, ap (λ (r : List Taken). r ++ of.3.0 ∷ []) none, of.3.2)))

    pub looks_unfit : (why : Reason) → NextOf old.after cursor (next.Record (Some why)) → Takes kind old (with_after ahead.Unfit) outputs outputs
    looks_unfit why of = takes_still old (with_after ahead.Unfit) outputs one judging judging (omega (arith, of.0, of.1, ap ahead_left asked)) (same_room ahead.Unfit)
        (core_came ahead.Unfit of.3.0 of.2 of.3.1 (λ is. is) (λ rest none. (of.3.0, ap (λ (r : List Taken). r ++ of.3.0 ∷ []) none, (why, of.3.2))))

    pub looks_past : (how : End) → NextOf old.after cursor (next.Over how) → Takes kind old (with_after ahead.Over) outputs outputs
    looks_past how of = takes_still old (with_after ahead.Over) outputs one judging judging (omega (arith, of.2, ap ahead_left asked)) (same_room ahead.Over)
        (core_past (λ more. of.1 (sym of.0 ∙ more)) of.3)

    -- more octets are needed
    pub looks_short : stage.Standing kind old → NextOf old.after cursor next.More → stage.Waits kind old (with_after old.ahead) outputs outputs 1
    looks_short standing of = waits_on old (with_after old.ahead) outputs 1 judging judging (same_room old.ahead) (omega arith) standing
        (λ begun seen fates core. record { judging = judging; side = inr (refl, of.1 ∙ after_open core, of.0, asked) })
        (λ begun seen fates core. record {
          xs = core.xs;
          ys = core.ys;
          rest = core.rest;
          seat = core.seat;
          before = core.before;
          after = of.3 (seen.fed 1) (seen.ended 1) core.ys (after_open core) core.after;
          are = core.are;
          is_ahead = subst (λ (e : End). IsAhead old.ahead e) (sym of.1) core.is_ahead;
          rest_is = λ more. subst (λ (w : Lookahead). RestIs w cursor.packet.items core.rest) (sym asked) (none_left core more);
          counts_are = core.counts_are;
        })
        (λ begun seen fates core. (at_reader (seen.fed 1) (seen.ended 1) old.after core.ys (after_open core) core.after).0)

-- ---- what comes next of BEFORE

module _ (old : Comparison) (cursor : Cursor) (known : old.ahead ≡ ahead.Asked → ⊥) (more_comes : old.before.end ≡ end.Open) where
  abbrev with_before : Comparison
  with_before = record { seat = old.seat; before = cursor; after = old.after; ahead = old.ahead; counts = old.counts; phase = old.phase }

  -- the two packets that are held
  module _ (x t : Taken) (holds : HoldsPacket x cursor.packet.items) (held : HoldsPacket t old.after.packet.items) where
    came_held : IsLegal with_before → CameFrom (place_of old.seat) x t
    came_held legal = record { sent = cursor.packet.items; came = old.after.packet.items; holds_sent = holds; holds_came = held; legal = legal }

    held_came : CameFrom (place_of old.seat) x t → IsLegal with_before
    held_came came =
        let first : came.sent ≡ cursor.packet.items = one_packet x came.sent cursor.packet.items came.holds_sent.framed holds.framed in
        let second : came.came ≡ old.after.packet.items = one_packet t came.came old.after.packet.items came.holds_came.framed held.framed in
        let P : List ℕ → List ℕ → Type 0 = λ p q. IsSentAs old.seat.domain.now old.seat.node.0 (end_of (slice_get (links old.seat.domain.now) old.seat.link.0)) p q in
        subst (λ q. P cursor.packet.items q) second (subst (λ p. P p came.came) first came.legal)

  -- the next packet of AFTER, if the packet that is held of BEFORE is gone, or is sent on
  module _ (x : Taken) (holds : HoldsPacket x cursor.packet.items) (rest : List Taken) where
    not_next : (w : Lookahead) → RestIs w old.after.packet.items rest → (w ≡ ahead.Asked → ⊥) → (w ≡ ahead.Held → IsLegal with_before → ⊥)
        → (more : List Taken) → MayCome w more → IsNotNext HasReason IsFit (CameFrom (place_of old.seat)) x (rest ++ more)
    not_next ahead.Asked is known never more may = absurd (known refl)
    not_next ahead.Held is known never more may =
        subst (λ r. IsNotNext HasReason IsFit (CameFrom (place_of old.seat)) x (r ++ more)) (sym is.1) (λ came. never refl (held_came x is.0 holds is.2 came))
    not_next ahead.Unfit is known never more may =
        subst (λ r. IsNotNext HasReason IsFit (CameFrom (place_of old.seat)) x (r ++ more)) (sym is.1) (λ came. reason_apart is.0 is.2.0 came.came is.2.1 came.holds_came)
    not_next ahead.Over is known never more may =
        subst (λ r. IsNotNext HasReason IsFit (CameFrom (place_of old.seat)) x (r ++ more)) (sym is)
        (subst (λ m. IsNotNext HasReason IsFit (CameFrom (place_of old.seat)) x m) (sym may) tt)

    the_next : (w : Lookahead) → w ≡ ahead.Held → RestIs w old.after.packet.items rest → IsLegal with_before
        → (t : Taken) × (rest ≡ t ∷ []) × CameFrom (place_of old.seat) x t
    the_next ahead.Asked held is legal = absurd (cc held)
    the_next ahead.Held held is legal = (is.0, is.1, came_held x is.0 holds is.2 legal)
    the_next ahead.Unfit held is legal = absurd (cc held)
    the_next ahead.Over held is legal = absurd (cc held)

  -- a record, and what becomes of it
  module _ (why : Option Reason) (of : NextOf old.before cursor (next.Record why)) (begun : Comparison) (seen : Seen) (fates : List Fate) (core : Core begun seen fates old) where
    abbrev it : Taken
    it = of.3.0

    pub number_is_so : cursor.taken ≡ 1 + length fates
    number_is_so = omega (arith, of.0, core.before.count_is, fates_many HasReason IsFit (CameFrom (place_of old.seat)) 1 core.xs core.ys fates core.rest (core_are begun seen fates old core))

    -- there is room to count it
    pub room_so : old.counts.sent + old.counts.gone + old.counts.skipped < 16777216
    room_so = omega (
      arith,
      of.1,
      core.before.count_is,
      fates_many HasReason IsFit (CameFrom (place_of old.seat)) 1 core.xs core.ys fates core.rest (core_are begun seen fates old core),
      sums_all fates,
      ap (λ (s : Sums). s.sent + s.gone + s.skipped) core.counts_are,
    )

    pub holds_so : why ≡ None → HoldsPacket it cursor.packet.items
    holds_so none = subst (λ w. IsHeld it cursor.packet.items w) none of.3.2

    sent_next : old.counts.sent + 1 ≡ numbers_behind 1 fates
    sent_next = omega (arith, number_is 1 fates, sums_sent fates, ap (λ (s : Sums). s.sent) core.counts_are)

    push : (fate : Fate) (more : List Taken) → MayCome old.ahead more → IsFate HasReason IsFit (CameFrom (place_of old.seat)) (numbers_behind 1 fates) it (core.rest ++ more) fate
        → BecomeOf (place_of old.seat) (core.xs ++ it ∷ []) (core.ys ++ more) (fates ++ fate ∷ []) (left_behind fate (core.rest ++ more))
    push fate more may is = fates_push HasReason IsFit (CameFrom (place_of old.seat)) 1 core.xs (core.ys ++ more) fates (core.rest ++ more) it fate (core.are more may) is

    counts_push : (fate : Fate) → with_fate fate (sums_as old.counts) ≡ sums_of (fates ++ fate ∷ [])
    counts_push fate = ap (with_fate fate) core.counts_are ∙ sym (sums_push fates fate)

    before_on : At (seen.fed 0) (seen.ended 0) cursor (core.xs ++ it ∷ [])
    before_on = of.3.1 (seen.fed 0) (seen.ended 0) core.xs more_comes core.before

    its_rest : RestIs old.ahead old.after.packet.items core.rest
    its_rest = core.rest_is more_comes

    pub core_put : (fate : Fate) → FateOf with_before why fate → Core begun seen (fates ++ fate ∷ []) (behind fate with_before)
    core_put (Skipped reason) is = record {
      xs = core.xs ++ it ∷ [];
      ys = core.ys;
      rest = core.rest;
      seat = core.seat;
      before = before_on;
      after = core.after;
      are = λ more may. push (Skipped reason) more may (subst (λ w. IsHeld it cursor.packet.items w) is of.3.2);
      is_ahead = core.is_ahead;
      rest_is = λ more. its_rest;
      counts_are = counts_push (Skipped reason);
    }
    core_put Gone is = record {
      xs = core.xs ++ it ∷ [];
      ys = core.ys;
      rest = core.rest;
      seat = core.seat;
      before = before_on;
      after = core.after;
      are = λ more may. push Gone more may (
        (cursor.packet.items, holds_so is.0),
        not_next it (holds_so is.0) core.rest old.ahead its_rest known is.1 more may,
      );
      is_ahead = core.is_ahead;
      rest_is = λ more. its_rest;
      counts_are = counts_push Gone;
    }
    core_put (Sent m) is =
        let (t, only, came) = the_next it (holds_so is.0) core.rest old.ahead is.1 its_rest is.2 in
        record {
          xs = core.xs ++ it ∷ [];
          ys = core.ys;
          rest = [];
          seat = core.seat;
          before = before_on;
          after = core.after;
          are = λ more may.
              subst (λ r. BecomeOf (place_of old.seat) (core.xs ++ it ∷ []) (core.ys ++ more) (fates ++ Sent m ∷ []) (left_behind (Sent m) (r ++ more))) only
              (push (Sent m) more (may_come old.ahead more (held_on old.ahead is.1))
              (is.3 ∙ sent_next, subst (λ r. IsNext HasReason IsFit (CameFrom (place_of old.seat)) it (r ++ more)) (sym only) came));
          is_ahead = subst (λ (w : Lookahead). IsAhead w old.after.end) is.1 core.is_ahead;
          rest_is = λ more. refl;
          counts_are = counts_push (Sent m);
        }

  module _ (judging : old.phase ≡ phase.Judging) (fed_same : fed cursor.reader ≡ fed old.before.reader) (ended_same : cursor.ended ≡ old.before.ended) where
    same_room_before : kind.room with_before ≡ kind.room old
    same_room_before = ap (λ (n : ℕ). (2 ^ 63 - n) + (2 ^ 63 - fed old.after.reader) + not_yet cursor.ended + not_yet old.after.ended) fed_same
        ∙ ap (λ (b : Bool). (2 ^ 63 - fed old.before.reader) + (2 ^ 63 - fed old.after.reader) + not_yet b + not_yet old.after.ended) ended_same

    -- the measure falls, whatever becomes of it
    falls : (why : Option Reason) (fate : Fate) → NextOf old.before cursor (next.Record why) → FateOf with_before why fate → kind.held (behind fate with_before) < kind.held old
    falls why (Sent m) of is = omega (arith, of.0, of.1, ap end_left of.2, ap ahead_left is.1)
    falls why Gone of is = omega (arith, of.0, of.1, ap end_left of.2)
    falls why (Skipped reason) of is = omega (arith, of.0, of.1, ap end_left of.2)

    room_behind : (fate : Fate) → kind.room (behind fate with_before) ≡ kind.room old
    room_behind (Sent m) = same_room_before
    room_behind Gone = same_room_before
    room_behind (Skipped why) = same_room_before

    still_judging : (fate : Fate) → (behind fate with_before).phase ≡ phase.Judging
    still_judging (Sent m) = judging
    still_judging Gone = judging
    still_judging (Skipped why) = judging

    -- its line is said
    pub judges : (why : Option Reason) (fate : Fate) (now : Comparison) (outputs : List Output) (d after : Output) → length outputs ≡ 1 → now ≡ behind fate with_before
        → NextOf old.before cursor (next.Record why) → FateOf with_before why fate
        → after.slot ≡ (get_or outputs 0 d).slot → after.gathered.items ≡ (get_or outputs 0 d).gathered.items ++ line_of cursor.taken fate → Takes kind old now outputs (set outputs 0 after)
    judges why fate now outputs d after one same of is slot gathered = subst (λ (s : Comparison). Takes kind old s outputs (set outputs 0 after)) (sym same)
        (takes_on old (behind fate with_before) outputs (set outputs 0 after) (line_of cursor.taken fate) judging (still_judging fate)
        (falls why fate of is) (room_behind fate) (Adds-one outputs d after (line_of cursor.taken fate) one slot gathered)
        (λ begun seen fates core. (
          fates ++ fate ∷ [],
          core_put why of begun seen fates core fate is,
          lines_push 1 fates fate ∙ ap (λ (n : ℕ). lines_of 1 fates ++ line_of n fate) (sym (number_is_so why of begun seen fates core)),
        )))

    pub judges_past : (how : End) (outputs : List Output) → length outputs ≡ 1 → NextOf old.before cursor (next.Over how) → Takes kind old with_before outputs outputs
    judges_past how outputs one of = takes_still old with_before outputs one judging judging (omega (arith, of.2, ap end_left more_comes, no_end how of.1, ap end_left of.0)) same_room_before
        (λ begun seen fates core. record {
          xs = core.xs;
          ys = core.ys;
          rest = core.rest;
          seat = core.seat;
          before = of.3 (seen.fed 0) (seen.ended 0) core.xs more_comes core.before;
          after = core.after;
          are = core.are;
          is_ahead = core.is_ahead;
          rest_is = λ more. core.rest_is more_comes;
          counts_are = core.counts_are;
        })
      where
        no_end : (e : End) → (e ≡ end.Open → ⊥) → end_left e ≡ 0
        no_end end.Open none = absurd (none refl)
        no_end end.Whole none = refl
        no_end (end.Bad at fault) none = refl
        no_end end.Limit none = refl

    pub judges_short : stage.Standing kind old → (outputs : List Output) → NextOf old.before cursor next.More → stage.Waits kind old with_before outputs outputs 0
    judges_short standing outputs of = waits_on old with_before outputs 0 judging judging same_room_before (omega arith) standing
        (λ begun seen fates core. record { judging = judging; side = inl (refl, of.1 ∙ more_comes, of.0) })
        (λ begun seen fates core. record {
          xs = core.xs;
          ys = core.ys;
          rest = core.rest;
          seat = core.seat;
          before = of.3 (seen.fed 0) (seen.ended 0) core.xs more_comes core.before;
          after = core.after;
          are = core.are;
          is_ahead = core.is_ahead;
          rest_is = λ more. core.rest_is more_comes;
          counts_are = core.counts_are;
        })
        (λ begun seen fates core. (at_reader (seen.fed 0) (seen.ended 0) old.before core.xs more_comes core.before).0)

-- ---- after BEFORE

abbrev at_ahead : Comparison → Lookahead → Comparison
at_ahead old w = record { seat = old.seat; before = old.before; after = old.after; ahead = w; counts = old.counts; phase = old.phase }

abbrev at_phase : Comparison → Phase → Comparison
at_phase old p = record { seat = old.seat; before = old.before; after = old.after; ahead = old.ahead; counts = old.counts; phase = p }

module _ (old : Comparison) (none : old.before.end ≡ end.Open → ⊥) (judging : old.phase ≡ phase.Judging) (outputs : List Output) (one : length outputs ≡ 1) where
  -- one more of AFTER is left
  pub passes : (old.ahead ≡ ahead.Asked → ⊥) → (old.ahead ≡ ahead.Over → ⊥) → Takes kind old (at_ahead old ahead.Asked) outputs outputs
  passes known more_comes = takes_still old (at_ahead old ahead.Asked) outputs one judging judging (omega (arith, two old.ahead known more_comes)) refl
      (λ begun seen fates core. record {
        xs = core.xs;
        ys = core.ys;
        rest = core.rest;
        seat = core.seat;
        before = core.before;
        after = core.after;
        are = λ more may. core.are more (may_come old.ahead more more_comes);
        is_ahead = still old.ahead known more_comes core.is_ahead;
        rest_is = λ so. absurd (none so);
        counts_are = core.counts_are;
      })
    where
      two : (w : Lookahead) → (w ≡ ahead.Asked → ⊥) → (w ≡ ahead.Over → ⊥) → ahead_left w ≡ 2
      two ahead.Asked known on = absurd (known refl)
      two ahead.Held known on = refl
      two ahead.Unfit known on = refl
      two ahead.Over known on = absurd (on refl)

      still : (w : Lookahead) → (w ≡ ahead.Asked → ⊥) → (w ≡ ahead.Over → ⊥) → IsAhead w old.after.end → old.after.end ≡ end.Open
      still ahead.Asked known on is = absurd (known refl)
      still ahead.Held known on is = is
      still ahead.Unfit known on is = is
      still ahead.Over known on is = absurd (on refl)

  -- none is
  pub turns : old.ahead ≡ ahead.Over → Takes kind old (at_phase old phase.Closing) outputs outputs
  turns over = record {
    held = omega (arith, ap phase_left judging);
    room = refl;
    added = [] ∷ [];
    adds = Adds-none outputs one;
    stands = λ begun seen so_far stands. record {
      fates = stands.fates;
      core = record {
        xs = stands.core.xs;
        ys = stands.core.ys;
        rest = stands.core.rest;
        seat = stands.core.seat;
        before = stands.core.before;
        after = stands.core.after;
        are = stands.core.are;
        is_ahead = stands.core.is_ahead;
        rest_is = stands.core.rest_is;
        counts_are = stands.core.counts_are;
      };
      said = ap (λ (so : List (List ℕ)). said_more so ([] ∷ [])) (stands.said ∙ ap (λ (p : Phase). (lines_of 1 stands.fates ++ tail_in p (said_behind old)) ∷ []) judging)
          ∙ ap (λ (xs : List ℕ). xs ∷ []) (append-nil (lines_of 1 stands.fates ++ []));
      in_phase = inl (
        uncut old.phase seen old stands.core.xs stands.core.ys judging stands.in_phase,
        none,
        subst (λ (w : Lookahead). IsAhead w old.after.end) over stands.core.is_ahead,
      );
    };
  }

-- ---- the sums

module _ (begun : Comparison) (seen : Seen) (fates : List Fate) (now : Comparison) (core : Core begun seen fates now) where
  pub counts_few : now.counts.sent + now.counts.gone + now.counts.skipped < 2 ^ 32
  counts_few = omega (
    arith,
    ap (λ (s : Sums). s.sent + s.gone + s.skipped) core.counts_are,
    sums_all fates,
    fates_many HasReason IsFit (CameFrom (place_of now.seat)) 1 core.xs core.ys fates core.rest (core_are begun seen fates now core),
    core.before.few,
  )

  pub after_size : now.after.taken ≡ now.counts.sent + length core.rest
  after_size = omega (
    arith,
    core.after.count_is,
    ap (λ (s : Sums). s.sent) core.counts_are,
    sums_sent fates,
    fates_size HasReason IsFit (CameFrom (place_of now.seat)) 1 core.xs core.ys fates core.rest (core_are begun seen fates now core),
  )

-- they are said
pub closes : (old : Comparison) (outputs : List Output) (d after : Output) (verdict : Option (Option ℕ)) → length outputs ≡ 1 → old.phase ≡ phase.Closing
    → after.slot ≡ (get_or outputs 0 d).slot → verdict ≡ verdict_by old.counts old.after.taken old.before.end old.after.end
    → after.gathered.items ≡ (get_or outputs 0 d).gathered.items ++ behind_of old.counts verdict → Takes kind old (at_phase old phase.Closed) outputs (set outputs 0 after)
closes old outputs d after verdict one closing slot is gathered = record {
  held = omega (arith, ap phase_left closing);
  room = refl;
  added = said_behind old ∷ [];
  adds = Adds-one outputs d after (said_behind old) one slot (gathered ∙ ap (λ (v : Option (Option ℕ)). (get_or outputs 0 d).gathered.items ++ behind_of old.counts v) is);
  stands = λ begun seen so_far stands. record {
    fates = stands.fates;
    core = record {
      xs = stands.core.xs;
      ys = stands.core.ys;
      rest = stands.core.rest;
      seat = stands.core.seat;
      before = stands.core.before;
      after = stands.core.after;
      are = stands.core.are;
      is_ahead = stands.core.is_ahead;
      rest_is = stands.core.rest_is;
      counts_are = stands.core.counts_are;
    };
    said = ap (λ (so : List (List ℕ)). said_more so (said_behind old ∷ [])) (stands.said ∙ ap (λ (p : Phase). (lines_of 1 stands.fates ++ tail_in p (said_behind old)) ∷ []) closing)
        ∙ ap (λ (xs : List ℕ). (xs ++ said_behind old) ∷ []) (append-nil (lines_of 1 stands.fates));
    in_phase = subst (λ (p : Phase). InPhase p seen old stands.core.xs stands.core.ys) closing stands.in_phase;
  };
}

-- all is said
pub all_said : (old : Comparison) (outputs : List Output) → old.phase ≡ phase.Closed → Ends kind old old outputs outputs
all_said old outputs closed = record {
  same = refl;
  room = refl;
  stands = λ begun seen so_far stands. stands;
  drained = drained;
  whole = λ begun seen so_far contents stands cut covers. record { seen = seen; holds = (cut, covers); stands = stands; closed = closed };
  cut = λ begun seen so_far stands cut. (record { seen = seen; holds = (cut, λ i. refl); stands = stands; closed = closed }, (stands.core.before.ended_is, stands.core.after.ended_is));
}
  where
    ended_at : (octets : List ℕ) (over : Bool) (cursor : Cursor) (taken : List Taken) → cursor.end ≡ end.Whole → At octets over cursor taken → IsTrue over
    ended_at octets over cursor taken whole at = elim (at_over octets over cursor taken (λ more. not_both (sym whole ∙ more)) at) [
      | inl done ↦ done.0
      | inr other ↦ absurd (other.0 whole)
    ]
      where
        not_both : end.Whole ≡ end.Open → ⊥
        not_both same = cc

    drained : (begun : Comparison) (seen : Seen) (so_far : List (List ℕ)) → Stands begun seen so_far old → seen.cut ≡ false → kind.drains old → (i : ℕ) → i < 2 → IsTrue (seen.ended i)
    drained begun seen so_far stands cut drains zero inside = ended_at (seen.fed 0) (seen.ended 0) old.before stands.core.xs drains.0 stands.core.before
    drained begun seen so_far stands cut drains (suc zero) inside = ended_at (seen.fed 1) (seen.ended 1) old.after stands.core.ys drains.1 stands.core.after
    drained begun seen so_far stands cut drains (suc (suc i)) inside = absurd (omega (arith, inside))

-- ---- pieces

pub zero_or_one : (now : Comparison) (input : ℕ) → IsShort now input → (input ≡ 0 → ⊥) → input ≡ 1
zero_or_one now input short other = elim short.side [
  | inl first ↦ absurd (other first.0)
  | inr second ↦ second.0
]

short_before : (now : Comparison) (input : ℕ) → IsShort now input → input ≡ 0 → (now.before.end ≡ end.Open) × Waits now.before.reader
short_before now input short is = elim short.side [
  | inl first ↦ (first.1, first.2)
  | inr second ↦ absurd (omega (arith, is, second.0))
]

short_after : (now : Comparison) (input : ℕ) → IsShort now input → (input ≡ 0 → ⊥) → (now.after.end ≡ end.Open) × Waits now.after.reader × (now.ahead ≡ ahead.Asked)
short_after now input short other = elim short.side [
  | inl first ↦ absurd (other first.0)
  | inr second ↦ (second.1, second.2, second.3)
]

-- what is said stays so
stands_on : (old new : Comparison) (seen now : Seen) → old.phase ≡ phase.Judging → new.phase ≡ phase.Judging → now.cut ≡ seen.cut
    → ((begun : Comparison) (fates : List Fate) → Core begun seen fates old → Core begun now fates new)
    → (begun : Comparison) (so_far : List (List ℕ)) → Stands begun seen so_far old → Stands begun now so_far new
stands_on old new seen now was is cut cores begun so_far stands =
    let next = cores begun stands.fates stands.core in
    record {
      fates = stands.fates;
      core = next;
      said = stands.said ∙ said_same (lines_of 1 stands.fates) old.phase new.phase (said_behind old) (said_behind new) was is;
      in_phase = subst (λ (p : Phase). InPhase p now new next.xs next.ys) (sym is) (cut ∙ uncut old.phase seen old stands.core.xs stands.core.ys was stands.in_phase);
    }

at_of : (octets others : List ℕ) (ended over : Bool) (cursor : Cursor) (taken : List Taken) → others ≡ octets → over ≡ ended → At octets ended cursor taken → At others over cursor taken
at_of octets others ended over cursor taken same so at =
    subst (λ (b : Bool). At others b cursor taken) (sym so) (subst (λ (xs : List ℕ). At xs ended cursor taken) (sym same) at)

one_other : ◌≡◌ {A = ℕ} 1 0 → ⊥
one_other is = absurd (omega (arith, is))

-- room for another piece
pub room_before : (now : Comparison) (input : ℕ) → stage.Standing kind now → IsShort now input → input ≡ 0 → fed now.before.reader + 65536 < 2 ^ 63
room_before now input standing short is =
    let more = short_before now input short is in
    let core = standing.stands.core in
    at_room (standing.seen.fed 0) (standing.seen.ended 0) now.before core.xs more.0 more.1 core.before

pub room_after : (now : Comparison) (input : ℕ) → stage.Standing kind now → IsShort now input → (input ≡ 0 → ⊥) → fed now.after.reader + 65536 < 2 ^ 63
room_after now input standing short other =
    let more = short_after now input short other in
    let core = standing.stands.core in
    at_room (standing.seen.fed 1) (standing.seen.ended 1) now.after core.ys more.0 more.1 core.after

module _ (old : Comparison) (input : ℕ) (short : IsShort old input) (standing : stage.Standing kind old) (cursor : Cursor) where
  -- BEFORE
  module _ (is : input ≡ 0) where
    abbrev on_before : Comparison
    on_before = record { seat = old.seat; before = cursor; after = old.after; ahead = old.ahead; counts = old.counts; phase = old.phase }

    more_before : old.before.end ≡ end.Open
    more_before = (short_before old input short is).0

    unended_before : old.before.ended ≡ false
    unended_before =
        let core = standing.stands.core in
        sym core.before.ended_is ∙ (at_reader (standing.seen.fed 0) (standing.seen.ended 0) old.before core.xs more_before core.before).0

    pub feeds_before : (piece : List ℕ) → 0 < length piece → fed old.before.reader + 65536 < 2 ^ 63 → length piece ≤ 65536 → cursors.IsFed old.before cursor piece
        → Feeds kind (IsFed input piece) old on_before
    feeds_before piece some room few feeds = record {
      room = omega (arith, some, room, few, feeds.fed, ap not_yet feeds.ended);
      stands = λ begun seen now so_far fed_now. stands_on old on_before seen now short.judging short.judging fed_now.cut
          (λ begun fates core. record {
            xs = core.xs;
            ys = core.ys;
            rest = core.rest;
            seat = core.seat;
            before = at_of (seen.fed 0 ++ piece) (now.fed 0) (seen.ended 0) (now.ended 0) cursor core.xs
                (subst (λ (k : ℕ). now.fed k ≡ seen.fed k ++ piece) is fed_now.fed) (fed_now.ended 0) (feeds.stands (seen.fed 0) (seen.ended 0) core.xs more_before core.before);
            after = at_of (seen.fed 1) (now.fed 1) (seen.ended 1) (now.ended 1) old.after core.ys (fed_now.others 1 (λ same. one_other (same ∙ is))) (fed_now.ended 1) core.after;
            are = core.are;
            is_ahead = core.is_ahead;
            rest_is = λ more. core.rest_is more_before;
            counts_are = core.counts_are;
          }) begun so_far;
    }

    pub ends_before : HasEnded old.before cursor → Feeds kind (IsEnded input) old on_before
    ends_before done = record {
      room = omega (arith, ap (λ (r : Reading). fed r) done.reader, ap not_yet done.ended, ap not_yet unended_before);
      stands = λ begun seen now so_far over. stands_on old on_before seen now short.judging short.judging over.cut
          (λ begun fates core. record {
            xs = core.xs;
            ys = core.ys;
            rest = core.rest;
            seat = core.seat;
            before = at_of (seen.fed 0) (now.fed 0) true (now.ended 0) cursor core.xs (over.fed 0) (subst (λ (k : ℕ). now.ended k ≡ true) is over.ended)
                (done.stands (seen.fed 0) (seen.ended 0) core.xs more_before core.before);
            after = at_of (seen.fed 1) (now.fed 1) (seen.ended 1) (now.ended 1) old.after core.ys (over.fed 1) (over.others 1 (λ same. one_other (same ∙ is))) core.after;
            are = core.are;
            is_ahead = core.is_ahead;
            rest_is = λ more. absurd (done.over more);
            counts_are = core.counts_are;
          }) begun so_far;
    }

  -- AFTER
  module _ (other : input ≡ 0 → ⊥) where
    abbrev on_after : Lookahead → Comparison
    on_after w = record { seat = old.seat; before = old.before; after = cursor; ahead = w; counts = old.counts; phase = old.phase }

    more_after : old.after.end ≡ end.Open
    more_after = (short_after old input short other).0

    asked_after : old.ahead ≡ ahead.Asked
    asked_after = (short_after old input short other).2

    is_one : input ≡ 1
    is_one = zero_or_one old input short other

    unended_after : old.after.ended ≡ false
    unended_after =
        let core = standing.stands.core in
        sym core.after.ended_is ∙ (at_reader (standing.seen.fed 1) (standing.seen.ended 1) old.after core.ys more_after core.after).0

    pub feeds_after : (piece : List ℕ) → 0 < length piece → fed old.after.reader + 65536 < 2 ^ 63 → length piece ≤ 65536 → cursors.IsFed old.after cursor piece
        → Feeds kind (IsFed input piece) old (on_after old.ahead)
    feeds_after piece some room few feeds = record {
      room = omega (arith, some, room, few, feeds.fed, ap not_yet feeds.ended);
      stands = λ begun seen now so_far fed_now. stands_on old (on_after old.ahead) seen now short.judging short.judging fed_now.cut
          (λ begun fates core. record {
            xs = core.xs;
            ys = core.ys;
            rest = core.rest;
            seat = core.seat;
            before = at_of (seen.fed 0) (now.fed 0) (seen.ended 0) (now.ended 0) old.before core.xs (fed_now.others 0 (λ same. other (sym same))) (fed_now.ended 0) core.before;
            after = at_of (seen.fed 1 ++ piece) (now.fed 1) (seen.ended 1) (now.ended 1) cursor core.ys
                (subst (λ (k : ℕ). now.fed k ≡ seen.fed k ++ piece) is_one fed_now.fed) (fed_now.ended 1) (feeds.stands (seen.fed 1) (seen.ended 1) core.ys more_after core.after);
            are = core.are;
            is_ahead = subst (λ (e : End). IsAhead old.ahead e) (sym feeds.still) core.is_ahead;
            rest_is = λ more. subst (λ (w : Lookahead). RestIs w cursor.packet.items core.rest) (sym asked_after)
                (subst (λ (w : Lookahead). RestIs w old.after.packet.items core.rest) asked_after (core.rest_is more));
            counts_are = core.counts_are;
          }) begun so_far;
    }

    pub ends_after : HasEnded old.after cursor → Feeds kind (IsEnded input) old (on_after ahead.Over)
    ends_after done = record {
      room = omega (arith, ap (λ (r : Reading). fed r) done.reader, ap not_yet done.ended, ap not_yet unended_after);
      stands = λ begun seen now so_far over. stands_on old (on_after ahead.Over) seen now short.judging short.judging over.cut
          (λ begun fates core. record {
            xs = core.xs;
            ys = core.ys;
            rest = core.rest;
            seat = core.seat;
            before = at_of (seen.fed 0) (now.fed 0) (seen.ended 0) (now.ended 0) old.before core.xs (over.fed 0) (over.others 0 (λ same. other (sym same))) core.before;
            after = at_of (seen.fed 1) (now.fed 1) true (now.ended 1) cursor core.ys (over.fed 1) (subst (λ (k : ℕ). now.ended k ≡ true) is_one over.ended)
                (done.stands (seen.fed 1) (seen.ended 1) core.ys more_after core.after);
            are = λ more may. core.are more (may_come old.ahead more (asked_on old.ahead asked_after));
            is_ahead = done.over;
            rest_is = λ more. subst (λ (w : Lookahead). RestIs w old.after.packet.items core.rest) asked_after (core.rest_is more);
            counts_are = core.counts_are;
          }) begun so_far;
    }

pub open_or : (e : End) → (e ≡ end.Open) ⊎ (e ≡ end.Open → ⊥)
open_or end.Open = inl refl
open_or end.Whole = inr (λ same. cc)
open_or (end.Bad at fault) = inr (λ same. cc)
open_or end.Limit = inr (λ same. cc)

-- a read failed
pub cuts : (old : Comparison) (input : ℕ) → IsShort old input → Keeps kind IsCut old (at_phase old phase.Closing)
cuts old input short begun seen now so_far cut stands = record {
  fates = stands.fates;
  core = record {
    xs = core_is.xs;
    ys = core_is.ys;
    rest = core_is.rest;
    seat = core_is.seat;
    before = at_of (seen.fed 0) (now.fed 0) (seen.ended 0) (now.ended 0) old.before core_is.xs (cut.fed 0) (cut.ended 0) core_is.before;
    after = at_of (seen.fed 1) (now.fed 1) (seen.ended 1) (now.ended 1) old.after core_is.ys (cut.fed 1) (cut.ended 1) core_is.after;
    are = core_is.are;
    is_ahead = core_is.is_ahead;
    rest_is = core_is.rest_is;
    counts_are = core_is.counts_are;
  };
  said = stands.said ∙ ap (λ (p : Phase). (lines_of 1 stands.fates ++ tail_in p (said_behind old)) ∷ []) short.judging;
  in_phase = inr (
    cut.cut,
    stopped,
    elim short.side [
      | inl first ↦ inr (inl (subst (λ (xs : List ℕ). ShowsSo xs false core_is.xs None) (sym (cut.fed 0))
          (at_shows (seen.fed 0) (seen.ended 0) old.before core_is.xs first.1 first.2 core_is.before)))
      | inr second ↦ elim (open_or old.before.end) [
        | inl more ↦ inr (inr (
          more,
          second.3,
          subst (λ (ys : List ℕ). ShowsSo ys false core_is.ys None) (sym (cut.fed 1))
              (at_shows (seen.fed 1) (seen.ended 1) old.after core_is.ys second.1 second.2 core_is.after),
        ))
        | inr none ↦ inl none
      ]
    ],
  );
}
  where
    core_is : Core begun seen stands.fates old
    core_is = stands.core

    stopped : (old.before.end ≡ end.Open) ⊎ (old.after.end ≡ end.Open)
    stopped = elim short.side [
      | inl first ↦ inl first.1
      | inr second ↦ inr second.1
    ]

-- before all is said
pub closing_leads : (now : Comparison) → now.phase ≡ phase.Closing → stage.Leading kind now
closing_leads now is = leading now (λ closed. not_both (sym is ∙ closed))
  where
    not_both : phase.Closing ≡ phase.Closed → ⊥
    not_both same = cc

pub judging_leads : (now : Comparison) → now.phase ≡ phase.Judging → stage.Leading kind now
judging_leads now is = leading now (λ closed. not_both (sym is ∙ closed))
  where
    not_both : phase.Judging ≡ phase.Closed → ⊥
    not_both same = cc
