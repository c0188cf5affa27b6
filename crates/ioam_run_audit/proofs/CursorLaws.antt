-- A capture of which records are taken one by one.
use Rattle.std.proofs.Common.{◌≡◌, ℕ, ◌+◌, ◌^◌, ◌<◌, ◌≤◌, Bool, true, false, List, [], ◌∷◌, ◌++◌, length, None, refl, sym, ap, ◌∙◌, subst, inl, inr, arith, length-append, append_assoc}
use Rattle.std.specs.Prelude.{Result, Ok, Err, OnErr, OnOk}
use Rattle.ioam_capture.specs.Reader.{Stands, Waits, IsFed}
use Rattle.ioam_capture.specs.Reading.{Reading, fed, pending}
use Rattle.ioam_capture.specs.Reads.{Reads}
use Rattle.ioam_capture.specs.Streams.{ShowsSo}
use Rattle.ioam_capture.proofs.StandsLaws.{Stands-room, Stands-shows, Waits-few}
use Rattle.ioam_pcap.specs.Ending.{Ending, Whole, Faulty}
use Rattle.ioam_pcap.specs.Entries.{Taken}
use Rattle.ioam_run_stream.specs.Promise.{ArePassed}
use Rattle.ioam_run_stream.specs.FirstLaws.{given_first}
use Rattle.ioam_run_audit.specs.Cursors.{At, EndsBy, IsOver, KeepsAt, NextOf, StandsAt, Steps, end_of}
use Rattle.ioam_run_audit.specs.Cursors as cursors
use Rattle.ioam_run_audit.specs.declared.cursor.Cursor.{Cursor}
use Rattle.ioam_run_audit.specs.declared.cursor.End.{End}
use Rattle.ioam_run_audit.specs.declared.cursor.End.TheVariants as end
use Rattle.ioam_run_audit.specs.declared.cursor.Next.{Next}
use Rattle.ioam_run_audit.specs.declared.cursor.Next.TheVariants as next

-- more may come: the reader stands for what was handed out
pub at_reader : (octets : List ℕ) (ended : Bool) (cursor : Cursor) (taken : List Taken) → cursor.end ≡ end.Open → At octets ended cursor taken
    → (ended ≡ false) × Stands cursor.reader octets taken
at_reader octets ended cursor taken more at = subst (λ (e : End). StandsAt e octets ended cursor.reader taken) more at.stands

-- a step that kept the count, or raised it
at_open : (octets : List ℕ) (ended : Bool) (old new : Cursor) (taken now : List Taken) → new.end ≡ end.Open → new.ended ≡ old.ended → new.taken ≡ length now → length now ≤ 16777216
    → ended ≡ false → Stands new.reader octets now → At octets ended old taken → At octets ended new now
at_open octets ended old new taken now more same counted few still stands at = record {
  count_is = counted;
  few = few;
  ended_is = at.ended_is ∙ sym same;
  stands = subst (λ (e : End). StandsAt e octets ended new.reader now) (sym more) (still, stands);
}

over_stands : (how : End) (octets : List ℕ) (ended : Bool) (reader : Reading) (taken : List Taken) → (how ≡ end.Open → ⊥) → IsOver how octets ended taken
    → StandsAt how octets ended reader taken
over_stands end.Open octets ended reader taken none over = absurd (none refl)
over_stands end.Whole octets ended reader taken none over = over
over_stands (end.Bad at fault) octets ended reader taken none over = over
over_stands end.Limit octets ended reader taken none over = over

stands_over : (how : End) (octets : List ℕ) (ended : Bool) (reader : Reading) (taken : List Taken) → (how ≡ end.Open → ⊥) → StandsAt how octets ended reader taken
    → IsOver how octets ended taken
stands_over end.Open octets ended reader taken none over = absurd (none refl)
stands_over end.Whole octets ended reader taken none over = over
stands_over (end.Bad at fault) octets ended reader taken none over = over
stands_over end.Limit octets ended reader taken none over = over

-- no record is taken any more
pub at_over : (octets : List ℕ) (ended : Bool) (cursor : Cursor) (taken : List Taken) → (cursor.end ≡ end.Open → ⊥) → At octets ended cursor taken
    → IsOver cursor.end octets ended taken
at_over octets ended cursor taken none at = stands_over cursor.end octets ended cursor.reader taken none at.stands

-- a record past the limit
passed : (octets more : List ℕ) (taken : List Taken) (t : Taken) (reader : Reading) → Stands reader octets (taken ++ t ∷ []) → 16777216 ≤ length taken → length taken ≤ 16777216
    → ArePassed 16777216 taken (octets ++ more)
passed octets more taken t reader stands full few =
    let first = given_first reader octets more (taken ++ t ∷ []) stands in
    record {
      first = record {
        rest = t ∷ first.rest;
        ending = first.ending;
        reads = subst (λ ts. Reads (octets ++ more) ts first.ending) (append_assoc taken (t ∷ []) first.rest) first.reads;
      };
      all = omega (arith, full, few);
      more = omega arith;
    }

-- why a step took none
steps_over : (old new : Reading) (before after : ℕ) (held : List ℕ) (how : End) → Steps old new before after held (next.Over how)
    → (how ≡ end.Open → ⊥) × (after ≡ before) × ((octets : List ℕ) (taken : List Taken) → before ≡ length taken → length taken ≤ 16777216 → Stands old octets taken
    → (ended : Bool) → IsOver how octets ended taken)
steps_over old new before after held end.Open steps = absurd steps
steps_over old new before after held end.Whole steps = absurd steps
steps_over old new before after held (end.Bad at fault) steps = (
  (λ same. cc),
  steps.0,
  λ octets taken counted few stands ended. inr ((λ same. cc), λ more. steps.1 octets taken stands more),
)
steps_over old new before after held end.Limit steps = (
  (λ same. cc),
  steps.0,
  λ octets taken counted few stands ended. inr (
    (λ same. cc),
    λ more. passed octets more taken steps.2.0 new (steps.2.1 octets taken stands) (omega (arith, steps.1, counted)) few,
  ),
)

-- what a step did
pub next_of : (old new : Cursor) (what : Next) → Steps old.reader new.reader old.taken new.taken new.packet.items what → new.ended ≡ old.ended
    → ((how : End) → what ≡ next.Over how → new.end ≡ how) → (((how : End) → what ≡ next.Over how → ⊥) → new.end ≡ old.end) → NextOf old new what
next_of old new next.More steps same over still =
    let is : new.end ≡ old.end = still (λ how is. cc) in (
      steps.1,
      is,
      steps.0,
      λ octets ended taken more at.
          let was = at_reader octets ended old taken more at in
          at_open octets ended old new taken taken (is ∙ more) same (steps.0 ∙ at.count_is) at.few was.0 (steps.2 octets taken was.1) at,
    )
next_of old new (next.Record why) steps same over still =
    let is : new.end ≡ old.end = still (λ how is. cc) in (
      steps.1,
      steps.0,
      is,
      (
        steps.2.0,
        (λ octets ended taken more at.
            let was = at_reader octets ended old taken more at in
            let size : length (taken ++ steps.2.0 ∷ []) ≡ length taken + 1 = length-append taken (steps.2.0 ∷ []) in
            at_open octets ended old new taken (taken ++ steps.2.0 ∷ []) (is ∙ more) same (omega (arith, steps.1, at.count_is, size)) (omega (arith, steps.0, at.count_is, size))
            was.0 (steps.2.1 octets taken was.1) at),
        steps.2.2,
      ),
    )
next_of old new (next.Over how) steps same over still =
    let is : new.end ≡ how = over how refl in
    let why = steps_over old.reader new.reader old.taken new.taken new.packet.items how steps in (
      is,
      why.0,
      why.1,
      λ octets ended taken more at.
          let was = at_reader octets ended old taken more at in
          record {
            count_is = why.1 ∙ at.count_is;
            few = at.few;
            ended_is = at.ended_is ∙ sym same;
            stands = subst (λ (e : End). StandsAt e octets ended new.reader taken) (sym is)
                (over_stands how octets ended new.reader taken why.0 (why.2 octets taken at.count_is at.few was.1 ended));
          },
    )

-- a piece was fed
pub fed_of : (old new : Cursor) (piece : List ℕ) → new.ended ≡ old.ended → new.end ≡ old.end → new.packet ≡ old.packet → new.taken ≡ old.taken
    → IsFed old.reader piece new.reader → ((octets : List ℕ) (taken : List Taken) → Stands old.reader octets taken → Stands new.reader (octets ++ piece) taken)
    → cursors.IsFed old new piece
fed_of old new piece ended is packet taken feeds stands = record {
  fed = omega (arith, ap length feeds.0, length-append (pending old.reader) piece, feeds.1);
  ended = ended;
  still = is;
  packet = packet;
  taken = taken;
  stands = λ octets over given more at.
      let was = at_reader octets over old given more at in
      record {
        count_is = taken ∙ at.count_is;
        few = at.few;
        ended_is = at.ended_is ∙ sym ended;
        stands = subst (λ (e : End). StandsAt e (octets ++ piece) over new.reader given) (sym (is ∙ more)) (was.0, stands octets given was.1);
      };
}

ends_by : (ending : Ending) (taken : List Taken) (octets : List ℕ) → Reads octets taken ending → (end_of ending ≡ end.Open → ⊥) × EndsBy (end_of ending) taken octets
ends_by Whole taken octets reads = ((λ same. cc), reads)
ends_by (Faulty at fault) taken octets reads = ((λ same. cc), reads)

not_open : (ending : Ending) → end_of ending ≡ end.Open → ⊥
not_open Whole same = cc
not_open (Faulty at fault) same = cc

-- the input has ended
pub ended_of : (old new : Cursor) (ending : Ending) → new.ended ≡ true → new.end ≡ end_of ending → new.reader ≡ old.reader → new.packet ≡ old.packet → new.taken ≡ old.taken
    → Waits old.reader → ((octets : List ℕ) (taken : List Taken) → Stands old.reader octets taken → Reads octets taken ending) → cursors.HasEnded old new
ended_of old new ending ended is reader packet taken waits reads = record {
  ended = ended;
  over = λ more. not_open ending (sym is ∙ more);
  reader = reader;
  packet = packet;
  taken = taken;
  stands = λ octets over given more at.
      let was = at_reader octets over old given more at in
      let by = ends_by ending given octets (reads octets given was.1) in
      record {
        count_is = taken ∙ at.count_is;
        few = at.few;
        ended_is = sym ended;
        stands = subst (λ (e : End). StandsAt e octets true new.reader given) (sym is)
            (over_stands (end_of ending) octets true new.reader given by.0 (inl (refl, by.1, Stands-shows old.reader octets given was.1 waits)));
      };
}

-- there is room for another piece
pub at_room : (octets : List ℕ) (ended : Bool) (cursor : Cursor) (taken : List Taken) → cursor.end ≡ end.Open → Waits cursor.reader → At octets ended cursor taken
    → fed cursor.reader + 65536 < 2 ^ 63
at_room octets ended cursor taken more waits at =
    Stands-room cursor.reader octets taken (at_reader octets ended cursor taken more at).1 at.few (Waits-few cursor.reader waits)

-- all that was handed out whole is taken
pub at_shows : (octets : List ℕ) (ended : Bool) (cursor : Cursor) (taken : List Taken) → cursor.end ≡ end.Open → Waits cursor.reader → At octets ended cursor taken
    → ShowsSo octets false taken None
at_shows octets ended cursor taken more waits at = Stands-shows cursor.reader octets taken (at_reader octets ended cursor taken more at).1 waits

pub one_end : (a b : End) → next.Over a ≡ next.Over b → a ≡ b
one_end a b same = cc

pub on_ok_two : {A E P Q R : Type 0} (result : Result A E) → (P → Q → R) → OnOk result P → OnOk result Q → OnOk result R
on_ok_two (Ok value) f p q = f p q
on_ok_two (Err fault) f p q = tt

pub on_err : {T E : Type 0} (r : Result T E) (P : Type 0) → P → OnErr r P
on_err (Ok x) P p = tt
on_err (Err e) P p = p
