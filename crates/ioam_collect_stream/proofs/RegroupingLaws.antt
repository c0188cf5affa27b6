-- How records are read and regrouped, and what is said of them.
use Rattle.std.proofs.Common.{◌≡◌, ℕ, ◌+◌, ◌-◌, ◌^◌, ◌<◌, ◌≤◌, suc, List, [], ◌∷◌, ◌++◌, length, get_or, set, refl, sym, ap, ◌∙◌, subst, length-append, append-nil, append_assoc, arith, Option, Some, None, MatchOption}
use Rattle.std.specs.Borrow.{MutBor}
use Rattle.std.proofs.lemmas.List.Elements.{All-nil, All-cons}
use Rattle.ioam_collect.specs.Collected as collected
use Rattle.ioam_collect.specs.Collected.{Collected}
use Rattle.ioam_collect_stream.specs.Gathering.{AreFew, Gathers, Shows}
use Rattle.ioam_collect_stream.specs.Regrouping.{AreFirst, AreOf, HasStopped, IsEnd, IsSaying, IsUnsaid, by_option, does}
use Rattle.ioam_collect_stream.specs.Report.{Begins, Puts, PutsPart}
use Rattle.ioam_collect_stream.specs.declared.regrouping.Regrouping.{Regrouping}
use Rattle.ioam_collect_stream.specs.declared.regrouping.Cause.{Cause}
use Rattle.ioam_collect_stream.specs.declared.regrouping.Cause.TheVariants as cause
use Rattle.ioam_collect_stream.specs.declared.step.Limit.{Limit}
use Rattle.ioam_collect_stream.specs.declared.step.Pause.TheVariants as pause
use Rattle.ioam_collect_stream.proofs.GatheringLaws.{Waits-few, start_few}
use Rattle.ioam_desk_outputs.specs.Told.{Adds, GathersFew, GathersNothing, said_more}
use Rattle.ioam_desk_outputs.specs.declared.output.Output.{Output}
use Rattle.ioam_desk_outputs.proofs.ToldLaws.{Adds-few}
use Rattle.ioam_dex.specs.Record.{Record}
use Rattle.ioam_dex.specs.Reading.{Reading}
use Rattle.ioam_dex.specs.Reader.{Stands, Waits, fed}
use Rattle.ioam_dex.specs.declared.export.ExportFault.{ExportFault}
use Rattle.ioam_dex.proofs.ReadsLaws.{Splits-feed}
use Rattle.ioam_run_answer.proofs.CallLaws.{adds_one}
use Rattle.ioam_stream.specs.Conversion.{Closes, Converts, StandsSo, StopsSo, NeedsMore, TakesNone, Finishes, SaysPart, SaysLast, Opens, Refills}
use Rattle.ioam_stream.specs.Stage.{How, Ended}
use Rattle.ioam_stream.specs.declared.conversion.Tail.{Tail}
use Rattle.ioam_stream.specs.declared.conversion.Tail.TheVariants as tail

-- or none
adds_none : (outputs : List Output) → length outputs ≡ 1 → Adds outputs outputs ([] ∷ [])
adds_none [] one = absurd (omega (arith, one))
adds_none (x ∷ []) one = (refl, sym (append-nil x.gathered.items), tt)
adds_none (x ∷ y ∷ outputs) one = absurd (omega (arith, one))

pub none_gathered : (outputs : List Output) → length outputs ≡ 1 → GathersNothing outputs → GathersFew outputs
none_gathered outputs one nothing = Adds-few outputs outputs ([] ∷ []) nothing (adds_none outputs one)
    (All-cons (λ (text : List ℕ). length text < 65536) [] [] (omega arith) (All-nil (λ (text : List ℕ). length text < 65536)))

pub is_there : {A : Type 0} (o : Option A) (P : A → Type 0) → MatchOption o ⊥ P → (x : A) × (o ≡ Some x)
is_there None P there = absurd there
is_there (Some x) P there = (x, refl)

module _ {T : Type 0} (tells : List Record → List ℕ → Type 0) (rest : T → List ℕ) (left : T → ℕ) (most : ℕ) where
  abbrev D : Converts (Regrouping T)
  D = does tells rest left most

  pub opens : (now : Regrouping T) (outputs : List Output) → length outputs ≡ 1 → Opens D now outputs outputs
  opens now outputs one = (
    [] ∷ [],
    adds_none outputs one,
    λ fresh. record { records = []; gathers = fresh.gathers; cause = fresh.cause; unsaid = refl },
  )

  -- ---- the records that are shown

  module _ (old : Regrouping T) (reader : Reading) (lent now : MutBor Collected) (here : old.collector ≡ Some lent) where
    -- what is gathered, where the collector is lent
    gathered : (octets : List ℕ) (records : List Record) → MatchOption old.collector ⊥ (λ (c : MutBor Collected). Gathers octets records old.reader c.now)
        → Gathers octets records old.reader lent.now
    gathered octets records g = subst (λ (o : Option (MutBor Collected)). MatchOption o ⊥ (λ (c : MutBor Collected). Gathers octets records old.reader c.now)) here g

    held_is : (o : Option T) → by_option old.collector (by_option o 0 left) (λ (c : MutBor Collected). suc most) ≡ suc most
    held_is o = ap (λ (o' : Option (MutBor Collected)). by_option o' (by_option o 0 left) (λ (c : MutBor Collected). suc most)) here

    module _ (new : Regrouping T) (outputs : List Output) (reader_is : new.reader ≡ reader) (now_is : new.collector ≡ Some now) where
      held_now : (o : Option T) → by_option new.collector (by_option o 0 left) (λ (c : MutBor Collected). suc most) ≡ suc most
      held_now o = ap (λ (o' : Option (MutBor Collected)). by_option o' (by_option o 0 left) (λ (c : MutBor Collected). suc most)) now_is

      gathers_now : (octets : List ℕ) (records : List Record) → Gathers octets records reader now.now
          → MatchOption new.collector ⊥ (λ (c : MutBor Collected). Gathers octets records new.reader c.now)
      gathers_now octets records g = subst (λ (o : Option (MutBor Collected)). MatchOption o ⊥ (λ (c : MutBor Collected). Gathers octets records new.reader c.now)) (sym now_is)
          (subst (λ (r : Reading). Gathers octets records r now.now) (sym reader_is) g)

      pub needs_more : new.cause ≡ old.cause → Shows old.reader reader lent.now now.now pause.More → NeedsMore D old new outputs outputs
      needs_more why shown = record {
        same = refl;
        waits = subst (λ (r : Reading). Waits r) (sym reader_is) shown.0;
        stands = λ begun octets so_far s.
            let g = shown.1 octets s.records (gathered octets s.records s.gathers) in
            record { records = g.0; gathers = gathers_now octets g.0 g.1; cause = why ∙ s.cause; unsaid = s.unsaid };
      }

      -- no more records than these
      stopped_by : (how : How) (whole : List ℕ) (so_far : List (List ℕ)) (records : List Record) → IsUnsaid so_far → collected.Stands now.now records → AreFew records
          → AreOf how new.cause records whole → AreFirst records whole → HasStopped tells rest left most how whole so_far new
      stopped_by how whole so_far records unsaid stands few are first = record {
        records = records;
        are = are;
        first = first;
        few = few;
        says = subst (λ (o : Option (MutBor Collected)). MatchOption o (IsSaying tells rest left most records so_far new.report)
            (λ (c : MutBor Collected). collected.Stands c.now records × IsUnsaid so_far)) (sym now_is) (stands, unsaid);
      }

      -- a record past a limit
      pub takes_past : (limit : Limit) → new.cause ≡ cause.Limit limit → length reader.pending ≤ length old.reader.pending
          → Shows old.reader reader lent.now now.now (pause.Limit limit) → TakesNone D old new outputs outputs
      takes_past limit why fewer shown = record {
        same = refl;
        held = omega (arith, held_is old.report, held_now new.report, ap (λ (r : Reading). length r.pending) reader_is, fewer);
        stops = λ begun octets more so_far s.
            let past = shown octets s.records (gathered octets s.records s.gathers) in
            let g = past.2 in
            stopped_by Ended (octets ++ more) so_far past.0 s.unsaid g.stands_for g.few (subst (λ (k : Cause). AreOf Ended k past.0 (octets ++ more)) (sym why) (record {
              next = past.3;
              rest = reader.pending ++ more;
              splits = Splits-feed octets more (past.0 ++ past.3 ∷ []) reader.pending past.4.splits;
              past = past.5;
            })) (past.1.pending ++ more, Splits-feed octets more past.0 past.1.pending g.stands.splits);
        undrained = λ drains. subst (λ (k : Cause). IsEnd k) why drains;
      }

      -- a faulty record
      pub takes_bad : (at : ℕ) (fault : ExportFault) → new.cause ≡ cause.Bad at fault → length reader.pending ≤ length old.reader.pending
          → Shows old.reader reader lent.now now.now (pause.Bad at fault) → TakesNone D old new outputs outputs
      takes_bad at fault why fewer shown = record {
        same = refl;
        held = omega (arith, held_is old.report, held_now new.report, ap (λ (r : Reading). length r.pending) reader_is, fewer);
        stops = λ begun octets more so_far s.
            let bad = shown octets s.records (gathered octets s.records s.gathers) in
            let g = bad.1 in
            stopped_by Ended (octets ++ more) so_far bad.0 s.unsaid g.stands_for g.few
            (subst (λ (k : Cause). AreOf Ended k bad.0 (octets ++ more)) (sym why) (bad.2 more))
            (reader.pending ++ more, Splits-feed octets more bad.0 reader.pending g.stands.splits);
        undrained = λ drains. subst (λ (k : Cause). IsEnd k) why drains;
      }

      -- no more octets are to come
      pub finishes : (how : How) → reader ≡ old.reader → now.now ≡ lent.now
          → ((octets : List ℕ) (records : List Record) → Stands old.reader octets records → AreOf how new.cause records octets) → Finishes D how old new
      finishes how still same are = record {
        room = ap (λ (r : Reading). 2 ^ 63 - fed r) (reader_is ∙ still);
        stops = λ begun octets so_far s.
            let g = gathered octets s.records s.gathers in
            stopped_by how octets so_far s.records s.unsaid (subst (λ (c : Collected). collected.Stands c s.records) (sym same) g.stands_for) g.few (are octets s.records g.stands) (old.reader.pending, g.stands.splits);
      }

      -- a piece more was fed
      pub refills : (piece : List ℕ) → 0 < length piece → fed old.reader + length piece < 2 ^ 63 → reader ≡ record old.reader { pending = old.reader.pending ++ piece; given = 0 }
          → ((octets : List ℕ) (records : List Record) → Stands old.reader octets records → Stands reader (octets ++ piece) records)
          → now.now ≡ lent.now → new.cause ≡ old.cause → Refills D piece old new
      refills piece some fits is stands same why = record {
        room = omega (arith, some, fits, ap fed (reader_is ∙ is), length-append old.reader.pending piece);
        stands = λ begun octets so_far s.
            let g = gathered octets s.records s.gathers in
            record {
              records = s.records;
              gathers = gathers_now (octets ++ piece) s.records (record {
                stands = stands octets s.records g.stands;
                stands_for = subst (λ (c : Collected). collected.Stands c s.records) (sym same) g.stands_for;
                few = g.few;
                limit = ap (λ (c : Collected). c.limit) same ∙ g.limit;
              });
              cause = why ∙ s.cause;
              unsaid = s.unsaid;
            };
      }

    -- what may still be fed: a reader that waits was fed no more than the greatest records and the first octets of another
    pub fed_few : StandsSo D old → Waits old.reader → fed old.reader < 18387829010
    fed_few so waits =
        let s = so.stands in
        let g = gathered so.octets s.records s.gathers in
        let few = g.few.read in
        omega (arith, few, start_few old.reader so.octets s.records g.stands, Waits-few old.reader waits)

  -- ---- what is said

  module _ (old new : Regrouping T) (reader_is : new.reader ≡ old.reader) (why : new.cause ≡ old.cause) (outputs : List Output) (d after : Output) (one : length outputs ≡ 1)
      (slot : after.slot ≡ (get_or outputs 0 d).slot) where
    abbrev before : List ℕ
    before = (get_or outputs 0 d).gathered.items

    -- the same records, of which something more was said
    still_stopped : (how : How) (octets : List ℕ) (so_far now : List (List ℕ)) (s : HasStopped tells rest left most how octets so_far old)
        → MatchOption new.collector (IsSaying tells rest left most s.records now new.report) (λ (c : MutBor Collected). collected.Stands c.now s.records × IsUnsaid now)
        → HasStopped tells rest left most how octets now new
    still_stopped how octets so_far now s says = record {
      records = s.records;
      are = subst (λ (k : Cause). AreOf how k s.records octets) (sym why) s.are;
      first = s.first;
      few = s.few;
      says = says;
    }

    -- the first part
    pub says_first : (lent : MutBor Collected) (report : T) → StopsSo D old → old.collector ≡ Some lent → new.collector ≡ None → new.report ≡ Some report
        → Begins tells rest left most lent.now before after.gathered.items report → SaysPart D old new outputs (set outputs 0 after)
    says_first lent report so here gone is begins =
        let stands : (records : List Record) (so_far : List (List ℕ)) → MatchOption old.collector (IsSaying tells rest left most records so_far old.report)
        (λ (c : MutBor Collected). collected.Stands c.now records × IsUnsaid so_far) → collected.Stands lent.now records × IsUnsaid so_far =
        λ records so_far says. subst (λ (o : Option (MutBor Collected)). MatchOption o (IsSaying tells rest left most records so_far old.report)
        (λ (c : MutBor Collected). collected.Stands c.now records × IsUnsaid so_far)) here says in
        let s = so.stops in
        let few = begins.few s.records s.first.1.each s.few (stands s.records so.so_far s.says).0 in
        let was : by_option old.collector (by_option old.report 0 left) (λ (c : MutBor Collected). suc most) ≡ suc most =
        ap (λ (o : Option (MutBor Collected)). by_option o (by_option old.report 0 left) (λ (c : MutBor Collected). suc most)) here in
        let now : by_option new.collector (by_option new.report 0 left) (λ (c : MutBor Collected). suc most) ≡ left report =
        ap (λ (o : Option (MutBor Collected)). by_option o (by_option new.report 0 left) (λ (c : MutBor Collected). suc most)) gone ∙ ap (λ (o : Option T). by_option o 0 left) is in
        record {
          held = omega (arith, was, now, few, ap (λ (r : Reading). length r.pending) reader_is);
          room = ap (λ (r : Reading). 2 ^ 63 - fed r) reader_is;
          added = begins.added ∷ [];
          adds = adds_one outputs d after begins.added one slot begins.says;
          stops = λ begun how octets so_far t.
              let c = stands t.records so_far t.says in
              still_stopped how octets so_far (said_more so_far (begins.added ∷ [])) t (subst (λ (o : Option (MutBor Collected)). MatchOption o (IsSaying tells rest left most t.records (said_more so_far (begins.added ∷ [])) new.report)
              (λ (c : MutBor Collected). collected.Stands c.now t.records × IsUnsaid (said_more so_far (begins.added ∷ [])))) (sym gone)
              (subst (λ (o : Option T). IsSaying tells rest left most t.records (said_more so_far (begins.added ∷ [])) o) (sym is) (
                begins.added,
                begins.text t.records t.first.1.each t.few c.0,
                ap (λ (texts : List (List ℕ)). said_more texts (begins.added ∷ [])) c.1,
              )));
          drains = subst (λ (k : Cause). IsEnd k) why;
        }

    module _ (gone : old.collector ≡ None) (mid report : T) (was : old.report ≡ Some mid) where
      -- what was said of these records
      said_of : (records : List Record) (so_far : List (List ℕ)) → MatchOption old.collector (IsSaying tells rest left most records so_far old.report)
          (λ (c : MutBor Collected). collected.Stands c.now records × IsUnsaid so_far) → IsSaying tells rest left most records so_far (Some mid)
      said_of records so_far says = subst (λ (o : Option T). IsSaying tells rest left most records so_far o) was
          (subst (λ (o : Option (MutBor Collected)). MatchOption o (IsSaying tells rest left most records so_far old.report)
          (λ (c : MutBor Collected). collected.Stands c.now records × IsUnsaid so_far)) gone says)

      -- the next part
      pub says_more : new.collector ≡ None → new.report ≡ Some report → PutsPart rest left mid report before after.gathered.items → SaysPart D old new outputs (set outputs 0 after)
      says_more none is puts =
          let first : by_option old.collector (by_option old.report 0 left) (λ (c : MutBor Collected). suc most) ≡ left mid =
          ap (λ (o : Option (MutBor Collected)). by_option o (by_option old.report 0 left) (λ (c : MutBor Collected). suc most)) gone ∙ ap (λ (o : Option T). by_option o 0 left) was in
          let now : by_option new.collector (by_option new.report 0 left) (λ (c : MutBor Collected). suc most) ≡ left report =
          ap (λ (o : Option (MutBor Collected)). by_option o (by_option new.report 0 left) (λ (c : MutBor Collected). suc most)) none ∙ ap (λ (o : Option T). by_option o 0 left) is in
          let less = puts.fewer in
          record {
            held = omega (arith, first, now, less, ap (λ (r : Reading). length r.pending) reader_is);
            room = ap (λ (r : Reading). 2 ^ 63 - fed r) reader_is;
            added = puts.added ∷ [];
            adds = adds_one outputs d after puts.added one slot puts.says;
            stops = λ begun how octets so_far t.
                let c = said_of t.records so_far t.says in
                still_stopped how octets so_far (said_more so_far (puts.added ∷ [])) t (subst (λ (o : Option (MutBor Collected)). MatchOption o (IsSaying tells rest left most t.records (said_more so_far (puts.added ∷ [])) new.report)
                (λ (c : MutBor Collected). collected.Stands c.now t.records × IsUnsaid (said_more so_far (puts.added ∷ [])))) (sym none)
                (subst (λ (o : Option T). IsSaying tells rest left most t.records (said_more so_far (puts.added ∷ [])) o) (sym is) (
                  c.0 ++ puts.added,
                  subst (tells t.records) (ap (λ o. c.0 ++ o) puts.rest_is ∙ sym (append_assoc c.0 puts.added (rest report))) c.1,
                  ap (λ (texts : List (List ℕ)). said_more texts (puts.added ∷ [])) c.2,
                )));
            drains = subst (λ (k : Cause). IsEnd k) why;
          }

      -- the last part
      pub says_last : after.gathered.items ≡ before ++ rest mid → SaysLast D old new outputs (set outputs 0 after)
      says_last is = record {
        room = ap (λ (r : Reading). 2 ^ 63 - fed r) reader_is;
        added = rest mid ∷ [];
        adds = adds_one outputs d after (rest mid) one slot is;
        texts = λ begun how octets so_far t.
            let c = said_of t.records so_far t.says in
            record {
              records = t.records;
              are = subst (λ (k : Cause). AreOf how k t.records octets) (sym why) t.are;
              first = t.first;
              few = t.few;
              text = c.0 ++ rest mid;
              is = c.1;
              said = ap (λ (texts : List (List ℕ)). said_more texts (rest mid ∷ [])) c.2;
            };
        drains = subst (λ (k : Cause). IsEnd k) why;
      }

      pub says_next : new.collector ≡ None → new.report ≡ Some report → (more : Tail) → Puts rest left mid report before after.gathered.items more
          → Closes D old new outputs (set outputs 0 after) more
      says_next none is tail.Rest puts = says_more none is puts
      says_next none is tail.End puts = says_last puts
