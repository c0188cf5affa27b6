-- What becomes of a capture whose records are gathered, call by call.
use Rattle.std.proofs.Common.{◌≡◌, ℕ, ◌+◌, ◌-◌, ◌^◌, ◌<◌, ◌≤◌, List, [], ◌∷◌, ◌++◌, length, refl, sym, ◌∙◌, ap, subst, append_assoc, length-append, arith}
use Rattle.std.specs.Prelude.{Result, Ok, Err, OnOk}
use Rattle.ioam_capture.specs.Reader.{Stands, Waits, IsFed}
use Rattle.ioam_capture.specs.Reading.{Reading, fed, pending}
use Rattle.ioam_capture.specs.Reads.{Reads}
use Rattle.ioam_capture.proofs.StandsLaws.{Stands-room, Waits-few}
use Rattle.ioam_desk_outputs.specs.Told.{Adds, said_more}
use Rattle.ioam_desk_outputs.specs.declared.output.Output.{Output}
use Rattle.ioam_pcap.specs.Ending.{Ending, Whole, Faulty}
use Rattle.ioam_pcap.specs.Entries.{Taken}
use Rattle.ioam_pcap.specs.declared.capture.CapFault.{CapFault}
use Rattle.ioam_run_stream.specs.Captured.{AreOf, end_of, IsFresh, HasGathered, IsTaking, Nexts, TakesRecord, does}
use Rattle.ioam_run_stream.specs.Promise.{ArePassed}
use Rattle.ioam_run_stream.specs.declared.captured.Captured.{Captured}
use Rattle.ioam_run_stream.specs.declared.captured.End.{End}
use Rattle.ioam_run_stream.specs.declared.captured.End.TheVariants as end
use Rattle.ioam_run_stream.specs.declared.captured.Next.TheVariants as next
use Rattle.ioam_run_stream.specs.FirstLaws.{given_first, more_sized}
use Rattle.ioam_stream.specs.Conversion.{Refills, Finishes, TakesOne, NeedsMore, TakesNone, SaysLast}
use Rattle.ioam_stream.specs.Stage.{How, Ended}

-- something is added to each output
pub adds_sized : (old new : List Output) (added : List (List ℕ)) → Adds old new added → length added ≡ length old
adds_sized [] [] [] adds = refl
adds_sized (before ∷ old) (after ∷ new) (text ∷ added) adds = omega (arith, adds_sized old new added adds.2)
adds_sized [] [] (text ∷ added) adds = absurd adds
adds_sized [] (after ∷ new) added adds = absurd adds
adds_sized (before ∷ old) [] added adds = absurd adds
adds_sized (before ∷ old) (after ∷ new) [] adds = absurd adds

pub on_ok_two : {A E P Q R : Type 0} (result : Result A E) → (P → Q → R) → OnOk result P → OnOk result Q → OnOk result R
on_ok_two (Ok value) f p q = f p q
on_ok_two (Err fault) f p q = tt

-- records of a capture that ends so
pub ends_of : (most : ℕ) (ending : Ending) (taken : List Taken) (octets : List ℕ) → Reads octets taken ending → AreOf most Ended (end_of ending) taken octets
ends_of most Whole taken octets reads = reads
ends_of most (Faulty at fault) taken octets reads = reads

-- octets that are fed leave less room
room_fed : (old new : Reading) (piece : List ℕ) → IsFed old piece new → fed old + 65536 < 2 ^ 63 → 0 < length piece → length piece ≤ 65536
    → 2 ^ 63 - fed new < 2 ^ 63 - fed old
room_fed old new piece is room some few = omega (arith, ap length is.0, length-append (pending old) piece, is.1, room, some, few)

module _ {G : Type 0} (gathers : G → List Taken → List (List ℕ) → G → Type 0) (count : G → ℕ) (width : ℕ) (begins : G → Type 0)
    (Texts : G → List Taken → List (List ℕ) → Type 0) where
  abbrev Taking : Captured G → List ℕ → List (List ℕ) → Captured G → Type 0
  Taking = IsTaking gathers count width begins Texts

  abbrev Gathered : Captured G → List Taken → List (List ℕ) → Captured G → Type 0
  Gathered = HasGathered gathers count width begins Texts

  -- nothing was taken yet
  pub begun_taking : (now : Captured G) (added : List (List ℕ)) → length added ≡ width → gathers now.gathered [] added now.gathered → count now.gathered ≡ 0
      → IsFresh gathers count width begins Texts now → Taking now [] added now
  begun_taking now added sized are none fresh = record {
    taken = [];
    stands = let P : Reading → Type 0 = λ r. Stands r [] [] in subst P (sym fresh.reader) (refl, omega arith, refl);
    gathered = record { are = are; count_is = none; few = omega arith; limit_is = refl; bound = fresh.bound; sized = sized };
  }

  -- there is room for another piece
  pub taking_room : (begun : Captured G) (octets : List ℕ) (so_far : List (List ℕ)) (now : Captured G) → Taking begun octets so_far now → Waits now.reader
      → fed now.reader + 65536 < 2 ^ 63
  taking_room begun octets so_far now taking waits =
      Stands-room now.reader octets taking.taken taking.stands (omega (arith, taking.gathered.few, taking.gathered.bound)) (Waits-few now.reader waits)

  -- a piece was fed
  pub taking_fed : (old new : Captured G) (piece : List ℕ) → new.gathered ≡ old.gathered → new.limit ≡ old.limit → IsFed old.reader piece new.reader
      → ((octets : List ℕ) (taken : List Taken) → Stands old.reader octets taken → Stands new.reader (octets ++ piece) taken)
      → fed old.reader + 65536 < 2 ^ 63 → 0 < length piece → length piece ≤ 65536 → Refills (does gathers count width begins Texts) piece old new
  taking_fed old new piece same limit is stands room some few = record {
    room = room_fed old.reader new.reader piece is room some few;
    stands = λ begun octets so_far taking. record {
      taken = taking.taken;
      stands = stands octets taking.taken taking.stands;
      gathered = gathered_still begun taking.taken so_far old new same limit taking.gathered;
    };
  }
    where
      gathered_still : (begun : Captured G) (taken : List Taken) (so_far : List (List ℕ)) (old new : Captured G) → new.gathered ≡ old.gathered → new.limit ≡ old.limit
          → Gathered begun taken so_far old → Gathered begun taken so_far new
      gathered_still begun taken so_far old new same limit gathered = record {
        are = subst (λ (g : G). gathers begun.gathered taken so_far g) (sym same) gathered.are;
        count_is = ap count same ∙ gathered.count_is;
        few = omega (arith, gathered.few, limit);
        limit_is = limit ∙ gathered.limit_is;
        bound = omega (arith, gathered.bound, limit);
        sized = gathered.sized;
      }

  -- the capture has ended, or a read failed
  pub taking_stops : (how : How) (old new : Captured G) → new.gathered ≡ old.gathered → new.limit ≡ old.limit → new.reader ≡ old.reader
      → ((octets : List ℕ) (taken : List Taken) → Stands old.reader octets taken → AreOf new.limit how new.end taken octets)
      → Finishes (does gathers count width begins Texts) how old new
  taking_stops how old new same limit reader are = record {
    room = ap (λ (r : Reading). 2 ^ 63 - fed r) reader;
    stops = λ begun octets so_far taking. record {
      taken = taking.taken;
      are = are octets taking.taken taking.stands;
      gathered = record {
        are = subst (λ (g : G). gathers begun.gathered taking.taken so_far g) (sym same) taking.gathered.are;
        count_is = ap count same ∙ taking.gathered.count_is;
        few = omega (arith, taking.gathered.few, limit);
        limit_is = limit ∙ taking.gathered.limit_is;
        bound = omega (arith, taking.gathered.bound, limit);
        sized = taking.gathered.sized;
      };
    };
  }

  module _ (old new : Captured G) (outputs now : List Output) (limit : new.limit ≡ old.limit) where
    -- a record was taken
    pub takes_record : length outputs ≡ width → TakesRecord gathers count old.limit old.reader new.reader old.gathered new.gathered outputs now
        → TakesOne (does gathers count width begins Texts) old new outputs now
    takes_record sized record_is = record {
      held = omega (arith, record_is.below, record_is.counted, limit);
      added = record_is.added;
      adds = record_is.adds;
      stands = λ begun octets so_far taking. record {
        taken = taking.taken ++ record_is.record_is ∷ [];
        stands = record_is.stands octets taking.taken taking.stands;
        gathered = record {
          are = record_is.gathered begun.gathered taking.taken so_far taking.gathered.are;
          count_is = omega (arith, record_is.counted, taking.gathered.count_is, length-append taking.taken (record_is.record_is ∷ []));
          few = omega (arith, record_is.below, taking.gathered.count_is, length-append taking.taken (record_is.record_is ∷ []), limit);
          limit_is = limit ∙ taking.gathered.limit_is;
          bound = omega (arith, taking.gathered.bound, limit);
          sized = more_sized width so_far record_is.added taking.gathered.sized (adds_sized outputs now record_is.added record_is.adds ∙ sized);
        };
      };
    }

    -- more octets are needed
    pub needs_more : Nexts gathers count old.limit old.reader new.reader old.gathered new.gathered outputs now next.More
        → NeedsMore (does gathers count width begins Texts) old new outputs now
    needs_more nexts = record {
      same = nexts.0.1;
      waits = nexts.1;
      stands = λ begun octets so_far taking. record {
        taken = taking.taken;
        stands = nexts.2 octets taking.taken taking.stands;
        gathered = record {
          are = subst (λ (g : G). gathers begun.gathered taking.taken so_far g) (sym nexts.0.0) taking.gathered.are;
          count_is = ap count nexts.0.0 ∙ taking.gathered.count_is;
          few = omega (arith, taking.gathered.few, limit);
          limit_is = limit ∙ taking.gathered.limit_is;
          bound = omega (arith, taking.gathered.bound, limit);
          sized = taking.gathered.sized;
        };
      };
    }

    -- the capture is faulty, or there is a record past the limit
    takes_none : (after_same : new.gathered ≡ old.gathered) → now ≡ outputs → (new.end ≡ end.Whole → ⊥)
        → ((octets more : List ℕ) (taken : List Taken) → Stands old.reader octets taken → count old.gathered ≡ length taken → length taken ≤ old.limit
        → AreOf new.limit Ended new.end taken (octets ++ more))
        → TakesNone (does gathers count width begins Texts) old new outputs now
    takes_none after_same same undrained are = record {
      same = same;
      held = let same_count = ap count after_same in omega (arith, same_count, limit);
      stops = λ begun octets rest so_far taking. record {
        taken = taking.taken;
        are = are octets rest taking.taken taking.stands taking.gathered.count_is taking.gathered.few;
        gathered = record {
          are = subst (λ (g : G). gathers begun.gathered taking.taken so_far g) (sym after_same) taking.gathered.are;
          count_is = ap count after_same ∙ taking.gathered.count_is;
          few = omega (arith, taking.gathered.few, limit);
          limit_is = limit ∙ taking.gathered.limit_is;
          bound = omega (arith, taking.gathered.bound, limit);
          sized = taking.gathered.sized;
        };
      };
      undrained = undrained;
    }

    pub takes_bad : (at : ℕ) (fault : CapFault) → new.end ≡ end.Bad at fault
        → Nexts gathers count old.limit old.reader new.reader old.gathered new.gathered outputs now (next.Bad at fault)
        → TakesNone (does gathers count width begins Texts) old new outputs now
    takes_bad at fault is nexts = takes_none nexts.0.0 nexts.0.1 (λ whole. bad_whole (sym is ∙ whole))
        (λ octets more taken stands counted few. subst (λ (e : End). AreOf new.limit Ended e taken (octets ++ more)) (sym is) (nexts.1 octets taken stands more))
      where
        bad_whole : end.Bad at fault ≡ end.Whole → ⊥
        bad_whole same = cc

    pub takes_limit : new.end ≡ end.Limit
        → Nexts gathers count old.limit old.reader new.reader old.gathered new.gathered outputs now next.Limit
        → TakesNone (does gathers count width begins Texts) old new outputs now
    takes_limit is nexts = takes_none nexts.0.0 nexts.0.1 (λ whole. limit_whole (sym is ∙ whole))
        (λ octets more taken stands counted few. subst (λ (e : End). AreOf new.limit Ended e taken (octets ++ more)) (sym is) (passed octets more taken stands counted few))
      where
        limit_whole : end.Limit ≡ end.Whole → ⊥
        limit_whole same = cc

        passed : (octets more : List ℕ) (taken : List Taken) → Stands old.reader octets taken → count old.gathered ≡ length taken → length taken ≤ old.limit
            → ArePassed new.limit taken (octets ++ more)
        passed octets more taken stands counted few =
            let first = given_first new.reader octets more (taken ++ nexts.2.0 ∷ []) (nexts.2.1 octets taken stands) in
            record {
              first = record {
                rest = nexts.2.0 ∷ first.rest;
                ending = first.ending;
                reads = subst (λ (ts : List Taken). Reads (octets ++ more) ts first.ending) (append_assoc taken (nexts.2.0 ∷ []) first.rest) first.reads;
              };
              all = omega (arith, nexts.1, counted, few, limit);
              more = omega arith;
            }

  -- what comes after the last record was said
  pub closes_so : (old new : Captured G) (outputs now : List Output) (sums : List (List ℕ)) → length outputs ≡ width → new ≡ old → Adds outputs now sums
      → ((begun : G) (taken : List Taken) (so_far : List (List ℕ)) → gathers begun taken so_far old.gathered → Texts begun taken (said_more so_far sums))
      → SaysLast (does gathers count width begins Texts) old new outputs now
  closes_so old new outputs now sums sized same adds ends = record {
    room = ap (λ (c : Captured G). 2 ^ 63 - fed c.reader) same;
    added = sums;
    adds = adds;
    texts = λ begun how octets so_far stopped. record {
      taken = stopped.taken;
      are = subst (λ (c : Captured G). AreOf begun.limit how c.end stopped.taken octets) (sym same)
          (subst (λ (most : ℕ). AreOf most how old.end stopped.taken octets) stopped.gathered.limit_is stopped.are);
      few = subst (λ (most : ℕ). length stopped.taken ≤ most) stopped.gathered.limit_is stopped.gathered.few;
      texts_are = ends begun.gathered stopped.taken so_far stopped.gathered.are;
      sized = more_sized width so_far sums stopped.gathered.sized (adds_sized outputs now sums adds ∙ sized);
    };
    drains = λ whole. sym (ap (λ (c : Captured G). c.end) same) ∙ whole;
  }
