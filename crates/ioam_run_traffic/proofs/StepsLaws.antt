-- Steps of traffic as a stage.
use Rattle.std.specs.Prelude.{IfOk, OnErr, OnOk}
use Rattle.std.specs.Borrow.{MutBor}
use Rattle.std.proofs.Common.{Result, Ok, Err, ◌≡◌, ℕ, ◌<◌, ◌≤◌, Bool, true, false, IsTrue, List, [], ◌∷◌, ◌++◌, length, map, refl, sym, ap, ◌∙◌, subst, append-nil, append_assoc, inl, inr, arith}
use Rattle.std.proofs.lemmas.Bool.{false≢true}
use Rattle.std.proofs.lemmas.List.Elements.{All-nil}
use Rattle.ioam_base.specs.declared.memory.NoMemory.{NoMemory}
use Rattle.ioam_capture.specs.Arrives.{Arrives}
use Rattle.ioam_capture.specs.Merge.{Arrival}
use Rattle.ioam_capture.specs.declared.turns.Turn.TheVariants.{Unshown}
use Rattle.ioam_capture_merge.specs.Merge.{IsShortOf, Merging, parts, room_of, IsFed as MergeFed, IsEnded as MergeEnded}
use Rattle.ioam_capture_merge.specs.declared.merge.Merge.{Merge}
use Rattle.ioam_capture_merge.proofs.MergeLaws.{Begins-on, arrives_unshown, ended_are, parts_on, parts_same}
use Rattle.ioam_clock.specs.declared.sample.Sample.{Sample}
use Rattle.ioam_desk_outputs.specs.Told.{Adds, said_more}
use Rattle.ioam_desk_outputs.specs.declared.output.Output.{Output}
use Rattle.ioam_run_arrivals.specs.Fate.{Frame}
use Rattle.ioam_run_arrivals.specs.Forwarding.{Forwarded, Forwards, IsOf, NoneWaits, taken as count_taken}
use Rattle.ioam_run_arrivals.specs.Outlets.{outlet_count}
use Rattle.ioam_run_arrivals.specs.Texts.{sums_by, texts_so_far}
use Rattle.ioam_run_arrivals.specs.declared.forwarding.Forwarding.{Forwarding}
use Rattle.ioam_run_arrivals.proofs.FrontsLaws.{so_far_count}
use Rattle.ioam_stream.specs.Stage.{Begins, Covers, Ends, Feeds, IsCut, IsEnded, IsFed, Keeps, Seen, Standing, Takes, Waits, unseen}
use Rattle.ioam_topo.specs.declared.domain.Domain.{Domain}
use Rattle.ioam_run_traffic.specs.Progress.{EndSo, EndsBy, Lacks, PausedSo, Runs, Taking, Tells, left_in, waiting_in}
use Rattle.ioam_run_traffic.specs.Stage.{AllShown, HasStopped, InPhase, IsReady, Says, Stands, count_of, kind, phase_left}
use Rattle.ioam_run_traffic.specs.Traffic.{IsTimely, frames_of}
use Rattle.ioam_run_traffic.specs.declared.halt.Halt.{Halt}
use Rattle.ioam_run_traffic.specs.declared.progress.Pause.TheVariants as pause
use Rattle.ioam_run_traffic.specs.declared.progress.Progress.{Progress}
use Rattle.ioam_run_traffic.specs.declared.stage.Phase.{Phase}
use Rattle.ioam_run_traffic.specs.declared.stage.Phase.TheVariants as phase
use Rattle.ioam_run_traffic.specs.declared.stage.Traffic.{Traffic}
use Rattle.ioam_run_traffic.specs.declared.terms.Terms.{Terms}
use Rattle.ioam_run_traffic.proofs.RunsLaws.{runs_tell, waiting_none}

-- after an error, whatever it is
pub on_err : {T E : Type 0} (result : Result T E) (P : Type 0) → P → OnErr result P
on_err (Ok x) P holds = tt
on_err (Err e) P holds = holds

pub on_both : {T E : Type 0} (result : Result T E) (P Q : Type 0) → OnOk result P → OnOk result Q → OnOk result (P × Q)
on_both (Ok x) P Q first second = (first, second)
on_both (Err e) P Q first second = tt

pub on_each : {A T E : Type 0} (P : A → Type 0) (result : Result T E) → ((a : A) → OnOk result (P a)) → OnOk result ((a : A) → P a)
on_each P (Ok x) each = each
on_each P (Err e) each = tt

pub if_ok : {T E : Type 0} (P Q : T → Type 0) (result : Result T E) → IfOk result P → ((t : T) → P t → Q t) → IfOk result Q
if_ok P Q (Ok x) holds f = f x holds
if_ok P Q (Err e) holds f = tt

-- the jobs that waited were run, by what is known where that succeeds
pub tells_of : (opens : Bool) (domain : Domain) (readings : List (List Sample)) (before after : List Output) (old new : Forwarding) (result : Result (Unit {0}) NoMemory)
    → OnOk result (IsOf domain new) → OnOk result (count_taken new ≡ count_taken old) → OnOk result (NoneWaits new)
    → OnOk result ((added : List (List ℕ)) × Adds before after added × ((frames : List Frame) (so_far : List (List ℕ)) → Forwards opens domain readings frames so_far old
    → Forwards opens domain readings frames (said_more so_far added) new))
    → OnOk result (Tells opens domain readings before after old new)
tells_of opens domain readings before after old new (Ok done) of counted none gathers =
    record { of = of; counted = counted; none = none; added = gathers.0; adds = gathers.1; gathers = gathers.2 }
tells_of opens domain readings before after old new (Err fault) of counted none gathers = tt

-- ---- what is added

-- nothing is said to any output
abbrev pub silent : List Output → List (List ℕ)
silent outputs = map (λ _. []) outputs

adds_silent : (outputs : List Output) → Adds outputs outputs (silent outputs)
adds_silent [] = tt
adds_silent (x ∷ outputs) = (refl, sym (append-nil x.gathered.items), adds_silent outputs)

said_silent : (texts : List (List ℕ)) (outputs : List Output) → length texts ≡ length outputs → said_more texts (silent outputs) ≡ texts
said_silent [] [] size = refl
said_silent [] (x ∷ outputs) size = absurd (omega (arith, size))
said_silent (text ∷ texts) [] size = absurd (omega (arith, size))
said_silent (text ∷ texts) (x ∷ outputs) size =
    let first = append-nil text in
    let others = said_silent texts outputs (omega (arith, size)) in
    cc

-- what was added in two steps
pub adds_then : (old mid new : List Output) (first second : List (List ℕ)) → Adds old mid first → Adds mid new second → Adds old new (said_more first second)
adds_then [] [] [] [] [] one two = tt
adds_then [] [] [] [] (y ∷ second) one two = absurd two
adds_then [] [] (n ∷ new) [] second one two = absurd two
adds_then [] (m ∷ mid) new first second one two = absurd one
adds_then [] [] new (x ∷ first) second one two = absurd one
adds_then (o ∷ old) [] new first second one two = absurd one
adds_then (o ∷ old) (m ∷ mid) new [] second one two = absurd one
adds_then (o ∷ old) (m ∷ mid) [] (x ∷ first) second one two = absurd two
adds_then (o ∷ old) (m ∷ mid) (n ∷ new) (x ∷ first) [] one two = absurd two
adds_then (o ∷ old) (m ∷ mid) (n ∷ new) (x ∷ first) (y ∷ second) one two = (
  two.0 ∙ one.0,
  two.1 ∙ ap (λ (xs : List ℕ). xs ++ y) one.1 ∙ append_assoc o.gathered.items x y,
  adds_then old mid new first second one.2 two.2,
)

pub said_then : (texts first second : List (List ℕ)) → said_more (said_more texts first) second ≡ said_more texts (said_more first second)
said_then [] first second = refl
said_then (text ∷ texts) [] second = refl
said_then (text ∷ texts) (x ∷ first) [] = refl
said_then (text ∷ texts) (x ∷ first) (y ∷ second) =
    let here = append_assoc text x y in
    let others = said_then texts first second in
    cc

module _ {F G : Type 0} (opens : Bool) (terms : Terms F G) where
  -- what runs, with nothing more said
  runs_silent : (taken : List Arrival) (so_far : List (List ℕ)) (gathered : Forwarding) (outputs : List Output) → length outputs ≡ outlet_count terms.domain.now
      → Runs opens terms taken so_far gathered → Runs opens terms taken (said_more so_far (silent outputs)) gathered
  runs_silent taken so_far gathered outputs width runs =
      let forwards = runs.forwards in
      let texts = texts_so_far terms.domain.now terms.readings.now forwards.told in
      record {
        forwards = record {
          told = forwards.told;
          waiting = forwards.waiting;
          are = forwards.are;
          texts_are = λ opened. ap (λ (so : List (List ℕ)). said_more so (silent outputs)) (forwards.texts_are opened)
              ∙ said_silent texts outputs (so_far_count terms.domain.now terms.readings.now forwards.told ∙ sym width);
          count = forwards.count;
          sums = forwards.sums;
          counted = forwards.counted;
          jobs = forwards.jobs;
          of = forwards.of;
        };
        few = runs.few;
        timely = runs.timely;
      }

module _ {F G : Type 0} (opens : Bool) (Pre : F → MutBor Forwarding → MutBor (List Output) → Type 0)
    (Post : F → MutBor Forwarding → MutBor (List Output) → Result (Unit {0}) NoMemory → MutBor Forwarding → MutBor (List Output) → Type 0) where
  -- what is known in a phase
  in_phase : (begun stage : Traffic F G) (seen : Seen) (so_far : List (List ℕ)) (p : Phase) → stage.phase ≡ p → (stands : Stands opens Pre Post begun seen so_far stage)
      → InPhase opens p stage seen stands.taken so_far
  in_phase begun stage seen so_far p is stands = subst (λ (q : Phase). InPhase opens q stage seen stands.taken so_far) is stands.in_phase

  module _ (stage : Traffic F G) (standing : Standing (kind opens Pre Post) stage) where
    -- the closure may be called
    pub standing_ready : IsReady opens Pre Post stage.terms
    standing_ready = standing.stands.ready

    pub standing_taking : stage.phase ≡ phase.Taking → Taking opens stage.terms standing.seen standing.stands.taken standing.so_far stage.progress
    standing_taking is = (in_phase standing.begun stage standing.seen standing.so_far phase.Taking is standing.stands).1

    pub standing_lacks : (input : ℕ) → stage.phase ≡ phase.Waiting input → Lacks opens stage.terms standing.seen standing.stands.taken standing.so_far stage.progress input
    standing_lacks input is = (in_phase standing.begun stage standing.seen standing.so_far (phase.Waiting input) is standing.stands).1

    pub standing_closing : stage.phase ≡ phase.Closing → Runs opens stage.terms standing.stands.taken standing.so_far stage.progress.gathered
    standing_closing is = (in_phase standing.begun stage standing.seen standing.so_far phase.Closing is standing.stands).2

    -- more may be handed out of the capture that it waits for
    pub standing_short : (input : ℕ) → stage.phase ≡ phase.Waiting input → IsShortOf stage.progress.merge input
    standing_short input is =
        let lacks = standing_lacks input is in
        (_, standing.seen.fed, standing.seen.ended, standing.stands.taken, lacks.0, omega (arith, lacks.1.few, stage.terms.domain.now.packets_most))

  -- ---- the heads

  pub begins_heads : (stage : Traffic F G) (before after : List Output) (added : List (List ℕ))
      → added ≡ texts_so_far stage.terms.domain.now stage.terms.readings.now [] → Adds before after added → Begins (kind opens Pre Post) stage before after
  begins_heads stage before after added is adds = (
    added,
    adds,
    λ fresh. record {
      ready = fresh.ready;
      same = refl;
      taken = [];
      in_phase = subst (λ (p : Phase). InPhase opens p stage unseen [] added) (sym fresh.taking) (
        refl,
        (
          fresh.merging,
          record {
            forwards = subst (λ (so : List (List ℕ)). Forwards opens stage.terms.domain.now stage.terms.readings.now [] so stage.progress.gathered) (sym is) fresh.gathers;
            few = omega arith;
            timely = All-nil IsTimely;
          },
        ),
      );
    },
  )

  -- ---- records are taken

  module _ (old : Traffic F G) (mid : Progress) (before after : List Output)
      (left : left_in old.terms mid.gathered ≤ left_in old.terms old.progress.gathered)
      (room : room_of mid.merge.captures.items ≡ room_of old.progress.merge.captures.items) where
    -- and what waited was run
    pub takes_full : (gathered : Forwarding) → old.phase ≡ phase.Taking → (tells : Tells opens old.terms.domain.now old.terms.readings.now before after mid.gathered gathered)
        → waiting_in mid.gathered.batch.jobs ≡ 1
        → ((seen : Seen) (taken : List Arrival) (so_far : List (List ℕ)) → Taking opens old.terms seen taken so_far old.progress
        → (now : List Arrival) × PausedSo opens old.terms seen now so_far mid pause.Full)
        → Takes (kind opens Pre Post) old (record old { progress = record { merge = mid.merge; gathered = gathered } }) before after
    takes_full gathered is tells full paused = record {
      held = omega (arith, left, full, waiting_none gathered.batch.jobs tells.none, tells.counted);
      room = room;
      added = tells.added;
      adds = tells.adds;
      stands = λ begun seen so_far stands.
          let (uncut, taking) = in_phase begun old seen so_far phase.Taking is stands in
          let (now, ((merging, runs), _)) = paused seen stands.taken so_far taking in
          record {
            ready = stands.ready;
            same = stands.same;
            taken = now;
            in_phase = subst (λ (p : Phase). InPhase opens p (record old { progress = record { merge = mid.merge; gathered = gathered } }) seen now (said_more so_far tells.added))
                (sym is) (uncut, (merging, runs_tell opens old.terms now so_far mid.gathered runs before after gathered tells));
          };
    }

    -- or more is needed of a capture
    pub takes_short : (input : ℕ) → length before ≡ outlet_count old.terms.domain.now → old.phase ≡ phase.Taking → after ≡ before
        → ((seen : Seen) (taken : List Arrival) (so_far : List (List ℕ)) → Taking opens old.terms seen taken so_far old.progress
        → (now : List Arrival) × PausedSo opens old.terms seen now so_far mid (pause.Short input))
        → Takes (kind opens Pre Post) old (record old { progress = mid; phase = phase.Waiting input }) before after
    takes_short input width is same paused = record {
      held = omega (arith, left, ap phase_left is);
      room = room;
      added = silent before;
      adds = subst (λ (outputs : List Output). Adds before outputs (silent before)) (sym same) (adds_silent before);
      stands = λ begun seen so_far stands.
          let (uncut, taking) = in_phase begun old seen so_far phase.Taking is stands in
          let (now, (short, runs)) = paused seen stands.taken so_far taking in
          record { ready = stands.ready; same = stands.same; taken = now; in_phase = (uncut, (short, runs_silent opens old.terms now so_far mid.gathered before width runs)) };
    }

    -- or no record is taken any more
    pub takes_stopped : (halt : Halt) → length before ≡ outlet_count old.terms.domain.now → old.phase ≡ phase.Taking → after ≡ before
        → ((seen : Seen) (taken : List Arrival) (so_far : List (List ℕ)) → Taking opens old.terms seen taken so_far old.progress
        → (now : List Arrival) × PausedSo opens old.terms seen now so_far mid (pause.Stopped halt))
        → Takes (kind opens Pre Post) old (record old { progress = mid; phase = phase.Closing; end = halt }) before after
    takes_stopped halt width is same paused = record {
      held = omega (arith, left, ap phase_left is);
      room = room;
      added = silent before;
      adds = subst (λ (outputs : List Output). Adds before outputs (silent before)) (sym same) (adds_silent before);
      stands = λ begun seen so_far stands.
          let (uncut, taking) = in_phase begun old seen so_far phase.Taking is stands in
          let (now, (ends, begins, runs)) = paused seen stands.taken so_far taking in
          record {
            ready = stands.ready;
            same = stands.same;
            taken = now;
            in_phase = (inl (uncut, ends), begins, runs_silent opens old.terms now so_far mid.gathered before width runs);
          };
    }

  -- ---- it waits

  module _ (stage : Traffic F G) (input : ℕ) (is : stage.phase ≡ phase.Waiting input) where
    lacks_of : (begun : Traffic F G) (seen : Seen) (so_far : List (List ℕ)) (stands : Stands opens Pre Post begun seen so_far stage)
        → (seen.cut ≡ false) × Lacks opens stage.terms seen stands.taken so_far stage.progress input
    lacks_of begun seen so_far stands = in_phase begun stage seen so_far (phase.Waiting input) is stands

    pub waits_on : (before after : List Output) → after ≡ before → (IsTrue stage.late → NoneWaits stage.progress.gathered)
        → Waits (kind opens Pre Post) stage stage before after input
    waits_on before after same live = record {
      same = same;
      room = refl;
      inside = λ begun seen so_far stands. subst (λ (t : Terms F G). input < length t.ports.now) stands.same (lacks_of begun seen so_far stands).1.0.inside;
      waits = record { phase_is = is; live = live };
      stands = λ begun seen so_far stands. stands;
      is_open = λ begun seen so_far stands. (lacks_of begun seen so_far stands).1.0.unended;
      uncut = λ begun seen so_far stands. (lacks_of begun seen so_far stands).0;
    }

    -- and what waited was run
    pub takes_late : (before after : List Output) (gathered : Forwarding)
        → (tells : Tells opens stage.terms.domain.now stage.terms.readings.now before after stage.progress.gathered gathered) → waiting_in stage.progress.gathered.batch.jobs ≡ 1
        → Takes (kind opens Pre Post) stage (record stage { progress = record stage.progress { gathered = gathered } }) before after
    takes_late before after gathered tells some = record {
      held = omega (arith, some, waiting_none gathered.batch.jobs tells.none, tells.counted);
      room = refl;
      added = tells.added;
      adds = tells.adds;
      stands = λ begun seen so_far stands.
          let (uncut, (short, runs)) = lacks_of begun seen so_far stands in
          record {
            ready = stands.ready;
            same = stands.same;
            taken = stands.taken;
            in_phase = subst (λ (p : Phase). InPhase opens p (record stage { progress = record stage.progress { gathered = gathered } }) seen stands.taken (said_more so_far tells.added))
                (sym is) (uncut, (short, runs_tell opens stage.terms stands.taken so_far stage.progress.gathered runs before after gathered tells));
          };
    }

    -- a piece was handed out
    pub feeds_piece : (octets : List ℕ) (late : Bool) (merge : Merge)
        → ((n : ℕ) (fed : ℕ → List ℕ) (ended : ℕ → Bool) (after_fed : ℕ → List ℕ) (after_ended : ℕ → Bool) (taken : List Arrival)
        → MergeFed input octets fed ended after_fed after_ended → Merging n fed ended taken stage.progress.merge → ended input ≡ false → Merging n after_fed after_ended taken merge)
        → room_of merge.captures.items < room_of stage.progress.merge.captures.items
        → Feeds (kind opens Pre Post) (IsFed input octets) stage (record stage { progress = record stage.progress { merge = merge }; late = late; phase = phase.Taking })
    feeds_piece octets late merge feeds less = record {
      stands = λ begun seen after so_far fed stands.
          let (uncut, (short, runs)) = lacks_of begun seen so_far stands in
          record {
            ready = stands.ready;
            same = stands.same;
            taken = stands.taken;
            in_phase = (
              fed.cut ∙ uncut,
              (feeds _ seen.fed seen.ended after.fed after.ended stands.taken (record { here = fed.fed; others = fed.others; ends = fed.ended }) short.merging short.unended, runs),
            );
          };
      room = less;
    }

    -- or its end
    pub feeds_end : (late : Bool) (merge : Merge)
        → ((n : ℕ) (fed : ℕ → List ℕ) (ended : ℕ → Bool) (after_fed : ℕ → List ℕ) (after_ended : ℕ → Bool) (taken : List Arrival)
        → MergeEnded input fed ended after_fed after_ended → Merging n fed ended taken stage.progress.merge → ended input ≡ false → Merging n after_fed after_ended taken merge)
        → room_of merge.captures.items < room_of stage.progress.merge.captures.items
        → Feeds (kind opens Pre Post) (IsEnded input) stage (record stage { progress = record stage.progress { merge = merge }; late = late; phase = phase.Taking })
    feeds_end late merge feeds less = record {
      stands = λ begun seen after so_far over stands.
          let (uncut, (short, runs)) = lacks_of begun seen so_far stands in
          record {
            ready = stands.ready;
            same = stands.same;
            taken = stands.taken;
            in_phase = (
              over.cut ∙ uncut,
              (feeds _ seen.fed seen.ended after.fed after.ended stands.taken (record { handed = over.fed; here = over.ended; others = over.others }) short.merging short.unended, runs),
            );
          };
      room = less;
    }

    -- or a read failed
    pub keeps_cut : Keeps (kind opens Pre Post) IsCut stage (record stage { phase = phase.Closing })
    keeps_cut begun seen after so_far cut stands =
        let (uncut, (short, runs)) = lacks_of begun seen so_far stands in
        let n = length stage.terms.ports.now in
        let merging = short.merging in
        record {
          ready = stands.ready;
          same = stands.same;
          taken = stands.taken;
          in_phase = (
            inr (
              cut.cut,
              record {
                arrive = subst (λ (xs : List _). Arrives xs stands.taken Unshown) (sym (parts_same n seen.fed seen.ended after.fed after.ended cut.fed cut.ended))
                    (arrives_unshown n seen.fed seen.ended stands.taken merging.begins input short.inside short.due);
                marks = λ k inside. cut.ended k ∙ ended_are n seen.fed seen.ended stands.taken stage.progress.merge merging k inside;
              },
            ),
            Begins-on (parts n seen.fed seen.ended) (parts n after.fed after.ended) stands.taken (parts_on n seen.fed seen.ended after.fed after.ended cut.fed cut.ended) merging.begins,
            runs,
          );
        }

  -- ---- it closes

  module _ (stage : Traffic F G) where
    -- what waited was run, and the sums were said
    pub takes_sums : (before mid after : List Output) (gathered : Forwarding) → stage.phase ≡ phase.Closing
        → (tells : Tells opens stage.terms.domain.now stage.terms.readings.now before mid stage.progress.gathered gathered)
        → Adds mid after (sums_by stage.terms.domain.now gathered.sums)
        → ((frames : List Frame) (so_far : List (List ℕ)) → Forwards opens stage.terms.domain.now stage.terms.readings.now frames so_far gathered
        → Forwarded opens stage.terms.domain.now stage.terms.readings.now frames (said_more so_far (sums_by stage.terms.domain.now gathered.sums)))
        → Takes (kind opens Pre Post) stage (record stage { progress = record stage.progress { gathered = gathered }; phase = phase.Closed }) before after
    takes_sums before mid after gathered is tells adds whole =
        let sums = sums_by stage.terms.domain.now gathered.sums in
        record {
          held = omega (arith, ap phase_left is, waiting_none gathered.batch.jobs tells.none, tells.counted);
          room = refl;
          added = said_more tells.added sums;
          adds = adds_then before mid after tells.added sums tells.adds adds;
          stands = λ begun seen so_far stands.
              let (stopped, begins, runs) = in_phase begun stage seen so_far phase.Closing is stands in
              let frames = frames_of stage.terms.ports.now stands.taken in
              let said = whole frames (said_more so_far tells.added) (tells.gathers frames so_far runs.forwards) in
              record {
                ready = stands.ready;
                same = stands.same;
                taken = stands.taken;
                in_phase = (
                  stopped,
                  begins,
                  record {
                    fates = said.fates;
                    become = said.are;
                    texts_are = λ opened. sym (said_then so_far tells.added sums) ∙ said.texts_are opened;
                    few = runs.few;
                    timely = runs.timely;
                  },
                );
              };
        }

    -- all is said
    pub ends_closed : (outputs : List Output) → stage.phase ≡ phase.Closed → Ends (kind opens Pre Post) stage stage outputs outputs
    ends_closed outputs is = record {
      same = refl;
      room = refl;
      stands = λ begun seen so_far stands. stands;
      drained = λ begun seen so_far stands uncut over i inside.
          let (stopped, begins, says) = in_phase begun stage seen so_far phase.Closed is stands in
          let ends = stopped_by seen stands.taken stopped uncut in
          (subst (λ (halt : Halt). EndSo (count_of stage) halt seen) over ends.ends) i (subst (λ (t : Terms F G). i < length t.ports.now) (sym stands.same) inside);
      whole = λ begun seen so_far contents stands uncut covers.
          let (stopped, begins, says) = in_phase begun stage seen so_far phase.Closed is stands in
          let ends = stopped_by seen stands.taken stopped uncut in
          record {
            taken = stands.taken;
            same = stands.same;
            are = ends.arrive contents (subst (λ (t : Terms F G). Covers (length t.ports.now) seen contents) (sym stands.same) covers);
            says = subst (λ (t : Terms F G). Says opens t stands.taken so_far) stands.same says;
          };
      cut = λ begun seen so_far stands cut.
          let (stopped, begins, says) = in_phase begun stage seen so_far phase.Closed is stands in
          let shown = shown_by seen stands.taken stopped cut in (
            record {
              taken = stands.taken;
              same = stands.same;
              are = (seen.ended, shown.marks, shown.arrive);
              says = subst (λ (t : Terms F G). Says opens t stands.taken so_far) stands.same says;
            },
            shown.marks,
          );
    }
      where
        stopped_by : (seen : Seen) (taken : List Arrival) → HasStopped stage seen taken → seen.cut ≡ false → EndsBy stage.terms stage.end seen taken
        stopped_by seen taken (inl stopped) uncut = stopped.1
        stopped_by seen taken (inr stopped) uncut = absurd (false≢true (sym uncut ∙ stopped.0))

        shown_by : (seen : Seen) (taken : List Arrival) → HasStopped stage seen taken → seen.cut ≡ true → AllShown (count_of stage) stage.progress.merge.captures.items seen taken
        shown_by seen taken (inl stopped) cut = absurd (false≢true (sym stopped.0 ∙ cut))
        shown_by seen taken (inr stopped) cut = stopped.1
