-- The laws of traffic as a stage. They stand among the definitions, since a ghost member of an `impl` cites specs/ alone.
use Rattle.std.specs.Prelude.{Result}
use Rattle.std.specs.Borrow.{MutBor}
use Rattle.std.proofs.Common.{◌≡◌, ℕ, Bool, List, [], ◌∷◌, ◌++◌, length, refl, ◌∙◌, ap, subst, append-nil, inl, arith}
use Rattle.std.proofs.lemmas.List.{length-map}
use Rattle.std.proofs.lemmas.List.Elements.{All-nil}
use Rattle.ioam_base.specs.declared.memory.NoMemory.{NoMemory}
use Rattle.ioam_capture.specs.Merge.{Arrival}
use Rattle.ioam_capture_merge.specs.Merge.{Covered, parts, wholes}
use Rattle.ioam_capture_merge.specs.Merging.{Begins}
use Rattle.ioam_capture_merge.proofs.MergeLaws.{Begins-none, Begins-on, wholes_on}
use Rattle.ioam_desk_outputs.specs.Told.{said_more, unsaid}
use Rattle.ioam_desk_outputs.specs.declared.output.Output.{Output}
use Rattle.ioam_run_arrivals.specs.Outlets.{outlet_count}
use Rattle.ioam_run_arrivals.specs.Texts.{texts_of}
use Rattle.ioam_run_arrivals.specs.declared.forwarding.Forwarding.{Forwarding}
use Rattle.ioam_run_arrivals.proofs.FrontsLaws.{texts_count, texts_rest}
use Rattle.ioam_stream.specs.Stage.{Covers, Lawful, Leading, Seen}
use Rattle.ioam_run_traffic.specs.Progress.{Runs}
use Rattle.ioam_run_traffic.specs.Stage.{AreFirsts, BeginsSo, InPhase, Says, count_of, kind}
use Rattle.ioam_run_traffic.specs.Traffic.{IsTimely}
use Rattle.ioam_run_traffic.specs.declared.stage.Phase.{Phase}
use Rattle.ioam_run_traffic.specs.declared.stage.Phase.TheVariants as phase
use Rattle.ioam_run_traffic.specs.declared.stage.Traffic.{Traffic}
use Rattle.ioam_run_traffic.specs.declared.terms.Terms.{Terms}

-- what was handed out is covered
pub covered_by : (n : ℕ) (seen : Seen) (contents : ℕ → List ℕ) → Covers n seen contents → Covered n seen.fed seen.ended contents
covered_by n seen contents covers = record { front = covers.front; whole = covers.whole }

-- of the whole captures these records are taken first too
pub whole_begins : (n : ℕ) (seen : Seen) (contents : ℕ → List ℕ) (taken : List Arrival) → Covers n seen contents
    → Begins (parts n seen.fed seen.ended) taken → Begins (wholes n contents) taken
whole_begins n seen contents taken covers begins =
    Begins-on (parts n seen.fed seen.ended) (wholes n contents) taken (wholes_on n seen.fed seen.ended contents (covered_by n seen contents covers)) begins

-- nothing more is said
said_none : (texts : List (List ℕ)) → said_more texts (unsaid texts) ≡ texts
said_none [] = refl
said_none (text ∷ texts) =
    let first = append-nil text in
    let others = said_none texts in
    cc

module _ {F G : Type 0} (opens : Bool) where
  -- with more after them these are the texts of what was taken
  abbrev pub Completes : Terms F G → List Arrival → List (List ℕ) → Type 0
  Completes terms taken so_far = (rest : List (List ℕ)) × (length rest ≡ outlet_count terms.domain.now) × Says opens terms taken (said_more so_far rest)

  runs_complete : (terms : Terms F G) (taken : List Arrival) (so_far : List (List ℕ)) (gathered : Forwarding) → Runs opens terms taken so_far gathered
      → Completes terms taken so_far
  runs_complete terms taken so_far gathered runs =
      let forwards = runs.forwards in
      let more = texts_rest terms.domain.now terms.readings.now forwards.told forwards.waiting in (
        more.0,
        more.1,
        record {
          fates = forwards.told ++ forwards.waiting;
          become = forwards.are;
          texts_are = λ opened. ap (λ (so : List (List ℕ)). said_more so more.0) (forwards.texts_are opened) ∙ more.2;
          few = runs.few;
          timely = runs.timely;
        },
      )

  says_complete : (terms : Terms F G) (taken : List Arrival) (so_far : List (List ℕ)) → Says opens terms taken so_far → Completes terms taken so_far
  says_complete terms taken so_far says =
      let texts = texts_of terms.domain.now terms.readings.now says.fates in (
        unsaid texts,
        length-map texts (λ _. []) ∙ texts_count terms.domain.now terms.readings.now says.fates,
        record {
          fates = says.fates;
          become = says.become;
          texts_are = λ opened. ap (λ (so : List (List ℕ)). said_more so (unsaid texts)) (says.texts_are opened) ∙ said_none texts;
          few = says.few;
          timely = says.timely;
        },
      )

  -- whatever the phase
  phase_leads : (p : Phase) (stage : Traffic F G) (seen : Seen) (taken : List Arrival) (so_far : List (List ℕ)) → InPhase opens p stage seen taken so_far
      → BeginsSo stage seen taken × Completes stage.terms taken so_far
  phase_leads phase.Taking stage seen taken so_far is = (is.1.0.begins, runs_complete stage.terms taken so_far stage.progress.gathered is.1.1)
  phase_leads (phase.Waiting input) stage seen taken so_far is = (is.1.0.merging.begins, runs_complete stage.terms taken so_far stage.progress.gathered is.1.1)
  phase_leads phase.Closing stage seen taken so_far is = (is.1, runs_complete stage.terms taken so_far stage.progress.gathered is.2)
  phase_leads phase.Closed stage seen taken so_far is = (is.1, says_complete stage.terms taken so_far is.2)

  module _ (Pre : F → MutBor Forwarding → MutBor (List Output) → Type 0)
      (Post : F → MutBor Forwarding → MutBor (List Output) → Result (Unit {0}) NoMemory → MutBor Forwarding → MutBor (List Output) → Type 0) where
    pub leading : (stage : Traffic F G) → Leading (kind opens Pre Post) stage
    leading stage begun seen so_far contents covers stands =
        let so = phase_leads stage.phase stage seen stands.taken so_far stands.in_phase in
        let P : Terms F G → Type 0 = λ t. Begins (parts (length t.ports.now) seen.fed seen.ended) stands.taken × Completes t stands.taken so_far in
        let (begins, more) = subst P stands.same so in (
          more.0,
          more.1,
          record { taken = stands.taken; begins = whole_begins (count_of begun) seen contents stands.taken covers begins; says = more.2 },
        )

    -- nothing was taken
    pub none_first : (begun : Traffic F G) (contents : ℕ → List ℕ) → AreFirsts opens begun contents (texts_of begun.terms.domain.now begun.terms.readings.now [])
    none_first begun contents = record {
      taken = [];
      begins = Begins-none (wholes (count_of begun) contents);
      says = record { fates = []; become = tt; texts_are = λ opened. refl; few = omega arith; timely = All-nil IsTimely };
    }

    abbrev pub lawful : Lawful (kind {G = G} opens Pre Post)
    lawful = record {
      begins = λ begun seen so_far stage contents covers stands. inl (leading stage begun seen so_far contents covers stands);
      waits = λ stage input waits. leading stage;
      none = λ begun contents fresh. (texts_of begun.terms.domain.now begun.terms.readings.now [], texts_count begun.terms.domain.now begun.terms.readings.now [], none_first begun contents);
      parts = λ begun contents so firsts. firsts;
      sealed = λ begun contents so never. absurd never;
      width = λ begun seen so_far stage stands. ap (λ (t : Terms F G). outlet_count t.domain.now) stands.same;
    }
