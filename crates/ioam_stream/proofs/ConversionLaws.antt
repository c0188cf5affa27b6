-- Steps of a converter as a stage.
use Rattle.std.proofs.Common.{◌≡◌, ℕ, ◌+◌, Bool, true, false, List, [], ◌++◌, refl, sym, ap, ◌∙◌, subst, append-nil, arith}
use Rattle.std.specs.Prelude.{Result, Ok, Err, OnErr}
use Rattle.std.proofs.lemmas.Bool.{true≢false}
use Rattle.ioam_desk_outputs.specs.Told.{Adds, said_more}
use Rattle.ioam_desk_outputs.specs.declared.output.Output.{Output}
use Rattle.ioam_stream.specs.Stage.{Standing, Seen, Covers, Ended, Handed, Steps, Takes}
use Rattle.ioam_stream.specs.Conversion.{Converts, StandsSo, StopsSo, TakesNone, SaysSo, StandsIn, IsTaking, IsClosing, Closes, phase_after, held_in, not_yet, kind}
use Rattle.ioam_stream.specs.declared.conversion.Conversion.{Conversion}
use Rattle.ioam_stream.specs.declared.conversion.Phase.{Phase}
use Rattle.ioam_stream.specs.declared.conversion.Phase.TheVariants as phase
use Rattle.ioam_stream.specs.declared.conversion.Tail.{Tail}
use Rattle.ioam_stream.specs.declared.conversion.Tail.TheVariants as tail
use Rattle.ioam_stream.specs.declared.stage.Step.{Step}

pub on_err : {T E : Type 0} (r : Result T E) (P : Type 0) → P → OnErr r P
on_err (Ok x) P p = tt
on_err (Err e) P p = p

module _ {C : Type 0} (does : Converts C) where
  all_covers : (seen : Seen) → Covers 1 seen seen.fed
  all_covers seen = record { front = λ i inside. record { rest = []; is = sym (append-nil (seen.fed i)) }; whole = λ i inside ended. refl }

  -- where it stands for something before its tail, so does the converter
  pub closing_stops : (now : Conversion C) → Standing (kind does) now → now.phase ≡ phase.Closing → StopsSo does now.converter
  closing_stops now standing is = by_cut standing.seen.cut refl
    where
      says : SaysSo does (λ how octets. does.stops standing.begun.converter how octets standing.so_far now.converter) (does.drains now.converter) standing.seen
      says = subst (λ (p : Phase). StandsIn does p standing.begun.converter standing.seen standing.so_far now) is standing.stands

      by_cut : (cut : Bool) → standing.seen.cut ≡ cut → StopsSo does now.converter
      by_cut true cut = record { begun = standing.begun.converter; how = Handed; octets = standing.seen.fed 0; so_far = standing.so_far; stops = says.handed cut }
      by_cut false cut = record {
        begun = standing.begun.converter;
        how = Ended;
        octets = standing.seen.fed 0;
        so_far = standing.so_far;
        stops = says.whole cut standing.seen.fed (all_covers standing.seen);
      }

  taking_stands : (now : Conversion C) → (standing : Standing (kind does) now) → now.phase ≡ phase.Taking → IsTaking does standing.begun.converter standing.seen standing.so_far now
  taking_stands now standing is = subst (λ (p : Phase). StandsIn does p standing.begun.converter standing.seen standing.so_far now) is standing.stands

  -- where no item is taken any more, the tail may be said
  pub stop_stops : (old : Conversion C) (now : C) (before after : List Output) → Standing (kind does) old → old.phase ≡ phase.Taking
      → TakesNone does old.converter now before after → StopsSo does now
  stop_stops old now before after standing is none = record {
    begun = standing.begun.converter;
    how = Ended;
    octets = standing.seen.fed 0 ++ [];
    so_far = standing.so_far;
    stops = none.stops standing.begun.converter (standing.seen.fed 0) [] standing.so_far (taking_stands old standing is).stands;
  }
