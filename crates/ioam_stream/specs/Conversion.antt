-- What a command makes of the items of its one input: items that are taken one by one, and then a tail, said in parts.
use Rattle.std.specs.Prelude.{◌≡◌, ℕ, ◌+◌, ◌<◌, ◌≤◌, ⊤, Bool, true, false, IsTrue, List, [], ◌++◌, length}
use Rattle.ioam_desk_outputs.specs.Told.{Adds, said_more}
use Rattle.ioam_desk_outputs.specs.declared.output.Output.{Output}
use Rattle.ioam_stream.specs.Stage.{Kind, Seen, How, Ended, Handed, Covers}
use Rattle.ioam_stream.specs.declared.conversion.Conversion.{Conversion}
use Rattle.ioam_stream.specs.declared.conversion.Phase.{Phase}
use Rattle.ioam_stream.specs.declared.conversion.Phase.TheVariants as phase
use Rattle.ioam_stream.specs.declared.stage.Step.{Step}
use Rattle.ioam_stream.specs.declared.stage.Step.TheVariants as step
use Rattle.ioam_stream.specs.declared.conversion.Tail.{Tail}
use Rattle.ioam_stream.specs.declared.conversion.Tail.TheVariants as tail
use Rattle.ioam_stream.specs.declared.conversion.Took.{Took}
use Rattle.ioam_stream.specs.declared.conversion.Took.TheVariants as took

-- What a converter is. `stands begun octets so_far now`: it was handed these octets, and has said these texts. `stops`: no
-- item is taken any more, of octets that are all or were handed out, and the tail isn't said to its end. `texts`: these are the whole
-- texts. `firsts`: these are the texts of some first items.
pub record Converts (C : Type 0) : Type 1 where
  pub width : ℕ
  pub fresh : C → Type 0
  pub stands : C → List ℕ → List (List ℕ) → C → Type 0
  pub stops : C → How → List ℕ → List (List ℕ) → C → Type 0
  pub texts : C → C → How → List ℕ → List (List ℕ) → Type 0
  pub firsts : C → List ℕ → List (List ℕ) → Type 0
  pub drains : C → Type 0
  pub waits : C → Type 0
  pub held : C → ℕ
  pub room : C → ℕ

module _ {C : Type 0} (does : Converts C) where
  -- with more after them, these are the texts of some first items
  abbrev pub LeadsTo : C → List ℕ → List (List ℕ) → Type 0
  LeadsTo begun octets so_far = (rest : List (List ℕ)) × (length rest ≡ does.width) × does.firsts begun octets (said_more so_far rest)

  -- what was said leads to texts of some first items, whatever octets follow; there are texts of none
  pub record Sound : Type 0 where
    pub begins : (begun : C) (octets rest : List ℕ) (so_far : List (List ℕ)) (now : C) → does.stands begun octets so_far now → LeadsTo begun (octets ++ rest) so_far
    pub stopped : (begun : C) (how : How) (octets : List ℕ) (so_far : List (List ℕ)) (now : C) → does.stops begun how octets so_far now → LeadsTo begun octets so_far
    pub ended : (begun now : C) (how : How) (octets : List ℕ) (so : List (List ℕ)) → does.texts begun now how octets so → LeadsTo begun octets so
    pub more : (begun : C) (octets rest : List ℕ) (so : List (List ℕ)) → does.firsts begun octets so → does.firsts begun (octets ++ rest) so
    pub none : (begun : C) (octets : List ℕ) → does.fresh begun → (so : List (List ℕ)) × (length so ≡ does.width) × does.firsts begun octets so

  -- it stands for something
  pub record StandsSo (now : C) : Type 0 where
    pub begun : C
    pub octets : List ℕ
    pub so_far : List (List ℕ)
    pub stands : does.stands begun octets so_far now

  pub record StopsSo (now : C) : Type 0 where
    pub begun : C
    pub how : How
    pub octets : List ℕ
    pub so_far : List (List ℕ)
    pub stops : does.stops begun how octets so_far now

  -- what comes before the first item was said
  abbrev pub Opens : C → List Output → List Output → Type 0
  Opens now before after = (added : List (List ℕ)) × Adds before after added × (does.fresh now → does.stands now [] added now)

  -- these octets more were handed out
  pub record Refills (piece : List ℕ) (old new : C) : Type 0 where
    pub room : does.room new < does.room old
    pub stands : (begun : C) (octets : List ℕ) (so_far : List (List ℕ)) → does.stands begun octets so_far old → does.stands begun (octets ++ piece) so_far new

  -- no more is to come: of all octets, or of those that were handed out
  pub record Finishes (how : How) (old new : C) : Type 0 where
    pub room : does.room new ≡ does.room old
    pub stops : (begun : C) (octets : List ℕ) (so_far : List (List ℕ)) → does.stands begun octets so_far old → does.stops begun how octets so_far new

  module _ (old new : C) (before after : List Output) where
    -- an item was taken, and something said
    pub record TakesOne : Type 0 where
      pub held : does.held new < does.held old
      pub added : List (List ℕ)
      pub adds : Adds before after added
      pub stands : (begun : C) (octets : List ℕ) (so_far : List (List ℕ)) → does.stands begun octets so_far old → does.stands begun octets (said_more so_far added) new

    -- all items that were handed out whole are taken
    pub record NeedsMore : Type 0 where
      pub same : after ≡ before
      pub waits : does.waits new
      pub stands : (begun : C) (octets : List ℕ) (so_far : List (List ℕ)) → does.stands begun octets so_far old → does.stands begun octets so_far new

    -- whatever follows, no item is taken any more
    pub record TakesNone : Type 0 where
      pub same : after ≡ before
      pub held : does.held new ≤ does.held old
      pub stops : (begun : C) (octets rest : List ℕ) (so_far : List (List ℕ)) → does.stands begun octets so_far old → does.stops begun Ended (octets ++ rest) so_far new
      pub undrained : does.drains new → ⊥

    -- what one call took
    abbrev pub Takes : Took → Type 0
    Takes took.Item = TakesOne
    Takes took.More = NeedsMore
    Takes took.Stop = TakesNone

    -- a part of the tail was said, and more is to come
    pub record SaysPart : Type 0 where
      pub held : does.held new < does.held old
      pub room : does.room new ≡ does.room old
      pub added : List (List ℕ)
      pub adds : Adds before after added
      pub stops : (begun : C) (how : How) (octets : List ℕ) (so_far : List (List ℕ)) → does.stops begun how octets so_far old → does.stops begun how octets (said_more so_far added) new
      pub drains : does.drains new → does.drains old

    -- the last of it was said
    pub record SaysLast : Type 0 where
      pub room : does.room new ≡ does.room old
      pub added : List (List ℕ)
      pub adds : Adds before after added
      pub texts : (begun : C) (how : How) (octets : List ℕ) (so_far : List (List ℕ)) → does.stops begun how octets so_far old → does.texts begun new how octets (said_more so_far added)
      pub drains : does.drains new → does.drains old

    -- what one call said of the tail
    abbrev pub Closes : Tail → Type 0
    Closes tail.Rest = SaysPart
    Closes tail.End = SaysLast

  -- ---- a converter as a stage

  -- what is said of the octets that are all, or were handed out, once no item is taken any more
  pub record SaysSo (Says : How → List ℕ → Type 0) (drains : Type 0) (seen : Seen) : Type 0 where
    pub whole : seen.cut ≡ false → (contents : ℕ → List ℕ) → Covers 1 seen contents → Says Ended (contents 0)
    pub handed : seen.cut ≡ true → Says Handed (seen.fed 0)
    pub drained : seen.cut ≡ false → drains → IsTrue (seen.ended 0)

  -- items are still taken
  pub record IsTaking (begun : C) (seen : Seen) (so_far : List (List ℕ)) (now : Conversion C) : Type 0 where
    pub stands : does.stands begun (seen.fed 0) so_far now.converter
    pub is_open : seen.ended 0 ≡ false
    pub unended : now.ended ≡ false
    pub uncut : seen.cut ≡ false

  -- by its phase
  abbrev pub StandsIn : Phase → C → Seen → List (List ℕ) → Conversion C → Type 0
  StandsIn phase.Taking begun seen so_far now = IsTaking begun seen so_far now
  StandsIn phase.Closing begun seen so_far now = SaysSo (λ how octets. does.stops begun how octets so_far now.converter) (does.drains now.converter) seen
  StandsIn phase.Closed begun seen so_far now = SaysSo (λ how octets. does.texts begun now.converter how octets so_far) (does.drains now.converter) seen

  abbrev pub phase_after : Tail → Phase
  phase_after tail.Rest = phase.Closing
  phase_after tail.End = phase.Closed

  -- the tail was said, or a part of it, in a step
  pub record IsClosing (old new : Conversion C) (before after : List Output) (answer : Step) : Type 0 where
    pub left : Tail
    pub closes : Closes old.converter new.converter before after left
    pub phase : new.phase ≡ phase_after left
    pub ended : new.ended ≡ old.ended
    pub taken : answer ≡ step.Taken

  abbrev pub held_in : Phase → ℕ → ℕ
  held_in phase.Taking held = held + 2
  held_in phase.Closing held = held + 1
  held_in phase.Closed held = 0

  abbrev pub not_yet : Bool → ℕ
  not_yet true = 0
  not_yet false = 1

  -- nothing was taken yet
  pub record IsFresh (now : Conversion C) : Type 0 where
    pub fresh : does.fresh now.converter
    pub phase : now.phase ≡ phase.Taking
    pub ended : now.ended ≡ false

  -- it needs more of its input
  pub record IsShort (now : Conversion C) (input : ℕ) : Type 0 where
    pub first : input ≡ 0
    pub phase : now.phase ≡ phase.Taking
    pub waits : does.waits now.converter

  abbrev pub kind : Kind (Conversion C)
  kind = record {
    inputs = λ now. 1;
    width = λ now. does.width;
    fresh = IsFresh;
    stands = λ begun seen so_far now. StandsIn now.phase begun.converter seen so_far now;
    texts = λ begun now how contents. does.texts begun.converter now.converter how (contents 0);
    firsts = λ begun contents. does.firsts begun.converter (contents 0);
    sealed = λ begun contents so. ⊥;
    parts = λ begun contents. does.firsts begun.converter (contents 0);
    drains = λ now. does.drains now.converter;
    marks = λ now ended. ⊤;
    waits = IsShort;
    held = λ now. held_in now.phase (does.held now.converter);
    room = λ now. does.room now.converter + not_yet now.ended;
  }
