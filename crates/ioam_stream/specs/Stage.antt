-- What a stage is handed, and what it makes of it.
use Rattle.std.specs.Prelude.{◌≡◌, ◌≢◌, ℕ, ◌<◌, ◌⊎◌, Bool, true, false, IsTrue, List, [], ◌++◌, length}
use Rattle.ioam_base.specs.Octets.{IsFront}
use Rattle.ioam_desk_outputs.specs.Told.{Adds, said_more}
use Rattle.ioam_desk_outputs.specs.declared.output.Output.{Output}
use Rattle.ioam_stream.specs.declared.stage.Step.{Step}
use Rattle.ioam_stream.specs.declared.stage.Step.TheVariants as step

-- of each input, the octets that were handed out, and whether it has ended; and whether no more can be had of any
pub record Seen : Type 0 where
  pub fed : ℕ → List ℕ
  pub ended : ℕ → Bool
  pub cut : Bool

-- nothing was handed out
abbrev pub unseen : Seen
unseen = record { fed = λ i. []; ended = λ i. false; cut = false }

-- what some octets are: all that the inputs hold, or what was handed out of them before a read failed
pub data How : Type 0 where
  Ended : How
  Handed : How

-- a piece of one input was handed out, and its end
pub record IsFed (input : ℕ) (piece : List ℕ) (old new : Seen) : Type 0 where
  pub is_open : old.ended input ≡ false
  pub fed : new.fed input ≡ old.fed input ++ piece
  pub others : (k : ℕ) → k ≢ input → new.fed k ≡ old.fed k
  pub ended : (k : ℕ) → new.ended k ≡ old.ended k
  pub cut : new.cut ≡ old.cut

pub record IsEnded (input : ℕ) (old new : Seen) : Type 0 where
  pub fed : (k : ℕ) → new.fed k ≡ old.fed k
  pub ended : new.ended input ≡ true
  pub others : (k : ℕ) → k ≢ input → new.ended k ≡ old.ended k
  pub cut : new.cut ≡ old.cut

-- no more can be had
pub record IsCut (old new : Seen) : Type 0 where
  pub fed : (k : ℕ) → new.fed k ≡ old.fed k
  pub ended : (k : ℕ) → new.ended k ≡ old.ended k
  pub cut : new.cut ≡ true

-- what was handed out is a prefix of what the inputs hold, and all of it where they have ended
pub record Covers (inputs : ℕ) (seen : Seen) (contents : ℕ → List ℕ) : Type 0 where
  pub front : (i : ℕ) → i < inputs → IsFront (seen.fed i) (contents i)
  pub whole : (i : ℕ) → i < inputs → IsTrue (seen.ended i) → contents i ≡ seen.fed i

-- What a stage is: how many inputs it reads and to how many outputs it says texts, which stays so while it runs; when
-- nothing was taken yet; that the stage that began as the first, now the second, was handed this and has said these texts;
-- which texts are said of octets from the first stage to the second, when all is said; which texts are those of some first
-- items, either with something that comes only before an end is answered, or without it; when the stage has taken its inputs to their ends; which of them it knows to have ended, after a read that failed;
-- which input it needs more of; how much it still holds, and may still be fed.
pub record Kind (S : Type 0) : Type 1 where
  pub inputs : S → ℕ
  pub width : S → ℕ
  pub fresh : S → Type 0
  pub stands : S → Seen → List (List ℕ) → S → Type 0
  pub texts : S → S → How → (ℕ → List ℕ) → List (List ℕ) → Type 0
  pub firsts : S → (ℕ → List ℕ) → List (List ℕ) → Type 0
  pub sealed : S → (ℕ → List ℕ) → List (List ℕ) → Type 0
  pub parts : S → (ℕ → List ℕ) → List (List ℕ) → Type 0
  pub drains : S → Type 0
  pub marks : S → (ℕ → Bool) → Type 0
  pub waits : S → ℕ → Type 0
  pub held : S → ℕ
  pub room : S → ℕ

module _ {S : Type 0} (kind : Kind S) where
  -- with more after them, these are the texts of some first items
  abbrev pub Leads : S → (ℕ → List ℕ) → List (List ℕ) → Type 0
  Leads begun contents so_far = (rest : List (List ℕ)) × (length rest ≡ kind.width begun) × kind.parts begun contents (said_more so_far rest)

  -- so does whatever the stage has said
  abbrev pub Leading : S → Type 0
  Leading stage = (begun : S) (seen : Seen) (so_far : List (List ℕ)) (contents : ℕ → List ℕ) → Covers (kind.inputs begun) seen contents
      → kind.stands begun seen so_far stage → Leads begun contents so_far

  -- what was said leads to texts of some first items, unless it is sealed; there are texts of none; the outputs stay as many
  pub record Lawful : Type 0 where
    pub begins : (begun : S) (seen : Seen) (so_far : List (List ℕ)) (stage : S) (contents : ℕ → List ℕ)
        → Covers (kind.inputs begun) seen contents → kind.stands begun seen so_far stage → Leads begun contents so_far ⊎ kind.sealed begun contents so_far
    pub waits : (stage : S) (input : ℕ) → kind.waits stage input → Leading stage
    pub none : (begun : S) (contents : ℕ → List ℕ) → kind.fresh begun
        → (so : List (List ℕ)) × (length so ≡ kind.width begun) × kind.parts begun contents so
    pub parts : (begun : S) (contents : ℕ → List ℕ) (so : List (List ℕ)) → kind.parts begun contents so → kind.firsts begun contents so
    pub sealed : (begun : S) (contents : ℕ → List ℕ) (so : List (List ℕ)) → kind.sealed begun contents so → kind.firsts begun contents so
    pub width : (begun : S) (seen : Seen) (so_far : List (List ℕ)) (stage : S) → kind.stands begun seen so_far stage → kind.width stage ≡ kind.width begun

  -- the stage stands for something
  pub record Standing (stage : S) : Type 0 where
    pub begun : S
    pub seen : Seen
    pub so_far : List (List ℕ)
    pub stands : kind.stands begun seen so_far stage

  -- the stage that began as the first has said all of some octets
  abbrev pub HasSaid : S → S → Type 0
  HasSaid begun stage = (octets : ℕ → List ℕ) × (so : List (List ℕ)) × kind.texts begun stage Ended octets so

  -- what stands before the first item was said
  abbrev pub Begins : S → List Output → List Output → Type 0
  Begins stage before after = (added : List (List ℕ)) × Adds before after added × (kind.fresh stage → kind.stands stage unseen added stage)

  -- the stage stands for what it stood for, and something more
  abbrev pub Keeps : (Seen → Seen → Type 0) → S → S → Type 0
  Keeps More old new = (begun : S) (seen after : Seen) (so_far : List (List ℕ)) → More seen after
      → kind.stands begun seen so_far old → kind.stands begun after so_far new

  -- and less may be fed
  pub record Feeds (More : Seen → Seen → Type 0) (old new : S) : Type 0 where
    pub stands : Keeps More old new
    pub room : kind.room new < kind.room old

  module _ (old new : S) (before after : List Output) where
    -- an item was taken, and something said
    pub record Takes : Type 0 where
      pub held : kind.held new < kind.held old
      pub room : kind.room new ≡ kind.room old
      pub added : List (List ℕ)
      pub adds : Adds before after added
      pub stands : (begun : S) (seen : Seen) (so_far : List (List ℕ)) → kind.stands begun seen so_far old → kind.stands begun seen (said_more so_far added) new

    -- all that was handed out whole is taken, and this input hasn't ended
    pub record Waits (input : ℕ) : Type 0 where
      pub same : after ≡ before
      pub room : kind.room new ≡ kind.room old
      pub inside : (begun : S) (seen : Seen) (so_far : List (List ℕ)) → kind.stands begun seen so_far old → input < kind.inputs begun
      pub waits : kind.waits new input
      pub stands : (begun : S) (seen : Seen) (so_far : List (List ℕ)) → kind.stands begun seen so_far old → kind.stands begun seen so_far new
      pub is_open : (begun : S) (seen : Seen) (so_far : List (List ℕ)) → kind.stands begun seen so_far old → seen.ended input ≡ false
      pub uncut : (begun : S) (seen : Seen) (so_far : List (List ℕ)) → kind.stands begun seen so_far old → seen.cut ≡ false

    -- all is said: of all that the inputs hold, whatever else that is, or of what was handed out where no more can be had
    pub record Ends : Type 0 where
      pub same : after ≡ before
      pub room : kind.room new ≡ kind.room old
      pub stands : (begun : S) (seen : Seen) (so_far : List (List ℕ)) → kind.stands begun seen so_far old → kind.stands begun seen so_far new
      pub drained : (begun : S) (seen : Seen) (so_far : List (List ℕ)) → kind.stands begun seen so_far old → seen.cut ≡ false → kind.drains new
          → (i : ℕ) → i < kind.inputs begun → IsTrue (seen.ended i)
      pub whole : (begun : S) (seen : Seen) (so_far : List (List ℕ)) (contents : ℕ → List ℕ) → kind.stands begun seen so_far old → seen.cut ≡ false
          → Covers (kind.inputs begun) seen contents → kind.texts begun new Ended contents so_far
      pub cut : (begun : S) (seen : Seen) (so_far : List (List ℕ)) → kind.stands begun seen so_far old → seen.cut ≡ true
          → kind.texts begun new Handed seen.fed so_far × kind.marks new seen.ended

    -- what one step did
    abbrev pub Steps : Step → Type 0
    Steps step.Taken = Takes
    Steps (step.More input) = Waits input
    Steps step.End = Ends
