-- A text that is said part by part, and the stage that says it, which reads nothing.
use Rattle.std.specs.Prelude.{◌≡◌, ℕ, ◌+◌, ◌<◌, ⊤, Bool, true, false, refl, List, [], ◌∷◌, ◌++◌, Result, Ok, Err}
use Rattle.std.proofs.Common.{◌∙◌, ap, sym, append-nil, inl}
use Rattle.ioam_base.specs.Octets.{IsFront}
use Rattle.ioam_desk.specs.declared.fault.DeskFault.{DeskFault}
use Rattle.ioam_desk.specs.declared.fault.DeskFault.TheVariants.{Failed, NoMemory}
use Rattle.ioam_desk_outputs.specs.Told.{said_more}
use Rattle.ioam_run_part.specs.declared.telling.Telling.{Telling}
use Rattle.ioam_stream.specs.Stage.{Kind, Lawful, Leading, Seen}
use Rattle.ioam_stream.specs.declared.conversion.Tail.{Tail}
use Rattle.ioam_stream.specs.declared.conversion.Tail.TheVariants as tail
use Rattle.ioam_stream.specs.declared.reading.Stop.{Stop}
use Rattle.ioam_stream.specs.declared.reading.Stop.TheVariants as stop

-- what became of the text, by how its run stopped
abbrev pub stored_by : Stop → Result (Unit {0}) DeskFault
stored_by stop.Ended = Ok tt
stored_by stop.ReadFault = Err NoMemory
stored_by stop.WriteFault = Err Failed
stored_by stop.NoMemory = Err NoMemory

-- `says` is the text that a source is still to say, `left` of how many parts it is
module _ {T : Type 0} (says : T → List ℕ → Type 0) (left : T → ℕ) where
  module _ (old new : T) (before after : List ℕ) where
    -- a part was appended, and more is to come
    pub record PutsPart : Type 0 where
      pub fewer : left new < left old
      pub added : List ℕ
      pub is : after ≡ before ++ added
      pub rest : (text : List ℕ) → says old text → (more : List ℕ) × says new more × (text ≡ added ++ more)

    -- the last part was appended
    pub record PutsLast : Type 0 where
      pub added : List ℕ
      pub is : after ≡ before ++ added
      pub all : (text : List ℕ) → says old text → text ≡ added

    -- what one call appended
    abbrev pub Puts : Tail → Type 0
    Puts tail.Rest = PutsPart
    Puts tail.End = PutsLast

  -- what of a text is still to be said, once this was
  abbrev pub Leaves : Bool → T → List ℕ → List ℕ → Type 0
  Leaves true now said text = text ≡ said
  Leaves false now said text = (more : List ℕ) × says now more × (text ≡ said ++ more)

  -- the stage has said this of the text that it began with
  pub record IsTelling (begun : Telling T) (seen : Seen) (so_far : List (List ℕ)) (now : Telling T) : Type 0 where
    pub said : List ℕ
    pub is : so_far ≡ said ∷ []
    pub leaves : (text : List ℕ) → says begun.source text → Leaves now.done now.source said text

  module _ (begun : Telling T) (so : List (List ℕ)) where
    -- this is the text that the stage began with
    pub record Tells : Type 0 where
      pub said : List ℕ
      pub is : so ≡ said ∷ []
      pub all : (text : List ℕ) → says begun.source text → text ≡ said

    -- this is a prefix of it
    pub record TellsFront : Type 0 where
      pub said : List ℕ
      pub is : so ≡ said ∷ []
      pub front : (text : List ℕ) → says begun.source text → IsFront said text

  -- what may still be handed to a stage that never asks for it, and doesn't look at it: once something
  abbrev pub unfed : Bool → ℕ
  unfed false = 1
  unfed true = 0

  abbrev pub held_by : Bool → ℕ → ℕ
  held_by true n = 0
  held_by false n = n + 1

  abbrev pub kind : Kind (Telling T)
  kind = record {
    inputs = λ now. 0;
    width = λ now. 1;
    fresh = λ now. now.done ≡ false;
    stands = IsTelling;
    texts = λ begun now how contents so. Tells begun so;
    firsts = λ begun contents so. TellsFront begun so;
    sealed = λ begun contents so. ⊥;
    parts = λ begun contents so. TellsFront begun so;
    drains = λ now. ⊤;
    marks = λ now ended. ⊤;
    waits = λ now input. now.fed ≡ false;
    held = λ now. held_by now.done (left now.source);
    room = λ now. unfed now.fed;
  }

  -- ---- The law of the stage. It stands here, since a ghost member of an `impl` cites specs/ alone.

  pub front_left : (done : Bool) (now : T) (said text : List ℕ) → Leaves done now said text → IsFront said text
  front_left true now said text is = record { rest = []; is = is ∙ sym (append-nil said) }
  front_left false now said text more = record { rest = more.0; is = more.2 }

  pub leading : (now : Telling T) → Leading kind now
  leading now begun seen so_far contents covers s = (
    [] ∷ [],
    refl,
    record {
      said = s.said;
      is = ap (λ (ts : List (List ℕ)). said_more ts ([] ∷ [])) s.is ∙ ap (λ (o : List ℕ). o ∷ []) (append-nil s.said);
      front = λ text t. front_left now.done now.source s.said text (s.leaves text t);
    },
  )

  abbrev pub lawful : Lawful kind
  lawful = record {
    begins = λ begun seen so_far now contents covers s. inl (leading now begun seen so_far contents covers s);
    waits = λ now input waits. leading now;
    none = λ begun contents fresh. ([] ∷ [], refl, record { said = []; is = refl; front = λ text t. record { rest = text; is = refl } });
    parts = λ begun contents so firsts. firsts;
    sealed = λ begun contents so never. absurd never;
    width = λ begun seen so_far now stands. refl;
  }
