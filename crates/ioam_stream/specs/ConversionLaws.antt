-- The laws of a converter as a stage. They stand among the definitions, since a ghost member of an `impl` cites specs/ alone.
use Rattle.std.specs.Prelude.{◌≡◌, ℕ, Bool, true, false, refl, List}
use Rattle.std.proofs.Common.{sym, subst, inl, arith}
use Rattle.ioam_desk_outputs.specs.Told.{said_more}
use Rattle.ioam_stream.specs.Stage.{Lawful, Leading, Seen, Covers, How, Ended, Handed}
use Rattle.ioam_stream.specs.Conversion.{Converts, Sound, LeadsTo, SaysSo, StandsIn, kind}
use Rattle.ioam_stream.specs.declared.conversion.Conversion.{Conversion}
use Rattle.ioam_stream.specs.declared.conversion.Phase.{Phase}
use Rattle.ioam_stream.specs.declared.conversion.Phase.TheVariants as phase

module _ {C : Type 0} (does : Converts C) (sound : Sound does) where
  -- texts that lead to others do so whatever follows
  pub leads_on : (begun : C) (seen : Seen) (so_far : List (List ℕ)) (contents : ℕ → List ℕ) → Covers 1 seen contents → LeadsTo does begun (seen.fed 0) so_far
      → LeadsTo does begun (contents 0) so_far
  leads_on begun seen so_far contents covers leads =
      let front = covers.front 0 (omega arith) in (
        leads.0,
        leads.1,
        subst (λ (xs : List ℕ). does.firsts begun xs (said_more so_far leads.0)) (sym front.is) (sound.more begun (seen.fed 0) front.rest (said_more so_far leads.0) leads.2),
      )

  pub leads_by : (Says : How → List ℕ → Type 0) (drains : Type 0) (begun : C) (seen : Seen) (so_far : List (List ℕ)) (contents : ℕ → List ℕ)
      → ((how : How) (octets : List ℕ) → Says how octets → LeadsTo does begun octets so_far) → Covers 1 seen contents → SaysSo does Says drains seen
      → (cut : Bool) → seen.cut ≡ cut → LeadsTo does begun (contents 0) so_far
  leads_by Says drains begun seen so_far contents leads covers says true is = leads_on begun seen so_far contents covers (leads Handed (seen.fed 0) (says.handed is))
  leads_by Says drains begun seen so_far contents leads covers says false is = leads Ended (contents 0) (says.whole is contents covers)

  pub begins_in : (p : Phase) (begun : C) (seen : Seen) (so_far : List (List ℕ)) (now : Conversion C) (contents : ℕ → List ℕ) → Covers 1 seen contents
      → StandsIn does p begun seen so_far now → LeadsTo does begun (contents 0) so_far
  begins_in phase.Taking begun seen so_far now contents covers taking =
      let front = covers.front 0 (omega arith) in
      subst (λ (xs : List ℕ). LeadsTo does begun xs so_far) (sym front.is) (sound.begins begun (seen.fed 0) front.rest so_far now.converter taking.stands)
  begins_in phase.Closing begun seen so_far now contents covers says =
      leads_by _ _ begun seen so_far contents (λ how octets. sound.stopped begun how octets so_far now.converter) covers says seen.cut refl
  begins_in phase.Closed begun seen so_far now contents covers says =
      leads_by _ _ begun seen so_far contents (λ how octets. sound.ended begun now.converter how octets so_far) covers says seen.cut refl

  abbrev pub leading : (now : Conversion C) → Leading (kind does) now
  leading now begun seen so_far contents covers stands = begins_in now.phase begun.converter seen so_far now contents covers stands

  abbrev pub lawful : Lawful (kind does)
  lawful = record {
    begins = λ begun seen so_far now contents covers stands. inl (leading now begun seen so_far contents covers stands);
    waits = λ now input waits. leading now;
    none = λ begun contents fresh. sound.none begun.converter (contents 0) fresh.fresh;
    parts = λ begun contents so firsts. firsts;
    sealed = λ begun contents so never. absurd never;
    width = λ begun seen so_far now stands. refl;
  }
