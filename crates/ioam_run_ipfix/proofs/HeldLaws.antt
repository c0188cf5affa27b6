-- What OUT holds of the texts that were said.
use Rattle.std.proofs.Common.{ℕ, ◌∷◌, List, [], subst, arith}
use Rattle.ioam_desk.specs.Touches.{State}
use Rattle.ioam_desk_outputs.specs.Held.{HoldTexts, HoldFronts}
use Rattle.ioam_dex.specs.Record.{Record}
use Rattle.ioam_run_ipfix.specs.Texts.{HoldsText, HoldsFront, Says}

-- `Is` says which text is that of records, `First` which are the first of the octets
module _ (Is First : List Record → List ℕ → Type 0) (old new : State) (out : List ℕ) where
  pub text_held : (Are These : List Record → List ℕ → Type 0) (so : List (List ℕ)) (of all : List ℕ) → ((records : List Record) → These records of → Are records all)
      → Says Is (λ records octets. These records octets × First records octets) of so → HoldTexts new.outputs (out ∷ []) so → HoldsText Is Are new.outputs out all
  text_held Are These so of all on says held = record {
    records = says.records;
    are = on says.records says.are.0;
    few = says.few;
    text = says.text;
    is = says.is;
    held = (subst (λ (texts : List (List ℕ)). HoldTexts new.outputs (out ∷ []) texts) says.said held).0;
  }

  pub front_held : (so : List (List ℕ)) (of : List ℕ) → Says Is First of so → HoldFronts old.outputs new.outputs 0 (out ∷ []) so → HoldsFront Is First old.outputs new.outputs out of
  front_held so of says held = record {
    records = says.records;
    are = says.are;
    few = says.few;
    text = says.text;
    is = says.is;
    held = λ opened. (subst (λ (texts : List (List ℕ)). HoldFronts old.outputs new.outputs 0 (out ∷ []) texts) says.said held).0 (omega (arith, opened));
  }
