-- The laws of a generated load as a stage. They stand among the definitions, since a ghost member of an `impl` cites specs/ alone.
use Rattle.std.specs.Prelude.{◌≡◌, ℕ, Bool, true, false, refl, List, [], ◌∷◌}
use Rattle.std.specs.Borrow.{MutBor}
use Rattle.std.proofs.Common.{subst, ◌∙◌, ap, append-nil, inl, inr}
use Rattle.ioam_desk_outputs.specs.Told.{said_more}
use Rattle.ioam_run_arrivals.specs.declared.forwarding.Forwarding.{Forwarding}
use Rattle.ioam_stream.specs.Stage.{Lawful, Leading, Leads}
use Rattle.ioam_run_bulk.specs.Promise.{IsReport}
use Rattle.ioam_run_bulk.specs.Stage.{StandsIn, kind}
use Rattle.ioam_run_bulk.specs.declared.stage.Generating.{Generating}
use Rattle.ioam_run_bulk.specs.declared.terms.Terms.{Terms}

module _ {F : Type 0} (Pre : F → MutBor Forwarding → Type 0) (Post : F → MutBor Forwarding → Unit {0} → MutBor Forwarding → Type 0) where
  -- what was said is nothing, or the report
  pub leads_in : (begun stage : Generating F) (contents : ℕ → List ℕ) (so_far : List (List ℕ)) (said : Bool) → stage.terms ≡ begun.terms
      → StandsIn said stage so_far → Leads (kind Pre Post) begun contents so_far
  leads_in begun stage contents so_far false same says = ([] ∷ [], refl, ([], inl refl, ap (λ (so : List (List ℕ)). said_more so ([] ∷ [])) says.0))
  leads_in begun stage contents so_far true same says = (
    [] ∷ [],
    refl,
    (
      says.0,
      inr (subst (λ (t : Terms F). IsReport t.seed t.count says.0) same says.1),
      ap (λ (so : List (List ℕ)). said_more so ([] ∷ [])) says.2 ∙ ap (λ (text : List ℕ). text ∷ []) (append-nil says.0),
    ),
  )

  abbrev pub leading : (stage : Generating F) → Leading (kind Pre Post) stage
  leading stage begun seen so_far contents covers stands = leads_in begun stage contents so_far stage.said stands.same stands.says

  abbrev pub lawful : Lawful (kind Pre Post)
  lawful = record {
    begins = λ begun seen so_far stage contents covers stands. inl (leading stage begun seen so_far contents covers stands);
    waits = λ stage input waits. leading stage;
    none = λ begun contents fresh. ([] ∷ [], refl, ([], inl refl, refl));
    parts = λ begun contents so firsts. firsts;
    sealed = λ begun contents so never. absurd never;
    width = λ begun seen so_far stage stands. refl;
  }
