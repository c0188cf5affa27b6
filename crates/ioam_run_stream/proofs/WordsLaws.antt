-- From the answers over files whose names differ to those over all names.
use Rattle.std.proofs.Common.{◌≡◌, ℕ, suc, ◌<◌, ◌⊎◌, List, [], ◌∷◌, length, take, sym, subst, ⊎_elim, arith}
use Rattle.std.proofs.lemmas.List.Elements.{Contains-append_right}
use Rattle.ioam_desk_outputs.specs.Names.{name_at, AreApart, IsFirstRepeat}
use Rattle.ioam_run_answer.specs.Desks.{Desks}
use Rattle.ioam_run_answer.specs.declared.outcome.Outcome.{Outcome}
use Rattle.ioam_run_answer.specs.declared.outcome.Outcome.TheVariants as outcome
use Rattle.ioam_run_stream.specs.Promise.{CaptureNames, all_names, most_packets, HasCause}
use Rattle.ioam_run_stream.specs.Answers.{FileCause}

-- the outputs' names differ where all do
pub apart_tail : (name : List ℕ) (names : List (List ℕ)) → AreApart (name ∷ names) → AreApart names
apart_tail name names apart = λ at inside repeats.
    let within : suc at < length (name ∷ names) = omega (arith, inside) in
    apart (suc at) within (Contains-append_right (name ∷ []) (take at names) (name_at names at) repeats)

module _ (desks : Desks) (files : CaptureNames) where
  pub cause_of_file : (answer : Outcome) → AreApart (all_names files)
      → FileCause most_packets desks.tells files.input desks.old_in desks.old desks.new_in desks.new answer → HasCause desks files answer
  cause_of_file outcome.Done apart cause = (apart, cause)
  cause_of_file outcome.Usage apart cause = cause
  cause_of_file (outcome.Domain why) apart cause = cause
  cause_of_file (outcome.Readings why) apart cause = cause
  cause_of_file (outcome.Names name) apart cause = absurd cause
  cause_of_file (outcome.Capture name at fault) apart cause = (apart, cause.0, cause.1)
  cause_of_file (outcome.Packets limit) apart cause = (apart, cause.0, cause.1)
  cause_of_file (outcome.Exports place fault) apart cause = absurd cause
  cause_of_file (outcome.Ipfix place fault) apart cause = absurd cause
  cause_of_file (outcome.Part which place fault) apart cause = absurd cause
  cause_of_file (outcome.Records limit) apart cause = absurd cause
  cause_of_file outcome.ReadFault apart cause = cause
  cause_of_file outcome.WriteFault apart cause = cause
  cause_of_file outcome.NoMemory apart cause = cause

  pub cause_of_names : (answer : Outcome) (at : ℕ) (name : List ℕ) → IsFirstRepeat (all_names files) at → name ≡ name_at (all_names files) at
      → (answer ≡ outcome.Names name) ⊎ (answer ≡ outcome.NoMemory) → HasCause desks files answer
  cause_of_names answer at name first is either =
      let P : Outcome → Type 0 = λ o. HasCause desks files o in
      ⊎_elim (λ named. subst P (sym named) (at, first, is)) (λ none. subst P (sym none) tt) either
