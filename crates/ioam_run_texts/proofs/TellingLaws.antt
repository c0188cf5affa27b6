-- All that an arrival tells the outputs.
use Rattle.std.proofs.Common.{◌≡◌, ℕ, List, [], ◌++◌, refl, ap, ◌∙◌, subst, append-nil}
use Rattle.ioam_batch.specs.declared.job.Job.{Job}
use Rattle.ioam_run_outputs.specs.Outlets.{of_outlets}
use Rattle.ioam_desk_outputs.specs.Told.{Adds, said_more}
use Rattle.ioam_desk_outputs.specs.declared.output.Output.{Output}
use Rattle.ioam_pcap.specs.Text.{Sent, records_text}
use Rattle.ioam_topo.specs.declared.domain.Domain.{Domain}
use Rattle.ioam_run_texts.specs.Standing.{job_crossed, job_lines, job_texts}
use Rattle.ioam_run_texts.specs.Texts.{fate_sent, fate_crossed, fate_lines, fate_exports, sent_by_end}
use Rattle.ioam_run_texts.specs.Told.{AreSent, AreTextsOf}
use Rattle.ioam_run_texts.proofs.AddsLaws.{Adds-twice, said-outlets, same-outlets}
use Rattle.ioam_run_texts.proofs.AfterLaws.{exports-are}
use Rattle.ioam_run_texts.proofs.CrossedLaws.{crossed-are}
use Rattle.ioam_run_texts.proofs.PathsLaws.{lines-are}

-- three times nothing more
thrice : (xs : List ℕ) → ((xs ++ []) ++ []) ++ [] ≡ xs
thrice xs = append-nil ((xs ++ []) ++ []) ∙ append-nil (xs ++ []) ∙ append-nil xs

twice : (xs : List ℕ) → (xs ++ []) ++ [] ≡ xs
twice xs = append-nil (xs ++ []) ∙ append-nil xs

module _ (domain : Domain) (number : ℕ) (job : Job) (left : List Sent) where
  abbrev sent : ℕ → List Sent
  sent port = sent_by_end port left job.itinerary.end

  abbrev ports-told : List (List ℕ)
  ports-told = of_outlets domain (λ port. records_text (sent port)) (λ link. []) [] []

  abbrev taps-told : List (List ℕ)
  taps-told = of_outlets domain (λ port. []) (λ link. records_text (job_crossed job link)) [] []

  abbrev lines-told : List (List ℕ)
  lines-told = of_outlets domain (λ port. []) (λ link. []) (job_lines domain number job) []

  abbrev exports-told : List (List ℕ)
  exports-told = of_outlets domain (λ port. []) (λ link. []) [] job.room.exports

  abbrev all-told : List (List ℕ)
  all-told = said_more (said_more (said_more ports-told taps-told) lines-told) exports-told

  joined : all-told ≡ of_outlets domain (λ k. ((records_text (sent k) ++ []) ++ []) ++ []) (λ k. (([] ++ records_text (job_crossed job k)) ++ []) ++ [])
      ((([] ++ []) ++ job_lines domain number job) ++ []) ((([] ++ []) ++ []) ++ job.room.exports)
  joined =
      ap (λ (ts : List (List ℕ)). said_more (said_more ts lines-told) exports-told)
      (said-outlets domain (λ port. records_text (sent port)) (λ port. []) (λ link. []) (λ link. records_text (job_crossed job link)) [] [] [] [])
      ∙ ap (λ (ts : List (List ℕ)). said_more ts exports-told)
      (said-outlets domain (λ k. records_text (sent k) ++ []) (λ port. []) (λ k. [] ++ records_text (job_crossed job k)) (λ link. [])
      ([] ++ []) (job_lines domain number job) ([] ++ []) [])
      ∙ said-outlets domain (λ k. (records_text (sent k) ++ []) ++ []) (λ port. []) (λ k. ([] ++ records_text (job_crossed job k)) ++ []) (λ link. [])
      (([] ++ []) ++ job_lines domain number job) [] (([] ++ []) ++ []) job.room.exports

  -- each output is told what is said of it
  exactly : all-told ≡ job_texts domain number job left
  exactly =
      joined
      ∙ same-outlets domain (λ k. ((records_text (sent k) ++ []) ++ []) ++ []) (λ k. records_text (sent k))
      (λ k. (([] ++ records_text (job_crossed job k)) ++ []) ++ []) (λ k. records_text (job_crossed job k))
      ((([] ++ []) ++ job_lines domain number job) ++ []) (job_lines domain number job)
      ((([] ++ []) ++ []) ++ job.room.exports) job.room.exports
      (λ k lt. thrice (records_text (sent k))) (λ link has. twice (records_text (job_crossed job link.0)))
      (append-nil (job_lines domain number job)) refl

  -- and these are the texts of the arrival, if the job is one of it that ran
  pub are-texts : AreSent domain job sent → AreTextsOf domain number job (job_texts domain number job left)
  are-texts are readings fate ran = same-outlets domain (λ k. records_text (sent k)) (λ k. records_text (fate_sent k fate))
      (λ k. records_text (job_crossed job k)) (λ k. records_text (fate_crossed domain readings k fate))
      (job_lines domain number job) (fate_lines domain readings number fate) job.room.exports (fate_exports domain readings fate)
      (λ k lt. ap (λ (ss : List Sent). records_text ss) (are readings fate ran k))
      (λ link has. ap (λ (ss : List Sent). records_text ss) (crossed-are domain readings fate job ran link has))
      (lines-are domain readings number fate job ran)
      (exports-are domain readings fate job ran)

  pub all-adds : (a b c d e : List Output) → Adds a b ports-told → Adds b c taps-told → Adds c d lines-told → Adds d e exports-told
      → Adds a e (job_texts domain number job left)
  all-adds a b c d e first second third fourth = subst (Adds a e) exactly
      (Adds-twice a d e (said_more (said_more ports-told taps-told) lines-told) exports-told
      (Adds-twice a c d (said_more ports-told taps-told) lines-told (Adds-twice a b c ports-told taps-told first second) third) fourth)
