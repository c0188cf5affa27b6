-- What is told of jobs, one after the other.
use Rattle.std.proofs.Common.{◌≡◌, ℕ, ◌+◌, ◌<◌, ◌≤◌, List, [], ◌∷◌, ◌++◌, get_or, length, take, refl, sym, ◌∙◌, ap, subst, append_assoc, append-nil, length-append, arith}
use Rattle.std.specs.List.{AllZip}
use Rattle.std.proofs.lemmas.List.{length-take-le, take_all, take_more}
use Rattle.ioam_batch.specs.declared.job.Job.{Job}
use Rattle.ioam_clock.specs.declared.sample.Sample.{Sample}
use Rattle.ioam_run_texts.specs.Fate.{Fate}
use Rattle.ioam_run_texts.specs.Texts.{out_text, tap_text, report_lines, exports_text, texts_so_far, added_by}
use Rattle.ioam_run_texts.specs.Told.{AreTextsOf, RanFor}
use Rattle.ioam_run_texts.proofs.AddsLaws.{Adds-twice, none-told, same-outlets, said-outlets}
use Rattle.ioam_run_outputs.specs.Outlets.{of_outlets, outlet_count}
use Rattle.ioam_desk_outputs.specs.Told.{Adds, said_more}
use Rattle.ioam_desk_outputs.specs.declared.output.Output.{Output}
use Rattle.ioam_topo.specs.declared.domain.Domain.{Domain}
use Rattle.ioam_run_arrivals.specs.Forwarding.{AreOfJobs, TellsJobs}
use Rattle.ioam_run_arrivals.proofs.TextsLaws.{texts-push}

pub AllZip-length : {A B : Type 0} (R : A → B → Type 0) (xs : List A) (ys : List B) → AllZip R xs ys → length xs ≡ length ys
AllZip-length R [] [] all = refl
AllZip-length R [] (y ∷ ys) all = absurd all
AllZip-length R (x ∷ xs) [] all = absurd all
AllZip-length R (x ∷ xs) (y ∷ ys) all = omega (arith, AllZip-length R xs ys all.1)

-- what is before the last, and the last
record LastApart {A B : Type 0} (R : A → B → Type 0) (xs : List A) (ys : List B) (y : B) : Type 0 where
  front : List A
  last : A
  is : xs ≡ front ++ last ∷ []
  all : AllZip R front ys
  one : R last y

apart : {A B : Type 0} (R : A → B → Type 0) (xs : List A) (ys : List B) (y : B) → AllZip R xs (ys ++ y ∷ []) → LastApart R xs ys y
apart R [] [] y all = absurd all
apart R (x ∷ []) [] y all = record { front = []; last = x; is = refl; all = tt; one = all.0 }
apart R (x ∷ z ∷ xs) [] y all = absurd all.1
apart R [] (k ∷ ys) y all = absurd all
apart R (x ∷ xs) (k ∷ ys) y all =
    let behind = apart R xs ys y all.1 in
    record { front = x ∷ behind.front; last = behind.last; is = ap (λ rest. x ∷ rest) behind.is; all = (all.0, behind.all); one = behind.one }

said-more : (xs ys zs : List (List ℕ)) → said_more (said_more xs ys) zs ≡ said_more xs (said_more ys zs)
said-more [] ys zs = refl
said-more (x ∷ xs) [] zs = refl
said-more (x ∷ xs) (y ∷ ys) [] = refl
said-more (x ∷ xs) (y ∷ ys) (z ∷ zs) =
    ap (λ (t : List ℕ). t ∷ said_more (said_more xs ys) zs) (append_assoc x y z)
    ∙ ap (λ (rest : List (List ℕ)). (x ++ (y ++ z)) ∷ rest) (said-more xs ys zs)

-- nothing for any output
nothing : Domain → List (List ℕ)
nothing domain = of_outlets domain (λ k. []) (λ k. []) [] []

said-nothing : (domain : Domain) (readings : List (List Sample)) (fates : List Fate)
    → said_more (texts_so_far domain readings fates) (nothing domain) ≡ texts_so_far domain readings fates
unfolding nothing
said-nothing domain readings fates =
    said-outlets domain (λ k. out_text k fates) (λ k. []) (λ k. tap_text domain readings k fates) (λ k. [])
    (report_lines domain readings 1 fates) [] (exports_text domain readings fates) []
    ∙ same-outlets domain (λ k. out_text k fates ++ []) (λ k. out_text k fates)
    (λ k. tap_text domain readings k fates ++ []) (λ k. tap_text domain readings k fates)
    (report_lines domain readings 1 fates ++ []) (report_lines domain readings 1 fates)
    (exports_text domain readings fates ++ []) (exports_text domain readings fates)
    (λ k inside. append-nil (out_text k fates)) (λ link tapped. append-nil (tap_text domain readings link.0 fates))
    (append-nil (report_lines domain readings 1 fates)) (append-nil (exports_text domain readings fates))

module _ (domain : Domain) (count : ℕ) where
  of-none : (readings : List (List Sample)) (front fates : List Fate) → AllZip (RanFor domain readings) fates []
      → said_more (texts_so_far domain readings front) (nothing domain) ≡ texts_so_far domain readings (front ++ fates)
  of-none readings front [] ran = said-nothing domain readings front ∙ ap (texts_so_far domain readings) (sym (append-nil front))
  of-none readings front (fate ∷ fates) ran = absurd ran

  -- of no jobs nothing is told
  pub TellsJobs-none : (outputs : List Output) → length outputs ≡ outlet_count domain → TellsJobs domain count [] outputs outputs
  unfolding nothing
  TellsJobs-none outputs long = (
    nothing domain,
    none-told domain outputs (λ k. []) (λ k. refl) long,
    λ readings front fates many ran. of-none readings front fates ran,
  )

  module _ (jobs : List Job) (job : Job) (number : ℕ) (is : number ≡ count + length jobs + 1) (before added : List (List ℕ)) where
    of-more : AreOfJobs domain count jobs before → AreTextsOf domain number job added → AreOfJobs domain count (jobs ++ job ∷ []) (said_more before added)
    of-more are texts = λ readings front fates many ran.
        let parts = apart (RanFor domain readings) fates jobs job ran in
        let T : List Fate → List (List ℕ) = texts_so_far domain readings in
        let place : number ≡ 1 + length (front ++ parts.front) = omega (
          arith,
          is,
          many,
          length-append front parts.front,
          AllZip-length (RanFor domain readings) parts.front jobs parts.all,
        ) in
        sym (said-more (T front) before added)
        ∙ ap (λ (ts : List (List ℕ)). said_more ts added) (are readings front parts.front many parts.all)
        ∙ ap (λ (more : List (List ℕ)). said_more (T (front ++ parts.front)) more) (texts readings parts.last parts.one)
        ∙ ap (λ (m : ℕ). said_more (T (front ++ parts.front)) (added_by domain readings m parts.last)) place
        ∙ sym (texts-push domain readings (front ++ parts.front) parts.last)
        ∙ ap T (append_assoc front parts.front (parts.last ∷ []))
        ∙ ap (λ (all : List Fate). T (front ++ all)) (sym parts.is)

    -- of one job more
    pub TellsJobs-push : (old mid new : List Output) → Adds old mid before → AreOfJobs domain count jobs before → Adds mid new added
        → AreTextsOf domain number job added → TellsJobs domain count (jobs ++ job ∷ []) old new
    TellsJobs-push old mid new first are then texts = (said_more before added, Adds-twice old mid new before added first then, of-more are texts)

-- of the jobs up to the next
pub TellsJobs-next : (domain : Domain) (count at number next : ℕ) (jobs : List Job) (job : Job) (old mid new : List Output) → at < length jobs
    → job ≡ get_or jobs at job → number ≡ count + at → next ≡ number + 1 → TellsJobs domain count (take at jobs) old mid
    → ((added : List (List ℕ)) × Adds mid new added × AreTextsOf domain next job added) → TellsJobs domain count (take (at + 1) jobs) old new
TellsJobs-next domain count at number next jobs job old mid new inside is here then before after =
    let many : length (take at jobs) ≡ at = length-take-le at jobs (omega (arith, inside)) in
    let more : take (at + 1) jobs ≡ take at jobs ++ job ∷ [] = take_more jobs at job inside ∙ ap (λ (j : Job). take at jobs ++ j ∷ []) (sym is) in
    subst (λ (js : List Job). TellsJobs domain count js old new) (sym more)
    (TellsJobs-push domain count (take at jobs) job next (omega (arith, here, then, many)) before.0 after.0 old mid new before.1 before.2 after.1 after.2)

-- of all jobs
pub TellsJobs-all : (domain : Domain) (count at : ℕ) (jobs : List Job) (old new : List Output) → length jobs ≤ at
    → TellsJobs domain count (take at jobs) old new → TellsJobs domain count jobs old new
TellsJobs-all domain count at jobs old new end tells = subst (λ (js : List Job). TellsJobs domain count js old new) (take_all at jobs end) tells
