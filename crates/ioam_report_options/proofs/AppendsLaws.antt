-- Laws of texts that are appended whole or not at all.
use Rattle.std.proofs.Common.{◌≡◌, ℕ, true, List, ◌++◌, length, take, Result, Ok, Err, OnOk, ap, ◌∙◌, append_assoc}
use Rattle.std.specs.Prelude.{is_ok, if◌then◌else◌}
use Rattle.std.proofs.Math.Seq.{take-append_seam}
use Rattle.ioam_report_options.specs.Appends.{Appends}

-- a text that was appended is one of which this holds
pub Appends-text : {T E : Type 0} (r : Result T E) (Is : List ℕ → Type 0) (old new text : List ℕ)
    → new ≡ (if is_ok r then old ++ text else old) → Is text → Appends r Is old new
Appends-text (Ok value) Is old new text is holds = (text, holds, is)
Appends-text (Err error) Is old new text is holds = is

-- what holds of the text, in other words
pub Appends-map : {T E : Type 0} (r : Result T E) (P Q : List ℕ → Type 0) (old new : List ℕ)
    → Appends r P old new → ((text : List ℕ) → P text → Q text) → Appends r Q old new
Appends-map (Ok value) P Q old new appends more = (appends.0, more appends.0 appends.1, appends.2)
Appends-map (Err error) P Q old new appends more = appends

-- a text behind one that was appended before; where it could not be, that one was taken back
pub Appends-behind : {T E S F : Type 0} (r : Result T E) (s : Result S F) (P Q : List ℕ → Type 0) (old front middle inner new : List ℕ) (before : ℕ)
    → before ≡ length old → middle ≡ old ++ front → Appends s P middle inner → is_ok r ≡ is_ok s
    → new ≡ (if is_ok r then inner else take before inner) → ((text : List ℕ) → P text → Q (front ++ text)) → Appends r Q old new
Appends-behind (Ok x) (Ok y) P Q old front middle inner new before here is appends same settled more = (
  front ++ appends.0,
  more appends.0 appends.1,
  settled ∙ appends.2 ∙ ap (λ (xs : List ℕ). xs ++ appends.0) is ∙ append_assoc old front appends.0,
)
Appends-behind (Ok x) (Err e) P Q old front middle inner new before here is appends same settled more = absurd (cc same)
Appends-behind (Err e) (Ok y) P Q old front middle inner new before here is appends same settled more = absurd (cc same)
Appends-behind (Err e) (Err f) P Q old front middle inner new before here is appends same settled more =
    settled ∙ ap (take before) (appends ∙ is) ∙ ap (λ n. take n (old ++ front)) here ∙ take-append_seam old front

-- what was appended, where the answer that was handed on is no refusal
pub Appends-kept : {T E S F : Type 0} (r : Result T E) (s : Result S F) (P : List ℕ → Type 0) (old inner new : List ℕ) (before : ℕ)
    → Appends s P old inner → is_ok r ≡ is_ok s → is_ok r ≡ true
    → new ≡ (if is_ok r then inner else take before inner) → (text : List ℕ) × P text × (new ≡ old ++ text)
Appends-kept (Ok x) (Ok y) P old inner new before appends same ok settled = (appends.0, appends.1, settled ∙ appends.2)
Appends-kept (Ok x) (Err e) P old inner new before appends same ok settled = absurd (cc same)
Appends-kept (Err e) s P old inner new before appends same ok settled = absurd (cc ok)

-- where it was appended
pub Appends-OnOk : {T E : Type 0} (r : Result T E) (Is : List ℕ → Type 0) (old new : List ℕ)
    → Appends r Is old new → OnOk r ((text : List ℕ) × Is text × (new ≡ old ++ text))
Appends-OnOk (Ok value) Is old new appends = appends
Appends-OnOk (Err error) Is old new appends = tt

-- the same of two texts that are known
pub appended-behind : {T E S F : Type 0} (r : Result T E) (s : Result S F) (old front part middle inner new : List ℕ) (before : ℕ)
    → before ≡ length old → middle ≡ old ++ front → inner ≡ (if is_ok s then middle ++ part else middle) → is_ok r ≡ is_ok s
    → new ≡ (if is_ok r then inner else take before inner) → new ≡ (if is_ok r then old ++ (front ++ part) else old)
appended-behind (Ok x) (Ok y) old front part middle inner new before here is was same settled =
    settled ∙ was ∙ ap (λ (xs : List ℕ). xs ++ part) is ∙ append_assoc old front part
appended-behind (Ok x) (Err e) old front part middle inner new before here is was same settled = absurd (cc same)
appended-behind (Err e) (Ok y) old front part middle inner new before here is was same settled = absurd (cc same)
appended-behind (Err e) (Err f) old front part middle inner new before here is was same settled =
    settled ∙ ap (take before) (was ∙ is) ∙ ap (λ n. take n (old ++ front)) here ∙ take-append_seam old front
