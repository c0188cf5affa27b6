-- Captures by what the names of files hold.
use Rattle.std.proofs.Common.{◌≡◌, ℕ, suc, ◌+◌, ◌<◌, Bool, true, List, [], ◌∷◌, ◌++◌, length, Option, Some, arith, refl, sym, ap, ◌∙◌, subst}
use Rattle.std.specs.Prelude.{slice_get}
use Rattle.std.specs.List.{AllZip}
use Rattle.std.proofs.lemmas.Option.{same_Some}
use Rattle.ioam_capture.specs.Arrives.{Arrives}
use Rattle.ioam_capture.specs.Merge.{Arrival}
use Rattle.ioam_capture.specs.declared.turns.Turn.{Turn}
use Rattle.ioam_capture.specs.declared.turns.Turn.TheVariants.{Unshown}
use Rattle.ioam_desk.specs.Desk.{Reading}
use Rattle.ioam_capture_merge.specs.Merge.{each, part, parts, wholes}
use Rattle.ioam_capture_merge.specs.Merging.{AreParts, Begins, FilesArrive, FilesBegin, IsFile, PartsArrive}
use Rattle.ioam_capture_merge.proofs.ListLaws.{within}

-- each of these is so of the value of its index
zip_each : {A B : Type 0} (R : A → B → Type 0) (xs : List A) (from : ℕ) (f : ℕ → B) → ((k : ℕ) (x : A) → slice_get xs k ≡ Some x → R x (f (from + k)))
    → AllZip R xs (each (length xs) from f)
zip_each R [] from f all = tt
zip_each R (x ∷ xs) from f all =
    let first : from + 0 ≡ from = omega arith in (
      subst (λ (m : ℕ). R x (f m)) first (all 0 x refl),
      zip_each R xs (suc from) f (λ k y is. let there : from + suc k ≡ suc from + k = omega arith in subst (λ (m : ℕ). R y (f m)) there (all (suc k) y is)),
    )

-- so much of each was handed out
parts_each : (reading : Reading) (fed : ℕ → List ℕ) (ended : ℕ → Bool) (contents : List (Option (List ℕ))) (slot from : ℕ)
    → ((k : ℕ) → k < length contents → (slice_get contents k ≡ Some (Some (fed (from + k) ++ reading.left (slot + k)))) × (reading.ended (slot + k) ≡ ended (from + k)))
    → AreParts reading slot contents (each (length contents) from (part fed ended))
parts_each reading fed ended [] slot from all = tt
parts_each reading fed ended (content ∷ contents) slot from all =
    let (held, end) = all 0 (omega arith) in
    let here : from + 0 ≡ from = omega arith in
    let there : slot + 0 ≡ slot = omega arith in (
      same_Some content (Some (fed (from + 0) ++ reading.left (slot + 0))) held
          ∙ ap (λ (m : ℕ). Some (fed m ++ reading.left (slot + 0))) here ∙ ap (λ (m : ℕ). Some (fed from ++ reading.left m)) there,
      ap reading.ended (sym there) ∙ end ∙ ap ended here,
      parts_each reading fed ended contents (slot + 1) (suc from) (λ k inside.
          let (later, ends) = all (suc k) (omega (arith, inside)) in
          let number : from + suc k ≡ suc from + k = omega arith in
          let place : slot + suc k ≡ slot + 1 + k = omega arith in (
            later ∙ ap (λ (m : ℕ). Some (Some (fed m ++ reading.left (slot + suc k)))) number ∙ ap (λ (m : ℕ). Some (Some (fed (suc from + k) ++ reading.left m))) place,
            ap reading.ended (sym place) ∙ ends ∙ ap ended number,
          )),
    )

module _ (contents : List (Option (List ℕ))) (octets : ℕ → List ℕ) where
  -- the names hold these octets
  abbrev pub AreHeld : Type 0
  AreHeld = (k : ℕ) → k < length contents → slice_get contents k ≡ Some (Some (octets k))

  are_files : AreHeld → AllZip IsFile contents (wholes (length contents) octets)
  are_files held = zip_each IsFile contents 0 (part octets (λ k. true)) (λ k content is.
      let from : k ≡ 0 + k = omega arith in
      (same_Some content (Some (octets k)) (sym is ∙ held k (within contents k content is)) ∙ ap (λ (m : ℕ). Some (octets m)) from, refl))

  module _ (taken : List Arrival) (held : AreHeld) where
    -- these records are taken first of the files
    pub files_begin : Begins (wholes (length contents) octets) taken → FilesBegin contents taken
    files_begin begins = record { files = wholes (length contents) octets; are_files = are_files held; begin = begins }

    -- these are all
    pub files_arrive : (last : Turn) → Arrives (wholes (length contents) octets) taken last → FilesArrive contents taken last
    files_arrive last arrives = record { files = wholes (length contents) octets; are_files = are_files held; arrive = arrives }

-- or all of what was handed out of them
pub parts_arrive : (contents : List (Option (List ℕ))) (reading : Reading) (base : ℕ) (fed : ℕ → List ℕ) (ended : ℕ → Bool) (taken : List Arrival)
    → ((k : ℕ) → k < length contents → slice_get contents k ≡ Some (Some (fed k ++ reading.left (base + k))))
    → ((k : ℕ) → k < length contents → reading.ended (base + k) ≡ ended k)
    → Arrives (parts (length contents) fed ended) taken Unshown → PartsArrive contents reading base taken
parts_arrive contents reading base fed ended taken held ends arrives = record {
  parts = parts (length contents) fed ended;
  are_parts = parts_each reading fed ended contents base 0 (λ k inside.
      let from : k ≡ 0 + k = omega arith in
      (held k inside ∙ ap (λ (m : ℕ). Some (Some (fed m ++ reading.left (base + k)))) from, ends k inside ∙ ap ended from));
  arrive = arrives;
}
