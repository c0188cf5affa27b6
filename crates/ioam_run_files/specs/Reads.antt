-- What the reading of each of the two files answers.
use Rattle.std.specs.Prelude.{◌≡◌, ℕ, ⊤, Bool, IsTrue, IsSomeAnd, List, Option, Result, Ok, Err}
use Rattle.ioam_clock.specs.Reading.{readings_of}
use Rattle.ioam_clock.specs.declared.sample.Sample.{Sample}
use Rattle.ioam_desk.specs.Desk.{Reading, Rose}
use Rattle.ioam_topo_file.specs.File.{IsDomainOf, HasFault}
use Rattle.ioam_topo.specs.declared.domain.Domain.{Domain}
use Rattle.ioam_run_files.specs.declared.setting.Refusal.{Refusal}
use Rattle.ioam_run_files.specs.declared.setting.Refusal.TheVariants as refusal

module _ (tells : Bool) (old new : Reading) (held : Option (List ℕ)) where
  -- the octets that the domain file holds, of which so much is read, are of this domain, or have this first fault
  abbrev pub IsDomainRead : Result Domain Refusal → Type 0
  IsDomainRead (Ok domain) = IsTrue tells → IsSomeAnd held (λ octets. IsDomainOf octets domain)
  IsDomainRead (Err (refusal.Domain fault)) = IsTrue tells → IsSomeAnd held (λ octets. HasFault octets fault)
  IsDomainRead (Err (refusal.Readings fault)) = ⊥
  IsDomainRead (Err refusal.ReadFault) = Rose old.side.faults new.side.faults
  IsDomainRead (Err refusal.NoMemory) = ⊤

  -- the octets that the file of readings holds say these samples of the nodes of these names, or have this first fault
  abbrev pub AreReadingsRead : List (List ℕ) → Result (List (List Sample)) Refusal → Type 0
  AreReadingsRead names (Ok samples) = IsTrue tells → IsSomeAnd held (λ octets. readings_of names octets ≡ Ok samples)
  AreReadingsRead names (Err (refusal.Domain fault)) = ⊥
  AreReadingsRead names (Err (refusal.Readings fault)) = IsTrue tells → IsSomeAnd held (λ octets. readings_of names octets ≡ Err fault)
  AreReadingsRead names (Err refusal.ReadFault) = Rose old.side.faults new.side.faults
  AreReadingsRead names (Err refusal.NoMemory) = ⊤
