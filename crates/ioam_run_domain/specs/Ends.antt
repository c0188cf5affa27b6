-- What a run answers whose domain and readings were read.
use Rattle.std.specs.Prelude.{◌≡◌, ℕ, ◌⊎◌, Bool, List}
use Rattle.ioam_clock.specs.declared.sample.Sample.{Sample}
use Rattle.ioam_desk.specs.Desk.{Reading, Writing}
use Rattle.ioam_desk_outputs.specs.Names.{name_at, AreApart, IsFirstRepeat}
use Rattle.ioam_run_files.specs.Outcome.{Outcome}
use Rattle.ioam_run_files.specs.Outcome.TheVariants as outcome
use Rattle.ioam_run_files.specs.Names.{input_ports}
use Rattle.ioam_topo.specs.Domain.{ports}
use Rattle.ioam_topo.specs.declared.domain.Domain.{Domain}
use Rattle.ioam_run_traffic.specs.Traffic.{Course, begun, Finishes}
use Rattle.ioam_run_traffic.specs.declared.halt.Halt.{Halt}
use Rattle.ioam_run_traffic.specs.declared.halt.Halt.TheVariants as halt
use Rattle.ioam_run_domain.specs.Promise.{RunNames, IsLimit, run_files, run_outputs, run_inputs}

-- where the traffic of a domain begins that was read
abbrev pub begins : Bool → RunNames → Domain → List (List Sample) → Reading → Writing → Course
begins opens files domain readings reading writing =
    begun opens domain readings (input_ports (ports domain)) (run_inputs domain) (run_outputs files domain) reading writing

module _ (opens tells : Bool) (files : RunNames) (domain : Domain) (readings : List (List Sample)) (old_in new_in : Reading) (old new : Writing) where
  -- its traffic ended so
  abbrev pub Ended : Halt → Type 0
  Ended halt = Finishes (begins opens files domain readings old_in old) tells old_in new_in old new halt

  -- two files have one name, and nothing was opened; or the traffic ended
  abbrev pub Ends : Outcome → Type 0
  Ends (outcome.Names name) = ((at : ℕ) × IsFirstRepeat (run_files files domain) at × (name ≡ name_at (run_files files domain) at))
      × (new_in ≡ old_in) × (new ≡ old)
  Ends outcome.Done = AreApart (run_files files domain) × Ended halt.Over
  Ends (outcome.Capture name at fault) = AreApart (run_files files domain)
      × ((place : ℕ) × (name ≡ name_at (run_inputs domain) place) × Ended (halt.Broken place at fault))
  Ends (outcome.Packets limit) = AreApart (run_files files domain) × (limit ≡ domain.packets) × Ended halt.Limit × IsLimit limit
  Ends outcome.ReadFault = AreApart (run_files files domain) × Ended halt.ReadFault
  Ends outcome.WriteFault = AreApart (run_files files domain) × Ended halt.WriteFault
  Ends outcome.NoMemory = (new ≡ old) ⊎ (AreApart (run_files files domain) × Ended halt.NoMemory)
  Ends _ = ⊥
