-- From what a run found among its names to the names of the files and of the domain.
use Rattle.std.proofs.Common.{◌≡◌, ℕ, ◌<◌, Bool, List, length, get_or, subst}
use Rattle.ioam_clock.specs.declared.sample.Sample.{Sample}
use Rattle.ioam_desk.specs.Desk.{Reading, Writing}
use Rattle.ioam_desk_outputs.proofs.NamesLaws.{found_name}
use Rattle.ioam_desk_outputs.specs.Names.{name_at}
use Rattle.ioam_topo.specs.declared.domain.Domain.{Domain}
use Rattle.ioam_topo.specs.declared.ids.PortId.{PortId}
use Rattle.ioam_run_traffic.specs.Traffic.{begun, Finishes}
use Rattle.ioam_run_traffic.specs.declared.halt.Halt.{Halt}

-- the traffic ended so, whatever equal lists it was begun with
pub finishes_alike : (opens tells : Bool) (domain : Domain) (readings : List (List Sample)) (ports other_ports : List PortId) (inputs other_inputs names other_names : List (List ℕ))
    (old_in new_in : Reading) (old new : Writing) (halt : Halt) → ports ≡ other_ports → inputs ≡ other_inputs → names ≡ other_names
    → Finishes (begun opens domain readings ports inputs names old_in old) tells old_in new_in old new halt
    → Finishes (begun opens domain readings other_ports other_inputs other_names old_in old) tells old_in new_in old new halt
finishes_alike opens tells domain readings ports other_ports inputs other_inputs names other_names old_in new_in old new halt same_ports same_inputs same_names ends =
    let P : List PortId → Type 0 = λ ps. Finishes (begun opens domain readings ps inputs names old_in old) tells old_in new_in old new halt in
    let Q : List (List ℕ) → Type 0 = λ is. Finishes (begun opens domain readings other_ports is names old_in old) tells old_in new_in old new halt in
    let R : List (List ℕ) → Type 0 = λ ns. Finishes (begun opens domain readings other_ports other_inputs ns old_in old) tells old_in new_in old new halt in
    subst R same_names (subst Q same_inputs (subst P same_ports ends))

-- what was taken out of a list that has these names
pub taken_name : (names items : List (List ℕ)) (at : ℕ) (name : List ℕ) → items ≡ names → name ≡ get_or items at name → at < length names → name ≡ name_at names at
taken_name names items at name same is inside =
    let P : List (List ℕ) → Type 0 = λ ns. name ≡ get_or ns at name in
    found_name names at name (subst P same is) inside
