-- A part that is said a piece at a time.
use Rattle.std.proofs.Common.{◌≡◌, ℕ, ◌*◌, ◌<◌, ◌≤◌, true, List, [], ◌∷◌, ◌++◌, length, length-append, refl, sym, ap, ◌∙◌, arith}
use Rattle.std.proofs.lemmas.List.Elements.{recursion_from_All}
use Rattle.ioam_run_answer.specs.Record.{Record, IsRecord}
use Rattle.ioam_run_answer.specs.Reads.{records_octets}
use Rattle.ioam_collect.specs.Collected as collected
use Rattle.ioam_collect.specs.Collected.{Collected}
use Rattle.ioam_collect_stream.specs.Gathering.{AreFew}
use Rattle.ioam_run_answer.proofs.ExportsLaws.{octets_few}
use Rattle.ioam_part.specs.Part.{head_octets, part_octets}
use Rattle.ioam_part.specs.Rest.{Leaves}
use Rattle.ioam_run_part.specs.Records.{IsPartOfAll}

-- as many are held as are kept
pub few_held : (collector : Collected) (xs : List Record) → AreFew xs → collected.Stands collector xs → collector.held ≤ 1048576
few_held collector xs few stands = let held = stands.groups.held in let most = few.held in omega (arith, held, most)

-- no part has more octets behind its head than the greatest records
pub rest_few : (xs : List Record) (held : ℕ) (rest : List ℕ) → IsPartOfAll xs (head_octets held ++ rest) → length rest ≤ 274 * 1048576
rest_few xs held rest part =
    let is : length (head_octets held ++ rest) ≡ length (part_octets part.records) = ap length part.part.is in
    let size = length-append (head_octets held) rest in
    let both = length-append (head_octets (length part.records)) (records_octets part.records) in
    let few = octets_few part.records (recursion_from_All IsRecord part.records part.part.each) in
    let count = part.part.few in
    omega (arith, is, size, both, few, count)

-- what was gathered is a front of what is gathered and is to come
split_at : (old new rest_old rest_new : List ℕ) → new ++ rest_new ≡ old ++ rest_old → length old ≤ length new
    → (added : List ℕ) × (new ≡ old ++ added) × (rest_old ≡ added ++ rest_new)
split_at [] new rest_old rest_new same longer = (new, refl, sym same)
split_at (x ∷ old) [] rest_old rest_new same longer = absurd (omega (arith, longer))
split_at (x ∷ old) (y ∷ new) rest_old rest_new same longer =
    let head : y ≡ x = cc in
    let more = split_at old new rest_old rest_new (cc) (omega (arith, longer)) in
    (more.0, ap (λ z. z ∷ new) head ∙ ap (λ zs. x ∷ zs) more.1, more.2)

-- a full piece was gathered: less is to come
pub piece_said : (old new rest_old rest_new : List ℕ) → new ++ rest_new ≡ old ++ rest_old → length old < 65536 → Leaves true 65536 new rest_new
    → (added : List ℕ) × (new ≡ old ++ added) × (rest_old ≡ added ++ rest_new) × (length rest_new < length rest_old)
piece_said old new rest_old rest_new same few full =
    let more = split_at old new rest_old rest_new same (omega (arith, few, full)) in
    let size = ap length more.1 ∙ length-append old more.0 in
    let rest = ap length more.2 ∙ length-append more.0 rest_new in
    (more.0, more.1, more.2, omega (arith, few, full, size, rest))
