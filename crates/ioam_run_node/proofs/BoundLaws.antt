-- What the node sends to a port is clean.
use Rattle.std.proofs.Common.{ℕ, suc, ◌+◌, ◌<◌, List, [], ◌∷◌, length, take, IsSomeAnd, Option, Some, None, ◌∙◌, ap, ⊎_elim, arith}
use Rattle.std.proofs.lemmas.List.Elements.{Contains-append_right}
use Rattle.ioam_run_files.specs.Outcomes.{IsBehindAll}
use Rattle.ioam_run_files.specs.Outcome.{Outcome}
use Rattle.ioam_run_files.specs.Outcome.TheVariants as outcome
use Rattle.ioam_desk.specs.Desk.{Reading, Writing, holds}
use Rattle.ioam_desk_outputs.specs.Held.{HoldTexts}
use Rattle.ioam_desk_outputs.specs.Names.{AreApart, name_at}
use Rattle.ioam_pcap.specs.Ending.{Whole, Faulty}
use Rattle.ioam_pcap.specs.Entries.{Taken}
use Rattle.ioam_run_stream.specs.Promise.{AreFirst, HoldsAll, EndsSo, ArePassed, AreWhole}
use Rattle.ioam_run_stream.proofs.StopsLaws.{Begins, begins_ends, begins_passed, begins_whole}
use Rattle.ioam_run_node.specs.NodeText.{NodeTexts}
use Rattle.ioam_run_node.specs.Promise.{NodeNames, Holds, IsBounded, IsReady, Leaves, node_files, output_files}
use Rattle.ioam_run_node.specs.Seat.{Seat}

-- names without the first one
apart_tail : (name : List ℕ) (names : List (List ℕ)) → AreApart (name ∷ names) → AreApart names
apart_tail name names apart = λ at inside repeats.
    let within : suc at < length (name ∷ names) = omega (arith, inside) in
    apart (suc at) within (Contains-append_right (name ∷ []) (take at names) (name_at names at) repeats)

-- the outputs differ
pub apart_outputs : (files : NodeNames) → AreApart (node_files files) → AreApart (output_files files)
apart_outputs files apart =
    apart_tail files.input (output_files files)
    (apart_tail files.readings (files.input ∷ output_files files)
    (apart_tail files.domain (files.readings ∷ files.input ∷ output_files files) apart))

-- what outputs hold of such records of an input is of some first records of it
first_of : (seat : Seat) (most : ℕ) (held : Option (List ℕ)) (Are : List Taken → List ℕ → Type 0) (begins : Begins Are)
    (outputs : List (List ℕ)) (new : Writing) → IsSomeAnd held (HoldsAll most (NodeTexts seat) outputs Are new)
    → (taken : List Taken) × (texts : List (List ℕ)) × IsSomeAnd held (AreFirst taken) × NodeTexts seat taken texts × HoldTexts new outputs texts
first_of seat most None Are begins outputs new all = absurd all
first_of seat most (Some octets) Are begins outputs new all =
    (all.taken, all.texts, begins all.taken octets all.are, all.texts_are, all.held)

module _ (files : NodeNames) (old_in new_in : Reading) (old new : Writing) where
  -- OUT is the capture of what is sent of them
  bounded : (seat : Seat) → IsReady files old seat → (taken : List Taken) (texts : List (List ℕ))
      → IsSomeAnd (holds old files.input) (AreFirst taken) → NodeTexts seat taken texts → HoldTexts new (output_files files) texts
      → IsBounded files old_in new_in old new
  bounded seat ready taken [] first are held = absurd are
  bounded seat ready taken (out ∷ []) first are held = absurd are
  bounded seat ready taken (out ∷ report ∷ []) first are held = absurd are
  bounded seat ready taken (out ∷ report ∷ exports ∷ []) first are held = record {
    seat = seat;
    ready = ready;
    taken = taken;
    passages = are.passages;
    first = first;
    are = are.are;
    clean = are.clean;
    fits = are.fits;
    out_is = held.0 ∙ ap Some are.out_is;
  }
  bounded seat ready taken (out ∷ report ∷ exports ∷ more ∷ texts) first are held = absurd are

  of_all : (Are : Seat → List Taken → List ℕ → Type 0) → ((seat : Seat) → Begins (Are seat)) → Holds files old_in new_in old new Are
      → IsBounded files old_in new_in old new
  of_all Are begins all =
      let texts = first_of all.0 all.0.domain.packets (holds old files.input) (Are all.0) (begins all.0) (output_files files) new all.2 in
      bounded all.0 all.1 texts.0 texts.1 texts.2 texts.3 texts.4

  -- each packet that the node sends to a port may leave a domain
  pub Leaves-bounded : (answer : Outcome) → Leaves files old_in new_in old new answer → IsBehindAll (old.side.slots < new.side.slots) answer
      → IsBounded files old_in new_in old new
  Leaves-bounded outcome.Done leaves behind = of_all (λ seat. EndsSo Whole) (λ seat. begins_ends Whole) leaves
  Leaves-bounded (outcome.Capture name at fault) leaves behind = of_all (λ seat. EndsSo (Faulty at fault)) (λ seat. begins_ends (Faulty at fault)) leaves
  Leaves-bounded (outcome.Packets limit) leaves behind = of_all (λ seat. ArePassed seat.domain.packets) (λ seat. begins_passed seat.domain.packets) leaves
  Leaves-bounded (outcome.Exports place fault) leaves behind = absurd leaves
  Leaves-bounded (outcome.Ipfix place fault) leaves behind = absurd leaves
  Leaves-bounded (outcome.Part which place fault) leaves behind = absurd leaves
  Leaves-bounded (outcome.Records limit) leaves behind = absurd leaves
  Leaves-bounded outcome.ReadFault leaves behind = ⊎_elim
      (λ early. absurd (omega (arith, behind, ap (λ (w : Writing). w.side.slots) early.1)))
      (λ late. of_all (λ seat. AreWhole (new_in.left (old_in.side.slots + 2))) (λ seat. begins_whole (new_in.left (old_in.side.slots + 2))) late.1) leaves
  Leaves-bounded outcome.Usage leaves behind = absurd behind
  Leaves-bounded (outcome.Domain why) leaves behind = absurd behind
  Leaves-bounded (outcome.Readings why) leaves behind = absurd behind
  Leaves-bounded (outcome.Names name) leaves behind = absurd behind
  Leaves-bounded outcome.WriteFault leaves behind = absurd behind
  Leaves-bounded outcome.NoMemory leaves behind = absurd behind
