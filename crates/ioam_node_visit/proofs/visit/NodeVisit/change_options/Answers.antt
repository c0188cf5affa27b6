use Rattle.std.proofs.Common.{◌≡◌, ◌≤◌, ◌+◌, ◌++◌, [], ℕ, List, arith, length, drop, slice_range, sym, ap, ◌∙◌, refl, append_assoc, length-append}
use Rattle.std.proofs.lemmas.List.{append-nil}
use Rattle.ioam_dex.specs.Reads.{records_octets}
use Rattle.ioam_dex.proofs.ReadsLaws.{records_octets-append}
use Rattle.ioam_ip.specs.OptionsLeft.{options_from}
use Rattle.ioam_ip.specs.Rewriting.{with_steps}
use Rattle.ioam_ip.specs.Spot.{IsNext, spot_end}
use Rattle.ioam_ip.proofs.NextLaws.{options_same}
use Rattle.ioam_ip.proofs.ChangeLaws.{rest_stays, steps_stay, front_stays, first_is}
use Rattle.ioam_node_visit.specs.Counted.{notes_in, records_in}
use Rattle.ioam_node_visit.specs.Exports.{records_of}
use Rattle.ioam_node_visit.specs.Notes.{notes_of}
use Rattle.ioam_node_visit.specs.Step.{node_step}
use Rattle.ioam_node_visit.proofs.StepLaws.{length-step}
use Rattle.ioam_node_visit.proofs.visit.NodeVisit.change_options.Goals as goal

none_left : (old now : List ℕ) (at : ℕ) → length now ≡ length old → drop at now ≡ drop at old → options_from (length now) now at ≡ []
    → options_from (length old) old at ≡ []
none_left old now at long same none = sym (options_same (length old) now old at long same) ∙ ap (λ n. options_from n now at) (sym long) ∙ none

pub options-preserved : goal.options-preserved
options-preserved c =
    let v = c.args.self.now in
    let step = node_step v.domain.now v.readings.now v.place v.time v.hops in
    let notes = notes_of v.domain.now v.readings.now v.place v.time v.hops in
    let records = records_of v.domain.now v.readings.now v.place v.time v.hops in
    let keeps = length-step v.domain.now v.readings.now v.place v.time v.hops in
    let old = c.args.head.now in
    let now = c.options.head in
    let invariant = c.options.invariant in
    let next : IsNext now c.options.at c.in-Some.spot = c.in-Some.ensures in
    let long : length now ≡ length old = c.options.auto.head in
    let is = c.change.ensures.octets in
    let rest = options_from (length old) old (spot_end c.in-Some.spot) in
    let items = first_is step keeps old now c.options.at long invariant.1 c.in-Some.spot next c.change.new.body is in
    let first = ap (λ os. notes_in notes os) items in
    let given = ap (λ os. records_octets (records_in records os)) items ∙ records_octets-append _ (records_in records rest) in
    let more = ap length first ∙ length-append _ (notes_in notes rest) in (
      omega arith,
      rest_stays step keeps old now c.options.at long invariant.1 c.in-Some.spot next c.change.new.body is,
      steps_stay step keeps old now c.options.at long invariant.1 c.in-Some.spot next c.change.new.body is ∙ invariant.2,
      front_stays step keeps old now c.options.at long invariant.1 c.in-Some.spot next c.change.new.body is invariant.0 ∙ invariant.3,
      ap (λ ns. ns ++ notes_in notes rest) c.change.ensures.notes
          ∙ append_assoc c.options.room.notes _ (notes_in notes rest)
          ∙ ap (λ ns. c.options.room.notes ++ ns) (sym first) ∙ invariant.4,
      omega (arith, more, c.change.ensures.spare, invariant.5),
      omega (arith, more, c.change.ensures.spare, invariant.6),
      ap (λ xs. xs ++ records_octets (records_in records rest)) c.change.ensures.exports
          ∙ append_assoc c.options.room.exports _ (records_octets (records_in records rest))
          ∙ ap (λ xs. c.options.room.exports ++ xs) (sym given) ∙ invariant.7,
      c.change.ensures.capacities ∙ invariant.8,
    )

pub returns-clause-steps : goal.returns-clause-steps
returns-clause-steps c =
    let v = c.args.self.now in
    let step = node_step v.domain.now v.readings.now v.place v.time v.hops in
    let none = none_left c.args.head.now c.options.head c.options.at c.options.auto.head c.options.invariant.1 c.in_default.ensures in
    ap (λ os. with_steps step c.options.head os) (sym none) ∙ c.options.invariant.2

pub returns-clause-notes : goal.returns-clause-notes
returns-clause-notes c =
    let v = c.args.self.now in
    let notes = notes_of v.domain.now v.readings.now v.place v.time v.hops in
    let none = none_left c.args.head.now c.options.head c.options.at c.options.auto.head c.options.invariant.1 c.in_default.ensures in
    sym (append-nil c.options.room.notes) ∙ ap (λ os. c.options.room.notes ++ notes_in notes os) (sym none) ∙ c.options.invariant.4

pub returns-clause-exports : goal.returns-clause-exports
returns-clause-exports c =
    let v = c.args.self.now in
    let records = records_of v.domain.now v.readings.now v.place v.time v.hops in
    let none = none_left c.args.head.now c.options.head c.options.at c.options.auto.head c.options.invariant.1 c.in_default.ensures in
    sym (append-nil c.options.room.exports) ∙ ap (λ os. c.options.room.exports ++ records_octets (records_in records os)) (sym none) ∙ c.options.invariant.7

pub returns-clause-spare : goal.returns-clause-spare
returns-clause-spare c =
    let v = c.args.self.now in
    let notes = notes_of v.domain.now v.readings.now v.place v.time v.hops in
    let none = none_left c.args.head.now c.options.head c.options.at c.options.auto.head c.options.invariant.1 c.in_default.ensures in
    let no_notes = ap (λ os. length (notes_in notes os)) none in
    omega (arith, no_notes, c.options.invariant.5)

pub change-requires-clause-room : goal.change-requires-clause-room
change-requires-clause-room c =
    let v = c.args.self.now in
    let step = node_step v.domain.now v.readings.now v.place v.time v.hops in
    let notes = notes_of v.domain.now v.readings.now v.place v.time v.hops in
    let keeps = length-step v.domain.now v.readings.now v.place v.time v.hops in
    let old = c.args.head.now in
    let now = c.options.head in
    let spot = c.in-Some.spot in
    let next : IsNext now c.options.at spot = c.in-Some.ensures in
    let long : length now ≡ length old = c.options.auto.head in
    let body : List ℕ = slice_range now (spot.at + 2) (spot_end spot) in
    let rest = options_from (length old) old (spot_end spot) in
    let first = ap (λ os. notes_in notes os) (first_is step keeps old now c.options.at long c.options.invariant.1 spot next (step spot.kind body) refl) in
    let more = ap length first ∙ length-append (notes spot.kind body) (notes_in notes rest) in
    let enough : length (notes_in notes (options_from (length old) old c.options.at)) ≤ c.options.room.spare = c.options.invariant.6 in
    let within : length (notes spot.kind body) ≤ c.options.room.spare = omega (arith, more, enough) in
    within
