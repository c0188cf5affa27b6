-- Each record of a run can be written and read again, so that the octets of the exports read as the records of the run alone.
use Rattle.std.proofs.Common.{◌≡◌, ℕ, zero, suc, ◌-◌, ◌<◌, Bool, true, false, cond, List, [], ◌∷◌, ◌++◌, length, Option, Some, None, slice_get, refl, sym, ap, ap₂, ◌∙◌, subst, arith}
use Rattle.std.specs.List.{AllByRecursion, flat_map}
use Rattle.std.proofs.lemmas.List.Elements.{All-from_recursion, recursion_from_All}
use Rattle.ioam_run_texts.specs.Along.{along}
use Rattle.ioam_run_texts.specs.Sample.{Sample}
use Rattle.ioam_data.specs.Kind.{has}
use Rattle.ioam_data.proofs.ElementLaws.{exported-filled, exported-short}
use Rattle.ioam_dex.specs.Direct.{IsDirect, HasItsNumbers}
use Rattle.ioam_dex.specs.Reads.{Whole, Reads}
use Rattle.ioam_dex.specs.Record.{Record, IsRecord}
use Rattle.ioam_dex.specs.declared.direct.Direct.{Direct}
use Rattle.ioam_dex.proofs.ReadsLaws.{Reads-octets, Reads-unique}
use Rattle.ioam_run_texts.specs.Fate.{Frame, Fate}
use Rattle.ioam_run_texts.specs.Texts.{exports_text}
use Rattle.ioam_run_texts.specs.Place.{Place}
use Rattle.ioam_run_texts.specs.Visit.{Visit}
use Rattle.ioam_run_texts.specs.Drawn.{direct_number}
use Rattle.ioam_topo.specs.Sound.{IsFlow}
use Rattle.ioam_topo.specs.declared.domain.Domain.{Domain}
use Rattle.ioam_topo.specs.declared.ids.FlowId.{FlowId}
use Rattle.ioam_topo.specs.declared.parts.Flow.{Flow}
use Rattle.ioam_run_texts.specs.Enclosed.{direct_of, direct_parts, tunnel_by}
use Rattle.ioam_run_texts.specs.Wire.{Tunnel}
use Rattle.ioam_run_texts.specs.Numbers.{Numbers}
use Rattle.ioam_run_texts.specs.Exports.{export_type, record_for}
use Rattle.ioam_run_texts.specs.Seeing.{view_of}
use Rattle.ioam_run_texts.specs.Step.{knows}
use Rattle.ioam_run_texts.proofs.SeeingLaws.{view_of-right}
use Rattle.ioam_collect_laws.specs.Exported.{ExportsAreRead, IsTimely, IsTold, ReadsRun}
use Rattle.ioam_collect_laws.specs.Paths.{exports_of, path_of, recorded_at, records_by}
use Rattle.ioam_collect_laws.proofs.RunLaws.{along_none, known_at, numbered, parts_none}
use Rattle.ioam_collect_laws.proofs.TextLaws.{exports-octets}
use Rattle.ioam_collect_laws.proofs.TimesLaws.{HasRoom, visits_at}
use Rattle.ioam_collect_laws.proofs.TrailLaws.{all_cond, bits, cond_append, has_its, is_direct, number_is, recorded, some_is}

type_below : (kind : ℕ) → kind < 16777216 → export_type kind < 16777216
type_below kind below = by_test (has kind 7) where
  by_test : (b : Bool) → cond b (kind - 65536) kind < 16777216
  by_test true = omega (arith, below)
  by_test false = below

-- the record of a visit that a record has room for
record-is : (domain : Domain) (readings : List (List Sample)) (place : Place) (time hops : ℕ) (direct : Direct) → IsDirect direct → HasItsNumbers direct
    → time < 18446744073709551616 → place.inward < 4294967296 → IsRecord (record_for domain readings place time hops direct)
unfolding record_for
record-is domain readings place time hops direct is numbers in_time face =
    let kind = export_type direct.kind in
    let view = view_of domain readings place time hops direct.namespace.0 in
    let right = view_of-right domain readings place time hops direct.namespace.0 in
    record {
      parts = record { flow = numbers.flow; seq = numbers.seq; filled = exported-filled kind view right; short = exported-short kind view right };
      numbers = record {
        namespace_below = is.namespace_below;
        flags_below = is.flags_below;
        ext_below = is.ext_below;
        kind_below = type_below direct.kind is.kind_below;
        visit_below = (in_time, face);
        flow_below = is.flow_below;
        seq_below = is.seq_below;
      };
    }

all_append : {X : Type 0} (P : X → Type 0) (xs ys : List X) → AllByRecursion P xs → AllByRecursion P ys → AllByRecursion P (xs ++ ys)
all_append P [] ys all more = more
all_append P (x ∷ xs) ys all more = (all.0, all_append P xs ys all.1 more)

all_flat : {X Y : Type 0} (P : Y → Type 0) (f : X → List Y) (xs : List X) → ((i : ℕ) (x : X) → slice_get xs i ≡ Some x → AllByRecursion P (f x))
    → AllByRecursion P (flat_map f xs)
all_flat P f [] each = tt
all_flat P f (x ∷ xs) each = all_append P (f x) (flat_map f xs) (each zero x refl) (all_flat P f xs (λ i y there. each (suc i) y there))

-- ---- the records of a packet's path

module _ (domain : Domain) (readings : List (List Sample)) where
  module _ (tunnel : Tunnel) (direct : Direct) (hops : ℕ) (is : IsDirect direct) (its : HasItsNumbers direct)
      (first : (done : List Visit) (visit : Visit) → recorded_at domain readings tunnel done visit
      ≡ cond (knows domain visit.place.node.0 direct.namespace.0) (record_for domain readings visit.place visit.time (hops - length done) direct ∷ []) []) where
    along-records : (done visits : List Visit) → AllByRecursion HasRoom visits → AllByRecursion IsRecord (along (recorded_at domain readings tunnel) done visits)
    along-records done [] room = tt
    along-records done (visit ∷ visits) room =
        let more = along (recorded_at domain readings tunnel) (done ++ visit ∷ []) visits in
        let x = record_for domain readings visit.place visit.time (hops - length done) direct in
        let b = knows domain visit.place.node.0 direct.namespace.0 in
        subst (AllByRecursion IsRecord) (sym (ap (λ (xs : List Record). xs ++ more) (first done visit) ∙ cond_append b x more))
        (all_cond IsRecord b x more (record-is domain readings visit.place visit.time (hops - length done) direct is its room.0.0 room.0.1)
        (along-records (done ++ visit ∷ []) visits room.1))

  module _ (flow : Flow) (sound : IsFlow flow) (kind id seq : ℕ) (direct : flow.direct ≡ Some kind) (of_id : flow.flow_id ≡ Some id)
      (below : seq < 4294967296) where
    flow-records : (numbers : Numbers) (packet : List ℕ) (visits : List Visit) → numbers.direct ≡ Some seq → AllByRecursion HasRoom visits
        → AllByRecursion IsRecord (along (recorded_at domain readings (tunnel_by domain (Some flow) numbers packet)) [] visits)
    flow-records numbers packet visits of_seq room =
        let d = direct_of flow kind seq in
        let tunnel = tunnel_by domain (Some flow) numbers packet in
        let is = is_direct flow sound kind id seq direct of_id below in
        let its = has_its flow sound kind id seq direct of_id below in
        let on = bits flow sound kind id seq direct of_id below in
        along-records tunnel d flow.hops is its
        (recorded domain readings d flow.hops id seq is its of_id refl sound.hops_below on.0 on.1 tunnel (ap₂ (direct_parts flow) direct of_seq) refl)
        [] visits room

-- ---- those of a run

module _ (domain : Domain) (readings : List (List Sample)) (frames : List Frame) (fates : List Fate) (told : IsTold domain readings frames fates) where
  numbered-records : (flow : Flow) (numbers : Numbers) (packet : List ℕ) (visits : List Visit) (count : ℕ) (seq : Option ℕ) → IsFlow flow
      → numbers.direct ≡ direct_number flow.direct flow.every count → count < 4294967296 → numbers.direct ≡ seq → AllByRecursion HasRoom visits
      → AllByRecursion IsRecord (along (recorded_at domain readings (tunnel_by domain (Some flow) numbers packet)) [] visits)
  numbered-records flow numbers packet visits count None sound drawn below is room =
      let none = ap (direct_parts flow flow.direct) is ∙ parts_none flow flow.direct in
      subst (AllByRecursion IsRecord) (sym (along_none domain readings (tunnel_by domain (Some flow) numbers packet) none [] visits)) tt
  numbered-records flow numbers packet visits count (Some seq) sound drawn below is room =
      let given = sym drawn ∙ is in
      let asked = numbered flow.direct flow.every count seq given in
      let kind = some_is flow.direct asked in
      let id = some_is flow.flow_id (sound.direct_id ∙ asked) in
      let small = (number_is flow.direct flow.every count seq given).3 in
      flow-records domain readings flow sound kind.0 id.0 seq kind.1 id.1 (omega (arith, small, below)) numbers packet visits is room

  records-by : (i : ℕ) (fate : Fate) (carried : Option (FlowId × Numbers)) → slice_get fates i ≡ Some fate → fate.itinerary.carried ≡ carried
      → AllByRecursion IsRecord (records_by domain readings fate.packet fate.itinerary.visits carried)
  records-by i fate None there is = tt
  records-by i fate (Some (id, numbers)) there is =
      let run = told.run in
      let k = known_at domain readings frames fates run i fate id numbers there is in
      let flow = k.is.flow in
      let few = k.is.few in
      let hops = k.is.sound.hops_below in
      let room = visits_at domain readings [] frames fates i fate id numbers run.become (recursion_from_All IsTimely frames told.timely) there is
      (omega (arith, few, hops)) in
      let P : Option Flow → Type 0 = λ o. AllByRecursion IsRecord (along (recorded_at domain readings (tunnel_by domain o numbers fate.packet)) [] fate.itinerary.visits) in
      subst P (sym k.is.found)
      (numbered-records flow numbers fate.packet fate.itinerary.visits k.count numbers.direct k.is.sound k.is.direct k.below refl room)

  pub all-records : AllByRecursion IsRecord (exports_of domain readings fates)
  all-records = all_flat IsRecord (path_of domain readings) fates (λ i fate there. records-by i fate fate.itinerary.carried there refl)

  pub reads-run : ReadsRun domain readings fates
  reads-run =
      let records = exports_of domain readings fates in
      let P : List ℕ → Type 0 = λ octets. Reads octets records Whole in
      let reads : Reads (exports_text domain readings fates) records Whole =
      subst P (exports-octets domain readings fates) (Reads-octets records (All-from_recursion IsRecord records all-records)) in
      record {
        reads = reads;
        only = λ others ending other. Reads-unique (exports_text domain readings fates) others records ending Whole other reads;
      }

pub exports-read : ExportsAreRead
exports-read domain readings frames fates told = reads-run domain readings frames fates told
