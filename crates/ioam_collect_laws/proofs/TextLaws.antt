-- The export records of a run are the octets that it writes.
use Rattle.std.proofs.Common.{◌≡◌, ℕ, List, [], ◌∷◌, ◌++◌, Option, Some, None, refl, ap, ap₂, ◌∙◌}
use Rattle.ioam_run_texts.specs.Along.{along}
use Rattle.ioam_run_texts.specs.Ran.{exported_at}
use Rattle.ioam_run_texts.specs.Sample.{Sample}
use Rattle.ioam_dex.specs.Reads.{records_octets}
use Rattle.ioam_dex.proofs.ReadsLaws.{records_octets-append}
use Rattle.ioam_run_texts.specs.Fate.{Fate}
use Rattle.ioam_run_texts.specs.Texts.{exports_by, exports_text}
use Rattle.ioam_run_texts.specs.Visit.{Visit}
use Rattle.ioam_topo.specs.declared.domain.Domain.{Domain}
use Rattle.ioam_topo.specs.declared.ids.FlowId.{FlowId}
use Rattle.ioam_run_texts.specs.Enclosed.{tunnel_of}
use Rattle.ioam_run_texts.specs.Wire.{Tunnel}
use Rattle.ioam_run_texts.specs.Numbers.{Numbers}
use Rattle.ioam_collect_laws.specs.Paths.{recorded_at, records_by, path_of, exports_of}

module _ (domain : Domain) (readings : List (List Sample)) where
  along-octets : (tunnel : Tunnel) (done visits : List Visit)
      → records_octets (along (recorded_at domain readings tunnel) done visits) ≡ along (exported_at domain readings tunnel) done visits
  along-octets tunnel done [] = refl
  along-octets tunnel done (visit ∷ visits) =
      records_octets-append (recorded_at domain readings tunnel done visit) (along (recorded_at domain readings tunnel) (done ++ visit ∷ []) visits)
      ∙ ap (λ xs. exported_at domain readings tunnel done visit ++ xs) (along-octets tunnel (done ++ visit ∷ []) visits)

  by-octets : (packet : List ℕ) (visits : List Visit) (carried : Option (FlowId × Numbers))
      → records_octets (records_by domain readings packet visits carried) ≡ exports_by domain readings packet visits carried
  by-octets packet visits None = refl
  by-octets packet visits (Some carried) = along-octets (tunnel_of domain carried.0 carried.1 packet) [] visits

  pub exports-octets : (fates : List Fate) → records_octets (exports_of domain readings fates) ≡ exports_text domain readings fates
  exports-octets [] = refl
  exports-octets (fate ∷ fates) =
      records_octets-append (path_of domain readings fate) (exports_of domain readings fates)
      ∙ ap₂ (λ xs ys. xs ++ ys) (by-octets fate.packet fate.itinerary.visits fate.itinerary.carried) (exports-octets fates)
