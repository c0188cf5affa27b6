-- What a node of this domain makes of a packet is legal.
use Rattle.std.proofs.Common.{◌≡◌, inl, ℕ, zero, suc, ◌-◌, ◌<◌, ◌≤◌, List, [], ◌∷◌, slice_index, slice_get, drop, slice_range, arith, refl, sym, subst, Option, Some, None}
use Rattle.std.specs.List.{AllByRecursion}
use Rattle.std.specs.Prelude.{IfSome, option_map}
use Rattle.std.proofs.lemmas.List.Elements.{recursion_from_All}
use Rattle.ioam_base.specs.Octets.{u16_at}
use Rattle.ioam_clock.specs.declared.sample.Sample.{Sample}
use Rattle.ioam_data.specs.Snapshot.{IsSnapshot}
use Rattle.ioam_node.specs.Outward.{outward_of}
use Rattle.ioam_node.specs.declared.place.Place.{Place}
use Rattle.ioam_node_visit.specs.Seeing.{id_of, view_of}
use Rattle.ioam_node_visit.specs.Stepped.{Stepped, trace_start, trace_end}
use Rattle.ioam_node_visit.proofs.SeeingLaws.{view_of-right}
use Rattle.ioam_topo.specs.Domain.{links, nodes, ports}
use Rattle.ioam_topo.specs.Sound.{IsLink, IsPort}
use Rattle.ioam_topo.specs.declared.domain.Domain.{Domain}
use Rattle.ioam_topo.specs.declared.ids.Way.{Way}
use Rattle.ioam_topo.specs.declared.ids.Way.TheVariants as ways
use Rattle.ioam_audit.specs.Free.{IsFree, IsAnySnapshot}
use Rattle.ioam_audit.specs.Sent.{IsSentAs}
use Rattle.ioam_audit.proofs.StrictLaws.{filling-legal}

any_snapshot : (given : Option (ℕ × List ℕ)) → IfSome given (λ s. IsSnapshot s.0 s.1) → IfSome given (λ s. IsAnySnapshot s.0 s.1)
any_snapshot None fits = tt
any_snapshot (Some given) fits = record { schema_below = fits.schema_below; in_words = fits.in_words; short = omega (arith, fits.short) }

-- ---- the interface by which a packet leaves has an id of 32 bits

below : {X : Type 0} (P : X → Type 0) (id : X → ℕ) → ((x : X) → P x → id x < 4294967296) → (xs : List X) (i : ℕ) → AllByRecursion P xs
    → IfSome (option_map id (slice_get xs i)) (λ number. number < 4294967296)
below P id small [] i all = tt
below P id small (x ∷ xs) zero all = small x all.0
below P id small (x ∷ xs) (suc i) all = below P id small xs i all.1

outward-below : (domain : Domain) (way : Way) → IfSome (outward_of domain way) (λ number. number < 4294967296)
outward-below domain (ways.Link link) = below IsLink (λ l. l.out_id) (λ l is. is.out_below) (links domain) link.0 (recursion_from_All IsLink (links domain) domain.sound_links.sound)
outward-below domain (ways.Port port) = below IsPort (λ p. p.id) (λ p is. is.id_below) (ports domain) port.0 (recursion_from_All IsPort (ports domain) domain.sound_ports.sound)

-- ---- the step

module _ (domain : Domain) (readings : List (List Sample)) (place : Place) (time hops : ℕ) (outward_below : IfSome place.outward (λ number. number < 4294967296)) where
  free : (space : ℕ) → IsFree hops (id_of (slice_get (nodes domain) place.node.0)) place.inward (view_of domain readings place time hops space)
  unfolding view_of
  free space = record {
    hops_is = refl;
    id_is = refl;
    inward_is = inl refl;
    outward_below = outward_below;
    snapshot_fits = any_snapshot (view_of domain readings place time hops space).snapshot (view_of-right domain readings place time hops space);
  }

module _ (domain : Domain) (readings : List (List Sample)) (place : Place) (time : ℕ) (before after : List ℕ) where
  abbrev limit : ℕ
  limit = slice_index before 7 - 1

  pub stepped-sent : (node inward : ℕ) (way : Way) → place.node.0 ≡ node → place.inward ≡ inward → place.outward ≡ outward_of domain way → 2 ≤ slice_index before 7
      → Stepped domain readings place time limit limit before after → IsSentAs domain node inward before after
  stepped-sent node inward way at by leaves more stepped =
      let outward = subst (λ o. IfSome o (λ number. number < 4294967296)) (sym leaves) (outward-below domain way) in
      subst (λ n. IsSentAs domain n inward before after) at (subst (λ n. IsSentAs domain place.node.0 n before after) by (record {
        long = stepped.long;
        limit = more;
        less = stepped.limit_is;
        same = stepped.same;
        traces = λ x among fills.
            let given = stepped.filled x among fills in
            filling-legal limit (id_of (slice_get (nodes domain) place.node.0)) place.inward (drop 2 x.body) (slice_range after (trace_start x) (trace_end x))
            (view_of domain readings place time limit (u16_at x.body 2)) (free domain readings place time limit outward (u16_at x.body 2)) given.0 given.1;
      }))
