-- Two packets of one length, part by part.
use Rattle.std.proofs.Common.{◌≡◌, inl, inr, ℕ, ◌-◌, ◌<◌, List, length, slice_index, slice_get, get_or, get_or-take, arith, sym, ap, ◌∙◌}
use Rattle.std.proofs.lemmas.Bool.{cases_lt}
use Rattle.ioam_ip.specs.Hop.{hop_options}
use Rattle.ioam_node_visit.specs.Seeing.{id_of}
use Rattle.ioam_topo.specs.Domain.{nodes}
use Rattle.ioam_topo.specs.declared.domain.Domain.{Domain}
use Rattle.ioam_audit.specs.Header.{AreLeft, IsLowered}
use Rattle.ioam_audit.specs.Sent.{IsSentAs}
use Rattle.ioam_audit.proofs.LeftLaws.{ranges_same, same_ranges}

module _ (domain : Domain) (node inward : ℕ) (before after : List ℕ) where
  abbrev Left : Type 0
  Left = AreLeft domain node (slice_index before 7 - 1) (id_of (slice_get (nodes domain) node)) inward before after 40 (hop_options before)

  pub parts-sent : length after ≡ length before → IsLowered before after → Left → IsSentAs domain node inward before after
  parts-sent long low left = record {
    long = long;
    limit = low.limit;
    less = low.less;
    same = λ at other out. elim (cases_lt at 7) [
      | inl first ↦ sym (get_or-take 7 after at 0 first) ∙ ap (λ xs. get_or xs at 0) low.front ∙ get_or-take 7 before at 0 first
      | inr next ↦ elim (cases_lt at 8) [
        | inl seven ↦ absurd (other (omega (arith, next, seven)))
        | inr eight ↦ elim (cases_lt at 40) [
          | inl inside ↦ same_ranges after before 8 40 low.rest at eight inside
          | inr behind ↦ left.same at behind (λ x among fills from below. out (record { option = x; among = among; fills = fills; from = from; below = below }))
        ]
      ]
    ];
    traces = left.traces;
  }

  pub sent-parts : IsSentAs domain node inward before after → (length after ≡ length before) × IsLowered before after × Left
  sent-parts sent = (
    sent.long,
    record {
      limit = sent.limit;
      front = ranges_same after before 0 7 sent.long (λ at behind near. header at (omega (arith, near)) (λ is. omega (arith, is, near)));
      less = sent.less;
      rest = ranges_same after before 8 40 sent.long (λ at behind near. header at near (λ is. omega (arith, is, behind)));
    },
    record {
      same = λ at behind out. sent.same at (λ is. omega (arith, is, behind)) (λ lies. out lies.option lies.among lies.fills lies.from lies.below);
      traces = sent.traces;
    },
  )
    where
      header : (at : ℕ) → at < 40 → (at ≡ 7 → ⊥) → slice_index after at ≡ slice_index before at
      header at inside other = sent.same at other (λ lies. let from = lies.from in omega (arith, from, inside))
