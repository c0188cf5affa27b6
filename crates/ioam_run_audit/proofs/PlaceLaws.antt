-- The node and the link that are named in a domain.
use Rattle.std.proofs.Common.{◌≡◌, ℕ, Bool, List, Some, refl, sym, ap, ◌∙◌, inl, inr}
use Rattle.ioam_desk.specs.Desk.{Reading, Writing}
use Rattle.ioam_run_answer.specs.declared.outcome.Outcome.{Outcome}
use Rattle.ioam_topo.specs.Domain.{node_of_name}
use Rattle.ioam_topo.specs.declared.domain.Domain.{Domain}
use Rattle.ioam_topo.specs.declared.ids.LinkId.{LinkId}
use Rattle.ioam_topo.specs.declared.ids.NodeId.{NodeId}
use Rattle.ioam_run_audit.specs.Ends.{Ends, EndsAt}
use Rattle.ioam_run_audit.specs.Fit.{Place}
use Rattle.ioam_run_audit.specs.Promise.{AuditNames, IsAt, link_to}

-- both are fit
pub ends_at : (tells : Bool) (files : AuditNames) (old_in new_in : Reading) (old new : Writing) (domain : Domain) (node : NodeId) (link : LinkId)
    (answer : Outcome) (name text linked : List ℕ) → text ≡ name → name ≡ files.node → node_of_name domain text ≡ Some node → linked ≡ files.link
    → link_to domain node linked ≡ Some link → EndsAt tells files old_in new_in old new (record { domain = domain; node = node; link = link }) answer
    → Ends tells files old_in new_in old new domain answer
ends_at tells files old_in new_in old new domain node link answer name text linked same is some link_is found ends =
    let place : Place = record { domain = domain; node = node; link = link } in
    let at : IsAt files place = record {
      has_node = ap (node_of_name domain) (sym (same ∙ is)) ∙ some;
      has_link = ap (link_to domain node) (sym link_is) ∙ found;
    } in
    elim ends [
      | inl stays ↦ inl (record {
        why = elim stays.why [
          | inl none ↦ inl none
          | inr named ↦ inr (named.0, named.1, inr (inr (place, refl, at, named.2)))
        ];
        same_in = stays.same_in;
        same = stays.same;
      })
      | inr ran ↦ inr (record { place = place; same_domain = refl; at = at; ran = ran })
    ]
