-- How a run ends in a domain that was read.
use Rattle.std.proofs.Common.{◌≡◌, ℕ, ◌<◌, ◌≤◌, Bool, List, length, get_or, Some, refl, sym, ◌∙◌, ap, subst, inl, inr, ⊎_elim}
use Rattle.ioam_run_files.specs.Outcome.{Outcome}
use Rattle.ioam_run_files.specs.Outcome.TheVariants as outcome
use Rattle.ioam_clock.specs.declared.sample.Sample.{Sample}
use Rattle.ioam_desk.specs.Desk.{Reading, Writing}
use Rattle.ioam_desk_outputs.proofs.NamesLaws.{found_name}
use Rattle.ioam_desk_outputs.specs.Names.{AreApart, IsFirstRepeat, name_at}
use Rattle.ioam_topo.specs.Domain.{node_of_name}
use Rattle.ioam_topo.specs.declared.domain.Domain.{Domain}
use Rattle.ioam_topo.specs.declared.ids.NodeId.{NodeId}
use Rattle.ioam_run_node.specs.Ends.{Gathered, Stays, Ran, Ends, EndsAt}
use Rattle.ioam_run_node.specs.Promise.{NodeNames, IsAt, inward_of, node_files, output_files}
use Rattle.ioam_run_node.specs.Seat.{Seat, seat_at}

module _ (tells : Bool) (files : NodeNames) (reading : Reading) (writing : Writing) where
  -- no memory could be had
  pub stays_none : (IsRefused : List ℕ → Type 0) → Stays tells files reading reading writing writing IsRefused outcome.NoMemory
  stays_none IsRefused = record { why = inl refl; same_in = refl; same = refl }

  -- a file is
  pub stays_file : (seat : Seat) (names : List (List ℕ)) (at : ℕ) (name : List ℕ) → names ≡ node_files files → IsFirstRepeat names at → name ≡ name_at names at
      → EndsAt tells files reading reading writing writing seat (outcome.Names name)
  stays_file seat names at name same first is =
      let P : List (List ℕ) → Type 0 = λ fs. IsFirstRepeat fs at in
      inl (record {
        why = inr (name, refl, (at, subst P same first, is ∙ ap (λ (fs : List (List ℕ)). name_at fs at) same));
        same_in = refl;
        same = refl;
      })

-- NODE and LINK are fit
pub ends_at : (tells : Bool) (files : NodeNames) (old_in new_in : Reading) (old new : Writing) (domain : Domain) (samples : List (List Sample))
    (answer : Outcome) (node : NodeId) (inward : ℕ) (name text link : List ℕ) → text ≡ name → name ≡ files.node
    → node_of_name domain text ≡ Some node → link ≡ files.link → inward_of domain node link ≡ Some inward
    → EndsAt tells files old_in new_in old new (seat_at domain samples node inward) answer
    → Ends tells files old_in new_in old new domain samples answer
ends_at tells files old_in new_in old new domain samples answer node inward name text link same is some link_is found ends =
    let at : IsAt files domain node inward = record {
      has_node = ap (node_of_name domain) (sym (same ∙ is)) ∙ some;
      has_link = ap (inward_of domain node) (sym link_is) ∙ found;
    } in
    ⊎_elim (λ stays. inl (record {
      why = ⊎_elim (λ none. inl none) (λ named. inr (named.0, named.1, inr (inr (node, inward, at, named.2)))) stays.why;
      same_in = stays.same_in;
      same = stays.same;
    }))
    (λ ran. inr (record { seat = seat_at domain samples node inward; same_domain = refl; same_samples = refl; at = at; ran = ran })) ends

-- what was gathered of the files' files
pub ran_from : (tells : Bool) (files : NodeNames) (old_in new_in : Reading) (old new : Writing) (seat : Seat) (answer : Outcome)
    (most : ℕ) (input : List ℕ) (outputs : List (List ℕ)) → most ≡ seat.domain.packets → input ≡ files.input → outputs ≡ output_files files
    → AreApart (node_files files) → 1 ≤ seat.domain.packets → seat.domain.packets ≤ 16777216 → Gathered tells old_in new_in old new seat answer most input outputs → Ran tells files old_in new_in old new seat answer
ran_from tells files old_in new_in old new seat answer most input outputs limit named listed apart some few gathered =
    let P : ℕ → Type 0 = λ m. Gathered tells old_in new_in old new seat answer m input outputs in
    let Q : List ℕ → Type 0 = λ i. Gathered tells old_in new_in old new seat answer seat.domain.packets i outputs in
    let R : List (List ℕ) → Type 0 = λ o. Gathered tells old_in new_in old new seat answer seat.domain.packets files.input o in
    record { apart = apart; some = some; most = few; gathered = subst R listed (subst Q named (subst P limit gathered)) }

-- what was taken out of a list that has these names
pub taken_name : (names items : List (List ℕ)) (at : ℕ) (name : List ℕ) → items ≡ names → name ≡ get_or items at name → at < length names → name ≡ name_at names at
taken_name names items at name same is inside =
    let P : List (List ℕ) → Type 0 = λ ns. name ≡ get_or ns at name in
    found_name names at name (subst P same is) inside
