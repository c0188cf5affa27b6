-- What a node answers of a packet is what its stops say: the first that holds, or a way where none does.
use Rattle.std.proofs.Common.{◌≡◌, ℕ, ◌<◌, ◌≤◌, Bool, true, false, IsTrue, cond, nat_le, nat_lt, List, Option, Some, None, Err, Result, Ok, MatchResult, inl, inr, refl, sym, ◌∙◌, subst, arith}
use Rattle.std.proofs.lemmas.Bool.{leb-true, leb-false, ltb-true, ltb-false}
use Rattle.ioam_topo.specs.declared.domain.Domain.{Domain}
use Rattle.ioam_topo.specs.declared.ids.LinkId.{LinkId}
use Rattle.ioam_topo.specs.declared.ids.PortId.{PortId}
use Rattle.ioam_topo.specs.declared.ids.Way.{Way}
use Rattle.ioam_topo.specs.declared.ids.Way.TheVariants as way
use Rattle.ioam_topo.specs.Domain.{routes}
use Rattle.ioam_topo.specs.Forward.{way_to}
use Rattle.ioam_node.specs.Choice.{mtu_of, IsPort, choice, way_by, stops_by, stops, Goes, entry_choice, link_by, entry_stops_by, entry_stops, Enters, exit_choice, port_by, exit_stops_by, exit_stops, Leaves}
use Rattle.ioam_node.specs.Order.{Stop, IsFirst, NoneHolds}
use Rattle.ioam_node.specs.declared.reason.Reason.{Reason}
use Rattle.ioam_node.specs.declared.reason.Reason.TheVariants as reason
use Rattle.ioam_node.proofs.OrderLaws.{only_going, only_first}

-- two ways of one target are one
one_way : (o : Option Way) (a b : Way) → o ≡ Some a → o ≡ Some b → a ≡ b
one_way o a b first second = let same : Some a ≡ Some b = sym first ∙ second in cc

one_link : (a b : LinkId) → way.Link a ≡ way.Link b → a ≡ b
one_link a b same = cc

one_port : (a b : PortId) → way.Port a ≡ way.Port b → a ≡ b
one_port a b same = cc

some_way : (w : Way) → Some w ≡ None → ⊥
some_way w none = cc

-- the hop limit can be lowered
can_lower : (hops : ℕ) → nat_le hops 1 ≡ false → hops ≤ 1 → ⊥
can_lower hops high low = let more : 1 < hops = leb-false hops 1 high in omega (arith, more, low)

fits : (most size : ℕ) → nat_lt most size ≡ false → most < size → ⊥
fits most size small big = let less : size ≤ most = ltb-false most size small in omega (arith, less, big)

-- ---- a node that neither encloses the packet nor takes it out

module _ (domain : Domain) (enclosed : Bool) (hops size : ℕ) where
  -- what is right of a packet whose way is this
  abbrev Right : Option Way → Result Way Reason → Type 0
  Right found r = MatchResult r (λ w. (found ≡ Some w) × NoneHolds (stops_by domain enclosed hops size found)) (IsFirst (stops_by domain enclosed hops size found))

  by_size : (high : hops ≤ 1 → ⊥) (link : LinkId) (big : Bool) → nat_lt (mtu_of domain link) size ≡ big
      → Right (Some (way.Link link)) (cond big (Err reason.TooBig) (Ok (way.Link link)))
  by_size high link true is = inr (high, inr (some_way (way.Link link), inl (ltb-true (mtu_of domain link) size is, refl)))
  by_size high link false is = (refl, (high, (some_way (way.Link link), (fits (mtu_of domain link) size is, ((λ out. out.1), tt)))))

  by_tunnel : (high : hops ≤ 1 → ⊥) (port : PortId) (inside : Bool) → enclosed ≡ inside
      → Right (Some (way.Port port)) (cond inside (Err reason.IoamOut) (Ok (way.Port port)))
  by_tunnel high port true is = inr (high, inr (some_way (way.Port port), inr ((λ big. big), inl ((is, tt), refl))))
  by_tunnel high port false is =
      (refl, (high, (some_way (way.Port port), ((λ big. big), ((λ out. let never : false ≡ true = sym is ∙ out.0 in cc), tt)))))

  by_way : (high : hops ≤ 1 → ⊥) (found : Option Way) → Right found (way_by domain enclosed size found)
  by_way high None = inr (high, inl (refl, refl))
  by_way high (Some (way.Link link)) = by_size high link (nat_lt (mtu_of domain link) size) refl
  by_way high (Some (way.Port port)) = by_tunnel high port enclosed refl

  by_hops : (found : Option Way) (low : Bool) → nat_le hops 1 ≡ low → Right found (cond low (Err reason.HopLimit) (way_by domain enclosed size found))
  by_hops found true is = inl (leb-true hops 1 is, refl)
  by_hops found false is = by_way (can_lower hops is) found

module _ (domain : Domain) (node : ℕ) (enclosed : Bool) (hops target size : ℕ) where
  abbrev Sent : Way → Type 0
  Sent = Goes domain node enclosed hops target size

  abbrev rows : List Stop
  rows = stops domain node enclosed hops target size

  pub choice_right : MatchResult (choice domain node enclosed hops target size) Sent (IsFirst rows)
  choice_right = by_hops domain enclosed hops size (way_to (routes domain) node target) (nat_le hops 1) refl

  one_going : (x y : Way) → Sent x → Sent y → x ≡ y
  one_going x y a b = one_way (way_to (routes domain) node target) x y a.0 b.0

  pub choice_goes : (w : Way) → Sent w → choice domain node enclosed hops target size ≡ Ok w
  choice_goes w goes = only_going Sent rows one_going (λ x a. a.1) (choice domain node enclosed hops target size) w choice_right goes

  pub choice_first : (r : Reason) → IsFirst rows r → choice domain node enclosed hops target size ≡ Err r
  choice_first r first = only_first Sent rows one_going (λ x a. a.1) (choice domain node enclosed hops target size) r choice_right first

  -- what is sent can be lowered
  pub goes_high : (w : Way) → Sent w → hops ≤ 1 → ⊥
  goes_high w goes = goes.1.0

-- and what is enclosed leaves by no port
pub enclosed_stays : (domain : Domain) (node hops target size : ℕ) (port : PortId) → Goes domain node true hops target size (way.Port port) → ⊥
enclosed_stays domain node hops target size port goes = goes.1.1.1.1.0 (refl, subst IsPort (sym goes.0) tt)

-- ---- the node that is to enclose it

module _ (domain : Domain) (refused : Bool) (hops size : ℕ) where
  abbrev Right_in : Option Way → Result LinkId Reason → Type 0
  Right_in found r = MatchResult r (λ link. (found ≡ Some (way.Link link)) × NoneHolds (entry_stops_by domain refused hops size found)) (IsFirst (entry_stops_by domain refused hops size found))

  may : refused ≡ false → IsTrue refused → ⊥
  may free refuses = let never : false ≡ true = sym free ∙ refuses in cc

  entry_by_size : (high : hops ≤ 1 → ⊥) (free : IsTrue refused → ⊥) (link : LinkId) (big : Bool) → nat_lt (mtu_of domain link) size ≡ big
      → Right_in (Some (way.Link link)) (cond big (Err reason.TooBig) (Ok link))
  entry_by_size high free link true is = inr (high, inr (some_way (way.Link link), inr (free, inl (ltb-true (mtu_of domain link) size is, refl))))
  entry_by_size high free link false is =
      (refl, (high, (some_way (way.Link link), (free, (fits (mtu_of domain link) size is, ((λ out. out), tt))))))

  entry_by_limit : (high : hops ≤ 1 → ⊥) (found : Way) (no_more : Bool) → refused ≡ no_more
      → Right_in (Some found) (link_by domain no_more size (Some found))
  entry_by_limit high (way.Link link) true is = inr (high, inr (some_way (way.Link link), inl (is, refl)))
  entry_by_limit high (way.Port port) true is = inr (high, inr (some_way (way.Port port), inl (is, refl)))
  entry_by_limit high (way.Link link) false is = entry_by_size high (may is) link (nat_lt (mtu_of domain link) size) refl
  entry_by_limit high (way.Port port) false is =
      inr (high, inr (some_way (way.Port port), inr (may is, inr ((λ big. big), inl (tt, refl)))))

  entry_by_way : (high : hops ≤ 1 → ⊥) (found : Option Way) → Right_in found (link_by domain refused size found)
  entry_by_way high None = inr (high, inl (refl, refl))
  entry_by_way high (Some found) = entry_by_limit high found refused refl

  entry_by_hops : (found : Option Way) (low : Bool) → nat_le hops 1 ≡ low
      → Right_in found (cond low (Err reason.HopLimit) (link_by domain refused size found))
  entry_by_hops found true is = inl (leb-true hops 1 is, refl)
  entry_by_hops found false is = entry_by_way (can_lower hops is) found

module _ (domain : Domain) (node : ℕ) (refused : Bool) (hops target size : ℕ) where
  abbrev Entered : LinkId → Type 0
  Entered = Enters domain node refused hops target size

  abbrev entry_rows : List Stop
  entry_rows = entry_stops domain node refused hops target size

  pub entry_right : MatchResult (entry_choice domain node refused hops target size) Entered (IsFirst entry_rows)
  entry_right = entry_by_hops domain refused hops size (way_to (routes domain) node target) (nat_le hops 1) refl

  one_entry : (x y : LinkId) → Entered x → Entered y → x ≡ y
  one_entry x y a b = one_link x y (one_way (way_to (routes domain) node target) (way.Link x) (way.Link y) a.0 b.0)

  pub entry_goes : (link : LinkId) → Entered link → entry_choice domain node refused hops target size ≡ Ok link
  entry_goes link goes = only_going Entered entry_rows one_entry (λ x a. a.1) (entry_choice domain node refused hops target size) link entry_right goes

  pub entry_first : (r : Reason) → IsFirst entry_rows r → entry_choice domain node refused hops target size ≡ Err r
  entry_first r first = only_first Entered entry_rows one_entry (λ x a. a.1) (entry_choice domain node refused hops target size) r entry_right first

-- ---- the node at which it came out of its tunnel

module _ (hops : ℕ) where
  abbrev Right_out : Option Way → Result PortId Reason → Type 0
  Right_out found r = MatchResult r (λ port. (found ≡ Some (way.Port port)) × NoneHolds (exit_stops_by hops found)) (IsFirst (exit_stops_by hops found))

  exit_by_way : (high : hops ≤ 1 → ⊥) (found : Option Way) → Right_out found (port_by found)
  exit_by_way high None = inr (high, inl ((λ port. port), refl))
  exit_by_way high (Some (way.Link link)) = inr (high, inl ((λ port. port), refl))
  exit_by_way high (Some (way.Port port)) = (refl, (high, ((λ none. none tt), tt)))

  exit_by_hops : (found : Option Way) (low : Bool) → nat_le hops 1 ≡ low → Right_out found (cond low (Err reason.HopLimit) (port_by found))
  exit_by_hops found true is = inl (leb-true hops 1 is, refl)
  exit_by_hops found false is = exit_by_way (can_lower hops is) found

module _ (domain : Domain) (node hops target : ℕ) where
  abbrev Left : PortId → Type 0
  Left = Leaves domain node hops target

  abbrev exit_rows : List Stop
  exit_rows = exit_stops domain node hops target

  pub exit_right : MatchResult (exit_choice domain node hops target) Left (IsFirst exit_rows)
  exit_right = exit_by_hops hops (way_to (routes domain) node target) (nat_le hops 1) refl

  one_exit : (x y : PortId) → Left x → Left y → x ≡ y
  one_exit x y a b = one_port x y (one_way (way_to (routes domain) node target) (way.Port x) (way.Port y) a.0 b.0)

  pub exit_goes : (port : PortId) → Left port → exit_choice domain node hops target ≡ Ok port
  exit_goes port goes = only_going Left exit_rows one_exit (λ x a. a.1) (exit_choice domain node hops target) port exit_right goes

  pub exit_first : (r : Reason) → IsFirst exit_rows r → exit_choice domain node hops target ≡ Err r
  exit_first r first = only_first Left exit_rows one_exit (λ x a. a.1) (exit_choice domain node hops target) r exit_right first
