-- What becomes of an arrival is one thing only.
use Rattle.std.proofs.Common.{◌≡◌, ℕ, Bool, IsSomeAnd, List, [], ◌∷◌, ◌++◌, length, arith, Option, Some, None, slice_get, refl, sym, ◌∙◌, ap, subst}
use Rattle.ioam_clock.specs.declared.sample.Sample.{Sample}
use Rattle.ioam_ip.specs.declared.layer.Layer.{Layer}
use Rattle.ioam_run_texts.specs.Framing.{framing_of}
use Rattle.ioam_node.specs.Admission.{Admits}
use Rattle.ioam_node.specs.declared.answer.Admit.{Admit}
use Rattle.ioam_node.specs.declared.answer.Admit.TheVariants as admit
use Rattle.ioam_node.proofs.OneAnswerLaws.{IsSame, Admits-unique}
use Rattle.ioam_pcap.specs.Cut.{is_cut}
use Rattle.ioam_plan.specs.declared.itinerary.Itinerary.{Itinerary}
use Rattle.ioam_plan.proofs.PlansLaws.{Plans-same}
use Rattle.ioam_topo.specs.Domain.{ports}
use Rattle.ioam_topo.specs.declared.domain.Domain.{Domain}
use Rattle.ioam_topo.specs.declared.parts.Port.{Port}
use Rattle.ioam_run_texts.specs.Fate.{Frame, Fate, HasFate, AreFates, AreFatesFrom, packet_of}
use Rattle.ioam_run_texts.proofs.FateLaws.{plans_of}

one_answer : (domain : Domain) (at : Option Port) (layer : Layer) (cut : Bool) (frame : List ℕ) (a b : Admit)
    → IsSomeAnd at (λ port. Admits domain port.node.0 (framing_of layer cut frame) a)
    → IsSomeAnd at (λ port. Admits domain port.node.0 (framing_of layer cut frame) b) → IsSame a b
one_answer domain None layer cut frame a b first second = absurd first
one_answer domain (Some port) layer cut frame a b first second =
    Admits-unique domain port.node.0 (framing_of layer cut frame) a b first second

one_packet : (a b : Admit) → IsSame a b → packet_of a ≡ packet_of b
one_packet (admit.Plain packet) (admit.Plain other) same = same
one_packet (admit.Enclose flow packet limit) (admit.Enclose way other bound) same = same.1
one_packet (admit.Drop reason) (admit.Drop cause) same = refl
one_packet (admit.Plain packet) (admit.Drop cause) same = absurd same
one_packet (admit.Plain packet) (admit.Enclose way other bound) same = absurd same
one_packet (admit.Drop reason) (admit.Plain other) same = absurd same
one_packet (admit.Drop reason) (admit.Enclose way other bound) same = absurd same
one_packet (admit.Enclose flow packet limit) (admit.Plain other) same = absurd same
one_packet (admit.Enclose flow packet limit) (admit.Drop cause) same = absurd same

same_fate : (a b : Fate) → a.packet ≡ b.packet → a.itinerary ≡ b.itinerary → a ≡ b
same_fate a b packets ways =
    let F : List ℕ → Itinerary → Fate = λ packet itinerary. record { packet = packet; itinerary = itinerary } in
    ap (λ packet. F packet a.itinerary) packets ∙ ap (λ itinerary. F b.packet itinerary) ways

module _ (domain : Domain) (readings : List (List Sample)) where
  -- one fate of an arrival, behind the same arrivals
  pub HasFate-unique : (earlier : List Itinerary) (frame : Frame) (fate other : Fate) → HasFate domain readings earlier frame fate
      → HasFate domain readings earlier frame other → fate ≡ other
  HasFate-unique earlier frame fate other first second =
      let same : IsSame first.answer second.answer = one_answer domain (slice_get (ports domain) frame.port.0) frame.layer (is_cut frame.entry)
      frame.entry.octets first.answer second.answer first.answered second.answered in
      let plans : fate.itinerary ≡ other.itinerary = Plans-same domain readings earlier frame.entry.time fate.itinerary other.itinerary frame.port
      first.answer second.answer same (plans_of domain readings earlier frame fate first) (plans_of domain readings earlier frame other second) in
      same_fate fate other (first.packet ∙ one_packet first.answer second.answer same ∙ sym second.packet) plans

  -- and one list of fates of arrivals
  one_list : (earlier : List Itinerary) (frames : List Frame) (fates others : List Fate) → AreFatesFrom domain readings earlier frames fates
      → AreFatesFrom domain readings earlier frames others → fates ≡ others
  one_list earlier [] [] [] first second = refl
  one_list earlier [] [] (other ∷ others) first second = absurd second
  one_list earlier [] (fate ∷ fates) others first second = absurd first
  one_list earlier (frame ∷ frames) [] others first second = absurd first
  one_list earlier (frame ∷ frames) (fate ∷ fates) [] first second = absurd second
  one_list earlier (frame ∷ frames) (fate ∷ fates) (other ∷ others) first second =
      let here : fate ≡ other = HasFate-unique earlier frame fate other first.0 second.0 in
      let P : Fate → Type 0 = λ f. AreFatesFrom domain readings (earlier ++ f.itinerary ∷ []) frames others in
      let behind : fates ≡ others = one_list (earlier ++ fate.itinerary ∷ []) frames fates others first.1 (subst P (sym here) second.1) in
      cc

  -- and so many as arrivals
  as_many : (earlier : List Itinerary) (frames : List Frame) (fates : List Fate) → AreFatesFrom domain readings earlier frames fates
      → length fates ≡ length frames
  as_many earlier [] [] are = refl
  as_many earlier [] (fate ∷ fates) are = absurd are
  as_many earlier (frame ∷ frames) [] are = absurd are
  as_many earlier (frame ∷ frames) (fate ∷ fates) are = omega (arith, as_many (earlier ++ fate.itinerary ∷ []) frames fates are.1)

pub AreFates-length : (domain : Domain) (readings : List (List Sample)) (frames : List Frame) (fates : List Fate)
    → AreFates domain readings frames fates → length fates ≡ length frames
AreFates-length domain readings frames fates are = as_many domain readings [] frames fates are

pub AreFates-unique : (domain : Domain) (readings : List (List Sample)) (frames : List Frame) (fates others : List Fate)
    → AreFates domain readings frames fates → AreFates domain readings frames others → fates ≡ others
AreFates-unique domain readings frames fates others first second = one_list domain readings [] frames fates others first second
