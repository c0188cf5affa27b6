-- Octets behind those of a capture change nothing of what these show.
use Rattle.std.proofs.Common.{◌≡◌, ℕ, ◌+◌, ◌≤◌, List, [], ◌∷◌, ◌++◌, length, take, drop, Option, Some, None, arith, refl, sym, ◌∙◌, subst, inl, inr, length-drop, length-append}
use Rattle.std.proofs.lemmas.Grind.{common_steps}
use Rattle.std.proofs.lemmas.List.{drop-append-le, take-append-le}
use Rattle.ioam_base.proofs.OctetsLaws.{u32_at-append}
use Rattle.ioam_pcap.specs.declared.form.Order.{Order}
use Rattle.ioam_pcap.specs.declared.form.Order.TheVariants.{Big, Little}
use Rattle.ioam_pcap.specs.declared.form.Form.{Form}
use Rattle.ioam_pcap.specs.declared.capture.CapFault.{CapFault}
use Rattle.ioam_pcap.specs.Form.{number_at, HasHead}
use Rattle.ioam_pcap.specs.Link.{IsLinkType}
use Rattle.ioam_pcap.specs.Entries.{Entry, captured, IsWhole, entry_at, behind, Entries}
use Rattle.ioam_pcap.specs.Reads.{HasMagic, HeadFault, EntryFault, Reached, FaultAt, Shown, HeadShown, EntryShown, CutShown, FaultShown, Shows}

module _ (octets more : List ℕ) where
  number_at-append : (order : Order) (at : ℕ) → at + 4 ≤ length octets → number_at order (octets ++ more) at ≡ number_at order octets at
  number_at-append Big at fits = u32_at-append octets more at fits
  number_at-append Little at fits = grind (arith, common_steps)

  longer : (n : ℕ) → n ≤ length octets → n ≤ length (octets ++ more)
  longer n fits = omega (arith, length-append octets more)

  pub HasHead-behind : (form : Form) → HasHead octets form → HasHead (octets ++ more) form
  HasHead-behind form head =
      let Q : ℕ → Type 0 = λ n. IsLinkType n form.link in
      (longer 24 head.0, u32_at-append octets more 0 (omega arith) ∙ head.1, subst Q (sym (number_at-append form.order 20 (omega arith))) head.2)

  pub HeadFault-behind : (f : CapFault) → HeadFault octets f → HeadFault (octets ++ more) f
  HeadFault-behind f (inl magic) =
      let (found, is, fits, here, un) = magic in
      inl (found, is, longer 4 fits, here ∙ sym (u32_at-append octets more 0 (omega (arith, fits))), un)
  HeadFault-behind f (inr link) =
      let (found, is, long, unknown, spelled) = link in
      let (order, fraction, magic, here) = spelled in
      let still : HasMagic (octets ++ more) order fraction = (longer 4 magic.0, u32_at-append octets more 0 (omega (arith, long)) ∙ magic.1) in
      inr (found, is, longer 24 long, unknown, (order, fraction, still, here ∙ sym (number_at-append order 20 (omega (arith, long)))))

  module _ (form : Form) (at : ℕ) where
    captured-behind : at + 16 ≤ length octets → captured form (octets ++ more) at ≡ captured form octets at
    captured-behind fits = number_at-append form.order (at + 8) (omega arith)

    IsWhole-behind : IsWhole form octets at → IsWhole form (octets ++ more) at
    IsWhole-behind whole = let same = captured-behind (omega arith) in (omega arith, omega (arith, length-append octets more))

    behind-behind : IsWhole form octets at → behind form (octets ++ more) at ≡ behind form octets at
    behind-behind whole = let same = captured-behind (omega arith) in omega arith

    entry_at-behind : IsWhole form octets at → entry_at form (octets ++ more) at ≡ entry_at form octets at
    entry_at-behind whole =
        let seconds = number_at-append form.order at (omega arith) in
        let fraction = number_at-append form.order (at + 4) (omega arith) in
        let original = number_at-append form.order (at + 12) (omega arith) in
        let same = captured-behind (omega arith) in
        let rest : drop (at + 16) (octets ++ more) ≡ drop (at + 16) octets ++ more = drop-append-le (at + 16) octets more (omega arith) in
        let kept : take (captured form octets at) (drop (at + 16) octets ++ more) ≡ take (captured form octets at) (drop (at + 16) octets) = take-append-le (captured form octets at) (drop (at + 16) octets) more (omega (arith, length-drop (at + 16) octets)) in
        let whole_octets : take (captured form (octets ++ more) at) (drop (at + 16) (octets ++ more)) ≡ take (captured form octets at) (drop (at + 16) octets) = rw (same, rest, kept) in
        cc

    EntryFault-behind : (f : CapFault) → EntryFault form octets at f → EntryFault form (octets ++ more) at f
    EntryFault-behind f bad =
        let (found, is, fits, here, long) = bad in
        (found, is, longer (at + 16) fits, here ∙ sym (captured-behind fits), long)

  pub Entries-behind : (form : Form) (at : ℕ) (entries : List Entry) (end : ℕ) → Entries form octets at entries end → Entries form (octets ++ more) at entries end
  Entries-behind form at [] end here = here
  Entries-behind form at (e ∷ es) end leads =
      let Q : ℕ → Type 0 = λ p. Entries form (octets ++ more) p es end in (
        IsWhole-behind form at leads.0,
        leads.1 ∙ sym (entry_at-behind form at leads.0),
        subst Q (sym (behind-behind form at leads.0)) (Entries-behind form (behind form octets at) es end leads.2),
      )

  -- what was read is read all the same
  pub Reached-behind : (form : Option Form) (entries : List Entry) (at : ℕ) → Reached octets form entries at → Reached (octets ++ more) form entries at
  Reached-behind None entries at reached = reached
  Reached-behind (Some form) entries at reached = (HasHead-behind form reached.0, Entries-behind form 24 entries at reached.1)

  -- and a fault stays
  pub FaultAt-behind : (form : Option Form) (at : ℕ) (f : CapFault) → FaultAt octets form at f → FaultAt (octets ++ more) form at f
  FaultAt-behind None at f bad = HeadFault-behind f bad
  FaultAt-behind (Some form) at f bad = EntryFault-behind form at f bad

  -- what stands at a place stays, but for what is cut
  pub Shows-behind : (form : Option Form) (at : ℕ) (shown : Shown) → (shown ≡ CutShown → ⊥) → Shows octets form at shown → Shows (octets ++ more) form at shown
  Shows-behind form at (HeadShown link) whole shows = (shows.0, (shows.1.0, HasHead-behind shows.1.0 shows.1.1, shows.1.2))
  Shows-behind None at (EntryShown e) whole shows = absurd shows
  Shows-behind (Some form) at (EntryShown e) whole shows = (IsWhole-behind form at shows.0, shows.1 ∙ sym (entry_at-behind form at shows.0))
  Shows-behind form at CutShown whole shows = absurd (whole refl)
  Shows-behind form at (FaultShown f) whole shows = FaultAt-behind form at f shows
