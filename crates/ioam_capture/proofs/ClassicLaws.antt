-- How captures of the classic form read while more of them may come.
use Rattle.std.proofs.Common.{◌≡◌, ℕ, ◌-◌, ◌<◌, ◌≤◌, ◌⊎◌, Bool, true, false, List, [], ◌∷◌, ◌++◌, length, Option, Some, None, arith, refl, sym, ap, ◌∙◌, subst, inl, inr, append_assoc}
use Rattle.std.specs.Prelude.{map, if◌then◌else◌}
use Rattle.std.proofs.lemmas.Bool.{cases_eq, false≢true}
use Rattle.std.proofs.lemmas.List.{map-append}
use Rattle.ioam_base.proofs.LeadsLaws.{Leads-push, Leads-beyond}
use Rattle.ioam_ip.specs.declared.layer.Layer.{Layer}
use Rattle.ioam_pcap.specs.declared.form.Form.{Form}
use Rattle.ioam_pcap.specs.declared.capture.CapFault.{CapFault}
use Rattle.ioam_pcap.specs.declared.capture.CapFault.TheVariants as fault
use Rattle.ioam_pcap.specs.Ending.{Ending, Whole, Faulty, stays}
use Rattle.ioam_pcap.specs.Form.{HasHead}
use Rattle.ioam_pcap.specs.Entries.{Entry, Taken, IsWhole, entry_at, behind, Entries}
use Rattle.ioam_pcap.specs.Reads.{Reached, FaultAt, CutAt, EntryAt, EndsAt, Reads, link_by}
use Rattle.ioam_pcap.specs.Reading.{Reading}
use Rattle.ioam_pcap.specs.Reader.{Stands, link_of}
use Rattle.ioam_pcap.proofs.BehindLaws.{Reached-behind, FaultAt-behind}
use Rattle.ioam_pcap.proofs.ReadsLaws.{Reads-unique, Reads-total, head_unique, ends_front, ends_no_record}
use Rattle.ioam_capture.specs.Reads.{of_link, IsClassicly}
use Rattle.ioam_capture.specs.Streams.{known_ending}

-- records that were reached begin those that the octets read as; and the head stays
module _ (octets : List ℕ) (link : Option Layer) (all : List Entry) (ending : Ending) (reads : Reads octets link all ending) where
  abbrev Begins : Option Layer → List Entry → Type 0
  Begins known entries = (more : List Entry) × (all ≡ entries ++ more) × ((l : Layer) → known ≡ Some l → link ≡ Some l)

  begins_by : (form : Form) (entries : List Entry) (at : ℕ) → HasHead octets form → Entries form octets 24 entries at
      → (other : Option Form) (end : ℕ) → Reached octets other all end → EndsAt octets other end ending → link ≡ link_by other
      → Begins (link_by (Some form)) entries
  begins_by form entries at head leads None end reached ends linked =
      let Q : ℕ → Type 0 = λ n. EndsAt octets None n ending in absurd (ends_front octets form ending head (subst Q reached.1 ends))
  begins_by form entries at head leads (Some other) end reached ends linked =
      let same : other ≡ form = head_unique octets other form reached.0 head in
      let Q : Form → Type 0 = λ f. Entries f octets 24 all end in
      let R : Form → Type 0 = λ f. EndsAt octets (Some f) end ending in
      let leads_all = subst Q same reached.1 in
      let stops = ends_no_record octets form end ending (subst R same ends) in
      let (more, is) = Leads-beyond (IsWhole form octets) (entry_at form octets) (behind form octets) 24 entries at all end leads leads_all stops in
      (more, is, λ l known. linked ∙ ap (λ f. link_by (Some f)) same ∙ known)

  Reached-begins : (form : Option Form) (entries : List Entry) (at : ℕ) → Reached octets form entries at → Begins (link_by form) entries
  Reached-begins None entries at reached = (all, ap (λ xs. xs ++ all) (sym reached.0), λ l known. absurd (cc))
  Reached-begins (Some form) entries at reached = begins_by form entries at reached.0 reached.1 reads.form reads.at reads.reached reads.ends reads.linked

-- places that were reached are inside
entries_inside : (octets : List ℕ) (form : Form) (from : ℕ) (entries : List Entry) (at : ℕ) → from ≤ length octets → Entries form octets from entries at → at ≤ length octets
entries_inside octets form from [] at inside here = omega arith
entries_inside octets form from (e ∷ es) at inside leads = entries_inside octets form (behind form octets from) es at (omega arith) leads.2

-- octets that are cut somewhere read so: as a whole file, or one that is too short
cut_reads : (octets : List ℕ) (form : Option Form) (entries : List Entry) (at : ℕ) → Reached octets form entries at → CutAt octets form at
    → (ending : Ending) × Reads octets (link_by form) entries ending × (known_ending false ending ≡ None)
cut_reads octets None entries at reached cut =
    let short : EndsAt octets None at (Faulty at (fault.Short (length octets))) = (refl, inr (length octets, refl, cut, omega arith, λ some. absurd (false≢true some))) in
    (Faulty at (fault.Short (length octets)), record { form = None; at = at; reached = reached; ends = short; linked = refl }, refl)
cut_reads octets (Some form) entries at reached cut = elim (cases_eq at (length octets)) [
  | inl end ↦ (Whole, record { form = Some form; at = at; reached = reached; ends = (refl, end); linked = refl }, refl)
  | inr some ↦
      let inside = entries_inside octets form 24 entries at reached.0.0 reached.1 in
      let short : EndsAt octets (Some form) at (Faulty at (fault.Short (length octets - at))) = (refl, inr (length octets - at, refl, cut, omega arith, λ _. omega arith)) in
      (Faulty at (fault.Short (length octets - at)), record { form = Some form; at = at; reached = reached; ends = short; linked = refl }, refl)
]

-- a fault that is there stays, whatever comes behind
fault_stays : (octets : List ℕ) (form : Option Form) (at : ℕ) (f : CapFault) → FaultAt octets form at f → stays f ≡ true
fault_stays octets None at f (inl magic) = ap stays magic.1
fault_stays octets None at f (inr link) = ap stays link.1
fault_stays octets (Some form) at f bad = ap stays bad.1

pub stays_known : (ended : Bool) (at : ℕ) (f : CapFault) → stays f ≡ true → known_ending ended (Faulty at f) ≡ Some (Faulty at f)
stays_known true at f is = refl
stays_known false at f is = ap (λ b. if b then Some (Faulty at f) else None) is

fault_reads : (octets : List ℕ) (form : Option Form) (entries : List Entry) (at : ℕ) (f : CapFault) → Reached octets form entries at → FaultAt octets form at f
    → Reads octets (link_by form) entries (Faulty at f)
fault_reads octets form entries at f reached bad = record { form = form; at = at; reached = reached; ends = (refl, inl bad); linked = refl }

-- how octets end whose ending is known before they have ended
known_fault : (octets : List ℕ) (form : Option Form) (at : ℕ) (ending : Ending) → EndsAt octets form at ending
    → (known_ending false ending ≡ None) ⊎ ((f : CapFault) × (ending ≡ Faulty at f) × FaultAt octets form at f)
known_fault octets form at Whole ends = inl refl
known_fault octets form at (Faulty place f) (here, inl bad) = inr (f, ap (λ n. Faulty n f) here, bad)
known_fault octets form at (Faulty place f) (here, inr short) = inl (ap (λ g. known_ending false (Faulty place g)) short.1)

-- ---- records with their link

-- how octets read, and how with others behind them: with more records, where it wasn't known how they
-- end, and else in the same way
abbrev pub GoesOn : List Taken → Ending → List Taken → Ending → Type 0
GoesOn xs d ys e = ((known_ending false d ≡ None) × ((others : List Taken) × (ys ≡ xs ++ others)))
    ⊎ ((ys ≡ xs) × (e ≡ d) × (known_ending false d ≡ Some d))

of_link-begins : (link later : Option Layer) (xs ys others : List Entry) → ((l : Layer) → link ≡ Some l → later ≡ Some l) → ys ≡ xs ++ others
    → (more : List Taken) × (of_link later ys ≡ of_link link xs ++ more)
of_link-begins None later xs ys others keeps is = (of_link later ys, refl)
of_link-begins (Some l) later xs ys others keeps is =
    let with_link : Entry → Taken = λ entry. record { link = l; entry = entry } in
    (map with_link others, ap (λ k. of_link k ys) (keeps l refl) ∙ ap (map with_link) is ∙ map-append with_link xs others)

pub Classic-total : (octets : List ℕ) → (taken : List Taken) × (ending : Ending) × IsClassicly octets taken ending
Classic-total octets =
    let (link, entries, ending, reads) = Reads-total octets in
    (of_link link entries, ending, record { link = link; entries = entries; reads = reads; are = refl })

pub Classic-unique : (octets : List ℕ) (xs ys : List Taken) (d e : Ending) → IsClassicly octets xs d → IsClassicly octets ys e → (xs ≡ ys) × (d ≡ e)
Classic-unique octets xs ys d e x y =
    let same = Reads-unique octets x.link y.link x.entries y.entries d e x.reads y.reads in
    (x.are ∙ (λ i. of_link (same.0 i) (same.1 i)) ∙ sym y.are, same.2)

-- before the form can be known there is no record
pub Classic-short : (octets : List ℕ) (xs : List Taken) (d : Ending) → length octets < 4 → IsClassicly octets xs d → (xs ≡ []) × (known_ending false d ≡ None)
Classic-short octets xs d short x =
    let (ending, reads, cut) = cut_reads octets None [] 0 (refl, refl) (inl short) in
    let same = Reads-unique octets x.link None x.entries [] d ending x.reads reads in
    (x.are ∙ ap (λ l. of_link l x.entries) same.0, ap (known_ending false) same.2 ∙ cut)

pub Classic-later : (octets more : List ℕ) (xs ys : List Taken) (d e : Ending) → IsClassicly octets xs d → IsClassicly (octets ++ more) ys e → GoesOn xs d ys e
Classic-later octets more xs ys d e x y =
    let form = x.reads.form in
    let at = x.reads.at in
    let still = Reached-behind octets more form x.entries at x.reads.reached in
    let (others, is, head) = Reached-begins (octets ++ more) y.link y.entries e y.reads form x.entries at still in
    elim (known_fault octets form at d x.reads.ends) [
      | inl cut ↦
          let (rest, joined) = of_link-begins x.link y.link x.entries y.entries others (λ l known. head l (sym x.reads.linked ∙ known)) is in
          inl (cut, (rest, y.are ∙ joined ∙ ap (λ zs. zs ++ rest) (sym x.are)))
      | inr fault ↦
          let (f, here, bad) = fault in
          let reads = fault_reads (octets ++ more) form x.entries at f still (FaultAt-behind octets more form at f bad) in
          let same = Reads-unique (octets ++ more) y.link (link_by form) y.entries x.entries e (Faulty at f) y.reads reads in
          let links : y.link ≡ x.link = same.0 ∙ sym x.reads.linked in
          inr (
            y.are ∙ (λ i. of_link (links i) (same.1 i)) ∙ sym x.are,
            same.2 ∙ sym here,
            ap (known_ending false) here ∙ stays_known false at f (fault_stays octets form at f bad) ∙ ap Some (sym here),
          )
    ]

module _ (reader : Reading) (octets : List ℕ) (entries : List Entry) (stands : Stands reader octets entries) where
  -- what a reader has given begins all that the octets read as
  pub Classic-begins : (all : List Taken) (ending : Ending) → IsClassicly octets all ending
      → (more : List Taken) × (all ≡ of_link (link_of reader) entries ++ more)
  Classic-begins all ending x =
      let (others, is, head) = Reached-begins octets x.link x.entries ending x.reads reader.form entries reader.start stands.reached in
      let (rest, joined) = of_link-begins (link_of reader) x.link entries x.entries others head is in
      (rest, x.are ∙ joined)

  -- what is due is cut, or has a fault
  pub Classic-cut : CutAt octets reader.form reader.start
      → (ending : Ending) × IsClassicly octets (of_link (link_of reader) entries) ending × (known_ending false ending ≡ None)
  Classic-cut cut =
      let (ending, reads, unknown) = cut_reads octets reader.form entries reader.start stands.reached cut in
      (ending, record { link = link_of reader; entries = entries; reads = reads; are = refl }, unknown)

  pub Classic-fault : (f : CapFault) → FaultAt octets reader.form reader.start f
      → IsClassicly octets (of_link (link_of reader) entries) (Faulty reader.start f) × (stays f ≡ true)
  Classic-fault f bad =
      let reads = fault_reads octets reader.form entries reader.start f stands.reached bad in
      (record { link = link_of reader; entries = entries; reads = reads; are = refl }, fault_stays octets reader.form reader.start f bad)

  -- a record that is due is the next of those that the octets read as
  abbrev pub BeginsWith : Entry → List Taken → Type 0
  BeginsWith e all = (link : Layer) × (more : List Taken) × (all ≡ of_link (link_of reader) entries ++ record { link = link; entry = e } ∷ more)

  pub Classic-due : (e : Entry) → EntryAt octets reader.form reader.start e → (all : List Taken) (ending : Ending) → IsClassicly octets all ending
      → BeginsWith e all
  Classic-due e here all ending x = by_form reader.form refl
    where
      by_form : (form : Option Form) → reader.form ≡ form → BeginsWith e all
      by_form None none = let Q : Option Form → Type 0 = λ f. EntryAt octets f reader.start e in absurd (subst Q none here)
      by_form (Some form) some =
          let Q : Option Form → Type 0 = λ f. EntryAt octets f reader.start e in
          let R : Option Form → Type 0 = λ f. Reached octets f entries reader.start in
          let there = subst Q some here in
          let reached = subst R some stands.reached in
          let with_link : Entry → Taken = λ entry. record { link = form.link; entry = entry } in
          let pushed = Leads-push (IsWhole form octets) (entry_at form octets) (behind form octets) 24 entries reader.start reached.1 there.0 in
          let (others, is, head) = Reached-begins octets x.link x.entries ending x.reads (Some form) (entries ++ entry_at form octets reader.start ∷ []) (behind form octets reader.start) (reached.0, pushed) in
          let (rest, joined) = of_link-begins (Some form.link) x.link (entries ++ entry_at form octets reader.start ∷ []) x.entries others head is in
          let front : of_link (Some form.link) (entries ++ entry_at form octets reader.start ∷ []) ≡ of_link (link_of reader) entries ++ record { link = form.link; entry = e } ∷ [] =
          map-append with_link entries (entry_at form octets reader.start ∷ []) ∙ (λ i. of_link (link_by (sym some i)) entries ++ record { link = form.link; entry = sym there.1 i } ∷ []) in
          (form.link, rest, x.are ∙ joined ∙ ap (λ zs. zs ++ rest) front ∙ append_assoc (of_link (link_of reader) entries) (record { link = form.link; entry = e } ∷ []) rest)
