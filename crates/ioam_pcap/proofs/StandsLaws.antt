-- What a reader stands for after a piece or a step.
use Rattle.std.proofs.Common.{◌≡◌, ℕ, ◌+◌, ◌*◌, ◌-◌, ◌≤◌, ◌<◌, List, [], ◌∷◌, ◌++◌, length, take, drop, Option, Some, None, arith, refl, sym, ap, ◌∙◌, subst, length-drop, length-take-le, length-append, inl, inr}
use Rattle.std.specs.Option.{IsSome}
use Rattle.std.proofs.lemmas.List.{append-nil, drop-drop, drop-append-le}
use Rattle.ioam_base.specs.Fed.{Kept, passed, with_piece}
use Rattle.ioam_base.proofs.FedLaws.{last_taken, passed_held}
use Rattle.ioam_base.proofs.LeadsLaws.{Leads-push}
use Rattle.ioam_pcap.specs.declared.form.Form.{Form}
use Rattle.ioam_ip.specs.declared.layer.Layer.{Layer}
use Rattle.ioam_pcap.specs.declared.capture.CapFault.{CapFault}
use Rattle.ioam_pcap.specs.declared.capture.CapFault.TheVariants.{Short}
use Rattle.ioam_pcap.specs.Form.{HasHead}
use Rattle.ioam_pcap.specs.Ending.{Faulty}
use Rattle.ioam_pcap.specs.Entries.{Entry, Entries, captured, IsWhole, entry_at, behind}
use Rattle.ioam_pcap.specs.Reads.{HeadFault, EntryFault, IsHeadCut, IsEntryCut, Reached, EntryAt, FaultAt, CutAt, EndsAt, Reads, ReadsOnly, link_by}
use Rattle.ioam_pcap.specs.Reading.{Reading}
use Rattle.ioam_pcap.specs.Reader.{Stands, Waits, HoldsFew, IsCap, held, link_of, most_size}
use Rattle.ioam_pcap.proofs.DropLaws.{captured-drop, IsWhole-drop, entry_at-drop, EntryFault-drop, IsEntryCut-drop}
use Rattle.ioam_pcap.proofs.BehindLaws.{Reached-behind, FaultAt-behind}
use Rattle.ioam_pcap.proofs.ReadsLaws.{entry_uncut, entry_sound, Reads-unique}

-- a piece more
pub Stands-feed : (reader : Reading) (piece octets : List ℕ) (entries : List Entry) → Stands reader octets entries
    → Stands (record reader { pending = reader.pending ++ piece; given = 0 }) (octets ++ piece) entries
Stands-feed reader piece octets entries stands = record {
  left = ap (λ p. p ++ piece) stands.left ∙ sym (drop-append-le reader.start octets piece stands.inside);
  inside = omega (arith, length-append octets piece);
  reached = Reached-behind octets piece reader.form entries reader.start stands.reached;
}

-- a reader that was fed nothing yet takes the place of the front
pub front_pending : (reader : Reading) (octets : List ℕ) (entries : List Entry) → reader.form ≡ None → Stands reader octets entries
    → (reader.pending ≡ octets) × (reader.start ≡ 0) × (entries ≡ [])
front_pending reader octets entries none stands =
    let Q : Option Form → Type 0 = λ f. Reached octets f entries reader.start in
    let here = subst Q none stands.reached in
    (stands.left ∙ ap (λ n. drop n octets) here.1, here.1, here.0)

module _ (reader : Reading) (octets : List ℕ) (entries : List Entry) (stands : Stands reader octets entries) where
  -- what waits for octets is cut there
  pub CutAt-waits : Waits reader → CutAt octets reader.form reader.start
  CutAt-waits waits = cut_by reader.form refl waits
    where
      cut_by : (form : Option Form) → reader.form ≡ form → CutAt reader.pending form 0 → CutAt octets form reader.start
      cut_by None none cut = let Q : List ℕ → Type 0 = λ p. IsHeadCut p in subst Q (front_pending reader octets entries none stands).0 cut
      cut_by (Some form) some cut = let Q : List ℕ → Type 0 = λ p. IsEntryCut form p 0 in
          IsEntryCut-drop form octets reader.start stands.inside (subst Q stands.left cut)

  -- and so is a fault
  pub FaultAt-pending : (f : CapFault) → FaultAt reader.pending reader.form 0 f → FaultAt octets reader.form reader.start f
  FaultAt-pending f = fault_by reader.form refl
    where
      fault_by : (form : Option Form) → reader.form ≡ form → FaultAt reader.pending form 0 f → FaultAt octets form reader.start f
      fault_by None none bad = let Q : List ℕ → Type 0 = λ p. HeadFault p f in subst Q (front_pending reader octets entries none stands).0 bad
      fault_by (Some form) some bad = let Q : List ℕ → Type 0 = λ p. EntryFault form p 0 f in
          EntryFault-drop form octets reader.start stands.inside f (subst Q stands.left bad)

-- what waits for octets has fewer than a record
pub Waits-few : (reader : Reading) → Waits reader → HoldsFew reader
Waits-few reader waits = few_by reader.form waits
  where
    few_by : (form : Option Form) → CutAt reader.pending form 0 → HoldsFew reader
    few_by None (inl short) = omega (arith, short)
    few_by None (inr short) = omega (arith, short.0)
    few_by (Some form) (inl short) = omega (arith, short)
    few_by (Some form) (inr short) = omega (arith, short.0, short.1)

-- records that stand one behind the other take no more octets than so many may
Entries-most : (form : Form) (octets : List ℕ) (from : ℕ) (entries : List Entry) (to : ℕ) → Entries form octets from entries to
    → to ≤ from + length entries * most_size
Entries-most form octets from [] to same = omega (arith, same)
Entries-most form octets from (e ∷ entries) to leads = omega (arith, leads.0.0, Entries-most form octets (behind form octets from) entries to leads.2)

-- a reader that has given so many records has taken no more octets than the head and these
pub Stands-start : (reader : Reading) (octets : List ℕ) (entries : List Entry) → Stands reader octets entries
    → reader.start ≤ 24 + length entries * most_size
Stands-start reader octets entries stands = start_by reader.form stands.reached
  where
    start_by : (form : Option Form) → Reached octets form entries reader.start → reader.start ≤ 24 + length entries * most_size
    start_by None reached = omega (arith, reached.1)
    start_by (Some form) reached = Entries-most form octets 24 entries reader.start reached.1

-- a fault ends the capture, whatever stands behind
pub ends_by_fault : (octets : List ℕ) (form : Option Form) (at : ℕ) (f : CapFault) → FaultAt octets form at f → EndsAt octets form at (Faulty at f)
ends_by_fault octets form at f bad = (refl, inl bad)

pub Reads-faulty : (reader : Reading) (octets : List ℕ) (entries : List Entry) (f : CapFault) → Stands reader octets entries
    → FaultAt octets reader.form reader.start f → (more : List ℕ) → Reads (octets ++ more) (link_of reader) entries (Faulty reader.start f)
Reads-faulty reader octets entries f stands bad more = record {
  form = reader.form;
  at = reader.start;
  reached = Reached-behind octets more reader.form entries reader.start stands.reached;
  ends = ends_by_fault (octets ++ more) reader.form reader.start f (FaultAt-behind octets more reader.form reader.start f bad);
  linked = refl;
}

-- and so does what is cut, where nothing more comes
pub Reads-cut : (reader : Reading) (octets : List ℕ) (entries : List Entry) (have : ℕ) → Stands reader octets entries → Waits reader
    → have ≡ length reader.pending → (IsSome reader.form → 0 < length reader.pending)
    → Reads octets (link_of reader) entries (Faulty reader.start (Short have))
Reads-cut reader octets entries have stands waits many some =
    let rest = ap length stands.left ∙ length-drop reader.start octets in
    record {
      form = reader.form;
      at = reader.start;
      reached = stands.reached;
      ends = (refl, inr (have, refl, CutAt-waits reader octets entries stands waits, omega (arith, many, rest, stands.inside), λ is. omega (arith, many, some is)));
      linked = refl;
    }

-- what a whole record at the front of the pending octets is there
module _ (old : Reading) (form : Form) (read : old.form ≡ Some form) (whole : IsWhole form old.pending 0) (octets : List ℕ) (entries : List Entry) (stands : Stands old octets entries) where
  entry_here : IsWhole form octets old.start × (entry_at form old.pending 0 ≡ entry_at form octets old.start) × (captured form old.pending 0 ≡ captured form octets old.start)
  entry_here =
      let Q : List ℕ → Type 0 = λ p. IsWhole form p 0 in (
        IsWhole-drop form octets old.start stands.inside (subst Q stands.left whole),
        ap (λ p. entry_at form p 0) stands.left ∙ entry_at-drop form octets old.start stands.inside,
        ap (λ p. captured form p 0) stands.left ∙ captured-drop form octets old.start stands.inside,
      )

  pub EntryAt-pending : EntryAt octets old.form old.start (entry_at form old.pending 0)
  EntryAt-pending =
      let Q : Option Form → Type 0 = λ f. EntryAt octets f old.start (entry_at form old.pending 0) in
      subst Q (sym read) (entry_here.0, entry_here.1)

-- a whole record was taken
module _ (old new : Reading) (form : Form) (read : old.form ≡ Some form) (whole : IsWhole form old.pending 0) (form_was : new.form ≡ old.form) (start_is : new.start ≡ old.start + (16 + captured form old.pending 0))
    (left_is : new.pending ≡ drop (16 + captured form old.pending 0) old.pending) where
  pub EntryAt-step : (e : Entry) → e ≡ entry_at form old.pending 0 → (octets : List ℕ) (entries : List Entry) → Stands old octets entries → EntryAt octets old.form old.start e
  EntryAt-step e shown octets entries stands =
      let Q : Entry → Type 0 = λ d. EntryAt octets old.form old.start d in
      subst Q (sym shown) (EntryAt-pending old form read whole octets entries stands)

  pub Stands-step : (e : Entry) → e ≡ entry_at form old.pending 0 → (octets : List ℕ) (entries : List Entry) → Stands old octets entries
      → Stands new octets (entries ++ e ∷ [])
  Stands-step e shown octets entries stands =
      let here = entry_here old form read whole octets entries stands in
      let Q : Option Form → Type 0 = λ f. Reached octets f entries old.start in
      let reached = subst Q read stands.reached in
      let pushed = Leads-push (IsWhole form octets) (entry_at form octets) (behind form octets) 24 entries old.start reached.1 here.0 in
      let size = here.2 in
      let next : new.start ≡ behind form octets old.start = start_is ∙ (omega arith) in
      let same : e ≡ entry_at form octets old.start = shown ∙ here.1 in
      let R : Option Form → Type 0 = λ f. Reached octets f (entries ++ e ∷ []) new.start in
      let form_is : new.form ≡ Some form = form_was ∙ read in
      record {
        left = left_is ∙ ap (drop (16 + captured form old.pending 0)) stands.left ∙ drop-drop (16 + captured form old.pending 0) old.start octets
            ∙ ap (λ n. drop n octets) (sym start_is);
        inside = omega (arith, start_is);
        reached = subst R (sym form_is) (reached.0, rw (next, same) pushed);
      }

-- the reader's value where a piece more was fed
pub fed_with : (kept new : Kept) (form : Option Form) (old : Reading) (piece : List ℕ)
    → ◌≡◌ {A = Reading} (record { form = form; start = kept.start; pending = kept.pending; given = length kept.given }) old → new ≡ with_piece piece kept
    → ◌≡◌ {A = Reading} (record old { pending = old.pending ++ piece; given = 0 }) (record { form = form; start = new.start; pending = new.pending; given = length new.given })
fed_with kept new form old piece view fed =
    sym (ap (λ (k : Kept). record { form = form; start = k.start; pending = k.pending; given = length k.given }) fed ∙ ap (λ (r : Reading). record r { pending = r.pending ++ piece; given = 0 }) view)

-- and where so many octets were taken
pub moved_by : (kept new : Kept) (form : Option Form) (old : Reading) (size : ℕ)
    → ◌≡◌ {A = Reading} (record { form = form; start = kept.start; pending = kept.pending; given = length kept.given }) old → new ≡ passed size kept
    → ◌≡◌ {A = Reading} (record { form = form; start = new.start; pending = new.pending; given = length new.given })
    (record { form = old.form; start = old.start + size; pending = drop size old.pending; given = length new.given })
moved_by kept new form old size view taken =
    ap (λ (k : Kept). record { form = form; start = k.start; pending = k.pending; given = length new.given }) taken
    ∙ ap (λ (r : Reading). record { form = r.form; start = r.start + size; pending = drop size r.pending; given = length new.given }) view

-- as many octets are kept then
pub held_kept : (kept new : Kept) (form : Option Form) (old : Reading) (size : ℕ)
    → ◌≡◌ {A = Reading} (record { form = form; start = kept.start; pending = kept.pending; given = length kept.given }) old → new ≡ passed size kept
    → size ≤ length kept.pending → length new.given + length new.pending ≡ held old
held_kept kept new form old size view taken fits =
    ap (λ (k : Kept). length k.given + length k.pending) taken ∙ passed_held kept size fits ∙ ap (λ (r : Reading). held r) view

-- a record's octets, as the last that were taken
pub octets_of_record : (kept new : Kept) (size : ℕ) → new ≡ passed (16 + size) kept → 16 + size ≤ length kept.pending
    → drop (length new.given - size) new.given ≡ take size (drop 16 kept.pending)
octets_of_record kept new size taken fits =
    let head : 16 + size - size ≡ 16 = omega arith in
    ap (λ k. drop (length k.given - size) k.given) taken ∙ last_taken kept (16 + size) size fits (omega arith)
    ∙ ap (λ n. take size (drop n kept.pending)) head

-- the head was read
pub Stands-head : (old : Reading) (form : Form) → old.form ≡ None → HasHead old.pending form → (octets : List ℕ) (entries : List Entry)
    → Stands old octets entries → (given : ℕ)
    → Stands (record { form = Some form; start = old.start + 24; pending = drop 24 old.pending; given = given }) octets entries
Stands-head old form none head octets entries stands given =
    let front = front_pending old octets entries none stands in
    let Q : List ℕ → Type 0 = λ p. HasHead p form in
    let here : HasHead octets form = subst Q front.0 head in
    let behind_head : old.start + 24 ≡ 24 = omega arith in
    record {
      left = ap (drop 24) front.0 ∙ ap (λ n. drop n octets) (sym behind_head);
      inside = omega arith;
      reached = (here, rw (front.2, behind_head) refl);
    }

-- as many octets less are left
pub length_left : (new pending : List ℕ) (size : ℕ) → new ≡ drop size pending → size ≤ length pending → length new + size ≡ length pending
length_left new pending size same fits = omega (arith, length-drop size pending, ap length same)

-- the octets of a whole record, of which there are as many as it says
pub length_of_record : (form : Form) (pending : List ℕ) → IsWhole form pending 0 → length (take (captured form pending 0) (drop 16 pending)) ≡ captured form pending 0
length_of_record form pending whole = length-take-le (captured form pending 0) (drop 16 pending) (omega (arith, length-drop 16 pending))

-- an entry by its parts
pub entry_by : (time original : ℕ) (octets : List ℕ) (e : Entry) → time ≡ e.time → original ≡ e.original → octets ≡ e.octets
    → ◌≡◌ {A = Entry} (record { time = time; original = original; octets = octets }) e
entry_by time original octets e t o s =
    let same : ◌≡◌ {A = Entry} (record { time = time; original = original; octets = octets }) (record { time = e.time; original = e.original; octets = e.octets }) = cc in
    same

-- a head, these records, and a rest that begins no whole record
cap_by : (reader : Reading) (octets : List ℕ) (entries : List Entry) (form : Option Form) → reader.form ≡ form → Stands reader octets entries
    → ((f : Form) → form ≡ Some f → IsWhole f octets reader.start → ⊥) → IsCap octets entries reader
cap_by reader octets entries None none stands stops = λ link linked. let wrong : ◌≡◌ {A = Option Layer} None (Some link) = ap link_by (sym none) ∙ linked in absurd (cc)
cap_by reader octets entries (Some form) some stands stops = λ link linked.
    let Q : Option Form → Type 0 = λ f. Reached octets f entries reader.start in
    let reached = subst Q some stands.reached in
    let same : ◌≡◌ {A = Option Layer} (Some form.link) (Some link) = ap link_by (sym some) ∙ linked in
    record { form = form; head = reached.0; linked = cc; leads = reached.1; stops = stops form refl }

pub IsCap-cut : (reader : Reading) (octets : List ℕ) (entries : List Entry) → Stands reader octets entries → CutAt octets reader.form reader.start → IsCap octets entries reader
IsCap-cut reader octets entries stands cut = cap_by reader octets entries reader.form refl stands
    (λ f is whole. let Q : Option Form → Type 0 = λ g. CutAt octets g reader.start in entry_uncut octets f reader.start whole (subst Q is cut))

pub IsCap-fault : (reader : Reading) (octets : List ℕ) (entries : List Entry) (f : CapFault) → Stands reader octets entries → FaultAt octets reader.form reader.start f → IsCap octets entries reader
IsCap-fault reader octets entries bad_by stands bad = cap_by reader octets entries reader.form refl stands
    (λ f is whole. let Q : Option Form → Type 0 = λ g. FaultAt octets g reader.start bad_by in entry_sound octets f reader.start bad_by whole (subst Q is bad))

-- what a step that takes nothing off tells
module _ (old new : Reading) (same : new ≡ old) (octets : List ℕ) (entries : List Entry) (stands : Stands old octets entries) where
  stands_still : Stands new octets entries
  stands_still = let S : Reading → Type 0 = λ r. Stands r octets entries in subst S (sym same) stands

  pub cut_told : Waits old → CutAt octets old.form old.start × (Stands new octets entries × IsCap octets entries old)
  cut_told waits =
      let cut = CutAt-waits old octets entries stands waits in
      (cut, (stands_still, IsCap-cut old octets entries stands cut))

  pub fault_told : (place : ℕ) (f : CapFault) → place ≡ old.start → FaultAt old.pending old.form 0 f
      → FaultAt octets old.form old.start f × (Stands new octets entries × IsCap octets entries old × Reads octets (link_of old) entries (Faulty place f)
      × ((more : List ℕ) → Reads (octets ++ more) (link_of old) entries (Faulty place f))
      × ((more : List ℕ) → ReadsOnly (octets ++ more) (link_of old) entries (Faulty place f)))
  fault_told place f here bad =
      let there = FaultAt-pending old octets entries stands f bad in
      let P : ℕ → Type 0 = λ n. (more : List ℕ) → Reads (octets ++ more) (link_of old) entries (Faulty n f) in
      let Q : List ℕ → Type 0 = λ xs. Reads xs (link_of old) entries (Faulty place f) in
      let all = subst P (sym here) (Reads-faulty old octets entries f stands there) in (
        there,
        (
          stands_still,
          IsCap-fault old octets entries f stands there,
          subst Q (append-nil octets) (all []),
          all,
          λ more other others end reads. Reads-unique (octets ++ more) other (link_of old) others entries end (Faulty place f) reads (all more),
        ),
      )
