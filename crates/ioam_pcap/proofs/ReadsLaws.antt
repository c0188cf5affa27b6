-- A capture reads in one way, and in some way.
use Rattle.std.proofs.Common.{◌≡◌, ℕ, zero, suc, ◌+◌, ◌-◌, ◌≤◌, ◌⊎◌, List, [], ◌∷◌, ◌++◌, length, Option, Some, None, arith, refl, sym, ap, ◌∙◌, subst, inl, inr}
use Rattle.std.specs.Option.{IsSome}
use Rattle.std.proofs.lemmas.Bool.{cases_lt, cases_eq, false≢true}
use Rattle.ioam_base.specs.Octets.{u32_at}
use Rattle.ioam_base.proofs.LeadsLaws.{Leads-push, Leads-unique}
use Rattle.ioam_ip.specs.declared.layer.Layer.{Layer}
use Rattle.ioam_pcap.specs.declared.form.Order.{Order}
use Rattle.ioam_pcap.specs.declared.form.Order.TheVariants.{Big, Little}
use Rattle.ioam_pcap.specs.declared.form.Fraction.{Fraction}
use Rattle.ioam_pcap.specs.declared.form.Fraction.TheVariants.{Micro, Nano}
use Rattle.ioam_pcap.specs.declared.form.Form.{Form}
use Rattle.ioam_pcap.specs.declared.capture.CapFault.{CapFault}
use Rattle.ioam_pcap.specs.declared.capture.CapFault.TheVariants as fault
use Rattle.ioam_pcap.specs.Form.{number_at, spelling, IsUnspelled, HasHead}
use Rattle.ioam_pcap.specs.Link.{IsLinkType, IsNoLinkType}
use Rattle.ioam_pcap.proofs.LinkLaws.{link_unique, linked_or_not}
use Rattle.ioam_pcap.specs.Ending.{Ending, Whole, Faulty}
use Rattle.ioam_pcap.specs.Entries.{Entry, most, captured, IsWhole, entry_at, behind, Entries}
use Rattle.ioam_pcap.specs.Reads.{HasMagic, HeadFault, EntryFault, IsHeadCut, IsEntryCut, Reached, FaultAt, CutAt, Shown, HeadShown, EntryShown, CutShown, FaultShown, Shows, IsShort, EndsAt, Reads, Cap, link_by}

-- a number spells one order and one fraction
spelling-injective : (o p : Order) (f g : Fraction) → spelling o f ≡ spelling p g → (o ≡ p) × (f ≡ g)
spelling-injective Big Big Micro Micro same = (refl, refl)
spelling-injective Big Big Micro Nano same = absurd (omega arith)
spelling-injective Big Big Nano Micro same = absurd (omega arith)
spelling-injective Big Big Nano Nano same = (refl, refl)
spelling-injective Big Little Micro Micro same = absurd (omega arith)
spelling-injective Big Little Micro Nano same = absurd (omega arith)
spelling-injective Big Little Nano Micro same = absurd (omega arith)
spelling-injective Big Little Nano Nano same = absurd (omega arith)
spelling-injective Little Big Micro Micro same = absurd (omega arith)
spelling-injective Little Big Micro Nano same = absurd (omega arith)
spelling-injective Little Big Nano Micro same = absurd (omega arith)
spelling-injective Little Big Nano Nano same = absurd (omega arith)
spelling-injective Little Little Micro Micro same = (refl, refl)
spelling-injective Little Little Micro Nano same = absurd (omega arith)
spelling-injective Little Little Nano Micro same = absurd (omega arith)
spelling-injective Little Little Nano Nano same = (refl, refl)

-- what is spelled is not unspelled
spelling_not_unspelled : (o : Order) (f : Fraction) (magic : ℕ) → magic ≡ spelling o f → IsUnspelled magic → ⊥
spelling_not_unspelled Big Micro magic same un = un.0 same
spelling_not_unspelled Big Nano magic same un = un.1 same
spelling_not_unspelled Little Micro magic same un = un.2 same
spelling_not_unspelled Little Nano magic same un = un.3 same

module _ (octets : List ℕ) where
  magic_unique : (o p : Order) (f g : Fraction) → HasMagic octets o f → HasMagic octets p g → (o ≡ p) × (f ≡ g)
  magic_unique o p f g x y = spelling-injective o p f g (sym x.1 ∙ y.1)

  pub head_unique : (a b : Form) → HasHead octets a → HasHead octets b → a ≡ b
  head_unique a b x y =
      let same = spelling-injective a.order b.order a.fraction b.fraction (sym x.1 ∙ y.1) in
      let Q : Order → Type 0 = λ o. IsLinkType (number_at o octets 20) a.link in
      let link : a.link ≡ b.link = link_unique _ a.link b.link (subst Q same.0 x.2) y.2 in
      let fields : ◌≡◌ {A = Form} (record { order = a.order; fraction = a.fraction; link = a.link }) (record { order = b.order; fraction = b.fraction; link = b.link }) = cc in
      fields

  -- a whole head has no fault and is not cut
  pub head_sound : (form : Form) (f : CapFault) → HasHead octets form → HeadFault octets f → ⊥
  head_sound form f head (inl magic) = let (found, is, fits, here, un) = magic in spelling_not_unspelled form.order form.fraction found (here ∙ head.1) un
  head_sound form f head (inr link) =
      let (found, is, long, unknown, spelled) = link in
      let (order, fraction, magic, there) = spelled in
      let same = spelling-injective form.order order form.fraction fraction (sym head.1 ∙ magic.1) in
      let Q : Order → Type 0 = λ o. IsLinkType (number_at o octets 20) form.link in
      let R : ℕ → Type 0 = λ n. IsLinkType n form.link in
      unknown form.link (subst R (sym there) (subst Q same.0 head.2))

  head_uncut : (form : Form) → HasHead octets form → IsHeadCut octets → ⊥
  head_uncut form head (inl few) = omega arith
  head_uncut form head (inr few) = omega (arith, few.0)

  -- a head that is cut has no fault
  cut_sound : (f : CapFault) → IsHeadCut octets → HeadFault octets f → ⊥
  cut_sound f (inl few) (inl magic) = let (found, is, fits, here, un) = magic in omega (arith, few, fits)
  cut_sound f (inr few) (inl magic) =
      let (found, is, fits, here, un) = magic in
      let (order, fraction, spelled) = few.1 in
      spelling_not_unspelled order fraction found (here ∙ spelled.1) un
  cut_sound f (inl few) (inr link) = let (found, is, long, unknown, spelled) = link in omega (arith, few, long)
  cut_sound f (inr few) (inr link) = let (found, is, long, unknown, spelled) = link in omega (arith, few.0, long)

  -- a number is unspelled or spelled
  unspelled_or_spelled : (m n : ℕ) → (4 ≤ length octets) × (m ≡ u32_at octets 0) × IsUnspelled m
      → (24 ≤ length octets) × IsNoLinkType n × ((order : Order) × (fraction : Fraction) × HasMagic octets order fraction × (n ≡ number_at order octets 20)) → ⊥
  unspelled_or_spelled m n x y = let (order, fraction, magic, there) = y.2 in spelling_not_unspelled order fraction m (x.1 ∙ magic.1) x.2

  -- a head has one fault
  head_fault_unique : (f g : CapFault) → HeadFault octets f → HeadFault octets g → f ≡ g
  head_fault_unique f g (inl x) (inl y) =
      let (m, is, fits, here, un) = x in
      let (n, was, fitted, there, un_too) = y in
      is ∙ ap fault.Magic (here ∙ sym there) ∙ sym was
  head_fault_unique f g (inl x) (inr y) = absurd (unspelled_or_spelled x.0 y.0 (x.2, x.3, x.4) (y.2, y.3, y.4))
  head_fault_unique f g (inr x) (inl y) = absurd (unspelled_or_spelled y.0 x.0 (y.2, y.3, y.4) (x.2, x.3, x.4))
  head_fault_unique f g (inr x) (inr y) =
      let (m, is, long, unknown, spelled) = x in
      let (n, was, longer, unknown_too, spelled_too) = y in
      let (o, a, magic, here) = spelled in
      let (p, b, magic_too, there) = spelled_too in
      let same = magic_unique o p a b magic magic_too in
      is ∙ ap fault.Link (here ∙ ap (λ q. number_at q octets 20) same.0 ∙ sym there) ∙ sym was

  -- at a place is one of: a whole record, one that is cut, one with a fault
  pub entry_uncut : (form : Form) (at : ℕ) → IsWhole form octets at → IsEntryCut form octets at → ⊥
  entry_uncut form at whole (inl few) = omega arith
  entry_uncut form at whole (inr few) = omega arith

  pub entry_sound : (form : Form) (at : ℕ) (f : CapFault) → IsWhole form octets at → EntryFault form octets at f → ⊥
  entry_sound form at f whole bad = let (found, is, fits, here, long) = bad in omega (arith, here, long, whole.0)

  cut_entry_sound : (form : Form) (at : ℕ) (f : CapFault) → IsEntryCut form octets at → EntryFault form octets at f → ⊥
  cut_entry_sound form at f (inl few) bad = let (found, is, fits, here, long) = bad in omega (arith, few, fits)
  cut_entry_sound form at f (inr few) bad = let (found, is, fits, here, long) = bad in omega (arith, few.0, here, long)

  entry_fault_unique : (form : Form) (at : ℕ) (f g : CapFault) → EntryFault form octets at f → EntryFault form octets at g → f ≡ g
  entry_fault_unique form at f g x y =
      let (m, is, fits, here, long) = x in
      let (n, was, fitted, there, longer) = y in
      is ∙ ap fault.RecordLong (here ∙ sym there) ∙ sym was

  -- the same at a reached place
  pub cut_not_faulty : (form : Option Form) (at : ℕ) (f : CapFault) → CutAt octets form at → FaultAt octets form at f → ⊥
  cut_not_faulty None at f cut bad = cut_sound f cut bad
  cut_not_faulty (Some form) at f cut bad = cut_entry_sound form at f cut bad

  pub fault_unique : (form : Option Form) (at : ℕ) (f g : CapFault) → FaultAt octets form at f → FaultAt octets form at g → f ≡ g
  fault_unique None at f g x y = head_fault_unique f g x y
  fault_unique (Some form) at f g x y = entry_fault_unique form at f g x y

  -- at a place stands one thing: what a step shows of it is determined
  pub Shows-unique : (form : Option Form) (at : ℕ) (x y : Shown) → Shows octets form at x → Shows octets form at y → x ≡ y
  Shows-unique None at (HeadShown a) (HeadShown b) x y =
      let same = head_unique x.1.0 y.1.0 x.1.1 y.1.1 in
      ap HeadShown (sym x.1.2 ∙ ap (λ f. f.link) same ∙ y.1.2)
  Shows-unique None at (HeadShown a) (EntryShown e) x y = absurd y
  Shows-unique None at (HeadShown a) CutShown x y = absurd (head_uncut x.1.0 x.1.1 y)
  Shows-unique None at (HeadShown a) (FaultShown f) x y = absurd (head_sound x.1.0 f x.1.1 y)
  Shows-unique None at (EntryShown e) other x y = absurd x
  Shows-unique None at CutShown (HeadShown b) x y = absurd (head_uncut y.1.0 y.1.1 x)
  Shows-unique None at CutShown (EntryShown e) x y = absurd y
  Shows-unique None at CutShown CutShown x y = refl
  Shows-unique None at CutShown (FaultShown f) x y = absurd (cut_sound f x y)
  Shows-unique None at (FaultShown f) (HeadShown b) x y = absurd (head_sound y.1.0 f y.1.1 x)
  Shows-unique None at (FaultShown f) (EntryShown e) x y = absurd y
  Shows-unique None at (FaultShown f) CutShown x y = absurd (cut_sound f y x)
  Shows-unique None at (FaultShown f) (FaultShown g) x y = ap FaultShown (head_fault_unique f g x y)
  Shows-unique (Some form) at (HeadShown a) other x y = absurd (let wrong = x.0 in cc)
  Shows-unique (Some form) at (EntryShown e) (HeadShown b) x y = absurd (let wrong = y.0 in cc)
  Shows-unique (Some form) at (EntryShown e) (EntryShown d) x y = ap EntryShown (x.1 ∙ sym y.1)
  Shows-unique (Some form) at (EntryShown e) CutShown x y = absurd (entry_uncut form at x.0 y)
  Shows-unique (Some form) at (EntryShown e) (FaultShown f) x y = absurd (entry_sound form at f x.0 y)
  Shows-unique (Some form) at CutShown (HeadShown b) x y = absurd (let wrong = y.0 in cc)
  Shows-unique (Some form) at CutShown (EntryShown d) x y = absurd (entry_uncut form at y.0 x)
  Shows-unique (Some form) at CutShown CutShown x y = refl
  Shows-unique (Some form) at CutShown (FaultShown f) x y = absurd (cut_entry_sound form at f x y)
  Shows-unique (Some form) at (FaultShown f) (HeadShown b) x y = absurd (let wrong = y.0 in cc)
  Shows-unique (Some form) at (FaultShown f) (EntryShown d) x y = absurd (entry_sound form at f y.0 x)
  Shows-unique (Some form) at (FaultShown f) CutShown x y = absurd (cut_entry_sound form at f y x)
  Shows-unique (Some form) at (FaultShown f) (FaultShown g) x y = ap FaultShown (entry_fault_unique form at f g x y)

  -- nothing is left over at the end of a whole file
  fault_inside : (form : Option Form) (at : ℕ) (f : CapFault) → IsSome form → at ≡ length octets → FaultAt octets form at f → ⊥
  fault_inside None at f some end bad = false≢true some
  fault_inside (Some form) at f some end bad = let (found, is, fits, here, long) = bad in omega (arith, end, fits)

  whole_or_faulty : (form : Option Form) (at place : ℕ) (f : CapFault) → EndsAt octets form at Whole → EndsAt octets form at (Faulty place f) → ⊥
  whole_or_faulty form at place f whole ends = elim ends.1 [
    | inl bad ↦ fault_inside form at f whole.0 whole.1 bad
    | inr short ↦ let (have, is, cut, many, some) = short in let more = some whole.0 in omega arith
  ]

  faults_unique : (form : Option Form) (at : ℕ) (f g : CapFault) → (FaultAt octets form at f ⊎ IsShort octets form at f)
      → (FaultAt octets form at g ⊎ IsShort octets form at g) → f ≡ g
  faults_unique form at f g (inl x) (inl y) = fault_unique form at f g x y
  faults_unique form at f g (inl x) (inr y) = absurd (cut_not_faulty form at f y.2 x)
  faults_unique form at f g (inr x) (inl y) = absurd (cut_not_faulty form at g x.2 y)
  faults_unique form at f g (inr x) (inr y) =
      let (have, is, cut, many, some) = x in
      let (had, was, cuts, much, more) = y in
      let same : have ≡ had = omega arith in
      is ∙ ap fault.Short same ∙ sym was

  ends_unique : (form : Option Form) (at : ℕ) (d e : Ending) → EndsAt octets form at d → EndsAt octets form at e → d ≡ e
  ends_unique form at Whole Whole x y = refl
  ends_unique form at Whole (Faulty p f) x y = absurd (whole_or_faulty form at p f x y)
  ends_unique form at (Faulty p f) Whole x y = absurd (whole_or_faulty form at p f y x)
  ends_unique form at (Faulty p f) (Faulty q g) x y =
      let same = faults_unique form at f g x.1 y.1 in
      let place : p ≡ q = x.0 ∙ sym y.0 in
      cc

  -- a whole head ends nothing at the front
  pub ends_front : (form : Form) (d : Ending) → HasHead octets form → EndsAt octets None 0 d → ⊥
  ends_front form Whole head ends = false≢true ends.0
  ends_front form (Faulty p f) head ends = elim ends.1 [
    | inl bad ↦ head_sound form f head bad
    | inr short ↦ head_uncut form head short.2
  ]

  -- a whole record ends nothing
  pub ends_no_record : (form : Form) (at : ℕ) (d : Ending) → EndsAt octets (Some form) at d → IsWhole form octets at → ⊥
  ends_no_record form at Whole ends whole = omega (arith, ends.1)
  ends_no_record form at (Faulty p f) ends whole = elim ends.1 [
    | inl bad ↦ entry_sound form at f whole bad
    | inr short ↦ entry_uncut form at whole short.2
  ]

  -- reached places where the octets end are one
  places_unique : (form other : Option Form) (xs ys : List Entry) (at there : ℕ) (d e : Ending)
      → Reached octets form xs at → EndsAt octets form at d → Reached octets other ys there → EndsAt octets other there e
      → (form ≡ other) × (xs ≡ ys) × (d ≡ e)
  places_unique None None xs ys at there d e x ends y ends' =
      let same : there ≡ at = omega arith in
      let Q : ℕ → Type 0 = λ n. EndsAt octets None n e in
      (refl, x.0 ∙ sym y.0, ends_unique None at d e ends (subst Q same ends'))
  places_unique None (Some form) xs ys at there d e x ends y ends' =
      let Q : ℕ → Type 0 = λ n. EndsAt octets None n d in
      absurd (ends_front form d y.0 (subst Q x.1 ends))
  places_unique (Some form) None xs ys at there d e x ends y ends' =
      let Q : ℕ → Type 0 = λ n. EndsAt octets None n e in
      absurd (ends_front form e x.0 (subst Q y.1 ends'))
  places_unique (Some a) (Some b) xs ys at there d e x ends y ends' =
      let form : b ≡ a = head_unique b a y.0 x.0 in
      let Q : Form → Type 0 = λ f. Entries f octets 24 ys there in
      let R : Form → Type 0 = λ f. EndsAt octets (Some f) there e in
      let leads = subst Q form y.1 in
      let stops = subst R form ends' in
      let same = Leads-unique (IsWhole a octets) (entry_at a octets) (behind a octets) 24 xs at ys there x.1 (ends_no_record a at d ends) leads (ends_no_record a there e stops) in
      let S : ℕ → Type 0 = λ n. EndsAt octets (Some a) n e in
      (ap Some (sym form), same.0, ends_unique (Some a) at d e ends (subst S (sym same.1) stops))

  -- a capture reads in one way
  pub Reads-unique : (link other : Option Layer) (xs ys : List Entry) (d e : Ending) → Reads octets link xs d → Reads octets other ys e
      → (link ≡ other) × (xs ≡ ys) × (d ≡ e)
  Reads-unique link other xs ys d e x y =
      let same = places_unique x.form y.form xs ys x.at y.at d e x.reached x.ends y.reached y.ends in
      (x.linked ∙ ap link_by same.0 ∙ sym y.linked, same.1, same.2)

  -- a capture with a head has a list of records behind which no whole one stands
  pub Reads-cap : (link : Layer) (entries : List Entry) (ending : Ending) → Reads octets (Some link) entries ending → (rest : ℕ) × Cap octets link entries rest
  Reads-cap link entries ending reads = cap_by reads.form reads.at reads.reached reads.ends reads.linked
    where
      cap_by : (form : Option Form) (at : ℕ) → Reached octets form entries at → EndsAt octets form at ending → Some link ≡ link_by form
          → (rest : ℕ) × Cap octets link entries rest
      cap_by None at reached ends linked = absurd (cc)
      cap_by (Some form) at reached ends linked = (
        at,
        record {
          form = form;
          head = reached.0;
          linked = cc;
          leads = reached.1;
          stops = ends_no_record form at ending ends;
        },
      )

-- a number is spelled or not
spelled_or_not : (magic : ℕ) → ((order : Order) × (fraction : Fraction) × (magic ≡ spelling order fraction)) ⊎ IsUnspelled magic
spelled_or_not magic = elim (cases_eq magic 0xa1b2c3d4) [
  | inl a ↦ inl (Big, Micro, a)
  | inr a ↦ elim (cases_eq magic 0xa1b23c4d) [
    | inl b ↦ inl (Big, Nano, b)
    | inr b ↦ elim (cases_eq magic 0xd4c3b2a1) [
      | inl d ↦ inl (Little, Micro, d)
      | inr d ↦ elim (cases_eq magic 0x4d3cb2a1) [
        | inl e ↦ inl (Little, Nano, e)
        | inr e ↦ inr (a, b, d, e)
      ]
    ]
  ]
]

-- what a file is found to be
abbrev pub Found : List ℕ → Type 0
Found octets = (link : Option Layer) × (entries : List Entry) × (ending : Ending) × Reads octets link entries ending

module _ (octets : List ℕ) where
  found_at : (form : Option Form) (entries : List Entry) (at : ℕ) (ending : Ending) → Reached octets form entries at → EndsAt octets form at ending → Found octets
  found_at form entries at ending reached ends =
      (link_by form, entries, ending, record { form = form; at = at; reached = reached; ends = ends; linked = refl })

  found_front : (ending : Ending) → EndsAt octets None 0 ending → Found octets
  found_front ending ends = found_at None [] 0 ending (refl, refl) ends

  -- what stands at a place, given what is found behind a whole record there
  step_found : (form : Form) (entries : List Entry) (at : ℕ) → HasHead octets form → Entries form octets 24 entries at
      → at ≤ length octets → (IsWhole form octets at → Found octets) → Found octets
  step_found form entries at head leads inside more = elim (cases_lt (length octets) (at + 16)) [
    | inl few ↦ elim (cases_eq at (length octets)) [
      | inl end ↦ found_at (Some form) entries at Whole (head, leads) (refl, end)
      | inr some ↦ found_at (Some form) entries at (Faulty at (fault.Short (length octets - at))) (head, leads) (refl, inr (_, refl, inl few, omega arith, λ _. omega arith))
    ]
    | inr fits ↦ elim (cases_lt most (captured form octets at)) [
      | inl long ↦ found_at (Some form) entries at (Faulty at (fault.RecordLong (captured form octets at))) (head, leads) (refl, inl (_, refl, fits, refl, long))
      | inr short ↦ elim (cases_lt (length octets) (at + 16 + captured form octets at)) [
        | inl few ↦ found_at (Some form) entries at (Faulty at (fault.Short (length octets - at))) (head, leads) (refl, inr (_, refl, inr (short, few), omega arith, λ _. omega arith))
        | inr whole ↦ more (short, whole)
      ]
    ]
  ]

  -- what stands at a place behind which n octets are left at most
  rest_found : (n : ℕ) (form : Form) (entries : List Entry) (at : ℕ) → HasHead octets form → Entries form octets 24 entries at
      → at ≤ length octets → length octets ≤ at + n → Found octets
  rest_found zero form entries at head leads inside left = step_found form entries at head leads inside (λ whole. absurd (omega arith))
  rest_found (suc n) form entries at head leads inside left = step_found form entries at head leads inside (λ whole.
      rest_found n form (entries ++ entry_at form octets at ∷ []) (behind form octets at) head
      (Leads-push (IsWhole form octets) (entry_at form octets) (behind form octets) 24 entries at leads whole) (omega arith) (omega arith))

  -- a capture reads in some way
  pub Reads-total : Found octets
  Reads-total = elim (cases_lt (length octets) 4) [
    | inl few ↦ found_front (Faulty 0 (fault.Short (length octets))) (refl, inr (_, refl, inl few, omega arith, λ some. absurd (false≢true some)))
    | inr fits ↦ elim (spelled_or_not (u32_at octets 0)) [
      | inr un ↦ found_front (Faulty 0 (fault.Magic (u32_at octets 0))) (refl, inl (inl (_, refl, fits, refl, un)))
      | inl spelled ↦ let (order, fraction, is) = spelled in elim (cases_lt (length octets) 24) [
        | inl few ↦ found_front (Faulty 0 (fault.Short (length octets))) (refl, inr (_, refl, inr (few, (order, fraction, (fits, is))), omega arith, λ some. absurd (false≢true some)))
        | inr long ↦ elim (linked_or_not (number_at order octets 20)) [
          | inl linked ↦ rest_found (length octets) (record { order = order; fraction = fraction; link = linked.0 }) [] 24 (long, is, linked.1) refl long (omega arith)
          | inr unknown ↦ found_front (Faulty 0 (fault.Link (number_at order octets 20))) (refl, inl (inr (_, refl, long, unknown, (order, fraction, (fits, is), refl))))
        ]
      ]
    ]
  ]
