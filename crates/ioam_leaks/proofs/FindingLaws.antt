-- What a packet shows is one finding; of a whole chain it is what the walk along it finds.
use Rattle.std.proofs.Common.{◌≡◌, ◌≢◌, ◌⊎◌, inl, inr, ℕ, zero, suc, ◌↔◌, Bool, true, false, ◌||◌, List, [], ◌∷◌, length, slice_index, eqb, refl, sym, ap, ◌∙◌, subst, arith}
use Rattle.std.specs.List.{All, Any}
use Rattle.std.proofs.lemmas.List.Elements.{All-head, All-tail}
use Rattle.std.proofs.lemmas.Bool.Decides.{nat_tests}
use Rattle.ioam_base.specs.Leads.{Leads}
use Rattle.ioam_ip.specs.Chain.{kind_of, CanPass, EndsAt, EndsBy, head_at, behind, start, EndsWith, IsSound}
use Rattle.ioam_ip.specs.ChainOptions.{is_options_head, octets_of, HasIoam, HeadFits, CarriesIoam}
use Rattle.ioam_ip.specs.Clean.{IsClean}
use Rattle.ioam_ip.specs.Findings.{is_ioam, is_ioam_type, has_ioam}
use Rattle.ioam_ip.specs.Options.{Item, AreOptions, IsFilled, OptionFits, item_at, option_end}
use Rattle.ioam_ip.specs.declared.chain.Head.{Head}
use Rattle.ioam_ip.specs.declared.chain.HeadSpot.{HeadSpot}
use Rattle.ioam_ip.proofs.ChainLaws.{Chain-unique, ends_no_pass}
use Rattle.ioam_ip.proofs.FitLaws.{heads_fit}
use Rattle.ioam_ip.proofs.Looking.{has_ioam-filter}
use Rattle.ioam_ip.proofs.OptionsLaws.{option_size-pos}
use Rattle.ioam_leaks.specs.Finding.{Carries, QuotesAt, IsHidden, IsLeaking, HasFinding, OnlyFinding, IsLeak}
use Rattle.ioam_leaks.specs.Shows.{Shows, ShowsAt, HasOption}
use Rattle.ioam_leaks.specs.declared.finding.Finding.{Finding}
use Rattle.ioam_leaks.specs.declared.finding.Finding.TheVariants.{Clean, Leaks, Hides}
use Rattle.ioam_leaks.specs.declared.finding.Hidden.{Hidden}
use Rattle.ioam_leaks.specs.declared.finding.Hidden.TheVariants as hidden
use Rattle.ioam_leaks.specs.declared.finding.Leak.{Leak}
use Rattle.ioam_leaks.specs.declared.finding.Leak.TheVariants as leak
use Rattle.ioam_leaks.specs.declared.option.Part.TheVariants.{Whole}
use Rattle.ioam_leaks.proofs.OptionLaws.{HasOption-here, HasOption-on}
use Rattle.ioam_leaks.proofs.ShowsLaws.{Shows-here, Shows-on}

-- no option fits at the end of a header
full : (header : List ℕ) → OptionFits header (length header) → ⊥
full header fits = absurd (omega (arith, fits, option_size-pos header (length header)))

-- options that fill a header show an IOAM option exactly if one of them is one
module _ (header : List ℕ) where
  shown_by : (b : Bool) (from : ℕ) (rest : List Item) → is_ioam_type (slice_index header from) ≡ b → OptionFits header from
      → (has_ioam rest ≡ true → HasOption Whole header (option_end header from)) → (b || has_ioam rest) ≡ true → HasOption Whole header from
  shown_by true from rest is fits others holds = HasOption-here Whole header from (fits, is)
  shown_by false from rest is fits others holds = HasOption-on Whole header from fits (others holds)

  shown : (from : ℕ) (items : List Item) (to : ℕ) → Leads (OptionFits header) (item_at header) (option_end header) from items to
      → has_ioam items ≡ true → HasOption Whole header from
  shown from [] to leads holds = cc holds
  shown from (x ∷ items) to leads holds =
      let kind : is_ioam x ≡ is_ioam_type (slice_index header from) = ap is_ioam leads.1 in
      shown_by (is_ioam x) from items (sym kind) leads.0 (shown (option_end header from) items to leads.2) holds

  or_right : (a b : Bool) → b ≡ true → (a || b) ≡ true
  or_right true b holds = refl
  or_right false b holds = holds

  or_left : (a b : Bool) → a ≡ true → (a || b) ≡ true
  or_left true b holds = refl
  or_left false b holds = cc holds

  -- an option that is shown is among those that fill the header
  among : (from : ℕ) (items : List Item) (to : ℕ) (before : List Item) (at : ℕ)
      → Leads (OptionFits header) (item_at header) (option_end header) from items to → (OptionFits header to → ⊥)
      → Leads (OptionFits header) (item_at header) (option_end header) from before at
      → OptionFits header at → is_ioam_type (slice_index header at) ≡ true → has_ioam items ≡ true
  among from [] to before at here stops leads fits ioam = absurd (past before leads) where
    unfit : OptionFits header from → ⊥
    unfit = subst (λ (n : ℕ). OptionFits header n → ⊥) (sym here) stops

    past : (before : List Item) → Leads (OptionFits header) (item_at header) (option_end header) from before at → ⊥
    past [] same = unfit (subst (λ (n : ℕ). OptionFits header n) (sym same) fits)
    past (x ∷ before) leads = unfit leads.0
  among from (x ∷ items) to [] at leads stops same fits ioam =
      or_left (is_ioam x) (has_ioam items) (ap is_ioam leads.1 ∙ ap (λ (n : ℕ). is_ioam_type (slice_index header n)) same ∙ ioam)
  among from (x ∷ items) to (y ∷ before) at leads stops others fits ioam =
      or_right (is_ioam x) (has_ioam items) (among (option_end header from) items to before at leads.2 stops others.2 fits ioam)

-- where the chain ends no options header stands
which : (value : ℕ) (b : Bool) → eqb value 0 ≡ b → (b || eqb value 60) ≡ true → (value ≡ 0) ⊎ (value ≡ 60)
which value true hop holds = inl (grind (arith, nat_tests))
which value false hop holds = inr (grind (arith, nat_tests))

ends_other : (p : List ℕ) (spot : HeadSpot) → EndsAt p spot → is_options_head (head_at p spot) ≡ true → ⊥
ends_other p spot ends options =
    let P : ℕ → Type 0 = λ value. EndsBy p spot.at (kind_of value) in
    elim (which spot.value (eqb spot.value 0) refl options) [
      | inl hop ↦ subst P hop ends
      | inr target ↦ subst P target ends
    ]

module _ (p : List ℕ) where
  -- a header that shows an IOAM option has one, if its options fill it
  shown_has : (head : Head) → HeadFits p head → is_options_head head ≡ true → HasOption Whole (octets_of p head) 2 → HasIoam p head
  shown_has head fits options has =
      let filled : IsFilled (octets_of p head) = fits.filled options in
      let are : AreOptions (octets_of p head) filled.0 = filled.1 in
      record {
        holds_options = options;
        options = filled.0;
        are_options = are;
        ioam = ap has_ioam are.options ∙ has_ioam-filter are.items
            ∙ among (octets_of p head) 2 are.items (length (octets_of p head)) has.items has.at are.fill (full (octets_of p head)) has.before has.counts.0 has.counts.1;
      }

  -- a header that has one shows it
  has_shown : (head : Head) → HasIoam p head → HasOption Whole (octets_of p head) 2
  has_shown head has =
      let are : AreOptions (octets_of p head) has.options = has.are_options in
      shown (octets_of p head) 2 are.items (length (octets_of p head)) are.fill
      (sym (has_ioam-filter are.items) ∙ ap has_ioam (sym are.options) ∙ has.ioam)

  to_by : (from : HeadSpot) (hs : List Head) (last : HeadSpot) → Leads (CanPass p) (head_at p) (behind p) from hs last → EndsAt p last → All (HeadFits p) hs
      → (headers : List Head) (spot : HeadSpot) → Leads (CanPass p) (head_at p) (behind p) from headers spot → ShowsAt Whole p spot → Any (HasIoam p) hs
  to_by from [] last here ends fit [] spot there shows =
      absurd (ends_other p last ends (ap (λ (s : HeadSpot). is_options_head (head_at p s)) (sym here ∙ there) ∙ shows.0))
  to_by from [] last here ends fit (x ∷ headers) spot leads shows = absurd (ends_no_pass p last ends (subst (λ (s : HeadSpot). CanPass p s) here leads.0))
  to_by from (h ∷ hs) last leads ends fit [] spot here shows =
      let head : h ≡ head_at p spot = leads.1 ∙ ap (λ (s : HeadSpot). head_at p s) here in
      let P : Head → Type 0 = λ head. HasOption Whole (octets_of p head) 2 in
      (zero, h, omega arith, refl, shown_has h (All-head (HeadFits p) h hs fit) (ap is_options_head head ∙ shows.0) (subst P (sym head) shows.1))
  to_by from (h ∷ hs) last leads ends fit (x ∷ headers) spot others shows =
      let found : Any (HasIoam p) hs = to_by (behind p from) hs last leads.2 ends (All-tail (HeadFits p) h hs fit) headers spot others.2 shows in
      (suc found.0, found.1, omega (arith, found.2), found.3, found.4)

  from_by : (from : HeadSpot) (hs : List Head) (last : HeadSpot) → Leads (CanPass p) (head_at p) (behind p) from hs last → Any (HasIoam p) hs → Shows Whole p from
  from_by from [] last leads (k, x, below, same, has) = absurd (omega (arith, below))
  from_by from (h ∷ hs) last leads (zero, x, below, same, has) =
      let P : Head → Type 0 = λ head. HasIoam p head in
      let here : HasIoam p (head_at p from) = subst P (sym same ∙ leads.1) has in
      Shows-here Whole p from (here.holds_options, has_shown (head_at p from) here)
  from_by from (h ∷ hs) last leads (suc k, x, below, same, has) =
      Shows-on Whole p from leads.0 (from_by (behind p from) hs last leads.2 (k, x, omega (arith, below), same, has))

  -- of a whole chain a packet carries IOAM exactly if some header on it has an IOAM option
  pub carries_to : IsSound p → Carries p → CarriesIoam p
  carries_to sound carries = record {
    heads = sound.heads;
    upper = sound.upper;
    at = sound.at;
    chain = sound.chain;
    has_ioam = to_by (start p) sound.heads sound.chain.last sound.chain.reaches sound.chain.ends
        (heads_fit p sound.heads (record { upper = sound.upper; at = sound.at; chain = sound.chain })) carries.headers carries.spot carries.reaches carries.shows;
  }

  pub carries_from : CarriesIoam p → Carries p
  carries_from carries = from_by (start p) carries.heads carries.chain.last carries.chain.reaches carries.has_ioam

  -- a chain has one end
  pub ends_sound : (upper at : ℕ) → EndsWith p upper at → IsSound p
  ends_sound upper at ends = record { heads = ends.heads; upper = upper; at = at; chain = ends.chain }

  ends_one : (upper at other place : ℕ) → EndsWith p upper at → EndsWith p other place → (upper ≡ other) × (at ≡ place)
  ends_one upper at other place a b = let same = Chain-unique p a.heads upper at b.heads other place a.chain b.chain in (same.1, same.2)

  -- a packet whose chain is whole and has no IOAM option leaks only what it quotes
  pub no_leak : (upper at : ℕ) → EndsWith p upper at → (CarriesIoam p → ⊥) → (upper ≡ 58 → QuotesAt p at → ⊥) → (how : Leak) → IsLeaking p how → ⊥
  no_leak upper at ends clean none leak.Carries carries = clean (carries_to (ends_sound upper at ends) carries)
  no_leak upper at ends clean none leak.Quotes leaking =
      let same = ends_one upper at 58 leaking.1.at ends leaking.1.ends in
      none same.0 (subst (λ (n : ℕ). QuotesAt p n) (sym same.1) leaking.1.quotes)

  -- and hides nothing unless its chain ends so
  pub no_hidden : (upper at : ℕ) → EndsWith p upper at → upper ≢ 50 → upper ≢ 51 → upper ≢ 44 → (why : Hidden) → IsHidden p why → ⊥
  no_hidden upper at ends esp ah fragment hidden.Esp hides = esp (ends_one upper at 50 hides.0 ends hides.1).0
  no_hidden upper at ends esp ah fragment hidden.Ah hides = ah (ends_one upper at 51 hides.0 ends hides.1).0
  no_hidden upper at ends esp ah fragment hidden.Fragment hides = fragment (ends_one upper at 44 hides.0 ends hides.1).0
  no_hidden upper at ends esp ah fragment hidden.Chain hides = hides (ends_sound upper at ends)

  one_leak : (how other : Leak) → IsLeaking p how → IsLeaking p other → other ≡ how
  one_leak leak.Carries leak.Carries first second = refl
  one_leak leak.Carries leak.Quotes first second = absurd (second.0 first)
  one_leak leak.Quotes leak.Carries first second = absurd (first.0 second)
  one_leak leak.Quotes leak.Quotes first second = refl

  one_end : (upper other : ℕ) → ((at : ℕ) × EndsWith p upper at) → ((at : ℕ) × EndsWith p other at) → upper ≡ other
  one_end upper other a b = (ends_one upper a.0 other b.0 a.1 b.1).0

  one_hidden : (why other : Hidden) → IsHidden p why → IsHidden p other → other ≡ why
  one_hidden hidden.Esp hidden.Esp a b = refl
  one_hidden hidden.Esp hidden.Ah a b = absurd (omega (arith, one_end 50 51 a b))
  one_hidden hidden.Esp hidden.Fragment a b = absurd (omega (arith, one_end 50 44 a b))
  one_hidden hidden.Esp hidden.Chain a b = absurd (b (ends_sound 50 a.0 a.1))
  one_hidden hidden.Ah hidden.Esp a b = absurd (omega (arith, one_end 51 50 a b))
  one_hidden hidden.Ah hidden.Ah a b = refl
  one_hidden hidden.Ah hidden.Fragment a b = absurd (omega (arith, one_end 51 44 a b))
  one_hidden hidden.Ah hidden.Chain a b = absurd (b (ends_sound 51 a.0 a.1))
  one_hidden hidden.Fragment hidden.Esp a b = absurd (omega (arith, one_end 44 50 a b))
  one_hidden hidden.Fragment hidden.Ah a b = absurd (omega (arith, one_end 44 51 a b))
  one_hidden hidden.Fragment hidden.Fragment a b = refl
  one_hidden hidden.Fragment hidden.Chain a b = absurd (b (ends_sound 44 a.0 a.1))
  one_hidden hidden.Chain hidden.Esp a b = absurd (a (ends_sound 50 b.0 b.1))
  one_hidden hidden.Chain hidden.Ah a b = absurd (a (ends_sound 51 b.0 b.1))
  one_hidden hidden.Chain hidden.Fragment a b = absurd (a (ends_sound 44 b.0 b.1))
  one_hidden hidden.Chain hidden.Chain a b = refl

  -- a packet has one finding
  pub one_finding : (first : Finding) → HasFinding p first → OnlyFinding p first
  one_finding Clean a Clean b = refl
  one_finding Clean a (Leaks how) b = absurd (a.0 how b)
  one_finding Clean a (Hides why) b = absurd (a.1 why b.1)
  one_finding (Leaks how) a Clean b = absurd (b.0 how a)
  one_finding (Leaks how) a (Leaks other) b = ap (λ (l : Leak). Leaks l) (one_leak how other a b)
  one_finding (Leaks how) a (Hides why) b = absurd (b.0 how a)
  one_finding (Hides why) a Clean b = absurd (b.1 why a.1)
  one_finding (Hides why) a (Leaks how) b = absurd (a.0 how b)
  one_finding (Hides why) a (Hides other) b = ap (λ (h : Hidden). Hides h) (one_hidden why other a.1 b.1)

  -- of what may leave a domain only that leaks which quotes
  quotes_to : (first : Finding) → HasFinding p first → IsClean p → IsLeak first → first ≡ Leaks leak.Quotes
  quotes_to Clean a clean leaks = absurd leaks
  quotes_to (Leaks leak.Carries) a clean leaks = absurd (clean.1 (carries_to clean.0 a))
  quotes_to (Leaks leak.Quotes) a clean leaks = refl
  quotes_to (Hides why) a clean leaks = absurd leaks

  quotes_clean : HasFinding p (Leaks leak.Quotes) → IsClean p × IsLeak (Leaks leak.Quotes)
  quotes_clean a = ((ends_sound 58 a.1.at a.1.ends, λ carries. a.0 (carries_from carries)), tt)

  pub leaves_quoting : (first : Finding) → HasFinding p first → (IsClean p × IsLeak first) ↔ (first ≡ Leaks leak.Quotes)
  leaves_quoting first a = (
    (λ both. quotes_to first a both.0 both.1),
    (λ is. subst (λ (f : Finding). IsClean p × IsLeak f) (sym is) (quotes_clean (subst (λ (f : Finding). HasFinding p f) is a))),
  )
