-- A packet whose chain is whole keeps its chain when the data of options of its outer Hop-by-Hop header is replaced.
use Rattle.std.proofs.Common.{◌≡◌, ℕ, ◌+◌, ◌-◌, ◌*◌, ◌/◌, ◌<◌, ◌≤◌, Bool, true, false, cond, eqb, List, [], ◌∷◌, ◌++◌, length, take, drop, set, map, slice_index, slice_range, refl, sym, ap, ◌∙◌, subst, arith, length-take, length-drop, get_or-take, get_or-drop}
use Rattle.std.proofs.lemmas.List.{drop-set-lt, length-set, get_or-set_other, take_at, drop_at, get_or_append_left, get_or-append-add}
use Rattle.std.proofs.lemmas.Bool.Decides.{nat_tests}
use Rattle.ioam_base.specs.Leads.{Leads}
use Rattle.ioam_base.specs.Octets.{written}
use Rattle.ioam_base.proofs.WrittenLaws.{length-written, written-front, written-behind}
use Rattle.ioam_ip.specs.Options.{Item, IsFilled}
use Rattle.ioam_ip.specs.Chain.{said_size, CanPass, head_at, behind, start, EndsAt, IsSound}
use Rattle.ioam_ip.specs.HeadsLeft.{AreHeads}
use Rattle.ioam_ip.specs.Packet.{IsPacket}
use Rattle.ioam_ip.specs.declared.chain.HeadSpot.{HeadSpot}
use Rattle.ioam_ip.specs.declared.chain.Head.{Head}
use Rattle.ioam_ip.proofs.OptionsLeftLaws.{all_from}
use Rattle.ioam_ip.specs.Rewriting.{options_in, with_steps, item_stepped}
use Rattle.ioam_ip.specs.Hop.{has_hop, hop_end, hop_head, hop_options, hop_stepped, ioam_count, option_count}
use Rattle.ioam_ip.proofs.SteppedLaws.{Stepped, AreOptions-stepped, options_in-stepped, ioam_count-stepped}
use Rattle.ioam_ip.proofs.CarryLaws.{leads_alike, ends_alike, last_behind}

-- ---- the chain of a packet

abbrev pub first_spot : ℕ → HeadSpot
first_spot value = record { value = value; at = 40; behind_ip = true }

-- the same octets stand behind the outer header
pub heads_behind : (p q : List ℕ) (hs : List Head) → length q ≡ length p → slice_index q 6 ≡ slice_index p 6 → drop 40 q ≡ drop 40 p
    → AreHeads p hs → AreHeads q hs
heads_behind p q hs long value same are =
    let chain = are.chain in
    let P : ℕ → Type 0 = λ n. Leads (CanPass q) (head_at q) (behind q) (first_spot n) hs chain.last in
    let after : 40 ≤ chain.last.at = last_behind p (start p) hs chain.last chain.reaches in
    record {
      upper = are.upper;
      at = are.at;
      chain = record {
        last = chain.last;
        reaches = subst P (sym value) (leads_alike p q 40 same long (start p) hs chain.last (omega arith) chain.reaches);
        ends = ends_alike p q 40 same long chain.last after chain.ends;
        value = chain.value;
        place = chain.place;
      };
    }

-- a Hop-by-Hop header that is named on a whole chain is whole
passes_from : (p : List ℕ) (hs : List Head) (last : HeadSpot) → Leads (CanPass p) (head_at p) (behind p) (first_spot 0) hs last → EndsAt p last → CanPass p (first_spot 0)
passes_from p [] last here ends = let P : HeadSpot → Type 0 = λ s. EndsAt p s in absurd (subst P (sym here) ends)
passes_from p (h ∷ hs) last leads ends = leads.0

pub hop_passes : (p : List ℕ) (hs : List Head) → AreHeads p hs → slice_index p 6 ≡ 0 → CanPass p (first_spot 0)
hop_passes p hs are is =
    let P : ℕ → Type 0 = λ n. Leads (CanPass p) (head_at p) (behind p) (first_spot n) hs are.chain.last in
    passes_from p hs are.chain.last (subst P is are.chain.reaches) are.chain.ends

pub zero_is : (n : ℕ) → eqb n 0 ≡ true → n ≡ 0
zero_is n is = grind (arith, nat_tests)

module _ (p q : List ℕ) (long : length q ≡ length p) (first : slice_index q 40 ≡ slice_index p 40) (said : slice_index q 41 ≡ slice_index p 41)
    (rest : drop (hop_end p) q ≡ drop (hop_end p) p) (filled : IsFilled (hop_head q)) where
  hop_leads : (hs : List Head) (last : HeadSpot) → Leads (CanPass p) (head_at p) (behind p) (first_spot 0) hs last → EndsAt p last
      → Leads (CanPass q) (head_at q) (behind q) (first_spot 0) hs last × EndsAt q last
  hop_leads [] last here ends = let P : HeadSpot → Type 0 = λ s. EndsAt p s in absurd (subst P (sym here) ends)
  hop_leads (h ∷ hs) last leads ends =
      let after : behind q (first_spot 0) ≡ behind p (first_spot 0) = λ i. record { value = first i; at = 40 + (said i + 1) * 8; behind_ip = false } in
      let same : head_at q (first_spot 0) ≡ head_at p (first_spot 0) = λ i. record { value = 0; range = record { start = 40; end = 40 + (said i + 1) * 8 } } in
      let within : hop_end p ≤ length p = leads.0.0 in
      let ends_same : hop_end q ≡ hop_end p = λ i. 40 + (said i + 1) * 8 in
      let P : HeadSpot → Type 0 = λ s. Leads (CanPass q) (head_at q) (behind q) s hs last in
      let later : hop_end p ≤ last.at = last_behind p (behind p (first_spot 0)) hs last leads.2 in (
        ((omega (arith, within, long, ends_same), (refl, filled)), leads.1 ∙ sym same, subst P (sym after) (leads_alike p q (hop_end p) rest long (behind p (first_spot 0)) hs last (omega arith) leads.2)),
        ends_alike p q (hop_end p) rest long last later ends,
      )

  heads_hop : (hs : List Head) → slice_index q 6 ≡ slice_index p 6 → slice_index p 6 ≡ 0 → AreHeads p hs → AreHeads q hs
  heads_hop hs value is are =
      let P : ℕ → Type 0 = λ n. Leads (CanPass p) (head_at p) (behind p) (first_spot n) hs are.chain.last in
      let Q : ℕ → Type 0 = λ n. Leads (CanPass q) (head_at q) (behind q) (first_spot n) hs are.chain.last in
      let both = hop_leads hs are.chain.last (subst P is are.chain.reaches) are.chain.ends in
      record {
        upper = are.upper;
        at = are.at;
        chain = record { last = are.chain.last; reaches = subst Q (sym (value ∙ is)) both.0; ends = both.1; value = are.chain.value; place = are.chain.place };
      }

module _ (step : ℕ → List ℕ → List ℕ) (keeps : (kind : ℕ) (body : List ℕ) → length (step kind body) ≡ length body) (p : List ℕ) where
  abbrev pub part : List ℕ
  part = with_steps step (hop_head p) (options_in (hop_head p))

  abbrev pub after : List ℕ
  after = written p 40 part

  -- what is known of the packet where its Hop-by-Hop header is whole
  pub record After : Type 0 where
    pub within : hop_end p ≤ length p
    pub filled : IsFilled (hop_head p)
    pub all : Stepped step keeps (hop_head p) (options_in (hop_head p))
    pub head_is : hop_head after ≡ part
    pub long : length after ≡ length p
    pub first : slice_index after 40 ≡ slice_index p 40
    pub said : slice_index after 41 ≡ slice_index p 41
    pub value : slice_index after 6 ≡ slice_index p 6
    pub rest : drop (hop_end p) after ≡ drop (hop_end p) p

  pub facts : hop_end p ≤ length p → IsFilled (hop_head p) → After
  facts within filled =
      let S : List Item → Type 0 = λ os. Stepped step keeps (hop_head p) os in
      let all = subst S (sym (all_from (hop_head p) filled.0 filled.1)) (AreOptions-stepped step keeps (hop_head p) filled.0 filled.1) in
      let head_long : length (hop_head p) ≡ said_size p 40 = omega (arith, within, length-take (hop_end p - 40) (drop 40 p), length-drop 40 p) in
      let part_long : length part ≡ said_size p 40 = all.long ∙ head_long in
      let whole : length after ≡ length p = length-written p part 40 (omega (arith, part_long, within)) in
      let front : length (take 40 p) ≡ 40 = omega (arith, within, length-take 40 p) in
      let back = drop (40 + length part) p in
      let octet : (k : ℕ) → k < 2 → slice_index after (40 + k) ≡ slice_index p (40 + k) =
      λ k below.
      let here : 40 + k ≡ length (take 40 p) + k = omega (arith, front) in
      ap (λ n. slice_index after n) here ∙ get_or-append-add (take 40 p) (part ++ back) k 0
      ∙ get_or_append_left part back 0 k (omega (arith, part_long))
      ∙ all.front k below
      ∙ get_or-take (hop_end p - 40) (drop 40 p) k 0 (omega arith) ∙ get_or-drop 40 p k 0 in
      let said : said_size after 40 ≡ length part = ap (λ n. (n + 1) * 8) (octet 1 (omega arith)) ∙ sym part_long in
      let size : (40 + length part) - 40 ≡ length part = omega arith in
      let head_is : hop_head after ≡ part =
      ap (λ n. slice_range after 40 (40 + n)) said ∙ ap (λ n. take n (drop 40 after)) size
      ∙ ap (λ xs. take (length part) xs) (drop_at (take 40 p) (part ++ back) 40 front) ∙ take_at part back (length part) refl in
      record {
        within = within;
        filled = filled;
        all = all;
        head_is = head_is;
        long = whole;
        first = octet 0 (omega arith);
        said = octet 1 (omega arith);
        value = written-front p part 40 6 (omega arith) (omega (arith, within));
        rest = written-behind p part 40 (hop_end p) (omega (arith, part_long)) (omega (arith, within));
      }

  pub facts_of : (hs : List Head) → AreHeads p hs → slice_index p 6 ≡ 0 → After
  facts_of hs are is = let pass = hop_passes p hs are is in facts pass.0 pass.1.1

  there : (hs : List Head) → AreHeads p hs → slice_index p 6 ≡ 0 → AreHeads after hs
  there hs are is =
      let known = facts_of hs are is in
      let P : List ℕ → Type 0 = λ xs. IsFilled xs in
      heads_hop p after known.long known.first known.said known.rest
      (subst P (sym known.head_is) (map (item_stepped step) (options_in (hop_head p)), known.all.options)) hs known.value is are

  -- as many IOAM options stand in the header as before
  counted : After → ioam_count (options_in (hop_head after)) ≡ ioam_count (options_in (hop_head p))
  counted known =
      ap (λ xs. ioam_count (options_in xs)) known.head_is ∙ ap ioam_count (options_in-stepped step keeps (hop_head p) known.filled)
      ∙ ioam_count-stepped step keeps (options_in (hop_head p))

  pub option_count-stepped : IsSound p → option_count (hop_stepped step p) ≡ option_count p
  option_count-stepped sound = by_test (has_hop p) refl where
    by_test : (b : Bool) → has_hop p ≡ b → option_count (cond b after p) ≡ option_count p
    by_test true is =
        let known = facts_of sound.heads (record { upper = sound.upper; at = sound.at; chain = sound.chain }) (zero_is (slice_index p 6) is) in
        let test : has_hop after ≡ has_hop p = ap (λ n. eqb n 0) known.value in
        λ i. cond (test i) (counted known i) 0
    by_test false is = refl

  -- the options of that header are those of before with their data changed
  pub hop_options-stepped : IsSound p → hop_options (hop_stepped step p) ≡ map (item_stepped step) (hop_options p)
  hop_options-stepped sound = by_test (has_hop p) refl where
    by_test : (b : Bool) → has_hop p ≡ b → hop_options (cond b after p) ≡ map (item_stepped step) (hop_options p)
    by_test true is =
        let known = facts_of sound.heads (record { upper = sound.upper; at = sound.at; chain = sound.chain }) (zero_is (slice_index p 6) is) in
        let test : has_hop after ≡ true = ap (λ n. eqb n 0) known.value ∙ is in
        let now : options_in (hop_head after) ≡ map (item_stepped step) (options_in (hop_head p)) =
        ap options_in known.head_is ∙ options_in-stepped step keeps (hop_head p) known.filled in
        ap (λ b. cond b (options_in (hop_head after)) []) test ∙ now ∙ ap (λ b. map (item_stepped step) (cond b (options_in (hop_head p)) [])) (sym is)
    by_test false is =
        ap (λ b. cond b (options_in (hop_head p)) []) is ∙ ap (λ b. map (item_stepped step) (cond b (options_in (hop_head p)) [])) (sym is)

  -- the headers on the chain stay
  pub heads-stepped : (hs : List Head) → AreHeads p hs → AreHeads (hop_stepped step p) hs
  heads-stepped hs are = by_test (has_hop p) refl where
    by_test : (b : Bool) → has_hop p ≡ b → AreHeads (cond b after p) hs
    by_test true is = there hs are (zero_is (slice_index p 6) is)
    by_test false is = are

  pub IsSound-stepped : IsSound p → IsSound (hop_stepped step p)
  IsSound-stepped sound =
      let are = heads-stepped sound.heads (record { upper = sound.upper; at = sound.at; chain = sound.chain }) in
      record { heads = sound.heads; upper = are.upper; at = are.at; chain = are.chain }

-- a lower hop limit changes nothing of the chain
pub IsSound-lowered : (p : List ℕ) (limit : ℕ) → IsSound p → IsSound (set p 7 limit)
IsSound-lowered p limit sound =
    let are = heads_behind p (set p 7 limit) sound.heads (length-set p 7 limit) (get_or-set_other p 7 6 limit 0 (omega arith)) (drop-set-lt 40 p 7 limit (omega arith))
    (record { upper = sound.upper; at = sound.at; chain = sound.chain }) in
    record { heads = sound.heads; upper = are.upper; at = are.at; chain = are.chain }

pub IsPacket-lowered : (p : List ℕ) (limit : ℕ) → IsPacket p → IsPacket (set p 7 limit)
IsPacket-lowered p limit is =
    let first : slice_index (set p 7 limit) 0 ≡ slice_index p 0 = get_or-set_other p 7 0 limit 0 (omega arith) in
    let high : slice_index (set p 7 limit) 4 ≡ slice_index p 4 = get_or-set_other p 7 4 limit 0 (omega arith) in
    let low : slice_index (set p 7 limit) 5 ≡ slice_index p 5 = get_or-set_other p 7 5 limit 0 (omega arith) in
    record {
      header_there = omega (arith, is.header_there, length-set p 7 limit);
      version = ap (λ n. n / 16) first ∙ is.version;
      whole = length-set p 7 limit ∙ is.whole ∙ sym (λ i. 40 + (high i * 256 + low i));
    }

pub option_count-lowered : (p : List ℕ) (limit : ℕ) → option_count (set p 7 limit) ≡ option_count p
option_count-lowered p limit =
    let six : slice_index (set p 7 limit) 6 ≡ slice_index p 6 = get_or-set_other p 7 6 limit 0 (omega arith) in
    let said : slice_index (set p 7 limit) 41 ≡ slice_index p 41 = get_or-set_other p 7 41 limit 0 (omega arith) in
    let rest : drop 40 (set p 7 limit) ≡ drop 40 p = drop-set-lt 40 p 7 limit (omega arith) in
    λ i. cond (eqb (six i) 0) (ioam_count (options_in (take ((40 + (said i + 1) * 8) - 40) (rest i)))) 0
