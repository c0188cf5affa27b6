-- The options of a header in which the data of options is replaced by as many octets: their types and places stay,
-- their data is what it was replaced by.
use Rattle.std.proofs.Common.{◌≡◌, ℕ, ◌+◌, ◌||◌, ◌<◌, ◌≤◌, Bool, true, false, cond, eqb, ltb, List, [], ◌∷◌, length, take, drop, map, filter, slice_index, refl, sym, ap, ◌∙◌, subst, arith, length-take, length-drop, get_or-take, get_or-drop}
use Rattle.std.proofs.lemmas.List.{ext_get_or}
use Rattle.std.proofs.lemmas.Bool.Decides.{nat_tests}
use Rattle.ioam_base.specs.Leads.{Leads}
use Rattle.ioam_base.proofs.WrittenLaws.{length-written, written-front, written-behind, written-part}
use Rattle.ioam_ip.specs.Options.{Item, OptionFits, option_end, item_at, body_at, AreOptions, IsFilled, is_option}
use Rattle.ioam_ip.specs.Findings.{is_ioam, is_ioam_type, has_ioam}
use Rattle.ioam_ip.specs.Rewriting.{options_in, with_step, with_steps, item_stepped}
use Rattle.ioam_ip.specs.Hop.{ioam_count}
use Rattle.ioam_ip.proofs.OptionsLaws.{option_size-pos}
use Rattle.ioam_ip.proofs.OptionsLeftLaws.{all_from}
use Rattle.ioam_ip.proofs.NextLaws.{item_same, end_same, suffix_same}

-- from a place on at which two headers are the same, the same options stand
leads_suffix : (a b : List ℕ) (at : ℕ) (items : List Item) (end : ℕ) → length a ≡ length b → drop at a ≡ drop at b
    → Leads (OptionFits a) (item_at a) (option_end a) at items end → Leads (OptionFits b) (item_at b) (option_end b) at items end
leads_suffix a b at [] end long same here = here
leads_suffix a b at (x ∷ xs) end long same leads =
    let fits : option_end a at ≤ length a = leads.0 in
    let P : ℕ → Type 0 = λ next. Leads (OptionFits b) (item_at b) (option_end b) next xs end in (
      omega (arith, fits, long, end_same a b at same),
      leads.1 ∙ item_same a b at same,
      subst P (end_same a b at same)
          (leads_suffix a b (option_end a at) xs end long (suffix_same a b at (option_end a at) (omega arith) same) leads.2),
    )

size_from : (k l s t : ℕ) → k ≡ l → (eqb l 0 ≡ false → s ≡ t) → cond (eqb k 0) 1 (s + 2) ≡ cond (eqb l 0) 1 (t + 2)
size_from k l s t kind size = ap (λ n. cond (eqb n 0) 1 (s + 2)) kind ∙ by_test (eqb l 0) size where
  by_test : (b : Bool) → (b ≡ false → s ≡ t) → cond b 1 (s + 2) ≡ cond b 1 (t + 2)
  by_test true size = refl
  by_test false size = ap (λ n. n + 2) (size refl)

two_more : (b : Bool) (n : ℕ) → b ≡ false → cond b 1 (n + 2) ≡ n + 2
two_more true n is = absurd (cc is)
two_more false n is = refl

with_data : (b : Bool) (xs : List ℕ) → b ≡ false → cond b [] xs ≡ xs
with_data true xs is = absurd (cc is)
with_data false xs is = refl

above_one : (k : ℕ) → ltb 1 k ≡ true → eqb k 0 ≡ false
above_one k is = grind (arith, nat_tests)

-- where the octets in front of a place are the same, so is the data there
part_same : (a b : List ℕ) (at n : ℕ) → length a ≡ length b → at + n ≤ length b → ((i : ℕ) → i < at + n → slice_index a i ≡ slice_index b i)
    → take n (drop at a) ≡ take n (drop at b)
part_same a b at n long within same =
    let size_a : length (take n (drop at a)) ≡ n = omega (arith, long, within, length-take n (drop at a), length-drop at a) in
    let size_b : length (take n (drop at b)) ≡ n = omega (arith, within, length-take n (drop at b), length-drop at b) in
    ext_get_or 0 (take n (drop at a)) (take n (drop at b)) (size_a ∙ sym size_b)
    (λ i below.
    let near : i < n = omega (arith, size_a, below) in
    get_or-take n (drop at a) i 0 near ∙ get_or-drop at a i 0 ∙ same (at + i) (omega arith)
    ∙ sym (get_or-drop at b i 0) ∙ sym (get_or-take n (drop at b) i 0 near))

module _ (step : ℕ → List ℕ → List ℕ) (keeps : (kind : ℕ) (body : List ℕ) → length (step kind body) ≡ length body) where
  -- a header in which the item at a place is changed behind its length octet, if it is an option
  record Changed (a b : List ℕ) (at : ℕ) : Type 0 where
    long : length b ≡ length a
    front : (i : ℕ) → i < at + 2 → i < option_end a at → slice_index b i ≡ slice_index a i
    rest : drop (option_end a at) b ≡ drop (option_end a at) a
    body : is_option (item_at a at) ≡ true → take (slice_index a (at + 1)) (drop (at + 2) b) ≡ step (slice_index a at) (body_at a at)

  -- a header whose octets in front of a place stay, and whose options from there to its end are the old ones with
  -- their data changed
  record Kept (a b : List ℕ) (at : ℕ) (old : List Item) : Type 0 where
    long : length b ≡ length a
    front : (i : ℕ) → i < at → slice_index b i ≡ slice_index a i
    items : List Item
    leads : Leads (OptionFits b) (item_at b) (option_end b) at items (length b)
    options : filter is_option items ≡ map (item_stepped step) (filter is_option old)

  changed : (a : List ℕ) (at : ℕ) → OptionFits a at → is_option (item_at a at) ≡ true → Changed a (with_step step a (item_at a at)) at
  changed a at fits is =
      let n = slice_index a (at + 1) in
      let part = step (slice_index a at) (body_at a at) in
      let other : eqb (slice_index a at) 0 ≡ false = above_one (slice_index a at) is in
      let within : option_end a at ≤ length a = fits in
      let end : option_end a at ≡ at + (n + 2) = ap (λ m. at + m) (two_more (eqb (slice_index a at) 0) n other) in
      let old : length (body_at a at) ≡ n = ap length (with_data (eqb (slice_index a at) 0) (take n (drop (at + 2) a)) other)
      ∙ omega (arith, within, end, length-take n (drop (at + 2) a), length-drop (at + 2) a) in
      let size : length part ≡ n = keeps (slice_index a at) (body_at a at) ∙ old in
      record {
        long = length-written a part (at + 2) (omega arith);
        front = λ i below inside. written-front a part (at + 2) i below (omega arith);
        rest = written-behind a part (at + 2) (option_end a at) (omega arith) (omega arith);
        body = λ _. ap (λ m. take m (drop (at + 2) (with_step step a (item_at a at)))) (sym size) ∙ written-part a part (at + 2) (omega arith);
      }

  unchanged : (a : List ℕ) (at : ℕ) → is_option (item_at a at) ≡ false → Changed a a at
  unchanged a at not = record { long = refl; front = λ i below inside. refl; rest = refl; body = λ is. absurd (cc (is, not)) }

  joined : (x y : Item) (xs ys : List Item) → is_option x ≡ is_option y → (is_option y ≡ true → x ≡ item_stepped step y) → xs ≡ map (item_stepped step) ys
      → cond (is_option x) (x ∷ xs) xs ≡ map (item_stepped step) (cond (is_option y) (y ∷ ys) ys)
  joined x y xs ys test same others =
      ap (λ b. cond b (x ∷ xs) xs) test ∙ by_test (is_option y) same
    where
      by_test : (b : Bool) → (b ≡ true → x ≡ item_stepped step y) → cond b (x ∷ xs) xs ≡ map (item_stepped step) (cond b (y ∷ ys) ys)
      by_test true same = λ i. same refl i ∷ others i
      by_test false same = others

  -- one item more in front
  more : (a c b : List ℕ) (at : ℕ) (xs : List Item) → OptionFits a at → Changed a c at → Kept c b (option_end a at) xs → Kept a b at (item_at a at ∷ xs)
  more a c b at xs fits one kept =
      let end = option_end a at in
      let n = slice_index a (at + 1) in
      let pos = option_size-pos a at in
      let within : end ≤ length a = fits in
      let octet : (i : ℕ) → i < at + 2 → i < end → slice_index b i ≡ slice_index a i = λ i below inside. kept.front i inside ∙ one.front i below inside in
      let kind : slice_index b at ≡ slice_index a at = octet at (omega arith) (omega (arith, pos)) in
      let ends : eqb (slice_index a at) 0 ≡ false → end ≡ at + (n + 2) = λ is. ap (λ m. at + m) (two_more (eqb (slice_index a at) 0) n is) in
      let second : eqb (slice_index a at) 0 ≡ false → slice_index b (at + 1) ≡ n = λ is. octet (at + 1) (omega arith) (omega (arith, ends is)) in
      let same : option_end b at ≡ end = ap (λ m. at + m) (size_from (slice_index b at) (slice_index a at) (slice_index b (at + 1)) n kind second) in
      let long : length b ≡ length a = kept.long ∙ one.long in
      let P : ℕ → Type 0 = λ next. Leads (OptionFits b) (item_at b) (option_end b) next kept.items (length b) in
      let body : is_option (item_at a at) ≡ true → body_at b at ≡ step (slice_index a at) (body_at a at) = λ is.
      let other : eqb (slice_index a at) 0 ≡ false = above_one (slice_index a at) is in
      with_data (eqb (slice_index b at) 0) (take (slice_index b (at + 1)) (drop (at + 2) b)) (ap (λ k. eqb k 0) kind ∙ other)
      ∙ ap (λ m. take m (drop (at + 2) b)) (second other)
      ∙ part_same b c (at + 2) n kept.long (omega (arith, one.long, within, ends other)) (λ i below. kept.front i (omega (arith, below, ends other)))
      ∙ one.body is in
      record {
        long = long;
        front = λ i below. octet i (omega arith) (omega (arith, pos));
        items = item_at b at ∷ kept.items;
        leads = (omega (arith, same, long, within), refl, subst P (sym same) kept.leads);
        options = joined (item_at b at) (item_at a at) (filter is_option kept.items) (filter is_option xs) (ap (λ k. ltb 1 k) kind)
            (λ is. λ i. record { kind = kind i; at = at; body = body is i }) kept.options;
      }

  steps_kept : (a : List ℕ) (at : ℕ) (items : List Item) → Leads (OptionFits a) (item_at a) (option_end a) at items (length a)
      → Kept a (with_steps step a (filter is_option items)) at items
  steps_kept a at [] here = record { long = refl; front = λ i below. refl; items = []; leads = here; options = refl }
  steps_kept a at (x ∷ xs) leads =
      let end = option_end a at in
      let fits : OptionFits a at = leads.0 in
      let next : (c : List ℕ) → Changed a c at → Kept c (with_steps step c (filter is_option xs)) end xs =
      λ c one.
      let P : ℕ → Type 0 = λ n. Leads (OptionFits c) (item_at c) (option_end c) end xs n in
      steps_kept c end xs (subst P (sym one.long) (leads_suffix a c end xs (length a) (sym one.long) (sym one.rest) leads.2)) in
      let Q : Item → Type 0 = λ y. Kept a (with_steps step a (cond (is_option y) (y ∷ filter is_option xs) (filter is_option xs))) at (y ∷ xs) in
      subst Q (sym leads.1) (by_option a at xs fits next (is_option (item_at a at)) refl)
    where
      by_option : (a : List ℕ) (at : ℕ) (xs : List Item) → OptionFits a at
          → ((c : List ℕ) → Changed a c at → Kept c (with_steps step c (filter is_option xs)) (option_end a at) xs)
          → (b : Bool) → is_option (item_at a at) ≡ b
          → Kept a (with_steps step a (cond b (item_at a at ∷ filter is_option xs) (filter is_option xs))) at (item_at a at ∷ xs)
      by_option a at xs fits next true is =
          let c = with_step step a (item_at a at) in
          let one = changed a at fits is in
          more a c (with_steps step c (filter is_option xs)) at xs fits one (next c one)
      by_option a at xs fits next false is =
          let one = unchanged a at is in
          more a a (with_steps step a (filter is_option xs)) at xs fits one (next a one)

  -- what a header with its options changed is
  pub record Stepped (head : List ℕ) (os : List Item) : Type 0 where
    pub long : length (with_steps step head os) ≡ length head
    pub front : (i : ℕ) → i < 2 → slice_index (with_steps step head os) i ≡ slice_index head i
    pub options : AreOptions (with_steps step head os) (map (item_stepped step) os)

  -- its options have the types and places of those before, and the changed data
  pub AreOptions-stepped : (head : List ℕ) (os : List Item) → AreOptions head os → Stepped head os
  AreOptions-stepped head os are =
      let kept = steps_kept head 2 are.items are.fill in
      let P : List Item → Type 0 = λ xs. Stepped head xs in
      subst P (sym are.options) (record {
        long = kept.long;
        front = kept.front;
        options = record { items = kept.items; fill = kept.leads; options = sym kept.options };
      })

  pub options_in-stepped : (head : List ℕ) → IsFilled head → options_in (with_steps step head (options_in head)) ≡ map (item_stepped step) (options_in head)
  options_in-stepped head filled =
      let is : options_in head ≡ filled.0 = all_from head filled.0 filled.1 in
      ap (λ os. options_in (with_steps step head os)) is
      ∙ all_from (with_steps step head filled.0) (map (item_stepped step) filled.0) (AreOptions-stepped head filled.0 filled.1).options
      ∙ ap (λ os. map (item_stepped step) os) (sym is)

  -- so there are as many IOAM options as before
  pub ioam_count-stepped : (os : List Item) → ioam_count (map (item_stepped step) os) ≡ ioam_count os
  ioam_count-stepped [] = refl
  ioam_count-stepped (x ∷ xs) = ap (λ n. cond (is_ioam_type x.kind) 1 0 + n) (ioam_count-stepped xs)

  pub has_ioam-stepped : (os : List Item) → has_ioam (map (item_stepped step) os) ≡ has_ioam os
  has_ioam-stepped [] = refl
  has_ioam-stepped (x ∷ xs) = ap (λ b. is_ioam x || b) (has_ioam-stepped xs)
