-- What a node may leave of the octets of a trace is decided by the octets before and after.
use Rattle.std.proofs.Common.{◌≡◌, ◌⊎◌, inl, inr, ℕ, ◌+◌, ◌*◌, ◌-◌, ◌/◌, ◌<◌, ◌≤◌, Bool, true, false, cond, List, [], ◌++◌, length, take, drop, replicate, length-take, length-drop, length-append, get_or-take, arith, refl, sym, ap, ◌∙◌, subst, Option, Some, None}
use Rattle.std.proofs.lemmas.List.{length-replicate, nil_from_length, take-append-drop, get_or_past}
use Rattle.std.proofs.lemmas.Bool.{cases_lt}
use Rattle.ioam_base.specs.Octets.{IsOctets, u16_at, written}
use Rattle.ioam_base.specs.Words.{two_octets, four_octets}
use Rattle.ioam_data.specs.Kind.{has, where_has, words, undefined}
use Rattle.ioam_data.specs.View.{Seen}
use Rattle.ioam_data.specs.Written.{element_of, snapshot_of}
use Rattle.ioam_data.specs.Elements.{IsElement}
use Rattle.ioam_data.specs.Fields.{fields_of}
use Rattle.ioam_trace.specs.Head.{node_len_of, overflow_of, remaining_of, kind_of}
use Rattle.ioam_trace.specs.Filling.{less_remaining, IsOpen, words_to_add, with_lengths, IsSuitedBy, FillingBy}
use Rattle.ioam_audit.specs.Free.{IsFree}
use Rattle.ioam_audit.specs.Lawful.{IsLawful}
use Rattle.ioam_audit.proofs.LawfulLaws.{MayAdd}
use Rattle.ioam_trace.specs.declared.addition.Filled.{Filled}
use Rattle.ioam_trace.specs.declared.addition.Filled.TheVariants.{Added, Overflowed, AlreadyOver, Unsuited}
use Rattle.ioam_audit.specs.Becomes.{may_add, with_check, MayFill, MayBecome}
use Rattle.ioam_audit.specs.Decided.{AddsSo, OverflowsSo, between, with_element}
use Rattle.ioam_base.proofs.WordsLaws.{two-at}
use Rattle.ioam_data.proofs.TableLaws.{octets_drop}
use Rattle.ioam_audit.proofs.LawfulLaws.{lawful}
use Rattle.ioam_audit.proofs.CheckLaws.{checked, checked-added}
use Rattle.ioam_audit.proofs.WitnessLaws.{witness}
use Rattle.ioam_audit.proofs.SizeLaws.{long, one}
use Rattle.ioam_audit.proofs.AddingLaws.{remaining_is, between_is}
use Rattle.ioam_audit.proofs.NoneLaws.{may_add-room, empty-undefined}

-- nothing is written
pub nothing_written : (xs : List ℕ) (at : ℕ) → written xs at [] ≡ xs
nothing_written xs at =
    let place : at + length {A = ℕ} [] ≡ at = omega arith in
    ap (λ n. take at xs ++ drop n xs) place ∙ take-append-drop at xs

-- the same number is written
same_written : (xs : List ℕ) → IsOctets xs → 4 ≤ length xs → written xs 2 (two_octets (u16_at xs 2)) ≡ xs
same_written xs small long_enough =
    ap (λ ys. take 2 xs ++ ys) (sym (two-at xs 2 small (omega (arith, long_enough)))) ∙ take-append-drop 2 xs

octets_take : (n : ℕ) (xs : List ℕ) → IsOctets xs → IsOctets (take n xs)
octets_take n xs small i = elim (cases_lt i n) [
  | inl near ↦ omega (arith, get_or-take n xs i 0 near, small i)
  | inr far ↦ omega (arith, get_or_past (take n xs) i 0 (omega (arith, length-take n xs, far)))
]

zeros : List ℕ
zeros = replicate 508 0

zeros_long : length zeros ≡ 508
unfolding zeros
zeros_long = length-replicate {A = ℕ} 508 0

snapshot_some : (given : Option (ℕ × List ℕ)) → 1 ≤ length (snapshot_of given) / 4
snapshot_some None = omega arith
snapshot_some (Some given) = omega (arith, length-append (four_octets (length given.1 / 4 * 16777216 + given.0)) given.1)

-- ---- a view that is free

module _ (hops id inward : ℕ) where
  plain : Seen
  plain = record {
    hops = hops;
    id = id;
    inward = None;
    outward = None;
    stamp = None;
    delay = None;
    queue = None;
    buffer = None;
    short = None;
    wide = None;
    snapshot = Some (0, zeros);
  }

  plain_free : IsFree hops id inward plain
  unfolding plain
  plain_free = record {
    hops_is = refl;
    id_is = refl;
    inward_is = inr refl;
    outward_below = tt;
    snapshot_fits = record { schema_below = omega arith; in_words = omega (arith, zeros_long); short = omega (arith, zeros_long) };
  }

module _ (hops id inward : ℕ) (old new : List ℕ) (hops_below : hops < 256) (id_below : id < 72057594037927936) (inward_below : inward < 4294967296)
    (small_old : IsOctets old) (small_new : IsOctets new) (same : length new ≡ length old) (fit : IsSuitedBy may_add old) where
  kind_below : kind_of old < 16777216
  kind_below = omega (arith, small_old 4, small_old 5, small_old 6)

  abbrev kind : ℕ
  kind = kind_of old

  abbrev node_len : ℕ
  node_len = node_len_of old

  room : words kind ≤ node_len
  room = may_add-room kind node_len fit.can

  -- ---- what was added is decided

  module _ (view : Seen) (check amount : ℕ) (free : IsFree hops id inward view) (amount_is : amount ≡ words_to_add old view) (fits : amount ≤ remaining_of old)
      (is : new ≡ with_element old amount (checked kind (element_of kind node_len view) check)) where
    abbrev element : List ℕ
    element = checked kind (element_of kind node_len view) check

    element_long : length element ≡ 4 * amount
    element_long = long kind node_len view check free.snapshot_fits room ∙ ap (λ n. 4 * n) (sym amount_is)

    now_left : remaining_of new ≡ remaining_of old - amount
    now_left = ap remaining_of is ∙ remaining_is old element amount small_old fit.space fits element_long

    there : between old new ≡ element
    there = ap (between old) is ∙ between_is old element amount small_old fit.space fits element_long

    some_added : 0 < amount → AddsSo hops id inward old new
    some_added some =
        let fell : amount ≡ remaining_of old - remaining_of new = omega (arith, now_left, fits) in
        let may : MayAdd kind node_len hops id inward element = record { view = view; check = check; free = free; is = refl } in
        record {
          less = omega (arith, now_left);
          element = subst (IsElement kind node_len) (sym there) (one kind node_len view check free.snapshot_fits room (omega (arith, some, amount_is)));
          lawful = subst (λ xs. IsLawful hops id inward (fields_of kind node_len xs)) (sym there) (lawful kind node_len hops id inward element hops_below id_below inward_below may);
          is = is ∙ ap (λ n. with_element old n element) fell ∙ ap (λ xs. with_element old (remaining_of old - remaining_of new) xs) (sym there);
        }

    none_added : amount ≤ 0 → (0 < undefined kind) × (new ≡ old)
    none_added none =
        let zero : amount ≡ 0 = omega (arith, none) in
        let empty : element ≡ [] = nil_from_length element (omega (arith, element_long, none)) in
        let no_snapshot : where_has kind 22 1 ≡ 0 = snapshotless (has kind 22) (omega (arith, none, amount_is)) in
        let number : u16_at old 2 - 0 ≡ u16_at old 2 = omega arith in (
          empty-undefined kind node_len kind_below fit.can (omega (arith, none, amount_is)) no_snapshot,
          is ∙ ap (λ n. with_element old n element) zero ∙ ap (λ xs. with_element old 0 xs) empty
              ∙ nothing_written (less_remaining old 0) (8 + 4 * (remaining_of old - 0)) ∙ ap (λ n. written old 2 (two_octets n)) number ∙ same_written old small_old (omega (arith, fit.space)),
        )
      where
        snapshotless : (b : Bool) → node_len + cond b (length (snapshot_of view.snapshot) / 4) 0 ≤ 0 → ◌≡◌ {A = ℕ} (cond b 1 0) 0
        snapshotless true none = absurd (omega (arith, none, snapshot_some view.snapshot))
        snapshotless false none = refl

  -- ---- what doesn't fit

  many_words : (b : Bool) (extra : ℕ) → remaining_of old < node_len + cond b extra 0 → (b ≡ true) ⊎ (remaining_of old < node_len)
  many_words true extra many = inl refl
  many_words false extra many = inr (omega (arith, many))

  overflows_so : (view : Seen) → remaining_of old < words_to_add old view → new ≡ with_lengths old (u16_at old 2 + 1024) → OverflowsSo old new
  overflows_so view many is = record { may = many_words (has kind 22) (length (snapshot_of view.snapshot) / 4) many; is = is }

  plain_many : OverflowsSo old new → remaining_of old < words_to_add old (plain hops id inward)
  unfolding plain
  plain_many over = by_bit (has kind 22) over.may
    where
      data_long : length (snapshot_of (Some (0, zeros))) / 4 ≡ 128
      data_long = omega (arith, length-append (four_octets (length zeros / 4 * 16777216 + 0)) zeros, zeros_long)

      by_bit : (b : Bool) → (b ≡ true) ⊎ (remaining_of old < node_len) → remaining_of old < node_len + cond b (length (snapshot_of (Some (0, zeros))) / 4) 0
      by_bit true may = omega (arith, data_long)
      by_bit false may = elim may as (λ _. remaining_of old < node_len + 0) [ inl is ↦ absurd (cc is) | inr many ↦ omega (arith, many) ]

  adds_by : IsOpen old → AddsSo hops id inward old new → MayFill hops id inward old new
  adds_by opened so =
      let e = between old new in
      let octets : IsOctets e = octets_take (4 * (remaining_of old - remaining_of new)) (drop (8 + 4 * remaining_of new) new) (octets_drop (8 + 4 * remaining_of new) new small_new) in
      let may = witness kind node_len hops id inward e octets so.element so.lawful in
      let size : length e ≡ 4 * words_to_add old may.view = ap length may.is ∙ long kind node_len may.view may.check may.free.snapshot_fits room in
      let there : length e ≡ 4 * (remaining_of old - remaining_of new) =
      omega (arith, so.less, same, fit.space, length-take (4 * (remaining_of old - remaining_of new)) (drop (8 + 4 * remaining_of new) new), length-drop (8 + 4 * remaining_of new) new) in
      let fell : remaining_of old - remaining_of new ≡ words_to_add old may.view = omega (arith, size, there) in
      let ours = with_element old (words_to_add old may.view) (element_of kind node_len may.view) in
      record {
        view = may.view;
        answer = Added (words_to_add old may.view);
        filled = ours;
        check = may.check;
        free = may.free;
        fills = (opened, fit, refl, omega (arith, fell), refl);
        is = so.is ∙ ap (λ n. with_element old n e) fell ∙ ap (λ xs. with_element old (words_to_add old may.view) xs) may.is
            ∙ sym (checked-added old (words_to_add old may.view) may.view may.check fit.space);
      }

  overflows_by : IsOpen old → OverflowsSo old new → MayFill hops id inward old new
  overflows_by opened over = record {
    view = plain hops id inward;
    answer = Overflowed;
    filled = new;
    check = 0;
    free = plain_free hops id inward;
    fills = (opened, fit, plain_many over, over.is);
    is = refl;
  }

module _ (hops id inward : ℕ) (old new : List ℕ) (hops_below : hops < 256) (id_below : id < 72057594037927936) (inward_below : inward < 4294967296)
    (small_old : IsOctets old) (small_new : IsOctets new) (same : length new ≡ length old) where
  -- ---- a trace to which a node may add

  module _ (opened : IsOpen old) (fit : IsSuitedBy may_add old) where
    abbrev Decided : Type 0
    Decided = ((0 < undefined (kind_of old)) × (new ≡ old)) ⊎ (AddsSo hops id inward old new ⊎ OverflowsSo old new)

    by_adds : (fill : MayFill hops id inward old new) (amount : ℕ) → amount ≡ words_to_add old fill.view → amount ≤ remaining_of old
        → new ≡ with_element old amount (checked (kind_of old) (element_of (kind_of old) (node_len_of old) fill.view) fill.check) → Decided
    by_adds fill amount amount_is fits is = elim (cases_lt 0 amount) [
      | inl some ↦ inr (inl (some_added hops id inward old new hops_below id_below inward_below small_old small_new same fit fill.view fill.check amount fill.free amount_is fits is some))
      | inr none ↦ inl (none_added hops id inward old new hops_below id_below inward_below small_old small_new same fit fill.view fill.check amount fill.free amount_is fits is none)
    ]

    by_answer : (fill : MayFill hops id inward old new) (answer : Filled) → FillingBy may_add old fill.view fill.filled answer
        → new ≡ with_check old answer fill.filled fill.check → Decided
    by_answer fill AlreadyOver fills is = absurd (omega (arith, fills.1, opened.clear))
    by_answer fill Unsuited fills is = absurd ((fills.0 opened.begins).1 fit)
    by_answer fill Overflowed fills is =
        inr (inr (overflows_so hops id inward old new hops_below id_below inward_below small_old small_new same fit fill.view fills.2 (is ∙ fills.3)))
    by_answer fill (Added amount) fills is =
        by_adds fill amount fills.2 fills.3 (is ∙ ap (λ xs. with_check old (Added amount) xs fill.check) fills.4 ∙ checked-added old amount fill.view fill.check fit.space)

    pub decided : MayBecome hops id inward old new → Decided
    decided (inl stays) = inl stays
    decided (inr fill) = by_answer fill fill.answer fill.fills fill.is

    pub decides : Decided → MayBecome hops id inward old new
    decides (inl stays) = inl stays
    decides (inr (inl so)) = inr (adds_by hops id inward old new hops_below id_below inward_below small_old small_new same fit opened so)
    decides (inr (inr so)) = inr (overflows_by hops id inward old new hops_below id_below inward_below small_old small_new same fit opened so)

module _ (hops id inward : ℕ) (old new : List ℕ) (never : IsOpen old → IsSuitedBy may_add old → ⊥) where
  -- ---- a trace to which no node may add

  pub stays : MayBecome hops id inward old new → new ≡ old
  stays (inl same) = same.1
  stays (inr fill) = by_answer fill.answer fill.fills fill.is
    where
      by_answer : (answer : Filled) → FillingBy may_add old fill.view fill.filled answer → new ≡ with_check old answer fill.filled fill.check → new ≡ old
      by_answer AlreadyOver fills is = is ∙ fills.2
      by_answer Unsuited fills is = is ∙ fills.1
      by_answer Overflowed fills is = absurd (never fills.0 fills.1)
      by_answer (Added amount) fills is = absurd (never fills.0 fills.1)

  pub stayed : new ≡ old → MayBecome hops id inward old new
  stayed is = elim (cases_lt (overflow_of old) 1) [
    | inl clear ↦ fill Unsuited (
      λ begins.
          let zero : overflow_of old ≡ 0 = omega (arith, clear) in
          (zero, never (record { begins = begins; clear = zero })),
      is,
    ) refl
    | inr over ↦ elim (cases_lt (length old) 8) [
      | inl short ↦ fill Unsuited (λ begins. absurd (omega (arith, short, begins)), is) refl
      | inr begins ↦ fill AlreadyOver (begins, omega (arith, over), is) refl
    ]
  ]
    where
      fill : (answer : Filled) → FillingBy may_add old (plain hops id inward) new answer → new ≡ with_check old answer new 0 → MayBecome hops id inward old new
      fill answer fills is = inr (record { view = plain hops id inward; answer = answer; filled = new; check = 0; free = plain_free hops id inward; fills = fills; is = is })
