-- Which record comes next of two parts.
use Rattle.std.proofs.Common.{◌≡◌, ℕ, Bool, true, false, List, [], ◌∷◌, All, Option, None, Some, refl, sym, ap, ap₂, ◌∙◌, subst}
use Rattle.std.specs.Prelude.{⊤, IsTrue, is_some, unwrap_or}
use Rattle.std.specs.declared.cmp.Ordering.{Ordering}
use Rattle.std.specs.declared.cmp.Ordering.TheVariants.{Less, Equal, Greater}
use Rattle.std.proofs.lemmas.List.Elements.{All-head, All-tail}
use Rattle.ioam_dex.specs.Record.{Record, IsRecord}
use Rattle.ioam_dex.specs.RecordRef.{content}
use Rattle.ioam_dex.specs.Reads.{records_octets}
use Rattle.ioam_dex.specs.Visit.{visit_octets}
use Rattle.ioam_dex.specs.declared.record_ref.RecordRef.{RecordRef}
use Rattle.ioam_collect.specs.Entry.{Entry, has_some}
use Rattle.ioam_collect.specs.Best.{tells}
use Rattle.ioam_collect.specs.Keyed.{keyed, keyed_by, keyed_of, hops_of, item_of}
use Rattle.ioam_collect.specs.Pairs.{pair_of}
use Rattle.ioam_collect.specs.Unite.{pair_meet, tied, one_by, united}
use Rattle.ioam_collect.specs.declared.key.Key.{Key}
use Rattle.ioam_part.specs.Part.{HasKey}
use Rattle.ioam_part.proofs.PartLaws.{item_parts, keyed-cons}
use Rattle.ioam_part_merge.specs.Walk.{ShowsNext, IsSide, turn_by, turn_of}
use Rattle.ioam_part_merge.specs.declared.side.Side.{Side}
use Rattle.ioam_part_merge.specs.declared.turn.Turn.{Turn}
use Rattle.ioam_part_merge.specs.declared.turn.Turn.TheVariants as turn

-- ---- what a turn does

-- what one finds going along two lists side by side begins with this pair and goes on so
abbrev pub Finds : Key × Entry → List Record → List Record → List Record → List Record → Type 0
Finds pair xs ys rest others = united (keyed xs) (keyed ys) ≡ pair ∷ united (keyed rest) (keyed others)

-- the first record of the one list comes next, and its pair is found first
pub record TakesFirst (xs ys : List Record) : Type 0 where
  pub one : Record
  pub rest : List Record
  pub pair : Key × Entry
  pub are : xs ≡ one ∷ rest
  pub says : keyed_of one ≡ Some pair
  pub finds : Finds pair xs ys rest ys

-- that of the other list
pub record TakesSecond (xs ys : List Record) : Type 0 where
  pub one : Record
  pub rest : List Record
  pub pair : Key × Entry
  pub are : ys ≡ one ∷ rest
  pub says : keyed_of one ≡ Some pair
  pub finds : Finds pair xs ys xs rest

-- both have the pair that is found first, and both are taken
pub record TakesBoth (xs ys : List Record) : Type 0 where
  pub one : Record
  pub other : Record
  pub rest : List Record
  pub others : List Record
  pub pair : Key × Entry
  pub are : xs ≡ one ∷ rest
  pub are_others : ys ≡ other ∷ others
  pub says : keyed_of one ≡ Some pair
  pub finds : Finds pair xs ys rest others

-- or goes on without the first of the one list
pub record LeavesFirst (xs ys : List Record) : Type 0 where
  pub one : Record
  pub rest : List Record
  pub are : xs ≡ one ∷ rest
  pub goes : united (keyed xs) (keyed ys) ≡ united (keyed rest) (keyed ys)

-- or without the first of the other
pub record LeavesSecond (xs ys : List Record) : Type 0 where
  pub one : Record
  pub rest : List Record
  pub are : ys ≡ one ∷ rest
  pub goes : united (keyed xs) (keyed ys) ≡ united (keyed xs) (keyed rest)

-- what a turn does with the records that are left of both lists
abbrev pub TurnsSo : Turn → List Record → List Record → Type 0
TurnsSo turn.Done xs ys = (xs ≡ []) × (ys ≡ [])
TurnsSo turn.First xs ys = TakesFirst xs ys
TurnsSo turn.Second xs ys = TakesSecond xs ys
TurnsSo turn.Both xs ys = TakesBoth xs ys
TurnsSo turn.WithoutFirst xs ys = LeavesFirst xs ys
TurnsSo turn.WithoutSecond xs ys = LeavesSecond xs ys

-- what is taken or left out is there
abbrev pub Shows : Turn → Option RecordRef → Option RecordRef → Type 0
Shows turn.Done first second = ⊤
Shows turn.First first second = IsTrue (is_some first)
Shows turn.Second first second = IsTrue (is_some second)
Shows turn.Both first second = IsTrue (is_some first) × IsTrue (is_some second)
Shows turn.WithoutFirst first second = IsTrue (is_some first)
Shows turn.WithoutSecond first second = IsTrue (is_some second)

-- ---- what a side shows

-- the record that is next, and those behind it
pub record Ahead (e : RecordRef) (behind : List ℕ) (xs : List Record) : Type 0 where
  pub rest : List Record
  pub pair : Key × Entry
  pub are : xs ≡ content e ∷ rest
  pub says : keyed_of (content e) ≡ Some pair
  pub pairs : keyed xs ≡ pair ∷ keyed rest
  pub sayable : IsRecord (content e)
  pub each : All IsRecord rest
  pub keys : All HasKey rest
  pub behind_is : behind ≡ records_octets rest

ahead_by : (e : RecordRef) (behind : List ℕ) (xs : List Record) → All IsRecord xs → All HasKey xs → ShowsNext (Some e) behind xs → Ahead e behind xs
ahead_by e behind [] each keys shows = absurd shows
ahead_by e behind (x ∷ xs) each keys shows =
    let key = All-head HasKey x xs keys in
    let same : content e ≡ x = shows.0 in
    record {
      rest = xs;
      pair = key.0;
      are = ap (λ y. y ∷ xs) (sym same);
      says = ap keyed_of same ∙ key.1;
      pairs = keyed-cons x xs key.0 key.1;
      sayable = subst IsRecord (sym same) (All-head IsRecord x xs each);
      each = All-tail IsRecord x xs each;
      keys = All-tail HasKey x xs keys;
      behind_is = shows.1;
    }

pub ahead : (side : Side) (e : RecordRef) (xs : List Record) → side.next ≡ Some e → IsSide side xs → Ahead e side.behind xs
ahead side e xs is s = ahead_by e side.behind xs s.each s.keys (subst (λ o. ShowsNext o side.behind xs) is s.shows)

none_by : (behind : List ℕ) (xs : List Record) → ShowsNext None behind xs → xs ≡ []
none_by behind [] shows = refl
none_by behind (x ∷ xs) shows = absurd shows

pub at_end : (side : Side) (xs : List Record) → side.next ≡ None → IsSide side xs → xs ≡ []
at_end side xs is s = none_by side.behind xs (subst (λ o. ShowsNext o side.behind xs) is s.shows)

-- ---- the turns where one has ended

pub turns_done : (first second : Side) (xs ys : List Record) → first.next ≡ None → second.next ≡ None → IsSide first xs → IsSide second ys → TurnsSo turn.Done xs ys
turns_done first second xs ys none none' one two = (at_end first xs none one, at_end second ys none' two)

pub turns_second : (first second : Side) (e : RecordRef) (xs ys : List Record) → first.next ≡ None → second.next ≡ Some e → IsSide first xs → IsSide second ys
    → TurnsSo turn.Second xs ys
turns_second first second e xs ys none is one two =
    let a = ahead second e ys is two in
    let empty : keyed xs ≡ [] = ap keyed (at_end first xs none one) in
    record {
      one = content e;
      rest = a.rest;
      pair = a.pair;
      are = a.are;
      says = a.says;
      finds = ap₂ united empty a.pairs ∙ ap (λ (ps : List (Key × Entry)). a.pair ∷ united ps (keyed a.rest)) (sym empty);
    }

pub turns_first : (first second : Side) (e : RecordRef) (xs ys : List Record) → first.next ≡ Some e → second.next ≡ None → IsSide first xs → IsSide second ys
    → TurnsSo turn.First xs ys
turns_first first second e xs ys is none one two =
    let a = ahead first e xs is one in
    let empty : keyed ys ≡ [] = ap keyed (at_end second ys none two) in
    record {
      one = content e;
      rest = a.rest;
      pair = a.pair;
      are = a.are;
      says = a.says;
      finds = ap₂ united a.pairs empty ∙ ap (λ (qs : List (Key × Entry)). a.pair ∷ united (keyed a.rest) qs) (sym empty);
    }

-- ---- the turns of two records

abbrev one_with : Ordering → Bool → Bool → Key × Entry → Key × Entry → List (Key × Entry) → List (Key × Entry) → List (Key × Entry) → List (Key × Entry)
one_with Less s t x y left both right = x ∷ left
one_with Equal s t x y left both right = tied s t x left both right
one_with Greater s t x y left both right = y ∷ right

-- how two lists go on, by where their first pairs stand to each other and which of these tell a visit
goes_by : (o : Ordering) (s t : Bool) (x y : Key × Entry) (xs ys : List (Key × Entry)) → pair_meet x y ≡ o → tells x ≡ s → tells y ≡ t
    → united (x ∷ xs) (y ∷ ys) ≡ one_with o s t x y (united xs (y ∷ ys)) (united xs ys) (united (x ∷ xs) ys)
goes_by Less s t x y xs ys meets p q = ap (λ o. one_by o x y (united xs (y ∷ ys)) (united xs ys) (united (x ∷ xs) ys)) meets
goes_by Equal s t x y xs ys meets p q =
    ap (λ o. one_by o x y (united xs (y ∷ ys)) (united xs ys) (united (x ∷ xs) ys)) meets
    ∙ ap₂ (λ (a b : Bool). tied a b x (united xs (y ∷ ys)) (united xs ys) (united (x ∷ xs) ys)) p q
goes_by Greater s t x y xs ys meets p q = ap (λ o. one_by o x y (united xs (y ∷ ys)) (united xs ys) (united (x ∷ xs) ys)) meets

module _ (e f : RecordRef) (behind others : List ℕ) (xs ys : List Record) (a : Ahead e behind xs) (b : Ahead f others ys) where
  goes : (o : Ordering) (s t : Bool) → pair_meet a.pair b.pair ≡ o → tells a.pair ≡ s → tells b.pair ≡ t → united (keyed xs) (keyed ys)
      ≡ one_with o s t a.pair b.pair (united (keyed a.rest) (keyed ys)) (united (keyed a.rest) (keyed b.rest)) (united (keyed xs) (keyed b.rest))
  goes o s t meets p q =
      ap₂ united a.pairs b.pairs ∙ goes_by o s t a.pair b.pair (keyed a.rest) (keyed b.rest) meets p q
      ∙ ap₂ (λ (ps qs : List (Key × Entry)). one_with o s t a.pair b.pair (united (keyed a.rest) qs) (united (keyed a.rest) (keyed b.rest)) (united ps (keyed b.rest)))
      (sym a.pairs) (sym b.pairs)

  both_go : (s t : Bool) → pair_meet a.pair b.pair ≡ Equal → tells a.pair ≡ s → tells b.pair ≡ t
      → tied s t a.pair (united (keyed a.rest) (keyed ys)) (united (keyed a.rest) (keyed b.rest)) (united (keyed xs) (keyed b.rest)) ≡ a.pair ∷ united (keyed a.rest) (keyed b.rest)
      → TakesBoth xs ys
  both_go s t meets p q same = record {
    one = content e;
    other = content f;
    rest = a.rest;
    others = b.rest;
    pair = a.pair;
    are = a.are;
    are_others = b.are;
    says = a.says;
    finds = goes Equal s t meets p q ∙ same;
  }

  pub turns_two : (o : Ordering) (s t : Bool) → pair_meet a.pair b.pair ≡ o → tells a.pair ≡ s → tells b.pair ≡ t → TurnsSo (turn_by o s t) xs ys
  turns_two Less s t meets p q = record { one = content e; rest = a.rest; pair = a.pair; are = a.are; says = a.says; finds = goes Less s t meets p q }
  turns_two Greater s t meets p q = record { one = content f; rest = b.rest; pair = b.pair; are = b.are; says = b.says; finds = goes Greater s t meets p q }
  turns_two Equal true true meets p q = both_go true true meets p q refl
  turns_two Equal false false meets p q = both_go false false meets p q refl
  turns_two Equal false true meets p q = record { one = content e; rest = a.rest; are = a.are; goes = goes Equal false true meets p q }
  turns_two Equal true false meets p q = record { one = content f; rest = b.rest; are = b.are; goes = goes Equal true false meets p q }

-- ---- what is known of a record with a key

visit_by : (visit : Option (ℕ × ℕ)) → has_some (visit_octets visit) ≡ is_some visit
visit_by None = refl
visit_by (Some visit) = refl

-- whether it tells a visit
pub tells_visit : (x : Record) (p : Key × Entry) → keyed_of x ≡ Some p → tells p ≡ is_some x.visit
tells_visit x p is = ap has_some (item_parts x x.flow x.seq (hops_of x) p is).1 ∙ visit_by x.visit

abbrev none_pair : Key × Entry
none_pair = (record { namespace = record { 0 = 0 }; flow = 0; seq = 0 }, record { hops = 0; core = []; extra = [] })

abbrev pair_in : Option (Key × Entry) → Key × Entry
pair_in None = none_pair
pair_in (Some p) = p

pair_by : (x : Record) (flow seq hops : Option ℕ) (p : Key × Entry) → keyed_by x flow seq hops ≡ Some p
    → (record { namespace = record { 0 = x.namespace }; flow = unwrap_or flow 0; seq = unwrap_or seq 0 }, item_of (unwrap_or hops 0) x) ≡ p
pair_by x None seq hops p is = absurd (cc is)
pair_by x (Some flow) None hops p is = absurd (cc is)
pair_by x (Some flow) (Some seq) None p is = absurd (cc is)
pair_by x (Some flow) (Some seq) (Some hops) p is = ap pair_in is

-- its key and its item
pub pair_is : (x : Record) (p : Key × Entry) → keyed_of x ≡ Some p → pair_of x ≡ p
pair_is x p is = pair_by x x.flow x.seq (hops_of x) p is

-- the turn of two records, by what they are
pub turns_records : (first second : Side) (e f : RecordRef) (xs ys : List Record) (o : Ordering) → first.next ≡ Some e → second.next ≡ Some f
    → o ≡ pair_meet (pair_of (content e)) (pair_of (content f)) → IsSide first xs → IsSide second ys
    → TurnsSo (turn_by o (is_some (content e).visit) (is_some (content f).visit)) xs ys
turns_records first second e f xs ys o is_e is_f meets one two =
    let a = ahead first e xs is_e one in
    let b = ahead second f ys is_f two in
    turns_two e f first.behind second.behind xs ys a b o (is_some (content e).visit) (is_some (content f).visit)
    (sym (meets ∙ ap₂ pair_meet (pair_is (content e) a.pair a.says) (pair_is (content f) b.pair b.says)))
    (tells_visit (content e) a.pair a.says) (tells_visit (content f) b.pair b.says)

turns_next : (a b : Option RecordRef) (first second : Side) (xs ys : List Record) → first.next ≡ a → second.next ≡ b → IsSide first xs → IsSide second ys → TurnsSo (turn_of a b) xs ys
turns_next None None first second xs ys is_a is_b one two = turns_done first second xs ys is_a is_b one two
turns_next None (Some f) first second xs ys is_a is_b one two = turns_second first second f xs ys is_a is_b one two
turns_next (Some e) None first second xs ys is_a is_b one two = turns_first first second e xs ys is_a is_b one two
turns_next (Some e) (Some f) first second xs ys is_a is_b one two =
    turns_records first second e f xs ys (pair_meet (pair_of (content e)) (pair_of (content f))) is_a is_b refl one two

-- the turn of two sides
pub turns_are : (first second : Side) (xs ys : List Record) (t : Turn) → t ≡ turn_of first.next second.next → IsSide first xs → IsSide second ys → TurnsSo t xs ys
turns_are first second xs ys t is one two = subst (λ u. TurnsSo u xs ys) (sym is) (turns_next first.next second.next first second xs ys refl refl one two)

shows_two : (e f : RecordRef) (o : Ordering) (s t : Bool) → Shows (turn_by o s t) (Some e) (Some f)
shows_two e f Less s t = refl
shows_two e f Equal true true = (refl, refl)
shows_two e f Equal true false = refl
shows_two e f Equal false true = refl
shows_two e f Equal false false = (refl, refl)
shows_two e f Greater s t = refl

shows_next : (a b : Option RecordRef) → Shows (turn_of a b) a b
shows_next None None = tt
shows_next None (Some f) = refl
shows_next (Some e) None = refl
shows_next (Some e) (Some f) = shows_two e f (pair_meet (pair_of (content e)) (pair_of (content f))) (is_some (content e).visit) (is_some (content f).visit)

-- what is taken or left out is there
pub shows_are : (first second : Side) (t : Turn) → t ≡ turn_of first.next second.next → Shows t first.next second.next
shows_are first second t is = subst (λ u. Shows u first.next second.next) (sym is) (shows_next first.next second.next)
