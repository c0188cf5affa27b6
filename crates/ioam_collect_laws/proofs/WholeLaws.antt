-- The groups of a run's records, all of which were read, are the whole paths of its packets.
use Rattle.std.proofs.Common.{◌≡◌, ℕ, zero, suc, List, [], ◌∷◌, ◌++◌, map, Option, Some, slice_get, append-nil, refl, sym, ap, ap₂, ◌∙◌, subst, inl, inr, arith}
use Rattle.std.specs.Prelude.{Contains, unwrap_or}
use Rattle.std.specs.List.{AllByRecursion, flat_map}
use Rattle.std.proofs.lemmas.List.Elements.{recursion_from_All}
use Rattle.ioam_base.specs.Octets.{IsFront}
use Rattle.ioam_run_texts.specs.Sample.{Sample}
use Rattle.ioam_collect.specs.Best.{groups_of}
use Rattle.ioam_collect.specs.Keyed.{keyed, keyed_of, with_keyed}
use Rattle.ioam_collect.specs.declared.key.Key.{Key}
use Rattle.ioam_collect.proofs.Members.{Has, contains_from, has_from}
use Rattle.ioam_dex.specs.Reads.{Ending, Reads, Splits, records_octets}
use Rattle.ioam_dex.specs.Record.{IsRecord, Record}
use Rattle.ioam_dex.proofs.ReadsLaws.{cut-no-record}
use Rattle.ioam_run_texts.specs.Fate.{Frame, Fate}
use Rattle.ioam_run_texts.specs.Texts.{exports_text}
use Rattle.ioam_pool.specs.Entry.{Entry}
use Rattle.ioam_topo.specs.declared.domain.Domain.{Domain}
use Rattle.ioam_collect_laws.specs.Exported.{AreFirstOfRun, AreRun, AreWholePaths, FrontsAreRead, IsTold, IsWholeOfOne, IsWholePath, TellsRun, item_under}
use Rattle.ioam_collect_laws.specs.Paths.{AreOfRun, AreShown, IsOfOne, IsPath, IsRun, Shows, exports_of, path_of, under}
use Rattle.ioam_collect_laws.proofs.ExportLaws.{all-records, reads-run}
use Rattle.ioam_collect_laws.proofs.FrontLaws.{first_among, front-reads}
use Rattle.ioam_collect_laws.proofs.ReadLaws.{regrouped}
use Rattle.ioam_collect_laws.proofs.RunLaws.{trail_at}
use Rattle.ioam_collect_laws.proofs.TextLaws.{exports-octets}
use Rattle.ioam_collect_laws.proofs.TrailLaws.{IsKeyed, item}

has_left : {X : Type 0} (xs ys : List X) (z : X) → Has xs z → Has (xs ++ ys) z
has_left [] ys z has = absurd has
has_left (x ∷ xs) ys z (inl is) = inl is
has_left (x ∷ xs) ys z (inr has) = inr (has_left xs ys z has)

has_right : {X : Type 0} (xs ys : List X) (z : X) → Has ys z → Has (xs ++ ys) z
has_right [] ys z has = has
has_right (x ∷ xs) ys z has = inr (has_right xs ys z has)

-- what stands in the list at a place stands in all of them
flat_has : {X Y : Type 0} (f : X → List Y) (xs : List X) (i : ℕ) (x : X) (y : Y) → slice_get xs i ≡ Some x → Has (f x) y → Has (flat_map f xs) y
flat_has f [] i x y there has = absurd (cc there)
flat_has f (z ∷ xs) zero x y there has =
    let same : x ≡ z = sym (ap (λ o. unwrap_or o x) there) in
    has_left (f z) (flat_map f xs) y (subst (λ w. Has (f w) y) same has)
flat_has f (z ∷ xs) (suc i) x y there has = has_right (f z) (flat_map f xs) y (flat_has f xs i x y there has)

-- one that was read is shown in front
first_shown : (read xs shown rest : List Record) (x : Record) → Contains read x → Shows read x rest shown → rest ≡ xs → shown ≡ x ∷ xs
first_shown read xs shown rest x has (inl is) same = is.1 ∙ ap (λ ys. x ∷ ys) same
first_shown read xs shown rest x has (inr none) same = absurd (none.0 has)

-- where each was read, all are shown
shown_all : (read xs shown : List Record) → ((x : Record) → Has xs x → Contains read x) → AreShown read xs shown → shown ≡ xs
shown_all read [] shown each are = are
shown_all read (x ∷ xs) shown each are =
    first_shown read xs shown are.0 x (each x (inl refl)) are.2 (shown_all read xs are.0 (λ y has. each y (inr has)) are.1)

-- ---- items

keyed_map : (key : Key) (xs : List Record) → AllByRecursion (IsKeyed key) xs → keyed xs ≡ map (λ (x : Record). under key (item x)) xs
keyed_map key [] all = refl
keyed_map key (x ∷ xs) all = ap₂ with_keyed all.0.keyed (keyed_map key xs all.1)

told_map : (key : Key) (xs : List Record) → AllByRecursion (IsKeyed key) xs → map keyed_of xs ≡ map (λ (x : Record). item_under key (item x)) xs
told_map key [] all = refl
told_map key (x ∷ xs) all = ap₂ (λ (o : Option (Key × Entry)) os. o ∷ os) all.0.keyed (told_map key xs all.1)

some_map : {X : Type 0} (f : X → Key × Entry) (xs : List X) → map (λ (p : Key × Entry). Some p) (map f xs) ≡ map (λ x. Some (f x)) xs
some_map f [] = refl
some_map f (x ∷ xs) = ap (λ os. Some (f x) ∷ os) (some_map f xs)

items_are : (key : Key) (xs : List Record) (items : List Entry) → AllByRecursion (IsKeyed key) xs → keyed xs ≡ map (under key) items
    → map keyed_of xs ≡ map (item_under key) items
items_are key xs items all is =
    let same : map (λ (x : Record). under key (item x)) xs ≡ map (under key) items = sym (keyed_map key xs all) ∙ is in
    told_map key xs all ∙ sym (some_map (λ (x : Record). under key (item x)) xs) ∙ ap (map (λ (p : Key × Entry). Some p)) same ∙ some_map (under key) items

-- ---- the groups

module _ (domain : Domain) (readings : List (List Sample)) (frames : List Frame) (fates : List Fate) (run : IsRun domain readings frames fates) where
  abbrev records : List Record
  records = exports_of domain readings fates

  of_run : AreOfRun domain readings fates records
  of_run x there = (x, there, inl refl)

  on_path : (place : ℕ) (fate : Fate) (x : Record) → slice_get fates place ≡ Some fate → Has (path_of domain readings fate) x → Contains records x
  on_path place fate x there has = contains_from records x (flat_has (path_of domain readings) fates place fate x there has)

  whole_path : (place : ℕ) (fate : Fate) (group : Key × List Entry) → slice_get fates place ≡ Some fate → IsPath domain readings records fate group
      → IsWholePath domain readings fate group
  whole_path place fate group there path =
      let xs = path_of domain readings fate in
      let same : path.shown ≡ xs = shown_all records xs path.shown (λ x has. on_path place fate x there has) path.are in
      let trail = trail_at domain readings frames fates run place fate group.0 there path.key in
      record { key = path.key; items = items_are group.0 xs group.1 trail.each (ap keyed (sym same) ∙ path.items) }

  whole_of_one : (group : Key × List Entry) → IsOfOne domain readings fates records group → IsWholeOfOne domain readings fates group
  whole_of_one group one = record {
    place = one.place;
    fate = one.fate;
    there = one.there;
    path = whole_path one.place one.fate group one.there one.path;
    alone = one.alone;
  }

  pub whole_paths : AreWholePaths domain readings fates (groups_of (keyed records))
  whole_paths =
      let all = regrouped domain readings frames fates run records of_run in
      record {
        each = λ group there. whole_of_one group (all.each group there);
        all = λ place fate x there on.
            let has = has_from (path_of domain readings fate) x on in
            let found = all.all place fate x there on (inl (on_path place fate x there has)) in
            (found.0, found.1, whole_path place fate found.0 there found.2);
      }

-- ---- what was read

module _ (octets : List ℕ) (read : List Record) (domain : Domain) (readings : List (List Sample)) (frames : List Frame) (fates : List Fate)
    (told : IsTold domain readings frames fates) (are : octets ≡ exports_text domain readings fates) where
  is_whole : (ending : Ending) → Reads octets read ending → AreRun domain readings fates read ending
  is_whole ending reads =
      let P : List ℕ → Type 0 = λ os. Reads os read ending in
      let Q : List Record → Type 0 = λ xs. AreWholePaths domain readings fates (groups_of (keyed xs)) in
      let both = (reads-run domain readings frames fates told).only read ending (subst P are reads) in
      record { whole = both.1; all = both.0; paths = subst Q (sym both.0) (whole_paths domain readings frames fates told.run) }

  is_first : (rest : List ℕ) → Splits octets read rest → AreFirstOfRun domain readings fates read
  is_first rest splits =
      let all = exports_of domain readings fates in
      let same = sym splits.is ∙ are ∙ sym (exports-octets domain readings fates) ∙ sym (append-nil (records_octets all)) in
      first_among read all rest [] (recursion_from_All IsRecord read splits.each) (all-records domain readings frames fates told)
      (cut-no-record [] (inl (omega arith))) same

pub tells-run : (octets : List ℕ) (read : List Record) → TellsRun octets read
tells-run octets read = record {
  whole = λ domain readings frames fates ending told are. is_whole octets read domain readings frames fates told are ending;
  first = λ domain readings frames fates rest told are. is_first octets read domain readings frames fates told are rest;
}

pub fronts-read : FrontsAreRead
fronts-read domain readings frames fates octets told front =
    front-reads (exports_of domain readings fates) octets (all-records domain readings frames fates told)
    (subst (IsFront octets) (sym (exports-octets domain readings fates)) front)
