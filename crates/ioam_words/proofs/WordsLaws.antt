-- Laws of the words that spell numbers, and of which command words are.
use Rattle.std.proofs.Common.{◌≡◌, ℕ, ◌<◌, Bool, true, false, cond, List, [], ◌∷◌, length, Option, Some, None, IsSomeAnd, option_map, map, slice_get, get_or, refl, sym, ◌∙◌, ap, subst, arith}
use Rattle.std.specs.Prelude.{◌↔◌, ◌^◌, ◌≤◌, ⊤, MatchOption, if◌then◌else◌, codes, decimal, find, nat_eq, nat_lt}
use Rattle.std.specs.List.{list_all}
use Rattle.std.specs.Str.{bytes_eq}
use Rattle.std.proofs.lemmas.Bool.{and_parts, eqb-true, ltb-true, ltb-false}
use Rattle.std.proofs.lemmas.Fmt.{decimal_injective}
use Rattle.std.proofs.lemmas.Option.{none-some}
use Rattle.ioam_base.proofs.DecimalLaws.{decimal_iff}
use Rattle.ioam_desk_outputs.specs.Names.{name_at}
use Rattle.ioam_topo.specs.declared.format.Format.{Format}
use Rattle.ioam_topo.specs.declared.format.Format.TheVariants.{Ptp, Ntp, Posix}
use Rattle.ioam_words.specs.Formats.{format_name}
use Rattle.ioam_words.specs.Words.{FormRow, IsBulk, IsCount, IsForm, IsNoBulk, IsNoForm, IsSeed, IsWorkers, Spells, count_asked, count_of, form_for, forms, row_of}
use Rattle.ioam_words.specs.declared.command.Asks.{Asks}
use Rattle.ioam_words.specs.declared.command.Asks.TheVariants as asks
use Rattle.ioam_words.specs.declared.command.Form.{Form}
use Rattle.ioam_words.specs.declared.command.Command.{Command}
use Rattle.ioam_words.specs.declared.command.Command.TheVariants.{Delays, Run, Bulk}

-- the greatest seed
pub greatest : codes "18446744073709551615" ≡ decimal 18446744073709551615
greatest = ((decimal_iff (2 ^ 64) (codes "18446744073709551615") 18446744073709551615 (omega arith)).0 refl).1

-- a word that is neither the greatest seed nor read below that spells no seed
spells_less : (word : List ℕ) (seed : ℕ) → ((n : ℕ) → (None ≡ Some n) ↔ ((n < 18446744073709551615) × (word ≡ decimal n)))
    → (word ≡ codes "18446744073709551615" → ⊥) → IsSeed seed word → (b : Bool) → nat_lt seed 18446744073709551615 ≡ b → ⊥
spells_less word seed reads other is true less =
    none-some seed ((reads seed).1 (ltb-true seed 18446744073709551615 less, is.0))
spells_less word seed reads other is false more =
    let below : seed < 18446744073709551616 = is.1 in
    let same : seed ≡ 18446744073709551615 = omega (arith, ltb-false seed 18446744073709551615 more, below) in
    other (is.0 ∙ ap decimal same ∙ sym greatest)

-- one that isn't the greatest spells a seed exactly where it is read below that
pub spells_seed : (word : List ℕ) (read : Option ℕ) → ((n : ℕ) → (read ≡ Some n) ↔ ((n < 18446744073709551615) × (word ≡ decimal n)))
    → (word ≡ codes "18446744073709551615" → ⊥) → MatchOption read ((seed : ℕ) → IsSeed seed word → ⊥) (λ seed. IsSeed seed word)
spells_seed word None reads other = λ seed is. spells_less word seed reads other is (nat_lt seed 18446744073709551615) refl
spells_seed word (Some n) reads other =
    let found = (reads n).0 refl in
    (found.1, omega (arith, found.0))

-- ---- words are of one command's form at most

-- the format that one of these words stands for, by their first and second letters
abbrev format_by : List ℕ → Format
format_by word = if nat_eq (get_or word 0 0) 110 then Ntp else if nat_eq (get_or word 1 0) 111 then Posix else Ptp

is_by : (format : Format) → format_by (format_name format) ≡ format
is_by Ptp = refl
is_by Ntp = refl
is_by Posix = refl

-- a word stands for one format at most
same_format : (one format : Format) → format_name one ≡ format_name format → one ≡ format
same_format one format names = sym (is_by one) ∙ ap format_by names ∙ is_by format

same_workers : (one workers : ℕ) (word : List ℕ) → IsWorkers one word → IsWorkers workers word → one ≡ workers
same_workers one workers word is form = decimal_injective one workers (omega (arith, is.2)) (omega (arith, form.2)) (sym is.0 ∙ form.0)

same_count : (one count : ℕ) (word : List ℕ) → IsCount one word → IsCount count word → one ≡ count
same_count one count word is form = decimal_injective one count (omega (arith, is.2)) (omega (arith, form.2)) (sym is.0 ∙ form.0)

-- three words spell one generated load at most
same_bulk : (first second third : List ℕ) (one command : Command) → IsBulk first second third one → IsBulk first second third command → one ≡ command
same_bulk first second third (Bulk seed count workers) (Bulk other few hands) is form =
    let seeds : seed ≡ other = decimal_injective seed other is.0.1 form.0.1 (sym is.0.0 ∙ form.0.0) in
    let counts : count ≡ few = same_count count few second is.1 form.1 in
    let numbers : workers ≡ hands = same_workers workers hands third is.2 form.2 in
    ap (λ n. Bulk n count workers) seeds ∙ ap (λ n. Bulk other n workers) counts ∙ ap (λ n. Bulk other few n) numbers
same_bulk first second third (Bulk seed count workers) command is form = absurd form
same_bulk first second third one command is form = absurd is

pub no_bulk : (first second third : List ℕ) → IsNoBulk first second third → (command : Command) → IsBulk first second third command → ⊥
no_bulk first second third none (Bulk seed count workers) is = none seed count workers is.0 is.1 is.2
no_bulk first second third none command is = is

module _ (words : List (List ℕ)) where
  -- what is asked for is spelt by one command at most
  one_spelt : (asked : Asks) (one command : Command) → Spells asked words one → Spells asked words command → one ≡ command
  one_spelt (asks.Names own) one command is form = is ∙ sym form
  one_spelt asks.Format (Delays one) (Delays format) is form = ap Delays (same_format one format (sym is ∙ form))
  one_spelt asks.Format (Delays one) command is form = absurd form
  one_spelt asks.Format one command is form = absurd is
  one_spelt asks.Workers (Run one) (Run workers) is form = ap Run (same_workers one workers (name_at words 3) is form)
  one_spelt asks.Workers (Run one) command is form = absurd form
  one_spelt asks.Workers one command is form = absurd is
  one_spelt asks.Load one command is form = same_bulk (name_at words 1) (name_at words 2) (name_at words 3) one command is form

  one_found : (found : Option FormRow) (one command : Command) → IsSomeAnd found (λ row. Spells row.asks words one)
      → IsSomeAnd found (λ row. Spells row.asks words command) → one ≡ command
  one_found None one command is form = absurd is
  one_found (Some row) one command is form = one_spelt row.asks one command is form

  pub one_form : (one command : Command) → IsForm one words → IsForm command words → one ≡ command
  one_form one command is form = one_found (form_for words) one command is.1 form.1

  -- and by one of as many words as its form has
  spelt_count : (asked : Asks) (command : Command) → Spells asked words command → count_of command ≡ count_asked asked
  spelt_count (asks.Names own) command is = ap count_of is
  spelt_count asks.Format (Delays format) is = refl
  spelt_count asks.Format command is = absurd is
  spelt_count asks.Workers (Run workers) is = refl
  spelt_count asks.Workers command is = absurd is
  spelt_count asks.Load (Bulk seed count workers) is = refl
  spelt_count asks.Load command is = absurd is

-- ---- the form that is found

-- a row that is found passes each test that all rows pass
module _ (p q : FormRow → Bool) (found : FormRow) where
  passes_by : (row : FormRow) (rows : List FormRow) (here : Bool) → q row ≡ true → (find p rows ≡ Some found → q found ≡ true)
      → cond here (Some row) (find p rows) ≡ Some found → q found ≡ true
  passes_by row rows true passes rest is = let same : row ≡ found = cc is in ap q (sym same) ∙ passes
  passes_by row rows false passes rest is = rest is

  found_passes : (rows : List FormRow) → list_all q rows ≡ true → find p rows ≡ Some found → q found ≡ true
  found_passes [] all is = absurd (cc is)
  found_passes (row ∷ rows) all is =
      let both = and_parts (q row) (list_all q rows) all in passes_by row rows (p row) both.0 (found_passes rows both.1) is

-- the form of a name is found among rows as among what they say
module _ (name : List ℕ) where
  abbrev in_code : Form → Bool
  in_code row = bytes_eq row.0.now name

  abbrev in_table : FormRow → Bool
  in_table row = bytes_eq row.name name

  row_by : (row : Form) (rows : List Form) (here : Bool) → find in_table (map row_of rows) ≡ option_map row_of (find in_code rows)
      → cond here (Some (row_of row)) (find in_table (map row_of rows)) ≡ option_map row_of (cond here (Some row) (find in_code rows))
  row_by row rows true rest = refl
  row_by row rows false rest = rest

  find_row : (rows : List Form) → find in_table (map row_of rows) ≡ option_map row_of (find in_code rows)
  find_row [] = refl
  find_row (row ∷ rows) = row_by row rows (in_code row) (find_row rows)

first_is : (words : List (List ℕ)) (name : List ℕ) → Some name ≡ slice_get words 0 → name ≡ name_at words 0
first_is [] name is = absurd (cc is)
first_is (word ∷ words) name is = cc is

-- so is the form of the first word, among the rows of the table
pub form_found : (words : List (List ℕ)) (name : List ℕ) (rows : List Form) (found : Option Form) (first : List ℕ) → name ≡ first → Some first ≡ slice_get words 0 → map row_of rows ≡ forms
    → found ≡ find (λ row. bytes_eq row.0.now name) rows → form_for words ≡ option_map row_of found
unfolding form_for
form_found words name rows found first same there all is =
    ap (λ (n : List ℕ). find (λ row. bytes_eq row.name n) forms) (sym (same ∙ first_is words first there)) ∙ ap (find (λ row. bytes_eq row.name name)) (sym all)
    ∙ find_row name rows ∙ ap (option_map row_of) (sym is)

-- a row has as many words as the command that they spell
abbrev counts : FormRow → Bool
counts row = nat_eq row.count (count_asked row.asks)

all_count : list_all counts forms ≡ true
unfolding forms
all_count = refl

module _ (words : List (List ℕ)) where
  pub no_words : words ≡ [] → IsNoForm words
  unfolding form_for forms
  no_words none command is = (subst (IsForm command) none is).1

  pub no_name : form_for words ≡ None → IsNoForm words
  no_name none command is = let P : Option FormRow → Type 0 = λ found. IsSomeAnd found (λ row. Spells row.asks words command) in subst P none is.1

  module _ (row : FormRow) (found : form_for words ≡ Some row) where
    abbrev Spelt : Command → Option FormRow → Type 0
    Spelt command at = IsSomeAnd at (λ r. Spells r.asks words command)

    pub row_count : row.count ≡ count_asked row.asks
    unfolding form_for
    row_count = eqb-true row.count (count_asked row.asks) (found_passes (λ r. bytes_eq r.name (name_at words 0)) counts row forms all_count found)

    pub no_count : (length words ≡ row.count → ⊥) → IsNoForm words
    no_count differs command is = differs (is.0 ∙ spelt_count words row.asks command (subst (Spelt command) found is.1) ∙ sym row_count)

    pub by_row : (answer : Option Command) → length words ≡ row.count
        → MatchOption answer ((command : Command) → Spells row.asks words command → ⊥) (λ command. Spells row.asks words command)
        → MatchOption answer (IsNoForm words) (λ command. IsForm command words)
    by_row None many none = λ command is. none command (subst (Spelt command) found is.1)
    by_row (Some command) many spells =
        (many ∙ row_count ∙ sym (spelt_count words row.asks command spells), subst (Spelt command) (sym found) spells)

-- ---- the numbers of a form

-- what the command is run with: 1 to 64 workers, and 1 to 1,000,000 arrivals
abbrev pub Fits : Command → Type 0
Fits (Run workers) = (1 ≤ workers) × (workers ≤ 64)
Fits (Bulk seed count workers) = (1 ≤ count) × (count ≤ 1000000) × (1 ≤ workers) × (workers ≤ 64)
Fits _ = ⊤

-- a command with numbers is no row's own
abbrev has_none : Asks → Bool
has_none (asks.Names (Run workers)) = false
has_none (asks.Names (Bulk seed count workers)) = false
has_none asked = true

abbrev row_has_none : FormRow → Bool
row_has_none row = has_none row.asks

none_has : list_all row_has_none forms ≡ true
unfolding forms
none_has = refl

module _ (words : List (List ℕ)) where
  spelt_fits : (asked : Asks) (command : Command) → has_none asked ≡ true → Spells asked words command → Fits command
  spelt_fits (asks.Names own) (Run workers) none is = let wrong : false ≡ true = ap (λ c. has_none (asks.Names c)) is ∙ none in absurd (cc wrong)
  spelt_fits (asks.Names own) (Bulk seed count workers) none is =
      let wrong : false ≡ true = ap (λ c. has_none (asks.Names c)) is ∙ none in absurd (cc wrong)
  spelt_fits asks.Format (Run workers) none is = absurd is
  spelt_fits asks.Format (Bulk seed count workers) none is = absurd is
  spelt_fits asks.Workers (Run workers) none is = (is.1, is.2)
  spelt_fits asks.Workers (Bulk seed count workers) none is = absurd is
  spelt_fits asks.Load (Run workers) none is = absurd is
  spelt_fits asks.Load (Bulk seed count workers) none is = (is.1.1, is.1.2, is.2.1, is.2.2)
  spelt_fits asked command none is = tt

  found_fits : (found : Option FormRow) (command : Command) → form_for words ≡ found → IsSomeAnd found (λ row. Spells row.asks words command) → Fits command
  unfolding form_for
  found_fits None command found is = absurd is
  found_fits (Some row) command found is =
      spelt_fits row.asks command (found_passes (λ r. bytes_eq r.name (name_at words 0)) row_has_none row forms none_has found) is

  pub form_fits : (command : Command) → IsForm command words → Fits command
  form_fits command is = found_fits (form_for words) command refl is.1
