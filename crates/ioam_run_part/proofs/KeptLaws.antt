-- The lines of what is kept of a part.
use Rattle.std.proofs.Common.{◌≡◌, ℕ, ◌≤◌, List, [], ◌∷◌, ◌++◌, length, All, Option, refl, sym, ap, ap₂, ◌∙◌, append_assoc, arith}
use Rattle.std.specs.List.{flat_map}
use Rattle.std.proofs.lemmas.List.Elements.{All-head, All-tail}
use Rattle.ioam_run_answer.specs.Record.{Record}
use Rattle.ioam_collect.specs.Entry.{Entry}
use Rattle.ioam_collect.specs.Best.{groups_of}
use Rattle.ioam_collect.specs.Collected.{Collected, Stands, count_kept}
use Rattle.ioam_collect.specs.Keyed.{keyed, with_keyed}
use Rattle.ioam_collect.specs.declared.key.Key.{Key}
use Rattle.ioam_collect.proofs.UniteLaws.{apart_kept}
use Rattle.ioam_part.specs.Part.{AreInOrder, HasKey}
use Rattle.ioam_report_groups.specs.GroupsText.{group_text}
use Rattle.ioam_run_part.specs.KeptText.{AreLines, kept_line, kept_text, part_lines}
use Rattle.ioam_run_part.specs.Telling.{PutsLast}
use Rattle.ioam_run_part.specs.declared.kept.Lines.{Lines}

keyed-length : (xs : List Record) → All HasKey xs → length (keyed xs) ≡ length xs
keyed-length [] keys = refl
keyed-length (x ∷ xs) keys =
    let key = All-head HasKey x xs keys in
    let more = keyed-length xs (All-tail HasKey x xs keys) in
    let size : length (keyed (x ∷ xs)) ≡ length (key.0 ∷ keyed xs) = ap (λ (o : Option (Key × Entry)). length (with_keyed o (keyed xs))) key.1 in
    omega (arith, size, more)

-- as many are kept as there are
pub count_all : (xs : List Record) → AreInOrder xs → count_kept xs ≡ length xs
count_all xs in_order = ap length (apart_kept (keyed xs) in_order.apart) ∙ keyed-length xs in_order.keys

pub lines_are : (c : Collected) (xs : List Record) → AreInOrder xs → Stands c xs → c.groups ≡ groups_of (keyed xs) → kept_text c ≡ part_lines xs
lines_are c xs in_order stands groups = ap₂ (λ (a b : List ℕ). a ++ b) (ap (flat_map group_text) groups) (ap kept_line (stands.groups.held ∙ count_all xs in_order))

pub put_text : (c : Collected) (old lines new : List ℕ) (held : ℕ) → lines ≡ old ++ flat_map group_text c.groups → held ≡ c.held → new ≡ lines ++ kept_line held
    → new ≡ old ++ kept_text c
put_text c old lines new held lines_are held_is new_is =
    new_is ∙ ap₂ (λ (o : List ℕ) (n : ℕ). o ++ kept_line n) lines_are held_is ∙ append_assoc old (flat_map group_text c.groups) (kept_line c.held)

abbrev Says : Lines → List ℕ → Type 0
Says lines text = AreLines lines.collector text

abbrev lines_of : Collected → Lines
lines_of c = record { collector = c }

-- all lines at once
pub lines_put : (c : Collected) (before after : List ℕ) → after ≡ before ++ kept_text c
    → ((xs : List Record) → AreInOrder xs → length xs ≤ 1048576 → Stands c xs → kept_text c ≡ part_lines xs)
    → PutsLast Says (λ kept. 0) (lines_of c) (lines_of c) before after
lines_put c before after is lines = record {
  added = kept_text c;
  is = is;
  all = λ text are. are.is ∙ sym (lines are.records are.in_order are.few are.stands);
}
