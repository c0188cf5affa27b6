-- What a node may leave of the octets of a trace, as it is read off the octets before and after.
use Rattle.std.specs.Prelude.{◌≡◌, ◌<◌, ◌≤◌, ◌+◌, ◌-◌, ◌*◌, ◌⊎◌, ℕ, true, List, take, drop}
use Rattle.ioam_base.specs.Octets.{u16_at, written}
use Rattle.ioam_data.specs.Elements.{IsElement}
use Rattle.ioam_data.specs.Fields.{fields_of}
use Rattle.ioam_data.specs.Kind.{has}
use Rattle.ioam_trace.specs.Filling.{with_lengths, less_remaining}
use Rattle.ioam_trace.specs.Head.{node_len_of, remaining_of, kind_of}
use Rattle.ioam_audit.specs.Lawful.{IsLawful}

-- what stands between the two places that RemainingLen tells, that of now and that of before
abbrev pub between : List ℕ → List ℕ → List ℕ
between old new = take (4 * (remaining_of old - remaining_of new)) (drop (8 + 4 * remaining_of new) new)

-- the octets with RemainingLen less by so many words, and this element in the last of the words that were free
abbrev pub with_element : List ℕ → ℕ → List ℕ → List ℕ
with_element octets amount element = written (less_remaining octets amount) (8 + 4 * (remaining_of octets - amount)) element

-- Overflow was set and nothing else changed. With bit 22 a snapshot may have more words than RemainingLen can count; without
-- it each element has NodeLen words
pub record OverflowsSo (old new : List ℕ) : Type 0 where
  pub may : (has (kind_of old) 22 ≡ true) ⊎ (remaining_of old < node_len_of old)
  pub is : new ≡ with_lengths old (u16_at old 2 + 1024)

module _ (hops id inward : ℕ) (old new : List ℕ) where
  -- between them stands one element, whole, with lawful fields, and nothing else changed
  pub record AddsSo : Type 0 where
    pub less : remaining_of new ≤ remaining_of old
    pub element : IsElement (kind_of old) (node_len_of old) (between old new)
    pub lawful : IsLawful hops id inward (fields_of (kind_of old) (node_len_of old) (between old new))
    pub is : new ≡ with_element old (remaining_of old - remaining_of new) (between old new)
