-- What a node does to the octets of a trace when it adds its data in place (RFC 9197 section 4.4.1).
use Rattle.std.specs.Prelude.{ℕ, ◌+◌, ◌-◌, ◌*◌, ◌%◌, ◌≡◌, ◌<◌, ◌≤◌, Bool, true, List, [], ◌∷◌, ◌++◌, length}
use Rattle.std.specs.Int.{w16, to_be_bytes}
use Rattle.ioam_base.specs.Octets.{u16_at, written}
use Rattle.ioam_data.specs.Kind.{words, can_add}
use Rattle.ioam_data.specs.View.{Seen}
use Rattle.ioam_data.specs.Written.{element_of, element_words}
use Rattle.ioam_trace.specs.Data.{trace_data, CanHold}
use Rattle.ioam_trace.specs.Head.{node_len_of, overflow_of, remaining_of, kind_of}
use Rattle.ioam_trace.specs.declared.addition.Filled.{Filled}
use Rattle.ioam_trace.specs.declared.addition.Filled.TheVariants.{Added, Overflowed, AlreadyOver, Unsuited}

-- the words that a node would add
abbrev pub words_to_add : List ℕ → Seen → ℕ
words_to_add octets view = element_words (kind_of octets) (node_len_of octets) view

-- a header is there with Overflow clear
pub record IsOpen (octets : List ℕ) : Type 0 where
  pub begins : 8 ≤ length octets
  pub clear : overflow_of octets ≡ 0

-- the octets are whole words, RemainingLen is at most the words after the header, and the type and NodeLen pass the test `adds`
pub record IsSuitedBy (adds : ℕ → ℕ → Bool) (octets : List ℕ) : Type 0 where
  pub in_words : length octets % 4 ≡ 0
  pub space : 8 + 4 * remaining_of octets ≤ length octets
  pub can : adds (kind_of octets) (node_len_of octets) ≡ true

-- this implementation adds elements under the type and NodeLen
abbrev pub IsSuited : List ℕ → Type 0
IsSuited octets = IsSuitedBy can_add octets

-- the octets with another word of NodeLen, Flags and RemainingLen
abbrev pub with_lengths : List ℕ → ℕ → List ℕ
with_lengths octets number = written octets 2 (to_be_bytes w16 number)

-- the octets with RemainingLen less by so many words
abbrev pub less_remaining : List ℕ → ℕ → List ℕ
less_remaining octets amount = with_lengths octets (u16_at octets 2 - amount)

module _ (adds : ℕ → ℕ → Bool) where
  -- What the octets become when a node that adds elements by the test `adds` meets them with a view, by what it answers. The
  -- tests come in the order: a header, Overflow, suited, room.
  abbrev pub FillingBy : List ℕ → Seen → List ℕ → Filled → Type 0
  FillingBy old view new AlreadyOver = (8 ≤ length old) × (overflow_of old ≡ 1) × (new ≡ old)
  FillingBy old view new Unsuited = (8 ≤ length old → (overflow_of old ≡ 0) × ¬ IsSuitedBy adds old) × (new ≡ old)
  FillingBy old view new Overflowed = IsOpen old × IsSuitedBy adds old × (remaining_of old < words_to_add old view)
      × (new ≡ with_lengths old (u16_at old 2 + 1024))
  FillingBy old view new (Added amount) = IsOpen old × IsSuitedBy adds old × (amount ≡ words_to_add old view)
      × (amount ≤ remaining_of old)
      × (new ≡ written (less_remaining old amount) (8 + 4 * (remaining_of old - amount)) (element_of (kind_of old) (node_len_of old) view))

-- what they become when this implementation meets them
abbrev pub Filling : List ℕ → Seen → List ℕ → Filled → Type 0
Filling old view new answer = FillingBy can_add old view new answer

-- A trace that holds the elements of the nodes before it holds this view's behind them in visit order, or
-- none more and Overflow.
abbrev pub AddsElement : List ℕ → Seen → List ℕ → Type 0
AddsElement old view new = (namespace kind capacity : ℕ) (elements : List (List ℕ))
    → CanHold namespace kind capacity elements → old ≡ trace_data namespace kind capacity elements
    → new ≡ trace_data namespace kind capacity (elements ++ element_of kind (words kind) view ∷ [])
