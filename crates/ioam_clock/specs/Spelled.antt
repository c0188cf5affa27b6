-- What a line of readings is written as.
use Rattle.std.specs.Prelude.{◌≡◌, ℕ, ◌<◌, ◌^◌, false, List, [], ◌∷◌, length, decimal, Option, Some, None, IfSome, Ok}
use Rattle.std.specs.List.{All, join_with_byte}
use Rattle.ioam_clock.specs.declared.sample.Sample.{Sample}
use Rattle.ioam_clock.specs.Lines.{ends_word}
use Rattle.ioam_clock.specs.Samples.{IsSmall}
use Rattle.ioam_clock.specs.Reading.{node_of}

-- not empty, and without a space
abbrev pub IsWord : List ℕ → Type 0
IsWord word = (0 < length word) × All (λ octet. ends_word octet ≡ false) word

-- a number in decimal digits, or `-` where there is none
abbrev pub maybe_word : Option ℕ → List ℕ
maybe_word None = 45 ∷ []
maybe_word (Some n) = decimal n

-- a line is six words with one space between each two: one that names the node, and the numbers of the sample, each below its limit
pub record SpellsLine (names : List (List ℕ)) (line : List ℕ) (node : ℕ) (sample : Sample) : Type 0 where
  pub name : List ℕ
  pub word : IsWord name
  pub named : node_of names name ≡ Ok node
  pub small : IsSmall sample
  pub queue_small : IfSome sample.queue (λ queue. queue < 2 ^ 32)
  pub buffer_small : IfSome sample.buffer (λ buffer. buffer < 2 ^ 32)
  pub joins : line ≡ join_with_byte 32 (name ∷ decimal sample.time ∷ decimal sample.clock
      ∷ maybe_word sample.delay ∷ maybe_word sample.queue ∷ maybe_word sample.buffer ∷ [])
