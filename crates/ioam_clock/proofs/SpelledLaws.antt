-- A line is read as what it is written as, both ways.
use Rattle.std.proofs.Common.{◌≡◌, ℕ, ◌^◌, ◌<◌, ◌≤◌, Bool, true, false, cond, List, [], ◌∷◌, length, get_or, decimal, Option, Some, None, Result, Ok, Err, arith, refl, ap, sym, subst, ◌∙◌}
use Rattle.std.specs.Prelude.{◌↔◌, ⊤, IfSome}
use Rattle.std.specs.List.{All, slice_split, onto_first, join_with_byte}
use Rattle.std.specs.Str.Parse.{AllDigits}
use Rattle.std.proofs.lemmas.Bool.Decides.{nat_tests}
use Rattle.std.proofs.lemmas.Fmt.{decimal_nonempty, decimal_is_IsNumeral}
use Rattle.std.proofs.lemmas.List.Elements.{All-nil, All-cons}
use Rattle.std.proofs.lemmas.List.Splits.{slice_split_none, slice_split_at, join_with_byte-slice_split}
use Rattle.std.proofs.lemmas.Str.Parse.{digit_at, digit_from_value}
use Rattle.ioam_clock.specs.declared.fault.ReadWhy.{ReadWhy}
use Rattle.ioam_clock.specs.declared.fault.ReadWhy.TheVariants.{Words}
use Rattle.ioam_clock.specs.declared.sample.Sample.{Sample}
use Rattle.ioam_clock.specs.Lines.{Line, ends_word, has_empty, six, words_of}
use Rattle.ioam_clock.specs.Numbers.{◌▷◌, there, is_dash, number, maybe}
use Rattle.ioam_clock.specs.Reading.{node_of, sample_of}
use Rattle.ioam_clock.specs.File.{line_says}
use Rattle.ioam_clock.specs.Spelled.{IsWord, maybe_word, SpellsLine}
use Rattle.ioam_clock.proofs.NumberLaws.{number_read}

-- ---- numbers, or `-`

dash_is : (word : List ℕ) → is_dash word ≡ true → word ≡ 45 ∷ []
dash_is [] on = absurd (cc)
dash_is (x ∷ []) on = let same : x ≡ 45 = grind (arith, nat_tests, on) in ap (λ (k : ℕ). k ∷ []) same
dash_is (x ∷ y ∷ more) on = absurd (grind (arith, nat_tests, on))

abbrev Spells : ℕ → List ℕ → Option ℕ → Type 0
Spells limit word o = IfSome o (λ n. n < limit) × (word ≡ maybe_word o)

maybe_by : (limit : ℕ) (word : List ℕ) (o : Option ℕ) (b : Bool) (r : Result ℕ ReadWhy) → limit ≤ 2 ^ 64 → is_dash word ≡ b → number limit word ≡ r
    → cond b (Ok None) (there r) ≡ Ok o → Spells limit word o
maybe_by limit word o true r wide dash read is = let none : None ≡ o = cc in subst (Spells limit word) none (tt, dash_is word dash)
maybe_by limit word o false (Ok n) wide dash read is = let some : Some n ≡ o = cc in
    let number : (n < limit) × (word ≡ decimal n) = (number_read limit word (Ok n) wide (sym read) n).0 refl in subst (Spells limit word) some number
maybe_by limit word o false (Err why) wide dash read is = absurd (cc)

maybe_is : (limit : ℕ) (word : List ℕ) (o : Option ℕ) → limit ≤ 2 ^ 64 → maybe limit word ≡ Ok o → Spells limit word o
maybe_is limit word o wide is = maybe_by limit word o (is_dash word) (number limit word) wide refl refl is

first_digit : (n : ℕ) → n < 2 ^ 64 → (48 ≤ get_or (decimal n) 0 0) × (get_or (decimal n) 0 0 ≤ 57)
first_digit n low = digit_at (decimal n) 0 (decimal_is_IsNumeral n low).0.1 (decimal_nonempty n low)

digits_no_dash : (n : ℕ) → n < 2 ^ 64 → is_dash (decimal n) ≡ false
digits_no_dash n low = grind (arith, nat_tests, first_digit n low)

number_reads : (limit n : ℕ) → limit ≤ 2 ^ 64 → n < limit → number limit (decimal n) ≡ Ok n
number_reads limit n wide low = (number_read limit (decimal n) (number limit (decimal n)) wide refl n).1 (low, refl)

maybe_reads : (limit : ℕ) (o : Option ℕ) → limit ≤ 2 ^ 64 → IfSome o (λ n. n < limit) → maybe limit (maybe_word o) ≡ Ok o
maybe_reads limit None wide low = refl
maybe_reads limit (Some n) wide low = ap (λ b. cond b (Ok None) (there (number limit (decimal n)))) (digits_no_dash n (omega arith))
    ∙ ap there (number_reads limit n wide low)

-- ---- words

abbrev Lacks : List ℕ → Type 0
Lacks word = All (λ octet. ends_word octet ≡ false) word

digits_lack : (ds : List ℕ) → AllDigits 10 ds → Lacks ds
digits_lack [] h = All-nil (λ octet. ends_word octet ≡ false)
digits_lack (c ∷ cs) h = All-cons (λ octet. ends_word octet ≡ false) c cs (grind (arith, nat_tests, digit_from_value c h.0)) (digits_lack cs h.1)

digits_word : (n : ℕ) → n < 2 ^ 64 → IsWord (decimal n)
digits_word n low = (decimal_nonempty n low, digits_lack (decimal n) (decimal_is_IsNumeral n low).0.1)

maybe_is_word : (limit : ℕ) (o : Option ℕ) → limit ≤ 2 ^ 64 → IfSome o (λ n. n < limit) → IsWord (maybe_word o)
maybe_is_word limit None wide low = (omega arith, All-cons (λ octet. ends_word octet ≡ false) 45 [] refl (All-nil (λ octet. ends_word octet ≡ false)))
maybe_is_word limit (Some n) wide low = digits_word n (omega arith)

abbrev AreWords : List (List ℕ) → Type 0
AreWords [] = ⊤
AreWords (word ∷ more) = IsWord word × AreWords more

-- words, joined and split again
split_join : (word : List ℕ) (more : List (List ℕ)) → AreWords (word ∷ more) → slice_split ends_word (join_with_byte 32 (word ∷ more)) ≡ word ∷ more
split_join word [] h = slice_split_none ends_word word h.0.1
split_join word (next ∷ more) h = slice_split_at ends_word word 32 (join_with_byte 32 (next ∷ more)) h.0.1 refl
    ∙ ap (λ (ws : List (List ℕ)). word ∷ ws) (split_join next more h.1)

lacks_by : (x : ℕ) (part : List ℕ) (parts rest : List (List ℕ)) (b : Bool) → ends_word x ≡ b → cond b ([] ∷ rest) (onto_first x rest) ≡ part ∷ parts
    → ((p : List ℕ) (ps : List (List ℕ)) → rest ≡ p ∷ ps → Lacks p) → Lacks part
lacks_by x part parts rest true at is go = let none : [] ≡ part = cc in subst Lacks none (All-nil (λ octet. ends_word octet ≡ false))
lacks_by x part parts [] false at is go = let one : x ∷ [] ≡ part = cc in
    subst Lacks one (All-cons (λ octet. ends_word octet ≡ false) x [] at (All-nil (λ octet. ends_word octet ≡ false)))
lacks_by x part parts (p ∷ ps) false at is go = let more : x ∷ p ≡ part = cc in
    subst Lacks more (All-cons (λ octet. ends_word octet ≡ false) x p at (go p ps refl))

-- what stands before the first space has none
first_lacks : (line part : List ℕ) (parts : List (List ℕ)) → slice_split ends_word line ≡ part ∷ parts → Lacks part
first_lacks [] part parts is = let none : [] ≡ part = cc in subst Lacks none (All-nil (λ octet. ends_word octet ≡ false))
first_lacks (x ∷ xs) part parts is = lacks_by x part parts (slice_split ends_word xs) (ends_word x) refl is (λ p ps so. first_lacks xs p ps so)

-- ---- the words of a line

abbrev parts_of : Line → List (List ℕ)
parts_of l = l.node ∷ l.time ∷ l.clock ∷ l.delay ∷ l.queue ∷ l.buffer ∷ []

abbrev AreParts : List (List ℕ) → Line → Type 0
AreParts parts words = (parts ≡ parts_of words) × (0 < length words.node)

filled_by : (l words : Line) (b : Bool) → has_empty l ≡ b → cond b (Err Words) (Ok l) ≡ Ok words → AreParts (parts_of l) words
filled_by l words true at is = absurd (cc)
filled_by l words false at is = let same : l ≡ words = cc in subst (AreParts (parts_of l)) same (refl, grind (arith, nat_tests, at))

six_by : (parts : List (List ℕ)) (words : Line) → six parts ≡ Ok words → AreParts parts words
six_by (a ∷ b ∷ c ∷ d ∷ e ∷ f ∷ []) words is = let l : Line = record { node = a; time = b; clock = c; delay = d; queue = e; buffer = f } in filled_by l words (has_empty l) refl is
six_by parts words is = absurd (cc)

-- ---- the sample of a line

abbrev sample_with : ℕ → ℕ → Option ℕ → Option ℕ → Option ℕ → Sample
sample_with time clock delay queue buffer = record { time = time; clock = clock; delay = delay; queue = queue; buffer = buffer }

module _ (s : Sample) where
  sample_by : (t c : Result ℕ ReadWhy) (d q b : Result (Option ℕ) ReadWhy)
      → t ▷ (λ time. c ▷ (λ clock. d ▷ (λ delay. q ▷ (λ queue. b ▷ (λ buffer. Ok (sample_with time clock delay queue buffer)))))) ≡ Ok s
      → (t ≡ Ok s.time) × (c ≡ Ok s.clock) × (d ≡ Ok s.delay) × (q ≡ Ok s.queue) × (b ≡ Ok s.buffer)
  sample_by (Ok t) (Ok c) (Ok d) (Ok q) (Ok b) is = let same : sample_with t c d q b ≡ s = cc in
      (ap (λ (x : Sample). Ok x.time) same, ap (λ (x : Sample). Ok x.clock) same, ap (λ (x : Sample). Ok x.delay) same, ap (λ (x : Sample). Ok x.queue) same, ap (λ (x : Sample). Ok x.buffer) same)
  sample_by (Err why) c d q b is = absurd (cc)
  sample_by (Ok t) (Err why) d q b is = absurd (cc)
  sample_by (Ok t) (Ok c) (Err why) q b is = absurd (cc)
  sample_by (Ok t) (Ok c) (Ok d) (Err why) b is = absurd (cc)
  sample_by (Ok t) (Ok c) (Ok d) (Ok q) (Err why) is = absurd (cc)

abbrev pair_of : ℕ → Sample → ℕ × Sample
pair_of node sample = (node, sample)

abbrev said_of : ℕ → Sample → Result (ℕ × Sample) ReadWhy
said_of node sample = Ok (pair_of node sample)

pair_by : (node : ℕ) (sample : Sample) (n : Result ℕ ReadWhy) (s : Result Sample ReadWhy) → n ▷ (λ node. s ▷ said_of node) ≡ Ok (node, sample)
    → (n ≡ Ok node) × (s ≡ Ok sample)
pair_by node sample (Ok n) (Ok s) is = let same : pair_of n s ≡ pair_of node sample = cc in
    (ap (λ (p : ℕ × Sample). Ok p.0) same, ap (λ (p : ℕ × Sample). Ok p.1) same)
pair_by node sample (Err why) s is = absurd (cc)
pair_by node sample (Ok n) (Err why) is = absurd (cc)

module _ (names : List (List ℕ)) (line : List ℕ) (node : ℕ) (sample : Sample) where
  by_words : (words : Line) → words_of line ≡ Ok words → node_of names words.node ≡ Ok node → sample_of words ≡ Ok sample → SpellsLine names line node sample
  by_words words at named reads =
      let parts = six_by (slice_split ends_word line) words at in
      let each = sample_by sample (number (2 ^ 63) words.time) (number (2 ^ 63) words.clock) (maybe (2 ^ 63) words.delay) (maybe (2 ^ 32) words.queue) (maybe (2 ^ 32) words.buffer) reads in
      let time = (number_read (2 ^ 63) words.time (number (2 ^ 63) words.time) (omega arith) refl sample.time).0 each.0 in
      let clock = (number_read (2 ^ 63) words.clock (number (2 ^ 63) words.clock) (omega arith) refl sample.clock).0 each.1 in
      let delay = maybe_is (2 ^ 63) words.delay sample.delay (omega arith) each.2 in
      let queue = maybe_is (2 ^ 32) words.queue sample.queue (omega arith) each.3 in
      let buffer = maybe_is (2 ^ 32) words.buffer sample.buffer (omega arith) each.4 in
      let same : parts_of words ≡ words.node ∷ decimal sample.time ∷ decimal sample.clock ∷ maybe_word sample.delay ∷ maybe_word sample.queue ∷ maybe_word sample.buffer ∷ [] = cc in
      record {
        name = words.node;
        word = (parts.1, first_lacks line words.node (words.time ∷ words.clock ∷ words.delay ∷ words.queue ∷ words.buffer ∷ []) parts.0);
        named = named;
        small = record { time = time.0; clock = clock.0; delay = delay.0 };
        queue_small = queue.0;
        buffer_small = buffer.0;
        joins = sym (join_with_byte-slice_split 32 line) ∙ ap (join_with_byte 32) (parts.0 ∙ same);
      }

  says_by : (w : Result Line ReadWhy) → words_of line ≡ w → w ▷ (λ words. node_of names words.node ▷ (λ node. sample_of words ▷ said_of node)) ≡ Ok (node, sample)
      → SpellsLine names line node sample
  says_by (Ok words) at is = let both = pair_by node sample (node_of names words.node) (sample_of words) is in by_words words at both.0 both.1
  says_by (Err why) at is = absurd (cc)

  spelled_says : SpellsLine names line node sample → line_says names line ≡ Ok (node, sample)
  spelled_says h =
      let words : Line = record { node = h.name; time = decimal sample.time; clock = decimal sample.clock; delay = maybe_word sample.delay; queue = maybe_word sample.queue; buffer = maybe_word sample.buffer } in
      let time = digits_word sample.time (omega (arith, h.small.time)) in
      let clock = digits_word sample.clock (omega (arith, h.small.clock)) in
      let delay = maybe_is_word (2 ^ 63) sample.delay (omega arith) h.small.delay in
      let queue = maybe_is_word (2 ^ 32) sample.queue (omega arith) h.queue_small in
      let buffer = maybe_is_word (2 ^ 32) sample.buffer (omega arith) h.buffer_small in
      let split : slice_split ends_word line ≡ parts_of words = ap (slice_split ends_word) h.joins
      ∙ split_join h.name (words.time ∷ words.clock ∷ words.delay ∷ words.queue ∷ words.buffer ∷ []) (h.word, (time, (clock, (delay, (queue, (buffer, tt)))))) in
      let filled : has_empty words ≡ false = grind (arith, nat_tests, h.word.0, time.0, clock.0, delay.0, queue.0, buffer.0) in
      let at : words_of line ≡ Ok words = ap six split ∙ ap (λ b. cond b (Err Words) (Ok words)) filled in
      let reads : sample_of words ≡ Ok sample = rw (
        number_reads (2 ^ 63) sample.time (omega arith) h.small.time,
        number_reads (2 ^ 63) sample.clock (omega arith) h.small.clock,
        maybe_reads (2 ^ 63) sample.delay (omega arith) h.small.delay,
        maybe_reads (2 ^ 32) sample.queue (omega arith) h.queue_small,
        maybe_reads (2 ^ 32) sample.buffer (omega arith) h.buffer_small,
      ) refl in
      rw (at, h.named, reads) refl

-- a line says a sample of a node exactly where it is written as one
pub line_iff : (names : List (List ℕ)) (line : List ℕ) (node : ℕ) (sample : Sample) → (line_says names line ≡ Ok (node, sample)) ↔ SpellsLine names line node sample
line_iff names line node sample = (λ is. says_by names line node sample (words_of line) refl is, λ h. spelled_says names line node sample h)
