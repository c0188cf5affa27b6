-- Words with a space before each, without the first space, have one space between each two.
use Rattle.std.proofs.Common.{◌≡◌, ℕ, zero, suc, ◌/◌, List, [], ◌∷◌, ◌++◌, length, take, drop, codes, Option, Some, None, append_assoc, refl, sym, ap, ◌∙◌}
use Rattle.std.specs.List.{flat_map, join_with_byte}
use Rattle.std.proofs.lemmas.List.{append-nil}
use Rattle.std.proofs.lemmas.List.Concat.{flat_map-append}
use Rattle.ioam_data.specs.Fields.{Held, fields_of}
use Rattle.ioam_line.specs.Digits.{digits_of}
use Rattle.ioam_report_lines.specs.FieldsText.{word_of, bit_words, filler_words, snapshot_words, element_words, element_text}
use Rattle.ioam_report_lines.specs.Spaced.{when_there, bits_text, fillers_text, snapshot_text, spaced_fields}

-- a space in front of each word
abbrev spaced : List (List ℕ) → List ℕ
spaced words = flat_map (λ word. 32 ∷ word) words

-- without the first space
pub join-spaced : (words : List (List ℕ)) → join_with_byte 32 words ≡ drop 1 (spaced words)
join-spaced [] = refl
join-spaced (x ∷ []) = sym (append-nil x)
join-spaced (x ∷ y ∷ xs) = ap (λ ys. x ++ (32 ∷ ys)) (join-spaced (y ∷ xs))

word_spaced : {T : Type 0} (field : Option T) (text : T → List ℕ) → spaced (word_of field text) ≡ when_there field (λ value. 32 ∷ text value)
word_spaced None text = refl
word_spaced (Some value) text = append-nil (32 ∷ text value)

-- a word is in front
word_more : {T : Type 0} (words : List (List ℕ)) (field : Option T) (text : T → List ℕ) (so_far : List ℕ) → spaced words ≡ so_far
    → spaced (words ++ word_of field text) ≡ so_far ++ when_there field (λ value. 32 ∷ text value)
word_more words field text so_far is =
    flat_map-append (λ word. 32 ∷ word) words (word_of field text)
    ∙ ap (λ xs. xs ++ spaced (word_of field text)) is
    ∙ ap (λ xs. so_far ++ xs) (word_spaced field text)

bits_spaced : (held : Held) → spaced (bit_words held) ≡ bits_text held
unfolding bit_words bits_text
bits_spaced held = word_more _ held.buffer _ _ (word_more _ held.wide _ _ (word_more _ held.wide_faces _ _ (word_more _ held.wide_faces _ _
    (word_more _ held.wide_hop_node _ _ (word_more _ held.wide_hop_node _ _ (word_more _ held.check _ _ (word_more _ held.queue _ _
    (word_more _ held.short _ _ (word_more _ held.delay _ _ (word_more _ held.fraction _ _ (word_more _ held.seconds _ _
    (word_more _ held.faces _ _ (word_more _ held.faces _ _ (word_more _ held.hop_node _ _ (word_spaced held.hop_node _)))))))))))))))
    ∙ simp (append_assoc, append-nil)

fillers_spaced : (amount : ℕ) (octets : List ℕ) → spaced (filler_words amount octets) ≡ fillers_text amount octets
fillers_spaced zero octets = refl
fillers_spaced (suc amount) octets = ap (λ xs. codes " fill=" ++ digits_of (take 4 octets) ++ xs) (fillers_spaced amount (drop 4 octets))

snapshot_spaced : (snapshot : Option (ℕ × List ℕ)) → spaced (snapshot_words snapshot) ≡ snapshot_text snapshot
snapshot_spaced None = refl
snapshot_spaced (Some value) = refl

-- the words of an element
pub element_words-spaced : (held : Held) → spaced (element_words held) ≡ spaced_fields held
unfolding element_words spaced_fields
element_words-spaced held =
    let bits = bit_words held in
    let fillers = filler_words (length held.filler / 4) held.filler in
    flat_map-append (λ word. 32 ∷ word) (bits ++ fillers) (snapshot_words held.snapshot)
    ∙ ap (λ xs. xs ++ spaced (snapshot_words held.snapshot)) (flat_map-append (λ word. 32 ∷ word) bits fillers)
    ∙ ap (λ xs. xs ++ spaced fillers ++ spaced (snapshot_words held.snapshot)) (bits_spaced held)
    ∙ ap (λ xs. bits_text held ++ xs ++ spaced (snapshot_words held.snapshot)) (fillers_spaced (length held.filler / 4) held.filler)
    ∙ ap (λ xs. bits_text held ++ fillers_text (length held.filler / 4) held.filler ++ xs) (snapshot_spaced held.snapshot)

-- the text of an element that isn't empty
pub element_text_is : (kind node_len : ℕ) (octets : List ℕ) → (octets ≡ [] → ⊥)
    → element_text kind node_len octets ≡ drop 1 (spaced_fields (fields_of kind node_len octets))
element_text_is kind node_len [] some = absurd (some refl)
element_text_is kind node_len (octet ∷ octets) some =
    join-spaced (element_words (fields_of kind node_len (octet ∷ octets)))
    ∙ ap (drop 1) (element_words-spaced (fields_of kind node_len (octet ∷ octets)))
