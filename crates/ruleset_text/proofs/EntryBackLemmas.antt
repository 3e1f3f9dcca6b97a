-- The canonical text of an entry or of a range has its words, so it is read back.
use Rattle.std.proofs.Common.{◌≡◌, ℕ, ◌<◌, Bool, true, false, List, [], ◌∷◌, ◌++◌, length, Option, Some, None, refl, sym, ap, subst, ◌∙◌, append_assoc, append-nil}
use Rattle.std.specs.Prelude.{IsTrue}
use Rattle.std.specs.List.{AllByRecursion}
use Rattle.idn_text.specs.Points.{is_scalar_value, point_of_hex}
use Rattle.ruleset_text.specs.declared.named_condition.NamedCondition.{NamedCondition}
use Rattle.label_patterns.specs.declared.condition.ConditionKind.{ConditionKind}
use Rattle.label_patterns.specs.declared.condition.ConditionKind.TheVariants as condition
use Rattle.ruleset_text.specs.Canonical.{point_text}
use Rattle.ruleset_text.specs.Entries.{Mapped}
use Rattle.ruleset_text.specs.EntryText.{mark_text, sequence_text, last_text, type_text, mapped_text, variants_text, entry_text, IsSequence, MayHaveType, IsMapped, IsForm}
use Rattle.ruleset_text.specs.NamedConditions.{HasRule, condition_text, condition_word}
use Rattle.ruleset_text.specs.EntryWords as words
use Rattle.ruleset_text.specs.EntryWords.{Word, IsWord, AreWords, point_of, mark_words, sequence_words, last_words, type_words, kind_word, condition_words, mapped_words, variants_words, entry_words}
use Rattle.ruleset_text.specs.EntrySteps.{entry_in}
use Rattle.ruleset_text.specs.Lexemes.{is_word_byte, begins_in_word, lexemes}
use Rattle.ruleset_text.specs.Names.{is_name}
use Rattle.ruleset_text.proofs.EntryReadLemmas.{words_read}
use Rattle.ruleset_text.proofs.HexLemmas.{hex_facts, point_of_hex-text}
use Rattle.ruleset_text.proofs.NameWordLemmas.{name_word}
use Rattle.ruleset_text.proofs.PointLemmas.{point_word, without_prefix-hex}
use Rattle.ruleset_text.proofs.SpanBackLemmas.{word_first, no_stops, stops_go}

-- the text has these words before those of what follows, where that goes on with no word of it
abbrev Has : List ℕ → List Word → Type 0
Has text xs = (others : List Word) (rest : List ℕ) → begins_in_word rest ≡ false → AreWords others (lexemes rest) → AreWords (xs ++ others) (lexemes (text ++ rest))

one_word : (x : Word) (w : List ℕ) → 0 < length w → AllByRecursion (λ c. IsTrue (is_word_byte c)) w → IsWord x w → Has w (x ∷ [])
one_word x w some word is others rest e are = subst (AreWords (x ∷ others)) (sym (word_first w rest some word e)) (is, are)

-- ---- code points

point_read : (c : ℕ) → is_scalar_value c ≡ true → point_of (point_text c) ≡ Some c
point_read c s = let read = point_of_hex-text c s in ap point_of_hex (without_prefix-hex (point_text c) c (hex_facts (point_text c) c read)) ∙ read

one_point : (c : ℕ) → is_scalar_value c ≡ true → Has (point_text c) (words.Point c ∷ [])
one_point c scalar = let w = point_word [] c scalar in one_word (words.Point c) (point_text c) w.0 w.1 (point_read c scalar)

sequence_has : (points : List ℕ) (c : ℕ) → AllByRecursion (λ d. IsTrue (is_scalar_value d)) (c ∷ points) → Has (sequence_text (c ∷ points)) (sequence_words (c ∷ points))
sequence_has [] c scalars others rest e are = one_point c scalars.0 others rest e are
sequence_has (d ∷ points) c scalars others rest e are =
    let further = sequence_words (d ∷ points) ++ others in
    let text = sequence_text (d ∷ points) ++ rest in
    let hyphen : AreWords (words.Hyphen ∷ further) (lexemes (45 ∷ text)) = (refl, sequence_has points d scalars.1 others rest e are) in
    subst (λ l. AreWords (words.Point c ∷ words.Hyphen ∷ further) (lexemes l)) (sym (append_assoc (point_text c) (45 ∷ sequence_text (d ∷ points)) rest))
    (one_point c scalars.0 (words.Hyphen ∷ further) (45 ∷ text) refl hyphen)

-- the last code point of a range is a scalar value
abbrev HasLast : Option ℕ → Type 0
HasLast None = Unit {0}
HasLast (Some c) = IsTrue (is_scalar_value c)

last_has : (last : Option ℕ) → HasLast last → Has (last_text last) (last_words last)
last_has None scalar others rest e are = are
last_has (Some c) scalar others rest e are =
    let w = point_word [] c scalar in
    subst (AreWords (words.Range ∷ words.Point c ∷ others)) (sym (stops_go (point_text c ++ rest) (no_stops (point_text c) rest w.0 w.1))) (refl, one_point c scalar others rest e are)

-- ---- names

one_type : (name : List ℕ) → is_name name ≡ true → Has name (words.TypeName name ∷ [])
one_type name is = let word = name_word name is in one_word (words.TypeName name) name word.some word.word refl

one_rule : (name : List ℕ) → is_name name ≡ true → Has name (words.Rule name ∷ [])
one_rule name is = let word = name_word name is in one_word (words.Rule name) name word.some word.word refl

type_has : (marked : Bool) (type_name : Option (List ℕ)) → MayHaveType marked type_name → Has (type_text type_name) (type_words type_name)
type_has marked None may others rest e are = are
type_has marked (Some name) may others rest e are = (refl, one_type name may.1 others rest e are)

condition_has : (condition : Option NamedCondition) → HasRule condition → Has (condition_text condition) (condition_words condition)
condition_has None has others rest e are = are
condition_has (Some c) has others rest e are = by_kind c.kind
  where
    rule : AreWords (words.Rule c.rule ∷ others) (lexemes (c.rule ++ rest))
    rule = one_rule c.rule has others rest e are

    by_kind : (kind : ConditionKind) → AreWords (kind_word kind ∷ words.Rule c.rule ∷ others) (lexemes ((condition_word kind ++ c.rule) ++ rest))
    by_kind condition.When = (refl, rule)
    by_kind condition.Unless = (refl, rule)

-- ---- a source or a variant

mark_has : (marked : Bool) (others : List Word) (rest : List ℕ) → AreWords others (lexemes rest) → AreWords (mark_words marked ++ others) (lexemes (mark_text marked ++ rest))
mark_has true others rest are = (refl, are)
mark_has false others rest are = are

condition_begins : (condition : Option NamedCondition) (rest : List ℕ) → begins_in_word rest ≡ false → begins_in_word (condition_text condition ++ rest) ≡ false
condition_begins None rest e = e
condition_begins (Some c) rest e = by_kind c.kind
  where
    by_kind : (kind : ConditionKind) → begins_in_word (condition_word kind ++ c.rule ++ rest) ≡ false
    by_kind condition.When = refl
    by_kind condition.Unless = refl

type_begins : (type_name : Option (List ℕ)) (text : List ℕ) → begins_in_word text ≡ false → begins_in_word (type_text type_name ++ text) ≡ false
type_begins None text e = e
type_begins (Some name) text e = refl

last_begins : (last : Option ℕ) (text : List ℕ) → begins_in_word text ≡ false → begins_in_word (last_text last ++ text) ≡ false
last_begins None text e = e
last_begins (Some c) text e = refl

regroup : {A : Type 0} (a b c d e rest : List A) → (a ++ (b ++ (c ++ (d ++ e)))) ++ rest ≡ a ++ (b ++ (c ++ (d ++ (e ++ rest))))
regroup a b c d e rest = simp append_assoc

sequence_of : (points : List ℕ) → IsSequence points → Has (sequence_text points) (sequence_words points)
sequence_of [] none = absurd none
sequence_of (c ∷ points) scalars = sequence_has points c scalars

mapped_has : (m : Mapped) (last : Option ℕ) → IsMapped m → HasLast last → Has (mapped_text m last) (mapped_words m last)
mapped_has m last is scalar others rest e are =
    let from_condition = condition_has m.condition is.condition others rest e are in
    let b3 = condition_begins m.condition rest e in
    let words3 : List Word = condition_words m.condition ++ others in
    let text3 : List ℕ = condition_text m.condition ++ rest in
    let from_type = type_has m.marked m.type_name is.type_name words3 text3 b3 from_condition in
    let b2 = type_begins m.type_name text3 b3 in
    let words2 : List Word = type_words m.type_name ++ words3 in
    let text2 : List ℕ = type_text m.type_name ++ text3 in
    let from_last = last_has last scalar words2 text2 b2 from_type in
    let b1 = last_begins last text2 b2 in
    let words1 : List Word = last_words last ++ words2 in
    let text1 : List ℕ = last_text last ++ text2 in
    let from_points = sequence_of m.points is.sequence words1 text1 b1 from_last in
    let all = mark_has m.marked (sequence_words m.points ++ words1) (sequence_text m.points ++ text1) from_points in
    let same_words = regroup (mark_words m.marked) (sequence_words m.points) (last_words last) (type_words m.type_name) (condition_words m.condition) others in
    let same_text = regroup (mark_text m.marked) (sequence_text m.points) (last_text last) (type_text m.type_name) (condition_text m.condition) rest in
    subst (λ l. AreWords (mapped_words m last ++ others) (lexemes l)) (sym same_text)
    (subst (λ l. AreWords l (lexemes (mark_text m.marked ++ (sequence_text m.points ++ text1)))) (sym same_words) all)

-- ---- the source and its variants

last_mapped : (m : Mapped) (last : Option ℕ) → IsMapped m → HasLast last → AreWords (mapped_words m last) (lexemes (mapped_text m last))
last_mapped m last is scalar =
    subst (λ l. AreWords (mapped_words m last) (lexemes l)) (append-nil (mapped_text m last))
    (subst (λ l. AreWords l (lexemes (mapped_text m last ++ []))) (append-nil (mapped_words m last)) (mapped_has m last is scalar [] [] refl tt))

variants_have : (variants : List Mapped) (m : Mapped) → AllByRecursion IsMapped (m ∷ variants) → AreWords (variants_words (m ∷ variants)) (lexemes (variants_text (m ∷ variants)))
variants_have [] m are = last_mapped m None are.0 tt
variants_have (n ∷ variants) m are =
    mapped_has m None are.0 tt (words.Colon ∷ variants_words (n ∷ variants)) (58 ∷ variants_text (n ∷ variants)) refl (refl, variants_have variants n are.1)

-- the lexemes of the canonical text are the words of the entry or the range
pub canonical_entry : (mapped : List Mapped) (last : Option ℕ) → IsForm mapped last → AreWords (entry_words mapped last) (lexemes (entry_text mapped last))
canonical_entry [] last is = absurd is
canonical_entry (m ∷ []) None is = last_mapped m None is.0 tt
canonical_entry (m ∷ n ∷ variants) None is =
    mapped_has m None is.0 tt (words.Bar ∷ variants_words (n ∷ variants)) (124 ∷ variants_text (n ∷ variants)) refl (refl, variants_have variants n is.1)
canonical_entry (m ∷ []) (Some c) is = last_mapped m (Some c) is.0 is.1
canonical_entry (m ∷ n ∷ mapped) (Some c) is = absurd is

-- the canonical text of an entry or of a range is read as it
pub form_back : (mapped : List Mapped) (last : Option ℕ) → IsForm mapped last → entry_in (lexemes (entry_text mapped last)) ≡ Some (record { mapped = mapped; last = last })
form_back mapped last is = words_read (record { mapped = mapped; last = last }) (lexemes (entry_text mapped last)) is (canonical_entry mapped last is)
