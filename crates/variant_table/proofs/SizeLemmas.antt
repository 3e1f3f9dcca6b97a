-- In version 1 canonical text is never longer than what was read.
use Rattle.std.proofs.Common.{◌≡◌, inl, inr, ℕ, ◌+◌, ◌/◌, ◌%◌, ◌-◌, ◌<◌, ◌≤◌, Bool, true, false, ◌||◌, ◌&&◌, cond, eqb, List, [], ◌∷◌, ◌++◌, map, length, take, refl, sym, ap, subst, ◌∙◌, arith, length-append, length-take}
use Rattle.std.specs.Prelude.{nat_lt, slice_index, Option, Some, None}
use Rattle.std.specs.Char.{digit_value}
use Rattle.std.specs.List.{AllByRecursion, flat_map, list_all, onto_first}
use Rattle.idn_text.specs.Lines.{raw_lines, joined_lines, with_last_feed}
use Rattle.std.specs.Str.Lines.{strip_carriage_return}
use Rattle.std.specs.Str.Parse.{digits_value}
use Rattle.std.proofs.lemmas.Bool.{ltb-true, lt-ltb, and_parts}
use Rattle.std.proofs.lemmas.List.{append-nil}
use Rattle.std.proofs.lemmas.List.Concat.{flat_map-append}
use Rattle.std.proofs.lemmas.List.Sums.{sum_by-cons}
use Rattle.idn_text.proofs.LawLemmas.{joined-raw_lines}
use Rattle.idn_text.specs.Points.{is_hex_digit, point_of_hex, four_digits, hex_digit}
use Rattle.ruleset_text.specs.Canonical.{point_text}
use Rattle.ruleset_text.specs.Definitions.{Definitions}
use Rattle.ruleset_text.specs.Entries.{Mapped}
use Rattle.ruleset_text.specs.EntryText.{mark_text, sequence_text, mapped_text, variants_text, entry_text, IsForm}
use Rattle.ruleset_text.specs.EntryWords.{Word, Point, TypeName, Rule, Mark, Hyphen, Bar, Colon, Range, As, When, Unless, IsWord, AreWords, point_of, mark_words, sequence_words, mapped_words, variants_words, entry_words}
use Rattle.ruleset_text.specs.Lexemes.{is_blank, is_joined, lexemes}
use Rattle.ruleset_text.proofs.HexLemmas.{IsHex, hex_facts, length-point_text}
use Rattle.variant_table.specs.declared.version.Notation.{Notation}
use Rattle.variant_table.specs.declared.version.Version.{Version}
use Rattle.variant_table.specs.declared.version.Version.TheVariants.{One, Two, Three}
use Rattle.variant_table.specs.DefinitionLines.{keyword_in, Defines}
use Rattle.variant_table.specs.Entries.{Entry, TableValue, empty_table}
use Rattle.variant_table.proofs.VersionLemmas.{is_plain, is_bare, is_form, form_parts}
use Rattle.variant_table.specs.Forms.{source_mark, variant_mark, written_to, entry_of, SpellsEntries, is_name_of, normal_by, normal}
use Rattle.variant_table.specs.Canonical.{canonical_line, canonical_text, table_text}
use Rattle.variant_table.specs.Versions.{size_of, body_of, is_version_line}
use Rattle.variant_table.specs.Texts.{LineSpells, LineAdds, LinesSpell}
use Rattle.variant_table.specs.WellFormed.{AreOfVersion}
use Rattle.variant_table.proofs.ConditionLemmas.{plain_is, bare_plain, plain_known, IsKnown, known_form, text_back}
use Rattle.variant_table.proofs.FormLemmas.{none, some, spelling_of}

-- ---- a point

below_16 : (c : ℕ) → is_hex_digit c ≡ true → digit_value c < 16
below_16 c h = ltb-true (digit_value c) 16 h

four_below : (a b d e a' b' d' e' : ℕ) → digit_value a ≡ a' → digit_value b ≡ b' → digit_value d ≡ d' → digit_value e ≡ e' → a' < 16 → b' < 16 → d' < 16 → e' < 16 → digits_value 16 (a ∷ b ∷ d ∷ e ∷ []) < 65536
four_below a b d e a' b' d' e' p q r s i j k l = omega (arith, p, q, r, s, i, j, k, l)

five_below : (z a b d e z' a' b' d' e' : ℕ) → digit_value z ≡ z' → digit_value a ≡ a' → digit_value b ≡ b' → digit_value d ≡ d' → digit_value e ≡ e' → z' < 16 → a' < 16 → b' < 16 → d' < 16 → e' < 16 → digits_value 16 (z ∷ a ∷ b ∷ d ∷ e ∷ []) < 1048576
five_below z a b d e z' a' b' d' e' o p q r s h i j k l = omega (arith, o, p, q, r, s, h, i, j, k, l)

four_long : (c : ℕ) → c < 65536 → length (point_text c) ≤ 4
unfolding point_text
four_long c l = subst (λ b. length (cond b (four_digits c) (cond (nat_lt c 1048576) (hex_digit (c / 65536 % 16) ∷ four_digits c) (hex_digit (c / 1048576 % 16) ∷ hex_digit (c / 65536 % 16) ∷ four_digits c))) ≤ 4) (sym (lt-ltb c 65536 l)) (omega arith)

five_long : (c : ℕ) → c < 1048576 → length (point_text c) ≤ 5
unfolding point_text
five_long c l = subst (λ b. length (cond (nat_lt c 65536) (four_digits c) (cond b (hex_digit (c / 65536 % 16) ∷ four_digits c) (hex_digit (c / 1048576 % 16) ∷ hex_digit (c / 65536 % 16) ∷ four_digits c))) ≤ 5) (sym (lt-ltb c 1048576 l)) (by_cases (nat_lt c 65536))
  where
    by_cases : (b : Bool) → length (cond b (four_digits c) (hex_digit (c / 65536 % 16) ∷ four_digits c)) ≤ 5
    by_cases true = omega arith
    by_cases false = omega arith

digits_long : (digits : List ℕ) (c : ℕ) → IsHex digits c → length (point_text c) ≤ length digits
digits_long [] c h = absurd (let f = h.long in cc)
digits_long (x ∷ []) c h = absurd (let f = h.long in cc)
digits_long (x ∷ y ∷ []) c h = absurd (let f = h.long in cc)
digits_long (x ∷ y ∷ z ∷ []) c h = absurd (let f = h.long in cc)
digits_long (x ∷ y ∷ z ∷ w ∷ []) c h =
    let a = and_parts (is_hex_digit x) (list_all is_hex_digit (y ∷ z ∷ w ∷ [])) h.digit in
    let b = and_parts (is_hex_digit y) (list_all is_hex_digit (z ∷ w ∷ [])) a.1 in
    let d = and_parts (is_hex_digit z) (list_all is_hex_digit (w ∷ [])) b.1 in
    let e = and_parts (is_hex_digit w) (list_all is_hex_digit []) d.1 in
    let small : digits_value 16 (x ∷ y ∷ z ∷ w ∷ []) < 65536 = four_below x y z w (digit_value x) (digit_value y) (digit_value z) (digit_value w) refl refl refl refl (below_16 x a.0) (below_16 y b.0) (below_16 z d.0) (below_16 w e.0) in
    four_long c (subst (λ n. n < 65536) h.value small)
digits_long (v ∷ x ∷ y ∷ z ∷ w ∷ []) c h =
    let o = and_parts (is_hex_digit v) (list_all is_hex_digit (x ∷ y ∷ z ∷ w ∷ [])) h.digit in
    let a = and_parts (is_hex_digit x) (list_all is_hex_digit (y ∷ z ∷ w ∷ [])) o.1 in
    let b = and_parts (is_hex_digit y) (list_all is_hex_digit (z ∷ w ∷ [])) a.1 in
    let d = and_parts (is_hex_digit z) (list_all is_hex_digit (w ∷ [])) b.1 in
    let e = and_parts (is_hex_digit w) (list_all is_hex_digit []) d.1 in
    let small : digits_value 16 (v ∷ x ∷ y ∷ z ∷ w ∷ []) < 1048576 = five_below v x y z w (digit_value v) (digit_value x) (digit_value y) (digit_value z) (digit_value w) refl refl refl refl refl (below_16 v o.0) (below_16 x a.0) (below_16 y b.0) (below_16 z d.0) (below_16 w e.0) in
    five_long c (subst (λ n. n < 1048576) h.value small)
digits_long (u ∷ v ∷ x ∷ y ∷ z ∷ w ∷ more) c h = omega (arith, length-point_text c)

point_long : (c : ℕ) (lexeme : List ℕ) → point_of lexeme ≡ Some c → length (point_text c) ≤ length lexeme
point_long c [] e = digits_long [] c (hex_facts [] c e)
point_long c (x ∷ []) e = digits_long (x ∷ []) c (hex_facts (x ∷ []) c e)
point_long c (x ∷ y ∷ ds) e = by_cases ((eqb x 85 || eqb x 117) && eqb y 43) e
  where
    by_cases : (b : Bool) → point_of_hex (cond b ds (x ∷ y ∷ ds)) ≡ Some c → length (point_text c) ≤ length (x ∷ y ∷ ds)
    by_cases true h = omega (arith, digits_long ds c (hex_facts ds c h))
    by_cases false h = digits_long (x ∷ y ∷ ds) c (hex_facts (x ∷ y ∷ ds) c h)

-- ---- words and lexemes

total : List (List ℕ) → ℕ
total [] = 0
total (lexeme ∷ lexemes) = length lexeme + total lexemes

total_onto : (c : ℕ) (words : List (List ℕ)) → total (onto_first c words) ≡ 1 + total words
unfolding total
total_onto c [] = omega arith
total_onto c (word ∷ words) = omega arith

fit_step : (c : ℕ) (cs : List ℕ) (b j : Bool) → total (lexemes cs) ≤ length cs → total (cond b (lexemes cs) (cond j (onto_first c (lexemes cs)) ((c ∷ []) ∷ lexemes cs))) ≤ length (c ∷ cs)
unfolding total
fit_step c cs true j l = omega (arith, l)
fit_step c cs false true l = omega (arith, l, total_onto c (lexemes cs))
fit_step c cs false false l = omega (arith, l)

-- the lexemes of a line are parts of it
lexemes_fit : (line : List ℕ) → total (lexemes line) ≤ length line
unfolding total
lexemes_fit [] = omega arith
lexemes_fit (c ∷ cs) = fit_step c cs (is_blank c) (is_joined c cs) (lexemes_fit cs)

-- the text of a word of an entry without types and conditions
word_text : Word → List ℕ
word_text (Point c) = point_text c
word_text Hyphen = 45 ∷ []
word_text Bar = 124 ∷ []
word_text Colon = 58 ∷ []
word_text Mark = 33 ∷ []
word_text word = []

abbrev words_text : List Word → List ℕ
words_text words = flat_map word_text words

word_long : (word : Word) (lexeme : List ℕ) → IsWord word lexeme → length (word_text word) ≤ length lexeme
unfolding word_text
word_long (Point c) lexeme h = point_long c lexeme h
word_long Hyphen lexeme h = omega (arith, ap length h)
word_long Bar lexeme h = omega (arith, ap length h)
word_long Colon lexeme h = omega (arith, ap length h)
word_long Mark lexeme h = omega (arith, ap length h)
word_long (TypeName name) lexeme h = omega arith
word_long (Rule name) lexeme h = omega arith
word_long Range lexeme h = omega arith
word_long As lexeme h = omega arith
word_long When lexeme h = omega arith
word_long Unless lexeme h = omega arith

words_long : (words : List Word) (others : List (List ℕ)) → AreWords words others → length (words_text words) ≤ total others
unfolding total
words_long [] [] h = omega arith
words_long [] (lexeme ∷ others) h = absurd h
words_long (word ∷ words) [] h = absurd h
words_long (word ∷ words) (lexeme ∷ others) h = omega (arith, length-append (word_text word) (words_text words), word_long word lexeme h.0, words_long words others h.1)

sequence_words-text : (s : List ℕ) → words_text (sequence_words s) ≡ sequence_text s
unfolding word_text
sequence_words-text [] = refl
sequence_words-text (c ∷ []) = append-nil (point_text c)
sequence_words-text (c ∷ d ∷ s) = ap (λ t. point_text c ++ 45 ∷ t) (sequence_words-text (d ∷ s))

mark_words-text : (marked : Bool) → words_text (mark_words marked) ≡ mark_text marked
unfolding word_text
mark_words-text true = refl
mark_words-text false = refl

-- without a type by its name and without a condition
abbrev plain_form : Mapped → Mapped
plain_form m = record { marked = m.marked; points = m.points; type_name = None; condition = None }

plain_words-text : (m : Mapped) → words_text (mapped_words (plain_form m) None) ≡ mapped_text (plain_form m) None
plain_words-text m =
    flat_map-append word_text (mark_words m.marked) (sequence_words m.points ++ [])
    ∙ ap (λ t. t ++ words_text (sequence_words m.points ++ [])) (mark_words-text m.marked)
    ∙ ap (λ t. mark_text m.marked ++ t) (flat_map-append word_text (sequence_words m.points) [] ∙ ap (λ t. t ++ []) (sequence_words-text m.points))

variants_words-text : (m : Mapped) (ms : List Mapped) → words_text (variants_words (map plain_form (m ∷ ms))) ≡ variants_text (map plain_form (m ∷ ms))
unfolding word_text
variants_words-text m [] = plain_words-text m
variants_words-text m (n ∷ ms) =
    flat_map-append word_text (mapped_words (plain_form m) None) (Colon ∷ variants_words (map plain_form (n ∷ ms)))
    ∙ ap (λ t. t ++ 58 ∷ words_text (variants_words (map plain_form (n ∷ ms)))) (plain_words-text m)
    ∙ ap (λ t. mapped_text (plain_form m) None ++ 58 ∷ t) (variants_words-text n ms)

entry_words-text : (source : Mapped) (ms : List Mapped) → words_text (entry_words (map plain_form (source ∷ ms)) None) ≡ entry_text (map plain_form (source ∷ ms)) None
unfolding word_text
entry_words-text source [] = plain_words-text source
entry_words-text source (m ∷ ms) =
    flat_map-append word_text (mapped_words (plain_form source) None) (Bar ∷ variants_words (map plain_form (m ∷ ms)))
    ∙ ap (λ t. t ++ 124 ∷ words_text (variants_words (map plain_form (m ∷ ms)))) (plain_words-text source)
    ∙ ap (λ t. mapped_text (plain_form source) None ++ 124 ∷ t) (variants_words-text m ms)

-- ---- a line

pub length-stripped : (line : List ℕ) → (length (strip_carriage_return line) ≤ length line) × (length line ≤ length (strip_carriage_return line) + 1)
length-stripped line = by_cases (eqb (slice_index line (length line - 1)) 13)
  where
    by_cases : (b : Bool) → (length (cond b (take (length line - 1) line) line) ≤ length line) × (length line ≤ length (cond b (take (length line - 1) line) line) + 1)
    by_cases true = let count = length-take (length line - 1) line in (omega (arith, count), omega (arith, count))
    by_cases false = (omega arith, omega arith)

-- what is plain is its plain form
all_plain : (mapped : List Mapped) → list_all is_plain mapped ≡ true → map plain_form mapped ≡ mapped
all_plain [] h = refl
all_plain (m ∷ mapped) h =
    let p = and_parts (is_plain m) (list_all is_plain mapped) h in
    let q = plain_is m p.0 in
    ap (λ t. record { marked = m.marked; points = m.points; type_name = t; condition = None } ∷ map plain_form mapped) (sym q.0)
    ∙ ap (λ c. record { marked = m.marked; points = m.points; type_name = m.type_name; condition = c } ∷ map plain_form mapped) (sym q.1) ∙ ap (λ xs. m ∷ xs) (all_plain mapped p.1)

-- and is written as it stands
normal_plain : (mark : ℕ) (m : Mapped) → is_plain m ≡ true → normal_by mark m ≡ m
normal_plain mark m h = ap (λ n. cond (is_name_of mark n) (record m { marked = true; type_name = None }) m) (plain_is m h).0

normals_plain : (ms : List Mapped) → list_all is_plain ms ≡ true → map (normal_by variant_mark) ms ≡ ms
normals_plain [] h = refl
normals_plain (m ∷ ms) h =
    let p = and_parts (is_plain m) (list_all is_plain ms) h in
    ap (λ x. x ∷ map (normal_by variant_mark) ms) (normal_plain variant_mark m p.0) ∙ ap (λ xs. m ∷ xs) (normals_plain ms p.1)

normal-plain : (ms : List Mapped) → list_all is_plain ms ≡ true → normal ms ≡ ms
normal-plain [] h = refl
normal-plain (m ∷ ms) h =
    let p = and_parts (is_plain m) (list_all is_plain ms) h in
    ap (λ x. x ∷ map (normal_by variant_mark) ms) (normal_plain source_mark m p.0) ∙ ap (λ xs. m ∷ xs) (normals_plain ms p.1)

-- the canonical text of an entry that a line spells is no longer than the line
bare_long : (d : Definitions) (last : Option ℕ) (mapped : List Mapped) (line : List ℕ) → IsForm mapped last → AreWords (entry_words mapped last) (lexemes line) → is_form One (record { mapped = mapped; last = last }) ≡ true
    → length (canonical_text d (map (entry_of d) (written_to last mapped))) ≤ length line + 1
bare_long d (Some c) mapped line f w h = absurd (let p = (and_parts (list_all is_bare mapped) false h).1 in cc)
bare_long d None [] line f w h = absurd f
bare_long d None (m ∷ mapped) line f w h =
    let bare = bare_plain (m ∷ mapped) (and_parts (list_all is_bare (m ∷ mapped)) true h).0 in
    let plain = all_plain (m ∷ mapped) bare in
    let text : words_text (entry_words (m ∷ mapped) None) ≡ entry_text (m ∷ mapped) None =
    ap (λ ms. words_text (entry_words ms None)) (sym plain) ∙ entry_words-text m mapped ∙ ap (λ ms. entry_text ms None) plain in
    let known : AllByRecursion (IsKnown d) ((m ∷ mapped) ∷ []) = known_form d None (m ∷ mapped) f (plain_known d (m ∷ mapped) bare) in
    omega (
      arith,
      ap length text,
      ap length (text_back d ((m ∷ mapped) ∷ []) known),
      ap (λ ms. length ((entry_text ms None ++ 10 ∷ []) ++ [])) (normal-plain (m ∷ mapped) bare),
      words_long (entry_words (m ∷ mapped) None) (lexemes line) w,
      lexemes_fit line,
      length-append (entry_text (m ∷ mapped) None ++ 10 ∷ []) [],
      length-append (entry_text (m ∷ mapped) None) (10 ∷ []),
    )

-- in version 1 no line spells a range
spelled_long : (d : Definitions) (line : List ℕ) (entries : List Entry) → SpellsEntries One d (strip_carriage_return line) entries → length (canonical_text d entries) ≤ length line + 1
spelled_long d line entries h =
    omega (arith, ap (λ es. length (canonical_text d es)) h.3, bare_long d h.0.last h.0.mapped (strip_carriage_return line) h.1.0.0 h.1.0.1 (form_parts One h.0 ∙ h.1.1), (length-stripped line).0)

line_long : (d : Definitions) (line : List ℕ) (entries : List Entry) → LineSpells One d (strip_carriage_return line) entries → length (canonical_text d entries) ≤ length line + 1
line_long d line entries s = elim (spelling_of One d (strip_carriage_return line) entries s) [ none k is ↦ omega (arith, ap (λ es. length (canonical_text d es)) is) | some h ↦ spelled_long d line entries h ]

-- ---- a text

pub size_of-cons : (line : List ℕ) (lines : List (List ℕ)) → size_of (line ∷ lines) ≡ length line + 1 + size_of lines
size_of-cons line lines = sum_by-cons (λ line. length line + 1) line lines

-- in version 1 nothing is defined
no_definition : (t : TableValue) (line : List ℕ) (d : Definitions) → t.version ≡ One → Defines t line d → ⊥
no_definition t line d is (k, after, n, e) = by_version t.version is n
  where
    by_version : (v : Version) → v ≡ One → keyword_in v (lexemes line) ≡ Some (k, after) → ⊥
    by_version One is n = cc
    by_version Two is n = cc
    by_version Three is n = cc

-- and canonical text is at most as long as the lines that spelled it
line_longer : (line : List ℕ) (t u : TableValue) → t.version ≡ One → LineAdds t (strip_carriage_return line) u → length (canonical_text u.definitions u.entries) ≤ length (canonical_text t.definitions t.entries) + (length line + 1)
line_longer line t u one (inl (es, s, is)) =
    let d : Definitions = t.definitions in
    let cut : canonical_text d (t.entries ++ es) ≡ canonical_text d t.entries ++ canonical_text d es = flat_map-append (λ e. canonical_line d e ++ 10 ∷ []) t.entries es in
    omega (
      arith,
      ap (λ x. length (canonical_text x.definitions x.entries)) is,
      ap length cut,
      length-append (canonical_text d t.entries) (canonical_text d es),
      line_long d line es (subst (λ v. LineSpells v d (strip_carriage_return line) es) one s),
    )
line_longer line t u one (inr (d, s, is)) = absurd (no_definition t (strip_carriage_return line) d one s)

pub adds_version : (t u : TableValue) (line : List ℕ) → LineAdds t line u → u.version ≡ t.version
adds_version t u line (inl (es, s, is)) = ap (λ x. x.version) is
adds_version t u line (inr (d, s, is)) = ap (λ x. x.version) is

pub canonical_text_long : (lines : List (List ℕ)) (t u : TableValue) → t.version ≡ One → LinesSpell t lines u → length (canonical_text u.definitions u.entries) ≤ length (canonical_text t.definitions t.entries) + size_of lines
canonical_text_long [] t u one s = omega (arith, ap (λ x. length (canonical_text x.definitions x.entries)) s)
canonical_text_long (line ∷ lines) t u one (m, adds, rest) =
    omega (arith, line_longer line t m one adds, canonical_text_long lines m u (adds_version t m (strip_carriage_return line) adds ∙ one) rest, size_of-cons line lines)

-- its canonical text is that of its entries
pub length-one : (u : TableValue) → u.version ≡ One → AreOfVersion u.version u.definitions → length (table_text u.version u.definitions u.entries) ≡ length (canonical_text u.definitions u.entries)
length-one u is of = by_version u.version is of
  where
    by_version : (v : Version) → v ≡ One → AreOfVersion v u.definitions → length (table_text v u.definitions u.entries) ≡ length (canonical_text u.definitions u.entries)
    by_version One is of = ap (λ d. length (table_text One d u.entries)) of ∙ sym (ap (λ d. length (canonical_text d u.entries)) of)
    by_version Two is of = absurd cc
    by_version Three is of = absurd cc

table_text_long : (lines : List (List ℕ)) (u : TableValue) → u.version ≡ One → AreOfVersion u.version u.definitions → LinesSpell (empty_table u.definitions.properties u.version) lines u → length (table_text u.version u.definitions u.entries) ≤ size_of lines
table_text_long lines u one of s =
    omega (arith, length-one u one of, canonical_text_long lines (empty_table u.definitions.properties u.version) u one s)

body_shorter : (n : Notation) (lines : List (List ℕ)) → size_of (body_of n lines) ≤ size_of lines
body_shorter n [] = omega arith
body_shorter n (line ∷ lines) = by_cases (is_version_line n line)
  where
    by_cases : (b : Bool) → size_of (cond b lines (line ∷ lines)) ≤ size_of (line ∷ lines)
    by_cases true = omega (arith, size_of-cons line lines)
    by_cases false = omega arith

-- in version 1 canonical text is at most as long as the text that was read
pub never_longer : (n : Notation) (lines : List (List ℕ)) (u : TableValue) → u.version ≡ One → AreOfVersion u.version u.definitions → LinesSpell (empty_table u.definitions.properties u.version) (body_of n lines) u
    → length (table_text u.version u.definitions u.entries) ≤ size_of lines
never_longer n lines u one of s = omega (arith, table_text_long (body_of n lines) u one of s, body_shorter n lines)

-- the lines joined, with a line feed after each
length-joined_lines : (lines : List (List ℕ)) → size_of lines ≡ length (joined_lines lines)
length-joined_lines [] = refl
length-joined_lines (line ∷ lines) = omega (arith, size_of-cons line lines, length-joined_lines lines, length-append line (10 ∷ joined_lines lines))

-- the bytes of a text's lines are those of the text, with a line feed after a rest that has none
pub size_of-raw_lines : (text : List ℕ) → size_of (raw_lines text) ≡ length (with_last_feed text)
size_of-raw_lines text = length-joined_lines (raw_lines text) ∙ ap length (joined-raw_lines text)
