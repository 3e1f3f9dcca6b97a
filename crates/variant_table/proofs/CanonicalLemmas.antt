-- The canonical text of a well-formed table spells that table.
use Rattle.std.proofs.Common.{◌≡◌, ◌≢◌, ℕ, zero, suc, ◌+◌, ◌*◌, ◌-◌, ◌<◌, ◌≤◌, Bool, true, false, not, ◌&&◌, cond, eqb, Some, List, [], ◌∷◌, ◌++◌, length, map, get_or, take, inl, inr, Option, Result, Ok, Err, refl, sym, ap, subst, ◌∙◌, append_assoc, arith, length-append, eq-eqb}
use Rattle.std.specs.List.{AllByRecursion, list_all}
use Rattle.std.specs.Option.{option_map}
use Rattle.std.specs.Str.Lines.{strip_carriage_return}
use Rattle.std.specs.Prelude.{bytes_eq, nat_le, is_some, None}
use Rattle.std.proofs.lemmas.List.{append-nil}
use Rattle.std.proofs.lemmas.Bool.{leb-true, and_parts, false_from_ne_true}
use Rattle.std.proofs.lemmas.Slice.Eq.{bytes_eq-Decides}
use Rattle.std.proofs.lemmas.List.Elements.{All-from_recursion, recursion_from_All, All-weaker}
use Rattle.label_patterns.specs.declared.condition.Condition.{Condition}
use Rattle.label_patterns.specs.declared.condition.ConditionKind.{ConditionKind}
use Rattle.label_patterns.specs.declared.condition.ConditionKind.TheVariants.{When, Unless}
use Rattle.idn_text.specs.Lines.{raw_lines, HasNoFeed}
use Rattle.idn_text.proofs.NumberingLemmas.{raw_lines-then}
use Rattle.idn_text.specs.Points.{is_hex_digit}
use Rattle.ruleset_text.specs.declared.named_condition.NamedCondition.{NamedCondition}
use Rattle.ruleset_text.specs.declared.fault.DefinitionFault.{DefinitionFault}
use Rattle.ruleset_text.specs.declared.keyword.Keyword.{Keyword}
use Rattle.ruleset_text.specs.Canonical.{definition_text, point_text}
use Rattle.ruleset_text.specs.Definition.{Definition, keyword_of}
use Rattle.ruleset_text.specs.Definitions.{Definitions, type_name, type_names, all_definitions, and_then, canonical_lines, defined, definitions_text, lines_text, nothing_defined, with_keyword, with_lines, with_words}
use Rattle.ruleset_text.specs.Entries.{Mapped}
use Rattle.ruleset_text.specs.Lexemes.{lexemes}
use Rattle.ruleset_text.specs.Names.{is_letter, is_name_byte, is_name, AreNames}
use Rattle.ruleset_text.specs.WellFormed.{AreDefinitions, IsDefinition}
use Rattle.ruleset_text.proofs.DefinitionsBackLemmas.{definitions_back}
use Rattle.ruleset_text.proofs.DefinitionsTextLemmas.{definitions_text-length}
use Rattle.ruleset_text.proofs.LineBytes.{IsInLine, AreInLine, joined, lines_in_line, point_in_line, name_in_line}
use Rattle.ruleset_text.specs.EntryText.{mark_text, sequence_text, type_text, IsSequence, MayHaveType, IsMapped, IsForm}
use Rattle.ruleset_text.specs.NamedConditions.{condition_word, condition_text, HasRule}
use Rattle.ruleset_text.specs.EntryWords.{IsEntryLine}
use Rattle.ruleset_text.proofs.EntryBackLemmas.{form_back}
use Rattle.ruleset_text.proofs.EntryExactLemmas.{entry_spelled}
use Rattle.ruleset_text.proofs.HexLemmas.{hex_facts, point_of_hex-text}
use Rattle.variant_table.specs.declared.version.Version.{Version}
use Rattle.variant_table.specs.declared.version.Notation.{Notation}
use Rattle.variant_table.specs.declared.version.Notation.TheVariants.{Table, Ruleset}
use Rattle.variant_table.specs.declared.version.Version.TheVariants.{One, Two, Three}
use Rattle.variant_table.specs.DefinitionLines.{keyword_in, with_after}
use Rattle.variant_table.specs.Entries.{Variant, Entry, IsOfVersion, IsPlain, IsPlainOrBlocked, TableValue, empty_table, entry_from, source_of, table_of, whole, sequences_in, replacements}
use Rattle.variant_table.proofs.VersionLemmas.{is_plain, is_bare, is_form, form_parts}
use Rattle.variant_table.specs.Forms.{has_form, knows_rule, knows_type, knows_names, knows_all, numbered, named, source_mark, variant_mark, variant_by, sequences_of, is_type, unmarked_name, mapped_by, as_written}
use Rattle.variant_table.specs.Canonical.{canonical_line, canonical_text, version_line, head_text, table_text}
use Rattle.variant_table.specs.WellFormed.{AreOfVersion, IsSequence as IsTableSequence, IsEntry, HasItsRule, HasItsType, HasItsNames, IsNamed, IsTable}
use Rattle.variant_table.specs.Limits.{line_limit, text_limit}
use Rattle.variant_table.specs.Versions.{version_of, head_of, body_of, size_of, is_version_line, notation_of}
use Rattle.variant_table.specs.Texts.{LineSpells, LineAdds, LinesSpell, AreLinesOf, IsTextOf}
use Rattle.variant_table.proofs.ConditionLemmas.{AreScalars, sequences_scalar, sequences_filled}
use Rattle.variant_table.proofs.EntryLemmas.{same_variant}
use Rattle.variant_table.proofs.LengthLemmas.{pieces_size, length-piece, length-entry_text}
use Rattle.variant_table.proofs.NumberLemmas.{number_back, is_name-at, one_of-at, names-front, names-after, type_read}
use Rattle.variant_table.proofs.SizeLemmas.{size_of-cons}
use Rattle.variant_table.proofs.WritingLemmas.{further_text, sequence_text-is, length-sequence_text, piece_text, further_pieces, pieces_text, canonical_line-is}
use Rattle.idn_class.specs.declared.properties.Properties.{Properties}

-- ---- the form of an entry

scalar_sequence : (s : List ℕ) → 0 < length s → AreScalars s → IsSequence s
scalar_sequence [] l h = absurd (omega (arith, l))
scalar_sequence (c ∷ s) l h = h

module _ (d : Definitions) (are : AreDefinitions d) where
  types_named : AreNames (type_names d)
  types_named = names-front (type_names d) (d.set_names ++ d.rule_names) are.names

  rule_names : AreNames d.rule_names
  rule_names = names-after d.set_names d.rule_names (names-after (type_names d) (d.set_names ++ d.rule_names) are.names)

  may_have : (mark : ℕ) (type : Option ℕ) → HasItsType d type → MayHaveType (is_type mark type) (unmarked_name mark d type)
  may_have mark None h = tt
  may_have mark (Some n) h = by (eqb n mark)
    where
      by : (b : Bool) → MayHaveType b (cond b None (Some (type_name d n)))
      by true = tt
      by false = (refl, is_name-at (type_names d) n types_named h)

  has_rule : (c : Option Condition) → HasItsRule d c → HasRule (option_map (named d) c)
  has_rule None h = tt
  has_rule (Some c) h = is_name-at d.rule_names c.rule rule_names h

  mapped_form : (mark : ℕ) (v : Variant) → 0 < length v.sequence → AreScalars v.sequence → HasItsNames d v → IsMapped (mapped_by mark d v)
  mapped_form mark v l s h = record {
    sequence = scalar_sequence v.sequence l s;
    type_name = may_have mark v.type h.type;
    condition = has_rule v.condition h.condition;
  }

  forms : (variants : List Variant) → AllByRecursion (λ s. 0 < length s) (sequences_in variants) → AllByRecursion AreScalars (sequences_in variants) → AllByRecursion (HasItsNames d) variants → AllByRecursion IsMapped (map (mapped_by variant_mark d) variants)
  forms [] f h n = tt
  forms (v ∷ variants) f h n = (mapped_form variant_mark v f.0 h.0 n.0, forms variants f.1 h.1 n.1)

  entry_form : (e : Entry) → IsEntry e → IsNamed d e → IsForm (as_written d e) None
  entry_form e h n =
      let all = recursion_from_All IsTableSequence (replacements e) h.sequences in
      let filled = sequences_filled (replacements e) all in
      let scalar = sequences_scalar (replacements e) all in
      let named = recursion_from_All (HasItsNames d) (whole e) n in
      (mapped_form source_mark (source_of e) filled.0 scalar.0 named.0, forms e.variants filled.1 scalar.1 named.1)

  -- the canonical line of an entry spells it
  pub canonical_line_spells : (e : Entry) → IsEntry e → IsNamed d e → IsEntryLine (record { mapped = as_written d e; last = None }) (canonical_line d e)
  canonical_line_spells e h n = entry_spelled (record { mapped = as_written d e; last = None }) (canonical_line d e) (form_back (as_written d e) None (entry_form e h n))

  -- what is written is what is read

  rule_read : (c : Option Condition) → HasItsRule d c → option_map (numbered d) (option_map (named d) c) ≡ c
  rule_read None h = refl
  rule_read (Some c) h = ap (λ n. Some (record c { rule = n })) (number_back d.rule_names c.rule rule_names h)

  variant_read : (mark : ℕ) (v : Variant) → HasItsNames d v → variant_by mark d (mapped_by mark d v) ≡ v
  variant_read mark v h = same_variant (variant_by mark d (mapped_by mark d v)) v refl (type_read d mark v.type types_named h.type) (rule_read v.condition h.condition)

  variants_read : (variants : List Variant) → AllByRecursion (HasItsNames d) variants → map (variant_by variant_mark d) (map (mapped_by variant_mark d) variants) ≡ variants
  variants_read [] h = refl
  variants_read (v ∷ variants) h =
      ap (λ w. w ∷ map (variant_by variant_mark d) (map (mapped_by variant_mark d) variants)) (variant_read variant_mark v h.0) ∙ ap (λ vs. v ∷ vs) (variants_read variants h.1)

  entry_read : (e : Entry) → AllByRecursion (HasItsNames d) (whole e) → sequences_of d (as_written d e) ≡ whole e
  entry_read e h =
      ap (λ w. w ∷ map (variant_by variant_mark d) (map (mapped_by variant_mark d) e.variants)) (variant_read source_mark (source_of e) h.0) ∙ ap (λ vs. source_of e ∷ vs) (variants_read e.variants h.1)

  type_known : (mark : ℕ) (type : Option ℕ) → HasItsType d type → knows_type d (unmarked_name mark d type) ≡ true
  type_known mark None h = refl
  type_known mark (Some n) h = by (eqb n mark)
    where
      by : (b : Bool) → knows_type d (cond b None (Some (type_name d n))) ≡ true
      by true = refl
      by false = one_of-at (type_names d) n h

  rule_known : (c : Option Condition) → HasItsRule d c → knows_rule d (option_map (named d) c) ≡ true
  rule_known None h = refl
  rule_known (Some c) h = one_of-at d.rule_names c.rule h

  one_known : (mark : ℕ) (v : Variant) → HasItsNames d v → knows_names d (mapped_by mark d v) ≡ true
  one_known mark v h = ap (λ b. b && knows_rule d (option_map (named d) v.condition)) (type_known mark v.type h.type) ∙ rule_known v.condition h.condition

  variants_known : (variants : List Variant) → AllByRecursion (HasItsNames d) variants → knows_all d (map (mapped_by variant_mark d) variants) ≡ true
  variants_known [] h = refl
  variants_known (v ∷ variants) h = ap (λ b. b && knows_all d (map (mapped_by variant_mark d) variants)) (one_known variant_mark v h.0) ∙ variants_known variants h.1

  all_known : (e : Entry) → AllByRecursion (HasItsNames d) (whole e) → knows_all d (as_written d e) ≡ true
  all_known e h = ap (λ b. b && knows_all d (map (mapped_by variant_mark d) e.variants)) (one_known source_mark (source_of e) h.0) ∙ variants_known e.variants h.1

-- ---- its version

plain_mapped : (d : Definitions) (mark : ℕ) (v : Variant) → IsPlain v → is_plain (mapped_by mark d v) ≡ true
plain_mapped d mark v h =
    ap (λ t. not (is_some (unmarked_name mark d t)) && not (is_some (option_map (named d) v.condition))) h.0 ∙ ap (λ c. not (is_some (option_map (named d) c))) h.1

bare_mapped : (d : Definitions) (mark : ℕ) (v : Variant) → IsPlain v → is_bare (mapped_by mark d v) ≡ true
bare_mapped d mark v h = ap (λ b. b && not (is_type mark v.type)) (plain_mapped d mark v h) ∙ ap (λ t. not (is_type mark t)) h.0

all_bare : (d : Definitions) (variants : List Variant) → AllByRecursion IsPlain variants → list_all is_bare (map (mapped_by variant_mark d) variants) ≡ true
all_bare d [] h = refl
all_bare d (v ∷ variants) h = ap (λ b. b && list_all is_bare (map (mapped_by variant_mark d) variants)) (bare_mapped d variant_mark v h.0) ∙ all_bare d variants h.1

-- '!' stands for the type of what is blocked
no_name : (d : Definitions) (v : Variant) → IsPlainOrBlocked v → unmarked_name variant_mark d v.type ≡ None
no_name d v h = elim h.0 [ inl e ↦ ap (unmarked_name variant_mark d) e | inr e ↦ ap (unmarked_name variant_mark d) e ]

all_unnamed : (d : Definitions) (variants : List Variant) → AllByRecursion IsPlainOrBlocked variants → list_all is_plain (map (mapped_by variant_mark d) variants) ≡ true
all_unnamed d [] h = refl
all_unnamed d (v ∷ variants) h =
    ap (λ n. (not (is_some n) && not (is_some (option_map (named d) v.condition))) && list_all is_plain (map (mapped_by variant_mark d) variants)) (no_name d v h.0)
    ∙ ap (λ c. not (is_some (option_map (named d) c)) && list_all is_plain (map (mapped_by variant_mark d) variants)) h.0.1 ∙ all_unnamed d variants h.1

form_of_version : (v : Version) (d : Definitions) (e : Entry) → IsOfVersion v e → is_form v (record { mapped = as_written d e; last = None }) ≡ true
form_of_version One d e h =
    let all = recursion_from_All IsPlain (whole e) h in
    let others = list_all is_bare (map (mapped_by variant_mark d) e.variants) in
    ap (λ b. (b && others) && true) (bare_mapped d source_mark (source_of e) all.0) ∙ ap (λ b. b && true) (all_bare d e.variants all.1)
form_of_version Two d e h =
    let others = list_all is_plain (map (mapped_by variant_mark d) e.variants) in
    let unmarked = not (is_type source_mark e.type) in
    ap (λ b. (b && others) && unmarked) (plain_mapped d source_mark (source_of e) h.0) ∙ ap (λ b. b && unmarked) (all_unnamed d e.variants (recursion_from_All IsPlainOrBlocked e.variants h.1))
    ∙ ap (λ t. not (is_type source_mark t)) h.0.0
form_of_version Three d e h = refl

of_version : (v : Version) (d : Definitions) (e : Entry) → IsOfVersion v e → has_form v (record { mapped = as_written d e; last = None }) ≡ true
of_version v d e h = sym (form_parts v (record { mapped = as_written d e; last = None })) ∙ form_of_version v d e h

-- ---- the bytes of a line: no line feed, no carriage return

sequence_in_line : (s : List ℕ) → AreInLine (sequence_text s)
sequence_in_line [] = tt
sequence_in_line (c ∷ []) = point_in_line c
sequence_in_line (c ∷ d ∷ s) = joined (point_text c) (45 ∷ sequence_text (d ∷ s)) (point_in_line c) ((refl, refl), sequence_in_line (d ∷ s))

mark_in_line : (marked : Bool) → AreInLine (mark_text marked)
mark_in_line true = ((refl, refl), tt)
mark_in_line false = tt

type_in_line : (marked : Bool) (name : Option (List ℕ)) → MayHaveType marked name → AreInLine (type_text name)
type_in_line marked None h = tt
type_in_line marked (Some name) h = ((refl, refl), ((refl, refl), ((refl, refl), ((refl, refl), name_in_line name h.1))))

word_in_line : (kind : ConditionKind) → AreInLine (condition_word kind)
word_in_line When = ((refl, refl), ((refl, refl), ((refl, refl), ((refl, refl), ((refl, refl), ((refl, refl), tt))))))
word_in_line Unless = ((refl, refl), ((refl, refl), ((refl, refl), ((refl, refl), ((refl, refl), ((refl, refl), ((refl, refl), ((refl, refl), tt))))))))

condition_in_line : (c : Option NamedCondition) → HasRule c → AreInLine (condition_text c)
condition_in_line None h = tt
condition_in_line (Some c) h = joined (condition_word c.kind) c.rule (word_in_line c.kind) (name_in_line c.rule h)

piece_in_line : (m : Mapped) → IsMapped m → AreInLine (piece_text m)
piece_in_line m h =
    joined (mark_text m.marked) (sequence_text m.points ++ ([] ++ (type_text m.type_name ++ condition_text m.condition))) (mark_in_line m.marked)
    (joined (sequence_text m.points) ([] ++ (type_text m.type_name ++ condition_text m.condition)) (sequence_in_line m.points)
    (joined (type_text m.type_name) (condition_text m.condition) (type_in_line m.marked m.type_name h.type_name) (condition_in_line m.condition h.condition)))

further_in_line : (ms : List Mapped) → AllByRecursion IsMapped ms → AreInLine (further_pieces ms)
further_in_line [] h = tt
further_in_line (m ∷ ms) h = ((refl, refl), joined (piece_text m) (further_pieces ms) (piece_in_line m h.0) (further_in_line ms h.1))

pieces_in_line : (ms : List Mapped) → AllByRecursion IsMapped ms → AreInLine (pieces_text ms)
pieces_in_line [] h = tt
pieces_in_line (m ∷ ms) h = ((refl, refl), joined (piece_text m) (further_pieces ms) (piece_in_line m h.0) (further_in_line ms h.1))

line_in_line : (d : Definitions) (e : Entry) → AreDefinitions d → IsEntry e → IsNamed d e → AreInLine (canonical_line d e)
line_in_line d e are h n =
    let form : AllByRecursion IsMapped (as_written d e) = entry_form d are e h n in
    subst AreInLine (sym (canonical_line-is d e))
    (joined (piece_text (mapped_by source_mark d (source_of e))) (pieces_text (map (mapped_by variant_mark d) e.variants)) (piece_in_line (mapped_by source_mark d (source_of e)) form.0) (pieces_in_line (map (mapped_by variant_mark d) e.variants) form.1))

no_feed_line : (line : List ℕ) → AreInLine line → HasNoFeed line
no_feed_line line h = All-weaker IsInLine (λ b. b ≢ 10) (λ b other is. cc (eq-eqb b 10 is, other.0)) line (All-from_recursion IsInLine line h)

no_return : (line : List ℕ) (i : ℕ) → AreInLine line → eqb (get_or line i 0) 13 ≡ false
no_return [] i h = refl
no_return (c ∷ cs) zero h = h.0.1
no_return (c ∷ cs) (suc i) h = no_return cs i h.1

strip_nothing : (line : List ℕ) → AreInLine line → strip_carriage_return line ≡ line
strip_nothing line h = ap (λ b. cond b (take (length line - 1) line) line) (no_return line _ h)

-- ---- the length of a line

one_mark : (marked : Bool) → length (mark_text marked) ≤ 1
one_mark true = omega arith
one_mark false = omega arith

plain_piece : (d : Definitions) (mark : ℕ) (v : Variant) → IsTableSequence v.sequence → IsPlain v → length (piece_text (mapped_by mark d v)) ≤ 55
plain_piece d mark v s h =
    omega (
      arith,
      length-piece (mapped_by mark d v),
      length-sequence_text v.sequence (omega (arith, s.filled)) s.short,
      ap (λ t. length (mark_text (is_type mark t))) h.0,
      ap (λ t. length (type_text (unmarked_name mark d t) ++ condition_text (option_map (named d) v.condition))) h.0,
      ap (λ c. length (condition_text (option_map (named d) c))) h.1,
    )

plain_pieces : (d : Definitions) (variants : List Variant) → AllByRecursion IsTableSequence (sequences_in variants) → AllByRecursion IsPlain variants → pieces_size (map (mapped_by variant_mark d) variants) ≤ 56 * length variants
plain_pieces d [] s h = omega arith
plain_pieces d (v ∷ variants) s h = omega (arith, plain_piece d variant_mark v s.0 h.0, plain_pieces d variants s.1 h.1)

-- in version 1 a canonical line has at most 951 bytes
pub length-canonical_line : (d : Definitions) (e : Entry) → IsEntry e → IsOfVersion One e → length (canonical_line d e) ≤ 951
length-canonical_line d e h of =
    let all = recursion_from_All IsTableSequence (replacements e) h.sequences in
    let plain = recursion_from_All IsPlain (whole e) of in
    omega (arith, h.few, length-entry_text (mapped_by source_mark d (source_of e)) (map (mapped_by variant_mark d) e.variants), plain_piece d source_mark (source_of e) all.0 plain.0, plain_pieces d e.variants all.1 plain.1)

blocked_piece : (d : Definitions) (v : Variant) → IsTableSequence v.sequence → IsPlainOrBlocked v → length (piece_text (mapped_by variant_mark d v)) ≤ 56
blocked_piece d v s h =
    omega (
      arith,
      length-piece (mapped_by variant_mark d v),
      length-sequence_text v.sequence (omega (arith, s.filled)) s.short,
      one_mark (is_type variant_mark v.type),
      ap (λ n. length (type_text n ++ condition_text (option_map (named d) v.condition))) (no_name d v h),
      ap (λ c. length (condition_text (option_map (named d) c))) h.1,
    )

blocked_pieces : (d : Definitions) (variants : List Variant) → AllByRecursion IsTableSequence (sequences_in variants) → AllByRecursion IsPlainOrBlocked variants → pieces_size (map (mapped_by variant_mark d) variants) ≤ 57 * length variants
blocked_pieces d [] s h = omega arith
blocked_pieces d (v ∷ variants) s h = omega (arith, blocked_piece d v s.0 h.0, blocked_pieces d variants s.1 h.1)

-- in version 2 it has at most 967
pub length-blocked_line : (d : Definitions) (e : Entry) → IsEntry e → IsOfVersion Two e → length (canonical_line d e) ≤ 967
length-blocked_line d e h of =
    let all = recursion_from_All IsTableSequence (replacements e) h.sequences in
    omega (arith, h.few, length-entry_text (mapped_by source_mark d (source_of e)) (map (mapped_by variant_mark d) e.variants), plain_piece d source_mark (source_of e) all.0 of.0, blocked_pieces d e.variants all.1 (recursion_from_All IsPlainOrBlocked e.variants of.1))

-- ---- with types and conditions

length-name : (name : List ℕ) → is_name name ≡ true → length name ≤ 32
length-name [] h = absurd cc
length-name (c ∷ cs) h =
    let p = and_parts (is_letter c && nat_le (length cs) 31) (list_all is_name_byte cs) h in
    omega (arith, leb-true (length cs) 31 (and_parts (is_letter c) (nat_le (length cs) 31) p.0).1)

length-word : (kind : ConditionKind) → length (condition_word kind) ≤ 8
length-word When = omega arith
length-word Unless = omega arith

length-condition : (c : Option NamedCondition) → HasRule c → length (condition_text c) ≤ 40
length-condition None h = omega arith
length-condition (Some c) h = omega (arith, length-append (condition_word c.kind) c.rule, length-word c.kind, length-name c.rule h)

-- what is marked has no type beside its mark
marked_or_typed : (marked : Bool) (name : Option (List ℕ)) → MayHaveType marked name → length (mark_text marked) + length (type_text name) ≤ 36
marked_or_typed marked None h = omega (arith, one_mark marked)
marked_or_typed marked (Some name) h = omega (arith, ap (λ b. length (mark_text b)) h.0, length-name name h.1)

named_piece : (d : Definitions) (mark : ℕ) (v : Variant) → IsTableSequence v.sequence → IsMapped (mapped_by mark d v) → length (piece_text (mapped_by mark d v)) ≤ 131
named_piece d mark v s m =
    let name : Option (List ℕ) = unmarked_name mark d v.type in
    let condition : Option NamedCondition = option_map (named d) v.condition in
    omega (
      arith,
      length-piece (mapped_by mark d v),
      length-sequence_text v.sequence (omega (arith, s.filled)) s.short,
      length-append (type_text name) (condition_text condition),
      marked_or_typed (is_type mark v.type) name m.type_name,
      length-condition condition m.condition,
    )

named_pieces : (d : Definitions) (variants : List Variant) → AllByRecursion IsTableSequence (sequences_in variants) → AllByRecursion IsMapped (map (mapped_by variant_mark d) variants) → pieces_size (map (mapped_by variant_mark d) variants) ≤ 132 * length variants
named_pieces d [] s m = omega arith
named_pieces d (v ∷ variants) s m = omega (arith, named_piece d variant_mark v s.0 m.0, named_pieces d variants s.1 m.1)

-- a canonical line has at most 2,243 bytes
pub length-named_line : (d : Definitions) (e : Entry) → AreDefinitions d → IsEntry e → IsNamed d e → length (canonical_line d e) ≤ 2243
length-named_line d e are h n =
    let all = recursion_from_All IsTableSequence (replacements e) h.sequences in
    let form : AllByRecursion IsMapped (as_written d e) = entry_form d are e h n in
    omega (arith, h.few, length-entry_text (mapped_by source_mark d (source_of e)) (map (mapped_by variant_mark d) e.variants), named_piece d source_mark (source_of e) all.0 form.0, named_pieces d e.variants all.1 form.1)

length-by_version : (v : Version) (d : Definitions) (e : Entry) → AreDefinitions d → IsEntry e → IsNamed d e → IsOfVersion v e → length (canonical_line d e) ≤ line_limit v
length-by_version One d e are h n of = omega (arith, length-canonical_line d e h of)
length-by_version Two d e are h n of = omega (arith, length-blocked_line d e h of)
length-by_version Three d e are h n of = omega (arith, length-named_line d e are h n)

-- ---- the text

-- the text of lines is cut into them
cut_lines : (lines : List (List ℕ)) (rest : List ℕ) → AllByRecursion AreInLine lines → raw_lines (lines_text lines ++ rest) ≡ lines ++ raw_lines rest
cut_lines [] rest h = refl
cut_lines (line ∷ lines) rest h =
    ap raw_lines (append_assoc (line ++ 10 ∷ []) (lines_text lines) rest ∙ append_assoc line (10 ∷ []) (lines_text lines ++ rest))
    ∙ raw_lines-then line (lines_text lines ++ rest) (no_feed_line line h.0) ∙ ap (λ ls. line ∷ ls) (cut_lines lines rest h.1)

-- entries whose names are defined
abbrev AreNamed : Definitions → List Entry → Type 0
AreNamed d table = AllByRecursion (IsNamed d) table

lines_in_line_of : (d : Definitions) (table : List Entry) → AreDefinitions d → AllByRecursion IsEntry table → AreNamed d table → AllByRecursion AreInLine (map (canonical_line d) table)
lines_in_line_of d [] are h n = tt
lines_in_line_of d (e ∷ table) are h n = (line_in_line d e are h.0 n.0, lines_in_line_of d table are h.1 n.1)

text_of_lines : (d : Definitions) (table : List Entry) → canonical_text d table ≡ lines_text (map (canonical_line d) table)
text_of_lines d [] = refl
text_of_lines d (e ∷ table) = ap (λ t. (canonical_line d e ++ 10 ∷ []) ++ t) (text_of_lines d table)

raw_lines-canonical : (d : Definitions) (table : List Entry) → AreDefinitions d → AllByRecursion IsEntry table → AreNamed d table → raw_lines (canonical_text d table) ≡ map (canonical_line d) table
raw_lines-canonical d table are h n =
    ap raw_lines (text_of_lines d table ∙ sym (append-nil (lines_text (map (canonical_line d) table))))
    ∙ cut_lines (map (canonical_line d) table) [] (lines_in_line_of d table are h n) ∙ append-nil (map (canonical_line d) table)

-- the lines of a table's canonical text after its version line
table_lines : Definitions → List Entry → List (List ℕ)
table_lines d table = canonical_lines d ++ map (canonical_line d) table

raw_lines-table : (d : Definitions) (table : List Entry) → AreDefinitions d → AllByRecursion IsEntry table → AreNamed d table → raw_lines (definitions_text d ++ canonical_text d table) ≡ table_lines d table
unfolding table_lines
raw_lines-table d table are h n = cut_lines (canonical_lines d) (canonical_text d table) (lines_in_line d are) ∙ ap (λ ls. canonical_lines d ++ ls) (raw_lines-canonical d table are h n)

-- ---- what the lines spell

spells_entry : (v : Version) (d : Definitions) (e : Entry) → AreDefinitions d → IsEntry e → IsNamed d e → IsOfVersion v e → LineSpells v d (strip_carriage_return (canonical_line d e)) (e ∷ [])
spells_entry v d e are h n of =
    let all = recursion_from_All (HasItsNames d) (whole e) n in
    inr (inr (
      record { mapped = as_written d e; last = None },
      (subst (IsEntryLine (record { mapped = as_written d e; last = None })) (sym (strip_nothing (canonical_line d e) (line_in_line d e are h n))) (canonical_line_spells d are e h n), of_version v d e of),
      all_known d are e all,
      ap (λ vs. entry_from vs ∷ []) (sym (entry_read d are e all)),
    ))

entries_spell : (v : Version) (d : Definitions) (done table : List Entry) → AreDefinitions d → AllByRecursion IsEntry table → AreNamed d table → AllByRecursion (IsOfVersion v) table
    → LinesSpell (table_of v d done) (map (canonical_line d) table) (table_of v d (done ++ table))
entries_spell v d done [] are h n of = ap (table_of v d) (append-nil done)
entries_spell v d done (e ∷ table) are h n of = (
  table_of v d (done ++ e ∷ []),
  inl (e ∷ [], spells_entry v d e are h.0 n.0 of.0, refl),
  subst (λ es. LinesSpell (table_of v d (done ++ e ∷ [])) (map (canonical_line d) table) (table_of v d es)) (append_assoc done (e ∷ []) table) (entries_spell v d (done ++ e ∷ []) table are h.1 n.1 of.1),
)

-- what reading gives for the lexemes of a definition
record Read (limit : ℕ) (d e : Definitions) (words : List (List ℕ)) : Type 0 where
  keyword : Keyword
  after : List (List ℕ)
  begins : (v : Version) → v ≡ Three → keyword_in v words ≡ Some (keyword, after)
  defined : defined limit d keyword after ≡ Ok e

words_read : (limit : ℕ) (d e : Definitions) (words : List (List ℕ)) → with_words limit d words ≡ Ok e → Read limit d e words
words_read limit d e [] h = absurd cc
words_read limit d e (word ∷ after) h = by_keyword (keyword_of word) refl h
  where
    begins_with : (k : Keyword) → keyword_of word ≡ Some k → (v : Version) → v ≡ Three → keyword_in v (word ∷ after) ≡ Some (k, after)
    begins_with k is One e = absurd cc
    begins_with k is Two e = absurd cc
    begins_with k is Three e = ap (with_after after) is

    by_keyword : (o : Option Keyword) → keyword_of word ≡ o → with_keyword limit d o after ≡ Ok e → Read limit d e (word ∷ after)
    by_keyword None is h = absurd cc
    by_keyword (Some k) is h = record { keyword = k; after = after; begins = begins_with k is; defined = h }

and_then_is : (r : Result Definitions DefinitionFault) (f : Definitions → Result Definitions DefinitionFault) (e : Definitions) → and_then r f ≡ Ok e → (d : Definitions) × (r ≡ Ok d) × (f d ≡ Ok e)
and_then_is (Ok d) f e h = (d, refl, h)
and_then_is (Err fault) f e h = absurd cc

lines_define : (d e : Definitions) (lines : List (List ℕ)) → AllByRecursion AreInLine lines → with_lines (8388608 - length (head_text Three ++ [])) d lines ≡ Ok e → LinesSpell (table_of Three d []) lines (table_of Three e [])
lines_define d e [] own h = ap (λ x. table_of Three x []) (let same : e ≡ d = cc in same)
lines_define d e (line ∷ lines) own h =
    let limit : ℕ = 8388608 - length (head_text Three ++ []) in
    let first = and_then_is (with_words limit d (lexemes line)) (λ x. with_lines limit x lines) e h in
    let read = words_read limit d first.0 (lexemes line) first.1 in
    let begins = read.begins Three refl in (
      table_of Three first.0 [],
      subst (λ l. LineAdds (table_of Three d []) l (table_of Three first.0 [])) (sym (strip_nothing line own.0)) (inr (first.0, (read.keyword, read.after, begins, read.defined), refl)),
      lines_define first.0 e lines own.1 first.2,
    )

definitions_spell : (v : Version) (d : Definitions) → AreOfVersion v d → AreDefinitions d → length (table_text v d []) ≤ text_limit v → LinesSpell (empty_table d.properties v) (canonical_lines d) (table_of v d [])
definitions_spell One d of are l = subst (λ x. LinesSpell (empty_table d.properties One) (canonical_lines x) (table_of One x [])) (sym of) refl
definitions_spell Two d of are l = subst (λ x. LinesSpell (empty_table d.properties Two) (canonical_lines x) (table_of Two x [])) (sym of) refl
definitions_spell Three d of are l =
    lines_define (nothing_defined d.properties) d (canonical_lines d) (lines_in_line d are)
    (definitions_back d (8388608 - length (head_text Three ++ [])) are
    (omega (arith, l, length-append (head_text Three) (definitions_text d ++ []), length-append (definitions_text d) [], definitions_text-length d, length-append (head_text Three) [])))

after_one_another : (t m u : TableValue) (a b : List (List ℕ)) → LinesSpell t a m → LinesSpell m b u → LinesSpell t (a ++ b) u
after_one_another t m u [] b h k = subst (λ x. LinesSpell x b u) h k
after_one_another t m u (line ∷ a) b (n, adds, rest) k = (n, adds, after_one_another n m u a b rest k)

table_spelled : (v : Version) (d : Definitions) (table : List Entry) → IsTable (table_of v d table) → LinesSpell (empty_table d.properties v) (table_lines d table) (table_of v d table)
unfolding table_lines
table_spelled v d table h =
    after_one_another (empty_table d.properties v) (table_of v d []) (table_of v d table) (canonical_lines d) (map (canonical_line d) table)
    (definitions_spell v d h.defined h.without_fault (omega (
      arith,
      h.short,
      length-append (head_text v) (definitions_text d ++ canonical_text d table),
      length-append (definitions_text d) (canonical_text d table),
      length-append (head_text v) (definitions_text d ++ []),
      length-append (definitions_text d) [],
    )))
    (entries_spell v d [] table h.without_fault (recursion_from_All IsEntry table h.well_formed.entries) (recursion_from_All (IsNamed d) table h.named) (recursion_from_All (IsOfVersion v) table h.of_version))

-- ---- how long they are

canonical_short : (v : Version) (d : Definitions) (table : List Entry) → AreDefinitions d → AllByRecursion IsEntry table → AreNamed d table → AllByRecursion (IsOfVersion v) table
    → AllByRecursion (λ line. length line ≤ line_limit v) (map (canonical_line d) table)
canonical_short v d [] are h n of = tt
canonical_short v d (e ∷ table) are h n of = (length-by_version v d e are h.0 n.0 of.0, canonical_short v d table are h.1 n.1 of.1)

size_of-lines : (lines : List (List ℕ)) → size_of lines ≡ length (lines_text lines)
size_of-lines [] = refl
size_of-lines (line ∷ lines) = omega (arith, size_of-cons line lines, size_of-lines lines, length-append (line ++ 10 ∷ []) (lines_text lines), length-append line (10 ∷ []))

size_of-append : (a b : List (List ℕ)) → size_of (a ++ b) ≡ size_of a + size_of b
size_of-append [] b = omega arith
size_of-append (line ∷ a) b = omega (arith, size_of-cons line (a ++ b), size_of-cons line a, size_of-append a b)

size_of-table : (d : Definitions) (table : List Entry) → size_of (table_lines d table) ≡ length (definitions_text d) + length (canonical_text d table)
unfolding table_lines
size_of-table d table =
    omega (arith, size_of-append (canonical_lines d) (map (canonical_line d) table), size_of-lines (canonical_lines d), size_of-lines (map (canonical_line d) table), ap length (text_of_lines d table))

short_definitions : (properties : Properties) (names : List (List ℕ)) (xs : List Definition) → AllByRecursion (IsDefinition properties names) xs → AllByRecursion (λ line. length line ≤ 8192) (map (definition_text names) xs)
short_definitions properties names [] h = tt
short_definitions properties names (x ∷ xs) h = (h.0.short, short_definitions properties names xs h.1)

all_short : (P : List ℕ → Type 0) (a b : List (List ℕ)) → AllByRecursion P a → AllByRecursion P b → AllByRecursion P (a ++ b)
all_short P [] b h k = k
all_short P (x ∷ a) b h k = (h.0, all_short P a b h.1 k)

short_lines : (v : Version) (d : Definitions) (table : List Entry) → AreOfVersion v d → AreDefinitions d → AllByRecursion IsEntry table → AreNamed d table → AllByRecursion (IsOfVersion v) table
    → AllByRecursion (λ line. length line ≤ line_limit v) (table_lines d table)
unfolding table_lines
short_lines v d table of are h n each = all_short (λ line. length line ≤ line_limit v) (canonical_lines d) (map (canonical_line d) table) (by_version v of) (canonical_short v d table are h n each)
  where
    by_version : (w : Version) → AreOfVersion w d → AllByRecursion (λ line. length line ≤ line_limit w) (canonical_lines d)
    by_version One of = subst (λ x. AllByRecursion (λ line. length line ≤ 1024) (canonical_lines x)) (sym of) tt
    by_version Two of = subst (λ x. AllByRecursion (λ line. length line ≤ 1024) (canonical_lines x)) (sym of) tt
    by_version Three of = short_definitions d.properties d.set_names (all_definitions d) are.each

-- the lines of a table
lines_of_table : (head : List (List ℕ)) (v : Version) (d : Definitions) (entries : List Entry) → IsTable (table_of v d entries) → size_of head + (length (definitions_text d) + length (canonical_text d entries)) ≤ text_limit v
    → AreLinesOf head (table_lines d entries) (table_of v d entries)
lines_of_table head v d entries h size =
    record {
      spelled = table_spelled v d entries h;
      short = All-from_recursion (λ line. length line ≤ line_limit v) (table_lines d entries) (short_lines v d entries h.defined h.without_fault (recursion_from_All IsEntry entries h.well_formed.entries) (recursion_from_All (IsNamed d) entries h.named) (recursion_from_All (IsOfVersion v) entries h.of_version));
      size = omega (arith, size_of-table d entries, size);
      well_formed = h;
    }

-- in version 1 no line of an entry is a version line: it begins with a digit, or with a mark

no_percent : (digits rest : List ℕ) → list_all is_hex_digit digits ≡ true → 1 ≤ length digits → bytes_eq (digits ++ rest) (version_line Table) ≡ true → ⊥
no_percent [] rest h l e = omega (arith, l)
no_percent (c ∷ cs) rest h l e =
    let same : c ∷ (cs ++ rest) ≡ version_line Table = (bytes_eq-Decides (c ∷ (cs ++ rest)) (version_line Table)).0 e in
    let first : c ≡ 37 = ap (λ s. get_or s 0 0) same in
    let digit : is_hex_digit 37 ≡ true = ap is_hex_digit (sym first) ∙ (and_parts (is_hex_digit c) (list_all is_hex_digit cs) h).0 in
    let none : is_hex_digit 37 ≡ false = refl in
    let x : true ≡ false = sym digit ∙ none in cc

begins_by_digit : (source rest : List ℕ) → 0 < length source → AreScalars source → bytes_eq (sequence_text source ++ rest) (version_line Table) ≡ true → ⊥
begins_by_digit [] rest l h e = omega (arith, l)
begins_by_digit (c ∷ points) rest l h e =
    let hex = hex_facts (point_text c) c (point_of_hex-text c h.0) in
    let long : 4 ≤ length (point_text c) = leb-true 4 (length (point_text c)) hex.long in
    let text : sequence_text (c ∷ points) ++ rest ≡ point_text c ++ (further_text points ++ rest) = ap (λ t. t ++ rest) (sequence_text-is c points) ∙ append_assoc (point_text c) (further_text points) rest in
    no_percent (point_text c) (further_text points ++ rest) hex.digit (omega (arith, long)) (ap (λ t. bytes_eq t (version_line Table)) (sym text) ∙ e)

begins_by_mark : (marked : Bool) (source rest : List ℕ) → 0 < length source → AreScalars source → bytes_eq (mark_text marked ++ (sequence_text source ++ rest)) (version_line Table) ≡ true → ⊥
begins_by_mark true source rest l h e =
    let none : 33 ≡ 37 = ap (λ s. get_or s 0 0) ((bytes_eq-Decides (33 ∷ (sequence_text source ++ rest)) (version_line Table)).0 e) in
    omega (arith, none)
begins_by_mark false source rest l h e = begins_by_digit source rest l h e

no_version_line : (d : Definitions) (e : Entry) → AreDefinitions d → IsEntry e → IsNamed d e → is_version_line Table (canonical_line d e) ≡ false
no_version_line d e are h n =
    let all = recursion_from_All IsTableSequence (replacements e) h.sequences in
    let m : Mapped = mapped_by source_mark d (source_of e) in
    let after : List ℕ = [] ++ (type_text m.type_name ++ condition_text m.condition) in
    let others : List ℕ = pieces_text (map (mapped_by variant_mark d) e.variants) in
    let line : canonical_line d e ≡ mark_text m.marked ++ (sequence_text e.source ++ (after ++ others)) =
    canonical_line-is d e ∙ append_assoc (mark_text m.marked) (sequence_text e.source ++ after) others ∙ ap (λ t. mark_text m.marked ++ t) (append_assoc (sequence_text e.source) after others) in
    ap (λ l. bytes_eq l (version_line Table)) (strip_nothing (canonical_line d e) (line_in_line d e are h n) ∙ line)
    ∙ false_from_ne_true (bytes_eq (mark_text m.marked ++ (sequence_text e.source ++ (after ++ others))) (version_line Table))
    (begins_by_mark m.marked e.source (after ++ others) (sequences_filled (replacements e) all).0 (sequences_scalar (replacements e) all).0)

-- lines of which the first is no version line
record AreBody (lines : List (List ℕ)) : Type 0 where
  version : version_of Table lines ≡ Some One
  head : head_of Table lines ≡ []
  body : body_of Table lines ≡ lines

body_alone : (d : Definitions) (table : List Entry) → AreDefinitions d → AllByRecursion IsEntry table → AreNamed d table → AreBody (map (canonical_line d) table)
body_alone d [] are h n = record { version = refl; head = refl; body = refl }
body_alone d (e ∷ table) are h n =
    let none : is_version_line Table (canonical_line d e) ≡ false = no_version_line d e are h.0 n.0 in
    let line : List ℕ = canonical_line d e in
    let lines : List (List ℕ) = map (canonical_line d) table in
    record {
      version = ap (λ b. cond b (Some Two) (Some One)) none;
      head = ap (λ b. cond b (line ∷ []) []) none;
      body = ap (λ b. cond b lines (line ∷ lines)) none;
    }

no_definitions : (properties : Properties) (entries : List Entry) → table_lines (nothing_defined properties) entries ≡ map (canonical_line (nothing_defined properties)) entries
unfolding table_lines
no_definitions properties entries = refl

spelled_one : (properties : Properties) (entries : List Entry) → IsTable (table_of One (nothing_defined properties) entries) → IsTextOf properties Table (table_text One (nothing_defined properties) entries) (table_of One (nothing_defined properties) entries)
spelled_one properties entries h =
    let table : TableValue = table_of One (nothing_defined properties) entries in
    let d : Definitions = nothing_defined properties in
    let sound = recursion_from_All IsEntry entries h.well_formed.entries in
    let named = recursion_from_All (IsNamed d) entries h.named in
    let cut : raw_lines (canonical_text d entries) ≡ map (canonical_line d) entries = raw_lines-canonical d entries h.without_fault sound named in
    let alone = body_alone d entries h.without_fault sound named in
    let lines : AreLinesOf [] (map (canonical_line d) entries) table = subst (λ ls. AreLinesOf [] ls table) (no_definitions properties entries) (lines_of_table [] One (nothing_defined properties) entries h (omega (arith, h.short))) in
    record {
      by_these = refl;
      version = ap (version_of Table) cut ∙ alone.version;
      lines = subst (λ ls. AreLinesOf (head_of Table ls) (body_of Table ls) table) (sym cut)
          (subst (λ b. AreLinesOf (head_of Table (map (canonical_line d) entries)) b table) (sym alone.body) (subst (λ x. AreLinesOf x (map (canonical_line d) entries) table) (sym alone.head) lines));
    }

-- in version 2 and 3 the first line is the version line
cut_head : (notation : Notation) (rest : List ℕ) → raw_lines ((version_line notation ++ 10 ∷ []) ++ rest) ≡ version_line notation ∷ raw_lines rest
cut_head Table rest = refl
cut_head Ruleset rest = refl

module _ (d : Definitions) (entries : List Entry) where
  spelled_two : IsTable (table_of Two d entries) → IsTextOf d.properties Table (table_text Two d entries) (table_of Two d entries)
  spelled_two h =
      let table : TableValue = table_of Two d entries in
      let cut : raw_lines (table_text Two d entries) ≡ version_line Table ∷ table_lines d entries =
      cut_head Table (definitions_text d ++ canonical_text d entries) ∙ ap (λ ls. version_line Table ∷ ls) (raw_lines-table d entries h.without_fault (recursion_from_All IsEntry entries h.well_formed.entries) (recursion_from_All (IsNamed d) entries h.named)) in
      record {
        by_these = refl;
        version = ap (version_of Table) cut;
        lines = subst (λ ls. AreLinesOf (head_of Table ls) (body_of Table ls) table) (sym cut)
            (lines_of_table (version_line Table ∷ []) Two d entries h (omega (arith, h.short, length-append (head_text Two) (definitions_text d ++ canonical_text d entries), length-append (definitions_text d) (canonical_text d entries), size_of-cons (version_line Table) [])));
      }

  spelled_three : IsTable (table_of Three d entries) → IsTextOf d.properties Ruleset (table_text Three d entries) (table_of Three d entries)
  spelled_three h =
      let table : TableValue = table_of Three d entries in
      let cut : raw_lines (table_text Three d entries) ≡ version_line Ruleset ∷ table_lines d entries =
      cut_head Ruleset (definitions_text d ++ canonical_text d entries) ∙ ap (λ ls. version_line Ruleset ∷ ls) (raw_lines-table d entries h.without_fault (recursion_from_All IsEntry entries h.well_formed.entries) (recursion_from_All (IsNamed d) entries h.named)) in
      record {
        by_these = refl;
        version = ap (version_of Ruleset) cut;
        lines = subst (λ ls. AreLinesOf (head_of Ruleset ls) (body_of Ruleset ls) table) (sym cut)
            (lines_of_table (version_line Ruleset ∷ []) Three d entries h (omega (arith, h.short, length-append (head_text Three) (definitions_text d ++ canonical_text d entries), length-append (definitions_text d) (canonical_text d entries), size_of-cons (version_line Ruleset) [])));
      }

spelled_by : (v : Version) (d : Definitions) (entries : List Entry) → IsTable (table_of v d entries) → IsTextOf d.properties (notation_of v) (table_text v d entries) (table_of v d entries)
spelled_by One d entries h =
    subst (λ x. IsTextOf d.properties Table (table_text One x entries) (table_of One x entries)) (sym h.defined) (spelled_one d.properties entries (subst (λ x. IsTable (table_of One x entries)) h.defined h))
spelled_by Two d entries h = spelled_two d entries h
spelled_by Three d entries h = spelled_three d entries h

pub canonical_spelled : (table : TableValue) → IsTable table → IsTextOf table.definitions.properties (notation_of table.version) (table_text table.version table.definitions table.entries) table
canonical_spelled table h = spelled_by table.version table.definitions table.entries h
