-- The objects of tables and of registered labels are read back.
use Rattle.std.proofs.Common.{◌≡◌, ℕ, suc, ◌-◌, ◌/◌, ◌%◌, ◌<◌, ◌≤◌, ◌^◌, ◌==◌, nat_lt, Bool, true, false, ◌&&◌, List}
use Rattle.std.proofs.Common.{[], ◌∷◌, ◌++◌, map, codes, length, take, chars, cond, not, slice_index, Option, Some}
use Rattle.std.proofs.Common.{None, refl, ap, subst, append_assoc, arith, length-take}
use Rattle.std.specs.Prelude.{IsUtf8, slice_get}
use Rattle.std.specs.List.{AllByRecursion, filter}
use Rattle.std.specs.Option.{option_map}
use Rattle.std.specs.Str.{is_utf8}
use Rattle.std.specs.Str.Lines.{strip_carriage_return}
use Rattle.std.proofs.lemmas.Bool.Decides.{nat_tests}
use Rattle.std.proofs.lemmas.List.Elements.{All-from_recursion}
use Rattle.std.proofs.lemmas.Str.{utf8_valid_len_le}
use Rattle.idn_class.specs.declared.properties.Properties.{Properties}
use Rattle.idna.specs.Validity.{is_all_ascii}
use Rattle.idn_text.specs.Lines.{body_of, raw_lines}
use Rattle.idn_text.specs.Points.{four_digits, hex_digit}
use Rattle.idn_text.specs.declared.refusal.Refusal.{Refusal}
use Rattle.idn_text.specs.declared.refusal.Refusal.TheVariants as refusals
use Rattle.idn_cause.specs.Causes.{shared}
use Rattle.ruleset_text.specs.Canonical.{point_text}
use Rattle.ruleset_text.specs.EntryText.{sequence_text}
use Rattle.variant_table.specs.Differences.{differences_of}
use Rattle.variant_table.specs.Entries.{TableValue}
use Rattle.variant_table.specs.Gaps.{gaps_of}
use Rattle.variant_table.specs.IdleTypes.{idle_types, is_asked}
use Rattle.valid_labels.specs.Validity.{IsSound}
use Rattle.ruleset_text.specs.Names.{AreNames, predefined_types}
use Rattle.variant_table.specs.FaultyLines.{fault_place}
use Rattle.variant_table.specs.FaultyLines.{faulty_line, line_of}
use Rattle.ruleset_text.specs.declared.fault.FaultPlace.{FaultPlace}
use Rattle.idn2_refusals.specs.Explained.{ByRegisteredLine, bad_byte, body_cause, points_cause, u_label_cause}
use Rattle.idn2_laws.specs.ReadBack.{byte_of, FindingsAreReadBack, IsReadBack, IsShortBody, RegisteredFaultsAreReadBack, TableFaultsAreReadBack, TellsFewOctetsIfAny}
use Rattle.answer_json.specs.declared.checked.PairFinding.{PairFinding}
use Rattle.answer_json.specs.declared.checked.PairFinding.TheVariants.{Missing, Differs}
use Rattle.idn2_answers.specs.Said.{Finding, Found, Idle, Counted, finding_object}
use Rattle.idn2_answers.specs.Transcript.{check_findings}
use Rattle.idn2_refusals.specs.TableCauses.{begins_with_mark, cause_at, fault_cause, is_syntax_of_first, line_cause, told_if}
use Rattle.idn2_refusals.specs.WrongLines.{body_at, body_if_any, differs_at, points_at, points_in, told_of_wrong_line, without_mark, wrong_line_cause}
use Rattle.idn_label.specs.OldNames.{before_mark, has_mark, mark}
use Rattle.idn2_refusals.specs.declared.cause.LineCause.{LineCause}
use Rattle.idn2_refusals.specs.declared.cause.LineCause.TheVariants.{ByteOrderMark}
use Rattle.idn2_laws.proofs.ReadBackCauses.{names-utf8, names_after, points-length, taken, u_label_fits}
use Rattle.idn2_laws.proofs.LineCauseLaws.{u_label-is}
use Rattle.idn2_laws.proofs.ReadBackDetails.{IsFitting, IsFittingIfTold, ascii_append, ascii_cons, four_ascii, registered_fault_good, table_fault_good}
use Rattle.idn2_laws.proofs.ReadBackLemmas.{ascii_utf8, digit_ascii, object_read_back}
use Rattle.idn2_refusals.proofs.Utf8Bytes.{utf8-of_chars}

-- ---- the check of a table

choice_ascii : (b : Bool) (first other : List ℕ) → is_all_ascii first ≡ true → is_all_ascii other ≡ true → is_all_ascii (cond b first other) ≡ true
choice_ascii true first other h k = h
choice_ascii false first other h k = k

point_ascii : (c : ℕ) → is_all_ascii (point_text c) ≡ true
unfolding point_text
point_ascii c =
    let four = four_ascii c in
    let fifth = hex_digit (c / 65536 % 16) in
    let five = ascii_cons fifth (four_digits c) (digit_ascii (c / 65536 % 16) (omega arith)) four in
    let sixth = hex_digit (c / 1048576 % 16) in
    choice_ascii (nat_lt c 65536) (four_digits c) _ four
    (choice_ascii (nat_lt c 1048576) (fifth ∷ four_digits c) (sixth ∷ fifth ∷ four_digits c) five
    (ascii_cons sixth (fifth ∷ four_digits c) (digit_ascii (c / 1048576 % 16) (omega arith)) five))

sequence_ascii : (points : List ℕ) → is_all_ascii (sequence_text points) ≡ true
sequence_ascii [] = refl
sequence_ascii (c ∷ []) = point_ascii c
sequence_ascii (c ∷ d ∷ points) =
    ascii_append (point_text c) (45 ∷ sequence_text (d ∷ points)) (point_ascii c) (ascii_cons 45 (sequence_text (d ∷ points)) refl (sequence_ascii (d ∷ points)))

abbrev IsGood : Finding → Type 0
IsGood f = IsReadBack (finding_object f)

pair_good : (finding : PairFinding) (pair : List ℕ × List ℕ) → IsGood (Found finding pair)
pair_good Missing pair =
    object_read_back _ ((tt, (tt, tt)), tt)
    ((ascii_utf8 (codes "source") refl, ascii_utf8 (sequence_text pair.0) (sequence_ascii pair.0), (ascii_utf8 (codes "missing") refl, ascii_utf8 (sequence_text pair.1) (sequence_ascii pair.1), tt)), tt)
pair_good Differs pair =
    object_read_back _ ((tt, (tt, tt)), tt)
    ((ascii_utf8 (codes "source") refl, ascii_utf8 (sequence_text pair.0) (sequence_ascii pair.0), (ascii_utf8 (codes "differs") refl, ascii_utf8 (sequence_text pair.1) (sequence_ascii pair.1), tt)), tt)

counted_good : (entries gaps : ℕ) → entries < 2 ^ 64 → gaps < 2 ^ 64 → IsGood (Counted entries gaps)
counted_good entries gaps few fewer =
    object_read_back _ ((few, (fewer, tt)), tt) ((ascii_utf8 (codes "entries") refl, tt, (ascii_utf8 (codes "gaps") refl, tt, tt)), tt)

-- pairs before others that are read back
pairs_good : (finding : PairFinding) (pairs : List (List ℕ × List ℕ)) (others : List Finding) → AllByRecursion IsGood others → AllByRecursion IsGood (map (Found finding) pairs ++ others)
pairs_good finding [] others good = good
pairs_good finding (pair ∷ pairs) others good = (pair_good finding pair, pairs_good finding pairs others good)

idle_good : (name : List ℕ) → IsUtf8 name → IsGood (Idle name)
idle_good name utf8 = object_read_back _ ((tt, tt), tt) ((ascii_utf8 (codes "idle") refl, utf8, tt), tt)

-- the names that are kept of some
names_good : (p : List ℕ → Bool) (names : List (List ℕ)) (others : List Finding) → AllByRecursion IsUtf8 names → AllByRecursion IsGood others → AllByRecursion IsGood (map Idle (filter p names) ++ others)
names_good p [] others utf8 good = good
names_good p (name ∷ names) others utf8 good = by_test (p name) (names_good p names others utf8.1 good)
  where
    by_test : (b : Bool) → AllByRecursion IsGood (map Idle (filter p names) ++ others) → AllByRecursion IsGood (map Idle (cond b (name ∷ filter p names) (filter p names)) ++ others)
    by_test true rest = (idle_good name utf8.0, rest)
    by_test false rest = rest

-- the types of a ruleset's own have names
types_utf8 : (table : TableValue) → IsSound table → AllByRecursion IsUtf8 table.definitions.types
types_utf8 table sound =
    let d = table.definitions in
    let own = names_after predefined_types (d.types ++ (d.set_names ++ d.rule_names)) (subst AreNames (append_assoc predefined_types d.types (d.set_names ++ d.rule_names)) sound.definitions.names) in
    names-utf8 d.types (d.set_names ++ d.rule_names) own

pub findings_read_back : FindingsAreReadBack
findings_read_back table sound few =
    let gaps = gaps_of table.entries in
    let differences = differences_of table.entries in
    let d = table.definitions in
    let count = Counted (length table.entries) (length gaps) ∷ [] in
    let idle = map Idle (idle_types d) ++ count in
    All-from_recursion IsGood (check_findings table)
    (pairs_good Missing gaps (map (Found Differs) differences ++ idle)
    (pairs_good Differs differences idle
    (names_good (λ name. not (is_asked d.actions name)) d.types count (types_utf8 table sound) (counted_good (length table.entries) (length gaps) (omega (arith, sound.entries.few)) few, tt))))

-- ---- the fault of a table

pub table_faults_read_back : TableFaultsAreReadBack
table_faults_read_back properties wanted notation bytes fault line refusal small within =
    table_fault_good line small refusal (told_if wanted (fault_cause properties notation bytes fault)) (by_wanted wanted (by_mark (begins_with_mark bytes && is_syntax_of_first fault)))
  where
    by_place : (line : List ℕ) (told : Option FaultPlace) → ((place : FaultPlace) → told ≡ Some place → byte_of place < 2 ^ 63) → IsFittingIfTold (option_map (cause_at line) told)
    by_place line None small = tt
    by_place line (Some place) small = small place refl

    told : Option FaultPlace
    told = fault_place properties notation bytes fault

    by_line : (line : Option (List ℕ)) → IsFittingIfTold (line_cause told line)
    by_line None = tt
    by_line (Some line) = by_place line told within

    by_mark : (b : Bool) → IsFittingIfTold (cond b (Some ByteOrderMark) (line_cause told (line_of (faulty_line properties notation bytes))))
    by_mark true = tt
    by_mark false = by_line (line_of (faulty_line properties notation bytes))

    by_wanted : (b : Bool) → IsFittingIfTold (fault_cause properties notation bytes fault) → IsFittingIfTold (told_if b (fault_cause properties notation bytes fault))
    by_wanted true h = h
    by_wanted false h = tt

-- ---- a wrong line of the registered labels

stripped : (line : List ℕ) → length (strip_carriage_return line) ≤ length line
stripped line = by_test (slice_index line (length line - 1) == 13)
  where
    by_test : (b : Bool) → length (cond b (take (length line - 1) line) line) ≤ length line
    by_test true = taken (length line - 1) line
    by_test false = omega arith

short_body : (line : List ℕ) → IsShortBody (body_of line)
short_body line = by_test (nat_lt 1024 (length line)) refl
  where
    by_test : (b : Bool) → nat_lt 1024 (length line) ≡ b → (let body : Option (List ℕ) = cond b None (Some (strip_carriage_return line)) in IsShortBody body)
    by_test true e = tt
    by_test false e = let le : length line ≤ 1024 = grind (arith, nat_tests) in omega (arith, stripped line, le)

short_at : (bytes : List ℕ) (number : ℕ) → IsShortBody (body_at bytes number)
short_at bytes number = by_line (slice_get (raw_lines bytes) (number - 1))
  where
    by_line : (line : Option (List ℕ)) → IsShortBody (body_if_any line)
    by_line None = tt
    by_line (Some line) = without (body_of line) (short_body line)
      where
        without : (body : Option (List ℕ)) → IsShortBody body → IsShortBody (option_map without_mark body)
        without None short = tt
        without (Some text) short = by_mark (has_mark text)
          where
            by_mark : (b : Bool) → length (cond b (before_mark text) text) ≤ 1024
            by_mark true = omega (arith, length-take (length text - length mark) text, short)
            by_mark false = short

short_points : (bytes : List ℕ) → length bytes ≤ 1024 → is_utf8 bytes ≡ true → length (chars bytes) ≤ 1024
short_points bytes short utf8 = let whole = utf8-of_chars bytes utf8 in omega (arith, points-length (chars bytes), ap length whole.encoded, short)

points_short : (body : Option (List ℕ)) → IsShortBody body → length (points_in body) ≤ 1024
points_short None short = omega arith
points_short (Some bytes) short = by_test (is_utf8 bytes) refl
  where
    by_test : (b : Bool) → is_utf8 bytes ≡ b → length (cond b (chars bytes) []) ≤ 1024
    by_test true e = short_points bytes short e
    by_test false e = omega arith

shared_within : (label other : List ℕ) → shared label other ≤ length label
shared_within [] other = omega arith
shared_within (c ∷ label) [] = omega arith
shared_within (c ∷ label) (d ∷ other) = by_test (c == d) (shared_within label other)
  where
    by_test : (b : Bool) → shared label other ≤ length label → cond b (suc (shared label other)) 0 ≤ suc (length label)
    by_test true h = omega (arith, h)
    by_test false h = omega arith

order_fits : (place : ℕ) (c : Option ℕ) → place ≤ 1024 → IsFitting (differs_at place c)
order_fits place None h = omega (arith, h)
order_fits place (Some c) h = omega (arith, h)

module _ (properties : Properties) where
  label_fits : (points : List ℕ) (refusal : Refusal) → length points ≤ 1024 → TellsFewOctetsIfAny (u_label_cause properties points refusal) → IsFittingIfTold (u_label_cause properties points refusal)
  label_fits points refusal short = by_cause (u_label_cause properties points refusal) refl
    where
      by_cause : (told : Option LineCause) → u_label_cause properties points refusal ≡ told → TellsFewOctetsIfAny told → IsFittingIfTold told
      by_cause None e few = tt
      by_cause (Some cause) e few = u_label_fits properties points refusal cause ((u_label-is properties points refusal cause).0 e) (omega (arith, short)) few

  body_fits : (body : Option (List ℕ)) (refusal : Refusal) → IsShortBody body → TellsFewOctetsIfAny (body_cause (ByRegisteredLine properties) body refusal) → IsFittingIfTold (body_cause (ByRegisteredLine properties) body refusal)
  unfolding points_cause
  body_fits None refusal short few = tt
  body_fits (Some bytes) refusal short few = by_test (is_utf8 bytes) refl few
    where
      by_test : (b : Bool) → is_utf8 bytes ≡ b → TellsFewOctetsIfAny (cond b (u_label_cause properties (chars bytes) refusal) (Some (bad_byte bytes)))
          → IsFittingIfTold (cond b (u_label_cause properties (chars bytes) refusal) (Some (bad_byte bytes)))
      by_test true e few = label_fits (chars bytes) refusal (short_points bytes short e) few
      by_test false e few = omega (arith, utf8_valid_len_le bytes, short)

  wrong_line_fits : (bytes : List ℕ) (number : ℕ) (refusal : Refusal) → TellsFewOctetsIfAny (wrong_line_cause properties bytes number refusal) → IsFittingIfTold (wrong_line_cause properties bytes number refusal)
  wrong_line_fits bytes number refusals.OutOfOrder few =
      let label = points_at bytes number in
      let before = points_at bytes (number - 1) in
      order_fits (shared label before) (slice_get label (shared label before)) (omega (arith, shared_within label before, points_short (body_at bytes number) (short_at bytes number)))
  wrong_line_fits bytes number refusals.FileTooLong few = tt
  wrong_line_fits bytes number refusal few = body_fits (body_at bytes number) refusal (short_at bytes number) few

pub registered_faults_read_back : RegisteredFaultsAreReadBack
registered_faults_read_back properties wanted bytes number refusal small few =
    registered_fault_good number small refusal (told_of_wrong_line properties wanted bytes number refusal) (by_wanted wanted few)
  where
    by_wanted : (b : Bool) → TellsFewOctetsIfAny (told_of_wrong_line properties b bytes number refusal) → IsFittingIfTold (told_of_wrong_line properties b bytes number refusal)
    by_wanted true few = wrong_line_fits properties bytes number refusal few
    by_wanted false few = tt
