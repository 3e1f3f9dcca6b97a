-- Over a table of version 2 and over the ruleset of the same entries a run says the same.
use Rattle.std.proofs.Common.{◌≡◌, ◌↔◌, inl, inr, ℕ, ◌+◌, ◌==◌, ◌||◌, ◌&&◌, not, cond, map, List, [], ◌∷◌, ◌++◌, All, length, Bool, true, false, Option, Some, None, Ok, Err, refl, sym, ap, subst, ◌∙◌, if◌then◌else◌, arith}
use Rattle.std.specs.Prelude.{◌≢◌, chars, is_err}
use Rattle.std.specs.List.{AllByRecursion, Contains, filter, slice_get}
use Rattle.std.specs.Option.{option_map}
use Rattle.std.specs.Ordering.{is_gt, is_le}
use Rattle.std.specs.Str.{is_utf8}
use Rattle.std.proofs.lemmas.Bool.{and_parts, false_from_ne_true}
use Rattle.std.proofs.lemmas.List.Elements.{All-contains, recursion_from_All}
use Rattle.idn_class.specs.declared.properties.Properties.{Properties}
use Rattle.idn_class.proofs.TestLemmas.{same_test}
use Rattle.idn_text.specs.Lines.{Numbered, raw_lines}
use Rattle.idn_text.specs.declared.refusal.Refusal.{Refusal}
use Rattle.idn_text.specs.declared.refusal.Refusal.TheVariants.{Empty, NotInTable, NotUtf8, NotValid}
use Rattle.idn_label.specs.Answers.{unless_fault}
use Rattle.idn_label.specs.FirstFault.{IsRegistrable, first_fault}
use Rattle.reading_kinds.proofs.ListMembers.{Contains-filter}
use Rattle.ruleset_text.specs.Actions.{NamedAction}
use Rattle.ruleset_text.specs.Definitions.{Definitions, nothing_defined}
use Rattle.variant_dispositions.specs.declared.disposition.Disposition.TheVariants.{Invalid}
use Rattle.variant_dispositions.specs.Actions.{disposition as outcome_of, is_allocatable}
use Rattle.variant_dispositions.specs.Kinds.{kind_of_source, kind_of_variant}
use Rattle.variant_dispositions.specs.Kinds.Kind.{Unmapped, Untyped, Typed}
use Rattle.variant_table.specs.declared.version.Version.{Version}
use Rattle.variant_table.specs.declared.version.Version.TheVariants.{One, Two, Three}
use Rattle.variant_table.specs.declared.version.Notation.TheVariants.{Table, Ruleset}
use Rattle.variant_table.specs.Texts.{IsTextOf}
use Rattle.variant_table.specs.Versions.{is_version_line}
use Rattle.variant_table.specs.WellFormed.{AreOfVersion, IsTable}
use Rattle.variant_table.proofs.RulesetLemmas.{as_three}
use Rattle.variant_table.specs.Entries.{Entry, IsOfVersion, IsPlainOrBlocked, TableValue, replacements, sequences_in, table_of}
use Rattle.variant_table.proofs.MemberLemmas.{Contains-head, Contains-later}
use Rattle.variant_table.specs.Segmentations.{IsMadeOfSources}
use Rattle.valid_labels.specs.Actions.{action_of, actions_of, matches_rule}
use Rattle.valid_labels.specs.Dispositions.{disposition_by}
use Rattle.valid_labels.specs.Furthest.{furthest}
use Rattle.valid_labels.specs.Tests.{asks_nothing, is_admitted, is_made_of_sources}
use Rattle.valid_labels.specs.Validity.{AsksNothing, IsAdmitted, IsSound}
use Rattle.valid_labels.proofs.NothingLemmas.{nothing-is-asked, older-asks_nothing}
use Rattle.valid_labels.proofs.TestLemmas.{tests-agree}
use Rattle.variant_list.specs.Arising.{unasked}
use Rattle.variant_list.specs.Closure.{near}
use Rattle.variant_list.specs.Jumps.{candidates_among_from}
use Rattle.variant_list.specs.Labels.{label_cmp}
use Rattle.variant_list.specs.ReadingLaws.{HasNoVariantTwice}
use Rattle.variant_list.specs.Readings.{Mapping, kind_of, kinds_of, IsReadingOf, MayAllBeMade}
use Rattle.variant_list.specs.Readings.Mapping.{Stays, Maps}
use Rattle.variant_list.specs.RulesetLaws.{as_ruleset}
use Rattle.variant_list.specs.Spelled.{spelled}
use Rattle.variant_list.specs.Spelling.{Spells}
use Rattle.variant_list.specs.Variants.{in_order}
use Rattle.variant_list.proofs.ReadOnceLemmas.{free-two, points_are_read_once}
use Rattle.variant_list.proofs.ReadingLemmas.{Spells-read}
use Rattle.variant_list.proofs.SpelledByLemmas.{spelled-Spells}
use Rattle.variant_list.proofs.SpellingLemmas.{Spells-made}
use Rattle.variant_list.proofs.VariantLists.{Contains-in_order, variants-AreVariants}
use Rattle.answer_json.specs.declared.block.Disposition.{Disposition}
use Rattle.idn2_options.specs.declared.command_line.mode.Mode.TheVariants.{DecodeOld}
use Rattle.idn2_answers.specs.Collisions.{is_found, is_itself_left_out, named_if}
use Rattle.answer_json.specs.declared.collision.Regard.{Regard}
use Rattle.answer_json.specs.declared.collision.Regard.TheVariants.{NoVariant}
use Rattle.answer_json.specs.declared.collision.Regards.{Regards}
use Rattle.idn2_options.specs.Settings.{Settings, tells_causes}
use Rattle.idn2_options.specs.declared.command_line.mode.Mode.{Mode}
use Rattle.idn2_options.specs.declared.command_line.mode.Mode.TheVariants.{Lookup, Register, Decode, Variants, Jump, CheckTable, PrintTable}
use Rattle.idn2_answers.specs.Answers.{IsRefusedAs, LineAnswer, block_among, if_admitted, jump_answer, least_answer, least_near, line_answer, variants_answer}
use Rattle.idn2_answers.specs.Collisions.{IsVariantOf, barred_in, collision_block, collision_by, collisions_after, collisions_to, is_barred, is_either, is_good, is_variant_of, regard_by, regard_of, regards_of}
use Rattle.idn2_answers.specs.Dispositions.{IsAllocatableIn, IsAllocation, IsClear, IsFieldOf, IsLeftOut, IsReadingFor, disposition, is_left_out, shown}
use Rattle.idn2_answers.specs.Listings.{Filter, block, block_to, field_of, filter_if, is_among, is_registrable, lesser_label, nth, nth_if_given, registrable_labels, tested_after, up_to, variant_by, variants_after, visited_in, without_left_out}
use Rattle.idn2_answers.specs.Said.{Said, BlockEnd, Collision, Least, Listed}
use Rattle.idn2_answers.proofs.AdmittedLabels.{admitted-made}
use Rattle.idn2_answers.proofs.CollisionTests.{variant-told}
use Rattle.idn2_answers.proofs.DispositionTests.{disposition-IsDisposition, left_out-told, some-outcome}
use Rattle.idn2_answers.proofs.FilterLemmas.{is_registrable-from, registrable-some}
use Rattle.idn2_answers.proofs.ReadingTests.{segmentation-itself}
use Rattle.idn2_answers.proofs.RecordedKinds.{IsKindOf, recorded-is}
use Rattle.idn2_answers.proofs.RecordedKinds.IsKindOf.{of_source, of_variant}
use Rattle.idn2_answers.proofs.TypelessKinds.{HasNoType, typeless-same}
use Rattle.idn2_refusals.specs.Requests.{requested_label, requested_text}
use Rattle.idn2_refusals.specs.Explained.{Explained, ByRequest, ByTable, bad_byte, body_cause, if_wanted, points_cause, table_cause}
use Rattle.idn2_refusals.specs.declared.cause.LineCause.{LineCause}
use Rattle.idn2_answers.specs.Transcript.{explained_in, Refuses, answer_statements, has_refused, lines_statements, mode_statements, mode_status, statements, status_if, status_of}
use Rattle.idn2_laws.specs.ListingLaws.{IsSingle, RulesetsSayTheSame}
use Rattle.idn2_laws.proofs.DispositionLaws.{blocked-blocks, free-allocatable, untyped-kinds}
use Rattle.idn2_laws.proofs.ExampleLemmas.{block_with}
use Rattle.idn2_laws.proofs.ListingLaws.{never-invalid}
use Rattle.idn2_laws.proofs.RefusingSources.{default-valid}

-- ---- the text

none-defined : (v : Version) (d : Definitions) → v ≡ Two → AreOfVersion v d → d ≡ nothing_defined d.properties
none-defined One d two none = none
none-defined Two d two none = none
none-defined Three d two none = absurd (let clash : Three ≡ Two = two in cc)

module _ (properties : Properties) where
  text-as_ruleset : (text other first second : List ℕ) (lines : List (List ℕ)) (table : TableValue) → table.version ≡ Two → raw_lines text ≡ first ∷ lines → raw_lines other ≡ second ∷ lines
      → is_version_line Table first ≡ true → is_version_line Ruleset second ≡ true → IsTextOf properties Table text table → IsTextOf properties Ruleset other (as_ruleset table)
  text-as_ruleset text other first second lines table two cut cut_other begins begins_other is =
      let none : table.definitions ≡ nothing_defined properties = none-defined table.version table.definitions two is.lines.well_formed.defined ∙ ap nothing_defined is.by_these in
      let same : table ≡ table_of Two (nothing_defined properties) table.entries = ap (λ (v : Version). table_of v table.definitions table.entries) two ∙ ap (λ (d : Definitions). table_of Two d table.entries) none in
      subst (λ (d : Definitions). IsTextOf properties Ruleset other (table_of Three d table.entries)) (sym none) (as_three properties text other first second lines table.entries cut cut_other begins begins_other (subst (IsTextOf properties Table text) same is))

-- ---- what is refused

module _ (definitions : Definitions) (entries : List Entry) (m n : Version) (label : List ℕ) where
  made-version : IsMadeOfSources (table_of m definitions entries) label → IsMadeOfSources (table_of n definitions entries) label
  made-version h = (h.0, record { of_table = h.1.of_table; joined = h.1.joined })

  -- readings ask for no version
  mappings-version : (reading : List Mapping) (place : ℕ) → MayAllBeMade (table_of m definitions entries) label place reading → MayAllBeMade (table_of n definitions entries) label place reading
  mappings-version [] place made = tt
  mappings-version (Stays e ∷ reading) place made = (tt, mappings-version reading (place + length e.source) made.1)
  mappings-version (Maps e v ∷ reading) place made = (made.0, mappings-version reading (place + length e.source) made.1)

  reading-version : (v : List ℕ) (reading : List Mapping) → IsReadingOf (table_of m definitions entries) label v reading → IsReadingOf (table_of n definitions entries) label v reading
  reading-version v reading is = record {
    segmentation = record { of_table = is.segmentation.of_table; joined = is.segmentation.joined; held = is.segmentation.held };
    made = mappings-version reading 0 is.made;
    joined = is.joined;
  }

  spells-version : (v : List ℕ) → Spells (table_of m definitions entries) label v → Spells (table_of n definitions entries) label v
  spells-version v spells =
      let r = (Spells-read (table_of m definitions entries) label v).0 spells in
      (Spells-read (table_of n definitions entries) label v).1 (r.0, reading-version v r.0 r.1)

-- variants that are made of sources are, in every version
module _ (definitions : Definitions) (entries : List Entry) (m n : Version) where
  all_made-version : (sequences : List (List ℕ)) → AllByRecursion (IsMadeOfSources (table_of m definitions entries)) sequences → AllByRecursion (IsMadeOfSources (table_of n definitions entries)) sequences
  all_made-version [] all = tt
  all_made-version (s ∷ sequences) all = (made-version definitions entries m n s all.0, all_made-version sequences all.1)

  variants-version : (some : List Entry) → AllByRecursion (λ (e : Entry). AllByRecursion (IsMadeOfSources (table_of m definitions entries)) (sequences_in e.variants)) some
      → AllByRecursion (λ (e : Entry). AllByRecursion (IsMadeOfSources (table_of n definitions entries)) (sequences_in e.variants)) some
  variants-version [] all = tt
  variants-version (e ∷ some) all = (all_made-version (sequences_in e.variants) all.0, variants-version some all.1)

-- sources of one code point
single-sources : (entries : List Entry) → AllByRecursion (λ (e : Entry). All (λ s. length s ≡ 1) (replacements e)) entries → AllByRecursion (λ (e : Entry). length e.source ≡ 1) entries
single-sources [] all = tt
single-sources (e ∷ entries) all = (
  All-contains (λ s. length s ≡ 1) (replacements e) e.source all.0 (Contains-head e.source (sequences_in e.variants)),
  single-sources entries all.1,
)

-- such a table asks nothing of its labels, and the ruleset of its entries asks nothing, too
module _ (table : TableValue) (single : IsSingle table) where
  earlier : table.version ≢ Three
  earlier three = (let clash : Two ≡ Three = sym single.version ∙ three in cc)

  nothing : AsksNothing table
  nothing = older-asks_nothing table single.of_table earlier

  nothing_in : (v : Version) → AsksNothing (table_of v table.definitions table.entries)
  nothing_in v =
      let alone = nothing.cuts_alone in
      record {
        cuts_alone = record {
          conditions = alone.conditions;
          demands = alone.demands;
          types = alone.types;
          actions = alone.actions;
        };
        cuts = inr (single-sources table.entries (recursion_from_All (λ (e : Entry). All (λ s. length s ≡ 1) (replacements e)) table.entries single.points), variants-version table.definitions table.entries table.version v table.entries single.sources);
      }

  sound_in : (v : Version) → IsSound (table_of v table.definitions table.entries)
  sound_in v = record { entries = single.of_table.well_formed; named = single.of_table.named; definitions = single.of_table.without_fault }

  admitted-version : (m n : Version) (label : List ℕ) → label ≢ [] → IsAdmitted (table_of m table.definitions table.entries) label → IsAdmitted (table_of n table.definitions table.entries) label
  admitted-version m n label some h =
      (nothing-is-asked.admitted (table_of n table.definitions table.entries) label single.of_table.well_formed (nothing-is-asked.of_sources (table_of n table.definitions table.entries) (nothing_in n)) some
      (made-version table.definitions table.entries m n label (admitted-made (table_of m table.definitions table.entries) label h))).0

  refused-version : (m n : Version) (label : List ℕ) (refusal : Refusal) → label ≢ [] → IsRefusedAs (table_of m table.definitions table.entries) label refusal → IsRefusedAs (table_of n table.definitions table.entries) label refusal
  refused-version m n label refusal some (inl h) = inl (λ made. h.0 (made-version table.definitions table.entries n m label made), h.1)
  refused-version m n label refusal some (inr h) = inr (made-version table.definitions table.entries m n label h.0, λ admitted. h.1 (admitted-version n m label some admitted), h.2)

  -- ---- the disposition of what is spelled

  abbrev in_version : Version → TableValue
  in_version v = table_of v table.definitions table.entries

  abbrev two : TableValue
  two = table_of Two table.definitions table.entries

  abbrev three : TableValue
  three = table_of Three table.definitions table.entries

  two_of_table : IsTable two
  two_of_table = subst (λ (v : Version). IsTable (table_of v table.definitions table.entries)) single.version single.of_table

  -- nothing is defined, so there are no actions
  no_actions : table.definitions.actions ≡ []
  no_actions = ap (λ (d : Definitions). d.actions) (none-defined table.version table.definitions single.version single.of_table.defined)

  -- the one type is blocked, of variants
  kinds-two : (number : ℕ) → IsKindOf two (Typed number) → number ≡ 1
  kinds-two number (of_source e there is) =
      let plain : IsOfVersion Two e = All-contains (IsOfVersion Two) table.entries e two_of_table.of_version there in
      absurd (let clash : Typed number ≡ Unmapped = is ∙ ap kind_of_source plain.0.0 in cc)
  kinds-two number (of_variant e v there among is) =
      let plain : IsOfVersion Two e = All-contains (IsOfVersion Two) table.entries e two_of_table.of_version there in
      elim (All-contains IsPlainOrBlocked e.variants v plain.1 among).0 [
        | inl none ↦ absurd (let clash : Typed number ≡ Untyped = is ∙ ap kind_of_variant none in cc)
        | inr blocked ↦ (let same : Typed number ≡ Typed 1 = is ∙ ap kind_of_variant blocked in cc)
      ]

  blocked-alone : (label v : List ℕ) (reading : List Mapping) (number : ℕ) → IsReadingOf three label v reading → Contains (kinds_of reading) (Typed number) → number ≡ 1
  blocked-alone label v reading number is c =
      kinds-two number (recorded-is two label v reading (Typed number) (reading-version table.definitions table.entries Three Two label v reading is) c)

  -- by what a reading records nothing is invalid
  three-outcome : (label v : List ℕ) (reading : List Mapping) → IsReadingOf three label v reading → disposition_by three v (kinds_of reading) ≢ Invalid
  three-outcome label v reading is e =
      default-valid (matches_rule three v) (kinds_of reading) (λ c. (let one = blocked-alone label v reading 0 is c in omega (arith, one)))
      (sym (ap (λ (actions : List NamedAction). outcome_of (matches_rule three v) (map (action_of table.definitions) actions) (kinds_of reading)) no_actions) ∙ e)

  pub kept_in : (n : Version) (label v : List ℕ) → ¬ IsLeftOut (in_version n) label v
  kept_in One label v out = let clash : One ≡ Three = out.of_ruleset in cc
  kept_in Two label v out = let clash : Two ≡ Three = out.of_ruleset in cc
  kept_in Three label v out = three-outcome label v out.invalid.0 out.invalid.1.reads out.invalid.2

  left-same : (label v : List ℕ) → v ≢ [] → Spells three label v → is_left_out three label v ≡ false
  left-same label v some spells = false_from_ne_true (is_left_out three label v) (λ e. kept_in Three label v ((left_out-told three label (sound_in Three) v some spells).0 e))

  -- each variant is clear, with one reading
  clear-three : (label v : List ℕ) → IsClear three label v
  clear-three label v = inr (λ one other is also. points_are_read_once.clear three label v single.of_table.well_formed single.points twice one other is.reads also.reads)
    where
      twice : HasNoVariantTwice three
      twice = points_are_read_once.not_twice three single.of_table.well_formed (free-two table single.of_table single.version)

  one-reading : (label v : List ℕ) (one other : List Mapping) → IsReadingOf three label v one → IsReadingOf three label v other → one ≡ other
  one-reading label v one other is also =
      points_are_read_once.once three label v one other single.of_table.well_formed single.points (points_are_read_once.not_twice three single.of_table.well_formed (free-two table single.of_table single.version)) is also

  -- that of the label itself has no type
  itself-untyped : (label : List ℕ) (reading : List Mapping) → IsReadingFor three label label reading → ¬ Contains (kinds_of reading) (Typed 1)
  itself-untyped label reading is c =
      let s = segmentation-itself three label reading is in
      untyped-kinds two s.0 1 two_of_table refl s.1.of_table (subst (λ ks. Contains ks (Typed 1)) s.2 c)

  lacking-allocatable : (label v : List ℕ) (reading : List Mapping) → v ≢ [] → IsReadingOf three label v reading → ¬ Contains (kinds_of reading) (Typed 1) → is_allocatable (disposition_by three v (kinds_of reading)) ≡ true
  lacking-allocatable label v [] some is lacks = absurd (some (sym is.joined))
  lacking-allocatable label v (m ∷ reading) some is lacks =
      let none : HasNoType (kinds_of (m ∷ reading)) = λ number c. lacks (subst (λ n. Contains (kinds_of (m ∷ reading)) (Typed n)) (blocked-alone label v (m ∷ reading) number is c) c) in
      ap is_allocatable (typeless-same (matches_rule three v) (actions_of table.definitions) (kind_of m) (kinds_of reading) none) ∙ free-allocatable three v no_actions

  pub allocatable-there : (label v : List ℕ) → v ≢ [] → Spells three label v → IsAllocatableIn Two two label v → IsAllocatableIn Three three label v
  allocatable-there label v some spells may =
      let there = some-outcome three label (sound_in Three) v spells in
      let reading = there.1.0 in
      let is = there.1.1 in
      let lacks : ¬ Contains (kinds_of reading) (Typed 1) = by_case reading is may in
      (clear-three label v, (there.0, there.1, ap is_allocatable (sym there.1.2) ∙ lacking-allocatable label v reading some is.reads lacks))
    where
      by_case : (reading : List Mapping) → IsReadingFor three label v reading → IsAllocatableIn Two two label v → ¬ Contains (kinds_of reading) (Typed 1)
      by_case reading is (inl same) c = itself-untyped label reading (subst (λ (w : List ℕ). IsReadingFor three label w reading) same is) c
      by_case reading is (inr h) c =
          h.2 (subst (λ (r : List Mapping). Contains (kinds_of r) (Typed 1)) (one-reading label v reading h.0 is.reads (reading-version table.definitions table.entries Two Three label v h.0 h.1)) c)

  pub allocatable-back : (label v : List ℕ) → IsAllocatableIn Three three label v → IsAllocatableIn Two two label v
  allocatable-back label v may =
      let h = may.1.1 in
      inr (h.0, reading-version table.definitions table.entries Three Two label v h.0 h.1.reads, λ c. blocked-blocks three label v h.0 refl no_actions h.1 c may)

  pub disposition-same : (label v : List ℕ) → v ≢ [] → Spells three label v → disposition two label v ≡ disposition three label v
  disposition-same label v some spells =
      let first : IsAllocation (IsAllocatableIn Two two label v) (disposition two label v) = disposition-IsDisposition two label (sound_in Two) v some (spells-version table.definitions table.entries Three Two label v spells) in
      let second = disposition-IsDisposition three label (sound_in Three) v some spells in
      by_clear first second
    where
      by_allocation : (f g : Option Disposition) → IsAllocation (IsAllocatableIn Two two label v) f → IsAllocation (IsAllocatableIn Three three label v) g → f ≡ g
      by_allocation f g (inl h) (inl k) = h.1 ∙ sym k.1
      by_allocation f g (inl h) (inr k) = absurd (k.0 (allocatable-there label v some spells h.0))
      by_allocation f g (inr h) (inl k) = absurd (h.0 (allocatable-back label v k.0))
      by_allocation f g (inr h) (inr k) = h.1 ∙ sym k.1

      by_clear : IsAllocation (IsAllocatableIn Two two label v) (disposition two label v) → IsFieldOf Three (IsClear three label v) (IsAllocatableIn Three three label v) (disposition three label v) → disposition two label v ≡ disposition three label v
      by_clear first (inl second) = by_allocation (disposition two label v) (disposition three label v) first second.1
      by_clear first (inr second) = absurd (second.0 (clear-three label v))

-- ---- what a run says

-- answers of lines, where labels have the same ones
answers-same : (answer other : List ℕ → LineAnswer) (body : Option (List ℕ)) → ((label : List ℕ) → answer label ≡ other label) → line_answer answer body ≡ line_answer other body
answers-same answer other None same = refl
answers-same answer other (Some bytes) same =
    ap (λ (a : LineAnswer). let r : LineAnswer = if is_utf8 bytes then (if length bytes == 0 then Err Empty else a) else Err NotUtf8 in r) (same (chars bytes))

-- what is said of an answer, where refusals have the same causes
statements-same : (how other : Explained) (line : Numbered) (answer : LineAnswer) → ((body : Option (List ℕ)) (refusal : Refusal) → body_cause how body refusal ≡ body_cause other body refusal) → answer_statements how line answer ≡ answer_statements other line answer
statements-same how other line (Ok said) same = refl
statements-same how other line (Err refusal) same = ap (λ (cause : Option LineCause). Refuses line refusal cause ∷ []) (same line.body refusal)

module _ (how how_too : Explained) (answer other : List ℕ → LineAnswer) (causes : (body : Option (List ℕ)) (refusal : Refusal) → body_cause how body refusal ≡ body_cause how_too body refusal) (answers : (label : List ℕ) → answer label ≡ other label) where
  line-same : (line : Numbered) → answer_statements how line (line_answer answer line.body) ≡ answer_statements how_too line (line_answer other line.body)
  line-same line = statements-same how how_too line (line_answer answer line.body) causes ∙ ap (answer_statements how_too line) (answers-same answer other line.body answers)

  lines-same : (lines : List Numbered) → lines_statements how answer lines ≡ lines_statements how_too other lines
  lines-same [] = refl
  lines-same (line ∷ lines) = ap (λ s. s ++ lines_statements how answer lines) (line-same line) ∙ ap (λ s. answer_statements how_too line (line_answer other line.body) ++ s) (lines-same lines)

  refused-same : (lines : List Numbered) → has_refused answer lines ≡ has_refused other lines
  refused-same [] = refl
  refused-same (line ∷ lines) = ap (λ a. is_err a || has_refused answer lines) (answers-same answer other line.body answers) ∙ ap (λ b. is_err (line_answer other line.body) || b) (refused-same lines)

-- ---- lists by tests and functions that are the same at each label

filter-alike : (p q : List ℕ → Bool) → ((v : List ℕ) → p v ≡ q v) → (vs : List (List ℕ)) → filter p vs ≡ filter q vs
filter-alike p q same [] = refl
filter-alike p q same (v ∷ vs) = ap (λ (b : Bool). cond b (v ∷ filter p vs) (filter p vs)) (same v) ∙ ap (λ (rest : List (List ℕ)). cond (q v) (v ∷ rest) rest) (filter-alike p q same vs)

map-alike : (f g : List ℕ → Said) → ((v : List ℕ) → f v ≡ g v) → (vs : List (List ℕ)) → map f vs ≡ map g vs
map-alike f g same [] = refl
map-alike f g same (v ∷ vs) = ap (λ (s : Said). s ∷ map f vs) (same v) ∙ ap (λ (rest : List Said). g v ∷ rest) (map-alike f g same vs)

option-alike : {X : Type 0} (f g : List ℕ → X) → ((v : List ℕ) → f v ≡ g v) → (o : Option (List ℕ)) → option_map f o ≡ option_map g o
option-alike f g same None = refl
option-alike f g same (Some v) = ap (λ x. let o = Some x in o) (same v)

-- on the members of a list alone
map-members : (f g : List ℕ → Said) (vs : List (List ℕ)) → ((v : List ℕ) → Contains vs v → f v ≡ g v) → map f vs ≡ map g vs
map-members f g [] same = refl
map-members f g (v ∷ vs) same = ap (λ (s : Said). s ∷ map f vs) (same v (Contains-head v vs)) ∙ ap (λ (rest : List Said). g v ∷ rest) (map-members f g vs (λ w c. same w (Contains-later v vs w c)))

filter-members : (p q : List ℕ → Bool) (vs : List (List ℕ)) → ((v : List ℕ) → Contains vs v → p v ≡ q v) → filter p vs ≡ filter q vs
filter-members p q [] same = refl
filter-members p q (v ∷ vs) same =
    ap (λ (b : Bool). cond b (v ∷ filter p vs) (filter p vs)) (same v (Contains-head v vs))
    ∙ ap (λ (rest : List (List ℕ)). cond (q v) (v ∷ rest) rest) (filter-members p q vs (λ w c. same w (Contains-later v vs w c)))

up_to-member : (stop : Option (List ℕ)) (vs : List (List ℕ)) (v : List ℕ) → Contains (up_to stop vs) v → Contains vs v
up_to-member None vs v c = c
up_to-member (Some b) vs v c = ((Contains-filter (λ w. is_le (label_cmp w b)) vs v).0 c).0

module _ (o : Settings) (table : TableValue) (single : IsSingle table) where
  abbrev older : TableValue
  older = table_of Two table.definitions table.entries

  abbrev newer : TableValue
  newer = table_of Three table.definitions table.entries

  abbrev of_version : Version → TableValue
  of_version v = table_of v table.definitions table.entries

  free : (v : Version) → asks_nothing (table_of v table.definitions table.entries) ≡ true
  free v = (tests-agree.nothing (table_of v table.definitions table.entries) single.of_table.well_formed).1 (nothing_in table single v)

  admitted-same : (label : List ℕ) → label ≢ [] → is_admitted older label ≡ is_admitted newer label
  admitted-same label some =
      let a = tests-agree.admitted older label (sound_in table single Two) in
      let b = tests-agree.admitted newer label (sound_in table single Three) in
      same_test (is_admitted older label) (is_admitted newer label) (λ h. b.1 (admitted-version table single Two Three label some (a.0 h))) (λ h. a.1 (admitted-version table single Three Two label some (b.0 h)))

  -- what is said of a label that is admitted, or a refusal
  answer-same : (label : List ℕ) (said other : List Said) → label ≢ [] → said ≡ other → if_admitted older label said ≡ if_admitted newer label other
  answer-same label said other some same =
      let answer : Bool → List Said → LineAnswer = λ b s. if b then Ok s else (if is_made_of_sources older label then Err NotValid else Err NotInTable) in
      ap (λ b. answer b said) (admitted-same label some) ∙ ap (answer (is_admitted newer label)) same

  -- of labels that may be registered
  abbrev registrable : List ℕ → Bool
  registrable = is_registrable o.properties

  abbrev lists : TableValue → List ℕ → Filter
  lists t label = without_left_out t label (registrable_labels o.properties)

  spelled-member : (label v : List ℕ) → Contains (in_order (spelled newer label)) v → Spells newer label v
  spelled-member label v c = (spelled-Spells newer label v single.of_table.well_formed).0 ((Contains-in_order (spelled newer label) v).0 c)

  accepts-same : (label v : List ℕ) → Spells newer label v → (lists older label).accepts v ≡ (lists newer label).accepts v
  accepts-same label v spells = by_test (registrable v) refl
    where
      by_test : (b : Bool) → registrable v ≡ b → (b && true) ≡ (b && not (is_left_out newer label v))
      by_test true is = sym (ap not (left-same table single label v (registrable-some o.properties v (is_registrable-from o.properties v is)) spells))
      by_test false is = refl

  listed-same : (label : List ℕ) → variants_after (lists older label) o (spelled newer label) ≡ variants_after (lists newer label) o (spelled newer label)
  listed-same label =
      filter-members (λ v. (lists older label).accepts v && is_gt (label_cmp v o.after)) (λ v. (lists newer label).accepts v && is_gt (label_cmp v o.after)) (in_order (spelled newer label))
      (λ v c. ap (λ b. b && is_gt (label_cmp v o.after)) (accepts-same label v (spelled-member label v c)))

  listed-spelled : (label v : List ℕ) → Contains (variants_after (lists newer label) o (spelled newer label)) v → IsRegistrable o.properties v × Spells newer label v
  listed-spelled label v c =
      let is = ((variants-AreVariants (lists newer label).accepts newer label o.after single.of_table.well_formed).members v).0 c in
      let parts = and_parts (registrable v) (not (is_left_out newer label v)) is.accepted in
      (is_registrable-from o.properties v parts.0, is.spelled)

  -- with these variants
  abbrev block_of : TableValue → List ℕ → List (List ℕ) → List Said
  block_of t label vs =
      let f = lists newer label in
      block_to (variant_by (field_of o t label)) (lesser_label (nth_if_given vs o.limit) (lesser_label (nth (tested_after f o (spelled newer label)) o.tries) (nth_if_given (visited_in f o (spelled newer label)) o.steps))) vs

  listed_lines-same : (label : List ℕ) (stop : Option (List ℕ)) →
      let vs = variants_after (lists newer label) o (spelled newer label) in
      map (variant_by (field_of o older label)) (up_to stop vs) ≡ map (variant_by (field_of o newer label)) (up_to stop vs)
  listed_lines-same label stop =
      let vs = variants_after (lists newer label) o (spelled newer label) in
      map-members (variant_by (field_of o older label)) (variant_by (field_of o newer label)) (up_to stop vs)
      (λ v c.
      let is = listed-spelled label v (up_to-member stop vs v c) in
      ap (λ (field : Option Disposition). Listed (shown (tells_causes o) field) v) (disposition-same table single label v (registrable-some o.properties v is.0) is.1))

  block-same : (label : List ℕ) → block o older label ≡ block o newer label
  block-same label =
      let vs = variants_after (lists newer label) o (spelled newer label) in
      let f = lists newer label in
      let stop = lesser_label (nth_if_given vs o.limit) (lesser_label (nth (tested_after f o (spelled newer label)) o.tries) (nth_if_given (visited_in f o (spelled newer label)) o.steps)) in
      ap (λ b. block_with (without_left_out older label (filter_if o.properties b older)) o older label) (free Two)
      ∙ ap (block_of older label) (listed-same label)
      ∙ ap (λ lines. lines ++ BlockEnd (length (up_to stop vs)) stop ∷ []) (listed_lines-same label stop)
      ∙ sym (ap (λ b. block_with (without_left_out newer label (filter_if o.properties b newer)) o newer label) (free Three))

  -- ---- what two labels are to each other

  variant-version : (m n : Version) (v w : List ℕ) → IsVariantOf o (of_version m) v w → IsVariantOf o (of_version n) v w
  variant-version m n v w is =
      let there = (spelled-Spells (of_version m) v w single.of_table.well_formed).1 is.listed.spelled in
      let spells = (spelled-Spells (of_version n) v w single.of_table.well_formed).0 there in record {
        good = record { registrable = is.good.registrable; admitted = admitted-version table single m n v (registrable-some o.properties v is.good.registrable) is.good.admitted };
        listed = record {
          registrable = is.listed.registrable;
          valid = nothing-is-asked.valid (of_version n) w (nothing_in table single n) (Spells-made (of_version n) v w spells);
          greater = is.listed.greater;
          spelled = spells;
          kept = kept_in table single n v w;
        };
      }

  variant-same : (v w : List ℕ) → is_variant_of registrable older v w ≡ is_variant_of registrable newer v w
  variant-same v w =
      let a = variant-told o older (sound_in table single Two) v w in
      let b = variant-told o newer (sound_in table single Three) v w in
      same_test (is_variant_of registrable older v w) (is_variant_of registrable newer v w) (λ h. b.1 (variant-version Two Three v w (a.0 h))) (λ h. a.1 (variant-version Three Two v w (b.0 h)))

  good-same : (v : List ℕ) → is_good registrable older v ≡ is_good registrable newer v
  good-same v = by_test (registrable v) refl
    where
      by_test : (b : Bool) → registrable v ≡ b → (b && is_admitted older v) ≡ (b && is_admitted newer v)
      by_test true is = admitted-same v (registrable-some o.properties v (is_registrable-from o.properties v is))
      by_test false is = refl

  barred-same : (v w : List ℕ) → is_barred registrable older v w ≡ is_barred registrable newer v w
  barred-same v w =
      let barred : Bool → Bool → Bool → Bool = λ a b c. not (a && b) && (not c && is_among (spelled (unasked older) v) w) in
      ap (λ a. barred a (is_good registrable older w) (is_variant_of registrable older v w)) (good-same v)
      ∙ ap (λ b. barred (is_good registrable newer v) b (is_variant_of registrable older v w)) (good-same w)
      ∙ ap (barred (is_good registrable newer v) (is_good registrable newer w)) (variant-same v w)

  regard-same : (v w : List ℕ) → regard_of registrable older v w ≡ regard_of registrable newer v w
  regard-same v w =
      let regard : Bool → Bool → Regard = λ a b. if a then regard_by (disposition older v w) else (if b then barred_in Two else NoVariant) in
      ap (λ a. regard a (is_barred registrable older v w)) (variant-same v w) ∙ ap (regard (is_variant_of registrable newer v w)) (barred-same v w)
      ∙ by_variant (is_variant_of registrable newer v w) refl (is_barred registrable newer v w)
    where
      by_variant : (a : Bool) → is_variant_of registrable newer v w ≡ a → (b : Bool)
          → (if a then regard_by (disposition older v w) else (if b then barred_in Two else NoVariant)) ≡ (if a then regard_by (disposition newer v w) else (if b then barred_in Three else NoVariant))
      by_variant true is b =
          let listed = ((variant-told o newer (sound_in table single Three) v w).0 is).listed in
          ap regard_by (disposition-same table single v w (registrable-some o.properties w listed.registrable) listed.spelled)
      by_variant false is true = refl
      by_variant false is false = refl

  regards-same : (label v : List ℕ) → regards_of registrable older label v ≡ regards_of registrable newer label v
  regards-same label v =
      let both : Regard → Regard → Regards = λ there back. record { there = there; back = back } in
      ap (λ there. both there (regard_of registrable older v label)) (regard-same label v) ∙ ap (both (regard_of registrable newer label v)) (regard-same v label)

  found-same : (registered : List (List ℕ)) (label : List ℕ) → collisions_after o older registered label ≡ collisions_after o newer registered label
  found-same registered label =
      filter-alike (λ v. is_gt (label_cmp v o.after) && is_found o older label v) (λ v. is_gt (label_cmp v o.after) && is_found o newer label v)
      (λ v. ap (λ r. is_gt (label_cmp v o.after) && (not (is_itself_left_out o label v) && is_either r)) (regards-same label v)) registered

  collision_block-same : (registered : List (List ℕ)) (label : List ℕ) → collision_block o older registered label ≡ collision_block o newer registered label
  collision_block-same registered label =
      let found = collisions_after o newer registered label in
      let stop = nth_if_given found o.limit in
      ap (λ vs. named_if o.others label (collisions_to (regards_of registrable older label) o.limit vs)) (found-same registered label)
      ∙ ap (λ lines. named_if o.others label (lines ++ BlockEnd (length (up_to stop found)) stop ∷ []))
      (map-alike (collision_by (regards_of registrable older label)) (collision_by (regards_of registrable newer label)) (λ v. ap (λ r. Collision r v) (regards-same label v)) (up_to stop found))

  among-same : (registered : Option (List (List ℕ))) (label : List ℕ) → block_among registered o older label ≡ block_among registered o newer label
  among-same None label = block-same label
  among-same (Some labels) label = collision_block-same labels label

  variants-answer-same : (label : List ℕ) → variants_answer o older label ≡ variants_answer o newer label
  variants-answer-same label = by_fault (first_fault o.properties label) refl
    where
      by_fault : (fault : Option Refusal) → first_fault o.properties label ≡ fault
          → unless_fault fault (if_admitted older label (block_among o.registered o older label)) ≡ unless_fault fault (if_admitted newer label (block_among o.registered o newer label))
      by_fault (Some refusal) is = refl
      by_fault None is = answer-same label (block_among o.registered o older label) (block_among o.registered o newer label) (registrable-some o.properties label is) (among-same o.registered label)

  jump-answer-same : (request : List ℕ) → jump_answer o.properties older request ≡ jump_answer o.properties newer request
  jump-answer-same request = by_fault (first_fault o.properties (requested_label request)) refl
    where
      least-same : (label text : List ℕ) → least_near o.properties older label text ≡ least_near o.properties newer label text
      least-same label text =
          option-alike (λ v. (v, regards_of registrable older label v)) (λ v. (v, regards_of registrable newer label v)) (λ v. ap (λ r. (v, r)) (regards-same label v)) (slice_get (candidates_among_from (near older label) text) 0)

      by_fault : (fault : Option Refusal) → first_fault o.properties (requested_label request) ≡ fault
          → unless_fault fault (least_answer o.properties older (requested_label request) (requested_text request)) ≡ unless_fault fault (least_answer o.properties newer (requested_label request) (requested_text request))
      by_fault (Some refusal) is = refl
      by_fault None is =
          let label = requested_label request in
          answer-same label (Least (least_near o.properties older label (requested_text request)) ∷ []) (Least (least_near o.properties newer label (requested_text request)) ∷ []) (registrable-some o.properties label is)
          (ap (λ found. Least found ∷ []) (least-same label (requested_text request)))

  table-cause-same : (label : List ℕ) (refusal : Refusal) → table_cause o.properties older label refusal ≡ table_cause o.properties newer label refusal
  unfolding furthest
  table-cause-same label refusal = refl

  listing-points-same : (points : List ℕ) (refusal : Refusal) → points_cause (ByTable o.properties older) points refusal ≡ points_cause (ByTable o.properties newer) points refusal
  unfolding points_cause
  listing-points-same points refusal = table-cause-same points refusal

  request-points-same : (points : List ℕ) (refusal : Refusal) → points_cause (ByRequest o.properties older) points refusal ≡ points_cause (ByRequest o.properties newer) points refusal
  unfolding points_cause
  request-points-same points refusal = table-cause-same (requested_label points) refusal

  bytes-cause-same : (b : Bool) (bad : LineCause) (cause other : Option LineCause) → cause ≡ other → (if b then cause else Some bad) ≡ (if b then other else Some bad)
  bytes-cause-same true bad cause other same = same
  bytes-cause-same false bad cause other same = refl

  listing-cause-same : (b : Bool) (body : Option (List ℕ)) (refusal : Refusal) → body_cause (if_wanted b (ByTable o.properties older)) body refusal ≡ body_cause (if_wanted b (ByTable o.properties newer)) body refusal
  listing-cause-same false body refusal = refl
  listing-cause-same true None refusal = refl
  listing-cause-same true (Some bytes) refusal = bytes-cause-same (is_utf8 bytes) (bad_byte bytes) (points_cause (ByTable o.properties older) (chars bytes) refusal) (points_cause (ByTable o.properties newer) (chars bytes) refusal) (listing-points-same (chars bytes) refusal)

  request-cause-same : (b : Bool) (body : Option (List ℕ)) (refusal : Refusal) → body_cause (if_wanted b (ByRequest o.properties older)) body refusal ≡ body_cause (if_wanted b (ByRequest o.properties newer)) body refusal
  request-cause-same false body refusal = refl
  request-cause-same true None refusal = refl
  request-cause-same true (Some bytes) refusal = bytes-cause-same (is_utf8 bytes) (bad_byte bytes) (points_cause (ByRequest o.properties older) (chars bytes) refusal) (points_cause (ByRequest o.properties newer) (chars bytes) refusal) (request-points-same (chars bytes) refusal)

  mode-statements-same : (mode : Mode) (lines : List Numbered) → mode ≢ PrintTable → mode_statements mode o older lines ≡ mode_statements mode o newer lines
  mode-statements-same Lookup lines other = refl
  mode-statements-same Register lines other = refl
  mode-statements-same Decode lines other = refl
  mode-statements-same DecodeOld lines other = refl
  mode-statements-same Variants lines other =
      lines-same (explained_in Variants o older) (explained_in Variants o newer) (variants_answer o older) (variants_answer o newer) (listing-cause-same (tells_causes o)) variants-answer-same lines
  mode-statements-same Jump lines other =
      lines-same (explained_in Jump o older) (explained_in Jump o newer) (jump_answer o.properties older) (jump_answer o.properties newer) (request-cause-same (tells_causes o)) jump-answer-same lines
  mode-statements-same CheckTable lines other = refl
  mode-statements-same PrintTable lines other = absurd (other refl)

  mode-status-same : (mode : Mode) (lines : List Numbered) → mode_status mode o older lines ≡ mode_status mode o newer lines
  mode-status-same Lookup lines = refl
  mode-status-same Register lines = refl
  mode-status-same Decode lines = refl
  mode-status-same DecodeOld lines = refl
  mode-status-same Variants lines =
      ap status_if (refused-same (explained_in Variants o older) (explained_in Variants o newer) (variants_answer o older) (variants_answer o newer) (listing-cause-same (tells_causes o)) variants-answer-same lines)
  mode-status-same Jump lines =
      ap status_if (refused-same (explained_in Jump o older) (explained_in Jump o newer) (jump_answer o.properties older) (jump_answer o.properties newer) (request-cause-same (tells_causes o)) jump-answer-same lines)
  mode-status-same CheckTable lines = refl
  mode-status-same PrintTable lines = refl

pub rulesets-say-the-same : RulesetsSayTheSame
rulesets-say-the-same = record {
  read = text-as_ruleset;
  said = λ o table lines other single.
      subst (λ (v : Version). statements o (Ok (table_of v table.definitions table.entries)) lines ≡ statements o (Ok (as_ruleset table)) lines) (sym single.version) (mode-statements-same o table single o.mode lines other);
  status = λ o table lines single.
      subst (λ (v : Version). status_of o (Ok (table_of v table.definitions table.entries)) lines ≡ status_of o (Ok (as_ruleset table)) lines) (sym single.version) (mode-status-same o table single o.mode lines);
  gaps = λ table. refl;
  allocatable = λ table label v single some spells.
      subst (λ (n : Version). IsAllocatableIn n (table_of n table.definitions table.entries) label v ↔ IsAllocatableIn Three (as_ruleset table) label v) (sym single.version)
      (allocatable-there table single label v some (spells-version table.definitions table.entries table.version Three label v spells), allocatable-back table single label v);
  refused = λ table label refusal single some. (refused-version table single table.version Three label refusal some, refused-version table single Three table.version label refusal some);
  valid = λ table label is older some. never-invalid table label is.well_formed (nothing-is-asked.of_sources table (older-asks_nothing table is (λ newer. (let clash : Two ≡ Three = sym older ∙ newer in cc)))) some;
}
