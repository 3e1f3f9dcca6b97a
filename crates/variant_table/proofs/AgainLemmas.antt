-- What a line gives again is told of the first of its words that does.
use Rattle.std.proofs.Common.{◌≡◌, inl, inr, ℕ, zero, suc, ◌+◌, ◌<◌, ◌≤◌, nat_lt, ◌==◌, ◌||◌, Bool, true, false, cond, List, [], ◌∷◌, ◌++◌, length, Option, Some, None, Result, Ok, Err, refl, sym, ap, subst, ◌∙◌, append_assoc, length-append, arith}
use Rattle.std.specs.Prelude.{bytes_eq, filter, is_some, map, option_map, slice_get, slice_index, slice_index_or}
use Rattle.std.specs.List.{AllByRecursion, list_any, range_with_len}
use Rattle.std.specs.Result.{result_ok}
use Rattle.std.specs.Str.Lines.{strip_carriage_return}
use Rattle.std.proofs.lemmas.Bool.{or_parts}
use Rattle.std.proofs.lemmas.Bool.Decides.{nat_tests}
use Rattle.std.proofs.lemmas.Slice.Eq.{bytes_eq-Decides}
use Rattle.idn_class.specs.declared.properties.Properties.{Properties}
use Rattle.idn_text.specs.Lines.{raw_lines}
use Rattle.ruleset_text.specs.declared.definition_line.DefinitionLine.{DefinitionLine}
use Rattle.ruleset_text.specs.declared.entry_notes.LinePoint.{LinePoint}
use Rattle.ruleset_text.specs.declared.fault.DefinitionFault.{DefinitionFault}
use Rattle.ruleset_text.specs.declared.fault.DefinitionFault.TheVariants as definitions
use Rattle.ruleset_text.specs.declared.fault.FaultPlace.{FaultPlace}
use Rattle.ruleset_text.specs.declared.fault.FaultPlace.TheVariants.{Source, Variant as VariantPlace}
use Rattle.ruleset_text.specs.declared.keyword.Keyword.{Keyword}
use Rattle.ruleset_text.specs.DefinitionOrder.{IsDefinitionFault}
use Rattle.ruleset_text.specs.DefinitionReading.{begun_by}
use Rattle.ruleset_text.specs.Definitions.{Definitions}
use Rattle.ruleset_text.specs.Entries.{Mapped, EntryForm}
use Rattle.ruleset_text.specs.EntryFaults.{begin_places, line_points, notes_of, variant_place}
use Rattle.ruleset_text.specs.EntryText.{IsSequence, IsMapped, IsForm}
use Rattle.ruleset_text.specs.Lexemes.{lexemes}
use Rattle.ruleset_text.specs.PlacedLexemes.{placed_lexemes, unplaced}
use Rattle.ruleset_text.specs.WellFormed.{AreDefinitions}
use Rattle.ruleset_text.proofs.EntryExactLemmas.{entry_read}
use Rattle.ruleset_text.proofs.EntryStopLemmas.{the_entry}
use Rattle.ruleset_text.proofs.SameNameLemmas.{same_name_told}
use Rattle.variant_table.specs.declared.fault.TableFault.{TableFault}
use Rattle.variant_table.specs.declared.fault.TableFault.TheVariants as tables
use Rattle.variant_table.specs.declared.version.Notation.{Notation}
use Rattle.variant_table.specs.declared.version.Version.{Version}
use Rattle.variant_table.specs.declared.version.Version.TheVariants.{One, Two, Three}
use Rattle.variant_table.specs.Conditions.{first_again, given_again, has_repeat, has_source_in, is_again, is_too_long, stands_in}
use Rattle.variant_table.specs.DefinitionLines.{keyword_in, line_fault, room_for_definitions}
use Rattle.variant_table.specs.Entries.{Variant, Entry, TableValue, full_replacements}
use Rattle.variant_table.specs.Faults.{LineFault}
use Rattle.variant_table.specs.Faults as faults
use Rattle.variant_table.specs.FaultyLines.{fault_place, place_in}
use Rattle.variant_table.specs.Forms.{HasForm, entries_of, entry_of, parts_of}
use Rattle.variant_table.specs.Limits.{line_limit, text_limit}
use Rattle.variant_table.specs.LinePlaces.{body_place, definition_line, form_place, place_by, read_by, read_place}
use Rattle.variant_table.specs.Ranges.{range_size}
use Rattle.variant_table.specs.Texts.{Holds, IsFirstFaulty, IsLineFault, LineCondition, bad_class, fault_of, no_form, no_such_name, order_of, over_limit, same_source, same_variant, too_long}
use Rattle.variant_table.specs.Versions.{head_of, size_of}
use Rattle.variant_table.specs.WellFormed.{AreApart}
use Rattle.variant_table.specs.WordsAgain.{BeginsOldSource, BeginsOldVariant, StandsBefore, TellsFirst, TellsFirstName}
use Rattle.variant_table.proofs.FaultyLineLemmas.{first_faulty_told}
use Rattle.variant_table.proofs.FormLemmas.{form-no_definition}
use Rattle.variant_table.proofs.LinePlaceLemmas.{keyword_placed, without_places}
use Rattle.variant_table.proofs.MemberLists.{any-one}
use Rattle.variant_table.proofs.NoteLemmas.{Numbered, again_bound, form_again, form_points, line_spells, mapped_points, numbered, one_alone, points_are, sequence_points, some_form, variants_counted}
use Rattle.variant_table.proofs.RepeatLemmas.{again_from, apart_from}

-- ---- the first variant that stands before

get-append : {X : Type 0} (xs ys : List X) (i : ℕ) → i < length xs → slice_get (xs ++ ys) i ≡ slice_get xs i
get-append [] ys i l = absurd (omega (arith, l))
get-append (x ∷ xs) ys zero l = refl
get-append (x ∷ xs) ys (suc i) l = get-append xs ys i (omega (arith, l))

get-next : {X : Type 0} (xs : List X) (y : X) (ys : List X) → slice_get (xs ++ y ∷ ys) (length xs) ≡ Some y
get-next [] y ys = refl
get-next (x ∷ xs) y ys = get-next xs y ys

get-found : {X : Type 0} (xs : List X) (i : ℕ) (x : X) → i < length xs → slice_index_or xs i x ≡ x → slice_get xs i ≡ Some x
get-found [] i x l e = absurd (omega (arith, l))
get-found (y ∷ xs) zero x l e = ap (λ z. Some z) e
get-found (y ∷ xs) (suc i) x l e = get-found xs i x (omega (arith, l)) e

none_such : {X : Type 0} (test : X → Bool) (xs : List X) (i : ℕ) (x : X) → list_any test xs ≡ false → slice_get xs i ≡ Some x → test x ≡ false
none_such test [] i x none e = absurd cc
none_such test (y ∷ xs) zero x none e = let same : y ≡ x = cc in ap test (sym same) ∙ (or_parts (test y) (list_any test xs) none).0
none_such test (y ∷ xs) (suc i) x none e = none_such test xs i x (or_parts (test y) (list_any test xs) none).1 e

abbrev is_again_of : Variant → Variant → Bool
is_again_of w v = is_again v.sequence v.condition w

stands : (before : List Variant) (w : Variant) (after : List Variant) → stands_in before w ≡ true → StandsBefore (before ++ w ∷ after) (length before)
stands before w after h =
    let found = (any-one (is_again_of w) before).0 h in
    let v : Variant = found.0 in
    let at = found.1 in (
      at.0,
      at.1,
      v,
      w,
      get-append before (w ∷ after) at.0 at.1 ∙ get-found before at.0 v at.1 at.2,
      get-next before w after,
      λ apart. (let clash : true ≡ false = sym found.2 ∙ again_from v w apart in cc),
    )

stands_not : (before : List Variant) (w : Variant) (after : List Variant) → stands_in before w ≡ false → StandsBefore (before ++ w ∷ after) (length before) → ⊥
stands_not before w after h (m, l, v, u, at, is, again) =
    let here : Some w ≡ Some u = sym (get-next before w after) ∙ is in
    let same : w ≡ u = cc in
    again (subst (AreApart v) same (apart_from v w (none_such (is_again_of w) before m v h (sym (get-append before (w ∷ after) m l) ∙ at))))

record IsFirstAgain (all : List Variant) (from n : ℕ) : Type 0 where
  stands : StandsBefore all n
  earlier : (m : ℕ) → from ≤ m → m < n → StandsBefore all m → ⊥

first_again_is : (variants before : List Variant) (n : ℕ) → first_again before variants ≡ Some n → IsFirstAgain (before ++ variants) (length before) n
first_again_is [] before n e = absurd cc
first_again_is (w ∷ variants) before n e = by (stands_in before w) refl e (first_again_is variants (before ++ w ∷ []) n)
  where
    by : (b : Bool) → stands_in before w ≡ b → cond b (Some (length before)) (first_again (before ++ w ∷ []) variants) ≡ Some n
        → (first_again (before ++ w ∷ []) variants ≡ Some n → IsFirstAgain ((before ++ w ∷ []) ++ variants) (length (before ++ w ∷ [])) n) → IsFirstAgain (before ++ w ∷ variants) (length before) n
    by true h k rest =
        let same : length before ≡ n = cc in
        record { stands = subst (StandsBefore (before ++ w ∷ variants)) same (stands before w variants h); earlier = λ m from l. absurd (omega (arith, same, from, l)) }
    by false h k rest =
        let later : IsFirstAgain (before ++ w ∷ variants) (length (before ++ w ∷ [])) n = subst (λ all. IsFirstAgain all (length (before ++ w ∷ [])) n) (append_assoc before (w ∷ []) variants) (rest k) in
        record { stands = later.stands; earlier = λ m from l s. after m from l s (m == length before) refl later }
      where
        after : (m : ℕ) → length before ≤ m → m < n → StandsBefore (before ++ w ∷ variants) m → (b : Bool) → (m == length before) ≡ b → IsFirstAgain (before ++ w ∷ variants) (length (before ++ w ∷ [])) n → ⊥
        after m from l s true is later = stands_not before w variants h (let same : m ≡ length before = grind (arith, nat_tests) in subst (StandsBefore (before ++ w ∷ variants)) same s)
        after m from l s false is later =
            let more : length (before ++ w ∷ []) ≡ length before + 1 = length-append before (w ∷ []) in
            later.earlier m (let above : length before + 1 ≤ m = grind (arith, nat_tests) in omega (arith, above, more)) l s

-- ---- where each sequence begins

-- the first code point of the sequence of this number, and of those before it only sequences of lesser numbers begin
record BeginsAt (points : List LinePoint) (from number : ℕ) : Type 0 where
  before : List LinePoint
  point : LinePoint
  after : List LinePoint
  cut : points ≡ before ++ point ∷ after
  index : point.index ≡ 0
  sequence : point.sequence ≡ from + number
  earlier : AllByRecursion (λ p. p.index ≡ 0 → p.sequence < from + number) before
  place : slice_get (begin_places points) number ≡ Some point.place

-- those of a sequence after its first one
record Passed (points : List LinePoint) (more : List Numbered) : Type 0 where
  passed : List LinePoint
  left : List LinePoint
  cut : points ≡ passed ++ left
  later : AllByRecursion (λ p. p.index ≡ 0 → ⊥) passed
  rest : map numbered left ≡ more
  begins : begin_places points ≡ begin_places left

begins_later : (p : LinePoint) (points : List LinePoint) → (p.index ≡ 0 → ⊥) → begin_places (p ∷ points) ≡ begin_places points
begins_later p points never =
    let other : (p.index == 0) ≡ false = grind (arith, nat_tests) in
    ap (λ b. map (λ (q : LinePoint). q.place) (cond b (p ∷ filter (λ q. q.index == 0) points) (filter (λ q. q.index == 0) points))) other

begins_here : (p : LinePoint) (points : List LinePoint) → p.index ≡ 0 → begin_places (p ∷ points) ≡ p.place ∷ begin_places points
begins_here p points is =
    let here : (p.index == 0) ≡ true = grind (arith, nat_tests) in
    ap (λ b. map (λ (q : LinePoint). q.place) (cond b (p ∷ filter (λ q. q.index == 0) points) (filter (λ q. q.index == 0) points))) here

pass : (cs : List ℕ) (s i : ℕ) (points : List LinePoint) (more : List Numbered) → map numbered points ≡ sequence_points s (i + 1) cs ++ more → Passed points more
pass [] s i points more e = record { passed = []; left = points; cut = refl; later = tt; rest = e; begins = refl }
pass (c ∷ cs) s i [] more e = absurd cc
pass (c ∷ cs) s i (p ∷ points) more e =
    let rest : map numbered points ≡ sequence_points s (i + 1 + 1) cs ++ more = cc in
    let first : numbered p ≡ record { point = c; sequence = s; index = i + 1 } = cc in
    let index : p.index ≡ i + 1 = ap (λ (n : Numbered). n.index) first in
    let never : p.index ≡ 0 → ⊥ = λ is. absurd (omega (arith, index, is)) in
    let r = pass cs s (i + 1) points more rest in
    record { passed = p ∷ r.passed; left = r.left; cut = ap (λ l. p ∷ l) r.cut; later = (never, r.later); rest = r.rest; begins = begins_later p points never ∙ r.begins }

all_passed : (from number : ℕ) (passed before : List LinePoint) → AllByRecursion (λ p. p.index ≡ 0 → ⊥) passed → AllByRecursion (λ p. p.index ≡ 0 → p.sequence < from + 1 + number) before
    → AllByRecursion (λ p. p.index ≡ 0 → p.sequence < from + suc number) (passed ++ before)
all_passed from number [] [] never are = tt
all_passed from number [] (p ∷ before) never are = (λ is. omega (arith, are.0 is), all_passed from number [] before tt are.1)
all_passed from number (p ∷ passed) before never are = (λ is. absurd (never.0 is), all_passed from number passed before never.1 are)

begin : (ms : List Mapped) (from number : ℕ) (points : List LinePoint) → AllByRecursion IsMapped ms → map numbered points ≡ mapped_points from ms → number < length ms → BeginsAt points from number
begin [] from number points are e l = absurd (omega (arith, l))
begin (m ∷ ms) from number points are e l = by m.points are.0.sequence points number e l (λ n left. begin ms (from + 1) n left are.1)
  where
    by : (cs : List ℕ) → IsSequence cs → (points : List LinePoint) (number : ℕ) → map numbered points ≡ sequence_points from 0 cs ++ mapped_points (from + 1) ms → number < length (m ∷ ms)
        → ((n : ℕ) (left : List LinePoint) → map numbered left ≡ mapped_points (from + 1) ms → n < length ms → BeginsAt left (from + 1) n) → BeginsAt points from number
    by [] is points number e l rest = absurd is
    by (c ∷ cs) is [] number e l rest = absurd cc
    by (c ∷ cs) is (p ∷ points) number e l rest = at number l
      where
        others : map numbered points ≡ sequence_points from (0 + 1) cs ++ mapped_points (from + 1) ms
        others = cc

        first : numbered p ≡ record { point = c; sequence = from; index = 0 }
        first = cc

        index : p.index ≡ 0
        index = ap (λ (n : Numbered). n.index) first

        sequence : p.sequence ≡ from
        sequence = ap (λ (n : Numbered). n.sequence) first

        at : (n : ℕ) → n < length (m ∷ ms) → BeginsAt (p ∷ points) from n
        at zero l = record {
          before = [];
          point = p;
          after = points;
          cut = refl;
          index = index;
          sequence = omega (arith, sequence);
          earlier = tt;
          place = ap (λ xs. slice_get xs 0) (begins_here p points index);
        }
        at (suc n) l =
            let passed = pass cs from 0 points (mapped_points (from + 1) ms) others in
            let r = rest n passed.left passed.rest (omega (arith, l)) in
            record {
              before = p ∷ (passed.passed ++ r.before);
              point = r.point;
              after = r.after;
              cut = ap (λ l. p ∷ l) (passed.cut ∙ ap (λ l. passed.passed ++ l) r.cut ∙ sym (append_assoc passed.passed r.before (r.point ∷ r.after)));
              index = r.index;
              sequence = omega (arith, r.sequence);
              earlier = (λ zeroth. omega (arith, sequence), all_passed from n passed.passed r.before passed.later r.earlier);
              place = ap (λ xs. slice_get xs (suc n)) (begins_here p points index) ∙ ap (λ xs. slice_get xs n) passed.begins ∙ r.place;
            }

-- the first code point of a form begins its source
record BeginsSource (points : List LinePoint) : Type 0 where
  point : LinePoint
  after : List LinePoint
  cut : points ≡ point ∷ after
  index : point.index ≡ 0
  sequence : point.sequence ≡ 0

source_begins : (c : ℕ) (more : List Numbered) (points : List LinePoint) → map numbered points ≡ record { point = c; sequence = 0; index = 0 } ∷ more → BeginsSource points
source_begins c more [] e = absurd cc
source_begins c more (p ∷ points) e =
    let first : numbered p ≡ record { point = c; sequence = 0; index = 0 } = cc in
    record { point = p; after = points; cut = refl; index = ap (λ (n : Numbered). n.index) first; sequence = ap (λ (n : Numbered). n.sequence) first }

form_begins : (ms : List Mapped) (last : Option ℕ) (points : List LinePoint) → IsForm ms last → map numbered points ≡ form_points last ms → BeginsSource points
form_begins [] last points is e = absurd is
form_begins (m ∷ ms) None points is e = by m.points is.0.sequence e
  where
    by : (cs : List ℕ) → IsSequence cs → map numbered points ≡ sequence_points 0 0 cs ++ mapped_points 1 ms → BeginsSource points
    by [] some e = absurd some
    by (c ∷ cs) some e = source_begins c (sequence_points 0 1 cs ++ mapped_points 1 ms) points e
form_begins (m ∷ []) (Some last) points is e =
    source_begins is.2.0 (record { point = last; sequence = 0; index = 1 } ∷ []) points (e ∙ ap (λ cs. sequence_points 0 0 cs ++ record { point = last; sequence = 0; index = 1 } ∷ []) is.2.1)
form_begins (m ∷ n ∷ ms) (Some last) points is e = absurd is

-- ---- the place of a line

none_of_map : {X Y : Type 0} (f : X → Y) (o : Option X) → option_map f o ≡ None → o ≡ None
none_of_map f None e = refl
none_of_map f (Some x) e = absurd cc

-- of an entry or a range
plain_place : (d : Definitions) (fault : TableFault) (v : Version) (line : List ℕ) (form : EntryForm) → HasForm v line form → body_place d fault v line ≡ form_place d fault form (notes_of d form line)
plain_place d fault v line form h =
    let no_keyword = sym (keyword_placed v line (definition_line v line) refl) ∙ form-no_definition v line form h in
    ap (place_by d fault v line) (none_of_map without_places (definition_line v line) no_keyword) ∙ ap (read_by d fault line) ((the_entry (parts_of v) line form).1 h)

ok_of : {X Y : Type 0} (r : Result X Y) (x : X) → result_ok r ≡ Some x → r ≡ Ok x
ok_of (Ok y) x e = let same : y ≡ x = cc in ap (λ z. Ok z) same
ok_of (Err error) x e = absurd cc

both_false : (a b : Bool) (place : Option FaultPlace) (past : Option FaultPlace) → (a || b) ≡ false → cond a past (cond b None place) ≡ place
both_false true b place past e = absurd cc
both_false false true place past e = absurd cc
both_false false false place past e = refl

module _ (bytes : ℕ) (t : TableValue) (line : List ℕ) where
  short_place : (fault : TableFault) → is_too_long t.version bytes line ≡ false → read_place t.definitions fault t.version bytes line ≡ body_place t.definitions fault t.version (strip_carriage_return line)
  short_place fault short = both_false (nat_lt (line_limit t.version) (length line)) (nat_lt (text_limit t.version) (bytes + length line + 1)) _ _ short

  short_of : (c : LineCondition) → 1 < order_of c → ((e : LineCondition) → order_of e < order_of c → Holds bytes t line e → ⊥) → is_too_long t.version bytes line ≡ false
  short_of c l earlier = by (is_too_long t.version bytes line) refl
    where
      by : (b : Bool) → is_too_long t.version bytes line ≡ b → b ≡ false
      by true h = absurd (earlier too_long l h)
      by false h = refl

  -- a source or a variant that is given again is told of no definition, and by one condition alone
  abbrev is_of_entry : LineFault → Bool
  is_of_entry faults.SameVariant = true
  is_of_entry faults.SameSource = true
  is_of_entry fault = false

  abbrev condition_of : LineFault → LineCondition
  condition_of faults.SameVariant = same_variant
  condition_of fault = same_source

  of_no_definition : (fault : DefinitionFault) → is_of_entry (line_fault fault) ≡ false
  of_no_definition definitions.Syntax = refl
  of_no_definition definitions.Limit = refl
  of_no_definition definitions.NoSuchName = refl
  of_no_definition definitions.BadClass = refl
  of_no_definition definitions.SameName = refl
  of_no_definition definitions.Memory = refl

  abbrev HoldsInShort : LineFault → Type 0
  HoldsInShort fault = (is_too_long t.version bytes line ≡ false) × Holds bytes t line (condition_of fault)

  entry_fault : (fault : LineFault) → is_of_entry fault ≡ true → IsLineFault bytes t line fault → HoldsInShort fault
  entry_fault fault is (inl (c, e, h, earlier)) = subst HoldsInShort e (by c (ap is_of_entry e ∙ is) h earlier)
    where
      by : (c : LineCondition) → is_of_entry (fault_of c) ≡ true → Holds bytes t line c → ((d : LineCondition) → order_of d < order_of c → Holds bytes t line d → ⊥) → HoldsInShort (fault_of c)
      by same_variant is h earlier = (short_of same_variant (omega arith) earlier, h)
      by same_source is h earlier = (short_of same_source (omega arith) earlier, h)
      by too_long is h earlier = absurd cc
      by no_form is h earlier = absurd cc
      by over_limit is h earlier = absurd cc
      by no_such_name is h earlier = absurd cc
      by bad_class is h earlier = absurd cc
  entry_fault fault is (inr (short, (keyword, after, wrong, n, defines, e))) = absurd (let clash : true ≡ false = sym is ∙ ap is_of_entry e ∙ of_no_definition wrong in cc)

  -- ---- a source

  pub source_told : (n : ℕ) → IsLineFault bytes t line faults.SameSource
      → TellsFirst (BeginsOldSource t) Source t.version (strip_carriage_return line) (read_place t.definitions (tables.SameSource n) t.version bytes line)
  source_told n fault =
      let is = entry_fault faults.SameSource refl fault in
      let form : EntryForm = is.1.0 in
      let has : HasForm t.version (strip_carriage_return line) form = is.1.1 in
      let body = strip_carriage_return line in
      let read = entry_read form body has.0 in
      let begins = form_begins form.mapped form.last (line_points form body) (line_spells body form read).0 (points_are body form read) in
      let old = (any-one (has_source_in t.entries) (entries_of t.definitions form)).0 is.1.2 in
      let e : Entry = old.0 in
      let before = (any-one (λ f. bytes_eq f.source e.source) t.entries).0 old.2 in
      let f : Entry = before.0 in
      record {
        form = form;
        spelled = has;
        point = begins.point;
        first = record {
          before = [];
          after = begins.after;
          cut = begins.cut;
          earlier = tt;
          has = (begins.sequence, begins.index, e, old.1, f, before.1, (bytes_eq-Decides f.source e.source).0 before.2);
        };
        told = short_place (tables.SameSource n) is.0 ∙ plain_place t.definitions (tables.SameSource n) t.version body form has
            ∙ ap (λ xs. option_map Source (slice_get xs 0)) (ap begin_places begins.cut ∙ begins_here begins.point begins.after begins.index);
      }

  -- ---- a variant

  some_of : {X : Type 0} (o : Option X) → is_some o ≡ true → (x : X) × (o ≡ Some x)
  some_of None e = absurd cc
  some_of (Some x) e = (x, refl)

  no_range : (d : Definitions) (ms : List Mapped) (last : Option ℕ) → IsForm ms last → list_any has_repeat (entries_of d (record { mapped = ms; last = last })) ≡ true → last ≡ None
  no_range d ms None is e = refl
  no_range d [] (Some last) is e = absurd is
  no_range d (m ∷ []) (Some last) is e = absurd (let clash : true ≡ false = sym e ∙ one_alone d m (range_with_len (slice_index m.points 0) (range_size (slice_index m.points 0) last)) in cc)
  no_range d (m ∷ n ∷ ms) (Some last) is e = absurd is

  each_mapped : (ms : List Mapped) (last : Option ℕ) → last ≡ None → IsForm ms last → AllByRecursion IsMapped ms
  each_mapped [] last none is = absurd is
  each_mapped (m ∷ ms) None none is = is
  each_mapped (m ∷ ms) (Some last) none is = absurd cc

  earlier_are : (all : List Variant) (n : ℕ) (before : List LinePoint) → IsFirstAgain all 0 n → AllByRecursion (λ p. p.index ≡ 0 → p.sequence < 0 + n) before
      → AllByRecursion (λ p. ((p.index ≡ 0) × StandsBefore all p.sequence) → ⊥) before
  earlier_are all n [] first are = tt
  earlier_are all n (p ∷ before) first are =
      (λ again. first.earlier p.sequence (omega arith) (let less = are.0 again.0 in omega (arith, less)) again.1, earlier_are all n before first are.1)

  pub variant_told : (n : ℕ) → IsLineFault bytes t line faults.SameVariant
      → TellsFirst (BeginsOldVariant t.definitions) VariantPlace t.version (strip_carriage_return line) (read_place t.definitions (tables.SameVariant n) t.version bytes line)
  variant_told n fault =
      let is = entry_fault faults.SameVariant refl fault in
      let form : EntryForm = is.1.0 in
      let has : HasForm t.version (strip_carriage_return line) form = is.1.1 in
      let d : Definitions = t.definitions in
      let body = strip_carriage_return line in
      let read = entry_read form body has.0 in
      let spelled = (line_spells body form read).0 in
      let all = full_replacements (entry_of d form.mapped) in
      let again = some_of (given_again (entry_of d form.mapped)) (form_again d form.mapped form.last spelled ∙ is.1.2) in
      let number : ℕ = again.0 in
      let first : IsFirstAgain all 0 number = first_again_is all [] number again.1 in
      let none = no_range d form.mapped form.last spelled is.1.2 in
      let within : number < length form.mapped = omega (arith, again_bound all [] number again.1, variants_counted d form.mapped (some_form form.mapped form.last spelled)) in
      let begins = begin form.mapped 0 number (line_points form body) (each_mapped form.mapped form.last none spelled) (points_are body form read ∙ ap (λ last. form_points last form.mapped) none) within in
      let is_number : number ≡ begins.point.sequence = omega (arith, begins.sequence) in
      record {
        form = form;
        spelled = has;
        point = begins.point;
        first = record {
          before = begins.before;
          after = begins.after;
          cut = begins.cut;
          earlier = earlier_are all number begins.before first begins.earlier;
          has = (begins.index, subst (StandsBefore all) is_number first.stands);
        };
        told = short_place (tables.SameVariant n) is.0 ∙ plain_place d (tables.SameVariant n) t.version body form has
            ∙ ap (variant_place (begin_places (line_points form body))) again.1 ∙ ap (option_map VariantPlace) begins.place;
      }

  -- ---- a name

  abbrev GivesName : Type 0
  GivesName =
      (keyword : Keyword) × (after : List (List ℕ)) × (keyword_in t.version (lexemes (strip_carriage_return line)) ≡ Some (keyword, after))
      × IsDefinitionFault (room_for_definitions t) t.definitions keyword after definitions.SameName

  name_first : IsLineFault bytes t line faults.SameName → (is_too_long t.version bytes line ≡ false) × GivesName
  name_first (inl (c, e, h, earlier)) = by c e
    where
      by : (c : LineCondition) → fault_of c ≡ faults.SameName → (is_too_long t.version bytes line ≡ false) × GivesName
      by too_long e = absurd cc
      by no_form e = absurd cc
      by over_limit e = absurd cc
      by no_such_name e = absurd cc
      by bad_class e = absurd cc
      by same_variant e = absurd cc
      by same_source e = absurd cc
  name_first (inr (short, (keyword, after, wrong, n, is, e))) = by wrong e is
    where
      by : (w : DefinitionFault) → faults.SameName ≡ line_fault w → IsDefinitionFault (room_for_definitions t) t.definitions keyword after w → (is_too_long t.version bytes line ≡ false) × GivesName
      by definitions.SameName e is = (short, (keyword, after, n, is))
      by definitions.Syntax e is = absurd cc
      by definitions.Limit e is = absurd cc
      by definitions.NoSuchName e is = absurd cc
      by definitions.BadClass e is = absurd cc
      by definitions.Memory e is = absurd cc

  pub name_told : (n : ℕ) → AreDefinitions t.definitions → IsLineFault bytes t line faults.SameName
      → TellsFirstName t.definitions (strip_carriage_return line) (read_place t.definitions (tables.SameName n) t.version bytes line)
  name_told n are fault = by (definition_line t.version body) refl
    where
      body : List ℕ
      body = strip_carriage_return line

      gives : (is_too_long t.version bytes line ≡ false) × GivesName
      gives = name_first fault

      begun : (v : Version) (defining : DefinitionLine) → definition_line v body ≡ Some defining → begun_by (length body) (placed_lexemes body) ≡ Ok defining
      begun One defining e = absurd cc
      begun Two defining e = absurd cc
      begun Three defining e = ok_of (begun_by (length body) (placed_lexemes body)) defining e

      by : (o : Option DefinitionLine) → definition_line t.version body ≡ o → TellsFirstName t.definitions body (read_place t.definitions (tables.SameName n) t.version bytes line)
      by None e = absurd (let clash : None ≡ Some (gives.1.0, gives.1.1) = sym (keyword_placed t.version body None (sym e)) ∙ gives.1.2 in cc)
      by (Some defining) e =
          let whole : Some (defining.keyword, unplaced defining.after) ≡ Some (gives.1.0, gives.1.1) = sym (keyword_placed t.version body (Some defining) (sym e)) ∙ gives.1.2 in
          let same : (gives.1.0, gives.1.1) ≡ (defining.keyword, unplaced defining.after) = cc in
          let wrong = subst (λ (p : Keyword × List (List ℕ)). IsDefinitionFault (room_for_definitions t) t.definitions p.0 p.1 definitions.SameName) same gives.1.3 in
          let told = same_name_told t.definitions (room_for_definitions t) (length body) (placed_lexemes body) defining are (begun t.version defining e) wrong in
          record { name = told.0; first = told.1; told = short_place (tables.SameName n) gives.0 ∙ ap (place_by t.definitions (tables.SameName n) t.version body) e ∙ told.2 }

-- ---- the first faulty line of a text

pub in_text : (properties : Properties) (notation : Notation) (text : List ℕ) (number : ℕ) (kind : LineFault) (fault : TableFault) (f : IsFirstFaulty properties notation text number kind)
    → read_place f.table.definitions fault f.table.version (size_of (head_of notation (raw_lines text)) + size_of f.before) f.line ≡ fault_place properties notation text fault
in_text properties notation text number kind fault f = sym (ap (place_in fault) (first_faulty_told properties notation text number kind f))
