-- What the entries of a line add.
use Rattle.std.proofs.Common.{◌≡◌, ℕ, ◌+◌, ◌-◌, ◌<◌, ◌≤◌, Bool, true, false, ◌||◌, cond, List, [], ◌∷◌, ◌++◌, length}
use Rattle.std.proofs.Common.{map, Option, Some, None, Result, Ok, Err, refl, sym, ap, subst, ◌∙◌, arith, length-append}
use Rattle.std.specs.Prelude.{find, is_some, nat_lt, slice_index_or}
use Rattle.std.specs.List.{AllByRecursion, list_any, range_with_len}
use Rattle.std.proofs.lemmas.Bool.{le-ltb, lt-ltb, not-false, not-true, or_from}
use Rattle.std.proofs.lemmas.List.FromFn.{length-map-range_with_len}
use Rattle.std.proofs.Math.Bool.{or-false}
use Rattle.idn_class.specs.declared.properties.Properties.{Properties}
use Rattle.ruleset_text.specs.Classes.{is_bad_point}
use Rattle.ruleset_text.specs.Definitions.{Definitions}
use Rattle.ruleset_text.specs.declared.entry_form.Mapped as held
use Rattle.ruleset_text.specs.declared.fault.FaultPlace.{FaultPlace}
use Rattle.ruleset_text.specs.declared.fault.FoundFaults.{FoundFaults}
use Rattle.ruleset_text.specs.Entries.{Mapped, EntryForm}
use Rattle.ruleset_text.specs.EntryFaults.{Notes, variant_place}
use Rattle.ruleset_text.specs.EntryForms.{mapped}
use Rattle.ruleset_text.specs.EntryText.{IsForm}
use Rattle.variant_table.specs.declared.fault.LineRefusal.{LineRefusal}
use Rattle.variant_table.specs.declared.version.Version.{Version}
use Rattle.variant_table.specs.declared.version.Version.TheVariants.{One, Two, Three}
use Rattle.variant_table.specs.Faults.{LineFault, Limit, Syntax, NoSuchName, BadClass, SameVariant, SameSource}
use Rattle.variant_table.specs.Faults.{SameName, table_fault}
use Rattle.variant_table.specs.Canonical.{table_text, written_text}
use Rattle.variant_table.specs.Conditions.{is_too_large, is_text_too_long, is_over_limit, has_bad_class, has_repeat, has_source_in}
use Rattle.variant_table.specs.Entries.{TableValue, Variant, Entry, entry_from, source_of}
use Rattle.variant_table.specs.Forms.{with_point, written_out, knows_all, source_mark, variant_by, sequences_of, entry_of, entries_of}
use Rattle.variant_table.specs.Limits.{text_limit, entry_limit}
use Rattle.variant_table.specs.Ranges.{range_size}
use Rattle.variant_table.specs.Reading.{◌>>=◌, with_entries, with_form, with_form_of}
use Rattle.variant_table.specs.WellFormed.{IsNamed}
use Rattle.variant_table.specs.inner.Held.{counted, IsCounted}
use Rattle.variant_table.specs.Building.{RefusedEntry, form_of}
use Rattle.variant_table.specs.LinePlaces.{form_place}
use Rattle.variant_table.specs.declared.fault.EntryFault.{EntryFault}
use Rattle.variant_table.specs.declared.fault.EntryFault.TheVariants as faults
use Rattle.variant_table.specs.inner.Drafts.{DraftSoFar, HasFound, form_with}
use Rattle.variant_table.specs.inner.Readers.{IsNotedAs, ReadSoFar, drafted, place_of, told_of}
use Rattle.variant_table.specs.inner.ReadingSteps.{Fails, with_new_source, with_new_sources}
use Rattle.variant_table.proofs.FormSteps.{IsRange, range_of}
use Rattle.variant_table.proofs.ConditionLemmas.{IsKnown, known_form, named_form, points_are, text_with}
use Rattle.variant_table.proofs.LengthLemmas.{range_lines}
use Rattle.variant_table.proofs.RangeLemmas.{points_bad, points_from, range_small, range_single, some_found, with_range}
use Rattle.variant_table.proofs.TestLemmas.{with_form-over, with_form-unnamed, with_form-entries, entries-bad, entries-again, entries-new}
use Rattle.ruleset_text.proofs.LineBytes.{all_joined}

-- ---- the bytes that are counted

counted-append : (v : Version) (a b : List ℕ) → counted v (a ++ b) ≡ counted v a + counted v b
counted-append One a b = refl
counted-append Two a b = length-append a b
counted-append Three a b = length-append a b

too_long-counted : (v : Version) (text : List ℕ) → is_text_too_long v text ≡ nat_lt (text_limit v) (counted v text)
too_long-counted One text = refl
too_long-counted Two text = refl
too_long-counted Three text = refl

-- so many bytes are left of the canonical text, and these entries are to be added
module _ (v : Version) (d : Definitions) (t : List Entry) (form : EntryForm) (left : ℕ) (so_far : IsCounted v d left t) where
  abbrev written : List (List Mapped)
  written = written_out form

  pub too_many : entry_limit v < length t + length written → with_form v d t form ≡ Err Limit
  too_many l =
      with_form-over v d t form (ap (λ b. (b || list_any is_too_large written) || is_text_too_long v (table_text v d t ++ written_text written)) (lt-ltb (entry_limit v) (length t + length written) l))

  pub too_large : list_any is_too_large written ≡ true → with_form v d t form ≡ Err Limit
  too_large h = with_form-over v d t form (ap (λ b. (nat_lt (entry_limit v) (length t + length written) || b) || is_text_too_long v (table_text v d t ++ written_text written)) h ∙ by_first (nat_lt (entry_limit v) (length t + length written)))
    where
      by_first : (b : Bool) → ((b || true) || is_text_too_long v (table_text v d t ++ written_text written)) ≡ true
      by_first true = refl
      by_first false = refl

  all_counted : counted v (table_text v d t ++ written_text written) ≡ counted v (table_text v d t) + counted v (written_text written)
  all_counted = counted-append v (table_text v d t) (written_text written)

  pub too_long : left < counted v (written_text written) → with_form v d t form ≡ Err Limit
  too_long l =
      let over : is_text_too_long v (table_text v d t ++ written_text written) ≡ true =
      too_long-counted v (table_text v d t ++ written_text written) ∙ lt-ltb (text_limit v) (counted v (table_text v d t ++ written_text written)) (omega (arith, l, so_far.count, all_counted)) in
      with_form-over v d t form (ap (λ b. (nat_lt (entry_limit v) (length t + length written) || list_any is_too_large written) || b) over ∙ or_true (nat_lt (entry_limit v) (length t + length written) || list_any is_too_large written))
    where
      or_true : (b : Bool) → (b || true) ≡ true
      or_true true = refl
      or_true false = refl

  pub not_over : length t + length written ≤ entry_limit v → list_any is_too_large written ≡ false → (rest : ℕ) → counted v (written_text written) + rest ≡ left → is_over_limit v d t written ≡ false
  not_over few small rest is =
      or_from (nat_lt (entry_limit v) (length t + length written) || list_any is_too_large written) (is_text_too_long v (table_text v d t ++ written_text written))
      (or_from (nat_lt (entry_limit v) (length t + length written)) (list_any is_too_large written) (le-ltb (entry_limit v) (length t + length written) few) small)
      (too_long-counted v (table_text v d t ++ written_text written) ∙ le-ltb (text_limit v) (counted v (table_text v d t ++ written_text written)) (omega (arith, is, so_far.count, all_counted)))

  pub counted_with : AllByRecursion (IsKnown d) written → (es : List Entry) → es ≡ map (entry_of d) written → AllByRecursion (IsNamed d) es → (rest : ℕ) → counted v (written_text written) + rest ≡ left → IsCounted v d rest (t ++ es)
  counted_with known es are named rest is = record {
    count = (let text : counted v (table_text v d (t ++ es)) ≡ counted v (table_text v d t ++ written_text written) = ap (λ x. counted v (table_text v d (t ++ x))) are ∙ ap (counted v) (text_with v d t written known) in
        omega (arith, text, is, so_far.count, all_counted));
    named = all_joined (IsNamed d) t es so_far.named named;
  }

-- with new sources
new_table : (b : Bool) (t es t' : List Entry) → cond b (Err SameSource) (Ok (t ++ es)) ≡ Ok t' → t' ≡ t ++ es
new_table true t es t' h = absurd cc
new_table false t es t' h = cc

-- ---- what a reader adds

-- a call fails with this fault
pub fails_with : {Y : Type 0} (number : ℕ)
    (kind : LineFault) {read : Result Y LineFault} {r : LineRefusal} {place : Option FaultPlace}
    → r ≡ record { fault = table_fault number kind; place = place } → read ≡ Err kind → Fails number r.fault read
fails_with number kind {read} is e = subst (λ x. Fails number x.fault read) (sym is) (by kind e)
  where
    by : (kind : LineFault) → read ≡ Err kind → Fails number (table_fault number kind) read
    by Limit h = (refl, h)
    by Syntax h = (refl, h)
    by BadClass h = (refl, h)
    by SameVariant h = (refl, h)
    by SameSource h = (refl, h)
    by NoSuchName h = (refl, h)
    by SameName h = (refl, h)

-- an entry that is refused is told of its line, and where
pub entry_fails : (number : ℕ) (t : TableValue) (ms : List Mapped) (f : EntryFault) → IsForm ms None → RefusedEntry t ms f
    → Fails number (told_of number f) (with_form_of t (form_of ms))
entry_fails number t ms faults.Syntax form told = absurd (told form)
entry_fails number t ms faults.Limit form told = (refl, told.1)
entry_fails number t ms faults.NoSuchName form told = (refl, told.1)
entry_fails number t ms faults.BadClass form told = (refl, told.1)
entry_fails number t ms (faults.SameVariant again) form told = (refl, told.0.1)
entry_fails number t ms faults.SameSource form told = (refl, told.1)
entry_fails number t ms faults.Memory form told = tt

pub entry_placed : (number : ℕ) (t : TableValue) (ms : List Mapped) (notes : Notes) (f : EntryFault) → RefusedEntry t ms f
    → place_of notes f ≡ form_place t.definitions (told_of number f) (form_of ms) notes
entry_placed number t ms notes faults.Syntax told = refl
entry_placed number t ms notes faults.Limit told = refl
entry_placed number t ms notes faults.NoSuchName told = refl
entry_placed number t ms notes faults.BadClass told = refl
entry_placed number t ms notes (faults.SameVariant again) told = ap (variant_place notes.begins) (sym told.1)
entry_placed number t ms notes faults.SameSource told = refl
entry_placed number t ms notes faults.Memory told = refl

-- what is noted of a line is found of it
abbrev pub found_by : Notes → FoundFaults
found_by n = record { limit = is_some n.faults.limit; name = is_some n.faults.name; class = is_some n.faults.class }

pub noted_found : {form : EntryForm} {found : FoundFaults} {r : ReadSoFar} → IsNotedAs form r → found ≡ found_by r.notes → HasFound form found (drafted r)
noted_found {form} {found} {r} h is =
    subst (λ f. HasFound form f (drafted r)) (sym is) (record {
      form = h.form;
      faults = record { limit = h.faults.limit; name = h.faults.name; class = h.faults.class };
      counted = h.counted;
    })

-- r is what is held in fields, which is what there is so far
module _ {r now : DraftSoFar} (is : r ≡ now) where
  abbrev v : Version
  v = r.table.version

  abbrev d : Definitions
  d = r.table.definitions

  abbrev t : List Entry
  t = r.table.entries

  -- what the entries are makes the table
  told : (form : EntryForm) (fault : LineFault) → with_form v d t form ≡ Err fault
      → with_form_of now.table form ≡ Err fault
  told form fault e = subst (λ x. with_form_of x.table form ≡ Err fault) is
      (ap (λ x. x >>= λ all. Ok (record r.table { entries = all })) e)

  added : (form : EntryForm) (all : List Entry) → with_form v d t form ≡ Ok all
      → with_form_of now.table form ≡ Ok (record r.table { entries = all })
  added form all e =
      subst (λ x. with_form_of x.table form ≡ Ok (record r.table { entries = all })) is
      (ap (λ x. x >>= λ es. Ok (record r.table { entries = es })) e)

  -- ---- an entry

  module _ (items : List held.Mapped) (found : FoundFaults) (found-now : HasFound (form_with items None) found now) where
    abbrev ms : List Mapped
    ms = map mapped items

    abbrev entry_form : EntryForm
    entry_form = form_with items None

    noted : HasFound entry_form found r
    noted = subst (HasFound entry_form found) (sym is) found-now

    pub entry_too_many : entry_limit v ≤ length t → with_form_of now.table entry_form ≡ Err Limit
    entry_too_many l = told entry_form Limit (too_many v d t entry_form r.left noted.counted (omega (arith, l)))

    pub entry_too_long : r.left < counted v (written_text (ms ∷ [])) → with_form_of now.table entry_form ≡ Err Limit
    entry_too_long l = told entry_form Limit (too_long v d t entry_form r.left noted.counted l)

    pub entry_too_large : found.limit ≡ true → with_form_of now.table entry_form ≡ Err Limit
    entry_too_large h = told entry_form Limit
        (too_large v d t entry_form r.left noted.counted (sym noted.faults.limit ∙ h))

    module _ (few : length t < entry_limit v) (small : found.limit ≡ false) (rest : ℕ)
        (rest-is : counted v (written_text (ms ∷ [])) + rest ≡ r.left) where
      fits : is_over_limit v d t (ms ∷ []) ≡ false
      fits = not_over v d t entry_form r.left noted.counted (omega (arith, few))
          (sym noted.faults.limit ∙ small) rest rest-is

      pub entry_unnamed : found.name ≡ true → with_form_of now.table entry_form ≡ Err NoSuchName
      entry_unnamed h = told entry_form NoSuchName
          (with_form-unnamed v d t entry_form fits (not-true (knows_all d ms) (sym noted.faults.name ∙ h)))

      module _ (named : found.name ≡ false) where
        pub entry_known : knows_all d ms ≡ true
        entry_known = not-false (knows_all d ms) (sym noted.faults.name ∙ named)

        read : with_form v d t entry_form ≡ with_entries d.properties t (entry_of d ms ∷ [])
        read = with_form-entries v d t entry_form fits entry_known

        pub entry_bad : found.class ≡ true → with_form_of now.table entry_form ≡ Err BadClass
        entry_bad h = told entry_form BadClass (read
            ∙ entries-bad d.properties t (entry_of d ms ∷ []) (sym (noted.faults.class refl) ∙ h))

        module _ (good : found.class ≡ false) (ss : List Variant)
            (are : ss ≡ sequences_of d ms) where
          abbrev e : Entry
          e = entry_from ss

          taken : e ≡ entry_of d ms
          taken = ap entry_from are

          repeats : {b : Bool} → has_repeat e ≡ b → (has_repeat (entry_of d ms) || false) ≡ (b || false)
          repeats h = ap (λ x. x || false) (ap has_repeat (sym taken) ∙ h)

          class : list_any (has_bad_class d.properties) (entry_of d ms ∷ []) ≡ false
          class = sym (noted.faults.class refl) ∙ good

          pub entry_again : has_repeat e ≡ true → with_form_of now.table entry_form ≡ Err SameVariant
          entry_again h = told entry_form SameVariant
              (read ∙ entries-again d.properties t (entry_of d ms ∷ []) class (repeats h))

          module _ (once : has_repeat e ≡ false) where
            new : with_form v d t entry_form ≡ with_new_source t e
            new =
                read ∙ entries-new d.properties t (entry_of d ms ∷ []) class (repeats once)
                ∙ ap (λ x. cond x (Err SameSource) (Ok (t ++ entry_of d ms ∷ [])))
                (or-false (has_source_in t (entry_of d ms))) ∙ ap (with_new_source t) (sym taken)

            pub entry_there : with_new_source t e ≡ Err SameSource
                → with_form_of now.table entry_form ≡ Err SameSource
            entry_there h = told entry_form SameSource (new ∙ h)

            module _ (t' : List Entry) (h : with_new_source t e ≡ Ok t') where
              pub entry_added : with_form_of now.table entry_form ≡ Ok (record r.table { entries = t' })
              entry_added = added entry_form t' (new ∙ h)

              pub entry_counted : IsCounted v d rest t'
              entry_counted =
                  subst (IsCounted v d rest) (sym (new_table (has_source_in t (entry_of d ms)) t
                  (entry_of d ms ∷ []) t' (ap (with_new_source t) (sym taken) ∙ h)))
                  (counted_with v d t entry_form r.left noted.counted (known_form d None ms noted.form entry_known)
                  (entry_of d ms ∷ []) refl (named_form d None ms noted.form entry_known) rest rest-is)

  -- ---- a range

  module _ (items : List held.Mapped) (x : held.Mapped) (first last : ℕ)
      (found : FoundFaults) (found-now : HasFound (form_with items (Some last)) found now) (at : x ≡ slice_index_or items 0 x)
      (begins : first ≡ slice_index_or x.points.items 0 first) where
    range : IsRange items x first last
    range = range_of items x first last found-now.form at begins

    abbrev count : ℕ
    count = last - first + 1

    abbrev m : Mapped
    m = mapped x

    abbrev given : EntryForm
    given = form_with items (Some last)

    abbrev range_form : EntryForm
    range_form = record { mapped = m ∷ []; last = Some last }

    range_noted : HasFound range_form found r
    range_noted =
        subst (λ xs. HasFound (form_with xs (Some last)) found r) range.one
        (subst (HasFound given found) (sym is) found-now)

    lines : written_out range_form ≡ range_lines m first count
    lines =
        ap (λ f. range_lines m f (range_size f last)) range.first_is
        ∙ ap (range_lines m first) (let same : last + 1 - first ≡ count = omega (arith, range.rises) in same)

    length-lines : length (written_out range_form) ≡ count
    length-lines = ap length lines ∙ length-map-range_with_len (λ c. with_point m c ∷ []) first count

    one : with_form v d t given ≡ with_form v d t range_form
    one = ap (λ xs. with_form v d t (form_with xs (Some last))) range.one

    range_told : (fault : LineFault) → with_form v d t range_form ≡ Err fault → with_form_of now.table given ≡ Err fault
    range_told fault e = told given fault (one ∙ e)

    pub range_too_many : entry_limit v < length t + count → with_form_of now.table given ≡ Err Limit
    range_too_many l = range_told Limit (too_many v d t range_form r.left range_noted.counted
        (omega (arith, l, length-lines)))

    pub range_too_long : r.left < counted v (written_text (range_lines m first count))
        → with_form_of now.table given ≡ Err Limit
    range_too_long l =
        range_told Limit
        (too_long v d t range_form r.left range_noted.counted
        (subst (λ es. r.left < counted v (written_text es)) (sym lines) l))

    module _ (few : length t + count ≤ entry_limit v) (rest : ℕ)
        (rest-is : counted v (written_text (range_lines m first count)) + rest ≡ r.left) where
      text_left : counted v (written_text (written_out range_form)) + rest ≡ r.left
      text_left = ap (λ es. counted v (written_text es) + rest) lines ∙ rest-is

      range_fits : is_over_limit v d t (written_out range_form) ≡ false
      range_fits =
          not_over v d t range_form r.left range_noted.counted (omega (arith, few, length-lines))
          (ap (list_any is_too_large) lines ∙ range_small m (range_with_len first count)) rest text_left

      pub range_unnamed : found.name ≡ true → with_form_of now.table given ≡ Err NoSuchName
      range_unnamed h =
          range_told NoSuchName
          (with_form-unnamed v d t range_form range_fits
          (not-true (knows_all d (m ∷ [])) (sym range_noted.faults.name ∙ h)))

      module _ (named : found.name ≡ false) where
        known : knows_all d (m ∷ []) ≡ true
        known = not-false (knows_all d (m ∷ [])) (sym range_noted.faults.name ∙ named)

        pub range_known : knows_all d (map mapped items) ≡ true
        range_known = ap (λ xs. knows_all d (map mapped xs)) range.one ∙ known

        es : List Entry
        es = points_from (variant_by source_mark d m) first count

        es-are : entries_of d range_form ≡ es
        unfolding es
        es-are = ap (map (entry_of d)) lines ∙ points_are d m (range_with_len first count)

        range_read : with_form v d t range_form ≡ with_entries d.properties t es
        range_read =
            with_form-entries v d t range_form range_fits known ∙ ap (with_entries d.properties t) es-are

        -- the first code point that no table may hold, by the properties that the definitions have
        module _ {p : Properties} (p-is : p ≡ d.properties) (bad : Option ℕ)
            (bad-is : bad ≡ find (is_bad_point p) (range_with_len first count)) where
          class_in : list_any (has_bad_class d.properties) es ≡ is_some bad
          unfolding es
          class_in =
              sym (points_bad d.properties (variant_by source_mark d m) (range_with_len first count))
              ∙ sym (some_found (is_bad_point d.properties) (range_with_len first count))
              ∙ ap (λ q. is_some (find (is_bad_point q) (range_with_len first count))) (sym p-is)
              ∙ ap is_some (sym bad-is)

          pub range_bad : is_some bad ≡ true → with_form_of now.table given ≡ Err BadClass
          range_bad h = range_told BadClass (range_read ∙ entries-bad d.properties t es (class_in ∙ h))

          module _ (good : is_some bad ≡ false) (ss : List Variant)
              (taken : ss ≡ sequences_of d (map mapped items)) where
            abbrev w : Variant
            w = source_of (entry_from ss)

            w-is : w ≡ variant_by source_mark d m
            w-is =
                ap (λ vs. source_of (entry_from vs)) (taken ∙ ap (λ xs. sequences_of d (map mapped xs)) range.one)

            here : with_new_sources t (points_from (variant_by source_mark d m) first count)
                ≡ with_new_sources t (points_from w first count)
            here = ap (λ u. with_new_sources t (points_from u first count)) (sym w-is)

            range_new : with_form v d t range_form ≡ with_new_sources t (points_from w first count)
            unfolding es
            range_new =
                range_read
                ∙ entries-new d.properties t es (class_in ∙ good) (range_single (variant_by source_mark d m) first count)
                ∙ sym (with_range (variant_by source_mark d m) t first count) ∙ here

            pub range_there : with_new_sources t (points_from w first count) ≡ Err SameSource
                → with_form_of now.table given ≡ Err SameSource
            range_there h = range_told SameSource (range_new ∙ h)

            module _ (t' : List Entry) (h : with_new_sources t (points_from w first count) ≡ Ok t') where
              pub range_added : with_form_of now.table given ≡ Ok (record r.table { entries = t' })
              range_added = added given t' (one ∙ range_new ∙ h)

              pub range_counted : IsCounted v d rest t'
              unfolding es
              range_counted =
                  subst (IsCounted v d rest)
                  (sym (new_table (list_any (has_source_in t) es) t es t'
                  (sym (with_range (variant_by source_mark d m) t first count) ∙ here ∙ h)))
                  (counted_with v d t range_form r.left range_noted.counted
                  (known_form d (Some last) (m ∷ []) range_noted.form known) es (sym es-are)
                  (subst (AllByRecursion (IsNamed d)) es-are (named_form d (Some last) (m ∷ []) range_noted.form known))
                  rest text_left)
