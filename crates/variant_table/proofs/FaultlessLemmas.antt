-- Lines without a fault are read as what they spell, and other lines up to the first faulty one.
use Rattle.std.proofs.Common.{◌≡◌, ◌⊎◌, inl, inr, ℕ, suc, Option, Some, None, ◌+◌, ◌-◌, ◌≤◌, Bool, true, false, ◌||◌, cond, List, [], ◌∷◌, ◌++◌, length, Result, Ok, Err, refl, sym, ap, subst, ◌∙◌, arith, append_assoc, length-append}
use Rattle.std.specs.Prelude.{nat_lt, bytes_eq}
use Rattle.std.specs.List.{All, AllByRecursion, list_any}
use Rattle.std.specs.Str.Lines.{strip_carriage_return}
use Rattle.std.proofs.lemmas.Bool.{ltb-false, le-ltb, or_parts, or_from, false_from_ne_true}
use Rattle.std.proofs.lemmas.List.{append-nil, length-map}
use Rattle.std.proofs.lemmas.List.Concat.{flat_map-append}
use Rattle.std.proofs.lemmas.List.Elements.{All-from_recursion, recursion_from_All}
use Rattle.std.proofs.lemmas.Slice.Eq.{bytes_eq-Decides}
use Rattle.idn_text.specs.Lines.{raw_lines}
use Rattle.ruleset_text.specs.declared.fault.DefinitionFault.{DefinitionFault}
use Rattle.ruleset_text.specs.declared.keyword.Keyword.{Keyword}
use Rattle.ruleset_text.specs.Definitions.{Definitions, canonical_size, defined, definitions_text, nothing_defined}
use Rattle.ruleset_text.specs.Entries.{Mapped, EntryForm}
use Rattle.ruleset_text.specs.EntryText.{IsForm}
use Rattle.ruleset_text.specs.Lexemes.{lexemes}
use Rattle.ruleset_text.specs.WellFormed.{AreDefinitions}
use Rattle.ruleset_text.proofs.AddedLemmas.{nothing_counted}
use Rattle.ruleset_text.proofs.DefinedLemmas.{Grown, defined_grows, NamesStay, names_stay}
use Rattle.ruleset_text.proofs.DefinitionsTextLemmas.{definitions_text-length}
use Rattle.variant_table.specs.Faults.{LineFault, Limit, Syntax}
use Rattle.variant_table.specs.declared.version.Notation.{Notation}
use Rattle.variant_table.specs.declared.version.Notation.TheVariants.{Table, Ruleset}
use Rattle.variant_table.specs.declared.version.Version.{Version}
use Rattle.variant_table.specs.declared.version.Version.TheVariants.{One, Two, Three}
use Rattle.variant_table.specs.DefinitionLines.{keyword_in, room_for_definitions, Defines}
use Rattle.variant_table.specs.Entries.{Entry, IsOfVersion, TableValue, empty_table}
use Rattle.variant_table.specs.Canonical.{canonical_line, canonical_text, head_text, table_text, version_line, written_text}
use Rattle.variant_table.specs.Limits.{line_limit, text_limit, entry_limit}
use Rattle.variant_table.specs.Versions.{version_of, head_of, body_of, size_of, is_version_line}
use Rattle.variant_table.specs.WellFormed.{AreOfVersion, HasPointsBy, IsEntry, IsNamed, IsTable}
use Rattle.variant_table.specs.Conditions.{is_too_long, is_too_large, is_text_too_long, has_repeat, has_source_in}
use Rattle.variant_table.specs.Forms.{HasForm, has_form, written_out, knows_all, entry_of, entries_of}
use Rattle.variant_table.specs.Texts.{LineSpells, LineAdds, LinesSpell, AreLinesOf, IsTextOf}
use Rattle.variant_table.specs.Reading.{◌>>=◌, is_skipped, in_line, defining, with_definition, with_form, with_form_of, with_line, with_raw_line, with_lines, table_in, table_of_lines, table_of_text}
use Rattle.variant_table.proofs.FormLemmas.{skipped, defines, of_entries, formless, form_of, with_line-skipped, with_line-defines, with_line-form, with_line-formless, skipped-no_definition, LineSpells-skipped, none, some, spelling_of}
use Rattle.variant_table.proofs.ConditionLemmas.{entries_good, single_from_entry, small_entries, IsKnown, known_form, text_with, named_spelled, AreNewSources, distinct_sources, new_sources, no_sources, sound_form}
use Rattle.variant_table.proofs.GrownLemmas.{named_on, text_stays}
use Rattle.variant_table.proofs.TestLemmas.{with_form-by}
use Rattle.variant_table.proofs.LimitLemmas.{text_limit-least, entry_limit-most}
use Rattle.variant_table.proofs.SizeLemmas.{length-stripped, adds_version, canonical_text_long, length-one, size_of-cons}
use Rattle.idn_class.specs.declared.properties.Properties.{Properties}

abbrev pub WholeTable : Type 0
WholeTable = Result TableValue (ℕ × LineFault)

-- ---- the canonical text is within the limit

pub length-text : (v : Version) (d : Definitions) (t : List Entry) → length (table_text v d t) ≡ length (head_text v) + canonical_size d + length (canonical_text d t)
length-text v d t =
    omega (arith, length-append (head_text v) (definitions_text d ++ canonical_text d t), length-append (definitions_text d) (canonical_text d t), definitions_text-length d)

length-more : (v : Version) (d : Definitions) (a b : List Entry) → length (table_text v d (a ++ b)) ≡ length (table_text v d a) + length (canonical_text d b)
length-more v d a b =
    let cut : canonical_text d (a ++ b) ≡ canonical_text d a ++ canonical_text d b = flat_map-append (λ e. canonical_line d e ++ 10 ∷ []) a b in
    omega (arith, length-text v d (a ++ b), length-text v d a, ap length cut, length-append (canonical_text d a) (canonical_text d b))

-- a text is within the limit if it is no longer than one that is
fits_shorter : (v : Version) (a b : List ℕ) → length a ≤ length b → is_text_too_long v b ≡ false → is_text_too_long v a ≡ false
fits_shorter One a b l h = refl
fits_shorter Two a b l h = le-ltb 1048576 (length a) (omega (arith, l, ltb-false 1048576 (length b) h))
fits_shorter Three a b l h = le-ltb 8388608 (length a) (omega (arith, l, ltb-false 8388608 (length b) h))

fits_within : (v : Version) (text : List ℕ) → length text ≤ text_limit v → is_text_too_long v text ≡ false
fits_within One text l = refl
fits_within Two text l = le-ltb 1048576 (length text) l
fits_within Three text l = le-ltb 8388608 (length text) l

fits_none : (properties : Properties) (v : Version) → is_text_too_long v (table_text v (nothing_defined properties) []) ≡ false
fits_none properties One = refl
fits_none properties Two = refl
fits_none properties Three = refl

-- ---- entries one after the other

new-append : (t a b : List Entry) → AreNewSources t (a ++ b) → AreNewSources t a × AreNewSources (t ++ a) b
new-append t [] b h = (tt, subst (λ x. AreNewSources x b) (sym (append-nil t)) h)
new-append t (e ∷ a) b h =
    let r = new-append (t ++ e ∷ []) a b h.1 in
    ((h.0, r.0), subst (λ x. AreNewSources x b) (append_assoc t (e ∷ []) a) r.1)

new-join : (t a b : List Entry) → AreNewSources t a → AreNewSources (t ++ a) b → AreNewSources t (a ++ b)
new-join t [] b h k = subst (λ x. AreNewSources x b) (append-nil t) k
new-join t (e ∷ a) b h k = (h.0, new-join (t ++ e ∷ []) a b h.1 (subst (λ x. AreNewSources x b) (sym (append_assoc t (e ∷ []) a)) k))

all-append : (P : Entry → Type 0) (a b : List Entry) → AllByRecursion P (a ++ b) → AllByRecursion P a × AllByRecursion P b
all-append P [] b h = (tt, h)
all-append P (e ∷ a) b h = let r = all-append P a b h.1 in ((h.0, r.0), r.1)

all-join : (P : Entry → Type 0) (a b : List Entry) → AllByRecursion P a → AllByRecursion P b → AllByRecursion P (a ++ b)
all-join P [] b h k = k
all-join P (e ∷ a) b h k = (h.0, all-join P a b h.1 k)

-- ---- entries without a fault

all_single : (es : List Entry) → AllByRecursion IsEntry es → list_any has_repeat es ≡ false
all_single [] h = refl
all_single (e ∷ es) h = or_from (has_repeat e) (list_any has_repeat es) (single_from_entry e h.0) (all_single es h.1)

-- a source that none of some entries has is not that of the first of them
source_front : (t u : List Entry) (e : Entry) → has_source_in (t ++ u) e ≡ false → has_source_in t e ≡ false
source_front [] u e h = refl
source_front (x ∷ t) u e h =
    let p = or_parts (bytes_eq x.source e.source) (has_source_in (t ++ u) e) h in
    or_from (bytes_eq x.source e.source) (has_source_in t e) p.0 (source_front t u e p.1)

new_any : (t u es : List Entry) → AreNewSources (t ++ u) es → list_any (has_source_in t) es ≡ false
new_any t u [] h = refl
new_any t u (e ∷ es) h =
    or_from (has_source_in t e) (list_any (has_source_in t) es) (source_front t u e h.0)
    (new_any t (u ++ e ∷ []) es (subst (λ x. AreNewSources x es) (append_assoc t u (e ∷ [])) h.1))

entries_added : (v : Version) (d : Definitions) (t : List Entry) (form : EntryForm) → IsForm form.mapped form.last → knows_all d form.mapped ≡ true → AllByRecursion IsEntry (entries_of d form) → AllByRecursion (HasPointsBy d.properties) (entries_of d form) → AreNewSources t (entries_of d form)
    → length t + length (entries_of d form) ≤ entry_limit v → is_text_too_long v (table_text v d (t ++ entries_of d form)) ≡ false → with_form v d t form ≡ Ok (t ++ entries_of d form)
entries_added v d t form is known sound points new few fits =
    let es : List (List Mapped) = written_out form in
    let all : AllByRecursion (IsKnown d) es = known_form d form.last form.mapped is known in
    with_form-by v d t form false true false false false
    (or_from (nat_lt (entry_limit v) (length t + length es) || list_any is_too_large es) (is_text_too_long v (table_text v d t ++ written_text es))
    (or_from (nat_lt (entry_limit v) (length t + length es)) (list_any is_too_large es) (le-ltb (entry_limit v) (length t + length es) (omega (arith, few, length-map es (entry_of d)))) (small_entries d es all sound))
    (ap (is_text_too_long v) (sym (text_with v d t es all)) ∙ fits))
    known (entries_good d.properties (entries_of d form) points) (all_single (entries_of d form) sound) (new_any t [] (entries_of d form) (subst (λ x. AreNewSources x (entries_of d form)) (sym (append-nil t)) new))

-- ---- the table so far

-- its entries have no fault, and there is room for them
pub record HasSoundEntries (t : TableValue) : Type 0 where
  pub sound : AllByRecursion IsEntry t.entries
  pub points : AllByRecursion (HasPointsBy t.definitions.properties) t.entries
  pub new : AreNewSources [] t.entries
  pub few : length t.entries ≤ entry_limit t.version
  pub fits : is_text_too_long t.version (table_text t.version t.definitions t.entries) ≡ false

pub record IsSound (t : TableValue) : Type 0 where
  pub without_fault : AreDefinitions t.definitions
  pub defined : AreOfVersion t.version t.definitions
  pub of_version : AllByRecursion (IsOfVersion t.version) t.entries
  pub named : AllByRecursion (IsNamed t.definitions) t.entries
  pub entries : HasSoundEntries t

nothing_of : (properties : Properties) (v : Version) → AreOfVersion v (nothing_defined properties)
nothing_of properties One = refl
nothing_of properties Two = refl
nothing_of properties Three = tt

pub empty_sound : (properties : Properties) (v : Version) → IsSound (empty_table properties v)
empty_sound properties v = record {
  without_fault = (nothing_counted properties).without_fault;
  defined = nothing_of properties v;
  of_version = tt;
  named = tt;
  entries = record { sound = tt; points = tt; new = tt; few = omega arith; fits = fits_none properties v };
}

-- ---- definitions

-- only a ruleset has them
of_three : (v : Version) (words after : List (List ℕ)) (k : Keyword) → keyword_in v words ≡ Some (k, after) → v ≡ Three
of_three One words after k e = absurd cc
of_three Two words after k e = absurd cc
of_three Three words after k e = refl

of_ruleset : (v : Version) (d : Definitions) → v ≡ Three → AreOfVersion v d
of_ruleset One d is = absurd cc
of_ruleset Two d is = absurd cc
of_ruleset Three d is = tt

-- a text with what a line defines
fits_defined : (v : Version) (d e : Definitions) (es : List Entry) → v ≡ Three → is_text_too_long v (table_text v d es) ≡ false → Grown (text_limit v - length (head_text v ++ canonical_text d es)) d e → canonical_text e es ≡ canonical_text d es
    → is_text_too_long v (table_text v e es) ≡ false
fits_defined One d e es is fits g same = absurd cc
fits_defined Two d e es is fits g same = absurd cc
fits_defined Three d e es is fits g same =
    le-ltb 8388608 (length (table_text Three e es))
    (omega (arith, ltb-false 8388608 (length (table_text Three d es)) fits, length-text Three d es, length-text Three e es, g.room, length-append (head_text Three) (canonical_text d es), ap length same))

-- a ruleset in which more is defined
pub grown_sound : (t : TableValue) (d : Definitions) → t.version ≡ Three → IsSound t → Grown (room_for_definitions t) t.definitions d → NamesStay t.definitions d
    → IsSound (record t { definitions = d })
grown_sound t d three h g stay = record {
  without_fault = g.without_fault;
  defined = of_ruleset t.version d three;
  of_version = h.of_version;
  named = named_on t.definitions d t.entries stay h.named;
  entries = record {
    sound = h.entries.sound;
    points = subst (λ p. AllByRecursion (HasPointsBy p) t.entries) (sym stay.properties) h.entries.points;
    new = h.entries.new;
    few = h.entries.few;
    fits = fits_defined t.version t.definitions d t.entries three h.entries.fits g (text_stays t.definitions d t.entries stay h.named);
  };
}

defined_sound : (t : TableValue) (k : Keyword) (words after : List (List ℕ)) (d : Definitions) → IsSound t → keyword_in t.version words ≡ Some (k, after)
    → defined (room_for_definitions t) t.definitions k after ≡ Ok d → IsSound (record t { definitions = d })
defined_sound t k words after d h n e =
    grown_sound t d (of_three t.version words after k n) h (defined_grows (room_for_definitions t) t.definitions d k after h.without_fault e)
    (names_stay (room_for_definitions t) t.definitions d k after e)

-- ---- one line, without a fault

-- a faultless line, and the table that it leads to
pub record Added (bytes : ℕ) (t : TableValue) (line : List ℕ) (u : TableValue) : Type 0 where
  pub spelled : LineAdds t (strip_carriage_return line) u
  pub short : length line ≤ line_limit t.version
  pub within : bytes + length line + 1 ≤ text_limit t.version
  pub version : u.version ≡ t.version
  pub sound : IsSound u

ok_is : (a b : TableValue) (r : Result TableValue LineFault) → r ≡ Ok a → r ≡ Ok b → a ≡ b
ok_is a b r e f = cc

pub no_ok : {X : Type 0} (f : LineFault) (b : TableValue) (r : Result TableValue LineFault) → r ≡ Err f → r ≡ Ok b → X
no_ok f b r e g = absurd cc

pub raw_line : (bytes : ℕ) (t : TableValue) (line : List ℕ) → is_too_long t.version bytes line ≡ false → with_raw_line bytes t line ≡ with_line t (strip_carriage_return line)
unfolding with_raw_line
raw_line bytes t line h = ap (λ b. cond b (Err Limit) (with_line t (strip_carriage_return line))) h

pub raw_line-long : (bytes : ℕ) (t : TableValue) (line : List ℕ) → is_too_long t.version bytes line ≡ true → with_raw_line bytes t line ≡ Err Limit
unfolding with_raw_line
raw_line-long bytes t line h = ap (λ b. cond b (Err Limit) (with_line t (strip_carriage_return line))) h

definition_is : (t : TableValue) (k : Keyword) (after : List (List ℕ)) → with_definition t k after ≡ defining t (defined (room_for_definitions t) t.definitions k after)
unfolding with_definition
definition_is t k after = refl

pub ok_defined : (t u : TableValue) (r : Result Definitions DefinitionFault) → defining t r ≡ Ok u
    → (d : Definitions) × (r ≡ Ok d) × (u ≡ record t { definitions = d })
ok_defined t u (Ok d) e = (d, refl, cc)
ok_defined t u (Err f) e = absurd cc

pub ok_entries : (t u : TableValue) (r : Result (List Entry) LineFault)
    → (r >>= λ all. Ok (record t { entries = all })) ≡ Ok u
    → (all : List Entry) × (r ≡ Ok all) × (u ≡ record t { entries = all })
ok_entries t u (Ok all) e = (all, refl, cc)
ok_entries t u (Err f) e = absurd cc

-- what a form adds
pub record FormAdds (t u : TableValue) (form : EntryForm) : Type 0 where
  pub known : knows_all t.definitions form.mapped ≡ true
  pub is : u ≡ record t { entries = t.entries ++ entries_of t.definitions form }
  pub sound : IsSound u

pub form_added : (t u : TableValue) (form : EntryForm) → IsSound t → IsForm form.mapped form.last → has_form t.version form ≡ true → with_form_of t form ≡ Ok u
    → FormAdds t u form
form_added t u form h is_one parts e =
    let es : List Entry = entries_of t.definitions form in
    let all = ok_entries t u (with_form t.version t.definitions t.entries form) e in
    let r = sound_form t.version t.definitions t.entries all.0 form is_one parts all.1 in
    let is : u ≡ record t { entries = t.entries ++ es } = all.2 ∙ ap (λ x. record t { entries = x }) r.is in
    record {
      known = r.known;
      is = is;
      sound = subst IsSound (sym is) (record {
        without_fault = h.without_fault;
        defined = h.defined;
        of_version = all-join (IsOfVersion t.version) t.entries es h.of_version r.of_version;
        named = all-join (IsNamed t.definitions) t.entries es h.named r.named;
        entries = record {
          sound = all-join IsEntry t.entries es h.entries.sound r.sound;
          points = all-join (HasPointsBy t.definitions.properties) t.entries es h.entries.points r.points;
          new = new-join [] t.entries es h.entries.new r.new;
          few = omega (arith, length-append t.entries es, r.few);
          fits = r.fits;
        };
      });
    }

module _ (bytes : ℕ) (t u : TableValue) (line : List ℕ) (h : IsSound t) (l : length line ≤ line_limit t.version) (m : bytes + length line + 1 ≤ text_limit t.version) where
  added_nothing : is_skipped (strip_carriage_return line) ≡ true → u ≡ t → Added bytes t line u
  added_nothing s is = record {
    spelled = inl ([], LineSpells-skipped t.version t.definitions (strip_carriage_return line) s, is ∙ ap (λ es. record t { entries = es }) (sym (append-nil t.entries)));
    short = l;
    within = m;
    version = ap (λ x. x.version) is;
    sound = subst IsSound (sym is) h;
  }

  added_definition : (k : Keyword) (after : List (List ℕ)) → keyword_in t.version (lexemes (strip_carriage_return line)) ≡ Some (k, after) → with_definition t k after ≡ Ok u → Added bytes t line u
  added_definition k after n e =
      let d = ok_defined t u (defined (room_for_definitions t) t.definitions k after) (sym (definition_is t k after) ∙ e) in
      record {
        spelled = inr (d.0, (k, after, n, d.1), d.2);
        short = l;
        within = m;
        version = ap (λ x. x.version) d.2;
        sound = subst IsSound (sym d.2) (defined_sound t k (lexemes (strip_carriage_return line)) after d.0 h n d.1);
      }

  added_entries : (form : EntryForm) → HasForm t.version (strip_carriage_return line) form → with_form_of t form ≡ Ok u → Added bytes t line u
  added_entries form s e =
      let more = form_added t u form h s.0.0 s.1 e in
      record {
        spelled = inl (entries_of t.definitions form, inr (inr (form, s, more.known, refl)), more.is);
        short = l;
        within = m;
        version = ap (λ x. x.version) more.is;
        sound = more.sound;
      }

  line_step : with_line t (strip_carriage_return line) ≡ Ok u → Added bytes t line u
  line_step e = elim (form_of t.version (strip_carriage_return line)) [
    | skipped s ↦ added_nothing s (ok_is u t (with_line t (strip_carriage_return line)) e (with_line-skipped t (strip_carriage_return line) s))
    | defines k after s n ↦ added_definition k after n (sym (with_line-defines t (strip_carriage_return line) k after s n) ∙ e)
    | of_entries form s ↦ added_entries form s (sym (with_line-form t (strip_carriage_return line) form s) ∙ e)
    | formless s n never ↦ no_ok Syntax u (with_line t (strip_carriage_return line)) (with_line-formless t (strip_carriage_return line) s n never) e
  ]

pub raw_line_step : (bytes : ℕ) (t u : TableValue) (line : List ℕ) → IsSound t → with_raw_line bytes t line ≡ Ok u → Added bytes t line u
raw_line_step bytes t u line h e = by_cases (is_too_long t.version bytes line) refl
  where
    by_cases : (b : Bool) → is_too_long t.version bytes line ≡ b → Added bytes t line u
    by_cases true long = no_ok Limit u (with_raw_line bytes t line) (raw_line-long bytes t line long) e
    by_cases false short =
        let p = or_parts (nat_lt (line_limit t.version) (length line)) (nat_lt (text_limit t.version) (bytes + length line + 1)) short in
        line_step bytes t u line h (ltb-false (line_limit t.version) (length line) p.0) (ltb-false (text_limit t.version) (bytes + length line + 1) p.1) (sym (raw_line bytes t line short) ∙ e)

-- ---- the other way

no_keyword : (k : Keyword) (after : List (List ℕ)) → (let o : Option (Keyword × List (List ℕ)) = None in o) ≡ Some (k, after) → ⊥
no_keyword k after e = cc

-- entries that are spelled are read
spelled_read : (t : TableValue) (line : List ℕ) (form : EntryForm) (es : List Entry) → HasForm t.version line form → knows_all t.definitions form.mapped ≡ true → es ≡ entries_of t.definitions form
    → HasSoundEntries (record t { entries = t.entries ++ es }) → with_line t line ≡ Ok (record t { entries = t.entries ++ es })
spelled_read t line form es s known is h =
    let k : HasSoundEntries (record t { entries = t.entries ++ entries_of t.definitions form }) = subst (λ x. HasSoundEntries (record t { entries = t.entries ++ x })) is h in
    let new = new-append [] t.entries (entries_of t.definitions form) k.new in
    with_line-form t line form s
    ∙ ap (λ r. r >>= λ all. Ok (record t { entries = all }))
    (entries_added t.version t.definitions t.entries form s.0.0 known (all-append IsEntry t.entries (entries_of t.definitions form) k.sound).1 (all-append (HasPointsBy t.definitions.properties) t.entries (entries_of t.definitions form) k.points).1 new.1
    (omega (arith, k.few, length-append t.entries (entries_of t.definitions form))) k.fits)
    ∙ ap (λ x. Ok (record t { entries = t.entries ++ x })) (sym is)

read_entries : (t : TableValue) (line : List ℕ) (es : List Entry) → LineSpells t.version t.definitions line es → HasSoundEntries (record t { entries = t.entries ++ es }) → with_line t line ≡ Ok (record t { entries = t.entries ++ es })
read_entries t line es s h = elim (spelling_of t.version t.definitions line es s) [
  | none k is ↦ with_line-skipped t line k ∙ ap (λ x. Ok (record t { entries = x })) (sym (append-nil t.entries)) ∙ ap (λ x. Ok (record t { entries = t.entries ++ x })) (sym is)
  | some k ↦ spelled_read t line k.0 es k.1 k.2 k.3 h
]

read_definition : (t : TableValue) (line : List ℕ) (d : Definitions) → Defines t line d → with_line t line ≡ Ok (record t { definitions = d })
read_definition t line d (k, after, n, e) =
    let not_skipped : is_skipped line ≡ false = false_from_ne_true (is_skipped line) (λ s. no_keyword k after (sym (skipped-no_definition t.version line s) ∙ n)) in
    with_line-defines t line k after not_skipped n ∙ definition_is t k after ∙ ap (defining t) e

read_added : (t u : TableValue) (line : List ℕ) → LineAdds t line u → HasSoundEntries u → with_line t line ≡ Ok u
read_added t u line (inl (es, s, is)) h = read_entries t line es s (subst HasSoundEntries is h) ∙ ap (λ x. Ok x) (sym is)
read_added t u line (inr (d, s, is)) h = read_definition t line d s ∙ ap (λ x. Ok x) (sym is)

pub raw_line_added : (bytes : ℕ) (t u : TableValue) (line : List ℕ) → LineAdds t (strip_carriage_return line) u → length line ≤ line_limit t.version → bytes + length line + 1 ≤ text_limit t.version
    → HasSoundEntries u → with_raw_line bytes t line ≡ Ok u
raw_line_added bytes t u line s l m h =
    raw_line bytes t line (or_from (nat_lt (line_limit t.version) (length line)) (nat_lt (text_limit t.version) (bytes + length line + 1)) (le-ltb (line_limit t.version) (length line) l) (le-ltb (text_limit t.version) (bytes + length line + 1) m))
    ∙ read_added t u (strip_carriage_return line) s h

-- ---- what stands before a line of a table without a fault has none

-- what is defined has no fault, and the names of the entries are defined
pub record IsKept (t : TableValue) : Type 0 where
  pub without_fault : AreDefinitions t.definitions
  pub named : AllByRecursion (IsNamed t.definitions) t.entries

kept_entries : (t : TableValue) (line : List ℕ) (es : List Entry) → LineSpells t.version t.definitions line es → IsKept t → IsKept (record t { entries = t.entries ++ es })
kept_entries t line es s h = record {
  without_fault = h.without_fault;
  named = all-join (IsNamed t.definitions) t.entries es h.named (elim (spelling_of t.version t.definitions line es s) [
    | none k is ↦ subst (AllByRecursion (IsNamed t.definitions)) (sym is) tt
    | some k ↦ named_spelled t.version t.definitions line es k
  ]);
}

adds_kept : (t u : TableValue) (line : List ℕ) → LineAdds t line u → IsKept t → IsKept u
adds_kept t u line (inl (es, s, is)) h = subst IsKept (sym is) (kept_entries t line es s h)
adds_kept t u line (inr (d, (k, after, n, e), is)) h =
    subst IsKept (sym is) (record {
      without_fault = (defined_grows (room_for_definitions t) t.definitions d k after h.without_fault e).without_fault;
      named = named_on t.definitions d t.entries (names_stay (room_for_definitions t) t.definitions d k after e) h.named;
    })

without_entries : (t : TableValue) (es : List Entry) → HasSoundEntries (record t { entries = t.entries ++ es }) → HasSoundEntries t
without_entries t es h = record {
  sound = (all-append IsEntry t.entries es h.sound).0;
  points = (all-append (HasPointsBy t.definitions.properties) t.entries es h.points).0;
  new = (new-append [] t.entries es h.new).0;
  few = omega (arith, h.few, length-append t.entries es);
  fits = fits_shorter t.version (table_text t.version t.definitions t.entries) (table_text t.version t.definitions (t.entries ++ es)) (omega (arith, length-more t.version t.definitions t.entries es)) h.fits;
}

without_definition : (t : TableValue) (d : Definitions) → canonical_size t.definitions ≤ canonical_size d → canonical_text d t.entries ≡ canonical_text t.definitions t.entries → d.properties ≡ t.definitions.properties → HasSoundEntries (record t { definitions = d }) → HasSoundEntries t
without_definition t d l same kept h = record {
  sound = h.sound;
  points = subst (λ p. AllByRecursion (HasPointsBy p) t.entries) kept h.points;
  new = h.new;
  few = h.few;
  fits = fits_shorter t.version (table_text t.version t.definitions t.entries) (table_text t.version d t.entries)
      (omega (arith, l, length-text t.version t.definitions t.entries, length-text t.version d t.entries, ap length same)) h.fits;
}

sound_before : (t u : TableValue) (line : List ℕ) → LineAdds t line u → IsKept t → HasSoundEntries u → HasSoundEntries t
sound_before t u line (inl (es, s, is)) a h = without_entries t es (subst HasSoundEntries is h)
sound_before t u line (inr (d, (k, after, n, e), is)) a h =
    without_definition t d (defined_grows (room_for_definitions t) t.definitions d k after a.without_fault e).longer
    (text_stays t.definitions d t.entries (names_stay (room_for_definitions t) t.definitions d k after e) a.named) (names_stay (room_for_definitions t) t.definitions d k after e).properties (subst HasSoundEntries is h)

sound_at : (t u : TableValue) (lines : List (List ℕ)) → LinesSpell t lines u → IsKept t → HasSoundEntries u → HasSoundEntries t
sound_at t u [] s a h = subst HasSoundEntries s h
sound_at t u (line ∷ lines) (m, adds, rest) a h =
    sound_before t m (strip_carriage_return line) adds a (sound_at m u lines rest (adds_kept t m (strip_carriage_return line) adds a) h)

-- ---- lines without a fault

pub step_of : (n bytes : ℕ) (t : TableValue) (line : List ℕ) (lines : List (List ℕ)) (r : Result TableValue LineFault) → with_raw_line bytes t line ≡ r
    → with_lines n bytes t (line ∷ lines) ≡ (in_line n r >>= λ x. with_lines (n + 1) (bytes + length line + 1) x lines)
unfolding with_lines
step_of n bytes t line lines r e = ap (λ x. in_line n x >>= λ x. with_lines (n + 1) (bytes + length line + 1) x lines) e

no_lines : (n bytes : ℕ) (t : TableValue) → with_lines n bytes t [] ≡ Ok t
unfolding with_lines
no_lines n bytes t = refl

-- reading faultless lines, with others after them
pub lines_on : (v : Version) (n bytes : ℕ) (t u : TableValue) (lines after : List (List ℕ)) → t.version ≡ v → LinesSpell t lines u → AllByRecursion (λ line. length line ≤ line_limit v) lines
    → bytes + size_of lines ≤ text_limit v → IsKept t → HasSoundEntries u → with_lines n bytes t (lines ++ after) ≡ with_lines (n + length lines) (bytes + size_of lines) u after
lines_on v n bytes t u [] after is s short size a h =
    ap (λ x. with_lines n bytes x after) (sym s)
    ∙ ap (λ x. with_lines x bytes u after) (let z : n ≡ n + 0 = omega arith in z)
    ∙ ap (λ x. with_lines (n + 0) x u after) (let z : bytes ≡ bytes + 0 = omega arith in z)
lines_on v n bytes t u (line ∷ lines) after is (m, adds, rest) short size a h =
    let more : IsKept m = adds_kept t m (strip_carriage_return line) adds a in
    let sum : size_of (line ∷ lines) ≡ length line + 1 + size_of lines = size_of-cons line lines in
    step_of n bytes t line (lines ++ after) (Ok m)
    (raw_line_added bytes t m line adds (subst (λ w. length line ≤ line_limit w) (sym is) short.0) (subst (λ w. bytes + length line + 1 ≤ text_limit w) (sym is) (omega (arith, size, sum))) (sound_at m u lines rest more h))
    ∙ lines_on v (n + 1) (bytes + length line + 1) m u lines after (adds_version t m (strip_carriage_return line) adds ∙ is) rest short.1 (omega (arith, size, sum)) more h
    ∙ ap (λ x. with_lines x (bytes + length line + 1 + size_of lines) u after) (let z : n + 1 + length lines ≡ n + suc (length lines) = omega arith in z)
    ∙ ap (λ x. with_lines (n + suc (length lines)) x u after) (let z : bytes + length line + 1 + size_of lines ≡ bytes + size_of (line ∷ lines) = omega (arith, sum) in z)

-- what faultless lines are, and the table that they lead to
pub record AddedLines (bytes : ℕ) (t : TableValue) (lines : List (List ℕ)) (u : TableValue) : Type 0 where
  pub spelled : LinesSpell t lines u
  pub short : AllByRecursion (λ line. length line ≤ line_limit t.version) lines
  pub within : bytes ≤ text_limit t.version → bytes + size_of lines ≤ text_limit t.version
  pub version : u.version ≡ t.version
  pub sound : IsSound u

added_none : (bytes : ℕ) (t : TableValue) → IsSound t → AddedLines bytes t [] t
added_none bytes t h = record { spelled = refl; short = tt; within = λ l. omega (arith, l); version = refl; sound = h }

added_more : (bytes : ℕ) (t m u : TableValue) (line : List ℕ) (lines : List (List ℕ)) → Added bytes t line m → AddedLines (bytes + length line + 1) m lines u → AddedLines bytes t (line ∷ lines) u
added_more bytes t m u line lines h k = record {
  spelled = (m, h.spelled, k.spelled);
  short = (h.short, subst (λ w. AllByRecursion (λ line. length line ≤ line_limit w) lines) h.version k.short);
  within = λ l. (let inside : bytes + length line + 1 + size_of lines ≤ text_limit t.version = subst (λ w. bytes + length line + 1 + size_of lines ≤ text_limit w) h.version
      (k.within (subst (λ w. bytes + length line + 1 ≤ text_limit w) (sym h.version) h.within)) in
      omega (arith, inside, size_of-cons line lines));
  version = k.version ∙ h.version;
  sound = k.sound;
}

-- ---- the outcome of lines

pub record Done (bytes : ℕ) (t : TableValue) (lines : List (List ℕ)) (r : WholeTable) : Type 0 where
  pub table : TableValue
  pub added : AddedLines bytes t lines table
  pub is : r ≡ Ok table

-- the first faulty line, with those before it
pub record Faulted (n bytes : ℕ) (t : TableValue) (lines : List (List ℕ)) (r : WholeTable) : Type 0 where
  pub before : List (List ℕ)
  pub line : List ℕ
  pub after : List (List ℕ)
  pub table : TableValue
  pub kind : LineFault
  pub cut : lines ≡ before ++ line ∷ after
  pub added : AddedLines bytes t before table
  pub faulty : with_raw_line (bytes + size_of before) table line ≡ Err kind
  pub is : r ≡ Err (n + length before, kind)

outcome_step : (n bytes : ℕ) (t m : TableValue) (line : List ℕ) (lines : List (List ℕ)) → with_raw_line bytes t line ≡ Ok m → Added bytes t line m
    → Done (bytes + length line + 1) m lines (with_lines (n + 1) (bytes + length line + 1) m lines) ⊎ Faulted (n + 1) (bytes + length line + 1) m lines (with_lines (n + 1) (bytes + length line + 1) m lines)
    → Done bytes t (line ∷ lines) (with_lines n bytes t (line ∷ lines)) ⊎ Faulted n bytes t (line ∷ lines) (with_lines n bytes t (line ∷ lines))
outcome_step n bytes t m line lines e h (inl d) = inl (record {
  table = d.table;
  added = added_more bytes t m d.table line lines h d.added;
  is = step_of n bytes t line lines (Ok m) e ∙ d.is;
})
outcome_step n bytes t m line lines e h (inr f) = inr (record {
  before = line ∷ f.before;
  line = f.line;
  after = f.after;
  table = f.table;
  kind = f.kind;
  cut = ap (λ ls. line ∷ ls) f.cut;
  added = added_more bytes t m f.table line f.before h f.added;
  faulty = ap (λ x. with_raw_line x f.table f.line) (let z : bytes + size_of (line ∷ f.before) ≡ bytes + length line + 1 + size_of f.before = omega (arith, size_of-cons line f.before) in z) ∙ f.faulty;
  is = step_of n bytes t line lines (Ok m) e ∙ f.is ∙ ap (λ k. Err (k, f.kind)) (let z : n + 1 + length f.before ≡ n + suc (length f.before) = omega arith in z);
})

outcome_fault : (n bytes : ℕ) (t : TableValue) (line : List ℕ) (lines : List (List ℕ)) (kind : LineFault) → IsSound t → with_raw_line bytes t line ≡ Err kind → Faulted n bytes t (line ∷ lines) (with_lines n bytes t (line ∷ lines))
outcome_fault n bytes t line lines kind h e = record {
  before = [];
  line = line;
  after = lines;
  table = t;
  kind = kind;
  cut = refl;
  added = added_none bytes t h;
  faulty = ap (λ x. with_raw_line x t line) (let z : bytes + 0 ≡ bytes = omega arith in z) ∙ e;
  is = step_of n bytes t line lines (Err kind) e ∙ ap (λ k. Err (k, kind)) (let z : n ≡ n + 0 = omega arith in z);
}

outcome_at : (n bytes : ℕ) (t : TableValue) (line : List ℕ) (lines : List (List ℕ)) (r : Result TableValue LineFault) → IsSound t → with_raw_line bytes t line ≡ r
    → ((m b : ℕ) (x : TableValue) → IsSound x → Done b x lines (with_lines m b x lines) ⊎ Faulted m b x lines (with_lines m b x lines))
    → Done bytes t (line ∷ lines) (with_lines n bytes t (line ∷ lines)) ⊎ Faulted n bytes t (line ∷ lines) (with_lines n bytes t (line ∷ lines))
outcome_at n bytes t line lines (Err kind) h e rest = inr (outcome_fault n bytes t line lines kind h e)
outcome_at n bytes t line lines (Ok m) h e rest =
    let s = raw_line_step bytes t m line h e in
    outcome_step n bytes t m line lines e s (rest (n + 1) (bytes + length line + 1) m s.sound)

pub outcome : (lines : List (List ℕ)) (n bytes : ℕ) (t : TableValue) → IsSound t → Done bytes t lines (with_lines n bytes t lines) ⊎ Faulted n bytes t lines (with_lines n bytes t lines)
outcome [] n bytes t h = inl (record { table = t; added = added_none bytes t h; is = no_lines n bytes t })
outcome (line ∷ lines) n bytes t h = outcome_at n bytes t line lines (with_raw_line bytes t line) h refl (λ m b x k. outcome lines m b x k)

-- ---- the version line

length-version_line : (n : Notation) → length (version_line n) ≡ 10
length-version_line Table = refl
length-version_line Ruleset = refl

head_by : (n : Notation) (line : List ℕ) (b : Bool) → is_version_line n line ≡ b → size_of (cond b (line ∷ []) []) ≤ 12
head_by n line false e = omega arith
head_by n line true e =
    let same : strip_carriage_return line ≡ version_line n = (bytes_eq-Decides (strip_carriage_return line) (version_line n)).0 e in
    omega (arith, size_of-cons line [], (length-stripped line).1, ap length same, length-version_line n)

-- the version line with its line feed has at most 12 bytes
pub head_small : (n : Notation) (lines : List (List ℕ)) → size_of (head_of n lines) ≤ 12
head_small n [] = omega arith
head_small n (line ∷ lines) = head_by n line (is_version_line n line) refl

pub head_within : (n : Notation) (v : Version) (lines : List (List ℕ)) → size_of (head_of n lines) ≤ text_limit v
head_within n v lines = omega (arith, head_small n lines, text_limit-least v)

-- ---- the whole text

short_text : (properties : Properties) (v : Version) (lines : List (List ℕ)) (u : TableValue) → u.version ≡ v → LinesSpell (empty_table properties v) lines u → size_of lines ≤ text_limit v → IsSound u → length (table_text u.version u.definitions u.entries) ≤ text_limit u.version
short_text properties One lines u is s size h =
    subst (λ w. length (table_text u.version u.definitions u.entries) ≤ text_limit w) (sym is)
    (omega (arith, size, length-one u is h.defined, canonical_text_long lines (empty_table properties One) u refl s))
short_text properties Two lines u is s size h = within u.version is h.entries.fits
  where
    within : (w : Version) → w ≡ Two → is_text_too_long w (table_text w u.definitions u.entries) ≡ false → length (table_text w u.definitions u.entries) ≤ text_limit w
    within One e f = absurd cc
    within Two e f = ltb-false 1048576 (length (table_text Two u.definitions u.entries)) f
    within Three e f = absurd cc
short_text properties Three lines u is s size h = within u.version is h.entries.fits
  where
    within : (w : Version) → w ≡ Three → is_text_too_long w (table_text w u.definitions u.entries) ≡ false → length (table_text w u.definitions u.entries) ≤ text_limit w
    within One e f = absurd cc
    within Two e f = absurd cc
    within Three e f = ltb-false 8388608 (length (table_text Three u.definitions u.entries)) f

-- what lines spell is by the same properties
adds_properties : (t u : TableValue) (line : List ℕ) → LineAdds t line u → u.definitions.properties ≡ t.definitions.properties
adds_properties t u line (inl (es, s, is)) = ap (λ (x : TableValue). x.definitions.properties) is
adds_properties t u line (inr (d, (k, after, n, e), is)) =
    ap (λ (x : TableValue). x.definitions.properties) is ∙ (names_stay (room_for_definitions t) t.definitions d k after e).properties

pub spells_properties : (lines : List (List ℕ)) (t u : TableValue) → LinesSpell t lines u → u.definitions.properties ≡ t.definitions.properties
spells_properties [] t u is = ap (λ (x : TableValue). x.definitions.properties) is
spells_properties (line ∷ lines) t u (m, adds, rest) = spells_properties lines m u rest ∙ adds_properties t m (strip_carriage_return line) adds

pub table_of_sound : (u : TableValue) → IsSound u → length (table_text u.version u.definitions u.entries) ≤ text_limit u.version → IsTable u
table_of_sound u h short = record {
  without_fault = h.without_fault;
  defined = h.defined;
  well_formed = record {
    entries = All-from_recursion IsEntry u.entries h.entries.sound;
    sources = distinct_sources [] u.entries no_sources h.entries.new;
    few = omega (arith, h.entries.few, entry_limit-most u.version);
  };
  points = All-from_recursion (HasPointsBy u.definitions.properties) u.entries h.entries.points;
  of_version = All-from_recursion (IsOfVersion u.version) u.entries h.of_version;
  named = All-from_recursion (IsNamed u.definitions) u.entries h.named;
  few = h.entries.few;
  short = short;
}

pub well_formed_lines : (properties : Properties) (v : Version) (head lines : List (List ℕ)) (u : TableValue) → size_of head ≤ text_limit v → AddedLines (size_of head) (empty_table properties v) lines u → AreLinesOf head lines u
well_formed_lines properties v head lines u small h =
    let kept : u.definitions.properties ≡ properties = spells_properties lines (empty_table properties v) u h.spelled in
    let size : size_of head + size_of lines ≤ text_limit v = h.within small in
    let short : length (table_text u.version u.definitions u.entries) ≤ text_limit u.version = short_text properties v lines u h.version h.spelled (omega (arith, size)) h.sound in
    record {
      spelled = subst (λ w. LinesSpell (empty_table u.definitions.properties w) lines u) (sym h.version) (subst (λ p. LinesSpell (empty_table p v) lines u) (sym kept) h.spelled);
      short = subst (λ w. All (λ line. length line ≤ line_limit w) lines) (sym h.version) (All-from_recursion (λ line. length line ≤ line_limit v) lines h.short);
      size = subst (λ w. size_of head + size_of lines ≤ text_limit w) (sym h.version) size;
      well_formed = table_of_sound u h.sound short;
    }

sound_table : (table : TableValue) → IsTable table → HasSoundEntries table
sound_table table h = record {
  sound = recursion_from_All IsEntry table.entries h.well_formed.entries;
  points = recursion_from_All (HasPointsBy table.definitions.properties) table.entries h.points;
  new = new_sources [] table.entries h.well_formed.sources;
  few = h.few;
  fits = fits_within table.version (table_text table.version table.definitions table.entries) h.short;
}

pub sound_of_table : (table : TableValue) → IsTable table → IsSound table
sound_of_table table h = record {
  without_fault = h.without_fault;
  defined = h.defined;
  of_version = recursion_from_All (IsOfVersion table.version) table.entries h.of_version;
  named = recursion_from_All (IsNamed table.definitions) table.entries h.named;
  entries = sound_table table h;
}

-- a ruleset is one where its entries are
pub ruleset_of_sound : (u : TableValue) → u.version ≡ Three → IsSound u → IsTable u
ruleset_of_sound u is h = table_of_sound u h (within u.version is h.entries.fits)
  where
    within : (w : Version) → w ≡ Three → is_text_too_long w (table_text w u.definitions u.entries) ≡ false → length (table_text w u.definitions u.entries) ≤ text_limit w
    within One e f = absurd cc
    within Two e f = absurd cc
    within Three e f = ltb-false 8388608 (length (table_text Three u.definitions u.entries)) f

-- faultless lines are read
pub lines_read : (n : ℕ) (head lines after : List (List ℕ)) (table : TableValue) → AreLinesOf head lines table
    → with_lines n (size_of head) (empty_table table.definitions.properties table.version) (lines ++ after) ≡ with_lines (n + length lines) (size_of head + size_of lines) table after
lines_read n head lines after table h =
    lines_on table.version n (size_of head) (empty_table table.definitions.properties table.version) table lines after refl h.spelled (recursion_from_All (λ line. length line ≤ line_limit table.version) lines h.short) h.size
    (record { without_fault = (nothing_counted table.definitions.properties).without_fault; named = tt }) (sound_table table h.well_formed)

pub read_by : (properties : Properties) (n : Notation) (lines : List (List ℕ)) (o : Option Version) → version_of n lines ≡ o → table_of_lines properties n lines ≡ table_in properties o (head_of n lines) (body_of n lines)
unfolding table_of_lines
read_by properties n lines o e = ap (λ o. table_in properties o (head_of n lines) (body_of n lines)) e

pub text_read : (properties : Properties) (n : Notation) (text : List ℕ) (table : TableValue) → IsTextOf properties n text table → table_of_text properties n text ≡ Ok table
text_read properties n text table h =
    let head : List (List ℕ) = head_of n (raw_lines text) in
    let body : List (List ℕ) = body_of n (raw_lines text) in
    let k : ℕ = length head + 1 in
    read_by properties n (raw_lines text) (Some table.version) h.version
    ∙ ap (λ p. with_lines k (size_of head) (empty_table p table.version) body) (sym h.by_these)
    ∙ ap (with_lines k (size_of head) (empty_table table.definitions.properties table.version)) (sym (append-nil body))
    ∙ lines_read k head body [] table h.lines ∙ no_lines (k + length body) (size_of head + size_of body) table

pub whole_ok : (a b : TableValue) (r : WholeTable) → r ≡ Ok a → r ≡ Ok b → a ≡ b
whole_ok a b r e f = cc

pub whole_no : {X : Type 0} (a : TableValue) (f : ℕ × LineFault) (r : WholeTable) → r ≡ Ok a → r ≡ Err f → X
whole_no a f r e g = absurd cc

pub whole_err : (n m : ℕ) (f g : LineFault) (r : WholeTable) → r ≡ Err (n, f) → r ≡ Err (m, g) → (n ≡ m) × (f ≡ g)
whole_err n m f g r e h =
    let a : ℕ × LineFault = (n, f) in
    let b : ℕ × LineFault = (m, g) in
    let first : r ≡ Err a = e in
    let second : r ≡ Err b = h in
    let p : a ≡ b = cc in
    (ap (λ (x : ℕ × LineFault). x.0) p, ap (λ (x : ℕ × LineFault). x.1) p)

read_with : (properties : Properties) (n : Notation) (text : List ℕ) (table : TableValue) (o : Option Version) → version_of n (raw_lines text) ≡ o → table_of_text properties n text ≡ Ok table → IsTextOf properties n text table
read_with properties n text table None is e = whole_no table (1, Syntax) (table_of_text properties n text) e (read_by properties n (raw_lines text) None is)
read_with properties n text table (Some v) is e =
    let head : List (List ℕ) = head_of n (raw_lines text) in
    let body : List (List ℕ) = body_of n (raw_lines text) in
    let read = read_by properties n (raw_lines text) (Some v) is in
    elim (outcome body (length head + 1) (size_of head) (empty_table properties v) (empty_sound properties v)) [
      | inl d ↦ subst (λ t. IsTextOf properties n text t) (whole_ok d.table table (table_of_text properties n text) (read ∙ d.is) e) (record {
        by_these = spells_properties body (empty_table properties v) d.table d.added.spelled;
        version = is ∙ ap (λ w. Some w) (sym d.added.version);
        lines = well_formed_lines properties v head body d.table (head_within n v (raw_lines text)) d.added;
      })
      | inr f ↦ whole_no table (length head + 1 + length f.before, f.kind) (table_of_text properties n text) e (read ∙ f.is)
    ]

pub read_text : (properties : Properties) (n : Notation) (text : List ℕ) (table : TableValue) → table_of_text properties n text ≡ Ok table → IsTextOf properties n text table
read_text properties n text table e = read_with properties n text table (version_of n (raw_lines text)) refl e
