-- What a builder makes of a ruleset.
use Rattle.std.proofs.Common.{◌≡◌, ℕ, ◌+◌, ◌-◌, ◌<◌, ◌≤◌, Bool, true, false, ◌&&◌, ◌||◌, not, List, [], ◌∷◌, ◌++◌, length, map, None, Some, Result, Ok, Err, refl, sym, ap, subst, ◌∙◌, arith, length-append}
use Rattle.std.specs.Prelude.{OnErr, OnOk, nat_lt}
use Rattle.std.specs.Result.{IsErr, IsErrAnd}
use Rattle.std.specs.List.{list_all, list_any}
use Rattle.std.proofs.lemmas.Bool.{and_from}
use Rattle.std.proofs.Math.Bool.{or-false}
use Rattle.idn_class.specs.declared.properties.Properties.{Properties}
use Rattle.ruleset_text.specs.declared.entry_form.Mapped as held
use Rattle.ruleset_text.specs.declared.fault.FoundFaults.{FoundFaults}
use Rattle.ruleset_text.specs.Definitions.{Definitions, canonical_size, with_definition}
use Rattle.ruleset_text.specs.Entries.{Mapped}
use Rattle.ruleset_text.specs.EntryForms.{mapped}
use Rattle.ruleset_text.specs.EntryText.{IsForm}
use Rattle.ruleset_text.specs.EntryParts.{is_within}
use Rattle.ruleset_text.specs.declared.fault.DefinitionFault.{DefinitionFault}
use Rattle.ruleset_text.specs.Definition.{Definition}
use Rattle.ruleset_text.specs.DefinitionForms.{Adds, HasForm, Refused}
use Rattle.ruleset_text.specs.WellFormed.{AreDefinitions}
use Rattle.ruleset_text.proofs.DefinedLemmas.{Grown, NamesStay, names_stay_with, pushed_grows}
use Rattle.variant_table.specs.declared.table_draft.TableDraft.{TableDraft}
use Rattle.variant_table.specs.declared.fault.EntryFault.{EntryFault}
use Rattle.variant_table.specs.declared.version.Version.{Version}
use Rattle.variant_table.specs.declared.version.Version.TheVariants.{Three}
use Rattle.variant_table.specs.Building.{AddsEntry, form_of}
use Rattle.variant_table.specs.Canonical.{canonical_text, head_text}
use Rattle.variant_table.specs.Conditions.{has_bad_class, has_bad_point, is_too_large}
use Rattle.variant_table.specs.DefinitionLines.{room_for_definitions}
use Rattle.variant_table.specs.Entries.{Entry, TableValue, empty_table, sequences_in, table_of}
use Rattle.variant_table.specs.Forms.{entry_of, has_form, knows_names, variant_by, variant_mark}
use Rattle.variant_table.specs.Limits.{text_limit}
use Rattle.variant_table.specs.Reading.{with_form_of}
use Rattle.variant_table.specs.WellFormed.{IsTable}
use Rattle.variant_table.specs.inner.Drafts.{AreFoundOf, IsBuilt, IsCountedDraft, draft_table, form_with, is_long}
use Rattle.variant_table.specs.inner.Held.{IsCounted}
use Rattle.variant_table.proofs.DefiningLemmas.{counted_of}
use Rattle.variant_table.proofs.FaultlessLemmas.{empty_sound, form_added, grown_sound, ruleset_of_sound, sound_of_table}
use Rattle.variant_table.proofs.GrownLemmas.{named_on, text_stays}
use Rattle.variant_table.proofs.LimitLemmas.{text_limit-most}

-- ---- definitions

module _ (v : Version) (three : v ≡ Three) (d : Definitions) (t : List Entry) (left len : ℕ) (so_far : IsCounted v d left t) (size : len ≡ canonical_size d) where
  sum : length (head_text v ++ canonical_text d t) + canonical_size d + left ≡ text_limit v
  sum = omega (arith, so_far.count, counted_of v d t three)

  pub build_room_within : left + len ≤ 8388608
  build_room_within = omega (arith, sum, size, text_limit-most v)

  build_room : left + len ≡ room_for_definitions (table_of v d t)
  build_room = omega (arith, sum, size)

  -- a definition more
  module _ (x : Definition) (e : Definitions) (are : AreDefinitions d) (form : HasForm x) (added : with_definition (left + len) d (Some x) ≡ Ok e) where
    grown : Grown (left + len) d e
    grown = pushed_grows (left + len) d e x are form added

    stay : NamesStay d e
    stay = names_stay_with (left + len) d e (Some x) added

    pub build_read : with_definition (room_for_definitions (table_of v d t)) d (Some x) ≡ Ok e
    build_read = subst (λ n. with_definition n d (Some x) ≡ Ok e) build_room added

    pub build_table : IsTable (table_of v d t) → IsTable (table_of v e t)
    build_table is =
        ruleset_of_sound (table_of v e t) three
        (grown_sound (table_of v d t) e three (sound_of_table (table_of v d t) is) (subst (λ n. Grown n d e) build_room grown) stay)

    module _ (more : ℕ) (its : more ≡ canonical_size e) where
      pub build_fits : more ≤ left + len
      build_fits = omega (arith, its, grown.room)

      pub build_counted : IsCounted v e (left + len - more) t
      build_counted = record {
        count = omega (arith, sum, size, its, build_fits, counted_of v e t three, length-append (head_text v) (canonical_text e t), length-append (head_text v) (canonical_text d t), ap length (text_stays d e t stay so_far.named));
        named = named_on d e t stay so_far.named;
      }

  pub build_refused : {X : Type 0} (x : Definition) (e : Definitions) (r : Result X DefinitionFault) → Adds (left + len) d x r e
      → Adds (room_for_definitions (table_of v d t)) d x r e
  build_refused x e r h = subst (λ n. Adds n d x r e) build_room h

-- a definition that was refused, by what the call gives
pub refused_still : {X : Type 0} (limit : ℕ) (d : Definitions) (x : Definition) (e : Definitions) (f : DefinitionFault) (r : Result X DefinitionFault) → IsErr r
    → IsErrAnd r (λ g. g ≡ f) → Refused limit d x f → Adds limit d x r e
refused_still limit d x e f (Ok y) err is h = absurd (let clash : false ≡ true = err in cc)
refused_still limit d x e f (Err g) err is h = subst (Refused limit d x) (sym is) h

pub empty_ruleset : (properties : Properties) → IsTable (empty_table properties Three)
empty_ruleset properties = ruleset_of_sound (empty_table properties Three) refl (empty_sound properties Three)

-- ---- entries

all_within : (ms : List Mapped) → list_all (is_within true true) ms ≡ true
all_within [] = refl
all_within (m ∷ ms) = all_within ms

-- a ruleset has every form
every_form : (ms : List Mapped) → has_form Three (form_of ms) ≡ true
every_form [] = refl
every_form (m ∷ ms) = and_from (list_all (is_within true true) ms) true (all_within ms) refl

pub entry_ruleset : (t u : TableValue) (ms : List Mapped) → t.version ≡ Three → IsTable t → IsForm ms None → with_form_of t (form_of ms) ≡ Ok u → IsTable u
entry_ruleset t u ms is h form e =
    let parts : has_form t.version (form_of ms) ≡ true = subst (λ v. has_form v (form_of ms) ≡ true) (sym is) (every_form ms) in
    let added = form_added t u (form_of ms) (sound_of_table t h) form parts e in
    ruleset_of_sound u (ap (λ (x : TableValue). x.version) added.is ∙ is) added.sound

version_with : (t u : TableValue) (ms : List Mapped) → t.version ≡ Three → IsTable t → IsForm ms None → with_form_of t (form_of ms) ≡ Ok u → u.version ≡ Three
version_with t u ms is h form e =
    let parts : has_form t.version (form_of ms) ≡ true = subst (λ v. has_form v (form_of ms) ≡ true) (sym is) (every_form ms) in
    ap (λ (x : TableValue). x.version) (form_added t u (form_of ms) (sound_of_table t h) form parts e).is ∙ is

-- a ruleset to which an entry was added, or wasn't
pub built_after : {X : Type 0} (old new : TableDraft) (ms : List Mapped) (r : Result X EntryFault) → IsBuilt old → AddsEntry (draft_table old) ms r (draft_table new)
    → OnErr r (draft_table new ≡ draft_table old) → OnErr r (new.left ≡ old.left) → OnOk r (IsCountedDraft new) → IsBuilt new
built_after old new ms (Ok x) h added same left counted = record {
  three = version_with (draft_table old) (draft_table new) ms h.three h.table added.0 added.1;
  table = entry_ruleset (draft_table old) (draft_table new) ms h.three h.table added.0 added.1;
  counted = counted;
}
built_after old new ms (Err f) h added same left counted = record {
  three = ap (λ (x : TableValue). x.version) same ∙ h.three;
  table = subst IsTable (sym same) h.table;
  counted = subst (λ (x : TableValue). IsCounted x.version x.definitions new.left x.entries) (sym same)
      (subst (λ n. IsCounted old.version old.definitions n old.entries) (sym left) h.counted);
}

-- an entry that has its form has a source
pub some_mapped : (ms : List held.Mapped) → IsForm (map mapped ms) None → 0 < length ms
some_mapped [] h = absurd h
some_mapped (m ∷ ms) h = omega arith

-- ---- what is found of an entry

all_mapped : (f : Mapped → Bool) (ms : List held.Mapped) → list_all f (map mapped ms) ≡ list_all (λ m. f (mapped m)) ms
all_mapped f [] = refl
all_mapped f (m ∷ ms) = ap (λ b. f (mapped m) && b) (all_mapped f ms)

any_mapped : (f : Mapped → Bool) (ms : List held.Mapped) → list_any f (map mapped ms) ≡ list_any (λ m. f (mapped m)) ms
any_mapped f [] = refl
any_mapped f (m ∷ ms) = ap (λ b. f (mapped m) || b) (any_mapped f ms)

length_mapped : (ms : List held.Mapped) → length (map mapped ms) ≡ length ms
length_mapped [] = refl
length_mapped (m ∷ ms) = omega (arith, length_mapped ms)

bad_variants : (p : Properties) (d : Definitions) (ms : List Mapped) → list_any (has_bad_point p) (sequences_in (map (variant_by variant_mark d) ms))
    ≡ list_any (λ m. has_bad_point p m.points) ms
bad_variants p d [] = refl
bad_variants p d (m ∷ ms) = ap (λ b. has_bad_point p m.points || b) (bad_variants p d ms)

bad_entry : (p : Properties) (d : Definitions) (ms : List held.Mapped) → has_bad_class p (entry_of d (map mapped ms)) ≡ list_any (λ m. has_bad_point p (mapped m).points) ms
bad_entry p d [] = refl
bad_entry p d (m ∷ ms) = ap (λ b. has_bad_point p (mapped m).points || b) (bad_variants p d (map mapped ms) ∙ any_mapped (λ m. has_bad_point p m.points) ms)

-- what the tests of the program find is what is wrong with an entry
pub entry_found : (d : Definitions) (ms : List held.Mapped) (found : FoundFaults) → found.limit ≡ (nat_lt 17 (length ms) || list_any (λ m. is_long (mapped m)) ms)
    → found.name ≡ not (list_all (λ m. knows_names d (mapped m)) ms) → found.class ≡ list_any (λ m. has_bad_point d.properties (mapped m).points) ms
    → AreFoundOf d (form_with ms None) found
entry_found d ms found limit name class = record {
  limit = limit ∙ ap (λ n. nat_lt 17 n || list_any (λ m. is_long (mapped m)) ms) (sym (length_mapped ms))
      ∙ ap (λ b. nat_lt 17 (length (map mapped ms)) || b) (sym (any_mapped is_long ms)) ∙ sym (or-false (is_too_large (map mapped ms)));
  name = name ∙ ap not (sym (all_mapped (knows_names d) ms));
  class = λ none. class ∙ sym (bad_entry d.properties d ms) ∙ sym (or-false (has_bad_class d.properties (entry_of d (map mapped ms))));
}
