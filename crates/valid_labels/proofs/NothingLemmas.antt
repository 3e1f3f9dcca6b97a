-- Labels that may be asked about, and tables that ask nothing.
use Rattle.std.proofs.Common.{◌≡◌, ◌≢◌, ◌⊎◌, ℕ, ◌+◌, ◌≤◌, inl, inr, Bool, true, false, cond, List, [], ◌∷◌, ◌++◌, length, map, drop, refl, sym, ap, subst, ◌∙◌, arith, length-append, length-drop, append_assoc, ◌-◌}
use Rattle.std.specs.Prelude.{◌&&◌, Option, Some, None, filter, find, unwrap_or}
use Rattle.std.specs.List.{All, AllByRecursion, Contains, flat_map, list_all, list_any, slice_range}
use Rattle.std.specs.Option.{option_map}
use Rattle.std.proofs.lemmas.Bool.{and_parts}
use Rattle.std.proofs.lemmas.List.Elements.{All-contains, All-from_recursion, recursion_from_All}
use Rattle.label_patterns.specs.Matches.{Rounds, no_round, one_more}
use Rattle.label_patterns.specs.declared.condition.Condition.{Condition}
use Rattle.ruleset_text.specs.Actions.{NamedAction, NamedTrigger}
use Rattle.ruleset_text.specs.Definitions.{Definitions, nothing_defined}
use Rattle.variant_dispositions.specs.declared.action.Action.{Action}
use Rattle.variant_dispositions.specs.declared.action.TypeTrigger.{TypeTrigger}
use Rattle.variant_dispositions.specs.declared.action.TypeTrigger.TheVariants as trigger
use Rattle.variant_dispositions.specs.declared.action.TypeTrigger.TheVariants.{Any, Only}
use Rattle.variant_dispositions.specs.declared.disposition.Disposition.{Disposition}
use Rattle.variant_dispositions.specs.declared.disposition.Disposition.TheVariants.{Invalid, Valid}
use Rattle.variant_dispositions.specs.Actions.{default_disposition, has_types, is_of, is_triggered, meets}
use Rattle.variant_dispositions.specs.Kinds.{Kind, is_mapped}
use Rattle.variant_dispositions.specs.Kinds.Kind.{Unmapped}
use Rattle.variant_dispositions.proofs.MemberLemmas.{all-told, any-told}
use Rattle.variant_dispositions.proofs.SetLemmas.{KindsAreASet-holds}
use Rattle.variant_table.specs.declared.version.Version.{Version}
use Rattle.variant_table.specs.declared.version.Version.TheVariants.{One, Two, Three}
use Rattle.variant_table.specs.Entries.{Entry, TableValue, IsOfVersion, IsPlain, replacements, sequences_in, source_of, whole}
use Rattle.variant_table.specs.Forms.{numbered}
use Rattle.variant_table.specs.WellFormed.{AreOfVersion, IsTable, IsWellFormed}
use Rattle.variant_table.proofs.MemberLemmas.{Contains-cases, Contains-head, Contains-one}
use Rattle.variant_table.specs.Segmentations.{IsMadeOfReplacements, IsMadeOfSources, IsSegmentation, HasNoConditions, HasSegmentation, seen_under}
use Rattle.valid_labels.specs.Actions.{action_of, matches_rule, trigger_of}
use Rattle.valid_labels.specs.Dispositions.{IsOwnDisposition, disposition_by, kinds_of}
use Rattle.valid_labels.specs.Eligible.{IsEligible, LongestLeads}
use Rattle.valid_labels.specs.Demands.{IsMet, MeetsDemands}
use Rattle.valid_labels.specs.Validity.{AllowsAnyCut, AsksNothing, AsksTypesAlone, HasVariantsOfSources, IsAdmitted, HasSourcesOfPoints, IsValid}
use Rattle.valid_labels.specs.Laws.{AdmitsSources, AdmittedAreValid, NothingIsAsked}
use Rattle.valid_labels.proofs.EligibleLemmas.{eligible-segmentation, point-leads, points-eligible}
use Rattle.valid_labels.proofs.ItselfLemmas.{kinds-unmapped, one-disposition, some-unmapped, typeless-clear}
use Rattle.variant_table.proofs.MemberLists.{Contains-flat_map, all-map}
use Rattle.valid_labels.proofs.PartLemmas.{first-part, first-inside, after-first}
use Rattle.valid_labels.proofs.SegmentationLemmas.{HoldsIn, segmentation-free}

no-demands : (table : TableValue) (label : List ℕ) → table.definitions.demands ≡ [] → MeetsDemands table label
no-demands table label none = subst (AllByRecursion (IsMet (seen_under table label))) (sym none) tt

pub cut-segmentation : (table : TableValue) (label : List ℕ) → (AllowsAnyCut table × IsMadeOfSources table label) ⊎ IsEligible table label → HasSegmentation table label
cut-segmentation table label cut = elim cut [
  | inl any ↦ segmentation-free table label any.0.cuts_alone.conditions any.1
  | inr eligible ↦ eligible-segmentation table label eligible
]

admitted-is_valid : (table : TableValue) (label : List ℕ) → IsAdmitted table label → IsValid table label
admitted-is_valid table label h = record {
  cut = elim h.cut [ inl any ↦ inl any.0 | inr eligible ↦ inr eligible ];
  met = h.met;
}

pub admitted-valid : AdmittedAreValid
admitted-valid = record {
  valid = admitted-is_valid;
  segmented = λ table label h. cut-segmentation table label h.cut;
  one_disposition = λ table label d e h one other. one-disposition table label d e h.clear one other;
}

-- ---- a table that asks nothing

pub any-cut-asks_nothing : (table : TableValue) → AllowsAnyCut table → AsksNothing table
any-cut-asks_nothing table any = record { cuts_alone = any.cuts_alone; cuts = inl any.earlier }

of-sources : (table : TableValue) → AsksNothing table → AdmitsSources table
of-sources table nothing = record {
  cuts_alone = nothing.cuts_alone;
  cuts = elim nothing.cuts [ inl earlier ↦ inl earlier | inr single ↦ inr single.0 ];
}

abbrev any-cut : (table : TableValue) → AdmitsSources table → table.version ≢ Three → AllowsAnyCut table
any-cut table nothing earlier = record { earlier = earlier; cuts_alone = nothing.cuts_alone }

-- each source is one code point, and each variant is made of sources
module _ (table : TableValue) (label : List ℕ) (conditions : HasNoConditions table) (points : HasSourcesOfPoints table) (made : HasVariantsOfSources table) where
  abbrev Leads : ℕ → ℕ → Type 0
  Leads i j = LongestLeads table label i j

  no-condition : (e : Entry) → Contains table.entries e → e.condition ≡ None
  no-condition e h = All-contains (λ (x : Entry). x.condition ≡ None) table.entries e (All-from_recursion (λ (x : Entry). x.condition ≡ None) table.entries conditions) h

  -- a source that is in the label
  source-stands : (e : Entry) (i j : ℕ) → Contains table.entries e → i ≤ j → j ≤ length label → slice_range label i j ≡ e.source → Leads i j
  source-stands e i j h l m is = point-leads table label points i j (e, h, l, m, is, subst (λ c. HoldsIn table label c i j) (sym (no-condition e h)) tt)

  -- sources one after the other
  sources-lead : (es : List Entry) (place : ℕ) (rest : List ℕ) → AllByRecursion (Contains table.entries) es → place ≤ length label → drop place label ≡ flat_map (λ (e : Entry). e.source) es ++ rest
      → Rounds Leads 0 place → Rounds Leads 0 (place + length (flat_map (λ (e : Entry). e.source) es))
  sources-lead [] place rest each l is rounds = subst (Rounds Leads 0) (omega arith) rounds
  sources-lead (e ∷ es) place rest each l is rounds =
      let later : List ℕ = flat_map (λ (x : Entry). x.source) es in
      let cut : drop place label ≡ e.source ++ (later ++ rest) = is ∙ append_assoc e.source later rest in
      let inside = first-inside label place e.source (later ++ rest) l cut in
      let step = source-stands e place (place + length e.source) each.0 (omega arith) inside (first-part label place e.source (later ++ rest) cut) in
      subst (Rounds Leads 0) (let n = length-append e.source later in omega (arith, n))
      (sources-lead es (place + length e.source) rest each.1 inside (after-first label place e.source (later ++ rest) cut) (one_more place (place + length e.source) rounds step))

  -- a source or a variant
  part-leads : (s rest : List ℕ) (place : ℕ) → Contains (flat_map replacements table.entries) s → place ≤ length label → drop place label ≡ s ++ rest → Rounds Leads 0 place
      → Rounds Leads 0 (place + length s)
  part-leads s rest place h l is rounds =
      let e = (Contains-flat_map replacements table.entries s).0 h in
      let inside = first-inside label place s rest l is in
      let at = first-part label place s rest is in
      elim (Contains-cases e.0.source (sequences_in e.0.variants) s e.2) [
        | inl same ↦ one_more place (place + length s) rounds (source-stands e.0 place (place + length s) e.1 (omega arith) inside (at ∙ sym same))
        | inr variant ↦
            let es = made-in e.0 s e.1 variant in
            subst (λ n. Rounds Leads 0 (place + n)) (ap length es.1.joined) (sources-lead es.0 place rest es.1.of_table l (is ∙ ap (λ t. t ++ rest) (sym es.1.joined)) rounds)
      ]
    where
      made-in : (e : Entry) (v : List ℕ) → Contains table.entries e → Contains (sequences_in e.variants) v → IsMadeOfSources table v
      made-in e v h k =
          let each : AllByRecursion (IsMadeOfSources table) (sequences_in e.variants) =
          All-contains (λ (x : Entry). AllByRecursion (IsMadeOfSources table) (sequences_in x.variants)) table.entries e (All-from_recursion (λ (x : Entry). AllByRecursion (IsMadeOfSources table) (sequences_in x.variants)) table.entries made) h in
          All-contains (IsMadeOfSources table) (sequences_in e.variants) v (All-from_recursion (IsMadeOfSources table) (sequences_in e.variants) each) k

  parts-lead : (parts : List (List ℕ)) (place : ℕ) → AllByRecursion (Contains (flat_map replacements table.entries)) parts → place ≤ length label → drop place label ≡ flat_map (λ (s : List ℕ). s) parts
      → Rounds Leads 0 place → Rounds Leads 0 (length label)
  parts-lead [] place each l is rounds =
      let d : length (drop place label) ≡ length label - place = length-drop place label in
      let none : length (drop place label) ≡ 0 = ap length is in
      subst (Rounds Leads 0) (omega (arith, d, none, l)) rounds
  parts-lead (s ∷ parts) place each l is rounds =
      let rest : List ℕ = flat_map (λ (t : List ℕ). t) parts in
      parts-lead parts (place + length s) each.1 (first-inside label place s rest l is) (after-first label place s rest is) (part-leads s rest place each.0 l is rounds)

  pub replacements-eligible : IsMadeOfReplacements table label → IsEligible table label
  replacements-eligible h = parts-lead h.0 0 h.1 (omega arith) (sym h.2) no_round

replacements-valid : (table : TableValue) (label : List ℕ) → AsksNothing table → IsMadeOfReplacements table label → IsValid table label
replacements-valid table label nothing made = record {
  cut = elim nothing.cuts [
    | inl earlier ↦ inl (any-cut table (of-sources table nothing) earlier)
    | inr single ↦ inr (replacements-eligible table label nothing.cuts_alone.conditions single.0 single.1 made)
  ];
  met = no-demands table label nothing.cuts_alone.demands;
}

-- ---- tables of versions 1 and 2

plain-source : (e : Entry) → All IsPlain (whole e) → IsPlain (source_of e)
plain-source e plain = All-contains IsPlain (whole e) (source_of e) plain (Contains-head (source_of e) e.variants)

plain-in : (v : Version) (es : List Entry) → v ≢ Three → AllByRecursion (IsOfVersion v) es → AllByRecursion (λ e. IsPlain (source_of e)) es
plain-in v [] older each = tt
plain-in One (e ∷ es) older each = (plain-source e each.0, plain-in One es older each.1)
plain-in Two (e ∷ es) older each = (each.0.0, plain-in Two es older each.1)
plain-in Three (e ∷ es) older each = absurd (older refl)

nothing-defined : (v : Version) (d : Definitions) → v ≢ Three → AreOfVersion v d → d ≡ nothing_defined d.properties
nothing-defined One d older none = none
nothing-defined Two d older none = none
nothing-defined Three d older none = absurd (older refl)

pub older-asks_nothing : (table : TableValue) → IsTable table → table.version ≢ Three → AsksNothing table
older-asks_nothing table is older =
    let plain = plain-in table.version table.entries older (recursion_from_All (IsOfVersion table.version) table.entries is.of_version) in
    let nothing = nothing-defined table.version table.definitions older is.defined in
    record {
      cuts_alone = record {
        conditions = all-map (λ (e : Entry). IsPlain (source_of e)) (λ (e : Entry). e.condition ≡ None) table.entries (λ e h. h.1) plain;
        demands = ap (λ (x : Definitions). x.demands) nothing;
        types = all-map (λ (e : Entry). IsPlain (source_of e)) (λ (e : Entry). e.type ≡ None) table.entries (λ e h. h.0) plain;
        actions = subst (AllByRecursion AsksTypesAlone) (sym (ap (λ (x : Definitions). x.actions) nothing)) tt;
      };
      cuts = inl older;
    }

-- ---- a label under a table that asks nothing of it

module _ (table : TableValue) (label : List ℕ) (formed : IsWellFormed table.entries) (nothing : AdmitsSources table) (some : label ≢ []) where
  cut-of : IsMadeOfSources table label → (AllowsAnyCut table × IsMadeOfSources table label) ⊎ IsEligible table label
  cut-of made = elim nothing.cuts [
    | inl earlier ↦ inl (any-cut table nothing earlier, made)
    | inr points ↦ inr (points-eligible table label points (segmentation-free table label nothing.cuts_alone.conditions made))
  ]

  -- no action is triggered
  never : (kinds : List Kind) → ((kind : Kind) → Contains kinds kind → Unmapped ≡ kind) → Contains kinds Unmapped → (types : TypeTrigger) → has_types (Some types) kinds ≡ true → ⊥
  never kinds unmapped there (Any types) h =
      let g = (any-told (is_of types) kinds).0 h in
      let clash : false ≡ true = ap (is_of types) (unmapped g.0 g.1) ∙ g.2 in
      cc
  never kinds unmapped there (trigger.All types) h =
      let g = (any-told is_mapped kinds).0 (and_parts (list_any is_mapped kinds) (list_all (is_of types) (filter is_mapped kinds)) h).0 in
      let clash : false ≡ true = ap is_mapped (unmapped g.0 g.1) ∙ g.2 in
      cc
  never kinds unmapped there (Only types) h = let clash : false ≡ true = (all-told (is_of types) kinds).0 h Unmapped there in cc

  named-never : (kinds : List Kind) → ((kind : Kind) → Contains kinds kind → Unmapped ≡ kind) → Contains kinds Unmapped → (matched : ℕ → Bool) (o : Option NamedTrigger) → o ≢ None
      → (condition : Option Condition) (d : Disposition)
      → is_triggered matched kinds (record { disposition = d; condition = condition; types = option_map (trigger_of table.definitions) o }) ≡ false
  named-never kinds unmapped there matched None other condition d = absurd (other refl)
  named-never kinds unmapped there matched (Some t) other condition d = by_test (has_types (Some (trigger_of table.definitions t)) kinds) refl
    where
      by_test : (b : Bool) → has_types (Some (trigger_of table.definitions t)) kinds ≡ b → (b && meets matched condition) ≡ false
      by_test true is = absurd (never kinds unmapped there (trigger_of table.definitions t) is)
      by_test false is = refl

  first-none : (kinds : List Kind) → ((kind : Kind) → Contains kinds kind → Unmapped ≡ kind) → Contains kinds Unmapped → (matched : ℕ → Bool) (actions : List NamedAction) → AllByRecursion AsksTypesAlone actions
      → find (is_triggered matched kinds) (map (action_of table.definitions) actions) ≡ None
  first-none kinds unmapped there matched [] each = refl
  first-none kinds unmapped there matched (a ∷ actions) each =
      ap (λ b. cond b (Some (action_of table.definitions a)) (find (is_triggered matched kinds) (map (action_of table.definitions) actions)))
      (named-never kinds unmapped there matched a.trigger each.0.1 (option_map (numbered table.definitions) a.condition) a.disposition)
      ∙ first-none kinds unmapped there matched actions each.1

  -- the default actions give valid
  unmapped-valid : (kinds : List Kind) → ((kind : Kind) → Contains kinds kind → Unmapped ≡ kind) → Contains kinds Unmapped → disposition_by table label kinds ≡ Valid
  unmapped-valid kinds unmapped there =
      ap (λ (found : Option Action). unwrap_or (option_map (λ (a : Action). a.disposition) found) (unwrap_or (default_disposition (matches_rule table label) kinds) Valid))
      (first-none kinds unmapped there (matches_rule table label) table.definitions.actions nothing.cuts_alone.actions)
      ∙ KindsAreASet-holds (matches_rule table label) [] kinds (Unmapped ∷ []) (λ kind. (
        λ c. subst (Contains (Unmapped ∷ [])) (unmapped kind c) (Contains-head Unmapped []),
        λ c. subst (Contains kinds) (Contains-one Unmapped kind c) there,
      ))

  segmentation-valid : (es : List Entry) → IsSegmentation table es label → disposition_by table label (kinds_of es) ≡ Valid
  segmentation-valid es is = unmapped-valid (kinds_of es) (kinds-unmapped table label formed nothing.cuts_alone.types es is.of_table) (some-unmapped table label formed nothing.cuts_alone.types es is some)

  pub admitted-if_made : IsMadeOfSources table label → IsAdmitted table label × IsOwnDisposition table label Valid
  admitted-if_made made =
      let s = cut-segmentation table label (cut-of made) in (
        record {
          cut = cut-of made;
          met = no-demands table label nothing.cuts_alone.demands;
          clear = typeless-clear table label formed nothing.cuts_alone.types;
          not_invalid = λ h. absurd (let clash : Valid ≡ Invalid = sym (segmentation-valid h.0 h.1) ∙ h.2 in cc);
        },
        (s.0, s.1, segmentation-valid s.0 s.1),
      )

pub nothing-is-asked : NothingIsAsked
nothing-is-asked = record {
  admitted = λ table label formed nothing some. admitted-if_made table label formed nothing some;
  never_invalid = λ table label formed nothing some refused. refused.1 (admitted-if_made table label formed nothing some refused.0).0;
  of_sources = of-sources;
  valid = replacements-valid;
  older = older-asks_nothing;
}
