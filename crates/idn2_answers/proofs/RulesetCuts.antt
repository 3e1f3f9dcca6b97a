-- Labels are cut alike into the entries of a table and into the pieces of its ruleset.
use Rattle.std.proofs.Common.{◌≡◌, ℕ, ◌+◌, ◌<◌, ◌≤◌, ◌↔◌, Bool, Option, Some, None, List, [], ◌∷◌, ◌++◌, length, map, drop, refl, sym, ap, subst, ◌∙◌, arith, length-append}
use Rattle.std.specs.List.{All, AllByRecursion, Contains, flat_map, slice_range}
use Rattle.std.specs.Option.{option_map}
use Rattle.std.proofs.lemmas.List.Elements.{All-append, All-contains, All-head, All-nil, Contains-get_or}
use Rattle.idn_class.specs.declared.properties.Properties.{Properties}
use Rattle.label_patterns.specs.declared.condition.Condition as numbered
use Rattle.lgr_text.specs.Labels as lgr
use Rattle.lgr_text.specs.Meanings.{Meanings}
use Rattle.lgr_text.specs.Names.{HasItsNames}
use Rattle.lgr_text.specs.Records.{Condition, Ruleset}
use Rattle.lgr_text.specs.Repertoire.{Piece, pieces}
use Rattle.lgr_table.specs.Numbers.{Numbering, numbered_condition}
use Rattle.lgr_table.specs.Tables.{IsOfSources, Says, may_stand}
use Rattle.valid_labels.specs.Eligible.{IsEligible, IsLongest, LongestLeads, Stands}
use Rattle.valid_labels.proofs.CutLemmas.{EntryStands, rounds-map, steps-cut}
use Rattle.valid_labels.proofs.EligibleLemmas.{begins-within, eligible-segmentation, source-filled}
use Rattle.valid_labels.proofs.PartLemmas.{first-part}
use Rattle.variant_table.specs.Entries.{Entry, TableValue, source_of, whole}
use Rattle.variant_table.specs.Segmentations.{AllHold, AreJoined, IsMadeOfSources, IsSegmentation, seen_under}
use Rattle.variant_table.specs.WellFormed.{HasItsNames as HasItsOwn, HasItsRule as HasIts, IsNamed}
use Rattle.idn2_answers.proofs.RulesetConditions.{HasItsRule, condition-holds}
use Rattle.idn2_answers.proofs.RulesetPieces.{entry_at, of-entry, to-entry}

module _ (properties : Properties) (r : Ruleset) (m : Meanings) (n : Numbering) (t : TableValue) (names : HasItsNames r) (says : Says properties r m n t) where
  abbrev pub may : ℕ → Bool
  may = may_stand properties

  abbrev pub at : Piece → Entry
  at = entry_at may r n

  abbrev pub IsPiece : Piece → Type 0
  IsPiece = Contains (pieces may r)

  pub its-entry : (p : Piece) → IsPiece p → Contains t.entries (at p)
  its-entry p there = subst (λ (es : List Entry). Contains es (at p)) (sym says.entries) (to-entry may r n p there)

  pub its-piece : (e : Entry) → Contains t.entries e → (p : Piece) × IsPiece p × (e ≡ at p)
  its-piece e there = of-entry may r n e (subst (λ (es : List Entry). Contains es e) says.entries there)

  pub filled : (p : Piece) → IsPiece p → 0 < length p.source
  filled p there = source-filled t.entries (at p) says.well_formed.well_formed (its-entry p there)

  -- ---- conditions

  abbrev pub HasRuleOf : Option Condition → Type 0
  HasRuleOf = HasItsRule r m n t names says.say_rules says.defines.rules

  pub rule-there : (c : Option Condition) → HasIts t.definitions (option_map (numbered_condition n) c) → HasRuleOf c
  rule-there None has = tt
  rule-there (Some c) has = omega (arith, has, says.well_formed.without_fault.named_rules, says.defines.rules)

  pub its-names : (p : Piece) → IsPiece p → All (HasItsOwn t.definitions) (whole (at p))
  its-names p there = All-contains (IsNamed t.definitions) t.entries (at p) says.well_formed.named (its-entry p there)

  entry-rule : (p : Piece) → IsPiece p → HasRuleOf p.entry.condition
  entry-rule p there =
      let e = at p in
      rule-there p.entry.condition (All-head (HasItsOwn t.definitions) (source_of e) e.variants (its-names p there)).condition

  -- ---- a cut as lists

  entries-are : (cut : List Piece) → AllByRecursion IsPiece cut → AllByRecursion (Contains t.entries) (map at cut)
  entries-are [] all = tt
  entries-are (p ∷ cut) all = (its-entry p all.0, entries-are cut all.1)

  joined-are : (cut : List Piece) → flat_map (λ (e : Entry). e.source) (map at cut) ≡ flat_map (λ (p : Piece). p.source) cut
  joined-are [] = refl
  joined-are (p ∷ cut) = ap (λ s. p.source ++ s) (joined-are cut)

  pieces-are : (segmentation : List Entry) → AllByRecursion (Contains t.entries) segmentation → (cut : List Piece) × AllByRecursion IsPiece cut × (segmentation ≡ map at cut)
  pieces-are [] all = ([], tt, refl)
  pieces-are (e ∷ segmentation) all =
      let first = its-piece e all.0 in
      let rest = pieces-are segmentation all.1 in
      (first.0 ∷ rest.0, (first.1, rest.1), ap (λ (x : Entry). x ∷ segmentation) first.2 ∙ ap (λ (es : List Entry). at first.0 ∷ es) rest.2)

  -- each code point is one of a source
  of-sources : (segmentation : List Entry) → AllByRecursion (Contains t.entries) segmentation → IsOfSources t.entries (flat_map (λ (e : Entry). e.source) segmentation)
  of-sources [] all = All-nil (λ c. (e : Entry) × Contains t.entries e × Contains e.source c)
  of-sources (e ∷ segmentation) all =
      All-append (λ c. (e : Entry) × Contains t.entries e × Contains e.source c) e.source (flat_map (λ (e : Entry). e.source) segmentation)
      (λ k d less. (e, all.0, Contains-get_or e.source k d less)) (of-sources segmentation all.1)

  pub made-of : (segmentation : List Entry) (label : List ℕ) → AreJoined t segmentation label → IsOfSources t.entries label
  made-of segmentation label are = subst (IsOfSources t.entries) are.joined (of-sources segmentation are.of_table)

  pub to-joined : (cut : List Piece) (label : List ℕ) → lgr.AreJoined may r cut label → AreJoined t (map at cut) label
  to-joined cut label are = record { of_table = entries-are cut are.of_repertoire; joined = joined-are cut ∙ are.joined }

  pub from-joined : (segmentation : List Entry) (label : List ℕ) → AreJoined t segmentation label → (cut : List Piece) × lgr.AreJoined may r cut label × (segmentation ≡ map at cut)
  from-joined segmentation label are =
      let p = pieces-are segmentation are.of_table in (
        p.0,
        record {
          of_repertoire = p.1;
          joined = sym (joined-are p.0) ∙ ap (λ (es : List Entry). flat_map (λ (e : Entry). e.source) es) (sym p.2) ∙ are.joined;
        },
        p.2,
      )

  pub made-alike : (label : List ℕ) → IsMadeOfSources t label ↔ lgr.IsMadeOfSources may r label
  made-alike label = (
    λ h. (let cut = from-joined h.0 label h.1 in (cut.0, cut.1)),
    λ h. (map at h.0, to-joined h.0 label h.1),
  )

  -- ---- with conditions

  module _ (label : List ℕ) (made : IsOfSources t.entries label) where
    all-hold : (cut : List Piece) (place : ℕ) → AllByRecursion IsPiece cut → place + length (flat_map (λ (p : Piece). p.source) cut) ≤ length label
        → AllHold t.definitions.rules (seen_under t label) place (map at cut) ↔ lgr.AllHold r m label place cut
    all-hold [] place all fits = (λ h. tt, λ h. tt)
    all-hold (p ∷ cut) place all fits =
        let long = length-append p.source (flat_map (λ (p : Piece). p.source) cut) in
        let here = condition-holds r m n t names says.say_rules says.defines.rules label made place (place + length p.source)
        (omega (arith, fits)) (omega (arith, fits, long)) p.entry.condition (entry-rule p all.0) in
        let rest = all-hold cut (place + length p.source) all.1 (omega (arith, fits, long)) in
        (λ h. (here.0 h.0, rest.0 h.1), λ h. (here.1 h.0, rest.1 h.1))

    -- ---- the longest first

    within : (p : Piece) (place : ℕ) (rest : List ℕ) → IsPiece p → drop place label ≡ p.source ++ rest → place + length p.source ≤ length label
    within p place rest there begins = begins-within label place (at p) (filled p there) (rest, begins)

    stands-alike : (p : Piece) (place : ℕ) → IsPiece p → Stands t label place (at p) ↔ lgr.Stands may r m label place p
    stands-alike p place there = (
      λ s.
          let fits = within p place s.begins.0 there s.begins.1 in
          record {
            of_repertoire = there;
            there = s.begins;
            holds = (condition-holds r m n t names says.say_rules says.defines.rules label made place (place + length p.source)
                (omega (arith, fits)) fits p.entry.condition (entry-rule p there)).0 s.holds;
          },
      λ s.
          let fits = within p place s.there.0 there s.there.1 in
          record {
            of_table = its-entry p there;
            begins = s.there;
            holds = (condition-holds r m n t names says.say_rules says.defines.rules label made place (place + length p.source)
                (omega (arith, fits)) fits p.entry.condition (entry-rule p there)).1 s.holds;
          },
    )

    longest-alike : (p : Piece) (place : ℕ) → IsPiece p → IsLongest t label place (at p) ↔ lgr.IsLongest may r m label place p
    longest-alike p place there = (
      λ is. record {
        stands = (stands-alike p place there).0 is.stands;
        longest = λ q s. is.longest (at q) ((stands-alike q place s.of_repertoire).1 s);
      },
      λ is. record {
        stands = (stands-alike p place there).1 is.stands;
        longest = λ f s.
            let q = its-piece f s.of_table in
            let same : length f.source ≡ length q.0.source = ap (λ (e : Entry). length e.source) q.2 in
            let most = is.longest q.0 ((stands-alike q.0 place q.1).0 (subst (Stands t label place) q.2 s)) in
            omega (arith, same, most);
      },
    )

    leads-alike : (i j : ℕ) → LongestLeads t label i j ↔ lgr.LongestLeads may r m label i j
    leads-alike i j = (
      λ h.
          let p = its-piece h.0 h.1.stands.of_table in
          (p.0, (longest-alike p.0 i p.1).0 (subst (IsLongest t label i) p.2 h.1), h.2 ∙ ap (λ (e : Entry). i + length e.source) p.2),
      λ h. (at h.0, (longest-alike h.0 i h.1.stands.of_repertoire).1 h.1, h.2),
    )

  pub to-segmentation : (cut : List Piece) (label : List ℕ) → lgr.IsCut may r m cut label → IsSegmentation t (map at cut) label
  to-segmentation cut label is =
      let are = to-joined cut label is.joined in
      let size : length (flat_map (λ (p : Piece). p.source) cut) ≡ length label = ap length is.joined.joined in
      record {
        of_table = are.of_table;
        joined = are.joined;
        held = (all-hold label (made-of (map at cut) label are) cut 0 is.joined.of_repertoire (omega (arith, size))).1 is.hold;
      }

  -- pieces whose entries are a segmentation are a cut
  pub cut-of : (cut : List Piece) (label : List ℕ) → AllByRecursion IsPiece cut → IsSegmentation t (map at cut) label → lgr.IsCut may r m cut label
  cut-of cut label all is =
      let are : AreJoined t (map at cut) label = record { of_table = is.of_table; joined = is.joined } in
      let same : flat_map (λ (p : Piece). p.source) cut ≡ label = sym (joined-are cut) ∙ is.joined in
      let size : length (flat_map (λ (p : Piece). p.source) cut) ≡ length label = ap length same in
      record {
        joined = record { of_repertoire = all; joined = same };
        hold = (all-hold label (made-of (map at cut) label are) cut 0 all (omega (arith, size))).0 is.held;
      }

  pub from-segmentation : (segmentation : List Entry) (label : List ℕ) → IsSegmentation t segmentation label → (cut : List Piece) × lgr.IsCut may r m cut label × (segmentation ≡ map at cut)
  from-segmentation segmentation label is =
      let cut = pieces-are segmentation is.of_table in
      (cut.0, cut-of cut.0 label cut.1 (subst (λ (es : List Entry). IsSegmentation t es label) cut.2 is), cut.2)

  -- ---- eligible labels

  -- a label that is cut by the longest is made of sources
  pub eligible-made : (label : List ℕ) → lgr.IsEligible may r m label → IsOfSources t.entries label
  eligible-made label eligible =
      let Q = Contains t.entries in
      let A : Option numbered.Condition → ℕ → ℕ → Type 0 = λ c i j. Unit {0} in
      let stands : (i j : ℕ) → lgr.LongestLeads may r m label i j → EntryStands Q A label i j = λ i j h.
      let p = h.0 in
      let s = h.1.stands in
      let fits = begins-within label i (at p) (filled p s.of_repertoire) s.there in
      let e = h.2 in (
        at p,
        its-entry p s.of_repertoire,
        omega (arith, e),
        omega (arith, e, fits),
        ap (slice_range label i) e ∙ first-part label i p.source s.there.0 s.there.1,
        tt,
      ) in
      let cut = steps-cut Q A label (rounds-map (lgr.LongestLeads may r m label) (EntryStands Q A label) stands 0 (length label) eligible) in
      made-of cut.0 label (record { of_table = cut.1.each; joined = cut.1.joined })

  pub eligible-of : (label : List ℕ) → IsEligible t label → IsOfSources t.entries label
  eligible-of label eligible =
      let s = eligible-segmentation t label eligible in
      made-of s.0 label (record { of_table = s.1.of_table; joined = s.1.joined })

  pub eligible-alike : (label : List ℕ) → IsEligible t label ↔ lgr.IsEligible may r m label
  eligible-alike label = (
    λ h. rounds-map (LongestLeads t label) (lgr.LongestLeads may r m label) (λ i j. (leads-alike label (eligible-of label h) i j).0) 0 (length label) h,
    λ h. rounds-map (lgr.LongestLeads may r m label) (LongestLeads t label) (λ i j. (leads-alike label (eligible-made label h) i j).1) 0 (length label) h,
  )
