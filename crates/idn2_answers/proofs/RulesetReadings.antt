-- The readings of a label under a table are those under its ruleset.
use Rattle.std.proofs.Common.{◌≡◌, ◌≢◌, ℕ, ◌+◌, ◌≤◌, ◌&&◌, not, Bool, true, false, Option, Some, None, List, [], ◌∷◌, ◌++◌, length, map, refl, sym, ap, subst, ◌∙◌, arith, length-append}
use Rattle.std.specs.Prelude.{IsTrue, slice_index_or}
use Rattle.std.specs.List.{All, AllByRecursion, Contains, filter, find, flat_map}
use Rattle.std.proofs.lemmas.Bool.{and_parts}
use Rattle.std.proofs.lemmas.List.Elements.{All-contains, Contains-get_or}
use Rattle.std.proofs.lemmas.Slice.Eq.{bytes_eq-Decides}
use Rattle.idn_class.specs.declared.properties.Properties.{Properties}
use Rattle.label_patterns.specs.Conditions as patterns
use Rattle.lgr_text.specs.Labels as lgr
use Rattle.lgr_text.specs.Meanings.{Meanings}
use Rattle.lgr_text.specs.Names.{HasItsNames}
use Rattle.lgr_text.specs.Readings as lgr_readings
use Rattle.lgr_text.specs.Readings.{IsOwn, Step, piece_of, points_of}
use Rattle.lgr_text.specs.Records.{Condition, Ruleset}
use Rattle.lgr_text.specs.Records as records
use Rattle.lgr_text.specs.Repertoire.{Piece, is_reflexive, kept_sources, may_be}
use Rattle.lgr_table.specs.Entries.{HasOneType, variant_of}
use Rattle.lgr_table.specs.Numbers.{Numbering}
use Rattle.lgr_table.specs.Tables.{IsOfSources, Says}
use Rattle.variant_list.specs.Readings.{IsReadingOf, Mapping, MayAllBeMade, MayBeMade, entry_of, sequence_of}
use Rattle.variant_list.specs.Readings.Mapping.{Maps, Stays}
use Rattle.variant_table.proofs.MemberLemmas.{Contains-later, find_none, find_some}
use Rattle.variant_table.proofs.MemberLists.{Contains-filter, Contains-map}
use Rattle.variant_table.specs.Entries.{Entry, TableValue, Variant, source_of, whole}
use Rattle.variant_table.specs.Segmentations.{IsSegmentation, seen_under}
use Rattle.variant_table.specs.WellFormed.{HasItsNames as HasItsOwn}
use Rattle.idn2_answers.specs.Dispositions.{IsReadingFor, IsStaying}
use Rattle.idn2_answers.proofs.RulesetConditions.{condition-holds}
use Rattle.idn2_answers.proofs.RulesetCuts.{HasRuleOf, IsPiece, at, cut-of, its-names, its-piece, made-of, may, rule-there, to-segmentation}
use Rattle.idn2_answers.proofs.RulesetPieces.{entry-piece, source-may}

true-of-not : (b : Bool) → b ≡ false → IsTrue (not b)
true-of-not b is = ap not is

false-of-not : (b : Bool) → IsTrue (not b) → b ≡ false
false-of-not true is = absurd (let clash : false ≡ true = is in cc)
false-of-not false is = refl

is-reflexive : (source : List ℕ) (v : records.Variant) → is_reflexive source v ≡ true → v.points ≡ source
is-reflexive source v is = (bytes_eq-Decides v.points source).0 is

not-reflexive : (source : List ℕ) (v : records.Variant) → is_reflexive source v ≡ false → v.points ≢ source
not-reflexive source v other same = let clash : true ≡ false = sym ((bytes_eq-Decides v.points source).1 same) ∙ other in absurd (cc)

module _ (properties : Properties) (r : Ruleset) (m : Meanings) (n : Numbering) (t : TableValue) (names : HasItsNames r) (says : Says properties r m n t) where
  abbrev Its : Piece → Type 0
  Its = IsPiece properties r m n t names says

  abbrev entry : Piece → Entry
  entry = at properties r m n t names says

  abbrev kept : ℕ → Bool
  kept = may properties r m n t names says

  abbrev pub mapped_if : Bool → Piece → records.Variant → Mapping
  mapped_if true p v = Stays (entry p)
  mapped_if false p v = Maps (entry p) (variant_of n v)

  -- what the table makes of a step
  abbrev pub mapped : Step → Mapping
  mapped (lgr_readings.Stays p) = Stays (entry p)
  mapped (lgr_readings.Maps p v) = mapped_if (is_reflexive p.source v) p v

  entry-mapped : (s : Step) → entry_of (mapped s) ≡ entry (piece_of s)
  entry-mapped (lgr_readings.Stays p) = refl
  entry-mapped (lgr_readings.Maps p v) = by (is_reflexive p.source v)
    where
      by : (b : Bool) → entry_of (mapped_if b p v) ≡ entry p
      by true = refl
      by false = refl

  sequence-mapped : (s : Step) → sequence_of (mapped s) ≡ points_of s
  sequence-mapped (lgr_readings.Stays p) = refl
  sequence-mapped (lgr_readings.Maps p v) = by (is_reflexive p.source v) refl
    where
      by : (b : Bool) → is_reflexive p.source v ≡ b → sequence_of (mapped_if b p v) ≡ v.points
      by true is = sym (is-reflexive p.source v is)
      by false is = refl

  entries-mapped : (reading : List Step) → map entry_of (map mapped reading) ≡ map entry (map piece_of reading)
  entries-mapped [] = refl
  entries-mapped (s ∷ reading) = ap (λ (e : Entry). e ∷ map entry_of (map mapped reading)) (entry-mapped s) ∙ ap (λ (es : List Entry). entry (piece_of s) ∷ es) (entries-mapped reading)

  sequences-mapped : (reading : List Step) → flat_map sequence_of (map mapped reading) ≡ flat_map points_of reading
  sequences-mapped [] = refl
  sequences-mapped (s ∷ reading) =
      ap (λ (l : List ℕ). l ++ flat_map sequence_of (map mapped reading)) (sequence-mapped s) ∙ ap (λ (l : List ℕ). points_of s ++ l) (sequences-mapped reading)

  -- ---- the variants of an entry

  pub variant-there : (p : Piece) (v : records.Variant) → Contains p.entry.variants v → IsTrue (may_be kept v.points) → is_reflexive p.source v ≡ false → Contains (entry p).variants (variant_of n v)
  variant-there p v there is other =
      (Contains-map (variant_of n) (filter (λ (w : records.Variant). may_be kept w.points && not (is_reflexive p.source w)) p.entry.variants) (variant_of n v)).1 (
        v,
        (Contains-filter (λ (w : records.Variant). may_be kept w.points && not (is_reflexive p.source w)) p.entry.variants v).1
            (there, ap (λ b. b && not (is_reflexive p.source v)) is ∙ true-of-not (is_reflexive p.source v) other),
        refl,
      )

  -- a variant of the ruleset by one of the table
  pub variant-back : (p : Piece) (w : Variant) → Contains (entry p).variants w
      → (v : records.Variant) × Contains p.entry.variants v × IsTrue (may_be kept v.points) × (is_reflexive p.source v ≡ false) × (w ≡ variant_of n v)
  variant-back p w there =
      let v = (Contains-map (variant_of n) (filter (λ (w : records.Variant). may_be kept w.points && not (is_reflexive p.source w)) p.entry.variants) w).0 there in
      let is = (Contains-filter (λ (w : records.Variant). may_be kept w.points && not (is_reflexive p.source w)) p.entry.variants v.0).0 v.1 in
      let both = and_parts (may_be kept v.0.points) (not (is_reflexive p.source v.0)) is.1 in
      (v.0, is.0, both.0, false-of-not (is_reflexive p.source v.0) both.1, v.2)

  variant-rule : (p : Piece) (v : records.Variant) → Its p → Contains (entry p).variants (variant_of n v) → HasRuleOf properties r m n t names says v.condition
  variant-rule p v its there =
      rule-there properties r m n t names says v.condition
      (All-contains (HasItsOwn t.definitions) (whole (entry p)) (variant_of n v) (its-names properties r m n t names says p its)
      (Contains-later (source_of (entry p)) (entry p).variants (variant_of n v) there)).condition

  -- ---- reflexive variants: there is one at most, without a condition

  pub one-type : (p : Piece) → Its p → HasOneType p.entry p.source
  one-type p its =
      let of = entry-piece kept r p its in
      All-contains (HasOneType p.entry) (kept_sources kept p.entry) p.source
      (All-contains (λ (e : records.Entry). All (HasOneType e) (kept_sources kept e)) r.entries p.entry says.of_one_type of.0) of.1

  pub bare : (p : Piece) (v : records.Variant) → Its p → Contains p.entry.variants v → is_reflexive p.source v ≡ true → v.condition ≡ None
  bare p v its there is =
      All-contains (λ (w : records.Variant). w.condition ≡ None) (filter (is_reflexive p.source) p.entry.variants) v (one-type p its).1
      ((Contains-filter (is_reflexive p.source) p.entry.variants v).1 (there, is))

  module _ (label : List ℕ) (made : IsOfSources t.entries label) where
    to-made : (s : Step) (place : ℕ) → Its (piece_of s) → place + length (piece_of s).source ≤ length label → lgr_readings.MayBeMade kept r m label place s → MayBeMade t label place (mapped s)
    to-made (lgr_readings.Stays p) place its fits is = tt
    to-made (lgr_readings.Maps p v) place its fits is = by (is_reflexive p.source v) refl
      where
        by : (b : Bool) → is_reflexive p.source v ≡ b → MayBeMade t label place (mapped_if b p v)
        by true reflexive = tt
        by false other =
            let there = variant-there p v is.0 is.1 other in (
              there,
              (condition-holds r m n t names says.say_rules says.defines.rules label made place (place + length p.source) (omega (arith, fits)) fits v.condition
                  (variant-rule p v its there)).1 is.2,
            )

    -- a step by what the table does
    from-made : (x : Mapping) (place : ℕ) → Contains t.entries (entry_of x) → place + length (entry_of x).source ≤ length label → MayBeMade t label place x
        → (s : Step) × Its (piece_of s) × lgr_readings.MayBeMade kept r m label place s × (x ≡ mapped s)
    from-made (Stays e) place of_table fits is = by (find (is_reflexive piece.0.source) piece.0.entry.variants) refl
      where
        piece : (p : Piece) × Its p × (e ≡ entry p)
        piece = its-piece properties r m n t names says e of_table

        by : (o : Option records.Variant) → find (is_reflexive piece.0.source) piece.0.entry.variants ≡ o
            → (s : Step) × Its (piece_of s) × lgr_readings.MayBeMade kept r m label place s × (Stays e ≡ mapped s)
        by None none = (
          lgr_readings.Stays piece.0,
          piece.1,
          (λ k d less same. absurd (not-reflexive piece.0.source (slice_index_or piece.0.entry.variants k d)
              (find_none (is_reflexive piece.0.source) piece.0.entry.variants (slice_index_or piece.0.entry.variants k d) none (Contains-get_or piece.0.entry.variants k d less)) same)),
          ap (λ (e : Entry). Stays e) piece.2,
        )
        by (Some v) some =
            let found = find_some (is_reflexive piece.0.source) piece.0.entry.variants v some in
            let bare : v.condition ≡ None = bare piece.0 v piece.1 found.0 found.1 in
            let allowed : IsTrue (may_be kept v.points) = subst (λ (s : List ℕ). IsTrue (may_be kept s)) (sym (is-reflexive piece.0.source v found.1)) (source-may kept r piece.0 piece.1) in (
              lgr_readings.Maps piece.0 v,
              piece.1,
              (found.0, allowed, subst (λ (c : Option Condition). lgr.ConditionHolds r m label c place (place + length piece.0.source)) (sym bare) tt),
              ap (λ (e : Entry). Stays e) piece.2 ∙ ap (λ b. mapped_if b piece.0 v) (sym found.1),
            )
    from-made (Maps e w) place of_table fits is =
        let p = its-piece properties r m n t names says e of_table in
        let v = variant-back p.0 w (subst (λ (x : Entry). Contains x.variants w) p.2 is.0) in
        let there = variant-there p.0 v.0 v.1 v.2 v.3 in
        let long : length e.source ≡ length p.0.source = ap (λ (x : Entry). length x.source) p.2 in
        let held = subst (λ (k : ℕ). patterns.ConditionHolds t.definitions.rules (seen_under t label) (variant_of n v.0).condition place (place + k)) long
        (subst (λ (x : Variant). patterns.ConditionHolds t.definitions.rules (seen_under t label) x.condition place (place + length e.source)) v.4 is.1) in (
          lgr_readings.Maps p.0 v.0,
          p.1,
          (
            v.1,
            v.2,
            (condition-holds r m n t names says.say_rules says.defines.rules label made place (place + length p.0.source) (omega (arith, fits)) (omega (arith, fits, long)) v.0.condition
                (variant-rule p.0 v.0 p.1 there)).0 held,
          ),
          ap (λ (x : Entry). Maps x w) p.2 ∙ ap (λ (x : Variant). Maps (entry p.0) x) v.4 ∙ ap (λ b. mapped_if b p.0 v.0) (sym v.3),
        )

    to-all : (reading : List Step) (place : ℕ) → AllByRecursion Its (map piece_of reading) → place + length (flat_map (λ (p : Piece). p.source) (map piece_of reading)) ≤ length label
        → lgr_readings.MayAllBeMade kept r m label place reading → MayAllBeMade t label place (map mapped reading)
    to-all [] place its fits is = tt
    to-all (s ∷ reading) place its fits is =
        let long = length-append (piece_of s).source (flat_map (λ (p : Piece). p.source) (map piece_of reading)) in
        let rest = to-all reading (place + length (piece_of s).source) its.1 (omega (arith, fits, long)) is.1 in (
          to-made s place its.0 (omega (arith, fits, long)) is.0,
          subst (λ (e : Entry). MayAllBeMade t label (place + length e.source) (map mapped reading)) (sym (entry-mapped s)) rest,
        )

    from-all : (xs : List Mapping) (place : ℕ) → AllByRecursion (Contains t.entries) (map entry_of xs) → place + length (flat_map (λ (e : Entry). e.source) (map entry_of xs)) ≤ length label
        → MayAllBeMade t label place xs → (reading : List Step) × AllByRecursion Its (map piece_of reading) × lgr_readings.MayAllBeMade kept r m label place reading × (xs ≡ map mapped reading)
    from-all [] place of_table fits is = ([], tt, tt, refl)
    from-all (x ∷ xs) place of_table fits is =
        let long = length-append (entry_of x).source (flat_map (λ (e : Entry). e.source) (map entry_of xs)) in
        let s = from-made x place of_table.0 (omega (arith, fits, long)) is.0 in
        let rest = from-all xs (place + length (entry_of x).source) of_table.1 (omega (arith, fits, long)) is.1 in
        let same : length (entry_of x).source ≡ length (piece_of s.0).source = ap (λ (y : Mapping). length (entry_of y).source) s.3 ∙ ap (λ (e : Entry). length e.source) (entry-mapped s.0) in (
          s.0 ∷ rest.0,
          (s.1, rest.1),
          (s.2, subst (λ k. lgr_readings.MayAllBeMade kept r m label (place + k) rest.0) same rest.2),
          ap (λ (y : Mapping). y ∷ xs) s.3 ∙ ap (λ (ys : List Mapping). mapped s.0 ∷ ys) rest.3,
        )

  -- ---- readings

  sources-of : (segmentation : List Entry) (label : List ℕ) → IsSegmentation t segmentation label → IsOfSources t.entries label
  sources-of segmentation label is = made-of properties r m n t names says segmentation label (record { of_table = is.of_table; joined = is.joined })

  pub to-reading : (label v : List ℕ) (reading : List Step) → lgr_readings.IsReading kept r m label v reading → IsReadingOf t label v (map mapped reading)
  to-reading label v reading is =
      let segmentation = to-segmentation properties r m n t names says (map piece_of reading) label is.cut in
      let size : length (flat_map (λ (p : Piece). p.source) (map piece_of reading)) ≡ length label = ap length is.cut.joined.joined in
      record {
        segmentation = subst (λ (es : List Entry). IsSegmentation t es label) (sym (entries-mapped reading)) segmentation;
        made = to-all label (sources-of (map entry (map piece_of reading)) label segmentation) reading 0 is.cut.joined.of_repertoire (omega (arith, size)) is.made;
        joined = sequences-mapped reading ∙ is.joined;
      }

  -- a step that leaves its source as it is
  pub to-own : (reading : List Step) → AllByRecursion IsOwn reading → AllByRecursion IsStaying (map mapped reading)
  to-own [] own = tt
  to-own (lgr_readings.Stays p ∷ reading) own = (tt, to-own reading own.1)
  to-own (lgr_readings.Maps p v ∷ reading) own = (by (is_reflexive p.source v) ((bytes_eq-Decides v.points p.source).1 own.0), to-own reading own.1)
    where
      by : (b : Bool) → b ≡ true → IsStaying (mapped_if b p v)
      by true is = tt
      by false is = absurd (cc)

  pub from-own : (reading : List Step) → AllByRecursion IsStaying (map mapped reading) → AllByRecursion IsOwn reading
  from-own [] own = tt
  from-own (lgr_readings.Stays p ∷ reading) own = (refl, from-own reading own.1)
  from-own (lgr_readings.Maps p v ∷ reading) own = (by (is_reflexive p.source v) refl own.0, from-own reading own.1)
    where
      by : (b : Bool) → is_reflexive p.source v ≡ b → IsStaying (mapped_if b p v) → v.points ≡ p.source
      by true is stays = is-reflexive p.source v is
      by false is stays = absurd stays

  pub from-reading : (label v : List ℕ) (xs : List Mapping) → IsReadingOf t label v xs → (v ≡ label → AllByRecursion IsStaying xs)
      → (reading : List Step) × lgr_readings.IsReading kept r m label v reading × (xs ≡ map mapped reading)
  from-reading label v xs is stays =
      let size : length (flat_map (λ (e : Entry). e.source) (map entry_of xs)) ≡ length label = ap length is.segmentation.joined in
      let back = from-all label (sources-of (map entry_of xs) label is.segmentation) xs 0 is.segmentation.of_table (omega (arith, size)) is.made in
      let same : map entry_of xs ≡ map entry (map piece_of back.0) = ap (map entry_of) back.3 ∙ entries-mapped back.0 in (
        back.0,
        record {
          cut = cut-of properties r m n t names says (map piece_of back.0) label back.1 (subst (λ (es : List Entry). IsSegmentation t es label) same is.segmentation);
          made = back.2;
          joined = sym (sequences-mapped back.0) ∙ ap (flat_map sequence_of) (sym back.3) ∙ is.joined;
          own = λ e. from-own back.0 (subst (AllByRecursion IsStaying) back.3 (stays e));
        },
        back.3,
      )

  -- as a listing reads labels
  pub to-for : (label v : List ℕ) (reading : List Step) → lgr_readings.IsReading kept r m label v reading → IsReadingFor t label v (map mapped reading)
  to-for label v reading is = record { reads = to-reading label v reading is; stays = λ e. to-own reading (is.own e) }

  pub from-for : (label v : List ℕ) (xs : List Mapping) → IsReadingFor t label v xs → (reading : List Step) × lgr_readings.IsReading kept r m label v reading × (xs ≡ map mapped reading)
  from-for label v xs is = from-reading label v xs is.reads is.stays
