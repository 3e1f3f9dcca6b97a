-- A label is clear under a table exactly if it is under the ruleset.
use Rattle.std.proofs.Common.{◌≡◌, ◌↔◌, inl, inr, ℕ, ◌&&◌, ◌||◌, not, Bool, true, false, Option, Some, None, List, [], ◌∷◌, length, map, refl, sym, ap, subst, ◌∙◌, arith, length-append}
use Rattle.std.specs.Prelude.{IsSome, IsTrue, is_some}
use Rattle.std.specs.List.{AllByRecursion, Contains, find, flat_map, list_any}
use Rattle.std.specs.Option.{option_and_then}
use Rattle.std.proofs.lemmas.Bool.{and_parts}
use Rattle.idn_class.specs.declared.properties.Properties.{Properties}
use Rattle.lgr_text.specs.Meanings.{Meanings}
use Rattle.lgr_text.specs.Names.{HasItsNames}
use Rattle.lgr_text.specs.Readings as lgr
use Rattle.lgr_text.specs.Readings.{Recorded, Step, Mapped, Unmapped, piece_of, recorded}
use Rattle.lgr_text.specs.Records as records
use Rattle.lgr_text.specs.Records.{Ruleset}
use Rattle.lgr_text.specs.Repertoire.{Piece, has_types, is_reflexive, kept_sources, may_be, piece_with}
use Rattle.lgr_table.specs.Entries.{has_type, keeps, lacks_type, needs_type, reflexive_type, stays_untyped, variant_of}
use Rattle.lgr_table.specs.Numbers.{Numbering, type_number}
use Rattle.lgr_table.specs.Tables.{Says}
use Rattle.variant_dispositions.specs.Kinds.{Kind, kind_of_variant}
use Rattle.variant_dispositions.specs.Kinds.{Kind as kind}
use Rattle.variant_list.specs.Readings.{Mapping, kinds_of}
use Rattle.variant_table.proofs.MemberLemmas.{Contains-cases, Contains-head, Contains-later, Contains-none, find_some}
use Rattle.variant_table.proofs.MemberLists.{Contains-map, any-one}
use Rattle.variant_table.specs.Entries as tables
use Rattle.variant_table.specs.Entries.{Entry, TableValue, Variant, source_of, whole}
use Rattle.idn2_answers.specs.Dispositions.{IsClear}
use Rattle.idn2_answers.proofs.RulesetCuts.{IsPiece, at, filled, its-entry, its-piece, may}
use Rattle.idn2_answers.proofs.RulesetKinds.{IsStep, are-numbered, clash, kept-so, name-numbered, reflexive-is, steps-of, typed-kinds, unnamed-there, unnumbered, untrue, untyped-all}
use Rattle.idn2_answers.proofs.RulesetPieces.{piece-entry}
use Rattle.idn2_answers.proofs.RulesetReadings.{from-for, mapped, to-for, variant-back, variant-there}
use Rattle.idn2_answers.proofs.RulesetTypes.{AreNumbered, kind_with, one-number}

number-of : (o : Option ℕ) → IsSome o → (k : ℕ) × (o ≡ Some k)
number-of None some = absurd (let no : false ≡ true = some in cc)
number-of (Some k) some = (k, refl)

module _ (properties : Properties) (r : Ruleset) (m : Meanings) (n : Numbering) (t : TableValue) (names : HasItsNames r) (says : Says properties r m n t) where
  abbrev Its : Piece → Type 0
  Its = IsPiece properties r m n t names says

  abbrev entry : Piece → Entry
  entry = at properties r m n t names says

  abbrev kept : ℕ → Bool
  kept = may properties r m n t names says

  abbrev put : Step → Mapping
  put = mapped properties r m n t names says

  abbrev Goes : Step → Type 0
  Goes = IsStep properties r m n t names says

  -- ---- what is recorded has one kind

  kind-same : (recs others : List Recorded) → AreNumbered n recs → AreNumbered n others → (a b : Recorded) → Contains recs a → Contains others b → kind_with n a ≡ kind_with n b → a ≡ b
  kind-same recs others all each Unmapped Unmapped in_a in_b same = refl
  kind-same recs others all each Unmapped (Mapped y) in_a in_b same = by (type_number n y) same
    where
      by : (o : Option ℕ) → kind.Unmapped ≡ kind_of_variant o → Unmapped ≡ Mapped y
      by None e = absurd (cc)
      by (Some k) e = absurd (cc)
  kind-same recs others all each (Mapped x) Unmapped in_a in_b same = by (type_number n x) same
    where
      by : (o : Option ℕ) → kind_of_variant o ≡ kind.Unmapped → Mapped x ≡ Unmapped
      by None e = absurd (cc)
      by (Some k) e = absurd (cc)
  kind-same recs others all each (Mapped x) (Mapped y) in_a in_b same = by (type_number n x) (type_number n y) refl refl same
    where
      none-x : (z : Option (List ℕ)) → Contains recs (Mapped z) → type_number n z ≡ None → z ≡ None
      none-x None in_z none = refl
      none-x (Some name) in_z none = let some = number-of (type_number n (Some name)) (all name in_z) in absurd (let no : None ≡ Some some.0 = sym none ∙ some.1 in cc)

      none-y : (z : Option (List ℕ)) → Contains others (Mapped z) → type_number n z ≡ None → z ≡ None
      none-y None in_z none = refl
      none-y (Some name) in_z none = let some = number-of (type_number n (Some name)) (each name in_z) in absurd (let no : None ≡ Some some.0 = sym none ∙ some.1 in cc)

      by : (o p : Option ℕ) → type_number n x ≡ o → type_number n y ≡ p → kind_of_variant o ≡ kind_of_variant p → Mapped x ≡ Mapped y
      by None None e f same = ap (λ (z : Option (List ℕ)). Mapped z) (none-x x in_a e ∙ sym (none-y y in_b f))
      by None (Some k) e f same = absurd (cc)
      by (Some k) None e f same = absurd (cc)
      by (Some k) (Some l) e f same =
          let one : k ≡ l = cc in
          ap (λ (z : Option (List ℕ)). Mapped z) (one-number n x y k e (f ∙ ap (λ (j : ℕ). Some j) (sym one)))

  -- ---- whether the table has types

  variant-untyped : has_types r.entries ≡ false → (p : Piece) (v : records.Variant) → Its p → Contains p.entry.variants v → type_number n v.type_name ≡ None
  variant-untyped none p v its there = ap (type_number n) (untyped-all properties r m n t names says none p v its there) ∙ unnumbered properties r m n t names says none

  source-untyped : has_types r.entries ≡ false → (p : Piece) → Its p → reflexive_type n p.source p.entry.variants ≡ None
  source-untyped none p its = by (find (is_reflexive p.source) p.entry.variants) refl
    where
      by : (o : Option records.Variant) → find (is_reflexive p.source) p.entry.variants ≡ o → reflexive_type n p.source p.entry.variants ≡ None
      by None is = ap (option_and_then (λ (x : records.Variant). type_number n x.type_name)) is
      by (Some w) is =
          ap (option_and_then (λ (x : records.Variant). type_number n x.type_name)) is
          ∙ variant-untyped none p w its (find_some (is_reflexive p.source) p.entry.variants w is).0

  none-some : (o : Option ℕ) → o ≡ None → is_some o ≡ true → ⊥
  none-some None none some = absurd (let no : false ≡ true = some in cc)
  none-some (Some k) none some = absurd (cc)

  table-untyped : has_types r.entries ≡ false → tables.has_types t.entries ≡ false
  table-untyped none = untrue (tables.has_types t.entries) (λ typed.
      let e = (any-one (λ (e : Entry). list_any (λ (v : Variant). is_some v.type) (whole e)) t.entries).0 typed in
      let v = (any-one (λ (v : Variant). is_some v.type) (whole e.0)).0 e.2 in
      let p = its-piece properties r m n t names says e.0 e.1 in
      let there = subst (λ (x : Entry). Contains (whole x) v.0) p.2 v.1 in
      elim (Contains-cases (source_of (entry p.0)) (entry p.0).variants v.0 there) [
        | inl is ↦ none-some (reflexive_type n p.0.source p.0.entry.variants) (source-untyped none p.0 p.1) (subst (λ (x : Variant). is_some x.type ≡ true) (sym is) v.2)
        | inr later ↦ (
            let w = variant-back properties r m n t names says p.0 v.0 later in
            none-some (type_number n w.0.type_name) (variant-untyped none p.0 w.0 p.1 w.1) (subst (λ (x : Variant). is_some x.type ≡ true) w.4 v.2))
      ])

  -- a variant that is kept and has a number gives it one
  table-typed : (p : Piece) (v : records.Variant) → Its p → Contains p.entry.variants v → IsTrue (may_be kept v.points) → IsSome (type_number n v.type_name) → tables.has_types t.entries ≡ true
  table-typed p v its there allowed some =
      (any-one (λ (e : Entry). list_any (λ (v : Variant). is_some v.type) (whole e)) t.entries).1 (entry p, its-entry properties r m n t names says p its, by (is_reflexive p.source v) refl)
    where
      by : (b : Bool) → is_reflexive p.source v ≡ b → list_any (λ (v : Variant). is_some v.type) (whole (entry p)) ≡ true
      by true is =
          (any-one (λ (v : Variant). is_some v.type) (whole (entry p))).1 (
            source_of (entry p),
            Contains-head (source_of (entry p)) (entry p).variants,
            ap (λ (o : Option ℕ). is_some o) (reflexive-is properties r m n t names says p v its there is) ∙ some,
          )
      by false other =
          (any-one (λ (v : Variant). is_some v.type) (whole (entry p))).1
          (variant_of n v, Contains-later (source_of (entry p)) (entry p).variants (variant_of n v) (variant-there properties r m n t names says p v there allowed other), some)

  -- where some variant has a type and the table has none, it keeps no variant
  keeps-none : has_types r.entries ≡ true → tables.has_types t.entries ≡ false → (p : Piece) (v : records.Variant) → Its p → Contains p.entry.variants v → IsTrue (may_be kept v.points) → ⊥
  keeps-none typed without p v its there allowed = by v.type_name refl
    where
      typed-is : (q : Piece) (w : records.Variant) → Its q → Contains q.entry.variants w → IsTrue (may_be kept w.points) → is_some w.type_name ≡ true → ⊥
      typed-is q w its there allowed is = by_name w.type_name refl
        where
          by_name : (o : Option (List ℕ)) → w.type_name ≡ o → ⊥
          by_name None e = clash (is_some w.type_name) is (ap (λ (x : Option (List ℕ)). is_some x) e)
          by_name (Some name) e =
              clash (tables.has_types t.entries)
              (table-typed q w its there allowed (subst (λ (x : Option (List ℕ)). IsSome (type_number n x)) (sym e) (name-numbered properties r m n t names says q w name its there e))) without

      has-typed : keeps kept has_type r.entries ≡ false
      has-typed = untrue (keeps kept has_type r.entries) (λ h.
          let e = (any-one (λ (e : records.Entry). list_any (λ (v : records.Variant). list_any (λ s. may_be kept v.points && has_type s v) (kept_sources kept e)) e.variants) r.entries).0 h in
          let w = (any-one (λ (v : records.Variant). list_any (λ s. may_be kept v.points && has_type s v) (kept_sources kept e.0)) e.0.variants).0 e.2 in
          let s = (any-one (λ s. may_be kept w.0.points && has_type s w.0) (kept_sources kept e.0)).0 w.2 in
          let both = and_parts (may_be kept w.0.points) (has_type s.0 w.0) s.2 in
          typed-is (piece_with e.0 s.0) w.0 (piece-entry kept r e.0 s.0 e.1 s.1) w.1 both.0 both.1)

      by : (o : Option (List ℕ)) → v.type_name ≡ o → ⊥
      by (Some name) e = typed-is p v its there allowed (ap (λ (x : Option (List ℕ)). is_some x) e)
      by None e =
          let lacks : keeps kept lacks_type r.entries ≡ true =
          kept-so properties r m n t names says lacks_type p v its there allowed (ap (λ (x : Option (List ℕ)). not (is_some x)) e) in
          let stays : Bool = keeps kept stays_untyped r.entries in
          let needs : needs_type kept r.entries ≡ true =
          ap (λ b. b && (stays || (keeps kept lacks_type r.entries && not (keeps kept has_type r.entries)))) typed
          ∙ ap (λ b. stays || (b && not (keeps kept has_type r.entries))) lacks ∙ ap (λ b. stays || not b) has-typed ∙ or-true stays in
          clash (tables.has_types t.entries)
          (table-typed p v its there allowed (subst (λ (x : Option (List ℕ)). IsSome (type_number n x)) (sym e) (unnamed-there n.types (says.defines.numbers.untyped.1 needs)))) without
        where
          or-true : (b : Bool) → (b || true) ≡ true
          or-true true = refl
          or-true false = refl

  -- ---- readings without variants

  module _ (typed : has_types r.entries ≡ true) (without : tables.has_types t.entries ≡ false) where
    stays-alone : (s : Step) → Goes s → recorded s ≡ Unmapped
    stays-alone (lgr.Stays p) is = refl
    stays-alone (lgr.Maps p v) is = absurd (keeps-none typed without p v is.0 is.1 is.2)

    all-unmapped : (reading : List Step) → AllByRecursion Goes reading → (rec : Recorded) → Contains (map recorded reading) rec → Unmapped ≡ rec
    all-unmapped [] all rec there = absurd (Contains-none rec there)
    all-unmapped (s ∷ reading) all rec there =
        elim (Contains-cases (recorded s) (map recorded reading) rec there) [ inl e ↦ sym (stays-alone s all.0) ∙ e | inr later ↦ all-unmapped reading all.1 rec later ]

    some-unmapped : (label v : List ℕ) (one other : List Step) (rec : Recorded) → lgr.IsReading kept r m label v one → lgr.IsReading kept r m label v other
        → Contains (map recorded one) rec → Contains (map recorded other) Unmapped
    some-unmapped label v one (s ∷ other) rec is also there =
        subst (λ (x : Recorded). Contains (recorded s ∷ map recorded other) x) (stays-alone s (steps-of properties r m n t names says label v (s ∷ other) also).0)
        (Contains-head (recorded s) (map recorded other))
    some-unmapped label v [] [] rec is also there = absurd (Contains-none rec there)
    some-unmapped label v (s ∷ one) [] rec is also there =
        let empty : [] ≡ label = also.cut.joined.joined in
        let its = is.cut.joined.of_repertoire.0 in
        let long = length-append (piece_of s).source (flat_map (λ (p : Piece). p.source) (map piece_of one)) in
        let none = ap length (is.cut.joined.joined ∙ sym empty) in
        absurd (omega (arith, filled properties r m n t names says (piece_of s) its, long, none))

  -- ---- clear

  pub clear-alike : (label v : List ℕ) → IsClear t label v ↔ lgr.IsClear kept r m label v
  clear-alike label v = (by_types (has_types r.entries) refl, back)
    where
      by_types : (b : Bool) → has_types r.entries ≡ b → IsClear t label v → lgr.IsClear kept r m label v
      by_types false none clear = inl none
      by_types true typed (inl without) = inr (λ one other is also rec c.
          subst (Contains (map recorded other)) (all-unmapped typed without one (steps-of properties r m n t names says label v one is) rec c)
          (some-unmapped typed without label v one other rec is also c))
      by_types true typed (inr same) = inr (λ one other is also rec c.
          let steps = steps-of properties r m n t names says label v one is in
          let others = steps-of properties r m n t names says label v other also in
          let kinds = typed-kinds properties r m n t names says typed one steps in
          let other_kinds = typed-kinds properties r m n t names says typed other others in
          let here = subst (λ (ks : List Kind). Contains ks (kind_with n rec)) (sym kinds) ((Contains-map (kind_with n) (map recorded one) (kind_with n rec)).1 (rec, c, refl)) in
          let there = same (map put one) (map put other) (to-for properties r m n t names says label v one is) (to-for properties r m n t names says label v other also) (kind_with n rec) here in
          let found = (Contains-map (kind_with n) (map recorded other) (kind_with n rec)).0 (subst (λ (ks : List Kind). Contains ks (kind_with n rec)) other_kinds there) in
          let one_kind = kind-same (map recorded one) (map recorded other) (are-numbered properties r m n t names says one steps) (are-numbered properties r m n t names says other others)
          rec found.0 c found.1 found.2 in
          subst (Contains (map recorded other)) (sym one_kind) found.1)

      typed-back : has_types r.entries ≡ true → ((one other : List Step) → lgr.IsReading kept r m label v one → lgr.IsReading kept r m label v other
          → (rec : Recorded) → Contains (map recorded one) rec → Contains (map recorded other) rec) → IsClear t label v
      typed-back typed same = inr (λ one other is also kind c.
          let a = from-for properties r m n t names says label v one is in
          let b = from-for properties r m n t names says label v other also in
          let kinds = ap kinds_of a.2 ∙ typed-kinds properties r m n t names says typed a.0 (steps-of properties r m n t names says label v a.0 a.1) in
          let other_kinds = ap kinds_of b.2 ∙ typed-kinds properties r m n t names says typed b.0 (steps-of properties r m n t names says label v b.0 b.1) in
          let found = (Contains-map (kind_with n) (map recorded a.0) kind).0 (subst (λ (ks : List Kind). Contains ks kind) kinds c) in
          subst (λ (ks : List Kind). Contains ks kind) (sym other_kinds)
          ((Contains-map (kind_with n) (map recorded b.0) kind).1 (found.0, same a.0 b.0 a.1 b.1 found.0 found.1, found.2)))

      back : lgr.IsClear kept r m label v → IsClear t label v
      back (inl none) = inl (table-untyped none)
      back (inr same) = by (has_types r.entries) refl
        where
          by : (b : Bool) → has_types r.entries ≡ b → IsClear t label v
          by false none = inl (table-untyped none)
          by true typed = typed-back typed same
