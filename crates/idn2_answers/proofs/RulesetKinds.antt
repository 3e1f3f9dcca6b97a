-- What the readings of a label record is the same under a table and under its ruleset; and so is what is clear.
use Rattle.std.proofs.Common.{◌≡◌, ◌≢◌, inl, inr, ℕ, ◌+◌, ◌≤◌, ◌&&◌, ◌||◌, not, Bool, true, false, Option, Some, None, List, [], ◌∷◌, length, map, suc, refl, sym, ap, subst, ◌∙◌, arith}
use Rattle.std.specs.Prelude.{slice_index_or, IsSome, IsTrue, is_some}
use Rattle.std.specs.List.{All, AllByRecursion, Contains, filter, find, flat_map, list_any}
use Rattle.std.specs.Option.{option_and_then}
use Rattle.std.proofs.lemmas.List.Elements.{All-contains, Contains-get_or, Contains-append_cases, Contains-append_left, Contains-append_right}
use Rattle.std.proofs.lemmas.Slice.Eq.{bytes_eq-Decides}
use Rattle.idn_class.specs.declared.properties.Properties.{Properties}
use Rattle.lgr_text.specs.Labels as labels
use Rattle.lgr_text.specs.Meanings.{Meanings}
use Rattle.lgr_text.specs.Names.{HasItsNames}
use Rattle.lgr_text.specs.Readings as lgr
use Rattle.lgr_text.specs.Readings.{Step, Mapped, piece_of, recorded}
use Rattle.lgr_text.specs.Records as records
use Rattle.lgr_text.specs.Records.{Ruleset}
use Rattle.lgr_text.specs.Repertoire.{Piece, has_types, is_reflexive, kept_sources, may_be}
use Rattle.lgr_table.specs.Entries.{has_type, keeps, lacks_type, needs_type, reflexive_type, stays_untyped}
use Rattle.lgr_table.specs.Numbers.{Numbering, if_some, is_same, number_among, trigger_types, type_number, types_with, variant_type}
use Rattle.lgr_table.specs.Tables.{Says}
use Rattle.lgr_table.proofs.TypeLemmas.{is_some-position}
use Rattle.ruleset_text.specs.Names.{predefined_types}
use Rattle.variant_dispositions.specs.Kinds.{Kind, kind_of_source, kind_of_variant}
use Rattle.variant_dispositions.specs.Kinds.{Kind as kind}
use Rattle.variant_list.specs.Readings.{Mapping, kind_of, kinds_of}
use Rattle.variant_table.proofs.MemberLemmas.{Contains-cases, Contains-head, Contains-none, Contains-one, find_none, find_some}
use Rattle.variant_table.proofs.MemberLists.{Contains-filter, Contains-flat_map, Contains-map, any-one}
use Rattle.variant_table.specs.Entries.{Entry, TableValue}
use Rattle.idn2_answers.proofs.RulesetCuts.{IsPiece, at, may}
use Rattle.idn2_answers.proofs.RulesetPieces.{entry-piece}
use Rattle.idn2_answers.proofs.RulesetReadings.{bare, mapped, mapped_if, one-type}
use Rattle.idn2_answers.proofs.RulesetTypes.{AreNumbered, SameKinds, kind_with}

-- ---- tests

pub clash : {P : Type 0} (b : Bool) → b ≡ true → b ≡ false → P
clash b t f = absurd (let both : true ≡ false = sym t ∙ f in cc)

pub untrue : (b : Bool) → (b ≡ true → ⊥) → b ≡ false
untrue true never = absurd (never refl)
untrue false never = refl

one-member : {X : Type 0} (xs : List X) (a b : X) → length xs ≤ 1 → Contains xs a → Contains xs b → a ≡ b
one-member [] a b few in_a in_b = absurd (Contains-none a in_a)
one-member (x ∷ []) a b few in_a in_b = sym (Contains-one x a in_a) ∙ Contains-one x b in_b
one-member (x ∷ y ∷ xs) a b few in_a in_b = absurd (omega (arith, few))

-- ---- numbers of types

numbered-by : (types : List (Option (List ℕ))) (type : Option (List ℕ)) → is_some (number_among types type) ≡ list_any (is_same type) (types_with types)
numbered-by types type = is_some-position (is_same type) (types_with types)

pub unnamed-there : (types : List (Option (List ℕ))) → Contains types None → IsSome (number_among types None)
unnamed-there types there =
    numbered-by types None ∙ (any-one (is_same None) (types_with types)).1 (None, Contains-append_right (map (λ (x : List ℕ). Some x) predefined_types) types None there, refl)

-- a type that is the same as having none is none
none-same : (type : Option (List ℕ)) → is_same None type ≡ true → type ≡ None
none-same None is = refl
none-same (Some name) is = absurd (let no : false ≡ true = is in cc)

no-number : (o : Option ℕ) → (IsSome o → ⊥) → o ≡ None
no-number None none = refl
no-number (Some k) none = absurd (none refl)

predefined-named : (types : List (List ℕ)) (x : Option (List ℕ)) → Contains (map (λ (x : List ℕ). Some x) types) x → x ≢ None
predefined-named types x there is = let name = (Contains-map (λ (x : List ℕ). Some x) types x).0 there in absurd (let no : None ≡ Some name.0 = sym is ∙ name.2 in cc)

unnamed-absent : (types : List (Option (List ℕ))) → ¬ Contains types None → number_among types None ≡ None
unnamed-absent types absent = no-number (number_among types None) (λ some.
    let one = (any-one (is_same None) (types_with types)).0 (sym (numbered-by types None) ∙ some) in
    let none = none-same one.0 one.2 in
    elim (Contains-append_cases (map (λ (x : List ℕ). Some x) predefined_types) types one.0 one.1) [
      | inl front ↦ predefined-named predefined_types one.0 front none
      | inr own ↦ absent (subst (Contains types) none own)
    ])

module _ (properties : Properties) (r : Ruleset) (m : Meanings) (n : Numbering) (t : TableValue) (names : HasItsNames r) (says : Says properties r m n t) where
  abbrev Its : Piece → Type 0
  Its = IsPiece properties r m n t names says

  abbrev entry : Piece → Entry
  entry = at properties r m n t names says

  abbrev kept : ℕ → Bool
  kept = may properties r m n t names says

  abbrev put : Step → Mapping
  put = mapped properties r m n t names says

  -- what is so of each step of a reading
  abbrev pub IsStep : Step → Type 0
  IsStep (lgr.Stays p) = Its p × All (λ v. v.points ≢ p.source) p.entry.variants
  IsStep (lgr.Maps p v) = Its p × Contains p.entry.variants v × IsTrue (may_be kept v.points)

  steps-from : (label : List ℕ) (place : ℕ) (reading : List Step) → AllByRecursion Its (map piece_of reading) → lgr.MayAllBeMade kept r m label place reading → AllByRecursion IsStep reading
  steps-from label place [] all made = tt
  steps-from label place (lgr.Stays p ∷ reading) all made = ((all.0, without), steps-from label (place + length p.source) reading all.1 made.1)
    where
      -- a reflexive variant has no condition, and so would be made
      without : All (λ v. v.points ≢ p.source) p.entry.variants
      without k d less same =
          let v = slice_index_or p.entry.variants k d in
          let none = bare properties r m n t names says p v all.0 (Contains-get_or p.entry.variants k d less) ((bytes_eq-Decides v.points p.source).1 same) in
          made.0 k d less same (subst (λ (c : Option records.Condition). labels.ConditionHolds r m label c place (place + length p.source)) (sym none) tt)
  steps-from label place (lgr.Maps p v ∷ reading) all made = ((all.0, made.0.0, made.0.1), steps-from label (place + length p.source) reading all.1 made.1)

  pub steps-of : (label v : List ℕ) (reading : List Step) → lgr.IsReading kept r m label v reading → AllByRecursion IsStep reading
  steps-of label v reading is = steps-from label 0 reading is.cut.joined.of_repertoire is.made

  -- ---- types of variants

  of-entries : (p : Piece) → Its p → Contains r.entries p.entry
  of-entries p its = (entry-piece kept r p its).0

  pub name-numbered : (p : Piece) (v : records.Variant) (name : List ℕ) → Its p → Contains p.entry.variants v → v.type_name ≡ Some name → IsSome (type_number n (Some name))
  name-numbered p v name its there is =
      let here : Contains (variant_type v) name = subst (λ (o : Option (List ℕ)). Contains (if_some o) name) (sym is) (Contains-head name []) in
      let in_entry = (Contains-flat_map variant_type p.entry.variants name).1 (v, there, here) in
      says.defines.numbers.types name
      (Contains-append_left (flat_map (λ (e : records.Entry). flat_map variant_type e.variants) r.entries) (flat_map (λ (a : records.Action). trigger_types a.trigger) r.actions) name
      ((Contains-flat_map (λ (e : records.Entry). flat_map variant_type e.variants) r.entries name).1 (p.entry, of-entries p its, in_entry)))

  typed-there : (p : Piece) (v : records.Variant) → Its p → Contains p.entry.variants v → is_some v.type_name ≡ true → has_types r.entries ≡ true
  typed-there p v its there is =
      (any-one (λ (e : records.Entry). list_any (λ (v : records.Variant). is_some v.type_name) e.variants) r.entries).1
      (p.entry, of-entries p its, (any-one (λ (v : records.Variant). is_some v.type_name) p.entry.variants).1 (v, there, is))

  pub untyped-all : has_types r.entries ≡ false → (p : Piece) (v : records.Variant) → Its p → Contains p.entry.variants v → v.type_name ≡ None
  untyped-all none p v its there = by v.type_name refl
    where
      by : (o : Option (List ℕ)) → v.type_name ≡ o → v.type_name ≡ None
      by None is = is
      by (Some name) is = clash (has_types r.entries) (typed-there p v its there (ap (λ (x : Option (List ℕ)). is_some x) is)) none

  pub unnumbered : has_types r.entries ≡ false → type_number n None ≡ None
  unnumbered none = unnamed-absent n.types (λ there.
      let needs = says.defines.numbers.untyped.0 there in
      clash (needs_type kept r.entries) needs (ap (λ b. b && (keeps kept stays_untyped r.entries || (keeps kept lacks_type r.entries && not (keeps kept has_type r.entries)))) none))

  -- of a kept source some variant that may be is so
  pub kept-so : (is_so : List ℕ → records.Variant → Bool) (p : Piece) (v : records.Variant) → Its p → Contains p.entry.variants v → IsTrue (may_be kept v.points) → is_so p.source v ≡ true → keeps kept is_so r.entries ≡ true
  kept-so is_so p v its there allowed is =
      (any-one (λ (e : records.Entry). list_any (λ (v : records.Variant). list_any (λ s. may_be kept v.points && is_so s v) (kept_sources kept e)) e.variants) r.entries).1 (
        p.entry,
        of-entries p its,
        (any-one (λ (v : records.Variant). list_any (λ s. may_be kept v.points && is_so s v) (kept_sources kept p.entry)) p.entry.variants).1 (
          v,
          there,
          (any-one (λ s. may_be kept v.points && is_so s v) (kept_sources kept p.entry)).1
              (p.source, (entry-piece kept r p its).1, ap (λ b. b && is_so p.source v) allowed ∙ is),
        ),
      )

  -- where something has a type, what stays by a variant of none has a type of its own
  reflexive-numbered : has_types r.entries ≡ true → (p : Piece) (v : records.Variant) → Its p → Contains p.entry.variants v → IsTrue (may_be kept v.points) → is_reflexive p.source v ≡ true
      → IsSome (type_number n v.type_name)
  reflexive-numbered typed p v its there allowed reflexive = by v.type_name refl
    where
      by : (o : Option (List ℕ)) → v.type_name ≡ o → IsSome (type_number n v.type_name)
      by (Some name) is = subst (λ (x : Option (List ℕ)). IsSome (type_number n x)) (sym is) (name-numbered p v name its there is)
      by None is =
          let lacks : lacks_type p.source v ≡ true = ap (λ (x : Option (List ℕ)). not (is_some x)) is in
          let stays : keeps kept stays_untyped r.entries ≡ true = kept-so stays_untyped p v its there allowed (ap (λ b. b && is_reflexive p.source v) lacks ∙ reflexive) in
          let rest : Bool = keeps kept lacks_type r.entries && not (keeps kept has_type r.entries) in
          let needs : needs_type kept r.entries ≡ true = ap (λ b. b && (keeps kept stays_untyped r.entries || rest)) typed ∙ ap (λ b. b || rest) stays in
          subst (λ (x : Option (List ℕ)). IsSome (type_number n x)) (sym is) (unnamed-there n.types (says.defines.numbers.untyped.1 needs))

  -- ---- what a step records

  -- the reflexive type of a source with a reflexive variant, and of one without
  pub reflexive-is : (p : Piece) (v : records.Variant) → Its p → Contains p.entry.variants v → is_reflexive p.source v ≡ true → reflexive_type n p.source p.entry.variants ≡ type_number n v.type_name
  reflexive-is p v its there reflexive = by (find (is_reflexive p.source) p.entry.variants) refl
    where
      test : records.Variant → Bool
      test = is_reflexive p.source

      among : (w : records.Variant) → Contains p.entry.variants w → test w ≡ true → Contains (filter test p.entry.variants) w
      among w c is = (Contains-filter test p.entry.variants w).1 (c, is)

      by : (o : Option records.Variant) → find test p.entry.variants ≡ o → reflexive_type n p.source p.entry.variants ≡ type_number n v.type_name
      by None none = clash (test v) reflexive (find_none test p.entry.variants v none there)
      by (Some w) some =
          let found = find_some test p.entry.variants w some in
          let same : w ≡ v = one-member (filter test p.entry.variants) w v (one-type properties r m n t names says p its).0 (among w found.0 found.1) (among v there reflexive) in
          ap (option_and_then (λ (x : records.Variant). type_number n x.type_name)) some ∙ ap (λ (x : records.Variant). type_number n x.type_name) same

  reflexive-none : (p : Piece) → All (λ v. v.points ≢ p.source) p.entry.variants → reflexive_type n p.source p.entry.variants ≡ None
  reflexive-none p none = by (find (is_reflexive p.source) p.entry.variants) refl
    where
      by : (o : Option records.Variant) → find (is_reflexive p.source) p.entry.variants ≡ o → reflexive_type n p.source p.entry.variants ≡ None
      by None is = ap (option_and_then (λ (x : records.Variant). type_number n x.type_name)) is
      by (Some w) is =
          let found = find_some (is_reflexive p.source) p.entry.variants w is in
          absurd (All-contains (λ (v : records.Variant). v.points ≢ p.source) p.entry.variants w none found.0 ((bytes_eq-Decides w.points p.source).0 found.1))

  some-kind : (o : Option ℕ) → IsSome o → kind_of_source o ≡ kind_of_variant o
  some-kind None some = absurd (let no : false ≡ true = some in cc)
  some-kind (Some k) some = refl

  typed-kind : has_types r.entries ≡ true → (s : Step) → IsStep s → kind_of (put s) ≡ kind_with n (recorded s)
  typed-kind typed (lgr.Stays p) is = ap kind_of_source (reflexive-none p is.1)
  typed-kind typed (lgr.Maps p v) is = by (is_reflexive p.source v) refl
    where
      by : (b : Bool) → is_reflexive p.source v ≡ b → kind_of (mapped_if properties r m n t names says b p v) ≡ kind_of_variant (type_number n v.type_name)
      by true reflexive = ap kind_of_source (reflexive-is p v is.0 is.1 reflexive) ∙ some-kind (type_number n v.type_name) (reflexive-numbered typed p v is.0 is.1 is.2 reflexive)
      by false other = refl

  pub typed-kinds : has_types r.entries ≡ true → (reading : List Step) → AllByRecursion IsStep reading → kinds_of (map put reading) ≡ map (kind_with n) (map recorded reading)
  typed-kinds typed [] all = refl
  typed-kinds typed (s ∷ reading) all =
      ap (λ (k : Kind). k ∷ kinds_of (map put reading)) (typed-kind typed s all.0) ∙ ap (λ (ks : List Kind). kind_with n (recorded s) ∷ ks) (typed-kinds typed reading all.1)

  -- without types nothing that is recorded has one
  no-type-kind : (o : Option ℕ) → o ≡ None → (number : ℕ) → kind_of_source o ≢ kind.Typed number
  no-type-kind None none number is = absurd (cc)
  no-type-kind (Some k) none number is = absurd (cc)

  no-type-variant : (o : Option ℕ) → o ≡ None → (number : ℕ) → kind_of_variant o ≢ kind.Typed number
  no-type-variant None none number is = absurd (cc)
  no-type-variant (Some k) none number is = absurd (cc)

  untyped-kind : has_types r.entries ≡ false → (s : Step) → IsStep s → (number : ℕ) → kind_of (put s) ≢ kind.Typed number
  untyped-kind none (lgr.Stays p) is number = no-type-kind (reflexive_type n p.source p.entry.variants) (reflexive-none p is.1) number
  untyped-kind none (lgr.Maps p v) is number = by (is_reflexive p.source v) refl
    where
      without : type_number n v.type_name ≡ None
      without = ap (type_number n) (untyped-all none p v is.0 is.1) ∙ unnumbered none

      by : (b : Bool) → is_reflexive p.source v ≡ b → kind_of (mapped_if properties r m n t names says b p v) ≢ kind.Typed number
      by true reflexive = no-type-kind (reflexive_type n p.source p.entry.variants) (reflexive-is p v is.0 is.1 reflexive ∙ without) number
      by false other = no-type-variant (type_number n v.type_name) without number

  untyped-kinds : has_types r.entries ≡ false → (reading : List Step) → AllByRecursion IsStep reading → (number : ℕ) → ¬ Contains (kinds_of (map put reading)) (kind.Typed number)
  untyped-kinds none [] all number there = Contains-none (kind.Typed number) there
  untyped-kinds none (s ∷ reading) all number there =
      elim (Contains-cases (kind_of (put s)) (kinds_of (map put reading)) (kind.Typed number) there) [
        | inl e ↦ untyped-kind none s all.0 number e
        | inr later ↦ untyped-kinds none reading all.1 number later
      ]

  untyped-recorded : has_types r.entries ≡ false → (reading : List Step) → AllByRecursion IsStep reading → (name : List ℕ) → ¬ Contains (map recorded reading) (Mapped (Some name))
  untyped-recorded none [] all name there = Contains-none (Mapped (Some name)) there
  untyped-recorded none (s ∷ reading) all name there =
      elim (Contains-cases (recorded s) (map recorded reading) (Mapped (Some name)) there) [
        | inl e ↦ by s all.0 e
        | inr later ↦ untyped-recorded none reading all.1 name later
      ]
    where
      by : (s : Step) → IsStep s → recorded s ≡ Mapped (Some name) → ⊥
      by (lgr.Stays p) is e = absurd (cc)
      by (lgr.Maps p v) is e = let no : Mapped None ≡ Mapped (Some name) = ap (λ (o : Option (List ℕ)). Mapped o) (sym (untyped-all none p v is.0 is.1)) ∙ e in absurd (cc)

  as-many : (reading : List Step) → length (map recorded reading) ≡ length (kinds_of (map put reading))
  as-many [] = refl
  as-many (s ∷ reading) = ap (λ k. suc k) (as-many reading)

  -- ---- the same

  pub same-kinds : (reading : List Step) → AllByRecursion IsStep reading → SameKinds n (map recorded reading) (kinds_of (map put reading))
  same-kinds reading all = by (has_types r.entries) refl
    where
      by : (b : Bool) → has_types r.entries ≡ b → SameKinds n (map recorded reading) (kinds_of (map put reading))
      by true typed = inl (typed-kinds typed reading all)
      by false none = inr (record { names = untyped-recorded none reading all; types = untyped-kinds none reading all; as_many = as-many reading })

  pub are-numbered : (reading : List Step) → AllByRecursion IsStep reading → AreNumbered n (map recorded reading)
  are-numbered [] all name there = absurd (Contains-none (Mapped (Some name)) there)
  are-numbered (s ∷ reading) all name there =
      elim (Contains-cases (recorded s) (map recorded reading) (Mapped (Some name)) there) [
        | inl e ↦ by s all.0 e
        | inr later ↦ are-numbered reading all.1 name later
      ]
    where
      type-of : (o : Option (List ℕ)) → Mapped o ≡ Mapped (Some name) → o ≡ Some name
      type-of o e = cc

      by : (s : Step) → IsStep s → recorded s ≡ Mapped (Some name) → IsSome (type_number n (Some name))
      by (lgr.Stays p) is e = absurd (cc)
      by (lgr.Maps p v) is e = name-numbered p v name is.0 is.1 (type-of v.type_name e)
