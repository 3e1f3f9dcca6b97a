-- What is told of a label by its readings, as lists that compute.
use Rattle.std.proofs.Common.{◌≡◌, ◌↔◌, inl, inr, ℕ, zero, suc, ◌+◌, ◌-◌, ◌≤◌, Bool, true, false, cond, eqb, List, [], ◌∷◌, length, drop, map, refl, sym, ap, ◌∙◌, subst, arith}
use Rattle.std.specs.Prelude.{Option, Some, None, bytes_eq, slice_index_or}
use Rattle.std.specs.List.{Contains, list_all}
use Rattle.std.proofs.lemmas.Bool.{and_from, and_parts, eqb-true}
use Rattle.std.proofs.lemmas.Bool.Decides.{Decides-eqb}
use Rattle.std.proofs.lemmas.List.Elements.{All-contains}
use Rattle.std.proofs.lemmas.Option.{same_Some}
use Rattle.std.proofs.lemmas.Slice.Eq.{bytes_eq-Decides}
use Rattle.reading_kinds.specs.Readings.{Substitution, AreSubstitutions, IsCut, IsReading, IsSubstitution, SubstitutionsSpell, points_of}
use Rattle.variant_dispositions.specs.declared.action.Action.{Action}
use Rattle.variant_dispositions.specs.declared.variant.VariantDisposition.{VariantDisposition}
use Rattle.variant_dispositions.specs.declared.variant.VariantDisposition.TheVariants.{Clear, Unclear}
use Rattle.variant_dispositions.specs.Actions.{disposition}
use Rattle.variant_dispositions.specs.Kinds.{Kind, bit_of, kind_at, recorded}
use Rattle.variant_dispositions.specs.Laws.{AreTheSame}
use Rattle.variant_dispositions.specs.Readings.{IsTold}
use Rattle.variant_dispositions.proofs.KindLemmas.{kind_at-bit_of}
use Rattle.variant_dispositions.proofs.LawLemmas.{OneIfClear-holds}
use Rattle.variant_dispositions.proofs.MemberLemmas.{all-told, any-told}
use Rattle.variant_table.proofs.MemberLemmas.{Contains-head, Contains-later, Contains-none, Contains-one, Contains-cases}
use Rattle.variant_table.proofs.MemberLists.{Contains-filter, Contains-flat_map, Contains-map}
use Rattle.valid_labels.specs.Readings.{are_same, cuts_from_each, has_kind, readings_of, told_by, told_of}
use Rattle.valid_labels.specs.Laws.{ReadingsAreTold}
use Rattle.valid_labels.proofs.EligibleLemmas.{opposite}

-- ---- cuts

abbrev cuts_of : List (List Substitution) → List (List Substitution)
cuts_of substitutions = slice_index_or (cuts_from_each substitutions) 0 []

-- from a later place on
cuts-from : (substitutions : List (List Substitution)) (k : ℕ) → k ≤ length substitutions → slice_index_or (cuts_from_each substitutions) k [] ≡ cuts_of (drop k substitutions)
cuts-from [] zero l = refl
cuts-from [] (suc k) l = absurd (omega (arith, l))
cuts-from (here ∷ later) zero l = refl
cuts-from (here ∷ later) (suc k) l = cuts-from later k (omega (arith, l))

are-dropped : (substitutions : List (List Substitution)) (k : ℕ) → AreSubstitutions substitutions → AreSubstitutions (drop k substitutions)
are-dropped [] zero are = tt
are-dropped [] (suc k) are = tt
are-dropped (here ∷ later) zero are = are
are-dropped (here ∷ later) (suc k) are = are-dropped later k are.2

after_one : (here : List Substitution) (later : List (List Substitution)) (k : ℕ) → 1 ≤ k → drop k (here ∷ later) ≡ drop (k - 1) later
after_one here later zero l = absurd (omega (arith, l))
after_one here later (suc k) l = let less : k ≡ suc k - 1 = omega arith in ap (λ n. drop n later) less

same-head : {X : Type 0} (x y : X) (xs ys : List X) → x ∷ xs ≡ y ∷ ys → (x ≡ y) × (xs ≡ ys)
same-head x y xs ys e = (cc, cc)

cuts-are : (cut : List Substitution) (substitutions : List (List Substitution)) → AreSubstitutions substitutions → Contains (cuts_of substitutions) cut ↔ IsCut substitutions cut
cuts-are [] [] are = (λ c. tt, λ h. Contains-head [] [])
cuts-are (u ∷ cut) [] are = (λ c. absurd (let e : [] ≡ u ∷ cut = Contains-one [] (u ∷ cut) c in cc), λ h. absurd h)
cuts-are [] (here ∷ later) are = (
  λ c.
      let g = (Contains-flat_map (λ (u : Substitution). map (λ xs. u ∷ xs) (slice_index_or (cuts_from_each later) (u.covers - 1) [])) here []).0 c in
      let h = (Contains-map (λ xs. g.0 ∷ xs) (slice_index_or (cuts_from_each later) (g.0.covers - 1) []) []).0 g.2 in
      absurd (let e : [] ≡ g.0 ∷ h.0 = h.2 in cc),
  λ h. absurd h,
)
cuts-are (u ∷ cut) (here ∷ later) are =
    let after : Substitution → List (List Substitution) = λ (x : Substitution). slice_index_or (cuts_from_each later) (x.covers - 1) [] in
    let flat = Contains-flat_map (λ (x : Substitution). map (λ xs. x ∷ xs) (after x)) here (u ∷ cut) in
    let each : Contains here u → IsSubstitution (length later + 1) u = λ m. All-contains (IsSubstitution (length later + 1)) here u are.0 m in
    let at : Contains here u → after u ≡ cuts_of (drop u.covers (here ∷ later)) = λ m.
    (let some = (each m).some in
    let within = (each m).within in
    cuts-from later (u.covers - 1) (omega (arith, some, within)) ∙ ap cuts_of (sym (after_one here later u.covers some))) in
    let rest = cuts-are cut (drop u.covers (here ∷ later)) (are-dropped (here ∷ later) u.covers are) in (
      λ c.
          let g = flat.0 c in
          let h = (Contains-map (λ xs. g.0 ∷ xs) (after g.0) (u ∷ cut)).0 g.2 in
          let same = same-head u g.0 cut h.0 h.2 in
          let member : Contains here u = subst (Contains here) (sym same.0) g.1 in
          let left : Contains (after u) cut = subst (λ (x : Substitution). Contains (after x) cut) (sym same.0) (subst (Contains (after g.0)) (sym same.1) h.1) in
          (member, (each member).within, rest.0 (subst (λ xs. Contains xs cut) (at member) left)),
      λ h. flat.1 (u, h.0, (Contains-map (λ xs. u ∷ xs) (after u) (u ∷ cut)).1 (cut, subst (λ xs. Contains xs cut) (sym (at h.0)) (rest.1 h.2), refl)),
    )

pub readings-are : (substitutions : List (List Substitution)) (v : List ℕ) (cut : List Substitution) → AreSubstitutions substitutions → Contains (readings_of substitutions v) cut ↔ IsReading substitutions v cut
readings-are substitutions v cut are =
    let kept = Contains-filter (λ (x : List Substitution). bytes_eq (points_of x) v) (cuts_of substitutions) cut in
    let cuts = cuts-are cut substitutions are in
    let same = bytes_eq-Decides (points_of cut) v in (
      λ c. (let g = kept.0 c in record { is_cut = cuts.0 g.0; joined = same.0 g.1 }),
      λ is. kept.1 (cuts.1 is.is_cut, same.1 is.joined),
    )

-- ---- kinds

bits-same : (kind other : Kind) → bit_of kind ≡ bit_of other → kind ≡ other
bits-same kind other e = sym (kind_at-bit_of kind) ∙ ap kind_at e ∙ kind_at-bit_of other

pub has-told : (kinds : List Kind) (kind : Kind) → (has_kind kinds kind ≡ true) ↔ Contains kinds kind
has-told kinds kind =
    let any = any-told (λ (other : Kind). eqb (bit_of other) (bit_of kind)) kinds in (
      λ h. (let g = any.0 h in subst (Contains kinds) (bits-same g.0 kind (eqb-true (bit_of g.0) (bit_of kind) g.2)) g.1),
      λ c. any.1 (kind, c, (Decides-eqb (bit_of kind) (bit_of kind)).1 refl),
    )

pub same-told : (kinds others : List Kind) → (are_same kinds others ≡ true) ↔ AreTheSame kinds others
same-told kinds others =
    let first = all-told (has_kind others) kinds in
    let second = all-told (has_kind kinds) others in (
      λ h kind.
          let parts = and_parts (list_all (has_kind others) kinds) (list_all (has_kind kinds) others) h in (
            λ c. (has-told others kind).0 (first.0 parts.0 kind c),
            λ c. (has-told kinds kind).0 (second.0 parts.1 kind c),
          ),
      λ same. and_from (list_all (has_kind others) kinds) (list_all (has_kind kinds) others)
          (first.1 (λ kind c. (has-told others kind).1 ((same kind).0 c)))
          (second.1 (λ kind c. (has-told kinds kind).1 ((same kind).1 c))),
    )

-- ---- what is told

module _ (matched : ℕ → Bool) (actions : List Action) (substitutions : List (List Substitution)) (v : List ℕ) (are : AreSubstitutions substitutions) where
  abbrev All : List (List Kind)
  All = map recorded (readings_of substitutions v)

  -- the kinds that some reading records
  recorded-by : (kinds : List Kind) → Contains All kinds ↔ ((cut : List Substitution) × IsReading substitutions v cut × (kinds ≡ recorded cut))
  recorded-by kinds =
      let mapped = Contains-map recorded (readings_of substitutions v) kinds in (
        λ c. (let g = mapped.0 c in (g.0, (readings-are substitutions v g.0 are).0 g.1, g.2)),
        λ h. mapped.1 (h.0, (readings-are substitutions v h.0 are).1 h.1, h.2),
      )

  -- what is told of some of them is so; nothing, where there is no reading
  abbrev pub IsSo : Option VariantDisposition → Type 0
  IsSo None = ¬ SubstitutionsSpell substitutions v
  IsSo (Some d) = SubstitutionsSpell substitutions v × IsTold matched actions substitutions v d

  told-so : (all : List (List Kind)) → ((kinds : List Kind) → Contains all kinds ↔ ((cut : List Substitution) × IsReading substitutions v cut × (kinds ≡ recorded cut))) → IsSo (told_of matched actions all)
  told-so [] each = λ s. Contains-none (recorded s.0) ((each (recorded s.0)).1 (s.0, record { is_cut = s.1; joined = s.2 }, refl))
  told-so (first ∷ others) each = by_test (list_all (are_same first) others) refl
    where
      one : (cut : List Substitution) × IsReading substitutions v cut × (first ≡ recorded cut)
      one = (each first).0 (Contains-head first others)

      spelled : SubstitutionsSpell substitutions v
      spelled = (one.0, one.1.is_cut, one.1.joined)

      like-first : list_all (are_same first) others ≡ true → (cut : List Substitution) → IsReading substitutions v cut → AreTheSame first (recorded cut)
      like-first same cut is = elim (Contains-cases first others (recorded cut) ((each (recorded cut)).1 (cut, is, refl))) [
        | inl e ↦ subst (AreTheSame first) e (λ kind. (λ c. c, λ c. c))
        | inr later ↦ (same-told first (recorded cut)).0 ((all-told (are_same first) others).0 same (recorded cut) later)
      ]

      by_test : (b : Bool) → list_all (are_same first) others ≡ b → IsSo (Some (cond b (Clear (disposition matched actions first)) Unclear))
      by_test true same = (
        spelled,
        (
          λ r s is also kind c. (like-first same s also kind).0 ((like-first same r is kind).1 c),
          (one.0, one.1, ap (disposition matched actions) (sym one.2)),
        ),
      )
      by_test false apart = (
        spelled,
        λ clear. opposite (list_all (are_same first) others)
            ((all-told (are_same first) others).1 (λ kinds later.
            let g = (each kinds).0 (Contains-later first others kinds later) in
            (same-told first kinds).1 (subst (λ ks. AreTheSame ks kinds) (sym one.2) (subst (AreTheSame (recorded one.0)) (sym g.2)
            (λ kind. (clear one.0 g.0 one.1 g.1 kind, clear g.0 one.0 g.1 one.1 kind)))))) apart,
      )

  pub told-is : IsSo (told_by matched actions substitutions v)
  told-is = told-so All recorded-by

  -- one thing alone can be told
  one-told : (d e : VariantDisposition) → IsTold matched actions substitutions v d → IsTold matched actions substitutions v e → d ≡ e
  one-told (Clear d) (Clear e) first second = ap Clear (OneIfClear-holds matched actions substitutions v d e first.0 first.1 second.1)
  one-told (Clear d) Unclear first second = absurd (second first.0)
  one-told Unclear (Clear e) first second = absurd (first second.0)
  one-told Unclear Unclear first second = refl

  by-value : (o : Option VariantDisposition) → IsSo o → (d : VariantDisposition) → (o ≡ Some d) ↔ (SubstitutionsSpell substitutions v × IsTold matched actions substitutions v d)
  by-value None so d = (λ e. absurd (let f : None ≡ Some d = e in cc), λ h. absurd (so h.0))
  by-value (Some e) so d = (
    λ same. subst (λ x. IsSo (Some x)) (same_Some e d same) so,
    λ h. ap (λ x. Some x) (one-told e d so.1 h.1),
  )

  pub readings-told : (d : VariantDisposition) → (told_by matched actions substitutions v ≡ Some d) ↔ (SubstitutionsSpell substitutions v × IsTold matched actions substitutions v d)
  readings-told d = by-value (told_by matched actions substitutions v) told-is d

pub readings-are-told : ReadingsAreTold
readings-are-told matched actions substitutions v d are = readings-told matched actions substitutions v are d
