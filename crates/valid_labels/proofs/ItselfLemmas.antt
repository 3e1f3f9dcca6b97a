-- What is told of a label itself, by its segmentations.
use Rattle.std.proofs.Common.{◌≡◌, ◌↔◌, ◌≢◌, inl, inr, ℕ, ◌+◌, true, false, List, [], ◌∷◌, length, map, refl, sym, ap, ◌∙◌, subst, arith, length-append}
use Rattle.std.specs.Prelude.{IfSome, IsSome, Option, Some, None}
use Rattle.std.specs.List.{AllByRecursion, Contains, flat_map}
use Rattle.std.proofs.lemmas.List.Elements.{All-contains, All-from_recursion}
use Rattle.std.proofs.lemmas.Option.{same_Some}
use Rattle.reading_kinds.specs.Readings.{SubstitutionsSpell}
use Rattle.variant_dispositions.specs.declared.disposition.Disposition.{Disposition}
use Rattle.variant_dispositions.specs.declared.variant.VariantDisposition.{VariantDisposition}
use Rattle.variant_dispositions.specs.declared.variant.VariantDisposition.TheVariants.{Clear, Unclear}
use Rattle.variant_dispositions.specs.Kinds.{Kind, kind_of_source, recorded}
use Rattle.variant_dispositions.specs.Kinds.Kind.{Unmapped}
use Rattle.variant_dispositions.specs.Readings.{IsClear, IsDisposition, IsTold}
use Rattle.variant_dispositions.proofs.SetLemmas.{KindsAreASet-holds}
use Rattle.variant_table.specs.Entries.{Entry, TableValue}
use Rattle.variant_table.specs.Segmentations.{HasSegmentation, IsSegmentation}
use Rattle.variant_table.specs.WellFormed.{IsWellFormed}
use Rattle.variant_table.proofs.MemberLemmas.{Contains-head, Contains-none, Contains-cases}
use Rattle.valid_labels.specs.Actions.{actions_of, matches_rule}
use Rattle.valid_labels.specs.Dispositions.{IsClearItself, IsOwnDisposition, disposition_by, kinds_of, told_itself}
use Rattle.valid_labels.specs.Laws.{LabelsAreToldThemselves, TypelessAreClear}
use Rattle.valid_labels.specs.Staying.{staying_of}
use Rattle.variant_table.specs.Staying.{staying}
use Rattle.valid_labels.specs.Validity.{IsSound}
use Rattle.valid_labels.proofs.EligibleLemmas.{source-filled}
use Rattle.valid_labels.proofs.ReadingLists.{IsSo, readings-told, told-is}
use Rattle.valid_labels.proofs.StayingLemmas.{AreSubstitutions-staying, reading-segmentation, recorded-staying, segmentation-reading}

module _ (table : TableValue) (label : List ℕ) (sound : IsSound table) where
  pub spelled-itself : SubstitutionsSpell (staying_of table label) label ↔ HasSegmentation table label
  spelled-itself = (
    λ s. (let g = reading-segmentation table label sound.entries s.0 (record { is_cut = s.1; joined = s.2 }) in (g.0, g.1)),
    λ h. (let is = segmentation-reading table label sound.entries h.0 h.1 in (map staying h.0, is.is_cut, is.joined)),
  )

  -- what a segmentation records is what its reading does
  recorded-by : (es : List Entry) → IsSegmentation table es label → recorded (map staying es) ≡ kinds_of es
  recorded-by es is = recorded-staying table sound es is.of_table

  pub clear-itself : IsClear (staying_of table label) label ↔ IsClearItself table label
  clear-itself = (
    λ clear one other is also kind c.
        subst (λ ks. Contains ks kind) (recorded-by other also)
        (clear (map staying one) (map staying other) (segmentation-reading table label sound.entries one is) (segmentation-reading table label sound.entries other also) kind
        (subst (λ ks. Contains ks kind) (sym (recorded-by one is)) c)),
    λ clear r s is also kind c.
        let one = reading-segmentation table label sound.entries r is in
        let other = reading-segmentation table label sound.entries s also in
        subst (λ ks. Contains ks kind) (sym (ap recorded other.2 ∙ recorded-by other.0 other.1))
        (clear one.0 other.0 one.1 other.1 kind (subst (λ ks. Contains ks kind) (ap recorded one.2 ∙ recorded-by one.0 one.1) c)),
  )

  pub own-disposition : (d : Disposition) → IsDisposition (matches_rule table label) (actions_of table.definitions) (staying_of table label) label d ↔ IsOwnDisposition table label d
  own-disposition d = (
    λ h.
        let g = reading-segmentation table label sound.entries h.0 h.1 in
        (g.0, g.1, ap (disposition_by table label) (sym (ap recorded g.2 ∙ recorded-by g.0 g.1)) ∙ h.2),
    λ h. (map staying h.0, segmentation-reading table label sound.entries h.0 h.1, ap (disposition_by table label) (recorded-by h.0 h.1) ∙ h.2),
  )

  abbrev Told : VariantDisposition → Type 0
  Told d = SubstitutionsSpell (staying_of table label) label × IsTold (matches_rule table label) (actions_of table.definitions) (staying_of table label) label d

  pub told : (d : VariantDisposition) → (told_itself table label ≡ Some d) ↔ Told d
  told d = readings-told (matches_rule table label) (actions_of table.definitions) (staying_of table label) label (AreSubstitutions-staying table label sound.entries) d

  pub told-clear : (d : Disposition) → (told_itself table label ≡ Some (Clear d)) ↔ (IsClearItself table label × IsOwnDisposition table label d)
  told-clear d = (
    λ e. (let t = (told (Clear d)).0 e in (clear-itself.0 t.1.0, (own-disposition d).0 t.1.1)),
    λ h. (told (Clear d)).1 (spelled-itself.1 (h.1.0, h.1.1), (clear-itself.1 h.0, (own-disposition d).1 h.1)),
  )

  abbrev So : Option VariantDisposition → Type 0
  So o = IsSo (matches_rule table label) (actions_of table.definitions) (staying_of table label) label (AreSubstitutions-staying table label sound.entries) o

  so : So (told_itself table label)
  so = told-is (matches_rule table label) (actions_of table.definitions) (staying_of table label) label (AreSubstitutions-staying table label sound.entries)

  none-so : (o : Option VariantDisposition) → So o → (o ≡ None) ↔ (¬ HasSegmentation table label)
  none-so None is = (λ e h. is (spelled-itself.1 h), λ h. refl)
  none-so (Some d) is = (λ e. absurd (let f : Some d ≡ None = e in cc), λ none. absurd (none (spelled-itself.0 is.0)))

  unclear-so : (o : Option VariantDisposition) → So o → (o ≡ Some Unclear) ↔ (¬ IsClearItself table label)
  unclear-so None is = (
    λ e. absurd (let f : None ≡ Some Unclear = e in cc),
    λ unclear. absurd (unclear (λ one other first also kind c. absurd (is (spelled-itself.1 (one, first))))),
  )
  unclear-so (Some (Clear d)) is = (
    λ e. absurd (let f : Clear d ≡ Unclear = same_Some (Clear d) Unclear e in cc),
    λ unclear. absurd (unclear (clear-itself.0 is.1.0)),
  )
  unclear-so (Some Unclear) is = (λ e clear. is.1 (clear-itself.1 clear), λ h. refl)

  pub told-none : (told_itself table label ≡ None) ↔ (¬ HasSegmentation table label)
  told-none = none-so (told_itself table label) so

  pub told-unclear : (told_itself table label ≡ Some Unclear) ↔ (¬ IsClearItself table label)
  told-unclear = unclear-so (told_itself table label) so

  -- what is told by some words is told
  pub told-value : (o : Option VariantDisposition) → IsSome o ↔ SubstitutionsSpell (staying_of table label) label
      → IfSome o (IsTold (matches_rule table label) (actions_of table.definitions) (staying_of table label) label) → o ≡ told_itself table label
  told-value None spelled is = sym (told-none.1 (λ h. (let f : false ≡ true = spelled.1 (spelled-itself.1 h) in absurd cc)))
  told-value (Some d) spelled is = sym ((told d).1 (spelled.0 refl, is))

pub told-themselves : LabelsAreToldThemselves
told-themselves = record {
  unclear = λ table label sound. told-unclear table label sound;
  clear = λ table label d sound. told-clear table label sound d;
  segmented = λ table label sound. told-none table label sound;
}

-- ---- a label that is clear

pub one-disposition : (table : TableValue) (label : List ℕ) (d e : Disposition) → IsClearItself table label → IsOwnDisposition table label d → IsOwnDisposition table label e → d ≡ e
one-disposition table label d e clear one other =
    sym one.2
    ∙ KindsAreASet-holds (matches_rule table label) (actions_of table.definitions) (kinds_of one.0) (kinds_of other.0) (λ kind. (clear one.0 other.0 one.1 other.1 kind, clear other.0 one.0 other.1 one.1 kind))
    ∙ other.2

-- ---- where no source has a type

module _ (table : TableValue) (label : List ℕ) (formed : IsWellFormed table.entries) (none : AllByRecursion (λ e. e.type ≡ None) table.entries) where
  -- all of it is unmapped
  pub kinds-unmapped : (es : List Entry) → AllByRecursion (Contains table.entries) es → (kind : Kind) → Contains (kinds_of es) kind → Unmapped ≡ kind
  kinds-unmapped [] each kind c = absurd (Contains-none kind c)
  kinds-unmapped (e ∷ es) each kind c = elim (Contains-cases (kind_of_source e.type) (kinds_of es) kind c) [
    | inl same ↦ sym (ap kind_of_source (All-contains (λ (x : Entry). x.type ≡ None) table.entries e (All-from_recursion (λ (x : Entry). x.type ≡ None) table.entries none) each.0)) ∙ same
    | inr later ↦ kinds-unmapped es each.1 kind later
  ]

  -- and some is, unless the label is empty
  pub some-unmapped : (es : List Entry) → IsSegmentation table es label → label ≢ [] → Contains (kinds_of es) Unmapped
  some-unmapped [] is some = absurd (some (sym is.joined))
  some-unmapped (e ∷ es) is some =
      subst (Contains (kinds_of (e ∷ es))) (sym (kinds-unmapped (e ∷ es) is.of_table (kind_of_source e.type) (Contains-head (kind_of_source e.type) (kinds_of es)))) (Contains-head (kind_of_source e.type) (kinds_of es))

  -- the empty label has no source
  some-label : (es : List Entry) (kind : Kind) → IsSegmentation table es label → Contains (kinds_of es) kind → label ≢ []
  some-label [] kind is c empty = Contains-none kind c
  some-label (e ∷ es) kind is c empty =
      let size : length e.source + length (flat_map (λ (x : Entry). x.source) es) ≡ length label = sym (length-append e.source (flat_map (λ (x : Entry). x.source) es)) ∙ ap length is.joined in
      let zero_size : length label ≡ 0 = ap length empty in
      let some = source-filled table.entries e formed is.of_table.0 in
      absurd (omega (arith, size, zero_size, some))

  pub typeless-clear : IsClearItself table label
  typeless-clear one other is also kind c = subst (Contains (kinds_of other)) (kinds-unmapped one is.of_table kind c) (some-unmapped other also (some-label one kind is c))

pub typeless-are-clear : TypelessAreClear
typeless-are-clear = typeless-clear
