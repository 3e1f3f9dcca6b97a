-- The readings of what a label spells: those by entries, and those by the substitutions that compute.
use Rattle.std.proofs.Common.{◌≡◌, ◌↔◌, inr, ℕ, ◌+◌, Bool, true, false, List, [], ◌∷◌, ◌++◌, length, map, refl, sym, ap, subst, ◌∙◌, if◌then◌else◌}
use Rattle.std.specs.Prelude.{bytes_eq}
use Rattle.std.specs.List.{AllByRecursion, Contains, flat_map}
use Rattle.std.proofs.lemmas.Slice.Eq.{bytes_eq-Decides}
use Rattle.reading_kinds.specs.Readings.{Substitution, AreSubstitutions, IsReading, SubstitutionsSpell}
use Rattle.variant_dispositions.specs.declared.disposition.Disposition.{Disposition as Outcome}
use Rattle.variant_dispositions.specs.Kinds.{Kind, kind_of_source, recorded}
use Rattle.variant_dispositions.specs.Readings as readings
use Rattle.variant_table.specs.Entries.{Entry, TableValue}
use Rattle.variant_table.specs.Segmentations.{IsSegmentation}
use Rattle.valid_labels.specs.Actions.{actions_of, matches_rule}
use Rattle.valid_labels.specs.Dispositions.{disposition_by, IsClearItself, IsOwnDisposition}
use Rattle.valid_labels.specs.Dispositions as own
use Rattle.valid_labels.specs.Staying.{staying_of}
use Rattle.variant_table.specs.Staying.{staying}
use Rattle.valid_labels.specs.Validity.{IsSound}
use Rattle.valid_labels.proofs.ItselfLemmas.{spelled-itself}
use Rattle.valid_labels.proofs.StayingLemmas.{AreSubstitutions-staying, reading-segmentation, recorded-staying, segmentation-reading}
use Rattle.variant_list.specs.Readings.{Mapping, entry_of, kinds_of, sequence_of, IsReadingOf, MayAllBeMade}
use Rattle.variant_list.specs.Readings.Mapping.{Stays, Maps}
use Rattle.variant_list.specs.Spelling.{Spells}
use Rattle.variant_list.specs.Substitutions.{substitutions_of}
use Rattle.variant_list.proofs.ReadingLemmas.{Spells-read, from_substitutions, put, to_substitutions}
use Rattle.variant_list.proofs.SpelledByLemmas.{AreSubstitutions-label}
use Rattle.variant_list.proofs.SubstitutionLemmas.{SubstitutionsSpell-label}
use Rattle.idn2_answers.specs.Dispositions.{HasOutcome, IsClear, IsReadingFor, IsStaying, substitutions_for}

-- ---- a label of which each source stays

-- the entries of a reading that stays
abbrev stays_of : List Entry → List Mapping
stays_of es = map Stays es

record AreStaying (reading : List Mapping) : Type 0 where
  entries : List Entry
  is : reading ≡ stays_of entries

all-staying : (reading : List Mapping) → AllByRecursion IsStaying reading → AreStaying reading
all-staying [] all = record { entries = []; is = refl }
all-staying (Stays e ∷ reading) all =
    let rest = all-staying reading all.1 in
    record { entries = e ∷ rest.entries; is = ap (λ ms. Stays e ∷ ms) rest.is }
all-staying (Maps e v ∷ reading) all = absurd all.0

stays-all : (es : List Entry) → AllByRecursion IsStaying (stays_of es)
stays-all [] = tt
stays-all (e ∷ es) = (tt, stays-all es)

entries-of : (es : List Entry) → map entry_of (stays_of es) ≡ es
entries-of [] = refl
entries-of (e ∷ es) = ap (λ xs. e ∷ xs) (entries-of es)

pub kinds-of : (es : List Entry) → kinds_of (stays_of es) ≡ own.kinds_of es
kinds-of [] = refl
kinds-of (e ∷ es) = ap (λ ks. kind_of_source e.type ∷ ks) (kinds-of es)

sequences-of : (es : List Entry) → flat_map sequence_of (stays_of es) ≡ flat_map (λ (e : Entry). e.source) es
sequences-of [] = refl
sequences-of (e ∷ es) = ap (λ s. e.source ++ s) (sequences-of es)

module _ (table : TableValue) (label : List ℕ) where
  made-staying : (es : List Entry) (place : ℕ) → MayAllBeMade table label place (stays_of es)
  made-staying [] place = tt
  made-staying (e ∷ es) place = (tt, made-staying es (place + length e.source))

  -- a segmentation as a reading of the label itself
  pub reading-itself : (es : List Entry) → IsSegmentation table es label → IsReadingFor table label label (stays_of es)
  reading-itself es is = record {
    reads = record {
      segmentation = subst (λ (xs : List Entry). IsSegmentation table xs label) (sym (entries-of es)) is;
      made = made-staying es 0;
      joined = sequences-of es ∙ is.joined;
    };
    stays = λ same. stays-all es;
  }

  -- and back
  pub segmentation-itself : (reading : List Mapping) → IsReadingFor table label label reading → (es : List Entry) × IsSegmentation table es label × (kinds_of reading ≡ own.kinds_of es)
  segmentation-itself reading is =
      let s = all-staying reading (is.stays refl) in
      let cut : IsSegmentation table (map entry_of (stays_of s.entries)) label = subst (λ (ms : List Mapping). IsSegmentation table (map entry_of ms) label) s.is is.reads.segmentation in
      (s.entries, subst (λ (xs : List Entry). IsSegmentation table xs label) (entries-of s.entries) cut, ap kinds_of s.is ∙ kinds-of s.entries)

  -- what is spelled has a reading
  pub some-reading : (v : List ℕ) → Spells table label v → (reading : List Mapping) × IsReadingFor table label v reading
  some-reading v spells = by_test (bytes_eq v label) refl
    where
      by_test : (b : Bool) → bytes_eq v label ≡ b → (reading : List Mapping) × IsReadingFor table label v reading
      by_test true same =
          let e : v ≡ label = (bytes_eq-Decides v label).0 same in
          subst (λ (w : List ℕ). (reading : List Mapping) × IsReadingFor table label w reading) (sym e) (stays_of spells.0, reading-itself spells.0 spells.1)
      by_test false other =
          let r = (Spells-read table label v).0 spells in
          (r.0, record { reads = r.1; stays = λ e. absurd (let clash : false ≡ true = sym other ∙ (bytes_eq-Decides v label).1 e in cc) })

  -- what is told of the label itself
  pub clear-itself : IsClearItself table label → IsClear table label label
  clear-itself clear = inr (λ one other is also kind c.
      let s = segmentation-itself one is in
      let t = segmentation-itself other also in
      subst (λ ks. Contains ks kind) (sym t.2) (clear s.0 t.0 s.1 t.1 kind (subst (λ ks. Contains ks kind) s.2 c)))

  pub outcome-itself : (d : Outcome) → HasOutcome table label label d ↔ IsOwnDisposition table label d
  outcome-itself d = (
    λ h. (let s = segmentation-itself h.0 h.1 in (s.0, s.1, ap (disposition_by table label) (sym s.2) ∙ h.2)),
    λ h. (stays_of h.0, reading-itself h.0 h.1, ap (disposition_by table label) (kinds-of h.0) ∙ h.2),
  )

-- ---- what a label spells has a reading

module _ (table : TableValue) (label : List ℕ) (sound : IsSound table) where
  pub fits : (v : List ℕ) → AreSubstitutions (substitutions_for table label v)
  fits v = by_test (bytes_eq v label)
    where
      by_test : (b : Bool) → AreSubstitutions (if b then staying_of table label else substitutions_of table label)
      by_test true = AreSubstitutions-staying table label sound.entries
      by_test false = AreSubstitutions-label table label sound.entries

  pub has_reading : (v : List ℕ) → Spells table label v → SubstitutionsSpell (substitutions_for table label v) v
  has_reading v spells = by_test (bytes_eq v label) refl
    where
      by_test : (b : Bool) → bytes_eq v label ≡ b → SubstitutionsSpell (if b then staying_of table label else substitutions_of table label) v
      by_test true same =
          let e : v ≡ label = (bytes_eq-Decides v label).0 same in
          subst (SubstitutionsSpell (staying_of table label)) (sym e) ((spelled-itself table label sound).1 (spells.0, spells.1))
      by_test false other = (SubstitutionsSpell-label table label sound.entries v).1 spells

  -- ---- the readings by entries, and by substitutions

  -- a reading by substitutions that records these kinds
  abbrev pub RecordsBy : List (List Substitution) → List ℕ → List Kind → Type 0
  RecordsBy substitutions v kinds = (cut : List Substitution) × IsReading substitutions v cut × (recorded cut ≡ kinds)

  abbrev pub RecordsFor : List ℕ → List Kind → Type 0
  RecordsFor v kinds = (reading : List Mapping) × IsReadingFor table label v reading × (kinds_of reading ≡ kinds)

  itself-there : (reading : List Mapping) → IsReadingFor table label label reading → RecordsBy (staying_of table label) label (kinds_of reading)
  itself-there reading is =
      let s = segmentation-itself table label reading is in
      (map staying s.0, segmentation-reading table label sound.entries s.0 s.1, recorded-staying table sound s.0 s.1.of_table ∙ sym s.2)

  itself-back : (cut : List Substitution) → IsReading (staying_of table label) label cut → RecordsFor label (recorded cut)
  itself-back cut is =
      let s = reading-segmentation table label sound.entries cut is in
      (stays_of s.0, reading-itself table label s.0 s.1, kinds-of s.0 ∙ sym (recorded-staying table sound s.0 s.1.of_table) ∙ ap recorded (sym s.2))

  pub reads-by : (v : List ℕ) (reading : List Mapping) → IsReadingOf table label v reading → RecordsBy (substitutions_of table label) v (kinds_of reading)
  reads-by v reading is =
      let s = to_substitutions table label v sound.entries sound.named sound.definitions.few_types reading is in
      (map put reading, s.0, s.1)

  pub reads-from : (v : List ℕ) (cut : List Substitution) → IsReading (substitutions_of table label) v cut → (reading : List Mapping) × IsReadingOf table label v reading × (kinds_of reading ≡ recorded cut)
  reads-from v cut is =
      let s = from_substitutions table label v sound.entries sound.named sound.definitions.few_types cut is in
      (s.reading, s.of, sym s.recorded_the_same)

  pub there : (v : List ℕ) (reading : List Mapping) → IsReadingFor table label v reading → RecordsBy (substitutions_for table label v) v (kinds_of reading)
  there v reading is = by_test (bytes_eq v label) refl
    where
      by_test : (b : Bool) → bytes_eq v label ≡ b → RecordsBy (if b then staying_of table label else substitutions_of table label) v (kinds_of reading)
      by_test true same =
          let e : v ≡ label = (bytes_eq-Decides v label).0 same in
          subst (λ (w : List ℕ). RecordsBy (staying_of table label) w (kinds_of reading)) (sym e) (itself-there reading (subst (λ (w : List ℕ). IsReadingFor table label w reading) e is))
      by_test false other = reads-by v reading is.reads

  pub back : (v : List ℕ) (cut : List Substitution) → IsReading (substitutions_for table label v) v cut → RecordsFor v (recorded cut)
  back v cut is = by_test (bytes_eq v label) refl is
    where
      by_test : (b : Bool) → bytes_eq v label ≡ b → IsReading (if b then staying_of table label else substitutions_of table label) v cut → RecordsFor v (recorded cut)
      by_test true same is =
          let e : v ≡ label = (bytes_eq-Decides v label).0 same in
          subst (λ (w : List ℕ). RecordsFor w (recorded cut)) (sym e) (itself-back cut (subst (λ (w : List ℕ). IsReading (staying_of table label) w cut) e is))
      by_test false other is =
          let r = reads-from v cut is in
          (r.0, record { reads = r.1; stays = λ e. absurd (let clash : false ≡ true = sym other ∙ (bytes_eq-Decides v label).1 e in cc) }, r.2)

  -- all readings record the same by the ones where they do by the others
  abbrev pub RecordTheSame : List ℕ → Type 0
  RecordTheSame v = (one other : List Mapping) → IsReadingFor table label v one → IsReadingFor table label v other → (kind : Kind) → Contains (kinds_of one) kind → Contains (kinds_of other) kind

  pub clear-same : (v : List ℕ) → RecordTheSame v ↔ readings.IsClear (substitutions_for table label v) v
  clear-same v = (
    λ clear one other is also kind c.
        let s = back v one is in
        let t = back v other also in
        subst (λ ks. Contains ks kind) t.2 (clear s.0 t.0 s.1 t.1 kind (subst (λ ks. Contains ks kind) (sym s.2) c)),
    λ clear one other is also kind c.
        let s = there v one is in
        let t = there v other also in
        subst (λ ks. Contains ks kind) t.2 (clear s.0 t.0 s.1 t.1 kind (subst (λ ks. Contains ks kind) (sym s.2) c)),
  )

  pub outcome-same : (v : List ℕ) (d : Outcome) → HasOutcome table label v d ↔ readings.IsDisposition (matches_rule table v) (actions_of table.definitions) (substitutions_for table label v) v d
  outcome-same v d = (
    λ h. (let s = there v h.0 h.1 in (s.0, s.1, ap (disposition_by table v) s.2 ∙ h.2)),
    λ h. (let s = back v h.0 h.1 in (s.0, s.1, ap (disposition_by table v) s.2 ∙ h.2)),
  )
