-- The block and the check that compute are those that are listed.
use Rattle.std.proofs.Common.{◌≡◌, ◌↔◌, inl, inr, ℕ, true, List, Option, Some, None, refl, sym, ap, subst}
use Rattle.std.specs.Prelude.{IfSome}
use Rattle.idn_text.specs.declared.refusal.Refusal.{Refusal}
use Rattle.idn_label.specs.FirstFault.{IsRegistrable}
use Rattle.variant_table.specs.Entries.{TableValue}
use Rattle.variant_table.specs.Differences.{differences_of}
use Rattle.variant_table.specs.Gaps.{gaps_of}
use Rattle.variant_table.specs.WellFormed.{IsWellFormed}
use Rattle.variant_table.proofs.DifferenceLemmas.{differences_of_are_differences}
use Rattle.variant_table.proofs.RisingLemmas.{gaps_of_are_gaps}
use Rattle.valid_labels.specs.Tests.{asks_nothing}
use Rattle.valid_labels.specs.Validity.{IsSound, IsValid}
use Rattle.valid_labels.proofs.NothingLemmas.{nothing-is-asked}
use Rattle.valid_labels.proofs.TestLemmas.{tests-agree}
use Rattle.variant_list.specs.Laws.{IsTested}
use Rattle.variant_list.specs.Labels.{IsRising}
use Rattle.variant_list.specs.Spelled.{spelled}
use Rattle.variant_list.specs.Spelling.{Spells}
use Rattle.variant_list.specs.Variants.{IsVariant, candidates, fits_label}
use Rattle.variant_list.proofs.ListingLemmas.{fits_label-short, short-fits_label}
use Rattle.variant_list.proofs.ListedLemmas.{IsListOf-same}
use Rattle.variant_list.proofs.TestedLaws.{tested_are_listed}
use Rattle.variant_list.proofs.VariantLists.{variants-AreVariants}
use Rattle.idn_class.specs.declared.properties.Properties.{Properties}
use Rattle.registered_labels.specs.Registered.{AreRegistered}
use Rattle.idn2_options.specs.Settings.{Settings}
use Rattle.idn_label.specs.Answers.{unless_fault}
use Rattle.idn2_answers.specs.Listings.{Filter, filter_of, variants_after, tested_after, stop_of, block, IsAhead, IsListed, IsTried, IsBlock}
use Rattle.idn2_answers.specs.Answers.{block_among, listing_answer, variants_answer, IsBlockAmong, IsListing}
use Rattle.idn2_answers.proofs.FoundLabels.{collision_block-is}
use Rattle.idn2_answers.specs.Transcript.{IsCheck, check_findings}
use Rattle.idn2_answers.specs.Dispositions.{disposition}
use Rattle.idn2_answers.proofs.DispositionTests.{disposition-IsDisposition}
use Rattle.idn2_answers.proofs.FilterLemmas.{accepted-is, alive-is, registrable-some}
use Rattle.idn2_cli.proofs.SpelledLemmas.{spelled-replacements}
use Rattle.idn2_answers.proofs.AdmittedLabels.{admitted-made, admitted_answer, admitted_or_refused, refused_answer}

-- what a label spells is valid where the table asks nothing
pub spelled-valid : (table : TableValue) (label v : List ℕ) → IsSound table → Spells table label v → asks_nothing table ≡ true → IsValid table v
spelled-valid table label v sound spells free =
    nothing-is-asked.valid table v ((tests-agree.nothing table sound.entries).0 free) (spelled-replacements table label v spells)

same_listed : (o : Settings) (table : TableValue) (label v : List ℕ) → IsSound table
    → IsVariant (filter_of o.properties table label).accepts table label o.after v ↔ IsListed o table label v
same_listed o table label v sound = (
  λ i.
      let all = (accepted-is o.properties table label v sound (spelled-valid table label v sound i.spelled) i.spelled).0 i.accepted in
      record { registrable = all.0; valid = all.1; greater = i.greater; spelled = i.spelled; kept = all.2 },
  λ l. record { accepted = (accepted-is o.properties table label v sound (λ free. l.valid) l.spelled).1 (l.registrable, l.valid, l.kept); spelled = l.spelled; greater = l.greater },
)

same_tried : (o : Settings) (table : TableValue) (label v : List ℕ) → IsSound table
    → IsTested (filter_of o.properties table label).hopeless table label o.after v ↔ IsTried o table label v
same_tried o table label v sound = (
  λ t.
      let both = (alive-is o.properties table label v sound (spelled-valid table label v sound t.spelled)).0 t.alive in
      record { short = t.short; alive = both.0; found = both.1; greater = t.greater; spelled = t.spelled },
  λ t. record { spelled = t.spelled; short = t.short; greater = t.greater; alive = (alive-is o.properties table label v sound (spelled-valid table label v sound t.spelled)).1 (t.alive, t.found) },
)

same_ahead : (o : Settings) (table : TableValue) (label v : List ℕ) → IsVariant fits_label table label o.after v ↔ IsAhead o table label v
same_ahead o table label v = (
  λ i. record { short = fits_label-short v i.accepted; greater = i.greater; spelled = i.spelled },
  λ a. record { accepted = short-fits_label v a.short; spelled = a.spelled; greater = a.greater },
)

block-IsBlock : (o : Settings) (table : TableValue) (label : List ℕ) → IsSound table → IsBlock o table label (block o table label)
block-IsBlock o table label sound = record {
  listed = variants_after f o (spelled table label);
  exactly = IsListOf-same (IsVariant f.accepts table label o.after) (IsListed o table label) (variants_after f o (spelled table label)) (λ v. same_listed o table label v sound)
      (variants-AreVariants f.accepts table label o.after formed);
  tried = tested_after f o (spelled table label);
  exactly_tried = IsListOf-same (IsTested f.hopeless table label o.after) (IsTried o table label) (tested_after f o (spelled table label)) (λ v. same_tried o table label v sound)
      (tested_are_listed f.hopeless table label o.after formed);
  ahead = candidates table label o.after;
  exactly_ahead = IsListOf-same (IsVariant fits_label table label o.after) (IsAhead o table label) (candidates table label o.after) (same_ahead o table label)
      (variants-AreVariants fits_label table label o.after formed);
  stop = stop_of f o (spelled table label);
  stops = refl;
  field = disposition table label;
  disposed = λ v at.
      let l = (same_listed o table label v sound).0 (((variants-AreVariants f.accepts table label o.after formed).members v).0 at) in
      disposition-IsDisposition table label sound v (registrable-some o.properties v l.registrable) l.spelled;
  exact = refl;
}
  where
    f : Filter
    f = filter_of o.properties table label

    formed : IsWellFormed table.entries
    formed = sound.entries

-- the registered labels of the settings, if there are some, rise
abbrev pub HasRising : Option (List (List ℕ)) → Type 0
HasRising registered = IfSome registered IsRising

pub rising_some : (properties : Properties) (registered : Option (List (List ℕ))) → IfSome registered (AreRegistered properties) → HasRising registered
rising_some properties None all = tt
rising_some properties (Some labels) all = all.rising

block-IsBlockAmong : (o : Settings) (table : TableValue) (label : List ℕ) → IsSound table → (registered : Option (List (List ℕ))) → HasRising registered
    → IsBlockAmong registered o table label (block_among registered o table label)
block-IsBlockAmong o table label sound None rising = block-IsBlock o table label sound
block-IsBlockAmong o table label sound (Some registered) rising = collision_block-is o table label sound registered rising

listing : (o : Settings) (table : TableValue) (label : List ℕ) → IsSound table → HasRising o.registered → IsListing o table label (listing_answer o table label)
listing o table label sound rising = elim (admitted_or_refused table label sound) [
  | inl is ↦
      subst (IsListing o table label) (sym (admitted_answer table label (block_among o.registered o table label) sound is))
      (is, block-IsBlockAmong o table label sound o.registered rising)
  | inr refused ↦
      subst (IsListing o table label) (sym (refused_answer table label refused.0 (block_among o.registered o table label) sound refused.1 (admitted-made table label))) refused.1
]

-- the answer to a label that may be registered
pub variants_answer-IsListing : (o : Settings) (table : TableValue) (label : List ℕ) → IsSound table → HasRising o.registered → IsRegistrable o.properties label → IsListing o table label (variants_answer o table label)
variants_answer-IsListing o table label sound rising registrable =
    subst (IsListing o table label) (sym (ap (λ (f : Option Refusal). unless_fault f (listing_answer o table label)) registrable)) (listing o table label sound rising)

pub check_findings-IsCheck : (table : TableValue) → IsWellFormed table.entries → IsCheck table (check_findings table)
check_findings-IsCheck table formed = record {
  gaps = gaps_of table.entries;
  differences = differences_of table.entries;
  exactly = gaps_of_are_gaps table.entries formed;
  exactly_differ = differences_of_are_differences table.entries formed;
  found = refl;
}
