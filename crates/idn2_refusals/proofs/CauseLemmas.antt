-- What messages of refused lines go on with.
use Rattle.std.proofs.Common.{subst, ◌≡◌, ℕ, ◌≤◌, ◌<◌, ◌^◌, nat_le, decimal, Bool, true, false, List, [], length, cond, chars, Option, Some, None, slice_index, refl, sym, ap, ◌∙◌, arith}
use Rattle.std.specs.Option.{option_map}
use Rattle.std.specs.Str.{is_utf8, IsValidUpTo}
use Rattle.std.proofs.lemmas.Bool.Decides.{nat_tests}
use Rattle.std.proofs.lemmas.Fmt.{length-decimal-le_wide}
use Rattle.std.proofs.lemmas.Str.{utf8_valid_len-IsValidUpTo, is_utf8-from_IsUtf8}
use Rattle.idn_class.specs.declared.properties.Properties.{Properties}
use Rattle.idn_text.specs.Points.{IsUtf8Of}
use Rattle.idn_text.specs.declared.refusal.Refusal.{Refusal}
use Rattle.idn_text.specs.declared.refusal.Refusal.TheVariants as refusals
use Rattle.idn_text.specs.declared.refusal.Refusal.TheVariants.{NotInTable}
use Rattle.idn_text.specs.Refusals.{refusal_text}
use Rattle.idn_text.proofs.Utf8Lemmas.{IsUtf8-from_points, points_from_utf8}
use Rattle.idn_cause.specs.declared.cause.Cause.TheVariants.{Point}
use Rattle.variant_table.specs.Entries.{TableValue}
use Rattle.variant_table.specs.WellFormed.{IsWellFormed}
use Rattle.valid_labels.specs.Causes as validity_causes
use Rattle.valid_labels.specs.Furthest.{IsFurthest, furthest}
use Rattle.valid_labels.proofs.SourceLemmas.{furthest-told}
use Rattle.idn2_refusals.specs.Explained.{Explained, PointsCauseNeedsNone, TextCauseNeedsNone, Unexplained, bad_byte, body_cause, invalid_cause, not_in_table_cause, points_cause, unless_unexplained, table_cause, text_cause, validity_cause}
use Rattle.idn2_refusals.specs.CauseWords.{tail_text}
use Rattle.idn2_refusals.proofs.Utf8Bytes.{is_not_utf8}
use Rattle.idn2_refusals.specs.Explaining.{explained_by}
use Rattle.idn2_refusals.specs.declared.cause.Explaining.{Explaining}
use Rattle.idn2_refusals.specs.declared.cause.Explaining.TheVariants as by
use Rattle.idn2_refusals.specs.declared.cause.LineCause.{LineCause}
use Rattle.idn2_refusals.specs.declared.cause.LineCause.TheVariants.{Byte, OfLabel}

-- without the option no cause is told
pub unexplained-none : (body : Option (List ℕ)) (refusal : Refusal) → body_cause Unexplained body refusal ≡ None
unfolding points_cause
unexplained-none None refusal = refl
unexplained-none (Some bytes) refusal = by_utf8 (is_utf8 bytes)
  where
    by_utf8 : (utf8 : Bool) → (let told : Option LineCause = cond utf8 None None in told) ≡ None
    by_utf8 true = refl
    by_utf8 false = refl

-- and a message ends as ever
pub unexplained_body : (body : Option (List ℕ)) (refusal : Refusal) → tail_text refusal (body_cause Unexplained body refusal) ≡ []
unexplained_body body refusal = ap (tail_text refusal) (unexplained-none body refusal)

pub bad_byte-at : (bytes : List ℕ) (place : ℕ) → IsValidUpTo bytes place → bad_byte bytes ≡ Byte place (slice_index bytes place)
bad_byte-at bytes place valid = ap (λ n. Byte n (slice_index bytes n)) (utf8_valid_len-IsValidUpTo bytes place valid)

-- the code point after the furthest place that sources reach
pub not_in_table_cause-told : (table : TableValue) (label : List ℕ) (place : ℕ) → IsWellFormed table.entries → length label ≤ 63 → IsFurthest table label place → not_in_table_cause table label ≡ Some (Point place (slice_index label place))
not_in_table_cause-told table label place formed short is =
    let within : nat_le (length label) 63 ≡ true = grind (arith, nat_tests) in
    let at : furthest table label ≡ place = sym ((furthest-told.exactly table label place formed).0 is) in
    ap (λ b. cond b (Some (Point (furthest table label) (slice_index label (furthest table label)))) None) within
    ∙ ap (λ n. Some (Point n (slice_index label n))) at

module _ (properties : Properties) where
  pub outside-told : (table : TableValue) (label : List ℕ) (place : ℕ) → IsWellFormed table.entries → length label ≤ 63 → IsFurthest table label place → table_cause properties table label NotInTable ≡ Some (OfLabel (Point place (slice_index label place)))
  outside-told table label place formed short is = ap (option_map OfLabel) (not_in_table_cause-told table label place formed short is)

-- of a short label that is made of sources and isn't valid
pub invalid_cause-told : (table : TableValue) (label : List ℕ) → length label ≤ 63 → invalid_cause table label ≡ option_map (validity_cause table label) (validity_causes.cause_of table label)
invalid_cause-told table label short =
    let within : nat_le (length label) 63 ≡ true = grind (arith, nat_tests) in
    ap (λ b. cond b (option_map (validity_cause table label) (validity_causes.cause_of table label)) None) within

-- ---- the cause of bytes is that of the code points that they spell

pub text_cause-points : (explained : Explained) (bytes points : List ℕ) (refusal : Refusal) → IsUtf8Of bytes points → text_cause explained bytes refusal ≡ points_cause explained points refusal
text_cause-points explained bytes points refusal is =
    ap (λ (b : Bool). cond b (points_cause explained (chars bytes) refusal) (unless_unexplained explained (bad_byte bytes))) (is_utf8-from_IsUtf8 bytes (IsUtf8-from_points bytes points is))
    ∙ ap (λ (ps : List ℕ). points_cause explained ps refusal) (points_from_utf8 bytes points is)

-- of bytes that are no UTF-8
pub text_cause-not_utf8 : (explained : Explained) (bytes : List ℕ) (refusal : Refusal) → is_utf8 bytes ≡ false → text_cause explained bytes refusal ≡ unless_unexplained explained (bad_byte bytes)
text_cause-not_utf8 explained bytes refusal other =
    ap (λ (b : Bool). cond b (points_cause explained (chars bytes) refusal) (unless_unexplained explained (bad_byte bytes))) other

pub text_cause-none : (explained : Explained) (bytes : List ℕ) (refusal : Refusal) → ((points : List ℕ) → IsUtf8Of bytes points → ⊥) → text_cause explained bytes refusal ≡ unless_unexplained explained (bad_byte bytes)
text_cause-none explained bytes refusal none = text_cause-not_utf8 explained bytes refusal (is_not_utf8 bytes none (is_utf8 bytes) refl)

-- what takes no memory for bytes takes none for their code points
pub text_needs-points : (explained : Explained) (bytes points : List ℕ) (refusal : Refusal) → IsUtf8Of bytes points
    → TextCauseNeedsNone explained bytes refusal → PointsCauseNeedsNone explained points refusal
text_needs-points explained bytes points refusal is needs =
    subst (λ (ps : List ℕ). PointsCauseNeedsNone explained ps refusal) (points_from_utf8 bytes points is)
    (needs (is_utf8-from_IsUtf8 bytes (IsUtf8-from_points bytes points is)))

pub body_cause-nothing : (explaining : Explaining) (body : Option (List ℕ)) (refusal : Refusal) → explaining ≡ by.Nothing → body_cause (explained_by explaining) body refusal ≡ None
body_cause-nothing explaining body refusal is = ap (λ (e : Explaining). body_cause (explained_by e) body refusal) is ∙ unexplained-none body refusal

pub ruleset causes_of_text = (text_cause-points, text_cause-none)

-- ---- how long what is told is

-- the text of a refusal
pub refusal_text-short : (refusal : Refusal) → length (refusal_text refusal) ≤ 33
refusal_text-short refusals.NotUtf8 = omega arith
refusal_text-short refusals.LineTooLong = omega arith
refusal_text-short refusals.Empty = omega arith
refusal_text-short refusals.OutOfOrder = omega arith
refusal_text-short refusals.FileTooLong = omega arith
refusal_text-short refusals.Disallowed = omega arith
refusal_text-short refusals.Unassigned = omega arith
refusal_text-short refusals.NotNfc = omega arith
refusal_text-short refusals.Hyphen = omega arith
refusal_text-short refusals.LeadingMark = omega arith
refusal_text-short refusals.ContextJ = omega arith
refusal_text-short refusals.ContextO = omega arith
refusal_text-short refusals.Bidi = omega arith
refusal_text-short refusals.LabelTooLong = omega arith
refusal_text-short refusals.BadALabel = omega arith
refusal_text-short refusals.LookupInvalid = omega arith
refusal_text-short refusals.LookupLength = omega arith
refusal_text-short refusals.Syntax = omega arith
refusal_text-short refusals.SameSource = omega arith
refusal_text-short refusals.SameVariant = omega arith
refusal_text-short refusals.BadClass = omega arith
refusal_text-short refusals.Limit = omega arith
refusal_text-short refusals.NoSuchName = omega arith
refusal_text-short refusals.SameName = omega arith
refusal_text-short refusals.NotSupported = omega arith
refusal_text-short refusals.NotInTable = omega arith
refusal_text-short refusals.NotValid = omega arith
refusal_text-short refusals.Usage = omega arith
refusal_text-short refusals.ReadFault = omega arith
refusal_text-short refusals.WriteFault = omega arith
refusal_text-short refusals.Memory = omega arith

-- the number of a line
pub number_digits : (n : ℕ) → n < 2 ^ 64 → length (decimal n) ≤ 20
number_digits n few = length-decimal-le_wide 20 n (omega arith) (omega arith) (omega arith)
