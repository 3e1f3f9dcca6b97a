-- What is said of a line has small numbers and texts of UTF-8, so that its object is read back.
use Rattle.std.proofs.Common.{◌≡◌, ℕ, zero, suc, ◌<◌, ◌-◌, ◌/◌, ◌%◌, ◌^◌, ◌==◌, Bool, true, false, ◌&&◌, ◌||◌, List, [], ◌∷◌, ◌++◌, map, codes, length, chars, cond, Option, Some, None, Ok, Err, refl, sym, ap, subst, ◌∙◌, if◌then◌else◌, arith}
use Rattle.std.specs.Prelude.{slice_get, Contains, IsUtf8}
use Rattle.std.specs.Char.{is_ascii}
use Rattle.std.specs.List.{AllByRecursion, filter}
use Rattle.std.specs.Option.{option_map}
use Rattle.std.specs.Ordering.{is_gt, is_le}
use Rattle.std.specs.Str.{is_utf8}
use Rattle.std.proofs.lemmas.Bool.{and_from}
use Rattle.std.proofs.lemmas.Bool.Decides.{nat_tests}
use Rattle.std.specs.List.{flat_map}
use Rattle.std.proofs.lemmas.List.Elements.{All-contains, All-from_recursion}
use Rattle.registered_labels.specs.Registered.{AreRegistered}
use Rattle.std.proofs.lemmas.List.Sums.{list_all-from_AllPass}
use Rattle.std.proofs.lemmas.Str.{IsUtf8-from_is_utf8, is_utf8-from_IsUtf8, IsUtf8-from_ascii}
use Rattle.idn_class.specs.declared.properties.Properties.{Properties}
use Rattle.json.proofs.Printed.Trees.{document-print}
use Rattle.json.specs.Tree.{json_tokens}
use Rattle.idna.specs.Punycode.{encode}
use Rattle.idna.specs.Validity.{is_all_ascii}
use Rattle.idna.proofs.PunycodeLemmas.{IsDigitChar, All-encode}
use Rattle.idn_text.specs.Lines.{Numbered}
use Rattle.idn_text.specs.Points.{AreScalarValues, hex_digit, utf8_of}
use Rattle.idn_text.specs.declared.refusal.Refusal.{Refusal}
use Rattle.idn_text.specs.declared.refusal.Refusal.TheVariants.{Empty, LineTooLong, NotUtf8, NotInTable, NotValid}
use Rattle.idn_text.proofs.Utf8Lemmas.{IsUtf8-from_points}
use Rattle.idn_label.specs.ALabel.{a_label_of}
use Rattle.idn_label.specs.Answers.{Answer as LabelAnswer, unless_fault}
use Rattle.idn_label.specs.Decode.{decode_answer}
use Rattle.idn_label.specs.FirstFault.{first_fault}
use Rattle.idn_label.specs.OldNames.{IsInZone}
use Rattle.idn_label.specs.declared.old_names.Standing.{Standing}
use Rattle.idn_label.specs.declared.old_names.Standing.TheVariants.{Registrable, Old}
use Rattle.idn_label.specs.Lookup.{lookup_answer, query_name, utf8_answer}
use Rattle.idn_label.specs.Register.{register_answer}
use Rattle.idn_label.specs.Steps.{in_utf8, is_ldh_point}
use Rattle.idn_label.proofs.ALabels.{registrable_scalars}
use Rattle.idn_label.proofs.BidiNames.{decode_answer-scalars}
use Rattle.idn_label.proofs.LdhLemmas.{is_all_ascii-octets, is_ldh_point-ascii}
use Rattle.idn_label.proofs.LookupLemmas.{utf8_answer-ascii}
use Rattle.idn_label.proofs.OldNameLemmas.{in_zone-scalars}
use Rattle.variant_table.specs.Entries.{TableValue}
use Rattle.variant_table.specs.WellFormed.{IsWellFormed}
use Rattle.valid_labels.specs.Tests.{is_admitted, is_made_of_sources}
use Rattle.valid_labels.specs.Validity.{IsSound}
use Rattle.variant_table.proofs.MemberLists.{all-members}
use Rattle.variant_list.specs.Beginnings.{has_no_dead_prefix, is_new, shortest_hopeless}
use Rattle.variant_list.specs.Closure.{near}
use Rattle.variant_list.specs.Jumps.{candidates_among_from}
use Rattle.variant_list.proofs.NearLemmas.{AreNear-scalar}
use Rattle.variant_list.proofs.NearLists.{near-AreNear}
use Rattle.variant_list.specs.Labels.{label_cmp}
use Rattle.variant_list.specs.Spelled.{spelled}
use Rattle.variant_list.specs.Variants.{candidates_among, fits_label, variants_among}
use Rattle.variant_list.specs.Visited.{visited}
use Rattle.variant_list.proofs.FromLemmas.{among_from-IsListOf}
use Rattle.variant_list.proofs.ListedLemmas.{variants-IsListed}
use Rattle.variant_list.proofs.SpelledByLemmas.{spelled-Spells}
use Rattle.variant_list.proofs.SpellingLemmas.{Spells-scalar}
use Rattle.idn2_options.specs.Settings.{IsCount, Settings}
use Rattle.idn2_options.specs.declared.command_line.mode.Mode.{Mode}
use Rattle.idn2_options.specs.declared.command_line.mode.Mode.TheVariants.{Lookup, Register, Decode, DecodeOld, Variants, Jump, CheckTable, PrintTable}
use Rattle.answer_json.specs.Answers.{Answer, HasSmallNumbers, IsSmall, json_of}
use Rattle.answer_json.specs.Hexadecimal.{hex_of, hex_of_byte}
use Rattle.answer_json.specs.Inputs.{Told, as_text, as_octets, not_kept, input_field, told_of}
use Rattle.answer_json.specs.Unicode.{HasUnicodeTexts, IsUnicode}
use Rattle.answer_json.specs.declared.block.Disposition.{Disposition}
use Rattle.answer_json.specs.declared.block.Disposition.TheVariants.{Allocatable, Blocked, Unclear}
use Rattle.answer_json.specs.declared.collision.Regard.{Regard}
use Rattle.answer_json.specs.declared.collision.Regard.TheVariants.{NoVariant, Variant}
use Rattle.answer_json.specs.declared.collision.Regard.TheVariants as regards
use Rattle.answer_json.specs.declared.collision.Regards.{Regards}
use Rattle.answer_json.specs.Objects.{regard_text}
use Rattle.answer_json.proofs.OneLine.{print_from-clear}
use Rattle.answer_json.proofs.Unicode.{answer_utf8, print_from-utf8}
use Rattle.answer_json.proofs.Written.{answer_clear, answer_depth, answer_numbers}
use Rattle.idn2_answers.specs.Listings.{Filter, block, field_of, filter_of, is_registrable, lesser_label, nth}
use Rattle.idn2_answers.specs.Listings.{nth_if_given, stop_of, tested_after, up_to, variants_after, visited_in}
use Rattle.idn2_answers.specs.Answers.{LineAnswer, block_among, if_admitted, least_answer, least_near, line_answer}
use Rattle.idn2_answers.specs.Answers.{listing_answer, mode_answer, one_answer, u_label_of, zone_said}
use Rattle.idn2_answers.specs.Collisions.{collision_block, collision_by, collisions_after, regards_of, is_found}
use Rattle.idn2_answers.specs.Collisions.{named_end, named_if}
use Rattle.idn2_refusals.specs.Requests.{requested_label, requested_text}
use Rattle.idn2_laws.specs.ReadBack.{IsReadBack, IsKeptToFew, SaidIsReadBack}
use Rattle.idn2_answers.specs.Said as said
use Rattle.idn2_answers.specs.Said.{Said, LookedUp, Registered, Decoded, Listed, Collision, BlockEnd, NamedEnd, Least, said_object}
use Rattle.idn2_laws.proofs.ReadBackCounts.{within_registered, within_tries}
use Rattle.idn2_laws.proofs.ZoneAnswers.{registered-for, zone-said}
use Rattle.idn2_refusals.proofs.Utf8Bytes.{utf8-of_chars}

-- ---- an object of small numbers and of UTF-8 is read back

pub object_read_back : (answer : Answer) → HasSmallNumbers answer → HasUnicodeTexts answer → IsReadBack answer
object_read_back answer small unicode = record {
  read_back = document-print (json_of answer) (answer_numbers answer small) (answer_depth answer);
  one_line = print_from-clear false (json_tokens (json_of answer)) (answer_clear answer small);
  unicode = print_from-utf8 false (json_tokens (json_of answer)) (answer_utf8 answer small unicode);
}

-- ---- texts of UTF-8

pub ascii_utf8 : (text : List ℕ) → is_all_ascii text ≡ true → IsUtf8 text
ascii_utf8 text ascii = IsUtf8-from_ascii text (is_all_ascii-octets text ascii)

pub scalars_utf8 : (points : List ℕ) → AreScalarValues points → IsUtf8 (utf8_of points)
scalars_utf8 points scalar = IsUtf8-from_points (utf8_of points) points (record { scalar_values = scalar; encoded = refl })

pub digit_ascii : (d : ℕ) → d < 16 → is_ascii (hex_digit d) ≡ true
digit_ascii d small = grind (arith, nat_tests)

hex_ascii : (bytes : List ℕ) → is_all_ascii (hex_of bytes) ≡ true
unfolding hex_of_byte
hex_ascii [] = refl
hex_ascii (byte ∷ bytes) =
    let first = digit_ascii (byte / 16 % 16) (omega arith) in
    let second = digit_ascii (byte % 16) (omega arith) in
    and_from (is_ascii (hex_digit (byte / 16 % 16))) (is_ascii (hex_digit (byte % 16)) && is_all_ascii (hex_of bytes)) first
    (and_from (is_ascii (hex_digit (byte % 16))) (is_all_ascii (hex_of bytes)) second (hex_ascii bytes))

-- the line that is answered
pub input_unicode : (body : Option (List ℕ)) → IsUtf8 (input_field (told_of body)).0 × IsUnicode (input_field (told_of body)).1
input_unicode None = (ascii_utf8 (codes "input") refl, tt)
input_unicode (Some bytes) = by_test (is_utf8 bytes) refl
  where
    by_test : (b : Bool) → is_utf8 bytes ≡ b → (let told : Told = cond b (as_text bytes) (as_octets bytes) in IsUtf8 (input_field told).0 × IsUnicode (input_field told).1)
    by_test true is = (ascii_utf8 (codes "input") refl, IsUtf8-from_is_utf8 bytes is)
    by_test false is = (ascii_utf8 (codes "input_hex") refl, ascii_utf8 (hex_of bytes) (hex_ascii bytes))

pub input_small : (input : Told) → IsSmall (input_field input).1
input_small (as_text bytes) = tt
input_small (as_octets bytes) = tt
input_small not_kept = tt

ascii_from : (c : ℕ) → c < 128 → is_ascii c ≡ true
ascii_from c low = grind (arith, nat_tests)

ldh_digit : (c : ℕ) → IsDigitChar c → is_ldh_point c ≡ true
ldh_digit c digit = rw digit refl

digit_low : (c : ℕ) → IsDigitChar c → is_ascii c ≡ true
digit_low c digit = ascii_from c (is_ldh_point-ascii c (ldh_digit c digit))

-- an A-label is ASCII
pub a_label-utf8 : (label : List ℕ) → IsUtf8 (a_label_of label)
unfolding a_label_of
a_label-utf8 label = by_test (is_all_ascii label) refl
  where
    by_test : (b : Bool) → is_all_ascii label ≡ b → IsUtf8 (cond b label (codes "xn--" ++ encode label))
    by_test true is = ascii_utf8 label is
    by_test false is =
        ascii_utf8 (codes "xn--" ++ encode label)
        (list_all-from_AllPass is_ascii (encode label) (All-encode _ label (λ k d lt low. ascii_from _ low) refl digit_low))

-- ---- what is said

-- the end of a block counts few variants
abbrev pub CountsFew : Said → Type 0
CountsFew (BlockEnd count stop) = count < 2 ^ 64
CountsFew (NamedEnd label count stop) = count < 2 ^ 64
CountsFew _ = Unit {0}

-- its texts are UTF-8
abbrev pub IsText : Option (List ℕ) → Type 0
IsText None = Unit {0}
IsText (Some points) = AreScalarValues points

abbrev pub HasTexts : Said → Type 0
HasTexts (LookedUp ascii) = IsUtf8 ascii
HasTexts (Registered u_label a_label) = AreScalarValues u_label × IsUtf8 a_label
HasTexts (Decoded unicode) = IsUtf8 unicode
HasTexts (said.Old unicode) = IsUtf8 unicode
HasTexts (Listed disposition v) = AreScalarValues v
HasTexts (BlockEnd count stop) = IsText stop
HasTexts (NamedEnd label count stop) = IsText stop
HasTexts (Collision regards v) = AreScalarValues v
HasTexts (Least None) = Unit {0}
HasTexts (Least (Some found)) = AreScalarValues found.0

-- what a label is to another one is told in ASCII
regard-utf8 : (regard : Regard) → IsUtf8 (regard_text regard)
regard-utf8 NoVariant = ascii_utf8 (codes "none") refl
regard-utf8 Variant = ascii_utf8 (codes "variant") refl
regard-utf8 regards.Blocked = ascii_utf8 (codes "blocked") refl
regard-utf8 regards.Allocatable = ascii_utf8 (codes "allocatable") refl

module _ (line : Numbered) (small : line.number < 2 ^ 64) where
  said_good : (s : Said) → HasTexts s → CountsFew s → IsReadBack (said_object line.number (told_of line.body) s)
  said_good (LookedUp ascii) h few =
      object_read_back _ ((small, (input_small (told_of line.body), (tt, tt))), tt)
      ((ascii_utf8 (codes "line") refl, tt, ((input_unicode line.body).0, (input_unicode line.body).1, (ascii_utf8 (codes "ascii") refl, h, tt))), tt)
  said_good (Registered u_label a_label) h few =
      object_read_back _ ((small, (input_small (told_of line.body), (tt, (tt, tt)))), tt)
      ((ascii_utf8 (codes "line") refl, tt, ((input_unicode line.body).0, (input_unicode line.body).1, (ascii_utf8 (codes "ulabel") refl, scalars_utf8 u_label h.0, (ascii_utf8 (codes "alabel") refl, h.1, tt)))), tt)
  said_good (Decoded unicode) h few =
      object_read_back _ ((small, (input_small (told_of line.body), (tt, tt))), tt)
      ((ascii_utf8 (codes "line") refl, tt, ((input_unicode line.body).0, (input_unicode line.body).1, (ascii_utf8 (codes "unicode") refl, h, tt))), tt)
  said_good (said.Old unicode) h few =
      object_read_back _ ((small, (input_small (told_of line.body), (tt, (tt, tt)))), tt)
      ((ascii_utf8 (codes "line") refl, tt, ((input_unicode line.body).0, (input_unicode line.body).1, (ascii_utf8 (codes "unicode") refl, h, (ascii_utf8 (codes "old") refl, tt, tt)))), tt)
  said_good (Listed None v) h few =
      object_read_back _ ((small, (tt, (tt, tt))), tt)
      ((ascii_utf8 (codes "line") refl, tt, (ascii_utf8 (codes "ulabel") refl, scalars_utf8 v h, (ascii_utf8 (codes "alabel") refl, a_label-utf8 v, tt))), tt)
  said_good (Listed (Some Allocatable) v) h few =
      object_read_back _ ((small, (tt, (tt, (tt, tt)))), tt)
      ((ascii_utf8 (codes "line") refl, tt, (ascii_utf8 (codes "ulabel") refl, scalars_utf8 v h, (ascii_utf8 (codes "alabel") refl, a_label-utf8 v, (ascii_utf8 (codes "disposition") refl, ascii_utf8 (codes "allocatable") refl, tt)))), tt)
  said_good (Listed (Some Blocked) v) h few =
      object_read_back _ ((small, (tt, (tt, (tt, tt)))), tt)
      ((ascii_utf8 (codes "line") refl, tt, (ascii_utf8 (codes "ulabel") refl, scalars_utf8 v h, (ascii_utf8 (codes "alabel") refl, a_label-utf8 v, (ascii_utf8 (codes "disposition") refl, ascii_utf8 (codes "blocked") refl, tt)))), tt)
  said_good (Listed (Some Unclear) v) h few =
      object_read_back _ ((small, (tt, (tt, (tt, (tt, tt))))), tt) (
        (
          ascii_utf8 (codes "line") refl,
          tt,
          (
            ascii_utf8 (codes "ulabel") refl,
            scalars_utf8 v h,
            (
              ascii_utf8 (codes "alabel") refl,
              a_label-utf8 v,
              (ascii_utf8 (codes "disposition") refl, ascii_utf8 (codes "blocked") refl, (ascii_utf8 (codes "unclear") refl, tt, tt)),
            ),
          ),
        ),
        tt,
      )
  said_good (BlockEnd n None) h few =
      object_read_back _ ((small, (input_small (told_of line.body), (few, (tt, tt)))), tt)
      ((ascii_utf8 (codes "line") refl, tt, ((input_unicode line.body).0, (input_unicode line.body).1, (ascii_utf8 (codes "count") refl, tt, (ascii_utf8 (codes "complete") refl, tt, tt)))), tt)
  said_good (BlockEnd n (Some b)) h few =
      object_read_back _ ((small, (input_small (told_of line.body), (few, (tt, (tt, tt))))), tt)
      ((ascii_utf8 (codes "line") refl, tt, ((input_unicode line.body).0, (input_unicode line.body).1, (ascii_utf8 (codes "count") refl, tt, (ascii_utf8 (codes "complete") refl, tt, (ascii_utf8 (codes "after") refl, scalars_utf8 b h, tt))))), tt)
  said_good (NamedEnd label n None) h few =
      object_read_back _ ((small, (input_small (told_of line.body), (few, (tt, tt)))), tt)
      ((ascii_utf8 (codes "line") refl, tt, ((input_unicode line.body).0, (input_unicode line.body).1, (ascii_utf8 (codes "count") refl, tt, (ascii_utf8 (codes "complete") refl, tt, tt)))), tt)
  said_good (NamedEnd label n (Some b)) h few =
      object_read_back _ ((small, (input_small (told_of line.body), (few, (tt, (tt, tt))))), tt)
      ((ascii_utf8 (codes "line") refl, tt, ((input_unicode line.body).0, (input_unicode line.body).1, (ascii_utf8 (codes "count") refl, tt, (ascii_utf8 (codes "complete") refl, tt, (ascii_utf8 (codes "after") refl, scalars_utf8 b h, tt))))), tt)
  said_good (Least None) h few =
      object_read_back _ ((small, (input_small (told_of line.body), (tt, tt))), tt)
      ((ascii_utf8 (codes "line") refl, tt, ((input_unicode line.body).0, (input_unicode line.body).1, (ascii_utf8 (codes "ulabel") refl, tt, tt))), tt)
  said_good (Collision regards v) h few =
      object_read_back _ ((small, (tt, (tt, (tt, (tt, tt))))), tt) (
        (
          ascii_utf8 (codes "line") refl,
          tt,
          (
            ascii_utf8 (codes "ulabel") refl,
            scalars_utf8 v h,
            (
              ascii_utf8 (codes "alabel") refl,
              a_label-utf8 v,
              (ascii_utf8 (codes "there") refl, regard-utf8 regards.there, (ascii_utf8 (codes "back") refl, regard-utf8 regards.back, tt)),
            ),
          ),
        ),
        tt,
      )
  said_good (Least (Some found)) h few =
      object_read_back _ ((small, (input_small (told_of line.body), (tt, (tt, (tt, tt))))), tt) (
        (
          ascii_utf8 (codes "line") refl,
          tt,
          (
            (input_unicode line.body).0,
            (input_unicode line.body).1,
            (
              ascii_utf8 (codes "ulabel") refl,
              scalars_utf8 found.0 h,
              (ascii_utf8 (codes "there") refl, regard-utf8 found.1.there, (ascii_utf8 (codes "back") refl, regard-utf8 found.1.back, tt)),
            ),
          ),
        ),
        tt,
      )

-- ---- one text

looked_up-texts : (name : List ℕ) (std3 : Bool) (said : List Said) → one_answer LookedUp (lookup_answer name std3) ≡ Ok said → AreScalarValues name → AllByRecursion HasTexts said
unfolding utf8_answer
looked_up-texts name std3 said is scalar = by_answer (query_name (utf8_of name) std3) refl is
  where
    whole : utf8_answer (utf8_of name) std3 ≡ query_name (utf8_of name) std3
    whole = ap (λ (b : Bool). let r : LabelAnswer = cond b (query_name (utf8_of name) std3) (Err NotUtf8) in r) (let is = scalars_utf8 name scalar in is_utf8-from_IsUtf8 (utf8_of name) is)

    by_answer : (answer : LabelAnswer) → query_name (utf8_of name) std3 ≡ answer → one_answer LookedUp answer ≡ Ok said → AllByRecursion HasTexts said
    by_answer (Ok query) e same =
        let one : LookedUp query ∷ [] ≡ said = cc in
        subst (AllByRecursion HasTexts) one (IsUtf8-from_ascii query (utf8_answer-ascii (utf8_of name) query std3 (whole ∙ e)), tt)
    by_answer (Err refusal) e same = absurd (let clash : Err refusal ≡ Ok said = same in cc)

module _ (properties : Properties) where
  registered-parts : (label a_label : List ℕ) → register_answer properties label ≡ Ok a_label → AreScalarValues (u_label_of properties label) × IsUtf8 a_label
  registered-parts label a_label is =
      let found = registered-for properties label a_label is in
      (subst AreScalarValues (sym found.1.told) (registrable_scalars properties found.0 found.1.registrable), subst IsUtf8 found.1.same (a_label-utf8 found.0))

  registered-texts : (label : List ℕ) (said : List Said) → one_answer (Registered (u_label_of properties label)) (register_answer properties label) ≡ Ok said → AllByRecursion HasTexts said
  registered-texts label said is = by_answer (register_answer properties label) refl is
    where
      by_answer : (answer : LabelAnswer) → register_answer properties label ≡ answer → one_answer (Registered (u_label_of properties label)) answer ≡ Ok said → AllByRecursion HasTexts said
      by_answer (Ok a_label) e same =
          let one : Registered (u_label_of properties label) a_label ∷ [] ≡ said = cc in
          subst (AllByRecursion HasTexts) one (registered-parts label a_label e, tt)
      by_answer (Err refusal) e same = absurd (let clash : Err refusal ≡ Ok said = same in cc)

-- ---- names that are decoded

module _ (properties : Properties) where
  decoded-texts : (name : List ℕ) (said : List Said) → AreScalarValues name → one_answer Decoded (in_utf8 (decode_answer properties name)) ≡ Ok said → AllByRecursion HasTexts said
  decoded-texts name said scalar is = by_answer (decode_answer properties name) refl is
    where
      by_answer : (answer : LabelAnswer) → decode_answer properties name ≡ answer → one_answer Decoded (in_utf8 answer) ≡ Ok said → AllByRecursion HasTexts said
      by_answer (Ok text) e same =
          subst (AllByRecursion HasTexts) (let one : Decoded (utf8_of text) ∷ [] ≡ said = cc in one) (scalars_utf8 text (decode_answer-scalars properties name text scalar e), tt)
      by_answer (Err refusal) e same = absurd (let clash : Err refusal ≡ Ok said = same in cc)

-- ---- listings

-- a list of labels that the label spells is of scalar values
spelled-scalar : (table : TableValue) (label v : List ℕ) → IsWellFormed table.entries → Contains (spelled table label) v → AreScalarValues v
spelled-scalar table label v well at = Spells-scalar table label v well.entries ((spelled-Spells table label v well).0 at)

among-scalar : (table : TableValue) (label : List ℕ) → IsWellFormed table.entries → (accepts : List ℕ → Bool) (after : List ℕ) → AllByRecursion AreScalarValues (variants_among accepts (spelled table label) after)
among-scalar table label well accepts after =
    all-members AreScalarValues (variants_among accepts (spelled table label) after)
    (λ v at. spelled-scalar table label v well (((variants-IsListed accepts (spelled table label) after).members v).0 at).spelled)

kept_all : (P : List ℕ → Type 0) (test : List ℕ → Bool) (vs : List (List ℕ)) → AllByRecursion P vs → AllByRecursion P (filter test vs)
kept_all P test [] all = tt
kept_all P test (v ∷ vs) all = by_test (test v) (kept_all P test vs all.1)
  where
    by_test : (b : Bool) → AllByRecursion P (filter test vs) → AllByRecursion P (if b then v ∷ filter test vs else filter test vs)
    by_test true rest = (all.0, rest)
    by_test false rest = rest

up_to-all : (P : List ℕ → Type 0) (stop : Option (List ℕ)) (vs : List (List ℕ)) → AllByRecursion P vs → AllByRecursion P (up_to stop vs)
up_to-all P None vs all = all
up_to-all P (Some b) vs all = kept_all P (λ v. is_le (label_cmp v b)) vs all

visited-all : (hopeless : List ℕ → Bool) (P : List ℕ → Type 0) (before : Option (List ℕ)) (vs : List (List ℕ)) → AllByRecursion P vs → AllByRecursion P (visited hopeless before vs)
visited-all hopeless P before [] all = tt
visited-all hopeless P before (v ∷ vs) all = by_test (has_no_dead_prefix hopeless v || is_new before v (shortest_hopeless hopeless v)) (visited-all hopeless P (Some v) vs all.1)
  where
    by_test : (b : Bool) → AllByRecursion P (visited hopeless (Some v) vs) → AllByRecursion P (cond b (v ∷ visited hopeless (Some v) vs) (visited hopeless (Some v) vs))
    by_test true h = (all.0, h)
    by_test false h = h

get-text : (vs : List (List ℕ)) (n : ℕ) → AllByRecursion AreScalarValues vs → IsText (slice_get vs n)
get-text [] n all = tt
get-text (v ∷ vs) zero all = all.0
get-text (v ∷ vs) (suc n) all = get-text vs n all.1

nth-text : (vs : List (List ℕ)) (n : Option ℕ) → AllByRecursion AreScalarValues vs → IsText (nth_if_given vs n)
nth-text vs None all = tt
nth-text vs (Some n) all = get-text vs (n - 1) all

lesser-text : (a b : Option (List ℕ)) → IsText a → IsText b → IsText (lesser_label a b)
lesser-text None b h k = k
lesser-text (Some a) None h k = h
lesser-text (Some a) (Some b) h k = by_test (is_le (label_cmp a b))
  where
    by_test : (less : Bool) → IsText (if less then Some a else Some b)
    by_test true = h
    by_test false = k

listed-texts : (field : List ℕ → Option Disposition) (vs : List (List ℕ)) (n : ℕ) (stop : Option (List ℕ)) → AllByRecursion AreScalarValues vs → IsText stop → AllByRecursion HasTexts (map (λ v. Listed (field v) v) vs ++ BlockEnd n stop ∷ [])
listed-texts field [] n stop all h = (h, tt)
listed-texts field (v ∷ vs) n stop all h = (all.0, listed-texts field vs n stop all.1 h)

block-texts : (o : Settings) (table : TableValue) (label : List ℕ) → IsWellFormed table.entries → AllByRecursion HasTexts (block o table label)
block-texts o table label well =
    let f : Filter = filter_of o.properties table label in
    let labels = spelled table label in
    let vs = among-scalar table label well f.accepts o.after in
    let tests = among-scalar table label well (λ v. fits_label v && has_no_dead_prefix f.hopeless v) o.after in
    let candidates = among-scalar table label well fits_label o.after in
    let stop = stop_of f o labels in
    let stops : IsText stop =
    lesser-text (nth_if_given (variants_after f o labels) o.limit) (lesser_label (nth (tested_after f o labels) o.tries) (nth_if_given (visited_in f o labels) o.steps)) (nth-text (variants_after f o labels) o.limit vs)
    (lesser-text (nth (tested_after f o labels) o.tries) (nth_if_given (visited_in f o labels) o.steps) (get-text (tested_after f o labels) (o.tries - 1) tests)
    (nth-text (visited_in f o labels) o.steps (visited-all f.hopeless AreScalarValues None (candidates_among labels o.after) candidates))) in
    listed-texts (field_of o table label) (up_to stop (variants_after f o labels)) (length (up_to stop (variants_after f o labels))) stop (up_to-all AreScalarValues stop (variants_after f o labels) vs) stops

collision-texts : (regards : List ℕ → Regards) (vs : List (List ℕ)) (n : ℕ) (stop : Option (List ℕ)) → AllByRecursion AreScalarValues vs → IsText stop → AllByRecursion HasTexts (map (collision_by regards) vs ++ BlockEnd n stop ∷ [])
collision-texts regards [] n stop all h = (h, tt)
collision-texts regards (v ∷ vs) n stop all h = (all.0, collision-texts regards vs n stop all.1 h)

registered-scalar : (properties : Properties) (labels : List (List ℕ)) → AreRegistered properties labels → AllByRecursion AreScalarValues labels
registered-scalar properties labels are = all-members AreScalarValues labels (λ v at. in_zone-scalars properties v (All-contains (IsInZone properties) labels v are.each at))

-- with `--others` the end of a block is named, or nothing is said
named-all : (P : Said → Type 0) (label : List ℕ) → ((count : ℕ) (stop : Option (List ℕ)) → P (BlockEnd count stop) → P (NamedEnd label count stop)) → (lines : List Said) → AllByRecursion P lines → AllByRecursion P (flat_map (named_end label) lines)
named-all P label renamed [] all = tt
named-all P label renamed (LookedUp ascii ∷ lines) all = (all.0, named-all P label renamed lines all.1)
named-all P label renamed (Registered u a ∷ lines) all = (all.0, named-all P label renamed lines all.1)
named-all P label renamed (Decoded unicode ∷ lines) all = (all.0, named-all P label renamed lines all.1)
named-all P label renamed (said.Old unicode ∷ lines) all = (all.0, named-all P label renamed lines all.1)
named-all P label renamed (Listed field v ∷ lines) all = (all.0, named-all P label renamed lines all.1)
named-all P label renamed (Collision regards v ∷ lines) all = (all.0, named-all P label renamed lines all.1)
named-all P label renamed (NamedEnd other count stop ∷ lines) all = (all.0, named-all P label renamed lines all.1)
named-all P label renamed (Least found ∷ lines) all = (all.0, named-all P label renamed lines all.1)
named-all P label renamed (BlockEnd count stop ∷ lines) all = by_count (count == 0) (named-all P label renamed lines all.1)
  where
    by_count : (none : Bool) → AllByRecursion P (flat_map (named_end label) lines) → AllByRecursion P ((if none then [] else NamedEnd label count stop ∷ []) ++ flat_map (named_end label) lines)
    by_count true rest = rest
    by_count false rest = (renamed count stop all.0, rest)

named_if-all : (P : Said → Type 0) (others : Bool) (label : List ℕ) → ((count : ℕ) (stop : Option (List ℕ)) → P (BlockEnd count stop) → P (NamedEnd label count stop)) → (lines : List Said) → AllByRecursion P lines → AllByRecursion P (named_if others label lines)
named_if-all P true label renamed lines all = named-all P label renamed lines all
named_if-all P false label renamed lines all = all

collision_block-texts : (o : Settings) (table : TableValue) (registered : List (List ℕ)) (label : List ℕ) → AreRegistered o.properties registered → AllByRecursion HasTexts (collision_block o table registered label)
collision_block-texts o table registered label are =
    let found = collisions_after o table registered label in
    let all = kept_all AreScalarValues (λ v. is_gt (label_cmp v o.after) && is_found o table label v) registered (registered-scalar o.properties registered are) in
    let stop = nth_if_given found o.limit in
    named_if-all HasTexts o.others label (λ count end h. h) _
    (collision-texts (regards_of (is_registrable o.properties) table label) (up_to stop found) (length (up_to stop found)) stop (up_to-all AreScalarValues stop found all) (nth-text found o.limit all))

among-texts : (o : Settings) (table : TableValue) (label : List ℕ) → IsWellFormed table.entries → (registered : Option (List (List ℕ))) → IsKeptToFew o.properties registered → AllByRecursion HasTexts (block_among registered o table label)
among-texts o table label well None kept = block-texts o table label well
among-texts o table label well (Some labels) kept = collision_block-texts o table labels label kept.0

admitted-texts : (table : TableValue) (label : List ℕ) (told said : List Said) → AllByRecursion HasTexts told → if_admitted table label told ≡ Ok said → AllByRecursion HasTexts said
admitted-texts table label told said texts is = by_tests (is_admitted table label) (is_made_of_sources table label) is
  where
    by_tests : (admitted made : Bool) → (let answer : LineAnswer = if admitted then Ok told else (if made then Err NotValid else Err NotInTable) in answer) ≡ Ok said → AllByRecursion HasTexts said
    by_tests true made same = subst (AllByRecursion HasTexts) (let one : told ≡ said = cc in one) texts
    by_tests false true same = absurd (let clash : Err NotValid ≡ Ok said = same in cc)
    by_tests false false same = absurd (let clash : Err NotInTable ≡ Ok said = same in cc)

unless-texts : (fault : Option Refusal) (answer : LineAnswer) (said : List Said) → unless_fault fault answer ≡ Ok said → answer ≡ Ok said
unless-texts None answer said is = is
unless-texts (Some refusal) answer said is = absurd (let clash : Err refusal ≡ Ok said = is in cc)

found-texts : (regards : List ℕ → Regards) (vs : List (List ℕ)) → AllByRecursion AreScalarValues vs → HasTexts (Least (option_map (λ v. (v, regards v)) (slice_get vs 0)))
found-texts regards [] all = tt
found-texts regards (v ∷ vs) all = all.0

least-text : (properties : Properties) (table : TableValue) (label text : List ℕ) → IsWellFormed table.entries → HasTexts (Least (least_near properties table label text))
least-text properties table label text well =
    let vs = candidates_among_from (near table label) text in
    found-texts (regards_of (is_registrable properties) table label) vs
    (all-members AreScalarValues vs (λ v at. AreNear-scalar table well label v ((near-AreNear table well label v).0 (((among_from-IsListOf (near table label) text).members v).0 at).0.spelled)))

zone-texts : (standing : Standing) (label : List ℕ) → AreScalarValues label → HasTexts (zone_said standing (utf8_of label))
zone-texts Registrable label scalars = scalars_utf8 label scalars
zone-texts Old label scalars = scalars_utf8 label scalars

-- ---- a line

mode-texts : (mode : Mode) (o : Settings) (table : TableValue) (points : List ℕ) (said : List Said) → IsSound table → IsKeptToFew o.properties o.registered → AreScalarValues points → mode_answer mode o table points ≡ Ok said → AllByRecursion HasTexts said
mode-texts Lookup o table points said sound kept scalar is = looked_up-texts points o.std3 said is scalar
mode-texts Register o table points said sound kept scalar is = registered-texts o.properties points said is
mode-texts Decode o table points said sound kept scalar is = decoded-texts o.properties points said scalar is
mode-texts DecodeOld o table points said sound kept scalar is = zone-said o.properties points HasTexts zone-texts said is
mode-texts Variants o table points said sound kept scalar is =
    admitted-texts table points (block_among o.registered o table points) said (among-texts o table points sound.entries o.registered kept) (unless-texts (first_fault o.properties points) (listing_answer o table points) said is)
mode-texts Jump o table points said sound kept scalar is =
    let label = requested_label points in
    let request = requested_text points in
    admitted-texts table label (Least (least_near o.properties table label request) ∷ []) said (least-text o.properties table label request sound.entries, tt)
    (unless-texts (first_fault o.properties label) (least_answer o.properties table label request) said is)
mode-texts CheckTable o table points said sound kept scalar is = subst (AllByRecursion HasTexts) (let one : [] ≡ said = cc in one) tt
mode-texts PrintTable o table points said sound kept scalar is = subst (AllByRecursion HasTexts) (let one : [] ≡ said = cc in one) tt

body-texts : (mode : Mode) (o : Settings) (table : TableValue) (body : Option (List ℕ)) (said : List Said) → IsSound table → IsKeptToFew o.properties o.registered → line_answer (mode_answer mode o table) body ≡ Ok said → AllByRecursion HasTexts said
body-texts mode o table None said sound kept is = absurd (let clash : Err LineTooLong ≡ Ok said = is in cc)
body-texts mode o table (Some bytes) said sound kept is = by_tests (is_utf8 bytes) refl (length bytes == 0) is
  where
    by_tests : (utf8 : Bool) → is_utf8 bytes ≡ utf8 → (empty : Bool) → (let answer : LineAnswer = if utf8 then (if empty then Err Empty else mode_answer mode o table (chars bytes)) else Err NotUtf8 in answer) ≡ Ok said → AllByRecursion HasTexts said
    by_tests true e true same = absurd (let clash : Err Empty ≡ Ok said = same in cc)
    by_tests true e false same = let points = utf8-of_chars bytes e in mode-texts mode o table (chars bytes) said sound kept points.scalar_values same
    by_tests false e empty same = absurd (let clash : Err NotUtf8 ≡ Ok said = same in cc)

-- ---- counts

one-few : (o : Settings) (of : List ℕ → Said) → ((t : List ℕ) → CountsFew (of t)) → (answer : LabelAnswer) (said : List Said) → one_answer of answer ≡ Ok said → AllByRecursion CountsFew said
one-few o of few (Ok t) said is = subst (AllByRecursion CountsFew) (let one : of t ∷ [] ≡ said = cc in one) (few t, tt)
one-few o of few (Err refusal) said is = absurd (let clash : Err refusal ≡ Ok said = is in cc)

listed-few : (o : Settings) (field : List ℕ → Option Disposition) (vs : List (List ℕ)) (n : ℕ) (stop : Option (List ℕ)) → n < 2 ^ 64 → AllByRecursion CountsFew (map (λ v. Listed (field v) v) vs ++ BlockEnd n stop ∷ [])
listed-few o field [] n stop few = (few, tt)
listed-few o field (v ∷ vs) n stop few = (tt, listed-few o field vs n stop few)

block-few : (o : Settings) (table : TableValue) (label : List ℕ) → IsCount o.tries → AllByRecursion CountsFew (block o table label)
block-few o table label tries =
    let f : Filter = filter_of o.properties table label in
    let labels = spelled table label in
    let stop = stop_of f o labels in
    listed-few o (field_of o table label) (up_to stop (variants_after f o labels)) (length (up_to stop (variants_after f o labels))) stop
    (omega (arith, within_tries o table label tries.0, tries.1))

collision-few : (regards : List ℕ → Regards) (vs : List (List ℕ)) (n : ℕ) (stop : Option (List ℕ)) → n < 2 ^ 64 → AllByRecursion CountsFew (map (collision_by regards) vs ++ BlockEnd n stop ∷ [])
collision-few regards [] n stop few = (few, tt)
collision-few regards (v ∷ vs) n stop few = (tt, collision-few regards vs n stop few)

among-few : (o : Settings) (table : TableValue) (label : List ℕ) → IsCount o.tries → (registered : Option (List (List ℕ))) → IsKeptToFew o.properties registered → AllByRecursion CountsFew (block_among registered o table label)
among-few o table label tries None kept = block-few o table label tries
among-few o table label tries (Some labels) kept =
    let found = collisions_after o table labels label in
    let stop = nth_if_given found o.limit in
    named_if-all CountsFew o.others label (λ count end h. h) _
    (collision-few (regards_of (is_registrable o.properties) table label) (up_to stop found) (length (up_to stop found)) stop
    (omega (arith, within_registered o table label labels, kept.1)))

admitted-few : (o : Settings) (table : TableValue) (label : List ℕ) (told said : List Said) → AllByRecursion CountsFew told → if_admitted table label told ≡ Ok said → AllByRecursion CountsFew said
admitted-few o table label told said few is = by_tests (is_admitted table label) (is_made_of_sources table label) is
  where
    by_tests : (admitted made : Bool) → (let answer : LineAnswer = if admitted then Ok told else (if made then Err NotValid else Err NotInTable) in answer) ≡ Ok said → AllByRecursion CountsFew said
    by_tests true made same = subst (AllByRecursion CountsFew) (let one : told ≡ said = cc in one) few
    by_tests false true same = absurd (let clash : Err NotValid ≡ Ok said = same in cc)
    by_tests false false same = absurd (let clash : Err NotInTable ≡ Ok said = same in cc)

zone-few : (standing : Standing) (label : List ℕ) → AreScalarValues label → CountsFew (zone_said standing (utf8_of label))
zone-few Registrable label scalars = tt
zone-few Old label scalars = tt

mode-few : (mode : Mode) (o : Settings) (table : TableValue) (points : List ℕ) (said : List Said) → IsCount o.tries → IsKeptToFew o.properties o.registered → mode_answer mode o table points ≡ Ok said → AllByRecursion CountsFew said
mode-few Lookup o table points said tries kept is = one-few o LookedUp (λ t. tt) (lookup_answer points o.std3) said is
mode-few Register o table points said tries kept is = one-few o (Registered (u_label_of o.properties points)) (λ t. tt) (register_answer o.properties points) said is
mode-few Decode o table points said tries kept is = one-few o Decoded (λ t. tt) (in_utf8 (decode_answer o.properties points)) said is
mode-few DecodeOld o table points said tries kept is = zone-said o.properties points CountsFew zone-few said is
mode-few Variants o table points said tries kept is =
    admitted-few o table points (block_among o.registered o table points) said (among-few o table points tries o.registered kept) (unless-texts (first_fault o.properties points) (listing_answer o table points) said is)
mode-few Jump o table points said tries kept is =
    let label = requested_label points in
    let request = requested_text points in
    admitted-few o table label (Least (least_near o.properties table label request) ∷ []) said (tt, tt)
    (unless-texts (first_fault o.properties label) (least_answer o.properties table label request) said is)
mode-few CheckTable o table points said tries kept is = subst (AllByRecursion CountsFew) (let one : [] ≡ said = cc in one) tt
mode-few PrintTable o table points said tries kept is = subst (AllByRecursion CountsFew) (let one : [] ≡ said = cc in one) tt

body-few : (mode : Mode) (o : Settings) (table : TableValue) (body : Option (List ℕ)) (said : List Said) → IsCount o.tries → IsKeptToFew o.properties o.registered → line_answer (mode_answer mode o table) body ≡ Ok said → AllByRecursion CountsFew said
body-few mode o table None said tries kept is = absurd (let clash : Err LineTooLong ≡ Ok said = is in cc)
body-few mode o table (Some bytes) said tries kept is = by_tests (is_utf8 bytes) (length bytes == 0) is
  where
    by_tests : (utf8 empty : Bool) → (let answer : LineAnswer = if utf8 then (if empty then Err Empty else mode_answer mode o table (chars bytes)) else Err NotUtf8 in answer) ≡ Ok said → AllByRecursion CountsFew said
    by_tests true true same = absurd (let clash : Err Empty ≡ Ok said = same in cc)
    by_tests true false same = mode-few mode o table (chars bytes) said tries kept same
    by_tests false empty same = absurd (let clash : Err NotUtf8 ≡ Ok said = same in cc)

module _ (line : Numbered) (small : line.number < 2 ^ 64) where
  all_read_back : (said : List Said) → AllByRecursion HasTexts said → AllByRecursion CountsFew said → AllByRecursion (λ s. IsReadBack (said_object line.number (told_of line.body) s)) said
  all_read_back [] h few = tt
  all_read_back (s ∷ said) h few = (said_good line small s h.0 few.0, all_read_back said h.1 few.1)

pub said_read_back : SaidIsReadBack
said_read_back mode o table line said sound tries kept small is =
    All-from_recursion (λ s. IsReadBack (said_object line.number (told_of line.body) s)) said
    (all_read_back line small said (body-texts mode o table line.body said sound kept is) (body-few mode o table line.body said tries kept is))
