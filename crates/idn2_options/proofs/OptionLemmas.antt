-- How `clap`'s definition takes one use of an option of the command.
use Rattle.std.proofs.Common.{◌≡◌, ◌∙◌, ◌&&◌, ◌||◌, ⊎_elim, ◌⊎◌, ℕ, Bool, true, false, true≢false, not, List, [], ◌∷◌, Some, cond, is_some, length, nat_lt, refl, sym, ap, subst, arith}
use Rattle.std.specs.Prelude.{find}
use Rattle.std.specs.List.{AllByRecursion}
use Rattle.std.specs.Str.{bytes_eq}
use Rattle.std.proofs.lemmas.Bool.{and_parts}
use Rattle.std.proofs.lemmas.Bool.Decides.{nat_tests}
use Rattle.std.proofs.lemmas.Slice.Eq.{bytes_eq-Decides}
use Rattle.clap.specs.Lexer.{usize_max}
use Rattle.clap.specs.Facts.{parser_of_value}
use Rattle.clap.specs.Walk.{Row, Rule, Text, arg_by_id, arg_by_index, arg_by_short, has_long, has_row, has_short, is_multiple, most_values, reading_by, takes_several, takes_values, used, values_or_missing, with_values, without}
use Rattle.clap.specs.Simple.{Shape}
use Rattle.clap.specs.Kinds.{or_else, range_kinds, value_kinds}
use Rattle.clap.specs.Faults.{repeat_fault, use_fault, values_fault}
use Rattle.clap.specs.declared.error.ErrorKind.{ErrorKind}
use Rattle.clap.specs.declared.error.ErrorKind.TheVariants as kind
use Rattle.clap.specs.declared.parser.matches.ValueSource.TheVariants.{CommandLine}
use Rattle.idn2_options.specs.Uses.{Named, by_letter, by_name, rule_of}
use Rattle.idn2_options.specs.Words.{asks_to_show}
use Rattle.idn2_options.proofs.KindLemmas.{Tells, or_else-nil}
use Rattle.idn2_options.proofs.RowLemmas.{or_false, row-replaced, row-with_values}

-- whether a use is wrong of an option that the command line has, and which has no needless value
abbrev pub as_use : Bool → Bool → Bool
as_use repeated lacking = lacking || repeated

-- a use with these values is taken, or is refused as repeated
pub record IsTaken (again : Bool) (a : Rule) (values : List Text) : Type 0 where
  pub fault : (rows : List Row) → use_fault again a values rows ≡ or_else (repeat_fault false a.id rows) []
  pub used : (rows : List Row) → used a values rows ≡ with_values a.id (reading_by a) CommandLine (values_or_missing a values) (without a.id rows)

-- a text is shown
pub record Shows (again : Bool) (a : Rule) (values : List Text) : Type 0 where
  pub kind : ErrorKind
  pub shows : asks_to_show kind ≡ true
  pub fault : (rows : List Row) → use_fault again a values rows ≡ kind ∷ []

pub record IsFlag (again : Bool) (a : Rule) : Type 0 where
  pub takes : takes_values a ≡ false
  pub acts : IsTaken again a [] ⊎ Shows again a []

pub record IsValued (again : Bool) (a : Rule) : Type 0 where
  pub takes : takes_values a ≡ true
  pub full : most_values a ≡ 1
  pub letterless : (x : ℕ) → has_short a x ≡ false
  pub taken : (value : Text) → IsTaken again a (value ∷ [])
  pub lacking : (rows : List Row) → use_fault again a [] rows ≡ kind.InvalidValue ∷ []
  pub used : (rows : List Row) → used a [] rows ≡ with_values a.id (reading_by a) CommandLine (values_or_missing a []) (without a.id rows)

-- an option of the command: other than STRINGS, and a flag, or one that takes a value
pub record IsOption (s : Shape) (strings a : Rule) : Type 0 where
  pub by_id : arg_by_id s.rules a.id ≡ Some a
  pub apart : bytes_eq a.id strings.id ≡ false
  pub other : bytes_eq strings.id a.id ≡ false
  pub either : IsFlag s.args_override_self a ⊎ IsValued s.args_override_self a

-- the command: options, and STRINGS, which take any number of words and never end the options
pub record Suits (s : Shape) : Type 0 where
  pub strings : Rule
  pub at : arg_by_index s.rules 1 ≡ Some strings
  pub by_id : arg_by_id s.rules strings.id ≡ Some strings
  pub several : takes_several strings ≡ true
  pub multiple : is_multiple strings ≡ true
  pub never_ends : strings.trailing_var_arg ≡ false
  pub range : (values : List Text) (rows : List Row) → use_fault s.args_override_self strings values rows
      ≡ or_else (range_kinds 0 usize_max (length values)) (values_fault strings (values_or_missing strings values))
  pub passes : (value : Text) → value_kinds strings.ignore_case (parser_of_value strings.parser) value ≡ []
  pub none : values_or_missing strings [] ≡ []
  pub used : (values : List Text) (rows : List Row) → used strings values rows
      ≡ with_values strings.id (reading_by strings) CommandLine (values_or_missing strings values) rows
  pub options : AllByRecursion (λ a. is_some a.index ≡ false → IsOption s strings a) s.rules

found_passes : (test : Rule → Bool) (xs : List Rule) (a : Rule) → find test xs ≡ Some a → test a ≡ true
found_passes test [] a is = absurd (cc)
found_passes test (x ∷ xs) a is = step (test x) refl is (found_passes test xs a)
  where
    step : (t : Bool) → test x ≡ t → cond t (Some x) (find test xs) ≡ Some a → (find test xs ≡ Some a → test a ≡ true) → test a ≡ true
    step true passes is later = let same : x ≡ a = cc in subst (λ (r : Rule). test r ≡ true) same passes
    step false passes is later = later is

found_all : (P : Rule → Type 0) (test : Rule → Bool) (xs : List Rule) (a : Rule) → AllByRecursion P xs → find test xs ≡ Some a → P a
found_all P test [] a all is = absurd (cc)
found_all P test (x ∷ xs) a all is = step (test x) is (found_all P test xs a all.1)
  where
    step : (t : Bool) → cond t (Some x) (find test xs) ≡ Some a → (find test xs ≡ Some a → P a) → P a
    step true is later = let same : x ≡ a = cc in subst P same all.0
    step false is later = later is

no_place : (t b : Bool) → (not t && b) ≡ true → t ≡ false
no_place true b is = absurd (true≢false (sym is))
no_place false b is = refl

pub same_bytes : (text : Text) → bytes_eq text text ≡ true
same_bytes text = (bytes_eq-Decides text text).1 refl

module _ (s : Shape) (suits : Suits s) (many : Bool) where
  abbrev again : Bool
  again = s.args_override_self

  -- what a name or a letter names is an option of the command
  pub is_option : (named : Named) (a : Rule) → rule_of s.rules named ≡ Some a → IsOption s suits.strings a
  is_option (by_name name) a is =
      found_all _ (λ r. not (is_some r.index) && has_long r name) s.rules a suits.options is
      (no_place (is_some a.index) (has_long a name) (found_passes (λ r. not (is_some r.index) && has_long r name) s.rules a is))
  is_option (by_letter x) a is =
      found_all _ (λ r. not (is_some r.index) && has_short r x) s.rules a suits.options is
      (no_place (is_some a.index) (has_short a x) (found_passes (λ r. not (is_some r.index) && has_short r x) s.rules a is))

  -- a letter names a flag
  pub letter_flag : (x : ℕ) (a : Rule) → arg_by_short s.rules x ≡ Some a → IsFlag again a
  letter_flag x a is = ⊎_elim (λ flag. flag)
      (λ valued. absurd (true≢false (sym (and_parts (not (is_some a.index)) (has_short a x)
      (found_passes (λ r. not (is_some r.index) && has_short r x) s.rules a is)).1 ∙ valued.letterless x))) (is_option (by_letter x) a is).either

  repeats : (b : Bool) → Tells many (as_use b false) (or_else (cond (b && true) (kind.ArgumentConflict ∷ []) []) [])
  repeats true = refl
  repeats false = refl

  pub tells-taken : (a : Rule) (values : List Text) (rows : List Row) → IsTaken again a values → Tells many (as_use (has_row a.id rows) false) (use_fault again a values rows)
  tells-taken a values rows taken = subst (Tells many (as_use (has_row a.id rows) false)) (sym (taken.fault rows)) (repeats (has_row a.id rows))

  pub tells-lacking : (a : Rule) (rows : List Row) (b : Bool) → IsValued again a → Tells many (as_use b true) (use_fault again a [] rows)
  tells-lacking a rows b valued = subst (Tells many (as_use b true)) (sym (valued.lacking rows)) refl

  pub row-taken : (a : Rule) (values : List Text) (rows : List Row) (id : Text) → IsTaken again a values → has_row id (used a values rows) ≡ has_row id rows || bytes_eq a.id id
  row-taken a values rows id taken = ap (has_row id) (taken.used rows) ∙ row-replaced id a.id (reading_by a) CommandLine (values_or_missing a values) rows

  pub row-lacking : (a : Rule) (rows : List Row) (id : Text) → IsValued again a → has_row id (used a [] rows) ≡ has_row id rows || bytes_eq a.id id
  row-lacking a rows id valued = ap (has_row id) (valued.used rows) ∙ row-replaced id a.id (reading_by a) CommandLine (values_or_missing a []) rows

  pub row-strings : (values : List Text) (rows : List Row) (id : Text) → bytes_eq suits.strings.id id ≡ false → has_row id (used suits.strings values rows) ≡ has_row id rows
  row-strings values rows id apart =
      ap (has_row id) (suits.used values rows)
      ∙ (row-with_values id suits.strings.id (reading_by suits.strings) CommandLine (values_or_missing suits.strings values) rows
      ∙ (ap (λ b. has_row id rows || b) apart ∙ or_false (has_row id rows)))

  -- ---- STRINGS

  all_pass : (values : List Text) → values_fault suits.strings values ≡ []
  all_pass [] = refl
  all_pass (v ∷ vs) = ap (λ kinds. or_else kinds (values_fault suits.strings vs)) (suits.passes v) ∙ all_pass vs

  no_values : (values : List Text) → values_fault suits.strings (values_or_missing suits.strings values) ≡ []
  no_values [] = ap (values_fault suits.strings) suits.none
  no_values (v ∷ vs) = all_pass (v ∷ vs)

  never_less : (n : ℕ) → nat_lt n 0 ≡ false
  never_less n = grind (arith, nat_tests)

  counts : (n m : Bool) → n ≡ false → (m ≡ true → many ≡ true) → Tells many false (cond n (kind.TooFewValues ∷ []) (cond m (kind.TooManyValues ∷ []) []))
  counts true m fewer more = absurd (true≢false fewer)
  counts false true fewer more = ap (λ b. b || false) (more refl)
  counts false false fewer more = refl

  pub tells-strings : (values : List Text) (rows : List Row) → (nat_lt usize_max (length values) ≡ true → many ≡ true)
      → Tells many false (use_fault again suits.strings values rows)
  tells-strings values rows more =
      subst (Tells many false) (sym (suits.range values rows ∙ (ap (or_else (range_kinds 0 usize_max (length values))) (no_values values)
      ∙ or_else-nil (range_kinds 0 usize_max (length values)))))
      (counts (nat_lt (length values) 0) (nat_lt usize_max (length values)) (never_less (length values)) more)
