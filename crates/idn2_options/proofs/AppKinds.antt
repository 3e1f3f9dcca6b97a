-- What `clap`'s definition of the command names as wrong: one kind of error at most, where an option is used in a wrong way or a text is to
-- be shown; and where a use is wrong, some kind.
use Rattle.std.proofs.Common.{◌≡◌, ◌∙◌, ◌++◌, ◌&&◌, ◌||◌, not, inl, inr, ℕ, Bool, true, false, true≢false, List, [], ◌∷◌, Option, Some, None, cond, is_some, length, drop, map, nat_lt, refl, sym, ap, subst, arith}
use Rattle.std.specs.Prelude.{IsUtf8, String, option_map, string_bytes}
use Rattle.std.specs.List.{AllByRecursion, before_first, list_all, list_any}
use Rattle.std.specs.Option.{option_map_or, option_or}
use Rattle.std.specs.Str.{bytes_eq}
use Rattle.std.proofs.lemmas.Bool.{and_parts}
use Rattle.std.proofs.lemmas.List.Folds.{list_any-append}
use Rattle.std.proofs.lemmas.Str.{IsUtf8-string_bytes}
use Rattle.clap.specs.Lexer.{usize_max}
use Rattle.clap.specs.Walk.{Row, Rule, Text, arg_by_id, finished, has_row, has_short, is_empty, most_values, nothing_held, reading_by, settled, takes_values, used, values_or_missing, walk, walk_from, with_default, with_values, without}
use Rattle.clap.specs.Simple.{Shape, built, filled, with_index}
use Rattle.clap.specs.Kinds.{Kinds, or_else}
use Rattle.clap.specs.Faults.{check_fault, defaults_fault, fault_of, given_default_fault, level_fault, repeat_fault, settle_fault, use_fault, walk_fault}
use Rattle.clap.specs.declared.error.ErrorKind.{ErrorKind}
use Rattle.clap.specs.declared.error.ErrorKind.TheVariants.{DisplayHelp, DisplayVersion, InvalidValue}
use Rattle.clap.specs.declared.parser.matches.ValueSource.TheVariants.{CommandLine}
use Rattle.clap.proofs.FaultLemmas.{leaf_fault}
use Rattle.idn2_options.specs.CommandLine.{app, strings_rule}
use Rattle.idn2_options.specs.Names.{strings_name}
use Rattle.idn2_options.specs.Uses.{Use, are_of_one, begins_unknown, ends_options, first_misused, first_wrong, has_needless_value, is_unknown, lacks_value, rule_of, uses_in}
use Rattle.idn2_options.specs.Words.{asks_to_show}
use Rattle.idn2_options.specs.declared.command_line.misuse.Misuse.{Misuse}
use Rattle.idn2_options.specs.declared.command_line.misuse.Misuse.TheVariants.{Unknown, WithoutValue, Repeated, WithValue}
use Rattle.idn2_options.proofs.KindLemmas.{Tells, or_else-nil, tells-as}
use Rattle.idn2_options.proofs.OptionLemmas.{IsOption, Suits}
use Rattle.idn2_options.proofs.RowLemmas.{or_false}
use Rattle.idn2_options.proofs.WalkKinds.{also, any_wrong, tells-words}

-- ---- after the words

is_nil : Kinds → Bool
is_nil [] = true
is_nil (k ∷ ks) = false

-- a default is nothing to refuse
abbrev passes_default : Rule → Bool
passes_default a = is_empty a.defaults || is_nil (given_default_fault a a.defaults)

nothing_refused : (kinds : Kinds) (has none : Bool) → (none || is_nil kinds) ≡ true → cond (has || none) [] kinds ≡ []
unfolding is_nil
nothing_refused kinds true none passes = refl
nothing_refused kinds false true passes = refl
nothing_refused [] false false passes = refl
nothing_refused (k ∷ ks) false false passes = absurd (true≢false (sym passes))

defaults_pass : (rows : List Row) (rules : List Rule) → list_all passes_default rules ≡ true → defaults_fault rows rules ≡ []
unfolding defaults_fault
defaults_pass rows [] all = refl
defaults_pass rows (a ∷ rest) all =
    let parts = and_parts (passes_default a) (list_all passes_default rest) all in
    ap (λ (kinds : Kinds). or_else kinds (defaults_fault (with_default rows a) rest))
    (nothing_refused (given_default_fault a a.defaults) (has_row a.id rows) (is_empty a.defaults) parts.0)
    ∙ defaults_pass (with_default rows a) rest parts.1

-- ---- the command

abbrev top : Shape
top = (built app).top

abbrev strings : Rule
strings = with_index 1 (filled (strings_rule strings_name))

defaults-app : list_all passes_default top.rules ≡ true
unfolding app is_nil
defaults-app = refl

check-app : (rows : List Row) → check_fault top rows false ≡ []
unfolding app
check-app rows = refl

abbrev again : Bool
again = top.args_override_self

flag : {a : Rule} → arg_by_id top.rules a.id ≡ Some a → bytes_eq a.id strings.id ≡ false → bytes_eq strings.id a.id ≡ false → takes_values a ≡ false
    → ((rows : List Row) → use_fault again a [] rows ≡ or_else (repeat_fault false a.id rows) [])
    → ((rows : List Row) → used a [] rows ≡ with_values a.id (reading_by a) CommandLine (values_or_missing a []) (without a.id rows)) → IsOption top strings a
flag by_id apart other takes fault used =
    record { by_id = by_id; apart = apart; other = other; either = inl (record { takes = takes; acts = inl (record { fault = fault; used = used }) }) }

shows : {a : Rule} (kind : ErrorKind) → arg_by_id top.rules a.id ≡ Some a → bytes_eq a.id strings.id ≡ false → bytes_eq strings.id a.id ≡ false → takes_values a ≡ false
    → asks_to_show kind ≡ true → ((rows : List Row) → use_fault again a [] rows ≡ kind ∷ []) → IsOption top strings a
shows kind by_id apart other takes asks fault = record {
  by_id = by_id;
  apart = apart;
  other = other;
  either = inl (record { takes = takes; acts = inr (record { kind = kind; shows = asks; fault = fault }) });
}

valued : {a : Rule} → arg_by_id top.rules a.id ≡ Some a → bytes_eq a.id strings.id ≡ false → bytes_eq strings.id a.id ≡ false → takes_values a ≡ true → most_values a ≡ 1
    → ((x : ℕ) → has_short a x ≡ false) → ((value : Text) (rows : List Row) → use_fault again a (value ∷ []) rows ≡ or_else (repeat_fault false a.id rows) [])
    → ((value : Text) (rows : List Row) → used a (value ∷ []) rows ≡ with_values a.id (reading_by a) CommandLine (value ∷ []) (without a.id rows))
    → ((rows : List Row) → use_fault again a [] rows ≡ InvalidValue ∷ [])
    → ((rows : List Row) → used a [] rows ≡ with_values a.id (reading_by a) CommandLine (values_or_missing a []) (without a.id rows)) → IsOption top strings a
valued by_id apart other takes full letterless fault used lacking used_alone = record {
  by_id = by_id;
  apart = apart;
  other = other;
  either = inr (record {
    takes = takes;
    full = full;
    letterless = letterless;
    taken = λ value. record { fault = fault value; used = used value };
    lacking = lacking;
    used = used_alone;
  });
}

suits-app : Suits top
unfolding app
suits-app = record {
  strings = strings;
  at = refl;
  by_id = refl;
  several = refl;
  multiple = refl;
  never_ends = refl;
  range = λ values rows. refl;
  passes = λ value. refl;
  none = refl;
  used = λ values rows. refl;
  options = (
    λ _. flag refl refl refl refl (λ _. refl) (λ _. refl),
    (
      λ _. flag refl refl refl refl (λ _. refl) (λ _. refl),
      (
        λ _. flag refl refl refl refl (λ _. refl) (λ _. refl),
        (
          λ _. valued refl refl refl refl refl (λ _. refl) (λ _ _. refl) (λ _ _. refl) (λ _. refl) (λ _. refl),
          (
            λ _. valued refl refl refl refl refl (λ _. refl) (λ _ _. refl) (λ _ _. refl) (λ _. refl) (λ _. refl),
            (
              λ _. valued refl refl refl refl refl (λ _. refl) (λ _ _. refl) (λ _ _. refl) (λ _. refl) (λ _. refl),
              (
                λ _. valued refl refl refl refl refl (λ _. refl) (λ _ _. refl) (λ _ _. refl) (λ _. refl) (λ _. refl),
                (
                  λ _. valued refl refl refl refl refl (λ _. refl) (λ _ _. refl) (λ _ _. refl) (λ _. refl) (λ _. refl),
                  (
                    λ _. valued refl refl refl refl refl (λ _. refl) (λ _ _. refl) (λ _ _. refl) (λ _. refl) (λ _. refl),
                    (
                      λ _. flag refl refl refl refl (λ _. refl) (λ _. refl),
                      (
                        λ _. flag refl refl refl refl (λ _. refl) (λ _. refl),
                        (
                          λ _. flag refl refl refl refl (λ _. refl) (λ _. refl),
                          (
                            λ _. flag refl refl refl refl (λ _. refl) (λ _. refl),
                            (
                              λ _. flag refl refl refl refl (λ _. refl) (λ _. refl),
                              (
                                λ _. flag refl refl refl refl (λ _. refl) (λ _. refl),
                                (
                                  λ _. flag refl refl refl refl (λ _. refl) (λ _. refl),
                                  (
                                    λ _. flag refl refl refl refl (λ _. refl) (λ _. refl),
                                    (
                                      λ _. flag refl refl refl refl (λ _. refl) (λ _. refl),
                                      (
                                        λ _. valued refl refl refl refl refl (λ _. refl) (λ _ _. refl) (λ _ _. refl) (λ _. refl) (λ _. refl),
                                        (
                                          λ _. valued refl refl refl refl refl (λ _. refl) (λ _ _. refl) (λ _ _. refl) (λ _. refl) (λ _. refl),
                                          (
                                            λ _. valued refl refl refl refl refl (λ _. refl) (λ _ _. refl) (λ _ _. refl) (λ _. refl) (λ _. refl),
                                            (
                                              λ _. valued refl refl refl refl refl (λ _. refl) (λ _ _. refl) (λ _ _. refl) (λ _. refl) (λ _. refl),
                                              (
                                                λ none. absurd (true≢false none),
                                                (
                                                  λ _. shows DisplayHelp refl refl refl refl refl (λ _. refl),
                                                  (
                                                    λ _. shows DisplayVersion refl refl refl refl refl (λ _. refl),
                                                    tt,
                                                  ),
                                                ),
                                              ),
                                            ),
                                          ),
                                        ),
                                      ),
                                    ),
                                  ),
                                ),
                              ),
                            ),
                          ),
                        ),
                      ),
                    ),
                  ),
                ),
              ),
            ),
          ),
        ),
      ),
    ),
  );
}

-- ---- the first use that is wrong

-- whether one of these uses is of the option
abbrev used_by : List Rule → List Use → Text → Bool
used_by c before id = list_any (λ (other : Use). option_map_or (λ a. bytes_eq a.id id) (rule_of c other.option) false) before

pub nowhere : (before : List Use) → list_any (λ (other : Use). false) before ≡ false
nowhere [] = refl
nowhere (x ∷ xs) = nowhere xs

repeated : (c : List Rule) (seen : Text → Bool) (before : List Use) → ((id : Text) → seen id ≡ used_by c before id) → (found : Option Rule)
    → option_map_or (λ a. seen a.id) found false
    ≡ list_any (λ (other : Use). option_map_or (λ rule. option_map_or (λ a. bytes_eq a.id rule.id) (rule_of c other.option) false) found false) before
repeated c seen before same None = sym (nowhere before)
repeated c seen before same (Some a) = same a.id

begins-wrong : (c : List Rule) (seen : Text → Bool) (uses : List Use) → begins_unknown c uses ≡ true → any_wrong c seen uses ≡ true
begins-wrong c seen [] is = absurd (true≢false (sym is))
begins-wrong c seen (this ∷ rest) is = starts (is_unknown c this) _ _ is
  where
    starts : (u w r : Bool) → u ≡ true → (u || w) || r ≡ true
    starts true w r is = refl
    starts false w r is = absurd (true≢false (sym is))

-- an option that the command line hasn't, a needless value, no value, an option that the command line hasn't after it, and a second use
found_step : (u n l b r rest : Bool) (this : Use) (later : Option (Misuse × Use)) → rest ≡ is_some later → (b ≡ true → rest ≡ true)
    → (u || (n || (l || r))) || rest
    ≡ is_some (option_or (option_map (λ misuse. (misuse, this))
    (cond u (Some Unknown) (cond n (Some WithValue) (cond (l && not b) (Some WithoutValue) (cond r (Some Repeated) None))))) later)
found_step true n l b r rest this later is begins = refl
found_step false true l b r rest this later is begins = refl
found_step false false true true true rest this later is begins = refl
found_step false false true true false rest this later is begins = sym (begins refl) ∙ is
found_step false false true false r rest this later is begins = refl
found_step false false false b true rest this later is begins = refl
found_step false false false b false rest this later is begins = is

one_more_use : (c : List Rule) (before : List Use) (this : Use) (id : Text)
    → used_by c before id || option_map_or (λ a. bytes_eq a.id id) (rule_of c this.option) false ≡ used_by c (before ++ this ∷ []) id
one_more_use c before this id =
    ap (λ b. used_by c before id || b) (sym (or_false (option_map_or (λ a. bytes_eq a.id id) (rule_of c this.option) false)))
    ∙ sym (list_any-append (λ (other : Use). option_map_or (λ a. bytes_eq a.id id) (rule_of c other.option) false) before (this ∷ []))

first-any : (c : List Rule) (seen : Text → Bool) (before uses : List Use) → ((id : Text) → seen id ≡ used_by c before id)
    → any_wrong c seen uses ≡ is_some (first_wrong c before uses)
first-any c seen before [] same = refl
first-any c seen before (this ∷ rest) same =
    ap (λ r. (is_unknown c this || (has_needless_value c this || (lacks_value c this || r))) || any_wrong c (also c seen this) rest)
    (repeated c seen before same (rule_of c this.option))
    ∙ found_step (is_unknown c this) (has_needless_value c this) (lacks_value c this) (begins_unknown c rest) (list_any (are_of_one c this) before)
    (any_wrong c (also c seen this) rest) this (first_wrong c (before ++ this ∷ []) rest)
    (first-any c (also c seen this) (before ++ this ∷ []) rest
    (λ id. ap (λ b. b || option_map_or (λ a. bytes_eq a.id id) (rule_of c this.option) false) (same id) ∙ one_more_use c before this id))
    (begins-wrong c (also c seen this) rest)

-- ---- what is named

texts_after_name : (words : List Text) → AllByRecursion IsUtf8 words → AllByRecursion IsUtf8 (drop 1 words)
texts_after_name [] texts = texts
texts_after_name (word ∷ words) texts = texts.1

-- there are more words than `clap` counts
abbrev pub too_many : List Text → Bool
too_many words = nat_lt usize_max (length (drop 1 words))

level-app : (words : List Text) → level_fault top [] nothing_held words false []
    ≡ or_else (walk_fault top [] (walk_from nothing_held) words) (settle_fault top.rules top.args_override_self (walk top.rules [] nothing_held words).held)
level-app words =
    let end = (walk top.rules [] nothing_held words).held in
    let settling = settle_fault top.rules top.args_override_self end in
    ap (or_else (walk_fault top [] (walk_from nothing_held) words))
    (ap (λ (kinds : Kinds). or_else settling (or_else kinds (check_fault top (finished top.rules end) false))) (defaults_pass (settled top.rules end).rows top.rules defaults-app)
    ∙ (ap (or_else settling) (check-app (finished top.rules end)) ∙ or_else-nil settling))

argument-words : (words : List Text) → fault_of app words ≡ level_fault top [] nothing_held (drop 1 words) false []
unfolding app
argument-words words = leaf_fault (built app) nothing_held (drop 1 words) refl

pub tells-app : (words : List Text) → AllByRecursion IsUtf8 words → Tells (too_many words) (is_some (first_misused words)) (fault_of app words)
tells-app words texts =
    let after = drop 1 words in
    let uses = uses_in (before_first ends_options after) in
    subst (Tells (too_many words) (is_some (first_misused words))) (sym (argument-words words ∙ level-app after))
    (tells-as (too_many words) (any_wrong top.rules (λ id. false) uses) (is_some (first_misused words))
    (or_else (walk_fault top [] (walk_from nothing_held) after) (settle_fault top.rules top.args_override_self (walk top.rules [] nothing_held after).held))
    (first-any top.rules (λ id. false) [] uses (λ id. refl))
    (tells-words top suits-app (length after) after (texts_after_name words texts) (omega arith)))

-- the words of a program are texts
pub texts : {Z : Type 0} (strings : List (String Z)) → AllByRecursion IsUtf8 (map string_bytes strings)
texts [] = tt
texts (s ∷ ss) = (IsUtf8-string_bytes s, texts ss)
