-- There is a cause exactly of words that are refused.
use Rattle.std.proofs.Common.{◌≡◌, ◌≢◌, ◌<◌, ◌^◌, ℕ, Bool, true, false, true≢false, ◌&&◌, ◌||◌, not, List, [], ◌∷◌, Option, Some, None, cond, drop, inl, inr, is_some, length, map, ap, sym, subst, refl, arith, ◌∙◌}
use Rattle.std.specs.Prelude.{IsUtf8, String, option_map, string_bytes}
use Rattle.std.specs.List.{AllByRecursion}
use Rattle.std.specs.Option.{is_none}
use Rattle.std.proofs.lemmas.Bool.Decides.{nat_tests}
use Rattle.std.proofs.lemmas.List.{length-map}
use Rattle.clap.specs.Kinds.{IsAmong, Kinds}
use Rattle.clap.specs.Words.{Row, Text, fault_of, matches_of}
use Rattle.clap.specs.declared.error.ErrorKind.{ErrorKind}
use Rattle.idn2_options.specs.Causes.{broken_rule, cause_by, cause_of, misfit_of, misfit_of_among, misuse_told, rule, told_by, wrong_number}
use Rattle.idn2_options.specs.CommandLine.{app}
use Rattle.idn2_options.specs.Settings.{Settings}
use Rattle.idn2_options.specs.Uses.{first_misused, front, uses_in, uses_of}
use Rattle.idn2_options.specs.Words.{answer_of, asks_to_show, bad, checks_alone, chosen, decodes_old, has_among, has_counts, has_short_start, is_allowed, is_refused, jumps_by_table, listing_options_fit, names_one_mode, options_of, prints_alone, prints_plainly, settings_of, shown, suits_among}
use Rattle.idn2_options.specs.declared.command_line.broken_rule.BrokenRule.{BrokenRule}
use Rattle.idn2_options.specs.declared.command_line.broken_rule.BrokenRule.TheVariants as rules
use Rattle.idn2_options.specs.declared.command_line.usage_cause.UsageCause.{UsageCause}
use Rattle.idn2_options.proofs.AppKinds.{tells-app, too_many}
use Rattle.idn2_options.proofs.KindLemmas.{Tells}

none_broken : (a b c d e f g h i j k : Bool) (p q r s t u v w x y z : BrokenRule) →
    is_none (cond (not a) (Some p) (cond (not b) (Some q) (cond (not c) (Some r) (cond (not d) (Some s) (cond (not e) (Some t) (cond (not f) (Some u)
    (cond (not g) (Some v) (cond (not h) (Some w) (cond (not i) (Some x) (cond (not j) (Some y) (cond (not k) (Some z) None)))))))))))
    ≡ (a && b && c && d && e && f && g && h && i && j && k)
none_broken false b c d e f g h i j k p q r s t u v w x y z = refl
none_broken true false c d e f g h i j k p q r s t u v w x y z = refl
none_broken true true false d e f g h i j k p q r s t u v w x y z = refl
none_broken true true true false e f g h i j k p q r s t u v w x y z = refl
none_broken true true true true false f g h i j k p q r s t u v w x y z = refl
none_broken true true true true true false g h i j k p q r s t u v w x y z = refl
none_broken true true true true true true false h i j k p q r s t u v w x y z = refl
none_broken true true true true true true true false i j k p q r s t u v w x y z = refl
none_broken true true true true true true true true false j k p q r s t u v w x y z = refl
none_broken true true true true true true true true true false k p q r s t u v w x y z = refl
none_broken true true true true true true true true true true false p q r s t u v w x y z = refl
none_broken true true true true true true true true true true true p q r s t u v w x y z = refl

ruled : (rows : List Row) → is_none (broken_rule rows) ≡ is_allowed rows
ruled rows =
    none_broken (names_one_mode rows) (listing_options_fit rows) (jumps_by_table rows) (decodes_old rows) (has_among rows) (suits_among rows) (has_counts rows)
    (has_short_start rows) (checks_alone rows) (prints_alone rows) (prints_plainly rows) rules.TwoModes (misfit_of rows) rules.JumpWithoutTable rules.OldWithoutDecode rules.OthersWithoutAmong
    (misfit_of_among rows) (wrong_number rows) rules.LongStart rules.CheckedStrings rules.PrintedStrings rules.PrintedObjects

-- ---- a cause

by_rule : (rows : List Row) (broken : Option BrokenRule) (allowed : Bool) → is_none broken ≡ allowed
    → is_some (option_map rule broken) ≡ is_refused (cond allowed (chosen (settings_of rows)) bad)
by_rule rows None true is = refl
by_rule rows None false is = absurd (true≢false is)
by_rule rows (Some broken) true is = absurd (true≢false (sym is))
by_rule rows (Some broken) false is = refl

has_some : {X Y : Type 0} (f : X → Y) (o : Option X) → is_some (option_map f o) ≡ is_some o
has_some f None = refl
has_some f (Some x) = refl

-- what neither shows a text nor has too many words has a wrong use
without : (wrong many shows : Bool) → wrong || (many || shows) ≡ true → many ≡ false → shows ≡ false → wrong ≡ true
without true many shows is few none = refl
without false true shows is few none = sym few
without false false shows is few none = sym none ∙ is

by_kind : (words : List Text) (shows : Bool) → too_many words ≡ false → is_some (first_misused words) || (too_many words || shows) ≡ true
    → is_some (cond shows None (misuse_told (uses_of words))) ≡ is_refused (cond shows shown bad)
by_kind words true few tells = refl
by_kind words false few tells = has_some _ (first_misused words) ∙ without (is_some (first_misused words)) (too_many words) false tells few refl

by_kinds : (words : List Text) (kinds : Kinds) → too_many words ≡ false → Tells (too_many words) (is_some (first_misused words)) kinds
    → is_some (cause_by kinds words) ≡ is_refused (answer_of kinds (matches_of app words))
by_kinds words [] few tells = by_rule (matches_of app words) (broken_rule (matches_of app words)) (is_allowed (matches_of app words)) (ruled (matches_of app words))
by_kinds words (k ∷ []) few tells = by_kind words (asks_to_show k) few tells
by_kinds words (k ∷ (l ∷ ks)) few tells = absurd tells

few_left : (words : List Text) → length (drop 1 words) < 2 ^ 64 → too_many words ≡ false
few_left words few = grind (arith, nat_tests)

few_words : (words : List Text) → length words < 2 ^ 64 → too_many words ≡ false
few_words [] few = refl
few_words (word ∷ words) few = few_left (word ∷ words) (omega (arith, few))

-- ---- what `usage_cause` tells

pub cause-refused_left : (words : List Text) → AllByRecursion IsUtf8 words → length (drop 1 words) < 2 ^ 64 → is_some (cause_of words) ≡ is_refused (options_of words)
unfolding options_of
cause-refused_left words texts few = by_kinds words (fault_of app words) (few_left words few) (tells-app words texts)

pub cause-Ok : (words : List Text) (broken : Option BrokenRule) (rows : List Row) → fault_of app words ≡ [] → rows ≡ matches_of app words → broken ≡ broken_rule rows
    → option_map rule broken ≡ cause_of words
cause-Ok words broken rows none same is =
    ap (option_map rule) (is ∙ ap broken_rule same) ∙ sym (ap (λ (kinds : Kinds). cause_by kinds words) none)

pub cause-Err : (words : List Text) (kind : ErrorKind) (front_words : List Text) → fault_of app words ≡ kind ∷ [] → front_words ≡ front words
    → cond (asks_to_show kind) None (misuse_told (uses_in front_words)) ≡ cause_of words
cause-Err words kind front_words is same =
    ap (λ ws. cond (asks_to_show kind) None (misuse_told (uses_in ws))) same ∙ sym (ap (λ (kinds : Kinds). cause_by kinds words) is)

-- the words of a program, as texts, are as many
pub few-texts : {Z : Type 0} (words : List (String Z)) → length (drop 1 words) < 2 ^ 64 → length (drop 1 (map string_bytes words)) < 2 ^ 64
few-texts [] few = few
few-texts (word ∷ words) few = subst (λ (n : ℕ). n < 2 ^ 64) (sym (length-map words string_bytes)) few

-- a cause that is told as defined is told exactly of words that are refused
pub told-refused : (words : List Text) (cause : Option UsageCause) → AllByRecursion IsUtf8 words → length (drop 1 words) < 2 ^ 64
    → option_map told_by cause ≡ cause_of words → is_some cause ≡ is_refused (options_of words)
told-refused words cause texts few is = sym (has_some told_by cause) ∙ (ap is_some is ∙ cause-refused_left words texts few)

-- what `clap` reads of the words is refused exactly where a rule is broken
pub rule-refused : (words : List Text) (rows : List Row) (broken : Option BrokenRule) → fault_of app words ≡ [] → rows ≡ matches_of app words → broken ≡ broken_rule rows
    → is_some broken ≡ is_refused (options_of words)
unfolding options_of
rule-refused words rows broken none same is =
    sym (has_some rule broken)
    ∙ (by_rule rows broken (is_allowed rows) (ap is_none is ∙ ruled rows)
    ∙ (ap (λ (r : List Row). is_refused (answer_of [] r)) same ∙ sym (ap (λ (kinds : Kinds). is_refused (answer_of kinds (matches_of app words))) none)))

-- ---- the laws

pub cause-refused : (words : List Text) → AllByRecursion IsUtf8 words → length words < 2 ^ 64 → is_some (cause_of words) ≡ is_refused (options_of words)
unfolding options_of
cause-refused words texts few = by_kinds words (fault_of app words) (few_words words few) (tells-app words texts)

never_chosen : (many wrong : Bool) (kinds : Kinds) (rows : List Row) (settings : Settings) → Tells many wrong kinds → wrong ≡ true
    → answer_of kinds rows ≢ chosen settings
never_chosen many wrong [] rows settings tells is = absurd (true≢false (sym is ∙ tells))
never_chosen many wrong (k ∷ ks) rows settings tells is = shows_or_refuses (asks_to_show k) settings
  where
    shows_or_refuses : (test : Bool) (settings : Settings) → cond test shown bad ≢ chosen settings
    shows_or_refuses true settings same = cc
    shows_or_refuses false settings same = cc

some_from : {X : Type 0} (o : Option X) → o ≢ None → is_some o ≡ true
some_from None is = absurd (is refl)
some_from (Some x) is = refl

pub misuse-refused : (words : List Text) (settings : Settings) → AllByRecursion IsUtf8 words → first_misused words ≢ None → options_of words ≢ chosen settings
unfolding options_of
misuse-refused words settings texts wrong =
    never_chosen (too_many words) (is_some (first_misused words)) (fault_of app words) (matches_of app words) settings (tells-app words texts)
    (some_from (first_misused words) wrong)

used-kinds : (many wrong : Bool) (kinds : Kinds) (kind : ErrorKind) → Tells many wrong kinds → IsAmong kind kinds → many ≡ false → asks_to_show kind ≡ false
    → wrong ≡ true
used-kinds many wrong [] kind tells is_among few none = absurd is_among
used-kinds many wrong (k ∷ []) kind tells is_among few none = elim is_among [
  | inl same ↦ without wrong many (asks_to_show k) tells few (ap asks_to_show (sym same) ∙ none)
  | inr nowhere ↦ absurd nowhere
]
used-kinds many wrong (k ∷ (l ∷ ks)) kind tells is_among few none = absurd tells

pub misuse-used : (words : List Text) (kind : ErrorKind) → AllByRecursion IsUtf8 words → length words < 2 ^ 64 → IsAmong kind (fault_of app words)
    → asks_to_show kind ≡ false → first_misused words ≢ None
misuse-used words kind texts few is_among no_text none =
    let some : is_some (first_misused words) ≡ true = used-kinds (too_many words) (is_some (first_misused words)) (fault_of app words) kind
    (tells-app words texts) is_among (few_words words few) no_text in
    absurd (true≢false (sym some ∙ ap is_some none))
