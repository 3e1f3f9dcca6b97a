-- The mode that the words name.
use Rattle.std.proofs.Common.{◌≡◌, ◌≢◌, ◌&&◌, ℕ, Bool, List, true, false, cond, not, ap, refl, sym, ◌∙◌, arith}
use Rattle.std.proofs.lemmas.Bool.{false_from_ne_true}
use Rattle.clap.specs.Words.{Row}
use Rattle.idn2_options.specs.Laws.{is_named}
use Rattle.idn2_options.specs.Words.{has_flag, is_allowed, lists, mode_of}
use Rattle.idn2_options.specs.Names.{decode_name, jump_name, old_name}
use Rattle.idn2_options.specs.declared.command_line.mode.Mode.{Mode}
use Rattle.idn2_options.specs.declared.command_line.mode.Mode.TheVariants.{Lookup, Register, Decode, DecodeOld, Variants, Jump, CheckTable, PrintTable}
use Rattle.idn2_options.proofs.SuitLemmas.{IsOne, mode_by, no_weight, rules, second-test, variants-alone, check-alone, print-alone}

lookup-alone : (l r d o v j k p : Bool) → IsOne l r d v k p → l ≡ true → mode_by r d o v j k p ≡ Lookup
lookup-alone l r d o v j k p one is =
    let weight : cond {A = ℕ} l 1 0 ≡ 1 = rw is refl in
    rw (no_weight r (omega arith), no_weight d (omega arith), no_weight v (omega arith), no_weight k (omega arith), no_weight p (omega arith)) refl

decode-alone : (l r d o v j k p : Bool) → IsOne l r d v k p → d ≡ true → mode_by r d o v j k p ≡ cond o DecodeOld Decode
decode-alone l r d o v j k p one is =
    let weight : cond {A = ℕ} d 1 0 ≡ 1 = rw is refl in
    rw (no_weight r (omega arith), is) refl

-- a test that holds in a pair, and the other
first_of_two : (a b : Bool) → (a && not b) ≡ true → (a ≡ true) × (b ≡ false)
first_of_two true true both = absurd (let bad : false ≡ true = both in cc)
first_of_two true false both = (refl, refl)
first_of_two false b both = absurd (let bad : false ≡ true = both in cc)

pub mode_of-named : (rows : List Row) (mode : Mode) → is_allowed rows ≡ true → is_named mode rows ≡ true → mode_of rows ≡ mode
mode_of-named rows Lookup allowed is = lookup-alone _ _ _ _ _ _ _ _ (rules rows allowed).one is
mode_of-named rows Register allowed is = rw is refl
mode_of-named rows Decode allowed is =
    let two = first_of_two (has_flag decode_name rows) (has_flag old_name rows) is in
    decode-alone _ _ _ _ _ _ _ _ (rules rows allowed).one two.0 ∙ ap (λ (o : Bool). cond o DecodeOld Decode) two.1
mode_of-named rows DecodeOld allowed is =
    let r = rules rows allowed in
    decode-alone _ _ _ _ _ _ _ _ r.one (second-test (not (has_flag old_name rows)) (has_flag decode_name rows) r.old (ap not is)) ∙ ap (λ (o : Bool). cond o DecodeOld Decode) is
mode_of-named rows Variants allowed is =
    let two = first_of_two (lists rows) (has_flag jump_name rows) is in
    variants-alone _ _ _ _ _ _ _ _ (rules rows allowed).one two.0 ∙ ap (λ (j : Bool). cond j Jump Variants) two.1
mode_of-named rows Jump allowed is =
    let r = rules rows allowed in
    variants-alone _ _ _ _ _ _ _ _ r.one (second-test (not (has_flag jump_name rows)) (lists rows) r.jumps (ap not is)) ∙ ap (λ (j : Bool). cond j Jump Variants) is
mode_of-named rows CheckTable allowed is = check-alone _ _ _ _ _ _ _ _ (rules rows allowed).one is
mode_of-named rows PrintTable allowed is = print-alone _ _ _ _ _ _ _ _ (rules rows allowed).one is

-- of two tests neither the first alone holds, nor the second, so the first doesn't
not_with : (v j : Bool) → (v && not j) ≡ false → j ≡ false → v ≡ false
not_with true j listed jumps = absurd (let bad : true ≡ false = sym (ap not jumps) ∙ listed in cc)
not_with false j listed jumps = refl

pub mode_of-none : (rows : List Row) → ((mode : Mode) → is_named mode rows ≡ false) → mode_of rows ≡ Lookup
mode_of-none rows none =
    rw (none Register, not_with (has_flag decode_name rows) (has_flag old_name rows) (none Decode) (none DecodeOld), not_with (lists rows) (has_flag jump_name rows) (none Variants) (none Jump), none CheckTable, none PrintTable) refl

pub not_allowed : (rows : List Row) (mode other : Mode) → mode ≢ other → is_named mode rows ≡ true → is_named other rows ≡ true → is_allowed rows ≡ false
not_allowed rows mode other differ first second =
    false_from_ne_true (is_allowed rows) (λ allowed. differ (sym (mode_of-named rows mode allowed first) ∙ mode_of-named rows other allowed second))
