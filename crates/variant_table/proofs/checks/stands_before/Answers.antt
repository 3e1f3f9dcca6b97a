use Rattle.std.proofs.Common.{rules, tests, ◌≡◌, ◌+◌, ℕ, Bool, true, false, ◌||◌, ◌&&◌, List, Option, take, Some, refl, ap, sym, ◌∙◌, arith}
use Rattle.std.specs.Prelude.{bytes_eq, not, slice_get}
use Rattle.label_patterns.specs.declared.condition.Condition.{Condition}
use Rattle.variant_table.specs.Conditions.{differ, is_again, stands_in}
use Rattle.variant_table.specs.Entries.{Variant, entry_from, full_replacements}
use Rattle.variant_table.proofs.EntryLemmas.{sequence_found, variant_asked}
use Rattle.variant_table.proofs.RepeatLemmas.{source_apart, source_stands, stands_next, still_stands, variant_in}
use Rattle.variant_table.proofs.checks.stands_before.Goals as goal

one_variant : (o : Option Variant) (u v : Variant) → o ≡ Some u → o ≡ Some v → u ≡ v
one_variant o u v e f = cc

pub returns-then-eq : goal.returns-then-eq
returns-then-eq c =
    let ss = c.args.sequences.now in
    let at = sequence_found ss c.args.number c.get-wanted.result.now c.get-wanted.ensures in
    let equal : bytes_eq c.get.result.now c.get-wanted.result.now ≡ true = search (rules, tests) in
    (at.0, at.1, sym (source_stands ss c.args.number c.get.result.now at.0 c.requires.some c.get.ensures (ap (bytes_eq c.get.result.now) at.2 ∙ equal)))

pub loop-other-init : goal.loop-other-init
loop-other-init c = λ v e.
    let ss = c.args.sequences.now in
    let at = sequence_found ss c.args.number c.get-wanted.result.now c.get-wanted.ensures in
    let same : at.0 ≡ v = one_variant (slice_get ss c.args.number) at.0 v at.1 e in
    let other : bytes_eq c.get.result.now c.get-wanted.result.now ≡ false = search (rules, tests) in
    source_apart ss c.get.result.now v c.get.ensures (ap (λ x. bytes_eq c.get.result.now x.sequence) (sym same) ∙ ap (bytes_eq c.get.result.now) at.2 ∙ other)

-- what is asked of the variant at a number is asked of this one
again_of : (ss : List Variant) (other : ℕ) (u v : Variant) (wanted : List ℕ) (condition : Option Condition) (b : Bool) → v.sequence ≡ wanted → v.condition ≡ condition → b ≡ (bytes_eq u.sequence wanted && not (differ u.condition condition))
    → is_again u.sequence u.condition v ≡ b
again_of ss other u v wanted condition b s k is = ap (λ x. bytes_eq u.sequence x && not (differ u.condition v.condition)) s ∙ ap (λ x. bytes_eq u.sequence wanted && not (differ u.condition x)) k ∙ sym is

pub returns-then-is_again : goal.returns-then-is_again
returns-then-is_again c =
    let ss = c.args.sequences.now in
    let xs = full_replacements (entry_from ss) in
    let i : ℕ = c.loop-other.other in
    let at = variant_asked ss c.args.number c.get-wanted.result.now c.condition-condition.result c.get-wanted.ensures c.condition-condition.ensures in
    let earlier = c.is_again.ensures in
    let here : is_again (earlier.0).sequence (earlier.0).condition at.0 ≡ true =
    again_of ss i earlier.0 at.0 c.get-wanted.result.now c.condition-condition.result c.is_again.result at.2 at.3 earlier.2 ∙ c.if-is_again.true in
    let found : stands_in (take (i + 1) xs) at.0 ≡ true =
    stands_next xs i earlier.0 at.0 (variant_in ss i earlier.0 (omega arith) earlier.1) ∙ ap (λ b. stands_in (take i xs) at.0 || b) here ∙ or_true (stands_in (take i xs) at.0) in
    (at.0, at.1, sym (still_stands xs (i + 1) c.args.number at.0 (omega (arith, c.loop-other-test.true)) found))
  where
    or_true : (b : Bool) → (b || true) ≡ true
    or_true true = refl
    or_true false = refl

pub loop-other-preserved : goal.loop-other-preserved
loop-other-preserved c = λ v e.
    let ss = c.args.sequences.now in
    let xs = full_replacements (entry_from ss) in
    let i : ℕ = c.loop-other.other in
    let at = variant_asked ss c.args.number c.get-wanted.result.now c.condition-condition.result c.get-wanted.ensures c.condition-condition.ensures in
    let same : at.0 ≡ v = one_variant (slice_get ss c.args.number) at.0 v at.1 e in
    let earlier = c.is_again.ensures in
    let here : is_again (earlier.0).sequence (earlier.0).condition v ≡ false =
    again_of ss i earlier.0 v c.get-wanted.result.now c.condition-condition.result c.is_again.result (ap (λ x. x.sequence) (sym same) ∙ at.2) (ap (λ x. x.condition) (sym same) ∙ at.3) earlier.2 ∙ c.if-is_again.false in
    stands_next xs i earlier.0 v (variant_in ss i earlier.0 (omega arith) earlier.1) ∙ ap (λ b. stands_in (take i xs) v || b) here ∙ ap (λ b. b || false) (c.loop-other.invariant v e)

pub returns : goal.returns
returns c =
    let ss = c.args.sequences.now in
    let xs = full_replacements (entry_from ss) in
    let at = variant_asked ss c.args.number c.get-wanted.result.now c.condition-condition.result c.get-wanted.ensures c.condition-condition.ensures in
    let end : c.loop-other.other ≡ c.args.number = omega (arith, c.loop-other-test.false) in
    (at.0, at.1, sym (ap (λ n. stands_in (take n xs) at.0) (sym end) ∙ c.loop-other.invariant at.0 at.1))
