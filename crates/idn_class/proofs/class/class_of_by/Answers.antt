use Rattle.std.proofs.Common.{◌≡◌, ◌≢◌, ℕ, ◌<◌, ◌≤◌, cond, sym, ap, subst, ◌∙◌, arith, lit<}
use Rattle.std.proofs.lemmas.Bool.{true≢false}
use Rattle.idn_class.specs.declared.class.Class.TheVariants.{Disallowed, Pvalid}
use Rattle.idn_class.specs.Class.{class_of, is_unstable}
use Rattle.idn_class.proofs.ClassNumbers.{class_from_number, class_number, table_number-by, from_number, from_five, from_high, five_open, class_of-no_scalar, is_scalar-out}
use Rattle.idn_class.specs.inner.Entries.{number_by}
use Rattle.idn_class.proofs.ClassTrie.{IsTrie-CLASS, trie_value-CLASS}
use Rattle.idn_class.proofs.class.class_of_by.Goals as goal

not_five : (n m : ℕ) → n ≡ m → m < 5 → n ≢ 5
not_five n m e h five = absurd (omega arith)

pub returns-in_default-clause-class : goal.returns-in_default-clause-class
returns-in_default-clause-class c = sym (class_of-no_scalar c.args.properties _ (is_scalar-out _ c.in_default.ensures.cases))

pub get-entry-requires : goal.get-entry-requires
get-entry-requires c = IsTrie-CLASS

pub returns-in-0-clause-class : goal.returns-in-0-clause-class
returns-in-0-clause-class c =
    let range = c.in-Some.ensures.cases in
    let number : c.number_by-number.result ≡ class_number c.args.properties c.args.c = c.number_by-number.ensures ∙ ap (number_by c.args.properties) (c.get-entry.ensures ∙ trie_value-CLASS c.args.c (omega (arith, range))) ∙ table_number-by c.args.properties c.args.c in
    ap class_from_number (sym c.in-0.is) ∙ from_number c.args.properties _ _ number (not_five _ 0 c.in-0.is (lit< tt))

pub returns-in-1-clause-class : goal.returns-in-1-clause-class
returns-in-1-clause-class c =
    let range = c.in-Some.ensures.cases in
    let number : c.number_by-number.result ≡ class_number c.args.properties c.args.c = c.number_by-number.ensures ∙ ap (number_by c.args.properties) (c.get-entry.ensures ∙ trie_value-CLASS c.args.c (omega (arith, range))) ∙ table_number-by c.args.properties c.args.c in
    ap class_from_number (sym c.in-1.is) ∙ from_number c.args.properties _ _ number (not_five _ 1 c.in-1.is (lit< tt))

pub returns-in-2-clause-class : goal.returns-in-2-clause-class
returns-in-2-clause-class c =
    let range = c.in-Some.ensures.cases in
    let number : c.number_by-number.result ≡ class_number c.args.properties c.args.c = c.number_by-number.ensures ∙ ap (number_by c.args.properties) (c.get-entry.ensures ∙ trie_value-CLASS c.args.c (omega (arith, range))) ∙ table_number-by c.args.properties c.args.c in
    ap class_from_number (sym c.in-2.is) ∙ from_number c.args.properties _ _ number (not_five _ 2 c.in-2.is (lit< tt))

pub returns-in-3-clause-class : goal.returns-in-3-clause-class
returns-in-3-clause-class c =
    let range = c.in-Some.ensures.cases in
    let number : c.number_by-number.result ≡ class_number c.args.properties c.args.c = c.number_by-number.ensures ∙ ap (number_by c.args.properties) (c.get-entry.ensures ∙ trie_value-CLASS c.args.c (omega (arith, range))) ∙ table_number-by c.args.properties c.args.c in
    ap class_from_number (sym c.in-3.is) ∙ from_number c.args.properties _ _ number (not_five _ 3 c.in-3.is (lit< tt))

pub class_by_stability-requires : goal.class_by_stability-requires
class_by_stability-requires c =
    let range = c.in-Some.ensures.cases in
    let point = c.in-Some.ensures.value in
    let number : c.number_by-number.result ≡ class_number c.args.properties c.args.c = c.number_by-number.ensures ∙ ap (number_by c.args.properties) (c.get-entry.ensures ∙ trie_value-CLASS c.args.c (omega (arith, range))) ∙ table_number-by c.args.properties c.args.c in
    let answer = from_five c.args.properties _ _ number c.if-number-eq-LEFT_OPEN.true in
    subst (λ n. class_of c.args.properties n ≡ cond (is_unstable n) Disallowed Pvalid) (sym point.1) answer

pub returns-then-number-eq-LEFT_OPEN-clause-succeeds : goal.returns-then-number-eq-LEFT_OPEN-clause-succeeds
returns-then-number-eq-LEFT_OPEN-clause-succeeds c closed =
    let range = c.in-Some.ensures.cases in
    let number : c.number_by-number.result ≡ class_number c.args.properties c.args.c = c.number_by-number.ensures ∙ ap (number_by c.args.properties) (c.get-entry.ensures ∙ trie_value-CLASS c.args.c (omega (arith, range))) ∙ table_number-by c.args.properties c.args.c in
    absurd (true≢false (sym (five_open c.args.properties _ _ number c.if-number-eq-LEFT_OPEN.true) ∙ closed))

pub returns-in_default-number-clause-class : goal.returns-in_default-number-clause-class
returns-in_default-number-clause-class c =
    let range = c.in-Some.ensures.cases in
    let number : c.number_by-number.result ≡ class_number c.args.properties c.args.c = c.number_by-number.ensures ∙ ap (number_by c.args.properties) (c.get-entry.ensures ∙ trie_value-CLASS c.args.c (omega (arith, range))) ∙ table_number-by c.args.properties c.args.c in
    let high : 4 ≤ c.number_by-number.result = omega arith in
    sym (from_high _ high) ∙ from_number c.args.properties _ _ number c.if-number-eq-LEFT_OPEN.false
