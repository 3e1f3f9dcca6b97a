use Rattle.std.proofs.Common.{◌≡◌, ◌≢◌, ◌≤◌, ◌==◌, ℕ, List, [], ◌∷◌, length, true, false, refl, sym, ap, subst, ◌∙◌, arith}
use Rattle.std.specs.List.{list_all}
use Rattle.std.proofs.lemmas.Bool.{both_ways}
use Rattle.std.proofs.lemmas.Bool.Decides.{nat_tests}
use Rattle.std.proofs.lemmas.Str.{encodes-IsAscii}
use Rattle.idna.specs.Validity.{has_ace_prefix}
use Rattle.idn_text.specs.Points.{AreScalarValues, utf8_of}
use Rattle.idn_label.specs.OldNames.{is_old_point, IsOld, stands_for}
use Rattle.idn_label.specs.Steps.{is_ldh_point}
use Rattle.idn_label.proofs.LdhLemmas.{is_all_ascii-octets}
use Rattle.idn_label.proofs.OldNameLemmas.{ldh_old, long_name, named_old, not_old, old_ldh, some_past_ascii, stands_for-plain}
use Rattle.idn_label.proofs.old_names.old_label_utf8.Goals as goal
use Rattle.idn_label.proofs.old_names.old_label_utf8.Goals.{then-is_empty-via-then-is_empty, then-is_empty-via-else-is_empty+then-name-gt-MAX_LABEL_LEN}

empty_name : (name : List ℕ) → (length name == 0) ≡ true → IsOld (stands_for name) → ⊥
unfolding has_ace_prefix
empty_name [] none is = is.some (stands_for-plain [] refl)
empty_name (c ∷ name) none is = absurd (let bad : length (c ∷ name) ≡ 0 = grind (arith, nat_tests, none) in omega (arith, bad))

some_name : (name : List ℕ) → (length name == 0) ≡ false → name ≢ []
some_name name some empty = both_ways (length name == 0) some (ap (λ (l : List ℕ). length l == 0) empty)

pub returns-then-is_empty-clause-other : goal.returns-then-is_empty-clause-other
returns-then-is_empty-clause-other c =
    let name = c.args.name.now in
    elim c.then-is_empty.branch [
      | then-is_empty-via-then-is_empty w ↦ not_old (stands_for name) (empty_name name (sym w.if-is_empty.ensures))
      | then-is_empty-via-else-is_empty+then-name-gt-MAX_LABEL_LEN w ↦ long_name name c.requires.ascii (omega (arith, w.if-name-gt-MAX_LABEL_LEN.true))
    ]

pub returns-then-not-are_old_points-clause-other : goal.returns-then-not-are_old_points-clause-other
returns-then-not-are_old_points-clause-other c =
    let name = c.args.name.now in
    let is : stands_for name ≡ c.as_slice.result.now = c.if-names_another.ensures.another ∙ sym c.as_slice.ensures.value in
    not_old (stands_for name) (λ old. both_ways (list_all is_old_point c.as_slice.result.now) (sym c.if-not-are_old_points.ensures) (ap (list_all is_old_point) (sym is) ∙ old.points))

pub put_points-requires-clause-scalar_values : goal.put_points-requires-clause-scalar_values
put_points-requires-clause-scalar_values c = subst AreScalarValues (sym c.as_slice-then-names_another.ensures.value) c.if-names_another.ensures.scalar_values

pub returns-then-names_another-clause-old : goal.returns-then-names_another-clause-old
returns-then-names_another-clause-old c =
    let label = c.names_another.new.label in
    let short : length c.args.name.now ≤ 63 = omega (arith, c.if-name-gt-MAX_LABEL_LEN.false) in
    let few : length label ≤ 63 = omega (arith, c.as_slice.ensures.short, ap length c.as_slice.ensures.value) in
    named_old c.args.name.now label c.requires.ascii short c.if-names_another.ensures.another (some_past_ascii label c.if-names_another.ensures.past_ascii) few
    (ap (list_all is_old_point) (sym c.as_slice.ensures.value) ∙ sym c.if-not-are_old_points.ensures)

pub returns-then-not-is_ldh-clause-other : goal.returns-then-not-is_ldh-clause-other
returns-then-not-is_ldh-clause-other c =
    let name = c.args.name.now in
    not_old (stands_for name) (λ old.
    both_ways (list_all is_ldh_point name) (sym c.if-not-is_ldh.ensures) (old_ldh name (ap (list_all is_old_point) (sym c.if-names_another.ensures.itself) ∙ old.points) c.requires.ascii))

pub returns-clause-old : goal.returns-clause-old
returns-clause-old c =
    let name = c.args.name.now in
    let short : length name ≤ 63 = omega (arith, c.if-name-gt-MAX_LABEL_LEN.false) in
    named_old name name c.requires.ascii short c.if-names_another.ensures.itself (some_name name (sym c.if-is_empty.ensures)) short (ldh_old name (sym c.if-not-is_ldh.ensures))

pub returns-clause-written : goal.returns-clause-written
returns-clause-written c =
    let name = c.args.name.now in
    c.put.ensures.written ∙ sym (encodes-IsAscii name (is_all_ascii-octets name c.requires.ascii)) ∙ ap utf8_of (sym c.if-names_another.ensures.itself)
