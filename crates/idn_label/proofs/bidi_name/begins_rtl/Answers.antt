use Rattle.std.proofs.Common.{◌≡◌, ◌==◌, ◌∷◌, ◌++◌, List, ℕ, [], false, eqb-true, length, chars, drop, take, take-append-drop, sym, ap, ◌∙◌, arith}
use Rattle.std.proofs.lemmas.Str.{chars-append}
use Rattle.idn_text.proofs.Utf8Lemmas.{IsUtf8-from_points, points_from_utf8, utf8_nothing, utf8_character, utf8_refused}
use Rattle.idn_label.specs.inner.BidiNames.{begins_rtl}
use Rattle.idn_label.proofs.bidi_name.begins_rtl.Goals as goal

none_first : (label : List ℕ) → length label ≡ 0 → false ≡ begins_rtl (chars label)
none_first [] empty = sym (ap begins_rtl (points_from_utf8 [] [] utf8_nothing))
none_first (c ∷ label) empty = absurd (omega arith)

pub returns-then-is_empty : goal.returns-then-is_empty
returns-then-is_empty c = none_first c.args.label.now (eqb-true (length c.args.label.now) 0 (sym c.is_empty.ensures ∙ c.if-is_empty.true))

pub unreachable-requires : goal.unreachable-requires
unreachable-requires c =
    let label = c.args.label.now in
    let other : (length label == 0) ≡ false = sym c.is_empty.ensures ∙ c.if-is_empty.false in
    utf8_refused label [] 0 (grind (arith, other)) utf8_nothing c.in_default.ensures.none c.requires

pub returns : goal.returns
returns c =
    let label = c.args.label.now in
    let next = c.in-Some.field-0-1 in
    let first = c.in-Some.first in
    let step = c.in-Some.ensures in
    let read = utf8_character label [] 0 next first utf8_nothing step.read step.scalar_value in
    let parts = ap chars (sym (take-append-drop next label)) ∙ chars-append (take next label) (drop next label) (IsUtf8-from_points (take next label) _ read) in
    c.is_rtl.ensures ∙ sym (ap begins_rtl (parts ∙ ap (λ (l : List ℕ). l ++ chars (drop next label)) (points_from_utf8 (take next label) (first ∷ []) read)))
