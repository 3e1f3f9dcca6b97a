use Rattle.std.proofs.Common.{◌≡◌, ◌∷◌, ◌++◌, ◌||◌, List, ℕ, Bool, true, false, [], chars, drop, take, take-append-drop, refl, sym, ap, ◌∙◌, arith}
use Rattle.std.proofs.lemmas.List.Folds.{list_any-append}
use Rattle.std.proofs.lemmas.Str.{chars-append}
use Rattle.std.specs.List.{list_any}
use Rattle.ucd_bidi.specs.BidiClass.{bidi_class}
use Rattle.idna.specs.BidiRule.{is_rtl}
use Rattle.idn_text.proofs.Utf8Lemmas.{IsUtf8-from_points, points_from_utf8, utf8_nothing, utf8_character, utf8_all, utf8_refused}
use Rattle.idn_label.proofs.bidi_name.holds_rtl_in_utf8.Goals as goal

abbrev right : ℕ → Bool
right c = is_rtl (bidi_class c)

joined : (a b : Bool) → a ≡ false → (a || (b || false)) ≡ b
joined true b e = cc
joined false true e = refl
joined false false e = refl

-- the class of the last one decides, where those before it are not right-to-left
any-last : (points : List ℕ) (c : ℕ) → list_any right points ≡ false → list_any right (points ++ c ∷ []) ≡ right c
any-last points c none = list_any-append right points (c ∷ []) ∙ joined (list_any right points) (right c) none

pub loop-at-init : goal.loop-at-init
loop-at-init c = record { within = omega arith; points = []; read = utf8_nothing; none = refl }

pub unreachable-requires : goal.unreachable-requires
unreachable-requires c =
    let i = c.loop-at.invariant in
    utf8_refused c.args.name.now i.points c.loop-at.at c.loop-at-test.true i.read c.in_default.ensures.none c.requires

pub loop-at-preserved : goal.loop-at-preserved
loop-at-preserved c =
    let i = c.loop-at.invariant in
    let step = c.in-Some.ensures in
    record {
      within = step.within;
      points = i.points ++ c.in-Some.c ∷ [];
      read = utf8_character c.args.name.now i.points c.loop-at.at c.in-Some.next c.in-Some.c i.read step.read step.scalar_value;
      none = any-last i.points c.in-Some.c i.none ∙ sym c.is_rtl.ensures ∙ c.if-is_rtl.false;
    }

pub returns-then-is_rtl : goal.returns-then-is_rtl
returns-then-is_rtl c =
    let i = c.loop-at.invariant in
    let step = c.in-Some.ensures in
    let name = c.args.name.now in
    let next = c.in-Some.next in
    let read = utf8_character name i.points c.loop-at.at next c.in-Some.c i.read step.read step.scalar_value in
    let is : list_any right (chars (take next name)) ≡ true =
    ap (list_any right) (points_from_utf8 (take next name) (i.points ++ c.in-Some.c ∷ []) read) ∙ any-last i.points c.in-Some.c i.none ∙ sym c.is_rtl.ensures ∙ c.if-is_rtl.true in
    let parts = ap chars (sym (take-append-drop next name)) ∙ chars-append (take next name) (drop next name) (IsUtf8-from_points (take next name) _ read) in
    sym (ap (list_any right) parts ∙ list_any-append right (chars (take next name)) (chars (drop next name)) ∙ ap (λ b. b || list_any right (chars (drop next name))) is)

pub returns : goal.returns
returns c =
    let i = c.loop-at.invariant in
    let all = points_from_utf8 c.args.name.now i.points (utf8_all c.args.name.now i.points c.loop-at.at c.loop-at-test.false i.read) in
    sym (ap (list_any right) all ∙ i.none)
