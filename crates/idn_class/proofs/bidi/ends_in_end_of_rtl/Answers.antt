use Rattle.std.proofs.Common.{◌≡◌, ℕ, ◌-◌, ◌<◌, ◌≤◌, true, false, length, map, slice_get, Some, refl, sym, ap, subst, ◌∙◌, inl, inr, arith}
use Rattle.std.proofs.Math.ListN.{length-map}
use Rattle.std.proofs.lemmas.Bool.{cases_lt}
use Rattle.std.proofs.lemmas.Option.{slice_get_within}
use Rattle.idn_class.specs.declared.bidi_class.BidiClass.TheVariants.{NSM}
use Rattle.idn_class.specs.BidiClass.{bidi_class}
use Rattle.idn_class.specs.BidiRule.{is_end_of_rtl}
use Rattle.idn_class.proofs.BidiLemmas.{class_at, ends_here}
use Rattle.idn_class.proofs.bidi.ends_in_end_of_rtl.Goals as goal

pub returns-in_default : goal.returns-in_default
returns-in_default c =
    let at = c.loop-end.end - 1 in
    let within = c.loop-end.invariant.within in
    let lt : at < length c.args.label.now = omega arith in
    let classes = map (bidi_class c.args.properties) c.args.label.now in
    let here : slice_get classes at ≡ Some c.bidi_class.result = class_at c.args.properties _ at 0 lt ∙ ap Some (sym c.bidi_class.ensures) in
    let rest = λ (k : ℕ) (low : at < k) (high : k < length classes). c.loop-end.invariant.rest k (omega arith) (subst (λ n. k < n) (length-map c.args.label.now (bidi_class c.args.properties)) high) in (
      λ ends. record { place = at; class = c.bidi_class.result; stands = here; ends = sym c.is_end_of_rtl.ensures ∙ ends; rest = rest },
      λ found. c.is_end_of_rtl.ensures ∙ ends_here is_end_of_rtl classes at c.bidi_class.result refl (slice_get_within classes at _ here) here c.in_default.not-NSM rest found,
    )

pub loop-end-preserved : goal.loop-end-preserved
loop-end-preserved c =
    let at = c.loop-end.end - 1 in
    let within = c.loop-end.invariant.within in
    let lt : at < length c.args.label.now = omega arith in
    record {
      within = omega arith;
      rest = λ k low high.
          elim (cases_lt at k) [
            | inl past ↦ c.loop-end.invariant.rest k (omega arith) high
            | inr upto ↦
                let same : at ≡ k = omega arith in
                subst (λ n. slice_get (map (bidi_class c.args.properties) c.args.label.now) n ≡ Some NSM) same
                (class_at c.args.properties _ at 0 lt ∙ ap Some (sym (c.in-NSM.ensures)))
          ];
    }

pub returns : goal.returns
returns c = (
  λ no. absurd (let clash : false ≡ true = no in cc),
  λ found.
      let within = slice_get_within _ found.place found.class found.stands in
      let lt = subst (λ n. found.place < n) (length-map c.args.label.now (bidi_class c.args.properties)) within in
      let none : c.loop-end.end ≤ 0 = c.loop-end-test.false in
      let mark : Some found.class ≡ Some NSM = sym found.stands ∙ c.loop-end.invariant.rest found.place (omega arith) lt in
      let same : found.class ≡ NSM = cc in
      ap is_end_of_rtl (sym same) ∙ found.ends,
)
