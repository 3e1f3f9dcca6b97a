use Rattle.std.proofs.Common.{◌≡◌, ◌+◌, ◌-◌, ◌≤◌, ℕ, List, [], ◌∷◌, ◌++◌, length, sym, ap, subst, ◌∙◌, arith, append-nil, append_assoc}
use Rattle.std.specs.List.{AllByRecursion}
use Rattle.variant_dispositions.specs.Kinds.{IsTypeNumber}
use Rattle.variant_table.proofs.MemberLists.{all-push}
use Rattle.valid_labels.specs.declared.invalid.CutSource.{CutSource}
use Rattle.valid_labels.specs.Causes.{cut_from}
use Rattle.valid_labels.proofs.CutSources.{cut-stops, cut-taken}
use Rattle.valid_labels.proofs.EligibleLemmas.{leads-on, some-leads}
use Rattle.valid_labels.proofs.invalid.longest_cut.Goals as goal

pub returns-in_default-clause-is : goal.returns-in_default-clause-is
returns-in_default-clause-is c =
    let table = c.args.table.now in
    let label = c.args.label.now in
    let items : List CutSource = c.loop.sources.items in
    sym (append-nil items)
    ∙ ap (λ (later : List CutSource). items ++ later) (sym (cut-stops table label (length label - c.loop.counter) c.loop.place (sym c.longest_at.ensures ∙ c.in_default.is)))
    ∙ c.loop.invariant.taken

pub loop-preserved : goal.loop-preserved
loop-preserved c =
    let table = c.args.table.now in
    let label = c.args.label.now in
    let place = c.loop.place in
    let e = c.in-Some.entry in
    let items : List CutSource = c.loop.sources.items in
    let source : CutSource = record { place = place; reflexive_type = c.variant_type-reflexive_type.result } in
    let is = sym c.longest_at.ensures ∙ c.in-Some.is in
    let on = leads-on table label c.len-entries.ensures.well_formed place (place + length e.source) (some-leads table label c.len-entries.ensures.well_formed place e is) in
    let size : length c.source.result.now ≡ length e.source = ap (λ (s : List ℕ). length s) c.source.ensures in
    let within : place + length e.source ≤ length label = on.1 in
    let later : List CutSource = cut_from table label (length label - (c.loop.counter + 1)) (place + length c.source.result.now) in
    let pushed : c.push.new.self.items ≡ items ++ source ∷ [] = c.in_ok-push.ensures.items in
    record {
      within = omega (arith, size, within);
      taken = ap (λ (xs : List CutSource). xs ++ later) pushed ∙ append_assoc items (source ∷ []) later
          ∙ ap (λ (xs : List CutSource). items ++ xs) (cut-taken table label c.loop.counter place e c.variant_type-reflexive_type.result c.source.result.now c.loop-test.true is c.variant_type-reflexive_type.ensures.is c.source.ensures)
          ∙ c.loop.invariant.taken;
      types = subst (AllByRecursion (λ (s : CutSource). IsTypeNumber s.reflexive_type)) (sym pushed)
          (all-push (λ (s : CutSource). IsTypeNumber s.reflexive_type) items source c.loop.invariant.types c.variant_type-reflexive_type.ensures.small);
    }
