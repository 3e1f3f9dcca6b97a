use Rattle.std.proofs.Common.{◌≡◌, ℕ, List, Bool, length, ap, sym, ◌∙◌, arith}
use Rattle.std.specs.Prelude.{Some, slice_get, map}
use Rattle.std.proofs.lemmas.Option.{same_Some}
use Rattle.variant_dispositions.specs.Kinds.{bit_of, kind_of_source}
use Rattle.std.specs.Prelude.{◌^◌}
use Rattle.variant_table.specs.Entries.{Entry, Variant, whole}
use Rattle.variant_list.specs.Substitutions.{may_replace}
use Rattle.variant_list.proofs.TakenSubstitutions.{source-taken, variant-taken, variant-skipped}
use Rattle.variant_list.proofs.substitutions.Substitutions.add_entry.Goals.{then-holds_for+in_ok-add-2, else-holds_for}
use Rattle.variant_list.proofs.substitutions.Substitutions.add_entry.Goals as goal

pub loop-number-init : goal.loop-number-init
loop-number-init c =
    let e : Entry = c.args.entry.now in
    let has : Variant → Bool = may_replace c.args.self.now.table.now c.args.self.now.label.now c.args.place e in
    let type : c.variant_type.result ≡ e.type = sym (same_Some e.type c.variant_type.result c.variant_type.ensures.is) in
    c.in_ok-add.ensures
    ∙ source-taken has e c.source-source.result.now c.kind_of_source.result c.args.draft.now c.source-source.ensures (c.kind_of_source.ensures.word ∙ ap (λ t. 2 ^ bit_of (kind_of_source t)) type)

pub loop-number-preserved : goal.loop-number-preserved
loop-number-preserved c =
    let e : Entry = c.args.entry.now in
    let has : Variant → Bool = may_replace c.args.self.now.table.now c.args.self.now.label.now c.args.place e in
    let n : ℕ = c.loop-number.number in
    let covers : length c.source-source.result.now ≡ length e.source = ap (λ (s : List ℕ). length s) c.source-source.ensures in
    let told : slice_get (map has (whole e)) n ≡ Some c.holds_for.result = c.holds_for.ensures in
    elim c.if-holds_for.branch [
      | then-holds_for+in_ok-add-2 w ↦
          w.draft-is ∙ w.in_ok-add-2.ensures
          ∙ variant-taken has e n w.replacement.result.now w.variant_type-then-holds_for.result (length c.source-source.result.now) w.kind_of_variant-kind.result c.args.draft.now c.loop-number.draft (omega arith)
          w.replacement.ensures w.variant_type-then-holds_for.ensures.is (told ∙ ap Some w.if-holds_for.true) covers w.kind_of_variant-kind.ensures.word c.loop-number.invariant
      | else-holds_for w ↦ w.draft-is ∙ variant-skipped has e n c.args.draft.now c.loop-number.draft (omega arith) (told ∙ ap Some w.if-holds_for.false) c.loop-number.invariant
    ]
