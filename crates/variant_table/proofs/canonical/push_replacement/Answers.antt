use Rattle.std.proofs.Common.{◌≡◌, ℕ, List, ◌++◌, map, ap, sym, ◌∙◌, append_assoc, Some}
use Rattle.std.specs.Prelude.{slice_get}
use Rattle.std.specs.Option.{option_map}
use Rattle.ruleset_text.specs.Definitions.{Definitions}
use Rattle.ruleset_text.specs.Entries.{Mapped}
use Rattle.ruleset_text.specs.EntryText.{mark_text, sequence_text, type_text}
use Rattle.ruleset_text.specs.NamedConditions.{condition_text}
use Rattle.variant_table.specs.Entries.{Variant, Entry, replacements, whole}
use Rattle.variant_table.specs.Forms.{named, is_type, unmarked_name, mapped_by}
use Rattle.variant_table.specs.inner.Held.{named_in}
use Rattle.variant_table.specs.WellFormed.{IsSequence}
use Rattle.variant_table.proofs.EntryLemmas.{slice_get-map}
use Rattle.variant_table.proofs.WritingLemmas.{all_at}
use Rattle.variant_table.proofs.canonical.push_replacement.Goals as goal

pub push_sequence-requires : goal.push_sequence-requires
push_sequence-requires c = all_at IsSequence (replacements c.args.entry.now) c.args.number c.replacement.result.now c.requires.entry.sequences c.replacement.ensures

part : {X : Type 0} (f : Variant → X) (vs : List Variant) (i : ℕ) (v : Variant) (x : X) → slice_get vs i ≡ Some v → slice_get (map f vs) i ≡ Some x → x ≡ f v
part f vs i v x at is = let s : Some x ≡ Some (f v) = sym is ∙ slice_get-map f vs i ∙ ap (option_map f) at in cc

pub returns : goal.returns
returns c = λ v at.
    let d : Definitions = c.args.definitions.now in
    let e : Entry = c.args.entry.now in
    let n : ℕ = c.args.number in
    let mark : ℕ = c.args.mark in
    let m : Mapped = mapped_by mark d v in
    let old : List ℕ = c.args.out.now.items in
    let marked : List ℕ = mark_text m.marked in
    let points : List ℕ = sequence_text v.sequence in
    let typed : List ℕ = type_text m.type_name in
    let condition : List ℕ = condition_text m.condition in
    let type : c.variant_type-variant_type.result ≡ v.type = part (λ v. v.type) (whole e) n v c.variant_type-variant_type.result at c.variant_type-variant_type.ensures.is in
    let sequence : c.replacement.result.now ≡ v.sequence = part (λ v. v.sequence) (whole e) n v c.replacement.result.now at c.replacement.ensures in
    let stands : c.condition.result ≡ v.condition = part (λ v. v.condition) (whole e) n v c.condition.result at c.condition.ensures in
    let first : c.push_mark.new.out.items ≡ old ++ marked = c.in_ok-push_mark.ensures ∙ ap (λ b. old ++ mark_text b) (c.is_type.ensures ∙ ap (is_type mark) type) in
    let second : c.push_sequence.new.out.items ≡ (old ++ marked) ++ points =
    c.in_ok-push_sequence.ensures ∙ ap (λ x. c.push_mark.new.out.items ++ sequence_text x) sequence ∙ ap (λ o. o ++ points) first in
    let third : c.push_type.new.out.items ≡ ((old ++ marked) ++ points) ++ typed =
    c.in_ok-push_type.ensures ∙ ap (λ x. c.push_sequence.new.out.items ++ type_text (unmarked_name mark d x)) type ∙ ap (λ o. o ++ typed) second in
    c.in_ok-push_condition.ensures ∙ ap (λ x. c.push_type.new.out.items ++ condition_text (option_map (named_in x) c.condition.result)) c.rule_names.ensures.is
    ∙ ap (λ x. c.push_type.new.out.items ++ condition_text (option_map (named d) x)) stands ∙ ap (λ o. o ++ condition) third
    ∙ append_assoc ((old ++ marked) ++ points) typed condition ∙ append_assoc (old ++ marked) points (typed ++ condition) ∙ append_assoc old marked (points ++ (typed ++ condition))
