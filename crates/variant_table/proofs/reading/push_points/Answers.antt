use Rattle.std.proofs.Common.{◌≡◌, ◌+◌, ◌-◌, ◌++◌, ◌∷◌, [], ℕ, List, Ok, Err, length, refl, ap, sym, ◌∙◌, arith, length-append}
use Rattle.variant_table.specs.Conditions.{has_source_in}
use Rattle.variant_table.specs.Entries.{Variant, Entry, entry_from, source_of}
use Rattle.variant_table.specs.Faults.{SameSource}
use Rattle.variant_table.specs.Ranges.{entry_in_range}
use Rattle.variant_table.specs.Reading.{◌>>=◌}
use Rattle.variant_table.specs.inner.ReadingSteps.{if_new, with_new_source, with_new_sources}
use Rattle.variant_table.proofs.EntryLemmas.{of_source}
use Rattle.variant_table.proofs.RangeLemmas.{points_from, points_next, added_new}
use Rattle.variant_table.proofs.reading.push_points.Goals as goal

pub returns-then-not-branch : goal.returns-then-not-branch
returns-then-not-branch c =
    let first : ℕ = c.args.first in
    let v : Variant = source_of (entry_from c.args.range.now) in
    let w : Variant = record { sequence = (first + c.loop-offset.offset) ∷ []; type = c.variant_type.result; condition = c.condition.result } in
    let here : w ≡ record v { sequence = (first + c.loop-offset.offset) ∷ [] } =
    of_source c.args.range.now ((first + c.loop-offset.offset) ∷ []) c.variant_type.result c.condition.result c.variant_type.ensures.is c.condition.ensures in
    let i : ℕ = c.loop-offset.offset in
    let t : List Entry = c.loop-offset.entries in
    let e : Entry = entry_in_range v (first + i) in
    let rest : List Entry = points_from v (first + (i + 1)) (c.args.count - (i + 1)) in
    let is : entry_from c.push.new.self ≡ e = ap entry_from (c.in_ok-push.ensures.ok ∙ ap (λ ss. ss ++ w ∷ []) c.clear.ensures ∙ ap (λ x. x ∷ []) here) in
    let known : with_new_source t e ≡ Err SameSource =
    ap (with_new_source t) (sym is) ∙ c.in_ok-push-2.ensures.read ∙ ap (λ b. if_new b c.push-in-loop-offset.new.self) c.if-not-branch.true in
    sym c.loop-offset.invariant.same ∙ ap (with_new_sources t) (points_next v first c.args.count i c.loop-offset-test.true) ∙ ap (λ r. r >>= λ x. with_new_sources x rest) known

pub loop-offset-preserved : goal.loop-offset-preserved
loop-offset-preserved c =
    let first : ℕ = c.args.first in
    let v : Variant = source_of (entry_from c.args.range.now) in
    let w : Variant = record { sequence = (first + c.loop-offset.offset) ∷ []; type = c.variant_type.result; condition = c.condition.result } in
    let here : w ≡ record v { sequence = (first + c.loop-offset.offset) ∷ [] } =
    of_source c.args.range.now ((first + c.loop-offset.offset) ∷ []) c.variant_type.result c.condition.result c.variant_type.ensures.is c.condition.ensures in
    let i : ℕ = c.loop-offset.offset in
    let t : List Entry = c.loop-offset.entries in
    let t' : List Entry = c.push-in-loop-offset.new.self in
    let e : Entry = entry_in_range v (first + i) in
    let rest : List Entry = points_from v (first + (i + 1)) (c.args.count - (i + 1)) in
    let is : entry_from c.push.new.self ≡ e = ap entry_from (c.in_ok-push.ensures.ok ∙ ap (λ ss. ss ++ w ∷ []) c.clear.ensures ∙ ap (λ x. x ∷ []) here) in
    let added : with_new_source t e ≡ Ok t' = ap (with_new_source t) (sym is) ∙ c.in_ok-push-2.ensures.read ∙ ap (λ b. if_new b t') c.if-not-branch.false in
    record {
      same = sym (ap (with_new_sources t) (points_next v first c.args.count i c.loop-offset-test.true) ∙ ap (λ r. r >>= λ x. with_new_sources x rest) added) ∙ c.loop-offset.invariant.same;
      room = omega (arith, c.loop-offset.invariant.room, c.loop-offset-test.true, ap length (added_new t e (has_source_in t e) refl t' added), length-append t (e ∷ []));
    }
