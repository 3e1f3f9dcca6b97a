use Rattle.std.proofs.Common.{length, slice_index, sym, ap, ◌∙◌, inl, inr, arith}
use Rattle.std.specs.Option.{is_none}
use Rattle.idn_class.specs.declared.class.Class.{Class}
use Rattle.idn_class.specs.Class.{class_of}
use Rattle.idn_class.proofs.CauseLemmas.{first_failing-found, first_failing-none}
use Rattle.idn_label.specs.FirstFault.{fault_of_class}
use Rattle.idn_cause.proofs.places.barred_place.Goals as goal

pub returns-in-Disallowed : goal.returns-in-Disallowed
returns-in-Disallowed c =
    let label = c.args.label.now in
    let told = λ (class : Class). is_none (fault_of_class class) in
    let here = sym c.in_ok-class_of_by.ensures.class in
    sym (first_failing-found (length label) (λ place. told (class_of c.args.properties (slice_index label place))) _ c.loop-place-test.true
    (elim c.in-Disallowed.is [ inl disallowed ↦ ap told (here ∙ disallowed) | inr unassigned ↦ ap told (here ∙ unassigned) ])
    c.loop-place.invariant)

pub returns : goal.returns
returns c =
    let label = c.args.label.now in
    let past = c.loop-place-test.false in
    sym (first_failing-none (length label) (λ place. is_none (fault_of_class (class_of c.args.properties (slice_index label place)))) (λ k low. c.loop-place.invariant k (omega arith)))
