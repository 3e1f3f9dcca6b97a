use Rattle.std.proofs.Common.{◌≤◌, [], ◌∷◌, List, length, take, take_all, sym, ap, subst, arith}
use Rattle.reading_kinds.specs.Readings.{Substitution, substitutions_at}
use Rattle.reading_kinds.specs.inner.Cuts.{Fits}
use Rattle.reading_kinds.proofs.CutLemmas.{AllFit-of}
use Rattle.variant_list.specs.inner.Layouts.{HasTaken}
use Rattle.variant_list.proofs.PlanLemmas.{Contains-at}
use Rattle.variant_list.proofs.DraftLemmas.{HasTaken-more, HasTaken-none}
use Rattle.variant_table.proofs.ListLemmas.{take_next}
use Rattle.variant_list.proofs.draft.NetDraft.add_substitutions.Goals as goal

pub loop-number-init : goal.loop-number-init
loop-number-init c = HasTaken-none c.args.self.now c.requires.sound

pub add_substitution-requires-clause-some : goal.add_substitution-requires-clause-some
add_substitution-requires-clause-some c =
    let u : Substitution = record { covers = c.get.result.covers; kinds = c.get.result.kinds; points = c.get.result.points.now } in
    (AllFit-of c.args.substitutions.now c.requires.substitutions c.args.place u (Contains-at (substitutions_at c.args.substitutions.now c.args.place) c.loop-number.number u c.get.ensures)).covers

pub add_substitution-requires-clause-within : goal.add_substitution-requires-clause-within
add_substitution-requires-clause-within c =
    let u : Substitution = record { covers = c.get.result.covers; kinds = c.get.result.kinds; points = c.get.result.points.now } in
    let is : Fits c.args.substitutions.now c.args.place u = AllFit-of c.args.substitutions.now c.requires.substitutions c.args.place u (Contains-at (substitutions_at c.args.substitutions.now c.args.place) c.loop-number.number u c.get.ensures) in
    omega (arith, is.within, c.requires.count, ap length c.loop-number.invariant.places)

pub add_substitution-requires-clause-filled : goal.add_substitution-requires-clause-filled
add_substitution-requires-clause-filled c =
    let u : Substitution = record { covers = c.get.result.covers; kinds = c.get.result.kinds; points = c.get.result.points.now } in
    (AllFit-of c.args.substitutions.now c.requires.substitutions c.args.place u (Contains-at (substitutions_at c.args.substitutions.now c.args.place) c.loop-number.number u c.get.ensures)).some

pub loop-number-preserved : goal.loop-number-preserved
loop-number-preserved c =
    let here : List Substitution = substitutions_at c.args.substitutions.now c.args.place in
    let u : Substitution = record { covers = c.get.result.covers; kinds = c.get.result.kinds; points = c.get.result.points.now } in
    subst (λ us. HasTaken c.args.self.now us c.add_substitution.new.self) (sym (take_next here c.loop-number.number u c.get.ensures))
    (HasTaken-more c.args.self.now c.loop-number.self c.add_substitution.new.self (take c.loop-number.number here) (u ∷ []) c.loop-number.invariant c.in_ok-add_substitution.ensures)

pub returns : goal.returns
returns c =
    let here : List Substitution = substitutions_at c.args.substitutions.now c.args.place in
    let over : length here ≤ c.loop-number.number = omega (arith, c.count_at-number-end.ensures, c.loop-number-test.false) in
    subst (λ us. HasTaken c.args.self.now us c.loop-number.self) (take_all c.loop-number.number here over) c.loop-number.invariant
