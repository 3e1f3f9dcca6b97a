use Rattle.std.proofs.Common.{◌≡◌, ◌∙◌, List, ℕ, Bool, Option, None, Some, Result, Ok, arith, refl, ap, sym, subst, inl, inr}
use Rattle.std.specs.declared.alloc.AllocError.{AllocError}
use Rattle.variant_list.specs.Steps.{IfDecided, IfFound}
use Rattle.variant_list.specs.declared.cursor.Outcome.{Outcome}
use Rattle.variant_list.specs.declared.cursor.Outcome.TheVariants as outcome
use Rattle.answer_json.specs.declared.block.Disposition.{Disposition}
use Rattle.answer_json.specs.declared.block.Disposition.TheVariants as told_as
use Rattle.idn2_answers.specs.Listings.{Filter}
use Rattle.idn2_cli.specs.inner.Blocks.{class_by, class_of, disposition_by, filter_of_judge}
use Rattle.idn2_cli.specs.inner.Dispositions.{Listing}
use Rattle.idn2_cli.specs.inner.Progress.{progress_of}
use Rattle.idn2_cli.proofs.ListingProgress.{ended-from, found-from, halted-from, spent-from}
use Rattle.idn2_cli.proofs.NextLines.{to-end, to-last_step, to-last_try, to-limit, to-variant}
use Rattle.idn2_cli.proofs.modes.counts.Counts.advance.Goals as goal

-- what the judge keeps is of the cursor's label, unless the listing has ended
decided-as : (P : Type 0) (r : Result Outcome AllocError) (o x : Outcome) → r ≡ Ok o → o ≡ x → IfDecided r P → IfDecided (Ok x) P
decided-as P r o x is same h = subst (λ (y : Outcome). IfDecided (Ok y) P) same (subst (λ (a : Result Outcome AllocError). IfDecided a P) is h)

-- the same of what is told of the label that was found
found-as : (P : Type 0) (r : Result Outcome AllocError) (o : Outcome) → r ≡ Ok o → o ≡ outcome.Found → IfFound r P → P
found-as P r o is same h = subst (λ (y : Outcome). IfFound (Ok y) P) same (subst (λ (a : Result Outcome AllocError). IfFound a P) is h)

-- two filters that ask the same are one
same_filters : (j f : Filter) → j.accepts ≡ f.accepts → j.hopeless ≡ f.hopeless → j ≡ f
same_filters j f same_labels same_beginnings =
    ap (λ (a : List ℕ → Bool). let made : Filter = record { accepts = a; hopeless = j.hopeless } in made) same_labels
    ∙ ap (λ (h : List ℕ → Bool). let made : Filter = record { accepts = f.accepts; hopeless = h } in made) same_beginnings

-- classes tell dispositions apart
class-same : (f g : Option Disposition) → class_of f ≡ class_of g → f ≡ g
class-same None None e = refl
class-same None (Some told_as.Allocatable) e = absurd (omega (arith, e))
class-same None (Some told_as.Blocked) e = absurd (omega (arith, e))
class-same None (Some told_as.Unclear) e = absurd (omega (arith, e))
class-same (Some told_as.Allocatable) None e = absurd (omega (arith, e))
class-same (Some told_as.Allocatable) (Some told_as.Allocatable) e = refl
class-same (Some told_as.Allocatable) (Some told_as.Blocked) e = absurd (omega (arith, e))
class-same (Some told_as.Allocatable) (Some told_as.Unclear) e = absurd (omega (arith, e))
class-same (Some told_as.Blocked) None e = absurd (omega (arith, e))
class-same (Some told_as.Blocked) (Some told_as.Allocatable) e = absurd (omega (arith, e))
class-same (Some told_as.Blocked) (Some told_as.Blocked) e = refl
class-same (Some told_as.Blocked) (Some told_as.Unclear) e = absurd (omega (arith, e))
class-same (Some told_as.Unclear) None e = absurd (omega (arith, e))
class-same (Some told_as.Unclear) (Some told_as.Allocatable) e = absurd (omega (arith, e))
class-same (Some told_as.Unclear) (Some told_as.Blocked) e = absurd (omega (arith, e))
class-same (Some told_as.Unclear) (Some told_as.Unclear) e = refl

same_dispositions : (old new : Listing) → class_by new ≡ class_by old → (v : List ℕ) → disposition_by new v ≡ disposition_by old v
same_dispositions old new same v = class-same _ _ (ap (λ (f : List ℕ → ℕ). f v) same)

pub returns-in_err-seek-clause-same_dispositions : goal.returns-in_err-seek-clause-same_dispositions
returns-in_err-seek-clause-same_dispositions c = same_dispositions c.args.judge.now.dispositions c.seek.new.judge.dispositions c.seek.ensures.same_classes

pub returns-in-Found-clause-same_dispositions : goal.returns-in-Found-clause-same_dispositions
returns-in-Found-clause-same_dispositions c = same_dispositions c.args.judge.now.dispositions c.seek.new.judge.dispositions c.seek.ensures.same_classes

pub returns-in-OutOfTries-clause-same_dispositions : goal.returns-in-OutOfTries-clause-same_dispositions
returns-in-OutOfTries-clause-same_dispositions c = same_dispositions c.args.judge.now.dispositions c.seek.new.judge.dispositions c.seek.ensures.same_classes

pub returns-in-Ended-clause-same_dispositions : goal.returns-in-Ended-clause-same_dispositions
returns-in-Ended-clause-same_dispositions c = same_dispositions c.args.judge.now.dispositions c.seek.new.judge.dispositions c.seek.ensures.same_classes

pub returns-then-is_reached-clause-goes : goal.returns-then-is_reached-clause-goes
returns-then-is_reached-clause-goes c = to-limit (progress_of c.args.cursor.now c.args.judge.now c.args.self.now) c.requires.under_way (sym c.is_reached.ensures ∙ c.if-is_reached.true)

pub returns-in-Found-clause-goes : goal.returns-in-Found-clause-goes
returns-in-Found-clause-goes c =
    let f = filter_of_judge c.args.judge.now in
    let found = found-from f c.args.cursor.now c.seek.new.self c.args.self.now.tries c.seek.new.tries c.args.self.now.steps c.seek.new.steps c.seek.result c.in_ok-seek.field-0 c.in_ok-seek.was c.seek.ensures.decided c.seek.ensures.moves c.seek.ensures.steps c.in-Found.is in
    to-variant (progress_of c.args.cursor.now c.args.judge.now c.args.self.now) c.seek.new.self c.seek.new.judge c.seek.new.tries c.seek.new.steps c.requires.under_way (sym c.is_reached.ensures ∙ c.if-is_reached.false)
    (same_filters (filter_of_judge c.seek.new.judge) f c.seek.ensures.same_labels c.seek.ensures.same_beginnings) found
    (decided-as _ c.seek.result c.in_ok-seek.field-0 outcome.Found c.in_ok-seek.was c.in-Found.is c.seek.ensures.kept)
    (found-as _ c.seek.result c.in_ok-seek.field-0 c.in_ok-seek.was c.in-Found.is c.seek.ensures.verdict)

pub returns-in-OutOfTries-clause-goes : goal.returns-in-OutOfTries-clause-goes
returns-in-OutOfTries-clause-goes c =
    let f = filter_of_judge c.args.judge.now in
    let going = sym c.is_reached.ensures ∙ c.if-is_reached.false in
    elim c.in-OutOfTries.is [
      | inl is ↦
          to-last_try (progress_of c.args.cursor.now c.args.judge.now c.args.self.now) c.seek.new.self c.seek.new.judge c.seek.new.tries c.seek.new.steps c.requires.under_way going
          (spent-from f c.args.cursor.now c.seek.new.self c.args.self.now.tries c.seek.new.tries c.args.self.now.steps c.seek.new.steps c.seek.result c.in_ok-seek.field-0 c.in_ok-seek.was c.seek.ensures.decided c.seek.ensures.moves c.seek.ensures.steps is)
          (decided-as _ c.seek.result c.in_ok-seek.field-0 outcome.OutOfTries c.in_ok-seek.was is c.seek.ensures.kept).2
      | inr is ↦
          to-last_step (progress_of c.args.cursor.now c.args.judge.now c.args.self.now) c.seek.new.self c.seek.new.judge c.seek.new.tries c.seek.new.steps c.requires.under_way going
          (halted-from f c.args.cursor.now c.seek.new.self c.args.self.now.tries c.seek.new.tries c.args.self.now.steps c.seek.new.steps c.seek.result c.in_ok-seek.field-0 c.in_ok-seek.was c.seek.ensures.decided c.seek.ensures.moves c.seek.ensures.steps is)
          (decided-as _ c.seek.result c.in_ok-seek.field-0 outcome.OutOfSteps c.in_ok-seek.was is c.seek.ensures.kept).2
    ]

pub returns-in-Ended-clause-goes : goal.returns-in-Ended-clause-goes
returns-in-Ended-clause-goes c =
    let f = filter_of_judge c.args.judge.now in
    to-end (progress_of c.args.cursor.now c.args.judge.now c.args.self.now) c.seek.new.self c.seek.new.judge c.seek.new.tries c.seek.new.steps c.requires.under_way (sym c.is_reached.ensures ∙ c.if-is_reached.false)
    (ended-from f c.args.cursor.now c.seek.new.self c.args.self.now.tries c.seek.new.tries c.args.self.now.steps c.seek.new.steps c.seek.result c.in_ok-seek.field-0 c.in_ok-seek.was c.seek.ensures.decided c.seek.ensures.moves c.seek.ensures.steps c.in-Ended.is)
