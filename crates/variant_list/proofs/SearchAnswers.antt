-- What the answer of a search for a tested label says.
use Rattle.std.proofs.Common.{◌≡◌, ℕ, Bool, List, Option, Result, Ok, Err, subst}
use Rattle.std.specs.declared.alloc.AllocError.{AllocError}
use Rattle.variant_list.specs.Positions.{Position}
use Rattle.variant_list.specs.inner.Skips.{FindsTested}
use Rattle.variant_list.specs.inner.CountedSearches.{Finds, FindsTestedIn, FindsNoneIn, UsesAllStepsIn, IfTested, IfAsked}
use Rattle.variant_list.specs.declared.cursor.Next.{Next}
use Rattle.variant_list.specs.declared.cursor.Next.TheVariants.{Tested, Unfound, OutOfSteps}

module _ (now hopeless : List ℕ → Bool) (same : now ≡ hopeless) (old new : Position) (steps left : Option ℕ) where
  -- the answer in its case
  told : (r : Result Next AllocError) (n m : Next) → r ≡ Ok n → n ≡ m → Finds now old steps r new left → Finds hopeless old steps (Ok m) new left
  told r n m is at finds = subst (λ h. Finds h old steps (Ok m) new left) same (subst (λ (x : Next). Finds now old steps (Ok x) new left) at (subst (λ (x : Result Next AllocError). Finds now old steps x new left) is finds))

  pub FindsTestedIn-tested : (r : Result Next AllocError) (n : Next) (answer : Bool) → r ≡ Ok n → n ≡ Tested answer → Finds now old steps r new left → FindsTestedIn hopeless old steps new left
  FindsTestedIn-tested r n answer = told r n (Tested answer)

  pub FindsNoneIn-unfound : (r : Result Next AllocError) (n : Next) → r ≡ Ok n → n ≡ Unfound → Finds now old steps r new left → FindsNoneIn hopeless old steps new left
  FindsNoneIn-unfound r n = told r n Unfound

  pub UsesAllStepsIn-halted : (r : Result Next AllocError) (n : Next) → r ≡ Ok n → n ≡ OutOfSteps → Finds now old steps r new left → UsesAllStepsIn hopeless old steps new left
  UsesAllStepsIn-halted r n = told r n OutOfSteps

  pub FindsTested-undecided : (r : Result Next AllocError) (fault : AllocError) → r ≡ Err fault → Finds now old steps r new left → FindsTested hopeless old new
  FindsTested-undecided r fault is finds = subst (λ h. FindsTested h old new) same (subst (λ (x : Result Next AllocError). Finds now old steps x new left) is finds)

pub answer-tested : (P : Bool → Type 0) (r : Result Next AllocError) (n : Next) (answer : Bool) → r ≡ Ok n → n ≡ Tested answer → IfTested r P → P answer
answer-tested P r n answer is at h = subst (λ (x : Next). IfTested (Ok x) P) at (subst (λ (x : Result Next AllocError). IfTested x P) is h)

pub asked-last : (P : Type 0) (r : Result Next AllocError) (n m : Next) → r ≡ Ok n → n ≡ m → IfAsked r P → IfAsked (Ok m) P
asked-last P r n m is at h = subst (λ (x : Next). IfAsked (Ok x) P) at (subst (λ (x : Result Next AllocError). IfAsked x P) is h)
