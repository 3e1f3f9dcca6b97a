-- Runs of a reader by steps.
use Rattle.std.proofs.Common.{◌≡◌, ◌⊎◌, inl, inr, Bool, true, false, Option, Some, None, List, ◌∷◌, ◌++◌, cond, refl, ap, ◌∙◌, sym}
use Rattle.idn_text.specs.Stops.{run}
use Rattle.idn_text.proofs.StopLemmas.{run_append, run_none}

-- the bytes lead from a state to another
abbrev pub Leads : {S L : Type 0} → (S → L → Option S) → S → List L → S → Type 0
Leads step s bytes u = run step (Some s) bytes ≡ Some u

pub then : {S L : Type 0} (step : S → L → Option S) (s t u : S) (xs ys : List L) → Leads step s xs t → Leads step t ys u → Leads step s (xs ++ ys) u
then step s t u xs ys e f = run_append step xs ys (Some s) ∙ ap (λ o. run step o ys) e ∙ f

pub first : {S L : Type 0} (step : S → L → Option S) (s t u : S) (b : L) (bs : List L) → step s b ≡ Some t → Leads step t bs u → Leads step s (b ∷ bs) u
first step s t u b bs e f = ap (λ o. run step o bs) e ∙ f

pub yes : {X : Type 0} (b : Bool) (x y : X) → b ≡ true → cond b x y ≡ x
yes true x y e = refl
yes false x y e = absurd (cc)

pub no : {X : Type 0} (b : Bool) (x y : X) → b ≡ false → cond b x y ≡ y
no false x y e = refl
no true x y e = absurd (cc)

pub decide : (b : Bool) → (b ≡ true) ⊎ (b ≡ false)
decide true = inl refl
decide false = inr refl

-- the first step of a run that goes on
pub record Stepped {S L : Type 0} (step : S → L → Option S) (s : S) (b : L) (bs : List L) (u : S) : Type 0 where
  pub next : S
  pub is : step s b ≡ Some next
  pub leads : Leads step next bs u

pub stepped : {S L : Type 0} (step : S → L → Option S) (s : S) (b : L) (bs : List L) (u : S) → Leads step s (b ∷ bs) u → Stepped step s b bs u
stepped {S} {L} step s b bs u e = by (step s b) refl e
  where
    by : (o : Option S) → step s b ≡ o → run step o bs ≡ Some u → Stepped step s b bs u
    by (Some t) is f = record { next = t; is = is; leads = f }
    by None is f = absurd (let none : None ≡ Some u = sym (run_none step bs) ∙ f in cc)

-- a choice that is made
pub chosen : {X : Type 0} (b : Bool) (x y : Option X) (z : X) → cond b x y ≡ Some z → ((b ≡ true) × (x ≡ Some z)) ⊎ ((b ≡ false) × (y ≡ Some z))
chosen true x y z e = inl (refl, e)
chosen false x y z e = inr (refl, e)
