-- The first action that is triggered, of a ruleset and of its table.
use Rattle.std.proofs.Common.{◌≡◌, ◌↔◌, ◌⊎◌, inl, inr, ℕ, Bool, true, false, cond, List, [], ◌∷◌, ◌++◌, refl, sym, subst, ◌∙◌}
use Rattle.std.specs.Prelude.{Some, filter, find, unwrap_or}
use Rattle.std.specs.List.{Contains}
use Rattle.std.specs.Option.{option_map}
use Rattle.reading_kinds.proofs.ListMembers.{Contains-cases, Contains-head, Contains-later, Contains-none}
use Rattle.variant_dispositions.specs.declared.action.Action.{Action as TableAction}
use Rattle.variant_dispositions.specs.declared.disposition.Disposition.{Disposition}
use Rattle.ruleset_text.specs.Actions.{disposition_word}
use Rattle.lgr_text.specs.Dispositions.{IsOfFirst}
use Rattle.lgr_text.specs.Records.{Action}

-- ---- of a ruleset

module _ (P : Action → Type 0) (O : List ℕ → Type 0) where
  -- there is one at most
  pub one-first : (actions : List Action) (a b : List ℕ) → ((x y : List ℕ) → O x → O y → x ≡ y) → IsOfFirst P actions O a → IsOfFirst P actions O b → a ≡ b
  one-first [] a b one h k = one a b h k
  one-first (x ∷ actions) a b one (inl h) (inl k) = h.1 ∙ sym k.1
  one-first (x ∷ actions) a b one (inl h) (inr k) = absurd (k.0 h.0)
  one-first (x ∷ actions) a b one (inr h) (inl k) = absurd (h.0 k.0)
  one-first (x ∷ actions) a b one (inr h) (inr k) = one-first actions a b one h.1 k.1

  -- there is one
  pub some-first : (actions : List Action) → ((x : Action) → Contains actions x → P x ⊎ (P x → ⊥)) → ((w : List ℕ) × O w) → (w : List ℕ) × IsOfFirst P actions O w
  some-first [] decided other = other
  some-first (x ∷ actions) decided other =
      by (decided x (Contains-head x actions)) (some-first actions (λ y c. decided y (Contains-later x actions y c)) other)
    where
      by : P x ⊎ (P x → ⊥) → ((w : List ℕ) × IsOfFirst P actions O w) → (w : List ℕ) × IsOfFirst P (x ∷ actions) O w
      by (inl h) rest = (x.disposition, inl (h, refl))
      by (inr none) rest = (rest.0, inr (none, rest.1))

  pub first-append : (xs ys : List Action) (w : List ℕ) → IsOfFirst P (xs ++ ys) O w ↔ IsOfFirst P xs (IsOfFirst P ys O) w
  first-append [] ys w = (λ h. h, λ h. h)
  first-append (x ∷ xs) ys w =
      let rest = first-append xs ys w in (
        λ h. elim h [ inl here ↦ inl here | inr later ↦ inr (later.0, rest.0 later.1) ],
        λ h. elim h [ inl here ↦ inl here | inr later ↦ inr (later.0, rest.1 later.1) ],
      )

  -- those that aren't triggered may be left out
  pub first-kept : (keep : Action → Bool) (xs : List Action) (w : List ℕ) → ((x : Action) → Contains xs x → keep x ≡ false → P x → ⊥) → IsOfFirst P xs O w → IsOfFirst P (filter keep xs) O w
  first-kept keep [] w none h = h
  first-kept keep (x ∷ xs) w none h = by (keep x) refl h (first-kept keep xs w (λ y c. none y (Contains-later x xs y c)))
    where
      by : (b : Bool) → keep x ≡ b → IsOfFirst P (x ∷ xs) O w → (IsOfFirst P xs O w → IsOfFirst P (filter keep xs) O w)
          → IsOfFirst P (cond b (x ∷ filter keep xs) (filter keep xs)) O w
      by true e h rest = elim h [ inl here ↦ inl here | inr later ↦ inr (later.0, rest later.1) ]
      by false e h rest = elim h [ inl here ↦ absurd (none x (Contains-head x xs) e here.0) | inr later ↦ rest later.1 ]

  -- where all give the same word, and some is triggered
  pub same-first : (xs : List Action) (w : List ℕ) → ((x : Action) → Contains xs x → x.disposition ≡ w) → ((x : Action) → Contains xs x → P x ⊎ (P x → ⊥))
      → (some : Action) → Contains xs some → P some → IsOfFirst P xs O w
  same-first [] w same decided some c p = absurd (Contains-none some c)
  same-first (x ∷ xs) w same decided some c p =
      by (decided x (Contains-head x xs)) (same-first xs w (λ y d. same y (Contains-later x xs y d)) (λ y d. decided y (Contains-later x xs y d)) some)
    where
      by : P x ⊎ (P x → ⊥) → (Contains xs some → P some → IsOfFirst P xs O w) → IsOfFirst P (x ∷ xs) O w
      by (inl h) rest = inl (h, sym (same x (Contains-head x xs)))
      by (inr none) rest =
          inr (none, rest (elim (Contains-cases x xs some c) [ inl e ↦ absurd (none (subst P (sym e) p)) | inr d ↦ d ]) p)

-- ---- of its table

-- the disposition of the first that passes, or else this one
abbrev pub first_told : (TableAction → Bool) → List TableAction → Disposition → Disposition
first_told test held other = unwrap_or (option_map (λ (action : TableAction). action.disposition) (find test held)) other

pub told-append : (test : TableAction → Bool) (xs ys : List TableAction) (other : Disposition) → first_told test (xs ++ ys) other ≡ first_told test xs (first_told test ys other)
told-append test [] ys other = refl
told-append test (x ∷ xs) ys other = by (test x) (told-append test xs ys other)
  where
    by : (b : Bool) → first_told test (xs ++ ys) other ≡ first_told test xs (first_told test ys other)
        → unwrap_or (option_map (λ (action : TableAction). action.disposition) (cond b (Some x) (find test (xs ++ ys)))) other
        ≡ unwrap_or (option_map (λ (action : TableAction). action.disposition) (cond b (Some x) (find test xs))) (first_told test ys other)
    by true e = refl
    by false e = e

-- ---- of both

-- an action of the ruleset and one of the table: one is triggered where the other is, and they give the same disposition
pub record Agrees (P : Action → Type 0) (test : TableAction → Bool) (a : Action) (b : TableAction) : Type 0 where
  pub triggered : P a ↔ (test b ≡ true)
  pub disposition : disposition_word b.disposition ≡ a.disposition

abbrev pub Agree : (Action → Type 0) → (TableAction → Bool) → List Action → List TableAction → Type 0
Agree P test [] [] = Unit {0}
Agree P test [] (b ∷ held) = ⊥
Agree P test (a ∷ actions) [] = ⊥
Agree P test (a ∷ actions) (b ∷ held) = Agrees P test a b × Agree P test actions held

-- what is told of a word
module _ (P : Action → Type 0) (test : TableAction → Bool) (O : List ℕ → Type 0) (Told : List ℕ → Disposition → Type 0) (exact : (w : List ℕ) (d : Disposition) → w ≡ disposition_word d → Told w d) (other : Disposition)
    (last : (w : List ℕ) → O w → Told w other) where
  pub first-told : (actions : List Action) (held : List TableAction) → Agree P test actions held → (w : List ℕ) → IsOfFirst P actions O w → Told w (first_told test held other)
  first-told [] [] agree w h = last w h
  first-told [] (b ∷ held) agree w h = absurd agree
  first-told (a ∷ actions) [] agree w h = absurd agree
  first-told (a ∷ actions) (b ∷ held) agree w h = by (test b) refl h (first-told actions held agree.1 w)
    where
      by : (t : Bool) → test b ≡ t → IsOfFirst P (a ∷ actions) O w → (IsOfFirst P actions O w → Told w (first_told test held other))
          → Told w (unwrap_or (option_map (λ (action : TableAction). action.disposition) (cond t (Some b) (find test held))) other)
      by true e h rest = elim h [
        | inl here ↦ exact w b.disposition (here.1 ∙ sym agree.0.disposition)
        | inr later ↦ absurd (later.0 (agree.0.triggered.1 e))
      ]
      by false e h rest = elim h [
        | inl here ↦ absurd (let clash : true ≡ false = sym (agree.0.triggered.0 here.0) ∙ e in cc)
        | inr later ↦ rest later.1
      ]
