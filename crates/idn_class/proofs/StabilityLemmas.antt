-- What the quick checks say of one code point.
use Rattle.std.proofs.Common.{◌≡◌, ◌≢◌, ℕ, Bool, true, false, not, ◌==◌, ◌&&◌, List, [], ◌∷◌, ◌++◌, refl, sym, ap, ◌∙◌, inl, inr, cond, bytes_eq, append-nil, ◌<◌, ◌≤◌, length, get_or, arith, zero-le}
use Rattle.std.proofs.lemmas.Bool.Decides.{nat_tests}
use Rattle.std.specs.Cmp.Lexicographic.{bytes_decides}
use Rattle.std.proofs.lemmas.Bool.{cases_Bool}
use Rattle.ucd_normal.specs.declared.forms.Form.{Form}
use Rattle.ucd_normal.specs.declared.forms.Form.TheVariants.{Nfkd, Nfkc}
use Rattle.ucd_normal.specs.declared.forms.QuickCheck.TheVariants.{Yes, No}
use Rattle.ucd_normal.specs.QuickCheck.{quick_check}
use Rattle.unicode.specs.CaseFolding.{full_fold, full_folding}
use Rattle.unicode_normalization.specs.Forms.{nfkc, IsInForm}
use Rattle.unicode_normalization.specs.Order.{is_ordered, is_starter}
use Rattle.unicode_normalization.specs.Compose.{compose, compose_after}
use Rattle.unicode_normalization.specs.QuickCheck.{worse, worst, quick_check_text}
use Rattle.unicode_normalization.proofs.FormsLemmas.{normalize_idem, quick_check_text-Yes, quick_check_text-No, nfkc-by_nfkd}
use Rattle.caseless.specs.Caseless.{default_case_fold}
use Rattle.caseless.proofs.CaselessLemmas.{default_case_fold-nil, default_case_fold-cons, full_fold-none}
use Rattle.idn_class.specs.Class.{is_unstable}

quick_check_one : (form : Form) (c : ℕ) → quick_check_text form (c ∷ []) ≡ worse (quick_check form c) Yes
unfolding quick_check_text is_ordered worst
quick_check_one form c = refl

-- the form keeps the code point where the check says yes, and changes it where it says no
pub in_form_alone : (form : Form) (c : ℕ) → quick_check form c ≡ Yes → IsInForm form (c ∷ [])
in_form_alone form c y = quick_check_text-Yes form (c ∷ []) (quick_check_one form c ∙ ap (λ v. worse v Yes) y)

pub not_in_form_alone : (form : Form) (c : ℕ) → quick_check form c ≡ No → ¬ (IsInForm form (c ∷ []))
not_in_form_alone form c n = quick_check_text-No form (c ∷ []) (quick_check_one form c ∙ ap (λ v. worse v Yes) n)

compose_one : (c : ℕ) → compose (c ∷ []) ≡ c ∷ []
unfolding compose compose_after
compose_one c = by_case (is_starter c)
  where
    by_case : (b : Bool) → cond b (c ∷ []) (c ∷ []) ≡ c ∷ []
    by_case true = refl
    by_case false = refl

-- a code point that does not decompose stays in the composed form too
pub nfkc_alone : (c : ℕ) → quick_check Nfkd c ≡ Yes → nfkc (c ∷ []) ≡ c ∷ []
nfkc_alone c y = nfkc-by_nfkd (c ∷ []) ∙ ap compose (in_form_alone Nfkd c y) ∙ compose_one c

-- NFKC changes the code point, so it is unstable
pub is_unstable-changed : (c : ℕ) → nfkc (c ∷ []) ≢ c ∷ [] → is_unstable c ≡ true
unfolding is_unstable
is_unstable-changed c changed =
    let text = default_case_fold (nfkc (c ∷ [])) in
    elim (cases_Bool (bytes_eq (nfkc text) (c ∷ []))) [
      | inl same ↦
          let kept = (bytes_decides (nfkc text) (c ∷ [])).0 same in
          absurd (changed (ap nfkc (sym kept) ∙ normalize_idem Nfkc text ∙ kept))
      | inr other ↦ ap not other
    ]

fold_one : (c : ℕ) → default_case_fold (c ∷ []) ≡ full_fold c
fold_one c = default_case_fold-cons c [] ∙ ap (λ l. full_fold c ++ l) default_case_fold-nil ∙ append-nil (full_fold c)

-- NFKC keeps the code point and what it folds to, so the folding decides
pub is_unstable-one : (c d : ℕ) → nfkc (c ∷ []) ≡ c ∷ [] → full_fold c ≡ d ∷ [] → nfkc (d ∷ []) ≡ d ∷ [] → is_unstable c ≡ not (d == c)
unfolding is_unstable
is_unstable-one c d kept folds kept_too =
    let text : nfkc (default_case_fold (nfkc (c ∷ []))) ≡ d ∷ [] =
    ap (λ l. nfkc (default_case_fold l)) kept ∙ ap nfkc (fold_one c ∙ folds) ∙ kept_too in
    ap (λ l. not (bytes_eq l (c ∷ []))) text ∙ ap not (one_eq (d == c))
  where
    one_eq : (b : Bool) → (b && true) ≡ b
    one_eq true = refl
    one_eq false = refl

single : (xs : List ℕ) (x : ℕ) → 1 ≤ length xs → length xs < 2 → x ≡ get_or xs 0 x → xs ≡ x ∷ []
single [] x some few e = absurd (omega arith)
single (y ∷ []) x some few e = ap (λ z. z ∷ []) (sym e)
single (y ∷ z ∷ ys) x some few e = absurd (omega (arith, zero-le {n = length ys}))

eq_itself : (c : ℕ) → not (c == c) ≡ false
eq_itself c = grind (arith, nat_tests)

-- no entry, so the code point folds to itself
pub is_unstable-unfolded : (c : ℕ) (table : List ℕ) → nfkc (c ∷ []) ≡ c ∷ [] → table ≡ full_folding c → length table < 1 → is_unstable c ≡ false
is_unstable-unfolded c table kept same none = is_unstable-one c c kept (full_fold-none c table same none) kept ∙ eq_itself c
