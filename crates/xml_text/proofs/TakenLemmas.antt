-- Runs that are taken, by any reader.
use Rattle.std.proofs.Common.{◌≡◌, ℕ, zero, suc, ◌+◌, ◌<◌, ◌≤◌, Bool, true, false, Option, Some, None, List, [], ◌∷◌, ◌++◌, length, take, drop, get_or, cond, refl, sym, ap, ◌∙◌, subst, add_comm, arith}
use Rattle.std.specs.List.{list_all}
use Rattle.std.proofs.lemmas.List.{take-append-drop, take-take, drop-take, take_all, length-drop}
use Rattle.std.proofs.lemmas.List.Folds.{list_all-append}
use Rattle.idn_text.specs.Stops.{run}
use Rattle.idn_text.proofs.StopLemmas.{run_append}
use Rattle.xml_text.specs.declared.run.Run.{Run}
use Rattle.xml_text.specs.inner.Runs.{IsTaken, Takes, GoesOn, taken_as, goes_on, is_in_line}
use Rattle.xml_text.proofs.ListLemmas.{both_and}

-- the first byte, and the others
pub first_of : (bytes : List ℕ) (n : ℕ) → 0 < n → n ≤ length bytes → take n bytes ≡ get_or bytes 0 0 ∷ drop 1 (take n bytes)
first_of bytes zero some within = absurd (omega arith)
first_of [] (suc n) some within = absurd (omega arith)
first_of (b ∷ bs) (suc n) some within = refl

pub after_first : (n : ℕ) (bytes : List ℕ) → drop 1 (take (n + 1) bytes) ≡ take n (drop 1 bytes)
after_first n bytes = ap (λ (m : ℕ). drop 1 (take m bytes)) (add_comm n 1) ∙ drop-take 1 n bytes

pub run_more : (r : Run) (text others : List ℕ) (n : ℕ) → others ≡ drop 1 text → list_all (goes_on r) (take n others) ≡ true → list_all (goes_on r) (drop 1 (take (n + 1) text)) ≡ true
run_more r text others n is are = ap (list_all (goes_on r)) (after_first n text ∙ ap (take n) (sym is)) ∙ are

pub run_all : (r : Run) (text others : List ℕ) (n : ℕ) → others ≡ drop 1 text → length others ≤ n → list_all (goes_on r) (take n others) ≡ true → list_all (goes_on r) (drop 1 (take (length text) text)) ≡ true
run_all r text others n is past are = ap (λ (front : List ℕ). list_all (goes_on r) (drop 1 front)) (take_all (length text) text (omega arith)) ∙ ap (list_all (goes_on r)) (sym is ∙ sym (take_all n others past)) ∙ are

pub not_empty_is : (xs : List ℕ) → 0 < length xs → xs ≡ get_or xs 0 0 ∷ drop 1 xs
not_empty_is [] some = absurd (omega arith)
not_empty_is (x ∷ xs) some = refl

pub further : (text : List ℕ) (i n : ℕ) → take (i + n) text ≡ take i text ++ take n (drop i text)
further text i n =
    let within : i ≤ i + n = omega arith in
    sym (take-append-drop i (take (i + n) text)) ∙ ap (λ (front : List ℕ). front ++ drop i (take (i + n) text)) (take-take i (i + n) text within)
    ∙ ap (λ (rest : List ℕ). take i text ++ rest) (drop-take i n text)

-- one byte
pub one_taken : {S : Type 0} (step : S → ℕ → Option S) (first : Option S) (bytes : List ℕ) (o : Bool) (s : S) → 0 < length bytes → first ≡ taken_as o s
    → Takes step first bytes (cond o (Some 1) None) s
one_taken step first [] o s some e = absurd (omega arith)
one_taken step first (b ∷ bs) true s some e = record { some = omega arith; within = omega arith; line = refl; leads = e }
one_taken step first (b ∷ bs) false s some e = e

pub one_is : {S : Type 0} (step : S → ℕ → Option S) (first : Option S) (bytes : List ℕ) (o : Bool) (r : Option ℕ) (s : S) → 0 < length bytes → r ≡ cond o (Some 1) None → first ≡ taken_as o s
    → Takes step first bytes r s
one_is step first bytes o r s some is e = subst (λ (r : Option ℕ). Takes step first bytes r s) (sym is) (one_taken step first bytes o s some e)

-- more than one, if those after the first lead on
pub run_taken : {S : Type 0} (step : S → ℕ → Option S) (first : Option S) (bytes : List ℕ) (n : ℕ) (r s : S) → 0 < n → n ≤ length bytes → list_all is_in_line (drop 1 (take n bytes)) ≡ true
    → first ≡ Some r → run step (Some r) (drop 1 (take n bytes)) ≡ Some s → Takes step first bytes (Some n) s
run_taken step first bytes n r s some within line is leads =
    record { some = some; within = within; line = line; leads = ap (λ (o : Option _). run step o (drop 1 (take n bytes))) is ∙ leads }

-- what was read before, and a run
pub taken_further : {S : Type 0} (step : S → ℕ → Option S) (start s t : S) (text rest : List ℕ) (i n : ℕ) → rest ≡ drop i text → run step (Some start) (take i text) ≡ Some s
    → IsTaken step (step s (get_or rest 0 0)) rest n t → run step (Some start) (take (i + n) text) ≡ Some t
taken_further step start s t text rest i n same e is =
    ap (run step (Some start)) (further text i n ∙ ap (λ (x : List ℕ). take i text ++ take n x) (sym same)) ∙ run_append step (take i text) (take n rest) (Some start)
    ∙ ap (λ (o : Option _). run step o (take n rest)) e ∙ ap (run step (Some s)) (first_of rest n is.some is.within) ∙ is.leads

-- ---- runs after a run

rest_of_both : (xs ys : List ℕ) → 0 < length xs → drop 1 (xs ++ ys) ≡ drop 1 xs ++ ys
rest_of_both [] ys some = absurd (omega arith)
rest_of_both (x ∷ xs) ys some = refl

-- a run, and what follows it on its line
pub taken_on : {S : Type 0} (step : S → ℕ → Option S) (first : Option S) (bytes rest : List ℕ) (n m : ℕ) (s t : S) → rest ≡ drop n bytes → IsTaken step first bytes n s → GoesOn step s rest m t
    → IsTaken step first bytes (n + m) t
taken_on step first bytes rest n m s t same is more =
    let xs = take n bytes in
    let ys = take m rest in
    let both : drop 1 (take (n + m) bytes) ≡ drop 1 xs ++ ys =
    ap (drop 1) (further bytes n m ∙ ap (λ (x : List ℕ). take n bytes ++ take m x) (sym same)) ∙ rest_of_both xs ys (grind (arith, is.some, is.within)) in
    record {
      some = omega (arith, is.some);
      within = omega (arith, is.within, more.within, ap length same ∙ length-drop n bytes);
      line = ap (list_all is_in_line) both ∙ list_all-append is_in_line (drop 1 xs) ys ∙ both_and (list_all is_in_line (drop 1 xs)) (list_all is_in_line ys) is.line more.line;
      leads = ap (run step first) both ∙ run_append step (drop 1 xs) ys first ∙ ap (λ (o : Option _). run step o ys) is.leads ∙ more.leads;
    }

pub no_more : {S : Type 0} (step : S → ℕ → Option S) (s : S) (bytes : List ℕ) → GoesOn step s bytes 0 s
no_more step s bytes = record { within = omega arith; line = refl; leads = refl }

pub one_more : {S : Type 0} (step : S → ℕ → Option S) (s t : S) (bytes : List ℕ) → 0 < length bytes → is_in_line (get_or bytes 0 0) ≡ true → step s (get_or bytes 0 0) ≡ Some t
    → GoesOn step s bytes 1 t
one_more step s t [] some line is = absurd (omega arith)
one_more step s t (b ∷ bs) some line is = record { within = omega arith; line = both_and (is_in_line b) true line refl; leads = is }

pub run_goes_on : {S : Type 0} (step : S → ℕ → Option S) (s t : S) (bytes : List ℕ) (n : ℕ) → is_in_line (get_or bytes 0 0) ≡ true → IsTaken step (step s (get_or bytes 0 0)) bytes n t
    → GoesOn step s bytes n t
run_goes_on step s t bytes n line is =
    let split = first_of bytes n is.some is.within in
    record {
      within = is.within;
      line = ap (list_all is_in_line) split ∙ both_and (is_in_line (get_or bytes 0 0)) (list_all is_in_line (drop 1 (take n bytes))) line is.line;
      leads = ap (run step (Some s)) split ∙ is.leads;
    }

-- and what follows it
pub on_further : {S : Type 0} (step : S → ℕ → Option S) (s t u : S) (bytes rest : List ℕ) (n m : ℕ) → rest ≡ drop n bytes → GoesOn step s bytes n t → GoesOn step t rest m u
    → GoesOn step s bytes (n + m) u
on_further step s t u bytes rest n m same is more =
    let both : take (n + m) bytes ≡ take n bytes ++ take m rest = further bytes n m ∙ ap (λ (x : List ℕ). take n bytes ++ take m x) (sym same) in
    record {
      within = omega (arith, is.within, more.within, ap length same ∙ length-drop n bytes);
      line = ap (list_all is_in_line) both ∙ list_all-append is_in_line (take n bytes) (take m rest) ∙ both_and (list_all is_in_line (take n bytes)) (list_all is_in_line (take m rest)) is.line more.line;
      leads = ap (run step (Some s)) both ∙ run_append step (take n bytes) (take m rest) (Some s) ∙ ap (λ (o : Option _). run step o (take m rest)) is.leads ∙ more.leads;
    }
