-- What is told of a line is the first thing that is wrong with it.
use Rattle.std.proofs.Common.{◌≡◌, inl, inr, Option, Some, None, ℕ, ◌<◌, Bool, true, false, not, cond, List, Result, Ok, Err, refl, sym, ap, ◌∙◌, arith}
use Rattle.std.specs.List.{list_any}
use Rattle.std.specs.Str.Lines.{strip_carriage_return}
use Rattle.std.proofs.lemmas.Bool.{false_from_ne_true, not-true}
use Rattle.ruleset_text.specs.declared.fault.DefinitionFault.{DefinitionFault}
use Rattle.ruleset_text.specs.declared.keyword.Keyword.{Keyword}
use Rattle.ruleset_text.specs.Definitions.{Definitions, defined}
use Rattle.ruleset_text.specs.Entries.{EntryForm}
use Rattle.ruleset_text.proofs.DefinitionOrderLemmas.{wrong_is, wrong_from}
use Rattle.variant_table.specs.Faults.{LineFault, Limit, Syntax, BadClass, SameVariant, SameSource, NoSuchName}
use Rattle.variant_table.specs.Entries.{Entry, TableValue}
use Rattle.variant_table.specs.Conditions.{is_too_long, is_over_limit, has_bad_class, has_repeat, has_source_in}
use Rattle.variant_table.specs.Forms.{HasForm, written_out, knows_all, entries_of}
use Rattle.variant_table.specs.DefinitionLines.{line_fault, room_for_definitions, DefinesWrong}
use Rattle.variant_table.specs.Texts.{HasSomeForm, LineCondition, too_long, no_form, over_limit, no_such_name, bad_class, same_variant, same_source, order_of, fault_of, Holds, IsSuch, IsFirstTold, IsLineFault}
use Rattle.variant_table.specs.Reading.{◌>>=◌, is_skipped, defining, with_definition, with_form, with_form_of, with_line, with_raw_line}
use Rattle.variant_table.proofs.TestLemmas.{told_by, with_form-by}
use Rattle.variant_table.proofs.FormLemmas.{skipped, defines, of_entries, formless, form_of, one_form_of, some_form-skipped, some_form-none, skipped-no_definition, with_line-skipped, with_line-defines, with_line-form, with_line-formless}

-- ---- the fault of a line

nothing_first : (d : LineCondition) → order_of d < 1 → ⊥
nothing_first too_long l = omega (arith, l)
nothing_first no_form l = omega (arith, l)
nothing_first over_limit l = omega (arith, l)
nothing_first no_such_name l = omega (arith, l)
nothing_first bad_class l = omega (arith, l)
nothing_first same_variant l = omega (arith, l)
nothing_first same_source l = omega (arith, l)

contradicts : (b : Bool) → b ≡ true → b ≡ false → ⊥
contradicts b e f = let g : true ≡ false = sym e ∙ f in cc

module _ (bytes : ℕ) (table : TableValue) (line : List ℕ) where
  abbrev over : EntryForm → Bool
  over = (λ f. is_over_limit table.version table.definitions table.entries (written_out f))

  abbrev unnamed : EntryForm → Bool
  unnamed = (λ f. not (knows_all table.definitions f.mapped))

  abbrev bad : EntryForm → Bool
  bad = (λ f. list_any (has_bad_class table.definitions.properties) (entries_of table.definitions f))

  abbrev again : EntryForm → Bool
  again = (λ f. list_any has_repeat (entries_of table.definitions f))

  abbrev known_source : EntryForm → Bool
  known_source = (λ f. list_any (has_source_in table.entries) (entries_of table.definitions f))

  -- no test is true of the form of a line, where it is false of the one that was read
  never : (form : EntryForm) → HasForm table.version (strip_carriage_return line) form → (test : EntryForm → Bool) → test form ≡ false → IsSuch table.version line test → ⊥
  never form h test is_false s = contradicts (test form) (ap test (one_form_of table.version (strip_carriage_return line) form s.0 h s.1) ∙ s.2) is_false

  such : (form : EntryForm) → HasForm table.version (strip_carriage_return line) form → (test : EntryForm → Bool) → test form ≡ true → IsSuch table.version line test
  such form h test is_true = (form, h, is_true)

  err_is : (f g : LineFault) (r : Result (List Entry) LineFault) → r ≡ Err f → r ≡ Err g → f ≡ g
  err_is f g r a b = cc

  no_ok : {X : Type 0} (f : LineFault) (b : List Entry) (r : Result (List Entry) LineFault) → r ≡ Err f → r ≡ Ok b → X
  no_ok f b r e g = absurd cc

  table_err_is : (f g : LineFault) (r : Result TableValue LineFault) → r ≡ Err f → r ≡ Err g → f ≡ g
  table_err_is f g r a b = cc

  no_table : {X : Type 0} (f : LineFault) (t : TableValue) (r : Result TableValue LineFault) → r ≡ Err f → r ≡ Ok t → X
  no_table f t r e g = absurd cc

  raw_line : is_too_long table.version bytes line ≡ false → with_raw_line bytes table line ≡ with_line table (strip_carriage_return line)
  unfolding with_raw_line
  raw_line h = ap (λ b. cond b (Err Limit) (with_line table (strip_carriage_return line))) h

  raw_line-long : is_too_long table.version bytes line ≡ true → with_raw_line bytes table line ≡ Err Limit
  unfolding with_raw_line
  raw_line-long h = ap (λ b. cond b (Err Limit) (with_line table (strip_carriage_return line))) h

  -- the fault of entries is that of the table with them
  of_entries_err : (f : LineFault) (r : Result (List Entry) LineFault) → (r >>= λ all. Ok (record table { entries = all })) ≡ Err f → r ≡ Err f
  of_entries_err f (Ok es) e = absurd cc
  of_entries_err f (Err g) e = cc

  table_fault : (form : EntryForm) (f : LineFault) → with_form table.version table.definitions table.entries form ≡ Err f → with_form_of table form ≡ Err f
  table_fault form f e = ap (λ r. r >>= λ all. Ok (record table { entries = all })) e

  wrong_definition : (f : LineFault) (r : Result Definitions DefinitionFault) → defining table r ≡ Err f → (wrong : DefinitionFault) × (r ≡ Err wrong) × (f ≡ line_fault wrong)
  wrong_definition f (Ok d) e = absurd cc
  wrong_definition f (Err wrong) e = (wrong, refl, cc)

  definition_err : (keyword : Keyword) (after : List (List ℕ)) → with_definition table keyword after ≡ defining table (defined (room_for_definitions table) table.definitions keyword after)
  unfolding with_definition
  definition_err keyword after = refl

  module _ (form : EntryForm) (h : HasForm table.version (strip_carriage_return line) form) (short : is_too_long table.version bytes line ≡ false) where
    before_over_limit : (d : LineCondition) → order_of d < 3 → Holds bytes table line d → ⊥
    before_over_limit too_long l k = contradicts (is_too_long table.version bytes line) k short
    before_over_limit no_form l k = k (inr (inr (inl (form, h))))
    before_over_limit over_limit l k = omega (arith, l)
    before_over_limit no_such_name l k = omega (arith, l)
    before_over_limit bad_class l k = omega (arith, l)
    before_over_limit same_variant l k = omega (arith, l)
    before_over_limit same_source l k = omega (arith, l)

    before_no_such_name : over form ≡ false → (d : LineCondition) → order_of d < 4 → Holds bytes table line d → ⊥
    before_no_such_name o too_long l k = contradicts (is_too_long table.version bytes line) k short
    before_no_such_name o no_form l k = k (inr (inr (inl (form, h))))
    before_no_such_name o over_limit l k = never form h over o k
    before_no_such_name o no_such_name l k = omega (arith, l)
    before_no_such_name o bad_class l k = omega (arith, l)
    before_no_such_name o same_variant l k = omega (arith, l)
    before_no_such_name o same_source l k = omega (arith, l)

    before_bad_class : over form ≡ false → unnamed form ≡ false → (d : LineCondition) → order_of d < 5 → Holds bytes table line d → ⊥
    before_bad_class o n too_long l k = contradicts (is_too_long table.version bytes line) k short
    before_bad_class o n no_form l k = k (inr (inr (inl (form, h))))
    before_bad_class o n over_limit l k = never form h over o k
    before_bad_class o n no_such_name l k = never form h unnamed n k
    before_bad_class o n bad_class l k = omega (arith, l)
    before_bad_class o n same_variant l k = omega (arith, l)
    before_bad_class o n same_source l k = omega (arith, l)

    before_same_variant : over form ≡ false → unnamed form ≡ false → bad form ≡ false → (d : LineCondition) → order_of d < 6 → Holds bytes table line d → ⊥
    before_same_variant o n b too_long l k = contradicts (is_too_long table.version bytes line) k short
    before_same_variant o n b no_form l k = k (inr (inr (inl (form, h))))
    before_same_variant o n b over_limit l k = never form h over o k
    before_same_variant o n b no_such_name l k = never form h unnamed n k
    before_same_variant o n b bad_class l k = never form h bad b k
    before_same_variant o n b same_variant l k = omega (arith, l)
    before_same_variant o n b same_source l k = omega (arith, l)

    before_same_source : over form ≡ false → unnamed form ≡ false → bad form ≡ false → again form ≡ false → (d : LineCondition) → order_of d < 7 → Holds bytes table line d → ⊥
    before_same_source o n b r too_long l k = contradicts (is_too_long table.version bytes line) k short
    before_same_source o n b r no_form l k = k (inr (inr (inl (form, h))))
    before_same_source o n b r over_limit l k = never form h over o k
    before_same_source o n b r no_such_name l k = never form h unnamed n k
    before_same_source o n b r bad_class l k = never form h bad b k
    before_same_source o n b r same_variant l k = never form h again r k
    before_same_source o n b r same_source l k = omega (arith, l)

    entries_fault : (f : LineFault) (o k b r s : Bool) → over form ≡ o → knows_all table.definitions form.mapped ≡ k → bad form ≡ b → again form ≡ r → known_source form ≡ s
        → told_by table.entries (entries_of table.definitions form) o k b r s ≡ Err f → IsFirstTold bytes table line f
    entries_fault f true k b r s i j m p q is = (over_limit, err_is Limit f (Err Limit) refl is, such form h over i, before_over_limit)
    entries_fault f false false b r s i j m p q is = (no_such_name, err_is NoSuchName f (Err NoSuchName) refl is, such form h unnamed (ap not j), before_no_such_name i)
    entries_fault f false true true r s i j m p q is = (bad_class, err_is BadClass f (Err BadClass) refl is, such form h bad m, before_bad_class i (ap not j))
    entries_fault f false true false true s i j m p q is = (same_variant, err_is SameVariant f (Err SameVariant) refl is, such form h again p, before_same_variant i (ap not j) m)
    entries_fault f false true false false true i j m p q is = (same_source, err_is SameSource f (Err SameSource) refl is, such form h known_source q, before_same_source i (ap not j) m p)
    entries_fault f false true false false false i j m p q is = no_ok f _ (Err f) refl (sym is)

  formless_first : is_too_long table.version bytes line ≡ false → (d : LineCondition) → order_of d < 2 → Holds bytes table line d → ⊥
  formless_first h too_long l k = contradicts (is_too_long table.version bytes line) k h
  formless_first h no_form l k = omega (arith, l)
  formless_first h over_limit l k = omega (arith, l)
  formless_first h no_such_name l k = omega (arith, l)
  formless_first h bad_class l k = omega (arith, l)
  formless_first h same_variant l k = omega (arith, l)
  formless_first h same_source l k = omega (arith, l)

  -- what is told of a line is its first fault
  pub line_fault_is : (f : LineFault) → with_raw_line bytes table line ≡ Err f → IsLineFault bytes table line f
  line_fault_is f e = by_cases (is_too_long table.version bytes line) refl
    where
      by_cases : (b : Bool) → is_too_long table.version bytes line ≡ b → IsLineFault bytes table line f
      by_cases true h = inl (too_long, table_err_is Limit f (with_raw_line bytes table line) (raw_line-long h) e, h, λ d l k. nothing_first d l)
      by_cases false h =
          let here : with_line table (strip_carriage_return line) ≡ Err f = sym (raw_line h) ∙ e in
          elim (form_of table.version (strip_carriage_return line)) [
            | skipped s ↦ no_table f table (with_line table (strip_carriage_return line)) here (with_line-skipped table (strip_carriage_return line) s)
            | defines keyword after s n ↦
                let w = wrong_definition f (defined (room_for_definitions table) table.definitions keyword after)
                (sym (definition_err keyword after) ∙ sym (with_line-defines table (strip_carriage_return line) keyword after s n) ∙ here) in
                inr (h, (keyword, after, w.0, n, wrong_is (room_for_definitions table) table.definitions keyword after w.0 w.1, w.2))
            | of_entries form i ↦ inl (entries_fault form i h f _ _ _ _ _ refl refl refl refl refl
                (sym (with_form-by table.version table.definitions table.entries form _ _ _ _ _ refl refl refl refl refl)
                ∙ of_entries_err f (with_form table.version table.definitions table.entries form) (sym (with_line-form table (strip_carriage_return line) form i) ∙ here)))
            | formless s n none_here ↦ inl (
              no_form,
              table_err_is Syntax f (with_line table (strip_carriage_return line)) (with_line-formless table (strip_carriage_return line) s n none_here) here,
              some_form-none table.version (strip_carriage_return line) s n none_here,
              formless_first h,
            )
          ]

  -- ---- the other way

  test_false : (form : EntryForm) → HasForm table.version (strip_carriage_return line) form → (test : EntryForm → Bool) → (IsSuch table.version line test → ⊥) → test form ≡ false
  test_false form h test never_so = false_from_ne_true (test form) (λ is_true. never_so (such form h test is_true))

  -- a line of a form of which a test is true
  by_form : (f : LineFault) (test : EntryForm → Bool) → IsSuch table.version line test
      → ((form : EntryForm) → HasForm table.version (strip_carriage_return line) form → test form ≡ true → with_form table.version table.definitions table.entries form ≡ Err f)
      → with_line table (strip_carriage_return line) ≡ Err f
  by_form f test s at = with_line-form table (strip_carriage_return line) s.0 s.1 ∙ table_fault s.0 f (at s.0 s.1 s.2)

  formless_line : (HasSomeForm table.version (strip_carriage_return line) → ⊥) → with_line table (strip_carriage_return line) ≡ Err Syntax
  formless_line nothing = elim (form_of table.version (strip_carriage_return line)) [
    | skipped k ↦ absurd (nothing (some_form-skipped table.version (strip_carriage_return line) k))
    | defines keyword after k n ↦ absurd (nothing (inr (inr (inr (keyword, after, n)))))
    | of_entries form h ↦ absurd (nothing (inr (inr (inl (form, h)))))
    | formless k n none_here ↦ with_line-formless table (strip_carriage_return line) k n none_here
  ]

  not_long : (d : LineCondition) → order_of too_long < order_of d → ((c : LineCondition) → order_of c < order_of d → Holds bytes table line c → ⊥) → is_too_long table.version bytes line ≡ false
  not_long d l first = false_from_ne_true (is_too_long table.version bytes line) (first too_long l)

  module _ (first_of : LineCondition) (first : (d : LineCondition) → order_of d < order_of first_of → Holds bytes table line d → ⊥) (form : EntryForm) (h : HasForm table.version (strip_carriage_return line) form) where
    not_over : order_of over_limit < order_of first_of → over form ≡ false
    not_over l = test_false form h over (first over_limit l)

    all_known : order_of no_such_name < order_of first_of → knows_all table.definitions form.mapped ≡ true
    all_known l = true_of (knows_all table.definitions form.mapped) (test_false form h unnamed (first no_such_name l))
      where
        true_of : (b : Bool) → not b ≡ false → b ≡ true
        true_of true e = refl
        true_of false e = absurd cc

    not_bad : order_of bad_class < order_of first_of → bad form ≡ false
    not_bad l = test_false form h bad (first bad_class l)

    not_again : order_of same_variant < order_of first_of → again form ≡ false
    not_again l = test_false form h again (first same_variant l)

  -- the first condition that holds is told
  first_told : (c : LineCondition) → Holds bytes table line c → ((d : LineCondition) → order_of d < order_of c → Holds bytes table line d → ⊥) → with_raw_line bytes table line ≡ Err (fault_of c)
  first_told too_long k first = raw_line-long k
  first_told no_form k first = raw_line (not_long no_form (omega arith) first) ∙ formless_line k
  first_told over_limit k first =
      raw_line (not_long over_limit (omega arith) first)
      ∙ by_form Limit over k (λ form h is_true. with_form-by table.version table.definitions table.entries form true _ _ _ _ is_true refl refl refl refl)
  first_told no_such_name k first =
      raw_line (not_long no_such_name (omega arith) first)
      ∙ by_form NoSuchName unnamed k (λ form h is_true. with_form-by table.version table.definitions table.entries form false false _ _ _
      (not_over no_such_name first form h (omega arith)) (not-true (knows_all table.definitions form.mapped) is_true) refl refl refl)
  first_told bad_class k first =
      raw_line (not_long bad_class (omega arith) first)
      ∙ by_form BadClass bad k (λ form h is_true. with_form-by table.version table.definitions table.entries form false true true _ _
      (not_over bad_class first form h (omega arith)) (all_known bad_class first form h (omega arith)) is_true refl refl)
  first_told same_variant k first =
      raw_line (not_long same_variant (omega arith) first)
      ∙ by_form SameVariant again k (λ form h is_true. with_form-by table.version table.definitions table.entries form false true false true _
      (not_over same_variant first form h (omega arith)) (all_known same_variant first form h (omega arith)) (not_bad same_variant first form h (omega arith)) is_true refl)
  first_told same_source k first =
      raw_line (not_long same_source (omega arith) first)
      ∙ by_form SameSource known_source k (λ form h is_true. with_form-by table.version table.definitions table.entries form false true false false true
      (not_over same_source first form h (omega arith)) (all_known same_source first form h (omega arith)) (not_bad same_source first form h (omega arith))
      (not_again same_source first form h (omega arith)) is_true)

  no_keyword : (keyword : Keyword) (after : List (List ℕ)) → (let o : Option (Keyword × List (List ℕ)) = None in o) ≡ Some (keyword, after) → ⊥
  no_keyword keyword after e = cc

  -- and so is the fault of a definition
  definition_told : (f : LineFault) → is_too_long table.version bytes line ≡ false → DefinesWrong table (strip_carriage_return line) f → with_raw_line bytes table line ≡ Err f
  definition_told f short (keyword, after, wrong, n, e, is) =
      let not_skipped : is_skipped (strip_carriage_return line) ≡ false = false_from_ne_true (is_skipped (strip_carriage_return line)) (λ k.
      no_keyword keyword after (sym (skipped-no_definition table.version (strip_carriage_return line) k) ∙ n)) in
      raw_line short ∙ with_line-defines table (strip_carriage_return line) keyword after not_skipped n ∙ definition_err keyword after
      ∙ ap (defining table) (wrong_from (room_for_definitions table) table.definitions keyword after wrong e) ∙ ap (λ x. Err x) (sym is)

  pub told : (f : LineFault) → IsLineFault bytes table line f → with_raw_line bytes table line ≡ Err f
  told f (inl c) = first_told c.0 c.2 c.3 ∙ ap (λ k. Err k) c.1
  told f (inr w) = definition_told f w.0 w.1
