-- Entries that are added one after the other.
use Rattle.std.proofs.Common.{◌≡◌, ℕ, zero, suc, ◌+◌, Bool, true, false, cond, Ok, Err, List, [], ◌∷◌, ◌++◌, map, sym, ap, subst, ◌∙◌, arith, append_assoc}
use Rattle.std.specs.List.{All, Contains, filter, flat_map, list_any, range_with_len}
use Rattle.std.proofs.lemmas.List.{append-nil, map-append}
use Rattle.std.proofs.lemmas.List.Concat.{flat_map-append}
use Rattle.std.proofs.lemmas.List.Elements.{All-append, All-nil, All-push, filter-append}
use Rattle.lgr_text.specs.Records.{Entry, Ruleset}
use Rattle.lgr_text.specs.Repertoire.{kept_sources, may_be, sources}
use Rattle.lgr_table.specs.Entries.{HasOneType, all_entries, entries_of, entry_with}
use Rattle.lgr_text.specs.Names.{asked_by}
use Rattle.lgr_table.specs.Numbers.{Numbering}
use Rattle.lgr_table.specs.inner.EntrySteps.{AddsEntry, AddsSources}
use Rattle.lgr_table.specs.inner.Steps.{AddsEntries, AreAmong}
use Rattle.ruleset_text.specs.Entries.{Mapped}
use Rattle.variant_table.specs.Building.{form_of}
use Rattle.variant_table.specs.Conditions.{has_bad_class, has_repeat, has_source_in, is_over_limit}
use Rattle.variant_table.specs.Entries.{TableValue}
use Rattle.variant_table.specs.Entries as tables
use Rattle.variant_table.specs.Faults.{Limit, BadClass, SameVariant, SameSource, NoSuchName}
use Rattle.variant_table.specs.Forms.{entry_of, knows_all}
use Rattle.variant_table.specs.Reading.{◌>>=◌, with_entries, with_form, with_form_of}

-- ---- the sources of an entry

module _ (may : ℕ → Bool) (n : Numbering) (e : Entry) where
  pub sources-none : (t : TableValue) → AddsSources may n e [] t t
  sources-none t = record {
    added = sym (ap (λ l. record t { entries = l }) (append-nil t.entries));
    of_one_type = All-nil (HasOneType e);
  }

  pub sources-more : (xs ys : List (List ℕ)) (t u v : TableValue) → AddsSources may n e xs t u → AddsSources may n e ys u v → AddsSources may n e (xs ++ ys) t v
  sources-more xs ys t u v a b =
      let f : List ℕ → tables.Entry = entry_with may n e in
      let p : List ℕ → Bool = may_be may in
      let cut : map f (filter p (xs ++ ys)) ≡ map f (filter p xs) ++ map f (filter p ys) =
      ap (map f) (filter-append p xs ys) ∙ map-append f (filter p xs) (filter p ys) in
      record {
        added = b.added ∙ ap (λ (w : TableValue). record w { entries = w.entries ++ map f (filter p ys) }) a.added
            ∙ ap (λ l. record t { entries = l }) (append_assoc t.entries (map f (filter p xs)) (map f (filter p ys)) ∙ ap (λ l. t.entries ++ l) (sym cut));
        of_one_type = subst (All (HasOneType e)) (sym (filter-append p xs ys)) (All-append (HasOneType e) (filter p xs) (filter p ys) a.of_one_type b.of_one_type);
      }

  -- one that the table doesn't keep, and one that it does
  pub source-left : (s : List ℕ) (t : TableValue) → may_be may s ≡ false → AddsSources may n e (s ∷ []) t t
  source-left s t left =
      let none : filter (may_be may) (s ∷ []) ≡ [] = ap (λ b. cond b (s ∷ []) []) left in
      record {
        added = sym (ap (λ l. record t { entries = t.entries ++ map (entry_with may n e) l }) none ∙ ap (λ l. record t { entries = l }) (append-nil t.entries));
        of_one_type = subst (All (HasOneType e)) (sym none) (All-nil (HasOneType e));
      }

  pub source-kept : (s : List ℕ) (t u : TableValue) → may_be may s ≡ true → u ≡ record t { entries = t.entries ++ entry_with may n e s ∷ [] }
      → HasOneType e s → AddsSources may n e (s ∷ []) t u
  source-kept s t u kept added one =
      let all : filter (may_be may) (s ∷ []) ≡ s ∷ [] = ap (λ b. cond b (s ∷ []) []) kept in
      record {
        added = added ∙ sym (ap (λ l. record t { entries = t.entries ++ map (entry_with may n e) l }) all);
        of_one_type = subst (All (HasOneType e)) (sym all) (All-push (HasOneType e) [] s (All-nil (HasOneType e)) one);
      }

  -- all of them
  pub entry-added : (t u : TableValue) → AddsSources may n e (sources e.source) t u → AreAmong n.rules (asked_by e) → AddsEntry may n e t u
  entry-added t u a asked = record { added = a.added; of_one_type = a.of_one_type; asked_for = asked }

-- ---- what adding an entry makes of a table

added_by : (t u : TableValue) (es : List tables.Entry) (over known : Bool) (bad again old : List tables.Entry → Bool)
    → ((cond over (Err Limit) ((cond known (Ok es) (Err NoSuchName))
    >>= λ xs. cond (bad xs) (Err BadClass) (cond (again xs) (Err SameVariant) (cond (old xs) (Err SameSource) (Ok (t.entries ++ xs))))))
    >>= λ all. Ok (record t { entries = all })) ≡ Ok u
    → u ≡ record t { entries = t.entries ++ es }
added_by t u es true known bad again old h = absurd (cc)
added_by t u es false false bad again old h = absurd (cc)
added_by t u es false true bad again old h = by (bad es) (again es) (old es) h
  where
    by : (a b c : Bool)
        → ((cond a (Err BadClass) (cond b (Err SameVariant) (cond c (Err SameSource) (Ok (t.entries ++ es))))) >>= λ all. Ok (record t { entries = all })) ≡ Ok u
        → u ≡ record t { entries = t.entries ++ es }
    by true b c h = absurd (cc)
    by false true c h = absurd (cc)
    by false false true h = absurd (cc)
    by false false false h = cc

pub form-added : (t u : TableValue) (ms : List Mapped) → with_form_of t (form_of ms) ≡ Ok u → u ≡ record t { entries = t.entries ++ entry_of t.definitions ms ∷ [] }
unfolding with_form with_entries
form-added t u ms h =
    added_by t u (entry_of t.definitions ms ∷ []) (is_over_limit t.version t.definitions t.entries (ms ∷ [])) (knows_all t.definitions ms)
    (λ xs. list_any (has_bad_class t.definitions.properties) xs) (λ xs. list_any has_repeat xs) (λ xs. list_any (has_source_in t.entries) xs) h

-- nothing but entries is added
pub same_definitions : (may : ℕ → Bool) (n : Numbering) (e : Entry) (xs : List (List ℕ)) (t u : TableValue) → AddsSources may n e xs t u → u.definitions ≡ t.definitions
same_definitions may n e xs t u a = ap (λ (w : TableValue). w.definitions) a.added

-- ---- the code points of a range

abbrev pub singles : ℕ → ℕ → List (List ℕ)
singles first count = map (λ c. c ∷ []) (range_with_len first count)

range-more : (first k : ℕ) → range_with_len first (k + 1) ≡ range_with_len first k ++ (first + k) ∷ []
range-more first zero = ap (λ c. c ∷ []) (let is : first ≡ first + 0 = omega arith in is)
range-more first (suc k) =
    let more : suc k + 1 ≡ suc (k + 1) = omega arith in
    ap (range_with_len first) more
    ∙ ap (λ l. first ∷ l) (range-more (first + 1) k ∙ ap (λ c. range_with_len (first + 1) k ++ c ∷ []) (let is : first + 1 + k ≡ first + suc k = omega arith in is))

pub singles-push : (first k : ℕ) → singles first (k + 1) ≡ singles first k ++ ((first + k) ∷ []) ∷ []
singles-push first k = ap (map (λ c. c ∷ [])) (range-more first k) ∙ map-append (λ c. c ∷ []) (range_with_len first k) ((first + k) ∷ [])

-- ---- one entry after the other

abbrev pub with_only : Ruleset → List Entry → Ruleset
with_only r entries = record r { entries = entries }

pub entries-none : (may : ℕ → Bool) (r : Ruleset) (n : Numbering) (t : TableValue) → t.entries ≡ [] → AddsEntries may (with_only r []) n t t
entries-none may r n t none = record {
  others = ap (λ l. record t { entries = l }) none;
  of_one_type = All-nil (λ e. All (HasOneType e) (kept_sources may e));
  asked_for = All-nil (Contains n.rules);
}

pub entries-more : (may : ℕ → Bool) (r : Ruleset) (n : Numbering) (es : List Entry) (e : Entry) (t u v : TableValue)
    → AddsEntries may (with_only r es) n t u → AddsEntry may n e u v → AddsEntries may (with_only r (es ++ e ∷ [])) n t v
entries-more may r n es e t u v a b =
    let f : Entry → List tables.Entry = entries_of may n in
    let all : all_entries may n es ++ f e ≡ all_entries may n (es ++ e ∷ []) =
    ap (λ l. flat_map f es ++ l) (sym (append-nil (f e))) ∙ sym (flat_map-append f es (e ∷ [])) in
    let asked : flat_map asked_by es ++ (asked_by e ++ []) ≡ flat_map asked_by (es ++ e ∷ []) = sym (flat_map-append asked_by es (e ∷ [])) in
    record {
      others = b.added ∙ ap (λ (w : TableValue). record w { entries = w.entries ++ f e }) a.others ∙ ap (λ l. record t { entries = l }) all;
      of_one_type = All-push (λ x. All (HasOneType x) (kept_sources may x)) es e a.of_one_type b.of_one_type;
      asked_for = subst (AreAmong n.rules) asked (All-append (Contains n.rules) (flat_map asked_by es) (asked_by e ++ []) a.asked_for (subst (AreAmong n.rules) (sym (append-nil (asked_by e))) b.asked_for));
    }
