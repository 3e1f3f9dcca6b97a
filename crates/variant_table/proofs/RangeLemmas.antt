-- The entries of a range, one by one.
use Rattle.std.proofs.Common.{◌≡◌, ℕ, suc, ◌+◌, ◌-◌, ◌<◌, ◌≤◌, Bool, true, false, ◌||◌, cond, List, [], ◌∷◌, ◌++◌, map, Some, Ok, Err, refl, sym, ap, ◌∙◌, arith, append_assoc}
use Rattle.std.specs.Prelude.{bytes_eq, find, is_some}
use Rattle.std.specs.List.{range_with_len, list_any}
use Rattle.std.proofs.lemmas.List.{append-nil}
use Rattle.std.proofs.lemmas.Bool.{or_right}
use Rattle.ruleset_text.specs.Entries.{Mapped}
use Rattle.variant_table.specs.Faults.{SameSource}
use Rattle.variant_table.specs.Entries.{Variant, Entry}
use Rattle.idn_class.specs.declared.properties.Properties.{Properties}
use Rattle.ruleset_text.specs.Classes.{is_bad_point}
use Rattle.variant_table.specs.Conditions.{is_too_large, has_bad_class, has_repeat, has_source_in}
use Rattle.variant_table.specs.Forms.{with_point}
use Rattle.variant_table.specs.Ranges.{entry_in_range}
use Rattle.variant_table.specs.Reading.{◌>>=◌}
use Rattle.variant_table.specs.inner.ReadingSteps.{with_new_source, with_new_sources}
use Rattle.variant_table.proofs.ConditionLemmas.{AreNewSources, new_range}

same_range : {X : Type 0} (f : ℕ → X) (a b m n : ℕ) → a ≡ b → m ≡ n → map f (range_with_len a m) ≡ map f (range_with_len b n)
same_range f a b m n e g = ap (λ x. map f (range_with_len x m)) e ∙ ap (λ k. map f (range_with_len b k)) g

-- what is made of the code points from a place on is that of its code point and of those after it
pub range_next : {X : Type 0} (f : ℕ → X) (first count i : ℕ) → i < count → map f (range_with_len (first + i) (count - i)) ≡ f (first + i) ∷ map f (range_with_len (first + (i + 1)) (count - (i + 1)))
range_next f first count i l =
    same_range f (first + i) (first + i) (count - i) (suc (count - (i + 1))) refl (omega arith)
    ∙ ap (λ es. f (first + i) ∷ es) (same_range f (first + i + 1) (first + (i + 1)) (count - (i + 1)) (count - (i + 1)) (omega arith) refl)

-- so many entries from a code point on
abbrev pub points_from : Variant → ℕ → ℕ → List Entry
points_from v first count = map (entry_in_range v) (range_with_len first count)

pub points_next : (v : Variant) (first count i : ℕ) → i < count → points_from v (first + i) (count - i) ≡ entry_in_range v (first + i) ∷ points_from v (first + (i + 1)) (count - (i + 1))
points_next v first count i l = range_next (entry_in_range v) first count i l

pub points_start : (v : Variant) (first count : ℕ) → points_from v (first + 0) (count - 0) ≡ points_from v first count
points_start v first count = same_range (entry_in_range v) (first + 0) first (count - 0) count (omega arith) (omega arith)

pub points_end : (v : Variant) (first count i : ℕ) → count ≤ i → points_from v (first + i) (count - i) ≡ []
points_end v first count i l = same_range (entry_in_range v) (first + i) (first + i) (count - i) 0 refl (omega (arith, l))

-- ---- the first code point of a range that a test is true of

module _ (p : ℕ → Bool) (first count i : ℕ) where
  find_step : i < count → (b : Bool) → p (first + i) ≡ b → find p (range_with_len (first + i) (count - i)) ≡ cond b (Some (first + i)) (find p (range_with_len (first + (i + 1)) (count - (i + 1))))
  find_step l b t =
      ap (λ n. find p (range_with_len (first + i) n)) (let more : count - i ≡ suc (count - (i + 1)) = omega arith in more)
      ∙ ap (λ c. cond c (Some (first + i)) (find p (range_with_len (first + i + 1) (count - (i + 1))))) t
      ∙ ap (λ n. cond b (Some (first + i)) (find p (range_with_len n (count - (i + 1))))) (let next : first + i + 1 ≡ first + (i + 1) = omega arith in next)

  pub find_here : i < count → p (first + i) ≡ true → find p (range_with_len (first + i) (count - i)) ≡ find p (range_with_len first count) → Some (first + i) ≡ find p (range_with_len first count)
  find_here l t inv = sym (find_step l true t) ∙ inv

  pub find_later : i < count → p (first + i) ≡ false → find p (range_with_len (first + i) (count - i)) ≡ find p (range_with_len first count) → find p (range_with_len (first + (i + 1)) (count - (i + 1))) ≡ find p (range_with_len first count)
  find_later l t inv = sym (find_step l false t) ∙ inv

pub some_found : {X : Type 0} (p : X → Bool) (xs : List X) → is_some (find p xs) ≡ list_any p xs
some_found p [] = refl
some_found {X} p (x ∷ xs) = by (p x) (some_found p xs)
  where
    by : (b : Bool) → is_some (find p xs) ≡ list_any p xs → is_some (cond b (Some x) (find p xs)) ≡ (b || list_any p xs)
    by true rest = refl
    by false rest = rest

one_bad : (b : Bool) → ((b || false) || false) ≡ b
one_bad true = refl
one_bad false = refl

pub points_bad : (properties : Properties) (v : Variant) (cs : List ℕ) → list_any (is_bad_point properties) cs ≡ list_any (has_bad_class properties) (map (entry_in_range v) cs)
points_bad properties v [] = refl
points_bad properties v (c ∷ cs) =
    ap (λ b. b || list_any (is_bad_point properties) cs) (sym (one_bad (is_bad_point properties c))) ∙ ap (λ b. ((is_bad_point properties c || false) || false) || b) (points_bad properties v cs)

-- ---- such entries have no fault of their own but a bad class

pub range_small : (m : Mapped) (cs : List ℕ) → list_any is_too_large (map (λ c. with_point m c ∷ []) cs) ≡ false
range_small m [] = refl
range_small m (c ∷ cs) = range_small m cs

points_single : (v : Variant) (cs : List ℕ) → list_any has_repeat (map (entry_in_range v) cs) ≡ false
points_single v [] = refl
points_single v (c ∷ cs) = points_single v cs

pub range_single : (v : Variant) (first count : ℕ) → list_any has_repeat (points_from v first count) ≡ false
range_single v first count = points_single v (range_with_len first count)

-- ---- new sources, one after another

pub added_new : (t : List Entry) (e : Entry) (b : Bool) → has_source_in t e ≡ b → (t' : List Entry) → with_new_source t e ≡ Ok t' → t' ≡ t ++ e ∷ []
added_new t e true h t' is = absurd (let x : with_new_source t e ≡ Err SameSource = ap (λ b. cond b (Err SameSource) (Ok (t ++ e ∷ []))) h in cc)
added_new t e false h t' is = (let x : with_new_source t e ≡ Ok (t ++ e ∷ []) = ap (λ b. cond b (Err SameSource) (Ok (t ++ e ∷ []))) h in cc)

pub all_new : (t es : List Entry) → AreNewSources t es → with_new_sources t es ≡ Ok (t ++ es)
all_new t [] h = ap (λ x. Ok x) (sym (append-nil t))
all_new t (e ∷ es) h =
    ap (λ r. r >>= λ x. with_new_sources x es) (ap (λ b. cond b (Err SameSource) (Ok (t ++ e ∷ []))) h.0)
    ∙ all_new (t ++ e ∷ []) es h.1 ∙ ap (λ x. Ok x) (append_assoc t (e ∷ []) es)

known_step : (t : List Entry) (x e f : Entry) (b : Bool) → bytes_eq x.source f.source ≡ b → has_source_in (x ∷ t) f ≡ true → (has_source_in t f ≡ true → has_source_in (t ++ e ∷ []) f ≡ true) → has_source_in (x ∷ (t ++ e ∷ [])) f ≡ true
known_step t x e f true k h rest = ap (λ b. b || has_source_in (t ++ e ∷ []) f) k
known_step t x e f false k h rest = or_right (bytes_eq x.source f.source) (has_source_in (t ++ e ∷ []) f) (rest (sym (ap (λ b. b || has_source_in t f) k) ∙ h))

known_more : (t : List Entry) (e f : Entry) → has_source_in t f ≡ true → has_source_in (t ++ e ∷ []) f ≡ true
known_more [] e f h = absurd cc
known_more (x ∷ t) e f h = known_step t x e f (bytes_eq x.source f.source) refl h (λ k. known_more t e f k)

any_step : (t : List Entry) (e f : Entry) (es : List Entry) (b : Bool) → has_source_in t f ≡ b → list_any (has_source_in t) (f ∷ es) ≡ true → (list_any (has_source_in t) es ≡ true → list_any (has_source_in (t ++ e ∷ [])) es ≡ true)
    → list_any (has_source_in (t ++ e ∷ [])) (f ∷ es) ≡ true
any_step t e f es true k h rest = ap (λ b. b || list_any (has_source_in (t ++ e ∷ [])) es) (known_more t e f k)
any_step t e f es false k h rest = or_right (has_source_in (t ++ e ∷ []) f) (list_any (has_source_in (t ++ e ∷ [])) es) (rest (sym (ap (λ b. b || list_any (has_source_in t) es) k) ∙ h))

any_known : (t : List Entry) (e : Entry) (es : List Entry) → list_any (has_source_in t) es ≡ true → list_any (has_source_in (t ++ e ∷ [])) es ≡ true
any_known t e [] h = absurd cc
any_known t e (f ∷ es) h = any_step t e f es (has_source_in t f) refl h (λ k. any_known t e es k)

some_step : (t : List Entry) (e : Entry) (es : List Entry) (b : Bool) → has_source_in t e ≡ b → list_any (has_source_in t) (e ∷ es) ≡ true
    → (list_any (has_source_in (t ++ e ∷ [])) es ≡ true → with_new_sources (t ++ e ∷ []) es ≡ Err SameSource) → with_new_sources t (e ∷ es) ≡ Err SameSource
some_step t e es true k h rest = ap (λ r. r >>= λ x. with_new_sources x es) (ap (λ b. cond b (Err SameSource) (Ok (t ++ e ∷ []))) k)
some_step t e es false k h rest =
    ap (λ r. r >>= λ x. with_new_sources x es) (ap (λ b. cond b (Err SameSource) (Ok (t ++ e ∷ []))) k)
    ∙ rest (any_known t e es (sym (ap (λ b. b || list_any (has_source_in t) es) k) ∙ h))

pub some_known : (t es : List Entry) → list_any (has_source_in t) es ≡ true → with_new_sources t es ≡ Err SameSource
some_known t [] h = absurd cc
some_known t (e ∷ es) h = some_step t e es (has_source_in t e) refl h (λ k. some_known (t ++ e ∷ []) es k)

-- the table with the entries of a range, by whether it has one of their sources
pub with_range : (v : Variant) (t : List Entry) (first count : ℕ) → with_new_sources t (points_from v first count) ≡ cond (list_any (has_source_in t) (points_from v first count)) (Err SameSource) (Ok (t ++ points_from v first count))
with_range v t first count = by_cases (list_any (has_source_in t) (points_from v first count)) refl
  where
    by_cases : (b : Bool) → list_any (has_source_in t) (points_from v first count) ≡ b → with_new_sources t (points_from v first count) ≡ cond b (Err SameSource) (Ok (t ++ points_from v first count))
    by_cases true h = some_known t (points_from v first count) h
    by_cases false h = all_new t (points_from v first count) (new_range v t first count h)
