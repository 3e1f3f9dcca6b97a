-- The entries at a place are those whose source begins the label there.
use Rattle.std.proofs.Common.{◌≡◌, ◌⊎◌, inl, inr, ℕ, zero, suc, ◌+◌, ◌-◌, ◌<◌, ◌≤◌, true, false, List, [], ◌∷◌, ◌++◌, length, take, drop, get_or, Option, Some, None, refl, sym, ap, subst, ◌∙◌, arith, append_assoc, length-append, length-take}
use Rattle.std.specs.Prelude.{bytes_eq}
use Rattle.std.specs.List.{AllByRecursion, AllPairs, Contains}
use Rattle.std.specs.Option.{option_to_list}
use Rattle.std.proofs.lemmas.Bool.{cases_order}
use Rattle.std.proofs.lemmas.List.{take-append-drop}
use Rattle.std.proofs.Math.Seq.{take-append-add}
use Rattle.std.proofs.lemmas.List.Elements.{All-contains, All-from_recursion, Contains-append_left, Contains-append_right, Contains-append_cases}
use Rattle.std.proofs.lemmas.List.Kept.{AllPairs-cons}
use Rattle.std.proofs.lemmas.Slice.Eq.{bytes_eq-Decides}
use Rattle.variant_table.specs.Entries.{Entry}
use Rattle.variant_table.specs.WellFormed.{IsEntry, IsWellFormed}
use Rattle.variant_table.specs.inner.Order.{HasNoLonger}
use Rattle.variant_table.specs.Places.{entry_with, entries_from, entries_at, BeginsAt, AreEntriesAt}
use Rattle.variant_table.proofs.MemberLemmas.{Contains-head, Contains-later, Contains-none, Contains-one, find_some, find_none}

-- ---- one entry for a source

abbrev Apart : Entry → Entry → Type 0
Apart e f = e.source ≡ f.source → ⊥

-- entries of a table with equal sources are equal
pub same_entry : (table : List Entry) (e f : Entry) → AllPairs Apart table → Contains table e → Contains table f → e.source ≡ f.source → e ≡ f
same_entry table e f apart (i, l, a) (j, m, b) same = elim (cases_order i j) [
  | inl eq ↦ sym (ap (λ k. get_or table k e) (sym eq) ∙ a) ∙ by_default j m ∙ b
  | inr (inl below) ↦ absurd (apart i j e below m (ap (λ x. x.source) a ∙ same ∙ ap (λ x. x.source) (sym b ∙ sym (by_default j m))))
  | inr (inr above) ↦ absurd (apart j i e above l (ap (λ x. x.source) (by_default j m ∙ b) ∙ sym same ∙ ap (λ x. x.source) (sym a)))
]
  where
    at : (xs : List Entry) (k : ℕ) → k < length xs → get_or xs k e ≡ get_or xs k f
    at [] k l = absurd (omega (arith, l))
    at (x ∷ xs) zero l = refl
    at (x ∷ xs) (suc k) l = at xs k (omega (arith, l))

    by_default : (k : ℕ) → k < length table → get_or table k e ≡ get_or table k f
    by_default k l = at table k l

pub entry_with-found : (table : List Entry) (s : List ℕ) (e : Entry) → entry_with table s ≡ Some e → Contains table e × (e.source ≡ s)
entry_with-found table s e h = let r = find_some (λ f. bytes_eq f.source s) table e h in (r.0, (bytes_eq-Decides e.source s).0 r.1)

found_is : (table : List Entry) (s : List ℕ) (e : Entry) (o : Option Entry) → AllPairs Apart table → Contains table e → e.source ≡ s → entry_with table s ≡ o → o ≡ Some e
found_is table s e None apart h is eq =
    absurd (let x : bytes_eq e.source s ≡ false = find_none (λ f. bytes_eq f.source s) table e eq h in let y : bytes_eq e.source s ≡ true = (bytes_eq-Decides e.source s).1 is in let z : true ≡ false = sym y ∙ x in cc)
found_is table s e (Some f) apart h is eq =
    let r = entry_with-found table s f eq in ap (λ x. Some x) (same_entry table f e apart r.0 h (r.1 ∙ sym is))

pub entry_with-of : (table : List Entry) (s : List ℕ) (e : Entry) → AllPairs Apart table → Contains table e → e.source ≡ s → entry_with table s ≡ Some e
entry_with-of table s e apart h is = found_is table s e (entry_with table s) apart h is refl

-- ---- the entries whose source is a beginning with some of the rest

record Follows (table : List Entry) (beginning rest : List ℕ) (e : Entry) : Type 0 where
  in_table : Contains table e
  front : List ℕ
  after : List ℕ
  some : 0 < length front
  cut : rest ≡ front ++ after
  source : e.source ≡ beginning ++ front

option_case : {X : Type 0} (o : Option X) (x : X) → Contains (option_to_list o) x → o ≡ Some x
option_case None x h = absurd (Contains-none x h)
option_case (Some y) x h = ap (λ z. Some z) (Contains-one y x h)

members_from : (table : List Entry) (beginning rest : List ℕ) (e : Entry) → Contains (entries_from table beginning rest) e → Follows table beginning rest e
members_from table beginning [] e h = absurd (Contains-none e h)
members_from table beginning (c ∷ rest) e h = step (Contains-append_cases (option_to_list (entry_with table (beginning ++ c ∷ []))) (entries_from table (beginning ++ c ∷ []) rest) e h) (λ k. members_from table (beginning ++ c ∷ []) rest e k)
  where
    step : (Contains (option_to_list (entry_with table (beginning ++ c ∷ []))) e ⊎ Contains (entries_from table (beginning ++ c ∷ []) rest) e)
        → (Contains (entries_from table (beginning ++ c ∷ []) rest) e → Follows table (beginning ++ c ∷ []) rest e) → Follows table beginning (c ∷ rest) e
    step (inl k) later =
        let r = entry_with-found table (beginning ++ c ∷ []) e (option_case (entry_with table (beginning ++ c ∷ [])) e k) in
        record { in_table = r.0; front = c ∷ []; after = rest; some = omega arith; cut = refl; source = r.1 }
    step (inr k) later =
        let f = later k in
        record { in_table = f.in_table; front = c ∷ f.front; after = f.after; some = omega arith; cut = ap (λ t. c ∷ t) f.cut; source = f.source ∙ append_assoc beginning (c ∷ []) f.front }

-- a beginning that no longer source has
pub entries_from-none : (table : List Entry) (beginning rest : List ℕ) → HasNoLonger table beginning → entries_from table beginning rest ≡ []
entries_from-none table beginning [] none = refl
entries_from-none table beginning (c ∷ rest) none =
    ap (λ o. option_to_list o ++ entries_from table (beginning ++ c ∷ []) rest) (by_cases (entry_with table (beginning ++ c ∷ [])) refl)
    ∙ entries_from-none table (beginning ++ c ∷ []) rest (λ e d more h is. none e c (d ∷ more) h (is ∙ append_assoc beginning (c ∷ []) (d ∷ more)))
  where
    by_cases : (o : Option Entry) → entry_with table (beginning ++ c ∷ []) ≡ o → entry_with table (beginning ++ c ∷ []) ≡ None
    by_cases None e = e
    by_cases (Some x) e = let r = entry_with-found table (beginning ++ c ∷ []) x e in absurd (none x c [] r.0 r.1)

members_of : (table : List Entry) (apart : AllPairs Apart table) (beginning front after : List ℕ) (e : Entry) → Contains table e → 0 < length front → e.source ≡ beginning ++ front → Contains (entries_from table beginning (front ++ after)) e
members_of table apart beginning [] after e h l is = absurd (omega (arith, l))
members_of table apart beginning (c ∷ []) after e h l is =
    Contains-append_left (option_to_list (entry_with table (beginning ++ c ∷ []))) (entries_from table (beginning ++ c ∷ []) after) e
    (subst (λ o. Contains (option_to_list o) e) (sym (entry_with-of table (beginning ++ c ∷ []) e apart h is)) (Contains-head e []))
members_of table apart beginning (c ∷ d ∷ front) after e h l is =
    Contains-append_right (option_to_list (entry_with table (beginning ++ c ∷ []))) (entries_from table (beginning ++ c ∷ []) ((d ∷ front) ++ after)) e
    (members_of table apart (beginning ++ c ∷ []) (d ∷ front) after e h (omega arith) (is ∙ sym (append_assoc beginning (c ∷ []) (d ∷ front))))

longer : (table : List Entry) (beginning rest : List ℕ) → AllByRecursion (λ e. length beginning < length e.source) (entries_from table beginning rest)
longer table beginning rest = by_members (entries_from table beginning rest) (λ e h. (let f = members_from table beginning rest e h in omega (arith, f.some, ap length f.source, length-append beginning f.front)))
  where
    by_members : (es : List Entry) → ((e : Entry) → Contains es e → length beginning < length e.source) → AllByRecursion (λ e. length beginning < length e.source) es
    by_members [] h = tt
    by_members (e ∷ es) h = (h e (Contains-head e es), by_members es (λ f k. h f (Contains-later e es f k)))

abbrev Shorter : Entry → Entry → Type 0
Shorter e f = length e.source < length f.source

rising_from : (table : List Entry) (beginning rest : List ℕ) → AllPairs Shorter (entries_from table beginning rest)
rising_from table beginning [] = λ i j d l k. absurd (omega (arith, k))
rising_from table beginning (c ∷ rest) = by_option (entry_with table (beginning ++ c ∷ [])) (λ e h. entry_with-found table (beginning ++ c ∷ []) e h) (rising_from table (beginning ++ c ∷ []) rest) (longer table (beginning ++ c ∷ []) rest)
  where
    weaker : (e : Entry) (es : List Entry) → e.source ≡ beginning ++ c ∷ [] → AllByRecursion (λ f. length (beginning ++ c ∷ []) < length f.source) es → AllByRecursion (Shorter e) es
    weaker e [] is h = tt
    weaker e (f ∷ es) is h = (omega (arith, ap length is, h.0), weaker e es is h.1)

    by_option : (o : Option Entry) → ((e : Entry) → o ≡ Some e → Contains table e × (e.source ≡ beginning ++ c ∷ [])) → AllPairs Shorter (entries_from table (beginning ++ c ∷ []) rest)
        → AllByRecursion (λ f. length (beginning ++ c ∷ []) < length f.source) (entries_from table (beginning ++ c ∷ []) rest) → AllPairs Shorter (option_to_list o ++ entries_from table (beginning ++ c ∷ []) rest)
    by_option None found pairs all = pairs
    by_option (Some e) found pairs all =
        AllPairs-cons Shorter e (entries_from table (beginning ++ c ∷ []) rest) (All-from_recursion (Shorter e) (entries_from table (beginning ++ c ∷ []) rest) (weaker e (entries_from table (beginning ++ c ∷ []) rest) (found e refl).1 all)) pairs

few_from : (table : List Entry) (beginning rest : List ℕ) → length (entries_from table beginning rest) ≤ length rest
few_from table beginning [] = omega arith
few_from table beginning (c ∷ rest) = omega (arith, length-append (option_to_list (entry_with table (beginning ++ c ∷ []))) (entries_from table (beginning ++ c ∷ []) rest), one_at_most (entry_with table (beginning ++ c ∷ [])), few_from table (beginning ++ c ∷ []) rest)
  where
    one_at_most : (o : Option Entry) → length (option_to_list o) ≤ 1
    one_at_most None = omega arith
    one_at_most (Some e) = omega arith

-- ---- at a place

source_sized : (table : List Entry) (e : Entry) → IsWellFormed table → Contains table e → (1 ≤ length e.source) × (length e.source ≤ 8)
source_sized table e h k =
    let s = (All-contains IsEntry table e h.entries k).sequences 0 [] (omega arith) in (s.filled, s.short)

pub entries_are_at : (table : List Entry) (label : List ℕ) (place : ℕ) → IsWellFormed table → AreEntriesAt table label place (entries_at table label place)
entries_are_at table label place h = record {
  members = λ e. (to e, from e);
  rising = rising_from table [] (take 8 (drop place label));
  few = omega (arith, few_from table [] (take 8 (drop place label)), length-take 8 (drop place label));
}
  where
    to : (e : Entry) → Contains (entries_at table label place) e → Contains table e × BeginsAt label place e
    to e k =
        let f = members_from table [] (take 8 (drop place label)) e k in (
          f.in_table,
          (
            f.after ++ drop 8 (drop place label),
            sym (take-append-drop 8 (drop place label)) ∙ ap (λ t. t ++ drop 8 (drop place label)) f.cut ∙ append_assoc f.front f.after (drop 8 (drop place label))
                ∙ ap (λ t. t ++ (f.after ++ drop 8 (drop place label))) (sym f.source),
          ),
        )

    from : (e : Entry) → Contains table e × BeginsAt label place e → Contains (entries_at table label place) e
    from e (k, b) =
        let size = source_sized table e h k in
        let cut : take 8 (drop place label) ≡ e.source ++ take (8 - length e.source) b.0 =
        ap (take 8) b.1 ∙ ap (λ n. take n (e.source ++ b.0)) (let z : 8 ≡ length e.source + (8 - length e.source) = omega (arith, size.1) in z) ∙ take-append-add e.source b.0 (8 - length e.source) in
        subst (λ t. Contains (entries_from table [] t) e) (sym cut) (members_of table h.sources [] e.source (take (8 - length e.source) b.0) e k (omega (arith, size.0)) refl)
