-- What is known of definitions that were taken.
use Rattle.std.proofs.Common.{◌≡◌, ◌↔◌, ℕ, zero, suc, ◌<◌, Bool, List, [], ◌∷◌, map, length, take, get_or, sym, ap, subst, ◌∙◌, ◌+◌, None, inl, inr, arith}
use Rattle.std.specs.Prelude.{Contains, IsTrue, slice_index_or}
use Rattle.std.proofs.lemmas.Bool.{cases_lt}
use Rattle.std.proofs.lemmas.List.{get_or_default, get_or-map, get_or-take, length-map, length-take-le}
use Rattle.idn_class.specs.declared.properties.Properties.{Properties}
use Rattle.label_patterns.specs.Sets.{is_in}
use Rattle.label_patterns.specs.declared.span.Span.{Span}
use Rattle.lgr_text.specs.DefinitionOrder.{IsOrder}
use Rattle.lgr_text.specs.Known.{Known}
use Rattle.lgr_text.specs.Meanings.{IsKept}
use Rattle.lgr_text.specs.inner.Branches.{HaveBranches}
use Rattle.lgr_text.specs.Records.{IsClass, IsRule, Meaning, definition, entry, meaning}
use Rattle.lgr_text.specs.Records as lgr
use Rattle.lgr_text.specs.declared.records.Definition.{Definition}
use Rattle.lgr_text.specs.declared.records.Entry.{Entry}
use Rattle.lgr_text.specs.declared.records.Ruleset.{Ruleset}
use Rattle.lgr_table.specs.Tables.{may_stand}
use Rattle.lgr_table.specs.Faults.{AreFaultless, ComesNext, HasPlace, IsFaultless, IsKnown, Knows, meaning_fault}
use Rattle.lgr_table.specs.inner.RuleSteps.{AddsMeaning}
use Rattle.lgr_table.proofs.TakenLemmas.{AreTaken, IsMeant}
use Rattle.lgr_table.proofs.TakenOrderLemmas.{all-chosen, blank, chosen, has-place, within}

known-as : (known : Known) (sets : List (List Span)) (name : List ℕ) (meaning : Meaning) → IsMeant known sets name meaning → IsKnown known sets name meaning
known-as known sets name (IsClass class) meant = record { found = meant.found; members = meant.members }
known-as known sets name (IsRule rule) meant = record { found = meant.found; matches = meant.matches; anchor = meant.anchor }

pub in-map : {X Y : Type 0} (f : X → Y) (xs : List X) (x : X) → Contains xs x → Contains (map f xs) (f x)
in-map f [] x h = absurd (omega (arith, h.1))
in-map f (z ∷ xs) x h = at (λ later. in-map f xs x later) h.0 h.1 h.2
  where
    at : (Contains xs x → Contains (map f xs) (f x)) → (n : ℕ) → n < length (z ∷ xs) → slice_index_or (z ∷ xs) n x ≡ x
        → Contains (map f (z ∷ xs)) (f x)
    at rest zero less is = (0, omega arith, ap f is)
    at rest (suc n) less is = (let later = rest (n, omega (arith, less), is) in (suc later.0, omega (arith, later.1), later.2))

-- its number stands among these
in-chosen : (raw : List Definition) (numbers : List ℕ) (d : Definition) → ((p : ℕ) → p < length numbers → get_or numbers p 0 < length raw)
    → HasPlace raw numbers d → Contains (chosen (map definition raw) numbers) (definition d)
in-chosen raw numbers d below h =
    let f : ℕ → lgr.Definition = λ n. get_or (map definition raw) n blank in (
      h.0,
      omega (arith, h.1, length-map numbers f),
      get_or-map f numbers h.0 0 (definition d) h.1 ∙ get_or-map definition raw (get_or numbers h.0 0) d blank (below h.0 h.1) ∙ ap definition h.2,
    )

-- the code points of entries that a table may hold
abbrev pub AreKept : (ℕ → Bool) → List Entry → List Span → Type 0
AreKept may entries points = (c : ℕ) → IsTrue (is_in points c) ↔ IsKept may (map entry entries) c

pub kept-there : (points : List Span) (p q : Properties) (some all : List Entry) → p ≡ q → some ≡ all → AreKept (may_stand p) some points
    → AreKept (may_stand q) all points
kept-there points p q some all same entries kept =
    subst (λ (x : Properties). AreKept (may_stand x) all points) same (subst (λ (l : List Entry). AreKept (may_stand p) l points) entries kept)

kept-points : (may : ℕ → Bool) (r : Ruleset) (points : List Span) (known : Known) → AreKept may r.entries.items points → known.points ≡ points
    → known.entries ≡ map entry r.entries.items → (c : ℕ) → IsTrue (is_in known.points c) ↔ IsKept may known.entries c
kept-points may r points known kept same entries c =
    subst (λ (l : List lgr.Entry). IsTrue (is_in known.points c) ↔ IsKept may l c) (sym entries)
    (subst (λ (l : List Span). IsTrue (is_in l c) ↔ IsKept may (map entry r.entries.items) c) (sym same) (kept c))

pub comes-next : (may : ℕ → Bool) (r : Ruleset) (order : List ℕ) (i : ℕ) (d : Definition) (points : List Span) (known : Known) (sets : List (List Span))
    → AreKept may r.entries.items points → IsOrder r.definitions.items order → i < length order → d ≡ get_or r.definitions.items (get_or order i 0) d
    → AreTaken (map entry r.entries.items) points known sets (chosen (map definition r.definitions.items) (take i order)) → HaveBranches known.rules → ComesNext may r d known
comes-next may r order i d points known sets kept is less at taken branches =
    let raw = r.definitions.items in
    let size : length (take i order) ≡ i = length-take-le i order (omega (arith, less)) in
    let below : (p : ℕ) → p < length (take i order) → get_or (take i order) p 0 < length raw = λ p few.
    (let before : p < i = omega (arith, few, size) in
    let there = within raw order p is (omega (arith, before, less)) in
    omega (arith, there, get_or-take i order p 0 before)) in
    record {
      numbers = order;
      ordered = is;
      place = i;
      within = less;
      here = sym at;
      knows = record {
        entries = taken.entries;
        points = kept-points may r points known kept taken.points taken.entries;
        sets = sets;
        each = λ e h. known-as known sets e.name (meaning e.meaning) (taken.meant (definition e) (in-chosen raw (take i order) e below h));
        branches = branches;
      };
    }

pub knows-all : (may : ℕ → Bool) (r : Ruleset) (order : List ℕ) (points : List Span) (known : Known) (sets : List (List Span)) → AreKept may r.entries.items points → IsOrder r.definitions.items order
    → AreTaken (map entry r.entries.items) points known sets (chosen (map definition r.definitions.items) order) → HaveBranches known.rules → Knows may r (Contains r.definitions.items) known
knows-all may r order points known sets kept is taken branches = record {
  entries = taken.entries;
  points = kept-points may r points known kept taken.points taken.entries;
  sets = sets;
  each = λ d h. known-as known sets d.name (meaning d.meaning)
      (taken.meant (definition d) (all-chosen r.definitions.items order (definition d) is (in-map definition r.definitions.items d h)));
  branches = branches;
}

-- ---- definitions without a fault

pub no-fault : (known new : Known) (sets more : List (List Span)) (name : List ℕ) (m : Meaning) → AddsMeaning known sets name m new more
    → meaning_fault known m ≡ None
no-fault known new sets more name (IsClass class) adds = adds.0.no_fault
no-fault known new sets more name (IsRule rule) adds = adds.no_fault

-- of those of these numbers none has a fault
abbrev pub AreFaultlessSoFar : (ℕ → Bool) → Ruleset → List ℕ → Type 0
AreFaultlessSoFar may r numbers = (d : Definition) → HasPlace r.definitions.items numbers d → IsFaultless may r d

pub none-so-far : (may : ℕ → Bool) (r : Ruleset) (order : List ℕ) → AreFaultlessSoFar may r (take 0 order)
none-so-far may r order d h = absurd (let size = length-take-le 0 order (omega arith) in let less = h.1 in omega (arith, less, size))

pub faultless-more : (may : ℕ → Bool) (r : Ruleset) (order : List ℕ) (i : ℕ) (d : Definition) → IsOrder r.definitions.items order → i < length order
    → d ≡ get_or r.definitions.items (get_or order i 0) d → IsFaultless may r d → AreFaultlessSoFar may r (take i order)
    → AreFaultlessSoFar may r (take (i + 1) order)
faultless-more may r order i d is less at this earlier e h =
    let raw = r.definitions.items in
    let p = h.0 in
    let few = h.1 in
    let size : length (take (i + 1) order) ≡ i + 1 = length-take-le (i + 1) order (omega (arith, less)) in
    let size_before : length (take i order) ≡ i = length-take-le i order (omega (arith, less)) in
    let up_to : p < i + 1 = omega (arith, few, size) in
    let there : get_or (take (i + 1) order) p 0 ≡ get_or order p 0 = get_or-take (i + 1) order p 0 up_to in
    let is_e : get_or raw (get_or order p 0) e ≡ e = subst (λ (n : ℕ). get_or raw n e ≡ e) there h.2 in
    elim (cases_lt p i) [
      | inl before ↦ earlier e
          (p, omega (arith, before, size_before), subst (λ (n : ℕ). get_or raw n e ≡ e) (sym (get_or-take i order p 0 before)) is_e)
      | inr from ↦ (let last : p ≡ i = omega (arith, up_to, from) in
          let here : get_or raw (get_or order i 0) e ≡ e = subst (λ (q : ℕ). get_or raw (get_or order q 0) e ≡ e) last is_e in
          let same : d ≡ e = at ∙ get_or_default raw (get_or order i 0) d e (within raw order i is less) ∙ here in
          subst (IsFaultless may r) same this)
    ]

pub all-faultless : (may : ℕ → Bool) (r : Ruleset) (order numbers : List ℕ) → IsOrder r.definitions.items order → numbers ≡ order
    → AreFaultlessSoFar may r numbers → AreFaultless may r
all-faultless may r order numbers is same so_far d h =
    so_far d (subst (λ (l : List ℕ). HasPlace r.definitions.items l d) (sym same) (has-place r.definitions.items order d is h))
