-- What types, rules and variants are called in a table.
use Rattle.std.proofs.Common.{◌≡◌, ℕ, ◌+◌, ◌<◌, ◌≤◌, Bool, true, false, not, ◌&&◌, ◌||◌, cond, Option, Some, None, List, [], ◌∷◌, ◌++◌, length, map, get_or, take, refl, sym, ap, subst, ◌∙◌, arith, append_assoc}
use Rattle.std.specs.Prelude.{slice_index_or}
use Rattle.std.specs.Prelude.{bytes_eq}
use Rattle.std.specs.List.{All, Contains, filter, find}
use Rattle.std.specs.Option.{option_and_then, option_map, option_or}
use Rattle.std.proofs.Math.Bool.{or-false}
use Rattle.std.proofs.lemmas.List.{append-nil, get_or_default, length_push, map-append, take_more}
use Rattle.std.proofs.lemmas.List.Sums.{passes_at_first}
use Rattle.std.proofs.lemmas.Slice.Eq.{bytes_eq-Decides}
use Rattle.std.proofs.lemmas.List.Elements.{All-nil, All-push, filter-append}
use Rattle.std.proofs.lemmas.List.Folds.{find-append}
use Rattle.std.proofs.lemmas.List.Quantifiers.{position-Some}
use Rattle.label_patterns.specs.declared.condition.Condition.{Condition}
use Rattle.ruleset_text.specs.Definitions.{Definitions, type_name, type_names, type_number}
use Rattle.ruleset_text.specs.EntryForms.{mapped as form_of}
use Rattle.ruleset_text.specs.Names.{number_of}
use Rattle.ruleset_text.specs.WellFormed.{AreDefinitions}
use Rattle.ruleset_text.specs.declared.entry_form.Mapped.{Mapped}
use Rattle.lgr_text.specs.Records as lgr
use Rattle.lgr_text.specs.Repertoire.{is_reflexive, may_be}
use Rattle.lgr_table.specs.Entries.{reflexive_type, variant_of, variants_of}
use Rattle.lgr_text.specs.Names.{asked}
use Rattle.lgr_table.specs.Numbers.{Numbering, is_same, number_among, types_with}
use Rattle.lgr_table.specs.Numbers as numbers
use Rattle.lgr_table.specs.inner.EntrySteps.{PushesVariants}
use Rattle.variant_table.proofs.NumberLemmas.{names-after, names-front, number_back}
use Rattle.variant_table.specs.Entries.{Variant}
use Rattle.variant_table.specs.Forms.{entry_of, numbered, type_by, variant_by, variant_mark}

-- ---- the number of a name that a number has

pub type-back : (d : Definitions) (k : ℕ) → AreDefinitions d → k < length (type_names d) → type_number d (type_name d k) ≡ k
type-back d k are less = number_back (type_names d) k (names-front (type_names d) (d.set_names ++ d.rule_names) are.names) less

pub rule-back : (d : Definitions) (k : ℕ) → AreDefinitions d → k < length d.rule_names → number_of d.rule_names (slice_index_or d.rule_names k []) ≡ k
rule-back d k are less =
    number_back d.rule_names k (names-after d.set_names d.rule_names (names-after (type_names d) (d.set_names ++ d.rule_names) are.names)) less

-- the number of a type is below how many there are
pub number-within : (types : List (Option (List ℕ))) (t : Option (List ℕ)) (k : ℕ) → number_among types t ≡ Some k → k < 5 + length types
number-within types t k is = let within = position-Some (is_same t) (types_with types) k None is in omega (arith, within)

pub reflexive-within : (n : Numbering) (source : List ℕ) (vs : List lgr.Variant) (k : ℕ) → reflexive_type n source vs ≡ Some k → k < 5 + length n.types
reflexive-within n source vs k is = by (find (is_reflexive source) vs) is
  where
    by : (o : Option lgr.Variant) → option_and_then (λ (v : lgr.Variant). numbers.type_number n v.type_name) o ≡ Some k → k < 5 + length n.types
    by None e = absurd (cc)
    by (Some v) e = number-within n.types v.type_name k e

-- ---- the first that passes

pub find-first : {X Y : Type 0} (p : Y → Bool) (f : X → Y) (xs : List X) (x : X) (rest : List X) → find p (map f xs) ≡ None → p (f x) ≡ true
    → find p (map f (xs ++ x ∷ rest)) ≡ Some (f x)
find-first p f [] x rest none here = ap (λ b. cond b (Some (f x)) (find p (map f rest))) here
find-first p f (y ∷ xs) x rest none here = by (p (f y)) refl none (λ missed. find-first p f xs x rest missed here)
  where
    by : (b : Bool) → p (f y) ≡ b → cond b (Some (f y)) (find p (map f xs)) ≡ None
        → (find p (map f xs) ≡ None → find p (map f (xs ++ x ∷ rest)) ≡ Some (f x))
        → cond (p (f y)) (Some (f y)) (find p (map f (xs ++ x ∷ rest))) ≡ Some (f x)
    by true e missed more = absurd (cc)
    by false e missed more = ap (λ b. cond b (Some (f y)) (find p (map f (xs ++ x ∷ rest)))) e ∙ more missed

pub find-none : {Y : Type 0} (p : Y → Bool) (xs : List Y) (x : Y) → find p xs ≡ None → p x ≡ false → find p (xs ++ x ∷ []) ≡ None
find-none p xs x none other =
    find-append p xs (x ∷ []) ∙ ap (λ o. option_or o (cond (p x) (Some x) None)) none ∙ ap (λ b. cond b (Some x) None) other

-- ---- variants

module _ (may : ℕ → Bool) (n : Numbering) (source : List ℕ) where
  abbrev keeps : lgr.Variant → Bool
  keeps v = may_be may v.points && not (is_reflexive source v)

  abbrev all : List lgr.Variant → List Variant
  all vs = variants_of may n source vs

  pub variants-more : (vs : List lgr.Variant) (v : lgr.Variant) → all vs ++ all (v ∷ []) ≡ all (vs ++ v ∷ [])
  variants-more vs v =
      sym (ap (map (variant_of n)) (filter-append keeps vs (v ∷ [])) ∙ map-append (variant_of n) (filter keeps vs) (filter keeps (v ∷ [])))

  pub variants-kept : (v : lgr.Variant) → keeps v ≡ true → all (v ∷ []) ≡ variant_of n v ∷ []
  variants-kept v is = ap (λ b. map (variant_of n) (cond b (v ∷ []) [])) is

  pub variants-left : (v : lgr.Variant) → keeps v ≡ false → all (v ∷ []) ≡ []
  variants-left v is = ap (λ b. map (variant_of n) (cond b (v ∷ []) [])) is

abbrev written : Definitions → Mapped → Variant
written d m = variant_by variant_mark d (form_of m)

pub pushes-none : (d : Definitions) (ms : List Mapped) (vs : List Variant) → vs ≡ [] → PushesVariants d ms ms vs
pushes-none d ms vs none = ([], sym (append-nil ms), sym none)

pub pushes-one : (d : Definitions) (ms : List Mapped) (m : Mapped) (v : Variant) (vs : List Variant) → vs ≡ v ∷ [] → written d m ≡ v
    → PushesVariants d ms (ms ++ m ∷ []) vs
pushes-one d ms m v vs one is = (m ∷ [], refl, ap (λ x. x ∷ []) is ∙ sym one)

pub pushes-more : (d : Definitions) (old mid new : List Mapped) (vs ws : List Variant) → PushesVariants d old mid vs → PushesVariants d mid new ws
    → PushesVariants d old new (vs ++ ws)
pushes-more d old mid new vs ws a b = (
  a.0 ++ b.0,
  b.1 ∙ ap (λ l. l ++ b.0) a.1 ∙ append_assoc old a.0 b.0,
  map-append (written d) a.0 b.0 ∙ ap (λ l. l ++ map (written d) b.0) a.2 ∙ ap (λ l. vs ++ l) b.2,
)

pub mapped-more : {X Y : Type 0} (f : X → Y) (xs : List X) (i : ℕ) (x : X) → i < length xs → x ≡ get_or xs i x → map f (take i xs) ++ f x ∷ [] ≡ map f (take (i + 1) xs)
mapped-more f xs i x less is =
    sym (map-append f (take i xs) (x ∷ [])) ∙ ap (map f) (ap (λ y. take i xs ++ y ∷ []) is ∙ sym (take_more xs i x less))

map-map : {X Y Z : Type 0} (g : Y → Z) (f : X → Y) (xs : List X) → map g (map f xs) ≡ map (λ x. g (f x)) xs
map-map g f [] = refl
map-map g f (x ∷ xs) = ap (λ l. g (f x) ∷ l) (map-map g f xs)

-- the entry of a source and of what follows it
pub entry-pushed : (d : Definitions) (first ms : List Mapped) (m : Mapped) (source : List ℕ) (type : Option ℕ) (condition : Option Condition) (vs : List Variant)
    → first ≡ m ∷ [] → m.marked ≡ false → m.points.items ≡ source → option_map (type_number d) m.type_name ≡ type → option_map (numbered d) m.condition ≡ condition
    → PushesVariants d first ms vs → entry_of d (map form_of ms) ≡ record { source = source; type = type; condition = condition; variants = vs }
entry-pushed d first ms m source type condition vs one marked points named asked h =
    let all : ms ≡ m ∷ h.0 = h.1 ∙ ap (λ l. l ++ h.0) one in
    let others : map (variant_by variant_mark d) (map form_of h.0) ≡ vs = map-map (variant_by variant_mark d) form_of h.0 ∙ h.2 in
    let its_type : type_by 0 d m.marked m.type_name ≡ type = ap (λ b. type_by 0 d b m.type_name) marked ∙ named in
    ap (λ l. entry_of d (map form_of l)) all
    ∙ ap (λ l. record { source = m.points.items; type = type_by 0 d m.marked m.type_name; condition = option_map (numbered d) m.condition; variants = l }) others
    ∙ ap (λ t. record { source = m.points.items; type = t; condition = option_map (numbered d) m.condition; variants = vs }) its_type
    ∙ ap (λ c. record { source = m.points.items; type = type; condition = c; variants = vs }) asked
    ∙ ap (λ l. record { source = l; type = type; condition = condition; variants = vs }) points

-- ---- a condition

pub condition-back : (d : Definitions) (n : Numbering) (c : lgr.Condition) (k : ℕ) (rule : List ℕ) → AreDefinitions d → k ≡ number_of n.rules c.rule → k < length d.rule_names
    → rule ≡ slice_index_or d.rule_names k [] → number_of d.rule_names rule ≡ number_of n.rules c.rule
condition-back d n c k rule are is less named = ap (number_of d.rule_names) named ∙ rule-back d k are less ∙ is

-- ---- at most one that is the source

pub filter-push : (p : lgr.Variant → Bool) (xs : List lgr.Variant) (x : lgr.Variant) (b : Bool) → p x ≡ b → filter p (xs ++ x ∷ []) ≡ filter p xs ++ cond b (x ∷ []) []
filter-push p xs x b is = filter-append p xs (x ∷ []) ∙ ap (λ t. filter p xs ++ cond t (x ∷ []) []) is

pub record HasOne (p : lgr.Variant → Bool) (xs : List lgr.Variant) (found : Bool) : Type 0 where
  pub count : length (filter p xs) ≡ cond found 1 0
  pub bare : All (λ v. v.condition ≡ None) (filter p xs)

abbrev Bare : lgr.Variant → Type 0
Bare v = v.condition ≡ None

pub one-more : (p : lgr.Variant → Bool) (xs : List lgr.Variant) (v : lgr.Variant) (found now : Bool) → HasOne p xs found → now ≡ (found || p v)
    → (p v ≡ true → found ≡ false) → (p v ≡ true → v.condition ≡ None) → HasOne p (xs ++ v ∷ []) now
one-more p xs v found now has is alone bare = by (p v) refl
  where
    by : (b : Bool) → p v ≡ b → HasOne p (xs ++ v ∷ []) now
    by true e =
        let more : filter p (xs ++ v ∷ []) ≡ filter p xs ++ v ∷ [] = filter-push p xs v true e in
        let first : ◌≡◌ {A = ℕ} (cond found 1 0) 0 = ap (λ b. cond b 1 0) (alone e) in
        let there : ◌≡◌ {A = ℕ} (cond now 1 0) 1 = ap (λ b. cond b 1 0) (is ∙ ap (λ b. b || p v) (alone e) ∙ e) in
        record {
          count = let count = has.count in omega (arith, count, first, there, ap length more, length_push (filter p xs) v);
          bare = subst (All Bare) (sym more) (All-push Bare (filter p xs) v has.bare (bare e));
        }
    by false e =
        let more : filter p (xs ++ v ∷ []) ≡ filter p xs = filter-push p xs v false e ∙ append-nil (filter p xs) in
        let still : now ≡ found = is ∙ ap (λ b. found || b) e ∙ or-false found in
        record {
          count = ap length more ∙ has.count ∙ ap (λ b. cond b 1 0) (sym still);
          bare = subst (All Bare) (sym more) has.bare;
        }

pub one-at-most : (p : lgr.Variant → Bool) (xs : List lgr.Variant) (found : Bool) → HasOne p xs found → length (filter p xs) ≤ 1
one-at-most p xs true has = let count = has.count in omega (arith, count)
one-at-most p xs false has = let count = has.count in omega (arith, count)

-- ---- rules that are there

pub among : (rules : List (List ℕ)) (name : List ℕ) → number_of rules name < length rules → Contains rules name
unfolding number_of
among rules name less =
    let k = number_of rules name in
    (k, less, get_or_default rules k name [] less ∙ (bytes_eq-Decides (get_or rules k []) name).0 (passes_at_first (λ other. bytes_eq other name) rules [] less))

pub asked-among : (rules : List (List ℕ)) (c : Option lgr.Condition) (x : lgr.Condition) → c ≡ Some x → number_of rules x.rule < length rules → All (Contains rules) (asked c)
asked-among rules c x is less =
    subst (λ o. All (Contains rules) (asked o)) (sym is) (All-push (Contains rules) [] x.rule (All-nil (Contains rules)) (among rules x.rule less))
