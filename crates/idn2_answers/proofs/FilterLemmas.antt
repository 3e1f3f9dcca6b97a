-- What a listing asks of labels, and what is known of it.
use Rattle.std.proofs.Common.{◌≡◌, ◌≢◌, not, ◌≤◌, ◌<◌, ◌++◌, ◌&&◌, ◌||◌, ◌↔◌, ℕ, zero, suc, List, [], ◌∷◌, Option, Some, None, Bool, true, false, IsTrue, take, drop, length, refl, sym, ap, subst, ◌∙◌, arith}
use Rattle.std.specs.Prelude.{nat_le}
use Rattle.std.specs.Option.{is_none}
use Rattle.std.proofs.lemmas.Bool.Decides.{nat_tests}
use Rattle.std.proofs.lemmas.List.{take-append-drop, take_all}
use Rattle.std.proofs.lemmas.Bool.{and_from, or_from, false_from_ne_true}
use Rattle.idn_class.specs.declared.properties.Properties.{Properties}
use Rattle.idn_class.specs.DeadPrefixes as class
use Rattle.idn_class.specs.DeadPrefixes.{hopeless, IsDeadPrefix}
use Rattle.idn_class.proofs.DeadPrefixSteps.{hopeless-nil}
use Rattle.idn_class.proofs.DeadPrefixTests.{hopeless-from}
use Rattle.idn_label.specs.FirstFault.{first_fault, IsRegistrable}
use Rattle.idn_label.proofs.DeadPrefixLemmas.{none_hopeless}
use Rattle.idn_label.proofs.RequirementLemmas.{MeetsRequirements-registrable}
use Rattle.variant_table.specs.Entries.{TableValue}
use Rattle.valid_labels.specs.Validity as validity
use Rattle.valid_labels.specs.Validity.{IsDeadUnder, IsValid, HasNoDeadPrefixUnder}
use Rattle.valid_labels.specs.Tests.{asks_nothing, is_dead_under, is_valid}
use Rattle.valid_labels.proofs.DeadPrefixLemmas.{dead-invalid}
use Rattle.valid_labels.proofs.TestLemmas.{tests-agree}
use Rattle.variant_list.specs.Beginnings.{HasNoDeadPrefix, has_no_dead_prefix}
use Rattle.variant_list.specs.Spelling.{Spells}
use Rattle.variant_list.proofs.BeginningLemmas.{shortest_hopeless-none}
use Rattle.idn2_answers.proofs.DeadPrefixLemmas.{clear}
use Rattle.idn2_answers.proofs.DispositionTests.{left_out-told}
use Rattle.idn2_answers.proofs.LostBeginnings.{not-left, ruled-for_good}
use Rattle.idn2_answers.specs.Dispositions.{IsLeftOut, is_left_out}
use Rattle.idn2_answers.specs.Listings.{Filter, filter_if, filter_of, is_registrable, registrable_labels, ruled_labels}

module _ (properties : Properties) where
  -- each label that is accepted may be registered, and none of them begins with a dead prefix
  pub record IsSound (f : Filter) : Type 0 where
    pub registrable : (v : List ℕ) → f.accepts v ≡ true → IsRegistrable properties v
    pub for_good : (w z : List ℕ) → f.hopeless w ≡ true → f.accepts (w ++ z) ≡ false

  -- it has at most 63 code points
  pub accepted-short : (f : Filter) → IsSound f → (v : List ℕ) → f.accepts v ≡ true → length v ≤ 63
  accepted-short f sound v accepted = (MeetsRequirements-registrable properties v (sound.registrable v accepted)).points

  pub is_registrable-from : (v : List ℕ) → is_registrable properties v ≡ true → IsRegistrable properties v
  is_registrable-from v h = none (first_fault properties v) h
    where
      none : {X : Type 0} (r : Option X) → is_none r ≡ true → r ≡ None
      none None h = refl
      none (Some x) h = cc

  -- and at least one
  pub registrable-some : (v : List ℕ) → IsRegistrable properties v → v ≢ []
  registrable-some v is = (MeetsRequirements-registrable properties v is).some

  pub registrable_labels-IsSound : IsSound (registrable_labels properties)
  registrable_labels-IsSound = record { registrable = is_registrable-from; for_good = none_hopeless properties }

-- ---- both halves of a test

both-left : (a b : Bool) → (a && b) ≡ true → a ≡ true
both-left true b h = refl
both-left false b h = cc

both-right : (a b : Bool) → (a && b) ≡ true → b ≡ true
both-right true b h = h
both-right false b h = cc

neither-left : (a b : Bool) → (a || b) ≡ false → a ≡ false
neither-left false b h = refl
neither-left true b h = cc

neither-right : (a b : Bool) → (a || b) ≡ false → b ≡ false
neither-right false b h = h
neither-right true b h = cc

-- ---- labels that are valid under a table, too

module _ (properties : Properties) where
  pub ruled_labels-IsSound : (table : TableValue) → IsSound properties (ruled_labels properties table)
  ruled_labels-IsSound table = record {
    registrable = λ v h. is_registrable-from properties v (both-left (is_registrable properties v) (is_valid table v && has_no_dead_prefix (is_dead_under table) v) h);
    for_good = ruled-for_good properties table;
  }

  filter_if-IsSound : (b : Bool) (table : TableValue) → IsSound properties (filter_if properties b table)
  filter_if-IsSound true table = registrable_labels-IsSound properties
  filter_if-IsSound false table = ruled_labels-IsSound table

  pub filter_of-IsSound : (table : TableValue) (label : List ℕ) → IsSound properties (filter_of properties table label)
  filter_of-IsSound table label =
      let asked : Filter = filter_if properties (asks_nothing table) table in
      let sound = filter_if-IsSound (asks_nothing table) table in record {
        registrable = λ v h. sound.registrable v (both-left (asked.accepts v) (not (is_left_out table label v)) h);
        for_good = λ w z h. not-left (asked.accepts (w ++ z)) (not (is_left_out table label (w ++ z))) (sound.for_good w z h);
      }

-- ---- a valid label has no dead prefix under the table

not_dead : (table : TableValue) (v : List ℕ) → validity.IsSound table → IsValid table v → (k : ℕ) → IsDeadUnder table (take k v) → ⊥
not_dead table v sound valid k is = dead-invalid table (take k v) (drop k v) sound is (subst (IsValid table) (sym (take-append-drop k v)) valid)

module _ (properties : Properties) where
  empty_is_alive : IsDeadPrefix properties [] → ⊥
  empty_is_alive h = let clash : false ≡ true = sym (hopeless-nil properties) ∙ hopeless-from properties [] h in cc

  alive-rule : (v : List ℕ) → HasNoDeadPrefix (hopeless properties) v → class.HasNoDeadPrefix properties v
  alive-rule v h zero bad = empty_is_alive bad
  alive-rule [] h (suc k) bad = empty_is_alive bad
  alive-rule (c ∷ v) h (suc k) bad = by_length (nat_le (suc k) (length (c ∷ v))) refl
    where
      clash : (n : ℕ) → 1 ≤ n → n ≤ length (c ∷ v) → IsDeadPrefix properties (take n (c ∷ v)) → ⊥
      clash n low high at = let both : false ≡ true = sym (h n low high) ∙ hopeless-from properties (take n (c ∷ v)) at in cc

      all : (n : ℕ) → length (c ∷ v) ≤ n → take n (c ∷ v) ≡ take (length (c ∷ v)) (c ∷ v)
      all n long = take_all n (c ∷ v) long ∙ sym (take_all (length (c ∷ v)) (c ∷ v) (omega arith))

      by_length : (b : Bool) → nat_le (suc k) (length (c ∷ v)) ≡ b → ⊥
      by_length true is = clash (suc k) (omega arith) (grind (arith, nat_tests)) bad
      by_length false is =
          let long : length (c ∷ v) ≤ suc k = grind (arith, nat_tests) in
          clash (length (c ∷ v)) (omega arith) (omega arith) (subst (IsDeadPrefix properties) (all (suc k) long) bad)

-- ---- what the filter of a table asks of a label that is valid where the table asks nothing

module _ (properties : Properties) where
  -- what is asked for all listings is that labels are registrable and valid
  pub asked-is : (table : TableValue) (v : List ℕ) → validity.IsSound table → (asks_nothing table ≡ true → IsValid table v)
      → ((filter_if properties (asks_nothing table) table).accepts v ≡ true) ↔ (IsRegistrable properties v × IsValid table v)
  asked-is table v sound free = by_test (asks_nothing table) free
    where
      valid_test : IsTrue (is_valid table v) ↔ IsValid table v
      valid_test = tests-agree.valid table v sound

      no_dead : IsValid table v → has_no_dead_prefix (is_dead_under table) v ≡ true
      no_dead valid = ap is_none (shortest_hopeless-none (is_dead_under table) v (λ k low high. false_from_ne_true (is_dead_under table (take k v)) (λ is. not_dead table v sound valid k ((tests-agree.dead table (take k v) sound).0 is))))

      by_test : (b : Bool) → (b ≡ true → IsValid table v) → ((filter_if properties b table).accepts v ≡ true) ↔ (IsRegistrable properties v × IsValid table v)
      by_test true valid = (λ h. (is_registrable-from properties v h, valid refl), λ both. ap is_none both.0)
      by_test false valid = (
        λ h. (
          is_registrable-from properties v (both-left (is_registrable properties v) (is_valid table v && has_no_dead_prefix (is_dead_under table) v) h),
          valid_test.0 (both-left (is_valid table v) (has_no_dead_prefix (is_dead_under table) v) (both-right (is_registrable properties v) (is_valid table v && has_no_dead_prefix (is_dead_under table) v) h)),
        ),
        λ both. and_from (is_registrable properties v) _ (ap is_none both.0) (and_from (is_valid table v) _ (valid_test.1 both.1) (no_dead both.1)),
      )

  -- of what the label spells those are accepted that the listing doesn't leave out
  pub accepted-is : (table : TableValue) (label v : List ℕ) → validity.IsSound table → (asks_nothing table ≡ true → IsValid table v) → Spells table label v
      → ((filter_of properties table label).accepts v ≡ true) ↔ (IsRegistrable properties v × IsValid table v × ¬ IsLeftOut table label v)
  accepted-is table label v sound free spells =
      let asked : Bool = (filter_if properties (asks_nothing table) table).accepts v in
      let is = asked-is table v sound free in
      let left = λ (some : v ≢ []). left_out-told table label sound v some spells in (
        λ h.
            let a = is.0 (both-left asked (not (is_left_out table label v)) h) in
            let kept = both-right asked (not (is_left_out table label v)) h in
            (a.0, a.1, λ out. (let both : not (is_left_out table label v) ≡ false = ap not ((left (registrable-some properties v a.0)).1 out) in let clash : false ≡ true = sym both ∙ kept in cc)),
        λ g. and_from asked (not (is_left_out table label v)) (is.1 (g.0, g.1))
            (ap not (false_from_ne_true (is_left_out table label v) (λ e. g.2 ((left (registrable-some properties v g.0)).0 e)))),
      )

  -- a label has no dead prefix to it exactly where it has none by registration and none under the table
  pub alive-is : (table : TableValue) (label v : List ℕ) → validity.IsSound table → (asks_nothing table ≡ true → IsValid table v)
      → HasNoDeadPrefix (filter_of properties table label).hopeless v ↔ (class.HasNoDeadPrefix properties v × HasNoDeadPrefixUnder table v)
  alive-is table label v sound free = by_test (asks_nothing table) free
    where
      none_dead : HasNoDeadPrefix (is_dead_under table) v → HasNoDeadPrefixUnder table v
      none_dead h zero high is = absurd (let bad : 0 < 0 = is.some in omega (arith, bad))
      none_dead h (suc k) high is =
          let clash : false ≡ true = sym (h (suc k) (omega arith) high) ∙ (tests-agree.dead table (take (suc k) v) sound).1 is in cc

      by_test : (b : Bool) → (b ≡ true → IsValid table v) → HasNoDeadPrefix (filter_if properties b table).hopeless v ↔ (class.HasNoDeadPrefix properties v × HasNoDeadPrefixUnder table v)
      by_test true valid = (λ h. (alive-rule properties v h, λ k high. not_dead table v sound (valid refl) k), λ both k low high. clear properties (take k v) (both.0 k))
      by_test false valid = (
        λ h. (
          alive-rule properties v (λ k low high. neither-left (hopeless properties (take k v)) (is_dead_under table (take k v)) (h k low high)),
          none_dead (λ k low high. neither-right (hopeless properties (take k v)) (is_dead_under table (take k v)) (h k low high)),
        ),
        λ both k low high. or_from (hopeless properties (take k v)) (is_dead_under table (take k v)) (clear properties (take k v) (both.0 k))
            (false_from_ne_true (is_dead_under table (take k v)) (λ is. both.1 k high ((tests-agree.dead table (take k v) sound).0 is))),
      )
