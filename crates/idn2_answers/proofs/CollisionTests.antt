-- The tests of collisions are true where the definitions hold.
use Rattle.std.proofs.Common.{◌≡◌, ◌⊎◌, ◌↔◌, inl, inr, ◌&&◌, ◌||◌, not, if◌then◌else◌, ℕ, Bool, true, false, List, [], ◌∷◌, Option, Some, None, refl, sym, ap, ◌∙◌}
use Rattle.std.specs.Option.{is_none}
use Rattle.std.proofs.lemmas.Bool.{false_from_ne_true}
use Rattle.label_patterns.proofs.TestLemmas.{and-both, or-one}
use Rattle.idn_label.specs.FirstFault.{IsRegistrable}
use Rattle.idn_label.proofs.RequirementLemmas.{MeetsRequirements-registrable}
use Rattle.variant_table.specs.declared.version.Version.{Version}
use Rattle.variant_table.specs.declared.version.Version.TheVariants.{One, Two, Three}
use Rattle.variant_table.specs.Entries.{TableValue}
use Rattle.valid_labels.specs.Tests.{is_admitted, is_valid}
use Rattle.valid_labels.specs.Validity.{IsSound}
use Rattle.valid_labels.proofs.TestLemmas.{tests-agree}
use Rattle.variant_list.specs.Arising.{Arises, unasked}
use Rattle.variant_list.specs.Closure.{AreNear}
use Rattle.variant_list.specs.Labels.{IsBelow}
use Rattle.variant_list.specs.Spelled.{spelled}
use Rattle.variant_list.specs.Spelling.{Spells}
use Rattle.variant_list.proofs.ArisingLemmas.{Arises-spelled, unasked-Arises}
use Rattle.variant_list.proofs.NearLaws.{AreNear-arising, AreNear-turned}
use Rattle.variant_list.proofs.SpelledByLemmas.{spelled-Spells}
use Rattle.answer_json.specs.declared.block.Disposition.{Disposition}
use Rattle.answer_json.specs.declared.block.Disposition.TheVariants as disposition
use Rattle.answer_json.specs.declared.collision.Regard.{Regard}
use Rattle.answer_json.specs.declared.collision.Regard.TheVariants.{NoVariant, Variant, Blocked, Allocatable}
use Rattle.idn2_options.specs.Settings.{Settings}
use Rattle.idn2_answers.specs.Dispositions.{IsAllocatable, IsClear, IsDisposition, IsLeftOut, disposition as disposition_of, is_left_out}
use Rattle.idn2_answers.specs.Listings.{is_among, is_registrable}
use Rattle.idn2_answers.specs.Collisions.{IsGood, IsVariantOf, IsBarred, IsSomething, IsRegard, Collides, barred_in, collide, is_barred, is_good, is_something, is_variant_of, regard_by, regard_of}
use Rattle.idn2_answers.proofs.DispositionTests.{disposition-IsDisposition, left_out-told, one-field}
use Rattle.idn2_answers.proofs.FilterLemmas.{is_registrable-from, registrable-some}
use Rattle.idn2_answers.proofs.MemberTests.{among-found}

-- ---- tests of facts

not-told : (b : Bool) (P : Type 0) → (b ≡ true) ↔ P → (not b ≡ true) ↔ (¬ P)
not-told true P is = (λ h. absurd (let clash : false ≡ true = h in cc), λ none. absurd (none (is.0 refl)))
not-told false P is = (λ h p. (let clash : false ≡ true = is.1 p in cc), λ none. refl)

both-told : (a b : Bool) (P Q : Type 0) → (a ≡ true) ↔ P → (b ≡ true) ↔ Q → ((a && b) ≡ true) ↔ (P × Q)
both-told a b P Q p q =
    let both = and-both a b in
    (λ h. (p.0 (both.0 h).0, q.0 (both.0 h).1), λ h. both.1 (p.1 h.0, q.1 h.1))

one-told : (a b : Bool) (P Q : Type 0) → (a ≡ true) ↔ P → (b ≡ true) ↔ Q → ((a || b) ≡ true) ↔ (P ⊎ Q)
one-told a b P Q p q =
    let either = or-one a b in (
      λ h. elim (either.0 h) [ inl l ↦ inl (p.0 l) | inr r ↦ inr (q.0 r) ],
      λ h. either.1 (elim h [ inl l ↦ inl (p.1 l) | inr r ↦ inr (q.1 r) ]),
    )

-- ---- of a table

module _ (o : Settings) (table : TableValue) (sound : IsSound table) where
  abbrev registrable : List ℕ → Bool
  registrable = is_registrable o.properties

  registrable-told : (v : List ℕ) → (registrable v ≡ true) ↔ IsRegistrable o.properties v
  registrable-told v = (is_registrable-from o.properties v, λ is. ap is_none is)

  pub good-told : (v : List ℕ) → (is_good registrable table v ≡ true) ↔ IsGood o table v
  good-told v =
      let both = both-told (registrable v) (is_admitted table v) _ _ (registrable-told v) (tests-agree.admitted table v sound) in
      (λ h. (let p = both.0 h in record { registrable = p.0; admitted = p.1 }), λ g. both.1 (g.registrable, g.admitted))

  above-empty : (w : List ℕ) → IsRegistrable o.properties w → IsBelow [] w
  above-empty [] is = absurd ((MeetsRequirements-registrable o.properties [] is).some refl)
  above-empty (c ∷ w) is = tt

  spells-told : (v w : List ℕ) → (is_among (spelled table v) w ≡ true) ↔ Spells table v w
  spells-told v w =
      let spells = spelled-Spells table v w sound.entries in
      let among = among-found w (spelled table v) in
      (λ h. spells.0 (among.0 h), λ s. among.1 (spells.1 s))

  -- what is spelled and may be registered is kept or left out
  kept-told : (v w : List ℕ) → IsRegistrable o.properties w → Spells table v w → (not (is_left_out table v w) ≡ true) ↔ (¬ IsLeftOut table v w)
  kept-told v w is spells = not-told (is_left_out table v w) _ (left_out-told table v sound w (registrable-some o.properties w is) spells)

  pub variant-told : (v w : List ℕ) → (is_variant_of registrable table v w ≡ true) ↔ IsVariantOf o table v w
  variant-told v w =
      let kept = and-both (is_among (spelled table v) w) (not (is_left_out table v w)) in
      let valid = and-both (is_valid table w) (is_among (spelled table v) w && not (is_left_out table v w)) in
      let listed = and-both (registrable w) (is_valid table w && (is_among (spelled table v) w && not (is_left_out table v w))) in
      let all = and-both (is_good registrable table v) (registrable w && (is_valid table w && (is_among (spelled table v) w && not (is_left_out table v w)))) in
      let is_valid-told = tests-agree.valid table w sound in (
        λ h.
            let p = all.0 h in
            let q = listed.0 p.1 in
            let r = valid.0 q.1 in
            let s = kept.0 r.1 in
            let is = (registrable-told w).0 q.0 in
            let spells = (spells-told v w).0 s.0 in
            record {
              good = (good-told v).0 p.0;
              listed = record { registrable = is; valid = is_valid-told.0 r.0; greater = above-empty w is; spelled = spells; kept = (kept-told v w is spells).0 s.1 };
            },
        λ i.
            let l = i.listed in
            all.1 ((good-told v).1 i.good, listed.1 ((registrable-told w).1 l.registrable, valid.1 (is_valid-told.1 l.valid, kept.1 ((spells-told v w).1 l.spelled, (kept-told v w l.registrable l.spelled).1 l.kept)))),
      )

  pub arises-told : (v w : List ℕ) → (is_among (spelled (unasked table) v) w ≡ true) ↔ Arises table v w
  arises-told v w =
      let arises = unasked-Arises table v w sound.entries in
      let among = among-found w (spelled (unasked table) v) in
      (λ h. arises.0 (among.0 h), λ a. among.1 (arises.1 a))

  pub barred-told : (v w : List ℕ) → (is_barred registrable table v w ≡ true) ↔ IsBarred o table v w
  barred-told v w =
      let good = both-told (is_good registrable table v) (is_good registrable table w) _ _ (good-told v) (good-told w) in
      let rest = both-told (not (is_variant_of registrable table v w)) (is_among (spelled (unasked table) v) w) _ _ (not-told (is_variant_of registrable table v w) _ (variant-told v w)) (arises-told v w) in
      let all = both-told (not (is_good registrable table v && is_good registrable table w)) (not (is_variant_of registrable table v w) && is_among (spelled (unasked table) v) w) _ _ (not-told (is_good registrable table v && is_good registrable table w) _ good) rest in (
        λ h. (let p = all.0 h in record { refused = p.0; unlisted = p.1.0; arises = p.1.1 }),
        λ b. all.1 (b.refused, (b.unlisted, b.arises)),
      )

  -- ---- what one label is to another

  disposed : (v w : List ℕ) → IsVariantOf o table v w → IsDisposition table v w (disposition_of table v w)
  disposed v w is = disposition-IsDisposition table v sound w (registrable-some o.properties w is.listed.registrable) is.listed.spelled

  of_variant : (v w : List ℕ) → IsVariantOf o table v w → (field : Option Disposition) → IsDisposition table v w field → IsRegard o table v w (regard_by field)
  of_variant v w is None disposed = inl (is, (None, disposed, refl))
  of_variant v w is (Some disposition.Allocatable) disposed = inl (is, (Some disposition.Allocatable, disposed, refl))
  of_variant v w is (Some disposition.Blocked) disposed = inl (is, (Some disposition.Blocked, disposed, refl))
  of_variant v w is (Some disposition.Unclear) disposed = inl (is, (Some disposition.Unclear, disposed, refl))

  of_barred : (v w : List ℕ) → IsBarred o table v w → (n : Version) → n ≡ table.version → IsRegard o table v w (barred_in n)
  of_barred v w is One same = inr (is, ap barred_in same)
  of_barred v w is Two same = inr (is, ap barred_in same)
  of_barred v w is Three same = inr (is, ap barred_in same)

  -- by what the tests tell
  abbrev regard_if : List ℕ → List ℕ → Bool → Bool → Regard
  regard_if v w variant barred = if variant then regard_by (disposition_of table v w) else (if barred then barred_in table.version else NoVariant)

  -- a variant
  pub regard-variant : (v w : List ℕ) → IsVariantOf o table v w → regard_by (disposition_of table v w) ≡ regard_of registrable table v w
  regard-variant v w is = ap (λ b. regard_if v w b (is_barred registrable table v w)) (sym ((variant-told v w).1 is))

  -- what is barred
  pub regard-barred : (v w : List ℕ) → IsBarred o table v w → barred_in table.version ≡ regard_of registrable table v w
  regard-barred v w is =
      let unlisted : is_variant_of registrable table v w ≡ false = false_from_ne_true (is_variant_of registrable table v w) (λ e. is.unlisted ((variant-told v w).0 e)) in
      ap (λ b. regard_if v w false b) (sym ((barred-told v w).1 is)) ∙ ap (λ b. regard_if v w b (is_barred registrable table v w)) (sym unlisted)

  pub regard-told : (v w : List ℕ) → IsRegard o table v w (regard_of registrable table v w)
  regard-told v w = by_tests (is_variant_of registrable table v w) (is_barred registrable table v w) (variant-told v w) (barred-told v w)
    where
      by_tests : (variant barred : Bool) → (variant ≡ true) ↔ IsVariantOf o table v w → (barred ≡ true) ↔ IsBarred o table v w → IsRegard o table v w (regard_if v w variant barred)
      by_tests true barred is bars = of_variant v w (is.0 refl) (disposition_of table v w) (disposed v w (is.0 refl))
      by_tests false true is bars = of_barred v w (bars.0 refl) table.version refl
      by_tests false false is bars = (λ i. (let clash : false ≡ true = is.1 i in cc), λ b. (let clash : false ≡ true = bars.1 b in cc))

  -- it is one thing
  pub regard-one : (v w : List ℕ) (regard : Regard) → IsRegard o table v w regard → regard ≡ regard_of registrable table v w
  regard-one v w regard is = by_tests regard (is_variant_of registrable table v w) (is_barred registrable table v w) (variant-told v w) (barred-told v w) is
    where
      something : (r : Regard) (variant barred : Bool) → (variant ≡ true) ↔ IsVariantOf o table v w → (barred ≡ true) ↔ IsBarred o table v w → IsSomething o table v w r → r ≡ regard_if v w variant barred
      something r variant barred tells bars (inl h) =
          h.1.2 ∙ ap regard_by (one-field table.version (IsClear table v w) (IsAllocatable table v w) h.1.0 (disposition_of table v w) h.1.1 (disposed v w h.0))
          ∙ ap (λ b. regard_if v w b barred) (sym (tells.1 h.0))
      something r variant barred tells bars (inr h) =
          let unlisted : variant ≡ false = false_from_ne_true variant (λ e. h.0.unlisted (tells.0 e)) in
          h.1 ∙ ap (λ b. regard_if v w false b) (sym (bars.1 h.0)) ∙ ap (λ b. regard_if v w b barred) (sym unlisted)

      by_tests : (r : Regard) (variant barred : Bool) → (variant ≡ true) ↔ IsVariantOf o table v w → (barred ≡ true) ↔ IsBarred o table v w → IsRegard o table v w r → r ≡ regard_if v w variant barred
      by_tests NoVariant variant barred tells bars none =
          let unlisted : variant ≡ false = false_from_ne_true variant (λ e. none.0 (tells.0 e)) in
          let free : barred ≡ false = false_from_ne_true barred (λ e. none.1 (bars.0 e)) in
          ap (λ b. regard_if v w false b) (sym free) ∙ ap (λ b. regard_if v w b barred) (sym unlisted)
      by_tests Variant variant barred tells bars s = something Variant variant barred tells bars s
      by_tests Blocked variant barred tells bars s = something Blocked variant barred tells bars s
      by_tests Allocatable variant barred tells bars s = something Allocatable variant barred tells bars s

  -- and what is neither
  pub regard-none : (v w : List ℕ) → ¬ IsVariantOf o table v w → ¬ IsBarred o table v w → NoVariant ≡ regard_of registrable table v w
  regard-none v w unlisted free = regard-one v w NoVariant (unlisted, free)

  pub something-told : (v w : List ℕ) → (is_something (regard_of registrable table v w) ≡ true) ↔ (IsVariantOf o table v w ⊎ IsBarred o table v w)
  something-told v w = by_tests (is_variant_of registrable table v w) (is_barred registrable table v w) (variant-told v w) (barred-told v w)
    where
      by_field : (field : Option Disposition) → is_something (regard_by field) ≡ true
      by_field None = refl
      by_field (Some disposition.Allocatable) = refl
      by_field (Some disposition.Blocked) = refl
      by_field (Some disposition.Unclear) = refl

      by_version : (n : Version) → is_something (barred_in n) ≡ true
      by_version One = refl
      by_version Two = refl
      by_version Three = refl

      by_tests : (variant barred : Bool) → (variant ≡ true) ↔ IsVariantOf o table v w → (barred ≡ true) ↔ IsBarred o table v w
          → (is_something (regard_if v w variant barred) ≡ true) ↔ (IsVariantOf o table v w ⊎ IsBarred o table v w)
      by_tests true barred is bars = (λ h. inl (is.0 refl), λ e. by_field (disposition_of table v w))
      by_tests false true is bars = (λ h. inr (bars.0 refl), λ e. by_version table.version)
      by_tests false false is bars = (
        λ h. absurd (let clash : false ≡ true = h in cc),
        λ e. elim e [ inl i ↦ is.1 i | inr b ↦ bars.1 b ],
      )

  pub collide-told : (v w : List ℕ) → (collide registrable table v w ≡ true) ↔ Collides o table v w
  collide-told v w = one-told (is_something (regard_of registrable table v w)) (is_something (regard_of registrable table w v)) _ _ (something-told v w) (something-told w v)

-- ---- what collides is near

arises-of : (o : Settings) (table : TableValue) (v w : List ℕ) → (IsVariantOf o table v w ⊎ IsBarred o table v w) → Arises table v w
arises-of o table v w (inl i) = Arises-spelled table v w i.listed.spelled
arises-of o table v w (inr b) = b.arises

pub near-of : (o : Settings) (table : TableValue) (v w : List ℕ) → Collides o table v w → AreNear table v w
near-of o table v w (inl there) = AreNear-arising table v w (arises-of o table v w there)
near-of o table v w (inr back) = AreNear-turned table w v (AreNear-arising table w v (arises-of o table w v back))
