use Rattle.std.proofs.Common.{◌≡◌, ◌≢◌, ◌≤◌, ℕ, List, [], ◌∷◌, ◌++◌, length, true, false, ap, sym, subst, ◌∙◌, arith, length-append, Vec, Global, ◌↔◌, ◌⊎◌}
use Rattle.std.specs.Prelude.{AllPairs, Contains}
use Rattle.std.proofs.lemmas.List.{length-map}
use Rattle.std.proofs.lemmas.List.Elements.{Contains-get_or}
use Rattle.std.proofs.lemmas.List.Quantifiers.{all_pairs_push}
use Rattle.variant_list.specs.Reversed.{sources_of}
use Rattle.variant_list.specs.inner.Turned.{sequences_of, groups_of}
use Rattle.variant_list.proofs.TurnedLemmas.{found_sources, sources-found, sources-removed, Adds-put, AreSound-put, members-same, members-more}
use Rattle.variant_list.proofs.reversed.add.Goals.{in-Some, in-None, then-not-has+else-len-ge-SOURCE_LIMIT+in_ok-push_copy, else-not-has}
use Rattle.variant_list.proofs.reversed.add.Goals as goal

pub returns-then-len-ge-SOURCE_LIMIT-clause-no_room : goal.returns-then-len-ge-SOURCE_LIMIT-clause-no_room
returns-then-len-ge-SOURCE_LIMIT-clause-no_room c told =
    let a : List ℕ = c.args.variant.now in
    let old = groups_of c.args.sources.now.entries in
    let was : sequences_of c.match-remove.of_variant.items ≡ sources_of old a = elim c.match-remove.branch [
      | in-Some w ↦ ap (λ (v : Vec (Vec ℕ Global) Global). sequences_of v.items) w.of_variant-is ∙ ap found_sources w.in-Some.ensures.value ∙ sources-found c.args.sources.now.entries a
      | in-None w ↦ ap (λ (v : Vec (Vec ℕ Global) Global). sequences_of v.items) w.of_variant-is ∙ ap sequences_of w.new-of_variant.ensures.items ∙ ap found_sources w.in-None.ensures.value ∙ sources-found c.args.sources.now.entries a
    ] in
    let few = (c.requires.sound a).0 in
    let counted : length (sequences_of c.match-remove.of_variant.items) ≡ length c.match-remove.of_variant.items = length-map c.match-remove.of_variant.items (λ (v : Vec ℕ Global). v.items) in
    record {
      full = omega (arith, few, counted, ap length was, c.if-len-ge-SOURCE_LIMIT.true, c.len.ensures);
      other = λ there. (let told : c.has.result ≡ true = c.has.ensures.1 (subst (λ l. Contains l c.args.source.now) (sym (ap sequences_of c.deref.ensures.value ∙ was)) there) in
          let clash : true ≡ false = sym told ∙ c.if-not-has.true in
          absurd cc);
    }

pub returns-clause-adds : goal.returns-clause-adds
returns-clause-adds c told =
    let a : List ℕ = c.args.variant.now in
    let b : List ℕ = c.args.source.now in
    let old = groups_of c.args.sources.now.entries in
    let was : sequences_of c.match-remove.of_variant.items ≡ sources_of old a = elim c.match-remove.branch [
      | in-Some w ↦ ap (λ (v : Vec (Vec ℕ Global) Global). sequences_of v.items) w.of_variant-is ∙ ap found_sources w.in-Some.ensures.value ∙ sources-found c.args.sources.now.entries a
      | in-None w ↦ ap (λ (v : Vec (Vec ℕ Global) Global). sequences_of v.items) w.of_variant-is ∙ ap sequences_of w.new-of_variant.ensures.items ∙ ap found_sources w.in-None.ensures.value ∙ sources-found c.args.sources.now.entries a
    ] in
    let others : (x : List ℕ) → x ≢ a → sources_of (groups_of c.remove.new.self.entries) x ≡ sources_of old x = λ (x : List ℕ) n.
    (ap (λ es. sources_of (groups_of es) x) c.remove.ensures.entries ∙ sources-removed c.args.sources.now.entries a x n) in
    let members : (y : List ℕ) → Contains (sequences_of c.if-not-has.of_variant.items) y ↔ (Contains (sources_of old a) y ⊎ (y ≡ b)) = λ (y : List ℕ). elim c.if-not-has.branch [
      | then-not-has+else-len-ge-SOURCE_LIMIT+in_ok-push_copy w ↦
          let is : sequences_of c.if-not-has.of_variant.items ≡ sources_of old a ++ b ∷ [] = ap (λ (v : Vec (Vec ℕ Global) Global). sequences_of v.items) w.of_variant-is ∙ w.in_ok-push_copy.ensures ∙ ap (λ l. l ++ b ∷ []) was in
          subst (λ l. Contains l y ↔ (Contains (sources_of old a) y ⊎ (y ≡ b))) (sym is) (members-more (sources_of old a) b y)
      | else-not-has w ↦
          let is : sequences_of c.if-not-has.of_variant.items ≡ sources_of old a = ap (λ (v : Vec (Vec ℕ Global) Global). sequences_of v.items) w.of_variant-is ∙ was in
          let there : Contains (sources_of old a) b = subst (λ l. Contains l b) (ap sequences_of c.deref.ensures.value ∙ was) (c.has.ensures.0 w.if-not-has.false) in
          subst (λ l. Contains l y ↔ (Contains (sources_of old a) y ⊎ (y ≡ b))) (sym is) (members-same (sources_of old a) b there y)
    ] in
    Adds-put old (groups_of c.remove.new.self.entries) (groups_of c.put.new.sources.entries) a (sequences_of c.if-not-has.of_variant.items) others c.in_ok-put.ensures b members

pub returns-clause-sound : goal.returns-clause-sound
returns-clause-sound c told =
    let a : List ℕ = c.args.variant.now in
    let b : List ℕ = c.args.source.now in
    let old = groups_of c.args.sources.now.entries in
    let was : sequences_of c.match-remove.of_variant.items ≡ sources_of old a = elim c.match-remove.branch [
      | in-Some w ↦ ap (λ (v : Vec (Vec ℕ Global) Global). sequences_of v.items) w.of_variant-is ∙ ap found_sources w.in-Some.ensures.value ∙ sources-found c.args.sources.now.entries a
      | in-None w ↦ ap (λ (v : Vec (Vec ℕ Global) Global). sequences_of v.items) w.of_variant-is ∙ ap sequences_of w.new-of_variant.ensures.items ∙ ap found_sources w.in-None.ensures.value ∙ sources-found c.args.sources.now.entries a
    ] in
    let others : (x : List ℕ) → x ≢ a → sources_of (groups_of c.remove.new.self.entries) x ≡ sources_of old x = λ (x : List ℕ) n.
    (ap (λ es. sources_of (groups_of es) x) c.remove.ensures.entries ∙ sources-removed c.args.sources.now.entries a x n) in
    let is_sound : (length (sequences_of c.if-not-has.of_variant.items) ≤ 64) × AllPairs (λ x y. x ≢ y) (sequences_of c.if-not-has.of_variant.items) = elim c.if-not-has.branch [
      | then-not-has+else-len-ge-SOURCE_LIMIT+in_ok-push_copy w ↦
          let is : sequences_of c.if-not-has.of_variant.items ≡ sources_of old a ++ b ∷ [] = ap (λ (v : Vec (Vec ℕ Global) Global). sequences_of v.items) w.of_variant-is ∙ w.in_ok-push_copy.ensures ∙ ap (λ l. l ++ b ∷ []) was in
          let counted : length (sequences_of c.match-remove.of_variant.items) ≡ length c.match-remove.of_variant.items = length-map c.match-remove.of_variant.items (λ (v : Vec ℕ Global). v.items) in
          let few : length (sources_of old a ++ b ∷ []) ≤ 64 = omega (arith, length-append (sources_of old a) (b ∷ []), counted, ap length was, w.if-len-ge-SOURCE_LIMIT.false, w.len.ensures) in
          let other : Contains (sources_of old a) b → true ≡ false = λ there. (sym (c.has.ensures.1 (subst (λ l. Contains l b) (sym (ap sequences_of c.deref.ensures.value ∙ was)) there)) ∙ w.if-not-has.true) in
          subst (λ l. (length l ≤ 64) × AllPairs (λ x y. x ≢ y) l) (sym is)
          (few, all_pairs_push (λ x y. x ≢ y) (sources_of old a) b (c.requires.sound a).1 (λ k d l e. absurd (let clash = other (subst (Contains (sources_of old a)) e (Contains-get_or (sources_of old a) k d l)) in cc)))
      | else-not-has w ↦
          let is : sequences_of c.if-not-has.of_variant.items ≡ sources_of old a = ap (λ (v : Vec (Vec ℕ Global) Global). sequences_of v.items) w.of_variant-is ∙ was in
          subst (λ l. (length l ≤ 64) × AllPairs (λ x y. x ≢ y) l) (sym is) (c.requires.sound a)
    ] in
    AreSound-put old (groups_of c.remove.new.self.entries) (groups_of c.put.new.sources.entries) a (sequences_of c.if-not-has.of_variant.items) others c.in_ok-put.ensures c.requires.sound is_sound.0 is_sound.1
