-- What is called so in a table, and one more.
use Rattle.std.proofs.Common.{◌≡◌, ℕ, suc, Bool, false, Option, List, [], ◌∷◌, ◌++◌, length, map, refl, sym, ap, subst, ◌∙◌}
use Rattle.std.specs.Prelude.{All}
use Rattle.std.proofs.lemmas.List.Elements.{All-nil, All-push}
use Rattle.lgr_text.specs.Records.{definition, file}
use Rattle.lgr_text.specs.declared.records.Definition.{Definition as Held}
use Rattle.lgr_text.specs.declared.records.Ruleset.{Ruleset}
use Rattle.lgr_table.specs.TableNames.{AreCalled, FileNames, IsCalled, has_name, keeps_rule, names_with}
use Rattle.lgr_table.specs.inner.TableNames.{AreRuleNames}
use Rattle.ruleset_text.specs.Definitions.{Definitions}

pub called-push : (names : FileNames) (keeps : List ℕ → Bool) (of given : List (List ℕ)) (name g : List ℕ) → AreCalled names keeps of given
    → IsCalled names (keeps name) name g → AreCalled names keeps (of ++ name ∷ []) (given ++ g ∷ [])
called-push names keeps [] [] name g all one = (one, tt)
called-push names keeps [] (h ∷ given) name g all one = absurd all
called-push names keeps (n ∷ of) [] name g all one = absurd all
called-push names keeps (n ∷ of) (h ∷ given) name g all one = (all.0, called-push names keeps of given name g all.1 one)

pub called-count : (names : FileNames) (keeps : List ℕ → Bool) (of given : List (List ℕ)) → AreCalled names keeps of given → length given ≡ length of
called-count names keeps [] [] all = refl
called-count names keeps [] (h ∷ given) all = absurd all
called-count names keeps (n ∷ of) [] all = absurd all
called-count names keeps (n ∷ of) (h ∷ given) all = ap (λ k. suc k) (called-count names keeps of given all.1)

-- ---- sets and rules

pub names-none : (names : FileNames) (rules : List (List ℕ)) (d : Definitions) → rules ≡ [] → d.set_names ≡ [] → d.rule_names ≡ [] → AreRuleNames names rules d
names-none names rules d none sets no_rules = record {
  rules = subst (λ l. AreCalled names (keeps_rule names) l d.rule_names) (sym none)
      (subst (AreCalled names (keeps_rule names) []) (sym no_rules) tt);
  sets = subst (All (λ g. has_name names g ≡ false)) (sym sets) (All-nil (λ g. has_name names g ≡ false));
}

pub set-named : (names : FileNames) (rules : List (List ℕ)) (d e : Definitions) (given name : List ℕ) → AreRuleNames names rules d
    → IsCalled names false name given → e.set_names ≡ d.set_names ++ given ∷ [] → e.rule_names ≡ d.rule_names → AreRuleNames names rules e
set-named names rules d e given name are called sets same = record {
  rules = subst (AreCalled names (keeps_rule names) rules) (sym same) are.rules;
  sets = subst (All (λ g. has_name names g ≡ false)) (sym sets)
      (All-push (λ g. has_name names g ≡ false) d.set_names given are.sets (called.other refl));
}

pub rule-named : (names : FileNames) (rules : List (List ℕ)) (d e : Definitions) (given name : List ℕ) → AreRuleNames names rules d
    → IsCalled names (keeps_rule names name) name given → e.set_names ≡ d.set_names → e.rule_names ≡ d.rule_names ++ given ∷ []
    → AreRuleNames names (rules ++ name ∷ []) e
rule-named names rules d e given name are called same more = record {
  rules = subst (AreCalled names (keeps_rule names) (rules ++ name ∷ [])) (sym more)
      (called-push names (keeps_rule names) rules d.rule_names name given are.rules called);
  sets = subst (All (λ g. has_name names g ≡ false)) (sym same) are.sets;
}

-- ---- the names of a file as they are held

abbrev pub with_names : List (Option (List ℕ)) → List (List ℕ) → FileNames
with_names types definitions = record { types = types; definitions = definitions }

pub names-held : (held : List Held) → map (λ d. d.name) held ≡ map (λ d. d.name) (map definition held)
names-held [] = refl
names-held (d ∷ held) = ap (λ l. d.name ∷ l) (names-held held)

pub names-with : (types types' : List (Option (List ℕ))) (held : List Held) (r : Ruleset) → types' ≡ types → held ≡ r.definitions.items
    → with_names types' (map (λ d. d.name) held) ≡ names_with types (file r)
names-with types types' held r same is =
    ap (λ (l : List (Option (List ℕ))). with_names l (map (λ d. d.name) held)) same
    ∙ ap (with_names types) (ap (map (λ (d : Held). d.name)) is ∙ names-held r.definitions.items)
