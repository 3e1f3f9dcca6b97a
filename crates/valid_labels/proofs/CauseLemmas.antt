-- Why a label may not be asked about, step by step.
use Rattle.std.proofs.Common.{◌≡◌, ℕ, suc, ◌+◌, ◌<◌, ◌≤◌, Bool, true, false, cond, List, ◌∷◌, length, drop, map, get_or, sym, ap, subst, ◌∙◌, arith}
use Rattle.std.specs.Prelude.{◌↔◌, IsTrue, Option, Some}
use Rattle.std.specs.List.{Contains}
use Rattle.std.proofs.lemmas.List.{drop_more}
use Rattle.label_patterns.specs.declared.condition.Condition.{Condition}
use Rattle.label_patterns.specs.Conditions.{ConditionHolds}
use Rattle.label_patterns.specs.Matches.{Seen}
use Rattle.label_patterns.specs.Rules.{Occurs}
use Rattle.label_patterns.specs.Tests.{occurs_in}
use Rattle.label_patterns.proofs.TestLemmas.{condition-agrees, occurs-agrees}
use Rattle.ruleset_text.specs.declared.definitions.Demand as declared
use Rattle.ruleset_text.specs.DemandTrees.{demand}
use Rattle.ruleset_text.specs.Definitions.{Definitions, Demand}
use Rattle.variant_table.specs.Entries.{Entry, TableValue}
use Rattle.variant_table.specs.Places.{AreEntriesAt}
use Rattle.valid_labels.specs.declared.cause.ValidityCause.TheVariants.{Broken}
use Rattle.variant_table.specs.Segmentations.{seen_under}
use Rattle.valid_labels.specs.Demands.{IsMet}
use Rattle.valid_labels.specs.Tests.{holds_in, is_wanted}
use Rattle.valid_labels.specs.Causes.{broken_from}
use Rattle.valid_labels.proofs.MostLemmas.{same-test}
use Rattle.valid_labels.proofs.PartLemmas.{first-inside}
use Rattle.valid_labels.proofs.TestLemmas.{wanted-agrees}

-- ---- one source

pub holds-test : (table : TableValue) (label : List ℕ) (D : Definitions) (S : Seen) (c : Option Condition) (i j : ℕ) (r : Bool) → D ≡ table.definitions → S ≡ seen_under table label → i ≤ length label → j ≤ length label
    → IsTrue r ↔ ConditionHolds D.rules S c i j → r ≡ holds_in table label c i j
holds-test table label D S c i j r d s l m tells =
    let there : IsTrue r ↔ ConditionHolds table.definitions.rules (seen_under table label) c i j =
    subst (λ z. IsTrue r ↔ ConditionHolds table.definitions.rules z c i j) s (subst (λ (y : Definitions). IsTrue r ↔ ConditionHolds y.rules S c i j) d tells) in
    same-test r (holds_in table label c i j) (ConditionHolds table.definitions.rules (seen_under table label) c i j) there (condition-agrees table.definitions.rules (seen_under table label) c i j l m)

-- an entry at a place ends within the label
pub at-inside : (entries : List Entry) (label : List ℕ) (place : ℕ) (all : List Entry) (e : Entry) → AreEntriesAt entries label place all → place ≤ length label → Contains all e → place + length e.source ≤ length label
at-inside entries label place all e are l h = let m = ((are.members e).0 h).1 in first-inside label place e.source m.0 l m.1

-- ---- one demand

pub met-test : (s : Seen) (d : Demand) (r : Bool) → IsTrue r ↔ IsMet s d → r ≡ is_wanted d.kind (occurs_in s d.pattern)
met-test s d r tells = same-test r (is_wanted d.kind (occurs_in s d.pattern)) (IsMet s d) tells (wanted-agrees d.kind (occurs_in s d.pattern) (Occurs s d.pattern) (occurs-agrees s d.pattern))

pub rest-demands : (ds : List declared.Demand) (n : ℕ) (d : declared.Demand) → n < length ds → d ≡ get_or ds n d → map demand (drop n ds) ≡ demand d ∷ map demand (drop (n + 1) ds)
rest-demands ds n d l is = ap (map demand) (drop_more ds n d l) ∙ ap (λ (e : declared.Demand). demand e ∷ map demand (drop (n + 1) ds)) (sym is)

pub broken-here : (s : Seen) (n : ℕ) (d : Demand) (ds : List Demand) → is_wanted d.kind (occurs_in s d.pattern) ≡ false → broken_from s n (d ∷ ds) ≡ Some (Broken n d.kind)
broken-here s n d ds e = ap (λ b. cond b (broken_from s (suc n) ds) (Some (Broken n d.kind))) e

pub broken-later : (s : Seen) (n : ℕ) (d : Demand) (ds : List Demand) → is_wanted d.kind (occurs_in s d.pattern) ≡ true → broken_from s n (d ∷ ds) ≡ broken_from s (n + 1) ds
broken-later s n d ds e = ap (λ b. cond b (broken_from s (suc n) ds) (Some (Broken n d.kind))) e ∙ (let m : suc n ≡ n + 1 = omega arith in ap (λ k. broken_from s k ds) m)
