-- The name that a line gives again is the first of its words that is defined already.
use Rattle.std.proofs.Common.{◌≡◌, ℕ, zero, suc, ◌<◌, ◌==◌, ◌||◌, ◌&&◌, Bool, true, false, cond, List, [], ◌∷◌, length, Option, Some, None, Result, Ok, Err, refl, sym, ap, subst, ◌∙◌, arith}
use Rattle.std.specs.Prelude.{IsTrue, bytes_eq, codes, slice_index_or}
use Rattle.std.specs.List.{Contains}
use Rattle.std.specs.Result.{result_ok}
use Rattle.std.proofs.lemmas.Bool.Decides.{nat_tests}
use Rattle.std.proofs.lemmas.Slice.Eq.{bytes_eq-Decides}
use Rattle.ruleset_text.specs.declared.definition_line.DefinitionLine.{DefinitionLine}
use Rattle.ruleset_text.specs.declared.fault.DefinitionFault.TheVariants as fault
use Rattle.ruleset_text.specs.declared.fault.FaultPlace.{FaultPlace}
use Rattle.ruleset_text.specs.declared.keyword.Keyword.{Keyword}
use Rattle.ruleset_text.specs.declared.keyword.Keyword.TheVariants as keyword
use Rattle.ruleset_text.specs.Definition as definition
use Rattle.ruleset_text.specs.Definition.{Definition, keyword_of}
use Rattle.ruleset_text.specs.DefinitionOrder.{DefinitionCondition, IsDefinitionFault, SpellsDefinition, bad_class, fault_of, long_line, no_form, no_such_name, one_too_many, same_name}
use Rattle.ruleset_text.specs.DefinitionOrder as conditions
use Rattle.ruleset_text.specs.DefinitionPlaces.{definition_place, place_by}
use Rattle.ruleset_text.specs.DefinitionReading.{begun_at, begun_by, definition_read}
use Rattle.ruleset_text.specs.Definitions.{Definitions, all_names, has_same_name}
use Rattle.ruleset_text.specs.LineFaults.{IsFirst, lexeme_place}
use Rattle.ruleset_text.specs.Names.{AreNames, is_name, is_one_of}
use Rattle.ruleset_text.specs.PlacedLexemes.{Placed, unplaced}
use Rattle.ruleset_text.specs.WellFormed.{AreDefinitions}
use Rattle.ruleset_text.proofs.DefinitionOrderLemmas as order
use Rattle.ruleset_text.proofs.DefinitionStopLemmas.{definition_as_read}

-- ---- a keyword is no name

-- it begins with '%'
pub other-no_keyword : (c : ℕ) (cs : List ℕ) → (c == 37) ≡ false → keyword_of (c ∷ cs) ≡ None
other-no_keyword c cs h =
    ap (λ b. cond (b && bytes_eq cs (codes "type")) (Some keyword.VariantType) (cond (b && bytes_eq cs (codes "set")) (Some keyword.Set) (cond (b && bytes_eq cs (codes "rule")) (Some keyword.Rule)
    (cond (b && bytes_eq cs (codes "whole")) (Some keyword.Whole) (cond (b && bytes_eq cs (codes "never")) (Some keyword.Never) (cond (b && bytes_eq cs (codes "always")) (Some keyword.Always)
    (cond (b && bytes_eq cs (codes "action")) (Some keyword.Action) None))))))) h

is_percent : (c : ℕ) → (c == 37) ≡ true → c ≡ 37
is_percent c e = grind (arith, nat_tests)

keyword-no_name : (word : List ℕ) (k : Keyword) → keyword_of word ≡ Some k → is_name word ≡ false
keyword-no_name [] k e = refl
keyword-no_name (c ∷ cs) k e = by (c == 37) refl
  where
    by : (b : Bool) → (c == 37) ≡ b → is_name (c ∷ cs) ≡ false
    by true h = ap (λ n. is_name (n ∷ cs)) (is_percent c h)
    by false h = absurd (let clash : None ≡ Some k = sym (other-no_keyword c cs h) ∙ e in cc)

-- ---- one of names

one_of-Contains : (names : List (List ℕ)) (name : List ℕ) → IsTrue (is_one_of names name) → Contains names name
one_of-Contains [] name e = absurd cc
one_of-Contains (other ∷ names) name e = by (bytes_eq other name) refl e (one_of-Contains names name)
  where
    by : (b : Bool) → bytes_eq other name ≡ b → (b || is_one_of names name) ≡ true → (IsTrue (is_one_of names name) → Contains names name) → Contains (other ∷ names) name
    by true h k rest = (0, omega arith, (bytes_eq-Decides other name).0 h)
    by false h k rest = let at = rest k in (suc at.0, omega (arith, at.1), at.2)

named_at : (names : List (List ℕ)) (name : List ℕ) (n : ℕ) → AreNames names → n < length names → slice_index_or names n name ≡ name → IsTrue (is_name name)
named_at [] name n are l e = absurd (omega (arith, l))
named_at (other ∷ names) name zero are l e = subst (λ m. IsTrue (is_name m)) e are.0
named_at (other ∷ names) name (suc n) are l e = named_at names name n are.2 (omega (arith, l)) e

keyword-not_among : (names : List (List ℕ)) (word : List ℕ) (k : Keyword) → AreNames names → keyword_of word ≡ Some k → Contains names word → ⊥
keyword-not_among names word k are e at = let clash : false ≡ true = sym (keyword-no_name word k e) ∙ named_at names word at.0 are at.1 at.2 in cc

-- ---- the definition that gives it

abbrev GivesAgain : Definitions → Keyword → List (List ℕ) → Type 0
GivesAgain d k words = (x : Definition) × SpellsDefinition d.set_names k words x × IsTrue (has_same_name d x)

gives_again : (limit : ℕ) (d : Definitions) (k : Keyword) (words : List (List ℕ)) → IsDefinitionFault limit d k words fault.SameName → GivesAgain d k words
gives_again limit d k words is = by is.0 is.1 is.2
  where
    by : (c : DefinitionCondition) → fault_of c ≡ fault.SameName → conditions.Holds limit d k words c → GivesAgain d k words
    by no_form e h = absurd cc
    by one_too_many e h = absurd cc
    by no_such_name e h = absurd cc
    by long_line e h = absurd cc
    by bad_class e h = absurd cc
    by same_name e h = h

-- its name is the first word after the keyword
its_name : (d : Definitions) (k : Keyword) (words : List (List ℕ)) (x : Definition) → SpellsDefinition d.set_names k words x → IsTrue (has_same_name d x)
    → (name : List ℕ) × (rest : List (List ℕ)) × (words ≡ name ∷ rest) × IsTrue (is_one_of (all_names d) name)
its_name d k words (definition.VariantType name) (e, n, w) h = (name, [], w, h)
its_name d k words (definition.Set name spans) (e, n, after, w, s) h = (name, after, w, h)
its_name d k words (definition.Rule name p) (e, n, after, w, s) h = (name, after, w, h)
its_name d k words (definition.Demand kind p) s h = absurd cc
its_name d k words (definition.Action a) s h = absurd cc

ok_of : (r : Result Definition FaultPlace) (x : Definition) → result_ok r ≡ Some x → r ≡ Ok x
ok_of (Ok y) x e = let same : y ≡ x = cc in ap (λ z. Ok z) same
ok_of (Err place) x e = absurd cc

-- a word of the line that is among the names, with what stands after it
record ToldName (d : Definitions) (k : Keyword) (end : ℕ) (key : FaultPlace) (after : List Placed) : Type 0 where
  name : Placed
  rest : List Placed
  cut : after ≡ name ∷ rest
  defined : Contains (all_names d) name.lexeme
  told : place_by d fault.SameName key after (definition_read d.set_names k end after) ≡ Some (lexeme_place name)

told_name : (d : Definitions) (k : Keyword) (end : ℕ) (key : FaultPlace) (after : List Placed) → GivesAgain d k (unplaced after) → ToldName d k end key after
told_name d k end key [] (x, s, h) = absurd (let is = its_name d k [] x s h in let clash : [] ≡ is.0 ∷ is.1 = is.2 in cc)
told_name d k end key (w ∷ after) (x, s, h) =
    let is = its_name d k (unplaced (w ∷ after)) x s h in
    let same : is.0 ≡ w.lexeme = let cut = is.2 in cc in
    record {
      name = w;
      rest = after;
      cut = refl;
      defined = one_of-Contains (all_names d) w.lexeme (subst (λ name. IsTrue (is_one_of (all_names d) name)) same is.3);
      told = ap (place_by d fault.SameName key (w ∷ after)) (ok_of _ x (definition_as_read d.set_names k end (w ∷ after) ∙ order.definition_read d.set_names k (unplaced (w ∷ after)) x s));
    }

-- ---- the first word of the line

abbrev ToldFirst : Definitions → List Placed → DefinitionLine → Type 0
ToldFirst d ws line = (name : Placed) × IsFirst (λ w. Contains (all_names d) w.lexeme) ws name × (definition_place d fault.SameName line ≡ Some (lexeme_place name))

pub same_name_told : (d : Definitions) (limit end : ℕ) (ws : List Placed) (line : DefinitionLine) → AreDefinitions d → begun_by end ws ≡ Ok line
    → IsDefinitionFault limit d line.keyword (unplaced line.after) fault.SameName → ToldFirst d ws line
same_name_told d limit end [] line are begun is = absurd cc
same_name_told d limit end (w ∷ ws) line are begun is = by (keyword_of w.lexeme) refl begun
  where
    by : (o : Option Keyword) → keyword_of w.lexeme ≡ o → begun_at end w ws o ≡ Ok line → ToldFirst d (w ∷ ws) line
    by None e h = absurd cc
    by (Some k) e h =
        let this : DefinitionLine = record { keyword = k; place = lexeme_place w; after = ws; end = end } in
        let whole : Ok this ≡ (let r : Result DefinitionLine FaultPlace = Ok line in r) = h in
        let same : this ≡ line = cc in
        let again : IsDefinitionFault limit d k (unplaced ws) fault.SameName = subst (λ l. IsDefinitionFault limit d l.keyword (unplaced l.after) fault.SameName) (sym same) is in
        let n = told_name d k end (lexeme_place w) ws (gives_again limit d k (unplaced ws) again) in
        subst (ToldFirst d (w ∷ ws)) same (
          n.name,
          record {
            before = w ∷ [];
            after = n.rest;
            cut = ap (λ l. w ∷ l) n.cut;
            earlier = (keyword-not_among (all_names d) w.lexeme k are.names e, tt);
            has = n.defined;
          },
          n.told,
        )
