-- What reading a definition tells is what makes reading refuse it.
use Rattle.std.proofs.Common.{◌≡◌, ℕ, ◌+◌, ◌-◌, ◌≤◌, nat_le, nat_lt, Bool, true, false, cond, not, ◌||◌, List, [], ◌∷◌, length, Some, Result, Ok, Err, refl, sym, ap, subst, ◌∙◌, arith}
use Rattle.std.specs.Prelude.{Option, is_some}
use Rattle.std.specs.Result.{IsErr, IsErrAnd, MatchResult, result_ok}
use Rattle.std.proofs.lemmas.Bool.Decides.{nat_tests}
use Rattle.std.proofs.Math.Bool.{or-false}
use Rattle.label_patterns.specs.Patterns.{Pattern}
use Rattle.ruleset_text.specs.declared.definition.DemandKind.{DemandKind}
use Rattle.ruleset_text.specs.declared.definition.DemandKind.TheVariants as demand
use Rattle.ruleset_text.specs.declared.definition_line.DefinitionLine.{DefinitionLine}
use Rattle.ruleset_text.specs.declared.definition_reading.ReadDefinition.{ReadDefinition}
use Rattle.ruleset_text.specs.declared.fault.DefinitionFault.{DefinitionFault}
use Rattle.ruleset_text.specs.declared.fault.DefinitionFault.TheVariants as fault
use Rattle.ruleset_text.specs.declared.fault.DefinitionRefusal.{DefinitionRefusal}
use Rattle.ruleset_text.specs.declared.fault.FaultPlace.{FaultPlace}
use Rattle.ruleset_text.specs.declared.fault.FaultPlace.TheVariants.{End}
use Rattle.ruleset_text.specs.declared.fault.FoundFaults.{FoundFaults}
use Rattle.ruleset_text.specs.declared.fault.LineFaults.{LineFaults}
use Rattle.ruleset_text.specs.declared.fault.ReadError.{ReadError}
use Rattle.ruleset_text.specs.declared.fault.ReadError.TheVariants as unread
use Rattle.ruleset_text.specs.declared.keyword.Keyword.{Keyword}
use Rattle.ruleset_text.specs.declared.keyword.Keyword.TheVariants as keyword
use Rattle.ruleset_text.specs.declared.reading.Earlier.{Earlier}
use Rattle.ruleset_text.specs.Actions.{knows_action}
use Rattle.ruleset_text.specs.Canonical.{definition_text}
use Rattle.ruleset_text.specs.Definition as definition
use Rattle.ruleset_text.specs.Definition.{Definition, definition_of}
use Rattle.ruleset_text.specs.DefinitionPlaces.{AreFaultsOf, definition_faults, faults_after, known_after, without_first}
use Rattle.ruleset_text.specs.DefinitionReading.{action_read, after_name, definition_read, named, pattern_read, rule_read, set_read, spans_read, type_read}
use Rattle.ruleset_text.specs.Definitions.{Definitions, all_atoms, defined, definition_atoms, has_most, has_same_name, rule_lines, type_names, whole_rules}
use Rattle.ruleset_text.specs.Definitions.{has_bad_class, has_known_names, is_line_over_limit, is_one_too_many, is_pattern_over_limit}
use Rattle.ruleset_text.specs.Definitions.{with_definition}
use Rattle.ruleset_text.specs.DefinitionTrees as trees
use Rattle.ruleset_text.specs.DefinitionForms.{HasForm, Refused}
use Rattle.ruleset_text.specs.inner.DefinitionSteps.{AreFound, IsEarlier, IsReadDefinition, Leaves, Refuses, found_of}
use Rattle.ruleset_text.specs.Limits.{atoms, groups, has_its_sets, stars}
use Rattle.ruleset_text.specs.LineFaults.{first_unknown, lexeme_place}
use Rattle.ruleset_text.specs.LineStops.{StopsAt, map_read, refusal_of}
use Rattle.ruleset_text.specs.Names.{is_name}
use Rattle.ruleset_text.specs.PatternLimits.{limit_place}
use Rattle.ruleset_text.specs.PlacedLexemes.{Placed, unplaced}
use Rattle.ruleset_text.specs.WellFormed.{AreDefinitions}
use Rattle.ruleset_text.proofs.ActionNameLemmas.{action_known}
use Rattle.ruleset_text.proofs.ActionReadLemmas.{action_found}
use Rattle.ruleset_text.proofs.DefinedLemmas.{form as form_of}
use Rattle.ruleset_text.proofs.DefineLemmas.{by_tests, formed, formless, is_long, told_by}
use Rattle.ruleset_text.proofs.DefinitionStopLemmas.{definition_as_read}
use Rattle.ruleset_text.proofs.LineFaultLemmas.{bad_refused, span_refused, unknown_refused}
use Rattle.ruleset_text.proofs.PatternLimitLemmas.{limit_refused}

-- ---- the spans or the pattern that was read

abbrev HasRead : List (List ℕ) → ℕ → List Placed → Definition → Type 0
HasRead names end ws (definition.VariantType name) = Unit {0}
HasRead names end ws (definition.Set name spans) = spans_read end (without_first ws) ≡ Ok spans
HasRead names end ws (definition.Rule name contexts) = (r : Bool) × (pattern_read r names end (without_first ws) ≡ Ok contexts)
HasRead names end ws (definition.Demand kind p) = (r : Bool) × (pattern_read r names end ws ≡ Ok p)
HasRead names end ws (definition.Action a) = action_read end ws ≡ Ok a

mapped : {X : Type 0} (f : X → Definition) (read : Result X FaultPlace) (x : Definition) → map_read f read ≡ Ok x → (y : X) × (read ≡ Ok y) × (f y ≡ x)
mapped {X} f (Ok y) x e = (y, refl, cc)
mapped {X} f (Err place) x e = absurd (let clash : (let r : Result Definition FaultPlace = Err place in r) ≡ Ok x = e in cc)

no_ok : {X : Type 0} (place : FaultPlace) (x : Definition) → (let r : Result Definition FaultPlace = Err place in r) ≡ Ok x → X
no_ok place x e = absurd cc

module _ (names : List (List ℕ)) (end : ℕ) where
  named_reads : (f : List ℕ → List Placed → Result Definition FaultPlace) (ws : List Placed) (x : Definition)
      → ((name : List ℕ) → f name (without_first ws) ≡ Ok x → HasRead names end ws x) → named f end ws ≡ Ok x → HasRead names end ws x
  named_reads f [] x reads e = no_ok (End end) x e
  named_reads f (w ∷ ws) x reads e = by (is_name w.lexeme) e
    where
      by : (b : Bool) → after_name f (cond b (Ok (w.lexeme, ws)) (Err (lexeme_place w))) ≡ Ok x → HasRead names end (w ∷ ws) x
      by true k = reads w.lexeme k
      by false k = no_ok (lexeme_place w) x k

  type_reads : (name : List ℕ) (ws rest : List Placed) (x : Definition) → type_read end name rest ≡ Ok x → HasRead names end ws x
  type_reads name ws [] x e = let same : definition.VariantType name ≡ x = cc in subst (HasRead names end ws) same tt
  type_reads name ws (w ∷ rest) x e = no_ok (lexeme_place w) x e

  set_reads : (name : List ℕ) (ws : List Placed) (x : Definition) → set_read end name (without_first ws) ≡ Ok x → HasRead names end ws x
  set_reads name ws x e = let y = mapped (definition.Set name) (spans_read end (without_first ws)) x e in subst (HasRead names end ws) y.2 y.1

  rule_reads : (r : Bool) (name : List ℕ) (ws : List Placed) (x : Definition) → rule_read r names end name (without_first ws) ≡ Ok x → HasRead names end ws x
  rule_reads r name ws x e = let y = mapped (definition.Rule name) (pattern_read r names end (without_first ws)) x e in subst (HasRead names end ws) y.2 (r, y.1)

  demand_reads : (kind : DemandKind) (ws : List Placed) (x : Definition) → map_read (definition.Demand kind) (pattern_read false names end ws) ≡ Ok x → HasRead names end ws x
  demand_reads kind ws x e = let y = mapped (definition.Demand kind) (pattern_read false names end ws) x e in subst (HasRead names end ws) y.2 (false, y.1)

  has_read : (k : Keyword) (ws : List Placed) (x : Definition) → definition_read names k end ws ≡ Ok x → HasRead names end ws x
  has_read keyword.VariantType ws x e = named_reads (type_read end) ws x (λ name. type_reads name ws (without_first ws) x) e
  has_read keyword.Set ws x e = named_reads (set_read end) ws x (λ name. set_reads name ws x) e
  has_read keyword.Rule ws x e = named_reads (rule_read true names end) ws x (λ name. rule_reads true name ws x) e
  has_read keyword.Whole ws x e = named_reads (rule_read false names end) ws x (λ name. rule_reads false name ws x) e
  has_read keyword.Never ws x e = demand_reads demand.Never ws x e
  has_read keyword.Always ws x e = demand_reads demand.Always ws x e
  has_read keyword.Action ws x e = let y = mapped definition.Action (action_read end ws) x e in subst (HasRead names end ws) y.2 y.1

-- ---- what is wrong with it

-- what all patterns together may have more
fewer : (n a : ℕ) → n ≤ 4096 → nat_lt 4096 (n + a) ≡ nat_lt (4096 - n) a
fewer n a l = grind (arith, nat_tests)

regroup : (a b c e : Bool) → (((a || b) || c) || e) ≡ (a || ((b || c) || e))
regroup true b c e = refl
regroup false b c e = refl

module _ (d : Definitions) (are : AreDefinitions d) (end : ℕ) where
  names_known : (p : Pattern) → has_its_sets (length d.sets) p ≡ has_its_sets (length d.set_names) p
  names_known p = ap (λ n. has_its_sets n p) (sym are.named_sets)

  swapped : (a b : Bool) → b ≡ not a → a ≡ not b
  swapped true b e = ap not (sym e)
  swapped false b e = ap not (sym e)

  pattern_limit : (r : Bool) (ws : List Placed) (p : Pattern) → pattern_read r d.set_names end ws ≡ Ok p
      → is_pattern_over_limit d p ≡ (nat_le 256 (rule_lines d) || is_some (limit_place (4096 - all_atoms d) p ws))
  pattern_limit r ws p read =
      let many = nat_le 256 (rule_lines d) in
      ap (λ b. ((many || nat_lt 8 (groups p)) || nat_lt 2 (stars p)) || b) (fewer (all_atoms d) (atoms p) are.few_atoms)
      ∙ regroup many (nat_lt 8 (groups p)) (nat_lt 2 (stars p)) (nat_lt (4096 - all_atoms d) (atoms p))
      ∙ ap (λ b. many || b) (sym (limit_refused r d.set_names end ws p (4096 - all_atoms d) read))

  pattern_known : (r : Bool) (ws : List Placed) (p : Pattern) → pattern_read r d.set_names end ws ≡ Ok p → has_its_sets (length d.sets) p ≡ not (is_some (first_unknown d.set_names ws))
  pattern_known r ws p read = names_known p ∙ swapped (has_its_sets (length d.set_names) p) (is_some (first_unknown d.set_names ws)) (unknown_refused r d.set_names end ws p read)

  or_none : (a : Bool) → a ≡ (a || false)
  or_none true = refl
  or_none false = refl

  faults_so : (ws : List Placed) (x : Definition) → HasRead d.set_names end ws x → AreFaultsOf d x (faults_after d x ws)
  faults_so ws (definition.VariantType name) read = record { limit = or_none (nat_le 57 (length d.types)); name = refl; class = refl }
  faults_so ws (definition.Set name spans) read = record { limit = or_none (nat_le 256 (length d.sets)); name = refl; class = sym (span_refused d.properties end (without_first ws) spans read) }
  faults_so ws (definition.Rule name p) read = record {
    limit = pattern_limit read.0 (without_first ws) p read.1;
    name = pattern_known read.0 (without_first ws) p read.1;
    class = sym (bad_refused d.properties read.0 d.set_names end (without_first ws) p read.1);
  }
  faults_so ws (definition.Demand kind p) read = record {
    limit = pattern_limit read.0 ws p read.1;
    name = pattern_known read.0 ws p read.1;
    class = sym (bad_refused d.properties read.0 d.set_names end ws p read.1);
  }
  faults_so ws (definition.Action a) read = record {
    limit = or_none (nat_le 256 (rule_lines d));
    name = action_known (type_names d) (whole_rules d) a ws (action_found end ws a read).1;
    class = refl;
  }

pub faults_told : (d : Definitions) (k : Keyword) (end : ℕ) (ws : List Placed) (x : Definition) → AreDefinitions d → definition_read d.set_names k end ws ≡ Ok x → AreFaultsOf d x (faults_after d x ws)
faults_told d k end ws x are read = faults_so d are end ws x (has_read d.set_names end k ws x read)

-- ---- a call that reads

-- a definition that was read after them
pub record IsReadAfter (d : Definitions) (k : Keyword) (end : ℕ) (ws : List Placed) (r : ReadDefinition) : Type 0 where
  pub read : definition_read d.set_names k end ws ≡ Ok (trees.definition r.definition)
  pub spelled : definition_of d.set_names k (unplaced ws) ≡ Some (trees.definition r.definition)
  pub atoms : r.atoms_left ≡ 4096 - all_atoms d - definition_atoms (trees.definition r.definition)
  pub faults : r.faults ≡ faults_after d (trees.definition r.definition) ws
  pub told : AreFaultsOf d (trees.definition r.definition) r.faults
  pub form : HasForm (trees.definition r.definition)

pub read_after : {e : Earlier} {d : Definitions} (line : DefinitionLine) {r : ReadDefinition} → IsEarlier e d
    → IsReadDefinition e line.after r (definition_read e.sets.now line.keyword line.end line.after)
    → IsReadAfter d line.keyword line.end line.after r
read_after {e} {d} line {r} is given = record {
  read = read;
  spelled = spelled;
  atoms = given.atoms ∙ ap (λ k. k.left - definition_atoms x) is.known;
  faults = faults;
  told = subst (AreFaultsOf d x) (sym faults) (faults_told d k end ws x is.without_fault read);
  form = form_of d.set_names k (unplaced ws) x spelled;
}
  where
    k : Keyword
    k = line.keyword

    end : ℕ
    end = line.end

    ws : List Placed
    ws = line.after

    x : Definition
    x = trees.definition r.definition

    read : definition_read d.set_names k end ws ≡ Ok x
    read = ap (λ o. definition_read o.sets k end ws) (sym is.known) ∙ given.read

    spelled : definition_of d.set_names k (unplaced ws) ≡ Some x
    spelled = sym (definition_as_read d.set_names k end ws) ∙ ap result_ok read

    faults : r.faults ≡ faults_after d x ws
    faults = given.faults ∙ ap (λ o. definition_faults o x ws) is.known

-- ---- what is found

-- what reading told, without the places
pub told_found : {d : Definitions} {x : Definition} {faults : LineFaults} {found : FoundFaults} → AreFaultsOf d x faults
    → found ≡ record { limit = is_some faults.limit; name = is_some faults.name; class = is_some faults.class } → AreFound d x found
told_found {d} {x} {faults} {found} told is =
    subst (AreFound d x) (sym is) (record { limit = told.limit; name = told.name; class = told.class })

not_not : (a : Bool) → a ≡ not (not a)
not_not true = refl
not_not false = refl

module _ (d : Definitions) (are : AreDefinitions d) where
  found_limit : (p : Pattern) → is_pattern_over_limit d p ≡ (nat_le 256 (rule_lines d)
      || ((nat_lt 8 (groups p) || nat_lt 2 (stars p)) || nat_lt (4096 - all_atoms d) (atoms p)))
  found_limit p =
      let many = nat_le 256 (rule_lines d) in
      ap (λ b. ((many || nat_lt 8 (groups p)) || nat_lt 2 (stars p)) || b) (fewer (all_atoms d) (atoms p) are.few_atoms)
      ∙ regroup many (nat_lt 8 (groups p)) (nat_lt 2 (stars p)) (nat_lt (4096 - all_atoms d) (atoms p))

  found_names : (p : Pattern) → has_its_sets (length d.sets) p ≡ not (not (has_its_sets (length d.set_names) p))
  found_names p = ap (λ n. has_its_sets n p) (sym are.named_sets) ∙ not_not (has_its_sets (length d.set_names) p)

  -- what is found of a definition is what is wrong with it
  pub are_found : (x : Definition) → AreFound d x (found_of (known_after d) x)
  are_found (definition.VariantType name) =
      record { limit = sym (or-false (nat_le 57 (length d.types))); name = refl; class = refl }
  are_found (definition.Set name spans) =
      record { limit = sym (or-false (nat_le 256 (length d.sets))); name = refl; class = refl }
  are_found (definition.Rule name p) = record { limit = found_limit p; name = found_names p; class = refl }
  are_found (definition.Demand kind p) = record { limit = found_limit p; name = found_names p; class = refl }
  are_found (definition.Action a) = record {
    limit = sym (or-false (nat_le 256 (rule_lines d)));
    name = not_not (knows_action (type_names d) (whole_rules d) a);
    class = refl;
  }

-- a definition is refused, or added, by what was found of it
module _ (limit : ℕ) {d : Definitions} {x : Definition} {found : FoundFaults} {len : ℕ} (told : AreFound d x found)
    (size : len ≡ length (definition_text d.set_names x)) where
  pub checked : {most past unknown long bad same : Bool} → has_most d x ≡ most → found.limit ≡ past → found.name ≡ unknown
      → is_line_over_limit limit d len ≡ long → found.class ≡ bad → has_same_name d x ≡ same
      → with_definition limit d (Some x) ≡ told_by d x (most || past) (not unknown) long bad same
  checked {most} im ip iu il ib is =
      by_tests limit d (Some x) x _ _ _ _ _ refl (told.limit ∙ ap (λ b. b || found.limit) im ∙ ap (λ b. most || b) ip)
      (told.name ∙ ap not iu) (ap (is_line_over_limit limit d) (sym size) ∙ il) (told.class ∙ ib) is

-- a line without the form
fault_told : (limit : ℕ) (d : Definitions) (k : Keyword) (end : ℕ) (ws : List Placed) (error : ReadError) → StopsAt error (definition_read d.set_names k end ws) → Refuses (refusal_of error).fault (defined limit d k (unplaced ws))
fault_told limit d k end ws unread.Memory stops = tt
fault_told limit d k end ws (unread.Stop place) stops =
    formless limit d (definition_of d.set_names k (unplaced ws)) (sym (definition_as_read d.set_names k end ws) ∙ ap result_ok stops)

pub stop_told : {X : Type 0} (limit : ℕ) (sets : List (List ℕ)) (d : Definitions) (k : Keyword) (end : ℕ) (ws : List Placed) (error : ReadError) (result : Result X DefinitionRefusal) → sets ≡ d.set_names
    → IsErr result → IsErrAnd result (λ r. r ≡ refusal_of error) → StopsAt error (definition_read sets k end ws) → Leaves result d (defined limit d k (unplaced ws))
stop_told limit sets d k end ws error (Ok x) e err is stops = absurd (let clash : false ≡ true = err in cc)
stop_told limit sets d k end ws error (Err refusal) e err is stops =
    subst (λ r. Refuses r.fault (defined limit d k (unplaced ws))) (sym is) (fault_told limit d k end ws error (subst (λ names. StopsAt error (definition_read names k end ws)) e stops))

-- a definition that is refused
refused_as : (f : DefinitionFault) (read : Result Definitions DefinitionFault) → read ≡ Err f → Refuses f read
refused_as fault.Memory read e = tt
refused_as fault.Syntax read e = e
refused_as fault.Limit read e = e
refused_as fault.NoSuchName read e = e
refused_as fault.BadClass read e = e
refused_as fault.SameName read e = e

-- a line that is refused after it was read
pub check_told : (limit : ℕ) (d : Definitions) (k : Keyword) (words : List (List ℕ)) (f : DefinitionFault) (place : Option FaultPlace)
    {r : DefinitionRefusal} → r ≡ record { fault = f; place = place } → defined limit d k words ≡ Err f
    → Refuses r.fault (defined limit d k words)
check_told limit d k words f place is e =
    subst (λ r. Refuses r.fault (defined limit d k words)) (sym is) (refused_as f (defined limit d k words) e)

-- what has its form is not refused for it
no_syntax : (d : Definitions) (x : Definition) (m n l b s : Bool) → told_by d x m n l b s ≡ Err fault.Syntax → ⊥
no_syntax d x true n l b s e = cc
no_syntax d x false false l b s e = cc
no_syntax d x false true true b s e = cc
no_syntax d x false true false true s e = cc
no_syntax d x false true false false true e = cc
no_syntax d x false true false false false e = cc

has_syntax : (limit : ℕ) (d : Definitions) (x : Definition) → with_definition limit d (Some x) ≡ Err fault.Syntax → ⊥
has_syntax limit d x e =
    no_syntax d x (is_one_too_many d x) (has_known_names d x) (is_long limit d x) (has_bad_class d.properties x) (has_same_name d x)
    (sym (formed limit d (Some x) x refl) ∙ e)

-- a definition that isn't read is refused
pub push_told : (limit : ℕ) (d : Definitions) (x : Definition) (f : DefinitionFault) → HasForm x
    → with_definition limit d (Some x) ≡ Err f → Refused limit d x f
push_told limit d x fault.Memory form e = tt
push_told limit d x fault.Syntax form e = absurd (has_syntax limit d x e)
push_told limit d x fault.Limit form e = (form, e)
push_told limit d x fault.NoSuchName form e = (form, e)
push_told limit d x fault.BadClass form e = (form, e)
push_told limit d x fault.SameName form e = (form, e)

pub fresh_fails : {X : Type 0} (P : X → Type 0) (limit : ℕ) (d : Definitions) (x : Definition) (f : DefinitionFault) (result : Result X DefinitionFault)
    → IsErr result → IsErrAnd result (λ r. r ≡ f) → HasForm x → with_definition limit d (Some x) ≡ Err f → MatchResult result P (Refused limit d x)
fresh_fails P limit d x f (Ok y) err is form e = absurd (let clash : false ≡ true = err in cc)
fresh_fails P limit d x f (Err r) err is form e = subst (Refused limit d x) (sym is) (push_told limit d x f form e)
