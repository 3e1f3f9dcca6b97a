use Rattle.std.proofs.Common.{◌≡◌, ℕ, List, Option, ap, subst, sym, ◌∙◌}
use Rattle.std.proofs.lemmas.Result.{err_from_is_err_and}
use Rattle.lgr_text.specs.Records.{file}
use Rattle.lgr_table.specs.Tables.{IsTableOf, may_stand}
use Rattle.lgr_table.specs.inner.Steps.{AddsRules}
use Rattle.variant_table.specs.WellFormed.{IsTable}
use Rattle.lgr_table.proofs.TableLemmas.{defines, is_table_of, names_still, no_actions, no_demands, no_entries, no_rules, no_types, rules_counted, types_counted}
use Rattle.idn_class.specs.declared.properties.Properties.{Properties}
use Rattle.lgr_table.specs.Entries.{needs_type}
use Rattle.lgr_table.specs.Faults.{AreFaultless, IsFaultOfTable}
use Rattle.lgr_table.specs.Numbers.{types_of}
use Rattle.lgr_table.specs.inner.FaultSteps.{HasDefinitionsOf, HasRulesOf, KnowsRules}
use Rattle.lgr_table.specs.inner.TypeSteps.{TellsTypes}
use Rattle.lgr_table.proofs.FaultLemmas.{too-many-types}
use Rattle.variant_table.specs.Entries.{TableValue}
use Rattle.lgr_table.proofs.table.table_of.Goals as goal

pub define_types-requires : goal.define_types-requires
define_types-requires c = no_types c.args.properties c.new-builder.result c.new-builder.ensures

pub define_rules-requires-clause-none : goal.define_rules-requires-clause-none
define_rules-requires-clause-none c = no_rules _ _ _ _ _ _ c.new-builder.ensures c.in_ok-types.ensures.added

pub define_actions-requires-clause-none : goal.define_actions-requires-clause-none
define_actions-requires-clause-none c = no_actions _ _ _ _ _ _ _ _ _ c.new-builder.ensures c.in_ok-types.ensures.added
    (subst (λ (l : List (Option (List ℕ))). AddsRules (may_stand c.define_types.new.builder.definitions.properties) (file c.args.ruleset.now) l
    c.in_ok-rules.rules.items c.define_types.new.builder c.define_rules.new.builder) c.deref.ensures.value c.in_ok-rules.ensures.added)

pub define_actions-requires-clause-no_demands : goal.define_actions-requires-clause-no_demands
define_actions-requires-clause-no_demands c = no_demands _ _ _ _ _ _ _ _ _ c.new-builder.ensures c.in_ok-types.ensures.added
    (subst (λ (l : List (Option (List ℕ))). AddsRules (may_stand c.define_types.new.builder.definitions.properties) (file c.args.ruleset.now) l
    c.in_ok-rules.rules.items c.define_types.new.builder c.define_rules.new.builder) c.deref.ensures.value c.in_ok-rules.ensures.added)

pub define_actions-requires-clause-rules : goal.define_actions-requires-clause-rules
define_actions-requires-clause-rules c =
    rules_counted _ _ _ _ c.new-numbers.result _ _ c.in_ok-rules.ensures.added (subst IsTable c.builder-2.view_is c.builder-2.invariant.table) (ap (λ n. n.rules) (sym c.new-numbers.ensures))

pub add_entries-requires-clause-none : goal.add_entries-requires-clause-none
add_entries-requires-clause-none c =
    no_entries _ _ _ _ _ _ _ _ _ c.new-builder.ensures c.in_ok-types.ensures.added
    (subst (λ (l : List (Option (List ℕ))). AddsRules (may_stand c.define_types.new.builder.definitions.properties) (file c.args.ruleset.now) l
    c.in_ok-rules.rules.items c.define_types.new.builder c.define_rules.new.builder) c.deref.ensures.value c.in_ok-rules.ensures.added) _ _ c.in_ok-define_actions.ensures.added

pub add_entries-requires-clause-types : goal.add_entries-requires-clause-types
add_entries-requires-clause-types c =
    types_counted _ _ _ _ _ c.new-numbers.result _ _ _ _ c.in_ok-types.ensures.added
    (subst (λ (l : List (Option (List ℕ))). AddsRules (may_stand c.define_types.new.builder.definitions.properties) (file c.args.ruleset.now) l
    c.in_ok-rules.rules.items c.define_types.new.builder c.define_rules.new.builder) c.deref.ensures.value c.in_ok-rules.ensures.added) c.in_ok-define_actions.ensures.added (ap (λ n. n.types) (sym c.new-numbers.ensures))

pub add_entries-requires-clause-rules : goal.add_entries-requires-clause-rules
add_entries-requires-clause-rules c =
    names_still _ _ _ _ c.in_ok-define_actions.ensures.added
    ∙ rules_counted _ _ _ _ c.new-numbers.result _ _ c.in_ok-rules.ensures.added (subst IsTable c.builder-2.view_is c.builder-2.invariant.table) (ap (λ n. n.rules) (sym c.new-numbers.ensures))

pub returns-clause-table : goal.returns-clause-table
returns-clause-table c =
    let r = file c.args.ruleset.now in
    let rules =
    subst (λ (l : List (Option (List ℕ))). AddsRules (may_stand c.define_types.new.builder.definitions.properties) r l c.in_ok-rules.rules.items
    c.define_types.new.builder c.define_rules.new.builder) c.deref.ensures.value c.in_ok-rules.ensures.added in
    subst (IsTableOf c.args.properties r) (sym c.finish.ensures)
    (is_table_of c.args.properties r c.in_ok-types.types.items c.in_ok-rules.rules.items c.new-numbers.result c.new-builder.result
    c.define_types.new.builder c.define_rules.new.builder c.define_actions.new.builder c.new-numbers.ensures c.new-builder.ensures
    c.in_ok-types.ensures.added rules c.in_ok-define_actions.ensures.added c.add_entries.new.builder c.in_ok-add_entries.ensures.added
    (subst IsTable c.builder-4.view_is c.builder-4.invariant.table))

pub returns-in_err-define_actions-clause-fault : goal.returns-in_err-define_actions-clause-fault
returns-in_err-define_actions-clause-fault c =
    let p = err_from_is_err_and c.from_residual-in_err-define_actions.result c.from_residual-in_err-define_actions.ensures.1 in
    let own : c.define_types.new.builder.definitions.properties ≡ c.args.properties =
    ap (λ (t : TableValue). t.definitions.properties) c.in_ok-types.ensures.added.others ∙ ap (λ (t : TableValue). t.definitions.properties) c.new-builder.ensures in
    rw (p.1, p.2) (c.in_err-define_actions.ensures.fault (may_stand c.args.properties) (subst (λ n. HasRulesOf c.args.ruleset.now n.rules) (sym c.new-numbers.ensures) c.in_ok-rules.ensures.all)
    (subst (λ n. KnowsRules (may_stand c.args.properties) c.args.ruleset.now n.rules c.define_rules.new.builder.definitions.rules) (sym c.new-numbers.ensures) (subst (λ (q : Properties). KnowsRules (may_stand q) c.args.ruleset.now c.in_ok-rules.rules.items c.define_rules.new.builder.definitions.rules) own c.in_ok-rules.ensures.known)))

pub returns-in_err-types-clause-fault : goal.returns-in_err-types-clause-fault
returns-in_err-types-clause-fault c =
    let p = err_from_is_err_and c.from_residual.result c.from_residual.ensures.1 in
    let r = c.args.ruleset.now in
    let own : c.new-builder.result.definitions.properties ≡ c.args.properties = ap (λ (t : TableValue). t.definitions.properties) c.new-builder.ensures in
    rw (p.1, p.2) (too-many-types (may_stand c.args.properties) r _
    (subst (λ (q : Properties). TellsTypes (needs_type (may_stand q) (file r).entries) (types_of (file r)) c.in_err-types.field-0.0) own
    c.in_err-types.ensures.fault))

pub returns-in_err-rules-clause-fault : goal.returns-in_err-rules-clause-fault
returns-in_err-rules-clause-fault c =
    let p = err_from_is_err_and c.from_residual-in_err-rules.result c.from_residual-in_err-rules.ensures.1 in
    let own : c.define_types.new.builder.definitions.properties ≡ c.args.properties =
    ap (λ (t : TableValue). t.definitions.properties) c.in_ok-types.ensures.added.others ∙ ap (λ (t : TableValue). t.definitions.properties) c.new-builder.ensures in
    rw (p.1, p.2) (subst (λ (q : Properties). IsFaultOfTable (may_stand q) c.args.ruleset.now c.in_err-rules.field-0.0) own c.in_err-rules.ensures.fault)

pub returns-in_err-add_entries-clause-fault : goal.returns-in_err-add_entries-clause-fault
returns-in_err-add_entries-clause-fault c =
    let p = err_from_is_err_and c.from_residual-in_err-add_entries.result c.from_residual-in_err-add_entries.ensures.1 in
    let own : c.define_actions.new.builder.definitions.properties ≡ c.args.properties =
    ap (λ (t : TableValue). t.definitions.properties) c.in_ok-define_actions.ensures.added.others
    ∙ ap (λ (t : TableValue). t.definitions.properties) c.in_ok-rules.ensures.added.others
    ∙ ap (λ (t : TableValue). t.definitions.properties) c.in_ok-types.ensures.added.others
    ∙ ap (λ (t : TableValue). t.definitions.properties) c.new-builder.ensures in
    let r = c.args.ruleset.now in
    let n = c.new-numbers.result in
    let t = c.define_actions.new.builder in
    let rules =
    subst (λ (l : List (Option (List ℕ))). AddsRules (may_stand c.define_types.new.builder.definitions.properties) (file r) l c.in_ok-rules.rules.items
    c.define_types.new.builder c.define_rules.new.builder) c.deref.ensures.value c.in_ok-rules.ensures.added in
    let defined : HasDefinitionsOf (may_stand c.args.properties) r n t =
    record {
      is_table = subst IsTable c.builder-3.view_is c.builder-3.invariant.table;
      defines = defines c.args.properties (file r) c.in_ok-types.types.items c.in_ok-rules.rules.items n c.new-builder.result
          c.define_types.new.builder c.define_rules.new.builder t c.new-numbers.ensures c.new-builder.ensures
          c.in_ok-types.ensures.added rules c.in_ok-define_actions.ensures.added;
      rules = subst (λ k. HasRulesOf r k.rules) (sym c.new-numbers.ensures) c.in_ok-rules.ensures.all;
    } in
    rw (p.1, p.2) (subst (λ (q : Properties). HasDefinitionsOf (may_stand q) r n t → IsFaultOfTable (may_stand q) r c.in_err-add_entries.field-0.0) own
    (c.in_err-add_entries.ensures.fault c.requires.entries) defined)

pub returns-clause-faultless : goal.returns-clause-faultless
returns-clause-faultless c =
    let own : c.define_types.new.builder.definitions.properties ≡ c.args.properties =
    ap (λ (t : TableValue). t.definitions.properties) c.in_ok-types.ensures.added.others ∙ ap (λ (t : TableValue). t.definitions.properties) c.new-builder.ensures in
    subst (λ (q : Properties). AreFaultless (may_stand q) c.args.ruleset.now) own c.in_ok-rules.ensures.faultless
