use Rattle.std.proofs.Common.{◌≡◌, ◌+◌, ◌++◌, ◌∷◌, [], Result, Ok, Err, map, sym, ap, subst, ◌∙◌}
use Rattle.std.specs.Prelude.{OnOk, OnErr}
use Rattle.std.proofs.lemmas.List.{map-append}
use Rattle.label_patterns.specs.Trees.{pattern}
use Rattle.ruleset_text.specs.declared.definition.Definition as declared
use Rattle.ruleset_text.specs.declared.definitions.Definitions.TheInside.{Inside}
use Rattle.ruleset_text.specs.declared.definitions.Demand.{Demand}
use Rattle.ruleset_text.specs.ActionForms.{action}
use Rattle.ruleset_text.specs.Definition.{Definition}
use Rattle.ruleset_text.specs.Definitions.{Definitions, added, all_atoms, canonical_size}
use Rattle.ruleset_text.specs.DefinitionTrees as trees
use Rattle.ruleset_text.specs.DemandTrees.{demand}
use Rattle.ruleset_text.specs.inner.Held.{held}
use Rattle.ruleset_text.specs.WellFormed.{AreDefinitions}
use Rattle.ruleset_text.proofs.AddedLemmas.{IsCounted, counted_more, fewer_left}
use Rattle.ruleset_text.proofs.definitions.Definitions.add.Goals as goal
use Rattle.ruleset_text.proofs.definitions.Definitions.add.Goals.{in-VariantType, in-Set, in-Rule, in-Demand, in-Action}

-- what is held is more by the definition, and as many bytes are counted as before
abbrev IsMore : Inside → Inside → declared.Definition → Type 0
IsMore old new x = (held new ≡ added (held old) (trees.definition x)) × (new.written ≡ old.written)

-- what a definition is held by is as before
record IsSame (old new : Inside) : Type 0 where
  definitions : held new ≡ held old
  left : new.atoms_left ≡ old.atoms_left
  written : new.written ≡ old.written

-- what a call says that succeeded, or failed, by what the branches answer
on_ok : {X E : Type 0} (P : Type 0) {r t : Result X E} {x : X} → t ≡ r → t ≡ Ok x → OnOk r P → P
on_ok P same is given = subst (λ s. OnOk s P) (sym same ∙ is) given

on_err : {X E : Type 0} (P : Type 0) {r t : Result X E} {e : E} → t ≡ r → t ≡ Err e → OnErr r P → P
on_err P same is given = subst (λ s. OnErr s P) (sym same ∙ is) given

of_err : {X E : Type 0} {P : Type 0} (r : Result X E) → P → OnErr r P
of_err (Ok x) p = tt
of_err (Err e) p = p

-- ---- it is added

is_more : (c : goal.After-self-2-1) → IsMore c.self.inside c.match-definition.self-inside c.args.definition
is_more c =
    let old : Inside = c.self.inside in
    let d : Definitions = held old in
    let ok = c.in_ok-append.was {u = tt} in
    elim c.match-definition.branch [
      | in-VariantType w ↦ (
        ap held w.self-inside-is ∙ ap (λ l. record d { types = l }) (on_ok _ w.branch'-is ok w.append.ensures.ok) ∙ sym (ap (λ y. added d (trees.definition y)) w.in-VariantType.is),
        ap (λ (s : Inside). s.written) w.self-inside-is,
      )
      | in-Set w ↦ (
        ap held w.self-inside-is ∙ ap (λ l. record d { set_names = l; sets = w.append_named.new.items.items }) (on_ok _ w.branch'-is ok w.append_named.ensures.name)
            ∙ ap (λ l. record d { set_names = d.set_names ++ w.in-Set.name ∷ []; sets = l }) (on_ok _ w.branch'-is ok w.append_named.ensures.item) ∙ sym (ap (λ y. added d (trees.definition y)) w.in-Set.is),
        ap (λ (s : Inside). s.written) w.self-inside-is,
      )
      | in-Rule w ↦
          let tree = w.in-Rule.contexts in
          let call = w.append_named-in-Rule in
          let rules : map pattern call.new.items.items ≡ d.rules ++ pattern tree ∷ [] = ap (map pattern) (on_ok _ w.branch'-is ok call.ensures.item) ∙ map-append pattern old.rules.items (tree ∷ []) in (
            ap held w.self-inside-is ∙ ap (λ l. record d { rule_names = l; rules = map pattern call.new.items.items }) (on_ok _ w.branch'-is ok call.ensures.name)
                ∙ ap (λ l. record d { rule_names = d.rule_names ++ w.in-Rule.name ∷ []; rules = l }) rules ∙ sym (ap (λ y. added d (trees.definition y)) w.in-Rule.is),
            ap (λ (s : Inside). s.written) w.self-inside-is,
          )
      | in-Demand w ↦
          let one : Demand = record { kind = w.in-Demand.kind; pattern = w.in-Demand.pattern } in
          let call = w.append-in-Demand in
          let demands : map demand call.new.items.items ≡ d.demands ++ demand one ∷ [] = ap (map demand) (on_ok _ w.branch'-is ok call.ensures.ok) ∙ map-append demand old.demands.items (one ∷ []) in (
            ap held w.self-inside-is ∙ ap (λ l. record d { demands = l }) demands ∙ sym (ap (λ y. added d (trees.definition y)) w.in-Demand.is),
            ap (λ (s : Inside). s.written) w.self-inside-is,
          )
      | in-Action w ↦
          let call = w.append-in-Action in
          let actions : map action call.new.items.items ≡ d.actions ++ action w.in-Action.action ∷ [] =
          ap (map action) (on_ok _ w.branch'-is ok call.ensures.ok) ∙ map-append action old.actions.items (w.in-Action.action ∷ []) in (
            ap held w.self-inside-is ∙ ap (λ l. record d { actions = l }) actions ∙ sym (ap (λ y. added d (trees.definition y)) w.in-Action.is),
            ap (λ (s : Inside). s.written) w.self-inside-is,
          )
    ]

pub invariant_of-self-2 : goal.invariant_of-self-2
invariant_of-self-2 c =
    let old : Inside = c.self.inside in
    let d : Definitions = held old in
    let x : Definition = trees.definition c.args.definition in
    let new : Inside = c.match-definition.self-inside in
    let more = is_more c in
    let i = c.self.invariant in
    let counts : IsCounted d old.atoms_left old.written = record { without_fault = i.without_fault; left = i.left; size = i.size } in
    let left = fewer_left d c.args.self.now x old.atoms_left old.written c.args.atoms_left c.self.view_is counts c.requires.without_fault c.requires.atoms in
    let counted = counted_more d c.args.self.now (held new) x old.atoms_left c.args.atoms_left old.written c.args.len c.self.view_is counts c.requires.without_fault c.requires.len left more.0 in
    record { without_fault = counted.without_fault; left = counted.left; size = ap (λ n. n + (c.args.len + 1)) more.1 ∙ counted.size }

pub returns-clause-ok : goal.returns-clause-ok
returns-clause-ok c = (is_more c).0 ∙ ap (λ d. added d (trees.definition c.args.definition)) c.self.view_is

-- ---- memory was refused

is_same : (c : goal.After-from_residual) → IsSame c.self.inside c.match-definition.self-inside
is_same c =
    let d : Definitions = held c.self.inside in
    let err = c.in_err-append.was {u = tt} in
    elim c.match-definition.branch [
      | in-VariantType w ↦ record {
        definitions = ap held w.self-inside-is ∙ ap (λ l. record d { types = l }) (on_err _ w.branch'-is err w.append.ensures.err);
        left = ap (λ (s : Inside). s.atoms_left) w.self-inside-is;
        written = ap (λ (s : Inside). s.written) w.self-inside-is;
      }
      | in-Set w ↦ record {
        definitions = ap held w.self-inside-is
            ∙ ap (λ l. record d { set_names = l; sets = w.append_named.new.items.items }) (on_err _ w.branch'-is err w.append_named.ensures.names)
            ∙ ap (λ l. record d { sets = l }) (on_err _ w.branch'-is err w.append_named.ensures.items);
        left = ap (λ (s : Inside). s.atoms_left) w.self-inside-is;
        written = ap (λ (s : Inside). s.written) w.self-inside-is;
      }
      | in-Rule w ↦ record {
        definitions = let call = w.append_named-in-Rule in
            ap held w.self-inside-is
            ∙ ap (λ l. record d { rule_names = l; rules = map pattern call.new.items.items }) (on_err _ w.branch'-is err call.ensures.names)
            ∙ ap (λ l. record d { rules = map pattern l }) (on_err _ w.branch'-is err call.ensures.items);
        left = ap (λ (s : Inside). s.atoms_left) w.self-inside-is;
        written = ap (λ (s : Inside). s.written) w.self-inside-is;
      }
      | in-Demand w ↦ record {
        definitions = ap held w.self-inside-is ∙ ap (λ l. record d { demands = map demand l }) (on_err _ w.branch'-is err w.append-in-Demand.ensures.err);
        left = ap (λ (s : Inside). s.atoms_left) w.self-inside-is;
        written = ap (λ (s : Inside). s.written) w.self-inside-is;
      }
      | in-Action w ↦ record {
        definitions = ap held w.self-inside-is ∙ ap (λ l. record d { actions = map action l }) (on_err _ w.branch'-is err w.append-in-Action.ensures.err);
        left = ap (λ (s : Inside). s.atoms_left) w.self-inside-is;
        written = ap (λ (s : Inside). s.written) w.self-inside-is;
      }
    ]

pub invariant_of-self : goal.invariant_of-self
invariant_of-self c =
    let old : Inside = c.self.inside in
    let new : Inside = c.match-definition.self-inside in
    let i = c.self.invariant in
    let same = is_same c in
    record {
      without_fault = subst AreDefinitions (sym same.definitions) i.without_fault;
      left = ap (λ d. all_atoms d + new.atoms_left) same.definitions ∙ ap (λ n. all_atoms (held old) + n) same.left ∙ i.left;
      size = same.written ∙ i.size ∙ ap canonical_size (sym same.definitions);
    }

pub returns-in_err-append-clause-err : goal.returns-in_err-append-clause-err
returns-in_err-append-clause-err c = of_err c.from_residual.result ((is_same c).definitions ∙ c.self.view_is)
