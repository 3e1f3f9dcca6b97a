use Rattle.std.proofs.Common.{◌≤◌, length, arith, ◌++◌, ◌∷◌, [], List, ℕ, take, ap, sym, ◌∙◌, append_assoc}
use Rattle.std.proofs.lemmas.List.{append-nil, take_all}
use Rattle.ruleset_text.specs.Definitions.{definitions_text}
use Rattle.variant_table.specs.Canonical.{canonical_line, canonical_text, head_text, table_text}
use Rattle.variant_table.proofs.WritingLemmas.{canonical_more}
use Rattle.variant_table.proofs.table.Table.write_table.Goals as goal

pub loop-number-preserved : goal.loop-number-preserved
loop-number-preserved c =
    let line : List ℕ = canonical_line c.self.inside.definitions c.get.result ++ 10 ∷ [] in
    let head : List ℕ = head_text c.self.inside.version in
    let defined : List ℕ = definitions_text c.self.inside.definitions in
    let before : List ℕ = canonical_text c.self.inside.definitions (take c.loop-number.number c.self.inside.entries) in
    c.in_ok-push_entry.ensures ∙ ap (λ t. t ++ line) c.loop-number.invariant
    ∙ append_assoc head (defined ++ before) line ∙ ap (λ t. head ++ t) (append_assoc defined before line)
    ∙ ap (λ t. head ++ (defined ++ t)) (sym (canonical_more c.self.inside.definitions c.self.inside.entries c.loop-number.number c.get.result c.get.ensures))

pub loop-number-init : goal.loop-number-init
loop-number-init c =
    let head : List ℕ = head_text c.self.inside.version in
    let defined : List ℕ = definitions_text c.self.inside.definitions in
    c.in_ok-push_lines.ensures ∙ ap (λ t. t ++ defined) (c.in_ok-push_head.ensures ∙ ap (λ t. t ++ head) c.new-text.ensures.items) ∙ ap (λ t. head ++ t) (sym (append-nil defined))

pub returns-clause-text : goal.returns-clause-text
returns-clause-text c =
    let over : length c.self.inside.entries ≤ c.loop-number.number = omega (arith, c.loop-number-test.false, c.len-number-end.ensures.count, ap (λ t. length t.entries) c.self.view_is) in
    c.loop-number.invariant ∙ ap (table_text c.self.inside.version c.self.inside.definitions) (take_all c.loop-number.number c.self.inside.entries over)
    ∙ ap (λ t. table_text t.version t.definitions t.entries) c.self.view_is
