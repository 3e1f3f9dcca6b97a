use Rattle.std.proofs.Common.{◌≡◌, ◌↔◌, ℕ, List, length, Result, Ok, Err, IfOk, subst, sym, ap, ◌∙◌}
use Rattle.reading_kinds.specs.Readings.{Substitution, AreSubstitutions, SubstitutionsSpell}
use Rattle.variant_table.specs.Entries.{TableValue}
use Rattle.variant_table.specs.WellFormed.{IsWellFormed}
use Rattle.variant_list.specs.declared.substitutions.Cuts.{Cuts}
use Rattle.variant_list.specs.Arising.{Gives, table_for}
use Rattle.variant_list.specs.Substitutions.{substitutions_of}
use Rattle.variant_list.proofs.ArisingLemmas.{IsWellFormed-cuts, SubstitutionsSpell-cuts}
use Rattle.variant_list.proofs.SpelledByLemmas.{AreSubstitutions-label}
use Rattle.variant_list.proofs.SubstitutionLemmas.{length-substitutions_from}
use Rattle.variant_list.proofs.substitutions.substitutions_of.Goals as goal

-- what is found is what the definition computes
abbrev IsFound : {E : Type 0} → Result (List (List Substitution)) E → Cuts → TableValue → List ℕ → Type 0
IsFound r cuts table label = IfOk r (λ substitutions. substitutions ≡ substitutions_of (table_for cuts table) label)

are_fit : {E : Type 0} (r : Result (List (List Substitution)) E) (cuts : Cuts) (table : TableValue) (label : List ℕ) → IsWellFormed table.entries → IsFound r cuts table label → IfOk r (λ substitutions. AreSubstitutions substitutions)
are_fit {E} (Ok substitutions) cuts table label formed is = subst AreSubstitutions (sym is) (AreSubstitutions-label (table_for cuts table) label (IsWellFormed-cuts cuts table formed))
are_fit {E} (Err fault) cuts table label formed is = tt

are_so_many : {E : Type 0} (r : Result (List (List Substitution)) E) (cuts : Cuts) (table : TableValue) (label : List ℕ) → IsFound r cuts table label → IfOk r (λ substitutions. length substitutions ≡ length label)
are_so_many {E} (Ok substitutions) cuts table label is = ap length is ∙ length-substitutions_from (table_for cuts table) label (length label) 0
are_so_many {E} (Err fault) cuts table label is = tt

give : {E : Type 0} (r : Result (List (List Substitution)) E) (cuts : Cuts) (table : TableValue) (label : List ℕ) → IsWellFormed table.entries → IsFound r cuts table label
    → IfOk r (λ substitutions. (v : List ℕ) → SubstitutionsSpell substitutions v ↔ Gives cuts table label v)
give {E} (Ok substitutions) cuts table label formed is = λ v. subst (λ us. SubstitutionsSpell us v ↔ Gives cuts table label v) (sym is) (SubstitutionsSpell-cuts cuts table label formed v)
give {E} (Err fault) cuts table label formed is = tt

pub returns-then-not-has_conditions-clause-fit : goal.returns-then-not-has_conditions-clause-fit
returns-then-not-has_conditions-clause-fit c = are_fit c.found.result c.args.cuts c.args.table.now c.args.label.now c.len-entries.ensures.well_formed c.found.ensures

pub returns-then-not-has_conditions-clause-places : goal.returns-then-not-has_conditions-clause-places
returns-then-not-has_conditions-clause-places c = are_so_many c.found.result c.args.cuts c.args.table.now c.args.label.now c.found.ensures

pub returns-then-not-has_conditions-clause-gives : goal.returns-then-not-has_conditions-clause-gives
returns-then-not-has_conditions-clause-gives c = give c.found.result c.args.cuts c.args.table.now c.args.label.now c.len-entries.ensures.well_formed c.found.ensures

pub returns-clause-fit : goal.returns-clause-fit
returns-clause-fit c = are_fit c.found-2.result c.args.cuts c.args.table.now c.args.label.now c.len-entries.ensures.well_formed c.found-2.ensures

pub returns-clause-places : goal.returns-clause-places
returns-clause-places c = are_so_many c.found-2.result c.args.cuts c.args.table.now c.args.label.now c.found-2.ensures

pub returns-clause-gives : goal.returns-clause-gives
returns-clause-gives c = give c.found-2.result c.args.cuts c.args.table.now c.args.label.now c.len-entries.ensures.well_formed c.found-2.ensures
