use Rattle.std.proofs.Common.{ℕ, List, Result, Ok, Err, inr, refl}
use Rattle.std.specs.Prelude.{IfErr, IfOk, OnOk}
use Rattle.lgr_text.specs.Records.{file}
use Rattle.lgr_text.specs.declared.records.Ruleset.{Ruleset}
use Rattle.idn_class.specs.declared.properties.Properties.{Properties}
use Rattle.lgr_table.specs.Faults.{AreFaultless, IsFaultOfTable}
use Rattle.lgr_table.specs.Tables.{IsTableOf, may_stand}
use Rattle.lgr_table.specs.Texts.{IsTableOfText, IsToldOf, SaysRuleset}
use Rattle.lgr_table.specs.declared.fault.TableError.{TableError}
use Rattle.variant_table.specs.Entries.{TableValue}
use Rattle.lgr_table.proofs.document.table_of_text.Goals as goal

-- a fault of the ruleset is told of its text
told-of : {X : Type 0} (text : List ℕ) (properties : Properties) (r : Ruleset) (result : Result X TableError) → SaysRuleset text (file r)
    → IfErr result (IsFaultOfTable (may_stand properties) r) → IfErr result (IsToldOf properties text)
told-of text properties r (Ok x) said told = tt
told-of text properties r (Err e) said told = inr (record { ruleset_ = r; said = said; told = told })

pub returns-clause-fault : goal.returns-clause-fault
returns-clause-fault c = told-of _ _ _ c.table_of.result c.in_ok-ruleset.ensures.says c.table_of.ensures.fault

-- the ruleset of a text has no fault in its definitions
table-of : (text : List ℕ) (properties : Properties) (r : Ruleset) (result : Result TableValue TableError) → SaysRuleset text (file r)
    → IfOk result (IsTableOf properties (file r)) → OnOk result (AreFaultless (may_stand properties) r)
    → IfOk result (IsTableOfText properties text)
table-of text properties r (Ok t) said is faultless =
    record { ruleset_ = file r; said = said; is = is; faultless = (r, refl, faultless) }
table-of text properties r (Err e) said is faultless = tt

pub returns-clause-table : goal.returns-clause-table
returns-clause-table c = table-of _ _ _ c.table_of.result c.in_ok-ruleset.ensures.says c.table_of.ensures.table c.table_of.ensures.faultless
