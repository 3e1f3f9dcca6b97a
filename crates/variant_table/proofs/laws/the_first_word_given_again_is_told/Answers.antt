use Rattle.std.proofs.Common.{subst}
use Rattle.std.specs.Str.Lines.{strip_carriage_return}
use Rattle.ruleset_text.specs.declared.fault.FaultPlace.TheVariants as places
use Rattle.variant_table.specs.declared.fault.TableFault.TheVariants as tables
use Rattle.variant_table.specs.Faults as faults
use Rattle.variant_table.specs.WordsAgain.{BeginsOldSource, BeginsOldVariant, TellsFirst, TellsFirstName}
use Rattle.variant_table.proofs.AgainLemmas.{in_text, name_told, source_told, variant_told}
use Rattle.variant_table.proofs.laws.the_first_word_given_again_is_told.Goals as goal

pub returns-clause-source : goal.returns-clause-source
returns-clause-source c = λ properties notation text number f.
    subst (TellsFirst (BeginsOldSource f.table) places.Source f.table.version (strip_carriage_return f.line)) (in_text properties notation text number faults.SameSource (tables.SameSource number) f)
    (source_told _ f.table f.line number f.faulty)

pub returns-clause-variant : goal.returns-clause-variant
returns-clause-variant c = λ properties notation text number f.
    subst (TellsFirst (BeginsOldVariant f.table.definitions) places.Variant f.table.version (strip_carriage_return f.line)) (in_text properties notation text number faults.SameVariant (tables.SameVariant number) f)
    (variant_told _ f.table f.line number f.faulty)

pub returns-clause-name : goal.returns-clause-name
returns-clause-name c = λ properties notation text number f.
    subst (TellsFirstName f.table.definitions (strip_carriage_return f.line)) (in_text properties notation text number faults.SameName (tables.SameName number) f)
    (name_told _ f.table f.line number f.read.well_formed.without_fault f.faulty)
