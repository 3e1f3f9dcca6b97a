-- A table that a text in XML says answers labels as the text does.
use Rattle.std.proofs.Common.{ℕ, List}
use Rattle.idn_class.specs.declared.properties.Properties.{Properties}
use Rattle.lgr_table.specs.Texts.{IsTableOfText}
use Rattle.lgr_table.proofs.MeaningLemmas.{says-by}
use Rattle.variant_table.specs.Entries.{TableValue}
use Rattle.idn2_answers.specs.Rulesets.{AnswersAsText}
use Rattle.idn2_answers.proofs.RulesetCuts.{made-alike}
use Rattle.idn2_answers.proofs.RulesetLabels.{admitted-alike, disposed-alike, listed-alike}

pub answers-as-text : (properties : Properties) (text : List ℕ) (t : TableValue) → IsTableOfText properties text t → AnswersAsText properties text t
answers-as-text properties text t is =
    let r = is.ruleset_ in
    let n = is.is.numbering in
    let names = is.is.names in
    record {
      ruleset_ = r;
      said = is.said;
      names = names;
      meanings = is.is.meanings;
      are_meant = is.is.are_meant;
      answers = λ m are.
          (let says = says-by properties r names is.is.meanings m is.is.are_meant are n t is.is.says in
          record {
            made = made-alike properties r m n t names says;
            admitted = admitted-alike properties r m n t names says;
            listed = listed-alike properties r m n t names says;
            disposed = disposed-alike properties r m n t names says;
          });
    }
