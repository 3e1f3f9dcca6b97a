use Rattle.std.proofs.Common.{◌≡◌, ◌≢◌, Some, None, [], ◌∷◌, ap, map, sym, ◌∙◌}
use Rattle.std.specs.Prelude.{option_map, string_bytes}
use Rattle.std.proofs.lemmas.Result.{IfOk-weaker}
use Rattle.clap.specs.Words.{kind_of}
use Rattle.clap.specs.declared.error.ErrorKind.{ErrorKind}
use Rattle.clap.specs.declared.error.ErrorKind.TheVariants.{OutOfMemory}
use Rattle.idn2_options.specs.Causes.{cause_of, told_by}
use Rattle.idn2_options.proofs.AnswerLemmas.{kind-Err}
use Rattle.idn2_options.proofs.AppKinds.{texts}
use Rattle.idn2_options.proofs.CauseLemmas.{cause-Err, cause-Ok, few-texts, rule-refused, told-refused}
use Rattle.idn2_options.proofs.command_line.words.usage_cause.Goals as goal

pub returns-in-Some-clause-cause : goal.returns-in-Some-clause-cause
returns-in-Some-clause-cause c =
    cause-Ok (map string_bytes c.args.words.now) (Some c.in-Some.rule) c.of.result c.in-Ok.ensures.fault (c.of.ensures ∙ c.in-Ok.ensures.ok) c.in-Some.ensures

pub returns-in-Some-clause-refused : goal.returns-in-Some-clause-refused
returns-in-Some-clause-refused c =
    rule-refused (map string_bytes c.args.words.now) c.of.result (Some c.in-Some.rule) c.in-Ok.ensures.fault (c.of.ensures ∙ c.in-Ok.ensures.ok) c.in-Some.ensures

pub returns-in-Ok-clause-cause : goal.returns-in-Ok-clause-cause
returns-in-Ok-clause-cause c =
    cause-Ok (map string_bytes c.args.words.now) None c.of.result c.in-Ok.ensures.fault (c.of.ensures ∙ c.in-Ok.ensures.ok) c.in-None.ensures

pub returns-in-Ok-clause-refused : goal.returns-in-Ok-clause-refused
returns-in-Ok-clause-refused c =
    rule-refused (map string_bytes c.args.words.now) c.of.result None c.in-Ok.ensures.fault (c.of.ensures ∙ c.in-Ok.ensures.ok) c.in-None.ensures

pub returns : goal.returns
returns c =
    let words = map string_bytes c.args.words.now in
    let is_kind : c.kind.result ≡ kind_of c.in-Err.error = c.kind.ensures in
    let other : kind_of c.in-Err.error ≢ OutOfMemory = λ memory. c.in_default.not-OutOfMemory (cc) in
    let fault = kind-Err words c.in-Err.error (texts c.args.words.now) c.in-Err.ensures.fault other in
    let told = cause-Err words c.kind.result (map string_bytes c.front.result.now) (fault ∙ ap (λ (kind : ErrorKind). kind ∷ []) (sym is_kind)) c.front.ensures.words in
    record {
      cause =
          IfOk-weaker c.refused_by_clap.result _ (λ cause. option_map told_by cause ≡ cause_of words)
          (λ cause same. same ∙ told) c.refused_by_clap.ensures;
      refused =
          IfOk-weaker c.refused_by_clap.result _ _
          (λ cause same. told-refused words cause (texts c.args.words.now) (few-texts c.args.words.now c.front.ensures.few) (same ∙ told)) c.refused_by_clap.ensures;
    }
