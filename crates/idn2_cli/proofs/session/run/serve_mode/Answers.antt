use Rattle.std.proofs.Common.{refl, ap, sym, ◌∙◌, Ok, ℕ, List, Bool, chars}
use Rattle.std.specs.Option.{option_copied}
use Rattle.idn_class.specs.declared.properties.Properties.{Properties}
use Rattle.idn_label.specs.Lookup.{lookup_answer}
use Rattle.idn_label.specs.Decode.{decode_answer}
use Rattle.idn_label.specs.Memory.{LooksUpWithoutMemory, RegistersWithoutMemory, StandsWithoutMemory}
use Rattle.idn_label.specs.OldNames.{zone_answer, zone_in_utf8}
use Rattle.idn_label.specs.Register.{register_answer}
use Rattle.idn_label.specs.Steps.{in_utf8}
use Rattle.idn2_options.specs.Settings.{Settings, keeping, tells_causes}
use Rattle.idn2_options.specs.declared.command_line.form.Form.{Form}
use Rattle.idn2_options.specs.declared.command_line.mode.Mode.TheVariants.{Lookup, Register, Decode, DecodeOld}
use Rattle.idn2_answers.specs.Answers.{LineAnswer, one_answer, u_label_of, zone_line}
use Rattle.idn2_answers.specs.Said.{LookedUp, Registered, Decoded}
use Rattle.idn2_answers.specs.Transcript.{no_table}
use Rattle.idn2_refusals.specs.Explained.{ByLabel, ByName, ByQuery, Explained, if_wanted}
use Rattle.idn2_refusals.specs.Explaining.{explained_by}
use Rattle.idn2_cli.specs.Ends.{Job, lines_job}
use Rattle.idn2_cli.specs.Memory.{DecodesLineWithoutMemory}
use Rattle.idn2_cli.proofs.RunEnds.{as_mode}
use Rattle.idn2_cli.proofs.session.run.serve_mode.Goals as goal

pub returns-in-Lookup : goal.returns-in-Lookup
returns-in-Lookup g c =
    let o : Settings = c.args.settings.now in
    let seen = ap (keeping (option_copied c.settings.inside.registered)) c.options.view_is ∙ c.settings.view_is in
    let mode = sym (ap (λ (v : Settings). v.mode) seen) ∙ c.in-Lookup.is in
    let causes = c.tells_causes-wanted.ensures ∙ ap tells_causes c.settings.view_is in
    let by : Bool → List ℕ → LineAnswer = λ b name. one_answer LookedUp (lookup_answer name b) in
    let job : Form → Explained → Bool → Job = λ f e b. lines_job f e (by b) (LooksUpWithoutMemory b) (λ line. Unit {0}) in
    as_mode o Lookup c.args.table.now (Ok no_table) _ _ _ _ _ c.serve_lines.result mode refl
    (ap (λ f. job f (explained_by c.if_wanted-explaining.result) c.options.inside.std3) (ap (λ (v : Settings). v.form) seen)
    ∙ ap (λ e. job o.form e c.options.inside.std3) c.if_wanted-explaining.ensures
    ∙ ap (λ b. job o.form (if_wanted c.tells_causes-wanted.result (ByQuery b)) b) (ap (λ (v : Settings). v.std3) seen)
    ∙ ap (λ x. job o.form (if_wanted x (ByQuery o.std3)) o.std3) causes)
    c.serve_lines.ensures

pub returns-in-Register : goal.returns-in-Register
returns-in-Register g c =
    let o : Settings = c.args.settings.now in
    let seen = ap (keeping (option_copied c.settings.inside.registered)) c.options.view_is ∙ c.settings.view_is in
    let mode = sym (ap (λ (v : Settings). v.mode) seen) ∙ c.in-Register.is in
    let causes = c.tells_causes-wanted.ensures ∙ ap tells_causes c.settings.view_is in
    let given : Properties = c.options.inside.properties in
    let by : Properties → List ℕ → LineAnswer = λ p label. one_answer (Registered (u_label_of p label)) (register_answer p label) in
    let job : Form → Explained → Properties → Job = λ f e p. lines_job f e (by p) (λ line. RegistersWithoutMemory (chars line)) (λ line. Unit {0}) in
    as_mode o Register c.args.table.now (Ok no_table) _ _ _ _ _ c.serve_lines-in-Register.result mode refl
    (ap (λ f. job f (explained_by c.if_wanted-explaining-in-Register.result) given) (ap (λ (v : Settings). v.form) seen)
    ∙ ap (λ e. job o.form e given) c.if_wanted-explaining-in-Register.ensures
    ∙ ap (λ (p : Properties). job o.form (if_wanted c.tells_causes-wanted.result (ByLabel p)) p) (ap (λ (v : Settings). v.properties) seen)
    ∙ ap (λ x. job o.form (if_wanted x (ByLabel o.properties)) o.properties) causes)
    c.serve_lines-in-Register.ensures

pub returns-in-Decode : goal.returns-in-Decode
returns-in-Decode g c =
    let o : Settings = c.args.settings.now in
    let seen = ap (keeping (option_copied c.settings.inside.registered)) c.options.view_is ∙ c.settings.view_is in
    let mode = sym (ap (λ (v : Settings). v.mode) seen) ∙ c.in-Decode.is in
    let causes = c.tells_causes-wanted.ensures ∙ ap tells_causes c.settings.view_is in
    let given : Properties = c.options.inside.properties in
    let by : Properties → List ℕ → LineAnswer = λ p name. one_answer Decoded (in_utf8 (decode_answer p name)) in
    let job : Form → Explained → Properties → Job = λ f e p. lines_job f e (by p) DecodesLineWithoutMemory (λ line. Unit {0}) in
    as_mode o Decode c.args.table.now (Ok no_table) _ _ _ _ _ c.serve_lines-in-Decode.result mode refl
    (ap (λ f. job f (explained_by c.if_wanted-explaining-in-Decode.result) given) (ap (λ (v : Settings). v.form) seen)
    ∙ ap (λ e. job o.form e given) c.if_wanted-explaining-in-Decode.ensures
    ∙ ap (λ (p : Properties). job o.form (if_wanted c.tells_causes-wanted.result (ByName p)) p) (ap (λ (v : Settings). v.properties) seen)
    ∙ ap (λ x. job o.form (if_wanted x (ByName o.properties)) o.properties) causes)
    c.serve_lines-in-Decode.ensures

pub returns-in-DecodeOld : goal.returns-in-DecodeOld
returns-in-DecodeOld g c =
    let o : Settings = c.args.settings.now in
    let seen = ap (keeping (option_copied c.settings.inside.registered)) c.options.view_is ∙ c.settings.view_is in
    let mode = sym (ap (λ (v : Settings). v.mode) seen) ∙ c.in-DecodeOld.is in
    let causes = c.tells_causes-wanted.ensures ∙ ap tells_causes c.settings.view_is in
    let given : Properties = c.options.inside.properties in
    let by : Properties → List ℕ → LineAnswer = λ p label. zone_line (zone_in_utf8 (zone_answer p label)) in
    let job : Form → Explained → Properties → Job = λ f e p. lines_job f e (by p) (λ line. StandsWithoutMemory (chars line)) (λ line. Unit {0}) in
    as_mode o DecodeOld c.args.table.now (Ok no_table) _ _ _ _ _ c.serve_lines-in-DecodeOld.result mode refl
    (ap (λ f. job f (explained_by c.if_wanted-explaining-in-DecodeOld.result) given) (ap (λ (v : Settings). v.form) seen)
    ∙ ap (λ e. job o.form e given) c.if_wanted-explaining-in-DecodeOld.ensures
    ∙ ap (λ (p : Properties). job o.form (if_wanted c.tells_causes-wanted.result (ByLabel p)) p) (ap (λ (v : Settings). v.properties) seen)
    ∙ ap (λ x. job o.form (if_wanted x (ByLabel o.properties)) o.properties) causes)
    c.serve_lines-in-DecodeOld.ensures

-- the mode that is read is that of the settings
pub serve_by_table-requires-clause-mode : goal.serve_by_table-requires-clause-mode
serve_by_table-requires-clause-mode g c =
    let seen = ap (keeping (option_copied c.settings.inside.registered)) c.options.view_is ∙ c.settings.view_is in
    sym (ap (λ (v : Settings). v.mode) seen) ∙ c.in-Variants.is

pub serve_by_table-requires-in-Jump-clause-mode : goal.serve_by_table-requires-in-Jump-clause-mode
serve_by_table-requires-in-Jump-clause-mode g c =
    let seen = ap (keeping (option_copied c.settings.inside.registered)) c.options.view_is ∙ c.settings.view_is in
    sym (ap (λ (v : Settings). v.mode) seen) ∙ c.in-Jump.is

pub serve_by_table-requires-in-CheckTable-clause-mode : goal.serve_by_table-requires-in-CheckTable-clause-mode
serve_by_table-requires-in-CheckTable-clause-mode g c =
    let seen = ap (keeping (option_copied c.settings.inside.registered)) c.options.view_is ∙ c.settings.view_is in
    sym (ap (λ (v : Settings). v.mode) seen) ∙ c.in-CheckTable.is

pub serve_by_table-requires-in-PrintTable-clause-mode : goal.serve_by_table-requires-in-PrintTable-clause-mode
serve_by_table-requires-in-PrintTable-clause-mode g c =
    let seen = ap (keeping (option_copied c.settings.inside.registered)) c.options.view_is ∙ c.settings.view_is in
    sym (ap (λ (v : Settings). v.mode) seen) ∙ c.in-PrintTable.is
