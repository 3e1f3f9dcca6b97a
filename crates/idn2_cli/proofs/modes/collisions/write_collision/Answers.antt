use Rattle.std.proofs.Common.{◌≡◌, ◌≤◌, ◌∙◌, ◌∷◌, ◌++◌, [], ℕ, List, Option, Some, length, ap, sym, subst, arith}
use Rattle.std.specs.Prelude.{slice_get}
use Rattle.std.specs.Option.{option_map}
use Rattle.std.proofs.lemmas.Option.{get_or_from_slice_get}
use Rattle.idn_text.specs.Points.{utf8_of}
use Rattle.idn_text.proofs.Utf8Lemmas.{length-utf8_of-le}
use Rattle.idn_label.specs.ALabel.{a_label_of}
use Rattle.registered_labels.specs.Registered.{AreRegistered}
use Rattle.registered_labels.proofs.LabelLists.{short_at}
use Rattle.idn_class.specs.declared.properties.Properties.{Properties}
use Rattle.answer_json.specs.Answers.{line_of}
use Rattle.answer_json.specs.Objects.{collision}
use Rattle.idn2_options.specs.declared.command_line.form.Form.{Form}
use Rattle.idn2_answers.specs.Said.{regard_columns, said_text}
use Rattle.idn2_output.specs.OutputLines.{Output}
use Rattle.idn2_output.specs.Writing.{Emits}
use Rattle.idn2_output.proofs.WrittenOutputLines.{emits_as}
use Rattle.idn2_cli.specs.inner.Asked.{asked_line}
use Rattle.idn2_cli.specs.inner.FoundLabels.{label_of, said_of}
use Rattle.idn2_cli.proofs.modes.collisions.write_collision.Goals as goal

from_some : (a b : List ℕ) → (let o : Option (List ℕ) = Some a in o) ≡ Some b → a ≡ b
from_some a b e = cc

-- the UTF-8 of a registered label
utf8-of : (registered : List (List ℕ)) (number : ℕ) (points bytes : List ℕ) → slice_get registered number ≡ Some points → option_map utf8_of (slice_get registered number) ≡ Some bytes → bytes ≡ utf8_of points
utf8-of registered number points bytes at told = from_some bytes (utf8_of points) (sym told ∙ ap (option_map utf8_of) at)

short-utf8 : (properties : Properties) (registered : List (List ℕ)) (number : ℕ) (points bytes : List ℕ) → AreRegistered properties registered → slice_get registered number ≡ Some points → bytes ≡ utf8_of points → length bytes ≤ 252
short-utf8 properties registered number points bytes all at is =
    let short = short_at properties registered number points all at in
    let most = length-utf8_of-le points in
    omega (arith, short, most, ap length is)

pub collision_line-line-requires-clause-u_label : goal.collision_line-line-requires-clause-u_label
collision_line-line-requires-clause-u_label g c =
    short-utf8 c.requires.all.0 c.args.registered.now c.args.collision.now.number c.decode.new.points.items c.line-u_label.result.now c.requires.all.1 c.decode.ensures
    (utf8-of c.args.registered.now c.args.collision.now.number c.decode.new.points.items c.line-u_label.result.now c.decode.ensures c.line-u_label.ensures)

pub object-requires : goal.object-requires
object-requires g c =
    let text = ap length c.as_bytes-a_label.ensures.value in
    let fits = c.as_str.ensures.fits in (
      short-utf8 c.requires.all.0 c.args.registered.now c.args.collision.now.number c.decode.new.points.items c.line-u_label.result.now c.requires.all.1 c.decode.ensures
          (utf8-of c.args.registered.now c.args.collision.now.number c.decode.new.points.items c.line-u_label.result.now c.decode.ensures c.line-u_label.ensures),
      omega (arith, text, fits),
    )

pub returns-in-Plain-clause-written : goal.returns-in-Plain-clause-written
returns-in-Plain-clause-written g c =
    let registered : List (List ℕ) = c.args.registered.now in
    let points : List ℕ = c.decode.new.points.items in
    let label : points ≡ label_of registered c.args.collision.now = sym (get_or_from_slice_get registered c.args.collision.now.number points [] c.decode.ensures) in
    let u_label : c.line-u_label.result.now ≡ utf8_of (label_of registered c.args.collision.now) = utf8-of registered c.args.collision.now.number points c.line-u_label.result.now c.decode.ensures c.line-u_label.ensures ∙ ap utf8_of label in
    let a_label : c.as_bytes-a_label.result.now ≡ a_label_of (label_of registered c.args.collision.now) = c.as_bytes-a_label.ensures.value ∙ c.as_str.ensures.value ∙ c.encode_label-a_label.ensures ∙ ap a_label_of (c.as_slice.ensures.value ∙ label) in
    let line : List ℕ → List ℕ → List ℕ = λ u a. (u ++ 9 ∷ (a ++ regard_columns c.args.collision.now.regards)) ++ 10 ∷ [] in
    let text : c.as_slice-in-Plain.result.now ≡ line (utf8_of (label_of registered c.args.collision.now)) (a_label_of (label_of registered c.args.collision.now)) =
    c.as_slice-in-Plain.ensures.value ∙ c.collision_line-line.ensures ∙ ap (λ u. line u c.as_bytes-a_label.result.now) u_label ∙ ap (line (utf8_of (label_of registered c.args.collision.now))) a_label in
    subst (λ (f : Form). Emits c.args.console.now c.output.new.self (Output (said_text f (asked_line c.args.asked.now) (said_of registered c.args.collision.now)) ∷ []) c.output.result) (sym c.in-Plain.is)
    (emits_as _ _ Output _ _ c.output.result text c.output.ensures.written)

pub returns-in-Json-clause-written : goal.returns-in-Json-clause-written
returns-in-Json-clause-written g c =
    let registered : List (List ℕ) = c.args.registered.now in
    let points : List ℕ = c.decode.new.points.items in
    let label : points ≡ label_of registered c.args.collision.now = sym (get_or_from_slice_get registered c.args.collision.now.number points [] c.decode.ensures) in
    let u_label : c.line-u_label.result.now ≡ utf8_of (label_of registered c.args.collision.now) = utf8-of registered c.args.collision.now.number points c.line-u_label.result.now c.decode.ensures c.line-u_label.ensures ∙ ap utf8_of label in
    let a_label : c.as_bytes-a_label.result.now ≡ a_label_of (label_of registered c.args.collision.now) = c.as_bytes-a_label.ensures.value ∙ c.as_str.ensures.value ∙ c.encode_label-a_label.ensures ∙ ap a_label_of (c.as_slice.ensures.value ∙ label) in
    let line : List ℕ → List ℕ → List ℕ = λ u a. line_of (collision c.args.asked.now.number u a c.args.collision.now.regards) in
    subst (λ (f : Form). Emits c.args.console.now c.object.new.self (Output (said_text f (asked_line c.args.asked.now) (said_of registered c.args.collision.now)) ∷ []) c.object.result) (sym c.in-Json.is)
    (emits_as _ _ Output _ _ c.object.result (ap (λ u. line u c.as_bytes-a_label.result.now) u_label ∙ ap (line (utf8_of (label_of registered c.args.collision.now))) a_label) c.object.ensures.written)
