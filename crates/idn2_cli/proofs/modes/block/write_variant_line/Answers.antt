use Rattle.std.proofs.Common.{◌≡◌, ℕ, List, refl, sym, append_assoc, append-nil, [], ◌∷◌, ◌++◌, ◌∙◌, ap, subst, arith, length, length-append}
use Rattle.std.proofs.lemmas.Bool.{eqb-true}
use Rattle.idn_text.specs.Points.{utf8_of}
use Rattle.idn_label.specs.ALabel.{a_label_of}
use Rattle.idn2_answers.specs.Said.{variant_line}
use Rattle.idn2_output.specs.OutputLines.{Output}
use Rattle.idn2_output.specs.Writing.{Emits}
use Rattle.idn_text.proofs.Utf8Lemmas.{length-utf8_of-le}
use Rattle.idn_label.proofs.ALabels.{registrable_scalars}
use Rattle.idn_label.proofs.RequirementLemmas.{MeetsRequirements-registrable}
use Rattle.idn2_cli.proofs.modes.block.write_variant_line.Goals.{then-not-is_empty, else-not-is_empty}
use Rattle.idn2_cli.proofs.modes.block.write_variant_line.Goals as goal

pub begin-requires-clause-short : goal.begin-requires-clause-short
begin-requires-clause-short g c = (MeetsRequirements-registrable c.requires.registrable.0 c.args.label.now c.requires.registrable.1).points

pub begin-requires-clause-scalar_values : goal.begin-requires-clause-scalar_values
begin-requires-clause-scalar_values g c = registrable_scalars c.requires.registrable.0 c.args.label.now c.requires.registrable.1

pub append-requires : goal.append-requires
append-requires g c =
    let short = (MeetsRequirements-registrable c.requires.registrable.0 c.args.label.now c.requires.registrable.1).points in
    let most = length-utf8_of-le c.args.label.now in
    let count = ap length c.begin.ensures.line in
    omega (arith, short, most, count)

pub append-requires-2 : goal.append-requires-2
append-requires-2 g c =
    let short = (MeetsRequirements-registrable c.requires.registrable.0 c.args.label.now c.requires.registrable.1).points in
    let most = length-utf8_of-le c.args.label.now in
    let count = ap length c.begin.ensures.line in
    let tab = ap length c.append.ensures.line ∙ length-append c.begin.new.self.line (9 ∷ []) in
    let text = ap length c.as_bytes.ensures.value in
    let fits = c.as_str.ensures.fits in
    omega (arith, short, most, count, tab, text, fits)

pub append-requires-then-not-is_empty : goal.append-requires-then-not-is_empty
append-requires-then-not-is_empty g c =
    let short = (MeetsRequirements-registrable c.requires.registrable.0 c.args.label.now c.requires.registrable.1).points in
    let most = length-utf8_of-le c.args.label.now in
    let count = ap length c.begin.ensures.line in
    let tab = ap length c.append.ensures.line ∙ length-append c.begin.new.self.line (9 ∷ []) in
    let text = ap length c.as_bytes.ensures.value in
    let fits = c.as_str.ensures.fits in
    let added = ap length c.append-2.ensures.line ∙ length-append c.append.new.self.line c.as_bytes.result.now in
    let told = ap length c.as_bytes-then-not-is_empty.ensures.value in
    omega (arith, short, most, count, tab, text, fits, added, told)

pub append-requires-3 : goal.append-requires-3
append-requires-3 g c =
    let short = (MeetsRequirements-registrable c.requires.registrable.0 c.args.label.now c.requires.registrable.1).points in
    let most = length-utf8_of-le c.args.label.now in
    let count = ap length c.begin.ensures.line in
    let tab = ap length c.append.ensures.line ∙ length-append c.begin.new.self.line (9 ∷ []) in
    let text = ap length c.as_bytes.ensures.value in
    let fits = c.as_str.ensures.fits in
    let added = ap length c.append-2.ensures.line ∙ length-append c.append.new.self.line c.as_bytes.result.now in
    elim c.if-not-is_empty.branch [
      | then-not-is_empty w ↦
          let told = ap length w.as_bytes-then-not-is_empty.ensures.value in
          let more = ap (λ l. length l.line) w.line-is ∙ ap length w.append-then-not-is_empty.ensures.line ∙ length-append c.append-2.new.self.line w.as_bytes-then-not-is_empty.result.now in
          omega (arith, short, most, count, tab, text, fits, added, told, more)
      | else-not-is_empty w ↦
          let same = ap (λ l. length l.line) w.line-is in
          omega (arith, short, most, count, tab, text, fits, added, same)
    ]

no_octets : (xs : List ℕ) → length xs ≡ 0 → xs ≡ []
no_octets [] h = refl
no_octets (x ∷ xs) h = absurd (omega (arith, h))

pub returns-clause-written : goal.returns-clause-written
returns-clause-written g c =
    let field = c.field_of-field.result.now in
    let start : c.append-2.new.self.line ≡ ((utf8_of c.args.label.now ++ 9 ∷ []) ++ a_label_of c.args.label.now) =
    c.append-2.ensures.line ∙ ap (λ l. l ++ c.as_bytes.result.now) (c.append.ensures.line ∙ ap (λ l. l ++ 9 ∷ []) c.begin.ensures.line)
    ∙ ap (λ a. (utf8_of c.args.label.now ++ 9 ∷ []) ++ a) (c.as_bytes.ensures.value ∙ c.as_str.ensures.value ∙ c.requires.a_label) in
    let longer : c.if-not-is_empty.line.line ≡ c.append-2.new.self.line ++ field = elim c.if-not-is_empty.branch [
      | then-not-is_empty w ↦ ap (λ l. l.line) w.line-is ∙ w.append-then-not-is_empty.ensures.line ∙ ap (λ f. c.append-2.new.self.line ++ f) w.as_bytes-then-not-is_empty.ensures.value
      | else-not-is_empty w ↦ ap (λ l. l.line) w.line-is ∙ sym (append-nil c.append-2.new.self.line) ∙ ap (λ f. c.append-2.new.self.line ++ f) (sym (no_octets field (eqb-true (length field) 0 (sym c.is_empty.ensures ∙ w.if-not-is_empty.false))))
    ] in
    let line : c.as_slice.result.now ≡ variant_line c.args.disposition c.args.label.now ++ 10 ∷ [] =
    c.as_slice.ensures ∙ c.append-3.ensures.line ∙ ap (λ l. l ++ 10 ∷ []) (longer ∙ ap (λ l. l ++ field) start ∙ append_assoc (utf8_of c.args.label.now ++ 9 ∷ []) (a_label_of c.args.label.now) field ∙ append_assoc (utf8_of c.args.label.now) (9 ∷ []) (a_label_of c.args.label.now ++ field)
    ∙ ap (λ f. utf8_of c.args.label.now ++ 9 ∷ (a_label_of c.args.label.now ++ f)) c.field_of-field.ensures.field) in
    subst (λ l. Emits c.args.console.now c.output.new.self (Output l ∷ []) c.output.result) line c.output.ensures.written
