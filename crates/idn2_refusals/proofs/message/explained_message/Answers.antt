use Rattle.std.proofs.Common.{ℕ, [], ◌∷◌, length, length-append, ap, decimal, arith}
use Rattle.idn_text.specs.Refusals.{refusal_number, refusal_text}
use Rattle.idn2_refusals.specs.CauseParts.{parts_of}
use Rattle.idn2_refusals.specs.CauseWords.{cause_words}
use Rattle.idn2_refusals.proofs.CauseLemmas.{number_digits, refusal_text-short}
use Rattle.idn2_refusals.proofs.WrongLineLemmas.{appended}
use Rattle.idn2_refusals.proofs.message.explained_message.Goals as goal

pub push_cause-requires-clause-room : goal.push_cause-requires-clause-room
push_cause-requires-clause-room c =
    let text = refusal_text-short c.args.refusal.now in
    let digits = number_digits c.args.number (omega arith) in
    omega (
      arith,
      ap length c.append-7.ensures,
      ap length c.append-6.ensures,
      ap length c.append-5.ensures,
      ap length c.append-4.ensures,
      ap length c.append-3.ensures,
      ap length c.append-2.ensures,
      ap length c.append.ensures,
      ap length c.new-message.ensures,
      ap length c.as_bytes.ensures.value,
      ap length c.as_bytes-2.ensures.value,
      ap length c.as_bytes-3.ensures.value,
      ap length c.text.ensures,
      ap length c.format.ensures.text,
      c.format-2.ensures.fits,
      length-append {A = ℕ},
    )

pub append-requires-8 : goal.append-requires-8
append-requires-8 c =
    let text = refusal_text-short c.args.refusal.now in
    let digits = number_digits c.args.number (omega arith) in
    omega (
      arith,
      c.push_cause.ensures.end,
      ap length c.append-7.ensures,
      ap length c.append-6.ensures,
      ap length c.append-5.ensures,
      ap length c.append-4.ensures,
      ap length c.append-3.ensures,
      ap length c.append-2.ensures,
      ap length c.append.ensures,
      ap length c.new-message.ensures,
      ap length c.as_bytes.ensures.value,
      ap length c.as_bytes-2.ensures.value,
      ap length c.as_bytes-3.ensures.value,
      ap length c.text.ensures,
      ap length c.format.ensures.text,
      c.format-2.ensures.fits,
      length-append {A = ℕ},
    )

pub returns : goal.returns
returns c =
    rw (
      c.append-8.ensures,
      c.push_cause.ensures.items,
      c.told_cause.ensures.parts,
      c.append-7.ensures,
      c.append-6.ensures,
      c.append-5.ensures,
      c.append-4.ensures,
      c.append-3.ensures,
      c.append-2.ensures,
      c.append.ensures,
      c.new-message.ensures,
      c.as_bytes.ensures.value,
      c.format.ensures.text,
      c.as_bytes-2.ensures.value,
      c.format-2.ensures.text,
      c.number.ensures,
      c.as_bytes-3.ensures.value,
      c.text.ensures,
    )
    (appended c.args.before.now (decimal c.args.number) (58 ∷ 32 ∷ []) (decimal (refusal_number c.args.refusal.now)) (32 ∷ []) (refusal_text c.args.refusal.now) (58 ∷ 32 ∷ []) (cause_words (parts_of c.args.refusal.now c.args.cause.now)) (10 ∷ []))
