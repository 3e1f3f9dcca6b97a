use Rattle.std.proofs.Common.{arith}
use Rattle.idn_text.proofs.CharacterReads.{read_two, read_three, read_four, no_character}
use Rattle.idn_text.proofs.character.character_at.Goals as goal

-- ---- the character that is read

pub returns-in_ok-from_u32-in-194-to-223-clause-read : goal.returns-in_ok-from_u32-in-194-to-223-clause-read
returns-in_ok-from_u32-in-194-to-223-clause-read c =
    let code = c.in_ok-from_u32-in-194-to-223.ensures.value.1 in
    let second = c.in_ok-second-in-194-to-223.ensures in
    read_two c.args.text.now c.args.at _ second.within (omega arith) (omega arith) (omega arith) (omega arith)

pub returns-in_ok-from_u32-in-224-to-239-clause-read : goal.returns-in_ok-from_u32-in-224-to-239-clause-read
returns-in_ok-from_u32-in-224-to-239-clause-read c =
    let code = c.in_ok-from_u32-in-224-to-239.ensures.value.1 in
    let second = c.in_ok-second-in-224-to-239.ensures in
    let third = c.in_ok-third-in-224-to-239.ensures in
    read_three c.args.text.now c.args.at _ third.within (omega arith) (omega arith) (omega arith) (omega arith) (omega arith)

pub returns-in_ok-from_u32-in-240-to-244-clause-read : goal.returns-in_ok-from_u32-in-240-to-244-clause-read
returns-in_ok-from_u32-in-240-to-244-clause-read c =
    let code = c.in_ok-from_u32-in-240-to-244.ensures.value.1 in
    let second = c.in_ok-second-in-240-to-244.ensures in
    let third = c.in_ok-third-in-240-to-244.ensures in
    let fourth = c.in_ok-fourth-in-240-to-244.ensures in
    read_four c.args.text.now c.args.at _ fourth.within (omega arith) (omega arith) (omega arith) (omega arith) (omega arith)

-- ---- no character

pub returns-in_default-clause-none : goal.returns-in_default-clause-none
returns-in_default-clause-none c = no_character c.args.text.now c.args.at (λ _ is. omega (arith, is))

pub returns-in_default-2-clause-none : goal.returns-in_default-2-clause-none
returns-in_default-2-clause-none c = no_character c.args.text.now c.args.at (λ _ is. omega (arith, is))

pub returns-in_err-second-in-194-to-223-clause-none : goal.returns-in_err-second-in-194-to-223-clause-none
returns-in_err-second-in-194-to-223-clause-none c = rw c.from_residual.ensures (no_character c.args.text.now c.args.at (λ _ is. omega (arith, is, c.in_err-second-in-194-to-223.ensures.none)))

pub returns-in_err-third-in-224-to-239-clause-none : goal.returns-in_err-third-in-224-to-239-clause-none
returns-in_err-third-in-224-to-239-clause-none c = rw c.from_residual-in_err-third-in-224-to-239.ensures (no_character c.args.text.now c.args.at (λ _ is. omega (arith, is, c.in_err-third-in-224-to-239.ensures.none)))

pub returns-in_err-second-in-224-to-239-clause-none : goal.returns-in_err-second-in-224-to-239-clause-none
returns-in_err-second-in-224-to-239-clause-none c = rw c.from_residual-in_err-second-in-224-to-239.ensures (no_character c.args.text.now c.args.at (λ _ is. omega (arith, is, c.in_err-second-in-224-to-239.ensures.none)))

pub returns-in_err-fourth-in-240-to-244-clause-none : goal.returns-in_err-fourth-in-240-to-244-clause-none
returns-in_err-fourth-in-240-to-244-clause-none c = rw c.from_residual-in_err-fourth-in-240-to-244.ensures (no_character c.args.text.now c.args.at (λ _ is. omega (arith, is, c.in_err-fourth-in-240-to-244.ensures.none)))

pub returns-in_err-third-in-240-to-244-clause-none : goal.returns-in_err-third-in-240-to-244-clause-none
returns-in_err-third-in-240-to-244-clause-none c = rw c.from_residual-in_err-third-in-240-to-244.ensures (no_character c.args.text.now c.args.at (λ _ is. omega (arith, is, c.in_err-third-in-240-to-244.ensures.none)))

pub returns-in_err-second-in-240-to-244-clause-none : goal.returns-in_err-second-in-240-to-244-clause-none
returns-in_err-second-in-240-to-244-clause-none c = rw c.from_residual-in_err-second-in-240-to-244.ensures (no_character c.args.text.now c.args.at (λ _ is. omega (arith, is, c.in_err-second-in-240-to-244.ensures.none)))

pub returns-then-code-lt-LEAST_OF_THREE-clause-none : goal.returns-then-code-lt-LEAST_OF_THREE-clause-none
returns-then-code-lt-LEAST_OF_THREE-clause-none c = no_character c.args.text.now c.args.at (λ _ is. omega (arith, is, c.in_ok-second-in-224-to-239.ensures.bits, c.in_ok-second-in-224-to-239.ensures.few, c.in_ok-third-in-224-to-239.ensures.bits, c.in_ok-third-in-224-to-239.ensures.few))

pub returns-then-code-lt-LEAST_OF_FOUR-clause-none : goal.returns-then-code-lt-LEAST_OF_FOUR-clause-none
returns-then-code-lt-LEAST_OF_FOUR-clause-none c = no_character c.args.text.now c.args.at (λ _ is. omega (arith, is, c.in_ok-second-in-240-to-244.ensures.bits, c.in_ok-second-in-240-to-244.ensures.few, c.in_ok-third-in-240-to-244.ensures.bits, c.in_ok-third-in-240-to-244.ensures.few, c.in_ok-fourth-in-240-to-244.ensures.bits, c.in_ok-fourth-in-240-to-244.ensures.few))

pub returns-in_err-from_u32-in-224-to-239-clause-none : goal.returns-in_err-from_u32-in-224-to-239-clause-none
returns-in_err-from_u32-in-224-to-239-clause-none c = rw c.from_residual-in_err-from_u32-in-224-to-239.ensures (no_character c.args.text.now c.args.at (λ _ is. omega (arith, is, c.in_err-from_u32-in-224-to-239.ensures.cases, c.in_ok-second-in-224-to-239.ensures.bits, c.in_ok-second-in-224-to-239.ensures.few, c.in_ok-third-in-224-to-239.ensures.bits, c.in_ok-third-in-224-to-239.ensures.few)))

pub returns-in_err-from_u32-in-240-to-244-clause-none : goal.returns-in_err-from_u32-in-240-to-244-clause-none
returns-in_err-from_u32-in-240-to-244-clause-none c = rw c.from_residual-in_err-from_u32-in-240-to-244.ensures (no_character c.args.text.now c.args.at (λ _ is. omega (arith, is, c.in_err-from_u32-in-240-to-244.ensures.cases, c.in_ok-second-in-240-to-244.ensures.bits, c.in_ok-second-in-240-to-244.ensures.few, c.in_ok-third-in-240-to-244.ensures.bits, c.in_ok-third-in-240-to-244.ensures.few, c.in_ok-fourth-in-240-to-244.ensures.bits, c.in_ok-fourth-in-240-to-244.ensures.few)))
