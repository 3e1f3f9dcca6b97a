use Rattle.std.proofs.Common.{◌≡◌, ◌≢◌, ℕ, ◌+◌, ◌-◌, ◌<◌, ◌≤◌, List, get_or, refl, ap, ◌∙◌, inl, inr, arith}
use Rattle.std.proofs.lemmas.Bool.{cases_lt}
use Rattle.idn_punycode.proofs.DelimiterSteps.{Ends, is_end, no_delimiter}
use Rattle.idn_punycode.proofs.decoding.place_in_octets.Goals as goal

-- what a chunk at `at` shows, of which a part may have been searched before
chunk_ends : (code : List ℕ) (after at found end : ℕ) → Ends code after → after ≤ at + 8 → ((k : ℕ) → at + found ≤ k → k < at + 8 → get_or code k 0 ≢ 0x2D) → at + found ≤ end → Ends code end
chunk_ends code after at found end before near others from k le lt =
    elim (cases_lt k (at + 8)) [
      | inl inside ↦ no_delimiter _ (others k (omega (arith, le, from)) inside)
      | inr far ↦ before k (omega (arith, near, far)) lt
    ]

pub loop-after-preserved : goal.loop-after-preserved
loop-after-preserved c =
    let i = c.loop-after.invariant in
    let others = c.place_in_chunk-found.ensures.others in
    (omega (arith, i.0), chunk_ends _ _ _ _ _ i.1 (omega arith) others (omega (arith, c.if-found-gt0.false)))

pub returns-then-found-gt0 : goal.returns-then-found-gt0
returns-then-found-gt0 c =
    let i = c.loop-after.invariant in
    let chunk = c.place_in_chunk-found.ensures in
    is_end c.args.code.now _ (omega (arith, i.0, c.loop-after-test.true, chunk.within))
    (chunk_ends _ _ _ _ _ i.1 (omega arith) chunk.others (omega arith))
    (λ _. rw (chunk.last c.if-found-gt0.true) refl)

pub returns-then-code-ge-CHUNK_LEN : goal.returns-then-code-ge-CHUNK_LEN
returns-then-code-ge-CHUNK_LEN c =
    let i = c.loop-after.invariant in
    let code = c.args.code.now in
    let chunk = c.place_in_chunk.ensures in
    let place : c.place_in_chunk.result - 1 ≡ 0 + c.place_in_chunk.result - 1 = omega arith in
    is_end code _ (omega (arith, chunk.within, c.if-code-ge-CHUNK_LEN.true))
    (chunk_ends _ _ 0 _ _ i.1 (omega (arith, c.loop-after-test.false)) chunk.others (omega arith))
    (λ some. rw (ap (λ k. get_or code k 0) place ∙ chunk.last some) refl)

pub returns-else-code-after-ne-DELIMITER : goal.returns-else-code-after-ne-DELIMITER
returns-else-code-after-ne-DELIMITER c =
    let i = c.loop-after-2.invariant in
    is_end c.args.code.now c.loop-after-2.after i.0 i.1 (λ _. rw c.if-code-after-ne-DELIMITER.false refl)

pub returns-after-loop-after-2 : goal.returns-after-loop-after-2
returns-after-loop-after-2 c =
    let i = c.loop-after-2.invariant in
    is_end c.args.code.now c.loop-after-2.after i.0 i.1 (λ some. absurd (omega (arith, some, c.loop-after-2-test.false)))
