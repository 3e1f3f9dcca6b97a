use Rattle.std.proofs.Common.{◌≡◌, ℕ, ◌+◌, ◌++◌, List, decimal, length, take, drop, sym, ap, ap₂, ◌∙◌, arith}
use Rattle.std.proofs.Math.Seq.{take-add, take-append_seam}
use Rattle.answer_json.proofs.member.put_decimal.Goals as goal

pub returns-clause-digits : goal.returns-clause-digits
returns-clause-digits c =
    let at = c.args.at in
    let digits = decimal c.args.number in
    let new = c.write_digits-at.new.buf in
    let begin : c.write_digits-at.result ≡ at = omega (arith, c.write_digits-at.ensures.start, c.count_digits.ensures.digits) in
    let before = ap (λ n. take n new) (sym begin) ∙ c.write_digits-at.ensures.before ∙ ap (λ n. take n c.args.out.now) begin in
    let written = ap (λ n. drop n new) (sym begin) ∙ c.write_digits-at.ensures.written in
    ap (λ n. take (at + n) new) c.count_digits.ensures.digits
    ∙ take-add at (length digits) new
    ∙ ap₂ (λ (a b : List ℕ). a ++ b) before (ap (take (length digits)) written ∙ take-append_seam digits (drop (at + c.count_digits.result) c.args.out.now))
