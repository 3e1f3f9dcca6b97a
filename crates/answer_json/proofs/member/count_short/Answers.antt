use Rattle.std.proofs.Common.{◌/◌, arith, sym}
use Rattle.itoa.proofs.Decimal.{length_one, length_pair, length_two}
use Rattle.answer_json.proofs.member.count_short.Goals as goal

pub returns-then-number-lt10 : goal.returns-then-number-lt10
returns-then-number-lt10 c = sym (length_one c.args.number (omega arith))

pub returns-then-number-lt100 : goal.returns-then-number-lt100
returns-then-number-lt100 c = sym (length_two c.args.number (omega arith) (omega arith))

pub returns-then-number-lt1000 : goal.returns-then-number-lt1000
returns-then-number-lt1000 c =
    let n = c.args.number in
    let pair = length_pair n (omega arith) (omega arith) in
    let first = length_one (n / 100) (omega arith) in omega arith

pub returns-else-number-lt1000 : goal.returns-else-number-lt1000
returns-else-number-lt1000 c =
    let n = c.args.number in
    let pair = length_pair n (omega arith) (omega arith) in
    let first = length_two (n / 100) (omega arith) (omega arith) in omega arith
