use Rattle.std.proofs.Common.{◌≡◌, ◌/◌, ◌%◌, arith}
use Rattle.lines.specs.Digits.{hex_word, hex_of}
use Rattle.lines.proofs.digits.hex_word.Goals as goal

pub returns : goal.returns
unfolding hex_word hex_of
returns c =
    let high : c.args.word / 256 % 256 ≡ c.args.word / 256 = omega arith in
    let all = rw c.to_be_bytes.ensures at c.hex.ensures in
    rw high at all
