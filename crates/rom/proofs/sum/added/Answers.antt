use Rattle.std.proofs.Common.{◌≡◌, ◌+◌, ◌^◌, ◌%◌, ◌∙◌, rules, arith}
use Rattle.std.specs.List.{fold}
use Rattle.rom.proofs.Totals.{folded}
use Rattle.rom.proofs.sum.added.Goals as goal

pub returns : goal.returns
returns c =
    let a = c.args in
    let e : c.fold.result ≡ fold (λ n b. (n + b) % 2 ^ 16) a.sum a.bytes.now = search rules in
    e ∙ folded _ _ (omega arith)
