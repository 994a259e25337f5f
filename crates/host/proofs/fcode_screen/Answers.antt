use Rattle.std.proofs.Common.{ap, sym, rules}
use Rattle.rom.specs.Refusal.{numbered}
use Rattle.screen.specs.Promise.{verdict_number}
use Rattle.host.proofs.fcode_screen.Goals as goal

pub returns-in-Ok : goal.returns-in-Ok
returns-in-Ok c = (numbered c.screen.result, ap (λ r. verdict_number (numbered r)) (sym c.in-Ok.is), c.screen.ensures)

pub returns-in-Err : goal.returns-in-Err
returns-in-Err c = (numbered c.screen.result, rw c.in-Err.is (search rules), c.screen.ensures)
