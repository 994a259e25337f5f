use Rattle.std.proofs.Common.{sym, rules}
use Rattle.memory.specs.Laws.Memory.{lies_low, lies_from}
use Rattle.memory.proofs.window.lies.Goals as goal

pub returns-then-address-base : goal.returns-then-address-base
returns-then-address-base c = let a = c.args in sym (lies_low a.base a.size a.address a.count (search rules))

pub returns : goal.returns
returns c = let a = c.args in sym (lies_from a.base a.size a.address a.count (search rules))
