use Rattle.std.proofs.Common.{◌-◌, sym, length, rules}
use Rattle.tree.specs.Laws.Path.{null_empty, null_less, null_none}
use Rattle.tree.proofs.lookup.less_null.Goals as goal

pub returns-in-0 : goal.returns-in-0
returns-in-0 c = let v = c.args.value.now in sym (null_less v (length v - 1) (search rules) (search rules))

pub returns-in_default : goal.returns-in_default
returns-in_default c = sym (null_empty c.args.value.now (search rules))

pub returns-in_default-2 : goal.returns-in_default-2
returns-in_default-2 c = let v = c.args.value.now in sym (null_none v (length v - 1) (search rules) (search rules))
