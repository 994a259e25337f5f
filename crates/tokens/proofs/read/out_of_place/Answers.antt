use Rattle.std.proofs.Common.{sym, false}
use Rattle.cells.specs.Laws.Tests.{find_none}
use Rattle.tokens.specs.Place.{misplacements, misplaced_of}
use Rattle.tokens.proofs.read.out_of_place.Goals as goal

pub returns-in_default : goal.returns-in_default
unfolding misplaced_of
returns-in_default c = sym (find_none (Unit {0}) (misplacements c.args.within) false _ c.in_default.in_default-own.rest)
