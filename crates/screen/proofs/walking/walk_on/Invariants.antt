use Rattle.std.proofs.Common.{◌≡◌, length as len}
use Rattle.rom.specs.Sizes.{rom_most}
use Rattle.screen.specs.Laws.Found.Model.{no_tally, walk_steps}
use Rattle.screen.specs.Laws.Code.Visit.{tally_in}
use Rattle.screen.specs.Laws.Code.Walk.{Walks, path_of}
use Rattle.screen.proofs.walking.walk_on.Given as goal

-- what is left of the walk comes to what the whole comes to
abbrev pub invariant-loop-way : goal.invariant-loop-way
invariant-loop-way l =
    ((len l.seen ≡ len l.initial.seen) × (len l.work ≡ len l.initial.work))
    × Walks l.rom l.text l.kinds l.sums (walk_steps l.rom l.text l.kinds l.sums rom_most
    (path_of l.initial.seen l.initial.work l.initial.way no_tally)) l.left l.seen l.work l.way (tally_in l.tally)

abbrev pub decreases-loop-way : goal.decreases-loop-way
decreases-loop-way l = l.left
