use Rattle.std.proofs.Common.{◌≤◌, length, ◌≡◌}
use Rattle.acts.specs.Joints.Acts.{ActsKept}
use Rattle.machine.proofs.Turns.{Going-on}
use Rattle.state.specs.Joints.Apart.{arrays, joined}
use Rattle.state.specs.Run.{run_from}
use Rattle.state.specs.Scene.{scene}
use Rattle.machine.proofs.running.cruise.Given as goal

-- each turn of the loop ends as the whole run does, and the tables and the tail are those of the state
abbrev pub invariant-loop-n : goal.invariant-loop-n
invariant-loop-n l =
    ((l.n ≤ l.budget) × (length l.work ≡ length l.initial.work) × (length l.store ≡ length l.initial.store))
    × (Going-on l.budget
    (run_from l.budget 0 (scene l.rom l.initial.work l.initial.store
    (joined (arrays l.initial.cells l.initial.back l.initial.places l.initial.wides l.initial.bases l.initial.names l.initial.kinds
    l.initial.values l.initial.ways l.initial.parents l.initial.owners l.initial.titles l.initial.sizes) l.initial.core))) l.n
    (scene l.rom l.work l.store (joined (arrays l.cells l.back l.places l.wides l.bases l.names l.kinds l.values l.ways l.parents l.owners
    l.titles l.sizes) l.core)))
    × ActsKept l.slots l.known l.names l.kinds l.store l.titles l.sizes l.core l.tail
