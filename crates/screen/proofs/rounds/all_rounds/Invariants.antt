use Rattle.std.proofs.Common.{◌-◌, ◌≡◌, length as len}
use Rattle.rom.specs.Sizes.{rom_most}
use Rattle.screen.specs.Laws.Found.Model.{board, rounds_of}
use Rattle.screen.specs.Laws.Code.Round.{Going}
use Rattle.screen.proofs.rounds.all_rounds.Given as goal

-- the rounds that are left come to what all of them come to
abbrev pub invariant-loop : goal.invariant-loop
invariant-loop l =
    ((len l.seen ≡ len l.initial.seen) × (len l.work ≡ len l.initial.work) × (len l.sums ≡ len l.initial.sums))
    × (rounds_of l.rom l.length (rom_most - l.counter) (board l.seen l.kinds l.sums l.stand) ≡ rounds_of l.rom l.length rom_most
    (board l.initial.seen l.initial.kinds l.initial.sums l.initial.stand))
    × Going (rom_most - l.counter) l.seen l.stand
