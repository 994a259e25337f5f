use Rattle.std.proofs.Common.{refl, arith}
use Rattle.screen.specs.Laws.Code.Screen.{cleared_walk, cleared_low, passed_by_lem}
use Rattle.screen.specs.Laws.Found.Cell.{first_cell_lem}
use Rattle.screen.proofs.screening.finds_heights.Goals as goal

pub all_rounds-requires : goal.all_rounds-requires
all_rounds-requires c =
    let k = c.requires in (
      c.first_codes-codes.ensures,
      cleared_walk _ _ _ _ k,
      record { start = omega arith; some = λ z. omega arith; real = λ z. omega arith; children = omega arith; nodes = omega arith },
      omega arith,
      cleared_low _ _ _ _ k,
    )

pub returns : goal.returns
returns c =
    let k = c.requires in
    passed_by_lem c.args.rom.now _ _ _ _ k.size (rw (k.clear, c.wide_start.ensures, ← first_cell_lem) refl)
    c.all_rounds.ensures
