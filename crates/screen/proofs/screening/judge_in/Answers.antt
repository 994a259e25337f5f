use Rattle.std.proofs.Common.{◌∙◌, ap, arith, replicate}
use Rattle.rom.specs.Spread.{fcode_of}
use Rattle.tokens.specs.Laws.Past.{SamePrograms}
use Rattle.screen.specs.Laws.Code.Screen.{cleared_short, cleared_same, cleared_walk, judge_passes, judge_refuses}
use Rattle.screen.specs.Laws.Code.Spread.{program_same}
use Rattle.screen.proofs.Exact.Exactly.{judged_same}
use Rattle.screen.proofs.screening.judge_in.Goals as goal

pub lay_spread-requires : goal.lay_spread-requires
lay_spread-requires c =
    let k = c.requires in
    let b = k.buffer in
    let l = cleared_short _ _ _ _ k.cleared in
    omega arith

pub laid-program-requires : goal.laid-program-requires
laid-program-requires c =
    let k = c.requires in
    let b = k.buffer in
    let l = cleared_short _ _ _ _ k.cleared in
    let s = c.lay_spread.auto in
    omega arith

pub finds_heights-requires : goal.finds_heights-requires
finds_heights-requires c =
    let same : SamePrograms c.laid-program.result.now (fcode_of c.args.rom.now) = let k = c.requires in let b = k.buffer in let l =
    cleared_short _ _ _ _ k.cleared in program_same c.args.rom.now c.args.marks.now c.spread_of-spread.ensures c.lay_spread.ensures
    c.laid-program.ensures (omega arith) k.cleared.size k.cleared.header in
    let k = c.requires in
    cleared_same same k.cleared

pub lay_marks-requires : goal.lay_marks-requires
lay_marks-requires c =
    let k = c.requires in
    let b = k.buffer in
    let t = cleared_walk _ _ _ _ k.cleared in
    let l = c.finds_heights.auto in
    let s = c.lay_spread.auto in
    (omega arith, s.room ∙ b)

pub returns-then-finds_heights : goal.returns-then-finds_heights
returns-then-finds_heights c =
    let same : SamePrograms c.laid-program.result.now (fcode_of c.args.rom.now) = let k = c.requires in let b = k.buffer in let l =
    cleared_short _ _ _ _ k.cleared in program_same c.args.rom.now c.args.marks.now c.spread_of-spread.ensures c.lay_spread.ensures
    c.laid-program.ensures (omega arith) k.cleared.size k.cleared.header in
    let a = c.args in
    let k = c.requires in
    judge_passes c.laid-program.result.now a.marks.now _ _ _ c.finds_heights.ensures c.if-finds_heights.true c.lay_marks.ensures
    ∙ judged_same a.marks.now same k.buffer k.cleared.header

pub returns : goal.returns
returns c =
    let same : SamePrograms c.laid-program.result.now (fcode_of c.args.rom.now) = let k = c.requires in let b = k.buffer in let l =
    cleared_short _ _ _ _ k.cleared in program_same c.args.rom.now c.args.marks.now c.spread_of-spread.ensures c.lay_spread.ensures
    c.laid-program.ensures (omega arith) k.cleared.size k.cleared.header in
    let a = c.args in
    let k = c.requires in
    judge_refuses c.laid-program.result.now a.marks.now _ _ _ c.finds_heights.ensures c.if-finds_heights.false
    (c.fill.ensures.after (λ y e. e) ∙ ap (λ n. replicate n 0) c.lay_spread.auto.room)
    ∙ judged_same a.marks.now same k.buffer k.cleared.header
