use Rattle.std.proofs.Common.{refl, sym, ◌∙◌, arith, length, lt-ltb, le-ltb}
use Rattle.lines.specs.TokenLines.{piece_text, next_of, wide_behind}
use Rattle.lines.specs.Laws.Tokens.{raw_lies, listed_lies}
use Rattle.lines.specs.Laws.Wrote.{wrote_none}
use Rattle.rom.specs.Sizes.{rom_most}
use Rattle.lines.proofs.pieces.piece_line.Goals as goal

pub returns-then-fcode-gt-ROM_MOST : goal.returns-then-fcode-gt-ROM_MOST
unfolding piece_text next_of wide_behind
returns-then-fcode-gt-ROM_MOST c =
    let args = c.args in
    rw (lt-ltb rom_most (length args.fcode.now) (omega arith)) (wrote_none, refl, refl)

pub raw_line-requires : goal.raw_line-requires
unfolding piece_text next_of wide_behind
raw_line-requires c =
    let a = c.args in
    raw_lies a.fcode.now a.wide a.place _ (sym c.piece_in.ensures ∙ c.in-Raw.is)

pub token_line-requires : goal.token_line-requires
unfolding piece_text next_of wide_behind
token_line-requires c =
    let a = c.args in
    listed_lies a.fcode.now a.wide a.place (omega arith) _ _ _ (sym c.piece_in.ensures ∙ c.in-Listed.is)

pub returns-in-End : goal.returns-in-End
unfolding piece_text next_of wide_behind
returns-in-End c =
    let args = c.args in
    rw (le-ltb rom_most (length args.fcode.now) (omega arith), sym c.piece_in.ensures ∙ c.in-End.is)
    (wrote_none, refl, refl)

pub returns-in-Raw : goal.returns-in-Raw
unfolding piece_text next_of wide_behind
returns-in-Raw c =
    let args = c.args in
    rw (le-ltb rom_most (length args.fcode.now) (omega arith), sym c.piece_in.ensures ∙ c.in-Raw.is)
    (c.raw_line.ensures, refl, refl)

pub returns-in-Listed : goal.returns-in-Listed
unfolding piece_text next_of wide_behind
returns-in-Listed c =
    let args = c.args in
    rw (le-ltb rom_most (length args.fcode.now) (omega arith), sym c.piece_in.ensures ∙ c.in-Listed.is)
    (c.token_line.ensures, refl, refl)
