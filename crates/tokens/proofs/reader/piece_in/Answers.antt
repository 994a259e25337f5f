use Rattle.std.proofs.Common.{sym, ap, ◌∙◌, rules}
use Rattle.rom.specs.Spread.{view_of}
use Rattle.tokens.specs.Laws.Reader.{is_end, is_piece, formed_as}
use Rattle.tokens.specs.declared.reader.Piece.TheVariants.{Raw}
use Rattle.tokens.proofs.reader.piece_in.Goals as goal

pub returns-then-end-place : goal.returns-then-end-place
returns-then-end-place c =
    let a = c.args in
    is_end (view_of a.spread a.rom.now) a.wide a.place c.program_end-end.result c.program_end-end.ensures
    (search rules)

pub overflow_cast-next : goal.overflow_cast-next
overflow_cast-next c =
    let a = c.args in
    let e = c.program_end-end.result in
    let u = formed_as (view_of a.spread a.rom.now) e a.wide a.place _ (sym c.decode.ensures ∙ c.in-Unlisted.is)
    in
    search (rules, u, c.behind_number-next.ensures)

pub overflow_cast-start : goal.overflow_cast-start
overflow_cast-start c =
    let a = c.args in
    let e = c.program_end-end.result in
    let f = formed_as (view_of a.spread a.rom.now) e a.wide a.place _ (sym c.decode.ensures ∙ c.in-Whole.is) in
    let s = f.starts in
    let b = f.before in
    search (rules, s, b, c.behind_number-start.ensures)

pub returns-in-Cut : goal.returns-in-Cut
returns-in-Cut c =
    let a = c.args in
    is_piece (view_of a.spread a.rom.now) a.wide a.place c.program_end-end.result _ c.program_end-end.ensures (search rules)
    (sym c.decode.ensures ∙ c.in-Cut.is)

pub returns-in-Unlisted : goal.returns-in-Unlisted
returns-in-Unlisted c =
    let a = c.args in
    ap Raw c.behind_number-next.ensures.0
    ∙ is_piece (view_of a.spread a.rom.now) a.wide a.place c.program_end-end.result _ c.program_end-end.ensures (search rules)
    (sym c.decode.ensures ∙ c.in-Unlisted.is)

pub returns-in-Whole : goal.returns-in-Whole
returns-in-Whole c =
    let a = c.args in
    rw (c.behind_number-start.ensures.0, c.width_behind-behind.ensures)
    (is_piece (view_of a.spread a.rom.now) a.wide a.place c.program_end-end.result _ c.program_end-end.ensures (search rules)
    (sym c.decode.ensures
    ∙ c.in-Whole.is))
