use Rattle.std.proofs.Common.{sym, ◌∙◌, rules}
use Rattle.rom.specs.Spread.{view_of}
use Rattle.tokens.proofs.Wholes.{Found, cut_off, is_whole, is_unlisted, string_fits}
use Rattle.tokens.proofs.decoding.decode.Goals as goal

pub returns-then-length-next : goal.returns-then-length-next
returns-then-length-next c =
    let found : Found (view_of c.args.spread c.args.rom.now)
    c.args.wide c.args.place c.number_at-number.result
    c.code_of-code.result c.behind_number-start.result c.behind-next.result = record {
      numbered = c.number_at-number.ensures;
      coded = c.code_of-code.ensures;
      starts = c.behind_number-start.ensures.0;
      ends =
          c.behind-next.ensures.0;
    } in
    cut_off found c.args.length (search rules)

pub operand_at-operand-requires : goal.operand_at-operand-requires
operand_at-operand-requires c =
    let found : Found (view_of c.args.spread c.args.rom.now)
    c.args.wide c.args.place c.number_at-number.result
    c.code_of-code.result c.behind_number-start.result c.behind-next.result = record {
      numbered = c.number_at-number.ensures;
      coded = c.code_of-code.ensures;
      starts = c.behind_number-start.ensures.0;
      ends =
          c.behind-next.ensures.0;
    } in
    string_fits found c.args.length (search rules) (search rules)

pub returns-then-listed : goal.returns-then-listed
returns-then-listed c =
    let found : Found (view_of c.args.spread c.args.rom.now)
    c.args.wide c.args.place c.number_at-number.result
    c.code_of-code.result c.behind_number-start.result c.behind-next.result = record {
      numbered = c.number_at-number.ensures;
      coded = c.code_of-code.ensures;
      starts = c.behind_number-start.ensures.0;
      ends =
          c.behind-next.ensures.0;
    } in
    is_whole found c.args.length c.operand_at-operand.result c.operand_at-operand.ensures
    (search rules)
    (sym c.listed.ensures ∙ c.if-listed.true)

pub returns-else-listed : goal.returns-else-listed
returns-else-listed c =
    let found : Found (view_of c.args.spread c.args.rom.now)
    c.args.wide c.args.place c.number_at-number.result
    c.code_of-code.result c.behind_number-start.result c.behind-next.result = record {
      numbered = c.number_at-number.ensures;
      coded = c.code_of-code.ensures;
      starts = c.behind_number-start.ensures.0;
      ends =
          c.behind-next.ensures.0;
    } in
    is_unlisted found c.args.length c.operand_at-operand.result c.operand_at-operand.ensures
    (search rules)
    (sym c.listed.ensures ∙ c.if-listed.false)
