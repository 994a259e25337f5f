use Rattle.std.proofs.Common.{◌≡◌, true, false, not, eqb, sym, ◌∙◌}
use borrow.Author.Tests.{not-true, not-false}
use Rattle.rom.specs.Bytes.{byte_of}
use Rattle.rom.specs.Sum.{sum_of}
use Rattle.rom.specs.Spread.{fcode_of}
use Rattle.rom.specs.Header.{start_of, length_of, checksum_of, wrong_rom, wrong_length}
use Rattle.rom.specs.Laws.Header.{lent_start}
use Rattle.rom.proofs.Headers.{wrong_size, no_start, no_format, bad_length, wrong_sum, right_sum}
use Rattle.rom.proofs.header.check_header.Goals as goal

pub returns-then-wrong_rom : goal.returns-then-wrong_rom
returns-then-wrong_rom c = wrong_size _ (rw (← c.spread_of-spread.ensures) (sym c.wrong_rom.ensures ∙ c.if-wrong_rom.true))

pub returns-then-not-known_start : goal.returns-then-not-known_start
returns-then-not-known_start c =
    let sized : wrong_rom (fcode_of c.args.rom.now) ≡ false = rw (← c.spread_of-spread.ensures)
    (sym c.wrong_rom.ensures ∙ c.if-wrong_rom.false) in
    no_start _ sized (sym (lent_start c.args.rom.now)
    ∙ sym c.known_start.ensures ∙ not-true _ c.if-not-known_start.true-raw)

pub returns-then-fcode_byte-ne8 : goal.returns-then-fcode_byte-ne8
returns-then-fcode_byte-ne8 c =
    let sized : wrong_rom (fcode_of c.args.rom.now) ≡ false = rw (← c.spread_of-spread.ensures)
    (sym c.wrong_rom.ensures ∙ c.if-wrong_rom.false) in
    let started : start_of (fcode_of c.args.rom.now) ≡ true = sym (lent_start c.args.rom.now) ∙ sym c.known_start.ensures
    ∙ not-false _ c.if-not-known_start.false-raw in
    no_format _ sized started
    (λ e. c.if-fcode_byte-ne8.true (c.fcode_byte.ensures ∙ rw c.spread_of-spread.ensures e))

pub returns-then-wrong_length : goal.returns-then-wrong_length
returns-then-wrong_length c =
    let sized : wrong_rom (fcode_of c.args.rom.now) ≡ false = rw (← c.spread_of-spread.ensures)
    (sym c.wrong_rom.ensures ∙ c.if-wrong_rom.false) in
    let started : start_of (fcode_of c.args.rom.now) ≡ true = sym (lent_start c.args.rom.now) ∙ sym c.known_start.ensures
    ∙ not-false _ c.if-not-known_start.false-raw in
    let formatted : byte_of (fcode_of c.args.rom.now) 1 ≡ 8 = rw (← c.spread_of-spread.ensures)
    (sym c.fcode_byte.ensures ∙ c.if-fcode_byte-ne8.false) in
    let measured : c.program_length-length.result ≡ length_of (fcode_of c.args.rom.now) = rw (← c.spread_of-spread.ensures)
    c.program_length-length.ensures in
    bad_length _ sized started
    formatted
    (rw (← measured, ← c.spread_of-spread.ensures)
    (sym c.wrong_length.ensures ∙ c.if-wrong_length.true))

pub returns-then-differs : goal.returns-then-differs
returns-then-differs c =
    let sized : wrong_rom (fcode_of c.args.rom.now) ≡ false = rw (← c.spread_of-spread.ensures)
    (sym c.wrong_rom.ensures ∙ c.if-wrong_rom.false) in
    let started : start_of (fcode_of c.args.rom.now) ≡ true = sym (lent_start c.args.rom.now) ∙ sym c.known_start.ensures
    ∙ not-false _ c.if-not-known_start.false-raw in
    let formatted : byte_of (fcode_of c.args.rom.now) 1 ≡ 8 = rw (← c.spread_of-spread.ensures)
    (sym c.fcode_byte.ensures ∙ c.if-fcode_byte-ne8.false) in
    let measured : c.program_length-length.result ≡ length_of (fcode_of c.args.rom.now) = rw (← c.spread_of-spread.ensures)
    c.program_length-length.ensures in
    let held : wrong_length (fcode_of c.args.rom.now) (length_of (fcode_of c.args.rom.now)) ≡ false = rw
    (← measured, ← c.spread_of-spread.ensures) (sym c.wrong_length.ensures ∙ c.if-wrong_length.false) in
    let compared : (let r = (fcode_of c.args.rom.now) in c.differs.result ≡ not (eqb (sum_of r (length_of r)) (checksum_of r))) = rw
    (← measured, ← c.spread_of-spread.ensures, ← c.body_sum.ensures, ← c.fcode_word16.ensures) c.differs.ensures in
    wrong_sum _ sized
    started
    formatted held
    (sym compared ∙ c.if-differs.true)

pub returns : goal.returns
returns c =
    let sized : wrong_rom (fcode_of c.args.rom.now) ≡ false = rw (← c.spread_of-spread.ensures)
    (sym c.wrong_rom.ensures ∙ c.if-wrong_rom.false) in
    let started : start_of (fcode_of c.args.rom.now) ≡ true = sym (lent_start c.args.rom.now) ∙ sym c.known_start.ensures
    ∙ not-false _ c.if-not-known_start.false-raw in
    let formatted : byte_of (fcode_of c.args.rom.now) 1 ≡ 8 = rw (← c.spread_of-spread.ensures)
    (sym c.fcode_byte.ensures ∙ c.if-fcode_byte-ne8.false) in
    let measured : c.program_length-length.result ≡ length_of (fcode_of c.args.rom.now) = rw (← c.spread_of-spread.ensures)
    c.program_length-length.ensures in
    let held : wrong_length (fcode_of c.args.rom.now) (length_of (fcode_of c.args.rom.now)) ≡ false = rw
    (← measured, ← c.spread_of-spread.ensures) (sym c.wrong_length.ensures ∙ c.if-wrong_length.false) in
    let compared : (let r = (fcode_of c.args.rom.now) in c.differs.result ≡ not (eqb (sum_of r (length_of r)) (checksum_of r))) = rw
    (← measured, ← c.spread_of-spread.ensures, ← c.body_sum.ensures, ← c.fcode_word16.ensures) c.differs.ensures in
    right_sum _ sized
    started
    formatted held
    (sym compared ∙ c.if-differs.false)
