use Rattle.std.proofs.Common.{ℕ, ◌≡◌, ◌≤◌, ◌<◌, List, length, sym, ap, refl, ◌∙◌, le-leb, arith, rules, Err, Result}
use borrow.Author.Tests.{lt-leb}
use Rattle.rom.specs.Refusal.{refusal_number}
use Rattle.rom.specs.Laws.Refusal.{refused_so}
use Rattle.rom.specs.Sizes.{marks_size, rom_most}
use Rattle.rom.specs.Header.{length_of, header_of}
use Rattle.rom.specs.Spread.{view_of, fcode_of, spread_of}
use Rattle.rom.specs.declared.spread.Spread.{Spread}
use Rattle.screen.specs.Promise.{Promised}
use Rattle.screen.specs.Laws.Found.Model.{room_of}
use Rattle.screen.specs.Laws.Found.Screen.{screened, judged_of}
use Rattle.screen.specs.Laws.Code.Screen.{Judged, judged_with, screen_size, screen_header, screen_judged}
use Rattle.screen.proofs.Exact.Exactly.{promise_by}
use Rattle.screen.proofs.screening.screen.Goals as goal

-- ---- the smallest tables that have room for a program of a length
room_256 : (n : ℕ) → n ≤ 256 → 256 ≡ room_of n
room_256 n most = rw (le-leb _ _ most)

room_1024 : (n : ℕ) → 256 < n → n ≤ 1024 → 1024 ≡ room_of n
room_1024 n above most = rw (lt-leb _ _ above, le-leb _ _ most)

room_4096 : (n : ℕ) → 1024 < n → n ≤ 4096 → 4096 ≡ room_of n
room_4096 n above most =
    let a : 256 < n = omega arith in
    rw (lt-leb _ _ a, lt-leb _ _ above, le-leb _ _ most)

room_16384 : (n : ℕ) → 4096 < n → n ≤ 16384 → 16384 ≡ room_of n
room_16384 n above most =
    let a : 256 < n = omega arith in
    let b : 1024 < n = omega arith in
    rw (lt-leb _ _ a, lt-leb _ _ b, lt-leb _ _ above, le-leb _ _ most)

room_most : (n : ℕ) → 16384 < n → rom_most ≡ room_of n
room_most n above =
    let a : 256 < n = omega arith in
    let b : 1024 < n = omega arith in
    let d : 4096 < n = omega arith in
    rw (lt-leb _ _ a, lt-leb _ _ b, lt-leb _ _ d, lt-leb _ _ above)

-- ---- behind the tests of buffer and header, with the length
module _ (rom marks : List ℕ) (buffer : length marks ≡ marks_size) (header : 0 ≡ header_of (fcode_of rom)) where
  -- a table that has room for the program
  ready : {spread : Spread} {n : ℕ} → spread ≡ spread_of rom → n ≡ length_of (view_of spread rom)
      → (room : ℕ) → room ≡ room_of n → Judged (fcode_of rom) n marks room
  ready s l room r = judged_with _ _ _ _ header refl (l ∙ ap (λ s. length_of (view_of s rom)) s) buffer r

  -- the promise is kept by what judges the program
  kept : {v : Result (Unit {0}) ℕ} {m : List ℕ} → screened v m ≡ judged_of (fcode_of rom) marks → Promised (fcode_of rom) marks v m
  kept e = promise_by _ _ _ _ (e ∙ screen_judged (fcode_of rom) marks buffer (sym header))

pub returns-then-marks-ne-MARKS_SIZE : goal.returns-then-marks-ne-MARKS_SIZE
returns-then-marks-ne-MARKS_SIZE c = promise_by _ _ _ _ (screen_size (fcode_of c.args.rom.now) c.args.marks.now
    c.if-marks-ne-MARKS_SIZE.true)

pub returns-in_err-check_header : goal.returns-in_err-check_header
returns-in_err-check_header c =
    let why = c.in_err-check_header.field-0.0 in
    let is : c.from_residual.result ≡ Err why = search rules in
    rw is (promise_by _ _ _ _ (screen_header (fcode_of c.args.rom.now) c.args.marks.now (refusal_number why) (search rules)
    c.in_err-check_header.ensures (refused_so why)))

-- that the buffer has its size, and the tables room, is left to the search, so that a size that is not tested is refused here
pub judge_with-requires : goal.judge_with-requires
judge_with-requires c =
    ready c.args.rom.now c.args.marks.now (search rules) c.in_ok-check_header.ensures c.spread_of.ensures c.program_length-length.ensures _
    (room_256 c.program_length-length.result (search rules))

pub judge_with-requires-then-length-le1024 : goal.judge_with-requires-then-length-le1024
judge_with-requires-then-length-le1024 c =
    ready c.args.rom.now c.args.marks.now (search rules) c.in_ok-check_header.ensures c.spread_of.ensures c.program_length-length.ensures _
    (room_1024 c.program_length-length.result (search rules) (search rules))

pub judge_with-requires-then-length-le4096 : goal.judge_with-requires-then-length-le4096
judge_with-requires-then-length-le4096 c =
    ready c.args.rom.now c.args.marks.now (search rules) c.in_ok-check_header.ensures c.spread_of.ensures c.program_length-length.ensures _
    (room_4096 c.program_length-length.result (search rules) (search rules))

pub judge_with-requires-then-length-le16384 : goal.judge_with-requires-then-length-le16384
judge_with-requires-then-length-le16384 c =
    ready c.args.rom.now c.args.marks.now (search rules) c.in_ok-check_header.ensures c.spread_of.ensures c.program_length-length.ensures _
    (room_16384 c.program_length-length.result (search rules) (search rules))

pub judge_with-requires-2 : goal.judge_with-requires-2
judge_with-requires-2 c =
    ready c.args.rom.now c.args.marks.now (search rules) c.in_ok-check_header.ensures c.spread_of.ensures c.program_length-length.ensures _
    (room_most c.program_length-length.result (search rules))

pub returns-then-length-le256 : goal.returns-then-length-le256
returns-then-length-le256 c =
    kept c.args.rom.now c.args.marks.now (search rules) c.in_ok-check_header.ensures c.judge_with.ensures

pub returns-then-length-le1024 : goal.returns-then-length-le1024
returns-then-length-le1024 c =
    kept c.args.rom.now c.args.marks.now (search rules) c.in_ok-check_header.ensures c.judge_with-then-length-le1024.ensures

pub returns-then-length-le4096 : goal.returns-then-length-le4096
returns-then-length-le4096 c =
    kept c.args.rom.now c.args.marks.now (search rules) c.in_ok-check_header.ensures c.judge_with-then-length-le4096.ensures

pub returns-then-length-le16384 : goal.returns-then-length-le16384
returns-then-length-le16384 c =
    kept c.args.rom.now c.args.marks.now (search rules) c.in_ok-check_header.ensures c.judge_with-then-length-le16384.ensures

pub returns : goal.returns
returns c =
    kept c.args.rom.now c.args.marks.now (search rules) c.in_ok-check_header.ensures c.judge_with-2.ensures
