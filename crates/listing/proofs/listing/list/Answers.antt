use Rattle.std.proofs.Common.{ap, rules}
use Rattle.rom.specs.Refusal.{numbered}
use Rattle.rom.specs.Spread.{fcode_of}
use Rattle.listing.specs.Laws.Listing.{wrong_text_lem, wrong_buffer_lem, wrong_marks, wrong_work, wrong_store, refused, passed}
use Rattle.listing.specs.Laws.Listing.{judged_as_lem, passed_header, and_inside}
use Rattle.listing.proofs.listing.list.Goals as goal

pub returns-then-text-ne-TEXT_SIZE : goal.returns-then-text-ne-TEXT_SIZE
returns-then-text-ne-TEXT_SIZE c =
    let a = c.args in
    let told =
    and_inside (fcode_of a.rom.now) a.marks.now a.work.now a.store.now a.budget a.text.now
    (wrong_text_lem (fcode_of a.rom.now) a.marks.now a.work.now a.store.now a.budget a.text.now c.if-text-ne-TEXT_SIZE.true) in
    record { lists = told.0; upper_bound = told.1 }

pub returns-then-marks-ne-MARKS_SIZE : goal.returns-then-marks-ne-MARKS_SIZE
returns-then-marks-ne-MARKS_SIZE c =
    let a = c.args in
    let told =
    and_inside (fcode_of a.rom.now) a.marks.now a.work.now a.store.now a.budget a.text.now
    (wrong_buffer_lem (fcode_of a.rom.now) a.marks.now a.work.now a.store.now a.budget a.text.now c.if-text-ne-TEXT_SIZE.false
    (wrong_marks a.marks.now a.work.now a.store.now c.if-marks-ne-MARKS_SIZE.true) _ _ c.refused_text.ensures) in
    record { lists = told.0; upper_bound = told.1 }

pub returns-then-work-ne-WORK_SIZE : goal.returns-then-work-ne-WORK_SIZE
returns-then-work-ne-WORK_SIZE c =
    let a = c.args in
    let told =
    and_inside (fcode_of a.rom.now) a.marks.now a.work.now a.store.now a.budget a.text.now
    (wrong_buffer_lem (fcode_of a.rom.now) a.marks.now a.work.now a.store.now a.budget a.text.now c.if-text-ne-TEXT_SIZE.false
    (wrong_work a.marks.now a.work.now a.store.now c.if-marks-ne-MARKS_SIZE.false c.if-work-ne-WORK_SIZE.true) _ _
    c.refused_text-then-work-ne-WORK_SIZE.ensures) in
    record { lists = told.0; upper_bound = told.1 }

pub returns-then-store-ne-STORE_SIZE : goal.returns-then-store-ne-STORE_SIZE
returns-then-store-ne-STORE_SIZE c =
    let a = c.args in
    let told =
    and_inside (fcode_of a.rom.now) a.marks.now a.work.now a.store.now a.budget a.text.now
    (wrong_buffer_lem (fcode_of a.rom.now) a.marks.now a.work.now a.store.now a.budget a.text.now c.if-text-ne-TEXT_SIZE.false
    (wrong_store a.marks.now a.work.now a.store.now c.if-marks-ne-MARKS_SIZE.false c.if-work-ne-WORK_SIZE.false
    c.if-store-ne-STORE_SIZE.true) _ _ c.refused_text-then-store-ne-STORE_SIZE.ensures) in
    record { lists = told.0; upper_bound = told.1 }

-- the tests are left to the search, so that a size that is not tested is refused here
pub list_run-requires : goal.list_run-requires
list_run-requires c =
    let a = c.args in (
      passed_header (judged_as_lem (fcode_of a.rom.now) a.marks.now _ c.screen.ensures (ap numbered c.in-Ok.is)),
      search rules,
      search rules,
      search rules,
    )

pub returns-in-Ok : goal.returns-in-Ok
returns-in-Ok c =
    let a = c.args in
    let p = judged_as_lem (fcode_of a.rom.now) a.marks.now _ c.screen.ensures (ap numbered c.in-Ok.is) in
    let told =
    and_inside (fcode_of a.rom.now) a.marks.now a.work.now a.store.now a.budget a.text.now
    (passed (fcode_of a.rom.now) a.marks.now a.work.now a.store.now a.budget a.text.now c.if-text-ne-TEXT_SIZE.false
    c.if-marks-ne-MARKS_SIZE.false
    c.if-work-ne-WORK_SIZE.false c.if-store-ne-STORE_SIZE.false _ p _ _ _ _ c.list_run.ensures) in
    record { lists = told.0; upper_bound = told.1 }

pub returns-in-Err : goal.returns-in-Err
returns-in-Err c =
    let a = c.args in
    let p = judged_as_lem (fcode_of a.rom.now) a.marks.now _ c.screen.ensures (ap numbered c.in-Err.is) in
    let told =
    and_inside (fcode_of a.rom.now) a.marks.now a.work.now a.store.now a.budget a.text.now
    (refused (fcode_of a.rom.now) a.marks.now a.work.now a.store.now a.budget a.text.now c.if-text-ne-TEXT_SIZE.false
    c.if-marks-ne-MARKS_SIZE.false
    c.if-work-ne-WORK_SIZE.false c.if-store-ne-STORE_SIZE.false _ _ p _ _
    (search rules)) in
    record { lists = told.0; upper_bound = told.1 }
