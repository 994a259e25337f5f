-- Refusals by the numbers of documents 01 and 02, "Numbers handed back". The definitions of this repository speak of the numbers, and the
-- code of the names. Assumes nothing.
use Rattle.std.specs.Prelude.{ℕ, Result, Ok, Err}
use Rattle.rom.specs.declared.refusal.Refusal.{Refusal}
use Rattle.rom.specs.declared.refusal.Refusal.TheVariants.{WrongRom, UnknownStart, UnknownFormat, WrongLength, WrongChecksum, WrongSize}
use Rattle.rom.specs.declared.refusal.Refusal.TheVariants.{Damaged, CutOff, Unlisted, Undefined, DefinedAlready, TooLow, TooHigh}
use Rattle.rom.specs.declared.refusal.Refusal.TheVariants.{WrongReturns, TooManyCalls, Misplaced, Astray, NoNode, ZeroDivisor, NoWindow}
use Rattle.rom.specs.declared.refusal.Refusal.TheVariants.{NotAligned, WorkExhausted, NotAdjoining, BadName, StoreFull, BadPath, NotFound}
use Rattle.rom.specs.declared.refusal.Refusal.TheVariants.{NoHeights}

abbrev pub refusal_number : Refusal → ℕ
refusal_number WrongRom = 1
refusal_number UnknownStart = 2
refusal_number UnknownFormat = 3
refusal_number WrongLength = 4
refusal_number WrongChecksum = 5
refusal_number WrongSize = 6
refusal_number Damaged = 7
refusal_number CutOff = 10
refusal_number Unlisted = 11
refusal_number Undefined = 12
refusal_number DefinedAlready = 13
refusal_number TooLow = 14
refusal_number TooHigh = 15
refusal_number WrongReturns = 16
refusal_number TooManyCalls = 17
refusal_number Misplaced = 18
refusal_number Astray = 19
refusal_number NoNode = 20
refusal_number ZeroDivisor = 21
refusal_number NoWindow = 22
refusal_number NotAligned = 23
refusal_number WorkExhausted = 24
refusal_number NotAdjoining = 25
refusal_number BadName = 26
refusal_number StoreFull = 27
refusal_number BadPath = 29
refusal_number NotFound = 30
refusal_number NoHeights = 31

-- what is handed back, or the number of its refusal
abbrev pub numbered : {A : Type 0} → Result A Refusal → Result A ℕ
numbered (Ok x) = Ok x
numbered (Err why) = Err (refusal_number why)

-- the number of what may be refused, 0 where it is not
abbrev pub refusal_in : {A : Type 0} → Result A Refusal → ℕ
refusal_in (Ok x) = 0
refusal_in (Err why) = refusal_number why
