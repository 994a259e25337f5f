-- Refusals by their numbers: none is 0, and no two have the same. Assumes nothing.
use Rattle.std.specs.Prelude.{ℕ, ◌≡◌, refl, List, [], ◌∷◌}
use Rattle.std.proofs.Common.{sym, ap, ◌∙◌, arith}
use Rattle.cells.specs.Choice.{find}
use Rattle.rom.specs.Refusal.{refusal_number}
use Rattle.rom.specs.declared.refusal.Refusal.{Refusal}
use Rattle.rom.specs.declared.refusal.Refusal.TheVariants.{WrongRom, UnknownStart, UnknownFormat, WrongLength, WrongChecksum, WrongSize}
use Rattle.rom.specs.declared.refusal.Refusal.TheVariants.{Damaged, CutOff, Unlisted, Undefined, DefinedAlready, TooLow, TooHigh}
use Rattle.rom.specs.declared.refusal.Refusal.TheVariants.{WrongReturns, TooManyCalls, Misplaced, Astray, NoNode, ZeroDivisor, NoWindow}
use Rattle.rom.specs.declared.refusal.Refusal.TheVariants.{NotAligned, WorkExhausted, NotAdjoining, BadName, StoreFull, BadPath, NotFound}
use Rattle.rom.specs.declared.refusal.Refusal.TheVariants.{NoHeights}

pub refused_so : (why : Refusal) → refusal_number why ≡ 0 → ⊥
refused_so WrongRom e = omega arith
refused_so UnknownStart e = omega arith
refused_so UnknownFormat e = omega arith
refused_so WrongLength e = omega arith
refused_so WrongChecksum e = omega arith
refused_so WrongSize e = omega arith
refused_so Damaged e = omega arith
refused_so CutOff e = omega arith
refused_so Unlisted e = omega arith
refused_so Undefined e = omega arith
refused_so DefinedAlready e = omega arith
refused_so TooLow e = omega arith
refused_so TooHigh e = omega arith
refused_so WrongReturns e = omega arith
refused_so TooManyCalls e = omega arith
refused_so Misplaced e = omega arith
refused_so Astray e = omega arith
refused_so NoNode e = omega arith
refused_so ZeroDivisor e = omega arith
refused_so NoWindow e = omega arith
refused_so NotAligned e = omega arith
refused_so WorkExhausted e = omega arith
refused_so NotAdjoining e = omega arith
refused_so BadName e = omega arith
refused_so StoreFull e = omega arith
refused_so BadPath e = omega arith
refused_so NotFound e = omega arith
refused_so NoHeights e = omega arith

abbrev names : List (ℕ × Refusal)
names =
    (1, WrongRom) ∷
    (2, UnknownStart) ∷
    (3, UnknownFormat) ∷
    (4, WrongLength) ∷
    (5, WrongChecksum) ∷
    (6, WrongSize) ∷
    (7, Damaged) ∷
    (10, CutOff) ∷
    (11, Unlisted) ∷
    (12, Undefined) ∷
    (13, DefinedAlready) ∷
    (14, TooLow) ∷
    (15, TooHigh) ∷
    (16, WrongReturns) ∷
    (17, TooManyCalls) ∷
    (18, Misplaced) ∷
    (19, Astray) ∷
    (20, NoNode) ∷
    (21, ZeroDivisor) ∷
    (22, NoWindow) ∷
    (23, NotAligned) ∷
    (24, WorkExhausted) ∷
    (25, NotAdjoining) ∷
    (26, BadName) ∷
    (27, StoreFull) ∷
    (29, BadPath) ∷
    (30, NotFound) ∷
    (31, NoHeights) ∷
    []

abbrev named : ℕ → Refusal
named n = find names NoHeights n

named_again : (why : Refusal) → named (refusal_number why) ≡ why
named_again WrongRom = refl
named_again UnknownStart = refl
named_again UnknownFormat = refl
named_again WrongLength = refl
named_again WrongChecksum = refl
named_again WrongSize = refl
named_again Damaged = refl
named_again CutOff = refl
named_again Unlisted = refl
named_again Undefined = refl
named_again DefinedAlready = refl
named_again TooLow = refl
named_again TooHigh = refl
named_again WrongReturns = refl
named_again TooManyCalls = refl
named_again Misplaced = refl
named_again Astray = refl
named_again NoNode = refl
named_again ZeroDivisor = refl
named_again NoWindow = refl
named_again NotAligned = refl
named_again WorkExhausted = refl
named_again NotAdjoining = refl
named_again BadName = refl
named_again StoreFull = refl
named_again BadPath = refl
named_again NotFound = refl
named_again NoHeights = refl

pub same_refusal : (a b : Refusal) → refusal_number a ≡ refusal_number b → a ≡ b
same_refusal a b e = sym (named_again a) ∙ ap named e ∙ named_again b
