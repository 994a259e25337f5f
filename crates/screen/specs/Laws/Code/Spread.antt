-- Which bytes the code judges: a ROM that is not spread as it is lent, and of any other the FCode bytes of its program, laid one behind the
-- other. They are judged as all its FCode bytes are. Assumes nothing.
use Rattle.std.specs.Prelude.{ℕ, ◌≤◌, ◌≡◌, refl, List, ◌++◌, length, take, drop}
use Rattle.std.proofs.Common.{sym, ap, ◌∙◌, subst, arith, take_at, length-take-le}
use Rattle.rom.specs.Header.{length_of, header_of}
use Rattle.rom.specs.Spread.{spread_of, view_of, fcode_of, laid_on}
use Rattle.rom.specs.Laws.Header.{header_facts}
use Rattle.rom.specs.Laws.Spread.{laid_length, laid_all}
use Rattle.rom.specs.Laws.Past.{cut_alike}
use Rattle.rom.specs.declared.spread.Spread.{Spread}
use Rattle.rom.specs.declared.spread.Spread.TheVariants.{One, Two, Four}
use Rattle.tokens.specs.Laws.Past.{SamePrograms, programs_back, alike_programs}

-- what a room holds once so many FCode bytes of a spread ROM are laid into its front
abbrev pub room_with : Spread → List ℕ → ℕ → List ℕ → List ℕ
room_with One rom n room = room
room_with Two rom n room = laid_on (take n room) (view_of Two rom) ++ drop n room
room_with Four rom n room = laid_on (take n room) (view_of Four rom) ++ drop n room

-- the ROM itself, or the front of the room
abbrev pub judged_bytes : Spread → List ℕ → ℕ → List ℕ → List ℕ
judged_bytes One rom n room = rom
judged_bytes Two rom n room = take n room
judged_bytes Four rom n room = take n room

-- as many FCode bytes as the program has are all that is asked of a ROM
laid_same : (fcode room : List ℕ) (n : ℕ) → n ≤ length room → n ≡ length_of fcode → header_of fcode ≡ 0
    → SamePrograms (take n (laid_on (take n room) fcode ++ drop n room)) fcode
laid_same fcode room n l e h =
    let m = (header_facts fcode h).most in
    let k : length (take n room) ≡ n = length-take-le n room l in
    let front = take_at (laid_on (take n room) fcode) (drop n room) n (laid_length (take n room) fcode ∙ k) in
    let all = laid_all (take n room) fcode (omega arith) in
    subst (λ bytes. SamePrograms bytes fcode) (sym (front ∙ all ∙ ap (λ j. take j fcode) (k ∙ e)))
    (programs_back (alike_programs (cut_alike fcode h)))

bytes_same : (spread : Spread) (rom room : List ℕ) (n : ℕ) → n ≤ length room → n ≡ length_of (view_of spread rom)
    → header_of (view_of spread rom) ≡ 0
    → SamePrograms (judged_bytes spread rom n (room_with spread rom n room)) (view_of spread rom)
bytes_same One rom room n l e h = record { header = refl; length = refl; wide = refl; tokens = λ w p. refl }
bytes_same Two rom room n l e h = laid_same (view_of Two rom) room n l e h
bytes_same Four rom room n l e h = laid_same (view_of Four rom) room n l e h

-- by what the code has learnt: its spread is the ROM's, the room holds the FCode bytes, and the program lies there
pub program_same : {spread : Spread} {laid program : List ℕ} {n : ℕ} (rom room : List ℕ) → spread ≡ spread_of rom
    → laid ≡ room_with spread rom n room → program ≡ judged_bytes spread rom n laid → n ≤ length room → n ≡ length_of (fcode_of rom)
    → header_of (fcode_of rom) ≡ 0 → SamePrograms program (fcode_of rom)
program_same {spread} {n = n} rom room s r p l e h =
    subst (λ bytes. SamePrograms bytes (fcode_of rom))
    (sym (p ∙ ap (λ m. judged_bytes spread rom n m) r ∙ ap (λ s. judged_bytes s rom n (room_with s rom n room)) s))
    (bytes_same (spread_of rom) rom room n l e h)
