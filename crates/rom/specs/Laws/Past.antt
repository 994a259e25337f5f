-- "Bytes past the length are ignored": what the header and the bytes of a ROM say is the same in two that differ in such bytes alone.
-- Assumes nothing.
use Rattle.std.specs.Prelude.{◌≡◌, ℕ, ◌+◌, ◌-◌, ◌<◌, ◌≤◌, Bool, true, false, List, length, take, drop, slice_index}
use native.Mathlib.Omega.{arith}
use Rattle.std.proofs.Math.Decide.{dec_le}
use Rattle.std.proofs.Common.{sym, ◌∙◌, length-take, length-drop, length-take-le, ext_get_or, get_or-take, get_or-drop}
use Rattle.std.proofs.Math.Path.{subst}
use borrow.Author.Tests.{le-ltb}
use Rattle.cells.specs.Choice.{pick}
use Rattle.rom.specs.Sizes.{rom_least, first_place}
use Rattle.rom.specs.Bytes.{byte_of, word16_of, word32_of}
use Rattle.rom.specs.Branch.{offset_of, aim_of}
use Rattle.rom.specs.Sum.{program_of, sum_of}
use Rattle.rom.specs.Spread.{fcode_most}
use Rattle.rom.specs.Header.{wide_of, length_of, header_of}
use Rattle.rom.specs.Laws.Header.{Header, facts_by}
use Rattle.rom.specs.Alike.{SameBelow, AlikeTo, Alike}

-- the bytes from one place up to another are the same
abbrev pub SameFrom : ℕ → ℕ → List ℕ → List ℕ → Type 0
SameFrom from size rom other = (k : ℕ) → from ≤ k → k < size → byte_of rom k ≡ byte_of other k

pub same_back : (from size : ℕ) (rom other : List ℕ) → SameFrom from size rom other → SameFrom from size other rom
same_back from size rom other same k h l = sym (same k h l)

-- below a place all are
pub same_all : (size : ℕ) (rom other : List ℕ) → SameBelow size rom other → SameFrom 0 size rom other
same_all size rom other same k h l = same k l

module _ (from size : ℕ) (rom other : List ℕ) (same : SameFrom from size rom other) where
  pub same_word16 : (at : ℕ) → from ≤ at → at + 2 ≤ size → word16_of rom at ≡ word16_of other at
  same_word16 at h l = rw (same at (omega arith) (omega arith), same (at + 1) (omega arith) (omega arith))

  pub same_word32 : (at : ℕ) → from ≤ at → at + 4 ≤ size → word32_of rom at ≡ word32_of other at
  same_word32 at h l =
      rw (
        same at (omega arith) (omega arith),
        same (at + 1) (omega arith) (omega arith),
        same (at + 2) (omega arith) (omega arith),
        same (at + 3) (omega arith) (omega arith),
      )

  pub same_offset : (wide : Bool) (at : ℕ) → from ≤ at → at + pick wide 2 1 ≤ size → offset_of rom wide at ≡ offset_of other wide at
  same_offset true at h l = same_word16 at h l
  same_offset false at h l = same at (omega arith) (omega arith)

  pub same_aim : (length : ℕ) (wide : Bool) (at : ℕ) → from ≤ at → at + pick wide 2 1 ≤ size
      → aim_of rom length wide at ≡ aim_of other length wide at
  unfolding aim_of
  same_aim length wide at h l = rw (same_offset wide at h l)

  module _ (here : size ≤ length rom) (there : size ≤ length other) where
    -- a part that ends before the place
    pub same_part : (start count : ℕ) → from ≤ start → start + count ≤ size → take count (drop start rom) ≡ take count (drop start other)
    same_part start count f l =
        ext_get_or 0 (take count (drop start rom)) (take count (drop start other)) (long rom (omega arith) ∙ sym (long other (omega arith)))
        (λ i h.
        let n = long rom (omega arith) in
        at rom i (omega arith) ∙ same (start + i) (omega arith) (omega arith) ∙ sym (at other i (omega arith)))
      where
        long : (m : List ℕ) → start + count ≤ length m → length (take count (drop start m)) ≡ count
        long m h = rw (length-take count (drop start m), length-drop start m) (omega arith)

        at : (m : List ℕ) (i : ℕ) → i < count → slice_index (take count (drop start m)) i ≡ slice_index m (start + i)
        at m i h = get_or-take count (drop start m) i 0 h ∙ get_or-drop start m i 0

    pub same_sum : from ≤ first_place → sum_of rom size ≡ sum_of other size
    unfolding sum_of
    same_sum f = rw same_program
      where
        same_program : program_of rom size ≡ program_of other size
        same_program =
            elim (dec_le first_place size) [
              | yes l ↦ same_part first_place (size - first_place) f (omega arith)
              | no l ↦ let z : size - first_place ≡ 0 = omega arith in rw z
            ]

pub alike_to_back : {size : ℕ} {rom other : List ℕ} → AlikeTo size rom other → AlikeTo size other rom
alike_to_back a =
    record {
      same = λ k l. sym (a.same k l);
      start = sym a.start;
      least = (a.least.1, a.least.0);
      most = (a.most.1, a.most.0);
      within = (a.within.1, a.within.0);
    }

-- and below any place that is not higher
pub alike_below : {n size : ℕ} {rom other : List ℕ} → n ≤ size → AlikeTo size rom other → AlikeTo n rom other
alike_below l a =
    let w = a.within in
    record {
      same = λ k h. a.same k (omega arith);
      start = a.start;
      least = a.least;
      most = a.most;
      within = (omega arith, omega arith);
    }

-- the header's bytes tell the length
length_told : (rom other : List ℕ) → SameBelow rom_least rom other → length_of rom ≡ length_of other
length_told rom other h = same_word32 0 rom_least rom other (same_all rom_least rom other h) 4 (omega arith) (omega arith)

module _ {rom other : List ℕ} (a : Alike rom other) where
  pub same_length : length_of rom ≡ length_of other
  same_length = length_told rom other a.header

  pub same_wide : wide_of rom ≡ wide_of other
  same_wide = rw (a.header 0 (omega arith))

  pub alike_back : Alike other rom
  alike_back =
      let p = a.program in
      record {
        header = λ k l. sym (a.header k l);
        program =
            subst (λ n. AlikeTo n other rom) (length_told rom other a.header)
            (record {
              same = λ k l. sym (p.same k l);
              start = sym p.start;
              least = (p.least.1, p.least.0);
              most = (p.most.1, p.most.0);
              within = (p.within.1, p.within.0);
            });
      }

  -- neither is refused with 1, or with 4 for a length above the ROM, and the rest is told by bytes that are the same
  pub same_header : header_of rom ≡ header_of other
  unfolding header_of
  same_header =
      let p = a.program in
      let e = length_told rom other a.header in
      let n : length_of other ≤ length other = subst (λ n. n ≤ length other) e p.within.1 in
      rw (
        le-ltb (length rom) rom_least p.least.0,
        le-ltb (fcode_most rom) (length rom) p.most.0,
        le-ltb (length rom) (length_of rom) p.within.0,
        le-ltb (length other) rom_least p.least.1,
        le-ltb (fcode_most other) (length other) p.most.1,
        le-ltb (length other) (length_of other) n,
        same_sum 0 (length_of rom) rom other (same_all (length_of rom) rom other p.same) p.within.0 p.within.1 (omega arith),
        e,
        a.header 0 (omega arith),
        a.header 1 (omega arith),
        same_word16 0 rom_least rom other (same_all rom_least rom other a.header) 2 (omega arith) (omega arith),
      )

-- ---- what is left of a ROM without the bytes past a place, and past its length where it has a good header
pub cut_to : (size : ℕ) (rom : List ℕ) → rom_least ≤ size → size ≤ length rom → length rom ≤ fcode_most rom
    → AlikeTo size rom (take size rom)
cut_to size rom h l f =
    let n : length (take size rom) ≡ size = length-take-le size rom l in
    let m : fcode_most (take size rom) ≡ fcode_most rom = rw (← below 0 (omega arith)) in
    record {
      same = below;
      start = below 0 (omega arith);
      least = (omega arith, omega arith);
      most = (f, omega arith);
      within = (l, omega arith);
    }
  where
    below : SameBelow size rom (take size rom)
    below k l = sym (get_or-take size rom k 0 l)

pub cut_alike : (rom : List ℕ) → header_of rom ≡ 0 → Alike rom (take (length_of rom) rom)
unfolding header_of
cut_alike rom e =
    let h : Header rom = facts_by rom _ e in
    let p = cut_to (length_of rom) rom (omega arith) h.most h.fits in
    record { header = λ k l. p.same k (omega arith); program = p }
