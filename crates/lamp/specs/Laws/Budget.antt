-- A budget read digit by digit. Assumes nothing.
use Rattle.std.specs.Prelude.{ℕ, ◌+◌, ◌-◌, ◌*◌, ◌≤◌, ◌<◌, List, [], ◌∷◌, ◌≡◌, refl, length, get_or, drop, Some, None}
use Rattle.std.proofs.Math.Numerals.{add-one}
use Rattle.std.proofs.Common.{arith, drop_of_length-le}
use Rattle.std.proofs.Math.Seq.{drop-cons}
use borrow.Author.Tests.{le-leb, lt-leb, lt-ltb, le-ltb}
use Rattle.rom.specs.Words.{letters_of}
use Rattle.lamp.specs.Budget.{most, steps_from, budget_of}

module _ (w : List ℕ) (k sum : ℕ) (h : k < length w) where
  pub digit_low : get_or w k 0 < 0x30 → None ≡ steps_from sum (drop k w)
  unfolding steps_from
  digit_low l = rw (drop-cons w k 0 h, lt-leb 0x30 (get_or w k 0) l)

  module _ (a : 0x30 ≤ get_or w k 0) where
    pub digit_high : 0x39 < get_or w k 0 → None ≡ steps_from sum (drop k w)
    unfolding steps_from
    digit_high l = rw (drop-cons w k 0 h, le-leb 0x30 (get_or w k 0) a, lt-leb (get_or w k 0) 0x39 l)

    module _ (b : get_or w k 0 ≤ 0x39) where
      pub too_many : most < sum * 10 + (get_or w k 0 - 0x30) → None ≡ steps_from sum (drop k w)
      unfolding steps_from
      too_many l =
          rw (
            drop-cons w k 0 h,
            le-leb 0x30 (get_or w k 0) a,
            le-leb (get_or w k 0) 0x39 b,
            lt-ltb most (sum * 10 + (get_or w k 0 - 0x30))
                l,
          )

      pub digit_more : sum * 10 + (get_or w k 0 - 0x30) ≤ most
          → steps_from (sum * 10 + (get_or w k 0 - 0x30)) (drop (k + 1) w) ≡ steps_from sum (drop k w)
      unfolding steps_from
      digit_more l =
          rw (
            drop-cons w k 0 h,
            le-leb 0x30 (get_or w k 0) a,
            le-leb (get_or w k 0) 0x39 b,
            le-ltb most (sum * 10 + (get_or w k 0 - 0x30)) l,
            add-one k,
          )

pub digits_end : (w : List ℕ) (k sum : ℕ) → length w ≤ k → Some sum ≡ steps_from sum (drop k w)
unfolding steps_from
digits_end w k sum h = rw (drop_of_length-le w {i = k} h)

pub budget_none : (w : List ℕ) → length w ≡ 0 → None ≡ budget_of w
budget_none [] e = refl
budget_none (b ∷ bs) e = absurd (omega arith)

pub budget_some : (w : List ℕ) → (length w ≡ 0 → ⊥) → steps_from 0 w ≡ budget_of w
budget_some [] n = absurd (n refl)
budget_some (b ∷ bs) n = refl

-- words of every kind, run
usual : budget_of (letters_of "100000") ≡ Some 100000
unfolding steps_from letters_of
usual = refl

zeros_in_front : budget_of (letters_of "007") ≡ Some 7
unfolding steps_from letters_of
zeros_in_front = refl

the_most : budget_of (letters_of "4294967295") ≡ Some 4294967295
unfolding steps_from letters_of
the_most = refl

one_more : budget_of (letters_of "4294967296") ≡ None
unfolding steps_from letters_of
one_more = refl

a_sign : budget_of (letters_of "-1") ≡ None
unfolding steps_from letters_of
a_sign = refl
