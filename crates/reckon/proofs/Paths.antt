-- A plain token's outcome by its code, a law for each way that the work of a token can end. Assumes nothing.
use Prim.Native.Nat.{ℕ, ◌+◌, ◌-◌, ◌≤◌, ◌<◌}
use mathlib.Core.Path.{◌≡◌, refl, ◌∙◌}
use mathlib.Core.Bool.{false}
use mathlib.Core.List.{List, [], ◌∷◌}
use native.Mathlib.Omega.{arith}
use lib.Dec.{eqb}
use lib.ListN.{length}
use borrow.Author.Tests.{lt-ltb, le-ltb}
use Rattle.tokens.specs.Family.{plain}
use Rattle.tokens.specs.Row.{Seen, Result}
use Rattle.tokens.specs.Table.{row_of}
use Rattle.tokens.specs.Code.{code_of, family_in, takes_in, gives_in, return_takes_in, return_gives_in}
use Rattle.state.specs.Stacks.{Stacks, stacks, left_of, seen_of, reckoned_of, plain_of}
use Rattle.tokens.specs.Laws.Rows.{return_results_fit}
use Rattle.reckon.specs.Joints.Fast.{OnData, turned}
use Rattle.reckon.specs.Joints.Turned.{On, Not}
use Rattle.reckon.proofs.Made.{data_made}
use Rattle.state.specs.Joints.Reckoning.{reckoned_as, reckon_of}
use Rattle.rom.specs.Sizes.{data_most, return_most}

module _ (n operand base : ℕ) (s : Stacks) (k : ℕ) (e : code_of n ≡ k) where
  pub low : s.height < takes_in k → reckoned_as 14 s ≡ reckon_of n operand s base
  unfolding reckon_of
  low h = rw (e, lt-ltb _ _ h)

  module _ (l : takes_in k ≤ s.height) where
    pub back_low : s.returns - base < return_takes_in k → reckoned_as 16 s ≡ reckon_of n operand s base
    unfolding reckon_of
    back_low h = rw (e, le-ltb _ _ l, lt-ltb _ _ h)

    module _ (m : return_takes_in k ≤ s.returns - base) where
      pub back_high : return_most < s.returns - return_takes_in k + return_gives_in k → reckoned_as 16 s ≡ reckon_of n operand s base
      unfolding reckon_of
      back_high h = rw (e, le-ltb _ _ l, le-ltb _ _ m, lt-ltb _ _ h)

      module _ (b : s.returns - return_takes_in k + return_gives_in k ≤ return_most) where
        pub high : data_most < s.height - takes_in k + gives_in k → reckoned_as 15 s ≡ reckon_of n operand s base
        unfolding reckon_of
        high h = rw (e, le-ltb _ _ l, le-ltb _ _ m, le-ltb _ _ b, lt-ltb _ _ h)

        pub fine : s.height - takes_in k + gives_in k ≤ data_most → reckoned_as 0 (plain_of n operand s) ≡ reckon_of n operand s base
        unfolding reckon_of
        fine h = rw (e, le-ltb _ _ l, le-ltb _ _ m, le-ltb _ _ b, le-ltb _ _ h)

-- a row with no results, and one with none for the return stack
pub none_given : (s : Seen) (rs : List Result) → length rs ≡ 0 → reckoned_of rs s ≡ []
none_given s [] h = refl
none_given s (r ∷ rs) h = absurd (omega arith)

none_back : (n k : ℕ) (s : Seen) → code_of n ≡ k → family_in k ≡ plain → return_gives_in k ≡ 0
    → reckoned_of (row_of n).return_results s ≡ []
none_back n k s e f g = none_given s (row_of n).return_results (return_results_fit n (rw e f) ∙ rw e g)

-- ---- a token that leaves the return stack alone and has no operand
abbrev pub Bare : ℕ → Type 0
Bare k = (family_in k ≡ plain) × (eqb k 0x0101_0001 ≡ false) × (return_takes_in k ≡ 0) × (return_gives_in k ≡ 0)

module _ (n h b place k : ℕ) (c : List ℕ) (e : code_of n ≡ k) (f : Bare k) (t : h ≤ data_most) (r : b ≤ return_most) where
  pub data_low : h < takes_in k → OnData n c h b place (turned (Not 14) h b place) c
  data_low l = data_made n h b place k e f.0 f.1 t r c 14 h c t (λ operand base bk. low n operand base (stacks c h bk b) k e l)

  module _ (l : takes_in k ≤ h) where
    back_takes : (base : ℕ) → return_takes_in k ≤ b - base
    back_takes base = let z = f.2 in omega arith

    back_fits : b - return_takes_in k + return_gives_in k ≤ return_most
    back_fits = let z = f.2 in let y = f.3 in omega arith

    pub data_high : data_most < h - takes_in k + gives_in k → OnData n c h b place (turned (Not 15) h b place) c
    data_high g =
        data_made n h b place k e f.0 f.1 t r c 15 h c t
        (λ operand base bk. high n operand base (stacks c h bk b) k e l (back_takes base) back_fits g)

    -- d and g are the cells and the height that the code leaves
    pub data_fine : (vs d : List ℕ) (g : ℕ) →
        ((operand : ℕ) (bk : List ℕ) → reckoned_of (row_of n).results (seen_of operand (stacks c h bk b)) ≡ vs)
        → d ≡ left_of c (h - takes_in k) vs → g ≡ h - takes_in k + gives_in k → g ≤ data_most
        → OnData n c h b place (turned On g b (place + 1)) d
    unfolding plain_of left_of
    data_fine vs d g q x y i =
        data_made n h b place k e f.0 f.1 t r c 0 g d i
        (λ operand base bk. rw (x, y) (shown operand bk
        ∙ fine n operand base (stacks c h bk b) k e l (back_takes base) back_fits (rw y at i)))
      where
        same : b ≡ b - return_takes_in k + return_gives_in k
        same = let z = f.2 in let w = f.3 in omega arith

        shown : (operand : ℕ) (bk : List ℕ) → reckoned_as 0 (stacks (left_of c (h - takes_in k) vs) (h - takes_in k + gives_in k) bk b)
            ≡ reckoned_as 0 (plain_of n operand (stacks c h bk b))
        shown operand bk = rw (e, q operand bk, none_back n k (seen_of operand (stacks c h bk b)) e f.0 f.3, ← same)
