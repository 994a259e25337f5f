-- A token on the stacks alone, refused or carried out, as the code in place goes. Assumes nothing.
use Rattle.std.specs.Prelude.{ℕ, ◌+◌, ◌-◌, Bool, ltb, eqb}
use Rattle.cells.specs.Choice.{pick}
use Rattle.rom.specs.Sizes.{data_most}
use Rattle.tokens.specs.Code.{code_of, takes_in, gives_in}
use Rattle.state.specs.Stacks.{Stacks, top_of, plain_of, back_trouble, too_deep, picked_of, rolled_of, doubled_of}

-- refusals 14, 15, "data stack too low; too high"
abbrev pub too_low : ℕ → ℕ → Bool
too_low code height = ltb height (takes_in code)

abbrev pub too_high : ℕ → ℕ → Bool
too_high code height = ltb data_most (height - takes_in code + gives_in code)

-- what became of the stacks: 0, or why the token is refused, with the stacks then
pub record Reckoned : Type 0 where
  pub why : ℕ
  pub stacks : Stacks

abbrev pub reckoned_as : ℕ → Stacks → Reckoned
reckoned_as why s = record { why = why; stacks = s }

-- a plain token, in the order of the refusals: 14, 16, 15
unfoldable pub reckon_of : ℕ → ℕ → Stacks → ℕ → Reckoned
reckon_of n operand s base =
    pick (too_low (code_of n) s.height) (reckoned_as 14 s)
    (pick (back_trouble (code_of n) s.returns base) (reckoned_as 16 s)
    (pick (too_high (code_of n) s.height) (reckoned_as 15 s) (reckoned_as 0 (plain_of n operand s))))

-- u/mod: refusal 21, "divisor zero"
abbrev pub divide_of : Stacks → Reckoned
divide_of s = pick (ltb s.height 2) (reckoned_as 14 s)
    (pick (eqb (top_of s.cells s.height 0) 0) (reckoned_as 21 s) (reckoned_as 0 (plain_of 0x2B 0 s)))

abbrev pub pick_up_of : Stacks → Reckoned
pick_up_of s = pick (too_deep s) (reckoned_as 14 s) (reckoned_as 0 (picked_of s))

abbrev pub roll_up_of : Stacks → Reckoned
roll_up_of s = pick (too_deep s) (reckoned_as 14 s) (reckoned_as 0 (rolled_of s))

abbrev pub maybe_of : Stacks → Reckoned
maybe_of s =
    pick (ltb s.height 1) (reckoned_as 14 s)
    (pick (eqb (top_of s.cells s.height 0) 0) (reckoned_as 0 s)
    (pick (ltb data_most (s.height + 1)) (reckoned_as 15 s) (reckoned_as 0 (doubled_of s))))
