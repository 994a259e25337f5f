-- A token in place, on the cells, the heights and the place alone, and how it agrees with the step of the whole state, whatever the rest of
-- it is. Assumes nothing.
use Rattle.std.specs.Prelude.{ℕ, ◌+◌, ◌≤◌, ◌<◌, ◌≡◌, Bool, List, length}
use Rattle.cells.specs.Choice.{pick}
use Rattle.rom.specs.Bytes.{byte_of}
use Rattle.state.specs.Joints.Hot.{Cold as IsCold}
use Rattle.state.specs.Stacks.{stacks}
use Rattle.state.specs.State.{moved, base_of}
use Rattle.state.specs.Scene.{turn, scene}
use Rattle.state.specs.Step.{token_turn}
use Rattle.rom.specs.Sizes.{data_most, return_most}
use Rattle.state.specs.declared.state.State.{State}
use Rattle.state.specs.Answer.{Answer, Going, Refused}
use Rattle.reckon.specs.Joints.Turned.{Fared, On, Cold, Not, Turned}

-- a state with the cells, the heights and the place that are held apart from it
abbrev pub packed_fast : State → List ℕ → ℕ → List ℕ → ℕ → ℕ → State
packed_fast st c h k b place = moved st (stacks c h k b) place

-- the part of a state that a token in place goes by
pub record Goes (st : State) (size : ℕ) (wide : Bool) (base : ℕ) : Type 0 where
  pub of_size : st.length ≡ size
  pub of_width : st.wide ≡ wide
  pub of_base : base_of st.calls ≡ base

-- THE LAW: a token done in place is the token of every state that is packed
abbrev pub Agrees : Answer → List ℕ → ℕ → Bool → ℕ → List ℕ → ℕ → List ℕ → ℕ → ℕ → Turned → List ℕ → List ℕ → Type 0
Agrees answer rom size wide base c h k b place r d l =
    (st : State) (work store : List ℕ) → Goes st size wide base
    → token_turn (scene rom work store (packed_fast st c h k b place)) ≡ turn answer (packed_fast st d r.height l r.returns r.place)
    work store

-- heights and place stay in their limits
abbrev pub FitsFast : ℕ → ℕ → Turned → Type 0
FitsFast size base r = (r.height ≤ data_most) × (r.returns ≤ return_most) × (base ≤ r.returns) × (8 ≤ r.place) × (r.place ≤ size)

-- a token that is left to be done by value: nothing is changed, and it is a cold one
abbrev pub LeftFast : List ℕ → List ℕ → ℕ → List ℕ → ℕ → ℕ → Turned → List ℕ → List ℕ → Type 0
LeftFast rom c h k b place r d l = IsCold rom place × (d ≡ c) × (l ≡ k) × (r.height ≡ h) × (r.returns ≡ b) × (r.place ≡ place)

-- what is known by how it fared
abbrev pub Fares : Fared → List ℕ → ℕ → Bool → ℕ → List ℕ → ℕ → List ℕ → ℕ → ℕ → Turned → List ℕ → List ℕ → Type 0
Fares On rom size wide base c h k b place r d l = Agrees Going rom size wide base c h k b place r d l
Fares Cold rom size wide base c h k b place r d l = LeftFast rom c h k b place r d l
Fares (Not why) rom size wide base c h k b place r d l = Agrees (Refused why) rom size wide base c h k b place r d l

-- what `fast` promises: from the cells c and k at the heights h and b to the cells d and l
abbrev pub Fast : List ℕ → ℕ → Bool → ℕ → List ℕ → ℕ → List ℕ → ℕ → ℕ → Turned → List ℕ → List ℕ → Type 0
Fast rom size wide base c h k b place r d l = FitsFast size base r × Fares r.fared rom size wide base c h k b place r d l

-- ---- what its arms promise, each of its token's number
-- the bytes that are lent hold the program
abbrev pub HoldsFast : List ℕ → ℕ → Type 0
HoldsFast rom size = size ≤ length rom

-- the token stands at the place, inside the program, and the return stack is not below its frame's base
abbrev pub Here : ℕ → List ℕ → ℕ → ℕ → ℕ → ℕ → Type 0
Here n rom size base b place = (byte_of rom place ≡ n) × (base ≤ b) × (8 ≤ place) × (place < size)

-- one that works on both stacks, whatever else the program is
abbrev pub OnBoth : ℕ → ℕ → List ℕ → ℕ → List ℕ → ℕ → ℕ → Turned → List ℕ → List ℕ → Type 0
OnBoth n base c h k b place r d l =
    (rom : List ℕ) (size : ℕ) (wide : Bool) → Here n rom size base b place → Fast rom size wide base c h k b place r d l

-- one that leaves the return stack alone
abbrev pub OnData : ℕ → List ℕ → ℕ → ℕ → ℕ → Turned → List ℕ → Type 0
OnData n c h b place r d = (base : ℕ) (k : List ℕ) → OnBoth n base c h k b place r d k

-- one that reads its operand
abbrev pub Reads : ℕ → List ℕ → ℕ → Bool → List ℕ → ℕ → ℕ → ℕ → Turned → List ℕ → Type 0
Reads n rom size wide c h b place r d = (base : ℕ) (k : List ℕ) → Here n rom size base b place → Fast rom size wide base c h k b place r d k

-- ---- for the code's own steps
abbrev pub turned : Fared → ℕ → ℕ → ℕ → Turned
turned fared h b place = record { fared = fared; height = h; returns = b; place = place }

abbrev pub behind_branch : Bool → ℕ → ℕ
behind_branch wide place = place + 1 + pick wide 2 1
