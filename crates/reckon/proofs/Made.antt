-- What each way through a token in place promises. Assumes nothing.
use Rattle.std.proofs.Common.{Some}
use Prim.Native.Nat.{ℕ, ◌+◌, ◌-◌, ◌<◌, ◌≤◌}
use mathlib.Core.Path.{◌≡◌, refl, sym, ◌∙◌, ap, subst}
use mathlib.Core.Bool.{Bool, true, false}
use mathlib.Core.List.{List}
use native.Mathlib.Omega.{arith}
use native.Mathlib.Nat.{sub-zero}
use lib.Dec.{eqb}
use lib.ListN.{get_or}
use Rattle.cells.specs.Choice.{pick}
use Rattle.rom.specs.Bytes.{byte_of, word32_of}
use Rattle.rom.specs.Branch.{aim_of, place_in}
use Rattle.rom.specs.Laws.Branch.{AimFits, aim_fits, aim_outside, aim_inside}
use Rattle.tokens.specs.Family.{plain}
use Rattle.tokens.specs.Table.{ends, lows, highs, doubles, table, row_of}
use Rattle.tokens.specs.Code.{code_of, family_in}
use Rattle.tokens.specs.Decode.{is_double}
use Rattle.state.specs.Stacks.{Stacks, stacks}
use Rattle.state.specs.Scene.{scene, turn}
use Rattle.state.specs.Step.{token_turn}
use Rattle.state.specs.Joints.Hot.{hot_family, Cold as IsCold}
use Rattle.state.specs.declared.state.State.{State}
use Rattle.state.specs.Answer.{Going, Refused}
use Rattle.reckon.specs.Joints.Fast.{packed_fast, Goes, FitsFast, Fast, Here, OnBoth, OnData, Reads, turned, behind_branch}
use Rattle.reckon.specs.Joints.Turned.{On, Cold, Not, Turned}
use Rattle.reckon.proofs.Hot.{double_cold, cut_off}
use Rattle.reckon.proofs.HotDone.{behind_plain, operand_plain}
use Rattle.reckon.proofs.HotAgrees.{turn_of, plain_cut, plain_turn, divide_turn, pick_turn, roll_turn, maybe_turn, always_cut}
use Rattle.reckon.proofs.HotAgrees.{always_turn, choice_cut, choice_empty, choice_taken, choice_fallen}
use Rattle.state.specs.Joints.Reckoning.{Reckoned, reckoned_as, reckon_of, divide_of, pick_up_of, roll_up_of, maybe_of}
use Rattle.rom.specs.Sizes.{data_most, return_most, rom_most}

-- what a token's work left, at the next place where it was carried out
abbrev pub onward_of : ℕ → ℕ → ℕ → ℕ → ℕ → Turned
onward_of why g r place next = pick (eqb why 0) (turned On g r next) (turned (Not why) g r place)

pub within : (place size : ℕ) → place < size → size ≤ rom_most → place < rom_most
within place size l m = omega arith

-- ---- the ways through a token
module _ (rom : List ℕ) (size : ℕ) (wide : Bool) (base : ℕ) (c : List ℕ) (h : ℕ) (k : List ℕ) (b place : ℕ) where
  abbrev Sound : Type 0
  Sound = (h ≤ data_most) × (base ≤ b) × (b ≤ return_most) × (8 ≤ place) × (place ≤ size)

  stays : (why : ℕ) → Sound → FitsFast size base (turned (Not why) h b place)
  stays why s = (s.0, s.2, s.1, s.3, s.4)

  pub cut_made : Sound → size ≤ place → Fast rom size wide base c h k b place (turned (Not 10) h b place) c k
  cut_made s l = (stays 10 s, λ st work store g. cut_off (scene rom work store (packed_fast st c h k b place)) (rw g.of_size l))

  -- one that is not done in place
  pub left_made : (number : ℕ) → number ≡ byte_of rom place → Sound → hot_family (family_in (code_of number)) ≡ false
      → Fast rom size wide base c h k b place (turned Cold h b place) c k
  left_made number e s f = ((s.0, s.2, s.1, s.3, s.4), (cold (is_double (byte_of rom place)) refl, refl, refl, refl, refl, refl))
    where
      cold : (x : Bool) → is_double (byte_of rom place) ≡ x → IsCold rom place
      cold true q = double_cold rom place q
      cold false q = rw (q, ← e) f

  -- one whose work left the cells d and l at the heights g and r
  module _ (next why g r : ℕ) (d l : List ℕ) where
    abbrev Turns : Type 0
    Turns = (st : State) (work store : List ℕ) → Goes st size wide base
        → token_turn (scene rom work store (packed_fast st c h k b place)) ≡ turn_of (scene rom work store (packed_fast st c h k b place))
        why
        next g r d l

    work_made : Sound → (g ≤ data_most) × (r ≤ return_most) × (base ≤ r) → (8 ≤ next) × (next ≤ size) → Turns
        → Fast rom size wide base c h k b place (onward_of why g r place next) d l
    work_made s i j turns = by (eqb why 0) turns
      where
        by : (x : Bool)
            → ((st : State) (work store : List ℕ) → Goes st size wide base
            → token_turn (scene rom work store (packed_fast st c h k b place)) ≡ turn (pick x Going (Refused why))
            (packed_fast st d g l r (pick x next place)) work store)
            → Fast rom size wide base c h k b place (pick x (turned On g r next) (turned (Not why) g r place)) d l
        by true a = ((i.0, i.1, i.2, j.0, j.1), a)
        by false a = ((i.0, i.1, i.2, s.3, s.4), a)

-- ---- a token that only reckons and has no operand
module _ (n h b place code : ℕ) (e : code_of n ≡ code) (f : family_in code ≡ plain) (v : eqb code 0x0101_0001 ≡ false) (t : h ≤ data_most)
    (u : b ≤ return_most) where
  pub both_made : (base : ℕ) (c k : List ℕ) (why g r : ℕ) (d l : List ℕ) → g ≤ data_most → r ≤ return_most → (base ≤ b → base ≤ r)
      → ((operand : ℕ) → reckoned_as why (stacks d g l r) ≡ reckon_of n operand (stacks c h k b) base)
      → OnBoth n base c h k b place (onward_of why g r place (place + 1)) d l
  both_made base c k why g r d l x y z o rom size wide i =
      work_made rom size wide base c h k b place (place + 1) why g r d l
      (t, i.1, u, i.2, let p = i.3 in omega arith) (x, y, z i.1) (let p = i.2 in let q = i.3 in (omega arith, omega arith))
      (λ st work store w. plain_turn (scene rom work store (packed_fast st c h k b place)) n (sym i.0) (rw e f) why g r d l
      (rw (w.of_size, behind) (let q = i.3 in omega arith)) (rw w.of_base (o (operand_plain rom (code_of n) place))) ∙ rw behind)
    where
      behind : behind_plain (code_of n) place ≡ place + 1
      behind = rw (e, v)

  pub data_made : (c : List ℕ) (why g : ℕ) (d : List ℕ) → g ≤ data_most
      → ((operand base : ℕ) (k : List ℕ) → reckoned_as why (stacks d g k b) ≡ reckon_of n operand (stacks c h k b) base)
      → OnData n c h b place (onward_of why g b place (place + 1)) d
  data_made c why g d x o base k = both_made base c k why g b d k x u (λ l. l) (λ operand. o operand base k)

-- ---- b(lit)
module _ (rom : List ℕ) (size h b place : ℕ) (c : List ℕ) (t : h ≤ data_most) (u : b ≤ return_most) where
  pub literal_cut : size < place + 5 → (wide : Bool) → Reads 0x10 rom size wide c h b place (turned (Not 10) h b place) c
  unfolding code_of row_of table ends lows highs doubles
  literal_cut l wide base k i = (
    (t, u, i.1, i.2, let p = i.3 in omega arith),
    λ st work store w. plain_cut (scene rom work store (packed_fast st c h k b place)) 0x10 (sym i.0) refl
        (rw w.of_size (let p = l in omega arith)),
  )

  pub literal_made : (why g : ℕ) (d : List ℕ) → place + 5 ≤ size → g ≤ data_most
      → ((base : ℕ) (k : List ℕ) → reckoned_as why (stacks d g k b) ≡ reckon_of 0x10 (word32_of rom (place + 1)) (stacks c h k b) base)
      → (wide : Bool) → Reads 0x10 rom size wide c h b place (onward_of why g b place (place + 5)) d
  unfolding code_of row_of table ends lows highs doubles
  literal_made why g d l x o wide base k i =
      work_made rom size wide base c h k b place (place + 5) why g b d k
      (t, i.1, u, i.2, let p = i.3 in omega arith) (x, u, i.1) (let p = i.2 in (omega arith, l))
      (λ st work store w. plain_turn (scene rom work store (packed_fast st c h k b place)) 0x10 (sym i.0) refl why g b d k
      (rw w.of_size (let p = l in omega arith)) (rw w.of_base (o base k))
      ∙ ap (λ (j : ℕ). turn_of (scene rom work store (packed_fast st c h k b place)) why j g b d k) next)
    where
      next : place + 1 + 4 ≡ place + 5
      next = omega arith

-- ---- u/mod, pick, roll and ?dup
-- the work on both stacks by its definition: the return stack's cells are whatever they are
abbrev pub Works : (Stacks → Reckoned) → List ℕ → ℕ → ℕ → ℕ → ℕ → List ℕ → Type 0
Works f c h b why g d = (g ≤ data_most) × ((k : List ℕ) → reckoned_as why (stacks d g k b) ≡ f (stacks c h k b))

module _ (h b place : ℕ) (c : List ℕ) (t : h ≤ data_most) (u : b ≤ return_most) (why g : ℕ) (d : List ℕ) where
  deep_made : (f : Stacks → Reckoned) (n : ℕ) → Works f c h b why g d
      → ((rom : List ℕ) (size base : ℕ) (k : List ℕ) → Here n rom size base b place → (st : State) (work store : List ℕ) → st.length ≡ size
      → token_turn (scene rom work store (packed_fast st c h k b place)) ≡ turn_of (scene rom work store (packed_fast st c h k b place)) why
      (place + 1) g b d k)
      → OnData n c h b place (onward_of why g b place (place + 1)) d
  deep_made f n w turns base k rom size wide i =
      work_made rom size wide base c h k b place (place + 1) why g b d k
      (t, i.1, u, i.2, let p = i.3 in omega arith) (w.0, u, i.1) (let p = i.2 in let q = i.3 in (omega arith, omega arith))
      (λ st work store y. turns rom size base k i st work store y.of_size)

  pub divide_made : Works divide_of c h b why g d → OnData 0x2B c h b place (onward_of why g b place (place + 1)) d
  divide_made w =
      deep_made divide_of 0x2B w
      (λ rom size base k i st work store z. divide_turn (scene rom work store (packed_fast st c h k b place)) 0x2B
      (sym i.0) refl why g b d k (rw z i.3) t (w.1 k))

  pub pick_made : Works pick_up_of c h b why g d → OnData 0x4E c h b place (onward_of why g b place (place + 1)) d
  unfolding code_of row_of table ends lows highs doubles
  pick_made w =
      deep_made pick_up_of 0x4E w
      (λ rom size base k i st work store z. pick_turn (scene rom work store (packed_fast st c h k b place)) 0x4E
      (sym i.0) refl why g b d k (rw z i.3) t (w.1 k))

  pub roll_made : Works roll_up_of c h b why g d → OnData 0x4F c h b place (onward_of why g b place (place + 1)) d
  unfolding code_of row_of table ends lows highs doubles
  roll_made w =
      deep_made roll_up_of 0x4F w
      (λ rom size base k i st work store z. roll_turn (scene rom work store (packed_fast st c h k b place)) 0x4F
      (sym i.0) refl why g b d k (rw z i.3) t (w.1 k))

  pub maybe_made : Works maybe_of c h b why g d → OnData 0x50 c h b place (onward_of why g b place (place + 1)) d
  unfolding code_of row_of table ends lows highs doubles
  maybe_made w =
      deep_made maybe_of 0x50 w
      (λ rom size base k i st work store z. maybe_turn (scene rom work store (packed_fast st c h k b place)) 0x50
      (sym i.0) refl why g b d k (rw z i.3) t (w.1 k))

-- ---- branches
module _ (rom : List ℕ) (size : ℕ) (wide : Bool) (h b place : ℕ) (c : List ℕ) (t : h ≤ data_most) (u : b ≤ return_most) where
  stays_here : (n why base : ℕ) → Here n rom size base b place → FitsFast size base (turned (Not why) h b place)
  stays_here n why base i = (t, u, i.1, i.2, let p = i.3 in omega arith)

  module _ (next : ℕ) (n : next ≡ behind_branch wide place) where
    next_above : 8 ≤ place → 8 ≤ next
    next_above p = rw n (omega arith)

    -- bbranch
    pub always_cut_made : size < next → Reads 0x13 rom size wide c h b place (turned (Not 10) h b place) c
    unfolding code_of row_of table ends lows highs doubles
    always_cut_made l base k i = (
      stays_here 0x13 10 base i,
      λ st work store g. always_cut (scene rom work store (packed_fast st c h k b place)) 0x13 (sym i.0) refl t
          (rw (g.of_size, g.of_width, ← n) l),
    )

    -- b?branch
    pub choice_cut_made : size < next → Reads 0x14 rom size wide c h b place (turned (Not 10) h b place) c
    unfolding code_of row_of table ends lows highs doubles
    choice_cut_made l base k i = (
      stays_here 0x14 10 base i,
      λ st work store g. choice_cut (scene rom work store (packed_fast st c h k b place)) 0x14 (sym i.0) refl t
          (rw (g.of_size, g.of_width, ← n) l),
    )

    module _ (l : next ≤ size) where
      pub choice_low_made : h < 1 → Reads 0x14 rom size wide c h b place (turned (Not 14) h b place) c
      unfolding code_of row_of table ends lows highs doubles
      choice_low_made z base k i = (
        stays_here 0x14 14 base i,
        λ st work store g. choice_empty (scene rom work store (packed_fast st c h k b place)) 0x14 (sym i.0) refl t
            (rw (g.of_size, g.of_width, ← n) l) z,
      )

      pub choice_fallen_made : 1 ≤ h → (get_or c (h - 1) 0 ≡ 0 → ⊥) → Reads 0x14 rom size wide c h b place (turned On (h - 1) b next) c
      unfolding code_of row_of table ends lows highs doubles
      choice_fallen_made o z base k i = (
        (let p = t in omega arith, u, i.1, next_above i.2, l),
        λ st work store g. choice_fallen (scene rom work store (packed_fast st c h k b place)) 0x14 (sym i.0) refl t
            (rw (g.of_size, g.of_width, ← n) l) o
            (λ x. z (simp sub-zero at x)) ∙ rw (g.of_width, ← n),
      )

      module _ (to : ℕ) (a : to ≡ place_in (aim_of rom size wide (place + 1))) where
        lands : (to ≡ 0 → ⊥) → (8 ≤ to) × (to ≤ size)
        lands z =
            let f : AimFits size (Some to) = subst (AimFits size) (aim_inside rom size wide (place + 1) to a z)
            (aim_fits rom size wide (place + 1)) in
            (f.0, omega (arith, f.1))

        pub always_out_made : to ≡ 0 → Reads 0x13 rom size wide c h b place (turned (Not 19) h b place) c
        unfolding code_of row_of table ends lows highs doubles
        always_out_made z base k i = (
          stays_here 0x13 19 base i,
          λ st work store g. always_turn (scene rom work store (packed_fast st c h k b place)) 0x13 (sym i.0) refl t
              (rw (g.of_size, g.of_width, ← n) l)
              ∙ rw (g.of_size, g.of_width, aim_outside rom size wide (place + 1) (sym a ∙ z)),
        )

        pub always_made : (to ≡ 0 → ⊥) → Reads 0x13 rom size wide c h b place (turned On h b to) c
        unfolding code_of row_of table ends lows highs doubles
        always_made z base k i = (
          (t, u, i.1, (lands z).0, (lands z).1),
          λ st work store g. always_turn (scene rom work store (packed_fast st c h k b place)) 0x13 (sym i.0) refl t
              (rw (g.of_size, g.of_width, ← n) l)
              ∙ rw (g.of_size, g.of_width, aim_inside rom size wide (place + 1) to a z),
        )

        module _ (o : 1 ≤ h) (y : get_or c (h - 1) 0 ≡ 0) where
          top : get_or c (h - 1 - 0) 0 ≡ 0
          top = simp sub-zero y

          pub choice_out_made : to ≡ 0 → Reads 0x14 rom size wide c h b place (turned (Not 19) h b place) c
          unfolding code_of row_of table ends lows highs doubles
          choice_out_made z base k i = (
            stays_here 0x14 19 base i,
            λ st work store g. choice_taken (scene rom work store (packed_fast st c h k b place)) 0x14 (sym i.0) refl t
                (rw (g.of_size, g.of_width, ← n) l) o top
                ∙ rw (g.of_size, g.of_width, aim_outside rom size wide (place + 1) (sym a ∙ z)),
          )

          pub choice_taken_made : (to ≡ 0 → ⊥) → Reads 0x14 rom size wide c h b place (turned On (h - 1) b to) c
          unfolding code_of row_of table ends lows highs doubles
          choice_taken_made z base k i = (
            (let p = t in omega arith, u, i.1, (lands z).0, (lands z).1),
            λ st work store g. choice_taken (scene rom work store (packed_fast st c h k b place)) 0x14 (sym i.0) refl t
                (rw (g.of_size, g.of_width, ← n) l) o top
                ∙ rw (g.of_size, g.of_width, aim_inside rom size wide (place + 1) to a z),
          )
