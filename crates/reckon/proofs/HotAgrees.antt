-- A token done in place agrees with the token of every packed state. Assumes nothing.
use Rattle.std.proofs.Common.{None, Option, Some}
use Prim.Native.Nat.{ℕ, ◌+◌, ◌-◌, ◌<◌, ◌≤◌}
use mathlib.Core.Path.{◌≡◌, refl, sym, ◌∙◌, ap}
use mathlib.Core.Bool.{Bool, true, false}
use mathlib.Core.List.{List}
use native.Mathlib.Omega.{arith}
use borrow.Author.Tests.{lt-ltb, le-ltb, eqb-false}
use lib.Dec.{T, ltb, eqb}
use Rattle.cells.specs.Choice.{pick}
use Rattle.rom.specs.Bytes.{byte_of}
use Rattle.rom.specs.Branch.{offset_of, aim_of}
use Rattle.tokens.specs.Family.{plain}
use Rattle.tokens.specs.Table.{ends, lows, highs, doubles, table, row_of}
use Rattle.tokens.specs.Code.{code_of, family_in, form_in}
use Rattle.tokens.specs.Decode.{behind_of, operand_of}
use Rattle.tokens.specs.Decode.{token_of as token_made}
use Rattle.tokens.specs.declared.decoding.Operand.{Operand}
use Rattle.tokens.specs.declared.decoding.Operand.TheVariants.{Nothing, Branch}
use Rattle.rom.specs.Sizes.{data_most}
use Rattle.cells.specs.Laws.Tests.{pick_is}
use Rattle.state.specs.Stacks.{Stacks, stacks, left_of, top_of, too_deep, back_trouble}
use Rattle.state.specs.State.{stacks_of, moved, base_of}
use Rattle.state.specs.Scene.{Scene, Turn, turn, refuse, goes, cell_of}
use Rattle.state.specs.Effects.{operand_in}
use Rattle.state.specs.Step.{done_of, token_turn}
use Rattle.reckon.specs.Joints.Fast.{packed_fast, behind_branch}
use Rattle.state.specs.Joints.Hot.{hot_family}
use Rattle.state.specs.Answer.{Going, Refused}
use Rattle.reckon.proofs.Hot.{hot_turn}
use Rattle.reckon.proofs.HotDone.{outcome_turn, plain_done, behind_plain, operand_plain, behind_plain_lem, operand_plain_lem, always_inside}
use Rattle.reckon.proofs.HotDone.{always_outside, choice_low, choice_inside, choice_outside, choice_past, divide_done, pick_done}
use Rattle.reckon.proofs.HotDone.{roll_done, maybe_done}
use Rattle.state.specs.Joints.Reckoning.{too_low, too_high, Reckoned, reckoned_as, reckon_of, divide_of, pick_up_of, roll_up_of, maybe_of}

-- a refused outcome has the stacks as they were
abbrev Unmoved : Stacks → Reckoned → Type 0
Unmoved x o = (o.why ≡ 0 → ⊥) → o.stacks ≡ x

module _ (x : Stacks) where
  reckon_unmoved : (n w base : ℕ) → Unmoved x (reckon_of n w x base)
  unfolding reckon_of
  reckon_unmoved n w base =
      pick_is (Unmoved x) (too_low (code_of n) x.height) _ _ (λ t f. refl)
      (λ t. pick_is (Unmoved x) (back_trouble (code_of n) x.returns base) _ _ (λ t f. refl)
      (λ t. pick_is (Unmoved x) (too_high (code_of n) x.height) _ _ (λ t f. refl) (λ t f. absurd (f refl))))

  divide_unmoved : Unmoved x (divide_of x)
  divide_unmoved =
      pick_is (Unmoved x) (ltb x.height 2) _ _ (λ t f. refl)
      (λ t. pick_is (Unmoved x) (eqb (top_of x.cells x.height 0) 0) _ _ (λ t f. refl) (λ t f. absurd (f refl)))

  pick_unmoved : Unmoved x (pick_up_of x)
  pick_unmoved = pick_is (Unmoved x) (too_deep x) _ _ (λ t f. refl) (λ t f. absurd (f refl))

  roll_unmoved : Unmoved x (roll_up_of x)
  roll_unmoved = pick_is (Unmoved x) (too_deep x) _ _ (λ t f. refl) (λ t f. absurd (f refl))

  maybe_unmoved : Unmoved x (maybe_of x)
  maybe_unmoved =
      pick_is (Unmoved x) (ltb x.height 1) _ _ (λ t f. refl)
      (λ t. pick_is (Unmoved x) (eqb (top_of x.cells x.height 0) 0) _ _ (λ t f. absurd (f refl))
      (λ t. pick_is (Unmoved x) (ltb data_most (x.height + 1)) _ _ (λ t f. refl) (λ t f. absurd (f refl))))

-- the turn that is known by what became of the stacks and the place
abbrev pub turn_of : Scene → ℕ → ℕ → ℕ → ℕ → List ℕ → List ℕ → Turn
turn_of s why next g r d l =
    turn (pick (eqb why 0) Going (Refused why)) (packed_fast s.state d g l r (pick (eqb why 0) next s.state.place)) s.work
    s.store

-- a taken branch, to the height g
abbrev taken_of : Scene → Option ℕ → ℕ → Turn
taken_of s (Some to) g = goes s (packed_fast s.state s.state.stack.cells g s.state.back.cells s.state.back.height to)
taken_of s None g = refuse 19 s

-- what the work on the stacks left is the turn of its outcome
outcome_turn_lem : (s : Scene) (next why g r : ℕ) (d l : List ℕ) (o : Reckoned) → reckoned_as why (stacks d g l r) ≡ o
    → Unmoved (stacks_of s.state) o
    → outcome_turn s next o ≡ turn_of s why next g r d l
outcome_turn_lem s next why g r d l o e k = rw (← e) (by (eqb why 0) refl)
  where
    by : (b : Bool) → eqb why 0 ≡ b → pick b (goes s (moved s.state (stacks d g l r) next)) (refuse why s)
        ≡ turn (pick b Going (Refused why)) (packed_fast s.state d g l r (pick b next s.state.place)) s.work s.store
    by true q = refl
    by false q =
        let w : o.why ≡ why = ap (λ (y : Reckoned). y.why) (sym e) in
        let z : stacks d g l r ≡ stacks_of s.state = ap (λ (y : Reckoned). y.stacks) e ∙ k (λ f. eqb-false why 0 q (sym w ∙ f)) in
        ap (λ (y : Stacks). turn (Refused why) (moved s.state y s.state.place) s.work s.store) (sym z)

module _ (s : Scene) (n : ℕ) (e : n ≡ byte_of s.rom s.state.place) where
  abbrev form_here : ℕ
  form_here = form_in (code_of n)

  abbrev next_here : ℕ
  next_here = behind_of s.rom s.state.wide (s.state.place + 1) form_here

  abbrev operand_here : Operand
  operand_here = operand_of s.rom s.state.length s.state.wide (s.state.place + 1) form_here

  -- cut off: 10
  pub hot_cut : T (hot_family (family_in (code_of n))) → (next : ℕ) → next_here ≡ next → s.state.length < next
      → token_turn s ≡ refuse 10 s
  hot_cut hot next q l = hot_turn s n e hot ∙ rw (q, lt-ltb s.state.length next l)

  -- or done
  hot_done : T (hot_family (family_in (code_of n))) → (next : ℕ) → next_here ≡ next → next ≤ s.state.length
      → token_turn s ≡ done_of s (token_made n (code_of n) operand_here next)
  hot_done hot next q l = hot_turn s n e hot ∙ rw (q, le-ltb s.state.length next l)

  -- ---- a token that only reckons
  module _ (f : family_in (code_of n) ≡ plain) where
    hot_plain : T (hot_family (family_in (code_of n)))
    hot_plain = rw f tt

    pub plain_cut : s.state.length < behind_plain (code_of n) s.state.place → token_turn s ≡ refuse 10 s
    plain_cut l = hot_cut hot_plain _ (behind_plain_lem s.rom s.state.length s.state.wide s.state.place n f) l

    pub plain_turn : (why g r : ℕ) (d l : List ℕ) → behind_plain (code_of n) s.state.place ≤ s.state.length
        → reckoned_as why (stacks d g l r) ≡ reckon_of n (operand_plain s.rom (code_of n) s.state.place) (stacks_of s.state)
        (base_of s.state.calls)
        → token_turn s ≡ turn_of s why (behind_plain (code_of n) s.state.place) g r d l
    plain_turn why g r d l h q' =
        let q = behind_plain_lem s.rom s.state.length s.state.wide s.state.place n f in
        let w = operand_plain_lem s.rom s.state.length s.state.wide s.state.place n f in
        hot_done hot_plain (behind_plain (code_of n) s.state.place) q h
        ∙ plain_done s n operand_here (behind_plain (code_of n) s.state.place) f
        ∙ outcome_turn_lem s (behind_plain (code_of n) s.state.place) why g r d l
        (reckon_of n (operand_in operand_here) (stacks_of s.state) (base_of s.state.calls))
        (rw w q') (reckon_unmoved (stacks_of s.state) n (operand_in operand_here) (base_of s.state.calls))

  -- ---- u/mod, pick, roll and ?dup
  abbrev Deep : (Stacks → Reckoned) → Type 0
  Deep f = (why g r : ℕ) (d l : List ℕ) → s.state.place < s.state.length → s.state.stack.height ≤ data_most
      → reckoned_as why (stacks d g l r) ≡ f (stacks_of s.state)
      → token_turn s ≡ turn_of s why (s.state.place + 1) g r d l

  -- a code that has no operand
  bare : (k : ℕ) → code_of n ≡ k → form_in k ≡ 0 → (next_here ≡ s.state.place + 1) × (operand_here ≡ Nothing)
  unfolding behind_of operand_of
  bare k c z = let y : form_in (code_of n) ≡ 0 = rw c z in (rw y, rw y)

  deep : (f : Stacks → Reckoned) (k : ℕ) → code_of n ≡ k → form_in k ≡ 0 → T (hot_family (family_in k))
      → (s.state.stack.height ≤ data_most → done_of s (token_made n k Nothing (s.state.place + 1)) ≡ outcome_turn s (s.state.place + 1)
      (f (stacks_of s.state)))
      → Unmoved (stacks_of s.state) (f (stacks_of s.state)) → Deep f
  deep f k c z hot done u why g r d l p h q =
      let b = bare k c z in
      hot_done (rw c hot) (s.state.place + 1) b.0 (omega arith)
      ∙ ap (λ (o : Operand). done_of s (token_made n (code_of n) o (s.state.place + 1))) b.1
      ∙ ap (λ (j : ℕ). done_of s (token_made n j Nothing (s.state.place + 1))) c
      ∙ done h
      ∙ outcome_turn_lem s (s.state.place + 1) why g r d l (f (stacks_of s.state)) q u

  pub divide_turn : n ≡ 0x2B → Deep divide_of
  unfolding code_of row_of table ends lows highs doubles
  divide_turn i =
      deep divide_of 0x0700_0022 (rw i) refl tt
      (λ h. ap (λ (j : ℕ). done_of s (token_made j 0x0700_0022 Nothing (s.state.place + 1))) i
      ∙ divide_done s Nothing (s.state.place + 1) h refl)
      (divide_unmoved (stacks_of s.state))

  pub pick_turn : code_of n ≡ 0x0800_0011 → Deep pick_up_of
  pick_turn c = deep pick_up_of 0x0800_0011 c refl tt (λ h. pick_done s Nothing (s.state.place + 1) h n)
      (pick_unmoved (stacks_of s.state))

  pub roll_turn : code_of n ≡ 0x0900_0010 → Deep roll_up_of
  roll_turn c = deep roll_up_of 0x0900_0010 c refl tt (λ h. roll_done s Nothing (s.state.place + 1) h n)
      (roll_unmoved (stacks_of s.state))

  pub maybe_turn : code_of n ≡ 0x0A00_0011 → Deep maybe_of
  maybe_turn c = deep maybe_of 0x0A00_0011 c refl tt (λ h. maybe_done s Nothing (s.state.place + 1) h n)
      (maybe_unmoved (stacks_of s.state))

  -- ---- branches
  abbrev aim_here : Option ℕ
  aim_here = aim_of s.rom s.state.length s.state.wide (s.state.place + 1)

  offset_here : (k : ℕ) → code_of n ≡ k → form_in k ≡ 3
      → (next_here ≡ behind_branch s.state.wide s.state.place)
      × (operand_here ≡ Branch (offset_of s.rom s.state.wide (s.state.place + 1)) aim_here)
  unfolding behind_of operand_of
  offset_here k c z = let y : form_in (code_of n) ≡ 3 = rw c z in (rw y, rw y)

  branch_done : (k : ℕ) → code_of n ≡ k → form_in k ≡ 3 → T (hot_family (family_in k))
      → behind_branch s.state.wide s.state.place ≤ s.state.length
      → token_turn s ≡ done_of s (token_made n k (Branch (offset_of s.rom s.state.wide (s.state.place + 1)) aim_here)
      (behind_branch s.state.wide s.state.place))
  branch_done k c z hot l =
      let b = offset_here k c z in
      hot_done (rw c hot) (behind_branch s.state.wide s.state.place) b.0 l
      ∙ ap (λ (o : Operand). done_of s (token_made n (code_of n) o (behind_branch s.state.wide s.state.place))) b.1
      ∙ ap (λ (j : ℕ). done_of s (token_made n j (Branch (offset_of s.rom s.state.wide (s.state.place + 1)) aim_here)
      (behind_branch s.state.wide s.state.place))) c

  branch_cut : (k : ℕ) → code_of n ≡ k → form_in k ≡ 3 → T (hot_family (family_in k))
      → s.state.length < behind_branch s.state.wide s.state.place
      → token_turn s ≡ refuse 10 s
  branch_cut k c z hot l = hot_cut (rw c hot) (behind_branch s.state.wide s.state.place) (offset_here k c z).0 l

  module _ (c : code_of n ≡ 0x0303_0000) (h : s.state.stack.height ≤ data_most) where
    pub always_cut : s.state.length < behind_branch s.state.wide s.state.place → token_turn s ≡ refuse 10 s
    always_cut l = branch_cut 0x0303_0000 c refl tt l

    pub always_turn : behind_branch s.state.wide s.state.place ≤ s.state.length
        → token_turn s ≡ taken_of s aim_here s.state.stack.height
    always_turn l = branch_done 0x0303_0000 c refl tt l ∙ by aim_here
      where
        by : (a : Option ℕ)
            → done_of s (token_made n 0x0303_0000 (Branch (offset_of s.rom s.state.wide (s.state.place + 1)) a)
            (behind_branch s.state.wide s.state.place))
            ≡ taken_of s a s.state.stack.height
        by (Some to) = always_inside s n _ _ h to
        by None = always_outside s n _ _ h

  module _ (c : code_of n ≡ 0x0403_0010) (h : s.state.stack.height ≤ data_most) where
    pub choice_cut : s.state.length < behind_branch s.state.wide s.state.place → token_turn s ≡ refuse 10 s
    choice_cut l = branch_cut 0x0403_0010 c refl tt l

    module _ (l : behind_branch s.state.wide s.state.place ≤ s.state.length) where
      pub choice_empty : s.state.stack.height < 1 → token_turn s ≡ refuse 14 s
      choice_empty z = branch_done 0x0403_0010 c refl tt l ∙ choice_low s n _ _ h aim_here z

      pub choice_taken : 1 ≤ s.state.stack.height → cell_of s 0 ≡ 0
          → token_turn s ≡ taken_of s aim_here (s.state.stack.height - 1)
      unfolding left_of
      choice_taken o z = branch_done 0x0403_0010 c refl tt l ∙ by aim_here
        where
          by : (a : Option ℕ)
              → done_of s (token_made n 0x0403_0010 (Branch (offset_of s.rom s.state.wide (s.state.place + 1)) a)
              (behind_branch s.state.wide s.state.place))
              ≡ taken_of s a (s.state.stack.height - 1)
          by (Some to) = let y : s.state.stack.height - 1 + 0 ≡ s.state.stack.height - 1 = omega arith in
              choice_inside s n _ _ h o to z ∙ rw y
          by None = choice_outside s n _ _ h o z

      pub choice_fallen : 1 ≤ s.state.stack.height → (cell_of s 0 ≡ 0 → ⊥)
          → token_turn s ≡ goes s (packed_fast s.state s.state.stack.cells (s.state.stack.height - 1) s.state.back.cells
          s.state.back.height (behind_branch s.state.wide s.state.place))
      unfolding left_of
      choice_fallen o z =
          let y : s.state.stack.height - 1 + 0 ≡ s.state.stack.height - 1 = omega arith in
          branch_done 0x0403_0010 c refl tt l ∙ choice_past s n _ _ h o aim_here z ∙ rw y
