-- What a token does that is done in place, once it is read: the step's definition is that of its work on the stacks. Assumes nothing.
use Rattle.std.proofs.Common.{None, Option, Some}
use Prim.Native.Nat.{ℕ, ◌+◌, ◌-◌, ◌<◌, ◌≤◌}
use mathlib.Core.Path.{◌≡◌, refl, sym, ◌∙◌, subst}
use mathlib.Core.Bool.{Bool, true, false, ◌||◌}
use mathlib.Core.List.{List, [], ◌∷◌}
use native.Mathlib.Omega.{arith}
use borrow.Author.Tests.{lt-ltb, le-ltb, eq-eqb, ne_eqb, eqb-true, ltb-false}
use lib.Dec.{T, ltb, eqb}
use Rattle.cells.specs.Choice.{pick, among}
use Rattle.rom.specs.Bytes.{word32_of}
use Rattle.tokens.specs.Family.{plain}
use Rattle.tokens.specs.Code.{code_of, family_in, form_in, takes_in, gives_in}
use Rattle.tokens.specs.Decode.{behind_of, operand_of}
use Rattle.tokens.specs.Decode.{token_of as token_made}
use Rattle.tokens.specs.declared.decoding.Operand.{Operand}
use Rattle.tokens.specs.declared.decoding.Operand.TheVariants.{Branch}
use Rattle.tokens.specs.Laws.Rows.{plain_codes, plain_coded}
use Rattle.state.specs.Stacks.{plain_of, back_trouble, picked_of, rolled_of, doubled_of}
use Rattle.state.specs.State.{stacks_of, moved, moved_to, base_of}
use Rattle.state.specs.Scene.{Scene, Turn, refuse, goes, cell_of}
use Rattle.state.specs.Refusals.{refusal_of}
use Rattle.state.specs.Effects.{act_of, effects, operand_in, gave}
use Rattle.state.specs.Step.{done_of}
use Rattle.state.specs.Laws.Done.{carried, stopped}
use Rattle.state.specs.Joints.Reckoning.{too_low, too_high, Reckoned, reckoned_as, reckon_of, divide_of, pick_up_of, roll_up_of, maybe_of}
use Rattle.rom.specs.Sizes.{data_most}

-- what holds of each of a list holds of what is among it
abbrev Each : (ℕ → Type 0) → List ℕ → Type 0
Each P [] = Unit {0}
Each P (k ∷ ks) = P k × Each P ks

each : (P : ℕ → Type 0) (ks : List ℕ) (k : ℕ) → Each P ks → T (among k ks) → P k
each P [] k e t = absurd t
each P (j ∷ js) k e t = by (eqb k j) refl t (λ u. each P js k e.1 u)
  where
    by : (b : Bool) → eqb k j ≡ b → T (b || among k js) → (T (among k js) → P k) → P k
    by true q t go = subst P (sym (eqb-true k j q)) e.0
    by false q t go = go t

-- the turn that an outcome on the stacks makes
abbrev pub outcome_turn : Scene → ℕ → Reckoned → Turn
outcome_turn s next o = pick (eqb o.why 0) (goes s (moved s.state o.stacks next)) (refuse o.why s)

-- ---- tokens that only reckon
abbrev short_refusal : Scene → ℕ → ℕ
short_refusal s k =
    pick (ltb s.state.stack.height (takes_in k) || false || false) 14
    (pick (back_trouble k s.state.back.height (base_of s.state.calls) || false) 16
    (pick (ltb data_most (s.state.stack.height - takes_in k + gives_in k)) 15 0))

module _ (s : Scene) (n : ℕ) (o : Operand) (next : ℕ) where
  abbrev Refuses : ℕ → Type 0
  Refuses k = refusal_of s (token_made n k o next) ≡ short_refusal s k

  plain_refuses : (k : ℕ) → T (among k plain_codes) → Refuses k
  unfolding refusal_of
  plain_refuses k t =
      each Refuses plain_codes k (
        refl,
        (
          refl,
          (
            refl,
            (
              refl,
              (refl, (refl, (refl, (refl, (refl, (refl, (refl, (refl, (refl, (refl, (refl, (refl, (refl, (refl, (refl, tt))))))))))))))),
            ),
          ),
        ),
      ) t

  abbrev Acts : ℕ → Type 0
  Acts k = act_of s (token_made n k o next) ≡ goes s (moved s.state (plain_of n (operand_in o) (stacks_of s.state)) next)

  plain_acts : (k : ℕ) → T (among k plain_codes) → Acts k
  unfolding act_of effects
  plain_acts k t =
      each Acts plain_codes k (
        refl,
        (
          refl,
          (
            refl,
            (
              refl,
              (refl, (refl, (refl, (refl, (refl, (refl, (refl, (refl, (refl, (refl, (refl, (refl, (refl, (refl, (refl, tt))))))))))))))),
            ),
          ),
        ),
      ) t

  pub plain_done : family_in (code_of n) ≡ plain
      → done_of s (token_made n (code_of n) o next) ≡ outcome_turn s next
      (reckon_of n (operand_in o) (stacks_of s.state) (base_of s.state.calls))
  unfolding reckon_of
  plain_done f =
      by (too_low (code_of n) s.state.stack.height) (back_trouble (code_of n) s.state.back.height (base_of s.state.calls))
      (too_high (code_of n) s.state.stack.height) refl refl refl
    where
      t : T (among (code_of n) plain_codes)
      t = plain_coded n (code_of n) refl f

      by : (x y z : Bool) → too_low (code_of n) s.state.stack.height ≡ x
          → back_trouble (code_of n) s.state.back.height (base_of s.state.calls) ≡ y
          → too_high (code_of n) s.state.stack.height ≡ z
          → done_of s (token_made n (code_of n) o next)
          ≡ outcome_turn s next (pick x (reckoned_as 14 (stacks_of s.state))
          (pick y (reckoned_as 16 (stacks_of s.state))
          (pick z (reckoned_as 15 (stacks_of s.state)) (reckoned_as 0 (plain_of n (operand_in o) (stacks_of s.state))))))
      by true y z p q r = stopped s (token_made n (code_of n) o next) 14 refl (plain_refuses (code_of n) t ∙ rw p)
      by false true z p q r = stopped s (token_made n (code_of n) o next) 16 refl (plain_refuses (code_of n) t ∙ rw (p, q))
      by false false true p q r = stopped s (token_made n (code_of n) o next) 15 refl (plain_refuses (code_of n) t ∙ rw (p, q, r))
      by false false false p q r = carried s (token_made n (code_of n) o next) (plain_refuses (code_of n) t ∙ rw (p, q, r))
          ∙ plain_acts (code_of n) t

-- the operand of such a token, a literal or none, and the place behind it
abbrev literal_code : ℕ
literal_code = 0x0101_0001

abbrev pub behind_plain : ℕ → ℕ → ℕ
behind_plain code place = pick (eqb code literal_code) (place + 1 + 4) (place + 1)

abbrev pub operand_plain : List ℕ → ℕ → ℕ → ℕ
operand_plain rom code place = pick (eqb code literal_code) (word32_of rom (place + 1)) 0

module _ (rom : List ℕ) (size : ℕ) (wide : Bool) (p n : ℕ) (f : family_in (code_of n) ≡ plain) where
  abbrev Behind : ℕ → Type 0
  Behind k = (behind_of rom wide (p + 1) (form_in k) ≡ behind_plain k p)
      × (operand_in (operand_of rom size wide (p + 1) (form_in k)) ≡ operand_plain rom k p)

  behind_each : (k : ℕ) → T (among k plain_codes) → Behind k
  unfolding behind_of operand_of
  behind_each k t =
      each Behind plain_codes k (
        (refl, refl),
        (
          (refl, refl),
          (
            (refl, refl),
            (
              (refl, refl),
              (
                (refl, refl),
                (
                  (refl, refl),
                  (
                    (refl, refl),
                    (
                      (refl, refl),
                      (
                        (refl, refl),
                        (
                          (refl, refl),
                          (
                            (refl, refl),
                            (
                              (refl, refl),
                              (
                                (refl, refl),
                                (
                                  (refl, refl),
                                  (
                                    (refl, refl),
                                    (
                                      (refl, refl),
                                      ((refl, refl), ((refl, refl), ((refl, refl), tt))),
                                    ),
                                  ),
                                ),
                              ),
                            ),
                          ),
                        ),
                      ),
                    ),
                  ),
                ),
              ),
            ),
          ),
        ),
      ) t

  pub behind_plain_lem : behind_of rom wide (p + 1) (form_in (code_of n)) ≡ behind_plain (code_of n) p
  behind_plain_lem = (behind_each (code_of n) (plain_coded n (code_of n) refl f)).0

  pub operand_plain_lem : operand_in (operand_of rom size wide (p + 1) (form_in (code_of n))) ≡ operand_plain rom (code_of n) p
  operand_plain_lem = (behind_each (code_of n) (plain_coded n (code_of n) refl f)).1

-- ---- bbranch and b?branch
module _ (s : Scene) (n bits next : ℕ) (high : s.state.stack.height ≤ data_most) where
  pub always_inside : (to : ℕ) → done_of s (token_made n 0x0303_0000 (Branch bits (Some to)) next) ≡ goes s (moved_to s.state to)
  unfolding refusal_of act_of effects
  always_inside to =
      carried s (token_made n 0x0303_0000 (Branch bits (Some to)) next)
      (simp (le-ltb s.state.stack.height 0 (omega arith), le-ltb data_most (s.state.stack.height - 0 + 0) (omega arith)))

  pub always_outside : done_of s (token_made n 0x0303_0000 (Branch bits None) next) ≡ refuse 19 s
  unfolding refusal_of
  always_outside =
      stopped s (token_made n 0x0303_0000 (Branch bits None) next) 19 refl (simp (le-ltb s.state.stack.height 0 (omega arith)))

  pub choice_low : (aim : Option ℕ) → s.state.stack.height < 1 → done_of s (token_made n 0x0403_0010 (Branch bits aim) next) ≡ refuse 14 s
  unfolding refusal_of
  choice_low aim l = stopped s (token_made n 0x0403_0010 (Branch bits aim) next) 14 refl (simp (lt-ltb s.state.stack.height 1 l))

  module _ (low : 1 ≤ s.state.stack.height) where
    pub choice_inside : (to : ℕ) → cell_of s 0 ≡ 0
        → done_of s (token_made n 0x0403_0010 (Branch bits (Some to)) next) ≡ goes s (moved s.state (gave s.state 1 []) to)
    unfolding refusal_of act_of effects
    choice_inside to z =
        carried s (token_made n 0x0403_0010 (Branch bits (Some to)) next)
        (simp (le-ltb s.state.stack.height 1 low, eq-eqb _ _ z, le-ltb data_most (s.state.stack.height - 1 + 0) (omega arith)))
        ∙ rw (eq-eqb (cell_of s 0) 0 z)

    pub choice_outside : cell_of s 0 ≡ 0 → done_of s (token_made n 0x0403_0010 (Branch bits None) next) ≡ refuse 19 s
    unfolding refusal_of
    choice_outside z =
        stopped s (token_made n 0x0403_0010 (Branch bits None) next) 19 refl
        (simp (le-ltb s.state.stack.height 1 low, eq-eqb (cell_of s 0) 0 z))

    pub choice_past : (aim : Option ℕ) → (cell_of s 0 ≡ 0 → ⊥)
        → done_of s (token_made n 0x0403_0010 (Branch bits aim) next) ≡ goes s (moved s.state (gave s.state 1 []) next)
    unfolding refusal_of act_of effects
    choice_past aim z =
        carried s (token_made n 0x0403_0010 (Branch bits aim) next)
        (simp (
          le-ltb s.state.stack.height 1 low,
          ne_eqb (cell_of s 0) 0 z,
          le-ltb data_most (s.state.stack.height - 1 + 0)
              (omega arith),
        ))
        ∙ rw (ne_eqb (cell_of s 0) 0 z)

-- ---- u/mod, pick, roll and ?dup
module _ (s : Scene) (o : Operand) (next : ℕ) (high : s.state.stack.height ≤ data_most) where
  abbrev h : ℕ
  h = s.state.stack.height

  pub divide_done : operand_in o ≡ 0 → done_of s (token_made 0x2B 0x0700_0022 o next) ≡ outcome_turn s next (divide_of (stacks_of s.state))
  unfolding refusal_of act_of effects
  divide_done e = by (ltb h 2) (eqb (cell_of s 0) 0) refl refl
    where
      by : (x y : Bool) → ltb h 2 ≡ x → eqb (cell_of s 0) 0 ≡ y → done_of s (token_made 0x2B 0x0700_0022 o next)
          ≡ outcome_turn s next (pick x (reckoned_as 14 (stacks_of s.state))
          (pick y (reckoned_as 21 (stacks_of s.state)) (reckoned_as 0 (plain_of 0x2B 0 (stacks_of s.state)))))
      by true y p q = stopped s (token_made 0x2B 0x0700_0022 o next) 14 refl (rw p)
      by false true p q =
          let l : 2 ≤ h = ltb-false h 2 p in
          stopped s (token_made 0x2B 0x0700_0022 o next) 21 refl (rw (p, le-ltb data_most (h - 2 + 2) (omega arith), q))
      by false false p q =
          let l : 2 ≤ h = ltb-false h 2 p in
          carried s (token_made 0x2B 0x0700_0022 o next) (rw (p, le-ltb data_most (h - 2 + 2) (omega arith), q)) ∙ rw e

  pub pick_done : (n : ℕ) → done_of s (token_made n 0x0800_0011 o next) ≡ outcome_turn s next (pick_up_of (stacks_of s.state))
  unfolding refusal_of act_of effects
  pick_done n = by (ltb h 1) (ltb h (cell_of s 0 + 2)) refl refl
    where
      by : (x y : Bool) → ltb h 1 ≡ x → ltb h (cell_of s 0 + 2) ≡ y → done_of s (token_made n 0x0800_0011 o next)
          ≡ outcome_turn s next (pick (x || y) (reckoned_as 14 (stacks_of s.state)) (reckoned_as 0 (picked_of (stacks_of s.state))))
      by true y p q = stopped s (token_made n 0x0800_0011 o next) 14 refl (rw p)
      by false true p q = stopped s (token_made n 0x0800_0011 o next) 14 refl (rw (p, q))
      by false false p q =
          let l : 1 ≤ h = ltb-false h 1 p in
          carried s (token_made n 0x0800_0011 o next) (rw (p, q, le-ltb data_most (h - 1 + 1) (omega arith)))

  pub roll_done : (n : ℕ) → done_of s (token_made n 0x0900_0010 o next) ≡ outcome_turn s next (roll_up_of (stacks_of s.state))
  unfolding refusal_of act_of effects
  roll_done n = by (ltb h 1) (ltb h (cell_of s 0 + 2)) refl refl
    where
      by : (x y : Bool) → ltb h 1 ≡ x → ltb h (cell_of s 0 + 2) ≡ y → done_of s (token_made n 0x0900_0010 o next)
          ≡ outcome_turn s next (pick (x || y) (reckoned_as 14 (stacks_of s.state)) (reckoned_as 0 (rolled_of (stacks_of s.state))))
      by true y p q = stopped s (token_made n 0x0900_0010 o next) 14 refl (rw p)
      by false true p q = stopped s (token_made n 0x0900_0010 o next) 14 refl (rw (p, q))
      by false false p q =
          let l : 1 ≤ h = ltb-false h 1 p in
          carried s (token_made n 0x0900_0010 o next) (rw (p, q, le-ltb data_most (h - 1 + 0) (omega arith)))

  pub maybe_done : (n : ℕ) → done_of s (token_made n 0x0A00_0011 o next) ≡ outcome_turn s next (maybe_of (stacks_of s.state))
  unfolding refusal_of act_of effects
  maybe_done n = by (ltb h 1) (eqb (cell_of s 0) 0) (ltb data_most (h + 1)) refl refl refl
    where
      by : (x y z : Bool) → ltb h 1 ≡ x → eqb (cell_of s 0) 0 ≡ y → ltb data_most (h + 1) ≡ z → done_of s (token_made n 0x0A00_0011 o next)
          ≡ outcome_turn s next (pick x (reckoned_as 14 (stacks_of s.state))
          (pick y (reckoned_as 0 (stacks_of s.state))
          (pick z (reckoned_as 15 (stacks_of s.state)) (reckoned_as 0 (doubled_of (stacks_of s.state))))))
      by true y z p q r = stopped s (token_made n 0x0A00_0011 o next) 14 refl (rw p)
      by false true z p q r =
          let l : 1 ≤ h = ltb-false h 1 p in
          carried s (token_made n 0x0A00_0011 o next) (rw (p, q, le-ltb data_most (h - 1 + 1) (omega arith))) ∙ rw q
      by false false true p q r =
          let l : 1 ≤ h = ltb-false h 1 p in
          let u : h - 1 + 2 ≡ h + 1 = omega arith in
          stopped s (token_made n 0x0A00_0011 o next) 15 refl (rw (p, q, u, r))
      by false false false p q r =
          let l : 1 ≤ h = ltb-false h 1 p in
          let u : h - 1 + 2 ≡ h + 1 = omega arith in
          carried s (token_made n 0x0A00_0011 o next) (rw (p, q, u, r)) ∙ rw q
