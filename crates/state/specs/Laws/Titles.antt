-- The names that device-name, model and device-type write are good ones, and these tokens never meet 26. Assumes nothing.
use Rattle.std.specs.Prelude.{ℕ, Bool, true, false, not, ◌&&◌, List, ◌≡◌, refl, eqb}
use Rattle.std.proofs.Common.{arith, sym, subst}
use Rattle.std.proofs.Math.Dec.{T}
use Rattle.cells.specs.Laws.Tests.{pick_is}
use Rattle.rom.specs.Words.{letters_of}
use Rattle.tokens.specs.Family.{define, property, titled}
use Rattle.tokens.specs.Code.{family_in}
use Rattle.tokens.specs.Definition.{colon, kind_in}
use Rattle.tokens.specs.declared.decoding.Token.{Token}
use Rattle.tree.specs.Property.{is_one_of, name_byte, all_name_bytes, bad_name}
use Rattle.state.specs.Scene.{Scene}
use Rattle.state.specs.Refusals.{body_here, why_stopped, title_of, named_here, refusals, refusal_of}
use Rattle.state.specs.Laws.Keeps.Tests.{never_told}

pub title_good : (n : ℕ) → bad_name (title_of n) ≡ false
unfolding bad_name all_name_bytes name_byte is_one_of letters_of
title_good n =
    pick_is (λ (x : List ℕ). bad_name x ≡ false) (eqb n 0x201) _ _ (λ e. refl)
    (λ e. pick_is (λ (x : List ℕ). bad_name x ≡ false) (eqb n 0x119) _ _ (λ e. refl) (λ e. refl))

-- of all that a token may be refused for, 26 is asked of property alone, and a body is read for a definition alone
module _ (s : Scene) (t : Token) where
  abbrev stops_by : ℕ → ℕ
  stops_by family = elim (eqb family define && eqb (kind_in t.operand) colon) [ true ↦ why_stopped (body_here s t) | false ↦ 0 ]

  abbrev misnamed_by : ℕ → Bool
  misnamed_by family = elim (eqb family property) [ true ↦ bad_name (named_here s) | false ↦ false ]

  -- what `untold 26 (refusals s t)` comes to by a token's family: the other numbers of the list are not 26, so that these two tests are
  -- left
  abbrev untold_by : ℕ → Bool
  untold_by family = not (eqb (stops_by family) 26 && not (eqb (stops_by family) 0)) && (not (misnamed_by family) && true)

  pub title_never_26 : family_in t.code ≡ titled → refusal_of s t ≡ 26 → ⊥
  unfolding refusal_of
  title_never_26 k = never_told 26 (refusals s t) (subst (λ (family : ℕ). T (untold_by family)) (sym k) tt) (λ e. omega arith)
