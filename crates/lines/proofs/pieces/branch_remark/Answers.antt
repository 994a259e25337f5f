use Rattle.std.proofs.Common.{[], ◌∷◌, ⊎_elim, ◌≡◌, refl, arith}
use borrow.Enum.Refused.{opened}
use types.Run.{OneOf}
use denote.Enum.Declared.{tag_of}
use Rattle.tokens.specs.contracts.decoding.Operand.{the_type}
use Rattle.tokens.specs.declared.decoding.Operand.{Operand}
use Rattle.tokens.specs.declared.decoding.Operand.TheVariants.{Nothing, Literal, Text, Branch, Number, Definition}
use Rattle.lines.specs.TokenLines.{branch_remark}
use Rattle.lines.specs.Laws.Wrote.{wrote_none}
use Rattle.lines.proofs.pieces.branch_remark.Goals as goal

-- any other operand has none
no_branch : (o : Operand) → OneOf (0 ∷ 1 ∷ 2 ∷ 4 ∷ 5 ∷ []) (tag_of the_type o) → branch_remark o ≡ []
no_branch Nothing h = refl
no_branch (Literal n) h = refl
no_branch (Text start count) h = refl
no_branch (Branch bits aim) h =
    absurd (⊎_elim (λ e. omega arith) (⊎_elim (λ e. omega arith) (⊎_elim (λ e. omega arith) (⊎_elim (λ e. omega arith) (λ e. omega arith))))
    h)
no_branch (Number n) h = refl
no_branch (Definition n k) h = refl

pub returns-in_default : goal.returns-in_default
returns-in_default c =
    let args = c.args in
    rw (no_branch args.operand (opened c.in_default.in_default-own.keys2)) wrote_none
