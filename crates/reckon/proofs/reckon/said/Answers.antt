use Rattle.std.proofs.Common.{refl}
use Rattle.tokens.specs.Table.{ends, lows, highs, doubles, table, row_of}
use Rattle.tokens.specs.Laws.Rows.{none_left}
use Rattle.reckon.proofs.Given.{none_by, nones, none_coded}
use Rattle.reckon.proofs.reckon.said.Goals as goal

pub returns-in-164 : goal.returns-in-164
unfolding row_of table ends lows highs doubles
returns-in-164 c = none_by 0xA4 (λ h. 0xFFFF_FFFF) (λ s. refl) c.in-164.is refl

pub returns-in-165 : goal.returns-in-165
unfolding row_of table ends lows highs doubles
returns-in-165 c = none_by 0xA5 (λ h. 0) (λ s. refl) c.in-165.is refl

pub returns-in-166 : goal.returns-in-166
unfolding row_of table ends lows highs doubles
returns-in-166 c = none_by 0xA6 (λ h. 1) (λ s. refl) c.in-166.is refl

pub returns-in-167 : goal.returns-in-167
unfolding row_of table ends lows highs doubles
returns-in-167 c = none_by 0xA7 (λ h. 2) (λ s. refl) c.in-167.is refl

pub returns-in-168 : goal.returns-in-168
unfolding row_of table ends lows highs doubles
returns-in-168 c = none_by 0xA8 (λ h. 3) (λ s. refl) c.in-168.is refl

pub returns-in-81 : goal.returns-in-81
unfolding row_of table ends lows highs doubles
returns-in-81 c = none_by 0x51 (λ h. h) (λ s. refl) c.in-81.is refl

pub returns-in_default : goal.returns-in_default
unfolding row_of table ends lows highs doubles
returns-in_default c = absurd (none_left (Unit {0}) nones c.args.number c.in_default.in_default-own.rest
    (none_coded c.args.number c.requires.0))
