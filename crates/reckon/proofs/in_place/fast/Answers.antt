use Rattle.reckon.proofs.Hot.{hot_numbers, none_hot}
use Rattle.reckon.proofs.Made.{within, cut_made, left_made}
use Rattle.tokens.specs.Code.{code_of}
use Rattle.tokens.specs.Table.{ends, lows, highs, doubles, table, row_of}
use Rattle.state.specs.Joints.Apart.{base_in}
use Rattle.std.proofs.Common.{refl, sym, ◌∙◌}
use Rattle.reckon.proofs.in_place.fast.Goals as goal

pub returns-then-length-place : goal.returns-then-length-place
unfolding code_of hot_numbers row_of table ends lows highs doubles
returns-then-length-place c =
    let a = c.args in
    rw c.refuse.ensures (cut_made a.rom.now a.length a.wide (base_in a.bases.now a.frames) a.stack.now a.h
    a.back.now a.b a.place (c.requires.0, c.requires.1, c.requires.2, c.requires.3, c.requires.4) c.if-length-place.true)

pub literal-requires : goal.literal-requires
unfolding code_of hot_numbers row_of table ends lows highs doubles
literal-requires c = (c.requires.0, c.requires.2, c.if-length-place.false, c.requires.5, c.requires.6)

pub always-requires : goal.always-requires
unfolding code_of hot_numbers row_of table ends lows highs doubles
always-requires c = (c.requires.0, c.requires.2, c.if-length-place.false, c.requires.5)

pub choose-requires : goal.choose-requires
unfolding code_of hot_numbers row_of table ends lows highs doubles
choose-requires c = (c.requires.0, c.requires.2, c.if-length-place.false, c.requires.5)

pub by_two-requires : goal.by_two-requires
unfolding code_of hot_numbers row_of table ends lows highs doubles
by_two-requires c = (refl, c.requires.0, c.requires.2, within _ _ c.if-length-place.false c.requires.5)

pub by_two-requires-in-31 : goal.by_two-requires-in-31
unfolding code_of hot_numbers row_of table ends lows highs doubles
by_two-requires-in-31 c = (refl, c.requires.0, c.requires.2, within _ _ c.if-length-place.false c.requires.5)

pub by_two-requires-in-32 : goal.by_two-requires-in-32
unfolding code_of hot_numbers row_of table ends lows highs doubles
by_two-requires-in-32 c = (refl, c.requires.0, c.requires.2, within _ _ c.if-length-place.false c.requires.5)

pub by_two-requires-in-35 : goal.by_two-requires-in-35
unfolding code_of hot_numbers row_of table ends lows highs doubles
by_two-requires-in-35 c = (refl, c.requires.0, c.requires.2, within _ _ c.if-length-place.false c.requires.5)

pub by_two-requires-in-36 : goal.by_two-requires-in-36
unfolding code_of hot_numbers row_of table ends lows highs doubles
by_two-requires-in-36 c = (refl, c.requires.0, c.requires.2, within _ _ c.if-length-place.false c.requires.5)

pub by_two-requires-in-37 : goal.by_two-requires-in-37
unfolding code_of hot_numbers row_of table ends lows highs doubles
by_two-requires-in-37 c = (refl, c.requires.0, c.requires.2, within _ _ c.if-length-place.false c.requires.5)

pub by_one-requires : goal.by_one-requires
unfolding code_of hot_numbers row_of table ends lows highs doubles
by_one-requires c = (refl, c.requires.0, c.requires.2, within _ _ c.if-length-place.false c.requires.5)

pub by_two-requires-in-39 : goal.by_two-requires-in-39
unfolding code_of hot_numbers row_of table ends lows highs doubles
by_two-requires-in-39 c = (refl, c.requires.0, c.requires.2, within _ _ c.if-length-place.false c.requires.5)

pub by_two-requires-in-40 : goal.by_two-requires-in-40
unfolding code_of hot_numbers row_of table ends lows highs doubles
by_two-requires-in-40 c = (refl, c.requires.0, c.requires.2, within _ _ c.if-length-place.false c.requires.5)

pub by_two-requires-in-41 : goal.by_two-requires-in-41
unfolding code_of hot_numbers row_of table ends lows highs doubles
by_two-requires-in-41 c = (refl, c.requires.0, c.requires.2, within _ _ c.if-length-place.false c.requires.5)

pub divide-requires : goal.divide-requires
unfolding code_of hot_numbers row_of table ends lows highs doubles
divide-requires c = (c.requires.0, c.requires.2, within _ _ c.if-length-place.false c.requires.5)

pub by_one-requires-in-44 : goal.by_one-requires-in-44
unfolding code_of hot_numbers row_of table ends lows highs doubles
by_one-requires-in-44 c = (refl, c.requires.0, c.requires.2, within _ _ c.if-length-place.false c.requires.5)

pub by_one-requires-in-45 : goal.by_one-requires-in-45
unfolding code_of hot_numbers row_of table ends lows highs doubles
by_one-requires-in-45 c = (refl, c.requires.0, c.requires.2, within _ _ c.if-length-place.false c.requires.5)

pub by_two-requires-in-46 : goal.by_two-requires-in-46
unfolding code_of hot_numbers row_of table ends lows highs doubles
by_two-requires-in-46 c = (refl, c.requires.0, c.requires.2, within _ _ c.if-length-place.false c.requires.5)

pub by_two-requires-in-47 : goal.by_two-requires-in-47
unfolding code_of hot_numbers row_of table ends lows highs doubles
by_two-requires-in-47 c = (refl, c.requires.0, c.requires.2, within _ _ c.if-length-place.false c.requires.5)

pub to_return-requires : goal.to_return-requires
unfolding code_of hot_numbers row_of table ends lows highs doubles
to_return-requires c = (c.requires.0, c.requires.2, within _ _ c.if-length-place.false c.requires.5)

pub from_return-requires : goal.from_return-requires
unfolding code_of hot_numbers row_of table ends lows highs doubles
from_return-requires c = (c.requires.0, c.requires.2, within _ _ c.if-length-place.false c.requires.5)

pub copy_return-requires : goal.copy_return-requires
unfolding code_of hot_numbers row_of table ends lows highs doubles
copy_return-requires c = (c.requires.0, c.requires.2, within _ _ c.if-length-place.false c.requires.5)

pub by_one-requires-in-52 : goal.by_one-requires-in-52
unfolding code_of hot_numbers row_of table ends lows highs doubles
by_one-requires-in-52 c = (refl, c.requires.0, c.requires.2, within _ _ c.if-length-place.false c.requires.5)

pub by_one-requires-in-53 : goal.by_one-requires-in-53
unfolding code_of hot_numbers row_of table ends lows highs doubles
by_one-requires-in-53 c = (refl, c.requires.0, c.requires.2, within _ _ c.if-length-place.false c.requires.5)

pub by_one-requires-in-54 : goal.by_one-requires-in-54
unfolding code_of hot_numbers row_of table ends lows highs doubles
by_one-requires-in-54 c = (refl, c.requires.0, c.requires.2, within _ _ c.if-length-place.false c.requires.5)

pub by_one-requires-in-55 : goal.by_one-requires-in-55
unfolding code_of hot_numbers row_of table ends lows highs doubles
by_one-requires-in-55 c = (refl, c.requires.0, c.requires.2, within _ _ c.if-length-place.false c.requires.5)

pub by_one-requires-in-56 : goal.by_one-requires-in-56
unfolding code_of hot_numbers row_of table ends lows highs doubles
by_one-requires-in-56 c = (refl, c.requires.0, c.requires.2, within _ _ c.if-length-place.false c.requires.5)

pub by_one-requires-in-57 : goal.by_one-requires-in-57
unfolding code_of hot_numbers row_of table ends lows highs doubles
by_one-requires-in-57 c = (refl, c.requires.0, c.requires.2, within _ _ c.if-length-place.false c.requires.5)

pub by_two-requires-in-58 : goal.by_two-requires-in-58
unfolding code_of hot_numbers row_of table ends lows highs doubles
by_two-requires-in-58 c = (refl, c.requires.0, c.requires.2, within _ _ c.if-length-place.false c.requires.5)

pub by_two-requires-in-59 : goal.by_two-requires-in-59
unfolding code_of hot_numbers row_of table ends lows highs doubles
by_two-requires-in-59 c = (refl, c.requires.0, c.requires.2, within _ _ c.if-length-place.false c.requires.5)

pub by_two-requires-in-60 : goal.by_two-requires-in-60
unfolding code_of hot_numbers row_of table ends lows highs doubles
by_two-requires-in-60 c = (refl, c.requires.0, c.requires.2, within _ _ c.if-length-place.false c.requires.5)

pub by_two-requires-in-61 : goal.by_two-requires-in-61
unfolding code_of hot_numbers row_of table ends lows highs doubles
by_two-requires-in-61 c = (refl, c.requires.0, c.requires.2, within _ _ c.if-length-place.false c.requires.5)

pub by_two-requires-in-62 : goal.by_two-requires-in-62
unfolding code_of hot_numbers row_of table ends lows highs doubles
by_two-requires-in-62 c = (refl, c.requires.0, c.requires.2, within _ _ c.if-length-place.false c.requires.5)

pub by_two-requires-in-63 : goal.by_two-requires-in-63
unfolding code_of hot_numbers row_of table ends lows highs doubles
by_two-requires-in-63 c = (refl, c.requires.0, c.requires.2, within _ _ c.if-length-place.false c.requires.5)

pub by_two-requires-in-64 : goal.by_two-requires-in-64
unfolding code_of hot_numbers row_of table ends lows highs doubles
by_two-requires-in-64 c = (refl, c.requires.0, c.requires.2, within _ _ c.if-length-place.false c.requires.5)

pub by_two-requires-in-65 : goal.by_two-requires-in-65
unfolding code_of hot_numbers row_of table ends lows highs doubles
by_two-requires-in-65 c = (refl, c.requires.0, c.requires.2, within _ _ c.if-length-place.false c.requires.5)

pub by_two-requires-in-66 : goal.by_two-requires-in-66
unfolding code_of hot_numbers row_of table ends lows highs doubles
by_two-requires-in-66 c = (refl, c.requires.0, c.requires.2, within _ _ c.if-length-place.false c.requires.5)

pub by_two-requires-in-67 : goal.by_two-requires-in-67
unfolding code_of hot_numbers row_of table ends lows highs doubles
by_two-requires-in-67 c = (refl, c.requires.0, c.requires.2, within _ _ c.if-length-place.false c.requires.5)

pub by_three-requires : goal.by_three-requires
unfolding code_of hot_numbers row_of table ends lows highs doubles
by_three-requires c = (refl, c.requires.0, c.requires.2, within _ _ c.if-length-place.false c.requires.5)

pub by_three-requires-in-69 : goal.by_three-requires-in-69
unfolding code_of hot_numbers row_of table ends lows highs doubles
by_three-requires-in-69 c = (refl, c.requires.0, c.requires.2, within _ _ c.if-length-place.false c.requires.5)

pub drop_one-requires : goal.drop_one-requires
unfolding code_of hot_numbers row_of table ends lows highs doubles
drop_one-requires c = (c.requires.0, c.requires.2, within _ _ c.if-length-place.false c.requires.5)

pub dup-requires : goal.dup-requires
unfolding code_of hot_numbers row_of table ends lows highs doubles
dup-requires c = (c.requires.0, c.requires.2, within _ _ c.if-length-place.false c.requires.5)

pub over-requires : goal.over-requires
unfolding code_of hot_numbers row_of table ends lows highs doubles
over-requires c = (c.requires.0, c.requires.2, within _ _ c.if-length-place.false c.requires.5)

pub swap-requires : goal.swap-requires
unfolding code_of hot_numbers row_of table ends lows highs doubles
swap-requires c = (c.requires.0, c.requires.2, within _ _ c.if-length-place.false c.requires.5)

pub rot-requires : goal.rot-requires
unfolding code_of hot_numbers row_of table ends lows highs doubles
rot-requires c = (c.requires.0, c.requires.2, within _ _ c.if-length-place.false c.requires.5)

pub rot_back-requires : goal.rot_back-requires
unfolding code_of hot_numbers row_of table ends lows highs doubles
rot_back-requires c = (c.requires.0, c.requires.2, within _ _ c.if-length-place.false c.requires.5)

pub tuck-requires : goal.tuck-requires
unfolding code_of hot_numbers row_of table ends lows highs doubles
tuck-requires c = (c.requires.0, c.requires.2, within _ _ c.if-length-place.false c.requires.5)

pub by_two-requires-in-77 : goal.by_two-requires-in-77
unfolding code_of hot_numbers row_of table ends lows highs doubles
by_two-requires-in-77 c = (refl, c.requires.0, c.requires.2, within _ _ c.if-length-place.false c.requires.5)

pub pick_up-requires : goal.pick_up-requires
unfolding code_of hot_numbers row_of table ends lows highs doubles
pick_up-requires c = (c.requires.0, c.requires.2, within _ _ c.if-length-place.false c.requires.5)

pub roll_up-requires : goal.roll_up-requires
unfolding code_of hot_numbers row_of table ends lows highs doubles
roll_up-requires c = (c.requires.0, c.requires.2, within _ _ c.if-length-place.false c.requires.5)

pub maybe-requires : goal.maybe-requires
unfolding code_of hot_numbers row_of table ends lows highs doubles
maybe-requires c = (c.requires.0, c.requires.2, within _ _ c.if-length-place.false c.requires.5)

pub push-requires : goal.push-requires
unfolding code_of hot_numbers row_of table ends lows highs doubles
push-requires c = (refl, c.requires.0, c.requires.2, within _ _ c.if-length-place.false c.requires.5)

pub drop_two-requires : goal.drop_two-requires
unfolding code_of hot_numbers row_of table ends lows highs doubles
drop_two-requires c = (c.requires.0, c.requires.2, within _ _ c.if-length-place.false c.requires.5)

pub dup_two-requires : goal.dup_two-requires
unfolding code_of hot_numbers row_of table ends lows highs doubles
dup_two-requires c = (c.requires.0, c.requires.2, within _ _ c.if-length-place.false c.requires.5)

pub over_two-requires : goal.over_two-requires
unfolding code_of hot_numbers row_of table ends lows highs doubles
over_two-requires c = (c.requires.0, c.requires.2, within _ _ c.if-length-place.false c.requires.5)

pub swap_two-requires : goal.swap_two-requires
unfolding code_of hot_numbers row_of table ends lows highs doubles
swap_two-requires c = (c.requires.0, c.requires.2, within _ _ c.if-length-place.false c.requires.5)

pub rot_two-requires : goal.rot_two-requires
unfolding code_of hot_numbers row_of table ends lows highs doubles
rot_two-requires c = (c.requires.0, c.requires.2, within _ _ c.if-length-place.false c.requires.5)

pub by_one-requires-in-87 : goal.by_one-requires-in-87
unfolding code_of hot_numbers row_of table ends lows highs doubles
by_one-requires-in-87 c = (refl, c.requires.0, c.requires.2, within _ _ c.if-length-place.false c.requires.5)

pub by_one-requires-in-88 : goal.by_one-requires-in-88
unfolding code_of hot_numbers row_of table ends lows highs doubles
by_one-requires-in-88 c = (refl, c.requires.0, c.requires.2, within _ _ c.if-length-place.false c.requires.5)

pub by_one-requires-in-89 : goal.by_one-requires-in-89
unfolding code_of hot_numbers row_of table ends lows highs doubles
by_one-requires-in-89 c = (refl, c.requires.0, c.requires.2, within _ _ c.if-length-place.false c.requires.5)

pub nothing-requires : goal.nothing-requires
unfolding code_of hot_numbers row_of table ends lows highs doubles
nothing-requires c = (refl, c.requires.0, c.requires.2, within _ _ c.if-length-place.false c.requires.5)

pub push-requires-in-164 : goal.push-requires-in-164
unfolding code_of hot_numbers row_of table ends lows highs doubles
push-requires-in-164 c = (refl, c.requires.0, c.requires.2, within _ _ c.if-length-place.false c.requires.5)

pub push-requires-in-165 : goal.push-requires-in-165
unfolding code_of hot_numbers row_of table ends lows highs doubles
push-requires-in-165 c = (refl, c.requires.0, c.requires.2, within _ _ c.if-length-place.false c.requires.5)

pub push-requires-in-166 : goal.push-requires-in-166
unfolding code_of hot_numbers row_of table ends lows highs doubles
push-requires-in-166 c = (refl, c.requires.0, c.requires.2, within _ _ c.if-length-place.false c.requires.5)

pub push-requires-in-167 : goal.push-requires-in-167
unfolding code_of hot_numbers row_of table ends lows highs doubles
push-requires-in-167 c = (refl, c.requires.0, c.requires.2, within _ _ c.if-length-place.false c.requires.5)

pub push-requires-in-168 : goal.push-requires-in-168
unfolding code_of hot_numbers row_of table ends lows highs doubles
push-requires-in-168 c = (refl, c.requires.0, c.requires.2, within _ _ c.if-length-place.false c.requires.5)

pub nothing-requires-in-177 : goal.nothing-requires-in-177
unfolding code_of hot_numbers row_of table ends lows highs doubles
nothing-requires-in-177 c = (refl, c.requires.0, c.requires.2, within _ _ c.if-length-place.false c.requires.5)

pub nothing-requires-in-178 : goal.nothing-requires-in-178
unfolding code_of hot_numbers row_of table ends lows highs doubles
nothing-requires-in-178 c = (refl, c.requires.0, c.requires.2, within _ _ c.if-length-place.false c.requires.5)

pub returns-in-16 : goal.returns-in-16
unfolding code_of hot_numbers row_of table ends lows highs doubles
returns-in-16 c =
    let a = c.args in
    c.literal.ensures a.wide (base_in a.bases.now a.frames) a.back.now
    (sym c.byte_at.ensures ∙ c.in-16.is, c.requires.1, c.requires.3, c.if-length-place.false)

pub returns-in-19 : goal.returns-in-19
unfolding code_of hot_numbers row_of table ends lows highs doubles
returns-in-19 c =
    let a = c.args in
    c.always.ensures a.stack.now (base_in a.bases.now a.frames) a.back.now
    (sym c.byte_at.ensures ∙ c.in-19.is, c.requires.1, c.requires.3, c.if-length-place.false)

pub returns-in-20 : goal.returns-in-20
unfolding code_of hot_numbers row_of table ends lows highs doubles
returns-in-20 c =
    let a = c.args in
    c.choose.ensures (base_in a.bases.now a.frames) a.back.now
    (sym c.byte_at.ensures ∙ c.in-20.is, c.requires.1, c.requires.3, c.if-length-place.false)

pub returns-in-30 : goal.returns-in-30
unfolding code_of hot_numbers row_of table ends lows highs doubles
returns-in-30 c =
    let a = c.args in
    c.by_two.ensures (base_in a.bases.now a.frames) a.back.now a.rom.now a.length a.wide
    (sym c.byte_at.ensures ∙ c.in-30.is, c.requires.1, c.requires.3, c.if-length-place.false)

pub returns-in-31 : goal.returns-in-31
unfolding code_of hot_numbers row_of table ends lows highs doubles
returns-in-31 c =
    let a = c.args in
    c.by_two-in-31.ensures (base_in a.bases.now a.frames) a.back.now a.rom.now a.length a.wide
    (sym c.byte_at.ensures ∙ c.in-31.is, c.requires.1, c.requires.3, c.if-length-place.false)

pub returns-in-32 : goal.returns-in-32
unfolding code_of hot_numbers row_of table ends lows highs doubles
returns-in-32 c =
    let a = c.args in
    c.by_two-in-32.ensures (base_in a.bases.now a.frames) a.back.now a.rom.now a.length a.wide
    (sym c.byte_at.ensures ∙ c.in-32.is, c.requires.1, c.requires.3, c.if-length-place.false)

pub returns-in-35 : goal.returns-in-35
unfolding code_of hot_numbers row_of table ends lows highs doubles
returns-in-35 c =
    let a = c.args in
    c.by_two-in-35.ensures (base_in a.bases.now a.frames) a.back.now a.rom.now a.length a.wide
    (sym c.byte_at.ensures ∙ c.in-35.is, c.requires.1, c.requires.3, c.if-length-place.false)

pub returns-in-36 : goal.returns-in-36
unfolding code_of hot_numbers row_of table ends lows highs doubles
returns-in-36 c =
    let a = c.args in
    c.by_two-in-36.ensures (base_in a.bases.now a.frames) a.back.now a.rom.now a.length a.wide
    (sym c.byte_at.ensures ∙ c.in-36.is, c.requires.1, c.requires.3, c.if-length-place.false)

pub returns-in-37 : goal.returns-in-37
unfolding code_of hot_numbers row_of table ends lows highs doubles
returns-in-37 c =
    let a = c.args in
    c.by_two-in-37.ensures (base_in a.bases.now a.frames) a.back.now a.rom.now a.length a.wide
    (sym c.byte_at.ensures ∙ c.in-37.is, c.requires.1, c.requires.3, c.if-length-place.false)

pub returns-in-38 : goal.returns-in-38
unfolding code_of hot_numbers row_of table ends lows highs doubles
returns-in-38 c =
    let a = c.args in
    c.by_one.ensures (base_in a.bases.now a.frames) a.back.now a.rom.now a.length a.wide
    (sym c.byte_at.ensures ∙ c.in-38.is, c.requires.1, c.requires.3, c.if-length-place.false)

pub returns-in-39 : goal.returns-in-39
unfolding code_of hot_numbers row_of table ends lows highs doubles
returns-in-39 c =
    let a = c.args in
    c.by_two-in-39.ensures (base_in a.bases.now a.frames) a.back.now a.rom.now a.length a.wide
    (sym c.byte_at.ensures ∙ c.in-39.is, c.requires.1, c.requires.3, c.if-length-place.false)

pub returns-in-40 : goal.returns-in-40
unfolding code_of hot_numbers row_of table ends lows highs doubles
returns-in-40 c =
    let a = c.args in
    c.by_two-in-40.ensures (base_in a.bases.now a.frames) a.back.now a.rom.now a.length a.wide
    (sym c.byte_at.ensures ∙ c.in-40.is, c.requires.1, c.requires.3, c.if-length-place.false)

pub returns-in-41 : goal.returns-in-41
unfolding code_of hot_numbers row_of table ends lows highs doubles
returns-in-41 c =
    let a = c.args in
    c.by_two-in-41.ensures (base_in a.bases.now a.frames) a.back.now a.rom.now a.length a.wide
    (sym c.byte_at.ensures ∙ c.in-41.is, c.requires.1, c.requires.3, c.if-length-place.false)

pub returns-in-43 : goal.returns-in-43
unfolding code_of hot_numbers row_of table ends lows highs doubles
returns-in-43 c =
    let a = c.args in
    c.divide.ensures (base_in a.bases.now a.frames) a.back.now a.rom.now a.length a.wide
    (sym c.byte_at.ensures ∙ c.in-43.is, c.requires.1, c.requires.3, c.if-length-place.false)

pub returns-in-44 : goal.returns-in-44
unfolding code_of hot_numbers row_of table ends lows highs doubles
returns-in-44 c =
    let a = c.args in
    c.by_one-in-44.ensures (base_in a.bases.now a.frames) a.back.now a.rom.now a.length a.wide
    (sym c.byte_at.ensures ∙ c.in-44.is, c.requires.1, c.requires.3, c.if-length-place.false)

pub returns-in-45 : goal.returns-in-45
unfolding code_of hot_numbers row_of table ends lows highs doubles
returns-in-45 c =
    let a = c.args in
    c.by_one-in-45.ensures (base_in a.bases.now a.frames) a.back.now a.rom.now a.length a.wide
    (sym c.byte_at.ensures ∙ c.in-45.is, c.requires.1, c.requires.3, c.if-length-place.false)

pub returns-in-46 : goal.returns-in-46
unfolding code_of hot_numbers row_of table ends lows highs doubles
returns-in-46 c =
    let a = c.args in
    c.by_two-in-46.ensures (base_in a.bases.now a.frames) a.back.now a.rom.now a.length a.wide
    (sym c.byte_at.ensures ∙ c.in-46.is, c.requires.1, c.requires.3, c.if-length-place.false)

pub returns-in-47 : goal.returns-in-47
unfolding code_of hot_numbers row_of table ends lows highs doubles
returns-in-47 c =
    let a = c.args in
    c.by_two-in-47.ensures (base_in a.bases.now a.frames) a.back.now a.rom.now a.length a.wide
    (sym c.byte_at.ensures ∙ c.in-47.is, c.requires.1, c.requires.3, c.if-length-place.false)

pub returns-in-48 : goal.returns-in-48
unfolding code_of hot_numbers row_of table ends lows highs doubles
returns-in-48 c =
    let a = c.args in
    c.to_return.ensures (base_in a.bases.now a.frames) a.rom.now a.length a.wide
    (sym c.byte_at.ensures ∙ c.in-48.is, c.requires.1, c.requires.3, c.if-length-place.false)

pub returns-in-49 : goal.returns-in-49
unfolding code_of hot_numbers row_of table ends lows highs doubles
returns-in-49 c =
    let a = c.args in
    rw (← c.base.ensures) (c.from_return.ensures a.rom.now a.length a.wide
    (sym c.byte_at.ensures ∙ c.in-49.is, rw c.base.ensures c.requires.1, c.requires.3, c.if-length-place.false))

pub returns-in-50 : goal.returns-in-50
unfolding code_of hot_numbers row_of table ends lows highs doubles
returns-in-50 c =
    let a = c.args in
    rw (← c.base-in-50.ensures) (c.copy_return.ensures a.rom.now a.length a.wide
    (sym c.byte_at.ensures ∙ c.in-50.is, rw c.base-in-50.ensures c.requires.1, c.requires.3, c.if-length-place.false))

pub returns-in-52 : goal.returns-in-52
unfolding code_of hot_numbers row_of table ends lows highs doubles
returns-in-52 c =
    let a = c.args in
    c.by_one-in-52.ensures (base_in a.bases.now a.frames) a.back.now a.rom.now a.length a.wide
    (sym c.byte_at.ensures ∙ c.in-52.is, c.requires.1, c.requires.3, c.if-length-place.false)

pub returns-in-53 : goal.returns-in-53
unfolding code_of hot_numbers row_of table ends lows highs doubles
returns-in-53 c =
    let a = c.args in
    c.by_one-in-53.ensures (base_in a.bases.now a.frames) a.back.now a.rom.now a.length a.wide
    (sym c.byte_at.ensures ∙ c.in-53.is, c.requires.1, c.requires.3, c.if-length-place.false)

pub returns-in-54 : goal.returns-in-54
unfolding code_of hot_numbers row_of table ends lows highs doubles
returns-in-54 c =
    let a = c.args in
    c.by_one-in-54.ensures (base_in a.bases.now a.frames) a.back.now a.rom.now a.length a.wide
    (sym c.byte_at.ensures ∙ c.in-54.is, c.requires.1, c.requires.3, c.if-length-place.false)

pub returns-in-55 : goal.returns-in-55
unfolding code_of hot_numbers row_of table ends lows highs doubles
returns-in-55 c =
    let a = c.args in
    c.by_one-in-55.ensures (base_in a.bases.now a.frames) a.back.now a.rom.now a.length a.wide
    (sym c.byte_at.ensures ∙ c.in-55.is, c.requires.1, c.requires.3, c.if-length-place.false)

pub returns-in-56 : goal.returns-in-56
unfolding code_of hot_numbers row_of table ends lows highs doubles
returns-in-56 c =
    let a = c.args in
    c.by_one-in-56.ensures (base_in a.bases.now a.frames) a.back.now a.rom.now a.length a.wide
    (sym c.byte_at.ensures ∙ c.in-56.is, c.requires.1, c.requires.3, c.if-length-place.false)

pub returns-in-57 : goal.returns-in-57
unfolding code_of hot_numbers row_of table ends lows highs doubles
returns-in-57 c =
    let a = c.args in
    c.by_one-in-57.ensures (base_in a.bases.now a.frames) a.back.now a.rom.now a.length a.wide
    (sym c.byte_at.ensures ∙ c.in-57.is, c.requires.1, c.requires.3, c.if-length-place.false)

pub returns-in-58 : goal.returns-in-58
unfolding code_of hot_numbers row_of table ends lows highs doubles
returns-in-58 c =
    let a = c.args in
    c.by_two-in-58.ensures (base_in a.bases.now a.frames) a.back.now a.rom.now a.length a.wide
    (sym c.byte_at.ensures ∙ c.in-58.is, c.requires.1, c.requires.3, c.if-length-place.false)

pub returns-in-59 : goal.returns-in-59
unfolding code_of hot_numbers row_of table ends lows highs doubles
returns-in-59 c =
    let a = c.args in
    c.by_two-in-59.ensures (base_in a.bases.now a.frames) a.back.now a.rom.now a.length a.wide
    (sym c.byte_at.ensures ∙ c.in-59.is, c.requires.1, c.requires.3, c.if-length-place.false)

pub returns-in-60 : goal.returns-in-60
unfolding code_of hot_numbers row_of table ends lows highs doubles
returns-in-60 c =
    let a = c.args in
    c.by_two-in-60.ensures (base_in a.bases.now a.frames) a.back.now a.rom.now a.length a.wide
    (sym c.byte_at.ensures ∙ c.in-60.is, c.requires.1, c.requires.3, c.if-length-place.false)

pub returns-in-61 : goal.returns-in-61
unfolding code_of hot_numbers row_of table ends lows highs doubles
returns-in-61 c =
    let a = c.args in
    c.by_two-in-61.ensures (base_in a.bases.now a.frames) a.back.now a.rom.now a.length a.wide
    (sym c.byte_at.ensures ∙ c.in-61.is, c.requires.1, c.requires.3, c.if-length-place.false)

pub returns-in-62 : goal.returns-in-62
unfolding code_of hot_numbers row_of table ends lows highs doubles
returns-in-62 c =
    let a = c.args in
    c.by_two-in-62.ensures (base_in a.bases.now a.frames) a.back.now a.rom.now a.length a.wide
    (sym c.byte_at.ensures ∙ c.in-62.is, c.requires.1, c.requires.3, c.if-length-place.false)

pub returns-in-63 : goal.returns-in-63
unfolding code_of hot_numbers row_of table ends lows highs doubles
returns-in-63 c =
    let a = c.args in
    c.by_two-in-63.ensures (base_in a.bases.now a.frames) a.back.now a.rom.now a.length a.wide
    (sym c.byte_at.ensures ∙ c.in-63.is, c.requires.1, c.requires.3, c.if-length-place.false)

pub returns-in-64 : goal.returns-in-64
unfolding code_of hot_numbers row_of table ends lows highs doubles
returns-in-64 c =
    let a = c.args in
    c.by_two-in-64.ensures (base_in a.bases.now a.frames) a.back.now a.rom.now a.length a.wide
    (sym c.byte_at.ensures ∙ c.in-64.is, c.requires.1, c.requires.3, c.if-length-place.false)

pub returns-in-65 : goal.returns-in-65
unfolding code_of hot_numbers row_of table ends lows highs doubles
returns-in-65 c =
    let a = c.args in
    c.by_two-in-65.ensures (base_in a.bases.now a.frames) a.back.now a.rom.now a.length a.wide
    (sym c.byte_at.ensures ∙ c.in-65.is, c.requires.1, c.requires.3, c.if-length-place.false)

pub returns-in-66 : goal.returns-in-66
unfolding code_of hot_numbers row_of table ends lows highs doubles
returns-in-66 c =
    let a = c.args in
    c.by_two-in-66.ensures (base_in a.bases.now a.frames) a.back.now a.rom.now a.length a.wide
    (sym c.byte_at.ensures ∙ c.in-66.is, c.requires.1, c.requires.3, c.if-length-place.false)

pub returns-in-67 : goal.returns-in-67
unfolding code_of hot_numbers row_of table ends lows highs doubles
returns-in-67 c =
    let a = c.args in
    c.by_two-in-67.ensures (base_in a.bases.now a.frames) a.back.now a.rom.now a.length a.wide
    (sym c.byte_at.ensures ∙ c.in-67.is, c.requires.1, c.requires.3, c.if-length-place.false)

pub returns-in-68 : goal.returns-in-68
unfolding code_of hot_numbers row_of table ends lows highs doubles
returns-in-68 c =
    let a = c.args in
    c.by_three.ensures (base_in a.bases.now a.frames) a.back.now a.rom.now a.length a.wide
    (sym c.byte_at.ensures ∙ c.in-68.is, c.requires.1, c.requires.3, c.if-length-place.false)

pub returns-in-69 : goal.returns-in-69
unfolding code_of hot_numbers row_of table ends lows highs doubles
returns-in-69 c =
    let a = c.args in
    c.by_three-in-69.ensures (base_in a.bases.now a.frames) a.back.now a.rom.now a.length a.wide
    (sym c.byte_at.ensures ∙ c.in-69.is, c.requires.1, c.requires.3, c.if-length-place.false)

pub returns-in-70 : goal.returns-in-70
unfolding code_of hot_numbers row_of table ends lows highs doubles
returns-in-70 c =
    let a = c.args in
    c.drop_one.ensures a.stack.now (base_in a.bases.now a.frames) a.back.now a.rom.now a.length a.wide
    (sym c.byte_at.ensures ∙ c.in-70.is, c.requires.1, c.requires.3, c.if-length-place.false)

pub returns-in-71 : goal.returns-in-71
unfolding code_of hot_numbers row_of table ends lows highs doubles
returns-in-71 c =
    let a = c.args in
    c.dup.ensures (base_in a.bases.now a.frames) a.back.now a.rom.now a.length a.wide
    (sym c.byte_at.ensures ∙ c.in-71.is, c.requires.1, c.requires.3, c.if-length-place.false)

pub returns-in-72 : goal.returns-in-72
unfolding code_of hot_numbers row_of table ends lows highs doubles
returns-in-72 c =
    let a = c.args in
    c.over.ensures (base_in a.bases.now a.frames) a.back.now a.rom.now a.length a.wide
    (sym c.byte_at.ensures ∙ c.in-72.is, c.requires.1, c.requires.3, c.if-length-place.false)

pub returns-in-73 : goal.returns-in-73
unfolding code_of hot_numbers row_of table ends lows highs doubles
returns-in-73 c =
    let a = c.args in
    c.swap.ensures (base_in a.bases.now a.frames) a.back.now a.rom.now a.length a.wide
    (sym c.byte_at.ensures ∙ c.in-73.is, c.requires.1, c.requires.3, c.if-length-place.false)

pub returns-in-74 : goal.returns-in-74
unfolding code_of hot_numbers row_of table ends lows highs doubles
returns-in-74 c =
    let a = c.args in
    c.rot.ensures (base_in a.bases.now a.frames) a.back.now a.rom.now a.length a.wide
    (sym c.byte_at.ensures ∙ c.in-74.is, c.requires.1, c.requires.3, c.if-length-place.false)

pub returns-in-75 : goal.returns-in-75
unfolding code_of hot_numbers row_of table ends lows highs doubles
returns-in-75 c =
    let a = c.args in
    c.rot_back.ensures (base_in a.bases.now a.frames) a.back.now a.rom.now a.length a.wide
    (sym c.byte_at.ensures ∙ c.in-75.is, c.requires.1, c.requires.3, c.if-length-place.false)

pub returns-in-76 : goal.returns-in-76
unfolding code_of hot_numbers row_of table ends lows highs doubles
returns-in-76 c =
    let a = c.args in
    c.tuck.ensures (base_in a.bases.now a.frames) a.back.now a.rom.now a.length a.wide
    (sym c.byte_at.ensures ∙ c.in-76.is, c.requires.1, c.requires.3, c.if-length-place.false)

pub returns-in-77 : goal.returns-in-77
unfolding code_of hot_numbers row_of table ends lows highs doubles
returns-in-77 c =
    let a = c.args in
    c.by_two-in-77.ensures (base_in a.bases.now a.frames) a.back.now a.rom.now a.length a.wide
    (sym c.byte_at.ensures ∙ c.in-77.is, c.requires.1, c.requires.3, c.if-length-place.false)

pub returns-in-78 : goal.returns-in-78
unfolding code_of hot_numbers row_of table ends lows highs doubles
returns-in-78 c =
    let a = c.args in
    c.pick_up.ensures (base_in a.bases.now a.frames) a.back.now a.rom.now a.length a.wide
    (sym c.byte_at.ensures ∙ c.in-78.is, c.requires.1, c.requires.3, c.if-length-place.false)

pub returns-in-79 : goal.returns-in-79
unfolding code_of hot_numbers row_of table ends lows highs doubles
returns-in-79 c =
    let a = c.args in
    c.roll_up.ensures (base_in a.bases.now a.frames) a.back.now a.rom.now a.length a.wide
    (sym c.byte_at.ensures ∙ c.in-79.is, c.requires.1, c.requires.3, c.if-length-place.false)

pub returns-in-80 : goal.returns-in-80
unfolding code_of hot_numbers row_of table ends lows highs doubles
returns-in-80 c =
    let a = c.args in
    c.maybe.ensures (base_in a.bases.now a.frames) a.back.now a.rom.now a.length a.wide
    (sym c.byte_at.ensures ∙ c.in-80.is, c.requires.1, c.requires.3, c.if-length-place.false)

pub returns-in-81 : goal.returns-in-81
unfolding code_of hot_numbers row_of table ends lows highs doubles
returns-in-81 c =
    let a = c.args in
    c.push.ensures (base_in a.bases.now a.frames) a.back.now a.rom.now a.length a.wide
    (sym c.byte_at.ensures ∙ c.in-81.is, c.requires.1, c.requires.3, c.if-length-place.false)

pub returns-in-82 : goal.returns-in-82
unfolding code_of hot_numbers row_of table ends lows highs doubles
returns-in-82 c =
    let a = c.args in
    c.drop_two.ensures a.stack.now (base_in a.bases.now a.frames) a.back.now a.rom.now a.length a.wide
    (sym c.byte_at.ensures ∙ c.in-82.is, c.requires.1, c.requires.3, c.if-length-place.false)

pub returns-in-83 : goal.returns-in-83
unfolding code_of hot_numbers row_of table ends lows highs doubles
returns-in-83 c =
    let a = c.args in
    c.dup_two.ensures (base_in a.bases.now a.frames) a.back.now a.rom.now a.length a.wide
    (sym c.byte_at.ensures ∙ c.in-83.is, c.requires.1, c.requires.3, c.if-length-place.false)

pub returns-in-84 : goal.returns-in-84
unfolding code_of hot_numbers row_of table ends lows highs doubles
returns-in-84 c =
    let a = c.args in
    c.over_two.ensures (base_in a.bases.now a.frames) a.back.now a.rom.now a.length a.wide
    (sym c.byte_at.ensures ∙ c.in-84.is, c.requires.1, c.requires.3, c.if-length-place.false)

pub returns-in-85 : goal.returns-in-85
unfolding code_of hot_numbers row_of table ends lows highs doubles
returns-in-85 c =
    let a = c.args in
    c.swap_two.ensures (base_in a.bases.now a.frames) a.back.now a.rom.now a.length a.wide
    (sym c.byte_at.ensures ∙ c.in-85.is, c.requires.1, c.requires.3, c.if-length-place.false)

pub returns-in-86 : goal.returns-in-86
unfolding code_of hot_numbers row_of table ends lows highs doubles
returns-in-86 c =
    let a = c.args in
    c.rot_two.ensures (base_in a.bases.now a.frames) a.back.now a.rom.now a.length a.wide
    (sym c.byte_at.ensures ∙ c.in-86.is, c.requires.1, c.requires.3, c.if-length-place.false)

pub returns-in-87 : goal.returns-in-87
unfolding code_of hot_numbers row_of table ends lows highs doubles
returns-in-87 c =
    let a = c.args in
    c.by_one-in-87.ensures (base_in a.bases.now a.frames) a.back.now a.rom.now a.length a.wide
    (sym c.byte_at.ensures ∙ c.in-87.is, c.requires.1, c.requires.3, c.if-length-place.false)

pub returns-in-88 : goal.returns-in-88
unfolding code_of hot_numbers row_of table ends lows highs doubles
returns-in-88 c =
    let a = c.args in
    c.by_one-in-88.ensures (base_in a.bases.now a.frames) a.back.now a.rom.now a.length a.wide
    (sym c.byte_at.ensures ∙ c.in-88.is, c.requires.1, c.requires.3, c.if-length-place.false)

pub returns-in-89 : goal.returns-in-89
unfolding code_of hot_numbers row_of table ends lows highs doubles
returns-in-89 c =
    let a = c.args in
    c.by_one-in-89.ensures (base_in a.bases.now a.frames) a.back.now a.rom.now a.length a.wide
    (sym c.byte_at.ensures ∙ c.in-89.is, c.requires.1, c.requires.3, c.if-length-place.false)

pub returns-in-123 : goal.returns-in-123
unfolding code_of hot_numbers row_of table ends lows highs doubles
returns-in-123 c =
    let a = c.args in
    c.nothing.ensures a.stack.now (base_in a.bases.now a.frames) a.back.now a.rom.now a.length a.wide
    (sym c.byte_at.ensures ∙ c.in-123.is, c.requires.1, c.requires.3, c.if-length-place.false)

pub returns-in-164 : goal.returns-in-164
unfolding code_of hot_numbers row_of table ends lows highs doubles
returns-in-164 c =
    let a = c.args in
    c.push-in-164.ensures (base_in a.bases.now a.frames) a.back.now a.rom.now a.length a.wide
    (sym c.byte_at.ensures ∙ c.in-164.is, c.requires.1, c.requires.3, c.if-length-place.false)

pub returns-in-165 : goal.returns-in-165
unfolding code_of hot_numbers row_of table ends lows highs doubles
returns-in-165 c =
    let a = c.args in
    c.push-in-165.ensures (base_in a.bases.now a.frames) a.back.now a.rom.now a.length a.wide
    (sym c.byte_at.ensures ∙ c.in-165.is, c.requires.1, c.requires.3, c.if-length-place.false)

pub returns-in-166 : goal.returns-in-166
unfolding code_of hot_numbers row_of table ends lows highs doubles
returns-in-166 c =
    let a = c.args in
    c.push-in-166.ensures (base_in a.bases.now a.frames) a.back.now a.rom.now a.length a.wide
    (sym c.byte_at.ensures ∙ c.in-166.is, c.requires.1, c.requires.3, c.if-length-place.false)

pub returns-in-167 : goal.returns-in-167
unfolding code_of hot_numbers row_of table ends lows highs doubles
returns-in-167 c =
    let a = c.args in
    c.push-in-167.ensures (base_in a.bases.now a.frames) a.back.now a.rom.now a.length a.wide
    (sym c.byte_at.ensures ∙ c.in-167.is, c.requires.1, c.requires.3, c.if-length-place.false)

pub returns-in-168 : goal.returns-in-168
unfolding code_of hot_numbers row_of table ends lows highs doubles
returns-in-168 c =
    let a = c.args in
    c.push-in-168.ensures (base_in a.bases.now a.frames) a.back.now a.rom.now a.length a.wide
    (sym c.byte_at.ensures ∙ c.in-168.is, c.requires.1, c.requires.3, c.if-length-place.false)

pub returns-in-177 : goal.returns-in-177
unfolding code_of hot_numbers row_of table ends lows highs doubles
returns-in-177 c =
    let a = c.args in
    c.nothing-in-177.ensures a.stack.now (base_in a.bases.now a.frames) a.back.now a.rom.now a.length a.wide
    (sym c.byte_at.ensures ∙ c.in-177.is, c.requires.1, c.requires.3, c.if-length-place.false)

pub returns-in-178 : goal.returns-in-178
unfolding code_of hot_numbers row_of table ends lows highs doubles
returns-in-178 c =
    let a = c.args in
    c.nothing-in-178.ensures a.stack.now (base_in a.bases.now a.frames) a.back.now a.rom.now a.length a.wide
    (sym c.byte_at.ensures ∙ c.in-178.is, c.requires.1, c.requires.3, c.if-length-place.false)

pub returns-in_default : goal.returns-in_default
unfolding code_of hot_numbers row_of table ends lows highs doubles
returns-in_default c =
    let a = c.args in
    rw c.cold.ensures (left_made a.rom.now a.length a.wide (base_in a.bases.now a.frames) a.stack.now a.h
    a.back.now a.b a.place _ c.byte_at.ensures (c.requires.0, c.requires.1, c.requires.2, c.requires.3, c.requires.4)
    (none_hot _ c.in_default.in_default-own.rest))
