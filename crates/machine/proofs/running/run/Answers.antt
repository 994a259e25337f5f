use Rattle.std.proofs.Common.{ℕ, ◌≡◌, sym, ◌∙◌, arith}
use Rattle.rom.specs.declared.spread.Spread.TheVariants.{One, Two, Four}
use Rattle.machine.proofs.running.run.Goals as goal

two_apart : Two ≡ One → ⊥
two_apart e = let z : ◌≡◌ {A = ℕ} 0 1 = cc in omega arith

four_apart : Four ≡ One → ⊥
four_apart e = let z : ◌≡◌ {A = ℕ} 0 1 = cc in omega arith

pub run_spread-requires : goal.run_spread-requires
run_spread-requires c = record { is = c.spread_of-spread.ensures; apart = λ e. two_apart (sym c.in-Two.is ∙ e) }

pub run_spread-requires-in-Four : goal.run_spread-requires-in-Four
run_spread-requires-in-Four c = record { is = c.spread_of-spread.ensures; apart = λ e. four_apart (sym c.in-Four.is ∙ e) }

pub returns-in-One : goal.returns-in-One
returns-in-One c = rw (← c.spread_of-spread.ensures, c.in-One.is) c.run_fcode.ensures

pub returns-in-Two : goal.returns-in-Two
returns-in-Two c = rw (← c.spread_of-spread.ensures) c.run_spread.ensures

pub returns-in-Four : goal.returns-in-Four
returns-in-Four c = rw (← c.spread_of-spread.ensures) c.run_spread-in-Four.ensures
