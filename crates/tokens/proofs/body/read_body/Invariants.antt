use Rattle.std.proofs.Common.{◌-◌, ◌≡◌}
use Rattle.tokens.specs.Body.{body_of}
use Rattle.tokens.proofs.body.read_body.Given as goal

-- the body from where reading stands is the whole body
abbrev pub invariant-loop-length : goal.invariant-loop-length
invariant-loop-length l = body_of l.rom l.length l.wide l.kinds l.at ≡ body_of l.rom l.length l.wide l.kinds l.place

abbrev pub decreases-loop-length : goal.decreases-loop-length
decreases-loop-length l = l.length - l.at
