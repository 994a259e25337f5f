use Rattle.acts.proofs.Encoding.{range_is}
use Rattle.acts.proofs.encode.bad_string.Goals as goal

pub returns-in-Rom : goal.returns-in-Rom
returns-in-Rom c =
    rw (
      ← range_is _ _ _ _ _ c.requires,
      ← c.window_of.ensures,
      c.in-Rom.is,
    ) c.is_spread.ensures

pub returns-in-Work : goal.returns-in-Work
returns-in-Work c =
    rw (
      ← range_is _ _ _ _ _ c.requires,
      ← c.window_of.ensures,
      c.in-Work.is,
    )

pub returns-in-Nowhere : goal.returns-in-Nowhere
returns-in-Nowhere c =
    rw (
      ← range_is _ _ _ _ _ c.requires,
      ← c.window_of.ensures,
      c.in-Nowhere.is,
    )
