use Rattle.std.proofs.Common.{sym, ◌∙◌}
use Rattle.tree.specs.Laws.Trees.{not_counted, not_older, not_sound, whole_but_live}
use Rattle.tree.proofs.tree.is_whole.Goals.{then-counted, else-counted, then-all_older, else-all_older}
use Rattle.tree.proofs.tree.is_whole.Goals as goal

pub returns-then-all_sound : goal.returns-then-all_sound
returns-then-all_sound c =
    let t = c.args.tree in
    elim c.if-counted.branch [
      | then-counted w ↦
          elim c.if-all_older.branch [
            | then-all_older v ↦
                rw c.live_bytes.ensures
                (whole_but_live t (sym c.counted.ensures ∙ w.if-counted.true)
                (sym w.all_older.ensures ∙ sym w.value-is ∙ v.if-all_older.true)
                (sym v.all_sound.ensures ∙ sym v.value-is ∙ c.if-all_sound.true))
            | else-all_older v ↦ absurd (cc)
          ]
      | else-counted w ↦ elim c.if-all_older.branch [ then-all_older v ↦ absurd (cc) | else-all_older v ↦ absurd (cc) ]
    ]

pub returns-else-all_sound : goal.returns-else-all_sound
returns-else-all_sound c =
    let t = c.args.tree in
    elim c.if-counted.branch [
      | then-counted w ↦
          elim c.if-all_older.branch [
            | then-all_older v ↦
                c.if-all_sound.false
                ∙ not_sound t (sym c.counted.ensures ∙ w.if-counted.true) (sym w.all_older.ensures ∙ sym w.value-is ∙ v.if-all_older.true)
                (sym v.all_sound.ensures ∙ sym v.value-is ∙ c.if-all_sound.false)
            | else-all_older v ↦
                c.if-all_sound.false
                ∙ not_older t (sym c.counted.ensures ∙ w.if-counted.true) (sym w.all_older.ensures ∙ sym w.value-is ∙ v.if-all_older.false)
          ]
      | else-counted w ↦ c.if-all_sound.false ∙ not_counted t (sym c.counted.ensures ∙ w.if-counted.false)
    ]
