-- What opening hands back is ready for its first token. Assumes nothing.
use Rattle.std.specs.Prelude.{ℕ, ◌≡◌, refl, List, length, replicate}
use Rattle.std.proofs.Common.{arith, eq-eqb}
use Rattle.std.proofs.lemmas.List.{length-replicate}
use Rattle.rom.specs.Sizes.{work_size, store_size}
use Rattle.rom.specs.Header.{header_of}
use Rattle.rom.specs.Laws.Header.{header_facts}
use Rattle.tree.specs.Held.{live_among}
use Rattle.tree.specs.Whole.{every_below, older}
use Rattle.tree.specs.Node.{fresh_tree}
use Rattle.tree.specs.Laws.Trees.{every_one}
use Rattle.tree.specs.Laws.Trees.{Whole as WholeTree}
use Rattle.state.specs.Scene.{Scene, scene, turn}
use Rattle.state.specs.Step.{ready_of}
use Rattle.state.specs.Open.{fresh_state, open_of}
use Rattle.state.specs.Laws.Keeps.Whole.{Parts, Rooted, parts_whole, facts_ready}
use Rattle.state.specs.Answer.{Going}

fresh_tree_lem : WholeTree fresh_tree
unfolding live_among every_below
fresh_tree_lem =
    record {
      nodes_least = omega arith;
      nodes_most_lem = omega arith;
      held_most = omega arith;
      parents_older = every_one 2 (older fresh_tree) tt;
      records_sound = λ i l. absurd (omega arith);
      live_most = omega arith;
    }

-- the scene of an opened ROM
abbrev pub opened : List ℕ → Scene
opened rom = scene rom (replicate work_size 0) (replicate store_size 0) (fresh_state rom)

pub fresh_rooted : (rom : List ℕ) → Rooted (fresh_state rom)
fresh_rooted rom = (omega arith, λ k h l. absurd (omega arith))

pub fresh_parts : (rom : List ℕ) → header_of rom ≡ 0 → Parts (fresh_state rom)
fresh_parts rom e =
    let h = header_facts rom e in
    record {
      height = omega arith;
      returns = omega arith;
      work = omega arith;
      place = record { from = omega arith; to = omega arith };
      calls = record { count = omega arith; each = λ i l. absurd (omega arith) };
      numbers = record { count = omega arith; each = λ i l. absurd (omega arith) };
      tree = fresh_tree_lem;
      first_there = omega arith;
      first_least = omega arith;
      active_there = omega arith;
    }

-- with any work memory and store of their sizes
pub fresh_ready : (rom work store : List ℕ) → length work ≡ work_size → length store ≡ store_size → header_of rom ≡ 0
    → ready_of (scene rom work store (fresh_state rom)) ≡ Going
fresh_ready rom work store w s e =
    let h = header_facts rom e in
    facts_ready (scene rom work store (fresh_state rom))
    (record {
      work = w;
      store = s;
      rom_from = h.rom_from;
      fits = h.fits;
      rom_to = h.rom_to;
      least = h.least;
      most = h.most;
      unfinished = refl;
    })
    (parts_whole (fresh_state rom) (fresh_parts rom e) (omega arith))

pub opened_ready : (rom : List ℕ) → header_of rom ≡ 0 → ready_of (opened rom) ≡ Going
opened_ready rom e = fresh_ready rom (replicate work_size 0) (replicate store_size 0) (length-replicate {A = ℕ} work_size 0)
    (length-replicate {A = ℕ} store_size 0) e

pub open_good : (rom work store : List ℕ) → length work ≡ work_size → length store ≡ store_size → header_of rom ≡ 0
    → open_of rom work store ≡ turn Going (fresh_state rom) (replicate work_size 0) (replicate store_size 0)
unfolding open_of
open_good rom work store f g e = rw (eq-eqb (length work) work_size f, eq-eqb (length store) store_size g, e, open_of)
