-- @ and !, c@ and c!: what memory answers is what the step says. Assumes nothing.
use Rattle.std.proofs.Common.{◌≡◌, ℕ, ◌-◌, ◌%◌, ◌≤◌, Bool, true, false, eqb, List, [], ◌∷◌, sym, refl, ◌∙◌, subst, eq-eqb, ne_eqb}
use Rattle.std.proofs.Common.{Result, Ok, Err}
use Rattle.cells.specs.Choice.{pick}
use Rattle.rom.specs.Bytes.{byte_of, word32_of}
use Rattle.tokens.specs.Decode.{token_of}
use Rattle.tokens.specs.declared.decoding.Operand.{Operand}
use Rattle.tokens.specs.declared.decoding.Token.{Token}
use Rattle.memory.specs.Window.{work_base, bad_range, resolve_of}
use Rattle.memory.specs.Writing.{written_of, bytes_of}
use Rattle.memory.specs.Cells.{uneven, outside_work, fetch_cell_of, fetch_byte_of, cell_refusal, byte_refusal}
use Rattle.state.specs.State.{moved}
use Rattle.state.specs.Scene.{Scene, scene, turn, refuse, goes, cell_of}
use Rattle.state.specs.Effects.{gave, effects, act_of}
use Rattle.state.specs.Step.{done_of}
use Rattle.acts.specs.Joints.Acts.{of_cell, look_of, store_why, store_then}
use Rattle.state.specs.declared.state.State.{State}
use Rattle.state.specs.Answer.{Going, Refused}
use Rattle.acts.proofs.Cold.{fetch_cell, fetch_byte, store_cell, store_byte}
use Rattle.state.specs.Laws.Done.{carried, stopped}
use Rattle.rom.specs.Sizes.{data_most}

module _ (rom work store : List ℕ) (st : State) (n : ℕ) (o : Operand) (next : ℕ) (h : st.stack.height ≤ data_most) where
  abbrev s : Scene
  s = scene rom work store st

  -- ---- fetched
  module _ (l : 1 ≤ st.stack.height) where
    abbrev look : Token
    look = token_of n 0x0C00_0011 o next

    abbrev FetchIs : Result ℕ ℕ → Type 0
    FetchIs (Err why) = done_of s look ≡ refuse why s
    FetchIs (Ok v) = done_of s look ≡ goes s (moved st (gave st 1 (v ∷ [])) next)

    cell_fetched : (b u : Bool) → of_cell n ≡ true → bad_range rom work st.length (cell_of s 0) 4 ≡ b → uneven (cell_of s 0) ≡ u
        → FetchIs (pick b (Err 22) (pick u (Err 23) (Ok (word32_of (resolve_of rom work st.length (cell_of s 0) 4) 0))))
    unfolding act_of effects
    cell_fetched true u c e f = stopped s look 22 refl (fetch_cell s n o next h l true u c e f)
    cell_fetched false true c e f = stopped s look 23 refl (fetch_cell s n o next h l false true c e f)
    cell_fetched false false c e f = carried s look (fetch_cell s n o next h l false false c e f) ∙ rw c

    byte_fetched : (b : Bool) → of_cell n ≡ false → bad_range rom work st.length (cell_of s 0) 1 ≡ b
        → FetchIs (pick b (Err 22) (Ok (byte_of (resolve_of rom work st.length (cell_of s 0) 1) 0)))
    unfolding act_of effects
    byte_fetched true c e = stopped s look 22 refl (fetch_byte s n o next h l true c e)
    byte_fetched false c e = carried s look (fetch_byte s n o next h l false c e) ∙ rw c

    fetch_is : (c : Bool) → of_cell n ≡ c
        → FetchIs (pick c (fetch_cell_of rom work st.length (cell_of s 0)) (fetch_byte_of rom work st.length (cell_of s 0)))
    unfolding fetch_cell_of fetch_byte_of
    fetch_is true c = cell_fetched (bad_range rom work st.length (cell_of s 0) 4) (uneven (cell_of s 0)) c refl refl
    fetch_is false c = byte_fetched (bad_range rom work st.length (cell_of s 0) 1) c refl

    module _ (f : Result ℕ ℕ) (a : ℕ) (e : a ≡ cell_of s 0) (g : f ≡ look_of n rom work st.length a) where
      fetch_told : FetchIs f
      fetch_told = subst FetchIs (sym (rw e at g)) (fetch_is (of_cell n) refl)

      pub fetch_refused : (why : ℕ) → f ≡ Err why → done_of s look ≡ refuse why s
      fetch_refused why i = subst FetchIs i fetch_told

      pub fetch_good : (v : ℕ) → f ≡ Ok v → done_of s look ≡ goes s (moved st (gave st 1 (v ∷ [])) next)
      fetch_good v i = subst FetchIs i fetch_told

  -- ---- stored
  module _ (l : 2 ≤ st.stack.height) where
    abbrev put : Token
    put = token_of n 0x0D00_0020 o next

    abbrev StoreIs : ℕ → List ℕ → Type 0
    StoreIs why then =
        done_of s put ≡ pick (eqb why 0) (turn Going (moved st (gave st 2 []) next) then store) (turn (Refused why) st then store)

    cell_stored_lem : (b u : Bool) → of_cell n ≡ true → outside_work work (cell_of s 0) 4 ≡ b → uneven (cell_of s 0) ≡ u
        → StoreIs (pick b 22 (pick u 23 0)) (pick (eqb (pick b 22 (pick u 23 0)) 0)
        (written_of work (cell_of s 0 - work_base) (bytes_of (cell_of s 1))) work)
    unfolding act_of effects
    cell_stored_lem true u c e f = stopped s put 22 refl (store_cell s n o next h l true u c e f)
    cell_stored_lem false true c e f = stopped s put 23 refl (store_cell s n o next h l false true c e f)
    cell_stored_lem false false c e f = carried s put (store_cell s n o next h l false false c e f) ∙ rw c

    byte_stored_lem : (b : Bool) → of_cell n ≡ false → outside_work work (cell_of s 0) 1 ≡ b
        → StoreIs (pick b 22 0) (pick (eqb (pick b 22 0) 0) (written_of work (cell_of s 0 - work_base) ((cell_of s 1 % 256) ∷ [])) work)
    unfolding act_of effects
    byte_stored_lem true c e = stopped s put 22 refl (store_byte s n o next h l true c e)
    byte_stored_lem false c e = carried s put (store_byte s n o next h l false c e) ∙ rw c

    store_is : (c : Bool) → of_cell n ≡ c → StoreIs (store_why n work (cell_of s 0)) (store_then n work (cell_of s 0) (cell_of s 1))
    unfolding cell_refusal byte_refusal
    store_is true c = rw c (cell_stored_lem (outside_work work (cell_of s 0) 4) (uneven (cell_of s 0)) c refl refl)
    store_is false c = rw c (byte_stored_lem (outside_work work (cell_of s 0) 1) c refl)

    module _ (why a v : ℕ) (then : List ℕ) (e : a ≡ cell_of s 0) (f : v ≡ cell_of s 1) (g : why ≡ store_why n work a)
        (i : then ≡ store_then n work a v) where
      store_told : StoreIs why then
      store_told = rw (g, i, e, f) (store_is (of_cell n) refl)

      pub store_refused : (why ≡ 0 → ⊥) → done_of s put ≡ turn (Refused why) st then store
      store_refused z = store_told ∙ rw (ne_eqb why 0 z)

      pub store_good : why ≡ 0 → done_of s put ≡ turn Going (moved st (gave st 2 []) next) then store
      store_good z = store_told ∙ rw (eq-eqb why 0 z)
