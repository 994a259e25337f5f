-- The FCode bytes of a spread ROM laid out as far as a run asks for them: the run is the same. Assumes nothing.
use Prim.Native.Nat.{ℕ, ◌≤◌, min, max}
use native.Mathlib.Omega.{arith}
use native.Mathlib.Decide.{dec_le}
use mathlib.Core.Path.{◌≡◌, refl, sym, ◌∙◌, ap}
use mathlib.Core.Bool.{Bool, true, false}
use mathlib.Core.Logic.{◌⊎◌, inl, inr}
use mathlib.Core.List.{List, ◌++◌}
use lib.Dec.{ltb}
use lib.ListN.{length, take, drop, replicate, length-replicate}
use lib.Seq.{take_at, take_all, length-take-le}
use borrow.Author.Tests.{ltb-false}
use Rattle.cells.specs.Laws.Facts.{neither_is}
use Rattle.rom.specs.Sizes.{rom_least}
use Rattle.rom.specs.Header.{wrong_rom}
use Rattle.rom.specs.Spread.{view_of, fcode_most, laid_on}
use Rattle.rom.specs.Laws.Spread.{laid_length, laid_all, half_most}
use Rattle.rom.specs.Laws.Past.{alike_below, cut_to}
use Rattle.rom.specs.declared.spread.Spread.{Spread}
use Rattle.state.specs.Scene.{scene}
use Rattle.state.specs.Step.{wrong_sizes, ready_of}
use Rattle.state.specs.Run.{run_of}
use Rattle.state.specs.Laws.Keeps.Whole.{not_going}
use Rattle.state.specs.Laws.Past.{same_run}
use Rattle.state.specs.declared.state.State.{State}
use Rattle.state.specs.Answer.{Refused}
use Rattle.machine.specs.Joints.Rooms.{large_room, RoomFor, SpreadIs, Laying}
use Rattle.machine.proofs.Turns.{run_known}

pub has_room : (n k : ℕ) → n ≤ k → RoomFor n (replicate k 0)
has_room n k h = let e = length-replicate {A = ℕ} k 0 in record { fits = omega arith }

-- what the front of a room holds once so many FCode bytes are laid there
abbrev pub front_of : ℕ → List ℕ → List ℕ → List ℕ
front_of n fcode room = take n (laid_on (take n room) fcode ++ drop n room)

front_is : (n : ℕ) (fcode room : List ℕ) → RoomFor n room → front_of n fcode room ≡ laid_on (take n room) fcode
front_is n fcode room f =
    take_at (laid_on (take n room) fcode) (drop n room) n (laid_length (take n room) fcode ∙ length-take-le n room f.fits)

pub front_length : (n : ℕ) (fcode room : List ℕ) → RoomFor n room → length (front_of n fcode room) ≡ n
front_length n fcode room f =
    ap (λ l. length l) (front_is n fcode room f) ∙ laid_length (take n room) fcode ∙ length-take-le n room f.fits

-- the first of the FCode bytes
laid : (n : ℕ) (fcode room : List ℕ) → RoomFor n room → n ≤ length fcode → front_of n fcode room ≡ take n fcode
laid n fcode room f h =
    let k : length (take n room) ≡ n = length-take-le n room f.fits in
    front_is n fcode room f ∙ laid_all (take n room) fcode (omega arith) ∙ ap (λ j. take j fcode) k

module _ (spread : Spread) (rom work store room : List ℕ) (st : State) (n : ℕ) (l : Laying spread rom st.length n) (f : RoomFor n room)
    (budget : ℕ) where
  abbrev fcode : List ℕ
  fcode = view_of spread rom

  -- as far as the length, or all of them
  first_run : ((st.length ≤ n) ⊎ (n ≡ length fcode))
      → run_of budget (scene (take n fcode) work store st) ≡ run_of budget (scene fcode work store st)
  first_run (inl h) =
      sym (same_run budget 0 fcode (take n fcode) work store st (alike_below h (cut_to n fcode l.least l.within l.most)))
  first_run (inr e) = ap (λ bytes. run_of budget (scene bytes work store st)) (take_all n fcode (omega arith))

  pub laid_run : run_of budget (scene (front_of n fcode room) work store st) ≡ run_of budget (scene fcode work store st)
  laid_run = ap (λ bytes. run_of budget (scene bytes work store st)) (laid n fcode room f l.within) ∙ first_run l.enough

-- ---- a ROM of a wrong size is refused as one of no bytes is
module _ (fcode other work store : List ℕ) (st : State) (w : wrong_rom fcode ≡ true) (v : wrong_rom other ≡ true) (budget : ℕ) where
  refused_by : (b : Bool) → wrong_sizes work store ≡ b → run_of budget (scene other work store st) ≡ run_of budget
      (scene fcode work store st)
  unfolding ready_of
  refused_by true e =
      run_known budget 0 (scene other work store st) (Refused 6) (rw e) (not_going 6)
      ∙ sym (run_known budget 0 (scene fcode work store st) (Refused 6) (rw e) (not_going 6))
  refused_by false e =
      run_known budget 0 (scene other work store st) (Refused 1) (rw (e, v)) (not_going 1)
      ∙ sym (run_known budget 0 (scene fcode work store st) (Refused 1) (rw (e, w)) (not_going 1))

  pub wrong_run : run_of budget (scene other work store st) ≡ run_of budget (scene fcode work store st)
  wrong_run = refused_by (wrong_sizes work store) refl

-- ---- how many bytes are asked for
module _ (spread : Spread) (rom : List ℕ) (size n : ℕ) (w : wrong_rom (view_of spread rom) ≡ false)
    (e : n ≡ min (length (view_of spread rom)) (max rom_least size)) where
  least : rom_least ≤ length (view_of spread rom)
  least =
      ltb-false (length (view_of spread rom)) rom_least
      (neither_is (ltb (length (view_of spread rom)) rom_least) (ltb (fcode_most (view_of spread rom)) (length (view_of spread rom))) w).0

  most : length (view_of spread rom) ≤ fcode_most (view_of spread rom)
  most =
      ltb-false (fcode_most (view_of spread rom)) (length (view_of spread rom))
      (neither_is (ltb (length (view_of spread rom)) rom_least) (ltb (fcode_most (view_of spread rom)) (length (view_of spread rom))) w).1

  pub laying : Laying spread rom size n
  laying =
      let l = least in
      record {
        least = omega arith;
        within = omega arith;
        most = most;
        enough = elim (dec_le size n) [ yes h ↦ inl h | no h ↦ inr (omega arith) ];
      }

  pub laying_most : SpreadIs spread rom → n ≤ large_room
  laying_most s =
      let m = most in
      let h = half_most spread rom s.apart s.is in
      omega arith
