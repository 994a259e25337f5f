-- encode+, encode-int and encode-string: the state and the memory that the code leaves are the step's. Assumes nothing.
use Rattle.std.proofs.Common.{◌≡◌, ℕ, ◌+◌, ◌-◌, ◌%◌, ◌^◌, ◌<◌, ◌≤◌, min, true, false, List, [], ◌∷◌, ◌++◌, length, set, sym, refl, ap, ◌∙◌}
use Rattle.std.proofs.Common.{arith, length-append, eq-eqb, ne_eqb}
use Rattle.tokens.specs.Family.{encode_int, encode_string, join}
use Rattle.tokens.specs.Decode.{token_of}
use Rattle.memory.specs.Window.{bad_string, range_of, window_of, part_of, resolve_of}
use Rattle.memory.specs.Writing.{written_of, bytes_of}
use Rattle.memory.specs.Laws.Memory.{
  written_append,
  written_more,
  written_none,
  length_resolved,
  string_range,
  range_rom,
  resolved_rom,
  resolved_work,
}
use Rattle.memory.specs.Laws.Memory.{resolved_none}
use Rattle.memory.specs.declared.window.Window.{Window}
use Rattle.memory.specs.declared.window.Window.TheVariants.{Rom, Work, Nowhere}
use Rattle.state.specs.State.{with_work, moved}
use Rattle.state.specs.Scene.{scene, turn, handed_back}
use Rattle.state.specs.Effects.{gave, effects, act_of}
use Rattle.state.specs.Joints.Moves.{Popped, stepped, pop_of}
use Rattle.acts.specs.Joints.Acts.{Quiet, Writes, WritesFrom, pair_on, encoded_on}
use Rattle.state.specs.declared.state.State.{State}
use Rattle.state.specs.Answer.{Stepped, Going, Refused}
use Rattle.acts.proofs.Cold.{join_apart, join_good, int_good, string_bad, string_full, string_good}
use Rattle.state.specs.Laws.Done.{carried, stopped}
use Rattle.acts.proofs.Pops.{popped_by, cell_at, first_pop, two_pops, four_pops, lowered, paired_on}
use Rattle.rom.specs.Sizes.{data_most, work_size}

-- ---- encode+
module _ (st : State) (next : ℕ) (h : st.stack.height ≤ data_most) (l : 4 ≤ st.stack.height) (p q t u : Popped)
    (e : p ≡ pop_of st) (f : q ≡ pop_of p.state) (g : t ≡ pop_of q.state) (i : u ≡ pop_of t.state) where
  pub apart_told : (x : ℕ) (r : Stepped) → x ≡ (u.cell + t.cell) % 2 ^ 32 → (x ≡ q.cell → ⊥) → r ≡ stepped (Refused 25) st
      → Quiet join st next r
  apart_told x r a n w o k rom work store =
      let c = four_pops st p q t u l e f g i in
      rw w (sym (stopped (scene rom work store st) (token_of k 0x1400_0042 o next) 25 refl
      (join_apart (scene rom work store st) k o next h l (ne_eqb _ _ (λ z. n (a ∙ rw (c.2, c.3, c.1) z))))))

  pub joined_told : (x y : ℕ) (r : Stepped) → x ≡ (u.cell + t.cell) % 2 ^ 32 → x ≡ q.cell → y ≡ (t.cell + p.cell) % 2 ^ 32
      → r ≡ stepped Going (pair_on u.state next u.cell y) → Quiet join st next r
  unfolding act_of effects
  joined_told x y r a b d w o k rom work store =
      let c = four_pops st p q t u l e f g i in
      let z : (cell_at st 3 + cell_at st 2) % 2 ^ 32 ≡ cell_at st 1 = rw (← c.2, ← c.3, ← c.1) (sym a ∙ b) in
      rw (w, d, c.4, c.3, c.2, c.0, paired_on st 4 next (cell_at st 3) ((cell_at st 2 + cell_at st 0) % 2 ^ 32))
      (sym (carried (scene rom work store st) (token_of k 0x1400_0042 o next)
      (join_good (scene rom work store st) k o next h l (eq-eqb _ _ z))))

  pub joined_room : u.state.stack.height + 2 ≤ data_most
  joined_room = let c = four_pops st p q t u l e f g i in let d = lowered st 4 u.state c.4 in omega arith

-- ---- the bytes given, after so many pops
abbrev encoded_by : State → ℕ → ℕ → ℕ → State
encoded_by st k next count =
    with_work (moved st (gave st k ((0x2000_0000 + st.work_place) ∷ count ∷ [])) next) (st.work_place + count)

encoded_told : (st : State) (k next count : ℕ) (s : State) (r : Stepped) (then store : List ℕ) → s ≡ popped_by st k
    → r ≡ stepped Going (encoded_on s next count)
    → handed_back r then store ≡ turn Going (encoded_by st k next count) then store
encoded_told st k next count s r then store e w =
    ap (λ (x : Stepped). handed_back x then store) w
    ∙ ap (λ (x : State). turn Going (encoded_on x next count) then store) e
    ∙ ap (λ (x : State). turn Going (with_work x (st.work_place + count)) then store)
    (paired_on st k next (0x2000_0000 + st.work_place) count)

-- ---- encode-int
module _ (st : State) (next : ℕ) (l : 1 ≤ st.stack.height) (h : st.stack.height + 1 ≤ data_most) (m : st.work_place + 4 ≤ work_size)
    (p : Popped) (e : p ≡ pop_of st) where
  pub int_told : (work then : List ℕ) (r : Stepped) → then ≡ written_of work st.work_place (bytes_of p.cell)
      → r ≡ stepped Going (encoded_on p.state next 4) → Writes encode_int work then st next r
  unfolding act_of effects
  int_told work then r a w n o rom store =
      let c = first_pop st p l e in
      encoded_told st 1 next 4 p.state r then store c.1 w
      ∙ ap (λ (x : List ℕ). turn Going (encoded_by st 1 next 4) x store)
      (a ∙ ap (λ (x : ℕ). written_of work st.work_place (bytes_of x)) c.0)
      ∙ sym (carried (scene rom work store st) (token_of n 0x1200_0012 o next) (int_good (scene rom work store st) n o next l h m))

  pub int_room : (p.state.stack.height + 2 ≤ data_most) × (p.state.work_place + 4 ≤ work_size)
  int_room =
      let c = first_pop st p l e in
      let d = lowered st 1 p.state c.1 in
      let f : p.state.work_place ≡ st.work_place = ap (λ (x : State). x.work_place) c.1 in
      (omega arith, omega arith)

-- ---- encode-string
pub range_is : (rom work : List ℕ) (size address count : ℕ) → size ≤ length rom
    → window_of size (length work) address count ≡ range_of rom work size address count
range_is rom work size address count h = let e : min size (length rom) ≡ size = omega arith in rw e

module _ (rom work then : List ℕ) (size address count at : ℕ) (h : size ≤ length rom) (w : Window)
    (e : w ≡ window_of size (length work) address count) where
  abbrev Laid : Type 0
  Laid = then ≡ written_of work at (resolve_of rom work size address count)

  range_told : (v : Window) → w ≡ v → range_of rom work size address count ≡ v
  range_told v f = sym (range_is rom work size address count h) ∙ sym e ∙ f

  pub in_rom : (k : ℕ) → w ≡ Rom k → k + count ≤ length rom
  in_rom k f = range_rom rom work size address count k (range_told (Rom k) f)

  -- the code counts a part by its end
  pub laid_rom : (k : ℕ) → w ≡ Rom k → then ≡ written_of work at (part_of rom k (k + count - k)) → Laid
  laid_rom k f g = let i : k + count - k ≡ count = omega arith in
      rw (resolved_rom rom work size address count k (range_told (Rom k) f)) (rw i at g)

  pub laid_work : (k : ℕ) → w ≡ Work k → then ≡ written_of work at (part_of work k count) → Laid
  laid_work k f g = rw (resolved_work rom work size address count k (range_told (Work k) f)) g

  pub laid_none : w ≡ Nowhere → then ≡ work → Laid
  laid_none f g = rw (resolved_none rom work size address count (range_told Nowhere f), g) (sym (written_none work at))

module _ (st : State) (next : ℕ) (h : st.stack.height ≤ data_most) (l : 2 ≤ st.stack.height) (p q : Popped) (e : p ≡ pop_of st)
    (f : q ≡ pop_of p.state)
    (rom work : List ℕ) where
  pub string_bad_told : (r : Stepped) → bad_string rom work st.length q.cell p.cell ≡ true → r ≡ stepped (Refused 22) st
      → WritesFrom encode_string rom work work st next r
  string_bad_told r b w n o store =
      let c = two_pops st p q l e f in
      rw w (sym (stopped (scene rom work store st) (token_of n 0x1300_0022 o next) 22 refl
      (string_bad (scene rom work store st) n o next h l (rw (← c.0, ← c.1) b))))

  module _ (b : bad_string rom work st.length q.cell p.cell ≡ false) where
    pub string_full_told : (r : Stepped) → work_size < st.work_place + (p.cell + 1) → r ≡ stepped (Refused 24) st
        → WritesFrom encode_string rom work work st next r
    string_full_told r m w n o store =
        let c = two_pops st p q l e f in
        rw w (sym (stopped (scene rom work store st) (token_of n 0x1300_0022 o next) 24 refl
        (string_full (scene rom work store st) n o next h l (rw (← c.0, ← c.1) b) (rw (← c.0) m))))

    module _ (m : st.work_place + (p.cell + 1) ≤ work_size) where
      pub string_told : (then last : List ℕ) (r : Stepped)
          → then ≡ written_of work st.work_place (resolve_of rom work st.length q.cell p.cell)
          → last ≡ set then (st.work_place + p.cell) 0 → r ≡ stepped Going (encoded_on q.state next (p.cell + 1))
          → WritesFrom encode_string rom work last st next r
      unfolding act_of effects
      string_told then last r a d w n o store =
          let c = two_pops st p q l e f in
          let bytes = resolve_of rom work st.length (cell_at st 1) (cell_at st 0) in
          let v : bad_string rom work st.length (cell_at st 1) (cell_at st 0) ≡ false = rw (← c.0, ← c.1) b in
          let g : length bytes ≡ cell_at st 0 = length_resolved rom work st.length (cell_at st 1) (cell_at st 0)
          (string_range rom work st.length (cell_at st 1) (cell_at st 0) v) in
          let i : p.cell + 1 ≡ length (bytes ++ (0 ∷ [])) = sym (length-append bytes (0 ∷ []) ∙ ap (λ (k : ℕ). k + 1) (g ∙ sym c.0)) in
          let x : then ≡ written_of work st.work_place bytes = rw (← c.0, ← c.1) a in
          let j : last ≡ written_of work st.work_place (bytes ++ (0 ∷ [])) =
          d
          ∙ ap (λ (m : List ℕ). set m (st.work_place + p.cell) 0) x
          ∙ ap (λ (k : ℕ). set (written_of work st.work_place bytes) (st.work_place + k) 0) (c.0 ∙ sym g)
          ∙ sym (written_more (written_of work st.work_place bytes) (st.work_place + length bytes) 0 [] ∙ written_none _ _)
          ∙ sym (written_append work st.work_place bytes (0 ∷ [])) in
          encoded_told st 2 next (p.cell + 1) q.state r last store c.2 w
          ∙ ap (λ (k : ℕ). turn Going (encoded_by st 2 next k) last store) i
          ∙ ap (λ (m : List ℕ). turn Going (encoded_by st 2 next (length (bytes ++ (0 ∷ [])))) m store) j
          ∙ sym (carried (scene rom work store st) (token_of n 0x1300_0022 o next)
          (string_good (scene rom work store st) n o next h l v (rw (← c.0) m)))

      pub string_room : (q.state.stack.height + 2 ≤ data_most) × (q.state.work_place + (p.cell + 1) ≤ work_size)
      string_room =
          let c = two_pops st p q l e f in
          let d = lowered st 2 q.state c.2 in
          let g : q.state.work_place ≡ st.work_place = ap (λ (x : State). x.work_place) c.2 in
          (omega arith, omega arith)
