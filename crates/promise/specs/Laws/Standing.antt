-- How the state of a passed ROM's run stands before each of its tokens: as the assignment of heights has it. This is the invariant of
-- demand 3. It holds of the state that opening hands back, and a token that is carried out and does not finish keeps it, together with what
-- refusals 6, 1, 7 and 4 ask (`Steady`, Running.antt).
--
-- Letters, here and in the files that use it: x is a text, as in the screen's definitions (0 is what is outside bodies, suc d the body of
-- the b(:) at d), p and q are places, s is a setting, t a token; d is the place of a definition and e the place behind it; k counts frames.
-- Assumes nothing.
use Rattle.std.specs.Prelude.{ℕ, zero, suc, ◌+◌, ◌-◌, ◌≤◌, ◌<◌, ◌≡◌, false, List, [], ◌∷◌, T, get_or}
use Rattle.rom.specs.Header.{length_of}
use Rattle.tokens.specs.Family.{define, call}
use Rattle.tokens.specs.Definition.{new_number, kind_in}
use Rattle.tokens.specs.declared.decoding.Token.{Token}
use Rattle.tree.specs.Whole.{parent_of}
use Rattle.tree.specs.declared.tree.Tree.{Tree}
use Rattle.state.specs.declared.state.State.{State}
use Rattle.state.specs.declared.state.Calls.{Calls}
use Rattle.state.specs.declared.state.Numbers.{Numbers}
use Rattle.screen.specs.Effect.{is_a, is_colon}
use Rattle.screen.specs.Reach.{Setting, extends, Holds, Reach, Met}
use Rattle.screen.specs.Rules.{Assignment}
use Rattle.promise.specs.Trail.{OpenCall, open_call}

-- ---- numbers = the definitions carried out so far
-- a reachable defining token at d, and the place e behind it: "a b(:) reaches through its C2"
pub record Defined (rom : List ℕ) (d e : ℕ) : Type 0 where
  pub setting : Setting
  pub token : Token
  pub met : Met rom 0 setting d token
  pub defines : T (is_a define token)
  pub ends : Holds rom (extends setting.wide token e)

-- The i-th number that a state holds is the one that the token at d defines, and of its kind. The value of a body's number is the place of
-- its first byte; "a body keeps the offset width in force where it was defined".
pub record Held (rom : List ℕ) (ns : Numbers) (i d e : ℕ) : Type 0 where
  pub defined : Defined rom d e
  pub name : get_or ns.programs i 0 ≡ new_number defined.token.operand
  pub kind : get_or ns.kinds i 0 ≡ kind_in defined.token.operand
  pub body : T (is_colon defined.token) → (get_or ns.values i 0 ≡ defined.token.next)
      × (get_or ns.wides i false ≡ defined.setting.wide)

-- A state's numbers are those of the reachable definitions that lie wholly before a place, and no others.
pub record Carried (rom : List ℕ) (home : ℕ) (ns : Numbers) : Type 0 where
  pub real : (i : ℕ) → i < ns.count → (d : ℕ) × (e : ℕ) × Held rom ns i d e × (e ≤ home)
  pub full : (d e : ℕ) (f : Defined rom d e) → e ≤ home → (i : ℕ) × (i < ns.count)
      × (get_or ns.programs i 0 ≡ new_number f.token.operand)

-- ---- frames in step with the call chain
-- Home is where the run stands outside bodies, and `outer` the setting there. Where a call is open, home is the place of the outermost
-- call: the call chain says so of each text in which a call stands, and nothing is asked of a place in a body.
abbrev pub AtHome : (text place : ℕ) → Setting → (home : ℕ) → Setting → Type 0
AtHome zero p s home outer = (p ≡ home) × (s ≡ outer)
AtHome (suc d) p s home outer = Unit {0}

-- the token at a place of a text calls the body of the b(:) at d, which lies wholly before home
pub record Calling (rom : List ℕ) (x p : ℕ) (s : Setting) (t : Token) (d e home : ℕ) : Type 0 where
  pub met : Met rom x s p t
  pub calls : T (is_a call t)
  pub defined : Defined rom d e
  pub colon : T (is_colon defined.token)
  pub number : new_number defined.token.operand ≡ t.number
  pub before : e ≤ home

-- These calls are open, the youngest first, k in number, and the run is in text x. Data heights in x are the assigned ones moved by
-- `floor`, which is the height at entry less the body's need; return heights are counted from `base`. Each frame holds the place behind its
-- call, the width there and the base.
pub data CallChain {rom : List ℕ} (a : Assignment rom) (calls : Calls) (home : ℕ) (outer : Setting)
    : List OpenCall → (k x floor base : ℕ) → Type 0 where
  outside : CallChain a calls home outer [] 0 0 0 0
  within : {open_calls : List OpenCall} {k x floor base p d e : ℕ} {s : Setting} {t : Token}
      → CallChain a calls home outer open_calls k x floor base
      → (c : Calling rom x p s t d e home) → AtHome x p s home outer
      → get_or calls.places k 0 ≡ t.next → get_or calls.wides k false ≡ s.wide → get_or calls.bases k 0 ≡ base + a.back x p
      → CallChain a calls home outer (open_call (floor + a.height x p) c.defined.token.next ∷ open_calls) (suc k) (suc d)
      (floor + (a.height x p - (a.sum t.number).need)) (base + a.back x p)

-- ---- open children
-- a node so many below node 1: so many children are open where it is active
pub data Below (tree : Tree) : (node children : ℕ) → Type 0 where
  own : Below tree 1 0
  child : {k n : ℕ} → 2 ≤ k → k < tree.nodes → Below tree (parent_of tree k) n → Below tree k (suc n)

-- ---- all of it
-- a state with these open calls, the youngest first
pub record Standing {rom : List ℕ} (a : Assignment rom) (open_calls : List OpenCall) (st : State) : Type 0 where
  -- where the state stands: in a text, at a place that is reachable there
  pub text : ℕ
  pub setting : Setting
  pub reach : Reach rom text setting st.place
  pub size : st.length ≡ length_of rom
  -- frames in step with the call chain
  pub home : ℕ
  pub outer : Setting
  pub floor : ℕ
  pub base : ℕ
  pub chain : CallChain a st.calls home outer open_calls st.calls.count text floor base
  pub at : AtHome text st.place setting home outer
  -- heights as assigned, in a body relative to entry
  pub height : st.stack.height ≡ floor + a.height text st.place
  pub back : st.back.height ≡ base + a.back text st.place
  -- the width by the place
  pub wide : st.wide ≡ setting.wide
  -- numbers, nodes and open children by home
  pub numbers : Carried rom home st.numbers
  pub count : st.numbers.count ≡ outer.numbers
  pub nodes : st.tree.nodes ≡ outer.nodes
  pub children : Below st.tree st.active outer.children
  -- the program started at node 1, where finish-device is refused
  pub first : st.first ≡ 1
