-- The height rules of the screen: what an assignment of heights is, in document 01's words, rule by rule. Nothing here knows how one is
-- found. Assumes nothing.
use Rattle.std.specs.Prelude.{ℕ, zero, suc, ◌+◌, ◌-◌, ◌≤◌, ◌<◌, min, max, ◌≡◌, not, List, T, Ok}
use Rattle.rom.specs.Sizes.{first_place, data_most, return_most, frames_most, numbers_most, nodes_most}
use Rattle.tokens.specs.Family.{finish, leave, define, finish_device}
use Rattle.tokens.specs.Definition.{new_number}
use Rattle.tokens.specs.declared.decoding.Token.{Token}
use Rattle.screen.specs.Effect.{is_a, allowed, fixes, is_colon, aims, is_branch, astray, value_sum, effect_of}
use Rattle.screen.specs.declared.effect.Sum.{Sum}
use Rattle.screen.specs.Reach.{In, Setting, nodes_after, numbers_after, token_at, known, reads, extends, leads, Holds, Reach, Met, Body}
use Rattle.screen.specs.Reach.{Starts}

-- the frame that a text itself is: a body entered by itself takes one
abbrev pub own_frame : ℕ → ℕ
own_frame zero = 0
own_frame (suc d) = 1

-- The largest of the values that a body's reachable tokens have, by place and token; 0 where all are 0.
pub record Most (rom : List ℕ) (d : ℕ) (worth : ℕ → Token → ℕ) (m : ℕ) : Type 0 where
  pub all : {s : Setting} {p : ℕ} {t : Token} → Met rom (suc d) s p t → worth p t ≤ m
  pub got : (m ≡ 0 → ⊥) → (s : Setting) × (p : ℕ) × (t : Token) × Met rom (suc d) s p t × (worth p t ≡ m)

-- "An assignment gives each reachable token a data height and return height at entry such that:" A body's heights are those that it has
-- where it is entered at its need; its return height is counted from its base. What a program number does to heights is part of it.
pub record Assignment (rom : List ℕ) : Type 0 where
  -- by text and place
  pub height : ℕ → ℕ → ℕ
  pub back : ℕ → ℕ → ℕ
  -- by program number
  pub sum : ℕ → Sum
  -- 1. "place 8 has both heights 0,
  pub start : (height 0 first_place ≡ 0) × (back 0 first_place ≡ 0)
  -- a body's first byte return height 0 (its base);
  pub enter : {s : Setting} {d n c : ℕ} {t : Token} → Body rom s d t n c
      → (height (suc d) t.next ≡ (sum n).need) × (back (suc d) t.next ≡ 0)
  -- every cell the token reads is there,
  pub there : {x p : ℕ} {s : Setting} {t : Token} → Met rom x s p t
      → ((effect_of sum t).takes ≤ height x p) × ((effect_of sum t).return_takes ≤ back x p)
  -- and every successor has the height that the token's effect gives;
  pub flow : {x p q : ℕ} {s : Setting} {t : Token} → Met rom x s p t → Holds rom (leads s.wide p t q)
      → (height x q ≡ height x p - (effect_of sum t).takes + (effect_of sum t).gives)
      × (back x q ≡ back x p - (effect_of sum t).return_takes + (effect_of sum t).return_gives)
  -- 4E, 4F and 50 are not allowed"
  pub plain : {x p : ℕ} {s : Setting} {t : Token} → Met rom x s p t → T (allowed t)
  -- 2. "each body has at least one reachable end (33 or C2),
  pub ended : {s : Setting} {d n c : ℕ} {t : Token} → Body rom s d t n c → (r : Setting) × (p : ℕ) × (u : Token) × Met rom (suc d) r p u
      × T (is_a leave u)
  -- all with one data height and return height at its base;
  pub ends : {s r : Setting} {d n c p : ℕ} {t u : Token} → Body rom s d t n c → Met rom (suc d) r p u → T (is_a leave u)
      → (height (suc d) p ≡ (sum n).out) × (back (suc d) p ≡ 0)
  -- its reachable branches stay on token starts of the body.
  pub stays : {s r : Setting} {d n c p q : ℕ} {t u : Token} → Body rom s d t n c → Met rom (suc d) r p u → T (is_branch u)
      → In q (aims u.operand)
      → Starts rom s.wide t.next q
  -- Its need is the deepest reach below entry,
  pub need : {s : Setting} {d n c : ℕ} {t : Token} → Body rom s d t n c
      → Most rom d (λ p u. (sum n).need + (effect_of sum u).takes - height (suc d) p) (sum n).need
  -- its peak the highest rise, nested calls included"
  pub peak : {s : Setting} {d n c : ℕ} {t : Token} → Body rom s d t n c
      → Most rom d (λ p u. max (height (suc d) p) (height (suc d) p - (effect_of sum u).takes + (effect_of sum u).rise)) (sum n).peak
  pub return_peak : {s : Setting} {d n c : ℕ} {t : Token} → Body rom s d t n c
      → Most rom d (λ p u. back (suc d) p + (effect_of sum u).return_rise) (sum n).return_peak
  pub frames : {s : Setting} {d n c : ℕ} {t : Token} → Body rom s d t n c → Most rom d (λ p u. 1 + (effect_of sum u).frames) (sum n).frames
  -- any other number than a body's gives one cell
  pub valued : {s : Setting} {d : ℕ} {t : Token} → Met rom 0 s d t → T (is_a define t) → T (not (is_colon t))
      → sum (new_number t.operand) ≡ value_sum
  -- 3. "data heights run from 0 to 64, return cells over all frames to 32, frames to 16, at every call's peak and for each body entered by
  -- itself at its need"
  pub data_limit : {x p : ℕ} {s : Setting} {t : Token} → Met rom x s p t
      → (height x p ≤ data_most) × (height x p - (effect_of sum t).takes + (effect_of sum t).rise ≤ data_most)
  pub return_limit : {x p : ℕ} {s : Setting} {t : Token} → Met rom x s p t → back x p + (effect_of sum t).return_rise ≤ return_most
  pub frame_limit : {x p : ℕ} {s : Setting} {t : Token} → Met rom x s p t → own_frame x + (effect_of sum t).frames ≤ frames_most
  -- 4. "outside bodies no two reachable tokens overlap (a b(:) reaches through its C2),
  pub apart : {p q e : ℕ} {s r : Setting} {t u : Token} → Met rom 0 s p t → Holds rom (extends s.wide t e) → Met rom 0 r q u → p < q
      → e ≤ q
  -- and no reachable defining token, CC, 11F or 127 starts in a reachable branch's span (from the lower of branch and destination,
  -- included, to the higher, not included)"
  pub clear : {x p q c : ℕ} {s r : Setting} {t u : Token} → Met rom x s p t → T (is_branch t) → In q (aims t.operand) → Met rom 0 r c u
      → T (fixes u)
      → min p q ≤ c → c < max p q → ⊥
  -- 5. "each number used is defined by a reachable token that lies wholly before it,
  pub known : {x p : ℕ} {s : Setting} {t : Token} → Met rom x s p t → Holds rom (known p t)
  -- none twice,
  pub once : {d e : ℕ} {s r : Setting} {t u : Token} → Met rom 0 s d t → Met rom 0 r e u → T (is_a define t) → T (is_a define u)
      → new_number t.operand ≡ new_number u.operand → d ≡ e
  -- 256 at most;
  pub few : {p : ℕ} {s : Setting} {t : Token} → Met rom 0 s p t → numbers_after t s.numbers ≤ numbers_most
  -- open children never fall below 0
  pub opened : {p : ℕ} {s : Setting} {t : Token} → Met rom 0 s p t → T (is_a finish_device t) → 1 ≤ s.children
  -- and are 0 at every finish;
  pub closed : {p : ℕ} {s : Setting} {t : Token} → Met rom 0 s p t → T (is_a finish t) → s.children ≡ 0
  -- at most 32 nodes"
  pub limited : {p : ℕ} {s : Setting} {t : Token} → Met rom 0 s p t → nodes_after t s.nodes ≤ nodes_most
  -- 6. "no reachable token, and none in a body, would give 10, 11, 12, 13, 18 or 19": 10, 11 and 18 here, 12 above and 13 above;
  pub whole : {x p : ℕ} {s : Setting} → Reach rom x s p → (t : Token) × (token_at rom x s.wide p ≡ Ok t)
  -- a body's tokens;
  pub read : {d : ℕ} {s : Setting} {t : Token} → Met rom 0 s d t → T (is_colon t) → (c : ℕ) × Holds rom (reads s.wide t.next c)
  -- 19 of reachable branches, taken or not, and of every branch of a body
  pub aimed : {x p : ℕ} {s : Setting} {t : Token} → Met rom x s p t → T (not (astray t))
  pub aimed_in : {s : Setting} {d n c p : ℕ} {t u : Token} → Body rom s d t n c → Starts rom s.wide t.next p
      → token_at rom 1 s.wide p ≡ Ok u
      → T (not (astray u))
