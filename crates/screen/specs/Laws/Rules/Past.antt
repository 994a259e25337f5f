-- "Bytes past the length are ignored", and so is whatever else leaves a ROM's tokens as they are: of two ROMs with the same verdict of the
-- header, the same length, first width and tokens the same tokens can be reached, and heights of the one are heights of the other. By the
-- rules of reachability and of heights, and by nothing that finds them. Assumes nothing.
use Rattle.std.specs.Prelude.{ℕ, ◌≡◌, Bool, List, Err, Ok, Result}
use Rattle.std.proofs.Math.Path.{refl}
use Rattle.std.proofs.Common.{sym, ap, ◌∙◌, subst}
use Rattle.rom.specs.Sizes.{first_place}
use Rattle.rom.specs.Header.{length_of}
use Rattle.tokens.specs.Place.{read_of}
use Rattle.tokens.specs.Laws.Past.{same_read, SamePrograms, programs_back}
use Rattle.tokens.specs.declared.decoding.Token.{Token}
use Rattle.screen.specs.Reach.{Setting, setting, in_body, token_at, Claim, reached, Holds, first, body, next, by_itself, past_body}
use Rattle.screen.specs.Reach.{unnamed, named, to_next, through_body, last, more}
use Rattle.screen.specs.Reach.{Met, Body, Starts, entry, behind}
use Rattle.screen.specs.Rules.{Most, Assignment}
use Rattle.screen.specs.Promise.{Marks, Promised, wrong_size, bad_header, no_heights, passes}

-- ---- what is reachable
module _ {rom other : List ℕ} (a : SamePrograms rom other) where
  same_token : (x : ℕ) (wide : Bool) (p : ℕ) → token_at rom x wide p ≡ token_at other x wide p
  same_token x wide p =
      same_read (length_of rom) rom other a.tokens wide (in_body x) p ∙ ap (λ n. read_of other n wide (in_body x) p) a.length

  -- a token of the one is a token of the other
  token_there : (x : ℕ) (wide : Bool) (p : ℕ) {t : Token} → token_at rom x wide p ≡ Ok t → token_at other x wide p ≡ Ok t
  token_there x wide p e = sym (same_token x wide p) ∙ e

  pub holds_there : {c : Claim} → Holds rom c → Holds other c
  holds_there first = subst (λ w. Holds other (reached 0 (setting w) first_place)) (sym a.wide) first
  holds_there (body {s} {d} h e k r) = body (holds_there h) (token_there 0 s.wide d e) k (holds_there r)
  holds_there (next {x} {s} {p} h e l) = next (holds_there h) (token_there x s.wide p e) (holds_there l)
  holds_there (by_itself k i) = by_itself (holds_there k) i
  holds_there (past_body k e) = past_body k (holds_there e)
  holds_there (unnamed n) = unnamed n
  holds_there (named {s = s} {d = d} h e n x l) = named (holds_there h) (token_there 0 s.wide d e) n (holds_there x) l
  holds_there (to_next n) = to_next n
  holds_there (through_body k r) = through_body k (holds_there r)
  holds_there (last {w} {p} e n) = last (token_there 1 w p e) n
  holds_there (more {w} {p} e n k r) = more (token_there 1 w p e) n (holds_there k) (holds_there r)

  pub met_there : {x p : ℕ} {s : Setting} {t : Token} → Met rom x s p t → Met other x s p t
  met_there {x} {p} {s} m = record { reach = holds_there m.reach; is = token_there x s.wide p m.is }

  body_there : {s : Setting} {d n c : ℕ} {t : Token} → Body rom s d t n c → Body other s d t n c
  body_there b = record { met = met_there b.met; colon = b.colon; number = b.number; reads = holds_there b.reads }

  starts_there : {w : Bool} {e p : ℕ} → Starts rom w e p → Starts other w e p
  starts_there entry = entry
  starts_there {w} (behind {p} s e n) = behind (starts_there s) (token_there 1 w p e) n

-- ---- heights
module _ {rom other : List ℕ} (a : SamePrograms rom other) where
  abbrev back : SamePrograms other rom
  back = programs_back a

  most_there : {d m : ℕ} (worth : ℕ → Token → ℕ) → Most rom d worth m → Most other d worth m
  most_there worth m =
      record {
        all = λ k. m.all (met_there back k);
        got = λ n. let (s, p, t, k, e) = m.got n in (s, p, t, met_there a k, e);
      }

  pub heights_there : Assignment rom → Assignment other
  heights_there h =
      record {
        height = h.height;
        back = h.back;
        sum = h.sum;
        start = h.start;
        enter = λ b. h.enter (body_there back b);
        there = λ m. h.there (met_there back m);
        flow = λ m l. h.flow (met_there back m) (holds_there back l);
        plain = λ m. h.plain (met_there back m);
        ended = λ b. let (r, p, u, m, l) = h.ended (body_there back b) in (r, p, u, met_there a m, l);
        ends = λ b m l. h.ends (body_there back b) (met_there back m) l;
        stays = λ b m l i. starts_there a (h.stays (body_there back b) (met_there back m) l i);
        need = λ b. most_there _ (h.need (body_there back b));
        peak = λ b. most_there _ (h.peak (body_there back b));
        return_peak = λ b. most_there _ (h.return_peak (body_there back b));
        frames = λ b. most_there _ (h.frames (body_there back b));
        valued = λ m d n. h.valued (met_there back m) d n;
        data_limit = λ m. h.data_limit (met_there back m);
        return_limit = λ m. h.return_limit (met_there back m);
        frame_limit = λ m. h.frame_limit (met_there back m);
        apart = λ m e k l. h.apart (met_there back m) (holds_there back e) (met_there back k) l;
        clear = λ m b i k f l u. h.clear (met_there back m) b i (met_there back k) f l u;
        known = λ m. holds_there a (h.known (met_there back m));
        once = λ m k d e n. h.once (met_there back m) (met_there back k) d e n;
        few = λ m. h.few (met_there back m);
        opened = λ m f. h.opened (met_there back m) f;
        closed = λ m f. h.closed (met_there back m) f;
        limited = λ m. h.limited (met_there back m);
        whole = λ {x} {p} {s} r. let t = h.whole (holds_there back r) in (t.0, token_there a x s.wide p t.1);
        read = λ m k. let c = h.read (met_there back m) k in (c.0, holds_there a c.1);
        aimed = λ m. h.aimed (met_there back m);
        aimed_in = λ {s} {d} {n} {c} {p} b k e. h.aimed_in (body_there back b) (starts_there back k) (token_there back 1 s.wide p e);
      }

-- they are the same heights, and a number does the same to them
module _ {rom other : List ℕ} (a : SamePrograms rom other) (h : Assignment rom) where
  pub same_heights : ((heights_there a h).height ≡ h.height) × ((heights_there a h).back ≡ h.back) × ((heights_there a h).sum ≡ h.sum)
  unfolding heights_there
  same_heights = (refl, refl, refl)

-- ---- the promise: what allows an answer and its marks for the one allows them for the other
module _ {rom other : List ℕ} (a : SamePrograms rom other) where
  marks_there : (h : Assignment rom) {marks : List ℕ} → Marks rom h marks → Marks other (heights_there a h) marks
  unfolding heights_there
  marks_there h m =
      record {
        size = m.size;
        height = λ r. m.height (holds_there (programs_back a) r);
        elsewhere = λ p n. m.elsewhere p (λ x s r. n x s (holds_there a r));
      }

  pub promised_there : {before after : List ℕ} {v : Result (Unit {0}) ℕ} → Promised rom before v after → Promised other before v after
  promised_there (wrong_size n) = wrong_size n
  promised_there {before} (bad_header s n) =
      subst (λ w. Promised other before (Err w) before) (sym a.header) (bad_header s (λ e. n (a.header ∙ e)))
  promised_there (no_heights s h n) = no_heights s (sym a.header ∙ h) (λ k. n (heights_there (programs_back a) k))
  promised_there (passes s h k m) = passes s (sym a.header ∙ h) (heights_there a k) (marks_there k m)
