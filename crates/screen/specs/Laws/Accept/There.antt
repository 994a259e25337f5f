-- Rule 6, where the model's rounds pass: a token is at each reachable place. Assumes nothing.
use Rattle.std.specs.Prelude.{ℕ, zero, suc, ◌≤◌, ◌≡◌, List, Ok}
use Rattle.std.proofs.Common.{sym, subst}
use Rattle.rom.specs.Header.{length_of}
use Rattle.rom.specs.Sizes.{rom_most}
use Rattle.tokens.specs.declared.decoding.Token.{Token}
use Rattle.screen.specs.Reach.{Setting, token_at, Reach}
use Rattle.screen.specs.Laws.Walk.Visits.{visit_fits}
use Rattle.screen.specs.Laws.Found.Model.{Board, outside_text}
use Rattle.screen.specs.Laws.Walk.Rounds.{Chain}
use Rattle.screen.specs.Laws.Accept.Cover.{start}
use Rattle.screen.specs.Laws.Accept.Spots.{outside, body_fits, inside}

module _ (rom : List ℕ) (fits : length_of rom ≤ rom_most) {last : Board} (passed : Chain rom (start rom fits) last) where
  pub a_token : {x p : ℕ} {s : Setting} → Reach rom x s p → (t : Token) × (token_at rom x s.wide p ≡ Ok t)
  a_token {x = zero} {p = p} r =
      let o = outside rom fits passed r in
      let f = visit_fits rom (outside_text (length_of rom) o.board.stand) o.board.kinds o.board.sums p o.cell
      (o.ran.walked.fine o.at) in
      (f.token, subst (λ v. token_at rom 0 v.wide p ≡ Ok f.token) (sym o.setting) f.meets.is)
  a_token {x = suc d} {p = p} r =
      let i = inside rom fits passed r in
      let f = body_fits rom fits passed i in
      (f.token, subst (λ v. token_at rom (suc d) v.wide p ≡ Ok f.token) (sym i.setting) f.meets.is)
