-- Who plays in the current game: the tickets that run in it, in the house and on the sheet, are those whose span in the log has it. The ledger's
-- tickets are numbered from 1 in a row and each runs as its span says, and a number that was never issued has no games.
use Prim.Native.Nat.{ℕ, ◌+◌, ◌≤◌, ◌<◌}
use native.Mathlib.Omega.{arith}
use mathlib.Core.Path.{◌≡◌, refl, sym, ap, subst⁻¹, ◌∙◌}
use mathlib.Core.Bool.{Bool, true, false, cond, ◌&&◌, ◌||◌}
use mathlib.Core.Logic.{◌⊎◌, inl, inr, ⊎_elim}
use mathlib.Core.List.{List, [], ◌∷◌, map, map-map}
use lib.Dec.{ltb, leb, eqb}
use lib.ListN.{length}
use borrow.Author.Tests.{le-leb, le-ltb, ltb-false, eqb-true}
use Rattle.sale.specs.Lists.{keep, any, member}
use Rattle.house.specs.Tickets.{Ticket, runs_in}
use Rattle.house.specs.Model.{Model}
use Rattle.house.specs.Commands.{running_in}
use Rattle.house.specs.Sheet.{Sheet, games_from, playing}
use Rattle.house.specs.Draws.{Different}
use Rattle.house.specs.Claims.{Log, sheet_of, game_of, games_of, span_of, PlaysExactly}
use Rattle.house.proofs.Ledger.{Orderly, house_of, line_of}
use Rattle.house.proofs.MoneyLaws.{all_from, keep_map, keep_same}
use Rattle.house.proofs.LiveTickets.{running_live}
use Rattle.house.proofs.AwardLaws.{playing_lines}
use Rattle.house.proofs.LogLaws.{and_false, games_have, different_games, span_has, unissued_span}
use Rattle.house.proofs.Won.{Told, TicketTold, game_told, issued_told}
use Rattle.house.proofs.RowLists.{earlier_or_not}

-- ---- what is kept of numbers

member_kept : (p : ℕ → Bool) (n : ℕ) (ns : List ℕ) → member n (keep p ns) ≡ (member n ns && p n)
unfolding member any keep
member_kept p n [] = refl
member_kept p n (k ∷ ns) = go (p k) refl (eqb n k) refl (member_kept p n ns)
  where
    go :
        (kept : Bool)
        → p k ≡ kept
        → (same : Bool)
        → eqb n k ≡ same
        → any (eqb n) (keep p ns) ≡ (any (eqb n) ns && p n)
        → any (eqb n) (cond kept (k ∷ keep p ns) (keep p ns)) ≡ ((same || any (eqb n) ns) && p n)
    go true e true f rest = rw (f, ap p (eqb-true n k f) ∙ e)
    go true e false f rest = rw f rest
    go false e true f rest =
        let none : p n ≡ false = ap p (eqb-true n k f) ∙ e in
        rest ∙ ap (λ b. any (eqb n) ns && b) none ∙ and_false (any (eqb n) ns) ∙ sym none
    go false e false f rest = rest

different_kept : (p : ℕ → Bool) (ns : List ℕ) → Different ns → Different (keep p ns)
unfolding keep
different_kept p [] different = tt
different_kept p (n ∷ ns) (new, rest) = go (p n) (different_kept p ns rest)
  where
    go : (kept : Bool) → Different (keep p ns) → Different (cond kept (n ∷ keep p ns) (keep p ns))
    go true different = (member_kept p n ns ∙ ap (λ b. b && p n) new, different)
    go false different = different

-- ---- the tickets that play

module _ (m : Model) (log : Log) (orderly : Orderly m) (told : Told m log) where
  abbrev in_game : ℕ → Bool
  in_game n = member (game_of log) (games_of (span_of n log))

  runs_told : (t : Ticket) → TicketTold m.game log t → runs_in m.game t ≡ in_game t.number
  unfolding runs_in
  runs_told t follows =
      follows.runs m.game (omega arith) ∙ ap (λ g. member g (games_of (span_of t.number log))) (sym (game_told m log told))

  abbrev players : List ℕ
  players = keep in_game (games_from 1 (length m.live))

  running_players : map (λ t. t.number) (keep (runs_in m.game) m.live) ≡ players
  running_players =
      ap (map (λ t. t.number))
      (keep_same (runs_in m.game) (λ t. in_game t.number) m.live (all_from runs_told m.live told.tickets))
      ∙ sym (keep_map in_game (λ t. t.number) m.live)
      ∙ ap (keep in_game) orderly.numbers

  unissued_idle : (n : ℕ) → (n ≡ 0) ⊎ (m.issued < n) → in_game n ≡ false
  unissued_idle n never =
      ap (λ s. member (game_of log) (games_of s)) (unissued_span log n (⊎_elim inl (λ h. inr (omega (arith, issued_told m log told))) never))
      ∙ span_has (game_of log) (record { first = 0; stop = 0 })
      ∙ ap (λ b. leb 0 (game_of log) && b) (le-ltb (game_of log) 0 (omega arith))
      ∙ and_false (leb 0 (game_of log))

  players_exact : PlaysExactly log players
  players_exact =
      record {
        exactly = λ n. member_kept in_game n (games_from 1 (length m.live)) ∙ go n (member n (games_from 1 (length m.live))) refl;
        once = different_kept in_game (games_from 1 (length m.live)) (different_games 1 (length m.live));
      }
    where
      never_issued : (n : ℕ) → (leb 1 n && ltb n (1 + length m.live)) ≡ false → (n ≡ 0) ⊎ (m.issued < n)
      never_issued n e = ⊎_elim (λ h. inl (omega arith)) later (earlier_or_not n 1)
        where
          later : 1 ≤ n → (n ≡ 0) ⊎ (m.issued < n)
          later h = inr (omega (arith, orderly.issued, ltb-false n (1 + length m.live) (sym (ap (λ b. b && ltb n (1 + length m.live)) (le-leb 1 n h)) ∙ e)))

      go : (n : ℕ) (issued : Bool) → member n (games_from 1 (length m.live)) ≡ issued → (issued && in_game n) ≡ in_game n
      go n true e = refl
      go n false e = sym (unissued_idle n (never_issued n (sym (games_have n 1 (length m.live)) ∙ e)))

  pub house_players : PlaysExactly log (map (λ t. t.number) (running_in (house_of m)))
  house_players =
      subst⁻¹ (PlaysExactly log) (ap (map (λ t. t.number)) (running_live m.game m.live) ∙ running_players) players_exact

  pub sheet_players : PlaysExactly log (map (λ l. l.number) (playing (sheet_of log)))
  sheet_players =
      subst⁻¹ (PlaysExactly log)
      (ap (λ (s : Sheet). map (λ l. l.number) (playing s)) told.sheet
      ∙ ap (map (λ l. l.number)) (playing_lines m.game m.live)
      ∙ map-map (λ l. l.number) (line_of m.game) (keep (runs_in m.game) m.live)
      ∙ running_players)
      players_exact
