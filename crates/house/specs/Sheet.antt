-- "The count sheet is fed each command with its operands and its answer's code, and nothing else from the house. It holds today, the game, its
-- balls, the six pools, the two debts, the nine figures, and a line for each accepted Sell, numbered from 1. It starts as a fresh house does,
-- with seeds and pooled 1,350,000 and the other figures 0. On a code other than 0 nothing on it changes." And each number that Collect issues "gets a line, with the
-- games it was issued for". With the house it shares the rule book
-- (`sale`, `prizes` and `calendar`, with a sale's operands and the record of a jackpot's pools), the commands as they are given and the form of a reply (Command), and
-- the names of the nine figures (Figures), and no ticket, check or money move.
use Rattle.std.specs.Prelude.{ℕ, zero, suc, ◌+◌, ◌-◌, Bool, cond, not, ◌&&◌, List, [], ◌∷◌, ◌++◌, map, ltb, eqb, length}
use Rattle.prizes.specs.Hits.{draw_of}
use Rattle.sale.specs.Lists.{sum, keep, member}
use Rattle.sale.specs.Kinds.{kind_of}
use Rattle.sale.specs.Price.{paid_games, charge}
use Rattle.sale.specs.Checks.{Operands, feature_stake, price_of, charge_of}
use Rattle.prizes.specs.Jackpots.{guarantee_of_six, guarantee_of_eight, fresh_seeds, fresh_jackpot}
use Rattle.prizes.specs.Settle.{Entry, Settled, settle}
use Rattle.calendar.specs.Calendar.{has_expired}
use Rattle.prizes.specs.declared.jackpot.Jackpot.{Jackpot}
use Rattle.house.specs.Command.{Command, open', sell, cancel, ball, claim, expire, transfer, collect, call_off, Reply, replies}
use Rattle.house.specs.Figures.{Figures}

pub record Line : Type 0 where
  pub number : ℕ
  pub operands : Operands
  pub first : ℕ
  pub left : List ℕ
  pub due : ℕ
  pub finishing_day : ℕ

pub record Sheet : Type 0 where
  pub today : ℕ
  pub game : ℕ
  pub balls : List ℕ
  pub six : Jackpot
  pub eight : Jackpot
  pub lines : List Line
  pub figures : Figures

abbrev pub fresh_sheet : Sheet
fresh_sheet =
    record {
      today = 0;
      game = 1;
      balls = [];
      six = fresh_jackpot guarantee_of_six;
      eight = fresh_jackpot guarantee_of_eight;
      lines = [];
      figures = record {
        taken = 0;
        seeds = fresh_seeds;
        paid = 0;
        refunded = 0;
        owed = 0;
        held = 0;
        unclaimed = 0;
        pooled = fresh_seeds;
        gained = 0;
        lost = 0;
      };
    }

-- ---- the same sheet but for what is named

abbrev pub sheet_with : List Line → Figures → Sheet → Sheet
sheet_with lines figures s =
    record { today = s.today; game = s.game; balls = s.balls; six = s.six; eight = s.eight; lines = lines; figures = figures }

abbrev pub game_with : ℕ → List ℕ → Sheet → Sheet
game_with game balls s =
    record { today = s.today; game = game; balls = balls; six = s.six; eight = s.eight; lines = s.lines; figures = s.figures }

abbrev pub pools_with : Jackpot → Jackpot → Sheet → Sheet
pools_with six eight s =
    record { today = s.today; game = s.game; balls = s.balls; six = six; eight = eight; lines = s.lines; figures = s.figures }

-- ---- what figures gain and lose

-- the figures by name; retained is gained less lost
pub data Figure : Type 0 where
  taken seeds paid refunded owed held unclaimed pooled gained lost : Figure
  deriving Discrete as same_figure

-- the figures with a change made to one of them
unfoldable pub on_figure : Figure → (ℕ → ℕ) → Figures → Figures
on_figure x change f =
    let next : Figure → ℕ → ℕ = λ y cents. elim (same_figure x y) [ yes same ↦ change cents | no other ↦ cents ] in
    record {
      taken = next taken f.taken;
      seeds = next seeds f.seeds;
      paid = next paid f.paid;
      refunded = next refunded f.refunded;
      owed = next owed f.owed;
      held = next held f.held;
      unclaimed = next unclaimed f.unclaimed;
      pooled = next pooled f.pooled;
      gained = next gained f.gained;
      lost = next lost f.lost;
    }

abbrev pub gains : Figure → ℕ → Figures → Figures
gains x cents f = on_figure x (λ n. n + cents) f

abbrev pub loses : Figure → ℕ → Figures → Figures
loses x cents f = on_figure x (λ n. n - cents) f

-- cents go from one figure to another
abbrev pub moves : Figure → Figure → ℕ → Figures → Figures
moves from to cents f = gains to cents (loses from cents f)

-- ---- lines

-- so many games in a row from the first on
unfoldable pub games_from : ℕ → ℕ → List ℕ
games_from first zero = []
games_from first (suc n) = first ∷ games_from (first + 1) n

-- the paid stakes of some games of a line, its feature stake among them: its last games are free
unfoldable pub stakes_of : Line → List ℕ → ℕ
stakes_of l games =
    charge (price_of l.operands)
    (length (keep (λ g. ltb g (l.first + paid_games l.operands.games)) games))

abbrev pub line_entry : ℕ → Line → Entry
line_entry game l =
    record {
      terms = record { kind = kind_of l.operands.kind; games = l.operands.games; stake = l.operands.stake; groups = l.operands.groups; types = l.operands.types };
      marks = l.operands.marks;
      paid = stakes_of l (game ∷ []);
      feature = feature_stake l.operands.feature;
    }

-- a line with other games left: "A line gets today as its finishing day when its last game goes."
unfoldable pub left_with : ℕ → List ℕ → Line → Line
left_with today left l =
    record { number = l.number; operands = l.operands; first = l.first; left = left; due = l.due; finishing_day = cond (eqb (length left) 0 && not (eqb (length l.left) 0)) today l.finishing_day }

abbrev pub due_with : ℕ → Line → Line
due_with cents l =
    record { number = l.number; operands = l.operands; first = l.first; left = l.left; due = cents; finishing_day = l.finishing_day }

unfoldable pub on_line : ℕ → (Line → Line) → List Line → List Line
on_line n f ls = map (λ l. cond (eqb l.number n) (f l) l) ls

unfoldable pub total_at : ℕ → (Line → ℕ) → List Line → ℕ
total_at n f ls = sum (map f (keep (λ l. eqb l.number n) ls))

-- ---- the moves

-- "Open sets today."
unfoldable pub sheet_open : ℕ → Sheet → Sheet
sheet_open d s =
    record { today = d; game = s.game; balls = s.balls; six = s.six; eight = s.eight; lines = s.lines; figures = s.figures }

abbrev pub in_draw : Sheet → Bool
in_draw s = not (eqb (length s.balls) 0)

-- "Sell adds a line: its operands, the games left (all it is sold for), due 0. The charge joins taken and held." With Lucky Last the feature stake is
-- among the operands and in the charge.
abbrev pub new_line : Operands → Sheet → Line
new_line o s =
    let first = cond (in_draw s) (s.game + 1) s.game in
    record { number = length s.lines + 1; operands = o; first = first; left = games_from first o.games; due = 0; finishing_day = 0 }

unfoldable pub sheet_sell : Operands → Sheet → Sheet
sheet_sell o s = sheet_with (s.lines ++ (new_line o s ∷ [])) (gains taken (charge_of o) (gains held (charge_of o) s.figures)) s

-- "Cancel takes off the line's games left, but not the current one when drawing. Their paid stakes go from held to refunded."
abbrev pub stays : Sheet → ℕ → Bool
stays s g = in_draw s && eqb g s.game

unfoldable pub taken_off : Sheet → Line → ℕ
taken_off s l = stakes_of l (keep (λ g. not (stays s g)) l.left)

unfoldable pub sheet_cancel : ℕ → Sheet → Sheet
sheet_cancel n s =
    sheet_with
    (on_line n (λ l. left_with s.today (keep (stays s) l.left) l) s.lines)
    (moves held refunded (total_at n (taken_off s) s.lines) s.figures)
    s

-- "Ball adds the number. The twentieth settles every line with that game left, by Prizes and Jackpots."
abbrev pub playing : Sheet → List Line
playing s = keep (λ l. member s.game l.left) s.lines

-- the paid stakes of the current game
abbrev pub stakes_played : Sheet → ℕ
stakes_played s = sum (map (λ l. stakes_of l (s.game ∷ [])) (playing s))

unfoldable pub sheet_settlement : ℕ → Sheet → Settled
sheet_settlement b s =
    settle (draw_of (s.balls ++ (b ∷ []))) s.six s.eight (map (line_entry s.game) (playing s))

-- "Prizes as cut and jackpot shares join the lines' dues [..]. The game is left no more". A feature prize is a prize that no cut touches.
unfoldable pub settle_lines : ℕ → ℕ → List ℕ → List Line → List Line
settle_lines today game awards [] = []
settle_lines today game [] (l ∷ ls) = l ∷ settle_lines today game [] ls
settle_lines today game (a ∷ awards) (l ∷ ls) =
    cond (member game l.left)
    (left_with today (keep (λ g. not (eqb g game)) l.left) (due_with (l.due + a) l) ∷ settle_lines today game awards ls)
    (l ∷ settle_lines today game (a ∷ awards) ls)

-- "[..] and owed. Held loses the paid stakes. Seeds gains the seeds. Pooled gains contributions and seeds, less shares and money paid back.
-- Retained gains the paid stakes and money paid back, less contributions and prizes."
abbrev pub settle_figures : Settled → ℕ → Figures → Figures
settle_figures r stakes f =
    gains owed (r.prizes + r.shares)
    (loses held stakes
    (gains seeds r.seeds
    (loses pooled (r.shares + r.repaid)
    (gains pooled (r.contributions + r.seeds)
    (gains gained (stakes + r.repaid)
    (gains lost (r.contributions + r.prizes) f))))))

-- "[..] the next is current, without balls."
unfoldable pub sheet_settle : Settled → ℕ → Sheet → Sheet
sheet_settle r stakes s =
    game_with (s.game + 1) []
    (pools_with r.six r.eight
    (sheet_with (settle_lines s.today s.game r.awards s.lines) (settle_figures r stakes s.figures) s))

abbrev pub twentieth : Sheet → Bool
twentieth s = eqb (length s.balls) 19

unfoldable pub sheet_ball : ℕ → Sheet → Sheet
sheet_ball b s =
    cond (twentieth s)
    (sheet_settle (sheet_settlement b s) (stakes_played s) s)
    (game_with s.game (s.balls ++ (b ∷ [])) s)

-- "Claim moves the line's due from owed to paid. [..] A due that was moved is 0."
unfoldable pub sheet_claim : ℕ → Sheet → Sheet
sheet_claim n s =
    sheet_with (on_line n (due_with 0) s.lines) (moves owed paid (total_at n (λ l. l.due) s.lines) s.figures) s

-- "Expire moves, from owed to unclaimed, each due above 0 of a line with no game left" once "today is later than its finishing date a year on":
-- "unclaimed and owed are summed by the new dates".
unfoldable pub too_late : Sheet → Line → Bool
too_late s l = ltb 0 l.due && eqb (length l.left) 0 && has_expired s.today l.finishing_day

abbrev pub late_dues : Sheet → List ℕ
late_dues s = map (λ l. l.due) (keep (too_late s) s.lines)

unfoldable pub sheet_expire : Sheet → Sheet
sheet_expire s =
    sheet_with (map (λ l. cond (too_late s l) (due_with 0 l) l) s.lines) (moves owed unclaimed (sum (late_dues s)) s.figures) s

-- "Transfer moves the cents from unclaimed to that primary and to pooled."
abbrev pub primary_with : ℕ → Jackpot → Jackpot
primary_with cents j =
    record { primary = j.primary + cents; secondary = j.secondary; reimbursement = j.reimbursement; debt = j.debt }

unfoldable pub sheet_transfer : ℕ → ℕ → Sheet → Sheet
sheet_transfer j cents s =
    pools_with
    (cond (eqb j 6) (primary_with cents s.six) s.six)
    (cond (eqb j 8) (primary_with cents s.eight) s.eight)
    (sheet_with s.lines (moves unclaimed pooled cents s.figures) s)

-- Collect "pays what is due [..] and reissues the games left [..] under the next ticket number": the due goes from owed to paid, and the games left to a
-- line more, with the operands and the first game of the old one, so that the same games are free.
abbrev pub reissued_line : Sheet → Line → Line
reissued_line s l =
    record { number = length s.lines + 1; operands = l.operands; first = l.first; left = l.left; due = 0; finishing_day = 0 }

unfoldable pub sheet_collect : ℕ → Sheet → Sheet
sheet_collect n s =
    sheet_with
    (on_line n (λ l. left_with s.today [] (due_with 0 l)) s.lines ++ map (reissued_line s) (keep (λ l. eqb l.number n) s.lines))
    (moves owed paid (total_at n (λ l. l.due) s.lines) s.figures)
    s

-- A game called off: a line with that game left is due "its paid stake for it, all its ways and any feature stake together; a free game gives nothing". Held
-- loses these cents and owed gains them; the game is left no more, and the next is current, without balls.
abbrev pub called_off_line : Sheet → Line → Line
called_off_line s l =
    left_with s.today (keep (λ g. not (eqb g s.game)) l.left) (due_with (l.due + stakes_of l (s.game ∷ [])) l)

unfoldable pub sheet_call_off : Sheet → Sheet
sheet_call_off s =
    game_with (s.game + 1) []
    (sheet_with
    (map (λ l. cond (member s.game l.left) (called_off_line s l) l) s.lines)
    (moves held owed (stakes_played s) s.figures)
    s)

-- ---- a command and its code

unfoldable pub moved : Command → Sheet → Sheet
moved (open' d) s = sheet_open d s
moved (sell o) s = sheet_sell o s
moved (cancel n) s = sheet_cancel n s
moved (ball b) s = sheet_ball b s
moved (claim n) s = sheet_claim n s
moved expire s = sheet_expire s
moved (transfer j cents) s = sheet_transfer j cents s
moved (collect n) s = sheet_collect n s
moved call_off s = sheet_call_off s

unfoldable pub feed : Sheet → Command → ℕ → Sheet
feed s c code = cond (eqb code 0) (moved c s) s

-- "Its answers are those of the table above, from what the sheet itself holds; Expire's number is how many dues it moved."
unfoldable pub sheet_reply : Sheet → Command → Reply
sheet_reply s (open' d) = replies d 0
sheet_reply s (sell o) = replies (length s.lines + 1) (charge_of o)
sheet_reply s (cancel n) = replies n (total_at n (taken_off s) s.lines)
sheet_reply s (ball b) =
    replies (length s.balls + 1) (cond (twentieth s) ((sheet_settlement b s).prizes + (sheet_settlement b s).shares) 0)
sheet_reply s (claim n) = replies n (total_at n (λ l. l.due) s.lines)
sheet_reply s expire = replies (length (late_dues s)) (sum (late_dues s))
sheet_reply s (transfer j cents) = replies j (cond (eqb j 6) s.six.primary s.eight.primary + cents)
sheet_reply s (collect n) = replies (length s.lines + 1) (total_at n (λ l. l.due) s.lines)
sheet_reply s call_off = replies s.game (stakes_played s)
