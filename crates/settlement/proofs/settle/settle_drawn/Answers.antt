-- `settlement::settle::settle_drawn` meets its contract: the table holds first the prizes, then the shares with them, which are the game's awards.
use Prim.Native.Nat.{ℕ, ◌+◌, ◌≤◌}
use native.Mathlib.Omega.{arith}
use mathlib.Core.Path.{◌≡◌, sym, ap, ap₂, subst, ◌∙◌}
use mathlib.Core.List.{List}
use lib.ListN.{length-take}
use lib.Seq.{take_at}
use Rattle.prizes.specs.declared.jackpot.Jackpot.{Jackpot}
use Rattle.prizes.proofs.MajorLaws.{sum_std}
use Rattle.sale.specs.Kinds.{number_of}
use Rattle.settlement.specs.Passing.{full_of}
use Rattle.settlement.specs.Sharing.{stakes_of}
use Rattle.settlement.specs.Drawn.{SharedOut}
use Rattle.settlement.specs.declared.drawn_game.DrawnGame.{DrawnGame}
use Rattle.settlement.specs.declared.figures.GameFigures.{GameFigures}
use Rattle.settlement.specs.declared.shares.Part.{Part}
use Rattle.settlement.proofs.GameLaws.{paid_drawn, parted, prized_count, prizes_total, prizes_fit, six_fit, awards_held}
use Rattle.settlement.proofs.settle.settle_drawn.Goals as goal

-- a jackpot's part, by its number
by_number : {g : DrawnGame} {before : Jackpot} {paid paid' : List ℕ} {r : Part} {j k : ℕ} → j ≡ k → SharedOut g j before paid paid' r → SharedOut g k before paid paid' r
by_number {g} {before} {paid} {paid'} {r} same shared = subst (λ n. SharedOut g n before paid paid' r) same shared

pub find_prizes-requires : goal.find_prizes-requires
find_prizes-requires c =
    let game = c.args.game.now in
    let few : game.live ≤ 200 = game.sold.few in
    record {
      ways = omega (arith, length-take game.live c.args.ways.now);
      paid = omega (arith, length-take game.live c.args.awards.now);
      room = omega (arith, c.requires.room, (parted game c.args.before_six c.args.before_eight).prizes);
    }

pub find_figures-figures-requires : goal.find_figures-figures-requires
find_figures-figures-requires c =
    let prizes = c.find_prizes.new.paid in
    record {
      matches = c.find_prizes.ensures.matches;
      prizes = omega (arith, sum_std prizes, c.requires.room, prizes_total c.args.game.now c.args.before_six c.args.before_eight c.requires.room c.find_prizes.ensures);
    }

pub settle_jackpot-six-requires : goal.settle_jackpot-six-requires
settle_jackpot-six-requires c =
    let game = c.args.game.now in
    let number = ap (λ (f : GameFigures). f.six.jackpot) c.find_figures-figures.ensures in
    record {
      matches = c.find_prizes.ensures.matches;
      stakes = ap (λ (f : GameFigures). f.six) c.find_figures-figures.ensures
          ∙ ap (λ j. stakes_of game.rows.now (full_of c.find_prizes.new.ways) game.game j game.live) (sym number);
      pools = c.requires.six;
      places = prized_count game c.args.before_six c.args.before_eight c.requires.room c.find_prizes.ensures;
      room = λ i b. omega (arith, prizes_fit game c.args.before_six c.args.before_eight c.requires.room c.find_prizes.ensures i b);
    }

pub settle_jackpot-eight-requires : goal.settle_jackpot-eight-requires
settle_jackpot-eight-requires c =
    let game = c.args.game.now in
    let number = ap (λ (f : GameFigures). f.eight.jackpot) c.find_figures-figures.ensures in
    let first = ap (λ (f : GameFigures). number_of f.six.jackpot) c.find_figures-figures.ensures in
    let places = prized_count game c.args.before_six c.args.before_eight c.requires.room c.find_prizes.ensures in
    record {
      matches = c.find_prizes.ensures.matches;
      stakes = ap (λ (f : GameFigures). f.eight) c.find_figures-figures.ensures
          ∙ ap (λ j. stakes_of game.rows.now (full_of c.find_prizes.new.ways) game.game j game.live) (sym number);
      pools = c.requires.eight;
      places = omega (arith, places, c.settle_jackpot-six.auto.paid);
      room = λ i b. omega (arith, six_fit game c.args.before_six c.args.before_eight c.requires.room c.find_prizes.ensures (by_number first c.settle_jackpot-six.ensures) i b);
    }

pub returns : goal.returns
returns c =
    let game = c.args.game.now in
    let told = c.find_figures-figures.ensures in
    let p = parted game c.args.before_six c.args.before_eight in
    let s = by_number (ap (λ (f : GameFigures). number_of f.six.jackpot) told) c.settle_jackpot-six.ensures in
    let e = by_number (ap (λ (f : GameFigures). number_of f.eight.jackpot) told) c.settle_jackpot-eight.ensures in
    let places = prized_count game c.args.before_six c.args.before_eight c.requires.room c.find_prizes.ensures in
    record {
      awards = take_at c.settle_jackpot-eight.new.paid _ game.live (omega (arith, places, c.settle_jackpot-six.auto.paid, c.settle_jackpot-eight.auto.paid))
          ∙ awards_held game c.args.before_six c.args.before_eight c.requires.room c.find_prizes.ensures s e;
      prizes = ap (λ (f : GameFigures). f.prizes) told ∙ prizes_total game c.args.before_six c.args.before_eight c.requires.room c.find_prizes.ensures;
      stakes = ap (λ (f : GameFigures). f.stakes) told ∙ paid_drawn game;
      shares = ap₂ ◌+◌ s.shares e.shares ∙ sym p.shares;
      contributions = ap₂ ◌+◌ s.contributions e.contributions ∙ sym p.contributions;
      seeds = ap₂ ◌+◌ s.seed e.seed ∙ sym p.seeds;
      repaid = ap₂ ◌+◌ s.repaid e.repaid ∙ sym p.repaid;
      six = s.after ∙ sym p.six;
      eight = e.after ∙ sym p.eight;
    }
